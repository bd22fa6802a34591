-- What a line with a key is: content that opens, by its last two bytes; the form that a row asks for.
use Rattle.std.specs.Prelude.{Option, Some, None}
use Rattle.std.specs.List.{ends_with}
use Prim.Native.Nat.{ℕ, suc, ◌-◌, ◌/◌, ◌%◌, ◌≤◌}
use mathlib.Core.Path.{◌≡◌, refl, ap, sym, ◌∙◌}
use mathlib.Core.Bool.{Bool, true, false, cond, ◌&&◌, not}
use mathlib.Core.List.{List, [], ◌∷◌}
use native.Mathlib.Omega.{arith}
use lib.Dec.{eqb}
use lib.ListN.{length, take, drop, length-take}
use lib.Seq.{take-take}
use borrow.Author.Tests.{eqb-true, eq-eqb, ne_eqb, eqb_apart}
use Rattle.rules.specs.Base.{bytes, map_o, same}
use Rattle.rules.specs.Lines.{equals, content, opening, by_stem, stem, bytes_at, has_form}
use Rattle.rules.specs.Values.{Kind, values, text, word, volume_name, sheet, ratio, serials, wire_serial, symbol_circle, nothing, opens, headed, either, is_free}
use Rattle.rules.specs.declared.Span.{Span}
use Rattle.rules.proofs.Chains.{and_false, by_cond}
use Rattle.leaves.specs.Bytes.{bytes_of}
use Rattle.leaves.proofs.Scan.{and_truth}
use Rattle.tables.specs.Rows.{kind_of, values_of, part_of, parts_of, across_of}
use Rattle.tables.specs.declared.Row.{Row}
use Rattle.entries.specs.Shapes.{shape_in, shape_by, sort_of}
use Rattle.entries.specs.declared.Shape.{Shape as Placed}
use Rattle.entries.specs.declared.Shape.TheVariants as P

-- ── the last two bytes ──
abbrev stem_by : Bool → List ℕ → Option (List ℕ)
stem_by t c = cond t (Some (take (length c - 2) c)) None

one_byte : (b : ℕ) → stem (b ∷ []) ≡ None
one_byte b = rw (and_false (eqb b 58))

no-two : (b d f : ℕ) (s : List ℕ) → same (b ∷ d ∷ f ∷ s) (bytes ":{") ≡ false
no-two b d f s = rw (and_false (eqb d 123), and_false (eqb b 58))

turned : (a b : ℕ) → eqb a b ≡ eqb b a
turned a b = go (eqb a b) refl
  where
    go : (t : Bool) → eqb a b ≡ t → t ≡ eqb b a
    go true e = sym (eq-eqb b a (sym (eqb-true a b e)))
    go false e = sym (ne_eqb b a (λ h. eqb_apart a b e (sym h)))

ends_two : (b d : ℕ) → ends_with eqb (b ∷ d ∷ []) (bytes ":{") ≡ (eqb b 58 && eqb d 123)
ends_two b d = rw (turned 58 b, turned 123 d, and_truth (eqb d 123))

onto-by : (t : Bool) (b : ℕ) (s : List ℕ) → 2 ≤ length s → map_o (λ u. b ∷ u) (stem_by t s) ≡ stem_by t (b ∷ s)
onto-by false b s h = refl
onto-by true b s h = let e : suc (length s) - 2 ≡ suc (length s - 2) = omega arith in rw e

abbrev pub opens_block : List ℕ → Bool
opens_block c = ends_with eqb c (bytes ":{")

stem-two : (b d : ℕ) → stem (b ∷ d ∷ []) ≡ stem_by (opens_block (b ∷ d ∷ [])) (b ∷ d ∷ [])
stem-two b d = rw (one_byte d, and_truth (eqb d 123), ends_two b d)

ends_on : (b d f : ℕ) (s : List ℕ) → opens_block (b ∷ d ∷ f ∷ s) ≡ opens_block (d ∷ f ∷ s)
ends_on b d f s =
    let a : suc (suc (suc (length s))) - 2 ≡ suc (suc (suc (length s)) - 2) = omega arith in
    rw a

pub stem-is : (c : List ℕ) → stem c ≡ stem_by (opens_block c) c
stem-is [] = refl
stem-is (b ∷ []) = rw (one_byte b, and_false (eqb 58 b))
stem-is (b ∷ d ∷ []) = stem-two b d
stem-is (b ∷ d ∷ f ∷ s) =
    rw (no-two b d f s, ends_on b d f s)
    (ap (map_o (λ (u : List ℕ). b ∷ u)) (stem-is (d ∷ f ∷ s)) ∙ onto-by (opens_block (d ∷ f ∷ s)) b (d ∷ f ∷ s) (omega arith))

-- ── the shapes ──
module _ (at : ℕ) where
  pub shape_free : (free : Bool) (c : List ℕ) → (length c ≡ 0 → ⊥) → free ≡ true → content at c ≡ shape_by free (equals at c)
  shape_free free [] h e = absurd (h refl)
  shape_free free (b ∷ c) h e = rw e

  pub shape-plain : (free : Bool) (c : List ℕ) → (length c ≡ 0 → ⊥) → free ≡ false → opens_block c ≡ false → content at c ≡ shape_by free (equals at c)
  shape-plain free [] h e n = absurd (h refl)
  shape-plain free (b ∷ c) h e n = sym (rw e (ap (by_stem at (b ∷ c)) (stem-is (b ∷ c) ∙ ap (λ (t : Bool). stem_by t (b ∷ c)) n)))

  pub shape-opening : (free : Bool) (c : List ℕ) → (length c ≡ 0 → ⊥) → (length c ≡ 2 → ⊥) → free ≡ false → opens_block c ≡ true → opening at (take (length c - 2) c) ≡ shape_by free (equals at c)
  shape-opening free [] h k e n = absurd (h refl)
  shape-opening free (b ∷ []) h k e n = absurd (let z : ◌≡◌ {A = Bool} false true = sym (and_false (eqb 58 b)) ∙ n in let q : ◌≡◌ {A = ℕ} 0 1 = cc in omega arith)
  shape-opening free (b ∷ d ∷ []) h k e n = absurd (k refl)
  shape-opening free (b ∷ d ∷ f ∷ c) h k e n =
      let z : suc (suc (suc (length c))) - 2 ≡ suc (length c) = omega arith in
      sym (rw e (ap (by_stem at (b ∷ d ∷ f ∷ c)) (stem-is (b ∷ d ∷ f ∷ c) ∙ ap (λ (t : Bool). stem_by t (b ∷ d ∷ f ∷ c)) n) ∙ rw z))

-- by places: the content without its `:{` is a part of the spool
module _ (s : List ℕ) (p : Span) where
  pub part-long : length (bytes_at s p) ≤ p.len
  part-long = omega (arith, length-take p.len (drop p.at s))

  pub part-stem : take (length (bytes_at s p) - 2) (drop p.at s) ≡ take (length (bytes_at s p) - 2) (bytes_at s p)
  part-stem = sym (take-take (length (bytes_at s p) - 2) p.len (drop p.at s) (omega (arith, part-long)))

-- ── which of the five it is ──
by-placed : (Q : Placed → Type 0) → Q P.Opener → Q P.NoContent → ((p : Span) → Q (P.Content p)) → ((p : Span) → Q (P.Opening p)) → Q P.Formless → (x : Placed) → Q x
by-placed Q o n c b f P.Opener = o
by-placed Q o n c b f P.NoContent = n
by-placed Q o n c b f (P.Content p) = c p
by-placed Q o n c b f (P.Opening p) = b p
by-placed Q o n c b f P.Formless = f

module _ (s : List ℕ) where
  pub form-by : (x : Placed) → has_form (shape_in s x) ≡ not (eqb (sort_of x) 4)
  form-by = by-placed (λ x. has_form (shape_in s x) ≡ not (eqb (sort_of x) 4)) refl refl (λ _. refl) (λ _. refl) refl

-- ── rows by their kind ──
-- the kinds but free text
abbrev rest_of : Row → Kind
rest_of r =
    cond (eqb r.kind 2) (word r.most (bytes_of r.set))
    (cond (eqb r.kind 3) volume_name
    (cond (eqb r.kind 4) sheet
    (cond (eqb r.kind 5) ratio
    (cond (eqb r.kind 6) serials
    (cond (eqb r.kind 7) nothing
    (cond (eqb r.kind 8) (opens r.inner)
    (cond (eqb r.kind 9) (headed r.inner (part_of r.parts))
    (cond (eqb r.kind 10) (either r.inner)
    (cond (eqb r.kind 11) wire_serial
    (values_of r))))))))))

by-rest : (P : Kind → Type 0) (r : Row) → P (word r.most (bytes_of r.set)) → P volume_name → P sheet → P ratio → P serials → (eqb r.kind 7 ≡ true → P nothing)
    → (eqb r.kind 8 ≡ true → P (opens r.inner)) → (eqb r.kind 9 ≡ true → P (headed r.inner (part_of r.parts))) → (eqb r.kind 10 ≡ true → P (either r.inner))
    → P wire_serial → P symbol_circle → P (values (part_of (r.parts % 100)) (parts_of r.count (r.parts / 100)) (across_of r.across)) → P (rest_of r)
by-rest P r w v s q l n o h e x y z =
    by_cond P (eqb r.kind 2) (λ _. w) λ _.
    by_cond P (eqb r.kind 3) (λ _. v) λ _.
    by_cond P (eqb r.kind 4) (λ _. s) λ _.
    by_cond P (eqb r.kind 5) (λ _. q) λ _.
    by_cond P (eqb r.kind 6) (λ _. l) λ _.
    by_cond P (eqb r.kind 7) n λ _.
    by_cond P (eqb r.kind 8) o λ _.
    by_cond P (eqb r.kind 9) h λ _.
    by_cond P (eqb r.kind 10) e λ _.
    by_cond P (eqb r.kind 11) (λ _. x) λ _.
    by_cond P (eqb r.kind 12) (λ _. y) λ _. z

rest-free : (r : Row) → is_free (rest_of r) ≡ false
rest-free r = by-rest (λ k. is_free k ≡ false) r refl refl refl refl refl (λ _. refl) (λ _. refl) (λ _. refl) (λ _. refl) refl refl refl

pub free-is : (r : Row) → eqb r.kind 1 ≡ is_free (kind_of r)
free-is r = go (eqb r.kind 1) (rest_of r) (rest-free r)
  where
    go : (t : Bool) (k : Kind) → is_free k ≡ false → t ≡ is_free (cond t (text r.most (bytes_of r.set)) k)
    go true k h = refl
    go false k h = sym h
