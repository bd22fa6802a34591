-- A line with a key of a row: its numbers and state, and what it does.
use Rattle.std.specs.Prelude.{Result, Ok, Err, ⊤}
use Prim.Native.Nat.{ℕ, ◌+◌, ◌<◌, ◌≤◌}
use mathlib.Core.Path.{◌≡◌, refl, ap, sym, ◌∙◌}
use mathlib.Core.Bool.{Bool, true, false, cond, ◌&&◌, not}
use mathlib.Core.List.{List, [], ◌∷◌}
use mathlib.Core.Logic.{◌⊎◌, inl, inr}
use native.Mathlib.Omega.{arith}
use lib.Dec.{leb, ltb}
use lib.IntN.{ℤ, pos}
use lib.ListN.{length, drop, length-take, length-drop}
use lib.Seq.{sets}
use borrow.Author.Tests.{leb-true, ltb-true}
use Rattle.rules.specs.Base.{all, split}
use Rattle.rules.specs.RefusalNumbers.{Got, got, bad, unless, map_g, or_bad, keep, and_then}
use Rattle.rules.specs.Lines.{bytes_at}
use Rattle.rules.specs.Values.{Num, Known, Value, empty, nums, chars, Kind, values, text, word, volume_name, sheet, ratio, serials, wire_serial, symbol_circle, nothing, opens, headed, either, read_kind, read_part, range, read_all, read_wire_serial, read_circle, read_ratio, find_sheet, sheets, agree, byte_in, letters_and_digits}
use Rattle.rules.specs.RecordTable.{numbers, given, columns, put_state}
use Rattle.rules.specs.Rows.{Rule, Act, entry, begin, or_refuse, read_shape, inner_of}
use Rattle.rules.proofs.Chains.{and_left, and_right}
use Rattle.rules.specs.declared.Span.{Span}
use Rattle.entries.specs.Entering.{On, Puts, settled}
use Rattle.entries.specs.Shapes.{shape_in}
use Rattle.entries.specs.Acts.{place_of, put_line, roomy, value_of, Acts, next_for}
use Rattle.entries.specs.declared.Shape.{Shape as Placed}
use Rattle.entries.specs.declared.Shape.TheVariants as P
use Rattle.entries.specs.declared.Next.TheVariants as N
use Rattle.entries.proofs.EachValue.{done-not}
use Rattle.entries.proofs.ByKind.{on-linked_in}

-- ── places ──
module _ (dump n : ℕ) (r : Rule) (h : roomy dump n r ≡ true) where
  behind : (ltb r.state n && settled r.holds) ≡ true
  behind = and_right (leb (place_of r.place dump + columns r.holds) n) (ltb r.state n && settled r.holds) h

  pub room-place : place_of r.place dump + columns r.holds ≤ n
  room-place = leb-true _ _ (and_left (leb (place_of r.place dump + columns r.holds) n) (ltb r.state n && settled r.holds) h)

  pub room-state : r.state < n
  room-state = ltb-true _ _ (and_left (ltb r.state n) (settled r.holds) behind)

  pub room_settled : settled r.holds ≡ true
  room_settled = and_right (ltb r.state n) (settled r.holds) behind

-- ── what content has is given ──
abbrev Given : Got Value → Type 0
Given g = On (λ v. given v ≡ pos 2) g

given-map : {A : Type 0} (f : A → Value) → ((a : A) → given (f a) ≡ pos 2) → (g : Got A) → Given (map_g f g)
given-map f h (got a) = h a
given-map f h (bad n) = tt

given-unless : (t : Bool) (n : ℕ) (v : Value) → given v ≡ pos 2 → Given (unless t n (got v))
given-unless true n v h = h
given-unless false n v h = tt

pub given-kind : (k : Known) (d : Kind) (at : ℕ) (c : List ℕ) → Given (read_kind k d at c)
given-kind k (values p ps a) at c = given-map nums (λ _. refl) (keep 11 (agree a) (read_all k (p ∷ ps) (split 44 c)))
given-kind k (text n b) at c = given-unless (all (byte_in b) c && leb (length c) n) 11 (chars at c) refl
given-kind k (word n b) at c = given-unless (all (byte_in b) c && leb (length c) n) 11 (chars at c) refl
given-kind k volume_name at c = given-unless (all (byte_in letters_and_digits) c) 11 (chars at _) refl
given-kind k sheet at c = given-map nums (λ _. refl) (or_bad 11 (find_sheet c sheets))
given-kind k ratio at c = given-map nums (λ _. refl) (read_ratio c)
given-kind k serials at c = on-linked_in (λ v. given v ≡ pos 2) (λ _ _. refl) c
given-kind k wire_serial at c = given-map nums (λ _. refl) (read_wire_serial (split 44 c))
given-kind k symbol_circle at c = given-map nums (λ _. refl) (read_circle k (split 44 c))
given-kind k nothing at c = tt
given-kind k (opens i) at c = tt
given-kind k (headed i p) at c = given-map (λ (n : Num). nums (n ∷ [])) (λ _. refl) (read_part k p c)
given-kind k (either i) at c = given-map (λ (n : Num). nums (n ∷ [])) (λ _. refl) (read_part k (range 0 1) c)

-- ── the numbers, then the state ──
module _ (g : Got Value) (r : Rule) (dump : ℕ) (t t₁ : List ℤ) (a : Result ⊤ ℕ) (h : Puts g (λ v. sets t (place_of r.place dump) (numbers v)) t₁ a) where
  pub line-bad : (n : ℕ) → a ≡ Err n → Puts g (λ v. put_line r dump v t) t₁ a
  line-bad n e = go g h
    where
      go : (g : Got Value) → Puts g (λ v. sets t (place_of r.place dump) (numbers v)) t₁ a → Puts g (λ v. put_line r dump v t) t₁ a
      go (got v) h = done-not n (sym h.eq ∙ e)
      go (bad m) h = record { eq = h.eq; filled = tt }

  pub line-done : (t₂ : List ℤ) → Given g → a ≡ Ok tt → t₂ ≡ put_state r.state (pos 2) t₁ → Puts g (λ v. put_line r dump v t) t₂ (Ok tt)
  line-done t₂ s d e = go g h s
    where
      go : (g : Got Value) → Puts g (λ v. sets t (place_of r.place dump) (numbers v)) t₁ a → Given g → Puts g (λ v. put_line r dump v t) t₂ (Ok tt)
      go (got v) h s = record { eq = refl; filled = rw s (e ∙ ap (put_state r.state (pos 2)) h.filled) }
      go (bad m) h s = done-not m (sym d ∙ h.eq)

-- ── by the shape ──
shape-put : (f : Value → Act) → ((v : Value) → value_of (f v) ≡ v) → (g : Got Value) (r : Rule) (dump : ℕ) (t t₁ : List ℤ) (a : Result ⊤ ℕ)
    → Puts g (λ v. put_line r dump v t) t₁ a → Puts (map_g f g) (λ b. put_line r dump (value_of b) t) t₁ a
shape-put f e (got v) r dump t t₁ a h = record { eq = h.eq; filled = rw (e v) h.filled }
shape-put f e (bad n) r dump t t₁ a h = record { eq = h.eq; filled = tt }

module _ (k : Known) (j : ℕ) (r : Rule) (dump : ℕ) (t t₁ : List ℤ) (s : List ℕ) where
  -- what a line of a shape puts
  abbrev pub ShapePuts : Placed → Result ⊤ ℕ → Type 0
  ShapePuts x a = Puts (read_shape k j r (shape_in s x)) (λ b. put_line r dump (value_of b) t) t₁ a

  pub content_puts : (x : Placed) (p : Span) → (x ≡ P.Content p) ⊎ (x ≡ P.Opening p) → (a : Result ⊤ ℕ) → Puts (read_kind k r.holds p.at (bytes_at s p)) (λ v. put_line r dump v t) t₁ a → ShapePuts x a
  content_puts x p (inl e) a h = rw e (shape-put (entry j) (λ (v : Value). refl) (read_kind k r.holds p.at (bytes_at s p)) r dump t t₁ a h)
  content_puts x p (inr e) a h = rw e (shape-put (begin (inner_of r.holds) j) (λ (v : Value). refl) (read_kind k r.holds p.at (bytes_at s p)) r dump t t₁ a h)

-- ── what is done ──
module _ (j : ℕ) (r : Rule) (dump : ℕ) (t t₁ : List ℤ) (a : Result ⊤ ℕ) where
  entry-put : (g : Got Value) (full : Bool) → Puts (map_g (entry j) g) (λ b. put_line r dump (value_of b) t) t₁ a → a ≡ Ok tt
      → Acts (λ _. r) dump t (or_refuse (and_then (map_g (entry j) g) λ b. unless (not full) 11 (got b))) t₁ (cond full (N.Refuse 11) (N.Entry j))
  entry-put (bad m) full h d = done-not m (sym d ∙ h.eq)
  entry-put (got v) true h d = record { eq = refl; entered = tt }
  entry-put (got v) false h d = record { eq = refl; entered = h.filled }

  begin-put : (i : ℕ) (g : Got Value) (full : Bool) → Puts (map_g (begin i j) g) (λ b. put_line r dump (value_of b) t) t₁ a → a ≡ Ok tt
      → Acts (λ _. r) dump t (or_refuse (and_then (map_g (begin i j) g) λ b. unless (not full) 11 (got b))) t₁ (cond full (N.Refuse 11) (N.Begin (record { block = i; row = j })))
  begin-put i (bad m) full h d = done-not m (sym d ∙ h.eq)
  begin-put i (got v) true h d = record { eq = refl; entered = tt }
  begin-put i (got v) false h d = record { eq = refl; entered = h.filled }

  pub line-entered : (k : Known) (s : List ℕ) (x : Placed) (full : Bool) → Puts (read_shape k j r (shape_in s x)) (λ b. put_line r dump (value_of b) t) t₁ a → a ≡ Ok tt
      → Acts (λ _. r) dump t (or_refuse (and_then (read_shape k j r (shape_in s x)) λ b. unless (not full) 11 (got b))) t₁ (next_for full j (inner_of r.holds) x)
  line-entered k s P.Opener full h d = begin-put (inner_of r.holds) (got (nums [])) full h d
  line-entered k s P.NoContent full h d = entry-put (got empty) full h d
  line-entered k s (P.Content p) full h d = entry-put (read_kind k r.holds p.at (bytes_at s p)) full h d
  line-entered k s (P.Opening p) full h d = begin-put (inner_of r.holds) (read_kind k r.holds p.at (bytes_at s p)) full h d
  line-entered k s P.Formless full h d = done-not 5 (sym d ∙ h.eq)

  pub line_refused : (g : Got Act) (f : Act → Got Act) (w : Act → List ℤ) (n : ℕ) → Puts g w t₁ a → a ≡ Err n → Acts (λ _. r) dump t (or_refuse (and_then g f)) t₁ (N.Refuse n)
  line_refused (got b) f w n h e = done-not n (sym h.eq ∙ e)
  line_refused (bad m) f w n h e = let q : m ≡ n = refused m n (sym h.eq ∙ e) in rw q (record { eq = refl; entered = tt })
    where
      refused : (m n : ℕ) → ◌≡◌ {A = Result ⊤ ℕ} (Err m) (Err n) → m ≡ n
      refused m n e = cc

-- a part of the spool is no longer than it
pub part-most : (s : List ℕ) (p : Span) (c : List ℕ) → c ≡ bytes_at s p → length s ≤ 61440 → length c ≤ 61440
part-most s p c e h = omega (arith, ap length e, length-take p.len (drop p.at s), length-drop p.at s)
