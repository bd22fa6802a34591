-- Content that ends in `:{`.
use Rattle.std.specs.Prelude.{Option, Some, None}
use Prim.Native.Nat.{ℕ, suc, ◌+◌, ◌-◌, ◌<◌, ◌≤◌}
use mathlib.Core.Bool.{Bool, true, false, cond, ◌&&◌}
use mathlib.Core.List.{List, [], ◌∷◌}
use mathlib.Core.Path.{◌≡◌, refl, sym, ◌∙◌, ap}
use native.Mathlib.Omega.{arith}
use lib.Dec.{eqb}
use native.Mathlib.Nat.{le_of_eq}
use lib.ListN.{length, take, drop, length-drop}
use lib.Seq.{take_all}
use Rattle.rules.specs.declared.Equation.{Equation}
use Rattle.rules.specs.Base.{bytes, same, map_o, is_some}
use Rattle.rules.specs.Lines.{stem, equals, by_stem, shape_of, bytes_at}
use Rattle.rules.specs.RangeClass.{skip_shape, skip_of}
use Rattle.rules.proofs.Chains.{clash, none-some, map-some, and_false}
use Rattle.account.specs.declared.Skipped.{Skipped}
use Rattle.account.specs.declared.Skipped.TheVariants as S
use Rattle.account.specs.SkippedLines.{skipped_as, skip_content}

map-is-some : (b : ℕ) (o : Option (List ℕ)) → is_some (map_o (λ t. b ∷ t) o) ≡ is_some o
map-is-some b None = refl
map-is-some b (Some t) = refl

-- one byte
one_byte : (b : ℕ) → stem (b ∷ []) ≡ None
one_byte b = rw (and_false (eqb b 58))

pub too_short : (c : List ℕ) → length c < 2 → is_some (stem c) ≡ false
too_short [] h = refl
too_short (b ∷ []) h = ap is_some (one_byte b)
too_short (b ∷ d ∷ c) h = absurd (omega arith)

two_bytes : (b d : ℕ) → is_some (stem (b ∷ d ∷ [])) ≡ same (b ∷ d ∷ []) (bytes ":{")
two_bytes b d = go (same (b ∷ d ∷ []) (bytes ":{")) (stem (d ∷ [])) (one_byte d)
  where
    go : (t : Bool) (o : Option (List ℕ)) → o ≡ None → is_some (cond t (Some []) (map_o (λ u. b ∷ u) o)) ≡ t
    go true o e = refl
    go false o e = map-is-some b o ∙ ap is_some e

-- more than two are not these two
longer : (b d e : ℕ) (c : List ℕ) → same (b ∷ d ∷ e ∷ c) (bytes ":{") ≡ false
longer b d e c = ap (λ (t : Bool). eqb b 58 && t) (and_false (eqb d 123)) ∙ and_false (eqb b 58)

ends : (c : List ℕ) → 2 ≤ length c → is_some (stem c) ≡ same (drop (length c - 2) c) (bytes ":{")
ends [] h = absurd (omega arith)
ends (b ∷ []) h = absurd (omega arith)
ends (b ∷ d ∷ []) h = two_bytes b d
ends (b ∷ d ∷ e ∷ c) h =
    let z : suc (length (d ∷ e ∷ c) - 2) ≡ length (b ∷ d ∷ e ∷ c) - 2 = omega arith in
    ap (λ (t : Bool). is_some (cond t (Some []) (map_o (λ u. b ∷ u) (stem (d ∷ e ∷ c))))) (longer b d e c)
    ∙ map-is-some b (stem (d ∷ e ∷ c))
    ∙ ends (d ∷ e ∷ c) (omega arith)
    ∙ ap (λ (n : ℕ). same (drop n (b ∷ d ∷ e ∷ c)) (bytes ":{")) z

pub last-two : (c : List ℕ) → 2 ≤ length c → is_some (stem c) ≡ same (take (length c - (length c - 2)) (drop (length c - 2) c)) (bytes ":{")
last-two c h =
    ends c h ∙ ap (λ (u : List ℕ). same u (bytes ":{")) (sym (take_all (length c - (length c - 2)) (drop (length c - 2) c) (le_of_eq (length-drop (length c - 2) c))))

-- ── what is left without the two ──
stem-length : (c t : List ℕ) → stem c ≡ Some t → length c ≡ length t + 2
stem-length [] t e = none-some e
stem-length (b ∷ c) t e = go (same (b ∷ c) (bytes ":{")) refl (λ u q. stem-length c u q) e
  where
    two : (x y : List ℕ) → same x y ≡ true → length x ≡ length y
    two [] [] q = refl
    two [] (a ∷ y) q = clash q refl
    two (a ∷ x) [] q = clash q refl
    two (a ∷ x) (z ∷ y) q = go (eqb a z) (λ w. two x y w) q
      where
        go : (f : Bool) → (same x y ≡ true → length x ≡ length y) → (f && same x y) ≡ true → length (a ∷ x) ≡ length (z ∷ y)
        go true ih q = ap suc (ih q)
        go false ih q = clash q refl

    go : (f : Bool) → same (b ∷ c) (bytes ":{") ≡ f → ((u : List ℕ) → stem c ≡ Some u → length c ≡ length u + 2)
        → cond f (Some []) (map_o (λ u. b ∷ u) (stem c)) ≡ Some t → length (b ∷ c) ≡ length t + 2
    go true q ih e = let n = two (b ∷ c) (bytes ":{") q in let z : [] ≡ t = cc in let l = ap length z in omega arith
    go false q ih e =
        let (u, p, z) = map-some (λ u. b ∷ u) (stem c) t e in
        let m = ih u p in
        let l = ap length z in
        omega arith

module _ (at : ℕ) where
  pub anywhere : (c : List ℕ) → skip_content c ≡ skipped_as (skip_shape (shape_of (equals at c)))
  unfolding skip_content
  anywhere [] = refl
  anywhere (b ∷ c) = go (stem (b ∷ c))
    where
      go : (o : Option (List ℕ)) → skipped_as (skip_shape (by_stem 0 (b ∷ c) o)) ≡ skipped_as (skip_shape (by_stem at (b ∷ c) o))
      go None = refl
      go (Some []) = refl
      go (Some (d ∷ t)) = refl

pub content-passes : (c : List ℕ) → is_some (stem c) ≡ false → skip_content c ≡ S.Passes
unfolding skip_content
content-passes [] h = refl
content-passes (b ∷ c) h = go (stem (b ∷ c)) h
  where
    go : (o : Option (List ℕ)) → is_some o ≡ false → skipped_as (skip_shape (by_stem 0 (b ∷ c) o)) ≡ S.Passes
    go None h = refl
    go (Some t) h = clash refl h

pub content-formless : (c : List ℕ) → is_some (stem c) ≡ true → length c ≡ 2 → skip_content c ≡ S.Refuse 5
unfolding skip_content
content-formless [] h l = clash h refl
content-formless (b ∷ c) h l = go (stem (b ∷ c)) refl h
  where
    go : (o : Option (List ℕ)) → stem (b ∷ c) ≡ o → is_some o ≡ true → skipped_as (skip_shape (by_stem 0 (b ∷ c) o)) ≡ S.Refuse 5
    go None e h = clash h refl
    go (Some []) e h = refl
    go (Some (d ∷ t)) e h = let n = stem-length (b ∷ c) (d ∷ t) e in absurd (omega arith)

pub content-opens : (c : List ℕ) → is_some (stem c) ≡ true → (length c ≡ 2 → ⊥) → skip_content c ≡ S.Deeper
unfolding skip_content
content-opens [] h l = clash h refl
content-opens (b ∷ c) h l = go (stem (b ∷ c)) refl h
  where
    go : (o : Option (List ℕ)) → stem (b ∷ c) ≡ o → is_some o ≡ true → skipped_as (skip_shape (by_stem 0 (b ∷ c) o)) ≡ S.Deeper
    go None e h = clash h refl
    go (Some []) e h = absurd (l (stem-length (b ∷ c) [] e))
    go (Some (d ∷ t)) e h = refl

-- ── behind `=` ──
module _ (s : List ℕ) (q : Equation) where
  abbrev told : Skipped
  told = skipped_as (skip_of (bytes_at s q.key) (equals q.rest.at (bytes_at s q.rest)))

  pub free : same (bytes_at s q.key) (bytes "character") ≡ true → told ≡ S.Passes
  free h = rw h

  pub not_free : same (bytes_at s q.key) (bytes "character") ≡ false → told ≡ skip_content (bytes_at s q.rest)
  not_free h = rw h (sym (anywhere q.rest.at (bytes_at s q.rest)))
