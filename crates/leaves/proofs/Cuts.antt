-- What stands before and behind a byte: as parts of the list, and as the pieces that `split` and `cut` make.
use Prim.Native.Nat.{ℕ, suc, ◌+◌, ◌<◌, ◌≤◌, zero-le, suc-le-suc}
use mathlib.Core.Path.{◌≡◌, refl, ap, ◌∙◌}
use mathlib.Core.List.{List, [], ◌∷◌}
use mathlib.Core.Bool.{true, false, cond}
use native.Mathlib.Numerals.{add-one}
use native.Mathlib.Omega.{arith}
use lib.Dec.{eqb}
use lib.ListN.{length, drop, take}
use Rattle.rules.specs.Base.{whole, parts, cut, onto, split, head_onto}
use Rattle.leaves.specs.Bytes.{up_to, past}

pub up_to-le : (c : ℕ) (s : List ℕ) → length (up_to c s) ≤ length s
unfolding up_to
up_to-le c [] = zero-le
up_to-le c (b ∷ s) = elim (eqb b c) as (λ t. length (cond t [] (b ∷ up_to c s)) ≤ suc (length s)) [ true ↦ zero-le | false ↦ suc-le-suc (up_to-le c s) ]

pub up_to-take : (c : ℕ) (s : List ℕ) → take (length (up_to c s)) s ≡ up_to c s
unfolding up_to
up_to-take c [] = refl
up_to-take c (b ∷ s) = elim (eqb b c) as (λ t. take (length (cond t [] (b ∷ up_to c s))) (b ∷ s) ≡ cond t [] (b ∷ up_to c s)) [ true ↦ refl | false ↦ ap (λ (l : List ℕ). b ∷ l) (up_to-take c s) ]

pub past-drop : (c : ℕ) (s : List ℕ) → length (up_to c s) < length s → past c s ≡ drop (suc (length (up_to c s))) s
unfolding up_to past
past-drop c [] = λ h. refl
past-drop c (b ∷ s) = elim (eqb b c) as (λ t. length (cond t [] (b ∷ up_to c s)) < suc (length s) → cond t s (past c s) ≡ drop (suc (length (cond t [] (b ∷ up_to c s)))) (b ∷ s)) [ true ↦ λ h. refl | false ↦ λ h. past-drop c s (omega arith) ]

-- ── where c does not stand in s ──
pub up_to-none : (c : ℕ) (s : List ℕ) → length s ≤ length (up_to c s) → up_to c s ≡ s
unfolding up_to
up_to-none c [] = λ h. refl
up_to-none c (b ∷ s) = elim (eqb b c) as (λ t. suc (length s) ≤ length (cond t [] (b ∷ up_to c s)) → cond t [] (b ∷ up_to c s) ≡ b ∷ s) [ true ↦ λ h. absurd (omega arith) | false ↦ λ h. ap (λ (l : List ℕ). b ∷ l) (up_to-none c s (omega arith)) ]

pub cut-whole : (c : ℕ) (s : List ℕ) → length s ≤ length (up_to c s) → cut c s ≡ whole
unfolding up_to
cut-whole c [] = λ h. refl
cut-whole c (b ∷ s) = elim (eqb b c) as (λ t. suc (length s) ≤ length (cond t [] (b ∷ up_to c s)) → cond t (parts [] s) (onto b (cut c s)) ≡ whole) [ true ↦ λ h. absurd (omega arith) | false ↦ λ h. ap (onto b) (cut-whole c s (omega arith)) ]

pub split-last : (c : ℕ) (s : List ℕ) → length s ≤ length (up_to c s) → split c s ≡ s ∷ []
unfolding up_to
split-last c [] = λ h. refl
split-last c (b ∷ s) = elim (eqb b c) as (λ t. suc (length s) ≤ length (cond t [] (b ∷ up_to c s)) → cond t ([] ∷ split c s) (head_onto b (split c s)) ≡ (b ∷ s) ∷ []) [ true ↦ λ h. absurd (omega arith) | false ↦ λ h. ap (head_onto b) (split-last c s (omega arith)) ]

-- ── where it does ──
pub cut-two : (c : ℕ) (s : List ℕ) → length (up_to c s) < length s → cut c s ≡ parts (up_to c s) (past c s)
unfolding up_to past
cut-two c [] = λ h. absurd (omega arith)
cut-two c (b ∷ s) = elim (eqb b c) as (λ t. length (cond t [] (b ∷ up_to c s)) < suc (length s) → cond t (parts [] s) (onto b (cut c s)) ≡ parts (cond t [] (b ∷ up_to c s)) (cond t s (past c s))) [ true ↦ λ h. refl | false ↦ λ h. ap (onto b) (cut-two c s (omega arith)) ]

pub split-more : (c : ℕ) (s : List ℕ) → length (up_to c s) < length s → split c s ≡ up_to c s ∷ split c (past c s)
unfolding up_to past
split-more c [] = λ h. absurd (omega arith)
split-more c (b ∷ s) = elim (eqb b c) as (λ t. length (cond t [] (b ∷ up_to c s)) < suc (length s) → cond t ([] ∷ split c s) (head_onto b (split c s)) ≡ cond t [] (b ∷ up_to c s) ∷ split c (cond t s (past c s))) [ true ↦ λ h. refl | false ↦ λ h. ap (head_onto b) (split-more c s (omega arith)) ]

-- ── by the place of c, as code finds it: the first piece, and the pieces behind it ──
module _ (c : ℕ) (s : List ℕ) (e : ℕ) (p : e ≡ length (up_to c s)) where
  pub piece-first : take e s ≡ up_to c s
  piece-first = rw p (up_to-take c s)

  pub piece-more : e < length s → split c s ≡ up_to c s ∷ split c (drop (e + 1) s)
  piece-more h =
      let rest : past c s ≡ drop (e + 1) s = rw (add-one, p) (past-drop c s (rw p at h)) in
      split-more c s (rw p at h) ∙ ap (λ (l : List ℕ). up_to c s ∷ split c l) rest
