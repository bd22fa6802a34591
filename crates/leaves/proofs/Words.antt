-- Bytes compared four and eight at once: equal numbers are equal bytes, and two parts that cover two lists make them equal.
use Prim.Native.Nat.{ℕ, ◌+◌, ◌-◌, ◌<◌, ◌≤◌}
use mathlib.Core.Path.{◌≡◌, refl, sym, ◌∙◌, ap, ap₂}
use mathlib.Core.List.{List, [], ◌∷◌, ◌++◌}
use mathlib.Core.Bool.{Bool, true, false}
use native.Mathlib.Omega.{arith}
use lib.Dec.{eqb}
use lib.ListN.{length, get_or, drop, take, take-append-drop}
use lib.Seq.{take_all, take-take, take-add, drop-drop}
use borrow.Author.Tests.{eqb-true, eqb-false}
use Rattle.rules.specs.Base.{same}
use Rattle.rules.proofs.Chains.{same_refl, same-eq}
use Rattle.leaves.specs.Bytes.{half, word}
use Rattle.leaves.proofs.Scan.{at, rest_all}

-- every number of the list is a byte
abbrev pub Fit : List ℕ → Type 0
Fit s = (i : ℕ) → get_or s i 0 < 256

pub half-small : (s : List ℕ) (i : ℕ) → Fit s → half s i < 4294967296
half-small s i f = omega (arith, f i, f (i + 1), f (i + 2), f (i + 3))

four : (s : List ℕ) (i : ℕ) → i + 4 ≤ length s → take 4 (drop i s) ≡ get_or s i 0 ∷ get_or s (i + 1) 0 ∷ get_or s (i + 2) 0 ∷ get_or s (i + 3) 0 ∷ []
four s i h =
    let two : i + 1 + 1 ≡ i + 2 = omega arith in
    let three : i + 2 + 1 ≡ i + 3 = omega arith in
    rw (at s i (omega arith), at s (i + 1) (omega arith), two, at s (i + 2) (omega arith), three, at s (i + 3) (omega arith))

-- ── equal numbers: the highest byte first, as then the rest is too small to differ by it ──
module _ (a b : List ℕ) (f : Fit a) (g : Fit b) (e : length a ≡ length b) where
  pub half-same : (i : ℕ) → i + 4 ≤ length a → half a i ≡ half b i → take 4 (drop i a) ≡ take 4 (drop i b)
  half-same i h q =
      let p₃ : get_or a (i + 3) 0 ≡ get_or b (i + 3) 0 = omega (arith, f i, g i, f (i + 1), g (i + 1), f (i + 2), g (i + 2)) in
      let p₂ : get_or a (i + 2) 0 ≡ get_or b (i + 2) 0 = omega (arith, f i, g i, f (i + 1), g (i + 1)) in
      let p₁ : get_or a (i + 1) 0 ≡ get_or b (i + 1) 0 = omega (arith, f i, g i) in
      let p₀ : get_or a i 0 ≡ get_or b i 0 = omega arith in
      rw (four a i h, four b i (omega arith), p₀, p₁, p₂, p₃)

  pub word_same : (i : ℕ) → i + 8 ≤ length a → word a i ≡ word b i → take 8 (drop i a) ≡ take 8 (drop i b)
  word_same i h q =
      let r : half a (i + 4) ≡ half b (i + 4) = omega (arith, half-small a i f, half-small b i g) in
      let p : half a i ≡ half b i = omega arith in
      rw (take-add 4 4 (drop i a), take-add 4 4 (drop i b), drop-drop 4 i a, drop-drop 4 i b, half-same i (omega arith) p, half-same (i + 4) (omega arith) r)

-- ── parts that agree ──
-- one more part that agrees
pub further : (a b : List ℕ) (i n : ℕ) → take i a ≡ take i b → take n (drop i a) ≡ take n (drop i b) → take (i + n) a ≡ take (i + n) b
further a b i n p q = take-add i n a ∙ ap₂ ◌++◌ p q ∙ sym (take-add i n b)

-- the first i and the last n cover the lists
pub covered : (a b : List ℕ) (i n last : ℕ) → length a ≡ length b → last ≤ i → last + n ≡ length a → take i a ≡ take i b → take n (drop last a) ≡ take n (drop last b) → a ≡ b
covered a b i n last e h w p q =
    let start : take last a ≡ take last b = sym (take-take last i a h) ∙ ap (take last) p ∙ take-take last i b h in
    sym (take_all (last + n) a (omega arith)) ∙ further a b last n start q ∙ take_all (last + n) b (omega arith)

-- ── what the comparison answers ──
pub same_yes : (a b : List ℕ) → a ≡ b → true ≡ same a b
same_yes a b e = sym (rw e (same_refl b))

-- lists that differ in anything are not the same
pub same_no : (a b : List ℕ) (f : List ℕ → ℕ) → (f a ≡ f b → ⊥) → false ≡ same a b
same_no a b f h = go (same a b) refl
  where
    go : (t : Bool) → same a b ≡ t → false ≡ same a b
    go true p = absurd (h (ap f (same-eq a b p)))
    go false p = sym p

-- where the first n agree, the lists are the same if the rests are
pub same-behind : (a b : List ℕ) (n : ℕ) → take n a ≡ take n b → same (take (length a - n) (drop n a)) (take (length b - n) (drop n b)) ≡ same a b
same-behind a b n p = ap₂ same (rest_all n a) (rest_all n b) ∙ go (same (drop n a) (drop n b)) refl (same a b) refl
  where
    go : (t : Bool) → same (drop n a) (drop n b) ≡ t → (u : Bool) → same a b ≡ u → t ≡ same a b
    go true q u w = same_yes a b (sym (take-append-drop n a) ∙ ap₂ ◌++◌ p (same-eq (drop n a) (drop n b) q) ∙ take-append-drop n b)
    go false q true w = sym q ∙ ap (λ (s : List ℕ). same (drop n a) (drop n s)) (sym (same-eq a b w)) ∙ same_refl (drop n a) ∙ sym w
    go false q false w = sym w

-- a number of each list that is equal only if the lists are
pub same_by : (a b : List ℕ) (f : List ℕ → ℕ) → (f a ≡ f b → a ≡ b) → eqb (f a) (f b) ≡ same a b
same_by a b f h = go (eqb (f a) (f b)) refl
  where
    go : (t : Bool) → eqb (f a) (f b) ≡ t → t ≡ same a b
    go true p = same_yes a b (h (eqb-true (f a) (f b) p))
    go false p = same_no a b f (eqb-false (f a) (f b) p)
