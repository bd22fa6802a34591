-- Pieces between commas: the definitions split as slices do.
use Prim.Native.Nat.{ℕ, suc, ◌+◌, ◌<◌, ◌≤◌}
use mathlib.Core.Path.{◌≡◌, refl, ap, ◌∙◌}
use mathlib.Core.Bool.{Bool, true, false, cond, ◌||◌}
use mathlib.Core.List.{List, [], ◌∷◌}
use native.Mathlib.Omega.{arith}
use lib.Dec.{eqb}
use lib.ListN.{length}
use Rattle.std.specs.List.{list_any, slice_split, onto_first, count_by}
use Rattle.std.proofs.lemmas.List.Splits.{length-slice_split}
use Rattle.rules.specs.Base.{split, head_onto}
use Rattle.leaves.specs.Bytes.{up_to}

onto-is : (b : ℕ) (ss : List (List ℕ)) → head_onto b ss ≡ onto_first b ss
onto-is b [] = refl
onto-is b (s ∷ ss) = refl

pub split-is : (s : List ℕ) → split 44 s ≡ slice_split (λ b. eqb b 44) s
split-is [] = refl
split-is (b ∷ s) = rw (split-is s, onto-is b (slice_split (λ b. eqb b 44) s))

-- one more than the commas
pub split-count : (s : List ℕ) → length (split 44 s) ≡ count_by (λ b. eqb b 44) s + 1
split-count s = ap length (split-is s) ∙ length-slice_split (λ b. eqb b 44) s

-- with a comma there is more than the first piece, without one it is all
some-by : (b t : Bool) (c : ℕ) (s u : List ℕ) → (b || t) ≡ true → (t ≡ true → length u < length s) → length (cond b [] (c ∷ u)) < suc (length s)
some-by true t c s u e h = omega arith
some-by false t c s u e h = let k = h e in omega (arith, k)

pub comma-some : (s : List ℕ) → list_any (λ b. eqb b 44) s ≡ true → length (up_to 44 s) < length s
unfolding up_to
comma-some [] e = absurd (let q : ◌≡◌ {A = ℕ} 0 1 = cc in omega arith)
comma-some (b ∷ s) e = some-by (eqb b 44) (list_any (λ b. eqb b 44) s) b s (up_to 44 s) e (comma-some s)

none-by : (b t : Bool) (c : ℕ) (s u : List ℕ) → (b || t) ≡ false → (t ≡ false → length s ≤ length u) → suc (length s) ≤ length (cond b [] (c ∷ u))
none-by true t c s u e h = absurd (let q : ◌≡◌ {A = ℕ} 0 1 = cc in omega arith)
none-by false t c s u e h = let k = h e in omega (arith, k)

pub comma-none : (s : List ℕ) → list_any (λ b. eqb b 44) s ≡ false → length s ≤ length (up_to 44 s)
unfolding up_to
comma-none [] e = omega arith
comma-none (b ∷ s) e = none-by (eqb b 44) (list_any (λ b. eqb b 44) s) b s (up_to 44 s) e (comma-none s)
