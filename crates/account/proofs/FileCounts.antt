-- The numbers of the header kept apart are counts: what a cast makes of one.
use Prim.Native.Nat.{ℕ, zero, suc}
use mathlib.Core.Bool.{true}
use mathlib.Core.List.{List, [], ◌∷◌}
use mathlib.Core.Path.{◌≡◌, refl, sym, subst}
use native.Mathlib.Omega.{arith}
use lib.Dec.{T}
use lib.IntN.{ℤ, pos, negsuc, nat_abs}
use lib.Signed.{non_neg}
use lib.ListN.{get_or}
use borrow.Author.Tests.{ltb-true}
use mir.Syntax.{w32, w64}
use mir.Val.{Fits, SFits, to_z, of_z}
use mir.Facts.{to_z-of_z}
use Rattle.rules.specs.Base.{all}
use Rattle.rules.proofs.Chains.{and_left, and_right, clash}
use Rattle.account.specs.FileLines.{is_count, Header}

count_in : (h : List ℤ) (i : ℕ) → all is_count h ≡ true → is_count (get_or h i (pos 0)) ≡ true
count_in [] i e = refl
count_in (z ∷ h) zero e = and_left (is_count z) (all is_count h) e
count_in (z ∷ h) (suc i) e = count_in h i (and_right (is_count z) (all is_count h) e)

count_fits : (z : ℤ) → is_count z ≡ true → SFits w64 z
count_fits (pos n) e = let l = ltb-true n 4294967296 e in record { sfits = omega (arith, l) }
count_fits (negsuc n) e = clash e refl

plain_cast : (z : ℤ) → is_count z ≡ true → T (non_neg z) × Fits w32 (nat_abs z)
plain_cast (pos n) e = let l = ltb-true n 4294967296 e in (tt, record { fits = omega (arith, l) })
plain_cast (negsuc n) e = clash e refl

-- a count read back from its bits
pub count-back : (z : ℤ) → is_count z ≡ true → to_z w64 (of_z w64 z) ≡ z
count-back z e = to_z-of_z (count_fits z e)

pub count_cast : (z : ℤ) → is_count z ≡ true → T (non_neg (to_z w64 (of_z w64 z))) × Fits w32 (nat_abs (to_z w64 (of_z w64 z)))
count_cast z e = subst (λ (y : ℤ). T (non_neg y) × Fits w32 (nat_abs y)) (sym (count-back z e)) (plain_cast z e)

module _ (h : List ℤ) (g : Header h) (i : ℕ) where
  pub header-count : is_count (get_or h i (pos 0)) ≡ true
  header-count = count_in h i g.counts

  pub header_cast : T (non_neg (to_z w64 (of_z w64 (get_or h i (pos 0))))) × Fits w32 (nat_abs (to_z w64 (of_z w64 (get_or h i (pos 0)))))
  header_cast = count_cast (get_or h i (pos 0)) header-count
