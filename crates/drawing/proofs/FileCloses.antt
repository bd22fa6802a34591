-- FILE_FORMAT's close, by what was tested.
use Prim.Native.Nat.{ℕ}
use mathlib.Core.Bool.{Bool, ◌&&◌}
use mathlib.Core.List.{List, [], ◌∷◌, map}
use mathlib.Core.Path.{◌≡◌, refl, ap}
use lib.IntN.{ℤ}
use lib.Dec.{eqb}
use native.Mathlib.Omega.{arith}
use lib.ListN.{length}
use Rattle.std.specs.List.{list_all, zip}
use Rattle.rules.specs.Base.{same}
use Rattle.rules.specs.Values.{capital}
use Rattle.account.specs.declared.Now.{Now}
use Rattle.account.specs.FileLines.{chained_to}

-- byte by byte, two of one length
pub same_zip : (c name : List ℕ) → length c ≡ length name → same (map capital c) name ≡ list_all (λ p. eqb (capital p.0) p.1) (zip c name)
same_zip [] [] e = refl
same_zip [] (b ∷ name) e = absurd (omega (arith, e))
same_zip (a ∷ c) [] e = absurd (omega (arith, e))
same_zip (a ∷ c) (b ∷ name) e = ap (λ (t : Bool). eqb (capital a) b && t) (same_zip c name (omega (arith, e)))

module _ (s following : List ℕ) (n : Now) (h : List ℤ) (tally₀ tally₁ : List ℕ) where
  abbrev named : Bool
  named = chained_to s following h
