-- Signed numbers of 64 bits: a decimal's size, and its negation, as the machine reads them back.
use Prim.Native.Nat.{ℕ, zero, suc, ◌<◌}
use mathlib.Core.Path.{◌≡◌, refl, ap, ◌∙◌}
use native.Mathlib.Omega.{arith}
use lib.IntN.{ℤ, pos, negsuc, neg_ℤ, ◌-ℤ◌, ◌+ℤ◌, +ℤ_idl, +ℤ_one}
use lib.Signed.{mag, lt_z}
use mathlib.Core.Bool.{true, false}
use mathlib.Core.List.{◌∷◌}
use borrow.Author.Tests.{ltb-true}
use mir.Syntax.{w64}
use mir.Val.{SFits, to_z, of_z}
use mir.Facts.{to_z-of_z}
use Rattle.rules.specs.Numbers.{minus, show_size, show_decimal}

pub minus_neg : (v : ℕ) → neg_ℤ (pos v) ≡ minus v
minus_neg zero = refl
minus_neg (suc v) = refl

pub fits_pos : (v : ℕ) → v < 100000000000 → SFits w64 (pos v)
fits_pos v h = record { sfits = omega arith }

pub fits-minus : (v : ℕ) → v < 100000000000 → SFits w64 (minus v)
fits-minus zero h = record { sfits = omega arith }
fits-minus (suc v) h = record { sfits = omega arith }

pub pos-back : (v : ℕ) → v < 100000000000 → to_z w64 v ≡ pos v
pos-back v h = to_z-of_z {w = w64} {z = pos v} (fits_pos v h)

-- `-(v as i64)`
pub sub_is : (v : ℕ) → v < 100000000000 → pos 0 -ℤ to_z w64 v ≡ minus v
sub_is v h = ap (λ (z : ℤ). pos 0 -ℤ z) (pos-back v h) ∙ +ℤ_idl (neg_ℤ (pos v)) ∙ minus_neg v

pub minus-back : (v : ℕ) → v < 100000000000 → to_z w64 (of_z w64 (pos 0 -ℤ to_z w64 v)) ≡ minus v
minus-back v h = ap (λ (z : ℤ). to_z w64 (of_z w64 z)) (sub_is v h) ∙ to_z-of_z (fits-minus v h)

-- ── the size of a number below zero: `-(z + 1)`, and one more ──
one_more : (n : ℕ) → negsuc n +ℤ pos 1 ≡ minus n
one_more zero = refl
one_more (suc n) = +ℤ_one (negsuc (suc n))

turned : (n : ℕ) → pos 0 -ℤ minus n ≡ pos n
turned zero = refl
turned (suc n) = +ℤ_idl (pos (suc n))

minus-fits : (n : ℕ) → SFits w64 (negsuc n) → SFits w64 (minus n)
minus-fits zero f = record { sfits = omega arith }
minus-fits (suc n) f = record { sfits = omega (arith, f.sfits) }

pub record Below (z : ℤ) : Type 0 where
  pub more : SFits w64 (z +ℤ pos 1)
  pub size : pos 0 -ℤ (z +ℤ pos 1) ≡ pos (mag z)
  pub small : mag z < 9223372036854775808
  pub shown : show_decimal z ≡ 45 ∷ show_size (suc (mag z))

pub below : (z : ℤ) → SFits w64 z → lt_z z (pos 0) ≡ true → Below z
below (pos n) f e = absurd (let h = ltb-true n 0 e in omega arith)
below (negsuc n) f e = record {
  more = rw (one_more n) (minus-fits n f);
  size = rw (one_more n) (turned n);
  small = f.sfits;
  shown = refl;
}

-- as the machine comes to it
module _ (z : ℤ) (f : SFits w64 z) (b : Below z) where
  pub more-fits : SFits w64 (to_z w64 (of_z w64 z) +ℤ pos 1)
  more-fits = rw (to_z-of_z f) b.more

  pub turned-is : pos 0 -ℤ to_z w64 (of_z w64 (to_z w64 (of_z w64 z) +ℤ pos 1)) ≡ pos (mag z)
  turned-is = rw (to_z-of_z f, to_z-of_z b.more) b.size

  size_fits : SFits w64 (pos (mag z))
  size_fits = record { sfits = b.small }

  pub turned-fits : SFits w64 (pos 0 -ℤ to_z w64 (of_z w64 (to_z w64 (of_z w64 z) +ℤ pos 1)))
  turned-fits = rw turned-is size_fits

  pub turned-back : to_z w64 (of_z w64 (pos 0 -ℤ to_z w64 (of_z w64 (to_z w64 (of_z w64 z) +ℤ pos 1)))) ≡ pos (mag z)
  turned-back = ap (λ (k : ℤ). to_z w64 (of_z w64 k)) turned-is ∙ to_z-of_z size_fits

pub record NotBelow (z : ℤ) : Type 0 where
  pub same : z ≡ pos (mag z)
  pub small : mag z < 9223372036854775808
  pub shown : show_decimal z ≡ show_size (mag z)

pub not-below : (z : ℤ) → SFits w64 z → lt_z z (pos 0) ≡ false → NotBelow z
not-below (pos n) f e = record { same = refl; small = f.sfits; shown = refl }
not-below (negsuc n) f e = absurd (let q : ◌≡◌ {A = ℕ} 0 1 = cc in omega arith)

pub not-below-back : (z : ℤ) → SFits w64 z → NotBelow z → to_z w64 (of_z w64 z) ≡ pos (mag z)
not-below-back z f b = to_z-of_z f ∙ b.same
