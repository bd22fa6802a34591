-- What callers need of the numbers read: a count of at most w digits is below 10 to w, a decimal within its reach.
use Rattle.std.specs.Prelude.{Option, Some, None}
use Prim.Native.Nat.{ℕ, ◌^◌, ◌<◌}
use mathlib.Core.Path.{◌≡◌, ap, sym, ◌∙◌}
use mathlib.Core.List.{List}
use mathlib.Core.Bool.{Bool, true, false, cond}
use native.Mathlib.Omega.{arith}
use lib.Dec.{leb}
use lib.IntN.{ℤ}
use lib.ListN.{length}
use Rattle.rules.specs.Numbers.{read_count, read_fixed, is_day, is_clock, read_decimal}
use Rattle.leaves.specs.Bytes.{up_to}
use Rattle.leaves.specs.Pieces.{decimal_piece}
use Rattle.leaves.specs.Readings.{reading_of, read_up_to_eight, read_day, read_clock}
use Rattle.leaves.specs.declared.Decimal.{Decimal}
use Rattle.leaves.specs.declared.DecimalPiece.{DecimalPiece}
use Rattle.leaves.proofs.Digits.{OnSome, on-is, run-below, kept-below}
use Rattle.leaves.proofs.Decimals.{in_reach, Reached, decimal_reach}

pub count-below : (w : ℕ) (s : List ℕ) (n : ℕ) → read_count w s ≡ Some n → n < 10 ^ w
count-below w s n e = on-is (λ m. m < 10 ^ w) (read_count w s) n (run-below 1 w s) e

pub fixed-below : (w : ℕ) (s : List ℕ) (n : ℕ) → read_up_to_eight w s ≡ Some n → n < 10 ^ w
fixed-below w s n e = on-is (λ m. m < 10 ^ w) (read_up_to_eight w s) n (go (leb w 8)) e
  where
    go : (t : Bool) → OnSome (λ m. m < 10 ^ w) (cond t (read_fixed w s) None)
    go true = run-below w w s
    go false = tt

pub day-below : (s : List ℕ) (n : ℕ) → read_day s ≡ Some n → n < 10 ^ 8
day-below s n e = on-is (λ m. m < 10 ^ 8) (read_day s) n (kept-below is_day (10 ^ 8) (read_fixed 8 s) (run-below 8 8 s)) e

pub clock-below : (s : List ℕ) (n : ℕ) → read_clock s ≡ Some n → n < 10 ^ 6
clock-below s n e = on-is (λ m. m < 10 ^ 6) (read_clock s) n (kept-below is_clock (10 ^ 6) (read_fixed 6 s) (run-below 6 6 s)) e

pub decimal-within : (s : List ℕ) (d : Decimal) → reading_of (read_decimal s) ≡ Some d → in_reach d.value ≡ true
decimal-within s d e = go (read_decimal s) (decimal_reach s) e
  where
    go : (o : Option ℤ) → Reached o → reading_of o ≡ Some d → in_reach d.value ≡ true
    go None h e = absurd (let z : ◌≡◌ {A = ℕ} 0 1 = cc in omega arith)
    go (Some z) h e = let q : record { value = z } ≡ d = cc in rw (← q) h

-- ── a decimal before a comma, by its two answers ──
module _ (s : List ℕ) (r : DecimalPiece) (e : r ≡ decimal_piece s) where
  pub piece-reading : r.reading ≡ reading_of (read_decimal (up_to 44 s))
  unfolding decimal_piece
  piece-reading = ap (λ (p : DecimalPiece). p.reading) e

  pub piece-end : r.end ≡ length (up_to 44 s)
  unfolding decimal_piece
  piece-end = ap (λ (p : DecimalPiece). p.end) e

  pub piece-within : (d : Decimal) → r.reading ≡ Some d → in_reach d.value ≡ true
  piece-within d h = decimal-within (up_to 44 s) d (sym piece-reading ∙ h)
