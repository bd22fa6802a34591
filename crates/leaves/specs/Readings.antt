-- Numbers as the leaves answer them, and the readings of digits that the definitions are made of.
use Rattle.std.specs.Prelude.{ℕ, Bool, true, false, cond, List, leb, ℤ, pos, Option, Some, None}
use Rattle.rules.specs.Base.{all}
use Rattle.rules.specs.Numbers.{is_digit, digit_run, value_from, value, read_fixed, is_day, is_clock, minus}
use Rattle.leaves.specs.declared.Decimal.{Decimal}

abbrev pub reading_of : Option ℤ → Option Decimal
reading_of None = None
reading_of (Some z) = Some (record { value = z })

-- lo to hi digits: `read_count w` is the run from 1 to w, `read_fixed w` that from w to w
abbrev pub read_run : ℕ → ℕ → List ℕ → Option ℕ
read_run lo hi s = cond (digit_run lo hi s) (Some (value s)) None

-- any number of digits, behind the digits of v
unfoldable pub run_from : ℕ → List ℕ → Option ℕ
run_from v s = cond (all is_digit s) (Some (value_from v s)) None

-- exactly w digits, for w up to eight; nothing for a greater w
abbrev pub read_up_to_eight : ℕ → List ℕ → Option ℕ
read_up_to_eight w s = cond (leb w 8) (read_fixed w s) None

-- a number that a test holds of
abbrev pub kept : (ℕ → Bool) → Option ℕ → Option ℕ
kept p None = None
kept p (Some n) = cond (p n) (Some n) None

abbrev pub read_day : List ℕ → Option ℕ
read_day s = kept is_day (read_fixed 8 s)

abbrev pub read_clock : List ℕ → Option ℕ
read_clock s = kept is_clock (read_fixed 6 s)

-- a size with its sign; true: a `-` stood before it
abbrev pub sign_of : Bool → ℕ → ℤ
sign_of true n = minus n
sign_of false n = pos n
