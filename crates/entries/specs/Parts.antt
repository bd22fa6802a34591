-- One value between commas, as the code answers it.
use Rattle.std.specs.Prelude.{ℕ, ◌≡◌, Bool, cond, List, eqb, ℤ, pos, length, Option, Some, None, Result, Ok, Err}
use Rattle.rules.specs.RefusalNumbers.{Got, got, bad}
use Rattle.rules.specs.Values.{Num, Known, in_bound, equal_z, whole_turn, read_part}
use Rattle.leaves.specs.Bytes.{up_to}
use Rattle.tables.specs.Numbering.{part_no_angle, part_whole_turn}
use Rattle.tables.specs.Rows.{bound_of, part_of}
use Rattle.entries.specs.declared.Piece.{Piece}
use Rattle.leaves.specs.declared.Decimal.{Decimal}

abbrev pub val_of : Got Num → Result ℤ ℕ
val_of (got n) = Ok n.value
val_of (bad n) = Err n

-- a number that was read as digits, with a test that it must keep and that test's number
abbrev pub count_val : (ℕ → Bool) → ℕ → Option ℕ → Result ℤ ℕ
count_val p m None = Err 10
count_val p m (Some n) = cond (p n) (Ok (pos n)) (Err m)

-- the same of a decimal
abbrev pub reading_val : (ℤ → Bool) → ℕ → Option Decimal → Result ℤ ℕ
reading_val p m None = Err 10
reading_val p m (Some d) = cond (p d.value) (Ok d.value) (Err m)

-- by its form's number
abbrev pub decimal_val : ℕ → Option Decimal → Result ℤ ℕ
decimal_val n r =
    cond (eqb n part_no_angle) (reading_val (equal_z (pos 0)) 10 r)
    (cond (eqb n part_whole_turn) (reading_val (equal_z (pos whole_turn)) 10 r) (reading_val (in_bound (bound_of n)) 11 r))

abbrev pub index_val : ℕ → Option ℕ → Result ℤ ℕ
index_val m None = Err m
index_val m (Some i) = Ok (pos i)

-- the value of the piece in front, and where that piece ends
pub record PieceIs (k : Known) (code : ℕ) (c : List ℕ) (r : Piece) : Type 0 where
  pub val : r.val ≡ val_of (read_part k (part_of code) (up_to 44 c))
  pub end : r.end ≡ length (up_to 44 c)
