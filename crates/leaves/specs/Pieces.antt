-- A decimal before a comma, and what its parts are read as on the way.
use Rattle.std.specs.Prelude.{ℕ, ◌+◌, ◌-◌, ◌<◌, ◌≤◌, ◌≡◌, true, false, cond, List, [], ◌∷◌, eqb, length, get_or, drop, take, Option, Some, None}
use Rattle.rules.specs.Base.{all}
use Rattle.rules.specs.Numbers.{is_digit, value, read_size, read_decimal}
use Rattle.leaves.specs.Bytes.{up_to}
use Rattle.leaves.specs.Readings.{reading_of}
use Rattle.leaves.specs.declared.DecimalPiece.{DecimalPiece}
use Rattle.leaves.specs.declared.pieces.NumberEnd.{NumberEnd}

unfoldable pub decimal_piece : List ℕ → DecimalPiece
decimal_piece s = record { reading = reading_of (read_decimal (up_to 44 s)); end = length (up_to 44 s) }

abbrev pub sign_length : List ℕ → ℕ
sign_length [] = 0
sign_length (b ∷ s) = cond (eqb b 45) 1 0

-- a run: digits from a place on, no more than so many, and their number
pub record DigitsRead (s : List ℕ) (from most : ℕ) (r : NumberEnd) : Type 0 where
  pub start : from ≤ r.end
  pub room : r.end ≤ length s
  pub few : r.end ≤ from + most
  pub digits : all is_digit (take (r.end - from) (drop from s)) ≡ true
  pub number : r.value ≡ value (take (r.end - from) (drop from s))

-- all of it: no digit follows, but where there are as many as may be
pub record RunRead (s : List ℕ) (from most : ℕ) (r : NumberEnd) : Type 0 where
  pub read : DigitsRead s from most r
  pub stop : r.end < from + most → is_digit (get_or s r.end 0) ≡ false

-- a size that ends here, if it is one
abbrev pub size_at : ℕ → Option ℕ → Option NumberEnd
size_at e None = None
size_at e (Some v) = Some (record { value = v; end = e })

-- the size from a place to the next comma
unfoldable pub size_piece : ℕ → List ℕ → Option NumberEnd
size_piece from s = size_at (from + length (up_to 44 (drop from s))) (read_size (up_to 44 (drop from s)))
