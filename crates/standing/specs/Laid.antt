-- A lent table that holds these records, and zeros behind them.
use Rattle.std.specs.Prelude.{ℕ, ◌*◌, ◌≡◌, List, ◌++◌, ℤ, pos, length, replicate}
use Rattle.rules.specs.Base.{flat}
use Rattle.rules.specs.RecordTable.{width}

-- w: the place of the next record
pub record Laid (t : List ℤ) (rs : List (List ℤ)) (w : ℕ) : Type 0 where
  pub rest : ℕ  -- how many numbers are left
  pub eq : t ≡ flat rs ++ replicate rest (pos 0)
  pub size : length (flat rs) ≡ w
  pub many : width * length rs ≡ w
