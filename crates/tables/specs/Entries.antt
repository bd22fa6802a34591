-- The tables as the code has them: each row with its key.
use Rattle.std.specs.Prelude.{ℕ, suc, List, [], ◌∷◌, map}
use Rattle.rules.specs.Rows.{Rule}
use Rattle.tables.specs.declared.rows.Entry.{Entry}
use Rattle.tables.specs.Rows.{rule_of, for_line}

-- a key, its number and what its line goes by
pub record Line : Type 0 where
  pub key : List ℕ
  pub number : ℕ
  pub rule : Rule

abbrev pub listed : List Entry → List Line
listed es = map (λ e. record { key = e.key.now; number = e.row.number; rule = rule_of e.row }) es

-- a table's rows, counted from n on
abbrev pub numbered : ℕ → List Rule → List Line
numbered n [] = []
numbered n (r ∷ rs) = record { key = r.key; number = n; rule = for_line r } ∷ numbered (suc n) rs
