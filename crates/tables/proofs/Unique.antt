-- The public function of this crate (as `Unique` in leaves has it): whatever two answers keep its contract mean the same row. Their numbers
-- may differ where the row's kind doesn't use them.
use Rattle.std.specs.Prelude.{Option}
use Prim.Native.Nat.{ℕ}
use mathlib.Core.List.{List}
use mathlib.Core.Path.{◌≡◌, sym, ◌∙◌}
use Rattle.rules.specs.Rows.{find}
use Rattle.leaves.proofs.Unique.{One}
use Rattle.tables.specs.Rows.{found_of, found_for_line}
use Rattle.tables.specs.Tables.{table_of}
use Rattle.tables.proofs.lookup.row_of as row-of'
use Rattle.tables.specs.declared.Row.{Row}

pub row_of_unique : (table : ℕ) (k : List ℕ) (r₁ r₂ : Option Row) → found_for_line (find k (table_of table)) ≡ found_of r₁ → found_for_line (find k (table_of table)) ≡ found_of r₂ → found_of r₁ ≡ found_of r₂
row_of_unique table k r₁ r₂ c₁ c₂ = sym c₁ ∙ c₂

row_of-code : One row-of'.Kinds.ps row-of'.Kinds.r row-of'.Reads.Learnt (λ κs r e. found_of r)
row_of-code κs x r₁ r₂ e₁ e₂ = row_of_unique x.0 x.1.0.now r₁ r₂
