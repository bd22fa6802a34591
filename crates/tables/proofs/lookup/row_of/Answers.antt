use Rattle.tables.proofs.Found.{found_first}
use Rattle.tables.proofs.lookup.row_of.Goals as goal

pub returns : goal.returns
returns c = rw c.first_of.ensures (found_first _ _ _ c.rows_of.ensures)
