use Rattle.std.proofs.Common.{arith, refl}
use Rattle.rules.specs.Figures.{text_table}
use Rattle.tables.specs.Tables.{table_of}
use Rattle.worked.proofs.in_text.Goals as goal

pub act-next-requires : goal.act-next-requires
unfolding table_of text_table
act-next-requires g c = (c.requires, omega arith, omega arith, refl, refl)
