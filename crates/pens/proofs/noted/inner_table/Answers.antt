use Rattle.pens.proofs.RowsNoted.{inner-shut, inner_open}
use Rattle.pens.proofs.noted.inner_table.Goals as goal

pub returns-in-Some : goal.returns-in-Some
returns-in-Some c = inner_open c.args.s.now c.args.table c.args.number c.args.note _ _ _ c.if-note-eq0.false c.row_at.ensures c.in-Some.row c.in-Some.is c.rest_of.result c.rest_of.ensures _ _ c.opens.ensures c.if-opens.true _ c.part_table.ensures

pub returns-in_default : goal.returns-in_default
returns-in_default c = inner-shut c.args.s.now c.args.table c.args.number c.args.note _ _ _ c.if-note-eq0.false c.row_at.ensures c.in-Some.row c.in-Some.is c.rest_of.result c.rest_of.ensures _ _ c.opens.ensures c.if-opens.false
