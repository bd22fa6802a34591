use Rattle.std.proofs.Common.{◌≡◌, Some, arith}
use Rattle.pens.proofs.RowsNoted.{noted-line}
use Rattle.pens.proofs.noted.put_noted.Goals as goal

pub returns : goal.returns
returns c =
    let found : c.row_at.result ≡ Some c.in_ok-row.row = grind arith in
    noted-line c.args.s.now c.args.table c.args.number c.args.note _ _ _ c.if-note-eq0.false c.row_at.ensures c.in_ok-row.row found c.rest_of.result c.rest_of.ensures _ _ c.put_row.ensures.0 c.put_row.ensures.1
