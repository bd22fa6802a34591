use lib.ListN.{length}
use Rattle.rules.specs.Lines.{bytes_at}
use Rattle.rules.specs.Rows.{find}
use Rattle.rules.specs.RecordTable.{rule_at}
use Rattle.tables.specs.Tables.{table_of}
use Rattle.entries.specs.Names.{known_of}
use Rattle.entries.specs.Shapes.{rest_in}
use Rattle.entries.proofs.TableActs.{no_row, unknown-acts, row_room, row-acts}
use Rattle.entries.proofs.acts.act_key.Goals as goal

pub row_line-requires : goal.row_line-requires
row_line-requires c =
    let a = c.args in
    let e = rw (c.in-Some.is, c.part.ensures) at c.row_of.ensures in
    row_room (table_of a.table) (bytes_at a.known.now.spool.now a.key) c.in-Some.row e a.dump (length a.rec.now) c.requires

pub returns-in-None : goal.returns-in-None
returns-in-None c =
    let a = c.args in
    let e = rw (c.in-None.is, c.part.ensures) at c.row_of.ensures in
    rw (no_row (find (bytes_at a.known.now.spool.now a.key) (table_of a.table)) e) (unknown-acts (rule_at (table_of a.table)) a.dump a.rec.now _ (rest_in a.known.now.spool.now a.rest) _ c.unknown.ensures)

pub returns-in-Some : goal.returns-in-Some
returns-in-Some c =
    let a = c.args in
    let e = rw (c.in-Some.is, c.part.ensures) at c.row_of.ensures in
    row-acts (table_of a.table) (bytes_at a.known.now.spool.now a.key) c.in-Some.row e (known_of c.args.known.now) a.d a.full.now (rest_in a.known.now.spool.now a.rest) a.dump a.rec.now _ _ _ c.mark-had.ensures c.row_line.ensures
