use mathlib.Core.Path.{◌≡◌, sym, ap, ◌∙◌}
use mathlib.Core.Bool.{true, not}
use Rattle.std.proofs.Common.{rules}
use Rattle.rules.specs.Lines.{has_form}
use Rattle.rules.specs.RefusalNumbers.{got, unless}
use Rattle.rules.specs.Rows.{Act, read_shape}
use Rattle.tables.specs.Rows.{rule_of}
use Rattle.entries.specs.Names.{known_of}
use Rattle.entries.specs.Shapes.{shape_in}
use Rattle.entries.proofs.LineActs.{line-entered, line_refused}
use Rattle.entries.proofs.row_lines.act_shape.Goals as goal

pub returns-in-Err : goal.returns-in-Err
returns-in-Err c =
    let a = c.args in
    let f : has_form (shape_in a.known.now.spool.now a.shape) ≡ true = search rules in
    rw (f, sym c.reaches.ensures ∙ c.if-not-reaches.false, sym c.fits.ensures ∙ c.if-not-fits.false, c.twice.ensures ∙ ap not c.if-twice.false)
    (line_refused a.row.number (rule_of a.row) a.dump a.rec.now _ _ (read_shape (known_of a.known.now) a.row.number (rule_of a.row) (shape_in a.known.now.spool.now a.shape)) (λ (b : Act). unless (not a.full) 11 (got b)) _ c.in-Err.n c.put_shape.ensures c.in-Err.is)

pub returns-in-Ok : goal.returns-in-Ok
returns-in-Ok c =
    let a = c.args in
    let f : has_form (shape_in a.known.now.spool.now a.shape) ≡ true = search rules in
    rw (f, sym c.reaches.ensures ∙ c.if-not-reaches.false, sym c.fits.ensures ∙ c.if-not-fits.false, c.twice.ensures ∙ ap not c.if-twice.false, c.entered.ensures)
    (line-entered a.row.number (rule_of a.row) a.dump a.rec.now _ _ (known_of a.known.now) a.known.now.spool.now a.shape a.full c.put_shape.ensures c.in-Ok.is)
