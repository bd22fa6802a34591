use mathlib.Core.Path.{◌≡◌, sym, ◌∙◌}
use Rattle.std.proofs.Common.{rules}
use Rattle.std.specs.Prelude.{Ok, Err}
use Rattle.tables.specs.Rows.{rule_of}
use Rattle.entries.specs.Names.{known_of}
use Rattle.entries.proofs.LineActs.{content_puts}
use Rattle.entries.proofs.row_lines.put_shape.Goals as goal

pub returns-in_err-put_content-in-Content : goal.returns-in_err-put_content-in-Content
returns-in_err-put_content-in-Content c =
    let a = c.args in
    let n = c.in_err-put_content-in-Content.field-0.0 in
    let e : c.from_residual.result ≡ Err n = search rules in
    let d : c.put_content.result ≡ Err n = search rules in
    rw (e ∙ sym d)
    (content_puts (known_of a.known.now) a.row.number (rule_of a.row) a.dump a.rec.now _ a.known.now.spool.now a.shape c.in-Content.p c.in-Content.is _ c.put_content.ensures)

pub returns-in_ok-put_content-in-Content : goal.returns-in_ok-put_content-in-Content
returns-in_ok-put_content-in-Content c =
    let a = c.args in
    let d : c.put_content.result ≡ Ok tt = search rules in
    rw (sym d)
    (content_puts (known_of a.known.now) a.row.number (rule_of a.row) a.dump a.rec.now _ a.known.now.spool.now a.shape c.in-Content.p c.in-Content.is _ c.put_content.ensures)
