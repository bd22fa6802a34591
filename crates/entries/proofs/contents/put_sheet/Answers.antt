use mathlib.Core.Path.{◌≡◌, ◌∙◌}
use Rattle.std.proofs.Common.{rules}
use Rattle.std.specs.Prelude.{Some}
use Rattle.rules.specs.Values.{sheets}
use Rattle.entries.proofs.ByKind.{sheet-done}
use Rattle.entries.proofs.contents.put_sheet.Goals as goal

pub returns : goal.returns
returns c =
    let a = c.args in
    let z : Some c.in_ok-z.z ≡ c.sheet.result = search rules in
    sheet-done a.c.now sheets a.rec.now _ a.p c.in_ok-z.z (z ∙ c.sheet.ensures) c.put_two.ensures
