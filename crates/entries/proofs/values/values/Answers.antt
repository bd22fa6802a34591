use mathlib.Core.Path.{◌≡◌, sym, ◌∙◌}
use mathlib.Core.Bool.{true, false}
use native.Mathlib.Omega.{arith}
use Rattle.std.proofs.Common.{rules}
use lib.ListN.{length}
use Rattle.std.specs.Prelude.{Ok, Err}
use Rattle.rules.specs.Base.{split}
use Rattle.tables.specs.Rows.{across_of}
use Rattle.entries.specs.Names.{known_of}
use Rattle.entries.proofs.EachValue.{covered-last}
use Rattle.entries.proofs.FormsRead.{forms-room, turn-room, forms-covered, values-refused, values_turnless, values-told}
use Rattle.entries.proofs.values.values.Goals as goal

pub each-requires : goal.each-requires
each-requires c =
    let f = c.forms_for-f in
    let a = c.args in
    forms-room a.row f.result (length (split 44 a.c.now)) f.ensures a.p (length a.rec.now) c.requires.1

pub returns-in_err-each : goal.returns-in_err-each
returns-in_err-each c =
    let f = c.forms_for-f in
    let a = c.args in
    let n = c.in_err-each.field-0.0 in
    let e : c.from_residual.result ≡ Err n = search rules in
    let d : c.each.result ≡ Err n = search rules in
    rw (e ∙ sym d) (values-refused (known_of a.known.now) a.row a.c.now f.result f.ensures a.rec.now _ a.p _ c.each.ensures n d)

pub slice_set_of-rec : goal.slice_set_of-rec
slice_set_of-rec c =
    let f = c.forms_for-f in
    let a = c.args in
    omega (arith, turn-room a.row f.result (length (split 44 a.c.now)) f.ensures a.p (length a.rec.now) c.if-f.true c.requires.1)

pub returns-then-f : goal.returns-then-f
returns-then-f c =
    let f = c.forms_for-f in
    let a = c.args in
    let d : c.each.result ≡ Ok tt = search rules in
    values_turnless (known_of a.known.now) a.row a.c.now f.result f.ensures a.rec.now _ a.p _ c.each.ensures c.if-f.true d

pub agree-requires : goal.agree-requires
agree-requires c =
    let f = c.forms_for-f in
    let a = c.args in
    let n = length (split 44 a.c.now) in
    let covers = forms-covered a.row f.result n f.ensures c.if-f.false c.requires.2 in
    omega (arith, covered-last (across_of f.result.across) f.result.more covers, forms-room a.row f.result n f.ensures a.p (length a.rec.now) c.requires.1)

pub returns-then-agree : goal.returns-then-agree
returns-then-agree c =
    let f = c.forms_for-f in
    let a = c.args in
    let d : c.each.result ≡ Ok tt = search rules in
    values-told (known_of a.known.now) a.row a.c.now f.result f.ensures a.rec.now _ a.p _ c.each.ensures true c.if-f.false d c.requires.2 c.requires.1 (sym c.agree.ensures ∙ c.if-agree.true)

pub returns-else-agree : goal.returns-else-agree
returns-else-agree c =
    let f = c.forms_for-f in
    let a = c.args in
    let d : c.each.result ≡ Ok tt = search rules in
    values-told (known_of a.known.now) a.row a.c.now f.result f.ensures a.rec.now _ a.p _ c.each.ensures false c.if-f.false d c.requires.2 c.requires.1 (sym c.agree.ensures ∙ c.if-agree.false)
