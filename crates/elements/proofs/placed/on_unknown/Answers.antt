use mathlib.Core.Bool.{Bool, cond}
use mathlib.Core.Path.{sym, ◌∙◌, ap}
use Rattle.rules.specs.Lines.{form_in}
use Rattle.entries.specs.Shapes.{rest_in}
use Rattle.account.specs.SkippedLines.{skipped_by}
use Rattle.account.specs.PlacedLines.{skip_step, not_here}
use Rattle.account.proofs.PlacedLaws.{unknown-skipped}
use Rattle.elements.proofs.placed.on_unknown.Goals as goal

pub returns-in-Passes : goal.returns-in-Passes
returns-in-Passes c =
    let a = c.args in
    unknown-skipped a.class a.range a.here (skipped_by (form_in a.s.now a.form)) (rest_in a.s.now a.rest) _ c.exceeds.ensures _ _ c.if-exceeds.true c.skip_line.ensures c.in-Passes.is

pub returns-in-Deeper : goal.returns-in-Deeper
returns-in-Deeper c =
    let a = c.args in
    unknown-skipped a.class a.range a.here (skipped_by (form_in a.s.now a.form)) (rest_in a.s.now a.rest) _ c.exceeds.ensures _ _ c.if-exceeds.true c.skip_line.ensures c.in-Deeper.is

pub returns-in-Shut : goal.returns-in-Shut
returns-in-Shut c =
    let a = c.args in
    unknown-skipped a.class a.range a.here (skipped_by (form_in a.s.now a.form)) (rest_in a.s.now a.rest) _ c.exceeds.ensures _ _ c.if-exceeds.true c.skip_line.ensures c.in-Shut.is

pub returns-in-Refuse : goal.returns-in-Refuse
returns-in-Refuse c =
    let a = c.args in
    unknown-skipped a.class a.range a.here (skipped_by (form_in a.s.now a.form)) (rest_in a.s.now a.rest) _ c.exceeds.ensures _ _ c.if-exceeds.true c.skip_line.ensures c.in-Refuse.is

pub returns : goal.returns
returns c =
    let a = c.args in
    c.not_here.ensures ∙ ap (λ (b : Bool). cond b (skip_step a.here (skipped_by (form_in a.s.now a.form))) (not_here (rest_in a.s.now a.rest))) (sym c.if-exceeds.false ∙ c.exceeds.ensures)
