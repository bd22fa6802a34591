use mathlib.Core.Path.{sym, ◌∙◌}
use Rattle.rules.specs.Lines.{free_shape_of}
use Rattle.entries.specs.Shapes.{rest_in}
use Rattle.drawing.proofs.DrawingSteps.{name-long, name-short, ruled}
use Rattle.drawing.proofs.drawing_format.layer_name.Goals as goal

pub returns-then-not-fits : goal.returns-then-not-fits
returns-then-not-fits c = name-long c.args.s.now (free_shape_of (rest_in c.args.s.now c.args.rest)) _ c.shape_for.ensures _ _ c.in-Content.is c.part-bytes.ensures (sym (ruled c.part-bytes.result.now _ _ c.text_rule-rule.ensures c.fits.ensures) ∙ c.if-not-fits.true)

pub returns-else-not-fits : goal.returns-else-not-fits
returns-else-not-fits c = name-short c.args.s.now (free_shape_of (rest_in c.args.s.now c.args.rest)) _ c.shape_for.ensures _ _ c.in-Content.is c.part-bytes.ensures (sym (ruled c.part-bytes.result.now _ _ c.text_rule-rule.ensures c.fits.ensures) ∙ c.if-not-fits.false)
