use mathlib.Core.Path.{sym, ◌∙◌, ap}
use Rattle.rules.specs.Lines.{bytes_at}
use Rattle.rules.specs.Values.{is_layer_id}
use Rattle.entries.specs.Shapes.{rest_in}
use Rattle.drawing.proofs.DrawingSteps.{layer-twice, layer_takes, looked-for}
use Rattle.drawing.proofs.drawing_format.layer_line.Goals as goal

pub returns-then-is_some : goal.returns-then-is_some
returns-then-is_some c =
    let id = ap is_layer_id (sym c.part.ensures) ∙ sym c.is_layer_id.ensures ∙ c.if-not-is_layer_id.false in
    let found = sym (looked-for c.args.s.now _ (bytes_at c.args.s.now c.args.key) _ _ c.index_of.ensures c.part-2.ensures) ∙ sym c.is_some.ensures ∙ c.if-is_some.true in
    layer-twice c.args.s.now c.args.here c.args.at (bytes_at c.args.s.now c.args.key) (rest_in c.args.s.now c.args.rest) c.args.tally.now c.args.layers.now c.args.rec.now id _ (sym c.in-Ok.is ∙ c.layer_name.ensures) _ _ _ c.if-count-ge-MOST_LAYERS.false found

pub returns : goal.returns
returns c =
    let id = ap is_layer_id (sym c.part.ensures) ∙ sym c.is_layer_id.ensures ∙ c.if-not-is_layer_id.false in
    let found = sym (looked-for c.args.s.now _ (bytes_at c.args.s.now c.args.key) _ _ c.index_of.ensures c.part-2.ensures) ∙ sym c.is_some.ensures ∙ c.if-is_some.false in
    layer_takes c.args.s.now c.args.here c.args.at (bytes_at c.args.s.now c.args.key) (rest_in c.args.s.now c.args.rest) c.args.tally.now c.args.layers.now c.args.rec.now id _ (sym c.in-Ok.is ∙ c.layer_name.ensures) _ _ _ _ c.if-count-ge-MOST_LAYERS.false found c.take_layer.ensures
