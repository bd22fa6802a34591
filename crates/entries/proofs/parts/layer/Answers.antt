use mathlib.Core.Path.{ap, sym, ◌∙◌}
use Rattle.entries.specs.Parts.{index_val}
use Rattle.entries.specs.Names.{names_in}
use Rattle.entries.proofs.OneValue.{index-val}
use Rattle.entries.proofs.parts.layer.Goals as goal

pub returns-then-is_layer_id : goal.returns-then-is_layer_id
returns-then-is_layer_id c =
    let a = c.args in
    rw (sym c.is_layer_id.ensures ∙ c.if-is_layer_id.true) (c.numbered.ensures ∙ ap (index_val 14) c.index_of.ensures ∙ index-val 14 a.c.now (names_in a.known.now.spool.now a.known.now.layers.now))
