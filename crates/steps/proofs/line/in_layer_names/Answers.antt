use native.Mathlib.Omega.{arith}
use Rattle.standing.proofs.StepParts.{lent-long, lends}
use Rattle.steps.proofs.line.in_layer_names.Goals as goal

pub slice_bounds-on_layer_names-end : goal.slice_bounds-on_layer_names-end
slice_bounds-on_layer_names-end c = omega (arith, c.requires.3)

pub on_layer_names-requires : goal.on_layer_names-requires
on_layer_names-requires c = (c.requires.0, c.requires.1.twelve, c.requires.2, omega (arith, c.requires.1.ids, c.requires.2), lent-long 32 32 c.args.t.now (omega arith) c.requires.3, c.requires.4)

pub returns : goal.returns
returns c = (lends 32 _ _ _ c.on_layer_names.ensures, c.on_layer_names.auto.layers)
