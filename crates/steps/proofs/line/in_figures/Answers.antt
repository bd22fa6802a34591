use native.Mathlib.Omega.{arith}
use Rattle.standing.proofs.StepParts.{names-count, ids-count, names-most, ids-most, lent-long, lends, count_asks, figures-back}
use Rattle.steps.proofs.line.in_figures.Goals as goal

pub slice_bounds-on_figures-end : goal.slice_bounds-on_figures-end
slice_bounds-on_figures-end c = names-count c.requires.1

pub slice_bounds-on_figures-end-2 : goal.slice_bounds-on_figures-end-2
slice_bounds-on_figures-end-2 c = ids-count c.requires.1

pub on_figures-did-requires : goal.on_figures-did-requires
on_figures-did-requires c = (c.requires.0, names-most c.requires.1, ids-most c.requires.1, omega (arith, c.requires.2), c.requires.4, lent-long 32 32 c.args.t.now (omega arith) c.requires.3)

pub layer_counted-requires : goal.layer_counted-requires
layer_counted-requires c = count_asks c.on_figures-did.ensures c.args.x.class c.begin_wire-r.result c.begin_wire-r.ensures.0 c.args.tally.now c.requires.1.twelve c.requires.2

pub returns : goal.returns
returns c = figures-back _ _ _ _ _ _ _ _ _ _ _ _ _ _ _ _ _ _ _ (lends 32 _ _ _ c.on_figures-did.ensures) c.begin_wire-r.ensures c.layer_counted.ensures
