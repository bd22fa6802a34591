use native.Mathlib.Omega.{arith}
use Rattle.standing.proofs.StepParts.{tally_0, tally_9, names-fit, names-count, names-most, lent-long, lends}
use Rattle.steps.proofs.line.in_drawing.Goals as goal

pub bounds-tally-9 : goal.bounds-tally-9
bounds-tally-9 c = tally_9 c.requires.1

pub overflow_cast-ns : goal.overflow_cast-ns
overflow_cast-ns c = names-fit c.requires.1

pub bounds-tally-0 : goal.bounds-tally-0
bounds-tally-0 c = tally_0 c.requires.1

pub slice_bounds-on_drawing-end : goal.slice_bounds-on_drawing-end
slice_bounds-on_drawing-end c = names-count c.requires.1

pub slice_bounds-on_drawing-end-3 : goal.slice_bounds-on_drawing-end-3
slice_bounds-on_drawing-end-3 c = omega (arith, c.requires.3)

pub on_drawing-requires : goal.on_drawing-requires
on_drawing-requires c = (c.requires.0, names-most c.requires.1, omega arith, c.requires.2, lent-long 0 32 c.args.t.now (omega arith) c.requires.3)

pub returns : goal.returns
returns c = lends 0 _ _ _ c.on_drawing.ensures
