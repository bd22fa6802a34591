use native.Mathlib.Omega.{arith}
use Rattle.standing.proofs.StepParts.{tally_9, tally_10, names-fit, ids-fit, names-count, ids-count, names-most, ids-most, lent-long, lends}
use Rattle.steps.proofs.line.in_hide.Goals as goal

pub bounds-tally-9 : goal.bounds-tally-9
bounds-tally-9 c = tally_9 c.requires.1

pub overflow_cast-ns : goal.overflow_cast-ns
overflow_cast-ns c = names-fit c.requires.1

pub bounds-tally-10 : goal.bounds-tally-10
bounds-tally-10 c = tally_10 c.requires.1

pub overflow_cast-nl : goal.overflow_cast-nl
overflow_cast-nl c = ids-fit c.requires.1

pub slice_bounds-on_hide-end : goal.slice_bounds-on_hide-end
slice_bounds-on_hide-end c = names-count c.requires.1

pub slice_bounds-on_hide-end-2 : goal.slice_bounds-on_hide-end-2
slice_bounds-on_hide-end-2 c = ids-count c.requires.1

pub slice_bounds-on_hide-end-3 : goal.slice_bounds-on_hide-end-3
slice_bounds-on_hide-end-3 c = omega (arith, c.requires.3)

pub on_hide-requires : goal.on_hide-requires
on_hide-requires c = (c.requires.0, names-most c.requires.1, ids-most c.requires.1, c.requires.2, c.requires.4, lent-long 32 32 c.args.t.now (omega arith) c.requires.3)

pub returns : goal.returns
returns c = lends 32 _ _ _ c.on_hide.ensures
