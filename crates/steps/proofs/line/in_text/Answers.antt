use native.Mathlib.Omega.{arith}
use Rattle.standing.proofs.StepParts.{tally_9, tally_10, names-fit, ids-fit, names-count, ids-count, names-most, ids-most, lent-long, lends}
use Rattle.steps.proofs.line.in_text.Goals as goal

pub bounds-tally-9 : goal.bounds-tally-9
bounds-tally-9 c = tally_9 c.requires.1

pub overflow_cast-ns : goal.overflow_cast-ns
overflow_cast-ns c = names-fit c.requires.1

pub bounds-tally-10 : goal.bounds-tally-10
bounds-tally-10 c = tally_10 c.requires.1

pub overflow_cast-nl : goal.overflow_cast-nl
overflow_cast-nl c = ids-fit c.requires.1

pub slice_bounds-on_text-end : goal.slice_bounds-on_text-end
slice_bounds-on_text-end c = names-count c.requires.1

pub slice_bounds-on_text-end-2 : goal.slice_bounds-on_text-end-2
slice_bounds-on_text-end-2 c = ids-count c.requires.1

pub slice_bounds-on_text-end-3 : goal.slice_bounds-on_text-end-3
slice_bounds-on_text-end-3 c = omega (arith, c.requires.4)

pub on_text-requires : goal.on_text-requires
on_text-requires c = (c.requires.0, names-most c.requires.1, ids-most c.requires.1, c.requires.2, c.requires.3, lent-long 32 32 c.args.t.now (omega arith) c.requires.4)

pub returns : goal.returns
returns c = lends 32 _ _ _ c.on_text.ensures
