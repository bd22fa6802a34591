use Rattle.standing.proofs.StepParts.{tally_9, tally_10, names-fit, ids-fit, names-count, ids-count, names-most, ids-few}
use Rattle.steps.proofs.line.in_elements.Goals as goal

pub bounds-tally-9 : goal.bounds-tally-9
bounds-tally-9 c = tally_9 c.requires.1

pub overflow_cast-ns : goal.overflow_cast-ns
overflow_cast-ns c = names-fit c.requires.1

pub bounds-tally-10 : goal.bounds-tally-10
bounds-tally-10 c = tally_10 c.requires.1

pub overflow_cast-nl : goal.overflow_cast-nl
overflow_cast-nl c = ids-fit c.requires.1

pub slice_bounds-on_elements-end : goal.slice_bounds-on_elements-end
slice_bounds-on_elements-end c = names-count c.requires.1

pub slice_bounds-on_elements-end-2 : goal.slice_bounds-on_elements-end-2
slice_bounds-on_elements-end-2 c = ids-count c.requires.1

pub on_elements-requires : goal.on_elements-requires
on_elements-requires c = (c.requires.0, names-most c.requires.1, ids-few c.requires.1, c.requires.1.twelve, c.requires.2, c.requires.3, c.requires.4)

pub returns : goal.returns
returns c = c.on_elements.ensures
