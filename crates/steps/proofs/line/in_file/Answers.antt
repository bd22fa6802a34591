use Rattle.standing.proofs.StepParts.{tally_9, tally_10, names-fit, ids-fit, names-count, ids-count, names-most, ids-most}
use Rattle.steps.proofs.line.in_file.Goals as goal

pub bounds-tally-9 : goal.bounds-tally-9
bounds-tally-9 c = tally_9 c.requires.1

pub overflow_cast-ns : goal.overflow_cast-ns
overflow_cast-ns c = names-fit c.requires.1

pub bounds-tally-10 : goal.bounds-tally-10
bounds-tally-10 c = tally_10 c.requires.1

pub overflow_cast-nl : goal.overflow_cast-nl
overflow_cast-nl c = ids-fit c.requires.1

pub slice_bounds-on_file-end : goal.slice_bounds-on_file-end
slice_bounds-on_file-end c = names-count c.requires.1

pub slice_bounds-on_file-end-2 : goal.slice_bounds-on_file-end-2
slice_bounds-on_file-end-2 c = ids-count c.requires.1

pub on_file-requires : goal.on_file-requires
on_file-requires c = (c.requires.0, names-most c.requires.1, ids-most c.requires.1, c.requires.2)

pub returns : goal.returns
returns c = c.on_file.ensures
