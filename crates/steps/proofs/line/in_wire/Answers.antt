use Rattle.standing.proofs.StepParts.{names-count, ids-count, names-most, ids-most}
use Rattle.steps.proofs.line.in_wire.Goals as goal

pub slice_bounds-on_wire-end : goal.slice_bounds-on_wire-end
slice_bounds-on_wire-end c = names-count c.requires.1

pub slice_bounds-on_wire-end-2 : goal.slice_bounds-on_wire-end-2
slice_bounds-on_wire-end-2 c = ids-count c.requires.1

pub on_wire-requires : goal.on_wire-requires
on_wire-requires c = (c.requires.0, names-most c.requires.1, ids-most c.requires.1, c.requires.2)
