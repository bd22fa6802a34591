use mathlib.Core.Path.{◌∙◌}
use native.Mathlib.Omega.{arith}
use Rattle.standing.proofs.StepParts.{tally_2, tally_9, tally_10, names-fit, ids-fit, names-count, ids-count, names-most, ids-most, lent-long, kept_asks, symbol-keeps}
use Rattle.steps.proofs.line.in_symbol.Goals as goal

pub bounds-tally-9 : goal.bounds-tally-9
bounds-tally-9 c = tally_9 c.requires.1

pub overflow_cast-ns : goal.overflow_cast-ns
overflow_cast-ns c = names-fit c.requires.1

pub bounds-tally-10 : goal.bounds-tally-10
bounds-tally-10 c = tally_10 c.requires.1

pub overflow_cast-nl : goal.overflow_cast-nl
overflow_cast-nl c = ids-fit c.requires.1

pub bounds-tally-2 : goal.bounds-tally-2
bounds-tally-2 c = tally_2 c.requires.1

pub slice_bounds-on_symbol-end : goal.slice_bounds-on_symbol-end
slice_bounds-on_symbol-end c = c.requires.1.names

pub slice_bounds-on_symbol-end-2 : goal.slice_bounds-on_symbol-end-2
slice_bounds-on_symbol-end-2 c = names-count c.requires.1

pub slice_bounds-on_symbol-end-3 : goal.slice_bounds-on_symbol-end-3
slice_bounds-on_symbol-end-3 c = ids-count c.requires.1

pub slice_bounds-on_symbol-end-4 : goal.slice_bounds-on_symbol-end-4
slice_bounds-on_symbol-end-4 c = omega (arith, c.requires.4)

pub on_symbol-r-requires : goal.on_symbol-r-requires
on_symbol-r-requires c = (c.requires.0, names-most c.requires.1, ids-most c.requires.1, c.requires.3.marks, lent-long 0 32 c.args.t.now (omega arith) c.requires.4, c.requires.3.content)

pub name_kept-requires : goal.name_kept-requires
name_kept-requires c = kept_asks _ _ _ _ _ _ c.requires.1 c.requires.2 _ _ c.requires.3 c.on_symbol-r.new.marks c.on_symbol-r.new.rec c.on_symbol-r.result c.on_symbol-r.ensures (c.on_symbol-r.auto.rec ∙ lent-long 0 32 c.args.t.now (omega arith) c.requires.4)

pub returns : goal.returns
returns c = symbol-keeps _ _ _ _ _ _ c.requires.1 c.requires.2 _ _ c.requires.3 c.on_symbol-r.new.marks c.on_symbol-r.new.rec c.on_symbol-r.result c.on_symbol-r.ensures (c.on_symbol-r.auto.rec ∙ lent-long 0 32 c.args.t.now (omega arith) c.requires.4) c.name_kept.new.tally c.name_kept.new.symbols c.name_kept.result c.name_kept.ensures
