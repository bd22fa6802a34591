use mathlib.Core.Path.{refl, ◌∙◌, ap}
use native.Mathlib.Omega.{arith}
use lib.ListN.{length-take}
use borrow.Author.Tests.{not-true, not-false}
use Rattle.rules.specs.RangeClass.{both}
use Rattle.elements.proofs.WireActs.{wire-ten, counted-long, states-lent, shut-short, shut-whole}
use Rattle.elements.proofs.wires.close_wire.Goals as goal

pub slice_bounds-complete-end : goal.slice_bounds-complete-end
slice_bounds-complete-end c = omega (arith, length-take 10 c.args.marks.now, c.requires.1)

pub complete-requires : goal.complete-requires
complete-requires c = omega (arith, length-take 10 c.args.marks.now, c.requires.1, wire-ten)

pub returns-then-not-complete : goal.returns-then-not-complete
returns-then-not-complete c = shut-short c.args.wires c.args.range c.args.here c.args.marks.now _ _ (c.both.ensures ∙ ap (both c.args.wires) c.digits_of-d.ensures) c.complete.ensures c.args.t.now _ (not-true _ c.if-not-complete.true-raw)

pub returns : goal.returns
returns c = shut-whole c.args.wires c.args.range c.args.here c.args.marks.now _ _ (c.both.ensures ∙ ap (both c.args.wires) c.digits_of-d.ensures) c.complete.ensures c.args.t.now _ _ _ (not-false _ c.if-not-complete.false-raw) c.count_wire.ensures (states-lent c.count_wire.new.t _ refl (counted-long c.args.range c.args.here c.args.t.now _ c.count_wire.ensures c.requires.2) c.args.wires _ c.args.range _ c.digits_of-d.ensures c.mark_states.ensures) c.figure_done.ensures
