use native.Mathlib.Omega.{arith}
use lib.ListN.{length-take}
use borrow.Author.Tests.{not-true, not-false}
use Rattle.account.proofs.PlacedLaws.{placed-six, close-short, close-whole}
use Rattle.elements.proofs.placed.close_placed.Goals as goal

pub slice_bounds-complete-end : goal.slice_bounds-complete-end
slice_bounds-complete-end c = omega (arith, length-take 6 c.args.marks.now, c.requires.0)

pub complete-requires : goal.complete-requires
complete-requires c = omega (arith, length-take 6 c.args.marks.now, c.requires.0, placed-six)

pub returns-then-not-complete : goal.returns-then-not-complete
returns-then-not-complete c = close-short c.args.class c.args.range c.args.here c.args.marks.now _ _ c.both.ensures c.complete.ensures c.args.rec.now _ (not-true _ c.if-not-complete.true-raw)

pub returns : goal.returns
returns c = close-whole c.args.class c.args.range c.args.here c.args.marks.now _ _ c.both.ensures c.complete.ensures c.args.rec.now _ _ (not-false _ c.if-not-complete.false-raw) c.mark_unread.ensures c.figure_done.ensures
