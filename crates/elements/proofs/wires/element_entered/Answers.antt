use borrow.Author.Tests.{not-true, not-false}
use Rattle.elements.proofs.WireActs.{test-fails, test-holds}
use Rattle.elements.proofs.wires.element_entered.Goals as goal

pub returns-then-not-join_holds : goal.returns-then-not-join_holds
returns-then-not-join_holds c = test-fails _ _ _ _ _ c.join_holds.ensures (not-true _ c.if-not-join_holds.true-raw)

pub returns : goal.returns
returns c = test-holds _ _ _ _ _ c.join_holds.ensures _ (not-false _ c.if-not-join_holds.false-raw) c.more_points.ensures c.put_element.ensures
