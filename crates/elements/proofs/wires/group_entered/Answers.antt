use borrow.Author.Tests.{not-true, not-false}
use Rattle.elements.proofs.WireActs.{test-fails, test-holds}
use Rattle.elements.proofs.wires.group_entered.Goals as goal

pub returns-then-not-group_agrees : goal.returns-then-not-group_agrees
returns-then-not-group_agrees c = test-fails _ _ _ _ _ c.group_agrees.ensures (not-true _ c.if-not-group_agrees.true-raw)

pub returns : goal.returns
returns c = test-holds _ _ _ _ _ c.group_agrees.ensures _ (not-false _ c.if-not-group_agrees.false-raw) c.past.ensures c.shelve_group.ensures
