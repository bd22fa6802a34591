use Rattle.leaves.specs.Pieces.{DigitsRead}
use Rattle.leaves.proofs.pieces.run.Given as goal

abbrev pub invariant-loop-i : goal.invariant-loop-i
invariant-loop-i l = DigitsRead l.s l.at l.most (record { value = l.v; end = l.i })
