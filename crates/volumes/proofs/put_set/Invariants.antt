use Rattle.volumes.proofs.SetLoop.{Going}
use Rattle.volumes.proofs.put_set.Given as goal

abbrev pub invariant-loop-i : goal.invariant-loop-i
invariant-loop-i l = Going l.s l.initial.out l.out l.notes l.at l.i
