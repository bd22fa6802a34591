use lib.ListN.{length}
use Rattle.prints.proofs.Commas.{Goes}
use Rattle.prints.proofs.pieces.pieces.Given as goal

abbrev pub invariant-loop-rest : goal.invariant-loop-rest
invariant-loop-rest l = Goes l.forms l.alike l.c l.initial.out l.out l.left l.n l.rest

abbrev pub decreases-loop-rest : goal.decreases-loop-rest
decreases-loop-rest l = length l.rest
