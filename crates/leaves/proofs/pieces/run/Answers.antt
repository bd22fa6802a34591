use Rattle.std.proofs.Common.{arith, rules}
use Rattle.leaves.proofs.Commas.{run-next, run_small}
use Rattle.leaves.proofs.pieces.run.Goals as goal

pub overflow_mul-v : goal.overflow_mul-v
overflow_mul-v c = omega (arith, run_small _ _ _ _ _ c.loop-i.invariant c.requires.1)

pub overflow_add-v : goal.overflow_add-v
overflow_add-v c = omega (arith, run_small _ _ _ _ _ c.loop-i.invariant c.requires.1)

pub loop-i-preserved : goal.loop-i-preserved
loop-i-preserved c = run-next _ _ _ _ _ c.loop-i.invariant (omega arith) (omega arith) (search rules)
