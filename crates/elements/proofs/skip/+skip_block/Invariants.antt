use Prim.Native.Nat.{◌+◌, ◌-◌}
use Rattle.account.specs.Walk.{end_of}
use Rattle.account.proofs.SkipRun.{Going}
use Rattle.elements.proofs.skip.+skip_block.Given as goal

abbrev pub decreases-skip_block : goal.decreases-skip_block
decreases-skip_block l = l.left

abbrev pub invariant-loop-did : goal.invariant-loop-did
invariant-loop-did l = Going l.s l.body l.v l.left (record { at = l.initial.at; line = l.initial.line }) (record { at = l.at; line = l.line })

abbrev pub decreases-loop-did : goal.decreases-loop-did
decreases-loop-did l = end_of l.body l.v + 1 - l.at
