use Prim.Native.Nat.{◌+◌, ◌-◌}
use mathlib.Core.Bool.{true}
use lib.ListN.{length}
use Rattle.volumes.proofs.VolumeWalk.{Walk}
use Rattle.volumes.proofs.put_body.Given as goal

abbrev pub invariant-loop-seen : goal.invariant-loop-seen
invariant-loop-seen l = Walk l.s l.body l.start l.first l.initial.out l.pen l.at l.from true l.notes l.out

abbrev pub decreases-loop-seen : goal.decreases-loop-seen
decreases-loop-seen l = l.start + length l.body + 3 - l.at
