use Prim.Native.Nat.{◌-◌}
use lib.ListN.{length}
use Rattle.shows.proofs.Laying.{Laid}
use Rattle.shows.proofs.text.put_line.Given as goal

abbrev pub invariant-loop-i : goal.invariant-loop-i
invariant-loop-i l = Laid l.zs l.initial.out l.out l.at l.i

abbrev pub decreases-loop-i : goal.decreases-loop-i
decreases-loop-i l = length l.zs - l.i
