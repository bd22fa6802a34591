use Prim.Native.Nat.{◌+◌, ◌-◌}
use Rattle.standing.specs.Standing.{desk}
use Rattle.account.specs.Walk.{end_of}
use Rattle.steps.proofs.VolumeLoopTurns.{Turn}
use Rattle.steps.proofs.volume.read_volume.Given as goal

abbrev pub invariant-loop-pos : goal.invariant-loop-pos
invariant-loop-pos l =
    Turn l.class l.s l.body l.v l.following l.limit (desk l.initial.here l.initial.tally l.initial.symbols l.initial.layers l.initial.serials l.initial.used l.initial.used_all l.initial.marks l.initial.inner l.initial.header l.initial.scratch) l.initial.t l.pos
    (desk l.here l.tally l.symbols l.layers l.serials l.used l.used_all l.marks l.inner l.header l.scratch) l.own l.t l.first l.last_volume

abbrev pub decreases-loop-pos : goal.decreases-loop-pos
decreases-loop-pos l =
    (end_of l.body l.v + 1) - l.pos.at
