use Prim.Native.Nat.{◌+◌, ◌-◌}
use Rattle.entries.specs.Names.{known_of}
use Rattle.entries.proofs.EachValue.{Going}
use Rattle.entries.proofs.values.each.Given as goal

abbrev pub invariant-loop-to : goal.invariant-loop-to
invariant-loop-to l = Going (known_of l.known) l.parts l.more l.c l.p l.initial.rec l.codes (l.p + l.more - l.to) l.to l.at l.worst l.rec
