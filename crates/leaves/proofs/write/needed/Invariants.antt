use Rattle.std.proofs.Common.{◌≡◌, take}
use Rattle.rules.specs.Numbers.{trim_end}
use Rattle.leaves.proofs.write.needed.Given as goal

abbrev pub invariant-loop-i : goal.invariant-loop-i
invariant-loop-i l = trim_end (take l.i l.s) ≡ trim_end l.s
