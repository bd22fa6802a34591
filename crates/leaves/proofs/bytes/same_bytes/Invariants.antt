use Rattle.std.proofs.Common.{◌≡◌, drop}
use Rattle.rules.specs.Base.{same}
use Rattle.leaves.proofs.bytes.same_bytes.Given as goal

abbrev pub invariant-loop-i : goal.invariant-loop-i
invariant-loop-i l = same l.a l.b ≡ same (drop l.i l.a) (drop l.i l.b)
