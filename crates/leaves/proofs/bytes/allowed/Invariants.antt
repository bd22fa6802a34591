use Rattle.std.proofs.Common.{◌≡◌, drop, false}
use Rattle.rules.specs.Lines.{allowed_from}
use Rattle.leaves.proofs.bytes.allowed.Given as goal

abbrev pub invariant-loop-b : goal.invariant-loop-b
invariant-loop-b l = allowed_from false l.s ≡ allowed_from l.lead (drop l.b-index l.s)
