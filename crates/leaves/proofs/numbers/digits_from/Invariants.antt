use Rattle.std.proofs.Common.{◌≡◌, ◌<◌, ◌^◌, drop}
use Rattle.leaves.specs.Readings.{run_from}
use Rattle.leaves.proofs.numbers.digits_from.Given as goal

abbrev pub invariant-loop-b : goal.invariant-loop-b
invariant-loop-b l = (l.v < 10 ^ l.b-index) × (run_from 0 l.s ≡ run_from l.v (drop l.b-index l.s))
