use Rattle.std.proofs.Common.{◌≡◌, length, ◌+◌, ◌≤◌}
use Rattle.entries.specs.Entering.{serials_in}
use Rattle.entries.proofs.ByKind.{add_to}
use Rattle.entries.proofs.contents.serial_count.Given as goal

abbrev pub invariant-loop-rest : goal.invariant-loop-rest
invariant-loop-rest l = (l.n + length l.rest ≤ length l.c) × (serials_in l.c ≡ add_to l.n (serials_in l.rest))

abbrev pub decreases-loop-rest : goal.decreases-loop-rest
decreases-loop-rest l = length l.rest
