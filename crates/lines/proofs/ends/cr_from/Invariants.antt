use mathlib.Core.Path.{◌≡◌}
use Prim.Native.Nat.{◌≤◌, ◌+◌}
use lib.ListN.{length, drop}
use Rattle.leaves.specs.Bytes.{up_to}
use Rattle.lines.proofs.ends.cr_from.Given as goal

abbrev pub invariant-loop-i : goal.invariant-loop-i
invariant-loop-i l = (l.i ≤ length l.s) × (l.from + length (up_to 13 (drop l.from l.s)) ≡ l.i + length (up_to 13 (drop l.i l.s)))
