use mathlib.Core.Path.{◌≡◌}
use Prim.Native.Nat.{◌≤◌, ◌+◌}
use lib.ListN.{length, drop}
use Rattle.lines.specs.LineEnds.{plain_run}
use Rattle.lines.proofs.ends.end_from.Given as goal

abbrev pub invariant-loop-i : goal.invariant-loop-i
invariant-loop-i l = (l.i ≤ length l.s) × (l.from + plain_run (drop l.from l.s) ≡ l.i + plain_run (drop l.i l.s))
