use mathlib.Core.Path.{◌≡◌}
use Prim.Native.Nat.{◌-◌, ◌≤◌}
use lib.ListN.{length, drop}
use Rattle.rules.specs.Base.{is_some}
use Rattle.rules.specs.Spool.{lines_of}
use Rattle.lines.proofs.ends.sound_lines.Given as goal

abbrev pub invariant-loop-e : goal.invariant-loop-e
invariant-loop-e l = (l.i ≤ length l.s) × (is_some (lines_of l.s) ≡ is_some (lines_of (drop l.i l.s)))

abbrev pub decreases-loop-e : goal.decreases-loop-e
decreases-loop-e l = length l.s - l.i
