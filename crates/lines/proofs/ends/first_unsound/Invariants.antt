use mathlib.Core.Path.{◌≡◌}
use Prim.Native.Nat.{◌-◌, ◌≤◌}
use Rattle.rules.specs.Spool.{most_volumes}
use Rattle.lines.specs.LineEnds.{first_unsound, unsound_from}
use Rattle.lines.proofs.ends.first_unsound.Given as goal

abbrev pub invariant-loop-i : goal.invariant-loop-i
invariant-loop-i l = (l.i ≤ most_volumes) × (first_unsound l.s l.l ≡ unsound_from l.s l.l (most_volumes - l.i) l.i)
