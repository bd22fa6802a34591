use Prim.Native.Nat.{◌≤◌}
use lib.ListN.{length}
use Rattle.lines.specs.LineForms.{KeyPassed}
use Rattle.lines.proofs.runs.plain_key.Given as goal

abbrev pub invariant-loop-i : goal.invariant-loop-i
invariant-loop-i l = (l.i ≤ length l.t) × KeyPassed l.t l.from l.i
