use Prim.Native.Nat.{◌≤◌}
use mathlib.Core.Path.{◌≡◌}
use lib.ListN.{length, drop}
use Rattle.rules.specs.Base.{distinct}
use Rattle.lines.specs.VolumeNames.{raw_name}
use mathlib.Core.List.{map}
use Rattle.lines.proofs.names.names_differ.Given as goal

abbrev pub invariant-loop-i : goal.invariant-loop-i
invariant-loop-i l = (l.i ≤ length l.places) × (distinct (map (raw_name l.s) l.places) ≡ distinct (map (raw_name l.s) (drop l.i l.places)))
