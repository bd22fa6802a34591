use Prim.Native.Nat.{◌+◌, ◌≤◌, ◌<◌}
use mathlib.Core.Path.{◌≡◌}
use lib.ListN.{length, get_or, drop}
use Rattle.rules.specs.Base.{among}
use Rattle.lines.specs.VolumeNames.{raw_name}
use mathlib.Core.List.{map}
use Rattle.lines.proofs.names.name_again.Given as goal

abbrev pub invariant-loop-j : goal.invariant-loop-j
invariant-loop-j l = (l.i < l.j) × (l.j ≤ length l.places) × (among (raw_name l.s (get_or l.places l.i 0)) (map (raw_name l.s) (drop (l.i + 1) l.places)) ≡ among (raw_name l.s (get_or l.places l.i 0)) (map (raw_name l.s) (drop l.j l.places)))
