use mathlib.Core.Path.{◌≡◌}
use lib.ListN.{drop}
use Rattle.entries.specs.Names.{names_in, index_from}
use Rattle.entries.proofs.names.index_of.Given as goal

abbrev pub invariant-loop-i : goal.invariant-loop-i
invariant-loop-i l = index_from 0 l.key (names_in l.s l.names) ≡ index_from l.i l.key (names_in l.s (drop l.i l.names))
