use Rattle.std.proofs.Common.{◌-◌, ◌≤◌, ◌*◌, length}
use Rattle.std.specs.Io.KnownBytes.{Appends}
use Rattle.promises.specs.Printing.{record_lines}
use Rattle.shows.proofs.records.Given as goal

-- the first i records are printed
abbrev pub invariant-loop-i : goal.invariant-loop-i
invariant-loop-i g l =
    (l.i ≤ l.count) × (32 * l.i ≤ length l.table)
    × Appends (g.W.Write.contents l.initial.out) (g.W.Write.contents l.out) (record_lines l.i l.table)

abbrev pub decreases-loop-i : goal.decreases-loop-i
decreases-loop-i g l = 10240 - l.i
