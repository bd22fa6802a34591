use lib.ListN.{length}
use Rattle.lines.specs.VolumePlaces.{layout}
use Rattle.standing.specs.Reading.{volume_desk}
use Rattle.sets.proofs.SetRun.{Came}
use Rattle.sets.proofs.reader.read_set.Given as goal

abbrev pub invariant-loop-i : goal.invariant-loop-i
invariant-loop-i l =
    Came l.class l.s l.limit (length l.initial.t) (layout l.count l.places l.lengths) l.i (volume_desk l.here l.tally l.symbols l.layers l.serials l.used_all) l.t
