use Rattle.std.proofs.Common.{arith, subst}
use Rattle.std.specs.Io.KnownBytes.{Appends}
use Rattle.std.proofs.KnownBytes.{Appends-trans}
use Rattle.shows.proofs.Tables.{lines-more}
use Rattle.shows.proofs.records.Goals as goal

pub loop-i-preserved : goal.loop-i-preserved
loop-i-preserved g c = (
  omega arith,
  omega arith,
  subst (Appends _ _) (lines-more c.loop-i.i c.args.table.now)
      (Appends-trans _ _ _ _ _ c.loop-i.invariant.2 c.in_ok-record.ensures),
)
