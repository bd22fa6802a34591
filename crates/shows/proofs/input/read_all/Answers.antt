use Rattle.std.proofs.Common.{rules, length, ◌-◌, subst}
use Rattle.std.specs.Io.KnownBytes.{Consumes}
use Rattle.std.proofs.KnownBytes.{Consumes-trans}
use Rattle.shows.proofs.Filling.{filled}
use Rattle.shows.proofs.input.read_all.Goals as goal

pub loop-n-preserved : goal.loop-n-preserved
loop-n-preserved g c = (
  search rules,
  search rules,
  subst (Consumes _ _)
      (filled c.loop-n.n (length c.loop-n.buf - c.loop-n.n) c.in-Ok.more c.loop-n.buf c.read.new.buf c.loop-n.invariant.1 c.in-Ok.ensures.bound.0)
      (Consumes-trans _ _ _ _ _ c.loop-n.invariant.2 c.in-Ok.ensures.bytes.0),
)
