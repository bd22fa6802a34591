use mathlib.Core.Path.{refl}
use Rattle.lines.specs.VolumePlaces.{zeros, no_layout}
use Rattle.lines.proofs.spool.no_layout.Goals as goal

pub returns : goal.returns
unfolding zeros no_layout
returns c = refl
