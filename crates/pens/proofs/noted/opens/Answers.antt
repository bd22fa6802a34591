use mathlib.Core.Path.{refl}
use Rattle.pens.proofs.RowsNoted.{opens-so}
use Rattle.pens.proofs.noted.opens.Goals as goal

pub returns : goal.returns
returns c = opens-so c.args.s.now c.args.row _ c.shape_for.result _ c.shape_for.ensures refl _ c.is_opening.ensures
