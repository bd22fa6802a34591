use native.Mathlib.Omega.{arith}
use Rattle.leaves.proofs.Ints.{fits_pos}
use Rattle.drawing.proofs.DrawingSteps.{digits-fit, layer_stores}
use Rattle.drawing.proofs.drawing_format.put_layer.Goals as goal

pub overflow_cast-rec : goal.overflow_cast-rec
overflow_cast-rec c = fits_pos _ (digits-fit c.args.id.now _ c.requires.0 c.layer_digits.ensures)

pub returns : goal.returns
returns c = rw (c.from.ensures, c.from-2.ensures, c.from-3.ensures) (layer_stores c.args.rec.now c.head.new.t c.args.number c.args.at c.args.id.now _ _ _ c.requires.0 c.layer_digits.ensures (omega arith) (omega arith) c.head.ensures)
