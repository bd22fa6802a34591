use mathlib.Core.Path.{refl}
use Rattle.pens.proofs.TextRows.{text-prints}
use Rattle.pens.proofs.groups.put_text.Goals as goal

pub returns : goal.returns
returns c = (c.put_part.ensures.0, text-prints _ c.args.amid _ _ _ _ refl c.put_part.ensures.1)
