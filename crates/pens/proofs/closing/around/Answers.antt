use Rattle.pens.proofs.KeyRows.{around-other}
use Rattle.pens.proofs.closing.around.Goals as goal

pub returns-else-part-eq1 : goal.returns-else-part-eq1
returns-else-part-eq1 c = around-other _ c.requires c.if-part-eq1.false
