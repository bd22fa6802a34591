use Rattle.pens.proofs.KeyRows.{part_open}
use Rattle.pens.proofs.closing.part_closed.Goals as goal

pub around-requires : goal.around-requires
around-requires c = part_open c.args.pen c.requires
