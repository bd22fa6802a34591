use Rattle.pens.proofs.KeyRows.{line-block}
use Rattle.pens.proofs.keys.figure_block.Goals as goal

pub returns-then-row-ne-HOLDS_BLOCK : goal.returns-then-row-ne-HOLDS_BLOCK
returns-then-row-ne-HOLDS_BLOCK c = line-block c.args.row c.if-row-ne-HOLDS_BLOCK.true
