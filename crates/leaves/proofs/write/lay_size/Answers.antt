use Rattle.leaves.proofs.Written.{lay_done}
use Rattle.leaves.proofs.write.lay_size.Goals as goal

pub returns : goal.returns
returns c = lay_done c.args.m _ _ c.fill_digits.ensures c.fill_digits-2.ensures
