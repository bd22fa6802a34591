use Rattle.volumes.proofs.Heads.{head-put}
use Rattle.volumes.proofs.put_head.Goals as goal

pub returns : goal.returns
returns c = head-put c.args.name.now c.args.size c.args.out.now _ _ c.requires.0 c.requires.1 c.copy.ensures c.copy-2.ensures
