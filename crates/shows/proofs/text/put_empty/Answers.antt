use Rattle.shows.proofs.Laying.{empty-lays}
use Rattle.shows.proofs.text.put_empty.Goals as goal

pub returns : goal.returns
returns c = empty-lays _ _ _ c.put.ensures
