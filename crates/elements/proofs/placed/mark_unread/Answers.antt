use Rattle.account.proofs.PlacedLaws.{hidden-all}
use Rattle.elements.proofs.placed.mark_unread.Goals as goal

pub returns : goal.returns
returns c = hidden-all c.args.class c.args.d c.args.rec.now _ _ _ _ _ c.mark_hidden.ensures c.mark_hidden-2.ensures c.mark_hidden-3.ensures c.mark_hidden-4.ensures c.mark_hidden-5.ensures
