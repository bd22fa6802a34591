use Rattle.std.proofs.Common.{rules}
use Rattle.std.proofs.lemmas.Iterator.{YieldsList-from_slice}
use Rattle.std.proofs.lemmas.Iterator.Search.{all_from_yields_List}
use Rattle.groundwork.proofs.Alls.{all_is}
use Rattle.groundwork.proofs.serials.all_marked.Goals as goal

pub returns : goal.returns
returns c = rw (all_is _ c.args.marks.now) (all_from_yields_List (λ b. b) _ _ _ c.all.ensures.ran (YieldsList-from_slice c.args.marks.now cc) (λ x b q k. search rules))
