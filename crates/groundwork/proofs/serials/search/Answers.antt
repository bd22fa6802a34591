use Rattle.std.proofs.Common.{rules}
use Rattle.std.proofs.lemmas.List.Sorted.{answers_always}
use Rattle.account.specs.SerialNumbers.{own_of}
use Rattle.groundwork.proofs.OwnSearch.{searched}
use Rattle.groundwork.proofs.serials.search.Goals as goal

pub returns : goal.returns
returns c =
    let facts = c.binary_search_by_key.ensures in
    searched c.args.own c.args.kept.now c.requires _ facts.bound (facts.position own_of (answers_always _ _ _ (λ f a r g called. search rules)))
