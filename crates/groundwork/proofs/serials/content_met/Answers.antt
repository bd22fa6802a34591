use Rattle.std.proofs.Common.{ℕ, List, rules}
use lib.Dec.{eqb}
use lib.ListN.{drop}
use Rattle.std.proofs.lemmas.Iterator.Adapters.{YieldsList-from_skip}
use Rattle.std.proofs.lemmas.Iterator.Search.{all_from_yields_List}
use Rattle.std.proofs.lemmas.Iterator.Splits.{YieldsList-from_slice_split}
use Rattle.rules.specs.Base.{has_number, all, split}
use Rattle.rules.specs.Numbers.{read_count}
use Rattle.account.specs.SerialNumbers.{owns_of, number_in}
use Rattle.groundwork.proofs.Alls.{all_flat, split_is}
use Rattle.groundwork.proofs.serials.content_met.Goals as goal

pub returns : goal.returns
returns c =
    let found = λ (n : ℕ). has_number n (owns_of c.args.kept.now) in
    let number = λ (p : List ℕ). number_in (read_count 10 p) in
    rw (all_flat found number (drop 1 (split 44 c.args.c.now)), split_is 44 c.args.c.now) (
    all_from_yields_List (λ p. all found (number p)) _ _ _ c.all.ensures.ran (YieldsList-from_skip 1 (YieldsList-from_slice_split _ (λ b. eqb b 44) c.args.c.now (cc) (cc) (cc) (λ x b q k. search rules)) c.skip.ensures.count) (λ x b q k. search rules))
