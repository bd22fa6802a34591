use Rattle.std.proofs.Common.{ℕ, rules}
use Rattle.std.proofs.lemmas.Iterator.{YieldsList-from_slice}
use Rattle.std.proofs.lemmas.Iterator.Search.{all_from_yields_List}
use Rattle.rules.specs.Base.{has_number, all}
use Rattle.account.specs.SerialNumbers.{owns_of, partners_at}
use Rattle.groundwork.proofs.Alls.{all_flat}
use Rattle.groundwork.proofs.serials.all_met.Goals as goal

pub returns : goal.returns
returns c =
    let found = λ (n : ℕ). has_number n (owns_of c.args.kept.now) in
    rw (all_flat found (partners_at c.args.s.now) c.args.kept.now) (
    all_from_yields_List (λ k. all found (partners_at c.args.s.now k)) _ _ _ c.all.ensures.ran (YieldsList-from_slice c.args.kept.now cc) (λ x b q k. search rules))
