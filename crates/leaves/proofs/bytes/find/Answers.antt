use Rattle.std.proofs.Common.{◌≡◌, ◌∙◌, refl, rules, tests, eqb}
use Rattle.std.specs.List.{position}
use Rattle.std.proofs.lemmas.Iterator.{YieldsList-from_slice}
use Rattle.std.proofs.lemmas.Iterator.Search.{position_from_yields_List}
use Rattle.leaves.proofs.Scan.{first_place, up_to_place}
use Rattle.leaves.proofs.bytes.find.Goals as goal

pub returns : goal.returns
returns c =
    let s = c.args.s.now in
    let found : c.position.result ≡ position (λ x. eqb x c.args.b) s = position_from_yields_List (λ x. eqb x c.args.b) _ _ c.position.result c.position.ensures.ran (YieldsList-from_slice s c.iter.ensures.rest) (λ x b q k. search (rules, tests)) in
    c.unwrap_or.ensures ∙ first_place (λ x. eqb x c.args.b) s c.position.result _ found refl ∙ up_to_place c.args.b s
