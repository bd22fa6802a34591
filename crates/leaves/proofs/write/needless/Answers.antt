use Rattle.std.proofs.Common.{◌≡◌, ◌-◌, ◌∙◌, arith, rules, tests, length, take, length-take}
use Rattle.std.specs.List.{position, position_or_len}
use Rattle.std.proofs.lemmas.Iterator.{YieldsList-from_slice}
use Rattle.std.proofs.lemmas.Iterator.Search.{position_from_yields_List}
use Rattle.leaves.proofs.Scan.{first_place}
use Rattle.leaves.proofs.Written.{other_digit, front-other}
use Rattle.leaves.proofs.write.needless.Goals as goal

pub returns : goal.returns
returns c =
    let s = c.args.s.now in
    let front = take (length s - 1) s in
    let found : c.position.result ≡ position other_digit front = position_from_yields_List other_digit _ _ c.position.result c.position.ensures.ran (YieldsList-from_slice front (search rules)) (λ x b q k. search (rules, tests)) in
    let most : c.saturating_sub-most.result ≡ length front = omega (arith, length-take (length s - 1) s, c.saturating_sub-most.ensures) in
    let r : c.unwrap_or.result ≡ position_or_len other_digit front = c.unwrap_or.ensures ∙ first_place other_digit front c.position.result _ found most in
    rw r (search rules, front-other s)
