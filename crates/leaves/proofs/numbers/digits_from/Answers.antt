use Rattle.std.proofs.Common.{◌∙◌, sym, arith, get_or}
use Rattle.leaves.proofs.Digits.{digit_bounds, run_step, run-stop, run_end, ten-times}
use Rattle.leaves.proofs.numbers.digits_from.Goals as goal

pub returns-then-not-digit : goal.returns-then-not-digit
returns-then-not-digit c = sym (c.loop-b.invariant.1 ∙ run-stop _ c.args.s.now _ c.loop-b-test.true (sym c.digit.ensures ∙ c.if-not-digit.true))

pub loop-b-preserved : goal.loop-b-preserved
loop-b-preserved c =
    let v = c.loop-b in
    let e = sym c.digit.ensures ∙ c.if-not-digit.false in
    let d = digit_bounds (get_or c.args.s.now v.b-index 0) e in
    (ten-times v.v _ v.b-index v.invariant.0 (omega arith), v.invariant.1 ∙ run_step v.v _ v.b-index c.loop-b-test.true e)

pub returns : goal.returns
returns c = sym (c.loop-b.invariant.1 ∙ run_end _ c.args.s.now _ c.loop-b-test.false)
