use Rattle.std.proofs.Common.{◌∙◌, ◌≡◌, sym, arith}
use Rattle.leaves.proofs.Written.{digit-more, fixed-end}
use Rattle.leaves.proofs.write.fill_digits.Goals as goal

pub loop-i-preserved : goal.loop-i-preserved
loop-i-preserved c = c.loop-i.invariant ∙ digit-more c.loop-i.out c.loop-i.i c.loop-i.left (omega arith) (omega arith)

pub returns : goal.returns
returns c =
    let e : c.loop-i.i ≡ 0 = omega arith in
    sym (c.loop-i.invariant ∙ rw e (fixed-end c.loop-i.left c.loop-i.out))
