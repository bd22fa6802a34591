use Rattle.std.proofs.Common.{◌∙◌, sym, arith}
use Rattle.leaves.proofs.Scan.{same_step, same_not, same_end}
use Rattle.leaves.proofs.bytes.same_bytes.Goals as goal

pub returns-then-a-i : goal.returns-then-a-i
returns-then-a-i c = sym (c.loop-i.invariant ∙ same_not _ _ _ c.loop-i-test.true (omega arith) c.if-a-i.true)

pub loop-i-preserved : goal.loop-i-preserved
loop-i-preserved c = c.loop-i.invariant ∙ same_step _ _ _ c.loop-i-test.true (omega arith) c.if-a-i.false

pub returns : goal.returns
returns c = sym (c.loop-i.invariant ∙ same_end c.args.a.now c.args.b.now _ c.loop-i-test.false (omega arith))
