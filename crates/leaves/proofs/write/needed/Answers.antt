use Rattle.std.proofs.Common.{◌≡◌, ◌+◌, ◌-◌, ◌∙◌, sym, suc, arith}
use Rattle.leaves.proofs.Written.{needed-zero, needed-stop}
use Rattle.leaves.proofs.write.needed.Goals as goal

pub returns-then-s-i-ne48 : goal.returns-then-s-i-ne48
returns-then-s-i-ne48 c =
    let s = c.args.s.now in
    let v = c.loop-i in
    let e : v.i - 1 + 1 ≡ v.i = omega arith in
    let f : suc (v.i - 1) ≡ v.i = omega arith in
    rw e (omega arith, sym (rw f at (needed-stop s (v.i - 1) (omega arith) c.if-s-i-ne48.true)) ∙ v.invariant)

pub loop-i-preserved : goal.loop-i-preserved
loop-i-preserved c =
    let s = c.args.s.now in
    let v = c.loop-i in
    let f : suc (v.i - 1) ≡ v.i = omega arith in
    sym (rw f at (needed-zero s (v.i - 1) (omega arith) c.if-s-i-ne48.false)) ∙ v.invariant
