use Prim.Native.Nat.{◌/◌}
use native.Mathlib.Omega.{arith}
use Rattle.leaves.proofs.Written.{fixed-length, whole_part, fraction-part, size-whole, size-parts}
use Rattle.leaves.proofs.write.put_size.Goals as goal

pub returns-then-m-eq0 : goal.returns-then-m-eq0
returns-then-m-eq0 c =
    let m = c.args.m in
    let laid = c.lay_size-text.ensures in
    let g = rw (laid, whole_part m) at c.needless-start.ensures in
    rw (laid, size-whole m c.needless-start.result (omega (arith, g.0, fixed-length 7 (m / 10000))) g.1 c.if-m-eq0.true) at c.put.ensures

pub returns : goal.returns
returns c =
    let m = c.args.m in
    let laid = c.lay_size-text.ensures in
    let g = rw (laid, whole_part m) at c.needless-start.ensures in
    let f = rw (laid, fraction-part m) at c.needed-end.ensures in
    rw (laid, size-parts m c.needless-start.result (omega (arith, g.0, fixed-length 7 (m / 10000))) g.1 c.if-m-eq0.false c.needed-end.result f.1) at c.put-2.ensures
