use Prim.Native.Nat.{◌+◌}
use native.Mathlib.Omega.{arith}
use Rattle.lines.proofs.LineLook as laws
use Rattle.lines.proofs.runs.key_run.Goals as goal

pub overflow_add-i : goal.overflow_add-i
overflow_add-i c = let n = c.in-Some.ensures in omega (arith, n.1, laws.key-le c.args.t.now c.loop-n.i c.loop-n.invariant.passed.high)

pub plain_key-i-requires-in-Some : goal.plain_key-i-requires-in-Some
plain_key-i-requires-in-Some c = let n = c.in-Some.ensures in omega (arith, n.1, laws.key-le c.args.t.now c.loop-n.i c.loop-n.invariant.passed.high)

pub loop-n-preserved : goal.loop-n-preserved
loop-n-preserved c =
    let n = c.in-Some.ensures in
    laws.key-on c.args.t.now c.args.from (c.loop-n.i + c.in-Some.n) c.plain_key-i-in-Some.result (rw n.1 (laws.key-passed c.args.t.now c.args.from c.loop-n.i c.loop-n.invariant)) c.plain_key-i-in-Some.ensures
