use Prim.Native.Nat.{◌+◌}
use native.Mathlib.Omega.{arith}
use Rattle.lines.proofs.LineLook as laws
use Rattle.lines.proofs.runs.clean_run.Goals as goal

pub overflow_add-i : goal.overflow_add-i
overflow_add-i c = let n = c.in-Some.ensures in omega (arith, n.1, laws.char-le c.args.t.now c.loop-n.i c.loop-n.invariant.high)

pub plain_run-i-requires-in-Some : goal.plain_run-i-requires-in-Some
plain_run-i-requires-in-Some c = let n = c.in-Some.ensures in omega (arith, n.1, laws.char-le c.args.t.now c.loop-n.i c.loop-n.invariant.high)

pub loop-n-preserved : goal.loop-n-preserved
loop-n-preserved c =
    let n = c.in-Some.ensures in
    laws.passed_on c.args.t.now c.args.from (c.loop-n.i + c.in-Some.n) c.plain_run-i-in-Some.result (rw n.1 (laws.char-passed c.args.t.now c.args.from c.loop-n.i c.loop-n.invariant)) c.plain_run-i-in-Some.ensures
