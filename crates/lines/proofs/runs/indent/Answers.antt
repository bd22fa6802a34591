use native.Mathlib.Omega.{arith}
use Rattle.lines.proofs.LineLook as laws
use Rattle.lines.proofs.runs.indent.Goals as goal

pub overflow_add-i : goal.overflow_add-i
overflow_add-i c = let n = c.in-Some.ensures in omega (arith, n.1, laws.blanks-le c.args.s.now c.loop-n.i c.loop-n.invariant)

pub loop-n-smaller : goal.loop-n-smaller
loop-n-smaller c = let n = c.in-Some.ensures in omega (arith, n.0, n.1, laws.blanks-le c.args.s.now c.loop-n.i c.loop-n.invariant)

pub loop-n-preserved : goal.loop-n-preserved
loop-n-preserved c = let n = c.in-Some.ensures in rw n.1 (laws.blanks-more c.args.s.now c.loop-n.i c.loop-n.invariant)

pub returns : goal.returns
returns c = laws.blanks-stop c.args.s.now c.loop-n.i c.loop-n.invariant c.in_default.ensures
