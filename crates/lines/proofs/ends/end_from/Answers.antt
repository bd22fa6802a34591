use mathlib.Core.Path.{sym, ◌∙◌}
use native.Mathlib.Omega.{arith}
use Rattle.lines.proofs.SoundEnds as laws
use Rattle.lines.proofs.ends.end_from.Goals as goal

pub returns-then-is_end : goal.returns-then-is_end
returns-then-is_end c = (omega (arith, c.loop-i.invariant.1, laws.run-stop c.args.s.now c.loop-i.i c.loop-i-test.true (sym c.is_end.ensures ∙ c.if-is_end.true)), c.loop-i-test.true)

pub loop-i-preserved : goal.loop-i-preserved
loop-i-preserved c = (omega arith, omega (arith, c.loop-i.invariant.1, laws.run_more c.args.s.now c.loop-i.i c.loop-i-test.true (sym c.is_end.ensures ∙ c.if-is_end.false)))
