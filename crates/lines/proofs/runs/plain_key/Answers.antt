use mathlib.Core.Path.{sym, ◌∙◌}
use native.Mathlib.Omega.{arith}
use borrow.Author.Tests.{not-false}
use Rattle.lines.proofs.LineLook as laws
use Rattle.lines.proofs.runs.plain_key.Goals as goal

pub loop-i-preserved : goal.loop-i-preserved
loop-i-preserved c = (omega arith, laws.plain-key-passed c.args.t.now c.args.from c.loop-i.i c.loop-i-test.true (sym c.key_byte.ensures ∙ not-false _ c.if-not-key_byte.false-raw) c.loop-i.invariant.1)
