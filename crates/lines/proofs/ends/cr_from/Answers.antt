use mathlib.Core.Path.{ap}
use native.Mathlib.Omega.{arith}
use lib.ListN.{length}
use Rattle.leaves.proofs.Scan.{up_to_hit, up_to_miss}
use Rattle.lines.proofs.SoundEnds as laws
use Rattle.lines.proofs.ends.cr_from.Goals as goal

pub loop-i-init : goal.loop-i-init
loop-i-init c = (c.skip_eights-i.ensures.high, laws.no-end-cr c.args.s.now c.args.from c.skip_eights-i.result c.skip_eights-i.ensures)

pub returns-then-s-i-eq-CR : goal.returns-then-s-i-eq-CR
returns-then-s-i-eq-CR c = (omega (arith, c.loop-i.invariant.1, ap length (up_to_hit 13 c.args.s.now c.loop-i.i c.loop-i-test.true c.if-s-i-eq-CR.true)), c.loop-i-test.true)

pub loop-i-preserved : goal.loop-i-preserved
loop-i-preserved c = (omega arith, omega (arith, c.loop-i.invariant.1, ap length (up_to_miss 13 c.args.s.now c.loop-i.i c.loop-i-test.true c.if-s-i-eq-CR.false)))
