use native.Mathlib.Omega.{arith}
use Rattle.lines.proofs.SoundEnds as laws
use Rattle.lines.proofs.ends.skip_eights.Goals as goal

pub loop-i-preserved : goal.loop-i-preserved
loop-i-preserved c =
    let inv = c.loop-i.invariant in
    let high = inv.high in
    laws.no-end-eight c.args.s.now c.args.from c.loop-i.i inv (omega arith) (laws.eight-high c.args.s.now c.loop-i.i c.all_above.result c.all_above.ensures c.if-all_above.true)
