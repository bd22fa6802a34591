use native.Mathlib.Omega.{arith}
use Rattle.rules.specs.Base.{bytes}
use Rattle.pens.specs.Texts.{ended}
use Rattle.volumes.proofs.LentOutput.{no-room, lent-room, line_wrote, line-full}
use Rattle.volumes.proofs.on_eof.Goals as goal

pub at_block-requires : goal.at_block-requires
at_block-requires c = omega (arith, lent-room c.args.pen.at c.args.out.now c.requires.within _ _ _ c.put_plain.ensures.0 (c.in_ok-n.was))

pub returns : goal.returns
returns c = line_wrote c.args.pen c.args.out.now (ended (bytes "EOF")) _ 0 c.requires _ c.put_plain.ensures.0 c.put_plain.ensures.1 _ _ (c.in_ok-n.was) c.at_block.ensures

pub returns-in_err-n : goal.returns-in_err-n
returns-in_err-n c = rw (no-room c.from_residual.result c.from_residual.ensures.0) (line-full c.args.pen c.args.out.now (ended (bytes "EOF")) _ 0 c.requires _ c.put_plain.ensures.0 c.put_plain.ensures.1 (c.in_err-n.was))
