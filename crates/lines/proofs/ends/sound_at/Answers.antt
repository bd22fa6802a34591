use mathlib.Core.Path.{sym}
use Rattle.lines.proofs.SoundEnds as laws
use Rattle.lines.proofs.ends.sound_at.Goals as goal

pub returns-then-s-from : goal.returns-then-s-from
returns-then-s-from c = sym (laws.part_none c.args.s.now c.args.place c.args.size c.if-s-from.true)
