use mathlib.Core.Path.{sym, ◌∙◌}
use native.Mathlib.Omega.{arith}
use borrow.Author.Tests.{not-true, not-false}
use Rattle.lines.proofs.SoundEnds as laws
use Rattle.lines.proofs.ends.first_unsound.Goals as goal

pub loop-i-init : goal.loop-i-init
loop-i-init c = (omega arith, laws.unsound-start c.args.s.now c.args.l)

pub returns-then-not-sound_at : goal.returns-then-not-sound_at
returns-then-not-sound_at c = sym (c.loop-i.invariant.1 ∙ laws.unsound-here c.args.s.now c.args.l c.loop-i.i (omega arith) (omega arith) (sym c.sound_at.ensures ∙ not-true _ c.if-not-sound_at.true-raw))

pub loop-i-preserved : goal.loop-i-preserved
loop-i-preserved c = (omega arith, c.loop-i.invariant.1 ∙ laws.unsound-later c.args.s.now c.args.l c.loop-i.i (omega arith) (omega arith) (sym c.sound_at.ensures ∙ not-false _ c.if-not-sound_at.false-raw))

pub returns : goal.returns
returns c = sym (c.loop-i.invariant.1 ∙ laws.unsound-past c.args.s.now c.args.l c.loop-i.i (omega arith))
