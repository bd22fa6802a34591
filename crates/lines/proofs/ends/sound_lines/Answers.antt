use mathlib.Core.Path.{◌≡◌, sym, ◌∙◌}
use mathlib.Core.Bool.{true, false}
use borrow.Author.Rules.{rules}
use Prim.Native.Nat.{◌+◌}
use native.Mathlib.Omega.{arith}
use Rattle.lines.proofs.SoundEnds as laws
use Rattle.lines.proofs.ends.sound_lines.Goals as goal
use Rattle.lines.proofs.ends.sound_lines.Goals.{then-e-i-gt-MOST_IN_LINE-via-then-e-i-gt-MOST_IN_LINE, then-e-i-gt-MOST_IN_LINE-via-else-e-i-gt-MOST_IN_LINE+then-not-lf_at}

pub returns-then-s-e-ne-CR : goal.returns-then-s-e-ne-CR
returns-then-s-e-ne-CR c =
    let e = c.in-Some.ensures in
    c.last_at.ensures ∙ laws.last-is _ _ _ e.1 ∙ sym (c.loop-e.invariant.1 ∙ laws.sound-last c.args.s.now c.loop-e.i c.in-Some.e e.0 e.1 c.if-s-e-ne-CR.true)

pub returns-then-e-i-gt-MOST_IN_LINE : goal.returns-then-e-i-gt-MOST_IN_LINE
returns-then-e-i-gt-MOST_IN_LINE c =
    let e = c.in-Some.ensures in
    let cr = c.if-s-e-ne-CR.false in
    sym (c.loop-e.invariant.1 ∙ elim c.then-e-i-gt-MOST_IN_LINE.branch [
      | then-e-i-gt-MOST_IN_LINE-via-then-e-i-gt-MOST_IN_LINE w ↦ laws.sound-wide c.args.s.now c.loop-e.i c.in-Some.e e.0 e.1 cr w.if-e-i-gt-MOST_IN_LINE.true
      | then-e-i-gt-MOST_IN_LINE-via-else-e-i-gt-MOST_IN_LINE+then-not-lf_at w ↦
          let f : w.lf_at.result ≡ false = search rules in
          laws.sound-unended c.args.s.now c.loop-e.i c.in-Some.e e.0 e.1 cr (sym w.lf_at.ensures ∙ f)
    ])

pub loop-e-preserved : goal.loop-e-preserved
loop-e-preserved c =
    let e = c.in-Some.ensures in
    let l : c.lf_at.result ≡ true = search rules in
    let f = sym c.lf_at.ensures ∙ l in
    (omega (arith, laws.lf-inside c.args.s.now (c.in-Some.e + 1) f), c.loop-e.invariant.1 ∙ laws.sound-ended c.args.s.now c.loop-e.i c.in-Some.e e.0 e.1 c.if-s-e-ne-CR.false f c.if-e-i-gt-MOST_IN_LINE.false)

pub returns : goal.returns
returns c = sym (c.loop-e.invariant.1 ∙ laws.sound-over c.args.s.now c.loop-e.i c.in_default.ensures)
