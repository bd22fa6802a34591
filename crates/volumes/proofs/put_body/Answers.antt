use mathlib.Core.Path.{refl, sym, ◌∙◌}
use native.Mathlib.Omega.{arith}
use Rattle.std.proofs.Common.{false}
use Rattle.lines.proofs.LinesSeen.{look-forward}
use Rattle.pens.proofs.Behind.{within-full}
use Rattle.volumes.proofs.LentOutput.{no-room}
use Rattle.volumes.proofs.VolumeWalk.{Walk, walk_ends, walk-on, walk-short}
use Rattle.volumes.proofs.VolumeEnd.{body_promise, body-short, ends-full, ends-well}
use Rattle.volumes.proofs.put_body.Goals.{in-Some+in_ok-pen+then-seen, in_default}
use Rattle.volumes.proofs.put_body.Goals as goal

pub returns-in_err-pen : goal.returns-in_err-pen
returns-in_err-pen c = (
  rw (no-room c.from_residual.result c.from_residual.ensures.0) (within-full _ _ (c.on_line.ensures.0.long ∙ c.loop-seen.invariant.long)),
  c.on_line.ensures.1,
  rw (no-room c.from_residual.result c.from_residual.ensures.0) (body_promise _ _ _ _ _ _ _ (λ x. body-short x.known _ x.ends _ _
      (walk-short _ _ _ _ _ _ _ _ _ _ _ c.loop-seen.invariant c.in-Some.seen (sym c.look.ensures ∙ c.in-Some.is) _ _ _ c.on_line.ensures.2 x (c.in_err-pen.was) c.on_line.ensures.0.long))),
)

pub loop-seen-smaller : goal.loop-seen-smaller
loop-seen-smaller c = let f = look-forward 1 1 c.args.start c.loop-seen.at c.args.body.now c.in-Some.seen (sym c.look.ensures ∙ c.in-Some.is) in omega (arith, f.0, f.1)

pub loop-seen-preserved : goal.loop-seen-preserved
loop-seen-preserved c = rw c.if-seen.false at (walk-on _ _ _ _ _ _ _ _ _ _ _ c.loop-seen.invariant c.in-Some.seen (sym c.look.ensures ∙ c.in-Some.is) _ _ _ c.on_line.ensures.2 _ (c.in_ok-pen.was) c.on_line.ensures.0.long c.on_line.ensures.1 c.on_line.ensures.0.safe _ c.wire_from-began.ensures)

pub returns-in_err-n : goal.returns-in_err-n
returns-in_err-n c =
    let over : Walk c.args.s.now c.args.body.now c.args.start c.args.first c.args.out.now c.match-look.pen c.match-look.at c.match-look.from false c.match-look.notes c.match-look.out =
    elim c.match-look.branch [
      | in-Some+in_ok-pen+then-seen w ↦ rw (w.pen-is, w.at-is, w.from-is, w.notes-is, w.out-is)
          (rw w.if-seen.true at (walk-on _ _ _ _ _ _ _ _ _ _ _ c.loop-seen.invariant w.in-Some.seen (sym c.look.ensures ∙ w.in-Some.is) _ _ _ w.on_line.ensures.2 _ w.in_ok-pen.was w.on_line.ensures.0.long w.on_line.ensures.1 w.on_line.ensures.0.safe _ w.wire_from-began.ensures))
      | in_default w ↦ rw (w.pen-is, w.at-is, w.from-is, w.notes-is, w.out-is) (walk_ends _ _ _ _ _ _ _ _ _ _ _ c.loop-seen.invariant (sym c.look.ensures ∙ w.in_default.is))
    ] in
    rw (no-room c.from_residual-in_err-n.result c.from_residual-in_err-n.ensures.0) (ends-full _ _ _ _ _ _ _ _ _ _ _ over refl _ c.in_err-n.ensures)

pub returns : goal.returns
returns c =
    let over : Walk c.args.s.now c.args.body.now c.args.start c.args.first c.args.out.now c.match-look.pen c.match-look.at c.match-look.from false c.match-look.notes c.match-look.out =
    elim c.match-look.branch [
      | in-Some+in_ok-pen+then-seen w ↦ rw (w.pen-is, w.at-is, w.from-is, w.notes-is, w.out-is)
          (rw w.if-seen.true at (walk-on _ _ _ _ _ _ _ _ _ _ _ c.loop-seen.invariant w.in-Some.seen (sym c.look.ensures ∙ w.in-Some.is) _ _ _ w.on_line.ensures.2 _ w.in_ok-pen.was w.on_line.ensures.0.long w.on_line.ensures.1 w.on_line.ensures.0.safe _ w.wire_from-began.ensures))
      | in_default w ↦ rw (w.pen-is, w.at-is, w.from-is, w.notes-is, w.out-is) (walk_ends _ _ _ _ _ _ _ _ _ _ _ c.loop-seen.invariant (sym c.look.ensures ∙ w.in_default.is))
    ] in
    ends-well _ _ _ _ _ _ _ _ _ _ _ over refl _ _ c.in_ok-n.ensures
