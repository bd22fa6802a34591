use mathlib.Core.Bool.{true, false}
use mathlib.Core.Path.{refl, sym, ◌∙◌}
use native.Mathlib.Omega.{arith}
use Rattle.pens.proofs.Behind.{within-full}
use Rattle.pens.proofs.Writers.{kept-long, room-left}
use Rattle.pens.proofs.LinesLeft.{fewer}
use Rattle.pens.proofs.PassLaws.{pass-begins, pass-ends, pass-over, pass-full, pass_on, pass-within}
use Rattle.prints.proofs.Going.{is_full}
use Rattle.pens.proofs.groups.put_pass.Goals as goal

pub lines-init : goal.lines-init
lines-init c = pass-begins _ _ _ _ _ _ _ c.no_text-amid.ensures (omega arith)

pub slice_bounds-put_line-count : goal.slice_bounds-put_line-count
slice_bounds-put_line-count c = omega (arith, c.lines.invariant.within, c.lines.invariant.long)

pub slice_bounds-put_line-start : goal.slice_bounds-put_line-start
slice_bounds-put_line-start c = omega (arith, c.lines.invariant.within, c.lines.invariant.long)

pub slice_bounds-put_line-end : goal.slice_bounds-put_line-end
slice_bounds-put_line-end c = omega (arith, c.lines.invariant.within, c.lines.invariant.long)

pub shape_of-out-in_err-n : goal.shape_of-out-in_err-n
shape_of-out-in_err-n c = kept-long c.lines.out c.lines.n (omega (arith, c.lines.invariant.within, c.lines.invariant.long)) _ _ c.put_line.ensures.0 ∙ c.lines.invariant.long

pub returns-in_err-n : goal.returns-in_err-n
returns-in_err-n c = rw (is_full _ c.from_residual.ensures.0) (
  within-full _ _ (kept-long c.lines.out c.lines.n (omega (arith, c.lines.invariant.within, c.lines.invariant.long)) _ _ c.put_line.ensures.0 ∙ c.lines.invariant.long),
  pass-full _ _ _ _ _ _ _ _ _ _ _ c.lines.invariant refl c.in-Some.seen (sym c.look.ensures ∙ c.in-Some.is) _ c.row_here-found.ensures _ _ c.put_line.ensures.1 c.in_err-n.was _,
)

pub overflow_add-n : goal.overflow_add-n
overflow_add-n c = omega (arith, c.lines.invariant.small, c.lines.invariant.long, room-left c.lines.out c.lines.n (omega (arith, c.lines.invariant.within, c.lines.invariant.long)) _ _ c.put_line.ensures.0 c.in_ok-n.field-0 c.in_ok-n.was)

pub lines-smaller : goal.lines-smaller
lines-smaller c = fewer c.args.body.now c.args.start c.lines.at true true c.in-Some.seen refl (sym c.look.ensures ∙ c.in-Some.is)

pub lines-preserved : goal.lines-preserved
lines-preserved c = pass_on _ _ _ _ _ _ _ _ _ _ _ c.lines.invariant refl c.in-Some.seen (sym c.look.ensures ∙ c.in-Some.is) _ c.row_here-found.ensures _ _ c.put_line.ensures.1 _ false _ c.in_ok-n.was c.opened_behind-amid.ensures (sym c.if-is_over.false ∙ c.is_over.ensures) c.put_line.ensures.0

pub shape_of-out : goal.shape_of-out
shape_of-out c = c.lines.invariant.long

pub returns : goal.returns
returns c =
    let over = pass-ends _ _ _ _ _ _ _ _ _ _ _ c.lines.invariant refl (sym c.look.ensures ∙ c.in_default.is) in
    (pass-within _ _ _ _ _ _ _ _ _ _ _ over, pass-over _ _ _ _ _ _ _ _ _ _ _ over refl)

pub returns-then-is_over : goal.returns-then-is_over
returns-then-is_over c =
    let over = pass_on _ _ _ _ _ _ _ _ _ _ _ c.lines.invariant refl c.in-Some.seen (sym c.look.ensures ∙ c.in-Some.is) _ c.row_here-found.ensures _ _ c.put_line.ensures.1 _ true _ c.in_ok-n.was refl (sym c.if-is_over.true ∙ c.is_over.ensures) c.put_line.ensures.0 in
    (pass-within _ _ _ _ _ _ _ _ _ _ _ over, pass-over _ _ _ _ _ _ _ _ _ _ _ over refl)
