use mathlib.Core.Path.{◌∙◌}
use native.Mathlib.Omega.{arith}
use Rattle.pens.proofs.Behind.{within-full}
use Rattle.pens.proofs.Writers.{kept-long, room-left}
use Rattle.pens.proofs.KeysLaws.{keys-begin, keys-within, keys-end, keys-more, keys-full}
use Rattle.prints.proofs.Going.{is_full}
use Rattle.pens.proofs.groups.put_keys.Goals as goal

pub loop-j-init : goal.loop-j-init
loop-j-init c = keys-begin _ _ _ _ _ _

pub slice_bounds-put_lines-count : goal.slice_bounds-put_lines-count
slice_bounds-put_lines-count c = omega (arith, c.loop-j.invariant.within, c.loop-j.invariant.long)

pub slice_bounds-put_lines-start : goal.slice_bounds-put_lines-start
slice_bounds-put_lines-start c = omega (arith, c.loop-j.invariant.within, c.loop-j.invariant.long)

pub slice_bounds-put_lines-end : goal.slice_bounds-put_lines-end
slice_bounds-put_lines-end c = omega (arith, c.loop-j.invariant.within, c.loop-j.invariant.long)

pub returns-in_err-n : goal.returns-in_err-n
returns-in_err-n c = rw (is_full _ c.from_residual.ensures.0) (
  within-full _ _ (kept-long c.loop-j.out c.loop-j.n (omega (arith, c.loop-j.invariant.within, c.loop-j.invariant.long)) _ _ c.put_lines.ensures.0 ∙ c.loop-j.invariant.long),
  keys-full _ _ _ _ _ _ _ _ _ c.loop-j.invariant c.loop-j-test.true _ _ c.put_lines.ensures.1 c.in_err-n.was _,
)

pub overflow_add-n : goal.overflow_add-n
overflow_add-n c = omega (arith, c.loop-j.invariant.long, room-left c.loop-j.out c.loop-j.n (omega (arith, c.loop-j.invariant.within, c.loop-j.invariant.long)) _ _ c.put_lines.ensures.0 c.in_ok-n.field-0 c.in_ok-n.was)

pub loop-j-preserved : goal.loop-j-preserved
loop-j-preserved c = keys-more _ _ _ _ _ _ _ _ _ c.loop-j.invariant c.loop-j-test.true _ _ c.put_lines.ensures.1 c.in_ok-n.field-0 c.in_ok-n.was c.put_lines.ensures.0

pub returns : goal.returns
returns c = (keys-within _ _ _ _ _ _ _ _ _ c.loop-j.invariant, keys-end _ _ _ _ _ _ _ _ _ c.loop-j.invariant (omega arith))
