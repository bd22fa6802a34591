use Prim.Native.Nat.{◌<◌, ◌≤◌}
use mathlib.Core.Path.{ap, sym, ◌∙◌}
use native.Mathlib.Omega.{arith}
use lib.ListN.{length}
use lib.Seq.{length-take-le}
use Rattle.leaves.specs.Bytes.{up_to}
use Rattle.leaves.specs.Drawing.{one_count}
use Rattle.leaves.proofs.Cuts.{up_to-le}
use Rattle.leaves.proofs.Drawings.{ratio-one, ratio-two}
use Rattle.leaves.proofs.sheets.ratio.Goals as goal

pub returns-then-e-s : goal.returns-then-e-s
returns-then-e-s c =
    let s = c.args.s.now in
    let h : length s ≤ length (up_to 47 s) = omega (arith, c.find-e.ensures, c.if-e-s.true) in
    c.one_count.ensures ∙ ap one_count c.count.ensures ∙ ratio-one s h

pub overflow_add-n : goal.overflow_add-n
overflow_add-n c = omega (arith, up_to-le 47 c.args.s.now, c.find-e.ensures)

pub slice_bounds-count-end : goal.slice_bounds-count-end
slice_bounds-count-end c = sym (length-take-le _ _ (omega (arith, up_to-le 47 c.args.s.now, c.find-e.ensures)))

pub slice_bounds-count-count : goal.slice_bounds-count-count
slice_bounds-count-count c = omega (arith, up_to-le 47 c.args.s.now, c.find-e.ensures)

pub slice_bounds-count-start : goal.slice_bounds-count-start
slice_bounds-count-start c = omega (arith, up_to-le 47 c.args.s.now, c.find-e.ensures)

pub returns : goal.returns
returns c =
    let s = c.args.s.now in
    let h : c.find-e.result < length s = omega (arith, up_to-le 47 s, c.find-e.ensures) in
    c.two_counts.ensures ∙ rw (c.count-a.ensures, c.count-b.ensures) (ratio-two s c.find-e.result c.find-e.ensures h)
