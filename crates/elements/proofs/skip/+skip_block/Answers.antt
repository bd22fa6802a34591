use mathlib.Core.Path.{sym}
use native.Mathlib.Omega.{arith}
use Rattle.account.proofs.SeenLines.{seen-forward}
use Rattle.account.proofs.SkipRun.{start, at_last, stays, shut, refuses, too-deep, inner_ready, inner-stops, goes_on}
use Rattle.elements.proofs.skip.+skip_block.Goals as goal

pub loop-did-init : goal.loop-did-init
loop-did-init t c = start _ _ _ _ _ c.requires

pub next_line-seen-requires : goal.next_line-seen-requires
next_line-seen-requires t c = let a = c.loop-did.invariant.low.line in let b = c.loop-did.invariant.low.at in omega arith

pub overflow_add-line : goal.overflow_add-line
overflow_add-line t c = let a = c.loop-did.invariant.low.line in let b = c.loop-did.invariant.low.at in omega arith

pub returns-then-seen : goal.returns-then-seen
returns-then-seen t c = at_last _ _ _ _ _ _ c.loop-did.invariant _ c.next_line-seen.ensures _ c.skip_line-did.ensures c.if-seen.true _ c.early_skip.ensures

pub loop-did-smaller-in-Passes : goal.loop-did-smaller-in-Passes
loop-did-smaller-in-Passes t c = let m = seen-forward _ _ _ _ c.next_line-seen.ensures c.if-seen.false in omega (arith, m.0, m.1)

pub loop-did-preserved-in-Passes : goal.loop-did-preserved-in-Passes
loop-did-preserved-in-Passes t c = stays _ _ _ _ _ _ c.loop-did.invariant _ c.next_line-seen.ensures _ c.skip_line-did.ensures c.if-seen.false (sym c.in-Passes.is)

pub returns-in-Shut : goal.returns-in-Shut
returns-in-Shut t c = shut _ _ _ _ _ _ c.loop-did.invariant _ c.next_line-seen.ensures _ c.skip_line-did.ensures c.if-seen.false (sym c.in-Shut.is)

pub returns-in-Refuse : goal.returns-in-Refuse
returns-in-Refuse t c = refuses _ _ _ _ _ _ c.loop-did.invariant _ c.next_line-seen.ensures _ c.skip_line-did.ensures c.if-seen.false _ (sym c.in-Refuse.is)

pub returns-then-left-eq1 : goal.returns-then-left-eq1
returns-then-left-eq1 t c = too-deep _ _ _ _ _ _ c.loop-did.invariant _ c.next_line-seen.ensures _ c.skip_line-did.ensures c.if-seen.false (sym c.in-Deeper.is) c.if-left-eq1.true

pub overflow_sub-left : goal.overflow_sub-left
overflow_sub-left t c = let a = c.loop-did.invariant.one in omega arith

pub skip_block-r-requires : goal.skip_block-r-requires
skip_block-r-requires t c = (let a = c.loop-did.invariant.one in omega arith, inner_ready _ _ _ _ _ _ c.loop-did.invariant _ c.next_line-seen.ensures _ c.skip_line-did.ensures c.if-seen.false (sym c.in-Deeper.is) c.if-left-eq1.false)

pub returns-in_default : goal.returns-in_default
returns-in_default t c = rw c.in_default.is (inner-stops _ _ _ _ _ _ c.loop-did.invariant _ c.next_line-seen.ensures _ c.skip_line-did.ensures c.if-seen.false (sym c.in-Deeper.is) c.if-left-eq1.false _ (rw c.in_default.is at c.skip_block-r.ensures))

pub loop-did-smaller : goal.loop-did-smaller
loop-did-smaller t c =
    let m = seen-forward _ _ _ _ c.next_line-seen.ensures c.if-seen.false in
    let k = rw c.in-Ok.is at c.skip_block-r.ensures in
    omega (arith, m.0, m.1, k.further.1)

pub loop-did-preserved : goal.loop-did-preserved
loop-did-preserved t c = goes_on _ _ _ _ _ _ c.loop-did.invariant _ c.next_line-seen.ensures _ c.skip_line-did.ensures c.if-seen.false (sym c.in-Deeper.is) c.if-left-eq1.false _ (rw c.in-Ok.is at c.skip_block-r.ensures)
