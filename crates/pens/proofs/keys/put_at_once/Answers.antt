use Prim.Native.Nat.{ℕ}
use mathlib.Core.Path.{refl}
use native.Mathlib.Omega.{arith}
use Rattle.prints.proofs.Going.{is_full}
use Rattle.pens.proofs.Writers.{room-left, kept-go, kept_full, lays, room-lacks, drawn-go, drawn-none}
use Rattle.pens.specs.Moves.{moved}
use Rattle.pens.proofs.keys.put_at_once.Goals as goal

pub at_block-requires : goal.at_block-requires
at_block-requires c =
    let args = c.args in
    let pre = c.requires in
    omega (arith, room-left args.out.now args.pen.at pre.within _ _ c.put_row.ensures.0 c.in_ok-n.n c.in_ok-n.was)

pub returns : goal.returns
returns c =
    let args = c.args in
    let pre = c.requires in
    let the-put-row = c.put_row in
    (kept-go args.out.now args.pen.at pre.within _ _ the-put-row.ensures.0 c.in_ok-n.n (moved args.pen c.in_ok-n.n args.block 0) _ c.in_ok-n.was c.at_block.ensures (omega (arith, pre.begun)) refl, λ k q v i g. drawn-go _ _ _ _ _ (lays args.out.now args.pen.at pre.within _ _ _ (the-put-row.ensures.1 k q v i.rule i.key g) c.in_ok-n.n c.in_ok-n.was) (λ (m : ℕ). moved args.pen (m) args.block 0) _ c.at_block.ensures)

pub returns-in_err-n : goal.returns-in_err-n
returns-in_err-n c =
    let args = c.args in
    let pre = c.requires in
    let the-put-row = c.put_row in
    rw (is_full _ c.from_residual.ensures.0) (kept_full args.out.now args.pen.at pre.within _ _ the-put-row.ensures.0, λ k q v i g. drawn-none _ _ _ _ _ (room-lacks args.out.now args.pen.at pre.within _ _ _ (the-put-row.ensures.1 k q v i.rule i.key g) c.in_err-n.was))
