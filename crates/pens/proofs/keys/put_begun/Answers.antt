use Prim.Native.Nat.{ℕ}
use mathlib.Core.Path.{refl}
use native.Mathlib.Omega.{arith}
use Rattle.prints.proofs.Going.{is_full}
use Rattle.pens.proofs.Writers.{room-left, kept-go, kept_full, lays, room-lacks, drawn-go, drawn-none}
use Rattle.pens.specs.Moves.{begun}
use Rattle.pens.proofs.keys.put_begun.Goals as goal

pub begun-requires : goal.begun-requires
begun-requires c =
    let args = c.args in
    let pre = c.requires in
    omega (arith, room-left args.out.now args.pen.at pre.within _ _ c.put_row.ensures.0 c.in_ok-n.n c.in_ok-n.was)

pub returns : goal.returns
returns c =
    let args = c.args in
    let pre = c.requires in
    let the-put-row = c.put_row in
    (kept-go args.out.now args.pen.at pre.within _ _ the-put-row.ensures.0 c.in_ok-n.n (begun args.pen c.in_ok-n.n args.block) _ c.in_ok-n.was c.begun.ensures (omega (arith, pre.begun)) refl, λ k q v i g. drawn-go _ _ _ _ _ (lays args.out.now args.pen.at pre.within _ _ _ (the-put-row.ensures.1 k q v i.rule i.key g) c.in_ok-n.n c.in_ok-n.was) (λ (m : ℕ). begun args.pen (m) args.block) _ c.begun.ensures)

pub returns-in_err-n : goal.returns-in_err-n
returns-in_err-n c =
    let args = c.args in
    let pre = c.requires in
    let the-put-row = c.put_row in
    rw (is_full _ c.from_residual.ensures.0) (kept_full args.out.now args.pen.at pre.within _ _ the-put-row.ensures.0, λ k q v i g. drawn-none _ _ _ _ _ (room-lacks args.out.now args.pen.at pre.within _ _ _ (the-put-row.ensures.1 k q v i.rule i.key g) c.in_err-n.was))
