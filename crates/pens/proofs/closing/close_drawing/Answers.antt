use mathlib.Core.Path.{refl}
use native.Mathlib.Omega.{arith}
use Prim.Native.Nat.{◌+◌}
use mathlib.Core.List.{[], ◌∷◌}
use lib.ListN.{length}
use Rattle.pens.specs.Closing.{shut_bytes, drawing_rows}
use Rattle.prints.proofs.Going.{is_full}
use Rattle.pens.proofs.Writers.{room-left, kept-long, kept_full, kept_then, lays, room-lacks, inserted, inserted-none, turned_same, turned-room}
use Rattle.pens.proofs.Closings.{shut_at, safe-there, tables-some, drawing-part}
use Rattle.pens.proofs.closing.close_drawing.Goals as goal

pub overflow_add-to : goal.overflow_add-to
overflow_add-to c =
    let args = c.args in
    let pre = c.requires in
    record { fits = omega (arith, room-left args.out.now args.pen.at pre.within _ _ c.put_rows.ensures.0 c.in_ok-n.n c.in_ok-n.was) }

pub slice_bounds-exchange-end : goal.slice_bounds-exchange-end
slice_bounds-exchange-end c =
    let args = c.args in
    let pre = c.requires in
    let the-put-rows = c.put_rows in
    omega (arith, room-left args.out.now args.pen.at pre.within _ _ the-put-rows.ensures.0 c.in_ok-n.n c.in_ok-n.was, kept-long args.out.now args.pen.at pre.within _ _ the-put-rows.ensures.0)

pub at_block-requires : goal.at_block-requires
at_block-requires c =
    let args = c.args in
    let pre = c.requires in
    let the-put-rows = c.put_rows in
    omega (arith, room-left args.out.now args.pen.at pre.within _ _ the-put-rows.ensures.0 c.in_ok-n.n c.in_ok-n.was)

pub shut-requires : goal.shut-requires
shut-requires c =
    let args = c.args in
    let pre = c.requires in
    let the-put-rows = c.put_rows in
    safe-there args.pen _ c.in_ok-n.n 2 c.at_block.ensures _ pre.begun (turned-room args.out.now args.pen.at pre.within _ _ the-put-rows.ensures.0 c.in_ok-n.n c.in_ok-n.was args.pen.start _ c.exchange.ensures)

pub returns-in_err-n : goal.returns-in_err-n
returns-in_err-n c =
    let args = c.args in
    let pre = c.requires in
    let the-put-rows = c.put_rows in
    rw (is_full _ c.from_residual.ensures.0) (kept_full args.out.now args.pen.at pre.within _ _ the-put-rows.ensures.0, λ k s z. inserted-none (drawing_rows k s) shut_bytes args.pen.start args.pen.at _ args.out.now _ (room-lacks args.out.now args.pen.at pre.within _ _ _ (the-put-rows.ensures.1 refl k (s ∷ []) 0 (drawing-part _ k _ s z) (tables-some 7) refl) c.in_err-n.was))

pub returns : goal.returns
returns c =
    let args = c.args in
    let pre = c.requires in
    let the-put-rows = c.put_rows in
    let the-exchange = c.exchange in
    (kept_then _ _ _ _ (turned_same args.out.now args.pen.at pre.within _ _ the-put-rows.ensures.0 c.in_ok-n.n c.in_ok-n.was args.pen.start _ the-exchange.ensures) c.shut.ensures.0, λ k s z. let l = lays args.out.now args.pen.at pre.within _ _ (drawing_rows k s) (the-put-rows.ensures.1 refl k (s ∷ []) 0 (drawing-part _ k _ s z) (tables-some 7) refl) c.in_ok-n.n c.in_ok-n.was in inserted (drawing_rows k s) c.in_ok-n.n args.pen.at args.out.now _ l args.pen.start pre.begun _ the-exchange.ensures shut_bytes _ _ _ (shut_at args.pen _ c.in_ok-n.n 2 c.at_block.ensures (length (drawing_rows k s) + 3) 0 _ _ _ _ (omega (arith, l.size)) refl c.shut.ensures.1))
