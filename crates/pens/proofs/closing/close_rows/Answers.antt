use Rattle.pens.specs.Texts.{line_bytes}
use Rattle.pens.specs.Noting.{tables_of, show_depth}
use mathlib.Core.Path.{refl, ◌∙◌}
use native.Mathlib.Omega.{arith}
use mathlib.Core.List.{[], ◌++◌}
use lib.ListN.{length, length-append}
use Rattle.pens.specs.Closing.{shut_bytes}
use Rattle.prints.proofs.Going.{is_full}
use Rattle.pens.proofs.Writers.{room-left, kept-long, kept_full, kept_then, lays, room-lacks, drawn_then}
use Rattle.pens.proofs.Closings.{shut_at, shut_none, safe-there, tables-some}
use Rattle.pens.proofs.closing.close_rows.Goals as goal

pub at_block-requires : goal.at_block-requires
at_block-requires c =
    let args = c.args in
    let pre = c.requires in
    omega (arith, room-left args.out.now args.pen.at pre.0.within _ _ c.put_rows.ensures.0 c.in_ok-n.n c.in_ok-n.was)

pub shut-requires : goal.shut-requires
shut-requires c =
    let args = c.args in
    let pre = c.requires in
    let the-put-rows = c.put_rows in
    safe-there args.pen _ c.in_ok-n.n args.block c.at_block.ensures _ pre.0.begun (omega (arith, room-left args.out.now args.pen.at pre.0.within _ _ the-put-rows.ensures.0 c.in_ok-n.n c.in_ok-n.was, kept-long args.out.now args.pen.at pre.0.within _ _ the-put-rows.ensures.0))

pub returns : goal.returns
returns c =
    let args = c.args in
    let pre = c.requires in
    let the-put-rows = c.put_rows in
    (kept_then _ _ _ _ (kept-long args.out.now args.pen.at pre.0.within _ _ the-put-rows.ensures.0) c.shut.ensures.0, λ k h z. let l = lays args.out.now args.pen.at pre.0.within _ _ (line_bytes (show_depth k (tables_of args.base) h 3 0 [])) (the-put-rows.ensures.1 pre.1 k h 0 z (tables-some args.base) refl) c.in_ok-n.n c.in_ok-n.was in drawn_then (line_bytes (show_depth k (tables_of args.base) h 3 0 [])) c.in_ok-n.n args.pen.at args.out.now _ l shut_bytes _ _ _ (shut_at args.pen _ c.in_ok-n.n args.block c.at_block.ensures (length ((line_bytes (show_depth k (tables_of args.base) h 3 0 [])) ++ shut_bytes)) args.block _ _ _ _ (length-append (line_bytes (show_depth k (tables_of args.base) h 3 0 [])) shut_bytes ∙ omega (arith, l.size)) refl c.shut.ensures.1))

pub returns-in_err-n : goal.returns-in_err-n
returns-in_err-n c =
    let args = c.args in
    let pre = c.requires in
    let the-put-rows = c.put_rows in
    rw (is_full _ c.from_residual.ensures.0) (kept_full args.out.now args.pen.at pre.0.within _ _ the-put-rows.ensures.0, λ k h z. shut_none (line_bytes (show_depth k (tables_of args.base) h 3 0 [])) args.pen.at _ args.out.now _ (room-lacks args.out.now args.pen.at pre.0.within _ _ (line_bytes (show_depth k (tables_of args.base) h 3 0 [])) (the-put-rows.ensures.1 pre.1 k h 0 z (tables-some args.base) refl) c.in_err-n.was))
