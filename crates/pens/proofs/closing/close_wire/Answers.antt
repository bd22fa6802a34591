use mathlib.Core.List.{◌++◌}
use mathlib.Core.Path.{refl, ◌∙◌}
use native.Mathlib.Omega.{arith}
use lib.ListN.{length, length-append}
use Rattle.pens.specs.Texts.{line_bytes}
use Rattle.pens.specs.Closing.{shut_bytes}
use Rattle.pens.specs.Groups.{keys_text}
use Rattle.prints.proofs.Going.{is_full}
use Rattle.pens.proofs.Writers.{room-left, kept-long, kept_full, kept_then, lays, room-lacks, drawn_then}
use Rattle.pens.proofs.Closings.{shut_at, shut_none, safe-there}
use Rattle.pens.proofs.closing.close_wire.Goals as goal

pub at_block-requires : goal.at_block-requires
at_block-requires c =
    let args = c.args in
    let pre = c.requires in
    omega (arith, room-left args.out.now args.pen.at pre.within _ _ c.put_keys.ensures.0 c.in_ok-n.n c.in_ok-n.was)

pub shut-requires : goal.shut-requires
shut-requires c =
    let args = c.args in
    let pre = c.requires in
    safe-there args.pen _ c.in_ok-n.n 12 c.at_block.ensures _ pre.begun (omega (arith, room-left args.out.now args.pen.at pre.within _ _ c.put_keys.ensures.0 c.in_ok-n.n c.in_ok-n.was, kept-long args.out.now args.pen.at pre.within _ _ c.put_keys.ensures.0))

pub returns : goal.returns
returns c =
    let args = c.args in
    let pre = c.requires in (
      kept_then _ _ _ _ (kept-long args.out.now args.pen.at pre.within _ _ c.put_keys.ensures.0) c.shut.ensures.0,
      λ k t z.
          let l = lays args.out.now args.pen.at pre.within _ _ (line_bytes (keys_text t 8)) (c.put_keys.ensures.1 k t z) c.in_ok-n.n c.in_ok-n.was in
          drawn_then (line_bytes (keys_text t 8)) c.in_ok-n.n args.pen.at args.out.now _ l shut_bytes _ _ _
          (shut_at args.pen _ c.in_ok-n.n 12 c.at_block.ensures (length (line_bytes (keys_text t 8) ++ shut_bytes)) 8 _ _ _ _ (length-append (line_bytes (keys_text t 8)) shut_bytes ∙ omega (arith, l.size)) refl c.shut.ensures.1),
    )

pub returns-in_err-n : goal.returns-in_err-n
returns-in_err-n c =
    let args = c.args in
    let pre = c.requires in rw (is_full _ c.from_residual.ensures.0) (
      kept_full args.out.now args.pen.at pre.within _ _ c.put_keys.ensures.0,
      λ k t z. shut_none (line_bytes (keys_text t 8)) args.pen.at _ args.out.now _ (room-lacks args.out.now args.pen.at pre.within _ _ (line_bytes (keys_text t 8)) (c.put_keys.ensures.1 k t z) c.in_err-n.was),
    )
