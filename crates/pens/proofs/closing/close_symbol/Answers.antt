use Rattle.rules.specs.Blocks.{symbol_table}
use Rattle.rules.specs.RecordTable.{rule_at}
use Rattle.pens.specs.Closing.{row_bytes, shut_bytes}
use native.Mathlib.Omega.{arith}
use Prim.Native.Nat.{◌+◌}
use mathlib.Core.List.{◌++◌}
use lib.ListN.{length}
use Rattle.prints.proofs.Going.{is_full}
use Rattle.pens.proofs.Writers.{room-left, kept-long, kept_full, kept_then, lays, room-lacks, drawn_then, inserted, inserted-none, turned-room, last-same, last-room, last-full, last-lays, last_none}
use Rattle.pens.proofs.Closings.{shut_at, shut_none, safe-there, name-row, wall-row}
use Rattle.pens.proofs.closing.close_symbol.Goals as goal

pub returns-in_err-n : goal.returns-in_err-n
returns-in_err-n c =
    let args = c.args in
    let pre = c.requires in
    let the-put-noted = c.put_noted in
    rw (is_full _ c.from_residual.ensures.0) (kept_full args.out.now args.pen.at pre.0.within _ _ the-put-noted.ensures.0, λ k a b x y. inserted-none (row_bytes k (rule_at symbol_table 0) a) ((row_bytes k (rule_at symbol_table 3) b) ++ shut_bytes) args.pen.start args.pen.at _ args.out.now _ (room-lacks args.out.now args.pen.at pre.0.within _ _ (row_bytes k (rule_at symbol_table 0) a) (the-put-noted.ensures.1 k (rule_at symbol_table 0) a name-row x) c.in_err-n.was))

pub overflow_add-to : goal.overflow_add-to
overflow_add-to c =
    let args = c.args in
    let pre = c.requires in
    record { fits = omega (arith, room-left args.out.now args.pen.at pre.0.within _ _ c.put_noted.ensures.0 c.in_ok-n.n c.in_ok-n.was) }

pub slice_bounds-exchange-end : goal.slice_bounds-exchange-end
slice_bounds-exchange-end c =
    let args = c.args in
    let pre = c.requires in
    let the-put-noted = c.put_noted in
    omega (arith, room-left args.out.now args.pen.at pre.0.within _ _ the-put-noted.ensures.0 c.in_ok-n.n c.in_ok-n.was, kept-long args.out.now args.pen.at pre.0.within _ _ the-put-noted.ensures.0)

pub slice_bounds-put_noted-count-2 : goal.slice_bounds-put_noted-count-2
slice_bounds-put_noted-count-2 c =
    let args = c.args in
    let pre = c.requires in
    let the-put-noted = c.put_noted in
    turned-room args.out.now args.pen.at pre.0.within _ _ the-put-noted.ensures.0 c.in_ok-n.n c.in_ok-n.was args.pen.start _ c.exchange.ensures

pub slice_bounds-put_noted-start-2 : goal.slice_bounds-put_noted-start-2
slice_bounds-put_noted-start-2 c =
    let args = c.args in
    let pre = c.requires in
    let the-put-noted = c.put_noted in
    turned-room args.out.now args.pen.at pre.0.within _ _ the-put-noted.ensures.0 c.in_ok-n.n c.in_ok-n.was args.pen.start _ c.exchange.ensures

pub returns-in_err-m : goal.returns-in_err-m
returns-in_err-m c =
    let args = c.args in
    let pre = c.requires in
    let the-put-noted = c.put_noted in
    let the-exchange = c.exchange in
    let the-put-noted2 = c.put_noted-2 in
    rw (is_full _ c.from_residual-in_err-m.ensures.0) (last-full args.out.now args.pen.at pre.0.within _ _ the-put-noted.ensures.0 c.in_ok-n.n c.in_ok-n.was args.pen.start _ the-exchange.ensures _ _ the-put-noted2.ensures.0, λ k a b x y. let l = lays args.out.now args.pen.at pre.0.within _ _ (row_bytes k (rule_at symbol_table 0) a) (the-put-noted.ensures.1 k (rule_at symbol_table 0) a name-row x) c.in_ok-n.n c.in_ok-n.was in inserted (row_bytes k (rule_at symbol_table 0) a) c.in_ok-n.n args.pen.at args.out.now _ l args.pen.start pre.0.begun _ the-exchange.ensures ((row_bytes k (rule_at symbol_table 3) b) ++ shut_bytes) _ _ _ (shut_none (row_bytes k (rule_at symbol_table 3) b) (args.pen.at + c.in_ok-n.n) _ _ _ (last_none args.out.now args.pen.at pre.0.within _ _ the-put-noted.ensures.0 c.in_ok-n.n c.in_ok-n.was args.pen.start _ the-exchange.ensures _ _ (row_bytes k (rule_at symbol_table 3) b) (the-put-noted2.ensures.1 k (rule_at symbol_table 3) b wall-row y) c.in_err-m.was)))

pub overflow_add-n : goal.overflow_add-n
overflow_add-n c = record { fits = omega (arith, last-room c.args.out.now c.args.pen.at c.requires.0.within _ _ c.put_noted.ensures.0 c.in_ok-n.n c.in_ok-n.was c.args.pen.start _ c.exchange.ensures _ _ c.put_noted-2.ensures.0 c.in_ok-m.m c.in_ok-m.was) }

pub at_block-requires : goal.at_block-requires
at_block-requires c = omega (arith, last-room c.args.out.now c.args.pen.at c.requires.0.within _ _ c.put_noted.ensures.0 c.in_ok-n.n c.in_ok-n.was c.args.pen.start _ c.exchange.ensures _ _ c.put_noted-2.ensures.0 c.in_ok-m.m c.in_ok-m.was)

pub shut-requires : goal.shut-requires
shut-requires c =
    let args = c.args in
    let pre = c.requires in
    let the-put-noted = c.put_noted in
    let the-exchange = c.exchange in
    let the-put-noted2 = c.put_noted-2 in
    safe-there args.pen _ (c.in_ok-n.n + c.in_ok-m.m) 5 c.at_block.ensures _ pre.0.begun (omega (arith, last-room args.out.now args.pen.at pre.0.within _ _ the-put-noted.ensures.0 c.in_ok-n.n c.in_ok-n.was args.pen.start _ the-exchange.ensures _ _ the-put-noted2.ensures.0 c.in_ok-m.m c.in_ok-m.was, last-same args.out.now args.pen.at pre.0.within _ _ the-put-noted.ensures.0 c.in_ok-n.n c.in_ok-n.was args.pen.start _ the-exchange.ensures _ _ the-put-noted2.ensures.0))

pub returns : goal.returns
returns c =
    let args = c.args in
    let pre = c.requires in
    let the-put-noted = c.put_noted in
    let the-exchange = c.exchange in
    let the-put-noted2 = c.put_noted-2 in
    (kept_then _ _ _ _ (last-same args.out.now args.pen.at pre.0.within _ _ the-put-noted.ensures.0 c.in_ok-n.n c.in_ok-n.was args.pen.start _ the-exchange.ensures _ _ the-put-noted2.ensures.0) c.shut.ensures.0, λ k a b x y. let l = lays args.out.now args.pen.at pre.0.within _ _ (row_bytes k (rule_at symbol_table 0) a) (the-put-noted.ensures.1 k (rule_at symbol_table 0) a name-row x) c.in_ok-n.n c.in_ok-n.was in let m = last-lays args.out.now args.pen.at pre.0.within _ _ the-put-noted.ensures.0 c.in_ok-n.n c.in_ok-n.was args.pen.start _ the-exchange.ensures _ _ (row_bytes k (rule_at symbol_table 3) b) (the-put-noted2.ensures.1 k (rule_at symbol_table 3) b wall-row y) c.in_ok-m.m c.in_ok-m.was in inserted (row_bytes k (rule_at symbol_table 0) a) c.in_ok-n.n args.pen.at args.out.now _ l args.pen.start pre.0.begun _ the-exchange.ensures ((row_bytes k (rule_at symbol_table 3) b) ++ shut_bytes) _ _ _ (drawn_then (row_bytes k (rule_at symbol_table 3) b) c.in_ok-m.m (args.pen.at + c.in_ok-n.n) _ _ m shut_bytes _ _ _ (shut_at args.pen _ (c.in_ok-n.n + c.in_ok-m.m) 5 c.at_block.ensures (length (row_bytes k (rule_at symbol_table 0) a) + (length (row_bytes k (rule_at symbol_table 3) b) + 3)) 4 ((args.pen.at + c.in_ok-n.n) + c.in_ok-m.m) _ _ _ (omega (arith, l.size, m.size)) (omega arith) c.shut.ensures.1)))
