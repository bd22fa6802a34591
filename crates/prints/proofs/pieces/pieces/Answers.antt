use native.Mathlib.Omega.{arith}
use Rattle.prints.proofs.Going.{is_full}
use Rattle.prints.proofs.Commas.{last_full, last_piece, piece_full, comma_full, one_more}
use Rattle.prints.proofs.pieces.pieces.Goals as goal

pub returns-in_err-piece : goal.returns-in_err-piece
returns-in_err-piece c = rw (is_full _ c.from_residual.ensures.0) (last_full c.args.forms c.args.alike c.args.c.now c.args.out.now _ _ _ _ c.loop-rest.invariant _ c.find-e.ensures c.if-rest-e.true _ c.in_err-piece.ensures)

pub returns-then-rest-e : goal.returns-then-rest-e
returns-then-rest-e c = last_piece c.args.forms c.args.alike c.args.c.now c.args.out.now _ _ _ _ c.loop-rest.invariant _ c.find-e.ensures c.if-rest-e.true _ _ c.in_ok-piece.ensures

pub returns-in_err-n : goal.returns-in_err-n
returns-in_err-n c = rw (is_full _ c.from_residual-in_err-n.ensures.0) (piece_full c.args.forms c.args.alike c.args.c.now c.args.out.now _ _ _ _ c.loop-rest.invariant _ c.find-e.ensures c.if-rest-e.false _ c.in_err-n.ensures)

pub returns-in_err-n-2 : goal.returns-in_err-n-2
returns-in_err-n-2 c = rw (is_full _ c.from_residual-in_err-n-2.ensures.0) (comma_full c.args.forms c.args.alike c.args.c.now c.args.out.now _ _ _ _ c.loop-rest.invariant _ c.find-e.ensures c.if-rest-e.false _ _ c.in_ok-n.ensures _ c.in_err-n-2.ensures)

pub overflow_add-rest : goal.overflow_add-rest
overflow_add-rest c = record { fits = omega (arith, c.loop-rest.invariant.within, c.if-rest-e.false) }

pub loop-rest-preserved : goal.loop-rest-preserved
loop-rest-preserved c = one_more c.args.forms c.args.alike c.args.c.now c.args.out.now _ _ _ _ c.loop-rest.invariant _ c.find-e.ensures c.if-rest-e.false _ _ c.in_ok-n.ensures _ _ c.in_ok-n-2.ensures _ c.behind_first-left.ensures
