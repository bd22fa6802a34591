use native.Mathlib.Omega.{arith}
use mathlib.Core.Path.{◌∙◌, ap}
use lib.ListN.{get_or}
use Rattle.pens.proofs.Behind.{within_mid, within-full, behind-long, behind-within, within_none}
use Rattle.pens.proofs.PartsNoted.{part-printed, slot-full, slot-part-full, slot-printed, rows_last, rows-full, rows-others-full, rows-printed}
use Prim.Native.Nat.{ℕ, ◌+◌, ◌-◌}
use Rattle.prints.proofs.Going.{is_full}
use Rattle.pens.proofs.noted.+parts.Goals.{put_rows-then-depth-eq0-via-then-depth-eq0, put_rows-then-depth-eq0-via-else-depth-eq0+then-rows_in-j}
use Rattle.pens.proofs.noted.+parts.Goals as goal
use Rattle.std.proofs.Common.{rules}

pub put_part-returns : goal.put_part-returns
put_part-returns t c =
    let args = c.args in
    let a = c.in_ok-n.ensures in
    let q = c.in_ok-put_plain.ensures in
    (behind-within _ _ _ _ a.0 _ q.0, part-printed args.s.now args.base args.notes.now args.depth args.inner c.if-inner-eq-NO_TABLE.false _ _ _ a.1 _ _ q.1)

pub put_rows-returns-then-depth-eq0 : goal.put_rows-returns-then-depth-eq0
put_rows-returns-then-depth-eq0 t c =
    let args = c.args in
    elim c.then-depth-eq0.branch [ put_rows-then-depth-eq0-via-then-depth-eq0 w ↦ search rules | put_rows-then-depth-eq0-via-else-depth-eq0+then-rows_in-j w ↦ (within_none _, rows_last args.s.now args.base args.notes.now args.depth args.table args.j _ (omega (arith, w.rows_in.ensures, w.if-rows_in-j.true))) ]

pub put_rows-returns-in_err-n : goal.put_rows-returns-in_err-n
put_rows-returns-in_err-n t c =
    let args = c.args in
    let a = c.in_err-n.ensures in
    rw (is_full _ c.from_residual.ensures.0) (a.0, rows-full args.s.now args.base args.notes.now args.depth (args.depth - 1) args.table args.j (omega (arith, c.if-depth-eq0.false)) (omega (arith, c.rows_in.ensures, c.if-rows_in-j.false)) _ _ a.1)

pub put_rows-returns-in_err-put_rows : goal.put_rows-returns-in_err-put_rows
put_rows-returns-in_err-put_rows t c =
    let args = c.args in
    let a = c.in_ok-n.ensures in
    let q = c.in_err-put_rows.ensures in
    rw (is_full _ c.from_residual-in_err-put_rows.ensures.0) (within-full _ _ (behind-long _ _ _ _ a.0 _ q.0), rows-others-full args.s.now args.base args.notes.now args.depth (args.depth - 1) args.table args.j (omega (arith, c.if-depth-eq0.false)) (omega (arith, c.rows_in.ensures, c.if-rows_in-j.false)) _ _ _ a.1 _ q.1)

pub put_rows-returns : goal.put_rows-returns
put_rows-returns t c =
    let args = c.args in
    let a = c.in_ok-n.ensures in
    let q = c.in_ok-put_rows.ensures in
    (behind-within _ _ _ _ a.0 _ q.0, rows-printed args.s.now args.base args.notes.now args.depth (args.depth - 1) args.table args.j (omega (arith, c.if-depth-eq0.false)) (omega (arith, c.rows_in.ensures, c.if-rows_in-j.false)) _ _ _ a.1 _ _ q.1)

pub put_slot-returns-in_err-n : goal.put_slot-returns-in_err-n
put_slot-returns-in_err-n t c =
    let args = c.args in
    rw (is_full _ c.from_residual.ensures.0) (within-full _ _ (c.put_noted.ensures.0.long ∙ c.inner_table-inner.auto.out), slot-full args.s.now args.base args.notes.now args.depth args.table args.j c.note_at-note.result c.inner_table-inner.result _ _ _ _ (c.note_at-note.ensures ∙ ap (λ (i : ℕ). get_or args.notes.now (i + args.j) 0) c.notes_from.ensures) c.inner_table-inner.ensures c.put_noted.ensures.1 c.in_err-n.was)

pub put_slot-returns-in_err-put_part : goal.put_slot-returns-in_err-put_part
put_slot-returns-in_err-put_part t c =
    let args = c.args in
    let w = within_mid args.out.now _ _ _ c.inner_table-inner.auto.out c.in_ok-n.ensures.0 in
    let q = c.in_err-put_part.ensures in
    rw (is_full _ c.from_residual-in_err-put_part.ensures.0) (within-full _ _ (behind-long _ _ _ _ w _ q.0), slot-part-full args.s.now args.base args.notes.now args.depth args.table args.j c.note_at-note.result c.inner_table-inner.result args.out.now _ _ _ (c.note_at-note.ensures ∙ ap (λ (i : ℕ). get_or args.notes.now (i + args.j) 0) c.notes_from.ensures) c.inner_table-inner.ensures c.put_noted.ensures.1 _ c.in_ok-n.was _ q.1)

pub put_slot-returns : goal.put_slot-returns
put_slot-returns t c =
    let args = c.args in
    let w = within_mid args.out.now _ _ _ c.inner_table-inner.auto.out c.in_ok-n.ensures.0 in
    let q = c.in_ok-put_part.ensures in
    (behind-within _ _ _ _ w _ q.0, slot-printed args.s.now args.base args.notes.now args.depth args.table args.j c.note_at-note.result c.inner_table-inner.result args.out.now _ _ _ (c.note_at-note.ensures ∙ ap (λ (i : ℕ). get_or args.notes.now (i + args.j) 0) c.notes_from.ensures) c.inner_table-inner.ensures c.put_noted.ensures.1 _ c.in_ok-n.was _ _ q.1)
