use Rattle.pens.specs.Noting.{note_of, notes_from}
use Rattle.pens.proofs.KeyRows.{noted-long, written, held_back}
use borrow.Author.Tests.{ne_eqb}
use mathlib.Core.Path.{refl, sym, ◌∙◌}
use Prim.Native.Nat.{ℕ, ◌+◌}
use Rattle.pens.proofs.Writers.{kept-still}
use Rattle.pens.specs.Moves.{moved}
use Rattle.pens.proofs.keys.key_drawing.Goals as goal

pub returns-then-line-eq-ROW_LAYER_NAME : goal.returns-then-line-eq-ROW_LAYER_NAME
returns-then-line-eq-ROW_LAYER_NAME c =
    let args = c.args in
    let pre = c.requires in
    let the-if1 = c.if-line-eq-ROW_LAYER_NAME in
    let the-put-at-once = c.put_at_once in
    (the-put-at-once.ensures.0, refl, λ k q v i g. written _ args.pen args.line.now.rest k args.line.now.row.number q v _ _ (λ (n : ℕ). moved args.pen n 3 0) _ _ _ (rw (pre.1, the-if1.true)) (rw (pre.1, the-if1.true)) (sym (rw (pre.1, the-if1.true))) (the-put-at-once.ensures.1 k q v i g))

pub returns : goal.returns
returns c =
    let args = c.args in
    let pre = c.requires in
    let the-if1 = c.if-line-eq-ROW_LAYER_NAME in
    (kept-still _ _ pre.0, noted-long args.notes.now _ (notes_from args.line.now.table + args.line.now.row.number) (note_of args.line.now.rest) c.note.ensures, λ k q v i g. held_back _ args.pen args.line.now.rest k args.line.now.row.number q v _ _ args.pen _ pre.0.within (rw (pre.1, ne_eqb _ _ the-if1.false)) (rw (pre.1, ne_eqb _ _ the-if1.false)) (c.note.ensures ∙ sym (rw (pre.1, ne_eqb _ _ the-if1.false))))
