use Rattle.pens.specs.Noting.{note_of, notes_from}
use Rattle.pens.proofs.RowsNoted.{kind-closed}
use Rattle.pens.proofs.KeyRows.{noted-long, placed_pen_lem, held_back, holds-is}
use mathlib.Core.Bool.{Bool, cond}
use Rattle.rules.specs.Values.{Kind}
use Rattle.rules.specs.FixedForm.{opens_block}
use Rattle.rules.specs.Rows.{inner_of}
use Rattle.pens.specs.Moves.{placed_pen, moved}
use mathlib.Core.Path.{sym, ◌∙◌, ap}
use Prim.Native.Nat.{◌+◌}
use Rattle.pens.proofs.Writers.{kept-still, kept-moved}
use Rattle.pens.proofs.keys.key_placed.Goals as goal

pub returns-then-line-eq-HOLDS_BLOCK : goal.returns-then-line-eq-HOLDS_BLOCK
returns-then-line-eq-HOLDS_BLOCK c =
    let args = c.args in
    let pre = c.requires in
    let the-note = c.note in
    (kept-moved _ args.pen _ _ _ pre.0 c.at_block.ensures, noted-long args.notes.now _ (notes_from args.line.now.table + args.line.now.row.number) (note_of args.line.now.rest) the-note.ensures, λ k q v i g. held_back _ args.pen args.line.now.rest k args.line.now.row.number q v _ _ c.at_block.result _ pre.0.within (rw pre.1) (placed_pen_lem args.pen args.line.now.row.number q.holds (opens_block q.holds v) (inner_of q.holds) 0 pre.1 ∙ ap (λ (d : Kind). placed_pen args.pen d) (sym (holds-is _ _ q _ i)) ∙ rw c.if-line-eq-HOLDS_BLOCK.true (sym c.at_block.ensures)) (the-note.ensures ∙ sym (rw pre.1)))

pub returns : goal.returns
returns c =
    let args = c.args in
    let pre = c.requires in
    let the-note = c.note in
    (kept-still _ _ pre.0, noted-long args.notes.now _ (notes_from args.line.now.table + args.line.now.row.number) (note_of args.line.now.rest) the-note.ensures, λ k q v i g. held_back _ args.pen args.line.now.rest k args.line.now.row.number q v _ _ args.pen _ pre.0.within (rw pre.1) (placed_pen_lem args.pen args.line.now.row.number q.holds (opens_block q.holds v) (inner_of q.holds) 0 pre.1 ∙ ap (λ (d : Kind). placed_pen args.pen d) (sym (holds-is _ _ q _ i)) ∙ ap (λ (b : Bool). cond b (moved args.pen 0 11 1) args.pen) (kind-closed args.line.now.row c.if-line-eq-HOLDS_BLOCK.false)) (the-note.ensures ∙ sym (rw pre.1)))
