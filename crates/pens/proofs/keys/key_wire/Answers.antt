use Prim.Native.Nat.{ℕ, ◌+◌}
use mathlib.Core.Bool.{Bool, cond}
use mathlib.Core.Path.{refl, sym, ◌∙◌, ap}
use Rattle.rules.specs.Values.{Kind}
use Rattle.rules.specs.Rows.{inner_of}
use Rattle.rules.specs.FixedForm.{opens_block, line_of}
use lib.ListN.{length}
use Rattle.pens.specs.Texts.{ended}
use Rattle.pens.specs.Moves.{moved, wire_pen}
use Rattle.pens.specs.Noting.{note_of, notes_from}
use Rattle.pens.proofs.RowsNoted.{kind-closed}
use Rattle.pens.proofs.KeyRows.{noted-long, written, held_back, holds-is, wire_pen_lem, wire-element_pen, wire-once, wire-noted, wire-written}
use Rattle.pens.proofs.Writers.{kept-still, kept-moved}
use Rattle.pens.proofs.keys.key_wire.Goals as goal

pub returns-then-at_once_in_wire : goal.returns-then-at_once_in_wire
returns-then-at_once_in_wire c =
    let args = c.args in
    let once = sym c.at_once_in_wire.ensures ∙ c.if-at_once_in_wire.true in
    (c.put_at_once.ensures.0, refl, λ k q v i g. written _ args.pen args.line.now.rest k args.line.now.row.number q v _ _ (λ (n : ℕ). moved args.pen n 12 0) _ _ _ (wire-once args.pen args.line.now.row.number _ c.requires.1 once) (wire-element_pen args.pen args.line.now.row.number q.holds (opens_block q.holds v) (inner_of q.holds) (length (ended (line_of k q v))) c.requires.1 once) (sym (wire-written args.pen args.line.now.table args.line.now.row.number q.holds (inner_of q.holds) (note_of args.line.now.rest) args.notes.now c.requires.1 once)) (c.put_at_once.ensures.1 k q v i g))

pub returns-then-line-eq-HOLDS_BLOCK : goal.returns-then-line-eq-HOLDS_BLOCK
returns-then-line-eq-HOLDS_BLOCK c =
    let args = c.args in
    let once = sym c.at_once_in_wire.ensures ∙ c.if-at_once_in_wire.false in
    (kept-moved _ args.pen _ _ _ c.requires.0 c.at_block.ensures, noted-long args.notes.now _ (notes_from args.line.now.table + args.line.now.row.number) (note_of args.line.now.rest) c.note.ensures, λ k q v i g. held_back _ args.pen args.line.now.rest k args.line.now.row.number q v _ _ c.at_block.result _ c.requires.0.within (wire-once args.pen args.line.now.row.number _ c.requires.1 once) (wire_pen_lem args.pen args.line.now.row.number q.holds (opens_block q.holds v) (inner_of q.holds) 0 c.requires.1 ∙ ap (λ (d : Kind). wire_pen args.pen args.line.now.row.number d 0) (sym (holds-is _ _ q _ i)) ∙ rw (once, c.if-line-eq-HOLDS_BLOCK.true) (sym c.at_block.ensures)) (c.note.ensures ∙ sym (wire-noted args.pen args.line.now.table args.line.now.row.number q.holds (inner_of q.holds) (note_of args.line.now.rest) args.notes.now c.requires.1 once)))

pub returns : goal.returns
returns c =
    let args = c.args in
    let once = sym c.at_once_in_wire.ensures ∙ c.if-at_once_in_wire.false in
    (kept-still _ _ c.requires.0, noted-long args.notes.now _ (notes_from args.line.now.table + args.line.now.row.number) (note_of args.line.now.rest) c.note.ensures, λ k q v i g. held_back _ args.pen args.line.now.rest k args.line.now.row.number q v _ _ args.pen _ c.requires.0.within (wire-once args.pen args.line.now.row.number _ c.requires.1 once) (wire_pen_lem args.pen args.line.now.row.number q.holds (opens_block q.holds v) (inner_of q.holds) 0 c.requires.1 ∙ ap (λ (d : Kind). wire_pen args.pen args.line.now.row.number d 0) (sym (holds-is _ _ q _ i)) ∙ rw once (ap (λ (b : Bool). cond b (moved args.pen 0 12 1) args.pen) (kind-closed args.line.now.row c.if-line-eq-HOLDS_BLOCK.false))) (c.note.ensures ∙ sym (wire-noted args.pen args.line.now.table args.line.now.row.number q.holds (inner_of q.holds) (note_of args.line.now.rest) args.notes.now c.requires.1 once)))
