use Rattle.rules.specs.FixedForm.{opens_block, line_of}
use Rattle.pens.specs.Texts.{ended}
use Rattle.pens.specs.Noting.{note_of, figure_notes}
use Rattle.pens.proofs.KeyRows.{figure-is, figure_pen, figure-notes, written, figure-notes-long}
use Rattle.rules.specs.Rows.{inner_of}
use mathlib.Core.List.{List}
use mathlib.Core.Path.{sym, ◌∙◌, ap}
use Prim.Native.Nat.{ℕ}
use lib.ListN.{length}
use Rattle.pens.specs.Moves.{moved}
use Rattle.pens.proofs.keys.key_figures.Goals as goal

pub returns : goal.returns
returns c =
    let args = c.args in
    let pre = c.requires in
    let the-figure-block = c.figure_block-block in
    let the-forget-for = c.forget_for in
    let the-put-at-once = c.put_at_once in
    (the-put-at-once.ensures.0, ap (λ (l : List ℕ). length l) the-forget-for.ensures ∙ figure-notes-long the-figure-block.result args.notes.now, λ k q v i g. let b = figure-is _ _ q args.line.now.row _ the-figure-block.ensures i in written _ args.pen args.line.now.rest k args.line.now.row.number q v _ _ (λ (n : ℕ). moved args.pen n the-figure-block.result 0) _ _ _ (rw pre.1) (figure_pen args.pen args.line.now.row.number q.holds (opens_block q.holds v) (inner_of q.holds) (length (ended (line_of k q v))) pre.1 ∙ ap (λ (x : ℕ). moved args.pen (length (ended (line_of k q v))) x 0) (sym b)) (the-forget-for.ensures ∙ ap (λ (x : ℕ). figure_notes x args.notes.now) b ∙ sym (figure-notes args.pen args.line.now.table args.line.now.row.number q.holds (inner_of q.holds) (note_of args.line.now.rest) args.notes.now pre.1)) (the-put-at-once.ensures.1 k q v i g))
