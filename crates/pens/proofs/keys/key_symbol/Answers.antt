use Rattle.std.proofs.Common.{◌≡◌, eqb, rules}
use Rattle.pens.specs.Noting.{note_of, notes_from}
use Rattle.pens.proofs.KeyRows.{noted-long, written, held_back}
use mathlib.Core.Bool.{false}
use mathlib.Core.Path.{refl, sym, ◌∙◌}
use Prim.Native.Nat.{ℕ, ◌+◌}
use Rattle.pens.proofs.Writers.{kept-still}
use Rattle.pens.specs.Moves.{moved, among_figures}
use Rattle.pens.proofs.keys.key_symbol.Goals as goal

pub returns-in-1 : goal.returns-in-1
returns-in-1 c =
    let args = c.args in
    let pre = c.requires in
    let the-put-figures = c.put_figures in
    (the-put-figures.ensures.0, refl, λ k q v i g. written _ args.pen args.line.now.rest k args.line.now.row.number q v _ _ (λ (n : ℕ). among_figures args.pen n false) _ _ _ (rw (pre.1, c.in-1.is)) (rw (pre.1, c.in-1.is)) (sym (rw (pre.1, c.in-1.is))) (the-put-figures.ensures.1 k q v i g))

pub returns-in-2 : goal.returns-in-2
returns-in-2 c =
    let args = c.args in
    let pre = c.requires in
    let the-put-at-once = c.put_at_once in
    (the-put-at-once.ensures.0, refl, λ k q v i g. written _ args.pen args.line.now.rest k args.line.now.row.number q v _ _ (λ (n : ℕ). moved args.pen n 6 0) _ _ _ (rw (pre.1, c.in-2.is)) (rw (pre.1, c.in-2.is)) (sym (rw (pre.1, c.in-2.is))) (the-put-at-once.ensures.1 k q v i g))

pub returns-in_default : goal.returns-in_default
returns-in_default c =
    let n1 : eqb c.args.line.now.row.number 1 ≡ false = search rules in
    let n2 : eqb c.args.line.now.row.number 2 ≡ false = search rules in
    let args = c.args in
    let pre = c.requires in
    (kept-still _ _ pre.0, noted-long args.notes.now _ (notes_from args.line.now.table + args.line.now.row.number) (note_of args.line.now.rest) c.note.ensures, λ k q v i g. held_back _ args.pen args.line.now.rest k args.line.now.row.number q v _ _ args.pen _ pre.0.within (rw (pre.1, n1, n2)) (rw (pre.1, n1, n2)) (c.note.ensures ∙ sym (rw (pre.1, n1, n2))))
