use Rattle.std.proofs.Common.{eqb, false, rules}
use Rattle.pens.specs.Noting.{note_of, notes_from}
use Rattle.pens.proofs.KeyRows.{noted-long, written, held_back}
use mathlib.Core.Path.{◌≡◌, refl, sym, ◌∙◌}
use Prim.Native.Nat.{ℕ, ◌+◌}
use mathlib.Core.Bool.{true}
use Rattle.pens.proofs.Writers.{kept-still}
use Rattle.pens.specs.Moves.{moved, among_figures}
use Rattle.pens.proofs.keys.row_line.Goals as goal

pub returns-in-9 : goal.returns-in-9
returns-in-9 c =
    let args = c.args in
    let the-put-at-once = c.put_at_once in
    (the-put-at-once.ensures.0, refl, λ k q v i g. written _ args.pen args.line.now.rest k args.line.now.row.number q v _ _ (λ (n : ℕ). moved args.pen n 9 0) _ _ _ (rw c.in-9.is) (rw c.in-9.is) (sym (rw c.in-9.is)) (the-put-at-once.ensures.1 k q v i g))

pub returns-in-12 : goal.returns-in-12
returns-in-12 c = (c.key_wire.ensures.0, c.key_wire.ensures.1, c.key_wire.ensures.2)

pub returns-in-10 : goal.returns-in-10
returns-in-10 c =
    let args = c.args in
    let pre = c.requires in
    (kept-still _ _ pre.0, noted-long args.notes.now _ (notes_from args.line.now.table + args.line.now.row.number) (note_of args.line.now.rest) c.note.ensures, λ k q v i g. held_back _ args.pen args.line.now.rest k args.line.now.row.number q v _ _ args.pen _ pre.0.within (rw c.in-10.is) (rw c.in-10.is) (c.note.ensures ∙ sym (rw c.in-10.is)))

pub put_at_once-requires-in-6 : goal.put_at_once-requires-in-6
put_at_once-requires-in-6 c = c.requires.0

pub returns-in-6 : goal.returns-in-6
returns-in-6 c =
    let args = c.args in
    let the-put-at-once2 = c.put_at_once-in-6 in
    (the-put-at-once2.ensures.0, refl, λ k q v i g. written _ args.pen args.line.now.rest k args.line.now.row.number q v _ _ (λ (n : ℕ). moved args.pen n 6 0) _ _ _ (rw c.in-6.is) (rw c.in-6.is) (sym (rw c.in-6.is)) (the-put-at-once2.ensures.1 k q v i g))

pub put_figures-requires : goal.put_figures-requires
put_figures-requires c = c.requires.0

pub returns-in_default : goal.returns-in_default
returns-in_default c =
    let args = c.args in
    let the-put-figures = c.put_figures in
    let n1 : eqb args.pen.block 8 ≡ false = search rules in
    let n2 : eqb args.pen.block 9 ≡ false = search rules in
    let n3 : eqb args.pen.block 12 ≡ false = search rules in
    let n4 : eqb args.pen.block 10 ≡ false = search rules in
    let n5 : eqb args.pen.block 11 ≡ false = search rules in
    let n6 : eqb args.pen.block 0 ≡ false = search rules in
    let n7 : eqb args.pen.block 1 ≡ false = search rules in
    let n8 : eqb args.pen.block 2 ≡ false = search rules in
    let n9 : eqb args.pen.block 4 ≡ false = search rules in
    let n10 : eqb args.pen.block 5 ≡ false = search rules in
    let n11 : eqb args.pen.block 6 ≡ false = search rules in
    (the-put-figures.ensures.0, refl, λ k q v i g. written _ args.pen args.line.now.rest k args.line.now.row.number q v _ _ (λ (n : ℕ). among_figures args.pen n true) _ _ _ (rw (n8, n10, n3, n7, n4, n5)) (rw (n1, n2, n3, n4, n5, n6, n7, n8, n9, n10, n11)) (sym (rw (n1, n6, n9, n8, n10, n3, n7, n4, n5))) (the-put-figures.ensures.1 k q v i g))
