use mathlib.Core.List.{List}
use borrow.Author.Tests.{ne_eqb}
use mathlib.Core.Path.{refl, sym, ◌∙◌, ap}
use Prim.Native.Nat.{ℕ}
use lib.ListN.{length}
use Rattle.pens.proofs.KeyRows.{written, forgotten-long}
use Rattle.pens.specs.Moves.{moved, begun}
use Rattle.pens.proofs.keys.key_defines.Goals as goal

pub returns-then-line-eq0 : goal.returns-then-line-eq0
returns-then-line-eq0 c =
    let args = c.args in
    let pre = c.requires in
    let the-if1 = c.if-line-eq0 in
    let the-put-at-once = c.put_at_once in
    (the-put-at-once.ensures.0, refl, λ k q v i g. written _ args.pen args.line.now.rest k args.line.now.row.number q v _ _ (λ (n : ℕ). moved args.pen n 4 0) _ _ _ (rw pre.1) (rw (pre.1, the-if1.true)) (sym (rw (pre.1, the-if1.true))) (the-put-at-once.ensures.1 k q v i g))

pub returns : goal.returns
returns c =
    let args = c.args in
    let pre = c.requires in
    let the-if1 = c.if-line-eq0 in
    let the-forget = c.forget in
    (c.put_begun.ensures.0, ap (λ (l : List ℕ). length l) the-forget.ensures ∙ forgotten-long args.notes.now, λ k q v i g. written _ args.pen args.line.now.rest k args.line.now.row.number q v _ _ (λ (n : ℕ). begun args.pen n 5) _ _ _ (rw pre.1) (rw (pre.1, ne_eqb _ _ the-if1.false)) (the-forget.ensures ∙ sym (rw (pre.1, ne_eqb _ _ the-if1.false))) (c.put_begun.ensures.1 k q v i g))
