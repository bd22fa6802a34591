use Rattle.std.proofs.Common.{◌≡◌, eqb, false, rules}
use mathlib.Core.List.{List}
use mathlib.Core.Path.{sym, ◌∙◌, ap}
use Prim.Native.Nat.{ℕ}
use lib.ListN.{length}
use Rattle.pens.proofs.KeyRows.{written, forgotten-long}
use Rattle.pens.specs.Moves.{moved, begun}
use Rattle.pens.proofs.keys.key_top.Goals as goal

pub returns-in-0 : goal.returns-in-0
returns-in-0 c =
    let args = c.args in
    let pre = c.requires in
    let the-forget = c.forget in
    let the-put-at-once = c.put_at_once in
    (the-put-at-once.ensures.0, ap (λ (l : List ℕ). length l) the-forget.ensures ∙ forgotten-long args.notes.now, λ k q v i g. written _ args.pen args.line.now.rest k args.line.now.row.number q v _ _ (λ (n : ℕ). moved args.pen n 1 0) _ _ _ (rw pre.1) (rw (pre.1, c.in-0.is)) (the-forget.ensures ∙ sym (rw pre.1)) (the-put-at-once.ensures.1 k q v i g))

pub returns-in-1 : goal.returns-in-1
returns-in-1 c =
    let args = c.args in
    let pre = c.requires in
    let the-forget = c.forget in
    (c.put_begun.ensures.0, ap (λ (l : List ℕ). length l) the-forget.ensures ∙ forgotten-long args.notes.now, λ k q v i g. written _ args.pen args.line.now.rest k args.line.now.row.number q v _ _ (λ (n : ℕ). begun args.pen n 2) _ _ _ (rw pre.1) (rw (pre.1, c.in-1.is)) (the-forget.ensures ∙ sym (rw pre.1)) (c.put_begun.ensures.1 k q v i g))

pub returns-in-2 : goal.returns-in-2
returns-in-2 c =
    let args = c.args in
    let pre = c.requires in
    let the-forget = c.forget in
    let the-put-at-once2 = c.put_at_once-in-2 in
    (the-put-at-once2.ensures.0, ap (λ (l : List ℕ). length l) the-forget.ensures ∙ forgotten-long args.notes.now, λ k q v i g. written _ args.pen args.line.now.rest k args.line.now.row.number q v _ _ (λ (n : ℕ). moved args.pen n 4 0) _ _ _ (rw pre.1) (rw (pre.1, c.in-2.is)) (the-forget.ensures ∙ sym (rw pre.1)) (the-put-at-once2.ensures.1 k q v i g))

pub returns-in_default : goal.returns-in_default
returns-in_default c =
    let n0 : eqb c.args.line.now.row.number 0 ≡ false = search rules in
    let n1 : eqb c.args.line.now.row.number 1 ≡ false = search rules in
    let n2 : eqb c.args.line.now.row.number 2 ≡ false = search rules in
    let args = c.args in
    let pre = c.requires in
    let the-forget = c.forget in
    let the-put-at-once3 = c.put_at_once-in_default in
    (the-put-at-once3.ensures.0, ap (λ (l : List ℕ). length l) the-forget.ensures ∙ forgotten-long args.notes.now, λ k q v i g. written _ args.pen args.line.now.rest k args.line.now.row.number q v _ _ (λ (n : ℕ). moved args.pen n 7 0) _ _ _ (rw pre.1) (rw (pre.1, n0, n1, n2)) (the-forget.ensures ∙ sym (rw pre.1)) (the-put-at-once3.ensures.1 k q v i g))
