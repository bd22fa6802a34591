use Prim.Native.Nat.{◌-◌}
use mathlib.Core.Path.{sym, ◌∙◌}
use native.Mathlib.Omega.{arith}
use lib.ListN.{length}
use Rattle.leaves.specs.Bytes.{word}
use Rattle.leaves.proofs.Words.{Fit, word_same, covered, further, same_no, same_yes}
use Rattle.leaves.proofs.bytes.same_words.Goals as goal

pub returns-then-word : goal.returns-then-word
returns-then-word c =
    let a = c.args.a.now in
    let b = c.args.b.now in
    same_no a b (λ s. word s (length a - 8)) (λ e. c.if-word.true (c.word.ensures ∙ e ∙ sym c.word-2.ensures))

pub returns-then-word-2 : goal.returns-then-word-2
returns-then-word-2 c =
    let a = c.args.a.now in
    let b = c.args.b.now in
    let i = c.loop-i.i in
    same_no a b (λ s. word s i) (λ e. c.if-word-2.true (c.word-in-loop-i.ensures ∙ e ∙ sym c.word-in-loop-i-2.ensures))

pub loop-i-preserved : goal.loop-i-preserved
loop-i-preserved c =
    let a = c.args.a.now in
    let b = c.args.b.now in
    let f : Fit a = λ k. (c.type_inv.a k).fits in
    let g : Fit b = λ k. (c.type_inv.b k).fits in
    let loop = c.loop-i in
    further a b loop.i 8 loop.invariant (word_same a b f g c.requires.a_len loop.i (omega arith) (sym c.word-in-loop-i.ensures ∙ c.if-word-2.false ∙ c.word-in-loop-i-2.ensures))

pub returns : goal.returns
returns c =
    let a = c.args.a.now in
    let b = c.args.b.now in
    let f : Fit a = λ k. (c.type_inv.a k).fits in
    let g : Fit b = λ k. (c.type_inv.b k).fits in
    let last = length a - 8 in
    let ends = word_same a b f g c.requires.a_len last (omega arith) (sym c.word.ensures ∙ c.if-word.false ∙ c.word-2.ensures) in
    same_yes a b (covered a b c.loop-i.i 8 last c.requires.a_len c.loop-i-test.false (omega arith) c.loop-i.invariant ends)
