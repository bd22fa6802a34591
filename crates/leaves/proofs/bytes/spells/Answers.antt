use Rattle.std.proofs.Common.{◌∙◌, sym, arith}
use borrow.Author.Tests.{ne_eqb}
use Rattle.leaves.specs.Bytes.{word}
use Rattle.leaves.proofs.Scan.{same-long}
use Rattle.leaves.proofs.Words.{Fit, word_same, same-behind, same_no}
use Rattle.leaves.proofs.bytes.spells.Goals as goal

pub returns-then-part-fixed : goal.returns-then-part-fixed
returns-then-part-fixed c = sym (same-long c.args.part.now c.args.fixed.now c.if-part-fixed.true)

pub returns-else-word : goal.returns-else-word
returns-else-word c = ne_eqb _ _ c.if-word.false ∙ same_no c.args.part.now c.args.fixed.now (λ s. word s 0) (λ e. c.if-word.false (c.word.ensures ∙ e ∙ sym c.word-2.ensures))

pub returns-then-word : goal.returns-then-word
returns-then-word c =
    let a = c.args.part.now in
    let b = c.args.fixed.now in
    let f : Fit a = λ k. (c.type_inv.part k).fits in
    let g : Fit b = λ k. (c.type_inv.fixed k).fits in
    let front = word_same a b f g c.if-part-fixed.false 0 (omega arith) (sym c.word.ensures ∙ c.if-word.true ∙ c.word-2.ensures) in
    c.same_bytes-then-word.ensures ∙ same-behind a b 8 front
