use Rattle.std.proofs.Common.{◌-◌, ◌∙◌, sym, arith, length}
use borrow.Author.Tests.{ne_eqb}
use Rattle.leaves.specs.Bytes.{half}
use Rattle.leaves.proofs.Words.{Fit, half-same, covered, same_no, same_by}
use Rattle.leaves.proofs.bytes.same_halves.Goals as goal

pub returns-else-half : goal.returns-else-half
returns-else-half c =
    let a = c.args.a.now in
    let b = c.args.b.now in
    ne_eqb _ _ c.if-half.false ∙ same_no a b (λ s. half s (length a - 4)) (λ e. c.if-half.false (c.half.ensures ∙ e ∙ sym c.half-2.ensures))

pub returns-then-half : goal.returns-then-half
returns-then-half c =
    let a = c.args.a.now in
    let b = c.args.b.now in
    let f : Fit a = λ k. (c.type_inv.a k).fits in
    let g : Fit b = λ k. (c.type_inv.b k).fits in
    let last = length a - 4 in
    let ends = half-same a b f g c.requires.a_len last (omega arith) (sym c.half.ensures ∙ c.if-half.true ∙ c.half-2.ensures) in
    rw (c.half-then-half.ensures, c.half-then-half-2.ensures) (same_by a b (λ s. half s 0) (λ e. covered a b 4 4 last c.requires.a_len (omega arith) (omega arith) (half-same a b f g c.requires.a_len 0 (omega arith) e) ends))
