use mathlib.Core.Path.{ap, sym, ◌∙◌}
use lib.ListN.{drop}
use Rattle.leaves.specs.Bytes.{up_to}
use Rattle.leaves.proofs.Ints.{fits_pos, fits-minus, pos-back, sub_is, minus-back}
use Rattle.leaves.proofs.Commas.{piece_at, size-some, size-was, not_piece, minus-piece, plain-piece}
use Rattle.leaves.proofs.pieces.decimal_piece.Goals as goal

pub returns-in_default : goal.returns-in_default
returns-in_default c = not_piece c.args.s.now c.behind_sign-at.result c.behind_sign-at.ensures c.find.result c.find.ensures (sym c.size_piece.ensures ∙ c.in_default.is)

pub overflow_cast-z : goal.overflow_cast-z
overflow_cast-z c =
    let w = size-was c.args.s.now c.behind_sign-at.result c.in-Some.p (sym c.size_piece.ensures ∙ c.in-Some.is) in
    fits_pos _ (size-some (up_to 44 (drop c.behind_sign-at.result c.args.s.now)) _ w.0)

pub overflow_sub-value : goal.overflow_sub-value
overflow_sub-value c =
    let v = c.in-Some.p.value in
    let w = size-was c.args.s.now c.behind_sign-at.result c.in-Some.p (sym c.size_piece.ensures ∙ c.in-Some.is) in
    let h = size-some (up_to 44 (drop c.behind_sign-at.result c.args.s.now)) v w.0 in
    rw (sub_is v h) (fits-minus v h)

pub returns-then-at-eq1 : goal.returns-then-at-eq1
returns-then-at-eq1 c =
    let z = c.in-Some.p in
    let e = sym c.size_piece.ensures ∙ c.in-Some.is in
    let w = size-was c.args.s.now c.behind_sign-at.result z e in
    let h = size-some (up_to 44 (drop c.behind_sign-at.result c.args.s.now)) z.value w.0 in
    ap (piece_at z.end) (minus-back z.value h) ∙ minus-piece c.args.s.now c.behind_sign-at.result c.behind_sign-at.ensures z e c.if-at-eq1.true

pub returns-else-at-eq1 : goal.returns-else-at-eq1
returns-else-at-eq1 c =
    let z = c.in-Some.p in
    let e = sym c.size_piece.ensures ∙ c.in-Some.is in
    let w = size-was c.args.s.now c.behind_sign-at.result z e in
    let h = size-some (up_to 44 (drop c.behind_sign-at.result c.args.s.now)) z.value w.0 in
    ap (piece_at z.end) (pos-back z.value h) ∙ plain-piece c.args.s.now c.behind_sign-at.result c.behind_sign-at.ensures z e c.if-at-eq1.false
