use Prim.Native.Nat.{ℕ}
use mathlib.Core.Bool.{Bool, not, cond}
use mathlib.Core.Path.{sym, ◌∙◌, ap}
use lib.Dec.{eqb}
use borrow.Author.Tests.{eq-eqb, ne_eqb}
use Rattle.rules.specs.Lines.{has_form}
use Rattle.entries.proofs.ByShape.{form-by}
use Rattle.account.specs.declared.Step.TheVariants as S
use Rattle.elements.proofs.placed.not_here.Goals as goal

pub returns-then-sort_of-eq-SORT_FORMLESS : goal.returns-then-sort_of-eq-SORT_FORMLESS
returns-then-sort_of-eq-SORT_FORMLESS c =
    let f = ap has_form (sym c.shape_for.ensures) ∙ form-by c.args.s.now c.shape_for.result ∙ ap (λ (n : ℕ). not (eqb n 4)) (sym c.sort_of.ensures) in
    ap (λ (b : Bool). cond b (S.Stop 6) (S.Stop 5)) (sym (f ∙ ap not (eq-eqb c.sort_of.result 4 c.if-sort_of-eq-SORT_FORMLESS.true)))

pub returns : goal.returns
returns c =
    let f = ap has_form (sym c.shape_for.ensures) ∙ form-by c.args.s.now c.shape_for.result ∙ ap (λ (n : ℕ). not (eqb n 4)) (sym c.sort_of.ensures) in
    ap (λ (b : Bool). cond b (S.Stop 6) (S.Stop 5)) (sym (f ∙ ap not (ne_eqb c.sort_of.result 4 c.if-sort_of-eq-SORT_FORMLESS.false)))
