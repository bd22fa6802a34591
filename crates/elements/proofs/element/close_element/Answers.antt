use mathlib.Core.Path.{refl, sym, ◌∙◌, ap}
use borrow.Author.Tests.{eq-eqb, ne_eqb}
use Rattle.rules.proofs.Chains.{clash}
use Rattle.account.specs.declared.Step.TheVariants as S
use Rattle.elements.proofs.element.close_element.Goals as goal

pub returns-then-tally : goal.returns-then-tally
returns-then-tally c = record { answer = sym (rw (ne_eqb _ _ c.if-tally.true)); tally = λ e. clash e (ne_eqb _ _ c.if-tally.true) }

pub returns : goal.returns
returns c = record { answer = ap S.Go c.at_block.ensures ∙ sym (rw (eq-eqb _ _ c.if-tally.false)); tally = λ e. refl }
