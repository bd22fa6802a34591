use Prim.Native.Nat.{ℕ}
use mathlib.Core.List.{List}
use mathlib.Core.Path.{sym, ◌∙◌, ap}
use Rattle.rules.specs.Base.{bytes, same}
use Rattle.account.specs.SkippedLines.{skip_content}
use Rattle.elements.proofs.StemEnds.{free, not_free}
use Rattle.elements.proofs.skip.skip_equation.Goals as goal

pub returns-then-spells : goal.returns-then-spells
returns-then-spells c = sym (free c.args.s.now c.args.q (ap (λ (k : List ℕ). same k (bytes "character")) (sym c.part.ensures) ∙ sym c.spells.ensures ∙ c.if-spells.true))

pub returns : goal.returns
returns c = c.skip_content.ensures ∙ ap skip_content c.part-2.ensures ∙ sym (not_free c.args.s.now c.args.q (ap (λ (k : List ℕ). same k (bytes "character")) (sym c.part.ensures) ∙ sym c.spells.ensures ∙ c.if-spells.false))
