use mathlib.Core.Bool.{Bool}
use mathlib.Core.Path.{sym, ◌∙◌, ap}
use Rattle.account.specs.PlacedLines.{hidden_at}
use Rattle.elements.proofs.placed.mark_hidden.Goals as goal

pub returns-then-hides : goal.returns-then-hides
returns-then-hides c = ap (λ (h : Bool). hidden_at c.args.state h c.args.rec.now) (sym c.if-hides.true ∙ c.hides.ensures)

pub returns-else-hides : goal.returns-else-hides
returns-else-hides c = ap (λ (h : Bool). hidden_at c.args.state h c.args.rec.now) (sym c.if-hides.false ∙ c.hides.ensures)
