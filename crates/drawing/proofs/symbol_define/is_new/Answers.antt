use mathlib.Core.Bool.{Bool, true, false, not}
use mathlib.Core.Path.{◌≡◌, sym, ◌∙◌, ap}
use Rattle.rules.specs.Lines.{bytes_at}
use Rattle.drawing.proofs.DrawingSteps.{looked-for}
use Rattle.drawing.proofs.symbol_define.is_new.Goals as goal

turned : (a b : Bool) → a ≡ not b → b ≡ not a
turned a true e = ap not (sym e)
turned a false e = ap not (sym e)

pub returns : goal.returns
returns c = turned _ _ c.is_none.ensures ∙ ap not (looked-for c.args.s.now c.args.symbols.now (bytes_at c.args.s.now c.args.name) _ _ c.index_of.ensures c.part.ensures)
