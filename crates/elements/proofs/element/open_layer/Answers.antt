use mathlib.Core.Path.{refl, sym}
use Rattle.rules.proofs.Chains.{clash}
use Rattle.elements.proofs.element.open_layer.Goals as goal

pub returns-then-used-i : goal.returns-then-used-i
returns-then-used-i c = record { answer = sym (rw c.if-used-i.true); used = λ e. clash c.if-used-i.true e; all = λ e. clash c.if-used-i.true e }

pub returns : goal.returns
returns c = record { answer = sym (rw c.if-used-i.false); used = λ e. refl; all = λ e. refl }
