use mathlib.Core.Path.{sym}
use borrow.Author.Tests.{eq-eqb, ne_eqb}
use Rattle.lines.specs.LineFlaw.{equal_form}
use Rattle.lines.proofs.forms.equal_form.Goals as goal

pub returns-then-key-eq0 : goal.returns-then-key-eq0
unfolding equal_form
returns-then-key-eq0 c = sym (rw (eq-eqb _ _ c.if-key-eq0.true))

pub returns : goal.returns
unfolding equal_form
returns c = sym (rw (ne_eqb _ _ c.if-key-eq0.false))
