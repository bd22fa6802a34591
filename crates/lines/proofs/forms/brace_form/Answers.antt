use mathlib.Core.Path.{sym}
use borrow.Author.Tests.{eq-eqb, ne_eqb}
use Rattle.lines.specs.LineFlaw.{brace_form}
use Rattle.lines.proofs.forms.brace_form.Goals as goal
use Rattle.lines.proofs.forms.brace_form.Goals.{then-key-eq0-via-then-key-eq0, then-key-eq0-via-else-key-eq0+then-key-end}

pub returns-then-key-eq0 : goal.returns-then-key-eq0
unfolding brace_form
returns-then-key-eq0 c =
    elim c.then-key-eq0.branch [
      | then-key-eq0-via-then-key-eq0 w ↦ sym (rw (eq-eqb _ _ w.if-key-eq0.true))
      | then-key-eq0-via-else-key-eq0+then-key-end w ↦ sym (rw (ne_eqb _ _ w.if-key-eq0.false, ne_eqb _ _ w.if-key-end.true))
    ]

pub returns : goal.returns
unfolding brace_form
returns c = sym (rw (ne_eqb _ _ c.if-key-eq0.false, eq-eqb _ _ c.if-key-end.false))
