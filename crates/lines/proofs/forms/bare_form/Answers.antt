use mathlib.Core.Path.{sym, ◌∙◌}
use borrow.Author.Rules.{rules}
use Rattle.lines.specs.LineFlaw.{word_form}
use Rattle.lines.proofs.LineFlaw as laws
use Rattle.lines.proofs.forms.bare_form.Goals as goal

pub returns-then-is_empty : goal.returns-then-is_empty
returns-then-is_empty c = sym (laws.bare-none c.args.s.now (search rules))

pub returns-then-spells : goal.returns-then-spells
unfolding word_form
returns-then-spells c = sym (laws.bare-some c.args.s.now (search rules) ∙ rw (sym c.spells.ensures ∙ c.if-spells.true))

pub returns-then-spells-2 : goal.returns-then-spells-2
unfolding word_form
returns-then-spells-2 c = sym (laws.bare-some c.args.s.now (search rules) ∙ rw (sym c.spells.ensures ∙ c.if-spells.false, sym c.spells-2.ensures ∙ c.if-spells-2.true))

pub returns : goal.returns
unfolding word_form
returns c = sym (laws.bare-some c.args.s.now (search rules) ∙ rw (sym c.spells.ensures ∙ c.if-spells.false, sym c.spells-2.ensures ∙ c.if-spells-2.false))
