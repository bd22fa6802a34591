use mathlib.Core.Path.{sym, ◌∙◌}
use borrow.Author.Tests.{not-true, not-false}
use Rattle.elements.proofs.StemEnds.{content-passes, content-formless, content-opens}
use Rattle.elements.proofs.skip.skip_content.Goals as goal

pub returns-then-not-ends_open : goal.returns-then-not-ends_open
returns-then-not-ends_open c = sym (content-passes c.args.c.now (sym c.ends_open.ensures ∙ not-true _ c.if-not-ends_open.true-raw))

pub returns-then-c-eq2 : goal.returns-then-c-eq2
returns-then-c-eq2 c = sym (content-formless c.args.c.now (sym c.ends_open.ensures ∙ not-false _ c.if-not-ends_open.false-raw) c.if-c-eq2.true)

pub returns : goal.returns
returns c = sym (content-opens c.args.c.now (sym c.ends_open.ensures ∙ not-false _ c.if-not-ends_open.false-raw) c.if-c-eq2.false)
