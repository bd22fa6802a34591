use mathlib.Core.Path.{◌∙◌, ap}
use Rattle.rules.specs.Answers.{packed, check_answer}
use borrow.Author.Rules.{rules}
use Rattle.host.proofs.ploverdell_check.Goals as goal

pub check-requires : goal.check-requires
check-requires c = search rules

pub pack-requires : goal.pack-requires
pack-requires c = search rules

pub returns : goal.returns
unfolding check_answer
returns c = c.pack.ensures ∙ ap packed c.check.ensures
