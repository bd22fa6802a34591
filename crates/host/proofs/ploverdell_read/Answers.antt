use mathlib.Core.Path.{◌∙◌, ap}
use Rattle.rules.specs.Answers.{packed, answer_count}
use borrow.Author.Rules.{rules}
use Rattle.host.proofs.ploverdell_read.Goals as goal

pub read-a-requires : goal.read-a-requires
read-a-requires c = search rules

pub count_of-requires : goal.count_of-requires
count_of-requires c = search rules

pub pack-requires : goal.pack-requires
pack-requires c = search rules

pub shape_of-table : goal.shape_of-table
shape_of-table c = search rules

pub returns : goal.returns
returns c = (c.pack.ensures ∙ ap packed c.read-a.ensures.0, c.read-a.ensures.1, c.count_of.ensures ∙ ap answer_count c.read-a.ensures.0)
