use mathlib.Core.Path.{◌∙◌, ap}
use Rattle.rules.specs.Answers.{packed, answer_count}
use borrow.Author.Rules.{rules}
use Rattle.host.proofs.ploverdell_rewrite.Goals as goal

pub rewrite-a-requires : goal.rewrite-a-requires
rewrite-a-requires c = search rules

pub count_of-requires : goal.count_of-requires
count_of-requires c = search rules

pub pack-requires : goal.pack-requires
pack-requires c = search rules

pub shape_of-out : goal.shape_of-out
shape_of-out c = search rules

pub returns : goal.returns
returns c = (c.pack.ensures ∙ ap packed c.rewrite-a.ensures.0, c.rewrite-a.ensures.1, c.count_of.ensures ∙ ap answer_count c.rewrite-a.ensures.0)
