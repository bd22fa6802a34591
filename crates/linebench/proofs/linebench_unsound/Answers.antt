use mathlib.Core.Path.{◌∙◌, ap}
use Rattle.lines.specs.LineEnds.{first_unsound}
use borrow.Author.Rules.{rules}
use Rattle.linebench.proofs.linebench_unsound.Goals as goal

pub volumes-requires : goal.volumes-requires
volumes-requires c = search rules

pub first_unsound-requires : goal.first_unsound-requires
first_unsound-requires c = search rules

pub returns : goal.returns
returns c = c.first_unsound.ensures ∙ ap (first_unsound c.args.s.now) c.volumes.ensures
