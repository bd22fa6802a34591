use mathlib.Core.Path.{sym, ◌∙◌, ap}
use Rattle.standing.specs.Reading.{through_of}
use Rattle.steps.proofs.volume.closed.Goals as goal

pub returns-in-Go : goal.returns-in-Go
returns-in-Go c = sym (ap (through_of c.args.v c.args.line) c.in-Go.is)

pub returns-in-Skip : goal.returns-in-Skip
returns-in-Skip c = c.refused.ensures ∙ sym (ap (through_of c.args.v c.args.line) c.in-Skip.is)

pub returns-in-Stop : goal.returns-in-Stop
returns-in-Stop c = c.refused-in-Stop.ensures ∙ sym (ap (through_of c.args.v c.args.line) c.in-Stop.is)
