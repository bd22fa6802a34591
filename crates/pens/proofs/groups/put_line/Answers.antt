use mathlib.Core.Path.{sym, ◌∙◌}
use Rattle.pens.proofs.Behind.{within_none}
use Rattle.pens.proofs.PassLaws.{line-shut, line-none, line-own}
use Rattle.pens.proofs.groups.put_line.Goals as goal

pub returns-then-is_close : goal.returns-then-is_close
returns-then-is_close c = (c.put_shut.ensures.0, line-shut _ _ _ c.args.form _ _ _ _ (sym c.is_close.ensures ∙ c.if-is_close.true) c.put_shut.ensures.1)

pub returns-in_default : goal.returns-in_default
returns-in_default c = (within_none _, line-none _ _ _ c.args.form _ _ (sym c.is_close.ensures ∙ c.if-is_close.false) c.in_default.is)

pub returns : goal.returns
returns c = (c.put_own.ensures.0, line-own _ _ _ c.args.form _ _ _ _ _ (sym c.is_close.ensures ∙ c.if-is_close.false) c.in-Some.is (rw c.rest_here.ensures at c.put_own.ensures.1))
