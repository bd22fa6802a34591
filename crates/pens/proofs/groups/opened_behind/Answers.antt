use mathlib.Core.Path.{sym, ◌∙◌}
use Rattle.pens.proofs.PassLaws.{behind-shut, behind-none, behind-text, behind-own}
use Rattle.pens.proofs.groups.opened_behind.Goals as goal

pub returns-then-is_close : goal.returns-then-is_close
returns-then-is_close c = behind-shut c.args.amid c.args.form c.args.found _ (sym c.is_close.ensures ∙ c.if-is_close.true) c.no_text.ensures

pub returns-in_default : goal.returns-in_default
returns-in_default c = behind-none c.args.amid c.args.form c.args.found (sym c.is_close.ensures ∙ c.if-is_close.false) c.in_default.is

pub returns-then-amid : goal.returns-then-amid
returns-then-amid c = behind-text c.args.amid c.args.form c.args.found c.in-Some.row _ _ _ (sym c.is_close.ensures ∙ c.if-is_close.false) c.in-Some.is c.if-amid.true c.rest_here.ensures c.note_of.ensures c.noted_row.ensures

pub returns : goal.returns
returns c = behind-own c.args.amid c.args.form c.args.found c.in-Some.row (sym c.is_close.ensures ∙ c.if-is_close.false) c.in-Some.is c.if-amid.false
