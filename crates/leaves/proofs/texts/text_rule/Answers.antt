use mathlib.Core.Path.{sym}
use lib.ListN.{get_or-eq_default}
use Rattle.leaves.specs.Texts.{text_rules, no_text}
use Rattle.leaves.proofs.FreeTexts.{by-columns}
use Rattle.leaves.proofs.texts.text_rule.Goals as goal

pub returns-then-key-gt12 : goal.returns-then-key-gt12
unfolding text_rules
returns-then-key-gt12 c = sym (get_or-eq_default text_rules no_text c.if-key-gt12.true)

pub returns : goal.returns
unfolding text_rules
returns c = by-columns text_rules c.args.key
