use mathlib.Core.Path.{ap, ◌∙◌}
use borrow.Author.Rules.{rules}
use Rattle.rules.specs.Base.{within as in_range}
use Rattle.entries.specs.Parts.{count_val, index_val}
use Rattle.entries.specs.Names.{names_in}
use Rattle.entries.proofs.OneValue.{count-val, kind-val, day-val, index-val}
use Rattle.entries.proofs.parts.whole.Goals as goal

pub returns-in-7 : goal.returns-in-7
returns-in-7 c = rw c.in-7.is (c.limited-in-7.ensures ∙ ap (count_val (in_range 0 999999999) 10) c.count.ensures ∙ count-val c.args.c.now)

pub returns-in-8 : goal.returns-in-8
returns-in-8 c = rw c.in-8.is (c.limited-in-8.ensures ∙ ap (count_val (in_range 0 99999999) 10) c.day.ensures ∙ day-val c.args.c.now)

pub returns-in-15 : goal.returns-in-15
returns-in-15 c =
    let a = c.args in
    rw c.in-15.is (c.numbered.ensures ∙ ap (index_val 13) c.index_of.ensures ∙ index-val 13 a.c.now (names_in a.known.now.spool.now a.known.now.symbols.now))

pub returns-in_default : goal.returns-in_default
returns-in_default c = let h = c.limited-in_default.ensures ∙ ap (count_val (in_range 0 9999) 10) c.fixed-in_default.ensures ∙ kind-val c.args.c.now in search rules
