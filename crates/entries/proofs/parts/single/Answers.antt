use mathlib.Core.Path.{ap, ◌∙◌}
use borrow.Author.Tests.{le-ltb}
use Rattle.entries.specs.Names.{known_of}
use Rattle.entries.specs.Parts.{decimal_val}
use Rattle.entries.proofs.OneValue.{decimal-val}
use Rattle.entries.proofs.parts.single.Goals as goal

pub returns-then-code-ge-PART_ANY_SIGN : goal.returns-then-code-ge-PART_ANY_SIGN
returns-then-code-ge-PART_ANY_SIGN c =
    let a = c.args in
    rw (le-ltb a.code 20 c.if-code-ge-PART_ANY_SIGN.true)
    (c.measured.ensures ∙ ap (decimal_val a.code) c.decimal.ensures ∙ decimal-val (known_of a.known.now) a.code a.c.now)
