use mathlib.Core.Path.{sym, ◌∙◌}
use native.Mathlib.Omega.{arith}
use borrow.Author.Tests.{tests}
use Rattle.elements.proofs.StemEnds.{too_short, last-two}
use Rattle.elements.proofs.skip.ends_open.Goals as goal

pub returns-then-n-ge2 : goal.returns-then-n-ge2
returns-then-n-ge2 c = c.spells.ensures ∙ sym (last-two c.args.c.now c.if-n-ge2.true)

pub returns-else-n-ge2 : goal.returns-else-n-ge2
returns-else-n-ge2 c = let e = too_short c.args.c.now c.if-n-ge2.false in grind (arith, tests, e)
