use native.Mathlib.Nat.{not-le_of_lt}
use native.Mathlib.Omega.{arith}
use borrow.Author.Tests.{ltb-false}
use Rattle.elements.proofs.PointsLines.{chain-short, chain-long, chain-counted}
use Rattle.elements.proofs.points.close_chain.Goals as goal

pub returns-then-here-lt3 : goal.returns-then-here-lt3
returns-then-here-lt3 c = (chain-short c.args.here c.if-here-lt3.true, λ e. absurd (not-le_of_lt c.if-here-lt3.true (ltb-false c.args.here.points 3 e)))

pub returns : goal.returns
returns c = rw c.from.ensures (chain-long c.args.here _ c.if-here-lt3.false c.figure_done.ensures, λ e. chain-counted c.args.here c.args.t.now (omega (arith, c.requires.1)))
