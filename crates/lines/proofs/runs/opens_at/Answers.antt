use mathlib.Core.Path.{sym, ◌∙◌, ap}
use mathlib.Core.Bool.{◌&&◌}
use native.Mathlib.Omega.{arith}
use borrow.Author.Tests.{eq-eqb, ne_eqb}
use lib.Dec.{eqb}
use lib.ListN.{get_or}
use Prim.Native.Nat.{◌+◌}
use Rattle.lines.proofs.LineForms as laws
use Rattle.lines.proofs.runs.opens_at.Goals as goal

pub returns-then-s-i : goal.returns-then-s-i
returns-then-s-i c = sym (laws.opens-last c.args.s.now c.args.i (omega arith))

pub returns-then-s-i-eq58 : goal.returns-then-s-i-eq58
returns-then-s-i-eq58 c = sym (laws.opens_by c.args.s.now c.args.i (omega arith) ∙ ap (λ t. t && eqb (get_or c.args.s.now (c.args.i + 1) 0) 123) (eq-eqb _ _ c.if-s-i-eq58.true))

pub returns-else-s-i-eq58 : goal.returns-else-s-i-eq58
returns-else-s-i-eq58 c = ne_eqb _ _ c.if-s-i-eq58.false ∙ sym (laws.opens_by c.args.s.now c.args.i (omega arith) ∙ ap (λ t. t && eqb (get_or c.args.s.now (c.args.i + 1) 0) 123) (ne_eqb _ _ c.if-s-i-eq58.false))
