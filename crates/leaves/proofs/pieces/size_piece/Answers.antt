use mathlib.Core.Path.{sym, ◌∙◌}
use native.Mathlib.Omega.{arith}
use lib.ListN.{drop}
use Rattle.leaves.specs.Bytes.{up_to}
use borrow.Author.Tests.{not-true, not-false}
use Rattle.leaves.proofs.Commas.{run_small, no-digit-first, whole-alone, whole-broken, no-digit-behind, fraction-broken, both-parts, goes_on, size-was, size-some}
use Rattle.leaves.proofs.pieces.size_piece.Goals as goal

pub returns-then-i-at : goal.returns-then-i-at
returns-then-i-at c = no-digit-first _ _ _ _ c.run-whole.ensures c.if-i-at.true

pub overflow_mul-result : goal.overflow_mul-result
overflow_mul-result c = record { fits = omega (arith, run_small _ _ _ _ _ c.run-whole.ensures.read (omega arith)) }

pub returns-then-ends : goal.returns-then-ends
returns-then-ends c = whole-alone _ _ _ _ c.run-whole.ensures c.if-i-at.false (sym c.ends.ensures ∙ c.if-ends.true)

pub bounds-s-i : goal.bounds-s-i
bounds-s-i c = goes_on c.args.s.now c.run-whole.result.end (sym c.ends.ensures ∙ c.if-ends.false)

pub returns-then-s-i-ne46 : goal.returns-then-s-i-ne46
returns-then-s-i-ne46 c = whole-broken _ _ _ _ c.run-whole.ensures (sym c.ends.ensures ∙ c.if-ends.false) c.if-s-i-ne46.true

pub returns-then-j-k : goal.returns-then-j-k
returns-then-j-k c = no-digit-behind _ _ _ _ c.run-whole.ensures (sym c.ends.ensures ∙ c.if-ends.false) c.if-s-i-ne46.false _ _ c.run-fraction.ensures c.if-j-k.true

pub returns-then-not-ends : goal.returns-then-not-ends
returns-then-not-ends c = fraction-broken _ _ _ _ c.run-whole.ensures (sym c.ends.ensures ∙ c.if-ends.false) c.if-s-i-ne46.false _ _ c.run-fraction.ensures (sym c.ends-2.ensures ∙ not-true _ c.if-not-ends.true-raw)

pub overflow_mul-result-2 : goal.overflow_mul-result-2
overflow_mul-result-2 c = record { fits = omega (arith, run_small _ _ _ _ _ c.run-whole.ensures.read (omega arith)) }

pub returns : goal.returns
returns c = both-parts _ _ _ _ c.run-whole.ensures (sym c.ends.ensures ∙ c.if-ends.false) c.if-s-i-ne46.false _ _ c.run-fraction.ensures c.if-i-at.false c.if-j-k.false (sym c.ends-2.ensures ∙ not-false _ c.if-not-ends.false-raw) c.unit.result c.unit.ensures

pub overflow_mul-result-3 : goal.overflow_mul-result-3
overflow_mul-result-3 c = record { fits = omega (arith, size-some (up_to 44 (drop c.args.at c.args.s.now)) _ (size-was c.args.s.now c.args.at _ (sym (returns c))).0) }

pub overflow_add-result : goal.overflow_add-result
overflow_add-result c = record { fits = omega (arith, size-some (up_to 44 (drop c.args.at c.args.s.now)) _ (size-was c.args.s.now c.args.at _ (sym (returns c))).0) }
