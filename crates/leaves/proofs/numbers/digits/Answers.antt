use native.Mathlib.Omega.{arith}
use mathlib.Core.Path.{sym, ◌∙◌}
use Rattle.leaves.proofs.Digits.{run_fits}
use Rattle.leaves.proofs.numbers.digits.Goals as goal

pub returns : goal.returns
returns c = c.digits_from.ensures ∙ sym (run_fits _ _ c.args.s.now (omega arith) (omega arith))
