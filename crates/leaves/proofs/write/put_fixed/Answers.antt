use mathlib.Core.Path.{sym, ◌∙◌}
use Rattle.rules.specs.Numbers.{fixed}
use Rattle.leaves.specs.Writing.{width}
use Rattle.leaves.proofs.Written.{full, fixed-length}
use Rattle.leaves.proofs.write.put_fixed.Goals as goal

pub returns-then-out-digits : goal.returns-then-out-digits
returns-then-out-digits c = full (fixed (width c.args.w) c.args.n) c.args.out.now c.at_most_eight-digits.result (fixed-length (width c.args.w) c.args.n ∙ sym c.at_most_eight-digits.ensures) c.if-out-digits.true
