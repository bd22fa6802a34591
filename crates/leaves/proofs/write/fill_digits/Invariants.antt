use Rattle.std.proofs.Common.{◌≡◌, length, drop}
use Rattle.rules.specs.Numbers.{fixed, fixed_onto}
use Rattle.leaves.proofs.write.fill_digits.Given as goal

abbrev pub invariant-loop-i : goal.invariant-loop-i
invariant-loop-i l = fixed (length l.initial.out) l.n ≡ fixed_onto l.i l.left (drop l.i l.out)
