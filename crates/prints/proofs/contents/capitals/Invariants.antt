use Rattle.std.proofs.Common.{◌≡◌, ◌++◌, map, take, drop}
use Rattle.rules.specs.Values.{capital}
use Rattle.prints.proofs.contents.capitals.Given as goal

abbrev pub invariant-loop-i : goal.invariant-loop-i
invariant-loop-i l = l.out ≡ map capital (take l.i l.c) ++ drop l.i l.initial.out
