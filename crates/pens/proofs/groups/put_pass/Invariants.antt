use Prim.Native.Nat.{suc, ◌+◌, ◌-◌}
use mathlib.Core.Bool.{true}
use lib.ListN.{length}
use Rattle.pens.proofs.PassLaws.{Passing}
use Rattle.pens.proofs.groups.put_pass.Given as goal

abbrev pub invariant-lines : goal.invariant-lines
invariant-lines l = Passing l.s l.body l.start l.from l.j l.initial.out l.amid l.at l.n true l.out

abbrev pub decreases-lines : goal.decreases-lines
decreases-lines l = suc (l.start + length l.body + 3 - l.at)
