use Rattle.pens.proofs.KeysLaws.{Keyed}
use Rattle.pens.proofs.groups.put_keys.Given as goal

abbrev pub invariant-loop-j : goal.invariant-loop-j
invariant-loop-j l = Keyed l.s l.body l.start l.from l.notes l.initial.out l.n l.j l.out
