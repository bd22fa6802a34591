use lib.IntN.{pos}
use lib.ListN.{replicate}
use mathlib.Core.Path.{refl}
use native.Mathlib.Omega.{arith}
use Rattle.sets.proofs.SetRunUnlimited.{judged}
use Rattle.sets.proofs.reader.judge.Goals as goal

pub read_set-requires : goal.read_set-requires
read_set-requires c = (refl, omega arith)

pub returns : goal.returns
returns c = judged c.args.s.now (replicate 1 (pos 0)) c.read_set.new.t c.read_set.result c.read_set.ensures
