use mathlib.Core.Path.{sym}
use Rattle.leaves.proofs.Scan.{same-long}
use Rattle.leaves.proofs.bytes.same.Goals as goal

pub returns-then-a-b : goal.returns-then-a-b
returns-then-a-b c = sym (same-long c.args.a.now c.args.b.now c.if-a-b.true)
