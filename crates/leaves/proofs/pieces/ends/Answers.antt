use Rattle.std.proofs.Common.{rules}
use Rattle.leaves.proofs.Scan.{up_to-end}
use Rattle.leaves.proofs.Commas.{ends_at}
use Rattle.leaves.proofs.pieces.ends.Goals as goal

pub returns-then-s-i : goal.returns-then-s-i
returns-then-s-i c = rw (up_to-end 44 c.args.s.now c.args.i c.if-s-i.true) (search rules)

pub returns-else-s-i : goal.returns-else-s-i
returns-else-s-i c = ends_at _ _ c.if-s-i.false
