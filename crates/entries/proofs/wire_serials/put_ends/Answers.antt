use Prim.Native.Nat.{◌+◌}
use Rattle.leaves.proofs.Scan.{rest_all}
use Rattle.entries.proofs.WireSerials.{ends-two, ends-few}
use Rattle.entries.proofs.wire_serials.put_ends.Goals as goal

pub returns-then-e-c : goal.returns-then-e-c
returns-then-e-c c =
    let a = c.args in
    ends-two a.c.now a.rec.now _ a.p c.find-e.result c.find-e.ensures _ c.if-e-c.true (rw (rest_all (c.find-e.result + 1) a.c.now) at c.put_both.ensures)

pub returns-else-e-c : goal.returns-else-e-c
returns-else-e-c c = let a = c.args in ends-few a.c.now a.rec.now _ a.p c.find-e.result c.find-e.ensures c.if-e-c.false
