use Prim.Native.Nat.{◌+◌, ◌-◌, ◌*◌}
use Rattle.pens.proofs.noted.+parts.Given as goal

abbrev pub decreases-put_part : goal.decreases-put_part
decreases-put_part l = 64 * l.depth + 32

abbrev pub decreases-put_rows : goal.decreases-put_rows
decreases-put_rows l = 64 * l.depth + (31 - l.j)

abbrev pub decreases-put_slot : goal.decreases-put_slot
decreases-put_slot l = 64 * l.depth + 33
