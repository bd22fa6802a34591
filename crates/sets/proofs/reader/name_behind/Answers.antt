use Prim.Native.Nat.{◌+◌}
use borrow.Author.Tests.{lt-ltb, le-ltb}
use Rattle.sets.proofs.reader.name_behind.Goals as goal

pub returns-then-count-i : goal.returns-then-count-i
returns-then-count-i c = rw (le-ltb (c.args.i + 1) c.args.count c.if-count-i.true)

pub returns : goal.returns
returns c = rw (lt-ltb (c.args.i + 1) c.args.count c.if-count-i.false) c.volume_name.ensures
