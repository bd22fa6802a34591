use native.Mathlib.Omega.{arith}
use Rattle.elements.proofs.WireActs.{closed-room, wire-counted}
use Rattle.elements.proofs.wires.count_wire.Goals as goal

pub bounds-t-62 : goal.bounds-t-62
bounds-t-62 c = closed-room c.args.t.now _ _ _ _ c.requires.1

pub returns : goal.returns
returns c = rw (c.from.ensures, c.from-2.ensures) (wire-counted c.args.range c.args.here c.args.t.now (omega arith) c.requires.0)
