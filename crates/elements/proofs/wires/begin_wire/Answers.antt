use Rattle.elements.proofs.WireActs.{begins-other, begins-wire, begins_skip, begins-stop}
use Rattle.elements.proofs.wires.begin_wire.Goals as goal

pub returns-then-n-ne-BLOCK_WIRE : goal.returns-then-n-ne-BLOCK_WIRE
returns-then-n-ne-BLOCK_WIRE c = begins-other c.args.class c.args.at c.args.t.now c.args.did _ c.in-Go.is c.if-n-ne-BLOCK_WIRE.true

pub returns-else-n-ne-BLOCK_WIRE : goal.returns-else-n-ne-BLOCK_WIRE
returns-else-n-ne-BLOCK_WIRE c = begins-wire c.args.class c.args.at c.args.t.now c.args.did _ _ _ c.in-Go.is c.if-n-ne-BLOCK_WIRE.false c.head.ensures c.wire_begun.ensures

pub returns-in-Skip : goal.returns-in-Skip
returns-in-Skip c = begins_skip c.args.class c.args.at c.args.t.now c.args.did _ c.in-Skip.is

pub returns-in-Stop : goal.returns-in-Stop
returns-in-Stop c = begins-stop c.args.class c.args.at c.args.t.now c.args.did _ c.in-Stop.is
