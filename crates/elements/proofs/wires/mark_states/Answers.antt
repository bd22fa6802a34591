use Rattle.elements.proofs.WireActs.{states-marked}
use Rattle.elements.proofs.wires.mark_states.Goals as goal

pub returns : goal.returns
returns c = states-marked c.args.wires c.args.d c.args.rec.now _ _ _ _ _ _ _ _ c.mark_hidden.ensures c.mark_hidden-2.ensures c.mark_hidden-3.ensures c.mark_hidden-4.ensures c.mark_hidden-5.ensures c.mark_hidden-6.ensures c.mark_hidden-7.ensures c.mark_hidden-8.ensures
