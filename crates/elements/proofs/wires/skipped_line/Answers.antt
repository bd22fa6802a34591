use Rattle.elements.proofs.WireActs.{skip-passes, skip_deepest, skip-deeper, skip-inner, skip-ends, skip-refuses}
use Rattle.elements.proofs.wires.skipped_line.Goals as goal

pub returns-then-here-ge-MOST_DEPTH : goal.returns-then-here-ge-MOST_DEPTH
returns-then-here-ge-MOST_DEPTH c = skip_deepest c.args.range c.args.here c.args.t.now _ _ c.skip_line.ensures c.in-Deeper.is c.if-here-ge-MOST_DEPTH.true

pub returns-then-here-gt0 : goal.returns-then-here-gt0
returns-then-here-gt0 c = skip-inner c.args.range c.args.here c.args.t.now _ _ c.skip_line.ensures _ c.in-Shut.is c.if-here-gt0.true c.open_skipped-then-here-gt0.ensures

pub returns-in-Passes : goal.returns-in-Passes
returns-in-Passes c = skip-passes c.args.range c.args.here c.args.t.now _ _ c.skip_line.ensures c.in-Passes.is

pub returns-else-here-ge-MOST_DEPTH : goal.returns-else-here-ge-MOST_DEPTH
returns-else-here-ge-MOST_DEPTH c = skip-deeper c.args.range c.args.here c.args.t.now _ _ c.skip_line.ensures _ c.in-Deeper.is c.if-here-ge-MOST_DEPTH.false c.open_skipped.ensures

pub returns-else-here-gt0 : goal.returns-else-here-gt0
returns-else-here-gt0 c = skip-ends c.args.range c.args.here c.args.t.now _ _ c.skip_line.ensures _ _ c.in-Shut.is c.if-here-gt0.false c.mark_wire.ensures c.figure_done.ensures

pub returns-in-Refuse : goal.returns-in-Refuse
returns-in-Refuse c = skip-refuses c.args.range c.args.here c.args.t.now _ _ c.skip_line.ensures _ c.in-Refuse.is
