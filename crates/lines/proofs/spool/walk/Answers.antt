use mathlib.Core.Path.{ap, sym, ◌∙◌}
use Rattle.lines.specs.VolumePlaces.{head_in}
use Rattle.lines.proofs.VolumePlaces as laws
use Rattle.lines.proofs.spool.walk.Goals as goal

pub loop-at-init : goal.loop-at-init
loop-at-init c = laws.walk_starts _ _ _ laws.twelve laws.twelve

pub returns-then-count-eq-MOST_VOLUMES : goal.returns-then-count-eq-MOST_VOLUMES
returns-then-count-eq-MOST_VOLUMES c = c.no_layout.ensures ∙ sym (laws.walk-full _ _ _ _ _ c.loop-at.invariant c.loop-at-test.true c.if-count-eq-MOST_VOLUMES.true)

pub returns-in_default : goal.returns-in_default
returns-in_default c = c.no_layout-in_default.ensures ∙ sym (laws.walk-bad _ _ _ _ _ c.loop-at.invariant c.loop-at-test.true c.if-count-eq-MOST_VOLUMES.false (sym (ap head_in (laws.tail-is c.args.s.now c.loop-at.at)) ∙ sym c.head_of.ensures ∙ c.in_default.is))

pub loop-at-preserved : goal.loop-at-preserved
loop-at-preserved c = laws.walk_more _ _ _ _ _ c.loop-at.invariant _ c.loop-at-test.true c.if-count-eq-MOST_VOLUMES.false (sym (ap head_in (laws.tail-is c.args.s.now c.loop-at.at)) ∙ sym c.head_of.ensures ∙ c.in-Some.is)

pub returns : goal.returns
returns c = sym (laws.walk_ends _ _ _ _ _ c.loop-at.invariant c.loop-at-test.false)
