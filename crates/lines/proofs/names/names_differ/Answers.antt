use mathlib.Core.Path.{refl, sym, ◌∙◌}
use native.Mathlib.Omega.{arith}
use Rattle.lines.specs.VolumeNames.{raw_name}
use Rattle.lines.proofs.VolumeNames as laws
use Rattle.lines.proofs.names.names_differ.Goals as goal

pub loop-i-init : goal.loop-i-init
loop-i-init c = (omega arith, refl)

pub name_again-requires : goal.name_again-requires
name_again-requires c = (c.loop-i-test.true, c.requires)

pub returns-then-name_again : goal.returns-then-name_again
returns-then-name_again c = sym (c.loop-i.invariant.1 ∙ laws.differ-stop (raw_name c.args.s.now) c.args.places.now c.loop-i.i c.loop-i-test.true (sym c.name_again.ensures ∙ c.if-name_again.true))

pub loop-i-preserved : goal.loop-i-preserved
loop-i-preserved c = (omega arith, c.loop-i.invariant.1 ∙ laws.differ-more (raw_name c.args.s.now) c.args.places.now c.loop-i.i c.loop-i-test.true (sym c.name_again.ensures ∙ c.if-name_again.false))

pub returns : goal.returns
returns c = sym (c.loop-i.invariant.1 ∙ laws.differ-end (raw_name c.args.s.now) c.args.places.now c.loop-i.i c.loop-i-test.false)
