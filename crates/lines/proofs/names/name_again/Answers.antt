use mathlib.Core.Path.{refl, sym, ◌∙◌}
use native.Mathlib.Omega.{arith}
use lib.ListN.{get_or}
use Rattle.lines.specs.VolumeNames.{raw_name}
use Rattle.lines.proofs.VolumeNames as laws
use Rattle.lines.proofs.names.name_again.Goals as goal

pub loop-j-init : goal.loop-j-init
loop-j-init c = (omega arith, omega (arith, c.requires.0), refl)

pub bounds-places-i : goal.bounds-places-i
bounds-places-i c = c.requires.0

pub same_name-requires : goal.same_name-requires
same_name-requires c = (c.requires.1 c.args.i c.requires.0, c.requires.1 c.loop-j.j c.loop-j-test.true)

pub returns-then-same_name : goal.returns-then-same_name
returns-then-same_name c = sym (c.loop-j.invariant.2 ∙ laws.again_hit (raw_name c.args.s.now) c.args.places.now c.loop-j.j (raw_name c.args.s.now (get_or c.args.places.now c.args.i 0)) c.loop-j-test.true (sym c.same_name.ensures ∙ c.if-same_name.true))

pub loop-j-preserved : goal.loop-j-preserved
loop-j-preserved c = (omega arith, omega arith, c.loop-j.invariant.2 ∙ laws.again_miss (raw_name c.args.s.now) c.args.places.now c.loop-j.j (raw_name c.args.s.now (get_or c.args.places.now c.args.i 0)) c.loop-j-test.true (sym c.same_name.ensures ∙ c.if-same_name.false))

pub returns : goal.returns
returns c = sym (c.loop-j.invariant.2 ∙ laws.again-end (raw_name c.args.s.now) c.args.places.now c.loop-j.j (raw_name c.args.s.now (get_or c.args.places.now c.args.i 0)) c.loop-j-test.false)
