use mathlib.Core.Path.{refl}
use native.Mathlib.Omega.{arith}
use Rattle.standing.specs.LineDone.{elements}
use Rattle.standing.proofs.StepReady.{line-fits}
use Rattle.standing.proofs.StepDone.{done_promise}
use Rattle.steps.proofs.line.step.Goals as goal

pub head_line-requires : goal.head_line-requires
head_line-requires c = ((_, line-fits _ _ _ _ _ _ _ c.requires refl), omega arith)

pub returns-in-0-to-1 : goal.returns-in-0-to-1
returns-in-0-to-1 c = done_promise _ _ _ _ _ _ _ _ c.requires.short (omega (arith, c.well_formed.1.1.0)) (omega (arith, c.well_formed.1.1.0)) (c.head_line.ensures _)

pub sheet_line-requires : goal.sheet_line-requires
sheet_line-requires c = ((_, _, _, _, _, line-fits _ _ _ _ _ _ _ c.requires refl), omega arith, omega arith)

pub returns-in-2-to-6 : goal.returns-in-2-to-6
returns-in-2-to-6 c = done_promise _ _ _ _ _ _ _ _ c.requires.short (omega (arith, c.well_formed.1.1.0)) (omega (arith, c.well_formed.1.1.0)) (c.sheet_line.ensures _ _ _ _ _ _ _)

pub in_elements-requires : goal.in_elements-requires
in_elements-requires c = let y = line-fits _ _ _ _ _ _ _ c.requires refl in (y.short, y.named, y.elements c.in-7.is, y.lengths.used, y.lengths.used_all)

pub returns-in-7 : goal.returns-in-7
returns-in-7 c = done_promise _ _ _ _ _ _ _ _ c.requires.short (omega (arith, c.well_formed.1.1.0)) (omega (arith, c.well_formed.1.1.0)) (elements c.in-7.is c.in_elements.ensures refl)

pub figure_line-requires : goal.figure_line-requires
figure_line-requires c = ((_, _, _, line-fits _ _ _ _ _ _ _ c.requires refl), omega arith)

pub returns-in-8-to-255 : goal.returns-in-8-to-255
returns-in-8-to-255 c = done_promise _ _ _ _ _ _ _ _ c.requires.short (omega (arith, c.well_formed.1.1.0)) (omega (arith, c.well_formed.1.1.0)) (c.figure_line.ensures _ _ _ _)
