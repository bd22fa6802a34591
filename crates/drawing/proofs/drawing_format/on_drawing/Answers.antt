use native.Mathlib.Omega.{arith}
use mathlib.Core.Path.{◌≡◌, sym, ◌∙◌}
use lib.ListN.{length, take, length-take}
use Rattle.rules.specs.Lines.{form_in}
use Rattle.tables.specs.Tables.{table_of}
use Rattle.entries.specs.Names.{known_in}
use Rattle.entries.proofs.Took.{took}
use Rattle.account.proofs.RowsTaken.{entry-taken, begin-taken}
use Rattle.drawing.proofs.DrawingSteps.{drawing-rows, drawing-room}
use Rattle.drawing.proofs.drawing_format.on_drawing.Goals as goal

pub act-next-requires : goal.act-next-requires
act-next-requires c = (c.requires.0, c.requires.1, c.requires.2, (let h : length (take 8 c.args.marks.now) ≡ 8 = omega (arith, length-take 8 c.args.marks.now, c.requires.3) in h ∙ sym drawing-rows), drawing-room _ c.requires.4)

pub bounds-marks-row : goal.bounds-marks-row
bounds-marks-row c = let h = (rw c.in-Entry.is at (took _ _ _ _ _ _ c.act-next.ensures)) in let z = (entry-taken (known_in c.args.s.now c.args.symbols.now c.args.layers.now) (table_of 7) c.digits_of.result (take 8 c.args.marks.now) (form_in c.args.s.now c.args.form) _ h.0 h.1).row in omega (arith, z, drawing-rows, c.requires.3)

pub bounds-marks-inner : goal.bounds-marks-inner
bounds-marks-inner c = let h = (rw c.in-Begin.is at (took _ _ _ _ _ _ c.act-next.ensures)) in let z = (begin-taken (known_in c.args.s.now c.args.symbols.now c.args.layers.now) (table_of 7) c.digits_of.result (take 8 c.args.marks.now) (form_in c.args.s.now c.args.form) _ _ h.0 h.1).row in omega (arith, z, drawing-rows, c.requires.3)
