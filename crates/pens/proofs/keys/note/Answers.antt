use mathlib.Core.Path.{sym}
use native.Mathlib.Omega.{arith}
use Rattle.pens.proofs.KeyRows.{set_beyond, notes-few}
use Rattle.pens.proofs.keys.note.Goals as goal

pub overflow_add-i : goal.overflow_add-i
overflow_add-i c = record { fits = omega (arith, notes-few c.args.line.now.table, c.notes_from.ensures) }

pub returns-then-i-notes : goal.returns-then-i-notes
returns-then-i-notes c = rw (c.note_of.ensures, c.notes_from.ensures)

pub returns-else-i-notes : goal.returns-else-i-notes
returns-else-i-notes c = sym (set_beyond _ _ _ (rw c.notes_from.ensures at c.if-i-notes.false))
