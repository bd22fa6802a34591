use Prim.Native.Nat.{ℕ, ◌+◌}
use mathlib.Core.Path.{◌∙◌, ap}
use native.Mathlib.Omega.{arith}
use lib.ListN.{get_or}
use Rattle.pens.proofs.Behind.{within_none}
use Rattle.pens.proofs.KeysLaws.{lines_none, lines_pass, lines_noted}
use Rattle.pens.proofs.groups.put_lines.Goals as goal

pub overflow_add-notes_from : goal.overflow_add-notes_from
overflow_add-notes_from c = omega (arith, c.notes_from.ensures)

pub returns-then-note-eq0 : goal.returns-then-note-eq0
returns-then-note-eq0 c = (within_none _, lines_none _ _ _ _ c.args.j c.args.notes.now _ _ (c.note_at-note.ensures ∙ ap (λ (m : ℕ). get_or c.args.notes.now (m + c.args.j) 0) c.notes_from.ensures) c.if-note-eq0.true)

pub returns-then-j-le-ROW_TEXT : goal.returns-then-j-le-ROW_TEXT
returns-then-j-le-ROW_TEXT c = (c.put_pass.ensures.0, lines_pass _ _ _ _ c.args.j _ _ _ _ c.if-j-le-ROW_TEXT.true c.put_pass.ensures.1)

pub returns : goal.returns
returns c = (c.put_noted.ensures.0, lines_noted _ _ _ _ c.args.j c.args.notes.now _ _ _ _ (c.note_at-note.ensures ∙ ap (λ (m : ℕ). get_or c.args.notes.now (m + c.args.j) 0) c.notes_from.ensures) c.if-j-le-ROW_TEXT.false c.put_noted.ensures.1)
