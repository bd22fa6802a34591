use mathlib.Core.Path.{sym, ◌∙◌}
use native.Mathlib.Omega.{arith}
use Rattle.rules.specs.Lines.{form_in}
use Rattle.entries.specs.Names.{known_in}
use Rattle.elements.proofs.TextsLines.{text-two, text-room, text-acts, text-row, text-stay, text-entry, text-begin, text-shut, text-refuse}
use Rattle.elements.proofs.texts.on_text.Goals as goal

pub act-next-requires : goal.act-next-requires
act-next-requires c = (c.requires.0, c.requires.1, c.requires.2, rw c.text_table.ensures (c.requires.4 ∙ sym (text-two c.args.here.layered)), rw c.text_table.ensures (text-room c.args.here.layered _ c.requires.5))

pub bounds-marks-row : goal.bounds-marks-row
bounds-marks-row c = omega (arith, text-row c.args.here (known_in c.args.s.now c.args.symbols.now c.args.layers.now) c.args.marks.now (form_in c.args.s.now c.args.form) c.args.rec.now _ _ (text-acts c.args.here.layered c.text_table.result c.no_digits.result (known_in c.args.s.now c.args.symbols.now c.args.layers.now) c.args.marks.now (form_in c.args.s.now c.args.form) c.args.rec.now _ _ c.text_table.ensures c.no_digits.ensures c.act-next.ensures) _ c.in-Entry.is, c.requires.4)

pub returns-in-Stay : goal.returns-in-Stay
returns-in-Stay c = text-stay c.args.here (known_in c.args.s.now c.args.symbols.now c.args.layers.now) c.args.marks.now (form_in c.args.s.now c.args.form) c.args.rec.now _ _ (text-acts c.args.here.layered c.text_table.result c.no_digits.result (known_in c.args.s.now c.args.symbols.now c.args.layers.now) c.args.marks.now (form_in c.args.s.now c.args.form) c.args.rec.now _ _ c.text_table.ensures c.no_digits.ensures c.act-next.ensures) c.in-Stay.is

pub returns-in-Entry : goal.returns-in-Entry
returns-in-Entry c = text-entry c.args.here (known_in c.args.s.now c.args.symbols.now c.args.layers.now) c.args.marks.now (form_in c.args.s.now c.args.form) c.args.rec.now _ _ (text-acts c.args.here.layered c.text_table.result c.no_digits.result (known_in c.args.s.now c.args.symbols.now c.args.layers.now) c.args.marks.now (form_in c.args.s.now c.args.form) c.args.rec.now _ _ c.text_table.ensures c.no_digits.ensures c.act-next.ensures) _ c.in-Entry.is

pub returns-in-Begin : goal.returns-in-Begin
returns-in-Begin c = text-begin c.args.here (known_in c.args.s.now c.args.symbols.now c.args.layers.now) c.args.marks.now (form_in c.args.s.now c.args.form) c.args.rec.now _ _ (text-acts c.args.here.layered c.text_table.result c.no_digits.result (known_in c.args.s.now c.args.symbols.now c.args.layers.now) c.args.marks.now (form_in c.args.s.now c.args.form) c.args.rec.now _ _ c.text_table.ensures c.no_digits.ensures c.act-next.ensures) _ c.in-Begin.is

pub returns-in-Shut : goal.returns-in-Shut
returns-in-Shut c = text-shut c.args.here (known_in c.args.s.now c.args.symbols.now c.args.layers.now) c.args.marks.now (form_in c.args.s.now c.args.form) c.args.rec.now _ _ (text-acts c.args.here.layered c.text_table.result c.no_digits.result (known_in c.args.s.now c.args.symbols.now c.args.layers.now) c.args.marks.now (form_in c.args.s.now c.args.form) c.args.rec.now _ _ c.text_table.ensures c.no_digits.ensures c.act-next.ensures) _ c.figure_done.ensures c.in-Shut.is

pub returns-in-Refuse : goal.returns-in-Refuse
returns-in-Refuse c = text-refuse c.args.here (known_in c.args.s.now c.args.symbols.now c.args.layers.now) c.args.marks.now (form_in c.args.s.now c.args.form) c.args.rec.now _ _ (text-acts c.args.here.layered c.text_table.result c.no_digits.result (known_in c.args.s.now c.args.symbols.now c.args.layers.now) c.args.marks.now (form_in c.args.s.now c.args.form) c.args.rec.now _ _ c.text_table.ensures c.no_digits.ensures c.act-next.ensures) _ c.in-Refuse.is
