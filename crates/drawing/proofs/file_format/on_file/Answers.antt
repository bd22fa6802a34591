use Rattle.rules.specs.Lines.{form_in}
use Rattle.entries.specs.Names.{known_in}
use Rattle.drawing.proofs.FileActs.{header-room, full-long, told, entry-inside, begin-inside, line-entry, line-begin, line-stay, line-shut, line-back, line_refused}
use Rattle.drawing.proofs.file_format.on_file.Goals as goal

pub act-next-requires : goal.act-next-requires
act-next-requires c = (c.requires.0, c.requires.1, c.requires.2, full-long (known_in c.args.s.now c.args.symbols.now c.args.layers.now) (form_in c.args.s.now c.args.form) c.args.s.now c.args.following.now c.args.first c.args.here c.args.tally.now c.args.marks.now c.args.header.now c.requires.3 _ _ _ _ c.file_table.ensures c.marks_of-from.ensures.0 c.marks_of-from.ensures.1 c.no_digits.ensures, header-room c.args.header.now _ c.requires.3.header.long)

pub bounds-marks-from : goal.bounds-marks-from
bounds-marks-from c = entry-inside (known_in c.args.s.now c.args.symbols.now c.args.layers.now) (form_in c.args.s.now c.args.form) c.args.s.now c.args.following.now c.args.first c.args.here c.args.tally.now c.args.marks.now c.args.header.now c.requires.3 _ c.marks_of-from.ensures.0 _ _ (told (known_in c.args.s.now c.args.symbols.now c.args.layers.now) (form_in c.args.s.now c.args.form) c.args.s.now c.args.following.now c.args.first c.args.here c.args.tally.now c.args.marks.now c.args.header.now c.requires.3 _ _ _ _ c.file_table.ensures c.marks_of-from.ensures.0 c.marks_of-from.ensures.1 c.no_digits.ensures _ _ _ c.in-Entry.is c.act-next.ensures)

pub bounds-marks-from-in-Begin : goal.bounds-marks-from-in-Begin
bounds-marks-from-in-Begin c = begin-inside (known_in c.args.s.now c.args.symbols.now c.args.layers.now) (form_in c.args.s.now c.args.form) c.args.s.now c.args.following.now c.args.first c.args.here c.args.tally.now c.args.marks.now c.args.header.now c.requires.3 _ c.marks_of-from.ensures.0 _ _ (told (known_in c.args.s.now c.args.symbols.now c.args.layers.now) (form_in c.args.s.now c.args.form) c.args.s.now c.args.following.now c.args.first c.args.here c.args.tally.now c.args.marks.now c.args.header.now c.requires.3 _ _ _ _ c.file_table.ensures c.marks_of-from.ensures.0 c.marks_of-from.ensures.1 c.no_digits.ensures _ _ _ c.in-Begin.is c.act-next.ensures)

pub returns-then-here-eq-INNER_NONE : goal.returns-then-here-eq-INNER_NONE
returns-then-here-eq-INNER_NONE c = line-shut (known_in c.args.s.now c.args.symbols.now c.args.layers.now) (form_in c.args.s.now c.args.form) c.args.s.now c.args.following.now c.args.first c.args.here c.args.tally.now c.args.marks.now c.args.header.now c.requires.3 _ _ _ (told (known_in c.args.s.now c.args.symbols.now c.args.layers.now) (form_in c.args.s.now c.args.form) c.args.s.now c.args.following.now c.args.first c.args.here c.args.tally.now c.args.marks.now c.args.header.now c.requires.3 _ _ _ _ c.file_table.ensures c.marks_of-from.ensures.0 c.marks_of-from.ensures.1 c.no_digits.ensures _ _ _ c.in-Shut.is c.act-next.ensures) c.if-here-eq-INNER_NONE.true c.close_file.ensures

pub returns-in-Stay : goal.returns-in-Stay
returns-in-Stay c = line-stay (known_in c.args.s.now c.args.symbols.now c.args.layers.now) (form_in c.args.s.now c.args.form) c.args.s.now c.args.following.now c.args.first c.args.here c.args.tally.now c.args.marks.now c.args.header.now c.requires.3 _ (told (known_in c.args.s.now c.args.symbols.now c.args.layers.now) (form_in c.args.s.now c.args.form) c.args.s.now c.args.following.now c.args.first c.args.here c.args.tally.now c.args.marks.now c.args.header.now c.requires.3 _ _ _ _ c.file_table.ensures c.marks_of-from.ensures.0 c.marks_of-from.ensures.1 c.no_digits.ensures _ _ _ c.in-Stay.is c.act-next.ensures)

pub returns-in-Entry : goal.returns-in-Entry
returns-in-Entry c = line-entry (known_in c.args.s.now c.args.symbols.now c.args.layers.now) (form_in c.args.s.now c.args.form) c.args.s.now c.args.following.now c.args.first c.args.here c.args.tally.now c.args.marks.now c.args.header.now c.requires.3 _ c.marks_of-from.ensures.0 _ _ _ (told (known_in c.args.s.now c.args.symbols.now c.args.layers.now) (form_in c.args.s.now c.args.form) c.args.s.now c.args.following.now c.args.first c.args.here c.args.tally.now c.args.marks.now c.args.header.now c.requires.3 _ _ _ _ c.file_table.ensures c.marks_of-from.ensures.0 c.marks_of-from.ensures.1 c.no_digits.ensures _ _ _ c.in-Entry.is c.act-next.ensures) c.keep_in.ensures

pub returns-in-Begin : goal.returns-in-Begin
returns-in-Begin c = line-begin (known_in c.args.s.now c.args.symbols.now c.args.layers.now) (form_in c.args.s.now c.args.form) c.args.s.now c.args.following.now c.args.first c.args.here c.args.tally.now c.args.marks.now c.args.header.now c.requires.3 _ c.marks_of-from.ensures.0 _ _ _ (told (known_in c.args.s.now c.args.symbols.now c.args.layers.now) (form_in c.args.s.now c.args.form) c.args.s.now c.args.following.now c.args.first c.args.here c.args.tally.now c.args.marks.now c.args.header.now c.requires.3 _ _ _ _ c.file_table.ensures c.marks_of-from.ensures.0 c.marks_of-from.ensures.1 c.no_digits.ensures _ _ _ c.in-Begin.is c.act-next.ensures) c.at_block.ensures

pub returns-else-here-eq-INNER_NONE : goal.returns-else-here-eq-INNER_NONE
returns-else-here-eq-INNER_NONE c = line-back (known_in c.args.s.now c.args.symbols.now c.args.layers.now) (form_in c.args.s.now c.args.form) c.args.s.now c.args.following.now c.args.first c.args.here c.args.tally.now c.args.marks.now c.args.header.now c.requires.3 _ _ _ (told (known_in c.args.s.now c.args.symbols.now c.args.layers.now) (form_in c.args.s.now c.args.form) c.args.s.now c.args.following.now c.args.first c.args.here c.args.tally.now c.args.marks.now c.args.header.now c.requires.3 _ _ _ _ c.file_table.ensures c.marks_of-from.ensures.0 c.marks_of-from.ensures.1 c.no_digits.ensures _ _ _ c.in-Shut.is c.act-next.ensures) c.if-here-eq-INNER_NONE.false c.around.ensures c.at_block-in-Shut.ensures

pub returns-in-Refuse : goal.returns-in-Refuse
returns-in-Refuse c = line_refused (known_in c.args.s.now c.args.symbols.now c.args.layers.now) (form_in c.args.s.now c.args.form) c.args.s.now c.args.following.now c.args.first c.args.here c.args.tally.now c.args.marks.now c.args.header.now c.requires.3 _ _ _ _ (told (known_in c.args.s.now c.args.symbols.now c.args.layers.now) (form_in c.args.s.now c.args.form) c.args.s.now c.args.following.now c.args.first c.args.here c.args.tally.now c.args.marks.now c.args.header.now c.requires.3 _ _ _ _ c.file_table.ensures c.marks_of-from.ensures.0 c.marks_of-from.ensures.1 c.no_digits.ensures _ _ _ c.in-Refuse.is c.act-next.ensures)
