use mathlib.Core.Path.{sym, ◌∙◌}
use mathlib.Core.Bool.{false}
use lib.ListN.{replicate}
use Rattle.rules.specs.Lines.{form_in}
use Rattle.rules.specs.RangeClass.{digits_of}
use Rattle.rules.specs.Rows.{act}
use Rattle.tables.specs.Tables.{table_of}
use Rattle.entries.specs.Names.{known_in}
use Rattle.account.specs.FigureLines.{home_table, home_rows}
use Rattle.elements.proofs.FigureActs.{home-rows-most, home-lent, home-lent-long, home-room, home-acts, entry_row, begin-block, figures-stay, figures-entry, figures-begin, figures-shut, figures-refuse}
use Rattle.elements.proofs.figures.on_figures.Goals as goal

pub slice_bounds-full-end : goal.slice_bounds-full-end
slice_bounds-full-end c = home-rows-most c.args.was.layered c.args.wires _ c.home_rows-rows.ensures

pub slice_bounds-act-end : goal.slice_bounds-act-end
slice_bounds-act-end c = home-lent c.args.was.layered c.args.wires _ c.home_rows-rows.ensures

pub act-next-requires : goal.act-next-requires
act-next-requires c = (c.requires.0, c.requires.1, c.requires.2, home-lent-long c.args.was.layered c.args.range c.args.wires _ _ c.home_table.ensures c.home_rows-rows.ensures, home-room c.args.was.layered c.args.range c.args.wires _ _ c.home_table.ensures c.requires.5)

pub line_kind-requires : goal.line_kind-requires
line_kind-requires c = entry_row (known_in c.args.s.now c.args.symbols.now c.args.layers.now) c.args.was.layered c.args.range c.args.wires (digits_of c.args.range) (replicate (home_rows c.args.was.layered c.args.wires) false) (form_in c.args.s.now c.args.form) _ (sym c.in-Entry.is ∙ (home-acts c.args.was.layered c.args.range c.args.wires _ _ _ (known_in c.args.s.now c.args.symbols.now c.args.layers.now) (form_in c.args.s.now c.args.form) c.args.rec.now _ _ c.home_table.ensures c.home_rows-rows.ensures c.digits_of.ensures c.act-next.ensures).eq)

pub block_kind-requires : goal.block_kind-requires
block_kind-requires c = begin-block (known_in c.args.s.now c.args.symbols.now c.args.layers.now) c.args.was.layered c.args.range c.args.wires (digits_of c.args.range) (replicate (home_rows c.args.was.layered c.args.wires) false) (form_in c.args.s.now c.args.form) _ (sym c.in-Begin.is ∙ (home-acts c.args.was.layered c.args.range c.args.wires _ _ _ (known_in c.args.s.now c.args.symbols.now c.args.layers.now) (form_in c.args.s.now c.args.form) c.args.rec.now _ _ c.home_table.ensures c.home_rows-rows.ensures c.digits_of.ensures c.act-next.ensures).eq)

pub figure_opened-requires : goal.figure_opened-requires
figure_opened-requires c = (begin-block (known_in c.args.s.now c.args.symbols.now c.args.layers.now) c.args.was.layered c.args.range c.args.wires (digits_of c.args.range) (replicate (home_rows c.args.was.layered c.args.wires) false) (form_in c.args.s.now c.args.form) _ (sym c.in-Begin.is ∙ (home-acts c.args.was.layered c.args.range c.args.wires _ _ _ (known_in c.args.s.now c.args.symbols.now c.args.layers.now) (form_in c.args.s.now c.args.form) c.args.rec.now _ _ c.home_table.ensures c.home_rows-rows.ensures c.digits_of.ensures c.act-next.ensures).eq), c.requires.4)

pub returns-in-Stay : goal.returns-in-Stay
returns-in-Stay c =
    let h = home-acts c.args.was.layered c.args.range c.args.wires _ _ _ (known_in c.args.s.now c.args.symbols.now c.args.layers.now) (form_in c.args.s.now c.args.form) c.args.rec.now _ _ c.home_table.ensures c.home_rows-rows.ensures c.digits_of.ensures c.act-next.ensures in
    figures-stay c.args.was c.args.range c.args.wires c.args.at c.args.rec.now c.act-next.new.rec c.args.marks.now c.args.inner_marks.now (act (known_in c.args.s.now c.args.symbols.now c.args.layers.now) (table_of (home_table c.args.was.layered c.args.range c.args.wires)) (digits_of c.args.range) (replicate (home_rows c.args.was.layered c.args.wires) false) (form_in c.args.s.now c.args.form)) (sym c.in-Stay.is ∙ h.eq) h.entered

pub returns-in-Entry : goal.returns-in-Entry
returns-in-Entry c =
    let h = home-acts c.args.was.layered c.args.range c.args.wires _ _ _ (known_in c.args.s.now c.args.symbols.now c.args.layers.now) (form_in c.args.s.now c.args.form) c.args.rec.now _ _ c.home_table.ensures c.home_rows-rows.ensures c.digits_of.ensures c.act-next.ensures in
    figures-entry c.args.was c.args.range c.args.wires c.args.at c.args.rec.now c.act-next.new.rec c.args.marks.now c.args.inner_marks.now (act (known_in c.args.s.now c.args.symbols.now c.args.layers.now) (table_of (home_table c.args.was.layered c.args.range c.args.wires)) (digits_of c.args.range) (replicate (home_rows c.args.was.layered c.args.wires) false) (form_in c.args.s.now c.args.form)) _ _ _ (sym c.in-Entry.is ∙ h.eq) h.entered (rw c.line_kind.ensures at c.head.ensures) c.more_figures.ensures

pub returns-in-Begin : goal.returns-in-Begin
returns-in-Begin c =
    let h = home-acts c.args.was.layered c.args.range c.args.wires _ _ _ (known_in c.args.s.now c.args.symbols.now c.args.layers.now) (form_in c.args.s.now c.args.form) c.args.rec.now _ _ c.home_table.ensures c.home_rows-rows.ensures c.digits_of.ensures c.act-next.ensures in
    figures-begin c.args.was c.args.range c.args.wires c.args.at c.args.rec.now c.act-next.new.rec c.args.marks.now c.args.inner_marks.now (act (known_in c.args.s.now c.args.symbols.now c.args.layers.now) (table_of (home_table c.args.was.layered c.args.range c.args.wires)) (digits_of c.args.range) (replicate (home_rows c.args.was.layered c.args.wires) false) (form_in c.args.s.now c.args.form)) _ _ _ _ _ (sym c.in-Begin.is ∙ h.eq) h.entered (rw c.block_kind.ensures at c.head-in-Begin.ensures) c.unmark_if.ensures c.unmark_if-in-Begin.ensures c.figure_opened.ensures

pub returns-in-Shut : goal.returns-in-Shut
returns-in-Shut c =
    let h = home-acts c.args.was.layered c.args.range c.args.wires _ _ _ (known_in c.args.s.now c.args.symbols.now c.args.layers.now) (form_in c.args.s.now c.args.form) c.args.rec.now _ _ c.home_table.ensures c.home_rows-rows.ensures c.digits_of.ensures c.act-next.ensures in
    figures-shut c.args.was c.args.range c.args.wires c.args.at c.args.rec.now c.act-next.new.rec c.args.marks.now c.args.inner_marks.now (act (known_in c.args.s.now c.args.symbols.now c.args.layers.now) (table_of (home_table c.args.was.layered c.args.range c.args.wires)) (digits_of c.args.range) (replicate (home_rows c.args.was.layered c.args.wires) false) (form_in c.args.s.now c.args.form)) _ (sym c.in-Shut.is ∙ h.eq) h.entered c.close_figures.ensures

pub returns-in-Refuse : goal.returns-in-Refuse
returns-in-Refuse c =
    let h = home-acts c.args.was.layered c.args.range c.args.wires _ _ _ (known_in c.args.s.now c.args.symbols.now c.args.layers.now) (form_in c.args.s.now c.args.form) c.args.rec.now _ _ c.home_table.ensures c.home_rows-rows.ensures c.digits_of.ensures c.act-next.ensures in
    figures-refuse c.args.was c.args.range c.args.wires c.args.at c.args.rec.now c.act-next.new.rec c.args.marks.now c.args.inner_marks.now (act (known_in c.args.s.now c.args.symbols.now c.args.layers.now) (table_of (home_table c.args.was.layered c.args.range c.args.wires)) (digits_of c.args.range) (replicate (home_rows c.args.was.layered c.args.wires) false) (form_in c.args.s.now c.args.form)) _ (sym c.in-Refuse.is ∙ h.eq)
