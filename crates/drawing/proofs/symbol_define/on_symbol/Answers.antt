use Prim.Native.Nat.{◌<◌}
use mathlib.Core.Path.{sym, ◌∙◌}
use native.Mathlib.Omega.{arith}
use lib.ListN.{length, take}
use Rattle.rules.specs.Lines.{form_in}
use Rattle.rules.specs.RangeClass.{digits_of}
use Rattle.entries.specs.Names.{known_in}
use Rattle.drawing.proofs.SymbolSteps.{symbol-four, symbol-room, four-taken, seven_in_lem, symbol-entry, entry_row, begin-row, entry_named}
use Rattle.drawing.proofs.symbol_define.on_symbol.Goals as goal

pub act-next-requires : goal.act-next-requires
act-next-requires c = (c.requires.0, c.requires.1, c.requires.2, four-taken c.args.marks.now c.requires.3 ∙ sym symbol-four, symbol-room (length c.args.rec.now) c.requires.4)

pub symbol_entry-requires : goal.symbol_entry-requires
symbol_entry-requires c =
    let r : c.in-Entry.row < length c.args.marks.now = omega (arith, entry_row (known_in c.args.s.now c.args.symbols.now c.args.layers.now) (digits_of c.args.range) (take 4 c.args.marks.now) (form_in c.args.s.now c.args.form) c.args.rec.now _ c.act-next.result (rw c.digits_of.ensures at c.act-next.ensures) c.in-Entry.row c.in-Entry.is, c.requires.3) in
    (c.requires.1, r, seven_in_lem _ (c.act-next.auto.rec ∙ c.requires.4), entry_named (known_in c.args.s.now c.args.symbols.now c.args.layers.now) (digits_of c.args.range) (take 4 c.args.marks.now) (form_in c.args.s.now c.args.form) c.args.rec.now _ c.act-next.result (rw c.digits_of.ensures at c.act-next.ensures) c.in-Entry.row c.in-Entry.is c.requires.4 c.requires.5)

pub bounds-marks-inner : goal.bounds-marks-inner
bounds-marks-inner c = omega (arith, begin-row (known_in c.args.s.now c.args.symbols.now c.args.layers.now) (digits_of c.args.range) (take 4 c.args.marks.now) (form_in c.args.s.now c.args.form) c.args.rec.now _ c.act-next.result (rw c.digits_of.ensures at c.act-next.ensures) c.in-Begin.inner c.in-Begin.is, c.requires.3)

pub returns-in-Entry : goal.returns-in-Entry
returns-in-Entry c = symbol-entry c.args.s.now c.args.symbols.now c.args.here c.args.marks.now _ c.args.rec.now _ _ c.act-next.result (rw c.digits_of.ensures at c.act-next.ensures) c.in-Entry.row c.symbol_entry.result c.in-Entry.is c.symbol_entry.ensures.0 c.symbol_entry.ensures.1
