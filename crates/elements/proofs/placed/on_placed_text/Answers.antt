use mathlib.Core.Path.{sym, ◌∙◌}
use native.Mathlib.Omega.{arith}
use Rattle.rules.specs.Lines.{form_in}
use Rattle.rules.specs.RangeClass.{digits}
use Rattle.entries.specs.Names.{known_in}
use Rattle.account.proofs.PlacedLaws.{text-two, text-room, text-row, text-stay, text-entry, text-begin, text-shut, text-refuse}
use Rattle.elements.proofs.placed.on_placed_text.Goals as goal

pub act-next-requires : goal.act-next-requires
act-next-requires c = let h = c.requires in (h.0, h.1, h.2, h.3 ∙ sym text-two, text-room _ h.4)

pub bounds-inner-row : goal.bounds-inner-row
bounds-inner-row c =
    let a = c.args in
    let q = text-row (known_in a.s.now a.symbols.now a.layers.now) _ (digits 0 0) a.inner.now (form_in a.s.now a.form) a.here a.rec.now _ _ c.no_digits.ensures c.act-next.ensures c.in-Entry.row c.in-Entry.is in
    omega (arith, q, c.requires.3)

pub returns-in-Stay : goal.returns-in-Stay
returns-in-Stay c = let a = c.args in text-stay (known_in a.s.now a.symbols.now a.layers.now) _ (digits 0 0) a.inner.now (form_in a.s.now a.form) a.here a.rec.now _ _ c.no_digits.ensures c.act-next.ensures c.in-Stay.is

pub returns-in-Entry : goal.returns-in-Entry
returns-in-Entry c = let a = c.args in text-entry (known_in a.s.now a.symbols.now a.layers.now) _ (digits 0 0) a.inner.now (form_in a.s.now a.form) a.here a.rec.now _ _ c.no_digits.ensures c.act-next.ensures c.in-Entry.row c.in-Entry.is

pub returns-in-Begin : goal.returns-in-Begin
returns-in-Begin c = let a = c.args in text-begin (known_in a.s.now a.symbols.now a.layers.now) _ (digits 0 0) a.inner.now (form_in a.s.now a.form) a.here a.rec.now _ _ c.no_digits.ensures c.act-next.ensures c.in-Begin.field-0 c.in-Begin.is

pub returns-in-Shut : goal.returns-in-Shut
returns-in-Shut c = let a = c.args in text-shut (known_in a.s.now a.symbols.now a.layers.now) _ (digits 0 0) a.inner.now (form_in a.s.now a.form) a.here a.rec.now _ _ c.no_digits.ensures c.act-next.ensures _ c.in-Shut.is c.at_block.ensures

pub returns-in-Refuse : goal.returns-in-Refuse
returns-in-Refuse c = let a = c.args in text-refuse (known_in a.s.now a.symbols.now a.layers.now) _ (digits 0 0) a.inner.now (form_in a.s.now a.form) a.here a.rec.now _ _ c.no_digits.ensures c.act-next.ensures c.in-Refuse.k c.in-Refuse.is
