use mathlib.Core.Path.{refl, sym, ◌∙◌}
use native.Mathlib.Omega.{arith}
use Rattle.rules.specs.Lines.{form_in}
use Rattle.entries.specs.Names.{known_in}
use Rattle.account.proofs.Lent.{lent-part}
use Rattle.elements.proofs.WireKeys.{wire-text-room, wire-text-two, shelves-kept, wire-text-row, wire-text-stay, wire-text-entry, wire-text-begin, wire-text-shut, wire-text-refuse}
use borrow.Author.Rules.{rules}
use Rattle.elements.proofs.wires.text_line.Goals as goal

pub act-next-requires : goal.act-next-requires
act-next-requires c = let h = c.requires in (h.0, h.1, h.2, h.3 ∙ sym wire-text-two, wire-text-room _ (search rules))

pub bounds-inner-row : goal.bounds-inner-row
bounds-inner-row c = omega (arith, wire-text-row (known_in c.args.s.now c.args.symbols.now c.args.layers.now) _ c.args.inner.now (form_in c.args.s.now c.args.form) c.args.here c.args.t.now c.act-next.new.rec _ _ c.no_digits.ensures c.act-next.ensures (lent-part 0 32 c.args.t.now c.act-next.new.rec refl) c.in-Entry.row c.in-Entry.is, c.requires.3)

pub shelve_text-requires : goal.shelve_text-requires
shelve_text-requires c = shelves-kept c.args.t.now c.act-next.new.rec _ (lent-part 0 32 c.args.t.now c.act-next.new.rec refl) c.requires.4.scratch (search rules) c.requires.4

pub returns-in-Stay : goal.returns-in-Stay
returns-in-Stay c = wire-text-stay (known_in c.args.s.now c.args.symbols.now c.args.layers.now) _ c.args.inner.now (form_in c.args.s.now c.args.form) c.args.here c.args.t.now c.act-next.new.rec _ _ c.no_digits.ensures c.act-next.ensures (lent-part 0 32 c.args.t.now c.act-next.new.rec refl) c.in-Stay.is

pub returns-in-Entry : goal.returns-in-Entry
returns-in-Entry c = wire-text-entry (known_in c.args.s.now c.args.symbols.now c.args.layers.now) _ c.args.inner.now (form_in c.args.s.now c.args.form) c.args.here c.args.t.now c.act-next.new.rec _ _ c.no_digits.ensures c.act-next.ensures (lent-part 0 32 c.args.t.now c.act-next.new.rec refl) c.in-Entry.row c.in-Entry.is

pub returns-in-Begin : goal.returns-in-Begin
returns-in-Begin c = wire-text-begin (known_in c.args.s.now c.args.symbols.now c.args.layers.now) _ c.args.inner.now (form_in c.args.s.now c.args.form) c.args.here c.args.t.now c.act-next.new.rec _ _ c.no_digits.ensures c.act-next.ensures (lent-part 0 32 c.args.t.now c.act-next.new.rec refl) _ _ _ c.in-Begin.is

pub returns-in-Shut : goal.returns-in-Shut
returns-in-Shut c = wire-text-shut (known_in c.args.s.now c.args.symbols.now c.args.layers.now) _ c.args.inner.now (form_in c.args.s.now c.args.form) c.args.here c.args.t.now c.act-next.new.rec _ _ c.no_digits.ensures c.act-next.ensures (lent-part 0 32 c.args.t.now c.act-next.new.rec refl) _ _ c.in-Shut.is c.shelve_text.ensures c.past.ensures

pub returns-in-Refuse : goal.returns-in-Refuse
returns-in-Refuse c = wire-text-refuse (known_in c.args.s.now c.args.symbols.now c.args.layers.now) _ c.args.inner.now (form_in c.args.s.now c.args.form) c.args.here c.args.t.now c.act-next.new.rec _ _ c.no_digits.ensures c.act-next.ensures (lent-part 0 32 c.args.t.now c.act-next.new.rec refl) _ _ _ c.in-Refuse.is
