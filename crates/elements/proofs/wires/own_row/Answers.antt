use mathlib.Core.Path.{refl}
use native.Mathlib.Omega.{arith}
use Rattle.entries.specs.Names.{known_in}
use Rattle.entries.specs.Shapes.{rest_in}
use Rattle.account.specs.SerialNumbers.{content_at}
use Rattle.account.specs.PlacedLines.{lent}
use Rattle.account.specs.WireLines.{range_in}
use Rattle.elements.proofs.WireKeys.{own_room, once-number, once-own, once-stay, once-entry, once-begin, once-shut, once-refuse}
use borrow.Author.Rules.{rules}
use Rattle.elements.proofs.wires.own_row.Goals as goal

pub act_row-next-requires : goal.act_row-next-requires
act_row-next-requires c = let h = c.requires in (h.0, h.1, h.2, own_room c.args.row h.5 _ (search rules) h.4)

pub once_entered-requires : goal.once_entered-requires
once_entered-requires c =
    let h = c.requires.6 in
    (h.tally, h.serials, h.ordered, h.count, search rules, omega (arith, once-number c.args.row c.requires.5 (known_in c.args.s.now c.args.symbols.now c.args.layers.now) _ c.args.full (rest_in c.args.s.now c.args.rest) (range_in c.args.tally.now) c.args.here (content_at (rest_in c.args.s.now c.args.rest)) (lent c.args.tally.now c.args.serials.now c.args.marks.now c.args.inner.now) c.args.t.now c.act_row-next.new.rec _ _ c.digits_of.ensures c.requires.7 _ refl c.act_row-next.ensures refl c.in-Entry.j c.in-Entry.is, c.requires.4, h.marks), once-own c.args.row c.requires.5 (known_in c.args.s.now c.args.symbols.now c.args.layers.now) _ c.args.full (rest_in c.args.s.now c.args.rest) (range_in c.args.tally.now) c.args.here (content_at (rest_in c.args.s.now c.args.rest)) (lent c.args.tally.now c.args.serials.now c.args.marks.now c.args.inner.now) c.args.t.now c.act_row-next.new.rec _ _ c.digits_of.ensures c.requires.7 _ refl c.act_row-next.ensures refl c.in-Entry.j c.in-Entry.is)

pub returns-in-Stay : goal.returns-in-Stay
returns-in-Stay c = once-stay c.args.row c.requires.5 (known_in c.args.s.now c.args.symbols.now c.args.layers.now) _ c.args.full (rest_in c.args.s.now c.args.rest) (range_in c.args.tally.now) c.args.here (content_at (rest_in c.args.s.now c.args.rest)) (lent c.args.tally.now c.args.serials.now c.args.marks.now c.args.inner.now) c.args.t.now c.act_row-next.new.rec _ _ c.digits_of.ensures c.requires.7 _ refl c.act_row-next.ensures refl c.in-Stay.is

pub returns-in-Entry : goal.returns-in-Entry
returns-in-Entry c = once-entry c.args.row c.requires.5 (known_in c.args.s.now c.args.symbols.now c.args.layers.now) _ c.args.full (rest_in c.args.s.now c.args.rest) (range_in c.args.tally.now) c.args.here (content_at (rest_in c.args.s.now c.args.rest)) (lent c.args.tally.now c.args.serials.now c.args.marks.now c.args.inner.now) c.args.t.now c.act_row-next.new.rec _ _ c.digits_of.ensures c.requires.7 _ refl c.act_row-next.ensures refl c.in-Entry.j _ _ c.in-Entry.is refl (rw c.content_at.ensures at c.once_entered.ensures)

pub returns-in-Begin : goal.returns-in-Begin
returns-in-Begin c = once-begin c.args.row c.requires.5 (known_in c.args.s.now c.args.symbols.now c.args.layers.now) _ c.args.full (rest_in c.args.s.now c.args.rest) (range_in c.args.tally.now) c.args.here (content_at (rest_in c.args.s.now c.args.rest)) (lent c.args.tally.now c.args.serials.now c.args.marks.now c.args.inner.now) c.args.t.now c.act_row-next.new.rec _ _ c.digits_of.ensures c.requires.7 _ refl c.act_row-next.ensures refl _ _ _ c.in-Begin.is c.unmark.ensures c.at_block.ensures

pub returns-in-Shut : goal.returns-in-Shut
returns-in-Shut c = once-shut c.args.row c.requires.5 (known_in c.args.s.now c.args.symbols.now c.args.layers.now) _ c.args.full (rest_in c.args.s.now c.args.rest) (range_in c.args.tally.now) c.args.here (content_at (rest_in c.args.s.now c.args.rest)) (lent c.args.tally.now c.args.serials.now c.args.marks.now c.args.inner.now) c.args.t.now c.act_row-next.new.rec _ _ c.digits_of.ensures c.requires.7 _ refl c.act_row-next.ensures refl _ c.in-Shut.is

pub returns-in-Refuse : goal.returns-in-Refuse
returns-in-Refuse c = once-refuse c.args.row c.requires.5 (known_in c.args.s.now c.args.symbols.now c.args.layers.now) _ c.args.full (rest_in c.args.s.now c.args.rest) (range_in c.args.tally.now) c.args.here (content_at (rest_in c.args.s.now c.args.rest)) (lent c.args.tally.now c.args.serials.now c.args.marks.now c.args.inner.now) c.args.t.now c.act_row-next.new.rec _ _ c.digits_of.ensures c.requires.7 _ refl c.act_row-next.ensures refl _ _ c.in-Refuse.is
