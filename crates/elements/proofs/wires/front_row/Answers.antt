use mathlib.Core.Path.{refl}
use native.Mathlib.Omega.{arith}
use Rattle.entries.specs.Names.{known_in}
use Rattle.entries.specs.Shapes.{rest_in}
use Rattle.account.proofs.Lent.{lent-part}
use Rattle.elements.proofs.WireKeys.{front-room, shelves-kept, front-stay, front-number, front-element, front-group, front-begin, front-shut, front-refuse}
use borrow.Author.Rules.{rules}
use Rattle.elements.proofs.wires.front_row.Goals as goal

pub act_row-next-requires : goal.act_row-next-requires
act_row-next-requires c = let h = c.requires in (h.0, h.1, h.2, front-room c.args.row h.4 _ (search rules) h.3)

pub returns-then-j-lt-ROW_DIREC : goal.returns-then-j-lt-ROW_DIREC
returns-then-j-lt-ROW_DIREC c = front-element c.args.row c.requires.4 (known_in c.args.s.now c.args.symbols.now c.args.layers.now) _ c.args.full (rest_in c.args.s.now c.args.rest) c.args.range c.args.here c.args.at c.args.t.now c.act_row-next.new.rec _ _ c.digits_of.ensures c.act_row-next.ensures (lent-part 0 32 c.args.t.now c.act_row-next.new.rec refl) c.in-Entry.j _ _ _ c.in-Entry.is c.if-j-lt-ROW_DIREC.true c.joins_ends.ensures c.element_entered.ensures

pub group_entered-requires : goal.group_entered-requires
group_entered-requires c = (c.if-j-lt-ROW_DIREC.false, omega (arith, front-number c.args.row c.requires.4 (known_in c.args.s.now c.args.symbols.now c.args.layers.now) _ c.args.full (rest_in c.args.s.now c.args.rest) c.args.range c.args.here c.args.at c.args.t.now c.act_row-next.new.rec _ _ c.digits_of.ensures c.act_row-next.ensures (lent-part 0 32 c.args.t.now c.act_row-next.new.rec refl) c.in-Entry.j c.in-Entry.is, c.requires.3), shelves-kept c.args.t.now c.act_row-next.new.rec _ (lent-part 0 32 c.args.t.now c.act_row-next.new.rec refl) c.requires.6.scratch (search rules) c.requires.6)

pub returns-in-Stay : goal.returns-in-Stay
returns-in-Stay c = front-stay c.args.row c.requires.4 (known_in c.args.s.now c.args.symbols.now c.args.layers.now) _ c.args.full (rest_in c.args.s.now c.args.rest) c.args.range c.args.here c.args.at c.args.t.now c.act_row-next.new.rec _ _ c.digits_of.ensures c.act_row-next.ensures (lent-part 0 32 c.args.t.now c.act_row-next.new.rec refl) c.in-Stay.is

pub returns-else-j-lt-ROW_DIREC : goal.returns-else-j-lt-ROW_DIREC
returns-else-j-lt-ROW_DIREC c = front-group c.args.row c.requires.4 (known_in c.args.s.now c.args.symbols.now c.args.layers.now) _ c.args.full (rest_in c.args.s.now c.args.rest) c.args.range c.args.here c.args.at c.args.t.now c.act_row-next.new.rec _ _ c.digits_of.ensures c.act_row-next.ensures (lent-part 0 32 c.args.t.now c.act_row-next.new.rec refl) c.in-Entry.j _ _ c.in-Entry.is c.if-j-lt-ROW_DIREC.false c.group_entered.ensures

pub returns-in-Begin : goal.returns-in-Begin
returns-in-Begin c = front-begin c.args.row c.requires.4 (known_in c.args.s.now c.args.symbols.now c.args.layers.now) _ c.args.full (rest_in c.args.s.now c.args.rest) c.args.range c.args.here c.args.at c.args.t.now c.act_row-next.new.rec _ _ c.digits_of.ensures c.act_row-next.ensures (lent-part 0 32 c.args.t.now c.act_row-next.new.rec refl) _ _ c.in-Begin.is

pub returns-in-Shut : goal.returns-in-Shut
returns-in-Shut c = front-shut c.args.row c.requires.4 (known_in c.args.s.now c.args.symbols.now c.args.layers.now) _ c.args.full (rest_in c.args.s.now c.args.rest) c.args.range c.args.here c.args.at c.args.t.now c.act_row-next.new.rec _ _ c.digits_of.ensures c.act_row-next.ensures (lent-part 0 32 c.args.t.now c.act_row-next.new.rec refl) _ c.in-Shut.is

pub returns-in-Refuse : goal.returns-in-Refuse
returns-in-Refuse c = front-refuse c.args.row c.requires.4 (known_in c.args.s.now c.args.symbols.now c.args.layers.now) _ c.args.full (rest_in c.args.s.now c.args.rest) c.args.range c.args.here c.args.at c.args.t.now c.act_row-next.new.rec _ _ c.digits_of.ensures c.act_row-next.ensures (lent-part 0 32 c.args.t.now c.act_row-next.new.rec refl) _ _ c.in-Refuse.is
