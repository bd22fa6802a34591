use Rattle.rules.specs.Lines.{form_in}
use Rattle.entries.specs.Names.{known_in}
use Rattle.elements.proofs.PointsLines.{points-one, points-room, point-acts, point-stay, point-entry, point-begin, point-shut, point-refuse}
use Rattle.elements.proofs.points.point_line.Goals as goal

pub act-next-requires : goal.act-next-requires
act-next-requires c = (c.requires.0, c.requires.1, c.requires.2, points-one c.requires.4.0 c.args.table c.requires.4.1, points-room c.requires.4.0 c.args.table _ c.requires.4.1 c.requires.3)

pub returns-in-Stay : goal.returns-in-Stay
returns-in-Stay c = point-stay c.args.here c.args.kind c.args.table c.args.at c.args.rec.now _ _ _ (point-acts c.requires.4.0 c.args.table c.no_digits.result (known_in c.args.s.now c.args.symbols.now c.args.layers.now) (form_in c.args.s.now c.args.form) c.args.here.points c.args.rec.now _ _ c.requires.4.1 c.no_digits.ensures c.act-next.ensures) c.in-Stay.is

pub returns-in-Entry : goal.returns-in-Entry
returns-in-Entry c = point-entry c.args.here c.args.kind c.args.table c.args.at c.args.rec.now _ _ _ (point-acts c.requires.4.0 c.args.table c.no_digits.result (known_in c.args.s.now c.args.symbols.now c.args.layers.now) (form_in c.args.s.now c.args.form) c.args.here.points c.args.rec.now _ _ c.requires.4.1 c.no_digits.ensures c.act-next.ensures) _ _ c.head.ensures c.in-Entry.is

pub returns-in-Begin : goal.returns-in-Begin
returns-in-Begin c = point-begin c.args.here c.args.kind c.args.table c.args.at c.args.rec.now _ _ _ (point-acts c.requires.4.0 c.args.table c.no_digits.result (known_in c.args.s.now c.args.symbols.now c.args.layers.now) (form_in c.args.s.now c.args.form) c.args.here.points c.args.rec.now _ _ c.requires.4.1 c.no_digits.ensures c.act-next.ensures) _ c.in-Begin.is

pub returns-in-Shut : goal.returns-in-Shut
returns-in-Shut c = point-shut c.args.here c.args.kind c.args.table c.args.at c.args.rec.now _ _ _ (point-acts c.requires.4.0 c.args.table c.no_digits.result (known_in c.args.s.now c.args.symbols.now c.args.layers.now) (form_in c.args.s.now c.args.form) c.args.here.points c.args.rec.now _ _ c.requires.4.1 c.no_digits.ensures c.act-next.ensures) c.in-Shut.is

pub returns-in-Refuse : goal.returns-in-Refuse
returns-in-Refuse c = point-refuse c.args.here c.args.kind c.args.table c.args.at c.args.rec.now _ _ _ (point-acts c.requires.4.0 c.args.table c.no_digits.result (known_in c.args.s.now c.args.symbols.now c.args.layers.now) (form_in c.args.s.now c.args.form) c.args.here.points c.args.rec.now _ _ c.requires.4.1 c.no_digits.ensures c.act-next.ensures) _ c.in-Refuse.is
