use mathlib.Core.Path.{refl}
use mathlib.Core.Bool.{false}
use Rattle.elements.proofs.PointsLines.{hide-stay, hide-entry, hide-begin, hide-shut, hide-refuse}
use Rattle.elements.proofs.points.on_hide.Goals as goal

pub point_line-next-requires : goal.point_line-next-requires
point_line-next-requires c = (c.requires.0, c.requires.1, c.requires.2, c.requires.5, (false, refl))

pub returns-in-Stay : goal.returns-in-Stay
returns-in-Stay c = hide-stay c.args.here c.args.at c.args.rec.now _ _ _ c.point_line-next.ensures c.in-Stay.is

pub returns-in-Entry : goal.returns-in-Entry
returns-in-Entry c = hide-entry c.args.here c.args.at c.args.rec.now _ _ _ c.point_line-next.ensures _ _ c.more_points.ensures c.in-Entry.is

pub returns-in-Begin : goal.returns-in-Begin
returns-in-Begin c = hide-begin c.args.here c.args.at c.args.rec.now _ _ _ c.point_line-next.ensures _ c.in-Begin.is

pub returns-in-Shut : goal.returns-in-Shut
returns-in-Shut c = hide-shut c.args.here c.args.at c.args.rec.now _ _ _ c.point_line-next.ensures _ c.at_block.ensures c.in-Shut.is

pub returns-in-Refuse : goal.returns-in-Refuse
returns-in-Refuse c = hide-refuse c.args.here c.args.at c.args.rec.now _ _ _ c.point_line-next.ensures _ c.in-Refuse.is
