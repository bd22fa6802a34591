use mathlib.Core.Path.{refl}
use Rattle.account.proofs.Lent.{lent-part}
use Rattle.elements.proofs.PointsLines.{chain-stay, chain-entry, chain-begin, chain-shut, chain-refuse}
use Rattle.elements.proofs.points.on_chain.Goals as goal

pub returns-in-Stay : goal.returns-in-Stay
returns-in-Stay c = chain-stay c.args.here c.args.at c.args.t.now c.point_line-next.new.rec _ _ _ (rw (c.chain_point_kind.ensures, c.point_table.ensures) at c.point_line-next.ensures) (lent-part 32 32 c.args.t.now c.point_line-next.new.rec refl) c.in-Stay.is

pub returns-in-Entry : goal.returns-in-Entry
returns-in-Entry c = chain-entry c.args.here c.args.at c.args.t.now c.point_line-next.new.rec _ _ _ (rw (c.chain_point_kind.ensures, c.point_table.ensures) at c.point_line-next.ensures) (lent-part 32 32 c.args.t.now c.point_line-next.new.rec refl) _ _ _ c.type_chain.ensures c.more_points.ensures c.in-Entry.is

pub returns-in-Begin : goal.returns-in-Begin
returns-in-Begin c = chain-begin c.args.here c.args.at c.args.t.now c.point_line-next.new.rec _ _ _ (rw (c.chain_point_kind.ensures, c.point_table.ensures) at c.point_line-next.ensures) (lent-part 32 32 c.args.t.now c.point_line-next.new.rec refl) _ _ c.in-Begin.is

pub returns-in-Shut : goal.returns-in-Shut
returns-in-Shut c = chain-shut c.args.here c.args.at c.args.t.now c.point_line-next.new.rec _ _ _ (rw (c.chain_point_kind.ensures, c.point_table.ensures) at c.point_line-next.ensures) (lent-part 32 32 c.args.t.now c.point_line-next.new.rec refl) _ _ c.close_chain.ensures.0 c.close_chain.ensures.1 c.in-Shut.is

pub returns-in-Refuse : goal.returns-in-Refuse
returns-in-Refuse c = chain-refuse c.args.here c.args.at c.args.t.now c.point_line-next.new.rec _ _ _ (rw (c.chain_point_kind.ensures, c.point_table.ensures) at c.point_line-next.ensures) (lent-part 32 32 c.args.t.now c.point_line-next.new.rec refl) _ _ c.in-Refuse.is
