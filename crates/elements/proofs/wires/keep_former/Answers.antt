use lib.IntN.{pos}
use lib.ListN.{get_or, set}
use mir.Syntax.{w64}
use mir.Val.{SFits, to_z, of_z}
use Rattle.elements.proofs.WireActs.{former-kept}
use borrow.Author.Rules.{rules}
use Rattle.elements.proofs.wires.keep_former.Goals as goal

pub returns : goal.returns
returns c =
    let f : SFits w64 (get_or c.args.t.now 7 (pos 0)) = search rules in
    let g : SFits w64 (get_or (set c.args.t.now 36 (to_z w64 (of_z w64 (get_or c.args.t.now 7 (pos 0))))) 8 (pos 0)) = search rules in
    rw c.from.ensures (former-kept c.args.row c.args.t.now c.requires.0 f g)
