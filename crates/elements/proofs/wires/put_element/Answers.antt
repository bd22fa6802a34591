use Prim.Native.Nat.{◌+◌}
use Rattle.elements.proofs.WireActs.{put-room, put-long, put-same-length, element-put}
use mir.Facts.{to_z-of_z}
use mir.Syntax.{w64}
use mir.Val.{SFits}
use borrow.Author.Rules.{rules}
use Rattle.elements.proofs.wires.put_element.Goals as goal

pub bounds-t-11 : goal.bounds-t-11
bounds-t-11 c = put-room (20 + c.args.row) c.args.here.owner c.args.at c.args.t.now _ c.head.ensures c.requires.1

pub keep_former-requires : goal.keep_former-requires
keep_former-requires c = (c.requires.0, put-long (20 + c.args.row) c.args.here.owner c.args.at c.args.t.now _ c.head.ensures _ c.requires.1)

pub shape_of-t : goal.shape_of-t
shape_of-t c = put-same-length (20 + c.args.row) c.args.here.owner c.args.at c.args.t.now _ c.head.ensures _ c.args.row _ c.keep_former.ensures

pub returns : goal.returns
returns c =
    let f : SFits w64 c.join_number-join.result = search rules in
    element-put c.args.ends c.args.here c.args.at c.args.row c.args.t.now _ _ _ _ c.join_number-join.ensures (to_z-of_z f) c.head.ensures c.keep_former.ensures
