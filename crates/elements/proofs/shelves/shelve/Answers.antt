use mathlib.Core.Path.{◌∙◌, ap}
use native.Mathlib.Omega.{arith}
use Prim.Native.Nat.{◌+◌}
use lib.IntN.{pos, nat_abs}
use lib.ListN.{length, get_or}
use lib.Seq.{lt-length-set}
use mir.Syntax.{w64}
use mir.Val.{SFits, to_z, of_z}
use Rattle.rules.specs.RecordTable.{shelf}
use Rattle.leaves.proofs.Ints.{pos-back}
use Rattle.account.proofs.PlacedLaws.{own_back}
use Rattle.elements.proofs.ShelfActs.{shown-long, shelf-put, long_enough, cleared-long}
use borrow.Author.Rules.{rules}
use Rattle.elements.proofs.shelves.shelve.Goals as goal

pub overflow_add-t : goal.overflow_add-t
overflow_add-t c =
    let f : SFits w64 (get_or c.args.t.now (32 + c.args.on.place) (pos 0)) = search rules in
    omega (arith, own_back (get_or c.args.t.now (32 + c.args.on.place) (pos 0)) f, c.requires.1.most)

pub overflow_cast-t : goal.overflow_cast-t
overflow_cast-t c =
    let f : SFits w64 (get_or c.args.t.now (32 + c.args.on.place) (pos 0)) = search rules in
    omega (arith, own_back (get_or c.args.t.now (32 + c.args.on.place) (pos 0)) f, c.requires.1.most)

pub slice_set_of-t : goal.slice_set_of-t
slice_set_of-t c =
    let h = ap length c.show_more.ensures ∙ shown-long c.args.from (shelf c.args.on.place 0 c.args.on.wide c.args.on.shown) _ c.args.t.now ∙ c.requires.0 in
    lt-length-set c.show_more.new.t _ _ (omega (arith, h, c.requires.4))

pub slice_bounds-fill-end : goal.slice_bounds-fill-end
slice_bounds-fill-end c =
    let h = ap length c.show_more.ensures ∙ shown-long c.args.from (shelf c.args.on.place 0 c.args.on.wide c.args.on.shown) _ c.args.t.now ∙ c.requires.0 in
    long_enough c.show_more.new.t _ _ _ _ h

pub shape_of-t : goal.shape_of-t
shape_of-t c =
    let zeros = c.fill.ensures.after (λ y e. search rules) in
    let h = ap length c.show_more.ensures ∙ shown-long c.args.from (shelf c.args.on.place 0 c.args.on.wide c.args.on.shown) _ c.args.t.now ∙ c.requires.0 in
    cleared-long c.show_more.new.t _ _ _ _ _ _ zeros h c.requires.0

pub returns : goal.returns
returns c =
    let zeros = c.fill.ensures.after (λ y e. search rules) in
    let f : SFits w64 (get_or c.args.t.now (32 + c.args.on.place) (pos 0)) = search rules in
    let b = own_back (get_or c.args.t.now (32 + c.args.on.place) (pos 0)) f in
    let h = ap length c.show_more.ensures ∙ shown-long c.args.from (shelf c.args.on.place 0 c.args.on.wide c.args.on.shown) _ c.args.t.now ∙ c.requires.0 in
    shelf-put c.args.from c.args.on.place c.args.on.state c.args.on.wide c.args.on.shown c.args.t.now _ _ _ _ b c.show_more.ensures (pos-back (nat_abs (to_z w64 (of_z w64 (get_or c.args.t.now (32 + c.args.on.place) (pos 0)))) + 1) (omega (arith, b, c.requires.1.most))) zeros h
