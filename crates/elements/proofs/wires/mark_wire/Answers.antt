use Prim.Native.Nat.{◌<◌}
use mathlib.Core.List.{◌++◌}
use lib.IntN.{pos}
use lib.ListN.{length, take, drop}
use mathlib.Core.Path.{refl}
use lib.Seq.{lt-length-set}
use Rattle.elements.proofs.WireActs.{wire-marked}
use borrow.Author.Rules.{rules}
use Rattle.elements.proofs.wires.mark_wire.Goals as goal

pub slice_set_of-t-2 : goal.slice_set_of-t-2
slice_set_of-t-2 c =
    let u = take 32 c.args.t.now ++ (c.mark_states.new.rec ++ drop 64 (drop 32 c.args.t.now)) in
    let h : 95 < length u = search rules in
    lt-length-set u 63 (pos 3) h

pub returns : goal.returns
returns c = wire-marked c.args.range _ _ c.args.t.now _ _ _ refl c.requires c.no_digits.ensures c.digits_of.ensures c.mark_states.ensures refl
