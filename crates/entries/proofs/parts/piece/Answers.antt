use mathlib.Core.Path.{sym}
use native.Mathlib.Omega.{arith}
use lib.Seq.{length-take-le}
use Rattle.leaves.proofs.Cuts.{up_to-le}
use Rattle.entries.specs.Names.{known_of}
use Rattle.entries.proofs.OneValue.{decimal-told, whole-told}
use Rattle.entries.proofs.parts.piece.Goals as goal

pub returns-then-code-ge-PART_ANY_SIGN : goal.returns-then-code-ge-PART_ANY_SIGN
returns-then-code-ge-PART_ANY_SIGN c =
    let a = c.args in
    decimal-told (known_of a.known.now) a.code a.c.now _ c.decimal_piece-d.result c.if-code-ge-PART_ANY_SIGN.true c.decimal_piece-d.ensures c.measured.ensures

pub slice_bounds-whole-end : goal.slice_bounds-whole-end
slice_bounds-whole-end c = sym (length-take-le _ _ (omega (arith, up_to-le 44 c.args.c.now, c.find-end.ensures)))

pub returns-else-code-ge-PART_ANY_SIGN : goal.returns-else-code-ge-PART_ANY_SIGN
returns-else-code-ge-PART_ANY_SIGN c =
    let a = c.args in
    whole-told (known_of a.known.now) a.code a.c.now _ c.find-end.result c.if-code-ge-PART_ANY_SIGN.false c.find-end.ensures c.whole.ensures
