use mathlib.Core.List.{[]}
use native.Mathlib.Omega.{arith}
use lib.IntN.{pos}
use lib.ListN.{get_or}
use mir.Syntax.{w64}
use mir.Val.{SFits}
use Rattle.account.specs.WireLines.{own_in}
use Rattle.account.proofs.PlacedLaws.{own_back, own_cast}
use Rattle.elements.proofs.WireKeys.{entered-serial, entered-other}
use borrow.Author.Rules.{rules}
use Rattle.elements.proofs.wires.once_entered.Goals as goal

pub overflow_cast-t : goal.overflow_cast-t
overflow_cast-t c =
    let f : SFits w64 (get_or c.args.t.now 85 (pos 0)) = search rules in
    own_cast (get_or c.args.t.now 85 (pos 0)) f (c.requires.6 c.if-row-eq-ROW_SERIAL.true).positive

pub keep_own-requires : goal.keep_own-requires
keep_own-requires c =
    let f : SFits w64 (get_or c.args.t.now 85 (pos 0)) = search rules in
    let h = c.requires in
    let m = (h.6 c.if-row-eq-ROW_SERIAL.true).most in
    (h.0, h.1, h.3, omega (arith, own_back (get_or c.args.t.now 85 (pos 0)) f, m), h.2)

pub returns-then-row-eq-ROW_SERIAL : goal.returns-then-row-eq-ROW_SERIAL
returns-then-row-eq-ROW_SERIAL c =
    let f : SFits w64 (get_or c.args.t.now 85 (pos 0)) = search rules in
    entered-serial c.args.here c.args.row (own_in c.args.t.now) c.args.content _ c.args.tally.now _ c.args.serials.now _ c.args.marks.now [] _ c.if-row-eq-ROW_SERIAL.true c.past.ensures (rw (own_back (get_or c.args.t.now 85 (pos 0)) f) at c.keep_own.ensures)

pub returns : goal.returns
returns c = entered-other c.args.here c.args.row (own_in c.args.t.now) c.args.content _ c.args.tally.now c.args.serials.now c.args.marks.now [] c.if-row-eq-ROW_SERIAL.false c.past-2.ensures
