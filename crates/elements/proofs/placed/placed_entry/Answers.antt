use mathlib.Core.List.{[]}
use native.Mathlib.Omega.{arith}
use lib.IntN.{pos}
use lib.ListN.{get_or}
use mir.Syntax.{w64}
use mir.Val.{SFits}
use Rattle.account.specs.PlacedLines.{own_number}
use Rattle.account.proofs.PlacedLaws.{own_back, own_cast, entry-serial, entry_other}
use borrow.Author.Rules.{rules}
use Rattle.elements.proofs.placed.placed_entry.Goals as goal

pub overflow_cast-rec : goal.overflow_cast-rec
overflow_cast-rec c =
    let f : SFits w64 (get_or c.args.rec.now 14 (pos 0)) = search rules in
    own_cast (get_or c.args.rec.now 14 (pos 0)) f (c.requires.6 c.if-row-eq-SERIAL_ROW.true).positive

pub keep_own-requires : goal.keep_own-requires
keep_own-requires c =
    let f : SFits w64 (get_or c.args.rec.now 14 (pos 0)) = search rules in
    let h = c.requires in
    let m = (h.6 c.if-row-eq-SERIAL_ROW.true).most in
    (h.0, h.1, h.3, omega (arith, own_back (get_or c.args.rec.now 14 (pos 0)) f, m), h.2)

pub returns-then-row-eq-SERIAL_ROW : goal.returns-then-row-eq-SERIAL_ROW
returns-then-row-eq-SERIAL_ROW c =
    let f : SFits w64 (get_or c.args.rec.now 14 (pos 0)) = search rules in
    entry-serial c.args.here c.args.row (own_number c.args.rec.now) c.args.content c.args.tally.now _ c.args.serials.now _ c.args.marks.now [] _ c.if-row-eq-SERIAL_ROW.true (rw (own_back (get_or c.args.rec.now 14 (pos 0)) f) at c.keep_own.ensures)

pub returns : goal.returns
returns c = entry_other c.args.here c.args.row (own_number c.args.rec.now) c.args.content c.args.tally.now c.args.serials.now c.args.marks.now [] c.if-row-eq-SERIAL_ROW.false
