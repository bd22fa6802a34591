use mathlib.Core.Bool.{Bool, true}
use mathlib.Core.List.{List}
use mathlib.Core.Path.{refl, ap}
use native.Mathlib.Omega.{arith}
use lib.ListN.{set}
use Rattle.account.specs.declared.Step.TheVariants as S
use Rattle.account.specs.PlacedLines.{lent, own_number}
use Rattle.account.proofs.PlacedLaws.{entry_done}
use Rattle.elements.proofs.placed.placed_done.Goals as goal

pub placed_entry-requires : goal.placed_entry-requires
placed_entry-requires c =
    let h = c.requires.0 in
    let q = rw c.in-Entry.is at c.requires.2 in
    (h.tally, h.serials, h.ordered, h.count, c.requires.1, omega (arith, q.0, h.marks), q.1)

pub bounds-marks-opened : goal.bounds-marks-opened
bounds-marks-opened c =
    let h = c.requires.0 in
    let q = rw c.in-Begin.is at c.requires.2 in
    omega (arith, q, h.marks)

pub returns-in-Stay : goal.returns-in-Stay
returns-in-Stay c = rw c.in-Stay.is (record { answer = refl; lent = refl })

pub returns-in-Entry : goal.returns-in-Entry
returns-in-Entry c = entry_done c.args.here c.in-Entry.row (own_number c.args.rec.now) c.args.content c.args.tally.now _ c.args.serials.now _ c.args.marks.now _ c.args.inner.now c.args.next _ c.in-Entry.is c.placed_entry.ensures

pub returns-in-Begin : goal.returns-in-Begin
returns-in-Begin c = rw c.in-Begin.is (record { answer = ap S.Go c.at_block.ensures; lent = ap (λ (m : List Bool). lent c.args.tally.now c.args.serials.now (set c.args.marks.now c.in-Begin.opened.row true) m) c.unmark.ensures })

pub returns-in-Shut : goal.returns-in-Shut
returns-in-Shut c = rw c.in-Shut.is (record { answer = refl; lent = tt })

pub returns-in-Refuse : goal.returns-in-Refuse
returns-in-Refuse c = rw c.in-Refuse.is (record { answer = refl; lent = tt })
