use mathlib.Core.Path.{refl, sym, ◌∙◌}
use native.Mathlib.Omega.{arith}
use lib.ListN.{length}
use borrow.Author.Tests.{not-true, not-false}
use Rattle.rules.specs.Lines.{bytes_at, form_in}
use Rattle.rules.specs.Rows.{find}
use Rattle.tables.specs.Tables.{table_of}
use Rattle.entries.specs.Names.{known_in}
use Rattle.entries.specs.Shapes.{rest_in}
use Rattle.entries.proofs.TableActs.{no_row, row_room, row-acts}
use Rattle.account.specs.SkippedLines.{skipped_by}
use Rattle.account.specs.PlacedLines.{lent}
use Rattle.account.proofs.PlacedLaws.{placed-room, found_ready, row_number, key-known, key-hidden}
use Rattle.elements.proofs.placed.on_key.Goals as goal

pub returns-then-not-reaches : goal.returns-then-not-reaches
returns-then-not-reaches c =
    let a = c.args in
    let e = rw (c.in-Some.is, c.part.ensures) at c.row_of.ensures in
    let x = lent a.tally.now a.serials.now a.marks.now a.inner.now in
    key-hidden (bytes_at a.s.now a.key) c.in-Some.row e (known_in a.s.now a.symbols.now a.layers.now) a.class a.range a.here x x a.rec.now a.rec.now c.on_unknown-then-not-reaches.result (skipped_by (form_in a.s.now a.form)) (rest_in a.s.now a.rest) (sym c.reaches.ensures ∙ not-true _ c.if-not-reaches.true-raw) (record { answer = c.on_unknown-then-not-reaches.ensures; lent = refl; rec = refl })

pub bounds-marks-row : goal.bounds-marks-row
bounds-marks-row c =
    let a = c.args in
    let e = rw (c.in-Some.is, c.part.ensures) at c.row_of.ensures in
    omega (arith, row_number (bytes_at a.s.now a.key) c.in-Some.row e, c.requires.3.marks)

pub act_row-next-requires : goal.act_row-next-requires
act_row-next-requires c =
    let a = c.args in
    let h = c.requires in
    let e = rw (c.in-Some.is, c.part.ensures) at c.row_of.ensures in
    (h.0, h.1, h.2, row_room (table_of 18) (bytes_at a.s.now a.key) c.in-Some.row e 0 (length a.rec.now) (placed-room (length a.rec.now) h.4))

pub placed_done-requires : goal.placed_done-requires
placed_done-requires c =
    let a = c.args in
    let h = c.requires in
    let k = known_in a.s.now a.symbols.now a.layers.now in
    let e = rw (c.in-Some.is, c.part.ensures) at c.row_of.ensures in
    let w = row-acts (table_of 18) (bytes_at a.s.now a.key) c.in-Some.row e k a.range a.marks.now (rest_in a.s.now a.rest) 0 a.rec.now _ _ _ refl c.act_row-next.ensures in
    (h.3, c.act_row-next.auto.rec ∙ h.4, found_ready k a.range a.marks.now (bytes_at a.s.now a.key) (rest_in a.s.now a.rest) a.rec.now _ h.4 _ w)

pub returns-in-None : goal.returns-in-None
returns-in-None c =
    let a = c.args in
    let e = rw (c.in-None.is, c.part.ensures) at c.row_of.ensures in
    rw (no_row (find (bytes_at a.s.now a.key) (table_of 18)) e) (record { answer = c.on_unknown.ensures; lent = refl {a = lent a.tally.now a.serials.now a.marks.now a.inner.now}; rec = refl {a = a.rec.now} })

pub returns-else-not-reaches : goal.returns-else-not-reaches
returns-else-not-reaches c =
    let a = c.args in
    let k = known_in a.s.now a.symbols.now a.layers.now in
    let e = rw (c.in-Some.is, c.part.ensures) at c.row_of.ensures in
    let w = row-acts (table_of 18) (bytes_at a.s.now a.key) c.in-Some.row e k a.range a.marks.now (rest_in a.s.now a.rest) 0 a.rec.now _ _ _ refl c.act_row-next.ensures in
    let l = c.placed_done.new in
    key-known (bytes_at a.s.now a.key) c.in-Some.row e k a.class a.range a.here (lent a.tally.now a.serials.now a.marks.now a.inner.now) (lent l.tally l.serials l.marks l.inner) a.rec.now c.act_row-next.new.rec c.placed_done.result (skipped_by (form_in a.s.now a.form)) (rest_in a.s.now a.rest) c.act_row-next.result (sym c.reaches.ensures ∙ not-false _ c.if-not-reaches.false-raw) w (rw c.content_at.ensures at c.placed_done.ensures)
