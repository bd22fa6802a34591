use mathlib.Core.Path.{refl}
use native.Mathlib.Omega.{arith}
use borrow.Author.Tests.{not-true, not-false}
use Rattle.rules.specs.Lines.{bytes_at, form_in}
use Rattle.rules.specs.Rows.{find}
use Rattle.tables.specs.Tables.{table_of}
use Rattle.entries.specs.Names.{known_in}
use Rattle.entries.specs.Shapes.{key_of, rest_of, rest_in}
use Rattle.entries.proofs.TableActs.{no_row}
use Rattle.account.specs.SkippedLines.{skipped_by}
use Rattle.account.specs.PlacedLines.{lent}
use Rattle.account.specs.WireLines.{range_in}
use Rattle.elements.proofs.WireKeys.{wire-row, key-misplaced, key-hidden, key-front, key-once, unknown_in-wire}
use Rattle.elements.proofs.wires.on_wire_key.Goals as goal

pub returns-then-is_misplaced : goal.returns-then-is_misplaced
returns-then-is_misplaced c =
    let e = rw (c.in-Some.is, c.part.ensures, c.key_of.ensures) at c.row_of.ensures in
    key-misplaced (bytes_at c.args.s.now (key_of c.args.x.form)) c.in-Some.row e (known_in c.args.s.now c.args.symbols.now c.args.layers.now) c.args.x.class (range_in c.args.tally.now) c.args.x.here c.args.x.at (lent c.args.tally.now c.args.serials.now c.args.marks.now c.args.inner.now) (lent c.args.tally.now c.args.serials.now c.args.marks.now c.args.inner.now) c.args.t.now c.args.t.now _ (skipped_by (form_in c.args.s.now c.args.x.form)) (rest_in c.args.s.now (rest_of c.args.x.form)) c.is_misplaced.result c.is_misplaced.ensures c.if-is_misplaced.true (rw c.rest_of-rest.ensures at c.not_here.ensures)

pub returns-then-not-reaches : goal.returns-then-not-reaches
returns-then-not-reaches c =
    let e = rw (c.in-Some.is, c.part.ensures, c.key_of.ensures) at c.row_of.ensures in
    key-hidden (bytes_at c.args.s.now (key_of c.args.x.form)) c.in-Some.row e (known_in c.args.s.now c.args.symbols.now c.args.layers.now) c.args.x.class (range_in c.args.tally.now) c.args.x.here c.args.x.at (lent c.args.tally.now c.args.serials.now c.args.marks.now c.args.inner.now) (lent c.args.tally.now c.args.serials.now c.args.marks.now c.args.inner.now) c.args.t.now c.args.t.now _ (skipped_by (form_in c.args.s.now c.args.x.form)) (rest_in c.args.s.now (rest_of c.args.x.form)) c.is_misplaced.result c.is_misplaced.ensures c.if-is_misplaced.false c.reaches.result c.reaches.ensures (not-true _ c.if-not-reaches.true-raw) (unknown_in-wire (known_in c.args.s.now c.args.symbols.now c.args.layers.now) c.args.x.class (range_in c.args.tally.now) c.args.x.here c.args.x.at (lent c.args.tally.now c.args.serials.now c.args.marks.now c.args.inner.now) c.args.t.now _ (skipped_by (form_in c.args.s.now c.args.x.form)) (rest_in c.args.s.now (rest_of c.args.x.form)) _ _ c.digits_of-then-not-reaches.ensures c.past-then-not-reaches.ensures (rw c.rest_of-rest.ensures at c.on_unknown-then-not-reaches.ensures))

pub is_full-full-requires : goal.is_full-full-requires
is_full-full-requires c =
    let e = rw (c.in-Some.is, c.part.ensures, c.key_of.ensures) at c.row_of.ensures in
    (omega (arith, (wire-row (bytes_at c.args.s.now (key_of c.args.x.form)) c.in-Some.row e).0, c.requires.3.lent.marks), c.requires.3.shelves)

pub front_row-requires : goal.front_row-requires
front_row-requires c =
    let e = rw (c.in-Some.is, c.part.ensures, c.key_of.ensures) at c.row_of.ensures in
    let h = c.requires in
    (h.0, h.1, h.2, c.if-number-lt-ROW_TEXT.true, (wire-row (bytes_at c.args.s.now (key_of c.args.x.form)) c.in-Some.row e).1, h.3.open-wire, h.3.shelves)

pub returns-then-number-lt-ROW_TEXT : goal.returns-then-number-lt-ROW_TEXT
returns-then-number-lt-ROW_TEXT c =
    let e = rw (c.in-Some.is, c.part.ensures, c.key_of.ensures) at c.row_of.ensures in
    key-front (bytes_at c.args.s.now (key_of c.args.x.form)) c.in-Some.row e (known_in c.args.s.now c.args.symbols.now c.args.layers.now) c.args.x.class (range_in c.args.tally.now) c.args.x.here c.args.x.at (lent c.args.tally.now c.args.serials.now c.args.marks.now c.args.inner.now) (lent c.args.tally.now c.args.serials.now c.args.marks.now c.args.inner.now) c.args.t.now _ _ (skipped_by (form_in c.args.s.now c.args.x.form)) (rest_in c.args.s.now (rest_of c.args.x.form)) c.is_misplaced.result c.is_misplaced.ensures c.if-is_misplaced.false c.reaches.result c.reaches.ensures (not-false _ c.if-not-reaches.false-raw) c.is_full-full.result c.is_full-full.ensures c.if-number-lt-ROW_TEXT.true (rw c.rest_of-rest.ensures at c.front_row.ensures) refl

pub own_row-requires : goal.own_row-requires
own_row-requires c =
    let e = rw (c.in-Some.is, c.part.ensures, c.key_of.ensures) at c.row_of.ensures in
    let h = c.requires in
    (h.0, h.1, h.2, c.if-number-lt-ROW_TEXT.false, (wire-row (bytes_at c.args.s.now (key_of c.args.x.form)) c.in-Some.row e).0, (wire-row (bytes_at c.args.s.now (key_of c.args.x.form)) c.in-Some.row e).1, h.3.lent, h.3.shelves.scratch)

pub returns-in-None : goal.returns-in-None
returns-in-None c =
    let e = rw (c.in-None.is, c.part.ensures, c.key_of.ensures) at c.row_of.ensures in
    rw (no_row (find (bytes_at c.args.s.now (key_of c.args.x.form)) (table_of 20)) e) (unknown_in-wire (known_in c.args.s.now c.args.symbols.now c.args.layers.now) c.args.x.class (range_in c.args.tally.now) c.args.x.here c.args.x.at (lent c.args.tally.now c.args.serials.now c.args.marks.now c.args.inner.now) c.args.t.now _ (skipped_by (form_in c.args.s.now c.args.x.form)) (rest_in c.args.s.now (rest_of c.args.x.form)) _ _ c.digits_of.ensures c.past.ensures (rw c.rest_of-rest.ensures at c.on_unknown.ensures))

pub returns-else-number-lt-ROW_TEXT : goal.returns-else-number-lt-ROW_TEXT
returns-else-number-lt-ROW_TEXT c =
    let e = rw (c.in-Some.is, c.part.ensures, c.key_of.ensures) at c.row_of.ensures in
    key-once (bytes_at c.args.s.now (key_of c.args.x.form)) c.in-Some.row e (known_in c.args.s.now c.args.symbols.now c.args.layers.now) c.args.x.class (range_in c.args.tally.now) c.args.x.here c.args.x.at (lent c.args.tally.now c.args.serials.now c.args.marks.now c.args.inner.now) _ c.args.t.now _ _ (skipped_by (form_in c.args.s.now c.args.x.form)) (rest_in c.args.s.now (rest_of c.args.x.form)) c.is_misplaced.result c.is_misplaced.ensures c.if-is_misplaced.false c.reaches.result c.reaches.ensures (not-false _ c.if-not-reaches.false-raw) c.is_full-full.result c.is_full-full.ensures c.if-number-lt-ROW_TEXT.false (rw c.rest_of-rest.ensures at c.own_row.ensures)
