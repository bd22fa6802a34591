use mathlib.Core.Path.{refl}
use Rattle.rules.specs.Lines.{form_in}
use Rattle.entries.specs.Names.{known_in}
use Rattle.account.specs.PlacedLines.{lent}
use Rattle.account.specs.WireLines.{range_in}
use Rattle.elements.proofs.WireActs.{wired-skipped, wired-text, wired-read}
use Rattle.elements.proofs.wires.on_wire.Goals as goal

pub skipped_line-requires : goal.skipped_line-requires
skipped_line-requires c = let h = c.requires.3 in (h.open-wire.figures, h.shelves.scratch)

pub returns-then-here-eq-WIRE_UNREAD : goal.returns-then-here-eq-WIRE_UNREAD
returns-then-here-eq-WIRE_UNREAD c = wired-skipped (known_in c.args.s.now c.args.symbols.now c.args.layers.now) c.args.x.class (range_in c.args.tally.now) c.args.x.here c.args.x.at (lent c.args.tally.now c.args.serials.now c.args.marks.now c.args.inner.now) _ c.args.t.now _ _ (form_in c.args.s.now c.args.x.form) c.if-here-eq-WIRE_UNREAD.true c.skipped_line.ensures refl

pub text_line-requires : goal.text_line-requires
text_line-requires c = let h = c.requires in (h.0, h.1, h.2, h.3.lent.inner, h.3.shelves)

pub returns-then-here-eq-WIRE_TEXT : goal.returns-then-here-eq-WIRE_TEXT
returns-then-here-eq-WIRE_TEXT c = wired-text (known_in c.args.s.now c.args.symbols.now c.args.layers.now) c.args.x.class (range_in c.args.tally.now) c.args.x.here c.args.x.at (lent c.args.tally.now c.args.serials.now c.args.marks.now c.args.inner.now) _ c.args.t.now _ _ (form_in c.args.s.now c.args.x.form) c.if-here-eq-WIRE_UNREAD.false c.if-here-eq-WIRE_TEXT.true c.text_line.ensures refl

pub returns : goal.returns
returns c = wired-read (known_in c.args.s.now c.args.symbols.now c.args.layers.now) c.args.x.class (range_in c.args.tally.now) c.args.x.here c.args.x.at (lent c.args.tally.now c.args.serials.now c.args.marks.now c.args.inner.now) _ c.args.t.now _ _ (form_in c.args.s.now c.args.x.form) c.if-here-eq-WIRE_UNREAD.false c.if-here-eq-WIRE_TEXT.false c.read_line.ensures
