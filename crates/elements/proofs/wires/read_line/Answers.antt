use Rattle.entries.specs.Names.{known_in}
use Rattle.account.specs.PlacedLines.{lent}
use Rattle.account.specs.WireLines.{range_in}
use mathlib.Core.Path.{refl}
use Rattle.elements.proofs.WireKeys.{wire-opens, wire-equals}
use Rattle.elements.proofs.wires.read_line.Goals as goal
use Rattle.elements.proofs.wires.read_line.Goals.{in-Opens, in-Equals}

pub returns-in-Ignored : goal.returns-in-Ignored
returns-in-Ignored c = rw c.in-Ignored.is (refl, refl, refl)

pub close_wire-requires : goal.close_wire-requires
close_wire-requires c = let h = c.requires.3 in (h.open-wire, h.lent.marks, h.shelves.scratch)

pub returns-in-Close : goal.returns-in-Close
returns-in-Close c = rw c.in-Close.is (c.close_wire.ensures, refl)

pub returns-in-Eof : goal.returns-in-Eof
returns-in-Eof c = rw c.in-Eof.is refl

pub returns-in-Refused : goal.returns-in-Refused
returns-in-Refused c = rw c.in-Refused.is refl

pub returns : goal.returns
returns c = elim c.match-form.branch [ in-Opens w ↦ wire-opens (known_in c.args.s.now c.args.symbols.now c.args.layers.now) c.args.x.class (range_in c.args.tally.now) c.args.x.here c.args.x.at (lent c.args.tally.now c.args.serials.now c.args.marks.now c.args.inner.now) _ c.args.t.now _ _ c.args.s.now c.args.x.form c.on_wire_key.ensures _ w.in-Opens.is | in-Equals w ↦ wire-equals (known_in c.args.s.now c.args.symbols.now c.args.layers.now) c.args.x.class (range_in c.args.tally.now) c.args.x.here c.args.x.at (lent c.args.tally.now c.args.serials.now c.args.marks.now c.args.inner.now) _ c.args.t.now _ _ c.args.s.now c.args.x.form c.on_wire_key.ensures _ w.in-Equals.is ]
