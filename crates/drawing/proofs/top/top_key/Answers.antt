use Rattle.rules.specs.Lines.{form_in}
use Rattle.entries.specs.Names.{known_in}
use Rattle.account.specs.TopLines.{top_act}
use mathlib.Core.Path.{refl}
use Rattle.rules.specs.Rows.{shut, entry, refuse}
use Rattle.entries.proofs.Took.{took}
use Rattle.account.specs.TopLines.{top_lent}
use Rattle.drawing.proofs.TopSteps.{top-rows, top-room, digitless, key-stay, key-refused, key-begin}
use Rattle.drawing.proofs.top.top_key.Goals as goal

pub act-next-requires : goal.act-next-requires
act-next-requires c = (c.requires.0, c.requires.1, c.requires.2, top-rows, top-room)

pub returns-in-Stay : goal.returns-in-Stay
returns-in-Stay c = key-stay c.args.first c.args.here c.args.at (top_act (known_in c.args.s.now c.args.symbols.now c.args.layers.now) (form_in c.args.s.now c.args.form)) (top_lent c.args.marks.now c.args.used.now c.args.header.now c.args.rec.now) (digitless (known_in c.args.s.now c.args.symbols.now c.args.layers.now) (form_in c.args.s.now c.args.form) _ _ c.no_digits.ensures (rw c.in-Stay.is at (took _ _ _ _ _ _ c.act-next.ensures)).0)

pub returns-in-Entry : goal.returns-in-Entry
returns-in-Entry c = let h = (rw c.in-Entry.is at (took _ _ _ _ _ _ c.act-next.ensures)) in key-refused c.args.first c.args.here c.args.at (top_act (known_in c.args.s.now c.args.symbols.now c.args.layers.now) (form_in c.args.s.now c.args.form)) _ 5 (entry _ h.0) (digitless (known_in c.args.s.now c.args.symbols.now c.args.layers.now) (form_in c.args.s.now c.args.form) _ _ c.no_digits.ensures h.1) refl

pub returns-in-Begin : goal.returns-in-Begin
returns-in-Begin c = let h = (rw c.in-Begin.is at (took _ _ _ _ _ _ c.act-next.ensures)) in key-begin c.args.first c.args.here c.args.at (top_act (known_in c.args.s.now c.args.symbols.now c.args.layers.now) (form_in c.args.s.now c.args.form)) c.in-Begin.inner.block c.in-Begin.inner.row h.0 (top_lent c.args.marks.now c.args.used.now c.args.header.now c.args.rec.now) _ _ (digitless (known_in c.args.s.now c.args.symbols.now c.args.layers.now) (form_in c.args.s.now c.args.form) _ _ c.no_digits.ensures h.1) c.open_block.ensures

pub returns-in-Shut : goal.returns-in-Shut
returns-in-Shut c = key-refused c.args.first c.args.here c.args.at (top_act (known_in c.args.s.now c.args.symbols.now c.args.layers.now) (form_in c.args.s.now c.args.form)) _ 9 shut (digitless (known_in c.args.s.now c.args.symbols.now c.args.layers.now) (form_in c.args.s.now c.args.form) _ _ c.no_digits.ensures (rw c.in-Shut.is at (took _ _ _ _ _ _ c.act-next.ensures)).0) refl

pub returns-in-Refuse : goal.returns-in-Refuse
returns-in-Refuse c = key-refused c.args.first c.args.here c.args.at (top_act (known_in c.args.s.now c.args.symbols.now c.args.layers.now) (form_in c.args.s.now c.args.form)) _ _ (refuse _) (digitless (known_in c.args.s.now c.args.symbols.now c.args.layers.now) (form_in c.args.s.now c.args.form) _ _ c.no_digits.ensures (rw c.in-Refuse.is at (took _ _ _ _ _ _ c.act-next.ensures))) refl
