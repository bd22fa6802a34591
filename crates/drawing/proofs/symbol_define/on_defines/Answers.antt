use mathlib.Core.Path.{refl}
use lib.ListN.{length}
use Rattle.drawing.proofs.SymbolSteps.{defines-two, defines-room, defines-stay, defines-entry, defines-begin, defines-shut, defines-refuse}
use Rattle.drawing.proofs.symbol_define.on_defines.Goals as goal

pub act-next-requires : goal.act-next-requires
act-next-requires c = (c.requires.0, c.requires.1, c.requires.2, defines-two, defines-room)

pub returns-in-Stay : goal.returns-in-Stay
returns-in-Stay c = defines-stay c.args.here (length c.args.symbols.now) c.args.at c.args.marks.now _ c.args.rec.now _ _ c.act-next.result (rw c.digits_of.ensures at c.act-next.ensures).eq c.in-Stay.is (record { marks = refl; rec = refl })

pub returns-in-Entry : goal.returns-in-Entry
returns-in-Entry c = defines-entry c.args.here (length c.args.symbols.now) c.args.at c.args.marks.now _ c.args.rec.now _ _ c.act-next.result (rw c.digits_of.ensures at c.act-next.ensures).eq _ c.non_read.result c.in-Entry.is c.non_read.ensures (record { marks = refl; rec = refl })

pub returns-in-Begin : goal.returns-in-Begin
returns-in-Begin c = defines-begin c.args.here (length c.args.symbols.now) c.args.at c.args.marks.now _ c.args.rec.now _ _ c.act-next.result (rw c.digits_of.ensures at c.act-next.ensures).eq _ c.open_symbol.result c.in-Begin.is c.open_symbol.ensures.0 c.open_symbol.ensures.1

pub returns-in-Shut : goal.returns-in-Shut
returns-in-Shut c = defines-shut c.args.here (length c.args.symbols.now) c.args.at c.args.marks.now _ c.args.rec.now _ _ c.act-next.result (rw c.digits_of.ensures at c.act-next.ensures).eq c.close_defines.result c.in-Shut.is c.close_defines.ensures (record { marks = refl; rec = refl })

pub returns-in-Refuse : goal.returns-in-Refuse
returns-in-Refuse c = defines-refuse c.args.here (length c.args.symbols.now) c.args.at c.args.marks.now _ c.args.rec.now _ _ c.act-next.result (rw c.digits_of.ensures at c.act-next.ensures).eq c.in-Refuse.n c.in-Refuse.is
