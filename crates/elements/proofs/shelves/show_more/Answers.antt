use Prim.Native.Nat.{◌+◌, ◌*◌, ◌-◌}
use mathlib.Core.Path.{◌≡◌, ◌∙◌, ap}
use native.Mathlib.Omega.{arith}
use Rattle.elements.proofs.ShelfActs.{copied, copied_all, room_within, shown-more}
use Rattle.elements.proofs.shelves.show_more.Goals as goal

pub returns-then-count-on : goal.returns-then-count-on
returns-then-count-on c =
    let place = 32 + c.args.on.place + 1 + c.args.count * c.args.on.wide in
    let room = room_within c.args.on.place c.args.on.wide c.args.on.shown c.args.count c.if-count-on.true c.requires.2 in
    let wide : c.args.from + c.args.on.wide - c.args.from ≡ c.args.on.wide = omega arith in
    shown-more c.args.from c.args.on.place c.args.on.wide c.args.on.shown c.args.count c.args.t.now _ c.if-count-on.true (
    c.copy_within.ensures.after ∙ ap (copied c.args.from place c.args.t.now) wide
    ∙ copied_all c.args.from place c.args.t.now c.args.on.wide (omega (arith, c.requires.1)) (omega (arith, room, c.requires.0)))
