use Rattle.std.proofs.Common.{◌≡◌, rules}
use mathlib.Core.Path.{refl, sym, ◌∙◌}
use Rattle.pens.proofs.Closings.{part-kept, done-part, text-base, file-base, done-text, done-placed, done-wire, done-file, done-drawing, done-symbol, done-shut, no-wire, not_itself}
use Rattle.pens.proofs.closing.on_close.Goals as goal

pub part_closed-requires : goal.part_closed-requires
part_closed-requires c = sym c.in_part.ensures ∙ c.if-in_part.true

pub returns-then-in_part : goal.returns-then-in_part
returns-then-in_part c = (
  part-kept _ _ _ c.requires.0 c.part_closed.ensures,
  done-part _ _ c.args.pen _ _ _ (sym c.in_part.ensures ∙ c.if-in_part.true) c.part_closed.ensures,
  not_itself _ _ _ _ c.args.pen _ _ _ _ (sym c.in_part.ensures ∙ c.if-in_part.true),
)

pub close_rows-requires : goal.close_rows-requires
close_rows-requires c = (c.requires.0, text-base _ c.args.pen.layered c.by_home.ensures)

pub returns-in-10 : goal.returns-in-10
returns-in-10 c = (c.close_rows.ensures.0, done-text _ _ _ _ _ _ _ _ c.by_home.ensures c.in-10.is c.close_rows.ensures.1, no-wire _ _ _ _ c.args.pen _ _ _ _ 10 refl c.in-10.is)

pub returns-in-11 : goal.returns-in-11
returns-in-11 c = (c.close_rows-in-11.ensures.0, done-placed _ _ _ _ _ _ _ c.in-11.is (sym c.in_part.ensures ∙ c.if-in_part.false) c.close_rows-in-11.ensures.1, no-wire _ _ _ _ c.args.pen _ _ _ _ 11 refl c.in-11.is)

pub close_wire-requires : goal.close_wire-requires
close_wire-requires c = c.requires.0

pub returns-in-12 : goal.returns-in-12
returns-in-12 c = (c.close_wire.ensures.0, done-wire _ _ _ _ _ _ _ c.in-12.is (sym c.in_part.ensures ∙ c.if-in_part.false), λ _ _. c.close_wire.ensures.1)

pub close_rows-requires-in-1 : goal.close_rows-requires-in-1
close_rows-requires-in-1 c = (c.requires.0, file-base _ c.args.first c.file_table.ensures)

pub returns-in-1 : goal.returns-in-1
returns-in-1 c = (c.close_rows-in-1.ensures.0, done-file _ _ _ _ _ _ _ _ c.file_table.ensures c.in-1.is (sym c.in_part.ensures ∙ c.if-in_part.false) c.close_rows-in-1.ensures.1, no-wire _ _ _ _ c.args.pen _ _ _ _ 1 refl c.in-1.is)

pub returns-in-2 : goal.returns-in-2
returns-in-2 c = (c.close_drawing.ensures.0, done-drawing _ _ _ _ _ _ _ c.in-2.is c.close_drawing.ensures.1, no-wire _ _ _ _ c.args.pen _ _ _ _ 2 refl c.in-2.is)

pub returns-in-5 : goal.returns-in-5
returns-in-5 c = (c.close_symbol.ensures.0, done-symbol _ _ _ _ _ _ _ c.in-5.is c.close_symbol.ensures.1, no-wire _ _ _ _ c.args.pen _ _ _ _ 5 refl c.in-5.is)

pub returns-in_default : goal.returns-in_default
returns-in_default c =
    let n1 : c.args.pen.block ≡ 1 → ⊥ = search rules in
    let n2 : c.args.pen.block ≡ 2 → ⊥ = search rules in
    let n5 : c.args.pen.block ≡ 5 → ⊥ = search rules in
    let n10 : c.args.pen.block ≡ 10 → ⊥ = search rules in
    let n11 : c.args.pen.block ≡ 11 → ⊥ = search rules in
    let n12 : c.args.pen.block ≡ 12 → ⊥ = search rules in
    (c.shut.ensures.0, done-shut _ _ _ _ _ _ _ _ c.around_block.ensures c.shut.ensures.1 n10 n11 n12 n1 n2 n5, λ h. absurd (n12 h))
