use mathlib.Core.Path.{refl, ◌∙◌}
use Rattle.pens.proofs.KeyRows.{no_row, on_row}
use Rattle.pens.proofs.Writers.{kept-still}
use Rattle.pens.proofs.keys.on_key.Goals as goal

pub returns-then-pen-eq-BLOCK_LAYER_NAMES : goal.returns-then-pen-eq-BLOCK_LAYER_NAMES
returns-then-pen-eq-BLOCK_LAYER_NAMES c = (c.key_names.ensures.0, c.requires.1, record { name = λ _. (c.key_names.ensures.1, refl); row = λ h. absurd (h c.if-pen-eq-BLOCK_LAYER_NAMES.true) })

pub returns-in-None : goal.returns-in-None
returns-in-None c =
    let pre = c.requires in
    (kept-still _ _ pre.0, pre.1, record { name = λ h. absurd (c.if-pen-eq-BLOCK_LAYER_NAMES.false h); row = λ _ k j q v f g. no_row _ _ _ _ j q _ c.part.ensures c.table_of-table.ensures c.in-None.is c.row_of.ensures f })

pub returns-in-Some : goal.returns-in-Some
returns-in-Some c =
    let pre = c.requires in
    let the-if1 = c.if-pen-eq-BLOCK_LAYER_NAMES in
    let the-table-of = c.table_of-table in
    let the-part = c.part in
    let the-row-of = c.row_of in
    let the-row-line = c.row_line in
    (the-row-line.ensures.0, the-row-line.ensures.1 ∙ pre.1, record { name = λ h. absurd (the-if1.false h); row = λ _ k j q v f g. on_row _ _ k q v _ _ _ _ _ _ _ _ _ _ j _ the-part.ensures the-table-of.ensures c.in-Some.is the-row-of.ensures f (λ i. the-row-line.ensures.2 k q v i g) })
