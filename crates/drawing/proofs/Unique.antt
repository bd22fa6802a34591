-- Where a function of this crate states its whole answer, or all that it leaves in what it is lent, there is one (as `Unique` in leaves has
-- it: FUNCTION-unique in the contract's own words, FUNCTION-code of the contract as the code has it).
use Prim.Native.Nat.{ℕ, ◌+◌}
use mathlib.Core.List.{List}
use mathlib.Core.Path.{◌≡◌, sym, ◌∙◌}
use lib.IntN.{ℤ}
use lib.ListN.{get_or, set}
use Rattle.leaves.proofs.Unique.{One, paired}
use Rattle.account.specs.SymbolLines.{name_of, name_number}
use Rattle.drawing.proofs.symbol_define.keep_name as keep-name'
use Rattle.drawing.proofs.drawing_format.on_drawing as on-drawing'
use Rattle.drawing.proofs.drawing_format.on_layer_names as on-layer-names'
use Rattle.drawing.proofs.file_format.on_file as on-file'
use Rattle.drawing.proofs.symbol_define.on_defines as on-defines'
use Rattle.drawing.proofs.symbol_define.on_symbol as on-symbol'
use Rattle.drawing.proofs.top.on_top as on-top'

-- ── the tally ──
pub keep-name_unique : (tally tally₁ tally₂ symbols symbols₁ symbols₂ : List ℕ) (rec : List ℤ)
    → (symbols₁ ≡ set symbols (get_or tally 9 0) (name_number (name_of rec))) × (tally₁ ≡ set tally 9 (get_or tally 9 0 + 1))
    → (symbols₂ ≡ set symbols (get_or tally 9 0) (name_number (name_of rec))) × (tally₂ ≡ set tally 9 (get_or tally 9 0 + 1))
    → (symbols₁ ≡ symbols₂) × (tally₁ ≡ tally₂)
keep-name_unique tally tally₁ tally₂ symbols symbols₁ symbols₂ rec c₁ c₂ = (c₁.0 ∙ sym c₂.0, c₁.1 ∙ sym c₂.1)

keep-name-code : One keep-name'.Kinds.ps keep-name'.Kinds.r keep-name'.Reads.Learnt {A = List ℕ × List ℕ} (λ κs r e. (e.1.0.now, e.0.now))
keep-name-code κs x r₁ r₂ e₁ e₂ c₁ c₂ =
    paired (keep-name_unique x.0.now e₁.0.now e₂.0.now x.1.0.now e₁.1.0.now e₂.1.0.now x.1.1.0.now c₁ c₂)

-- ── the lines of a block ──
-- Their answers; of what is lent nothing is said after a refusal.
on-top-answer : One on-top'.Kinds.ps on-top'.Kinds.r on-top'.Reads.Learnt (λ κs r e. r)
on-top-answer κs x r₁ r₂ e₁ e₂ c₁ c₂ = c₁.answer ∙ sym c₂.answer

on-file-answer : One on-file'.Kinds.ps on-file'.Kinds.r on-file'.Reads.Learnt (λ κs r e. r)
on-file-answer κs x r₁ r₂ e₁ e₂ c₁ c₂ = c₁.answer ∙ sym c₂.answer

on-drawing-answer : One on-drawing'.Kinds.ps on-drawing'.Kinds.r on-drawing'.Reads.Learnt (λ κs r e. r)
on-drawing-answer κs x r₁ r₂ e₁ e₂ c₁ c₂ = c₁.answer ∙ sym c₂.answer

on-layer-names-answer : One on-layer-names'.Kinds.ps on-layer-names'.Kinds.r on-layer-names'.Reads.Learnt (λ κs r e. r)
on-layer-names-answer κs x r₁ r₂ e₁ e₂ c₁ c₂ = c₁.answer ∙ sym c₂.answer

on-defines-answer : One on-defines'.Kinds.ps on-defines'.Kinds.r on-defines'.Reads.Learnt (λ κs r e. r)
on-defines-answer κs x r₁ r₂ e₁ e₂ c₁ c₂ = c₁.answer ∙ sym c₂.answer

on-symbol-answer : One on-symbol'.Kinds.ps on-symbol'.Kinds.r on-symbol'.Reads.Learnt (λ κs r e. r)
on-symbol-answer κs x r₁ r₂ e₁ e₂ c₁ c₂ = c₁.answer ∙ sym c₂.answer
