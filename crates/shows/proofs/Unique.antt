-- What is laid and read here has one answer (as `Unique` in leaves has it: FUNCTION-unique in the contract's own words, FUNCTION-code of the
-- contract as the code has it), and the buffer that comes back is one.
use Rattle.std.specs.Prelude.{Result}
use Prim.Native.Nat.{ℕ, ◌+◌, ◌*◌}
use mathlib.Core.List.{List}
use mathlib.Core.Path.{◌≡◌, sym, ◌∙◌}
use lib.IntN.{ℤ}
use Rattle.rules.specs.Answers.{print_line, first_line}
use Rattle.leaves.proofs.Unique.{One, paired}
use Rattle.shows.specs.Laid.{Lays}
use Rattle.shows.proofs.text.put_line as put-line'
use Rattle.shows.proofs.text.put_answer as put-answer'
use Rattle.shows.proofs.questions.pair as pair'
use Rattle.leaves.specs.declared.NoRoom.{NoRoom}
use Rattle.rules.specs.declared.Refusal.{Refusal}

both-laid : {text out out₁ out₂ : List ℕ} {r₁ r₂ : Result ℕ NoRoom} → Lays text out out₁ r₁ → Lays text out out₂ r₂ → (r₁ ≡ r₂) × (out₁ ≡ out₂)
both-laid c₁ c₂ = (c₁.answer ∙ sym c₂.answer, c₁.memory ∙ sym c₂.memory)

pub put-line_unique : (zs : List ℤ) (out out₁ out₂ : List ℕ) (r₁ r₂ : Result ℕ NoRoom) → Lays (print_line zs) out out₁ r₁ → Lays (print_line zs) out out₂ r₂ → (r₁ ≡ r₂) × (out₁ ≡ out₂)
put-line_unique zs out out₁ out₂ r₁ r₂ c₁ c₂ = both-laid c₁ c₂

put-line-code : One put-line'.Kinds.ps put-line'.Kinds.r put-line'.Reads.Learnt {A = Result ℕ NoRoom × List ℕ} (λ κs r e. (r, e.1.0.now))
put-line-code κs x r₁ r₂ e₁ e₂ c₁ c₂ = paired (put-line_unique x.0.now x.1.0.now e₁.1.0.now e₂.1.0.now r₁ r₂ c₁ c₂)

pub put-answer_unique : (a : Result ℕ Refusal) (out out₁ out₂ : List ℕ) (r₁ r₂ : Result ℕ NoRoom) → Lays (print_line (first_line a)) out out₁ r₁ → Lays (print_line (first_line a)) out out₂ r₂
    → (r₁ ≡ r₂) × (out₁ ≡ out₂)
put-answer_unique a out out₁ out₂ r₁ r₂ c₁ c₂ = both-laid c₁ c₂

put-answer-code : One put-answer'.Kinds.ps put-answer'.Kinds.r put-answer'.Reads.Learnt {A = Result ℕ NoRoom × List ℕ} (λ κs r e. (r, e.1.0.now))
put-answer-code κs x r₁ r₂ e₁ e₂ c₁ c₂ = paired (put-answer_unique x.0 x.1.0.now e₁.1.0.now e₂.1.0.now r₁ r₂ c₁ c₂)

pub pair_unique : (high low : ℕ) (r₁ r₂ : ℕ) → r₁ ≡ 256 * high + low → r₂ ≡ 256 * high + low → r₁ ≡ r₂
pair_unique high low r₁ r₂ c₁ c₂ = c₁ ∙ sym c₂

pair_code : One pair'.Kinds.ps pair'.Kinds.r pair'.Reads.Learnt (λ κs r e. r)
pair_code κs x r₁ r₂ e₁ e₂ = pair_unique x.0 x.1.0 r₁ r₂
