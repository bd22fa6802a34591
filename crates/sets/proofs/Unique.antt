-- The public functions of this crate have one answer each (as `Unique` in leaves has it: FUNCTION-unique in the contract's own words,
-- FUNCTION-code of the contract as the code has it), and leave one table and one output behind.
use Rattle.std.specs.Prelude.{Result}
use Prim.Native.Nat.{ℕ, ◌*◌}
use mathlib.Core.List.{List}
use mathlib.Core.Path.{◌≡◌, sym, ◌∙◌}
use lib.IntN.{ℤ}
use lib.ListN.{length}
use Rattle.rules.specs.RecordTable.{width}
use Rattle.rules.specs.Answers.{read_answer, read_table, rewrite_answer, rewrite_output}
use Rattle.leaves.proofs.Unique.{One, paired}
use Rattle.sets.proofs.reader.check as check'
use Rattle.sets.proofs.reader.read as read'
use Rattle.sets.proofs.rewriter.rewrite as rewrite'
use Rattle.rules.specs.declared.Refusal.{Refusal}

pub read_unique : (s : List ℕ) (class wire : ℕ) (t t₁ t₂ : List ℤ) (r₁ r₂ : Result ℕ Refusal)
    → (r₁ ≡ read_answer class wire (length t) s) × (t₁ ≡ read_table class wire (length t) s)
    → (r₂ ≡ read_answer class wire (length t) s) × (t₂ ≡ read_table class wire (length t) s) → (r₁ ≡ r₂) × (t₁ ≡ t₂)
read_unique s class wire t t₁ t₂ r₁ r₂ c₁ c₂ = (c₁.0 ∙ sym c₂.0, c₁.1 ∙ sym c₂.1)

read-code : One read'.Kinds.ps read'.Kinds.r read'.Reads.Learnt {A = Result ℕ Refusal × List ℤ} (λ κs r e. (r, e.1.1.1.0.now))
read-code κs x r₁ r₂ e₁ e₂ c₁ c₂ = paired (read_unique x.0.now x.1.0 x.1.1.0 x.1.1.1.0.now e₁.1.1.1.0.now e₂.1.1.1.0.now r₁ r₂ c₁ c₂)

pub check_unique : (s : List ℕ) (class wire records : ℕ) (r₁ r₂ : Result ℕ Refusal) → r₁ ≡ read_answer class wire (records * width) s → r₂ ≡ read_answer class wire (records * width) s → r₁ ≡ r₂
check_unique s class wire records r₁ r₂ c₁ c₂ = c₁ ∙ sym c₂

check-code : One check'.Kinds.ps check'.Kinds.r check'.Reads.Learnt (λ κs r e. r)
check-code κs x r₁ r₂ e₁ e₂ = check_unique x.0.now x.1.0 x.1.1.0 x.1.1.1.0 r₁ r₂

pub rewrite_unique : (s out out₁ out₂ : List ℕ) (r₁ r₂ : Result ℕ Refusal)
    → (r₁ ≡ rewrite_answer (length out) s) × (out₁ ≡ rewrite_output (length out) s)
    → (r₂ ≡ rewrite_answer (length out) s) × (out₂ ≡ rewrite_output (length out) s) → (r₁ ≡ r₂) × (out₁ ≡ out₂)
rewrite_unique s out out₁ out₂ r₁ r₂ c₁ c₂ = (c₁.0 ∙ sym c₂.0, c₁.1 ∙ sym c₂.1)

rewrite-code : One rewrite'.Kinds.ps rewrite'.Kinds.r rewrite'.Reads.Learnt {A = Result ℕ Refusal × List ℕ} (λ κs r e. (r, e.1.0.now))
rewrite-code κs x r₁ r₂ e₁ e₂ c₁ c₂ = paired (rewrite_unique x.0.now x.1.0.now e₁.1.0.now e₂.1.0.now r₁ r₂ c₁ c₂)
