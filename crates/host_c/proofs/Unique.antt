-- The public functions of this crate have one answer each (as `Unique` in leaves has it: FUNCTION-unique in the contract's own words,
-- FUNCTION-code of the contract as the code has it), `ploverdell_read` leaves one table and one count behind,
-- and `ploverdell_rewrite` one output and one count.
use Prim.Native.Nat.{ℕ}
use mathlib.Core.List.{List}
use mathlib.Core.Path.{◌≡◌, sym, ◌∙◌}
use lib.IntN.{ℤ}
use lib.ListN.{length}
use Rattle.rules.specs.Answers.{answer_count, read_answer, read_table, packed, check_answer, rewrite_answer, rewrite_output}
use Rattle.leaves.proofs.Unique.{One, paired}
use Rattle.host_c.proofs.ploverdell_check as ploverdell-check'
use Rattle.host_c.proofs.ploverdell_read as ploverdell-read'
use Rattle.host_c.proofs.ploverdell_rewrite as ploverdell-rewrite'

pub ploverdell-check_unique : (spool : List ℕ) (cls wire : ℕ) (r₁ r₂ : ℕ) → r₁ ≡ check_answer cls wire spool → r₂ ≡ check_answer cls wire spool → r₁ ≡ r₂
ploverdell-check_unique spool cls wire r₁ r₂ c₁ c₂ = c₁ ∙ sym c₂

ploverdell-check-code : One ploverdell-check'.Kinds.ps ploverdell-check'.Kinds.r ploverdell-check'.Reads.Learnt (λ κs r e. r)
ploverdell-check-code κs x r₁ r₂ e₁ e₂ = ploverdell-check_unique x.0.now x.1.0 x.1.1.0 r₁ r₂

pub ploverdell-read_unique : (spool : List ℕ) (cls wire : ℕ) (table table₁ table₂ : List ℤ) (count₁ count₂ r₁ r₂ : ℕ)
    → (r₁ ≡ packed (read_answer cls wire (length table) spool)) × (table₁ ≡ read_table cls wire (length table) spool) × (count₁ ≡ answer_count (read_answer cls wire (length table) spool))
    → (r₂ ≡ packed (read_answer cls wire (length table) spool)) × (table₂ ≡ read_table cls wire (length table) spool) × (count₂ ≡ answer_count (read_answer cls wire (length table) spool))
    → (r₁ ≡ r₂) × (table₁ ≡ table₂) × (count₁ ≡ count₂)
ploverdell-read_unique spool cls wire table table₁ table₂ count₁ count₂ r₁ r₂ c₁ c₂ = (c₁.0 ∙ sym c₂.0, c₁.1 ∙ sym c₂.1, c₁.2 ∙ sym c₂.2)

ploverdell-read-code : One ploverdell-read'.Kinds.ps ploverdell-read'.Kinds.r ploverdell-read'.Reads.Learnt {A = ℕ × (List ℤ × ℕ)} (λ κs r e. (r, (e.1.1.1.0.now, e.1.1.1.1.0.now)))
ploverdell-read-code κs x r₁ r₂ e₁ e₂ c₁ c₂ =
    let (same, table, count) = ploverdell-read_unique x.0.now x.1.0 x.1.1.0 x.1.1.1.0.now e₁.1.1.1.0.now e₂.1.1.1.0.now e₁.1.1.1.1.0.now e₂.1.1.1.1.0.now r₁ r₂ c₁ c₂ in
    paired (same, paired (table, count))

pub ploverdell_rewrite_unique : (spool out out₁ out₂ : List ℕ) (count₁ count₂ r₁ r₂ : ℕ)
    → (r₁ ≡ packed (rewrite_answer (length out) spool)) × (out₁ ≡ rewrite_output (length out) spool) × (count₁ ≡ answer_count (rewrite_answer (length out) spool))
    → (r₂ ≡ packed (rewrite_answer (length out) spool)) × (out₂ ≡ rewrite_output (length out) spool) × (count₂ ≡ answer_count (rewrite_answer (length out) spool))
    → (r₁ ≡ r₂) × (out₁ ≡ out₂) × (count₁ ≡ count₂)
ploverdell_rewrite_unique spool out out₁ out₂ count₁ count₂ r₁ r₂ c₁ c₂ = (c₁.0 ∙ sym c₂.0, c₁.1 ∙ sym c₂.1, c₁.2 ∙ sym c₂.2)

ploverdell_rewrite-code : One ploverdell-rewrite'.Kinds.ps ploverdell-rewrite'.Kinds.r ploverdell-rewrite'.Reads.Learnt {A = ℕ × (List ℕ × ℕ)} (λ κs r e. (r, (e.1.0.now, e.1.1.0.now)))
ploverdell_rewrite-code κs x r₁ r₂ e₁ e₂ c₁ c₂ =
    let (same, out, count) = ploverdell_rewrite_unique x.0.now x.1.0.now e₁.1.0.now e₂.1.0.now e₁.1.1.0.now e₂.1.1.0.now r₁ r₂ c₁ c₂ in
    paired (same, paired (out, count))
