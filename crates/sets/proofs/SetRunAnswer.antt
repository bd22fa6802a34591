-- The reader's answer and the table on return, by the class and by what the reading of the set comes to.
use Rattle.std.specs.Prelude.{Option, Some, None, Result, Ok, Err}
use Prim.Native.Nat.{ℕ, ◌*◌, ◌/◌}
use mathlib.Core.List.{List, []}
use mathlib.Core.Path.{◌≡◌, refl, sym, ◌∙◌, ap, subst}
use native.Mathlib.Omega.{arith}
use lib.IntN.{ℤ, pos}
use lib.ListN.{length, replicate, length-replicate}
use Rattle.rules.specs.declared.Class.{Class}
use Rattle.rules.specs.declared.Refusal.{Refusal}
use Rattle.rules.specs.RangeClass.{class_of}
use Rattle.rules.specs.Sets.{Set}
use Rattle.rules.specs.LineByLine.{refused, accepted}
use Rattle.rules.specs.RecordTable.{records_of, table_of, width}
use Rattle.rules.specs.Answers.{outcome_of, outcome_at, class_or, records_in, answer_with, refusal, read_outcome, read_records, read_answer, read_table}
use Rattle.rules.specs.Machine.{limited_to}
use Rattle.account.specs.Classes.{class_in}
use Rattle.sets.specs.SetReading.{SetOut}
use Rattle.standing.proofs.LaidTables.{laid_table, laid_none}

-- a table without records
pub table_none : (n : ℕ) → table_of n [] ≡ replicate n (pos 0)
table_none n = ap (λ (m : ℕ). table_of m []) (sym (length-replicate n (pos 0))) ∙ sym (laid_table (replicate n (pos 0)) [] 0 (laid_none n))

module _ (class wire len : ℕ) (spool : List ℕ) where
  outcome-read : read_outcome class wire len spool ≡ outcome_at (class_of class wire) (Some (len / width)) spool
  unfolding read_outcome
  outcome-read = refl

  records-read : read_records class wire len spool ≡ records_in (class_or (class_of class wire)) (read_outcome class wire len spool)
  unfolding read_records
  records-read = refl

  answer-read : read_answer class wire len spool ≡ answer_with (length (read_records class wire len spool)) (read_outcome class wire len spool)
  unfolding read_answer
  answer-read = refl

  table-read : read_table class wire len spool ≡ table_of len (read_records class wire len spool)
  unfolding read_table
  table-read = refl

  -- what is answered, and what the table holds
  abbrev pub Reads : Result ℕ Refusal → List ℤ → Type 0
  Reads a t = (a ≡ read_answer class wire len spool) × (t ≡ read_table class wire len spool)

  refused-answers : (n v k : ℕ) → read_outcome class wire len spool ≡ refused n v k → refusal n v k ≡ read_answer class wire len spool
  refused-answers n v k q = sym (answer-read ∙ ap (answer_with (length (read_records class wire len spool))) q)

  refused-reads : (n v k : ℕ) (t : List ℤ) → read_outcome class wire len spool ≡ refused n v k → t ≡ replicate len (pos 0) → Reads (refusal n v k) t
  refused-reads n v k t q h = (
    refused-answers n v k q,
    h ∙ sym (table_none len) ∙ ap (table_of len) (sym (records-read ∙ ap (records_in (class_or (class_of class wire))) q)) ∙ sym table-read,
  )

  class-none : (o : Option Class) → None ≡ class_in o → o ≡ None
  class-none None q = refl
  class-none (Some c) q = absurd (let z : ◌≡◌ {A = ℕ} 0 1 = cc in omega arith)

  class-some : (o : Option Class) (c : Class) → Some c ≡ class_in o → o ≡ Some c
  class-some None c q = absurd (let z : ◌≡◌ {A = ℕ} 0 1 = cc in omega arith)
  class-some (Some d) c q = let z : c ≡ d = cc in ap Some (sym z)

  -- no class
  outcome-none : None ≡ class_in (class_of class wire) → read_outcome class wire len spool ≡ refused 1 0 0
  outcome-none q = outcome-read ∙ ap (λ (o : Option Class). outcome_at o (Some (len / width)) spool) (class-none (class_of class wire) q)

  pub answers-none : None ≡ class_in (class_of class wire) → refusal 1 0 0 ≡ read_answer class wire len spool
  answers-none q = refused-answers 1 0 0 (outcome-none q)

  pub reads_none : (t : List ℤ) → None ≡ class_in (class_of class wire) → t ≡ replicate len (pos 0) → Reads (refusal 1 0 0) t
  reads_none t q h = refused-reads 1 0 0 t (outcome-none q) h

  module _ (c : Class) (q : Some c ≡ class_in (class_of class wire)) where
    outcome-class : read_outcome class wire len spool ≡ outcome_of (limited_to c (len / width)) spool
    outcome-class = outcome-read ∙ ap (λ (o : Option Class). outcome_at o (Some (len / width)) spool) (class-some (class_of class wire) c q)

    records-class : (s : Set) → read_outcome class wire len spool ≡ accepted s → read_records class wire len spool ≡ records_of c s
    records-class s o =
        records-read ∙ ap (records_in (class_or (class_of class wire))) o ∙ ap (λ (o : Option Class). records_of (class_or o) s) (class-some (class_of class wire) c q)

    -- the answer by what the set comes to, whatever table it was lent
    pub answers : (r : Result ℕ Refusal) (t₀ t₁ : List ℤ) → SetOut c spool (len / width) t₀ t₁ r → r ≡ read_answer class wire len spool
    answers (Ok n) t₀ t₁ z =
        let (s, p, m, u) = z in
        let o : read_outcome class wire len spool ≡ accepted s = outcome-class ∙ p in
        ap Ok (m ∙ ap length (sym (records-class s o))) ∙ sym (answer-read ∙ ap (answer_with (length (read_records class wire len spool))) o)
    answers (Err f) t₀ t₁ z = refused-answers f.number f.volume f.line (outcome-class ∙ z)

    -- t₁: the table that the set left, t: cleared
    pub reads-refused : (f : Refusal) (t₀ t₁ t : List ℤ) → length t₀ ≡ len → length t₁ ≡ length t₀ → SetOut c spool (len / width) t₀ t₁ (Err f) → t ≡ replicate (length t₁) (pos 0) → Reads (Err f) t
    reads-refused f t₀ t₁ t h k z u = refused-reads f.number f.volume f.line t (outcome-class ∙ z) (u ∙ ap (λ (n : ℕ). replicate n (pos 0)) (k ∙ h))

    pub reads-accepted : (n : ℕ) (t₀ t : List ℤ) → length t₀ ≡ len → SetOut c spool (len / width) t₀ t (Ok n) → Reads (Ok n) t
    reads-accepted n t₀ t h z =
        let (s, p, m, u) = z in (
          answers (Ok n) t₀ t z,
          u (ap (λ (m : ℕ). m / width) h) ∙ ap (λ (m : ℕ). table_of m (records_of c s)) h ∙ ap (table_of len) (sym (records-class s (outcome-class ∙ p))) ∙ sym table-read,
        )

-- the answer where so many records are counted and the table that the set was lent is of another length
pub counted-answers : (class wire records : ℕ) (spool : List ℕ) (c : Class) → Some c ≡ class_in (class_of class wire) → (r : Result ℕ Refusal) (t₀ t₁ : List ℤ)
    → SetOut c spool records t₀ t₁ r → r ≡ read_answer class wire (records * width) spool
counted-answers class wire records spool c q r t₀ t₁ z =
    let room : records ≡ records * width / width = omega arith in
    answers class wire (records * width) spool c q r t₀ t₁ (subst (λ (m : ℕ). SetOut c spool m t₀ t₁ r) room z)

-- a table that was cleared is all zeros
pub all-zeros : (t : List ℤ) (n : ℕ) → t ≡ replicate n (pos 0) → t ≡ replicate (length t) (pos 0)
all-zeros t n h = h ∙ ap (λ (m : ℕ). replicate m (pos 0)) (sym (ap length h ∙ length-replicate n (pos 0)))
