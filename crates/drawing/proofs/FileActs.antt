-- A line of FILE_FORMAT, by what the code was answered about it.
use Prim.Native.Nat.{ℕ, zero, suc, ◌+◌, ◌-◌, ◌<◌}
use mathlib.Core.Bool.{Bool, true}
use mathlib.Core.List.{List}
use mathlib.Core.Path.{◌≡◌, refl, sym, ◌∙◌, ap, subst}
use native.Mathlib.Omega.{arith}
use lib.IntN.{ℤ}
use lib.ListN.{length, set, take, drop}
use Rattle.rules.specs.declared.Digits.{Digits}
use Rattle.rules.specs.Base.{all}
use Rattle.rules.specs.Lines.{Form}
use Rattle.rules.specs.RangeClass.{digits}
use Rattle.rules.specs.Values.{Known}
use Rattle.rules.specs.Rows.{Rule, Act, act}
use Rattle.rules.specs.RecordTable.{rule_at}
use Rattle.rules.specs.Blocks.{around}
use Rattle.tables.specs.Tables.{table_of}
use Rattle.entries.specs.Acts.{roomy, Acts}
use Rattle.entries.specs.declared.Next.{Next}
use Rattle.entries.specs.declared.Next.TheVariants as N
use Rattle.entries.specs.declared.Inner.{Inner}
use Rattle.entries.proofs.TableActs.{room-more, room-file}
use Rattle.entries.proofs.Took.{Took, took}
use Rattle.account.specs.declared.Now.{Now}
use Rattle.account.specs.declared.Step.{Step}
use Rattle.account.specs.declared.Step.TheVariants as S
use Rattle.account.specs.Account.{at_block}
use Rattle.account.specs.Numbering.{header_length}
use Rattle.account.specs.FileLines.{file_table_of, marks_from, marks_to, part_marks, kept_in, closed_file, shut_file, Shut, FileClosed, FileReady, FileLine}
use Rattle.account.proofs.RowsTaken.{entry-taken, begin-taken}
use Rattle.account.proofs.FileParts.{marks-long, mark-inside}

-- any table's rows have room in the header
pub header-room : (h : List ℤ) (tb : ℕ) → length h ≡ header_length → all (roomy 64 (length h)) (table_of tb) ≡ true
header-room h tb l = room-more 64 69 (length h) (table_of tb) (omega (arith, l)) (room-file tb)

shut-own : (p : ℕ) (whole : Step) (n : Now) → p ≡ 0 → shut_file p whole n ≡ whole
shut-own zero whole n e = refl
shut-own (suc p) whole n e = absurd (omega (arith, e))

shut-inner : (p : ℕ) (whole : Step) (n : Now) → (p ≡ 0 → ⊥) → shut_file p whole n ≡ S.Go (at_block n 1 (around p))
shut-inner zero whole n e = absurd (e refl)
shut-inner (suc p) whole n e = refl

changed-own : (p : ℕ) (b : Bool) (x₀ x₁ x : List ℕ) → p ≡ 0 → (b ≡ true → x₁ ≡ x) → Shut p b x₀ x₁ x
changed-own zero b x₀ x₁ x e h = h
changed-own (suc p) b x₀ x₁ x e h = absurd (omega (arith, e))

changed-inner : (p : ℕ) (b : Bool) (x₀ x : List ℕ) → (p ≡ 0 → ⊥) → Shut p b x₀ x₀ x
changed-inner zero b x₀ x e = absurd (e refl)
changed-inner (suc p) b x₀ x e = refl

module _ (k : Known) (f : Form) (s following : List ℕ) (first : Bool) (n : Now) (tally₀ : List ℕ) (m₀ : List Bool) (h₀ : List ℤ) (y : FileReady first n tally₀ m₀ h₀) where
  abbrev rows : List Rule
  rows = table_of (file_table_of first n.part)

  abbrev done : Act
  done = act k rows (digits 0 0) (part_marks first n.part m₀) f

  abbrev Line : List ℕ → List Bool → List ℤ → Step → Act → Type 0
  Line tally₁ m₁ h₁ r a = FileLine a s following first n tally₀ tally₁ m₀ m₁ h₀ h₁ r

  -- with the numbers that the code found
  module _ (tb from to : ℕ) (d : Digits) (e₁ : tb ≡ file_table_of first n.part) (e₂ : from ≡ marks_from n.part) (e₃ : to ≡ marks_to first n.part) (e₄ : d ≡ digits 0 0) where
    pub full-long : length (take (to - from) (drop from m₀)) ≡ length (table_of tb)
    full-long = rw (e₁, e₂, e₃) (marks-long first n.part y.part m₀ y.marks)

    pub told : (h₁ : List ℤ) (x x' : Next) → x ≡ x' → Acts (rule_at (table_of tb)) 64 h₀ (act k (table_of tb) d (take (to - from) (drop from m₀)) f) h₁ x → Took (rule_at rows) 64 h₀ done h₁ x'
    told h₁ x x' q a = subst (Took (rule_at rows) 64 h₀ done h₁) q (took (rule_at rows) 64 h₀ h₁ done x (rw (e₁, e₂, e₃, e₄) at a))

  module _ (from : ℕ) (e₂ : from ≡ marks_from n.part) (h₁ : List ℤ) where
    pub entry-inside : (j : ℕ) → Took (rule_at rows) 64 h₀ done h₁ (N.Entry j) → from + j < length m₀
    entry-inside j t =
        let w = entry-taken k rows (digits 0 0) (part_marks first n.part m₀) f j t.0 t.1 in
        omega (arith, e₂, mark-inside first n.part y.part m₀ y.marks j w.row)

    pub begin-inside : (b : Inner) → Took (rule_at rows) 64 h₀ done h₁ (N.Begin b) → from + b.row < length m₀
    begin-inside b t =
        let w = begin-taken k rows (digits 0 0) (part_marks first n.part m₀) f b.block b.row t.0 t.1 in
        omega (arith, e₂, mark-inside first n.part y.part m₀ y.marks b.row w.row)

    pub line-entry : (j : ℕ) (h₂ : List ℤ) → Took (rule_at rows) 64 h₀ done h₁ (N.Entry j) → h₂ ≡ kept_in first n.part j h₁ → Line tally₀ (set m₀ (from + j) true) h₂ (S.Go n) done
    line-entry j h₂ t q =
        subst (Line tally₀ (set m₀ (from + j) true) h₂ (S.Go n)) (sym t.1)
        (record {
          answer = refl;
          tally = refl;
          marks = ap (λ (i : ℕ). set m₀ (i + j) true) e₂;
          header = q ∙ ap (kept_in first n.part j) t.2;
        })

    pub line-begin : (b : Inner) (r : Now) → Took (rule_at rows) 64 h₀ done h₁ (N.Begin b) → r ≡ at_block n 1 b.block → Line tally₀ (set m₀ (from + b.row) true) h₁ (S.Go r) done
    line-begin b r t q =
        subst (Line tally₀ (set m₀ (from + b.row) true) h₁ (S.Go r)) (sym t.1)
        (record {
          answer = ap S.Go q;
          tally = refl;
          marks = ap (λ (i : ℕ). set m₀ (i + b.row) true) e₂;
          header = t.2;
        })

  module _ (h₁ : List ℤ) where
    pub line-stay : Took (rule_at rows) 64 h₀ done h₁ N.Stay → Line tally₀ m₀ h₁ (S.Go n) done
    line-stay t = subst (Line tally₀ m₀ h₁ (S.Go n)) (sym t.0) (record { answer = refl; tally = refl; marks = refl; header = t.1 })

    pub line-shut : (tally₁ : List ℕ) (r : Step) → Took (rule_at rows) 64 h₀ done h₁ N.Shut → n.part ≡ 0 → FileClosed s following first n h₁ tally₀ tally₁ r → Line tally₁ m₀ h₁ r done
    line-shut tally₁ r t p c =
        let w = subst (λ (h : List ℤ). FileClosed s following first n h tally₀ tally₁ r) t.1 c in
        subst (Line tally₁ m₀ h₁ r) (sym t.0)
        (record {
          answer = w.answer ∙ sym (shut-own n.part (closed_file s following first n tally₀ h₀) n p);
          tally = changed-own n.part _ tally₀ tally₁ _ p w.tally;
          marks = refl;
          header = t.1;
        })

    pub line-back : (q : ℕ) (r : Now) → Took (rule_at rows) 64 h₀ done h₁ N.Shut → (n.part ≡ 0 → ⊥) → q ≡ around n.part → r ≡ at_block n 1 q → Line tally₀ m₀ h₁ (S.Go r) done
    line-back q r t p e z =
        subst (Line tally₀ m₀ h₁ (S.Go r)) (sym t.0)
        (record {
          answer = ap S.Go (z ∙ ap (at_block n 1) e) ∙ sym (shut-inner n.part (closed_file s following first n tally₀ h₀) n p);
          tally = changed-inner n.part _ tally₀ _ p;
          marks = refl;
          header = t.1;
        })

  pub line_refused : (tally₁ : List ℕ) (m₁ : List Bool) (h₁ : List ℤ) (i : ℕ) → Took (rule_at rows) 64 h₀ done h₁ (N.Refuse i) → Line tally₁ m₁ h₁ (S.Stop i) done
  line_refused tally₁ m₁ h₁ i t = subst (Line tally₁ m₁ h₁ (S.Stop i)) (sym t) (record { answer = refl; tally = tt; marks = tt; header = tt })
