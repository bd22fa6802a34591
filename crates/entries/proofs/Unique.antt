-- The public functions of this crate have one answer each (as `Unique` in leaves has it: FUNCTION-unique in the contract's own words,
-- FUNCTION-code of the contract as the code has it), but for a shape's places beyond the spool, and for the lent numbers after a refusal.
use Rattle.std.specs.Prelude.{Option}
use Prim.Native.Nat.{ℕ, ◌+◌, ◌≤◌}
use mathlib.Core.Bool.{Bool}
use mathlib.Core.List.{List}
use mathlib.Core.Path.{◌≡◌, refl, sym, ◌∙◌, ap, subst}
use native.Mathlib.Omega.{arith}
use lib.IntN.{ℤ}
use lib.ListN.{length, drop, length-take, length-drop}
use contract.Lifetimes.{Lfts}
use denote.Triple.Clauses.{AtExit}
use borrow.Fn.Kinds.{Dens, ended_of}
use Rattle.rules.specs.declared.Digits.{Digits}
use Rattle.rules.specs.declared.LineForm.{LineForm}
use Rattle.rules.specs.declared.Span.{Span}
use Rattle.rules.specs.RangeClass.{reaches}
use Rattle.rules.specs.Lines.{Shape as Meant, opener, no_content, content, opening, formless, bytes_at, form_in}
use Rattle.rules.specs.Rows.{Rule, complete, act, act_row, Act, stay, entry, begin, shut, refuse}
use Rattle.rules.specs.RecordTable.{rule_at}
use Rattle.leaves.proofs.Unique.{One}
use Rattle.tables.specs.declared.Row.{Row}
use Rattle.tables.specs.Rows.{rule_of}
use Rattle.tables.specs.Tables.{table_of}
use Rattle.entries.specs.Names.{name_in, names_in, index_from, known_in}
use Rattle.entries.specs.Shapes.{key_of, rest_of, rest_in, shape_in, shape_by, sort_of}
use Rattle.entries.specs.Acts.{next_of, Entered, Acts}
use Rattle.entries.specs.declared.Next.{Next}
use Rattle.entries.specs.declared.Next.TheVariants as N
use Rattle.entries.specs.declared.Rest.{Rest}
use Rattle.entries.specs.declared.Shape.{Shape}
use Rattle.entries.specs.declared.Shape.TheVariants as P
use Rattle.entries.proofs.names.part as part'
use Rattle.entries.proofs.names.name_at as name-at'
use Rattle.entries.proofs.names.index_of as index-of'
use Rattle.entries.proofs.shapes.key_of as key-of'
use Rattle.entries.proofs.shapes.rest_of as rest-of'
use Rattle.entries.proofs.shapes.shape_for as shape-for'
use Rattle.entries.proofs.shapes.sort_of as sort-of'
use Rattle.entries.proofs.row_lines.reaches as reaches'
use Rattle.entries.proofs.acts.complete as complete'
use Rattle.entries.proofs.row_lines.act_row as act-row'
use Rattle.entries.proofs.acts.act as act'

-- ── names: what is lent back is told by its bytes, not by where they stand ──
pub part_unique : (s : List ℕ) (p : Span) (r₁ r₂ : List ℕ) → r₁ ≡ bytes_at s p → r₂ ≡ bytes_at s p → r₁ ≡ r₂
part_unique s p r₁ r₂ c₁ c₂ = c₁ ∙ sym c₂

part-code : One part'.Kinds.ps part'.Kinds.r part'.Reads.Learnt (λ κs r e. r.now)
part-code κs x r₁ r₂ e₁ e₂ = part_unique x.0.now x.1.0 r₁.now r₂.now

pub name-at_unique : (s : List ℕ) (name : ℕ) (r₁ r₂ : List ℕ) → r₁ ≡ name_in s name → r₂ ≡ name_in s name → r₁ ≡ r₂
name-at_unique s name r₁ r₂ c₁ c₂ = c₁ ∙ sym c₂

name-at-code : One name-at'.Kinds.ps name-at'.Kinds.r name-at'.Reads.Learnt (λ κs r e. r.now)
name-at-code κs x r₁ r₂ e₁ e₂ = name-at_unique x.0.now x.1.0 r₁.now r₂.now

pub index_of_unique : (s names key : List ℕ) (r₁ r₂ : Option ℕ) → r₁ ≡ index_from 0 key (names_in s names) → r₂ ≡ index_from 0 key (names_in s names) → r₁ ≡ r₂
index_of_unique s names key r₁ r₂ c₁ c₂ = c₁ ∙ sym c₂

index_of-code : One index-of'.Kinds.ps index-of'.Kinds.r index-of'.Reads.Learnt (λ κs r e. r)
index_of-code κs x r₁ r₂ e₁ e₂ = index_of_unique x.0.now x.1.0.now x.1.1.0.now r₁ r₂

-- ── shapes ──
pub key_of_unique : (form : LineForm) (r₁ r₂ : Span) → r₁ ≡ key_of form → r₂ ≡ key_of form → r₁ ≡ r₂
key_of_unique form r₁ r₂ c₁ c₂ = c₁ ∙ sym c₂

key_of-code : One key-of'.Kinds.ps key-of'.Kinds.r key-of'.Reads.Learnt (λ κs r e. r)
key_of-code κs x r₁ r₂ e₁ e₂ = key_of_unique x.0 r₁ r₂

pub rest_of_unique : (form : LineForm) (r₁ r₂ : Rest) → r₁ ≡ rest_of form → r₂ ≡ rest_of form → r₁ ≡ r₂
rest_of_unique form r₁ r₂ c₁ c₂ = c₁ ∙ sym c₂

rest_of-code : One rest-of'.Kinds.ps rest-of'.Kinds.r rest-of'.Reads.Learnt (λ κs r e. r)
rest_of-code κs x r₁ r₂ e₁ e₂ = rest_of_unique x.0 r₁ r₂

-- they mean the same; the numbers themselves may differ in a length that runs over the spool's end
pub shape_for_unique : (s : List ℕ) (free : Bool) (rest : Rest) (r₁ r₂ : Shape) → shape_in s r₁ ≡ shape_by free (rest_in s rest) → shape_in s r₂ ≡ shape_by free (rest_in s rest) → shape_in s r₁ ≡ shape_in s r₂
shape_for_unique s free rest r₁ r₂ c₁ c₂ = c₁ ∙ sym c₂

shape_for-code : (κs : Lfts 1) (x : Dens κs shape-for'.Kinds.ps) (r₁ r₂ : Shape) (e₁ e₂ : AtExit (ended_of 1 shape-for'.Kinds.ps shape-for'.Kinds.r) κs)
    → shape-for'.Reads.Learnt κs x r₁ e₁ → shape-for'.Reads.Learnt κs x r₂ e₂ → shape_in x.0.now r₁ ≡ shape_in x.0.now r₂
shape_for-code κs x r₁ r₂ e₁ e₂ = shape_for_unique x.0.now x.1.0 x.1.1.0 r₁ r₂

-- of places that lie in the spool there is one answer
abbrev pub Within : List ℕ → Shape → Type 0
Within s P.Opener = Unit {0}
Within s P.NoContent = Unit {0}
Within s (P.Content p) = p.at + p.len ≤ length s
Within s (P.Opening p) = p.at + p.len ≤ length s
Within s P.Formless = Unit {0}

abbrev placed : Meant → Shape
placed opener = P.Opener
placed no_content = P.NoContent
placed (content at c) = P.Content (record { at = at; len = length c })
placed (opening at c) = P.Opening (record { at = at; len = length c })
placed formless = P.Formless

span-long : (s : List ℕ) (p : Span) → p.at + p.len ≤ length s → length (bytes_at s p) ≡ p.len
span-long s p h = omega (arith, h, length-take p.len (drop p.at s), length-drop p.at s)

placed-back : (s : List ℕ) (r : Shape) → Within s r → placed (shape_in s r) ≡ r
placed-back s P.Opener h = refl
placed-back s P.NoContent h = refl
placed-back s (P.Content p) h = ap (λ (n : ℕ). P.Content (record { at = p.at; len = n })) (span-long s p h)
placed-back s (P.Opening p) h = ap (λ (n : ℕ). P.Opening (record { at = p.at; len = n })) (span-long s p h)
placed-back s P.Formless h = refl

pub shape_for-within : (s : List ℕ) (free : Bool) (rest : Rest) (r₁ r₂ : Shape) → Within s r₁ → Within s r₂ → shape_in s r₁ ≡ shape_by free (rest_in s rest) → shape_in s r₂ ≡ shape_by free (rest_in s rest) → r₁ ≡ r₂
shape_for-within s free rest r₁ r₂ h₁ h₂ c₁ c₂ = sym (placed-back s r₁ h₁) ∙ ap placed (c₁ ∙ sym c₂) ∙ placed-back s r₂ h₂

pub sort_of_unique : (shape : Shape) (r₁ r₂ : ℕ) → r₁ ≡ sort_of shape → r₂ ≡ sort_of shape → r₁ ≡ r₂
sort_of_unique shape r₁ r₂ c₁ c₂ = c₁ ∙ sym c₂

sort_of-code : One sort-of'.Kinds.ps sort-of'.Kinds.r sort-of'.Reads.Learnt (λ κs r e. r)
sort_of-code κs x r₁ r₂ e₁ e₂ = sort_of_unique x.0 r₁ r₂

-- ── row_lines ──
pub reaches_unique : (d least : Digits) (r₁ r₂ : Bool) → r₁ ≡ reaches d least → r₂ ≡ reaches d least → r₁ ≡ r₂
reaches_unique d least r₁ r₂ c₁ c₂ = c₁ ∙ sym c₂

reaches-code : One reaches'.Kinds.ps reaches'.Kinds.r reaches'.Reads.Learnt (λ κs r e. r)
reaches-code κs x r₁ r₂ e₁ e₂ = reaches_unique x.0 x.1.0 r₁ r₂

-- ── acts ──
pub complete_unique : (table : ℕ) (d : Digits) (full : List Bool) (r₁ r₂ : Bool) → r₁ ≡ complete d (table_of table) full → r₂ ≡ complete d (table_of table) full → r₁ ≡ r₂
complete_unique table d full r₁ r₂ c₁ c₂ = c₁ ∙ sym c₂

complete-code : One complete'.Kinds.ps complete'.Kinds.r complete'.Reads.Learnt (λ κs r e. r)
complete-code κs x r₁ r₂ e₁ e₂ = complete_unique x.0 x.1.0 x.1.1.0.now r₁ r₂

-- ── the acts: the answer, and the lent numbers on return; after a refusal nothing is said of these ──
abbrev pub Left : Next → List ℤ → List ℤ → Type 0
Left N.Stay rec₁ rec₂ = rec₁ ≡ rec₂
Left (N.Entry j) rec₁ rec₂ = rec₁ ≡ rec₂
Left (N.Begin b) rec₁ rec₂ = rec₁ ≡ rec₂
Left N.Shut rec₁ rec₂ = rec₁ ≡ rec₂
Left (N.Refuse n) rec₁ rec₂ = Unit {0}

both_left : (rule : ℕ → Rule) (dump : ℕ) (rec rec₁ rec₂ : List ℤ) (a : Act) → Entered rule dump rec a rec₁ → Entered rule dump rec a rec₂ → Left (next_of a) rec₁ rec₂
both_left rule dump rec rec₁ rec₂ stay c₁ c₂ = c₁ ∙ sym c₂
both_left rule dump rec rec₁ rec₂ (entry j v) c₁ c₂ = c₁ ∙ sym c₂
both_left rule dump rec rec₁ rec₂ (begin i j v) c₁ c₂ = c₁ ∙ sym c₂
both_left rule dump rec rec₁ rec₂ shut c₁ c₂ = c₁ ∙ sym c₂
both_left rule dump rec rec₁ rec₂ (refuse n) c₁ c₂ = tt

both-act : (rule : ℕ → Rule) (dump : ℕ) (rec rec₁ rec₂ : List ℤ) (a : Act) (r₁ r₂ : Next) → Acts rule dump rec a rec₁ r₁ → Acts rule dump rec a rec₂ r₂ → (r₁ ≡ r₂) × Left r₁ rec₁ rec₂
both-act rule dump rec rec₁ rec₂ a r₁ r₂ c₁ c₂ =
    (c₁.eq ∙ sym c₂.eq, subst (λ n. Left n rec₁ rec₂) (sym c₁.eq) (both_left rule dump rec rec₁ rec₂ a c₁.entered c₂.entered))

pub act-row_unique : (row : Row) (s symbols layers : List ℕ) (d : Digits) (full : Bool) (rest : Rest) (dump : ℕ) (rec rec₁ rec₂ : List ℤ) (r₁ r₂ : Next)
    → Acts (λ _. rule_of row) dump rec (act_row (known_in s symbols layers) d full row.number (rule_of row) (rest_in s rest)) rec₁ r₁
    → Acts (λ _. rule_of row) dump rec (act_row (known_in s symbols layers) d full row.number (rule_of row) (rest_in s rest)) rec₂ r₂ → (r₁ ≡ r₂) × Left r₁ rec₁ rec₂
act-row_unique row s symbols layers d full rest dump rec rec₁ rec₂ r₁ r₂ = both-act (λ _. rule_of row) dump rec rec₁ rec₂ _ r₁ r₂

act-row-code : (κs : Lfts 4) (x : Dens κs act-row'.Kinds.ps) (r₁ r₂ : Next) (e₁ e₂ : AtExit (ended_of 4 act-row'.Kinds.ps act-row'.Kinds.r) κs)
    → act-row'.Reads.Learnt κs x r₁ e₁ → act-row'.Reads.Learnt κs x r₂ e₂ → (r₁ ≡ r₂) × Left r₁ e₁.1.1.1.1.1.1.1.1.0.now e₂.1.1.1.1.1.1.1.1.0.now
act-row-code κs x r₁ r₂ e₁ e₂ = act-row_unique x.0 x.1.0.now x.1.1.0.now x.1.1.1.0.now x.1.1.1.1.0 x.1.1.1.1.1.0 x.1.1.1.1.1.1.0 x.1.1.1.1.1.1.1.0 x.1.1.1.1.1.1.1.1.0.now e₁.1.1.1.1.1.1.1.1.0.now e₂.1.1.1.1.1.1.1.1.0.now r₁ r₂

pub act_unique : (table : ℕ) (s symbols layers : List ℕ) (d : Digits) (full : List Bool) (form : LineForm) (dump : ℕ) (rec rec₁ rec₂ : List ℤ) (r₁ r₂ : Next)
    → Acts (rule_at (table_of table)) dump rec (act (known_in s symbols layers) (table_of table) d full (form_in s form)) rec₁ r₁
    → Acts (rule_at (table_of table)) dump rec (act (known_in s symbols layers) (table_of table) d full (form_in s form)) rec₂ r₂ → (r₁ ≡ r₂) × Left r₁ rec₁ rec₂
act_unique table s symbols layers d full form dump rec rec₁ rec₂ r₁ r₂ = both-act (rule_at (table_of table)) dump rec rec₁ rec₂ _ r₁ r₂

act-code : (κs : Lfts 5) (x : Dens κs act'.Kinds.ps) (r₁ r₂ : Next) (e₁ e₂ : AtExit (ended_of 5 act'.Kinds.ps act'.Kinds.r) κs)
    → act'.Reads.Learnt κs x r₁ e₁ → act'.Reads.Learnt κs x r₂ e₂ → (r₁ ≡ r₂) × Left r₁ e₁.1.1.1.1.1.1.1.1.0.now e₂.1.1.1.1.1.1.1.1.0.now
act-code κs x r₁ r₂ e₁ e₂ = act_unique x.0 x.1.0.now x.1.1.0.now x.1.1.1.0.now x.1.1.1.1.0 x.1.1.1.1.1.0.now x.1.1.1.1.1.1.0 x.1.1.1.1.1.1.1.0 x.1.1.1.1.1.1.1.1.0.now e₁.1.1.1.1.1.1.1.1.0.now e₂.1.1.1.1.1.1.1.1.0.now r₁ r₂
