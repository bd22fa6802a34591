-- Where a function of this crate states its whole answer, or all that it leaves in what it is lent, there is one (as `Unique` in leaves has
-- it: FUNCTION-unique in the contract's own words, FUNCTION-code of the contract as the code has it).
use Rattle.std.specs.Prelude.{Option}
use Prim.Native.Nat.{ℕ}
use mathlib.Core.Bool.{Bool}
use mathlib.Core.List.{List}
use mathlib.Core.Path.{◌≡◌, sym, ◌∙◌}
use lib.IntN.{ℤ, pos}
use lib.ListN.{length, replicate}
use Rattle.rules.specs.declared.Class.{Class}
use Rattle.rules.specs.declared.Span.{Span}
use Rattle.rules.specs.RangeClass.{class_of}
use Rattle.leaves.proofs.Unique.{One}
use Rattle.entries.specs.declared.Rest.{Rest as Behind}
use Rattle.entries.specs.Shapes.{rest_in}
use Rattle.lines.specs.declared.Seen.{Seen}
use Rattle.account.specs.declared.Now.{Now}
use Rattle.account.specs.declared.Pos.{Pos}
use Rattle.account.specs.declared.Step.{Step}
use Rattle.account.specs.declared.Volume.{Volume}
use Rattle.account.specs.Account.{at_block}
use Rattle.account.specs.Classes.{class_in}
use Rattle.account.specs.Putting.{within_limit, completed, number_for, put_by, cleared_by, own_after}
use Rattle.account.specs.SerialNumbers.{content_at, SerialLine, partners_met}
use Rattle.account.specs.Walk.{seen_from}
use Rattle.groundwork.proofs.blocks.at_block as at-block'
use Rattle.groundwork.proofs.classes.class_of as class-of'
use Rattle.groundwork.proofs.putting.own_after as own-after'
use Rattle.groundwork.proofs.putting.put_done as put-done'
use Rattle.groundwork.proofs.putting.within as within'
use Rattle.groundwork.proofs.table.clear as clear'
use Rattle.groundwork.proofs.serials.content_at as content-at'
use Rattle.groundwork.proofs.serials.keep_own as keep-own'
use Rattle.groundwork.proofs.serials.partners_met as partners-met'
use Rattle.groundwork.proofs.walk.next_line as next-line'

-- ── blocks and classes ──
pub at-block_unique : (n : Now) (block part : ℕ) (r₁ r₂ : Now) → r₁ ≡ at_block n block part → r₂ ≡ at_block n block part → r₁ ≡ r₂
at-block_unique n block part r₁ r₂ c₁ c₂ = c₁ ∙ sym c₂

at-block-code : One at-block'.Kinds.ps at-block'.Kinds.r at-block'.Reads.Learnt (λ κs r e. r)
at-block-code κs x r₁ r₂ e₁ e₂ = at-block_unique x.0 x.1.0 x.1.1.0 r₁ r₂

pub class_of_unique : (n w : ℕ) (r₁ r₂ : Option Class) → r₁ ≡ class_in (class_of n w) → r₂ ≡ class_in (class_of n w) → r₁ ≡ r₂
class_of_unique n w r₁ r₂ c₁ c₂ = c₁ ∙ sym c₂

class_of-code : One class-of'.Kinds.ps class-of'.Kinds.r class-of'.Reads.Learnt (λ κs r e. r)
class_of-code κs x r₁ r₂ e₁ e₂ = class_of_unique x.0 x.1.0 r₁ r₂

-- ── own numbers and partners ──
pub content-at_unique : (s : List ℕ) (rest : Behind) (r₁ r₂ : Span) → r₁ ≡ content_at (rest_in s rest) → r₂ ≡ content_at (rest_in s rest) → r₁ ≡ r₂
content-at_unique s rest r₁ r₂ c₁ c₂ = c₁ ∙ sym c₂

content-at-code : One content-at'.Kinds.ps content-at'.Kinds.r content-at'.Reads.Learnt (λ κs r e. r)
content-at-code κs x r₁ r₂ e₁ e₂ = content-at_unique x.0.now x.1.0 r₁ r₂

-- (after a refusal nothing is said of what is lent)
pub keep-own-answer : (here : Now) (own : ℕ) (at : Span) (t s t₁ s₁ t₂ s₂ : List ℕ) (r₁ r₂ : Step) → SerialLine here own at t t₁ s s₁ r₁ → SerialLine here own at t t₂ s s₂ r₂ → r₁ ≡ r₂
keep-own-answer here own at t s t₁ s₁ t₂ s₂ r₁ r₂ c₁ c₂ = c₁.answer ∙ sym c₂.answer

keep-own-code : One keep-own'.Kinds.ps keep-own'.Kinds.r keep-own'.Reads.Learnt (λ κs r e. r)
keep-own-code κs x r₁ r₂ e₁ e₂ =
    keep-own-answer x.0 x.1.0 x.1.1.0 x.1.1.1.0.now x.1.1.1.1.0.now e₁.1.1.1.0.now e₁.1.1.1.1.0.now e₂.1.1.1.0.now e₂.1.1.1.1.0.now r₁ r₂

pub partners-met_unique : (did : Step) (class : Class) (s tally serials : List ℕ) (r₁ r₂ : Step) → r₁ ≡ partners_met class s tally serials did → r₂ ≡ partners_met class s tally serials did → r₁ ≡ r₂
partners-met_unique did class s tally serials r₁ r₂ c₁ c₂ = c₁ ∙ sym c₂

partners-met-code : One partners-met'.Kinds.ps partners-met'.Kinds.r partners-met'.Reads.Learnt (λ κs r e. r)
partners-met-code κs x r₁ r₂ e₁ e₂ = partners-met_unique x.0 x.1.0 x.1.1.0.now x.1.1.1.0.now x.1.1.1.1.0.now r₁ r₂

-- ── a line ──
pub next-line_unique : (body : List ℕ) (v : Volume) (p : Pos) (r₁ r₂ : Seen) → r₁ ≡ seen_from body v p → r₂ ≡ seen_from body v p → r₁ ≡ r₂
next-line_unique body v p r₁ r₂ c₁ c₂ = c₁ ∙ sym c₂

next-line-code : One next-line'.Kinds.ps next-line'.Kinds.r next-line'.Reads.Learnt (λ κs r e. r)
next-line-code κs x r₁ r₂ e₁ e₂ = next-line_unique x.0.now x.1.0 x.1.1.0 r₁ r₂

-- ── the table ──
pub clear_unique : (t t₁ t₂ : List ℤ) → t₁ ≡ replicate (length t) (pos 0) → t₂ ≡ replicate (length t) (pos 0) → t₁ ≡ t₂
clear_unique t t₁ t₂ c₁ c₂ = c₁ ∙ sym c₂

clear-code : One clear'.Kinds.ps clear'.Kinds.r clear'.Reads.Learnt (λ κs r e. e.0.now)
clear-code κs x r₁ r₂ e₁ e₂ = clear_unique x.0.now e₁.0.now e₂.0.now

-- ── a record on its way there ──
pub within_unique : (limit : ℕ) (did r₁ r₂ : Step) → r₁ ≡ within_limit limit did → r₂ ≡ within_limit limit did → r₁ ≡ r₂
within_unique limit did r₁ r₂ c₁ c₂ = c₁ ∙ sym c₂

within-code : One within'.Kinds.ps within'.Kinds.r within'.Reads.Learnt (λ κs r e. r)
within-code κs x r₁ r₂ e₁ e₂ = within_unique x.0 x.1.0 r₁ r₂

pub own-after_unique : (was : Now) (own r₁ r₂ : ℕ) → r₁ ≡ own_after was own → r₂ ≡ own_after was own → r₁ ≡ r₂
own-after_unique was own r₁ r₂ c₁ c₂ = c₁ ∙ sym c₂

own-after-code : One own-after'.Kinds.ps own-after'.Kinds.r own-after'.Reads.Learnt (λ κs r e. r)
own-after-code κs x r₁ r₂ e₁ e₂ = own-after_unique x.0 x.1.0 r₁ r₂

-- the scratch and the table
pub put-done-scratch : (was is : Now) (s s₁ s₂ : List ℤ) → s₁ ≡ cleared_by (completed was is) s → s₂ ≡ cleared_by (completed was is) s → s₁ ≡ s₂
put-done-scratch was is s s₁ s₂ c₁ c₂ = c₁ ∙ sym c₂

put-done-scratch-code : One put-done'.Kinds.ps put-done'.Kinds.r put-done'.Reads.Learnt (λ κs r e. e.1.1.1.1.1.0.now)
put-done-scratch-code κs x r₁ r₂ e₁ e₂ c₁ c₂ =
    put-done-scratch x.1.0 x.1.1.0 x.1.1.1.1.1.0.now e₁.1.1.1.1.1.0.now e₂.1.1.1.1.1.0.now c₁.0 c₂.0

pub put-done-table : (first : Bool) (was is : Now) (own : ℕ) (h s t t₁ t₂ : List ℤ) → t₁ ≡ put_by (completed was is) first (number_for was is own) h s t
    → t₂ ≡ put_by (completed was is) first (number_for was is own) h s t → t₁ ≡ t₂
put-done-table first was is own h s t t₁ t₂ c₁ c₂ = c₁ ∙ sym c₂

put-done-table-code : One put-done'.Kinds.ps put-done'.Kinds.r put-done'.Reads.Learnt (λ κs r e. e.1.1.1.1.1.1.0.now)
put-done-table-code κs x r₁ r₂ e₁ e₂ c₁ c₂ =
    put-done-table x.0 x.1.0 x.1.1.0 x.1.1.1.0 x.1.1.1.1.0.now x.1.1.1.1.1.0.now x.1.1.1.1.1.1.0.now
    e₁.1.1.1.1.1.1.0.now e₂.1.1.1.1.1.1.0.now c₁.1 c₂.1
