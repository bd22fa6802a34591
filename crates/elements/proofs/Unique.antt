-- Where a function of this crate states its whole answer, or all that it leaves in what it is lent, there is one (as `Unique` in leaves has
-- it: FUNCTION-unique in the contract's own words, FUNCTION-code of the contract as the code has it).
use Prim.Native.Nat.{ℕ}
use mathlib.Core.Bool.{Bool, true, false}
use mathlib.Core.List.{List}
use mathlib.Core.Path.{◌≡◌, sym, ◌∙◌, ap}
use lib.Dec.{eqb}
use lib.IntN.{ℤ}
use Rattle.rules.specs.declared.Class.{Class}
use Rattle.rules.specs.declared.Digits.{Digits}
use Rattle.rules.specs.declared.Span.{Span}
use Rattle.rules.specs.Lines.{Rest, Form, ignored, wrong, close, eof, keyed, form_in}
use Rattle.rules.specs.RangeClass.{digits_of, reaches, skip_of}
use Rattle.rules.specs.Rows.{Rule, Found, absent, found, find, Act, stay, entry, begin, shut, refuse}
use Rattle.rules.specs.Values.{Known}
use Rattle.tables.specs.Tables.{table_of}
use Rattle.entries.specs.declared.Next.TheVariants as N
use Rattle.entries.specs.Names.{known_in}
use Rattle.leaves.proofs.Unique.{One}
use Rattle.account.specs.declared.Now.{Now}
use Rattle.account.specs.declared.Skipped.{Skipped}
use Rattle.account.specs.declared.Step.{Step}
use Rattle.account.specs.declared.Where.{Where}
use Rattle.account.specs.ElementLines.{tallied}
use Rattle.account.specs.PlacedLines.{Lent, lent, own_number, placed_step, RowLine, FoundLine, KeyLine, OwnLine, PlacedLine}
use Rattle.account.specs.SkippedLines.{skipped_as}
use Rattle.account.specs.SerialNumbers.{content_at}
use Rattle.account.specs.WireLines.{begun_step, begun_put, is_front_row, range_in, misplaced, RowInWire, FoundInWire, KeyInWire, ReadLine, WireLine}
use Rattle.elements.proofs.element.count_layer as count-layer'
use Rattle.elements.proofs.element.on_elements as on-elements'
use Rattle.elements.proofs.figures.on_figures as on-figures'
use Rattle.elements.proofs.placed.on_placed as on-placed'
use Rattle.elements.proofs.points.on_chain as on-chain'
use Rattle.elements.proofs.points.on_hide as on-hide'
use Rattle.elements.proofs.texts.on_text as on-text'
use Rattle.elements.proofs.wires.begin_wire as begin-wire'
use Rattle.elements.proofs.wires.on_wire as on-wire'

-- ── the tally ──
pub count-layer_unique : (n : Now) (tally tally₁ tally₂ : List ℕ) → tally₁ ≡ tallied tally n.figures → tally₂ ≡ tallied tally n.figures → tally₁ ≡ tally₂
count-layer_unique n tally tally₁ tally₂ c₁ c₂ = c₁ ∙ sym c₂

count-layer-code : One count-layer'.Kinds.ps count-layer'.Kinds.r count-layer'.Reads.Learnt (λ κs r e. e.1.0.now)
count-layer-code κs x r₁ r₂ e₁ e₂ = count-layer_unique x.0 x.1.0.now e₁.1.0.now e₂.1.0.now

-- ── a wire begins ──
pub begin-wire_unique : (c : Class) (at : Where) (did r₁ r₂ : Step) (t t₁ t₂ : List ℤ) → (r₁ ≡ begun_step c did) × (t₁ ≡ begun_put at did t) → (r₂ ≡ begun_step c did) × (t₂ ≡ begun_put at did t) → (r₁ ≡ r₂) × (t₁ ≡ t₂)
begin-wire_unique c at did r₁ r₂ t t₁ t₂ c₁ c₂ = (c₁.0 ∙ sym c₂.0, c₁.1 ∙ sym c₂.1)

begin-wire-answer : One begin-wire'.Kinds.ps begin-wire'.Kinds.r begin-wire'.Reads.Learnt (λ κs r e. r)
begin-wire-answer κs x r₁ r₂ e₁ e₂ c₁ c₂ = c₁.0 ∙ sym c₂.0

begin-wire-code : One begin-wire'.Kinds.ps begin-wire'.Kinds.r begin-wire'.Reads.Learnt (λ κs r e. e.1.1.1.0.now)
begin-wire-code κs x r₁ r₂ e₁ e₂ c₁ c₂ = c₁.1 ∙ sym c₂.1

-- ── the lines of a block ──
-- Their answers; of what is lent nothing is said after a refusal.
on-hide-answer : One on-hide'.Kinds.ps on-hide'.Kinds.r on-hide'.Reads.Learnt (λ κs r e. r)
on-hide-answer κs x r₁ r₂ e₁ e₂ c₁ c₂ = c₁.answer ∙ sym c₂.answer

on-elements-answer : One on-elements'.Kinds.ps on-elements'.Kinds.r on-elements'.Reads.Learnt (λ κs r e. r)
on-elements-answer κs x r₁ r₂ e₁ e₂ c₁ c₂ = c₁.answer ∙ sym c₂.answer

on-figures-answer : One on-figures'.Kinds.ps on-figures'.Kinds.r on-figures'.Reads.Learnt (λ κs r e. r)
on-figures-answer κs x r₁ r₂ e₁ e₂ c₁ c₂ = c₁.answer ∙ sym c₂.answer

on-chain-answer : One on-chain'.Kinds.ps on-chain'.Kinds.r on-chain'.Reads.Learnt (λ κs r e. r)
on-chain-answer κs x r₁ r₂ e₁ e₂ c₁ c₂ = c₁.answer ∙ sym c₂.answer

on-text-answer : One on-text'.Kinds.ps on-text'.Kinds.r on-text'.Reads.Learnt (λ κs r e. r)
on-text-answer κs x r₁ r₂ e₁ e₂ c₁ c₂ = c₁.answer ∙ sym c₂.answer

-- a placed symbol: a serial number that stands twice is told by the record, which its own line has put it into
module _ (known : Known) (class range : Digits) (n : Now) (x₀ x₁ x₂ : Lent) (rec₀ rec₁ rec₂ : List ℤ) (r₁ r₂ : Step) where
  row-answer : (at : Span) (a : Act) → RowLine n x₀ x₁ rec₀ rec₁ r₁ at a → RowLine n x₀ x₂ rec₀ rec₂ r₂ at a → r₁ ≡ r₂
  row-answer at stay c₁ c₂ = c₁.did.answer ∙ sym c₂.did.answer
  row-answer at (entry j v) c₁ c₂ =
      c₁.did.answer ∙ (ap (λ t. placed_step n x₀ (own_number t) (N.Entry j)) (c₁.entered ∙ sym c₂.entered) ∙ sym c₂.did.answer)
  row-answer at (begin i j v) c₁ c₂ = c₁.did.answer ∙ sym c₂.did.answer
  row-answer at shut c₁ c₂ = c₁.did.answer ∙ sym c₂.did.answer
  row-answer at (refuse k) c₁ c₂ = c₁.did.answer ∙ sym c₂.did.answer

  found-answer : (k : Skipped) (c : Rest) (j : ℕ) (w : Rule) (b : Bool)
      → FoundLine known class range n x₀ x₁ rec₀ rec₁ r₁ k c j w b → FoundLine known class range n x₀ x₂ rec₀ rec₂ r₂ k c j w b → r₁ ≡ r₂
  found-answer k c j w true c₁ c₂ = row-answer (content_at c) _ c₁ c₂
  found-answer k c j w false c₁ c₂ = c₁.answer ∙ sym c₂.answer

  key-answer : (k : Skipped) (c : Rest) (f : Found)
      → KeyLine known class range n x₀ x₁ rec₀ rec₁ r₁ k c f → KeyLine known class range n x₀ x₂ rec₀ rec₂ r₂ k c f → r₁ ≡ r₂
  key-answer k c absent c₁ c₂ = c₁.answer ∙ sym c₂.answer
  key-answer k c (found j w) c₁ c₂ = found-answer k c j w (reaches class w.least) c₁ c₂

  own-answer : (f : Form) → OwnLine known class range n x₀ x₁ rec₀ rec₁ r₁ f → OwnLine known class range n x₀ x₂ rec₀ rec₂ r₂ f → r₁ ≡ r₂
  own-answer ignored c₁ c₂ = c₁.0 ∙ sym c₂.0
  own-answer (wrong m) c₁ c₂ = c₁ ∙ sym c₂
  own-answer close c₁ c₂ = c₁.0.answer ∙ sym c₂.0.answer
  own-answer eof c₁ c₂ = c₁ ∙ sym c₂
  own-answer (keyed k c) c₁ c₂ = key-answer (skipped_as (skip_of k c)) c (find k (table_of 18)) c₁ c₂

  placed-answer : (b : Bool) (f : Form) → PlacedLine known class range n x₀ x₁ rec₀ rec₁ r₁ b f → PlacedLine known class range n x₀ x₂ rec₀ rec₂ r₂ b f → r₁ ≡ r₂
  placed-answer true f c₁ c₂ = c₁.0.answer ∙ sym c₂.0.answer
  placed-answer false f c₁ c₂ = own-answer f c₁ c₂

on-placed-answer : One on-placed'.Kinds.ps on-placed'.Kinds.r on-placed'.Reads.Learnt (λ κs r e. r)
on-placed-answer κs x r₁ r₂ e₁ e₂ =
    let rest = x.1.1.1.1.1.1.1 in
    placed-answer (known_in x.0.now x.1.0.now x.1.1.0.now) x.1.1.1.0 (digits_of x.1.1.1.1.0) x.1.1.1.1.1.0
    (lent rest.0.now rest.1.0.now rest.1.1.0.now rest.1.1.1.0.now)
    _ _ rest.1.1.1.1.0.now _ _ r₁ r₂ (eqb x.1.1.1.1.1.0.part 1) (form_in x.0.now x.1.1.1.1.1.1.0)

-- a wire: so is its own number
module _ (known : Known) (c : Class) (range : ℕ) (n : Now) (at : Where) (x₀ x₁ x₂ : Lent) (t₀ t₁ t₂ : List ℤ) (r₁ r₂ : Step) where
  wire-row-answer : (rest : Rest) (b : Bool) (a : Act) → RowInWire known c range n at x₀ x₁ t₀ t₁ r₁ rest b a → RowInWire known c range n at x₀ x₂ t₀ t₂ r₂ rest b a → r₁ ≡ r₂
  wire-row-answer rest true a c₁ c₂ = c₁.0.answer ∙ sym c₂.0.answer
  wire-row-answer rest false a c₁ c₂ = c₁.answer ∙ sym c₂.answer

  wire-found-answer : (k : Skipped) (rest : Rest) (j : ℕ) (w : Rule) (a b : Bool)
      → FoundInWire known c range n at x₀ x₁ t₀ t₁ r₁ k rest j w a b → FoundInWire known c range n at x₀ x₂ t₀ t₂ r₂ k rest j w a b → r₁ ≡ r₂
  wire-found-answer k rest j w true b c₁ c₂ = c₁ ∙ sym c₂
  wire-found-answer k rest j w false true c₁ c₂ = wire-row-answer rest (is_front_row j) _ c₁ c₂
  wire-found-answer k rest j w false false c₁ c₂ = c₁.answer ∙ sym c₂.answer

  wire-key-answer : (k : Skipped) (rest : Rest) (f : Found)
      → KeyInWire known c range n at x₀ x₁ t₀ t₁ r₁ k rest f → KeyInWire known c range n at x₀ x₂ t₀ t₂ r₂ k rest f → r₁ ≡ r₂
  wire-key-answer k rest absent c₁ c₂ = c₁.answer ∙ sym c₂.answer
  wire-key-answer k rest (found j w) c₁ c₂ = wire-found-answer k rest j w (misplaced n j) (reaches c.wires w.least) c₁ c₂

  wire-read-answer : (f : Form) → ReadLine known c range n at x₀ x₁ t₀ t₁ r₁ f → ReadLine known c range n at x₀ x₂ t₀ t₂ r₂ f → r₁ ≡ r₂
  wire-read-answer ignored c₁ c₂ = c₁.0 ∙ sym c₂.0
  wire-read-answer (wrong m) c₁ c₂ = c₁ ∙ sym c₂
  wire-read-answer close c₁ c₂ = c₁.0.answer ∙ sym c₂.0.answer
  wire-read-answer eof c₁ c₂ = c₁ ∙ sym c₂
  wire-read-answer (keyed k rest) c₁ c₂ = wire-key-answer (skipped_as (skip_of k rest)) rest (find k (table_of 20)) c₁ c₂

  wire-answer : (a b : Bool) (f : Form) → WireLine known c range n at x₀ x₁ t₀ t₁ r₁ a b f → WireLine known c range n at x₀ x₂ t₀ t₂ r₂ a b f → r₁ ≡ r₂
  wire-answer true b f c₁ c₂ = c₁.0.answer ∙ sym c₂.0.answer
  wire-answer false true f c₁ c₂ = c₁.0.answer ∙ sym c₂.0.answer
  wire-answer false false f c₁ c₂ = wire-read-answer f c₁ c₂

on-wire-answer : One on-wire'.Kinds.ps on-wire'.Kinds.r on-wire'.Reads.Learnt (λ κs r e. r)
on-wire-answer κs x r₁ r₂ e₁ e₂ =
    let line = x.1.1.1.0 in
    let rest = x.1.1.1.1 in
    wire-answer (known_in x.0.now x.1.0.now x.1.1.0.now) line.class (range_in rest.0.now) line.here line.at
    (lent rest.0.now rest.1.0.now rest.1.1.0.now rest.1.1.1.0.now) _ _ rest.1.1.1.1.0.now _ _ r₁ r₂
    (eqb line.here.part 2) (eqb line.here.part 1) (form_in x.0.now line.form)
