-- What a line may enter into one row of a table whose content is not empty: what its kind reads, where the row is one of values that may
-- not be left out. Said of any table, for the rows `serial` of placed symbols and of wires.
use Prim.Native.Nat.{ℕ}
use mathlib.Core.Bool.{Bool, true, false, ◌&&◌, ◌||◌, not}
use mathlib.Core.List.{List, []}
use mathlib.Core.Path.{◌≡◌, refl, sym, ◌∙◌, ap, subst}
use Rattle.rules.specs.declared.Digits.{Digits}
use Rattle.rules.specs.RefusalNumbers.{Got, got, bad, unless, map_g, and_then}
use Rattle.rules.specs.Lines.{Rest, Shape, opener, no_content, content, opening, formless, has_form}
use Rattle.rules.specs.RangeClass.{reaches}
use Rattle.rules.specs.Values.{Value, Known, Kind, read_kind}
use Rattle.rules.specs.Rows.{Rule, is_content, is_empty, fits, shape_for, Act, stay, entry, begin, shut, refuse, or_refuse, read_shape, not_twice, act_row}
use Rattle.rules.specs.RecordTable.{rule_at}
use Rattle.rules.proofs.Chains.{On, clash}
use Rattle.rules.proofs.Rows.{Row, row_at}

-- what a row of a table is, by its number
pub at_row : {A : Type 0} (f : Rule → A) {t : List Rule} {i j : ℕ} {r : Rule} → Row t j r → j ≡ i → f r ≡ f (rule_at t i)
at_row f {t} row z = sym (ap f (row_at row (rule_at [] 0))) ∙ ap (λ (k : ℕ). f (rule_at t k)) z

-- a row of a table, and what values it has
pub record OneRow (t : List Rule) (i : ℕ) (Is : Value → Type 0) : Type 0 where
  pub kind : Kind
  pub holds : {j : ℕ} {r : Rule} → Row t j r → j ≡ i → r.holds ≡ kind
  pub must : {j : ℕ} {r : Rule} → Row t j r → j ≡ i → r.may ≡ false
  pub form : (may : Bool) (s : Shape) → fits kind may s ≡ (is_content s || (may && is_empty s))
  pub reads : (k : Known) (at : ℕ) (c : List ℕ) → On Is (read_kind k kind at c)

-- Q says what else is known where such a line is judged by that row
module _ (i : ℕ) (Is : Value → Type 0) (Q : Type 0) where
  -- where a line enters that row, such a value, and it opens nothing there
  abbrev pub RowAct : Act → Type 0
  RowAct stay = Unit {0}
  RowAct (entry j v) = j ≡ i → Q × Is v
  RowAct (begin m j v) = j ≡ i → ⊥
  RowAct shut = Unit {0}
  RowAct (refuse n) = Unit {0}

  unless-row : (b : Bool) (n : ℕ) (g : Got Act) → (b ≡ true → RowAct (or_refuse g)) → RowAct (or_refuse (unless b n g))
  unless-row true n g h = h refl
  unless-row false n g h = tt

  entered : (j : ℕ) (g : Got Value) → (j ≡ i → Q) → (j ≡ i → On Is g) → On RowAct (map_g (entry j) g)
  entered j (got v) q h = λ z. (q z, h z)
  entered j (bad n) q h = tt

  opened : (m j : ℕ) (g : Got Value) → (j ≡ i → ⊥) → On RowAct (map_g (begin m j) g)
  opened m j (got v) h = h
  opened m j (bad n) h = tt

  module _ {t : List Rule} (w : OneRow t i Is) where
    -- a shape that is no content does not fit it
    no-fit : {j : ℕ} {r : Rule} → Row t j r → (s : Shape) → is_content s ≡ false → fits r.holds r.may s ≡ true → j ≡ i → ⊥
    no-fit {r = r} row s x f z =
        let at : fits w.kind false s ≡ true = subst (λ (b : Bool). fits w.kind b s ≡ true) (w.must row z) (subst (λ (d : Kind). fits d r.may s ≡ true) (w.holds row z) f) in
        clash (sym (w.form false s) ∙ at) (rw x)

    shape_row : (k : Known) {j : ℕ} {r : Rule} → Row t j r → (j ≡ i → Q) → (s : Shape) → fits r.holds r.may s ≡ true → On RowAct (read_shape k j r s)
    shape_row k row q opener f = no-fit row opener refl f
    shape_row k row q no_content f = λ z. absurd (no-fit row no_content refl f z)
    shape_row k {j} {r} row q (content at c) f =
        entered j (read_kind k r.holds at c) q (λ z. subst (λ (d : Kind). On Is (read_kind k d at c)) (sym (w.holds row z)) (w.reads k at c))
    shape_row k {j} {r} row q (opening at c) f = opened _ j (read_kind k r.holds at c) (no-fit row (opening at c) refl f)
    shape_row k row q formless f = tt

    pub row-act : (k : Known) (d : Digits) (full : Bool) {j : ℕ} {r : Rule} → Row t j r → (j ≡ i → Q) → (c : Rest) → RowAct (act_row k d full j r c)
    row-act k d full {j} {r} row q c =
        unless-row (has_form (shape_for r c)) 5 _ λ _.
        unless-row (reaches d r.least) 6 _ λ _.
        unless-row (fits r.holds r.may (shape_for r c)) 5 _ λ f.
        unless-row (not_twice r.times full) 7 _ λ _. last (read_shape k j r (shape_for r c)) (shape_row k row q (shape_for r c) f)
      where
        last : (g : Got Act) → On RowAct g → RowAct (or_refuse (and_then g λ a. unless (not full) 11 (got a)))
        last (got a) h = unless-row (not full) 11 (got a) (λ _. h)
        last (bad n) h = tt
