-- What a line with a key does, by the block that is open and the row that it was found under.
use Rattle.std.specs.Prelude.{Option, Some, None, Result, Ok}
use Prim.Native.Nat.{ℕ, zero, suc, ◌+◌, ◌≤◌}
use mathlib.Core.Bool.{Bool, true, false, cond, not, ◌||◌}
use mathlib.Core.List.{List, [], ◌∷◌}
use mathlib.Core.Path.{◌≡◌, refl, sym, ◌∙◌, ap, subst}
use native.Mathlib.Omega.{arith}
use borrow.Author.Tests.{not-true, eqb-false}
use lib.Dec.{eqb}
use lib.ListN.{length, set, length-set, length-replicate, get_or-map}
use Rattle.rules.specs.Values.{Value, Known, Kind, opens}
use Rattle.rules.specs.Rows.{Rule, inner_of, absent, found, find, row as plain}
use Rattle.rules.specs.Blocks.{around}
use Rattle.rules.specs.FixedForm.{opens_block, line_of}
use Rattle.rules.proofs.Chains.{and_left}
use Rattle.rules.proofs.Rows.{found-row, row_at}
use Rattle.tables.specs.declared.Row.{Row}
use Rattle.tables.specs.Rows.{kind_of, rule_of, for_line, found_for_line, found_of}
use Rattle.tables.specs.Tables.{table_of}
use Rattle.entries.specs.declared.Rest.{Rest}
use Rattle.keywords.specs.Keys.{key_at}
use Rattle.pens.specs.declared.Pen.{Pen}
use Rattle.pens.specs.Texts.{ended, Draws}
use Rattle.pens.specs.Moves.{moved, at_once, figure_block, key_pen, file_pen, placed_pen, is_element, wire_pen}
use Rattle.pens.specs.Noting.{note_of, notes_from, forgotten, text_forgotten, figure_notes, key_notes}
use Rattle.pens.specs.Keys.{KeyDone}
use Rattle.pens.specs.Writing.{IsRow}
use Rattle.pens.specs.Closing.{in_part}
use Rattle.pens.proofs.RowsNoted.{kind-closed, inner-is}
use Rattle.pens.proofs.Writers.{drawn-nothing}
use Rattle.leaves.specs.declared.NoRoom.{NoRoom}

-- ── notes ──
pub set_beyond : (l : List ℕ) (i v : ℕ) → length l ≤ i → set l i v ≡ l
set_beyond [] i v h = refl
set_beyond (x ∷ l) zero v h = absurd (omega (arith, h))
set_beyond (x ∷ l) (suc i) v h = ap (λ (u : List ℕ). x ∷ u) (set_beyond l i v (omega (arith, h)))

cond-few : (b : Bool) (x y n : ℕ) → x ≤ n → y ≤ n → cond b x y ≤ n
cond-few true x y n h k = h
cond-few false x y n h k = k

pub notes-few : (t : ℕ) → notes_from t ≤ 26
notes-few t =
    cond-few (eqb t 2) 16 _ 26 (omega arith)
    (cond-few (eqb t 3) 22 _ 26 (omega arith)
    (cond-few (eqb t 4) 23 _ 26 (omega arith)
    (cond-few (eqb t 5) 26 _ 26 (omega arith)
    (cond-few (eqb t 16) 4 _ 26 (omega arith)
    (cond-few (eqb t 17) 4 _ 26 (omega arith)
    (cond-few (eqb t 19) 6 _ 26 (omega arith)
    (cond-few (eqb t 20) 6 0 26 (omega arith) (omega arith))))))))

pub forgotten-long : (ns : List ℕ) → length (forgotten ns) ≡ length ns
forgotten-long ns = length-replicate (length ns) 0

pub noted-long : (ns₀ ns₁ : List ℕ) (i n : ℕ) → ns₁ ≡ set ns₀ i n → length ns₁ ≡ length ns₀
noted-long ns₀ ns₁ i n e = ap (λ (l : List ℕ). length l) e ∙ length-set ns₀ i n

pub figure-notes-long : (b : ℕ) (ns : List ℕ) → length (figure_notes b ns) ≡ length ns
figure-notes-long b ns = go (eqb b 10) (eqb b 11 || eqb b 12)
  where
    go : (s t : Bool) → length (cond s (text_forgotten ns) (cond t (forgotten ns) ns)) ≡ length ns
    go true t = length-set (set ns 4 0) 5 0 ∙ length-set ns 4 0
    go false true = forgotten-long ns
    go false false = refl

-- ── parts ──
pub around-other : (n : ℕ) → 1 ≤ n → (n ≡ 1 → ⊥) → ◌≡◌ {A = ℕ} 1 (around n)
around-other zero h k = absurd (omega (arith, h))
around-other (suc zero) h k = absurd (k refl)
around-other (suc (suc n)) h k = refl

pub part_open : (p : Pen) → in_part p ≡ true → 1 ≤ p.part
part_open p e =
    let z = eqb-false p.part 0 (not-true (eqb p.part 0) (and_left (not (eqb p.part 0)) (eqb p.block 1 || (eqb p.block 12 || eqb p.block 11)) e)) in
    some p.part z
  where
    some : (n : ℕ) → (n ≡ 0 → ⊥) → 1 ≤ n
    some zero h = absurd (h refl)
    some (suc n) h = omega arith

-- ── what a row holds ──
-- the block that a figure opens
abbrev opened_block : ℕ → ℕ
opened_block i = cond (eqb i 1) 9 (cond (eqb i 2) 10 (cond (eqb i 4) 12 11))

pub line-block : (row : Row) → (row.kind ≡ 8 → ⊥) → ◌≡◌ {A = ℕ} 8 (figure_block (kind_of row) (inner_of (kind_of row)))
line-block row h = sym (ap (λ (b : Bool). cond b (opened_block (inner_of (kind_of row))) 8) (kind-closed row h))

pub holds-is : (t n : ℕ) (q : Rule) (row : Row) → IsRow t n q row → kind_of row ≡ q.holds
holds-is t n q row i = ap (λ (r : Rule). r.holds) i.rule

-- ── lines written at once, and lines noted ──
module _ (t : ℕ) (p : Pen) (rest : Rest) (k : Known) (j : ℕ) (q : Rule) (v : Value) (ns₀ ns₁ : List ℕ) where
  abbrev line : List ℕ
  line = ended (line_of k q v)

  abbrev pen_by : ℕ → Pen
  pen_by n = key_pen p j q.holds (opens_block q.holds v) (inner_of q.holds) n

  abbrev notes_by : List ℕ
  notes_by = key_notes p t j q.holds (inner_of q.holds) (note_of rest) ns₀

  pub written : (next : ℕ → Pen) (before after : List ℕ) (d : Result Pen NoRoom) → at_once p j ≡ true → pen_by (length line) ≡ next (length line) → ns₁ ≡ notes_by
      → Draws line p.at (next (length line)) before after d → KeyDone t p rest k j q v ns₀ ns₁ before after d
  written next before after d a e n w = record {
    draws =
        subst (λ (b : Bool). Draws (cond b line []) p.at (pen_by (length (cond b line []))) before after d) (sym a)
        (subst (λ (x : Pen). Draws line p.at x before after d) (sym e) w);
    notes = n;
  }

  pub held_back : (next : Pen) (out : List ℕ) → p.at ≤ length out → at_once p j ≡ false → pen_by 0 ≡ next → ns₁ ≡ notes_by → KeyDone t p rest k j q v ns₀ ns₁ out out (Ok next)
  held_back next out h a e n = record {
    draws =
        subst (λ (b : Bool). Draws (cond b line []) p.at (pen_by (length (cond b line []))) out out (Ok next)) (sym a)
        (subst (λ (x : Pen). Draws [] p.at x out out (Ok next)) (sym e) (drawn-nothing p.at next out h));
    notes = n;
  }

-- in FILE_FORMAT
pub file_pen_lem : (p : Pen) (j : ℕ) (d : Kind) (o : Bool) (i n : ℕ) → p.block ≡ 1 → key_pen p j d o i n ≡ file_pen p o i
file_pen_lem p j d o i n e = rw e

-- in a placed symbol
pub placed_pen_lem : (p : Pen) (j : ℕ) (d : Kind) (o : Bool) (i n : ℕ) → p.block ≡ 11 → key_pen p j d o i n ≡ placed_pen p d
placed_pen_lem p j d o i n e = rw e

-- in a wire
pub wire_pen_lem : (p : Pen) (j : ℕ) (d : Kind) (o : Bool) (i n : ℕ) → p.block ≡ 12 → key_pen p j d o i n ≡ wire_pen p j d n
wire_pen_lem p j d o i n e = rw e

pub wire-element_pen : (p : Pen) (j : ℕ) (d : Kind) (o : Bool) (i n : ℕ) → p.block ≡ 12 → is_element p.part j ≡ true → key_pen p j d o i n ≡ moved p n 12 0
wire-element_pen p j d o i n e f = rw (e, f)

pub wire-once : (p : Pen) (j : ℕ) (b : Bool) → p.block ≡ 12 → is_element p.part j ≡ b → at_once p j ≡ b
wire-once p j b e f = rw e f

pub wire-noted : (p : Pen) (t j : ℕ) (d : Kind) (i n : ℕ) (ns : List ℕ) → p.block ≡ 12 → is_element p.part j ≡ false → key_notes p t j d i n ns ≡ set ns (notes_from t + j) n
wire-noted p t j d i n ns e f = rw (e, f)

pub wire-written : (p : Pen) (t j : ℕ) (d : Kind) (i n : ℕ) (ns : List ℕ) → p.block ≡ 12 → is_element p.part j ≡ true → key_notes p t j d i n ns ≡ ns
wire-written p t j d i n ns e f = rw (e, f)

-- a row that opens a block says which
pub opened-inner : (row : Row) (q : Rule) (v : Value) → rule_of row ≡ for_line q → opens_block q.holds v ≡ true → inner_of q.holds ≡ row.inner
opened-inner row q v e = subst P (ap (λ (r : Rule). r.holds) e) (inner-is row v)
  where
    P : Kind → Type 0
    P d = opens_block d v ≡ true → inner_of d ≡ row.inner

-- ── the row that was found ──
abbrev blank : Rule
blank = plain "" (opens 0) 0

pub found-is : (key : List ℕ) (t j : ℕ) (q : Rule) (row : Row) → found_for_line (find key (table_of t)) ≡ found_of (Some row) → find key (table_of t) ≡ found j q → IsRow t j q row
found-is key t j q row e f =
    let z : found j (for_line q) ≡ found row.number (rule_of row) = ap found_for_line (sym f) ∙ e in
    let number : j ≡ row.number = cc in
    let rule : for_line q ≡ rule_of row = cc in
    let (stands, _) = found-row key (table_of t) j q f in
    record {
      rule = sym rule;
      key = sym (ap (key_at (table_of t)) (sym number) ∙ get_or-map (λ (r : Rule). r.key) (table_of t) j blank ∙ ap (λ (r : Rule). r.key) (row_at stands blank));
      number_is = sym number;
    }

-- a row that is in the table was found
pub found_none : {P : Type 0} (key : List ℕ) (t j : ℕ) (q : Rule) → found_for_line (find key (table_of t)) ≡ found_of None → find key (table_of t) ≡ found j q → P
found_none key t j q e f = absurd (let z : found j (for_line q) ≡ absent = ap found_for_line (sym f) ∙ e in let z : ◌≡◌ {A = ℕ} 0 1 = cc in omega arith)

-- ── figures ──
pub figure_pen : (p : Pen) (j : ℕ) (d : Kind) (o : Bool) (i n : ℕ) → p.block ≡ 8 → key_pen p j d o i n ≡ moved p n (figure_block d i) 0
figure_pen p j d o i n e = rw e

pub figure-notes : (p : Pen) (t j : ℕ) (d : Kind) (i n : ℕ) (ns : List ℕ) → p.block ≡ 8 → key_notes p t j d i n ns ≡ figure_notes (figure_block d i) ns
figure-notes p t j d i n ns e = rw e

pub figure-is : (t n : ℕ) (q : Rule) (row : Row) (b : ℕ) → b ≡ figure_block (kind_of row) (inner_of (kind_of row)) → IsRow t n q row → b ≡ figure_block q.holds (inner_of q.holds)
figure-is t n q row b e i = e ∙ ap (λ (d : Kind). figure_block d (inner_of d)) (holds-is t n q row i)

-- ── the table by its number ──
module _ (p : Pen) (rest : Rest) (k : Known) (q : Rule) (v : Value) (ns₀ ns₁ before after : List ℕ) (d : Result Pen NoRoom) (row : Row) where
  pub on_row : (given key : List ℕ) (table t j : ℕ) (r : Option Row) → given ≡ key → table ≡ t → r ≡ Some row → found_for_line (find given (table_of table)) ≡ found_of r
      → find key (table_of t) ≡ found j q → (IsRow table row.number q row → KeyDone table p rest k row.number q v ns₀ ns₁ before after d) → KeyDone t p rest k j q v ns₀ ns₁ before after d
  on_row given key table t j r a b c e f g =
      let there : find given (table_of table) ≡ found j q = ap (λ (x : List ℕ). find x (table_of table)) a ∙ ap (λ (x : ℕ). find key (table_of x)) b ∙ f in
      let i : IsRow table j q row = found-is given table j q row (e ∙ ap found_of c) there in
      let here : IsRow table row.number q row = record { rule = i.rule; key = i.key; number_is = refl } in
      subst (λ (x : ℕ). KeyDone x p rest k j q v ns₀ ns₁ before after d) b
      (subst (λ (x : ℕ). KeyDone table p rest k x q v ns₀ ns₁ before after d) i.number_is (g here))

pub no_row : {P : Type 0} (given key : List ℕ) (table t j : ℕ) (q : Rule) (r : Option Row) → given ≡ key → table ≡ t → r ≡ None → found_for_line (find given (table_of table)) ≡ found_of r
    → find key (table_of t) ≡ found j q → P
no_row given key table t j q r a b c e f =
    found_none given table j q (e ∙ ap found_of c) (ap (λ (x : List ℕ). find x (table_of table)) a ∙ ap (λ (x : ℕ). find key (table_of x)) b ∙ f)
