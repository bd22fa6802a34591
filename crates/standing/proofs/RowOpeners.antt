-- Rows of values and rows that open a block: which of them a line enters, and which it opens.
use Rattle.std.specs.Prelude.{Option, Some, None}
use Prim.Native.Nat.{ℕ}
use mathlib.Core.Bool.{Bool, true, false, cond}
use mathlib.Core.List.{List, [], ◌∷◌}
use mathlib.Core.Path.{◌≡◌, refl, sym, ◌∙◌, ap}
use Rattle.rules.specs.declared.Digits.{Digits}
use Rattle.rules.specs.RefusalNumbers.{got}
use Rattle.rules.specs.Lines.{Rest, brace, equals, Form, Shape, opener, no_content, content, opening, formless, shape_of, free_shape_of, stem, by_stem}
use Rattle.rules.specs.Values.{Value, nums, Known, Kind, values, text, word, volume_name, sheet, ratio, serials, wire_serial, symbol_circle, nothing, opens, headed, either, is_free, read_kind}
use Rattle.rules.specs.Rows.{Rule, is_opener, fits, shape_for, entry, begin, inner_of, read_shape}
use Rattle.rules.specs.RecordTable.{rule_at}
use Rattle.rules.proofs.Chains.{clash, never, map-got}
use Rattle.rules.proofs.Rows.{row_at}
use Rattle.entries.specs.Acts.{value_of}
use Rattle.standing.proofs.Openers.{is_begin, plain_kind, opens_shape, plain_fits, read-entry}
use Rattle.standing.proofs.LineOrigins.{From, is_values}

abbrev pub is_opens : Kind → Bool
is_opens (values p ps a) = false
is_opens (text n b) = false
is_opens (word n b) = false
is_opens volume_name = false
is_opens sheet = false
is_opens ratio = false
is_opens serials = false
is_opens wire_serial = false
is_opens symbol_circle = false
is_opens nothing = false
is_opens (opens i) = true
is_opens (headed i p) = false
is_opens (either i) = false

-- ── by kind and shape ──
opens-shape : (h : Kind) (may : Bool) (s : Shape) → is_opens h ≡ true → fits h may s ≡ true → s ≡ opener
opens-shape (values p ps a) may s i e = clash i refl
opens-shape (text n b) may s i e = clash i refl
opens-shape (word n b) may s i e = clash i refl
opens-shape volume_name may s i e = clash i refl
opens-shape sheet may s i e = clash i refl
opens-shape ratio may s i e = clash i refl
opens-shape serials may s i e = clash i refl
opens-shape wire_serial may s i e = clash i refl
opens-shape symbol_circle may s i e = clash i refl
opens-shape nothing may s i e = clash i refl
opens-shape (opens n) may opener i e = refl
opens-shape (opens n) may no_content i e = clash e refl
opens-shape (opens n) may (content at c) i e = clash e refl
opens-shape (opens n) may (opening at c) i e = clash e refl
opens-shape (opens n) may formless i e = clash e refl
opens-shape (headed n p) may s i e = clash i refl
opens-shape (either n) may s i e = clash i refl

values-plain : (h : Kind) → is_values h ≡ true → plain_kind h ≡ true
values-plain (values p ps a) e = refl
values-plain (text n b) e = refl
values-plain (word n b) e = refl
values-plain volume_name e = refl
values-plain sheet e = refl
values-plain ratio e = refl
values-plain serials e = refl
values-plain wire_serial e = refl
values-plain symbol_circle e = refl
values-plain nothing e = refl
values-plain (opens i) e = clash e refl
values-plain (headed i p) e = clash e refl
values-plain (either i) e = clash e refl

-- a shape that opens a block fits rows that open one
opened-kind : (h : Kind) (may : Bool) (s : Shape) → opens_shape s ≡ true → fits h may s ≡ true → plain_kind h ≡ false
opened-kind h may s o e = go (plain_kind h) refl
  where
    go : (b : Bool) → plain_kind h ≡ b → b ≡ false
    go true p = clash o (plain_fits h may s p e)
    go false p = refl

-- a line that opened a block had such a shape, and its row names the block
begin-shape : (k : Known) (j i n : ℕ) (r : Rule) (s : Shape) (v : Value) → read_shape k j r s ≡ got (begin i n v) → (opens_shape s ≡ true) × (i ≡ inner_of r.holds)
begin-shape k j i n r opener v e = (refl, cc)
begin-shape k j i n r no_content v e = clash refl (read-entry k j r no_content (begin i n v) refl e)
begin-shape k j i n r (content at c) v e = clash refl (read-entry k j r (content at c) (begin i n v) refl e)
begin-shape k j i n r (opening at c) v e = let (w, p, q) = map-got (begin (inner_of r.holds) j) (read_kind k r.holds at c) (begin i n v) e in (refl, cc)
begin-shape k j i n r formless v e = never e

-- `key:{` has nothing behind its brace
stem-shape : (at : ℕ) (c : List ℕ) (o : Option (List ℕ)) → is_opener (by_stem at c o) ≡ false
stem-shape at c None = refl
stem-shape at c (Some []) = refl
stem-shape at c (Some (b ∷ t)) = refl

free-kind : (h : Kind) → is_opens h ≡ true → is_free h ≡ false
free-kind (values p ps a) e = refl
free-kind (text n b) e = clash e refl
free-kind (word n b) e = refl
free-kind volume_name e = refl
free-kind sheet e = refl
free-kind ratio e = refl
free-kind serials e = refl
free-kind wire_serial e = refl
free-kind symbol_circle e = refl
free-kind nothing e = refl
free-kind (opens i) e = refl
free-kind (headed i p) e = refl
free-kind (either i) e = refl

opener-rest : (x : Rest) → shape_of x ≡ opener → x ≡ brace
opener-rest brace e = refl
opener-rest (equals at []) e = clash (ap is_opener e) refl
opener-rest (equals at (b ∷ c)) e = clash (ap is_opener e) (stem-shape at (b ∷ c) (stem (b ∷ c)))

-- ── by the line ──
module _ (k : Known) (t : List Rule) (d : Digits) (full : List Bool) (f : Form) (j : ℕ) where
  -- a row that opens a block is never entered
  pub entry-opens : (v : Value) (x : From k t d full f j (entry j v)) → is_opens x.rule.holds ≡ false
  entry-opens v x = go (is_opens x.rule.holds) refl
    where
      go : (b : Bool) → is_opens x.rule.holds ≡ b → b ≡ false
      go true i =
          let s = opens-shape x.rule.holds x.rule.may (shape_for x.rule x.rest) i x.did.fit in
          let q : got (begin (inner_of x.rule.holds) j (nums [])) ≡ got (entry j v) = ap (read_shape k j x.rule) (sym s) ∙ x.did.read in
          let y : begin (inner_of x.rule.holds) j (nums []) ≡ entry j v = cc in
          ap is_begin y
      go false i = refl

  module _ (i : ℕ) (v : Value) (x : From k t d full f j (begin i j v)) where
    shape_is : (opens_shape (shape_for x.rule x.rest) ≡ true) × (i ≡ inner_of x.rule.holds)
    shape_is = begin-shape k j i j x.rule (shape_for x.rule x.rest) v x.did.read

    kind-is : plain_kind x.rule.holds ≡ false
    kind-is = opened-kind x.rule.holds x.rule.may (shape_for x.rule x.rest) shape_is.0 x.did.fit

    -- the row of a line that opened a block: one that opens, and the block is the one that it names
    pub begin-row : (plain_kind (rule_at t j).holds ≡ false) × (i ≡ inner_of (rule_at t j).holds)
    begin-row =
        let q : rule_at t j ≡ x.rule = row_at x.row _ in
        (ap (λ (y : Rule). plain_kind y.holds) q ∙ kind-is, shape_is.1 ∙ ap (λ (y : Rule). inner_of y.holds) (sym q))

    -- a row of values opens nothing
    pub begin-values : is_values x.rule.holds ≡ false
    begin-values = go (is_values x.rule.holds) refl
      where
        go : (b : Bool) → is_values x.rule.holds ≡ b → b ≡ false
        go true h = clash (values-plain x.rule.holds h) kind-is
        go false h = refl

    -- `key:{`: it holds nothing, and its row says which block it opens
    pub begin-opens : is_opens x.rule.holds ≡ true → (i ≡ inner_of x.rule.holds) × (v ≡ nums []) × (x.rest ≡ brace)
    begin-opens h =
        let s = opens-shape x.rule.holds x.rule.may (shape_for x.rule x.rest) h x.did.fit in
        let q : got (begin (inner_of x.rule.holds) j (nums [])) ≡ got (begin i j v) = ap (read_shape k j x.rule) (sym s) ∙ x.did.read in
        let y : begin (inner_of x.rule.holds) j (nums []) ≡ begin i j v = cc in
        let o : shape_of x.rest ≡ opener = ap (λ (b : Bool). cond b (free_shape_of x.rest) (shape_of x.rest)) (sym (free-kind x.rule.holds h)) ∙ s in
        (shape_is.1, ap value_of (sym y), opener-rest x.rest o)
