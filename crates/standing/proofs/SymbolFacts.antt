-- What is computed of a symbol's table: its rows, its name in its record, and what a symbol that closes has.
use Rattle.std.specs.Prelude.{Option, Some, None}
use Prim.Native.Nat.{ℕ, zero, suc, ◌<◌}
use mathlib.Core.Bool.{Bool, true, false, cond, ◌&&◌, ◌||◌, not}
use mathlib.Core.List.{List, [], ◌∷◌, ◌++◌, map, append-nil}
use mathlib.Core.Path.{◌≡◌, refl, sym, ◌∙◌, ap}
use native.Mathlib.Omega.{arith}
use lib.Dec.{ltb}
use lib.IntN.{ℤ, pos}
use lib.ListN.{length, get_or, set, drop, length-set}
use lib.Seq.{sets, get_or-set_same, get_or-set_other}
use borrow.Author.Tests.{lt-ltb}
use Rattle.rules.specs.declared.Digits.{Digits}
use Rattle.rules.specs.Base.{all, flat, is_some}
use Rattle.rules.specs.RangeClass.{digits, reaches}
use Rattle.rules.specs.Lines.{span}
use Rattle.rules.specs.Values.{Value, empty, nums, chars, linked, word, letters_and_digits, chars_of}
use Rattle.rules.specs.Rows.{Slots, rows_there, slot_value, inner_of, complete}
use Rattle.rules.specs.Blocks.{symbol_table}
use Rattle.rules.specs.Sets.{Symbol, symbol_name_of, symbol_order}
use Rattle.rules.specs.RecordTable.{numbers_of, first_or0, others, first_slot, other_slots, rule_at, put_slots, point_records, figure_records, inner_records}
use Rattle.rules.specs.RecordTable.{plain_view}
use Rattle.rules.proofs.Chains.{clash, and_left, and_right}
use Rattle.tables.specs.Tables.{table_of}
use Rattle.entries.specs.Acts.{put_line}
use Rattle.account.specs.Placing.{clear_table}
use Rattle.account.proofs.RowsTaken.{Taken}
use Rattle.standing.specs.Standing.{is_text}
use Rattle.account.specs.SymbolLines.{as_place, is_place, name_of, is_named}
use Rattle.standing.proofs.Openers.{plain_kind}
use Rattle.standing.proofs.RowOpeners.{is_opens}
use Rattle.standing.proofs.OwnLines.{housed, own_line}
use Rattle.standing.proofs.Marks.{must-row, mark-free}
use Rattle.rules.proofs.RecordLengths.{length-slots}

-- ── what is computed of the table ──
pub symbol-rows : table_of 9 ≡ symbol_table
unfolding table_of
symbol-rows = refl

pub symbol-length : length symbol_table ≡ 4
unfolding symbol_table
symbol-length = refl

symbol-clear : clear_table symbol_table ≡ true
unfolding symbol_table
symbol-clear = refl

symbol-housed : all housed symbol_table ≡ true
unfolding symbol_table
symbol-housed = refl

-- one more line of a symbol's record
pub symbol-entry : (o : Slots) (j : ℕ) (v : Value) (b : List ℤ) → length o ≡ 4 → Taken symbol_table (rows_there o) j v
    → put_line (rule_at symbol_table j) 0 v (put_slots symbol_table o b) ≡ put_slots symbol_table (set o j (Some v)) b
symbol-entry o j v b e k = own_line symbol_table o j v b (e ∙ sym symbol-length) k.row (mark-free o j k.free) k.fill symbol-clear symbol-housed

pub name-row : ((rule_at symbol_table 0).holds ≡ word 32 letters_and_digits) × ((rule_at symbol_table 0).may ≡ false) × (length (rule_at symbol_table 0).key ≡ 4)
unfolding symbol_table
name-row = (refl, refl, refl)

pub element-key : length (rule_at symbol_table 1).key ≡ 7
unfolding symbol_table
element-key = refl

pub hide-key : length (rule_at symbol_table 2).key ≡ 4
unfolding symbol_table
hide-key = refl

-- beside the name's row only the fourth, `wall`, opens nothing
pub wall-row : (j : ℕ) → j < 4 → (0 ≡ j → ⊥) → is_opens (rule_at symbol_table j).holds ≡ false → j ≡ 3
unfolding symbol_table
wall-row zero h o e = absurd (o refl)
wall-row (suc zero) h o e = clash refl e
wall-row (suc (suc zero)) h o e = clash refl e
wall-row (suc (suc (suc zero))) h o e = refl
wall-row (suc (suc (suc (suc j)))) h o e = absurd (omega (arith, h))

-- `element` is the second row and opens block 1, `hide` the third and opens block 2
pub data Opened (i j : ℕ) : Type 0 where
  element : i ≡ 1 → j ≡ 1 → Opened i j
  hidden : i ≡ 2 → j ≡ 2 → Opened i j

pub opened_rows : (i j : ℕ) → j < 4 → plain_kind (rule_at symbol_table j).holds ≡ false → i ≡ inner_of (rule_at symbol_table j).holds → Opened i j
unfolding symbol_table
opened_rows i zero h e q = clash refl e
opened_rows i (suc zero) h e q = element q refl
opened_rows i (suc (suc zero)) h e q = hidden q refl
opened_rows i (suc (suc (suc zero))) h e q = clash refl e
opened_rows i (suc (suc (suc (suc j)))) h e q = absurd (omega (arith, h))

-- the order of figures and hide points, where there are no hide points
by_order : (b : Bool) (a h : List (List ℤ)) → h ≡ [] → cond b (h ++ a) (a ++ h) ≡ a
by_order true a h e = ap (λ (r : List (List ℤ)). r ++ a) e
by_order false a h e = ap (λ (r : List (List ℤ)). a ++ r) e ∙ append-nil a

pub same-order : (m : ℕ) (y : Symbol) (b : Bool) → y.hidden ≡ [] → inner_records m y ≡ inner_records m (symbol_order b y)
same-order m y b e =
    let h : point_records 43 m 1 y.hidden ≡ [] = ap (point_records 43 m 1) e in
    let a : List (List ℤ) = flat (map (figure_records plain_view 20 m 1) y.figures) in
    by_order y.hide_first a (point_records 43 m 1 y.hidden) h ∙ sym (by_order b a (point_records 43 m 1 y.hidden) h)

-- a symbol's name is what its first row holds
pub name-slot : (y : Symbol) → symbol_name_of y ≡ chars_of (slot_value (get_or y.own 0 None))
unfolding symbol_table
name-slot y = refl

-- ── its name in its record ──
first-is : (o : Slots) → first_slot o ≡ get_or o 0 None
first-is [] = refl
first-is (a ∷ o) = refl

module _ (t : List ℤ) (a b : ℤ) (h : length t ≡ 32) where
  at_five : get_or (sets t 5 (a ∷ b ∷ [])) 5 (pos 0) ≡ a
  at_five =
      get_or-set_other (set t 5 a) 6 5 b (pos 0) (λ e. absurd (omega (arith, e))) ∙ get_or-set_same t 5 a (pos 0) (omega (arith, h))

  at-six : get_or (sets t 5 (a ∷ b ∷ [])) 6 (pos 0) ≡ b
  at-six = get_or-set_same (set t 5 a) 6 b (pos 0) (omega (arith, h, length-set t 5 a))

-- its place and its length
pub record-name : (o : Slots) (b : List ℤ) (at : ℕ) (c : List ℕ) → length b ≡ 32 → get_or o 0 None ≡ Some (chars at c)
    → (get_or (put_slots symbol_table o b) 5 (pos 0) ≡ pos at) × (get_or (put_slots symbol_table o b) 6 (pos 0) ≡ pos (length c))
unfolding symbol_table
record-name o b at c h e =
    let t : List ℤ = put_slots (drop 1 symbol_table) (other_slots o) b in
    let n : List ℤ = numbers_of (first_slot o) in
    let k : length t ≡ 32 = length-slots (drop 1 symbol_table) (other_slots o) b ∙ h in
    let q : first_slot o ≡ Some (chars at c) = first-is o ∙ e in
    (at_five t (first_or0 n) (first_or0 (others n)) k ∙ ap (λ (v : Option Value). first_or0 (numbers_of v)) q, at-six t (first_or0 n) (first_or0 (others n)) k ∙ ap (λ (v : Option Value). first_or0 (others (numbers_of v))) q)

pub name_of_lem : (rec : List ℤ) (at len : ℕ) → (get_or rec 5 (pos 0) ≡ pos at) × (get_or rec 6 (pos 0) ≡ pos len) → name_of rec ≡ span at len
name_of_lem rec at len h = ap (λ (a : ℤ). span (as_place a) (as_place (get_or rec 6 (pos 0)))) h.0 ∙ ap (λ (a : ℤ). span at (as_place a)) h.1

pub named-below : (rec : List ℤ) (at len : ℕ) → (get_or rec 5 (pos 0) ≡ pos at) × (get_or rec 6 (pos 0) ≡ pos len) → at < 65536 → len < 65536 → is_named rec ≡ true
named-below rec at len h a b =
    ap (λ (y : ℤ). is_place y && is_place (get_or rec 6 (pos 0))) h.0 ∙ ap (λ (y : ℤ). ltb at 65536 && is_place y) h.1 ∙ ap (λ (y : Bool). y && ltb len 65536) (lt-ltb at 65536 a) ∙ lt-ltb len 65536 b

-- a symbol that closes has a name, `element` and `hide`
pub must_hold : (g : Digits) (o : Slots) → length o ≡ 4 → complete g symbol_table (rows_there o) ≡ true
    → (is_some (get_or o 0 None) ≡ true) × (is_some (get_or o 1 None) ≡ true) × (is_some (get_or o 2 None) ≡ true)
unfolding symbol_table
must_hold g [] h e = absurd (omega (arith, h))
must_hold g (a ∷ []) h e = absurd (omega (arith, h))
must_hold g (a ∷ b ∷ []) h e = absurd (omega (arith, h))
must_hold g (a ∷ b ∷ i ∷ o) h e =
    let more = and_right (not (reaches g (digits 0 0)) || is_some a) _ e in
    let last = and_right (not (reaches g (digits 0 0)) || is_some b) _ more in
    (must-row g a (and_left _ _ e), must-row g b (and_left _ _ more), must-row g i (and_left _ _ last))

pub text-is : (o : Option Value) → is_some o ≡ true → is_text o ≡ true → (at : ℕ) × (c : List ℕ) × (o ≡ Some (chars at c))
text-is None h t = clash h refl
text-is (Some empty) h t = clash t refl
text-is (Some (nums v)) h t = clash t refl
text-is (Some (chars at c)) h t = (at, c, refl)
text-is (Some (linked n ps)) h t = clash t refl
