-- What is computed of the tables of figures: their rows, and the records of the lines that they take.
use Rattle.std.specs.Prelude.{Some}
use Prim.Native.Nat.{ℕ, zero, suc, ◌+◌}
use mathlib.Core.Bool.{Bool, true, false, cond, ◌&&◌, ◌||◌, not}
use mathlib.Core.List.{List, [], ◌∷◌}
use mathlib.Core.Path.{◌≡◌, refl, sym, ◌∙◌, ap}
use native.Mathlib.Omega.{arith}
use borrow.Author.Tests.{eqb-true}
use lib.Dec.{eqb, leb}
use lib.IntN.{ℤ, pos}
use lib.ListN.{length, replicate}
use lib.Seq.{sets}
use Rattle.rules.specs.declared.Digits.{Digits}
use Rattle.rules.specs.declared.Class.{Class}
use Rattle.rules.specs.Base.{all}
use Rattle.rules.specs.RangeClass.{digits, digits_of}
use Rattle.rules.specs.Values.{Num, nums}
use Rattle.rules.specs.Rows.{Rule, blank, rows_at_limit, inner_of}
use Rattle.rules.specs.Blocks.{blank_held}
use Rattle.rules.specs.Figures.{layer_table, figure_table, text_table, placed_table, placed_tables}
use Rattle.rules.specs.Sets.{Set, plain, symbol_range, wire_range, range_of, is_single, is_wired}
use Rattle.rules.specs.Machine as M
use Rattle.rules.specs.Machine.{Home, in_element, in_layer, is_layer}
use Rattle.rules.specs.RecordTable.{numbers, rule_at, start, put_slot, put_held, text_record, placed_record, line_record, View, plain_view}
use Rattle.rules.proofs.Chains.{clash}
use Rattle.tables.specs.Tables.{table_of}
use Rattle.entries.specs.Acts.{put_line}
use Rattle.account.specs.Placing.{fills}
use Rattle.standing.specs.SoFar.{home_owner, home_volume, home_figure, empty_record}
use Rattle.account.specs.FigureLines.{layer_table_number, home_table, home_rows, line_kind}
use Rattle.standing.proofs.LineOrigins.{is_values}
use Rattle.standing.proofs.RowOpeners.{is_opens}
use Rattle.standing.proofs.RowRecords.{row_record}

-- ── the table ──
-- b: E_sym is 001; w: E_wire isn't 000
layer-rows : (b w : Bool) → table_of (layer_table_number b w) ≡ layer_table b w
unfolding table_of
layer-rows true true = refl
layer-rows true false = refl
layer-rows false true = refl
layer-rows false false = refl

pub home-rows : (s : Set) (h : Home) → table_of (home_table (is_layer h) (symbol_range s) (wire_range s)) ≡ M.home_table s h
unfolding table_of
home-rows s (in_element y) = refl
home-rows s (in_layer m) = layer-rows (is_single s) (is_wired s)

-- "any number": no row is ever full
layer-full : (b w : Bool) → replicate (cond w 7 8) false ≡ rows_at_limit 0 (layer_table b (not w))
unfolding layer_table
layer-full b true = refl
layer-full b false = refl

pub home-full : (s : Set) (h : Home) → replicate (home_rows (is_layer h) (wire_range s)) false ≡ rows_at_limit 0 (M.home_table s h)
unfolding figure_table
home-full s (in_element y) = refl
home-full s (in_layer m) = layer-full (is_single s) (eqb (wire_range s) 0)

-- ── its rows ──
-- a row has values, or opens one of the blocks 1 to `most`
abbrev pub block_row : ℕ → Rule → Bool
block_row most r = is_opens r.holds && (leb 1 (inner_of r.holds) && leb (inner_of r.holds) most)

abbrev pub values_row : Rule → Bool
values_row r = is_values r.holds && not r.may

abbrev pub figure_row : ℕ → Rule → Bool
figure_row most r = eqb r.state 0 && (values_row r || block_row most r)

abbrev pub most_block : Home → ℕ
most_block (in_element y) = 2
most_block (in_layer k) = 4

layer-figure-rows : (b w : Bool) → all (figure_row 4) (layer_table b w) ≡ true
unfolding layer_table
layer-figure-rows true true = refl
layer-figure-rows true false = refl
layer-figure-rows false true = refl
layer-figure-rows false false = refl

pub figure-rows : (s : Set) (h : Home) → all (figure_row (most_block h)) (M.home_table s h) ≡ true
unfolding figure_table
figure-rows s (in_element y) = refl
figure-rows s (in_layer m) = layer-figure-rows (is_single s) (is_wired s)

-- the key of the row that opens the inner block i has so many bytes
abbrev pub opens_key : ℕ → ℕ → Rule → Bool
opens_key i n r = not (eqb (inner_of r.holds) i) || eqb (length r.key) n

-- `E_symbol:{` has 8 before its colon, `E_wire:{` has 6
layer-keys : (b w : Bool) → (all (opens_key 3 8) (layer_table b w) ≡ true) × (all (opens_key 4 6) (layer_table b w) ≡ true)
unfolding layer_table
layer-keys true true = (refl, refl)
layer-keys true false = (refl, refl)
layer-keys false true = (refl, refl)
layer-keys false false = (refl, refl)

pub block-keys : (s : Set) (h : Home) → (all (opens_key 3 8) (M.home_table s h) ≡ true) × (all (opens_key 4 6) (M.home_table s h) ≡ true)
unfolding figure_table
block-keys s (in_element y) = (refl, refl)
block-keys s (in_layer m) = layer-keys (is_single s) (is_wired s)

-- ── a figure on one line ──
-- `E_symbol=`: at E_sym 001 no attribute is allowed, so none is unread
single_record : (c : Class) (e : ℕ) (w : Bool) (t : List Rule) (v : List Num) (owner volume line : ℕ)
    → put_slot (rule_at (layer_table true w) 6) (Some (nums v)) (start 16 owner volume line) ≡ placed_record (record { class = c; symbols = digits 0 1; wires = e; table = t }) 0 owner volume line ((Some (nums v) ∷ []) ∷ [])
unfolding layer_table placed_table text_table
single_record c e w t v owner volume line = refl

abbrev view_in : Class → Digits → ℕ → Bool → Bool → View
view_in c d e b w = record { class = c; symbols = d; wires = e; table = layer_table b w }

layer-line : (c : Class) (d : Digits) (e : ℕ) (b w : Bool) → (b ≡ true → d ≡ digits 0 1) → (j : ℕ) (v : List Num) (owner volume line : ℕ) → is_values (rule_at (layer_table b w) j).holds ≡ true
    → fills (rule_at (layer_table b w) j).holds (numbers (nums v)) ≡ true
    → sets (put_line (rule_at (layer_table b w) j) 0 (nums v) empty_record) 0 (pos (line_kind true j) ∷ pos owner ∷ pos volume ∷ pos line ∷ []) ≡ line_record (view_in c d e b w) 0 owner volume line j v
unfolding layer_table
layer-line c d e b w q zero v o vo li i f = row_record (rule_at (layer_table b w) 0) 3 (nums v) 10 o vo li refl (omega arith) refl refl refl f
layer-line c d e b w q (suc zero) v o vo li i f = row_record (rule_at (layer_table b w) 1) 3 (nums v) 11 o vo li refl (omega arith) refl refl refl f
layer-line c d e b w q (suc (suc zero)) v o vo li i f = row_record (rule_at (layer_table b w) 2) 3 (nums v) 12 o vo li refl (omega arith) refl refl refl f
layer-line c d e b w q (suc (suc (suc zero))) v o vo li i f = row_record (rule_at (layer_table b w) 3) 3 (nums v) 13 o vo li refl (omega arith) refl refl refl f
layer-line c d e b w q (suc (suc (suc (suc zero)))) v o vo li i f = clash i refl
layer-line c d e b w q (suc (suc (suc (suc (suc zero))))) v o vo li i f = clash i refl
layer-line c d e true w q (suc (suc (suc (suc (suc (suc zero)))))) v o vo li i f =
    row_record (rule_at (layer_table true w) 6) 4 (nums v) 16 o vo li refl (omega arith) refl refl refl f
    ∙ single_record c e w (layer_table true w) v o vo li
    ∙ ap (λ (y : Digits). placed_record (view_in c y e true w) 0 o vo li ((Some (nums v) ∷ []) ∷ [])) (sym (q refl))
layer-line c d e false w q (suc (suc (suc (suc (suc (suc zero)))))) v o vo li i f = clash i refl
layer-line c d e b true q (suc (suc (suc (suc (suc (suc (suc zero))))))) v o vo li i f = clash i refl
layer-line c d e b true q (suc (suc (suc (suc (suc (suc (suc (suc j)))))))) v o vo li i f = clash i refl
layer-line c d e b false q (suc (suc (suc (suc (suc (suc (suc j))))))) v o vo li i f = clash i refl

element-line : (j : ℕ) (v : List Num) (owner volume line : ℕ) → is_values (rule_at figure_table j).holds ≡ true
    → fills (rule_at figure_table j).holds (numbers (nums v)) ≡ true
    → sets (put_line (rule_at figure_table j) 0 (nums v) empty_record) 0 (pos (line_kind false j) ∷ pos owner ∷ pos volume ∷ pos line ∷ []) ≡ line_record plain_view 20 owner volume line j v
unfolding figure_table
element-line zero v o vo li i f = row_record (rule_at figure_table 0) 3 (nums v) 30 o vo li refl (omega arith) refl refl refl f
element-line (suc zero) v o vo li i f = row_record (rule_at figure_table 1) 3 (nums v) 31 o vo li refl (omega arith) refl refl refl f
element-line (suc (suc zero)) v o vo li i f = row_record (rule_at figure_table 2) 3 (nums v) 32 o vo li refl (omega arith) refl refl refl f
element-line (suc (suc (suc zero))) v o vo li i f = row_record (rule_at figure_table 3) 3 (nums v) 33 o vo li refl (omega arith) refl refl refl f
element-line (suc (suc (suc (suc zero)))) v o vo li i f = clash i refl
element-line (suc (suc (suc (suc (suc zero))))) v o vo li i f = clash i refl
element-line (suc (suc (suc (suc (suc (suc j)))))) v o vo li i f = clash i refl

abbrev pub line_made : Set → Home → ℕ → ℕ → List Num → List ℤ
line_made s h line j v =
    sets (put_line (rule_at (M.home_table s h) j) 0 (nums v) empty_record) 0 (pos (line_kind (is_layer h) j) ∷ pos (home_owner s h) ∷ pos (home_volume s h) ∷ pos line ∷ [])

pub line_record_lem : (c : Class) (s : Set) (h : Home) (line j : ℕ) (v : List Num) → is_values (rule_at (M.home_table s h) j).holds ≡ true
    → fills (rule_at (M.home_table s h) j).holds (numbers (nums v)) ≡ true → line_made s h line j v ∷ [] ≡ home_figure c s h (plain line j v)
line_record_lem c s (in_element y) line j v i f = ap (λ (r : List ℤ). r ∷ []) (element-line j v (home_owner s (in_element y)) 1 line i f)
line_record_lem c s (in_layer m) line j v i f =
    ap (λ (r : List ℤ). r ∷ []) (layer-line c (range_of s) (wire_range s) (is_single s) (is_wired s) (λ q. ap digits_of (eqb-true (symbol_range s) 1 q)) j v m (home_volume s (in_layer m)) line i f)

-- ── a figure that is a block, just begun ──
pub text-begun : (b : Bool) (more owner volume line : ℕ) → text_record more owner volume line (blank (text_table b 4 12)) ≡ start (15 + more) owner volume line
unfolding text_table
text-begun b more owner volume line = refl

pub placed-begun : (owner volume line : ℕ) → put_held placed_tables (blank_held placed_tables) (start 16 owner volume line) ≡ start 16 owner volume line
unfolding placed_table text_table
placed-begun owner volume line = refl
