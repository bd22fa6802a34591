-- The record of a block that is open: how long it is, as it begins, and with one more line of it.
use Rattle.std.specs.Prelude.{Some}
use Prim.Native.Nat.{ℕ, ◌+◌, ◌<◌}
use mathlib.Core.Bool.{Bool, true}
use mathlib.Core.List.{List, [], ◌∷◌}
use mathlib.Core.Path.{◌≡◌, refl, sym, ◌∙◌, ap}
use lib.IntN.{ℤ, pos}
use lib.ListN.{length, get_or, set, drop}
use lib.Seq.{length-sets}
use Rattle.rules.specs.declared.Class.{Class}
use Rattle.rules.specs.Base.{all}
use Rattle.rules.specs.Numbers.{value}
use Rattle.rules.specs.Values.{Value}
use Rattle.rules.specs.Rows.{Rule, Slots, Held, blank, part_of, enter, rows_there}
use Rattle.rules.specs.Blocks.{drawing_table, symbol_table}
use Rattle.rules.specs.Figures.{text_table, placed_tables}
use Rattle.rules.specs.Sets.{Point, chain, lettering, Layer, Drawing, Set, with_own}
use Rattle.rules.specs.Machine.{Home, in_element, in_layer}
use Rattle.rules.specs.RecordTable.{numbers, padded, rule_at, start, put_slots, put_held, drawing_record, layer_record, point_records, chain_record, text_record}
use Rattle.rules.proofs.RecordLengths.{length-slots}
use Rattle.entries.specs.Acts.{put_line}
use Rattle.account.specs.Placing.{clear_table, Shaped}
use Rattle.account.proofs.RowsTaken.{Taken}
use Rattle.standing.specs.SoFar.{home_owner, home_volume, home_more, home_figure}
use Rattle.standing.proofs.Marks.{mark-free}
use Rattle.standing.proofs.OwnLines.{housed, own_line, line-value}
use Rattle.standing.proofs.Puts.{all-at, held-set}
use Rattle.standing.proofs.PlacedFacts.{clear-placed}

-- ── the drawing's ──
clear-drawing : clear_table drawing_table ≡ true
unfolding drawing_table
clear-drawing = refl

pub eight-rows : length drawing_table ≡ 8
unfolding drawing_table
eight-rows = refl

housed-drawing : all housed drawing_table ≡ true
unfolding drawing_table
housed-drawing = refl

pub drawing-length : (g : Drawing) → length (drawing_record g) ≡ 32
drawing-length g = length-slots drawing_table g.own (start 3 0 1 g.line)

-- with nothing read of it
pub begun-drawing : (line : ℕ) → drawing_record (record { line = line; own = blank drawing_table; layers = [] }) ≡ start 3 0 1 line
unfolding drawing_table
begun-drawing line = refl

pub drawing-entry : (g : Drawing) (j : ℕ) (v : Value) → length g.own ≡ 8 → Taken drawing_table (rows_there g.own) j v
    → put_line (rule_at drawing_table j) 0 v (drawing_record g) ≡ drawing_record (with_own (set g.own j (Some v)) g)
drawing-entry g j v e k =
    own_line drawing_table g.own j v (start 3 0 1 g.line) (e ∙ sym eight-rows) k.row (mark-free g.own j k.free) k.fill clear-drawing housed-drawing

-- ── a layer's, a symbol's ──
pub layer-length : (n : ℕ) (y : Layer) → length (layer_record n y) ≡ 32
layer-length n y = length-sets (start 5 n 1 y.line) 5 (pos (get_or y.id 0 0) ∷ pos (value (drop 2 y.id)) ∷ padded 2 (numbers y.name))

pub blank_record : (owner line : ℕ) → put_slots symbol_table (blank symbol_table) (start 4 owner 1 line) ≡ start 4 owner 1 line
unfolding symbol_table
blank_record owner line = refl

-- ── a `successive`'s ──
pub chain-figure : (c : Class) (s : Set) (h : Home) (n : ℕ) (ps : List Point)
    → home_figure c s h (chain n ps) ≡ chain_record (home_more h) (home_owner s h) (home_volume s h) n ps ∷ point_records (17 + home_more h) (home_owner s h) (home_volume s h) ps
chain-figure c s (in_element y) n ps = refl
chain-figure c s (in_layer m) n ps = refl

-- ── a text's ──
abbrev pub text_rows : Bool → List Rule
text_rows b = text_table b 4 12

clear-text : (b : Bool) → clear_table (text_rows b) ≡ true
unfolding text_table
clear-text b = refl

two-rows : (b : Bool) → length (text_rows b) ≡ 2
unfolding text_table
two-rows b = refl

housed-text : (b : Bool) → all housed (text_rows b) ≡ true
unfolding text_table
housed-text b = refl

-- where the rows put their numbers goes by neither home
same_rows : (b : Bool) (o : Slots) (t : List ℤ) → put_slots (text_rows b) o t ≡ put_slots (text_rows true) o t
unfolding text_table
same_rows b o t = refl

pub text-length : (more owner volume line : ℕ) (o : Slots) → length (text_record more owner volume line o) ≡ 32
text-length more owner volume line o = length-slots (text_rows true) o (start (15 + more) owner volume line)

pub text-entry : (b : Bool) (o : Slots) (j : ℕ) (v : Value) (more owner volume line : ℕ) → length o ≡ 2 → Taken (text_rows b) (rows_there o) j v
    → put_line (rule_at (text_rows b) j) 0 v (text_record more owner volume line o) ≡ text_record more owner volume line (set o j (Some v))
text-entry b o j v more owner volume line e k =
    let f : List ℤ = start (15 + more) owner volume line in
    ap (put_line (rule_at (text_rows b) j) 0 v) (sym (same_rows b o f))
    ∙ own_line (text_rows b) o j v f (e ∙ sym (two-rows b)) k.row (mark-free o j k.free) k.fill (clear-text b) (housed-text b)
    ∙ same_rows b (set o j (Some v)) f

pub text-figure : (c : Class) (s : Set) (h : Home) (n : ℕ) (o : Slots) → home_figure c s h (lettering n o) ≡ text_record (home_more h) (home_owner s h) (home_volume s h) n o ∷ []
text-figure c s (in_element y) n o = refl
text-figure c s (in_layer m) n o = refl

-- ── a placed symbol's ──
-- a line of its part q
pub placed-entry : (o : Held) (q j : ℕ) (v : Value) (b : List ℤ) → Shaped 0 placed_tables o → q < 2 → Taken (get_or placed_tables q []) (rows_there (part_of o q)) j v → all housed (get_or placed_tables q []) ≡ true
    → put_line (rule_at (get_or placed_tables q []) j) 0 v (put_held placed_tables o b) ≡ put_held placed_tables (enter o q j v) b
placed-entry o q j v b p h w r =
    let t : List Rule = get_or placed_tables q [] in
    line-value (rule_at t j) v (put_held placed_tables o b) (all-at housed t j w.row r) w.fill
    ∙ sym (held-set placed_tables o q j v b p h w.row (mark-free (part_of o q) j w.free) w.fill clear-placed)
