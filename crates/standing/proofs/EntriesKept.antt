-- Lines that take no record and make none complete: a row entered into an open block, a block that opens or closes around others. The
-- table's list stays as it is; on the scratch a row's values are put into the record that is open.
use Rattle.std.specs.Prelude.{Some}
use Prim.Native.Nat.{ℕ, zero, suc, ◌<◌}
use mathlib.Core.Bool.{Bool, true, false}
use mathlib.Core.List.{List, [], ◌∷◌, ◌++◌, append-nil, append_assoc}
use mathlib.Core.Path.{◌≡◌, refl, sym, ◌∙◌, ap}
use native.Mathlib.Omega.{arith}
use lib.IntN.{ℤ}
use lib.ListN.{length, get_or, set}
use Rattle.rules.specs.declared.Class.{Class}
use Rattle.rules.specs.Base.{all}
use Rattle.rules.specs.Values.{Value}
use Rattle.rules.specs.Rows.{Rule, Slots, Held, part_of, enter, rows_there}
use Rattle.rules.specs.Blocks.{drawing_table, symbol_table}
use Rattle.rules.specs.Figures.{placed_tables}
use Rattle.rules.specs.Sets.{Point, Figure, Drawing, Symbol, Set, is_first, with_own, with_block, with_volume, symbol_own, symbol_order, symbol_figures, symbol_hidden}
use Rattle.rules.specs.Machine.{Home, in_element, in_layer, is_layer, State, top, file, drawing, layer_names, defines, symbol, hide, elements, figures, texts, placing, ended, symbol_block}
use Rattle.rules.specs.RecordTable.{rule_at, start, inner_records, point_records, kind_symbol, kind_placed, kind_hidden}
use Rattle.rules.proofs.RecordLengths.{length-slots, length-held}
use Rattle.entries.specs.Acts.{put_line}
use Rattle.account.specs.Placing.{Shaped}
use Rattle.account.specs.Records.{part_at, with_part}
use Rattle.account.proofs.RowsTaken.{Taken}
use Rattle.standing.specs.SoFar.{volume_of, front_records, base_records, home_owner, home_volume, home_more, empty_record}
use Rattle.standing.specs.Kept.{own_open, figure_open, second_open, shut_so_far, Scratch, Enters}
use Rattle.standing.proofs.OwnLines.{housed}
use Rattle.standing.proofs.SlotLengths.{length-line}
use Rattle.standing.proofs.MoreRecords.{element-more, hide-more, layer-closed, volume-closed, shown}
use Rattle.standing.proofs.OpenRecords.{drawing-length, drawing-entry, text_rows, text-length, text-entry, placed-entry}
use Rattle.standing.proofs.SymbolFacts.{symbol-entry, same-order}
use Rattle.standing.proofs.PlacedFacts.{placed-places, text-places}
use Rattle.standing.proofs.ScratchKept.{scratch-same, scratch-own, scratch-figure}

-- the record at `from` with one more line of it
abbrev pub line_in : ℕ → List Rule → ℕ → Value → List ℤ → List ℤ
line_in from rows j v t = with_part from (put_line (rule_at rows j) 0 v (part_at from t)) t

-- ── any block ──
pub stays : (c : Class) (st : State) (t : List ℤ) → Scratch t st → Enters c st st t
stays c st t x = record { same = refl; scratch = x }

-- two states of which the table and the scratch say the same
alike : (c : Class) (st st' : State) (t : List ℤ) → shut_so_far c st' ≡ shut_so_far c st → own_open st ≡ own_open st' → figure_open st ≡ figure_open st' → second_open st ≡ second_open st' → Scratch t st → Enters c st st' t
alike c st st' t same own figure second x = record { same = same; scratch = scratch-same t st st' x own figure second }

-- ── FILE_FORMAT: its numbers are kept apart ──
pub file-enters : (c : Class) (s : Set) (n : ℕ) (h h' : Held) (p p' : ℕ) (t : List ℤ) → Scratch t (file s n h p) → Enters c (file s n h p) (file s n h' p') t
file-enters c s n h h' p p' t x = alike c (file s n h p) (file s n h' p') t refl refl refl refl x

-- ── DRAWING_FORMAT ──
module _ (c : Class) (s : Set) (d : Drawing) (t : List ℤ) where
  module _ (x : Scratch t (drawing s d)) (j : ℕ) (v : Value) (slots : length d.own ≡ 8) (it : Taken drawing_table (rows_there d.own) j v) where
    abbrev d' : Drawing
    d' = with_own (set d.own j (Some v)) d

    abbrev rec : List ℤ
    rec = put_line (rule_at drawing_table j) 0 v (part_at 0 t)

    row_in : rec ≡ own_open (drawing s d')
    row_in = ap (put_line (rule_at drawing_table j) 0 v) x.own ∙ drawing-entry d j v slots it

    row-long : length rec ≡ 32
    row-long = length-line (rule_at drawing_table j) 0 v (part_at 0 t) ∙ ap length x.own ∙ drawing-length d

    pub drawing-row : Enters c (drawing s d) (drawing s d') (line_in 0 drawing_table j v t)
    drawing-row = record { same = refl; scratch = scratch-own t (drawing s d) (drawing s d') x rec row-long row_in refl refl }

    -- `layer_name:{`
    pub names_open : Enters c (drawing s d) (layer_names s d') (line_in 0 drawing_table j v t)
    names_open = record { same = refl; scratch = scratch-own t (drawing s d) (layer_names s d') x rec row-long row_in refl refl }

  pub names-close : Scratch t (layer_names s d) → Enters c (layer_names s d) (drawing s d) t
  names-close x = alike c (layer_names s d) (drawing s d) t refl refl refl refl x

-- ── SYMBOL_DEFINE ──
-- `NON=`
pub non-enters : (c : Class) (s : Set) (b b' : Bool) (t : List ℤ) → Scratch t (defines s b) → Enters c (defines s b) (defines s b') t
non-enters c s b b' t x = alike c (defines s b) (defines s b') t refl refl refl refl x

pub defines-close : (c : Class) (s : Set) (b : Bool) (t : List ℤ) → is_first s ≡ true → Scratch t (defines s b) → Enters c (defines s b) (top s 3) t
defines-close c s b t first x = alike c (defines s b) (top s 3) t (ap (base_records c s) first) refl refl refl x

module _ (c : Class) (s : Set) (y : Symbol) (t : List ℤ) where
  abbrev n : ℕ
  n = length s.symbols

  -- one of its rows
  module _ (x : Scratch t (symbol s y)) (j : ℕ) (v : Value) (slots : length y.own ≡ 4) (it : Taken symbol_table (rows_there y.own) j v) where
    abbrev y' : Symbol
    y' = symbol_own (set y.own j (Some v)) y

    abbrev made : List ℤ
    made = put_line (rule_at symbol_table j) 0 v (part_at 0 t)

    entered : made ≡ own_open (symbol s y')
    entered = ap (put_line (rule_at symbol_table j) 0 v) x.own ∙ symbol-entry y.own j v (start kind_symbol n 1 y.line) slots it

    long : length made ≡ 32
    long = length-line (rule_at symbol_table j) 0 v (part_at 0 t) ∙ ap length x.own ∙ length-slots symbol_table y.own (start kind_symbol n 1 y.line)

    pub symbol-row : Enters c (symbol s y) (symbol s y') (line_in 0 symbol_table j v t)
    symbol-row = record { same = refl; scratch = scratch-own t (symbol s y) (symbol s y') x made long entered refl refl }

    -- `element:{`
    pub element_open : Enters c (symbol s y) (figures s (in_element y') []) (line_in 0 symbol_table j v t)
    element_open = record { same = append-nil (shut_so_far c (symbol s y)); scratch = scratch-own t (symbol s y) (figures s (in_element y') []) x made long entered refl refl }

    -- `hide:{`; b: it comes before `element`
    pub hide_open : (b : Bool) → y.hidden ≡ [] → Enters c (symbol s y) (hide s (symbol_order b y') []) (line_in 0 symbol_table j v t)
    hide_open b None = record {
      same = append-nil (shut_so_far c (symbol s (symbol_order b y'))) ∙ ap (λ (r : List (List ℤ)). front_records s ++ empty_record ∷ r) (sym (same-order n y' b None));
      scratch = scratch-own t (symbol s y) (hide s (symbol_order b y') []) x made long entered refl refl;
    }

  -- their ends: the symbol is open again
  pub element-close : (fs : List Figure) → y.figures ≡ [] → (y.hide_first ≡ false → y.hidden ≡ []) → Scratch t (figures s (in_element y) fs)
      → Enters c (figures s (in_element y) fs) (symbol s (symbol_figures fs y)) t
  element-close fs None order x =
      alike c (figures s (in_element y) fs) (symbol s (symbol_figures fs y)) t
      (ap (λ (r : List (List ℤ)). front_records s ++ empty_record ∷ r) (element-more n y fs None order) ∙ sym (append_assoc (front_records s) (empty_record ∷ inner_records n y) (shown n y fs))) refl refl refl x

  pub hide-close : (ps : List Point) → y.hidden ≡ [] → (y.hide_first ≡ true → y.figures ≡ []) → Scratch t (hide s y ps) → Enters c (hide s y ps) (symbol s (symbol_hidden ps y)) t
  hide-close ps None order x =
      alike c (hide s y ps) (symbol s (symbol_hidden ps y)) t
      (ap (λ (r : List (List ℤ)). front_records s ++ empty_record ∷ r) (hide-more n y ps None order)
      ∙ sym (append_assoc (front_records s) (empty_record ∷ inner_records n y) (point_records kind_hidden n 1 ps))) refl refl refl x

-- ── ELEMENT ──
pub layer-close : (c : Class) (s : Set) (k : ℕ) (fs : List Figure) (t : List ℤ) → Scratch t (figures s (in_layer k) fs)
    → Enters c (figures s (in_layer k) fs) (elements (with_block (record { layer = k; figures = fs }) s)) t
layer-close c s k fs t x =
    alike c (figures s (in_layer k) fs) (elements (with_block (record { layer = k; figures = fs }) s)) t (layer-closed c (record { layer = k; figures = fs }) s) refl refl refl x

pub elements-close : (c : Class) (s : Set) (t : List ℤ) → Scratch t (elements s) → Enters c (elements s) (top (with_volume s) 4) t
elements-close c s t x = alike c (elements s) (top (with_volume s) 4) t (volume-closed c s) refl refl refl x

-- the next volume, and the end
pub volume-anew : (c : Class) (s : Set) (t : List ℤ) → Scratch t (top s 4) → Enters c (top s 4) (top s 0) t
volume-anew c s t x = alike c (top s 4) (top s 0) t refl refl refl refl x

pub eof-enters : (c : Class) (s : Set) (t : List ℤ) → Scratch t (top s 4) → Enters c (top s 4) (ended s) t
eof-enters c s t x = alike c (top s 4) (ended s) t refl refl refl refl x

-- ── a figure's text ──
pub text-row : (c : Class) (s : Set) (h : Home) (fs : List Figure) (n : ℕ) (o : Slots) (t : List ℤ) → Scratch t (texts s h fs n o) → (j : ℕ) (v : Value) → length o ≡ 2
    → Taken (text_rows (is_layer h)) (rows_there o) j v → Enters c (texts s h fs n o) (texts s h fs n (set o j (Some v))) (line_in 32 (text_rows (is_layer h)) j v t)
text-row c s h fs n o t x j v slots it =
    let rule : Rule = rule_at (text_rows (is_layer h)) j in
    record {
      same = refl;
      scratch =
          scratch-figure t (texts s h fs n o) (texts s h fs n (set o j (Some v))) x (put_line rule 0 v (part_at 32 t))
          (length-line rule 0 v (part_at 32 t) ∙ ap length x.figure ∙ text-length (home_more h) (home_owner s h) (home_volume s h) n o)
          (ap (put_line rule 0 v) x.figure ∙ text-entry (is_layer h) o j v (home_more h) (home_owner s h) (home_volume s h) n slots it) refl refl;
    }

-- ── a placed symbol ──
module _ (c : Class) (s : Set) (k : ℕ) (fs : List Figure) (n : ℕ) (o : Held) (t : List ℤ) where
  housed-part : (q : ℕ) → q < 2 → all housed (get_or placed_tables q []) ≡ true
  housed-part zero h = placed-places
  housed-part (suc zero) h = text-places
  housed-part (suc (suc q)) h = absurd (omega (arith, h))

  -- a row of its own (q 0) or of its text (q 1); p, p': the part that is open before and behind the line
  pub placed_row : (p p' q j : ℕ) (v : Value) → Scratch t (placing s k fs n (symbol_block o) p) → q < 2 → Shaped 0 placed_tables o → Taken (get_or placed_tables q []) (rows_there (part_of o q)) j v
      → Enters c (placing s k fs n (symbol_block o) p) (placing s k fs n (symbol_block (enter o q j v)) p') (line_in 32 (get_or placed_tables q []) j v t)
  placed_row p p' q j v x h shape it =
      let rule : Rule = rule_at (get_or placed_tables q []) j in
      let begun : List ℤ = start kind_placed k (volume_of s) n in
      record {
        same = refl;
        scratch =
            scratch-figure t (placing s k fs n (symbol_block o) p) (placing s k fs n (symbol_block (enter o q j v)) p') x (put_line rule 0 v (part_at 32 t))
            (length-line rule 0 v (part_at 32 t) ∙ ap length x.figure ∙ length-held placed_tables o begun)
            (ap (put_line rule 0 v) x.figure ∙ placed-entry o q j v begun shape h it (housed-part q h)) refl refl;
      }

  -- the end of its text
  pub part-close : (p p' : ℕ) → Scratch t (placing s k fs n (symbol_block o) p) → Enters c (placing s k fs n (symbol_block o) p) (placing s k fs n (symbol_block o) p') t
  part-close p p' x = alike c (placing s k fs n (symbol_block o) p) (placing s k fs n (symbol_block o) p') t refl refl refl refl x
