-- How the pen, the notes and the output between two lines stand to the state that the definitions are in.
use Rattle.std.specs.Prelude.{ℕ, zero, suc, ◌+◌, ◌≤◌, ◌<◌, Bool, true, false, cond, ◌≡◌, List, [], ◌∷◌, length, get_or, take, None}
use Rattle.rules.specs.Base.{bytes, is_none, is_some}
use Rattle.rules.specs.Lines.{Form}
use Rattle.rules.specs.Values.{Known, served_symbols, served_wires}
use Rattle.rules.specs.Rows.{Held}
use Rattle.rules.specs.Blocks.{file_tables, drawing_table, symbol_table}
use Rattle.rules.specs.Figures.{text_table, wire_table, first_group_row, num_row, wire_text_row}
use Rattle.rules.specs.Sets.{Wire, Drawing, Symbol, Set, is_first, symbol_range, wire_range, known_of}
use Rattle.rules.specs.RecordTable.{rule_at}
use Rattle.rules.specs.Machine.{Home, in_element, in_layer, State, top, file, drawing, layer_names, defines, symbol, hide, elements, figures, successive, texts}
use Rattle.rules.specs.Machine.{placing, skipping, ended, is_layer, symbol_block, wire_block, wire_unread}
use Rattle.rules.specs.Wires.{group_at}
use Rattle.rules.specs.FixedForm.{Text, open_line, show_group, show_wire_texts}
use Rattle.pens.specs.declared.Pen.{Pen}
use Rattle.pens.specs.Texts.{line_bytes}
use Rattle.pens.specs.Noting.{Noted, notes_from, NotedRows, NotedParts}
use Rattle.pens.specs.Passing.{LinesAt, forms_of, Amid, outside, inside, Pass}
use Rattle.pens.specs.Shown.{drawing_begun, symbol_begun, home_known, shown}
use Rattle.tables.specs.Numbering.{table_file, table_later, table_placed, table_wire}
use Rattle.account.specs.Numbering.{block_top, block_file, block_drawing, block_layer_names, block_defines, block_symbol, block_hide, block_elements, block_figures}
use Rattle.account.specs.Numbering.{block_chain, block_text, block_placed, block_wire, rows_wire, most_rows}

-- E_sym and E_wire are such as are served, so that at class 15 with wire part 18 nothing is skipped
abbrev pub Served : Set → Type 0
Served s = (served_symbols (symbol_range s) ≡ true) × (served_wires (wire_range s) ≡ true)

-- in the first volume, before ELEMENT, its FILE_FORMAT closed
pub record Front (first : Bool) (s : Set) : Type 0 where
  pub volume : first ≡ true
  pub alone : is_first s ≡ true
  pub empty : s.now.blocks ≡ []
  pub served : Served s

-- in any volume, its FILE_FORMAT closed and ELEMENT not
pub record Body (first : Bool) (s : Set) : Type 0 where
  pub volume : is_first s ≡ first
  pub served : Served s

module _ (K : Known) (spool : List ℕ) (first : Bool) (p : Pen) (ns : List ℕ) where
  abbrev pub TopHere : Set → ℕ → Type 0
  TopHere s zero = (is_first s ≡ first) × (first ≡ true → s.symbols ≡ []) × (first ≡ false → Served s)
  TopHere s (suc zero) = Front first s × (s.symbols ≡ [])
  TopHere s (suc (suc zero)) = Front first s × (s.symbols ≡ [])
  TopHere s (suc (suc (suc zero))) = Body first s × (s.now.blocks ≡ [])
  TopHere s (suc (suc (suc (suc k)))) = (k ≡ 0) × Served s

  pub record InFile (s : Set) (h : Held) (i : ℕ) : Type 0 where
    pub part : p.part ≡ i
    pub volume : is_first s ≡ first
    pub bare : first ≡ true → s.symbols ≡ []
    pub later : first ≡ false → Served s
    pub open-part : i < length (file_tables first)
    pub noted : NotedParts spool K (cond first table_file table_later) ns h

  -- DRAWING_FORMAT: its rows before `layer_name` are noted; before that is read there are no layers
  pub record InDrawing (s : Set) (d : Drawing) : Type 0 where
    pub front : Front first s
    pub bare : s.symbols ≡ []
    pub start : p.start ≡ length (line_bytes (drawing_begun K s))
    pub slots : length d.own ≡ 8
    pub noted : NotedRows spool K (take 7 drawing_table) 0 ns (take 7 d.own)
    pub unnamed : is_none (get_or d.own 7 None) ≡ true → d.layers ≡ []

  -- a symbol: its name and `wall` are noted
  pub record InSymbol (s : Set) (y : Symbol) : Type 0 where
    pub front : Front first s
    pub start : p.start ≡ length (line_bytes (symbol_begun K s))
    pub slots : length y.own ≡ 4
    pub name : Noted spool K (rule_at symbol_table 0) (get_or ns 0 0) (get_or y.own 0 None)
    pub wall : Noted spool K (rule_at symbol_table 3) (get_or ns 3 0) (get_or y.own 3 None)
    pub order : is_none (get_or y.own 1 None) ≡ true → is_some (get_or y.own 2 None) ≡ true → y.hide_first ≡ true

  pub record InElement (s : Set) (y : Symbol) : Type 0 where
    pub in-symbol : InSymbol s y
    pub layered : p.layered ≡ false
    pub read : is_some (get_or y.own 1 None) ≡ true
    pub order : is_some (get_or y.own 2 None) ≡ true → y.hide_first ≡ true

  pub record InHide (s : Set) (y : Symbol) : Type 0 where
    pub in-symbol : InSymbol s y
    pub read : is_some (get_or y.own 2 None) ≡ true
    pub order : y.hide_first ≡ is_none (get_or y.own 1 None)

  abbrev pub InHome : Set → Home → Type 0
  InHome s (in_element y) = InElement s y
  InHome s (in_layer m) = Body first s × (p.layered ≡ true)

  pub record InPlaced (s : Set) (m : ℕ) (o : Held) (i : ℕ) : Type 0 where
    pub home : InHome s (in_layer m)
    pub part : p.part ≡ i
    pub open-part : i < 2
    pub noted : NotedParts spool (known_of s) table_placed ns o

  -- A wire: its rows that stand once are noted; of a row that repeats it is noted that it stands there. That a text is open is among it.
  pub record InWire (s : Set) (m : ℕ) (w : Wire) (i : ℕ) : Type 0 where
    pub home : InHome s (in_layer m)
    pub part : p.part ≡ i
    pub open-part : i < 2
    pub slots : length w.own ≡ rows_wire
    pub others : (j : ℕ) → j ≤ wire_text_row → get_or w.own j None ≡ None
    pub noted : (j : ℕ) → wire_text_row < j → j < rows_wire → Noted spool (known_of s) (rule_at wire_table j) (get_or ns (notes_from table_wire + j) 0) (get_or w.own j None)
    pub groups : length w.groups ≡ 3
    pub no-group : (j : ℕ) → first_group_row ≤ j → j ≤ num_row → get_or ns (notes_from table_wire + j) 0 ≡ 0 → group_at w j ≡ []
    pub no_text : get_or ns (notes_from table_wire + wire_text_row) 0 ≡ 0 → (i ≡ 0) × (w.texts ≡ [])

  abbrev pub Here : State → Type 0
  Here (top s k) = (p.block ≡ block_top) × TopHere s k
  Here (file s n h i) = (p.block ≡ block_file) × InFile s h i
  Here (drawing s d) = (p.block ≡ block_drawing) × InDrawing s d
  Here (layer_names s d) = (p.block ≡ block_layer_names) × InDrawing s d × (is_some (get_or d.own 7 None) ≡ true)
  Here (defines s b) = (p.block ≡ block_defines) × Front first s × (b ≡ true → s.symbols ≡ [])
  Here (symbol s y) = (p.block ≡ block_symbol) × InSymbol s y
  Here (hide s y ps) = (p.block ≡ block_hide) × InHide s y
  Here (elements s) = (p.block ≡ block_elements) × Body first s
  Here (figures s h fs) = (p.block ≡ block_figures) × InHome s h
  Here (successive s h fs n ps) = (p.block ≡ block_chain) × InHome s h
  Here (texts s h fs n o) = (p.block ≡ block_text) × InHome s h × NotedRows spool (home_known K s h) (text_table (is_layer h) 4 12) 4 ns o
  Here (placing s m fs n (symbol_block o) i) = (p.block ≡ block_placed) × InPlaced s m o i
  Here (placing s m fs n (wire_block w) i) = (p.block ≡ block_wire) × InWire s m w i
  Here (placing s m fs n wire_unread i) = ⊥
  Here (skipping s m fs n o d) = ⊥
  Here (ended s) = Served s

-- the writing stands where the reading is at st
pub record Pens (K : Known) (spool : List ℕ) (first : Bool) (p : Pen) (ns out : List ℕ) (st : State) : Type 0 where
  pub at : p.at ≡ length (line_bytes (shown K first st))
  pub fits : p.at ≤ length out
  pub text : take p.at out ≡ line_bytes (shown K first st)
  pub many : length ns ≡ most_rows
  pub here : Here K spool first p ns st

-- ── the lines of the wire that is open ──
-- what is open in it, by its part
abbrev pub amid_of : Wire → ℕ → Amid
amid_of w zero = outside
amid_of w (suc i) = inside w.writing

-- the first line of an open text
abbrev pub text_begun : ℕ → Text → Text
text_begun zero t = t
text_begun (suc i) t = open_line (bytes "text") ∷ t

-- From: the place of the line behind its opener; fs: the forms of the lines left. Gone over from there on, its lines write for each key
-- what it holds of that, and then what the lines left write.
pub record Since (spool body : List ℕ) (start from : ℕ) (fs : List Form) (k : Known) (w : Wire) (i : ℕ) : Type 0 where
  pub lines : List (List ℕ)
  pub there : LinesAt spool body start from lines
  pub groups : (j : ℕ) → first_group_row ≤ j → j ≤ num_row → (t : Text) → Pass k j fs (amid_of w i) t
      → Pass k j (forms_of from lines) outside (show_group k (rule_at wire_table j) (group_at w j) t)
  pub texts : (t : Text) → Pass k wire_text_row fs (amid_of w i) t
      → Pass k wire_text_row (forms_of from lines) outside (show_wire_texts k w.texts (text_begun i t))

module _ (spool body : List ℕ) (start from : ℕ) (fs : List Form) where
  abbrev pub Along : State → Type 0
  Along (top s k) = Unit {0}
  Along (file s n h i) = Unit {0}
  Along (drawing s d) = Unit {0}
  Along (layer_names s d) = Unit {0}
  Along (defines s b) = Unit {0}
  Along (symbol s y) = Unit {0}
  Along (hide s y ps) = Unit {0}
  Along (elements s) = Unit {0}
  Along (figures s h gs) = Unit {0}
  Along (successive s h gs n ps) = Unit {0}
  Along (texts s h gs n o) = Unit {0}
  Along (placing s m gs n (symbol_block o) i) = Unit {0}
  Along (placing s m gs n (wire_block w) i) = Since spool body start from fs (known_of s) w i
  Along (placing s m gs n wire_unread i) = Unit {0}
  Along (skipping s m gs n o d) = Unit {0}
  Along (ended s) = Unit {0}
