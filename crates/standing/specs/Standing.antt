-- What the code remembers of a reading, and what it is worth: how the numbers and marks between two lines stand to the state that the
-- definitions are in.
use Rattle.std.specs.Prelude.{ℕ, zero, suc, ◌+◌, ◌*◌, ◌≤◌, ◌<◌, Bool, true, false, cond, ◌&&◌, ◌≡◌, List, [], ◌∷◌, ◌++◌, map, ℤ, length, get_or, take, drop, replicate, Option, Some, None}
use Rattle.rules.specs.declared.Class.{Class}
use Rattle.rules.specs.RangeClass.{most_depth}
use Rattle.rules.specs.Base.{all, flat, total, has_number, is_none, is_some}
use Rattle.rules.specs.RefusalNumbers.{got, bad}
use Rattle.rules.specs.Lines.{Rest, brace, equals, Form, ignored, wrong, close, eof, keyed, span, bytes_at, form_in}
use Rattle.rules.specs.Values.{Value, empty, nums, chars, linked, amount_at, serials_of}
use Rattle.rules.specs.Rows.{blank, Held, part_of, rows_there, number_of, slot_value, held}
use Rattle.rules.specs.Blocks.{file_table, most_layers}
use Rattle.rules.specs.Figures.{text_table, placed_table, placed_tables, wire_text_row, wire_serial_row}
use Rattle.rules.specs.Sets.{Point, Wire, Figure, plain, chain, lettering, placed, wired, passed, LayerBlock, Contents, Layer, Drawing, Symbol, Set, is_first, first_contents, arc_of, symbol_range, define_range, wire_range, symbol_name_of}
use Rattle.rules.specs.Sets.{own_serial, wire_partners, elements_of, used_in}
use Rattle.rules.specs.VolumesAndTotals.{own_table}
use Rattle.rules.specs.Machine.{Line, in_last_volume, Home, in_element, in_layer, State, top, file, drawing, layer_names, defines, symbol, hide, elements, unlimited}
use Rattle.rules.specs.Machine.{figures, successive, texts, placing, skipping, ended, set_of, new_name, Owned, symbol_block, wire_block, wire_unread}
use Rattle.rules.specs.LineByLine.{step_in}
use Rattle.entries.specs.Names.{names_in}
use Rattle.rules.specs.declared.LineForm.{LineForm}
use Rattle.account.specs.declared.Now.{Now}
use Rattle.account.specs.declared.Where.{Where}
use Rattle.account.specs.declared.Step.{Step}
use Rattle.account.specs.declared.Step.TheVariants as S
use Rattle.account.specs.Placing.{Shaped}
use Rattle.account.specs.SkippedLines.{Skips}
use Rattle.account.specs.declared.Complete.{Complete}
use Rattle.account.specs.declared.Complete.TheVariants as C
use Rattle.account.specs.SerialNumbers.{owns_of, ascending, bytes_lent, all_partners}
use Rattle.account.specs.FileLines.{file_width}
use Rattle.account.specs.Putting.{completed, number_for, cleared_by}
use Rattle.standing.specs.SoFar.{volume_of}
use Rattle.standing.specs.Kept.{Scratch, shut_so_far, OwnAt, Opens, Fills, FillsAll}
use Rattle.account.specs.Numbering.{block_top, block_file, block_drawing, block_layer_names, block_defines, block_symbol, block_hide, block_elements, block_figures}
use Rattle.account.specs.Numbering.{block_chain, block_text, block_placed, block_wire, block_ended, wire_read, wire_text, wire_skipped, wire_past, rows_wire, rows_text, most_rows, header_length, scratch_length, most_symbols, most_serials}
use Rattle.rules.specs.RecordTable.{width, shelves}

-- ── what is lent from line to line ──
pub record Desk : Type 0 where
  pub now : Now
  pub tally : List ℕ
  pub symbols : List ℕ
  pub layers : List ℕ
  pub serials : List ℕ
  pub used : List Bool
  pub used_all : List Bool
  pub marks : List Bool
  pub inner : List Bool
  pub header : List ℤ
  pub scratch : List ℤ

abbrev pub desk : Now → List ℕ → List ℕ → List ℕ → List ℕ → List Bool → List Bool → List Bool → List Bool → List ℤ → List ℤ → Desk
desk n tally symbols layers serials used used_all marks inner header scratch = record {
  now = n;
  tally = tally;
  symbols = symbols;
  layers = layers;
  serials = serials;
  used = used;
  used_all = used_all;
  marks = marks;
  inner = inner;
  header = header;
  scratch = scratch;
}

-- a symbol takes 48 bytes of a spool at least, a placed symbol or a wire with a serial number of three digits 27 (`bytes_lent`): at most 1,280
-- names, and 2,279 serials with one free place behind them, which a line in such a block asks for
pub record Lengths (d : Desk) : Type 0 where
  pub symbols : length d.symbols ≡ most_symbols
  pub layers : length d.layers ≡ most_layers
  pub serials : length d.serials ≡ most_serials
  pub used : length d.used ≡ most_layers
  pub used_all : length d.used_all ≡ most_layers
  pub marks : length d.marks ≡ most_rows
  pub inner : length d.inner ≡ rows_text
  pub header : length d.header ≡ header_length
  pub scratch : length d.scratch ≡ scratch_length

-- ── what a state says ──
-- the layers declared so far
abbrev pub layers_of : State → List Layer
layers_of (drawing s d) = d.layers
layers_of (layer_names s d) = d.layers
layers_of (top s k) = s.drawing.layers
layers_of (file s n h p) = s.drawing.layers
layers_of (defines s b) = s.drawing.layers
layers_of (symbol s y) = s.drawing.layers
layers_of (hide s y ps) = s.drawing.layers
layers_of (elements s) = s.drawing.layers
layers_of (figures s h fs) = s.drawing.layers
layers_of (successive s h fs n ps) = s.drawing.layers
layers_of (texts s h fs n o) = s.drawing.layers
layers_of (placing s k fs n o p) = s.drawing.layers
layers_of (skipping s k fs n o d) = s.drawing.layers
layers_of (ended s) = s.drawing.layers

-- the serial numbers read so far, in the order written: of each symbol or wire that has them, its own number and its partners
abbrev pub wire_links : Option Value → List (List ℕ)
wire_links None = []
wire_links (Some v) = (amount_at v 0 ∷ wire_partners v) ∷ []

abbrev pub symbol_links : List ℕ → List (List ℕ)
symbol_links [] = []
symbol_links (n ∷ ps) = (n ∷ ps) ∷ []

abbrev pub figure_links : Figure → List (List ℕ)
figure_links (plain n j v) = []
figure_links (chain n ps) = []
figure_links (lettering n s) = []
figure_links (placed n h) = symbol_links (serials_of (slot_value (held "serial" placed_table (part_of h 0))))
figure_links (wired n w) = wire_links (get_or w.own wire_serial_row None)
figure_links (passed n) = []

abbrev pub links_of_block : LayerBlock → List (List ℕ)
links_of_block u = flat (map figure_links u.figures)

abbrev pub links_of_volume : Contents → List (List ℕ)
links_of_volume v = flat (map links_of_block v.blocks)

abbrev pub closed_links : Set → List (List ℕ)
closed_links s = flat (map links_of_volume s.volumes)

-- in the layers that are closed
abbrev pub links_in : Set → List (List ℕ)
links_in s = closed_links s ++ links_of_volume s.now

abbrev pub links_with : Set → List Figure → List (List ℕ)
links_with s fs = links_in s ++ flat (map figure_links fs)

abbrev pub home_links : Set → Home → List Figure → List (List ℕ)
home_links s (in_element y) fs = closed_links s
home_links s (in_layer k) fs = links_with s fs

abbrev pub owned_links : ℕ → Owned → List (List ℕ)
owned_links n (symbol_block o) = figure_links (placed n o)
owned_links n (wire_block w) = figure_links (wired n w)
owned_links n wire_unread = []

abbrev pub links_of : State → List (List ℕ)
links_of (top s k) = closed_links s
links_of (file s n h p) = closed_links s
links_of (drawing s d) = closed_links s
links_of (layer_names s d) = closed_links s
links_of (defines s b) = closed_links s
links_of (symbol s y) = closed_links s
links_of (hide s y ps) = closed_links s
links_of (elements s) = links_in s
links_of (figures s h fs) = home_links s h fs
links_of (successive s h fs n ps) = home_links s h fs
links_of (texts s h fs n o) = home_links s h fs
links_of (placing s k fs n o p) = links_with s fs ++ owned_links n o
links_of (skipping s k fs n o d) = links_with s fs ++ owned_links n o
links_of (ended s) = closed_links s

-- how the numbers that are kept stand to them: in their order, the same own numbers, and the same partners
abbrev pub owns_in : List (List ℕ) → List ℕ
owns_in links = flat (map own_serial links)

abbrev pub partners_of : List (List ℕ) → List ℕ
partners_of links = flat (map (λ l. drop 1 l) links)

pub record Numbers (spool ks : List ℕ) (links : List (List ℕ)) : Type 0 where
  pub ordered : ascending ks ≡ true
  pub owns : (n : ℕ) → has_number n (owns_of ks) ≡ has_number n (owns_in links)
  pub partners : (found : ℕ → Bool) → all found (all_partners spool ks) ≡ all found (partners_of links)

-- the layers used so far in the volume at hand
abbrev pub home_used : Set → Home → List ℕ
home_used s (in_element y) = []
home_used s (in_layer k) = used_in s.now ++ k ∷ []

abbrev pub used_of : State → List ℕ
used_of (top s k) = []
used_of (file s n h p) = []
used_of (drawing s d) = []
used_of (layer_names s d) = []
used_of (defines s b) = []
used_of (symbol s y) = []
used_of (hide s y ps) = []
used_of (elements s) = used_in s.now
used_of (figures s h fs) = home_used s h
used_of (successive s h fs n ps) = home_used s h
used_of (texts s h fs n o) = home_used s h
used_of (placing s k fs n o p) = home_used s (in_layer k)
used_of (skipping s k fs n o d) = home_used s (in_layer k)
used_of (ended s) = []

-- the elements of a wire that is open, and the lines of its keys that repeat
abbrev pub repeats_of : Wire → ℕ
repeats_of w = total length w.groups + length w.texts

abbrev pub owned_elements : Owned → ℕ
owned_elements (symbol_block o) = 0
owned_elements (wire_block w) = length w.elements + repeats_of w
owned_elements wire_unread = 0

-- the figures of the layer or symbol that is open, and the elements and repeated lines of its open wire
abbrev pub open_figures : State → ℕ
open_figures (top s k) = 0
open_figures (file s n h p) = 0
open_figures (drawing s d) = 0
open_figures (layer_names s d) = 0
open_figures (defines s b) = 0
open_figures (symbol s y) = 0
open_figures (hide s y ps) = 0
open_figures (elements s) = 0
open_figures (figures s h fs) = length fs
open_figures (successive s h fs n ps) = length fs
open_figures (texts s h fs n o) = length fs
open_figures (placing s k fs n o p) = length fs + owned_elements o
open_figures (skipping s k fs n o d) = length fs + owned_elements o
open_figures (ended s) = 0

-- ELEMENT is open
abbrev pub home_inside : Home → Bool
home_inside (in_element y) = false
home_inside (in_layer k) = true

abbrev pub inside : State → Bool
inside (top s k) = false
inside (file s n h p) = false
inside (drawing s d) = false
inside (layer_names s d) = false
inside (defines s b) = false
inside (symbol s y) = false
inside (hide s y ps) = false
inside (elements s) = true
inside (figures s h fs) = home_inside h
inside (successive s h fs n ps) = home_inside h
inside (texts s h fs n o) = home_inside h
inside (placing s k fs n o p) = true
inside (skipping s k fs n o d) = true
inside (ended s) = false

-- FILE_FORMAT of the volume at hand is closed, ELEMENT is not
abbrev pub headed : ℕ → Bool
headed zero = false
headed (suc zero) = true
headed (suc (suc zero)) = true
headed (suc (suc (suc zero))) = true
headed (suc (suc (suc (suc k)))) = false

abbrev pub counts : State → Bool
counts (top s k) = headed k
counts (file s n h p) = false
counts (drawing s d) = true
counts (layer_names s d) = true
counts (defines s b) = true
counts (symbol s y) = true
counts (hide s y ps) = true
counts (elements s) = true
counts (figures s h fs) = true
counts (successive s h fs n ps) = true
counts (texts s h fs n o) = true
counts (placing s k fs n o p) = true
counts (skipping s k fs n o d) = true
counts (ended s) = false

-- the figures in the closed layers of the volume at hand; from ELEMENT's end on they are among those of the closed volumes
abbrev pub elements_here : State → ℕ
elements_here st = cond (counts st) (elements_of (set_of st).now) 0

-- this_ele of the volume at hand
abbrev pub this_of : Set → ℕ
this_of s = number_of "this_ele" (own_table (is_first s)) (part_of s.now.file 0)

abbrev pub file_number : Prim.Native.String.String → Set → ℕ
file_number k s = number_of k file_table (part_of (first_contents s).file 0)

-- the tally: arc, E_sym, S_elec, date, time, all_ele; this_ele; figures in closed layers of this volume, in closed volumes; symbols,
-- layers, serial numbers; E_wire
abbrev pub tally_of : Set → ℕ → ℕ → ℕ → List ℕ
tally_of s here layers serials =
    arc_of s ∷ symbol_range s ∷ define_range s ∷ file_number "date" s ∷ file_number "time" s ∷ file_number "all_ele" s ∷ here ∷ elements_of s.now
    ∷ total elements_of s.volumes ∷ length s.symbols ∷ layers ∷ serials ∷ wire_range s ∷ []

-- ── bytes that must have been read: each line has its bytes, and two for its end ──
abbrev pub rest_size : Rest → ℕ
rest_size brace = 2
rest_size (equals at c) = suc (length c)

abbrev pub form_size : Form → ℕ
form_size ignored = 0
form_size (wrong n) = 0
form_size close = 1
form_size eof = 3
form_size (keyed k r) = length k + rest_size r

-- of a row that was read: this many
abbrev pub row_bytes : ℕ → Option Value → ℕ
row_bytes n o = cond (is_some o) n 0

-- of a symbol that is open: `E_symbol:{`, its name's line, and so many of `element` and of `hide`, where they were read
abbrev pub symbol_with : ℕ → ℕ → Symbol → ℕ
symbol_with element hidden y =
    12 + row_bytes 8 (get_or y.own 0 None) + row_bytes element (get_or y.own 1 None) + row_bytes hidden (get_or y.own 2 None)

-- `element:{` and `hide:{` with their ends (what they hold is not counted); the one that is open lacks its end
abbrev pub symbol_bytes : Symbol → ℕ
symbol_bytes y = symbol_with 14 11 y

abbrev pub hide_bytes : Symbol → ℕ
hide_bytes y = symbol_with 14 8 y

abbrev pub home_bytes : Home → ℕ
home_bytes (in_element y) = symbol_with 11 11 y
home_bytes (in_layer k) = 0

abbrev pub name_bytes : State → ℕ
name_bytes (top s k) = 0
name_bytes (file s n h p) = 0
name_bytes (drawing s d) = 0
name_bytes (layer_names s d) = 0
name_bytes (defines s b) = 0
name_bytes (symbol s y) = symbol_bytes y
name_bytes (hide s y ps) = hide_bytes y
name_bytes (elements s) = 0
name_bytes (figures s h fs) = home_bytes h
name_bytes (successive s h fs n ps) = home_bytes h
name_bytes (texts s h fs n o) = home_bytes h
name_bytes (placing s k fs n o p) = 0
name_bytes (skipping s k fs n o d) = 0
name_bytes (ended s) = 0

-- A serial number counts as a whole block from its own line on, though the end (3) may be still to come: these 3 are always lent. Before its
-- serial's line (`serial=100`, 12; `serial=100,,`, 14) an open block has them and its opener (`E_symbol:{`, 12; `E_wire:{`, 10), behind it
-- all 27 are spent.
abbrev pub due_of : ℕ → Option Value → ℕ
due_of opener o = cond (is_some o) 0 (3 + opener)

abbrev pub owned_bytes : Owned → ℕ
owned_bytes (symbol_block o) = due_of 12 (get_or (part_of o 0) 5 None)
owned_bytes (wire_block w) = due_of 10 (get_or w.own wire_serial_row None)
owned_bytes wire_unread = 3

abbrev pub serial_bytes : State → ℕ
serial_bytes (top s k) = 3
serial_bytes (file s n h p) = 3
serial_bytes (drawing s d) = 3
serial_bytes (layer_names s d) = 3
serial_bytes (defines s b) = 3
serial_bytes (symbol s y) = 3
serial_bytes (hide s y ps) = 3
serial_bytes (elements s) = 3
serial_bytes (figures s h fs) = 3
serial_bytes (successive s h fs n ps) = 3
serial_bytes (texts s h fs n o) = 3
serial_bytes (placing s k fs n o p) = owned_bytes o
serial_bytes (skipping s k fs n o d) = owned_bytes o
serial_bytes (ended s) = 3

-- ── the block that is open ──
-- no layers are declared yet, and no symbols
pub record Bare (s : Set) : Type 0 where
  pub layers : s.drawing.layers ≡ []
  pub symbols : s.symbols ≡ []

-- before ELEMENT in the first volume, its FILE_FORMAT closed
pub record First (k : ℕ) (s : Set) : Type 0 where
  pub volume : k ≡ 1
  pub first : is_first s ≡ true
  pub blocks : s.now.blocks ≡ []

abbrev pub TopPhase : ℕ → Set → ℕ → Type 0
TopPhase k s zero = (k ≡ volume_of s) × (is_first s ≡ true → Bare s)
TopPhase k s (suc zero) = First k s × Bare s
TopPhase k s (suc (suc zero)) = First k s × (s.symbols ≡ [])
TopPhase k s (suc (suc (suc zero))) = (k ≡ volume_of s) × (s.now.blocks ≡ [])
TopPhase k s (suc (suc (suc (suc m)))) = (k ≡ length s.volumes) × (m ≡ 0) × (is_first s ≡ false)

-- a text's bytes are where its value says
abbrev pub CharsHere : List ℕ → Option Value → Type 0
CharsHere spool None = Unit {0}
CharsHere spool (Some empty) = Unit {0}
CharsHere spool (Some (nums v)) = Unit {0}
CharsHere spool (Some (chars at c)) = (c ≡ bytes_at spool (span at (length c))) × (at < 65536) × (length c < 65536)
CharsHere spool (Some (linked n ps)) = Unit {0}

-- a text, or nothing yet
abbrev pub is_text : Option Value → Bool
is_text None = true
is_text (Some empty) = false
is_text (Some (nums v)) = false
is_text (Some (chars at c)) = true
is_text (Some (linked n ps)) = false

-- how far a wire that is read is, as the code remembers it
abbrev pub part_in : ℕ → Bool → ℕ
part_in zero false = wire_read
part_in zero true = wire_past
part_in (suc p) past = wire_text

-- n, ms, is: what the code remembers, the marks of the open block and those of its inner part
module _ (spool : List ℕ) (k : ℕ) (n : Now) (ms is : List Bool) where
  -- a symbol that is open: what it holds, in the order written
  pub record InSymbol (s : Set) (y : Symbol) : Type 0 where
    pub phase : First k s
    pub owner : n.owner ≡ length s.symbols
    pub slots : length y.own ≡ 4
    pub marked : take 4 ms ≡ rows_there y.own
    pub fresh : new_name s y ≡ true
    pub name : CharsHere spool (get_or y.own 0 None)
    pub is-text : is_text (get_or y.own 0 None) ≡ true
    pub element-first : is_none (get_or y.own 1 None) ≡ true → (y.figures ≡ []) × (y.hide_first ≡ false → y.hidden ≡ [])
    pub hide-first : is_none (get_or y.own 2 None) ≡ true → y.hidden ≡ []

  -- where the figures stand
  abbrev pub InHome : Set → Home → Type 0
  InHome s (in_element y) =
      InSymbol s y × (n.layered ≡ false) × (y.figures ≡ []) × (y.hide_first ≡ false → y.hidden ≡ []) × (is_none (get_or y.own 1 None) ≡ false)
  InHome s (in_layer m) = (k ≡ volume_of s) × (n.layered ≡ true) × (n.owner ≡ m) × (m < most_layers)

  pub record InDrawing (s : Set) (w : Drawing) : Type 0 where
    pub phase : First k s
    pub bare : Bare s
    pub slots : length w.own ≡ 8
    pub marked : take 8 ms ≡ rows_there w.own

  pub record InChain (s : Set) (h : Home) (fs : List Figure) (ps : List Point) : Type 0 where
    pub home : InHome s h
    pub figures : n.figures ≡ length fs
    pub points : n.points ≡ length ps
    pub few : length ps ≤ 100

  pub record InHide (s : Set) (y : Symbol) (ps : List Point) : Type 0 where
    pub in-symbol : InSymbol s y
    pub points : n.points ≡ length ps
    pub few : length ps ≤ 100
    pub hidden : y.hidden ≡ []
    pub shown : y.hide_first ≡ true → y.figures ≡ []
    pub ordered : y.hide_first ≡ is_none (get_or y.own 1 None)  -- its `hide` comes first where no `element` was read
    pub entered : is_none (get_or y.own 2 None) ≡ false  -- and it has been read

  pub record InPlaced (s : Set) (m : ℕ) (fs : List Figure) (o : Held) (p : ℕ) : Type 0 where
    pub home : InHome s (in_layer m)
    pub figures : n.figures ≡ length fs
    pub part : n.part ≡ p
    pub parts : p ≤ 1
    pub shaped : Shaped 0 placed_tables o
    pub marked : take 6 ms ≡ rows_there (part_of o 0)
    pub inner : p ≡ 1 → is ≡ rows_there (part_of o 1)
    pub unopened : is_none (get_or (part_of o 0) 1 None) ≡ true → part_of o 1 ≡ blank (text_table true 16 24)
    pub opened : p ≡ 1 → is_none (get_or (part_of o 0) 1 None) ≡ false

  -- a wire: how far it is, and how many elements it has or how many skipped blocks are open in it
  pub record InWire (s : Set) (m : ℕ) (fs : List Figure) (far many : ℕ) : Type 0 where
    pub home : InHome s (in_layer m)
    pub figures : n.figures ≡ length fs
    pub part : n.part ≡ far
    pub points : n.points ≡ many

  -- one that is read: p is 1 in its text
  pub record InRead (s : Set) (m : ℕ) (fs : List Figure) (w : Wire) (p : ℕ) : Type 0 where
    pub wire : InWire s m fs (part_in p w.past) (length w.elements)
    pub parts : p ≤ 1
    pub slots : length w.own ≡ rows_wire
    pub marked : take rows_wire ms ≡ rows_there w.own
    pub repeats : take (suc wire_text_row) w.own ≡ replicate (suc wire_text_row) None  -- the rows that repeat are not among those that stand once
    pub groups : length w.groups ≡ length shelves
    pub shut : p ≡ 0 → w.writing ≡ []
    pub writes : p ≡ 1 → (w.past ≡ true) × (length w.writing ≡ rows_text) × (is ≡ rows_there w.writing)

module _ (c : Class) (spool : List ℕ) (k : ℕ) (d : Desk) where
  -- FILE_FORMAT's part is said in FileStanding
  abbrev pub Inside : (FileHere : Set → ℕ → Held → ℕ → Type 0) → State → Type 0
  Inside FileHere (top s m) = (d.now.block ≡ block_top) × (d.now.part ≡ m) × TopPhase k s m
  Inside FileHere (file s n h p) = (d.now.block ≡ block_file) × FileHere s n h p
  Inside FileHere (drawing s w) = (d.now.block ≡ block_drawing) × InDrawing spool k d.now d.marks d.inner s w
  Inside FileHere (layer_names s w) = (d.now.block ≡ block_layer_names) × InDrawing spool k d.now d.marks d.inner s w
  Inside FileHere (defines s b) = (d.now.block ≡ block_defines) × (d.now.part ≡ cond b 1 0) × First k s
  Inside FileHere (symbol s y) = (d.now.block ≡ block_symbol) × InSymbol spool k d.now d.marks d.inner s y
  Inside FileHere (hide s y ps) = (d.now.block ≡ block_hide) × InHide spool k d.now d.marks d.inner s y ps
  Inside FileHere (elements s) = (d.now.block ≡ block_elements) × (k ≡ volume_of s)
  Inside FileHere (figures s h fs) = (d.now.block ≡ block_figures) × InHome spool k d.now d.marks d.inner s h × (d.now.figures ≡ length fs)
  Inside FileHere (successive s h fs n ps) = (d.now.block ≡ block_chain) × InChain spool k d.now d.marks d.inner s h fs ps
  Inside FileHere (texts s h fs n o) =
      (d.now.block ≡ block_text) × InHome spool k d.now d.marks d.inner s h × (d.now.figures ≡ length fs) × (length o ≡ 2)
      × (d.inner ≡ rows_there o)
  Inside FileHere (placing s m fs n (symbol_block o) p) = (d.now.block ≡ block_placed) × InPlaced spool k d.now d.marks d.inner s m fs o p
  Inside FileHere (placing s m fs n (wire_block w) p) =
      (d.now.block ≡ block_wire) × InRead spool k d.now d.marks d.inner s m fs w p
  Inside FileHere (placing s m fs n wire_unread p) = ⊥
  Inside FileHere (skipping s m fs n (symbol_block o) q) = ⊥
  Inside FileHere (skipping s m fs n (wire_block w) q) = ⊥
  Inside FileHere (skipping s m fs n wire_unread q) =
      (d.now.block ≡ block_wire) × (q ≤ most_depth) × InWire spool k d.now d.marks d.inner s m fs wire_skipped q
  Inside FileHere (ended s) = d.now.block ≡ block_ended

  -- the reading stands behind the line that ends at `at`
  pub record Stands (FileHere : Set → ℕ → Held → ℕ → Type 0) (at : ℕ) (st : State) : Type 0 where
    pub lengths : Lengths d
    pub scratch : Scratch d.scratch st
    pub here : ℕ
    pub this : counts st ≡ true → here ≡ this_of (set_of st)
    pub tally : d.tally ≡ tally_of (set_of st) here (length (layers_of st)) (length (links_of st))
    pub symbols : names_in spool (take (length (set_of st).symbols) d.symbols) ≡ map symbol_name_of (set_of st).symbols
    pub layers : names_in spool (take (length (layers_of st)) d.layers) ≡ map (λ l. l.id) (layers_of st)
    pub few-layers : length (layers_of st) ≤ most_layers
    pub serials : Numbers spool (take (length (links_of st)) d.serials) (links_of st)
    pub used : inside st ≡ true → (j : ℕ) → j < most_layers → get_or d.used j false ≡ has_number j (used_of st)
    pub used_all : (j : ℕ) → j < most_layers → get_or d.used_all j false ≡ has_number j (flat (map used_in (set_of st).volumes) ++ used_of st)
    pub counted : total elements_of (set_of st).volumes + elements_here st + open_figures st ≤ at
    pub named : 48 * length (set_of st).symbols + name_bytes st ≤ at
    pub numbered : 27 * length (links_of st) + serial_bytes st ≤ at + 3 + bytes_lent (take (length (links_of st)) d.serials)
    pub block : Inside FileHere st

-- ── what a line does ──
abbrev pub desk_now : Desk → Now → Desk
desk_now d n = record {
  now = n;
  tally = d.tally;
  symbols = d.symbols;
  layers = d.layers;
  serials = d.serials;
  used = d.used;
  used_all = d.used_all;
  marks = d.marks;
  inner = d.inner;
  header = d.header;
  scratch = d.scratch;
}

-- with another scratch
abbrev pub desk_scratch : Desk → List ℤ → Desk
desk_scratch d t = record {
  now = d.now;
  tally = d.tally;
  symbols = d.symbols;
  layers = d.layers;
  serials = d.serials;
  used = d.used;
  used_all = d.used_all;
  marks = d.marks;
  inner = d.inner;
  header = d.header;
  scratch = t;
}

-- the line l, as the code has it: in volume k, behind it the place `to`
pub record LineHere (spool : List ℕ) (k at to : ℕ) (form : LineForm) (w : Where) (l : Line) : Type 0 where
  pub volume : w.volume ≡ k
  pub line : w.line ≡ l.line
  pub ends : w.ends ≡ (in_last_volume l && l.last)
  pub is : l.form ≡ form_in spool form
  pub bytes : at + form_size l.form + 2 ≤ to
  pub most : to ≤ 61442

-- what a line that took so many records made complete of those that have their place in the table: `number` is that of the first of them
-- (A wire's two stand behind the scratch's first record, to its end.)
abbrev pub Made : Class → State → State → ℕ → ℕ → List ℤ → List ℤ → Complete → Type 0
Made c st st' more number t h C.Nothing = Opens c st st' more
Made c st st' more number t h (C.Record from) = Fills c st st' more from number t
Made c st st' more number t h C.Header = FillsAll c st st' more number (take (file_width (is_first (set_of st))) h)
Made c st st' more number t h C.Wire = (length t ≡ scratch_length) × FillsAll c st st' more number (take (width + width) (drop width t))

-- how many records have their place in the table, and the number of the open block's own
pub record Counted (c : Class) (number : ℕ) (d : Desk) (st : State) : Type 0 where
  pub taken : (set_of st).taken ≡ d.now.records
  pub size : length (flat (shut_so_far c st)) ≡ width * d.now.records
  pub own : OwnAt c number st

module _ (c : Class) (spool : List ℕ) (k : ℕ) (FileHere : Desk → Set → ℕ → Held → ℕ → Type 0) where
  abbrev pub StandsAt : Desk → ℕ → State → Type 0
  StandsAt d at st = Stands c spool k d (FileHere d) at st

  -- The line l goes on, and n is open behind it. The scratch is as the line left it: what it made complete goes to the table, and is cleared.
  pub record Goes (own : ℕ) (l : Line) (to : ℕ) (st : State) (d : Desk) (n : Now) : Type 0 where
    pub state : State
    pub step : step_in (unlimited c) l st ≡ got state
    pub more : ℕ
    pub records : n.records ≡ d.now.records + more
    pub taken : (set_of state).taken ≡ (set_of st).taken + more
    pub made : Made c st state more (number_for d.now n own) d.scratch d.header (completed d.now n)
    pub stands : StandsAt (desk_now (desk_scratch d (cleared_by (completed d.now n) d.scratch)) n) to state

  -- it opens a block to be skipped, and n is open behind that
  pub record Passes (l : Line) (to : ℕ) (st : State) (d : Desk) (n : Now) : Type 0 where
    pub inside : State
    pub behind : State
    pub skips : Skips inside behind
    pub step : step_in (unlimited c) l st ≡ got inside
    pub records : n.records ≡ d.now.records
    pub taken : (set_of behind).taken ≡ (set_of st).taken
    pub same : shut_so_far c behind ≡ shut_so_far c st
    pub stands : StandsAt (desk_now d n) to behind

  -- the code's answer to the line l in the state st, with these things lent back: the step that the definitions make
  abbrev pub StepOut : ℕ → Line → ℕ → State → Desk → Step → Type 0
  StepOut own l to st d (S.Go n) = Goes own l to st d n
  StepOut own l to st d (S.Skip n) = Passes l to st d n
  StepOut own l to st d (S.Stop m) = step_in (unlimited c) l st ≡ bad m
