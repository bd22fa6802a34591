-- What the code does with a line, by the block that is open, and what it needs for it.
use Rattle.std.specs.Prelude.{ℕ, ◌+◌, ◌≤◌, ◌<◌, Bool, true, false, ◌≡◌, List, [], ◌∷◌, ◌++◌, eqb, ℤ, length, get_or, take, drop, replicate}
use Rattle.rules.specs.declared.Class.{Class}
use Rattle.rules.specs.declared.LineForm.{LineForm}
use Rattle.rules.specs.Lines.{Form, form_in}
use Rattle.rules.specs.RangeClass.{digits, digits_of}
use Rattle.rules.specs.Values.{Known}
use Rattle.rules.specs.Rows.{Act, shut, act}
use Rattle.tables.specs.Tables.{table_of}
use Rattle.entries.specs.Names.{known_in}
use Rattle.account.specs.declared.Now.{Now}
use Rattle.account.specs.declared.Where.{Where}
use Rattle.account.specs.declared.Step.{Step}
use Rattle.account.specs.declared.Step.TheVariants as S
use Rattle.account.specs.Records.{part_at, with_part}
use Rattle.standing.specs.Standing.{Desk, desk, Lengths}
use Rattle.standing.specs.Reading.{tally_after, tally_named, symbols_named}
use Rattle.account.specs.Points.{point_table_of, point_act, ChainLine, HideLine}
use Rattle.account.specs.TextLines.{text_table_of, TextLine}
use Rattle.account.specs.FigureLines.{home_table, home_rows, FigureLine}
use Rattle.account.specs.ElementLines.{ElementLine}
use Rattle.account.specs.SymbolLines.{non_in, is_named, ContentPlaced, DefinesLine, SymbolLine}
use Rattle.account.specs.PlacedLines.{Lent, lent, PlacedLine, LentReady}
use Rattle.account.specs.WireLines.{begun_step, begun_put, WireLine, WireReady}
use Rattle.account.specs.SerialNumbers.{ascending, serial_count, kept_in, partners_met}
use Rattle.account.specs.TopLines.{Answered, TopLent, top_lent, top_now, top_lent_by}
use Rattle.account.specs.DrawingLines.{drawing_act, drawing_now, drawing_marks, drawing_put, NamesLine}
use Rattle.account.specs.FileLines.{file_table_of, part_marks, FileLine, FileReady}
use Rattle.rules.specs.Blocks.{most_layers}
use Rattle.tables.specs.Numbering.{table_defines, table_symbol, table_element, table_symbol_points}
use Rattle.account.specs.Numbering.{block_top, block_file, block_drawing, block_layer_names, block_defines, block_symbol, block_hide, block_elements, block_figures}
use Rattle.account.specs.Numbering.{block_chain, block_text, block_placed, block_wire, wire_text, wire_skipped, tally_wire_range, tally_arc, tally_symbol_range, tally_define_range, tally_elements_here}
use Rattle.account.specs.Numbering.{tally_total, tally_symbols, tally_layers, tally_length, most_rows, inner_placed_text}
use Rattle.rules.specs.RecordTable.{width}

-- ── the names in use ──
-- the tally tells how many of the kept names there are: the symbols', and the layers'
abbrev pub names_of : List ℕ → List ℕ → List ℕ
names_of tally symbols = take (get_or tally tally_symbols 0) symbols

abbrev pub ids_of : List ℕ → List ℕ → List ℕ
ids_of tally layers = take (get_or tally tally_layers 0) layers

pub record Named (tally symbols layers : List ℕ) : Type 0 where
  pub twelve : length tally ≡ tally_length
  pub names : get_or tally tally_symbols 0 ≤ length symbols
  pub ids : get_or tally tally_layers 0 ≤ length layers
  pub few-symbols : length symbols ≤ 65536
  pub few-layers : length layers ≤ most_layers

-- the own numbers that are kept, so many as the tally tells
pub record NumbersReady (tally serials : List ℕ) : Type 0 where
  pub count : serial_count tally ≤ length serials
  pub ordered : ascending (kept_in tally serials) ≡ true

-- ── a record that is lent ──
-- P says what becomes of the record at n; the rest of the scratch stays
pub record Lends (n : ℕ) (t₀ t₁ : List ℤ) (P : List ℤ → List ℤ → Type 0) : Type 0 where
  pub rec : List ℤ
  pub did : P (part_at n t₀) rec
  pub back : t₁ ≡ with_part n rec t₀

-- what is lent to a line of a `successive`: all behind the first record
pub record LendsChain (t₀ t₁ : List ℤ) (P : List ℤ → List ℤ → Type 0) : Type 0 where
  pub recs : List ℤ
  pub did : P (drop width t₀) recs
  pub back : t₁ ≡ take width t₀ ++ recs

-- ── a line in each block ──
module _ (spool : List ℕ) (form : LineForm) (n : Now) (tally symbols layers : List ℕ) where
  abbrev names : List ℕ
  names = names_of tally symbols

  abbrev ids : List ℕ
  ids = ids_of tally layers

  abbrev known : Known
  known = known_in spool names ids

  abbrev line : Form
  line = form_in spool form

  abbrev pub OnChain : Where → List ℤ → List ℤ → Step → Type 0
  OnChain w t₀ t₁ r = LendsChain t₀ t₁ λ recs₀ recs₁. ChainLine (point_act (point_table_of n.layered) spool names ids n form) n w recs₀ recs₁ r

  abbrev pub OnHide : Where → List ℤ → List ℤ → Step → Type 0
  OnHide w t₀ t₁ r = Lends width t₀ t₁ λ rec₀ rec₁. HideLine (point_act table_symbol_points spool names ids n form) n w rec₀ rec₁ r

  abbrev pub OnText : List Bool → List Bool → List ℤ → List ℤ → Step → Type 0
  OnText i₀ i₁ t₀ t₁ r =
      Lends width t₀ t₁ λ rec₀ rec₁. TextLine (act known (table_of (text_table_of n.layered)) (digits 0 0) i₀ line) n i₀ i₁ rec₀ rec₁ r

  abbrev pub figure_act : Act
  figure_act =
      act known (table_of (home_table n.layered (get_or tally tally_symbol_range 0) (get_or tally tally_wire_range 0))) (digits_of (get_or tally tally_symbol_range 0))
      (replicate (home_rows n.layered (get_or tally tally_wire_range 0)) false) line

  -- what a line among figures leaves by itself; then a wire that it opened is begun, and a layer that it closed is counted
  pub record OnFigures (c : Class) (w : Where) (tally₁ : List ℕ) (m₀ m₁ i₀ i₁ : List Bool) (t₀ t₁ : List ℤ) (r : Step) : Type 0 where
    pub figures : Step
    pub scratch : List ℤ
    pub lends : Lends width t₀ scratch λ rec₀ rec₁.
        FigureLine figure_act n (get_or tally tally_symbol_range 0) (get_or tally tally_wire_range 0) w rec₀ rec₁ m₀ m₁ i₀ i₁ figures
    pub answer : r ≡ begun_step c figures
    pub begun : t₁ ≡ begun_put w figures scratch
    pub tallied : tally₁ ≡ tally_after tally r

  -- a line in a wire is lent the whole scratch
  abbrev pub OnWire : Class → Where → Lent → Lent → List ℤ → List ℤ → Step → Type 0
  OnWire c w x₀ x₁ t₀ t₁ r =
      WireLine known c (get_or tally tally_wire_range 0) n w x₀ x₁ t₀ t₁ r (eqb n.part wire_skipped) (eqb n.part wire_text) line

  abbrev pub OnElements : List ℕ → List Bool → List Bool → List Bool → List Bool → Step → Type 0
  OnElements tally₁ u₀ u₁ a₀ a₁ r = ElementLine (act known (table_of table_element) (digits 0 0) (false ∷ []) line) n tally tally₁ u₀ u₁ a₀ a₁ r

  abbrev pub OnDefines : Where → List Bool → List Bool → List ℤ → List ℤ → Step → Type 0
  OnDefines w m₀ m₁ t₀ t₁ r =
      Lends 0 t₀ t₁ λ rec₀ rec₁.
      DefinesLine (act known (table_of table_defines) (digits_of (get_or tally tally_define_range 0)) (non_in n ∷ false ∷ []) line) n (length names) w m₀ m₁ rec₀ rec₁ r

  abbrev pub symbol_act : List Bool → Act
  symbol_act m = act known (table_of table_symbol) (digits_of (get_or tally tally_define_range 0)) (take 4 m) line

  -- the name of a symbol that closes is kept
  abbrev pub OnSymbol : List ℕ → List ℕ → List Bool → List Bool → List ℤ → List ℤ → Step → Type 0
  OnSymbol tally₁ symbols₁ m₀ m₁ t₀ t₁ r =
      Lends 0 t₀ t₁ λ rec₀ rec₁.
      SymbolLine (symbol_act m₀) spool names n m₀ m₁ rec₀ rec₁ r × (tally₁ ≡ tally_named tally r) × (symbols₁ ≡ symbols_named tally rec₁ symbols r)

  -- a symbol that closes has a name, and there is room for it
  pub record SymbolReady (m : List Bool) (t : List ℤ) : Type 0 where
    pub marks : length m ≡ most_rows
    pub content : ContentPlaced line
    pub room : get_or tally tally_symbols 0 < length symbols
    pub name : symbol_act m ≡ shut → is_named (part_at 0 t) ≡ true

  abbrev pub OnPlaced : Class → Lent → Lent → List ℤ → List ℤ → Step → Type 0
  OnPlaced c x₀ x₁ t₀ t₁ r =
      Lends width t₀ t₁ λ rec₀ rec₁. PlacedLine known c.symbols (digits_of (get_or tally tally_symbol_range 0)) n x₀ x₁ rec₀ rec₁ r (eqb n.part inner_placed_text) line

  -- no layer has a name that a line of DRAWING_FORMAT asks for
  abbrev sheet_act : List Bool → Act
  sheet_act m = drawing_act (known_in spool names []) (get_or tally tally_arc 0) m line

  abbrev pub OnDrawing : List Bool → List Bool → List ℤ → List ℤ → Step → Type 0
  OnDrawing m₀ m₁ t₀ t₁ r =
      Lends 0 t₀ t₁ λ rec₀ rec₁. Answered (drawing_now n (sheet_act m₀)) ((m₁ ≡ drawing_marks m₀ (sheet_act m₀)) × (rec₁ ≡ drawing_put rec₀ (sheet_act m₀))) r

  abbrev pub OnNames : Where → List ℕ → List ℕ → List ℤ → List ℤ → Step → Type 0
  OnNames w tally₁ layers₁ t₀ t₁ r =
      Lends width t₀ t₁ (λ rec₀ rec₁. NamesLine spool n w line tally tally₁ layers layers₁ rec₀ rec₁ r) × (length layers₁ ≡ length layers)

  -- b₀, b₁: the marks, the layers in use and the header, by the record that is lent; then partners are tested where the set has ended
  pub record OnTop (c : Class) (serials : List ℕ) (w : Where) (used_all : List Bool) (b₀ b₁ : List ℤ → TopLent) (t₀ t₁ : List ℤ) (r : Step) : Type 0 where
    pub did : Step
    pub lends : Lends 0 t₀ t₁ λ rec₀ rec₁.
        Answered (top_now known (eqb w.volume 1) n w tally used_all line) (b₁ rec₁ ≡ top_lent_by known (eqb w.volume 1) w (b₀ rec₀) line) did
    pub answer : r ≡ partners_met c spool tally serials did

  abbrev pub OnFile : List ℕ → Where → List ℕ → List Bool → List Bool → List ℤ → List ℤ → Step → Type 0
  OnFile following w tally₁ m₀ m₁ h₀ h₁ r =
      FileLine (act known (table_of (file_table_of (eqb w.volume 1) n.part)) (digits 0 0) (part_marks (eqb w.volume 1) n.part m₀) line) spool following
      (eqb w.volume 1) n tally tally₁ m₀ m₁ h₀ h₁ r

-- ── any line ──
-- what is lent on return; a line leaves what its block has no use for
pub data Done (c : Class) (spool following : List ℕ) (form : LineForm) (w : Where) (d d₁ : Desk) (r : Step) : Type 0 where
  top : d.now.block ≡ block_top
      → OnTop spool form d.now d.tally d.symbols d.layers c d.serials w d.used_all (top_lent d.marks d.used d.header)
      (top_lent d₁.marks d₁.used d₁.header) d.scratch d₁.scratch r
      → d₁ ≡ desk d.now d.tally d.symbols d.layers d.serials d₁.used d.used_all d₁.marks d.inner d₁.header d₁.scratch
      → Done c spool following form w d d₁ r
  file : d.now.block ≡ block_file
      → OnFile spool form d.now d.tally d.symbols d.layers following w d₁.tally d.marks d₁.marks d.header d₁.header r
      → d₁ ≡ desk d.now d₁.tally d.symbols d.layers d.serials d.used d.used_all d₁.marks d.inner d₁.header d.scratch
      → Done c spool following form w d d₁ r
  drawing : d.now.block ≡ block_drawing
      → OnDrawing spool form d.now d.tally d.symbols d.layers d.marks d₁.marks d.scratch d₁.scratch r
      → d₁ ≡ desk d.now d.tally d.symbols d.layers d.serials d.used d.used_all d₁.marks d.inner d.header d₁.scratch
      → Done c spool following form w d d₁ r
  layer-names : d.now.block ≡ block_layer_names
      → OnNames spool form d.now d.tally d.symbols d.layers w d₁.tally d₁.layers d.scratch d₁.scratch r
      → d₁ ≡ desk d.now d₁.tally d.symbols d₁.layers d.serials d.used d.used_all d.marks d.inner d.header d₁.scratch
      → Done c spool following form w d d₁ r
  defines : d.now.block ≡ block_defines
      → OnDefines spool form d.now d.tally d.symbols d.layers w d.marks d₁.marks d.scratch d₁.scratch r
      → d₁ ≡ desk d.now d.tally d.symbols d.layers d.serials d.used d.used_all d₁.marks d.inner d.header d₁.scratch
      → Done c spool following form w d d₁ r
  symbol : d.now.block ≡ block_symbol
      → OnSymbol spool form d.now d.tally d.symbols d.layers d₁.tally d₁.symbols d.marks d₁.marks d.scratch d₁.scratch r
      → d₁ ≡ desk d.now d₁.tally d₁.symbols d.layers d.serials d.used d.used_all d₁.marks d.inner d.header d₁.scratch
      → Done c spool following form w d d₁ r
  hide : d.now.block ≡ block_hide
      → OnHide spool form d.now d.tally d.symbols d.layers w d.scratch d₁.scratch r
      → d₁ ≡ desk d.now d.tally d.symbols d.layers d.serials d.used d.used_all d.marks d.inner d.header d₁.scratch
      → Done c spool following form w d d₁ r
  elements : d.now.block ≡ block_elements
      → OnElements spool form d.now d.tally d.symbols d.layers d₁.tally d.used d₁.used d.used_all d₁.used_all r
      → d₁ ≡ desk d.now d₁.tally d.symbols d.layers d.serials d₁.used d₁.used_all d.marks d.inner d.header d.scratch
      → Done c spool following form w d d₁ r
  figures : d.now.block ≡ block_figures
      → OnFigures spool form d.now d.tally d.symbols d.layers c w d₁.tally d.marks d₁.marks d.inner d₁.inner d.scratch d₁.scratch r
      → d₁ ≡ desk d.now d₁.tally d.symbols d.layers d.serials d.used d.used_all d₁.marks d₁.inner d.header d₁.scratch
      → Done c spool following form w d d₁ r
  chain : d.now.block ≡ block_chain
      → OnChain spool form d.now d.tally d.symbols d.layers w d.scratch d₁.scratch r
      → d₁ ≡ desk d.now d.tally d.symbols d.layers d.serials d.used d.used_all d.marks d.inner d.header d₁.scratch
      → Done c spool following form w d d₁ r
  text : d.now.block ≡ block_text
      → OnText spool form d.now d.tally d.symbols d.layers d.inner d₁.inner d.scratch d₁.scratch r
      → d₁ ≡ desk d.now d.tally d.symbols d.layers d.serials d.used d.used_all d.marks d₁.inner d.header d₁.scratch
      → Done c spool following form w d d₁ r
  placed : d.now.block ≡ block_placed
      → OnPlaced spool form d.now d.tally d.symbols d.layers c (lent d.tally d.serials d.marks d.inner)
      (lent d₁.tally d₁.serials d₁.marks d₁.inner) d.scratch d₁.scratch r
      → d₁ ≡ desk d.now d₁.tally d.symbols d.layers d₁.serials d.used d.used_all d₁.marks d₁.inner d.header d₁.scratch
      → Done c spool following form w d d₁ r
  wire : d.now.block ≡ block_wire
      → OnWire spool form d.now d.tally d.symbols d.layers c w (lent d.tally d.serials d.marks d.inner)
      (lent d₁.tally d₁.serials d₁.marks d₁.inner) d.scratch d₁.scratch r
      → d₁ ≡ desk d.now d₁.tally d.symbols d.layers d₁.serials d.used d.used_all d₁.marks d₁.inner d.header d₁.scratch
      → Done c spool following form w d d₁ r
  other : block_wire < d.now.block → r ≡ S.Stop 9 → d₁ ≡ d → Done c spool following form w d d₁ r

-- what a line needs
pub record LineFits (spool : List ℕ) (form : LineForm) (w : Where) (d : Desk) : Type 0 where
  pub short : length spool ≤ 61440
  pub named : Named d.tally d.symbols d.layers
  pub lengths : Lengths d
  pub countable : d.now.records + 2 ≤ 18446744073709551615
  pub file : d.now.block ≡ block_file → FileReady (eqb w.volume 1) d.now d.tally d.marks d.header
  pub symbol : d.now.block ≡ block_symbol → SymbolReady spool form d.now d.tally d.symbols d.layers d.marks d.scratch
  pub hide : d.now.block ≡ block_hide → d.now.points < 4294967295
  pub elements : d.now.block ≡ block_elements → get_or d.tally tally_total 0 + get_or d.tally tally_elements_here 0 ≤ 4294967295
  pub figures : d.now.block ≡ block_figures → get_or d.tally tally_elements_here 0 + d.now.figures < 4294967295
  pub chain : d.now.block ≡ block_chain → (d.now.figures < 4294967295) × (d.now.points < 4294967295)
  pub text : d.now.block ≡ block_text → d.now.figures < 4294967295
  pub placed : d.now.block ≡ block_placed
      → LentReady (lent d.tally d.serials d.marks d.inner) × (d.now.figures < 4294967295)
  pub wire : d.now.block ≡ block_wire → WireReady (lent d.tally d.serials d.marks d.inner) d.now d.scratch
  pub numbers : NumbersReady d.tally d.serials

-- ── a line of some blocks ──
-- A function for some of the blocks is lent what they use. What it needs it needs with some other parts of the desk, what it promises it promises
-- with all.
module _ (spool : List ℕ) (form : LineForm) (w : Where) (n : Now) where
  -- at the top level or in FILE_FORMAT
  abbrev pub HeadFits : List ℕ → List ℕ → List ℕ → List ℕ → List Bool → List Bool → List Bool → List ℤ → List ℤ → Type 0
  HeadFits tally symbols layers serials used used_all marks header t =
      (inner : List Bool) × LineFits spool form w (desk n tally symbols layers serials used used_all marks inner header t)

  abbrev pub HeadDone : Class → List ℕ → List ℕ → List ℕ → List ℕ → List ℕ → List ℕ → List Bool → List Bool → List Bool → List Bool → List Bool
      → List ℤ → List ℤ → List ℤ → List ℤ → Step → Type 0
  HeadDone c following tally tally₁ symbols layers serials used used₁ used_all marks marks₁ header header₁ t t₁ r =
      (inner : List Bool)
      → Done c spool following form w (desk n tally symbols layers serials used used_all marks inner header t)
      (desk n tally₁ symbols layers serials used₁ used_all marks₁ inner header₁ t₁) r

  -- in DRAWING_FORMAT or in SYMBOL_DEFINE, but for the figures of a symbol
  abbrev pub SheetFits : List ℕ → List ℕ → List ℕ → List Bool → List ℤ → Type 0
  SheetFits tally symbols layers marks t =
      (serials : List ℕ) × (used : List Bool) × (used_all : List Bool) × (inner : List Bool) × (header : List ℤ)
      × LineFits spool form w (desk n tally symbols layers serials used used_all marks inner header t)

  abbrev pub SheetDone : List ℕ → List ℕ → List ℕ → List ℕ → List ℕ → List ℕ → List Bool → List Bool → List ℤ → List ℤ → Step → Type 0
  SheetDone tally tally₁ symbols symbols₁ layers layers₁ marks marks₁ t t₁ r =
      (c : Class) (following : List ℕ) (serials : List ℕ) (used used_all inner : List Bool) (header : List ℤ)
      → Done c spool following form w (desk n tally symbols layers serials used used_all marks inner header t)
      (desk n tally₁ symbols₁ layers₁ serials used used_all marks₁ inner header t₁) r

  -- among figures, or in one
  abbrev pub FiguresFit : List ℕ → List ℕ → List ℕ → List ℕ → List Bool → List Bool → List ℤ → Type 0
  FiguresFit tally symbols layers serials marks inner t =
      (used : List Bool) × (used_all : List Bool) × (header : List ℤ) × LineFits spool form w (desk n tally symbols layers serials used used_all marks inner header t)

  abbrev pub FiguresDone : Class → List ℕ → List ℕ → List ℕ → List ℕ → List ℕ → List ℕ → List Bool → List Bool → List Bool → List Bool → List ℤ
      → List ℤ → Step → Type 0
  FiguresDone c tally tally₁ symbols layers serials serials₁ marks marks₁ inner inner₁ t t₁ r =
      (following : List ℕ) (used used_all : List Bool) (header : List ℤ)
      → Done c spool following form w (desk n tally symbols layers serials used used_all marks inner header t)
      (desk n tally₁ symbols layers serials₁ used used_all marks₁ inner₁ header t₁) r
