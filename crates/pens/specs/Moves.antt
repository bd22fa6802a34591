-- How the pen goes on: which block is open behind a line, and which lines are written at once.
use Rattle.std.specs.Prelude.{ℕ, ◌+◌, Bool, true, false, cond, ◌&&◌, ◌||◌, not, eqb, ltb}
use Rattle.rules.specs.Values.{Kind, values, text, word, volume_name, sheet, ratio, serials, wire_serial, symbol_circle, nothing, opens, headed, either}
use Rattle.rules.specs.Figures.{first_group_row}
use Rattle.pens.specs.declared.Pen.{Pen}
use Rattle.tables.specs.Numbering.{table_top, table_file, table_range, table_base, table_elec, table_sym, table_later, table_drawing, table_defines, table_symbol}
use Rattle.tables.specs.Numbering.{table_element, table_figures, table_layer_points, table_symbol_points, table_layer_text, table_symbol_text, table_placed}
use Rattle.tables.specs.Numbering.{table_placed_text, table_wire, table_wired_layer, table_single_wired_layer}
use Rattle.account.specs.Numbering.{block_top, block_file, block_drawing, block_layer_names, block_defines, block_symbol, block_hide, block_elements, block_figures}
use Rattle.account.specs.Numbering.{block_chain, block_text, block_placed, block_wire, inner_wire}

-- n more bytes, and another block is open
abbrev pub moved : Pen → ℕ → ℕ → ℕ → Pen
moved p n block part = record { block = block; part = part; layered = p.layered; start = p.start; at = p.at + n }

-- a block whose inner lines are written before its own begins behind its first line
abbrev pub begun : Pen → ℕ → ℕ → Pen
begun p n block = record { block = block; part = 0; layered = p.layered; start = p.at + n; at = p.at + n }

abbrev pub among_figures : Pen → ℕ → Bool → Pen
among_figures p n layered = record { block = block_figures; part = 0; layered = layered; start = p.start; at = p.at + n }

-- does a row hold an opener alone?
abbrev pub is_opener : Kind → Bool
is_opener (values p ps a) = false
is_opener (text n b) = false
is_opener (word n b) = false
is_opener volume_name = false
is_opener sheet = false
is_opener ratio = false
is_opener serials = false
is_opener wire_serial = false
is_opener symbol_circle = false
is_opener nothing = false
is_opener (opens i) = true
is_opener (headed i p) = false
is_opener (either i) = false

-- ── the lines that are written at once; the others are noted till their block closes ──
-- DRAWING_FORMAT: `layer_name` alone
abbrev pub is_names : ℕ → Bool
is_names j = eqb j 7

-- a symbol: `element` and `hide`
abbrev pub is_part : ℕ → Bool
is_part j = eqb j 1 || eqb j 2

-- a wire: its elements
abbrev pub is_element : ℕ → ℕ → Bool
is_element part j = eqb part 0 && ltb j first_group_row

-- by the block that is open and the row's number
abbrev pub at_once : Pen → ℕ → Bool
at_once p j =
    cond (eqb p.block block_drawing) (is_names j)
    (cond (eqb p.block block_symbol) (is_part j)
    (cond (eqb p.block block_wire) (is_element p.part j)
    (not (eqb p.block block_file || (eqb p.block block_text || eqb p.block block_placed)))))

-- ── the block that is open behind a line with a key ──
abbrev pub top_pen : Pen → ℕ → ℕ → Pen
top_pen p j n =
    cond (eqb j 0) (moved p n block_file 0) (cond (eqb j 1) (begun p n block_drawing) (cond (eqb j 2) (moved p n block_defines 0) (moved p n block_elements 0)))

abbrev pub file_pen : Pen → Bool → ℕ → Pen
file_pen p opened inner = cond opened (moved p 0 block_file inner) p

abbrev pub drawing_pen : Pen → ℕ → ℕ → Pen
drawing_pen p j n = cond (is_names j) (moved p n block_layer_names 0) p

abbrev pub defines_pen : Pen → ℕ → ℕ → Pen
defines_pen p j n = cond (eqb j 0) (moved p n block_defines 0) (begun p n block_symbol)

abbrev pub symbol_pen : Pen → ℕ → ℕ → Pen
symbol_pen p j n = cond (eqb j 1) (among_figures p n false) (cond (eqb j 2) (moved p n block_hide 0) p)

-- a figure that is a block, by its number in the table: `successive`, text, a wire, a placed symbol
abbrev pub figure_block : Kind → ℕ → ℕ
figure_block d inner =
    cond (is_opener d) (cond (eqb inner 1) block_chain (cond (eqb inner 2) block_text (cond (eqb inner inner_wire) block_wire block_placed))) block_figures

abbrev pub placed_pen : Pen → Kind → Pen
placed_pen p d = cond (is_opener d) (moved p 0 block_placed 1) p

abbrev pub wire_pen : Pen → ℕ → Kind → ℕ → Pen
wire_pen p j d n = cond (is_element p.part j) (moved p n block_wire 0) (cond (is_opener d) (moved p 0 block_wire 1) p)

-- d: what the row holds; opened: whether the line opens the inner block of that number; n: how many bytes were written
abbrev pub key_pen : Pen → ℕ → Kind → Bool → ℕ → ℕ → Pen
key_pen p j d opened inner n =
    cond (eqb p.block block_figures) (moved p n (figure_block d inner) 0)
    (cond (eqb p.block block_chain) (moved p n block_chain 0)
    (cond (eqb p.block block_wire) (wire_pen p j d n)
    (cond (eqb p.block block_text) p
    (cond (eqb p.block block_placed) (placed_pen p d)
    (cond (eqb p.block block_top) (top_pen p j n)
    (cond (eqb p.block block_file) (file_pen p opened inner)
    (cond (eqb p.block block_drawing) (drawing_pen p j n)
    (cond (eqb p.block block_defines) (defines_pen p j n)
    (cond (eqb p.block block_symbol) (symbol_pen p j n)
    (cond (eqb p.block block_hide) (moved p n block_hide 0)
    (among_figures p n true)))))))))))

-- ── tables ──
-- of FILE_FORMAT's part
abbrev pub file_table_of : Bool → ℕ → ℕ
file_table_of first part =
    cond first
    (cond (eqb part 0) table_file (cond (eqb part 1) table_range (cond (eqb part 2) table_base (cond (eqb part 3) table_elec table_sym)))) table_later

-- of the figures in a layer: a placed symbol is a block there, or one line. Wires may stand there: where E_wire is 000 none does in a set that
-- was accepted, and the other rows are the same.
abbrev pub figure_table_of : Bool → Bool → ℕ
figure_table_of layered brace = cond layered (cond brace table_wired_layer table_single_wired_layer) table_figures

-- of the block that is open; brace: the line has `:{` behind its key
abbrev pub table_for : Bool → Pen → Bool → ℕ
table_for first p brace =
    cond (eqb p.block block_figures) (figure_table_of p.layered brace)
    (cond (eqb p.block block_chain) (cond p.layered table_layer_points table_symbol_points)
    (cond (eqb p.block block_wire) (cond (eqb p.part 0) table_wire table_layer_text)
    (cond (eqb p.block block_text) (cond p.layered table_layer_text table_symbol_text)
    (cond (eqb p.block block_placed) (cond (eqb p.part 0) table_placed table_placed_text)
    (cond (eqb p.block block_top) table_top
    (cond (eqb p.block block_file) (file_table_of first p.part)
    (cond (eqb p.block block_drawing) table_drawing
    (cond (eqb p.block block_defines) table_defines
    (cond (eqb p.block block_symbol) table_symbol
    (cond (eqb p.block block_hide) table_symbol_points table_element))))))))))
