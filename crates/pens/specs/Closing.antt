-- What a line `}` does, by the block that is open.
use Rattle.std.specs.Prelude.{ℕ, suc, ◌+◌, Bool, cond, ◌&&◌, ◌||◌, not, eqb, ◌≡◌, List, [], ◌++◌, length, get_or, take, Option, Some, None, Result, Ok}
use Rattle.rules.specs.Base.{bytes}
use Rattle.rules.specs.Values.{Value, Known}
use Rattle.rules.specs.Rows.{Rule, Slots, Held}
use Rattle.rules.specs.Blocks.{drawing_table, symbol_table, around}
use Rattle.rules.specs.RecordTable.{rule_at}
use Rattle.rules.specs.FixedForm.{Text, no_inner, line_of, show_slots}
use Rattle.pens.specs.declared.Pen.{Pen}
use Rattle.pens.specs.Texts.{ended, line_bytes, Draws, Inserts}
use Rattle.pens.specs.Moves.{moved}
use Rattle.pens.specs.Noting.{Noted, NotedRows, tables_of, NotedParts, show_depth}
use Rattle.pens.specs.Groups.{WireKeys, keys_text, key_rows}
use Rattle.tables.specs.Numbering.{table_file, table_later, table_layer_text, table_symbol_text, table_placed}
use Rattle.account.specs.Numbering.{block_top, block_file, block_drawing, block_layer_names, block_defines, block_symbol, block_hide, block_elements, block_figures}
use Rattle.account.specs.Numbering.{block_chain, block_text, block_placed, block_wire}
use Rattle.leaves.specs.declared.NoRoom.{NoRoom}

abbrev pub shut_bytes : List ℕ
shut_bytes = ended (bytes "}")

-- the block around
abbrev pub Shuts : Pen → ℕ → List ℕ → List ℕ → Result Pen NoRoom → Type 0
Shuts p block before after d = Draws shut_bytes p.at (moved p 3 block 0) before after d

-- the rows of a block, in the order of its tables, and its `}`
abbrev pub rows_bytes : Known → ℕ → Held → List ℕ
rows_bytes k b h = line_bytes (show_depth k (tables_of b) h 3 0 []) ++ shut_bytes

abbrev pub ShutsRows : List ℕ → ℕ → Pen → ℕ → List ℕ → List ℕ → List ℕ → Result Pen NoRoom → Type 0
ShutsRows spool b p block ns before after d =
    (k : Known) (h : Held) → NotedParts spool k b ns h → Draws (rows_bytes k b h) p.at (moved p (length (rows_bytes k b h)) block 0) before after d

-- an inner part closes: nothing is written
abbrev pub ShutsPart : Pen → ℕ → ℕ → List ℕ → List ℕ → Result Pen NoRoom → Type 0
ShutsPart p block part before after d = (d ≡ Ok (moved p 0 block part)) × (after ≡ before)

-- DRAWING_FORMAT: its rows come before `layer_name`
abbrev pub drawing_rows : Known → Slots → List ℕ
drawing_rows k s = line_bytes (show_slots k (take 7 drawing_table) s no_inner [])

abbrev pub ShutsDrawing : List ℕ → Pen → List ℕ → List ℕ → List ℕ → Result Pen NoRoom → Type 0
ShutsDrawing spool p ns before after d =
    (k : Known) (s : Slots) → NotedRows spool k (take 7 drawing_table) 0 ns s
    → Inserts (drawing_rows k s) shut_bytes p.start p.at (moved p (length (drawing_rows k s) + 3) block_top 0) before after d

-- a symbol: its name comes before its `element` and `hide`, `wall` behind them
abbrev pub row_bytes : Known → Rule → Option Value → List ℕ
row_bytes k r None = []
row_bytes k r (Some v) = ended (line_of k r v)

abbrev pub ShutsSymbol : List ℕ → Pen → List ℕ → List ℕ → List ℕ → Result Pen NoRoom → Type 0
ShutsSymbol spool p ns before after d =
    (k : Known) (a b : Option Value) → Noted spool k (rule_at symbol_table 0) (get_or ns 0 0) a → Noted spool k (rule_at symbol_table 3) (get_or ns 3 0) b
    → Inserts (row_bytes k (rule_at symbol_table 0) a) (row_bytes k (rule_at symbol_table 3) b ++ shut_bytes) p.start p.at
    (moved p (length (row_bytes k (rule_at symbol_table 0) a) + (length (row_bytes k (rule_at symbol_table 3) b) + 3)) block_defines 0) before after d

-- a wire: its rows behind its elements; t: the text of each
abbrev pub wire_bytes : (ℕ → Text) → List ℕ
wire_bytes t = line_bytes (keys_text t key_rows) ++ shut_bytes

abbrev pub ShutsWire : List ℕ → List ℕ → ℕ → ℕ → Pen → List ℕ → List ℕ → List ℕ → Result Pen NoRoom → Type 0
ShutsWire spool body start from p ns before after d =
    (k : Known) (t : ℕ → Text) → WireKeys spool body start from k ns t
    → Draws (wire_bytes t) p.at (moved p (length (wire_bytes t)) block_figures 0) before after d

-- the block around one whose `}` is all that is written
abbrev pub around_block : Pen → ℕ
around_block p =
    cond (eqb p.block block_figures) (cond p.layered block_elements block_symbol)
    (cond (eqb p.block block_chain) block_figures
    (cond (eqb p.block block_layer_names) block_drawing (cond (eqb p.block block_hide) block_symbol block_top)))

-- an inner part of FILE_FORMAT, of a placed symbol or of a wire is open
abbrev pub in_part : Pen → Bool
in_part p = not (eqb p.part 0) && (eqb p.block block_file || (eqb p.block block_wire || eqb p.block block_placed))

abbrev pub part_closed : Pen → Pen
part_closed p =
    cond (eqb p.block block_file) (moved p 0 block_file (around p.part))
    (cond (eqb p.block block_wire) (moved p 0 block_wire 0) (moved p 0 block_placed 0))

-- by the block that is open; of a wire, that its text closes
pub record CloseDone (spool : List ℕ) (first : Bool) (p : Pen) (ns before after : List ℕ) (d : Result Pen NoRoom) : Type 0 where
  pub figures : p.block ≡ block_figures → Shuts p (cond p.layered block_elements block_symbol) before after d
  pub chain : p.block ≡ block_chain → Shuts p block_figures before after d
  pub wire-text : p.block ≡ block_wire → (i : ℕ) → p.part ≡ suc i → ShutsPart p block_wire 0 before after d
  pub text : p.block ≡ block_text → ShutsRows spool (cond p.layered table_layer_text table_symbol_text) p block_figures ns before after d
  pub placed : p.block ≡ block_placed → p.part ≡ 0 → ShutsRows spool table_placed p block_figures ns before after d
  pub placed-text : p.block ≡ block_placed → (i : ℕ) → p.part ≡ suc i → ShutsPart p block_placed 0 before after d
  pub file : p.block ≡ block_file → p.part ≡ 0 → ShutsRows spool (cond first table_file table_later) p block_top ns before after d
  pub file-part : p.block ≡ block_file → (i : ℕ) → p.part ≡ suc i → ShutsPart p block_file (around (suc i)) before after d
  pub drawing : p.block ≡ block_drawing → ShutsDrawing spool p ns before after d
  pub names : p.block ≡ block_layer_names → Shuts p block_drawing before after d
  pub defines : p.block ≡ block_defines → Shuts p block_top before after d
  pub symbol : p.block ≡ block_symbol → ShutsSymbol spool p ns before after d
  pub hide : p.block ≡ block_hide → Shuts p block_symbol before after d
  pub elements : p.block ≡ block_elements → Shuts p block_top before after d

-- and that it closes itself
abbrev pub WireDone : List ℕ → List ℕ → ℕ → ℕ → Pen → List ℕ → List ℕ → List ℕ → Result Pen NoRoom → Type 0
WireDone spool body start from p ns before after d = p.block ≡ block_wire → p.part ≡ 0 → ShutsWire spool body start from p ns before after d
