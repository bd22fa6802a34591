-- Rows whose lines are noted where they stand, and written when their block closes.
use Rattle.std.specs.Prelude.{ℕ, zero, suc, ◌+◌, ◌*◌, ◌/◌, ◌%◌, ◌<◌, true, false, cond, ◌&&◌, ◌||◌, ◌≡◌, List, [], ◌∷◌, eqb, ltb, length, get_or, set, take, replicate, Option, Some, None}
use Rattle.rules.specs.Lines.{Rest, brace, equals, span, bytes_at}
use Rattle.rules.specs.Values.{Value, Known, Kind}
use Rattle.rules.specs.Rows.{Rule, Slots, Held, part_of}
use Rattle.rules.specs.Blocks.{file_tables, drawing_table}
use Rattle.rules.specs.Figures.{text_table, placed_tables}
use Rattle.rules.specs.RecordTable.{rule_at}
use Rattle.rules.specs.FixedForm.{Text, no_inner, show_inner}
use Rattle.entries.specs.declared.Rest.{Rest as CodeRest}
use Rattle.entries.specs.declared.Rest.TheVariants as R
use Rattle.prints.specs.Reading.{Reads}
use Rattle.pens.specs.declared.Pen.{Pen}
use Rattle.pens.specs.Moves.{is_opener, at_once, figure_block}
use Rattle.tables.specs.Numbering.{table_file, table_range, table_base, table_elec, table_sym, table_later, table_drawing, table_layer_text, table_symbol_text}
use Rattle.tables.specs.Numbering.{table_placed, table_placed_text, table_wire}
use Rattle.account.specs.Numbering.{block_top, block_defines, block_figures, block_text, block_placed, block_wire}

-- ── a note: what follows a line's key, in one number that is never 0 ──
abbrev pub note_of : CodeRest → ℕ
note_of R.Brace = 1
note_of (R.Equals p) = cond (ltb p.at 65536 && ltb p.len 65536) (p.at + 65536 * p.len) 1

abbrev pub rest_of : List ℕ → Kind → ℕ → Rest
rest_of spool d n = cond (is_opener d) brace (equals (n % 65536) (bytes_at spool (span (n % 65536) (n / 65536))))

-- ── where the notes of a table's rows stand ──
abbrev pub notes_from : ℕ → ℕ
notes_from t =
    cond (eqb t table_range) 16
    (cond (eqb t table_base) 22
    (cond (eqb t table_elec) 23
    (cond (eqb t table_sym) 26
    (cond (eqb t table_layer_text) 4
    (cond (eqb t table_symbol_text) 4
    (cond (eqb t table_placed_text) 6
    (cond (eqb t table_wire) 6 0)))))))

-- how many rows are noted
abbrev pub rows_in : ℕ → ℕ
rows_in t =
    cond (eqb t table_file) 16
    (cond (eqb t table_range) 6
    (cond (eqb t table_base) 1
    (cond (eqb t table_elec) 3
    (cond (eqb t table_sym) 2
    (cond (eqb t table_later) 5
    (cond (eqb t table_drawing) 7
    (cond (eqb t table_placed) 6 2)))))))

-- ── the notes behind a line with a key ──
abbrev pub forgotten : List ℕ → List ℕ
forgotten ns = replicate (length ns) 0

abbrev pub text_forgotten : List ℕ → List ℕ
text_forgotten ns = set (set ns 4 0) 5 0

abbrev pub figure_notes : ℕ → List ℕ → List ℕ
figure_notes block ns = cond (eqb block block_text) (text_forgotten ns) (cond (eqb block block_placed || eqb block block_wire) (forgotten ns) ns)

-- t: the number of the block's table; j: the row's number in it, d: what it holds
abbrev pub key_notes : Pen → ℕ → ℕ → Kind → ℕ → ℕ → List ℕ → List ℕ
key_notes p t j d inner n ns =
    cond (eqb p.block block_figures) (figure_notes (figure_block d inner) ns)
    (cond (eqb p.block block_top) (forgotten ns)
    (cond (eqb p.block block_defines) (cond (eqb j 0) ns (forgotten ns))
    (cond (at_once p j) ns (set ns (notes_from t + j) n))))

-- ── what notes stand for ──
-- k: what is known
module _ (spool : List ℕ) (k : Known) where
  abbrev pub Noted : Rule → ℕ → Option Value → Type 0
  Noted r n None = n ≡ 0
  Noted r n (Some v) = (0 < n) × Reads k r (rest_of spool r.holds n) v

  -- the rows of a table, their notes from a place on
  pub record NotedRows (t : List Rule) (from : ℕ) (ns : List ℕ) (s : Slots) : Type 0 where
    pub long : length s ≡ length t
    pub rows : (j : ℕ) → j < length t → Noted (rule_at t j) (get_or ns (from + j) 0) (get_or s j None)

-- ── a block's parts ──
-- the tables of the parts that are noted together, by the first one's number: FILE_FORMAT's, DRAWING_FORMAT's rows before `layer_name`,
-- a text's, a placed symbol's
abbrev pub tables_of : ℕ → List (List Rule)
tables_of b =
    cond (eqb b table_file) (file_tables true)
    (cond (eqb b table_later) (file_tables false)
    (cond (eqb b table_drawing) (take 7 drawing_table ∷ [])
    (cond (eqb b table_layer_text) (text_table true 4 12 ∷ [])
    (cond (eqb b table_symbol_text) (text_table false 4 12 ∷ []) placed_tables))))

-- the number of a part's table
abbrev pub part_table : ℕ → ℕ → ℕ
part_table b p =
    cond (eqb p 0) b
    (cond (eqb b table_file) (cond (eqb p 1) table_range (cond (eqb p 2) table_base (cond (eqb p 3) table_elec table_sym))) table_placed_text)

-- all parts' rows are noted
pub record NotedParts (spool : List ℕ) (k : Known) (b : ℕ) (ns : List ℕ) (h : Held) : Type 0 where
  pub parts : (p : ℕ) → p < length (tables_of b) → NotedRows spool k (get_or (tables_of b) p []) (notes_from (part_table b p)) ns (part_of h p)

-- parts in each other, so many deep
abbrev pub show_depth : Known → List (List Rule) → Held → ℕ → ℕ → Text → Text
show_depth k ts h zero = no_inner
show_depth k ts h (suc d) = show_inner k ts h (show_depth k ts h d)
