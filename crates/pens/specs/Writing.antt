-- What the code promises of the rows that it writes, and of a line's writer in any case.
use Rattle.std.specs.Prelude.{ℕ, zero, suc, ◌<◌, ◌≤◌, Bool, true, cond, ◌||◌, ◌≡◌, List, [], ◌++◌, eqb, length, get_or, drop, Option, Some, None, Result}
use Rattle.rules.specs.Lines.{Rest}
use Rattle.rules.specs.Values.{Value, Known}
use Rattle.rules.specs.Rows.{Rule, Held, part_of, found, find, inner_of}
use Rattle.rules.specs.RecordTable.{rule_at}
use Rattle.rules.specs.FixedForm.{Text, opens_block, show_slot, show_slots}
use Rattle.leaves.specs.Writing.{put_memory}
use Rattle.tables.specs.declared.Row.{Row}
use Rattle.tables.specs.Rows.{kind_of, rule_of, for_line}
use Rattle.entries.specs.declared.Rest.{Rest as CodeRest}
use Rattle.entries.specs.Shapes.{rest_in}
use Rattle.tables.specs.Tables.{table_of}
use Rattle.prints.specs.Reading.{Reads}
use Rattle.keywords.specs.Keys.{key_at}
use Rattle.prints.specs.Printing.{Prints}
use Rattle.pens.specs.Texts.{line_bytes}
use Rattle.pens.specs.Noting.{rest_of, Noted, tables_of, part_table, NotedParts, show_depth}
use Rattle.pens.specs.Closing.{row_bytes, shut_bytes}
use Rattle.tables.specs.Numbering.{table_file, table_later, table_drawing, table_layer_text, table_symbol_text, table_placed}
use Rattle.leaves.specs.declared.NoRoom.{NoRoom}

-- the row q has this number in its table, and its key finds it
pub record Named (table number : ℕ) (q : Rule) : Type 0 where
  pub key : key_at (table_of table) number ≡ q.key
  pub found-so : find q.key (table_of table) ≡ found number q

-- the code's row is this one
pub record IsRow (table number : ℕ) (q : Rule) (row : Row) : Type 0 where
  pub rule : rule_of row ≡ for_line q
  pub key : q.key ≡ key_at (table_of table) row.number
  pub number_is : row.number ≡ number

-- the rest that a note stands for
abbrev pub RestIs : Row → ℕ → CodeRest → Type 0
RestIs row note r = (s : List ℕ) → rest_in s r ≡ rest_of s (kind_of row) note

-- a row by its number: where there is room for its key
abbrev pub FoundRow : ℕ → ℕ → Rule → Option Row → Type 0
FoundRow table number q None = ⊥
FoundRow table number q (Some row) = IsRow table number q row

pub record RowAt (table number : ℕ) (before after : List ℕ) (r : Option Row) : Type 0 where
  pub memory : after ≡ put_memory (key_at (table_of table) number) before
  pub row : (q : Rule) → Named table number q → length q.key ≤ length before → FoundRow table number q r
  pub none-there : (q : Rule) → Named table number q → length before < length q.key → r ≡ None

-- a line opens a block exactly where its value says so
abbrev pub Opens : Row → Rest → Bool → Type 0
Opens row c b = (k : Known) (q : Rule) (v : Value) → rule_of row ≡ for_line q → Reads k q c v → b ≡ opens_block q.holds v

-- one row, where it was noted
abbrev pub PrintsNoted : List ℕ → ℕ → ℕ → ℕ → List ℕ → List ℕ → Result ℕ NoRoom → Type 0
PrintsNoted spool table number note before after r =
    (k : Known) (q : Rule) (o : Option Value) → Named table number q → Noted spool k q note o → Prints (row_bytes k q o) before after r

-- what stands behind the place of a text is as it was
pub record Spared (text before after : List ℕ) : Type 0 where
  pub long : length after ≡ length before
  pub behind : length text ≤ length before → drop (length text) after ≡ drop (length text) before

-- the number of no table: what opens no inner part has none
abbrev pub no_table : ℕ
no_table = 255

-- the table of the inner part that a noted row opens
abbrev pub inner_table : ℕ → Rule → Option Value → ℕ
inner_table base q None = no_table
inner_table base q (Some v) = cond (opens_block q.holds v) (part_table base (inner_of q.holds)) no_table

-- where there is room for the row's line
abbrev pub TellsInner : List ℕ → ℕ → ℕ → ℕ → ℕ → List ℕ → List ℕ → ℕ → Type 0
TellsInner spool base table number note before after r =
    (k : Known) (q : Rule) (o : Option Value) → Named table number q → Noted spool k q note o
    → Spared (row_bytes k q o) before after × (length (row_bytes k q o) ≤ length before → r ≡ inner_table base q o)

-- the rows of part p from number j on
abbrev pub rows_from : Known → ℕ → Held → ℕ → ℕ → ℕ → Text
rows_from k base h zero p j = []
rows_from k base h (suc d) p j = show_slots k (drop j (get_or (tables_of base) p [])) (drop j (part_of h p)) (show_depth k (tables_of base) h d) []

-- the numbers of the tables whose parts are noted together
abbrev pub noted_base : ℕ → Bool
noted_base b =
    eqb b table_file
    || (eqb b table_later || (eqb b table_drawing || (eqb b table_layer_text || (eqb b table_symbol_text || eqb b table_placed))))

abbrev pub PrintsRows : List ℕ → ℕ → ℕ → ℕ → ℕ → List ℕ → List ℕ → List ℕ → Result ℕ NoRoom → Type 0
PrintsRows spool depth base table j ns before after r =
    noted_base base ≡ true → (k : Known) (h : Held) (p : ℕ) → NotedParts spool k base ns h → p < length (tables_of base) → table ≡ part_table base p
    → Prints (line_bytes (rows_from k base h depth p j)) before after r

-- row j of part p, with the inner part that it opens
abbrev pub slot_text : Known → ℕ → Held → ℕ → ℕ → ℕ → Text
slot_text k base h d p j = show_slot k (rule_at (get_or (tables_of base) p []) j) (get_or (part_of h p) j None) (show_depth k (tables_of base) h d) []

abbrev pub PrintsSlot : List ℕ → ℕ → ℕ → ℕ → ℕ → List ℕ → List ℕ → List ℕ → Result ℕ NoRoom → Type 0
PrintsSlot spool depth base table j ns before after r =
    noted_base base ≡ true → (k : Known) (h : Held) (p : ℕ) → NotedParts spool k base ns h → p < length (tables_of base) → table ≡ part_table base p
    → j < length (get_or (tables_of base) p []) → Prints (line_bytes (slot_text k base h depth p j)) before after r

-- the inner part of a table and its `}`; nothing where there is no table
abbrev pub PrintsPart : List ℕ → ℕ → ℕ → ℕ → List ℕ → List ℕ → List ℕ → Result ℕ NoRoom → Type 0
PrintsPart spool depth base inner ns before after r =
    (inner ≡ no_table → Prints [] before after r)
    × (noted_base base ≡ true → (k : Known) (h : Held) (p : ℕ) → NotedParts spool k base ns h → p < length (tables_of base) → inner ≡ part_table base p
    → Prints (line_bytes (rows_from k base h depth p 0) ++ shut_bytes) before after r)
