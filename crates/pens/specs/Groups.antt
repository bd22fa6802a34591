-- What the code promises of a pass over a wire's lines, and of all keys of the wire.
use Rattle.std.specs.Prelude.{ℕ, zero, suc, ◌+◌, ◌≤◌, ◌<◌, Bool, true, false, cond, ◌≡◌, List, [], ◌∷◌, ◌++◌, eqb, get_or, Option, Some, None, Result}
use Rattle.rules.specs.declared.Span.{Span}
use Rattle.rules.specs.declared.LineForm.{LineForm}
use Rattle.rules.specs.declared.LineForm.TheVariants as L
use Rattle.rules.specs.Base.{bytes}
use Rattle.rules.specs.Lines.{Form, bytes_at, form_in}
use Rattle.rules.specs.Values.{Value, Known}
use Rattle.rules.specs.Rows.{Slots, find}
use Rattle.rules.specs.Figures.{wire_table, wire_text_table, wire_text_row, first_group_row}
use Rattle.rules.specs.RecordTable.{rule_at}
use Rattle.rules.specs.FixedForm.{Text, no_inner, show_slot, show_slots}
use Rattle.tables.specs.declared.Row.{Row}
use Rattle.tables.specs.Rows.{found_of, found_for_line}
use Rattle.tables.specs.Tables.{table_of}
use Rattle.tables.specs.Numbering.{table_layer_text, table_wire}
use Rattle.entries.specs.declared.Rest.{Rest}
use Rattle.entries.specs.declared.Rest.TheVariants as R
use Rattle.entries.specs.Shapes.{rest_in}
use Rattle.prints.specs.Printing.{Prints}
use Rattle.prints.specs.Reading.{PrintsRow}
use Rattle.account.specs.Numbering.{rows_wire}
use Rattle.pens.specs.declared.groups.Opened.{Opened}
use Rattle.pens.specs.Texts.{line_bytes}
use Rattle.pens.specs.Noting.{note_of, notes_from, Noted, NotedRows}
use Rattle.pens.specs.Keys.{PlacedCode}
use Rattle.pens.specs.Passing.{LinesAt, forms_of, Amid, outside, inside, Pass}
use Rattle.leaves.specs.declared.NoRoom.{NoRoom}

-- ── what is open, in code ──
abbrev pub no_text : Opened
no_text = record { text = false; first = 0; second = 0 }

-- the table of the lines there
abbrev pub table_amid : Opened → ℕ
table_amid o = cond o.text table_layer_text table_wire

-- the notes of the open text's rows, where those of such a table stand
abbrev pub text_notes : Opened → List ℕ
text_notes o = 0 ∷ 0 ∷ 0 ∷ 0 ∷ o.first ∷ o.second ∷ []

abbrev pub Holds : List ℕ → Known → Amid → Opened → Type 0
Holds spool k outside o = o.text ≡ false
Holds spool k (inside s) o = (o.text ≡ true) × NotedRows spool k wire_text_table (notes_from table_layer_text) (text_notes o) s

abbrev pub noted_row : Opened → ℕ → ℕ → Opened
noted_row o number note =
    cond (eqb number 0) (record { text = true; first = note; second = o.second }) (record { text = true; first = o.first; second = note })

-- ── a line's form ──
abbrev pub is_close : LineForm → Bool
is_close L.Ignored = false
is_close L.Close = true
is_close L.Eof = false
is_close (L.Opens o) = false
is_close (L.Equals q) = false
is_close (L.Refused r) = false

abbrev pub rest_here : LineForm → Rest
rest_here L.Ignored = R.Brace
rest_here L.Close = R.Brace
rest_here L.Eof = R.Brace
rest_here (L.Opens o) = R.Brace
rest_here (L.Equals q) = R.Equals q.rest
rest_here (L.Refused r) = R.Brace

-- the row of its key
abbrev pub FoundUnder : List ℕ → Opened → Span → Option Row → Type 0
FoundUnder spool o key g = found_for_line (find (bytes_at spool key) (table_of (table_amid o))) ≡ found_of g

abbrev pub FoundHere : List ℕ → Opened → LineForm → Option Row → Type 0
FoundHere spool o L.Ignored g = g ≡ None
FoundHere spool o L.Close g = g ≡ None
FoundHere spool o L.Eof g = g ≡ None
FoundHere spool o (L.Opens x) g = FoundUnder spool o x.key g
FoundHere spool o (L.Equals x) g = FoundUnder spool o x.key g
FoundHere spool o (L.Refused r) g = g ≡ None

-- what is open behind it
abbrev pub opened_found : Opened → LineForm → Option Row → Opened
opened_found o f None = o
opened_found o f (Some row) =
    cond o.text (noted_row o row.number (note_of (rest_here f))) (record { text = eqb row.number wire_text_row; first = 0; second = 0 })

abbrev pub opened_behind : Opened → LineForm → Option Row → Opened
opened_behind o f g = cond (is_close f) no_text (opened_found o f g)

-- ── what is written of one line ──
abbrev pub PrintsText : List ℕ → Opened → List ℕ → List ℕ → Result ℕ NoRoom → Type 0
PrintsText spool o before after r =
    (k : Known) (s : Slots) → NotedRows spool k wire_text_table (notes_from table_layer_text) (text_notes o) s
    → Prints (line_bytes (show_slots k wire_text_table s no_inner (bytes "}" ∷ []))) before after r

-- j: the row that is written
pub record PrintsOwn (spool : List ℕ) (j : ℕ) (o : Opened) (row : Row) (rest : Rest) (before after : List ℕ) (r : Result ℕ NoRoom) : Type 0 where
  pub in-text : o.text ≡ true → Prints [] before after r
  pub other : o.text ≡ false → eqb row.number j ≡ false → Prints [] before after r
  pub mine : o.text ≡ false → eqb row.number j ≡ true → PrintsRow table_wire row (rest_in spool rest) before after r

pub record PrintsShut (spool : List ℕ) (j : ℕ) (o : Opened) (before after : List ℕ) (r : Result ℕ NoRoom) : Type 0 where
  pub wire : o.text ≡ false → Prints [] before after r
  pub other : o.text ≡ true → eqb j wire_text_row ≡ false → Prints [] before after r
  pub mine : o.text ≡ true → eqb j wire_text_row ≡ true → PrintsText spool o before after r

-- The text of a line is written, and what the lines behind write (on) comes behind it; o: what is open there.
pub record Printed (spool : List ℕ) (k : Known) (on : Amid → Text → Type 0) (o : Opened) (over : Bool) (t : Text) (before after : List ℕ) (r : Result ℕ NoRoom) : Type 0 where
  pub text : Text
  pub rest : Text
  pub is : t ≡ text ++ rest
  pub prints : Prints (line_bytes text) before after r
  pub behind : Amid
  pub holds : Holds spool k behind o
  pub goes : over ≡ false → on behind rest
  pub ends : over ≡ true → rest ≡ []

-- the wire's own `}`
abbrev pub is_over : Opened → LineForm → Bool
is_over o f = cond (is_close f) (cond o.text false true) false

abbrev pub PrintsLine : List ℕ → ℕ → Opened → LineForm → Option Row → List ℕ → List ℕ → Result ℕ NoRoom → Type 0
PrintsLine spool j o f g before after r =
    (k : Known) (fs : List Form) (a : Amid) (t : Text) → PlacedCode f → FoundHere spool o f g → Holds spool k a o
    → Pass k j (form_in spool f ∷ fs) a t
    → Printed spool k (Pass k j fs) (opened_behind o f g) (is_over o f) t before after r

-- ── all lines of a row ──
abbrev pub PrintsPass : List ℕ → List ℕ → ℕ → ℕ → ℕ → List ℕ → List ℕ → Result ℕ NoRoom → Type 0
PrintsPass spool body start from j before after r =
    (k : Known) (ls : List (List ℕ)) (t : Text) → LinesAt spool body start from ls → Pass k j (forms_of from ls) outside t → Prints (line_bytes t) before after r

-- ── all keys of a wire, of which a row j that stands once is noted, and of one that repeats that it stands there ──
-- t: the text of each row
pub record WireKeys (spool body : List ℕ) (start from : ℕ) (k : Known) (ns : List ℕ) (t : ℕ → Text) : Type 0 where
  pub lines : List (List ℕ)
  pub there : LinesAt spool body start from lines
  pub passes : (j : ℕ) → first_group_row ≤ j → j ≤ wire_text_row → Pass k j (forms_of from lines) outside (t j)
  pub absent : (j : ℕ) → first_group_row ≤ j → j ≤ wire_text_row → get_or ns (notes_from table_wire + j) 0 ≡ 0 → t j ≡ []
  pub value : ℕ → Option Value
  pub noted : (j : ℕ) → wire_text_row < j → j < rows_wire → Noted spool k (rule_at wire_table j) (get_or ns (notes_from table_wire + j) 0) (value j)
  pub once : (j : ℕ) → wire_text_row < j → j < rows_wire → t j ≡ show_slot k (rule_at wire_table j) (value j) no_inner []

abbrev pub PrintsLines : List ℕ → List ℕ → ℕ → ℕ → ℕ → List ℕ → List ℕ → List ℕ → Result ℕ NoRoom → Type 0
PrintsLines spool body start from j ns before after r =
    (k : Known) (t : ℕ → Text) → first_group_row ≤ j → j < rows_wire → WireKeys spool body start from k ns t → Prints (line_bytes (t j)) before after r

-- n of them, one behind the other
abbrev pub keys_text : (ℕ → Text) → ℕ → Text
keys_text t zero = []
keys_text t (suc n) = keys_text t n ++ t (first_group_row + n)

abbrev pub key_rows : ℕ
key_rows = 8

abbrev pub PrintsKeys : List ℕ → List ℕ → ℕ → ℕ → List ℕ → List ℕ → List ℕ → Result ℕ NoRoom → Type 0
PrintsKeys spool body start from ns before after r =
    (k : Known) (t : ℕ → Text) → WireKeys spool body start from k ns t → Prints (line_bytes (keys_text t key_rows)) before after r
