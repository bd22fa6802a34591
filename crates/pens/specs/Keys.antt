-- What a line with a key does, by the block that is open.
use Rattle.std.specs.Prelude.{ℕ, ◌<◌, Bool, true, false, cond, ◌≡◌, List, [], ◌∷◌, ◌++◌, length, Result}
use Rattle.rules.specs.declared.LineForm.{LineForm}
use Rattle.rules.specs.declared.LineForm.TheVariants as L
use Rattle.rules.specs.declared.Span.{Span}
use Rattle.rules.specs.Base.{bytes}
use Rattle.rules.specs.RefusalNumbers.{got}
use Rattle.rules.specs.Lines.{free_shape_of, bytes_at}
use Rattle.rules.specs.Values.{Value, Known, chars_of}
use Rattle.rules.specs.Rows.{Rule, found, find, inner_of}
use Rattle.rules.specs.Machine.{layer_value}
use Rattle.rules.specs.FixedForm.{opens_block, line_of}
use Rattle.tables.specs.Tables.{table_of}
use Rattle.entries.specs.declared.Rest.{Rest}
use Rattle.entries.specs.declared.Rest.TheVariants as R
use Rattle.entries.specs.Shapes.{rest_in}
use Rattle.prints.specs.Reading.{Reads}
use Rattle.pens.specs.declared.Pen.{Pen}
use Rattle.pens.specs.Texts.{ended, Draws}
use Rattle.pens.specs.Moves.{moved, at_once, key_pen, table_for}
use Rattle.pens.specs.Noting.{note_of, key_notes}
use Rattle.account.specs.Numbering.{block_top, block_layer_names}
use Rattle.leaves.specs.declared.NoRoom.{NoRoom}

abbrev pub is_brace : Rest → Bool
is_brace R.Brace = true
is_brace (R.Equals p) = false

-- what is written of it at once
abbrev pub key_text : Pen → ℕ → List ℕ → List ℕ
key_text p j l = cond (at_once p j) (ended l) []

-- t: the number of the block's table
pub record KeyDone (t : ℕ) (p : Pen) (rest : Rest) (k : Known) (j : ℕ) (r : Rule) (v : Value) (ns₀ ns₁ before after : List ℕ) (d : Result Pen NoRoom) : Type 0 where
  pub draws :
      Draws (key_text p j (line_of k r v)) p.at
      (key_pen p j r.holds (opens_block r.holds v) (inner_of r.holds) (length (key_text p j (line_of k r v)))) before after d
  pub notes : ns₁ ≡ key_notes p t j r.holds (inner_of r.holds) (note_of rest) ns₀

-- for any row of the table that has the key, and any value that the line reads as; in any block but `layer_name`
abbrev pub KeyLine : List ℕ → Bool → Span → Rest → Pen → List ℕ → List ℕ → List ℕ → List ℕ → Result Pen NoRoom → Type 0
KeyLine spool first key rest p ns₀ ns₁ before after d =
    (k : Known) (j : ℕ) (r : Rule) (v : Value) → find (bytes_at spool key) (table_of (table_for first p (is_brace rest))) ≡ found j r
    → Reads k r (rest_in spool rest) v
    → KeyDone (table_for first p (is_brace rest)) p rest k j r v ns₀ ns₁ before after d

-- in `layer_name`: the id and the name
abbrev pub named_text : List ℕ → Value → List ℕ
named_text id v = ended (id ++ 61 ∷ chars_of v)

abbrev pub NamedLine : List ℕ → Span → Rest → Pen → List ℕ → List ℕ → Result Pen NoRoom → Type 0
NamedLine spool key rest p before after d =
    (v : Value) → layer_value (bytes_at spool key) (free_shape_of (rest_in spool rest)) ≡ got v
    → Draws (named_text (bytes_at spool key) v) p.at (moved p (length (named_text (bytes_at spool key) v)) block_layer_names 0) before after d

-- "The last line of the last volume is `EOF`"
abbrev pub EofLine : Pen → List ℕ → List ℕ → Result Pen NoRoom → Type 0
EofLine p before after d = Draws (ended (bytes "EOF")) p.at (moved p 5 block_top 0) before after d

-- the places of a line are those of a spool
abbrev pub PlacedRest : Rest → Type 0
PlacedRest R.Brace = Unit {0}
PlacedRest (R.Equals q) = (0 < q.at) × (q.at < 65536) × (q.len < 65536)

abbrev pub PlacedCode : LineForm → Type 0
PlacedCode L.Ignored = Unit {0}
PlacedCode L.Close = Unit {0}
PlacedCode L.Eof = Unit {0}
PlacedCode (L.Opens o) = Unit {0}
PlacedCode (L.Equals q) = PlacedRest (R.Equals q.rest)
PlacedCode (L.Refused r) = Unit {0}
