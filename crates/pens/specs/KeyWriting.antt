-- What the code promises of a line with a key in each block, for the row that it was found under.
use Rattle.std.specs.Prelude.{ℕ, Bool, ◌≡◌, List, length, Result}
use Rattle.rules.specs.declared.Span.{Span}
use Rattle.rules.specs.Values.{Value, Known}
use Rattle.rules.specs.Rows.{Rule}
use Rattle.rules.specs.FixedForm.{line_of}
use Rattle.tables.specs.declared.Row.{Row}
use Rattle.entries.specs.declared.Rest.{Rest}
use Rattle.entries.specs.Shapes.{rest_in}
use Rattle.prints.specs.Reading.{Reads}
use Rattle.pens.specs.declared.Pen.{Pen}
use Rattle.pens.specs.Texts.{ended, Draws, SafeAfter}
use Rattle.pens.specs.Writing.{IsRow}
use Rattle.pens.specs.Keys.{KeyDone, KeyLine, NamedLine}
use Rattle.account.specs.Numbering.{block_layer_names}
use Rattle.leaves.specs.declared.NoRoom.{NoRoom}

-- in any case: the pen within the output, which is as long as before
pub record Kept (before after : List ℕ) (d : Result Pen NoRoom) : Type 0 where
  pub safe : SafeAfter d after
  pub long : length after ≡ length before

-- the line is written at once, with which the pen is at `next` of the bytes written
abbrev pub DrawsRow : ℕ → Row → List ℕ → Rest → Pen → (ℕ → Pen) → List ℕ → List ℕ → Result Pen NoRoom → Type 0
DrawsRow table row spool rest p next before after d =
    (k : Known) (q : Rule) (v : Value) → IsRow table row.number q row → Reads k q (rest_in spool rest) v
    → Draws (ended (line_of k q v)) p.at (next (length (ended (line_of k q v)))) before after d

-- the line does what KeyDone says
abbrev pub RowDone : ℕ → Row → List ℕ → Rest → Pen → List ℕ → List ℕ → List ℕ → List ℕ → Result Pen NoRoom → Type 0
RowDone table row spool rest p ns₀ ns₁ before after d =
    (k : Known) (q : Rule) (v : Value) → IsRow table row.number q row → Reads k q (rest_in spool rest) v
    → KeyDone table p rest k row.number q v ns₀ ns₁ before after d

-- in `layer_name` a name, elsewhere a row
pub record KeyOrName (spool : List ℕ) (first : Bool) (key : Span) (rest : Rest) (p : Pen) (ns₀ ns₁ before after : List ℕ) (d : Result Pen NoRoom) : Type 0 where
  pub name : p.block ≡ block_layer_names → NamedLine spool key rest p before after d × (ns₁ ≡ ns₀)
  pub row : (p.block ≡ block_layer_names → ⊥) → KeyLine spool first key rest p ns₀ ns₁ before after d
