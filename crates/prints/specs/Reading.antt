-- A line of an accepted spool and what it holds, and what is promised of writing it.
use Rattle.std.specs.Prelude.{ℕ, ◌≡◌, true, List, ◌∷◌, ◌++◌, Result}
use Rattle.rules.specs.RefusalNumbers.{got}
use Rattle.rules.specs.Lines.{Rest, free_shape_of}
use Rattle.rules.specs.Values.{Known, Value, chars_of}
use Rattle.rules.specs.Rows.{Rule, Act, read_shape, shape_for, fits}
use Rattle.rules.specs.Machine.{layer_value}
use Rattle.rules.specs.FixedForm.{line_of}
use Rattle.tables.specs.declared.Row.{Row}
use Rattle.tables.specs.Rows.{rule_of, for_line}
use Rattle.tables.specs.Tables.{table_of}
use Rattle.entries.specs.Acts.{value_of}
use Rattle.keywords.specs.Keys.{key_at}
use Rattle.prints.specs.Texts.{line_end}
use Rattle.prints.specs.Printing.{Prints}
use Rattle.leaves.specs.declared.NoRoom.{NoRoom}

-- what follows a row's key has the form that the row asks for, and reads as this value
pub record Reads (k : Known) (r : Rule) (c : Rest) (v : Value) : Type 0 where
  pub number : ℕ
  pub act : Act
  pub read : read_shape k number r (shape_for r c) ≡ got act
  pub value : value_of act ≡ v
  pub fit : fits r.holds r.may (shape_for r c) ≡ true

-- the line of the fixed form, for whatever a row's line reads as
abbrev pub PrintsRow : ℕ → Row → Rest → List ℕ → List ℕ → Result ℕ NoRoom → Type 0
PrintsRow table row c before after w =
    (k : Known) (r : Rule) (v : Value) → rule_of row ≡ for_line r → r.key ≡ key_at (table_of table) row.number → Reads k r c v
    → Prints (line_of k r v ++ line_end) before after w

-- a layer's line, for whatever name it holds
abbrev pub PrintsLayer : List ℕ → Rest → List ℕ → List ℕ → Result ℕ NoRoom → Type 0
PrintsLayer id c before after w = (v : Value) → layer_value id (free_shape_of c) ≡ got v → Prints ((id ++ 61 ∷ chars_of v) ++ line_end) before after w
