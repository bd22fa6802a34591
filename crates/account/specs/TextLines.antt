-- A line in a figure's text.
use Rattle.std.specs.Prelude.{ℕ, Bool, true, false, ◌≡◌, List, ℤ, set}
use Rattle.rules.specs.Rows.{Act, stay, entry, begin, shut, refuse}
use Rattle.rules.specs.RecordTable.{rule_at}
use Rattle.tables.specs.Tables.{table_of}
use Rattle.entries.specs.Acts.{Entered}
use Rattle.account.specs.declared.Now.{Now}
use Rattle.account.specs.declared.Step.{Step}
use Rattle.account.specs.declared.Step.TheVariants as S
use Rattle.account.specs.Account.{figure_done}
use Rattle.tables.specs.Numbering.{table_layer_text, table_symbol_text}

-- "In layers no coordinate is negative but the two centres; in symbols any sign."
abbrev pub text_table_of : Bool → ℕ
text_table_of true = table_layer_text
text_table_of false = table_symbol_text

abbrev pub text_step : Now → Act → Step
text_step n stay = S.Go n
text_step n (entry j v) = S.Go n
text_step n (begin i j v) = S.Stop 5
text_step n shut = S.Go (figure_done n)
text_step n (refuse k) = S.Stop k

-- "each key once": the row that was entered is marked
abbrev pub text_marks : Act → List Bool → List Bool
text_marks stay m = m
text_marks (entry j v) m = set m j true
text_marks (begin i j v) m = m
text_marks shut m = m
text_marks (refuse k) m = m

pub record TextLine (a : Act) (n : Now) (m₀ m₁ : List Bool) (rec₀ rec₁ : List ℤ) (r : Step) : Type 0 where
  pub answer : r ≡ text_step n a
  pub marks : m₁ ≡ text_marks a m₀
  pub entered : Entered (rule_at (table_of (text_table_of n.layered))) 0 rec₀ a rec₁
