-- DRAWING_FORMAT and the names of layers in it: what the code answers to a line there, and what it leaves in the numbers and marks lent.
use Rattle.std.specs.Prelude.{ℕ, ◌+◌, Bool, true, not, ◌≡◌, List, [], ◌∷◌, ◌++◌, ltb, ℤ, pos, length, get_or, set, take, drop, Result, Ok, Err}
use Rattle.std.proofs.lemmas.List.Edits.{sets}
use Rattle.rules.specs.Base.{among}
use Rattle.rules.specs.RefusalNumbers.{Got, got, bad, unless, and_then}
use Rattle.rules.specs.Lines.{Rest, Form, ignored, wrong, close, eof, keyed, free_shape_of, span}
use Rattle.rules.specs.RangeClass.{digits_of}
use Rattle.rules.specs.Numbers.{value}
use Rattle.rules.specs.Values.{Known, Value, empty, nums, chars, linked, is_layer_id}
use Rattle.rules.specs.Rows.{Act, stay, entry, begin, shut, refuse, act}
use Rattle.rules.specs.Blocks.{most_layers}
use Rattle.rules.specs.RecordTable.{numbers, padded, rule_at}
use Rattle.rules.specs.Machine.{layer_value}
use Rattle.tables.specs.Tables.{table_of}
use Rattle.entries.specs.Names.{names_in}
use Rattle.entries.specs.Acts.{put_line}
use Rattle.account.specs.declared.Now.{Now}
use Rattle.account.specs.declared.Where.{Where}
use Rattle.account.specs.declared.Step.{Step}
use Rattle.account.specs.declared.Step.TheVariants as S
use Rattle.account.specs.Account.{at_block, head_at}
use Rattle.account.specs.TopLines.{layers_of}
use Rattle.tables.specs.Numbering.{table_drawing}
use Rattle.account.specs.Numbering.{block_top, block_drawing, block_layer_names, turn_defines, rows_drawing, place_letter, tally_layers}
use Rattle.rules.specs.RecordTable.{kind_layer}
use Rattle.rules.specs.declared.Span.{Span}

-- ── DRAWING_FORMAT ──
-- "`floor_height`, exactly when arc is 001": the range of this table is arc; the marks are those of its rows
abbrev pub drawing_act : Known → ℕ → List Bool → Form → Act
drawing_act k arc marks f = act k (table_of table_drawing) (digits_of arc) (take rows_drawing marks) f

-- SYMBOL_DEFINE comes next
abbrev pub drawing_now : Now → Act → Got Now
drawing_now n stay = got n
drawing_now n (entry j v) = got n
drawing_now n (begin i j v) = got (at_block n block_layer_names 0)
drawing_now n shut = got (at_block n block_top turn_defines)
drawing_now n (refuse k) = bad k

-- the marks and the record on return
abbrev pub drawing_marks : List Bool → Act → List Bool
drawing_marks marks stay = marks
drawing_marks marks (entry j v) = set marks j true
drawing_marks marks (begin i j v) = set marks j true
drawing_marks marks shut = marks
drawing_marks marks (refuse k) = marks

abbrev pub drawing_put : List ℤ → Act → List ℤ
drawing_put rec stay = rec
drawing_put rec (entry j v) = put_line (rule_at (table_of table_drawing) j) 0 v rec
drawing_put rec (begin i j v) = put_line (rule_at (table_of table_drawing) j) 0 v rec
drawing_put rec shut = rec
drawing_put rec (refuse k) = rec

-- ── a layer's name ──
-- "Text is byte place in the spool, from 0, and length; 0 and 0 if empty."
abbrev pub name_of : Got Value → Result Span ℕ
name_of (got empty) = Ok (span 0 0)
name_of (got (nums v)) = Ok (span 0 0)
name_of (got (chars at c)) = Ok (span at (length c))
name_of (got (linked n ps)) = Ok (span 0 0)
name_of (bad k) = Err k

-- ── a layer's line ──
abbrev pub layer_taken : Now → Now
layer_taken n =
    record {
      block = n.block;
      part = n.part;
      layered = n.layered;
      owner = n.owner;
      records = n.records + 1;
      figures = n.figures;
      points = n.points;
    }

-- "5 layer: letter's byte, number, name", with the name's two numbers
abbrev pub layer_put : ℕ → Where → List ℕ → List ℤ → List ℤ → List ℤ
layer_put n at id name rec = sets (head_at 0 kind_layer n at rec) place_letter (pos (get_or id 0 0) ∷ pos (value (drop 2 id)) ∷ name)

-- on return: one more layer, its name behind the others, its record
pub record LayerIn (s : List ℕ) (at : Where) (id : List ℕ) (name : List ℤ) (tally₀ tally₁ layers₀ layers₁ : List ℕ) (rec₀ rec₁ : List ℤ) : Type 0 where
  pub tally : tally₁ ≡ set tally₀ tally_layers (layers_of tally₀ + 1)
  pub names : names_in s (take (layers_of tally₀ + 1) layers₁) ≡ names_in s (take (layers_of tally₀) layers₀) ++ (id ∷ [])
  pub rec : rec₁ ≡ layer_put (layers_of tally₀) at id name rec₀

-- "A misspelt id is 6"; every content is a layer's name; one line too many is 11, a layer declared twice 14
abbrev pub layer_got : List ℕ → List ℕ → List ℕ → List ℕ → Rest → Got Value
layer_got s tally layers id c =
    unless (is_layer_id id) 6
    (and_then (layer_value id (free_shape_of c)) λ v.
    unless (ltb (layers_of tally) most_layers) 11
    (unless (not (among id (names_in s (take (layers_of tally) layers)))) 14
    (got v)))

abbrev pub layer_step : Now → Got Value → Step
layer_step n (got v) = S.Go (layer_taken n)
layer_step n (bad k) = S.Stop k

-- after a refusal nothing is said of what was lent
abbrev pub LayerOn : List ℕ → Where → List ℕ → List ℕ → List ℕ → List ℕ → List ℕ → List ℤ → List ℤ → Got Value → Type 0
LayerOn s at id tally₀ tally₁ layers₀ layers₁ rec₀ rec₁ (got v) = LayerIn s at id (padded 2 (numbers v)) tally₀ tally₁ layers₀ layers₁ rec₀ rec₁
LayerOn s at id tally₀ tally₁ layers₀ layers₁ rec₀ rec₁ (bad k) = Unit {0}

pub record LayerLine (s : List ℕ) (n : Now) (at : Where) (id : List ℕ) (tally₀ tally₁ layers₀ layers₁ : List ℕ) (rec₀ rec₁ : List ℤ) (g : Got Value)
    (r : Step) : Type 0 where
  pub answer : r ≡ layer_step n g
  pub lent : LayerOn s at id tally₀ tally₁ layers₀ layers₁ rec₀ rec₁ g

-- ── a line in `layer_name` ──
abbrev pub names_step : List ℕ → Now → List ℕ → List ℕ → Form → Step
names_step s n tally layers ignored = S.Go n
names_step s n tally layers (wrong m) = S.Stop m
names_step s n tally layers close = S.Go (at_block n block_drawing 0)
names_step s n tally layers eof = S.Stop 9
names_step s n tally layers (keyed k c) = layer_step n (layer_got s tally layers k c)

abbrev pub NamesOn : List ℕ → Now → Where → List ℕ → List ℕ → List ℕ → List ℕ → List ℤ → List ℤ → Form → Type 0
NamesOn s n at tally₀ tally₁ layers₀ layers₁ rec₀ rec₁ ignored = (tally₁ ≡ tally₀) × (layers₁ ≡ layers₀) × (rec₁ ≡ rec₀)
NamesOn s n at tally₀ tally₁ layers₀ layers₁ rec₀ rec₁ (wrong m) = Unit {0}
NamesOn s n at tally₀ tally₁ layers₀ layers₁ rec₀ rec₁ close = (tally₁ ≡ tally₀) × (layers₁ ≡ layers₀) × (rec₁ ≡ rec₀)
NamesOn s n at tally₀ tally₁ layers₀ layers₁ rec₀ rec₁ eof = Unit {0}
NamesOn s n at tally₀ tally₁ layers₀ layers₁ rec₀ rec₁ (keyed k c) =
    LayerOn s at k tally₀ tally₁ layers₀ layers₁ rec₀ rec₁ (layer_got s tally₀ layers₀ k c)

pub record NamesLine (s : List ℕ) (n : Now) (at : Where) (f : Form) (tally₀ tally₁ layers₀ layers₁ : List ℕ) (rec₀ rec₁ : List ℤ) (r : Step) : Type 0 where
  pub answer : r ≡ names_step s n tally₀ layers₀ f
  pub lent : NamesOn s n at tally₀ tally₁ layers₀ layers₁ rec₀ rec₁ f
