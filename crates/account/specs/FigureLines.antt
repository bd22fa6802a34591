-- A line among the figures of a layer or of a symbol's `element`: what it answers, and what it leaves in the lent record and the marks.
use Rattle.std.specs.Prelude.{ℕ, ◌+◌, Bool, false, cond, not, ◌≡◌, List, eqb, leb, ℤ, length, replicate}
use Rattle.rules.specs.Rows.{Rule, Act, stay, entry, begin, shut, refuse}
use Rattle.rules.specs.RecordTable.{rule_at}
use Rattle.tables.specs.Tables.{table_of}
use Rattle.account.specs.declared.Now.{Now}
use Rattle.account.specs.declared.Where.{Where}
use Rattle.account.specs.declared.Step.{Step}
use Rattle.account.specs.declared.Step.TheVariants as S
use Rattle.account.specs.Account.{at_block, record_made}
use Rattle.tables.specs.Numbering.{table_layer, table_single_layer, table_wired_layer, table_single_wired_layer, table_figures}
use Rattle.account.specs.Numbering.{block_symbol, block_elements, block_figures, inner_text, inner_placed, inner_wire, rows_layer, rows_wired_layer, rows_figures, kind_blocks}
use Rattle.rules.specs.RecordTable.{kind_line, kind_wire, in_symbol}

-- ── the table ──
-- the figures that may stand here: "E_symbol: placed symbol, in layers only", "At range 001 it is `E_symbol=`"
abbrev pub layer_table_number : Bool → Bool → ℕ
layer_table_number single wired = cond wired (cond single table_single_wired_layer table_wired_layer) (cond single table_single_layer table_layer)

-- ranges: E_sym and E_wire; where E_wire is 000 there is no row of wires
abbrev pub home_table : Bool → ℕ → ℕ → ℕ
home_table layered range wires = cond layered (layer_table_number (eqb range 1) (not (eqb wires 0))) table_figures

abbrev pub home_rows : Bool → ℕ → ℕ
home_rows layered wires = cond layered (cond (eqb wires 0) rows_layer rows_wired_layer) rows_figures

abbrev pub home_rule : Bool → ℕ → ℕ → ℕ → Rule
home_rule layered range wires j = rule_at (table_of (home_table layered range wires)) j

-- ── the record ──
-- "10 line, 11 circle, 12 ellipse, 13 point", "16 placed symbol": 10 and the row; "plus 20 inside a symbol"
abbrev pub line_kind : Bool → ℕ → ℕ
line_kind layered row = cond layered (kind_line + row) (kind_line + in_symbol + row)

-- "14 successive", "15 text", "16 placed symbol": the figure's block is 1, 2 or 3; "plus 20 inside a symbol"; 18 for a wire, whose block is 4
abbrev pub block_kind : Bool → ℕ → ℕ
block_kind layered block = cond (eqb block inner_wire) kind_wire (cond layered (kind_blocks + block) (kind_blocks + in_symbol + block))

-- ── what is open ──
abbrev pub more_figures : Now → Now
more_figures n =
    record {
      block = n.block;
      part = n.part;
      layered = n.layered;
      owner = n.owner;
      records = n.records + 1;
      figures = n.figures + 1;
      points = n.points;
    }

-- how many records it takes at its line: a wire two
abbrev pub block_takes : ℕ → ℕ
block_takes i = cond (eqb i inner_wire) 2 1

-- a figure that is a block: 9 `successive`, 10 text, 11 a placed symbol, 12 a wire
abbrev pub figure_opened : Now → ℕ → Now
figure_opened n i =
    record {
      block = block_figures + i;
      part = 0;
      layered = n.layered;
      owner = n.owner;
      records = n.records + block_takes i;
      figures = n.figures;
      points = 0;
    }

-- "`element` (one or more figures)"; a layer may have none
abbrev pub figures_closed : Now → Step
figures_closed n = cond n.layered (S.Go (at_block n block_elements 0)) (cond (eqb n.figures 0) (S.Stop 8) (S.Go (at_block n block_symbol 0)))

-- ── the line ──
abbrev pub figure_step : Now → Act → Step
figure_step n stay = S.Go n
figure_step n (entry j v) = S.Go (more_figures n)
figure_step n (begin i j v) = S.Go (figure_opened n i)
figure_step n shut = figures_closed n
figure_step n (refuse k) = S.Stop k

-- the lent record after the line; after a refusal nothing is said of it
abbrev pub FigureRecord : Now → ℕ → ℕ → Where → List ℤ → List ℤ → Act → Type 0
FigureRecord n range wires at rec₀ rec₁ stay = rec₁ ≡ rec₀
FigureRecord n range wires at rec₀ rec₁ (entry j v) = rec₁ ≡ record_made (line_kind n.layered j) n at (home_rule n.layered range wires j) v rec₀
FigureRecord n range wires at rec₀ rec₁ (begin i j v) = rec₁ ≡ record_made (block_kind n.layered i) n at (home_rule n.layered range wires j) v rec₀
FigureRecord n range wires at rec₀ rec₁ shut = rec₁ ≡ rec₀
FigureRecord n range wires at rec₀ rec₁ (refuse k) = Unit {0}

-- the marks of the rows of a block: none stands when it opens
abbrev pub unmarked_if : Bool → List Bool → List Bool
unmarked_if opens m = cond opens (replicate (length m) false) m

-- the marks of such blocks, which no other line touches
abbrev pub MarksFor : (ℕ → Bool) → List Bool → List Bool → Act → Type 0
MarksFor its m₀ m₁ stay = m₁ ≡ m₀
MarksFor its m₀ m₁ (entry j v) = m₁ ≡ m₀
MarksFor its m₀ m₁ (begin i j v) = m₁ ≡ unmarked_if (its i) m₀
MarksFor its m₀ m₁ shut = m₁ ≡ m₀
MarksFor its m₀ m₁ (refuse k) = m₁ ≡ m₀

-- what `on_figures` promises: a placed symbol and a wire have the first marks, a text the inner ones
pub record FigureLine (a : Act) (n : Now) (range wires : ℕ) (at : Where) (rec₀ rec₁ : List ℤ) (m₀ m₁ inner₀ inner₁ : List Bool) (r : Step) : Type 0 where
  pub answer : r ≡ figure_step n a
  pub rec : FigureRecord n range wires at rec₀ rec₁ a
  pub marks : MarksFor (λ i. leb inner_placed i) m₀ m₁ a
  pub inner : MarksFor (λ i. eqb i inner_text) inner₀ inner₁ a
