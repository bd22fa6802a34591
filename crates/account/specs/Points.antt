-- A line among the points of a `successive` or of a symbol's `hide`.
use Rattle.std.specs.Prelude.{ℕ, ◌+◌, Bool, true, false, cond, ◌≡◌, List, eqb, ltb, ℤ, pos, get_or, set}
use Rattle.rules.specs.declared.LineForm.{LineForm}
use Rattle.rules.specs.Lines.{form_in}
use Rattle.rules.specs.RangeClass.{digits}
use Rattle.rules.specs.Values.{Value}
use Rattle.rules.specs.Rows.{rows_at_limit, Act, stay, entry, begin, shut, refuse, act}
use Rattle.rules.specs.RecordTable.{rule_at}
use Rattle.rules.specs.Figures.{least_points}
use Rattle.tables.specs.Tables.{table_of}
use Rattle.entries.specs.Names.{known_in}
use Rattle.entries.specs.Acts.{next_of}
use Rattle.entries.specs.declared.Next.{Next}
use Rattle.account.specs.declared.Now.{Now}
use Rattle.account.specs.declared.Where.{Where}
use Rattle.account.specs.declared.Step.{Step}
use Rattle.account.specs.declared.Step.TheVariants as S
use Rattle.account.specs.Records.{part_at, with_part}
use Rattle.account.specs.Account.{at_block, figure_done, record_made}
use Rattle.tables.specs.Numbering.{table_layer_points, table_symbol_points}
use Rattle.account.specs.Numbering.{block_symbol}
use Rattle.rules.specs.RecordTable.{width, kind_point, in_symbol, kind_hidden}

-- "In layers no coordinate is negative but the two centres; in symbols any sign."
abbrev pub point_table_of : Bool → ℕ
point_table_of true = table_layer_points
point_table_of false = table_symbol_points

-- "17 a successive's points", "plus 20 inside a symbol"
abbrev pub chain_kind : Bool → ℕ
chain_kind true = kind_point
chain_kind false = kind_point + in_symbol

-- ── a point ──
-- what a line does in a block of points
abbrev pub point_act : ℕ → List ℕ → List ℕ → List ℕ → Now → LineForm → Act
point_act table s symbols layers n form =
    act (known_in s symbols layers) (table_of table) (digits 0 0) (rows_at_limit n.points (table_of table)) (form_in s form)

abbrev pub more_points : Now → Now
more_points n =
    record {
      block = n.block;
      part = n.part;
      layered = n.layered;
      owner = n.owner;
      records = n.records + 1;
      figures = n.figures;
      points = n.points + 1;
    }

-- its record
abbrev pub point_put : Now → ℕ → ℕ → Where → ℕ → Value → List ℤ → List ℤ
point_put n kind table at j v rec = record_made kind n at (rule_at (table_of table) j) v rec

-- after a refusal nothing is said of the lent record
abbrev pub PointRecord : Now → ℕ → ℕ → Where → List ℤ → List ℤ → Act → Type 0
PointRecord n kind table at rec₀ rec₁ stay = rec₁ ≡ rec₀
PointRecord n kind table at rec₀ rec₁ (entry j v) = rec₁ ≡ point_put n kind table at j v rec₀
PointRecord n kind table at rec₀ rec₁ (begin i j v) = Unit {0}
PointRecord n kind table at rec₀ rec₁ shut = rec₁ ≡ rec₀
PointRecord n kind table at rec₀ rec₁ (refuse k) = Unit {0}

-- what `point_line` promises, of a `successive` and of a `hide` alike
pub record PointLine (a : Act) (n : Now) (kind table : ℕ) (at : Where) (rec₀ rec₁ : List ℤ) (r : Next) : Type 0 where
  pub answer : r ≡ next_of a
  pub rec : PointRecord n kind table at rec₀ rec₁ a

-- ── a `successive` ──
-- It is lent two records: its own, and behind it the point's.
abbrev pub chain_put : Now → Where → ℕ → Value → List ℤ → List ℤ
chain_put n at j v t = with_part width (point_put n (chain_kind n.layered) (point_table_of n.layered) at j v (part_at width t)) t

-- "14 successive (first point's type, point count)": the type comes from its first point's record, at that point's line
abbrev pub chain_typed : Now → List ℤ → List ℤ
chain_typed n t = cond (eqb n.points 0) (set t 4 (get_or t (width + 4) (pos 0))) t

-- the count at its end
abbrev pub chain_closed : Now → List ℤ → List ℤ
chain_closed n t = set t 5 (pos n.points)

-- "successive: block of 3 to 100 point"
abbrev pub chain_end : Now → Step
chain_end n = cond (ltb n.points least_points) (S.Stop 8) (S.Go (figure_done n))

abbrev pub chain_step : Now → Act → Step
chain_step n stay = S.Go n
chain_step n (entry j v) = S.Go (more_points n)
chain_step n (begin i j v) = S.Stop 5
chain_step n shut = chain_end n
chain_step n (refuse k) = S.Stop k

-- what is lent, after the line; after a refusal nothing is said of it
abbrev pub ChainRecords : Now → Where → List ℤ → List ℤ → Act → Type 0
ChainRecords n at t₀ t₁ stay = t₁ ≡ t₀
ChainRecords n at t₀ t₁ (entry j v) = t₁ ≡ chain_typed n (chain_put n at j v t₀)
ChainRecords n at t₀ t₁ (begin i j v) = Unit {0}
ChainRecords n at t₀ t₁ shut = ltb n.points least_points ≡ false → t₁ ≡ chain_closed n t₀
ChainRecords n at t₀ t₁ (refuse k) = Unit {0}

pub record ChainLine (a : Act) (n : Now) (at : Where) (t₀ t₁ : List ℤ) (r : Step) : Type 0 where
  pub answer : r ≡ chain_step n a
  pub records : ChainRecords n at t₀ t₁ a

-- ── a symbol's `hide` ──
-- "43 hide point"; behind its `}` the symbol is open again
abbrev pub hide_step : Now → Act → Step
hide_step n stay = S.Go n
hide_step n (entry j v) = S.Go (more_points n)
hide_step n (begin i j v) = S.Stop 5
hide_step n shut = S.Go (at_block n block_symbol 0)
hide_step n (refuse k) = S.Stop k

pub record HideLine (a : Act) (n : Now) (at : Where) (rec₀ rec₁ : List ℤ) (r : Step) : Type 0 where
  pub answer : r ≡ hide_step n a
  pub rec : PointRecord n kind_hidden table_symbol_points at rec₀ rec₁ a
