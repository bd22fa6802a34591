-- SYMBOL_DEFINE and a symbol in it: what each line makes of what is open, of the marks and of the records.
use Rattle.std.specs.Prelude.{ℕ, ◌+◌, ◌*◌, ◌<◌, Bool, true, false, cond, ◌&&◌, ◌||◌, not, ◌≡◌, List, eqb, ltb, ℤ, pos, negsuc, nat_abs, length, get_or, set, replicate}
use Rattle.rules.specs.declared.Span.{Span}
use Rattle.rules.specs.Base.{among}
use Rattle.rules.specs.Lines.{brace, equals, Form, ignored, wrong, close, eof, keyed, span, bytes_at}
use Rattle.rules.specs.Values.{Value}
use Rattle.rules.specs.Rows.{Act, stay, entry, begin, shut, refuse}
use Rattle.rules.specs.RecordTable.{rule_at}
use Rattle.tables.specs.Tables.{table_of}
use Rattle.entries.specs.Names.{names_in}
use Rattle.entries.specs.Acts.{put_line, Entered}
use Rattle.account.specs.declared.Now.{Now}
use Rattle.account.specs.declared.Step.{Step}
use Rattle.account.specs.declared.Step.TheVariants as S
use Rattle.account.specs.declared.Where.{Where}
use Rattle.account.specs.Account.{at_block, head_at}
use Rattle.tables.specs.Numbering.{table_symbol}
use Rattle.account.specs.Numbering.{block_top, block_defines, block_symbol, block_hide, block_figures, turn_element, inner_element, place_name, place_name_length}
use Rattle.rules.specs.RecordTable.{kind_symbol}

-- ── SYMBOL_DEFINE ──
-- `NON=` was read
abbrev pub non_in : Now → Bool
non_in n = not (eqb n.part 0)

-- "NON and a symbol together" is 6: so many symbols stand before this line
abbrev pub non_read : Now → ℕ → Step
non_read n count = cond (eqb count 0) (S.Go (at_block n block_defines 1)) (S.Stop 6)

-- a symbol is begun: its record, and nothing in it
abbrev pub symbol_opened : Now → ℕ → Now
symbol_opened n count = record { block = block_symbol; part = 0; layered = false; owner = count; records = n.records + 1; figures = 0; points = 0 }

-- 6 where `NON=` was read
abbrev pub open_symbol : Now → ℕ → Step
open_symbol n count = cond (non_in n) (S.Stop 6) (S.Go (symbol_opened n count))

-- `NON=` or a symbol was read; neither is 8
abbrev pub defined_in : Now → ℕ → Bool
defined_in n count = non_in n || not (eqb count 0)

abbrev pub close_defines : Now → ℕ → Step
close_defines n count = cond (defined_in n count) (S.Go (at_block n block_top turn_element)) (S.Stop 8)

abbrev pub defines_step : Now → ℕ → Act → Step
defines_step n count stay = S.Go n
defines_step n count (entry j v) = non_read n count
defines_step n count (begin i j v) = open_symbol n count
defines_step n count shut = close_defines n count
defines_step n count (refuse k) = S.Stop k

-- the marks and the lent record after the opening of a symbol that was not refused: "4 symbol"; nothing of it has been
pub record SymbolBegun (count : ℕ) (at : Where) (m₀ m₁ : List Bool) (rec₀ rec₁ : List ℤ) : Type 0 where
  pub marks : m₁ ≡ replicate (length m₀) false
  pub rec : rec₁ ≡ head_at 0 kind_symbol count at rec₀

pub record Untouched (m₀ m₁ : List Bool) (rec₀ rec₁ : List ℤ) : Type 0 where
  pub marks : m₁ ≡ m₀
  pub rec : rec₁ ≡ rec₀

-- after a refusal nothing is said of them
abbrev pub OpenedOr : Bool → Type 0 → Type 0
OpenedOr true a = Unit {0}
OpenedOr false a = a

abbrev pub DefinesRecord : Now → ℕ → Where → List Bool → List Bool → List ℤ → List ℤ → Act → Type 0
DefinesRecord n count at m₀ m₁ rec₀ rec₁ stay = Untouched m₀ m₁ rec₀ rec₁
DefinesRecord n count at m₀ m₁ rec₀ rec₁ (entry j v) = Untouched m₀ m₁ rec₀ rec₁
DefinesRecord n count at m₀ m₁ rec₀ rec₁ (begin i j v) = OpenedOr (non_in n) (SymbolBegun count at m₀ m₁ rec₀ rec₁)
DefinesRecord n count at m₀ m₁ rec₀ rec₁ shut = Untouched m₀ m₁ rec₀ rec₁
DefinesRecord n count at m₀ m₁ rec₀ rec₁ (refuse k) = Unit {0}

pub record DefinesLine (a : Act) (n : Now) (count : ℕ) (at : Where) (m₀ m₁ : List Bool) (rec₀ rec₁ : List ℤ) (r : Step) : Type 0 where
  pub answer : r ≡ defines_step n count a
  pub rec : DefinesRecord n count at m₀ m₁ rec₀ rec₁ a

-- ── a symbol ──
-- a number of a record as a place in the spool, or as a length; every such number is below 65,536
abbrev pub as_place : ℤ → ℕ
as_place z = nat_abs z

abbrev pub is_place : ℤ → Bool
is_place (pos n) = ltb n 65536
is_place (negsuc n) = false

-- the name in a symbol's record: its place and its length
abbrev pub name_of : List ℤ → Span
name_of rec = span (as_place (get_or rec place_name (pos 0))) (as_place (get_or rec place_name_length (pos 0)))

abbrev pub is_named : List ℤ → Bool
is_named rec = is_place (get_or rec place_name (pos 0)) && is_place (get_or rec place_name_length (pos 0))

-- what stands behind a line's `=` begins at such a place
abbrev pub ContentPlaced : Form → Type 0
ContentPlaced ignored = Unit {0}
ContentPlaced (wrong n) = Unit {0}
ContentPlaced close = Unit {0}
ContentPlaced eof = Unit {0}
ContentPlaced (keyed k brace) = Unit {0}
ContentPlaced (keyed k (equals at c)) = at < 65536

-- "15: symbol name twice"
abbrev pub is_new : List ℕ → List ℕ → Span → Bool
is_new s symbols name = not (among (bytes_at s name) (names_in s symbols))

abbrev pub symbol_entry : List ℕ → List ℕ → Now → ℕ → List ℤ → Step
symbol_entry s symbols n j rec = cond (eqb j 0 && not (is_new s symbols (name_of rec))) (S.Stop 15) (S.Go n)

-- `element` is open, or `hide`
abbrev pub symbol_part : Now → ℕ → Now
symbol_part n i =
    cond (eqb i inner_element) (record { block = block_figures; part = 0; layered = false; owner = n.owner; records = n.records; figures = 0; points = 0 })
    (record { block = block_hide; part = 0; layered = false; owner = n.owner; records = n.records; figures = n.figures; points = 0 })

-- the record after the line of row j
abbrev pub symbol_put : List ℤ → ℕ → Value → List ℤ
symbol_put rec j v = put_line (rule_at (table_of table_symbol) j) 0 v rec

abbrev pub symbol_step : List ℕ → List ℕ → Now → List ℤ → Act → Step
symbol_step s symbols n rec stay = S.Go n
symbol_step s symbols n rec (entry j v) = symbol_entry s symbols n j (symbol_put rec j v)
symbol_step s symbols n rec (begin i j v) = S.Go (symbol_part n i)
symbol_step s symbols n rec shut = S.Go (at_block n block_defines 0)
symbol_step s symbols n rec (refuse k) = S.Stop k

-- what was read is marked
abbrev pub SymbolMarks : List Bool → List Bool → Act → Type 0
SymbolMarks m₀ m₁ stay = m₁ ≡ m₀
SymbolMarks m₀ m₁ (entry j v) = m₁ ≡ set m₀ j true
SymbolMarks m₀ m₁ (begin i j v) = m₁ ≡ set m₀ j true
SymbolMarks m₀ m₁ shut = m₁ ≡ m₀
SymbolMarks m₀ m₁ (refuse k) = Unit {0}

pub record SymbolLine (a : Act) (s symbols : List ℕ) (n : Now) (m₀ m₁ : List Bool) (rec₀ rec₁ : List ℤ) (r : Step) : Type 0 where
  pub answer : r ≡ symbol_step s symbols n rec₀ a
  pub marks : SymbolMarks m₀ m₁ a
  pub put : Entered (rule_at (table_of table_symbol)) 0 rec₀ a rec₁

-- ── a closed symbol's name ──
-- in one number, as the names are kept
abbrev pub name_number : Span → ℕ
name_number p = p.at + 65536 * p.len
