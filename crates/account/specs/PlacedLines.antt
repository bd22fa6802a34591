-- What a line in a placed symbol's block does, as the code answers it, and what it leaves in the lent numbers.
use Rattle.std.specs.Prelude.{ℕ, ◌+◌, ◌<◌, Bool, true, false, cond, ◌&&◌, ◌≡◌, List, eqb, ℤ, pos, nat_abs, length, get_or, set, take, replicate}
use Rattle.std.specs.Int.Signed.{non_neg}
use Rattle.rules.specs.declared.Digits.{Digits}
use Rattle.rules.specs.declared.Span.{Span}
use Rattle.rules.specs.Lines.{Rest, Form, ignored, wrong, close, eof, keyed, shape_of, has_form}
use Rattle.rules.specs.RangeClass.{digits, reaches, exceeds, both, skip_of}
use Rattle.rules.specs.Values.{Known}
use Rattle.rules.specs.Rows.{Rule, Found, absent, found, find, Act, stay, entry, begin, shut, refuse, act_row, act, complete}
use Rattle.rules.specs.RecordTable.{rule_at, mark_unread}
use Rattle.rules.specs.Figures.{placed_table}
use Rattle.tables.specs.Tables.{table_of}
use Rattle.entries.specs.Acts.{next_of, Entered}
use Rattle.entries.specs.declared.Next.{Next}
use Rattle.entries.specs.declared.Next.TheVariants as N
use Rattle.account.specs.declared.Now.{Now}
use Rattle.account.specs.declared.Step.{Step}
use Rattle.account.specs.declared.Step.TheVariants as S
use Rattle.account.specs.declared.Skipped.{Skipped}
use Rattle.account.specs.declared.Skipped.TheVariants as K
use Rattle.account.specs.Account.{at_block, figure_done}
use Rattle.account.specs.SkippedLines.{skipped_as}
use Rattle.account.specs.SerialNumbers.{own_numbers, kept_number, content_at, ascending, kept_among, serial_count, kept_in, in_use}
use Rattle.tables.specs.Numbering.{table_placed, table_placed_text}
use Rattle.account.specs.Numbering.{block_placed, inner_none, inner_placed_text, rows_placed, rows_text, place_own, tally_serials, tally_length, most_rows}

-- what the reading lends to a line of a placed symbol, besides its record: the tally and the own numbers in use, which rows of the
-- placed symbol have been, and which of its text
pub record Lent : Type 0 where
  pub tally : List ℕ
  pub serials : List ℕ
  pub marks : List Bool
  pub inner : List Bool

abbrev pub lent : List ℕ → List ℕ → List Bool → List Bool → Lent
lent tally serials marks inner = record { tally = tally; serials = serials; marks = marks; inner = inner }

-- ── own numbers ──
-- the own number in a record: the first of the row `serial`'s two numbers. The record's numbers are signed
abbrev pub own_number : List ℤ → ℕ
own_number rec = nat_abs (get_or rec place_own (pos 0))

-- a number of the record is an own number: a line of the row `serial` was entered
pub record OwnGiven (z : ℤ) : Type 0 where
  pub positive : non_neg z ≡ true
  pub most : nat_abs z < own_numbers

-- what is lent after a line of the row j, where its number n (with its content at `at`) is free: the row is marked, and the number of a
-- row `serial` is in use
abbrev pub lent_with : Bool → Lent → ℕ → ℕ → Span → Lent
lent_with own x j n at = record {
  tally = cond own (set x.tally tally_serials (serial_count x.tally + 1)) x.tally;
  serials = cond own (kept_among (serial_count x.tally) (kept_number n at) x.serials) x.serials;
  marks = set x.marks j true;
  inner = x.inner;
}

-- ── a line of a key that the class knows ──
-- the row `serial` of a placed symbol
abbrev pub serial_row : ℕ
serial_row = 5

-- a line of the row j, whose record has the own number n: is the number in use?
abbrev pub clashes : Lent → ℕ → ℕ → Bool
clashes x j n = eqb j serial_row && in_use x.tally x.serials n

-- after the opener of its text: no row of it has been
abbrev pub lent_inside : Lent → ℕ → Lent
lent_inside x j = record {
  tally = x.tally;
  serials = x.serials;
  marks = set x.marks j true;
  inner = replicate (length x.inner) false;
}

-- the answer about a line that does this; none of the keys closes the block
abbrev pub placed_step : Now → Lent → ℕ → Next → Step
placed_step now x n N.Stay = S.Go now
placed_step now x n (N.Entry j) = cond (clashes x j n) (S.Stop 15) (S.Go now)
placed_step now x n (N.Begin b) = S.Go (at_block now block_placed inner_placed_text)
placed_step now x n N.Shut = S.Stop 8
placed_step now x n (N.Refuse k) = S.Stop k

-- what is lent after it; after a refusal nothing is said of it
abbrev pub PlacedLent : Lent → Lent → ℕ → Span → Next → Type 0
PlacedLent x₀ x₁ n at N.Stay = x₁ ≡ x₀
PlacedLent x₀ x₁ n at (N.Entry j) = clashes x₀ j n ≡ false → x₁ ≡ lent_with (eqb j serial_row) x₀ j n at
PlacedLent x₀ x₁ n at (N.Begin b) = x₁ ≡ lent_inside x₀ b.row
PlacedLent x₀ x₁ n at N.Shut = Unit {0}
PlacedLent x₀ x₁ n at (N.Refuse k) = Unit {0}

-- what `placed_done` promises, n being the own number of the record and `at` the place of the line's content; `placed_entry` promises it of
-- an entry, where the marks of the text don't matter
pub record PlacedDone (now : Now) (x₀ x₁ : Lent) (n : ℕ) (at : Span) (next : Next) (r : Step) : Type 0 where
  pub answer : r ≡ placed_step now x₀ n next
  pub lent : PlacedLent x₀ x₁ n at next

-- what it needs: the row of the line is one of the table's, and a line of the row `serial` has put its own number into the record
abbrev pub RowReady : List ℤ → Next → Type 0
RowReady rec N.Stay = Unit {0}
RowReady rec (N.Entry j) = (j < rows_placed) × (j ≡ serial_row → OwnGiven (get_or rec place_own (pos 0)))
RowReady rec (N.Begin b) = b.row < rows_placed
RowReady rec N.Shut = Unit {0}
RowReady rec (N.Refuse k) = Unit {0}

-- the line of a row, from the act on: the record is as the act leaves it
pub record RowLine (now : Now) (x₀ x₁ : Lent) (rec₀ rec₁ : List ℤ) (r : Step) (at : Span) (a : Act) : Type 0 where
  pub entered : Entered (rule_at (table_of table_placed)) 0 rec₀ a rec₁
  pub did : PlacedDone now x₀ x₁ (own_number rec₁) at (next_of a) r

-- ── a line of a key that the class doesn't know ──
abbrev pub skip_step : Now → Skipped → Step
skip_step now K.Passes = S.Go now
skip_step now K.Deeper = S.Skip now
skip_step now K.Shut = S.Stop 9
skip_step now (K.Refuse n) = S.Stop n

-- a key that is not allowed here: 6, and 5 where the line has no form
abbrev pub not_here : Rest → Step
not_here c = cond (has_form (shape_of c)) (S.Stop 6) (S.Stop 5)

-- "skipped when a digit of E_sym exceeds the class's, and refused otherwise"
abbrev pub unknown_step : Digits → Digits → Now → Skipped → Rest → Step
unknown_step class range now k c = cond (exceeds range class) (skip_step now k) (not_here c)

-- it leaves everything as it is
pub record UnknownLine (class range : Digits) (now : Now) (x₀ x₁ : Lent) (rec₀ rec₁ : List ℤ) (r : Step) (k : Skipped) (c : Rest) : Type 0 where
  pub answer : r ≡ unknown_step class range now k c
  pub lent : x₁ ≡ x₀
  pub rec : rec₁ ≡ rec₀

-- ── a line with a key ──
module _ (known : Known) (class range : Digits) (now : Now) (x₀ x₁ : Lent) (rec₀ rec₁ : List ℤ) (r : Step) where
  -- of a row that the class knows, or not
  abbrev pub FoundLine : Skipped → Rest → ℕ → Rule → Bool → Type 0
  FoundLine k c j w true = RowLine now x₀ x₁ rec₀ rec₁ r (content_at c) (act_row known range (get_or x₀.marks j false) j w c)
  FoundLine k c j w false = UnknownLine class range now x₀ x₁ rec₀ rec₁ r k c

  abbrev pub KeyLine : Skipped → Rest → Found → Type 0
  KeyLine k c absent = UnknownLine class range now x₀ x₁ rec₀ rec₁ r k c
  KeyLine k c (found j w) = FoundLine k c j w (reaches class w.least)

-- ── the closing line ──
-- "An attribute E_sym allows and the class doesn't know has state 3 and zeros."
abbrev pub hidden_at : ℕ → Bool → List ℤ → List ℤ
hidden_at q hidden rec = cond hidden (set rec q (pos 3)) rec

-- "8: something required missing, at the closing line": what the file allows and the class knows is required
abbrev pub is_whole : Digits → Digits → List Bool → Bool
is_whole class range marks = complete (both class range) (table_of table_placed) (take rows_placed marks)

pub record CloseLine (class range : Digits) (now : Now) (marks : List Bool) (rec₀ rec₁ : List ℤ) (r : Step) : Type 0 where
  pub answer : r ≡ cond (is_whole class range marks) (S.Go (figure_done now)) (S.Stop 8)
  pub rec : is_whole class range marks ≡ true → rec₁ ≡ mark_unread class range placed_table rec₀

-- ── a line directly in the block ──
module _ (known : Known) (class range : Digits) (now : Now) (x₀ x₁ : Lent) (rec₀ rec₁ : List ℤ) (r : Step) where
  abbrev pub OwnLine : Form → Type 0
  OwnLine ignored = (r ≡ S.Go now) × (x₁ ≡ x₀) × (rec₁ ≡ rec₀)
  OwnLine (wrong n) = r ≡ S.Stop n
  OwnLine close = CloseLine class range now x₀.marks rec₀ rec₁ r × (x₁ ≡ x₀)
  OwnLine eof = r ≡ S.Stop 9
  OwnLine (keyed k c) = KeyLine known class range now x₀ x₁ rec₀ rec₁ r (skipped_as (skip_of k c)) c (find k (table_of table_placed))

-- ── a line in its text ──
abbrev pub placed_text_step : Now → Act → Step
placed_text_step now stay = S.Go now
placed_text_step now (entry j v) = S.Go now
placed_text_step now (begin i j v) = S.Stop 5
placed_text_step now shut = S.Go (at_block now block_placed inner_none)
placed_text_step now (refuse k) = S.Stop k

abbrev pub PlacedTextMarks : List Bool → List Bool → Act → Type 0
PlacedTextMarks m₀ m₁ stay = m₁ ≡ m₀
PlacedTextMarks m₀ m₁ (entry j v) = m₁ ≡ set m₀ j true
PlacedTextMarks m₀ m₁ (begin i j v) = Unit {0}
PlacedTextMarks m₀ m₁ shut = m₁ ≡ m₀
PlacedTextMarks m₀ m₁ (refuse k) = Unit {0}

pub record PlacedTextLine (a : Act) (now : Now) (inner₀ inner₁ : List Bool) (rec₀ rec₁ : List ℤ) (r : Step) : Type 0 where
  pub answer : r ≡ placed_text_step now a
  pub inner : PlacedTextMarks inner₀ inner₁ a
  pub rec : Entered (rule_at (table_of table_placed_text)) 0 rec₀ a rec₁

-- ── a line in a placed symbol: in its text, or directly in it ──
-- a text's line leaves all but the text's marks and the record
abbrev pub with_inner : List Bool → Lent → Lent
with_inner m x = lent x.tally x.serials x.marks m

module _ (known : Known) (class range : Digits) (now : Now) (x₀ x₁ : Lent) (rec₀ rec₁ : List ℤ) (r : Step) where
  abbrev pub PlacedLine : Bool → Form → Type 0
  PlacedLine true f =
      PlacedTextLine (act known (table_of table_placed_text) (digits 0 0) x₀.inner f) now x₀.inner x₁.inner rec₀ rec₁ r × (x₁ ≡ with_inner x₁.inner x₀)
  PlacedLine false f = OwnLine known class range now x₀ x₁ rec₀ rec₁ r f

-- ── what the code needs ──
-- lengths of what is lent, room for another own number, and those that are kept in their order
pub record LentReady (x : Lent) : Type 0 where
  pub tally : length x.tally ≡ tally_length
  pub serials : serial_count x.tally < length x.serials
  pub ordered : ascending (kept_in x.tally x.serials) ≡ true
  pub count : serial_count x.tally < 4294967295
  pub marks : length x.marks ≡ most_rows
  pub inner : length x.inner ≡ rows_text
