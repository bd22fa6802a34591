-- A line in a wire's block: what it answers, and what it leaves on the scratch, which it is lent whole. An element's record is made at its
-- front, where the values of a key that repeats and an open text stand too; behind it stand the wire's two records, filled line by line.
use Rattle.std.specs.Prelude.{ℕ, zero, suc, ◌+◌, ◌*◌, ◌-◌, ◌/◌, ◌<◌, Bool, true, false, cond, ◌&&◌, ◌||◌, not, ◌≡◌, List, [], ◌∷◌, ◌++◌, eqb, leb, ltb, ℤ, pos, nat_abs, length, get_or, set, take, drop, replicate}
use Rattle.std.specs.Int.Signed.{non_neg}
use Rattle.std.proofs.lemmas.List.Edits.{sets}
use Rattle.rules.specs.declared.Class.{Class}
use Rattle.rules.specs.declared.Digits.{Digits}
use Rattle.rules.specs.declared.Span.{Span}
use Rattle.rules.specs.Lines.{Rest, Form, ignored, wrong, close, eof, keyed}
use Rattle.rules.specs.RangeClass.{digits, digits_of, reaches, both, knows_wires, most_depth, skip_of}
use Rattle.rules.specs.Values.{Value, Known, equal_z}
use Rattle.rules.specs.Rows.{Rule, Found, absent, found, find, Act, stay, entry, begin, shut, refuse, act_row, act, complete}
use Rattle.rules.specs.Figures.{wire_table, most_direcs, first_group_row, num_row, wire_text_row, wire_serial_row}
use Rattle.rules.specs.Wires.{joins_ends, is_line_row, is_element_row, join_none, join_tested, join_untested}
use Rattle.rules.specs.RecordTable.{width, rule_at, kind_wire_more, kind_edge, place_join, unread_mark, mark_unread, Shelf, shelf, shelves, place_texts, place_text_state, text_shown}
use Rattle.tables.specs.Numbering.{table_wire, table_layer_text}
use Rattle.tables.specs.Tables.{table_of}
use Rattle.tables.specs.declared.Row.{Row}
use Rattle.tables.specs.Rows.{rule_of, for_line}
use Rattle.entries.specs.Acts.{put_line}
use Rattle.account.specs.declared.Now.{Now}
use Rattle.account.specs.declared.Where.{Where}
use Rattle.account.specs.declared.Step.{Step}
use Rattle.account.specs.declared.Step.TheVariants as S
use Rattle.account.specs.declared.Skipped.{Skipped}
use Rattle.account.specs.declared.Skipped.TheVariants as K
use Rattle.account.specs.Account.{at_block, figure_done, head_at}
use Rattle.account.specs.Records.{part_at, with_part}
use Rattle.account.specs.Points.{more_points}
use Rattle.account.specs.SkippedLines.{skipped_as, skipped_by}
use Rattle.account.specs.SerialNumbers.{content_at, in_use}
use Rattle.account.specs.PlacedLines.{Lent, lent_with, with_inner, not_here, UnknownLine, PlacedTextMarks, LentReady}
use Rattle.account.specs.Numbering.{block_wire, wire_read, wire_text, wire_skipped, wire_past, rows_wire, place_start_x, place_start_y, place_end_x, place_end_y}
use Rattle.account.specs.Numbering.{wire_elements, wire_join_digit, wire_mark, wire_more_mark, former_x, former_y, former_row, scratch_length}
use Rattle.account.specs.Numbering.{wire_direcs, wire_piends, wire_nums, wire_earth, wire_power, wire_texts, wire_own, tally_wire_range}

-- ── how it begins ──
-- behind the line that opens it: the second record's head, and whether it is read or skipped whole
abbrev pub wire_begun : Class → Now → Now
wire_begun c n = cond (knows_wires c) n (at_block n block_wire wire_skipped)

abbrev pub begun_step : Class → Step → Step
begun_step c (S.Go n) = cond (eqb n.block block_wire) (S.Go (wire_begun c n)) (S.Go n)
begun_step c (S.Skip n) = S.Skip n
begun_step c (S.Stop k) = S.Stop k

abbrev pub begun_put : Where → Step → List ℤ → List ℤ
begun_put at (S.Go n) t = cond (eqb n.block block_wire) (head_at (width + width) kind_wire_more n.owner at t) t
begun_put at (S.Skip n) t = t
begun_put at (S.Stop k) t = t

-- ── a line's numbers ──
-- at the front of the scratch: an element's values, or those of a key that repeats
abbrev pub front_read : ℕ → Value → List ℤ → List ℤ
front_read j v t = with_part 0 (put_line (rule_at (table_of table_wire) j) 0 v (part_at 0 t)) t

-- of a key that stands once, in the wire's two records
abbrev pub own_read : ℕ → Value → List ℤ → List ℤ
own_read j v t = take width t ++ put_line (rule_at (table_of table_wire) j) 0 v (drop width t)

-- ── an element ──
-- the one before it was a line, and it is one
abbrev pub both_lines : ℕ → List ℤ → Bool
both_lines j t = equal_z (get_or t former_row (pos 0)) (pos 1) && is_line_row j

abbrev pub meets_former : List ℤ → Bool
meets_former t =
    equal_z (get_or t former_x (pos 0)) (get_or t place_start_x (pos 0)) && equal_z (get_or t former_y (pos 0)) (get_or t place_start_y (pos 0))

-- "At 4 every end is joined to the next start"
abbrev pub join_holds : Bool → ℕ → List ℤ → Bool
join_holds ends j t = cond (ends && both_lines j t) (meets_former t) true

abbrev pub join_number : Bool → ℕ → List ℤ → ℕ
join_number ends j t =
    cond ends (cond (equal_z (get_or t former_row (pos 0)) (pos 0)) join_none (cond (both_lines j t) join_tested join_untested)) join_none

-- what the next one must know of it
abbrev pub former_kept : ℕ → List ℤ → List ℤ
former_kept j t = set (set (set t former_x (get_or t place_end_x (pos 0))) former_y (get_or t place_end_y (pos 0))) former_row (pos (suc j))

-- its record, its values being read
abbrev pub element_put : Bool → Now → Where → ℕ → List ℤ → List ℤ
element_put ends n at j t = former_kept j (set (head_at 0 (kind_edge + j) n.owner at t) place_join (pos (join_number ends j t)))

-- ── a key that repeats ──
-- behind it no element may come
abbrev pub past_now : Now → Now
past_now n = at_block n block_wire wire_past

abbrev pub count_at : ℕ → List ℤ → ℕ
count_at p t = nat_abs (get_or t p (pos 0))

-- `num`: "all with equal earth and power"
abbrev pub like_first_num : List ℤ → Bool
like_first_num t =
    equal_z (get_or t wire_nums (pos 0)) (pos 0)
    || (equal_z (get_or t wire_earth (pos 0)) (get_or t 0 (pos 0)) && equal_z (get_or t wire_power (pos 0)) (get_or t 1 (pos 0)))

abbrev pub group_agrees : ℕ → List ℤ → Bool
group_agrees j t = not (eqb j num_row) || like_first_num t

-- so many numbers, put to another place
abbrev pub moved : ℕ → ℕ → ℕ → List ℤ → List ℤ
moved from to n t = sets t to (take n (drop from t))

abbrev pub front_emptied : List ℤ → List ℤ
front_emptied t = with_part 0 (replicate width (pos 0)) t

-- the numbers at `from` of the front go to the shelf, where it has room for them; one more is counted, and the front is empty again
abbrev pub shown_more : ℕ → Shelf → ℕ → List ℤ → List ℤ
shown_more from h n t = cond (ltb n h.shown) (moved from (width + suc h.place + n * h.wide) h.wide t) t

abbrev pub shelved_by : ℕ → Shelf → ℕ → List ℤ → List ℤ
shelved_by from h n t = front_emptied (set (set (shown_more from h n t) (width + h.place) (pos (suc n))) (width + h.state) (pos 2))

abbrev pub shelved : ℕ → Shelf → List ℤ → List ℤ
shelved from h t = shelved_by from h (count_at (width + h.place) t) t

abbrev pub shelf_of : ℕ → Shelf
shelf_of j = get_or shelves (j - first_group_row) (shelf 0 0 0 0)

-- a text: ten numbers of the first
abbrev pub text_shelf : Shelf
text_shelf = shelf place_texts place_text_state text_shown 1

-- where a text's numbers stand in its own record, on the front
abbrev pub text_from : ℕ
text_from = 4

-- ── a line of an element or of a key that repeats ──
abbrev pub is_front_row : ℕ → Bool
is_front_row j = ltb j wire_text_row

abbrev pub front_step : Bool → Now → List ℤ → Act → Step
front_step ends n t stay = S.Go n
front_step ends n t (entry j v) =
    cond (is_element_row j) (cond (join_holds ends j (front_read j v t)) (S.Go (more_points n)) (S.Stop 11))
    (cond (group_agrees j (front_read j v t)) (S.Go (past_now n)) (S.Stop 11))
front_step ends n t (begin i j v) = S.Stop 5
front_step ends n t shut = S.Stop 8
front_step ends n t (refuse k) = S.Stop k

abbrev pub EntryRecords : ℕ → Now → Where → List ℤ → List ℤ → ℕ → Value → Bool → Type 0
EntryRecords range n at t₀ t₁ j v true =
    join_holds (joins_ends (range / 100)) j (front_read j v t₀) ≡ true → t₁ ≡ element_put (joins_ends (range / 100)) n at j (front_read j v t₀)
EntryRecords range n at t₀ t₁ j v false = group_agrees j (front_read j v t₀) ≡ true → t₁ ≡ shelved 0 (shelf_of j) (front_read j v t₀)

-- the scratch after the line; after a refusal nothing is said of it
abbrev pub FrontRecords : ℕ → Now → Where → List ℤ → List ℤ → Act → Type 0
FrontRecords range n at t₀ t₁ stay = t₁ ≡ t₀
FrontRecords range n at t₀ t₁ (entry j v) = EntryRecords range n at t₀ t₁ j v (is_element_row j)
FrontRecords range n at t₀ t₁ (begin i j v) = Unit {0}
FrontRecords range n at t₀ t₁ shut = Unit {0}
FrontRecords range n at t₀ t₁ (refuse k) = Unit {0}

pub record FrontLine (a : Act) (range : ℕ) (n : Now) (at : Where) (t₀ t₁ : List ℤ) (r : Step) : Type 0 where
  pub answer : r ≡ front_step (joins_ends (range / 100)) n t₀ a
  pub records : FrontRecords range n at t₀ t₁ a

-- ── a line of a key that stands once, or the opener of a text ──
-- the own number among the wire's numbers
abbrev pub own_in : List ℤ → ℕ
own_in t = nat_abs (get_or t wire_own (pos 0))

abbrev pub clashes_in : Lent → ℕ → ℕ → Bool
clashes_in x j n = eqb j wire_serial_row && in_use x.tally x.serials n

abbrev pub once_step : Now → Lent → List ℤ → Act → Step
once_step n x t stay = S.Go n
once_step n x t (entry j v) = cond (clashes_in x j (own_in (own_read j v t))) (S.Stop 15) (S.Go (past_now n))
once_step n x t (begin i j v) = S.Go (at_block n block_wire wire_text)
once_step n x t shut = S.Stop 8
once_step n x t (refuse k) = S.Stop k

abbrev pub OnceRecords : List ℤ → List ℤ → Act → Type 0
OnceRecords t₀ t₁ stay = t₁ ≡ t₀
OnceRecords t₀ t₁ (entry j v) = t₁ ≡ own_read j v t₀
OnceRecords t₀ t₁ (begin i j v) = t₁ ≡ own_read j v t₀
OnceRecords t₀ t₁ shut = Unit {0}
OnceRecords t₀ t₁ (refuse k) = Unit {0}

-- what `once_entered` promises of the row j, n being the own number among the wire's numbers
pub record OnceEntered (now : Now) (j n : ℕ) (content : Span) (x₀ x₁ : Lent) (r : Step) : Type 0 where
  pub answer : r ≡ cond (clashes_in x₀ j n) (S.Stop 15) (S.Go (past_now now))
  pub lent : clashes_in x₀ j n ≡ false → x₁ ≡ lent_with (eqb j wire_serial_row) x₀ j n content

-- the row is marked, its own number is in use; no row of a text that opens has been
abbrev pub OnceLent : Lent → Lent → List ℤ → Span → Act → Type 0
OnceLent x₀ x₁ t content stay = x₁ ≡ x₀
OnceLent x₀ x₁ t content (entry j v) =
    clashes_in x₀ j (own_in (own_read j v t)) ≡ false → x₁ ≡ lent_with (eqb j wire_serial_row) x₀ j (own_in (own_read j v t)) content
OnceLent x₀ x₁ t content (begin i j v) = x₁ ≡ with_inner (replicate (length x₀.inner) false) x₀
OnceLent x₀ x₁ t content shut = Unit {0}
OnceLent x₀ x₁ t content (refuse k) = Unit {0}

pub record OnceLine (a : Act) (n : Now) (content : Span) (x₀ x₁ : Lent) (t₀ t₁ : List ℤ) (r : Step) : Type 0 where
  pub answer : r ≡ once_step n x₀ t₀ a
  pub records : OnceRecords t₀ t₁ a
  pub lent : OnceLent x₀ x₁ t₀ content a

-- ── a line with a key, in a wire that is read ──
-- "0 to 2" of `direc`; the rows that stand once are marked
abbrev pub full_at : List Bool → List ℤ → ℕ → Bool
full_at marks t j = cond (eqb j first_group_row) (leb most_direcs (count_at wire_direcs t)) (get_or marks j false)

-- E_wire
abbrev pub range_in : List ℕ → ℕ
range_in tally = get_or tally tally_wire_range 0

-- an element behind anything else
abbrev pub misplaced : Now → ℕ → Bool
misplaced n j = is_element_row j && eqb n.part wire_past

module _ (known : Known) (c : Class) (range : ℕ) (n : Now) (at : Where) (x₀ x₁ : Lent) (t₀ t₁ : List ℤ) (r : Step) where
  abbrev pub UnknownInWire : Skipped → Rest → Type 0
  UnknownInWire k rest = UnknownLine c.wires (digits_of range) (past_now n) x₀ x₁ t₀ t₁ r k rest

  -- by whether it is a row of the front
  abbrev pub RowInWire : Rest → Bool → Act → Type 0
  RowInWire rest true a = FrontLine a range n at t₀ t₁ r × (x₁ ≡ x₀)
  RowInWire rest false a = OnceLine a n (content_at rest) x₀ x₁ t₀ t₁ r

  -- by whether it is misplaced, and whether the wire part knows it
  abbrev pub FoundInWire : Skipped → Rest → ℕ → Rule → Bool → Bool → Type 0
  FoundInWire k rest j w true known-row = r ≡ not_here rest
  FoundInWire k rest j w false true = RowInWire rest (is_front_row j) (act_row known (digits_of range) (full_at x₀.marks t₀ j) j w rest)
  FoundInWire k rest j w false false = UnknownInWire k rest

  abbrev pub KeyInWire : Skipped → Rest → Found → Type 0
  KeyInWire k rest absent = UnknownInWire k rest
  KeyInWire k rest (found j w) = FoundInWire k rest j w (misplaced n j) (reaches c.wires w.least)

-- ── its end ──
abbrev pub former_cleared : List ℤ → List ℤ
former_cleared t = set (set (set t former_x (pos 0)) former_y (pos 0)) former_row (pos 0)

-- "8: something required missing, at the closing line": what the file allows and the wire part knows is required
abbrev pub wire_whole : Digits → ℕ → List Bool → Bool
wire_whole wires range marks = complete (both wires (digits_of range)) (table_of table_wire) (take rows_wire marks)

abbrev pub wire_counted : ℕ → Now → List ℤ → List ℤ
wire_counted range n t = set (set (former_cleared t) wire_elements (pos n.points)) wire_join_digit (pos (range / 100))

-- the states of what E_wire allows and these digits don't know
abbrev pub states_marked : Digits → ℕ → List ℤ → List ℤ
states_marked d range t = take width t ++ mark_unread d (digits_of range) wire_table (drop width t)

abbrev pub wire_closed : Digits → ℕ → Now → List ℤ → List ℤ
wire_closed wires range n t = states_marked wires range (wire_counted range n t)

pub record WireShut (wires : Digits) (range : ℕ) (n : Now) (marks : List Bool) (t₀ t₁ : List ℤ) (r : Step) : Type 0 where
  pub answer : r ≡ cond (wire_whole wires range marks) (S.Go (figure_done n)) (S.Stop 8)
  pub records : wire_whole wires range marks ≡ true → t₁ ≡ wire_closed wires range n t₀

-- ── a line directly in a wire that is read ──
module _ (known : Known) (c : Class) (range : ℕ) (n : Now) (at : Where) (x₀ x₁ : Lent) (t₀ t₁ : List ℤ) (r : Step) where
  abbrev pub ReadLine : Form → Type 0
  ReadLine ignored = (r ≡ S.Go n) × (x₁ ≡ x₀) × (t₁ ≡ t₀)
  ReadLine (wrong m) = r ≡ S.Stop m
  ReadLine close = WireShut c.wires range n x₀.marks t₀ t₁ r × (x₁ ≡ x₀)
  ReadLine eof = r ≡ S.Stop 9
  ReadLine (keyed k rest) = KeyInWire known c range n at x₀ x₁ t₀ t₁ r (skipped_as (skip_of k rest)) rest (find k (table_of table_wire))

-- ── a line in its text, whose own record stands at the front ──
abbrev pub text_read : ℕ → Value → List ℤ → List ℤ
text_read j v t = with_part 0 (put_line (rule_at (table_of table_layer_text) j) 0 v (part_at 0 t)) t

abbrev pub text_act : Known → List Bool → Form → Act
text_act known inner f = act known (table_of table_layer_text) (digits 0 0) inner f

abbrev pub text_step : Now → Act → Step
text_step n stay = S.Go n
text_step n (entry j v) = S.Go n
text_step n (begin i j v) = S.Stop 5
text_step n shut = S.Go (past_now n)
text_step n (refuse k) = S.Stop k

abbrev pub TextRecords : List ℤ → List ℤ → Act → Type 0
TextRecords t₀ t₁ stay = t₁ ≡ t₀
TextRecords t₀ t₁ (entry j v) = t₁ ≡ text_read j v t₀
TextRecords t₀ t₁ (begin i j v) = Unit {0}
TextRecords t₀ t₁ shut = t₁ ≡ shelved text_from text_shelf t₀
TextRecords t₀ t₁ (refuse k) = Unit {0}

pub record TextInWire (a : Act) (n : Now) (inner₀ inner₁ : List Bool) (t₀ t₁ : List ℤ) (r : Step) : Type 0 where
  pub answer : r ≡ text_step n a
  pub inner : PlacedTextMarks inner₀ inner₁ a
  pub records : TextRecords t₀ t₁ a

-- ── a line of a wire that is skipped whole ──
-- with so many skipped blocks open in it
abbrev pub open_skipped : Now → ℕ → Now
open_skipped n d =
    record {
      block = n.block;
      part = n.part;
      layered = n.layered;
      owner = n.owner;
      records = n.records;
      figures = n.figures;
      points = d;
    }

abbrev pub skipped_step : Now → Skipped → Step
skipped_step n K.Passes = S.Go n
skipped_step n K.Deeper = cond (ltb n.points most_depth) (S.Go (open_skipped n (n.points + 1))) (S.Stop 18)
skipped_step n K.Shut = cond (eqb n.points 0) (S.Go (figure_done n)) (S.Go (open_skipped n (n.points - 1)))
skipped_step n (K.Refuse k) = S.Stop k

-- "marked unread", with the states of what E_wire allows
abbrev pub marked_unread : ℕ → List ℤ → List ℤ
marked_unread range t = set (set (states_marked (digits 0 0) range t) wire_mark unread_mark) wire_more_mark unread_mark

abbrev pub skipped_put : ℕ → Now → List ℤ → Skipped → List ℤ
skipped_put range n t K.Passes = t
skipped_put range n t K.Deeper = t
skipped_put range n t K.Shut = cond (eqb n.points 0) (marked_unread range t) t
skipped_put range n t (K.Refuse k) = t

pub record SkippedLine (range : ℕ) (n : Now) (k : Skipped) (t₀ t₁ : List ℤ) (r : Step) : Type 0 where
  pub answer : r ≡ skipped_step n k
  pub records : t₁ ≡ skipped_put range n t₀ k

-- ── a line of a wire: skipped whole, in its text, or directly in it ──
module _ (known : Known) (c : Class) (range : ℕ) (n : Now) (at : Where) (x₀ x₁ : Lent) (t₀ t₁ : List ℤ) (r : Step) where
  abbrev pub WireLine : Bool → Bool → Form → Type 0
  WireLine true text f = SkippedLine range n (skipped_by f) t₀ t₁ r × (x₁ ≡ x₀)
  WireLine false true f =
      TextInWire (text_act known x₀.inner f) n x₀.inner x₁.inner t₀ t₁ r × (x₁ ≡ with_inner x₁.inner x₀)
  WireLine false false f = ReadLine known c range n at x₀ x₁ t₀ t₁ r f

-- ── what the code needs ──
-- a row that was found in a wire's table
abbrev pub RowOfWire : Row → Type 0
RowOfWire w = rule_of w ≡ for_line (rule_at (table_of table_wire) w.number)

-- a count among the wire's numbers
pub record CountGiven (z : ℤ) : Type 0 where
  pub positive : non_neg z ≡ true
  pub most : nat_abs z < 4294967295

-- the scratch: its length, and the counts of what repeats
pub record ShelvesReady (t : List ℤ) : Type 0 where
  pub scratch : length t ≡ scratch_length
  pub direcs : CountGiven (get_or t wire_direcs (pos 0))
  pub piends : CountGiven (get_or t wire_piends (pos 0))
  pub nums : CountGiven (get_or t wire_nums (pos 0))
  pub texts : CountGiven (get_or t wire_texts (pos 0))

-- what is open: there is room for one more of each
pub record NowReady (n : Now) : Type 0 where
  pub figures : n.figures < 4294967295
  pub points : n.points < 4294967295
  pub records : n.records < 18446744073709551615

pub record WireReady (x : Lent) (n : Now) (t : List ℤ) : Type 0 where
  pub lent : LentReady x
  pub open-wire : NowReady n
  pub shelves : ShelvesReady t
