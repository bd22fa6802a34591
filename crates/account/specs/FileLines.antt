-- FILE_FORMAT, line by line: which of its parts is open, what its lines leave in the header kept apart, and what its close makes of it.
use Rattle.std.specs.Prelude.{ℕ, zero, suc, ◌+◌, ◌-◌, ◌≤◌, ◌≡◌, Bool, true, false, cond, ◌&&◌, ◌||◌, List, [], ◌∷◌, map, eqb, ltb, ℤ, pos, negsuc, nat_abs, length, get_or, set, take, drop}
use Rattle.std.proofs.lemmas.List.Edits.{sets}
use Rattle.rules.specs.Base.{all, same}
use Rattle.rules.specs.Lines.{span, bytes_at}
use Rattle.rules.specs.Values.{capital}
use Rattle.rules.specs.Rows.{Act, stay, entry, begin, shut, refuse}
use Rattle.rules.specs.RecordTable.{rule_at}
use Rattle.rules.specs.Blocks.{around}
use Rattle.tables.specs.Tables.{table_of}
use Rattle.entries.specs.Acts.{put_line}
use Rattle.account.specs.declared.Now.{Now}
use Rattle.account.specs.declared.Step.{Step}
use Rattle.account.specs.declared.Step.TheVariants as S
use Rattle.account.specs.Account.{at_block}
use Rattle.tables.specs.Numbering.{table_file, table_later}
use Rattle.account.specs.Numbering.{block_top, block_file, turn_drawing, turn_element, tally_arc, tally_date, tally_time, tally_here, tally_length, most_rows, header_length}
use Rattle.account.specs.Numbering.{rows_file, rows_later, marks_range, marks_base, marks_elec, marks_sym, row_next_file, row_later_next_file, row_later_date, row_later_time}
use Rattle.account.specs.Numbering.{header_arc, header_symbol_range, header_define_range, header_all, header_date, header_time, header_here, header_later_here}
use Rattle.account.specs.Numbering.{header_last, header_last_length, header_next_file, header_next_file_length, header_later_date, header_later_time}
use Rattle.account.specs.Numbering.{inner_elec, row_wire_range, header_wire_range, tally_wire_range}
use Rattle.rules.specs.RecordTable.{width}

-- ── the parts ──
-- FILE_FORMAT's own part is 0; `range`, `base`, `elec` and `sym` are 1 to 4. A later volume has the first alone.
pub record PartOpen (first : Bool) (p : ℕ) : Type 0 where
  pub five : p ≤ 4
  pub later : first ≡ false → p ≡ 0

-- the table of a part, by number
abbrev pub file_table_of : Bool → ℕ → ℕ
file_table_of true p = p + table_file
file_table_of false p = table_later

-- where the marks of a part's rows begin and end: those of the five parts stand one behind the other
abbrev pub marks_from : ℕ → ℕ
marks_from zero = 0
marks_from (suc zero) = marks_range
marks_from (suc (suc zero)) = marks_base
marks_from (suc (suc (suc zero))) = marks_elec
marks_from (suc (suc (suc (suc p)))) = marks_sym

abbrev pub marks_to : Bool → ℕ → ℕ
marks_to first zero = cond first rows_file rows_later
marks_to first (suc zero) = marks_base
marks_to first (suc (suc zero)) = marks_elec
marks_to first (suc (suc (suc zero))) = marks_sym
marks_to first (suc (suc (suc (suc p)))) = most_rows

abbrev pub part_marks : Bool → ℕ → List Bool → List Bool
part_marks first p marks = take (marks_to first p - marks_from p) (drop (marks_from p) marks)

-- ── the header kept apart ──
-- `header_length` numbers: the records of the first volume (64) or of a later one (32), what a row without a place left last, next_file's
-- place and length, a later volume's date and time, the first one's E_wire. All are counts.
abbrev pub is_count : ℤ → Bool
is_count (pos n) = ltb n 4294967296
is_count (negsuc n) = false

abbrev pub as_count : ℤ → ℕ
as_count z = nat_abs z

abbrev pub count_at : List ℤ → ℕ → ℕ
count_at h i = as_count (get_or h i (pos 0))

pub record Header (h : List ℤ) : Type 0 where
  pub long : length h ≡ header_length
  pub counts : all is_count h ≡ true

-- what is kept behind a row without a place: next_file, and in a later volume date and time
abbrev pub kept_name : List ℤ → List ℤ
kept_name h = sets h header_next_file (get_or h header_last (pos 0) ∷ get_or h header_last_length (pos 0) ∷ [])

abbrev pub kept_first : ℕ → List ℤ → List ℤ
kept_first row h = cond (eqb row row_next_file) (kept_name h) h

abbrev pub kept_later : ℕ → List ℤ → List ℤ
kept_later row h =
    cond (eqb row row_later_next_file) (kept_name h)
    (cond (eqb row row_later_date) (set h header_later_date (get_or h header_last (pos 0)))
    (cond (eqb row row_later_time) (set h header_later_time (get_or h header_last (pos 0))) h))

abbrev pub kept : Bool → ℕ → List ℤ → List ℤ
kept true row h = kept_first row h
kept false row h = kept_later row h

-- of the inner parts, `elec` has E_wire to keep
abbrev pub kept_wires : ℕ → ℕ → List ℤ → List ℤ
kept_wires p row h = cond (eqb p inner_elec && eqb row row_wire_range) (set h header_wire_range (get_or h header_last (pos 0))) h

abbrev pub kept_in : Bool → ℕ → ℕ → List ℤ → List ℤ
kept_in first zero row h = kept first row h
kept_in first (suc p) row h = kept_wires (suc p) row h

-- ── the close ──
-- "next_file names the next volume (a-z read as A-Z) and is empty in the last"
abbrev pub chained_to : List ℕ → List ℕ → List ℤ → Bool
chained_to s following h = same (map capital (bytes_at s (span (count_at h header_next_file) (count_at h header_next_file_length)))) following

-- "date and time agree over the set"
abbrev pub dated_as : List ℕ → List ℤ → Bool
dated_as tally h = eqb (count_at h header_later_date) (get_or tally tally_date 0) && eqb (count_at h header_later_time) (get_or tally tally_time 0)

abbrev pub agrees : List ℕ → List ℕ → Bool → List ℕ → List ℤ → Bool
agrees s following first tally h = chained_to s following h && (first || dated_as tally h)

-- "16: volume chain, date or time unlike volume 1's, at FILE_FORMAT's close"
abbrev pub closed_file : List ℕ → List ℕ → Bool → Now → List ℕ → List ℤ → Step
closed_file s following first n tally h = cond (agrees s following first tally h) (S.Go (at_block n block_top (cond first turn_drawing turn_element))) (S.Stop 16)

-- what the header says of the set: the ranges arc, E_sym, S_elec; date, time, all_ele
abbrev pub ranges_tally : List ℤ → List ℕ → List ℕ
ranges_tally h tally = sets tally tally_arc (count_at h header_arc ∷ count_at h header_symbol_range ∷ count_at h header_define_range ∷ [])

abbrev pub set_tally : List ℤ → List ℕ → List ℕ
set_tally h tally = sets tally tally_date (count_at h header_date ∷ count_at h header_time ∷ count_at h header_all ∷ [])

-- .. and E_wire
abbrev pub wires_tally : List ℤ → List ℕ → List ℕ
wires_tally h tally = set tally tally_wire_range (count_at h header_wire_range)

-- and of the volume at hand: this_ele, of which none is counted yet
abbrev pub here_tally : ℕ → List ℕ → List ℕ
here_tally this tally = sets tally tally_here (this ∷ 0 ∷ [])

abbrev pub first_tally : List ℤ → List ℕ → List ℕ
first_tally h tally = wires_tally h (here_tally (count_at h header_here) (set_tally h (ranges_tally h tally)))

abbrev pub later_tally : List ℤ → List ℕ → List ℕ
later_tally h tally = here_tally (count_at h header_later_here) tally

abbrev pub closed_tally : Bool → List ℤ → List ℕ → List ℕ
closed_tally true h tally = first_tally h tally
closed_tally false h tally = later_tally h tally

-- "1 header", and "2 volume: this_line, this_ele; after the header"
abbrev pub file_width : Bool → ℕ
file_width true = width + width
file_width false = width

pub record FileClosed (s following : List ℕ) (first : Bool) (n : Now) (h : List ℤ) (tally₀ tally₁ : List ℕ) (r : Step) : Type 0 where
  pub answer : r ≡ closed_file s following first n tally₀ h
  pub tally : agrees s following first tally₀ h ≡ true → tally₁ ≡ closed_tally first h tally₀

-- ── a line ──
abbrev pub shut_file : ℕ → Step → Now → Step
shut_file zero whole n = whole
shut_file (suc p) whole n = S.Go (at_block n block_file (around (suc p)))

abbrev pub file_step : List ℕ → List ℕ → Bool → Now → List ℕ → List ℤ → Act → Step
file_step s following first n tally h stay = S.Go n
file_step s following first n tally h (entry j v) = S.Go n
file_step s following first n tally h (begin i j v) = S.Go (at_block n block_file i)
file_step s following first n tally h shut = shut_file n.part (closed_file s following first n tally h) n
file_step s following first n tally h (refuse k) = S.Stop k

-- the marks after the line; after a refusal nothing is said of what is lent
abbrev pub FileMarks : ℕ → List Bool → List Bool → Act → Type 0
FileMarks p m₀ m₁ stay = m₁ ≡ m₀
FileMarks p m₀ m₁ (entry j v) = m₁ ≡ set m₀ (marks_from p + j) true
FileMarks p m₀ m₁ (begin i j v) = m₁ ≡ set m₀ (marks_from p + j) true
FileMarks p m₀ m₁ shut = m₁ ≡ m₀
FileMarks p m₀ m₁ (refuse k) = Unit {0}

abbrev pub FileHeader : Bool → ℕ → List ℤ → List ℤ → Act → Type 0
FileHeader first p h₀ h₁ stay = h₁ ≡ h₀
FileHeader first p h₀ h₁ (entry j v) = h₁ ≡ kept_in first p j (put_line (rule_at (table_of (file_table_of first p)) j) header_last v h₀)
FileHeader first p h₀ h₁ (begin i j v) = h₁ ≡ put_line (rule_at (table_of (file_table_of first p)) j) header_last v h₀
FileHeader first p h₀ h₁ shut = h₁ ≡ h₀
FileHeader first p h₀ h₁ (refuse k) = Unit {0}

-- FILE_FORMAT's own close changes the tally, where the volume agrees with the set; no other line does
abbrev pub Shut : ℕ → Bool → List ℕ → List ℕ → List ℕ → Type 0
Shut zero b x₀ x₁ x = b ≡ true → x₁ ≡ x
Shut (suc p) b x₀ x₁ x = x₁ ≡ x₀

abbrev pub AtShut : ℕ → Bool → List ℕ → List ℕ → List ℕ → Act → Type 0
AtShut p b x₀ x₁ x stay = x₁ ≡ x₀
AtShut p b x₀ x₁ x (entry j v) = x₁ ≡ x₀
AtShut p b x₀ x₁ x (begin i j v) = x₁ ≡ x₀
AtShut p b x₀ x₁ x shut = Shut p b x₀ x₁ x
AtShut p b x₀ x₁ x (refuse k) = Unit {0}

pub record FileLine (a : Act) (s following : List ℕ) (first : Bool) (n : Now) (tally₀ tally₁ : List ℕ) (m₀ m₁ : List Bool) (h₀ h₁ : List ℤ) (r : Step) : Type 0 where
  pub answer : r ≡ file_step s following first n tally₀ h₀ a
  pub tally : AtShut n.part (agrees s following first tally₀ h₀) tally₀ tally₁ (closed_tally first h₀ tally₀) a
  pub marks : FileMarks n.part m₀ m₁ a
  pub header : FileHeader first n.part h₀ h₁ a

-- what a line finds
pub record FileReady (first : Bool) (n : Now) (tally : List ℕ) (m : List Bool) (h : List ℤ) : Type 0 where
  pub part : PartOpen first n.part
  pub twelve : length tally ≡ tally_length
  pub marks : length m ≡ most_rows
  pub header : Header h
