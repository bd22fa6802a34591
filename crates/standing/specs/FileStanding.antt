-- In FILE_FORMAT: what the code remembers of it. Its numbers are kept apart from the table till it closes.
use Rattle.std.specs.Prelude.{ℕ, ◌<◌, Bool, true, false, ◌≡◌, List, [], ◌++◌, map, ℤ, length, get_or, take, Option, Some, None}
use Rattle.rules.specs.Lines.{span, bytes_at}
use Rattle.rules.specs.Values.{Value, empty, nums, chars, linked, chars_of, capital}
use Rattle.rules.specs.Rows.{Held, part_of, rows_there, slot_value, held, number_of}
use Rattle.rules.specs.Blocks.{elec_table, later_table, file_tables}
use Rattle.rules.specs.Sets.{Set, is_first}
use Rattle.rules.specs.VolumesAndTotals.{own_table}
use Rattle.rules.specs.RecordTable.{columns, put_held, start, rule_at}
use Rattle.account.specs.Placing.{Shaped}
use Rattle.standing.specs.SoFar.{volume_of}
use Rattle.account.specs.Numbering.{header_wire_range}
use Rattle.account.specs.FileLines.{PartOpen, part_marks, Header, count_at, file_width}
use Rattle.standing.specs.Standing.{Desk, Bare}
use Rattle.rules.specs.RecordTable.{kind_header, kind_volume}

-- its records, begun
abbrev pub file_head : Bool → ℕ → ℕ → List ℤ
file_head true k n = start kind_header 0 k n ++ start kind_volume 0 k n
file_head false k n = start kind_volume 0 k n

-- a row of one number holds numbers, or nothing
abbrev pub is_numbers : Option Value → Bool
is_numbers None = true
is_numbers (Some empty) = true
is_numbers (Some (nums v)) = true
is_numbers (Some (chars at c)) = false
is_numbers (Some (linked n ps)) = false

-- FILE_FORMAT of volume k, at line n, holds h so far, and part p of it is open
pub record InFile (spool : List ℕ) (k : ℕ) (d : Desk) (s : Set) (n : ℕ) (h : Held) (p : ℕ) : Type 0 where
  pub volume : k ≡ volume_of s
  pub bare : is_first s ≡ true → Bare s
  pub part : d.now.part ≡ p
  pub parts : PartOpen (is_first s) p
  pub header : Header d.header
  pub shaped : Shaped 0 (file_tables (is_first s)) h
  pub filled : take (file_width (is_first s)) d.header ≡ put_held (file_tables (is_first s)) h (file_head (is_first s) k n)
  pub marked : (q : ℕ) → q < length (file_tables (is_first s)) → part_marks (is_first s) q d.marks ≡ rows_there (part_of h q)
  pub next :
      chars_of (slot_value (held "next_file" (own_table (is_first s)) (part_of h 0)))
      ≡ map capital (bytes_at spool (span (count_at d.header 66) (count_at d.header 67)))
  pub date : is_first s ≡ false → count_at d.header 68 ≡ number_of "date" later_table (part_of h 0)
  pub time : is_first s ≡ false → count_at d.header 69 ≡ number_of "time" later_table (part_of h 0)
  pub wires : is_first s ≡ true → count_at d.header header_wire_range ≡ number_of "E_wire" elec_table (part_of h 3)
  pub counted : (q j : ℕ) → columns (rule_at (get_or (file_tables (is_first s)) q []) j).holds ≡ 1 → is_numbers (get_or (part_of h q) j None) ≡ true
  pub unnamed : held "next_file" (own_table (is_first s)) (part_of h 0) ≡ None → count_at d.header 65 ≡ 0  -- an empty next_file takes its length from there
