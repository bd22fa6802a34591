-- The top level: what the code answers to a line there, and what it leaves in the numbers and marks that it was lent.
use Rattle.std.specs.Prelude.{ℕ, zero, suc, ◌+◌, Bool, true, false, ◌&&◌, ◌≡◌, List, eqb, ℤ, pos, length, get_or, take, replicate}
use Rattle.rules.specs.Base.{all}
use Rattle.rules.specs.RefusalNumbers.{Got, got, bad, unless}
use Rattle.rules.specs.Lines.{Form, ignored, wrong, close, eof, keyed}
use Rattle.rules.specs.Values.{Known}
use Rattle.rules.specs.Rows.{Act, stay, entry, begin, shut, refuse, act}
use Rattle.rules.specs.RangeClass.{digits}
use Rattle.tables.specs.Tables.{table_of}
use Rattle.account.specs.declared.Now.{Now}
use Rattle.account.specs.declared.Where.{Where}
use Rattle.account.specs.declared.Step.{Step}
use Rattle.account.specs.declared.Step.TheVariants as S
use Rattle.account.specs.Account.{at_block, head_at}
use Rattle.tables.specs.Numbering.{table_top}
use Rattle.account.specs.Numbering.{block_file, block_drawing, block_defines, block_elements, block_ended, turn_eof, rows_top, tally_all, tally_total, tally_layers}
use Rattle.rules.specs.RecordTable.{width, kind_header, kind_volume, kind_drawing}

-- ── the answer ──
-- what is open now, or the refusal
abbrev pub step_of : Got Now → Step
step_of (got n) = S.Go n
step_of (bad k) = S.Stop k

-- what is said of a line, where it isn't refused
abbrev pub Unrefused : Got Now → Type 0 → Type 0
Unrefused (got n) P = P
Unrefused (bad k) P = Unit {0}

-- the answer, and what is so on return; after a refusal nothing is said
pub record Answered (g : Got Now) (P : Type 0) (r : Step) : Type 0 where
  pub answer : r ≡ step_of g
  pub lent : Unrefused g P

-- ── the tally ──
-- all_ele, and the figures in the closed volumes
abbrev pub all_of : List ℕ → ℕ
all_of tally = get_or tally tally_all 0

abbrev pub total_of : List ℕ → ℕ
total_of tally = get_or tally tally_total 0

-- how many layers have names
abbrev pub layers_of : List ℕ → ℕ
layers_of tally = get_or tally tally_layers 0

-- ── EOF ──
-- "9 (EOF misplaced, at EOF's line, also if any line follows it)", then "14 (unused, at EOF)", then "17 (all_ele at EOF)"
abbrev pub eof_now : Now → Where → List ℕ → List Bool → Got Now
eof_now n at tally used =
    unless (eqb n.part turn_eof && at.ends) 9
    (unless (all (λ b. b) (take (layers_of tally) used)) 14
    (unless (eqb (all_of tally) (total_of tally)) 17
    (got (at_block n block_ended 0))))

-- ── a block opens ──
-- what the line of a block's opening may change
pub record TopLent : Type 0 where
  pub marks : List Bool
  pub used : List Bool
  pub header : List ℤ
  pub rec : List ℤ

abbrev pub top_lent : List Bool → List Bool → List ℤ → List ℤ → TopLent
top_lent marks used header rec = record { marks = marks; used = used; header = header; rec = rec }

-- it takes so many records
abbrev pub records_taken : Now → ℕ → ℕ → Now
records_taken n block more = record { block = block; part = 0; layered = false; owner = 0; records = n.records + more; figures = 0; points = 0 }

abbrev pub unmarked : List Bool → List Bool
unmarked marks = replicate (length marks) false

-- "1 header", and "2 volume: this_line, this_ele; after the header"
abbrev pub header_begun : Bool → Where → List ℤ → List ℤ
header_begun true at h = head_at width kind_volume 0 at (head_at 0 kind_header 0 at (replicate (length h) (pos 0)))
header_begun false at h = head_at 0 kind_volume 0 at (replicate (length h) (pos 0))

-- FILE_FORMAT takes two records in the first volume, and one in others
abbrev pub file_takes : Bool → ℕ
file_takes true = 2
file_takes false = 1

-- the blocks by the rows of the table: FILE_FORMAT, DRAWING_FORMAT, SYMBOL_DEFINE, ELEMENT
abbrev pub opened_now : Bool → Now → ℕ → Now
opened_now first n zero = records_taken n block_file (file_takes first)
opened_now first n (suc zero) = records_taken n block_drawing 1
opened_now first n (suc (suc zero)) = at_block n block_defines 0
opened_now first n (suc (suc (suc j))) = at_block n block_elements 0

abbrev pub opened_lent : Bool → Where → ℕ → TopLent → TopLent
opened_lent first at zero l = top_lent (unmarked l.marks) l.used (header_begun first at l.header) l.rec
opened_lent first at (suc zero) l = top_lent (unmarked l.marks) l.used l.header (head_at 0 kind_drawing 0 at l.rec)
opened_lent first at (suc (suc zero)) l = l
opened_lent first at (suc (suc (suc j))) l = top_lent l.marks (unmarked l.used) l.header l.rec

-- "FILE_FORMAT, DRAWING_FORMAT, SYMBOL_DEFINE, ELEMENT, each once in this order"
abbrev pub block_now : Bool → Now → ℕ → Got Now
block_now first n j = unless (eqb j n.part) 9 (got (opened_now first n j))

-- ── a line ──
-- with a key, by what its act is
abbrev pub key_now : Bool → Now → Act → Got Now
key_now first n stay = got n
key_now first n (entry j v) = bad 5
key_now first n (begin i j v) = block_now first n j
key_now first n shut = bad 9
key_now first n (refuse k) = bad k

abbrev pub key_lent : Bool → Where → TopLent → Act → TopLent
key_lent first at l stay = l
key_lent first at l (entry j v) = l
key_lent first at l (begin i j v) = opened_lent first at j l
key_lent first at l shut = l
key_lent first at l (refuse k) = l

-- no row stands once: a block that comes twice is out of its order
abbrev pub top_act : Known → Form → Act
top_act k f = act k (table_of table_top) (digits 0 0) (replicate rows_top false) f

-- with any form
abbrev pub top_now : Known → Bool → Now → Where → List ℕ → List Bool → Form → Got Now
top_now k first n at tally used ignored = got n
top_now k first n at tally used (wrong m) = bad m
top_now k first n at tally used close = bad 9
top_now k first n at tally used eof = eof_now n at tally used
top_now k first n at tally used (keyed key c) = key_now first n (top_act k (keyed key c))

abbrev pub top_lent_by : Known → Bool → Where → TopLent → Form → TopLent
top_lent_by k first at l ignored = l
top_lent_by k first at l (wrong m) = l
top_lent_by k first at l close = l
top_lent_by k first at l eof = l
top_lent_by k first at l (keyed key c) = key_lent first at l (top_act k (keyed key c))
