-- What the programs print of a reading. Document 01, "What the base reads": "prints one line `answer volume line records` in decimal, single spaces, newline at the
-- end; if accepted, one line of 32 numbers per record follows". `Answers: printed` says it of the definitions' records; the programs have the
-- answer and the lent table.
use Rattle.std.specs.Prelude.{ℕ, ◌*◌, List, [], ◌∷◌, ◌++◌, map, ◌≡◌, ℤ, pos, negsuc, Ok}
use Rattle.rules.specs.Base.{bytes, flat}
use Rattle.rules.specs.RecordTable.{width}
use Rattle.rules.specs.Answers.{answer_count, refusal, read_records, read_answer, read_table, full_number, full_wire, own_records, print_line, first_line, printed}
use Rattle.promises.specs.TableTexts.{first_records}

-- the lines of a table's first n records, one after the other
abbrev pub record_lines : ℕ → List ℤ → List ℕ
record_lines n t = flat (map print_line (first_records n t))

-- what is written from the answer and the table that a reading gives
abbrev pub listing : ℕ → ℕ → ℕ → List ℕ → List ℕ
listing class wire len spool =
    print_line (first_line (read_answer class wire len spool))
    ++ record_lines (answer_count (read_answer class wire len spool)) (read_table class wire len spool)

-- accclass, for any class, wire part and table: the answer's line, then a line for each record that the rules give
abbrev pub ListingPrints : Type 0
ListingPrints =
    (class wire len : ℕ) (spool : List ℕ)
    → listing class wire len spool ≡ print_line (first_line (read_answer class wire len spool)) ++ flat (map print_line (read_records class wire len spool))

-- accread, whose table has 256 records
abbrev pub ProgramPrints : Type 0
ProgramPrints = (spool : List ℕ) → listing full_number full_wire (own_records * width) spool ≡ printed spool

-- Both sides of these go by `first_line` and `print_line`: what these are, computed. An empty spool; a refusal, an acceptance; numbers of either
-- sign, "single spaces, newline at the end".
abbrev ended : List ℕ → List ℕ
ended s = s ++ 10 ∷ []

pub record SamplesPrint : Type 0 where
  pub empty : printed [] ≡ ended (bytes "2 0 0 0")
  pub refused : print_line (first_line (refusal 15 1 61)) ≡ ended (bytes "15 1 61 0")
  pub accepted : print_line (first_line (Ok 9)) ≡ ended (bytes "0 0 0 9")
  pub numbers : print_line (pos 12 ∷ negsuc 154999 ∷ pos 0 ∷ []) ≡ ended (bytes "12 -155000 0")
