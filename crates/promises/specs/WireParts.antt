-- The wire part of a class where there is no wire. Document 02: "The class gets a wire part of the same two digits, 1 to 8 or 11 to 18, or
-- 0", and "A class with 0 skips whole wires where the file's E_wire isn't 000". Where it is 000 no wire stands, so that any two wire parts
-- give the same: the answer, the records, the table. This is said of accepted sets and of refused spools alike.
use Rattle.std.specs.Prelude.{ℕ, ◌/◌, true, List, [], ◌∷◌, ◌≡◌, Option, Some, None}
use Rattle.rules.specs.declared.Class.{Class}
use Rattle.rules.specs.RefusalNumbers.{Got, got, bad}
use Rattle.rules.specs.Spool.{Volume, volumes_of}
use Rattle.rules.specs.RangeClass.{is_wire_part, class_of}
use Rattle.rules.specs.Sets.{Set, nothing_yet, wire_range}
use Rattle.rules.specs.Machine.{Line, Env, State, top, set_of}
use Rattle.rules.specs.LineByLine.{accepted, step}
use Rattle.rules.specs.RecordTable.{width}
use Rattle.rules.specs.Answers.{Listed, listed, no_lines, list_volumes, read_outcome, read_answer, read_records, read_table}

-- ── the set as far as it is read: up to the line that is refused, or the whole of it ──
abbrev pub go_on : Got State → Set → (State → Set) → Set
go_on (got st) s further = further st
go_on (bad n) s further = s

abbrev pub read_up_to : Env → State → List Line → Set
read_up_to e st [] = set_of st
read_up_to e st (l ∷ ls) = go_on (step e l st) (set_of st) (λ st'. read_up_to e st' ls)

abbrev pub set_of_lines : Env → Listed → Set
set_of_lines e (listed ls) = read_up_to e (top nothing_yet 0) ls
set_of_lines e (no_lines v) = nothing_yet

abbrev pub set_of_volumes : Env → Option (List Volume) → Set
set_of_volumes e None = nothing_yet
set_of_volumes e (Some vs) = set_of_lines e (list_volumes 1 vs)

abbrev pub set_at : Option Class → ℕ → List ℕ → Set
set_at None m spool = nothing_yet
set_at (Some c) m spool = set_of_volumes (record { class = c; limit = Some m }) (volumes_of spool)

-- of a spool, by the reader
abbrev pub set_read : ℕ → ℕ → ℕ → List ℕ → Set
set_read class wire len spool = set_at (class_of class wire) (len / width) spool

-- ── two wire parts of one class ──
pub record SameRead (class one other len : ℕ) (spool : List ℕ) : Type 0 where
  pub answer : read_answer class one len spool ≡ read_answer class other len spool
  pub records : read_records class one len spool ≡ read_records class other len spool
  pub table : read_table class one len spool ≡ read_table class other len spool

pub record WireParts : Type 0 where
  -- every spool, as long as E_wire is 000 in what is read of it
  pub so_far : (class one other : ℕ) → is_wire_part one ≡ true → is_wire_part other ≡ true
      → (len : ℕ) (spool : List ℕ) → wire_range (set_read class one len spool) ≡ 0 → SameRead class one other len spool
  -- an accepted one: "the file's E_wire"
  pub whole : (class one other : ℕ) → is_wire_part one ≡ true → is_wire_part other ≡ true
      → (len : ℕ) (spool : List ℕ) (set : Set) → read_outcome class one len spool ≡ accepted set → wire_range set ≡ 0
      → SameRead class one other len spool
