-- Demand 2, its words: "A set accepted at class 15, written in the fixed form and read back, gives the same records and texts, places
-- apart, and writing it twice changes nothing more." "Class 15 in demand 2, the rewriter and the program has wire part 18."
use Rattle.std.specs.Prelude.{ℕ, ◌*◌, ◌≤◌, List, map, ◌≡◌, length, Ok}
use Rattle.rules.specs.Base.{map_o}
use Rattle.rules.specs.Spool.{names_of, volumes_of}
use Rattle.rules.specs.Sets.{Set}
use Rattle.rules.specs.LineByLine.{accepted}
use Rattle.rules.specs.RecordTable.{width}
use Rattle.rules.specs.Answers.{read_outcome, read_answer, read_records, full_number, full_wire, rewrite_outcome, written, rewrite_answer}
use Rattle.promises.specs.PlacesApart.{bare_set, places_apart}
use Rattle.promises.specs.TableTexts.{texts_of}
use Rattle.promises.specs.TextsKept.{texts_of_wires}

-- what is true of a spool whose set is s, and of its fixed form
pub record RoundTrip (spool : List ℕ) (s : Set) : Type 0 where
  -- the fixed form is never longer than the spool it came from
  pub no_longer : length (written spool) ≤ length spool
  -- so the rewriter accepts with every output as long as the spool, or longer
  pub writes : (size : ℕ) → length spool ≤ size → rewrite_answer size spool ≡ Ok (length (written spool))
  -- and the reader at class 15 with every table in which the set's records fit
  pub many : ℕ
  pub reads : (len : ℕ) → many * width ≤ len → read_answer full_number full_wire len spool ≡ Ok many
  -- "Same volumes, names and record order": the fixed form has as many volumes, their names the same in the same order
  pub names : map_o names_of (volumes_of (written spool)) ≡ map_o names_of (volumes_of spool)
  -- "read back": it is again a spool that document 01 takes, and accepted at class 15
  pub set : Set
  pub again : rewrite_outcome (written spool) ≡ accepted set
  -- as the same set, places apart, with what no record shows: partner numbers, next_file, a later volume's date and time; of a wire every
  -- line of a key that repeats, in the order written, and every text
  pub whole : bare_set set ≡ bare_set s
  -- "gives the same records, places apart": with a table in which the spool's records fit it gives as many, the same apart from line
  -- numbers and byte places of text
  pub count : (len n : ℕ) → read_answer full_number full_wire len spool ≡ Ok n → read_answer full_number full_wire len (written spool) ≡ Ok n
  pub records : (len n : ℕ) → read_answer full_number full_wire len spool ≡ Ok n
      → map places_apart (read_records full_number full_wire len (written spool)) ≡ map places_apart (read_records full_number full_wire len spool)
  -- "and texts": record by record, the bytes that it points at in its own spool
  pub texts : (len n : ℕ) → read_answer full_number full_wire len spool ≡ Ok n
      → texts_of (written spool) (read_records full_number full_wire len (written spool)) ≡ texts_of spool (read_records full_number full_wire len spool)
  -- of a wire every text and its circuit, with those texts behind the first for which its record has no room
  pub wires : texts_of_wires set ≡ texts_of_wires s
  -- "writing it twice changes nothing more", byte for byte
  pub twice : written (written spool) ≡ written spool

-- what the reader accepts at class 15 with a table of some length, with n records: the rewriter reads it as the same set
pub record Taken (spool : List ℕ) (len n : ℕ) : Type 0 where
  pub set : Set
  pub read : read_outcome full_number full_wire len spool ≡ accepted set
  pub rewritten : rewrite_outcome spool ≡ accepted set
  pub back : RoundTrip spool set
  pub many : back.many ≡ n

-- "A set accepted at class 15": whatever the length of the table with which it is
abbrev pub DemandTwo : Type 0
DemandTwo = (spool : List ℕ) (len n : ℕ) → read_answer full_number full_wire len spool ≡ Ok n → Taken spool len n

-- the same of whatever the rewriter reads, which has no table
abbrev pub WrittenBack : Type 0
WrittenBack = (spool : List ℕ) (s : Set) → rewrite_outcome spool ≡ accepted s → RoundTrip spool s
