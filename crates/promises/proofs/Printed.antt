-- What a program writes, line by line from the reader's answer and table, is what the rules say it prints.
use Rattle.std.specs.Prelude.{Result, Ok, Err}
use Prim.Native.Nat.{ℕ, ◌*◌}
use mathlib.Core.List.{List, [], ◌++◌, map}
use mathlib.Core.Path.{◌≡◌, refl, ap, sym}
use native.Mathlib.Omega.{arith}
use lib.IntN.{ℤ}
use lib.ListN.{length}
use Rattle.rules.specs.declared.Refusal.{Refusal}
use Rattle.rules.specs.declared.Class.{Class}
use Rattle.rules.specs.Base.{flat}
use Rattle.rules.specs.LineByLine.{Outcome, refused, accepted}
use Rattle.rules.specs.RangeClass.{class_of}
use Rattle.rules.specs.RecordTable.{width}
use Rattle.rules.specs.Answers.{class_or, answer_count, answer_with, records_in, read_outcome, read_records, read_answer, read_table, full_number, full_wire, own_records, print_line, first_line, printed}
use Rattle.promises.specs.Printing.{record_lines, ListingPrints, ProgramPrints, SamplesPrint}
use Rattle.promises.proofs.Calls.{table-records}

-- a refusal has no records
no-records : (c : Class) (o : Outcome) (r : Refusal) → answer_with (length (records_in c o)) o ≡ Err r → records_in c o ≡ []
no-records c (refused n v l) r e = refl
no-records c (accepted s) r e = absurd (let z : ◌≡◌ {A = ℕ} 0 1 = cc in omega arith)

module _ (class wire len : ℕ) (spool : List ℕ) where
  refused_none : (r : Refusal) → read_answer class wire len spool ≡ Err r → read_records class wire len spool ≡ []
  unfolding read_answer read_records
  refused_none r e = no-records (class_or (class_of class wire)) (read_outcome class wire len spool) r e

  lines : (a : Result ℕ Refusal) → read_answer class wire len spool ≡ a → record_lines (answer_count a) (read_table class wire len spool) ≡ flat (map print_line (read_records class wire len spool))
  lines (Ok n) e = ap (λ (rs : List (List ℤ)). flat (map print_line rs)) (table-records class wire len spool n e)
  lines (Err r) e = sym (ap (λ (rs : List (List ℤ)). flat (map print_line rs)) (refused_none r e))

pub listing-prints : ListingPrints
listing-prints class wire len spool =
    ap (λ (s : List ℕ). print_line (first_line (read_answer class wire len spool)) ++ s) (lines class wire len spool (read_answer class wire len spool) refl)

pub program-prints : ProgramPrints
unfolding printed
program-prints spool = listing-prints full_number full_wire (own_records * width) spool

pub samples_print : SamplesPrint
unfolding printed read_answer read_records
samples_print = record { empty = refl; refused = refl; accepted = refl; numbers = refl }
