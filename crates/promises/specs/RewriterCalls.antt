-- Demand 2 of the reader and the rewriter themselves: calls of them, of which nothing is known but what their contracts say.
use Rattle.std.specs.Prelude.{ℕ, ◌*◌, ◌≤◌, List, map, ◌≡◌, ℤ, length, take, Result, Ok}
use Rattle.rules.specs.Base.{map_o}
use Rattle.rules.specs.Spool.{names_of, volumes_of}
use Rattle.rules.specs.RecordTable.{width}
use Rattle.rules.specs.Answers.{full_number, full_wire, rewrite_outcome, rewrite_answer, rewrite_output}
use Rattle.promises.specs.PlacesApart.{places_apart, bare_outcome}
use Rattle.promises.specs.TableTexts.{first_records, texts_of}
use Rattle.promises.specs.ReaderCalls.{Call}
use Rattle.rules.specs.declared.Refusal.{Refusal}

-- ── a call of the rewriter ──
-- what was lent, what came back, and the contract of `rewrite`
pub record Rewriting : Type 0 where
  pub spool : List ℕ
  pub before : List ℕ
  pub answer : Result ℕ Refusal
  pub after : List ℕ
  pub answers : answer ≡ rewrite_answer (length before) spool
  pub fills : after ≡ rewrite_output (length before) spool

-- ── a call of the reader at class 15 with wire part 18 on a spool, with a table in which n records fit ──
pub record ReadsAll (spool : List ℕ) (n : ℕ) (call : Call) : Type 0 where
  pub full : call.class ≡ full_number
  pub full_wires : call.wire ≡ full_wire
  pub lent : call.spool ≡ spool
  pub room : n * width ≤ length call.before

-- the first n records of its table, line numbers and byte places of text apart
abbrev pub records_shown : ℕ → Call → List (List ℤ)
records_shown n call = map places_apart (first_records n call.after)

-- the bytes that these records point at in the spool that was lent
abbrev pub texts_shown : ℕ → Call → List (List (List ℕ))
texts_shown n call = texts_of call.spool (first_records n call.after)

-- "gives the same records and texts, places apart": one call on the spool, one on what was written
pub record Alike (n : ℕ) (first again : Call) : Type 0 where
  pub accepts : first.answer ≡ Ok n
  pub count : again.answer ≡ Ok n
  pub records : records_shown n again ≡ records_shown n first
  pub texts : texts_shown n again ≡ texts_shown n first

-- "writing it twice changes nothing more"
pub record SameBytes (n : ℕ) (first again : Rewriting) : Type 0 where
  pub count : again.answer ≡ Ok n
  pub bytes : take n again.after ≡ take n first.after

-- what is true of a rewriting that is accepted with n bytes: these are the first n of the output
pub record CallsBack (w : Rewriting) (n : ℕ) : Type 0 where
  pub size : length (take n w.after) ≡ n
  pub no_longer : n ≤ length w.spool
  -- "Same volumes, names": as many volumes, their names the same in the same order
  pub names : map_o names_of (volumes_of (take n w.after)) ≡ map_o names_of (volumes_of w.spool)
  -- the same set, places apart, with what no record shows: partner numbers, next_file, a later volume's date and time
  pub whole : bare_outcome (rewrite_outcome (take n w.after)) ≡ bare_outcome (rewrite_outcome w.spool)
  -- how many records the set has: a table in which they fit is long enough for the spool and for what was written
  pub records : ℕ
  pub reads : (first again : Call) → ReadsAll w.spool records first → ReadsAll (take n w.after) records again → Alike records first again
  pub writes : (again : Rewriting) → again.spool ≡ take n w.after → n ≤ length again.before → SameBytes n w again

abbrev pub RewriterCalls : Type 0
RewriterCalls = (w : Rewriting) (n : ℕ) → w.answer ≡ Ok n → CallsBack w n

-- ── "A set accepted at class 15": by a call of the reader, with a table of any length ──
-- a rewriting of it with an output not shorter than the spool is accepted, and all of the above is true of it, with as many records
pub record RewrittenBack (k : ℕ) (w : Rewriting) : Type 0 where
  pub bytes : ℕ
  pub accepts : w.answer ≡ Ok bytes
  pub back : CallsBack w bytes
  pub many : back.records ≡ k

abbrev pub AcceptedRewrites : Type 0
AcceptedRewrites = (first : Call) (k : ℕ) → first.class ≡ full_number → first.wire ≡ full_wire → first.answer ≡ Ok k → (w : Rewriting) → w.spool ≡ first.spool
    → length w.spool ≤ length w.before → RewrittenBack k w
