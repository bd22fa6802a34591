-- The host's one number, "answer + 100 × volume + 10,000 × line", taken apart again: nothing of the answer but its count is lost in it.
use Rattle.std.specs.Prelude.{ℕ, ◌*◌, ◌/◌, ◌%◌, ◌<◌, List, ◌≡◌, Result, Ok, Err}
use Rattle.rules.specs.declared.Refusal.{Refusal}
use Rattle.rules.specs.RecordTable.{width}
use Rattle.rules.specs.Answers.{answer_count, read_answer, rewrite_answer, own_records, packed, check_answer}

-- the refusal that a number stands for: its last two digits, the two before them, and what is left
abbrev pub refusal_in : ℕ → Refusal
refusal_in p = record { number = p % 100; volume = p / 100 % 100; line = p / 10000 }

-- a number and the answer that it tells: 0 is accepted, any other is that refusal
pub record Tells (p : ℕ) (a : Result ℕ Refusal) : Type 0 where
  pub accepted : p ≡ 0 → a ≡ Ok (answer_count a)
  pub refused : 0 < p → a ≡ Err (refusal_in p)

-- whatever the reader, the rewriter and the check answer, their number tells it
pub record TakenApart : Type 0 where
  pub reader : (class wire len : ℕ) (spool : List ℕ) → Tells (packed (read_answer class wire len spool)) (read_answer class wire len spool)
  pub rewriter : (len : ℕ) (spool : List ℕ) → Tells (packed (rewrite_answer len spool)) (rewrite_answer len spool)
  pub check : (class wire : ℕ) (spool : List ℕ) → Tells (check_answer class wire spool) (read_answer class wire (own_records * width) spool)
