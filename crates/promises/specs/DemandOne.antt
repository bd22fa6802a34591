-- Demand 1, the part that speaks of the definitions alone: every spool gets an answer, and the lent memory on return is what that answer
-- says, number for number. (That the code returns these answers and this memory are the contracts of the code; that there is no second
-- answer is said by the theorems `Unique` of its crates.)
use Rattle.std.specs.Prelude.{ℕ, ◌*◌, ◌-◌, ◌≤◌, ◌<◌, Bool, true, false, not, eqb, List, [], ◌∷◌, ◌++◌, ◌≡◌, ℤ, pos, length, replicate, Result, Ok, Err}
use Rattle.rules.specs.declared.Refusal.{Refusal}
use Rattle.rules.specs.Base.{flat, has_number}
use Rattle.rules.specs.Spool.{most_volumes}
use Rattle.rules.specs.Sets.{Set}
use Rattle.rules.specs.LineByLine.{accepted}
use Rattle.rules.specs.RecordTable.{width}
use Rattle.rules.specs.Answers.{refusal, read_records, read_answer, read_table, rewrite_outcome, written, rewrite_answer, rewrite_output}

-- ── an answer ──
-- 1 (class), 2 (spool) and 20 (output) are of the spool as a whole
abbrev pub of_whole : ℕ → Bool
of_whole number = has_number number (1 ∷ 2 ∷ 20 ∷ [])

-- "21, partner not found" is the last
abbrev pub last_number : ℕ
last_number = 21

-- whose numbers: 20 is never the reader's, and the rewriter has all
abbrev pub by_reader : ℕ → Bool
by_reader number = not (eqb number 20)

abbrev pub by_rewriter : ℕ → Bool
by_rewriter number = true

-- "A refusal is one number with volume and line": a number from 1 to the last; a volume from 1 to 12, but 0 and line 0 of the whole spool
pub record Located (whose : ℕ → Bool) (r : Refusal) : Type 0 where
  pub least : 1 ≤ r.number
  pub most : r.number ≤ last_number
  pub known : whose r.number ≡ true
  pub whole : of_whole r.number ≡ true → (r.volume ≡ 0) × (r.line ≡ 0)
  pub in_volume : of_whole r.number ≡ false → (1 ≤ r.volume) × (r.volume ≤ most_volumes)

-- a count, or a refusal
pub data Answered (whose : ℕ → Bool) : Result ℕ Refusal → Type 0 where
  accepted_with : (n : ℕ) → Answered whose (Ok n)
  refused_with : (r : Refusal) → Located whose r → Answered whose (Err r)

-- ── the reader ──
-- each record has 32 numbers
pub data Wide : List (List ℤ) → Type 0 where
  no_record : Wide []
  one_more : {r : List ℤ} {rs : List (List ℤ)} → length r ≡ width → Wide rs → Wide (r ∷ rs)

-- "Accepted: zeros after the last record": n records of 32 numbers stand in the table, and zeros follow
pub record Filled (len n : ℕ) (records : List (List ℤ)) (table : List ℤ) : Type 0 where
  pub count : length records ≡ n
  pub wide : Wide records
  pub fit : n * width ≤ len
  pub stands : table ≡ flat records ++ replicate (len - n * width) (pos 0)

-- what the reader gives back for a class and its wire part, a table of `len` numbers and a spool
pub record Reads (class wire len : ℕ) (spool : List ℕ) : Type 0 where
  pub answer : Answered by_reader (read_answer class wire len spool)
  -- the lent table is as long as it was
  pub size : length (read_table class wire len spool) ≡ len
  -- "Refused: no records, table wholly zero"
  pub when_refused : (r : Refusal) → read_answer class wire len spool ≡ Err r → read_table class wire len spool ≡ replicate len (pos 0)
  pub when_accepted : (n : ℕ) → read_answer class wire len spool ≡ Ok n → Filled len n (read_records class wire len spool) (read_table class wire len spool)

-- ── the rewriter ──
-- "Accepted: zeros after the last byte": n bytes stand in the output, and zeros follow
pub record Written (len n : ℕ) (bytes output : List ℕ) : Type 0 where
  pub count : length bytes ≡ n
  pub fit : n ≤ len
  pub stands : output ≡ bytes ++ replicate (len - n) 0

-- what the rewriter gives back for an output of `len` bytes and a spool
pub record Rewrites (len : ℕ) (spool : List ℕ) : Type 0 where
  pub answer : Answered by_rewriter (rewrite_answer len spool)
  -- the lent output is as long as it was
  pub size : length (rewrite_output len spool) ≡ len
  -- "Refused: output wholly zero"
  pub when_refused : (r : Refusal) → rewrite_answer len spool ≡ Err r → rewrite_output len spool ≡ replicate len 0
  pub when_accepted : (n : ℕ) → rewrite_answer len spool ≡ Ok n → Written len n (written spool) (rewrite_output len spool)
  -- "20 output shorter than the written set": then, and only then (where the reading refuses, nothing is written)
  pub short : (s : Set) → rewrite_outcome spool ≡ accepted s → len < length (written spool) → rewrite_answer len spool ≡ refusal 20 0 0
  pub only_short : (r : Refusal) → rewrite_answer len spool ≡ Err r → r.number ≡ 20 → len < length (written spool)

-- ── demand 1 ──
pub record DemandOne : Type 0 where
  pub reader : (class wire len : ℕ) (spool : List ℕ) → Reads class wire len spool
  pub rewriter : (len : ℕ) (spool : List ℕ) → Rewrites len spool
