-- Promise 1, and what is accepted, of the reader and the rewriter themselves: one call, of which nothing is known but what its contract says.
use Rattle.std.specs.Prelude.{ℕ, ◌*◌, ◌≤◌, ◌<◌, map, ◌≡◌, pos, length, replicate, Ok, Err}
use Rattle.rules.specs.declared.Refusal.{Refusal}
use Rattle.rules.specs.Sets.{Set}
use Rattle.rules.specs.LineByLine.{accepted, refused}
use Rattle.rules.specs.RecordTable.{width}
use Rattle.rules.specs.Answers.{refusal, full_number, full_wire, written}
use Rattle.promises.specs.DemandOne.{by_reader, by_rewriter, Answered, Filled, Written}
use Rattle.promises.specs.Acceptance.{ruled, records_at, place_of, no_room, first_out}
use Rattle.promises.specs.ReaderCalls.{Call}
use Rattle.promises.specs.RewriterCalls.{Rewriting}

-- ── the reader ──
-- accepted with n: the spool keeps the rules of the class with its wire part, it has n records there, and they stand in the table, zeros behind them
pub record CallAccepts (c : Call) (n : ℕ) : Type 0 where
  pub set : Set
  pub rules : ruled c.class c.wire c.spool ≡ accepted set
  pub table : Filled (length c.before) n (records_at c.class c.wire set) c.after

pub record ReadCall (c : Call) : Type 0 where
  pub answer : Answered by_reader c.answer
  pub size : length c.after ≡ length c.before
  pub when_refused : (r : Refusal) → c.answer ≡ Err r → c.after ≡ replicate (length c.before) (pos 0)
  pub when_accepted : (n : ℕ) → c.answer ≡ Ok n → CallAccepts c n
  -- a spool that keeps the rules: accepted where its records fit, and else 19 at the line of the first that does not
  pub when_kept : (s : Set) → ruled c.class c.wire c.spool ≡ accepted s → length (records_at c.class c.wire s) * width ≤ length c.before
      → c.answer ≡ Ok (length (records_at c.class c.wire s))
  pub when_full : (s : Set) → ruled c.class c.wire c.spool ≡ accepted s → length c.before < length (records_at c.class c.wire s) * width
      → c.answer ≡ no_room (first_out (length c.before) (map place_of (records_at c.class c.wire s)))

abbrev pub ReadCalls : Type 0
ReadCalls = (c : Call) → ReadCall c

-- ── the rewriter ──
pub record RewriteCall (w : Rewriting) : Type 0 where
  pub answer : Answered by_rewriter w.answer
  pub size : length w.after ≡ length w.before
  pub when_refused : (r : Refusal) → w.answer ≡ Err r → w.after ≡ replicate (length w.before) 0
  pub when_accepted : (n : ℕ) → w.answer ≡ Ok n → Written (length w.before) n (written w.spool) w.after
  -- a spool that keeps the rules of class 15 with wire part 18: accepted where its fixed form fits, and else 20; one that breaks a rule: that rule
  pub when_kept : (s : Set) → ruled full_number full_wire w.spool ≡ accepted s → length (written w.spool) ≤ length w.before
      → w.answer ≡ Ok (length (written w.spool))
  pub when_short : (s : Set) → ruled full_number full_wire w.spool ≡ accepted s → length w.before < length (written w.spool) → w.answer ≡ refusal 20 0 0
  pub when_broken : (number volume line : ℕ) → ruled full_number full_wire w.spool ≡ refused number volume line → w.answer ≡ refusal number volume line

abbrev pub RewriteCalls : Type 0
RewriteCalls = (w : Rewriting) → RewriteCall w
