-- The promises of the three functions that hosts written in C call: one call of each, of which nothing is known but what its contract says.
-- A number other than 0 is a refusal, and `refusal_in` takes it apart; 0 is accepted.
use Rattle.std.specs.Prelude.{ℕ, ◌*◌, ◌≤◌, ◌<◌, true, List, ◌≡◌, refl, ℤ, pos, length, replicate}
use Rattle.rules.specs.RecordTable.{width}
use Rattle.rules.specs.Answers.{answer_count, read_answer, read_table, full_number, full_wire, rewrite_answer, rewrite_output, written, own_records, packed, check_answer}
use Rattle.promises.specs.DemandOne.{by_reader, by_rewriter, Located, Written}
use Rattle.promises.specs.Acceptance.{Keeps}
use Rattle.promises.specs.DemandThree.{at_or_before}
use Rattle.promises.specs.ReaderCalls.{Call, TwoCalls, Accepts}
use Rattle.promises.specs.RewriterCalls.{Rewriting}
use Rattle.promises.specs.SingleCalls.{CallAccepts}
use Rattle.promises.specs.TakenApart.{refusal_in}

-- ── ploverdell_check ──
pub record HostCheck : Type 0 where
  pub spool : List ℕ
  pub class : ℕ
  pub wire : ℕ
  pub number : ℕ
  pub answers : number ≡ check_answer class wire spool

pub record Checked (c : HostCheck) : Type 0 where
  -- accepted: the spool keeps the rules of the class, and its records fit a table of 256
  pub when_accepted : c.number ≡ 0 → (n : ℕ) × Keeps c.class c.wire c.spool n × (n ≤ own_records)
  pub when_refused : 0 < c.number → Located by_reader (refusal_in c.number)
  -- and accepted only so
  pub when_kept : (n : ℕ) → Keeps c.class c.wire c.spool n → n ≤ own_records → c.number ≡ 0

-- ── ploverdell_read ──
pub record HostRead : Type 0 where
  pub spool : List ℕ
  pub class : ℕ
  pub wire : ℕ
  pub before : List ℤ
  pub number : ℕ
  pub after : List ℤ
  pub count : ℕ
  pub answers : number ≡ packed (read_answer class wire (length before) spool)
  pub fills : after ≡ read_table class wire (length before) spool
  pub counts : count ≡ answer_count (read_answer class wire (length before) spool)

-- the call of the reader that it stands for
abbrev pub read_by : HostRead → Call
read_by c = record {
  spool = c.spool;
  class = c.class;
  wire = c.wire;
  before = c.before;
  answer = read_answer c.class c.wire (length c.before) c.spool;
  after = c.after;
  answers = refl;
  fills = c.fills;
}

pub record HostReads (c : HostRead) : Type 0 where
  pub size : length c.after ≡ length c.before
  pub when_refused : 0 < c.number → Located by_reader (refusal_in c.number)
  pub no_count : 0 < c.number → c.count ≡ 0
  pub zeros : 0 < c.number → c.after ≡ replicate (length c.before) (pos 0)
  pub when_accepted : c.number ≡ 0 → CallAccepts (read_by c) c.count
  pub when_kept : (n : ℕ) → Keeps c.class c.wire c.spool n → n * width ≤ length c.before → c.number ≡ 0

-- ── ploverdell_rewrite ──
pub record HostRewrite : Type 0 where
  pub spool : List ℕ
  pub before : List ℕ
  pub number : ℕ
  pub after : List ℕ
  pub count : ℕ
  pub answers : number ≡ packed (rewrite_answer (length before) spool)
  pub fills : after ≡ rewrite_output (length before) spool
  pub counts : count ≡ answer_count (rewrite_answer (length before) spool)

-- the call of the rewriter that it stands for
abbrev pub rewritten_by : HostRewrite → Rewriting
rewritten_by c = record {
  spool = c.spool;
  before = c.before;
  answer = rewrite_answer (length c.before) c.spool;
  after = c.after;
  answers = refl;
  fills = c.fills;
}

pub record HostRewrites (c : HostRewrite) : Type 0 where
  pub size : length c.after ≡ length c.before
  pub when_refused : 0 < c.number → Located by_rewriter (refusal_in c.number)
  pub no_count : 0 < c.number → c.count ≡ 0
  pub zeros : 0 < c.number → c.after ≡ replicate (length c.before) 0
  pub when_accepted : c.number ≡ 0 → Written (length c.before) c.count (written c.spool) c.after
  -- an output as long as the spool is enough for every spool that keeps the rules of class 15 with wire part 18
  pub when_kept : (n : ℕ) → Keeps full_number full_wire c.spool n → length c.spool ≤ length c.before → c.number ≡ 0

pub record HostCalls : Type 0 where
  pub checks : (c : HostCheck) → Checked c
  pub reads : (c : HostRead) → HostReads c
  pub rewrites : (c : HostRewrite) → HostRewrites c

-- ── promise 3 of two calls of ploverdell_read ──
abbrev pub LowerHostAccepts : Type 0
LowerHostAccepts =
    (lower higher : HostRead) (two : TwoCalls (read_by lower) (read_by higher)) → higher.number ≡ 0
    → (lower.number ≡ 0) × (w : Accepts (read_by lower) (read_by higher) two.low higher.count) × (lower.count ≡ w.count)

abbrev pub HigherHostRefuses : Type 0
HigherHostRefuses =
    (lower higher : HostRead) → TwoCalls (read_by lower) (read_by higher) → 0 < lower.number
    → (0 < higher.number) × (at_or_before (refusal_in higher.number) (refusal_in lower.number) ≡ true) × (higher.after ≡ lower.after)
