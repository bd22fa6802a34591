-- The promises of the exported functions themselves: what a caller of one learns is a call as `promises` has it, so its corollaries hold of the
-- code, from the contracts and the theorems alone.
use mathlib.Core.Bool.{true}
use mathlib.Core.Path.{◌≡◌}
use Prim.Native.Nat.{◌<◌}
use contract.Lifetimes.{Lfts}
use denote.Triple.Clauses.{AtExit}
use borrow.Fn.Kinds.{Dens, res_t, ended_of}
use Rattle.promises.specs.DemandThree.{at_or_before}
use Rattle.promises.specs.ReaderCalls.{TwoCalls, Accepts}
use Rattle.promises.specs.TakenApart.{refusal_in}
use Rattle.promises.specs.HostCalls.{HostCheck, Checked, HostRead, read_by, HostReads, HostRewrite, HostRewrites}
use Rattle.promises.proofs.HostCall.{host_calls, lower_host-accepts, higher_host-refuses}
use Rattle.sets.proofs.Called.{Learns}
use Rattle.host_c.proofs.ploverdell_check as check'
use Rattle.host_c.proofs.ploverdell_read as read'
use Rattle.host_c.proofs.ploverdell_rewrite as rewrite'

abbrev pub check_call : Learns check'.Kinds.ps check'.Kinds.r check'.Reads.Learnt HostCheck
check_call κs x r e c = record { spool = x.0.now; class = x.1.0; wire = x.1.1.0; number = r; answers = c }

abbrev pub read_call : Learns read'.Kinds.ps read'.Kinds.r read'.Reads.Learnt HostRead
read_call κs x r e c = record {
  spool = x.0.now;
  class = x.1.0;
  wire = x.1.1.0;
  before = x.1.1.1.0.now;
  number = r;
  after = e.1.1.1.0.now;
  count = e.1.1.1.1.0.now;
  answers = c.0;
  fills = c.1;
  counts = c.2;
}

abbrev pub rewrite_call : Learns rewrite'.Kinds.ps rewrite'.Kinds.r rewrite'.Reads.Learnt HostRewrite
rewrite_call κs x r e c = record {
  spool = x.0.now;
  before = x.1.0.now;
  number = r;
  after = e.1.0.now;
  count = e.1.1.0.now;
  answers = c.0;
  fills = c.1;
  counts = c.2;
}

-- ── promise 1, and what is accepted: one call of each ──
pub checks-once : (κs : Lfts 1) (x : Dens κs check'.Kinds.ps) (r : (res_t check'.Kinds.r κs).Denot) (e : AtExit (ended_of 1 check'.Kinds.ps check'.Kinds.r) κs)
    (c : check'.Reads.Learnt κs x r e) → Checked (check_call κs x r e c)
checks-once κs x r e c = host_calls.checks (check_call κs x r e c)

pub reads-once : (κs : Lfts 3) (x : Dens κs read'.Kinds.ps) (r : (res_t read'.Kinds.r κs).Denot) (e : AtExit (ended_of 3 read'.Kinds.ps read'.Kinds.r) κs)
    (c : read'.Reads.Learnt κs x r e) → HostReads (read_call κs x r e c)
reads-once κs x r e c = host_calls.reads (read_call κs x r e c)

pub rewrites-once : (κs : Lfts 3) (x : Dens κs rewrite'.Kinds.ps) (r : (res_t rewrite'.Kinds.r κs).Denot) (e : AtExit (ended_of 3 rewrite'.Kinds.ps rewrite'.Kinds.r) κs)
    (c : rewrite'.Reads.Learnt κs x r e) → HostRewrites (rewrite_call κs x r e c)
rewrites-once κs x r e c = host_calls.rewrites (rewrite_call κs x r e c)

-- ── promise 3: two calls of `ploverdell_read`, of which the first is of the class that is not above ──
module _ (κs κs' : Lfts 3) (x : Dens κs read'.Kinds.ps) (x' : Dens κs' read'.Kinds.ps) (r : (res_t read'.Kinds.r κs).Denot) (r' : (res_t read'.Kinds.r κs').Denot)
    (e : AtExit (ended_of 3 read'.Kinds.ps read'.Kinds.r) κs) (e' : AtExit (ended_of 3 read'.Kinds.ps read'.Kinds.r) κs')
    (c : read'.Reads.Learnt κs x r e) (c' : read'.Reads.Learnt κs' x' r' e') where
  abbrev lower : HostRead
  lower = read_call κs x r e c

  abbrev higher : HostRead
  higher = read_call κs' x' r' e' c'

  pub lower-reads : (two : TwoCalls (read_by lower) (read_by higher)) → r' ≡ 0
      → (r ≡ 0) × (w : Accepts (read_by lower) (read_by higher) two.low higher.count) × (lower.count ≡ w.count)
  lower-reads two = lower_host-accepts lower higher two

  pub higher-reads : TwoCalls (read_by lower) (read_by higher) → 0 < r
      → (0 < r') × (at_or_before (refusal_in r') (refusal_in r) ≡ true) × (higher.after ≡ lower.after)
  higher-reads two = higher_host-refuses lower higher two
