-- The demands of the functions themselves: what a caller of `read` or `rewrite` learns is a call as `promises` has it, so its corollaries
-- hold of the code, from the contracts and the theorems alone.
use Rattle.std.specs.Prelude.{Ok, Err}
use Prim.Native.Nat.{ℕ, ◌≤◌}
use mathlib.Core.List.{List}
use mathlib.Core.Path.{◌≡◌}
use lib.ListN.{length}
use contract.Lifetimes.{Lfts}
use denote.Triple.Clauses.{AtExit}
use borrow.Fn.Kinds.{ParamKind, ResultKind, Out, Dens, res_t, ended_of}
use Rattle.rules.specs.declared.Refusal.{Refusal}
use Rattle.rules.specs.Answers.{full_number, full_wire}
use Rattle.promises.specs.ReaderCalls.{Call, TwoCalls, Accepts, Refuses}
use Rattle.promises.specs.RewriterCalls.{Rewriting, CallsBack, RewrittenBack}
use Rattle.promises.specs.SingleCalls.{ReadCall, RewriteCall}
use Rattle.promises.specs.TextsKept.{Points}
use Rattle.promises.specs.TableTexts.{first_records}
use Rattle.promises.specs.OwnNumbers.{NoneTwice}
use Rattle.promises.specs.Partners.{CallFound}
use Rattle.promises.specs.Turns.{AtTheirLines}
use Rattle.promises.proofs.OneCall.{read_calls, rewrite_calls}
use Rattle.promises.proofs.Calls.{lower_call-accepts, higher_call-refuses}
use Rattle.promises.proofs.OwnNumbers.{call-numbers-differ}
use Rattle.promises.proofs.PartnersFound.{call-partners-found}
use Rattle.promises.proofs.Turns.{call-turns}
use Rattle.promises.proofs.RewriterBack.{call-texts, rewriter_calls, accepted-rewrites}
use Rattle.sets.proofs.reader.read as read'
use Rattle.sets.proofs.rewriter.rewrite as rewrite'

-- what a contract's callers learn (C), of the arguments, the answer and the lent memory on return, gives an A
abbrev pub Learns : {n : ℕ} (ps : List (ParamKind n)) (r : ResultKind n) → Out n ps r → Type 0 → Type 0
Learns {n} ps r C A = (κs : Lfts n) (x : Dens κs ps) (a : (res_t r κs).Denot) (e : AtExit (ended_of n ps r) κs) → C κs x a e → A

abbrev pub read_call : Learns read'.Kinds.ps read'.Kinds.r read'.Reads.Learnt Call
read_call κs x r e c = record {
  spool = x.0.now;
  class = x.1.0;
  wire = x.1.1.0;
  before = x.1.1.1.0.now;
  answer = r;
  after = e.1.1.1.0.now;
  answers = c.0;
  fills = c.1;
}

abbrev pub rewrite_call : Learns rewrite'.Kinds.ps rewrite'.Kinds.r rewrite'.Reads.Learnt Rewriting
rewrite_call κs x r e c = record {
  spool = x.0.now;
  before = x.1.0.now;
  answer = r;
  after = e.1.0.now;
  answers = c.0;
  fills = c.1;
}

-- ── promise 1, and what is accepted: one call ──
pub reads-once : (κs : Lfts 2) (x : Dens κs read'.Kinds.ps) (r : (res_t read'.Kinds.r κs).Denot) (e : AtExit (ended_of 2 read'.Kinds.ps read'.Kinds.r) κs)
    (c : read'.Reads.Learnt κs x r e) → ReadCall (read_call κs x r e c)
reads-once κs x r e c = read_calls (read_call κs x r e c)

pub rewrites-once : (κs : Lfts 2) (x : Dens κs rewrite'.Kinds.ps) (r : (res_t rewrite'.Kinds.r κs).Denot) (e : AtExit (ended_of 2 rewrite'.Kinds.ps rewrite'.Kinds.r) κs)
    (c : rewrite'.Reads.Learnt κs x r e) → RewriteCall (rewrite_call κs x r e c)
rewrites-once κs x r e c = rewrite_calls (rewrite_call κs x r e c)

-- ── demand 2: the bytes that `rewrite` wrote, read and rewritten ──
pub rewrites-back : (κs : Lfts 2) (x : Dens κs rewrite'.Kinds.ps) (r : (res_t rewrite'.Kinds.r κs).Denot) (e : AtExit (ended_of 2 rewrite'.Kinds.ps rewrite'.Kinds.r) κs)
    (c : rewrite'.Reads.Learnt κs x r e) (n : ℕ) → r ≡ Ok n → CallsBack (rewrite_call κs x r e c) n
rewrites-back κs x r e c n = rewriter_calls (rewrite_call κs x r e c) n

-- what `read` accepts at class 15 is accepted by `rewrite`, with an output not shorter than the spool
pub read-rewritten : (κs κs' : Lfts 2) (x : Dens κs read'.Kinds.ps) (x' : Dens κs' rewrite'.Kinds.ps) (r : (res_t read'.Kinds.r κs).Denot) (r' : (res_t rewrite'.Kinds.r κs').Denot)
    (e : AtExit (ended_of 2 read'.Kinds.ps read'.Kinds.r) κs) (e' : AtExit (ended_of 2 rewrite'.Kinds.ps rewrite'.Kinds.r) κs')
    (c : read'.Reads.Learnt κs x r e) (c' : rewrite'.Reads.Learnt κs' x' r' e') (k : ℕ) → (read_call κs x r e c).class ≡ full_number → (read_call κs x r e c).wire ≡ full_wire → r ≡ Ok k
    → x'.0.now ≡ x.0.now → length x'.0.now ≤ length x'.1.0.now → RewrittenBack k (rewrite_call κs' x' r' e' c')
read-rewritten κs κs' x x' r r' e e' c c' k full wide a = accepted-rewrites (read_call κs x r e c) k full wide a (rewrite_call κs' x' r' e' c')

-- the texts that the records of `read` point at
pub read-texts : (κs : Lfts 2) (x : Dens κs read'.Kinds.ps) (r : (res_t read'.Kinds.r κs).Denot) (e : AtExit (ended_of 2 read'.Kinds.ps read'.Kinds.r) κs)
    (c : read'.Reads.Learnt κs x r e) (n : ℕ) → r ≡ Ok n → Points (read_call κs x r e c) n
read-texts κs x r e c n = call-texts (read_call κs x r e c) n

-- no two of its records show the same own serial number
pub read-numbers : (κs : Lfts 2) (x : Dens κs read'.Kinds.ps) (r : (res_t read'.Kinds.r κs).Denot) (e : AtExit (ended_of 2 read'.Kinds.ps read'.Kinds.r) κs)
    (c : read'.Reads.Learnt κs x r e) (n : ℕ) → r ≡ Ok n → NoneTwice (first_records n (read_call κs x r e c).after)
read-numbers κs x r e c n = call-numbers-differ (read_call κs x r e c) n

-- where partners are tested, every one is an own number
pub read-partners : (κs : Lfts 2) (x : Dens κs read'.Kinds.ps) (r : (res_t read'.Kinds.r κs).Denot) (e : AtExit (ended_of 2 read'.Kinds.ps read'.Kinds.r) κs)
    (c : read'.Reads.Learnt κs x r e) (n : ℕ) → r ≡ Ok n → CallFound (read_call κs x r e c) n
read-partners κs x r e c n = call-partners-found (read_call κs x r e c) n

-- each record of a figure that is one line shows its own line; a circle's turn is the one written there, or -1
pub read-turns : (κs : Lfts 2) (x : Dens κs read'.Kinds.ps) (r : (res_t read'.Kinds.r κs).Denot) (e : AtExit (ended_of 2 read'.Kinds.ps read'.Kinds.r) κs)
    (c : read'.Reads.Learnt κs x r e) (n : ℕ) → r ≡ Ok n → AtTheirLines (read_call κs x r e c).spool (first_records n (read_call κs x r e c).after)
read-turns κs x r e c n = call-turns (read_call κs x r e c) n

-- ── demand 3: two calls of `read` ──
module _ (κs κs' : Lfts 2) (x : Dens κs read'.Kinds.ps) (x' : Dens κs' read'.Kinds.ps) (r : (res_t read'.Kinds.r κs).Denot) (r' : (res_t read'.Kinds.r κs').Denot)
    (e : AtExit (ended_of 2 read'.Kinds.ps read'.Kinds.r) κs) (e' : AtExit (ended_of 2 read'.Kinds.ps read'.Kinds.r) κs')
    (c : read'.Reads.Learnt κs x r e) (c' : read'.Reads.Learnt κs' x' r' e') (two : TwoCalls (read_call κs x r e c) (read_call κs' x' r' e' c')) where
  pub lower-reads : (n : ℕ) → r' ≡ Ok n → Accepts (read_call κs x r e c) (read_call κs' x' r' e' c') two.low n
  lower-reads = lower_call-accepts (read_call κs x r e c) (read_call κs' x' r' e' c') two

  pub higher-reads : (f : Refusal) → r ≡ Err f → Refuses (read_call κs x r e c) (read_call κs' x' r' e' c') f
  higher-reads = higher_call-refuses (read_call κs x r e c) (read_call κs' x' r' e' c') two
