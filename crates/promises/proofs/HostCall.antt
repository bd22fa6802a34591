-- What a host written in C learns from a call, from the contracts of the three functions and the theorems of the demands.
use Rattle.std.specs.Prelude.{Result, Ok, Err}
use Prim.Native.Nat.{ℕ, ◌*◌, ◌<◌}
use mathlib.Core.Bool.{Bool, true}
use mathlib.Core.List.{List}
use mathlib.Core.Path.{◌≡◌, sym, ◌∙◌, ap, subst}
use native.Mathlib.Omega.{arith}
use lib.ListN.{length}
use Rattle.rules.specs.declared.Refusal.{Refusal}
use Rattle.rules.specs.RecordTable.{width}
use Rattle.rules.specs.Answers.{answer_count, read_answer, rewrite_answer, written, own_records, packed, check_answer}
use Rattle.promises.specs.DemandOne.{by_reader, by_rewriter, Located, Answered, refused_with}
use Rattle.promises.specs.DemandThree.{at_or_before}
use Rattle.promises.specs.TakenApart.{refusal_in, Tells}
use Rattle.promises.specs.HostCalls.{HostCheck, Checked, HostRead, read_by, HostReads, HostRewrite, rewritten_by, HostRewrites, HostCalls, LowerHostAccepts, HigherHostRefuses}
use Rattle.promises.proofs.Answered.{demand-one}
use Rattle.promises.proofs.Exactly.{exactly_when, ruled-full}
use Rattle.promises.proofs.OneCall.{kept-accepts, read_calls, rewrite_calls}
use Rattle.promises.proofs.Calls.{lower_call-accepts, higher_call-refuses}
use Rattle.promises.proofs.Packing.{taken-apart}
use Rattle.promises.proofs.Round.{written_back}

-- ── a number and its answer ──
-- what is accepted has the number 0, what is refused another
none-packed : (a : Result ℕ Refusal) (n : ℕ) → a ≡ Ok n → packed a ≡ 0
unfolding packed
none-packed a n e = ap packed e

refusal_located : {whose : ℕ → Bool} (r : Refusal) → Answered whose (Err r) → Located whose r
refusal_located r (refused_with _ w) = w

some-packed : (whose : ℕ → Bool) (a : Result ℕ Refusal) → Answered whose a → (r : Refusal) → a ≡ Err r → 0 < packed a
unfolding packed
some-packed whose a w r e =
    let located = refusal_located r (subst (Answered whose) e w) in
    subst (λ (b : Result ℕ Refusal). 0 < packed b) (sym e) (omega (arith, located.least))

-- a refusal that a number tells is one that an answer may be
tells_located : (whose : ℕ → Bool) (p : ℕ) (a : Result ℕ Refusal) → Tells p a → Answered whose a → 0 < p → Located whose (refusal_in p)
tells_located whose p a t w h = refusal_located (refusal_in p) (subst (Answered whose) (t.refused h) w)

-- ── the check ──
check-zero : (class wire : ℕ) (spool : List ℕ) (n : ℕ) → read_answer class wire (own_records * width) spool ≡ Ok n → check_answer class wire spool ≡ 0
unfolding check_answer
check-zero class wire spool n e = none-packed (read_answer class wire (own_records * width) spool) n e

checked : (c : HostCheck) → Checked c
checked c =
    let len = own_records * width in
    let a = read_answer c.class c.wire len c.spool in
    let t = subst (λ (p : ℕ). Tells p a) (sym c.answers) (taken-apart.check c.class c.wire c.spool) in
    record {
      when_accepted = λ e.
          let (k, fit) = (exactly_when.reader c.class c.wire c.spool).only_kept len (answer_count a) (t.accepted e) in
          (answer_count a, k, omega (arith, fit));
      when_refused = tells_located by_reader c.number a t (demand-one.reader c.class c.wire len c.spool).answer;
      when_kept = λ n k h. c.answers ∙ check-zero c.class c.wire c.spool n (kept-accepts c.class c.wire len c.spool n k (omega (arith, h)));
    }

-- ── the reader ──
module _ (c : HostRead) where
  abbrev read_as : Result ℕ Refusal
  read_as = read_answer c.class c.wire (length c.before) c.spool

  read-tells : Tells c.number read_as
  read-tells = subst (λ (p : ℕ). Tells p read_as) (sym c.answers) (taken-apart.reader c.class c.wire (length c.before) c.spool)

  -- accepted: with the count that is given back
  read-accepted : c.number ≡ 0 → read_as ≡ Ok c.count
  read-accepted e = read-tells.accepted e ∙ ap Ok (sym c.counts)

reads : (c : HostRead) → HostReads c
reads c =
    let call = read_calls (read_by c) in
    let t = read-tells c in
    record {
      size = call.size;
      when_refused = tells_located by_reader c.number (read_as c) t call.answer;
      no_count = λ h. c.counts ∙ ap answer_count (t.refused h);
      zeros = λ h. call.when_refused (refusal_in c.number) (t.refused h);
      when_accepted = λ e. call.when_accepted c.count (read-accepted c e);
      when_kept = λ n k h. c.answers ∙ none-packed (read_as c) n (kept-accepts c.class c.wire (length c.before) c.spool n k h);
    }

-- ── the rewriter ──
rewrites : (c : HostRewrite) → HostRewrites c
rewrites c =
    let call = rewrite_calls (rewritten_by c) in
    let a = rewrite_answer (length c.before) c.spool in
    let t = subst (λ (p : ℕ). Tells p a) (sym c.answers) (taken-apart.rewriter (length c.before) c.spool) in
    record {
      size = call.size;
      when_refused = tells_located by_rewriter c.number a t call.answer;
      no_count = λ h. c.counts ∙ ap answer_count (t.refused h);
      zeros = λ h. call.when_refused (refusal_in c.number) (t.refused h);
      when_accepted = λ e. call.when_accepted c.count (t.accepted e ∙ ap Ok (sym c.counts));
      when_kept = λ n k h.
          let short = (written_back c.spool k.set (sym (ruled-full c.spool) ∙ k.rules)).no_longer in
          c.answers ∙ none-packed a (length (written c.spool)) (call.when_kept k.set k.rules (omega (arith, h, short)));
    }

pub host_calls : HostCalls
host_calls = record { checks = checked; reads = reads; rewrites = rewrites }

-- ── two calls of the reader ──
pub lower_host-accepts : LowerHostAccepts
lower_host-accepts lower higher two e =
    let w = lower_call-accepts (read_by lower) (read_by higher) two higher.count (read-accepted higher e) in
    (lower.answers ∙ none-packed (read_as lower) w.count w.answer, w, lower.counts ∙ ap answer_count w.answer)

pub higher_host-refuses : HigherHostRefuses
higher_host-refuses lower higher two h =
    let w = higher_call-refuses (read_by lower) (read_by higher) two (refusal_in lower.number) ((read-tells lower).refused h) in
    let above : 0 < higher.number = subst (λ (p : ℕ). 0 < p) (sym higher.answers) (some-packed by_reader (read_as higher) (read_calls (read_by higher)).answer w.refusal w.answer) in
    let same : w.refusal ≡ refusal_in higher.number = refused-same (sym w.answer ∙ (read-tells higher).refused above) in
    (above, subst (λ (q : Refusal). at_or_before q (refusal_in lower.number) ≡ true) same w.place, w.table)
  where
    refused-same : {q r : Refusal} → ◌≡◌ {A = Result ℕ Refusal} (Err q) (Err r) → q ≡ r
    refused-same e = cc
