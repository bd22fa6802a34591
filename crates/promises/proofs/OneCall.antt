-- Single calls of the reader and the rewriter, from their contracts and the theorems of the demands.
use Rattle.std.specs.Prelude.{Result, Ok}
use Prim.Native.Nat.{ℕ, ◌*◌, ◌≤◌}
use mathlib.Core.List.{List}
use mathlib.Core.Path.{◌≡◌, sym, ◌∙◌, ap, subst}
use lib.IntN.{ℤ}
use lib.ListN.{length}
use Rattle.rules.specs.RecordTable.{width}
use Rattle.rules.specs.Answers.{read_answer, read_table, written}
use Rattle.promises.specs.DemandOne.{by_reader, by_rewriter, Answered, Filled, Written}
use Rattle.promises.specs.Acceptance.{Keeps, records_at}
use Rattle.promises.specs.ReaderCalls.{Call}
use Rattle.promises.specs.SingleCalls.{CallAccepts, ReadCalls, RewriteCalls}
use Rattle.promises.proofs.Answered.{demand-one}
use Rattle.promises.proofs.Exactly.{exactly_when}
use Rattle.rules.specs.declared.Refusal.{Refusal}

-- a spool that keeps the rules with n records is accepted where they fit
pub kept-accepts : (class wire len : ℕ) (spool : List ℕ) (n : ℕ) → Keeps class wire spool n → n * width ≤ len → read_answer class wire len spool ≡ Ok n
kept-accepts class wire len spool n k h =
    let fits : length (records_at class wire k.set) * width ≤ len = subst (λ (i : ℕ). i * width ≤ len) (sym k.count) h in
    ((exactly_when.reader class wire spool).when_kept k.set k.rules len).accepts fits ∙ ap Ok k.count

call-accepts : (c : Call) (n : ℕ) → c.answer ≡ Ok n → CallAccepts c n
call-accepts c n e =
    let len = length c.before in
    let is = sym c.answers ∙ e in
    let (k, fit) = (exactly_when.reader c.class c.wire c.spool).only_kept len n is in
    let fits : length (records_at c.class c.wire k.set) * width ≤ len = subst (λ (i : ℕ). i * width ≤ len) (sym k.count) fit in
    let same = ((exactly_when.reader c.class c.wire c.spool).when_kept k.set k.rules len).records fits in
    let w = (demand-one.reader c.class c.wire len c.spool).when_accepted n is in
    record {
      set = k.set;
      rules = k.rules;
      table = subst (λ (t : List ℤ). Filled len n (records_at c.class c.wire k.set) t) (sym c.fills) (subst (λ (rs : List (List ℤ)). Filled len n rs (read_table c.class c.wire len c.spool)) same w);
    }

pub read_calls : ReadCalls
read_calls c =
    let len = length c.before in
    let w = demand-one.reader c.class c.wire len c.spool in
    let x = exactly_when.reader c.class c.wire c.spool in
    record {
      answer = subst (λ (a : Result ℕ Refusal). Answered by_reader a) (sym c.answers) w.answer;
      size = ap length c.fills ∙ w.size;
      when_refused = λ r e. c.fills ∙ w.when_refused r (sym c.answers ∙ e);
      when_accepted = call-accepts c;
      when_kept = λ s e h. c.answers ∙ (x.when_kept s e len).accepts h;
      when_full = λ s e h. c.answers ∙ (x.when_kept s e len).refuses h;
    }

pub rewrite_calls : RewriteCalls
rewrite_calls c =
    let len = length c.before in
    let w = demand-one.rewriter len c.spool in
    let x = exactly_when.rewriter c.spool len in
    record {
      answer = subst (λ (a : Result ℕ Refusal). Answered by_rewriter a) (sym c.answers) w.answer;
      size = ap length c.fills ∙ w.size;
      when_refused = λ r e. c.fills ∙ w.when_refused r (sym c.answers ∙ e);
      when_accepted = λ n e. subst (λ (o : List ℕ). Written len n (written c.spool) o) (sym c.fills) (w.when_accepted n (sym c.answers ∙ e));
      when_kept = λ s e h. c.answers ∙ x.when_kept s e h;
      when_short = λ s e h. c.answers ∙ x.when_short s e h;
      when_broken = λ k v l e. c.answers ∙ x.when_broken k v l e;
    }
