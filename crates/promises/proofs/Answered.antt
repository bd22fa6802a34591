-- Demand 1: the reader's and the rewriter's one answer, and the lent memory on return.
use Rattle.std.specs.Prelude.{Option, Some, None, Result, Ok, Err}
use Prim.Native.Nat.{ℕ, ◌*◌, ◌/◌, ◌≤◌, ◌<◌}
use mathlib.Core.Bool.{Bool, true, false, cond, true≢false}
use mathlib.Core.List.{List, [], ◌++◌}
use mathlib.Core.Path.{◌≡◌, refl, sym, ◌∙◌, ap}
use native.Mathlib.Omega.{arith}
use native.Mathlib.Nat.{le_refl}
use lib.Dec.{leb}
use lib.IntN.{pos}
use lib.ListN.{length, take, replicate}
use borrow.Author.Tests.{leb-true, leb-false, lt-leb}
use Rattle.rules.specs.declared.Class.{Class}
use Rattle.rules.specs.declared.Refusal.{Refusal}
use Rattle.rules.specs.Base.{flat}
use Rattle.rules.specs.Spool.{Volume, volumes_of}
use Rattle.rules.specs.RangeClass.{class_of}
use Rattle.rules.specs.Sets.{Set, nothing_yet}
use Rattle.rules.specs.Machine.{limited_to, Line, Env, top}
use Rattle.rules.specs.LineByLine.{Outcome, refused, accepted, run}
use Rattle.rules.specs.RecordTable.{records_of, table_of, width}
use Rattle.rules.specs.Answers.{Listed, listed, no_lines, list_volumes, outcome_of_lines, outcome_of_volumes, outcome_of, full_class, outcome_at, class_or, answer_number, answer_count, refusal, read_outcome, records_in, answer_with, read_records, read_answer, read_table, names_in, written_in, rewrite_outcome, written, fit_output, rewrite_answer, rewrite_bytes, rewrite_output}
use Rattle.rules.proofs.Chains.{clash, by_cond, cond_same}
use Rattle.rules.proofs.Runs.{not-accepted}
use Rattle.promises.specs.DemandOne.{by_reader, by_rewriter, Answered, accepted_with, refused_with, Filled, Reads, Written, Rewrites, DemandOne}
use Rattle.promises.proofs.Widths.{flat-length, wide-records, take_replicate, filled-length, filled}
use Rattle.promises.proofs.Count.{count-records}
use Rattle.promises.proofs.Refusals.{OutcomeTold, told_set, told_number, told-spool, told_at}

-- ── answers ──
abbrev is_answer : Result ℕ Refusal → Bool
is_answer (Ok n) = true
is_answer (Err r) = false

not-refused : {P : Type 0} {n : ℕ} {r : Refusal} → Ok n ≡ Err r → P
not-refused e = absurd (true≢false (ap is_answer e))

told-answer : (count : ℕ) (o : Outcome) → OutcomeTold o → Answered by_reader (answer_with count o)
told-answer count (refused n v l) (told_number _ _ _ w) = refused_with _ w
told-answer count (accepted s) told_set = accepted_with count

-- ── an accepted reading is a run over lines ──
lines-run : (e : Env) (l : Listed) (s : Set) → outcome_of_lines e l ≡ accepted s → (ls : List Line) × (run e (top nothing_yet 0) ls ≡ accepted s)
lines-run e (listed ls) s q = (ls, q)
lines-run e (no_lines v) s q = not-accepted q

volumes-run : (e : Env) (vs : Option (List Volume)) (s : Set) → outcome_of_volumes e vs ≡ accepted s → (ls : List Line) × (run e (top nothing_yet 0) ls ≡ accepted s)
volumes-run e None s q = not-accepted q
volumes-run e (Some vs) s q = lines-run e (list_volumes 1 vs) s q

spool-run : (e : Env) (spool : List ℕ) (s : Set) → outcome_of e spool ≡ accepted s → (ls : List Line) × (run e (top nothing_yet 0) ls ≡ accepted s)
unfolding outcome_of
spool-run e spool s q = volumes-run e (volumes_of spool) s q

-- its records fit the table
records-fit : (c : Option Class) (m : ℕ) (spool : List ℕ) (s : Set) → outcome_at c (Some m) spool ≡ accepted s → length (records_of (class_or c) s) ≤ m
records-fit None m spool s q = not-accepted q
records-fit (Some c) m spool s q =
    let (ls, r) = spool-run (limited_to c m) spool s q in
    leb-true _ _ (count-records (limited_to c m) c ls s r)

-- ── the reader ──
table-refused : (c : Class) (len : ℕ) (o : Outcome) (r : Refusal) → answer_with (length (records_in c o)) o ≡ Err r → table_of len (records_in c o) ≡ replicate len (pos 0)
unfolding table_of
table-refused c len (refused n v l) r q = take_replicate len len (pos 0) (le_refl len)
table-refused c len (accepted s) r q = not-refused q

table-accepted : (c : Class) (len : ℕ) (o : Outcome) (n : ℕ) → ((s : Set) → o ≡ accepted s → length (records_of c s) ≤ len / 32) → answer_with (length (records_in c o)) o ≡ Ok n
    → Filled len n (records_in c o) (table_of len (records_in c o))
unfolding table_of
table-accepted c len (refused m v l) n h q = not-refused (sym q)
table-accepted c len (accepted s) n h q =
    let w = wide-records c s in
    let rs = records_of c s in
    let count : length rs ≡ n = ap answer_count q in
    let fit : n * 32 ≤ len = omega (arith, h s refl, count) in
    let size : length (flat rs) ≡ n * 32 = flat-length rs w ∙ ap (λ (k : ℕ). k * 32) count in
    record {
      count = count;
      wide = w;
      fit = fit;
      stands = rw (filled len (pos 0) (flat rs) (omega (arith, size, fit)), size);
    }

reader-told : (class wire len : ℕ) (spool : List ℕ) → OutcomeTold (read_outcome class wire len spool)
unfolding read_outcome
reader-told class wire len spool = told_at (class_of class wire) (Some (len / width)) spool

reads : (class wire len : ℕ) (spool : List ℕ) → Reads class wire len spool
unfolding read_outcome read_records read_answer read_table table_of
reads class wire len spool =
    let o = read_outcome class wire len spool in
    let c = class_or (class_of class wire) in
    record {
      answer = told-answer _ o (reader-told class wire len spool);
      size = filled-length len (pos 0) (flat (read_records class wire len spool));
      when_refused = table-refused c len o;
      when_accepted = λ n. table-accepted c len o n (λ s q. records-fit (class_of class wire) (len / width) spool s q);
    }

-- ── the rewriter: w is what is written ──
fit_refused : (b : Bool) (len n : ℕ) (w : List ℕ) (r : Refusal) → cond b (Ok n) (refusal 20 0 0) ≡ Err r → take len (cond b w [] ++ replicate len 0) ≡ replicate len 0
fit_refused true len n w r q = not-refused q
fit_refused false len n w r q = take_replicate len len 0 (le_refl len)

output-refused : (len : ℕ) (names : List (List ℕ)) (o : Outcome) (r : Refusal) → fit_output len (length (written_in names o)) (answer_with (length (written_in names o)) o) ≡ Err r
    → take len (cond (leb (length (written_in names o)) len) (written_in names o) [] ++ replicate len 0) ≡ replicate len 0
output-refused len names (refused n v l) r q = rw (cond_same {A = List ℕ} (leb 0 len) []) (take_replicate len len 0 (le_refl len))
output-refused len names (accepted s) r q = fit_refused (leb (length (written_in names (accepted s))) len) len _ (written_in names (accepted s)) r q

fit-accepted : (b : Bool) (len n : ℕ) (w : List ℕ) → (b ≡ true → length w ≤ len) → cond b (Ok (length w)) (refusal 20 0 0) ≡ Ok n → Written len n w (take len (cond b w [] ++ replicate len 0))
fit-accepted true len n w h q =
    let count : length w ≡ n = ap answer_count q in
    record { count = count; fit = omega (arith, h refl); stands = rw (filled len 0 w (h refl), count) }
fit-accepted false len n w h q = not-refused (sym q)

output-accepted : (len : ℕ) (names : List (List ℕ)) (o : Outcome) (n : ℕ) → fit_output len (length (written_in names o)) (answer_with (length (written_in names o)) o) ≡ Ok n
    → Written len n (written_in names o) (take len (cond (leb (length (written_in names o)) len) (written_in names o) [] ++ replicate len 0))
output-accepted len names (refused m v l) n q = not-refused (sym q)
output-accepted len names (accepted s) n q = let w = written_in names (accepted s) in fit-accepted (leb (length w) len) len n w (leb-true (length w) len) q

output-told : (len count : ℕ) (o : Outcome) → OutcomeTold o → Answered by_rewriter (fit_output len count (answer_with count o))
output-told len count (refused n v l) (told_number _ _ _ w) =
    refused_with _ (record { least = w.least; most = w.most; known = refl; whole = w.whole; in_volume = w.in_volume })
output-told len count (accepted s) told_set =
    by_cond (Answered by_rewriter) (leb count len) (λ _. accepted_with count)
    (λ _. refused_with _ (record { least = omega arith; most = omega arith; known = refl; whole = λ _. (refl, refl); in_volume = λ e. absurd (true≢false e) }))

output-short : (len count : ℕ) (o : Outcome) (s : Set) → o ≡ accepted s → len < count → fit_output len count (answer_with count o) ≡ refusal 20 0 0
output-short len count (refused m v l) s q h = not-accepted q
output-short len count (accepted _) s q h = rw (lt-leb count len h)

fit-short : (b : Bool) (len count n : ℕ) (r : Refusal) → (b ≡ false → len < count) → cond b (Ok n) (refusal 20 0 0) ≡ Err r → len < count
fit-short true len count n r h q = not-refused q
fit-short false len count n r h q = h refl

-- the reading itself gives no 20
output_only : (len count : ℕ) (o : Outcome) (r : Refusal) → OutcomeTold o → fit_output len count (answer_with count o) ≡ Err r → r.number ≡ 20 → len < count
output_only len count (refused n v l) r (told_number _ _ _ w) e t = let same : n ≡ r.number = ap answer_number e in clash w.known (ap (λ (k : ℕ). by_reader k) (same ∙ t))
output_only len count (accepted s) r w e t = fit-short (leb count len) len count count r (leb-false count len) e

rewriter-told : (spool : List ℕ) → OutcomeTold (rewrite_outcome spool)
unfolding rewrite_outcome
rewriter-told spool = told-spool (record { class = full_class; limit = None }) spool

rewrites : (len : ℕ) (spool : List ℕ) → Rewrites len spool
unfolding written rewrite_answer rewrite_bytes rewrite_output
rewrites len spool =
    let o = rewrite_outcome spool in
    let names = names_in (volumes_of spool) in
    let w = rewriter-told spool in
    record {
      answer = output-told len (length (written spool)) o w;
      size = filled-length len 0 (rewrite_bytes len spool);
      when_refused = output-refused len names o;
      when_accepted = output-accepted len names o;
      short = output-short len (length (written spool)) o;
      only_short = λ r. output_only len (length (written spool)) o r w;
    }

-- ── demand 1 ──
pub demand-one : DemandOne
demand-one = record { reader = reads; rewriter = rewrites }
