-- Demand 2 of calls of the reader and the rewriter, proved from their contracts and the theorems of the demands.
use Rattle.std.specs.Prelude.{Ok}
use Prim.Native.Nat.{ℕ, ◌*◌, ◌≤◌}
use mathlib.Core.List.{List, map}
use mathlib.Core.Path.{◌≡◌, refl, sym, ◌∙◌, ap, ap₂, subst}
use native.Mathlib.Nat.{le_refl}
use native.Mathlib.Omega.{arith}
use lib.ListN.{length, take}
use lib.Seq.{take_at}
use Rattle.rules.specs.Base.{map_o}
use Rattle.rules.specs.Spool.{names_of, volumes_of}
use Rattle.rules.specs.Sets.{Set}
use Rattle.rules.specs.LineByLine.{Outcome, refused, accepted}
use Rattle.rules.specs.RecordTable.{width, records_of}
use Rattle.rules.specs.Answers.{answer_with, read_outcome, read_records, read_answer, full_class, rewrite_outcome, written, fit_output, rewrite_answer, rewrite_output, full_number, full_wire}
use Rattle.promises.specs.DemandTwo.{RoundTrip}
use Rattle.promises.specs.PlacesApart.{places_apart, bare_outcome}
use Rattle.promises.specs.TableTexts.{first_records, texts_of, ShowTexts}
use Rattle.promises.specs.TextsKept.{texts_kept, CallTexts}
use Rattle.promises.specs.ReaderCalls.{Call}
use Rattle.promises.specs.RewriterCalls.{Rewriting, ReadsAll, CallsBack, RewriterCalls, AcceptedRewrites}
use Rattle.promises.proofs.Answered.{demand-one}
use Rattle.promises.proofs.Calls.{accepted-set, table-records}
use Rattle.promises.proofs.AnyTable.{class15, fits-table, any-table}
use Rattle.promises.proofs.Round.{accepted-same, room-accepts, written_back, demand-two}
use Rattle.promises.proofs.ShownTexts.{wire-texts, texts-kept}
use Rattle.promises.proofs.TwoClasses.{taken}

-- ── the rewriter's answer ──
written-set : (len : ℕ) (spool : List ℕ) (n : ℕ) → rewrite_answer len spool ≡ Ok n → (s : Set) × (rewrite_outcome spool ≡ accepted s)
unfolding rewrite_answer
written-set len spool n e = go (rewrite_outcome spool) (length (written spool)) e
  where
    go : (o : Outcome) (k : ℕ) → fit_output len k (answer_with k o) ≡ Ok n → (s : Set) × (o ≡ accepted s)
    go (refused j v l) k e = absurd (let z : ◌≡◌ {A = ℕ} 0 1 = cc in omega arith)
    go (accepted s) k e = (s, refl)

-- the first n bytes of the output are what is written
first-bytes : (len : ℕ) (spool : List ℕ) (n : ℕ) → rewrite_answer len spool ≡ Ok n → take n (rewrite_output len spool) ≡ written spool
first-bytes len spool n e =
    let w = (demand-one.rewriter len spool).when_accepted n e in
    ap (take n) w.stands ∙ take_at (written spool) _ n w.count

call-table : (call : Call) (n : ℕ) → call.answer ≡ Ok n → first_records n call.after ≡ read_records call.class call.wire (length call.before) call.spool
call-table call n e =
    ap (first_records n) call.fills ∙ table-records call.class call.wire (length call.before) call.spool n (sym call.answers ∙ e)

-- ── the texts that a call's records point at ──
pub call-texts : CallTexts
call-texts call n e =
    let len = length call.before in
    let (s, q) = accepted-set call.class call.wire len call.spool n (sym call.answers ∙ e) in
    record {
      set = s;
      read = q;
      texts = subst (λ rs. ShowTexts call.spool rs (texts_kept s)) (sym (call-table call n e)) (texts-kept call.class call.wire len call.spool s q);
      wires = wire-texts call.class call.wire len call.spool s q;
    }

-- what a call at class 15 with wire part 18 asks for
asked : {A : Type 0} (f : ℕ → ℕ → List ℕ → A) {class wire : ℕ} {lent spool : List ℕ} → class ≡ full_number → wire ≡ full_wire → lent ≡ spool → f class wire lent ≡ f full_number full_wire spool
asked f {lent = lent} c w e = ap₂ (λ c w. f c w lent) c w ∙ ap (f full_number full_wire) e

-- ── a call on a spool whose set is s ──
module _ (spool : List ℕ) (s : Set) (e : rewrite_outcome spool ≡ accepted s) (call : Call) (w : ReadsAll spool (length (records_of full_class s)) call) where
  abbrev count : ℕ
  count = length (records_of full_class s)

  abbrev len : ℕ
  len = length call.before

  call-set : read_outcome full_number full_wire len spool ≡ accepted s
  call-set = fits-table len spool s e w.room

  call-answer : read_answer full_number full_wire len spool ≡ Ok count
  call-answer = (taken len spool full_number full_wire full_class s class15 call-set).1

  call-accepts : call.answer ≡ Ok count
  call-accepts = call.answers ∙ asked (λ c x b. read_answer c x len b) w.full w.full_wires w.lent ∙ call-answer

  call-shows : first_records count call.after ≡ records_of full_class s
  call-shows =
      call-table call count call-accepts ∙ asked (λ c x b. read_records c x len b) w.full w.full_wires w.lent ∙ (taken len spool full_number full_wire full_class s class15 call-set).0

-- ── what was written has as many records as the spool, the same apart from places, with the same texts ──
record Same (spool : List ℕ) (s t : Set) : Type 0 where
  many : length (records_of full_class t) ≡ length (records_of full_class s)
  records : map places_apart (records_of full_class t) ≡ map places_apart (records_of full_class s)
  texts : texts_of (written spool) (records_of full_class t) ≡ texts_of spool (records_of full_class s)

same-records : (spool : List ℕ) (s : Set) → rewrite_outcome spool ≡ accepted s → (b : RoundTrip spool s) → Same spool s b.set
same-records spool s e b =
    let n = length (records_of full_class s) in
    let len = n * width in
    let here = taken len spool full_number full_wire full_class s class15 (fits-table len spool s e (le_refl len)) in
    let there = b.count len n here.1 in
    let (t, q) = accepted-set full_number full_wire len (written spool) n there in
    let same = accepted-same (sym (any-table len (written spool) t q) ∙ b.again) in
    let back = taken len (written spool) full_number full_wire full_class b.set class15 (q ∙ ap accepted same) in
    record {
      many = let z = sym back.1 ∙ there in cc;
      records = ap (map places_apart) (sym back.0) ∙ b.records len n here.1 ∙ ap (map places_apart) here.0;
      texts = ap (texts_of (written spool)) (sym back.0) ∙ b.texts len n here.1 ∙ ap (texts_of spool) here.0;
    }

-- ── a rewriting of a spool whose set is s ──
calls_back : (w : Rewriting) (n : ℕ) → w.answer ≡ Ok n → (s : Set) → rewrite_outcome w.spool ≡ accepted s → CallsBack w n
calls_back w n e s q =
    let len = length w.before in
    let spool = w.spool in
    let mine = sym w.answers ∙ e in
    let b = written_back spool s q in
    let same = same-records spool s q b in
    let many = same.many in
    let size = ((demand-one.rewriter len spool).when_accepted n mine).count in
    let bytes = ap (take n) w.fills ∙ first-bytes len spool n mine in
    record {
      size = ap length bytes ∙ size;
      no_longer = subst (λ k. k ≤ length spool) size b.no_longer;
      names = ap (λ t. map_o names_of (volumes_of t)) bytes ∙ b.names;
      whole = ap (λ t. bare_outcome (rewrite_outcome t)) bytes ∙ ap bare_outcome b.again ∙ ap accepted b.whole ∙ sym (ap bare_outcome q);
      records = length (records_of full_class s);
      reads = λ first again f g.
          let h : ReadsAll (written spool) (length (records_of full_class b.set)) again =
          record { full = g.full; full_wires = g.full_wires; lent = g.lent ∙ bytes; room = subst (λ k. k * width ≤ length again.before) (sym many) g.room } in
          let read_back = ap (λ k. first_records k again.after) (sym many) ∙ call-shows (written spool) b.set b.again again h in
          record {
            accepts = call-accepts spool s q first f;
            count = call-accepts (written spool) b.set b.again again h ∙ ap Ok many;
            records =
                ap (map places_apart) read_back ∙ same.records ∙ sym (ap (map places_apart) (call-shows spool s q first f));
            texts =
                ap₂ texts_of h.lent read_back ∙ same.texts ∙ sym (ap₂ texts_of f.lent (call-shows spool s q first f));
          };
      writes = λ again lent room.
          let its = length again.before in
          let long : length (written (written spool)) ≡ n = ap length b.twice ∙ size in
          let answer = room-accepts its (written spool) b.set b.again (subst (λ k. k ≤ its) (sym long) room) ∙ ap Ok long in
          record {
            count = again.answers ∙ ap (rewrite_answer its) (lent ∙ bytes) ∙ answer;
            bytes =
                ap (take n) (again.fills ∙ ap (rewrite_output its) (lent ∙ bytes)) ∙ first-bytes its (written spool) n answer
                ∙ b.twice ∙ sym bytes;
          };
    }

pub rewriter_calls : RewriterCalls
rewriter_calls w n e = let (s, q) = written-set (length w.before) w.spool n (sym w.answers ∙ e) in calls_back w n e s q

pub accepted-rewrites : AcceptedRewrites
unfolding calls_back
accepted-rewrites first k full wires e w lent room =
    let len = length first.before in
    let mine = sym (asked (λ c x b. read_answer c x len b) full wires (sym lent)) ∙ sym first.answers ∙ e in
    let t = demand-two w.spool len k mine in
    let n = length (written w.spool) in
    let a = w.answers ∙ t.back.writes (length w.before) room in
    let counted = sym (taken len w.spool full_number full_wire full_class t.set class15 t.read).1 ∙ mine in
    record { bytes = n; accepts = a; back = calls_back w n a t.set t.rewritten; many = cc }
