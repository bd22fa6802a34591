-- A set is accepted exactly when it keeps the rules of its class and its records fit; otherwise the first broken rule is named.
use Rattle.std.specs.Prelude.{Option, Some, None, Ok}
use Prim.Native.Nat.{ℕ, ◌-◌, ◌*◌, ◌/◌, ◌≤◌, ◌<◌}
use mathlib.Core.Bool.{Bool, true, false, cond}
use mathlib.Core.List.{List, [], ◌∷◌, map}
use mathlib.Core.Path.{◌≡◌, refl, sym, ◌∙◌, ap}
use native.Mathlib.Omega.{arith}
use lib.ListN.{length, get_or, length-map}
use lib.Dec.{leb}
use borrow.Author.Tests.{le-leb, lt-leb, leb-true, leb-false}
use Rattle.rules.specs.declared.Class.{Class}
use Rattle.rules.specs.Base.{all}
use Rattle.rules.specs.Spool.{Volume, volumes_of}
use Rattle.rules.specs.RangeClass.{class_of}
use Rattle.rules.specs.Sets.{Set, nothing_yet}
use Rattle.rules.specs.Machine.{unlimited, limited_to, top}
use Rattle.rules.specs.LineByLine.{Outcome, refused, accepted}
use Rattle.rules.specs.RecordTable.{width, records_of}
use Rattle.rules.specs.Answers.{Listed, listed, no_lines, list_volumes, outcome_of_lines, outcome_of_volumes, outcome_of, answer_with, refusal, read_outcome, read_answer, full_number, full_wire, rewrite_outcome, written, fit_output, rewrite_answer}
use Rattle.rules.proofs.Runs.{not-accepted}
use Rattle.promises.specs.Acceptance.{ruled, records_at, Keeps, Place, place, earlier, place_of, no_room, first_out, Fits, Acceptance, RewriterAccepts, ExactlyWhen}
use Rattle.promises.proofs.Frame.{volumes_inv}
use Rattle.promises.proofs.Count.{inv-start}
use Rattle.promises.proofs.Refusals.{least-listed}
use Rattle.promises.proofs.Listing.{lines-whole, lines-proper}
use Rattle.promises.proofs.Fitting.{taken_on, Limited, limited, taken-before, taken_places}
use Rattle.promises.proofs.Calls.{accepted-set}
use Rattle.promises.proofs.Answered.{demand-one}
use Rattle.promises.proofs.TwoClasses.{taken, outcome-at}

-- ── the lines at which a spool's records are taken ──
abbrev listed_places : Class → Listed → List Place
listed_places c (listed ls) = taken_on c (top nothing_yet 0) ls
listed_places c (no_lines v) = []

abbrev places_in : Class → Option (List Volume) → List Place
places_in c None = []
places_in c (Some vs) = listed_places c (list_volumes 1 vs)

nothing-taken : (m : ℕ) (o : Outcome) → Limited m 0 [] o o
nothing-taken m o = record { fits = λ _. refl; full = λ h. absurd (omega (arith, h)) }

module _ (c : Class) where
  -- with a table of m records and without
  limited-volumes : (m : ℕ) (o : Option (List Volume)) → Limited m 0 (places_in c o) (outcome_of_volumes (unlimited c) o) (outcome_of_volumes (limited_to c m) o)
  limited-volumes m None = nothing-taken m (refused 2 0 0)
  limited-volumes m (Some vs) = go (list_volumes 1 vs)
    where
      go : (l : Listed) → Limited m 0 (listed_places c l) (outcome_of_lines (unlimited c) l) (outcome_of_lines (limited_to c m) l)
      go (listed ls) = limited c m ls (top nothing_yet 0) (inv-start (limited_to c m))
      go (no_lines v) = nothing-taken m (refused 3 v 0)

  before-volumes : (spool : List ℕ) (k v n : ℕ) → outcome_of_volumes (unlimited c) (volumes_of spool) ≡ refused k v n → all (λ p. earlier p (place v n)) (places_in c (volumes_of spool)) ≡ true
  before-volumes spool k v n e = go (volumes_of spool) refl e
    where
      by : (u : Volume) (vs : List Volume) (l : Listed) → list_volumes 1 (u ∷ vs) ≡ l → outcome_of_lines (unlimited c) l ≡ refused k v n → all (λ p. earlier p (place v n)) (listed_places c l) ≡ true
      by u vs (listed ls) q e = taken-before c ls (top nothing_yet 0) (lines-proper 1 u vs ls q) (lines-whole 0 (u ∷ vs) ls q).sorted k v n e
      by u vs (no_lines w) q e = refl

      go : (o : Option (List Volume)) → volumes_of spool ≡ o → outcome_of_volumes (unlimited c) o ≡ refused k v n → all (λ p. earlier p (place v n)) (places_in c o) ≡ true
      go None p e = refl
      go (Some []) p e = absurd (let w = volumes_inv spool [] p in omega (arith, w.one))
      go (Some (u ∷ vs)) p e = by u vs (list_volumes 1 (u ∷ vs)) refl e

  -- none is taken before all volumes are found to have lines
  none-volumes : (o : Option (List Volume)) (k v n : ℕ) → outcome_of_volumes (unlimited c) o ≡ refused k v n → k ≤ 3 → places_in c o ≡ []
  none-volumes None k v n e h = refl
  none-volumes (Some vs) k v n e h = go (list_volumes 1 vs) refl e
    where
      go : (l : Listed) → list_volumes 1 vs ≡ l → outcome_of_lines (unlimited c) l ≡ refused k v n → listed_places c l ≡ []
      go (listed ls) q e = absurd (omega (arith, least-listed (unlimited c) vs ls q k v n e, h))
      go (no_lines w) q e = refl

  -- of an accepted set they are the lines of its records
  shown-volumes : (o : Option (List Volume)) (s : Set) → outcome_of_volumes (unlimited c) o ≡ accepted s → places_in c o ≡ map place_of (records_of c s)
  shown-volumes None s e = not-accepted e
  shown-volumes (Some vs) s e = go (list_volumes 1 vs) refl e
    where
      go : (l : Listed) → list_volumes 1 vs ≡ l → outcome_of_lines (unlimited c) l ≡ accepted s → listed_places c l ≡ map place_of (records_of c s)
      go (listed ls) q e = taken_places c ls s (lines-whole 0 vs ls q).running e
      go (no_lines v) q e = not-accepted e

-- ── the reader's answers ──
answer-refused : (class wire len : ℕ) (spool : List ℕ) (n v l : ℕ) → read_outcome class wire len spool ≡ refused n v l → read_answer class wire len spool ≡ refusal n v l
unfolding read_answer
answer-refused class wire len spool n v l e = rw e

ruled-at : (class wire : ℕ) (c : Class) (spool : List ℕ) → class_of class wire ≡ Some c → ruled class wire spool ≡ outcome_of_volumes (unlimited c) (volumes_of spool)
unfolding outcome_of
ruled-at class wire c spool p = rw p

-- a class or a wire part that is none: 1, whatever the table
no-class : (class wire len : ℕ) (spool : List ℕ) → class_of class wire ≡ None → read_outcome class wire len spool ≡ refused 1 0 0
unfolding read_outcome
no-class class wire len spool p = rw p

-- ── a class that is one ──
module _ (class wire : ℕ) (c : Class) (p : class_of class wire ≡ Some c) (spool : List ℕ) where
  abbrev ps : List Place
  ps = places_in c (volumes_of spool)

  fits-table : (len : ℕ) → length ps * width ≤ len → read_outcome class wire len spool ≡ ruled class wire spool
  fits-table len h = outcome-at len spool class wire c p ∙ (limited-volumes c (len / width) (volumes_of spool)).fits (omega (arith, h)) ∙ sym (ruled-at class wire c spool p)

  full-table : (len : ℕ) → len < length ps * width → read_outcome class wire len spool ≡ refused 19 (first_out len ps).volume (first_out len ps).line
  full-table len h =
      let e : len / width - 0 ≡ len / width = omega arith in
      outcome-at len spool class wire c p ∙ (limited-volumes c (len / width) (volumes_of spool)).full (omega (arith, h))
      ∙ ap (λ (i : ℕ). refused 19 (get_or ps i (place 0 0)).volume (get_or ps i (place 0 0)).line) e

  full-answer : (len : ℕ) → len < length ps * width → read_answer class wire len spool ≡ no_room (first_out len ps)
  full-answer len h = answer-refused class wire len spool 19 (first_out len ps).volume (first_out len ps).line (full-table len h)

  -- the records at the class
  records-at : (s : Set) → records_at class wire s ≡ records_of c s
  records-at s = rw p

  shown : (s : Set) → ruled class wire spool ≡ accepted s → ps ≡ map place_of (records_at class wire s)
  shown s e = shown-volumes c (volumes_of spool) s (sym (ruled-at class wire c spool p) ∙ e) ∙ ap (map place_of) (sym (records-at s))

  shown-count : (s : Set) → ruled class wire spool ≡ accepted s → length ps ≡ length (records_at class wire s)
  shown-count s e = ap length (shown s e) ∙ length-map (records_at class wire s) place_of

  when-kept : (s : Set) → ruled class wire spool ≡ accepted s → (len : ℕ) → Fits class wire spool s len
  when-kept s e len =
      let size = shown-count s e in
      let reads : length (records_at class wire s) * width ≤ len → read_outcome class wire len spool ≡ accepted s = λ h. fits-table len (omega (arith, h, size)) ∙ e in
      record {
        accepts = λ h. (taken len spool class wire c s p (reads h)).1 ∙ ap (λ rs. Ok (length rs)) (sym (records-at s));
        records = λ h. (taken len spool class wire c s p (reads h)).0 ∙ sym (records-at s);
        refuses = λ h. full-answer len (omega (arith, h, size)) ∙ ap (λ qs. no_room (first_out len qs)) (shown s e);
      }

  only_kept_lem : (len n : ℕ) → read_answer class wire len spool ≡ Ok n → Keeps class wire spool n × (n * width ≤ len)
  only_kept_lem len n e = go (leb (length ps * width) len) refl
    where
      go : (t : Bool) → leb (length ps * width) len ≡ t → Keeps class wire spool n × (n * width ≤ len)
      go true q =
          let (s, r) = accepted-set class wire len spool n e in
          let w = (demand-one.reader class wire len spool).when_accepted n e in (
            record {
              set = s;
              rules = sym (fits-table len (leb-true (length ps * width) len q)) ∙ r;
              count = ap length (records-at s ∙ sym (taken len spool class wire c s p r).0) ∙ w.count;
            },
            w.fit,
          )
      go false q =
          let (s, r) = accepted-set class wire len spool n e in
          not-accepted (sym (full-table len (leb-false (length ps * width) len q)) ∙ r)

acceptance : (class wire : ℕ) (spool : List ℕ) → Acceptance class wire spool
acceptance class wire spool = go (class_of class wire) refl
  where
    go : (o : Option Class) → class_of class wire ≡ o → Acceptance class wire spool
    go None p =
        let is : ruled class wire spool ≡ refused 1 0 0 = rw p in
        record {
          only_kept = λ len n e. let (s, q) = accepted-set class wire len spool n e in not-accepted (sym (no-class class wire len spool p) ∙ q);
          when_kept = λ s e len. not-accepted (sym is ∙ e);
          when_broken = λ k v l e. record {
            places = [];
            before = refl;
            none_yet = λ _. refl;
            names = λ len h. answer-refused class wire len spool k v l (no-class class wire len spool p ∙ sym is ∙ e);
            refuses = λ len h. absurd (omega (arith, h));
          };
        }
    go (Some c) p = record {
      only_kept = only_kept_lem class wire c p spool;
      when_kept = when-kept class wire c p spool;
      when_broken = λ k v l e. record {
        places = places_in c (volumes_of spool);
        before = before-volumes c spool k v l (sym (ruled-at class wire c spool p) ∙ e);
        none_yet = none-volumes c (volumes_of spool) k v l (sym (ruled-at class wire c spool p) ∙ e);
        names = λ len h. answer-refused class wire len spool k v l (fits-table class wire c p spool len h ∙ e);
        refuses = full-answer class wire c p spool;
      };
    }

-- ── the rewriter ──
pub ruled-full : (spool : List ℕ) → ruled full_number full_wire spool ≡ rewrite_outcome spool
unfolding class_of rewrite_outcome
ruled-full spool = refl

rewriter-accepts : (spool : List ℕ) (len : ℕ) → RewriterAccepts spool len
unfolding rewrite_answer
rewriter-accepts spool len =
    let is = ruled-full spool in
    let n = length (written spool) in
    record {
      when_kept = λ s e h. ap (λ o. fit_output len n (answer_with n o)) (sym is ∙ e) ∙ ap (λ b. cond b (Ok n) (refusal 20 0 0)) (le-leb n len h);
      when_short = λ s e h. ap (λ o. fit_output len n (answer_with n o)) (sym is ∙ e) ∙ ap (λ b. cond b (Ok n) (refusal 20 0 0)) (lt-leb n len h);
      when_broken = λ k v l e. ap (λ o. fit_output len n (answer_with n o)) (sym is ∙ e);
    }

pub exactly_when : ExactlyWhen
exactly_when = record { reader = acceptance; rewriter = rewriter-accepts }
