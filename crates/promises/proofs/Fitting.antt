-- What a table makes of a reading: nothing where the records fit, and else 19 at the line of the first record that does not.
use Prim.Native.Nat.{ℕ, zero, suc, ◌+◌, ◌-◌, ◌≤◌, ◌<◌}
use mathlib.Core.Bool.{Bool, true, false, cond}
use mathlib.Core.List.{List, [], ◌∷◌, ◌++◌, map, append-nil, append_assoc}
use mathlib.Core.Path.{◌≡◌, refl, sym, ◌∙◌, ap, ap₂, subst}
use native.Mathlib.Omega.{arith}
use lib.ListN.{length, get_or, replicate, length-append, length-replicate}
use borrow.Author.Tests.{leb-true}
use Rattle.rules.specs.declared.Class.{Class}
use Rattle.rules.specs.Base.{all}
use Rattle.rules.specs.RefusalNumbers.{Got, got, bad, map_g, also}
use Rattle.rules.specs.Sets.{Set, nothing_yet}
use Rattle.rules.specs.Machine.{limited_to, unlimited, Line, Env, State, top, file, drawing, layer_names, defines, symbol, hide, elements, figures, successive, texts, placing, skipping, ended, set_of}
use Rattle.rules.specs.LineByLine.{completes, next_volume, step, Outcome, refused, accepted, then_run, finish, run}
use Rattle.rules.specs.RecordTable.{records_of}
use Rattle.rules.proofs.Chains.{On, and_true, all_append, clash, never, map-got, also-got}
use Rattle.rules.proofs.Runs.{not-accepted, finish-ended}
use Rattle.promises.specs.Acceptance.{Place, place, earlier, place_of}
use Rattle.promises.proofs.RecordLines.{records-at}
use Rattle.promises.proofs.Count.{add_step, added, inv-step, inv-start}
use Rattle.promises.proofs.CountState.{Inv, Adds, Tied, volume_of, shown}
use Rattle.promises.proofs.Listing.{Running}
use Rattle.promises.proofs.LowerRun.{Sorted, proper, ended-run, late}
use Rattle.promises.proofs.Limits.{Alike, refuses, goes, over, alike-step}

-- ── the lines at which records are taken ──
abbrev taken_at : ℕ → Line → Got State → (State → List Place) → List Place
taken_at n l (got st) f = replicate ((set_of st).taken - n) (place l.volume l.line) ++ f st
taken_at n l (bad k) f = []

-- by the reading without a limit, from a state on
abbrev pub taken_on : Class → State → List Line → List Place
taken_on c st [] = []
taken_on c st (l ∷ ls) = taken_at (set_of st).taken l (step (unlimited c) l st) (λ st'. taken_on c st' ls)

abbrev no_place : Place
no_place = place 0 0

-- ── an item of a list whose first items are one and the same ──
at_first : (k i : ℕ) (p : Place) (ps : List Place) → i < k → get_or (replicate k p ++ ps) i no_place ≡ p
at_first zero i p ps h = absurd (omega arith)
at_first (suc k) zero p ps h = refl
at_first (suc k) (suc i) p ps h = at_first k i p ps (omega arith)

at-later : (k i : ℕ) (p : Place) (ps : List Place) → get_or (replicate k p ++ ps) (k + i) no_place ≡ get_or ps i no_place
at-later zero i p ps = ap (λ (j : ℕ). get_or ps j no_place) (omega arith)
at-later (suc k) i p ps = let e : suc k + i ≡ suc (k + i) = omega arith in ap (λ (j : ℕ). get_or (p ∷ (replicate k p ++ ps)) j no_place) e ∙ at-later k i p ps

-- ── a table of m records ──
-- the records from a state on fit, or the place of the first that does not
pub record Limited (m n : ℕ) (ps : List Place) (without with' : Outcome) : Type 0 where
  pub fits : n + length ps ≤ m → with' ≡ without
  pub full : m < n + length ps → with' ≡ refused 19 (get_or ps (m - n) no_place).volume (get_or ps (m - n) no_place).line

module _ (c : Class) (m : ℕ) where
  pub limited : (ls : List Line) (st : State) → Inv (limited_to c m) st → Limited m (set_of st).taken (taken_on c st ls) (run (unlimited c) st ls) (run (limited_to c m) st ls)
  limited [] st i = record { fits = λ h. refl; full = λ h. absurd (let r = leb-true (set_of st).taken m i.room in omega (arith, h, r)) }
  limited (l ∷ ls) st i = go (alike-step c m l st) (inv-step (limited_to c m) l st i) (limited ls)
    where
      go : {g h : Got State} → Alike m (set_of st).taken g h → On (Inv (limited_to c m)) h
          → ((st' : State) → Inv (limited_to c m) st' → Limited m (set_of st').taken (taken_on c st' ls) (run (unlimited c) st' ls) (run (limited_to c m) st' ls))
          → Limited m (set_of st).taken (taken_at (set_of st).taken l g (λ st'. taken_on c st' ls)) (then_run g l (λ st'. run (unlimited c) st' ls)) (then_run h l (λ st'. run (limited_to c m) st' ls))
      go refuses j ih = record { fits = λ h. refl; full = λ h. absurd (let r = leb-true (set_of st).taken m i.room in omega (arith, h, r)) }
      go (goes st' p w) j ih =
          let w = ih st' j in
          let k = (set_of st').taken - (set_of st).taken in
          let here = place l.volume l.line in
          let ps = taken_on c st' ls in
          let size : length (replicate k here ++ ps) ≡ k + length ps = length-append (replicate k here) ps ∙ ap (λ (a : ℕ). a + length ps) (length-replicate k here) in
          let r = leb-true (set_of st').taken m j.room in
          record {
            fits = λ h. w.fits (omega (arith, h, size, p));
            full = λ h.
                let e : m - (set_of st).taken ≡ k + (m - (set_of st').taken) = omega (arith, p, r) in
                w.full (omega (arith, h, size, p)) ∙ ap (λ (q : Place). refused 19 q.volume q.line) (sym (ap (λ (a : ℕ). get_or (replicate k here ++ ps) a no_place) e ∙ at-later k (m - (set_of st').taken) here ps));
          }
      go (over st' p q) j ih =
          let k = (set_of st').taken - (set_of st).taken in
          let here = place l.volume l.line in
          let ps = taken_on c st' ls in
          let size : length (replicate k here ++ ps) ≡ k + length ps = length-append (replicate k here) ps ∙ ap (λ (a : ℕ). a + length ps) (length-replicate k here) in
          let r = leb-true (set_of st).taken m i.room in
          record {
            fits = λ h. absurd (omega (arith, h, size, p, q));
            full = λ h. ap (λ (a : Place). refused 19 a.volume a.line) (sym (at_first k (m - (set_of st).taken) here ps (omega (arith, p, q, r))));
          }

-- ── where a line is refused, the records were taken before it ──
all_replicate : (f : Place → Bool) (k : ℕ) (p : Place) → f p ≡ true → all f (replicate k p) ≡ true
all_replicate f zero p e = refl
all_replicate f (suc k) p e = and_true (f p) _ e (all_replicate f k p e)

pub taken-before : (c : Class) (ls : List Line) (st : State) → proper ls ≡ true → Sorted ls → (k v n : ℕ) → run (unlimited c) st ls ≡ refused k v n
    → all (λ p. earlier p (place v n)) (taken_on c st ls) ≡ true
taken-before c [] st p o k v n e = clash p refl
taken-before c (l ∷ []) st p o k v n e = go (step (unlimited c) l st) refl e
  where
    go : (g : Got State) → step (unlimited c) l st ≡ g → then_run g l finish ≡ refused k v n → all (λ p. earlier p (place v n)) (taken_at (set_of st).taken l g (λ _. [])) ≡ true
    go (got st') q e = ended-run (unlimited c) l st st' p q k v n e
    go (bad j) q e = refl
taken-before c (l ∷ x ∷ ls) st p o k v n e = go (step (unlimited c) l st) (λ st'. taken-before c (x ∷ ls) st' p o.1 k v n) e
  where
    go : (g : Got State) → ((st' : State) → run (unlimited c) st' (x ∷ ls) ≡ refused k v n → all (λ p. earlier p (place v n)) (taken_on c st' (x ∷ ls)) ≡ true)
        → then_run g l (λ st'. run (unlimited c) st' (x ∷ ls)) ≡ refused k v n → all (λ p. earlier p (place v n)) (taken_at (set_of st).taken l g (λ st'. taken_on c st' (x ∷ ls))) ≡ true
    go (got st') ih e =
        let here = place l.volume l.line in
        let j = (set_of st').taken - (set_of st).taken in
        let this = late (unlimited c) l.volume l.line (x ∷ ls) st' p o.0 k v n e in
        all_append (λ p. earlier p (place v n)) (replicate j here) (taken_on c st' (x ∷ ls))
        ∙ and_true (all (λ p. earlier p (place v n)) (replicate j here)) _ (all_replicate (λ p. earlier p (place v n)) j here this) (ih st' e)
    go (bad j) ih e = refl

-- ── of an accepted set they are the lines of its records ──
-- a state that a line leads on from is in the volume of that line
pub in-volume : (e : Env) (l : Line) (k : ℕ) (st st' : State) → Tied k st → step e l st ≡ got st' → volume_of st ≡ k
in-volume e l k (top s j) st' t q = t
in-volume e l k (file s n h p) st' t q = t
in-volume e l k (drawing s d) st' t q = t
in-volume e l k (layer_names s d) st' t q = t
in-volume e l k (defines s b) st' t q = t
in-volume e l k (symbol s y) st' t q = t
in-volume e l k (hide s y ps) st' t q = t
in-volume e l k (elements s) st' t q = t
in-volume e l k (figures s h fs) st' t q = t
in-volume e l k (successive s h fs n ps) st' t q = t
in-volume e l k (texts s h fs n o) st' t q = t
in-volume e l k (placing s h fs n o p) st' t q = t
in-volume e l k (skipping s h fs n o d) st' t q = t
in-volume e l k (ended s) st' t q = go l.last q
  where
    go : (b : Bool) → cond b (map_g next_volume (also (completes l (ended s)) 9 (bad 9))) (bad 9) ≡ got st' → volume_of (ended s) ≡ k
    go true q =
        let (u, a, _) = map-got next_volume (also (completes l (ended s)) 9 (bad 9)) st' q in
        never (also-got (completes l (ended s)) 9 (bad 9) u a).1
    go false q = never q

shown-on : (c : Class) (k : ℕ) (ls : List Line) (st : State) (s : Set) → Running k ls → Tied k st → Inv (unlimited c) st → run (unlimited c) st ls ≡ accepted s
    → shown st ++ taken_on c st ls ≡ shown (ended s)
shown-on c k [] st s r t i q = append-nil (shown st) ∙ ap shown (finish-ended st s q)
shown-on c k (l ∷ ls) st s r t i q = go (step (unlimited c) l st) refl (add_step (unlimited c) l st i) (λ k' st'. shown-on c k' ls st' s) q
  where
    go : (g : Got State) → step (unlimited c) l st ≡ g → On (Adds (unlimited c) l.line (cond l.last (suc (volume_of st)) (volume_of st)) st) g
        → ((k' : ℕ) (st' : State) → Running k' ls → Tied k' st' → Inv (unlimited c) st' → run (unlimited c) st' ls ≡ accepted s → shown st' ++ taken_on c st' ls ≡ shown (ended s))
        → then_run g l (λ st'. run (unlimited c) st' ls) ≡ accepted s
        → shown st ++ taken_at (set_of st).taken l g (λ st'. taken_on c st' ls) ≡ shown (ended s)
    go (bad n) p w ih q = not-accepted q
    go (got st') p w ih q =
        let here = in-volume (unlimited c) l k st st' t p in
        let next = cond l.last (suc k) k in
        let tied = subst (λ (v : ℕ). Tied (cond l.last (suc v) v) st') here w.ties in
        let more : (set_of st').taken - (set_of st).taken ≡ w.count = omega (arith, w.counts) in
        let spot : place l.volume l.line ≡ place (volume_of st) l.line = ap (λ (v : ℕ). place v l.line) (r.0 ∙ sym here) in
        let rest = taken_on c st' ls in
        ap₂ (λ (n : ℕ) a. shown st ++ (replicate n a ++ rest)) more spot
        ∙ sym (append_assoc (shown st) (replicate w.count (place (volume_of st) l.line)) rest)
        ∙ ap (λ x. x ++ rest) (sym w.shows)
        ∙ ih next st' r.1 tied (added (unlimited c) l (cond l.last (suc (volume_of st)) (volume_of st)) st st' i w) q

pub taken_places : (c : Class) (ls : List Line) (s : Set) → Running 1 ls → run (unlimited c) (top nothing_yet 0) ls ≡ accepted s → taken_on c (top nothing_yet 0) ls ≡ map place_of (records_of c s)
taken_places c ls s r q = shown-on c 1 ls (top nothing_yet 0) s r refl (inv-start (unlimited c)) q ∙ sym (records-at c s)
