-- Demand 2, proved: the fixed form of an accepted spool, read back and written again.
use Rattle.std.specs.Prelude.{Some, None, Ok}
use Prim.Native.Nat.{ℕ, suc, ◌+◌, ◌*◌, ◌/◌, ◌≤◌}
use mathlib.Core.Bool.{true, cond, not}
use mathlib.Core.List.{List, [], ◌∷◌, ◌++◌, map}
use mathlib.Core.Path.{◌≡◌, refl, sym, ◌∙◌, ap, ap₂, subst}
use native.Mathlib.Omega.{arith}
use lib.ListN.{length, length-map}
use borrow.Author.Tests.{le-leb}
use Rattle.rules.specs.declared.Class.{Class}
use Rattle.rules.specs.Base.{map_o, is_nil, all, total}
use Rattle.rules.specs.Spool.{Volume, names_of, volumes_of, unlines}
use Rattle.rules.specs.Sets.{Contents, Set, nothing_yet}
use Rattle.rules.specs.Machine.{limited_to, Line, Env, top}
use Rattle.rules.specs.LineByLine.{Outcome, refused, accepted, run}
use Rattle.rules.specs.RecordTable.{width, records_from, records_of}
use Rattle.rules.specs.FixedForm.{Text, volume_lines, volumes_bytes, fixed_form}
use Rattle.rules.specs.Answers.{numbered, next_name, answer_with, refusal, read_outcome, read_records, read_answer, full_class, names_in, written_in, rewrite_outcome, written, fit_output, rewrite_answer, full_number, full_wire}
use Rattle.rules.proofs.Chains.{and_left, and_right, and_true, clash}
use Rattle.promises.specs.PlacesApart.{bare_line, bare_set, places_apart}
use Rattle.promises.specs.TableTexts.{texts_of}
use Rattle.promises.specs.TextsKept.{texts_kept, texts_of_wires}
use Rattle.promises.specs.DemandTwo.{RoundTrip, DemandTwo, WrittenBack}
use Rattle.promises.proofs.AnyTable.{rewrite-is, class15, fits-table, any-table}
use Rattle.promises.proofs.Frame.{Spooled, laid, framed, volumes_inv, volumes-back, volumes-framed, framed-length, names-laid}
use Rattle.promises.proofs.Frames.{listing-bare, laid-texts, nexts_of_names, nexts-names, named}
use Rattle.promises.proofs.Good.{GoodSet}
use Rattle.promises.proofs.GoodLines.{lines-fine, lines-some, lines-count, nexts_count}
use Rattle.promises.proofs.BackSlots.{lay_all, plain_env, retaken}
use Rattle.promises.proofs.BackSet.{ends_once, set_back}
use Rattle.promises.proofs.Inv.{nexts_of, Steady, read-good}
use Rattle.promises.proofs.Sizes.{listing, Texts, nexts_of_volumes, some_lines, none-empty, unlines-length, sizes, sizes-weight, volumes-weight, listing-told}
use Rattle.promises.proofs.Weights.{weigh}
use Rattle.promises.proofs.Length.{fixed-short}
use Rattle.promises.proofs.Places.{accepted_real}
use Rattle.promises.proofs.Fits.{records-read}
use Rattle.promises.proofs.Limits.{limit-lift, limit-drop, taken-fits, taken-counts}
use Rattle.promises.proofs.TwoClasses.{taken, outcome-at}
use Rattle.promises.proofs.BareForm.{form-bare}
use Rattle.promises.proofs.Parsed.{Parsed, parsed, reading}
use Rattle.promises.proofs.ShownTexts.{shown-texts, read-shows}
use Rattle.promises.proofs.TextPlaces.{texts-bare, wires-bare}

-- what is written of a spool whose set is known
written_is : (spool : List ℕ) (vs : List Volume) (s : Set) → volumes_of spool ≡ Some vs → rewrite_outcome spool ≡ accepted s → written spool ≡ fixed_form (names_of vs) s
unfolding written
written_is spool vs s p e = ap₂ (λ o r. written_in (names_in o) r) p e

form-is : (names : List (List ℕ)) (s : Set) → fixed_form names s ≡ framed names (map unlines (volume_lines s s.volumes))
unfolding fixed_form
form-is names s = volumes-framed names (volume_lines s s.volumes)

-- the count of records does not stand in what is written, shown or recorded
form-retaken : (names : List (List ℕ)) (m : ℕ) (s : Set) → fixed_form names (retaken m s) ≡ fixed_form names s
unfolding fixed_form
form-retaken names m s = ap (volumes_bytes names) (go s.volumes)
  where
    go : (vs : List Contents) → volume_lines (retaken m s) vs ≡ volume_lines s vs
    go [] = refl
    go (v ∷ vs) = refl

records-retaken : (c : Class) (m : ℕ) (s : Set) → records_of c (retaken m s) ≡ records_of c s
unfolding records_of
records-retaken c m s = go s.volumes
  where
    go : (vs : List Contents) → records_from c (retaken m s) vs ≡ records_from c s vs
    go [] = refl
    go (v ∷ vs) = refl

-- sums over lists
total-plus : {A : Type 0} (k : ℕ) (f : A → ℕ) (s : List A) → total (λ a. k + f a) s ≡ k * length s + total f s
total-plus k f [] = omega arith
total-plus k f (a ∷ s) = let e = total-plus k f s in omega arith

body-total : (ts : List Text) → total (λ b. 12 + length b) (map unlines ts) ≡ total (λ t. 13 + weigh t) ts
body-total [] = refl
body-total (t ∷ ts) = let a = unlines-length t in let b = body-total ts in omega arith

pub accepted-same : {s t : Set} → accepted s ≡ accepted t → s ≡ t
accepted-same e = cc

answer-with : (len : ℕ) (spool : List ℕ) (o : Outcome) → read_outcome full_number full_wire len spool ≡ o → read_answer full_number full_wire len spool ≡ answer_with (length (read_records full_number full_wire len spool)) o
unfolding read_answer
answer-with len spool o q = ap (answer_with (length (read_records full_number full_wire len spool))) q

-- an answer that accepts comes of an outcome that accepts, and counts its records
accepted_inv : (len : ℕ) (spool : List ℕ) (n : ℕ) → read_answer full_number full_wire len spool ≡ Ok n
    → (u : Set) × (read_outcome full_number full_wire len spool ≡ accepted u) × (length (records_of full_class u) ≡ n)
accepted_inv len spool n e = go (read_outcome full_number full_wire len spool) refl
  where
    go : (o : Outcome) → read_outcome full_number full_wire len spool ≡ o → (u : Set) × (read_outcome full_number full_wire len spool ≡ accepted u) × (length (records_of full_class u) ≡ n)
    go (refused k v l) q = absurd (let z = sym (answer-with len spool (refused k v l) q) ∙ e in let y : ◌≡◌ {A = ℕ} 0 1 = cc in omega arith)
    go (accepted u) q = (u, q, let z = sym (taken len spool full_number full_wire full_class u class15 q).1 ∙ e in cc)

-- with room for it the rewriter accepts
pub room-accepts : (len : ℕ) (spool : List ℕ) (s : Set) → rewrite_outcome spool ≡ accepted s → length (written spool) ≤ len → rewrite_answer len spool ≡ Ok (length (written spool))
unfolding rewrite_answer
room-accepts len spool s e h =
    let n = length (written spool) in
    ap (λ o. fit_output len n (answer_with n o)) e ∙ ap (λ b. cond b (Ok n) (refusal 20 0 0)) (le-leb n len h)

-- the lines written weigh no more than the lines read
no_longer : (vs : List Volume) (ts : List Text) (s : Set) → Texts vs ts → all some_lines ts ≡ true → run plain_env (top nothing_yet 0) (listing 1 vs ts) ≡ accepted s
    → total weigh (volume_lines s s.volumes) ≤ total weigh ts
no_longer vs ts s h full r =
    let a = fixed-short plain_env (listing 1 vs ts) (sizes ts) s (listing-told 1 vs ts h full) r in
    let b = sizes-weight ts in
    omega arith

-- the names that follow, by the last line of each volume
numbered-nexts : (k : ℕ) (next : List ℕ) (n at : ℕ) (l : List ℕ) (t : Text) (more : List Line) → nexts_of (numbered k next n at (l ∷ t) ++ more) ≡ next ∷ nexts_of more
numbered-nexts k next n at l [] more = refl
numbered-nexts k next n at l (m ∷ t) more = numbered-nexts k next (suc n) (at + length l + 2) m t more

listing-nexts : (k : ℕ) (vs : List Volume) (ts : List Text) → Texts vs ts → all some_lines ts ≡ true → nexts_of (listing k vs ts) ≡ nexts_of_volumes vs
listing-nexts k [] [] h a = refl
listing-nexts k [] (t ∷ ts) h a = absurd h
listing-nexts k (v ∷ vs) [] h a = absurd h
listing-nexts k (v ∷ vs) ([] ∷ ts) h a = clash a refl
listing-nexts k (v ∷ vs) ((l ∷ t) ∷ ts) h a =
    numbered-nexts k (next_name vs) 1 v.place l t (listing (suc k) vs ts) ∙ ap (λ ns. next_name vs ∷ ns) (listing-nexts (suc k) vs ts h.1 a)

numbered_steady : (k : ℕ) (next : List ℕ) (n at : ℕ) (l : List ℕ) (t : Text) (more : List Line) → Steady more → Steady (numbered k next n at (l ∷ t) ++ more)
numbered_steady k next n at l [] [] h = tt
numbered_steady k next n at l [] (m ∷ more) h = (λ e. clash refl e, h)
numbered_steady k next n at l (m ∷ t) more h = (λ e. refl, numbered_steady k next (suc n) (at + length l + 2) m t more h)

listing_steady : (k : ℕ) (vs : List Volume) (ts : List Text) → Texts vs ts → all some_lines ts ≡ true → Steady (listing k vs ts)
listing_steady k [] [] h a = tt
listing_steady k [] (t ∷ ts) h a = absurd h
listing_steady k (v ∷ vs) [] h a = absurd h
listing_steady k (v ∷ vs) ([] ∷ ts) h a = clash a refl
listing_steady k (v ∷ vs) ((l ∷ t) ∷ ts) h a = numbered_steady k (next_name vs) 1 v.place l t (listing (suc k) vs ts) (listing_steady (suc k) vs ts h.1 a)

-- what was read of these texts is good
listing-good : (vs : List Volume) (ts : List Text) (s : Set) → Texts vs ts → all some_lines ts ≡ true → run plain_env (top nothing_yet 0) (listing 1 vs ts) ≡ accepted s → GoodSet (nexts_of_volumes vs) s
listing-good vs ts s h full r =
    subst (λ ns. GoodSet ns s) (listing-nexts 1 vs ts h full) (read-good (listing 1 vs ts) (sizes ts) s (listing-told 1 vs ts h full) (listing_steady 1 vs ts h full) r)

-- every volume but the last is followed by one with a name
ends-once : (vs : List Volume) → all (λ v. not (is_nil v.name)) vs ≡ true → 1 ≤ length vs → ends_once (nexts_of_volumes vs) ≡ true
ends-once [] a h = absurd (let z : 1 ≤ 0 = h in omega arith)
ends-once (v ∷ []) a h = refl
ends-once (v ∷ w ∷ vs) a h =
    let b = and_right (not (is_nil v.name)) _ a in
    and_true _ _ (and_left (not (is_nil w.name)) _ b) (ends-once (w ∷ vs) b (omega arith))

-- ── one accepted spool ──
module _ (spool : List ℕ) (s : Set) (outcome : rewrite_outcome spool ≡ accepted s) (p : Parsed plain_env spool s) where
  abbrev vs : List Volume
  vs = p.volumes

  abbrev names : List (List ℕ)
  names = names_of vs

  spooled : Spooled spool vs
  spooled = volumes_inv spool vs p.found

  full : all some_lines p.texts ≡ true
  full = none-empty plain_env 1 vs p.texts p.theirs (named vs spooled.named) nothing_yet s p.runs

  good : GoodSet (nexts_of_volumes vs) s
  good = listing-good vs p.texts s p.theirs full p.runs

  -- the lines of the fixed form, volume by volume
  abbrev lines : List Text
  lines = volume_lines s s.volumes

  abbrev bodies : List (List ℕ)
  bodies = map unlines lines

  abbrev output : List ℕ
  output = framed names bodies

  is-output : written spool ≡ output
  is-output = written_is spool vs s p.found outcome ∙ form-is names s

  nexts-length : (vs : List Volume) → length (nexts_of_volumes vs) ≡ length vs
  nexts-length [] = refl
  nexts-length (v ∷ vs) = ap suc (nexts-length vs)

  as_many : length names ≡ length lines
  as_many = length-map vs (λ v. v.name) ∙ sym (nexts-length vs) ∙ nexts_count (nexts_of_volumes vs) s good ∙ sym (lines-count s)

  texts-many : (vs : List Volume) (ts : List Text) → Texts vs ts → length vs ≡ length ts
  texts-many [] [] h = refl
  texts-many [] (t ∷ ts) h = absurd h
  texts-many (v ∷ vs) [] h = absurd h
  texts-many (v ∷ vs) (t ∷ ts) h = ap suc (texts-many vs ts h.1)

  as-bodies : length names ≡ length bodies
  as-bodies = as_many ∙ sym (length-map lines unlines)

  output-length : length output ≤ length spool
  output-length =
      let a = framed-length names bodies as-bodies ∙ body-total lines ∙ total-plus 13 weigh lines in
      let b = spooled.size ∙ volumes-weight vs p.texts p.theirs ∙ total-plus 13 weigh p.texts in
      let c = no_longer vs p.texts s p.theirs full p.runs in
      let d = texts-many vs p.texts p.theirs in
      let e = length-map vs (λ v. v.name) in
      let f = as_many in
      omega arith

  -- ── the output is a spool, and is read as the same set ──
  again-found : volumes_of output ≡ Some (laid 0 names bodies)
  again-found =
      let a = output-length in
      let b = spooled.fits in
      let c = spooled.one in
      let d = spooled.few in
      let e = length-map vs (λ v. v.name) in
      volumes-back names bodies as-bodies (omega arith) (omega arith) spooled.named spooled.differ (omega arith)

  again-theirs : Texts (laid 0 names bodies) lines
  again-theirs = laid-texts 0 names lines as_many (lines-fine (nexts_of_volumes vs) s good)

  again-nexts : nexts_of_volumes (laid 0 names bodies) ≡ nexts_of_volumes vs
  again-nexts = nexts-names (laid 0 names bodies) ∙ ap nexts_of_names (names-laid 0 names bodies as-bodies) ∙ sym (nexts-names vs)

  again-lines : map bare_line (listing 1 (laid 0 names bodies) lines) ≡ lay_all (nexts_of_volumes vs) lines
  again-lines = listing-bare 1 (laid 0 names bodies) lines again-theirs (lines-some s) ∙ ap (λ ns. lay_all ns lines) again-nexts

  pub record Again : Type 0 where
    pub set : Set
    pub runs : run plain_env (top nothing_yet 0) (listing 1 (laid 0 names bodies) lines) ≡ accepted set
    pub count : ℕ
    pub bare : bare_set set ≡ retaken count (bare_set s)

  again : Again
  again =
      let (m, r) = set_back (nexts_of_volumes vs) s good (ends-once vs (named vs spooled.named) spooled.one) in
      let (t, q, b) = accepted_real plain_env (listing 1 (laid 0 names bodies) lines) (top nothing_yet 0) (retaken m (bare_set s)) (ap (run plain_env (top nothing_yet 0)) again-lines ∙ r) in
      record { set = t; runs = q; count = m; bare = b }

  module _ (a : Again) where
    abbrev t : Set
    t = a.set

    again_outcome : rewrite_outcome (written spool) ≡ accepted t
    again_outcome =
        ap rewrite_outcome is-output ∙ rewrite-is output ∙ reading plain_env output (laid 0 names bodies) lines again-found again-theirs ∙ a.runs

    again-form : written (written spool) ≡ written spool
    again-form =
        written_is (written spool) (laid 0 names bodies) t (ap volumes_of is-output ∙ again-found) again_outcome
        ∙ ap (λ ns. fixed_form ns t) (names-laid 0 names bodies as-bodies)
        ∙ sym (form-bare names t) ∙ ap (fixed_form names) a.bare ∙ form-retaken names a.count (bare_set s) ∙ form-bare names s
        ∙ sym (written_is spool vs s p.found outcome)

    again-records : (c : Class) → map places_apart (records_of c t) ≡ map places_apart (records_of c s)
    again-records c =
        records-read c plain_env (listing 1 (laid 0 names bodies) lines) t a.runs
        ∙ ap (λ u. map places_apart (records_of c u)) a.bare ∙ ap (map places_apart) (records-retaken c a.count (bare_set s))
        ∙ sym (records-read c plain_env (listing 1 vs p.texts) s p.runs)

    -- as many records
    again-taken : t.taken ≡ s.taken
    again-taken =
        sym (taken-counts full_class full_class None (listing 1 (laid 0 names bodies) lines) t a.runs)
        ∙ sym (length-map (records_of full_class t) places_apart) ∙ ap length (again-records full_class) ∙ length-map (records_of full_class s) places_apart
        ∙ taken-counts full_class full_class None (listing 1 vs p.texts) s p.runs

    -- so the count of records is the same, and the whole set
    again-set : bare_set t ≡ bare_set s
    again-set =
        let n : a.count ≡ s.taken = sym (ap (λ (v : Set). v.taken) a.bare) ∙ again-taken in
        a.bare ∙ ap (λ (m : ℕ). retaken m (bare_set s)) n

    again-texts : (c : Class) → texts_of (written spool) (records_of c t) ≡ texts_of spool (records_of c s)
    again-texts c =
        shown-texts (written spool) (records_of c t) (texts_kept t) (read-shows plain_env c (written spool) t (sym (rewrite-is (written spool)) ∙ again_outcome))
        ∙ sym (texts-bare t) ∙ ap texts_kept again-set ∙ texts-bare s
        ∙ sym (shown-texts spool (records_of c s) (texts_kept s) (read-shows plain_env c spool s (sym (rewrite-is spool) ∙ outcome)))

    again-names : map_o names_of (volumes_of (written spool)) ≡ map_o names_of (volumes_of spool)
    again-names = ap (map_o names_of) (ap volumes_of is-output ∙ again-found) ∙ ap Some (names-laid 0 names bodies as-bodies) ∙ sym (ap (map_o names_of) p.found)

    -- ── with a table ──
    module _ (len : ℕ) (u : Set) (reads : read_outcome full_number full_wire len spool ≡ accepted u) where
      abbrev m : ℕ
      m = len / width

      abbrev env : Env
      env = limited_to full_class m

      run-limited : run env (top nothing_yet 0) (listing 1 vs p.texts) ≡ accepted u
      run-limited = sym (reading env spool vs p.texts p.found p.theirs) ∙ sym (outcome-at len spool full_number full_wire full_class class15) ∙ reads

      same_set : u ≡ s
      same_set = accepted-same (sym (limit-drop full_class m (listing 1 vs p.texts) (top nothing_yet 0) u run-limited) ∙ p.runs)

      again-limited : read_outcome full_number full_wire len (written spool) ≡ accepted t
      again-limited =
          let f = taken-fits full_class m (listing 1 vs p.texts) u run-limited in
          let g = ap (λ (v : Set). v.taken) same_set in
          let h = again-taken in
          ap (read_outcome full_number full_wire len) is-output ∙ outcome-at len output full_number full_wire full_class class15
          ∙ reading env output (laid 0 names bodies) lines again-found again-theirs
          ∙ limit-lift full_class m (listing 1 (laid 0 names bodies) lines) (top nothing_yet 0) t a.runs (omega arith)

  written-short : length (written spool) ≤ length spool
  written-short = subst (λ o. length o ≤ length spool) (sym is-output) output-length

  round : RoundTrip spool s
  round =
      let a = again in
      record {
        no_longer = written-short;
        writes = λ size room. room-accepts size spool s outcome (omega (arith, written-short, room));
        many = length (records_of full_class s);
        reads = λ len room. (taken len spool full_number full_wire full_class s class15 (fits-table len spool s outcome room)).1;
        names = again-names a;
        set = a.set;
        again = again_outcome a;
        whole = again-set a;
        count = λ len n e.
            let (u, o, q) = accepted_inv len spool n e in
            let w = taken len (written spool) full_number full_wire full_class a.set class15 (again-limited a len u o) in
            w.1 ∙ ap Ok (sym (length-map (records_of full_class a.set) places_apart) ∙ ap length (again-records a full_class) ∙ length-map (records_of full_class s) places_apart
            ∙ ap (λ v. length (records_of full_class v)) (sym (same_set a len u o)) ∙ q);
        records = λ len n e.
            let (u, o, q) = accepted_inv len spool n e in
            ap (map places_apart) (taken len (written spool) full_number full_wire full_class a.set class15 (again-limited a len u o)).0 ∙ again-records a full_class
            ∙ ap (λ v. map places_apart (records_of full_class v)) (sym (same_set a len u o)) ∙ ap (map places_apart) (sym (taken len spool full_number full_wire full_class u class15 o).0);
        texts = λ len n e.
            let (u, o, q) = accepted_inv len spool n e in
            ap (texts_of (written spool)) (taken len (written spool) full_number full_wire full_class a.set class15 (again-limited a len u o)).0 ∙ again-texts a full_class
            ∙ ap (λ v. texts_of spool (records_of full_class v)) (sym (same_set a len u o)) ∙ ap (texts_of spool) (sym (taken len spool full_number full_wire full_class u class15 o).0);
        wires = sym (wires-bare a.set) ∙ ap texts_of_wires (again-set a) ∙ wires-bare s;
        twice = again-form a;
      }

pub written_back : WrittenBack
written_back spool s e = round spool s e (parsed plain_env spool s (sym (rewrite-is spool) ∙ e))

pub demand-two : DemandTwo
unfolding written_back round
demand-two spool len n e =
    let (s, o, q) = accepted_inv len spool n e in
    let w = any-table len spool s o in
    let b = written_back spool s w in
    record { set = s; read = o; rewritten = w; back = b; many = q }
