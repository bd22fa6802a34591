-- The volumes of an accepted set written one behind the other: how far the writing has come, and what one more volume makes of it.
use Rattle.std.specs.Prelude.{Option, Some, None, Result, Ok, Err}
use Prim.Native.Nat.{ℕ, suc, ◌+◌, ◌≤◌, ◌<◌}
use mathlib.Core.Bool.{Bool, true, false}
use mathlib.Core.List.{List, [], ◌∷◌, ◌++◌, append_assoc, append-nil}
use mathlib.Core.Path.{◌≡◌, refl, sym, ◌∙◌, ap, subst}
use native.Mathlib.Omega.{arith}
use borrow.Author.Tests.{ne_eqb}
use lib.Dec.{eqb, leb}
use lib.ListN.{length, get_or, take, drop, length-append, length-drop}
use lib.Seq.{drop-drop}
use Rattle.rules.specs.Base.{all}
use Rattle.rules.specs.Spool.{most_in_line, Volume, names_of, lines_from, short_lines, lines_of, volumes_of, unlines, volume_bytes}
use Rattle.rules.specs.Values.{Known}
use Rattle.rules.specs.Sets.{Contents, Set, nothing_yet, known_of}
use Rattle.rules.specs.FixedForm.{Text, volume_lines, volumes_bytes, fixed_form}
use Rattle.rules.specs.Machine.{Line, Env, State, top}
use Rattle.rules.specs.LineByLine.{Outcome, accepted, run}
use Rattle.rules.specs.Answers.{next_name, Listed, listed, no_lines, list_volumes, outcome_of_lines, outcome_of_volumes, outcome_of, full_class, names_in, written_in, rewrite_outcome, written}
use Rattle.rules.proofs.Chains.{clash, cond-some}
use Rattle.rules.proofs.Runs.{not-accepted}
use Rattle.lines.specs.VolumePlaces.{layout_of}
use Rattle.lines.proofs.VolumePlaces.{volumes-laid}
use Rattle.lines.proofs.LinesSeen.{lines-from-start}
use Rattle.lines.proofs.VolumesSeen.{volume_in}
use Rattle.pens.specs.Shown.{shown}
use Rattle.pens.specs.Passing.{LinesAt}
use Rattle.volumes.specs.Volumes.{Fronts, Begins, ServedAfter, VolumeOut, VolumePromise}
use Rattle.volumes.proofs.LentOutput.{lent, back, lent-long, back_is}
use Rattle.volumes.proofs.VolumeEnd.{fronts-fit, fronts-none}
use Rattle.volumes.proofs.Heads.{fronted, unfronted, take_after}
use Rattle.volumes.proofs.VolumeRuns.{Lists, lists_of, After, volume-step, Final, closed-later, more-volumes, rest_final}
use Rattle.volumes.proofs.SetTexts.{rest_lines, text-between, text-last, volumes-append}
use Rattle.leaves.specs.declared.NoRoom.{NoRoom}
use Rattle.leaves.specs.NoRoom.{no_room}

-- as the rewriter reads
abbrev pub plain_env : Env
plain_env = record { class = full_class; limit = None }

-- ── the reading that was accepted ──
pub record Accepted (spool : List ℕ) (set : Set) : Type 0 where
  pub volumes : List Volume
  pub lines : List Line
  pub are : volumes_of spool ≡ Some volumes
  pub lists : Lists 1 volumes lines
  pub goes : run plain_env (top nothing_yet 0) lines ≡ accepted set
  pub text : written spool ≡ volumes_bytes (names_of volumes) (volume_lines set set.volumes)

pub accepted-so : (spool : List ℕ) (set : Set) → rewrite_outcome spool ≡ accepted set → Accepted spool set
unfolding rewrite_outcome outcome_of written fixed_form
accepted-so spool set q = go (volumes_of spool) refl q
  where
    go : (o : Option (List Volume)) → volumes_of spool ≡ o → outcome_of_volumes plain_env o ≡ accepted set → Accepted spool set
    go None p h = not-accepted h
    go (Some vs) p h = on (list_volumes 1 vs) refl h
      where
        on : (r : Listed) → list_volumes 1 vs ≡ r → outcome_of_lines plain_env r ≡ accepted set → Accepted spool set
        on (no_lines n) l h = not-accepted h
        on (listed ls) l h = record { volumes = vs; lines = ls; are = p; lists = lists_of 1 vs ls l; goes = h; text = ap (λ (x : Outcome). written_in (names_in (volumes_of spool)) x) q ∙ ap (λ (x : Option (List Volume)). written_in (names_in x) (accepted set)) p }

-- ── how far the writing has come ──
module _ (spool : List ℕ) (set : Set) (a : Accepted spool set) where
  -- the volume with number i + 1 comes next
  abbrev pub NextVolume : ℕ → List Contents → List Volume → Type 0
  NextVolume i cs [] = Unit {0}
  NextVolume i cs (v ∷ us) =
      (s : Set) × (ls : List Line) × Begins (eqb i 0) s × Lists (suc i) (v ∷ us) ls × (run plain_env (top s 0) ls ≡ accepted set) × (set.volumes ≡ s.volumes ++ cs)

  pub record Done (i at : ℕ) (out : List ℕ) : Type 0 where
    pub names : List (List ℕ)
    pub texts : List Text
    pub rest : List Volume
    pub cs : List Contents
    pub left : drop i a.volumes ≡ rest
    pub all-names : names_of a.volumes ≡ names ++ names_of rest
    pub all-texts : volume_lines set set.volumes ≡ texts ++ rest_lines plain_env set (eqb i 0) cs
    pub even : length names ≡ length texts
    pub many : length cs ≡ length rest
    pub at-is : at ≡ length (volumes_bytes names texts)
    pub front : take at out ≡ volumes_bytes names texts
    pub next : NextVolume i cs rest

  -- the first volume's contents, and those of the others
  first-many : (K : Known) (vs : List Volume) (ls : List Line) → Lists 1 vs ls → run plain_env (top nothing_yet 0) ls ≡ accepted set → length set.volumes ≡ length vs
  first-many K [] ls x q = not-accepted (ap (run plain_env (top nothing_yet 0)) (sym x) ∙ q)
  first-many K (v ∷ []) ls x q =
      let r = volume-step plain_env set true nothing_yet 1 K v [] ls refl x q in ap length r.after.1.volumes
  first-many K (v ∷ u ∷ us) ls x q =
      let r = volume-step plain_env set true nothing_yet 1 K v (u ∷ us) ls refl x q in
      let (s₁, more, is, c, y, on) = r.after in
      let (cs, f, n) = rest_final plain_env set K us u 2 s₁ more (closed-later plain_env set true nothing_yet s₁ c) y on in
      ap length (more-volumes plain_env set true nothing_yet s₁ cs c f) ∙ ap suc n

  begins-first : Begins true nothing_yet
  begins-first = record { volume = refl; bare = λ _. refl; served = λ h. clash refl h }

  first_next : (vs : List Volume) → Lists 1 vs a.lines → NextVolume 0 set.volumes vs
  first_next [] x = tt
  first_next (v ∷ us) x = (nothing_yet, a.lines, begins-first, x, a.goes, refl)

  pub done-begins : (out : List ℕ) → Done 0 0 out
  done-begins out = record {
    names = [];
    texts = [];
    rest = a.volumes;
    cs = set.volumes;
    left = refl;
    all-names = refl;
    all-texts = refl;
    even = refl;
    many = first-many (known_of set) a.volumes a.lines a.lists a.goes;
    at-is = refl;
    front = refl;
    next = first_next a.volumes a.lists;
  }

  -- ── the text of the next volume ──
  cancel : (x y z : List Contents) → x ++ y ≡ x ++ z → y ≡ z
  cancel [] y z q = q
  cancel (c ∷ x) y z q = cancel x y z (let r : x ++ y ≡ x ++ z = cc in r)

  cons_of : (cs : List Contents) (n : ℕ) → length cs ≡ suc n → (c : Contents) × (ds : List Contents) × (cs ≡ c ∷ ds)
  cons_of [] n q = absurd (omega (arith, q))
  cons_of (c ∷ ds) n q = (c, ds, refl)

  -- the volumes behind it
  pub record Behind (i : ℕ) (first : Bool) (cs : List Contents) (us : List Volume) (st : State) : Type 0 where
    pub others : List Contents
    pub text : rest_lines plain_env set first cs ≡ shown (known_of set) first st ∷ rest_lines plain_env set false others
    pub many : length others ≡ length us
    pub next : ServedAfter st → NextVolume (suc i) others us

  later : (i : ℕ) → eqb (suc i) 0 ≡ false
  later i = ne_eqb (suc i) 0 (λ q. omega (arith, q))

  behind : (i : ℕ) (first : Bool) (s : Set) (cs : List Contents) (us : List Volume) (st : State) → set.volumes ≡ s.volumes ++ cs → After plain_env set first s (suc i) us st → Behind i first cs us st
  behind i first s cs [] st q (is, c) =
      let same : cs ≡ set.now ∷ [] = cancel s.volumes cs (set.now ∷ []) (sym q ∙ c.volumes) in
      record {
        others = [];
        text = ap (rest_lines plain_env set first) same ∙ text-last plain_env set first s c ∙ ap (λ (x : State). shown (known_of set) first x ∷ []) (sym is);
        many = refl;
        next = λ _. tt;
      }
  behind i first s cs (u ∷ us) st q (s₁, more, is, c, x, on) =
      let (ds, f, n) = rest_final plain_env set (known_of set) us u (suc (suc i)) s₁ more (closed-later plain_env set first s s₁ c) x on in
      let (d, ds', some_more) = cons_of ds (length us) n in
      let f' : Final plain_env set s₁ (d ∷ ds') = subst (Final plain_env set s₁) some_more f in
      let same : cs ≡ s₁.now ∷ d ∷ ds' = cancel s.volumes cs (s₁.now ∷ d ∷ ds') (sym q ∙ more-volumes plain_env set first s s₁ (d ∷ ds') c f') in
      record {
        others = d ∷ ds';
        text = ap (rest_lines plain_env set first) same ∙ text-between plain_env set first s s₁ d ds' c f' ∙ ap (λ (y : State). shown (known_of set) first y ∷ rest_lines plain_env set false (d ∷ ds')) (sym is);
        many = ap length (sym some_more) ∙ n;
        next = λ h. (
          s₁,
          more,
          record {
            volume = closed-later plain_env set first s s₁ c ∙ sym (later i);
            bare = λ b. clash b (later i);
            served = λ _. subst ServedAfter is h;
          },
          x,
          on,
          f'.volumes,
        );
      }

  -- ── one more volume ──
  narrow_of : (o : Option (List (List ℕ))) (ls : List (List ℕ)) → short_lines o ≡ Some ls → all (λ l. leb (length l) most_in_line) ls ≡ true
  narrow_of None ls q = absurd (let z : ◌≡◌ {A = ℕ} 0 1 = cc in omega arith)
  narrow_of (Some us) ls q = let (b, same) = cond-some (all (λ l. leb (length l) most_in_line) us) us ls q in ap (all (λ l. leb (length l) most_in_line)) (sym same) ∙ b

  lines-narrow : (body : List ℕ) (ls : List (List ℕ)) → lines_of body ≡ Some ls → all (λ l. leb (length l) most_in_line) ls ≡ true
  unfolding lines_of
  lines-narrow body ls q = narrow_of (lines_from false body) ls q

  lines_at : (i : ℕ) (v : Volume) (us : List Volume) (ls : List (List ℕ)) → drop i a.volumes ≡ v ∷ us → lines_of v.body ≡ Some ls → LinesAt spool v.body v.place v.place ls
  lines_at i v us ls d q =
      let w = volume_in spool a.volumes a.are i v us d in
      record {
        short = (volumes-laid spool a.volumes a.are).spool;
        part = w.part;
        begun = omega arith;
        here = omega arith;
        lines = lines-from-start v.place v.body ls q;
        narrow = lines-narrow v.body ls q;
      }

  module _ (i at : ℕ) (out : List ℕ) (h : at ≤ length out) (x : Done i at out) (body : List ℕ) (place : ℕ) (below : i < length a.volumes)
      (placed : get_or (layout_of (volumes_of spool)).places i 0 ≡ place) (held : body ≡ take (get_or (layout_of (volumes_of spool)).lengths i 0) (drop place spool)) (part : List ℕ) (r : Result ℕ NoRoom)
      (promise : VolumePromise spool body place (eqb i 0) (lent at out h) part r) where
    -- the volume, its text, and those behind it
    record Turn : Type 0 where
      volume : Volume
      us : List Volume
      is : x.rest ≡ volume ∷ us
      state : State
      out-is : VolumeOut (known_of set) (eqb i 0) volume.name state (lent at out h) part r
      behind_it : Behind i (eqb i 0) x.cs us state

    turn : Turn
    turn = go x.rest refl x.next
      where
        go : (vs : List Volume) → x.rest ≡ vs → NextVolume i x.cs vs → Turn
        go [] e n = absurd (omega (arith, below, ap length (x.left ∙ e), length-drop i a.volumes))
        go (v ∷ us) e (s, ls, b, lists, q, vols) =
            let d : drop i a.volumes ≡ v ∷ us = x.left ∙ e in
            let w = volume_in spool a.volumes a.are i v us d in
            let y = volume-step plain_env set (eqb i 0) s (suc i) (known_of set) v us ls b.volume lists q in
            let here : place ≡ v.place = sym placed ∙ w.place in
            let same : body ≡ v.body = held ∙ ap (λ (m : ℕ). take m (drop place spool)) w.size ∙ ap (λ (m : ℕ). take (length v.body) (drop m spool)) here ∙ sym w.part.bytes in
            let p : VolumePromise spool v.body v.place (eqb i 0) (lent at out h) part r =
            subst (λ (u : List ℕ). VolumePromise spool u v.place (eqb i 0) (lent at out h) part r) same (subst (λ (m : ℕ). VolumePromise spool body m (eqb i 0) (lent at out h) part r) here promise) in
            let o = p (known_of set) plain_env (suc i) (next_name us) y.lines s y.state refl (lines_at i v us y.lines d y.are) b y.goes in
            record {
              volume = v;
              us = us;
              is = e;
              state = y.state;
              out-is = subst (λ (n : List ℕ). VolumeOut (known_of set) (eqb i 0) n y.state (lent at out h) part r) w.name o;
              behind_it = behind i (eqb i 0) s x.cs us y.state vols y.after;
            }

    abbrev z : Turn
    z = turn

    abbrev new : List ℕ
    new = volume_bytes z.volume.name (unlines (shown (known_of set) (eqb i 0) z.state))

    abbrev more : List ℕ
    more = volumes_bytes (names_of z.us) (rest_lines plain_env set false z.behind_it.others)

    whole : written spool ≡ volumes_bytes x.names x.texts ++ (new ++ more)
    whole =
        a.text
        ∙ ap (λ (n : List (List ℕ)). volumes_bytes n (volume_lines set set.volumes)) x.all-names
        ∙ ap (volumes_bytes (x.names ++ names_of x.rest)) x.all-texts
        ∙ volumes-append x.names (names_of x.rest) x.texts (rest_lines plain_env set (eqb i 0) x.cs) x.even
        ∙ ap (λ (vs : List Volume). volumes_bytes x.names x.texts ++ volumes_bytes (names_of vs) (rest_lines plain_env set (eqb i 0) x.cs)) z.is
        ∙ ap (λ (ts : List Text). volumes_bytes x.names x.texts ++ volumes_bytes (names_of (z.volume ∷ z.us)) ts) z.behind_it.text

    pub turn-full : (before after : List ℕ) → length out ≡ length before → r ≡ Err no_room → Fronts (written spool) before after (Err no_room)
    turn-full before after long e =
        let f = unfronted new (lent at out h) part (subst (Fronts new (lent at out h) part) e z.out-is.fronts) in
        fronts-none (written spool) before after
        (omega (
          arith,
          ap length whole,
          length-append (volumes_bytes x.names x.texts) (new ++ more),
          length-append new more,
          f,
          lent-long at out h,
          x.at-is,
          long,
          h,
        ))

    pub turn_on : (n : ℕ) → r ≡ Ok n → Done (suc i) (at + n) (back at out h part)
    turn_on n e =
        let (fits, same, is) = fronted new (lent at out h) part n (subst (Fronts new (lent at out h) part) e z.out-is.fronts) in
        let text : Text = shown (known_of set) (eqb i 0) z.state in
        let one : volumes_bytes (z.volume.name ∷ []) (text ∷ []) ≡ new = append-nil new in
        let joined : volumes_bytes (x.names ++ z.volume.name ∷ []) (x.texts ++ text ∷ []) ≡ volumes_bytes x.names x.texts ++ new =
        volumes-append x.names (z.volume.name ∷ []) x.texts (text ∷ []) x.even ∙ ap (λ (u : List ℕ). volumes_bytes x.names x.texts ++ u) one in
        record {
          names = x.names ++ z.volume.name ∷ [];
          texts = x.texts ++ text ∷ [];
          rest = z.us;
          cs = z.behind_it.others;
          left = next-left;
          all-names = x.all-names ∙ ap (λ (vs : List Volume). x.names ++ names_of vs) z.is ∙ sym (append_assoc x.names (z.volume.name ∷ []) (names_of z.us));
          all-texts =
              x.all-texts ∙ ap (λ (ts : List Text). x.texts ++ ts) z.behind_it.text ∙ sym (append_assoc x.texts (text ∷ []) (rest_lines plain_env set false z.behind_it.others))
              ∙ ap (λ (b : Bool). (x.texts ++ text ∷ []) ++ rest_lines plain_env set b z.behind_it.others) (sym (later i));
          even = omega (arith, x.even, length-append x.names (z.volume.name ∷ []), length-append x.texts (text ∷ []));
          many = z.behind_it.many;
          at-is = omega (arith, x.at-is, same, ap length joined, length-append (volumes_bytes x.names x.texts) new);
          front =
              ap (take (at + n)) (back_is at out h part ∙ ap (λ (u : List ℕ). u ++ part) x.front)
              ∙ take_after (volumes_bytes x.names x.texts) part (at + n) n (ap (λ (m : ℕ). m + n) x.at-is)
              ∙ ap (λ (u : List ℕ). volumes_bytes x.names x.texts ++ u) (ap (λ (m : ℕ). take m part) same ∙ is)
              ∙ sym joined;
          next = z.behind_it.next (z.out-is.served n e);
        }
      where
        next-left : drop (suc i) a.volumes ≡ z.us
        next-left =
            let one : i + 1 ≡ suc i = omega arith in
            ap (λ (m : ℕ). drop m a.volumes) (sym one) ∙ sym (drop-drop 1 i a.volumes) ∙ ap (drop 1) (x.left ∙ z.is)

  -- ── all volumes ──
  pub all_done : (i at : ℕ) (before out : List ℕ) → Done i at out → length a.volumes ≤ i → at ≤ length before → Fronts (written spool) before out (Ok at)
  all_done i at before out x most h =
      let none_left : x.rest ≡ [] = nothing x.rest (ap length (sym x.left) ∙ length-drop i a.volumes ∙ omega (arith, most)) in
      let no-contents : x.cs ≡ [] = nothing x.cs (x.many ∙ ap length none_left) in
      let whole : written spool ≡ volumes_bytes x.names x.texts =
      a.text
      ∙ ap (λ (n : List (List ℕ)). volumes_bytes n (volume_lines set set.volumes)) (x.all-names ∙ ap (λ (vs : List Volume). x.names ++ names_of vs) none_left ∙ append-nil x.names)
      ∙ ap (volumes_bytes x.names) (x.all-texts ∙ ap (λ (cs : List Contents). x.texts ++ rest_lines plain_env set (eqb i 0) cs) no-contents ∙ ap (λ (ts : List Text). x.texts ++ ts) (no-texts (eqb i 0)) ∙ append-nil x.texts) in
      fronts-fit (written spool) before out at (x.at-is ∙ ap length (sym whole)) h (x.front ∙ sym whole)
    where
      nothing : {A : Type 0} (us : List A) → length us ≡ 0 → us ≡ []
      nothing [] e = refl
      nothing (u ∷ us) e = absurd (omega (arith, e))

      no-texts : (b : Bool) → rest_lines plain_env set b [] ≡ []
      no-texts true = refl
      no-texts false = refl
