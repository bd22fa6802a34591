-- The volumes of a set read one after the other: how far the reading has come, and what one more volume makes of it.
use Rattle.std.specs.Prelude.{Option, Some, None, Result, Ok, Err}
use Prim.Native.Nat.{ℕ, zero, suc, ◌+◌, ◌-◌, ◌*◌, ◌/◌, ◌≤◌, ◌<◌}
use mathlib.Core.Bool.{Bool}
use mathlib.Core.List.{List, [], ◌∷◌, ◌++◌}
use mathlib.Core.Path.{◌≡◌, refl, sym, ◌∙◌, ap, subst}
use native.Mathlib.Omega.{arith}
use lib.IntN.{ℤ, pos}
use lib.ListN.{length, get_or, take, drop, replicate, length-drop}
use lib.Seq.{drop-drop}
use borrow.Author.Tests.{lt-ltb, le-ltb}
use Rattle.rules.specs.declared.Class.{Class}
use Rattle.rules.specs.declared.Refusal.{Refusal}
use Rattle.rules.specs.Base.{is_nil}
use Rattle.rules.specs.Spool as P
use Rattle.rules.specs.Spool.{volumes_of}
use Rattle.rules.specs.Lines.{span, bytes_at}
use Rattle.rules.specs.Sets.{Set, nothing_yet}
use Rattle.rules.specs.Machine.{Line, Env, top, ended, limited_to}
use Rattle.rules.specs.LineByLine.{refused, accepted, run}
use Rattle.rules.specs.RecordTable.{records_from, records_of, table_of, width}
use Rattle.rules.specs.Answers.{next_name, lines_of_volume, outcome_of_lines, outcome_of_volumes, outcome_of}
use Rattle.lines.specs.VolumePlaces.{no_layout, layout_of}
use Rattle.lines.specs.VolumeNames.{name_at}
use Rattle.lines.specs.LineEnds.{first_unsound}
use Rattle.lines.specs.LineLook.{lines_in, PartOf}
use Rattle.lines.proofs.LinesSeen.{lines-from-start}
use Rattle.lines.specs.declared.Layout.{Layout}
use Rattle.lines.proofs.VolumePlaces.{volumes-laid}
use Rattle.lines.proofs.VolumesSeen.{VolumeIn, volume_in, AllLined, lines_over, lined-listed, sound-volumes, unsound-volume}
use Rattle.account.specs.declared.Now.{Now}
use Rattle.account.specs.declared.Volume.{Volume}
use Rattle.account.specs.Walk.{end_of, At}
use Rattle.standing.specs.Standing.{Desk}
use Rattle.standing.specs.FileStanding.{InFile}
use Rattle.standing.specs.Reading.{Standing, start_of, next_number, next_state, Kept, VolumeReady, VolumeOut, VolumePromise}
use Rattle.sets.specs.SetReading.{nothing_now, name_behind}
use Rattle.promises.proofs.Limits.{taken-counts}
use Rattle.standing.proofs.LaidTables.{laid_table}
use Rattle.steps.proofs.VolumeRun.{stands-later}
use Rattle.sets.proofs.SetRunTaken.{few-taken}
use Rattle.sets.proofs.SetRunVolumes.{Grown, volumes_grow, next-nil, over-few}
use Rattle.sets.proofs.SetRunStart.{first_desk, begin-stands, begin-kept}

-- ── the outcome, by what the volumes say ──
pub outcome-is : (e : Env) (spool : List ℕ) → outcome_of e spool ≡ outcome_of_volumes e (volumes_of spool)
unfolding outcome_of
outcome-is e spool = refl

count_none : (layout_of None).count ≡ 0
unfolding layout_of no_layout
count_none = refl

outcome-none : (e : Env) (spool : List ℕ) (l : Layout) → l ≡ layout_of (volumes_of spool) → l.count ≡ 0 → outcome_of e spool ≡ refused 2 0 0
outcome-none e spool l q h = outcome-is e spool ∙ go (volumes_of spool) refl
  where
    go : (o : Option (List P.Volume)) → volumes_of spool ≡ o → outcome_of_volumes e (volumes_of spool) ≡ refused 2 0 0
    go None z = ap (outcome_of_volumes e) z
    go (Some vs) z = absurd (let y = volumes-laid spool vs z in omega (arith, h, ap (λ (x : Layout). x.count) q, y.count, y.some-volume))

pub some-volumes : (spool : List ℕ) (l : Layout) → l ≡ layout_of (volumes_of spool) → (l.count ≡ 0 → ⊥) → (vs : List P.Volume) × (volumes_of spool ≡ Some vs)
some-volumes spool l q h = go (volumes_of spool) refl
  where
    go : (o : Option (List P.Volume)) → volumes_of spool ≡ o → (vs : List P.Volume) × (volumes_of spool ≡ Some vs)
    go None z = absurd (h (ap (λ (x : Layout). x.count) q ∙ ap (λ (o : Option (List P.Volume)). (layout_of o).count) z ∙ count_none))
    go (Some vs) z = (vs, z)

pub outcome_unsound : (e : Env) (spool : List ℕ) (vs : List P.Volume) → volumes_of spool ≡ Some vs → (n : ℕ) → first_unsound spool (layout_of (volumes_of spool)) ≡ suc n → outcome_of e spool ≡ refused 3 (suc n) 0
outcome_unsound e spool vs z n h = outcome-is e spool ∙ ap (outcome_of_volumes e) z ∙ ap (outcome_of_lines e) (unsound-volume spool vs z n h)

pub outcome-lined : (e : Env) (spool : List ℕ) (vs : List P.Volume) → volumes_of spool ≡ Some vs → (h : AllLined vs) → outcome_of e spool ≡ run e (top nothing_yet 0) (lines_over 1 vs h)
outcome-lined e spool vs z h = outcome-is e spool ∙ ap (outcome_of_volumes e) z ∙ ap (outcome_of_lines e) (lined-listed 1 vs h)

-- limit: how many records the table has room for; lent: how many numbers are lent for it
module _ (c : Class) (spool : List ℕ) (limit lent : ℕ) (l : Layout) where
  abbrev e : Env
  e = limited_to c limit

  -- before the volume with number i + 1, or behind the last
  pub record Came (i : ℕ) (d : Desk) (t : List ℤ) : Type 0 where
    pub laid : l ≡ layout_of (volumes_of spool)
    pub all : List P.Volume
    pub are : volumes_of spool ≡ Some all
    pub lined : AllLined all
    pub long : length t ≡ lent
    pub left : List P.Volume
    pub drops : drop i all ≡ left
    pub lines : AllLined left
    pub set : Set
    pub at : ℕ
    pub grown : Grown at left
    pub stands : Standing c spool (next_number (is_nil left) i) d at (next_state (is_nil left) set)
    pub kept : Kept c limit t d.now.records (next_state (is_nil left) set)
    pub eq : run e (top nothing_yet 0) (lines_over 1 all lined) ≡ run e (next_state (is_nil left) set) (lines_over (i + 1) left lines)

  pub came-none : l ≡ layout_of (volumes_of spool) → l.count ≡ 0 → outcome_of e spool ≡ refused 2 0 0
  came-none q h = outcome-none e spool l q h

  pub came_unsound : l ≡ layout_of (volumes_of spool) → (l.count ≡ 0 → ⊥) → (n : ℕ) → n ≡ first_unsound spool l → (n ≡ 0 → ⊥) → outcome_of e spool ≡ refused 3 n 0
  came_unsound q h zero w g = absurd (g refl)
  came_unsound q h (suc n) w g = let (vs, z) = some-volumes spool l q h in outcome_unsound e spool vs z n (ap (first_unsound spool) (sym q) ∙ sym w)

  pub came-first : l ≡ layout_of (volumes_of spool) → (l.count ≡ 0 → ⊥) → first_unsound spool l ≡ 0 → (n : Now) → n ≡ nothing_now → (t : List ℤ) → length t ≡ lent
      → t ≡ replicate (length t) (pos 0) → Came 0 (first_desk n) t
  came-first q h w n b t k f =
      let (vs, z) = some-volumes spool l q h in
      subst (λ (x : Now). Came 0 (first_desk x) t) (sym b) (go vs z (sound-volumes spool vs z (ap (first_unsound spool) (sym q) ∙ w)))
    where
      go : (vs : List P.Volume) → volumes_of spool ≡ Some vs → AllLined vs → Came 0 (first_desk nothing_now) t
      go [] z y = absurd (let x = volumes-laid spool [] z in omega (arith, x.some-volume))
      go (v ∷ us) z y = record {
        laid = q;
        all = v ∷ us;
        are = z;
        lined = y;
        long = k;
        left = v ∷ us;
        drops = refl;
        lines = y;
        set = nothing_yet;
        at = 0;
        grown = volumes_grow spool (v ∷ us) z;
        stands = begin-stands c spool;
        kept = begin-kept c limit t f;
        eq = refl;
      }

  module _ (i : ℕ) (d : Desk) (t : List ℤ) (w : Came i d t) where
    count-is : l.count ≡ length w.all
    count-is = ap (λ (x : Layout). x.count) w.laid ∙ (volumes-laid spool w.all w.are).count

    pub count-few : l.count ≤ 12
    count-few = omega (arith, count-is, (volumes-laid spool w.all w.are).few)

    pub tally-long : length d.tally ≡ 13
    tally-long = ap length w.stands.tally

    left-long : length w.left ≡ l.count - i
    left-long = sym (ap length w.drops) ∙ length-drop i w.all ∙ ap (λ (n : ℕ). n - i) (sym count-is)

    -- ── one more volume ──
    module _ (h : i < l.count) where
      -- its place, its number, and the name of the one behind it
      abbrev start : ℕ
      start = get_or l.places i 0

      abbrev vol : Volume
      vol = record { number = i + 1; at = start }

      pub record Here : Type 0 where
        pub one : P.Volume
        pub more : List P.Volume
        pub drops : drop i w.all ≡ one ∷ more
        pub lines : AllLined (one ∷ more)
        pub grown : Grown w.at (one ∷ more)
        pub stands : Standing c spool (i + 1) d w.at (top w.set 0)
        pub kept : Kept c limit t d.now.records (top w.set 0)
        pub eq : run e (top nothing_yet 0) (lines_over 1 w.all w.lined) ≡ run e (top w.set 0) (lines_over (i + 1) (one ∷ more) lines)
        pub held : VolumeIn spool l i one

      pub here : Here
      here = go w.left w.drops w.lines w.grown w.stands w.kept w.eq
        where
          go : (us : List P.Volume) → drop i w.all ≡ us → (y : AllLined us) → Grown w.at us → Standing c spool (next_number (is_nil us) i) d w.at (next_state (is_nil us) w.set)
              → Kept c limit t d.now.records (next_state (is_nil us) w.set) → run e (top nothing_yet 0) (lines_over 1 w.all w.lined) ≡ run e (next_state (is_nil us) w.set) (lines_over (i + 1) us y) → Here
          go [] z y g s m q = absurd (omega (arith, length-drop i w.all, ap length z, count-is, h))
          go (v ∷ us) z y g s m q = record {
            one = v;
            more = us;
            drops = z;
            lines = y;
            grown = g;
            stands = s;
            kept = m;
            eq = q;
            held = subst (λ (x : Layout). VolumeIn spool x i v) (sym w.laid) (volume_in spool w.all w.are i v us z);
          }

      more-long : suc (length here.more) ≡ l.count - i
      more-long = sym (ap length here.drops) ∙ length-drop i w.all ∙ ap (λ (n : ℕ). n - i) (sym count-is)

      more-drops : drop (i + 1) w.all ≡ here.more
      more-drops = sym (drop-drop 1 i w.all) ∙ ap (drop 1) here.drops

      -- the name behind is that of the next volume, and nothing behind the last
      pub behind-is : name_behind spool l.places l.count i ≡ next_name here.more
      behind-is = go here.more refl
        where
          go : (us : List P.Volume) → here.more ≡ us → name_behind spool l.places l.count i ≡ next_name us
          go [] z = rw (le-ltb (i + 1) l.count (omega (arith, more-long, ap length z)))
          go (v ∷ us) z =
              let y : VolumeIn spool l (i + 1) v = subst (λ (x : Layout). VolumeIn spool x (i + 1) v) (sym w.laid) (volume_in spool w.all w.are (i + 1) v us (more-drops ∙ z)) in
              rw (lt-ltb (i + 1) l.count y.counted) (ap (name_at spool) y.place ∙ y.name)

      stands_here : Standing c spool (i + 1) d start (top w.set 0)
      stands_here = stands-later c spool (i + 1) d (InFile spool (i + 1) d) w.at start (top w.set 0) (omega (arith, here.held.place, here.grown.0)) here.stands

      -- the run, with this volume's lines in front
      abbrev more-lines : List Line
      more-lines = lines_over (suc (i + 1)) here.more here.lines.1

      run-here : run e (top nothing_yet 0) (lines_over 1 w.all w.lined) ≡ run e (top w.set 0) (lines_of_volume (i + 1) (next_name here.more) start here.lines.0.lines ++ more-lines)
      run-here =
          here.eq ∙ ap (λ (n : ℕ). run e (top w.set 0) (lines_of_volume (i + 1) (next_name here.more) n here.lines.0.lines ++ more-lines)) (sym here.held.place)

      -- its part of the spool, as it is lent
      module _ (body : List ℕ) (part : body ≡ bytes_at spool (span start (get_or l.lengths i 0))) where
        is_body : body ≡ here.one.body
        is_body =
            let y = here.held in
            part ∙ ap (λ (n : ℕ). take n (drop start spool)) y.size ∙ ap (λ (n : ℕ). take (length here.one.body) (drop n spool)) y.place ∙ sym y.part.bytes

        at-start : At spool body vol (start_of start) here.lines.0.lines
        at-start =
            let y = here.held in
            record {
              short = (volumes-laid spool w.all w.are).spool;
              part = subst (PartOf spool start) (sym is_body) (subst (λ (n : ℕ). PartOf spool n here.one.body) (sym y.place) y.part);
              begun = omega arith;
              here = omega arith;
              lines = ap (lines_in start start) is_body ∙ lines-from-start start here.one.body here.lines.0.lines here.lines.0.are;
              low = omega arith;
            }

        pub volume_ready : limit + 2 ≤ 18446744073709551615 → VolumeReady c spool body vol limit d t
        volume_ready m = record { set = w.set; lines = here.lines.0.lines; at = at-start; stands = stands_here; kept = here.kept; countable = m }

        module _ (following : List ℕ) (f : following ≡ name_behind spool l.places l.count i) (d₁ : Now → Desk) (t₁ : List ℤ) (r : Result Now Refusal)
            (promise : VolumePromise c spool body vol limit following d t d₁ t₁ r) where
          abbrev Out : List ℕ → Result Now Refusal → Type 0
          Out x = VolumeOut c spool body vol (is_nil x) limit (top w.set 0) (lines_of_volume (i + 1) x start here.lines.0.lines) more-lines d₁ t₁

          out : Out (next_name here.more) r
          out = subst (λ (x : List ℕ). Out x r) (f ∙ behind-is) (promise w.set here.lines.0.lines more-lines at-start stands_here here.kept)

          pub stops : (x : Refusal) → r ≡ Err x → outcome_of e spool ≡ refused x.number x.volume x.line
          stops x q = outcome-lined e spool w.all w.are w.lined ∙ run-here ∙ subst (Out (next_name here.more)) q out

          pub goes : (n : Now) → r ≡ Ok n → length t₁ ≡ length t → (d₁ n).now ≡ n → Came (i + 1) (d₁ n) t₁
          goes n q m is =
              let (s, x, z, o) = subst (Out (next_name here.more)) q out in
              let last : is_nil (next_name here.more) ≡ is_nil here.more = next-nil (here.one.place + length here.one.body) here.more here.grown.2 in
              let k : suc (i + 1) ≡ i + 1 + 1 = omega arith in
              let y = here.held in
              let at-end : here.one.place + length here.one.body ≡ end_of body vol = omega (arith, y.place, ap length is_body) in
              record {
                laid = w.laid;
                all = w.all;
                are = w.are;
                lined = w.lined;
                long = m ∙ w.long;
                left = here.more;
                drops = more-drops;
                lines = here.lines.1;
                set = s;
                at = end_of body vol;
                grown = subst (λ (m : ℕ). Grown m here.more) at-end here.grown.2;
                stands = subst (λ (b : Bool). Standing c spool (next_number b (i + 1)) (d₁ n) (end_of body vol) (next_state b s)) last z;
                kept = subst (λ (m : Now). Kept c limit t₁ m.records (next_state (is_nil here.more) s)) (sym is) (subst (λ (b : Bool). Kept c limit t₁ n.records (next_state b s)) last o);
                eq =
                    run-here ∙ x ∙ ap (λ (b : Bool). run e (next_state b s) more-lines) last
                    ∙ ap (λ (m : ℕ). run e (next_state (is_nil here.more) s) (lines_over m here.more here.lines.1)) k;
              }

    -- ── behind the last ──
    module _ (h : l.count ≤ i) where
      none_left : w.left ≡ []
      none_left = go w.left refl
        where
          go : (us : List P.Volume) → w.left ≡ us → w.left ≡ []
          go [] z = z
          go (v ∷ us) z = absurd (omega (arith, left-long, ap length z, h))

      kept-ended : Kept c limit t d.now.records (ended w.set)
      kept-ended = subst (λ (us : List P.Volume). Kept c limit t d.now.records (next_state (is_nil us) w.set)) none_left w.kept

      run-ended : run e (top nothing_yet 0) (lines_over 1 w.all w.lined) ≡ accepted w.set
      run-ended = w.eq ∙ go w.left none_left w.lines
        where
          go : (us : List P.Volume) → us ≡ [] → (h : AllLined us) → run e (next_state (is_nil us) w.set) (lines_over (i + 1) us h) ≡ accepted w.set
          go [] z h = refl
          go (v ∷ us) z h = absurd (omega (arith, ap length z))

      pub accepts : outcome_of e spool ≡ accepted w.set
      accepts = outcome-lined e spool w.all w.are w.lined ∙ run-ended

      pub counts-records : d.now.records ≡ length (records_of c w.set)
      counts-records = sym (taken-counts c c (Some limit) (lines_over 1 w.all w.lined) w.set run-ended ∙ kept-ended.taken)

      -- where there is a table
      pub lays-records : lent / width ≡ limit → t ≡ table_of lent (records_of c w.set)
      unfolding records_of
      lays-records h =
          laid_table t (records_from c w.set w.set.volumes) (width * d.now.records) (kept-ended.laid (ap (λ (n : ℕ). n / width) w.long ∙ h))
          ∙ ap (λ (n : ℕ). table_of n (records_from c w.set w.set.volumes)) w.long

      -- each line takes two records at most
      pub few-records : d.now.records < 4294967296
      few-records =
          let y = volumes-laid spool w.all w.are in
          let a : w.set.taken ≤ 2 * length (lines_over 1 w.all w.lined) = few-taken e (lines_over 1 w.all w.lined) w.set run-ended in
          let b : 0 + 2 * length (lines_over 1 w.all w.lined) ≤ length spool + 2 * length w.all =
          over-few spool 1 0 w.all w.lined y.placed (volumes_grow spool w.all w.are) (omega arith) in
          omega (arith, a, b, y.few, y.spool, kept-ended.taken)
