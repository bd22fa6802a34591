-- The reading of an accepted set, volume by volume: where each volume ends, and what the volumes behind it leave as it was.
use Rattle.std.specs.Prelude.{Option, Some, None}
use Prim.Native.Nat.{ℕ, suc, ◌+◌}
use mathlib.Core.Bool.{Bool, true, false, cond, ◌&&◌, ◌||◌, not}
use mathlib.Core.List.{List, [], ◌∷◌, ◌++◌, append_assoc}
use mathlib.Core.Path.{◌≡◌, refl, sym, ◌∙◌, ap, subst}
use native.Mathlib.Omega.{arith}
use borrow.Author.Tests.{eqb-true}
use lib.Dec.{eqb}
use lib.ListN.{length}
use Rattle.rules.specs.Base.{is_nil}
use Rattle.rules.specs.Spool.{Volume, lines_of}
use Rattle.rules.specs.RefusalNumbers.{Got, got, bad, map_g, and_then, also}
use Rattle.rules.specs.Lines.{Form, ignored, wrong, close, eof, keyed, form_of}
use Rattle.rules.specs.Blocks.{element_table}
use Rattle.rules.specs.Values.{Known}
use Rattle.rules.specs.Sets.{Contents, Set, is_first}
use Rattle.rules.specs.VolumesAndTotals.{counted_here, counted_all, layers_used, partners_exist}
use Rattle.rules.specs.Machine.{Line, Env, State, top, file, drawing, layer_names, defines, symbol, hide, elements, figures, successive, texts, placing, skipping, ended, tests_partners, on_top, on_elements}
use Rattle.rules.specs.LineByLine.{step_in, is_ignored, is_close, is_eof, completes, next_volume, step, Outcome, accepted, then_run, run}
use Rattle.rules.specs.Answers.{numbered, lines_of_volume, next_name, Listed, listed, no_lines, list_volume, list_volumes}
use Rattle.rules.proofs.Chains.{On, on-unless, on-got, cond_same, clash, never, map-got, also-got, or_left, nil-snoc}
use Rattle.rules.proofs.Runs.{not-accepted, finish-ended}
use Rattle.volumes.specs.Volumes.{through}
use Rattle.volumes.proofs.VolumeSound.{Sound, Same, Closed}
use Rattle.volumes.proofs.VolumeSteps.{through-goes}

-- ── outcomes ──
then-run : (g : Got State) (l : Line) (f : State → Outcome) (set : Set) → then_run g l f ≡ accepted set → (st : State) × (g ≡ got st) × (f st ≡ accepted set)
then-run (got st) l f set e = (st, refl, e)
then-run (bad n) l f set e = not-accepted e

-- ── where a volume ends ──
-- ELEMENT is closed, or the set has ended
abbrev pub Ends : State → Type 0
Ends (top s k) = k ≡ 4
Ends (file s n h p) = ⊥
Ends (drawing s d) = ⊥
Ends (layer_names s d) = ⊥
Ends (defines s b) = ⊥
Ends (symbol s y) = ⊥
Ends (hide s y ps) = ⊥
Ends (elements s) = ⊥
Ends (figures s h fs) = ⊥
Ends (successive s h fs n ps) = ⊥
Ends (texts s h fs n o) = ⊥
Ends (placing s k fs n o p) = ⊥
Ends (skipping s k fs n o d) = ⊥
Ends (ended s) = Unit {0}

ends-elements : (s : Set) (f : Form) → is_close f ≡ true → On Ends (on_elements s f)
unfolding element_table
ends-elements s ignored e = clash e refl
ends-elements s (wrong n) e = clash e refl
ends-elements s close e = on-unless Ends (counted_here s) 17 _ λ _. refl
ends-elements s eof e = clash e refl
ends-elements s (keyed k c) e = clash e refl

module _ (e : Env) (l : Line) where
  ends-top : (s : Set) (k : ℕ) (f : Form) → eqb k 4 ≡ true → (is_eof f || is_ignored f) ≡ true → On Ends (on_top e l s k f)
  ends-top s k ignored q h = eqb-true k 4 q
  ends-top s k (wrong n) q h = clash h refl
  ends-top s k close q h = clash h refl
  ends-top s k eof q h =
      on-unless Ends (eqb k 4 && (is_nil l.next && l.last)) 9 _ λ _.
      on-unless Ends (layers_used s) 14 _ λ _.
      on-unless Ends (counted_all s) 17 _ λ _.
      on-unless Ends (not (tests_partners e.class s) || partners_exist s) 21 _ λ _. tt
  ends-top s k (keyed key c) q h = clash h refl

  -- at the top level: EOF, or a line that is ignored
  top-complete : (t k a b : Bool) → cond t (k && a) (false || (k && b)) ≡ true → (k ≡ true) × ((a || b) ≡ true)
  top-complete true true a b h = (refl, ap (λ (x : Bool). x || b) h)
  top-complete true false a b h = clash h refl
  top-complete false true true b h = (refl, refl)
  top-complete false true false b h = (refl, h)
  top-complete false false a b h = clash h refl

  element-complete : (t a : Bool) → cond t false (a || false) ≡ true → a ≡ true
  element-complete true a h = clash h refl
  element-complete false a h = or_left a false refl h

  not-complete : {P : Type 0} (t : Bool) → cond t false false ≡ true → P
  not-complete t h = clash h (cond_same t false)

  volume-ends : (st : State) → completes l st ≡ true → On Ends (step_in e l st)
  volume-ends (top s k) h = let (q, f) = top-complete (is_nil l.next) (eqb k 4) (is_eof l.form) (is_ignored l.form) h in ends-top s k l.form q f
  volume-ends (file s n h p) c = not-complete (is_nil l.next) c
  volume-ends (drawing s d) c = not-complete (is_nil l.next) c
  volume-ends (layer_names s d) c = not-complete (is_nil l.next) c
  volume-ends (defines s b) c = not-complete (is_nil l.next) c
  volume-ends (symbol s y) c = not-complete (is_nil l.next) c
  volume-ends (hide s y ps) c = not-complete (is_nil l.next) c
  volume-ends (elements s) c = ends-elements s l.form (element-complete (is_nil l.next) (is_close l.form) c)
  volume-ends (figures s h fs) c = not-complete (is_nil l.next) c
  volume-ends (successive s h fs n ps) c = not-complete (is_nil l.next) c
  volume-ends (texts s h fs n o) c = not-complete (is_nil l.next) c
  volume-ends (placing s k fs n o p) c = not-complete (is_nil l.next) c
  volume-ends (skipping s k fs n o d) c = not-complete (is_nil l.next) c
  volume-ends (ended s) c = not-complete (is_nil l.next) c

-- ── a volume's lines ──
-- through them, and on with the lines behind them
pub record Ran (e : Env) (st : State) (ls more : List Line) (set : Set) : Type 0 where
  pub state : State
  pub goes : through e st ls ≡ got state
  pub ends : Ends state
  pub on : run e (next_volume state) more ≡ accepted set

ran-numbered : (e : Env) (v : ℕ) (next : List ℕ) (set : Set) (more : List Line) (ls : List (List ℕ)) (l : List ℕ) (n at : ℕ) (st : State)
    → run e st (numbered v next n at (l ∷ ls) ++ more) ≡ accepted set → Ran e st (numbered v next n at (l ∷ ls)) more set
ran-numbered e v next set more [] l n at st q =
    let x : Line = record { volume = v; line = n; last = true; next = next; form = form_of at l } in
    let (st₁, a, b) = then-run (step e x st) x (λ s. run e s more) set q in
    let (st₂, c, d) = map-got next_volume (also (completes x st) 9 (step_in e x st)) st₁ a in
    let (f, g) = also-got (completes x st) 9 (step_in e x st) st₂ c in
    record {
      state = st₂;
      goes = ap (λ (y : Got State). and_then y (λ s. got s)) g;
      ends = on-got Ends (step_in e x st) st₂ (volume-ends e x st f) g;
      on = ap (λ (s : State). run e s more) d ∙ b;
    }
ran-numbered e v next set more (m ∷ ls) l n at st q =
    let x : Line = record { volume = v; line = n; last = false; next = next; form = form_of at l } in
    let rest : List Line = numbered v next (suc n) (at + length l + 2) (m ∷ ls) in
    let (st₁, a, b) = then-run (step e x st) x (λ s. run e s (rest ++ more)) set q in
    let r = ran-numbered e v next set more ls m (suc n) (at + length l + 2) st₁ b in
    record {
      state = r.state;
      goes = ap (λ (y : Got State). and_then y (λ s. through e s rest)) a ∙ r.goes;
      ends = r.ends;
      on = r.on;
    }

-- a volume with no line is refused
no_lines_lem : {P : Type 0} (e : Env) (v : ℕ) (next : List ℕ) (set : Set) (more : List Line) (s : Set)
    → run e (top s 0) (record { volume = v; line = 0; last = true; next = next; form = ignored } ∷ more) ≡ accepted set → P
no_lines_lem e v next set more s q =
    let x : Line = record { volume = v; line = 0; last = true; next = next; form = ignored } in
    let (st₁, a, b) = then-run (step e x (top s 0)) x (λ s. run e s more) set q in
    let (st₂, c, d) = map-got next_volume (also (completes x (top s 0)) 9 (step_in e x (top s 0))) st₁ a in
    let (f, g) = also-got (completes x (top s 0)) 9 (step_in e x (top s 0)) st₂ c in
    clash f (cond_same (is_nil next) false)

pub ran-volume : (e : Env) (v : ℕ) (next : List ℕ) (at : ℕ) (ls : List (List ℕ)) (set : Set) (more : List Line) (s : Set)
    → run e (top s 0) (lines_of_volume v next at ls ++ more) ≡ accepted set → Ran e (top s 0) (numbered v next 1 at ls) more set
ran-volume e v next at [] set more s q = no_lines_lem e v next set more s q
ran-volume e v next at (l ∷ ls) set more s q = ran-numbered e v next set more ls l 1 at (top s 0) q

-- ── the lines of volumes ──
abbrev pub Lists : ℕ → List Volume → List Line → Type 0
Lists k [] ls = ls ≡ []
Lists k (v ∷ vs) ls =
    (us : List (List ℕ)) × (more : List Line) × (lines_of v.body ≡ Some us) × (ls ≡ lines_of_volume k (next_name vs) v.place us ++ more) × Lists (suc k) vs more

not_listed : {P : Type 0} {n : ℕ} {ls : List Line} → no_lines n ≡ listed ls → P
not_listed e = absurd (let z : ◌≡◌ {A = ℕ} 0 1 = cc in omega arith)

pub lists_of : (k : ℕ) (vs : List Volume) (ls : List Line) → list_volumes k vs ≡ listed ls → Lists k vs ls
lists_of k [] ls e = let same : [] ≡ ls = cc in sym same
lists_of k (v ∷ vs) ls e = go (lines_of v.body) refl (list_volumes (suc k) vs) (λ more q. lists_of (suc k) vs more q) e
  where
    go : (o : Option (List (List ℕ))) → lines_of v.body ≡ o → (r : Listed) → ((more : List Line) → r ≡ listed more → Lists (suc k) vs more) → list_volume k v vs o r ≡ listed ls → Lists k (v ∷ vs) ls
    go None p r ih h = not_listed h
    go (Some us) p (no_lines n) ih h = not_listed h
    go (Some us) p (listed more) ih h = let same : lines_of_volume k (next_name vs) v.place us ++ more ≡ ls = cc in (us, more, p, sym same, ih more refl)

-- a volume has a line at least
lists-some : (k : ℕ) (v : Volume) (vs : List Volume) (ls : List Line) → Lists k (v ∷ vs) ls → (l : Line) × (rest : List Line) × (ls ≡ l ∷ rest)
lists-some k v vs ls (us, more, p, e, r) = go us e
  where
    go : (us : List (List ℕ)) → ls ≡ lines_of_volume k (next_name vs) v.place us ++ more → (l : Line) × (rest : List Line) × (ls ≡ l ∷ rest)
    go [] e = (_, more, e)
    go (u ∷ us) e = (_, _, e)

-- ── behind a volume ──
module _ (e : Env) (set : Set) where
  -- the last: the set has ended
  ran-last : (st : State) → Ends st → run e (next_volume st) [] ≡ accepted set → st ≡ ended set
  ran-last (top s k) h q = not-accepted q
  ran-last (file s n x p) h q = absurd h
  ran-last (drawing s d) h q = absurd h
  ran-last (layer_names s d) h q = absurd h
  ran-last (defines s b) h q = absurd h
  ran-last (symbol s y) h q = absurd h
  ran-last (hide s y ps) h q = absurd h
  ran-last (elements s) h q = absurd h
  ran-last (figures s x fs) h q = absurd h
  ran-last (successive s x fs n ps) h q = absurd h
  ran-last (texts s x fs n o) h q = absurd h
  ran-last (placing s k fs n o p) h q = absurd h
  ran-last (skipping s k fs n o d) h q = absurd h
  ran-last (ended s) h q = finish-ended (ended s) set q

  -- another: it begins anew
  ran-more : (st : State) (l : Line) (ls : List Line) → Ends st → run e (next_volume st) (l ∷ ls) ≡ accepted set → (s : Set) × (st ≡ top s 4) × (run e (top s 0) (l ∷ ls) ≡ accepted set)
  ran-more (top s k) l ls h q = (s, ap (top s) h, q)
  ran-more (file s n x p) l ls h q = absurd h
  ran-more (drawing s d) l ls h q = absurd h
  ran-more (layer_names s d) l ls h q = absurd h
  ran-more (defines s b) l ls h q = absurd h
  ran-more (symbol s y) l ls h q = absurd h
  ran-more (hide s y ps) l ls h q = absurd h
  ran-more (elements s) l ls h q = absurd h
  ran-more (figures s x fs) l ls h q = absurd h
  ran-more (successive s x fs n ps) l ls h q = absurd h
  ran-more (texts s x fs n o) l ls h q = absurd h
  ran-more (placing s k fs n o p) l ls h q = absurd h
  ran-more (skipping s k fs n o d) l ls h q = absurd h
  ran-more (ended s) l ls h q =
      let (st, a, b) = then-run (step e l (ended s)) l (λ s. run e s ls) set q in over l.last (completes l (ended s)) st a
    where
      over : {P : Type 0} (b c : Bool) (st : State) → cond b (map_g next_volume (also c 9 (bad 9))) (bad 9) ≡ got st → P
      over true true st a = never a
      over true false st a = never a
      over false c st a = never a

  -- ── one volume of an accepted set ──
  module _ (first : Bool) (s : Set) (k : ℕ) where
    abbrev pub After : List Volume → State → Type 0
    After [] st = (st ≡ ended set) × Closed first s set
    After (u ∷ us) st = (s₁ : Set) × (more : List Line) × (st ≡ top s₁ 4) × Closed first s s₁ × Lists (suc k) (u ∷ us) more × (run e (top s₁ 0) more ≡ accepted set)

    pub record Stepped (v : Volume) (us : List Volume) : Type 0 where
      pub lines : List (List ℕ)
      pub are : lines_of v.body ≡ Some lines
      pub state : State
      pub goes : through e (top s 0) (numbered k (next_name us) 1 v.place lines) ≡ got state
      pub after : After us state

    pub volume-step : (K : Known) (v : Volume) (us : List Volume) (ls : List Line) → is_first s ≡ first → Lists k (v ∷ us) ls → run e (top s 0) ls ≡ accepted set → Stepped v us
    volume-step K v us ls start (lines, more, are, is, rest) q =
        let r = ran-volume e k (next_name us) v.place lines set more s (ap (run e (top s 0)) (sym is) ∙ q) in
        let same : Same first s s = record { volumes = refl; drawing = λ _. refl; symbols = λ _. refl } in
        let sound = (through-goes K first s start e (numbered k (next_name us) 1 v.place lines) (top s 0) r.state same r.goes).0 in
        record { lines = lines; are = are; state = r.state; goes = r.goes; after = go us rest r.state r.ends sound r.on }
      where
        go : (us : List Volume) → Lists (suc k) us more → (st : State) → Ends st → Sound first s st → run e (next_volume st) more ≡ accepted set → After us st
        go [] rest st h z q =
            let is = ran-last st h (ap (run e (next_volume st)) (sym rest) ∙ q) in
            (is, subst (Sound first s) is z)
        go (u ∷ us) rest st h z q =
            let (l, ls', some-line) = lists-some (suc k) u us more rest in
            let (s₁, is, on) = ran-more st l ls' h (ap (run e (next_volume st)) (sym some-line) ∙ q) in
            (s₁, more, is, subst (Sound first s) is z, rest, ap (run e (top s₁ 0)) some-line ∙ on)

  -- ── what the later volumes leave as it was ──
  pub record Final (s : Set) (cs : List Contents) : Type 0 where
    pub drawing : set.drawing ≡ s.drawing
    pub symbols : set.symbols ≡ s.symbols
    pub volumes : set.volumes ≡ s.volumes ++ cs

  pub closed-later : (first : Bool) (s s₁ : Set) → Closed first s s₁ → is_first s₁ ≡ false
  closed-later first s s₁ c = ap is_nil c.volumes ∙ nil-snoc s.volumes s₁.now

  -- the volumes behind one that is closed
  pub more-volumes : (first : Bool) (s s₁ : Set) (cs : List Contents) → Closed first s s₁ → Final s₁ cs → set.volumes ≡ s.volumes ++ s₁.now ∷ cs
  more-volumes first s s₁ cs c f = f.volumes ∙ ap (λ (vs : List Contents). vs ++ cs) c.volumes ∙ append_assoc s.volumes (s₁.now ∷ []) cs

  pub rest_final : (K : Known) (us : List Volume) (v : Volume) (k : ℕ) (s : Set) (ls : List Line) → is_first s ≡ false → Lists k (v ∷ us) ls → run e (top s 0) ls ≡ accepted set
      → (cs : List Contents) × Final s cs × (length cs ≡ suc (length us))
  rest_final K [] v k s ls start x q =
      let r = volume-step false s k K v [] ls start x q in
      let c = r.after.1 in
      (set.now ∷ [], record { drawing = c.drawing refl; symbols = c.symbols refl; volumes = c.volumes }, refl)
  rest_final K (u ∷ us) v k s ls start x q =
      let r = volume-step false s k K v (u ∷ us) ls start x q in
      let (s₁, more, is, c, y, on) = r.after in
      let (cs, f, n) = rest_final K us u (suc k) s₁ more (closed-later false s s₁ c) y on in
      (s₁.now ∷ cs, record { drawing = f.drawing ∙ c.drawing refl; symbols = f.symbols ∙ c.symbols refl; volumes = more-volumes false s s₁ cs c f }, ap suc n)
