-- Two classes over all lines: what the higher accepts the lower accepts; what the lower refuses the higher refuses, there or before.
-- One line goes without a limit first, where the count is not looked at. With the limit it goes too, since the lower class shows no more
-- records than the higher, and each has taken what it shows.
use Prim.Native.Nat.{ℕ, zero, suc, ◌≤◌}
use mathlib.Core.Bool.{Bool, true, false, cond, ◌&&◌, ◌||◌}
use mathlib.Core.List.{List, [], ◌∷◌}
use mathlib.Core.Path.{◌≡◌, refl, sym, ◌∙◌, ap, subst}
use native.Mathlib.Omega.{arith}
use lib.Dec.{eqb, leb, ltb}
use borrow.Author.Tests.{le-leb, leb-true, ltb-true, eq-eqb}
use Rattle.rules.specs.declared.Class.{Class}
use Rattle.rules.specs.Base.{is_nil}
use Rattle.rules.specs.RefusalNumbers.{Got, got, bad, map_g, also}
use Rattle.rules.specs.Lines.{Form, ignored, wrong, close, eof, keyed}
use Rattle.rules.specs.RangeClass.{hides, knows_wires, knows_serials}
use Rattle.rules.specs.Sets.{Wire, Figure, Set, nothing_yet, range_of, wires_of}
use Rattle.rules.specs.Machine.{Line, in_last_volume, Env, unlimited, limited_to, State, top, file, drawing, layer_names, defines, symbol, hide, elements, figures, successive, texts, placing, skipping, ended, set_of, at_eof, on_top}
use Rattle.rules.specs.LineByLine.{step_in, Stage, between, within_element, within_other, at_end, stage_of, is_within_element, is_after_element, in_elements, after_elements, is_ignored, is_close, is_eof, completes, begun_anew, next_volume, step, refused, accepted, then_run, finish, run}
use Rattle.rules.specs.Machine.{symbol_block, wire_block, wire_unread}
use Rattle.rules.specs.Wires.{past_elements, on_wire_text, on_wire}
use Rattle.rules.proofs.Runs.{not-accepted, finish-ended}
use Rattle.rules.proofs.Chains.{and_left, and_right, or_true, clash, by_cond, never, map-got, also-got, cond_true, on-got}
use Rattle.promises.specs.DemandThree.{ClassNotAbove}
use Rattle.promises.proofs.Lower.{knows-up, text_least, wire_text_least, lower_read, ranges_of, lower_figures, lower_set, lower_text, read_on, skips_on, lower_placing, lower, Goes, via, count-via}
use Rattle.promises.proofs.LowerSteps.{sim-top, sim-file, sim-drawing, sim-layer_names, sim-defines, sim-symbol, sim-hide, sim-elements, sim-figures, sim-successive, sim-texts, sim-skipping}
use Rattle.promises.proofs.LowerPlaced.{sim-placing}
use Rattle.promises.proofs.LowerWires.{sim_read, sim-text, sim-passed, text-unknown, text-over, sim-over}
use Rattle.promises.proofs.LowerSerials.{sim-eof}
use Rattle.promises.proofs.LowerCount.{fewer}
use Rattle.promises.proofs.LowerKinds.{Rows, Kinds, rows_step}
use Rattle.promises.proofs.CountState.{Inv}
use Rattle.promises.proofs.Count.{inv-start, inv-step}
use Rattle.promises.proofs.OnEof.{on-eof}
use Rattle.promises.proofs.Limits.{alike-step, goes-unlimited, goes-limited}

-- ── one line ──
module _ (low high : Class) (le : ClassNotAbove low high) (reads : knows_serials low.wires ≡ true → knows_wires low ≡ true) where
  abbrev lo : Env
  lo = unlimited low

  abbrev hi : Env
  hi = unlimited high

  up : knows_wires low ≡ true → knows_wires high ≡ true
  up = knows-up low high le.wires

  -- a line of a wire that the higher reads
  sim-wire : (l : Line) (took : ℕ) (s : Set) (k : ℕ) (fs : List Figure) (n : ℕ) (w : Wire) (p : ℕ) (s' : State) → on_wire hi l s k fs n w p l.form ≡ got s'
      → Goes low (step_in lo l (lower took low (placing s k fs n (wire_block w) p))) s'
  sim-wire l took s k fs n w p s' e = go (knows_wires low) refl p e
    where
      below : Set
      below = lower_set took low s

      fs' : List Figure
      fs' = lower_figures low (ranges_of s) fs

      w' : Wire
      w' = lower_read low.wires (wires_of s) w

      in-text : knows_wires low ≡ true → (p : ℕ) → on_wire_text s k fs n w (suc p) l.form ≡ got s' → (t : Bool) → hides low.wires (wires_of s) wire_text_least ≡ t
          → Goes low (step_in lo l (lower_text t below k fs' n w' (suc p))) s'
      in-text b p e true h = (took, sim-passed low high le.wires took l s k fs n w (wire_block (past_elements w')) (text-unknown low high le.wires took l s k fs n w b h) p l.form s' e)
      in-text b p e false h = (took, sim-text low high le.wires took l s k fs n w b h p l.form s' e)

      go : (b : Bool) → knows_wires low ≡ b → (p : ℕ) → on_wire hi l s k fs n w p l.form ≡ got s'
          → Goes low (step_in lo l (cond b (read_on low.wires (wires_of s) below k fs' n w' p) (skips_on below k fs' n p))) s'
      go true b zero e = sim_read low high le.wires took l s k fs n w b l.form s' e
      go true b (suc p) e = in-text b p e (hides low.wires (wires_of s) wire_text_least) refl
      go false b zero e = (took, sim-over low high le.wires took l s k fs n w b l.form s' e)
      go false b (suc p) e = (took, sim-passed low high le.wires took l s k fs n w wire_unread (text-over low high le.wires took l s k fs n w b) p l.form s' e)

  sim_in : (l : Line) (took : ℕ) (s s' : State) → step_in hi l s ≡ got s' → Goes low (step_in lo l (lower took low s)) s'
  sim_in l took (top s k) s' e = sim-top low high up took l s k l.form s' (sim-eof low high le reads took l s k s') e
  sim_in l took (file s n h p) s' e = via low took (sim-file low high up took l s n h p l.form) e
  sim_in l took (drawing s d) s' e = via low took (sim-drawing low high up took s d l.form) e
  sim_in l took (layer_names s d) s' e = count-via low (sim-layer_names low high up took l s d l.form) e
  sim_in l took (defines s b) s' e = count-via low (sim-defines low high up took l s b l.form) e
  sim_in l took (symbol s y) s' e = via low took (sim-symbol low high up took s y l.form) e
  sim_in l took (hide s y ps) s' e = count-via low (sim-hide low high up took l s y ps l.form) e
  sim_in l took (elements s) s' e = via low took (sim-elements low high up took s l.form) e
  sim_in l took (figures s h fs) s' e = count-via low (sim-figures low high up took l s h fs l.form) e
  sim_in l took (successive s h fs n ps) s' e = count-via low (sim-successive low high up took l s h fs n ps l.form) e
  sim_in l took (texts s h fs n o) s' e = via low took (sim-texts low high up took s h fs n o l.form) e
  sim_in l took (placing s k fs n (symbol_block o) p) s' e =
      (took, sim-placing low high le.symbols took s k fs n o p l.form s' e (lower_placing took low s k fs n o p) refl (step_in lo l) (λ o p. refl) (λ o q. refl))
  sim_in l took (placing s k fs n (wire_block w) p) s' e = sim-wire l took s k fs n w p s' e
  sim_in l took (placing s k fs n wire_unread p) s' e = never e
  sim_in l took (skipping s k fs n b d) s' e = (took, sim-skipping low high up took s k fs n b d l.form s' e)
  sim_in l took (ended s) s' e = never e

  -- how far the set is, as far as the end of a volume asks: the same
  abbrev lower_stage : ℕ → Stage → Stage
  lower_stage took (between s k) = between (lower_set took low s) k
  lower_stage took within_element = within_element
  lower_stage took within_other = within_other
  lower_stage took (at_end s) = at_end (lower_set took low s)

  stage-same : (took : ℕ) (s : State) → stage_of (lower took low s) ≡ lower_stage took (stage_of s)
  stage-same took (top s k) = refl
  stage-same took (file s n h p) = refl
  stage-same took (drawing s d) = refl
  stage-same took (layer_names s d) = refl
  stage-same took (defines s b) = refl
  stage-same took (symbol s y) = refl
  stage-same took (hide s y ps) = refl
  stage-same took (elements s) = refl
  stage-same took (figures s h fs) = refl
  stage-same took (successive s h fs n ps) = refl
  stage-same took (texts s h fs n o) = refl
  stage-same took (placing s k fs n (symbol_block o) zero) = refl
  stage-same took (placing s k fs n (symbol_block o) (suc p)) = by_cond (λ st. stage_of st ≡ within_other) (hides low.symbols (range_of s) text_least) (λ _. refl) (λ _. refl)
  stage-same took (placing s k fs n (wire_block w) zero) = by_cond (λ st. stage_of st ≡ within_other) (knows_wires low) (λ _. refl) (λ _. refl)
  stage-same took (placing s k fs n (wire_block w) (suc p)) =
      by_cond (λ st. stage_of st ≡ within_other) (knows_wires low) (λ _. in-text (hides low.wires (wires_of s) wire_text_least)) (λ _. refl)
    where
      in-text : (t : Bool) → stage_of (lower_text t (lower_set took low s) k (lower_figures low (ranges_of s) fs) n (lower_read low.wires (wires_of s) w) (suc p)) ≡ within_other
      in-text true = refl
      in-text false = refl
  stage-same took (placing s k fs n wire_unread p) = refl
  stage-same took (skipping s k fs n b d) = refl
  stage-same took (ended s) = refl

  completes-same : (l : Line) (took : ℕ) (s : State) → completes l (lower took low s) ≡ completes l s
  completes-same l took s = ap completes_at (stage-same took s) ∙ go (stage_of s)
    where
      completes_at : Stage → Bool
      completes_at g = cond (in_last_volume l) (is_after_element g && is_eof l.form) ((is_within_element g && is_close l.form) || (is_after_element g && is_ignored l.form))

      go : (g : Stage) → completes_at (lower_stage took g) ≡ completes_at g
      go (between s k) = refl
      go within_element = refl
      go within_other = refl
      go (at_end s) = refl

  -- the next volume begins anew at both
  next-same : (took : ℕ) (s : State) → next_volume (lower took low s) ≡ lower took low (next_volume s)
  next-same took s = ap (λ g. begun_anew g (lower took low s)) (stage-same took s) ∙ go (stage_of s)
    where
      go : (g : Stage) → begun_anew (lower_stage took g) (lower took low s) ≡ lower took low (begun_anew g s)
      go (between s k) = refl
      go within_element = refl
      go within_other = refl
      go (at_end s) = refl

  pub sim-step : (l : Line) (took : ℕ) (s s' : State) → step hi l s ≡ got s' → Goes low (step lo l (lower took low s)) s'
  sim-step l took s s' e = go l.last e
    where
      here : State
      here = lower took low s

      last : (t : State) → completes l s ≡ true → step_in hi l s ≡ got t → next_volume t ≡ s' → Goes low (map_g next_volume (also (completes l here) 9 (step_in lo l here))) s'
      last t c r q =
          let (n, p) = sim_in l took s t r in
          (n, rw (p, completes-same l took s, c) (ap got (next-same n t ∙ ap (lower n low) q)))

      go : (b : Bool) → cond b (map_g next_volume (also (completes l s) 9 (step_in hi l s))) (step_in hi l s) ≡ got s'
          → Goes low (cond b (map_g next_volume (also (completes l here) 9 (step_in lo l here))) (step_in lo l here)) s'
      go false e = sim_in l took s s' e
      go true e =
          let (t, p, q) = map-got next_volume (also (completes l s) 9 (step_in hi l s)) s' e in
          let (c, r) = also-got (completes l s) 9 (step_in hi l s) t p in
          last t c r q

-- ── the end of the last volume ──
-- a step through the last line of the last volume ends the set
pub last-ends : (e : Env) (l : Line) (s s' : State) → l.last ≡ true → is_nil l.next ≡ true → step e l s ≡ got s' → (t : Set) × (s' ≡ ended t)
last-ends e l s s' p q h =
    let (u, a, b) = map-got next_volume (also (completes l s) 9 (step_in e l s)) s' (cond_true l.last (map_g next_volume (also (completes l s) 9 (step_in e l s))) (step_in e l s) (got s') p h) in
    let (c, d) = also-got (completes l s) 9 (step_in e l s) u a in
    let (t, z) = ends s u (cond_true (is_nil l.next) (after_elements s && is_eof l.form) ((in_elements s && is_close l.form) || (after_elements s && is_ignored l.form)) true q c) d in
    (t, sym b ∙ ap next_volume z)
  where
    Over : State → Type 0
    Over u = (t : Set) × (u ≡ ended t)

    at_top : (s : Set) (k : ℕ) (u : State) (f : Form) → (eqb k 4 && is_eof f) ≡ true → on_top e l s k f ≡ got u → Over u
    at_top s k u ignored c d = clash (and_right (eqb k 4) _ c) refl
    at_top s k u (wrong n) c d = clash (and_right (eqb k 4) _ c) refl
    at_top s k u close c d = clash (and_right (eqb k 4) _ c) refl
    at_top s k u eof c d = on-got Over (at_eof e l s k) u (on-eof Over e l s k λ _. (s, refl)) d
    at_top s k u (keyed y x) c d = clash (and_right (eqb k 4) _ c) refl

    ends : (s u : State) → (after_elements s && is_eof l.form) ≡ true → step_in e l s ≡ got u → Over u
    ends (top s k) u c d = at_top s k u l.form c d
    ends (file s n h p) u c d = clash c refl
    ends (drawing s v) u c d = clash c refl
    ends (layer_names s v) u c d = clash c refl
    ends (defines s b) u c d = clash c refl
    ends (symbol s y) u c d = clash c refl
    ends (hide s y ps) u c d = clash c refl
    ends (elements s) u c d = clash c refl
    ends (figures s h fs) u c d = clash c refl
    ends (successive s h fs n ps) u c d = clash c refl
    ends (texts s h fs n o) u c d = clash c refl
    ends (placing s k fs n o p) u c d = clash c refl
    ends (skipping s k fs n o w) u c d = clash c refl
    ends (ended s) u c d = clash c refl

-- ── places in order ──
abbrev pub not_after : ℕ → ℕ → ℕ → ℕ → Bool
not_after v n v' n' = ltb v v' || (eqb v v' && leb n n')

pub not_after_refl : (v n : ℕ) → not_after v n v n ≡ true
not_after_refl v n = rw (eq-eqb v v refl, le-leb n n (omega arith)) (or_true (ltb v v))

abbrev pub before : ℕ → ℕ → ℕ → ℕ → Bool
before v n v' n' = ltb v v' || (eqb v v' && ltb n n')

-- a place before another is not after it
before-not-after : (v n v' n' : ℕ) → before v n v' n' ≡ true → not_after v n v' n' ≡ true
before-not-after v n v' n' e = go (ltb v v') (eqb v v') e
  where
    go : (b c : Bool) → (b || (c && ltb n n')) ≡ true → (b || (c && leb n n')) ≡ true
    go true c e = refl
    go false c e = let h = ltb-true n n' (and_right c _ e) in rw (and_left c _ e, le-leb n n' (omega (arith, h)))

-- all these lines stand behind a place
abbrev pub From : ℕ → ℕ → List Line → Type 0
From v n [] = Unit {0}
From v n (l ∷ ls) = (before v n l.volume l.line ≡ true) × From v n ls

-- lines in the order of their places
abbrev pub Sorted : List Line → Type 0
Sorted [] = Unit {0}
Sorted (l ∷ ls) = From l.volume l.line ls × Sorted ls

-- the last of them is the last line of the last volume
abbrev pub proper : List Line → Bool
proper [] = false
proper (l ∷ []) = l.last && is_nil l.next
proper (l ∷ m ∷ ls) = proper (m ∷ ls)

-- through its last line no set comes but one that has ended
pub ended-run : {P : Type 0} (e : Env) (l : Line) (s s' : State) → (l.last && is_nil l.next) ≡ true → step e l s ≡ got s' → (k v n : ℕ) → finish s' ≡ refused k v n → P
ended-run e l s s' p h k v n q =
    let (t, z) = last-ends e l s s' (and_left l.last _ p) (and_right l.last _ p) h in
    not-accepted (sym (rw z at q))

-- a refusal is at one of the lines that are read
pub late : (e : Env) (v n : ℕ) (ls : List Line) (s : State) → proper ls ≡ true → From v n ls → (k v' n' : ℕ) → run e s ls ≡ refused k v' n' → before v n v' n' ≡ true
late e v n [] s p f k v' n' h = clash p refl
late e v n (l ∷ []) s p f k v' n' h = go (step e l s) refl h
  where
    go : (g : Got State) → step e l s ≡ g → then_run g l finish ≡ refused k v' n' → before v n v' n' ≡ true
    go (got s') q h = ended-run e l s s' p q k v' n' h
    go (bad j) q h =
        let a : l.volume ≡ v' = cc in
        let b : l.line ≡ n' = cc in
        rw (← a, ← b) f.0
late e v n (l ∷ m ∷ ls) s p f k v' n' h = go (step e l s) (λ s'. late e v n (m ∷ ls) s' p f.1 k v' n') h
  where
    go : (g : Got State) → ((s' : State) → run e s' (m ∷ ls) ≡ refused k v' n' → before v n v' n' ≡ true) → then_run g l (λ s'. run e s' (m ∷ ls)) ≡ refused k v' n' → before v n v' n' ≡ true
    go (got s') ih h = ih s' h
    go (bad j) ih h =
        let a : l.volume ≡ v' = cc in
        let b : l.line ≡ n' = cc in
        rw (← a, ← b) f.0

-- ── all lines, with the limit ──
module _ (low high : Class) (le : ClassNotAbove low high) (reads : knows_serials low.wires ≡ true → knows_wires low ≡ true) (m : ℕ) where
  abbrev lo' : Env
  lo' = limited_to low m

  abbrev hi' : Env
  hi' = limited_to high m

  -- what each of the two classes has taken is what it shows, and the higher's fit; of which rows the higher's figures are
  pub record Beside (took : ℕ) (s : State) : Type 0 where
    pub below : Inv (unlimited low) (lower took low s)
    pub above : Inv hi' s
    pub rows : Kinds s

  pub beside-start : Beside 0 (top nothing_yet 0)
  beside-start = record { below = inv-start (unlimited low); above = inv-start hi'; rows = (refl, refl, refl) }

  abbrev After : Got State → State → Type 0
  After g s' = (took : ℕ) × (g ≡ got (lower took low s')) × Beside took s'

  -- a line that the higher goes through with the limit, the lower goes through with it: without a limit it does, and it shows no more
  sim-limited : (l : Line) (took : ℕ) (s s' : State) → Beside took s → step hi' l s ≡ got s' → After (step lo' l (lower took low s)) s'
  sim-limited l took s s' w e =
      let (n, p) = sim-step low high le reads l took s s' (goes-unlimited (alike-step high m l s) e) in
      let below = on-got (Inv (unlimited low)) (step (unlimited low) l (lower took low s)) (lower n low s') (inv-step (unlimited low) l (lower took low s) w.below) p in
      let above = on-got (Inv hi') (step hi' l s) s' (inv-step hi' l s w.above) e in
      let rows = on-got Kinds (step hi' l s) s' (rows_step hi' l s w.rows) e in
      let fits : (set_of (lower n low s')).taken ≤ m = omega (arith, below.counts, fewer n low s', above.counts, leb-true (set_of s').taken m above.room) in
      (n, goes-limited (alike-step low m l (lower took low s)) p fits, record { below = below; above = above; rows = rows })

  abbrev AcceptedToo : List Line → ℕ → State → Set → Type 0
  AcceptedToo ls took s t = (n : ℕ) × (run lo' (lower took low s) ls ≡ accepted (lower_set n low t)) × Rows t

  pub sim-run : (ls : List Line) (took : ℕ) (s : State) (t : Set) → Beside took s → run hi' s ls ≡ accepted t → AcceptedToo ls took s t
  sim-run [] took s t w e = let q = finish-ended s t e in (took, ap (λ st. finish (lower took low st)) q, subst Kinds q w.rows)
  sim-run (l ∷ ls) took s t w e = go (step hi' l s) refl (λ n s'. sim-run ls n s' t) e
    where
      go : (g : Got State) → step hi' l s ≡ g → ((n : ℕ) (s' : State) → Beside n s' → run hi' s' ls ≡ accepted t → AcceptedToo ls n s' t)
          → then_run g l (λ s'. run hi' s' ls) ≡ accepted t → AcceptedToo (l ∷ ls) took s t
      go (got s') q ih e =
          let (n, p, w') = sim-limited l took s s' w q in
          let (k, r, rows) = ih n s' w' e in
          (k, rw p r, rows)
      go (bad k) q ih e = not-accepted e

  abbrev RefusedToo : List Line → State → ℕ → ℕ → Type 0
  RefusedToo ls s v n = (k' : ℕ) × (v' : ℕ) × (n' : ℕ) × (run hi' s ls ≡ refused k' v' n') × (not_after v' n' v n ≡ true)

  pub refused_too : (ls : List Line) (took : ℕ) (s : State) → Beside took s → proper ls ≡ true → Sorted ls → (k v n : ℕ) → run lo' (lower took low s) ls ≡ refused k v n → RefusedToo ls s v n
  refused_too [] took s w p o k v n e = clash p refl
  refused_too (l ∷ []) took s w p o k v n e = go (step hi' l s) refl
    where
      at : (g : Got State) → step lo' l (lower took low s) ≡ g → then_run g l finish ≡ refused k v n → not_after l.volume l.line v n ≡ true
      at (got s') q h = ended-run lo' l (lower took low s) s' p q k v n h
      at (bad j) q h =
          let a : l.volume ≡ v = cc in
          let b : l.line ≡ n = cc in
          rw (← a, ← b) (not_after_refl l.volume l.line)

      go : (g : Got State) → step hi' l s ≡ g → RefusedToo (l ∷ []) s v n
      go (got s') q = let (i, r, w') = sim-limited l took s s' w q in ended-run lo' l (lower took low s) (lower i low s') p r k v n (rw r at e)
      go (bad j) q = (j, l.volume, l.line, rw q, at (step lo' l (lower took low s)) refl e)
  refused_too (l ∷ x ∷ ls) took s w p o k v n e = go (step hi' l s) refl (λ i s' w'. refused_too (x ∷ ls) i s' w' p o.1 k v n)
    where
      at : (g : Got State) → then_run g l (λ s'. run lo' s' (x ∷ ls)) ≡ refused k v n → not_after l.volume l.line v n ≡ true
      at (got s') h = before-not-after l.volume l.line v n (late lo' l.volume l.line (x ∷ ls) s' p o.0 k v n h)
      at (bad j) h =
          let a : l.volume ≡ v = cc in
          let b : l.line ≡ n = cc in
          rw (← a, ← b) (not_after_refl l.volume l.line)

      go : (g : Got State) → step hi' l s ≡ g → ((i : ℕ) (s' : State) → Beside i s' → run lo' (lower i low s') (x ∷ ls) ≡ refused k v n → RefusedToo (x ∷ ls) s' v n)
          → RefusedToo (l ∷ x ∷ ls) s v n
      go (got s') q ih =
          let (i, r, w') = sim-limited l took s s' w q in
          let (k', v', n', u, z) = ih i s' w' (rw r at e) in
          (k', v', n', rw q u, z)
      go (bad j) q ih = (j, l.volume, l.line, rw q, at (step lo' l (lower took low s)) e)
