-- A line in a placed symbol at two classes: what the lower one doesn't know it skips.
use Rattle.std.specs.Prelude.{Option, None}
use Prim.Native.Nat.{ℕ, zero, suc, min}
use mathlib.Core.Bool.{Bool, true, false, cond, ◌||◌, not}
use mathlib.Core.List.{List, [], ◌∷◌}
use mathlib.Core.Path.{◌≡◌, refl, sym, ◌∙◌, ap}
use native.Mathlib.Omega.{arith}
use lib.Dec.{leb}
use lib.ListN.{get_or, get_or-map}
use borrow.Author.Tests.{le-leb, leb-true}
use Rattle.rules.specs.declared.Digits.{Digits}
use Rattle.rules.specs.declared.Class.{Class}
use Rattle.rules.specs.Base.{same, is_some}
use Rattle.rules.specs.RefusalNumbers.{Got, got, bad, unless, map_g}
use Rattle.rules.specs.Lines.{Rest, Form, ignored, wrong, close, eof, keyed, shape_of, has_form}
use Rattle.rules.specs.RangeClass.{digits, reaches, exceeds, both, hides, Skip, passes, deeper, no_form, skip_of}
use Rattle.rules.specs.Values.{Value}
use Rattle.rules.specs.Rows.{Rule, Found, absent, found, find, Slots, Held, part_of, enter, rows_there, shape_for, Act, stay, entry, begin, shut, refuse, or_refuse, act_row, act_unknown, act_found, present, complete, act}
use Rattle.rules.specs.Figures.{placed_table, placed_tables, text_table}
use Rattle.rules.specs.Sets.{Figure, placed, Set, first_contents, range_of, known_of}
use Rattle.rules.specs.Machine.{unlimited, Env, in_layer, State, figures, placing, skipping, by_act, symbol_block, Owned}
use Rattle.rules.specs.PlacedSymbol.{by_skip, skip_deeper, on_unknown, new_serial, on_placed, on_placed_key, on_placed_own, on_placing, skip_shut, on_skipping}
use Rattle.rules.proofs.Chains.{and_left, and_right, and_true, clash, never, unless-got, map-append}
use Rattle.rules.proofs.Rows.{Row, found-row, row-all}
use Rattle.promises.specs.DemandThree.{NotAbove}
use Rattle.promises.proofs.Lower.{reaches-up, exceeds-down, known-shows, unknown-hides, unknown-exceeds, mask_slots, text_least, inner_part, lower_held, ranges_of, lower_figure, lower_figures, lower_set, depth_in, lower_placing, lower, mask-slot, part-own, part-inner, enter-own, enter-hidden, enter-inner, enter-wiped, file-same}
use Rattle.promises.proofs.LowerSerials.{serial-new}
use Rattle.promises.proofs.LowerRows.{RowAct, row-act, quiet, opens_text, flat_kind, quiet-passes, opens-text, flat-opens, quiet-rows, text-rows, quiet-texts, flat-texts, entered, opened, refused}

-- ── what the lower class demands at the closing line the higher has demanded ──
reaches-both : (c d l : Digits) → reaches (both c d) l ≡ true → (reaches c l ≡ true) × (reaches d l ≡ true)
reaches-both c d l e =
    let a = leb-true l.middle (min c.middle d.middle) (and_left (leb l.middle (min c.middle d.middle)) _ e) in
    let b = leb-true l.last (min c.last d.last) (and_right (leb l.middle (min c.middle d.middle)) _ e) in (
      and_true _ _ (le-leb l.middle c.middle (omega arith)) (le-leb l.last c.last (omega arith)),
      and_true _ _ (le-leb l.middle d.middle (omega arith)) (le-leb l.last d.last (omega arith)),
    )

both-reaches : (c d l : Digits) → reaches c l ≡ true → reaches d l ≡ true → reaches (both c d) l ≡ true
both-reaches c d l p q =
    let cm = leb-true l.middle c.middle (and_left (leb l.middle c.middle) _ p) in
    let cl = leb-true l.last c.last (and_right (leb l.middle c.middle) _ p) in
    let dm = leb-true l.middle d.middle (and_left (leb l.middle d.middle) _ q) in
    let dl = leb-true l.last d.last (and_right (leb l.middle d.middle) _ q) in
    and_true _ _ (le-leb l.middle (min c.middle d.middle) (omega arith)) (le-leb l.last (min c.last d.last) (omega arith))

row-present : (must a b hidden : Bool) (o : Option Value) → (a ≡ true → b ≡ true) → (a ≡ true → hidden ≡ false)
    → (not must || (not b || is_some o)) ≡ true → (not must || (not a || is_some (cond hidden None o))) ≡ true
row-present false a b h o f g e = refl
row-present true false b h o f g e = refl
row-present true true b h o f g e = rw (g refl) (rw (f refl) at e)

pub complete_mask : (low high d : Digits) → NotAbove low high → (t : List Rule) (s : Slots) → complete (both high d) t (rows_there s) ≡ true
    → complete (both low d) t (rows_there (mask_slots low d t s)) ≡ true
complete_mask low high d le [] [] e = refl
complete_mask low high d le [] (o ∷ s) e = refl
complete_mask low high d le (r ∷ t) [] e = refl
complete_mask low high d le (r ∷ t) (o ∷ s) e =
    and_true _ _
    (row-present r.must (reaches (both low d) r.least) (reaches (both high d) r.least) (hides low d r.least) o
    (λ z. let w = reaches-both low d r.least z in both-reaches high d r.least (reaches-up low high le r.least w.0) w.1)
    (λ z. known-shows low d r.least (reaches-both low d r.least z).0)
    (and_left (present (both high d) r (is_some o)) _ e))
    (complete_mask low high d le t s (and_right (present (both high d) r (is_some o)) _ e))

-- ── a line in a placed symbol ──
-- a key that is not known here is refused
unknown-never : {P : Type 0} (st : State) (x : Rest) (s' : State) → by_act st (λ j v. bad 6) (λ i j v. bad 6) (λ _. bad 6) (act_unknown x) ≡ got s' → P
unknown-never st x s' e = go (has_form (shape_of x)) e
  where
    go : {P : Type 0} (b : Bool) → by_act st (λ j v. bad 6) (λ i j v. bad 6) (λ _. bad 6) (or_refuse (unless b 5 (bad 6))) ≡ got s' → P
    go true e = never e
    go false e = never e

module _ (low high : Class) (le : NotAbove low.symbols high.symbols) (took : ℕ) (s : Set) (k : ℕ) (fs : List Figure) (n : ℕ) (o : Held) where
  abbrev d : Digits
  d = range_of s

  abbrev hi : Env
  hi = unlimited high

  abbrev lo : Env
  lo = unlimited low

  abbrev fs' : List Figure
  fs' = lower_figures low (ranges_of s) fs

  abbrev o' : Held
  o' = lower_held low.symbols d o

  same-file : (first_contents (lower_set took low s)).file ≡ (first_contents s).file
  same-file = file-same low (ranges_of s) s.now s.volumes

  -- where the two answers are the same but for what is left out
  via : {st st' : State} → got st ≡ got st' → got (lower took low st) ≡ got (lower took low st')
  via e = ap (map_g (lower took low)) e

  sim-unknown : (key : List ℕ) (x : Rest) (s' : State) → on_unknown hi s k fs n o key x ≡ got s' → on_unknown lo (lower_set took low s) k fs' n o' key x ≡ got (lower took low s')
  sim-unknown key x s' e = go (exceeds d high.symbols) refl e
    where
      by : (z : Skip) → by_skip z (got (placing s k fs n (symbol_block o) 0)) (skip_deeper 0 (skipping s k fs n (symbol_block o) 1)) ≡ got s'
          → by_skip z (got (placing (lower_set took low s) k fs' n (symbol_block o') 0)) (skip_deeper 0 (skipping (lower_set took low s) k fs' n (symbol_block o') 1)) ≡ got (lower took low s')
      by passes e = via e
      by deeper e = via e
      by no_form e = never e

      go : (b : Bool) → exceeds d high.symbols ≡ b → cond b (by_skip (skip_of key x) (got (placing s k fs n (symbol_block o) 0)) (skip_deeper 0 (skipping s k fs n (symbol_block o) 1)))
          (by_act (placing s k fs n (symbol_block o) 0) (λ j v. bad 6) (λ i j v. bad 6) (λ _. bad 6) (act_unknown x)) ≡ got s'
          → on_unknown lo (lower_set took low s) k fs' n o' key x ≡ got (lower took low s')
      go true b e = rw (same-file, exceeds-down low.symbols high.symbols le d b) (by (skip_of key x) e)
      go false b e = unknown-never (placing s k fs n (symbol_block o) 0) x s' e

  -- a row that both know
  sim-known : (key : List ℕ) (j : ℕ) (r : Rule) (x : Rest) → Row placed_table j r → hides low.symbols d r.least ≡ false → opens_text text_least r.holds r.least ≡ true
      → (a : Act) → RowAct d j r x a → (s' : State) → on_placed s k fs n o 0 a ≡ got s' → on_placed (lower_set took low s) k fs' n o' 0 a ≡ got (lower took low s')
  sim-known key j r x w h t _ (entered v l q) s' e =
      let u = unless-got (new_serial s fs v) 15 _ s' e in
      rw (serial-new low (ranges_of s) took s fs v u.0, enter-own low.symbols d w h o v) (via u.1)
  sim-known key j r x w h t _ (opened v l q f) s' e =
      let z = opens-text text_least key r x t q f in
      rw (enter-own low.symbols d w h o v, z.inner) (shown (rw z.least at h) (via (rw z.inner at e)))
    where
      shown : hides low.symbols d text_least ≡ false → got (lower_placing took low s k fs n (enter o 0 j v) 1) ≡ got (lower took low s')
          → got (placing (lower_set took low s) k fs' n (symbol_block (lower_held low.symbols d (enter o 0 j v))) 1) ≡ got (lower took low s')
      shown g p = rw g at p
  sim-known key j r x w h t _ (refused i) s' e = never e

  -- a row that the lower doesn't know, and the file has
  sim-hidden : (key : List ℕ) (j : ℕ) (r : Rule) (x : Rest) → Row placed_table j r → same key r.key ≡ true → quiet r ≡ true → opens_text text_least r.holds r.least ≡ true → reaches low.symbols r.least ≡ false
      → (a : Act) → RowAct d j r x a → (s' : State) → on_placed s k fs n o 0 a ≡ got s' → on_unknown lo (lower_set took low s) k fs' n o' key x ≡ got (lower took low s')
  sim-hidden key j r x w sk c t u _ (entered v l q) s' e =
      let p = unless-got (new_serial s fs v) 15 _ s' e in
      rw (same-file, unknown-exceeds low.symbols d r.least l u, quiet-passes key r x sk c q)
      (ap (λ h. got (placing (lower_set took low s) k fs' n (symbol_block h) 0)) (sym (enter-hidden low.symbols d w (unknown-hides low.symbols d r.least l u) o v)) ∙ via p.1)
  sim-hidden key j r x w sk c t u _ (opened v l q f) s' e =
      let z = opens-text text_least key r x t q f in
      rw (same-file, unknown-exceeds low.symbols d r.least l u, z.skips)
      (ap (λ h. got (skipping (lower_set took low s) k fs' n (symbol_block h) 1)) (sym (enter-hidden low.symbols d w (unknown-hides low.symbols d r.least l u) o v))
      ∙ left_out (rw z.least at (unknown-hides low.symbols d r.least l u)) (via (rw z.inner at e)))
    where
      left_out : hides low.symbols d text_least ≡ true → got (lower_placing took low s k fs n (enter o 0 j v) 1) ≡ got (lower took low s')
          → got (skipping (lower_set took low s) k fs' n (symbol_block (lower_held low.symbols d (enter o 0 j v))) 1) ≡ got (lower took low s')
      left_out g p = rw g at p
  sim-hidden key j r x w sk c t u _ (refused i) s' e = never e

  -- a key of the placed symbol
  sim-key : (key : List ℕ) (x : Rest) (f : Found) → find key placed_table ≡ f → (s' : State)
      → on_placed_key hi s k fs n o key x f ≡ got s' → on_placed_key lo (lower_set took low s) k fs' n o' key x f ≡ got (lower took low s')
  sim-key key x absent q s' e = sim-unknown key x s' e
  sim-key key x (found j r) q s' e = go (reaches high.symbols r.least) refl (reaches low.symbols r.least) refl e
    where
      w : Row placed_table j r × (same key r.key ≡ true)
      w = found-row key placed_table j r q

      calm : quiet r ≡ true
      calm = row-all quiet w.0 quiet-rows

      text : opens_text text_least r.holds r.least ≡ true
      text = row-all (λ r. opens_text text_least r.holds r.least) w.0 text-rows

      full : Slots → Bool
      full t = get_or (rows_there t) j false

      same-marks : hides low.symbols d r.least ≡ false → full (part_of o' 0) ≡ full (part_of o 0)
      same-marks h =
          get_or-map is_some (part_of o' 0) j None ∙ ap is_some (ap (λ t. get_or t j None) (part-own low.symbols d o) ∙ mask-slot None low.symbols d w.0 h (part_of o 0)) ∙ sym (get_or-map is_some (part_of o 0) j None)

      go : (b : Bool) → reaches high.symbols r.least ≡ b → (a : Bool) → reaches low.symbols r.least ≡ a
          → cond b (on_placed s k fs n o 0 (act_row (known_of s) d (full (part_of o 0)) j r x)) (on_unknown hi s k fs n o key x) ≡ got s'
          → cond a (on_placed (lower_set took low s) k fs' n o' 0 (act_row (known_of s) (range_of (lower_set took low s)) (full (part_of o' 0)) j r x)) (on_unknown lo (lower_set took low s) k fs' n o' key x) ≡ got (lower took low s')
      go true b true a e =
          let h = known-shows low.symbols d r.least a in
          rw (same-file, same-marks h)
          (sim-known key j r x w.0 h text (act_row (known_of s) d (full (part_of o 0)) j r x) (row-act (known_of s) d (full (part_of o 0)) j r x) s' e)
      go true b false a e =
          sim-hidden key j r x w.0 w.1 calm text a (act_row (known_of s) d (full (part_of o 0)) j r x) (row-act (known_of s) d (full (part_of o 0)) j r x) s' e
      go false b true a e = clash (reaches-up low.symbols high.symbols le r.least a) b
      go false b false a e = sim-unknown key x s' e

  sim-close : (s' : State) → on_placed_own hi s k fs n o close ≡ got s' → on_placed_own lo (lower_set took low s) k fs' n o' close ≡ got (lower took low s')
  sim-close s' e = go (complete (both high.symbols d) placed_table (rows_there (part_of o 0))) refl e
    where
      go : (b : Bool) → complete (both high.symbols d) placed_table (rows_there (part_of o 0)) ≡ b → on_placed s k fs n o 0 (cond b shut (refuse 8)) ≡ got s'
          → on_placed_own lo (lower_set took low s) k fs' n o' close ≡ got (lower took low s')
      go true b e =
          rw (same-file, part-own low.symbols d o, complete_mask low.symbols high.symbols d le placed_table (part_of o 0) b)
          (ap (λ gs. got (figures (lower_set took low s) (in_layer k) gs)) (sym (map-append (lower_figure low (ranges_of s)) fs (placed n o ∷ []))) ∙ via e)
      go false b e = never e

  sim-own : (f : Form) (s' : State) → on_placed_own hi s k fs n o f ≡ got s' → on_placed_own lo (lower_set took low s) k fs' n o' f ≡ got (lower took low s')
  sim-own ignored s' e = via e
  sim-own (wrong i) s' e = never e
  sim-own close s' e = sim-close s' e
  sim-own eof s' e = never e
  sim-own (keyed key x) s' e = sim-key key x (find key placed_table) refl s' e

  -- ── in the symbol's text: both read it, or the lower skips it ──
  sim-shown : (p : ℕ) → hides low.symbols d text_least ≡ false → (a : Act) (s' : State) → on_placed s k fs n o (suc p) a ≡ got s' → on_placed (lower_set took low s) k fs' n o' (suc p) a ≡ got (lower took low s')
  sim-shown p h stay s' e = shown (via e)
    where
      shown : got (lower_placing took low s k fs n o (suc p)) ≡ got (lower took low s') → got (placing (lower_set took low s) k fs' n (symbol_block o') (suc p)) ≡ got (lower took low s')
      shown q = rw h at q
  sim-shown p h (entry j v) s' e =
      let u = unless-got (new_serial s fs v) 15 _ s' e in
      rw (serial-new low (ranges_of s) took s fs v u.0, enter-inner low.symbols d h o p j v) (shown (via u.1))
    where
      shown : got (lower_placing took low s k fs n (enter o (suc p) j v) (suc p)) ≡ got (lower took low s') → got (placing (lower_set took low s) k fs' n (symbol_block (lower_held low.symbols d (enter o (suc p) j v))) (suc p)) ≡ got (lower took low s')
      shown q = rw h at q
  sim-shown p h (begin i j v) s' e = rw (enter-inner low.symbols d h o p j v) (shown i (via e))
    where
      shown : (i : ℕ) → got (lower_placing took low s k fs n (enter o (suc p) j v) i) ≡ got (lower took low s') → got (placing (lower_set took low s) k fs' n (symbol_block (lower_held low.symbols d (enter o (suc p) j v))) i) ≡ got (lower took low s')
      shown zero q = q
      shown (suc i) q = rw h at q
  sim-shown zero h shut s' e = via e
  sim-shown (suc p) h shut s' e = shown (via e)
    where
      shown : got (lower_placing took low s k fs n o 1) ≡ got (lower took low s') → got (placing (lower_set took low s) k fs' n (symbol_block o') 1) ≡ got (lower took low s')
      shown q = rw h at q
  sim-shown p h (refuse i) s' e = never e

  -- what an act of a flat row leaves of what is held, where the text is left out
  sim-wiped : (p : ℕ) → hides low.symbols d text_least ≡ true → (key : List ℕ) (x : Rest) (f : Found) → find key (get_or placed_tables (suc p) []) ≡ f → (s' : State)
      → on_placed s k fs n o (suc p) (act_found (known_of s) (digits 0 0) (rows_there (part_of o (suc p))) x f) ≡ got s'
      → on_skipping (lower_set took low s) k fs' n (symbol_block o') (depth_in (suc p)) (keyed key x) ≡ got (lower took low s')
  sim-wiped p h key x absent q s' e = go (has_form (shape_of x)) e
    where
      go : (b : Bool) → on_placed s k fs n o (suc p) (or_refuse (unless b 5 (bad 6))) ≡ got s' → on_skipping (lower_set took low s) k fs' n (symbol_block o') (depth_in (suc p)) (keyed key x) ≡ got (lower took low s')
      go true e = never e
      go false e = never e
  sim-wiped (suc p) h key x (found j r) q s' e = absurd (let z : ◌≡◌ {A = ℕ} 0 1 = cc in omega arith)
  sim-wiped zero h key x (found j r) q s' e =
      by (act_row (known_of s) (digits 0 0) (get_or (rows_there (part_of o 1)) j false) j r x) (row-act (known_of s) (digits 0 0) (get_or (rows_there (part_of o 1)) j false) j r x) e
    where
      w : Row (text_table true 16 24) j r × (same key r.key ≡ true)
      w = found-row key (text_table true 16 24) j r q

      by : (a : Act) → RowAct (digits 0 0) j r x a → on_placed s k fs n o 1 a ≡ got s' → on_skipping (lower_set took low s) k fs' n (symbol_block o') 1 (keyed key x) ≡ got (lower took low s')
      by _ (entered v l c) e =
          let u = unless-got (new_serial s fs v) 15 _ s' e in
          rw (quiet-passes key r x w.1 (row-all quiet w.0 (quiet-texts 16 24)) c)
          (ap (λ b. got (skipping (lower_set took low s) k fs' n (symbol_block b) 1)) (sym (enter-wiped low.symbols d h o 0 j v)) ∙ wiped-out (via u.1))
        where
          wiped-out : got (lower_placing took low s k fs n (enter o 1 j v) 1) ≡ got (lower took low s') → got (skipping (lower_set took low s) k fs' n (symbol_block (lower_held low.symbols d (enter o 1 j v))) 1) ≡ got (lower took low s')
          wiped-out p = rw h at p
      by _ (opened v l c f) e = absurd (flat-opens r.holds r.may (shape_for r x) (row-all (λ r. flat_kind r.holds) w.0 (flat-texts 16 24)) c f)
      by _ (refused i) e = never e

  sim-closed : (p : ℕ) → hides low.symbols d text_least ≡ true → (b : Bool) (s' : State) → on_placed s k fs n o (suc p) (cond b shut (refuse 8)) ≡ got s'
      → skip_shut (lower_set took low s) k fs' n (symbol_block o') (depth_in (suc p)) ≡ got (lower took low s')
  sim-closed zero h true s' e = via e
  sim-closed (suc p) h true s' e = left_out (via e)
    where
      left_out : got (lower_placing took low s k fs n o 1) ≡ got (lower took low s') → got (skipping (lower_set took low s) k fs' n (symbol_block o') 1) ≡ got (lower took low s')
      left_out q = rw h at q
  sim-closed p h false s' e = never e

  sim-skipped : (p : ℕ) → hides low.symbols d text_least ≡ true → (f : Form) (s' : State) → on_placing hi s k fs n o (suc p) f ≡ got s'
      → on_skipping (lower_set took low s) k fs' n (symbol_block o') (depth_in (suc p)) f ≡ got (lower took low s')
  sim-skipped p h ignored s' e = left_out (via e)
    where
      left_out : got (lower_placing took low s k fs n o (suc p)) ≡ got (lower took low s') → got (skipping (lower_set took low s) k fs' n (symbol_block o') (depth_in (suc p))) ≡ got (lower took low s')
      left_out q = rw h at q
  sim-skipped p h (wrong i) s' e = never e
  sim-skipped p h close s' e = sim-closed p h (complete (digits 0 0) (get_or placed_tables (suc p) []) (rows_there (part_of o (suc p)))) s' e
  sim-skipped p h eof s' e = never e
  sim-skipped p h (keyed key x) s' e = sim-wiped p h key x (find key (get_or placed_tables (suc p) [])) refl s' e

  sim-inner : (p : ℕ) → hides low.symbols d text_least ≡ false → (f : Form) (s' : State) → on_placing hi s k fs n o (suc p) f ≡ got s' → on_placing lo (lower_set took low s) k fs' n o' (suc p) f ≡ got (lower took low s')
  sim-inner p h f s' e =
      ap (λ t. on_placed (lower_set took low s) k fs' n o' (suc p) (act (known_of s) (get_or placed_tables (suc p) []) (digits 0 0) (rows_there t) f)) (part-inner low.symbols d o p ∙ shown)
      ∙ sim-shown p h (act (known_of s) (get_or placed_tables (suc p) []) (digits 0 0) (rows_there (part_of o (suc p))) f) s' e
    where
      shown : inner_part low.symbols d (part_of o (suc p)) ≡ part_of o (suc p)
      shown = rw h

  -- ── a line where a placed symbol is open ──
  pub sim-placing : (p : ℕ) (f : Form) (s' : State) → on_placing hi s k fs n o p f ≡ got s' → (st : State) → lower_placing took low s k fs n o p ≡ st
      → (onOne : State → Got State) → ((o : Held) (p : ℕ) → onOne (placing (lower_set took low s) k fs' n (symbol_block o) p) ≡ on_placing lo (lower_set took low s) k fs' n o p f)
      → ((b : Owned) (q : ℕ) → onOne (skipping (lower_set took low s) k fs' n b q) ≡ on_skipping (lower_set took low s) k fs' n b q f) → onOne st ≡ got (lower took low s')
  sim-placing zero f s' e st q on shown left = ap on (sym q) ∙ shown o' 0 ∙ sim-own f s' e
  sim-placing (suc p) f s' e st q on shown left = ap on (sym q) ∙ go (hides low.symbols d text_least) refl
    where
      go : (b : Bool) → hides low.symbols d text_least ≡ b → on (cond b (skipping (lower_set took low s) k fs' n (symbol_block o') (depth_in (suc p))) (placing (lower_set took low s) k fs' n (symbol_block o') (suc p))) ≡ got (lower took low s')
      go true b = left (symbol_block o') (depth_in (suc p)) ∙ sim-skipped p b f s' e
      go false b = shown o' (suc p) ∙ sim-inner p b f s' e
