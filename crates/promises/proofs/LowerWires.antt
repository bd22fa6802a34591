-- A line in a wire at two classes: both read it, and what the lower doesn't know of it it skips; or the lower skips the wire whole.
use Rattle.std.specs.Prelude.{Some, None}
use Prim.Native.Nat.{ℕ, zero, suc, ◌+◌, ◌-◌, ◌≤◌}
use mathlib.Core.Bool.{Bool, true, false, cond, ◌&&◌, ◌||◌, not}
use mathlib.Core.List.{List, [], ◌∷◌, ◌++◌}
use mathlib.Core.Path.{◌≡◌, refl, sym, ◌∙◌, ap, subst}
use native.Mathlib.Omega.{arith}
use lib.Dec.{eqb, leb}
use lib.ListN.{length, get_or, set, drop, get_or-map}
use lib.Seq.{get_or-drop}
use borrow.Author.Tests.{eqb-true, leb-true, ltb-true}
use Rattle.rules.specs.declared.Digits.{Digits}
use Rattle.rules.specs.declared.Class.{Class}
use Rattle.rules.specs.Base.{same, is_some}
use Rattle.rules.specs.RefusalNumbers.{Got, got, bad, unless, map_g}
use Rattle.rules.specs.Lines.{Rest, Form, ignored, wrong, close, eof, keyed, shape_of, has_form}
use Rattle.rules.specs.RangeClass.{digits, reaches, exceeds, both, hides, knows_wires, Skip, passes, deeper, no_form, skip_of}
use Rattle.rules.specs.Values.{Num, Value, nums_of}
use Rattle.rules.specs.Rows.{Rule, Slots, blank, Found, absent, found, find, rows_there, shape_for, Act, stay, entry, begin, shut, refuse, or_refuse, act_row, act_unknown, complete, act}
use Rattle.rules.specs.Figures.{wire_table, wire_text_table, most_direcs, first_group_row, num_row, wire_text_row}
use Rattle.rules.specs.Sets.{Wire, Figure, wired, passed, Set, first_contents, join_digit, wires_of, known_of}
use Rattle.rules.specs.Machine.{Line, Env, unlimited, in_layer, Owned, State, figures, placing, skipping, by_act, wire_block, wire_unread}
use Rattle.rules.specs.PlacedSymbol.{by_skip, skip_deeper, skip_ended, on_skipping}
use Rattle.rules.specs.Wires.{joined, joins_ends, last_edge, past_elements, group_at, with_groups, with_once, with_texts, is_group_row, with_attribute, wire_full, is_element_row, on_element, like_first, nums_alike, new_number, on_attribute, on_wire_act, on_wire_unknown, on_wire_key, on_wire_own, on_wire_text}
use Rattle.rules.proofs.Chains.{and_left, clash, never, unless-got, map-append}
use Rattle.rules.proofs.Rows.{Row, here, there, found-row, row-all, reaches-none}
use Rattle.promises.specs.DemandThree.{NotAbove}
use Rattle.promises.proofs.BackSlots.{retaken}
use Rattle.promises.proofs.Lower.{reaches-up, exceeds-down, known-shows, unknown-hides, unknown-exceeds, group_table, wire_text_least, lower_read, ranges_of, lower_figure, lower_figures, lower_set, lower_owned, lower_wire, lower, Goes, mask-slot, mask_in, mask-out, file-same}
use Rattle.promises.proofs.LowerSerials.{number-new}
use Rattle.promises.proofs.LowerPlaced.{complete_mask}
use Rattle.promises.proofs.LowerRows.{RowAct, row-act, quiet, opens_text, flat_kind, quiet-passes, opens-text, flat-opens, quiet-wire, text-wire, quiet-texts, flat-texts, entered, opened, refused}

-- ── rows of a wire's table ──
-- elements are known to every class that knows wires, and allowed in every file that has them
element-least : {j : ℕ} {r : Rule} → Row wire_table j r → is_element_row j ≡ true → r.least ≡ digits 0 0
unfolding wire_table
element-least here e = refl
element-least (there here) e = refl
element-least (there (there {i = i} w)) e = absurd (let h = ltb-true (suc (suc i)) first_group_row e in omega (arith, h))

-- a row that has a list in `groups` is that row of their table
drop-row : {t : List Rule} {j : ℕ} {r : Rule} → Row t j r → 2 ≤ j → Row (drop 2 t) (j - 2) r
drop-row here h = absurd (omega (arith, h))
drop-row (there here) h = absurd (omega (arith, h))
drop-row (there (there {r = r} {rs = rs} {i = i} w)) h = let q : i ≡ suc (suc i) - 2 = omega arith in subst (λ (m : ℕ). Row rs m r) q w

group-row : {j : ℕ} {r : Rule} → Row wire_table j r → is_group_row j ≡ true → Row group_table (j - first_group_row) r
group-row {j = j} w e = drop-row w (leb-true first_group_row j (and_left (leb first_group_row j) _ e))

-- ── what the lower class has of a wire, behind one line more ──
module _ (c d : Digits) {j : ℕ} {r : Rule} (at : Row wire_table j r) (w : Wire) where
  group-same : hides c d r.least ≡ false → is_group_row j ≡ true → group_at (lower_read c d w) j ≡ group_at w j
  group-same h g = mask-slot [] c d (group-row at g) h w.groups

  alike_same : hides c d r.least ≡ false → (v : List Num) → nums_alike (lower_read c d w) j v ≡ nums_alike w j v
  alike_same h v = go (eqb j num_row) refl
    where
      go : (b : Bool) → eqb j num_row ≡ b → (not b || like_first (group_at (lower_read c d w) j) v) ≡ (not b || like_first (group_at w j) v)
      go true e = ap (λ us. like_first us v) (group-same h (ap is_group_row (eqb-true j num_row e)))
      go false e = refl

  -- an attribute that the class knows
  attribute_in : hides c d r.least ≡ false → (v : Value) → lower_read c d (with_attribute w j v) ≡ with_attribute (lower_read c d w) j v
  attribute_in h v = go (is_group_row j) refl
    where
      more : List (List Num) → List (List Num)
      more us = us ++ nums_of v ∷ []

      go : (b : Bool) → is_group_row j ≡ b
          → lower_read c d (cond b (with_groups (set w.groups (j - first_group_row) (more (group_at w j))) w) (with_once (set w.own j (Some v)) w))
          ≡ cond b (with_groups (set (lower_read c d w).groups (j - first_group_row) (more (group_at (lower_read c d w) j))) (lower_read c d w)) (with_once (set (lower_read c d w).own j (Some v)) (lower_read c d w))
      go true g =
          ap (λ gs. with_groups gs (lower_read c d w))
          (sym (mask_in [] c d (group-row at g) h w.groups (more (group_at w j))) ∙ ap (λ us. set (lower_read c d w).groups (j - first_group_row) (more us)) (sym (group-same h g)))
      go false g = ap (λ o. with_once o (lower_read c d w)) (sym (mask_in None c d at h w.own (Some v)))

  -- one that it leaves out
  attribute-out : hides c d r.least ≡ true → (v : Value) → lower_read c d (with_attribute w j v) ≡ past_elements (lower_read c d w)
  attribute-out h v = go (is_group_row j) refl
    where
      go : (b : Bool) → is_group_row j ≡ b
          → lower_read c d (cond b (with_groups (set w.groups (j - first_group_row) (group_at w j ++ nums_of v ∷ [])) w) (with_once (set w.own j (Some v)) w)) ≡ past_elements (lower_read c d w)
      go true g = ap (λ gs. with_groups gs (lower_read c d w)) (mask-out [] c d (group-row at g) h w.groups (group_at w j ++ nums_of v ∷ []))
      go false g = ap (λ o. with_once o (lower_read c d w)) (mask-out None c d at h w.own (Some v))

-- a row that the class knows may take more where it may at the other class
full-same : (c d : Digits) (j : ℕ) {r : Rule} → Row wire_table j r → hides c d r.least ≡ false → (w : Wire) → get_or (wire_full (lower_read c d w)) j false ≡ get_or (wire_full w) j false
full-same c d zero at h w = refl
full-same c d (suc zero) at h w = refl
full-same c d (suc (suc zero)) at h w = ap (λ us. leb most_direcs (length us)) (group-same c d at w h refl)
full-same c d (suc (suc (suc zero))) at h w = refl
full-same c d (suc (suc (suc (suc zero)))) at h w = refl
full-same c d (suc (suc (suc (suc (suc i))))) at h w =
    marked (lower_read c d w).own ∙ ap is_some (mask-slot None c d at h w.own) ∙ sym (marked w.own)
  where
    marked : (o : Slots) → get_or (drop wire_text_row (rows_there o)) i false ≡ is_some (get_or o (suc (suc (suc (suc (suc i))))) None)
    marked o =
        let q : wire_text_row + i ≡ suc (suc (suc (suc (suc i)))) = omega arith in
        get_or-drop wire_text_row (rows_there o) i false ∙ ap (λ (m : ℕ). get_or (rows_there o) m false) q ∙ get_or-map is_some o (suc (suc (suc (suc (suc i))))) None

-- a key that is not known there is refused
refused-key : {P : Type 0} (st : State) (en : ℕ → Value → Got State) (op : ℕ → ℕ → Value → Got State) (cl : Got State) (x : Rest) (s' : State)
    → by_act st en op (λ _. cl) (act_unknown x) ≡ got s' → P
refused-key st en op cl x s' e = go (has_form (shape_of x)) e
  where
    go : {P : Type 0} (b : Bool) → by_act st en op (λ _. cl) (or_refuse (unless b 5 (bad 6))) ≡ got s' → P
    go true e = never e
    go false e = never e

-- what an act does in a wire's text
abbrev text_does : Set → ℕ → List Figure → ℕ → Wire → ℕ → Act → Got State
text_does s k fs n w p a =
    by_act (placing s k fs n (wire_block w) p)
    (λ j v. got (placing s k fs n (wire_block (with_texts w.texts (set w.writing j (Some v)) w)) p))
    (λ i j v. bad 5)
    (λ _. got (placing s k fs n (wire_block (with_texts (w.texts ++ w.writing ∷ []) [] w)) 0))
    a

module _ (low high : Class) (le : NotAbove low.wires high.wires) (took : ℕ) (l : Line) (s : Set) (k : ℕ) (fs : List Figure) (n : ℕ) (w : Wire) where
  abbrev lo : Env
  lo = unlimited low

  abbrev hi : Env
  hi = unlimited high

  abbrev d : Digits
  d = wires_of s

  abbrev c : Digits
  c = low.wires

  abbrev fs' : List Figure
  fs' = lower_figures low (ranges_of s) fs

  abbrev below : Set
  below = lower_set took low s

  abbrev w' : Wire
  w' = lower_read c d w

  same-file : (first_contents below).file ≡ (first_contents s).file
  same-file = file-same low (ranges_of s) s.now s.volumes

  along : {g : Got State} {s' : State} → g ≡ got s' → map_g (lower took low) g ≡ got (lower took low s')
  along e = ap (map_g (lower took low)) e

  -- ── both read it ──
  module _ (knows : knows_wires low ≡ true) where
    -- in the wire, whatever it holds by now, with whatever records taken
    stays : (m m' : ℕ) (v : Wire) (s' : State) → got (placing (retaken m s) k fs n (wire_block v) 0) ≡ got s'
        → got (placing (lower_set m' low s) k fs' n (wire_block (lower_read c d v)) 0) ≡ got (lower m' low s')
    stays m m' v s' e = shown (ap (map_g (lower m' low)) e)
      where
        shown : got (lower m' low (placing (retaken m s) k fs n (wire_block v) 0)) ≡ got (lower m' low s')
            → got (placing (lower_set m' low s) k fs' n (wire_block (lower_read c d v)) 0) ≡ got (lower m' low s')
        shown q = rw knows at q

    sim-element : (j : ℕ) (v : List Num) (s' : State) → on_element hi l s k fs n w j v ≡ got s' → Goes low (on_element lo l below k fs' n w' j v) s'
    sim-element j v s' e =
        let u = unless-got (joined (joins_ends (join_digit s)) (last_edge w.elements) j v) 11 _ s' e in
        (took + 1, rw (same-file, u.0) (stays _ (took + 1) _ s' u.1))

    sim-attribute : {j : ℕ} {r : Rule} → Row wire_table j r → hides c d r.least ≡ false → (v : Value) (s' : State)
        → on_attribute s k fs n w j v ≡ got s' → on_attribute below k fs' n w' j v ≡ got (lower took low s')
    sim-attribute {j = j} at h v s' e =
        let a = unless-got (nums_alike w j (nums_of v)) 11 _ s' e in
        let b = unless-got (new_number s fs j v) 15 _ s' a.1 in
        rw (alike_same c d at w h (nums_of v) ∙ a.0, number-new low (ranges_of s) took s fs j v b.0)
        (ap (λ x. got (placing below k fs' n (wire_block x) 0)) (sym (attribute_in c d at w h v)) ∙ stays s.taken took (with_attribute w j v) s' b.1)

    -- a row that both know
    sim-known : (key : List ℕ) (j : ℕ) (r : Rule) (x : Rest) → Row wire_table j r → hides c d r.least ≡ false → opens_text wire_text_least r.holds r.least ≡ true
        → (a : Act) → RowAct d j r x a → (s' : State) → on_wire_act hi l s k fs n w a ≡ got s' → Goes low (on_wire_act lo l below k fs' n w' a) s'
    sim-known key j r x at h t _ (entered v p q) s' e = go (is_element_row j) e
      where
        go : (b : Bool) → cond b (on_element hi l s k fs n w j (nums_of v)) (on_attribute s k fs n w j v) ≡ got s'
            → Goes low (cond b (on_element lo l below k fs' n w' j (nums_of v)) (on_attribute below k fs' n w' j v)) s'
        go true e = sim-element j (nums_of v) s' e
        go false e = (took, sim-attribute at h v s' e)
    sim-known key j r x at h t _ (opened v p q f) s' e = (took, shown (rw (opens-text wire_text_least key r x t q f).least at h) (along e))
      where
        shown : hides c d wire_text_least ≡ false → got (lower_wire took low s k fs n (with_texts w.texts (blank wire_text_table) w) 1) ≡ got (lower took low s')
            → got (placing below k fs' n (wire_block (with_texts w'.texts (blank wire_text_table) w')) 1) ≡ got (lower took low s')
        shown g p = rw g (rw (knows, g) at p)
    sim-known key j r x at h t _ (refused i) s' e = never e

    -- what neither knows
    sim-unknown : (key : List ℕ) (x : Rest) (s' : State) → on_wire_unknown hi l s k fs n w key x ≡ got s' → on_wire_unknown lo l below k fs' n w' key x ≡ got (lower took low s')
    sim-unknown key x s' e = go (exceeds d high.wires) refl e
      where
        by : (z : Skip) → by_skip z (got (placing s k fs n (wire_block (past_elements w)) 0)) (skip_deeper 0 (skipping s k fs n (wire_block (past_elements w)) 1)) ≡ got s'
            → by_skip z (got (placing below k fs' n (wire_block (past_elements w')) 0)) (skip_deeper 0 (skipping below k fs' n (wire_block (past_elements w')) 1)) ≡ got (lower took low s')
        by passes e = stays s.taken took (past_elements w) s' e
        by deeper e = inside (along e)
          where
            inside : got (skipping below k fs' n (lower_owned low (ranges_of s) (wire_block (past_elements w))) 1) ≡ got (lower took low s')
                → got (skipping below k fs' n (wire_block (past_elements w')) 1) ≡ got (lower took low s')
            inside q = rw knows at q
        by no_form e = never e

        go : (b : Bool) → exceeds d high.wires ≡ b
            → cond b (by_skip (skip_of key x) (got (placing s k fs n (wire_block (past_elements w)) 0)) (skip_deeper 0 (skipping s k fs n (wire_block (past_elements w)) 1))) (on_wire_act hi l s k fs n w (act_unknown x)) ≡ got s'
            → on_wire_unknown lo l below k fs' n w' key x ≡ got (lower took low s')
        go true b e = rw (same-file, exceeds-down c high.wires le d b) (by (skip_of key x) e)
        go false b e = refused-key _ _ _ _ x s' e

    -- a row that the lower doesn't know, and the file has
    sim-hidden : (key : List ℕ) (j : ℕ) (r : Rule) (x : Rest) → Row wire_table j r → same key r.key ≡ true → quiet r ≡ true → opens_text wire_text_least r.holds r.least ≡ true
        → reaches c r.least ≡ false → (a : Act) → RowAct d j r x a → (s' : State) → on_wire_act hi l s k fs n w a ≡ got s'
        → on_wire_unknown lo l below k fs' n w' key x ≡ got (lower took low s')
    sim-hidden key j r x at sk calm t u _ (entered v p q) s' e = go (is_element_row j) refl e
      where
        go : (b : Bool) → is_element_row j ≡ b → cond b (on_element hi l s k fs n w j (nums_of v)) (on_attribute s k fs n w j v) ≡ got s'
            → on_wire_unknown lo l below k fs' n w' key x ≡ got (lower took low s')
        go true b e = clash (ap (reaches c) (element-least at b) ∙ reaches-none c) u
        go false b e =
            let y = unless-got (nums_alike w j (nums_of v)) 11 _ s' e in
            let z = unless-got (new_number s fs j v) 15 _ s' y.1 in
            rw (same-file, unknown-exceeds c d r.least p u, quiet-passes key r x sk calm q)
            (ap (λ x. got (placing below k fs' n (wire_block x) 0)) (sym (attribute-out c d at w (unknown-hides c d r.least p u) v)) ∙ stays s.taken took (with_attribute w j v) s' z.1)
    sim-hidden key j r x at sk calm t u _ (opened v p q f) s' e =
        let z = opens-text wire_text_least key r x t q f in
        rw (same-file, unknown-exceeds c d r.least p u, z.skips) (left_out (rw z.least at (unknown-hides c d r.least p u)) (along e))
      where
        left_out : hides c d wire_text_least ≡ true → got (lower_wire took low s k fs n (with_texts w.texts (blank wire_text_table) w) 1) ≡ got (lower took low s')
            → got (skipping below k fs' n (wire_block (past_elements w')) 1) ≡ got (lower took low s')
        left_out g p = rw g (rw (knows, g) at p)
    sim-hidden key j r x at sk calm t u _ (refused i) s' e = never e

    sim-key : (key : List ℕ) (x : Rest) (f : Found) → find key wire_table ≡ f → (s' : State)
        → on_wire_key hi l s k fs n w key x f ≡ got s' → Goes low (on_wire_key lo l below k fs' n w' key x f) s'
    sim-key key x absent q s' e = (took, sim-unknown key x s' e)
    sim-key key x (found j r) q s' e = go (is_element_row j && w.past) (reaches high.wires r.least) refl (reaches c r.least) refl e
      where
        at : Row wire_table j r × (same key r.key ≡ true)
        at = found-row key wire_table j r q

        text : opens_text wire_text_least r.holds r.least ≡ true
        text = row-all (λ r. opens_text wire_text_least r.holds r.least) at.0 text-wire

        does : Act
        does = act_row (known_of s) d (get_or (wire_full w) j false) j r x

        did : RowAct d j r x does
        did = row-act (known_of s) d (get_or (wire_full w) j false) j r x

        same-act : hides c d r.least ≡ false → act_row (known_of s) (wires_of below) (get_or (wire_full w') j false) j r x ≡ does
        same-act h = rw (same-file, full-same c d j at.0 h w)

        go : (late : Bool) (b : Bool) → reaches high.wires r.least ≡ b → (a : Bool) → reaches c r.least ≡ a
            → cond late (on_wire_act hi l s k fs n w (act_unknown x)) (cond b (on_wire_act hi l s k fs n w does) (on_wire_unknown hi l s k fs n w key x)) ≡ got s'
            → Goes low (cond late (on_wire_act lo l below k fs' n w' (act_unknown x))
            (cond a (on_wire_act lo l below k fs' n w' (act_row (known_of s) (wires_of below) (get_or (wire_full w') j false) j r x)) (on_wire_unknown lo l below k fs' n w' key x))) s'
        go true b p a p' e = refused-key _ _ _ _ x s' e
        go false true b true a e =
            let h = known-shows c d r.least a in
            subst (λ y. Goes low (on_wire_act lo l below k fs' n w' y) s') (sym (same-act h)) (sim-known key j r x at.0 h text does did s' e)
        go false true b false a e = (took, sim-hidden key j r x at.0 at.1 (row-all quiet at.0 quiet-wire) text a does did s' e)
        go false false b true a e = clash (reaches-up c high.wires le r.least a) b
        go false false b false a e = (took, sim-unknown key x s' e)

    sim-close : (s' : State) → on_wire_own hi l s k fs n w close ≡ got s' → on_wire_own lo l below k fs' n w' close ≡ got (lower took low s')
    sim-close s' e = go (complete (both high.wires d) wire_table (rows_there w.own)) refl e
      where
        kept : lower_figures low (ranges_of s) (fs ++ wired n w ∷ []) ≡ fs' ++ wired n w' ∷ []
        kept = map-append (lower_figure low (ranges_of s)) fs (wired n w ∷ []) ∙ ap (λ g. fs' ++ g ∷ []) (rw knows)

        go : (b : Bool) → complete (both high.wires d) wire_table (rows_there w.own) ≡ b → on_wire_act hi l s k fs n w (cond b shut (refuse 8)) ≡ got s'
            → on_wire_own lo l below k fs' n w' close ≡ got (lower took low s')
        go true b e =
            rw (same-file, complete_mask c high.wires d le wire_table w.own b) (ap (λ gs. got (figures below (in_layer k) gs)) (sym kept) ∙ along e)
        go false b e = never e

    pub sim_read : (f : Form) (s' : State) → on_wire_own hi l s k fs n w f ≡ got s' → Goes low (on_wire_own lo l below k fs' n w' f) s'
    sim_read ignored s' e = (took, stays s.taken took w s' e)
    sim_read (wrong i) s' e = never e
    sim_read close s' e = (took, sim-close s' e)
    sim_read eof s' e = never e
    sim_read (keyed key x) s' e = sim-key key x (find key wire_table) refl s' e

    -- in a text that both read
    module _ (shows : hides c d wire_text_least ≡ false) where
      by-act : (p : ℕ) (a : Act) → text_does below k fs' n w' (suc p) a ≡ map_g (lower took low) (text_does s k fs n w (suc p) a)
      by-act p stay = rw (knows, shows)
      by-act p (entry j v) = rw (knows, shows)
      by-act p (begin i j v) = refl
      by-act p shut = rw (knows, shows)
      by-act p (refuse i) = refl

      pub sim-text : (p : ℕ) (f : Form) (s' : State) → on_wire_text s k fs n w (suc p) f ≡ got s' → on_wire_text below k fs' n w' (suc p) f ≡ got (lower took low s')
      sim-text p f s' e =
          ap (λ o. text_does below k fs' n w' (suc p) (act (known_of s) wire_text_table (digits 0 0) (rows_there o) f)) written
          ∙ by-act p (act (known_of s) wire_text_table (digits 0 0) (rows_there w.writing) f) ∙ along e
        where
          written : w'.writing ≡ w.writing
          written = rw shows

  -- ── in a text that the lower skips: it knows wires and no texts of theirs, or no wires ──
  module _ (b : Owned) where
    -- what the state in the text is for it, and what the one behind the text
    pub record Skipped : Type 0 where
      pub here : (p : ℕ) → lower took low (placing s k fs n (wire_block w) (suc p)) ≡ skipping below k fs' n b 1
      pub more : (p : ℕ) (ss : List Slots) (o : Slots) → lower took low (placing s k fs n (wire_block (with_texts ss o w)) (suc p)) ≡ skipping below k fs' n b 1
      pub behind : (ss : List Slots) (o : Slots) → lower took low (placing s k fs n (wire_block (with_texts ss o w)) 0) ≡ skip_ended below k fs' n b

    module _ (is : Skipped) where
      text-close : (p : ℕ) (t : Bool) (s' : State) → text_does s k fs n w (suc p) (cond t shut (refuse 8)) ≡ got s' → got (skip_ended below k fs' n b) ≡ got (lower took low s')
      text-close p true s' e = ap got (sym (is.behind (w.texts ++ w.writing ∷ []) [])) ∙ along e
      text-close p false s' e = never e

      text-key : (p : ℕ) (key : List ℕ) (x : Rest) (f : Found) → find key wire_text_table ≡ f → (s' : State)
          → text_does s k fs n w (suc p) (act (known_of s) wire_text_table (digits 0 0) (rows_there w.writing) (keyed key x)) ≡ got s' → on_skipping below k fs' n b 1 (keyed key x) ≡ got (lower took low s')
      text-key p key x absent q s' e = refused-key _ _ _ _ x s' (rw q at e)
      text-key p key x (found j r) q s' e = by (act_row (known_of s) (digits 0 0) full j r x) (row-act (known_of s) (digits 0 0) full j r x) (rw q at e)
        where
          full : Bool
          full = get_or (rows_there w.writing) j false

          at : Row wire_text_table j r × (same key r.key ≡ true)
          at = found-row key wire_text_table j r q

          by : (a : Act) → RowAct (digits 0 0) j r x a → text_does s k fs n w (suc p) a ≡ got s' → on_skipping below k fs' n b 1 (keyed key x) ≡ got (lower took low s')
          by _ (entered v h z) e =
              rw (quiet-passes key r x at.1 (row-all quiet at.0 (quiet-texts 4 12)) z) (ap got (sym (is.more p w.texts (set w.writing j (Some v)))) ∙ along e)
          by _ (opened v h z f) e = absurd (flat-opens r.holds r.may (shape_for r x) (row-all (λ r. flat_kind r.holds) at.0 (flat-texts 4 12)) z f)
          by _ (refused i) e = never e

      pub sim-passed : (p : ℕ) (f : Form) (s' : State) → on_wire_text s k fs n w (suc p) f ≡ got s' → on_skipping below k fs' n b 1 f ≡ got (lower took low s')
      sim-passed p ignored s' e = ap got (sym (is.here p)) ∙ along e
      sim-passed p (wrong i) s' e = never e
      sim-passed p close s' e = text-close p (complete (digits 0 0) wire_text_table (rows_there w.writing)) s' e
      sim-passed p eof s' e = never e
      sim-passed p (keyed key x) s' e = text-key p key x (find key wire_text_table) refl s' e

  pub text-unknown : knows_wires low ≡ true → hides c d wire_text_least ≡ true → Skipped (wire_block (past_elements w'))
  text-unknown knows hidden = record { here = λ p. rw (knows, hidden); more = λ p ss o. rw (knows, hidden); behind = λ ss o. rw (knows, hidden) }

  pub text-over : knows_wires low ≡ false → Skipped wire_unread
  text-over skips = record { here = λ p. rw skips; more = λ p ss o. rw skips; behind = λ ss o. rw skips }

  -- ── the lower skips the wire whole ──
  module _ (skips : knows_wires low ≡ false) where
    abbrev inside-all : State
    inside-all = skipping below k fs' n wire_unread 0

    -- in the wire, whatever it holds by now, with whatever records taken
    over : (m : ℕ) (v : Wire) (s' : State) → got (placing (retaken m s) k fs n (wire_block v) 0) ≡ got s' → got inside-all ≡ got (lower took low s')
    over m v s' e = left_out (along e)
      where
        left_out : got (lower took low (placing (retaken m s) k fs n (wire_block v) 0)) ≡ got (lower took low s') → got inside-all ≡ got (lower took low s')
        left_out q = rw skips at q

    over-unknown : (key : List ℕ) (x : Rest) (s' : State) → on_wire_unknown hi l s k fs n w key x ≡ got s' → on_skipping below k fs' n wire_unread 0 (keyed key x) ≡ got (lower took low s')
    over-unknown key x s' e = go (exceeds d high.wires) e
      where
        by : (z : Skip) → by_skip z (got (placing s k fs n (wire_block (past_elements w)) 0)) (skip_deeper 0 (skipping s k fs n (wire_block (past_elements w)) 1)) ≡ got s'
            → by_skip z (got inside-all) (skip_deeper 0 (skipping below k fs' n wire_unread 1)) ≡ got (lower took low s')
        by passes e = over s.taken (past_elements w) s' e
        by deeper e = inside (along e)
          where
            inside : got (skipping below k fs' n (lower_owned low (ranges_of s) (wire_block (past_elements w))) 1) ≡ got (lower took low s')
                → got (skipping below k fs' n wire_unread 1) ≡ got (lower took low s')
            inside q = rw skips at q
        by no_form e = never e

        go : (b : Bool) → cond b (by_skip (skip_of key x) (got (placing s k fs n (wire_block (past_elements w)) 0)) (skip_deeper 0 (skipping s k fs n (wire_block (past_elements w)) 1))) (on_wire_act hi l s k fs n w (act_unknown x)) ≡ got s'
            → on_skipping below k fs' n wire_unread 0 (keyed key x) ≡ got (lower took low s')
        go true e = by (skip_of key x) e
        go false e = refused-key _ _ _ _ x s' e

    over-row : (key : List ℕ) (j : ℕ) (r : Rule) (x : Rest) → same key r.key ≡ true → quiet r ≡ true → opens_text wire_text_least r.holds r.least ≡ true
        → (a : Act) → RowAct d j r x a → (s' : State) → on_wire_act hi l s k fs n w a ≡ got s' → on_skipping below k fs' n wire_unread 0 (keyed key x) ≡ got (lower took low s')
    over-row key j r x sk calm t _ (entered v p q) s' e = rw (quiet-passes key r x sk calm q) (go (is_element_row j) e)
      where
        go : (b : Bool) → cond b (on_element hi l s k fs n w j (nums_of v)) (on_attribute s k fs n w j v) ≡ got s' → got inside-all ≡ got (lower took low s')
        go true e = let u = unless-got (joined (joins_ends (join_digit s)) (last_edge w.elements) j (nums_of v)) 11 _ s' e in over _ _ s' u.1
        go false e =
            let y = unless-got (nums_alike w j (nums_of v)) 11 _ s' e in
            let z = unless-got (new_number s fs j v) 15 _ s' y.1 in
            over s.taken (with_attribute w j v) s' z.1
    over-row key j r x sk calm t _ (opened v p q f) s' e = rw (opens-text wire_text_least key r x t q f).skips (inside (along e))
      where
        inside : got (lower_wire took low s k fs n (with_texts w.texts (blank wire_text_table) w) 1) ≡ got (lower took low s')
            → got (skipping below k fs' n wire_unread 1) ≡ got (lower took low s')
        inside p = rw skips at p
    over-row key j r x sk calm t _ (refused i) s' e = never e

    over-key : (key : List ℕ) (x : Rest) (f : Found) → find key wire_table ≡ f → (s' : State) → on_wire_key hi l s k fs n w key x f ≡ got s'
        → on_skipping below k fs' n wire_unread 0 (keyed key x) ≡ got (lower took low s')
    over-key key x absent q s' e = over-unknown key x s' e
    over-key key x (found j r) q s' e = go (is_element_row j && w.past) (reaches high.wires r.least) e
      where
        at : Row wire_table j r × (same key r.key ≡ true)
        at = found-row key wire_table j r q

        full : Bool
        full = get_or (wire_full w) j false

        go : (late b : Bool) → cond late (on_wire_act hi l s k fs n w (act_unknown x)) (cond b (on_wire_act hi l s k fs n w (act_row (known_of s) d full j r x)) (on_wire_unknown hi l s k fs n w key x)) ≡ got s'
            → on_skipping below k fs' n wire_unread 0 (keyed key x) ≡ got (lower took low s')
        go true b e = refused-key _ _ _ _ x s' e
        go false true e =
            over-row key j r x at.1 (row-all quiet at.0 quiet-wire) (row-all (λ r. opens_text wire_text_least r.holds r.least) at.0 text-wire)
            (act_row (known_of s) d full j r x) (row-act (known_of s) d full j r x) s' e
        go false false e = over-unknown key x s' e

    over-close : (b : Bool) (s' : State) → on_wire_act hi l s k fs n w (cond b shut (refuse 8)) ≡ got s'
        → got (figures below (in_layer k) (fs' ++ passed n ∷ [])) ≡ got (lower took low s')
    over-close true s' e = ap (λ gs. got (figures below (in_layer k) gs)) (sym gone) ∙ along e
      where
        gone : lower_figures low (ranges_of s) (fs ++ wired n w ∷ []) ≡ fs' ++ passed n ∷ []
        gone = map-append (lower_figure low (ranges_of s)) fs (wired n w ∷ []) ∙ ap (λ g. fs' ++ g ∷ []) (rw skips)
    over-close false s' e = never e

    pub sim-over : (f : Form) (s' : State) → on_wire_own hi l s k fs n w f ≡ got s' → on_skipping below k fs' n wire_unread 0 f ≡ got (lower took low s')
    sim-over ignored s' e = over s.taken w s' e
    sim-over (wrong i) s' e = never e
    sim-over close s' e = over-close (complete (both high.wires d) wire_table (rows_there w.own)) s' e
    sim-over eof s' e = never e
    sim-over (keyed key x) s' e = over-key key x (find key wire_table) refl s' e
