-- Any two wire parts give the same answer, records and table where E_wire is 000: such a file allows no key of a wire but its elements', which
-- every wire part knows, and no record shows an attribute of it.
use Rattle.std.specs.Prelude.{Option, Some, None}
use Prim.Native.Nat.{ℕ, zero, suc, ◌<◌, ◌/◌, min}
use mathlib.Core.Bool.{Bool, true, false, cond, ◌&&◌, ◌||◌, not}
use mathlib.Core.List.{List, [], ◌∷◌, ◌++◌}
use mathlib.Core.Path.{◌≡◌, refl, sym, ◌∙◌, ap, ap₂}
use native.Mathlib.Omega.{arith}
use lib.Dec.{eqb, leb, ltb}
use lib.IntN.{ℤ}
use lib.ListN.{length, get_or}
use borrow.Author.Tests.{ltb-true, leb-true, le-leb, le-ltb, eqb-true, ne_eqb, not-true, not-false}
use Rattle.rules.specs.declared.Digits.{Digits}
use Rattle.rules.specs.declared.Class.{Class}
use Rattle.rules.specs.Base.{flat, all, is_nil}
use Rattle.rules.specs.RefusalNumbers.{Got, got, bad, unless}
use Rattle.rules.specs.Lines.{Rest, Form, ignored, wrong, close, eof, keyed}
use Rattle.rules.specs.Spool.{Volume, volumes_of}
use Rattle.rules.specs.RangeClass.{digits, digits_of, reaches, exceeds, both, hides, knows_serials, is_symbol_part, is_wire_part, class_of}
use Rattle.rules.specs.Values.{Value, is_free}
use Rattle.rules.specs.Rows.{Rule, Found, absent, found, find, Held, rows_there, rows_at_limit, Act, stay, entry, begin, shut, refuse, inner_of, act_row, act_unknown, act}
use Rattle.rules.specs.Blocks.{elec_table}
use Rattle.rules.specs.Figures.{placed_table, layer_table, wire_table}
use Rattle.rules.specs.Sets.{Wire, Figure, plain, chain, lettering, placed, wired, passed, LayerBlock, Contents, Drawing, Set, nothing_yet, range_of, wire_range, wires_of, is_single, is_wired, known_of, layer_table_of}
use Rattle.rules.specs.Machine.{Line, Env, Home, in_element, in_layer, State, top, file, drawing, layer_names, defines, symbol, hide, elements, figures, successive, texts, placing, skipping, ended, open_top, tests_partners, on_top, on_layer_names, open_figure}
use Rattle.rules.specs.Machine.{symbol_block, wire_block, wire_unread, set_of, by_act, home_table, on_figures}
use Rattle.rules.specs.PlacedSymbol.{on_placed_key, on_placing}
use Rattle.rules.specs.VolumesAndTotals.{counted_all, layers_used, partners_exist}
use Rattle.rules.specs.Wires.{wire_full, is_element_row, on_wire_act, on_wire_unknown, on_wire_key, on_wire_own, on_wire}
use Rattle.rules.specs.LineByLine.{step_in, step, Outcome, refused, accepted, then_run, run}
use Rattle.rules.specs.RecordTable.{View, width, unread_state, mark_unread, put_slots, shelves, put_groups, put_texts, wire_start, wire_numbers, wire_values, two_of, edge_records, figure_records, block_records, body_records, later_records, records_from, records_of}
use Rattle.rules.specs.Answers.{Listed, listed, no_lines, list_volumes, outcome_of_lines, outcome_of_volumes, outcome_of, outcome_at, class_or, records_in, read_outcome, read_records, read_answer, read_table}
use Rattle.rules.proofs.Chains.{and_left, and_right, and_true, and_false, clash, map-agree}
use Rattle.rules.proofs.Rows.{Row, found-row, row-all}
use Rattle.rules.proofs.Runs.{not-accepted}
use Rattle.promises.specs.WireParts.{go_on, read_up_to, set_of_lines, set_of_volumes, set_at, set_read, SameRead, WireParts}
use Rattle.promises.proofs.CountActs.{Begun, act-begin}
use Rattle.promises.proofs.WireRange.{Settled, settled_on, none_before, whole-read}

abbrev with_wires : Digits → Digits → Class
with_wires symbols wires = record { symbols = symbols; wires = wires }

-- before any line there is no E_wire
nothing-wired : is_wired nothing_yet ≡ false
unfolding elec_table
nothing-wired = refl

pick_true : {A : Type 0} (t : Bool) (x y : A) → t ≡ true → cond t x y ≡ x
pick_true t x y e = rw e

pick_false : {A : Type 0} (t : Bool) (x y : A) → t ≡ false → cond t x y ≡ y
pick_false t x y e = rw e

no-range : (s : Set) → is_wired s ≡ false → wire_range s ≡ 0
no-range s w = eqb-true (wire_range s) 0 (not-false (eqb (wire_range s) 0) w)

no-wires : (s : Set) → is_wired s ≡ false → wires_of s ≡ digits 0 0
no-wires s w = ap digits_of (no-range s w)

-- no partner is tested there
untested : (c : Class) (s : Set) → is_wired s ≡ false → tests_partners c s ≡ false
untested c s w =
    ap (λ (d : Digits). (knows_serials (range_of s) && knows_serials d) && (knows_serials c.symbols && knows_serials c.wires)) (no-wires s w)
    ∙ ap (λ (b : Bool). b && (knows_serials c.symbols && knows_serials c.wires)) (and_false (knows_serials (range_of s)))

-- ── a wire's block where E_wire is 000, at a class ──
none-exceeds : (c : Digits) → exceeds (digits 0 0) c ≡ false
none-exceeds c = rw (le-ltb c.middle 0 (omega arith), le-ltb c.last 0 (omega arith))

both-none : (c : Digits) → both c (digits 0 0) ≡ digits 0 0
both-none c = let p : min c.middle 0 ≡ 0 = omega arith in let q : min c.last 0 ≡ 0 = omega arith in ap₂ digits p q

-- what the least range has, every class knows
reaches-least : (c l : Digits) → reaches (digits 0 0) l ≡ true → reaches c l ≡ true
reaches-least c l e =
    let p = leb-true l.middle 0 (and_left (leb l.middle 0) _ e) in
    let q = leb-true l.last 0 (and_right (leb l.middle 0) _ e) in
    and_true _ _ (le-leb l.middle c.middle (omega (arith, p))) (le-leb l.last c.last (omega (arith, q)))

no-free : all (λ r. not (is_free r.holds)) wire_table ≡ true
unfolding wire_table
no-free = refl

module _ (e : Env) (l : Line) (s : Set) (z : wires_of s ≡ digits 0 0) (k : ℕ) (fs : List Figure) (n : ℕ) (w : Wire) where
  abbrev Acts : Act → Got State
  Acts a = on_wire_act e l s k fs n w a

  abbrev row_acts : ℕ → Rule → Rest → Digits → Act
  row_acts j r x d = act_row (known_of s) d (get_or (wire_full w) j false) j r x

  unknown-is : (key : List ℕ) (x : Rest) → on_wire_unknown e l s k fs n w key x ≡ Acts (act_unknown x)
  unknown-is key x = pick_false (exceeds (wires_of s) e.class.wires) _ _ (ap (λ (d : Digits). exceeds d e.class.wires) z ∙ none-exceeds e.class.wires)

  row-unknown : (j : ℕ) (r : Rule) (x : Rest) → is_free r.holds ≡ false → reaches (wires_of s) r.least ≡ false → row_acts j r x (wires_of s) ≡ act_unknown x
  row-unknown j r x f q = rw (f, q)

  abbrev key_acts : ℕ → Rule → Rest → Got State
  key_acts j r x = cond (is_element_row j && w.past) (Acts (act_unknown x)) (cond (reaches (digits 0 0) r.least) (Acts (row_acts j r x (digits 0 0))) (Acts (act_unknown x)))

  key-is : (key : List ℕ) (x : Rest) {j : ℕ} {r : Rule} → Row wire_table j r → on_wire_key e l s k fs n w key x (found j r) ≡ key_acts j r x
  key-is key x {j} {r} row = ap (λ g. cond (is_element_row j && w.past) (Acts (act_unknown x)) g) (go (reaches (digits 0 0) r.least) refl)
    where
      free : is_free r.holds ≡ false
      free = not-true (is_free r.holds) (row-all (λ r. not (is_free r.holds)) row no-free)

      beyond : reaches (digits 0 0) r.least ≡ false → (b : Bool) → cond b (Acts (row_acts j r x (wires_of s))) (on_wire_unknown e l s k fs n w key x) ≡ Acts (act_unknown x)
      beyond q true = ap Acts (row-unknown j r x free (ap (λ (d : Digits). reaches d r.least) z ∙ q))
      beyond q false = unknown-is key x

      go : (b : Bool) → reaches (digits 0 0) r.least ≡ b
          → cond (reaches e.class.wires r.least) (Acts (row_acts j r x (wires_of s))) (on_wire_unknown e l s k fs n w key x)
          ≡ cond b (Acts (row_acts j r x (digits 0 0))) (Acts (act_unknown x))
      go true q =
          pick_true (reaches e.class.wires r.least) _ _ (reaches-least e.class.wires r.least q) ∙ ap (λ (d : Digits). Acts (row_acts j r x d)) z
      go false q = beyond q (reaches e.class.wires r.least)

  shut-is : on_wire_own e l s k fs n w close ≡ Acts (act (known_of s) wire_table (digits 0 0) (rows_there w.own) close)
  shut-is = ap (λ (d : Digits). Acts (act (known_of s) wire_table d (rows_there w.own) close)) (ap (both e.class.wires) z ∙ both-none e.class.wires)

-- ── the reading ──
module _ (symbols one other : Digits) (m : Option ℕ) where
  abbrev here : Env
  here = record { class = with_wires symbols one; limit = m }

  abbrev there : Env
  there = record { class = with_wires symbols other; limit = m }

  open-same : (l : Line) (s : Set) (k : ℕ) → open_top here l s k ≡ open_top there l s k
  open-same l s zero = refl
  open-same l s (suc zero) = refl
  open-same l s (suc (suc zero)) = refl
  open-same l s (suc (suc (suc k))) = refl

  top-same : (l : Line) (s : Set) (k : ℕ) (f : Form) → is_wired s ≡ false → on_top here l s k f ≡ on_top there l s k f
  top-same l s k ignored w = refl
  top-same l s k (wrong n) w = refl
  top-same l s k close w = refl
  top-same l s k eof w =
      ap (λ (t : Bool). unless (eqb k 4 && (is_nil l.next && l.last)) 9 (unless (layers_used s) 14 (unless (counted_all s) 17 (unless (not t || partners_exist s) 21 (got (ended s))))))
      (untested (with_wires symbols one) s w ∙ sym (untested (with_wires symbols other) s w))
  top-same l s k (keyed key x) w = simp open-same

  layers-same : (l : Line) (s : Set) (d : Drawing) (f : Form) → on_layer_names here l s d f ≡ on_layer_names there l s d f
  layers-same l s d ignored = refl
  layers-same l s d (wrong n) = refl
  layers-same l s d close = refl
  layers-same l s d eof = refl
  layers-same l s d (keyed k x) = refl

  -- a layer's table without the row of wires opens three blocks alone
  abbrev Inner : Home → ℕ → Type 0
  Inner (in_element y) i = Unit {0}
  Inner (in_layer k) i = i < 4

  figure-same : (l : Line) (s : Set) (h : Home) (fs : List Figure) (i : ℕ) → Inner h i → open_figure here l s h fs i ≡ open_figure there l s h fs i
  figure-same l s h fs zero w = refl
  figure-same l s h fs (suc zero) w = refl
  figure-same l s h fs (suc (suc zero)) w = refl
  figure-same l s (in_element y) fs (suc (suc (suc zero))) w = refl
  figure-same l s (in_layer k) fs (suc (suc (suc zero))) w = refl
  figure-same l s (in_element y) fs (suc (suc (suc (suc i)))) w = refl
  figure-same l s (in_layer k) fs (suc (suc (suc (suc i)))) w = absurd (omega (arith, w))

  few-blocks : (single wires : Bool) → wires ≡ false → all (λ r. ltb (inner_of r.holds) 4) (layer_table single wires) ≡ true
  unfolding layer_table
  few-blocks true false e = refl
  few-blocks false false e = refl
  few-blocks single true e = clash refl e

  opened-inner : (s : Set) (h : Home) {full : List Bool} {i j : ℕ} → is_wired s ≡ false → Begun (home_table s h) full i j → Inner h i
  opened-inner s (in_element y) w b = tt
  opened-inner s (in_layer k) {i = i} w b =
      let inner = ltb-true (inner_of b.rule.holds) 4 (row-all (λ r. ltb (inner_of r.holds) 4) b.row (few-blocks (is_single s) (is_wired s) w)) in
      rw (← b.inner) inner

  opened-same : (st : State) (en : ℕ → Value → Got State) (op op' : ℕ → ℕ → Value → Got State) (cl : Got State) (a : Act)
      → ((i j : ℕ) (v : Value) → a ≡ begin i j v → op i j v ≡ op' i j v) → by_act st en op (λ _. cl) a ≡ by_act st en op' (λ _. cl) a
  opened-same st en op op' cl stay h = refl
  opened-same st en op op' cl (entry j v) h = refl
  opened-same st en op op' cl (begin i j v) h = h i j v refl
  opened-same st en op op' cl shut h = refl
  opened-same st en op op' cl (refuse n) h = refl

  figures-same : (l : Line) (s : Set) (h : Home) (fs : List Figure) (f : Form) → is_wired s ≡ false → on_figures here l s h fs f ≡ on_figures there l s h fs f
  figures-same l s h fs f w =
      opened-same _ _ _ _ _ (act (known_of s) (home_table s h) (range_of s) (rows_at_limit 0 (home_table s h)) f)
      λ i j v q. figure-same l s h fs i (opened-inner s h w (act-begin (known_of s) (home_table s h) (range_of s) (rows_at_limit 0 (home_table s h)) f q))

  key-same : (s : Set) (k : ℕ) (fs : List Figure) (n : ℕ) (o : Held) (key : List ℕ) (x : Rest) (f : Found)
      → on_placed_key here s k fs n o key x f ≡ on_placed_key there s k fs n o key x f
  key-same s k fs n o key x absent = refl
  key-same s k fs n o key x (found j r) = refl

  placing-same : (s : Set) (k : ℕ) (fs : List Figure) (n : ℕ) (o : Held) (p : ℕ) (f : Form) → on_placing here s k fs n o p f ≡ on_placing there s k fs n o p f
  placing-same s k fs n o zero ignored = refl
  placing-same s k fs n o zero (wrong i) = refl
  placing-same s k fs n o zero close = refl
  placing-same s k fs n o zero eof = refl
  placing-same s k fs n o zero (keyed key x) = key-same s k fs n o key x (find key placed_table)
  placing-same s k fs n o (suc p) f = refl

  wire-key-same : (l : Line) (s : Set) (k : ℕ) (fs : List Figure) (n : ℕ) (w : Wire) (key : List ℕ) (x : Rest) (f : Found) → find key wire_table ≡ f → wires_of s ≡ digits 0 0
      → on_wire_key here l s k fs n w key x f ≡ on_wire_key there l s k fs n w key x f
  wire-key-same l s k fs n w key x absent q z = unknown-is here l s z k fs n w key x ∙ sym (unknown-is there l s z k fs n w key x)
  wire-key-same l s k fs n w key x (found j r) q z =
      let row = (found-row key wire_table j r q).0 in
      key-is here l s z k fs n w key x row ∙ sym (key-is there l s z k fs n w key x row)

  wire-same : (l : Line) (s : Set) (k : ℕ) (fs : List Figure) (n : ℕ) (w : Wire) (p : ℕ) (f : Form) → wires_of s ≡ digits 0 0
      → on_wire here l s k fs n w p f ≡ on_wire there l s k fs n w p f
  wire-same l s k fs n w zero ignored z = refl
  wire-same l s k fs n w zero (wrong i) z = refl
  wire-same l s k fs n w zero close z = shut-is here l s z k fs n w ∙ sym (shut-is there l s z k fs n w)
  wire-same l s k fs n w zero eof z = refl
  wire-same l s k fs n w zero (keyed key x) z = wire-key-same l s k fs n w key x (find key wire_table) refl z
  wire-same l s k fs n w (suc p) f z = refl

  -- one line, in whichever block is open
  in-same : (l : Line) (st : State) → is_wired (set_of st) ≡ false → step_in here l st ≡ step_in there l st
  in-same l (top s k) w = top-same l s k l.form w
  in-same l (file s n h p) w = refl
  in-same l (drawing s d) w = refl
  in-same l (layer_names s d) w = layers-same l s d l.form
  in-same l (defines s b) w = refl
  in-same l (symbol s y) w = refl
  in-same l (hide s y ps) w = refl
  in-same l (elements s) w = refl
  in-same l (figures s h fs) w = figures-same l s h fs l.form w
  in-same l (successive s h fs n ps) w = refl
  in-same l (texts s h fs n o) w = refl
  in-same l (placing s k fs n (symbol_block o) p) w = placing-same s k fs n o p l.form
  in-same l (placing s k fs n (wire_block x) p) w = wire-same l s k fs n x p l.form (no-wires s w)
  in-same l (placing s k fs n wire_unread p) w = refl
  in-same l (skipping s k fs n b d) w = refl
  in-same l (ended s) w = refl

  step_same : (l : Line) (st : State) → is_wired (set_of st) ≡ false → step here l st ≡ step there l st
  step_same l st w = rw (in-same l st w)

  run-same : (ls : List Line) (st : State) → Settled st → is_wired (read_up_to here st ls) ≡ false → run here st ls ≡ run there st ls
  run-same [] st i h = refl
  run-same (l ∷ ls) st i h =
      go (step here l st) refl (run-same ls) h ∙ ap (λ g. then_run g l (λ st'. run there st' ls)) (step_same l st (none_before here st (l ∷ ls) i h))
    where
      go : (g : Got State) → step here l st ≡ g → ((st' : State) → Settled st' → is_wired (read_up_to here st' ls) ≡ false → run here st' ls ≡ run there st' ls)
          → is_wired (go_on g (set_of st) (λ st'. read_up_to here st' ls)) ≡ false → then_run g l (λ st'. run here st' ls) ≡ then_run g l (λ st'. run there st' ls)
      go (got st') q ih h = ih st' (settled_on here l st st' i q).0 h
      go (bad k) q ih h = refl

  volumes-same : (o : Option (List Volume)) → is_wired (set_of_volumes here o) ≡ false → outcome_of_volumes here o ≡ outcome_of_volumes there o
  volumes-same None h = refl
  volumes-same (Some vs) h = go (list_volumes 1 vs) h
    where
      go : (l : Listed) → is_wired (set_of_lines here l) ≡ false → outcome_of_lines here l ≡ outcome_of_lines there l
      go (listed ls) h = run-same ls (top nothing_yet 0) (λ _. nothing-wired) h
      go (no_lines v) h = refl

  volumes-read : (o : Option (List Volume)) (s : Set) → outcome_of_volumes here o ≡ accepted s → set_of_volumes here o ≡ s
  volumes-read None s q = not-accepted q
  volumes-read (Some vs) s q = go (list_volumes 1 vs) q
    where
      go : (l : Listed) → outcome_of_lines here l ≡ accepted s → set_of_lines here l ≡ s
      go (listed ls) q = whole-read here (top nothing_yet 0) ls s q
      go (no_lines v) q = not-accepted q

-- ── the records ──
-- none of a wire's attributes that have a state is there where E_wire is 000
abbrev shown_later : Rule → Bool
shown_later r = eqb r.state 0 || not (reaches (digits 0 0) r.least)

later_rows : all shown_later wire_table ≡ true
unfolding wire_table
later_rows = refl

unread-same : (one other : Digits) (rs : List Rule) (t : List ℤ) → all shown_later rs ≡ true → mark_unread one (digits 0 0) rs t ≡ mark_unread other (digits 0 0) rs t
unread-same one other [] t e = refl
unread-same one other (r ∷ rs) t e =
    let rest = unread-same one other rs t (and_right (shown_later r) _ e) in
    go r.state (and_left (shown_later r) _ e) ∙ ap (unread_state r.state (hides other (digits 0 0) r.least)) rest
  where
    go : (q : ℕ) → (eqb q 0 || not (reaches (digits 0 0) r.least)) ≡ true
        → unread_state q (hides one (digits 0 0) r.least) (mark_unread one (digits 0 0) rs t) ≡ unread_state q (hides other (digits 0 0) r.least) (mark_unread one (digits 0 0) rs t)
    go zero h = refl
    go (suc q) h = rw (not-true (reaches (digits 0 0) r.least) (rw (ne_eqb (suc q) 0 (λ p. omega (arith, p))) at h))

module _ (symbols one other : Digits) where
  module _ (d : Digits) (range : ℕ) (z : range ≡ 0) (t : List Rule) where
    abbrev view : Digits → View
    view wires = record { class = with_wires symbols wires; symbols = d; wires = range; table = t }

    wire-shown : (x : Wire) (u : List ℤ) → wire_values (view one) x u ≡ wire_values (view other) x u
    wire-shown x u =
        let v = wire_numbers range (length x.elements) (put_groups shelves x.groups (put_texts x.texts (put_slots wire_table x.own u))) in
        let None : digits_of range ≡ digits 0 0 = ap digits_of z in
        ap (λ (i : Digits). mark_unread one i wire_table v) None ∙ unread-same one other wire_table v later_rows ∙ ap (λ (i : Digits). mark_unread other i wire_table v) (sym None)

    shown-same : (owner volume : ℕ) (f : Figure) → figure_records (view one) 0 owner volume f ≡ figure_records (view other) 0 owner volume f
    shown-same owner volume (plain n j v) = refl
    shown-same owner volume (chain n ps) = refl
    shown-same owner volume (lettering n s) = refl
    shown-same owner volume (placed n h) = refl
    shown-same owner volume (wired n x) = ap (λ u. two_of u ++ edge_records owner volume x.elements) (wire-shown x (wire_start owner volume n))
    shown-same owner volume (passed n) = refl

    block_same : (k : ℕ) (u : LayerBlock) → block_records (view one) k u ≡ block_records (view other) k u
    block_same k u = ap flat (map-agree (figure_records (view one) 0 u.layer k) (figure_records (view other) 0 u.layer k) (shown-same u.layer k) u.figures)

    body_same : (k : ℕ) (v : Contents) → body_records (view one) k v ≡ body_records (view other) k v
    body_same k v = ap flat (map-agree (block_records (view one) k) (block_records (view other) k) (block_same k) v.blocks)

    later_same : (k : ℕ) (vs : List Contents) → later_records (view one) k vs ≡ later_records (view other) k vs
    later_same k [] = refl
    later_same k (v ∷ vs) = rw (body_same k v, later_same (suc k) vs)

  records-same : (s : Set) → is_wired s ≡ false → records_of (with_wires symbols one) s ≡ records_of (with_wires symbols other) s
  unfolding records_of
  records-same s w = go s.volumes
    where
      go : (vs : List Contents) → records_from (with_wires symbols one) s vs ≡ records_from (with_wires symbols other) s vs
      go [] = refl
      go (v ∷ vs) =
          rw (
            body_same (range_of s) (wire_range s) (no-range s w) (layer_table_of s) 1 v,
            later_same (range_of s) (wire_range s) (no-range s w) (layer_table_of s) 2 vs,
          )

-- ── two classes of one number ──
data Alike : Option Class → Option Class → Type 0 where
  neither : Alike None None
  each : (symbols one other : Digits) → Alike (Some (with_wires symbols one)) (Some (with_wires symbols other))

alike : (class one other : ℕ) → is_wire_part one ≡ true → is_wire_part other ≡ true → Alike (class_of class one) (class_of class other)
unfolding class_of
alike class one other p q = rw (p, q) (go (is_symbol_part class))
  where
    go : (b : Bool) → Alike (cond (b && true) (Some (with_wires (digits_of class) (digits_of one))) None) (cond (b && true) (Some (with_wires (digits_of class) (digits_of other))) None)
    go true = each (digits_of class) (digits_of one) (digits_of other)
    go false = neither

at_same : {c c' : Option Class} → Alike c c' → (m : ℕ) (spool : List ℕ) → is_wired (set_at c m spool) ≡ false → outcome_at c (Some m) spool ≡ outcome_at c' (Some m) spool
unfolding outcome_of
at_same neither m spool h = refl
at_same (each symbols one other) m spool h = volumes-same symbols one other (Some m) (volumes_of spool) h

read_at : {c c' : Option Class} → Alike c c' → (m : ℕ) (spool : List ℕ) (s : Set) → outcome_at c (Some m) spool ≡ accepted s → set_at c m spool ≡ s
unfolding outcome_of
read_at neither m spool s q = not-accepted q
read_at (each symbols one other) m spool s q = volumes-read symbols one other (Some m) (volumes_of spool) s q

taken-same : {c c' : Option Class} → Alike c c' → (o : Outcome) → ((s : Set) → o ≡ accepted s → is_wired s ≡ false) → records_in (class_or c) o ≡ records_in (class_or c') o
taken-same neither o h = refl
taken-same (each symbols one other) (refused n v l) h = refl
taken-same (each symbols one other) (accepted s) h = records-same symbols one other s (h s refl)

-- ── the answers ──
module _ (class one other : ℕ) (p : is_wire_part one ≡ true) (q : is_wire_part other ≡ true) (len : ℕ) (spool : List ℕ) where
  set-read : (s : Set) → read_outcome class one len spool ≡ accepted s → set_read class one len spool ≡ s
  unfolding read_outcome
  set-read s e = read_at (alike class one other p q) (len / width) spool s e

  module _ (h : is_wired (set_read class one len spool) ≡ false) where
    outcome-same : read_outcome class one len spool ≡ read_outcome class other len spool
    unfolding read_outcome
    outcome-same = at_same (alike class one other p q) (len / width) spool h

    read_same : read_records class one len spool ≡ read_records class other len spool
    unfolding read_records
    read_same =
        taken-same (alike class one other p q) (read_outcome class one len spool) (λ s e. ap is_wired (sym (set-read s e)) ∙ h) ∙ ap (records_in (class_or (class_of class other))) outcome-same

    answer-same : read_answer class one len spool ≡ read_answer class other len spool
    unfolding read_answer
    answer-same = rw (read_same, outcome-same)

    table_same : read_table class one len spool ≡ read_table class other len spool
    unfolding read_table
    table_same = rw read_same

    all_same : SameRead class one other len spool
    all_same = record { answer = answer-same; records = read_same; table = table_same }

unwired : (s : Set) → wire_range s ≡ 0 → is_wired s ≡ false
unwired s e = rw e

pub wire-parts : WireParts
wire-parts = record {
  so_far = λ class one other p q len spool h. all_same class one other p q len spool (unwired (set_read class one len spool) h);
  whole = λ class one other p q len spool set e w. all_same class one other p q len spool (ap is_wired (set-read class one other p q len spool set e) ∙ unwired set w);
}
