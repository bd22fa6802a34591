-- The file's E_wire is that of the first volume's FILE_FORMAT, and stays: where the set is read further without a wire's range, none was there
-- before.
use Rattle.std.specs.Prelude.{Some}
use Prim.Native.Nat.{ℕ, zero, suc}
use mathlib.Core.Bool.{Bool, true, false, cond, ◌&&◌, ◌||◌, not}
use mathlib.Core.List.{List, [], ◌∷◌, ◌++◌}
use mathlib.Core.Path.{◌≡◌, refl, sym, ap, subst}
use lib.Dec.{eqb, leb, ltb}
use lib.ListN.{length, get_or, set}
use borrow.Author.Tests.{eqb-true}
use Rattle.rules.specs.Base.{is_nil, has_number}
use Rattle.rules.specs.RefusalNumbers.{Got, got, bad, also}
use Rattle.rules.specs.Lines.{Rest, Form, ignored, wrong, close, eof, keyed}
use Rattle.rules.specs.RangeClass.{digits, digits_of, reaches, exceeds, both, knows_wires, skip_of, most_depth}
use Rattle.rules.specs.Values.{amount_at}
use Rattle.rules.specs.Rows.{Found, absent, found, find, Slots, Held, part_of, number_of, rows_there, rows_at_limit, Act, act_row, act_unknown, act, complete}
use Rattle.rules.specs.Blocks.{top_table, file_tables, elec_table, drawing_table, defines_table, symbol_table, element_table}
use Rattle.rules.specs.Figures.{point_table, text_table, placed_table, placed_tables, least_points}
use Rattle.rules.specs.Sets.{Point, Wire, Figure, Drawing, Symbol, Contents, Set, head_or, symbol_own, is_first, is_wired, arc_of, range_of, define_range, join_digit, known_of, used_in}
use Rattle.rules.specs.VolumesAndTotals.{chained, dated, counted_here}
use Rattle.rules.specs.Machine.{Line, Env, Home, in_element, in_layer, State, top, file, drawing, layer_names, defines, symbol, hide, elements, figures, successive, texts, placing, skipping, ended, set_of, symbol_block, wire_block, wire_unread, Owned, begin_wire, open_top, on_top, close_file, on_file, on_drawing, on_layer_names, new_name, open_symbol, on_symbol, on_defines, on_hide, on_elements, is_layer, home_table, close_figures, open_figure, on_figures, on_successive, on_texts, file_kinds}
use Rattle.rules.specs.PlacedSymbol.{on_unknown, new_serial, on_placed, on_placed_key, on_placing, skip_shut, on_skipping}
use Rattle.rules.specs.Wires.{joined, joins_ends, last_edge, on_wire}
use Rattle.rules.specs.LineByLine.{step_in, is_ignored, is_close, is_eof, completes, next_volume, step, accepted, then_run, run}
use Rattle.rules.proofs.Chains.{and_false, clash, by_cond, cond_same, On, on-unless, on-cond, on-map, on-also, on-got, nil-snoc}
use Rattle.promises.proofs.ClosedActs.{on-by_act}
use Rattle.rules.proofs.OnActs.{on-layers, on-taking, on-shut, on_skip}
use Rattle.rules.proofs.Runs.{not-accepted, finish-ended, head-snoc, head-file}
use Rattle.promises.specs.WireParts.{go_on, read_up_to}
use Rattle.promises.proofs.Count.{both_left, closing, on-close}
use Rattle.promises.proofs.OnEof.{on-eof}
use Rattle.promises.proofs.OnWires.{on-wire}

-- E_wire of a FILE_FORMAT isn't 000
abbrev wired_file : Held → Bool
wired_file h = not (eqb (number_of "E_wire" elec_table (part_of h 3)) 0)

-- ── what is kept ──
-- before the first FILE_FORMAT closes there is no E_wire; behind a closed ELEMENT the volume is not the first any more
abbrev Unread : Set → Type 0
Unread s = is_first s ≡ true → is_wired s ≡ false

abbrev TopSettled : Set → ℕ → Type 0
TopSettled s zero = Unread s
TopSettled s (suc zero) = Unit {0}
TopSettled s (suc (suc zero)) = Unit {0}
TopSettled s (suc (suc (suc zero))) = Unit {0}
TopSettled s (suc (suc (suc (suc k)))) = is_first s ≡ false

abbrev pub Settled : State → Type 0
Settled (top s k) = TopSettled s k
Settled (file s n h p) = Unread s
Settled (drawing s d) = Unit {0}
Settled (layer_names s d) = Unit {0}
Settled (defines s b) = Unit {0}
Settled (symbol s y) = Unit {0}
Settled (hide s y ps) = Unit {0}
Settled (elements s) = Unit {0}
Settled (figures s h fs) = Unit {0}
Settled (successive s h fs n ps) = Unit {0}
Settled (texts s h fs n o) = Unit {0}
Settled (placing s k fs n b p) = Unit {0}
Settled (skipping s k fs n b d) = Unit {0}
Settled (ended s) = Unit {0}

-- one set without a wire's range, and another before it
abbrev Back : Set → Set → Type 0
Back s s' = is_wired s' ≡ false → is_wired s ≡ false

-- from a set to a state
abbrev From : Set → State → Type 0
From s st = Settled st × Back s (set_of st)

-- E_wire as before
as_before : {A : Type 0} → A → A
as_before a = a

-- ── the set, where one thing of it changes ──
by-file : (h g : Held) → h ≡ g → wired_file h ≡ false → wired_file g ≡ false
by-file h g e = subst (λ (f : Held). wired_file f ≡ false) e

later-file : (v w : Contents) (vs : List Contents) → is_nil vs ≡ false → (head_or v vs).file ≡ (head_or w vs).file
later-file v w [] e = clash refl e
later-file v w (u ∷ us) e = refl

volume-back : (s : Set) → (head_or s.now (s.volumes ++ s.now ∷ [])).file ≡ (head_or s.now s.volumes).file
volume-back s = ap (λ (c : Contents). c.file) (head-snoc s.now s.now s.volumes)

past_first : (s : Set) (k : ℕ) → eqb k 4 ≡ true → TopSettled s k → is_first s ≡ false
past_first s k q i = subst (λ (m : ℕ). TopSettled s m → is_first s ≡ false) (sym (eqb-true k 4 q)) (λ i. i) i

-- ── each line keeps it so ──
module _ (e : Env) (l : Line) (s : Set) where
  abbrev P : State → Type 0
  P = From s

  range_open : (k : ℕ) → TopSettled s k → On P (open_top e l s k)
  range_open zero i = on-taking P e (length (file_kinds (is_first s))) s _ λ _. (i, as_before)
  range_open (suc zero) i = on-taking P e 1 s _ λ _. (tt, as_before)
  range_open (suc (suc zero)) i = (tt, as_before)
  range_open (suc (suc (suc k))) i = (tt, as_before)

  range-top : (k : ℕ) (f : Form) → TopSettled s k → On P (on_top e l s k f)
  range-top k ignored i = (i, as_before)
  range-top k (wrong n) i = tt
  range-top k close i = tt
  range-top k eof i = on-eof P e l s k (λ _. (tt, as_before))
  range-top k (keyed key c) i =
      on-by_act P _ _ _ _ (act (known_of s) top_table (digits 0 0) (rows_at_limit 0 top_table) (keyed key c)) (i, as_before) (λ j v. tt)
      (λ m j v b. on-unless P (eqb j k) 9 _ λ q. rw (eqb-true j k q) (range_open k i)) tt

  range-closed : (n : ℕ) (h : Held) → Unread s → On P (close_file l s n h)
  range-closed n h i =
      let v : Contents = record { line = n; file = h; blocks = [] } in
      on-unless P (chained (is_first s) l.next h && dated s (is_first s) h) 16 _ λ _.
      by_cond (λ k. P (top (record { drawing = s.drawing; symbols = s.symbols; volumes = s.volumes; now = v; taken = s.taken }) k)) (is_first s)
      (λ q. (tt, λ _. i q))
      (λ q. (tt, by-file _ _ (later-file v s.now s.volumes q)))

  range-file : (n : ℕ) (h : Held) (p : ℕ) (f : Form) → Unread s → On P (on_file l s n h p f)
  range-file n h p f i =
      on-by_act P _ _ _ _ (act (known_of s) (get_or (file_tables (is_first s)) p []) (digits 0 0) (rows_there (part_of h p)) f) (i, as_before) (λ j v. (i, as_before)) (λ m j v b. (i, as_before))
      (on-shut P p _ _ (range-closed n h i) (λ q. (i, as_before)))

  range-drawing : (d : Drawing) (f : Form) → On P (on_drawing s d f)
  range-drawing d f = on-by_act P _ _ _ _ (act (known_of s) drawing_table (digits_of (arc_of s)) (rows_there d.own) f) (tt, as_before) (λ j v. (tt, as_before)) (λ m j v b. (tt, as_before)) (tt, as_before)

  range-layers : (d : Drawing) (f : Form) → On P (on_layer_names e l s d f)
  range-layers d f = on-layers P e l s d f (tt, as_before) (tt, as_before) λ k v _. (tt, as_before)

  range-defines : (non : Bool) (f : Form) → On P (on_defines e l s non f)
  range-defines non f =
      on-by_act P _ _ _ _ (act (known_of s) defines_table (digits_of (define_range s)) (non ∷ false ∷ []) f) (tt, as_before)
      (λ j v. on-unless P (is_nil s.symbols) 6 _ λ _. (tt, as_before))
      (λ m j v b. on-unless P (not non) 6 _ λ _. on-taking P e 1 s _ λ _. (tt, as_before))
      (on-unless P (non || not (is_nil s.symbols)) 8 _ λ _. (tt, as_before))

  range_open-symbol : (y : Symbol) (m : ℕ) → On P (open_symbol s y m)
  range_open-symbol y zero = tt
  range_open-symbol y (suc zero) = (tt, as_before)
  range_open-symbol y (suc (suc m)) = (tt, as_before)

  range-symbol : (y : Symbol) (f : Form) → On P (on_symbol s y f)
  range-symbol y f =
      on-by_act P _ _ _ _ (act (known_of s) symbol_table (digits_of (define_range s)) (rows_there y.own) f) (tt, as_before)
      (λ j v. on-unless P (new_name s (symbol_own (set y.own j (Some v)) y)) 15 _ λ _. (tt, as_before))
      (λ m j v b. range_open-symbol (symbol_own (set y.own j (Some v)) y) m)
      (tt, as_before)

  range-hide : (y : Symbol) (ps : List Point) (f : Form) → On P (on_hide e l s y ps f)
  range-hide y ps f =
      on-by_act P _ _ _ _ (act (known_of s) (point_table false) (digits 0 0) (rows_at_limit (length ps) (point_table false)) f) (tt, as_before)
      (λ j v. on-taking P e 1 s _ λ _. (tt, as_before)) (λ m j v b. tt) (tt, as_before)

  range-elements : (f : Form) → On P (on_elements s f)
  range-elements f =
      on-by_act P _ _ _ _ (act (known_of s) element_table (digits 0 0) (rows_at_limit 0 element_table) f) (tt, as_before) (λ j v. tt)
      (λ m j v b. on-unless P (not (has_number (amount_at v 0) (used_in s.now))) 14 _ λ _. (tt, as_before))
      (on-unless P (counted_here s) 17 _ λ _. (nil-snoc s.volumes s.now, by-file _ _ (volume-back s)))

  range-close : (h : Home) (fs : List Figure) → On P (close_figures s h fs)
  range-close (in_element y) fs = on-unless P (not (is_nil fs)) 8 _ λ _. (tt, as_before)
  range-close (in_layer k) fs =
      (tt, by-file _ _ (head-file (record { line = s.now.line; file = s.now.file; blocks = s.now.blocks ++ record { layer = k; figures = fs } ∷ [] }) s.now s.volumes refl))

  range-begin : (b : Bool) (t : Set) (k : ℕ) (fs : List Figure) (n : ℕ) → Back s t → P (begin_wire b t k fs n)
  range-begin true t k fs n h = (tt, h)
  range-begin false t k fs n h = (tt, h)

  range_open-figure : (h : Home) (fs : List Figure) (m : ℕ) → On P (open_figure e l s h fs m)
  range_open-figure h fs zero = tt
  range_open-figure h fs (suc zero) = on-taking P e 1 s _ λ _. (tt, as_before)
  range_open-figure h fs (suc (suc zero)) = on-taking P e 1 s _ λ _. (tt, as_before)
  range_open-figure (in_element y) fs (suc (suc (suc zero))) = tt
  range_open-figure (in_layer k) fs (suc (suc (suc zero))) = on-taking P e 1 s _ λ _. (tt, as_before)
  range_open-figure (in_element y) fs (suc (suc (suc (suc m)))) = tt
  range_open-figure (in_layer k) fs (suc (suc (suc (suc m)))) = on-taking P e 2 s _ λ _. range-begin (knows_wires e.class) _ k fs l.line as_before

  range-figures : (h : Home) (fs : List Figure) (f : Form) → On P (on_figures e l s h fs f)
  range-figures h fs f =
      on-by_act P _ _ _ _ (act (known_of s) (home_table s h) (range_of s) (rows_at_limit 0 (home_table s h)) f) (tt, as_before)
      (λ j v. on-taking P e 1 s _ λ _. (tt, as_before)) (λ m j v b. range_open-figure h fs m) (range-close h fs)

  range-successive : (h : Home) (fs : List Figure) (n : ℕ) (ps : List Point) (f : Form) → On P (on_successive e l s h fs n ps f)
  range-successive h fs n ps f =
      on-by_act P _ _ _ _ (act (known_of s) (point_table (is_layer h)) (digits 0 0) (rows_at_limit (length ps) (point_table (is_layer h))) f) (tt, as_before)
      (λ j v. on-taking P e 1 s _ λ _. (tt, as_before)) (λ m j v b. tt) (on-unless P (leb least_points (length ps)) 8 _ λ _. (tt, as_before))

  range-texts : (h : Home) (fs : List Figure) (n : ℕ) (o : Slots) (f : Form) → On P (on_texts s h fs n o f)
  range-texts h fs n o f =
      on-by_act P _ _ _ _ (act (known_of s) (text_table (is_layer h) 4 12) (digits 0 0) (rows_there o) f) (tt, as_before) (λ j v. (tt, as_before)) (λ m j v b. tt) (tt, as_before)

  range-placed : (k : ℕ) (fs : List Figure) (n : ℕ) (o : Held) (p : ℕ) (a : Act) → On P (on_placed s k fs n o p a)
  range-placed k fs n o p a =
      on-by_act P _ _ _ _ a (tt, as_before) (λ j v. on-unless P (new_serial s fs v) 15 _ λ _. (tt, as_before)) (λ m j v b. (tt, as_before))
      (on-shut P p _ _ (tt, as_before) (λ q. (tt, as_before)))

  range-unknown : (k : ℕ) (fs : List Figure) (n : ℕ) (o : Held) (key : List ℕ) (c : Rest) → On P (on_unknown e s k fs n o key c)
  range-unknown k fs n o key c =
      on-cond P (exceeds (range_of s) e.class.symbols) _ _
      (λ _. on_skip P (skip_of key c) _ _ (tt, as_before) (tt, as_before))
      (λ _. on-by_act P _ _ _ _ (act_unknown c) (tt, as_before) (λ j v. tt) (λ m j v b. tt) tt)

  range-key : (k : ℕ) (fs : List Figure) (n : ℕ) (o : Held) (key : List ℕ) (c : Rest) (f : Found) → On P (on_placed_key e s k fs n o key c f)
  range-key k fs n o key c absent = range-unknown k fs n o key c
  range-key k fs n o key c (found j r) =
      on-cond P (reaches e.class.symbols r.least) _ _
      (λ _. range-placed k fs n o 0 (act_row (known_of s) (range_of s) (get_or (rows_there (part_of o 0)) j false) j r c))
      (λ _. range-unknown k fs n o key c)

  range-placing : (k : ℕ) (fs : List Figure) (n : ℕ) (o : Held) (p : ℕ) (f : Form) → On P (on_placing e s k fs n o p f)
  range-placing k fs n o zero ignored = (tt, as_before)
  range-placing k fs n o zero (wrong m) = tt
  range-placing k fs n o zero close = range-placed k fs n o 0 (act (known_of s) placed_table (both e.class.symbols (range_of s)) (rows_there (part_of o 0)) close)
  range-placing k fs n o zero eof = tt
  range-placing k fs n o zero (keyed key c) = range-key k fs n o key c (find key placed_table)
  range-placing k fs n o (suc p) f = range-placed k fs n o (suc p) (act (known_of s) (get_or placed_tables (suc p) []) (digits 0 0) (rows_there (part_of o (suc p))) f)

  range-wire : (k : ℕ) (fs : List Figure) (n : ℕ) (w : Wire) (p : ℕ) (f : Form) → On P (on_wire e l s k fs n w p f)
  range-wire k fs n w p f =
      on-wire P e l s k fs n w
      (record {
        other = λ gs ts o b q. (tt, as_before);
        element = λ row v _. on-unless P (joined (joins_ends (join_digit s)) (last_edge w.elements) row v) 11 _ λ _. on-taking P e 1 s _ λ _. (tt, as_before);
        once = λ j v r q. (tt, as_before);
        shut = (tt, as_before);
        skipped = (tt, as_before);
      })
      p f

  range-shut : (k : ℕ) (fs : List Figure) (n : ℕ) (b : Owned) (d : ℕ) → On P (skip_shut s k fs n b d)
  range-shut k fs n (symbol_block o) zero = tt
  range-shut k fs n (wire_block w) zero = tt
  range-shut k fs n wire_unread zero = (tt, as_before)
  range-shut k fs n (symbol_block o) (suc zero) = (tt, as_before)
  range-shut k fs n (wire_block w) (suc zero) = (tt, as_before)
  range-shut k fs n wire_unread (suc zero) = (tt, as_before)
  range-shut k fs n b (suc (suc d)) = (tt, as_before)

  range-skipping : (k : ℕ) (fs : List Figure) (n : ℕ) (b : Owned) (d : ℕ) (f : Form) → On P (on_skipping s k fs n b d f)
  range-skipping k fs n b d ignored = (tt, as_before)
  range-skipping k fs n b d (wrong m) = tt
  range-skipping k fs n b d close = range-shut k fs n b d
  range-skipping k fs n b d eof = tt
  range-skipping k fs n b d (keyed key c) = on_skip P (skip_of key c) _ _ (tt, as_before) (on-unless P (ltb d most_depth) 18 _ λ _. (tt, as_before))

  -- ── the last line of a volume, which completes it ──
  abbrev Anew : State → Type 0
  Anew st = From s (next_volume st)

  last-top : (k : ℕ) (f : Form) → cond (is_nil l.next) (eqb k 4 && is_eof f) (eqb k 4 && is_ignored f) ≡ true → TopSettled s k → On Anew (on_top e l s k f)
  last-top k ignored q i = (λ f. clash f (past_first s k (both_left (is_nil l.next) (eqb k 4) false true q) i), as_before)
  last-top k (wrong n) q i = tt
  last-top k close q i = tt
  last-top k eof q i = on-eof Anew e l s k (λ _. (tt, as_before))
  last-top k (keyed key c) q i = clash q (rw (and_false (eqb k 4)) (cond_same (is_nil l.next) false))

  last-element : (f : Form) → is_close f ≡ true → On Anew (on_elements s f)
  last-element ignored q = clash q refl
  last-element (wrong n) q = clash q refl
  last-element close q =
      on-close Anew _ _ _ _ (complete (digits 0 0) element_table (rows_at_limit 0 element_table))
      (on-unless Anew (counted_here s) 17 _ λ _. (λ f. clash f (nil-snoc s.volumes s.now), by-file _ _ (volume-back s)))
  last-element eof q = clash q refl
  last-element (keyed key c) q = clash q refl

module _ (e : Env) (l : Line) where
  range_in_lem : (st : State) → Settled st → On (From (set_of st)) (step_in e l st)
  range_in_lem (top s k) i = range-top e l s k l.form i
  range_in_lem (file s n h p) i = range-file e l s n h p l.form i
  range_in_lem (drawing s d) i = range-drawing e l s d l.form
  range_in_lem (layer_names s d) i = range-layers e l s d l.form
  range_in_lem (defines s b) i = range-defines e l s b l.form
  range_in_lem (symbol s y) i = range-symbol e l s y l.form
  range_in_lem (hide s y ps) i = range-hide e l s y ps l.form
  range_in_lem (elements s) i = range-elements e l s l.form
  range_in_lem (figures s h fs) i = range-figures e l s h fs l.form
  range_in_lem (successive s h fs n ps) i = range-successive e l s h fs n ps l.form
  range_in_lem (texts s h fs n o) i = range-texts e l s h fs n o l.form
  range_in_lem (placing s k fs n (symbol_block o) p) i = range-placing e l s k fs n o p l.form
  range_in_lem (placing s k fs n (wire_block w) p) i = range-wire e l s k fs n w p l.form
  range_in_lem (placing s k fs n wire_unread p) i = tt
  range_in_lem (skipping s k fs n b d) i = range-skipping e l s k fs n b d l.form
  range_in_lem (ended s) i = tt

  range_last : (st : State) → completes l st ≡ true → Settled st → On (λ st'. From (set_of st) (next_volume st')) (step_in e l st)
  range_last (top s k) q i = last-top e l s k l.form q i
  range_last (file s n h p) q i = clash q (cond_same (is_nil l.next) false)
  range_last (drawing s d) q i = clash q (cond_same (is_nil l.next) false)
  range_last (layer_names s d) q i = clash q (cond_same (is_nil l.next) false)
  range_last (defines s b) q i = clash q (cond_same (is_nil l.next) false)
  range_last (symbol s y) q i = clash q (cond_same (is_nil l.next) false)
  range_last (hide s y ps) q i = clash q (cond_same (is_nil l.next) false)
  range_last (elements s) q i = last-element e l s l.form (closing (is_nil l.next) (is_close l.form) q)
  range_last (figures s h fs) q i = clash q (cond_same (is_nil l.next) false)
  range_last (successive s h fs n ps) q i = clash q (cond_same (is_nil l.next) false)
  range_last (texts s h fs n o) q i = clash q (cond_same (is_nil l.next) false)
  range_last (placing s k fs n b p) q i = clash q (cond_same (is_nil l.next) false)
  range_last (skipping s k fs n b d) q i = clash q (cond_same (is_nil l.next) false)
  range_last (ended s) q i = tt

  range-step : (st : State) → Settled st → On (From (set_of st)) (step e l st)
  range-step st i =
      on-cond (From (set_of st)) l.last _ _
      (λ _. on-map (From (set_of st)) next_volume (also (completes l st) 9 (step_in e l st))
      (on-also (λ st'. From (set_of st) (next_volume st')) (completes l st) 9 (step_in e l st) (λ q. range_last st q i)))
      (λ _. range_in_lem st i)

  -- a line that goes on
  pub settled_on : (st st' : State) → Settled st → step e l st ≡ got st' → Settled st' × (is_wired (set_of st') ≡ false → is_wired (set_of st) ≡ false)
  settled_on st st' i q = on-got (From (set_of st)) (step e l st) st' (range-step st i) q

-- ── all lines ──
-- without a wire's range at the end, there was none at any line
pub none_before : (e : Env) (st : State) (ls : List Line) → Settled st → is_wired (read_up_to e st ls) ≡ false → is_wired (set_of st) ≡ false
none_before e st [] i h = h
none_before e st (l ∷ ls) i h = go (step e l st) refl (λ st'. none_before e st' ls) h
  where
    go : (g : Got State) → step e l st ≡ g → ((st' : State) → Settled st' → is_wired (read_up_to e st' ls) ≡ false → is_wired (set_of st') ≡ false)
        → is_wired (go_on g (set_of st) (λ st'. read_up_to e st' ls)) ≡ false → is_wired (set_of st) ≡ false
    go (got st') q ih h = let w = settled_on e l st st' i q in w.1 (ih st' w.0 h)
    go (bad n) q ih h = h

-- an accepted set is what is read of it
pub whole-read : (e : Env) (st : State) (ls : List Line) (s : Set) → run e st ls ≡ accepted s → read_up_to e st ls ≡ s
whole-read e st [] s q = ap set_of (finish-ended st s q)
whole-read e st (l ∷ ls) s q = go (step e l st) (λ st'. whole-read e st' ls s) q
  where
    go : (g : Got State) → ((st' : State) → run e st' ls ≡ accepted s → read_up_to e st' ls ≡ s) → then_run g l (λ st'. run e st' ls) ≡ accepted s
        → go_on g (set_of st) (λ st'. read_up_to e st' ls) ≡ s
    go (got st') ih q = ih st' q
    go (bad n) ih q = not-accepted q
