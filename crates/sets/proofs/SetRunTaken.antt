-- A line takes two records at most: so an accepted set has at most two for each of its lines.
use Rattle.std.specs.Prelude.{Some}
use Prim.Native.Nat.{ℕ, zero, suc, ◌+◌, ◌*◌, ◌≤◌}
use mathlib.Core.Bool.{Bool, true, false, ◌&&◌, ◌||◌, not}
use mathlib.Core.List.{List, [], ◌∷◌, map}
use mathlib.Core.Path.{◌≡◌, refl, sym, subst}
use native.Mathlib.Omega.{arith}
use lib.Dec.{eqb, leb, ltb}
use lib.ListN.{length, get_or, set}
use Rattle.rules.specs.Base.{is_nil, among, has_number}
use Rattle.rules.specs.RefusalNumbers.{Got, got, bad, unless, also}
use Rattle.rules.specs.Lines.{Rest, Form, ignored, wrong, close, eof, keyed, free_shape_of}
use Rattle.rules.specs.RangeClass.{digits, digits_of, reaches, exceeds, both, knows_wires, skip_of, most_depth}
use Rattle.rules.specs.Values.{Num, amount_at, is_layer_id}
use Rattle.rules.specs.Rows.{Found, absent, found, find, Slots, Held, part_of, rows_there, rows_at_limit, Act, act_row, act_unknown, act}
use Rattle.rules.specs.Blocks.{top_table, file_tables, drawing_table, most_layers, defines_table, symbol_table, element_table}
use Rattle.rules.specs.Figures.{least_points, point_table, text_table, placed_table, placed_tables}
use Rattle.rules.specs.Sets.{Point, Wire, Figure, Drawing, Symbol, Set, nothing_yet, with_records, symbol_own, is_first, arc_of, range_of, define_range, join_digit, known_of, used_in}
use Rattle.rules.specs.VolumesAndTotals.{chained, dated, counted_here, counted_all, layers_used, partners_exist}
use Rattle.rules.specs.Machine.{Line, Env, Home, in_element, in_layer, State, top, file, drawing, layer_names, defines, symbol, hide, elements, figures, successive, texts, placing, skipping, ended, room_for, open_top, on_top, on_file, on_drawing, layer_value, on_layer_names, new_name, open_symbol, on_symbol, on_defines, on_hide, on_elements, is_layer, home_table, close_figures, open_placed, begin_wire, open_wire, open_figure, on_figures, on_successive, on_texts, tests_partners}
use Rattle.rules.specs.PlacedSymbol.{on_unknown, new_serial, on_placed, on_placed_key, on_placing, skip_ended, unread_shut, skip_shut, on_skipping}
use Rattle.rules.specs.Wires.{joins_ends, last_edge, joined, on_element, on_wire}
use Rattle.promises.proofs.OnWires.{on-wire}
use Rattle.rules.specs.RecordTable.{kind_wire, kind_wire_more}
use Rattle.rules.specs.LineByLine.{step_in, completes, next_volume, step, accepted, then_run, run}
use Rattle.rules.specs.Machine.{symbol_block, wire_block, wire_unread, file_kinds, Owned, set_of}
use Rattle.rules.proofs.OnActs.{on-shut, on_skip}
use Rattle.promises.proofs.ClosedActs.{on-by_act}
use Rattle.rules.proofs.Chains.{On, on-unless, on-cond, on-map, on_then, on-also, on_weaken}
use Rattle.rules.proofs.Runs.{not-accepted, finish-ended}

abbrev pub taken_in : State → ℕ
taken_in st = (set_of st).taken

module _ (e : Env) (l : Line) (s : Set) where
  abbrev pub Few : State → Type 0
  Few st = taken_in st ≤ s.taken + 2

  -- no record, and so many
  none-taken : s.taken ≤ s.taken + 2
  none-taken = omega arith

  taken : (n : ℕ) (u : State) → n ≤ 2 → taken_in u ≡ s.taken + n → On Few (unless (room_for e.limit (s.taken + n)) 19 (got u))
  taken n u h q = on-unless Few (room_for e.limit (s.taken + n)) 19 (got u) λ _. omega (arith, h, q)

  few-kinds : (first : Bool) → length (file_kinds first) ≤ 2
  few-kinds true = omega arith
  few-kinds false = omega arith

  few_open : (k : ℕ) → On Few (open_top e l s k)
  few_open zero = taken (length (file_kinds (is_first s))) _ (few-kinds (is_first s)) refl
  few_open (suc zero) = taken 1 _ (omega arith) refl
  few_open (suc (suc zero)) = none-taken
  few_open (suc (suc (suc k))) = none-taken

  few-top : (k : ℕ) (f : Form) → On Few (on_top e l s k f)
  few-top k ignored = none-taken
  few-top k (wrong n) = tt
  few-top k close = tt
  few-top k eof =
      on-unless Few (eqb k 4 && (is_nil l.next && l.last)) 9 _ λ _.
      on-unless Few (layers_used s) 14 _ λ _.
      on-unless Few (counted_all s) 17 _ λ _.
      on-unless Few (not (tests_partners e.class s) || partners_exist s) 21 _ λ _. none-taken
  few-top k (keyed key c) =
      on-by_act Few _ _ _ _ (act (known_of s) top_table (digits 0 0) (rows_at_limit 0 top_table) (keyed key c)) none-taken (λ j v. tt) (λ i j v _. on-unless Few (eqb j k) 9 _ λ _. few_open j) tt

  few-file : (n : ℕ) (h : Held) (p : ℕ) (f : Form) → On Few (on_file l s n h p f)
  few-file n h p f =
      on-by_act Few _ _ _ _ (act (known_of s) (get_or (file_tables (is_first s)) p []) (digits 0 0) (rows_there (part_of h p)) f) none-taken (λ j v. none-taken) (λ i j v _. none-taken)
      (on-shut Few p _ _ (on-unless Few (chained (is_first s) l.next h && dated s (is_first s) h) 16 _ λ _. none-taken) (λ q. none-taken))

  few-drawing : (d : Drawing) (f : Form) → On Few (on_drawing s d f)
  few-drawing d f = on-by_act Few _ _ _ _ (act (known_of s) drawing_table (digits_of (arc_of s)) (rows_there d.own) f) none-taken (λ j v. none-taken) (λ i j v _. none-taken) none-taken

  few-layers : (d : Drawing) (f : Form) → On Few (on_layer_names e l s d f)
  few-layers d ignored = none-taken
  few-layers d (wrong n) = tt
  few-layers d close = none-taken
  few-layers d eof = tt
  few-layers d (keyed k c) =
      on-unless Few (is_layer_id k) 6 _ λ _.
      on_then Few (layer_value k (free_shape_of c)) _ λ v _.
      on-unless Few (ltb (length d.layers) most_layers) 11 _ λ _.
      on-unless Few (not (among k (map (λ y. y.id) d.layers))) 14 _ λ _. taken 1 _ (omega arith) refl

  few-defines : (b : Bool) (f : Form) → On Few (on_defines e l s b f)
  few-defines b f =
      on-by_act Few _ _ _ _ (act (known_of s) defines_table (digits_of (define_range s)) (b ∷ false ∷ []) f) none-taken
      (λ j v. on-unless Few (is_nil s.symbols) 6 _ λ _. none-taken)
      (λ i j v _. on-unless Few (not b) 6 _ λ _. taken 1 _ (omega arith) refl)
      (on-unless Few (b || not (is_nil s.symbols)) 8 _ λ _. none-taken)

  few-inner : (y : Symbol) (i : ℕ) → On Few (open_symbol s y i)
  few-inner y zero = tt
  few-inner y (suc zero) = none-taken
  few-inner y (suc (suc i)) = none-taken

  few-symbol : (y : Symbol) (f : Form) → On Few (on_symbol s y f)
  few-symbol y f =
      on-by_act Few _ _ _ _ (act (known_of s) symbol_table (digits_of (define_range s)) (rows_there y.own) f) none-taken
      (λ j v. on-unless Few (new_name s (symbol_own (set y.own j (Some v)) y)) 15 _ λ _. none-taken)
      (λ i j v _. few-inner (symbol_own (set y.own j (Some v)) y) i)
      none-taken

  few-hide : (y : Symbol) (ps : List Point) (f : Form) → On Few (on_hide e l s y ps f)
  few-hide y ps f =
      on-by_act Few _ _ _ _ (act (known_of s) (point_table false) (digits 0 0) (rows_at_limit (length ps) (point_table false)) f) none-taken (λ j v. taken 1 _ (omega arith) refl) (λ i j v _. tt) none-taken

  few-elements : (f : Form) → On Few (on_elements s f)
  few-elements f =
      on-by_act Few _ _ _ _ (act (known_of s) element_table (digits 0 0) (rows_at_limit 0 element_table) f) none-taken (λ j v. tt)
      (λ i j v _. on-unless Few (not (has_number (amount_at v 0) (used_in s.now))) 14 _ λ _. none-taken)
      (on-unless Few (counted_here s) 17 _ λ _. none-taken)

  few-closed : (h : Home) (fs : List Figure) → On Few (close_figures s h fs)
  few-closed (in_element y) fs = on-unless Few (not (is_nil fs)) 8 _ λ _. none-taken
  few-closed (in_layer k) fs = none-taken

  few-placing : (h : Home) (fs : List Figure) → On Few (open_placed e l s h fs)
  few-placing (in_element y) fs = tt
  few-placing (in_layer k) fs = taken 1 _ (omega arith) refl

  few-begun : (reads : Bool) (k : ℕ) (fs : List Figure) → (set_of (begin_wire reads (with_records (kind_wire ∷ kind_wire_more ∷ []) s) k fs l.line)).taken ≡ s.taken + 2
  few-begun true k fs = refl
  few-begun false k fs = refl

  few_wiring : (h : Home) (fs : List Figure) → On Few (open_wire e l s h fs)
  few_wiring (in_element y) fs = tt
  few_wiring (in_layer k) fs = taken 2 _ (omega arith) (few-begun (knows_wires e.class) k fs)

  few-figure : (h : Home) (fs : List Figure) (i : ℕ) → On Few (open_figure e l s h fs i)
  few-figure h fs zero = tt
  few-figure h fs (suc zero) = taken 1 _ (omega arith) refl
  few-figure h fs (suc (suc zero)) = taken 1 _ (omega arith) refl
  few-figure h fs (suc (suc (suc zero))) = few-placing h fs
  few-figure h fs (suc (suc (suc (suc i)))) = few_wiring h fs

  few-figures : (h : Home) (fs : List Figure) (f : Form) → On Few (on_figures e l s h fs f)
  few-figures h fs f =
      on-by_act Few _ _ _ _ (act (known_of s) (home_table s h) (range_of s) (rows_at_limit 0 (home_table s h)) f) none-taken (λ j v. taken 1 _ (omega arith) refl) (λ i j v _. few-figure h fs i) (few-closed h fs)

  few-chain : (h : Home) (fs : List Figure) (n : ℕ) (ps : List Point) (f : Form) → On Few (on_successive e l s h fs n ps f)
  few-chain h fs n ps f =
      on-by_act Few _ _ _ _ (act (known_of s) (point_table (is_layer h)) (digits 0 0) (rows_at_limit (length ps) (point_table (is_layer h))) f) none-taken (λ j v. taken 1 _ (omega arith) refl) (λ i j v _. tt)
      (on-unless Few (leb least_points (length ps)) 8 _ λ _. none-taken)

  few-texts : (h : Home) (fs : List Figure) (n : ℕ) (o : Slots) (f : Form) → On Few (on_texts s h fs n o f)
  few-texts h fs n o f = on-by_act Few _ _ _ _ (act (known_of s) (text_table (is_layer h) 4 12) (digits 0 0) (rows_there o) f) none-taken (λ j v. none-taken) (λ i j v _. tt) none-taken

  few-placed : (k : ℕ) (fs : List Figure) (n : ℕ) (o : Held) (p : ℕ) (a : Act) → On Few (on_placed s k fs n o p a)
  few-placed k fs n o p a =
      on-by_act Few _ _ _ _ a none-taken (λ j v. on-unless Few (new_serial s fs v) 15 _ λ _. none-taken) (λ i j v _. none-taken) (on-shut Few p _ _ none-taken (λ q. none-taken))

  few-unknown : (k : ℕ) (fs : List Figure) (n : ℕ) (o : Held) (key : List ℕ) (c : Rest) → On Few (on_unknown e s k fs n o key c)
  few-unknown k fs n o key c =
      on-cond Few (exceeds (range_of s) e.class.symbols) _ _
      (λ _. on_skip Few (skip_of key c) _ _ none-taken none-taken)
      (λ _. on-by_act Few _ _ _ _ (act_unknown c) none-taken (λ j v. tt) (λ i j v _. tt) tt)

  few-key : (k : ℕ) (fs : List Figure) (n : ℕ) (o : Held) (key : List ℕ) (c : Rest) (f : Found) → On Few (on_placed_key e s k fs n o key c f)
  few-key k fs n o key c absent = few-unknown k fs n o key c
  few-key k fs n o key c (found j r) =
      on-cond Few (reaches e.class.symbols r.least) _ _
      (λ _. few-placed k fs n o 0 (act_row (known_of s) (range_of s) (get_or (rows_there (part_of o 0)) j false) j r c))
      (λ _. few-unknown k fs n o key c)

  few-own : (k : ℕ) (fs : List Figure) (n : ℕ) (o : Held) (p : ℕ) (f : Form) → On Few (on_placing e s k fs n o p f)
  few-own k fs n o zero ignored = none-taken
  few-own k fs n o zero (wrong m) = tt
  few-own k fs n o zero close = few-placed k fs n o 0 (act (known_of s) placed_table (both e.class.symbols (range_of s)) (rows_there (part_of o 0)) close)
  few-own k fs n o zero eof = tt
  few-own k fs n o zero (keyed key c) = few-key k fs n o key c (find key placed_table)
  few-own k fs n o (suc p) f = few-placed k fs n o (suc p) (act (known_of s) (get_or placed_tables (suc p) []) (digits 0 0) (rows_there (part_of o (suc p))) f)

  few-element : (k : ℕ) (fs : List Figure) (n : ℕ) (w : Wire) (row : ℕ) (v : List Num) → On Few (on_element e l s k fs n w row v)
  few-element k fs n w row v = on-unless Few (joined (joins_ends (join_digit s)) (last_edge w.elements) row v) 11 _ λ _. taken 1 _ (omega arith) refl

  few-wire : (k : ℕ) (fs : List Figure) (n : ℕ) (w : Wire) (p : ℕ) (f : Form) → On Few (on_wire e l s k fs n w p f)
  few-wire k fs n w p f =
      on-wire Few e l s k fs n w (record { other = λ gs ts o b q. none-taken; element = λ row v _. few-element k fs n w row v; once = λ j v _ _. none-taken; shut = none-taken; skipped = none-taken }) p f

  few-shut : (k : ℕ) (fs : List Figure) (n : ℕ) (b : Owned) → On Few (unread_shut s k fs n b)
  few-shut k fs n (symbol_block o) = tt
  few-shut k fs n (wire_block w) = tt
  few-shut k fs n wire_unread = none-taken

  ended-taken : (k : ℕ) (fs : List Figure) (n : ℕ) (b : Owned) → Few (skip_ended s k fs n b)
  ended-taken k fs n (symbol_block o) = none-taken
  ended-taken k fs n (wire_block w) = none-taken
  ended-taken k fs n wire_unread = none-taken

  few-unskipped : (k : ℕ) (fs : List Figure) (n : ℕ) (b : Owned) (d : ℕ) → On Few (skip_shut s k fs n b d)
  few-unskipped k fs n b zero = few-shut k fs n b
  few-unskipped k fs n b (suc zero) = ended-taken k fs n b
  few-unskipped k fs n b (suc (suc d)) = none-taken

  few-skipping : (k : ℕ) (fs : List Figure) (n : ℕ) (b : Owned) (d : ℕ) (f : Form) → On Few (on_skipping s k fs n b d f)
  few-skipping k fs n b d ignored = none-taken
  few-skipping k fs n b d (wrong m) = tt
  few-skipping k fs n b d close = few-unskipped k fs n b d
  few-skipping k fs n b d eof = tt
  few-skipping k fs n b d (keyed key c) = on_skip Few (skip_of key c) _ _ none-taken (on-unless Few (ltb d most_depth) 18 _ λ _. none-taken)

few_in : (e : Env) (l : Line) (st : State) → On (Few e l (set_of st)) (step_in e l st)
few_in e l (top s k) = few-top e l s k l.form
few_in e l (file s n h p) = few-file e l s n h p l.form
few_in e l (drawing s d) = few-drawing e l s d l.form
few_in e l (layer_names s d) = few-layers e l s d l.form
few_in e l (defines s b) = few-defines e l s b l.form
few_in e l (symbol s y) = few-symbol e l s y l.form
few_in e l (hide s y ps) = few-hide e l s y ps l.form
few_in e l (elements s) = few-elements e l s l.form
few_in e l (figures s h fs) = few-figures e l s h fs l.form
few_in e l (successive s h fs n ps) = few-chain e l s h fs n ps l.form
few_in e l (texts s h fs n o) = few-texts e l s h fs n o l.form
few_in e l (placing s k fs n (symbol_block o) p) = few-own e l s k fs n o p l.form
few_in e l (placing s k fs n (wire_block w) p) = few-wire e l s k fs n w p l.form
few_in e l (placing s k fs n wire_unread p) = tt
few_in e l (skipping s k fs n b d) = few-skipping e l s k fs n b d l.form
few_in e l (ended s) = tt

-- the next volume begins with as many
next-taken : (st : State) → taken_in (next_volume st) ≡ taken_in st
next-taken (top s k) = refl
next-taken (file s n h p) = refl
next-taken (drawing s d) = refl
next-taken (layer_names s d) = refl
next-taken (defines s b) = refl
next-taken (symbol s y) = refl
next-taken (hide s y ps) = refl
next-taken (elements s) = refl
next-taken (figures s h fs) = refl
next-taken (successive s h fs n ps) = refl
next-taken (texts s h fs n o) = refl
next-taken (placing s k fs n o p) = refl
next-taken (skipping s k fs n o d) = refl
next-taken (ended s) = refl

pub few-step : (e : Env) (l : Line) (st : State) → On (Few e l (set_of st)) (step e l st)
few-step e l st =
    let P = Few e l (set_of st) in
    on-cond P l.last _ _
    (λ _. on-map P next_volume (also (completes l st) 9 (step_in e l st))
    (on-also (λ u. P (next_volume u)) (completes l st) 9 (step_in e l st) λ _. on_weaken P (λ u. P (next_volume u)) (λ u h. omega (arith, h, next-taken u)) (step_in e l st) (few_in e l st)))
    (λ _. few_in e l st)

few-run : (e : Env) (st : State) (ls : List Line) (s : Set) → run e st ls ≡ accepted s → s.taken ≤ taken_in st + 2 * length ls
few-run e st [] s q = subst (λ (u : State). s.taken ≤ taken_in u + 2 * 0) (sym (finish-ended st s q)) (omega arith)
few-run e st (l ∷ ls) s q = go (step e l st) (few-step e l st) (λ u. few-run e u ls s) q
  where
    go : (g : Got State) → On (Few e l (set_of st)) g → ((u : State) → run e u ls ≡ accepted s → s.taken ≤ taken_in u + 2 * length ls) → then_run g l (λ u. run e u ls) ≡ accepted s
        → s.taken ≤ taken_in st + 2 * length (l ∷ ls)
    go (got u) w ih z = omega (arith, ih u z, w)
    go (bad n) w ih z = not-accepted z

pub few-taken : (e : Env) (ls : List Line) (s : Set) → run e (top nothing_yet 0) ls ≡ accepted s → s.taken ≤ 2 * length ls
few-taken e ls s q = omega (arith, few-run e (top nothing_yet 0) ls s q)
