-- Every line keeps what is kept of the figures.
use Rattle.std.specs.Prelude.{Option, Some, None}
use Prim.Native.Nat.{ℕ, zero, suc, ◌+◌, ◌<◌}
use mathlib.Core.Bool.{Bool, true, false, ◌&&◌, ◌||◌, not}
use mathlib.Core.List.{List, [], ◌∷◌, append-nil}
use mathlib.Core.Path.{◌≡◌, refl, sym, ap, subst}
use native.Mathlib.Omega.{arith}
use lib.Dec.{eqb, leb, ltb}
use lib.ListN.{length, get_or, set}
use borrow.Author.Tests.{eqb-true, eq-eqb, ltb-true}
use Rattle.rules.specs.declared.Digits.{Digits}
use Rattle.rules.specs.Base.{is_nil, has_number, split}
use Rattle.rules.specs.RefusalNumbers.{Got, got, bad, keep, also}
use Rattle.rules.specs.Lines.{Rest, Form, ignored, wrong, close, eof, keyed}
use Rattle.rules.specs.RangeClass.{digits, digits_of, reaches, exceeds, both, knows_wires, knows_serials, skip_of, most_depth}
use Rattle.rules.specs.Values.{Num, Value, serials, nums_of, amount_at, most_partners, read_serials, linked_of, serials_of}
use Rattle.rules.specs.Rows.{Rule, Found, absent, found, find, Slots, Held, part_of, slot_value, enter, rows_there, rows_at_limit, Act, stay, entry, begin, shut, refuse, complete, act_row, act_unknown, act}
use Rattle.rules.specs.Blocks.{top_table, file_tables, blank_held, drawing_table, defines_table, symbol_table, element_table}
use Rattle.rules.specs.Figures.{point_table, text_table, placed_table, placed_tables, wire_table, wire_serial_row, least_points}
use Rattle.rules.specs.Sets.{Point, Edge, Wire, Figure, plain, chain, lettering, placed, wired, passed, Drawing, Symbol, Set, nothing_yet, with_records, is_first, arc_of, range_of, define_range, join_digit, wire_range, known_of, used_in, symbol_own, serials_in, own_serial, own_number}
use Rattle.rules.specs.VolumesAndTotals.{chained, dated, counted_here, partners_exist}
use Rattle.rules.specs.Machine.{Line, Env, Home, in_element, in_layer, Owned, symbol_block, wire_block, wire_unread, State, top, file, drawing, layer_names, defines, symbol, hide, elements, figures, successive, texts, placing, skipping, ended, tests_partners, open_top, on_top, close_file, on_file, on_drawing, on_layer_names, on_defines, new_name, open_symbol, on_symbol, on_hide, on_elements, is_layer, home_table, close_figures, no_wire, begin_wire, open_figure, on_figures, on_successive, on_texts, file_kinds}
use Rattle.rules.specs.PlacedSymbol.{none_of, numbers_so_far, on_unknown, new_serial, on_placed, on_placed_key, on_placing, skip_ended, unread_shut, skip_shut, on_skipping}
use Rattle.rules.specs.RecordTable.{kind_wire, kind_wire_more}
use Rattle.rules.specs.Wires.{joins_ends, last_edge, join_of, joined, new_number, with_element, with_once, is_element_row, on_element, on_wire}
use Rattle.rules.specs.LineByLine.{step_in, completes, next_volume, step, accepted, then_run, run}
use Rattle.rules.proofs.Chains.{On, on-unless, on-cond, on-map, on-also, on-all, on_weaken, by_cond, clash}
use Rattle.promises.proofs.ClosedActs.{on-by_act}
use Rattle.rules.proofs.OnActs.{on-layers, on-taking, on-shut, on_skip}
use Rattle.rules.proofs.Rows.{Row, found-row, row_below}
use Rattle.rules.proofs.Runs.{not-accepted, finish-ended}
use Rattle.promises.proofs.CountActs.{act-begin}
use Rattle.promises.proofs.Distinct.{Differ}
use Rattle.promises.proofs.Edges.{Joins, behind_more}
use Rattle.promises.proofs.FitRows.{each_more}
use Rattle.promises.proofs.FitSets.{Each}
use Rattle.promises.proofs.FigureState.{closed_serials, IsSerial, serial_slot, wire_slot, KnownSlot, EdgeRow, SoundWire, SoundContents, SoundState, layer-more, home-more, file-closed, volume-closed, layer-closed, top_closed}
use Rattle.promises.proofs.OnEof.{on-eof}
use Rattle.promises.proofs.OnWires.{SerialRead, IsNums, on-wire}
use Rattle.promises.proofs.SerialRows.{at_row, OneRow, RowAct, row-act}

-- ── the row `serial`, the sixth of a placed symbol ──
abbrev symbol_row : ℕ
symbol_row = 5

linked-serial : (ns : List ℕ) → IsSerial (linked_of ns)
linked-serial [] = tt
linked-serial (n ∷ ps) = tt

serial-row : OneRow placed_table symbol_row IsSerial
unfolding placed_table
serial-row = record {
  kind = serials;
  holds = at_row (λ q. q.holds);
  must = at_row (λ q. q.may);
  form = λ may s. refl;
  reads = λ k at c.
      let g = keep 11 (λ (ns : List ℕ). leb (length ns) (most_partners + 1)) (read_serials (split 44 c)) in
      on-map IsSerial linked_of g (on-all (λ ns. IsSerial (linked_of ns)) linked-serial g);
}

serial-least : {j : ℕ} {r : Rule} → Row placed_table j r → j ≡ symbol_row → r.least ≡ digits 1 0
unfolding placed_table
serial-least row z = at_row (λ q. q.least) row z

-- ── one row of slots, where another is entered or this one ──
set-either : (P : Option Value → Type 0) (s : Slots) (j i : ℕ) (v : Value) → P (get_or s i None) → (j ≡ i → P (Some v)) → P (get_or (set s j (Some v)) i None)
set-either P [] j i v p q = p
set-either P (o ∷ s) zero zero v p q = q refl
set-either P (o ∷ s) zero (suc i) v p q = p
set-either P (o ∷ s) (suc j) zero v p q = p
set-either P (o ∷ s) (suc j) (suc i) v p q = set-either P s j i v p (λ e. q (ap suc e))

module _ (P : Option Value → Type 0) where
  enter-either : (o : Held) (j : ℕ) (v : Value) → P (serial_slot o) → (j ≡ symbol_row → P (Some v)) → P (serial_slot (enter o 0 j v))
  unfolding placed_table
  enter-either [] j v g h = g
  enter-either (own ∷ o) j v g h = set-either P own j symbol_row v g h

  inner-kept : (o : Held) (p j : ℕ) (v : Value) → P (serial_slot o) → P (serial_slot (enter o (suc p) j v))
  inner-kept [] p j v g = g
  inner-kept (own ∷ o) p j v g = g

  blank-kept : P None → P (serial_slot (blank_held placed_tables))
  unfolding placed_table
  blank-kept g = g

  blank-wire : P None → P (wire_slot no_wire)
  unfolding wire_table
  blank-wire g = g

top-row : {j : ℕ} {r : Rule} → Row top_table j r → j < 4
unfolding top_table
top-row w = row_below w

-- a test that is asked for
asked : (t p : Bool) → (not t || p) ≡ true → t ≡ true → p ≡ true
asked true p e h = e
asked false p e h = clash h refl

module _ (e : Env) (l : Line) where
  abbrev J : State → Type 0
  J = SoundState e.class

  -- the row `serial` of an open block, of a placed symbol and of a wire
  abbrev SymbolRow : List ℕ → Option Value → Type 0
  SymbolRow used o = KnownSlot (knows_serials e.class.symbols) IsSerial o × (none_of (own_serial (serials_of (slot_value o))) used ≡ true)

  abbrev WireRow : List ℕ → Option Value → Type 0
  WireRow used o = KnownSlot (knows_serials e.class.wires) IsNums o × (none_of (own_number o) used ≡ true)

  -- ── blocks that hold no figures ──
  open-top : (s : Set) (k : ℕ) → k < 4 → J (top s k) → On J (open_top e l s k)
  open-top s zero h i = on-taking J e (length (file_kinds (is_first s))) s _ λ _. i
  open-top s (suc zero) h i = on-taking J e 1 s _ λ _. i
  open-top s (suc (suc zero)) h i = i
  open-top s (suc (suc (suc zero))) h i = i
  open-top s (suc (suc (suc (suc k)))) h i = absurd (omega arith)

  in_top : (s : Set) (k : ℕ) (f : Form) → J (top s k) → On J (on_top e l s k f)
  in_top s k ignored i = i
  in_top s k (wrong n) i = tt
  in_top s k close i = tt
  in_top s k eof i = on-eof J e l s k λ m. (top_closed e.class k s i.0, i.1, asked (tests_partners e.class s) (partners_exist s) m.partners)
  in_top s k (keyed key c) i =
      on-by_act J _ _ _ _ (act (known_of s) top_table (digits 0 0) (rows_at_limit 0 top_table) (keyed key c)) i (λ j v. tt)
      (λ m j v b. on-unless J (eqb j k) 9 _ λ q.
      open-top s j (top-row (act-begin (known_of s) top_table (digits 0 0) (rows_at_limit 0 top_table) (keyed key c) b).row) (subst (λ (m : ℕ). J (top s m)) (sym (eqb-true j k q)) i)) tt

  in-file : (s : Set) (n : ℕ) (h : Held) (p : ℕ) (f : Form) → J (file s n h p) → On J (on_file l s n h p f)
  in-file s n h p f i =
      on-by_act J _ _ _ _ (act (known_of s) (get_or (file_tables (is_first s)) p []) (digits 0 0) (rows_there (part_of h p)) f) i (λ j v. i) (λ m j v b. i)
      (on-shut J p (close_file l s n h) _ (on-unless J (chained (is_first s) l.next h && dated s (is_first s) h) 16 _ λ _. file-closed e.class (is_first s) s n h i.0 i.1) (λ q. i))

  in-drawing : (s : Set) (d : Drawing) (f : Form) → J (drawing s d) → On J (on_drawing s d f)
  in-drawing s d f i = on-by_act J _ _ _ _ (act (known_of s) drawing_table (digits_of (arc_of s)) (rows_there d.own) f) i (λ j v. i) (λ m j v b. i) i

  in-layers : (s : Set) (d : Drawing) (f : Form) → J (layer_names s d) → On J (on_layer_names e l s d f)
  in-layers s d f i = on-layers J e l s d f i i λ k v _. i

  in-defines : (s : Set) (b : Bool) (f : Form) → J (defines s b) → On J (on_defines e l s b f)
  in-defines s b f i =
      on-by_act J _ _ _ _ (act (known_of s) defines_table (digits_of (define_range s)) (b ∷ false ∷ []) f) i
      (λ j v. on-unless J (is_nil s.symbols) 6 _ λ _. i)
      (λ m j v q. on-unless J (not b) 6 _ λ _. on-taking J e 1 s _ λ _. i)
      (on-unless J (b || not (is_nil s.symbols)) 8 _ λ _. i)

  open-symbol : (s : Set) (y : Symbol) (m : ℕ) → J (symbol s y) → On J (open_symbol s y m)
  open-symbol s y zero i = tt
  open-symbol s y (suc zero) i = i
  open-symbol s y (suc (suc m)) i = i

  in-symbol : (s : Set) (y : Symbol) (f : Form) → J (symbol s y) → On J (on_symbol s y f)
  in-symbol s y f i =
      on-by_act J _ _ _ _ (act (known_of s) symbol_table (digits_of (define_range s)) (rows_there y.own) f) i
      (λ j v. on-unless J (new_name s (symbol_own (set y.own j (Some v)) y)) 15 _ λ _. i) (λ m j v b. open-symbol s (symbol_own (set y.own j (Some v)) y) m i) i

  in-hide : (s : Set) (y : Symbol) (ps : List Point) (f : Form) → J (hide s y ps) → On J (on_hide e l s y ps f)
  in-hide s y ps f i =
      on-by_act J _ _ _ _ (act (known_of s) (point_table false) (digits 0 0) (rows_at_limit (length ps) (point_table false)) f) i
      (λ j v. on-taking J e 1 s _ λ _. i) (λ m j v b. tt) i

  in-elements : (s : Set) (f : Form) → J (elements s) → On J (on_elements s f)
  in-elements s f i =
      on-by_act J _ _ _ _ (act (known_of s) element_table (digits 0 0) (rows_at_limit 0 element_table) f) i (λ j v. tt)
      (λ m j v b. on-unless J (not (has_number (amount_at v 0) (used_in s.now))) 14 _ λ _. (rw (append-nil (serials_in s)) i.0, i.1, tt))
      (on-unless J (counted_here s) 17 _ λ _. volume-closed e.class s i)

  -- ── figures ──
  close-figures : (s : Set) (h : Home) (fs : List Figure) → J (figures s h fs) → On J (close_figures s h fs)
  close-figures s (in_element y) fs i = on-unless J (not (is_nil fs)) 8 _ λ _. (i.0, i.1, tt)
  close-figures s (in_layer k) fs i = layer-closed e.class s k fs i

  -- a wire is read, or skipped whole, as the class says
  wire-begins : (b : Bool) → knows_wires e.class ≡ b → (s : Set) (k : ℕ) (fs : List Figure) → J (figures s (in_layer k) fs)
      → J (begin_wire b (with_records (kind_wire ∷ kind_wire_more ∷ []) s) k fs l.line)
  wire-begins true q s k fs i =
      let w = blank-wire (WireRow (numbers_so_far s fs)) (tt, refl) in (i.0, i.1, (i.2, (record { known = q; rows = tt; joins = tt; serial = w.0 }, w.1)))
  wire-begins false q s k fs i = (i.0, i.1, (i.2, q))

  open-figure : (s : Set) (h : Home) (fs : List Figure) (m : ℕ) → J (figures s h fs) → On J (open_figure e l s h fs m)
  open-figure s h fs zero i = tt
  open-figure s h fs (suc zero) i = on-taking J e 1 s _ λ _. i
  open-figure s h fs (suc (suc zero)) i = on-taking J e 1 s _ λ _. i
  open-figure s (in_element y) fs (suc (suc (suc zero))) i = tt
  open-figure s (in_layer k) fs (suc (suc (suc zero))) i = on-taking J e 1 s _ λ _. (i.0, i.1, (i.2, blank-kept (SymbolRow (numbers_so_far s fs)) (tt, refl)))
  open-figure s (in_element y) fs (suc (suc (suc (suc m)))) i = tt
  open-figure s (in_layer k) fs (suc (suc (suc (suc m)))) i = on-taking J e 2 s _ λ _. wire-begins (knows_wires e.class) refl s k fs i

  in-figures : (s : Set) (h : Home) (fs : List Figure) (f : Form) → J (figures s h fs) → On J (on_figures e l s h fs f)
  in-figures s h fs f i =
      on-by_act J _ _ _ _ (act (known_of s) (home_table s h) (range_of s) (rows_at_limit 0 (home_table s h)) f) i
      (λ j v. on-taking J e 1 s _ λ _. home-more e.class s h fs (plain l.line j (nums_of v)) i tt refl)
      (λ m j v b. open-figure s h fs m i) (close-figures s h fs i)

  in-successive : (s : Set) (h : Home) (fs : List Figure) (n : ℕ) (ps : List Point) (f : Form) → J (successive s h fs n ps) → On J (on_successive e l s h fs n ps f)
  in-successive s h fs n ps f i =
      on-by_act J _ _ _ _ (act (known_of s) (point_table (is_layer h)) (digits 0 0) (rows_at_limit (length ps) (point_table (is_layer h))) f) i
      (λ j v. on-taking J e 1 s _ λ _. i) (λ m j v b. tt)
      (on-unless J (leb least_points (length ps)) 8 _ λ _. home-more e.class s h fs (chain n ps) i tt refl)

  in-texts : (s : Set) (h : Home) (fs : List Figure) (n : ℕ) (o : Slots) (f : Form) → J (texts s h fs n o) → On J (on_texts s h fs n o f)
  in-texts s h fs n o f i =
      on-by_act J _ _ _ _ (act (known_of s) (text_table (is_layer h) 4 12) (digits 0 0) (rows_there o) f) i (λ j v. i) (λ m j v b. tt) (home-more e.class s h fs (lettering n o) i tt refl)

  -- ── blocks with attributes ──
  abbrev SymbolAct : Act → Type 0
  SymbolAct a = RowAct symbol_row IsSerial (knows_serials e.class.symbols ≡ true) a

  by-own : (s : Set) (k : ℕ) (fs : List Figure) (n : ℕ) (o : Held) (a : Act) → SymbolAct a → J (placing s k fs n (symbol_block o) 0) → On J (on_placed s k fs n o 0 a)
  by-own s k fs n o stay w i = i
  by-own s k fs n o (entry j v) w i =
      on-unless J (new_serial s fs v) 15 _ λ q. (i.0, i.1, (i.2.0, enter-either (SymbolRow (numbers_so_far s fs)) o j v i.2.1 (λ z. (w z, q))))
  by-own s k fs n o (begin m j v) w i = (i.0, i.1, (i.2.0, enter-either (SymbolRow (numbers_so_far s fs)) o j v i.2.1 (λ z. absurd (w z))))
  by-own s k fs n o shut w i = layer-more e.class s k fs (placed n o) (i.0, i.1, i.2.0) i.2.1.0 i.2.1.1
  by-own s k fs n o (refuse m) w i = tt

  -- in its text
  by-inner : (s : Set) (k : ℕ) (fs : List Figure) (n : ℕ) (o : Held) (p : ℕ) (a : Act) → J (placing s k fs n (symbol_block o) (suc p)) → On J (on_placed s k fs n o (suc p) a)
  by-inner s k fs n o p a i =
      let used = numbers_so_far s fs in
      let kept : (j : ℕ) (v : Value) → SymbolRow used (serial_slot (enter o (suc p) j v)) = λ j v. inner-kept (SymbolRow used) o p j v i.2.1 in
      on-by_act J _ _ _ _ a i (λ j v. on-unless J (new_serial s fs v) 15 _ λ _. (i.0, i.1, (i.2.0, kept j v))) (λ m j v b. (i.0, i.1, (i.2.0, kept j v))) i

  by-unknown : (s : Set) (k : ℕ) (fs : List Figure) (n : ℕ) (o : Held) (key : List ℕ) (c : Rest) → J (placing s k fs n (symbol_block o) 0) → On J (on_unknown e s k fs n o key c)
  by-unknown s k fs n o key c i =
      on-cond J (exceeds (range_of s) e.class.symbols) _ _ (λ _. on_skip J (skip_of key c) _ _ i i)
      (λ _. on-by_act J _ _ _ _ (act_unknown c) i (λ j v. tt) (λ m j v b. tt) tt)

  by_key : (s : Set) (k : ℕ) (fs : List Figure) (n : ℕ) (o : Held) (key : List ℕ) (c : Rest) (f : Found) → find key placed_table ≡ f → J (placing s k fs n (symbol_block o) 0) → On J (on_placed_key e s k fs n o key c f)
  by_key s k fs n o key c absent p i = by-unknown s k fs n o key c i
  by_key s k fs n o key c (found j r) p i =
      on-cond J (reaches e.class.symbols r.least) _ _
      (λ q.
      let row = (found-row key placed_table j r p).0 in
      let full = get_or (rows_there (part_of o 0)) j false in
      let known : j ≡ symbol_row → knows_serials e.class.symbols ≡ true = λ z. subst (λ (m : Digits). reaches e.class.symbols m ≡ true) (serial-least row z) q in
      by-own s k fs n o (act_row (known_of s) (range_of s) full j r c)
      (row-act symbol_row IsSerial (knows_serials e.class.symbols ≡ true) serial-row (known_of s) (range_of s) full row known c) i)
      (λ _. by-unknown s k fs n o key c i)

  in-placing : (s : Set) (k : ℕ) (fs : List Figure) (n : ℕ) (o : Held) (p : ℕ) (f : Form) → J (placing s k fs n (symbol_block o) p) → On J (on_placing e s k fs n o p f)
  in-placing s k fs n o zero ignored i = i
  in-placing s k fs n o zero (wrong m) i = tt
  in-placing s k fs n o zero close i =
      let d = both e.class.symbols (range_of s) in
      by-own s k fs n o (act (known_of s) placed_table d (rows_there (part_of o 0)) close) (by_cond SymbolAct (complete d placed_table (rows_there (part_of o 0))) (λ _. tt) (λ _. tt)) i
  in-placing s k fs n o zero eof i = tt
  in-placing s k fs n o zero (keyed key c) i = by_key s k fs n o key c (find key placed_table) refl i
  in-placing s k fs n o (suc p) f i = by-inner s k fs n o p (act (known_of s) (get_or placed_tables (suc p) []) (digits 0 0) (rows_there (part_of o (suc p))) f) i

  -- the one place that tests a join
  by-element : (s : Set) (k : ℕ) (fs : List Figure) (n : ℕ) (w : Wire) (p row : ℕ) (v : List Num) → is_element_row row ≡ true → J (placing s k fs n (wire_block w) p)
      → On J (on_element e l s k fs n w row v)
  by-element s k fs n w p row v r i =
      on-unless J (joined (joins_ends (join_digit s)) (last_edge w.elements) row v) 11 _ λ q.
      on-taking J e 1 s _ λ _.
      let was = i.2.1.0 in
      let new : Edge = record { line = l.line; row = row; values = v; join = join_of (joins_ends (join_digit s)) (last_edge w.elements) row } in
      let now : SoundWire e.class (wire_range s) (with_element w new) = record {
        known = was.known;
        rows = each_more EdgeRow w.elements new was.rows (ltb-true row 2 r);
        joins = behind_more (Joins (wire_range s)) w.elements new was.joins (record { meets = q; join = refl });
        serial = was.serial;
      } in
      (i.0, i.1, (i.2.0, (now, i.2.1.1)))

  by-once : (s : Set) (k : ℕ) (fs : List Figure) (n : ℕ) (w : Wire) (p j : ℕ) (v : Value) → (j ≡ wire_serial_row → SerialRead e v) → new_number s fs j v ≡ true
      → J (placing s k fs n (wire_block w) p) → J (placing s k fs n (wire_block (with_once (set w.own j (Some v)) w)) 0)
  by-once s k fs n w p j v r q i =
      let was = i.2.1.0 in
      let row = set-either (WireRow (numbers_so_far s fs)) w.own j wire_serial_row v (was.serial, i.2.1.1) (λ z. (r z, fresh z)) in
      let now : SoundWire e.class (wire_range s) (with_once (set w.own j (Some v)) w) = record { known = was.known; rows = was.rows; joins = was.joins; serial = row.0 } in
      (i.0, i.1, (i.2.0, (now, row.1)))
    where
      fresh : j ≡ wire_serial_row → none_of (own_number (Some v)) (numbers_so_far s fs) ≡ true
      fresh z = asked (eqb j wire_serial_row) (none_of (own_number (Some v)) (numbers_so_far s fs)) q (eq-eqb j wire_serial_row z)

  in-wire : (s : Set) (k : ℕ) (fs : List Figure) (n : ℕ) (w : Wire) (p : ℕ) (f : Form) → J (placing s k fs n (wire_block w) p) → On J (on_wire e l s k fs n w p f)
  in-wire s k fs n w p f i =
      let was = i.2.1.0 in
      let same : SoundWire e.class (wire_range s) w = record { known = was.known; rows = was.rows; joins = was.joins; serial = was.serial } in
      on-wire J e l s k fs n w
      (record {
        other = λ gs ts o b q. (i.0, i.1, (i.2.0, (record { known = was.known; rows = was.rows; joins = was.joins; serial = was.serial }, i.2.1.1)));
        element = λ row v r. by-element s k fs n w p row v r i;
        once = λ j v r q. by-once s k fs n w p j v r q i;
        shut = layer-more e.class s k fs (wired n w) (i.0, i.1, i.2.0) same i.2.1.1;
        skipped = (i.0, i.1, (i.2.0, (record { known = was.known; rows = was.rows; joins = was.joins; serial = was.serial }, i.2.1.1)));
      })
      p f

  skip-ended : (s : Set) (k : ℕ) (fs : List Figure) (n : ℕ) (b : Owned) (d : ℕ) → J (skipping s k fs n b d) → J (skip_ended s k fs n b)
  skip-ended s k fs n (symbol_block o) d i = i
  skip-ended s k fs n (wire_block w) d i = i
  skip-ended s k fs n wire_unread d i = i

  unread-shut : (s : Set) (k : ℕ) (fs : List Figure) (n : ℕ) (b : Owned) (d : ℕ) → J (skipping s k fs n b d) → On J (unread_shut s k fs n b)
  unread-shut s k fs n (symbol_block o) d i = tt
  unread-shut s k fs n (wire_block w) d i = tt
  unread-shut s k fs n wire_unread d i = layer-more e.class s k fs (passed n) (i.0, i.1, i.2.0) i.2.1 refl

  skip-shut : (s : Set) (k : ℕ) (fs : List Figure) (n : ℕ) (b : Owned) (d : ℕ) → J (skipping s k fs n b d) → On J (skip_shut s k fs n b d)
  skip-shut s k fs n b zero i = unread-shut s k fs n b 0 i
  skip-shut s k fs n b (suc zero) i = skip-ended s k fs n b 1 i
  skip-shut s k fs n b (suc (suc d)) i = i

  in-skipping : (s : Set) (k : ℕ) (fs : List Figure) (n : ℕ) (b : Owned) (d : ℕ) (f : Form) → J (skipping s k fs n b d) → On J (on_skipping s k fs n b d f)
  in-skipping s k fs n b d ignored i = i
  in-skipping s k fs n b d (wrong m) i = tt
  in-skipping s k fs n b d close i = skip-shut s k fs n b d i
  in-skipping s k fs n b d eof i = tt
  in-skipping s k fs n b d (keyed key c) i = on_skip J (skip_of key c) _ _ i (on-unless J (ltb d most_depth) 18 _ λ _. i)

  -- ── one line ──
  in-state : (st : State) → J st → On J (step_in e l st)
  in-state (top s k) i = in_top s k l.form i
  in-state (file s n h p) i = in-file s n h p l.form i
  in-state (drawing s d) i = in-drawing s d l.form i
  in-state (layer_names s d) i = in-layers s d l.form i
  in-state (defines s b) i = in-defines s b l.form i
  in-state (symbol s y) i = in-symbol s y l.form i
  in-state (hide s y ps) i = in-hide s y ps l.form i
  in-state (elements s) i = in-elements s l.form i
  in-state (figures s h fs) i = in-figures s h fs l.form i
  in-state (successive s h fs n ps) i = in-successive s h fs n ps l.form i
  in-state (texts s h fs n o) i = in-texts s h fs n o l.form i
  in-state (placing s h fs n (symbol_block o) p) i = in-placing s h fs n o p l.form i
  in-state (placing s h fs n (wire_block w) p) i = in-wire s h fs n w p l.form i
  in-state (placing s h fs n wire_unread p) i = tt
  in-state (skipping s h fs n b d) i = in-skipping s h fs n b d l.form i
  in-state (ended s) i = tt

  next-state : (st : State) → J st → J (next_volume st)
  next-state (top s k) i = (top_closed e.class k s i.0, i.1, tt)
  next-state (file s n h p) i = i
  next-state (drawing s d) i = i
  next-state (layer_names s d) i = i
  next-state (defines s b) i = i
  next-state (symbol s y) i = i
  next-state (hide s y ps) i = i
  next-state (elements s) i = i
  next-state (figures s h fs) i = i
  next-state (successive s h fs n ps) i = i
  next-state (texts s h fs n o) i = i
  next-state (placing s h fs n o p) i = i
  next-state (skipping s h fs n o d) i = i
  next-state (ended s) i = i

  step-sound : (st : State) → J st → On J (step e l st)
  step-sound st i =
      on-cond J l.last _ _
      (λ _. on-map J next_volume (also (completes l st) 9 (step_in e l st))
      (on-also (λ u. J (next_volume u)) (completes l st) 9 (step_in e l st) λ _. on_weaken J (λ u. J (next_volume u)) next-state (step_in e l st) (in-state st i)))
      (λ _. in-state st i)

-- ── all lines ──
run_sound : (e : Env) (ls : List Line) (st : State) (s : Set) → SoundState e.class st → run e st ls ≡ accepted s → SoundState e.class (ended s)
run_sound e [] st s i q = subst (SoundState e.class) (finish-ended st s q) i
run_sound e (l ∷ ls) st s i q = go (step e l st) (step-sound e l st i) (λ u. run_sound e ls u s) q
  where
    go : (g : Got State) → On (SoundState e.class) g → ((u : State) → SoundState e.class u → run e u ls ≡ accepted s → SoundState e.class (ended s))
        → then_run g l (λ u. run e u ls) ≡ accepted s → SoundState e.class (ended s)
    go (got u) w ih q = ih u w q
    go (bad n) w ih q = not-accepted q

-- of an accepted set
pub record Sound (e : Env) (s : Set) : Type 0 where
  pub differ : Differ (closed_serials s)
  pub figures : Each (SoundContents e.class (wire_range s)) s.volumes
  pub partners : tests_partners e.class s ≡ true → partners_exist s ≡ true

pub accepted-sound : (e : Env) (ls : List Line) (s : Set) → run e (top nothing_yet 0) ls ≡ accepted s → Sound e s
accepted-sound e ls s q = let i = run_sound e ls (top nothing_yet 0) s (tt, (tt, tt), tt) q in record { differ = i.0; figures = i.1.0; partners = i.2 }
