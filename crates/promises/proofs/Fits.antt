-- In a set that was read only rows of text hold text: what `records-bare` asks of a set. And where S holds of what every line has behind
-- its `=`, it holds of every text that a record shows.
use Rattle.std.specs.Prelude.{Some}
use Prim.Native.Nat.{ℕ, zero, suc, ◌+◌, ◌≤◌, ◌<◌}
use mathlib.Core.Bool.{Bool, true, false, ◌&&◌, ◌||◌, not}
use mathlib.Core.List.{List, [], ◌∷◌, ◌++◌, map}
use mathlib.Core.Path.{◌≡◌, refl, subst}
use native.Mathlib.Omega.{arith}
use lib.Dec.{eqb, leb, ltb}
use lib.ListN.{length, get_or, set}
use borrow.Author.Tests.{eqb-true, ltb-true}
use Rattle.rules.specs.declared.Digits.{Digits}
use Rattle.rules.specs.declared.Class.{Class}
use Rattle.rules.specs.Base.{is_nil, among, has_number}
use Rattle.rules.specs.RefusalNumbers.{Got, got, bad, map_g, also}
use Rattle.rules.specs.Lines.{Rest, brace, equals, Form, ignored, wrong, close, eof, keyed, free_shape_of}
use Rattle.rules.specs.RangeClass.{digits, digits_of, reaches, exceeds, both, Skip, passes, deeper, no_form, skip_of, most_depth, knows_wires}
use Rattle.rules.specs.Values.{Value, Known, nums_of, amount_at, is_layer_id}
use Rattle.rules.specs.Rows.{Rule, Found, absent, found, find, Slots, Held, part_of, rows_there, rows_at_limit, Act, stay, entry, begin, shut, refuse, act_row, act_unknown, act}
use Rattle.rules.specs.Blocks.{top_table, file_tables, drawing_table, defines_table, symbol_table, element_table, most_layers, layer_name_kind, around}
use Rattle.rules.specs.Figures.{layer_table, figure_table, point_table, text_table, placed_table, placed_tables, least_points, wire_table, wire_text_table, first_group_row}
use Rattle.rules.specs.Sets.{Point, Figure, plain, chain, lettering, placed, Drawing, Symbol, Set, nothing_yet, is_first, arc_of, define_range, range_of, known_of, used_in, symbol_own, Wire, wired, passed, is_single, is_wired, join_digit, wires_of}
use Rattle.rules.specs.VolumesAndTotals.{chained, dated, counted_here}
use Rattle.rules.specs.Machine.{Line, Env, Home, in_element, in_layer, State, top, file, drawing, layer_names, defines, symbol, hide, elements, figures, successive, texts, placing, skipping, ended, by_act, room_for, open_top, on_top, close_file, shut_part, on_file, on_drawing, layer_value, on_layer_names, on_defines, new_name, open_symbol, on_symbol, on_hide, on_elements, is_layer, home_table, close_figures, open_figure, on_figures, on_successive, on_texts, wire_block, wire_unread, begin_wire}
use Rattle.rules.specs.PlacedSymbol.{by_skip, skip_deeper, on_unknown, new_serial, on_placed, on_placed_key, on_placed_own, on_placing, on_skipping, skip_ended, unread_shut}
use Rattle.rules.specs.LineByLine.{step_in, completes, next_volume, step, Outcome, refused, accepted, then_run, finish, run}
use Rattle.rules.specs.RecordTable.{records_of}
use Rattle.rules.specs.Machine.{symbol_block, Owned, file_kinds}
use Rattle.rules.proofs.Chains.{by_cond, On, on-unless, on-cond, on_then, on-also, on-got}
use Rattle.rules.proofs.Rows.{Row, found-row, row_below}
use Rattle.promises.specs.PlacesApart.{bare_set, places_apart}
use Rattle.promises.proofs.OnEof.{on-eof}
use Rattle.promises.proofs.RecordPlaces.{records-bare}
use Rattle.promises.proofs.FitSets.{AnyText, FitValue, FitSlots, FitHeld, Each, FitPlain, FitFigure, FitLayer, FitDrawing, FitSymbol, FitBlock, FitContents, FitSet, FitEdge, FitWire}
use Rattle.promises.proofs.FitRows.{each_more, volume-more, fit-nil, fit-blank, fit-set, fit_blanks, fit-enter, FitForm, layer-fit, FitRow, FitAct, row-fit, unknown-fit, act-fit}
use Rattle.rules.specs.Wires.{joins_ends, last_edge, joined, past_elements, wire_full, is_element_row, is_group_row, nums_alike, new_number, on_element, on_attribute, on_wire_act, on_wire_unknown, on_wire_key, on_wire_own, on_wire_text, on_wire}

module _ (S : ℕ → List ℕ → Type 0) where
  -- ── states ──
  -- the volume at hand
  abbrev FitNow : Set → Type 0
  FitNow s = FitContents S (is_first s) s.now

  abbrev FitHome : Home → Type 0
  FitHome (in_element y) = FitSymbol S y
  FitHome (in_layer k) = Unit {0}

  abbrev FitFigures : Set → Home → List Figure → Type 0
  FitFigures s h fs = FitSet S s × FitNow s × FitHome h × Each (FitFigure S (is_layer h)) fs

  abbrev FitPlacing : Set → List Figure → Held → Type 0
  FitPlacing s fs o = FitSet S s × FitNow s × Each (FitFigure S true) fs × FitHeld S placed_tables o

  abbrev FitOwned : Set → List Figure → Owned → Type 0
  FitOwned s fs (symbol_block o) = FitPlacing s fs o
  FitOwned s fs (wire_block w) = FitSet S s × FitNow s × Each (FitFigure S true) fs × FitWire S w × FitSlots S wire_text_table w.writing
  FitOwned s fs wire_unread = FitSet S s × FitNow s × Each (FitFigure S true) fs

  -- at the top level the volume at hand is open from FILE_FORMAT's end to ELEMENT's
  abbrev pub FitState : State → Type 0
  FitState (top s k) = FitSet S s × (1 ≤ k → k < 4 → FitNow s)
  FitState (file s n h p) = FitSet S s × FitHeld S (file_tables (is_first s)) h
  FitState (drawing s d) = FitSet S s × FitNow s × FitDrawing S d
  FitState (layer_names s d) = FitSet S s × FitNow s × FitDrawing S d
  FitState (defines s b) = FitSet S s × FitNow s
  FitState (symbol s y) = FitSet S s × FitNow s × FitSymbol S y
  FitState (hide s y ps) = FitSet S s × FitNow s × FitSymbol S y
  FitState (elements s) = FitSet S s × FitNow s
  FitState (figures s h fs) = FitFigures s h fs
  FitState (successive s h fs n ps) = FitFigures s h fs
  FitState (texts s h fs n o) = FitFigures s h fs × FitSlots S (text_table (is_layer h) 4 12) o
  FitState (placing s k fs n b p) = FitOwned s fs b
  FitState (skipping s k fs n b d) = FitOwned s fs b
  FitState (ended s) = FitSet S s

  by-act : {t : List Rule} (a : Act) (z : State) (n : ℕ → Value → Got State) (o : ℕ → ℕ → Value → Got State) (c : Got State) → FitAct S t a → FitState z
      → ((j : ℕ) (v : Value) → FitRow S t j v → On FitState (n j v)) → ((i j : ℕ) (v : Value) → FitRow S t j v → On FitState (o i j v)) → On FitState c
      → On FitState (by_act z n o (λ _. c) a)
  by-act stay z n o c f h en eo ec = h
  by-act (entry j v) z n o c f h en eo ec = en j v f
  by-act (begin i j v) z n o c f h en eo ec = eo i j v f
  by-act shut z n o c f h en eo ec = ec
  by-act (refuse m) z n o c f h en eo ec = tt

  by-line : (k : Known) (t : List Rule) (d : Digits) (full : List Bool) (f : Form) → FitForm S f → (z : State) (n : ℕ → Value → Got State) (o : ℕ → ℕ → Value → Got State) (c : Got State)
      → FitState z → ((j : ℕ) (v : Value) → FitRow S t j v → On FitState (n j v)) → ((i j : ℕ) (v : Value) → FitRow S t j v → On FitState (o i j v)) → On FitState c
      → On FitState (by_act z n o (λ _. c) (act k t d full f))
  by-line k t d full f x z n o c h en eo ec = by-act (act k t d full f) z n o c (act-fit S k t d full f x) h en eo ec

  abbrev room : Env → ℕ → Set → Bool
  room e n s = room_for e.limit (s.taken + n)

  -- ── each block ──
  top-rows : (j : ℕ) (v : Value) → FitRow S top_table j v → j < 4
  unfolding top_table
  top-rows j v w = row_below w.1

  open_top-fit : (e : Env) (l : Line) (s : Set) (k : ℕ) → FitState (top s k) → k < 4 → On FitState (open_top e l s k)
  open_top-fit e l s zero f h = on-unless FitState (room e (length (file_kinds (is_first s))) s) 19 _ λ _. (f.0, fit_blanks S (file_tables (is_first s)))
  open_top-fit e l s (suc zero) f h = on-unless FitState (room e 1 s) 19 _ λ _. (f.0, f.1 (omega arith) h, (fit-blank S drawing_table, tt))
  open_top-fit e l s (suc (suc zero)) f h = (f.0, f.1 (omega arith) h)
  open_top-fit e l s (suc (suc (suc k))) f h = (f.0, f.1 (omega arith) h)

  on_top-fit : (e : Env) (l : Line) (s : Set) (k : ℕ) (f : Form) → FitForm S f → FitState (top s k) → On FitState (on_top e l s k f)
  on_top-fit e l s k ignored x h = h
  on_top-fit e l s k (wrong n) x h = tt
  on_top-fit e l s k close x h = tt
  on_top-fit e l s k eof x h = on-eof FitState e l s k λ _. h.0
  on_top-fit e l s k (keyed key c) x h =
      by-line (known_of s) top_table (digits 0 0) (rows_at_limit 0 top_table) (keyed key c) x (top s k) _ _ _ h (λ j v w. tt)
      (λ i j v w. on-unless FitState (eqb j k) 9 _ λ e'. let q = eqb-true j k e' in rw q (open_top-fit e l s k h (rw q at (top-rows j v w)))) tt

  close_file-fit : (l : Line) (s : Set) (n : ℕ) (h : Held) → FitState (file s n h 0) → On FitState (close_file l s n h)
  close_file-fit l s n h f = on-unless FitState (chained (is_first s) l.next h && dated s (is_first s) h) 16 _ λ _. (f.0, λ a b. (f.1, tt))

  shut_part-fit : (p : ℕ) (w : Got State) (b : ℕ → State) → On FitState w → ((q : ℕ) → FitState (b q)) → On FitState (shut_part p w b)
  shut_part-fit zero w b e h = e
  shut_part-fit (suc p) w b e h = h (around (suc p))

  on_file-fit : (l : Line) (s : Set) (n : ℕ) (h : Held) (p : ℕ) (f : Form) → FitForm S f → FitState (file s n h p) → On FitState (on_file l s n h p f)
  on_file-fit l s n h p f x g =
      by-line (known_of s) (get_or (file_tables (is_first s)) p []) (digits 0 0) (rows_there (part_of h p)) f x (file s n h p) _ _ _ g
      (λ j v w. (g.0, fit-enter S (file_tables (is_first s)) h p w.1 v g.1 w.2))
      (λ i j v w. (g.0, fit-enter S (file_tables (is_first s)) h p w.1 v g.1 w.2))
      (shut_part-fit p (close_file l s n h) _ (close_file-fit l s n h g) (λ q. g))

  on_drawing-fit : (s : Set) (d : Drawing) (f : Form) → FitForm S f → FitState (drawing s d) → On FitState (on_drawing s d f)
  on_drawing-fit s d f x g =
      by-line (known_of s) drawing_table (digits_of (arc_of s)) (rows_there d.own) f x (drawing s d) _ _ _ g
      (λ j v w. (g.0, g.1, (fit-set S w.1 d.own v g.2.0 w.2, g.2.1)))
      (λ i j v w. (g.0, g.1, (fit-set S w.1 d.own v g.2.0 w.2, g.2.1)))
      ((g.2, g.0.1, g.0.2), λ a b. g.1)

  on_layer_names-fit : (e : Env) (l : Line) (s : Set) (d : Drawing) (f : Form) → FitForm S f → FitState (layer_names s d) → On FitState (on_layer_names e l s d f)
  on_layer_names-fit e l s d ignored x g = g
  on_layer_names-fit e l s d (wrong n) x g = tt
  on_layer_names-fit e l s d close x g = g
  on_layer_names-fit e l s d eof x g = tt
  on_layer_names-fit e l s d (keyed k c) x g =
      on-unless FitState (is_layer_id k) 6 _ λ _.
      on_then FitState (layer_value k (free_shape_of c)) _ λ v q.
      on-unless FitState (ltb (length d.layers) most_layers) 11 _ λ _.
      on-unless FitState (not (among k (map (λ y. y.id) d.layers))) 14 _ λ _. on-unless FitState (room e 1 s) 19 _ λ _. (
        g.0,
        g.1,
        (
          g.2.0,
          each_more (FitLayer S) d.layers (record { line = l.line; id = k; name = v }) g.2.1
              (on-got (FitValue S layer_name_kind) (layer_value k (free_shape_of c)) v (layer-fit S k c x) q),
        ),
      )

  on_defines-fit : (e : Env) (l : Line) (s : Set) (b : Bool) (f : Form) → FitForm S f → FitState (defines s b) → On FitState (on_defines e l s b f)
  on_defines-fit e l s b f x g =
      by-line (known_of s) defines_table (digits_of (define_range s)) (b ∷ false ∷ []) f x (defines s b) _ _ _ g
      (λ j v w. on-unless FitState (is_nil s.symbols) 6 _ λ _. g)
      (λ i j v w. on-unless FitState (not b) 6 _ λ _. on-unless FitState (room e 1 s) 19 _ λ _. (g.0, g.1, (fit-blank S symbol_table, tt)))
      (on-unless FitState (b || not (is_nil s.symbols)) 8 _ λ _. (g.0, λ a b. g.1))

  open_symbol-fit : (s : Set) (y : Symbol) (i : ℕ) → FitState (symbol s y) → On FitState (open_symbol s y i)
  open_symbol-fit s y zero g = tt
  open_symbol-fit s y (suc zero) g = (g.0, g.1, g.2, tt)
  open_symbol-fit s y (suc (suc i)) g = g

  on_symbol-fit : (s : Set) (y : Symbol) (f : Form) → FitForm S f → FitState (symbol s y) → On FitState (on_symbol s y f)
  on_symbol-fit s y f x g =
      by-line (known_of s) symbol_table (digits_of (define_range s)) (rows_there y.own) f x (symbol s y) _ _ _ g
      (λ j v w. on-unless FitState (new_name s (symbol_own (set y.own j (Some v)) y)) 15 _ λ _. (g.0, g.1, (fit-set S w.1 y.own v g.2.0 w.2, g.2.1)))
      (λ i j v w. open_symbol-fit s (symbol_own (set y.own j (Some v)) y) i (g.0, g.1, (fit-set S w.1 y.own v g.2.0 w.2, g.2.1)))
      ((g.0.0, each_more (FitSymbol S) s.symbols y g.0.1 g.2, g.0.2), g.1)

  on_hide-fit : (e : Env) (l : Line) (s : Set) (y : Symbol) (ps : List Point) (f : Form) → FitForm S f → FitState (hide s y ps) → On FitState (on_hide e l s y ps f)
  on_hide-fit e l s y ps f x g =
      by-line (known_of s) (point_table false) (digits 0 0) (rows_at_limit (length ps) (point_table false)) f x (hide s y ps) _ _ _ g
      (λ j v w. on-unless FitState (room e 1 s) 19 _ λ _. g) (λ i j v w. tt) g

  on_elements-fit : (s : Set) (f : Form) → FitForm S f → FitState (elements s) → On FitState (on_elements s f)
  on_elements-fit s f x g =
      by-line (known_of s) element_table (digits 0 0) (rows_at_limit 0 element_table) f x (elements s) _ _ _ g
      (λ j v w. tt)
      (λ i j v w. on-unless FitState (not (has_number (amount_at v 0) (used_in s.now))) 14 _ λ _. (g.0, g.1, tt, tt))
      (on-unless FitState (counted_here s) 17 _ λ _. ((g.0.0, g.0.1, volume-more S s.volumes s.now g.0.2 g.1), λ a b. absurd (let z : 4 < 4 = b in omega arith)))

  -- ── figures ──
  close_figures-fit : (s : Set) (h : Home) (fs : List Figure) → FitFigures s h fs → On FitState (close_figures s h fs)
  close_figures-fit s (in_element y) fs g = on-unless FitState (not (is_nil fs)) 8 _ λ _. (g.0, g.1, (g.2.0, g.3))
  close_figures-fit s (in_layer k) fs g = (g.0, (g.1.0, each_more (FitBlock S) s.now.blocks (record { layer = k; figures = fs }) g.1.1 g.3))

  begin-fit : (b : Bool) (s : Set) (k : ℕ) (fs : List Figure) (n : ℕ) → FitFigures s (in_layer k) fs → FitState (begin_wire b s k fs n)
  begin-fit true s k fs n g = (g.0, g.1, g.3, (tt, tt, fit-blank S wire_table), fit-nil S wire_text_table)
  begin-fit false s k fs n g = (g.0, g.1, g.3)

  open_figure-fit : (e : Env) (l : Line) (s : Set) (h : Home) (fs : List Figure) (i : ℕ) → FitFigures s h fs → On FitState (open_figure e l s h fs i)
  open_figure-fit e l s h fs zero g = tt
  open_figure-fit e l s h fs (suc zero) g = on-unless FitState (room e 1 s) 19 _ λ _. g
  open_figure-fit e l s h fs (suc (suc zero)) g = on-unless FitState (room e 1 s) 19 _ λ _. (g, fit-blank S (text_table (is_layer h) 4 12))
  open_figure-fit e l s (in_element y) fs (suc (suc (suc zero))) g = tt
  open_figure-fit e l s (in_layer k) fs (suc (suc (suc zero))) g = on-unless FitState (room e 1 s) 19 _ λ _. (g.0, g.1, g.3, fit_blanks S placed_tables)
  open_figure-fit e l s (in_element y) fs (suc (suc (suc (suc i)))) g = tt
  open_figure-fit e l s (in_layer k) fs (suc (suc (suc (suc i)))) g = on-unless FitState (room e 2 s) 19 _ λ _. begin-fit (knows_wires e.class) _ k fs l.line g

  more-figures : (s : Set) (h : Home) (fs : List Figure) (x : Figure) → FitFigures s h fs → FitFigure S (is_layer h) x → FitFigures s h (fs ++ x ∷ [])
  more-figures s h fs x g w = (g.0, g.1, g.2, each_more (FitFigure S (is_layer h)) fs x g.3 w)

  layer_row : (single wires : Bool) {j : ℕ} {r : Rule} → Row (layer_table single wires) j r → j < 8
  unfolding layer_table
  layer_row single true w = row_below w
  layer_row single false w = omega (arith, row_below w)

  home-row : (s : Set) (h : Home) {j : ℕ} {r : Rule} → Row (home_table s h) j r → FitPlain (is_layer h) j
  unfolding figure_table
  home-row s (in_element y) w = row_below w
  home-row s (in_layer k) w = layer_row (is_single s) (is_wired s) w

  on_figures-fit : (e : Env) (l : Line) (s : Set) (h : Home) (fs : List Figure) (f : Form) → FitForm S f → FitFigures s h fs → On FitState (on_figures e l s h fs f)
  on_figures-fit e l s h fs f x g =
      by-line (known_of s) (home_table s h) (range_of s) (rows_at_limit 0 (home_table s h)) f x (figures s h fs) _ _ _ g
      (λ j v w. on-unless FitState (room e 1 s) 19 _ λ _. more-figures s h fs (plain l.line j (nums_of v)) g (home-row s h w.1))
      (λ i j v w. open_figure-fit e l s h fs i g) (close_figures-fit s h fs g)

  on_successive-fit : (e : Env) (l : Line) (s : Set) (h : Home) (fs : List Figure) (n : ℕ) (ps : List Point) (f : Form) → FitForm S f → FitFigures s h fs → On FitState (on_successive e l s h fs n ps f)
  on_successive-fit e l s h fs n ps f x g =
      by-line (known_of s) (point_table (is_layer h)) (digits 0 0) (rows_at_limit (length ps) (point_table (is_layer h))) f x (successive s h fs n ps) _ _ _ g
      (λ j v w. on-unless FitState (room e 1 s) 19 _ λ _. g) (λ i j v w. tt)
      (on-unless FitState (leb least_points (length ps)) 8 _ λ _. more-figures s h fs (chain n ps) g tt)

  on_texts-fit : (s : Set) (h : Home) (fs : List Figure) (n : ℕ) (o : Slots) (f : Form) → FitForm S f → FitState (texts s h fs n o) → On FitState (on_texts s h fs n o f)
  on_texts-fit s h fs n o f x g =
      by-line (known_of s) (text_table (is_layer h) 4 12) (digits 0 0) (rows_there o) f x (texts s h fs n o) _ _ _ g
      (λ j v w. (g.0, fit-set S w.1 o v g.1 w.2)) (λ i j v w. tt) (more-figures s h fs (lettering n o) g.0 g.1)

  -- ── the placed symbol ──
  by_skip-fit : (k : Skip) (x y : Got State) → On FitState x → On FitState y → On FitState (by_skip k x y)
  by_skip-fit passes x y f g = f
  by_skip-fit deeper x y f g = g
  by_skip-fit no_form x y f g = tt

  on_unknown-fit : (e : Env) (s : Set) (i : ℕ) (fs : List Figure) (n : ℕ) (o : Held) (k : List ℕ) (c : Rest) → FitPlacing s fs o → On FitState (on_unknown e s i fs n o k c)
  on_unknown-fit e s i fs n o k c g =
      on-cond FitState (exceeds (range_of s) e.class.symbols) _ _
      (λ _. by_skip-fit (skip_of k c) (got (placing s i fs n (symbol_block o) 0)) (got (skipping s i fs n (symbol_block o) 1)) g g)
      (λ _. by-act {t = placed_table} (act_unknown c) (placing s i fs n (symbol_block o) 0) _ _ _ (unknown-fit S placed_table c) g (λ j v w. tt) (λ i j v w. tt) tt)

  on_placed-fit : (s : Set) (i : ℕ) (fs : List Figure) (n : ℕ) (o : Held) (p : ℕ) (a : Act) → FitAct S (get_or placed_tables p []) a → FitPlacing s fs o → On FitState (on_placed s i fs n o p a)
  on_placed-fit s i fs n o p a f g =
      by-act a (placing s i fs n (symbol_block o) p) _ _ _ f g
      (λ j v w. on-unless FitState (new_serial s fs v) 15 _ λ _. (g.0, g.1, g.2, fit-enter S placed_tables o p w.1 v g.3 w.2))
      (λ i j v w. (g.0, g.1, g.2, fit-enter S placed_tables o p w.1 v g.3 w.2))
      (shut_part-fit p _ _ (g.0, g.1, tt, each_more (FitFigure S true) fs (placed n o) g.2 g.3) (λ q. g))

  on_placed_own-fit : (e : Env) (s : Set) (i : ℕ) (fs : List Figure) (n : ℕ) (o : Held) (f : Form) → FitForm S f → FitPlacing s fs o → On FitState (on_placed_own e s i fs n o f)
  on_placed_own-fit e s i fs n o ignored x g = g
  on_placed_own-fit e s i fs n o (wrong m) x g = tt
  on_placed_own-fit e s i fs n o close x g =
      on_placed-fit s i fs n o 0 (act (known_of s) placed_table (both e.class.symbols (range_of s)) (rows_there (part_of o 0)) close)
      (act-fit S (known_of s) placed_table (both e.class.symbols (range_of s)) (rows_there (part_of o 0)) close tt) g
  on_placed_own-fit e s i fs n o eof x g = tt
  on_placed_own-fit e s i fs n o (keyed k c) x g = go (find k placed_table) refl
    where
      go : (f : Found) → find k placed_table ≡ f → On FitState (on_placed_key e s i fs n o k c f)
      go absent p = on_unknown-fit e s i fs n o k c g
      go (found j r) p =
          on-cond FitState (reaches e.class.symbols r.least) _ _
          (λ _. on_placed-fit s i fs n o 0 (act_row (known_of s) (range_of s) (get_or (rows_there (part_of o 0)) j false) j r c) (row-fit S (known_of s) (range_of s) (get_or (rows_there (part_of o 0)) j false) (found-row k placed_table j r p).0 c x) g)
          (λ _. on_unknown-fit e s i fs n o k c g)

  on_placing-fit : (e : Env) (s : Set) (i : ℕ) (fs : List Figure) (n : ℕ) (o : Held) (p : ℕ) (f : Form) → FitForm S f → FitPlacing s fs o → On FitState (on_placing e s i fs n o p f)
  on_placing-fit e s i fs n o zero f x g = on_placed_own-fit e s i fs n o f x g
  on_placing-fit e s i fs n o (suc p) f x g =
      on_placed-fit s i fs n o (suc p) (act (known_of s) (get_or placed_tables (suc p) []) (digits 0 0) (rows_there (part_of o (suc p))) f)
      (act-fit S (known_of s) (get_or placed_tables (suc p) []) (digits 0 0) (rows_there (part_of o (suc p))) f x) g

  -- ── a wire ──
  module _ (e : Env) (l : Line) (s : Set) (i : ℕ) (fs : List Figure) (n : ℕ) (w : Wire) (g : FitOwned s fs (wire_block w)) where
    on_element-fit : (j : ℕ) (v : Value) → is_element_row j ≡ true → On FitState (on_element e l s i fs n w j (nums_of v))
    on_element-fit j v low =
        on-unless FitState (joined (joins_ends (join_digit s)) (last_edge w.elements) j (nums_of v)) 11 _ λ _.
        on-unless FitState (room e 1 s) 19 _ λ _.
        (g.0, g.1, g.2, (each_more FitEdge w.elements _ g.3.0 (ltb-true j first_group_row low), g.3.1, g.3.2), g.4)

    on_attribute-fit : (j : ℕ) (v : Value) → FitRow S wire_table j v → On FitState (on_attribute s i fs n w j v)
    on_attribute-fit j v r =
        on-unless FitState (nums_alike w j (nums_of v)) 11 _ λ _.
        on-unless FitState (new_number s fs j v) 15 _ λ _.
        by_cond (λ (x : Wire). FitOwned s fs (wire_block x)) (is_group_row j) (λ _. g)
        (λ _. (g.0, g.1, g.2, (g.3.0, g.3.1, fit-set S r.1 w.own v g.3.2 r.2), g.4))

    on_wire_act-fit : (a : Act) → FitAct S wire_table a → On FitState (on_wire_act e l s i fs n w a)
    on_wire_act-fit a f =
        by-act {t = wire_table} a (placing s i fs n (wire_block w) 0) _ _ _ f g
        (λ j v r. on-cond FitState (is_element_row j) _ _ (λ low. on_element-fit j v low) (λ _. on_attribute-fit j v r))
        (λ i j v r. (g.0, g.1, g.2, g.3, fit-blank S wire_text_table))
        (g.0, g.1, tt, each_more (FitFigure S true) fs (wired n w) g.2 g.3)

    on_wire_unknown-fit : (k : List ℕ) (c : Rest) → On FitState (on_wire_unknown e l s i fs n w k c)
    on_wire_unknown-fit k c =
        on-cond FitState (exceeds (wires_of s) e.class.wires) _ _
        (λ _. by_skip-fit (skip_of k c) (got (placing s i fs n (wire_block (past_elements w)) 0)) (got (skipping s i fs n (wire_block (past_elements w)) 1)) g g)
        (λ _. on_wire_act-fit (act_unknown c) (unknown-fit S wire_table c))

    on_wire_own-fit : (f : Form) → FitForm S f → On FitState (on_wire_own e l s i fs n w f)
    on_wire_own-fit ignored x = g
    on_wire_own-fit (wrong m) x = tt
    on_wire_own-fit close x =
        on_wire_act-fit (act (known_of s) wire_table (both e.class.wires (wires_of s)) (rows_there w.own) close)
        (act-fit S (known_of s) wire_table (both e.class.wires (wires_of s)) (rows_there w.own) close tt)
    on_wire_own-fit eof x = tt
    on_wire_own-fit (keyed k c) x = go (find k wire_table) refl
      where
        go : (f : Found) → find k wire_table ≡ f → On FitState (on_wire_key e l s i fs n w k c f)
        go absent p = on_wire_unknown-fit k c
        go (found j r) p =
            on-cond FitState (is_element_row j && w.past) _ _ (λ _. on_wire_act-fit (act_unknown c) (unknown-fit S wire_table c))
            (λ _. on-cond FitState (reaches e.class.wires r.least) _ _
            (λ _. on_wire_act-fit (act_row (known_of s) (wires_of s) (get_or (wire_full w) j false) j r c)
            (row-fit S (known_of s) (wires_of s) (get_or (wire_full w) j false) (found-row k wire_table j r p).0 c x))
            (λ _. on_wire_unknown-fit k c))

    on_wire_text-fit : (p : ℕ) (f : Form) → FitForm S f → On FitState (on_wire_text s i fs n w p f)
    on_wire_text-fit p f x =
        by-line (known_of s) wire_text_table (digits 0 0) (rows_there w.writing) f x (placing s i fs n (wire_block w) p) _ _ _ g
        (λ j v r. (g.0, g.1, g.2, g.3, fit-set S r.1 w.writing v g.4 r.2))
        (λ i j v r. tt)
        (g.0, g.1, g.2, (g.3.0, each_more (FitSlots S wire_text_table) w.texts w.writing g.3.1 g.4, g.3.2), fit-nil S wire_text_table)

    on_wire-fit : (p : ℕ) (f : Form) → FitForm S f → On FitState (on_wire e l s i fs n w p f)
    on_wire-fit zero f x = on_wire_own-fit f x
    on_wire-fit (suc p) f x = on_wire_text-fit (suc p) f x

  -- ── skipped lines ──
  skip_ended-fit : (s : Set) (i : ℕ) (fs : List Figure) (n : ℕ) (b : Owned) → FitOwned s fs b → FitState (skip_ended s i fs n b)
  skip_ended-fit s i fs n (symbol_block o) g = g
  skip_ended-fit s i fs n (wire_block w) g = g
  skip_ended-fit s i fs n wire_unread g = g

  unread_shut-fit : (s : Set) (i : ℕ) (fs : List Figure) (n : ℕ) (b : Owned) → FitOwned s fs b → On FitState (unread_shut s i fs n b)
  unread_shut-fit s i fs n (symbol_block o) g = tt
  unread_shut-fit s i fs n (wire_block w) g = tt
  unread_shut-fit s i fs n wire_unread g = (g.0, g.1, tt, each_more (FitFigure S true) fs (passed n) g.2 tt)

  on_skipping-fit : (s : Set) (i : ℕ) (fs : List Figure) (n : ℕ) (b : Owned) (d : ℕ) (f : Form) → FitOwned s fs b → On FitState (on_skipping s i fs n b d f)
  on_skipping-fit s i fs n b d ignored g = g
  on_skipping-fit s i fs n b d (wrong m) g = tt
  on_skipping-fit s i fs n b zero close g = unread_shut-fit s i fs n b g
  on_skipping-fit s i fs n b (suc zero) close g = skip_ended-fit s i fs n b g
  on_skipping-fit s i fs n b (suc (suc d)) close g = g
  on_skipping-fit s i fs n b d eof g = tt
  on_skipping-fit s i fs n b d (keyed k c) g =
      by_skip-fit (skip_of k c) (got (skipping s i fs n b d)) (skip_deeper d (skipping s i fs n b (suc d))) g (on-unless FitState (ltb d most_depth) 18 _ λ _. g)

  -- ── all lines ──
  step_in-fit : (e : Env) (l : Line) (s : State) → FitForm S l.form → FitState s → On FitState (step_in e l s)
  step_in-fit e l (top s k) x g = on_top-fit e l s k l.form x g
  step_in-fit e l (file s n h p) x g = on_file-fit l s n h p l.form x g
  step_in-fit e l (drawing s d) x g = on_drawing-fit s d l.form x g
  step_in-fit e l (layer_names s d) x g = on_layer_names-fit e l s d l.form x g
  step_in-fit e l (defines s b) x g = on_defines-fit e l s b l.form x g
  step_in-fit e l (symbol s y) x g = on_symbol-fit s y l.form x g
  step_in-fit e l (hide s y ps) x g = on_hide-fit e l s y ps l.form x g
  step_in-fit e l (elements s) x g = on_elements-fit s l.form x g
  step_in-fit e l (figures s h fs) x g = on_figures-fit e l s h fs l.form x g
  step_in-fit e l (successive s h fs n ps) x g = on_successive-fit e l s h fs n ps l.form x g
  step_in-fit e l (texts s h fs n o) x g = on_texts-fit s h fs n o l.form x g
  step_in-fit e l (placing s k fs n (symbol_block o) p) x g = on_placing-fit e s k fs n o p l.form x g
  step_in-fit e l (placing s k fs n (wire_block w) p) x g = on_wire-fit e l s k fs n w g p l.form x
  step_in-fit e l (placing s k fs n wire_unread p) x g = tt
  step_in-fit e l (skipping s k fs n b d) x g = on_skipping-fit s k fs n b d l.form g
  step_in-fit e l (ended s) x g = tt

  next-fit : (s : State) → FitState s → FitState (next_volume s)
  next-fit (top s k) g = (g.0, λ a b. absurd (let z : 1 ≤ 0 = a in omega arith))
  next-fit (file s n h p) g = g
  next-fit (drawing s d) g = g
  next-fit (layer_names s d) g = g
  next-fit (defines s b) g = g
  next-fit (symbol s y) g = g
  next-fit (hide s y ps) g = g
  next-fit (elements s) g = g
  next-fit (figures s h fs) g = g
  next-fit (successive s h fs n ps) g = g
  next-fit (texts s h fs n o) g = g
  next-fit (placing s k fs n o p) g = g
  next-fit (skipping s k fs n o d) g = g
  next-fit (ended s) g = g

  step-fit : (e : Env) (l : Line) (s : State) → FitForm S l.form → FitState s → On FitState (step e l s)
  step-fit e l s x g = on-cond FitState l.last _ _ (λ _. next (also (completes l s) 9 (step_in e l s)) (on-also FitState (completes l s) 9 (step_in e l s) (λ _. step_in-fit e l s x g))) (λ _. step_in-fit e l s x g)
    where
      next : (x : Got State) → On FitState x → On FitState (map_g next_volume x)
      next (got u) h = next-fit u h
      next (bad n) h = tt

  -- what holds of the set, where one is accepted
  abbrev FitOutcome : Outcome → Type 0
  FitOutcome (refused n v l) = Unit {0}
  FitOutcome (accepted s) = FitSet S s

  finish-fit : (s : State) → FitState s → FitOutcome (finish s)
  finish-fit (top s k) g = tt
  finish-fit (file s n h p) g = tt
  finish-fit (drawing s d) g = tt
  finish-fit (layer_names s d) g = tt
  finish-fit (defines s b) g = tt
  finish-fit (symbol s y) g = tt
  finish-fit (hide s y ps) g = tt
  finish-fit (elements s) g = tt
  finish-fit (figures s h fs) g = tt
  finish-fit (successive s h fs n ps) g = tt
  finish-fit (texts s h fs n o) g = tt
  finish-fit (placing s k fs n o p) g = tt
  finish-fit (skipping s k fs n o d) g = tt
  finish-fit (ended s) g = g

  -- every line
  abbrev pub FitLines : List Line → Type 0
  FitLines ls = Each (λ (l : Line). FitForm S l.form) ls

  run-fit : (e : Env) (ls : List Line) (s : State) → FitLines ls → FitState s → FitOutcome (run e s ls)
  run-fit e [] s x g = finish-fit s g
  run-fit e (l ∷ ls) s x g = go (step e l s) (step-fit e l s x.0 g) (λ u. run-fit e ls u x.1)
    where
      go : (x : Got State) → On FitState x → ((u : State) → FitState u → FitOutcome (run e u ls)) → FitOutcome (then_run x l (λ u. run e u ls))
      go (got u) h ih = ih u h
      go (bad n) h ih = tt

  pub accepted-fit : (e : Env) (ls : List Line) (t : Set) → FitLines ls → run e (top nothing_yet 0) ls ≡ accepted t → FitSet S t
  accepted-fit e ls t x h =
      subst FitOutcome h (run-fit e ls (top nothing_yet 0) x (((fit-nil S drawing_table, tt), tt, tt), λ a b. absurd (let z : 1 ≤ 0 = a in omega arith)))

-- of every line, where nothing is asked
any-lines : (ls : List Line) → FitLines AnyText ls
any-lines [] = tt
any-lines (l ∷ ls) = (any-form l.form, any-lines ls)
  where
    any-form : (f : Form) → FitForm AnyText f
    any-form ignored = tt
    any-form (wrong n) = tt
    any-form close = tt
    any-form eof = tt
    any-form (keyed k brace) = tt
    any-form (keyed k (equals at c)) = tt

pub accepted_any : (e : Env) (ls : List Line) (t : Set) → run e (top nothing_yet 0) ls ≡ accepted t → FitSet AnyText t
accepted_any e ls t h = accepted-fit AnyText e ls t (any-lines ls) h

-- so the records of a set that was read differ from those of the bare set in their places alone
pub records-read : (c : Class) (e : Env) (ls : List Line) (t : Set) → run e (top nothing_yet 0) ls ≡ accepted t
    → map places_apart (records_of c t) ≡ map places_apart (records_of c (bare_set t))
records-read c e ls t h = records-bare c t (accepted_any e ls t h)
