-- The reading does not look at places.
use Rattle.std.specs.Prelude.{Option, Some, None}
use Prim.Native.Nat.{ℕ, zero, suc, ◌-◌}
use mathlib.Core.Bool.{Bool, false, cond, true, ◌&&◌}
use mathlib.Core.List.{List, [], ◌∷◌, ◌++◌, map}
use mathlib.Core.Path.{◌≡◌, refl, sym, ◌∙◌, ap, ap₂}
use native.Mathlib.Omega.{arith}
use lib.Dec.{eqb}
use lib.ListN.{length, get_or, set, length-map}
use Rattle.rules.specs.Base.{map_o}
use Rattle.rules.specs.RefusalNumbers.{Got, got, bad, unless, map_g}
use Rattle.rules.specs.Lines.{Rest, Form, ignored, wrong, close, eof, keyed, Shape, opener, no_content, content, opening, formless, free_shape_of}
use Rattle.rules.specs.RangeClass.{digits, digits_of, reaches, exceeds, both, Skip, passes, deeper, no_form}
use Rattle.rules.specs.Values.{Value, Num, nums_of}
use Rattle.rules.specs.Rows.{Found, absent, found, find, Slots, Held, part_of, rows_there, rows_at_limit, Act, act_row, act_unknown, act}
use Rattle.rules.specs.Blocks.{top_table, file_tables, drawing_table, defines_table, symbol_table, element_table, layer_name_kind, around}
use Rattle.rules.specs.Figures.{layer_table, point_table, text_table, placed_table, placed_tables, wire_table, wire_text_table, first_group_row}
use Rattle.rules.specs.Sets.{Point, Figure, Drawing, Symbol, Set, is_first, arc_of, define_range, range_of, known_of, symbol_own, Edge, Wire, join_digit, wires_of}
use Rattle.rules.specs.Machine.{Line, Env, Home, in_element, in_layer, State, top, file, drawing, layer_names, defines, symbol, hide, elements, figures, successive, texts, placing, skipping, ended, open_top, at_eof, on_top, close_file, shut_part, on_file, on_drawing, layer_value, on_layer_names, on_defines, new_name, open_symbol, on_symbol, on_hide, on_elements, is_layer, home_table, close_figures, open_placed, open_figure, on_figures, on_successive, on_texts, wire_block, wire_unread, begin_wire, open_wire}
use Rattle.rules.specs.PlacedSymbol.{by_skip, on_unknown, new_serial, on_placed, on_placed_key, on_placed_own, on_placing, skip_shut, on_skipping, skip_ended, unread_shut}
use Rattle.rules.specs.LineByLine.{step_in, in_elements, after_elements, is_ignored, is_close, is_eof, completes, next_volume, step, Outcome, refused, accepted, then_run, finish, run}
use Rattle.rules.specs.Machine.{symbol_block, Owned}
use Rattle.rules.proofs.Chains.{nil-map, map-cond, map-unless, through, map-append, map-set}
use Rattle.promises.specs.PlacesApart.{bare_value, bare_slots, bare_held, bare_point, bare_figure, bare_layer, bare_drawing, bare_symbol, bare_set, bare_rest, bare_form, bare_line, bare_act, bare_home, bare_state, bare_outcome, bare_owned, bare_edge, bare_wire}
use Rattle.promises.proofs.Bare.{nums-bare, serials-bare, amount-bare, none_bare, marks-bare, at_bare, blank-bare, part-marks, enter-bare, held-blank, first-bare, arc-bare, sym-bare, define-bare, range-bare, single-bare, name-bare, names-bare, ids-bare, known-bare, figures-serials, set-serials, used-bare, chained-bare, dated-bare, here-bare, all-bare, layers-bare, wire-bare, wired-bare, tests-bare, exist-bare}
use Rattle.promises.proofs.BareActs.{bare_shape, free-bare, skipped-bare, kind-bare, row-bare, unknown-bare, act-bare, by-act, by-line}
use Rattle.rules.specs.Wires.{joins_ends, last_edge, join_of, joined, on_element, on_attribute, with_attribute, with_groups, with_once, group_at, is_group_row, is_element_row, new_number, wire_full, on_wire_act, on_wire_unknown, on_wire_key, on_wire_own, on_wire_text, on_wire}

-- ── each block ──
open_top-bare : (e : Env) (l : Line) (s : Set) (k : ℕ) → map_g bare_state (open_top e l s k) ≡ open_top e (bare_line l) (bare_set s) k
open_top-bare e l s zero = rw (first-bare s) (simp (through, held-blank))
open_top-bare e l s (suc zero) = simp (through, blank-bare)
open_top-bare e l s (suc (suc zero)) = refl
open_top-bare e l s (suc (suc (suc k))) = refl

at_eof-bare : (e : Env) (l : Line) (s : Set) (k : ℕ) → map_g bare_state (at_eof e l s k) ≡ at_eof e (bare_line l) (bare_set s) k
at_eof-bare e l s k = rw (layers-bare s, all-bare s, tests-bare e.class s, exist-bare s) (simp through)

on_top-bare : (e : Env) (l : Line) (s : Set) (k : ℕ) (f : Form) → map_g bare_state (on_top e l s k f) ≡ on_top e (bare_line l) (bare_set s) k (bare_form f)
on_top-bare e l s k ignored = refl
on_top-bare e l s k (wrong n) = refl
on_top-bare e l s k close = refl
on_top-bare e l s k eof = at_eof-bare e l s k
on_top-bare e l s k (keyed key c) =
    rw (known-bare s)
    (by-line (known_of s) top_table (digits 0 0) (rows_at_limit 0 top_table) (keyed key c) (top s k) _ _ _ _ _ _ (λ j v. refl)
    (λ i j v. map-unless bare_state (eqb j k) 9 (open_top e l s j) ∙ ap (unless (eqb j k) 9) (open_top-bare e l s j)) refl)

close_file-bare : (l : Line) (s : Set) (n : ℕ) (h : Held) → map_g bare_state (close_file l s n h) ≡ close_file (bare_line l) (bare_set s) 0 (bare_held h)
close_file-bare l s n h = rw (first-bare s, chained-bare (is_first s) l.next h, dated-bare s (is_first s) h) (simp through)

shut_part-bare : (p : ℕ) (w w' : Got State) (b b' : ℕ → State) → map_g bare_state w ≡ w' → ((q : ℕ) → bare_state (b q) ≡ b' q) → map_g bare_state (shut_part p w b) ≡ shut_part p w' b'
shut_part-bare zero w w' b b' e h = e
shut_part-bare (suc p) w w' b b' e h = ap got (h (around (suc p)))

on_file-bare : (l : Line) (s : Set) (n : ℕ) (h : Held) (p : ℕ) (f : Form) → map_g bare_state (on_file l s n h p f) ≡ on_file (bare_line l) (bare_set s) 0 (bare_held h) p (bare_form f)
on_file-bare l s n h p f =
    rw (known-bare s, part-marks h p, ap (λ b. get_or (file_tables b) p []) (first-bare s))
    (by-line (known_of s) (get_or (file_tables (is_first s)) p []) (digits 0 0) (rows_there (part_of h p)) f (file s n h p) _ _ _ _ _ _
    (λ j v. ap (λ o. got (file (bare_set s) 0 o p)) (enter-bare h p j v))
    (λ i j v. ap (λ o. got (file (bare_set s) 0 o i)) (enter-bare h p j v))
    (shut_part-bare p (close_file l s n h) (close_file (bare_line l) (bare_set s) 0 (bare_held h)) _ _ (close_file-bare l s n h) (λ q. refl)))

own_bare : (s : Slots) (j : ℕ) (v : Value) → bare_slots (set s j (Some v)) ≡ set (bare_slots s) j (Some (bare_value v))
own_bare s j v = map-set (map_o bare_value) s j (Some v)

on_drawing-bare : (s : Set) (d : Drawing) (f : Form) → map_g bare_state (on_drawing s d f) ≡ on_drawing (bare_set s) (bare_drawing d) (bare_form f)
on_drawing-bare s d f =
    rw (known-bare s, arc-bare s, marks-bare d.own)
    (by-line (known_of s) drawing_table (digits_of (arc_of s)) (rows_there d.own) f (drawing s d) _ _ _ _ _ _ (λ j v. simp own_bare) (λ i j v. simp own_bare) refl)

layer_value-bare : (k : List ℕ) (c : Shape) → layer_value k (bare_shape c) ≡ map_g bare_value (layer_value k c)
layer_value-bare k opener = refl
layer_value-bare k no_content = refl
layer_value-bare k (content at c) = kind-bare (record { symbols = []; layers = [] }) layer_name_kind at c
layer_value-bare k (opening at c) = refl
layer_value-bare k formless = refl

on_layer_names-bare : (e : Env) (l : Line) (s : Set) (d : Drawing) (f : Form) → map_g bare_state (on_layer_names e l s d f) ≡ on_layer_names e (bare_line l) (bare_set s) (bare_drawing d) (bare_form f)
on_layer_names-bare e l s d ignored = refl
on_layer_names-bare e l s d (wrong n) = refl
on_layer_names-bare e l s d close = refl
on_layer_names-bare e l s d eof = refl
on_layer_names-bare e l s d (keyed k c) =
    rw (free-bare c, layer_value-bare k (free_shape_of c), length-map d.layers bare_layer, ids-bare d.layers) (simp (through, map-append))

on_defines-bare : (e : Env) (l : Line) (s : Set) (non : Bool) (f : Form) → map_g bare_state (on_defines e l s non f) ≡ on_defines e (bare_line l) (bare_set s) non (bare_form f)
on_defines-bare e l s non f =
    rw (known-bare s, define-bare s, nil-map bare_symbol s.symbols)
    (by-line (known_of s) defines_table (digits_of (define_range s)) (non ∷ false ∷ []) f (defines s non) _ _ _ _ _ _ (λ j v. simp through) (λ i j v. simp (through, blank-bare)) (simp through))

new_name-bare : (s : Set) (y : Symbol) → new_name (bare_set s) (bare_symbol y) ≡ new_name s y
new_name-bare s y = rw (name-bare y, names-bare s.symbols)

open_symbol-bare : (s : Set) (y : Symbol) (i : ℕ) → map_g bare_state (open_symbol s y i) ≡ open_symbol (bare_set s) (bare_symbol y) i
open_symbol-bare s y zero = refl
open_symbol-bare s y (suc zero) = refl
open_symbol-bare s y (suc (suc i)) = rw (at_bare y.own 1, none_bare (get_or y.own 1 None))

on_symbol-bare : (s : Set) (y : Symbol) (f : Form) → map_g bare_state (on_symbol s y f) ≡ on_symbol (bare_set s) (bare_symbol y) (bare_form f)
on_symbol-bare s y f =
    rw (known-bare s, define-bare s, marks-bare y.own)
    (by-line (known_of s) symbol_table (digits_of (define_range s)) (rows_there y.own) f (symbol s y) _ _ _ _ _ _
    (λ j v. rw (← (own_bare y.own j v), new_name-bare s (symbol_own (set y.own j (Some v)) y)) (simp through))
    (λ i j v. rw (← (own_bare y.own j v)) (open_symbol-bare s (symbol_own (set y.own j (Some v)) y) i)) (simp map-append))

on_hide-bare : (e : Env) (l : Line) (s : Set) (y : Symbol) (ps : List Point) (f : Form) → map_g bare_state (on_hide e l s y ps f) ≡ on_hide e (bare_line l) (bare_set s) (bare_symbol y) (map bare_point ps) (bare_form f)
on_hide-bare e l s y ps f =
    rw (known-bare s, length-map ps bare_point)
    (by-line (known_of s) (point_table false) (digits 0 0) (rows_at_limit (length ps) (point_table false)) f (hide s y ps) _ _ _ _ _ _
    (λ j v. simp (through, map-append, nums-bare)) (λ i j v. refl) refl)

on_elements-bare : (s : Set) (f : Form) → map_g bare_state (on_elements s f) ≡ on_elements (bare_set s) (bare_form f)
on_elements-bare s f =
    rw (known-bare s, used-bare s.now, here-bare s)
    (by-line (known_of s) element_table (digits 0 0) (rows_at_limit 0 element_table) f (elements s) _ _ _ _ _ _ (λ j v. refl)
    (λ i j v. simp (through, amount-bare)) (simp (through, map-append)))

-- ── figures ──
layer-bare : (h : Home) → is_layer (bare_home h) ≡ is_layer h
layer-bare (in_element y) = refl
layer-bare (in_layer k) = refl

home-bare : (s : Set) (h : Home) → home_table (bare_set s) (bare_home h) ≡ home_table s h
home-bare s (in_element y) = refl
home-bare s (in_layer k) = ap₂ layer_table (single-bare s) (wired-bare s)

close_figures-bare : (s : Set) (h : Home) (fs : List Figure) → map_g bare_state (close_figures s h fs) ≡ close_figures (bare_set s) (bare_home h) (map bare_figure fs)
close_figures-bare s (in_element y) fs = rw (nil-map bare_figure fs) (simp through)
close_figures-bare s (in_layer k) fs = simp map-append

open_placed-bare : (e : Env) (l : Line) (s : Set) (h : Home) (fs : List Figure) → map_g bare_state (open_placed e l s h fs) ≡ open_placed e (bare_line l) (bare_set s) (bare_home h) (map bare_figure fs)
open_placed-bare e l s (in_element y) fs = refl
open_placed-bare e l s (in_layer k) fs = simp (through, blank-bare)

begin-bare : (b : Bool) (s : Set) (k : ℕ) (fs : List Figure) (n : ℕ) → bare_state (begin_wire b s k fs n) ≡ begin_wire b (bare_set s) k (map bare_figure fs) 0
begin-bare true s k fs n = rw (blank-bare wire_table)
begin-bare false s k fs n = refl

open_wire-bare : (e : Env) (l : Line) (s : Set) (h : Home) (fs : List Figure) → map_g bare_state (open_wire e l s h fs) ≡ open_wire e (bare_line l) (bare_set s) (bare_home h) (map bare_figure fs)
open_wire-bare e l s (in_element y) fs = refl
open_wire-bare e l s (in_layer k) fs = simp (through, begin-bare)

open_figure-bare : (e : Env) (l : Line) (s : Set) (h : Home) (fs : List Figure) (i : ℕ) → map_g bare_state (open_figure e l s h fs i) ≡ open_figure e (bare_line l) (bare_set s) (bare_home h) (map bare_figure fs) i
open_figure-bare e l s h fs zero = refl
open_figure-bare e l s h fs (suc zero) = simp through
open_figure-bare e l s h fs (suc (suc zero)) = rw (layer-bare h) (simp (through, blank-bare))
open_figure-bare e l s h fs (suc (suc (suc zero))) = open_placed-bare e l s h fs
open_figure-bare e l s h fs (suc (suc (suc (suc i)))) = open_wire-bare e l s h fs

on_figures-bare : (e : Env) (l : Line) (s : Set) (h : Home) (fs : List Figure) (f : Form)
    → map_g bare_state (on_figures e l s h fs f) ≡ on_figures e (bare_line l) (bare_set s) (bare_home h) (map bare_figure fs) (bare_form f)
on_figures-bare e l s h fs f =
    rw (known-bare s, home-bare s h, range-bare s)
    (by-line (known_of s) (home_table s h) (range_of s) (rows_at_limit 0 (home_table s h)) f (figures s h fs) _ _ _ _ _ _ (λ j v. simp (through, map-append, nums-bare))
    (λ i j v. open_figure-bare e l s h fs i) (close_figures-bare s h fs))

on_successive-bare : (e : Env) (l : Line) (s : Set) (h : Home) (fs : List Figure) (n : ℕ) (ps : List Point) (f : Form)
    → map_g bare_state (on_successive e l s h fs n ps f) ≡ on_successive e (bare_line l) (bare_set s) (bare_home h) (map bare_figure fs) 0 (map bare_point ps) (bare_form f)
on_successive-bare e l s h fs n ps f =
    rw (known-bare s, layer-bare h, length-map ps bare_point)
    (by-line (known_of s) (point_table (is_layer h)) (digits 0 0) (rows_at_limit (length ps) (point_table (is_layer h))) f (successive s h fs n ps) _ _ _ _ _ _
    (λ j v. simp (through, map-append, nums-bare)) (λ i j v. refl) (simp (through, map-append)))

on_texts-bare : (s : Set) (h : Home) (fs : List Figure) (n : ℕ) (o : Slots) (f : Form)
    → map_g bare_state (on_texts s h fs n o f) ≡ on_texts (bare_set s) (bare_home h) (map bare_figure fs) 0 (bare_slots o) (bare_form f)
on_texts-bare s h fs n o f =
    rw (known-bare s, layer-bare h, marks-bare o)
    (by-line (known_of s) (text_table (is_layer h) 4 12) (digits 0 0) (rows_there o) f (texts s h fs n o) _ _ _ _ _ _ (λ j v. simp own_bare) (λ i j v. refl) (simp map-append))

-- ── the placed symbol ──
new_serial-bare : (s : Set) (fs : List Figure) (v : Value) → new_serial (bare_set s) (map bare_figure fs) (bare_value v) ≡ new_serial s fs v
new_serial-bare s fs v = rw (serials-bare v, set-serials s, figures-serials fs)

by_skip-bare : (k : Skip) (x y : Got State) → map_g bare_state (by_skip k x y) ≡ by_skip k (map_g bare_state x) (map_g bare_state y)
by_skip-bare passes x y = refl
by_skip-bare deeper x y = refl
by_skip-bare no_form x y = refl

on_unknown-bare : (e : Env) (s : Set) (h : ℕ) (fs : List Figure) (n : ℕ) (o : Held) (k : List ℕ) (c : Rest)
    → map_g bare_state (on_unknown e s h fs n o k c) ≡ on_unknown e (bare_set s) h (map bare_figure fs) 0 (bare_held o) k (bare_rest c)
on_unknown-bare e s h fs n o k c =
    rw (sym-bare s, skipped-bare k c, unknown-bare c)
    (map-cond bare_state (exceeds (range_of s) e.class.symbols) _ _
    ∙ ap₂ (cond (exceeds (range_of s) e.class.symbols)) (simp (by_skip-bare, through))
    (by-act (placing s h fs n (symbol_block o) 0) _ _ _ _ _ _ (act_unknown c) (λ j v. refl) (λ i j v. refl) refl))

on_placed-bare : (s : Set) (h : ℕ) (fs : List Figure) (n : ℕ) (o : Held) (p : ℕ) (a : Act)
    → map_g bare_state (on_placed s h fs n o p a) ≡ on_placed (bare_set s) h (map bare_figure fs) 0 (bare_held o) p (bare_act a)
on_placed-bare s h fs n o p a =
    by-act (placing s h fs n (symbol_block o) p) _ _ _ _ _ _ a
    (λ j v. rw (new_serial-bare s fs v, ← (enter-bare o p j v)) (simp through))
    (λ i j v. rw (← (enter-bare o p j v)))
    (shut_part-bare p _ _ _ _ (simp map-append) (λ q. refl))

on_placed_key-bare : (e : Env) (s : Set) (h : ℕ) (fs : List Figure) (n : ℕ) (o : Held) (k : List ℕ) (c : Rest) (f : Found)
    → map_g bare_state (on_placed_key e s h fs n o k c f) ≡ on_placed_key e (bare_set s) h (map bare_figure fs) 0 (bare_held o) k (bare_rest c) f
on_placed_key-bare e s h fs n o k c absent = on_unknown-bare e s h fs n o k c
on_placed_key-bare e s h fs n o k c (found j r) =
    map-cond bare_state (reaches e.class.symbols r.least) _ _
    ∙ ap₂ (cond (reaches e.class.symbols r.least))
    (rw (known-bare s, sym-bare s, part-marks o 0, row-bare (known_of s) (range_of s) (get_or (rows_there (part_of o 0)) j false) j r c)
    (on_placed-bare s h fs n o 0 (act_row (known_of s) (range_of s) (get_or (rows_there (part_of o 0)) j false) j r c)))
    (on_unknown-bare e s h fs n o k c)

on_placed_own-bare : (e : Env) (s : Set) (h : ℕ) (fs : List Figure) (n : ℕ) (o : Held) (f : Form)
    → map_g bare_state (on_placed_own e s h fs n o f) ≡ on_placed_own e (bare_set s) h (map bare_figure fs) 0 (bare_held o) (bare_form f)
on_placed_own-bare e s h fs n o ignored = refl
on_placed_own-bare e s h fs n o (wrong m) = refl
on_placed_own-bare e s h fs n o close =
    let a : Form → Act = act (known_of s) placed_table (both e.class.symbols (range_of s)) (rows_there (part_of o 0)) in
    rw (sym-bare s, part-marks o 0)
    (on_placed-bare s h fs n o 0 (a close)
    ∙ ap (on_placed (bare_set s) h (map bare_figure fs) 0 (bare_held o) 0) (sym (act-bare (known_of s) placed_table (both e.class.symbols (range_of s)) (rows_there (part_of o 0)) close)))
on_placed_own-bare e s h fs n o eof = refl
on_placed_own-bare e s h fs n o (keyed k c) = on_placed_key-bare e s h fs n o k c (find k placed_table)

on_placing-bare : (e : Env) (s : Set) (h : ℕ) (fs : List Figure) (n : ℕ) (o : Held) (p : ℕ) (f : Form)
    → map_g bare_state (on_placing e s h fs n o p f) ≡ on_placing e (bare_set s) h (map bare_figure fs) 0 (bare_held o) p (bare_form f)
on_placing-bare e s h fs n o zero f = on_placed_own-bare e s h fs n o f
on_placing-bare e s h fs n o (suc p) f =
    rw (known-bare s, part-marks o (suc p), act-bare (known_of s) (get_or placed_tables (suc p) []) (digits 0 0) (rows_there (part_of o (suc p))) f)
    (on_placed-bare s h fs n o (suc p) (act (known_of s) (get_or placed_tables (suc p) []) (digits 0 0) (rows_there (part_of o (suc p))) f))

-- ── a wire ──
-- how an element joins goes by the rows and values of the two alone
last-bare : (es : List Edge) → last_edge (map bare_edge es) ≡ map_o bare_edge (last_edge es)
last-bare [] = refl
last-bare (e ∷ []) = refl
last-bare (e ∷ f ∷ es) = last-bare (f ∷ es)

pub joined-bare : (b : Bool) (o : Option Edge) (row : ℕ) (v : List Num) → joined b (map_o bare_edge o) row v ≡ joined b o row v
joined-bare false o row v = refl
joined-bare true None row v = refl
joined-bare true (Some e) row v = refl

pub join-bare : (b : Bool) (o : Option Edge) (row : ℕ) → join_of b (map_o bare_edge o) row ≡ join_of b o row
join-bare false o row = refl
join-bare true None row = refl
join-bare true (Some e) row = refl

on_element-bare : (e : Env) (l : Line) (s : Set) (h : ℕ) (fs : List Figure) (n : ℕ) (w : Wire) (row : ℕ) (v : List Num)
    → map_g bare_state (on_element e l s h fs n w row v) ≡ on_element e (bare_line l) (bare_set s) h (map bare_figure fs) 0 (bare_wire w) row v
on_element-bare e l s h fs n w row v =
    let ends = joins_ends (join_digit s) in
    rw (wire-bare s, last-bare w.elements, joined-bare ends (last_edge w.elements) row v, join-bare ends (last_edge w.elements) row) (simp (through, map-append))

-- its attributes
new_number-bare : (s : Set) (fs : List Figure) (j : ℕ) (v : Value) → new_number (bare_set s) (map bare_figure fs) j (bare_value v) ≡ new_number s fs j v
new_number-bare s fs j v = rw (nums-bare v, set-serials s, figures-serials fs)

attribute-bare : (w : Wire) (j : ℕ) (v : Value) → bare_wire (with_attribute w j v) ≡ with_attribute (bare_wire w) j (bare_value v)
attribute-bare w j v = go (is_group_row j)
  where
    go : (b : Bool) → bare_wire (cond b (with_groups (set w.groups (j - first_group_row) (group_at w j ++ nums_of v ∷ [])) w) (with_once (set w.own j (Some v)) w))
        ≡ cond b (with_groups (set w.groups (j - first_group_row) (group_at w j ++ nums_of (bare_value v) ∷ [])) (bare_wire w))
        (with_once (set (bare_slots w.own) j (Some (bare_value v))) (bare_wire w))
    go true = rw (nums-bare v)
    go false = rw (← (own_bare w.own j v))

on_attribute-bare : (s : Set) (h : ℕ) (fs : List Figure) (n : ℕ) (w : Wire) (j : ℕ) (v : Value)
    → map_g bare_state (on_attribute s h fs n w j v) ≡ on_attribute (bare_set s) h (map bare_figure fs) 0 (bare_wire w) j (bare_value v)
on_attribute-bare s h fs n w j v = rw (new_number-bare s fs j v, ← (attribute-bare w j v), nums-bare v) (simp through)

on_wire_act-bare : (e : Env) (l : Line) (s : Set) (h : ℕ) (fs : List Figure) (n : ℕ) (w : Wire) (a : Act)
    → map_g bare_state (on_wire_act e l s h fs n w a) ≡ on_wire_act e (bare_line l) (bare_set s) h (map bare_figure fs) 0 (bare_wire w) (bare_act a)
on_wire_act-bare e l s h fs n w a =
    by-act (placing s h fs n (wire_block w) 0) _ _ _ _ _ _ a
    (λ j v. map-cond bare_state (is_element_row j) _ _
    ∙ ap₂ (cond (is_element_row j)) (rw (nums-bare v) (on_element-bare e l s h fs n w j (nums_of v))) (on_attribute-bare s h fs n w j v))
    (λ i j v. rw (blank-bare wire_text_table))
    (simp map-append)

full-bare : (w : Wire) → wire_full (bare_wire w) ≡ wire_full w
full-bare w = rw (marks-bare w.own)

wires-bare : (s : Set) → wires_of (bare_set s) ≡ wires_of s
wires-bare s = ap digits_of (wire-bare s)

test-same : {A : Type 0} (x y : A) (a b : Bool) → a ≡ b → cond a x y ≡ cond b x y
test-same x y a b e = ap (λ t. cond t x y) e

on_wire_unknown-bare : (e : Env) (l : Line) (s : Set) (h : ℕ) (fs : List Figure) (n : ℕ) (w : Wire) (k : List ℕ) (c : Rest)
    → map_g bare_state (on_wire_unknown e l s h fs n w k c) ≡ on_wire_unknown e (bare_line l) (bare_set s) h (map bare_figure fs) 0 (bare_wire w) k (bare_rest c)
on_wire_unknown-bare e l s h fs n w k c =
    map-cond bare_state (exceeds (wires_of s) e.class.wires) _ _
    ∙ ap₂ (cond (exceeds (wires_of s) e.class.wires)) (rw (skipped-bare k c) (simp (by_skip-bare, through))) (rw (unknown-bare c) (on_wire_act-bare e l s h fs n w (act_unknown c)))
    ∙ test-same _ _ _ _ (ap (λ d. exceeds d e.class.wires) (sym (wires-bare s)))

on_wire_key-bare : (e : Env) (l : Line) (s : Set) (h : ℕ) (fs : List Figure) (n : ℕ) (w : Wire) (k : List ℕ) (c : Rest) (f : Found)
    → map_g bare_state (on_wire_key e l s h fs n w k c f) ≡ on_wire_key e (bare_line l) (bare_set s) h (map bare_figure fs) 0 (bare_wire w) k (bare_rest c) f
on_wire_key-bare e l s h fs n w k c absent = on_wire_unknown-bare e l s h fs n w k c
on_wire_key-bare e l s h fs n w k c (found j r) =
    let a = act_row (known_of s) (wires_of s) (get_or (wire_full w) j false) j r c in
    let q : act_row (known_of (bare_set s)) (wires_of (bare_set s)) (get_or (wire_full (bare_wire w)) j false) j r (bare_rest c) ≡ bare_act a =
    ap (λ (full : List Bool). act_row (known_of (bare_set s)) (wires_of (bare_set s)) (get_or full j false) j r (bare_rest c)) (full-bare w)
    ∙ rw (known-bare s, wire-bare s) (row-bare (known_of s) (wires_of s) (get_or (wire_full w) j false) j r c) in
    map-cond bare_state (is_element_row j && w.past) _ _
    ∙ ap₂ (cond (is_element_row j && w.past))
    (rw (unknown-bare c) (on_wire_act-bare e l s h fs n w (act_unknown c)))
    (map-cond bare_state (reaches e.class.wires r.least) _ _
    ∙ ap₂ (cond (reaches e.class.wires r.least))
    (on_wire_act-bare e l s h fs n w a ∙ ap (on_wire_act e (bare_line l) (bare_set s) h (map bare_figure fs) 0 (bare_wire w)) (sym q))
    (on_wire_unknown-bare e l s h fs n w k c))

on_wire_own-bare : (e : Env) (l : Line) (s : Set) (h : ℕ) (fs : List Figure) (n : ℕ) (w : Wire) (f : Form)
    → map_g bare_state (on_wire_own e l s h fs n w f) ≡ on_wire_own e (bare_line l) (bare_set s) h (map bare_figure fs) 0 (bare_wire w) (bare_form f)
on_wire_own-bare e l s h fs n w ignored = refl
on_wire_own-bare e l s h fs n w (wrong m) = refl
on_wire_own-bare e l s h fs n w close =
    let a : Form → Act = act (known_of s) wire_table (both e.class.wires (wires_of s)) (rows_there w.own) in
    let q : act (known_of s) wire_table (both e.class.wires (wires_of (bare_set s))) (rows_there (bare_slots w.own)) close ≡ bare_act (a close) =
    rw (wire-bare s, marks-bare w.own) (act-bare (known_of s) wire_table (both e.class.wires (wires_of s)) (rows_there w.own) close) in
    on_wire_act-bare e l s h fs n w (a close) ∙ ap (on_wire_act e (bare_line l) (bare_set s) h (map bare_figure fs) 0 (bare_wire w)) (sym q)
on_wire_own-bare e l s h fs n w eof = refl
on_wire_own-bare e l s h fs n w (keyed k c) = on_wire_key-bare e l s h fs n w k c (find k wire_table)

on_wire_text-bare : (s : Set) (h : ℕ) (fs : List Figure) (n : ℕ) (w : Wire) (p : ℕ) (f : Form)
    → map_g bare_state (on_wire_text s h fs n w p f) ≡ on_wire_text (bare_set s) h (map bare_figure fs) 0 (bare_wire w) p (bare_form f)
on_wire_text-bare s h fs n w p f =
    rw (known-bare s, marks-bare w.writing)
    (by-line (known_of s) wire_text_table (digits 0 0) (rows_there w.writing) f (placing s h fs n (wire_block w) p) _ _ _ _ _ _
    (λ j v. simp own_bare) (λ i j v. refl) (simp map-append))

on_wire-bare : (e : Env) (l : Line) (s : Set) (h : ℕ) (fs : List Figure) (n : ℕ) (w : Wire) (p : ℕ) (f : Form)
    → map_g bare_state (on_wire e l s h fs n w p f) ≡ on_wire e (bare_line l) (bare_set s) h (map bare_figure fs) 0 (bare_wire w) p (bare_form f)
on_wire-bare e l s h fs n w zero f = on_wire_own-bare e l s h fs n w f
on_wire-bare e l s h fs n w (suc p) f = on_wire_text-bare s h fs n w (suc p) f

-- ── skipped lines ──
skip_ended-bare : (s : Set) (h : ℕ) (fs : List Figure) (n : ℕ) (b : Owned) → bare_state (skip_ended s h fs n b) ≡ skip_ended (bare_set s) h (map bare_figure fs) 0 (bare_owned b)
skip_ended-bare s h fs n (symbol_block o) = refl
skip_ended-bare s h fs n (wire_block w) = refl
skip_ended-bare s h fs n wire_unread = refl

unread_shut-bare : (s : Set) (h : ℕ) (fs : List Figure) (n : ℕ) (b : Owned) → map_g bare_state (unread_shut s h fs n b) ≡ unread_shut (bare_set s) h (map bare_figure fs) 0 (bare_owned b)
unread_shut-bare s h fs n (symbol_block o) = refl
unread_shut-bare s h fs n (wire_block w) = refl
unread_shut-bare s h fs n wire_unread = simp map-append

skip_shut-bare : (s : Set) (h : ℕ) (fs : List Figure) (n : ℕ) (b : Owned) (d : ℕ)
    → map_g bare_state (skip_shut s h fs n b d) ≡ skip_shut (bare_set s) h (map bare_figure fs) 0 (bare_owned b) d
skip_shut-bare s h fs n b zero = unread_shut-bare s h fs n b
skip_shut-bare s h fs n b (suc zero) = ap got (skip_ended-bare s h fs n b)
skip_shut-bare s h fs n b (suc (suc d)) = refl

on_skipping-bare : (s : Set) (h : ℕ) (fs : List Figure) (n : ℕ) (b : Owned) (d : ℕ) (f : Form)
    → map_g bare_state (on_skipping s h fs n b d f) ≡ on_skipping (bare_set s) h (map bare_figure fs) 0 (bare_owned b) d (bare_form f)
on_skipping-bare s h fs n b d ignored = refl
on_skipping-bare s h fs n b d (wrong m) = refl
on_skipping-bare s h fs n b d close = skip_shut-bare s h fs n b d
on_skipping-bare s h fs n b d eof = refl
on_skipping-bare s h fs n b d (keyed k c) = rw (skipped-bare k c) (simp (by_skip-bare, through))

-- ── one line ──
step_in-bare : (e : Env) (l : Line) (s : State) → map_g bare_state (step_in e l s) ≡ step_in e (bare_line l) (bare_state s)
step_in-bare e l (top s k) = on_top-bare e l s k l.form
step_in-bare e l (file s n h p) = on_file-bare l s n h p l.form
step_in-bare e l (drawing s d) = on_drawing-bare s d l.form
step_in-bare e l (layer_names s d) = on_layer_names-bare e l s d l.form
step_in-bare e l (defines s b) = on_defines-bare e l s b l.form
step_in-bare e l (symbol s y) = on_symbol-bare s y l.form
step_in-bare e l (hide s y ps) = on_hide-bare e l s y ps l.form
step_in-bare e l (elements s) = on_elements-bare s l.form
step_in-bare e l (figures s h fs) = on_figures-bare e l s h fs l.form
step_in-bare e l (successive s h fs n ps) = on_successive-bare e l s h fs n ps l.form
step_in-bare e l (texts s h fs n o) = on_texts-bare s h fs n o l.form
step_in-bare e l (placing s h fs n (symbol_block o) p) = on_placing-bare e s h fs n o p l.form
step_in-bare e l (placing s h fs n (wire_block w) p) = on_wire-bare e l s h fs n w p l.form
step_in-bare e l (placing s h fs n wire_unread p) = refl
step_in-bare e l (skipping s h fs n b d) = on_skipping-bare s h fs n b d l.form
step_in-bare e l (ended s) = refl

-- a line completes its volume, and the next begins, whatever the places
completes-bare : (l : Line) (s : State) → completes (bare_line l) (bare_state s) ≡ completes l s
completes-bare l s = rw (in-bare s, after-bare s, ignored-bare l.form, close-bare l.form, eof-bare l.form)
  where
    in-bare : (s : State) → in_elements (bare_state s) ≡ in_elements s
    in-bare (top s k) = refl
    in-bare (file s n h p) = refl
    in-bare (drawing s d) = refl
    in-bare (layer_names s d) = refl
    in-bare (defines s b) = refl
    in-bare (symbol s y) = refl
    in-bare (hide s y ps) = refl
    in-bare (elements s) = refl
    in-bare (figures s h fs) = refl
    in-bare (successive s h fs n ps) = refl
    in-bare (texts s h fs n o) = refl
    in-bare (placing s h fs n o p) = refl
    in-bare (skipping s h fs n o d) = refl
    in-bare (ended s) = refl

    after-bare : (s : State) → after_elements (bare_state s) ≡ after_elements s
    after-bare (top s k) = refl
    after-bare (file s n h p) = refl
    after-bare (drawing s d) = refl
    after-bare (layer_names s d) = refl
    after-bare (defines s b) = refl
    after-bare (symbol s y) = refl
    after-bare (hide s y ps) = refl
    after-bare (elements s) = refl
    after-bare (figures s h fs) = refl
    after-bare (successive s h fs n ps) = refl
    after-bare (texts s h fs n o) = refl
    after-bare (placing s h fs n o p) = refl
    after-bare (skipping s h fs n o d) = refl
    after-bare (ended s) = refl

    ignored-bare : (f : Form) → is_ignored (bare_form f) ≡ is_ignored f
    ignored-bare ignored = refl
    ignored-bare (wrong n) = refl
    ignored-bare close = refl
    ignored-bare eof = refl
    ignored-bare (keyed k c) = refl

    close-bare : (f : Form) → is_close (bare_form f) ≡ is_close f
    close-bare ignored = refl
    close-bare (wrong n) = refl
    close-bare close = refl
    close-bare eof = refl
    close-bare (keyed k c) = refl

    eof-bare : (f : Form) → is_eof (bare_form f) ≡ is_eof f
    eof-bare ignored = refl
    eof-bare (wrong n) = refl
    eof-bare close = refl
    eof-bare eof = refl
    eof-bare (keyed k c) = refl

next-bare : (s : State) → bare_state (next_volume s) ≡ next_volume (bare_state s)
next-bare (top s k) = refl
next-bare (file s n h p) = refl
next-bare (drawing s d) = refl
next-bare (layer_names s d) = refl
next-bare (defines s b) = refl
next-bare (symbol s y) = refl
next-bare (hide s y ps) = refl
next-bare (elements s) = refl
next-bare (figures s h fs) = refl
next-bare (successive s h fs n ps) = refl
next-bare (texts s h fs n o) = refl
next-bare (placing s h fs n o p) = refl
next-bare (skipping s h fs n o d) = refl
next-bare (ended s) = refl

pub step-bare : (e : Env) (l : Line) (s : State) → map_g bare_state (step e l s) ≡ step e (bare_line l) (bare_state s)
step-bare e l s = rw (completes-bare l s, ← (step_in-bare e l s)) (simp (through, next-bare))

-- ── all lines ──
pub run-bare : (e : Env) (ls : List Line) (s : State) → bare_outcome (run e s ls) ≡ run e (bare_state s) (map bare_line ls)
run-bare e [] s = finish-bare s
  where
    finish-bare : (s : State) → bare_outcome (finish s) ≡ finish (bare_state s)
    finish-bare (top s k) = refl
    finish-bare (file s n h p) = refl
    finish-bare (drawing s d) = refl
    finish-bare (layer_names s d) = refl
    finish-bare (defines s b) = refl
    finish-bare (symbol s y) = refl
    finish-bare (hide s y ps) = refl
    finish-bare (elements s) = refl
    finish-bare (figures s h fs) = refl
    finish-bare (successive s h fs n ps) = refl
    finish-bare (texts s h fs n o) = refl
    finish-bare (placing s h fs n o p) = refl
    finish-bare (skipping s h fs n o d) = refl
    finish-bare (ended s) = refl
run-bare e (l ∷ ls) s = rw (← (step-bare e l s)) (go (step e l s) (run-bare e ls))
  where
    go : (g : Got State) → ((u : State) → bare_outcome (run e u ls) ≡ run e (bare_state u) (map bare_line ls))
        → bare_outcome (then_run g l (λ u. run e u ls)) ≡ then_run (map_g bare_state g) (bare_line l) (λ u. run e u (map bare_line ls))
    go (got u) ih = ih u
    go (bad n) ih = refl

pub accepted_real : (e : Env) (ls : List Line) (s : State) (u : Set) → run e (bare_state s) (map bare_line ls) ≡ accepted u
    → (t : Set) × (run e s ls ≡ accepted t) × (bare_set t ≡ u)
accepted_real e ls s u h = go (run e s ls) (run-bare e ls s ∙ h)
  where
    go : (o : Outcome) → bare_outcome o ≡ accepted u → (t : Set) × (o ≡ accepted t) × (bare_set t ≡ u)
    go (refused n v l) p = absurd (let z : ◌≡◌ {A = ℕ} 0 1 = cc in omega arith)
    go (accepted t) p = (t, refl, cc)
