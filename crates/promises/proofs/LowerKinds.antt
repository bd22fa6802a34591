-- Of which rows the figures of a set are: in a layer rows of its table, in a wire rows of the wire's, and no wire stands in a symbol. So the
-- kinds of a wire's records are of nothing else.
use Rattle.std.specs.Prelude.{Some}
use Prim.Native.Nat.{ℕ, zero, suc, ◌-◌, ◌≤◌, ◌<◌}
use mathlib.Core.Bool.{Bool, true, false, ◌&&◌, ◌||◌, not}
use mathlib.Core.List.{List, [], ◌∷◌, ◌++◌}
use mathlib.Core.Path.{◌≡◌, refl}
use native.Mathlib.Omega.{arith}
use lib.Dec.{eqb, leb, ltb}
use lib.ListN.{length, get_or, set, length-set}
use borrow.Author.Tests.{lt-ltb}
use Rattle.rules.specs.declared.Digits.{Digits}
use Rattle.rules.specs.Base.{is_nil, all, has_number}
use Rattle.rules.specs.RefusalNumbers.{Got, bad, unless, also}
use Rattle.rules.specs.Lines.{Rest, Form, ignored, wrong, close, eof, keyed, shape_of, has_form}
use Rattle.rules.specs.RangeClass.{digits, digits_of, reaches, exceeds, both, knows_wires, skip_of, most_depth}
use Rattle.rules.specs.Values.{Num, Value, Known, amount_at, nums_of}
use Rattle.rules.specs.Rows.{Rule, Found, absent, found, find, Slots, Held, part_of, rows_there, rows_at_limit, Act, stay, entry, begin, shut, refuse, or_refuse, act_row, act_unknown, act_found, act, complete}
use Rattle.rules.specs.Blocks.{top_table, file_tables, drawing_table, defines_table, symbol_table, element_table}
use Rattle.rules.specs.Figures.{layer_table, point_table, text_table, placed_table, placed_tables, wire_table, wire_text_table, first_group_row, least_points}
use Rattle.rules.specs.Sets.{Point, Edge, Wire, Figure, plain, chain, lettering, placed, wired, passed, Drawing, Symbol, Contents, Set, symbol_own, is_first, is_single, is_wired, arc_of, range_of, define_range, join_digit, wires_of, known_of, used_in}
use Rattle.rules.specs.VolumesAndTotals.{chained, dated, counted_here}
use Rattle.rules.specs.Machine.{Line, Env, Home, in_element, in_layer, State, top, file, drawing, layer_names, defines, symbol, hide, elements, figures, successive, texts, placing, skipping, ended, symbol_block, wire_block, wire_unread, Owned, by_act, begin_wire, open_top, on_top, on_file, on_drawing, on_layer_names, new_name, open_symbol, on_symbol, on_defines, on_hide, on_elements, is_layer, home_table, close_figures, open_figure, on_figures, on_successive, on_texts, file_kinds}
use Rattle.rules.specs.PlacedSymbol.{on_unknown, new_serial, on_placed, on_placed_key, on_placed_own, on_placing, skip_shut, on_skipping}
use Rattle.rules.specs.Wires.{joined, joins_ends, last_edge, group_at, is_group_row, wire_full, is_element_row, on_element, nums_alike, new_number, on_attribute, on_wire_act, on_wire_unknown, on_wire_key, on_wire}
use Rattle.rules.specs.LineByLine.{step_in, completes, next_volume, step}
use Rattle.rules.proofs.Chains.{and_left, and_right, and_true, by_cond, On, on-unless, on-cond, on-map, on-also, on_weaken, all_append}
use Rattle.rules.proofs.Rows.{found-row, row_below}
use Rattle.promises.proofs.ClosedActs.{on-by_act}
use Rattle.rules.proofs.OnActs.{on-layers, on-taking, on-shut, on_skip}
use Rattle.promises.proofs.OnEof.{on-eof}
use Rattle.promises.proofs.LowerRows.{RowAct, row-act, entered, opened, refused}

-- ── what stands where ──
-- a layer's table has eight rows at most, the first two of a wire's are elements
abbrev pub layer_rows : ℕ
layer_rows = 8

abbrev pub edge_rows : ℕ
edge_rows = 2

abbrev pub edge_row : Edge → Bool
edge_row e = ltb e.row edge_rows

-- a wire's elements are of these rows, and it has a list of lines for each of the three keys that repeat
abbrev pub group_rows : ℕ
group_rows = 3

abbrev pub wire_shape : Wire → Bool
wire_shape w = all edge_row w.elements && eqb (length w.groups) group_rows

abbrev pub layer_figure : Figure → Bool
layer_figure (plain n j v) = ltb j layer_rows
layer_figure (chain n ps) = true
layer_figure (lettering n s) = true
layer_figure (placed n h) = true
layer_figure (wired n w) = wire_shape w
layer_figure (passed n) = true

abbrev pub symbol_figure : Figure → Bool
symbol_figure (plain n j v) = true
symbol_figure (chain n ps) = true
symbol_figure (lettering n s) = true
symbol_figure (placed n h) = true
symbol_figure (wired n w) = false
symbol_figure (passed n) = false

abbrev pub symbol_shapes : Symbol → Bool
symbol_shapes y = all symbol_figure y.figures

abbrev pub layer_figures : Contents → Bool
layer_figures v = all (λ u. all layer_figure u.figures) v.blocks

-- the symbols, the closed volumes, the volume at hand
abbrev pub Rows : Set → Type 0
Rows s = (all symbol_shapes s.symbols ≡ true) × (all layer_figures s.volumes ≡ true) × (layer_figures s.now ≡ true)

abbrev HomeRows : Home → List Figure → Type 0
HomeRows (in_element y) fs = all symbol_figure fs ≡ true
HomeRows (in_layer k) fs = all layer_figure fs ≡ true

abbrev OwnedRows : Owned → Type 0
OwnedRows (symbol_block o) = Unit {0}
OwnedRows (wire_block w) = wire_shape w ≡ true
OwnedRows wire_unread = Unit {0}

abbrev pub Kinds : State → Type 0
Kinds (top s k) = Rows s
Kinds (file s n h p) = Rows s
Kinds (drawing s d) = Rows s
Kinds (layer_names s d) = Rows s
Kinds (defines s b) = Rows s
Kinds (symbol s y) = Rows s × (symbol_shapes y ≡ true)
Kinds (hide s y ps) = Rows s × (symbol_shapes y ≡ true)
Kinds (elements s) = Rows s
Kinds (figures s h fs) = Rows s × HomeRows h fs
Kinds (successive s h fs n ps) = Rows s × HomeRows h fs
Kinds (texts s h fs n o) = Rows s × HomeRows h fs
Kinds (placing s k fs n b p) = Rows s × HomeRows (in_layer k) fs × OwnedRows b
Kinds (skipping s k fs n b d) = Rows s × HomeRows (in_layer k) fs × OwnedRows b
Kinds (ended s) = Rows s

all_more : {A : Type 0} (p : A → Bool) (s : List A) (a : A) → all p s ≡ true → p a ≡ true → all p (s ++ a ∷ []) ≡ true
all_more p s a e f = rw (all_append p s (a ∷ []), e, f)

-- ── a line that is entered is of a row of its table ──
abbrev Below : ℕ → Act → Type 0
Below n stay = Unit {0}
Below n (entry j v) = j < n
Below n (begin i j v) = Unit {0}
Below n shut = Unit {0}
Below n (refuse m) = Unit {0}

found_below : (k : Known) (t : List Rule) (d : Digits) (full : List Bool) (key : List ℕ) (x : Rest) (f : Found) → find key t ≡ f → Below (length t) (act_found k d full x f)
found_below k t d full key x absent q = go (has_form (shape_of x))
  where
    go : (b : Bool) → Below (length t) (or_refuse (unless b 5 (bad 6)))
    go true = tt
    go false = tt
found_below k t d full key x (found j r) q = by (act_row k d (get_or full j false) j r x) (row-act k d (get_or full j false) j r x)
  where
    by : (a : Act) → RowAct d j r x a → Below (length t) a
    by _ (entered v l c) = row_below (found-row key t j r q).0
    by _ (opened v l c f) = tt
    by _ (refused i) = tt

act-below : (k : Known) (t : List Rule) (d : Digits) (full : List Bool) (f : Form) → Below (length t) (act k t d full f)
act-below k t d full ignored = tt
act-below k t d full (wrong n) = tt
act-below k t d full close = by_cond (Below (length t)) (complete d t full) (λ _. tt) (λ _. tt)
act-below k t d full eof = tt
act-below k t d full (keyed key x) = found_below k t d full key x (find key t) refl

on-entry : (P : State → Type 0) (now : State) (en : ℕ → Value → Got State) (op : ℕ → ℕ → Value → Got State) (cl : Got State) (n : ℕ) (a : Act) → Below n a
    → P now → ((j : ℕ) (v : Value) → j < n → On P (en j v)) → ((i j : ℕ) (v : Value) → On P (op i j v)) → On P cl → On P (by_act now en op (λ _. cl) a)
on-entry P now en op cl n stay h p q r s = p
on-entry P now en op cl n (entry j v) h p q r s = q j v h
on-entry P now en op cl n (begin i j v) h p q r s = r i j v
on-entry P now en op cl n shut h p q r s = s
on-entry P now en op cl n (refuse m) h p q r s = tt

layer-size : (single wires : Bool) → length (layer_table single wires) ≤ layer_rows
unfolding layer_table
layer-size single true = omega arith
layer-size single false = omega arith

-- ── each line keeps it so ──
module _ (e : Env) (l : Line) where
  rows_open : (s : Set) (k : ℕ) → Rows s → On Kinds (open_top e l s k)
  rows_open s zero i = on-taking Kinds e (length (file_kinds (is_first s))) s _ λ _. i
  rows_open s (suc zero) i = on-taking Kinds e 1 s _ λ _. i
  rows_open s (suc (suc zero)) i = i
  rows_open s (suc (suc (suc k))) i = i

  rows-top : (s : Set) (k : ℕ) (f : Form) → Rows s → On Kinds (on_top e l s k f)
  rows-top s k ignored i = i
  rows-top s k (wrong n) i = tt
  rows-top s k close i = tt
  rows-top s k eof i = on-eof Kinds e l s k λ _. i
  rows-top s k (keyed key c) i =
      on-by_act Kinds _ _ _ _ (act (known_of s) top_table (digits 0 0) (rows_at_limit 0 top_table) (keyed key c)) i (λ j v. tt)
      (λ m j v b. on-unless Kinds (eqb j k) 9 _ λ _. rows_open s j i) tt

  rows-file : (s : Set) (n : ℕ) (h : Held) (p : ℕ) (f : Form) → Rows s → On Kinds (on_file l s n h p f)
  rows-file s n h p f i =
      on-by_act Kinds _ _ _ _ (act (known_of s) (get_or (file_tables (is_first s)) p []) (digits 0 0) (rows_there (part_of h p)) f) i (λ j v. i) (λ m j v b. i)
      (on-shut Kinds p _ _ (on-unless Kinds (chained (is_first s) l.next h && dated s (is_first s) h) 16 _ λ _. (i.0, i.1, refl)) (λ q. i))

  rows-drawing : (s : Set) (d : Drawing) (f : Form) → Rows s → On Kinds (on_drawing s d f)
  rows-drawing s d f i = on-by_act Kinds _ _ _ _ (act (known_of s) drawing_table (digits_of (arc_of s)) (rows_there d.own) f) i (λ j v. i) (λ m j v b. i) i

  rows-layers : (s : Set) (d : Drawing) (f : Form) → Rows s → On Kinds (on_layer_names e l s d f)
  rows-layers s d f i = on-layers Kinds e l s d f i i λ k v _. i

  rows-defines : (s : Set) (non : Bool) (f : Form) → Rows s → On Kinds (on_defines e l s non f)
  rows-defines s non f i =
      on-by_act Kinds _ _ _ _ (act (known_of s) defines_table (digits_of (define_range s)) (non ∷ false ∷ []) f) i
      (λ j v. on-unless Kinds (is_nil s.symbols) 6 _ λ _. i)
      (λ m j v b. on-unless Kinds (not non) 6 _ λ _. on-taking Kinds e 1 s _ λ _. (i, refl))
      (on-unless Kinds (non || not (is_nil s.symbols)) 8 _ λ _. i)

  rows_open-symbol : (s : Set) (y : Symbol) (m : ℕ) → Kinds (symbol s y) → On Kinds (open_symbol s y m)
  rows_open-symbol s y zero i = tt
  rows_open-symbol s y (suc zero) i = (i.0, refl)
  rows_open-symbol s y (suc (suc m)) i = i

  rows-symbol : (s : Set) (y : Symbol) (f : Form) → Kinds (symbol s y) → On Kinds (on_symbol s y f)
  rows-symbol s y f i =
      on-by_act Kinds _ _ _ _ (act (known_of s) symbol_table (digits_of (define_range s)) (rows_there y.own) f) i
      (λ j v. on-unless Kinds (new_name s (symbol_own (set y.own j (Some v)) y)) 15 _ λ _. i)
      (λ m j v b. rows_open-symbol s (symbol_own (set y.own j (Some v)) y) m i)
      (all_more symbol_shapes s.symbols y i.0.0 i.1, i.0.1, i.0.2)

  rows-hide : (s : Set) (y : Symbol) (ps : List Point) (f : Form) → Kinds (hide s y ps) → On Kinds (on_hide e l s y ps f)
  rows-hide s y ps f i =
      on-by_act Kinds _ _ _ _ (act (known_of s) (point_table false) (digits 0 0) (rows_at_limit (length ps) (point_table false)) f) i
      (λ j v. on-taking Kinds e 1 s _ λ _. i) (λ m j v b. tt) i

  rows-elements : (s : Set) (f : Form) → Rows s → On Kinds (on_elements s f)
  rows-elements s f i =
      on-by_act Kinds _ _ _ _ (act (known_of s) element_table (digits 0 0) (rows_at_limit 0 element_table) f) i (λ j v. tt)
      (λ m j v b. on-unless Kinds (not (has_number (amount_at v 0) (used_in s.now))) 14 _ λ _. (i, refl))
      (on-unless Kinds (counted_here s) 17 _ λ _. (i.0, all_more layer_figures s.volumes s.now i.1 i.2, i.2))

  rows-close : (s : Set) (h : Home) (fs : List Figure) → Kinds (figures s h fs) → On Kinds (close_figures s h fs)
  rows-close s (in_element y) fs i = on-unless Kinds (not (is_nil fs)) 8 _ λ _. i
  rows-close s (in_layer k) fs i =
      (i.0.0, i.0.1, all_more (λ u. all layer_figure u.figures) s.now.blocks (record { layer = k; figures = fs }) i.0.2 i.1)

  rows-begin : (b : Bool) (s : Set) (k : ℕ) (fs : List Figure) (n : ℕ) → Kinds (figures s (in_layer k) fs) → Kinds (begin_wire b s k fs n)
  rows-begin true s k fs n i = (i.0, i.1, refl)
  rows-begin false s k fs n i = (i.0, i.1, tt)

  rows_open-figure : (s : Set) (h : Home) (fs : List Figure) (m : ℕ) → Kinds (figures s h fs) → On Kinds (open_figure e l s h fs m)
  rows_open-figure s h fs zero i = tt
  rows_open-figure s h fs (suc zero) i = on-taking Kinds e 1 s _ λ _. i
  rows_open-figure s h fs (suc (suc zero)) i = on-taking Kinds e 1 s _ λ _. i
  rows_open-figure s (in_element y) fs (suc (suc (suc zero))) i = tt
  rows_open-figure s (in_layer k) fs (suc (suc (suc zero))) i = on-taking Kinds e 1 s _ λ _. (i.0, i.1, tt)
  rows_open-figure s (in_element y) fs (suc (suc (suc (suc m)))) i = tt
  rows_open-figure s (in_layer k) fs (suc (suc (suc (suc m)))) i = on-taking Kinds e 2 s _ λ _. rows-begin (knows_wires e.class) _ k fs l.line i

  rows_more : (s : Set) (h : Home) (fs : List Figure) (f : Figure) → symbol_figure f ≡ true → layer_figure f ≡ true → HomeRows h fs → HomeRows h (fs ++ f ∷ [])
  rows_more s (in_element y) fs f p q i = all_more symbol_figure fs f i p
  rows_more s (in_layer k) fs f p q i = all_more layer_figure fs f i q

  plain_more : (s : Set) (h : Home) (fs : List Figure) (j : ℕ) (v : Value) → j < length (home_table s h) → HomeRows h fs → HomeRows h (fs ++ plain l.line j (nums_of v) ∷ [])
  plain_more s (in_element y) fs j v w i = all_more symbol_figure fs (plain l.line j (nums_of v)) i refl
  plain_more s (in_layer k) fs j v w i =
      all_more layer_figure fs (plain l.line j (nums_of v)) i (lt-ltb j layer_rows (omega (arith, w, layer-size (is_single s) (is_wired s))))

  rows-figures : (s : Set) (h : Home) (fs : List Figure) (f : Form) → Kinds (figures s h fs) → On Kinds (on_figures e l s h fs f)
  rows-figures s h fs f i =
      let full = rows_at_limit 0 (home_table s h) in
      on-entry Kinds _ _ _ _ (length (home_table s h)) (act (known_of s) (home_table s h) (range_of s) full f) (act-below (known_of s) (home_table s h) (range_of s) full f) i
      (λ j v w. on-taking Kinds e 1 s _ λ _. (i.0, plain_more s h fs j v w i.1))
      (λ m j v. rows_open-figure s h fs m i)
      (rows-close s h fs i)

  rows-successive : (s : Set) (h : Home) (fs : List Figure) (n : ℕ) (ps : List Point) (f : Form) → Kinds (successive s h fs n ps) → On Kinds (on_successive e l s h fs n ps f)
  rows-successive s h fs n ps f i =
      on-by_act Kinds _ _ _ _ (act (known_of s) (point_table (is_layer h)) (digits 0 0) (rows_at_limit (length ps) (point_table (is_layer h))) f) i
      (λ j v. on-taking Kinds e 1 s _ λ _. i) (λ m j v b. tt)
      (on-unless Kinds (leb least_points (length ps)) 8 _ λ _. (i.0, rows_more s h fs (chain n ps) refl refl i.1))

  rows-texts : (s : Set) (h : Home) (fs : List Figure) (n : ℕ) (o : Slots) (f : Form) → Kinds (texts s h fs n o) → On Kinds (on_texts s h fs n o f)
  rows-texts s h fs n o f i =
      on-by_act Kinds _ _ _ _ (act (known_of s) (text_table (is_layer h) 4 12) (digits 0 0) (rows_there o) f) i (λ j v. i) (λ m j v b. tt)
      (i.0, rows_more s h fs (lettering n o) refl refl i.1)

  -- ── in a placed symbol ──
  abbrev InLayer : Set → List Figure → Type 0
  InLayer s fs = Rows s × (all layer_figure fs ≡ true)

  rows-placed : (s : Set) (k : ℕ) (fs : List Figure) (n : ℕ) (o : Held) (p : ℕ) (a : Act) → InLayer s fs → On Kinds (on_placed s k fs n o p a)
  rows-placed s k fs n o p a i =
      on-by_act Kinds _ _ _ _ a (i.0, i.1, tt) (λ j v. on-unless Kinds (new_serial s fs v) 15 _ λ _. (i.0, i.1, tt)) (λ m j v b. (i.0, i.1, tt))
      (on-shut Kinds p _ _ (i.0, all_more layer_figure fs (placed n o) i.1 refl) (λ q. (i.0, i.1, tt)))

  rows-unknown : (s : Set) (k : ℕ) (fs : List Figure) (n : ℕ) (o : Held) (key : List ℕ) (c : Rest) → InLayer s fs → On Kinds (on_unknown e s k fs n o key c)
  rows-unknown s k fs n o key c i =
      on-cond Kinds (exceeds (range_of s) e.class.symbols) _ _
      (λ _. on_skip Kinds (skip_of key c) _ _ (i.0, i.1, tt) (i.0, i.1, tt))
      (λ _. on-by_act Kinds _ _ _ _ (act_unknown c) (i.0, i.1, tt) (λ j v. tt) (λ m j v b. tt) tt)

  rows-key : (s : Set) (k : ℕ) (fs : List Figure) (n : ℕ) (o : Held) (key : List ℕ) (c : Rest) (f : Found) → InLayer s fs → On Kinds (on_placed_key e s k fs n o key c f)
  rows-key s k fs n o key c absent i = rows-unknown s k fs n o key c i
  rows-key s k fs n o key c (found j r) i =
      on-cond Kinds (reaches e.class.symbols r.least) _ _
      (λ _. rows-placed s k fs n o 0 (act_row (known_of s) (range_of s) (get_or (rows_there (part_of o 0)) j false) j r c) i)
      (λ _. rows-unknown s k fs n o key c i)

  rows-own : (s : Set) (k : ℕ) (fs : List Figure) (n : ℕ) (o : Held) (f : Form) → InLayer s fs → On Kinds (on_placed_own e s k fs n o f)
  rows-own s k fs n o ignored i = (i.0, i.1, tt)
  rows-own s k fs n o (wrong m) i = tt
  rows-own s k fs n o close i = rows-placed s k fs n o 0 (act (known_of s) placed_table (both e.class.symbols (range_of s)) (rows_there (part_of o 0)) close) i
  rows-own s k fs n o eof i = tt
  rows-own s k fs n o (keyed key c) i = rows-key s k fs n o key c (find key placed_table) i

  rows-placing : (s : Set) (k : ℕ) (fs : List Figure) (n : ℕ) (o : Held) (p : ℕ) (f : Form) → InLayer s fs → On Kinds (on_placing e s k fs n o p f)
  rows-placing s k fs n o zero f i = rows-own s k fs n o f i
  rows-placing s k fs n o (suc p) f i = rows-placed s k fs n o (suc p) (act (known_of s) (get_or placed_tables (suc p) []) (digits 0 0) (rows_there (part_of o (suc p))) f) i

  -- ── in a wire ──
  rows-element : (s : Set) (k : ℕ) (fs : List Figure) (n : ℕ) (w : Wire) (j : ℕ) (v : List Num) → InLayer s fs → wire_shape w ≡ true → is_element_row j ≡ true
      → On Kinds (on_element e l s k fs n w j v)
  rows-element s k fs n w j v i h b =
      on-unless Kinds (joined (joins_ends (join_digit s)) (last_edge w.elements) j v) 11 _ λ _.
      on-taking Kinds e 1 s _ λ _.
      (i.0, i.1, and_true _ _ (all_more edge_row w.elements _ (and_left (all edge_row w.elements) _ h) b) (and_right (all edge_row w.elements) _ h))

  rows-attribute : (s : Set) (k : ℕ) (fs : List Figure) (n : ℕ) (w : Wire) (j : ℕ) (v : Value) → InLayer s fs → wire_shape w ≡ true → On Kinds (on_attribute s k fs n w j v)
  rows-attribute s k fs n w j v i h =
      on-unless Kinds (nums_alike w j (nums_of v)) 11 _ λ _.
      on-unless Kinds (new_number s fs j v) 15 _ λ _.
      (i.0, i.1, by_cond (λ x. wire_shape x ≡ true) (is_group_row j) (λ _. more) (λ _. h))
    where
      more : (all edge_row w.elements && eqb (length (set w.groups (j - first_group_row) (group_at w j ++ nums_of v ∷ []))) group_rows) ≡ true
      more = rw (length-set w.groups (j - first_group_row) (group_at w j ++ nums_of v ∷ [])) h

  rows-wire-act : (s : Set) (k : ℕ) (fs : List Figure) (n : ℕ) (w : Wire) (a : Act) → InLayer s fs → wire_shape w ≡ true → On Kinds (on_wire_act e l s k fs n w a)
  rows-wire-act s k fs n w a i h =
      on-by_act Kinds _ _ _ _ a (i.0, i.1, h)
      (λ j v. on-cond Kinds (is_element_row j) _ _ (λ b. rows-element s k fs n w j (nums_of v) i h b) (λ _. rows-attribute s k fs n w j v i h))
      (λ m j v b. (i.0, i.1, h))
      (i.0, all_more layer_figure fs (wired n w) i.1 h)

  rows-wire-unknown : (s : Set) (k : ℕ) (fs : List Figure) (n : ℕ) (w : Wire) (key : List ℕ) (c : Rest) → InLayer s fs → wire_shape w ≡ true → On Kinds (on_wire_unknown e l s k fs n w key c)
  rows-wire-unknown s k fs n w key c i h =
      on-cond Kinds (exceeds (wires_of s) e.class.wires) _ _ (λ _. on_skip Kinds (skip_of key c) _ _ (i.0, i.1, h) (i.0, i.1, h)) (λ _. rows-wire-act s k fs n w (act_unknown c) i h)

  rows-wire-key : (s : Set) (k : ℕ) (fs : List Figure) (n : ℕ) (w : Wire) (key : List ℕ) (c : Rest) (f : Found) → InLayer s fs → wire_shape w ≡ true → On Kinds (on_wire_key e l s k fs n w key c f)
  rows-wire-key s k fs n w key c absent i h = rows-wire-unknown s k fs n w key c i h
  rows-wire-key s k fs n w key c (found j r) i h =
      on-cond Kinds (is_element_row j && w.past) _ _ (λ _. rows-wire-act s k fs n w (act_unknown c) i h) λ _.
      on-cond Kinds (reaches e.class.wires r.least) _ _
      (λ _. rows-wire-act s k fs n w (act_row (known_of s) (wires_of s) (get_or (wire_full w) j false) j r c) i h)
      (λ _. rows-wire-unknown s k fs n w key c i h)

  rows-wire : (s : Set) (k : ℕ) (fs : List Figure) (n : ℕ) (w : Wire) (p : ℕ) (f : Form) → InLayer s fs → wire_shape w ≡ true → On Kinds (on_wire e l s k fs n w p f)
  rows-wire s k fs n w zero ignored i h = (i.0, i.1, h)
  rows-wire s k fs n w zero (wrong m) i h = tt
  rows-wire s k fs n w zero close i h = rows-wire-act s k fs n w (act (known_of s) wire_table (both e.class.wires (wires_of s)) (rows_there w.own) close) i h
  rows-wire s k fs n w zero eof i h = tt
  rows-wire s k fs n w zero (keyed key c) i h = rows-wire-key s k fs n w key c (find key wire_table) i h
  rows-wire s k fs n w (suc p) f i h =
      on-by_act Kinds _ _ _ _ (act (known_of s) wire_text_table (digits 0 0) (rows_there w.writing) f) (i.0, i.1, h) (λ j v. (i.0, i.1, h)) (λ m j v b. tt) (i.0, i.1, h)

  -- ── in a block that is skipped ──
  rows-shut : (s : Set) (k : ℕ) (fs : List Figure) (n : ℕ) (b : Owned) (d : ℕ) → Kinds (skipping s k fs n b d) → On Kinds (skip_shut s k fs n b d)
  rows-shut s k fs n (symbol_block o) zero i = tt
  rows-shut s k fs n (wire_block w) zero i = tt
  rows-shut s k fs n wire_unread zero i = (i.0, all_more layer_figure fs (passed n) i.1 refl)
  rows-shut s k fs n (symbol_block o) (suc zero) i = i
  rows-shut s k fs n (wire_block w) (suc zero) i = i
  rows-shut s k fs n wire_unread (suc zero) i = i
  rows-shut s k fs n b (suc (suc d)) i = i

  rows-skipping : (s : Set) (k : ℕ) (fs : List Figure) (n : ℕ) (b : Owned) (d : ℕ) (f : Form) → Kinds (skipping s k fs n b d) → On Kinds (on_skipping s k fs n b d f)
  rows-skipping s k fs n b d ignored i = i
  rows-skipping s k fs n b d (wrong m) i = tt
  rows-skipping s k fs n b d close i = rows-shut s k fs n b d i
  rows-skipping s k fs n b d eof i = tt
  rows-skipping s k fs n b d (keyed key c) i = on_skip Kinds (skip_of key c) _ _ i (on-unless Kinds (ltb d most_depth) 18 _ λ _. i)

  rows_in : (st : State) → Kinds st → On Kinds (step_in e l st)
  rows_in (top s k) i = rows-top s k l.form i
  rows_in (file s n h p) i = rows-file s n h p l.form i
  rows_in (drawing s d) i = rows-drawing s d l.form i
  rows_in (layer_names s d) i = rows-layers s d l.form i
  rows_in (defines s b) i = rows-defines s b l.form i
  rows_in (symbol s y) i = rows-symbol s y l.form i
  rows_in (hide s y ps) i = rows-hide s y ps l.form i
  rows_in (elements s) i = rows-elements s l.form i
  rows_in (figures s h fs) i = rows-figures s h fs l.form i
  rows_in (successive s h fs n ps) i = rows-successive s h fs n ps l.form i
  rows_in (texts s h fs n o) i = rows-texts s h fs n o l.form i
  rows_in (placing s k fs n (symbol_block o) p) i = rows-placing s k fs n o p l.form (i.0, i.1)
  rows_in (placing s k fs n (wire_block w) p) i = rows-wire s k fs n w p l.form (i.0, i.1) i.2
  rows_in (placing s k fs n wire_unread p) i = tt
  rows_in (skipping s k fs n b d) i = rows-skipping s k fs n b d l.form i
  rows_in (ended s) i = tt

  rows-anew : (st : State) → Kinds st → Kinds (next_volume st)
  rows-anew (top s k) i = i
  rows-anew (file s n h p) i = i
  rows-anew (drawing s d) i = i
  rows-anew (layer_names s d) i = i
  rows-anew (defines s b) i = i
  rows-anew (symbol s y) i = i
  rows-anew (hide s y ps) i = i
  rows-anew (elements s) i = i
  rows-anew (figures s h fs) i = i
  rows-anew (successive s h fs n ps) i = i
  rows-anew (texts s h fs n o) i = i
  rows-anew (placing s k fs n b p) i = i
  rows-anew (skipping s k fs n b d) i = i
  rows-anew (ended s) i = i

  pub rows_step : (st : State) → Kinds st → On Kinds (step e l st)
  rows_step st i =
      on-cond Kinds l.last _ _
      (λ _. on-map Kinds next_volume (also (completes l st) 9 (step_in e l st))
      (on-also (λ st'. Kinds (next_volume st')) (completes l st) 9 (step_in e l st) (λ _. on_weaken Kinds (λ st'. Kinds (next_volume st')) rows-anew (step_in e l st) (rows_in st i))))
      (λ _. rows_in st i)
