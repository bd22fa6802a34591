-- The number of the open drawing's, symbol's or FILE_FORMAT's record, kept from line to line.
use Rattle.std.specs.Prelude.{Some}
use Prim.Native.Nat.{ℕ, zero, suc, ◌+◌, ◌*◌}
use mathlib.Core.Bool.{Bool, true, false, ◌&&◌, ◌||◌, not}
use mathlib.Core.List.{List, [], ◌∷◌, map}
use mathlib.Core.Path.{◌≡◌, sym, ◌∙◌, ap, subst}
use borrow.Author.Tests.{eqb-true}
use lib.Dec.{eqb, leb, ltb}
use lib.IntN.{ℤ}
use lib.ListN.{length, get_or, set}
use Rattle.rules.specs.declared.Class.{Class}
use Rattle.rules.specs.Base.{flat, is_nil, among, has_number}
use Rattle.rules.specs.RefusalNumbers.{got}
use Rattle.rules.specs.Lines.{Rest, Form, ignored, wrong, close, eof, keyed, free_shape_of}
use Rattle.rules.specs.RangeClass.{digits, digits_of, reaches, exceeds, both, skip_of, most_depth, knows_wires}
use Rattle.rules.specs.Values.{amount_at, is_layer_id, nums_of}
use Rattle.rules.specs.Rows.{Slots, Found, absent, found, find, Held, part_of, rows_there, rows_at_limit, Act, act_row, act_unknown, act}
use Rattle.rules.specs.Blocks.{top_table, file_tables, drawing_table, most_layers, defines_table, symbol_table, element_table}
use Rattle.rules.specs.Figures.{least_points, point_table, text_table, placed_table, placed_tables, wire_table, wire_text_table}
use Rattle.rules.specs.Sets.{Point, Wire, Figure, Drawing, Symbol, Set, is_first, with_records, arc_of, range_of, define_range, join_digit, wires_of, known_of, used_in, symbol_own}
use Rattle.rules.specs.VolumesAndTotals.{chained, dated, counted_here, counted_all, layers_used, partners_exist}
use Rattle.rules.specs.Machine.{Line, in_last_volume, Env, Home, in_element, in_layer, is_layer, State, top, file, drawing, layer_names, defines, symbol, hide, elements, figures, successive, texts, placing, skipping, ended, Owned, symbol_block, wire_block, wire_unread, past_element}
use Rattle.rules.specs.Machine.{room_for, tests_partners, kind_in, file_kinds, open_top, on_top, on_file, on_drawing, layer_value, on_layer_names, on_defines, new_name, open_symbol, on_symbol, on_hide, on_elements, home_table, close_figures, open_placed, begin_wire, open_wire, open_figure, on_figures, on_successive, on_texts}
use Rattle.rules.specs.RecordTable.{kind_line, kind_successive, kind_text, kind_point}
use Rattle.rules.specs.PlacedSymbol.{on_unknown, new_serial, on_placed, on_placed_key, on_placing, skip_shut, on_skipping}
use Rattle.rules.specs.LineByLine.{step_in}
use Rattle.rules.specs.Wires.{joins_ends, last_edge, joined, is_element_row, nums_alike, new_number, wire_full, on_wire_act, on_wire_unknown, on_wire_key, on_wire}
use Rattle.rules.proofs.OnActs.{on-shut, on_skip}
use Rattle.rules.proofs.Chains.{On, on-unless, on-cond, on_then, on-got}
use Rattle.standing.specs.Kept.{shut_so_far, HomeOwnAt, OwnAt, own_behind}
use Rattle.standing.proofs.MoreRecords.{closed-taken}
use Rattle.standing.proofs.ClosedActs.{on-by_act}

-- ── line by line ──
module _ (c : Class) (e : Env) (l : Line) (records : ℕ) where
  -- so many records were taken
  abbrev Sized : State → Type 0
  Sized st = length (flat (shut_so_far c st)) ≡ 32 * records

  own_open : (s : Set) (j : ℕ) → Sized (top s j) → On (OwnAt c records) (open_top e l s j)
  own_open s zero size =
      on-unless (OwnAt c records) (room_for e.limit (s.taken + length (file_kinds (is_first s)))) 19 _
      λ _. ap (λ (r : List (List ℤ)). length (flat r)) (closed-taken c s (file_kinds (is_first s))) ∙ size
  own_open s (suc zero) size = on-unless (OwnAt c records) (room_for e.limit (s.taken + 1)) 19 _ λ _. size
  own_open s (suc (suc zero)) size = tt
  own_open s (suc (suc (suc k))) size = tt

  own-top : (s : Set) (k : ℕ) (f : Form) → Sized (top s k) → On (OwnAt c records) (on_top e l s k f)
  own-top s k ignored size = tt
  own-top s k (wrong n) size = tt
  own-top s k close size = tt
  own-top s k eof size =
      on-unless (OwnAt c records) (eqb k past_element && (in_last_volume l && l.last)) 9 _ λ _.
      on-unless (OwnAt c records) (layers_used s) 14 _ λ _.
      on-unless (OwnAt c records) (counted_all s) 17 _ λ _.
      on-unless (OwnAt c records) (not (tests_partners e.class s) || partners_exist s) 21 _ λ _. tt
  own-top s k (keyed key r) size =
      on-by_act (OwnAt c records) _ _ _ _ (act (known_of s) top_table (digits 0 0) (rows_at_limit 0 top_table) (keyed key r)) tt (λ j v. tt)
      (λ i j v _. on-unless (OwnAt c records) (eqb j k) 9 _ λ q. own_open s j (subst (λ (m : ℕ). Sized (top s m)) (sym (eqb-true j k q)) size))
      tt

  own-defines : (s : Set) (non : Bool) (f : Form) → Sized (defines s non) → On (OwnAt c records) (on_defines e l s non f)
  own-defines s non f size =
      on-by_act (OwnAt c records) _ _ _ _ (act (known_of s) defines_table (digits_of (define_range s)) (non ∷ false ∷ []) f) tt
      (λ j v. on-unless (OwnAt c records) (is_nil s.symbols) 6 _ λ _. tt)
      (λ i j v _. on-unless (OwnAt c records) (not non) 6 _ λ _. on-unless (OwnAt c records) (room_for e.limit (s.taken + 1)) 19 _ λ _. size)
      (on-unless (OwnAt c records) (non || not (is_nil s.symbols)) 8 _ λ _. tt)

  -- elsewhere it stays
  module _ (own : ℕ) where
    abbrev P : State → Type 0
    P = OwnAt c own

    own-file : (s : Set) (n : ℕ) (h : Held) (p : ℕ) (f : Form) → P (file s n h p) → On P (on_file l s n h p f)
    own-file s n h p f i =
        on-by_act P _ _ _ _ (act (known_of s) (get_or (file_tables (is_first s)) p []) (digits 0 0) (rows_there (part_of h p)) f) i (λ j v. i) (λ m j v _. i)
        (on-shut P p _ _ (on-unless P (chained (is_first s) l.next h && dated s (is_first s) h) 16 _ λ _. tt) (λ q. i))

    own-drawing : (s : Set) (d : Drawing) (f : Form) → P (drawing s d) → On P (on_drawing s d f)
    own-drawing s d f i = on-by_act P _ _ _ _ (act (known_of s) drawing_table (digits_of (arc_of s)) (rows_there d.own) f) i (λ j v. i) (λ m j v _. i) tt

    own-layers : (s : Set) (d : Drawing) (f : Form) → P (layer_names s d) → On P (on_layer_names e l s d f)
    own-layers s d ignored i = i
    own-layers s d (wrong n) i = tt
    own-layers s d close i = i
    own-layers s d eof i = tt
    own-layers s d (keyed k r) i =
        on-unless P (is_layer_id k) 6 _ λ _.
        on_then P (layer_value k (free_shape_of r)) _ λ v _.
        on-unless P (ltb (length d.layers) most_layers) 11 _ λ _.
        on-unless P (not (among k (map (λ y. y.id) d.layers))) 14 _ λ _.
        on-unless P (room_for e.limit (s.taken + 1)) 19 _ λ _. i

    own-part : (s : Set) (y : Symbol) (i : ℕ) → P (symbol s y) → On P (open_symbol s y i)
    own-part s y zero h = tt
    own-part s y (suc zero) h = h
    own-part s y (suc (suc i)) h = h

    own-symbol : (s : Set) (y : Symbol) (f : Form) → P (symbol s y) → On P (on_symbol s y f)
    own-symbol s y f i =
        on-by_act P _ _ _ _ (act (known_of s) symbol_table (digits_of (define_range s)) (rows_there y.own) f) i
        (λ j v. on-unless P (new_name s (symbol_own (set y.own j (Some v)) y)) 15 _ λ _. i) (λ m j v _. own-part s (symbol_own (set y.own j (Some v)) y) m i) tt

    own-hide : (s : Set) (y : Symbol) (ps : List Point) (f : Form) → P (hide s y ps) → On P (on_hide e l s y ps f)
    own-hide s y ps f i =
        on-by_act P _ _ _ _ (act (known_of s) (point_table false) (digits 0 0) (rows_at_limit (length ps) (point_table false)) f) i
        (λ j v. on-unless P (room_for e.limit (s.taken + 1)) 19 _ λ _. i) (λ m j v _. tt) i

    own-elements : (s : Set) (f : Form) → On P (on_elements s f)
    own-elements s f =
        on-by_act P _ _ _ _ (act (known_of s) element_table (digits 0 0) (rows_at_limit 0 element_table) f) tt (λ j v. tt)
        (λ m j v _. on-unless P (not (has_number (amount_at v 0) (used_in s.now))) 14 _ λ _. tt) (on-unless P (counted_here s) 17 _ λ _. tt)

    -- figures: one more record was taken
    own_home : (ks : List ℕ) (s : Set) (h : Home) → HomeOwnAt own s h → HomeOwnAt own (with_records ks s) h
    own_home ks s (in_element y) i = i
    own_home ks s (in_layer k) i = tt

    own-close : (s : Set) (h : Home) (fs : List Figure) → HomeOwnAt own s h → On P (close_figures s h fs)
    own-close s (in_element y) fs i = on-unless P (not (is_nil fs)) 8 _ λ _. i
    own-close s (in_layer k) fs i = tt

    own-placed : (s : Set) (h : Home) (fs : List Figure) → On P (open_placed e l s h fs)
    own-placed s (in_element y) fs = tt
    own-placed s (in_layer k) fs = on-unless P (room_for e.limit (s.taken + 1)) 19 _ λ _. tt

    -- read or skipped whole
    own-begun : (b : Bool) (s : Set) (k : ℕ) (fs : List Figure) (n : ℕ) → P (begin_wire b s k fs n)
    own-begun true s k fs n = tt
    own-begun false s k fs n = tt

    own-wire : (s : Set) (h : Home) (fs : List Figure) → On P (open_wire e l s h fs)
    own-wire s (in_element y) fs = tt
    own-wire s (in_layer k) fs = on-unless P (room_for e.limit (s.taken + 2)) 19 _ λ _. own-begun (knows_wires e.class) (with_records (18 ∷ 19 ∷ []) s) k fs l.line

    own_block : (s : Set) (h : Home) (fs : List Figure) (m : ℕ) → HomeOwnAt own s h → On P (open_figure e l s h fs m)
    own_block s h fs zero i = tt
    own_block s h fs (suc zero) i = on-unless P (room_for e.limit (s.taken + 1)) 19 _ λ _. own_home (kind_in h kind_successive ∷ []) s h i
    own_block s h fs (suc (suc zero)) i = on-unless P (room_for e.limit (s.taken + 1)) 19 _ λ _. own_home (kind_in h kind_text ∷ []) s h i
    own_block s h fs (suc (suc (suc zero))) i = own-placed s h fs
    own_block s h fs (suc (suc (suc (suc m)))) i = own-wire s h fs

    own-figures : (s : Set) (h : Home) (fs : List Figure) (f : Form) → HomeOwnAt own s h → On P (on_figures e l s h fs f)
    own-figures s h fs f i =
        on-by_act P _ _ _ _ (act (known_of s) (home_table s h) (range_of s) (rows_at_limit 0 (home_table s h)) f) i
        (λ j v. on-unless P (room_for e.limit (s.taken + 1)) 19 _ λ _. own_home (kind_in h (kind_line + j) ∷ []) s h i) (λ m j v _. own_block s h fs m i) (own-close s h fs i)

    own-chain : (s : Set) (h : Home) (fs : List Figure) (n : ℕ) (ps : List Point) (f : Form) → HomeOwnAt own s h → On P (on_successive e l s h fs n ps f)
    own-chain s h fs n ps f i =
        on-by_act P _ _ _ _ (act (known_of s) (point_table (is_layer h)) (digits 0 0) (rows_at_limit (length ps) (point_table (is_layer h))) f) i
        (λ j v. on-unless P (room_for e.limit (s.taken + 1)) 19 _ λ _. own_home (kind_in h kind_point ∷ []) s h i) (λ m j v _. tt) (on-unless P (leb least_points (length ps)) 8 _ λ _. i)

    own-texts : (s : Set) (h : Home) (fs : List Figure) (n : ℕ) (o : Slots) (f : Form) → HomeOwnAt own s h → On P (on_texts s h fs n o f)
    own-texts s h fs n o f i = on-by_act P _ _ _ _ (act (known_of s) (text_table (is_layer h) 4 12) (digits 0 0) (rows_there o) f) i (λ j v. i) (λ m j v _. tt) i

    -- a placed symbol stands in a layer
    placed-act : (s : Set) (k : ℕ) (fs : List Figure) (n : ℕ) (o : Held) (p : ℕ) (a : Act) → On P (on_placed s k fs n o p a)
    placed-act s k fs n o p a = on-by_act P _ _ _ _ a tt (λ j v. on-unless P (new_serial s fs v) 15 _ λ _. tt) (λ m j v _. tt) (on-shut P p _ _ tt (λ q. tt))

    placed-unknown : (s : Set) (k : ℕ) (fs : List Figure) (n : ℕ) (o : Held) (key : List ℕ) (r : Rest) → On P (on_unknown e s k fs n o key r)
    placed-unknown s k fs n o key r =
        on-cond P (exceeds (range_of s) e.class.symbols) _ _ (λ _. on_skip P (skip_of key r) _ _ tt tt)
        (λ _. on-by_act P _ _ _ _ (act_unknown r) tt (λ j v. tt) (λ m j v _. tt) tt)

    placed-key : (s : Set) (k : ℕ) (fs : List Figure) (n : ℕ) (o : Held) (key : List ℕ) (r : Rest) (f : Found) → On P (on_placed_key e s k fs n o key r f)
    placed-key s k fs n o key r absent = placed-unknown s k fs n o key r
    placed-key s k fs n o key r (found j u) =
        on-cond P (reaches e.class.symbols u.least) _ _ (λ _. placed-act s k fs n o 0 (act_row (known_of s) (range_of s) (get_or (rows_there (part_of o 0)) j false) j u r)) (λ _. placed-unknown s k fs n o key r)

    own-placing : (s : Set) (k : ℕ) (fs : List Figure) (n : ℕ) (o : Held) (p : ℕ) (f : Form) → On P (on_placing e s k fs n o p f)
    own-placing s k fs n o zero ignored = tt
    own-placing s k fs n o zero (wrong m) = tt
    own-placing s k fs n o zero close = placed-act s k fs n o 0 (act (known_of s) placed_table (both e.class.symbols (range_of s)) (rows_there (part_of o 0)) close)
    own-placing s k fs n o zero eof = tt
    own-placing s k fs n o zero (keyed key r) = placed-key s k fs n o key r (find key placed_table)
    own-placing s k fs n o (suc p) f = placed-act s k fs n o (suc p) (act (known_of s) (get_or placed_tables (suc p) []) (digits 0 0) (rows_there (part_of o (suc p))) f)

    -- .. and a wire
    wire-act : (s : Set) (k : ℕ) (fs : List Figure) (n : ℕ) (x : Wire) (a : Act) → On P (on_wire_act e l s k fs n x a)
    wire-act s k fs n x a =
        on-by_act P _ _ _ _ a tt
        (λ j v. on-cond P (is_element_row j) _ _
        (λ _. on-unless P (joined (joins_ends (join_digit s)) (last_edge x.elements) j (nums_of v)) 11 _ λ _. on-unless P (room_for e.limit (s.taken + 1)) 19 _ λ _. tt)
        (λ _. on-unless P (nums_alike x j (nums_of v)) 11 _ λ _. on-unless P (new_number s fs j v) 15 _ λ _. tt))
        (λ m j v _. tt) tt

    wire-unknown : (s : Set) (k : ℕ) (fs : List Figure) (n : ℕ) (x : Wire) (key : List ℕ) (r : Rest) → On P (on_wire_unknown e l s k fs n x key r)
    wire-unknown s k fs n x key r =
        on-cond P (exceeds (wires_of s) e.class.wires) _ _ (λ _. on_skip P (skip_of key r) _ _ tt tt) (λ _. wire-act s k fs n x (act_unknown r))

    wire-key : (s : Set) (k : ℕ) (fs : List Figure) (n : ℕ) (x : Wire) (key : List ℕ) (r : Rest) (f : Found) → On P (on_wire_key e l s k fs n x key r f)
    wire-key s k fs n x key r absent = wire-unknown s k fs n x key r
    wire-key s k fs n x key r (found j u) =
        on-cond P (is_element_row j && x.past) _ _ (λ _. wire-act s k fs n x (act_unknown r))
        (λ _. on-cond P (reaches e.class.wires u.least) _ _ (λ _. wire-act s k fs n x (act_row (known_of s) (wires_of s) (get_or (wire_full x) j false) j u r))
        (λ _. wire-unknown s k fs n x key r))

    own_in-wire : (s : Set) (k : ℕ) (fs : List Figure) (n : ℕ) (x : Wire) (p : ℕ) (f : Form) → On P (on_wire e l s k fs n x p f)
    own_in-wire s k fs n x zero ignored = tt
    own_in-wire s k fs n x zero (wrong m) = tt
    own_in-wire s k fs n x zero close = wire-act s k fs n x (act (known_of s) wire_table (both e.class.wires (wires_of s)) (rows_there x.own) close)
    own_in-wire s k fs n x zero eof = tt
    own_in-wire s k fs n x zero (keyed key r) = wire-key s k fs n x key r (find key wire_table)
    own_in-wire s k fs n x (suc p) f = on-by_act P _ _ _ _ (act (known_of s) wire_text_table (digits 0 0) (rows_there x.writing) f) tt (λ j v. tt) (λ m j v _. tt) tt

    skipped-close : (s : Set) (k : ℕ) (fs : List Figure) (n : ℕ) (o : Owned) (d : ℕ) → On P (skip_shut s k fs n o d)
    skipped-close s k fs n (symbol_block o) zero = tt
    skipped-close s k fs n (wire_block x) zero = tt
    skipped-close s k fs n wire_unread zero = tt
    skipped-close s k fs n (symbol_block o) (suc zero) = tt
    skipped-close s k fs n (wire_block x) (suc zero) = tt
    skipped-close s k fs n wire_unread (suc zero) = tt
    skipped-close s k fs n o (suc (suc d)) = tt

    own-skipping : (s : Set) (k : ℕ) (fs : List Figure) (n : ℕ) (o : Owned) (d : ℕ) (f : Form) → On P (on_skipping s k fs n o d f)
    own-skipping s k fs n o d ignored = tt
    own-skipping s k fs n o d (wrong m) = tt
    own-skipping s k fs n o d close = skipped-close s k fs n o d
    own-skipping s k fs n o d eof = tt
    own-skipping s k fs n o d (keyed key r) = on_skip P (skip_of key r) _ _ tt (on-unless P (ltb d most_depth) 18 _ λ _. tt)

    own_line : (st : State) → P st → Sized st → On (OwnAt c (own_behind st records own)) (step_in e l st)
    own_line (top s k) i size = own-top s k l.form size
    own_line (file s n h p) i size = own-file s n h p l.form i
    own_line (drawing s d) i size = own-drawing s d l.form i
    own_line (layer_names s d) i size = own-layers s d l.form i
    own_line (defines s b) i size = own-defines s b l.form size
    own_line (symbol s y) i size = own-symbol s y l.form i
    own_line (hide s y ps) i size = own-hide s y ps l.form i
    own_line (elements s) i size = own-elements s l.form
    own_line (figures s h fs) i size = own-figures s h fs l.form i
    own_line (successive s h fs n ps) i size = own-chain s h fs n ps l.form i
    own_line (texts s h fs n o) i size = own-texts s h fs n o l.form i
    own_line (placing s k fs n (symbol_block o) p) i size = own-placing s k fs n o p l.form
    own_line (placing s k fs n (wire_block x) p) i size = own_in-wire s k fs n x p l.form
    own_line (placing s k fs n wire_unread p) i size = tt
    own_line (skipping s k fs n o d) i size = own-skipping s k fs n o d l.form
    own_line (ended s) i size = tt

    -- the number is right behind any line that is taken
    pub own-kept : (st st' : State) → OwnAt c own st → length (flat (shut_so_far c st)) ≡ 32 * records → step_in e l st ≡ got st' → OwnAt c (own_behind st records own) st'
    own-kept st st' i size did = on-got (OwnAt c (own_behind st records own)) (step_in e l st) st' (own_line st i size) did
