-- The records of an accepted set are those that were taken on the way, each at its line, so they are as many and fit the table: an invariant of
-- the reading.
use Rattle.std.specs.Prelude.{Option, Some, None}
use Prim.Native.Nat.{ℕ, zero, suc, ◌+◌, ◌<◌}
use mathlib.Core.Bool.{Bool, true, false, cond, ◌&&◌, ◌||◌, not}
use mathlib.Core.List.{List, [], ◌∷◌, ◌++◌, map, append-nil, append_assoc}
use mathlib.Core.Path.{◌≡◌, refl, sym, ◌∙◌, ap, subst}
use native.Mathlib.Omega.{arith}
use lib.Dec.{eqb, leb, ltb, leb-zero}
use lib.ListN.{length, get_or, set, replicate, length-append, length-replicate, length-map}
use borrow.Author.Tests.{eqb-true}
use Rattle.rules.specs.declared.Class.{Class}
use Rattle.rules.specs.Base.{is_none, is_nil, flat, has_number}
use Rattle.rules.specs.RefusalNumbers.{Got, got, bad, map_g, also}
use Rattle.rules.specs.Lines.{Rest, Form, ignored, wrong, close, eof, keyed}
use Rattle.rules.specs.RangeClass.{digits, digits_of, reaches, exceeds, both, knows_wires, skip_of, most_depth}
use Rattle.rules.specs.Values.{Num, Value, amount_at, nums_of}
use Rattle.rules.specs.Rows.{Found, absent, found, find, Slots, Held, part_of, rows_there, rows_at_limit, Act, shut, refuse, act_row, act_unknown, act, complete}
use Rattle.rules.specs.Blocks.{top_table, file_tables, drawing_table, defines_table, symbol_table, element_table}
use Rattle.rules.specs.Figures.{point_table, text_table, placed_table, placed_tables, least_points}
use Rattle.rules.specs.Sets.{Point, Edge, Wire, Figure, plain, chain, lettering, placed, wired, passed, join_digit, with_records, Layer, Drawing, Symbol, LayerBlock, Contents, Set, nothing_yet, with_now, with_volume, symbol_own, is_first, arc_of, range_of, define_range, known_of, used_in}
use Rattle.rules.specs.VolumesAndTotals.{chained, dated, counted_here}
use Rattle.rules.specs.Machine.{Line, Env, Home, in_element, in_layer, State, top, file, drawing, layer_names, defines, symbol, hide, elements, figures, successive, texts, placing, skipping, ended, by_act, room_for, open_top, on_top, close_file, on_file, on_drawing, on_layer_names, new_name, open_symbol, on_symbol, on_defines, point_at, on_hide, on_elements, is_layer, home_table, close_figures, open_placed, open_figure, on_figures, on_successive, on_texts}
use Rattle.rules.specs.PlacedSymbol.{on_unknown, new_serial, on_placed, on_placed_key, on_placed_own, on_placing, skip_ended, unread_shut, skip_shut, on_skipping}
use Rattle.rules.specs.LineByLine.{step_in, is_ignored, is_close, is_eof, completes, next_volume, step, accepted, then_run, run}
use Rattle.rules.specs.RecordTable.{kind_wire, kind_wire_more, records_of}
use Rattle.rules.specs.Wires.{joins_ends, last_edge, join_of, joined, on_element, on_wire}
use Rattle.rules.specs.Machine.{symbol_block, wire_block, wire_unread, Owned, file_kinds, begin_wire, open_wire}
use Rattle.rules.proofs.Chains.{and_left, and_false, or_left, clash, by_cond, cond_same, On, on-unless, on-cond, on-map, on-also, on_weaken, nil-snoc, map-append, flat_append}
use Rattle.rules.proofs.Runs.{not-accepted, finish-ended}
use Rattle.rules.proofs.Rows.{row_below}
use Rattle.promises.specs.Acceptance.{Place, place, place_of}
use Rattle.promises.proofs.RecordLines.{point_places, edge_places, figure_places, figures_places, symbol_places, symbols_places, drawn_places, head_places, block_places, body_places, later_places, front_places, set_places, records-at}
use Rattle.promises.proofs.ClosedActs.{on-by_act}
use Rattle.rules.proofs.OnActs.{on-layers, on-taking, on-shut, on_skip}
use Rattle.promises.proofs.OnEof.{on-eof}
use Rattle.promises.proofs.OnWires.{on-wire}
use Rattle.promises.proofs.CountActs.{Begun, act-begin}
use Rattle.promises.proofs.CountState.{number, volume_of, file_places, open_places, within, front, home_places, in_figures, shown, Inv, Adds, still, took, slotted-set, slotted-figs, slotted-dots, slotted-blank, SymbolOpens, symbol-begun}

-- ── lists of places ──
flat-snoc : {A : Type 0} (f : A → List Place) (s : List A) (a : A) → flat (map f (s ++ a ∷ [])) ≡ flat (map f s) ++ f a
flat-snoc f s a = ap flat (map-append f s (a ∷ [])) ∙ flat_append (map f s) (f a ∷ []) ∙ ap (λ z. flat (map f s) ++ z) (append-nil (f a))

-- one more behind what stands behind x and p
snoc-behind : (x : List Place) (p : Place) (a b c : List Place) → c ≡ a ++ b → x ++ (p ∷ c) ≡ (x ++ (p ∷ a)) ++ b
snoc-behind x p a b c e = ap (λ z. x ++ (p ∷ z)) e ∙ sym (append_assoc x (p ∷ a) b)

points-more : (k : ℕ) (ps : List Point) (p : Point) → point_places k (ps ++ p ∷ []) ≡ point_places k ps ++ place k p.line ∷ []
points-more k ps p = map-append (λ q. place k q.line) ps (p ∷ [])

edges_more : (k : ℕ) (es : List Edge) (e : Edge) → edge_places k (es ++ e ∷ []) ≡ edge_places k es ++ place k e.line ∷ []
edges_more k es e = map-append (λ f. place k f.line) es (e ∷ [])

figures-more : (s : Set) (h : Home) (fs : List Figure) (f : Figure) → in_figures s h (fs ++ f ∷ []) ≡ in_figures s h fs ++ figure_places (number s) f
figures-more s h fs f =
    ap (λ z. home_places s h ++ z) (flat-snoc (figure_places (number s)) fs f) ∙ sym (append_assoc (home_places s h) (figures_places (number s) fs) (figure_places (number s) f))

-- ── a symbol's figures and hide points, behind what stands before them (x, and the symbol's own line p) ──
module _ (x : List Place) (p : Place) (k : ℕ) where
  abbrev inner : Bool → List Figure → List Point → List Place
  inner b fs ps = cond b (point_places k ps ++ figures_places k fs) (figures_places k fs ++ point_places k ps)

  element-opens : (b : Bool) (fs : List Figure) (ps : List Point) → fs ≡ [] → (x ++ (p ∷ point_places k ps)) ++ [] ≡ x ++ (p ∷ inner b fs ps)
  element-opens true fs ps e = rw (e, append-nil (x ++ (p ∷ point_places k ps)), append-nil (point_places k ps))
  element-opens false fs ps e = rw (e, append-nil (x ++ (p ∷ point_places k ps)))

  element-closes : (b : Bool) (fs : List Figure) (ps : List Point) → (b ≡ false → ps ≡ []) → x ++ (p ∷ inner b fs ps) ≡ (x ++ (p ∷ point_places k ps)) ++ figures_places k fs
  element-closes true fs ps h = sym (append_assoc x (p ∷ point_places k ps) (figures_places k fs))
  element-closes false fs ps h = rw (h refl, append-nil (figures_places k fs)) (sym (append_assoc x (p ∷ []) (figures_places k fs)))

  hide-opens : (b : Bool) (fs : List Figure) (ps : List Point) → ps ≡ [] → x ++ (p ∷ (figures_places k fs ++ [])) ≡ x ++ (p ∷ inner b fs ps)
  hide-opens true fs ps e = rw (e, append-nil (figures_places k fs))
  hide-opens false fs ps e = rw e

  hide-closes : (b : Bool) (fs : List Figure) (ps : List Point) → (b ≡ true → fs ≡ []) → x ++ (p ∷ inner b fs ps) ≡ x ++ (p ∷ (figures_places k fs ++ point_places k ps))
  hide-closes true fs ps h = rw (h refl, append-nil (point_places k ps))
  hide-closes false fs ps h = refl

-- ── volumes ──
is-nil : {A : Type 0} (s : List A) → is_nil s ≡ true → s ≡ []
is-nil [] e = refl
is-nil (a ∷ s) e = clash e refl

module _ (d : Drawing) (ys : List Symbol) where
  -- FILE_FORMAT closes, in the first volume and in a later one
  file-first : (vs : List Contents) (n : ℕ) → is_nil vs ≡ true → place (suc (length vs)) n ∷ place (suc (length vs)) n ∷ [] ≡ set_places d ys vs ++ file_places vs n
  file-first [] n e = refl
  file-first (v ∷ vs) n e = clash e refl

  file-later : (vs : List Contents) (v : Contents) → is_nil vs ≡ false → open_places d ys vs v ++ [] ≡ set_places d ys vs ++ file_places vs v.line
  file-later [] v e = clash refl e
  file-later (u ∷ us) v e = append-nil (open_places d ys (u ∷ us) v)

  -- SYMBOL_DEFINE closes
  front-is : (vs : List Contents) (v : Contents) → vs ≡ [] → v.blocks ≡ [] → open_places d ys vs v ++ body_places (suc (length vs)) v ≡ front_places (suc (length vs)) d ys v
  front-is vs v e f =
      subst (λ (us : List Contents). open_places d ys us v ++ body_places (suc (length us)) v ≡ front_places (suc (length us)) d ys v) (sym e) (rw f (append-nil (front_places 1 d ys v)))

  -- ELEMENT closes
  later_more : (k : ℕ) (vs : List Contents) (v : Contents) → later_places k (vs ++ v ∷ []) ≡ later_places k vs ++ (place (k + length vs) v.line ∷ body_places (k + length vs) v)
  later_more k [] v =
      let e : k ≡ k + 0 = omega arith in
      append-nil (place k v.line ∷ body_places k v) ∙ ap (λ (i : ℕ). place i v.line ∷ body_places i v) e
  later_more k (u ∷ us) v =
      let e : suc k + length us ≡ k + suc (length us) = omega arith in
      ap (λ z. (place k u.line ∷ body_places k u) ++ z) (later_more (suc k) us v ∙ ap (λ (i : ℕ). later_places (suc k) us ++ (place i v.line ∷ body_places i v)) e)
      ∙ sym (append_assoc (place k u.line ∷ body_places k u) (later_places (suc k) us) (place (k + suc (length us)) v.line ∷ body_places (k + suc (length us)) v))

  volume-closes : (vs : List Contents) (v : Contents) → set_places d ys (vs ++ v ∷ []) ≡ open_places d ys vs v ++ body_places (suc (length vs)) v
  volume-closes [] v = append-nil (front_places 1 d ys v ++ body_places 1 v)
  volume-closes (u ∷ us) v =
      let x = front_places 1 d ys u ++ body_places 1 u in
      let e : 2 + length us ≡ suc (suc (length us)) = omega arith in
      let k = suc (suc (length us)) in
      ap (λ z. x ++ z) (later_more 2 us v ∙ ap (λ (i : ℕ). later_places 2 us ++ (place i v.line ∷ body_places i v)) e)
      ∙ sym (append_assoc x (later_places 2 us) (place k v.line ∷ body_places k v))
      ∙ sym (append_assoc (x ++ later_places 2 us) (place k v.line ∷ []) (body_places k v))

-- ── the invariant, context by context ──
top_below : {full : List Bool} {i j : ℕ} → Begun top_table full i j → j < 4
unfolding top_table
top_below b = row_below b.row

-- one of two tests of which the first part is the same
pub both_left : (b t x y : Bool) → cond b (t && x) (t && y) ≡ true → t ≡ true
both_left true t x y e = and_left t x e
both_left false t x y e = and_left t y e

-- a volume that is not the last ends with the close of ELEMENT
pub closing : (b c : Bool) → cond b false (c || false) ≡ true → c ≡ true
closing true c q = clash q refl
closing false c q = or_left c false refl q

-- a line that closes a block, or is refused
pub on-close : (P : State → Type 0) (st : State) (en : ℕ → Value → Got State) (op : ℕ → ℕ → Value → Got State) (cl : Got State) (b : Bool)
    → On P cl → On P (by_act st en op (λ _. cl) (cond b shut (refuse 8)))
on-close P st en op cl true w = w
on-close P st en op cl false w = tt

module _ (e : Env) (l : Line) where
  -- what this line does to a state, in the midst of a volume
  abbrev Does : State → State → Type 0
  Does st st' = Adds e l.line (volume_of st) st st'

  -- and where it is the last of its volume
  abbrev Ends : State → State → Type 0
  Ends st st' = Adds e l.line (suc (volume_of st)) st (next_volume st')

  inv_open : (s : Set) (k : ℕ) → k < 4 → Inv e (top s k) → On (Does (top s k)) (open_top e l s k)
  inv_open s zero h i = on-taking (Does (top s 0)) e (length (file_kinds (is_first s))) s _ λ r. took (length (file_kinds (is_first s))) r i refl i.kept refl
  inv_open s (suc zero) h i = on-taking (Does (top s 1)) e 1 s _ (λ r. took 1 r i refl i.kept refl)
  inv_open s (suc (suc zero)) h i =
      let w = i.kept in
      still i (rw w.2 (append-nil (head_places (number s) s.now ++ drawn_places (number s) s.drawing))) (w.0, w.1) refl
  inv_open s (suc (suc (suc zero))) h i = still i refl tt refl
  inv_open s (suc (suc (suc (suc k)))) h i = absurd (omega arith)

  -- after ELEMENT the set may end, and the next volume may begin
  inv-ended : (s : Set) (k : ℕ) → eqb k 4 ≡ true → Inv e (top s k) → Does (top s k) (ended s)
  inv-ended s k q i = subst (λ (m : ℕ). Inv e (top s m) → Does (top s m) (ended s)) (sym (eqb-true k 4 q)) (λ i. still i refl tt tt) i

  inv-anew : (s : Set) (k : ℕ) → eqb k 4 ≡ true → Inv e (top s k) → Ends (top s k) (top s k)
  inv-anew s k q i = subst (λ (m : ℕ). Inv e (top s m) → Ends (top s m) (top s m)) (sym (eqb-true k 4 q)) (λ i. still i refl (λ f. clash f i.kept) refl) i

  inv-ends : (s : Set) (k : ℕ) → eqb k 4 ≡ true → Inv e (top s k) → Ends (top s k) (ended s)
  inv-ends s k q i = subst (λ (m : ℕ). Inv e (top s m) → Ends (top s m) (ended s)) (sym (eqb-true k 4 q)) (λ i. still i refl tt tt) i

  inv-top : (s : Set) (k : ℕ) (f : Form) → Inv e (top s k) → On (Does (top s k)) (on_top e l s k f)
  inv-top s k ignored i = still i refl i.kept refl
  inv-top s k (wrong n) i = tt
  inv-top s k close i = tt
  inv-top s k eof i = on-eof (Does (top s k)) e l s k λ m. inv-ended s k m.behind i
  inv-top s k (keyed key c) i =
      on-by_act (Does (top s k)) _ _ _ _ (act (known_of s) top_table (digits 0 0) (rows_at_limit 0 top_table) (keyed key c)) (still i refl i.kept refl) (λ j v. tt)
      (λ m j v b. on-unless (Does (top s k)) (eqb j k) 9 _ λ q.
      let below = top_below (act-begin (known_of s) top_table (digits 0 0) (rows_at_limit 0 top_table) (keyed key c) b) in
      let same = eqb-true j k q in
      rw same (inv_open s k (rw same at below) i))
      tt

  inv-closed-file : (s : Set) (n : ℕ) (h : Held) (p : ℕ) → Inv e (file s n h p) → On (Does (file s n h p)) (close_file l s n h)
  inv-closed-file s n h p i =
      let v : Contents = record { line = n; file = h; blocks = [] } in
      on-unless (Does (file s n h p)) (chained (is_first s) l.next h && dated s (is_first s) h) 16 _ λ _.
      by_cond (λ k. Does (file s n h p) (top (with_now v s) k)) (is_first s)
      (λ q. still i (file-first s.drawing s.symbols s.volumes n q) (is-nil s.volumes q, refl, i.kept q) refl)
      (λ q. still i (file-later s.drawing s.symbols s.volumes v q) tt refl)

  inv-file : (s : Set) (n : ℕ) (h : Held) (p : ℕ) (f : Form) → Inv e (file s n h p) → On (Does (file s n h p)) (on_file l s n h p f)
  inv-file s n h p f i =
      on-by_act (Does (file s n h p)) _ _ _ _ (act (known_of s) (get_or (file_tables (is_first s)) p []) (digits 0 0) (rows_there (part_of h p)) f) (still i refl i.kept refl)
      (λ j v. still i refl i.kept refl) (λ m j v b. still i refl i.kept refl)
      (on-shut (Does (file s n h p)) p _ _ (inv-closed-file s n h p i) (λ q. still i refl i.kept refl))

  inv-drawing : (s : Set) (d : Drawing) (f : Form) → Inv e (drawing s d) → On (Does (drawing s d)) (on_drawing s d f)
  inv-drawing s d f i =
      on-by_act (Does (drawing s d)) _ _ _ _ (act (known_of s) drawing_table (digits_of (arc_of s)) (rows_there d.own) f) (still i refl i.kept refl)
      (λ j v. still i refl i.kept refl) (λ m j v b. still i refl i.kept refl) (still i refl i.kept refl)

  inv-layers : (s : Set) (d : Drawing) (f : Form) → Inv e (layer_names s d) → On (Does (layer_names s d)) (on_layer_names e l s d f)
  inv-layers s d f i =
      let at : Layer → Place = λ y. place (number s) y.line in
      on-layers (Does (layer_names s d)) e l s d f (still i refl i.kept refl) (still i refl i.kept refl) λ k v r.
      let new : Layer = record { line = l.line; id = k; name = v } in
      took 1 r i (snoc-behind (head_places (number s) s.now) (place (number s) d.line) (map at d.layers) (at new ∷ []) _ (map-append at d.layers (new ∷ []))) i.kept refl

  inv-defines : (s : Set) (non : Bool) (f : Form) → Inv e (defines s non) → On (Does (defines s non)) (on_defines e l s non f)
  inv-defines s non f i =
      on-by_act (Does (defines s non)) _ _ _ _ (act (known_of s) defines_table (digits_of (define_range s)) (non ∷ false ∷ []) f) (still i refl i.kept refl)
      (λ j v. on-unless (Does (defines s non)) (is_nil s.symbols) 6 _ λ _. still i refl i.kept refl)
      (λ m j v b. on-unless (Does (defines s non)) (not non) 6 _ λ _. on-taking (Does (defines s non)) e 1 s _ (λ r. took 1 r i refl (i.kept, slotted-blank) refl))
      (on-unless (Does (defines s non)) (non || not (is_nil s.symbols)) 8 _ λ _.
      still i (front-is s.drawing s.symbols s.volumes s.now i.kept.0 i.kept.1) tt refl)

  inv_open-symbol : (s : Set) (y : Symbol) (j : ℕ) (v : Value) (i : ℕ) → SymbolOpens i j → is_none (get_or y.own j None) ≡ true → Inv e (symbol s y)
      → On (Does (symbol s y)) (open_symbol s (symbol_own (set y.own j (Some v)) y) i)
  inv_open-symbol s y j v zero o p h = tt
  inv_open-symbol s y j v (suc zero) o p h =
      let w = h.kept.1 in
      let free = rw o at p in
      rw o (still h (element-opens (front s) (place (number s) y.line) (number s) y.hide_first y.figures y.hidden (w.figs free))
      (h.kept.0, slotted-figs v w, w.order free) refl)
  inv_open-symbol s y j v (suc (suc i)) o p h =
      let w = h.kept.1 in
      let free = rw o at p in
      rw o (still h (hide-opens (front s) (place (number s) y.line) (number s) y.hide_first y.figures y.hidden (w.dots free))
      (h.kept.0, slotted-dots v w, λ q. (slotted-dots v w []).figs q) refl)

  inv-symbol : (s : Set) (y : Symbol) (f : Form) → Inv e (symbol s y) → On (Does (symbol s y)) (on_symbol s y f)
  inv-symbol s y f i =
      on-by_act (Does (symbol s y)) _ _ _ _ (act (known_of s) symbol_table (digits_of (define_range s)) (rows_there y.own) f) (still i refl i.kept refl)
      (λ j v. on-unless (Does (symbol s y)) (new_name s (symbol_own (set y.own j (Some v)) y)) 15 _ λ _. still i refl (i.kept.0, slotted-set j v i.kept.1) refl)
      (λ m j v b.
      let w = symbol-begun y.own (act-begin (known_of s) symbol_table (digits_of (define_range s)) (rows_there y.own) f b) in
      inv_open-symbol s y j v m w.0 w.1 i)
      (let x = head_places (number s) s.now ++ drawn_places (number s) s.drawing in
      still i (ap (λ z. x ++ z) (flat-snoc (symbol_places (number s)) s.symbols y) ∙ sym (append_assoc x (symbols_places (number s) s.symbols) (symbol_places (number s) y))) i.kept.0 refl)

  inv-hide : (s : Set) (y : Symbol) (ps : List Point) (f : Form) → Inv e (hide s y ps) → On (Does (hide s y ps)) (on_hide e l s y ps f)
  inv-hide s y ps f i =
      let figs = figures_places (number s) y.figures in
      let dots = point_places (number s) ps in
      let new = place (number s) l.line ∷ [] in
      on-by_act (Does (hide s y ps)) _ _ _ _ (act (known_of s) (point_table false) (digits 0 0) (rows_at_limit (length ps) (point_table false)) f) (still i refl i.kept refl)
      (λ j v. on-taking (Does (hide s y ps)) e 1 s _ λ r.
      took 1 r i
      (snoc-behind (front s) (place (number s) y.line) (figs ++ dots) new _ (ap (λ z. figs ++ z) (points-more (number s) ps (point_at l v)) ∙ sym (append_assoc figs dots new)))
      i.kept refl)
      (λ m j v b. tt)
      (still i (hide-closes (front s) (place (number s) y.line) (number s) y.hide_first y.figures ps i.kept.2) (i.kept.0, i.kept.1 ps) refl)

  inv-closed-figures : (s : Set) (h : Home) (fs : List Figure) → Inv e (figures s h fs) → On (Does (figures s h fs)) (close_figures s h fs)
  inv-closed-figures s (in_element y) fs i =
      on-unless (Does (figures s (in_element y) fs)) (not (is_nil fs)) 8 _ λ _.
      still i (element-closes (front s) (place (number s) y.line) (number s) y.hide_first fs y.hidden i.kept.2) (i.kept.0, i.kept.1 fs) refl
  inv-closed-figures s (in_layer k) fs i =
      let x = open_places s.drawing s.symbols s.volumes s.now in
      let new : LayerBlock = record { layer = k; figures = fs } in
      still i (layer-closes s.drawing s.symbols s.volumes s.now new ∙ ap (λ z. x ++ z) (flat-snoc (block_places (number s)) s.now.blocks new) ∙ sym (append_assoc x (body_places (number s) s.now) (block_places (number s) new))) tt refl
    where
      -- FILE_FORMAT's line is the same with one more block
      layer-closes : (d : Drawing) (ys : List Symbol) (vs : List Contents) (v : Contents) (u : LayerBlock)
          → open_places d ys vs (record { line = v.line; file = v.file; blocks = v.blocks ++ u ∷ [] }) ++ flat (map (block_places (suc (length vs))) (v.blocks ++ u ∷ []))
          ≡ open_places d ys vs v ++ flat (map (block_places (suc (length vs))) (v.blocks ++ u ∷ []))
      layer-closes d ys [] v u = refl
      layer-closes d ys (w ∷ ws) v u = refl

  inv_open-placed : (s : Set) (h : Home) (fs : List Figure) → Inv e (figures s h fs) → On (Does (figures s h fs)) (open_placed e l s h fs)
  inv_open-placed s (in_element y) fs i = tt
  inv_open-placed s (in_layer k) fs i = on-taking (Does (figures s (in_layer k) fs)) e 1 s _ (λ r. took 1 r i refl tt refl)

  inv-begun-wire : (b : Bool) (s : Set) (k : ℕ) (fs : List Figure) → room_for e.limit (s.taken + 2) ≡ true → Inv e (figures s (in_layer k) fs)
      → Does (figures s (in_layer k) fs) (begin_wire b (with_records (kind_wire ∷ kind_wire_more ∷ []) s) k fs l.line)
  inv-begun-wire true s k fs r i = took 2 r i refl tt refl
  inv-begun-wire false s k fs r i = took 2 r i refl tt refl

  inv_open-wire : (s : Set) (h : Home) (fs : List Figure) → Inv e (figures s h fs) → On (Does (figures s h fs)) (open_wire e l s h fs)
  inv_open-wire s (in_element y) fs i = tt
  inv_open-wire s (in_layer k) fs i = on-taking (Does (figures s (in_layer k) fs)) e 2 s _ (λ r. inv-begun-wire (knows_wires e.class) s k fs r i)

  inv_open-figure : (s : Set) (h : Home) (fs : List Figure) (m : ℕ) → Inv e (figures s h fs) → On (Does (figures s h fs)) (open_figure e l s h fs m)
  inv_open-figure s h fs zero i = tt
  inv_open-figure s h fs (suc zero) i = on-taking (Does (figures s h fs)) e 1 s _ (λ r. took 1 r i refl i.kept refl)
  inv_open-figure s h fs (suc (suc zero)) i = on-taking (Does (figures s h fs)) e 1 s _ (λ r. took 1 r i refl i.kept refl)
  inv_open-figure s h fs (suc (suc (suc zero))) i = inv_open-placed s h fs i
  inv_open-figure s h fs (suc (suc (suc (suc m)))) i = inv_open-wire s h fs i

  inv-figures : (s : Set) (h : Home) (fs : List Figure) (f : Form) → Inv e (figures s h fs) → On (Does (figures s h fs)) (on_figures e l s h fs f)
  inv-figures s h fs f i =
      on-by_act (Does (figures s h fs)) _ _ _ _ (act (known_of s) (home_table s h) (range_of s) (rows_at_limit 0 (home_table s h)) f) (still i refl i.kept refl)
      (λ j v. on-taking (Does (figures s h fs)) e 1 s _ λ r. took 1 r i (figures-more s h fs (plain l.line j (nums_of v))) i.kept refl)
      (λ m j v b. inv_open-figure s h fs m i)
      (inv-closed-figures s h fs i)

  inv-successive : (s : Set) (h : Home) (fs : List Figure) (n : ℕ) (ps : List Point) (f : Form) → Inv e (successive s h fs n ps) → On (Does (successive s h fs n ps)) (on_successive e l s h fs n ps f)
  inv-successive s h fs n ps f i =
      on-by_act (Does (successive s h fs n ps)) _ _ _ _ (act (known_of s) (point_table (is_layer h)) (digits 0 0) (rows_at_limit (length ps) (point_table (is_layer h))) f) (still i refl i.kept refl)
      (λ j v. on-taking (Does (successive s h fs n ps)) e 1 s _ λ r.
      took 1 r i (snoc-behind (in_figures s h fs) (place (number s) n) (point_places (number s) ps) (place (number s) l.line ∷ []) _ (points-more (number s) ps (point_at l v))) i.kept refl)
      (λ m j v b. tt)
      (on-unless (Does (successive s h fs n ps)) (leb least_points (length ps)) 8 _ λ _. still i (figures-more s h fs (chain n ps)) i.kept refl)

  inv-texts : (s : Set) (h : Home) (fs : List Figure) (n : ℕ) (o : Slots) (f : Form) → Inv e (texts s h fs n o) → On (Does (texts s h fs n o)) (on_texts s h fs n o f)
  inv-texts s h fs n o f i =
      on-by_act (Does (texts s h fs n o)) _ _ _ _ (act (known_of s) (text_table (is_layer h) 4 12) (digits 0 0) (rows_there o) f) (still i refl i.kept refl)
      (λ j v. still i refl i.kept refl) (λ m j v b. tt) (still i (figures-more s h fs (lettering n o)) i.kept refl)

  -- a layer opens, and ELEMENT closes
  inv-layer : (s : Set) (v : Value) → Inv e (elements s) → Does (elements s) (figures s (in_layer (amount_at v 0)) [])
  inv-layer s v i = still i (append-nil (within s)) tt refl

  one_more : (s : Set) → length (s.volumes ++ s.now ∷ []) ≡ suc (length s.volumes)
  one_more s = omega (arith, length-append s.volumes (s.now ∷ []))

  inv-volume : (s : Set) → Inv e (elements s) → Does (elements s) (top (with_volume s) 4)
  inv-volume s i = still i (volume-closes s.drawing s.symbols s.volumes s.now) (nil-snoc s.volumes s.now) (one_more s)

  inv-elements : (s : Set) (f : Form) → Inv e (elements s) → On (Does (elements s)) (on_elements s f)
  inv-elements s f i =
      on-by_act (Does (elements s)) _ _ _ _ (act (known_of s) element_table (digits 0 0) (rows_at_limit 0 element_table) f) (still i refl tt refl)
      (λ j v. tt)
      (λ m j v b. on-unless (Does (elements s)) (not (has_number (amount_at v 0) (used_in s.now))) 14 _ λ _. inv-layer s v i)
      (on-unless (Does (elements s)) (counted_here s) 17 _ λ _. inv-volume s i)

  -- what a placed symbol holds, and which of its parts is open, takes no record
  inv-placed : (s : Set) (k : ℕ) (fs : List Figure) (n : ℕ) (o : Held) (p : ℕ) (a : Act) → Inv e (placing s k fs n (symbol_block o) p) → On (Does (placing s k fs n (symbol_block o) p)) (on_placed s k fs n o p a)
  inv-placed s k fs n o p a i =
      on-by_act (Does (placing s k fs n (symbol_block o) p)) _ _ _ _ a (still i refl tt refl)
      (λ j v. on-unless (Does (placing s k fs n (symbol_block o) p)) (new_serial s fs v) 15 _ λ _. still i refl tt refl)
      (λ m j v b. still i refl tt refl)
      (on-shut (Does (placing s k fs n (symbol_block o) p)) p _ _ (still i (figures-more s (in_layer k) fs (placed n o)) tt refl) (λ q. still i refl tt refl))

  inv-unknown : (s : Set) (k : ℕ) (fs : List Figure) (n : ℕ) (o : Held) (key : List ℕ) (c : Rest) → Inv e (placing s k fs n (symbol_block o) 0) → On (Does (placing s k fs n (symbol_block o) 0)) (on_unknown e s k fs n o key c)
  inv-unknown s k fs n o key c i =
      on-cond (Does (placing s k fs n (symbol_block o) 0)) (exceeds (range_of s) e.class.symbols) _ _
      (λ _. on_skip (Does (placing s k fs n (symbol_block o) 0)) (skip_of key c) _ _ (still i refl tt refl) (still i refl tt refl))
      (λ _. on-by_act (Does (placing s k fs n (symbol_block o) 0)) _ _ _ _ (act_unknown c) (still i refl tt refl) (λ j v. tt) (λ m j v b. tt) tt)

  inv-placed-key : (s : Set) (k : ℕ) (fs : List Figure) (n : ℕ) (o : Held) (key : List ℕ) (c : Rest) (f : Found) → Inv e (placing s k fs n (symbol_block o) 0)
      → On (Does (placing s k fs n (symbol_block o) 0)) (on_placed_key e s k fs n o key c f)
  inv-placed-key s k fs n o key c absent i = inv-unknown s k fs n o key c i
  inv-placed-key s k fs n o key c (found j r) i =
      on-cond (Does (placing s k fs n (symbol_block o) 0)) (reaches e.class.symbols r.least) _ _
      (λ _. inv-placed s k fs n o 0 (act_row (known_of s) (range_of s) (get_or (rows_there (part_of o 0)) j false) j r c) i)
      (λ _. inv-unknown s k fs n o key c i)

  inv-placed-own : (s : Set) (k : ℕ) (fs : List Figure) (n : ℕ) (o : Held) (f : Form) → Inv e (placing s k fs n (symbol_block o) 0) → On (Does (placing s k fs n (symbol_block o) 0)) (on_placed_own e s k fs n o f)
  inv-placed-own s k fs n o ignored i = still i refl tt refl
  inv-placed-own s k fs n o (wrong m) i = tt
  inv-placed-own s k fs n o close i = inv-placed s k fs n o 0 (act (known_of s) placed_table (both e.class.symbols (range_of s)) (rows_there (part_of o 0)) close) i
  inv-placed-own s k fs n o eof i = tt
  inv-placed-own s k fs n o (keyed key c) i = inv-placed-key s k fs n o key c (find key placed_table) i

  inv-placing : (s : Set) (k : ℕ) (fs : List Figure) (n : ℕ) (o : Held) (p : ℕ) (f : Form) → Inv e (placing s k fs n (symbol_block o) p) → On (Does (placing s k fs n (symbol_block o) p)) (on_placing e s k fs n o p f)
  inv-placing s k fs n o zero f i = inv-placed-own s k fs n o f i
  inv-placing s k fs n o (suc p) f i =
      inv-placed s k fs n o (suc p) (act (known_of s) (get_or placed_tables (suc p) []) (digits 0 0) (rows_there (part_of o (suc p))) f) i

  -- a wire's line or arc takes one record
  inv-element : (s : Set) (k : ℕ) (fs : List Figure) (n : ℕ) (w : Wire) (p row : ℕ) (v : List Num) → Inv e (placing s k fs n (wire_block w) p)
      → On (Does (placing s k fs n (wire_block w) p)) (on_element e l s k fs n w row v)
  inv-element s k fs n w p row v i =
      let does = Does (placing s k fs n (wire_block w) p) in
      let former = last_edge w.elements in
      let ends = joins_ends (join_digit s) in
      let new : Edge = record { line = l.line; row = row; values = v; join = join_of ends former row } in
      let at = place (number s) n in
      on-unless does (joined ends former row v) 11 _ λ _.
      on-taking does e 1 s _ λ r.
      took 1 r i
      (snoc-behind (in_figures s (in_layer k) fs) at (at ∷ edge_places (number s) w.elements) (place (number s) l.line ∷ []) _ (ap (λ z. at ∷ z) (edges_more (number s) w.elements new)))
      tt refl

  inv-wire : (s : Set) (k : ℕ) (fs : List Figure) (n : ℕ) (w : Wire) (p : ℕ) (f : Form) → Inv e (placing s k fs n (wire_block w) p)
      → On (Does (placing s k fs n (wire_block w) p)) (on_wire e l s k fs n w p f)
  inv-wire s k fs n w p f i =
      on-wire (Does (placing s k fs n (wire_block w) p)) e l s k fs n w
      (record {
        other = λ gs ts o b q. still i refl tt refl;
        element = λ row v _. inv-element s k fs n w p row v i;
        once = λ j v r q. still i refl tt refl;
        shut = still i (figures-more s (in_layer k) fs (wired n w)) tt refl;
        skipped = still i refl tt refl;
      })
      p f

  -- skipped lines take none
  inv_skip-ended : (s : Set) (k : ℕ) (fs : List Figure) (n : ℕ) (b : Owned) (d : ℕ) → Inv e (skipping s k fs n b d) → Does (skipping s k fs n b d) (skip_ended s k fs n b)
  inv_skip-ended s k fs n (symbol_block o) d i = still i refl tt refl
  inv_skip-ended s k fs n (wire_block w) d i = still i refl tt refl
  inv_skip-ended s k fs n wire_unread d i = still i refl tt refl

  inv-unread-shut : (s : Set) (k : ℕ) (fs : List Figure) (n : ℕ) (b : Owned) (d : ℕ) → Inv e (skipping s k fs n b d) → On (Does (skipping s k fs n b d)) (unread_shut s k fs n b)
  inv-unread-shut s k fs n (symbol_block o) d i = tt
  inv-unread-shut s k fs n (wire_block w) d i = tt
  inv-unread-shut s k fs n wire_unread d i = still i (figures-more s (in_layer k) fs (passed n)) tt refl

  inv_skip-shut : (s : Set) (k : ℕ) (fs : List Figure) (n : ℕ) (b : Owned) (d : ℕ) → Inv e (skipping s k fs n b d) → On (Does (skipping s k fs n b d)) (skip_shut s k fs n b d)
  inv_skip-shut s k fs n b zero i = inv-unread-shut s k fs n b 0 i
  inv_skip-shut s k fs n b (suc zero) i = inv_skip-ended s k fs n b 1 i
  inv_skip-shut s k fs n b (suc (suc d)) i = still i refl tt refl

  inv-skipping : (s : Set) (k : ℕ) (fs : List Figure) (n : ℕ) (b : Owned) (d : ℕ) (f : Form) → Inv e (skipping s k fs n b d) → On (Does (skipping s k fs n b d)) (on_skipping s k fs n b d f)
  inv-skipping s k fs n b d ignored i = still i refl tt refl
  inv-skipping s k fs n b d (wrong m) i = tt
  inv-skipping s k fs n b d close i = inv_skip-shut s k fs n b d i
  inv-skipping s k fs n b d eof i = tt
  inv-skipping s k fs n b d (keyed key c) i =
      on_skip (Does (skipping s k fs n b d)) (skip_of key c) _ _ (still i refl tt refl) (on-unless (Does (skipping s k fs n b d)) (ltb d most_depth) 18 _ λ _. still i refl tt refl)

  inv_in : (st : State) → Inv e st → On (Does st) (step_in e l st)
  inv_in (top s k) i = inv-top s k l.form i
  inv_in (file s n h p) i = inv-file s n h p l.form i
  inv_in (drawing s d) i = inv-drawing s d l.form i
  inv_in (layer_names s d) i = inv-layers s d l.form i
  inv_in (defines s b) i = inv-defines s b l.form i
  inv_in (symbol s y) i = inv-symbol s y l.form i
  inv_in (hide s y ps) i = inv-hide s y ps l.form i
  inv_in (elements s) i = inv-elements s l.form i
  inv_in (figures s h fs) i = inv-figures s h fs l.form i
  inv_in (successive s h fs n ps) i = inv-successive s h fs n ps l.form i
  inv_in (texts s h fs n o) i = inv-texts s h fs n o l.form i
  inv_in (placing s h fs n (symbol_block o) p) i = inv-placing s h fs n o p l.form i
  inv_in (placing s h fs n (wire_block w) p) i = inv-wire s h fs n w p l.form i
  inv_in (placing s h fs n wire_unread p) i = tt
  inv_in (skipping s h fs n b d) i = inv-skipping s h fs n b d l.form i
  inv_in (ended s) i = tt

  -- ── the last line of a volume ──
  -- in `top`, at a line that completes the volume
  inv-last : (s : Set) (k : ℕ) (f : Form) → cond (is_nil l.next) (eqb k 4 && is_eof f) (eqb k 4 && is_ignored f) ≡ true → Inv e (top s k) → On (Ends (top s k)) (on_top e l s k f)
  inv-last s k ignored q i = inv-anew s k (both_left (is_nil l.next) (eqb k 4) false true q) i
  inv-last s k (wrong n) q i = tt
  inv-last s k close q i = tt
  inv-last s k eof q i = on-eof (Ends (top s k)) e l s k λ m. inv-ends s k m.behind i
  inv-last s k (keyed key c) q i = clash q (rw (and_false (eqb k 4)) (cond_same (is_nil l.next) false))

  -- in ELEMENT, at its end
  inv-last-element : (s : Set) (f : Form) → is_close f ≡ true → Inv e (elements s) → On (Ends (elements s)) (on_elements s f)
  inv-last-element s ignored q i = clash q refl
  inv-last-element s (wrong n) q i = clash q refl
  inv-last-element s close q i =
      on-close (Ends (elements s)) _ _ _ _ (complete (digits 0 0) element_table (rows_at_limit 0 element_table))
      (on-unless (Ends (elements s)) (counted_here s) 17 _ λ _.
      still i (volume-closes s.drawing s.symbols s.volumes s.now) (λ f. clash f (nil-snoc s.volumes s.now)) (ap suc (one_more s)))
  inv-last-element s eof q i = clash q refl
  inv-last-element s (keyed key c) q i = clash q refl

  inv-next : (st : State) → completes l st ≡ true → Inv e st → On (Ends st) (step_in e l st)
  inv-next (top s k) q i = inv-last s k l.form q i
  inv-next (file s n h p) q i = clash q (cond_same (is_nil l.next) false)
  inv-next (drawing s d) q i = clash q (cond_same (is_nil l.next) false)
  inv-next (layer_names s d) q i = clash q (cond_same (is_nil l.next) false)
  inv-next (defines s b) q i = clash q (cond_same (is_nil l.next) false)
  inv-next (symbol s y) q i = clash q (cond_same (is_nil l.next) false)
  inv-next (hide s y ps) q i = clash q (cond_same (is_nil l.next) false)
  inv-next (elements s) q i = inv-last-element s l.form (closing (is_nil l.next) (is_close l.form) q) i
  inv-next (figures s h fs) q i = clash q (cond_same (is_nil l.next) false)
  inv-next (successive s h fs n ps) q i = clash q (cond_same (is_nil l.next) false)
  inv-next (texts s h fs n o) q i = clash q (cond_same (is_nil l.next) false)
  inv-next (placing s h fs n o p) q i = clash q (cond_same (is_nil l.next) false)
  inv-next (skipping s h fs n o d) q i = clash q (cond_same (is_nil l.next) false)
  inv-next (ended s) q i = tt

  -- what a line adds, and in which volume the next line is
  pub add_step : (st : State) → Inv e st → On (Adds e l.line (cond l.last (suc (volume_of st)) (volume_of st)) st) (step e l st)
  add_step st i = go l.last
    where
      go : (b : Bool) → On (Adds e l.line (cond b (suc (volume_of st)) (volume_of st)) st) (cond b (map_g next_volume (also (completes l st) 9 (step_in e l st))) (step_in e l st))
      go true = on-map (Adds e l.line (suc (volume_of st)) st) next_volume (also (completes l st) 9 (step_in e l st)) (on-also (Ends st) (completes l st) 9 (step_in e l st) (λ q. inv-next st q i))
      go false = inv_in st i

  pub added : (k : ℕ) (st st' : State) → Inv e st → Adds e l.line k st st' → Inv e st'
  added k st st' i w =
      let size = ap length w.shows ∙ length-append (shown st) (replicate w.count (place (volume_of st) l.line)) in
      let many = length-replicate w.count (place (volume_of st) l.line) in
      record { counts = omega (arith, w.counts, i.counts, size, many); room = w.room; kept = w.kept }

  pub inv-step : (st : State) → Inv e st → On (Inv e) (step e l st)
  inv-step st i = on_weaken (Adds e l.line (cond l.last (suc (volume_of st)) (volume_of st)) st) (Inv e) (λ st' w. added (cond l.last (suc (volume_of st)) (volume_of st)) st st' i w) (step e l st) (add_step st i)

-- ── the whole reading ──
inv-run : (e : Env) (st : State) (ls : List Line) (s : Set) → Inv e st → run e st ls ≡ accepted s → Inv e (ended s)
inv-run e st [] s i q = subst (Inv e) (finish-ended st s q) i
inv-run e st (l ∷ ls) s i q = go (step e l st) (inv-step e l st i) (λ st' i' q'. inv-run e st' ls s i' q') q
  where
    go : (g : Got State) → On (Inv e) g → ((st' : State) → Inv e st' → run e st' ls ≡ accepted s → Inv e (ended s)) → then_run g l (λ st'. run e st' ls) ≡ accepted s → Inv e (ended s)
    go (got st') w ih q = ih st' w q
    go (bad n) w ih q = not-accepted q

room-nothing : (m : Option ℕ) → room_for m 0 ≡ true
room-nothing None = refl
room-nothing (Some n) = leb-zero n

pub inv-start : (e : Env) → Inv e (top nothing_yet 0)
inv-start e = record { counts = refl; room = room-nothing e.limit; kept = λ _. refl }

-- what was taken is what the records are, and it fits
pub count-taken : (e : Env) (c : Class) (ls : List Line) (s : Set) → run e (top nothing_yet 0) ls ≡ accepted s → (length (records_of c s) ≡ s.taken) × (room_for e.limit s.taken ≡ true)
count-taken e c ls s q =
    let i = inv-run e (top nothing_yet 0) ls s (inv-start e) q in
    (sym (length-map (records_of c s) place_of) ∙ ap length (records-at c s) ∙ sym i.counts, i.room)

pub count-records : (e : Env) (c : Class) (ls : List Line) (s : Set) → run e (top nothing_yet 0) ls ≡ accepted s → room_for e.limit (length (records_of c s)) ≡ true
count-records e c ls s q = let w = count-taken e c ls s q in rw w.0 w.1
