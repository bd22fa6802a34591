-- The volume and line of each record of a set: those of the line at which it was taken, in the order of the lines.
use Rattle.std.specs.Prelude.{Option, Some}
use Prim.Native.Nat.{ℕ, suc, ◌+◌}
use mathlib.Core.Bool.{Bool, true, false, cond, ◌&&◌, not}
use mathlib.Core.List.{List, [], ◌∷◌, ◌++◌, map}
use mathlib.Core.Path.{◌≡◌, refl, ◌∙◌, ap, ap₂}
use native.Mathlib.Omega.{arith}
use lib.Dec.{eqb}
use lib.IntN.{ℤ, pos}
use lib.ListN.{get_or, set, take, drop}
use lib.Seq.{get_or-take, get_or-drop}
use Rattle.rules.specs.declared.Digits.{Digits}
use Rattle.rules.specs.declared.Class.{Class}
use Rattle.rules.specs.Base.{all, flat}
use Rattle.rules.specs.RangeClass.{digits, digits_of}
use Rattle.rules.specs.Values.{Value, nums}
use Rattle.rules.specs.Rows.{Rule, Slots, Held}
use Rattle.rules.specs.Blocks.{file_table, range_table, base_table, elec_table, sym_table, later_table, file_tables, drawing_table, symbol_table}
use Rattle.rules.specs.Figures.{layer_table, figure_table, point_table, text_table, placed_table, placed_tables, wire_table}
use Rattle.rules.specs.Sets.{Point, Edge, Wire, Figure, plain, chain, lettering, placed, wired, passed, Layer, Drawing, Symbol, LayerBlock, Contents, Set, is_single, is_wired}
use Rattle.rules.specs.RecordTable.{put_slot, put_slots, put_held, mark_unread, start, file_records, drawing_record, layer_records, rule_at, point_records, figure_records, inner_records, symbol_records, block_records, body_records, later_records, records_from, records_of}
use Rattle.rules.specs.RecordTable.{View, view_of, plain_view, kind_edge, place_join, edge_record, edge_records}
use Rattle.rules.specs.RecordTable.{two_of, wire_start, wire_values, width, place_mark, unread_mark, unread_numbers}
use Rattle.rules.proofs.Chains.{and_left, and_right, by_cond, map-append}
use Rattle.promises.specs.Acceptance.{Place, place, place_of}
use Rattle.promises.specs.TableTexts.{amount_of}
use Rattle.promises.proofs.LeftAlone.{misses, set_miss, slot_miss, slots_miss, parts_miss, unread_miss, at-misses, wire_miss}

-- ── the lines of what is held, in volume k ──
abbrev pub point_places : ℕ → List Point → List Place
point_places k ps = map (λ p. place k p.line) ps

abbrev pub edge_places : ℕ → List Edge → List Place
edge_places k es = map (λ e. place k e.line) es

-- both of a wire's own records are taken at its line
abbrev pub figure_places : ℕ → Figure → List Place
figure_places k (plain n j v) = place k n ∷ []
figure_places k (chain n ps) = place k n ∷ point_places k ps
figure_places k (lettering n s) = place k n ∷ []
figure_places k (placed n h) = place k n ∷ []
figure_places k (wired n w) = place k n ∷ place k n ∷ edge_places k w.elements
figure_places k (passed n) = place k n ∷ place k n ∷ []

abbrev pub figures_places : ℕ → List Figure → List Place
figures_places k fs = flat (map (figure_places k) fs)

abbrev pub inner_places : ℕ → Symbol → List Place
inner_places k y = cond y.hide_first (point_places k y.hidden ++ figures_places k y.figures) (figures_places k y.figures ++ point_places k y.hidden)

abbrev pub symbol_places : ℕ → Symbol → List Place
symbol_places k y = place k y.line ∷ inner_places k y

abbrev pub symbols_places : ℕ → List Symbol → List Place
symbols_places k ys = flat (map (symbol_places k) ys)

abbrev pub drawn_places : ℕ → Drawing → List Place
drawn_places k d = place k d.line ∷ map (λ l. place k l.line) d.layers

-- the header and the volume's record are both taken at FILE_FORMAT's line
abbrev pub head_places : ℕ → Contents → List Place
head_places k v = place k v.line ∷ place k v.line ∷ []

abbrev pub block_places : ℕ → LayerBlock → List Place
block_places k u = figures_places k u.figures

abbrev pub body_places : ℕ → Contents → List Place
body_places k v = flat (map (block_places k) v.blocks)

abbrev pub later_places : ℕ → List Contents → List Place
later_places k [] = []
later_places k (v ∷ vs) = (place k v.line ∷ body_places k v) ++ later_places (suc k) vs

-- what stands before the first volume's ELEMENT
abbrev pub front_places : ℕ → Drawing → List Symbol → Contents → List Place
front_places k d ys v = (head_places k v ++ drawn_places k d) ++ symbols_places k ys

abbrev pub set_places : Drawing → List Symbol → List Contents → List Place
set_places d ys [] = []
set_places d ys (v ∷ vs) = (front_places 1 d ys v ++ body_places 1 v) ++ later_places 2 vs

-- ── a record's place ──
-- the rows of a table leave places 2 and 3 alone
abbrev clear : List Rule → Bool
clear t = all (misses 2) t && all (misses 3) t

at-two : (t : List Rule) → clear t ≡ true → all (misses 2) t ≡ true
at-two t e = and_left (all (misses 2) t) (all (misses 3) t) e

at-three : (t : List Rule) → clear t ≡ true → all (misses 3) t ≡ true
at-three t e = and_right (all (misses 2) t) (all (misses 3) t) e

module _ (kind owner k n : ℕ) where
  abbrev begun : List ℤ
  begun = start kind owner k n

  -- as it began
  place_kept : (t : List ℤ) → get_or t 2 (pos 0) ≡ pos k → get_or t 3 (pos 0) ≡ pos n → place_of t ≡ place k n
  place_kept t p q = ap₂ (λ a b. place (amount_of a) (amount_of b)) p q

  slots-place : (rs : List Rule) → clear rs ≡ true → (s : Slots) → place_of (put_slots rs s begun) ≡ place k n
  slots-place rs e s = place_kept (put_slots rs s begun) (slots_miss 2 rs s begun (at-two rs e)) (slots_miss 3 rs s begun (at-three rs e))

  slot-place : (t : List Rule) → clear t ≡ true → (j : ℕ) (o : Option Value) → place_of (put_slot (rule_at t j) o begun) ≡ place k n
  slot-place t e j o =
      place_kept (put_slot (rule_at t j) o begun) (slot_miss 2 (rule_at t j) o begun (at-misses 2 t j (at-two t e))) (slot_miss 3 (rule_at t j) o begun (at-misses 3 t j (at-three t e)))

-- the tables that records are made by
clear-drawing : clear drawing_table ≡ true
unfolding drawing_table
clear-drawing = refl

clear-symbol : clear symbol_table ≡ true
unfolding symbol_table
clear-symbol = refl

clear-point : clear (point_table true) ≡ true
unfolding point_table
clear-point = refl

clear-text : clear (text_table true 4 12) ≡ true
unfolding text_table
clear-text = refl

clear-figure : clear figure_table ≡ true
unfolding figure_table
clear-figure = refl

clear-layer : (single wires : Bool) → clear (layer_table single wires) ≡ true
unfolding layer_table
clear-layer true true = refl
clear-layer true false = refl
clear-layer false true = refl
clear-layer false false = refl

clear-wire : clear wire_table ≡ true
unfolding wire_table
clear-wire = refl

-- the placed symbol's, and FILE_FORMAT's: in the first volume 34 and 35 are the second record's volume and line
clear-placed : (all (all (misses 2)) placed_tables ≡ true) × (all (all (misses 3)) placed_tables ≡ true)
unfolding placed_table text_table
clear-placed = (refl, refl)

clear-file : (all (all (misses 2)) (file_tables true) ≡ true) × (all (all (misses 3)) (file_tables true) ≡ true)
    × (all (all (misses 34)) (file_tables true) ≡ true) × (all (all (misses 35)) (file_tables true) ≡ true)
unfolding file_table range_table base_table elec_table sym_table
clear-file = (refl, refl, refl, refl)

clear_later : (all (all (misses 2)) (file_tables false) ≡ true) × (all (all (misses 3)) (file_tables false) ≡ true)
unfolding later_table
clear_later = (refl, refl)

-- ── the records of a set ──
points-at : (kind owner k : ℕ) (ps : List Point) → map place_of (point_records kind owner k ps) ≡ point_places k ps
points-at kind owner k [] = refl
points-at kind owner k (p ∷ ps) = ap₂ ◌∷◌ (slot-place kind owner k p.line (point_table true) clear-point 0 (Some (nums p.values))) (points-at kind owner k ps)

placed_at : (c d : Digits) (kind owner k n : ℕ) (h : Held) → place_of (mark_unread c d placed_table (put_held placed_tables h (start kind owner k n))) ≡ place k n
placed_at c d kind owner k n h =
    let t = start kind owner k n in
    let at : (i : ℕ) → all (all (misses i)) placed_tables ≡ true → get_or (mark_unread c d placed_table (put_held placed_tables h t)) i (pos 0) ≡ get_or t i (pos 0) =
    λ i e. unread_miss i c d placed_table (put_held placed_tables h t) (and_left (all (misses i) placed_table) _ e) ∙ parts_miss i 0 placed_tables h t e in
    place_kept kind owner k n (mark_unread c d placed_table (put_held placed_tables h t)) (at 2 clear-placed.0) (at 3 clear-placed.1)

edge_at : (owner k : ℕ) (e : Edge) → place_of (edge_record owner k e) ≡ place k e.line
edge_at owner k e =
    let t = start (kind_edge + e.row) owner k e.line in
    let r = rule_at wire_table e.row in
    let u = put_slot r (Some (nums e.values)) t in
    let at : (i : ℕ) → not (eqb i place_join) ≡ true → all (misses i) wire_table ≡ true → get_or (set u place_join (pos e.join)) i (pos 0) ≡ get_or t i (pos 0) =
    λ i q m. set_miss place_join i (pos e.join) u q ∙ slot_miss i r (Some (nums e.values)) t (at-misses i wire_table e.row m) in
    place_kept (kind_edge + e.row) owner k e.line (edge_record owner k e) (at 2 refl (at-two wire_table clear-wire)) (at 3 refl (at-three wire_table clear-wire))

edges_at : (owner k : ℕ) (es : List Edge) → map place_of (edge_records owner k es) ≡ edge_places k es
edges_at owner k [] = refl
edges_at owner k (e ∷ es) = ap₂ ◌∷◌ (edge_at owner k e) (edges_at owner k es)

-- a wire's two records are both taken at its line: places 2 and 3, and 34 and 35
record AtWire (k n : ℕ) (t : List ℤ) : Type 0 where
  volume : get_or t 2 (pos 0) ≡ pos k
  line : get_or t 3 (pos 0) ≡ pos n
  volume_too : get_or t 34 (pos 0) ≡ pos k
  line_too : get_or t 35 (pos 0) ≡ pos n

two_at : {k n : ℕ} (t : List ℤ) (rs : List (List ℤ)) {ps : List Place} → map place_of rs ≡ ps → AtWire k n t → map place_of (two_of t ++ rs) ≡ place k n ∷ place k n ∷ ps
two_at {k} {n} t rs e a =
    let one = place_kept 18 0 k n (take 32 t) (get_or-take 32 t 2 (pos 0) (omega arith) ∙ a.volume) (get_or-take 32 t 3 (pos 0) (omega arith) ∙ a.line) in
    let two = place_kept 19 0 k n (drop 32 t) (get_or-drop 32 t 2 (pos 0) ∙ a.volume_too) (get_or-drop 32 t 3 (pos 0) ∙ a.line_too) in
    ap₂ ◌∷◌ one (ap₂ ◌∷◌ two e)

clear-two : (all (misses 34) wire_table ≡ true) × (all (misses 35) wire_table ≡ true)
unfolding wire_table
clear-two = (refl, refl)

wire-at : (w : View) (x : Wire) (owner k n : ℕ) → AtWire k n (wire_values w x (wire_start owner k n))
wire-at w x owner k n =
    let t = wire_start owner k n in
    record {
      volume = wire_miss 2 w x t (at-two wire_table clear-wire) refl;
      line = wire_miss 3 w x t (at-three wire_table clear-wire) refl;
      volume_too = wire_miss 34 w x t clear-two.0 refl;
      line_too = wire_miss 35 w x t clear-two.1 refl;
    }

abbrev unread_start : View → ℕ → ℕ → ℕ → List ℤ
unread_start w owner k n = mark_unread (digits 0 0) (digits_of w.wires) wire_table (wire_start owner k n)

unread-at : (w : View) (owner k n : ℕ) → AtWire k n (unread_numbers (unread_start w owner k n))
unread-at w owner k n =
    let t = wire_start owner k n in
    let d = digits_of w.wires in
    let u = unread_start w owner k n in
    let at : (i : ℕ) → all (misses i) wire_table ≡ true → not (eqb i place_mark) ≡ true → not (eqb i (width + place_mark)) ≡ true → get_or (unread_numbers u) i (pos 0) ≡ get_or t i (pos 0) =
    λ i e p q. set_miss (width + place_mark) i unread_mark (set u place_mark unread_mark) q ∙ set_miss place_mark i unread_mark u p ∙ unread_miss i (digits 0 0) d wire_table t e in
    record {
      volume = at 2 (at-two wire_table clear-wire) refl refl;
      line = at 3 (at-three wire_table clear-wire) refl refl;
      volume_too = at 34 clear-two.0 refl refl;
      line_too = at 35 clear-two.1 refl refl;
    }

figure-at : (w : View) → clear w.table ≡ true → (more owner k : ℕ) (f : Figure) → map place_of (figure_records w more owner k f) ≡ figure_places k f
figure-at w e more owner k (plain n j v) =
    by_cond (λ (r : List ℤ). place_of r ∷ [] ≡ place k n ∷ []) (eqb j 6)
    (λ _. ap (λ p. p ∷ []) (placed_at w.class.symbols w.symbols (16 + more) owner k n ((Some (nums v) ∷ []) ∷ [])))
    (λ _. ap (λ p. p ∷ []) (slot-place (10 + more + j) owner k n w.table e j (Some (nums v))))
figure-at w e more owner k (chain n ps) = ap (λ qs. place k n ∷ qs) (points-at (17 + more) owner k ps)
figure-at w e more owner k (lettering n s) = ap (λ p. p ∷ []) (slots-place (15 + more) owner k n (text_table true 4 12) clear-text s)
figure-at w e more owner k (placed n h) = ap (λ p. p ∷ []) (placed_at w.class.symbols w.symbols (16 + more) owner k n h)
figure-at w e more owner k (wired n x) = two_at (wire_values w x (wire_start owner k n)) (edge_records owner k x.elements) (edges_at owner k x.elements) (wire-at w x owner k n)
figure-at w e more owner k (passed n) = two_at (unread_numbers (unread_start w owner k n)) [] refl (unread-at w owner k n)

flat-at : {A : Type 0} (f : A → List (List ℤ)) (g : A → List Place) → ((a : A) → map place_of (f a) ≡ g a) → (s : List A) → map place_of (flat (map f s)) ≡ flat (map g s)
flat-at f g h [] = refl
flat-at f g h (a ∷ s) = map-append place_of (f a) (flat (map f s)) ∙ ap₂ ◌++◌ (h a) (flat-at f g h s)

figures-at : (w : View) → clear w.table ≡ true → (more owner k : ℕ) (fs : List Figure) → map place_of (flat (map (figure_records w more owner k) fs)) ≡ figures_places k fs
figures-at w e more owner k fs = flat-at (figure_records w more owner k) (figure_places k) (figure-at w e more owner k) fs

inner-at : (n : ℕ) (y : Symbol) → map place_of (inner_records n y) ≡ inner_places 1 y
inner-at n y =
    let shown = flat (map (figure_records plain_view 20 n 1) y.figures) in
    let hidden = point_records 43 n 1 y.hidden in
    let a : map place_of shown ≡ figures_places 1 y.figures = figures-at plain_view clear-figure 20 n 1 y.figures in
    let b : map place_of hidden ≡ point_places 1 y.hidden = points-at 43 n 1 y.hidden in
    go shown hidden a b y.hide_first
  where
    go : (shown hidden : List (List ℤ)) → map place_of shown ≡ figures_places 1 y.figures → map place_of hidden ≡ point_places 1 y.hidden → (b : Bool)
        → map place_of (cond b (hidden ++ shown) (shown ++ hidden)) ≡ cond b (point_places 1 y.hidden ++ figures_places 1 y.figures) (figures_places 1 y.figures ++ point_places 1 y.hidden)
    go shown hidden p q true = map-append place_of hidden shown ∙ ap₂ ◌++◌ q p
    go shown hidden p q false = map-append place_of shown hidden ∙ ap₂ ◌++◌ p q

symbols-at : (n : ℕ) (ys : List Symbol) → map place_of (symbol_records n ys) ≡ symbols_places 1 ys
symbols-at n [] = refl
symbols-at n (y ∷ ys) =
    map-append place_of (put_slots symbol_table y.own (start 4 n 1 y.line) ∷ inner_records n y) (symbol_records (suc n) ys)
    ∙ ap₂ ◌++◌ (ap₂ ◌∷◌ (slots-place 4 n 1 y.line symbol_table clear-symbol y.own) (inner-at n y)) (symbols-at (suc n) ys)

layers-at : (n : ℕ) (ls : List Layer) → map place_of (layer_records n ls) ≡ map (λ l. place 1 l.line) ls
layers-at n [] = refl
layers-at n (l ∷ ls) = ap (λ ps. place 1 l.line ∷ ps) (layers-at (suc n) ls)

body_at : (w : View) → clear w.table ≡ true → (k : ℕ) (v : Contents) → map place_of (body_records w k v) ≡ body_places k v
body_at w e k v = flat-at (block_records w k) (block_places k) (λ u. figures-at w e 0 u.layer k u.figures) v.blocks

header_at : (k : ℕ) (v : Contents) → map place_of (file_records true k v) ≡ head_places k v
header_at k v =
    let t = start 1 0 k v.line ++ start 2 0 k v.line in
    let u = put_held (file_tables true) v.file t in
    let at : (i : ℕ) → all (all (misses i)) (file_tables true) ≡ true → get_or u i (pos 0) ≡ get_or t i (pos 0) = λ i e. parts_miss i 0 (file_tables true) v.file t e in
    ap₂ (λ a b. a ∷ b ∷ [])
    (place_kept 1 0 k v.line (take 32 u) (get_or-take 32 u 2 (pos 0) (omega arith) ∙ at 2 clear-file.0) (get_or-take 32 u 3 (pos 0) (omega arith) ∙ at 3 clear-file.1))
    (place_kept 2 0 k v.line (drop 32 u) (get_or-drop 32 u 2 (pos 0) ∙ at 34 clear-file.2) (get_or-drop 32 u 3 (pos 0) ∙ at 35 clear-file.3))

volume-at : (k : ℕ) (v : Contents) → map place_of (file_records false k v) ≡ place k v.line ∷ []
volume-at k v =
    let t = start 2 0 k v.line in
    ap (λ p. p ∷ [])
    (place_kept 2 0 k v.line (put_held (file_tables false) v.file t) (parts_miss 2 0 (file_tables false) v.file t clear_later.0) (parts_miss 3 0 (file_tables false) v.file t clear_later.1))

later-at : (w : View) → clear w.table ≡ true → (k : ℕ) (vs : List Contents) → map place_of (later_records w k vs) ≡ later_places k vs
later-at w e k [] = refl
later-at w e k (v ∷ vs) =
    map-append place_of (file_records false k v ++ body_records w k v) (later_records w (suc k) vs)
    ∙ ap₂ ◌++◌ (map-append place_of (file_records false k v) (body_records w k v) ∙ ap₂ ◌++◌ (volume-at k v) (body_at w e k v)) (later-at w e (suc k) vs)

pub records-at : (c : Class) (s : Set) → map place_of (records_of c s) ≡ set_places s.drawing s.symbols s.volumes
unfolding records_of
records-at c s = go s.volumes
  where
    go : (vs : List Contents) → map place_of (records_from c s vs) ≡ set_places s.drawing s.symbols vs
    go [] = refl
    go (v ∷ vs) =
        let w = view_of c s in
        let e = clear-layer (is_single s) (is_wired s) in
        let head = file_records true 1 v in
        let drawn = drawing_record s.drawing ∷ layer_records 0 s.drawing.layers in
        let symbols = symbol_records 0 s.symbols in
        let body = body_records w 1 v in
        map-append place_of (((head ++ drawn) ++ symbols) ++ body) (later_records w 2 vs)
        ∙ ap₂ ◌++◌
        (map-append place_of ((head ++ drawn) ++ symbols) body
        ∙ ap₂ ◌++◌
        (map-append place_of (head ++ drawn) symbols
        ∙ ap₂ ◌++◌
        (map-append place_of head drawn
        ∙ ap₂ ◌++◌ (header_at 1 v) (ap₂ ◌∷◌ (slots-place 3 0 1 s.drawing.line drawing_table clear-drawing s.drawing.own) (layers-at 0 s.drawing.layers)))
        (symbols-at 0 s.symbols))
        (body_at w e 1 v))
        (later-at w e 2 vs)
