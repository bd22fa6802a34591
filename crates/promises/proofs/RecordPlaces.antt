-- Records differ in their places alone, where only rows of text hold text.
use Rattle.std.specs.Prelude.{Option, Some, None}
use Prim.Native.Nat.{ℕ, zero, suc, ◌+◌, ◌/◌, ◌≤◌}
use mathlib.Core.Bool.{Bool, true, false, cond, ◌&&◌, ◌||◌, not}
use mathlib.Core.List.{List, [], ◌∷◌, ◌++◌, map}
use mathlib.Core.Path.{◌≡◌, refl, sym, ◌∙◌, ap, ap₂}
use lib.Dec.{eqb}
use lib.IntN.{ℤ, pos, negsuc}
use native.Mathlib.Omega.{arith}
use lib.ListN.{length, get_or, set, take, drop, replicate, length-map, length-take, length-drop}
use lib.Seq.{sets}
use Rattle.rules.specs.declared.Digits.{Digits}
use Rattle.rules.specs.declared.Class.{Class}
use Rattle.rules.specs.Base.{map_o, is_nil, all, flat, has_number}
use Rattle.rules.specs.RangeClass.{digits_of, hides}
use Rattle.rules.specs.Values.{Num, Value, empty, nums, chars, linked, Kind, values, text, word, volume_name, sheet, ratio, serials, wire_serial, symbol_circle, nothing, opens, headed, either}
use Rattle.rules.specs.Rows.{Rule, Slots, Held, part_of}
use Rattle.rules.specs.Blocks.{file_table, range_table, base_table, elec_table, sym_table, later_table, file_tables, drawing_table, symbol_table}
use Rattle.rules.specs.Figures.{point_table, text_table, placed_table, placed_tables, wire_table, wire_text_table}
use Rattle.rules.specs.Sets.{Point, Figure, plain, chain, lettering, placed, Layer, Drawing, Symbol, Contents, Set, Edge, Wire, wired, passed}
use Rattle.rules.specs.RecordTable.{numbers, numbers_of, state_of, columns, first_or0, others, padded, put_numbers, put_state, put_slot, first_slot, other_slots, put_slots, put_parts, put_held, unread_state, mark_unread, start, file_records, drawing_record, layer_record, layer_records, rule_at, plain_record, line_record, point_records, first_type, chain_record, text_record, placed_record, figure_records, inner_records, symbol_records, block_records, body_records, later_records, records_from, records_of, kind_edge, place_join, edge_record, edge_records}
use Rattle.rules.specs.RecordTable.{View, view_of, plain_view, width, two_of, wire_start, place_elements, place_join_digit, Shelf, shelves, state_of_many, shown_lines, put_group, put_groups, place_texts, place_text_state, first_text, text_shown, text_numbers, put_texts, wire_values}
use Rattle.rules.proofs.Chains.{and_left, and_right, clash, cond_same, map-append}
use Rattle.promises.specs.PlacesApart.{bare_value, bare_slots, bare_held, bare_point, bare_figure, bare_layer, bare_drawing, bare_symbol, bare_block, bare_contents, bare_set, text_places, kind_of, without, places_apart, bare_edge, bare_wire}
use Rattle.promises.proofs.Bare.{part-bare, first-text-bare, range-bare, single-bare, wire-bare, wired-bare}
use Rattle.promises.proofs.FitSets.{is_text, is_shown, AnyText, FitSlot, FitSlots, FitHeld, Each, FitFigure, FitSymbol, FitBlock, FitContents, FitVolumes, FitSet, FitWire}
use Rattle.promises.proofs.FitRows.{fit-nil}
use Rattle.promises.proofs.Weights.{onward}
use Rattle.promises.proofs.Widths.{wire-length}
use Rattle.promises.proofs.WireRecords.{wire-shows}

-- ── lists that agree but at some places ──
abbrev is_place : ℕ → ℕ → Bool
is_place k i = has_number i (3 ∷ text_places k)

set-without : (p : ℕ → Bool) (t : List ℤ) (i : ℕ) (z : ℤ) → without p (set t i z) ≡ set (without p t) i (cond (p i) (pos 0) z)
set-without p [] i z = refl
set-without p (x ∷ t) zero z = refl
set-without p (x ∷ t) (suc i) z = ap (λ u. cond (p 0) (pos 0) x ∷ u) (set-without (λ i. p (suc i)) t i z)

at-without : (p : ℕ → Bool) (t : List ℤ) (i : ℕ) → get_or (without p t) i (pos 0) ≡ cond (p i) (pos 0) (get_or t i (pos 0))
at-without p [] i = sym (cond_same (p i) (pos 0))
at-without p (x ∷ t) zero = refl
at-without p (x ∷ t) (suc i) = at-without (λ i. p (suc i)) t i

first-slot : (s : Slots) → first_slot (bare_slots s) ≡ map_o bare_value (first_slot s)
first-slot [] = refl
first-slot (o ∷ s) = refl

other-slots : (s : Slots) → other_slots (bare_slots s) ≡ bare_slots (other_slots s)
other-slots [] = refl
other-slots (o ∷ s) = refl

state-bare : (o : Option Value) → state_of (map_o bare_value o) ≡ state_of o
state-bare None = refl
state-bare (Some empty) = refl
state-bare (Some (nums v)) = refl
state-bare (Some (chars at c)) = refl
state-bare (Some (linked n ps)) = refl

text-columns : (d : Kind) → is_text d ≡ true → columns d ≡ 2
text-columns (values p ps a) e = cc
text-columns (text n b) e = refl
text-columns (word n b) e = refl
text-columns volume_name e = refl
text-columns sheet e = refl
text-columns ratio e = refl
text-columns serials e = refl
text-columns wire_serial e = cc
text-columns symbol_circle e = cc
text-columns nothing e = cc
text-columns (opens i) e = cc
text-columns (headed i p) e = cc
text-columns (either i) e = cc

-- what `FitHeld` says, part by part from number n on
abbrev FitParts : ℕ → List (List Rule) → Held → Type 0
FitParts n [] h = Unit {0}
FitParts n (r ∷ ts) h = FitSlots AnyText r (part_of h n) × FitParts (suc n) ts h

nil-full : {A : Type 0} {z : ℤ} {zs : List ℤ} → z ∷ zs ≡ [] → A
nil-full e = clash refl (ap is_nil (sym e))

module _ (p : ℕ → Bool) where
  -- the same number goes into both
  set_same : (t u : List ℤ) (i : ℕ) (z : ℤ) → without p t ≡ without p u → without p (set t i z) ≡ without p (set u i z)
  set_same t u i z e = rw (set-without p t i z, set-without p u i z, e)

  -- two numbers go to a place that does not count
  set-hidden : (t u : List ℤ) (i : ℕ) (z w : ℤ) → p i ≡ true → without p t ≡ without p u → without p (set t i z) ≡ without p (set u i w)
  set-hidden t u i z w h e = rw (set-without p t i z, set-without p u i w, e, h)

  sets_same : (zs t u : List ℤ) (i : ℕ) → without p t ≡ without p u → without p (sets t i zs) ≡ without p (sets u i zs)
  sets_same [] t u i e = e
  sets_same (z ∷ zs) t u i e = sets_same zs (set t i z) (set u i z) (suc i) (set_same t u i z e)

  numbers-same : (q : ℕ) (zs t u : List ℤ) → without p t ≡ without p u → without p (put_numbers q zs t) ≡ without p (put_numbers q zs u)
  numbers-same zero zs t u e = e
  numbers-same (suc q) zs t u e = sets_same zs t u (suc q) e

  state-same : (q : ℕ) (z : ℤ) (t u : List ℤ) → without p t ≡ without p u → without p (put_state q z t) ≡ without p (put_state q z u)
  state-same zero z t u e = e
  state-same (suc q) z t u e = set_same t u (suc q) z e

  slot_same : (r : Rule) (o : Option Value) (t u : List ℤ) → without p t ≡ without p u → without p (put_slot r o t) ≡ without p (put_slot r o u)
  slot_same r o t u e = state-same r.state (state_of o) _ _ (numbers-same r.place (padded (columns r.holds) (numbers_of o)) t u e)

  slots_same : (rs : List Rule) (s : Slots) (t u : List ℤ) → without p t ≡ without p u → without p (put_slots rs s t) ≡ without p (put_slots rs s u)
  slots_same [] s t u e = e
  slots_same (r ∷ rs) s t u e = slot_same r (first_slot s) (put_slots rs (other_slots s) t) (put_slots rs (other_slots s) u) (slots_same rs (other_slots s) t u e)

  parts_same : (ts : List (List Rule)) (n : ℕ) (h : Held) (t u : List ℤ) → without p t ≡ without p u → without p (put_parts n ts h t) ≡ without p (put_parts n ts h u)
  parts_same [] n h t u e = e
  parts_same (r ∷ ts) n h t u e = slots_same r (part_of h n) (put_parts (suc n) ts h t) (put_parts (suc n) ts h u) (parts_same ts (suc n) h t u e)

  unread-same : (q : ℕ) (b : Bool) (t u : List ℤ) → without p t ≡ without p u → without p (unread_state q b t) ≡ without p (unread_state q b u)
  unread-same zero b t u e = e
  unread-same (suc q) true t u e = set_same t u (suc q) (pos 3) e
  unread-same (suc q) false t u e =
      rw (set-without p t (suc q) (get_or t (suc q) (pos 0)), set-without p u (suc q) (get_or u (suc q) (pos 0)), ← (at-without p t (suc q)), ← (at-without p u (suc q)), e)

  marked-same : (c d : Digits) (rs : List Rule) (t u : List ℤ) → without p t ≡ without p u → without p (mark_unread c d rs t) ≡ without p (mark_unread c d rs u)
  marked-same c d [] t u e = e
  marked-same c d (r ∷ rs) t u e = unread-same r.state (hides c d r.least) (mark_unread c d rs t) (mark_unread c d rs u) (marked-same c d rs t u e)

  -- ── a row ──
  -- the byte place of a row's text is one of these, or nowhere
  abbrev hides_place : ℕ → Bool
  hides_place zero = true
  hides_place (suc q) = p (suc q)

  abbrev row_apart : Rule → Bool
  row_apart r = not (is_text r.holds) || hides_place r.place

  numbers_apart : (d : Kind) (b : Bool) (q : ℕ) (o : Option Value) (t u : List ℤ) → (not (is_text d) || hides_place q) ≡ true → FitSlot AnyText (is_text d) b o → without p t ≡ without p u
      → without p (put_numbers q (padded (columns d) (numbers_of o)) t) ≡ without p (put_numbers q (padded (columns d) (numbers_of (map_o bare_value o))) u)
  numbers_apart d b q None t u a f e = numbers-same q _ t u e
  numbers_apart d b q (Some empty) t u a f e = numbers-same q _ t u e
  numbers_apart d b q (Some (nums v)) t u a f e = numbers-same q _ t u e
  numbers_apart d b zero (Some (chars at c)) t u a f e = e
  numbers_apart d b (suc q) (Some (chars at c)) t u a f e =
      rw (text-columns d f.0)
      (set_same (set t (suc q) (pos at)) (set u (suc q) (pos 0)) (suc (suc q)) (pos (length c)) (set-hidden t u (suc q) (pos at) (pos 0) (rw f.0 at a) e))
  numbers_apart d b q (Some (linked n ps)) t u a f e = numbers-same q _ t u e

  slot_apart : (r : Rule) (o : Option Value) (t u : List ℤ) → row_apart r ≡ true → FitSlot AnyText (is_text r.holds) (is_shown r.holds) o → without p t ≡ without p u
      → without p (put_slot r o t) ≡ without p (put_slot r (map_o bare_value o) u)
  slot_apart r o t u a f e = rw (state-bare o) (state-same r.state (state_of o) _ _ (numbers_apart r.holds (is_shown r.holds) r.place o t u a f e))

  slots_apart : (rs : List Rule) (s : Slots) (t u : List ℤ) → all row_apart rs ≡ true → FitSlots AnyText rs s → without p t ≡ without p u
      → without p (put_slots rs s t) ≡ without p (put_slots rs (bare_slots s) u)
  slots_apart [] s t u a f e = e
  slots_apart (r ∷ rs) s t u a f e =
      rw (first-slot s, other-slots s)
      (slot_apart r (first_slot s) (put_slots rs (other_slots s) t) (put_slots rs (bare_slots (other_slots s)) u) (and_left (row_apart r) (all row_apart rs) a) f.0
      (slots_apart rs (other_slots s) t u (and_right (row_apart r) (all row_apart rs) a) f.1 e))

  parts-apart : (ts : List (List Rule)) (n : ℕ) (h : Held) (t u : List ℤ) → all (all row_apart) ts ≡ true → FitParts n ts h → without p t ≡ without p u
      → without p (put_parts n ts h t) ≡ without p (put_parts n ts (bare_held h) u)
  parts-apart [] n h t u a f e = e
  parts-apart (r ∷ ts) n h t u a f e =
      rw (part-bare h n)
      (slots_apart r (part_of h n) (put_parts (suc n) ts h t) (put_parts (suc n) ts (bare_held h) u) (and_left (all row_apart r) (all (all row_apart) ts) a) f.0
      (parts-apart ts (suc n) h t u (and_right (all row_apart r) (all (all row_apart) ts) a) f.1 e))

  -- ── a wire's groups and texts ──
  group-same : (h : Shelf) (vs : List (List Num)) (t u : List ℤ) → without p t ≡ without p u → without p (put_group h vs t) ≡ without p (put_group h vs u)
  group-same h vs t u e =
      set_same (sets t h.place (pos (length vs) ∷ shown_lines h.shown h.wide vs)) (sets u h.place (pos (length vs) ∷ shown_lines h.shown h.wide vs)) h.state (state_of_many (length vs))
      (sets_same (pos (length vs) ∷ shown_lines h.shown h.wide vs) t u h.place e)

  groups-same : (hs : List Shelf) (gs : List (List (List Num))) (t u : List ℤ) → without p t ≡ without p u → without p (put_groups hs gs t) ≡ without p (put_groups hs gs u)
  groups-same [] gs t u e = e
  groups-same (h ∷ hs) [] t u e = e
  groups-same (h ∷ hs) (g ∷ gs) t u e = group-same h g (put_groups hs gs t) (put_groups hs gs u) (groups-same hs gs t u e)

  -- numbers that differ only where it does not count
  sets-apart : (zs ys t u : List ℤ) (i : ℕ) → without (λ k. p (onward i k)) zs ≡ without (λ k. p (onward i k)) ys → without p t ≡ without p u
      → without p (sets t i zs) ≡ without p (sets u i ys)
  sets-apart [] [] t u i d e = e
  sets-apart [] (y ∷ ys) t u i d e = nil-full (sym d)
  sets-apart (z ∷ zs) [] t u i d e = nil-full d
  sets-apart (z ∷ zs) (y ∷ ys) t u i d e =
      let head : cond (p i) (pos 0) z ≡ cond (p i) (pos 0) y = cc in
      let tail : without (λ k. p (onward (suc i) k)) zs ≡ without (λ k. p (onward (suc i) k)) ys = cc in
      sets-apart zs ys (set t i z) (set u i y) (suc i) tail (rw (set-without p t i z, set-without p u i y, e, head))

-- ── one record ──
kind_sets : (zs t : List ℤ) (i : ℕ) → kind_of (sets t (suc i) zs) ≡ kind_of t
kind_sets [] t i = refl
kind_sets (z ∷ zs) [] i = kind_sets zs [] (suc i)
kind_sets (z ∷ zs) (pos k ∷ t) i = kind_sets zs (pos k ∷ set t i z) (suc i)
kind_sets (z ∷ zs) (negsuc k ∷ t) i = kind_sets zs (negsuc k ∷ set t i z) (suc i)

pub kind-slot : (r : Rule) (o : Option Value) (t : List ℤ) → kind_of (put_slot r o t) ≡ kind_of t
kind-slot r o t = go r.state _ ∙ to r.place _
  where
    to : (q : ℕ) (zs : List ℤ) → kind_of (put_numbers q zs t) ≡ kind_of t
    to zero zs = refl
    to (suc q) zs = kind_sets zs t q

    go : (q : ℕ) (u : List ℤ) → kind_of (put_state q (state_of o) u) ≡ kind_of u
    go zero u = refl
    go (suc q) u = kind_sets (state_of o ∷ []) u q

-- a record that differs in its line alone
line-apart : (r : Rule) (o : Option Value) (kind owner volume line : ℕ)
    → places_apart (put_slot r o (start kind owner volume line)) ≡ places_apart (put_slot r o (start kind owner volume 0))
line-apart r o kind owner volume line =
    rw (kind-slot r o (start kind owner volume line), kind-slot r o (start kind owner volume 0))
    (slot_same (is_place kind) r o (start kind owner volume line) (start kind owner volume 0) refl)

edge-apart : (owner volume : ℕ) (e : Edge) → places_apart (edge_record owner volume e) ≡ places_apart (edge_record owner volume (bare_edge e))
edge-apart owner volume e =
    let r = rule_at wire_table e.row in
    let v = Some (nums e.values) in
    let kind = kind_edge + e.row in
    let j = pos e.join in
    let t = put_slot r v (start kind owner volume e.line) in
    let u = put_slot r v (start kind owner volume 0) in
    rw (kind_sets (j ∷ []) t 10, kind_sets (j ∷ []) u 10, kind-slot r v (start kind owner volume e.line), kind-slot r v (start kind owner volume 0))
    (set_same (is_place kind) t u place_join j (slot_same (is_place kind) r v (start kind owner volume e.line) (start kind owner volume 0) refl))

-- lists of records that are the same, places apart
record Apart (s u : List (List ℤ)) : Type 0 where
  eq : map places_apart s ≡ map places_apart u

no_record : Apart [] []
no_record = record { eq = refl }

one_more : {t u : List ℤ} {s v : List (List ℤ)} → places_apart t ≡ places_apart u → Apart s v → Apart (t ∷ s) (u ∷ v)
one_more p q = record { eq = ap₂ ◌∷◌ p q.eq }

behind_it : {s t u v : List (List ℤ)} → Apart s u → Apart t v → Apart (s ++ t) (u ++ v)
behind_it {s} {t} {u} {v} p q = record { eq = map-append places_apart s t ∙ ap₂ ◌++◌ p.eq q.eq ∙ sym (map-append places_apart u v) }

each_item : {A : Type 0} (P : A → Type 0) (f : A → List (List ℤ)) (b : A → A) → ((a : A) → P a → Apart (f a) (f (b a))) → (s : List A) → Each P s
    → Apart (flat (map f s)) (flat (map f (map b s)))
each_item P f b e [] g = no_record
each_item P f b e (a ∷ s) g = behind_it (e a g.0) (each_item P f b e s g.1)

drawing-apart : (d : Drawing) → FitSlots AnyText drawing_table d.own → places_apart (drawing_record d) ≡ places_apart (drawing_record (bare_drawing d))
unfolding drawing_table
drawing-apart d f = slots_apart (is_place 3) drawing_table d.own (start 3 0 1 d.line) (start 3 0 1 0) refl f refl

symbol-apart : (n : ℕ) (y : Symbol) → FitSlots AnyText symbol_table y.own
    → places_apart (put_slots symbol_table y.own (start 4 n 1 y.line)) ≡ places_apart (put_slots symbol_table (bare_slots y.own) (start 4 n 1 0))
unfolding symbol_table
symbol-apart n y f = slots_apart (is_place 4) symbol_table y.own (start 4 n 1 y.line) (start 4 n 1 0) refl f refl

second-bare : (v : Value) → first_or0 (others (numbers (bare_value v))) ≡ first_or0 (others (numbers v))
second-bare empty = refl
second-bare (nums v) = refl
second-bare (chars at c) = refl
second-bare (linked n ps) = refl

layer-apart : (n : ℕ) (l : Layer) → places_apart (layer_record n l) ≡ places_apart (layer_record n (bare_layer l))
layer-apart n l = rw (second-bare l.name)

-- both records of FILE_FORMAT in the first volume: the line of the second stands at 35
header-apart : (k : ℕ) (v : Contents) → FitHeld AnyText (file_tables true) v.file
    → Apart (file_records true k v) (file_records true k (bare_contents v))
unfolding file_table range_table base_table elec_table sym_table
header-apart k v f =
    record {
      eq =
          ap (λ t. take 32 t ∷ drop 32 t ∷ [])
          (parts-apart (λ i. has_number i (35 ∷ 3 ∷ text_places 1)) (file_tables true) 0 v.file
          (start 1 0 k v.line ++ start 2 0 k v.line) (start 1 0 k 0 ++ start 2 0 k 0) refl (f 0, (f 1, (f 2, (f 3, (f 4, tt))))) refl);
    }

later-apart : (k : ℕ) (v : Contents) → FitHeld AnyText (file_tables false) v.file
    → Apart (file_records false k v) (file_records false k (bare_contents v))
unfolding later_table
later-apart k v f =
    one_more (parts-apart (is_place 2) (file_tables false) 0 v.file (start 2 0 k v.line) (start 2 0 k 0) refl (f 0, tt) refl) no_record

-- ── figures ──
-- what is added to the kinds inside a symbol
abbrev pub more_in : Bool → ℕ
more_in true = 0
more_in false = 20

points-apart : (kind owner volume : ℕ) (ps : List Point) → Apart (point_records kind owner volume ps) (point_records kind owner volume (map bare_point ps))
points-apart kind owner volume [] = no_record
points-apart kind owner volume (p ∷ ps) =
    one_more (line-apart (rule_at (point_table true) 0) (Some (nums p.values)) kind owner volume p.line) (points-apart kind owner volume ps)

chain-apart : (more owner volume line : ℕ) (ps : List Point) → places_apart (chain_record more owner volume line ps) ≡ places_apart (chain_record more owner volume 0 (map bare_point ps))
chain-apart more owner volume line ps = rw (length-map ps bare_point, type-bare ps)
  where
    type-bare : (ps : List Point) → first_type (map bare_point ps) ≡ first_type ps
    type-bare [] = refl
    type-bare (p ∷ ps) = refl

text-apart : (b : Bool) (owner volume line : ℕ) (s : Slots) → FitSlots AnyText (text_table b 4 12) s
    → places_apart (text_record (more_in b) owner volume line s) ≡ places_apart (text_record (more_in b) owner volume 0 (bare_slots s))
unfolding text_table
text-apart true owner volume line s f = slots_apart (is_place 15) (text_table true 4 12) s (start 15 owner volume line) (start 15 owner volume 0) refl f refl
text-apart false owner volume line s f = slots_apart (is_place 35) (text_table true 4 12) s (start 35 owner volume line) (start 35 owner volume 0) refl f refl

placed-apart : (w : View) (owner volume line : ℕ) (h : Held) → FitHeld AnyText placed_tables h
    → places_apart (placed_record w 0 owner volume line h) ≡ places_apart (placed_record w 0 owner volume 0 (bare_held h))
unfolding text_table placed_table
placed-apart w owner volume line h f =
    marked-same (is_place 16) w.class.symbols w.symbols placed_table (put_held placed_tables h (start 16 owner volume line)) (put_held placed_tables (bare_held h) (start 16 owner volume 0))
    (parts-apart (is_place 16) placed_tables 0 h (start 16 owner volume line) (start 16 owner volume 0) refl (f 0, (f 1, tt)) refl)

-- a placed symbol that is one line
placed-line : (w : View) (more owner volume line : ℕ) (h : Held)
    → places_apart (placed_record w more owner volume line h) ≡ places_apart (placed_record w more owner volume 0 h)
unfolding text_table placed_table
placed-line w more owner volume line h =
    marked-same (is_place (16 + more)) w.class.symbols w.symbols placed_table (put_held placed_tables h (start (16 + more) owner volume line)) (put_held placed_tables h (start (16 + more) owner volume 0))
    (parts_same (is_place (16 + more)) placed_tables 0 h (start (16 + more) owner volume line) (start (16 + more) owner volume 0) refl)

plain-apart : (w : View) (more owner volume line j : ℕ) (v : List Num)
    → places_apart (line_record w more owner volume line j v) ≡ places_apart (line_record w more owner volume 0 j v)
plain-apart w more owner volume line j v = go (eqb j 6)
  where
    h : Held
    h = (Some (nums v) ∷ []) ∷ []

    go : (b : Bool) → places_apart (cond b (placed_record w more owner volume line h) (plain_record w more owner volume line j v))
        ≡ places_apart (cond b (placed_record w more owner volume 0 h) (plain_record w more owner volume 0 j v))
    go true = placed-line w more owner volume line h
    go false = line-apart (rule_at w.table j) (Some (nums v)) (10 + more + j) owner volume line

edges-apart : (owner volume : ℕ) (es : List Edge) → Apart (edge_records owner volume es) (edge_records owner volume (map bare_edge es))
edges-apart owner volume [] = no_record
edges-apart owner volume (e ∷ es) = one_more (edge-apart owner volume e) (edges-apart owner volume es)

-- a wire's two records: their lines stand at 3 and 35, the first text's place at 46, the circuit's at 48
abbrev is_two : ℕ → Bool
is_two i = has_number i (3 ∷ 35 ∷ 46 ∷ 48 ∷ [])

-- two tests of places that say the same of the first n
abbrev agree_to : ℕ → (ℕ → Bool) → (ℕ → Bool) → Bool
agree_to zero p q = true
agree_to (suc n) p q = cond (p 0) (q 0) (not (q 0)) && agree_to n (λ i. p (suc i)) (λ i. q (suc i))

without-agree : (n : ℕ) (p q : ℕ → Bool) (t : List ℤ) → length t ≤ n → agree_to n p q ≡ true → without p t ≡ without q t
without-agree n p q [] l e = refl
without-agree zero p q (z ∷ t) l e = absurd (omega arith)
without-agree (suc n) p q (z ∷ t) l e =
    ap₂ ◌∷◌ (go (p 0) (q 0) (and_left (cond (p 0) (q 0) (not (q 0))) _ e))
    (without-agree n (λ i. p (suc i)) (λ i. q (suc i)) t (omega arith) (and_right (cond (p 0) (q 0) (not (q 0))) _ e))
  where
    go : (a b : Bool) → cond a b (not b) ≡ true → cond a (pos 0) z ≡ cond b (pos 0) z
    go true true e = refl
    go true false e = clash e refl
    go false true e = clash e refl
    go false false e = refl

take-without : (n : ℕ) (p : ℕ → Bool) (t : List ℤ) → take n (without p t) ≡ without p (take n t)
take-without zero p t = refl
take-without (suc n) p [] = refl
take-without (suc n) p (z ∷ t) = ap (λ u. cond (p 0) (pos 0) z ∷ u) (take-without n (λ i. p (suc i)) t)

-- the test of a place that is n further
abbrev shifted : ℕ → (ℕ → Bool) → ℕ → Bool
shifted zero p = p
shifted (suc n) p = shifted n (λ i. p (suc i))

drop-without : (n : ℕ) (p : ℕ → Bool) (t : List ℤ) → drop n (without p t) ≡ without (shifted n p) (drop n t)
drop-without zero p t = refl
drop-without (suc n) p [] = refl
drop-without (suc n) p (z ∷ t) = drop-without n (λ i. p (suc i)) t

-- each record by itself, from the two together
first_of : (t : List ℤ) → kind_of (take 32 t) ≡ 18 → places_apart (take 32 t) ≡ take 32 (without is_two t)
first_of t e =
    ap (λ k. without (is_place k) (take 32 t)) e
    ∙ without-agree 32 (is_place 18) is_two (take 32 t) (omega (arith, length-take 32 t)) refl ∙ sym (take-without 32 is_two t)

second_of_lem : (t : List ℤ) → length t ≡ 64 → kind_of (drop 32 t) ≡ 19 → places_apart (drop 32 t) ≡ drop 32 (without is_two t)
second_of_lem t l e =
    ap (λ k. without (is_place k) (drop 32 t)) e
    ∙ without-agree 32 (is_place 19) (shifted 32 is_two) (drop 32 t) (omega (arith, length-drop 32 t)) refl ∙ sym (drop-without 32 is_two t)

first_fits : (ss : List Slots) → Each (FitSlots AnyText wire_text_table) ss → FitSlots AnyText wire_text_table (first_text ss)
first_fits [] g = fit-nil AnyText wire_text_table
first_fits (s ∷ ss) g = g.0

-- of the ten numbers of a text the ninth is its byte place
text-numbers : (s : Slots) → FitSlots AnyText wire_text_table s
    → without (λ k. is_two (onward (suc place_texts) k)) (text_numbers s) ≡ without (λ k. is_two (onward (suc place_texts) k)) (text_numbers (bare_slots s))
unfolding text_table
text-numbers s f =
    ap (λ t. take text_shown (drop 4 t)) (slots_apart (is_place 15) wire_text_table s (replicate width (pos 0)) (replicate width (pos 0)) refl f refl)

texts-apart : (ss : List Slots) (t u : List ℤ) → Each (FitSlots AnyText wire_text_table) ss → without is_two t ≡ without is_two u
    → without is_two (put_texts ss t) ≡ without is_two (put_texts (map bare_slots ss) u)
texts-apart ss t u f e =
    let n = pos (length ss) in
    rw (length-map ss bare_slots, first-text-bare ss)
    (set_same is_two (sets t place_texts (n ∷ text_numbers (first_text ss))) (sets u place_texts (n ∷ text_numbers (bare_slots (first_text ss)))) place_text_state (state_of_many (length ss))
    (sets-apart is_two (n ∷ text_numbers (first_text ss)) (n ∷ text_numbers (bare_slots (first_text ss))) t u place_texts
    (ap (λ zs. n ∷ zs) (text-numbers (first_text ss) (first_fits ss f))) e))

own-apart : (owner volume line : ℕ) (s : Slots) → FitSlots AnyText wire_table s
    → without is_two (put_slots wire_table s (wire_start owner volume line)) ≡ without is_two (put_slots wire_table (bare_slots s) (wire_start owner volume 0))
unfolding wire_table
own-apart owner volume line s f = slots_apart is_two wire_table s (wire_start owner volume line) (wire_start owner volume 0) refl f refl

values-apart : (w : View) (owner volume line : ℕ) (x : Wire) → FitWire AnyText x
    → without is_two (wire_values w x (wire_start owner volume line)) ≡ without is_two (wire_values w (bare_wire x) (wire_start owner volume 0))
values-apart w owner volume line x f =
    let own = put_slots wire_table x.own (wire_start owner volume line) in
    let own' = put_slots wire_table (bare_slots x.own) (wire_start owner volume 0) in
    let texts = put_texts x.texts own in
    let texts' = put_texts (map bare_slots x.texts) own' in
    let groups = put_groups shelves x.groups texts in
    let groups' = put_groups shelves x.groups texts' in
    let n = pos (length x.elements) in
    let j = pos (w.wires / 100) in
    rw (length-map x.elements bare_edge)
    (marked-same is_two w.class.wires (digits_of w.wires) wire_table (set (set groups place_elements n) place_join_digit j) (set (set groups' place_elements n) place_join_digit j)
    (set_same is_two (set groups place_elements n) (set groups' place_elements n) place_join_digit j
    (set_same is_two groups groups' place_elements n
    (groups-same is_two shelves x.groups texts texts' (texts-apart x.texts own own' f.1 (own-apart owner volume line x.own f.2))))))

wire-apart : (w : View) (owner volume line : ℕ) (x : Wire) → FitWire AnyText x
    → Apart (two_of (wire_values w x (wire_start owner volume line))) (two_of (wire_values w (bare_wire x) (wire_start owner volume 0)))
wire-apart w owner volume line x f =
    let t = wire_values w x (wire_start owner volume line) in
    let u = wire_values w (bare_wire x) (wire_start owner volume 0) in
    let same = values-apart w owner volume line x f in
    let shows = wire-shows w x owner volume line in
    let shows' = wire-shows w (bare_wire x) owner volume 0 in
    one_more (first_of t shows.kind ∙ ap (take 32) same ∙ sym (first_of u shows'.kind))
    (one_more (second_of_lem t (wire-length w x (wire_start owner volume line)) shows.kind_too ∙ ap (drop 32) same
    ∙ sym (second_of_lem u (wire-length w (bare_wire x) (wire_start owner volume 0)) shows'.kind_too)) no_record)

passed_apart : (w : View) (more owner volume line : ℕ) → Apart (figure_records w more owner volume (passed line)) (figure_records w more owner volume (passed 0))
unfolding wire_table
passed_apart w more owner volume line = one_more refl (one_more refl no_record)

figure-apart : (b : Bool) (w : View) (owner volume : ℕ) (f : Figure) → FitFigure AnyText b f
    → Apart (figure_records w (more_in b) owner volume f) (figure_records w (more_in b) owner volume (bare_figure f))
figure-apart b w owner volume (plain n j v) g = one_more (plain-apart w (more_in b) owner volume n j v) no_record
figure-apart b w owner volume (chain n ps) g = one_more (chain-apart (more_in b) owner volume n ps) (points-apart (17 + more_in b) owner volume ps)
figure-apart b w owner volume (lettering n s) g = one_more (text-apart b owner volume n s g) no_record
figure-apart true w owner volume (placed n h) g = one_more (placed-apart w owner volume n h g) no_record
figure-apart false w owner volume (placed n h) g = absurd g
figure-apart true w owner volume (wired n x) g = behind_it (wire-apart w owner volume n x g) (edges-apart owner volume x.elements)
figure-apart false w owner volume (wired n x) g = absurd g
figure-apart b w owner volume (passed n) g = passed_apart w (more_in b) owner volume n

-- ── the whole ──
layers-apart : (n : ℕ) (ls : List Layer) → Apart (layer_records n ls) (layer_records n (map bare_layer ls))
layers-apart n [] = no_record
layers-apart n (l ∷ ls) = one_more (layer-apart n l) (layers-apart (suc n) ls)

inner-apart : (n : ℕ) (y : Symbol) → FitSymbol AnyText y → Apart (inner_records n y) (inner_records n (bare_symbol y))
inner-apart n y g =
    go y.hide_first (each_item (FitFigure AnyText false) _ bare_figure (figure-apart false plain_view n 1) y.figures g.1) (points-apart 43 n 1 y.hidden)
  where
    go : (b : Bool) {s t u v : List (List ℤ)} → Apart s u → Apart t v → Apart (cond b (t ++ s) (s ++ t)) (cond b (v ++ u) (u ++ v))
    go true p q = behind_it q p
    go false p q = behind_it p q

symbols-apart : (n : ℕ) (ys : List Symbol) → Each (FitSymbol AnyText) ys → Apart (symbol_records n ys) (symbol_records n (map bare_symbol ys))
symbols-apart n [] g = no_record
symbols-apart n (y ∷ ys) g = one_more (symbol-apart n y g.0.0) (behind_it (inner-apart n y g.0) (symbols-apart (suc n) ys g.1))

module _ (w : View) where
  body-apart : (k : ℕ) (v : Contents) → Each (FitBlock AnyText) v.blocks → Apart (body_records w k v) (body_records w k (bare_contents v))
  body-apart k v g =
      each_item (FitBlock AnyText) (block_records w k) bare_block
      (λ u h. each_item (FitFigure AnyText true) (figure_records w 0 u.layer k) bare_figure (figure-apart true w u.layer k) u.figures h) v.blocks g

  volumes-apart : (k : ℕ) (vs : List Contents) → Each (FitContents AnyText false) vs → Apart (later_records w k vs) (later_records w k (map bare_contents vs))
  volumes-apart k [] g = no_record
  volumes-apart k (v ∷ vs) g = behind_it (behind_it (later-apart k v g.0.0) (body-apart k v g.0.1)) (volumes-apart (suc k) vs g.1)

  abbrev all_records : Set → Contents → List Contents → List (List ℤ)
  all_records s v vs =
      file_records true 1 v ++ (drawing_record s.drawing ∷ layer_records 0 s.drawing.layers) ++ symbol_records 0 s.symbols
      ++ body_records w 1 v ++ later_records w 2 vs

  all_apart : (s : Set) (v : Contents) (vs : List Contents) → FitSlots AnyText drawing_table s.drawing.own → Each (FitSymbol AnyText) s.symbols → FitVolumes AnyText (v ∷ vs)
      → Apart (all_records s v vs) (all_records (bare_set s) (bare_contents v) (map bare_contents vs))
  all_apart s v vs fd fy fv =
      behind_it
      (behind_it
      (behind_it (behind_it (header-apart 1 v fv.0.0) (one_more (drawing-apart s.drawing fd) (layers-apart 0 s.drawing.layers))) (symbols-apart 0 s.symbols fy))
      (body-apart 1 v fv.0.1))
      (volumes-apart 2 vs fv.1)

pub records-bare : (c : Class) (s : Set) → FitSet AnyText s → map places_apart (records_of c s) ≡ map places_apart (records_of c (bare_set s))
unfolding records_of
records-bare c s f = go s.volumes f.2
  where
    view-bare : view_of c (bare_set s) ≡ view_of c s
    view-bare = rw (range-bare s, single-bare s, wired-bare s, wire-bare s)

    go : (vs : List Contents) → FitVolumes AnyText vs → map places_apart (records_from c s vs) ≡ map places_apart (records_from c (bare_set s) (map bare_contents vs))
    go [] g = refl
    go (v ∷ vs) g =
        (all_apart (view_of c s) s v vs f.0.0 f.1 g).eq
        ∙ ap (λ w. map places_apart (all_records w (bare_set s) (bare_contents v) (map bare_contents vs))) (sym view-bare)
