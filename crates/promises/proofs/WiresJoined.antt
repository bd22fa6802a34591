-- The records of an accepted set say of each wire how its elements are joined, and that two lines which it says are joined meet.
use Rattle.std.specs.Prelude.{Option, Some, None}
use Prim.Native.Nat.{ℕ, zero, suc, ◌+◌, ◌/◌, ◌%◌, ◌<◌, ◌≤◌}
use mathlib.Core.Bool.{Bool, true, false, cond, ◌&&◌, ◌||◌, not}
use mathlib.Core.List.{List, [], ◌∷◌, ◌++◌, map, append_assoc, append-nil}
use mathlib.Core.Path.{◌≡◌, refl, sym, ◌∙◌, ap, ap₂, subst}
use native.Mathlib.Omega.{arith}
use lib.Dec.{eqb, leb}
use lib.IntN.{ℤ, pos, negsuc}
use lib.ListN.{length-map, take, drop}
use borrow.Author.Tests.{eqb-true, eqb-false, leb-true, le-leb, lt-leb}
use Rattle.rules.specs.declared.Class.{Class}
use Rattle.rules.specs.Base.{map_o, flat, within}
use Rattle.rules.specs.RangeClass.{digits_of, knows_wires, is_symbol_part, is_wire_part, class_of, digits}
use Rattle.rules.specs.Values.{Num, nums, value_at, equal_z}
use Rattle.rules.specs.Rows.{Held}
use Rattle.rules.specs.Blocks.{file_table, range_table, base_table, elec_table, sym_table, later_table, drawing_table, symbol_table}
use Rattle.rules.specs.Figures.{point_table, text_table, placed_table, wire_table}
use Rattle.rules.specs.Sets.{Point, Edge, Figure, plain, chain, lettering, placed, wired, passed, Layer, Symbol, Contents, Set, wire_range, wires_of, Wire}
use Rattle.rules.specs.RecordTable.{View, view_of, plain_view, start, file_records, drawing_record, layer_records, rule_at, plain_record, placed_record, line_record, point_records, mark_unread, wire_start, unread_numbers, edge_record, edge_records, figure_records, inner_records, symbol_records, block_records, body_records, later_records, records_from, records_of}
use Rattle.rules.specs.Wires.{is_line_row, meets, join_of, joined}
use Rattle.rules.proofs.Chains.{and_left, and_right, and_true, and_false, clash, by_cond, cond-some, map-agree}
use Rattle.promises.specs.PlacesApart.{kind_of}
use Rattle.promises.specs.TableTexts.{number_at}
use Rattle.promises.specs.WiresJoined.{is_line, Meets, join_in, Tested, JoinedTo, Elements, is_of_wire, WiresIn, no_record, another, read_wire, skipped_wire, first_digit, WiresJoined, element_in, element_of, elements_of, ElementsShown}
use Rattle.promises.specs.OwnNumbers.{figures_in}
use Rattle.promises.proofs.Edges.{Behind, Joins}
use Rattle.promises.proofs.FitSets.{AnyText, Each, FitFigure, FitSymbol, FitBlock, FitContents, FitVolumes, FitSet}
use Rattle.promises.proofs.FigureState.{EdgeRow, SoundWire, SoundFigure, SoundBlock, SoundContents}
use Rattle.promises.proofs.ReadSound.{read-sound}
use Rattle.promises.proofs.RecordPlaces.{kind-slot}
use Rattle.promises.proofs.SerialsShown.{other-kinds, not-kind, symbol-kind}
use Rattle.promises.proofs.ShownNumbers.{is_other, Shown, of_figure, set-shown}
use Rattle.promises.proofs.WireRecords.{value-at, both, wire-shows, skip-shows}

-- ── numbers ──
pub equal_is : (a b : ℤ) → equal_z a b ≡ true → a ≡ b
equal_is (pos a) (pos b) e =
    let same : a ≡ b = omega (arith, leb-true a b (and_left (leb a b) _ e), leb-true b a (and_right (leb a b) _ e)) in ap pos same
equal_is (pos a) (negsuc b) e = clash e refl
equal_is (negsuc a) (pos b) e = clash e refl
equal_is (negsuc a) (negsuc b) e =
    let same : a ≡ b = omega (arith, leb-true b a (and_left (leb b a) _ e), leb-true a b (and_right (leb b a) _ e)) in ap negsuc same

-- ── the record of an element ──
module _ (owner volume : ℕ) where
  abbrev record_of : Edge → List ℤ
  record_of e = edge_record owner volume e

  -- what every element's has
  record Said (e : Edge) (r : List ℤ) : Type 0 where
    kind : (is_line r || eqb (kind_of r) 21) ≡ true
    line : is_line r ≡ is_line_row e.row
    layer : number_at r 1 ≡ pos owner
    volume-is : number_at r 2 ≡ pos volume
    join : join_in r ≡ pos e.join

  edge-said : (n row : ℕ) (v : List Num) (j : ℕ) → row < 2
      → let e : Edge = record { line = n; row = row; values = v; join = j } in Said e (record_of e)
  unfolding wire_table
  edge-said n zero v j h = record { kind = refl; line = refl; layer = refl; volume-is = refl; join = refl }
  edge-said n (suc zero) v j h = record { kind = refl; line = refl; layer = refl; volume-is = refl; join = refl }
  edge-said n (suc (suc row)) v j h = absurd (omega arith)

  said : (e : Edge) → EdgeRow e → Said e (record_of e)
  said e h = edge-said e.line e.row e.values e.join h

  -- a line's has its start and its end
  record Ends (v : List Num) (r : List ℤ) : Type 0 where
    start_x : number_at r 5 ≡ value_at v 1
    start_y : number_at r 6 ≡ value_at v 2
    end_x : number_at r 7 ≡ value_at v 3
    end_y : number_at r 8 ≡ value_at v 4

  line-ends : (n row : ℕ) (v : List Num) (j : ℕ) → is_line_row row ≡ true → Ends v (record_of (record { line = n; row = row; values = v; join = j }))
  unfolding wire_table
  line-ends n zero v j e = record { start_x = value-at 1 v; start_y = value-at 2 v; end_x = value-at 3 v; end_y = value-at 4 v }
  line-ends n (suc row) v j e = absurd (omega (arith, eqb-true (suc row) 0 e))

  ends_of : (e : Edge) → is_line_row e.row ≡ true → Ends e.values (record_of e)
  ends_of e q = line-ends e.line e.row e.values e.join q

  lines_meet : (f e : Edge) → is_line_row f.row ≡ true → is_line_row e.row ≡ true → meets f.values e.values ≡ true → Meets (record_of f) (record_of e)
  lines_meet f e p q m =
      let a = ends_of f p in
      let b = ends_of e q in
      let x = equal_is (value_at f.values 3) (value_at e.values 1) (and_left (equal_z (value_at f.values 3) (value_at e.values 1)) _ m) in
      let y = equal_is (value_at f.values 4) (value_at e.values 2) (and_right (equal_z (value_at f.values 3) (value_at e.values 1)) _ m) in
      record { x = a.end_x ∙ x ∙ sym b.start_x; y = a.end_y ∙ y ∙ sym b.start_y }

  -- ── how it is joined ──
  tested : (f e : Edge) → EdgeRow e → (both : Bool) → (is_line_row f.row && is_line_row e.row) ≡ both → (not both || meets f.values e.values) ≡ true
      → e.join ≡ cond both 1 2 → Tested both (record_of f) (record_of e)
  tested f e h true b m j =
      ((said e h).join ∙ ap pos j, lines_meet f e (and_left (is_line_row f.row) _ b) (and_right (is_line_row f.row) _ b) m)
  tested f e h false b m j = (said e h).join ∙ ap pos j

  abbrev FitFormer : Option Edge → Type 0
  FitFormer None = Unit {0}
  FitFormer (Some f) = EdgeRow f

  joined_to : (ends : Bool) (former : Option Edge) (e : Edge) → FitFormer former → EdgeRow e → joined ends former e.row e.values ≡ true → e.join ≡ join_of ends former e.row
      → JoinedTo ends (map_o record_of former) (record_of e)
  joined_to false former e p h m j = (said e h).join ∙ ap pos j
  joined_to true None e p h m j = (said e h).join ∙ ap pos j
  joined_to true (Some f) e p h m j =
      subst (λ (b : Bool). Tested b (record_of f) (record_of e)) (sym (ap₂ ◌&&◌ (said f p).line (said e h).line))
      (tested f e h (is_line_row f.row && is_line_row e.row) refl m j)

  elements-joined : (wires : ℕ) (own : List ℤ) → number_at own 1 ≡ pos owner → number_at own 2 ≡ pos volume → (former : Option Edge) → FitFormer former
      → (es : List Edge) → Each EdgeRow es → Behind (Joins wires) former es → Elements (eqb (wires / 100) 4) own (map_o record_of former) (edge_records owner volume es)
  elements-joined wires own a b former p [] h g = tt
  elements-joined wires own a b former p (e ∷ es) h g =
      let s = said e h.0 in (
        record {
          kind = s.kind;
          layer = s.layer ∙ sym a;
          volume = s.volume-is ∙ sym b;
          joined = joined_to (eqb (wires / 100) 4) former e p h.0 g.0.meets g.0.join;
        },
        elements-joined wires own a b (Some e) h.0 es h.1 g.1,
      )

-- ── records that are no wire's ──
other-below : (k : ℕ) → k < 18 → within 18 21 k ≡ false
other-below k h = rw (lt-leb 18 k h)

other-above : (k : ℕ) → 21 < k → within 18 21 k ≡ false
other-above k h = rw (lt-leb k 21 h) (and_false (leb 18 k))

-- a figure of one line, whose kind goes by its row
line_other : (w : View) (more owner volume n j : ℕ) (v : List Num) → within 18 21 (10 + more + j) ≡ false → is_of_wire (plain_record w more owner volume n j v) ≡ false
line_other w more owner volume n j v e =
    ap (within 18 21) (kind-slot (rule_at w.table j) (Some (nums v)) (start (10 + more + j) owner volume n)) ∙ e

placed-other : (w : View) (owner volume n : ℕ) (h : Held) → is_of_wire (placed_record w 0 owner volume n h) ≡ false
unfolding placed_table text_table
placed-other w owner volume n h = refl

layer-line : (w : View) (owner volume n j : ℕ) (v : List Num) → j < 8 → is_of_wire (line_record w 0 owner volume n j v) ≡ false
layer-line w owner volume n j v h =
    by_cond (λ (r : List ℤ). is_of_wire r ≡ false) (eqb j 6) (λ _. placed-other w owner volume n ((Some (nums v) ∷ []) ∷ []))
    (λ _. line_other w 0 owner volume n j v (other-below (10 + 0 + j) (omega arith)))

symbol-line : (owner volume n j : ℕ) (v : List Num) → j < 6 → is_of_wire (line_record plain_view 20 owner volume n j v) ≡ false
symbol-line owner volume n j v h =
    by_cond (λ (r : List ℤ). is_of_wire r ≡ false) (eqb j 6) (λ e. absurd (omega (arith, eqb-true j 6 e)))
    (λ _. line_other plain_view 20 owner volume n j v (other-above (10 + 20 + j) (omega arith)))

module _ (reads : Bool) (digit : ℕ) where
  abbrev In : List (List ℤ) → Type 0
  In rs = WiresIn reads digit rs

  -- ── one list of records behind another ──
  behind_it : {a b : List (List ℤ)} → In a → In b → In (a ++ b)
  behind_it no_record q = q
  behind_it (another e p) q = another e (behind_it p q)
  behind_it {b = b} (read_wire {own = own} {more = more} es {rs = rs} r w p) q =
      subst (λ (us : List (List ℤ)). In (own ∷ more ∷ us)) (sym (append_assoc es rs b)) (read_wire es r w (behind_it p q))
  behind_it (skipped_wire r w p) q = skipped_wire r w (behind_it p q)

  each_item : {A : Type 0} (P Q : A → Type 0) (f : A → List (List ℤ)) → ((a : A) → P a → Q a → In (f a)) → (s : List A) → Each P s → Each Q s → In (flat (map f s))
  each_item P Q f e [] g h = no_record
  each_item P Q f e (a ∷ s) g h = behind_it (e a g.0 h.0) (each_item P Q f e s g.1 h.1)

  -- ── blocks without wires ──
  header-other : (k : ℕ) (v : Contents) → In (file_records true k v)
  unfolding file_table range_table base_table elec_table sym_table
  header-other k v = another refl (another refl no_record)

  later-other : (k : ℕ) (v : Contents) → In (file_records false k v)
  unfolding later_table
  later-other k v = another refl no_record

  drawing-other : (s : Set) (rs : List (List ℤ)) → In rs → In (drawing_record s.drawing ∷ rs)
  unfolding drawing_table
  drawing-other s rs p = another refl p

  layers-other : (n : ℕ) (ls : List Layer) → In (layer_records n ls)
  layers-other n [] = no_record
  layers-other n (l ∷ ls) = another refl (layers-other (suc n) ls)

  points-other : (kind owner volume : ℕ) (ps : List Point) → within 18 21 kind ≡ false → In (point_records kind owner volume ps)
  points-other kind owner volume [] e = no_record
  points-other kind owner volume (p ∷ ps) e =
      another (ap (within 18 21) (kind-slot (rule_at (point_table true) 0) (Some (nums p.values)) (start kind owner volume p.line)) ∙ e) (points-other kind owner volume ps e)

  shape-other : (owner : ℕ) (f : Figure) → FitFigure AnyText false f → In (figure_records plain_view 20 owner 1 f)
  unfolding text_table
  shape-other owner (plain n j v) g = another (symbol-line owner 1 n j v g) no_record
  shape-other owner (chain n ps) g = another refl (points-other 37 owner 1 ps refl)
  shape-other owner (lettering n s) g = another refl no_record
  shape-other owner (placed n h) g = absurd g
  shape-other owner (wired n w) g = absurd g
  shape-other owner (passed n) g = absurd g

  shapes-other : (owner : ℕ) (fs : List Figure) → Each (FitFigure AnyText false) fs → In (flat (map (figure_records plain_view 20 owner 1) fs))
  shapes-other owner [] g = no_record
  shapes-other owner (f ∷ fs) g = behind_it (shape-other owner f g.0) (shapes-other owner fs g.1)

  inner-other : (n : ℕ) (y : Symbol) → FitSymbol AnyText y → In (inner_records n y)
  inner-other n y g =
      let shown = shapes-other n y.figures g.1 in
      let hidden = points-other 43 n 1 y.hidden refl in
      by_cond In y.hide_first (λ _. behind_it hidden shown) (λ _. behind_it shown hidden)

  symbols-other : (n : ℕ) (ys : List Symbol) → Each (FitSymbol AnyText) ys → In (symbol_records n ys)
  unfolding symbol_table
  symbols-other n [] g = no_record
  symbols-other n (y ∷ ys) g = another refl (behind_it (inner-other n y g.0) (symbols-other (suc n) ys g.1))

-- ── layers ──
module _ (c : Class) (s : Set) where
  abbrev view : View
  view = view_of c s

  abbrev InView : List (List ℤ) → Type 0
  InView rs = WiresIn (knows_wires c) (wire_range s / 100) rs

  wire-read : (owner volume n : ℕ) (w : Wire) → SoundWire c (wire_range s) w → InView (figure_records view 0 owner volume (wired n w))
  wire-read owner volume n w i =
      let own = take 32 (both view w owner volume n) in
      let more = drop 32 (both view w owner volume n) in
      let r = wire-shows view w owner volume n in
      let edges = edge_records owner volume w.elements in
      subst (λ (us : List (List ℤ)). InView (own ∷ more ∷ us)) (append-nil edges)
      (read_wire edges i.known
      (record {
        kinds = (r.kind, r.kind_too);
        unmarked = (r.mark, r.mark_too);
        count = r.count ∙ ap pos (sym (length-map w.elements (edge_record owner volume)));
        first = r.digit;
        joined = elements-joined owner volume (wire_range s) own r.layer r.volume-is None tt w.elements i.rows i.joins;
      }) no_record)

  wire-skipped : (owner volume n : ℕ) → knows_wires c ≡ false → InView (figure_records view 0 owner volume (passed n))
  wire-skipped owner volume n k = let r = skip-shows view owner volume n in skipped_wire k (record { kinds = (r.kind, r.kind_too); marked = (r.mark, r.mark_too) }) no_record

  figure-wires : (owner volume : ℕ) (f : Figure) → FitFigure AnyText true f → SoundFigure c (wire_range s) f → InView (figure_records view 0 owner volume f)
  unfolding text_table
  figure-wires owner volume (plain n j v) g i = another (layer-line view owner volume n j v g) no_record
  figure-wires owner volume (chain n ps) g i = another refl (points-other (knows_wires c) (wire_range s / 100) 17 owner volume ps refl)
  figure-wires owner volume (lettering n o) g i = another refl no_record
  figure-wires owner volume (placed n h) g i = another (placed-other view owner volume n h) no_record
  figure-wires owner volume (wired n w) g i = wire-read owner volume n w i
  figure-wires owner volume (passed n) g i = wire-skipped owner volume n i

  body-wires : (k : ℕ) (v : Contents) → Each (FitBlock AnyText) v.blocks → SoundContents c (wire_range s) v → InView (body_records view k v)
  body-wires k v g i =
      each_item (knows_wires c) (wire_range s / 100) (FitBlock AnyText) (SoundBlock c (wire_range s)) (block_records view k)
      (λ u p q. each_item (knows_wires c) (wire_range s / 100) (FitFigure AnyText true) (SoundFigure c (wire_range s)) (figure_records view 0 u.layer k) (figure-wires u.layer k) u.figures p q)
      v.blocks g i

  volumes-wires : (k : ℕ) (vs : List Contents) → Each (FitContents AnyText false) vs → Each (SoundContents c (wire_range s)) vs → InView (later_records view k vs)
  volumes-wires k [] g i = no_record
  volumes-wires k (v ∷ vs) g i =
      let b = knows_wires c in
      let d = wire_range s / 100 in
      behind_it b d (behind_it b d (later-other b d k v) (body-wires k v g.0.1 i.0)) (volumes-wires (suc k) vs g.1 i.1)

  set-wires : FitSet AnyText s → Each (SoundContents c (wire_range s)) s.volumes → InView (records_of c s)
  unfolding records_of
  set-wires f i = go s.volumes f.2 i
    where
      go : (vs : List Contents) → FitVolumes AnyText vs → Each (SoundContents c (wire_range s)) vs → InView (records_from c s vs)
      go [] g h = no_record
      go (v ∷ vs) g h =
          let b = knows_wires c in
          let d = wire_range s / 100 in
          behind_it b d
          (behind_it b d
          (behind_it b d (behind_it b d (header-other b d 1 v) (drawing-other b d s (layer_records 0 s.drawing.layers) (layers-other b d 0 s.drawing.layers))) (symbols-other b d 0 s.symbols f.1))
          (body-wires 1 v g.0.1 h.0))
          (volumes-wires 2 vs g.1 h.1)

-- ── the whole reading ──
-- a wire part reads wires where it is not 0
part-knows : (w : ℕ) → is_wire_part w ≡ true → knows_wires (record { symbols = digits 0 0; wires = digits_of w }) ≡ not (eqb w 0)
part-knows w e = go (eqb w 0) refl
  where
    some-last : 1 ≤ w → 1 ≤ w % 10
    some-last p = by (within 0 8 w) refl e
      where
        by : (b : Bool) → within 0 8 w ≡ b → (b || within 11 18 w) ≡ true → 1 ≤ w % 10
        by true q z = omega (arith, leb-true w 8 (and_right (leb 0 w) _ q))
        by false q z = omega (arith, leb-true 11 w (and_left (leb 11 w) _ z), leb-true w 18 (and_right (leb 11 w) _ z))

    go : (b : Bool) → eqb w 0 ≡ b → knows_wires (record { symbols = digits 0 0; wires = digits_of w }) ≡ not b
    go true q = subst (λ (w : ℕ). knows_wires (record { symbols = digits 0 0; wires = digits_of w }) ≡ false) (sym (eqb-true w 0 q)) refl
    go false q =
        let p : 1 ≤ w = not-zero w (eqb-false w 0 q) in
        and_true _ _ (le-leb 0 (w / 10 % 10) (omega arith)) (le-leb 1 (w % 10) (some-last p))
      where
        not-zero : (w : ℕ) → (w ≡ 0 → ⊥) → 1 ≤ w
        not-zero zero n = absurd (n refl)
        not-zero (suc w) n = omega arith

class-knows : (class wire : ℕ) (c : Class) → class_of class wire ≡ Some c → knows_wires c ≡ not (eqb wire 0)
unfolding class_of
class-knows class wire c e =
    let (t, is) = cond-some (is_symbol_part class && is_wire_part wire) _ c e in
    ap knows_wires (sym is) ∙ part-knows wire (and_right (is_symbol_part class) _ t)

pub wires-joined : WiresJoined
wires-joined class wire len spool s e =
    let r = read-sound class wire len spool s e in
    subst (λ rs. WiresIn (not (eqb wire 0)) (first_digit s) rs) (sym r.records)
    (subst (λ (b : Bool). WiresIn b (first_digit s) (records_of r.at s)) (class-knows class wire r.at r.listed) (set-wires r.at s r.fits r.sound.figures))

-- ── the values of lines and arcs ──
element-none : (r : List ℤ) → eqb (kind_of r) 20 ≡ false → eqb (kind_of r) 21 ≡ false → element_in r ≡ []
element-none r p q = rw (p, q)

of-kind : (r : List ℤ) (k : ℕ) → kind_of r ≡ k → eqb k 20 ≡ false → eqb k 21 ≡ false → element_in r ≡ []
of-kind r k e p q = element-none r (ap (λ (m : ℕ). eqb m 20) e ∙ p) (ap (λ (m : ℕ). eqb m 21) e ∙ q)

element-quiet : (r : List ℤ) → is_other (kind_of r) ≡ true → element_in r ≡ []
element-quiet r e = let w = (other-kinds (kind_of r) e).1 in element-none r (not-kind (kind_of r) 20 refl w) (not-kind (kind_of r) 21 refl w)

edge-shown : (owner volume n row : ℕ) (v : List Num) (j : ℕ) → row < 2
    → let e : Edge = record { line = n; row = row; values = v; join = j } in element_in (edge_record owner volume e) ≡ element_of e ∷ []
unfolding wire_table
edge-shown owner volume n zero v j h =
    ap (λ zs. (pos 20 ∷ zs) ∷ []) (ap₂ ◌∷◌ (value-at 0 v) (ap₂ ◌∷◌ (value-at 1 v) (ap₂ ◌∷◌ (value-at 2 v) (ap₂ ◌∷◌ (value-at 3 v) (ap₂ ◌∷◌ (value-at 4 v) refl)))))
edge-shown owner volume n (suc zero) v j h =
    ap (λ zs. (pos 21 ∷ zs) ∷ [])
    (ap₂ ◌∷◌ (value-at 0 v)
    (ap₂ ◌∷◌ (value-at 1 v) (ap₂ ◌∷◌ (value-at 2 v) (ap₂ ◌∷◌ (value-at 3 v) (ap₂ ◌∷◌ (value-at 4 v) (ap₂ ◌∷◌ (value-at 5 v) (ap₂ ◌∷◌ (value-at 6 v) refl)))))))
edge-shown owner volume n (suc (suc row)) v j h = absurd (omega arith)

edges-shown : (owner volume : ℕ) (es : List Edge) → Each EdgeRow es → flat (map element_in (edge_records owner volume es)) ≡ map element_of es
edges-shown owner volume [] h = refl
edges-shown owner volume (e ∷ es) h = ap₂ ◌++◌ (edge-shown owner volume e.line e.row e.values e.join h.0) (edges-shown owner volume es h.1)

abbrev no_edges : Held → List (List ℤ)
no_edges h = []

abbrev wire_edges : Wire → List (List ℤ)
wire_edges w = map element_of w.elements

elements-shown_in : (c : Class) (s : Set) → Shown element_in element-quiet no_edges wire_edges c s
elements-shown_in c s = record {
  symbols = λ owner volume n h g. of-kind (placed_record (view_of c s) 0 owner volume n h) 16 (symbol-kind c s owner volume n h) refl refl;
  single = λ owner volume n v. of-kind (placed_record (view_of c s) 0 owner volume n ((Some (nums v) ∷ []) ∷ [])) 16 (symbol-kind c s owner volume n ((Some (nums v) ∷ []) ∷ [])) refl refl;
  wires = λ owner volume n w i.
      let r = wire-shows (view_of c s) w owner volume n in
      let own = take 32 (both (view_of c s) w owner volume n) in
      let more = drop 32 (both (view_of c s) w owner volume n) in
      record { are = ap₂ ◌++◌ (of-kind own 18 r.kind refl refl) (ap₂ ◌++◌ (of-kind more 19 r.kind_too refl refl) (edges-shown owner volume w.elements i.rows)) };
  skipped = λ owner volume n.
      let r = skip-shows (view_of c s) owner volume n in
      let t = unread_numbers (mark_unread (digits 0 0) (wires_of s) wire_table (wire_start owner volume n)) in
      record { are = ap₂ ◌++◌ (of-kind (take 32 t) 18 r.kind refl refl) (ap₂ ◌++◌ (of-kind (drop 32 t) 19 r.kind_too refl refl) refl) };
}

of-edges : (f : Figure) → of_figure element_in element-quiet no_edges wire_edges f ≡ elements_of f
of-edges (plain n j v) = refl
of-edges (chain n ps) = refl
of-edges (lettering n s) = refl
of-edges (placed n h) = refl
of-edges (wired n w) = refl
of-edges (passed n) = refl

pub elements-shown : ElementsShown
elements-shown class wire len spool s e =
    let r = read-sound class wire len spool s e in
    ap (λ rs. flat (map element_in rs)) r.records
    ∙ (set-shown element_in element-quiet no_edges wire_edges r.at s (elements-shown_in r.at s) r.fits r.sound.figures).are
    ∙ ap flat (map-agree (of_figure element_in element-quiet no_edges wire_edges) elements_of of-edges (figures_in s))
