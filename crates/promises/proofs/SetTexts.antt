-- The records of a set show the texts that it keeps, where every text that is kept stands in the spool at its place.
use Rattle.std.specs.Prelude.{Option, Some, None}
use Prim.Native.Nat.{ℕ, zero, suc, ◌+◌, ◌<◌}
use mathlib.Core.Bool.{Bool, true, false, cond}
use mathlib.Core.List.{List, [], ◌∷◌, ◌++◌, map}
use mathlib.Core.Path.{◌≡◌, refl, sym, subst}
use native.Mathlib.Omega.{arith}
use lib.IntN.{ℤ, pos}
use lib.ListN.{length, get_or, take, drop}
use Rattle.rules.specs.declared.Class.{Class}
use Rattle.rules.specs.Base.{flat}
use Rattle.rules.specs.Values.{Num, Value, empty, nums, chars, linked, chars_of}
use Rattle.rules.specs.Rows.{Slots, Held, part_of, slot_value}
use Rattle.rules.specs.Blocks.{file_table, range_table, base_table, elec_table, sym_table, later_table, file_tables, drawing_table, symbol_table}
use Rattle.rules.specs.Figures.{layer_table, figure_table, point_table, text_table, placed_table, placed_tables, wire_table, wire_text_table}
use Rattle.rules.specs.Sets.{Point, Figure, plain, chain, lettering, placed, Layer, Drawing, Symbol, Contents, Set, symbol_name_of, Edge, Wire, wired, passed}
use Rattle.rules.specs.RecordTable.{numbers_of, first_or0, others, first_slot, put_slots, start, file_records, drawing_record, layer_records, point_records, chain_record, line_record, text_record, placed_record, figure_records, inner_records, symbol_records, block_records, body_records, later_records, records_from, records_of, edge_record, edge_records}
use Rattle.rules.specs.RecordTable.{View, plain_view, width, kind_wire_more, wire_start, wire_values, first_text}
use Rattle.rules.proofs.Chains.{clash}
use Rattle.promises.specs.PlacesApart.{text_places, kind_of}
use Rattle.promises.specs.TableTexts.{number_at, Shows, ShowsAt, ShowTexts}
use Rattle.promises.specs.TextsKept.{Kept, kept_at, file_kept, drawing_kept, layer_kept, no_texts, point_kept, figure_kept, inner_kept, symbol_kept, block_kept, body_kept, later_kept, kept_from, texts_kept, edge_kept, wire_kept, figure_texts, block_texts, volume_texts, texts_of_wires, StandsIn, AllStand, WiresStand}
use Rattle.promises.proofs.FitSets.{Each, FitSlot, FitSlots, FitHeld, FitFigure, FitLayer, FitSymbol, FitBlock, FitContents, FitVolumes, FitSet, FitEdge, FitWire}
use Rattle.promises.proofs.FitRows.{fit-nil}
use Rattle.promises.proofs.WireRecords.{past_slots, slot_at, wire-shows}
use Rattle.promises.proofs.WireValues.{texts-at}
use Rattle.promises.proofs.RecordPlaces.{more_in}
use Rattle.promises.proofs.Good.{Ranges, ranges_of, symbol_digits, has_wires, layer_rows}
use lib.Dec.{eqb}

-- a text and its place, as a record has them
abbrev pub Standing : List ℕ → ℕ → List ℕ → Type 0
Standing spool at c = Shows spool (pos at) (pos (length c)) c

module _ (spool : List ℕ) where
  abbrev S : ℕ → List ℕ → Type 0
  S = Standing spool

  -- ── one text ──
  slot-shows : (o : Option Value) → FitSlot S true true o → Shows spool (first_or0 (numbers_of o)) (first_or0 (others (numbers_of o))) (chars_of (slot_value o))
  slot-shows None f = Shows.empty
  slot-shows (Some empty) f = Shows.empty
  slot-shows (Some (nums v)) f = clash refl f
  slot-shows (Some (chars at c)) f = f.1 refl
  slot-shows (Some (linked n ps)) f = clash refl f

  column : (i : ℕ) (s : Slots) → FitSlot S true true (first_slot (past_slots i s))
      → Shows spool (first_or0 (numbers_of (first_slot (past_slots i s)))) (first_or0 (others (numbers_of (first_slot (past_slots i s))))) (chars_of (slot_value (get_or s i None)))
  column i s f =
      subst (λ o. Shows spool (first_or0 (numbers_of (first_slot (past_slots i s)))) (first_or0 (others (numbers_of (first_slot (past_slots i s))))) (chars_of (slot_value o)))
      (slot_at i s) (slot-shows (first_slot (past_slots i s)) f)

  -- ── lists of records ──
  record Show (rs : List (List ℤ)) (cs : List Kept) : Type 0 where
    texts : ShowTexts spool rs cs

  no_record : Show [] []
  no_record = record { texts = tt }

  one_more : {r : List ℤ} {c : Kept} {rs : List (List ℤ)} {cs : List Kept} → ShowsAt spool r (text_places (kind_of r)) c → Show rs cs → Show (r ∷ rs) (c ∷ cs)
  one_more p q = record { texts = (p, q.texts) }

  behind_it : {rs us : List (List ℤ)} {cs ds : List Kept} → Show rs cs → Show us ds → Show (rs ++ us) (cs ++ ds)
  behind_it {rs} {us} {cs} {ds} p q = record { texts = go rs cs p.texts }
    where
      go : (rs : List (List ℤ)) (cs : List Kept) → ShowTexts spool rs cs → ShowTexts spool (rs ++ us) (cs ++ ds)
      go [] [] h = q.texts
      go [] (c ∷ cs) h = absurd h
      go (r ∷ rs) [] h = absurd h
      go (r ∷ rs) (c ∷ cs) h = (h.0, go rs cs h.1)

  each_item : {A : Type 0} (P : A → Type 0) (f : A → List (List ℤ)) (g : A → List Kept) → ((a : A) → P a → Show (f a) (g a)) → (s : List A) → Each P s
      → Show (flat (map f s)) (flat (map g s))
  each_item P f g e [] h = no_record
  each_item P f g e (a ∷ s) h = behind_it (e a h.0) (each_item P f g e s h.1)

  -- ── one record ──
  header-shows : (k : ℕ) (v : Contents) → FitHeld S (file_tables true) v.file → Show (file_records true k v) (file_kept true v)
  unfolding file_table range_table base_table elec_table sym_table
  header-shows k v f =
      let s = part_of v.file 0 in
      let g = (f 0).1.1.1.1.1.1.1.1 in
      record {
        texts = (
          (
            column 8 s g.0,
            (
              column 9 s g.1.0,
              (
                column 10 s g.1.1.0,
                (
                  column 11 s g.1.1.1.0,
                  (
                    column 12 s g.1.1.1.1.0,
                    (column 13 s g.1.1.1.1.1.0, (column 14 s g.1.1.1.1.1.1.0, (column 15 s g.1.1.1.1.1.1.1.0, tt))),
                  ),
                ),
              ),
            ),
          ),
          (tt, tt),
        );
      }

  later-shows : (k : ℕ) (v : Contents) → Show (file_records false k v) (file_kept false v)
  unfolding later_table
  later-shows k v = record { texts = (tt, tt) }

  drawing-shows : (d : Drawing) → FitSlots S drawing_table d.own → ShowsAt spool (drawing_record d) (text_places (kind_of (drawing_record d))) (drawing_kept d)
  unfolding drawing_table
  drawing-shows d f = (column 2 d.own f.1.1.0, (column 3 d.own f.1.1.1.0, (column 5 d.own f.1.1.1.1.1.0, tt)))

  symbol-shows : (n : ℕ) (y : Symbol) → FitSlots S symbol_table y.own
      → ShowsAt spool (put_slots symbol_table y.own (start 4 n 1 y.line)) (text_places (kind_of (put_slots symbol_table y.own (start 4 n 1 y.line)))) (symbol_name_of y ∷ [])
  unfolding symbol_table
  symbol-shows n y f = (column 0 y.own f.0, tt)

  layers_show : (n : ℕ) (ls : List Layer) → Each (FitLayer S) ls → Show (layer_records n ls) (map layer_kept ls)
  layers_show n [] h = no_record
  layers_show n (l ∷ ls) h = record { texts = ((slot-shows (Some l.name) h.0, tt), (layers_show (suc n) ls h.1).texts) }

  -- ── figures ──
  points_show : (kind owner volume : ℕ) (ps : List Point) → text_places kind ≡ [] → Show (point_records kind owner volume ps) (map point_kept ps)
  unfolding point_table
  points_show kind owner volume [] e = no_record
  points_show kind owner volume (p ∷ ps) e = one_more (rw e tt) (points_show kind owner volume ps e)

  -- a figure that is one line, in a layer and in a symbol
  abbrev LineShows : View → ℕ → ℕ → ℕ → ℕ → ℕ → List Num → Type 0
  LineShows w more owner volume n j v =
      ShowsAt spool (line_record w more owner volume n j v) (text_places (kind_of (line_record w more owner volume n j v))) (no_texts (10 + more + j))

  abbrev in_layers : Class → Ranges → View
  in_layers c x = record { class = c; symbols = symbol_digits x; wires = x.wires; table = layer_rows x }

  -- the row behind that of a placed symbol, where there is one, opens a block
  line-wire : (c : Class) (x : Ranges) (wires : Bool) (owner volume n : ℕ) (v : List Num)
      → LineShows (record { class = c; symbols = symbol_digits x; wires = x.wires; table = layer_table (eqb x.symbols 1) wires }) 0 owner volume n 7 v
  unfolding layer_table
  line-wire c x true owner volume n v = tt
  line-wire c x false owner volume n v = tt

  line-layer : (c : Class) (x : Ranges) (owner volume n j : ℕ) (v : List Num) → j < 8 → LineShows (in_layers c x) 0 owner volume n j v
  unfolding layer_table placed_table text_table
  line-layer c x owner volume n zero v h = tt
  line-layer c x owner volume n (suc zero) v h = tt
  line-layer c x owner volume n (suc (suc zero)) v h = tt
  line-layer c x owner volume n (suc (suc (suc zero))) v h = tt
  line-layer c x owner volume n (suc (suc (suc (suc zero)))) v h = tt
  line-layer c x owner volume n (suc (suc (suc (suc (suc zero))))) v h = (Shows.empty, tt)
  line-layer c x owner volume n (suc (suc (suc (suc (suc (suc zero)))))) v h = (Shows.empty, (Shows.empty, tt))
  line-layer c x owner volume n (suc (suc (suc (suc (suc (suc (suc zero))))))) v h = line-wire c x (has_wires x) owner volume n v
  line-layer c x owner volume n (suc (suc (suc (suc (suc (suc (suc (suc j)))))))) v h = absurd (omega arith)

  line-symbol : (owner volume n j : ℕ) (v : List Num) → j < 6 → LineShows plain_view 20 owner volume n j v
  unfolding figure_table
  line-symbol owner volume n zero v h = tt
  line-symbol owner volume n (suc zero) v h = tt
  line-symbol owner volume n (suc (suc zero)) v h = tt
  line-symbol owner volume n (suc (suc (suc zero))) v h = tt
  line-symbol owner volume n (suc (suc (suc (suc zero)))) v h = tt
  line-symbol owner volume n (suc (suc (suc (suc (suc zero))))) v h = (Shows.empty, tt)
  line-symbol owner volume n (suc (suc (suc (suc (suc (suc j)))))) v h = absurd (omega arith)

  abbrev view_in : Bool → Class → Ranges → View
  view_in true c x = in_layers c x
  view_in false c x = plain_view

  chain-shows : (b : Bool) (owner volume n : ℕ) (ps : List Point)
      → Show (chain_record (more_in b) owner volume n ps ∷ point_records (17 + more_in b) owner volume ps) ([] ∷ map point_kept ps)
  chain-shows true owner volume n ps = one_more tt (points_show 17 owner volume ps refl)
  chain-shows false owner volume n ps = one_more tt (points_show 37 owner volume ps refl)

  text-shows : (b : Bool) (owner volume n : ℕ) (s : Slots) → FitSlots S (text_table b 4 12) s → Show (text_record (more_in b) owner volume n s ∷ []) (figure_kept (more_in b) (lettering n s))
  unfolding text_table
  text-shows true owner volume n s f = record { texts = ((column 1 s f.1.0, tt), tt) }
  text-shows false owner volume n s f = record { texts = ((column 1 s f.1.0, tt), tt) }

  placed-shows : (w : View) (owner volume n : ℕ) (h : Held) → FitHeld S placed_tables h → Show (placed_record w 0 owner volume n h ∷ []) (figure_kept 0 (placed n h))
  unfolding text_table placed_table
  placed-shows w owner volume n h f = record { texts = ((column 4 (part_of h 0) (f 0).1.1.1.1.0, (column 1 (part_of h 1) (f 1).1.0, tt)), tt) }

  edge-shows : (owner volume n row : ℕ) (v : List Num) (join : ℕ) → row < 2
      → let t = edge_record owner volume (record { line = n; row = row; values = v; join = join }) in ShowsAt spool t (text_places (kind_of t)) []
  unfolding wire_table
  edge-shows owner volume n zero v join h = tt
  edge-shows owner volume n (suc zero) v join h = tt
  edge-shows owner volume n (suc (suc row)) v join h = absurd (omega arith)

  edges_show : (owner volume : ℕ) (es : List Edge) → Each FitEdge es → Show (edge_records owner volume es) (map edge_kept es)
  edges_show owner volume [] g = no_record
  edges_show owner volume (e ∷ es) g = one_more (edge-shows owner volume e.line e.row e.values e.join g.0) (edges_show owner volume es g.1)

  -- a wire's two records: the first shows no text, the second its first text and its circuit
  wire-first : (w : View) (owner volume n : ℕ) (x : Wire)
      → let t = take width (wire_values w x (wire_start owner volume n)) in ShowsAt spool t (text_places (kind_of t)) []
  wire-first w owner volume n x =
      let t = take width (wire_values w x (wire_start owner volume n)) in
      subst (λ k. ShowsAt spool t (text_places k) []) (sym (wire-shows w x owner volume n).kind) tt

  first-shows : (ss : List Slots) → Each (FitSlots S wire_text_table) ss → FitSlots S wire_text_table (first_text ss)
  first-shows [] g = fit-nil S wire_text_table
  first-shows (s ∷ ss) g = g.0

  text-shown : (s : Slots) → FitSlots S wire_text_table s
      → Shows spool (first_or0 (numbers_of (first_slot (past_slots 1 s)))) (first_or0 (others (numbers_of (first_slot (past_slots 1 s))))) (kept_at "character" wire_text_table s)
  unfolding text_table
  text-shown s f = column 1 s f.1.0

  circuit-shown : (s : Slots) → FitSlots S wire_table s
      → Shows spool (first_or0 (numbers_of (first_slot (past_slots 7 s)))) (first_or0 (others (numbers_of (first_slot (past_slots 7 s))))) (kept_at "circuit" wire_table s)
  unfolding wire_table
  circuit-shown s f = column 7 s f.1.1.1.1.1.1.1.0

  shown_as : (a b m n : ℤ) (c : List ℕ) → a ≡ b → m ≡ n → Shows spool b n c → Shows spool a m c
  shown_as a b m n c p q h = subst (λ z. Shows spool z m c) (sym p) (subst (λ z. Shows spool b z c) (sym q) h)

  both-shown : (t : List ℤ) (c d : List ℕ) → kind_of t ≡ kind_wire_more → Shows spool (number_at t 14) (number_at t 15) c → Shows spool (number_at t 16) (number_at t 17) d
      → ShowsAt spool t (text_places (kind_of t)) (c ∷ d ∷ [])
  both-shown t c d e x y = subst (λ k. ShowsAt spool t (text_places k) (c ∷ d ∷ [])) (sym e) (x, (y, tt))

  wire-second : (w : View) (owner volume n : ℕ) (x : Wire) → FitWire S x
      → let t = drop width (wire_values w x (wire_start owner volume n)) in ShowsAt spool t (text_places (kind_of t)) (wire_kept x)
  wire-second w owner volume n x g =
      let t = drop width (wire_values w x (wire_start owner volume n)) in
      let (at, long, circuit, wide) = texts-at w x owner volume n in
      both-shown t (kept_at "character" wire_text_table (first_text x.texts)) (kept_at "circuit" wire_table x.own) (wire-shows w x owner volume n).kind_too
      (shown_as _ _ _ _ _ at long (text-shown (first_text x.texts) (first-shows x.texts g.1)))
      (shown_as _ _ _ _ _ circuit wide (circuit-shown x.own g.2))

  passed-shows : (w : View) (owner volume n : ℕ) → Show (figure_records w 0 owner volume (passed n)) (figure_kept 0 (passed n))
  unfolding wire_table
  passed-shows w owner volume n = record { texts = (tt, ((Shows.empty, (Shows.empty, tt)), tt)) }

  figure-shows : (b : Bool) (c : Class) (x : Ranges) (owner volume : ℕ) (f : Figure) → FitFigure S b f
      → Show (figure_records (view_in b c x) (more_in b) owner volume f) (figure_kept (more_in b) f)
  figure-shows true c x owner volume (plain n j v) g = one_more (line-layer c x owner volume n j v g) no_record
  figure-shows false c x owner volume (plain n j v) g = one_more (line-symbol owner volume n j v g) no_record
  figure-shows b c x owner volume (chain n ps) g = chain-shows b owner volume n ps
  figure-shows b c x owner volume (lettering n s) g = text-shows b owner volume n s g
  figure-shows true c x owner volume (placed n h) g = placed-shows (in_layers c x) owner volume n h g
  figure-shows false c x owner volume (placed n h) g = absurd g
  figure-shows true c x owner volume (wired n w) g =
      one_more (wire-first (in_layers c x) owner volume n w) (one_more (wire-second (in_layers c x) owner volume n w g) (edges_show owner volume w.elements g.0))
  figure-shows false c x owner volume (wired n w) g = absurd g
  figure-shows true c x owner volume (passed n) g = passed-shows (in_layers c x) owner volume n
  figure-shows false c x owner volume (passed n) g = absurd g

  -- ── the whole ──
  inner-shows : (n : ℕ) (y : Symbol) → FitSymbol S y → Show (inner_records n y) (inner_kept y)
  inner-shows n y g =
      go y.hide_first (each_item (FitFigure S false) _ (figure_kept 20) (figure-shows false plain_view.class (record { symbols = 0; wires = 0 }) n 1) y.figures g.1) (points_show 43 n 1 y.hidden refl)
    where
      go : (b : Bool) {rs us : List (List ℤ)} {cs ds : List Kept} → Show rs cs → Show us ds → Show (cond b (us ++ rs) (rs ++ us)) (cond b (ds ++ cs) (cs ++ ds))
      go true p q = behind_it q p
      go false p q = behind_it p q

  symbols_show : (n : ℕ) (ys : List Symbol) → Each (FitSymbol S) ys → Show (symbol_records n ys) (flat (map symbol_kept ys))
  symbols_show n [] g = no_record
  symbols_show n (y ∷ ys) g = one_more (symbol-shows n y g.0.0) (behind_it (inner-shows n y g.0) (symbols_show (suc n) ys g.1))

  module _ (c : Class) (x : Ranges) where
    body-shows : (k : ℕ) (v : Contents) → Each (FitBlock S) v.blocks → Show (body_records (in_layers c x) k v) (body_kept v)
    body-shows k v g =
        each_item (FitBlock S) (block_records (in_layers c x) k) block_kept
        (λ u h. each_item (FitFigure S true) (figure_records (in_layers c x) 0 u.layer k) (figure_kept 0) (figure-shows true c x u.layer k) u.figures h)
        v.blocks g

    volumes_show : (k : ℕ) (vs : List Contents) → Each (FitContents S false) vs → Show (later_records (in_layers c x) k vs) (flat (map later_kept vs))
    volumes_show k [] g = no_record
    volumes_show k (v ∷ vs) g = behind_it (behind_it (later-shows k v) (body-shows k v g.0.1)) (volumes_show (suc k) vs g.1)

  pub set-shows : (c : Class) (s : Set) → FitSet S s → ShowTexts spool (records_of c s) (texts_kept s)
  unfolding records_of
  set-shows c s f = (go s.volumes f.2).texts
    where
      go : (vs : List Contents) → FitVolumes S vs → Show (records_from c s vs) (kept_from s vs)
      go [] g = no_record
      go (v ∷ vs) g =
          behind_it
          (behind_it
          (behind_it (behind_it (header-shows 1 v g.0.0) (one_more (drawing-shows s.drawing f.0.0) (layers_show 0 s.drawing.layers f.0.1))) (symbols_show 0 s.symbols f.1))
          (body-shows c (ranges_of s) 1 v g.0.1))
          (volumes_show c (ranges_of s) 2 vs g.1)

  -- ── all texts of wires stand in the spool ──
  text-stands : (s : Slots) → FitSlots S wire_text_table s → StandsIn spool (kept_at "character" wire_text_table s)
  text-stands s f = record { place = _; long = _; shown = text-shown s f }

  circuit-stands : (s : Slots) → FitSlots S wire_table s → StandsIn spool (kept_at "circuit" wire_table s)
  circuit-stands s f = record { place = _; long = _; shown = circuit-shown s f }

  wire-stands : (ss : List Slots) (o : Slots) → Each (FitSlots S wire_text_table) ss → FitSlots S wire_table o
      → AllStand spool (map (kept_at "character" wire_text_table) ss ++ kept_at "circuit" wire_table o ∷ [])
  wire-stands [] o g f = (circuit-stands o f, tt)
  wire-stands (s ∷ ss) o g f = (text-stands s g.0, wire-stands ss o g.1 f)

  stand-append : (a b : List Kept) → WiresStand spool a → WiresStand spool b → WiresStand spool (a ++ b)
  stand-append [] b p q = q
  stand-append (c ∷ a) b p q = (p.0, stand-append a b p.1 q)

  stand-each : {A : Type 0} (P : A → Type 0) (f : A → List Kept) → ((a : A) → P a → WiresStand spool (f a)) → (s : List A) → Each P s → WiresStand spool (flat (map f s))
  stand-each P f e [] g = tt
  stand-each P f e (a ∷ s) g = stand-append (f a) (flat (map f s)) (e a g.0) (stand-each P f e s g.1)

  figure-stands : (f : Figure) → FitFigure S true f → WiresStand spool (figure_texts f)
  figure-stands (plain n j v) g = tt
  figure-stands (chain n ps) g = tt
  figure-stands (lettering n s) g = tt
  figure-stands (placed n h) g = tt
  figure-stands (wired n w) g = (wire-stands w.texts w.own g.1 g.2, tt)
  figure-stands (passed n) g = tt

  volume-stands : (first : Bool) (v : Contents) → FitContents S first v → WiresStand spool (volume_texts v)
  volume-stands first v g = stand-each (FitBlock S) block_texts (λ u h. stand-each (FitFigure S true) figure_texts figure-stands u.figures h) v.blocks g.1

  pub wires_stand : (s : Set) → FitSet S s → WiresStand spool (texts_of_wires s)
  wires_stand s f = go s.volumes f.2
    where
      go : (vs : List Contents) → FitVolumes S vs → WiresStand spool (flat (map volume_texts vs))
      go [] g = tt
      go (v ∷ vs) g =
          stand-append (volume_texts v) (flat (map volume_texts vs)) (volume-stands true v g.0) (stand-each (FitContents S false) volume_texts (volume-stands false) vs g.1)
