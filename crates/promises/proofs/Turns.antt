-- The records of an accepted set show each circle's turn as it is written in their own lines, and -1 where none is.
use Rattle.std.specs.Prelude.{Some}
use Prim.Native.Nat.{ℕ, zero, suc, ◌+◌, ◌/◌, ◌≤◌, ◌<◌}
use mathlib.Core.Bool.{Bool, true, false, not}
use mathlib.Core.List.{List, [], ◌∷◌, ◌++◌, map}
use mathlib.Core.Path.{◌≡◌, refl, sym, ◌∙◌, ap, subst}
use native.Mathlib.Omega.{arith}
use lib.Dec.{eqb}
use lib.IntN.{ℤ, pos}
use lib.ListN.{length, get_or, take, drop}
use lib.Seq.{sets}
use borrow.Author.Tests.{ne_eqb}
use Rattle.rules.specs.declared.Class.{Class}
use Rattle.rules.specs.Base.{flat, split}
use Rattle.rules.specs.RefusalNumbers.{got, keep}
use Rattle.rules.specs.Numbers.{read_fixed, fixed_onto}
use Rattle.rules.specs.Spool.{Volume, volumes_of}
use Rattle.rules.specs.Values.{Num, num, nums, Known, Part, count, type_digits, Kind, values, symbol_circle, nums_of, value_at, read_all, agree, arc_of_circle, arc_parts, whole_parts, no_turn, read_circle}
use Rattle.rules.specs.Rows.{Rule, row, repeated, any_number}
use Rattle.rules.specs.Blocks.{file_table, range_table, base_table, elec_table, sym_table, later_table, drawing_table, symbol_table}
use Rattle.rules.specs.Figures.{layer_table, figure_table, point_table, text_table, placed_table, wire_table}
use Rattle.rules.specs.Sets.{Point, Edge, Figure, plain, chain, lettering, placed, wired, passed, Layer, Symbol, Contents, Set, is_single, is_wired}
use Rattle.rules.specs.RangeClass.{digits, digits_of}
use Rattle.rules.specs.RecordTable.{width, View, view_of, plain_view, padded, put_slot, start, file_records, drawing_record, layer_records, rule_at, line_record, point_records, mark_unread, wire_start, unread_numbers, edge_record, edge_records, figure_records, inner_records, symbol_records, block_records, body_records, later_records, records_from, records_of}
use Rattle.rules.specs.Machine.{Env, limited_to}
use Rattle.rules.specs.LineByLine.{accepted}
use Rattle.rules.specs.Answers.{outcome_of_volumes}
use Rattle.rules.proofs.Chains.{by_cond, map-got, keep-got}
use Rattle.promises.specs.PlacesApart.{kind_of}
use Rattle.promises.specs.TableTexts.{first_records, number_at}
use Rattle.promises.specs.Turns.{value_in, ShowsValues, Six, Seven, Turned, six, seven, Circle, another, one_line_of, Says, AtTheirLines, Turns, CallTurns}
use Rattle.promises.proofs.Calls.{accepted-set, table-records}
use Rattle.promises.proofs.Came.{Came, CameFigure, CameEdge, CameSymbol, CameBlock, CameContents, CameVolumes, CameSet, accepted-came}
use Rattle.promises.proofs.Circles.{all-lengths, part-read, next-value, former-value, digit-read, is_decimal, decimal-read, exact_read, type-read, circle-whole, circle_arc}
use Rattle.promises.proofs.FitSets.{AnyText, Each, FitEdge, FitFigure, FitSymbol, FitBlock, FitContents, FitVolumes, FitSet}
use Rattle.promises.proofs.LeftAlone.{set_miss}
use Rattle.promises.proofs.Listing.{lines-whole}
use Rattle.promises.proofs.Numbers.{fixed_same}
use Rattle.promises.proofs.OwnLines.{Has, FromLine, from-line, lines_have}
use Rattle.promises.proofs.Parsed.{parsed}
use Rattle.promises.proofs.ReadSound.{read-sound}
use Rattle.promises.proofs.RecordPlaces.{kind-slot}
use Rattle.promises.proofs.Sizes.{listing, listing_of}
use Rattle.promises.proofs.TwoClasses.{outcome-at}
use Rattle.promises.proofs.WireRecords.{value-at, both, wire-shows, skip-shows}
use Rattle.promises.proofs.WiresJoined.{equal_is}

-- ── what is read of a circle, and what its record shows ──
-- a record shows these numbers from place 4 on
abbrev ShowsSeven : List ℤ → List Num → Type 0
ShowsSeven r v = (i : ℕ) → i < 7 → number_at r (4 + i) ≡ value_at v i

abbrev seven_in : ℕ → ℕ → ℕ → ℕ → List Num → List ℤ
seven_in kind owner volume n v = sets (start kind owner volume n) 4 (padded 7 (map (λ a. a.value) v))

seven-shown : (kind owner volume n : ℕ) (v : List Num) → ShowsSeven (seven_in kind owner volume n v) v
seven-shown kind owner volume n v zero h = value-at 0 v
seven-shown kind owner volume n v (suc zero) h = value-at 1 v
seven-shown kind owner volume n v (suc (suc zero)) h = value-at 2 v
seven-shown kind owner volume n v (suc (suc (suc zero))) h = value-at 3 v
seven-shown kind owner volume n v (suc (suc (suc (suc zero)))) h = value-at 4 v
seven-shown kind owner volume n v (suc (suc (suc (suc (suc zero))))) h = value-at 5 v
seven-shown kind owner volume n v (suc (suc (suc (suc (suc (suc zero)))))) h = value-at 6 v
seven-shown kind owner volume n v (suc (suc (suc (suc (suc (suc (suc i))))))) h = absurd (omega arith)

-- a digit as a byte
digit_byte : (n : ℕ) (s : List ℕ) → n ≤ 1 → read_fixed 1 s ≡ Some n → s ≡ (48 + n) ∷ []
unfolding fixed_onto
digit_byte zero s l e = sym (fixed_same 1 0 s e)
digit_byte (suc zero) s l e = sym (fixed_same 1 1 s e)
digit_byte (suc (suc n)) s l e = absurd (omega arith)

five : (f : ℕ → Bool) → f 0 ≡ true → f 1 ≡ true → f 2 ≡ true → f 3 ≡ true → f 4 ≡ true → (i : ℕ) → i ≤ 4 → f i ≡ true
five f a b c d e zero h = a
five f a b c d e (suc zero) h = b
five f a b c d e (suc (suc zero)) h = c
five f a b c d e (suc (suc (suc zero))) h = d
five f a b c d e (suc (suc (suc (suc zero)))) h = e
five f a b c d e (suc (suc (suc (suc (suc i))))) h = absurd (omega arith)

module _ (k : Known) (r : List ℤ) (c : List ℕ) where
  -- the type and five decimals, whatever follows
  values-shown : (qs : List Part) (u : List Num) → 5 ≤ length qs → ((i : ℕ) → i ≤ 4 → is_decimal (get_or qs i count) ≡ true) → read_all k (type_digits ∷ qs) (split 44 c) ≡ got u
      → ((i : ℕ) → i < 6 → number_at r (4 + i) ≡ value_at u i) → ShowsValues r c
  values-shown qs u l d e g =
      let at = part-read k (type_digits ∷ qs) (split 44 c) u e in
      let (n, w, is) = type-read k (value_in c 0) (get_or u 0 (num (pos 0))) (at 0 (omega arith)) in
      record {
        type = n;
        type_written = w;
        type_shown = g 0 (omega arith) ∙ is;
        decimals = λ i h.
            let shown : number_at r (5 + i) ≡ value_at u (suc i) = ap (number_at r) (omega arith) ∙ g (suc i) (omega (arith, h)) in
            decimal-read k (get_or qs i count) (value_in c (suc i)) (get_or u (suc i) (num (pos 0))) (d i h) (at (suc i) (omega (arith, h, l))) ∙ ap Some (sym shown);
      }

  -- seven values: in layers, in wires and in symbols
  arc-shown : (v : List Num) → ShowsSeven r v → read_all k arc_parts (split 44 c) ≡ got v → ShowsValues r c × Seven r c
  arc-shown v g e =
      let (n, l, w, is) = digit-read k (value_in c 6) (get_or v 6 (num (pos 0))) (part-read k arc_parts (split 44 c) v e 6 (omega arith)) in (
        values-shown (drop 1 arc_parts) v (omega arith) (five (λ i. is_decimal (get_or (drop 1 arc_parts) i count)) refl refl refl refl refl) e (λ i h. g i (omega (arith, h))),
        record {
          count = (all-lengths k arc_parts (split 44 c) v e).0;
          digit = n;
          most = l;
          written = digit_byte n (value_in c 6) l w;
          turn = g 6 (omega arith) ∙ ap (λ (a : Num). a.value) (sym is);
        },
      )

  -- six
  whole-shown : (u : List Num) → ShowsSeven r (u ++ no_turn ∷ []) → read_all k whole_parts (split 44 c) ≡ got u → ShowsValues r c × Six r c
  whole-shown u g e =
      let (many, long) = all-lengths k whole_parts (split 44 c) u e in
      let at = part-read k whole_parts (split 44 c) u e in
      let shown : (i : ℕ) → i < 6 → number_at r (4 + i) ≡ value_at u i =
      λ i h. g i (omega (arith, h)) ∙ ap (λ (a : Num). a.value) (former-value u (no_turn ∷ []) i (omega (arith, h, long))) in (
        values-shown (drop 1 whole_parts) u (omega arith) (five (λ i. is_decimal (get_or (drop 1 whole_parts) i count)) refl refl refl refl refl) e shown,
        record {
          count = many;
          start = shown 4 (omega arith) ∙ sym (equal_is (pos 0) (value_at u 4) (exact_read k 0 (value_in c 4) (get_or u 4 (num (pos 0))) (at 4 (omega arith))));
          end = shown 5 (omega arith) ∙ sym (equal_is (pos 3600000) (value_at u 5) (exact_read k 3600000 (value_in c 5) (get_or u 5 (num (pos 0))) (at 5 (omega arith))));
          turn = g 6 (omega arith) ∙ ap (λ (a : Num). a.value) (next-value u no_turn 6 long);
        },
      )

  circle-shown : (v : List Num) → ShowsSeven r v → read_circle k (split 44 c) ≡ got v → ShowsValues r c × Turned r c true
  circle-shown v g e = go (eqb (length (split 44 c)) 6) refl
    where
      go : (t : Bool) → eqb (length (split 44 c)) 6 ≡ t → ShowsValues r c × Turned r c true
      go true t =
          let (u, o, q) = map-got (λ v. v ++ no_turn ∷ []) (read_all k whole_parts (split 44 c)) v (sym (circle-whole k (split 44 c) t) ∙ e) in
          let (w, s) = whole-shown u (λ i h. g i h ∙ ap (λ v. value_at v i) (sym q)) o in
          (w, six s)
      go false t =
          let (o, a) = keep-got 11 (agree arc_of_circle) (read_all k arc_parts (split 44 c)) v (sym (circle_arc k (split 44 c) t) ∙ e) in
          let (w, s) = arc-shown v g o in
          (w, seven s)

-- ── a figure's record, by its line ──
abbrev arc_kind : Kind
arc_kind = values type_digits (drop 1 arc_parts) arc_of_circle

abbrev circle_of : Kind → Rule
circle_of d = repeated any_number (row "circle" d 4)

module _ (spool : List ℕ) where
  -- seven values
  arc_circle : (r : List ℤ) (v : List Num) → ShowsSeven r v → FromLine spool r (circle_of arc_kind) v → Circle spool false r
  arc_circle r v g f =
      let (u, o, q) = map-got nums (keep 11 (agree arc_of_circle) (read_all f.known arc_parts (split 44 f.content))) f.value f.reads in
      let (p, a) = keep-got 11 (agree arc_of_circle) (read_all f.known arc_parts (split 44 f.content)) u o in
      let is : u ≡ v = ap nums_of q ∙ f.numbers in
      let (w, s) = arc-shown f.known r f.content u (λ i h. g i h ∙ ap (λ v. value_at v i) (sym is)) p in
      record { content = f.content; own = f.own; values = w; turned = seven s }

  -- six or seven
  symbol_circle_lem : (r : List ℤ) (v : List Num) → ShowsSeven r v → FromLine spool r (circle_of symbol_circle) v → Circle spool true r
  symbol_circle_lem r v g f =
      let (u, o, q) = map-got nums (read_circle f.known (split 44 f.content)) f.value f.reads in
      let is : u ≡ v = ap nums_of q ∙ f.numbers in
      let (w, s) = circle-shown f.known r f.content u (λ i h. g i h ∙ ap (λ v. value_at v i) (sym is)) o in
      record { content = f.content; own = f.own; values = w; turned = s }

  -- ── lists of records ──
  abbrev Says_it : List ℤ → Type 0
  Says_it r = Says spool r (one_line_of (kind_of r))

  -- a record of no such figure
  quiet : (r : List ℤ) (k : ℕ) → kind_of r ≡ k → one_line_of k ≡ another → Says_it r
  quiet r k e a = subst (Says spool r) (sym (ap one_line_of e ∙ a)) tt

  record All (rs : List (List ℤ)) : Type 0 where
    are : AtTheirLines spool rs

  none : All []
  none = record { are = tt }

  one : {r : List ℤ} {rs : List (List ℤ)} → Says_it r → All rs → All (r ∷ rs)
  one p q = record { are = (p, q.are) }

  behind_it : {a b : List (List ℤ)} → All a → All b → All (a ++ b)
  behind_it {a} {b} p q = record { are = go a p.are }
    where
      go : (a : List (List ℤ)) → AtTheirLines spool a → AtTheirLines spool (a ++ b)
      go [] h = q.are
      go (r ∷ a) h = (h.0, go a h.1)

  each_item : {A : Type 0} (P Q : A → Type 0) (f : A → List (List ℤ)) → ((a : A) → P a → Q a → All (f a)) → (s : List A) → Each P s → Each Q s → All (flat (map f s))
  each_item P Q f e [] g h = none
  each_item P Q f e (a ∷ s) g h = behind_it (e a g.0 h.0) (each_item P Q f e s g.1 h.1)

  -- ── blocks without figures ──
  header-quiet : (k : ℕ) (v : Contents) → All (file_records true k v)
  unfolding file_table range_table base_table elec_table sym_table
  header-quiet k v = one tt (one tt none)

  later-quiet : (k : ℕ) (v : Contents) → All (file_records false k v)
  unfolding later_table
  later-quiet k v = one tt none

  drawing-quiet : (s : Set) (rs : List (List ℤ)) → All rs → All (drawing_record s.drawing ∷ rs)
  unfolding drawing_table
  drawing-quiet s rs p = one tt p

  layers-quiet : (n : ℕ) (ls : List Layer) → All (layer_records n ls)
  layers-quiet n [] = none
  layers-quiet n (l ∷ ls) = one tt (layers-quiet (suc n) ls)

  points-quiet : (kind owner volume : ℕ) (ps : List Point) → one_line_of kind ≡ another → All (point_records kind owner volume ps)
  points-quiet kind owner volume [] e = none
  points-quiet kind owner volume (p ∷ ps) e =
      let q = rule_at (point_table true) 0 in
      let v = Some (nums p.values) in
      let t = start kind owner volume p.line in
      one (quiet (put_slot q v t) kind (kind-slot q v t) e) (points-quiet kind owner volume ps e)

  module _ (vs : List Volume) (found : volumes_of spool ≡ Some vs) where
    -- ── figures of symbols ──
    symbol-line : (owner n j : ℕ) (v : List Num) → j < 6 → CameFigure (Has vs) false 1 (plain n j v) → Says_it (line_record plain_view 20 owner 1 n j v)
    unfolding figure_table
    symbol-line owner n zero v h c =
        let f = from-line spool vs found figure_table 1 n 0 v refl c (line_record plain_view 20 owner 1 n 0 v) refl refl in record { content = f.content; own = f.own }
    symbol-line owner n (suc zero) v h c =
        let r = line_record plain_view 20 owner 1 n 1 v in
        symbol_circle_lem r v (seven-shown 31 owner 1 n v) (from-line spool vs found figure_table 1 n 1 v refl c r refl refl)
    symbol-line owner n (suc (suc zero)) v h c =
        let f = from-line spool vs found figure_table 1 n 2 v refl c (line_record plain_view 20 owner 1 n 2 v) refl refl in record { content = f.content; own = f.own }
    symbol-line owner n (suc (suc (suc zero))) v h c =
        let f = from-line spool vs found figure_table 1 n 3 v refl c (line_record plain_view 20 owner 1 n 3 v) refl refl in record { content = f.content; own = f.own }
    symbol-line owner n (suc (suc (suc (suc zero)))) v h c = tt
    symbol-line owner n (suc (suc (suc (suc (suc zero))))) v h c = tt
    symbol-line owner n (suc (suc (suc (suc (suc (suc j)))))) v h c = absurd (omega arith)

    shape_says : (owner : ℕ) (f : Figure) → FitFigure AnyText false f → CameFigure (Has vs) false 1 f → All (figure_records plain_view 20 owner 1 f)
    unfolding text_table
    shape_says owner (plain n j v) g c = one (symbol-line owner n j v g c) none
    shape_says owner (chain n ps) g c = one tt (points-quiet 37 owner 1 ps refl)
    shape_says owner (lettering n s) g c = one tt none
    shape_says owner (placed n h) g c = absurd g
    shape_says owner (wired n w) g c = absurd g
    shape_says owner (passed n) g c = absurd g

    inner_says : (n : ℕ) (y : Symbol) → FitSymbol AnyText y → CameSymbol (Has vs) y → All (inner_records n y)
    inner_says n y g c =
        let shown = each_item (FitFigure AnyText false) (CameFigure (Has vs) false 1) (figure_records plain_view 20 n 1) (shape_says n) y.figures g.1 c in
        let hidden = points-quiet 43 n 1 y.hidden refl in
        by_cond All y.hide_first (λ _. behind_it hidden shown) (λ _. behind_it shown hidden)

    symbols_say : (n : ℕ) (ys : List Symbol) → Each (FitSymbol AnyText) ys → Each (CameSymbol (Has vs)) ys → All (symbol_records n ys)
    unfolding symbol_table
    symbols_say n [] g c = none
    symbols_say n (y ∷ ys) g c = one tt (behind_it (inner_says n y g.0 c.0) (symbols_say (suc n) ys g.1 c.1))

    -- ── wires ──
    -- a wire's line or arc: its record has how it is joined at place 11
    edge_says : (owner k n j : ℕ) (v : List Num) (join : ℕ) → j < 2 → Came (Has vs) k wire_table n j v
        → Says_it (edge_record owner k (record { line = n; row = j; values = v; join = join }))
    unfolding wire_table
    edge_says owner k n zero v join h x =
        let f = from-line spool vs found wire_table k n 0 v refl x (edge_record owner k (record { line = n; row = 0; values = v; join = join })) refl refl in
        record { content = f.content; own = f.own }
    edge_says owner k n (suc zero) v join h x =
        let r = edge_record owner k (record { line = n; row = 1; values = v; join = join }) in
        arc_circle r v (λ i b. set_miss 11 (4 + i) (pos join) (seven_in 21 owner k n v) (ap not (ne_eqb (4 + i) 11 (λ e. omega (arith, e, b)))) ∙ seven-shown 21 owner k n v i b)
        (from-line spool vs found wire_table k n 1 v refl x r refl refl)
    edge_says owner k n (suc (suc j)) v join h x = absurd (omega arith)

    edges_say : (owner k : ℕ) (es : List Edge) → Each FitEdge es → Each (CameEdge (Has vs) k) es → All (edge_records owner k es)
    edges_say owner k [] g x = none
    edges_say owner k (e ∷ es) g x = one (edge_says owner k e.line e.row e.values e.join g.0 x.0) (edges_say owner k es g.1 x.1)

    -- ── figures of layers ──
    module _ (c : Class) (s : Set) where
      abbrev view : View
      view = view_of c s

      -- a wire's row of the table is there or not
      row-seven : (wires : Bool) (owner k n : ℕ) (v : List Num)
          → Says_it (line_record (record { class = c; symbols = view.symbols; wires = view.wires; table = layer_table (is_single s) wires }) 0 owner k n 7 v)
      unfolding layer_table
      row-seven true owner k n v = tt
      row-seven false owner k n v = tt

      layer-line : (owner k n j : ℕ) (v : List Num) → j < 8 → CameFigure (Has vs) true k (plain n j v) → Says_it (line_record view 0 owner k n j v)
      unfolding layer_table placed_table text_table
      layer-line owner k n zero v h (a, b, x) =
          let f = from-line spool vs found (layer_table a b) k n 0 v refl x (line_record view 0 owner k n 0 v) refl refl in record { content = f.content; own = f.own }
      layer-line owner k n (suc zero) v h (a, b, x) =
          let r = line_record view 0 owner k n 1 v in
          arc_circle r v (seven-shown 11 owner k n v) (from-line spool vs found (layer_table a b) k n 1 v refl x r refl refl)
      layer-line owner k n (suc (suc zero)) v h (a, b, x) =
          let f = from-line spool vs found (layer_table a b) k n 2 v refl x (line_record view 0 owner k n 2 v) refl refl in record { content = f.content; own = f.own }
      layer-line owner k n (suc (suc (suc zero))) v h (a, b, x) =
          let f = from-line spool vs found (layer_table a b) k n 3 v refl x (line_record view 0 owner k n 3 v) refl refl in record { content = f.content; own = f.own }
      layer-line owner k n (suc (suc (suc (suc zero)))) v h x = tt
      layer-line owner k n (suc (suc (suc (suc (suc zero))))) v h x = tt
      layer-line owner k n (suc (suc (suc (suc (suc (suc zero)))))) v h x = tt
      layer-line owner k n (suc (suc (suc (suc (suc (suc (suc zero))))))) v h x = row-seven (is_wired s) owner k n v
      layer-line owner k n (suc (suc (suc (suc (suc (suc (suc (suc j)))))))) v h x = absurd (omega arith)

      figure_says : (owner k : ℕ) (f : Figure) → FitFigure AnyText true f → CameFigure (Has vs) true k f → All (figure_records view 0 owner k f)
      unfolding text_table placed_table
      figure_says owner k (plain n j v) g x = one (layer-line owner k n j v g x) none
      figure_says owner k (chain n ps) g x = one tt (points-quiet 17 owner k ps refl)
      figure_says owner k (lettering n o) g x = one tt none
      figure_says owner k (placed n h) g x = one tt none
      figure_says owner k (wired n w) g x =
          let shows = wire-shows view w owner k n in
          let t = both view w owner k n in
          one (quiet (take 32 t) 18 shows.kind refl) (one (quiet (drop 32 t) 19 shows.kind_too refl) (edges_say owner k w.elements g.0 x))
      figure_says owner k (passed n) g x =
          let shows = skip-shows view owner k n in
          let t = unread_numbers (mark_unread (digits 0 0) (digits_of view.wires) wire_table (wire_start owner k n)) in
          one (quiet (take 32 t) 18 shows.kind refl) (one (quiet (drop 32 t) 19 shows.kind_too refl) none)

      body_says : (k : ℕ) (v : Contents) → Each (FitBlock AnyText) v.blocks → CameContents (Has vs) k v → All (body_records view k v)
      body_says k v g x =
          each_item (FitBlock AnyText) (CameBlock (Has vs) k) (block_records view k)
          (λ u p q. each_item (FitFigure AnyText true) (CameFigure (Has vs) true k) (figure_records view 0 u.layer k) (figure_says u.layer k) u.figures p q)
          v.blocks g x

      volumes_say : (k : ℕ) (us : List Contents) → Each (FitContents AnyText false) us → CameVolumes (Has vs) k us → All (later_records view k us)
      volumes_say k [] g x = none
      volumes_say k (v ∷ us) g x = behind_it (behind_it (later-quiet k v) (body_says k v g.0.1 x.0)) (volumes_say (suc k) us g.1 x.1)

      set_says : FitSet AnyText s → CameSet (Has vs) s → All (records_of c s)
      unfolding records_of
      set_says f x = go s.volumes f.2 x.1
        where
          go : (us : List Contents) → FitVolumes AnyText us → CameVolumes (Has vs) 1 us → All (records_from c s us)
          go [] g x = none
          go (v ∷ us) g y =
              behind_it
              (behind_it
              (behind_it (behind_it (header-quiet 1 v) (drawing-quiet s (layer_records 0 s.drawing.layers) (layers-quiet 0 s.drawing.layers))) (symbols_say 0 s.symbols f.1 x.0))
              (body_says 1 v g.0.1 y.0))
              (volumes_say 2 us g.1 y.1)

-- ── the whole reading ──
read_says : (e : Env) (c : Class) (spool : List ℕ) (s : Set) → FitSet AnyText s → outcome_of_volumes e (volumes_of spool) ≡ accepted s → AtTheirLines spool (records_of c s)
read_says e c spool s f h =
    let p = parsed e spool s h in
    let ls = listing 1 p.volumes p.texts in
    let running = (lines-whole 0 p.volumes ls (listing_of 1 p.volumes p.texts p.theirs)).running in
    (set_says spool p.volumes p.found c s f (accepted-came (Has p.volumes) e ls s (lines_have p.volumes p.texts p.theirs) running p.runs)).are

pub turns : Turns
turns class wire len spool s e =
    let r = read-sound class wire len spool s e in
    subst (AtTheirLines spool) (sym r.records) (read_says (limited_to r.at (len / width)) r.at spool s r.fits (sym (outcome-at len spool class wire r.at r.listed) ∙ e))

pub call-turns : CallTurns
call-turns call n e =
    let len = length call.before in
    let is = sym call.answers ∙ e in
    let (s, read) = accepted-set call.class call.wire len call.spool n is in
    let stands = ap (first_records n) call.fills ∙ table-records call.class call.wire len call.spool n is in
    subst (AtTheirLines call.spool) (sym stands) (turns call.class call.wire len call.spool s read)
