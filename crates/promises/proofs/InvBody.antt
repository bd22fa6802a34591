-- A line in ELEMENT, in a layer or a symbol's element, and in the figures that are blocks keeps the invariant.
use Rattle.std.specs.Prelude.{Option, Some, None}
use Prim.Native.Nat.{ℕ, zero, suc, ◌≤◌, ◌+◌}
use mathlib.Core.Bool.{Bool, true, false, cond, ◌||◌, not}
use mathlib.Core.List.{List, [], ◌∷◌, ◌++◌, map, append-nil, append_assoc}
use mathlib.Core.Path.{◌≡◌, refl, sym, ◌∙◌, ap, subst}
use native.Mathlib.Omega.{arith}
use lib.Dec.{eqb, leb, ltb}
use lib.IntN.{pos}
use lib.ListN.{length, get_or}
use borrow.Author.Tests.{not-true, eqb-true, leb-true}
use Rattle.rules.specs.declared.Digits.{Digits}
use Rattle.rules.specs.Base.{all, is_nil, has_number, flat, index_of}
use Rattle.rules.specs.RefusalNumbers.{got, bad, or_bad}
use Rattle.rules.specs.Lines.{Rest, Form, ignored, wrong, close, eof, keyed}
use Rattle.rules.specs.RangeClass.{digits, reaches, exceeds, both, skip_of, most_depth}
use Rattle.rules.specs.Values.{Num, num, Value, nums, Known, nums_of, amount_at, is_layer_id, natural, read_part, layer_id, headed, read_kind, serials_of}
use Rattle.rules.specs.Rows.{Rule, Found, absent, found, find, Slots, Held, part_of, slot_value, held, rows_there, rows_at_limit, shape_for, Act, stay, entry, begin, shut, refuse, act_row, act_unknown, act, complete, inner_of}
use Rattle.rules.specs.Blocks.{element_table}
use Rattle.rules.specs.Figures.{layer_table, figure_table, least_points, point_table, text_table, placed_table, placed_tables, wire_table, wire_serial_row}
use Rattle.rules.specs.Sets.{Point, Figure, plain, chain, lettering, placed, LayerBlock, Contents, Set, with_records, with_volume, with_block, range_of, is_single, known_of, figure_serial, serials_of_block, serials_of_volume, serials_in, used_in, wired, passed, is_wired, wire_range, own_number}
use Rattle.rules.specs.VolumesAndTotals.{counted_here}
use Rattle.rules.specs.Machine.{Line, Home, in_element, in_layer, State, elements, figures, successive, texts, placing, skipping, by_act, on_elements, is_layer, home_table, close_figures, open_figure, on_figures, on_successive, on_texts, wire_block, wire_unread, no_wire}
use Rattle.rules.specs.PlacedSymbol.{on_unknown, none_of, new_serial, on_placed, on_placed_key, on_placed_own, on_placing, skip_shut, on_skipping, skip_ended, unread_shut}
use Rattle.rules.specs.Answers.{full_class}
use Rattle.rules.specs.RecordTable.{rule_at, kind_line, kind_successive, kind_text, kind_point}
use Rattle.rules.specs.Machine.{symbol_block, Owned, kind_in}
use Rattle.rules.specs.Sets.{layer_table_of}
use Rattle.rules.proofs.Chains.{and_left, unless-got, map-got, or-got, map-append, On, on-unless, on-cond, or_left, clash}
use Rattle.rules.proofs.OnActs.{on_skip}
use Rattle.rules.proofs.Rows.{found-row, row-all, row_at, row-did}
use Rattle.rules.proofs.Runs.{head-file, head-snoc}
use Rattle.promises.proofs.Forms.{keys_ok, table-keys, Tells, layer-keys}
use Rattle.promises.proofs.Values.{name-same}
use Rattle.promises.proofs.Good.{Always, none0, GoodChain, GoodText, GoodFigure, GoodShape, fresh_numbers, good-blank, ranges_of}
use Rattle.promises.proofs.InvRows.{Took, ActTold, read-begin, on-by_act, row_told, on-act, row-all-at, only_numbers, entry-numbers, level_by}
use Rattle.promises.proofs.InvParts.{all_nameless, took-set}
use Rattle.promises.proofs.InvPlaced.{placed-start, placed-enter, placed-begin, text-enter, text-keys, text-opens, text-shut, placed-good}
use Rattle.promises.proofs.InvState.{WireInv, file_of, untaken, Working, Over, LayerOpen, figure_serials, FiguresInv, Inv, figures-more, shapes-more, blocks_more, volumes-more, number_more, serial-more}
use Rattle.promises.proofs.Distinct.{flat-more}
use Rattle.promises.proofs.InvHead.{full_env, points-enter}
use Rattle.promises.proofs.Nameless.{nameless}

-- ── ELEMENT ──
-- the layer that a LAYER line names
layer-read : (k : Known) (at : ℕ) (c : List ℕ) (v : Value) → read_kind k (headed 1 layer_id) at c ≡ got v
    → (index_of (get_or k.layers (amount_at v 0) []) k.layers ≡ Some (amount_at v 0)) × (is_layer_id (get_or k.layers (amount_at v 0) []) ≡ true)
layer-read k at c v e =
    let (a, e1, q1) = map-got (λ (n : Num). nums (n ∷ [])) (read_part k layer_id c) v e in
    let (id, e2) = unless-got (is_layer_id c) 11 (natural (or_bad 14 (index_of c k.layers))) a e1 in
    let (m, e3, q2) = map-got (λ (n : ℕ). num (pos n)) (or_bad 14 (index_of c k.layers)) a e2 in
    go a m q1 q2 id (or-got 14 (index_of c k.layers) m e3)
  where
    go : (a : Num) (m : ℕ) → nums (a ∷ []) ≡ v → num (pos m) ≡ a → is_layer_id c ≡ true → index_of c k.layers ≡ Some m
        → (index_of (get_or k.layers (amount_at v 0) []) k.layers ≡ Some (amount_at v 0)) × (is_layer_id (get_or k.layers (amount_at v 0) []) ≡ true)
    go a m q p id e =
        let is : m ≡ amount_at v 0 = ap (λ (n : Num). amount_at (nums (n ∷ [])) 0) p ∙ ap (λ (v : Value). amount_at v 0) q in
        let same = name-same c k.layers m e in
        (rw (← is, same) e, rw (← is, same) id)

layer_open : {k : Known} {full : List Bool} {i j : ℕ} {v : Value} (now : Contents) → Took k none0 element_table full j v true (begin i j v) → has_number (amount_at v 0) (used_in now) ≡ false
    → LayerOpen k now (amount_at v 0)
unfolding element_table
layer_open {k} {full} {i} {j} {v} now w new =
    let z = eqb-true j 0 (row-all-at (λ j r. eqb j 0) w.row refl) in
    let q : get_or element_table 0 w.rule ≡ w.rule = subst (λ (j : ℕ). get_or element_table j w.rule ≡ w.rule) z (row_at w.row w.rule) in
    let r = rule_at element_table 0 in
    let did = row-did k none0 (get_or full j false) j r w.rest (begin i j v) refl (subst (λ (r : Rule). act_row k none0 (get_or full j false) j r w.rest ≡ begin i j v) (sym q) w.from) in
    let (at, c, e) = read-begin k j r (shape_for r w.rest) i j v did.read refl did.fit in
    let (here, id) = layer-read k at c v e in
    record { here = here; id = id; new = new }

close-volume : (done : List (List ℕ)) (cur : List ℕ) (s : Set) → Working done cur (file_of s) (untaken s) → counted_here s ≡ true → Over (done ++ cur ∷ []) (file_of (with_volume s)) (untaken (with_volume s))
close-volume done cur s w e =
    subst (λ (f : Held). Over (done ++ cur ∷ []) f (untaken (with_volume s))) (sym (ap (λ (v : Contents). v.file) (head-snoc s.now s.now s.volumes)))
    (record {
      fixed = w.fixed;
      closed =
          volumes-more (known_of s) (file_of s) done s.volumes cur s.now w.closed w.begun
          (λ c. record { blocks = w.blocks; once = w.once; chain = c; count = e });
      serials = rw (flat-more serials_of_volume s.volumes s.now) w.serials;
      before = s.volumes;
      latest = refl;
    })

close-layer : (done : List (List ℕ)) (cur : List ℕ) (s : Set) (n : ℕ) (fs : List Figure) → FiguresInv done cur s (in_layer n) fs
    → Working done cur (file_of (with_block (record { layer = n; figures = fs }) s)) (untaken (with_block (record { layer = n; figures = fs }) s))
close-layer done cur s n fs i =
    let u : LayerBlock = record { layer = n; figures = fs } in
    subst (λ (f : Held). Working done cur f (untaken (with_block u s))) (head-file s.now (with_block u s).now s.volumes refl)
    (record {
      fixed = i.0.fixed;
      closed = i.0.closed;
      begun = i.0.begun;
      blocks = blocks_more (known_of s) (ranges_of s) s.now.blocks u i.0.blocks (record { here = i.1.here; id = i.1.id; figures = i.2 });
      once = rw (map-append (λ (u : LayerBlock). u.layer) s.now.blocks (u ∷ [])) (number_more (used_in s.now) n i.0.once i.1.new);
      serials =
          rw (flat-more serials_of_block s.now.blocks u, ← append_assoc (flat (map serials_of_volume s.volumes)) (serials_of_volume s.now) (figure_serials fs)) i.3;
    })

-- ── figures ──
abbrev pub HomeGood : Set → Home → Figure → Type 0
HomeGood s (in_element y) f = GoodShape (range_of s) f
HomeGood s (in_layer n) f = GoodFigure (known_of s) (ranges_of s) f

own_add : (o : Option Value) (s : List ℕ) → fresh_numbers [] s ≡ true → none_of (own_number o) s ≡ true → fresh_numbers [] (s ++ own_number o) ≡ true
own_add None s g e = rw (append-nil s) g
own_add (Some v) s g e = number_more s (amount_at v 0) g (not-true (has_number (amount_at v 0) s) (and_left (not (has_number (amount_at v 0) s)) _ e))

serial_add : (f : Figure) (s : List ℕ) → fresh_numbers [] s ≡ true → none_of (figure_serial f) s ≡ true → fresh_numbers [] (s ++ figure_serial f) ≡ true
serial_add (plain n j v) s g e = rw (append-nil s) g
serial_add (chain n ps) s g e = rw (append-nil s) g
serial_add (lettering n o) s g e = rw (append-nil s) g
serial_add (wired n w) s g e = own_add (get_or w.own wire_serial_row None) s g e
serial_add (passed n) s g e = rw (append-nil s) g
serial_add (placed n h) s g e = serial-more s (serials_of (slot_value (held "serial" placed_table (part_of h 0)))) g e

pub add-figure : (done : List (List ℕ)) (cur : List ℕ) (s : Set) (h : Home) (fs : List Figure) (f : Figure) → FiguresInv done cur s h fs → HomeGood s h f
    → none_of (figure_serial f) (serials_in s ++ figure_serials fs) ≡ true → FiguresInv done cur s h (fs ++ f ∷ [])
add-figure done cur s (in_element y) fs f i g e = (i.0, i.1, i.2, shapes-more (range_of s) fs f i.3 g)
add-figure done cur s (in_layer n) fs f i g e = (
  i.0,
  i.1,
  figures-more (known_of s) (ranges_of s) fs f i.2 g,
  rw (flat-more figure_serial fs f, ← append_assoc (serials_in s) (figure_serials fs) (figure_serial f)) (serial_add f (serials_in s ++ figure_serials fs) i.3 e),
)

-- records that are taken change nothing here
records-taken : (done : List (List ℕ)) (cur : List ℕ) (s : Set) (h : Home) (fs : List Figure) (ks : List ℕ) → FiguresInv done cur s h fs → FiguresInv done cur (with_records ks s) h fs
records-taken done cur s (in_element y) fs ks i = i
records-taken done cur s (in_layer n) fs ks i = i

home-keys : (s : Set) (h : Home) → keys_ok (home_table s h) ≡ true
home-keys s (in_element y) = (table-keys true 0 0).12
home-keys s (in_layer n) = layer-keys (is_single s) (is_wired s)

layer-numbers : (single wires : Bool) → all only_numbers (layer_table single wires) ≡ true
unfolding layer_table
layer-numbers true true = refl
layer-numbers true false = refl
layer-numbers false true = refl
layer-numbers false false = refl

shape-rows : (all only_numbers figure_table ≡ true) × (all_nameless figure_table ≡ true)
unfolding figure_table
shape-rows = (refl, refl)

plain-good : (s : Set) (h : Home) (m j : ℕ) (v : Value) → Took (known_of s) (range_of s) (home_table s h) (rows_at_limit 0 (home_table s h)) j v false (entry j v) → HomeGood s h (plain m j (nums_of v))
plain-good s (in_element y) m j v w =
    let e = entry-numbers (known_of s) (range_of s) (get_or (rows_at_limit 0 figure_table) j false) j w.rule w.rest j v (row-all only_numbers w.row shape-rows.0) w.from in
    record { rule = w.rule; row = w.row; good = rw e (w.always (row-all (λ r. nameless r.holds) w.row shape-rows.1)); alone = rw e w.opened-is }
plain-good s (in_layer n) m j v w =
    let e = entry-numbers (known_of s) (range_of s) (get_or (rows_at_limit 0 (layer_table_of s)) j false) j w.rule w.rest j v (row-all only_numbers w.row (layer-numbers (is_single s) (is_wired s))) w.from in
    record { rule = w.rule; row = w.row; good = rw e w.good; alone = rw e w.opened-is }

-- the row of a placed symbol, the sixth behind the first, alone opens block 3
its-row : {j : ℕ} (r : Rule) → 3 ≡ inner_of r.holds → (eqb j 6 || not (eqb 3 (inner_of r.holds))) ≡ true → j ≡ 6
its-row {j} r e z = eqb-true j 6 (or_left (eqb j 6) _ (ap (λ (i : ℕ). not (eqb 3 i)) (sym e)) z)

-- a placed symbol's block opens at no single range, from 001 on
placed-opens : {k : Known} {d : Digits} {full : List Bool} {j : ℕ} {v : Value} (single wires : Bool) → Took k d (layer_table single wires) full j v true (begin 3 j v)
    → (single ≡ false) × (reaches d (digits 0 1) ≡ true)
unfolding layer_table
placed-opens true true w = clash (row-all (λ r. not (eqb 3 (inner_of r.holds))) w.row refl) (ap (λ (i : ℕ). not (eqb 3 i)) (sym w.inside))
placed-opens true false w = clash (row-all (λ r. not (eqb 3 (inner_of r.holds))) w.row refl) (ap (λ (i : ℕ). not (eqb 3 i)) (sym w.inside))
placed-opens false true w = (refl, level_by w 6 (its-row w.rule w.inside (row-all-at (λ j r. eqb j 6 || not (eqb 3 (inner_of r.holds))) w.row refl)))
placed-opens false false w = (refl, level_by w 6 (its-row w.rule w.inside (row-all-at (λ j r. eqb j 6 || not (eqb 3 (inner_of r.holds))) w.row refl)))

-- a wire's opens where E_wire isn't 000
wire-opens : {k : Known} {d : Digits} {full : List Bool} {j : ℕ} {v : Value} {m : ℕ} (single wires : Bool) → Took k d (layer_table single wires) full j v true (begin (suc (suc (suc (suc m)))) j v)
    → wires ≡ true
unfolding layer_table
wire-opens single true w = refl
wire-opens true false w = absurd (omega (arith, w.inside, leb-true (inner_of w.rule.holds) 3 (row-all (λ r. leb (inner_of r.holds) 3) w.row refl)))
wire-opens false false w = absurd (omega (arith, w.inside, leb-true (inner_of w.rule.holds) 3 (row-all (λ r. leb (inner_of r.holds) 3) w.row refl)))

chain-home : (s : Set) (h : Home) (n : ℕ) (ps : List Point) → GoodChain (is_layer h) ps → HomeGood s h (chain n ps)
chain-home s (in_element y) n ps g = g
chain-home s (in_layer k) n ps g = g

-- a wire that has nothing yet
wire-start : (wires : ℕ) (used : List ℕ) → WireInv wires used 0 no_wire
unfolding wire_table
wire-start wires used =
    record {
      holds =
          record {
            elements = tt;
            groups = record { direcs = []; piends = []; counts = []; are = refl; direcs-good = tt; piends-good = tt; counts-good = tt };
            texts = tt;
            own = tt;
            once = refl;
          };
      writing = (refl, refl);
      serial = refl;
    }

text-home : (s : Set) (h : Home) (n : ℕ) (o : Slots) → GoodText (is_layer h) o → HomeGood s h (lettering n o)
text-home s (in_element y) n o g = g
text-home s (in_layer k) n o g = g

pub texts-nameless : (b : Bool) → all_nameless (text_table b 4 12) ≡ true
unfolding text_table
texts-nameless true = refl
texts-nameless false = refl

close-told : (k : Known) (d c : Digits) (t : List Rule) (full : List Bool) → ActTold k d c t full (act k t c full close)
close-told k d c t full = go (complete c t full) refl
  where
    go : (b : Bool) → complete c t full ≡ b → ActTold k d c t full (cond b shut (refuse 8))
    go true e = e
    go false e = tt

module _ (done fin : List (List ℕ)) (l : Line) (n : ℕ) (fit : n ≤ 512) where
  abbrev J : State → Type 0
  J st = Inv done l.next fin st

  pub on-elements : (s : Set) → Tells n l.form → J (elements s) → On J (on_elements s l.form)
  unfolding element_table
  on-elements s t i =
      on-act J (known_of s) none0 element_table (rows_at_limit 0 element_table) n l.form (table-keys true 0 0).10 t fit _ _ _ _ i
      (λ j v w. tt)
      (λ i' j v w. on-unless J (not (has_number (amount_at v 0) (used_in s.now))) 14 _ λ e.
      (i, layer_open s.now w (not-true (has_number (amount_at v 0) (used_in s.now)) e), tt, rw (append-nil (serials_in s)) i.serials))
      (λ e. on-unless J (counted_here s) 17 _ λ c. close-volume done l.next s i c)

  close-figures : (s : Set) (h : Home) (fs : List Figure) → J (figures s h fs) → On J (close_figures s h fs)
  close-figures s (in_element y) fs i = on-unless J (not (is_nil fs)) 8 _ λ e. (i.0, i.1, i.2, λ z. (i.3, not-true (is_nil fs) e))
  close-figures s (in_layer k) fs i = close-layer done l.next s k fs i

  open-figure : (s : Set) (h : Home) (fs : List Figure) (i j : ℕ) (v : Value) → J (figures s h fs)
      → Took (known_of s) (range_of s) (home_table s h) (rows_at_limit 0 (home_table s h)) j v true (begin i j v) → On J (open_figure full_env l s h fs i)
  open-figure s h fs zero j v i w = tt
  open-figure s h fs (suc zero) j v i w = (records-taken done l.next s h fs (kind_in h kind_successive ∷ []) i, (tt, refl))
  open-figure s h fs (suc (suc zero)) j v i w = (records-taken done l.next s h fs (kind_in h kind_text ∷ []) i, good-blank (Always none0) (text_table (is_layer h) 4 12))
  open-figure s (in_element y) fs (suc (suc (suc zero))) j v i w = tt
  open-figure s (in_element y) fs (suc (suc (suc (suc m)))) j v i w = tt
  open-figure s (in_layer k) fs (suc (suc (suc (suc m)))) j v i w = (i, wire-opens (is_single s) (is_wired s) w, wire-start (wire_range s) (serials_in s ++ figure_serials fs))
  open-figure s (in_layer k) fs (suc (suc (suc zero))) j v i w =
      let (single, level) = placed-opens (is_single s) (is_wired s) w in (i, placed-start (known_of s) (range_of s) (serials_in s ++ figure_serials fs), single, level)

  pub on-figures : (s : Set) (h : Home) (fs : List Figure) → Tells n l.form → J (figures s h fs) → On J (on_figures full_env l s h fs l.form)
  on-figures s h fs t i =
      on-act J (known_of s) (range_of s) (home_table s h) (rows_at_limit 0 (home_table s h)) n l.form (home-keys s h) t fit _ _ _ _ i
      (λ j v w. records-taken done l.next s h (fs ++ plain l.line j (nums_of v) ∷ []) (kind_in h (kind_line + j) ∷ [])
      (add-figure done l.next s h fs (plain l.line j (nums_of v)) i (plain-good s h l.line j v w) refl))
      (λ i' j v w. open-figure s h fs i' j v i w)
      (λ e. close-figures s h fs i)

  -- ── figures that are blocks ──
  pub on-successive : (s : Set) (h : Home) (fs : List Figure) (m : ℕ) (ps : List Point) → Tells n l.form → J (successive s h fs m ps) → On J (on_successive full_env l s h fs m ps l.form)
  on-successive s h fs m ps t i =
      on-act J (known_of s) none0 (point_table (is_layer h)) (rows_at_limit (length ps) (point_table (is_layer h))) n l.form (table-keys (is_layer h) 0 0).13 t fit _ _ _ _ i
      (λ j v w. (records-taken done l.next s h fs (kind_in h kind_point ∷ []) i.0, points-enter (is_layer h) l ps i.1 w))
      (λ i' j v w. tt)
      (λ e. on-unless J (leb least_points (length ps)) 8 _ λ c.
      add-figure done l.next s h fs (chain m ps) i.0 (chain-home s h m ps (record { points = i.1.0; least = c; most = i.1.1 })) refl)

  pub on_texts_lem : (s : Set) (h : Home) (fs : List Figure) (m : ℕ) (o : Slots) → Tells n l.form → J (texts s h fs m o) → On J (on_texts s h fs m o l.form)
  on_texts_lem s h fs m o t i =
      on-act J (known_of s) none0 (text_table (is_layer h) 4 12) (rows_there o) n l.form (table-keys (is_layer h) 4 12).14 t fit _ _ _ _ i
      (λ j v w. (i.0, took-set o none0 (texts-nameless (is_layer h)) w i.1))
      (λ i' j v w. tt)
      (λ e. add-figure done l.next s h fs (lettering m o) i.0 (text-home s h m o (record { good = i.1; all = e })) refl)

  -- ── the placed symbol ──
  placed-act : (s : Set) (k : ℕ) (fs : List Figure) (m : ℕ) (o : Held) (a : Act) → ActTold (known_of s) (range_of s) (both full_class.symbols (range_of s)) placed_table (rows_there (part_of o 0)) a → J (placing s k fs m (symbol_block o) 0)
      → On J (on_placed s k fs m o 0 a)
  placed-act s k fs m o a told i =
      on-by_act J (known_of s) (range_of s) (both full_class.symbols (range_of s)) placed_table (rows_there (part_of o 0)) _ _ _ _ a told i
      (λ j v w. on-unless J (new_serial s fs v) 15 _ λ e. (i.0, placed-enter (serials_in s ++ figure_serials fs) o i.1 w e, i.2, i.3))
      (λ i' j v w. (i.0, placed-begin (serials_in s ++ figure_serials fs) o i.1 w, i.2, i.3))
      (λ e. let (g, new) = placed-good (serials_in s ++ figure_serials fs) o m i.1 e in add-figure done l.next s (in_layer k) fs (placed m o) i.0 (g, i.2, i.3) new)

  refused-act : (st : State) (a : Act) → J st → On J (by_act st (λ j v. bad 6) (λ i j v. bad 6) (λ _. bad 6) a)
  refused-act st stay i = i
  refused-act st (entry j v) i = tt
  refused-act st (begin i' j v) i = tt
  refused-act st shut i = tt
  refused-act st (refuse m) i = tt

  -- what is skipped leaves what is held as it is
  on-unknown : (s : Set) (k : ℕ) (fs : List Figure) (m : ℕ) (o : Held) (key : List ℕ) (c : Rest) → J (placing s k fs m (symbol_block o) 0) → On J (on_unknown full_env s k fs m o key c)
  on-unknown s k fs m o key c i =
      on-cond J (exceeds (range_of s) full_class.symbols) _ _ (λ e. on_skip J (skip_of key c) _ _ i i) (λ e. refused-act (placing s k fs m (symbol_block o) 0) (act_unknown c) i)

  placed-key : (s : Set) (k : ℕ) (fs : List Figure) (m : ℕ) (o : Held) (key : List ℕ) (c : Rest) (f : Found) → find key placed_table ≡ f → Tells n (keyed key c) → J (placing s k fs m (symbol_block o) 0)
      → On J (on_placed_key full_env s k fs m o key c f)
  placed-key s k fs m o key c absent e t i = on-unknown s k fs m o key c i
  placed-key s k fs m o key c (found j r) e t i =
      let (w, q) = found-row key placed_table j r e in
      on-cond J (reaches full_class.symbols r.least) _ _
      (λ _. placed-act s k fs m o (act_row (known_of s) (range_of s) (get_or (rows_there (part_of o 0)) j false) j r c)
      (row_told (known_of s) (range_of s) (both full_class.symbols (range_of s)) placed_table (rows_there (part_of o 0)) n key c j r w q (table-keys true 0 0).15 t fit) i)
      (λ _. on-unknown s k fs m o key c i)

  placed-own : (s : Set) (k : ℕ) (fs : List Figure) (m : ℕ) (o : Held) (f : Form) → Tells n f → J (placing s k fs m (symbol_block o) 0) → On J (on_placed_own full_env s k fs m o f)
  placed-own s k fs m o ignored t i = i
  placed-own s k fs m o (wrong p) t i = tt
  placed-own s k fs m o close t i =
      placed-act s k fs m o (act (known_of s) placed_table (both full_class.symbols (range_of s)) (rows_there (part_of o 0)) close)
      (close-told (known_of s) (range_of s) (both full_class.symbols (range_of s)) placed_table (rows_there (part_of o 0))) i
  placed-own s k fs m o eof t i = tt
  placed-own s k fs m o (keyed key c) t i = placed-key s k fs m o key c (find key placed_table) refl t i

  pub on-placing : (s : Set) (k : ℕ) (fs : List Figure) (m : ℕ) (o : Held) (p : ℕ) → Tells n l.form → J (placing s k fs m (symbol_block o) p) → On J (on_placing full_env s k fs m o p l.form)
  on-placing s k fs m o zero t i = placed-own s k fs m o l.form t i
  on-placing s k fs m o (suc p) t i =
      on-act J (known_of s) none0 (get_or placed_tables (suc p) []) (rows_there (part_of o (suc p))) n l.form (text-keys p) t fit _ _ _ _ i
      (λ j v w. on-unless J (new_serial s fs v) 15 _ λ e. (i.0, text-enter (serials_in s ++ figure_serials fs) p o i.1 w, i.2, i.3))
      (λ i' j v w. absurd (text-opens p w))
      (λ e. (i.0, text-shut (serials_in s ++ figure_serials fs) p o i.1 e, i.2, i.3))

  skip-ended : (s : Set) (k : ℕ) (fs : List Figure) (m : ℕ) (b : Owned) (d : ℕ) → J (skipping s k fs m b d) → J (skip_ended s k fs m b)
  skip-ended s k fs m (symbol_block o) d i = i
  skip-ended s k fs m (wire_block w) d i = i
  skip-ended s k fs m wire_unread d i = i

  unread-shut : (s : Set) (k : ℕ) (fs : List Figure) (m : ℕ) (b : Owned) (d : ℕ) → J (skipping s k fs m b d) → On J (unread_shut s k fs m b)
  unread-shut s k fs m (symbol_block o) d i = tt
  unread-shut s k fs m (wire_block w) d i = tt
  unread-shut s k fs m wire_unread d i = absurd i

  skip-shut : (s : Set) (k : ℕ) (fs : List Figure) (m : ℕ) (b : Owned) (d : ℕ) → J (skipping s k fs m b d) → On J (skip_shut s k fs m b d)
  skip-shut s k fs m b zero i = unread-shut s k fs m b 0 i
  skip-shut s k fs m b (suc zero) i = skip-ended s k fs m b 1 i
  skip-shut s k fs m b (suc (suc d)) i = i

  pub on-skipping : (s : Set) (k : ℕ) (fs : List Figure) (m : ℕ) (b : Owned) (d : ℕ) (f : Form) → J (skipping s k fs m b d) → On J (on_skipping s k fs m b d f)
  on-skipping s k fs m b d ignored i = i
  on-skipping s k fs m b d (wrong p) i = tt
  on-skipping s k fs m b d close i = skip-shut s k fs m b d i
  on-skipping s k fs m b d eof i = tt
  on-skipping s k fs m b d (keyed key c) i = on_skip J (skip_of key c) _ _ i (on-unless J (ltb d most_depth) 18 _ λ e. i)
