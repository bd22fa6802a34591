-- A line at the top level, in FILE_FORMAT, DRAWING_FORMAT and SYMBOL_DEFINE keeps the invariant.
use Rattle.std.specs.Prelude.{Some, None}
use Prim.Native.Nat.{ℕ, zero, suc, ◌≤◌}
use mathlib.Core.Bool.{Bool, true, false, cond, ◌&&◌, ◌||◌, not, true≢false}
use mathlib.Core.List.{List, [], ◌∷◌, ◌++◌, map, append-nil}
use mathlib.Core.Path.{◌≡◌, refl, sym, ◌∙◌, ap, subst}
use native.Mathlib.Omega.{arith}
use lib.Dec.{eqb, leb, ltb}
use lib.ListN.{length, get_or, set, length-append}
use lib.Seq.{get_or-set_other}
use borrow.Author.Tests.{not-true, eqb-true, leb-false, le-leb, ltb-true}
use Rattle.rules.specs.declared.Digits.{Digits}
use Rattle.rules.specs.Base.{is_nil, is_some, among, flat}
use Rattle.rules.specs.RefusalNumbers.{bad, unless}
use Rattle.rules.specs.Lines.{Rest, equals, Form, ignored, wrong, close, eof, keyed, shape_of, free_shape_of}
use Rattle.rules.specs.RangeClass.{digits_of, reaches}
use Rattle.rules.specs.Values.{Value, empty, nums, chars, linked, Known, word, letters_and_digits, chars_of, is_layer_id, show_content}
use Rattle.rules.specs.Rows.{Slots, Held, part_of, rows_there, rows_at_limit, fits, Act, entry, begin, act, complete}
use Rattle.rules.specs.Blocks.{top_table, drawing_table, most_layers, defines_table, symbol_table}
use Rattle.rules.specs.Figures.{point_table}
use Rattle.rules.specs.Sets.{Point, Layer, Drawing, Symbol, Contents, Set, head_or, with_own, symbol_own, is_first, arc_of, range_of, define_range, symbol_name_of, known_of, serials_of_volume}
use Rattle.rules.specs.VolumesAndTotals.{chained, dated, counted_all, layers_used, partners_exist}
use Rattle.rules.specs.Machine.{tests_partners, unlimited, Line, Env, State, top, file, drawing, layer_names, defines, symbol, hide, by_act, open_top, at_eof, on_top, close_file, shut_part, on_file, on_drawing, layer_value, layer_line, on_layer_names, on_defines, new_name, open_symbol, on_symbol, point_at, on_hide}
use Rattle.rules.specs.Answers.{full_class}
use Rattle.rules.specs.RecordTable.{rule_at}
use Rattle.rules.proofs.Chains.{and_left, and_right, or_true, clash, map-append, On, on-unless, on_then}
use Rattle.rules.proofs.Rows.{row-all, row_at, row-did}
use Rattle.promises.specs.PlacesApart.{bare_value}
use Rattle.promises.proofs.Forms.{table-keys, Tells}
use Rattle.promises.proofs.Good.{rest_of, Always, GoodSlots, none0, ids_of, GoodSymbol, GoodDefines, GoodLaters, GoodSet, ranges_in}
use Rattle.promises.proofs.RowGood.{layer-good}
use Rattle.promises.proofs.InvRows.{Took, on-act, row-all-at, complete-at, only_numbers, entry-numbers, open_at, level_by}
use Rattle.promises.proofs.InvParts.{all_nameless, took-set, other-kept, opened-by, inner-by}
use Rattle.promises.proofs.InvFile.{FileInv, FileGood, part_table, file-start, file-keys, file-enter, file-begin, file-shut_in, file-shut}
use Rattle.promises.proofs.InvState.{file_of, dated_in, Laters, Volumes, untaken, Working, Over, Start, TopInv, DrawingInv, Defining, Making, name_in, NewName, Points, Inv, points-more, layers-more, symbols-more, fresh-more}
use Rattle.promises.proofs.Nameless.{nameless}
use Rattle.promises.proofs.OnEof.{on-eof}

-- the reading at class 15, with no limit of records
abbrev pub full_env : Env
full_env = unlimited full_class

-- ── the end ──
laters-good : (k : Known) (s : Set) (ns : List (List ℕ)) (vs : List Contents) → Laters k (file_of s) ns vs → GoodLaters k (ranges_in (file_of s)) s ns vs
laters-good k s [] [] g = tt
laters-good k s [] (v ∷ vs) g = absurd g
laters-good k s (n ∷ ns) [] g = absurd g
laters-good k s (n ∷ ns) (v ∷ vs) g = (g.0, g.1, g.2, laters-good k s ns vs g.3)

set-good : (nexts : List (List ℕ)) (s : Set) → Over nexts (file_of s) (untaken s) → layers_used s ≡ true → counted_all s ≡ true
    → (not (tests_partners full_class s) || partners_exist s) ≡ true → GoodSet nexts s
set-good nexts s o used counted partners = go nexts s.volumes refl o.closed
  where
    none_left : (u : List Contents) → s.volumes ≡ [] → s.volumes ≡ u ++ s.now ∷ [] → ⊥
    none_left [] p q = true≢false (ap is_nil (sym p ∙ q))
    none_left (v ∷ u) p q = true≢false (ap is_nil (sym p ∙ q))

    go : (nexts : List (List ℕ)) (vs : List Contents) → s.volumes ≡ vs → Volumes (known_of s) (file_of s) nexts vs → GoodSet nexts s
    go [] [] e g = absurd (none_left o.before e o.latest)
    go [] (v ∷ vs) e g = absurd g
    go (n ∷ ns) [] e g = absurd g
    go (n ∷ ns) (v ∷ vs) e g =
        record {
          first = v;
          rest = vs;
          volumes = e;
          next = n;
          others = ns;
          nexts-are = refl;
          file = rw g.1 o.fixed.file;
          drawing = o.fixed.drawing;
          defines = o.fixed.defines;
          volume = g.0;
          laters = laters-good (known_of s) s ns vs g.2;
          serials = o.serials;
          used = used;
          counted = counted;
          partners = partners;
          before = o.before;
          latest = o.latest;
        }

-- ── FILE_FORMAT closes ──
dated_in_lem : (b : Bool) (s : Set) (h : Held) → dated s b h ≡ true → b ≡ false → dated_in (file_of s) h ≡ true
dated_in_lem true s h e q = clash refl q
dated_in_lem false s h e q = e

close-file : (done : List (List ℕ)) (cur : List ℕ) (d : Drawing) (ys : List Symbol) (vs : List Contents) (was new : Contents)
    → Start vs done (record { drawing = d; symbols = ys; volumes = vs; now = was; taken = 0 }) → FileGood (is_nil vs) new.file → chained (is_nil vs) cur new.file ≡ true
    → (is_nil vs ≡ false → dated_in (head_or was vs).file new.file ≡ true) → new.blocks ≡ []
    → TopInv done cur (cond (is_nil vs) 1 3) (record { drawing = d; symbols = ys; volumes = vs; now = new; taken = 0 })
close-file done cur d ys [] was new st g c t b = (record { alone = refl; none_done = st.0; file = g; chain = c; no_blocks = b }, st.1)
close-file done cur d ys (v ∷ vs) was new st g c t b =
    record {
      fixed = st.fixed;
      closed = st.closed;
      begun = (g, t refl, c);
      blocks = rw b tt;
      once = rw b;
      serials = rw (b, append-nil (serials_of_volume v ++ flat (map serials_of_volume vs))) st.serials;
    }

-- SYMBOL_DEFINE closes
open-elements : (done : List (List ℕ)) (cur : List ℕ) (s : Set) → Defining done cur s → Working done cur (file_of s) (untaken s)
open-elements done cur s i =
    record {
      fixed = i.1;
      closed = rw (i.0.alone, i.0.none_done) tt;
      begun = rw i.0.alone (refl, i.0.chain);
      blocks = rw i.0.no_blocks tt;
      once = rw i.0.no_blocks;
      serials = rw (i.0.alone, i.0.no_blocks);
    }

-- ── points ──
pub point-nameless : (b : Bool) → all_nameless (point_table b) ≡ true
unfolding point_table
point-nameless true = refl
point-nameless false = refl

pub points-enter : {k : Known} {j : ℕ} {v : Value} (b : Bool) (l : Line) (ps : List Point) → Points b ps → Took k none0 (point_table b) (rows_at_limit (length ps) (point_table b)) j v false (entry j v)
    → Points b (ps ++ point_at l v ∷ [])
unfolding point_table
points-enter {k} {j} {v} b l ps i w =
    let z = eqb-true j 0 (row-all-at (λ j r. eqb j 0) w.row refl) in
    let q : get_or (point_table b) 0 w.rule ≡ w.rule = subst (λ (j : ℕ). get_or (point_table b) j w.rule ≡ w.rule) z (row_at w.row w.rule) in
    let few : leb 100 (length ps) ≡ false = subst (λ (j : ℕ). get_or (rows_at_limit (length ps) (point_table b)) j false ≡ false) z w.new in
    let v-is = entry-numbers k none0 (get_or (rows_at_limit (length ps) (point_table b)) j false) j w.rule w.rest j v (row-all only_numbers w.row refl) w.from in
    let a : Always none0 w.rule v = w.always (row-all (λ r. nameless r.holds) w.row (point-nameless b)) in (
      points-more b ps (point_at l v) i.0 (rw (q, v-is) a),
      le-leb (length (ps ++ point_at l v ∷ [])) 100 (omega (arith, length-append ps (point_at l v ∷ []), leb-false 100 (length ps) few)),
    )

-- ── symbols ──
symbol-nameless : all_nameless symbol_table ≡ true
unfolding symbol_table
symbol-nameless = refl

-- a row that opens a block is not the name's
name-kept : {k : Known} {d : Digits} {i j : ℕ} {v : Value} (s : Set) (own : Slots) → Took k d symbol_table (rows_there own) j v true (begin i j v) → NewName s own → NewName s (set own j (Some v))
unfolding symbol_table
name-kept {j = j} {v = v} s own w e = rw (get_or-set_other own j 0 (Some v) None (λ z. true≢false (sym (opened-by w 0 (sym z))))) e

-- what is required at every range is there
must_be : (d : Digits) (b : Bool) → (not (reaches d none0) || b) ≡ true → b ≡ true
must_be d b e = rw (le-leb 0 d.middle (omega arith), le-leb 0 d.last (omega arith)) at e

-- a name that was read is not empty
name-full : (d : Digits) (own : Slots) → GoodSlots (Always d) symbol_table own → complete d symbol_table (rows_there own) ≡ true → is_nil (name_in own) ≡ false
unfolding symbol_table
name-full d [] g e = absurd g
name-full d (None ∷ own) g e = clash (must_be d false (and_left (not (reaches d none0) || false) _ e)) refl
name-full d (Some v ∷ own) g e = go v (row-did nobody d false 0 (rule_at symbol_table 0) (rest_of nobody (rule_at symbol_table 0) v) (entry 0 (bare_value v)) refl ((g.0 nobody).again 0)).fit
  where
    nobody : Known
    nobody = record { symbols = []; layers = [] }

    chars-full : (at : ℕ) (c : List ℕ) → fits (word 32 letters_and_digits) false (shape_of (equals 0 c)) ≡ true → is_nil c ≡ false
    chars-full at [] f = clash f refl
    chars-full at (b ∷ c) f = refl

    go : (v : Value) → fits (word 32 letters_and_digits) false (shape_of (equals 0 (show_content nobody (word 32 letters_and_digits) v))) ≡ true → is_nil (chars_of v) ≡ false
    go empty f = clash f refl
    go (nums u) f = clash f refl
    go (chars at c) f = chars-full at c f
    go (linked m u) f = clash f refl

module _ (done fin : List (List ℕ)) (l : Line) (n : ℕ) (fit : n ≤ 512) (fin-is : l.last ≡ true → fin ≡ done ++ l.next ∷ []) where
  abbrev J : State → Type 0
  J st = Inv done l.next fin st

  -- ── the top level ──
  open-top : (s : Set) (j : ℕ) → leb j 3 ≡ true → TopInv done l.next j (untaken s) → On J (open_top full_env l s j)
  unfolding drawing_table
  open-top s zero h i = (i, file-start (is_first s))
  open-top s (suc zero) h i = (i.0, i.1, record { own-good = tt; layers = tt; most = refl; differ = refl })
  open-top s (suc (suc zero)) h i = (i.0, record { file = i.0.file; drawing = i.2; defines = rw i.1 (tt, refl, refl) })
  open-top s (suc (suc (suc zero))) h i = i
  open-top s (suc (suc (suc (suc zero)))) h i = clash h refl
  open-top s (suc (suc (suc (suc (suc j))))) h i = absurd i

  at-eof : (s : Set) (k : ℕ) → TopInv done l.next k (untaken s) → On J (at_eof full_env l s k)
  at-eof s k i =
      on-eof J full_env l s k λ m.
      let o : Over (done ++ l.next ∷ []) (file_of s) (untaken s) = subst (λ (k : ℕ). TopInv done l.next k (untaken s)) (eqb-true k 4 m.behind) i in
      rw (fin-is (and_right (is_nil l.next) _ m.last)) (set-good (done ++ l.next ∷ []) s o m.used m.counted m.partners)

  top_key_lem : (s : Set) (k : ℕ) (key : List ℕ) (c : Rest) → Tells n (keyed key c) → TopInv done l.next k (untaken s)
      → On J (by_act (top s k) (λ j v. bad 5) (λ i j v. unless (eqb j k) 9 (open_top full_env l s j)) (λ _. bad 9) (act (known_of s) top_table none0 (rows_at_limit 0 top_table) (keyed key c)))
  unfolding top_table
  top_key_lem s k key c t i =
      on-act J (known_of s) none0 top_table (rows_at_limit 0 top_table) n (keyed key c) (table-keys true 0 0).0 t fit _ _ _ _ i
      (λ j v w. tt)
      (λ i' j v w. on-unless J (eqb j k) 9 _ λ e.
      open-top s j (row-all-at (λ j r. leb j 3) w.row refl) (subst (λ (k : ℕ). TopInv done l.next k (untaken s)) (sym (eqb-true j k e)) i))
      (λ e. tt)

  pub on-top : (s : Set) (k : ℕ) (f : Form) → Tells n f → TopInv done l.next k (untaken s) → On J (on_top full_env l s k f)
  on-top s k ignored t i = i
  on-top s k (wrong m) t i = tt
  on-top s k close t i = tt
  on-top s k eof t i = at-eof s k i
  on-top s k (keyed key c) t i = top_key_lem s k key c t i

  -- ── FILE_FORMAT ──
  pub on-file : (s : Set) (m : ℕ) (h : Held) (p : ℕ) → Tells n l.form → J (file s m h p) → On J (on_file l s m h p l.form)
  on-file s m h p t i =
      on-act J (known_of s) none0 (part_table (is_first s) p) (rows_there (part_of h p)) n l.form (file-keys (is_first s) p) t fit _ _ _ _ i
      (λ j v w. (i.0, file-enter (is_first s) p h i.1 w))
      (λ i' j v w. (i.0, file-begin (is_first s) p h i.1 w))
      (shuts p i.1)
    where
      shuts : (p : ℕ) → FileInv (is_first s) p h → complete none0 (part_table (is_first s) p) (rows_there (part_of h p)) ≡ true → On J (shut_part p (close_file l s m h) (λ q. file s m h q))
      shuts zero f e =
          on-unless J (chained (is_first s) l.next h && dated s (is_first s) h) 16 _ λ c.
          close-file done l.next s.drawing s.symbols s.volumes s.now (record { line = m; file = h; blocks = [] }) i.0 (file-shut (is_first s) h f e)
          (and_left (chained (is_first s) l.next h) _ c) (dated_in_lem (is_first s) s h (and_right (chained (is_first s) l.next h) _ c)) refl
      shuts (suc p) f e = (i.0, file-shut_in (is_first s) p h f e)

  -- ── DRAWING_FORMAT ──
  drawing-nameless : all_nameless drawing_table ≡ true
  unfolding drawing_table
  drawing-nameless = refl

  drawing-set : {k : Known} {j : ℕ} {v : Value} {o : Bool} {a : Act} (arc : ℕ) (d : Drawing) → DrawingInv arc d → Took k (digits_of arc) drawing_table (rows_there d.own) j v o a
      → DrawingInv arc (with_own (set d.own j (Some v)) d)
  drawing-set arc d i w =
      record { own-good = took-set d.own (digits_of arc) drawing-nameless w i.own-good; layers = i.layers; most = i.most; differ = i.differ }

  pub on-drawing : (s : Set) (d : Drawing) → Tells n l.form → J (drawing s d) → On J (on_drawing s d l.form)
  on-drawing s d t i =
      on-act J (known_of s) (digits_of (arc_of s)) drawing_table (rows_there d.own) n l.form (table-keys true 0 0).7 t fit _ _ _ _ i
      (λ j v w. (i.0, i.1, drawing-set (arc_of s) d i.2 w))
      (λ i' j v w. (i.0, i.1, drawing-set (arc_of s) d i.2 w))
      (λ e. (i.0, i.1, record { own-good = record { good = i.2.own-good; all = e }; layers = i.2.layers; most = i.2.most; differ = i.2.differ }))

  layer-line : (s : Set) (d : Drawing) (k : List ℕ) (c : Rest) → Tells n (keyed k c) → J (layer_names s d) → On J (layer_line full_env l s d k c)
  layer-line s d k c t i =
      on-unless J (is_layer_id k) 6 _ λ named.
      on_then J (layer_value k (free_shape_of c)) _ λ v e.
      on-unless J (ltb (length d.layers) most_layers) 11 _ λ few.
      on-unless J (not (among k (ids_of d.layers))) 14 _ λ new. (
        i.0,
        i.1,
        record {
          own-good = i.2.own-good;
          layers = layers-more d.layers (record { line = l.line; id = k; name = v }) i.2.layers (layer-good k c n l.line v named t fit e).0;
          most = le-leb (length (d.layers ++ record { line = l.line; id = k; name = v } ∷ [])) 64 (omega (arith, length-append d.layers (record { line = l.line; id = k; name = v } ∷ []), ltb-true (length d.layers) 64 few));
          differ =
              rw (map-append (λ (y : Layer). y.id) d.layers (record { line = l.line; id = k; name = v } ∷ []))
              (fresh-more [] (ids_of d.layers) k i.2.differ (not-true (among k (ids_of d.layers)) new));
        },
      )

  pub on-layers : (s : Set) (d : Drawing) (f : Form) → Tells n f → J (layer_names s d) → On J (on_layer_names full_env l s d f)
  on-layers s d ignored t i = i
  on-layers s d (wrong m) t i = tt
  on-layers s d close t i = i
  on-layers s d eof t i = tt
  on-layers s d (keyed k c) t i = layer-line s d k c t i

  -- ── SYMBOL_DEFINE ──
  pub on-defines : (s : Set) (non : Bool) → Tells n l.form → J (defines s non) → On J (on_defines full_env l s non l.form)
  unfolding defines_table symbol_table
  on-defines s non t i =
      on-act J (known_of s) (digits_of (define_range s)) defines_table (non ∷ false ∷ []) n l.form (table-keys true 0 0).8 t fit _ _ _ _ i
      (λ j v w. on-unless J (is_nil s.symbols) 6 _ λ e. i)
      (λ i' j v w. on-unless J (not non) 6 _ λ e.
      (i, record { own-good = tt; hidden-good = tt; few-hidden = refl; level = level_by w 1 (eqb-true j 1 (open_at (λ j. eqb j 1) w refl)) }, refl, λ e. clash e refl))
      (λ e. on-unless J (non || not (is_nil s.symbols)) 8 _ λ e. open-elements done l.next s i)

  making-set : {k : Known} {j : ℕ} {v : Value} {o : Bool} {a : Act} (se : ℕ) (own : Slots) (hidden : List Point) → Making se own hidden → Took k (digits_of se) symbol_table (rows_there own) j v o a
      → Making se (set own j (Some v)) hidden
  making-set se own hidden m w =
      record { own-good = took-set own (digits_of se) symbol-nameless w m.own-good; hidden-good = m.hidden-good; few-hidden = m.few-hidden; level = m.level }

  open-symbol : (s : Set) (y : Symbol) (i j : ℕ) (v : Value) → J (symbol s y) → Took (known_of s) (digits_of (define_range s)) symbol_table (rows_there y.own) j v true (begin i j v)
      → On J (open_symbol s (symbol_own (set y.own j (Some v)) y) i)
  unfolding symbol_table
  open-symbol s y zero j v i w = tt
  open-symbol s y (suc zero) j v i w = (i.0, making-set (define_range s) y.own y.hidden i.1 w, name-kept s y.own w i.2, tt)
  open-symbol s y (suc (suc m)) j v i w = (
    (
      i.0,
      making-set (define_range s) y.own y.hidden i.1 w,
      name-kept s y.own w i.2,
      λ e. i.3 (other-kept is_some y.own j 1 v (λ z. absurd (let q = inner-by w 1 z in omega arith)) ∙ e),
    ),
    (tt, refl),
  )

  symbol-good : (s : Set) (y : Symbol) → J (symbol s y) → complete (digits_of (define_range s)) symbol_table (rows_there y.own) ≡ true → GoodSymbol (define_range s) (range_of s) y
  unfolding symbol_table
  symbol-good s y i e =
      let d = digits_of (define_range s) in
      let shown = i.3 (must_be d (is_some (get_or y.own 1 None)) (complete-at (Always d) d symbol_table 1 y.own (omega arith) i.1.own-good e)) in
      record {
        own-good = record { good = i.1.own-good; all = e };
        shown = shown.0;
        some-shown = shown.1;
        hidden = i.1.hidden-good;
        few-hidden = i.1.few-hidden;
        named = name-full d y.own i.1.own-good e;
      }

  symbol-done : (s : Set) (y : Symbol) → J (symbol s y) → GoodSymbol (define_range s) (range_of s) y → GoodDefines (define_range s) (range_of s) (s.symbols ++ y ∷ [])
  symbol-done s y i g = (
    symbols-more (define_range s) (range_of s) s.symbols y i.0.1.defines.0 g,
    rw (map-append symbol_name_of s.symbols (y ∷ [])) (fresh-more [] (map symbol_name_of s.symbols) (symbol_name_of y) i.0.1.defines.1 (is-new (is_nil (symbol_name_of y)) g.named i.2)),
    rw i.1.level (or_true (is_nil (s.symbols ++ y ∷ []))),
  )
    where
      is-new : (b : Bool) → b ≡ false → (b || not (among (symbol_name_of y) (known_of s).symbols)) ≡ true → among (symbol_name_of y) (known_of s).symbols ≡ false
      is-new true q e = clash refl q
      is-new false q e = not-true (among (symbol_name_of y) (known_of s).symbols) e

  pub on-symbol : (s : Set) (y : Symbol) → Tells n l.form → J (symbol s y) → On J (on_symbol s y l.form)
  unfolding symbol_table
  on-symbol s y t i =
      on-act J (known_of s) (digits_of (define_range s)) symbol_table (rows_there y.own) n l.form (table-keys true 0 0).9 t fit _ _ _ _ i
      (λ j v w. on-unless J (new_name s (symbol_own (set y.own j (Some v)) y)) 15 _ λ e.
      (i.0, making-set (define_range s) y.own y.hidden i.1 w, e, λ z. i.3 (other-kept is_some y.own j 1 v (λ q. true≢false (opened-by w 1 q)) ∙ z)))
      (λ i' j v w. open-symbol s y i' j v i w)
      (λ e. (i.0.0, record { file = i.0.1.file; drawing = i.0.1.drawing; defines = symbol-done s y i (symbol-good s y i e) }))

  pub on-hide : (s : Set) (y : Symbol) (ps : List Point) → Tells n l.form → J (hide s y ps) → On J (on_hide full_env l s y ps l.form)
  on-hide s y ps t i =
      on-act J (known_of s) none0 (point_table false) (rows_at_limit (length ps) (point_table false)) n l.form (table-keys false 0 0).13 t fit _ _ _ _ i
      (λ j v w. (i.0, points-enter false l ps i.1 w))
      (λ i' j v w. tt)
      (λ e. (i.0.0, record { own-good = i.0.1.own-good; hidden-good = i.1.0; few-hidden = i.1.1; level = i.0.1.level }, i.0.2, i.0.3))
