-- One line of a volume, in any state: what it leaves as it was, and that no less is shown.
use Rattle.std.specs.Prelude.{Some, None}
use Prim.Native.Nat.{ℕ, zero, suc, ◌≤◌, ◌<◌, ◌+◌, ◌-◌}
use mathlib.Core.Bool.{Bool, true, false, cond, ◌&&◌, ◌||◌, not}
use mathlib.Core.List.{List, [], ◌∷◌, ◌++◌, map}
use mathlib.Core.Path.{◌≡◌, refl, sym, ◌∙◌, ap, subst}
use native.Mathlib.Omega.{arith}
use native.Mathlib.Nat.{le_refl}
use borrow.Author.Tests.{eqb-true, eq-eqb, le-leb, not-true}
use lib.Dec.{eqb, leb, ltb}
use lib.ListN.{length, get_or, set, length-set}
use lib.Seq.{get_or-set_same}
use Rattle.rules.specs.Base.{is_nil, is_some, is_none, has_number}
use Rattle.rules.specs.RefusalNumbers.{got, bad, unless}
use Rattle.rules.specs.Lines.{Rest, Form, ignored, wrong, close, eof, keyed}
use Rattle.rules.specs.RangeClass.{digits, digits_of, exceeds, both, skip_of, most_depth, reaches, knows_wires}
use Rattle.rules.specs.Values.{Value, Known, nums_of, amount_at}
use Rattle.rules.specs.Rows.{Rule, Found, absent, found, find, Slots, blank, Held, rows_there, rows_at_limit, Act, begin, act, act_row, act_unknown, part_of, enter, inner_of}
use Rattle.rules.specs.Blocks.{top_table, file_tables, drawing_table, symbol_table, defines_table, element_table}
use Rattle.rules.specs.Figures.{point_table, text_table, least_points, placed_table, placed_tables, wire_table, wire_text_table, first_group_row}
use Rattle.rules.specs.Sets.{Point, Wire, Figure, plain, lettering, placed, passed, Drawing, Symbol, Set, with_now, with_records, symbol_own, is_first, known_of, arc_of, define_range, range_of, join_digit, wires_of, used_in}
use Rattle.rules.specs.VolumesAndTotals.{chained, dated, counted_here, counted_all, layers_used, partners_exist}
use Rattle.rules.specs.Machine.{Line, Env, Home, in_element, in_layer, State, top, file, drawing, layer_names, defines, symbol, hide, elements, figures, successive, texts, placing, skipping, ended, tests_partners, open_top, on_top, close_file, on_file, on_drawing, on_layer_names, on_defines, new_name, open_symbol, on_symbol, point_at, on_hide, on_elements, is_layer, home_table, close_figures, open_figure, on_figures, on_successive, on_texts}
use Rattle.rules.specs.PlacedSymbol.{on_unknown, new_serial, on_placed, on_placed_key, on_placed_own, on_placing, skip_ended, unread_shut, skip_shut, on_skipping}
use Rattle.rules.specs.Wires.{joins_ends, last_edge, join_of, joined, past_elements, group_at, with_groups, with_once, with_texts, is_group_row, with_attribute, wire_full, is_element_row, on_element, nums_alike, new_number, on_wire_act, on_wire_unknown, on_wire_key, on_wire_own, on_wire_text, on_wire}
use Rattle.rules.specs.LineByLine.{step_in}
use Rattle.rules.specs.Machine.{symbol_block, wire_block, wire_unread, begin_wire, file_kinds, Owned, kind_in}
use Rattle.rules.specs.RecordTable.{kind_drawing, kind_symbol, kind_layer, kind_line, kind_successive, kind_text, kind_placed, kind_point, kind_hidden, kind_wire, kind_wire_more, kind_edge}
use Rattle.rules.proofs.Chains.{On, on-unless, on-cond, on-got, and_left, clash, then-got}
use Rattle.rules.proofs.Rows.{Row, row_below}
use Rattle.promises.proofs.ClosedActs.{on-by_act}
use Rattle.rules.proofs.OnActs.{on-layers, on-taking, on-shut, on_skip}
use Rattle.promises.proofs.CountActs.{act-begin}
use Rattle.volumes.specs.Volumes.{through}
use Rattle.volumes.proofs.FrontSteps.{unread}
use Rattle.volumes.proofs.Openings.{opens_kind, act-opens, row_test}
use Rattle.volumes.proofs.VolumeSound.{Sound, Same, same-records, same-now, same-drawing, same-symbol, same-closed, weight, front-grows, drawing-opens, drawing-row, names_open, names_more, names-shut, drawing-shut, defines_open, defines-non, symbol-opens, defines-shut, symbol-row, element-opens, hide-opens, hide-more, hide-shut, symbol-shut, figure-more, figure-opens, figure-shut, chain_more, chain-shut, wire-more, wire-same, wire-shut, element-shut, elements_open, layer-opens, layer-shut, elements-shut, eof-grows}

-- ── rows by their numbers ──
names-row : (j : ℕ) → get_or (map (λ (r : Rule). opens_kind r.holds) drawing_table) j false ≡ true → j ≡ 7
unfolding drawing_table
names-row zero e = clash e refl
names-row (suc zero) e = clash e refl
names-row (suc (suc zero)) e = clash e refl
names-row (suc (suc (suc zero))) e = clash e refl
names-row (suc (suc (suc (suc zero)))) e = clash e refl
names-row (suc (suc (suc (suc (suc zero))))) e = clash e refl
names-row (suc (suc (suc (suc (suc (suc zero)))))) e = clash e refl
names-row (suc (suc (suc (suc (suc (suc (suc zero))))))) e = refl
names-row (suc (suc (suc (suc (suc (suc (suc (suc j)))))))) e = clash e refl

element-row : (j : ℕ) → get_or (map (λ (r : Rule). eqb (inner_of r.holds) 1) symbol_table) j false ≡ true → j ≡ 1
unfolding symbol_table
element-row zero e = clash e refl
element-row (suc zero) e = refl
element-row (suc (suc zero)) e = clash e refl
element-row (suc (suc (suc zero))) e = clash e refl
element-row (suc (suc (suc (suc j)))) e = clash e refl

hide-row : (j : ℕ) → get_or (map (λ (r : Rule). leb 2 (inner_of r.holds)) symbol_table) j false ≡ true → j ≡ 2
unfolding symbol_table
hide-row zero e = clash e refl
hide-row (suc zero) e = clash e refl
hide-row (suc (suc zero)) e = refl
hide-row (suc (suc (suc zero))) e = clash e refl
hide-row (suc (suc (suc (suc j)))) e = clash e refl

top-rows : {j : ℕ} {r : Rule} → Row top_table j r → j < 4
unfolding top_table
top-rows w = row_below w

blank-drawing : length (blank drawing_table) ≡ 8
unfolding drawing_table
blank-drawing = refl

blank-symbol : length (blank symbol_table) ≡ 4
unfolding symbol_table
blank-symbol = refl

module _ (K : Known) (first : Bool) (s₀ : Set) (start : is_first s₀ ≡ first) (e : Env) (l : Line) where
  pub record Goes (st st' : State) : Type 0 where
    pub sound : Sound first s₀ st'
    pub grows : weight K first st ≤ weight K first st'

  stays : (st : State) → Sound first s₀ st → Goes st st
  stays st z = record { sound = z; grows = le_refl (weight K first st) }

  -- ── at the top level ──
  top-opens : (s : Set) (j : ℕ) → j < 4 → Sound first s₀ (top s j) → On (Goes (top s j)) (open_top e l s j)
  top-opens s zero m z =
      on-taking (Goes (top s 0)) e (length (file_kinds (is_first s))) s _ (λ _. record { sound = same-records first s₀ (file_kinds (is_first s)) s z; grows = omega arith })
  top-opens s (suc zero) m z =
      on-taking (Goes (top s 1)) e 1 s _
      (λ _. record { sound = (same-records first s₀ (kind_drawing ∷ []) s z.0, z.1, blank-drawing); grows = drawing-opens K first (with_records (kind_drawing ∷ []) s) (record { line = l.line; own = blank drawing_table; layers = [] }) })
  top-opens s (suc (suc zero)) m z = record { sound = (z.0, z.1, λ b. clash b refl); grows = defines_open K first s }
  top-opens s (suc (suc (suc zero))) m z = record { sound = z; grows = elements_open K first s }
  top-opens s (suc (suc (suc (suc k)))) m z = absurd (omega (arith, m))

  top-goes : (s : Set) (k : ℕ) (f : Form) → Sound first s₀ (top s k) → On (Goes (top s k)) (on_top e l s k f)
  top-goes s k ignored z = stays (top s k) z
  top-goes s k (wrong n) z = tt
  top-goes s k close z = tt
  top-goes s k eof z =
      on-unless (Goes (top s k)) (eqb k 4 && (is_nil l.next && l.last)) 9 _ λ q.
      on-unless (Goes (top s k)) (layers_used s) 14 _ λ _.
      on-unless (Goes (top s k)) (counted_all s) 17 _ λ _.
      on-unless (Goes (top s k)) (not (tests_partners e.class s) || partners_exist s) 21 _ λ _. four k (eqb-true k 4 (and_left (eqb k 4) _ q)) z
    where
      four : (k : ℕ) → k ≡ 4 → Sound first s₀ (top s k) → Goes (top s k) (ended s)
      four k e z = subst (λ (m : ℕ). Goes (top s m) (ended s)) (sym e) (record { sound = subst (λ (m : ℕ). Sound first s₀ (top s m)) e z; grows = eof-grows K first s })
  top-goes s k (keyed key c) z =
      on-by_act (Goes (top s k)) (top s k) (λ j v. bad 5) (λ i j v. unless (eqb j k) 9 (open_top e l s j)) (bad 9) (act (known_of s) top_table (digits 0 0) (rows_at_limit 0 top_table) (keyed key c))
      (stays (top s k) z) (λ j v. tt)
      (λ i j v a.
      on-unless (Goes (top s k)) (eqb j k) 9 (open_top e l s j) λ q.
      let w = act-begin (known_of s) top_table (digits 0 0) (rows_at_limit 0 top_table) (keyed key c) a in
      subst (λ (m : ℕ). On (Goes (top s m)) (open_top e l s j)) (eqb-true j k q)
      (top-opens s j (top-rows w.row) (subst (λ (m : ℕ). Sound first s₀ (top s m)) (sym (eqb-true j k q)) z)))
      tt

  -- ── FILE_FORMAT ──
  first-is : (s : Set) → Same first s₀ s → is_first s ≡ first
  first-is s m = ap is_nil m.volumes ∙ start

  file-shut : (s : Set) (n : ℕ) (h : Held) (p : ℕ) → Same first s₀ s → On (Goes (file s n h p)) (close_file l s n h)
  file-shut s n h p z =
      on-unless (Goes (file s n h p)) (chained (is_first s) l.next h && dated s (is_first s) h) 16 _ λ _. go (is_first s) (sym (first-is s z))
    where
      go : (b : Bool) → first ≡ b → Goes (file s n h p) (top (with_now (record { line = n; file = h; blocks = [] }) s) (cond b 1 3))
      go true q = record { sound = (same-now first s₀ (record { line = n; file = h; blocks = [] }) s z, q); grows = omega arith }
      go false q = record { sound = same-now first s₀ (record { line = n; file = h; blocks = [] }) s z; grows = front-grows K first (with_now (record { line = n; file = h; blocks = [] }) s) }

  file-goes : (s : Set) (n : ℕ) (h : Held) (p : ℕ) (f : Form) → Same first s₀ s → On (Goes (file s n h p)) (on_file l s n h p f)
  file-goes s n h p f z =
      on-by_act (Goes (file s n h p)) (file s n h p) _ _ _ (act (known_of s) (get_or (file_tables (is_first s)) p []) (digits 0 0) (rows_there (part_of h p)) f)
      (same h p) (λ j v. same (enter h p j v) p) (λ i j v a. same (enter h p j v) i)
      (on-shut (Goes (file s n h p)) p (close_file l s n h) (λ q. file s n h q) (file-shut s n h p z) (λ q. same h q))
    where
      same : (h' : Held) (q : ℕ) → Goes (file s n h p) (file s n h' q)
      same h' q = record { sound = z; grows = le_refl (weight K first (file s n h p)) }

  -- ── DRAWING_FORMAT ──
  drawing-goes : (s : Set) (d : Drawing) (f : Form) → Sound first s₀ (drawing s d) → On (Goes (drawing s d)) (on_drawing s d f)
  drawing-goes s d f z =
      on-by_act (Goes (drawing s d)) (drawing s d) _ _ _ (act (known_of s) drawing_table (digits_of (arc_of s)) (rows_there d.own) f)
      (stays (drawing s d) z)
      (λ j v. record { sound = (z.0, z.1, length-set d.own j (Some v) ∙ z.2); grows = drawing-row K first s d j v })
      (λ i j v a.
      let w = act-opens (known_of s) drawing_table (digits_of (arc_of s)) (rows_there d.own) f a in
      let seven : j ≡ 7 = names-row j (row_test (λ (r : Rule). opens_kind r.holds) w.row w.opens-block) in
      record {
        sound = (
          z.0,
          z.1,
          length-set d.own j (Some v) ∙ z.2,
          ap (λ (m : ℕ). is_some (get_or (set d.own m (Some v)) 7 None)) seven ∙ ap is_some (get_or-set_same d.own 7 (Some v) None (omega (arith, z.2))),
        );
        grows = names_open K first s d (set d.own j (Some v)) (unread d.own 7 (ap (λ (m : ℕ). get_or (rows_there d.own) m false) (sym seven) ∙ w.free));
      })
      (record { sound = (same-drawing first s₀ d s z.1 z.0, z.1); grows = drawing-shut K first s d z.2 })

  names-goes : (s : Set) (d : Drawing) (f : Form) → Sound first s₀ (layer_names s d) → On (Goes (layer_names s d)) (on_layer_names e l s d f)
  names-goes s d f z =
      on-layers (Goes (layer_names s d)) e l s d f (stays (layer_names s d) z)
      (record { sound = (z.0, z.1, z.2); grows = names-shut K first s d z.3 }) λ k v _.
      record { sound = (same-records first s₀ (kind_layer ∷ []) s z.0, z.1, z.2, z.3); grows = names_more K first s d (kind_layer ∷ []) (record { line = l.line; id = k; name = v }) }

  -- ── SYMBOL_DEFINE ──
  nil_is : (ys : List Symbol) → is_nil ys ≡ true → ys ≡ []
  nil_is [] q = refl
  nil_is (y ∷ ys) q = clash q refl

  defines-goes : (s : Set) (b : Bool) (f : Form) → Sound first s₀ (defines s b) → On (Goes (defines s b)) (on_defines e l s b f)
  defines-goes s b f z =
      on-by_act (Goes (defines s b)) (defines s b) _ _ _ (act (known_of s) defines_table (digits_of (define_range s)) (b ∷ false ∷ []) f)
      (stays (defines s b) z)
      (λ j v. on-unless (Goes (defines s b)) (is_nil s.symbols) 6 _ λ q.
      record { sound = (z.0, z.1, λ _. nil_is s.symbols q); grows = defines-non K first s b (nil_is s.symbols q) })
      (λ i j v a. on-unless (Goes (defines s b)) (not b) 6 _ λ q. on-taking (Goes (defines s b)) e 1 s _ λ _. opens b (not-true b q))
      (on-unless (Goes (defines s b)) (b || not (is_nil s.symbols)) 8 _ λ q. record { sound = z.0; grows = defines-shut K first s b z.1 z.2 q })
    where
      fresh : Symbol
      fresh = record { line = l.line; own = blank symbol_table; figures = []; hidden = []; hide_first = false }

      opens : (b : Bool) → b ≡ false → Goes (defines s b) (symbol (with_records (kind_symbol ∷ []) s) fresh)
      opens b q =
          subst (λ (x : Bool). Goes (defines s x) (symbol (with_records (kind_symbol ∷ []) s) fresh)) (sym q)
          (record { sound = (same-records first s₀ (kind_symbol ∷ []) s z.0, z.1, blank-symbol); grows = symbol-opens K first s (kind_symbol ∷ []) fresh })

  -- ── a symbol ──
  symbol-begins : (s : Set) (y : Symbol) (i j : ℕ) (v : Value) (f : Form) → act (known_of s) symbol_table (digits_of (define_range s)) (rows_there y.own) f ≡ begin i j v → Sound first s₀ (symbol s y)
      → On (Goes (symbol s y)) (open_symbol s (symbol_own (set y.own j (Some v)) y) i)
  symbol-begins s y zero j v f a z = tt
  symbol-begins s y (suc zero) j v f a z =
      let w = act-begin (known_of s) symbol_table (digits_of (define_range s)) (rows_there y.own) f a in
      let is : j ≡ 1 = element-row j (row_test (λ (r : Rule). eqb (inner_of r.holds) 1) w.row (eq-eqb (inner_of w.rule.holds) 1 w.inner)) in
      record {
        sound = (
          z.0,
          (
            z.1,
            length-set y.own j (Some v) ∙ z.2,
            ap (λ (m : ℕ). is_some (get_or (set y.own m (Some v)) 1 None)) is ∙ ap is_some (get_or-set_same y.own 1 (Some v) None (omega (arith, z.2))),
          ),
        );
        grows = element-opens K first s y j v (unread y.own 1 (ap (λ (m : ℕ). get_or (rows_there y.own) m false) (sym is) ∙ w.free));
      }
  symbol-begins s y (suc (suc i)) j v f a z =
      let w = act-begin (known_of s) symbol_table (digits_of (define_range s)) (rows_there y.own) f a in
      let is : j ≡ 2 = hide-row j (row_test (λ (r : Rule). leb 2 (inner_of r.holds)) w.row (le-leb 2 (inner_of w.rule.holds) (omega (arith, w.inner)))) in
      record {
        sound = (
          z.0,
          z.1,
          length-set y.own j (Some v) ∙ z.2,
          ap (λ (m : ℕ). is_some (get_or (set y.own m (Some v)) 2 None)) is ∙ ap is_some (get_or-set_same y.own 2 (Some v) None (omega (arith, z.2))),
        );
        grows =
            hide-opens K first s y j v (is_none (get_or (set y.own j (Some v)) 1 None)) (unread y.own 2 (ap (λ (m : ℕ). get_or (rows_there y.own) m false) (sym is) ∙ w.free));
      }

  symbol-goes : (s : Set) (y : Symbol) (f : Form) → Sound first s₀ (symbol s y) → On (Goes (symbol s y)) (on_symbol s y f)
  symbol-goes s y f z =
      on-by_act (Goes (symbol s y)) (symbol s y) _ _ _ (act (known_of s) symbol_table (digits_of (define_range s)) (rows_there y.own) f)
      (stays (symbol s y) z)
      (λ j v. on-unless (Goes (symbol s y)) (new_name s (symbol_own (set y.own j (Some v)) y)) 15 _ λ _.
      record { sound = (z.0, z.1, length-set y.own j (Some v) ∙ z.2); grows = symbol-row K first s y j v })
      (λ i j v a. symbol-begins s y i j v f a z)
      (record { sound = (same-symbol first s₀ y s z.1 z.0, z.1, λ b. clash b refl); grows = symbol-shut K first s y z.2 })

  hide-goes : (s : Set) (y : Symbol) (ps : List Point) (f : Form) → Sound first s₀ (hide s y ps) → On (Goes (hide s y ps)) (on_hide e l s y ps f)
  hide-goes s y ps f z =
      on-by_act (Goes (hide s y ps)) (hide s y ps) _ _ _ (act (known_of s) (point_table false) (digits 0 0) (rows_at_limit (length ps) (point_table false)) f)
      (stays (hide s y ps) z)
      (λ j v. on-taking (Goes (hide s y ps)) e 1 s _ λ _. record { sound = (same-records first s₀ (kind_hidden ∷ []) s z.0, z.1, z.2, z.3); grows = hide-more K first s y ps (kind_hidden ∷ []) (point_at l v) })
      (λ i j v a. tt)
      (record { sound = (z.0, z.1, z.2); grows = hide-shut K first s y ps z.3 })

  -- ── ELEMENT ──
  elements-go : (s : Set) (f : Form) → Same first s₀ s → On (Goes (elements s)) (on_elements s f)
  elements-go s f z =
      on-by_act (Goes (elements s)) (elements s) _ _ _ (act (known_of s) element_table (digits 0 0) (rows_at_limit 0 element_table) f)
      (stays (elements s) z) (λ j v. tt)
      (λ i j v a. on-unless (Goes (elements s)) (not (has_number (amount_at v 0) (used_in s.now))) 14 _ λ _. record { sound = (z, tt); grows = layer-opens K first s (amount_at v 0) })
      (on-unless (Goes (elements s)) (counted_here s) 17 _ λ _. record { sound = same-closed first s₀ s z; grows = elements-shut K first s })

  -- ── figures ──
  figures-shut : (s : Set) (h : Home) (fs : List Figure) → Sound first s₀ (figures s h fs) → On (Goes (figures s h fs)) (close_figures s h fs)
  figures-shut s (in_element y) fs z =
      on-unless (Goes (figures s (in_element y) fs)) (not (is_nil fs)) 8 _ λ _. record { sound = (z.0, z.1.0, z.1.1); grows = element-shut K first s y fs z.1.2 }
  figures-shut s (in_layer m) fs z = record { sound = same-now first s₀ _ s z.0; grows = layer-shut K first s m fs }

  figure-begins : (s : Set) (h : Home) (fs : List Figure) (i : ℕ) → Sound first s₀ (figures s h fs) → On (Goes (figures s h fs)) (open_figure e l s h fs i)
  figure-begins s h fs zero z = tt
  figure-begins s h fs (suc zero) z =
      on-taking (Goes (figures s h fs)) e 1 s _ λ _.
      record { sound = (same-records first s₀ (kind_in h kind_successive ∷ []) s z.0, z.1); grows = figure-opens K first s h fs (kind_in h kind_successive ∷ []) _ }
  figure-begins s h fs (suc (suc zero)) z =
      on-taking (Goes (figures s h fs)) e 1 s _ λ _.
      record { sound = (same-records first s₀ (kind_in h kind_text ∷ []) s z.0, z.1); grows = figure-opens K first s h fs (kind_in h kind_text ∷ []) _ }
  figure-begins s (in_element y) fs (suc (suc (suc zero))) z = tt
  figure-begins s (in_layer m) fs (suc (suc (suc zero))) z =
      on-taking (Goes (figures s (in_layer m) fs)) e 1 s _ λ _. record { sound = same-records first s₀ (kind_placed ∷ []) s z.0; grows = figure-opens K first s (in_layer m) fs (kind_placed ∷ []) _ }
  figure-begins s (in_element y) fs (suc (suc (suc (suc i)))) z = tt
  figure-begins s (in_layer m) fs (suc (suc (suc (suc i)))) z =
      on-taking (Goes (figures s (in_layer m) fs)) e 2 s _ λ _. begins (knows_wires e.class)
    where
      kinds : List ℕ
      kinds = kind_wire ∷ kind_wire_more ∷ []

      begins : (b : Bool) → Goes (figures s (in_layer m) fs) (begin_wire b (with_records kinds s) m fs l.line)
      begins true = record { sound = same-records first s₀ kinds s z.0; grows = figure-opens K first s (in_layer m) fs kinds _ }
      begins false = record { sound = same-records first s₀ kinds s z.0; grows = figure-opens K first s (in_layer m) fs kinds _ }

  figures-go : (s : Set) (h : Home) (fs : List Figure) (f : Form) → Sound first s₀ (figures s h fs) → On (Goes (figures s h fs)) (on_figures e l s h fs f)
  figures-go s h fs f z =
      on-by_act (Goes (figures s h fs)) (figures s h fs) _ _ _ (act (known_of s) (home_table s h) (range_of s) (rows_at_limit 0 (home_table s h)) f)
      (stays (figures s h fs) z)
      (λ j v. on-taking (Goes (figures s h fs)) e 1 s _ λ _.
      record { sound = (same-records first s₀ (kind_in h (kind_line + j) ∷ []) s z.0, z.1); grows = figure-more K first s h fs (kind_in h (kind_line + j) ∷ []) (plain l.line j (nums_of v)) })
      (λ i j v a. figure-begins s h fs i z)
      (figures-shut s h fs z)

  successive-goes : (s : Set) (h : Home) (fs : List Figure) (n : ℕ) (ps : List Point) (f : Form) → Sound first s₀ (successive s h fs n ps) → On (Goes (successive s h fs n ps)) (on_successive e l s h fs n ps f)
  successive-goes s h fs n ps f z =
      on-by_act (Goes (successive s h fs n ps)) (successive s h fs n ps) _ _ _ (act (known_of s) (point_table (is_layer h)) (digits 0 0) (rows_at_limit (length ps) (point_table (is_layer h))) f)
      (stays (successive s h fs n ps) z)
      (λ j v. on-taking (Goes (successive s h fs n ps)) e 1 s _ λ _.
      record { sound = (same-records first s₀ (kind_in h kind_point ∷ []) s z.0, z.1); grows = chain_more K first s h fs n ps (kind_in h kind_point ∷ []) (point_at l v) })
      (λ i j v a. tt)
      (on-unless (Goes (successive s h fs n ps)) (leb least_points (length ps)) 8 _ λ _. record { sound = z; grows = chain-shut K first s h fs n ps })

  texts-go : (s : Set) (h : Home) (fs : List Figure) (n : ℕ) (o : Slots) (f : Form) → Sound first s₀ (texts s h fs n o) → On (Goes (texts s h fs n o)) (on_texts s h fs n o f)
  texts-go s h fs n o f z =
      on-by_act (Goes (texts s h fs n o)) (texts s h fs n o) _ _ _ (act (known_of s) (text_table (is_layer h) 4 12) (digits 0 0) (rows_there o) f)
      (stays (texts s h fs n o) z)
      (λ j v. record { sound = z; grows = le_refl (weight K first (texts s h fs n o)) })
      (λ i j v a. tt)
      (record { sound = z; grows = figure-shut K first s h fs (lettering n o) _ (omega arith) })

  -- ── a placed symbol ──
  module _ (s : Set) (m : ℕ) (fs : List Figure) (n : ℕ) (o : Held) (z : Same first s₀ s) where
    inside : (p : ℕ) (o' : Held) (q : ℕ) → Goes (placing s m fs n (symbol_block o) p) (placing s m fs n (symbol_block o') q)
    inside p o' q = record { sound = z; grows = le_refl (weight K first (placing s m fs n (symbol_block o) p)) }

    placed-goes : (p : ℕ) (a : Act) → On (Goes (placing s m fs n (symbol_block o) p)) (on_placed s m fs n o p a)
    placed-goes p a =
        on-by_act (Goes (placing s m fs n (symbol_block o) p)) (placing s m fs n (symbol_block o) p) _ _ _ a
        (inside p o p)
        (λ j v. on-unless (Goes (placing s m fs n (symbol_block o) p)) (new_serial s fs v) 15 _ λ _. inside p (enter o p j v) p)
        (λ i j v q. inside p (enter o p j v) i)
        (on-shut (Goes (placing s m fs n (symbol_block o) p)) p _ (λ q. placing s m fs n (symbol_block o) q)
        (record { sound = (z, tt); grows = figure-shut K first s (in_layer m) fs (placed n o) _ (omega arith) })
        (λ q. inside p o q))

    deeper : (p d : ℕ) → Goes (placing s m fs n (symbol_block o) p) (skipping s m fs n (symbol_block o) d)
    deeper p d = record { sound = z; grows = le_refl (weight K first (placing s m fs n (symbol_block o) p)) }

    unknown-goes : (k : List ℕ) (c : Rest) → On (Goes (placing s m fs n (symbol_block o) 0)) (on_unknown e s m fs n o k c)
    unknown-goes k c =
        on-cond (Goes (placing s m fs n (symbol_block o) 0)) (exceeds (range_of s) e.class.symbols) _ _
        (λ _. on_skip (Goes (placing s m fs n (symbol_block o) 0)) (skip_of k c) _ _ (inside 0 o 0) (deeper 0 1))
        (λ _. on-by_act (Goes (placing s m fs n (symbol_block o) 0)) (placing s m fs n (symbol_block o) 0) _ _ _ (act_unknown c) (inside 0 o 0) (λ j v. tt) (λ i j v a. tt) tt)

    key-goes : (k : List ℕ) (c : Rest) (g : Found) → On (Goes (placing s m fs n (symbol_block o) 0)) (on_placed_key e s m fs n o k c g)
    key-goes k c absent = unknown-goes k c
    key-goes k c (found j r) =
        on-cond (Goes (placing s m fs n (symbol_block o) 0)) (reaches e.class.symbols r.least) _ _ (λ _. placed-goes 0 (act_row (known_of s) (range_of s) (get_or (rows_there (part_of o 0)) j false) j r c)) (λ _. unknown-goes k c)

    own-goes : (f : Form) → On (Goes (placing s m fs n (symbol_block o) 0)) (on_placed_own e s m fs n o f)
    own-goes ignored = inside 0 o 0
    own-goes (wrong k) = tt
    own-goes close = placed-goes 0 (act (known_of s) placed_table (both e.class.symbols (range_of s)) (rows_there (part_of o 0)) close)
    own-goes eof = tt
    own-goes (keyed k c) = key-goes k c (find k placed_table)

    placing-goes : (p : ℕ) (f : Form) → On (Goes (placing s m fs n (symbol_block o) p)) (on_placing e s m fs n o p f)
    placing-goes zero f = own-goes f
    placing-goes (suc p) f = placed-goes (suc p) (act (known_of s) (get_or placed_tables (suc p) []) (digits 0 0) (rows_there (part_of o (suc p))) f)

  -- ── a wire ──
  module _ (s : Set) (m : ℕ) (fs : List Figure) (n : ℕ) (w : Wire) (p : ℕ) (z : Same first s₀ s) where
    abbrev P : State → Type 0
    P = Goes (placing s m fs n (wire_block w) p)

    -- none of its elements changes
    within : (w' : Wire) → w'.elements ≡ w.elements → (q : ℕ) → P (placing s m fs n (wire_block w') q)
    within w' e q = record { sound = z; grows = wire-same K first s m fs n w w' p q e }

    below : (w' : Wire) → w'.elements ≡ w.elements → (d : ℕ) → P (skipping s m fs n (wire_block w') d)
    below w' e d = record { sound = z; grows = wire-same K first s m fs n w w' p d e }

    kept-elements : (j : ℕ) (v : Value) → (with_attribute w j v).elements ≡ w.elements
    kept-elements j v = go (is_group_row j)
      where
        go : (b : Bool) → (cond b (with_groups (set w.groups (j - first_group_row) (group_at w j ++ nums_of v ∷ [])) w) (with_once (set w.own j (Some v)) w)).elements ≡ w.elements
        go true = refl
        go false = refl

    wire-acts : (a : Act) → On P (on_wire_act e l s m fs n w a)
    wire-acts a =
        on-by_act P (placing s m fs n (wire_block w) 0) _ _ _ a
        (within w refl 0)
        (λ j v. on-cond P (is_element_row j) _ _ (λ _. element j v)
        (λ _. on-unless P (nums_alike w j (nums_of v)) 11 _ λ _. on-unless P (new_number s fs j v) 15 _ λ _. within (with_attribute w j v) (kept-elements j v) 0))
        (λ i j v q. within (with_texts w.texts (blank wire_text_table) w) refl 1)
        (record { sound = (z, tt); grows = wire-shut K first s m fs n w p })
      where
        element : (j : ℕ) (v : Value) → On P (on_element e l s m fs n w j (nums_of v))
        element j v =
            on-unless P (joined (joins_ends (join_digit s)) (last_edge w.elements) j (nums_of v)) 11 _ λ _.
            on-taking P e 1 s _ λ _.
            record {
              sound = same-records first s₀ ((kind_edge + j) ∷ []) s z;
              grows = wire-more K first s m fs n w p ((kind_edge + j) ∷ []) (record { line = l.line; row = j; values = nums_of v; join = join_of (joins_ends (join_digit s)) (last_edge w.elements) j });
            }

    wire-unknown : (k : List ℕ) (c : Rest) → On P (on_wire_unknown e l s m fs n w k c)
    wire-unknown k c =
        on-cond P (exceeds (wires_of s) e.class.wires) _ _
        (λ _. on_skip P (skip_of k c) _ _ (within (past_elements w) refl 0) (below (past_elements w) refl 1))
        (λ _. wire-acts (act_unknown c))

    wire-keyed : (k : List ℕ) (c : Rest) (g : Found) → On P (on_wire_key e l s m fs n w k c g)
    wire-keyed k c absent = wire-unknown k c
    wire-keyed k c (found j r) =
        on-cond P (is_element_row j && w.past) _ _ (λ _. wire-acts (act_unknown c))
        (λ _. on-cond P (reaches e.class.wires r.least) _ _ (λ _. wire-acts (act_row (known_of s) (wires_of s) (get_or (wire_full w) j false) j r c)) (λ _. wire-unknown k c))

    wire-owns : (f : Form) → On P (on_wire_own e l s m fs n w f)
    wire-owns ignored = within w refl 0
    wire-owns (wrong k) = tt
    wire-owns close = wire-acts (act (known_of s) wire_table (both e.class.wires (wires_of s)) (rows_there w.own) close)
    wire-owns eof = tt
    wire-owns (keyed k c) = wire-keyed k c (find k wire_table)

    wire-texts : (i : ℕ) (f : Form) → On P (on_wire_text s m fs n w i f)
    wire-texts i f =
        on-by_act P (placing s m fs n (wire_block w) i) _ _ _ (act (known_of s) wire_text_table (digits 0 0) (rows_there w.writing) f)
        (within w refl i)
        (λ j v. within (with_texts w.texts (set w.writing j (Some v)) w) refl i)
        (λ i j v q. tt)
        (within (with_texts (w.texts ++ w.writing ∷ []) [] w) refl 0)

    wire-goes : (i : ℕ) (f : Form) → On P (on_wire e l s m fs n w i f)
    wire-goes zero f = wire-owns f
    wire-goes (suc i) f = wire-texts (suc i) f

  -- ── what is skipped ──
  module _ (s : Set) (m : ℕ) (fs : List Figure) (n : ℕ) (b : Owned) (z : Same first s₀ s) where
    skip-same : (d : ℕ) (st : State) → Sound first s₀ st → weight K first (skipping s m fs n b d) ≡ weight K first st → Goes (skipping s m fs n b d) st
    skip-same d st x q = record { sound = x; grows = omega (arith, q) }

    -- by what is skipped: in a placed symbol or a wire that is read, or a whole wire
    unread-shut : (b : Owned) → On (Goes (skipping s m fs n b 0)) (unread_shut s m fs n b)
    unread-shut (symbol_block o) = tt
    unread-shut (wire_block w) = tt
    unread-shut wire_unread = record { sound = (z, tt); grows = figure-shut K first s (in_layer m) fs (passed n) _ (omega arith) }

    skip-ended : (b : Owned) → Goes (skipping s m fs n b 1) (skip_ended s m fs n b)
    skip-ended (symbol_block o) = record { sound = z; grows = le_refl (weight K first (skipping s m fs n (symbol_block o) 1)) }
    skip-ended (wire_block w) = record { sound = z; grows = le_refl (weight K first (skipping s m fs n (wire_block w) 1)) }
    skip-ended wire_unread = record { sound = z; grows = le_refl (weight K first (skipping s m fs n wire_unread 1)) }

    skip-shut : (d : ℕ) → On (Goes (skipping s m fs n b d)) (skip_shut s m fs n b d)
    skip-shut zero = unread-shut b
    skip-shut (suc zero) = skip-ended b
    skip-shut (suc (suc d)) = skip-same (suc (suc d)) (skipping s m fs n b (suc d)) z refl

    skipping-goes : (d : ℕ) (f : Form) → On (Goes (skipping s m fs n b d)) (on_skipping s m fs n b d f)
    skipping-goes d ignored = skip-same d (skipping s m fs n b d) z refl
    skipping-goes d (wrong k) = tt
    skipping-goes d close = skip-shut d
    skipping-goes d eof = tt
    skipping-goes d (keyed k c) =
        on_skip (Goes (skipping s m fs n b d)) (skip_of k c) _ _ (skip-same d (skipping s m fs n b d) z refl)
        (on-unless (Goes (skipping s m fs n b d)) (ltb d most_depth) 18 _ λ _. skip-same d (skipping s m fs n b (suc d)) z refl)

  -- ── any line ──
  steps : (st : State) → Sound first s₀ st → On (Goes st) (step_in e l st)
  steps (top s k) z = top-goes s k l.form z
  steps (file s n h p) z = file-goes s n h p l.form z
  steps (drawing s d) z = drawing-goes s d l.form z
  steps (layer_names s d) z = names-goes s d l.form z
  steps (defines s b) z = defines-goes s b l.form z
  steps (symbol s y) z = symbol-goes s y l.form z
  steps (hide s y ps) z = hide-goes s y ps l.form z
  steps (elements s) z = elements-go s l.form z
  steps (figures s h fs) z = figures-go s h fs l.form z
  steps (successive s h fs n ps) z = successive-goes s h fs n ps l.form z
  steps (texts s h fs n o) z = texts-go s h fs n o l.form z
  steps (placing s m fs n (symbol_block o) p) z = placing-goes s m fs n o z p l.form
  steps (placing s m fs n (wire_block w) p) z = wire-goes s m fs n w p z p l.form
  steps (placing s m fs n wire_unread p) z = tt
  steps (skipping s m fs n b d) z = skipping-goes s m fs n b z d l.form
  steps (ended s) z = tt

  pub step-goes : (st st' : State) → Sound first s₀ st → step_in e l st ≡ got st' → Goes st st'
  step-goes st st' z q = on-got (Goes st) (step_in e l st) st' (steps st z) q

-- ── any lines ──
pub through-goes : (K : Known) (first : Bool) (s₀ : Set) → is_first s₀ ≡ first → (e : Env) (ls : List Line) (st st' : State) → Sound first s₀ st → through e st ls ≡ got st'
    → Sound first s₀ st' × (weight K first st ≤ weight K first st')
through-goes K first s₀ start e [] st st' z q = let same : st ≡ st' = cc in (subst (Sound first s₀) same z, omega (arith, ap (weight K first) same))
through-goes K first s₀ start e (l ∷ ls) st st' z q =
    let (st₁, a, b) = then-got (step_in e l st) (λ st. through e st ls) st' q in
    let g = step-goes K first s₀ start e l st st₁ z a in
    let (x, y) = through-goes K first s₀ start e ls st₁ st' g.sound b in
    (x, omega (arith, g.grows, y))
