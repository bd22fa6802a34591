-- One line in ELEMENT, among figures and in each figure that is a block: what there is to write grows by no more than the line.
use Prim.Native.Nat.{ℕ, zero, suc, ◌+◌, ◌≤◌}
use mathlib.Core.Bool.{Bool, true, false, not}
use mathlib.Core.List.{List, [], ◌∷◌, ◌++◌}
use mathlib.Core.Path.{◌≡◌, refl, sym, ap, subst}
use native.Mathlib.Omega.{arith}
use lib.Dec.{leb, ltb}
use lib.ListN.{length, get_or}
use Rattle.rules.specs.declared.Digits.{Digits}
use Rattle.rules.specs.Base.{bytes, all, is_nil, has_number}
use Rattle.rules.specs.RefusalNumbers.{got, bad, unless}
use Rattle.rules.specs.Lines.{Rest, Form, ignored, wrong, close, eof, keyed}
use Rattle.rules.specs.RangeClass.{digits, reaches, exceeds, both, Skip, passes, deeper, no_form, skip_of, most_depth, knows_wires}
use Rattle.rules.specs.Values.{Value, empty, nums, chars, linked, Known, layer_id, headed, nums_of, amount_at, show_content}
use Rattle.rules.specs.Rows.{Rule, Found, absent, found, find, Slots, blank, Held, part_of, enter, rows_there, rows_at_limit, begin, inner_of, act_row, act}
use Rattle.rules.specs.Blocks.{element_table, blank_held}
use Rattle.rules.specs.Figures.{layer_table, figure_table, least_points, point_table, text_table, placed_table, placed_tables, wire_table}
use Rattle.rules.specs.Sets.{Point, Figure, plain, chain, lettering, placed, Symbol, Set, with_volume, with_records, symbol_figures, range_of, is_single, known_of, used_in, passed, is_wired}
use Rattle.rules.specs.VolumesAndTotals.{counted_here}
use Rattle.rules.specs.Machine.{Line, Env, Home, in_element, in_layer, State, top, symbol, elements, figures, successive, texts, placing, skipping, taking, on_elements, is_layer, home_table, point_at, close_figures, open_figure, on_figures, on_successive, on_texts, shut_part, wire_block, wire_unread, begin_wire}
use Rattle.rules.specs.PlacedSymbol.{by_skip, skip_deeper, on_unknown, new_serial, on_placed, on_placed_key, on_placing, on_skipping, skip_ended, unread_shut}
use Rattle.rules.specs.FixedForm.{open_line, line_of}
use Rattle.rules.specs.Machine.{symbol_block, kind_in, Owned}
use Rattle.rules.specs.RecordTable.{kind_line, kind_successive, kind_text, kind_placed, kind_point, kind_wire, kind_wire_more}
use Rattle.rules.proofs.Chains.{On, on-unless, on-cond, clash, same-eq, total-more}
use Rattle.rules.proofs.Rows.{Row, found-row, row-all, row_at, row_below}
use Rattle.promises.proofs.Forms.{Told, key_ok, keys_ok, table-keys}
use Rattle.promises.proofs.Weights.{blank-cost, blank-held, figure_cost, layer_head}
use Rattle.promises.proofs.Costs.{home_known, in_figures, volume-cost, layer-cost, HomeOk, Next}
use Rattle.promises.proofs.LengthRows.{Took, slots-took, held-took, heads, head-took, figure_rows, nums-took, on_row, on-unknown, on-act, is_written, head-written}
use Rattle.promises.proofs.LengthBlocks.{plain-tables, plain-same, deepens, deeper-part, on-taking, point-took, on-plain}

-- ── the line of a layer ──
layer-line : (k : Known) (v : Value) → is_written v ≡ true → show_content k (headed 1 layer_id) v ≡ get_or k.layers (amount_at v 0) []
layer-line k empty e = clash e refl
layer-line k (nums v) e = refl
layer-line k (chars at c) e = refl
layer-line k (linked m ps) e = refl

layer-took : {j : ℕ} {r : Rule} → Row element_table j r → (k : Known) (d : Digits) (full : Bool) (v : Value) (n : ℕ) → Took k r full v n true
    → (x : Rest) → act_row k d full j r x ≡ begin (inner_of r.holds) j v → layer_head k (amount_at v 0) ≤ n + 5
unfolding element_table
layer-took {j} {r} w k d full v n (f, o, l, m) x e =
    let z : j ≡ 0 = omega (arith, row_below w) in
    let q : get_or element_table 0 r ≡ r = subst (λ (i : ℕ). get_or element_table i r ≡ r) z (row_at w r) in
    let s : is_written v ≡ true = head-written k d full j r x 1 layer_id v (ap (λ (r : Rule). r.holds) (sym q)) e in
    let t : length (line_of k (get_or element_table 0 r) v) ≤ n = subst (λ (r : Rule). length (line_of k r v) ≤ n) (sym q) l in
    omega (arith, t, ap (λ (c : List ℕ). length (bytes "LAYER=" ++ open_line c)) (layer-line k v s))

-- ── figures at home ──
-- the opening lines of figures that are blocks
abbrev figure_head : ℕ → ℕ
figure_head zero = 0
figure_head (suc zero) = 12
figure_head (suc (suc zero)) = 6
figure_head (suc (suc (suc zero))) = 10
figure_head (suc (suc (suc (suc i)))) = 8

home-rows : (s : Set) (h : Home) → (keys_ok (home_table s h) ≡ true) × (heads figure_head (home_table s h) ≡ true) × (figure_rows (home_table s h) ≡ true)
unfolding figure_table layer_table
home-rows s (in_element y) = (refl, refl, refl)
home-rows s (in_layer k) = in-layer (is_single s) (is_wired s)
  where
    in-layer : (b w : Bool) → (keys_ok (layer_table b w) ≡ true) × (heads figure_head (layer_table b w) ≡ true) × (figure_rows (layer_table b w) ≡ true)
    in-layer true true = (refl, refl, refl)
    in-layer true false = (refl, refl, refl)
    in-layer false true = (refl, refl, refl)
    in-layer false false = (refl, refl, refl)

placed-rows : (p : ℕ) → (keys_ok (get_or placed_tables p []) ≡ true) × (all (deepens p) (get_or placed_tables p []) ≡ true)
unfolding placed_table text_table
placed-rows zero = (refl, refl)
placed-rows (suc zero) = (refl, refl)
placed-rows (suc (suc p)) = (refl, refl)

-- a line in `element` weighs the same at K
home_same : (K : Known) (s : Set) (h : Home) (j : ℕ) (r : Rule) → Row (home_table s h) j r → (v : Value) → line_of (known_of s) r v ≡ line_of (home_known K s h) r v
home_same K s (in_element y) j r w v = plain-same (plain-tables true 0 0).4 w (known_of s) K v
home_same K s (in_layer k) j r w v = refl

-- a record taken changes nothing of what is at home
on-home : (P : State → Type 0) (e : Env) (ks : List ℕ) (s : Set) (h : Home) (F : Set → Home → State) → ((y : Symbol) → P (F s (in_element y)) → P (F (with_records ks s) (in_element y)))
    → ((k : ℕ) → P (F s (in_layer k)) → P (F (with_records ks s) (in_layer k))) → P (F s h) → On P (taking e ks s λ s'. F s' h)
on-home P e ks s (in_element y) F f g z = on-taking P e ks s (λ s'. F s' (in_element y)) (f y z)
on-home P e ks s (in_layer k) F f g z = on-taking P e ks s (λ s'. F s' (in_layer k)) (g k z)

module _ (K : Known) (n : ℕ) where
  -- ── ELEMENT ──
  pub elements-next : (s : Set) (f : Form) → Told n f → On (Next K (elements s) n) (on_elements s f)
  elements-next s f tells =
      let P : State → Type 0 = Next K (elements s) n in
      on-act P _ _ _ _ (known_of s) (known_of s) (digits 0 0) n element_table (rows_at_limit 0 element_table) f (table-keys true 0 0).10 (λ j r w v. refl) tells
      (tt, omega arith)
      (λ j r v w u. tt)
      (λ j r v w u x e. on-unless P (not (has_number (amount_at v 0) (used_in s.now))) 14 (got (figures s (in_layer (amount_at v 0)) [])) λ _.
      (tt, omega (arith, layer-took w (known_of s) (digits 0 0) _ v n u x e)))
      (λ one. on-unless P (counted_here s) 17 (got (top (with_volume s) 4)) λ _. (tt, omega (arith, volume-cost K s)))

  -- ── figures ──
  wire-begins : (b : Bool) (s : Set) (k : ℕ) (fs : List Figure) (m : ℕ) → 8 ≤ n
      → Next K (figures s (in_layer k) fs) n (begin_wire b (with_records (kind_wire ∷ kind_wire_more ∷ []) s) k fs m)
  wire-begins true s k fs m le = (tt, omega (arith, blank-cost (known_of s) wire_table))
  wire-begins false s k fs m le = (tt, omega arith)

  figure-opens : (e : Env) (l : Line) (s : Set) (h : Home) (fs : List Figure) (i : ℕ) → HomeOk s h → figure_head i ≤ n → On (Next K (figures s h fs) n) (open_figure e l s h fs i)
  figure-opens e l s h fs zero ok le = tt
  figure-opens e l s h fs (suc zero) ok le = on-home (Next K (figures s h fs) n) e (kind_in h kind_successive ∷ []) s h (λ s' h'. successive s' h' fs l.line []) (λ y z. z) (λ k z. z) (ok, omega arith)
  figure-opens e l s h fs (suc (suc zero)) ok le =
      on-home (Next K (figures s h fs) n) e (kind_in h kind_text ∷ []) s h (λ s' h'. texts s' h' fs l.line (blank (text_table (is_layer h) 4 12))) (λ y z. z) (λ k z. z) (ok, omega (arith, blank-cost (home_known K s h) (text_table (is_layer h) 4 12)))
  figure-opens e l s (in_element y) fs (suc (suc (suc zero))) ok le = tt
  figure-opens e l s (in_element y) fs (suc (suc (suc (suc i)))) ok le = tt
  figure-opens e l s (in_layer k) fs (suc (suc (suc (suc i)))) ok le =
      on-taking (Next K (figures s (in_layer k) fs) n) e (kind_wire ∷ kind_wire_more ∷ []) s (λ s'. begin_wire (knows_wires e.class) s' k fs l.line) (wire-begins (knows_wires e.class) s k fs l.line le)
  figure-opens e l s (in_layer k) fs (suc (suc (suc zero))) ok le =
      on-taking (Next K (figures s (in_layer k) fs) n) e (kind_placed ∷ []) s (λ s'. placing s' k fs l.line (symbol_block (blank_held placed_tables)) 0) (tt, omega (arith, blank-held (known_of s) placed_tables))

  figures-shut : (s : Set) (h : Home) (fs : List Figure) → HomeOk s h → 1 ≤ n → On (Next K (figures s h fs) n) (close_figures s h fs)
  figures-shut s (in_element y) fs ok one =
      on-unless (Next K (figures s (in_element y) fs) n) (not (is_nil fs)) 8 (got (symbol s (symbol_figures fs y))) λ _. (ok, omega arith)
  figures-shut s (in_layer k) fs ok one = (tt, omega (arith, layer-cost K s k fs))

  -- a figure more
  pub figure-more : (s : Set) (h : Home) (fs : List Figure) (f : Figure)
      → in_figures K s h (fs ++ f ∷ []) ≡ in_figures K s h fs + figure_cost (home_known K s h) (is_layer h) (home_table s h) f
  figure-more s h fs f = omega (arith, total-more (figure_cost (home_known K s h) (is_layer h) (home_table s h)) fs f)

  pub figures-next : (e : Env) (l : Line) (s : Set) (h : Home) (fs : List Figure) (f : Form) → HomeOk s h → Told n f → On (Next K (figures s h fs) n) (on_figures e l s h fs f)
  figures-next e l s h fs f ok tells =
      let P : State → Type 0 = Next K (figures s h fs) n in
      on-act P _ _ _ _ (known_of s) (home_known K s h) (range_of s) n (home_table s h) (rows_at_limit 0 (home_table s h)) f (home-rows s h).0 (home_same K s h) tells
      (ok, omega arith)
      (λ j r v w u. on-home P e (kind_in h (kind_line + j) ∷ []) s h (λ s' h'. figures s' h' (fs ++ plain l.line j (nums_of v) ∷ [])) (λ y z. z) (λ k z. z)
      (ok, omega (arith, figure-more s h fs (plain l.line j (nums_of v)), nums-took w (home-rows s h).2 (home_known K s h) _ v n false u)))
      (λ j r v w u x q. figure-opens e l s h fs (inner_of r.holds) ok (head-took figure_head w (home-rows s h).1 (home_known K s h) _ v n u))
      (figures-shut s h fs ok)

  pub successive-next : (e : Env) (l : Line) (s : Set) (h : Home) (fs : List Figure) (m : ℕ) (ps : List Point) (f : Form) → HomeOk s h → Told n f
      → On (Next K (successive s h fs m ps) n) (on_successive e l s h fs m ps f)
  successive-next e l s h fs m ps f ok tells =
      let P : State → Type 0 = Next K (successive s h fs m ps) n in
      on-plain (home_known K s h) n P _ _ _ _ (known_of s) (digits 0 0) (point_table (is_layer h)) (rows_at_limit (length ps) (point_table (is_layer h))) f (plain-tables (is_layer h) 0 0).5 tells
      (ok, omega arith)
      (λ j r v w u. on-home P e (kind_in h kind_point ∷ []) s h (λ s' h'. successive s' h' fs m (ps ++ point_at l v ∷ [])) (λ y z. z) (λ k z. z) (ok, omega (arith, point-took (is_layer h) w (home_known K s h) _ v n u ps l)))
      (λ j r v w u. tt)
      (λ one. on-unless P (leb least_points (length ps)) 8 (got (figures s h (fs ++ chain m ps ∷ []))) λ _. (ok, omega (arith, figure-more s h fs (chain m ps))))

  pub texts-next : (s : Set) (h : Home) (fs : List Figure) (m : ℕ) (o : Slots) (f : Form) → HomeOk s h → Told n f → On (Next K (texts s h fs m o) n) (on_texts s h fs m o f)
  texts-next s h fs m o f ok tells =
      on-plain (home_known K s h) n (Next K (texts s h fs m o) n) _ _ _ _ (known_of s) (digits 0 0) (text_table (is_layer h) 4 12) (rows_there o) f (plain-tables (is_layer h) 4 12).6 tells
      (ok, omega arith)
      (λ j r v w u. (ok, omega (arith, slots-took w (home_known K s h) o v n false u)))
      (λ j r v w u. tt)
      (λ one. (ok, omega (arith, figure-more s h fs (lettering m o))))

  -- ── what is skipped ──
  skip-ended : (s : Set) (h : ℕ) (fs : List Figure) (m : ℕ) (b : Owned) (d : ℕ) → Next K (skipping s h fs m b d) n (skip_ended s h fs m b)
  skip-ended s h fs m (symbol_block o) d = (tt, omega arith)
  skip-ended s h fs m (wire_block w) d = (tt, omega arith)
  skip-ended s h fs m wire_unread d = (tt, omega arith)

  unread-shut : (s : Set) (h : ℕ) (fs : List Figure) (m : ℕ) (b : Owned) (d : ℕ) → 1 ≤ n → On (Next K (skipping s h fs m b d) n) (unread_shut s h fs m b)
  unread-shut s h fs m (symbol_block o) d one = tt
  unread-shut s h fs m (wire_block w) d one = tt
  unread-shut s h fs m wire_unread d one = (tt, omega (arith, figure-more s (in_layer h) fs (passed m)))

  module _ (s : Set) (h : ℕ) (fs : List Figure) (m : ℕ) (b : Owned) where
    skip-next : (d : ℕ) (z : Skip) → On (Next K (skipping s h fs m b d) n) (by_skip z (got (skipping s h fs m b d)) (skip_deeper d (skipping s h fs m b (suc d))))
    skip-next d passes = (tt, omega arith)
    skip-next d deeper = on-unless (Next K (skipping s h fs m b d) n) (ltb d most_depth) 18 (got (skipping s h fs m b (suc d))) λ _. (tt, omega arith)
    skip-next d no_form = tt

    pub skipping-next : (d : ℕ) (f : Form) → Told n f → On (Next K (skipping s h fs m b d) n) (on_skipping s h fs m b d f)
    skipping-next d ignored tells = (tt, omega arith)
    skipping-next d (wrong q) tells = tt
    skipping-next zero close tells = unread-shut s h fs m b 0 tells.0
    skipping-next (suc zero) close tells = skip-ended s h fs m b 1
    skipping-next (suc (suc d)) close tells = (tt, omega arith)
    skipping-next d eof tells = tt
    skipping-next d (keyed k c) tells = skip-next d (skip_of k c)

  -- ── the placed symbol ──
  module _ (s : Set) (h : ℕ) (fs : List Figure) (m : ℕ) (o : Held) where
    placed-entry : (p j : ℕ) (r : Rule) (v : Value) → Row (get_or placed_tables p []) j r → Took (known_of s) r (get_or (rows_there (part_of o p)) j false) v n false
        → On (Next K (placing s h fs m (symbol_block o) p) n) (unless (new_serial s fs v) 15 (got (placing s h fs m (symbol_block (enter o p j v)) p)))
    placed-entry p j r v w u =
        on-unless (Next K (placing s h fs m (symbol_block o) p) n) (new_serial s fs v) 15 (got (placing s h fs m (symbol_block (enter o p j v)) p)) λ _.
        (tt, omega (arith, held-took placed_tables p w (known_of s) o v n false u))

    placed-begin : (p j : ℕ) (r : Rule) (v : Value) → Row (get_or placed_tables p []) j r → Took (known_of s) r (get_or (rows_there (part_of o p)) j false) v n true
        → Next K (placing s h fs m (symbol_block o) p) n (placing s h fs m (symbol_block (enter o p j v)) (inner_of r.holds))
    placed-begin p j r v w u =
        (tt, omega (arith, held-took placed_tables p w (known_of s) o v n true u, deeper-part p w (placed-rows p).1 (known_of s) _ v n u))

    placed-shut : (p : ℕ) → 1 ≤ n → On (Next K (placing s h fs m (symbol_block o) p) n) (shut_part p (got (figures s (in_layer h) (fs ++ placed m o ∷ []))) (λ q. placing s h fs m (symbol_block o) q))
    placed-shut zero one = (tt, omega (arith, figure-more s (in_layer h) fs (placed m o)))
    placed-shut (suc zero) one = (tt, omega arith)
    placed-shut (suc (suc p)) one = (tt, omega arith)

    placed-act : (p : ℕ) (d : Digits) (f : Form) → Told n f → On (Next K (placing s h fs m (symbol_block o) p) n) (on_placed s h fs m o p (act (known_of s) (get_or placed_tables p []) d (rows_there (part_of o p)) f))
    placed-act p d f tells =
        on-act (Next K (placing s h fs m (symbol_block o) p) n) _ _ _ _ (known_of s) (known_of s) d n (get_or placed_tables p []) (rows_there (part_of o p)) f (placed-rows p).0 (λ j r w v. refl) tells
        (tt, omega arith) (placed-entry p) (λ j r v w u x e. placed-begin p j r v w u) (placed-shut p)

    unknown-next : (e : Env) (k : List ℕ) (c : Rest) → On (Next K (placing s h fs m (symbol_block o) 0) n) (on_unknown e s h fs m o k c)
    unknown-next e k c =
        on-cond (Next K (placing s h fs m (symbol_block o) 0) n) (exceeds (range_of s) e.class.symbols) _ _
        (λ _. skips (skip_of k c))
        (λ _. on-unknown (Next K (placing s h fs m (symbol_block o) 0) n) (placing s h fs m (symbol_block o) 0) (λ j v. bad 6) (λ i j v. bad 6) (bad 6) (known_of s) (known_of s) (digits 0 0) n c)
      where
        skips : (z : Skip) → On (Next K (placing s h fs m (symbol_block o) 0) n) (by_skip z (got (placing s h fs m (symbol_block o) 0)) (skip_deeper 0 (skipping s h fs m (symbol_block o) 1)))
        skips passes = (tt, omega arith)
        skips deeper = on-unless (Next K (placing s h fs m (symbol_block o) 0) n) (ltb 0 most_depth) 18 (got (skipping s h fs m (symbol_block o) 1)) λ _. (tt, omega arith)
        skips no_form = tt

    key-next : (e : Env) (k : List ℕ) (c : Rest) → Told n (keyed k c) → (g : Found) → find k placed_table ≡ g → On (Next K (placing s h fs m (symbol_block o) 0) n) (on_placed_key e s h fs m o k c g)
    key-next e k c tells absent q = unknown-next e k c
    key-next e k c tells (found j r) q =
        let (w, i) = found-row k placed_table j r q in
        on-cond (Next K (placing s h fs m (symbol_block o) 0) n) (reaches e.class.symbols r.least) _ _
        (λ _. on_row (Next K (placing s h fs m (symbol_block o) 0) n) _ _ _ _ (known_of s) (known_of s) (range_of s) n (get_or (rows_there (part_of o 0)) j false) j r c
        (row-all (λ r. key_ok r.key) w (placed-rows 0).0) (λ v. refl) (subst (λ (x : List ℕ). Told n (keyed x c)) (same-eq k r.key i) tells)
        (tt, omega arith) (λ v. placed-entry 0 j r v w) (λ v u e. placed-begin 0 j r v w u) (placed-shut 0))
        (λ _. unknown-next e k c)

    pub placing-next : (e : Env) (p : ℕ) (f : Form) → Told n f → On (Next K (placing s h fs m (symbol_block o) p) n) (on_placing e s h fs m o p f)
    placing-next e zero ignored tells = (tt, omega arith)
    placing-next e zero (wrong q) tells = tt
    placing-next e zero close tells = placed-act 0 (both e.class.symbols (range_of s)) close tells
    placing-next e zero eof tells = tt
    placing-next e zero (keyed k c) tells = key-next e k c tells (find k placed_table) refl
    placing-next e (suc p) f tells = placed-act (suc p) (digits 0 0) f tells
