-- One line in each block before ELEMENT: what there is to write grows by no more than the line.
use Rattle.std.specs.Prelude.{Some}
use Prim.Native.Nat.{ℕ, zero, suc, ◌+◌, ◌-◌, ◌≤◌}
use mathlib.Core.Bool.{Bool, true, false, cond, ◌&&◌, ◌||◌, not}
use mathlib.Core.List.{List, [], ◌∷◌, ◌++◌, map}
use mathlib.Core.Path.{◌≡◌, refl, sym, ap, subst}
use native.Mathlib.Omega.{arith}
use lib.Dec.{eqb, leb, ltb}
use lib.ListN.{length, get_or, set, length-set}
use borrow.Author.Tests.{leb-true, eqb-true}
use Rattle.rules.specs.declared.Digits.{Digits}
use Rattle.rules.specs.Base.{bytes, all, among, is_nil}
use Rattle.rules.specs.RefusalNumbers.{Got, got, unless, and_then}
use Rattle.rules.specs.Lines.{Form, ignored, wrong, close, eof, keyed, free_shape_of}
use Rattle.rules.specs.RangeClass.{digits, digits_of}
use Rattle.rules.specs.Values.{Value, nums, Known, is_layer_id, opens, nums_of}
use Rattle.rules.specs.RecordTable.{rule_at, kind_drawing, kind_symbol, kind_layer, kind_hidden}
use Rattle.rules.specs.FixedForm.{line_of}
use Rattle.rules.specs.Rows.{Rule, row, blank, Held, part_of, rows_there, rows_at_limit, inner_of, act}
use Rattle.rules.specs.Blocks.{top_table, file_table, range_table, base_table, elec_table, sym_table, later_table, file_tables, drawing_table, most_layers, defines_table, symbol_table, blank_held}
use Rattle.rules.specs.Figures.{figure_table, point_table, text_table}
use Rattle.rules.specs.Sets.{Point, Layer, Drawing, Symbol, Set, with_now, with_drawing, with_records, with_layer, symbol_own, is_first, arc_of, define_range, known_of}
use Rattle.rules.specs.VolumesAndTotals.{chained, dated}
use Rattle.rules.specs.Machine.{Line, Env, in_element, State, top, file, drawing, layer_names, defines, symbol, hide, by_act, room_for, taking, open_top, on_top, close_file, shut_part, on_file, on_drawing, layer_value, on_layer_names, on_defines, new_name, open_symbol, on_symbol, point_at, on_hide}
use Rattle.rules.specs.Sets.{layer_table_of}
use Rattle.rules.specs.Machine.{file_kinds}
use Rattle.rules.proofs.Chains.{On, on-unless, on_then, clash, and_left, and_right, all_weaken, total-more}
use Rattle.rules.proofs.Rows.{Row, row-all, row_at, row_below}
use Rattle.promises.proofs.Forms.{Told, key_ok}
use Rattle.promises.proofs.Weights.{inner_cost, inner_open, blank-cost, blank-held, point_cost, points_cost, layer_cost, non_cost, blocks_cost}
use Rattle.promises.proofs.Costs.{depth, First, closed-least, closed-first, now-first, file-cost, symbol-cost, in_symbol, HomeOk, TopOk, file_ok, Next}
use Rattle.promises.proofs.RowGood.{layer-good}
use Rattle.promises.proofs.LengthRows.{open-line, Took, slots-took, held-took, heads, head-took, nums-took, on-act}
use Rattle.promises.proofs.Nameless.{nameless, line_any}
use Rattle.promises.proofs.OnEof.{on-eof}

-- ── tables whose rows name nothing ──
abbrev plain_rule : Rule → Bool
plain_rule r = key_ok r.key && nameless r.holds

abbrev pub plain_table : List Rule → Bool
plain_table t = all plain_rule t

pub plain-tables : (b : Bool) (p q : ℕ)
    → (plain_table top_table ≡ true) × (plain_table drawing_table ≡ true) × (plain_table defines_table ≡ true) × (plain_table symbol_table ≡ true)
    × (plain_table figure_table ≡ true) × (plain_table (point_table b) ≡ true) × (plain_table (text_table b p q) ≡ true)
unfolding top_table drawing_table defines_table symbol_table figure_table point_table text_table
plain-tables true p q = (refl, refl, refl, refl, refl, refl, refl)
plain-tables false p q = (refl, refl, refl, refl, refl, refl, refl)

-- their lines are the same whatever is known
pub plain-same : {t : List Rule} → plain_table t ≡ true → {j : ℕ} {r : Rule} → Row t j r → (k k' : Known) (v : Value) → line_of k r v ≡ line_of k' r v
plain-same e {r = r} w k k' v = line_any r (and_right (key_ok r.key) _ (row-all plain_rule w e)) k k' v

-- a part within part p is deeper
abbrev pub deepens : ℕ → Rule → Bool
deepens p r = leb (inner_cost (λ i. depth p + 3 - depth i) r.holds) 0

pub deeper-part : (p : ℕ) {t : List Rule} {j : ℕ} {r : Rule} → Row t j r → all (deepens p) t ≡ true → (k : Known) (full : Bool) (v : Value) (n : ℕ) → Took k r full v n true
    → depth p + 3 ≤ depth (inner_of r.holds)
deeper-part p {r = r} w e k full v n (f, o, l, m) =
    let w' : ℕ → ℕ = λ i. depth p + 3 - depth i in
    omega (arith, leb-true (inner_cost w' r.holds) 0 (row-all (deepens p) w e), inner_open w' r.holds v o)

file-tables : (b : Bool) (p : ℕ) → (plain_table (get_or (file_tables b) p []) ≡ true) × (all (deepens p) (get_or (file_tables b) p []) ≡ true)
unfolding file_table range_table base_table elec_table sym_table later_table
file-tables true zero = (refl, refl)
file-tables true (suc zero) = (refl, refl)
file-tables true (suc (suc zero)) = (refl, refl)
file-tables true (suc (suc (suc zero))) = (refl, refl)
file-tables true (suc (suc (suc (suc zero)))) = (refl, refl)
file-tables true (suc (suc (suc (suc (suc p))))) = (refl, refl)
file-tables false zero = (refl, refl)
file-tables false (suc p) = (refl, refl)

-- the key that opens each block of the top level
abbrev top_key : ℕ → List ℕ
top_key zero = bytes "FILE_FORMAT"
top_key (suc zero) = bytes "DRAWING_FORMAT"
top_key (suc (suc zero)) = bytes "SYMBOL_DEFINE"
top_key (suc (suc (suc j))) = bytes "ELEMENT"

top_key_lem : (j : ℕ) (r : Rule) → Row top_table j r → length (top_key j) ≡ length r.key
unfolding top_table
top_key_lem zero r w = ap (λ (q : Rule). length q.key) (row_at w r)
top_key_lem (suc zero) r w = ap (λ (q : Rule). length q.key) (row_at w r)
top_key_lem (suc (suc zero)) r w = ap (λ (q : Rule). length q.key) (row_at w r)
top_key_lem (suc (suc (suc zero))) r w = ap (λ (q : Rule). length q.key) (row_at w r)
top_key_lem (suc (suc (suc (suc j)))) r w = ap (λ (q : Rule). length q.key) (row_at w (row "ELEMENT" (opens 0) 0))

top-few : {j : ℕ} {r : Rule} → Row top_table j r → j ≤ 3
unfolding top_table
top-few w = omega (arith, row_below w)

pub on-taking : (P : State → Type 0) (e : Env) (ks : List ℕ) (s : Set) (f : Set → State) → P (f (with_records ks s)) → On P (taking e ks s f)
on-taking P e ks s f h = on-unless P (room_for e.limit (s.taken + length ks)) 19 (got (f (with_records ks s))) λ _. h

define-key : {j : ℕ} {r : Rule} → Row defines_table j r → 3 ≤ length r.key
unfolding defines_table
define-key {r = r} w = leb-true 3 (length r.key) (row-all (λ r. leb 3 (length r.key)) w refl)

define-heads : heads (λ i. 10) defines_table ≡ true
unfolding defines_table
define-heads = refl

blank-sized : 3 ≤ length (blank symbol_table)
unfolding symbol_table
blank-sized = omega arith

-- a point more
pub point-took : (b : Bool) {j : ℕ} {r : Rule} → Row (point_table b) j r → (k : Known) (full : Bool) (v : Value) (n : ℕ) → Took k r full v n false
    → (ps : List Point) (l : Line) → points_cost k b (ps ++ point_at l v ∷ []) ≤ points_cost k b ps + (n + 2)
unfolding point_table
point-took b {j} w k full v n u ps l =
    let z : j ≡ 0 = omega (arith, row_below w) in
    let s : length (line_of k (rule_at (point_table b) 0) (nums (nums_of v))) ≤ n =
    subst (λ (i : ℕ). length (line_of k (rule_at (point_table b) i) (nums (nums_of v))) ≤ n) z (nums-took w refl k full v n false u) in
    omega (arith, total-more (point_cost k b) ps (point_at l v), s)

non-least : (a b : Bool) → (a || not b) ≡ true → non_cost b ≤ non_cost a
non-least true true e = omega arith
non-least true false e = omega arith
non-least false true e = clash e refl
non-least false false e = omega arith

module _ (K : Known) (n : ℕ) where
  -- such a table's lines weigh the same at K
  pub on-plain : (P : State → Type 0) (here : State) (en : ℕ → Value → Got State) (op : ℕ → ℕ → Value → Got State) (cl : Got State) (k : Known) (d : Digits)
      (t : List Rule) (full : List Bool) (f : Form) → plain_table t ≡ true → Told n f
      → P here
      → ((j : ℕ) (r : Rule) (v : Value) → Row t j r → Took K r (get_or full j false) v n false → On P (en j v))
      → ((j : ℕ) (r : Rule) (v : Value) → Row t j r → Took K r (get_or full j false) v n true → On P (op (inner_of r.holds) j v))
      → (1 ≤ n → On P cl)
      → On P (by_act here en op (λ _. cl) (act k t d full f))
  on-plain P here en op cl k d t full f plain tells st ent beg clo =
      on-act P here en op cl k K d n t full f
      (all_weaken plain_rule (λ r. key_ok r.key) (λ r e. and_left (key_ok r.key) _ e) t plain)
      (λ j r w v. plain-same plain w k K v)
      tells st ent (λ j r v w u x e. beg j r v w u) clo

  -- ── FILE_FORMAT ──
  pub file-next : (l : Line) (s : Set) (m : ℕ) (h : Held) (p : ℕ) (f : Form) → Told n f → On (Next K (file s m h p) n) (on_file l s m h p f)
  file-next l s m h p f tells =
      on-plain (Next K (file s m h p) n) _ _ _ _ (known_of s) (digits 0 0) (get_or (file_tables (is_first s)) p []) (rows_there (part_of h p)) f (file-tables (is_first s) p).0 tells
      (tt, omega arith)
      (λ j r v w u. (tt, omega (arith, held-took (file_tables (is_first s)) p w K h v n false u)))
      (λ j r v w u. (tt, omega (arith, held-took (file_tables (is_first s)) p w K h v n true u, deeper-part p w (file-tables (is_first s) p).1 K _ v n u)))
      (shut p)
    where
      shut : (p : ℕ) → 1 ≤ n → On (Next K (file s m h p) n) (shut_part p (close_file l s m h) (λ q. file s m h q))
      shut zero one =
          on-unless (Next K (file s m h 0) n) (chained (is_first s) l.next h && dated s (is_first s) h) 16
          (got (top (with_now (record { line = m; file = h; blocks = [] }) s) (cond (is_first s) 1 3))) λ _. (file_ok s m h, omega (arith, file-cost K s m h))
      shut (suc zero) one = (tt, omega arith)
      shut (suc (suc p)) one = (tt, omega arith)

  -- ── the top level ──
  top-opens : (e : Env) (l : Line) (s : Set) (j : ℕ) → j ≤ 3 → length (top_key j) + 2 ≤ n → TopOk s j → On (Next K (top s j) n) (open_top e l s j)
  top-opens e l s zero few long ok =
      on-taking (Next K (top s 0) n) e (file_kinds (is_first s)) s (λ s'. file s' l.line (blank_held (file_tables (is_first s))) 0)
      (tt, omega (arith, blank-held K (file_tables (is_first s))))
  top-opens e l s (suc zero) few long ok =
      on-taking (Next K (top s 1) n) e (kind_drawing ∷ []) s (λ s'. drawing s' (record { line = l.line; own = blank drawing_table; layers = [] })) (ok, omega (arith, blank-cost K drawing_table))
  top-opens e l s (suc (suc zero)) few long ok = (ok, omega arith)
  top-opens e l s (suc (suc (suc zero))) few long ok = (tt, omega (arith, ap (blocks_cost (known_of s) (layer_table_of s)) ok))
  top-opens e l s (suc (suc (suc (suc j)))) few long ok = absurd (omega (arith, few))

  pub top-next : (e : Env) (l : Line) (s : Set) (k : ℕ) (f : Form) → TopOk s k → Told n f → On (Next K (top s k) n) (on_top e l s k f)
  top-next e l s k ignored ok tells = (ok, omega arith)
  top-next e l s k (wrong m) ok tells = tt
  top-next e l s k close ok tells = tt
  top-next e l s k eof ok tells = on-eof (Next K (top s k) n) e l s k λ _. (tt, omega (arith, closed-least K s k))
  top-next e l s k (keyed key c) ok tells =
      on-plain (Next K (top s k) n) _ _ _ _ (known_of s) (digits 0 0) top_table (rows_at_limit 0 top_table) (keyed key c) (plain-tables true 0 0).0 tells
      (ok, omega arith)
      (λ j r v w u. tt)
      (λ j r v w u. on-unless (Next K (top s k) n) (eqb j k) 9 (open_top e l s j) λ q.
      let p : k ≡ j = sym (eqb-true j k q) in
      subst (λ (m : ℕ). On (Next K (top s m) n) (open_top e l s j)) (sym p)
      (top-opens e l s j (top-few w) (omega (arith, top_key_lem j r w, open-line K r v u.1, u.2)) (subst (TopOk s) p ok)))
      (λ one. tt)

  -- ── DRAWING_FORMAT ──
  pub drawing-next : (s : Set) (d : Drawing) (f : Form) → First s → Told n f → On (Next K (drawing s d) n) (on_drawing s d f)
  drawing-next s d f ok tells =
      on-plain (Next K (drawing s d) n) _ _ _ _ (known_of s) (digits_of (arc_of s)) drawing_table (rows_there d.own) f (plain-tables true 0 0).1 tells
      (ok, omega arith)
      (λ j r v w u. (ok, omega (arith, slots-took w K d.own v n false u)))
      (λ j r v w u. (ok, omega (arith, slots-took w K d.own v n true u)))
      (λ one. (ok, omega (arith, closed-first K s ok.0, closed-first K (with_drawing d s) ok.0)))

  pub layers-next : (e : Env) (l : Line) (s : Set) (d : Drawing) (f : Form) → First s → Told n f → On (Next K (layer_names s d) n) (on_layer_names e l s d f)
  layers-next e l s d ignored ok tells = (ok, omega arith)
  layers-next e l s d (wrong m) ok tells = tt
  layers-next e l s d close ok tells = (ok, omega arith)
  layers-next e l s d eof ok tells = tt
  layers-next e l s d (keyed k c) ok tells =
      let P : State → Type 0 = Next K (layer_names s d) n in
      let u : Value → Layer = λ v. record { line = l.line; id = k; name = v } in
      let g2 : Value → Got State = λ v. taking e (kind_layer ∷ []) s λ s'. layer_names s' (with_layer (u v) d) in
      let g1 : Value → Got State = λ v. unless (ltb (length d.layers) most_layers) 11 (unless (not (among k (map (λ y. y.id) d.layers))) 14 (g2 v)) in
      on-unless P (is_layer_id k) 6 (and_then (layer_value k (free_shape_of c)) g1) λ i.
      on_then P (layer_value k (free_shape_of c)) g1 λ v q.
      on-unless P (ltb (length d.layers) most_layers) 11 (unless (not (among k (map (λ y. y.id) d.layers))) 14 (g2 v)) λ _.
      on-unless P (not (among k (map (λ y. y.id) d.layers))) 14 (g2 v) λ _.
      on-taking P e (kind_layer ∷ []) s (λ s'. layer_names s' (with_layer (u v) d)) (ok, omega (arith, total-more layer_cost d.layers (u v), (layer-good k c n 0 v i tells.0 tells.1 q).1))

  -- ── SYMBOL_DEFINE ──
  pub defines-next : (e : Env) (l : Line) (s : Set) (b : Bool) (f : Form) → First s → Told n f → On (Next K (defines s b) n) (on_defines e l s b f)
  defines-next e l s b f ok tells =
      let P : State → Type 0 = Next K (defines s b) n in
      let y : Symbol = record { line = l.line; own = blank symbol_table; figures = []; hidden = []; hide_first = false } in
      on-plain P _ _ _ _ (known_of s) (digits_of (define_range s)) defines_table (b ∷ false ∷ []) f (plain-tables true 0 0).2 tells
      (ok, omega arith)
      (λ j r v w u. on-unless P (is_nil s.symbols) 6 (got (defines s true)) λ _. (ok, omega (arith, define-key w, u.3)))
      (λ j r v w u. on-unless P (not b) 6 (taking e (kind_symbol ∷ []) s λ s'. symbol s' y) λ _.
      on-taking P e (kind_symbol ∷ []) s (λ s'. symbol s' y) ((ok, blank-sized), omega (arith, blank-cost K symbol_table, head-took (λ i. 10) w define-heads K _ v n u)))
      (λ one. on-unless P (b || not (is_nil s.symbols)) 8 (got (top s 3)) λ q. (ok.1, omega (arith, now-first K s ok.0, non-least b (is_nil s.symbols) q)))

  symbol-opens : (s : Set) (y y' : Symbol) (i : ℕ) → HomeOk s (in_element y') → in_symbol K s y' ≤ in_symbol K s y + (n + 2) + 3 → On (Next K (symbol s y) n) (open_symbol s y' i)
  symbol-opens s y y' zero ok le = tt
  symbol-opens s y y' (suc zero) ok le = (ok, omega arith)
  symbol-opens s y y' (suc (suc i)) ok le = (ok, omega arith)

  pub symbol-next : (s : Set) (y : Symbol) (f : Form) → HomeOk s (in_element y) → Told n f → On (Next K (symbol s y) n) (on_symbol s y f)
  symbol-next s y f ok tells =
      let P : State → Type 0 = Next K (symbol s y) n in
      let more : ℕ → Value → Symbol = λ j v. symbol_own (set y.own j (Some v)) y in
      let ok' : (j : ℕ) (v : Value) → HomeOk s (in_element (more j v)) = λ j v. (ok.0, omega (arith, length-set y.own j (Some v), ok.1)) in
      on-plain P _ _ _ _ (known_of s) (digits_of (define_range s)) symbol_table (rows_there y.own) f (plain-tables true 0 0).3 tells
      (ok, omega arith)
      (λ j r v w u. on-unless P (new_name s (more j v)) 15 (got (symbol s (more j v))) λ _. (ok' j v, omega (arith, slots-took w K y.own v n false u)))
      (λ j r v w u. symbol-opens s y (more j v) (inner_of r.holds) (ok' j v) (omega (arith, slots-took w K y.own v n true u)))
      (λ one. (ok.0, omega (arith, symbol-cost K s y ok.0 ok.1)))

  pub hide-next : (e : Env) (l : Line) (s : Set) (y : Symbol) (ps : List Point) (f : Form) → HomeOk s (in_element y) → Told n f → On (Next K (hide s y ps) n) (on_hide e l s y ps f)
  hide-next e l s y ps f ok tells =
      let P : State → Type 0 = Next K (hide s y ps) n in
      on-plain P _ _ _ _ (known_of s) (digits 0 0) (point_table false) (rows_at_limit (length ps) (point_table false)) f (plain-tables false 0 0).5 tells
      (ok, omega arith)
      (λ j r v w u. on-taking P e (kind_hidden ∷ []) s (λ s'. hide s' y (ps ++ point_at l v ∷ [])) (ok, omega (arith, point-took false w K _ v n u ps l)))
      (λ j r v w u. tt)
      (λ one. (ok, omega arith))
