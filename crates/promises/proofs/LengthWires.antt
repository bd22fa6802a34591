-- One line in a wire: what there is to write grows by no more than the line.
use Rattle.std.specs.Prelude.{Some}
use Prim.Native.Nat.{ℕ, zero, suc, ◌+◌, ◌-◌, ◌≤◌}
use mathlib.Core.Bool.{Bool, true, false, cond, ◌&&◌}
use mathlib.Core.List.{List, [], ◌∷◌, ◌++◌}
use mathlib.Core.Path.{◌≡◌, refl, sym, subst}
use native.Mathlib.Omega.{arith}
use lib.Dec.{ltb}
use lib.ListN.{length, get_or, set}
use Rattle.rules.specs.RefusalNumbers.{got}
use Rattle.rules.specs.Lines.{Rest, Form, ignored, wrong, close, eof, keyed}
use Rattle.rules.specs.RangeClass.{digits, reaches, exceeds, both, Skip, passes, deeper, no_form, skip_of, most_depth}
use Rattle.rules.specs.Values.{Value, nums, Known, nums_of}
use Rattle.rules.specs.Rows.{Rule, Found, absent, found, find, blank, rows_there, shut, refuse, act_unknown, complete}
use Rattle.rules.specs.Figures.{wire_table, wire_text_table, wire_text_row, first_group_row}
use Rattle.rules.specs.Sets.{Edge, Wire, Figure, wired, Set, join_digit, wires_of, known_of}
use Rattle.rules.specs.Machine.{Line, Env, in_layer, State, figures, placing, skipping, wire_block}
use Rattle.rules.specs.RecordTable.{kind_edge, rule_at}
use Rattle.rules.specs.FixedForm.{line_of}
use Rattle.rules.specs.PlacedSymbol.{by_skip, skip_deeper}
use Rattle.rules.specs.Wires.{joins_ends, last_edge, join_of, joined, with_element, past_elements, group_at, with_groups, with_once, with_texts, with_attribute, wire_full, is_element_row, nums_alike, new_number, on_element, on_attribute, on_wire_act, on_wire_unknown, on_wire_key, on_wire_own, on_wire_text, on_wire}
use Rattle.rules.proofs.Chains.{On, on-unless, on-cond, clash, and_left, same-eq, total-more}
use Rattle.rules.proofs.Rows.{Row, found-row, row-all}
use Rattle.promises.proofs.Forms.{Told, key_ok, table-keys}
use Rattle.promises.proofs.RowGood.{numbers_only}
use Rattle.promises.proofs.Weights.{edge_cost, text_cost, onward, groups-more, blank-cost}
use Rattle.promises.proofs.Costs.{Next}
use Rattle.promises.proofs.InvRows.{numbers-row}
use Rattle.promises.proofs.LengthRows.{Took, row-took, slots-took, heads, head-took, on_row, on-unknown}
use Rattle.promises.proofs.LengthBlocks.{plain-tables, on-taking, on-plain}
use Rattle.promises.proofs.LengthFigures.{figure-more}
use Rattle.promises.proofs.Edges.{full-once, once-alone, element-first}

-- the opening line of a text
abbrev text_head : ℕ → ℕ
text_head i = 6

wire-heads : heads text_head wire_table ≡ true
unfolding wire_table
wire-heads = refl

-- the rows of elements and those that repeat hold numbers alone
of-numbers : {j : ℕ} {r : Rule} → Row wire_table j r → ltb j wire_text_row ≡ true → numbers_only r.holds ≡ true
of-numbers {j} {r} at low = and_left (numbers_only r.holds) _ (numbers-row at low)

module _ (K : Known) (n : ℕ) (e : Env) (l : Line) (s : Set) (h : ℕ) (fs : List Figure) (m : ℕ) (w : Wire) where
  abbrev P : State → Type 0
  P = Next K (placing s h fs m (wire_block w) 0) n

  abbrev TookRow : ℕ → Rule → Value → Bool → Type 0
  TookRow j r v b = Took (known_of s) r (get_or (wire_full w) j false) v n b

  -- ── lines and arcs ──
  element-next : (j : ℕ) (r : Rule) (v : Value) → Row wire_table j r → is_element_row j ≡ true → TookRow j r v false → On P (on_element e l s h fs m w j (nums_of v))
  element-next j r v at low u =
      let former = last_edge w.elements in
      let ends = joins_ends (join_digit s) in
      let new : Edge = record { line = l.line; row = j; values = nums_of v; join = join_of ends former j } in
      let numbers = of-numbers at (element-first j low) in
      on-unless P (joined ends former j (nums_of v)) 11 _ λ _.
      on-taking P e ((kind_edge + j) ∷ []) s (λ s'. placing s' h fs m (wire_block (with_element w new)) 0)
      (tt, omega (arith, total-more (edge_cost (known_of s)) w.elements new, row-took at numbers (known_of s) _ v n false u))

  -- ── attributes ──
  group-next : (j i : ℕ) (r : Rule) (v : Value) → Row wire_table j r → ltb j wire_text_row ≡ true → onward first_group_row i ≡ j → TookRow j r v false
      → P (placing s h fs m (wire_block (with_groups (set w.groups i (get_or w.groups i [] ++ nums_of v ∷ [])) w)) 0)
  group-next j i r v at low q u =
      let line : length (line_of (known_of s) (rule_at wire_table (onward first_group_row i)) (nums (nums_of v))) ≤ n = rw q (row-took at (of-numbers at low) (known_of s) _ v n false u) in
      (tt, omega (arith, groups-more (known_of s) w.groups first_group_row i (nums_of v), line))

  once-next : (j : ℕ) (r : Rule) (v : Value) → Row wire_table j r → wire_text_row ≤ j → TookRow j r v false
      → P (placing s h fs m (wire_block (with_once (set w.own j (Some v)) w)) 0)
  once-next j r v at le u =
      let t : Took (known_of s) r (get_or (rows_there w.own) j false) v n false = rw (full-once w j le) at u in
      (tt, omega (arith, slots-took at (known_of s) w.own v n false t))

  attribute-next : (j : ℕ) (r : Rule) (v : Value) → Row wire_table j r → is_element_row j ≡ false → TookRow j r v false → P (placing s h fs m (wire_block (with_attribute w j v)) 0)
  attribute-next zero r v at low u = clash refl low
  attribute-next (suc zero) r v at low u = clash refl low
  attribute-next (suc (suc zero)) r v at low u = group-next 2 0 r v at refl refl u
  attribute-next (suc (suc (suc zero))) r v at low u = group-next 3 1 r v at refl refl u
  attribute-next (suc (suc (suc (suc zero)))) r v at low u = group-next 4 2 r v at refl refl u
  attribute-next (suc (suc (suc (suc (suc i))))) r v at low u =
      let j = suc (suc (suc (suc (suc i)))) in
      subst (λ b. P (placing s h fs m (wire_block (cond b (with_groups (set w.groups (j - first_group_row) (group_at w j ++ nums_of v ∷ [])) w) (with_once (set w.own j (Some v)) w))) 0)) (sym (once-alone j (omega arith)))
      (once-next j r v at (omega arith) u)

  entry_next : (j : ℕ) (r : Rule) (v : Value) → Row wire_table j r → TookRow j r v false
      → On P (cond (is_element_row j) (on_element e l s h fs m w j (nums_of v)) (on_attribute s h fs m w j v))
  entry_next j r v at u =
      on-cond P (is_element_row j) _ _ (λ low. element-next j r v at low u)
      (λ low. on-unless P (nums_alike w j (nums_of v)) 11 _ λ _. on-unless P (new_number s fs j v) 15 _ λ _. attribute-next j r v at low u)

  -- ── its text opens, the wire closes ──
  text-opens : (j : ℕ) (r : Rule) (v : Value) → Row wire_table j r → TookRow j r v true
      → P (placing s h fs m (wire_block (with_texts w.texts (blank wire_text_table) w)) 1)
  text-opens j r v at u = (tt, omega (arith, head-took text_head at wire-heads (known_of s) _ v n u, blank-cost (known_of s) wire_text_table))

  wire-shuts : 1 ≤ n → P (figures s (in_layer h) (fs ++ wired m w ∷ []))
  wire-shuts one = (tt, omega (arith, figure-more K n s (in_layer h) fs (wired m w)))

  -- ── keys that the wire part does not know ──
  refused-next : (c : Rest) → On P (on_wire_act e l s h fs m w (act_unknown c))
  refused-next c = on-unknown P _ _ _ _ (known_of s) (known_of s) (digits 0 0) n c

  skips : (z : Skip) → On P (by_skip z (got (placing s h fs m (wire_block (past_elements w)) 0)) (skip_deeper 0 (skipping s h fs m (wire_block (past_elements w)) 1)))
  skips passes = (tt, omega arith)
  skips deeper = on-unless P (ltb 0 most_depth) 18 (got (skipping s h fs m (wire_block (past_elements w)) 1)) λ _. (tt, omega arith)
  skips no_form = tt

  unknown-next : (k : List ℕ) (c : Rest) → On P (on_wire_unknown e l s h fs m w k c)
  unknown-next k c = on-cond P (exceeds (wires_of s) e.class.wires) _ _ (λ _. skips (skip_of k c)) (λ _. refused-next c)

  key-next : (k : List ℕ) (c : Rest) → Told n (keyed k c) → (g : Found) → find k wire_table ≡ g → On P (on_wire_key e l s h fs m w k c g)
  key-next k c tells absent q = unknown-next k c
  key-next k c tells (found j r) q =
      let (at, i) = found-row k wire_table j r q in
      on-cond P (is_element_row j && w.past) _ _ (λ _. refused-next c)
      (λ _. on-cond P (reaches e.class.wires r.least) _ _
      (λ _. on_row P _ _ _ _ (known_of s) (known_of s) (wires_of s) n (get_or (wire_full w) j false) j r c
      (row-all (λ r. key_ok r.key) at (table-keys true 0 0).11) (λ v. refl) (subst (λ (x : List ℕ). Told n (keyed x c)) (same-eq k r.key i) tells)
      (tt, omega arith) (λ v. entry_next j r v at) (λ v u e. text-opens j r v at u) wire-shuts)
      (λ _. unknown-next k c))

  own-next : (f : Form) → Told n f → On P (on_wire_own e l s h fs m w f)
  own-next ignored tells = (tt, omega arith)
  own-next (wrong q) tells = tt
  own-next close tells = go (complete (both e.class.wires (wires_of s)) wire_table (rows_there w.own))
    where
      go : (b : Bool) → On P (on_wire_act e l s h fs m w (cond b shut (refuse 8)))
      go true = wire-shuts tells.0
      go false = tt
  own-next eof tells = tt
  own-next (keyed k c) tells = key-next k c tells (find k wire_table) refl

  -- ── in its text ──
  text-next : (p : ℕ) (f : Form) → Told n f → On (Next K (placing s h fs m (wire_block w) (suc p)) n) (on_wire_text s h fs m w (suc p) f)
  text-next p f tells =
      on-plain (known_of s) n (Next K (placing s h fs m (wire_block w) (suc p)) n) _ _ _ _ (known_of s) (digits 0 0) wire_text_table (rows_there w.writing) f (plain-tables true 4 12).6 tells
      (tt, omega arith)
      (λ j r v at u. (tt, omega (arith, slots-took at (known_of s) w.writing v n false u)))
      (λ j r v at u. tt)
      (λ one. (tt, omega (arith, total-more (text_cost (known_of s)) w.texts w.writing)))

  pub wire-next : (p : ℕ) (f : Form) → Told n f → On (Next K (placing s h fs m (wire_block w) p) n) (on_wire e l s h fs m w p f)
  wire-next zero f tells = own-next f tells
  wire-next (suc p) f tells = text-next p f tells
