-- The records of the lower class are those of the higher, with what the lower doesn't know marked unread, and without the lines and arcs of
-- wires that it skips.
use Rattle.std.specs.Prelude.{Option, Some, None}
use Prim.Native.Nat.{ℕ, zero, suc, ◌+◌, ◌<◌}
use mathlib.Core.Bool.{Bool, true, false, cond, ◌&&◌, ◌||◌, not}
use mathlib.Core.List.{List, [], ◌∷◌, ◌++◌, map, append-nil}
use mathlib.Core.Path.{◌≡◌, refl, sym, ◌∙◌, ap, ap₂}
use native.Mathlib.Omega.{arith}
use lib.Dec.{eqb, ltb}
use lib.IntN.{ℤ, pos, negsuc}
use lib.ListN.{set}
use lib.Seq.{sets}
use borrow.Author.Tests.{eqb-false, ne_eqb, ltb-true}
use Rattle.rules.specs.declared.Digits.{Digits}
use Rattle.rules.specs.declared.Class.{Class}
use Rattle.rules.specs.Base.{flat, has_number, all}
use Rattle.rules.specs.RangeClass.{digits, digits_of, hides, knows_wires}
use Rattle.rules.specs.Values.{Num, Value, nums}
use Rattle.rules.specs.Rows.{Rule, Slots, Held, part_of}
use Rattle.rules.specs.Blocks.{file_table, range_table, base_table, elec_table, sym_table, later_table, drawing_table, symbol_table}
use Rattle.rules.specs.Figures.{figure_table, point_table, text_table, placed_table, wire_table}
use Rattle.rules.specs.Sets.{Point, Edge, Wire, Figure, plain, chain, lettering, placed, wired, passed, Layer, Drawing, Symbol, LayerBlock, Contents, Set, head_or, range_of, wire_range}
use Rattle.rules.specs.RecordTable.{numbers_of, state_of, columns, first_or0, others, padded, put_numbers, put_state, put_slot, first_slot, other_slots, put_slots, start, file_records, drawing_record, layer_record, layer_records, rule_at, plain_record, point_records, chain_record, text_record, placed_record, line_record, figure_records, inner_records, symbol_records, block_records, body_records, later_records, records_from, records_of}
use Rattle.rules.specs.Sets.{layer_table_of}
use Rattle.rules.specs.RecordTable.{View, plain_view, two_of, wire_start, wire_values, edge_record, edge_records}
use Rattle.rules.proofs.Rows.{here, there, reaches-none}
use Rattle.rules.proofs.Chains.{and_left, and_right, by_cond, clash, map-append}
use Rattle.promises.specs.DemandThree.{NotAbove, ClassNotAbove, without_wires, attributes, instead, unread_each, is_of, placed_kinds, first_wire_kinds, second_wire_kinds, edge_kinds, unread_in, keeps, filter, lowered}
use Rattle.promises.proofs.Lower.{hides-up, known-shows, mask_slots, wiped, text_least, inner_part, lower_held, lower_read, ranges_of, lower_figure, lower_block, lower_contents, lower_set, part-own, part-inner, file-same}
use Rattle.promises.proofs.LowerWireRecords.{nth, nth_mask, state_of_lem, mask-three, wire-two, first-lower, second-lower, passed_two, over_first, over_second, passed-two, first-again, second-again}
use Rattle.promises.proofs.LowerKinds.{layer_rows, edge_rows, edge_row, wire_shape, layer_figure, symbol_figure, symbol_shapes, layer_figures, Rows}

-- ── slots that are left out ──
first-wiped : (s : Slots) → first_slot (wiped s) ≡ None
first-wiped [] = refl
first-wiped (o ∷ s) = refl

other-wiped : (s : Slots) → other_slots (wiped s) ≡ wiped (other_slots s)
other-wiped [] = refl
other-wiped (o ∷ s) = refl

nth-wiped : (n : ℕ) (s : Slots) → nth n (wiped s) ≡ None
nth-wiped zero s = first-wiped s
nth-wiped (suc n) s = ap (nth n) (other-wiped s) ∙ nth-wiped n (other_slots s)

nth-inner : (c d : Digits) (n : ℕ) (s : Slots) → nth n (inner_part c d s) ≡ cond (hides c d text_least) None (nth n s)
nth-inner c d n s = go (hides c d text_least)
  where
    go : (b : Bool) → nth n (cond b (wiped s) s) ≡ cond b None (nth n s)
    go true = nth-wiped n s
    go false = refl

-- ── one number of a record ──
-- a number that comes from a slot, and is 0 where there is none
number_of : (f : Option Value → ℤ) → f None ≡ pos 0 → (b : Bool) (o o' : Option Value) → o' ≡ cond b None o → f o' ≡ instead b (pos 0) (f o)
number_of f z true o o' e = ap f e ∙ z
number_of f z false o o' e = ap f e

-- ── a placed symbol's record ──
-- the numbers of a placed symbol from its eight slots and the five tests `unread`
abbrev sixteen : ℕ → ℕ → ℕ → ℕ → Bool → Bool → Bool → Bool → Bool → (a b e f g h x y : Option Value) → List ℤ
sixteen kind owner volume line b2 b3 b4 b5 bs a b e f g h x y =
    pos kind ∷ pos owner ∷ pos volume ∷ pos line ∷ pos 0
    ∷ first_or0 (numbers_of a) ∷ first_or0 (others (numbers_of a)) ∷ first_or0 (others (others (numbers_of a))) ∷ first_or0 (others (others (others (numbers_of a)))) ∷ first_or0 (others (others (others (others (numbers_of a)))))
    ∷ first_or0 (numbers_of e) ∷ first_or0 (numbers_of f)
    ∷ first_or0 (numbers_of g) ∷ first_or0 (others (numbers_of g))
    ∷ first_or0 (numbers_of h) ∷ first_or0 (others (numbers_of h))
    ∷ first_or0 (numbers_of x) ∷ first_or0 (others (numbers_of x)) ∷ first_or0 (others (others (numbers_of x))) ∷ first_or0 (others (others (others (numbers_of x))))
    ∷ first_or0 (others (others (others (others (numbers_of x))))) ∷ first_or0 (others (others (others (others (others (numbers_of x))))))
    ∷ first_or0 (others (others (others (others (others (others (numbers_of x))))))) ∷ first_or0 (others (others (others (others (others (others (others (numbers_of x))))))))
    ∷ first_or0 (numbers_of y) ∷ first_or0 (others (numbers_of y))
    ∷ cond b2 (pos 3) (state_of b) ∷ cond b3 (pos 3) (state_of e) ∷ cond b4 (pos 3) (state_of f) ∷ cond b5 (pos 3) (state_of g) ∷ cond bs (pos 3) (state_of h) ∷ pos 0 ∷ []

abbrev placed_as : Digits → Digits → ℕ → ℕ → ℕ → ℕ → Slots → Slots → List ℤ
placed_as c d kind owner volume line s t =
    sixteen kind owner volume line (hides c d (digits 0 2)) (hides c d (digits 0 3)) (hides c d (digits 0 4)) (hides c d (digits 0 5)) (hides c d (digits 1 0))
    (nth 0 s) (nth 1 s) (nth 2 s) (nth 3 s) (nth 4 s) (nth 5 s) (nth 0 t) (nth 1 t)

-- a placed symbol's record is those numbers, by computation
placed_as_lem : (w : View) (more owner volume line : ℕ) (h : Held) → placed_record w more owner volume line h ≡ placed_as w.class.symbols w.symbols (16 + more) owner volume line (part_of h 0) (part_of h 1)
unfolding placed_table text_table
placed_as_lem w more owner volume line h = refl

-- ── the kind of a record: its first number, which no row changes ──
-- one of those that the lower class changes or leaves out
abbrev special : ℤ → Bool
special (pos k) = has_number k (16 ∷ 18 ∷ 19 ∷ 20 ∷ 21 ∷ [])
special (negsuc k) = false

low-kind : (k : ℕ) → k < 18 → eqb k 16 ≡ false → special (pos k) ≡ false
low-kind k h e =
    rw (e, ne_eqb k 18 (λ z. omega (arith, h, z)), ne_eqb k 19 (λ z. omega (arith, h, z)), ne_eqb k 20 (λ z. omega (arith, h, z)), ne_eqb k 21 (λ z. omega (arith, h, z)))

high-kind : (k : ℕ) → 21 < k → special (pos k) ≡ false
high-kind k h =
    rw (ne_eqb k 16 (λ z. omega (arith, h, z)), ne_eqb k 18 (λ z. omega (arith, h, z)), ne_eqb k 19 (λ z. omega (arith, h, z)), ne_eqb k 20 (λ z. omega (arith, h, z)), ne_eqb k 21 (λ z. omega (arith, h, z)))

pub record Plain (r : List ℤ) : Type 0 where
  pub no_symbol : is_of placed_kinds r ≡ false
  pub no_first : is_of first_wire_kinds r ≡ false
  pub no_second : is_of second_wire_kinds r ≡ false
  pub no_edge : is_of edge_kinds r ≡ false

plain_record_lem : (r : List ℤ) → special (first_or0 r) ≡ false → Plain r
plain_record_lem [] e = record { no_symbol = refl; no_first = refl; no_second = refl; no_edge = refl }
plain_record_lem (negsuc k ∷ r) e = record { no_symbol = refl; no_first = refl; no_second = refl; no_edge = refl }
plain_record_lem (pos k ∷ r) e = go (eqb k 16) refl (eqb k 18) refl (eqb k 19) refl (eqb k 20) refl (eqb k 21) refl e
  where
    go : (a : Bool) → eqb k 16 ≡ a → (b : Bool) → eqb k 18 ≡ b → (c : Bool) → eqb k 19 ≡ c → (d : Bool) → eqb k 20 ≡ d → (f : Bool) → eqb k 21 ≡ f
        → (a || (b || (c || (d || (f || false))))) ≡ false → Plain (pos k ∷ r)
    go true x b y c z d u f v e = clash refl e
    go false x true y c z d u f v e = clash refl e
    go false x false y true z d u f v e = clash refl e
    go false x false y false z true u f v e = clash refl e
    go false x false y false z false u true v e = clash refl e
    go false x false y false z false u false v e = record { no_symbol = rw x; no_first = rw y; no_second = rw z; no_edge = rw (u, v) }

first-set : (r : List ℤ) (i : ℕ) (z : ℤ) → first_or0 (set r (suc i) z) ≡ first_or0 r
first-set [] i z = refl
first-set (a ∷ r) i z = refl

first_sets : (r : List ℤ) (i : ℕ) (zs : List ℤ) → first_or0 (sets r (suc i) zs) ≡ first_or0 r
first_sets r i [] = refl
first_sets r i (z ∷ zs) = first_sets (set r (suc i) z) (suc i) zs ∙ first-set r i z

first-numbers : (p : ℕ) (zs r : List ℤ) → first_or0 (put_numbers p zs r) ≡ first_or0 r
first-numbers zero zs r = refl
first-numbers (suc p) zs r = first_sets r p zs

first-state : (q : ℕ) (z : ℤ) (r : List ℤ) → first_or0 (put_state q z r) ≡ first_or0 r
first-state zero z r = refl
first-state (suc q) z r = first-set r q z

first-slot : (r : Rule) (o : Option Value) (t : List ℤ) → first_or0 (put_slot r o t) ≡ first_or0 t
first-slot r o t = first-state r.state (state_of o) (put_numbers r.place (padded (columns r.holds) (numbers_of o)) t) ∙ first-numbers r.place (padded (columns r.holds) (numbers_of o)) t

first-slots : (rs : List Rule) (s : Slots) (t : List ℤ) → first_or0 (put_slots rs s t) ≡ first_or0 t
first-slots [] s t = refl
first-slots (r ∷ rs) s t = first-slot r (first_slot s) (put_slots rs (other_slots s) t) ∙ first-slots rs (other_slots s) t

module _ (low high : Digits) (le : NotAbove low high) (d : Digits) where
  -- the line of `E_symbol=` alone has no attribute to leave out
  first_alone : (v : Value) → lower_held low d ((Some v ∷ []) ∷ []) ≡ (Some v ∷ []) ∷ []
  unfolding placed_table
  first_alone v = rw (known-shows low d (digits 0 0) (reaches-none low))

  up : (l : Digits) → hides low d l ≡ false → hides high d l ≡ false
  up l e = hides-up low high le d l e

  -- its slots as the lower class has them
  abbrev Masked : Slots → Slots → Slots → Slots → Type 0
  Masked s s' t t' =
      (nth 0 s' ≡ nth 0 s) × (nth 1 s' ≡ cond (hides low d (digits 0 2)) None (nth 1 s)) × (nth 2 s' ≡ cond (hides low d (digits 0 3)) None (nth 2 s))
      × (nth 3 s' ≡ cond (hides low d (digits 0 4)) None (nth 3 s)) × (nth 4 s' ≡ cond (hides low d (digits 0 5)) None (nth 4 s)) × (nth 5 s' ≡ cond (hides low d (digits 1 0)) None (nth 5 s))
      × (nth 0 t' ≡ cond (hides low d (digits 0 2)) None (nth 0 t)) × (nth 1 t' ≡ cond (hides low d (digits 0 2)) None (nth 1 t))

  -- a number of a text or of an attribute, after so many others
  as-lower : (o o' : Option Value) (b : Bool) → o' ≡ cond b None o → (f : List ℤ → ℤ) → f [] ≡ pos 0 → f (numbers_of o') ≡ instead b (pos 0) (f (numbers_of o))
  as-lower o o' b e f z = number_of (λ o. f (numbers_of o)) z b o o' e

  sixteen-lower : (owner volume line : ℕ) (s s' t t' : Slots) → Masked s s' t t'
      → placed_as low d 16 owner volume line s' t' ≡ unread_each low d attributes (placed_as high d 16 owner volume line s t)
  sixteen-lower owner volume line s s' t t' (a, b, e, f, g, h, x, y) = λ i.
      pos 16 ∷ pos owner ∷ pos volume ∷ pos line ∷ pos 0
      ∷ first_or0 (numbers_of (a i)) ∷ first_or0 (others (numbers_of (a i))) ∷ first_or0 (others (others (numbers_of (a i)))) ∷ first_or0 (others (others (others (numbers_of (a i))))) ∷ first_or0 (others (others (others (others (numbers_of (a i))))))
      ∷ as-lower (nth 2 s) (nth 2 s') (hides low d (digits 0 3)) e first_or0 refl i ∷ as-lower (nth 3 s) (nth 3 s') (hides low d (digits 0 4)) f first_or0 refl i
      ∷ as-lower (nth 4 s) (nth 4 s') (hides low d (digits 0 5)) g first_or0 refl i ∷ as-lower (nth 4 s) (nth 4 s') (hides low d (digits 0 5)) g (λ z. first_or0 (others z)) refl i
      ∷ as-lower (nth 5 s) (nth 5 s') (hides low d (digits 1 0)) h first_or0 refl i ∷ as-lower (nth 5 s) (nth 5 s') (hides low d (digits 1 0)) h (λ z. first_or0 (others z)) refl i
      ∷ as-lower (nth 0 t) (nth 0 t') (hides low d (digits 0 2)) x first_or0 refl i ∷ as-lower (nth 0 t) (nth 0 t') (hides low d (digits 0 2)) x (λ z. first_or0 (others z)) refl i ∷ as-lower (nth 0 t) (nth 0 t') (hides low d (digits 0 2)) x (λ z. first_or0 (others (others z))) refl i ∷ as-lower (nth 0 t) (nth 0 t') (hides low d (digits 0 2)) x (λ z. first_or0 (others (others (others z)))) refl i
      ∷ as-lower (nth 0 t) (nth 0 t') (hides low d (digits 0 2)) x (λ z. first_or0 (others (others (others (others z))))) refl i ∷ as-lower (nth 0 t) (nth 0 t') (hides low d (digits 0 2)) x (λ z. first_or0 (others (others (others (others (others z)))))) refl i
      ∷ as-lower (nth 0 t) (nth 0 t') (hides low d (digits 0 2)) x (λ z. first_or0 (others (others (others (others (others (others z))))))) refl i ∷ as-lower (nth 0 t) (nth 0 t') (hides low d (digits 0 2)) x (λ z. first_or0 (others (others (others (others (others (others (others z)))))))) refl i
      ∷ as-lower (nth 1 t) (nth 1 t') (hides low d (digits 0 2)) y first_or0 refl i ∷ as-lower (nth 1 t) (nth 1 t') (hides low d (digits 0 2)) y (λ z. first_or0 (others z)) refl i
      ∷ state_of_lem state_of None (hides low d (digits 0 2)) (hides high d (digits 0 2)) (up (digits 0 2)) (nth 1 s) (nth 1 s') b i ∷ state_of_lem state_of None (hides low d (digits 0 3)) (hides high d (digits 0 3)) (up (digits 0 3)) (nth 2 s) (nth 2 s') e i ∷ state_of_lem state_of None (hides low d (digits 0 4)) (hides high d (digits 0 4)) (up (digits 0 4)) (nth 3 s) (nth 3 s') f i ∷ state_of_lem state_of None (hides low d (digits 0 5)) (hides high d (digits 0 5)) (up (digits 0 5)) (nth 4 s) (nth 4 s') g i ∷ state_of_lem state_of None (hides low d (digits 1 0)) (hides high d (digits 1 0)) (up (digits 1 0)) (nth 5 s) (nth 5 s') h i ∷ pos 0 ∷ []

  own_masked : (s : Slots) → (nth 0 (mask_slots low d placed_table s) ≡ nth 0 s) × (nth 1 (mask_slots low d placed_table s) ≡ cond (hides low d (digits 0 2)) None (nth 1 s))
      × (nth 2 (mask_slots low d placed_table s) ≡ cond (hides low d (digits 0 3)) None (nth 2 s)) × (nth 3 (mask_slots low d placed_table s) ≡ cond (hides low d (digits 0 4)) None (nth 3 s))
      × (nth 4 (mask_slots low d placed_table s) ≡ cond (hides low d (digits 0 5)) None (nth 4 s)) × (nth 5 (mask_slots low d placed_table s) ≡ cond (hides low d (digits 1 0)) None (nth 5 s))
  unfolding placed_table
  own_masked s = (
    nth_mask low d {t = placed_table} here s ∙ rw (known-shows low d (digits 0 0) (reaches-none low)),
    nth_mask low d {t = placed_table} (there here) s,
    nth_mask low d {t = placed_table} (there (there here)) s,
    nth_mask low d {t = placed_table} (there (there (there here))) s,
    nth_mask low d {t = placed_table} (there (there (there (there here)))) s,
    nth_mask low d {t = placed_table} (there (there (there (there (there here))))) s,
  )

-- a class is without wires where it doesn't know them
abbrev pub Agree : Class → Type 0
Agree c = without_wires c ≡ not (knows_wires c)

module _ (low high : Class) (le : ClassNotAbove low high) (agree : Agree low) (d : Digits) (range : ℕ) where
  has-wires : knows_wires low ≡ true → without_wires low ≡ false
  has-wires k = agree ∙ ap not k

  no-wires : knows_wires low ≡ false → without_wires low ≡ true
  no-wires k = agree ∙ ap not k

  abbrev view : Class → List Rule → View
  view c t = record { class = c; symbols = d; wires = range; table = t }

  -- the file's ranges
  abbrev ds : Class
  ds = record { symbols = d; wires = digits_of range }

  abbrev u : List ℤ → List ℤ
  u = unread_in low d (digits_of range)

  placed-lower : (t : List Rule) (owner volume line : ℕ) (h : Held) → placed_record (view low t) 0 owner volume line (lower_held low.symbols d h) ≡ u (placed_record (view high t) 0 owner volume line h)
  placed-lower t owner volume line h =
      let w = own_masked low.symbols high.symbols le.symbols d (part_of h 0) in
      placed_as_lem (view low t) 0 owner volume line (lower_held low.symbols d h)
      ∙ ap₂ (placed_as low.symbols d 16 owner volume line) (part-own low.symbols d h) (part-inner low.symbols d h 0)
      ∙ sixteen-lower low.symbols high.symbols le.symbols d owner volume line (part_of h 0) (mask_slots low.symbols d placed_table (part_of h 0)) (part_of h 1) (inner_part low.symbols d (part_of h 1))
      (w.0, w.1, w.2, w.3, w.4, w.5, nth-inner low.symbols d 0 (part_of h 1), nth-inner low.symbols d 1 (part_of h 1))
      ∙ ap u (sym (placed_as_lem (view high t) 0 owner volume line h))

  -- ── lists of records ──
  abbrev down : List (List ℤ) → List (List ℤ)
  down rs = map u (filter (keeps low) rs)

  filter-append : (a b : List (List ℤ)) → filter (keeps low) (a ++ b) ≡ filter (keeps low) a ++ filter (keeps low) b
  filter-append [] b = refl
  filter-append (r ∷ a) b = go (keeps low r) (filter-append a b)
    where
      go : (t : Bool) → filter (keeps low) (a ++ b) ≡ filter (keeps low) a ++ filter (keeps low) b
          → cond t (r ∷ filter (keeps low) (a ++ b)) (filter (keeps low) (a ++ b)) ≡ cond t (r ∷ filter (keeps low) a) (filter (keeps low) a) ++ filter (keeps low) b
      go true e = ap (λ z. r ∷ z) e
      go false e = e

  down-append : (a b : List (List ℤ)) → down (a ++ b) ≡ down a ++ down b
  down-append a b = ap (map u) (filter-append a b) ∙ map-append u (filter (keeps low) a) (filter (keeps low) b)

  abbrev Same : List (List ℤ) → Type 0
  Same rs = down rs ≡ rs

  -- a record that stays, as it is or changed
  stays : (r : List ℤ) (rs : List (List ℤ)) → keeps low r ≡ true → down (r ∷ rs) ≡ u r ∷ down rs
  stays r rs e = ap (λ b. map u (cond b (r ∷ filter (keeps low) rs) (filter (keeps low) rs))) e

  cons_same : (r : List ℤ) (rs : List (List ℤ)) → special (first_or0 r) ≡ false → Same rs → Same (r ∷ rs)
  cons_same r rs e h =
      let w = plain_record_lem r e in
      stays r rs (rw w.no_edge) ∙ ap₂ (λ a b. a ∷ b) (rw (w.no_symbol, w.no_first, w.no_second)) h

  append-same : (a b : List (List ℤ)) → Same a → Same b → Same (a ++ b)
  append-same a b p q = down-append a b ∙ ap₂ (λ x y. x ++ y) p q

  slots_same : (t : List Rule) (s : Slots) (r : List ℤ) → special (first_or0 r) ≡ false → special (first_or0 (put_slots t s r)) ≡ false
  slots_same t s r e = rw (first-slots t s r) e

  points-same : (kind owner volume : ℕ) → special (pos kind) ≡ false → (ps : List Point) → Same (point_records kind owner volume ps)
  points-same kind owner volume e [] = refl
  points-same kind owner volume e (p ∷ ps) =
      cons_same (put_slot (rule_at (point_table true) 0) (Some (nums p.values)) (start kind owner volume p.line)) (point_records kind owner volume ps)
      (rw (first-slot (rule_at (point_table true) 0) (Some (nums p.values)) (start kind owner volume p.line)) e) (points-same kind owner volume e ps)

  -- ── figures in layers ──
  placed-down : (t : List Rule) (owner volume line : ℕ) (h : Held) → placed_record (view low t) 0 owner volume line (lower_held low.symbols d h) ∷ [] ≡ down (placed_record (view high t) 0 owner volume line h ∷ [])
  placed-down t owner volume line h =
      ap (λ r. r ∷ []) (placed-lower t owner volume line h)
      ∙ sym (stays (placed_record (view high t) 0 owner volume line h) [] (ap (keeps low) (placed_as_lem (view high t) 0 owner volume line h)))

  line-lower : (t : List Rule) (owner volume n j : ℕ) (v : List Num) → ltb j layer_rows ≡ true → line_record (view low t) 0 owner volume n j v ∷ [] ≡ down (line_record (view high t) 0 owner volume n j v ∷ [])
  line-lower t owner volume n j v below = go (eqb j 6) refl
    where
      alone : Held
      alone = (Some (nums v) ∷ []) ∷ []

      kept : lower_held low.symbols d alone ≡ alone
      kept = first_alone low.symbols high.symbols le.symbols d (nums v)

      go : (b : Bool) → eqb j 6 ≡ b → cond b (placed_record (view low t) 0 owner volume n alone) (plain_record (view low t) 0 owner volume n j v) ∷ []
          ≡ down (cond b (placed_record (view high t) 0 owner volume n alone) (plain_record (view high t) 0 owner volume n j v) ∷ [])
      go true e = ap (λ h. placed_record (view low t) 0 owner volume n h ∷ []) (sym kept) ∙ placed-down t owner volume n alone
      go false e =
          sym (cons_same (plain_record (view high t) 0 owner volume n j v) []
          (rw (first-slot (rule_at t j) (Some (nums v)) (start (10 + 0 + j) owner volume n))
          (low-kind (10 + 0 + j) (let h = ltb-true j layer_rows below in omega (arith, h)) (ne_eqb (10 + 0 + j) 16 (λ z. eqb-false j 6 e (omega arith))))) refl)

  -- ── wires ──
  edge-first : (owner volume : ℕ) (e : Edge) → first_or0 (edge_record owner volume e) ≡ pos (20 + e.row)
  edge-first owner volume e =
      first-set (put_slot (rule_at wire_table e.row) (Some (nums e.values)) (start (20 + e.row) owner volume e.line)) 10 (pos e.join)
      ∙ first-slot (rule_at wire_table e.row) (Some (nums e.values)) (start (20 + e.row) owner volume e.line)

  -- a class that knows wires has all their records
  edges-same : knows_wires low ≡ true → (owner volume : ℕ) (es : List Edge) → Same (edge_records owner volume es)
  edges-same k owner volume [] = refl
  edges-same k owner volume (e ∷ es) =
      stays (edge_record owner volume e) (edge_records owner volume es) (kept (is_of edge_kinds (edge_record owner volume e)))
      ∙ ap₂ (λ a b. a ∷ b) (as_it-is (edge_record owner volume e) (edge-first owner volume e)) (edges-same k owner volume es)
    where
      kept : (b : Bool) → not (b && without_wires low) ≡ true
      kept true = ap not (has-wires k)
      kept false = refl

      as_it-is : (r : List ℤ) → first_or0 r ≡ pos (20 + e.row) → u r ≡ r
      as_it-is [] q = refl
      as_it-is (negsuc m ∷ r) q = refl
      as_it-is (pos m ∷ r) q =
          let h : m ≡ 20 + e.row = cc in
          rw (ne_eqb m 16 (λ z. omega (arith, h, z)), ne_eqb m 18 (λ z. omega (arith, h, z)), ne_eqb m 19 (λ z. omega (arith, h, z)))

  -- another has none of their lines and arcs
  edges-gone : knows_wires low ≡ false → (owner volume : ℕ) (es : List Edge) → all edge_row es ≡ true → down (edge_records owner volume es) ≡ []
  edges-gone k owner volume [] w = refl
  edges-gone k owner volume (e ∷ es) w =
      ap (λ b. map u (cond (not (b && without_wires low)) (edge_record owner volume e ∷ filter (keeps low) (edge_records owner volume es)) (filter (keeps low) (edge_records owner volume es))))
      (is-edge (edge_record owner volume e) (edge-first owner volume e))
      ∙ rw (no-wires k) (edges-gone k owner volume es (and_right (edge_row e) _ w))
    where
      is-edge : (r : List ℤ) → first_or0 r ≡ pos (20 + e.row) → is_of edge_kinds r ≡ true
      is-edge [] q = absurd (let h : 0 ≡ 20 + e.row = cc in omega (arith, h))
      is-edge (negsuc m ∷ r) q = absurd (let h : ◌≡◌ {A = ℕ} 0 1 = cc in omega arith)
      is-edge (pos m ∷ r) q =
          let h : m ≡ 20 + e.row = cc in
          go (eqb m 20) refl (eqb m 21) refl h (ltb-true e.row edge_rows (and_left (edge_row e) _ w))
        where
          none_else : (m r : ℕ) → m ≡ 20 + r → r < 2 → (m ≡ 20 → ⊥) → (m ≡ 21 → ⊥) → ⊥
          none_else m zero h z i j = i (omega (arith, h))
          none_else m (suc zero) h z i j = j (omega (arith, h))
          none_else m (suc (suc r)) h z i j = omega (arith, z)

          go : (a : Bool) → eqb m 20 ≡ a → (b : Bool) → eqb m 21 ≡ b → m ≡ 20 + e.row → e.row < 2 → (eqb m 20 || (eqb m 21 || false)) ≡ true
          go true x b y h z = rw x
          go false x true y h z = rw (x, y)
          go false x false y h z = absurd (none_else m e.row h z (eqb-false m 20 x) (eqb-false m 21 y))

  -- its two records, read by both, or skipped by the lower
  two-lower : knows_wires low ≡ true → (t : List Rule) (owner volume n : ℕ) (w : Wire) → wire_shape w ≡ true
      → two_of (wire_values (view low t) (lower_read low.wires (digits_of range) w) (wire_start owner volume n)) ≡ down (two_of (wire_values (view high t) w (wire_start owner volume n)))
  two-lower k t owner volume n w shape =
      wire-two (view low t) owner volume n (lower_read low.wires (digits_of range) w) (mask-three low.wires (digits_of range) w.groups (and_right (all edge_row w.elements) _ shape))
      ∙ ap₂ (λ a b. a ∷ b ∷ []) (first-lower low.wires high.wires le.wires (digits_of range) owner volume n range w) (second-lower low.wires high.wires le.wires (digits_of range) owner volume n w)
      ∙ sym (ap down (wire-two (view high t) owner volume n w (and_right (all edge_row w.elements) _ shape)) ∙ rw (has-wires k))

  two-over : knows_wires low ≡ false → (t : List Rule) (owner volume n : ℕ) (w : Wire) → wire_shape w ≡ true
      → passed_two (digits_of range) owner volume n ≡ down (two_of (wire_values (view high t) w (wire_start owner volume n)))
  two-over k t owner volume n w shape =
      passed-two (digits_of range) owner volume n
      ∙ sym (ap down (wire-two (view high t) owner volume n w (and_right (all edge_row w.elements) _ shape)) ∙ rw (no-wires k))

  wire-lower : (owner volume n : ℕ) (w : Wire) (t : List Rule) → wire_shape w ≡ true
      → figure_records (view low t) 0 owner volume (lower_figure low ds (wired n w)) ≡ down (figure_records (view high t) 0 owner volume (wired n w))
  wire-lower owner volume n w t shape = go (knows_wires low) refl
    where
      above : List (List ℤ)
      above = two_of (wire_values (view high t) w (wire_start owner volume n))

      go : (b : Bool) → knows_wires low ≡ b → figure_records (view low t) 0 owner volume (cond b (wired n (lower_read low.wires (digits_of range) w)) (passed n)) ≡ down (above ++ edge_records owner volume w.elements)
      go true k =
          ap₂ (λ x y. x ++ y) (two-lower k t owner volume n w shape) (sym (edges-same k owner volume w.elements))
          ∙ sym (down-append above (edge_records owner volume w.elements))
      go false k =
          two-over k t owner volume n w shape ∙ sym (append-nil (down above)) ∙ ap (λ y. down above ++ y) (sym (edges-gone k owner volume w.elements (and_left (all edge_row w.elements) _ shape)))
          ∙ sym (down-append above (edge_records owner volume w.elements))

  passed-lower : (owner volume n : ℕ) → Same (passed_two (digits_of range) owner volume n)
  passed-lower owner volume n = ap down (passed-two (digits_of range) owner volume n) ∙ go (knows_wires low) refl ∙ sym (passed-two (digits_of range) owner volume n)
    where
      go : (b : Bool) → knows_wires low ≡ b → Same (over_first (digits_of range) owner volume n ∷ over_second (digits_of range) owner volume n ∷ [])
      go true k = rw (has-wires k) (ap₂ (λ a b. a ∷ b ∷ []) (first-again (digits_of range) owner volume n low.wires) (second-again (digits_of range) owner volume n low.wires))
      go false k = rw (no-wires k)

  figure-lower : (t : List Rule) (owner volume : ℕ) (f : Figure) → layer_figure f ≡ true → figure_records (view low t) 0 owner volume (lower_figure low ds f) ≡ down (figure_records (view high t) 0 owner volume f)
  figure-lower t owner volume (plain n j v) w = line-lower t owner volume n j v w
  figure-lower t owner volume (chain n ps) w = sym (cons_same (chain_record 0 owner volume n ps) (point_records 17 owner volume ps) refl (points-same 17 owner volume refl ps))
  figure-lower t owner volume (lettering n s) w = sym (cons_same (text_record 0 owner volume n s) [] (slots_same (text_table true 4 12) s (start 15 owner volume n) refl) refl)
  figure-lower t owner volume (placed n h) w = placed-down t owner volume n h
  figure-lower t owner volume (wired n x) w = wire-lower owner volume n x t w
  figure-lower t owner volume (passed n) w = sym (passed-lower owner volume n)

  -- lists of them
  flat-lower : {A : Type 0} (f g : A → List (List ℤ)) (low' : A → A) (p : A → Bool) → ((a : A) → p a ≡ true → f (low' a) ≡ down (g a)) → (s : List A) → all p s ≡ true → flat (map f (map low' s)) ≡ down (flat (map g s))
  flat-lower f g low' p h [] e = refl
  flat-lower f g low' p h (a ∷ s) e = ap₂ (λ x y. x ++ y) (h a (and_left (p a) _ e)) (flat-lower f g low' p h s (and_right (p a) _ e)) ∙ sym (down-append (g a) (flat (map g s)))

  block-lower : (t : List Rule) (k : ℕ) (b : LayerBlock) → all layer_figure b.figures ≡ true → block_records (view low t) k (lower_block low ds b) ≡ down (block_records (view high t) k b)
  block-lower t k b w = flat-lower (figure_records (view low t) 0 b.layer k) (figure_records (view high t) 0 b.layer k) (lower_figure low ds) layer_figure (figure-lower t b.layer k) b.figures w

  body-lower : (t : List Rule) (k : ℕ) (v : Contents) → layer_figures v ≡ true → body_records (view low t) k (lower_contents low ds v) ≡ down (body_records (view high t) k v)
  body-lower t k v w = flat-lower (block_records (view low t) k) (block_records (view high t) k) (lower_block low ds) (λ b. all layer_figure b.figures) (block-lower t k) v.blocks w

  -- ── the rest ──
  file-records : (b : Bool) (k : ℕ) (v : Contents) → Same (file_records b k v)
  unfolding file_table range_table base_table elec_table sym_table later_table
  file-records true k v = refl
  file-records false k v = refl

  later-lower : (t : List Rule) (k : ℕ) (vs : List Contents) → all layer_figures vs ≡ true → later_records (view low t) k (map (lower_contents low ds) vs) ≡ down (later_records (view high t) k vs)
  later-lower t k [] w = refl
  later-lower t k (v ∷ vs) w =
      ap₂ (λ x y. x ++ y) (ap₂ (λ x y. x ++ y) (sym (file-records false k v)) (body-lower t k v (and_left (layer_figures v) _ w))) (later-lower t (suc k) vs (and_right (layer_figures v) _ w))
      ∙ sym (down-append (file_records false k v ++ body_records (view high t) k v) (later_records (view high t) (suc k) vs) ∙ ap (λ x. x ++ down (later_records (view high t) (suc k) vs)) (down-append (file_records false k v) (body_records (view high t) k v)))

  layers-same : (n : ℕ) (ls : List Layer) → Same (layer_records n ls)
  layers-same n [] = refl
  layers-same n (l ∷ ls) = cons_same (layer_record n l) (layer_records (suc n) ls) refl (layers-same (suc n) ls)

  shapes-same : (n : ℕ) (fs : List Figure) → all symbol_figure fs ≡ true → Same (flat (map (figure_records plain_view 20 n 1) fs))
  shapes-same n [] w = refl
  shapes-same n (f ∷ fs) w =
      append-same (figure_records plain_view 20 n 1 f) (flat (map (figure_records plain_view 20 n 1) fs)) (one f (and_left (symbol_figure f) _ w)) (shapes-same n fs (and_right (symbol_figure f) _ w))
    where
      line_same : (m j : ℕ) (v : List Num) → special (first_or0 (line_record plain_view 20 n 1 m j v)) ≡ false
      line_same m j v =
          by_cond (λ r. special (first_or0 r) ≡ false) (eqb j 6)
          (λ _. ap (λ r. special (first_or0 r)) (placed_as_lem plain_view 20 n 1 m ((Some (nums v) ∷ []) ∷ [])))
          (λ _. rw (first-slot (rule_at figure_table j) (Some (nums v)) (start (10 + 20 + j) n 1 m)) (high-kind (10 + 20 + j) (omega arith)))

      one : (f : Figure) → symbol_figure f ≡ true → Same (figure_records plain_view 20 n 1 f)
      one (plain m j v) w = cons_same (line_record plain_view 20 n 1 m j v) [] (line_same m j v) refl
      one (chain m ps) w = cons_same (chain_record 20 n 1 m ps) (point_records 37 n 1 ps) refl (points-same 37 n 1 refl ps)
      one (lettering m s) w = cons_same (text_record 20 n 1 m s) [] (slots_same (text_table true 4 12) s (start 35 n 1 m) refl) refl
      one (placed m h) w = cons_same (placed_record plain_view 20 n 1 m h) [] (ap (λ r. special (first_or0 r)) (placed_as_lem plain_view 20 n 1 m h)) refl
      one (wired m x) w = clash w refl
      one (passed m) w = clash w refl

  inner-same : (n : ℕ) (y : Symbol) → symbol_shapes y ≡ true → Same (inner_records n y)
  inner-same n y w = go y.hide_first
    where
      shown : List (List ℤ)
      shown = flat (map (figure_records plain_view 20 n 1) y.figures)

      hidden : List (List ℤ)
      hidden = point_records 43 n 1 y.hidden

      go : (b : Bool) → Same (cond b (hidden ++ shown) (shown ++ hidden))
      go true = append-same hidden shown (points-same 43 n 1 refl y.hidden) (shapes-same n y.figures w)
      go false = append-same shown hidden (shapes-same n y.figures w) (points-same 43 n 1 refl y.hidden)

  symbols-same : (n : ℕ) (ys : List Symbol) → all symbol_shapes ys ≡ true → Same (symbol_records n ys)
  symbols-same n [] w = refl
  symbols-same n (y ∷ ys) w =
      append-same (put_slots symbol_table y.own (start 4 n 1 y.line) ∷ inner_records n y) (symbol_records (suc n) ys)
      (cons_same (put_slots symbol_table y.own (start 4 n 1 y.line)) (inner_records n y) (slots_same symbol_table y.own (start 4 n 1 y.line) refl) (inner-same n y (and_left (symbol_shapes y) _ w)))
      (symbols-same (suc n) ys (and_right (symbol_shapes y) _ w))

  head-same : (dr : Drawing) → Same (drawing_record dr ∷ layer_records 0 dr.layers)
  head-same dr = cons_same (drawing_record dr) (layer_records 0 dr.layers) (slots_same drawing_table dr.own (start 3 0 1 dr.line) refl) (layers-same 0 dr.layers)

  -- a set whose figures of layers are those of another at the lower class, and all else the same
  pub record Beneath (s s' : Set) : Type 0 where
    pub drawings : s'.drawing ≡ s.drawing
    pub defined : s'.symbols ≡ s.symbols
    pub symbols_below : range_of s' ≡ d
    pub symbols_above : range_of s ≡ d
    pub wires_below : wire_range s' ≡ range
    pub wires_above : wire_range s ≡ range
    pub tables : layer_table_of s' ≡ layer_table_of s

  from-lower : (s s' : Set) → Beneath s s' → all symbol_shapes s.symbols ≡ true → (vs : List Contents) → all layer_figures vs ≡ true
      → records_from low s' (map (lower_contents low ds) vs) ≡ down (records_from high s vs)
  from-lower s s' b shapes [] w = refl
  from-lower s s' b shapes (v ∷ vs) w =
      (λ i. from (b.drawings i) (b.defined i) (record { class = low; symbols = b.symbols_below i; wires = b.wires_below i; table = b.tables i }) (lower_contents low ds v) (map (lower_contents low ds) vs))
      ∙ apart (layer_table_of s)
      ∙ (λ i. down (from s.drawing s.symbols (record { class = high; symbols = sym b.symbols_above i; wires = sym b.wires_above i; table = layer_table_of s }) v vs))
    where
      from : Drawing → List Symbol → View → Contents → List Contents → List (List ℤ)
      from dr ys w v vs = file_records true 1 v ++ (drawing_record dr ∷ layer_records 0 dr.layers) ++ symbol_records 0 ys ++ body_records w 1 v ++ later_records w 2 vs

      head : List (List ℤ)
      head = file_records true 1 v ++ (drawing_record s.drawing ∷ layer_records 0 s.drawing.layers) ++ symbol_records 0 s.symbols

      head-kept : Same head
      head-kept =
          append-same (file_records true 1 v ++ (drawing_record s.drawing ∷ layer_records 0 s.drawing.layers)) (symbol_records 0 s.symbols)
          (append-same (file_records true 1 v) (drawing_record s.drawing ∷ layer_records 0 s.drawing.layers) (file-records true 1 v) (head-same s.drawing)) (symbols-same 0 s.symbols shapes)

      apart : (t : List Rule) → head ++ body_records (view low t) 1 (lower_contents low ds v) ++ later_records (view low t) 2 (map (lower_contents low ds) vs)
          ≡ down (head ++ body_records (view high t) 1 v ++ later_records (view high t) 2 vs)
      apart t =
          ap₂ (λ x y. x ++ y) (ap₂ (λ x y. x ++ y) (sym head-kept) (body-lower t 1 v (and_left (layer_figures v) _ w))) (later-lower t 2 vs (and_right (layer_figures v) _ w))
          ∙ ap (λ x. x ++ down (later_records (view high t) 2 vs)) (sym (down-append head (body_records (view high t) 1 v)))
          ∙ sym (down-append (head ++ body_records (view high t) 1 v) (later_records (view high t) 2 vs))

-- the records of a set, at the two classes
pub records-lower : (low high : Class) → ClassNotAbove low high → Agree low → (took : ℕ) (s : Set) → Rows s → records_of low (lower_set took low s) ≡ lowered low s (records_of high s)
unfolding records_of
records-lower low high le agree took s rows =
    from-lower low high le agree (range_of s) (wire_range s) s (lower_set took low s) beneath rows.0 s.volumes rows.1
  where
    first : (head_or (lower_set took low s).now (lower_set took low s).volumes).file ≡ (head_or s.now s.volumes).file
    first = file-same low (ranges_of s) s.now s.volumes

    beneath : Beneath low high le agree (range_of s) (wire_range s) s (lower_set took low s)
    beneath = record { drawings = refl; defined = refl; symbols_below = simp first; symbols_above = refl; wires_below = simp first; wires_above = refl; tables = simp first }
