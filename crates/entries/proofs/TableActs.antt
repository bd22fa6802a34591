-- The rows of a table: which are required, and what a line of one does.
use Rattle.std.specs.Prelude.{cond, Option, Some, None, map}
use Rattle.std.specs.List.{list_all, zip}
use Prim.Native.Nat.{ℕ, ◌+◌, ◌≤◌}
use mathlib.Core.Path.{◌≡◌, refl, ap, sym, subst, ◌∙◌}
use mathlib.Core.Bool.{Bool, true, false, ◌&&◌, ◌||◌, not}
use mathlib.Core.List.{List, [], ◌∷◌}
use native.Mathlib.Omega.{arith}
use lib.Dec.{eqb}
use lib.IntN.{ℤ}
use lib.ListN.{get_or}
use borrow.Author.Tests.{eqb-true, le-leb, lt-ltb}
use Rattle.rules.specs.declared.Digits.{Digits}
use Rattle.rules.specs.Base.{all}
use Rattle.rules.specs.RefusalNumbers.{Got, got, bad, unless, map_g, and_then}
use Rattle.rules.specs.RangeClass.{reaches}
use Rattle.rules.specs.Lines.{Rest, Shape, opener, no_content, content, opening, formless, shape_of, has_form}
use Rattle.rules.specs.Values.{Known, Value, read_kind}
use Rattle.rules.specs.Rows.{Rule, Act, stay, entry, begin, shut, refuse, or_refuse, inner_of, read_shape, shape_for, fits, not_twice, act_row, act_unknown, act_found, Found, absent, found, find, complete}
use Rattle.rules.specs.RecordTable.{rule_at, columns}
use Rattle.rules.specs.Blocks.{top_table, file_table, range_table, base_table, elec_table, sym_table, later_table, drawing_table, defines_table, symbol_table, element_table}
use Rattle.rules.specs.Figures.{layer_table, figure_table, point_table, text_table, placed_table, wire_table}
use Rattle.rules.proofs.Chains.{or_true, by_cond, all_weaken}
use Rattle.rules.proofs.Rows.{found-row, row-all, row_at}
use Rattle.tables.specs.Tables.{table_of}
use Rattle.tables.specs.Rows.{rule_of, for_line, found_for_line}
use Rattle.tables.specs.declared.Row.{Row}
use Rattle.entries.specs.Acts.{place_of, put_line, roomy, next_of, Entered, Acts, asked_from, wanted}
use Rattle.entries.specs.declared.Next.{Next}
use Rattle.entries.proofs.LineActs.{room-place, room-state, room_settled}

-- ── a table by its number ──
by-table : (P : ℕ → List Rule → Type 0) (n : ℕ) → P 0 top_table → P 1 file_table → P 2 range_table → P 3 base_table → P 4 elec_table → P 5 sym_table → P 6 later_table → P 7 drawing_table → P 8 defines_table → P 9 symbol_table → P 10 element_table → P 11 (layer_table false false) → P 12 (layer_table true false) → P 13 figure_table → P 14 (point_table true) → P 15 (point_table false) → P 16 (text_table true 4 12) → P 17 (text_table false 4 12) → P 18 placed_table → P 19 (text_table true 16 24) → P 20 wire_table → P 21 (layer_table false true) → P 22 (layer_table true true) → P n [] → P n (table_of n)
unfolding table_of
by-table P n p0 p1 p2 p3 p4 p5 p6 p7 p8 p9 p10 p11 p12 p13 p14 p15 p16 p17 p18 p19 p20 p21 p22 z =
    by_cond (P n) (eqb n 0) (λ e. subst (λ (m : ℕ). P m top_table) (sym (eqb-true n 0 e)) p0) λ _.
    by_cond (P n) (eqb n 1) (λ e. subst (λ (m : ℕ). P m file_table) (sym (eqb-true n 1 e)) p1) λ _.
    by_cond (P n) (eqb n 2) (λ e. subst (λ (m : ℕ). P m range_table) (sym (eqb-true n 2 e)) p2) λ _.
    by_cond (P n) (eqb n 3) (λ e. subst (λ (m : ℕ). P m base_table) (sym (eqb-true n 3 e)) p3) λ _.
    by_cond (P n) (eqb n 4) (λ e. subst (λ (m : ℕ). P m elec_table) (sym (eqb-true n 4 e)) p4) λ _.
    by_cond (P n) (eqb n 5) (λ e. subst (λ (m : ℕ). P m sym_table) (sym (eqb-true n 5 e)) p5) λ _.
    by_cond (P n) (eqb n 6) (λ e. subst (λ (m : ℕ). P m later_table) (sym (eqb-true n 6 e)) p6) λ _.
    by_cond (P n) (eqb n 7) (λ e. subst (λ (m : ℕ). P m drawing_table) (sym (eqb-true n 7 e)) p7) λ _.
    by_cond (P n) (eqb n 8) (λ e. subst (λ (m : ℕ). P m defines_table) (sym (eqb-true n 8 e)) p8) λ _.
    by_cond (P n) (eqb n 9) (λ e. subst (λ (m : ℕ). P m symbol_table) (sym (eqb-true n 9 e)) p9) λ _.
    by_cond (P n) (eqb n 10) (λ e. subst (λ (m : ℕ). P m element_table) (sym (eqb-true n 10 e)) p10) λ _.
    by_cond (P n) (eqb n 11) (λ e. subst (λ (m : ℕ). P m (layer_table false false)) (sym (eqb-true n 11 e)) p11) λ _.
    by_cond (P n) (eqb n 12) (λ e. subst (λ (m : ℕ). P m (layer_table true false)) (sym (eqb-true n 12 e)) p12) λ _.
    by_cond (P n) (eqb n 13) (λ e. subst (λ (m : ℕ). P m figure_table) (sym (eqb-true n 13 e)) p13) λ _.
    by_cond (P n) (eqb n 14) (λ e. subst (λ (m : ℕ). P m (point_table true)) (sym (eqb-true n 14 e)) p14) λ _.
    by_cond (P n) (eqb n 15) (λ e. subst (λ (m : ℕ). P m (point_table false)) (sym (eqb-true n 15 e)) p15) λ _.
    by_cond (P n) (eqb n 16) (λ e. subst (λ (m : ℕ). P m (text_table true 4 12)) (sym (eqb-true n 16 e)) p16) λ _.
    by_cond (P n) (eqb n 17) (λ e. subst (λ (m : ℕ). P m (text_table false 4 12)) (sym (eqb-true n 17 e)) p17) λ _.
    by_cond (P n) (eqb n 18) (λ e. subst (λ (m : ℕ). P m placed_table) (sym (eqb-true n 18 e)) p18) λ _.
    by_cond (P n) (eqb n 19) (λ e. subst (λ (m : ℕ). P m (text_table true 16 24)) (sym (eqb-true n 19 e)) p19) λ _.
    by_cond (P n) (eqb n 20) (λ e. subst (λ (m : ℕ). P m wire_table) (sym (eqb-true n 20 e)) p20) λ _.
    by_cond (P n) (eqb n 21) (λ e. subst (λ (m : ℕ). P m (layer_table false true)) (sym (eqb-true n 21 e)) p21) λ _.
    by_cond (P n) (eqb n 22) (λ e. subst (λ (m : ℕ). P m (layer_table true true)) (sym (eqb-true n 22 e)) p22) λ _. z

-- ── all that is required ──
abbrev pub is_there : Digits → Option Digits × Bool → Bool
is_there d p = p.1 || not (wanted d p.0)

pub all-there : (d : Digits) (t : List Rule) (bs : List Bool) → list_all (is_there d) (zip (map asked_from t) bs) ≡ complete d t bs
all-there d [] bs = refl
all-there d (r ∷ t) [] = refl
all-there d (r ∷ t) (b ∷ bs) = rw (all-there d t bs) (ap (λ (x : Bool). x && complete d t bs) (there-is r.must b))
  where
    turned : (a b : Bool) → (a || b) ≡ (b || a)
    turned true b = sym (or_true b)
    turned false true = refl
    turned false false = refl

    there-is : (m b : Bool) → (b || not (wanted d (cond m (Some r.least) None))) ≡ (not m || (not (reaches d r.least) || b))
    there-is true b = turned b (not (reaches d r.least))
    there-is false b = or_true b

-- ── a line of a table ──
pub no_row : (f : Found) → found_for_line f ≡ absent → f ≡ absent
no_row absent e = refl
no_row (found j r) e = absurd (let q : ◌≡◌ {A = ℕ} 0 1 = cc in omega arith)

pub unknown-acts : (rule : ℕ → Rule) (dump : ℕ) (t t₁ : List ℤ) (c : Rest) (n : Next) → n ≡ next_of (act_unknown c) → Acts rule dump t (act_unknown c) t₁ n
unknown-acts rule dump t t₁ c n e = record { eq = e; entered = go (has_form (shape_of c)) }
  where
    go : (b : Bool) → Entered rule dump t (or_refuse (unless b 5 (bad 6))) t₁
    go true = tt
    go false = tt

-- an act of the row j
abbrev Own : ℕ → Act → Type 0
Own j stay = Unit {0}
Own j (entry i v) = i ≡ j
Own j (begin b i v) = i ≡ j
Own j shut = Unit {0}
Own j (refuse n) = Unit {0}

module _ (j : ℕ) where
  own-unless : (b : Bool) (n : ℕ) (g : Got Act) → Own j (or_refuse g) → Own j (or_refuse (unless b n g))
  own-unless true n g h = h
  own-unless false n g h = tt

  own_then : (g : Got Act) (full : Bool) → Own j (or_refuse g) → Own j (or_refuse (and_then g λ a. unless (not full) 11 (got a)))
  own_then (got a) full h = own-unless (not full) 11 (got a) h
  own_then (bad n) full h = tt

  own-entry : (g : Got Value) → Own j (or_refuse (map_g (entry j) g))
  own-entry (got v) = refl
  own-entry (bad n) = tt

  own-begin : (i : ℕ) (g : Got Value) → Own j (or_refuse (map_g (begin i j) g))
  own-begin i (got v) = refl
  own-begin i (bad n) = tt

  own-shape : (k : Known) (r : Rule) (s : Shape) → Own j (or_refuse (read_shape k j r s))
  own-shape k r opener = refl
  own-shape k r no_content = refl
  own-shape k r (content at c) = own-entry (read_kind k r.holds at c)
  own-shape k r (opening at c) = own-begin (inner_of r.holds) (read_kind k r.holds at c)
  own-shape k r formless = tt

  own_row : (k : Known) (d : Digits) (full : Bool) (r : Rule) (c : Rest) → Own j (act_row k d full j r c)
  own_row k d full r c =
      let s = shape_for r c in
      let g = and_then (read_shape k j r s) λ a. unless (not full) 11 (got a) in
      let g1 = unless (not_twice r.times full) 7 g in
      let g2 = unless (fits r.holds r.may s) 5 g1 in
      let g3 = unless (reaches d r.least) 6 g2 in
      own-unless (has_form s) 5 g3
      (own-unless (reaches d r.least) 6 g2
      (own-unless (fits r.holds r.may s) 5 g1
      (own-unless (not_twice r.times full) 7 g
      (own_then (read_shape k j r s) full (own-shape k r s)))))

own-entered : (rule : ℕ → Rule) (r : Rule) (dump j : ℕ) (t t₁ : List ℤ) (a : Act) → Own j a → put_line (rule j) dump ≡ put_line r dump → Entered (λ _. r) dump t a t₁ → Entered rule dump t a t₁
own-entered rule r dump j t t₁ stay o e h = h
own-entered rule r dump j t t₁ (entry i v) o e h = rw o (h ∙ ap (λ (f : Value → List ℤ → List ℤ). f v t) (sym e))
own-entered rule r dump j t t₁ (begin b i v) o e h = rw o (h ∙ ap (λ (f : Value → List ℤ → List ℤ). f v t) (sym e))
own-entered rule r dump j t t₁ shut o e h = h
own-entered rule r dump j t t₁ (refuse n) o e h = tt

-- a line does not go by its row's key, nor by whether the row is required
line-shape : (k : Known) (j : ℕ) (r : Rule) (s : Shape) → read_shape k j (for_line r) s ≡ read_shape k j r s
line-shape k j r opener = refl
line-shape k j r no_content = refl
line-shape k j r (content at c) = refl
line-shape k j r (opening at c) = refl
line-shape k j r formless = refl

line_row : (k : Known) (d : Digits) (full : Bool) (j : ℕ) (r : Rule) (c : Rest) → act_row k d full j (for_line r) c ≡ act_row k d full j r c
line_row k d full j r c = rw (line-shape k j r (shape_for r c))

pub found-line : (k : Known) (d : Digits) (full : List Bool) (c : Rest) (f : Found) → act_found k d full c (found_for_line f) ≡ act_found k d full c f
found-line k d full c absent = refl
found-line k d full c (found j r) = line_row k d (get_or full j false) j r c

-- what was found is a row of the table
module _ (t : List Rule) (key : List ℕ) (row : Row) (same_row : found_for_line (find key t) ≡ found row.number (rule_of row)) where
  pub row_room : (dump n : ℕ) → all (roomy dump n) t ≡ true → roomy dump n (rule_of row) ≡ true
  row_room dump n h = go (find key t) refl same_row
    where
      go : (f : Found) → find key t ≡ f → found_for_line f ≡ found row.number (rule_of row) → roomy dump n (rule_of row) ≡ true
      go absent q e = absurd (let z : ◌≡◌ {A = ℕ} 0 1 = cc in omega arith)
      go (found j r) q e =
          let y : for_line r ≡ rule_of row = cc in
          subst (λ (x : Rule). roomy dump n x ≡ true) y (row-all (roomy dump n) (found-row key t j r q).0 h)

  pub row-acts : (k : Known) (d : Digits) (full : List Bool) (c : Rest) (dump : ℕ) (u u₁ : List ℤ) (b : Bool) (a : Next) → b ≡ get_or full row.number false
      → Acts (λ _. rule_of row) dump u (act_row k d b row.number (rule_of row) c) u₁ a → Acts (rule_at t) dump u (act_found k d full c (find key t)) u₁ a
  row-acts k d full c dump u u₁ b a m h = go (find key t) refl same_row
    where
      go : (f : Found) → find key t ≡ f → found_for_line f ≡ found row.number (rule_of row) → Acts (rule_at t) dump u (act_found k d full c f) u₁ a
      go absent q e = absurd (let z : ◌≡◌ {A = ℕ} 0 1 = cc in omega arith)
      go (found j r) q e =
          let y : rule_of row ≡ for_line r = cc in
          let x : row.number ≡ j = cc in
          let h₀ = subst (λ (b : Bool). Acts (λ _. rule_of row) dump u (act_row k d b row.number (rule_of row) c) u₁ a) m h in
          let h₁ = subst (λ (i : ℕ). Acts (λ _. rule_of row) dump u (act_row k d (get_or full i false) i (rule_of row) c) u₁ a) x h₀ in
          let h₂ = subst (λ (z : Rule). Acts (λ _. z) dump u (act_row k d (get_or full j false) j z c) u₁ a) y h₁ in
          let h₃ = subst (λ (b : Act). Acts (λ _. for_line r) dump u b u₁ a) (line_row k d (get_or full j false) j r c) h₂ in
          let w : rule_at t j ≡ r = row_at (found-row key t j r q).0 _ in
          record { eq = h₃.eq; entered = own-entered (rule_at t) (for_line r) dump j u u₁ (act_row k d (get_or full j false) j r c) (own_row j k d (get_or full j false) r c) (ap (λ (x : Rule). put_line x dump) w) h₃.entered }

-- ── room for the rows of a table ──
pub room-more : (dump m n : ℕ) (t : List Rule) → m ≤ n → all (roomy dump m) t ≡ true → all (roomy dump n) t ≡ true
room-more dump m n t h = all_weaken (roomy dump m) (roomy dump n) wider t
  where
    wider : (r : Rule) → roomy dump m r ≡ true → roomy dump n r ≡ true
    wider r e =
        let p = room-place dump m r e in
        let q = room-state dump m r e in
        rw (le-leb (place_of r.place dump + columns r.holds) n (omega (arith, p)), lt-ltb r.state n (omega (arith, q)), room_settled dump m r e)

-- two records, and behind them the numbers of a row without a place: at most five
pub room-file : (n : ℕ) → all (roomy 64 69) (table_of n) ≡ true
unfolding top_table file_table range_table base_table elec_table sym_table later_table drawing_table defines_table symbol_table element_table layer_table figure_table point_table text_table placed_table wire_table
room-file n = by-table (λ n t. all (roomy 64 69) t ≡ true) n refl refl refl refl refl refl refl refl refl refl refl refl refl refl refl refl refl refl refl refl refl refl refl refl
