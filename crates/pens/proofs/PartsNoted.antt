-- The rows of a block's parts, noted: their tables, and their text taken apart row by row.
use Rattle.std.specs.Prelude.{Option, Some, None, Result, Ok, Err}
use Prim.Native.Nat.{ℕ, zero, suc, ◌+◌, ◌≤◌, ◌<◌}
use mathlib.Core.Bool.{Bool, true, false, cond, ◌||◌}
use mathlib.Core.List.{List, [], ◌∷◌, ◌++◌}
use mathlib.Core.Path.{◌≡◌, refl, sym, ◌∙◌, ap, subst}
use native.Mathlib.Omega.{arith}
use borrow.Author.Tests.{eqb-true, eqb-false, ltb-true}
use lib.Dec.{eqb, ltb}
use lib.ListN.{length, get_or, take, drop, length-take, drop_of_length-le, get_or-map}
use lib.Seq.{get_or-take, drop-cons}
use Rattle.rules.specs.Base.{bytes, all}
use Rattle.rules.specs.Values.{Value, Known, opens}
use Rattle.rules.specs.Rows.{Rule, row, Slots, Held, part_of, inner_of}
use Rattle.rules.specs.Blocks.{file_table, range_table, base_table, elec_table, sym_table, later_table, drawing_table}
use Rattle.rules.specs.Figures.{text_table, placed_table}
use Rattle.rules.specs.RecordTable.{rule_at}
use Rattle.rules.specs.FixedForm.{Text, opens_block, line_of, show_slot, show_slots}
use Rattle.rules.proofs.Rows.{Row, here, there, row-all, differ, row-find}
use Rattle.tables.specs.Tables.{table_of}
use Rattle.prints.specs.Printing.{Prints}
use Rattle.pens.specs.Texts.{ended, line_bytes}
use Rattle.pens.specs.Noting.{notes_from, rows_in, Noted, tables_of, part_table, NotedParts, show_depth}
use Rattle.pens.specs.Closing.{row_bytes, shut_bytes}
use Rattle.pens.specs.Writing.{Named, PrintsNoted, inner_table, TellsInner, rows_from, noted_base, PrintsRows, slot_text, PrintsSlot, PrintsPart}
use Rattle.pens.proofs.Laying.{bytes-append}
use Rattle.pens.proofs.ShownLaws.{slot-more, depth-more}
use Rattle.pens.proofs.Behind.{printed, unprinted, prints-none, spared-prints, first-full, rest, whole, behind-full, behind-prints}
use Rattle.leaves.specs.declared.NoRoom.{NoRoom}
use Rattle.leaves.specs.NoRoom.{no_room}

-- ── the tables of the parts ──
-- the rows of part p
abbrev pub rows_of : ℕ → ℕ → List Rule
rows_of b p = get_or (tables_of b) p []

-- what is computed of each part
pub record PartTable (b p : ℕ) : Type 0 where
  -- its rows are the first of the table of its number
  pub first_rows : take (length (rows_of b p)) (table_of (part_table b p)) ≡ rows_of b p
  pub apart : differ (table_of (part_table b p)) ≡ true
  pub many : rows_in (part_table b p) ≡ length (rows_of b p)
  pub inward : all (λ r. ltb (inner_of r.holds) (length (tables_of b))) (rows_of b p) ≡ true
  pub known : eqb (part_table b p) 255 ≡ false

file-part : (p : ℕ) → p < 5 → PartTable 1 p
unfolding table_of file_table range_table base_table elec_table sym_table
file-part zero l = record { first_rows = refl; apart = refl; many = refl; inward = refl; known = refl }
file-part (suc zero) l = record { first_rows = refl; apart = refl; many = refl; inward = refl; known = refl }
file-part (suc (suc zero)) l = record { first_rows = refl; apart = refl; many = refl; inward = refl; known = refl }
file-part (suc (suc (suc zero))) l = record { first_rows = refl; apart = refl; many = refl; inward = refl; known = refl }
file-part (suc (suc (suc (suc zero)))) l = record { first_rows = refl; apart = refl; many = refl; inward = refl; known = refl }
file-part (suc (suc (suc (suc (suc p))))) l = absurd (omega (arith, l))

later-part : (p : ℕ) → p < 1 → PartTable 6 p
unfolding table_of later_table
later-part zero l = record { first_rows = refl; apart = refl; many = refl; inward = refl; known = refl }
later-part (suc p) l = absurd (omega (arith, l))

drawing-part : (p : ℕ) → p < 1 → PartTable 7 p
unfolding table_of drawing_table
drawing-part zero l = record { first_rows = refl; apart = refl; many = refl; inward = refl; known = refl }
drawing-part (suc p) l = absurd (omega (arith, l))

text-part : (p : ℕ) → p < 1 → PartTable 16 p
unfolding table_of text_table
text-part zero l = record { first_rows = refl; apart = refl; many = refl; inward = refl; known = refl }
text-part (suc p) l = absurd (omega (arith, l))

symbol-text-part : (p : ℕ) → p < 1 → PartTable 17 p
unfolding table_of text_table
symbol-text-part zero l = record { first_rows = refl; apart = refl; many = refl; inward = refl; known = refl }
symbol-text-part (suc p) l = absurd (omega (arith, l))

placed-part : (p : ℕ) → p < 2 → PartTable 18 p
unfolding table_of placed_table text_table
placed-part zero l = record { first_rows = refl; apart = refl; many = refl; inward = refl; known = refl }
placed-part (suc zero) l = record { first_rows = refl; apart = refl; many = refl; inward = refl; known = refl }
placed-part (suc (suc p)) l = absurd (omega (arith, l))

either_way : {P : Type 0} (a b : Bool) → (a || b) ≡ true → (a ≡ true → P) → (b ≡ true → P) → P
either_way true b e f g = f refl
either_way false b e f g = g e

pub part-table : (b p : ℕ) → noted_base b ≡ true → p < length (tables_of b) → PartTable b p
part-table b p e l =
    either_way (eqb b 1) _ e (λ t. at 1 t file-part) λ e1.
    either_way (eqb b 6) _ e1 (λ t. at 6 t later-part) λ e2.
    either_way (eqb b 7) _ e2 (λ t. at 7 t drawing-part) λ e3.
    either_way (eqb b 16) _ e3 (λ t. at 16 t text-part) λ e4.
    either_way (eqb b 17) _ e4 (λ t. at 17 t symbol-text-part) λ t. at 18 t placed-part
  where
    at : (n : ℕ) → eqb b n ≡ true → ((q : ℕ) → q < length (tables_of n) → PartTable n q) → PartTable b p
    at n t f =
        let same : b ≡ n = eqb-true b n t in
        subst (λ (i : ℕ). PartTable i p) (sym same) (f p (subst (λ (i : ℕ). p < length (tables_of i)) same l))

row_of : (t : List Rule) (j : ℕ) → j < length t → Row t j (rule_at t j)
row_of [] j l = absurd (omega (arith, l))
row_of (r ∷ t) zero l = here
row_of (r ∷ t) (suc j) l = there (row_of t j (omega (arith, l)))

module _ (b p : ℕ) (z : PartTable b p) (j : ℕ) (l : j < length (rows_of b p)) where
  abbrev all-rows : List Rule
  all-rows = table_of (part_table b p)

  below : j < length all-rows
  below = omega (arith, l, ap length z.first_rows, length-take (length (rows_of b p)) all-rows)

  same_row : rule_at all-rows j ≡ rule_at (rows_of b p) j
  same_row = sym (get_or-take (length (rows_of b p)) all-rows j (row "" (opens 0) 0) l) ∙ ap (λ (t : List Rule). rule_at t j) z.first_rows

  pub named-row : Named (part_table b p) j (rule_at (rows_of b p) j)
  named-row =
      subst (Named (part_table b p) j) same_row
      record { key = get_or-map (λ r. r.key) all-rows j (row "" (opens 0) 0); found-so = row-find (row_of all-rows j below) z.apart }

  pub inner_below : inner_of (rule_at (rows_of b p) j).holds < length (tables_of b)
  inner_below = ltb-true (inner_of (rule_at (rows_of b p) j).holds) (length (tables_of b)) (row-all (λ r. ltb (inner_of r.holds) (length (tables_of b))) (row_of (rows_of b p) j l) z.inward)

-- ── the text of a part's rows ──
module _ (k : Known) (b : ℕ) (h : Held) where
  -- the inner part that a row opens, and its `}`
  abbrev pub inner_bytes : ℕ → Rule → Option Value → List ℕ
  inner_bytes d r None = []
  inner_bytes d r (Some v) = cond (opens_block r.holds v) (line_bytes (rows_from k b h d (inner_of r.holds) 0) ++ shut_bytes) []

  pub depth-rows : (d i : ℕ) → show_depth k (tables_of b) h d i [] ≡ rows_from k b h d i 0
  depth-rows zero i = refl
  depth-rows (suc d) i = refl

  part_bytes : (d i : ℕ) → line_bytes (show_depth k (tables_of b) h d i (bytes "}" ∷ [])) ≡ line_bytes (rows_from k b h d i 0) ++ shut_bytes
  part_bytes d i =
      ap line_bytes (depth-more k (tables_of b) h d i (bytes "}" ∷ []) ∙ ap (λ (t : Text). t ++ bytes "}" ∷ []) (depth-rows d i))
      ∙ bytes-append (rows_from k b h d i 0) (bytes "}" ∷ [])

  slot-bytes : (d : ℕ) (r : Rule) (o : Option Value) → line_bytes (show_slot k r o (show_depth k (tables_of b) h d) []) ≡ row_bytes k r o ++ inner_bytes d r o
  slot-bytes d r None = refl
  slot-bytes d r (Some v) = go (opens_block r.holds v)
    where
      go : (t : Bool) → ended (line_of k r v) ++ line_bytes (cond t (show_depth k (tables_of b) h d (inner_of r.holds) (bytes "}" ∷ [])) [])
          ≡ ended (line_of k r v) ++ cond t (line_bytes (rows_from k b h d (inner_of r.holds) 0) ++ shut_bytes) []
      go true = ap (λ (u : List ℕ). ended (line_of k r v) ++ u) (part_bytes d (inner_of r.holds))
      go false = refl

  rows_end : (d p j : ℕ) → length (rows_of b p) ≤ j → rows_from k b h d p j ≡ []
  rows_end zero p j l = refl
  rows_end (suc d) p j l = ap (λ (t : List Rule). show_slots k t (drop j (part_of h p)) (show_depth k (tables_of b) h d) []) (drop_of_length-le (rows_of b p) {i = j} l)

  rows_more : (d p j : ℕ) → j < length (rows_of b p) → length (part_of h p) ≡ length (rows_of b p)
      → line_bytes (rows_from k b h (suc d) p j) ≡ line_bytes (slot_text k b h d p j) ++ line_bytes (rows_from k b h (suc d) p (j + 1))
  rows_more d p j l s =
      let t : List Rule = rows_of b p in
      let o : Slots = part_of h p in
      let inner : ℕ → Text → Text = show_depth k (tables_of b) h d in
      let next : suc j ≡ j + 1 = omega arith in
      let others : Text = show_slots k (drop (j + 1) t) (drop (j + 1) o) inner [] in
      ap line_bytes
      (ap (λ (u : List Rule). show_slots k u (drop j o) inner []) (drop-cons t j (row "" (opens 0) 0) l)
      ∙ ap (λ (u : Slots). show_slots k (rule_at t j ∷ drop (suc j) t) u inner []) (drop-cons o j None (omega (arith, l, s)))
      ∙ ap (λ (i : ℕ). show_slot k (rule_at t j) (get_or o j None) inner (show_slots k (drop i t) (drop i o) inner [])) next
      ∙ slot-more k inner (depth-more k (tables_of b) h d) (rule_at t j) (get_or o j None) others)
      ∙ bytes-append (slot_text k b h d p j) others

-- ── the code's steps ──
module _ (spool : List ℕ) (b : ℕ) (ns : List ℕ) where
  -- an inner part
  pub part_none : (depth inner : ℕ) (before : List ℕ) → inner ≡ 255 → PrintsPart spool depth b inner ns before before (Ok 0)
  part_none depth inner before e = (λ _. prints-none before, λ n k h p z l t. absurd (eqb-false (part_table b p) 255 (part-table b p n l).known (sym t ∙ e)))

  module _ (depth inner : ℕ) (there : inner ≡ 255 → ⊥) (before x : List ℕ) where
    module _ (n : ℕ) (f : PrintsRows spool depth b inner 0 ns before x (Ok n)) (y : List ℕ) where
      pub part-printed : (i : ℕ) → Prints shut_bytes (rest before x y n) y (Ok i) → PrintsPart spool depth b inner ns before (whole before x y n) (Ok (n + i))
      part-printed i q = (
        λ e. absurd (there e),
        λ m k h p z l t. behind-prints before x y n (line_bytes (rows_from k b h depth p 0)) shut_bytes (f m k h p z l t) i q,
      )

  -- a row with the inner part that it opens
  module _ (depth table j note inner : ℕ) (before mid x : List ℕ) (w : Result ℕ NoRoom) (noted : note ≡ get_or ns (notes_from table + j) 0) (tells : TellsInner spool b table j note before mid inner) (prints : PrintsNoted spool table j note mid x w) where
    module _ (n : noted_base b ≡ true) (k : Known) (h : Held) (p : ℕ) (z : NotedParts spool k b ns h) (l : p < length (tables_of b)) (t : table ≡ part_table b p) (m : j < length (rows_of b p)) where
      abbrev q : Rule
      q = rule_at (rows_of b p) j

      abbrev o : Option Value
      o = get_or (part_of h p) j None

      named : Named table j q
      named = subst (λ (i : ℕ). Named i j q) (sym t) (named-row b p (part-table b p n l) j m)

      noted-so : Noted spool k q note o
      noted-so = subst (λ (i : ℕ). Noted spool k q i o) (sym (noted ∙ ap (λ (i : ℕ). get_or ns (notes_from i + j) 0) t)) ((z.parts p l).rows j m)

      line : Prints (row_bytes k q o) before x w
      line = spared-prints (row_bytes k q o) before mid x w (tells k q o named noted-so).0 (prints k q o named noted-so)

      inner-so : length (row_bytes k q o) ≤ length before → inner ≡ inner_table b q o
      inner-so f = (tells k q o named noted-so).1 f

      text : row_bytes k q o ++ inner_bytes k b h depth q o ≡ line_bytes (slot_text k b h depth p j)
      text = sym (slot-bytes k b h depth q o)

      part : (lent after : List ℕ) (r : Result ℕ NoRoom) → length (row_bytes k q o) ≤ length before → PrintsPart spool depth b inner ns lent after r → Prints (inner_bytes k b h depth q o) lent after r
      part lent after r f g = go o (inner-so f)
        where
          go : (o : Option Value) → inner ≡ inner_table b q o → Prints (inner_bytes k b h depth q o) lent after r
          go None e = g.0 e
          go (Some v) e = by (opens_block q.holds v) e
            where
              by : (t : Bool) → inner ≡ cond t (part_table b (inner_of q.holds)) 255 → Prints (cond t (line_bytes (rows_from k b h depth (inner_of q.holds) 0) ++ shut_bytes) []) lent after r
              by true e = g.1 n k h (inner_of q.holds) z (inner_below b p (part-table b p n l) j m) e
              by false e = g.0 e

    pub slot-full : w ≡ Err no_room → PrintsSlot spool depth b table j ns before x (Err no_room)
    slot-full e n k h p z l t m =
        let r : List ℕ = row_bytes k (q n k h p z l t m) (o n k h p z l t m) in
        subst (λ (u : List ℕ). Prints u before x (Err no_room)) (text n k h p z l t m)
        (first-full r _ before x (unprinted r before x (subst (Prints r before x) e (line n k h p z l t m))))

    module _ (i : ℕ) (e : w ≡ Ok i) (y : List ℕ) where
      pub slot-part-full : PrintsPart spool depth b inner ns (rest before x y i) y (Err no_room) → PrintsSlot spool depth b table j ns before (whole before x y i) (Err no_room)
      slot-part-full g n k h p z l t m =
          let r : List ℕ = row_bytes k (q n k h p z l t m) (o n k h p z l t m) in
          let f : Prints r before x (Ok i) = subst (Prints r before x) e (line n k h p z l t m) in
          subst (λ (u : List ℕ). Prints u before (whole before x y i) (Err no_room)) (text n k h p z l t m)
          (behind-full before x y i r _ f (whole before x y i) (part n k h p z l t m (rest before x y i) y (Err no_room) (printed r before x i f).1 g))

      pub slot-printed : (a : ℕ) → PrintsPart spool depth b inner ns (rest before x y i) y (Ok a) → PrintsSlot spool depth b table j ns before (whole before x y i) (Ok (i + a))
      slot-printed a g n k h p z l t m =
          let r : List ℕ = row_bytes k (q n k h p z l t m) (o n k h p z l t m) in
          let f : Prints r before x (Ok i) = subst (Prints r before x) e (line n k h p z l t m) in
          subst (λ (u : List ℕ). Prints u before (whole before x y i) (Ok (i + a))) (text n k h p z l t m)
          (behind-prints before x y i r _ f a (part n k h p z l t m (rest before x y i) y (Ok a) (printed r before x i f).1 g))

  pub rows_last : (depth table j : ℕ) (before : List ℕ) → rows_in table ≤ j → PrintsRows spool depth b table j ns before before (Ok 0)
  rows_last depth table j before f n k h p z l t =
      let last : length (rows_of b p) ≤ j = omega (arith, f, ap rows_in t, (part-table b p n l).many) in
      subst (λ (u : Text). Prints (line_bytes u) before before (Ok 0)) (sym (rows_end k b h depth p j last)) (prints-none before)

  module _ (depth inner table j : ℕ) (deep : suc inner ≡ depth) (f : j < rows_in table) (before x : List ℕ) where
    here-is : (p : ℕ) → noted_base b ≡ true → p < length (tables_of b) → table ≡ part_table b p → j < length (rows_of b p)
    here-is p n l t = omega (arith, f, ap rows_in t, (part-table b p n l).many)

    -- row j, and those behind it
    two : (k : Known) (h : Held) (p : ℕ) → j < length (rows_of b p) → length (part_of h p) ≡ length (rows_of b p)
        → line_bytes (slot_text k b h inner p j) ++ line_bytes (rows_from k b h depth p (j + 1)) ≡ line_bytes (rows_from k b h depth p j)
    two k h p m s =
        subst (λ (d : ℕ). line_bytes (slot_text k b h inner p j) ++ line_bytes (rows_from k b h d p (j + 1)) ≡ line_bytes (rows_from k b h d p j)) deep
        (sym (rows_more k b h inner p j m s))

    pub rows-full : PrintsSlot spool inner b table j ns before x (Err no_room) → PrintsRows spool depth b table j ns before x (Err no_room)
    rows-full g n k h p z l t =
        let m : j < length (rows_of b p) = here-is p n l t in
        let a : List ℕ = line_bytes (slot_text k b h inner p j) in
        subst (λ (u : List ℕ). Prints u before x (Err no_room)) (two k h p m (z.parts p l).long) (first-full a _ before x (unprinted a before x (g n k h p z l t m)))

    module _ (i : ℕ) (g : PrintsSlot spool inner b table j ns before x (Ok i)) (y : List ℕ) where
      pub rows-others-full : PrintsRows spool depth b table (j + 1) ns (rest before x y i) y (Err no_room) → PrintsRows spool depth b table j ns before (whole before x y i) (Err no_room)
      rows-others-full v n k h p z l t =
          let m : j < length (rows_of b p) = here-is p n l t in
          subst (λ (u : List ℕ). Prints u before (whole before x y i) (Err no_room)) (two k h p m (z.parts p l).long)
          (behind-full before x y i (line_bytes (slot_text k b h inner p j)) _ (g n k h p z l t m) (whole before x y i) (v n k h p z l t))

      pub rows-printed : (a : ℕ) → PrintsRows spool depth b table (j + 1) ns (rest before x y i) y (Ok a) → PrintsRows spool depth b table j ns before (whole before x y i) (Ok (i + a))
      rows-printed a v n k h p z l t =
          let m : j < length (rows_of b p) = here-is p n l t in
          subst (λ (u : List ℕ). Prints u before (whole before x y i) (Ok (i + a))) (two k h p m (z.parts p l).long)
          (behind-prints before x y i (line_bytes (slot_text k b h inner p j)) _ (g n k h p z l t m) a (v n k h p z l t))

-- a table's rows and its notes are few
cond-most : (m : ℕ) (t : Bool) (a c : ℕ) → a ≤ m → c ≤ m → cond t a c ≤ m
cond-most m true a c p q = p
cond-most m false a c p q = q

pub notes-few : (t : ℕ) → notes_from t ≤ 26
notes-few t =
    most (eqb t 2) _ _ (omega arith) (most (eqb t 3) _ _ (omega arith) (most (eqb t 4) _ _ (omega arith) (most (eqb t 5) _ _ (omega arith)
    (most (eqb t 16) _ _ (omega arith) (most (eqb t 17) _ _ (omega arith) (most (eqb t 19) _ _ (omega arith) (most (eqb t 20) _ _ (omega arith) (omega arith))))))))
  where
    most : (u : Bool) (a c : ℕ) → a ≤ 26 → c ≤ 26 → cond u a c ≤ 26
    most = cond-most 26
