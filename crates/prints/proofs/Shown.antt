-- What is written of a content that was read is its fixed form.
use Rattle.std.specs.Prelude.{Some}
use Prim.Native.Nat.{ℕ, zero, suc, ◌+◌, ◌-◌, ◌/◌, ◌%◌, ◌≤◌}
use mathlib.Core.Path.{◌≡◌, refl, ap, sym, subst, ◌∙◌}
use mathlib.Core.Bool.{Bool, true, false, cond, ◌&&◌, ◌||◌, not}
use mathlib.Core.List.{List, [], ◌∷◌, ◌++◌, map}
use native.Mathlib.Omega.{arith}
use lib.Dec.{eqb, leb, ltb}
use lib.IntN.{pos}
use lib.ListN.{length, get_or}
use borrow.Author.Tests.{eqb-true, eqb-false, eq-eqb, ne_eqb, le-leb, lt-leb, ltb-true, ltb-false, not-true}
use Rattle.rules.specs.Base.{bytes, all, flat, same, within, index_of, split, join}
use Rattle.rules.specs.RefusalNumbers.{Got, got, bad, unless, map_g, and_then, or_bad, keep, cons_g}
use Rattle.rules.specs.Numbers.{is_digit, digit_run, value, read_count, read_fixed, is_day, is_clock, read_decimal, fixed_onto, fixed, trim, show_count, show_decimal}
use Rattle.rules.specs.Lines.{Rest, Shape, opener, no_content, content, opening, formless}
use Rattle.rules.specs.Values.{Num, num, Value, empty, nums, chars, Known, byte_in, letters_and_digits, capital, is_layer_id, Part, count, digit, type_digits, range, range_of_symbols, range_of_wires, day, clock, decimal, exactly, symbol_name, layer_id, served_symbols, served_wires, natural, read_part, amount, show_part, read_all, show_all, agree, arc_of_circle, arc_parts, whole_turn, whole_parts, no_turn, read_circle, show_circle, Kind, values, text, word, volume_name, sheet, ratio, serials, wire_serial, symbol_circle, nothing, opens, headed, either, sheets, find_sheet, read_ratio, most_partners, read_serials, linked_of, show_serials, two_nums, read_partner, read_wire_serial, show_partner, read_kind, amount_at, show_content}
use Rattle.rules.specs.Rows.{Rule, Act, entry, begin, refuse, or_refuse, read_shape, fits, inner_of, not_twice, shape_for, act_row}
use Rattle.rules.specs.RangeClass.{reaches}
use Rattle.rules.specs.Lines.{has_form}
use Rattle.rules.specs.declared.Digits.{Digits}
use Rattle.rules.specs.FixedForm.{behind}
use Rattle.rules.proofs.Chains.{and_true, and_false, by_cond, clash, never, cond-some, unless-got, map-got, then-got, keep-got, or-got, cons-got}
use Rattle.promises.proofs.Circles.{all-lengths, show-first, arc-turns, whole_turnless, decimal-read, circle-whole, circle_arc}
use Rattle.promises.proofs.Numbers.{within_both, both-within, run-parts, fixed_same}
use Rattle.promises.proofs.Values.{name-same}
use Rattle.tables.specs.Rows.{bound_of, whole_of, decimal_of, part_of, parts_of, across_of, values_of, kind_of, rule_of, for_line}
use Rattle.tables.specs.Numbering.{arc_forms, whole_forms}
use Rattle.tables.specs.declared.Row.{Row}
use Rattle.leaves.specs.Bytes.{bytes_of}
use Rattle.entries.specs.Acts.{value_of}
use Rattle.prints.specs.Texts.{anew, piece_text, piece_texts, pieces_text, sheet_text, ratio_text, forms_of, content_text, behind_text}
use Rattle.prints.specs.Reading.{Reads}

-- ── counts: without needless zeros, whatever the width ──
abbrev zeros : ℕ → List ℕ → List ℕ
zeros zero s = s
zeros (suc n) s = 48 ∷ zeros n s

zeros-digits : (n : ℕ) (s : List ℕ) → all is_digit s ≡ true → all is_digit (zeros n s) ≡ true
zeros-digits zero s d = d
zeros-digits (suc n) s d = zeros-digits n s d

zeros-long : (n : ℕ) (s : List ℕ) → length (zeros n s) ≡ n + length s
zeros-long zero s = omega arith
zeros-long (suc n) s = omega (arith, zeros-long n s)

zeros-value : (n : ℕ) (s : List ℕ) → value (zeros n s) ≡ value s
zeros-value zero s = refl
zeros-value (suc n) s = zeros-value n s

trim-zeros : (n : ℕ) (s : List ℕ) → 1 ≤ length s → trim (zeros n s) ≡ trim s
trim-zeros zero s h = refl
trim-zeros (suc n) [] h = absurd (omega arith)
trim-zeros (suc zero) (b ∷ s) h = refl
trim-zeros (suc (suc n)) (b ∷ s) h = trim-zeros (suc n) (b ∷ s) h

trimmed : (w : ℕ) (s : List ℕ) → all is_digit s ≡ true → 1 ≤ length s → length s ≤ w → show_count w (value s) ≡ trim s
trimmed w s d l h =
    let z = zeros (w - length s) s in
    let long : length z ≡ w = zeros-long (w - length s) s ∙ omega (arith, h) in
    let run : digit_run w w z ≡ true = and_true (all is_digit z) _ (zeros-digits (w - length s) s d) (both-within w w (length z) (omega (arith, long)) (omega (arith, long))) in
    ap trim (fixed_same w (value s) z (rw (run, zeros-value (w - length s) s))) ∙ trim-zeros (w - length s) s l

-- a count of at most w digits is written with the needed ones
pub count-text : (w : ℕ) (c : List ℕ) (n : ℕ) → w ≤ 10 → read_count w c ≡ Some n → anew c (show_count 20) (read_count 10 c) ≡ show_count w n
count-text w c n h e =
    let (r, q) = cond-some (digit_run 1 w c) (value c) n e in
    let (d, l, m) = run-parts 1 w c r in
    let run : digit_run 1 10 c ≡ true = and_true (all is_digit c) _ d (both-within 1 10 (length c) l (omega (arith, m, h))) in
    rw run (trimmed 20 c d l (omega (arith, m, h)) ∙ sym (trimmed w c d l m) ∙ ap (show_count w) q)

-- ── one value ──
-- what is no count and no decimal stands as it was written
abbrev stands : Part → Bool
stands count = false
stands (digit lo hi) = true
stands type_digits = true
stands (range lo hi) = true
stands range_of_symbols = true
stands range_of_wires = true
stands day = true
stands clock = true
stands (decimal b) = false
stands (exactly m) = false
stands symbol_name = true
stands layer_id = true

digits_stand : (w m : ℕ) (test : ℕ → Bool) (s : List ℕ) (a : Num) → natural (keep m test (or_bad 10 (read_fixed w s))) ≡ got a → s ≡ fixed w (amount a)
digits_stand w m test s a e =
    let (n, g, q) = map-got (λ n. num (pos n)) (keep m test (or_bad 10 (read_fixed w s))) a e in
    let (o, t) = keep-got m test (or_bad 10 (read_fixed w s)) n g in
    rw (← q) (sym (fixed_same w n s (or-got 10 (read_fixed w s) n o)))

name-stands : (m : ℕ) (s : List ℕ) (us : List (List ℕ)) (a : Num) → natural (or_bad m (index_of s us)) ≡ got a → s ≡ get_or us (amount a) []
name-stands m s us a e =
    let (n, g, q) = map-got (λ n. num (pos n)) (or_bad m (index_of s us)) a e in
    rw (← q) (sym (name-same s us n (or-got m (index_of s us) n g)))

part-stands : (k : Known) (p : Part) (s : List ℕ) (a : Num) → stands p ≡ true → read_part k p s ≡ got a → s ≡ show_part k p a
part-stands k count s a t e = clash t refl
part-stands k (digit lo hi) s a t e = digits_stand 1 11 (within lo hi) s a e
part-stands k type_digits s a t e =
    let (n, g, q) = map-got (λ n. num (pos n)) (or_bad 10 (read_fixed 4 s)) a e in
    rw (← q) (sym (fixed_same 4 n s (or-got 10 (read_fixed 4 s) n g)))
part-stands k (range lo hi) s a t e = digits_stand 3 12 (within lo hi) s a e
part-stands k range_of_symbols s a t e = digits_stand 3 12 served_symbols s a e
part-stands k range_of_wires s a t e = digits_stand 3 12 served_wires s a e
part-stands k day s a t e = digits_stand 8 10 is_day s a e
part-stands k clock s a t e = digits_stand 6 10 is_clock s a e
part-stands k (decimal b) s a t e = clash t refl
part-stands k (exactly m) s a t e = clash t refl
part-stands k symbol_name s a t e = name-stands 13 s k.symbols a e
part-stands k layer_id s a t e =
    let (i, f) = unless-got (is_layer_id s) 11 (natural (or_bad 14 (index_of s k.layers))) a e in
    name-stands 14 s k.layers a f

whole-stands : (n : ℕ) → eqb n 7 ≡ false → stands (whole_of n) ≡ true
whole-stands n e =
    by_cond S (eqb n 5) (λ _. refl) λ _.
    by_cond S (eqb n 6) (λ _. refl) λ _.
    by_cond S (eqb n 7) (λ q. clash q e) λ _.
    by_cond S (eqb n 8) (λ _. refl) λ _.
    by_cond S (eqb n 9) (λ _. refl) λ _.
    by_cond S (eqb n 10) (λ _. refl) λ _.
    by_cond S (eqb n 11) (λ _. refl) λ _.
    by_cond S (eqb n 12) (λ _. refl) λ _.
    by_cond S (eqb n 13) (λ _. refl) λ _.
    by_cond S (eqb n 14) (λ _. refl) λ _.
    by_cond S (eqb n 15) (λ _. refl) λ _.
    by_cond S (eqb n 16) (λ _. refl) λ _.
    by_cond S (eqb n 18) (λ _. refl) λ _.
    by_cond S (eqb n 2) (λ _. refl) λ _.
    by_cond S (eqb n 3) (λ _. refl) (λ _. refl)
  where
    S : Part → Type 0
    S p = stands p ≡ true

-- the promise of one value
abbrev Shown : Known → Part → List ℕ → List ℕ → Type 0
Shown k p c t = (a : Num) → read_part k p c ≡ got a → t ≡ show_part k p a

decimal-shown : (k : Known) (n : ℕ) (c : List ℕ) → Shown k (decimal_of n) c (anew c show_decimal (read_decimal c))
decimal-shown k n c =
    by_cond S (eqb n 25) (λ _ a e. rw (decimal-read k (exactly 0) c a refl e)) λ _.
    by_cond S (eqb n 26) (λ _ a e. rw (decimal-read k (exactly whole_turn) c a refl e)) (λ _ a e. rw (decimal-read k (decimal (bound_of n)) c a refl e))
  where
    S : Part → Type 0
    S p = Shown k p c (anew c show_decimal (read_decimal c))

count-shown : (k : Known) (c : List ℕ) → Shown k count c (anew c (show_count 20) (read_count 10 c))
count-shown k c a e =
    let (n, g, q) = map-got (λ n. num (pos n)) (or_bad 10 (read_count 9 c)) a e in
    count-text 9 c n (omega arith) (or-got 10 (read_count 9 c) n g) ∙ ap (λ (b : Num). show_count 9 (amount b)) q

whole-shown : (k : Known) (n : ℕ) (c : List ℕ) → Shown k (whole_of n) c (cond (eqb n 7) (anew c (show_count 20) (read_count 10 c)) c)
whole-shown k n c = go (eqb n 7) refl
  where
    go : (t : Bool) → eqb n 7 ≡ t → Shown k (whole_of n) c (cond t (anew c (show_count 20) (read_count 10 c)) c)
    go true q = rw (eqb-true n 7 q) (count-shown k c)
    go false q = λ a e. part-stands k (whole_of n) c a (whole-stands n q) e

pub part-shown : (k : Known) (n : ℕ) (c : List ℕ) → Shown k (part_of n) c (piece_text n c)
part-shown k n c = go (ltb n 20) refl
  where
    go : (t : Bool) → ltb n 20 ≡ t → Shown k (cond t (whole_of n) (decimal_of n)) c (piece_text n c)
    go true q = rw (lt-leb 20 n (ltb-true n 20 q)) (whole-shown k n c)
    go false q = rw (le-leb 20 n (ltb-false n 20 q)) (decimal-shown k n c)

-- ── several ──
all_shown : (k : Known) (m forms : ℕ) (ps : List (List ℕ)) (v : List Num) → read_all k (parts_of m forms) ps ≡ got v → piece_texts forms false ps ≡ show_all k (parts_of m forms) v
unfolding parts_of
all_shown k zero forms [] v e = refl
all_shown k zero forms (p ∷ ps) v e = never e
all_shown k (suc m) forms [] v e = never e
all_shown k (suc m) forms (p ∷ ps) v e =
    let (a, s, g, h, q) = cons-got (read_part k (part_of (forms % 100)) p) (read_all k (parts_of m (forms / 100)) ps) v e in
    rw (← q, part-shown k (forms % 100) p a g, all_shown k m (forms / 100) ps s h)

-- six values are written alike as a whole circle's and as an arc's
six-texts : (ss : List (List ℕ)) → length ss ≡ 6 → piece_texts arc_forms false ss ≡ piece_texts whole_forms false ss
six-texts [] l = absurd (omega arith)
six-texts (a ∷ []) l = absurd (omega arith)
six-texts (a ∷ b ∷ []) l = absurd (omega arith)
six-texts (a ∷ b ∷ c ∷ []) l = absurd (omega arith)
six-texts (a ∷ b ∷ c ∷ d ∷ []) l = absurd (omega arith)
six-texts (a ∷ b ∷ c ∷ d ∷ e ∷ []) l = absurd (omega arith)
six-texts (a ∷ b ∷ c ∷ d ∷ e ∷ f ∷ []) l = refl
six-texts (a ∷ b ∷ c ∷ d ∷ e ∷ f ∷ g ∷ ss) l = absurd (omega arith)

circle-shown : (k : Known) (ss : List (List ℕ)) (v : List Num) → read_circle k ss ≡ got v → piece_texts arc_forms false ss ≡ show_circle k v
unfolding parts_of
circle-shown k ss v e = go (eqb (length ss) 6) refl
  where
    go : (t : Bool) → eqb (length ss) 6 ≡ t → piece_texts arc_forms false ss ≡ show_circle k v
    go true z =
        let (u, g, q) = map-got (λ v. v ++ no_turn ∷ []) (read_all k whole_parts ss) v (sym (circle-whole k ss z) ∙ e) in
        let (l, m) = all-lengths k whole_parts ss u g in
        rw (← q, whole_turnless u m) (six-texts ss l ∙ all_shown k 6 whole_forms ss u g ∙ sym (show-first k whole_parts u (no_turn ∷ []) m))
    go false z =
        let (o, t) = keep-got 11 (agree arc_of_circle) (read_all k arc_parts ss) v (sym (circle_arc k ss z) ∙ e) in
        rw (arc-turns k ss v o) (all_shown k 7 arc_forms ss v o)

serials-shown : (ps : List (List ℕ)) (ns : List ℕ) → read_serials ps ≡ got ns → piece_texts 7 true ps ≡ show_serials ns
serials-shown [] ns e = let q : [] ≡ ns = cc in rw (← q)
serials-shown (p ∷ ps) ns e =
    let (n, s, g, h, q) = cons-got (or_bad 10 (read_count 10 p)) (read_serials ps) ns e in
    rw (← q, count-text 10 p n (omega arith) (or-got 10 (read_count 10 p) n g), serials-shown ps s h)

-- a partner of a wire; an empty one stays empty
partner-shown : (p : List ℕ) (v : List Num) → read_partner p ≡ got v
    → (state : ℕ) × (n : ℕ) × (v ≡ two_nums state n) × (anew p (show_count 20) (read_count 10 p) ≡ show_partner state n)
partner-shown [] v e = let q : two_nums 1 0 ≡ v = cc in (1, 0, sym q, refl)
partner-shown (b ∷ s) v e =
    let (n, g, q) = map-got (λ n. two_nums 2 n) (or_bad 10 (read_count 10 (b ∷ s))) v e in
    (2, n, sym q, count-text 10 (b ∷ s) n (omega arith) (or-got 10 (read_count 10 (b ∷ s)) n g))

abbrev wire_texts : Value → List (List ℕ)
wire_texts v = show_count 10 (amount_at v 0) ∷ show_partner (amount_at v 1) (amount_at v 2) ∷ show_partner (amount_at v 3) (amount_at v 4) ∷ []

wire-shown : (ps : List (List ℕ)) (v : List Num) → read_wire_serial ps ≡ got v → piece_texts 7 true ps ≡ wire_texts (nums v)
wire-shown [] v e = never e
wire-shown (o ∷ []) v e = never e
wire-shown (o ∷ a ∷ []) v e = never e
wire-shown (o ∷ a ∷ b ∷ []) v e =
    let ends = cons_g (read_partner a) (cons_g (read_partner b) (got [])) in
    let (own, w, g, h, q) = cons-got (natural (or_bad 10 (read_count 10 o))) (map_g flat ends) v e in
    let (n, g₁, q₁) = map-got (λ n. num (pos n)) (or_bad 10 (read_count 10 o)) own g in
    let (us, g₂, q₂) = map-got flat ends w h in
    let (x, r, gx, g₃, q₃) = cons-got (read_partner a) (cons_g (read_partner b) (got [])) us g₂ in
    let (y, z, gy, g₄, q₄) = cons-got (read_partner b) (got []) r g₃ in
    let q₅ : [] ≡ z = cc in
    let (i, m, ex, tx) = partner-shown a x gx in
    let (j, l, ey, ty) = partner-shown b y gy in
    rw (← q, ← q₁, ← q₂, ← q₃, ← q₄, ← q₅, ex, ey, count-text 10 o n (omega arith) (or-got 10 (read_count 10 o) n g₁), tx, ty)
wire-shown (o ∷ a ∷ b ∷ c ∷ ps) v e = never e

-- ── a content ──
-- the promise of a content that was read
abbrev Kept : Row → Kind → List ℕ → Type 0
Kept row d c = (k : Known) (at : ℕ) (v : Value) → read_kind k d at c ≡ got v → content_text row c ≡ show_content k d v

module _ (c : List ℕ) where
  text-kept : (k : Known) (d : Kind) (t : Bool) (at : ℕ) (v : Value) → (show_content k d (chars at c) ≡ c) → unless t 11 (got (chars at c)) ≡ got v → c ≡ show_content k d v
  text-kept k d t at v s e = let (p, g) = unless-got t 11 (got (chars at c)) v e in let q : chars at c ≡ v = cc in rw (← q) (sym s)

  name-kept : (k : Known) (at : ℕ) (v : Value) → read_kind k volume_name at c ≡ got v → map capital c ≡ show_content k volume_name v
  name-kept k at v e =
      let (p, g) = unless-got (all (byte_in letters_and_digits) c) 11 (got (chars at (map capital c))) v e in
      let q : chars at (map capital c) ≡ v = cc in
      rw (← q)

  sheet-kept : (k : Known) (at : ℕ) (v : Value) → read_kind k sheet at c ≡ got v → sheet_text c (find_sheet c sheets) ≡ show_content k sheet v
  sheet-kept k at v e =
      let (u, g, q) = map-got nums (or_bad 11 (find_sheet c sheets)) v e in
      ap (sheet_text c) (or-got 11 (find_sheet c sheets) u g) ∙ ap (show_content k sheet) q

  ratio-kept : (k : Known) (at : ℕ) (v : Value) → read_kind k ratio at c ≡ got v → ratio_text c (read_ratio c) ≡ show_content k ratio v
  ratio-kept k at v e = let (u, g, q) = map-got nums (read_ratio c) v e in ap (ratio_text c) g ∙ ap (show_content k ratio) q

  serials-kept : (k : Known) (at : ℕ) (v : Value) → read_kind k serials at c ≡ got v → pieces_text 7 true c ≡ show_content k serials v
  unfolding pieces_text
  serials-kept k at v e =
      let (ns, g, q) = map-got linked_of (keep 11 (λ ns. leb (length ns) (most_partners + 1)) (read_serials (split 44 c))) v e in
      let (o, t) = keep-got 11 (λ ns. leb (length ns) (most_partners + 1)) (read_serials (split 44 c)) ns g in
      rw (← q) (ap (join 44) (serials-shown (split 44 c) ns o) ∙ written ns)
    where
      written : (ns : List ℕ) → join 44 (show_serials ns) ≡ show_content k serials (linked_of ns)
      written [] = refl
      written (n ∷ ns) = refl

  wire-kept : (k : Known) (at : ℕ) (v : Value) → read_kind k wire_serial at c ≡ got v → pieces_text 7 true c ≡ show_content k wire_serial v
  unfolding pieces_text
  wire-kept k at v e =
      let (u, g, q) = map-got nums (read_wire_serial (split 44 c)) v e in
      rw (← q) (ap (join 44) (wire-shown (split 44 c) u g))

  circle-kept : (k : Known) (at : ℕ) (v : Value) → read_kind k symbol_circle at c ≡ got v → pieces_text arc_forms false c ≡ show_content k symbol_circle v
  unfolding pieces_text
  circle-kept k at v e =
      let (u, g, q) = map-got nums (read_circle k (split 44 c)) v e in
      rw (← q) (ap (join 44) (circle-shown k (split 44 c) u g))

  single-kept : (k : Known) (p : Part) (d : Kind) (t : List ℕ) (v : Value) → ((a : Num) → show_content k d (nums (a ∷ [])) ≡ show_part k p a) → Shown k p c t
      → map_g (λ n. nums (n ∷ [])) (read_part k p c) ≡ got v → t ≡ show_content k d v
  single-kept k p d t v s h e = let (a, g, q) = map-got (λ n. nums (n ∷ [])) (read_part k p c) v e in rw (← q) (h a g ∙ sym (s a))

  values-kept : (k : Known) (m forms a at : ℕ) (v : Value) → read_kind k (values (part_of (forms % 100)) (parts_of m (forms / 100)) (across_of a)) at c ≡ got v
      → pieces_text forms false c ≡ show_content k (values (part_of (forms % 100)) (parts_of m (forms / 100)) (across_of a)) v
  unfolding pieces_text parts_of
  values-kept k m forms a at v e =
      let (u, g, q) = map-got nums (keep 11 (agree (across_of a)) (read_all k (parts_of (suc m) forms) (split 44 c))) v e in
      let (o, t) = keep-got 11 (agree (across_of a)) (read_all k (parts_of (suc m) forms) (split 44 c)) u g in
      rw (← q) (ap (join 44) (all_shown k (suc m) forms (split 44 c) u o))

  -- values, or a circle's in a symbol
  row_kept : (row : Row) (k : Known) (at : ℕ) (v : Value) → read_kind k (values_of row) at c ≡ got v → pieces_text (forms_of row) false c ≡ show_content k (values_of row) v
  row_kept row k at v = go (eqb row.kind 12)
    where
      of_values : Kind
      of_values = values (part_of (row.parts % 100)) (parts_of row.count (row.parts / 100)) (across_of row.across)

      go : (t : Bool) → read_kind k (cond t symbol_circle of_values) at c ≡ got v
          → pieces_text (cond t arc_forms row.parts) false c ≡ show_content k (cond t symbol_circle of_values) v
      go true = circle-kept k at v
      go false = values-kept k row.count row.parts row.across at v

-- a number that is none of those of the first ten kinds
other-kind : (n : ℕ) → eqb n 1 ≡ false → eqb n 2 ≡ false → eqb n 3 ≡ false → eqb n 4 ≡ false → eqb n 5 ≡ false → eqb n 6 ≡ false → eqb n 7 ≡ false → eqb n 8 ≡ false → eqb n 9 ≡ false → eqb n 10 ≡ false
    → (ltb 0 n && leb n 10) ≡ false
other-kind zero a b c d e f g h i j = refl
other-kind (suc zero) a b c d e f g h i j = clash refl a
other-kind (suc (suc zero)) a b c d e f g h i j = clash refl b
other-kind (suc (suc (suc zero))) a b c d e f g h i j = clash refl c
other-kind (suc (suc (suc (suc zero)))) a b c d e f g h i j = clash refl d
other-kind (suc (suc (suc (suc (suc zero))))) a b c d e f g h i j = clash refl e
other-kind (suc (suc (suc (suc (suc (suc zero)))))) a b c d e f g h i j = clash refl f
other-kind (suc (suc (suc (suc (suc (suc (suc zero))))))) a b c d e f g h i j = clash refl g
other-kind (suc (suc (suc (suc (suc (suc (suc (suc zero)))))))) a b c d e f g h i j = clash refl h
other-kind (suc (suc (suc (suc (suc (suc (suc (suc (suc zero))))))))) a b c d e f g h i j = clash refl i
other-kind (suc (suc (suc (suc (suc (suc (suc (suc (suc (suc zero)))))))))) a b c d e f g h i j = clash refl j
other-kind (suc (suc (suc (suc (suc (suc (suc (suc (suc (suc (suc m))))))))))) a b c d e f g h i j = rw (lt-leb (suc (suc (suc (suc (suc (suc (suc (suc (suc (suc (suc m))))))))))) 10 (omega arith)) (and_false (ltb 0 (suc (suc (suc (suc (suc (suc (suc (suc (suc (suc (suc m)))))))))))))

module _ (row : Row) (c : List ℕ) where
  abbrev code : ℕ
  code = row.kind

  of_values_lem : eqb code 1 ≡ false → eqb code 2 ≡ false → eqb code 3 ≡ false → eqb code 4 ≡ false → eqb code 5 ≡ false → eqb code 6 ≡ false → eqb code 7 ≡ false → eqb code 8 ≡ false → eqb code 9 ≡ false → eqb code 10 ≡ false → eqb code 11 ≡ false → Kept row (kind_of row) c
  unfolding content_text
  of_values_lem q1 q2 q3 q4 q5 q6 q7 q8 q9 q10 q11 = rw (q1, q2, q3, q4, q5, q6, q7, q8, q9, q10, q11, other-kind code q1 q2 q3 q4 q5 q6 q7 q8 q9 q10) (row_kept c row)

  kind11 : (t : Bool) → eqb code 11 ≡ t → eqb code 1 ≡ false → eqb code 2 ≡ false → eqb code 3 ≡ false → eqb code 4 ≡ false → eqb code 5 ≡ false → eqb code 6 ≡ false → eqb code 7 ≡ false → eqb code 8 ≡ false → eqb code 9 ≡ false → eqb code 10 ≡ false → Kept row (kind_of row) c
  unfolding content_text
  kind11 true q q1 q2 q3 q4 q5 q6 q7 q8 q9 q10 = rw (eqb-true code 11 q) (wire-kept c)
  kind11 false q q1 q2 q3 q4 q5 q6 q7 q8 q9 q10 = of_values_lem q1 q2 q3 q4 q5 q6 q7 q8 q9 q10 q

  kind10 : (t : Bool) → eqb code 10 ≡ t → eqb code 1 ≡ false → eqb code 2 ≡ false → eqb code 3 ≡ false → eqb code 4 ≡ false → eqb code 5 ≡ false → eqb code 6 ≡ false → eqb code 7 ≡ false → eqb code 8 ≡ false → eqb code 9 ≡ false → Kept row (kind_of row) c
  unfolding content_text
  kind10 true q q1 q2 q3 q4 q5 q6 q7 q8 q9 = rw (eqb-true code 10 q) (λ k at v. single-kept c k (range 0 1) (either row.inner) c v (λ a. refl) (λ a. part-stands k (range 0 1) c a refl))
  kind10 false q q1 q2 q3 q4 q5 q6 q7 q8 q9 = kind11 (eqb code 11) refl q1 q2 q3 q4 q5 q6 q7 q8 q9 q

  kind9 : (t : Bool) → eqb code 9 ≡ t → eqb code 1 ≡ false → eqb code 2 ≡ false → eqb code 3 ≡ false → eqb code 4 ≡ false → eqb code 5 ≡ false → eqb code 6 ≡ false → eqb code 7 ≡ false → eqb code 8 ≡ false → Kept row (kind_of row) c
  unfolding content_text
  kind9 true q q1 q2 q3 q4 q5 q6 q7 q8 = rw (eqb-true code 9 q) (λ k at v. single-kept c k (part_of row.parts) (headed row.inner (part_of row.parts)) (piece_text row.parts c) v (λ a. refl) (part-shown k row.parts c))
  kind9 false q q1 q2 q3 q4 q5 q6 q7 q8 = kind10 (eqb code 10) refl q1 q2 q3 q4 q5 q6 q7 q8 q

  kind8 : (t : Bool) → eqb code 8 ≡ t → eqb code 1 ≡ false → eqb code 2 ≡ false → eqb code 3 ≡ false → eqb code 4 ≡ false → eqb code 5 ≡ false → eqb code 6 ≡ false → eqb code 7 ≡ false → Kept row (kind_of row) c
  unfolding content_text
  kind8 true q q1 q2 q3 q4 q5 q6 q7 = rw (eqb-true code 8 q) (λ k at v e. never e)
  kind8 false q q1 q2 q3 q4 q5 q6 q7 = kind9 (eqb code 9) refl q1 q2 q3 q4 q5 q6 q7 q

  kind7 : (t : Bool) → eqb code 7 ≡ t → eqb code 1 ≡ false → eqb code 2 ≡ false → eqb code 3 ≡ false → eqb code 4 ≡ false → eqb code 5 ≡ false → eqb code 6 ≡ false → Kept row (kind_of row) c
  unfolding content_text
  kind7 true q q1 q2 q3 q4 q5 q6 = rw (eqb-true code 7 q) (λ k at v e. never e)
  kind7 false q q1 q2 q3 q4 q5 q6 = kind8 (eqb code 8) refl q1 q2 q3 q4 q5 q6 q

  kind6 : (t : Bool) → eqb code 6 ≡ t → eqb code 1 ≡ false → eqb code 2 ≡ false → eqb code 3 ≡ false → eqb code 4 ≡ false → eqb code 5 ≡ false → Kept row (kind_of row) c
  unfolding content_text
  kind6 true q q1 q2 q3 q4 q5 = rw (eqb-true code 6 q) (serials-kept c)
  kind6 false q q1 q2 q3 q4 q5 = kind7 (eqb code 7) refl q1 q2 q3 q4 q5 q

  kind5 : (t : Bool) → eqb code 5 ≡ t → eqb code 1 ≡ false → eqb code 2 ≡ false → eqb code 3 ≡ false → eqb code 4 ≡ false → Kept row (kind_of row) c
  unfolding content_text
  kind5 true q q1 q2 q3 q4 = rw (eqb-true code 5 q) (ratio-kept c)
  kind5 false q q1 q2 q3 q4 = kind6 (eqb code 6) refl q1 q2 q3 q4 q

  kind4 : (t : Bool) → eqb code 4 ≡ t → eqb code 1 ≡ false → eqb code 2 ≡ false → eqb code 3 ≡ false → Kept row (kind_of row) c
  unfolding content_text
  kind4 true q q1 q2 q3 = rw (eqb-true code 4 q) (sheet-kept c)
  kind4 false q q1 q2 q3 = kind5 (eqb code 5) refl q1 q2 q3 q

  kind3 : (t : Bool) → eqb code 3 ≡ t → eqb code 1 ≡ false → eqb code 2 ≡ false → Kept row (kind_of row) c
  unfolding content_text
  kind3 true q q1 q2 = rw (eqb-true code 3 q) (name-kept c)
  kind3 false q q1 q2 = kind4 (eqb code 4) refl q1 q2 q

  kind2 : (t : Bool) → eqb code 2 ≡ t → eqb code 1 ≡ false → Kept row (kind_of row) c
  unfolding content_text
  kind2 true q q1 = rw (eqb-true code 2 q) (λ k at v. text-kept c k (word row.most (bytes_of row.set)) (all (byte_in (bytes_of row.set)) c && leb (length c) row.most) at v refl)
  kind2 false q q1 = kind3 (eqb code 3) refl q1 q

  kind1 : (t : Bool) → eqb code 1 ≡ t → Kept row (kind_of row) c
  unfolding content_text
  kind1 true q = rw (eqb-true code 1 q) (λ k at v. text-kept c k (text row.most (bytes_of row.set)) (all (byte_in (bytes_of row.set)) c && leb (length c) row.most) at v refl)
  kind1 false q = kind2 (eqb code 2) refl q

  pub kind-kept : Kept row (kind_of row) c
  kind-kept = kind1 (eqb code 1) refl

-- ── what stands behind the key ──
-- `000` alone, `001` opening
module _ (k : Known) (c : List ℕ) (v : Value) (e : map_g (λ n. nums (n ∷ [])) (read_part k (range 0 1) c) ≡ got v) where
  abbrev state : ℕ
  state = amount_at v 0

  state-is : (c ≡ fixed 3 state) × (state ≤ 1)
  state-is =
      let (a, g, q) = map-got (λ n. nums (n ∷ [])) (read_part k (range 0 1) c) v e in
      let (m, o, p) = map-got (λ n. num (pos n)) (keep 12 (within 0 1) (or_bad 10 (read_fixed 3 c))) a g in
      let (f, t) = keep-got 12 (within 0 1) (or_bad 10 (read_fixed 3 c)) m o in
      rw (← q, ← p) (sym (fixed_same 3 m c (or-got 10 (read_fixed 3 c) m f)), (within_both 0 1 m t).1)

  either-alone : not (same c (bytes "001")) ≡ true → eqb state 1 ≡ false
  unfolding fixed_onto
  either-alone h = ne_eqb state 1 λ z. clash (ap (λ (s : List ℕ). same s (bytes "001")) (state-is.0 ∙ ap (fixed 3) z)) (not-true (same c (bytes "001")) h)

  either-opens : not (same c (bytes "000")) ≡ true → eqb state 1 ≡ true
  unfolding fixed_onto
  either-opens h = go (eqb state 0) refl
    where
      go : (t : Bool) → eqb state 0 ≡ t → eqb state 1 ≡ true
      go true q = clash (ap (λ (s : List ℕ). same s (bytes "000")) (state-is.0 ∙ ap (fixed 3) (eqb-true state 0 q))) (not-true (same c (bytes "000")) h)
      go false q = eq-eqb state 1 (omega (arith, state-is.1, eqb-false state 0 q))

-- no content and no opener where content is asked for
none-fits : (m : Bool) {P : Type 0} → (false || (m && false)) ≡ true → P
none-fits m h = clash h (and_false m)

module _ (row : Row) (k : Known) (j : ℕ) (r : Rule) (act : Act) where
  -- by the kind that the row holds
  abbrev Behind : Kind → Shape → Type 0
  Behind d s = kind_of row ≡ d → r.holds ≡ d → read_shape k j r s ≡ got act → fits d r.may s ≡ true → behind_text row s ≡ behind k d (value_of act)

  opener-shown : (d : Kind) → Behind d opener
  unfolding behind_text
  opener-shown (values p ps a) x y e h = none-fits r.may h
  opener-shown (text n b) x y e h = none-fits r.may h
  opener-shown (word n b) x y e h = none-fits r.may h
  opener-shown volume_name x y e h = none-fits r.may h
  opener-shown sheet x y e h = none-fits r.may h
  opener-shown ratio x y e h = none-fits r.may h
  opener-shown serials x y e h = none-fits r.may h
  opener-shown wire_serial x y e h = none-fits r.may h
  opener-shown symbol_circle x y e h = none-fits r.may h
  opener-shown nothing x y e h = clash h refl
  opener-shown (opens i) x y e h = refl
  opener-shown (headed i p) x y e h = clash h refl
  opener-shown (either i) x y e h = clash h refl

  no_content-shown : (d : Kind) → Behind d no_content
  unfolding behind_text
  no_content-shown (values p ps a) x y e h = let q : entry j empty ≡ act = cc in rw (← q)
  no_content-shown (text n b) x y e h = let q : entry j empty ≡ act = cc in rw (← q)
  no_content-shown (word n b) x y e h = let q : entry j empty ≡ act = cc in rw (← q)
  no_content-shown volume_name x y e h = let q : entry j empty ≡ act = cc in rw (← q)
  no_content-shown sheet x y e h = let q : entry j empty ≡ act = cc in rw (← q)
  no_content-shown ratio x y e h = let q : entry j empty ≡ act = cc in rw (← q)
  no_content-shown serials x y e h = let q : entry j empty ≡ act = cc in rw (← q)
  no_content-shown wire_serial x y e h = let q : entry j empty ≡ act = cc in rw (← q)
  no_content-shown symbol_circle x y e h = let q : entry j empty ≡ act = cc in rw (← q)
  no_content-shown nothing x y e h = refl
  no_content-shown (opens i) x y e h = clash h refl
  no_content-shown (headed i p) x y e h = clash h refl
  no_content-shown (either i) x y e h = clash h refl

  -- content that was read, as what stands behind the `=`
  read-shown : (d : Kind) (at : ℕ) (c : List ℕ) (v : Value) → kind_of row ≡ d → r.holds ≡ d → read_kind k r.holds at c ≡ got v → content_text row c ≡ show_content k d v
  read-shown d at c v x y e = rw x at (kind-kept row c) k at v (rw y at e)

  content-shown : (d : Kind) (at : ℕ) (c : List ℕ) → Behind d (content at c)
  unfolding behind_text
  content-shown (values p ps a) at c x y e h = let (v, g, q) = map-got (entry j) (read_kind k r.holds at c) act e in rw (← q) (ap (λ (s : List ℕ). 61 ∷ s) (read-shown (values p ps a) at c v x y g))
  content-shown (text n b) at c x y e h = let (v, g, q) = map-got (entry j) (read_kind k r.holds at c) act e in rw (← q) (ap (λ (s : List ℕ). 61 ∷ s) (read-shown (text n b) at c v x y g))
  content-shown (word n b) at c x y e h = let (v, g, q) = map-got (entry j) (read_kind k r.holds at c) act e in rw (← q) (ap (λ (s : List ℕ). 61 ∷ s) (read-shown (word n b) at c v x y g))
  content-shown volume_name at c x y e h = let (v, g, q) = map-got (entry j) (read_kind k r.holds at c) act e in rw (← q) (ap (λ (s : List ℕ). 61 ∷ s) (read-shown volume_name at c v x y g))
  content-shown sheet at c x y e h = let (v, g, q) = map-got (entry j) (read_kind k r.holds at c) act e in rw (← q) (ap (λ (s : List ℕ). 61 ∷ s) (read-shown sheet at c v x y g))
  content-shown ratio at c x y e h = let (v, g, q) = map-got (entry j) (read_kind k r.holds at c) act e in rw (← q) (ap (λ (s : List ℕ). 61 ∷ s) (read-shown ratio at c v x y g))
  content-shown serials at c x y e h = let (v, g, q) = map-got (entry j) (read_kind k r.holds at c) act e in rw (← q) (ap (λ (s : List ℕ). 61 ∷ s) (read-shown serials at c v x y g))
  content-shown wire_serial at c x y e h = let (v, g, q) = map-got (entry j) (read_kind k r.holds at c) act e in rw (← q) (ap (λ (s : List ℕ). 61 ∷ s) (read-shown wire_serial at c v x y g))
  content-shown symbol_circle at c x y e h = let (v, g, q) = map-got (entry j) (read_kind k r.holds at c) act e in rw (← q) (ap (λ (s : List ℕ). 61 ∷ s) (read-shown symbol_circle at c v x y g))
  content-shown nothing at c x y e h = clash h refl
  content-shown (opens i) at c x y e h = clash h refl
  content-shown (headed i p) at c x y e h = clash h refl
  content-shown (either i) at c x y e h =
      let (v, g, q) = map-got (entry j) (read_kind k r.holds at c) act e in
      rw (← q, either-alone k c v (subst (λ (d : Kind). read_kind k d at c ≡ got v) y g) h) (ap (λ (s : List ℕ). 61 ∷ s) (read-shown (either i) at c v x y g))

  opening-shown : (d : Kind) (at : ℕ) (c : List ℕ) → Behind d (opening at c)
  unfolding behind_text
  opening-shown (values p ps a) at c x y e h = none-fits r.may h
  opening-shown (text n b) at c x y e h = none-fits r.may h
  opening-shown (word n b) at c x y e h = none-fits r.may h
  opening-shown volume_name at c x y e h = none-fits r.may h
  opening-shown sheet at c x y e h = none-fits r.may h
  opening-shown ratio at c x y e h = none-fits r.may h
  opening-shown serials at c x y e h = none-fits r.may h
  opening-shown wire_serial at c x y e h = none-fits r.may h
  opening-shown symbol_circle at c x y e h = none-fits r.may h
  opening-shown nothing at c x y e h = clash h refl
  opening-shown (opens i) at c x y e h = clash h refl
  opening-shown (headed i p) at c x y e h =
      let (v, g, q) = map-got (begin (inner_of r.holds) j) (read_kind k r.holds at c) act e in
      rw (← q) (ap (λ (s : List ℕ). 61 ∷ (s ++ bytes ":{")) (read-shown (headed i p) at c v x y g))
  opening-shown (either i) at c x y e h =
      let (v, g, q) = map-got (begin (inner_of r.holds) j) (read_kind k r.holds at c) act e in
      rw (← q, either-opens k c v (subst (λ (d : Kind). read_kind k d at c ≡ got v) y g) h) (ap (λ (s : List ℕ). 61 ∷ (s ++ bytes ":{")) (read-shown (either i) at c v x y g))

  shape-shown : (d : Kind) (s : Shape) → Behind d s
  shape-shown d opener = opener-shown d
  shape-shown d no_content = no_content-shown d
  shape-shown d (content at c) = content-shown d at c
  shape-shown d (opening at c) = opening-shown d at c
  shape-shown d formless = λ x y e h. never e

pub behind-shown : (row : Row) (k : Known) (r : Rule) (c : Rest) (v : Value) → rule_of row ≡ for_line r → Reads k r c v → behind_text row (shape_for r c) ≡ behind k r.holds v
behind-shown row k r c v e w =
    shape-shown row k w.number r w.act r.holds (shape_for r c) (ap (λ (q : Rule). q.holds) e) refl w.read w.fit ∙ ap (behind k r.holds) w.value

-- ── from what the definitions' machine does ──
refuse-entry : {P : Type 0} {n j : ℕ} {v : Value} → refuse n ≡ entry j v → P
refuse-entry e = absurd (let z : ◌≡◌ {A = ℕ} 0 1 = cc in omega arith)

refuse-begin : {P : Type 0} {n i j : ℕ} {v : Value} → refuse n ≡ begin i j v → P
refuse-begin e = absurd (let z : ◌≡◌ {A = ℕ} 0 1 = cc in omega arith)

entry-got : (g : Got Act) (j : ℕ) (v : Value) → or_refuse g ≡ entry j v → g ≡ got (entry j v)
entry-got (got a) j v e = ap got e
entry-got (bad n) j v e = refuse-entry e

begin-got : (g : Got Act) (i j : ℕ) (v : Value) → or_refuse g ≡ begin i j v → g ≡ got (begin i j v)
begin-got (got a) i j v e = ap got e
begin-got (bad n) i j v e = refuse-begin e

module _ (k : Known) (d : Digits) (full : Bool) (j : ℕ) (r : Rule) (c : Rest) where
  abbrev tested : Got Act
  tested =
      unless (has_form (shape_for r c)) 5
      (unless (reaches d r.least) 6
      (unless (fits r.holds r.may (shape_for r c)) 5
      (unless (not_twice r.times full) 7
      (and_then (read_shape k j r (shape_for r c)) λ a. unless (not full) 11 (got a)))))

  read_by : (a : Act) → tested ≡ got a → Reads k r c (value_of a)
  read_by a e =
      let (t1, g1) = unless-got (has_form (shape_for r c)) 5 _ a e in
      let (t2, g2) = unless-got (reaches d r.least) 6 _ a g1 in
      let (t3, g3) = unless-got (fits r.holds r.may (shape_for r c)) 5 _ a g2 in
      let (t4, g4) = unless-got (not_twice r.times full) 7 _ a g3 in
      let (b, g5, g6) = then-got (read_shape k j r (shape_for r c)) (λ a. unless (not full) 11 (got a)) a g4 in
      let (t6, g7) = unless-got (not full) 11 (got b) a g6 in
      let q : b ≡ a = cc in
      record { number = j; act = b; read = g5; value = ap value_of q; fit = t3 }

  pub entry-reads : (i : ℕ) (v : Value) → act_row k d full j r c ≡ entry i v → Reads k r c v
  entry-reads i v e = read_by (entry i v) (entry-got tested i v e)

  pub begin-reads : (n i : ℕ) (v : Value) → act_row k d full j r c ≡ begin n i v → Reads k r c v
  begin-reads n i v e = read_by (begin n i v) (begin-got tested n i v e)
