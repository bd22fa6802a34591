-- What FILE_FORMAT's lines hold are counts, and the inner blocks that they open are its four parts.
use Rattle.std.specs.Prelude.{Option, Some, None}
use Prim.Native.Nat.{ℕ, zero, suc, ◌^◌, ◌<◌, ◌≤◌}
use mathlib.Core.Bool.{Bool, true, false, cond, ◌&&◌}
use mathlib.Core.List.{List, [], ◌∷◌, map}
use mathlib.Core.Path.{◌≡◌, refl, ap, subst}
use native.Mathlib.Omega.{arith}
use lib.Dec.{leb}
use lib.IntN.{pos}
use lib.ListN.{length, get_or}
use borrow.Author.Tests.{leb-true, lt-ltb}
use Rattle.rules.specs.declared.Digits.{Digits}
use Rattle.rules.specs.Base.{bytes, map_o, all, same, split}
use Rattle.rules.specs.RefusalNumbers.{got, bad, unless, map_g, or_bad, keep}
use Rattle.rules.specs.Numbers.{is_digit, digit_run, value, is_day, is_clock}
use Rattle.rules.specs.Lines.{Rest, brace, equals, Form, ignored, wrong, close, eof, keyed, Shape, opener, no_content, content, opening, formless, has_form, stem, by_stem, shape_of, free_shape_of}
use Rattle.rules.specs.Values.{Num, Value, empty, nums, chars, Known, byte_in, letters_and_digits, capital, Part, count, digit, type_digits, range, range_of_symbols, range_of_wires, day, clock, decimal, exactly, symbol_name, layer_id, served_symbols, served_wires, natural, read_part, read_all, agree, Kind, values, text, word, volume_name, sheet, ratio, serials, wire_serial, symbol_circle, nothing, opens, headed, either, is_free, read_kind}
use Rattle.rules.specs.Rows.{Rule, Found, absent, found, find, shape_for, Act, stay, entry, begin, shut, refuse, or_refuse, inner_of, read_shape, act_row, act_found, complete, act}
use Rattle.rules.specs.RecordTable.{numbers}
use Rattle.rules.specs.Blocks.{file_table, range_table, base_table, elec_table, sym_table, later_table}
use Rattle.rules.proofs.Chains.{clash, never, none-some, and_left, and_right, and_true, cond-some, map-some, unless-got, map-got, keep-got, or-got, cons-got, by_cond}
use Rattle.rules.proofs.Rows.{found-row, row-all, is_refusal, row-did}
use Rattle.leaves.proofs.Digits.{run_length, value_lt, ten-most}
use Rattle.tables.specs.Tables.{table_of}
use Rattle.account.specs.FileLines.{PartOpen, file_table_of, is_count}
use Rattle.account.proofs.FileParts.{capital-length}

-- ── a content's numbers ──
abbrev count_part : Part → Bool
count_part count = true
count_part (digit lo hi) = true
count_part type_digits = true
count_part (range lo hi) = true
count_part range_of_symbols = true
count_part range_of_wires = true
count_part day = true
count_part clock = true
count_part (decimal b) = false
count_part (exactly m) = false
count_part symbol_name = false
count_part layer_id = false

abbrev count_kind : Kind → Bool
count_kind (values p ps a) = all count_part (p ∷ ps)
count_kind (text n b) = true
count_kind (word n b) = true
count_kind volume_name = true
count_kind sheet = false
count_kind ratio = false
count_kind serials = false
count_kind wire_serial = false
count_kind symbol_circle = false
count_kind nothing = true
count_kind (opens i) = true
count_kind (headed i p) = count_part p
count_kind (either i) = true

-- at most nine digits
run-count : (lo hi : ℕ) (s : List ℕ) (n : ℕ) → hi ≤ 9 → cond (digit_run lo hi s) (Some (value s)) None ≡ Some n → is_count (pos n) ≡ true
run-count lo hi s n h e =
    let (d, q) = cond-some (digit_run lo hi s) (value s) n e in
    let l = run_length lo hi s d in
    let v = value_lt s (and_left (all is_digit s) _ d) in
    let t = ten-most (length s) 9 (omega (arith, l, h)) in
    let b : 10 ^ 9 ≡ 1000000000 = refl in
    lt-ltb n 4294967296 (omega (arith, q, v, t, b))

natural-count : (o : Option ℕ) (m : ℕ) (n : Num) → ((i : ℕ) → o ≡ Some i → is_count (pos i) ≡ true) → natural (or_bad m o) ≡ got n → is_count n.value ≡ true
natural-count o m n h e =
    let (i, p, q) = map-got _ (or_bad m o) n e in
    subst (λ (x : Num). is_count x.value ≡ true) q (h i (or-got m o i p))

kept-count : (o : Option ℕ) (m k : ℕ) (b : ℕ → Bool) (n : Num) → ((i : ℕ) → o ≡ Some i → is_count (pos i) ≡ true) → natural (keep k b (or_bad m o)) ≡ got n → is_count n.value ≡ true
kept-count o m k b n h e =
    let (i, p, q) = map-got _ (keep k b (or_bad m o)) n e in
    subst (λ (x : Num). is_count x.value ≡ true) q (h i (or-got m o i (keep-got k b (or_bad m o) i p).0))

part_count : (k : Known) (p : Part) (s : List ℕ) (n : Num) → count_part p ≡ true → read_part k p s ≡ got n → is_count n.value ≡ true
part_count k count s n c e = natural-count _ 10 n (λ i. run-count 1 9 s i (omega arith)) e
part_count k (digit lo hi) s n c e = kept-count _ 10 11 _ n (λ i. run-count 1 1 s i (omega arith)) e
part_count k type_digits s n c e = natural-count _ 10 n (λ i. run-count 4 4 s i (omega arith)) e
part_count k (range lo hi) s n c e = kept-count _ 10 12 _ n (λ i. run-count 3 3 s i (omega arith)) e
part_count k range_of_symbols s n c e = kept-count _ 10 12 served_symbols n (λ i. run-count 3 3 s i (omega arith)) e
part_count k range_of_wires s n c e = kept-count _ 10 12 served_wires n (λ i. run-count 3 3 s i (omega arith)) e
part_count k day s n c e = kept-count _ 10 10 is_day n (λ i. run-count 8 8 s i (omega arith)) e
part_count k clock s n c e = kept-count _ 10 10 is_clock n (λ i. run-count 6 6 s i (omega arith)) e
part_count k (decimal b) s n c e = clash c refl
part_count k (exactly m) s n c e = clash c refl
part_count k symbol_name s n c e = clash c refl
part_count k layer_id s n c e = clash c refl

abbrev Counted : Value → Type 0
Counted v = all is_count (numbers v) ≡ true

parts-count : (k : Known) (ps : List Part) (ss : List (List ℕ)) (v : List Num) → all count_part ps ≡ true → read_all k ps ss ≡ got v → Counted (nums v)
parts-count k [] [] v c e = let q : [] ≡ v = cc in subst (λ (w : List Num). Counted (nums w)) q refl
parts-count k [] (s ∷ ss) v c e = never e
parts-count k (p ∷ ps) [] v c e = never e
parts-count k (p ∷ ps) (s ∷ ss) v c e =
    let (n, w, g, h, q) = cons-got (read_part k p s) (read_all k ps ss) v e in
    let a = part_count k p s n (and_left (count_part p) _ c) g in
    let b = parts-count k ps ss w (and_right (count_part p) _ c) h in
    subst (λ (u : List Num). Counted (nums u)) q (and_true (is_count n.value) _ a b)

small : (n : ℕ) → n < 4294967296 → is_count (pos n) ≡ true
small n h = lt-ltb n 4294967296 h

chars-count : (at : ℕ) (c : List ℕ) → at < 4294967296 → length c < 4294967296 → Counted (chars at c)
chars-count at c a l = and_true (is_count (pos at)) _ (small at a) (and_true (is_count (pos (length c))) true (small (length c) l) refl)

text-count : (t : Bool) (n at : ℕ) (c : List ℕ) (v : Value) → at < 4294967296 → length c < 4294967296 → unless t n (got (chars at c)) ≡ got v → Counted v
text-count t n at c v a l e = let (b, q) = unless-got t n (got (chars at c)) v e in let z : chars at c ≡ v = cc in subst Counted z (chars-count at c a l)

one-count : (k : Known) (p : Part) (c : List ℕ) (v : Value) → count_part p ≡ true → map_g (λ n. nums (n ∷ [])) (read_part k p c) ≡ got v → Counted v
one-count k p c v h e =
    let (n, g, q) = map-got _ (read_part k p c) v e in
    subst Counted q (and_true (is_count n.value) true (part_count k p c n h g) refl)

kind-count : (k : Known) (d : Kind) (at : ℕ) (c : List ℕ) (v : Value) → count_kind d ≡ true → at < 4294967296 → length c < 4294967296 → read_kind k d at c ≡ got v → Counted v
kind-count k (values p ps x) at c v h a l e =
    let (w, g, q) = map-got nums (keep 11 (agree x) (read_all k (p ∷ ps) (split 44 c))) v e in
    subst Counted q (parts-count k (p ∷ ps) (split 44 c) w h (keep-got 11 (agree x) (read_all k (p ∷ ps) (split 44 c)) w g).0)
kind-count k (text n b) at c v h a l e = text-count (all (byte_in b) c && leb (length c) n) 11 at c v a l e
kind-count k (word n b) at c v h a l e = text-count (all (byte_in b) c && leb (length c) n) 11 at c v a l e
kind-count k volume_name at c v h a l e = text-count (all (byte_in letters_and_digits) c) 11 at (map capital c) v a (omega (arith, l, capital-length c)) e
kind-count k sheet at c v h a l e = clash h refl
kind-count k ratio at c v h a l e = clash h refl
kind-count k serials at c v h a l e = clash h refl
kind-count k wire_serial at c v h a l e = clash h refl
kind-count k symbol_circle at c v h a l e = clash h refl
kind-count k nothing at c v h a l e = never e
kind-count k (opens i) at c v h a l e = never e
kind-count k (headed i p) at c v h a l e = one-count k p c v h e
kind-count k (either i) at c v h a l e = one-count k (range 0 1) c v refl e

-- ── a line ──
-- its content's place and length are counts
abbrev pub Placed : Rest → Type 0
Placed brace = Unit {0}
Placed (equals at c) = (at < 4294967296) × (length c < 4294967296)

abbrev PlacedShape : Shape → Type 0
PlacedShape opener = Unit {0}
PlacedShape no_content = Unit {0}
PlacedShape (content at c) = (at < 4294967296) × (length c < 4294967296)
PlacedShape (opening at c) = (at < 4294967296) × (length c < 4294967296)
PlacedShape formless = Unit {0}

stem_shorter : (c t : List ℕ) → stem c ≡ Some t → length t ≤ length c
stem_shorter [] t e = none-some e
stem_shorter (b ∷ c) t e = go (same (b ∷ c) (bytes ":{")) (λ u. stem_shorter c u) e
  where
    go : (f : Bool) → ((u : List ℕ) → stem c ≡ Some u → length u ≤ length c) → cond f (Some []) (map_o (λ u. b ∷ u) (stem c)) ≡ Some t → length t ≤ length (b ∷ c)
    go true ih e = let z : [] ≡ t = cc in omega (arith, ap length z)
    go false ih e = let (u, p, z) = map-some (λ u. b ∷ u) (stem c) t e in omega (arith, ih u p, ap length z)

by-stem : (at : ℕ) (c : List ℕ) (o : Option (List ℕ)) → stem c ≡ o → Placed (equals at c) → PlacedShape (by_stem at c o)
by-stem at c None e h = h
by-stem at c (Some []) e h = tt
by-stem at c (Some (b ∷ t)) e h = (h.0, omega (arith, h.1, stem_shorter c (b ∷ t) e))

shape-placed : (x : Rest) → Placed x → PlacedShape (shape_of x)
shape-placed brace h = tt
shape-placed (equals at []) h = tt
shape-placed (equals at (b ∷ c)) h = by-stem at (b ∷ c) (stem (b ∷ c)) refl h

free-placed : (x : Rest) → Placed x → PlacedShape (free_shape_of x)
free-placed brace h = tt
free-placed (equals at []) h = tt
free-placed (equals at (b ∷ c)) h = h

for-placed : (r : Rule) (x : Rest) → Placed x → PlacedShape (shape_for r x)
for-placed r x h = by_cond PlacedShape (is_free r.holds) (λ _. free-placed x h) (λ _. shape-placed x h)

-- what an act says: its numbers are counts, and a block that it opens is one of the first four
abbrev pub Holds : Act → Type 0
Holds stay = Unit {0}
Holds (entry j v) = all is_count (numbers v) ≡ true
Holds (begin i j v) = (all is_count (numbers v) ≡ true) × (i ≤ 4)
Holds shut = Unit {0}
Holds (refuse n) = Unit {0}

abbrev file_row : Rule → Bool
file_row r = count_kind r.holds && leb (inner_of r.holds) 4

shape-holds : (k : Known) (j : ℕ) (r : Rule) (s : Shape) (a : Act) → file_row r ≡ true → PlacedShape s → read_shape k j r s ≡ got a → Holds a
shape-holds k j r opener a h p e =
    let q : begin (inner_of r.holds) j (nums []) ≡ a = cc in
    subst Holds q (refl, leb-true _ 4 (and_right (count_kind r.holds) _ h))
shape-holds k j r no_content a h p e = let q : entry j empty ≡ a = cc in subst Holds q refl
shape-holds k j r (content at c) a h p e =
    let (v, g, q) = map-got (entry j) (read_kind k r.holds at c) a e in
    subst Holds q (kind-count k r.holds at c v (and_left (count_kind r.holds) _ h) p.0 p.1 g)
shape-holds k j r (opening at c) a h p e =
    let (v, g, q) = map-got (begin (inner_of r.holds) j) (read_kind k r.holds at c) a e in
    subst Holds q (kind-count k r.holds at c v (and_left (count_kind r.holds) _ h) p.0 p.1 g, leb-true _ 4 (and_right (count_kind r.holds) _ h))
shape-holds k j r formless a h p e = never e

refusal-holds : (a : Act) → is_refusal a ≡ true → Holds a
refusal-holds stay e = tt
refusal-holds (entry j v) e = clash e refl
refusal-holds (begin i j v) e = clash e refl
refusal-holds shut e = tt
refusal-holds (refuse n) e = tt

row-holds : (k : Known) (d : Digits) (full : Bool) (j : ℕ) (r : Rule) (x : Rest) → file_row r ≡ true → Placed x → Holds (act_row k d full j r x)
row-holds k d full j r x h p = go (is_refusal (act_row k d full j r x)) refl
  where
    go : (b : Bool) → is_refusal (act_row k d full j r x) ≡ b → Holds (act_row k d full j r x)
    go true e = refusal-holds (act_row k d full j r x) e
    go false e =
        let a = act_row k d full j r x in
        let did = row-did k d full j r x a e refl in
        shape-holds k j r (shape_for r x) a h (for-placed r x p) did.read

abbrev pub PlacedForm : Form → Type 0
PlacedForm ignored = Unit {0}
PlacedForm (wrong n) = Unit {0}
PlacedForm close = Unit {0}
PlacedForm eof = Unit {0}
PlacedForm (keyed key x) = Placed x

act-holds : (k : Known) (t : List Rule) (d : Digits) (full : List Bool) (f : Form) → all file_row t ≡ true → PlacedForm f → Holds (act k t d full f)
act-holds k t d full ignored h p = tt
act-holds k t d full (wrong n) h p = tt
act-holds k t d full close h p = by_cond Holds (complete d t full) (λ _. tt) (λ _. tt)
act-holds k t d full eof h p = tt
act-holds k t d full (keyed key x) h p = go (find key t) refl
  where
    unknown : (b : Bool) → Holds (or_refuse (unless b 5 (bad 6)))
    unknown true = tt
    unknown false = tt

    go : (f : Found) → find key t ≡ f → Holds (act_found k d full x f)
    go absent e = unknown (has_form (shape_of x))
    go (found j r) e = row-holds k d (get_or full j false) j r x (row-all file_row (found-row key t j r e).0 h) p

file-rows : (first : Bool) (p : ℕ) → PartOpen first p → all file_row (table_of (file_table_of first p)) ≡ true
unfolding table_of file_table range_table base_table elec_table sym_table later_table
file-rows false p o = refl
file-rows true zero o = refl
file-rows true (suc zero) o = refl
file-rows true (suc (suc zero)) o = refl
file-rows true (suc (suc (suc zero))) o = refl
file-rows true (suc (suc (suc (suc zero)))) o = refl
file-rows true (suc (suc (suc (suc (suc p))))) o = absurd (omega (arith, o.five))

pub file-holds : (k : Known) (first : Bool) (p : ℕ) (d : Digits) (full : List Bool) (f : Form) → PartOpen first p → PlacedForm f → Holds (act k (table_of (file_table_of first p)) d full f)
file-holds k first p d full f o h = act-holds k (table_of (file_table_of first p)) d full f (file-rows first p o) h
