-- What a line that a row took says of that row: it stands in the table, it was not full, and its numbers fill its places.
use Rattle.std.specs.Prelude.{Some}
use Prim.Native.Nat.{ℕ, suc, ◌+◌, ◌<◌}
use mathlib.Core.Bool.{Bool, true, false, cond, ◌&&◌}
use mathlib.Core.List.{List, [], ◌∷◌, map}
use mathlib.Core.Path.{◌≡◌, refl, sym, ◌∙◌, ap, subst}
use lib.Dec.{leb}
use lib.IntN.{ℤ}
use lib.ListN.{length, get_or}
use borrow.Author.Tests.{eq-eqb}
use Rattle.rules.specs.declared.Digits.{Digits}
use Rattle.rules.specs.Base.{all, same, split, cut}
use Rattle.rules.specs.RefusalNumbers.{Got, got, bad, unless, map_g, keep, or_bad}
use Rattle.rules.specs.Lines.{Rest, Form, ignored, wrong, close, eof, keyed, Shape, opener, no_content, content, opening, formless, has_form, shape_of}
use Rattle.rules.specs.Values.{Num, Value, empty, nums, chars, Known, byte_in, letters_and_digits, capital, Part, range, read_part, read_all, agree, Kind, values, text, word, volume_name, sheet, ratio, serials, wire_serial, symbol_circle, nothing, opens, headed, either, sheets, two_nums, find_sheet, good_ratio, with_one, ratio_parts, read_counts, read_ratio, most_partners, read_serials, linked_of, read_wire_serial, read_circle, read_kind}
use Rattle.rules.specs.Rows.{Rule, Found, absent, found, find, shape_for, Act, stay, entry, begin, shut, refuse, or_refuse, inner_of, read_shape, act_row, act_found, complete, act}
use Rattle.rules.specs.RecordTable.{numbers, columns, rule_at}
use Rattle.rules.proofs.Chains.{clash, never, none-some, unless-got, map-got, keep-got, or-got, cons-got, by_cond}
use Rattle.rules.proofs.Rows.{Row, found-row, row_at, row_below, is_refusal, row-did}
use Rattle.entries.specs.Entering.{On}
use Rattle.entries.proofs.WireSerials.{wire-long}
use Rattle.entries.proofs.Widths.{circle-long}
use Rattle.account.specs.Placing.{fills}

-- what holds of all that is read
pub on-got : {A : Type 0} (P : A → Type 0) (g : Got A) (v : A) → On P g → g ≡ got v → P v
on-got P (got w) v h e = let q : w ≡ v = cc in subst P q h
on-got P (bad n) v h e = never e

-- ── a content's numbers ──
length-values : (v : List Num) → length (map (λ n. n.value) v) ≡ length v
length-values [] = refl
length-values (n ∷ v) = ap suc (length-values v)

read_length : (k : Known) (ps : List Part) (ss : List (List ℕ)) (v : List Num) → read_all k ps ss ≡ got v → length v ≡ length ps
read_length k [] [] v e = let q : [] ≡ v = cc in ap length (sym q)
read_length k [] (s ∷ ss) v e = never e
read_length k (p ∷ ps) [] v e = never e
read_length k (p ∷ ps) (s ∷ ss) v e =
    let (a, w, g, h, q) = cons-got (read_part k p s) (read_all k ps ss) v e in ap length (sym q) ∙ ap suc (read_length k ps ss w h)

-- as many numbers as places
full : (d : Kind) (zs : List ℤ) → length zs ≡ columns d → fills d zs ≡ true
full d [] h = refl
full d (z ∷ zs) h = eq-eqb (length (z ∷ zs)) (columns d) h

two_of-sheet : (s : List ℕ) (as' : List (List ℕ × ℕ × ℕ)) (v : List Num) → find_sheet s as' ≡ Some v → length v ≡ 2
two_of-sheet s [] v e = none-some e
two_of-sheet s (a ∷ as') v e = go (same s a.0) (two_of-sheet s as' v) e
  where
    go : (b : Bool) → (find_sheet s as' ≡ Some v → length v ≡ 2) → cond b (Some (two_nums a.1 a.2)) (find_sheet s as') ≡ Some v → length v ≡ 2
    go true ih e = let q : two_nums a.1 a.2 ≡ v = cc in ap length (sym q)
    go false ih e = ih e

two_of-ratio : (v : List Num) → good_ratio v ≡ true → length (with_one v) ≡ 2
two_of-ratio [] h = clash h refl
two_of-ratio (p ∷ []) h = refl
two_of-ratio (p ∷ q ∷ []) h = refl
two_of-ratio (p ∷ q ∷ r ∷ v) h = clash h refl

text-fills : (d : Kind) (t : Bool) (at : ℕ) (c : List ℕ) (v : Value) → columns d ≡ 2 → unless t 11 (got (chars at c)) ≡ got v → fills d (numbers v) ≡ true
text-fills d t at c v h e =
    let (a, b) = unless-got t 11 (got (chars at c)) v e in
    let q : chars at c ≡ v = cc in
    subst (λ (v : Value). fills d (numbers v) ≡ true) q (full d (numbers (chars at c)) (sym h))

nums-fills : (d : Kind) (g : Got (List Num)) (v : Value) → ((w : List Num) → g ≡ got w → length w ≡ columns d) → map_g nums g ≡ got v → fills d (numbers v) ≡ true
nums-fills d g v h e =
    let (w, p, q) = map-got nums g v e in
    subst (λ (v : Value). fills d (numbers v) ≡ true) q (full d (numbers (nums w)) (length-values w ∙ h w p))

one-fills : (d : Kind) (g : Got Num) (v : Value) → columns d ≡ 1 → map_g (λ n. nums (n ∷ [])) g ≡ got v → fills d (numbers v) ≡ true
one-fills d g v h e =
    let (n, p, q) = map-got (λ n. nums (n ∷ [])) g v e in
    subst (λ (v : Value). fills d (numbers v) ≡ true) q (full d (numbers (nums (n ∷ []))) (sym h))

serials-fill : (ns : List ℕ) → fills serials (numbers (linked_of ns)) ≡ true
serials-fill [] = refl
serials-fill (n ∷ ns) = refl

kind-fills : (k : Known) (d : Kind) (at : ℕ) (c : List ℕ) (v : Value) → read_kind k d at c ≡ got v → fills d (numbers v) ≡ true
kind-fills k (values p ps a) at c v e =
    nums-fills (values p ps a) (keep 11 (agree a) (read_all k (p ∷ ps) (split 44 c))) v (λ w h. read_length k (p ∷ ps) (split 44 c) w (keep-got 11 (agree a) (read_all k (p ∷ ps) (split 44 c)) w h).0) e
kind-fills k (text n b) at c v e = text-fills (text n b) (all (byte_in b) c && leb (length c) n) at c v refl e
kind-fills k (word n b) at c v e = text-fills (word n b) (all (byte_in b) c && leb (length c) n) at c v refl e
kind-fills k volume_name at c v e = text-fills volume_name (all (byte_in letters_and_digits) c) at (map capital c) v refl e
kind-fills k sheet at c v e = nums-fills sheet (or_bad 11 (find_sheet c sheets)) v (λ w h. two_of-sheet c sheets w (or-got 11 (find_sheet c sheets) w h)) e
kind-fills k ratio at c v e = nums-fills ratio (read_ratio c) v two e
  where
    two : (w : List Num) → read_ratio c ≡ got w → length w ≡ 2
    two w h =
        let g = read_counts (ratio_parts (cut 47 c) (c ∷ [])) in
        let (u, p, q) = map-got with_one (keep 11 good_ratio g) w h in ap length (sym q) ∙ two_of-ratio u (keep-got 11 good_ratio g u p).1
kind-fills k serials at c v e =
    let (ns, p, q) = map-got linked_of (keep 11 (λ ns. leb (length ns) (most_partners + 1)) (read_serials (split 44 c))) v e in
    subst (λ (v : Value). fills serials (numbers v) ≡ true) q (serials-fill ns)
kind-fills k wire_serial at c v e =
    nums-fills wire_serial (read_wire_serial (split 44 c)) v (λ w h. on-got (λ u. length u ≡ 5) (read_wire_serial (split 44 c)) w (wire-long (split 44 c)) h) e
kind-fills k symbol_circle at c v e =
    nums-fills symbol_circle (read_circle k (split 44 c)) v (λ w h. on-got (λ u. length u ≡ 7) (read_circle k (split 44 c)) w (circle-long k (split 44 c)) h) e
kind-fills k nothing at c v e = never e
kind-fills k (opens i) at c v e = never e
kind-fills k (headed i p) at c v e = one-fills (headed i p) (read_part k p c) v refl e
kind-fills k (either i) at c v e = one-fills (either i) (read_part k (range 0 1) c) v refl e

-- ── a line's value ──
pub record Taken (t : List Rule) (full : List Bool) (j : ℕ) (v : Value) : Type 0 where
  pub row : j < length t
  pub free : get_or full j false ≡ false
  pub fill : fills (rule_at t j).holds (numbers v) ≡ true

abbrev RowTaken : Rule → ℕ → Act → Type 0
RowTaken r j stay = ⊥
RowTaken r j (entry i v) = (i ≡ j) × (fills r.holds (numbers v) ≡ true)
RowTaken r j (begin i h v) = (h ≡ j) × (fills r.holds (numbers v) ≡ true)
RowTaken r j shut = ⊥
RowTaken r j (refuse n) = Unit {0}

shape-taken : (k : Known) (j : ℕ) (r : Rule) (s : Shape) (a : Act) → read_shape k j r s ≡ got a → RowTaken r j a
shape-taken k j r opener a e = let q : begin (inner_of r.holds) j (nums []) ≡ a = cc in subst (RowTaken r j) q (refl, refl)
shape-taken k j r no_content a e = let q : entry j empty ≡ a = cc in subst (RowTaken r j) q (refl, refl)
shape-taken k j r (content at c) a e =
    let (v, p, q) = map-got (entry j) (read_kind k r.holds at c) a e in subst (RowTaken r j) q (refl, kind-fills k r.holds at c v p)
shape-taken k j r (opening at c) a e =
    let (v, p, q) = map-got (begin (inner_of r.holds) j) (read_kind k r.holds at c) a e in subst (RowTaken r j) q (refl, kind-fills k r.holds at c v p)
shape-taken k j r formless a e = never e

-- what any act says of the table that it is an act of
abbrev pub TableTaken : List Rule → List Bool → Act → Type 0
TableTaken t full stay = Unit {0}
TableTaken t full (entry j v) = Taken t full j v
TableTaken t full (begin i j v) = Taken t full j v
TableTaken t full shut = Unit {0}
TableTaken t full (refuse n) = Unit {0}

refusal-taken : (t : List Rule) (full : List Bool) (a : Act) → is_refusal a ≡ true → TableTaken t full a
refusal-taken t full stay e = tt
refusal-taken t full (entry j v) e = clash e refl
refusal-taken t full (begin i j v) e = clash e refl
refusal-taken t full shut e = tt
refusal-taken t full (refuse n) e = tt

-- the act of a row of the table
from_row : (t : List Rule) (full : List Bool) (j : ℕ) (r : Rule) (a : Act) → Row t j r → get_or full j false ≡ false → RowTaken r j a → TableTaken t full a
from_row t full j r stay w h q = tt
from_row t full j r (entry i v) w h q =
    subst (λ (m : ℕ). Taken t full m v) (sym q.0) (record { row = row_below w; free = h; fill = subst (λ (x : Rule). fills x.holds (numbers v) ≡ true) (sym (row_at w _)) q.1 })
from_row t full j r (begin n i v) w h q =
    subst (λ (m : ℕ). Taken t full m v) (sym q.0) (record { row = row_below w; free = h; fill = subst (λ (x : Rule). fills x.holds (numbers v) ≡ true) (sym (row_at w _)) q.1 })
from_row t full j r shut w h q = tt
from_row t full j r (refuse n) w h q = tt

row-taken : (k : Known) (t : List Rule) (d : Digits) (full : List Bool) (j : ℕ) (r : Rule) (x : Rest) → Row t j r → TableTaken t full (act_row k d (get_or full j false) j r x)
row-taken k t d full j r x w = go (is_refusal (act_row k d (get_or full j false) j r x)) refl
  where
    go : (b : Bool) → is_refusal (act_row k d (get_or full j false) j r x) ≡ b → TableTaken t full (act_row k d (get_or full j false) j r x)
    go true e = refusal-taken t full (act_row k d (get_or full j false) j r x) e
    go false e =
        let a = act_row k d (get_or full j false) j r x in
        let did = row-did k d (get_or full j false) j r x a e refl in
        from_row t full j r a w did.open_yet (shape-taken k j r (shape_for r x) a did.read)

pub act-taken : (k : Known) (t : List Rule) (d : Digits) (full : List Bool) (f : Form) → TableTaken t full (act k t d full f)
act-taken k t d full ignored = tt
act-taken k t d full (wrong n) = tt
act-taken k t d full close = by_cond (TableTaken t full) (complete d t full) (λ q. tt) (λ q. tt)
act-taken k t d full eof = tt
act-taken k t d full (keyed key x) = go (find key t) refl
  where
    unknown : (b : Bool) → TableTaken t full (or_refuse (unless b 5 (bad 6)))
    unknown true = tt
    unknown false = tt

    go : (f : Found) → find key t ≡ f → TableTaken t full (act_found k d full x f)
    go absent e = unknown (has_form (shape_of x))
    go (found j r) e = row-taken k t d full j r x (found-row key t j r e).0

pub entry-taken : (k : Known) (t : List Rule) (d : Digits) (full : List Bool) (f : Form) (j : ℕ) (v : Value) → act k t d full f ≡ entry j v → Taken t full j v
entry-taken k t d full f j v e = subst (TableTaken t full) e (act-taken k t d full f)

pub begin-taken : (k : Known) (t : List Rule) (d : Digits) (full : List Bool) (f : Form) (i j : ℕ) (v : Value) → act k t d full f ≡ begin i j v → Taken t full j v
begin-taken k t d full f i j v e = subst (TableTaken t full) e (act-taken k t d full f)
