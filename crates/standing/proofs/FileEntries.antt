-- What FILE_FORMAT's lines hold: next_file a name of the spool, a row of one number that number.
use Rattle.std.specs.Prelude.{Option, Some, None}
use Prim.Native.Nat.{ℕ}
use mathlib.Core.Bool.{Bool, true, false, cond}
use mathlib.Core.List.{List, [], ◌∷◌, map}
use mathlib.Core.Path.{◌≡◌, refl, sym, ◌∙◌, ap, subst}
use native.Mathlib.Omega.{arith}
use lib.IntN.{ℤ, pos, negsuc, nat_abs}
use lib.ListN.{length}
use Rattle.rules.specs.declared.Digits.{Digits}
use Rattle.rules.specs.declared.LineForm.{LineForm}
use Rattle.rules.specs.Base.{all, split}
use Rattle.rules.specs.RefusalNumbers.{got, keep}
use Rattle.rules.specs.Lines.{Rest, brace, equals, Form, Shape, opener, no_content, content, opening, formless, stem, by_stem, shape_of, free_shape_of, span, bytes_at, form_in}
use Rattle.rules.specs.Values.{Num, num, Value, empty, nums, chars, linked, Known, byte_in, letters_and_digits, capital, Part, range, Across, Kind, values, text, word, volume_name, sheet, ratio, serials, wire_serial, symbol_circle, nothing, opens, headed, either, is_free, read_part, read_all, agree, read_kind, amount, amount_at}
use Rattle.rules.specs.Rows.{Rule, fits, shape_for, Act, entry, begin, inner_of, read_shape, slot_value}
use Rattle.rules.specs.RecordTable.{numbers_of, columns, first_or0}
use Rattle.rules.proofs.Chains.{clash, never, map-got, keep-got, cons-got, unless-got}
use Rattle.entries.specs.Acts.{value_of}
use Rattle.account.specs.FileLines.{is_count}
use Rattle.standing.specs.FileStanding.{is_numbers}
use Rattle.standing.proofs.LineOrigins.{From, ContentKind, values-content, content-read}
use Rattle.account.proofs.FileParts.{capital-length}
use Rattle.standing.proofs.WordPlaces.{RestHere, rest-here}

-- ── next_file ──
abbrev ShapeHere : List ℕ → Shape → Type 0
ShapeHere spool opener = Unit {0}
ShapeHere spool no_content = Unit {0}
ShapeHere spool (content at c) = c ≡ bytes_at spool (span at (length c))
ShapeHere spool (opening at c) = Unit {0}
ShapeHere spool formless = Unit {0}

stem-here : (spool : List ℕ) (at : ℕ) (c : List ℕ) (o : Option (List ℕ)) → c ≡ bytes_at spool (span at (length c)) → ShapeHere spool (by_stem at c o)
stem-here spool at c None h = h
stem-here spool at c (Some []) h = tt
stem-here spool at c (Some (b ∷ t)) h = tt

shape-here : (spool : List ℕ) (r : Rest) → RestHere spool r → ShapeHere spool (shape_of r)
shape-here spool brace h = tt
shape-here spool (equals at []) h = tt
shape-here spool (equals at (b ∷ c)) h = stem-here spool at (b ∷ c) (stem (b ∷ c)) h

-- a volume's name: nothing, or bytes of the spool read as capitals
abbrev pub NameHere : List ℕ → Value → Type 0
NameHere spool empty = Unit {0}
NameHere spool (nums v) = ⊥
NameHere spool (chars at c) = c ≡ map capital (bytes_at spool (span at (length c)))
NameHere spool (linked n ps) = ⊥

name-here : (spool : List ℕ) (at : ℕ) (c : List ℕ) → c ≡ bytes_at spool (span at (length c)) → NameHere spool (chars at (map capital c))
name-here spool at c h = ap (map capital) h ∙ ap (λ (n : ℕ). map capital (bytes_at spool (span at n))) (sym (capital-length c))

name-read : (spool : List ℕ) (k : Known) (j : ℕ) (r : Rule) (s : Shape) (v : Value) → r.holds ≡ volume_name → ShapeHere spool s → read_shape k j r s ≡ got (entry j v) → NameHere spool v
name-read spool k j r opener v e h q = absurd (let z : ◌≡◌ {A = ℕ} 0 1 = cc in omega (arith, z))
name-read spool k j r no_content v e h q = let z : empty ≡ v = cc in subst (NameHere spool) z tt
name-read spool k j r (content at c) v e h q =
    let (w, p, t) = map-got (entry j) (read_kind k r.holds at c) (entry j v) q in
    let (b, u) = unless-got (all (byte_in letters_and_digits) c) 11 (got (chars at (map capital c))) w (ap (λ (d : Kind). read_kind k d at c) (sym e) ∙ p) in
    let z : chars at (map capital c) ≡ w = cc in
    subst (NameHere spool) (z ∙ ap value_of t) (name-here spool at c h)
name-read spool k j r (opening at c) v e h q = let (w, p, t) = map-got (begin (inner_of r.holds) j) (read_kind k r.holds at c) (entry j v) q in absurd (let z : ◌≡◌ {A = ℕ} 0 1 = cc in omega (arith, z))
name-read spool k j r formless v e h q = never q

shape_for_lem : (r : Rule) (x : Rest) → r.holds ≡ volume_name → shape_for r x ≡ shape_of x
shape_for_lem r x e = ap (λ (d : Kind). cond (is_free d) (free_shape_of x) (shape_of x)) e

pub name-value : (spool : List ℕ) (form : LineForm) (k : Known) (t : List Rule) (d : Digits) (full : List Bool) (f : Form) (j : ℕ) (v : Value) → f ≡ form_in spool form → (x : From k t d full f j (entry j v)) → x.rule.holds ≡ volume_name
    → NameHere spool v
name-value spool form k t d full f j v e x q =
    name-read spool k j x.rule (shape_for x.rule x.rest) v q (subst (ShapeHere spool) (sym (shape_for_lem x.rule x.rest q)) (shape-here spool x.rest (rest-here spool form k t d full f j (entry j v) x e))) x.did.read

-- it opens nothing
pub name-closed : (k : Known) (t : List Rule) (d : Digits) (full : List Bool) (f : Form) (i j : ℕ) (v : Value) → (x : From k t d full f j (begin i j v)) → x.rule.holds ≡ volume_name → ⊥
name-closed k t d full f i j v x q = go x.rule.may (shape_for x.rule x.rest) (ap (λ (h : Kind). fits h x.rule.may (shape_for x.rule x.rest)) (sym q) ∙ x.did.fit) x.did.read
  where
    go : (may : Bool) (s : Shape) → fits volume_name may s ≡ true → read_shape k j x.rule s ≡ got (begin i j v) → ⊥
    go true opener h e = clash h refl
    go false opener h e = clash h refl
    go may no_content h e = absurd (let z : ◌≡◌ {A = ℕ} 0 1 = cc in omega (arith, z))
    go may (content at c) h e = let (w, p, u) = map-got (entry j) (read_kind k x.rule.holds at c) (begin i j v) e in absurd (let z : ◌≡◌ {A = ℕ} 0 1 = cc in omega (arith, z))
    go true (opening at c) h e = clash h refl
    go false (opening at c) h e = clash h refl
    go may formless h e = never e

-- ── rows of one number ──
one-kind : (k : Known) (d : Kind) (at : ℕ) (c : List ℕ) (v : Value) → columns d ≡ 1 → read_kind k d at c ≡ got v → is_numbers (Some v) ≡ true
one-kind k (values p ps a) at c v h e = let (w, q, u) = map-got nums (keep 11 (agree a) (read_all k (p ∷ ps) (split 44 c))) v e in subst (λ (x : Value). is_numbers (Some x) ≡ true) u refl
one-kind k (text n b) at c v h e = absurd (omega (arith, h))
one-kind k (word n b) at c v h e = absurd (omega (arith, h))
one-kind k volume_name at c v h e = absurd (omega (arith, h))
one-kind k sheet at c v h e = absurd (omega (arith, h))
one-kind k ratio at c v h e = absurd (omega (arith, h))
one-kind k serials at c v h e = absurd (omega (arith, h))
one-kind k wire_serial at c v h e = absurd (omega (arith, h))
one-kind k symbol_circle at c v h e = absurd (omega (arith, h))
one-kind k nothing at c v h e = absurd (omega (arith, h))
one-kind k (opens i) at c v h e = absurd (omega (arith, h))
one-kind k (headed i p) at c v h e = let (w, q, u) = map-got (λ n. nums (n ∷ [])) (read_part k p c) v e in subst (λ (x : Value). is_numbers (Some x) ≡ true) u refl
one-kind k (either i) at c v h e = let (w, q, u) = map-got (λ n. nums (n ∷ [])) (read_part k (range 0 1) c) v e in subst (λ (x : Value). is_numbers (Some x) ≡ true) u refl

one-shape : (k : Known) (j : ℕ) (r : Rule) (s : Shape) (a : Act) → columns r.holds ≡ 1 → read_shape k j r s ≡ got a → is_numbers (Some (value_of a)) ≡ true
one-shape k j r opener a h e = let q : begin (inner_of r.holds) j (nums []) ≡ a = cc in subst (λ (x : Act). is_numbers (Some (value_of x)) ≡ true) q refl
one-shape k j r no_content a h e = let q : entry j empty ≡ a = cc in subst (λ (x : Act). is_numbers (Some (value_of x)) ≡ true) q refl
one-shape k j r (content at c) a h e = let (v, p, q) = map-got (entry j) (read_kind k r.holds at c) a e in subst (λ (x : Act). is_numbers (Some (value_of x)) ≡ true) q (one-kind k r.holds at c v h p)
one-shape k j r (opening at c) a h e = let (v, p, q) = map-got (begin (inner_of r.holds) j) (read_kind k r.holds at c) a e in subst (λ (x : Act). is_numbers (Some (value_of x)) ≡ true) q (one-kind k r.holds at c v h p)
one-shape k j r formless a h e = never e

pub one-numbers : (k : Known) (t : List Rule) (d : Digits) (full : List Bool) (f : Form) (j : ℕ) (a : Act) (x : From k t d full f j a) → columns x.rule.holds ≡ 1 → is_numbers (Some (value_of a)) ≡ true
one-numbers k t d full f j a x h = one-shape k j x.rule (shape_for x.rule x.rest) a h x.did.read

-- the number itself
one-read : (k : Known) (p : Part) (ss : List (List ℕ)) (w : List Num) → read_all k (p ∷ []) ss ≡ got w → (n : Num) × (w ≡ n ∷ [])
one-read k p [] w e = never e
one-read k p (s ∷ []) w e =
    let (n, u, g, h, q) = cons-got (read_part k p s) (read_all k [] []) w e in
    let z : [] ≡ u = cc in
    (n, sym q ∙ ap (λ (y : List Num). n ∷ y) (sym z))
one-read k p (s ∷ s' ∷ ss) w e = let (n, u, g, h, q) = cons-got (read_part k p s) (read_all k [] (s' ∷ ss)) w e in never h

one-values : (k : Known) (p : Part) (a : Across) (at : ℕ) (c : List ℕ) (v : Value) → read_kind k (values p [] a) at c ≡ got v → (n : Num) × (v ≡ nums (n ∷ []))
one-values k p a at c v e =
    let (w, q, u) = map-got nums (keep 11 (agree a) (read_all k (p ∷ []) (split 44 c))) v e in
    let (n, z) = one-read k p (split 44 c) w (keep-got 11 (agree a) (read_all k (p ∷ []) (split 44 c)) w q).0 in
    (n, sym u ∙ ap nums z)

pub one_number : (k : Known) (t : List Rule) (d : Digits) (full : List Bool) (f : Form) (j : ℕ) (v : Value) (p : Part) (a : Across) (x : From k t d full f j (entry j v)) → x.rule.holds ≡ values p [] a → x.rule.may ≡ false
    → (n : Num) × (v ≡ nums (n ∷ []))
one_number k t d full f j v p a x q m =
    let y = content-read k t d full f j v x (subst ContentKind (sym q) (values-content p [] a)) m in
    one-values k p a y.at y.bytes v (ap (λ (h : Kind). read_kind k h y.at y.bytes) (sym q) ∙ y.read)

-- ── a count as it is read back ──
amount_of_lem : (z : ℤ) → is_count z ≡ true → nat_abs z ≡ amount (num z)
amount_of_lem (pos n) e = refl
amount_of_lem (negsuc n) e = clash e refl

pub amount-back : (n : Num) → is_count n.value ≡ true → nat_abs n.value ≡ amount n
amount-back n e = amount_of_lem n.value e

pub count-back : (o : Option Value) → is_numbers o ≡ true → is_count (first_or0 (numbers_of o)) ≡ true → nat_abs (first_or0 (numbers_of o)) ≡ amount_at (slot_value o) 0
count-back None h e = refl
count-back (Some empty) h e = refl
count-back (Some (nums [])) h e = refl
count-back (Some (nums (n ∷ v))) h e = amount-back n e
count-back (Some (chars at c)) h e = clash h refl
count-back (Some (linked n ps)) h e = clash h refl
