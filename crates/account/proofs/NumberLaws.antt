-- Own numbers as they are kept: what one of them holds, their order, one more among them; and what stands in the contents they were read from.
use Rattle.std.specs.Prelude.{Some}
use Prim.Native.Nat.{ℕ, zero, suc, ◌+◌, ◌*◌, ◌-◌, ◌/◌, ◌%◌, ◌<◌, ◌≤◌, ◌^◌}
use mathlib.Core.Bool.{Bool, true, false, cond, ◌&&◌, ◌||◌}
use mathlib.Core.List.{List, [], ◌∷◌, ◌++◌, map, append-nil}
use mathlib.Core.Path.{◌≡◌, refl, sym, ◌∙◌, ap, subst}
use native.Mathlib.Omega.{arith}
use lib.Dec.{eqb, leb, ltb}
use lib.IntN.{pos}
use lib.ListN.{length, get_or, set, take, drop, length-append, length-drop}
use lib.Seq.{take_at, length-take-le, get_or-set_same}
use borrow.Author.Tests.{ltb-true, ltb-false, lt-ltb, le-ltb, leb-true, eqb-false, ne_eqb}
use Rattle.rules.specs.declared.Span.{Span}
use Rattle.rules.specs.Base.{all, flat, has_number, is_nil, total, head_onto, split, within}
use Rattle.rules.specs.RefusalNumbers.{got, map_g, or_bad, cons_g}
use Rattle.rules.specs.Lines.{equals, span, bytes_at}
use Rattle.rules.specs.Numbers.{is_digit, digit_run, value, read_count}
use Rattle.rules.specs.Values.{Num, num, nums, two_nums, natural, read_serials, read_partner, read_wire_serial, amount_at}
use Rattle.rules.specs.Sets.{given_partner, wire_partners}
use Rattle.rules.proofs.Chains.{and_left, and_right, and_true, all_append, clash, never, cond-some, or-got, map-got, cons-got}
use Rattle.leaves.proofs.Bounds.{count-below}
use Rattle.account.specs.Numbering.{tally_serials, tally_length}
use Rattle.leaves.proofs.Digits.{value_lt}
use Rattle.account.specs.SerialNumbers.{places, lengths, spans, own_numbers, kept_number, own_of, span_of, owns_of, ascending, place_for, content_at, inserted, kept_among, serial_count, kept_in, number_in, partners_in, partners_at}

-- ── a number that is kept ──
module _ (own : ℕ) (at : Span) where
  pub own-kept : own_of (kept_number own at) ≡ own
  own-kept = omega arith

  pub span-kept : span_of (kept_number own at) ≡ span (at.at % places) (at.len % lengths)
  span-kept =
      let k : ℕ = kept_number own at in
      let place : k % spans / lengths ≡ at.at % places = omega arith in
      let long : k % lengths ≡ at.len % lengths = omega arith in
      ap (λ (n : ℕ). span n (k % lengths)) place ∙ ap (span (at.at % places)) long

  pub span-back : at.at < places → at.len < lengths → span_of (kept_number own at) ≡ at
  span-back h l =
      let place : at.at % places ≡ at.at = omega (arith, h) in
      let long : at.len % lengths ≡ at.len = omega (arith, l) in
      span-kept ∙ ap (λ (n : ℕ). span n (at.len % lengths)) place ∙ ap (span at.at) long

-- ── their order ──
-- the first of them is above a number
abbrev above : ℕ → List ℕ → Bool
above o [] = true
above o (l ∷ ks) = ltb o (own_of l)

ascending-cons : (k : ℕ) (ks : List ℕ) → ascending (k ∷ ks) ≡ (above (own_of k) ks && ascending ks)
ascending-cons k [] = refl
ascending-cons k (l ∷ ks) = refl

above_less : (o p : ℕ) (ks : List ℕ) → o ≤ p → above p ks ≡ true → above o ks ≡ true
above_less o p [] h e = refl
above_less o p (l ∷ ks) h e = lt-ltb o (own_of l) (omega (arith, h, ltb-true p (own_of l) e))

-- all of them are
above-all : (o : ℕ) (ks : List ℕ) → above o ks ≡ true → ascending ks ≡ true → (i : ℕ) → i < length ks → o < own_of (get_or ks i 0)
above-all o [] e a i h = absurd (omega (arith, h))
above-all o (l ∷ ks) e a zero h = ltb-true o (own_of l) e
above-all o (l ∷ ks) e a (suc i) h =
    let b : (above (own_of l) ks && ascending ks) ≡ true = sym (ascending-cons l ks) ∙ a in
    let g : own_of l < own_of (get_or ks i 0) = above-all (own_of l) ks (and_left (above (own_of l) ks) (ascending ks) b) (and_right (above (own_of l) ks) (ascending ks) b) i (omega (arith, h)) in
    omega (arith, g, ltb-true o (own_of l) e)

above-none : (o : ℕ) (ks : List ℕ) → above o ks ≡ true → ascending ks ≡ true → (n : ℕ) → n ≤ o → has_number n (owns_of ks) ≡ false
above-none o [] e a n h = refl
above-none o (l ∷ ks) e a n h =
    let b : (above (own_of l) ks && ascending ks) ≡ true = sym (ascending-cons l ks) ∙ a in
    let g : o < own_of l = ltb-true o (own_of l) e in
    let here : eqb n (own_of l) ≡ false = ne_eqb n (own_of l) (λ q. omega (arith, g, h, q)) in
    let later : has_number n (owns_of ks) ≡ false = above-none (own_of l) ks (and_left (above (own_of l) ks) (ascending ks) b) (and_right (above (own_of l) ks) (ascending ks) b) n (omega (arith, g, h)) in
    ap (λ (t : Bool). t || has_number n (owns_of ks)) here ∙ later

-- ── one more among them ──
or_swap : (a b c : Bool) → (a || (b || c)) ≡ (b || (a || c))
or_swap true true c = refl
or_swap true false c = refl
or_swap false true c = refl
or_swap false false c = refl

and-swap : (a b c : Bool) → (a && (b && c)) ≡ (b && (a && c))
and-swap true true c = refl
and-swap true false c = refl
and-swap false true c = refl
and-swap false false c = refl

pub has-inserted : (n k : ℕ) (ks : List ℕ) → has_number n (owns_of (inserted k ks)) ≡ (eqb n (own_of k) || has_number n (owns_of ks))
has-inserted n k [] = refl
has-inserted n k (l ∷ ks) = go (ltb (own_of l) (own_of k)) (has-inserted n k ks)
  where
    go : (t : Bool) → has_number n (owns_of (inserted k ks)) ≡ (eqb n (own_of k) || has_number n (owns_of ks))
        → has_number n (owns_of (cond t (l ∷ inserted k ks) (k ∷ l ∷ ks))) ≡ (eqb n (own_of k) || has_number n (owns_of (l ∷ ks)))
    go true e = ap (λ (t : Bool). eqb n (own_of l) || t) e ∙ or_swap (eqb n (own_of l)) (eqb n (own_of k)) (has_number n (owns_of ks))
    go false e = refl

above-inserted : (o k : ℕ) (ks : List ℕ) → o < own_of k → above o ks ≡ true → above o (inserted k ks) ≡ true
above-inserted o k [] h e = lt-ltb o (own_of k) h
above-inserted o k (l ∷ ks) h e = go (ltb (own_of l) (own_of k))
  where
    go : (t : Bool) → above o (cond t (l ∷ inserted k ks) (k ∷ l ∷ ks)) ≡ true
    go true = e
    go false = lt-ltb o (own_of k) h

or_left_false : (a b : Bool) → (a || b) ≡ false → a ≡ false
or_left_false true b e = e
or_left_false false b e = refl

or_right_false : (a b : Bool) → (a || b) ≡ false → b ≡ false
or_right_false true b e = clash refl e
or_right_false false b e = e

less_of_lem : (x y : ℕ) → x ≤ y → (x ≡ y → ⊥) → x < y
less_of_lem x y h d = omega (arith, h, d)

pub ascending-inserted : (k : ℕ) (ks : List ℕ) → ascending ks ≡ true → has_number (own_of k) (owns_of ks) ≡ false → ascending (inserted k ks) ≡ true
ascending-inserted k [] a n = refl
ascending-inserted k (l ∷ ks) a n = go (ltb (own_of l) (own_of k)) refl (ascending-inserted k ks)
  where
    both : (above (own_of l) ks && ascending ks) ≡ true
    both = sym (ascending-cons l ks) ∙ a

    go : (t : Bool) → ltb (own_of l) (own_of k) ≡ t → (ascending ks ≡ true → has_number (own_of k) (owns_of ks) ≡ false → ascending (inserted k ks) ≡ true)
        → ascending (cond t (l ∷ inserted k ks) (k ∷ l ∷ ks)) ≡ true
    go true e more =
        ascending-cons l (inserted k ks)
        ∙ and_true (above (own_of l) (inserted k ks)) (ascending (inserted k ks))
        (above-inserted (own_of l) k ks (ltb-true (own_of l) (own_of k) e) (and_left (above (own_of l) ks) (ascending ks) both))
        (more (and_right (above (own_of l) ks) (ascending ks) both) (or_right_false (eqb (own_of k) (own_of l)) (has_number (own_of k) (owns_of ks)) n))
    go false e more =
        let differ = eqb-false (own_of k) (own_of l) (or_left_false (eqb (own_of k) (own_of l)) (has_number (own_of k) (owns_of ks)) n) in
        let less : own_of k < own_of l = less_of_lem (own_of k) (own_of l) (ltb-false (own_of l) (own_of k) e) differ in
        and_true (ltb (own_of k) (own_of l)) (ascending (l ∷ ks)) (lt-ltb (own_of k) (own_of l) less) a

-- what holds of all that each of them gives
pub all_inserted : (p : ℕ → Bool) (f : ℕ → List ℕ) (k : ℕ) (ks : List ℕ) → all p (flat (map f (inserted k ks))) ≡ (all p (f k) && all p (flat (map f ks)))
all_inserted p f k [] = all_append p (f k) []
all_inserted p f k (l ∷ ks) = go (ltb (own_of l) (own_of k)) (all_inserted p f k ks)
  where
    go : (t : Bool) → all p (flat (map f (inserted k ks))) ≡ (all p (f k) && all p (flat (map f ks)))
        → all p (flat (map f (cond t (l ∷ inserted k ks) (k ∷ l ∷ ks)))) ≡ (all p (f k) && all p (flat (map f (l ∷ ks))))
    go true e =
        all_append p (f l) (flat (map f (inserted k ks)))
        ∙ ap (λ (t : Bool). all p (f l) && t) e
        ∙ and-swap (all p (f l)) (all p (f k)) (all p (flat (map f ks)))
        ∙ ap (λ (t : Bool). all p (f k) && t) (sym (all_append p (f l) (flat (map f ks))))
    go false e = all_append p (f k) (f l ++ flat (map f ks))

pub length_inserted : (k : ℕ) (ks : List ℕ) → length (inserted k ks) ≡ suc (length ks)
length_inserted k [] = refl
length_inserted k (l ∷ ks) = go (ltb (own_of l) (own_of k)) (length_inserted k ks)
  where
    go : (t : Bool) → length (inserted k ks) ≡ suc (length ks) → length (cond t (l ∷ inserted k ks) (k ∷ l ∷ ks)) ≡ suc (length (l ∷ ks))
    go true e = ap suc e
    go false e = refl

module _ (n k : ℕ) (ks : List ℕ) (h : n < length ks) where
  long-among : length (inserted k (take n ks)) ≡ suc n
  long-among = length_inserted k (take n ks) ∙ ap suc (length-take-le n ks (omega (arith, h)))

  pub take-among : take (suc n) (kept_among n k ks) ≡ inserted k (take n ks)
  take-among = take_at (inserted k (take n ks)) (drop (suc n) ks) (suc n) long-among

  pub length-among : length (kept_among n k ks) ≡ length ks
  length-among =
      let a = length-append (inserted k (take n ks)) (drop (suc n) ks) in
      let d = length-drop (suc n) ks in
      omega (arith, a, d, long-among, h)

-- those that are kept, behind a line that kept one more
pub kept-after : (k : ℕ) (tally serials : List ℕ) → length tally ≡ tally_length → serial_count tally < length serials
    → kept_in (set tally tally_serials (serial_count tally + 1)) (kept_among (serial_count tally) k serials) ≡ inserted k (kept_in tally serials)
kept-after k tally serials h l =
    let one : serial_count (set tally tally_serials (serial_count tally + 1)) ≡ suc (serial_count tally) =
    get_or-set_same tally tally_serials (serial_count tally + 1) 0 (omega (arith, h)) ∙ add-one (serial_count tally) in
    ap (λ (n : ℕ). take n (kept_among (serial_count tally) k serials)) one ∙ take-among (serial_count tally) k serials l
  where
    add-one : (n : ℕ) → n + 1 ≡ suc n
    add-one n = omega arith

-- ── the place of an own number ──
pub place-length : (own : ℕ) (ks : List ℕ) → place_for own ks ≤ length ks
place-length own [] = omega arith
place-length own (k ∷ ks) = go (ltb (own_of k) own) (place-length own ks)
  where
    go : (t : Bool) → place_for own ks ≤ length ks → cond t (suc (place_for own ks)) 0 ≤ suc (length ks)
    go true h = omega (arith, h)
    go false h = omega arith

-- a number below it stands before that place
pub place-past : (own : ℕ) (ks : List ℕ) (i : ℕ) → ascending ks ≡ true → i < length ks → own_of (get_or ks i 0) < own → i < place_for own ks
place-past own [] i a h l = absurd (omega (arith, h))
place-past own (k ∷ ks) zero a h l = rw (lt-ltb (own_of k) own l) (omega arith)
place-past own (k ∷ ks) (suc i) a h l =
    let b : (above (own_of k) ks && ascending ks) ≡ true = sym (ascending-cons k ks) ∙ a in
    let asc : ascending ks ≡ true = and_right (above (own_of k) ks) (ascending ks) b in
    let g : own_of k < own_of (get_or ks i 0) = above-all (own_of k) ks (and_left (above (own_of k) ks) (ascending ks) b) asc i (omega (arith, h)) in
    let p : i < place_for own ks = place-past own ks i asc (omega (arith, h)) l in
    rw (lt-ltb (own_of k) own (omega (arith, g, l))) (omega (arith, p))

-- the others don't
pub place_upto : (own : ℕ) (ks : List ℕ) (i : ℕ) → i < length ks → own ≤ own_of (get_or ks i 0) → place_for own ks ≤ i
place_upto own [] i h l = absurd (omega (arith, h))
place_upto own (k ∷ ks) zero h l = rw (le-ltb (own_of k) own l) (omega arith)
place_upto own (k ∷ ks) (suc i) h l = go (ltb (own_of k) own) (place_upto own ks i (omega (arith, h)) l)
  where
    go : (t : Bool) → place_for own ks ≤ i → cond t (suc (place_for own ks)) 0 ≤ suc i
    go true p = omega (arith, p)
    go false p = omega arith

-- an own number is there where it stands at its place
pub has-none : (own : ℕ) (ks : List ℕ) → length ks ≤ place_for own ks → has_number own (owns_of ks) ≡ false
has-none own [] h = refl
has-none own (k ∷ ks) h = go (ltb (own_of k) own) refl (has-none own ks) h
  where
    go : (t : Bool) → ltb (own_of k) own ≡ t → (length ks ≤ place_for own ks → has_number own (owns_of ks) ≡ false) → suc (length ks) ≤ cond t (suc (place_for own ks)) 0
        → has_number own (owns_of (k ∷ ks)) ≡ false
    go true e more l =
        let g : own_of k < own = ltb-true (own_of k) own e in
        ap (λ (t : Bool). t || has_number own (owns_of ks)) (ne_eqb own (own_of k) (λ q. omega (arith, g, q))) ∙ more (omega (arith, l))
    go false e more l = absurd (omega (arith, l))

pub has-at : (own : ℕ) (ks : List ℕ) → ascending ks ≡ true → place_for own ks < length ks → has_number own (owns_of ks) ≡ eqb own (own_of (get_or ks (place_for own ks) 0))
has-at own [] a h = absurd (omega (arith, h))
has-at own (k ∷ ks) a h = go (ltb (own_of k) own) refl (has-at own ks) h
  where
    both : (above (own_of k) ks && ascending ks) ≡ true
    both = sym (ascending-cons k ks) ∙ a

    asc : ascending ks ≡ true
    asc = and_right (above (own_of k) ks) (ascending ks) both

    or-none : (t : Bool) → (t || false) ≡ t
    or-none true = refl
    or-none false = refl

    go : (t : Bool) → ltb (own_of k) own ≡ t → (ascending ks ≡ true → place_for own ks < length ks → has_number own (owns_of ks) ≡ eqb own (own_of (get_or ks (place_for own ks) 0)))
        → cond t (suc (place_for own ks)) 0 < suc (length ks) → has_number own (owns_of (k ∷ ks)) ≡ eqb own (own_of (get_or (k ∷ ks) (cond t (suc (place_for own ks)) 0) 0))
    go true e more l =
        let g : own_of k < own = ltb-true (own_of k) own e in
        ap (λ (t : Bool). t || has_number own (owns_of ks)) (ne_eqb own (own_of k) (λ q. omega (arith, g, q))) ∙ more asc (omega (arith, l))
    go false e more l =
        let None : has_number own (owns_of ks) ≡ false = above-none (own_of k) ks (and_left (above (own_of k) ks) (ascending ks) both) asc own (ltb-false (own_of k) own e) in
        ap (λ (t : Bool). eqb own (own_of k) || t) None ∙ or-none (eqb own (own_of k))

-- one more stands at its own number's place
pub inserted-at : (k : ℕ) (ks : List ℕ) → inserted k ks ≡ take (place_for (own_of k) ks) ks ++ k ∷ drop (place_for (own_of k) ks) ks
inserted-at k [] = refl
inserted-at k (l ∷ ks) = go (ltb (own_of l) (own_of k)) (inserted-at k ks)
  where
    go : (t : Bool) → inserted k ks ≡ take (place_for (own_of k) ks) ks ++ k ∷ drop (place_for (own_of k) ks) ks
        → cond t (l ∷ inserted k ks) (k ∷ l ∷ ks) ≡ take (cond t (suc (place_for (own_of k) ks)) 0) (l ∷ ks) ++ k ∷ drop (cond t (suc (place_for (own_of k) ks)) 0) (l ∷ ks)
    go true e = ap (λ (s : List ℕ). l ∷ s) e
    go false e = refl

-- ── where a content stands ──
take_own : (n : ℕ) (s : List ℕ) → take (length (take n s)) s ≡ take n s
take_own zero s = refl
take_own (suc n) [] = refl
take_own (suc n) (b ∷ s) = ap (λ (u : List ℕ). b ∷ u) (take_own n s)

-- what a kept number finds again is the content that it was read from
pub partners-kept : (s : List ℕ) (own : ℕ) (p : Span) → p.at < places → length (bytes_at s p) < lengths
    → partners_at s (kept_number own (content_at (equals p.at (bytes_at s p)))) ≡ partners_in (bytes_at s p)
partners-kept s own p h l =
    ap (λ (q : Span). partners_in (bytes_at s q)) (span-back own (span p.at (length (bytes_at s p))) h l)
    ∙ ap partners_in (take_own p.len (drop p.at s))

-- ── a content by its pieces ──
-- every piece counts with the comma behind it
abbrev with_comma : List ℕ → ℕ
with_comma p = suc (length p)

head-total : (b : ℕ) (ps : List (List ℕ)) → 0 < total with_comma ps → total with_comma (head_onto b ps) ≡ suc (total with_comma ps)
head-total b [] h = absurd (omega (arith, h))
head-total b (p ∷ ps) h = omega arith

split-total : (c : List ℕ) → total with_comma (split 44 c) ≡ suc (length c)
split-total [] = refl
split-total (b ∷ c) = go (eqb b 44) (split-total c)
  where
    go : (t : Bool) → total with_comma (split 44 c) ≡ suc (length c) → total with_comma (cond t ([] ∷ split 44 c) (head_onto b (split 44 c))) ≡ suc (suc (length c))
    go true e = omega (arith, e)
    go false e = head-total b (split 44 c) (omega (arith, e)) ∙ ap suc e

-- a serial number has one to ten digits
module _ (p : List ℕ) (n : ℕ) (e : read_count 10 p ≡ Some n) where
  run : digit_run 1 10 p ≡ true
  run = (cond-some (digit_run 1 10 p) (value p) n e).0

  long-run : within 1 10 (length p) ≡ true
  long-run = and_right (all is_digit p) (within 1 10 (length p)) run

  serial-short : length p ≤ 10
  serial-short = leb-true (length p) 10 (and_right (leb 1 (length p)) (leb (length p) 10) long-run)

  serial-some : 1 ≤ length p
  serial-some = leb-true 1 (length p) (and_left (leb 1 (length p)) (leb (length p) 10) long-run)

  serial-below : n < own_numbers
  serial-below = count-below 10 p n (e)

  number_in_lem : number_in (read_count 10 p) ≡ n ∷ []
  number_in_lem = ap number_in e

-- the numbers that stand in pieces
abbrev pub numbers_of : List (List ℕ) → List ℕ
numbers_of ps = flat (map (λ p. number_in (read_count 10 p)) ps)

-- ── a symbol's serial ──
serials-all : (ps : List (List ℕ)) (ns : List ℕ) → read_serials ps ≡ got ns → (numbers_of ps ≡ ns) × (total with_comma ps ≤ 11 * length ns)
serials-all [] ns e = let q : [] ≡ ns = cc in subst (λ (ns : List ℕ). (◌≡◌ {A = List ℕ} [] ns) × (0 ≤ 11 * length ns)) q (refl, omega arith)
serials-all (p ∷ ps) ns e = go (cons-got (or_bad 10 (read_count 10 p)) (read_serials ps) ns e) (serials-all ps)
  where
    go : (n : ℕ) × (ms : List ℕ) × (or_bad 10 (read_count 10 p) ≡ got n) × (read_serials ps ≡ got ms) × (n ∷ ms ≡ ns)
        → ((ms : List ℕ) → read_serials ps ≡ got ms → (numbers_of ps ≡ ms) × (total with_comma ps ≤ 11 * length ms)) → (numbers_of (p ∷ ps) ≡ ns) × (total with_comma (p ∷ ps) ≤ 11 * length ns)
    go (n, ms, f, g, q) more =
        let r : read_count 10 p ≡ Some n = or-got 10 (read_count 10 p) n f in
        let rest = more ms g in
        subst (λ (ns : List ℕ). (numbers_of (p ∷ ps) ≡ ns) × (total with_comma (p ∷ ps) ≤ 11 * length ns)) q
        (ap (λ (u : List ℕ). u ++ numbers_of ps) (number_in_lem p n r) ∙ ap (λ (u : List ℕ). n ∷ u) rest.0, omega (arith, rest.1, serial-short p n r))

serials-later : (ps : List (List ℕ)) (ns : List ℕ) → read_serials ps ≡ got ns → numbers_of (drop 1 ps) ≡ drop 1 ns
serials-later [] ns e = let q : [] ≡ ns = cc in ap (drop 1) q
serials-later (p ∷ ps) ns e =
    let u = cons-got (or_bad 10 (read_count 10 p)) (read_serials ps) ns e in
    (serials-all ps u.1 u.3).0 ∙ ap (drop 1) u.4

module _ (c ns : List ℕ) (e : read_serials (split 44 c) ≡ got ns) where
  -- "partners": all but the first
  pub serials-partners : partners_in c ≡ drop 1 ns
  serials-partners = serials-later (split 44 c) ns e

  pub serials-short : length ns ≤ 101 → length c < lengths
  serials-short h = omega (arith, h, (serials-all (split 44 c) ns e).1, split-total c)

  -- the own number
  pub serials-own : (n : ℕ) (ms : List ℕ) → ns ≡ n ∷ ms → n < own_numbers
  serials-own n ms q = go (split 44 c) (e ∙ ap got q)
    where
      go : (ps : List (List ℕ)) → read_serials ps ≡ got (n ∷ ms) → n < own_numbers
      go [] f = absurd (let z : ◌≡◌ {A = ℕ} 0 1 = cc in omega arith)
      go (p ∷ ps) f =
          let u = cons-got (or_bad 10 (read_count 10 p)) (read_serials ps) (n ∷ ms) f in
          let z : u.0 ≡ n = let w = u.4 in cc in
          serial-below p n (or-got 10 (read_count 10 p) u.0 u.2 ∙ ap Some z)

  pub serials-given : is_nil c ≡ false
  serials-given = go c e
    where
      go : (c : List ℕ) → read_serials (split 44 c) ≡ got ns → is_nil c ≡ false
      go [] f = never f
      go (b ∷ c) f = refl

-- ── a wire's serial ──
-- what a partner's piece holds: its state and number, and the number where it is given
record Partner (p : List ℕ) (v : List Num) : Type 0 where
  pub state : ℕ
  pub number : ℕ
  pub is : two_nums state number ≡ v
  pub given : number_in (read_count 10 p) ≡ given_partner state number
  pub short : length p ≤ 10

partner-got : (p : List ℕ) (v : List Num) → read_partner p ≡ got v → Partner p v
partner-got [] v e = let q : two_nums 1 0 ≡ v = cc in record { state = 1; number = 0; is = q; given = refl; short = omega arith }
partner-got (b ∷ p) v e =
    let u = map-got (λ n. two_nums 2 n) (or_bad 10 (read_count 10 (b ∷ p))) v e in
    let r : read_count 10 (b ∷ p) ≡ Some u.0 = or-got 10 (read_count 10 (b ∷ p)) u.0 u.1 in
    record { state = 2; number = u.0; is = u.2; given = number_in_lem (b ∷ p) u.0 r; short = serial-short (b ∷ p) u.0 r }

-- the three pieces of it
record WireSerial (ps : List (List ℕ)) (v : List Num) : Type 0 where
  pub partners : numbers_of (drop 1 ps) ≡ wire_partners (nums v)
  pub short : total with_comma ps ≤ 33
  pub own : amount_at (nums v) 0 < own_numbers

wire-got : (ps : List (List ℕ)) (v : List Num) → read_wire_serial ps ≡ got v → WireSerial ps v
wire-got [] v e = never e
wire-got (o ∷ []) v e = never e
wire-got (o ∷ a ∷ []) v e = never e
wire-got (o ∷ a ∷ b ∷ c ∷ s) v e = never e
wire-got (o ∷ a ∷ b ∷ []) v e =
    let whole = cons-got (natural (or_bad 10 (read_count 10 o))) (map_g flat (cons_g (read_partner a) (cons_g (read_partner b) (got [])))) v e in
    let own = map-got (λ n. num (pos n)) (or_bad 10 (read_count 10 o)) whole.0 whole.2 in
    let both = map-got flat (cons_g (read_partner a) (cons_g (read_partner b) (got []))) whole.1 whole.3 in
    let first = cons-got (read_partner a) (cons_g (read_partner b) (got [])) both.0 both.1 in
    let second = cons-got (read_partner b) (got []) first.1 first.3 in
    let r : read_count 10 o ≡ Some own.0 = or-got 10 (read_count 10 o) own.0 own.1 in
    let x = partner-got a first.0 first.2 in
    let y = partner-got b second.0 second.2 in
    let None : [] ≡ second.1 = let z = second.3 in cc in
    let is : num (pos own.0) ∷ (two_nums x.state x.number ++ (two_nums y.state y.number ++ [])) ≡ v =
    ap (λ (h : List Num). num (pos own.0) ∷ (h ++ (two_nums y.state y.number ++ []))) x.is
    ∙ ap (λ (h : List Num). num (pos own.0) ∷ (first.0 ++ (h ++ []))) y.is
    ∙ ap (λ (h : List (List Num)). num (pos own.0) ∷ flat (first.0 ∷ second.0 ∷ h)) None
    ∙ ap (λ (h : List (List Num)). num (pos own.0) ∷ flat (first.0 ∷ h)) second.4
    ∙ ap (λ (h : List (List Num)). num (pos own.0) ∷ flat h) first.4
    ∙ ap (λ (h : List Num). num (pos own.0) ∷ h) both.2
    ∙ ap (λ (h : Num). h ∷ whole.1) own.2
    ∙ whole.4 in
    subst (WireSerial (o ∷ a ∷ b ∷ [])) is (record {
      partners =
          ap (λ (h : List ℕ). h ++ (number_in (read_count 10 b) ++ [])) x.given
          ∙ ap (λ (h : List ℕ). given_partner x.state x.number ++ h) (append-nil (number_in (read_count 10 b)) ∙ y.given);
      short = omega (arith, serial-short o own.0 r, x.short, y.short);
      own = serial-below o own.0 r;
    })

module _ (c : List ℕ) (v : List Num) (e : read_wire_serial (split 44 c) ≡ got v) where
  pub wire-partners : partners_in c ≡ wire_partners (nums v)
  wire-partners = (wire-got (split 44 c) v e).partners

  pub wire-short : length c < lengths
  wire-short = omega (arith, (wire-got (split 44 c) v e).short, split-total c)

  pub wire-own : amount_at (nums v) 0 < own_numbers
  wire-own = (wire-got (split 44 c) v e).own

  pub wire-given : is_nil c ≡ false
  wire-given = go c e
    where
      go : (c : List ℕ) → read_wire_serial (split 44 c) ≡ got v → is_nil c ≡ false
      go [] f = never f
      go (b ∷ c) f = refl

-- ── how many stand before a number ──
pub place-inserted : (m k : ℕ) (ks : List ℕ) → place_for m (inserted k ks) ≡ place_for m ks + cond (ltb (own_of k) m) 1 0
place-inserted m k [] = go (ltb (own_of k) m)
  where
    go : (t : Bool) → cond t 1 0 ≡ 0 + cond t 1 0
    go true = refl
    go false = refl
place-inserted m k (l ∷ ks) = go (ltb (own_of l) (own_of k)) (ltb (own_of l) m) (ltb (own_of k) m) refl refl refl (place-inserted m k ks)
  where
    go : (a b c : Bool) → ltb (own_of l) (own_of k) ≡ a → ltb (own_of l) m ≡ b → ltb (own_of k) m ≡ c → place_for m (inserted k ks) ≡ place_for m ks + cond (ltb (own_of k) m) 1 0
        → place_for m (cond a (l ∷ inserted k ks) (k ∷ l ∷ ks)) ≡ cond b (suc (place_for m ks)) 0 + cond c 1 0
    go true true true x y z e = rw y (omega (arith, rw z at e))
    go true true false x y z e = rw y (omega (arith, rw z at e))
    go true false true x y z e = absurd (omega (arith, ltb-true (own_of l) (own_of k) x, ltb-false (own_of l) m y, ltb-true (own_of k) m z))
    go true false false x y z e = rw y (omega arith)
    go false true true x y z e = rw (z, y) (omega arith)
    go false false true x y z e = rw (z, y) (omega arith)
    go false true false x y z e = absurd (omega (arith, ltb-false (own_of l) (own_of k) x, ltb-true (own_of l) m y, ltb-false (own_of k) m z))
    go false false false x y z e = rw z (omega arith)

-- they differ, so no more than the numbers below it
place-above : (o m : ℕ) (ks : List ℕ) → above o ks ≡ true → ascending ks ≡ true → place_for m ks ≤ m - suc o
place-above o m [] e a = omega arith
place-above o m (k ∷ ks) e a = go (ltb (own_of k) m) refl (place-above (own_of k) m ks)
  where
    both : (above (own_of k) ks && ascending ks) ≡ true
    both = sym (ascending-cons k ks) ∙ a

    go : (t : Bool) → ltb (own_of k) m ≡ t → (above (own_of k) ks ≡ true → ascending ks ≡ true → place_for m ks ≤ m - suc (own_of k)) → cond t (suc (place_for m ks)) 0 ≤ m - suc o
    go true x more =
        let h = more (and_left (above (own_of k) ks) (ascending ks) both) (and_right (above (own_of k) ks) (ascending ks) both) in
        omega (arith, h, ltb-true (own_of k) m x, ltb-true o (own_of k) e)
    go false x more = omega arith

pub place-most : (m : ℕ) (ks : List ℕ) → ascending ks ≡ true → place_for m ks ≤ m
place-most m [] a = omega arith
place-most m (k ∷ ks) a = go (ltb (own_of k) m) refl
  where
    both : (above (own_of k) ks && ascending ks) ≡ true
    both = sym (ascending-cons k ks) ∙ a

    go : (t : Bool) → ltb (own_of k) m ≡ t → cond t (suc (place_for m ks)) 0 ≤ m
    go true x =
        let h = place-above (own_of k) m ks (and_left (above (own_of k) ks) (ascending ks) both) (and_right (above (own_of k) ks) (ascending ks) both) in
        omega (arith, h, ltb-true (own_of k) m x)
    go false x = omega arith

-- ── how long a number is at least ──
count_less : (w : ℕ) (p : List ℕ) (n : ℕ) → read_count w p ≡ Some n → n < 10 ^ length p
count_less w p n e =
    let (d, q) = cond-some (digit_run 1 w p) (value p) n e in
    subst (λ (m : ℕ). m < 10 ^ length p) q (value_lt p (and_left (all is_digit p) (within 1 w (length p)) d))

pub two_digits : (w : ℕ) (p : List ℕ) (n : ℕ) → read_count w p ≡ Some n → 10 ≤ n → 2 ≤ length p
two_digits w [] n e h = let l : n < 1 = count_less w [] n e in absurd (omega (arith, l, h))
two_digits w (b ∷ []) n e h = let l : n < 10 = count_less w (b ∷ []) n e in absurd (omega (arith, l, h))
two_digits w (b ∷ c ∷ p) n e h = omega arith

pub three-digits : (w : ℕ) (p : List ℕ) (n : ℕ) → read_count w p ≡ Some n → 100 ≤ n → 3 ≤ length p
three-digits w [] n e h = let l : n < 1 = count_less w [] n e in absurd (omega (arith, l, h))
three-digits w (b ∷ []) n e h = let l : n < 10 = count_less w (b ∷ []) n e in absurd (omega (arith, l, h))
three-digits w (b ∷ c ∷ []) n e h = let l : n < 100 = count_less w (b ∷ c ∷ []) n e in absurd (omega (arith, l, h))
three-digits w (b ∷ c ∷ d ∷ p) n e h = omega arith
