-- The drawing's sheet, by its last two bytes and the number before them; its scale, by one or two counts.
use Rattle.std.specs.Prelude.{Option, Some, None, Ok, Err}
use Prim.Native.Nat.{ℕ, zero, suc, ◌+◌, ◌-◌, ◌/◌, ◌%◌, ◌<◌, ◌≤◌}
use mathlib.Core.Path.{◌≡◌, refl, ap, sym, ◌∙◌}
use mathlib.Core.List.{List, [], ◌∷◌, ◌++◌}
use mathlib.Core.Bool.{Bool, true, false, cond, ◌&&◌, not}
use native.Mathlib.Numerals.{add-one}
use native.Mathlib.Omega.{arith}
use lib.Dec.{eqb, leb, ltb}
use lib.IntN.{pos}
use lib.ListN.{length, get_or, take, drop, length-append, drop_of_length-le, take-append-drop}
use lib.Seq.{length-take-le}
use borrow.Author.Tests.{eq-eqb, ne_eqb, leb-true, le-leb}
use Rattle.rules.specs.Base.{same, within}
use Rattle.rules.specs.Numbers.{fixed_onto, show_count, read_count}
use Rattle.rules.specs.RefusalNumbers.{got, unless, map_g, or_bad, keep, cons_g}
use Rattle.rules.specs.Values.{Num, num, multipliers, plain_sheets, large_sheets, sheets, two_nums, find_sheet, natural, good_ratio, with_one, read_ratio}
use Rattle.rules.proofs.Chains.{and_left, and_right, and_true, and_false, clash}
use Rattle.leaves.specs.Bytes.{up_to, past}
use Rattle.leaves.specs.declared.SheetSize.{SheetSize}
use Rattle.leaves.specs.Drawing.{sheet_of, multiplier_in, numbered_sheet, plain_sheet, large_sheet, ratio_of, in_scale, one_count, two_counts}
use Rattle.leaves.proofs.Scan.{same-long, at, rest_all}
use Rattle.leaves.proofs.Cuts.{up_to-take, past-drop, cut-whole, cut-two}

-- ── a number of one digit, and of two ──
two_digits : (n : ℕ) → show_count 2 n ≡ cond (eqb (48 + n / 10 % 10) 48) ((48 + n % 10) ∷ []) ((48 + n / 10 % 10) ∷ (48 + n % 10) ∷ [])
unfolding fixed_onto
two_digits n = refl

module _ (n : ℕ) where
  pub one-digit : 48 + n / 10 % 10 ≡ 48 → show_count 2 n ≡ (48 + n % 10) ∷ []
  one-digit e = two_digits n ∙ rw (eq-eqb (48 + n / 10 % 10) 48 e)

  pub both-digits : (48 + n / 10 % 10 ≡ 48 → ⊥) → show_count 2 n ≡ (48 + n / 10 % 10) ∷ (48 + n % 10) ∷ []
  both-digits e = two_digits n ∙ rw (ne_eqb (48 + n / 10 % 10) 48 e)

-- ── a sheet's name, by what stands before its last two bytes ──
pub last-two : (s : List ℕ) (e : ℕ) → e + 2 ≡ length s → s ≡ take e s ++ get_or s e 0 ∷ get_or s (e + 1) 0 ∷ []
last-two s e h =
    let two : drop e s ≡ get_or s e 0 ∷ get_or s (e + 1) 0 ∷ [] = at s e (omega arith) ∙ ap (λ (l : List ℕ). get_or s e 0 ∷ l) (at s (e + 1) (omega arith) ∙ ap (λ (l : List ℕ). get_or s (e + 1) 0 ∷ l) (drop_of_length-le s {i = e + 1 + 1} (omega arith))) in
    sym (take-append-drop e s) ∙ ap (λ (l : List ℕ). take e s ++ l) two

and_assoc : (t u v : Bool) → (t && (u && v)) ≡ ((t && u) && v)
and_assoc true u v = refl
and_assoc false u v = refl

same_ends : (p q : List ℕ) (x y a b : ℕ) → same (p ++ x ∷ y ∷ []) (q ++ a ∷ b ∷ []) ≡ (same p q && (eqb x a && (eqb y b && true)))
same_ends [] [] x y a b = refl
same_ends [] (d ∷ q) x y a b = same-long (x ∷ y ∷ []) (d ∷ (q ++ a ∷ b ∷ [])) (λ e. absurd (omega (arith, length-append q (a ∷ b ∷ []))))
same_ends (c ∷ p) [] x y a b = same-long (c ∷ (p ++ x ∷ y ∷ [])) (a ∷ b ∷ []) (λ e. absurd (omega (arith, length-append p (x ∷ y ∷ []))))
same_ends (c ∷ p) (d ∷ q) x y a b = ap (λ (t : Bool). eqb c d && t) (same_ends p q x y a b) ∙ and_assoc (eqb c d) (same p q) (eqb x a && (eqb y b && true))

abbrev first : Option (List Num) → Option (List Num) → Option (List Num)
first None o = o
first (Some v) o = Some v

find-append : (s : List ℕ) (u v : List (List ℕ × ℕ × ℕ)) → find_sheet s (u ++ v) ≡ first (find_sheet s u) (find_sheet s v)
find-append s [] v = refl
find-append s (a ∷ u) v = go (same s a.0) (find-append s u v)
  where
    go : (t : Bool) → find_sheet s (u ++ v) ≡ first (find_sheet s u) (find_sheet s v)
        → cond t (Some (two_nums a.1 a.2)) (find_sheet s (u ++ v)) ≡ first (cond t (Some (two_nums a.1 a.2)) (find_sheet s u)) (find_sheet s v)
    go true e = refl
    go false e = e

pub sheets-two : (s : List ℕ) → find_sheet s sheets ≡ first (find_sheet s plain_sheets) (find_sheet s (large_sheets multipliers))
unfolding sheets fixed_onto
sheets-two s = find-append s plain_sheets (large_sheets multipliers)

-- no A before the last byte, or none of the two digits
large-none : (p : List ℕ) (x y : ℕ) (ns : List ℕ) → (eqb x 65 && (eqb y 48 && true)) ≡ false → (eqb x 65 && (eqb y 49 && true)) ≡ false
    → find_sheet (p ++ x ∷ y ∷ []) (large_sheets ns) ≡ None
large-none p x y [] h k = refl
large-none p x y (n ∷ ns) h k =
    rw (same_ends p (show_count 2 n) x y 65 48, same_ends p (show_count 2 n) x y 65 49, h, k, and_false (same p (show_count 2 n))) (large-none p x y ns h k)

-- A0 and A1 behind a number, where there is one
abbrev behind : Bool → Option ℕ → Option SheetSize
behind z None = None
behind z (Some n) = Some (record { multiplier = n; number = cond z 0 1 })

-- z: the last byte is 0, and not 1
large-digit : (p ns : List ℕ) (y : ℕ) (z : Bool) → eqb y 48 ≡ z → eqb y 49 ≡ not z
    → sheet_of (find_sheet (p ++ 65 ∷ y ∷ []) (large_sheets ns)) ≡ behind z (multiplier_in p ns)
large-digit p [] y z e f = refl
large-digit p (n ∷ ns) y z e f =
    rw (same_ends p (show_count 2 n) 65 y 65 48, same_ends p (show_count 2 n) 65 y 65 49, e, f) (go (same p (show_count 2 n)) z (large-digit p ns y z e f))
  where
    go : (t z : Bool) → sheet_of (find_sheet (p ++ 65 ∷ y ∷ []) (large_sheets ns)) ≡ behind z (multiplier_in p ns)
        → sheet_of (cond (t && (true && (z && true))) (Some (two_nums n 0)) (cond (t && (true && (not z && true))) (Some (two_nums n 1)) (find_sheet (p ++ 65 ∷ y ∷ []) (large_sheets ns))))
        ≡ behind z (cond t (Some n) (multiplier_in p ns))
    go true true e = refl
    go true false e = refl
    go false z e = e

behind-zero : (o : Option ℕ) → behind true o ≡ large_sheet o 48
unfolding large_sheet
behind-zero None = refl
behind-zero (Some n) = refl

behind-one : (o : Option ℕ) → behind false o ≡ large_sheet o 49
unfolding large_sheet
behind-one None = refl
behind-one (Some n) = refl

outside : (lo hi y k : ℕ) → within lo hi y ≡ false → lo ≤ k → k ≤ hi → eqb y k ≡ false
outside lo hi y k h l u = ne_eqb y k (λ e. clash (and_true (leb lo y) (leb y hi) (le-leb lo y (omega arith)) (le-leb y hi (omega arith))) h)

no_large : (o : Option ℕ) (y : ℕ) → within 48 49 y ≡ false → large_sheet o y ≡ None
unfolding large_sheet
no_large None y e = refl
no_large (Some n) y e = rw e

-- any last byte
pub large-found : (p : List ℕ) (y : ℕ) (ns : List ℕ) → sheet_of (find_sheet (p ++ 65 ∷ y ∷ []) (large_sheets ns)) ≡ large_sheet (multiplier_in p ns) y
large-found p y ns = go (within 48 49 y) refl
  where
    inside : (k : ℕ) → y ≡ 48 + k → k ≤ 1 → sheet_of (find_sheet (p ++ 65 ∷ y ∷ []) (large_sheets ns)) ≡ large_sheet (multiplier_in p ns) y
    inside zero e l = rw e (large-digit p ns 48 true refl refl ∙ behind-zero (multiplier_in p ns))
    inside (suc zero) e l = rw e (large-digit p ns 49 false refl refl ∙ behind-one (multiplier_in p ns))
    inside (suc (suc k)) e l = absurd (omega arith)

    go : (t : Bool) → within 48 49 y ≡ t → sheet_of (find_sheet (p ++ 65 ∷ y ∷ []) (large_sheets ns)) ≡ large_sheet (multiplier_in p ns) y
    go true e =
        let l = leb-true 48 y (and_left (leb 48 y) _ e) in
        let u = leb-true y 49 (and_right (leb 48 y) _ e) in
        inside (y - 48) (omega arith) (omega arith)
    go false e =
        let n : find_sheet (p ++ 65 ∷ y ∷ []) (large_sheets ns) ≡ None = large-none p 65 y ns (rw (outside 48 49 y 48 e (omega arith) (omega arith))) (rw (outside 48 49 y 49 e (omega arith) (omega arith))) in
        ap sheet_of n ∙ sym (no_large (multiplier_in p ns) y e)

pub plain-found : (y : ℕ) → sheet_of (find_sheet (65 ∷ y ∷ []) plain_sheets) ≡ plain_sheet y
unfolding plain_sheet
plain-found y = go (within 48 52 y) refl
  where
    inside : (k : ℕ) → k ≤ 4 → sheet_of (find_sheet (65 ∷ (48 + k) ∷ []) plain_sheets) ≡ Some (record { multiplier = 1; number = k })
    inside zero l = refl
    inside (suc zero) l = refl
    inside (suc (suc zero)) l = refl
    inside (suc (suc (suc zero))) l = refl
    inside (suc (suc (suc (suc zero)))) l = refl
    inside (suc (suc (suc (suc (suc k))))) l = absurd (omega arith)

    go : (t : Bool) → within 48 52 y ≡ t → sheet_of (find_sheet (65 ∷ y ∷ []) plain_sheets) ≡ cond t (Some (record { multiplier = 1; number = y - 48 })) None
    go true e =
        let l = leb-true 48 y (and_left (leb 48 y) _ e) in
        let u = leb-true y 52 (and_right (leb 48 y) _ e) in
        let q : 48 + (y - 48) ≡ y = omega arith in
        ap (λ (b : ℕ). sheet_of (find_sheet (65 ∷ b ∷ []) plain_sheets)) (sym q) ∙ inside (y - 48) (omega arith)
    go false e = rw (outside 48 52 y 48 e (omega arith) (omega arith), outside 48 52 y 49 e (omega arith) (omega arith), outside 48 52 y 50 e (omega arith) (omega arith), outside 48 52 y 51 e (omega arith) (omega arith), outside 48 52 y 52 e (omega arith) (omega arith))

-- ── the sheet as the code cuts it ──
pub sheet-short : (s : List ℕ) → length s < 2 → find_sheet s sheets ≡ None
unfolding sheets fixed_onto
sheet-short [] h = refl
sheet-short (b ∷ []) h = simp and_false
sheet-short (b ∷ c ∷ s) h = absurd (omega arith)

-- a name of more than two bytes is no plain sheet's
plain-none : (c : ℕ) (p : List ℕ) (x y : ℕ) → find_sheet (c ∷ (p ++ x ∷ y ∷ [])) plain_sheets ≡ None
plain-none c p x y = rw (long 48, long 49, long 50, long 51, long 52)
  where
    long : (k : ℕ) → same (c ∷ (p ++ x ∷ y ∷ [])) (65 ∷ k ∷ []) ≡ false
    long k = same-long (c ∷ (p ++ x ∷ y ∷ [])) (65 ∷ k ∷ []) (λ e. absurd (omega (arith, length-append p (x ∷ y ∷ []))))

module _ (p : List ℕ) (x y : ℕ) where
  sheet-none : (eqb x 65) ≡ false → find_sheet (p ++ x ∷ y ∷ []) sheets ≡ None
  sheet-none h = sheets-two (p ++ x ∷ y ∷ []) ∙ rw (plain p, large-none p x y multipliers (rw h) (rw h))
    where
      plain : (p : List ℕ) → find_sheet (p ++ x ∷ y ∷ []) plain_sheets ≡ None
      plain [] = rw h
      plain (c ∷ p) = plain-none c p x y

no_number : (y : ℕ) → large_sheet (multiplier_in [] multipliers) y ≡ None
unfolding fixed_onto large_sheet
no_number y = refl

sheet-plain : (y : ℕ) → sheet_of (find_sheet (65 ∷ y ∷ []) sheets) ≡ plain_sheet y
sheet-plain y = ap sheet_of (sheets-two (65 ∷ y ∷ [])) ∙ go (find_sheet (65 ∷ y ∷ []) plain_sheets) refl
  where
    go : (o : Option (List Num)) → find_sheet (65 ∷ y ∷ []) plain_sheets ≡ o → sheet_of (first o (find_sheet (65 ∷ y ∷ []) (large_sheets multipliers))) ≡ plain_sheet y
    go None e = large-found [] y multipliers ∙ no_number y ∙ ap sheet_of (sym e) ∙ plain-found y
    go (Some v) e = ap sheet_of (sym e) ∙ plain-found y

sheet_large : (c : ℕ) (p : List ℕ) (y : ℕ) → sheet_of (find_sheet (c ∷ (p ++ 65 ∷ y ∷ [])) sheets) ≡ large_sheet (multiplier_in (c ∷ p) multipliers) y
sheet_large c p y =
    ap sheet_of (sheets-two (c ∷ (p ++ 65 ∷ y ∷ [])) ∙ ap (λ (o : Option (List Num)). first o (find_sheet (c ∷ (p ++ 65 ∷ y ∷ [])) (large_sheets multipliers))) (plain-none c p 65 y))
    ∙ large-found (c ∷ p) y multipliers

module _ (s : List ℕ) (e : ℕ) (h : e + 2 ≡ length s) where
  pub sheet-other : (get_or s e 0 ≡ 65 → ⊥) → find_sheet s sheets ≡ None
  sheet-other n = ap (λ (l : List ℕ). find_sheet l sheets) (last-two s e h) ∙ sheet-none (take e s) (get_or s e 0) (get_or s (e + 1) 0) (ne_eqb (get_or s e 0) 65 n)

  module _ (a : get_or s e 0 ≡ 65) where
    by_parts : s ≡ take e s ++ 65 ∷ get_or s (e + 1) 0 ∷ []
    by_parts = last-two s e h ∙ ap (λ (x : ℕ). take e s ++ x ∷ get_or s (e + 1) 0 ∷ []) a

    pub sheet-alone : e ≡ 0 → plain_sheet (get_or s (e + 1) 0) ≡ sheet_of (find_sheet s sheets)
    sheet-alone z =
        sym (sheet-plain (get_or s (e + 1) 0)) ∙ ap (λ (l : List ℕ). sheet_of (find_sheet (l ++ 65 ∷ get_or s (e + 1) 0 ∷ []) sheets)) (sym (ap (λ (k : ℕ). take k s) z))
        ∙ ap (λ (l : List ℕ). sheet_of (find_sheet l sheets)) (sym by_parts)

    pub sheet-number : (e ≡ 0 → ⊥) → large_sheet (multiplier_in (take e s) multipliers) (get_or s (e + 1) 0) ≡ sheet_of (find_sheet s sheets)
    sheet-number z = go (take e s) (length-take-le e s (omega arith)) ∙ ap (λ (l : List ℕ). sheet_of (find_sheet l sheets)) (sym by_parts)
      where
        go : (p : List ℕ) → length p ≡ e → large_sheet (multiplier_in p multipliers) (get_or s (e + 1) 0) ≡ sheet_of (find_sheet (p ++ 65 ∷ get_or s (e + 1) 0 ∷ []) sheets)
        go [] l = absurd (z (sym l))
        go (c ∷ p) l = sym (sheet_large c p (get_or s (e + 1) 0))

    -- behind the multiplier, if there is one
    pub sheet-bare : (e ≡ 0 → ⊥) → multiplier_in (take e s) multipliers ≡ None → sheet_of (find_sheet s sheets) ≡ None
    unfolding large_sheet
    sheet-bare z m = sym (rw m at (sheet-number z))

    pub sheet-behind : (e ≡ 0 → ⊥) → (n : ℕ) → multiplier_in (take e s) multipliers ≡ Some n → numbered_sheet n 49 (get_or s (e + 1) 0) ≡ sheet_of (find_sheet s sheets)
    unfolding large_sheet
    sheet-behind z n m = rw m at (sheet-number z)

-- ── the scale ──
module _ (s : List ℕ) where
  pub ratio-one : length s ≤ length (up_to 47 s) → one_count (read_count 9 s) ≡ ratio_of (read_ratio s)
  unfolding one_count
  ratio-one h = rw (cut-whole 47 s h) (go (read_count 9 s))
    where
      held : (n : ℕ) (t : Bool) → cond t (Ok (record { p = n; q = 1 })) (Err 11) ≡ ratio_of (map_g with_one (unless t 11 (got (num (pos n) ∷ []))))
      held n true = refl
      held n false = refl

      go : (o : Option ℕ) → one_count (o) ≡ ratio_of (map_g with_one (keep 11 good_ratio (cons_g (natural (or_bad 10 o)) (got []))))
      go None = refl
      go (Some n) = held n (in_scale n)

  module _ (e : ℕ) (p : e ≡ length (up_to 47 s)) (h : e < length s) where
    pub ratio-two : two_counts (read_count 9 (take e s)) (read_count 9 (take (length s - (e + 1)) (drop (e + 1) s))) ≡ ratio_of (read_ratio s)
    unfolding two_counts
    ratio-two =
        let before : take e s ≡ up_to 47 s = rw p (up_to-take 47 s) in
        let behind : take (length s - (e + 1)) (drop (e + 1) s) ≡ past 47 s = rest_all (e + 1) s ∙ rw (add-one, p) (sym (past-drop 47 s (rw p at h))) in
        rw (before, behind, cut-two 47 s (rw p at h)) (go (read_count 9 (up_to 47 s)) (read_count 9 (past 47 s)))
      where
        held : (m n : ℕ) (t : Bool) → cond t (Ok (record { p = m; q = n })) (Err 11) ≡ ratio_of (map_g with_one (unless t 11 (got (num (pos m) ∷ num (pos n) ∷ []))))
        held m n true = refl
        held m n false = refl

        go : (a b : Option ℕ) → two_counts (a) (b) ≡ ratio_of (map_g with_one (keep 11 good_ratio (cons_g (natural (or_bad 10 a)) (cons_g (natural (or_bad 10 b)) (got [])))))
        go None None = refl
        go None (Some n) = refl
        go (Some m) None = refl
        go (Some m) (Some n) = held m n (in_scale m && (in_scale n && ltb m n))
