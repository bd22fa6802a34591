-- Laws of numbers: what is written of a number that was read reads as that number again, is no longer, and has only the bytes of numbers.
use Rattle.std.specs.Prelude.{Option, Some}
use Prim.Native.Nat.{ℕ, zero, suc, ◌+◌, ◌*◌, ◌-◌, ◌/◌, ◌%◌, ◌^◌, ◌<◌, ◌≤◌}
use mathlib.Core.Bool.{Bool, true, false, cond, ◌&&◌, ◌||◌, not, true≢false}
use mathlib.Core.List.{List, [], ◌∷◌, ◌++◌, append-nil}
use mathlib.Core.Path.{◌≡◌, refl, sym, ◌∙◌, ap, subst}
use native.Mathlib.Nat.{lt_of_lt_of_le, le_trans, le_of_eq, mul-le-mul_right, zero-add, add-suc, suc-add, not-suc-le-zero}
use native.Mathlib.Omega.{arith}
use lib.Dec.{eqb, leb}
use lib.IntN.{ℤ, pos}
use lib.ListN.{length, length-append}
use borrow.Author.Tests.{le-leb, leb-true, eq-eqb, ne_eqb, eqb-true, eqb-false, not-true}
use Rattle.rules.specs.Base.{all, map_o, is_nil, within, Cut, whole, parts, cut, onto}
use Rattle.rules.specs.Numbers.{is_digit, digit_run, value_from, value, read_count, read_fixed, pad_end, read_parts, read_size, minus, read_decimal, fixed_onto, fixed, trim, end_onto, trim_end, show_count, show_fraction, show_size, show_decimal}
use Rattle.rules.proofs.Chains.{cond-some, map-some, and_left, and_right, and_true, by_cond, none-some, all_weaken, all_append}

-- ── bytes between limits ──
pub within_both : (lo hi b : ℕ) → within lo hi b ≡ true → (lo ≤ b) × (b ≤ hi)
within_both lo hi b e = (leb-true lo b (and_left (leb lo b) _ e), leb-true b hi (and_right (leb lo b) _ e))

pub both-within : (lo hi b : ℕ) → lo ≤ b → b ≤ hi → within lo hi b ≡ true
both-within lo hi b l h = rw (le-leb lo b l, le-leb b hi h)

-- the bytes of a number: digits, `-`, `.`
abbrev pub numeric : ℕ → Bool
numeric b = is_digit b || within 45 46 b

pub digits-numeric : (s : List ℕ) → all is_digit s ≡ true → all numeric s ≡ true
digits-numeric s e = all_weaken is_digit numeric (λ b d. rw d) s e

-- ── cutting ──
-- no c in the list
abbrev pub free : ℕ → List ℕ → Bool
free c s = all (λ b. not (eqb b c)) s

pub not_same : (p : ℕ → Bool) (c : ℕ) → p c ≡ false → (b : ℕ) → p b ≡ true → not (eqb b c) ≡ true
not_same p c n b h = rw (ne_eqb b c (λ e. let z : true ≡ false = sym h ∙ ap p e ∙ n in true≢false z))

-- bytes of a kind that c is not of
pub all-free : (p : ℕ → Bool) (c : ℕ) → p c ≡ false → (s : List ℕ) → all p s ≡ true → free c s ≡ true
all-free p c n s e = all_weaken p _ (not_same p c n) s e

pub free-head : (c b : ℕ) (s : List ℕ) → free c (b ∷ s) ≡ true → eqb b c ≡ false
free-head c b s h = not-true (eqb b c) (and_left (not (eqb b c)) _ h)

pub free-tail : (c b : ℕ) (s : List ℕ) → free c (b ∷ s) ≡ true → free c s ≡ true
free-tail c b s h = and_right (not (eqb b c)) _ h

pub cut-none : (c : ℕ) (s : List ℕ) → free c s ≡ true → cut c s ≡ whole
cut-none c [] h = refl
cut-none c (b ∷ s) h = rw (free-head c b s h, cut-none c s (free-tail c b s h))

pub cut_at : (c : ℕ) (s t : List ℕ) → free c s ≡ true → cut c (s ++ c ∷ t) ≡ parts s t
cut_at c [] t h = rw (eq-eqb c c refl)
cut_at c (b ∷ s) t h = rw (free-head c b s h, cut_at c s t (free-tail c b s h))

pub cut_parts : (c : ℕ) (s a b : List ℕ) → cut c s ≡ parts a b → s ≡ a ++ c ∷ b
cut_parts c [] a b e = absurd (let z : ◌≡◌ {A = ℕ} 0 1 = cc in omega arith)
cut_parts c (x ∷ s) a b e = go (eqb x c) refl (cut c s) (cut_parts c s) e
  where
    under : (k : Cut) → ((u v : List ℕ) → k ≡ parts u v → s ≡ u ++ c ∷ v) → onto x k ≡ parts a b → x ∷ s ≡ a ++ c ∷ b
    under whole ih e = absurd (let z : ◌≡◌ {A = ℕ} 0 1 = cc in omega arith)
    under (parts u v) ih e =
        let p : x ∷ u ≡ a = cc in
        let q : v ≡ b = cc in
        rw (← p, ← q) (ap (λ l. x ∷ l) (ih u v refl))

    go : (t : Bool) → eqb x c ≡ t → (k : Cut) → ((u v : List ℕ) → k ≡ parts u v → s ≡ u ++ c ∷ v) → cond t (parts [] s) (onto x k) ≡ parts a b → x ∷ s ≡ a ++ c ∷ b
    go true q k ih e =
        let p : [] ≡ a = cc in
        let r : s ≡ b = cc in
        rw (← p, ← r, eqb-true x c q)
    go false q k ih e = under k ih e

-- ── runs of digits ──
pub run-parts : (lo hi : ℕ) (s : List ℕ) → digit_run lo hi s ≡ true → (all is_digit s ≡ true) × (lo ≤ length s) × (length s ≤ hi)
run-parts lo hi s e =
    let (l, h) = within_both lo hi (length s) (and_right (all is_digit s) _ e) in
    (and_left (all is_digit s) _ e, l, h)

run_ok : (lo hi : ℕ) (s : List ℕ) → all is_digit s ≡ true → lo ≤ length s → length s ≤ hi → digit_run lo hi s ≡ true
run_ok lo hi s d l h = and_true (all is_digit s) _ d (both-within lo hi (length s) l h)

-- a value is below its power of ten
digit-step : (a b p : ℕ) → b ≤ 57 → (a * 10 + (b - 48) + 1) * p ≤ (a + 1) * (10 * p)
digit-step a b p d = le_trans (mul-le-mul_right p (omega arith)) (le_of_eq (tens a p))
  where
    tens : (a p : ℕ) → (a * 10 + 10) * p ≡ (a + 1) * (10 * p)
    tens a p = omega arith

value-below : (s : List ℕ) (a : ℕ) → all is_digit s ≡ true → value_from a s < (a + 1) * 10 ^ length s
value-below [] a h = omega arith
value-below (b ∷ s) a h =
    let d = within_both 48 57 b (and_left (is_digit b) _ h) in
    let e : 10 ^ suc (length s) ≡ 10 * 10 ^ length s = omega arith in
    lt_of_lt_of_le (value-below s (a * 10 + (b - 48)) (and_right (is_digit b) _ h)) (rw e (digit-step a b (10 ^ length s) d.1))

pub value_lt : (s : List ℕ) → all is_digit s ≡ true → value s < 10 ^ length s
value_lt s d = lt_of_lt_of_le (value-below s 0 d) (le_of_eq (omega arith))

-- ── digits as they were read ──
digit-back : (a b : ℕ) → is_digit b ≡ true → ((a * 10 + (b - 48)) / 10 ≡ a) × (48 + (a * 10 + (b - 48)) % 10 ≡ b)
digit-back a b e = let (l, h) = within_both 48 57 b e in (omega arith, omega arith)

-- the digits written of a value are those that it was read from
fixed-value : (p : List ℕ) (j a : ℕ) (s : List ℕ) → all is_digit p ≡ true → fixed_onto (length p + j) (value_from a p) s ≡ fixed_onto j a (p ++ s)
unfolding fixed_onto
fixed-value [] j a s e = rw zero-add
fixed-value (b ∷ p) j a s e =
    let q = digit-back a b (and_left (is_digit b) _ e) in
    rw (suc-add (length p) j, ← add-suc (length p) j)
    (fixed-value p (suc j) (a * 10 + (b - 48)) s (and_right (is_digit b) _ e) ∙ rw (q.0, q.1))

-- so many zeros before s
abbrev zeros : ℕ → List ℕ → List ℕ
zeros zero s = s
zeros (suc n) s = 48 ∷ zeros n s

zeros-inner : (n : ℕ) (s : List ℕ) → zeros n (48 ∷ s) ≡ 48 ∷ zeros n s
zeros-inner zero s = refl
zeros-inner (suc n) s = ap (λ l. 48 ∷ l) (zeros-inner n s)

fixed_zero : (w : ℕ) (s : List ℕ) → fixed_onto w 0 s ≡ zeros w s
unfolding fixed_onto
fixed_zero zero s = refl
fixed_zero (suc w) s = fixed_zero w (48 ∷ s) ∙ zeros-inner w s

-- written with at least as many digits, there are zeros in front
fixed-zeros : (w : ℕ) (s : List ℕ) → all is_digit s ≡ true → length s ≤ w → fixed w (value s) ≡ zeros (w - length s) s
fixed-zeros w s d h =
    let q : w ≡ length s + (w - length s) = omega arith in
    ap (λ (m : ℕ). fixed_onto m (value s) []) q ∙ fixed-value s (w - length s) 0 [] d ∙ fixed_zero (w - length s) (s ++ []) ∙ ap (zeros (w - length s)) (append-nil s)

digits-back : (w : ℕ) (s : List ℕ) → all is_digit s ≡ true → length s ≡ w → fixed w (value s) ≡ s
digits-back w s d h = let q : w - length s ≡ 0 = omega arith in fixed-zeros w s d (omega arith) ∙ ap (λ (j : ℕ). zeros j s) q

-- ── zeros in front ──
trim-zeros : (n : ℕ) (s : List ℕ) → 1 ≤ length s → trim (zeros n s) ≡ trim s
trim-zeros zero s h = refl
trim-zeros (suc n) [] h = absurd (not-suc-le-zero h)
trim-zeros (suc zero) (b ∷ s) h = refl
trim-zeros (suc (suc n)) (b ∷ s) h = trim-zeros (suc n) (b ∷ s) h

value-trim : (s : List ℕ) → value (trim s) ≡ value s
value-trim [] = refl
value-trim (b ∷ []) = refl
value-trim (b ∷ c ∷ s) =
    by_cond (λ l. value l ≡ value (b ∷ c ∷ s)) (eqb b 48) (λ e. value-trim (c ∷ s) ∙ rw (eqb-true b 48 e)) (λ e. refl)

digits-trim : (s : List ℕ) → all is_digit s ≡ true → all is_digit (trim s) ≡ true
digits-trim [] h = refl
digits-trim (b ∷ []) h = h
digits-trim (b ∷ c ∷ s) h =
    by_cond (λ l. all is_digit l ≡ true) (eqb b 48) (λ e. digits-trim (c ∷ s) (and_right (is_digit b) _ h)) (λ e. h)

length-trim : (s : List ℕ) → 1 ≤ length s → (1 ≤ length (trim s)) × (length (trim s) ≤ length s)
length-trim [] h = omega arith
length-trim (b ∷ []) h = omega arith
length-trim (b ∷ c ∷ s) h =
    by_cond (λ l. (1 ≤ length l) × (length l ≤ length (b ∷ c ∷ s))) (eqb b 48)
    (λ e. let r = length-trim (c ∷ s) (omega arith) in omega arith) (λ e. omega arith)

run-trim : (w : ℕ) (s : List ℕ) → digit_run 1 w s ≡ true → digit_run 1 w (trim s) ≡ true
run-trim w s e =
    let (d, l, h) = run-parts 1 w s e in
    let t = length-trim s l in
    run_ok 1 w (trim s) (digits-trim s d) t.0 (omega arith)

-- a count is written as it was read, without the needless zeros
show-count : (w : ℕ) (s : List ℕ) → digit_run 1 w s ≡ true → show_count w (value s) ≡ trim s
show-count w s e =
    let (d, l, h) = run-parts 1 w s e in
    ap trim (fixed-zeros w s d h) ∙ trim-zeros (w - length s) s l

-- ── written and read again ──
pub some-full : (s : List ℕ) → 1 ≤ length s → is_nil s ≡ false
some-full [] h = absurd (not-suc-le-zero h)
some-full (b ∷ s) h = refl

-- where a was read from s, t is written
pub record Again {A : Type 0} (read : List ℕ → Option A) (s t : List ℕ) (a : A) : Type 0 where
  pub back : read t ≡ Some a
  pub plain : all numeric t ≡ true
  pub full : is_nil t ≡ false
  pub short : length t ≤ length s

pub count-back : (w n : ℕ) (s : List ℕ) → read_count w s ≡ Some n → Again (read_count w) s (show_count w n) n
count-back w n s e =
    let (r, q) = cond-some (digit_run 1 w s) (value s) n e in
    let (d, l, h) = run-parts 1 w s r in
    let t = length-trim s l in
    rw (← q, show-count w s r)
    (record {
      back = rw (run-trim w s r, value-trim s);
      plain = digits-numeric (trim s) (digits-trim s d);
      full = some-full (trim s) t.0;
      short = t.1;
    })

-- fixed digits are written as they were read
pub fixed_same : (w n : ℕ) (s : List ℕ) → read_fixed w s ≡ Some n → fixed w n ≡ s
fixed_same w n s e =
    let (r, q) = cond-some (digit_run w w s) (value s) n e in
    let (d, l, h) = run-parts w w s r in
    ap (fixed w) (sym q) ∙ digits-back w s d (omega arith)

-- ── fractions: zeros at the end ──
end_pad : (w : ℕ) (s : List ℕ) → trim_end (pad_end w s) ≡ trim_end s
end_pad zero s = refl
end_pad (suc w) [] = rw (end_pad w [])
end_pad (suc w) (b ∷ s) = rw (end_pad w s)

pad-onto : (b w : ℕ) (s t : List ℕ) → pad_end w t ≡ s → pad_end (suc w) (end_onto b t) ≡ b ∷ s
pad-onto b w s [] h = by_cond (λ l. pad_end (suc w) l ≡ b ∷ s) (eqb b 48) (λ e. rw (h, eqb-true b 48 e)) (λ e. rw h)
pad-onto b w s (c ∷ t) h = rw h

pad-end : (w : ℕ) (s : List ℕ) → length s ≤ w → pad_end w (trim_end s) ≡ pad_end w s
pad-end zero [] h = refl
pad-end zero (b ∷ s) h = absurd (not-suc-le-zero h)
pad-end (suc w) [] h = refl
pad-end (suc w) (b ∷ s) h = pad-onto b w (pad_end w s) (trim_end s) (pad-end w s (omega arith))

digits_pad : (w : ℕ) (s : List ℕ) → all is_digit s ≡ true → all is_digit (pad_end w s) ≡ true
digits_pad zero s h = h
digits_pad (suc w) [] h = digits_pad w [] refl
digits_pad (suc w) (b ∷ s) h = and_true (is_digit b) _ (and_left (is_digit b) _ h) (digits_pad w s (and_right (is_digit b) _ h))

length_pad : (w : ℕ) (s : List ℕ) → length s ≤ w → length (pad_end w s) ≡ w
length_pad zero [] h = refl
length_pad zero (b ∷ s) h = absurd (not-suc-le-zero h)
length_pad (suc w) [] h = ap suc (length_pad w [] (omega arith))
length_pad (suc w) (b ∷ s) h = ap suc (length_pad w s (omega arith))

digits-end : (s : List ℕ) → all is_digit s ≡ true → all is_digit (trim_end s) ≡ true
digits-end [] h = refl
digits-end (b ∷ s) h = go (trim_end s) (and_left (is_digit b) _ h) (digits-end s (and_right (is_digit b) _ h))
  where
    go : (t : List ℕ) → is_digit b ≡ true → all is_digit t ≡ true → all is_digit (end_onto b t) ≡ true
    go [] d h = by_cond (λ l. all is_digit l ≡ true) (eqb b 48) (λ e. refl) (λ e. and_true _ _ d refl)
    go (c ∷ t) d h = and_true _ _ d h

length-end : (s : List ℕ) → length (trim_end s) ≤ length s
length-end [] = omega arith
length-end (b ∷ s) = go (trim_end s) (length-end s)
  where
    go : (t : List ℕ) → length t ≤ length s → length (end_onto b t) ≤ suc (length s)
    go [] h = by_cond (λ l. length l ≤ suc (length s)) (eqb b 48) (λ e. omega arith) (λ e. omega arith)
    go (c ∷ t) h = omega arith

-- a fraction that is not zero keeps a digit
end-full : (s : List ℕ) → length s ≤ 4 → (value (pad_end 4 s) ≡ 0 → ⊥) → 1 ≤ length (trim_end s)
end-full s h n = go (trim_end s) (pad-end 4 s h)
  where
    go : (t : List ℕ) → pad_end 4 t ≡ pad_end 4 s → 1 ≤ length t
    go [] e = absurd (n (ap value (sym e)))
    go (c ∷ t) e = omega arith

-- ── decimals without their sign ──
size-whole : (a : List ℕ) → digit_run 1 7 a ≡ true → read_size a ≡ Some (value a * 10000)
size-whole a h = rw (cut-none 46 a (all-free is_digit 46 refl a (run-parts 1 7 a h).0), h)

size-parts : (a b : List ℕ) → digit_run 1 7 a ≡ true → digit_run 1 4 b ≡ true → read_size (a ++ 46 ∷ b) ≡ Some (value a * 10000 + value (pad_end 4 b))
size-parts a b h k = rw (cut_at 46 a b (all-free is_digit 46 refl a (run-parts 1 7 a h).0), h, k)

-- the whole part, without its needless zeros
size-one : (s a : List ℕ) (m : ℕ) → digit_run 1 7 a ≡ true → length a ≤ length s → value a * 10000 ≡ m → Again read_size s (trim a) m
size-one s a m r l q =
    let (d, lo, hi) = run-parts 1 7 a r in
    let t = length-trim a lo in
    record {
      back = size-whole (trim a) (run-trim 7 a r) ∙ ap Some (rw (value-trim a) q);
      plain = digits-numeric (trim a) (digits-trim a d);
      full = some-full (trim a) t.0;
      short = omega arith;
    }

-- and the fraction, without its needless zeros
size-two : (s a b : List ℕ) (m : ℕ) → digit_run 1 7 a ≡ true → digit_run 1 4 b ≡ true → (value (pad_end 4 b) ≡ 0 → ⊥) → s ≡ a ++ 46 ∷ b
    → value a * 10000 + value (pad_end 4 b) ≡ m → Again read_size s (trim a ++ 46 ∷ trim_end b) m
size-two s a b m r k n c q =
    let (d, lo, hi) = run-parts 1 7 a r in
    let (f, lo', hi') = run-parts 1 4 b k in
    let t = length-trim a lo in
    let u = length-end b in
    let g = end-full b hi' n in
    let x = length-append (trim a) (46 ∷ trim_end b) in
    let y = ap length c ∙ length-append a (46 ∷ b) in
    record {
      back =
          size-parts (trim a) (trim_end b) (run-trim 7 a r) (run_ok 1 4 (trim_end b) (digits-end b f) g (omega arith)) ∙ ap Some (rw (value-trim a, pad-end 4 b hi') q);
      plain = rw (all_append numeric (trim a) (46 ∷ trim_end b), digits-numeric (trim a) (digits-trim a d), digits-numeric (trim_end b) (digits-end b f));
      full = some-full (trim a ++ 46 ∷ trim_end b) (omega arith);
      short = omega arith;
    }

size_back : (s : List ℕ) (m : ℕ) → read_size s ≡ Some m → Again read_size s (show_size m) m
size_back s m e = go (cut 46 s) refl e
  where
    written : (a f : List ℕ) → digit_run 1 7 a ≡ true → m / 10000 ≡ value a → show_fraction (m % 10000) ≡ f → Again read_size s (trim a ++ f) m → Again read_size s (show_size m) m
    written a f r q p w = subst (λ l. Again read_size s l m) (sym (ap (λ l. l ++ show_fraction (m % 10000)) (ap (show_count 7) q ∙ show-count 7 a r) ∙ ap (λ l. trim a ++ l) p)) w

    go : (c : Cut) → cut 46 s ≡ c → read_parts s c ≡ Some m → Again read_size s (show_size m) m
    go whole c e =
        let (r, q) = cond-some (digit_run 1 7 s) (value s * 10000) m e in
        let z : m % 10000 ≡ 0 = omega arith in
        written s [] r (omega arith) (rw z) (rw (append-nil (trim s)) (size-one s s m r (omega arith) q))
    go (parts a b) c e =
        let (r, q) = cond-some (digit_run 1 7 a && digit_run 1 4 b) (value a * 10000 + value (pad_end 4 b)) m e in
        let ra = and_left (digit_run 1 7 a) _ r in
        let rb = and_right (digit_run 1 7 a) (digit_run 1 4 b) r in
        let (d, lo, hi) = run-parts 1 4 b rb in
        let l = length_pad 4 b hi in
        let bound : value (pad_end 4 b) < 10 ^ 4 = rw l at (value_lt (pad_end 4 b) (digits_pad 4 b d)) in
        let z : m % 10000 ≡ value (pad_end 4 b) = omega arith in
        let x = cut_parts 46 s a b c in
        let y = ap length x ∙ length-append a (46 ∷ b) in
        let f : trim_end (fixed 4 (m % 10000)) ≡ trim_end b = ap (λ (k : ℕ). trim_end (fixed 4 k)) z ∙ ap trim_end (digits-back 4 (pad_end 4 b) (digits_pad 4 b d) l) ∙ end_pad 4 b in
        elim (eqb (m % 10000) 0) as (λ t. eqb (m % 10000) 0 ≡ t → Again read_size s (show_size m) m) [
          | true ↦ λ t.
              let n = eqb-true (m % 10000) 0 t in
              written a [] ra (omega arith) (rw t) (rw (append-nil (trim a)) (size-one s a m ra (omega arith) (omega arith)))
          | false ↦ λ t.
              let n = eqb-false (m % 10000) 0 t in
              written a (46 ∷ trim_end b) ra (omega arith) (rw (t, f)) (size-two s a b m ra rb (λ v. n (z ∙ v)) x q)
        ] refl

-- ── decimals ──
-- a decimal without a sign does not begin with `-`
no_sign : (s : List ℕ) (m : ℕ) → read_size (45 ∷ s) ≡ Some m → ⊥
no_sign s m e = go (cut 46 s) e
  where
    go : (c : Cut) → read_parts (45 ∷ s) (onto 45 c) ≡ Some m → ⊥
    go whole e = none-some e
    go (parts a b) e = none-some e

size-decimal : (s : List ℕ) (m : ℕ) → read_size s ≡ Some m → read_decimal s ≡ Some (pos m)
size-decimal [] m e = none-some e
size-decimal (b ∷ s) m e = rw (ne_eqb b 45 (λ q. no_sign s m (rw q at e)), e)

pub decimal-back : (s : List ℕ) (z : ℤ) → read_decimal s ≡ Some z → Again read_decimal s (show_decimal z) z
decimal-back [] z e = none-some e
decimal-back (b ∷ s) z e = go (eqb b 45) e
  where
    plus : (m : ℕ) → Again read_size (b ∷ s) (show_size m) m → Again read_decimal (b ∷ s) (show_size m) (pos m)
    plus m w = record { back = size-decimal (show_size m) m w.back; plain = w.plain; full = w.full; short = w.short }

    signed : (m : ℕ) → Again read_size s (show_size m) m → Again read_decimal (b ∷ s) (show_decimal (minus m)) (minus m)
    signed zero w = record { back = size-decimal (show_size 0) 0 w.back; plain = w.plain; full = w.full; short = omega (arith, w.short) }
    signed (suc m) w = record { back = ap (map_o minus) w.back; plain = w.plain; full = refl; short = omega (arith, w.short) }

    go : (t : Bool) → cond t (map_o minus (read_size s)) (map_o pos (read_size (b ∷ s))) ≡ Some z → Again read_decimal (b ∷ s) (show_decimal z) z
    go true e =
        let (m, p, q) = map-some minus (read_size s) z e in
        rw (← q) (signed m (size_back s m p))
    go false e =
        let (m, p, q) = map-some pos (read_size (b ∷ s)) z e in
        rw (← q) (plus m (size_back (b ∷ s) m p))
