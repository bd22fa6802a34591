-- Decimals: zeros at the end of their digits, and the bounds of what is read.
use Rattle.std.specs.Prelude.{Option, Some, None}
use Prim.Native.Nat.{ℕ, zero, suc, ◌+◌, ◌-◌, ◌*◌, ◌^◌, ◌<◌, ◌≤◌}
use mathlib.Core.Path.{◌≡◌, refl, ap, ◌∙◌}
use mathlib.Core.List.{List, [], ◌∷◌}
use mathlib.Core.Bool.{Bool, true, false, cond, ◌&&◌}
use native.Mathlib.Nat.{not-suc-le-zero, lt_of_lt_of_le, pow-succ'}
use native.Mathlib.Omega.{arith}
use lib.Dec.{eqb, leb}
use lib.IntN.{ℤ, pos, negsuc}
use lib.ListN.{length}
use lib.Signed.{le_z}
use borrow.Author.Tests.{leb-true, leb-false, le-leb}
use Rattle.rules.specs.Base.{all, map_o}
use Rattle.rules.specs.Numbers.{is_digit, digit_run, value_from, value, pad_end, read_size, read_decimal, minus}
use Rattle.rules.proofs.Chains.{and_left, and_right, and_true, by_cond}
use Rattle.leaves.specs.Bytes.{up_to, past}
use Rattle.leaves.proofs.Cuts.{cut-whole, cut-two}
use Rattle.leaves.proofs.Digits.{value_lt, ten-most, run_length, OnSome, on-cond}

-- ── zeros at the end ──
one_more : (a w u v : ℕ) → u ≡ w → v ≡ suc w → (a * 10 + 0) * 10 ^ u ≡ a * 10 ^ v
one_more a w u v p q = rw (p, q, pow-succ' 10 w) (omega arith)

pub pad-value : (w a : ℕ) (s : List ℕ) → length s ≤ w → value_from a (pad_end w s) ≡ value_from a s * 10 ^ (w - length s)
pad-value zero a [] h = omega arith
pad-value zero a (b ∷ s) h = absurd (not-suc-le-zero h)
pad-value (suc w) a [] h = pad-value w (a * 10 + 0) [] (omega arith) ∙ one_more a w _ _ (omega arith) (omega arith)
pad-value (suc w) a (b ∷ s) h =
    let e : suc w - suc (length s) ≡ w - length s = omega arith in
    rw e (pad-value w (a * 10 + (b - 48)) s (omega arith))

-- ── the point ──
-- the digits before and behind a decimal's point, in ten-thousandths
unfoldable whole_of : List ℕ → Option ℕ
whole_of s = cond (digit_run 1 7 s) (Some (value s * 10000)) None

unfoldable fraction_of : List ℕ → Option ℕ
fraction_of s = cond (digit_run 1 4 s) (Some (value (pad_end 4 s))) None

-- both parts, or nothing
abbrev added : Option ℕ → Option ℕ → Option ℕ
added None f = None
added (Some v) None = None
added (Some v) (Some f) = Some (v + f)

size-whole : (s : List ℕ) → length s ≤ length (up_to 46 s) → read_size s ≡ whole_of s
unfolding whole_of
size-whole s h = rw (cut-whole 46 s h)

size-two : (s : List ℕ) → length (up_to 46 s) < length s → read_size s ≡ added (whole_of (up_to 46 s)) (fraction_of (past 46 s))
unfolding whole_of fraction_of
size-two s h = rw (cut-two 46 s h) (go (digit_run 1 7 (up_to 46 s)) (digit_run 1 4 (past 46 s)))
  where
    go : (a b : Bool) → cond (a && b) (Some (value (up_to 46 s) * 10000 + value (pad_end 4 (past 46 s)))) None ≡ added (cond a (Some (value (up_to 46 s) * 10000)) None) (cond b (Some (value (pad_end 4 (past 46 s)))) None)
    go true true = refl
    go true false = refl
    go false b = refl

-- ── bounds ──
pad-digits : (w : ℕ) (s : List ℕ) → all is_digit s ≡ true → all is_digit (pad_end w s) ≡ true
pad-digits zero s h = h
pad-digits (suc w) [] h = pad-digits w [] refl
pad-digits (suc w) (b ∷ s) h = and_true (is_digit b) _ (and_left (is_digit b) _ h) (pad-digits w s (and_right (is_digit b) _ h))

pad-length : (w : ℕ) (s : List ℕ) → length s ≤ w → length (pad_end w s) ≡ w
pad-length zero [] h = refl
pad-length zero (b ∷ s) h = absurd (not-suc-le-zero h)
pad-length (suc w) [] h = ap suc (pad-length w [] (omega arith))
pad-length (suc w) (b ∷ s) h = ap suc (pad-length w s (omega arith))

pad-below : (w : ℕ) (s : List ℕ) → all is_digit s ≡ true → length s ≤ w → value (pad_end w s) < 10 ^ w
pad-below w s d h = rw (pad-length w s h) at (value_lt (pad_end w s) (pad-digits w s d))

fraction-below : (s : List ℕ) → OnSome (λ f. f < 10000) (fraction_of s)
unfolding fraction_of
fraction-below s = on-cond (λ f. f < 10000) (digit_run 1 4 s) (value (pad_end 4 s)) λ e.
    pad-below 4 s (and_left (all is_digit s) _ e) (run_length 1 4 s e)

whole_below : (s : List ℕ) → OnSome (λ v. v < 99999990001) (whole_of s)
unfolding whole_of
whole_below s = on-cond (λ v. v < 99999990001) (digit_run 1 7 s) (value s * 10000) λ e.
    let h : value s < 10000000 = lt_of_lt_of_le (value_lt s (and_left (all is_digit s) _ e)) (ten-most (length s) 7 (run_length 1 7 s e)) in
    omega arith

added-below : (o p : Option ℕ) → OnSome (λ v. v < 99999990001) o → OnSome (λ f. f < 10000) p → OnSome (λ v. v < 100000000000) (added o p)
added-below None p h k = tt
added-below (Some v) None h k = tt
added-below (Some v) (Some f) h k = omega arith

pub size_below : (s : List ℕ) → OnSome (λ v. v < 100000000000) (read_size s)
size_below s = go (leb (length s) (length (up_to 46 s))) refl
  where
    wider : (o : Option ℕ) → OnSome (λ v. v < 99999990001) o → OnSome (λ v. v < 100000000000) o
    wider None h = tt
    wider (Some v) h = omega arith

    go : (t : Bool) → leb (length s) (length (up_to 46 s)) ≡ t → OnSome (λ v. v < 100000000000) (read_size s)
    go true e = rw (size-whole s (leb-true (length s) (length (up_to 46 s)) e)) (wider (whole_of s) (whole_below s))
    go false e = rw (size-two s (leb-false (length s) (length (up_to 46 s)) e)) (added-below (whole_of (up_to 46 s)) (fraction_of (past 46 s)) (whole_below (up_to 46 s)) (fraction-below (past 46 s)))

-- what was read lies between -9999999.9999 and 9999999.9999
abbrev pub in_reach : ℤ → Bool
in_reach z = le_z (negsuc 99999999998) z && le_z z (pos 99999999999)

abbrev pub Reached : Option ℤ → Type 0
Reached None = Unit {0}
Reached (Some z) = in_reach z ≡ true

pub decimal_reach : (s : List ℕ) → Reached (read_decimal s)
decimal_reach [] = tt
decimal_reach (b ∷ s) = by_cond Reached (eqb b 45) (λ e. down (read_size s) (size_below s)) (λ e. up (read_size (b ∷ s)) (size_below (b ∷ s)))
  where
    up : (o : Option ℕ) → OnSome (λ v. v < 100000000000) o → Reached (map_o pos o)
    up None h = tt
    up (Some v) h = le-leb v 99999999999 (omega arith)

    down : (o : Option ℕ) → OnSome (λ v. v < 100000000000) o → Reached (map_o minus o)
    down None h = tt
    down (Some zero) h = refl
    down (Some (suc v)) h = and_true _ _ (le-leb v 99999999998 (omega arith)) refl
