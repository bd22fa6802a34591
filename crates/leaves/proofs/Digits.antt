-- Runs of digits: one step of reading them by index, and what the number read is below.
use Rattle.std.specs.Prelude.{Option, Some, None}
use Prim.Native.Nat.{ℕ, suc, ◌+◌, ◌-◌, ◌*◌, ◌^◌, ◌<◌, ◌≤◌}
use mathlib.Core.Path.{◌≡◌, refl}
use mathlib.Core.List.{List, [], ◌∷◌}
use mathlib.Core.Bool.{Bool, true, false, cond}
use native.Mathlib.Numerals.{add-one}
use native.Mathlib.Nat.{lt_of_lt_of_le, le_trans, le_of_eq, mul-le-mul_right, pow-succ', pow-le-pow_right}
use native.Mathlib.Omega.{arith}
use lib.Dec.{leb, lit≤}
use lib.ListN.{length, get_or, drop, drop_of_length-le}
use borrow.Author.Tests.{le-leb, lt-leb, leb-true}
use Rattle.rules.specs.Base.{all}
use Rattle.rules.specs.Numbers.{is_digit, digit_run, value_from, value}
use Rattle.rules.proofs.Chains.{and_left, and_right, and_false}
use Rattle.leaves.specs.Readings.{read_run, run_from, kept}
use Rattle.leaves.proofs.Scan.{at, and_truth}

pub digit_bounds : (b : ℕ) → is_digit b ≡ true → (48 ≤ b) × (b ≤ 57)
digit_bounds b e = (leb-true 48 b (and_left (leb 48 b) _ e), leb-true b 57 (and_right (leb 48 b) _ e))

-- ── digit by digit ──
module _ (v : ℕ) (s : List ℕ) (i : ℕ) where
  pub run_step : i < length s → is_digit (get_or s i 0) ≡ true → run_from v (drop i s) ≡ run_from (v * 10 + (get_or s i 0 - 48)) (drop (i + 1) s)
  unfolding run_from
  run_step h e = rw (at s i h, e)

  pub run-stop : i < length s → is_digit (get_or s i 0) ≡ false → run_from v (drop i s) ≡ None
  unfolding run_from
  run-stop h e = rw (at s i h, e)

  pub run_end : length s ≤ i → run_from v (drop i s) ≡ Some v
  unfolding run_from
  run_end h = rw (drop_of_length-le s h)

-- one more digit, ten times the bound
pub ten-times : (v d i : ℕ) → v < 10 ^ i → d ≤ 9 → v * 10 + d < 10 ^ (i + 1)
ten-times v d i h k = rw (add-one, pow-succ' 10 i) (omega arith)

pub ten-most : (i m : ℕ) → i ≤ m → 10 ^ i ≤ 10 ^ m
ten-most i m h = pow-le-pow_right (lit≤ tt) h

-- ── how many ──
module _ (lo hi : ℕ) (s : List ℕ) where
  pub run_long : lo ≤ length s → hi < length s → read_run lo hi s ≡ None
  run_long l h = rw (le-leb lo (length s) l, lt-leb (length s) hi h, and_false (all is_digit s))

  pub run_fits : lo ≤ length s → length s ≤ hi → read_run lo hi s ≡ run_from 0 s
  unfolding run_from
  run_fits l h = rw (le-leb lo (length s) l, le-leb (length s) hi h, and_truth (all is_digit s))

pub run_length : (lo hi : ℕ) (s : List ℕ) → digit_run lo hi s ≡ true → length s ≤ hi
run_length lo hi s e = leb-true (length s) hi (and_right (leb lo (length s)) _ (and_right (all is_digit s) _ e))

-- ── bounds ──
digit-step : (a b p : ℕ) → b ≤ 57 → (a * 10 + (b - 48) + 1) * p ≤ (a + 1) * (10 * p)
digit-step a b p d = le_trans (mul-le-mul_right p (omega arith)) (le_of_eq (tens a p))
  where
    tens : (a p : ℕ) → (a * 10 + 10) * p ≡ (a + 1) * (10 * p)
    tens a p = omega arith

value-below : (s : List ℕ) (a : ℕ) → all is_digit s ≡ true → value_from a s < (a + 1) * 10 ^ length s
value-below [] a h = omega arith
value-below (b ∷ s) a h =
    let d = digit_bounds b (and_left (is_digit b) _ h) in
    let e : 10 ^ suc (length s) ≡ 10 * 10 ^ length s = omega arith in
    lt_of_lt_of_le (value-below s (a * 10 + (b - 48)) (and_right (is_digit b) _ h)) (rw e (digit-step a b (10 ^ length s) d.1))

pub value_lt : (s : List ℕ) → all is_digit s ≡ true → value s < 10 ^ length s
value_lt s d = lt_of_lt_of_le (value-below s 0 d) (le_of_eq (omega arith))

pub not_is : {P : Type 0} {n : ℕ} → None ≡ Some n → P
not_is e = absurd (let z : ◌≡◌ {A = ℕ} 0 1 = cc in omega arith)

-- what holds of the number, where there is one
abbrev pub OnSome : (ℕ → Type 0) → Option ℕ → Type 0
OnSome P None = Unit {0}
OnSome P (Some n) = P n

pub on-cond : (P : ℕ → Type 0) (t : Bool) (n : ℕ) → (t ≡ true → P n) → OnSome P (cond t (Some n) None)
on-cond P true n h = h refl
on-cond P false n h = tt

pub on-is : (P : ℕ → Type 0) (o : Option ℕ) (n : ℕ) → OnSome P o → o ≡ Some n → P n
on-is P None n h e = not_is e
on-is P (Some m) n h e = let q : m ≡ n = cc in rw (← q) h

-- a run of lo to hi digits is below 10 to hi: so are counts, serial numbers and fixed digits
pub run-below : (lo hi : ℕ) (s : List ℕ) → OnSome (λ n. n < 10 ^ hi) (read_run lo hi s)
run-below lo hi s = on-cond (λ n. n < 10 ^ hi) (digit_run lo hi s) (value s) λ e.
    lt_of_lt_of_le (value_lt s (and_left (all is_digit s) _ e)) (ten-most (length s) hi (run_length lo hi s e))

-- ── a test behind a reading ──
pub kept-below : (p : ℕ → Bool) (m : ℕ) (o : Option ℕ) → OnSome (λ n. n < m) o → OnSome (λ n. n < m) (kept p o)
kept-below p m None h = tt
kept-below p m (Some n) h = on-cond (λ k. k < m) (p n) n (λ e. h)
