-- A decimal before a comma: digits, a point and digits, by the places where they end.
use Rattle.std.specs.Prelude.{Option, Some, None}
use Prim.Native.Nat.{ℕ, suc, ◌+◌, ◌-◌, ◌*◌, ◌^◌, ◌<◌, ◌≤◌}
use mathlib.Core.Path.{◌≡◌, refl, ap, sym, subst, ◌∙◌}
use mathlib.Core.List.{List, [], ◌∷◌, ◌++◌, append-nil}
use mathlib.Core.Bool.{Bool, true, false, cond, ◌&&◌}
use native.Mathlib.Nat.{lt_of_lt_of_le}
use native.Mathlib.Omega.{arith}
use lib.Dec.{eqb, leb}
use lib.IntN.{ℤ, pos}
use lib.ListN.{length, get_or, take, drop, length-append, length-drop, take-append-drop}
use lib.Seq.{drop-drop, length-take-le, take-suc, get_or-drop}
use borrow.Author.Tests.{eq-eqb, ne_eqb, eqb-true, le-leb, lt-leb, leb-true, leb-false}
use Rattle.rules.specs.Base.{all, within, is_nil, map_o, whole, parts, cut, onto}
use Rattle.rules.specs.Numbers.{is_digit, digit_run, value_from, value, pad_end, minus, read_size, read_decimal}
use Rattle.rules.proofs.Chains.{and_left, and_right, and_true, and_false, clash}
use Rattle.leaves.specs.Bytes.{up_to, past}
use Rattle.leaves.specs.Readings.{sign_of}
use Rattle.leaves.specs.Pieces.{decimal_piece, sign_length, size_at, size_piece, DigitsRead, RunRead}
use Rattle.leaves.specs.declared.DecimalPiece.{DecimalPiece}
use Rattle.leaves.specs.declared.pieces.NumberEnd.{NumberEnd}
use Rattle.leaves.proofs.Scan.{at, up_to-end, up_to_hit, up_to_miss}
use Rattle.leaves.proofs.Cuts.{up_to-none, cut-whole, cut-two}
use Rattle.leaves.proofs.Digits.{digit_bounds, value_lt, ten-most, OnSome}
use Rattle.leaves.proofs.Decimals.{pad-value, size_below}

-- ── digits hold neither comma nor point ──
no_digit : (c b : ℕ) → c < 48 → is_digit b ≡ true → eqb b c ≡ false
no_digit c b h d = let g = digit_bounds b d in ne_eqb b c (λ e. absurd (omega (arith, g.0)))

module _ (c : ℕ) (h : c < 48) where
  up_to-digits : (d r : List ℕ) → all is_digit d ≡ true → up_to c (d ++ r) ≡ d ++ up_to c r
  unfolding up_to
  up_to-digits [] r a = refl
  up_to-digits (b ∷ d) r a = rw (no_digit c b h (and_left (is_digit b) _ a)) (ap (λ (l : List ℕ). b ∷ l) (up_to-digits d r (and_right (is_digit b) _ a)))

  cut-digits : (d : List ℕ) → all is_digit d ≡ true → cut c d ≡ whole
  cut-digits [] a = refl
  cut-digits (b ∷ d) a = rw (no_digit c b h (and_left (is_digit b) _ a)) (ap (onto b) (cut-digits d (and_right (is_digit b) _ a)))

  cut-behind : (d r : List ℕ) → all is_digit d ≡ true → cut c (d ++ c ∷ r) ≡ parts d r
  cut-behind [] r a = rw (eq-eqb c c refl)
  cut-behind (b ∷ d) r a = rw (no_digit c b h (and_left (is_digit b) _ a)) (ap (onto b) (cut-behind d r (and_right (is_digit b) _ a)))

digit-run : (lo hi : ℕ) (d : List ℕ) → all is_digit d ≡ true → lo ≤ length d → length d ≤ hi → digit_run lo hi d ≡ true
digit-run lo hi d a l u = rw (a, le-leb lo (length d) l, le-leb (length d) hi u)

-- ── a run of digits and what follows it ──
nil : (s : List ℕ) → is_nil s ≡ true → s ≡ []
nil [] e = refl
nil (b ∷ s) e = absurd (let z : ◌≡◌ {A = ℕ} 0 1 = cc in omega arith)

module _ (s : List ℕ) (a i : ℕ) (h : a ≤ i) (k : i ≤ length s) where
  run-rest : drop a s ≡ take (i - a) (drop a s) ++ drop i s
  run-rest = let e : a + (i - a) ≡ i = omega arith in sym (take-append-drop (i - a) (drop a s)) ∙ ap (λ (l : List ℕ). take (i - a) (drop a s) ++ l) (drop-drop (i - a) a s ∙ ap (λ (n : ℕ). drop n s) e)

  run_long : length (take (i - a) (drop a s)) ≡ i - a
  run_long = length-take-le (i - a) (drop a s) (omega (arith, length-drop a s))

-- one more digit
value-snoc : (v : ℕ) (d : List ℕ) (b : ℕ) → value_from v (d ++ b ∷ []) ≡ value_from v d * 10 + (b - 48)
value-snoc v [] b = refl
value-snoc v (x ∷ d) b = value-snoc (v * 10 + (x - 48)) d b

all_snoc : (d : List ℕ) (b : ℕ) → all is_digit d ≡ true → is_digit b ≡ true → all is_digit (d ++ b ∷ []) ≡ true
all_snoc [] b h e = rw e
all_snoc (x ∷ d) b h e = and_true (is_digit x) _ (and_left (is_digit x) _ h) (all_snoc d b (and_right (is_digit x) _ h) e)

module _ (s : List ℕ) (a i : ℕ) (h : a ≤ i) (k : i < length s) where
  next-digit : take (i + 1 - a) (drop a s) ≡ take (i - a) (drop a s) ++ get_or s i 0 ∷ []
  next-digit =
      let e : i + 1 - a ≡ suc (i - a) = omega arith in
      let f : a + (i - a) ≡ i = omega arith in
      ap (λ (n : ℕ). take n (drop a s)) e ∙ take-suc (drop a s) (i - a) 0 (omega (arith, length-drop a s))
      ∙ ap (λ (b : ℕ). take (i - a) (drop a s) ++ b ∷ []) (get_or-drop a s (i - a) 0 ∙ ap (λ (n : ℕ). get_or s n 0) f)

  next-all : all is_digit (take (i - a) (drop a s)) ≡ true → is_digit (get_or s i 0) ≡ true → all is_digit (take (i + 1 - a) (drop a s)) ≡ true
  next-all d e = rw next-digit (all_snoc (take (i - a) (drop a s)) (get_or s i 0) d e)

  next-value : (v : ℕ) → v ≡ value (take (i - a) (drop a s)) → v * 10 + (get_or s i 0 - 48) ≡ value (take (i + 1 - a) (drop a s))
  next-value v e = rw next-digit (rw e (sym (value-snoc 0 (take (i - a) (drop a s)) (get_or s i 0))))

module _ (s : List ℕ) (a most v i : ℕ) (r : DigitsRead s a most (record { value = v; end = i })) where
  pub run-next : i < length s → i < a + most → is_digit (get_or s i 0) ≡ true → DigitsRead s a most (record { value = v * 10 + (get_or s i 0 - 48); end = i + 1 })
  run-next h k d = record {
    start = omega (arith, r.start);
    room = omega arith;
    few = omega arith;
    digits = next-all s a i r.start h r.digits d;
    number = next-value s a i r.start h v r.number;
  }

  -- eight digits are few
  pub run_small : most ≤ 8 → v < 100000000
  run_small m =
      let d = take (i - a) (drop a s) in
      let l = run_long s a i r.start r.room in
      let h : value d < 10 ^ 8 = lt_of_lt_of_le (value_lt d r.digits) (ten-most (length d) 8 (omega (arith, l, r.few, r.start))) in
      rw r.number h

-- ── what is no run of digits ──
not-digits : (d x : List ℕ) (b : ℕ) → is_digit b ≡ false → all is_digit (d ++ b ∷ x) ≡ false
not-digits [] x b h = rw h
not-digits (c ∷ d) x b h = rw (not-digits d x b h) (and_false (is_digit c))

no_run : (lo hi : ℕ) (d x : List ℕ) (b : ℕ) → (length d < hi → is_digit b ≡ false) → digit_run lo hi (d ++ b ∷ x) ≡ false
no_run lo hi d x b h = go (leb hi (length d)) refl
  where
    go : (t : Bool) → leb hi (length d) ≡ t → digit_run lo hi (d ++ b ∷ x) ≡ false
    go true e =
        let l = leb-true hi (length d) e in
        let n : hi < length (d ++ b ∷ x) = omega (arith, length-append d (b ∷ x)) in
        rw (lt-leb (length (d ++ b ∷ x)) hi n, and_false (leb lo (length (d ++ b ∷ x)))) (and_false (all is_digit (d ++ b ∷ x)))
    go false e = rw (not-digits d x b (h (leb-false hi (length d) e)))

-- a list that starts with no digit, or is empty
first_no : (hi : ℕ) (l : List ℕ) → is_digit (get_or l 0 0) ≡ false → digit_run 1 hi l ≡ false
first_no hi [] h = refl
first_no hi (b ∷ l) h = rw h

up_to-first : (c : ℕ) (l : List ℕ) → is_digit (get_or l 0 0) ≡ false → is_digit (get_or (up_to c l) 0 0) ≡ false
unfolding up_to
up_to-first c [] h = refl
up_to-first c (b ∷ l) h = go (eqb b c)
  where
    go : (t : Bool) → is_digit (get_or (cond t [] (b ∷ up_to c l)) 0 0) ≡ false
    go true = refl
    go false = h

up_to-other : (c b : ℕ) (l : List ℕ) → (b ≡ c → ⊥) → up_to c (b ∷ l) ≡ b ∷ up_to c l
unfolding up_to
up_to-other c b l h = rw (ne_eqb b c h)

size_none : (p : List ℕ) → digit_run 1 7 (up_to 46 p) ≡ false → read_size p ≡ None
size_none p h = go (leb (length p) (length (up_to 46 p))) refl
  where
    go : (t : Bool) → leb (length p) (length (up_to 46 p)) ≡ t → read_size p ≡ None
    go true e =
        let l = leb-true (length p) (length (up_to 46 p)) e in
        rw (cut-whole 46 p l, rw (up_to-none 46 p l) at h)
    go false e = rw (cut-two 46 p (leb-false (length p) (length (up_to 46 p)) e), h)

-- ── the end of a piece ──
pub ends_at : (s : List ℕ) (i : ℕ) → i < length s → eqb (get_or s i 0) 44 ≡ is_nil (up_to 44 (drop i s))
unfolding up_to
ends_at s i h = rw (at s i h) (go (eqb (get_or s i 0) 44))
  where
    go : (t : Bool) → t ≡ is_nil (cond t [] (get_or s i 0 ∷ up_to 44 (drop (i + 1) s)))
    go true = refl
    go false = refl

pub goes_on : (s : List ℕ) (i : ℕ) → is_nil (up_to 44 (drop i s)) ≡ false → i < length s
goes_on s i e = go (leb (length s) i) refl
  where
    go : (t : Bool) → leb (length s) i ≡ t → i < length s
    go true h = clash (ap is_nil (up_to-end 44 s i (leb-true (length s) i h))) e
    go false h = leb-false (length s) i h

on-with : (s : List ℕ) (i : ℕ) → is_nil (up_to 44 (drop i s)) ≡ false → up_to 44 (drop i s) ≡ get_or s i 0 ∷ up_to 44 (drop (i + 1) s)
on-with s i e = up_to_miss 44 s i (goes_on s i e) (λ h. clash (ap is_nil (up_to_hit 44 s i (goes_on s i e) h)) e)

-- ── a run, and the piece it starts ──
module _ (s : List ℕ) (a most v i : ℕ) (r : RunRead s a most (record { value = v; end = i })) where
  in-piece : up_to 44 (drop a s) ≡ take (i - a) (drop a s) ++ up_to 44 (drop i s)
  in-piece = ap (up_to 44) (run-rest s a i r.read.start r.read.room) ∙ up_to-digits 44 (omega arith) (take (i - a) (drop a s)) (drop i s) r.read.digits

  all-piece : is_nil (up_to 44 (drop i s)) ≡ true → up_to 44 (drop a s) ≡ take (i - a) (drop a s)
  all-piece e = in-piece ∙ ap (λ (l : List ℕ). take (i - a) (drop a s) ++ l) (nil (up_to 44 (drop i s)) e) ∙ append-nil (take (i - a) (drop a s))

  is-run : (i ≡ a → ⊥) → digit_run 1 most (take (i - a) (drop a s)) ≡ true
  is-run n =
      let l = run_long s a i r.read.start r.read.room in
      digit-run 1 most (take (i - a) (drop a s)) r.read.digits (omega (arith, l, r.read.start, n)) (omega (arith, l, r.read.few))

  -- a byte behind it that is no digit, or one digit too many
  broken-run : (x : List ℕ) → digit_run 1 most (take (i - a) (drop a s) ++ get_or s i 0 ∷ x) ≡ false
  broken-run x = no_run 1 most (take (i - a) (drop a s)) x (get_or s i 0) (λ h. r.stop (omega (arith, run_long s a i r.read.start r.read.room, r.read.start)))

  none-there : 0 < most → i ≡ a → is_digit (get_or (up_to 44 (drop a s)) 0 0) ≡ false
  none-there m e =
      let z : a + 0 ≡ i = omega arith in
      up_to-first 44 (drop a s) (rw (get_or-drop a s 0 0, z) (r.stop (omega arith)))

-- ── a size, as it is answered ──
module _ (s : List ℕ) (a : ℕ) where
  is-size : (v e : ℕ) → read_size (up_to 44 (drop a s)) ≡ Some v → e ≡ a + length (up_to 44 (drop a s)) → Some (record { value = v; end = e }) ≡ size_piece a s
  unfolding size_piece
  is-size v e r q = rw (r, q)

  no_size : read_size (up_to 44 (drop a s)) ≡ None → None ≡ size_piece a s
  unfolding size_piece
  no_size r = rw r

  pub size-was : (z : NumberEnd) → size_piece a s ≡ Some z → (read_size (up_to 44 (drop a s)) ≡ Some z.value) × (z.end ≡ a + length (up_to 44 (drop a s)))
  unfolding size_piece
  size-was z e = go (read_size (up_to 44 (drop a s))) e
    where
      go : (o : Option ℕ) → size_at (a + length (up_to 44 (drop a s))) o ≡ Some z → (o ≡ Some z.value) × (z.end ≡ a + length (up_to 44 (drop a s)))
      go None e = absurd (let n : ◌≡◌ {A = ℕ} 0 1 = cc in omega arith)
      go (Some v) e = let q : record { value = v; end = a + length (up_to 44 (drop a s)) } ≡ z = cc in (ap (λ (y : NumberEnd). Some y.value) q, ap (λ (y : NumberEnd). y.end) (sym q))

  pub size-was-not : size_piece a s ≡ None → read_size (up_to 44 (drop a s)) ≡ None
  unfolding size_piece
  size-was-not e = go (read_size (up_to 44 (drop a s))) e
    where
      go : (o : Option ℕ) → size_at (a + length (up_to 44 (drop a s))) o ≡ None → o ≡ None
      go None e = refl
      go (Some v) e = absurd (let n : ◌≡◌ {A = ℕ} 0 1 = cc in omega arith)

pub size-some : (s : List ℕ) (n : ℕ) → read_size s ≡ Some n → n < 100000000000
size-some s n e = subst (OnSome (λ m. m < 100000000000)) e (size_below s)

-- ── the whole number ──
module _ (s : List ℕ) (a v i : ℕ) (r : RunRead s a 7 (record { value = v; end = i })) where
  pub no-digit-first : i ≡ a → None ≡ size_piece a s
  no-digit-first e =
      no_size s a (size_none (up_to 44 (drop a s)) (first_no 7 (up_to 46 (up_to 44 (drop a s))) (up_to-first 46 (up_to 44 (drop a s)) (none-there s a 7 v i r (omega arith) e))))

  pub whole-alone : (i ≡ a → ⊥) → is_nil (up_to 44 (drop i s)) ≡ true → Some (record { value = v * 10000; end = i }) ≡ size_piece a s
  whole-alone n e =
      let p = all-piece s a 7 v i r e in
      is-size s a (v * 10000) i
      (ap read_size p ∙ rw (cut-digits 46 (omega arith) (take (i - a) (drop a s)) r.read.digits, is-run s a 7 v i r n, r.read.number))
      (rw p (omega (arith, run_long s a i r.read.start r.read.room, r.read.start)))

  module _ (on : is_nil (up_to 44 (drop i s)) ≡ false) where
    pub whole-broken : (get_or s i 0 ≡ 46 → ⊥) → None ≡ size_piece a s
    whole-broken n =
        let p : up_to 46 (up_to 44 (drop a s)) ≡ take (i - a) (drop a s) ++ get_or s i 0 ∷ up_to 46 (up_to 44 (drop (i + 1) s)) =
        ap (up_to 46) (in-piece s a 7 v i r ∙ ap (λ (l : List ℕ). take (i - a) (drop a s) ++ l) (on-with s i on))
        ∙ up_to-digits 46 (omega arith) (take (i - a) (drop a s)) (get_or s i 0 ∷ up_to 44 (drop (i + 1) s)) r.read.digits
        ∙ ap (λ (l : List ℕ). take (i - a) (drop a s) ++ l) (up_to-other 46 (get_or s i 0) (up_to 44 (drop (i + 1) s)) n)
        in
        no_size s a (size_none (up_to 44 (drop a s)) (rw p (broken-run s a 7 v i r (up_to 46 (up_to 44 (drop (i + 1) s))))))

    -- ── the digits behind the point ──
    module _ (point : get_or s i 0 ≡ 46) (f j : ℕ) (q : RunRead s (i + 1) 4 (record { value = f; end = j })) where
      by-point : up_to 44 (drop a s) ≡ take (i - a) (drop a s) ++ 46 ∷ up_to 44 (drop (i + 1) s)
      by-point =
          in-piece s a 7 v i r ∙ ap (λ (l : List ℕ). take (i - a) (drop a s) ++ l) (on-with s i on ∙ ap (λ (b : ℕ). b ∷ up_to 44 (drop (i + 1) s)) point)

      two-parts : cut 46 (up_to 44 (drop a s)) ≡ parts (take (i - a) (drop a s)) (up_to 44 (drop (i + 1) s))
      two-parts = ap (cut 46) by-point ∙ cut-behind 46 (omega arith) (take (i - a) (drop a s)) (up_to 44 (drop (i + 1) s)) r.read.digits

      no_fraction : digit_run 1 4 (up_to 44 (drop (i + 1) s)) ≡ false → None ≡ size_piece a s
      no_fraction h = no_size s a (rw (two-parts, h, and_false (digit_run 1 7 (take (i - a) (drop a s)))))

      pub no-digit-behind : j ≡ i + 1 → None ≡ size_piece a s
      no-digit-behind e = no_fraction (first_no 4 (up_to 44 (drop (i + 1) s)) (none-there s (i + 1) 4 f j q (omega arith) e))

      pub fraction-broken : is_nil (up_to 44 (drop j s)) ≡ false → None ≡ size_piece a s
      fraction-broken e =
          let p = in-piece s (i + 1) 4 f j q ∙ ap (λ (l : List ℕ). take (j - (i + 1)) (drop (i + 1) s) ++ l) (on-with s j e) in
          no_fraction (rw p (broken-run s (i + 1) 4 f j q (up_to 44 (drop (j + 1) s))))

      pub both-parts : (i ≡ a → ⊥) → (j ≡ i + 1 → ⊥) → is_nil (up_to 44 (drop j s)) ≡ true → (u : ℕ) → u ≡ 10 ^ (4 - (j - (i + 1)))
          → Some (record { value = v * 10000 + f * u; end = j }) ≡ size_piece a s
      both-parts n m e u h =
          let b = all-piece s (i + 1) 4 f j q e in
          let l = run_long s (i + 1) j q.read.start q.read.room in
          let w : value (pad_end 4 (take (j - (i + 1)) (drop (i + 1) s))) ≡ f * u = pad-value 4 0 (take (j - (i + 1)) (drop (i + 1) s)) (omega (arith, l, q.read.few)) ∙ rw (l, h, q.read.number) in
          is-size s a (v * 10000 + f * u) j
          (rw (two-parts, b, is-run s a 7 v i r n, is-run s (i + 1) 4 f j q m, w, r.read.number))
          (rw (by-point, b) (omega (arith, length-append (take (i - a) (drop a s)) (46 ∷ take (j - (i + 1)) (drop (i + 1) s)), run_long s a i r.read.start r.read.room, l, r.read.start, q.read.start)))

-- ── the sign ──
-- a piece with this value that ends here
abbrev pub piece_at : ℕ → ℤ → DecimalPiece
piece_at e z = record { reading = Some (record { value = z }); end = e }

minus_sign : (s : List ℕ) → (read_decimal (up_to 44 (45 ∷ s)) ≡ map_o minus (read_size (up_to 44 s))) × (length (up_to 44 (45 ∷ s)) ≡ 1 + length (up_to 44 s))
unfolding up_to
minus_sign s = (refl, omega arith)

no_sign : (b : ℕ) (s : List ℕ) → eqb b 45 ≡ false → read_decimal (up_to 44 (b ∷ s)) ≡ map_o pos (read_size (up_to 44 (b ∷ s)))
unfolding up_to
no_sign b s h = go (eqb b 44)
  where
    go : (t : Bool) → read_decimal (cond t [] (b ∷ up_to 44 s)) ≡ map_o pos (read_size (cond t [] (b ∷ up_to 44 s)))
    go true = refl
    go false = rw h

-- the piece behind its sign
by_sign : (s : List ℕ) → (read_decimal (up_to 44 s) ≡ map_o (sign_of (eqb (sign_length s) 1)) (read_size (up_to 44 (drop (sign_length s) s)))) × (length (up_to 44 s) ≡ sign_length s + length (up_to 44 (drop (sign_length s) s)))
unfolding up_to
by_sign [] = (refl, omega arith)
by_sign (b ∷ s) = go (eqb b 45) refl
  where
    go : (t : Bool) → eqb b 45 ≡ t
        → (read_decimal (up_to 44 (b ∷ s)) ≡ map_o (sign_of (eqb (cond t 1 0) 1)) (read_size (up_to 44 (drop (cond t 1 0) (b ∷ s))))) × (length (up_to 44 (b ∷ s)) ≡ cond t 1 0 + length (up_to 44 (drop (cond t 1 0) (b ∷ s))))
    go true e = rw (eqb-true b 45 e) (minus_sign s)
    go false e = (no_sign b s e, omega arith)

module _ (s : List ℕ) (k : ℕ) (g : k ≡ sign_length s) where
  behind_sign : read_decimal (up_to 44 s) ≡ map_o (sign_of (eqb k 1)) (read_size (up_to 44 (drop k s)))
  behind_sign = rw g (by_sign s).0

  end-behind : length (up_to 44 s) ≡ k + length (up_to 44 (drop k s))
  end-behind = rw g (by_sign s).1

  pub not_piece : (e : ℕ) → e ≡ length (up_to 44 s) → size_piece k s ≡ None → record { reading = None; end = e } ≡ decimal_piece s
  unfolding decimal_piece
  not_piece e q h = rw (behind_sign, size-was-not s k h, q)

  module _ (z : NumberEnd) (h : size_piece k s ≡ Some z) where
    pub minus-piece : k ≡ 1 → piece_at z.end (minus z.value) ≡ decimal_piece s
    unfolding decimal_piece
    minus-piece o = let w = size-was s k z h in rw (behind_sign, w.0, eq-eqb k 1 o, end-behind, w.1)

    pub plain-piece : (k ≡ 1 → ⊥) → piece_at z.end (pos z.value) ≡ decimal_piece s
    unfolding decimal_piece
    plain-piece o = let w = size-was s k z h in rw (behind_sign, w.0, ne_eqb k 1 o, end-behind, w.1)

-- ── a decimal holds no comma ──
both_no : (a w b x : Bool) → (a && b) ≡ false → ((a && w) && (b && x)) ≡ false
both_no true w true x h = clash refl h
both_no true w false x h = and_false (true && w)
both_no false w b x h = refl

more_no : (t a b : Bool) → (a && b) ≡ false → ((t && a) && b) ≡ false
more_no true a b h = h
more_no false a b h = refl

comma-digits : (p : List ℕ) → length (up_to 44 p) < length p → all is_digit p ≡ false
unfolding up_to
comma-digits [] = λ h. absurd (omega arith)
comma-digits (b ∷ p) = go (eqb b 44) refl (comma-digits p)
  where
    go : (t : Bool) → eqb b 44 ≡ t → (length (up_to 44 p) < length p → all is_digit p ≡ false) → length (cond t [] (b ∷ up_to 44 p)) < suc (length p) → all is_digit (b ∷ p) ≡ false
    go true e ih h = rw (eqb-true b 44 e)
    go false e ih h = rw (ih (omega arith)) (and_false (is_digit b))

comma-parts : (p : List ℕ) → length (up_to 44 p) < length p → (all is_digit (up_to 46 p) && all is_digit (past 46 p)) ≡ false
unfolding up_to past
comma-parts [] = λ h. absurd (omega arith)
comma-parts (b ∷ p) = go (eqb b 44) refl (eqb b 46) refl (comma-parts p)
  where
    go : (t : Bool) → eqb b 44 ≡ t → (u : Bool) → eqb b 46 ≡ u → (length (up_to 44 p) < length p → (all is_digit (up_to 46 p) && all is_digit (past 46 p)) ≡ false)
        → length (cond t [] (b ∷ up_to 44 p)) < suc (length p) → (all is_digit (cond u [] (b ∷ up_to 46 p)) && all is_digit (cond u p (past 46 p))) ≡ false
    go true e true f ih h = clash f (ap (λ (x : ℕ). eqb x 46) (eqb-true b 44 e))
    go true e false f ih h = rw (eqb-true b 44 e)
    go false e true f ih h = comma-digits p (omega arith)
    go false e false f ih h = more_no (is_digit b) (all is_digit (up_to 46 p)) (all is_digit (past 46 p)) (ih (omega arith))

comma-size : (p : List ℕ) → length (up_to 44 p) < length p → read_size p ≡ None
comma-size p h = go (leb (length p) (length (up_to 46 p))) refl
  where
    go : (t : Bool) → leb (length p) (length (up_to 46 p)) ≡ t → read_size p ≡ None
    go true e = rw (cut-whole 46 p (leb-true (length p) (length (up_to 46 p)) e), comma-digits p h)
    go false e =
        rw (cut-two 46 p (leb-false (length p) (length (up_to 46 p)) e), both_no (all is_digit (up_to 46 p)) (within 1 7 (length (up_to 46 p))) (all is_digit (past 46 p)) (within 1 4 (length (past 46 p))) (comma-parts p h))

pub comma-decimal : (s : List ℕ) → length (up_to 44 s) < length s → read_decimal s ≡ None
comma-decimal [] h = refl
comma-decimal (b ∷ s) h = go (eqb b 45) refl
  where
    go : (t : Bool) → eqb b 45 ≡ t → cond t (map_o minus (read_size s)) (map_o pos (read_size (b ∷ s))) ≡ None
    go true e = rw (comma-size s (omega (arith, (minus_sign s).1, rw (eqb-true b 45 e) at h)))
    go false e = rw (comma-size (b ∷ s) h)
