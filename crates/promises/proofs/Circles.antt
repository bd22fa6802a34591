-- How circles are read: what stands where among the values of a line, and a circle's turn.
use Rattle.std.specs.Prelude.{Some}
use Prim.Native.Nat.{ℕ, zero, suc, ◌<◌, ◌≤◌}
use mathlib.Core.Bool.{Bool, true, false}
use mathlib.Core.List.{List, [], ◌∷◌, ◌++◌}
use mathlib.Core.Path.{◌≡◌, refl, sym, ◌∙◌, ap, subst}
use native.Mathlib.Omega.{arith}
use lib.Dec.{eqb}
use lib.IntN.{ℤ, pos}
use lib.ListN.{length, get_or}
use lib.Signed.{lt_z}
use Rattle.rules.specs.Base.{within}
use Rattle.rules.specs.RefusalNumbers.{got, map_g, or_bad, keep}
use Rattle.rules.specs.Numbers.{read_fixed, read_decimal}
use Rattle.rules.specs.Values.{Num, num, Known, in_bound, Part, count, digit, type_digits, range, range_of_symbols, range_of_wires, day, clock, decimal, exactly, symbol_name, layer_id, equal_z, read_part, read_all, show_part, show_all, agree, arc_of_circle, arc_parts, whole_parts, no_turn, read_circle, is_turnless}
use Rattle.rules.proofs.Chains.{clash, never, map-got, keep-got, or-got, cons-got}
use Rattle.promises.proofs.Numbers.{within_both}

-- ── values between commas ──
-- as many as there are parts, and each read as its part says
pub all-lengths : (k : Known) (ps : List Part) (ss : List (List ℕ)) (v : List Num) → read_all k ps ss ≡ got v → (length ss ≡ length ps) × (length v ≡ length ps)
all-lengths k [] [] v e = let z : [] ≡ v = cc in (refl, ap length (sym z))
all-lengths k [] (s ∷ ss) v e = never e
all-lengths k (p ∷ ps) [] v e = never e
all-lengths k (p ∷ ps) (s ∷ ss) v e =
    let (a, u, x, y, q) = cons-got (read_part k p s) (read_all k ps ss) v e in
    let (l, m) = all-lengths k ps ss u y in
    (ap suc l, ap length (sym q) ∙ ap suc m)

pub part-read : (k : Known) (ps : List Part) (ss : List (List ℕ)) (v : List Num) → read_all k ps ss ≡ got v
    → (i : ℕ) → i < length ps → read_part k (get_or ps i count) (get_or ss i []) ≡ got (get_or v i (num (pos 0)))
part-read k [] ss v e i h = absurd (omega arith)
part-read k (p ∷ ps) [] v e i h = never e
part-read k (p ∷ ps) (s ∷ ss) v e zero h =
    let (a, u, x, y, q) = cons-got (read_part k p s) (read_all k ps ss) v e in
    subst (λ (v : List Num). read_part k p s ≡ got (get_or v 0 (num (pos 0)))) q x
part-read k (p ∷ ps) (s ∷ ss) v e (suc i) h =
    let (a, u, x, y, q) = cons-got (read_part k p s) (read_all k ps ss) v e in
    subst (λ (v : List Num). read_part k (get_or ps i count) (get_or ss i []) ≡ got (get_or v (suc i) (num (pos 0)))) q (part-read k ps ss u y i (omega arith))

-- numbers behind those that are written are not written
pub show-first : (k : Known) (ps : List Part) (v w : List Num) → length v ≡ length ps → show_all k ps (v ++ w) ≡ show_all k ps v
show-first k [] v w e = refl
show-first k (p ∷ ps) [] w e = absurd (omega arith)
show-first k (p ∷ ps) (a ∷ v) w e = ap (λ l. show_part k p a ∷ l) (show-first k ps v w (omega arith))

-- what stands behind v, and what stands in it
pub next-value : (v : List Num) (a : Num) (n : ℕ) → length v ≡ n → get_or (v ++ a ∷ []) n (num (pos 0)) ≡ a
next-value [] a zero e = refl
next-value [] a (suc n) e = absurd (omega arith)
next-value (b ∷ v) a zero e = absurd (omega arith)
next-value (b ∷ v) a (suc n) e = next-value v a n (omega arith)

pub former-value : (v w : List Num) (i : ℕ) → i < length v → get_or (v ++ w) i (num (pos 0)) ≡ get_or v i (num (pos 0))
former-value [] w i h = absurd (omega arith)
former-value (b ∷ v) w zero h = refl
former-value (b ∷ v) w (suc i) h = former-value v w i (omega arith)

-- ── a turn ──
-- a digit that is 0 or 1, as it stands
pub digit-read : (k : Known) (s : List ℕ) (a : Num) → read_part k (digit 0 1) s ≡ got a → (n : ℕ) × (n ≤ 1) × (read_fixed 1 s ≡ Some n) × (num (pos n) ≡ a)
digit-read k s a e =
    let (n, g, q) = map-got (λ n. num (pos n)) (keep 11 (within 0 1) (or_bad 10 (read_fixed 1 s))) a e in
    let (o, t) = keep-got 11 (within 0 1) (or_bad 10 (read_fixed 1 s)) n g in
    (n, (within_both 0 1 n t).1, or-got 10 (read_fixed 1 s) n o, q)

-- the turn of seven values is not below 0
pub arc-turns : (k : Known) (ss : List (List ℕ)) (v : List Num) → read_all k arc_parts ss ≡ got v → is_turnless v ≡ false
arc-turns k ss v e =
    let (n, l, r, q) = digit-read k (get_or ss 6 []) (get_or v 6 (num (pos 0))) (part-read k arc_parts ss v e 6 (omega arith)) in
    ap (λ (a : Num). lt_z a.value (pos 0)) (sym q) ∙ go n l
  where
    go : (n : ℕ) → n ≤ 1 → lt_z (pos n) (pos 0) ≡ false
    go zero l = refl
    go (suc zero) l = refl
    go (suc (suc n)) l = absurd (omega arith)

-- that of six is
pub whole_turnless : (v : List Num) → length v ≡ 6 → is_turnless (v ++ no_turn ∷ []) ≡ true
whole_turnless v e = ap (λ (a : Num). lt_z a.value (pos 0)) (next-value v no_turn 6 e)

-- ── the values before it, as they are written ──
abbrev pub is_decimal : Part → Bool
is_decimal count = false
is_decimal (digit lo hi) = false
is_decimal type_digits = false
is_decimal (range lo hi) = false
is_decimal range_of_symbols = false
is_decimal range_of_wires = false
is_decimal day = false
is_decimal clock = false
is_decimal (decimal b) = true
is_decimal (exactly n) = true
is_decimal symbol_name = false
is_decimal layer_id = false

-- whatever a decimal's bound and its number
kept-decimal : (m : ℕ) (test : ℤ → Bool) (s : List ℕ) (a : Num) → map_g num (keep m test (or_bad 10 (read_decimal s))) ≡ got a → (read_decimal s ≡ Some a.value) × (test a.value ≡ true)
kept-decimal m test s a e =
    let (z, g, q) = map-got num (keep m test (or_bad 10 (read_decimal s))) a e in
    let (o, t) = keep-got m test (or_bad 10 (read_decimal s)) z g in
    (or-got 10 (read_decimal s) z o ∙ ap (λ (c : Num). Some c.value) q, ap (λ (c : Num). test c.value) (sym q) ∙ t)

pub decimal-read : (k : Known) (p : Part) (s : List ℕ) (a : Num) → is_decimal p ≡ true → read_part k p s ≡ got a → read_decimal s ≡ Some a.value
decimal-read k count s a d e = clash d refl
decimal-read k (digit lo hi) s a d e = clash d refl
decimal-read k type_digits s a d e = clash d refl
decimal-read k (range lo hi) s a d e = clash d refl
decimal-read k range_of_symbols s a d e = clash d refl
decimal-read k range_of_wires s a d e = clash d refl
decimal-read k day s a d e = clash d refl
decimal-read k clock s a d e = clash d refl
decimal-read k (decimal b) s a d e = (kept-decimal 11 (in_bound b) s a e).0
decimal-read k (exactly n) s a d e = (kept-decimal 10 (equal_z (pos n)) s a e).0
decimal-read k symbol_name s a d e = clash d refl
decimal-read k layer_id s a d e = clash d refl

pub exact_read : (k : Known) (n : ℕ) (s : List ℕ) (a : Num) → read_part k (exactly n) s ≡ got a → equal_z (pos n) a.value ≡ true
exact_read k n s a e = (kept-decimal 10 (equal_z (pos n)) s a e).1

pub type-read : (k : Known) (s : List ℕ) (a : Num) → read_part k type_digits s ≡ got a → (n : ℕ) × (read_fixed 4 s ≡ Some n) × (a.value ≡ pos n)
type-read k s a e =
    let (n, g, q) = map-got (λ n. num (pos n)) (or_bad 10 (read_fixed 4 s)) a e in
    (n, or-got 10 (read_fixed 4 s) n g, ap (λ (c : Num). c.value) (sym q))

-- ── a circle of a symbol, by how many values it has ──
pub circle-whole : (k : Known) (ss : List (List ℕ)) → eqb (length ss) 6 ≡ true → read_circle k ss ≡ map_g (λ v. v ++ no_turn ∷ []) (read_all k whole_parts ss)
circle-whole k ss e = rw e

pub circle_arc : (k : Known) (ss : List (List ℕ)) → eqb (length ss) 6 ≡ false → read_circle k ss ≡ keep 11 (agree arc_of_circle) (read_all k arc_parts ss)
circle_arc k ss e = rw e
