-- One text written for another that was read: no longer, of allowed bytes, and opening nothing where the other is so.
use Rattle.std.specs.Prelude.{Option, Some, None}
use Prim.Native.Nat.{ℕ, ◌≤◌}
use mathlib.Core.Bool.{Bool, true, false, cond, ◌&&◌, ◌||◌, not}
use mathlib.Core.List.{List, [], ◌∷◌, ◌++◌}
use mathlib.Core.Path.{◌≡◌, refl, sym}
use native.Mathlib.Nat.{le_refl}
use native.Mathlib.Omega.{arith}
use lib.Dec.{eqb}
use lib.ListN.{length}
use borrow.Author.Tests.{lt-leb}
use Rattle.rules.specs.Base.{bytes, map_o, is_nil, all, same, within}
use Rattle.rules.specs.Numbers.{is_digit}
use Rattle.rules.specs.Lines.{single_byte, lead_byte, trail_byte, allowed_from, allowed, stem}
use Rattle.rules.proofs.Chains.{and_left, and_right, and_false, none-some, all_weaken}
use Rattle.promises.proofs.Numbers.{within_both, both-within, numeric, free, all-free, free-head, free-tail, Again}

-- ── allowed bytes ──
-- a byte that is neither lead nor trail parts what is allowed
pub allowed_seam : (x : ℕ) → trail_byte x ≡ false → lead_byte x ≡ false → single_byte x ≡ true → (lead : Bool) (u v : List ℕ)
    → allowed_from lead (u ++ x ∷ v) ≡ (allowed_from lead u && allowed v)
allowed_seam x t l s true [] v = rw t
allowed_seam x t l s false [] v = rw (s, l)
allowed_seam x t l s lead (b ∷ u) v =
    go (cond lead (trail_byte b) (single_byte b || lead_byte b)) (allowed_seam x t l s (not lead && lead_byte b) u v)
  where
    go : (h : Bool) → allowed_from (not lead && lead_byte b) (u ++ x ∷ v) ≡ (allowed_from (not lead && lead_byte b) u && allowed v)
        → (h && allowed_from (not lead && lead_byte b) (u ++ x ∷ v)) ≡ (h && allowed_from (not lead && lead_byte b) u && allowed v)
    go true e = e
    go false e = refl

-- ── what opens ──
pub stem-tail : (b : ℕ) (s : List ℕ) → stem (b ∷ s) ≡ None → stem s ≡ None
stem-tail b s e = go (same (b ∷ s) (bytes ":{")) (stem s) e
  where
    go : (t : Bool) (o : Option (List ℕ)) → cond t (Some []) (map_o (λ r. b ∷ r) o) ≡ None → o ≡ None
    go true o e = none-some (sym e)
    go false None e = refl
    go false (Some r) e = none-some (sym e)

-- the end of a text that opens nothing
pub stem_end : (u v : List ℕ) → stem (u ++ v) ≡ None → stem v ≡ None
stem_end [] v e = e
stem_end (b ∷ u) v e = stem_end u v (stem-tail b (u ++ v) e)

not-opener : (u v : List ℕ) → same (u ++ 44 ∷ v) (bytes ":{") ≡ false
not-opener [] v = refl
not-opener (b ∷ []) v = and_false (eqb b 58)
not-opener (b ∷ c ∷ []) v = rw (and_false (eqb c 123), and_false (eqb b 58))
not-opener (b ∷ c ∷ d ∷ u) v = rw (and_false (eqb c 123), and_false (eqb b 58))

-- what stands behind a comma opens nothing, so the whole does not
pub stem_comma : (u v : List ℕ) → stem v ≡ None → stem (u ++ 44 ∷ v) ≡ None
stem_comma [] v e = rw e
stem_comma (b ∷ u) v e = rw (not-opener (b ∷ u) v, stem_comma u v e)

stem-free : (s : List ℕ) → free 58 s ≡ true → stem s ≡ None
stem-free [] e = refl
stem-free (b ∷ s) e = rw (free-head 58 b s e, stem-free s (free-tail 58 b s e))

-- ── one text for another ──
-- t may stand where s was read: it is no longer, and not empty, of allowed bytes, opening nothing where s is so
pub record Stands (s t : List ℕ) : Type 0 where
  pub full : is_nil s ≡ false → is_nil t ≡ false
  pub short : length t ≤ length s
  pub okay : allowed s ≡ true → allowed t ≡ true
  pub shut : stem s ≡ None → stem t ≡ None

pub stands_same : (s : List ℕ) → Stands s s
stands_same s = record { full = λ e. e; short = le_refl (length s); okay = λ e. e; shut = λ e. e }

-- the bytes that values are written with, but for names and texts: those of numbers, `/`, capitals
abbrev pub plain : ℕ → Bool
plain b = within 45 57 b || within 65 90 b

pub or_cases : {P : Type 0} (a b : Bool) → (a ≡ true → P) → (b ≡ true → P) → (a || b) ≡ true → P
or_cases true b f g e = f refl
or_cases false b f g e = g e

pub plain_bounds : (b : ℕ) → plain b ≡ true → (45 ≤ b) × (b ≤ 90)
plain_bounds b e =
    or_cases (within 45 57 b) (within 65 90 b) (λ w. let (l, h) = within_both 45 57 b w in (l, omega arith)) (λ w. let (l, h) = within_both 65 90 b w in (omega arith, h)) e

plain-allowed : (s : List ℕ) → all plain s ≡ true → allowed s ≡ true
plain-allowed [] e = refl
plain-allowed (b ∷ s) e =
    let (l, h) = plain_bounds b (and_left (plain b) _ e) in
    rw (both-within 32 126 b (omega arith) (omega arith), lt-leb 129 b (omega arith), lt-leb 224 b (omega arith)) (plain-allowed s (and_right (plain b) _ e))

pub stands_plain : (s t : List ℕ) → all plain t ≡ true → is_nil t ≡ false → length t ≤ length s → Stands s t
stands_plain s t p n l =
    record { full = λ e. n; short = l; okay = λ e. plain-allowed t p; shut = λ e. stem-free t (all-free plain 58 refl t p) }

pub numeric-plain : (s : List ℕ) → all numeric s ≡ true → all plain s ≡ true
numeric-plain s e = all_weaken numeric plain one s e
  where
    low : (b lo hi : ℕ) → 45 ≤ lo → hi ≤ 57 → within lo hi b ≡ true → plain b ≡ true
    low b lo hi p q w = let (l, h) = within_both lo hi b w in rw (both-within 45 57 b (omega arith) (omega arith))

    one : (b : ℕ) → numeric b ≡ true → plain b ≡ true
    one b e = or_cases (is_digit b) (within 45 46 b) (low b 48 57 (omega arith) (omega arith)) (low b 45 46 (omega arith) (omega arith)) e

pub again-stands : {A : Type 0} (r : List ℕ → Option A) (s t : List ℕ) (x : A) → Again r s t x → Stands s t
again-stands r s t x w = stands_plain s t (numeric-plain t w.plain) w.full w.short
