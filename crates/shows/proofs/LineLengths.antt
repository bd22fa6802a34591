-- 21 bytes for each number hold any line: 20 digits, or a sign and 19, and the byte behind them. So 84 hold the line of any answer, 672 that
-- of any record, and neither is refused for want of room.
use Rattle.std.specs.Prelude.{Result, Ok}
use Prim.Native.Nat.{ℕ, zero, suc, ◌+◌, ◌*◌, ◌/◌, ◌%◌, ◌^◌, ◌<◌, ◌≤◌}
use mathlib.Core.Path.{◌≡◌, ap, ◌∙◌}
use mathlib.Core.List.{List, [], ◌∷◌}
use mathlib.Core.Bool.{true, false, cond}
use native.Mathlib.Omega.{arith}
use lib.Dec.{eqb}
use borrow.Author.Tests.{le-leb}
use lib.IntN.{ℤ, pos, negsuc}
use lib.ListN.{length, length-append}
use mir.Syntax.{w64}
use mir.Val.{SFits}
use Rattle.rules.specs.Numbers.{fixed_onto, fixed, trim}
use Rattle.rules.specs.Answers.{answer_number, answer_volume, answer_line, answer_count, show_number, show_signed, print_line, first_line}
use Rattle.leaves.proofs.Written.{fixed-length}
use Rattle.shows.specs.Laid.{Lays}
use Rattle.shows.proofs.Laying.{end_of, ended, ended-line}
use Rattle.leaves.specs.declared.NoRoom.{NoRoom}
use Rattle.rules.specs.declared.Refusal.{Refusal}

trim-short : (s : List ℕ) → length (trim s) ≤ length s
trim-short [] = omega arith
trim-short (b ∷ []) = omega arith
trim-short (b ∷ c ∷ s) = elim (eqb b 48) as (λ t. length (cond t (trim (c ∷ s)) (b ∷ c ∷ s)) ≤ length (b ∷ c ∷ s)) [ true ↦ omega (arith, trim-short (c ∷ s)) | false ↦ omega arith ]

-- a number of w digits has a 0 before them
zero-before : (w n : ℕ) (s : List ℕ) → n < 10 ^ w → fixed_onto (suc w) n s ≡ 48 ∷ fixed_onto w n s
unfolding fixed_onto
zero-before zero n s h = let e : 48 + n % 10 ≡ 48 = omega arith in ap (λ (d : ℕ). d ∷ s) e
zero-before (suc w) n s h = zero-before w (n / 10) ((48 + n % 10) ∷ s) (omega arith)

digits-most : (n : ℕ) → length (show_number n) ≤ 20
digits-most n = omega (arith, trim-short (fixed 20 n), fixed-length 20 n)

trim-zero : (s : List ℕ) → 0 < length s → length (trim (48 ∷ s)) ≤ length s
trim-zero [] h = absurd (omega arith)
trim-zero (b ∷ s) h = trim-short (b ∷ s)

digits-below : (n : ℕ) → n < 10 ^ 19 → length (show_number n) ≤ 19
digits-below n h =
    rw (zero-before 19 n [] h) (omega (arith, trim-zero (fixed 19 n) (omega (arith, fixed-length 19 n)), fixed-length 19 n))

signed-most : (z : ℤ) → SFits w64 z → length (show_signed z) ≤ 20
signed-most (pos n) f = digits-most n
signed-most (negsuc n) f = omega (arith, digits-below (suc n) (omega (arith, f.sfits)))

-- all of 64 bits
abbrev pub Fit : List ℤ → Type 0
Fit [] = Unit {0}
Fit (z ∷ zs) = SFits w64 z × Fit zs

-- none of more than 20 bytes
abbrev Short : List ℤ → Type 0
Short [] = Unit {0}
Short (z ∷ zs) = (length (show_signed z) ≤ 20) × Short zs

fit-short : (zs : List ℤ) → Fit zs → Short zs
fit-short [] f = tt
fit-short (z ∷ zs) f = (signed-most z f.0, fit-short zs f.1)

ended-most : (zs : List ℤ) → Short zs → length (ended zs) ≤ 21 * length zs
ended-most [] f = omega arith
ended-most (z ∷ zs) f = omega (arith, length-append (show_signed z) (end_of zs ∷ ended zs), f.0, ended-most zs f.1)

module _ (z : ℤ) (zs : List ℤ) (f : Short (z ∷ zs)) (before after : List ℕ) (r : Result ℕ NoRoom) where
  line-fits : 21 * length (z ∷ zs) ≤ length before → Lays (print_line (z ∷ zs)) before after r → r ≡ Ok (length (print_line (z ∷ zs)))
  line-fits h l =
      let most : length (print_line (z ∷ zs)) ≤ length before = rw (ended-line z zs) (omega (arith, ended-most (z ∷ zs) f)) in
      l.answer ∙ rw (le-leb (length (print_line (z ∷ zs))) (length before) most)

-- 672 bytes hold any record's line
pub record-fits : (zs : List ℤ) → Fit zs → length zs ≡ 32 → (before after : List ℕ) (r : Result ℕ NoRoom) → length before ≡ 672 → Lays (print_line zs) before after r
    → r ≡ Ok (length (print_line zs))
record-fits [] f e before after r h l = absurd (omega arith)
record-fits (z ∷ zs) f e before after r h l = line-fits z zs (fit-short (z ∷ zs) f) before after r (omega arith) l

-- 84 hold any answer's
pub answer-fits : (a : Result ℕ Refusal) (before after : List ℕ) (r : Result ℕ NoRoom) → length before ≡ 84 → Lays (print_line (first_line a)) before after r
    → r ≡ Ok (length (print_line (first_line a)))
answer-fits a before after r h l =
    line-fits (pos (answer_number a)) (pos (answer_volume a) ∷ pos (answer_line a) ∷ pos (answer_count a) ∷ [])
    (digits-most (answer_number a), (digits-most (answer_volume a), (digits-most (answer_line a), (digits-most (answer_count a), tt))))
    before after r (omega arith) l
