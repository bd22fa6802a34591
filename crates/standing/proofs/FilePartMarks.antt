-- The marks of FILE_FORMAT's parts: a line in one part leaves those of the others alone.
use Prim.Native.Nat.{ℕ, zero, suc, ◌+◌, ◌-◌, ◌≤◌, ◌<◌}
use mathlib.Core.Bool.{Bool, true, false}
use mathlib.Core.List.{List, []}
use mathlib.Core.Path.{◌≡◌, refl, sym, ◌∙◌, ap}
use native.Mathlib.Omega.{arith}
use borrow.Author.Tests.{eqb-true, eqb-false, ltb-true, ltb-false}
use lib.Dec.{eqb, ltb}
use lib.ListN.{length, get_or, set, take, drop}
use lib.Seq.{drop-set-lt, drop-set-add, take-set-le, take-set-lt}
use Rattle.rules.specs.Blocks.{file_tables}
use Rattle.rules.proofs.Chains.{clash}
use Rattle.tables.specs.Tables.{table_of}
use Rattle.account.specs.FileLines.{PartOpen, file_table_of, marks_from, marks_to, part_marks}
use Rattle.account.proofs.FileParts.{part-rows}

-- ── the tables ──
pub file-table : (first : Bool) (p : ℕ) → PartOpen first p → table_of (file_table_of first p) ≡ get_or (file_tables first) p []
unfolding table_of
file-table false zero o = refl
file-table false (suc p) o = absurd (omega (arith, o.later refl))
file-table true zero o = refl
file-table true (suc zero) o = refl
file-table true (suc (suc zero)) o = refl
file-table true (suc (suc (suc zero))) o = refl
file-table true (suc (suc (suc (suc zero)))) o = refl
file-table true (suc (suc (suc (suc (suc p))))) o = absurd (omega (arith, o.five))

pub part_open : (first : Bool) (q : ℕ) → q < length (file_tables first) → PartOpen first q
part_open true q h = record { five = omega (arith, h); later = λ e. absurd (clash refl e) }
part_open false q h = record { five = omega (arith, h); later = λ e. omega (arith, h) }

pub part-number : (first : Bool) (p : ℕ) → PartOpen first p → p < length (file_tables first)
part-number true p o = omega (arith, o.five)
part-number false p o = omega (arith, o.later refl)

-- ── the marks ──
-- the parts' marks stand one behind the other
order : (p q : ℕ) → p < q → q ≤ 4 → marks_to true p ≤ marks_from q
order zero zero l m = absurd (omega (arith, l))
order zero (suc zero) l m = omega arith
order zero (suc (suc zero)) l m = omega arith
order zero (suc (suc (suc zero))) l m = omega arith
order zero (suc (suc (suc (suc q)))) l m = omega arith
order (suc zero) zero l m = absurd (omega (arith, l))
order (suc zero) (suc zero) l m = absurd (omega (arith, l))
order (suc zero) (suc (suc zero)) l m = omega arith
order (suc zero) (suc (suc (suc zero))) l m = omega arith
order (suc zero) (suc (suc (suc (suc q)))) l m = omega arith
order (suc (suc zero)) zero l m = absurd (omega (arith, l))
order (suc (suc zero)) (suc zero) l m = absurd (omega (arith, l))
order (suc (suc zero)) (suc (suc zero)) l m = absurd (omega (arith, l))
order (suc (suc zero)) (suc (suc (suc zero))) l m = omega arith
order (suc (suc zero)) (suc (suc (suc (suc q)))) l m = omega arith
order (suc (suc (suc zero))) zero l m = absurd (omega (arith, l))
order (suc (suc (suc zero))) (suc zero) l m = absurd (omega (arith, l))
order (suc (suc (suc zero))) (suc (suc zero)) l m = absurd (omega (arith, l))
order (suc (suc (suc zero))) (suc (suc (suc zero))) l m = absurd (omega (arith, l))
order (suc (suc (suc zero))) (suc (suc (suc (suc q)))) l m = omega arith
order (suc (suc (suc (suc p)))) q l m = absurd (omega (arith, l, m))

ordered : (first : Bool) (p q : ℕ) → PartOpen first q → p < q → marks_to first p ≤ marks_from q
ordered true p q o l = order p q l o.five
ordered false p q o l = absurd (omega (arith, o.later refl, l))

-- a mark behind a part of the marks, and one before it
mark-behind : (a w i : ℕ) (m : List Bool) → a + w ≤ i → take w (drop a (set m i true)) ≡ take w (drop a m)
mark-behind a w i m h =
    let e : i ≡ a + (i - a) = omega (arith, h) in
    ap (λ (x : ℕ). take w (drop a (set m x true))) e ∙ ap (take w) (drop-set-add a m (i - a) true) ∙ take-set-le w (drop a m) (i - a) true (omega (arith, h))

mark-before : (a w i : ℕ) (m : List Bool) → i < a → take w (drop a (set m i true)) ≡ take w (drop a m)
mark-before a w i m h = ap (take w) (drop-set-lt a m i true h)

module _ (first : Bool) (p j : ℕ) (o : PartOpen first p) (l : j < length (get_or (file_tables first) p [])) (m : List Bool) where
  rows : length (get_or (file_tables first) p []) ≡ marks_to first p - marks_from p
  rows = ap length (sym (file-table first p o)) ∙ (part-rows first p o).rows

  pub mark-own : part_marks first p (set m (marks_from p + j) true) ≡ set (part_marks first p m) j true
  mark-own =
      ap (take (marks_to first p - marks_from p)) (drop-set-add (marks_from p) m j true)
      ∙ take-set-lt (marks_to first p - marks_from p) (drop (marks_from p) m) j true (omega (arith, l, rows))

  pub mark-other : (q : ℕ) → PartOpen first q → (q ≡ p → ⊥) → part_marks first q (set m (marks_from p + j) true) ≡ part_marks first q m
  mark-other q u n = go (ltb q p) refl
    where
      go : (b : Bool) → ltb q p ≡ b → part_marks first q (set m (marks_from p + j) true) ≡ part_marks first q m
      go true e =
          mark-behind (marks_from q) (marks_to first q - marks_from q) (marks_from p + j) m
          (omega (arith, ordered first q p o (ltb-true q p e), (part-rows first q u).order))
      go false e =
          let h : p < q = apart (ltb-false q p e) in
          mark-before (marks_from q) (marks_to first q - marks_from q) (marks_from p + j) m (omega (arith, ordered first p q u h, l, rows))
        where
          apart : p ≤ q → p < q
          apart h = differ (eqb q p) refl
            where
              differ : (b : Bool) → eqb q p ≡ b → p < q
              differ true e = absurd (n (eqb-true q p e))
              differ false e = omega (arith, h, eqb-false q p e)
