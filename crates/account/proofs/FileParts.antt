-- The parts of FILE_FORMAT: their tables, their marks, what is kept of their rows, and the name of the next volume.
use Prim.Native.Nat.{ℕ, zero, suc, ◌+◌, ◌-◌, ◌<◌, ◌≤◌}
use mathlib.Core.Bool.{Bool, true, false, cond, ◌&&◌}
use mathlib.Core.List.{List, [], ◌∷◌, map}
use mathlib.Core.Path.{◌≡◌, refl, sym, ◌∙◌, ap}
use native.Mathlib.Omega.{arith}
use lib.Dec.{eqb}
use lib.IntN.{ℤ, pos}
use lib.ListN.{length, get_or, set, drop, drop_of_length-le, length-take, length-drop}
use borrow.Author.Tests.{ne_eqb}
use Rattle.rules.specs.Base.{same}
use Rattle.rules.specs.Values.{capital}
use Rattle.rules.specs.Blocks.{file_table, range_table, base_table, elec_table, sym_table, later_table}
use Rattle.leaves.proofs.Scan.{same-long}
use Rattle.tables.specs.Tables.{table_of}
use Rattle.account.specs.FileLines.{PartOpen, file_table_of, marks_from, marks_to, part_marks, kept_first, kept_later, kept_wires}

-- ── by number ──
-- the marks of a part are as many as its rows, and lie within the 28
pub record PartRows (first : Bool) (p : ℕ) : Type 0 where
  pub rows : length (table_of (file_table_of first p)) ≡ marks_to first p - marks_from p
  pub order : marks_from p ≤ marks_to first p
  pub inside : marks_to first p ≤ 28

pub part-rows : (first : Bool) (p : ℕ) → PartOpen first p → PartRows first p
unfolding table_of file_table range_table base_table elec_table sym_table later_table
part-rows false zero o = record { rows = refl; order = omega arith; inside = omega arith }
part-rows false (suc p) o = absurd (omega (arith, o.later refl))
part-rows true zero o = record { rows = refl; order = omega arith; inside = omega arith }
part-rows true (suc zero) o = record { rows = refl; order = omega arith; inside = omega arith }
part-rows true (suc (suc zero)) o = record { rows = refl; order = omega arith; inside = omega arith }
part-rows true (suc (suc (suc zero))) o = record { rows = refl; order = omega arith; inside = omega arith }
part-rows true (suc (suc (suc (suc zero)))) o = record { rows = refl; order = omega arith; inside = omega arith }
part-rows true (suc (suc (suc (suc (suc p))))) o = absurd (omega (arith, o.five))

module _ (first : Bool) (p : ℕ) (o : PartOpen first p) (m : List Bool) (l : length m ≡ 28) where
  pub marks-long : length (part_marks first p m) ≡ length (table_of (file_table_of first p))
  marks-long =
      let r = part-rows first p o in
      omega (arith, l, r.rows, r.order, r.inside, length-take (marks_to first p - marks_from p) (drop (marks_from p) m), length-drop (marks_from p) m)

  pub mark-inside : (j : ℕ) → j < length (table_of (file_table_of first p)) → marks_from p + j < length m
  mark-inside j h = let r = part-rows first p o in omega (arith, l, h, r.rows, r.order, r.inside)

-- ── a row without a place ──
module _ (row : ℕ) (h : List ℤ) where
  pub first-other : (row ≡ 5 → ⊥) → h ≡ kept_first row h
  first-other n = sym (rw (ne_eqb row 5 n))

  pub later-other : (row ≡ 2 → ⊥) → (row ≡ 3 → ⊥) → (row ≡ 4 → ⊥) → h ≡ kept_later row h
  later-other a b c = sym (rw (ne_eqb row 2 a, ne_eqb row 3 b, ne_eqb row 4 c))

-- .. and of the inner parts, E_wire's in `elec`
module _ (p row : ℕ) (h : List ℤ) where
  abbrev wired : Bool → List ℤ
  wired kept = cond kept (set h 70 (get_or h 64 (pos 0))) h

  pub wires-other-part : (p ≡ 3 → ⊥) → h ≡ kept_wires p row h
  wires-other-part n = sym (ap (λ (b : Bool). wired (b && eqb row 1)) (ne_eqb p 3 n))

-- ── the next volume's name ──
pub capital-length : (c : List ℕ) → length (map capital c) ≡ length c
capital-length [] = refl
capital-length (b ∷ c) = ap suc (capital-length c)

pub name-long : (c name : List ℕ) → (length c ≡ length name → ⊥) → same (map capital c) name ≡ false
name-long c name n = same-long (map capital c) name (λ e. n (sym (capital-length c) ∙ e))

pub name-end : (c name : List ℕ) (i : ℕ) → length c ≤ i → length name ≤ i → same (map capital (drop i c)) (drop i name) ≡ true
name-end c name i h k = rw (drop_of_length-le c h, drop_of_length-le name k)
