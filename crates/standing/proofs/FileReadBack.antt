-- What FILE_FORMAT's records say when it closes: the ranges, date, time and counts, read back from their places.
use Rattle.std.specs.Prelude.{Option, None}
use Prim.Native.Nat.{ℕ, zero, suc, ◌<◌}
use mathlib.Core.Bool.{Bool, true, false}
use mathlib.Core.List.{List, [], ◌∷◌}
use mathlib.Core.Path.{◌≡◌, refl, sym, ◌∙◌, ap}
use native.Mathlib.Omega.{arith}
use lib.IntN.{ℤ, pos, nat_abs}
use lib.ListN.{get_or, take}
use lib.Seq.{get_or-take}
use Rattle.rules.specs.Values.{Value, amount_at}
use Rattle.rules.specs.Rows.{Slots, Held, part_of, slot_value, number_of}
use Rattle.rules.specs.Blocks.{file_table, range_table, base_table, elec_table, sym_table, later_table, file_tables}
use Rattle.rules.specs.RecordTable.{numbers_of, first_or0, columns, first_slot, other_slots, put_held, rule_at}
use Rattle.account.specs.FileLines.{Header, is_count, count_at, file_width}
use Rattle.standing.specs.FileStanding.{file_head, is_numbers}
use Rattle.account.proofs.FileCounts.{header-count}
use Rattle.standing.proofs.FileEntries.{count-back}

-- ── a slot by its number ──
abbrev behind : ℕ → Slots → Slots
behind zero o = o
behind (suc i) o = behind i (other_slots o)

slot_at : (i : ℕ) (o : Slots) → first_slot (behind i o) ≡ get_or o i None
slot_at zero [] = refl
slot_at zero (x ∷ o) = refl
slot_at (suc i) [] = slot_at i []
slot_at (suc i) (x ∷ o) = slot_at i o

-- ── a number at its place ──
-- header t, its records filled with what h holds: the count at place i is that of row j of part q
module _ (first : Bool) (k n : ℕ) (h : Held) (t : List ℤ) (g : Header t) (f : take (file_width first) t ≡ put_held (file_tables first) h (file_head first k n))
    (c : (q j : ℕ) → columns (rule_at (get_or (file_tables first) q []) j).holds ≡ 1 → is_numbers (get_or (part_of h q) j None) ≡ true) where
  read_back : (i q j : ℕ) → i < file_width first → columns (rule_at (get_or (file_tables first) q []) j).holds ≡ 1
      → get_or (put_held (file_tables first) h (file_head first k n)) i (pos 0) ≡ first_or0 (numbers_of (first_slot (behind j (part_of h q)))) → count_at t i ≡ amount_at (slot_value (get_or (part_of h q) j None)) 0
  read_back i q j l w e =
      let o : Option Value = get_or (part_of h q) j None in
      let z : get_or t i (pos 0) ≡ first_or0 (numbers_of o) =
      sym (get_or-take (file_width first) t i (pos 0) l) ∙ ap (λ (x : List ℤ). get_or x i (pos 0)) f ∙ e ∙ ap (λ (x : Option Value). first_or0 (numbers_of x)) (slot_at j (part_of h q)) in
      ap nat_abs z ∙ count-back o (c q j w) (ap is_count (sym z) ∙ header-count t g i)

module _ (k n : ℕ) (h : Held) (t : List ℤ) (g : Header t) (f : take 64 t ≡ put_held (file_tables true) h (file_head true k n))
    (c : (q j : ℕ) → columns (rule_at (get_or (file_tables true) q []) j).holds ≡ 1 → is_numbers (get_or (part_of h q) j None) ≡ true) where
  pub arc-back : count_at t 6 ≡ number_of "arc" range_table (part_of h 1)
  unfolding file_table range_table base_table elec_table sym_table
  arc-back = read_back true k n h t g f c 6 1 1 (omega arith) refl refl

  pub sym-back : count_at t 8 ≡ number_of "E_sym" elec_table (part_of h 3)
  unfolding file_table range_table base_table elec_table sym_table
  sym-back = read_back true k n h t g f c 8 3 0 (omega arith) refl refl

  pub elec-back : count_at t 11 ≡ number_of "S_elec" sym_table (part_of h 4)
  unfolding file_table range_table base_table elec_table sym_table
  elec-back = read_back true k n h t g f c 11 4 1 (omega arith) refl refl

  pub date-back : count_at t 14 ≡ number_of "date" file_table (part_of h 0)
  unfolding file_table range_table base_table elec_table sym_table
  date-back = read_back true k n h t g f c 14 0 6 (omega arith) refl refl

  pub time-back : count_at t 15 ≡ number_of "time" file_table (part_of h 0)
  unfolding file_table range_table base_table elec_table sym_table
  time-back = read_back true k n h t g f c 15 0 7 (omega arith) refl refl

  pub all_back : count_at t 13 ≡ number_of "all_ele" file_table (part_of h 0)
  unfolding file_table range_table base_table elec_table sym_table
  all_back = read_back true k n h t g f c 13 0 3 (omega arith) refl refl

  pub this-back : count_at t 38 ≡ number_of "this_ele" file_table (part_of h 0)
  unfolding file_table range_table base_table elec_table sym_table
  this-back = read_back true k n h t g f c 38 0 4 (omega arith) refl refl

module _ (k n : ℕ) (h : Held) (t : List ℤ) (g : Header t) (f : take 32 t ≡ put_held (file_tables false) h (file_head false k n))
    (c : (q j : ℕ) → columns (rule_at (get_or (file_tables false) q []) j).holds ≡ 1 → is_numbers (get_or (part_of h q) j None) ≡ true) where
  pub later-back : count_at t 6 ≡ number_of "this_ele" later_table (part_of h 0)
  unfolding later_table
  later-back = read_back false k n h t g f c 6 0 1 (omega arith) refl refl
