-- A wire that is read, part by part: the lists of its keys that repeat, and the slots of those that stand once.
use Rattle.std.specs.Prelude.{Option, None}
use Prim.Native.Nat.{ℕ, zero, suc}
use mathlib.Core.List.{List, [], ◌∷◌, ◌++◌}
use mathlib.Core.Path.{◌≡◌, refl, sym, ◌∙◌, ap}
use native.Mathlib.Omega.{arith}
use lib.IntN.{ℤ}
use lib.ListN.{length, get_or, take, drop, replicate, take-append-drop, length-drop}
use Rattle.rules.specs.Values.{Num, Value}
use Rattle.rules.specs.Rows.{Slots}
use Rattle.rules.specs.Figures.{wire_table}
use Rattle.rules.specs.Sets.{Wire, Set}
use Rattle.rules.specs.Wires.{last_edge}
use Rattle.rules.specs.RecordTable.{put_groups, put_texts, put_slots, shelves, wire_start}
use Rattle.standing.specs.SoFar.{volume_of, former_numbers, wire_read, text_begun, wire_so_far}
use Rattle.standing.proofs.WireCells.{once_slots, once_of, spelled, two_cells, once-long}

-- ── a list of so many, spelt out ──
module _ {A : Type 0} (z : A) where
  abbrev head_or : List A → A
  head_or [] = z
  head_or (a ∷ s) = a

  abbrev tail_of : List A → List A
  tail_of [] = []
  tail_of (a ∷ s) = s

  abbrev listed : ℕ → List A → List A
  listed zero s = []
  listed (suc n) s = head_or s ∷ listed n (tail_of s)

  listed-is : (n : ℕ) (s : List A) → length s ≡ n → s ≡ listed n s
  listed-is zero [] e = refl
  listed-is zero (a ∷ s) e = absurd (omega (arith, e))
  listed-is (suc n) [] e = absurd (omega (arith, e))
  listed-is (suc n) (a ∷ s) e = ap (λ (u : List A). a ∷ u) (listed-is n s (omega (arith, e)))

-- ── its parts ──
abbrev pub direcs_of : Wire → List (List Num)
direcs_of w = get_or w.groups 0 []

abbrev pub piends_of : Wire → List (List Num)
piends_of w = get_or w.groups 1 []

abbrev pub nums_in : Wire → List (List Num)
nums_in w = get_or w.groups 2 []

abbrev pub slot_of : ℕ → Wire → Option Value
slot_of j w = get_or w.own j None

three : (gs : List (List (List Num))) → length gs ≡ 3 → gs ≡ get_or gs 0 [] ∷ get_or gs 1 [] ∷ get_or gs 2 [] ∷ []
three gs e = listed-is [] 3 gs e ∙ sym (ap (λ (u : List (List (List Num))). get_or u 0 [] ∷ get_or u 1 [] ∷ get_or u 2 [] ∷ []) (listed-is [] 3 gs e))

ten : (s : Slots) → length s ≡ 10 → take 6 s ≡ replicate 6 None → s ≡ once_slots (get_or s 6 None) (get_or s 7 None) (get_or s 8 None) (get_or s 9 None)
ten s e r =
    let four : drop 6 s ≡ listed None 4 (drop 6 s) = listed-is None 4 (drop 6 s) (omega (arith, e, length-drop 6 s)) in
    let all : s ≡ replicate 6 None ++ listed None 4 (drop 6 s) =
    sym (take-append-drop 6 s) ∙ ap (λ (u : Slots). u ++ drop 6 s) r ∙ ap (λ (u : Slots). replicate 6 None ++ u) four in
    all ∙ sym (ap (λ (u : Slots). once_slots (get_or u 6 None) (get_or u 7 None) (get_or u 8 None) (get_or u 9 None)) all)

module _ (s : Set) (k n : ℕ) (w : Wire) (slots : length w.own ≡ 10) (repeats : take 6 w.own ≡ replicate 6 None) (groups : length w.groups ≡ 3) where
  pub own-slots : w.own ≡ once_slots (slot_of 6 w) (slot_of 7 w) (slot_of 8 w) (slot_of 9 w)
  own-slots = ten w.own slots repeats

  pub three-groups : w.groups ≡ direcs_of w ∷ piends_of w ∷ nums_in w ∷ []
  three-groups = three w.groups groups

  -- the numbers of its two records, cell by cell
  abbrev pub cells_of : List ℤ
  cells_of = spelled (direcs_of w) (piends_of w) (nums_in w) w.texts (once_of k (volume_of s) n (slot_of 6 w) (slot_of 7 w) (slot_of 8 w) (slot_of 9 w))

  pub read-cells : wire_read w (wire_start k (volume_of s) n) ≡ cells_of
  read-cells =
      ap (λ (g : List (List (List Num))). put_groups shelves g (put_texts w.texts (put_slots wire_table w.own (wire_start k (volume_of s) n)))) three-groups
      ∙ ap (λ (o : Slots). put_groups shelves (direcs_of w ∷ piends_of w ∷ nums_in w ∷ []) (put_texts w.texts (put_slots wire_table o (wire_start k (volume_of s) n)))) own-slots
      ∙ two_cells (direcs_of w) (piends_of w) (nums_in w) w.texts (once_of k (volume_of s) n (slot_of 6 w) (slot_of 7 w) (slot_of 8 w) (slot_of 9 w))
      (once-long k (volume_of s) n (slot_of 6 w) (slot_of 7 w) (slot_of 8 w) (slot_of 9 w))

  pub so-far-cells : (p : ℕ) → wire_so_far s k n w p ≡ former_numbers (last_edge w.elements) (text_begun p cells_of)
  so-far-cells p = ap (λ (u : List ℤ). former_numbers (last_edge w.elements) (text_begun p u)) read-cells
