-- What the second record of a wire has at the places of its texts: its first text's and its circuit's.
use Prim.Native.Nat.{ℕ, ◌+◌, ◌/◌}
use mathlib.Core.Bool.{true, not}
use mathlib.Core.List.{List}
use mathlib.Core.Path.{◌≡◌, refl, ◌∙◌}
use lib.Dec.{eqb}
use lib.IntN.{ℤ, pos}
use lib.ListN.{length, get_or, set, drop}
use lib.Seq.{get_or-drop}
use Rattle.rules.specs.Base.{all}
use Rattle.rules.specs.RangeClass.{digits_of}
use Rattle.rules.specs.Rows.{Slots}
use Rattle.rules.specs.Figures.{text_table, wire_table}
use Rattle.rules.specs.Sets.{Wire}
use Rattle.rules.specs.RecordTable.{View, width, first_or0, others, numbers_of, first_slot, put_slots, shelves, put_groups, first_text, put_texts, place_elements, place_join_digit, wire_start, wire_values}
use Rattle.promises.specs.TableTexts.{number_at}
use Rattle.promises.proofs.LeftAlone.{set_miss, state_misses, unread-apart, shelf_misses, groups_miss}
use Rattle.promises.proofs.WireRecords.{past_slots}

-- neither states nor counts nor rows that repeat are put at i
record Left (i : ℕ) : Type 0 where
  states : all (state_misses i) wire_table ≡ true
  elements : not (eqb i place_elements) ≡ true
  digit : not (eqb i place_join_digit) ≡ true
  groups : all (shelf_misses i) shelves ≡ true

module _ (w : View) (x : Wire) (owner volume line : ℕ) where
  abbrev texts : List ℤ
  texts = put_texts x.texts (put_slots wire_table x.own (wire_start owner volume line))

  abbrev more : List ℤ
  more = drop width (wire_values w x (wire_start owner volume line))

  left_at : (i : ℕ) → Left (width + i) → number_at more i ≡ get_or texts (width + i) (pos 0)
  left_at i a =
      let groups = put_groups shelves x.groups texts in
      let n = pos (length x.elements) in
      get_or-drop width (wire_values w x (wire_start owner volume line)) i (pos 0)
      ∙ unread-apart (width + i) w.class.wires (digits_of w.wires) wire_table _ a.states
      ∙ set_miss place_join_digit (width + i) (pos (w.wires / 100)) (set groups place_elements n) a.digit
      ∙ set_miss place_elements (width + i) n groups a.elements
      ∙ groups_miss (width + i) shelves x.groups texts a.groups

  -- the place and the length of the text that the first of these slots holds
  abbrev place_in : Slots → ℤ
  place_in s = first_or0 (numbers_of (first_slot s))

  abbrev length_in : Slots → ℤ
  length_in s = first_or0 (others (numbers_of (first_slot s)))

  pub texts-at : (number_at more 14 ≡ place_in (past_slots 1 (first_text x.texts))) × (number_at more 15 ≡ length_in (past_slots 1 (first_text x.texts)))
      × (number_at more 16 ≡ place_in (past_slots 7 x.own)) × (number_at more 17 ≡ length_in (past_slots 7 x.own))
  unfolding wire_table text_table
  texts-at = (
    left_at 14 (record { states = refl; elements = refl; digit = refl; groups = refl }),
    left_at 15 (record { states = refl; elements = refl; digit = refl; groups = refl }),
    left_at 16 (record { states = refl; elements = refl; digit = refl; groups = refl }),
    left_at 17 (record { states = refl; elements = refl; digit = refl; groups = refl }),
  )
