-- What the two records of a wire show: their kinds, the wire's layer, volume and counts, and its row `serial`.
use Rattle.std.specs.Prelude.{Option, None}
use Prim.Native.Nat.{ℕ, zero, suc, ◌+◌, ◌/◌, ◌<◌}
use mathlib.Core.Bool.{Bool, true, cond}
use mathlib.Core.List.{List, [], ◌∷◌, map}
use mathlib.Core.Path.{◌≡◌, refl, ◌∙◌, ap, subst}
use native.Mathlib.Omega.{arith}
use lib.IntN.{ℤ, pos, negsuc}
use lib.ListN.{length, get_or, set, take, drop, length-set}
use lib.Seq.{get_or-take, get_or-drop, get_or-set_same}
use Rattle.rules.specs.declared.Digits.{Digits}
use Rattle.rules.specs.Base.{all}
use Rattle.rules.specs.RangeClass.{digits, digits_of, hides}
use Rattle.rules.specs.Values.{Num, num, Value, nums, amount, amount_at, value_at}
use Rattle.rules.specs.Rows.{Slots}
use Rattle.rules.specs.Figures.{wire_table}
use Rattle.rules.specs.Sets.{Wire}
use Rattle.rules.specs.RecordTable.{View, first_or0, others, numbers_of, state_of, first_slot, other_slots, put_slots, unread_state, mark_unread, shelves, put_groups, put_texts, place_elements, place_join_digit, wire_start, wire_numbers, wire_values, unread_numbers}
use Rattle.promises.specs.PlacesApart.{kind_of}
use Rattle.promises.specs.TableTexts.{number_at, amount_of}
use Rattle.promises.proofs.LeftAlone.{misses, set_miss, state_misses, unread-apart, more_misses, more_miss, wire_miss}
use Rattle.promises.proofs.Widths.{rows-length, numbers-length}

pub kind_at : (t : List ℤ) → kind_of t ≡ amount_of (number_at t 0)
kind_at [] = refl
kind_at (pos k ∷ t) = refl
kind_at (negsuc k ∷ t) = refl

-- ── the slot behind the first i, the number behind the first i ──
abbrev pub past_slots : ℕ → Slots → Slots
past_slots zero s = s
past_slots (suc i) s = past_slots i (other_slots s)

pub slot_at : (i : ℕ) (s : Slots) → first_slot (past_slots i s) ≡ get_or s i None
slot_at zero [] = refl
slot_at zero (o ∷ s) = refl
slot_at (suc i) [] = slot_at i []
slot_at (suc i) (o ∷ s) = slot_at i s

abbrev pub past_numbers : ℕ → List ℤ → List ℤ
past_numbers zero zs = zs
past_numbers (suc i) zs = past_numbers i (others zs)

pub value-at : (i : ℕ) (v : List Num) → first_or0 (past_numbers i (map (λ n. n.value) v)) ≡ value_at v i
value-at zero [] = refl
value-at zero (a ∷ v) = refl
value-at (suc i) [] = value-at i []
value-at (suc i) (a ∷ v) = value-at i v

pub amount-at : (i : ℕ) (v : List Num) → amount_of (first_or0 (past_numbers i (map (λ n. n.value) v))) ≡ amount_at (nums v) i
amount-at i v = ap amount_of (value-at i v) ∙ size (value_at v i)
  where
    size : (z : ℤ) → amount_of z ≡ amount (num z)
    size (pos n) = refl
    size (negsuc n) = refl

-- ── nothing of a wire's rows is put at kinds, layers, volumes and marks, and no state at its counts ──
record Free : Type 0 where
  kind : all (misses 0) wire_table ≡ true
  layer : all (misses 1) wire_table ≡ true
  volume : all (misses 2) wire_table ≡ true
  count : all (state_misses 5) wire_table ≡ true
  digit : all (state_misses 30) wire_table ≡ true
  mark : all (misses 31) wire_table ≡ true
  kind_too : all (misses 32) wire_table ≡ true
  mark_too : all (misses 63) wire_table ≡ true

free : Free
unfolding wire_table
free = record { kind = refl; layer = refl; volume = refl; count = refl; digit = refl; mark = refl; kind_too = refl; mark_too = refl }

-- its state is put behind all others
unread-serial : (c d : Digits) (t : List ℤ) → 61 < length t → get_or (mark_unread c d wire_table t) 61 (pos 0) ≡ cond (hides c d (digits 1 0)) (pos 3) (get_or t 61 (pos 0))
unfolding wire_table
unread-serial c d t h =
    let hidden = hides c d (digits 1 0) in
    unread-apart 61 c d (take 9 wire_table) (unread_state 61 hidden t) refl ∙ get_or-set_same t 61 (cond hidden (pos 3) (get_or t 61 (pos 0))) (pos 0) h

module _ (w : View) (x : Wire) (owner volume n : ℕ) where
  abbrev begun : List ℤ
  begun = wire_start owner volume n

  abbrev rows : List ℤ
  rows = put_groups shelves x.groups (put_texts x.texts (put_slots wire_table x.own begun))

  abbrev counted : List ℤ
  counted = wire_numbers w.wires (length x.elements) rows

  abbrev pub both : List ℤ
  both = wire_values w x begun

  abbrev pub unknown : Bool
  unknown = hides w.class.wires (digits_of w.wires) (digits 1 0)

  abbrev pub slot : Option Value
  slot = get_or x.own 9 None

  pub record WireShows (own more : List ℤ) : Type 0 where
    pub kind : kind_of own ≡ 18
    pub kind_too : kind_of more ≡ 19
    pub layer : number_at own 1 ≡ pos owner
    pub volume-is : number_at own 2 ≡ pos volume
    pub mark : number_at own 31 ≡ pos 0
    pub mark_too : number_at more 31 ≡ pos 0
    pub count : number_at own 5 ≡ pos (length x.elements)
    pub digit : number_at own 30 ≡ pos (w.wires / 100)
    pub state : number_at more 29 ≡ cond unknown (pos 3) (state_of slot)
    -- its own number, and the states and numbers of the two partners
    pub serial : number_at more 21 ≡ first_or0 (numbers_of slot)
    pub start : number_at more 22 ≡ first_or0 (past_numbers 1 (numbers_of slot))
    pub start_too : number_at more 23 ≡ first_or0 (past_numbers 2 (numbers_of slot))
    pub end : number_at more 24 ≡ first_or0 (past_numbers 3 (numbers_of slot))
    pub end_too : number_at more 25 ≡ first_or0 (past_numbers 4 (numbers_of slot))

  at_first : (i : ℕ) → i < 32 → all (misses i) wire_table ≡ true → more_misses i ≡ true → number_at (take 32 both) i ≡ get_or begun i (pos 0)
  at_first i h e m = get_or-take 32 both i (pos 0) h ∙ wire_miss i w x begun e m

  at_second : (i : ℕ) → all (misses (32 + i)) wire_table ≡ true → more_misses (32 + i) ≡ true → number_at (drop 32 both) i ≡ get_or begun (32 + i) (pos 0)
  at_second i e m = get_or-drop 32 both i (pos 0) ∙ wire_miss (32 + i) w x begun e m

  rows_long : length rows ≡ 64
  rows_long = rows-length x begun

  counted-long : length counted ≡ 64
  counted-long = numbers-length w.wires (length x.elements) rows ∙ rows_long

  count_at : number_at (take 32 both) 5 ≡ pos (length x.elements)
  count_at =
      let z = pos (length x.elements) in
      get_or-take 32 both 5 (pos 0) (omega arith) ∙ unread-apart 5 w.class.wires (digits_of w.wires) wire_table counted free.count
      ∙ set_miss place_join_digit 5 (pos (w.wires / 100)) (set rows place_elements z) refl ∙ get_or-set_same rows 5 z (pos 0) (omega (arith, rows_long))

  digit_at : number_at (take 32 both) 30 ≡ pos (w.wires / 100)
  digit_at =
      let u = set rows place_elements (pos (length x.elements)) in
      let long : length u ≡ 64 = length-set rows place_elements (pos (length x.elements)) ∙ rows_long in
      get_or-take 32 both 30 (pos 0) (omega arith) ∙ unread-apart 30 w.class.wires (digits_of w.wires) wire_table counted free.digit
      ∙ get_or-set_same u 30 (pos (w.wires / 100)) (pos 0) (omega (arith, long))

  -- what the rows that stand once put there
  record Once (s : Slots) (o : Option Value) : Type 0 where
    state : get_or (put_slots wire_table s begun) 61 (pos 0) ≡ state_of o
    serial : get_or (put_slots wire_table s begun) 53 (pos 0) ≡ first_or0 (numbers_of o)
    start : get_or (put_slots wire_table s begun) 54 (pos 0) ≡ first_or0 (past_numbers 1 (numbers_of o))
    start_too : get_or (put_slots wire_table s begun) 55 (pos 0) ≡ first_or0 (past_numbers 2 (numbers_of o))
    end : get_or (put_slots wire_table s begun) 56 (pos 0) ≡ first_or0 (past_numbers 3 (numbers_of o))
    end_too : get_or (put_slots wire_table s begun) 57 (pos 0) ≡ first_or0 (past_numbers 4 (numbers_of o))

  once-past : (s : Slots) → Once s (first_slot (past_slots 9 s))
  unfolding wire_table
  once-past s = record { state = refl; serial = refl; start = refl; start_too = refl; end = refl; end_too = refl }

  once : Once x.own slot
  once = subst (Once x.own) (slot_at 9 x.own) (once-past x.own)

  number-at : (i : ℕ) → all (state_misses (32 + i)) wire_table ≡ true → more_misses (32 + i) ≡ true → number_at (drop 32 both) i ≡ get_or (put_slots wire_table x.own begun) (32 + i) (pos 0)
  number-at i e m =
      get_or-drop 32 both i (pos 0) ∙ unread-apart (32 + i) w.class.wires (digits_of w.wires) wire_table counted e
      ∙ more_miss (32 + i) w.wires (length x.elements) x.groups x.texts (put_slots wire_table x.own begun) m

  numbers-free : (all (state_misses 53) wire_table ≡ true) × (all (state_misses 54) wire_table ≡ true) × (all (state_misses 55) wire_table ≡ true)
      × (all (state_misses 56) wire_table ≡ true) × (all (state_misses 57) wire_table ≡ true)
  unfolding wire_table
  numbers-free = (refl, refl, refl, refl, refl)

  state-at : number_at (drop 32 both) 29 ≡ cond unknown (pos 3) (state_of slot)
  state-at =
      get_or-drop 32 both 29 (pos 0) ∙ unread-serial w.class.wires (digits_of w.wires) counted (omega (arith, counted-long))
      ∙ ap (λ (z : ℤ). cond unknown (pos 3) z)
      (more_miss 61 w.wires (length x.elements) x.groups x.texts (put_slots wire_table x.own begun) refl ∙ once.state)

  pub wire-shows : WireShows (take 32 both) (drop 32 both)
  wire-shows = record {
    kind = kind_at (take 32 both) ∙ ap amount_of (at_first 0 (omega arith) free.kind refl);
    kind_too = kind_at (drop 32 both) ∙ ap amount_of (at_second 0 free.kind_too refl);
    layer = at_first 1 (omega arith) free.layer refl;
    volume-is = at_first 2 (omega arith) free.volume refl;
    mark = at_first 31 (omega arith) free.mark refl;
    mark_too = at_second 31 free.mark_too refl;
    count = count_at;
    digit = digit_at;
    state = state-at;
    serial = number-at 21 numbers-free.0 refl ∙ once.serial;
    start = number-at 22 numbers-free.1 refl ∙ once.start;
    start_too = number-at 23 numbers-free.2 refl ∙ once.start_too;
    end = number-at 24 numbers-free.3 refl ∙ once.end;
    end_too = number-at 25 numbers-free.4 refl ∙ once.end_too;
  }

-- ── a wire that was skipped whole ──
pub record SkipShows (own more : List ℤ) : Type 0 where
  pub kind : kind_of own ≡ 18
  pub kind_too : kind_of more ≡ 19
  pub mark : number_at own 31 ≡ pos 3
  pub mark_too : number_at more 31 ≡ pos 3
  -- "state 3 where the file allows it": no number is given
  pub hidden : Bool
  pub state : number_at more 29 ≡ cond hidden (pos 3) (pos 0)

pub skip-shows : (w : View) (owner volume n : ℕ)
    → let t = unread_numbers (mark_unread (digits 0 0) (digits_of w.wires) wire_table (wire_start owner volume n)) in SkipShows (take 32 t) (drop 32 t)
unfolding wire_table
skip-shows w owner volume n = record {
  kind = refl;
  kind_too = refl;
  mark = refl;
  mark_too = refl;
  hidden = hides (digits 0 0) (digits_of w.wires) (digits 1 0);
  state = refl;
}
