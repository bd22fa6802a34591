-- A wire's two records at two classes, number by number: what the lower doesn't know is zeros and state 3; of a wire that it skips whole
-- the states alone are left.
use Rattle.std.specs.Prelude.{Option, None}
use Prim.Native.Nat.{ℕ, zero, suc, ◌/◌}
use mathlib.Core.Bool.{Bool, true, false, cond, ◌&&◌, not}
use mathlib.Core.List.{List, [], ◌∷◌, ◌++◌, map}
use mathlib.Core.Path.{◌≡◌, refl, sym, ◌∙◌, ap}
use native.Mathlib.Omega.{arith}
use lib.Dec.{eqb}
use lib.IntN.{ℤ, pos}
use lib.ListN.{length, get_or, set}
use lib.Seq.{sets}
use borrow.Author.Tests.{eqb-true}
use Rattle.rules.specs.declared.Digits.{Digits}
use Rattle.rules.specs.RangeClass.{digits, digits_of, reaches, hides}
use Rattle.rules.specs.Values.{Num, Value}
use Rattle.rules.specs.Rows.{Rule, Slots}
use Rattle.rules.specs.Figures.{wire_table, text_table}
use Rattle.rules.specs.Sets.{Wire}
use Rattle.rules.specs.RecordTable.{numbers_of, state_of, first_or0, padded, first_slot, other_slots, put_slots, mark_unread, View, two_of, wire_start, shelves, state_of_many, shown_lines, put_groups, first_text, put_texts, wire_numbers, wire_values, unread_numbers}
use Rattle.rules.proofs.Chains.{clash, cond_same}
use Rattle.rules.proofs.Rows.{Row, here, there, reaches-none}
use Rattle.promises.specs.DemandThree.{NotAbove, has_digits, Attribute, attribute, wire_attributes, more_attributes, instead, unread_one, unread_each, passed_over}
use Rattle.promises.proofs.Lower.{hides-up, known-shows, mask_rows, mask_slots, group_table, lower_read, mask_at}

-- ── slots by their number ──
module _ (c d : Digits) where
  first_mask : (r : Rule) (rs : List Rule) (s : Slots) → first_slot (mask_slots c d (r ∷ rs) s) ≡ cond (hides c d r.least) None (first_slot s)
  first_mask r rs [] = sym (cond_same (hides c d r.least) None)
  first_mask r rs (o ∷ s) = refl

  other_mask : (r : Rule) (rs : List Rule) (s : Slots) → other_slots (mask_slots c d (r ∷ rs) s) ≡ mask_slots c d rs (other_slots s)
  other_mask r rs [] = refl
  other_mask r rs (o ∷ s) = refl

abbrev pub nth : ℕ → Slots → Option Value
nth zero s = first_slot s
nth (suc n) s = nth n (other_slots s)

pub nth_mask : (c d : Digits) {t : List Rule} {i : ℕ} {r : Rule} → Row t i r → (s : Slots) → nth i (mask_slots c d t s) ≡ cond (hides c d r.least) None (nth i s)
nth_mask c d (here {r = r} {rs = rs}) s = first_mask c d r rs s
nth_mask c d (there {q = q} {rs = rs} {i = i} w) s = ap (nth i) (other_mask c d q rs s) ∙ nth_mask c d w (other_slots s)

-- a state, of a slot or of how many there are: z is what is there of what is left out
pub state_of_lem : {A : Type 0} (f : A → ℤ) (z : A) (low high : Bool) → (low ≡ false → high ≡ false) → (o o' : A) → o' ≡ cond low z o
    → cond low (pos 3) (f o') ≡ instead low (pos 3) (cond high (pos 3) (f o))
state_of_lem f z true high g o o' e = refl
state_of_lem f z false high g o o' e = rw (g refl) (ap f e)

-- ── a wire's lists of lines ──
abbrev first_line : List (List Num) → List ℤ
first_line [] = []
first_line (v ∷ vs) = map (λ m. m.value) v

abbrev other_lines : List (List Num) → List (List Num)
other_lines [] = []
other_lines (v ∷ vs) = vs

shown-more : (n wide : ℕ) (vs : List (List Num)) → shown_lines (suc n) wide vs ≡ padded wide (first_line vs) ++ shown_lines n wide (other_lines vs)
shown-more n wide [] = refl
shown-more n wide (v ∷ vs) = refl

-- three of them
three : (gs : List (List (List Num))) → eqb (length gs) 3 ≡ true → gs ≡ get_or gs 0 [] ∷ get_or gs 1 [] ∷ get_or gs 2 [] ∷ []
three [] e = clash e refl
three (a ∷ []) e = clash e refl
three (a ∷ b ∷ []) e = clash e refl
three (a ∷ b ∷ f ∷ []) e = refl
three (a ∷ b ∷ f ∷ g ∷ gs) e = absurd (let h = eqb-true (suc (suc (suc (suc (length gs))))) 3 e in omega (arith, h))

mask-length : {A : Type 0} (z : A) (c d : Digits) (t : List Rule) (s : List A) → length (mask_rows z c d t s) ≡ length s
mask-length z c d t [] = refl
mask-length z c d [] (o ∷ s) = refl
mask-length z c d (r ∷ t) (o ∷ s) = rw (mask-length z c d t s)

pub mask-three : (c d : Digits) (gs : List (List (List Num))) → eqb (length gs) 3 ≡ true → eqb (length (mask_rows [] c d group_table gs)) 3 ≡ true
mask-three c d gs e = rw (mask-length [] c d group_table gs) e

-- ── the two records from what a wire holds ──
-- what no attribute says: line, how many elements, E_wire's first digit, the mark, what stands at place 4
module _ (owner volume line elements : ℕ) (four digit mark : ℤ) where
  abbrev first_of : (direc piend num : List (List Num)) → Option Value → (s2 s3 s4 s6 : ℤ) → List ℤ
  first_of direc piend num o s2 s3 s4 s6 =
      pos 18 ∷ pos owner ∷ pos volume ∷ pos line ∷ four ∷ pos elements
      ∷ pos (length direc) ∷ (padded 4 (first_line direc) ++ padded 4 (first_line (other_lines direc))
      ++ pos (length piend) ∷ padded 3 (first_line piend)
      ++ pos (length num) ∷ padded 5 (first_line num)
      ++ first_or0 (numbers_of o) ∷ s2 ∷ s3 ∷ s4 ∷ s6 ∷ digit ∷ mark ∷ [])

  abbrev second_of : List Slots → (circuit power serial : Option Value) → (s5 s7 s8 s9 : ℤ) → List ℤ
  second_of texts circuit power serial s5 s7 s8 s9 =
      pos 19 ∷ pos owner ∷ pos volume ∷ pos line ∷ pos 0 ∷ pos (length texts)
      ∷ (padded 8 (numbers_of (nth 0 (first_text texts))) ++ padded 2 (numbers_of (nth 1 (first_text texts)))
      ++ padded 2 (numbers_of circuit) ++ padded 3 (numbers_of power) ++ padded 5 (numbers_of serial)
      ++ s5 ∷ s7 ∷ s8 ∷ s9 ∷ pos 0 ∷ mark ∷ [])

  abbrev at : List Attribute → ℕ → Attribute
  at as' i = get_or as' i (attribute (digits 0 0) [] 0)

  -- one attribute left out, or none
  module _ (direc piend num : List (List Num)) (o : Option Value) (s2 s3 s4 s6 : ℤ) where
    direc-out : (b : Bool) → unread_one b (at wire_attributes 0) (first_of direc piend num o s2 s3 s4 s6) ≡ first_of (cond b [] direc) piend num o (instead b (pos 3) s2) s3 s4 s6
    direc-out true = refl
    direc-out false = refl

    piend-out : (b : Bool) → unread_one b (at wire_attributes 1) (first_of direc piend num o s2 s3 s4 s6) ≡ first_of direc (cond b [] piend) num o s2 (instead b (pos 3) s3) s4 s6
    piend-out true = refl
    piend-out false = refl

    num-out : (b : Bool) → unread_one b (at wire_attributes 2) (first_of direc piend num o s2 s3 s4 s6) ≡ first_of direc piend (cond b [] num) o s2 s3 (instead b (pos 3) s4) s6
    num-out true = refl
    num-out false = refl

    length-out : (b : Bool) → unread_one b (at wire_attributes 3) (first_of direc piend num o s2 s3 s4 s6) ≡ first_of direc piend num (cond b None o) s2 s3 s4 (instead b (pos 3) s6)
    length-out true = refl
    length-out false = refl

  first_out : (c d : Digits) (direc piend num : List (List Num)) (o : Option Value) (s2 s3 s4 s6 : ℤ)
      → unread_each c d wire_attributes (first_of direc piend num o s2 s3 s4 s6)
      ≡ first_of (cond (hides c d (digits 0 2)) [] direc) (cond (hides c d (digits 0 3)) [] piend) (cond (hides c d (digits 0 4)) [] num) (cond (hides c d (digits 0 6)) None o)
      (instead (hides c d (digits 0 2)) (pos 3) s2) (instead (hides c d (digits 0 3)) (pos 3) s3) (instead (hides c d (digits 0 4)) (pos 3) s4) (instead (hides c d (digits 0 6)) (pos 3) s6)
  first_out c d direc piend num o s2 s3 s4 s6 =
      let b2 = hides c d (digits 0 2) in
      let b3 = hides c d (digits 0 3) in
      let b4 = hides c d (digits 0 4) in
      let b6 = hides c d (digits 0 6) in
      ap (λ r. unread_one b2 (at wire_attributes 0) (unread_one b3 (at wire_attributes 1) (unread_one b4 (at wire_attributes 2) r))) (length-out direc piend num o s2 s3 s4 s6 b6)
      ∙ ap (λ r. unread_one b2 (at wire_attributes 0) (unread_one b3 (at wire_attributes 1) r)) (num-out direc piend num (cond b6 None o) s2 s3 s4 (instead b6 (pos 3) s6) b4)
      ∙ ap (unread_one b2 (at wire_attributes 0)) (piend-out direc piend (cond b4 [] num) (cond b6 None o) s2 s3 (instead b4 (pos 3) s4) (instead b6 (pos 3) s6) b3)
      ∙ direc-out direc (cond b3 [] piend) (cond b4 [] num) (cond b6 None o) s2 (instead b3 (pos 3) s3) (instead b4 (pos 3) s4) (instead b6 (pos 3) s6) b2

  module _ (texts : List Slots) (circuit power serial : Option Value) (s5 s7 s8 s9 : ℤ) where
    texts-out : (b : Bool) → unread_one b (at more_attributes 0) (second_of texts circuit power serial s5 s7 s8 s9) ≡ second_of (cond b [] texts) circuit power serial (instead b (pos 3) s5) s7 s8 s9
    texts-out true = refl
    texts-out false = refl

    circuit-out : (b : Bool) → unread_one b (at more_attributes 1) (second_of texts circuit power serial s5 s7 s8 s9) ≡ second_of texts (cond b None circuit) power serial s5 (instead b (pos 3) s7) s8 s9
    circuit-out true = refl
    circuit-out false = refl

    power-out : (b : Bool) → unread_one b (at more_attributes 2) (second_of texts circuit power serial s5 s7 s8 s9) ≡ second_of texts circuit (cond b None power) serial s5 s7 (instead b (pos 3) s8) s9
    power-out true = refl
    power-out false = refl

    serial-out : (b : Bool) → unread_one b (at more_attributes 3) (second_of texts circuit power serial s5 s7 s8 s9) ≡ second_of texts circuit power (cond b None serial) s5 s7 s8 (instead b (pos 3) s9)
    serial-out true = refl
    serial-out false = refl

  second-out : (c d : Digits) (texts : List Slots) (circuit power serial : Option Value) (s5 s7 s8 s9 : ℤ)
      → unread_each c d more_attributes (second_of texts circuit power serial s5 s7 s8 s9)
      ≡ second_of (cond (hides c d (digits 0 5)) [] texts) (cond (hides c d (digits 0 7)) None circuit) (cond (hides c d (digits 0 8)) None power) (cond (hides c d (digits 1 0)) None serial)
      (instead (hides c d (digits 0 5)) (pos 3) s5) (instead (hides c d (digits 0 7)) (pos 3) s7) (instead (hides c d (digits 0 8)) (pos 3) s8) (instead (hides c d (digits 1 0)) (pos 3) s9)
  second-out c d texts circuit power serial s5 s7 s8 s9 =
      let b5 = hides c d (digits 0 5) in
      let b7 = hides c d (digits 0 7) in
      let b8 = hides c d (digits 0 8) in
      let b9 = hides c d (digits 1 0) in
      ap (λ r. unread_one b5 (at more_attributes 0) (unread_one b7 (at more_attributes 1) (unread_one b8 (at more_attributes 2) r))) (serial-out texts circuit power serial s5 s7 s8 s9 b9)
      ∙ ap (λ r. unread_one b5 (at more_attributes 0) (unread_one b7 (at more_attributes 1) r)) (power-out texts circuit power (cond b9 None serial) s5 s7 s8 (instead b9 (pos 3) s9) b8)
      ∙ ap (unread_one b5 (at more_attributes 0)) (circuit-out texts circuit (cond b8 None power) (cond b9 None serial) s5 s7 (instead b8 (pos 3) s8) (instead b9 (pos 3) s9) b7)
      ∙ texts-out texts (cond b7 None circuit) (cond b8 None power) (cond b9 None serial) s5 (instead b7 (pos 3) s7) (instead b8 (pos 3) s8) (instead b9 (pos 3) s9) b5

-- a wire that is read, at a class's wire part, in a file of the range d
abbrev group : Wire → ℕ → List (List Num)
group x i = get_or x.groups i []

abbrev unread_or : Digits → Digits → Digits → ℤ → ℤ
unread_or c d l z = cond (hides c d l) (pos 3) z

abbrev pub wire_first : Digits → Digits → (owner volume line range : ℕ) → Wire → List ℤ
wire_first c d owner volume line range x =
    first_of owner volume line (length x.elements) (first_or0 (numbers_of (nth 0 x.own))) (pos (range / 100)) (pos 0) (group x 0) (group x 1) (group x 2) (nth 6 x.own)
    (unread_or c d (digits 0 2) (state_of_many (length (group x 0)))) (unread_or c d (digits 0 3) (state_of_many (length (group x 1))))
    (unread_or c d (digits 0 4) (state_of_many (length (group x 2)))) (unread_or c d (digits 0 6) (state_of (nth 6 x.own)))

abbrev pub wire_second : Digits → Digits → (owner volume line : ℕ) → Wire → List ℤ
wire_second c d owner volume line x =
    second_of owner volume line 0 (pos 0) (pos 0) (pos 0) x.texts (nth 7 x.own) (nth 8 x.own) (nth 9 x.own)
    (unread_or c d (digits 0 5) (state_of_many (length x.texts))) (unread_or c d (digits 0 7) (state_of (nth 7 x.own)))
    (unread_or c d (digits 0 8) (state_of (nth 8 x.own))) (unread_or c d (digits 1 0) (state_of (nth 9 x.own)))

module _ (w : View) (owner volume line : ℕ) (x : Wire) where
  -- its records, where these are its lists of lines, and these the numbers shown of them
  abbrev laid : List (List (List Num)) → List (List ℤ)
  laid gs =
      two_of
      (mark_unread w.class.wires (digits_of w.wires) wire_table
      (wire_numbers w.wires (length x.elements) (put_groups shelves gs (put_texts x.texts (put_slots wire_table x.own (wire_start owner volume line))))))

  abbrev shelved : (a b f : List ℤ) → List (List ℤ)
  shelved a b f =
      two_of
      (mark_unread w.class.wires (digits_of w.wires) wire_table
      (wire_numbers w.wires (length x.elements)
      (set (sets
      (set (sets
      (set (sets (put_texts x.texts (put_slots wire_table x.own (wire_start owner volume line))) 19 (pos (length (group x 2)) ∷ f)) 28 (state_of_many (length (group x 2))))
      15 (pos (length (group x 1)) ∷ b)) 27 (state_of_many (length (group x 1))))
      6 (pos (length (group x 0)) ∷ a)) 26 (state_of_many (length (group x 0))))))

  computed : shelved (padded 4 (first_line (group x 0)) ++ (padded 4 (first_line (other_lines (group x 0))) ++ [])) (padded 3 (first_line (group x 1)) ++ []) (padded 5 (first_line (group x 2)) ++ [])
      ≡ wire_first w.class.wires (digits_of w.wires) owner volume line w.wires x ∷ wire_second w.class.wires (digits_of w.wires) owner volume line x ∷ []
  unfolding wire_table text_table
  computed = refl

  pub wire-two : eqb (length x.groups) 3 ≡ true
      → two_of (wire_values w x (wire_start owner volume line))
      ≡ wire_first w.class.wires (digits_of w.wires) owner volume line w.wires x ∷ wire_second w.class.wires (digits_of w.wires) owner volume line x ∷ []
  wire-two e =
      ap laid (three x.groups e)
      ∙ (λ i. shelved (shown-two i) (shown-more 0 3 (group x 1) i) (shown-more 0 5 (group x 2) i))
      ∙ computed
    where
      shown-two : shown_lines 2 4 (group x 0) ≡ padded 4 (first_line (group x 0)) ++ (padded 4 (first_line (other_lines (group x 0))) ++ [])
      shown-two = shown-more 1 4 (group x 0) ∙ ap (λ z. padded 4 (first_line (group x 0)) ++ z) (shown-more 0 4 (other_lines (group x 0)))

-- ── at the lower class ──
module _ (low high : Digits) (le : NotAbove low high) (d : Digits) where
  up : (l : Digits) → hides low d l ≡ false → hides high d l ≡ false
  up l e = hides-up low high le d l e

  group-lower : (x : Wire) → (group (lower_read low d x) 0 ≡ cond (hides low d (digits 0 2)) [] (group x 0)) × (group (lower_read low d x) 1 ≡ cond (hides low d (digits 0 3)) [] (group x 1))
      × (group (lower_read low d x) 2 ≡ cond (hides low d (digits 0 4)) [] (group x 2))
  unfolding wire_table
  group-lower x = (mask_at [] low d {t = group_table} here x.groups, mask_at [] low d {t = group_table} (there here) x.groups, mask_at [] low d {t = group_table} (there (there here)) x.groups)

  own-lower : (s : Slots) → (nth 0 (mask_slots low d wire_table s) ≡ nth 0 s) × (nth 6 (mask_slots low d wire_table s) ≡ cond (hides low d (digits 0 6)) None (nth 6 s))
      × (nth 7 (mask_slots low d wire_table s) ≡ cond (hides low d (digits 0 7)) None (nth 7 s)) × (nth 8 (mask_slots low d wire_table s) ≡ cond (hides low d (digits 0 8)) None (nth 8 s))
      × (nth 9 (mask_slots low d wire_table s) ≡ cond (hides low d (digits 1 0)) None (nth 9 s))
  unfolding wire_table
  own-lower s = (
    nth_mask low d {t = wire_table} here s ∙ rw (known-shows low d (digits 0 0) (reaches-none low)),
    nth_mask low d {t = wire_table} (there (there (there (there (there (there here)))))) s,
    nth_mask low d {t = wire_table} (there (there (there (there (there (there (there here))))))) s,
    nth_mask low d {t = wire_table} (there (there (there (there (there (there (there (there here)))))))) s,
    nth_mask low d {t = wire_table} (there (there (there (there (there (there (there (there (there here))))))))) s,
  )

  pub first-lower : (owner volume line range : ℕ) (x : Wire)
      → wire_first low d owner volume line range (lower_read low d x) ≡ unread_each low d wire_attributes (wire_first high d owner volume line range x)
  first-lower owner volume line range x =
      let (g2, g3, g4) = group-lower x in
      let (o0, o6, o7, o8, o9) = own-lower x.own in
      (λ i. first_of owner volume line (length x.elements) (first_or0 (numbers_of (o0 i))) (pos (range / 100)) (pos 0) (g2 i) (g3 i) (g4 i) (o6 i)
      (state_of_lem (λ gs. state_of_many (length gs)) [] (hides low d (digits 0 2)) (hides high d (digits 0 2)) (up (digits 0 2)) (group x 0) (group (lower_read low d x) 0) g2 i)
      (state_of_lem (λ gs. state_of_many (length gs)) [] (hides low d (digits 0 3)) (hides high d (digits 0 3)) (up (digits 0 3)) (group x 1) (group (lower_read low d x) 1) g3 i)
      (state_of_lem (λ gs. state_of_many (length gs)) [] (hides low d (digits 0 4)) (hides high d (digits 0 4)) (up (digits 0 4)) (group x 2) (group (lower_read low d x) 2) g4 i)
      (state_of_lem state_of None (hides low d (digits 0 6)) (hides high d (digits 0 6)) (up (digits 0 6)) (nth 6 x.own) (nth 6 (lower_read low d x).own) o6 i))
      ∙ sym (first_out owner volume line (length x.elements) (first_or0 (numbers_of (nth 0 x.own))) (pos (range / 100)) (pos 0) low d (group x 0) (group x 1) (group x 2) (nth 6 x.own)
      (unread_or high d (digits 0 2) (state_of_many (length (group x 0)))) (unread_or high d (digits 0 3) (state_of_many (length (group x 1))))
      (unread_or high d (digits 0 4) (state_of_many (length (group x 2)))) (unread_or high d (digits 0 6) (state_of (nth 6 x.own))))

  pub second-lower : (owner volume line : ℕ) (x : Wire) → wire_second low d owner volume line (lower_read low d x) ≡ unread_each low d more_attributes (wire_second high d owner volume line x)
  second-lower owner volume line x =
      let (o0, o6, o7, o8, o9) = own-lower x.own in
      (λ i. second_of owner volume line 0 (pos 0) (pos 0) (pos 0) (lower_read low d x).texts (o7 i) (o8 i) (o9 i)
      (state_of_lem (λ ts. state_of_many (length ts)) [] (hides low d (digits 0 5)) (hides high d (digits 0 5)) (up (digits 0 5)) x.texts (lower_read low d x).texts refl i)
      (state_of_lem state_of None (hides low d (digits 0 7)) (hides high d (digits 0 7)) (up (digits 0 7)) (nth 7 x.own) (nth 7 (lower_read low d x).own) o7 i)
      (state_of_lem state_of None (hides low d (digits 0 8)) (hides high d (digits 0 8)) (up (digits 0 8)) (nth 8 x.own) (nth 8 (lower_read low d x).own) o8 i)
      (state_of_lem state_of None (hides low d (digits 1 0)) (hides high d (digits 1 0)) (up (digits 1 0)) (nth 9 x.own) (nth 9 (lower_read low d x).own) o9 i))
      ∙ sym (second-out owner volume line 0 (pos 0) (pos 0) (pos 0) low d x.texts (nth 7 x.own) (nth 8 x.own) (nth 9 x.own)
      (unread_or high d (digits 0 5) (state_of_many (length x.texts))) (unread_or high d (digits 0 7) (state_of (nth 7 x.own)))
      (unread_or high d (digits 0 8) (state_of (nth 8 x.own))) (unread_or high d (digits 1 0) (state_of (nth 9 x.own))))

-- ── a wire that is skipped whole ──
module _ (d : Digits) (owner volume line : ℕ) where
  abbrev pub passed_two : List (List ℤ)
  passed_two = two_of (unread_numbers (mark_unread (digits 0 0) d wire_table (wire_start owner volume line)))

  abbrev pub over_first : List ℤ
  over_first = passed_over d wire_attributes (pos 18 ∷ pos owner ∷ pos volume ∷ pos line ∷ [])

  abbrev pub over_second : List ℤ
  over_second = passed_over d more_attributes (pos 19 ∷ pos owner ∷ pos volume ∷ pos line ∷ [])

  -- by which attributes the file allows: those of the first record, those of the second
  abbrev skipped : (b2 b3 b4 b6 b5 b7 b8 b9 : Bool) → List (List ℤ)
  skipped b2 b3 b4 b6 b5 b7 b8 b9 =
      first_of owner volume line 0 (pos 0) (pos 0) (pos 3) [] [] [] None (cond b2 (pos 3) (pos 0)) (cond b3 (pos 3) (pos 0)) (cond b4 (pos 3) (pos 0)) (cond b6 (pos 3) (pos 0))
      ∷ second_of owner volume line 0 (pos 0) (pos 0) (pos 3) [] None None None (cond b5 (pos 3) (pos 0)) (cond b7 (pos 3) (pos 0)) (cond b8 (pos 3) (pos 0)) (cond b9 (pos 3) (pos 0))
      ∷ []

  -- what the part 0 doesn't know of it
  abbrev none_known : Digits → Bool
  none_known l = hides (digits 0 0) d l

  skipped_as_lem : passed_two
      ≡ skipped (none_known (digits 0 2)) (none_known (digits 0 3)) (none_known (digits 0 4)) (none_known (digits 0 6)) (none_known (digits 0 5)) (none_known (digits 0 7)) (none_known (digits 0 8)) (none_known (digits 1 0))
  unfolding wire_table
  skipped_as_lem = refl

  pub passed-two : passed_two ≡ over_first ∷ over_second ∷ []
  passed-two = skipped_as_lem ∙ (λ i.
      skipped (allowed (digits 0 2) i) (allowed (digits 0 3) i) (allowed (digits 0 4) i) (allowed (digits 0 6) i) (allowed (digits 0 5) i) (allowed (digits 0 7) i) (allowed (digits 0 8) i) (allowed (digits 1 0) i))
    where
      allowed : (l : Digits) → (reaches d l && true) ≡ has_digits d l
      allowed l = go (reaches d l)
        where
          go : (b : Bool) → (b && true) ≡ b
          go true = refl
          go false = refl

  -- what a class doesn't know of it is unread already
  again : (c l : Digits) → instead (hides c d l) (pos 3) (cond (has_digits d l) (pos 3) (pos 0)) ≡ cond (has_digits d l) (pos 3) (pos 0)
  again c l = go (reaches d l) (reaches c l)
    where
      go : (a b : Bool) → instead (a && not b) (pos 3) (cond a (pos 3) (pos 0)) ≡ cond a (pos 3) (pos 0)
      go true true = refl
      go true false = refl
      go false b = refl

  no_more : {A : Type 0} (c l : Digits) (z : A) → cond (hides c d l) z z ≡ z
  no_more c l z = cond_same (hides c d l) z

  pub first-again : (c : Digits) → unread_each c d wire_attributes over_first ≡ over_first
  first-again c =
      first_out owner volume line 0 (pos 0) (pos 0) (pos 3) c d [] [] [] None _ _ _ _
      ∙ (λ i. first_of owner volume line 0 (pos 0) (pos 0) (pos 3) (no_more {A = List (List Num)} c (digits 0 2) [] i) (no_more {A = List (List Num)} c (digits 0 3) [] i) (no_more {A = List (List Num)} c (digits 0 4) [] i)
      (no_more {A = Option Value} c (digits 0 6) None i) (again c (digits 0 2) i) (again c (digits 0 3) i) (again c (digits 0 4) i) (again c (digits 0 6) i))

  pub second-again : (c : Digits) → unread_each c d more_attributes over_second ≡ over_second
  second-again c =
      second-out owner volume line 0 (pos 0) (pos 0) (pos 3) c d [] None None None _ _ _ _
      ∙ (λ i. second_of owner volume line 0 (pos 0) (pos 0) (pos 3) (no_more {A = List Slots} c (digits 0 5) [] i) (no_more {A = Option Value} c (digits 0 7) None i) (no_more {A = Option Value} c (digits 0 8) None i)
      (no_more {A = Option Value} c (digits 1 0) None i) (again c (digits 0 5) i) (again c (digits 0 7) i) (again c (digits 0 8) i) (again c (digits 1 0) i))
