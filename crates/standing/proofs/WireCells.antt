-- The numbers of an open wire's two records, cell by cell: what a line of a key leaves there.
use Rattle.std.specs.Prelude.{Option, Some, None}
use Prim.Native.Nat.{ℕ, zero, suc, ◌+◌, ◌*◌, ◌/◌}
use mathlib.Core.Bool.{Bool, true, false, cond, ◌&&◌, ◌||◌}
use mathlib.Core.List.{List, [], ◌∷◌, ◌++◌, map}
use mathlib.Core.Path.{◌≡◌, refl, sym, ◌∙◌, ap}
use native.Mathlib.Omega.{arith}
use borrow.Author.Tests.{lt-leb}
use lib.Dec.{leb, ltb}
use lib.IntN.{ℤ, pos}
use lib.ListN.{length, get_or, set, take, drop, length-append}
use lib.Seq.{sets}
use Rattle.rules.specs.Values.{Num, Value, nums, equal_z}
use Rattle.rules.specs.Rows.{Slots}
use Rattle.rules.specs.Figures.{wire_table, wire_text_table, text_table}
use Rattle.rules.specs.Wires.{like_first}
use Rattle.rules.specs.Sets.{Edge}
use Rattle.rules.specs.RecordTable.{Shelf, shelf, shelves, padded, others, numbers, numbers_of, state_of, given, shown_lines, state_of_many, put_groups, put_texts, text_numbers, first_text, put_slots, wire_start, wire_numbers}
use Rattle.tables.specs.Tables.{table_of}
use Rattle.account.specs.WireLines.{front_read, own_read, group_agrees, shelved, text_shelf, text_from, former_cleared, front_emptied, moved}
use Rattle.standing.specs.SoFar.{empty_record, former_numbers, text_begun}

-- ── cells ──
-- a list of so many numbers, spelt out
pub spelt : (n : ℕ) (x : List ℤ) → length x ≡ n → padded n x ≡ x
spelt zero [] e = refl
spelt zero (z ∷ x) e = absurd (omega (arith, e))
spelt (suc n) [] e = absurd (omega (arith, e))
spelt (suc n) (z ∷ x) e = ap (λ (u : List ℤ). z ∷ u) (spelt n x (omega (arith, e)))

-- the lines that are shown are so many numbers
shown-one : (wide : ℕ) (vs : List (List Num)) → length (shown_lines 1 wide vs) ≡ wide
shown-one wide [] = length-append (padded wide []) [] ∙ omega (arith, padded-long wide [])
  where
    padded-long : (n : ℕ) (x : List ℤ) → length (padded n x) ≡ n
    padded-long zero x = refl
    padded-long (suc n) x = ap suc (padded-long n (others x))
shown-one wide (v ∷ vs) = length-append (padded wide (map (λ (m : Num). m.value) v)) [] ∙ omega (arith, padded-long wide (map (λ (m : Num). m.value) v))
  where
    padded-long : (n : ℕ) (x : List ℤ) → length (padded n x) ≡ n
    padded-long zero x = refl
    padded-long (suc n) x = ap suc (padded-long n (others x))

shown-two : (vs : List (List Num)) → length (shown_lines 2 4 vs) ≡ 8
shown-two [] = refl
shown-two (v ∷ []) = refl
shown-two (v ∷ u ∷ vs) = refl

-- a key that repeats, or the texts: so many numbers are shown, the count and the state
abbrev pub put : ℕ → ℕ → ℕ → ℕ → List ℤ → List ℤ → List ℤ
put place state many count s t = set (sets t place (pos count ∷ padded many s)) state (state_of_many count)

-- b: the rows that stand once
abbrev pub cells : ℕ → List ℤ → ℕ → List ℤ → ℕ → List ℤ → ℕ → List ℤ → List ℤ → List ℤ
cells c₀ s₀ c₁ s₁ c₂ s₂ cₜ sₜ b = put 6 26 8 c₀ s₀ (put 15 27 3 c₁ s₁ (put 19 28 5 c₂ s₂ (put 37 58 10 cₜ sₜ (padded 64 b))))

text-ten : (s : Slots) → length (text_numbers s) ≡ 10
unfolding text_table
text-ten s = refl

abbrev pub two_of_wire : List (List Num) → List (List Num) → List (List Num) → List Slots → List ℤ → List ℤ
two_of_wire g₀ g₁ g₂ ts b = put_groups shelves (g₀ ∷ g₁ ∷ g₂ ∷ []) (put_texts ts b)

abbrev pub spelled : List (List Num) → List (List Num) → List (List Num) → List Slots → List ℤ → List ℤ
spelled g₀ g₁ g₂ ts b =
    cells (length g₀) (shown_lines 2 4 g₀) (length g₁) (shown_lines 1 3 g₁) (length g₂) (shown_lines 1 5 g₂) (length ts) (text_numbers (first_text ts)) b

pub two_cells : (g₀ g₁ g₂ : List (List Num)) (ts : List Slots) (b : List ℤ) → length b ≡ 64 → two_of_wire g₀ g₁ g₂ ts b ≡ spelled g₀ g₁ g₂ ts b
two_cells g₀ g₁ g₂ ts b long =
    let all : List ℤ → List ℤ → List ℤ → List ℤ → List ℤ → List ℤ = λ s₀ s₁ s₂ sₜ b.
    set (sets (set (sets (set (sets (set (sets b 37 (pos (length ts) ∷ sₜ)) 58 (state_of_many (length ts))) 19 (pos (length g₂) ∷ s₂)) 28 (state_of_many (length g₂))) 15 (pos (length g₁) ∷ s₁)) 27 (state_of_many (length g₁))) 6 (pos (length g₀) ∷ s₀)) 26 (state_of_many (length g₀)) in
    ap (λ (s : List ℤ). all s (shown_lines 1 3 g₁) (shown_lines 1 5 g₂) (text_numbers (first_text ts)) b) (sym (spelt 8 (shown_lines 2 4 g₀) (shown-two g₀)))
    ∙ ap (λ (s : List ℤ). all (padded 8 (shown_lines 2 4 g₀)) s (shown_lines 1 5 g₂) (text_numbers (first_text ts)) b) (sym (spelt 3 (shown_lines 1 3 g₁) (shown-one 3 g₁)))
    ∙ ap (λ (s : List ℤ). all (padded 8 (shown_lines 2 4 g₀)) (padded 3 (shown_lines 1 3 g₁)) s (text_numbers (first_text ts)) b) (sym (spelt 5 (shown_lines 1 5 g₂) (shown-one 5 g₂)))
    ∙ ap (λ (s : List ℤ). all (padded 8 (shown_lines 2 4 g₀)) (padded 3 (shown_lines 1 3 g₁)) (padded 5 (shown_lines 1 5 g₂)) s b) (sym (spelt 10 (text_numbers (first_text ts)) (text-ten (first_text ts))))
    ∙ ap (all (padded 8 (shown_lines 2 4 g₀)) (padded 3 (shown_lines 1 3 g₁)) (padded 5 (shown_lines 1 5 g₂)) (padded 10 (text_numbers (first_text ts)))) (sym (spelt 64 b long))

-- ── a key that repeats ──
-- the values of a line of each
pub data GroupLine : ℕ → List Num → Type 0 where
  no-direc : GroupLine 2 []
  no-piend : GroupLine 3 []
  no-num : GroupLine 4 []
  a-direc : (a b c d : Num) → GroupLine 2 (a ∷ b ∷ c ∷ d ∷ [])
  a-piend : (a b c : Num) → GroupLine 3 (a ∷ b ∷ c ∷ [])
  a-num : (a b c d e : Num) → GroupLine 4 (a ∷ b ∷ c ∷ d ∷ e ∷ [])

many-two : (n : ℕ) → ltb (suc (suc n)) 2 ≡ false
many-two n = lt-leb (suc (suc (suc n))) 2 (omega arith)

many-one : (n : ℕ) → ltb (suc n) 1 ≡ false
many-one n = lt-leb (suc (suc n)) 1 (omega arith)

one-longer : {A : Type 0} (g : List A) (v : A) → suc (length g) ≡ length (g ++ v ∷ [])
one-longer g v = omega (arith, length-append g (v ∷ []))

-- by whether it is shown
abbrev shelved_if : Bool → Shelf → ℕ → List ℤ → List ℤ
shelved_if c h n t = front_emptied (set (set (cond c (moved 0 (32 + suc h.place + n * h.wide) h.wide t) t) (32 + h.place) (pos (suc n))) (32 + h.state) (pos 2))

abbrev pub scratch_of : Option Edge → ℕ → List ℤ → ℕ → List ℤ → ℕ → List ℤ → List Slots → List ℤ → List ℤ
scratch_of o c₀ s₀ c₁ s₁ c₂ s₂ ts b = empty_record ++ former_numbers o (cells c₀ s₀ c₁ s₁ c₂ s₂ (length ts) (text_numbers (first_text ts)) b)

module _ (ts : List Slots) (b : List ℤ) (o : Option Edge) where
  abbrev pub scratch : List (List Num) → List (List Num) → List (List Num) → List ℤ
  scratch g₀ g₁ g₂ = empty_record ++ former_numbers o (spelled g₀ g₁ g₂ ts b)

pub direc-put : (g₀ g₁ g₂ : List (List Num)) (ts : List Slots) (b : List ℤ) (o : Option Edge) (v : List Num) → GroupLine 2 v
    → shelved 0 (shelf 6 26 4 2) (front_read 2 (nums v) (scratch ts b o g₀ g₁ g₂)) ≡ scratch ts b o (g₀ ++ v ∷ []) g₁ g₂
unfolding table_of wire_table
direc-put [] g₁ g₂ ts b o v h = first o v h
  where
    first : (o : Option Edge) (v : List Num) → GroupLine 2 v → shelved 0 (shelf 6 26 4 2) (front_read 2 (nums v) (scratch ts b o [] g₁ g₂)) ≡ scratch ts b o (v ∷ []) g₁ g₂
    first None _ no-direc = refl
    first None _ (a-direc p q r s) = refl
    first (Some e) _ no-direc = refl
    first (Some e) _ (a-direc p q r s) = refl
direc-put (u ∷ []) g₁ g₂ ts b o v h = second o v h
  where
    second : (o : Option Edge) (v : List Num) → GroupLine 2 v → shelved 0 (shelf 6 26 4 2) (front_read 2 (nums v) (scratch ts b o (u ∷ []) g₁ g₂)) ≡ scratch ts b o (u ∷ v ∷ []) g₁ g₂
    second None _ no-direc = refl
    second None _ (a-direc p q r s) = refl
    second (Some e) _ no-direc = refl
    second (Some e) _ (a-direc p q r s) = refl
direc-put (u ∷ y ∷ g) g₁ g₂ ts b o v h =
    more o v h
    ∙ ap (λ (m : ℕ). scratch_of o (suc (suc m)) (shown_lines 2 4 (u ∷ y ∷ g)) (length g₁) (shown_lines 1 3 g₁) (length g₂) (shown_lines 1 5 g₂) ts b) (one-longer g v)
  where
    more : (o : Option Edge) (v : List Num) → GroupLine 2 v → shelved 0 (shelf 6 26 4 2) (front_read 2 (nums v) (scratch ts b o (u ∷ y ∷ g) g₁ g₂))
        ≡ scratch_of o (suc (suc (suc (length g)))) (shown_lines 2 4 (u ∷ y ∷ g)) (length g₁) (shown_lines 1 3 g₁) (length g₂) (shown_lines 1 5 g₂) ts b
    more None _ no-direc = ap (λ (c : Bool). shelved_if c (shelf 6 26 4 2) (suc (suc (length g))) (front_read 2 (nums []) (scratch ts b None (u ∷ y ∷ g) g₁ g₂))) (many-two (length g))
    more None _ (a-direc p q r s) = ap (λ (c : Bool). shelved_if c (shelf 6 26 4 2) (suc (suc (length g))) (front_read 2 (nums (p ∷ q ∷ r ∷ s ∷ [])) (scratch ts b None (u ∷ y ∷ g) g₁ g₂))) (many-two (length g))
    more (Some e) _ no-direc = ap (λ (c : Bool). shelved_if c (shelf 6 26 4 2) (suc (suc (length g))) (front_read 2 (nums []) (scratch ts b (Some e) (u ∷ y ∷ g) g₁ g₂))) (many-two (length g))
    more (Some e) _ (a-direc p q r s) = ap (λ (c : Bool). shelved_if c (shelf 6 26 4 2) (suc (suc (length g))) (front_read 2 (nums (p ∷ q ∷ r ∷ s ∷ [])) (scratch ts b (Some e) (u ∷ y ∷ g) g₁ g₂))) (many-two (length g))

pub piend-put : (g₀ g₁ g₂ : List (List Num)) (ts : List Slots) (b : List ℤ) (o : Option Edge) (v : List Num) → GroupLine 3 v
    → shelved 0 (shelf 15 27 3 1) (front_read 3 (nums v) (scratch ts b o g₀ g₁ g₂)) ≡ scratch ts b o g₀ (g₁ ++ v ∷ []) g₂
unfolding table_of wire_table
piend-put g₀ [] g₂ ts b o v h = first o v h
  where
    first : (o : Option Edge) (v : List Num) → GroupLine 3 v → shelved 0 (shelf 15 27 3 1) (front_read 3 (nums v) (scratch ts b o g₀ [] g₂)) ≡ scratch ts b o g₀ (v ∷ []) g₂
    first None _ no-piend = refl
    first None _ (a-piend p q r) = refl
    first (Some e) _ no-piend = refl
    first (Some e) _ (a-piend p q r) = refl
piend-put g₀ (u ∷ g) g₂ ts b o v h =
    more o v h
    ∙ ap (λ (m : ℕ). scratch_of o (length g₀) (shown_lines 2 4 g₀) (suc m) (shown_lines 1 3 (u ∷ g)) (length g₂) (shown_lines 1 5 g₂) ts b) (one-longer g v)
  where
    more : (o : Option Edge) (v : List Num) → GroupLine 3 v → shelved 0 (shelf 15 27 3 1) (front_read 3 (nums v) (scratch ts b o g₀ (u ∷ g) g₂))
        ≡ scratch_of o (length g₀) (shown_lines 2 4 g₀) (suc (suc (length g))) (shown_lines 1 3 (u ∷ g)) (length g₂) (shown_lines 1 5 g₂) ts b
    more None _ no-piend = ap (λ (c : Bool). shelved_if c (shelf 15 27 3 1) (suc (length g)) (front_read 3 (nums []) (scratch ts b None g₀ (u ∷ g) g₂))) (many-one (length g))
    more None _ (a-piend p q r) = ap (λ (c : Bool). shelved_if c (shelf 15 27 3 1) (suc (length g)) (front_read 3 (nums (p ∷ q ∷ r ∷ [])) (scratch ts b None g₀ (u ∷ g) g₂))) (many-one (length g))
    more (Some e) _ no-piend = ap (λ (c : Bool). shelved_if c (shelf 15 27 3 1) (suc (length g)) (front_read 3 (nums []) (scratch ts b (Some e) g₀ (u ∷ g) g₂))) (many-one (length g))
    more (Some e) _ (a-piend p q r) = ap (λ (c : Bool). shelved_if c (shelf 15 27 3 1) (suc (length g)) (front_read 3 (nums (p ∷ q ∷ r ∷ [])) (scratch ts b (Some e) g₀ (u ∷ g) g₂))) (many-one (length g))

pub num-put : (g₀ g₁ g₂ : List (List Num)) (ts : List Slots) (b : List ℤ) (o : Option Edge) (v : List Num) → GroupLine 4 v
    → shelved 0 (shelf 19 28 5 1) (front_read 4 (nums v) (scratch ts b o g₀ g₁ g₂)) ≡ scratch ts b o g₀ g₁ (g₂ ++ v ∷ [])
unfolding table_of wire_table
num-put g₀ g₁ [] ts b o v h = first o v h
  where
    first : (o : Option Edge) (v : List Num) → GroupLine 4 v → shelved 0 (shelf 19 28 5 1) (front_read 4 (nums v) (scratch ts b o g₀ g₁ [])) ≡ scratch ts b o g₀ g₁ (v ∷ [])
    first None _ no-num = refl
    first None _ (a-num p q r s u) = refl
    first (Some e) _ no-num = refl
    first (Some e) _ (a-num p q r s u) = refl
num-put g₀ g₁ (u ∷ g) ts b o v h =
    more o v h
    ∙ ap (λ (m : ℕ). scratch_of o (length g₀) (shown_lines 2 4 g₀) (length g₁) (shown_lines 1 3 g₁) (suc m) (shown_lines 1 5 (u ∷ g)) ts b) (one-longer g v)
  where
    more : (o : Option Edge) (v : List Num) → GroupLine 4 v → shelved 0 (shelf 19 28 5 1) (front_read 4 (nums v) (scratch ts b o g₀ g₁ (u ∷ g)))
        ≡ scratch_of o (length g₀) (shown_lines 2 4 g₀) (length g₁) (shown_lines 1 3 g₁) (suc (suc (length g))) (shown_lines 1 5 (u ∷ g)) ts b
    more None _ no-num = ap (λ (c : Bool). shelved_if c (shelf 19 28 5 1) (suc (length g)) (front_read 4 (nums []) (scratch ts b None g₀ g₁ (u ∷ g)))) (many-one (length g))
    more None _ (a-num p q r s t) = ap (λ (c : Bool). shelved_if c (shelf 19 28 5 1) (suc (length g)) (front_read 4 (nums (p ∷ q ∷ r ∷ s ∷ t ∷ [])) (scratch ts b None g₀ g₁ (u ∷ g)))) (many-one (length g))
    more (Some e) _ no-num = ap (λ (c : Bool). shelved_if c (shelf 19 28 5 1) (suc (length g)) (front_read 4 (nums []) (scratch ts b (Some e) g₀ g₁ (u ∷ g)))) (many-one (length g))
    more (Some e) _ (a-num p q r s t) = ap (λ (c : Bool). shelved_if c (shelf 19 28 5 1) (suc (length g)) (front_read 4 (nums (p ∷ q ∷ r ∷ s ∷ t ∷ [])) (scratch ts b (Some e) g₀ g₁ (u ∷ g)))) (many-one (length g))

-- "all with equal earth and power"
some-many : (n : ℕ) → equal_z (pos (suc n)) (pos 0) ≡ false
some-many n = ap (λ (b : Bool). b && leb 0 (suc n)) (lt-leb (suc n) 0 (omega arith))

pub num-agrees : (g₀ g₁ g₂ : List (List Num)) (ts : List Slots) (b : List ℤ) (o : Option Edge) (v : List Num) → GroupLine 4 v
    → group_agrees 4 (front_read 4 (nums v) (scratch ts b o g₀ g₁ g₂)) ≡ like_first g₂ v
unfolding table_of wire_table
num-agrees g₀ g₁ [] ts b o v h = first o v h
  where
    first : (o : Option Edge) (v : List Num) → GroupLine 4 v → group_agrees 4 (front_read 4 (nums v) (scratch ts b o g₀ g₁ [])) ≡ true
    first None _ no-num = refl
    first None _ (a-num p q r s u) = refl
    first (Some e) _ no-num = refl
    first (Some e) _ (a-num p q r s u) = refl
num-agrees g₀ g₁ (u ∷ g) ts b o v h = like o u v h
  where
    -- t: the scratch; the first has been
    later : (x y : Bool) → x ≡ false → (x || y) ≡ y
    later x y e = ap (λ (z : Bool). z || y) e

    like : (o : Option Edge) (u v : List Num) → GroupLine 4 v → group_agrees 4 (front_read 4 (nums v) (scratch ts b o g₀ g₁ (u ∷ g))) ≡ like_first (u ∷ g) v
    like None [] _ no-num = later _ _ (some-many (length g))
    like None (m ∷ []) _ no-num = later _ _ (some-many (length g))
    like None (m ∷ n ∷ u) _ no-num = later _ _ (some-many (length g))
    like None [] _ (a-num p q r s t) = later _ _ (some-many (length g))
    like None (m ∷ []) _ (a-num p q r s t) = later _ _ (some-many (length g))
    like None (m ∷ n ∷ u) _ (a-num p q r s t) = later _ _ (some-many (length g))
    like (Some e) [] _ no-num = later _ _ (some-many (length g))
    like (Some e) (m ∷ []) _ no-num = later _ _ (some-many (length g))
    like (Some e) (m ∷ n ∷ u) _ no-num = later _ _ (some-many (length g))
    like (Some e) [] _ (a-num p q r s t) = later _ _ (some-many (length g))
    like (Some e) (m ∷ []) _ (a-num p q r s t) = later _ _ (some-many (length g))
    like (Some e) (m ∷ n ∷ u) _ (a-num p q r s t) = later _ _ (some-many (length g))

-- ── the rows that stand once ──
abbrev slot : ℕ → ℕ → ℕ → ℤ → List ℤ → List ℤ → List ℤ
slot place state many st ns t = set (sets t place (padded many ns)) state st

abbrev once_cells : ℕ → ℕ → ℕ → ℤ → List ℤ → ℤ → List ℤ → ℤ → List ℤ → ℤ → List ℤ → List ℤ
once_cells k volume n st₆ ns₆ st₇ ns₇ st₈ ns₈ st₉ ns₉ = slot 25 29 1 st₆ ns₆ (slot 48 59 2 st₇ ns₇ (slot 50 60 3 st₈ ns₈ (slot 53 61 5 st₉ ns₉ (wire_start k volume n))))

-- the slots of length, circuit, power and serial; none of the others
abbrev pub once_slots : Option Value → Option Value → Option Value → Option Value → Slots
once_slots o₆ o₇ o₈ o₉ = None ∷ None ∷ None ∷ None ∷ None ∷ None ∷ o₆ ∷ o₇ ∷ o₈ ∷ o₉ ∷ []

abbrev pub once_of : ℕ → ℕ → ℕ → Option Value → Option Value → Option Value → Option Value → List ℤ
once_of k volume n o₆ o₇ o₈ o₉ = put_slots wire_table (once_slots o₆ o₇ o₈ o₉) (wire_start k volume n)

once-cells : (k volume n : ℕ) (o₆ o₇ o₈ o₉ : Option Value)
    → once_of k volume n o₆ o₇ o₈ o₉ ≡ once_cells k volume n (state_of o₆) (numbers_of o₆) (state_of o₇) (numbers_of o₇) (state_of o₈) (numbers_of o₈) (state_of o₉) (numbers_of o₉)
unfolding wire_table
once-cells k volume n o₆ o₇ o₈ o₉ = refl

pub once-long : (k volume n : ℕ) (o₆ o₇ o₈ o₉ : Option Value) → length (once_of k volume n o₆ o₇ o₈ o₉) ≡ 64
unfolding wire_table
once-long k volume n o₆ o₇ o₈ o₉ = refl

-- a row's numbers are all there, or none is
pub data Fill : ℕ → List ℤ → Type 0 where
  fill_none : (n : ℕ) → Fill n []
  fill_one : (a : ℤ) → Fill 1 (a ∷ [])
  fill-two : (a b : ℤ) → Fill 2 (a ∷ b ∷ [])
  fill-three : (a b c : ℤ) → Fill 3 (a ∷ b ∷ c ∷ [])
  fill-five : (a b c d e : ℤ) → Fill 5 (a ∷ b ∷ c ∷ d ∷ e ∷ [])

module _ (k volume n : ℕ) (g₀ g₁ g₂ : List (List Num)) (ts : List Slots) where
  abbrev once_scratch : Option Edge → ℤ → List ℤ → ℤ → List ℤ → ℤ → List ℤ → ℤ → List ℤ → List ℤ
  once_scratch o st₆ ns₆ st₇ ns₇ st₈ ns₈ st₉ ns₉ = scratch ts (once_cells k volume n st₆ ns₆ st₇ ns₇ st₈ ns₈ st₉ ns₉) o g₀ g₁ g₂

  -- the row's numbers and its state, in the two records
  abbrev entered : ℕ → ℕ → ℤ → List ℤ → List ℤ → List ℤ
  entered place state st ns t = take 32 t ++ set (sets (drop 32 t) place ns) state st

  row_6 : (o : Option Edge) (st : ℤ) (ns : List ℤ) (st₇ : ℤ) (ns₇ : List ℤ) (st₈ : ℤ) (ns₈ : List ℤ) (st₉ : ℤ) (ns₉ : List ℤ) → Fill 1 ns
      → entered 25 29 st ns (once_scratch o (pos 0) [] st₇ ns₇ st₈ ns₈ st₉ ns₉) ≡ once_scratch o st ns st₇ ns₇ st₈ ns₈ st₉ ns₉
  row_6 None st _ st₇ ns₇ st₈ ns₈ st₉ ns₉ (fill_none _) = refl
  row_6 (Some e) st _ st₇ ns₇ st₈ ns₈ st₉ ns₉ (fill_none _) = refl
  row_6 None st _ st₇ ns₇ st₈ ns₈ st₉ ns₉ (fill_one a) = refl
  row_6 (Some e) st _ st₇ ns₇ st₈ ns₈ st₉ ns₉ (fill_one a) = refl

  row_7 : (o : Option Edge) (st : ℤ) (ns : List ℤ) (st₆ : ℤ) (ns₆ : List ℤ) (st₈ : ℤ) (ns₈ : List ℤ) (st₉ : ℤ) (ns₉ : List ℤ) → Fill 2 ns
      → entered 48 59 st ns (once_scratch o st₆ ns₆ (pos 0) [] st₈ ns₈ st₉ ns₉) ≡ once_scratch o st₆ ns₆ st ns st₈ ns₈ st₉ ns₉
  row_7 None st _ st₆ ns₆ st₈ ns₈ st₉ ns₉ (fill_none _) = refl
  row_7 (Some e) st _ st₆ ns₆ st₈ ns₈ st₉ ns₉ (fill_none _) = refl
  row_7 None st _ st₆ ns₆ st₈ ns₈ st₉ ns₉ (fill-two a b) = refl
  row_7 (Some e) st _ st₆ ns₆ st₈ ns₈ st₉ ns₉ (fill-two a b) = refl

  row_8 : (o : Option Edge) (st : ℤ) (ns : List ℤ) (st₆ : ℤ) (ns₆ : List ℤ) (st₇ : ℤ) (ns₇ : List ℤ) (st₉ : ℤ) (ns₉ : List ℤ) → Fill 3 ns
      → entered 50 60 st ns (once_scratch o st₆ ns₆ st₇ ns₇ (pos 0) [] st₉ ns₉) ≡ once_scratch o st₆ ns₆ st₇ ns₇ st ns st₉ ns₉
  row_8 None st _ st₆ ns₆ st₇ ns₇ st₉ ns₉ (fill_none _) = refl
  row_8 (Some e) st _ st₆ ns₆ st₇ ns₇ st₉ ns₉ (fill_none _) = refl
  row_8 None st _ st₆ ns₆ st₇ ns₇ st₉ ns₉ (fill-three a b c) = refl
  row_8 (Some e) st _ st₆ ns₆ st₇ ns₇ st₉ ns₉ (fill-three a b c) = refl

  row_9 : (o : Option Edge) (st : ℤ) (ns : List ℤ) (st₆ : ℤ) (ns₆ : List ℤ) (st₇ : ℤ) (ns₇ : List ℤ) (st₈ : ℤ) (ns₈ : List ℤ) → Fill 5 ns
      → entered 53 61 st ns (once_scratch o st₆ ns₆ st₇ ns₇ st₈ ns₈ (pos 0) []) ≡ once_scratch o st₆ ns₆ st₇ ns₇ st₈ ns₈ st ns
  row_9 None st _ st₆ ns₆ st₇ ns₇ st₈ ns₈ (fill_none _) = refl
  row_9 (Some e) st _ st₆ ns₆ st₇ ns₇ st₈ ns₈ (fill_none _) = refl
  row_9 None st _ st₆ ns₆ st₇ ns₇ st₈ ns₈ (fill-five a b c d e) = refl
  row_9 (Some u) st _ st₆ ns₆ st₇ ns₇ st₈ ns₈ (fill-five a b c d e) = refl

-- by the values: a row that is free takes this one
module _ (k volume n : ℕ) (g₀ g₁ g₂ : List (List Num)) (ts : List Slots) (o : Option Edge) where
  abbrev pub once_read : Option Value → Option Value → Option Value → Option Value → List ℤ
  once_read o₆ o₇ o₈ o₉ = empty_record ++ former_numbers o (spelled g₀ g₁ g₂ ts (once_of k volume n o₆ o₇ o₈ o₉))

  pub length-put : (v : Value) (o₇ o₈ o₉ : Option Value) → Fill 1 (numbers v) → own_read 6 v (once_read None o₇ o₈ o₉) ≡ once_read (Some v) o₇ o₈ o₉
  unfolding table_of wire_table
  length-put v o₇ o₈ o₉ f = row_6 k volume n g₀ g₁ g₂ ts o (given v) (numbers v) (state_of o₇) (numbers_of o₇) (state_of o₈) (numbers_of o₈) (state_of o₉) (numbers_of o₉) f

  pub circuit-put : (v : Value) (o₆ o₈ o₉ : Option Value) → Fill 2 (numbers v) → own_read 7 v (once_read o₆ None o₈ o₉) ≡ once_read o₆ (Some v) o₈ o₉
  unfolding table_of wire_table
  circuit-put v o₆ o₈ o₉ f = row_7 k volume n g₀ g₁ g₂ ts o (given v) (numbers v) (state_of o₆) (numbers_of o₆) (state_of o₈) (numbers_of o₈) (state_of o₉) (numbers_of o₉) f

  pub power-put : (v : Value) (o₆ o₇ o₉ : Option Value) → Fill 3 (numbers v) → own_read 8 v (once_read o₆ o₇ None o₉) ≡ once_read o₆ o₇ (Some v) o₉
  unfolding table_of wire_table
  power-put v o₆ o₇ o₉ f = row_8 k volume n g₀ g₁ g₂ ts o (given v) (numbers v) (state_of o₆) (numbers_of o₆) (state_of o₇) (numbers_of o₇) (state_of o₉) (numbers_of o₉) f

  pub serial-put : (v : Value) (o₆ o₇ o₈ : Option Value) → Fill 5 (numbers v) → own_read 9 v (once_read o₆ o₇ o₈ None) ≡ once_read o₆ o₇ o₈ (Some v)
  unfolding table_of wire_table
  serial-put v o₆ o₇ o₈ f = row_9 k volume n g₀ g₁ g₂ ts o (given v) (numbers v) (state_of o₆) (numbers_of o₆) (state_of o₇) (numbers_of o₇) (state_of o₈) (numbers_of o₈) f

-- ── a text ──
pub text-begin : (g₀ g₁ g₂ : List (List Num)) (ts : List Slots) (b : List ℤ) (o : Option Edge)
    → own_read 5 (nums []) (scratch ts b o g₀ g₁ g₂) ≡ empty_record ++ former_numbers o (text_begun 1 (spelled g₀ g₁ g₂ ts b))
unfolding table_of wire_table
text-begin g₀ g₁ g₂ ts b None = refl
text-begin g₀ g₁ g₂ ts b (Some e) = refl

-- s: its slots
abbrev pub text_on : Slots → List ℤ
text_on s = put_slots wire_text_table s empty_record

pub text-put : (g₀ g₁ g₂ : List (List Num)) (ts : List Slots) (b : List ℤ) (o : Option Edge) (s : Slots)
    → shelved text_from text_shelf (text_on s ++ former_numbers o (text_begun 1 (spelled g₀ g₁ g₂ ts b))) ≡ scratch (ts ++ s ∷ []) b o g₀ g₁ g₂
unfolding text_table
text-put g₀ g₁ g₂ [] b None s = refl
text-put g₀ g₁ g₂ [] b (Some e) s = refl
text-put g₀ g₁ g₂ (u ∷ ts) b o s = more o ∙ ap (λ (m : ℕ). empty_record ++ former_numbers o (cells (length g₀) (shown_lines 2 4 g₀) (length g₁) (shown_lines 1 3 g₁) (length g₂) (shown_lines 1 5 g₂) (suc m) (text_numbers u) b)) (one-longer ts s)
  where
    shelved_text : Bool → List ℤ → List ℤ
    shelved_text c t = front_emptied (set (set (cond c (moved 4 (32 + 38 + suc (length ts) * 10) 10 t) t) 69 (pos (suc (suc (length ts))))) 90 (pos 2))

    more : (o : Option Edge) → shelved text_from text_shelf (text_on s ++ former_numbers o (text_begun 1 (spelled g₀ g₁ g₂ (u ∷ ts) b)))
        ≡ empty_record ++ former_numbers o (cells (length g₀) (shown_lines 2 4 g₀) (length g₁) (shown_lines 1 3 g₁) (length g₂) (shown_lines 1 5 g₂) (suc (suc (length ts))) (text_numbers u) b)
    more None = ap (λ (c : Bool). shelved_text c (text_on s ++ former_numbers None (text_begun 1 (spelled g₀ g₁ g₂ (u ∷ ts) b)))) (many-one (length ts))
    more (Some e) = ap (λ (c : Bool). shelved_text c (text_on s ++ former_numbers (Some e) (text_begun 1 (spelled g₀ g₁ g₂ (u ∷ ts) b)))) (many-one (length ts))

-- ── counts ──
pub counts-at : (g₀ g₁ g₂ : List (List Num)) (ts : List Slots) (b f : List ℤ) (o : Option Edge) → length f ≡ 32
    → (get_or (scratch ts b o g₀ g₁ g₂) 38 (pos 0) ≡ pos (length g₀)) × (get_or (scratch ts b o g₀ g₁ g₂) 47 (pos 0) ≡ pos (length g₁)) × (get_or (scratch ts b o g₀ g₁ g₂) 51 (pos 0) ≡ pos (length g₂))
    × (get_or (scratch ts b o g₀ g₁ g₂) 69 (pos 0) ≡ pos (length ts))
counts-at g₀ g₁ g₂ ts b f None e = (refl, refl, refl, refl)
counts-at g₀ g₁ g₂ ts b f (Some u) e = (refl, refl, refl, refl)

-- ── its end ──
pub close-counted : (k volume n range points : ℕ) (g₀ g₁ g₂ : List (List Num)) (ts : List Slots) (o₆ o₇ o₈ o₉ : Option Value) (o : Option Edge)
    → set (set (former_cleared (empty_record ++ former_numbers o (spelled g₀ g₁ g₂ ts (once_of k volume n o₆ o₇ o₈ o₉)))) 37 (pos points)) 62 (pos (range / 100))
    ≡ empty_record ++ wire_numbers range points (spelled g₀ g₁ g₂ ts (once_of k volume n o₆ o₇ o₈ o₉))
unfolding wire_table
close-counted k volume n range points g₀ g₁ g₂ ts o₆ o₇ o₈ o₉ None = refl
close-counted k volume n range points g₀ g₁ g₂ ts o₆ o₇ o₈ o₉ (Some e) = refl
