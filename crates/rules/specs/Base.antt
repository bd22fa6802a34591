-- Small tools: choice, bytes of a text, tests on byte lists, cutting and joining.
use Rattle.std.specs.Prelude.{ℕ, suc, ◌+◌, Bool, true, false, cond, ◌&&◌, ◌||◌, not, List, [], ◌∷◌, ◌++◌, eqb, leb, Option, Some, None}
use Prim.Native.Char.{code}
use Prim.Native.String as S

-- `cond`, where only the branch taken is to be computed (recursive calls)
abbrev pub choose : {A : Type 0} → Bool → (Unit {0} → A) → (Unit {0} → A) → A
choose true f g = f tt
choose false f g = g tt

-- the bytes of an ASCII text
abbrev pub bytes : S.String → List ℕ
bytes S.[] = []
bytes (S.◌∷◌ c s) = code c ∷ bytes s

abbrev pub map_o : {A B : Type 0} → (A → B) → Option A → Option B
map_o f None = None
map_o f (Some a) = Some (f a)

abbrev pub is_none : {A : Type 0} → Option A → Bool
is_none None = true
is_none (Some a) = false

abbrev pub is_some : {A : Type 0} → Option A → Bool
is_some o = not (is_none o)

abbrev pub is_nil : {A : Type 0} → List A → Bool
is_nil [] = true
is_nil (a ∷ s) = false

abbrev pub all : {A : Type 0} → (A → Bool) → List A → Bool
all p [] = true
all p (a ∷ u) = p a && all p u

abbrev pub total : {A : Type 0} → (A → ℕ) → List A → ℕ
total f [] = 0
total f (a ∷ u) = f a + total f u

-- the lists one after the other
abbrev pub flat : {A : Type 0} → List (List A) → List A
flat [] = []
flat (u ∷ us) = u ++ flat us

-- two byte strings are the same
abbrev pub same : List ℕ → List ℕ → Bool
same [] [] = true
same [] (b ∷ bs) = false
same (a ∷ u) [] = false
same (a ∷ u) (b ∷ bs) = eqb a b && same u bs

-- the place of a byte string among others, the first where it stands
abbrev pub index_of : List ℕ → List (List ℕ) → Option ℕ
index_of k [] = None
index_of k (u ∷ us) = cond (same k u) (Some 0) (map_o suc (index_of k us))

-- a byte string is one of these
abbrev pub among : List ℕ → List (List ℕ) → Bool
among k us = is_some (index_of k us)

-- no byte string stands twice
abbrev pub distinct : List (List ℕ) → Bool
distinct [] = true
distinct (u ∷ us) = not (among u us) && distinct us

abbrev pub has_number : ℕ → List ℕ → Bool
has_number n [] = false
has_number n (m ∷ ms) = eqb n m || has_number n ms

-- lo to hi
abbrev pub within : ℕ → ℕ → ℕ → Bool
within lo hi n = leb lo n && leb n hi

-- a list cut at the first c
pub data Cut : Type 0 where
  whole : Cut
  parts : List ℕ → List ℕ → Cut

abbrev pub onto : ℕ → Cut → Cut
onto b whole = whole
onto b (parts u v) = parts (b ∷ u) v

abbrev pub cut : ℕ → List ℕ → Cut
cut c [] = whole
cut c (b ∷ bs) = cond (eqb b c) (parts [] bs) (onto b (cut c bs))

-- the pieces between the c's
abbrev pub head_onto : ℕ → List (List ℕ) → List (List ℕ)
head_onto b [] = (b ∷ []) ∷ []
head_onto b (p ∷ ps) = (b ∷ p) ∷ ps

abbrev pub split : ℕ → List ℕ → List (List ℕ)
split c [] = [] ∷ []
split c (b ∷ bs) = cond (eqb b c) ([] ∷ split c bs) (head_onto b (split c bs))

abbrev pub join : ℕ → List (List ℕ) → List ℕ
join c [] = []
join c (p ∷ []) = p
join c (p ∷ q ∷ ps) = p ++ c ∷ join c (q ∷ ps)
