-- Lists of numbers of which no two are the same.
use Prim.Native.Nat.{ℕ}
use mathlib.Core.Bool.{Bool, true, false, ◌||◌}
use mathlib.Core.List.{List, [], ◌∷◌, ◌++◌, map, append-nil}
use mathlib.Core.Path.{◌≡◌, refl, sym}
use lib.Dec.{eqb}
use borrow.Author.Tests.{eqb-false, ne_eqb}
use Rattle.rules.specs.Base.{flat, has_number}
use Rattle.rules.proofs.Chains.{clash, map-append, flat_append}

abbrev pub Differ : List ℕ → Type 0
Differ [] = Unit {0}
Differ (n ∷ s) = (has_number n s ≡ false) × Differ s

pub or_false : (a b : Bool) → (a || b) ≡ false → (a ≡ false) × (b ≡ false)
or_false true b e = clash refl e
or_false false b e = (refl, e)

or-both : (a b : Bool) → a ≡ false → b ≡ false → (a || b) ≡ false
or-both true b p q = clash refl p
or-both false b p q = q

pub lacks-append : (n : ℕ) (a b : List ℕ) → has_number n (a ++ b) ≡ false → (has_number n a ≡ false) × (has_number n b ≡ false)
lacks-append n [] b e = (refl, e)
lacks-append n (m ∷ a) b e =
    let w = or_false (eqb n m) (has_number n (a ++ b)) e in
    let v = lacks-append n a b w.1 in
    (or-both (eqb n m) (has_number n a) w.0 v.0, v.1)

append_lacks : (n : ℕ) (a b : List ℕ) → has_number n a ≡ false → has_number n b ≡ false → has_number n (a ++ b) ≡ false
append_lacks n [] b p q = q
append_lacks n (m ∷ a) b p q = let w = or_false (eqb n m) (has_number n a) p in or-both (eqb n m) (has_number n (a ++ b)) w.0 (append_lacks n a b w.1 q)

-- the first of them, and those behind
pub differ-first : (a b : List ℕ) → Differ (a ++ b) → Differ a
differ-first [] b g = tt
differ-first (n ∷ a) b g = ((lacks-append n a b g.0).0, differ-first a b g.1)

pub differ-behind : (a b : List ℕ) → Differ (a ++ b) → Differ b
differ-behind [] b g = g
differ-behind (n ∷ a) b g = differ-behind a b g.1

-- one more, that is none of them
pub differ-more : (s : List ℕ) (n : ℕ) → Differ s → has_number n s ≡ false → Differ (s ++ n ∷ [])
differ-more [] n g e = (refl, tt)
differ-more (m ∷ s) n g e =
    let w = or_false (eqb n m) (has_number n s) e in
    let other : eqb m n ≡ false = ne_eqb m n (λ z. eqb-false n m w.0 (sym z)) in
    (append_lacks m s (n ∷ []) g.0 (rw other), differ-more s n g.1 w.1)

-- the numbers of a list with one more behind it
pub flat-more : {A : Type 0} (f : A → List ℕ) (s : List A) (a : A) → flat (map f (s ++ a ∷ [])) ≡ flat (map f s) ++ f a
flat-more f s a = rw (map-append f s (a ∷ []), flat_append (map f s) (f a ∷ []), append-nil (f a))
