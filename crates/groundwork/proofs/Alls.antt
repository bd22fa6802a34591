-- `all` and `split` of the rules and those of std, which are of one shape, and all of many lists.
use mathlib.Core.List.{List, [], ◌∷◌, map}
use Prim.Native.Nat.{ℕ}
use mathlib.Core.Bool.{Bool, cond, ◌&&◌}
use mathlib.Core.Path.{◌≡◌, refl, ap, ◌∙◌}
use lib.Dec.{eqb}
use Rattle.std.specs.List.{list_all, slice_split, onto_first}
use Rattle.rules.specs.Base.{all, flat, head_onto, split}
use Rattle.rules.proofs.Chains.{all_append}

pub all_is : {A : Type 0} (p : A → Bool) (xs : List A) → all p xs ≡ list_all p xs
all_is p [] = refl
all_is p (x ∷ xs) = ap (λ (b : Bool). p x && b) (all_is p xs)

pub all_flat : {A B : Type 0} (p : B → Bool) (f : A → List B) (xs : List A) → all p (flat (map f xs)) ≡ list_all (λ x. all p (f x)) xs
all_flat p f [] = refl
all_flat p f (x ∷ xs) = all_append p (f x) (flat (map f xs)) ∙ ap (λ (b : Bool). all p (f x) && b) (all_flat p f xs)

onto_is : (b : ℕ) (ps : List (List ℕ)) → head_onto b ps ≡ onto_first b ps
onto_is b [] = refl
onto_is b (p ∷ ps) = refl

pub split_is : (c : ℕ) (s : List ℕ) → split c s ≡ slice_split (λ b. eqb b c) s
split_is c [] = refl
split_is c (b ∷ bs) = ap (λ (ps : List (List ℕ)). cond (eqb b c) ([] ∷ ps) (head_onto b ps)) (split_is c bs) ∙ ap (λ (ps : List (List ℕ)). cond (eqb b c) ([] ∷ slice_split (λ b. eqb b c) bs) ps) (onto_is b (slice_split (λ b. eqb b c) bs))
