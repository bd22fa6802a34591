-- One step of each scan of a list by index: what the definition says of `drop i s`, in terms of `drop (i + 1) s`.
use Prim.Native.Nat.{ℕ, suc, ◌+◌, ◌-◌, ◌<◌, ◌≤◌}
use mathlib.Core.Path.{◌≡◌, refl, ap}
use mathlib.Core.List.{List, [], ◌∷◌}
use mathlib.Core.Bool.{Bool, true, false, cond, ◌&&◌, not}
use native.Mathlib.Numerals.{add-one}
use native.Mathlib.Nat.{le_of_eq}
use native.Mathlib.Omega.{arith}
use lib.Dec.{eqb, ltb}
use lib.ListN.{length, get_or, drop, take, drop_of_length-le, length-drop}
use lib.Seq.{drop-cons, take_all}
use borrow.Author.Tests.{eq-eqb, ne_eqb, ltb-false}
use Rattle.std.specs.Prelude.{Option, Some, None}
use Rattle.std.proofs.lemmas.List.Sums.{prefix_len-le-length}
use Rattle.std.specs.Cmp.Lexicographic.{pointwise}
use Rattle.std.specs.List.{list_all, position, position_or_len}
use Rattle.std.specs.Option.{unwrap_or}
use Rattle.rules.specs.Base.{all, same}
use Rattle.rules.specs.Values.{any_bytes, byte_in}
use Rattle.rules.proofs.Chains.{and_false}
use Rattle.leaves.specs.Bytes.{bytes_of, up_to}

-- the step itself: the list from i on is the byte at i and the list from i + 1 on
pub at : (s : List ℕ) (i : ℕ) → i < length s → drop i s ≡ get_or s i 0 ∷ drop (i + 1) s
at s i h = rw (add-one, drop-cons s i 0)

-- the part `&s[n..]` is the rest of the list
pub rest_all : (n : ℕ) (s : List ℕ) → take (length s - n) (drop n s) ≡ drop n s
rest_all n s = take_all _ _ (le_of_eq (length-drop n s))

-- ── up to a byte ──
module _ (c : ℕ) (s : List ℕ) (i : ℕ) where
  pub up_to_hit : i < length s → get_or s i 0 ≡ c → up_to c (drop i s) ≡ []
  unfolding up_to
  up_to_hit h e = rw (at s i h, eq-eqb _ _ e)

  pub up_to_miss : i < length s → (get_or s i 0 ≡ c → ⊥) → up_to c (drop i s) ≡ get_or s i 0 ∷ up_to c (drop (i + 1) s)
  unfolding up_to
  up_to_miss h e = rw (at s i h, ne_eqb _ _ e)

  pub up_to-end : length s ≤ i → up_to c (drop i s) ≡ []
  unfolding up_to
  up_to-end h = rw (drop_of_length-le s h)

-- ── the first place that passes, or the length ──
pub first_place : (p : ℕ → Bool) (s : List ℕ) (o : Option ℕ) (n : ℕ) → o ≡ position p s → n ≡ length s → unwrap_or o n ≡ position_or_len p s
first_place p s o n f l = rw (f, l) (go (ltb (position_or_len p s) (length s)) refl)
  where
    go : (t : Bool) → ltb (position_or_len p s) (length s) ≡ t → unwrap_or (cond t (Some (position_or_len p s)) None) (length s) ≡ position_or_len p s
    go true q = refl
    go false q = omega (arith, ltb-false (position_or_len p s) (length s) q, prefix_len-le-length (λ x. not (p x)) s)

pub up_to_place : (c : ℕ) (s : List ℕ) → position_or_len (λ x. eqb x c) s ≡ length (up_to c s)
unfolding up_to
up_to_place c [] = refl
up_to_place c (b ∷ s) = elim (eqb b c) as (λ t. cond (not t) (1 + position_or_len (λ x. eqb x c) s) 0 ≡ length (cond t [] (b ∷ up_to c s))) [ true ↦ refl | false ↦ omega (arith, up_to_place c s) ]

-- ── two lists side by side ──
module _ (a b : List ℕ) (i : ℕ) where
  pub same_step : i < length a → i < length b → get_or a i 0 ≡ get_or b i 0 → same (drop i a) (drop i b) ≡ same (drop (i + 1) a) (drop (i + 1) b)
  same_step h k e = rw (at a i h, at b i k, eq-eqb _ _ e)

  pub same_not : i < length a → i < length b → (get_or a i 0 ≡ get_or b i 0 → ⊥) → same (drop i a) (drop i b) ≡ false
  same_not h k e = rw (at a i h, at b i k, ne_eqb _ _ e)

  pub same_end : length a ≤ i → length b ≤ i → same (drop i a) (drop i b) ≡ true
  same_end h k = rw (drop_of_length-le a h, drop_of_length-le b k)

pub same-long : (a b : List ℕ) → (length a ≡ length b → ⊥) → same a b ≡ false
same-long [] [] h = absurd (h refl)
same-long [] (y ∷ ys) h = refl
same-long (x ∷ xs) [] h = refl
same-long (x ∷ xs) (y ∷ ys) h = rw (same-long xs ys (λ e. h (ap suc e))) (and_false (eqb x y))

-- `==` on two slices
pub same_is : (a b : List ℕ) → pointwise eqb a b ≡ same a b
same_is [] [] = refl
same_is [] (y ∷ b) = refl
same_is (x ∷ a) [] = refl
same_is (x ∷ a) (y ∷ b) = ap (λ (t : Bool). eqb x y && t) (same_is a b)

-- ── every byte of a kind ──
pub all_is : (p : ℕ → Bool) (s : List ℕ) → list_all p s ≡ all p s
all_is p [] = refl
all_is p (b ∷ s) = ap (λ (t : Bool). p b && t) (all_is p s)

-- a number of no set
pub all_any : (n : ℕ) (s : List ℕ) → (n ≡ 1 → ⊥) → (n ≡ 2 → ⊥) → (n ≡ 3 → ⊥) → (n ≡ 4 → ⊥) → true ≡ all (byte_in (bytes_of n)) s
all_any n s h₁ h₂ h₃ h₄ = rw (ne_eqb n 1 h₁, ne_eqb n 2 h₂, ne_eqb n 3 h₃, ne_eqb n 4 h₄) (go s)
  where
    go : (s : List ℕ) → true ≡ all (byte_in any_bytes) s
    go [] = refl
    go (b ∷ s) = go s

-- ── a layer's id, by its five bytes ──
pub and_truth : (b : Bool) → (b && true) ≡ b
and_truth true = refl
and_truth false = refl
