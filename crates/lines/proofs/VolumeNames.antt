-- Laws of volumes' names: a scan's step by place, and what a good name is, as the code tests it.
use Rattle.std.specs.Prelude.{Option, Some, None}
use Rattle.std.specs.List.{list_all, prefix_len}
use Prim.Native.Nat.{ℕ, zero, suc, ◌+◌, ◌-◌, ◌<◌, ◌≤◌, zero-le}
use mathlib.Core.Path.{◌≡◌, refl, ap, sym, ◌∙◌}
use mathlib.Core.Bool.{Bool, true, false, cond, ◌&&◌, not}
use mathlib.Core.List.{List, [], ◌∷◌, ◌++◌, map}
use native.Mathlib.Omega.{arith}
use lib.Dec.{eqb, leb}
use lib.ListN.{length, get_or, take, drop, replicate, drop_of_length-le}
use lib.Seq.{length-take-le}
use borrow.Author.Tests.{eq-eqb, le-leb, lt-leb, eqb-true}
use Rattle.leaves.specs.Bytes.{up_to}
use Rattle.leaves.proofs.Cuts.{up_to-le, up_to-take}
use Rattle.rules.proofs.Chains.{and_false, clash}
use Rattle.rules.specs.Base.{all, is_nil, is_some, map_o, same, index_of, among, distinct}
use Rattle.rules.specs.Spool.{name_byte, name_of, padded_name, good_name}
use Rattle.lines.specs.VolumeNames.{letters, all_spaces, raw_name, name_at}
use Rattle.leaves.proofs.Scan.{at}

-- ── the chains of the code ──
pub letters-prefix : (s : List ℕ) → prefix_len name_byte s ≡ letters s
unfolding letters
letters-prefix [] = refl
letters-prefix (b ∷ s) = let e : 1 + prefix_len name_byte s ≡ suc (letters s) = omega (arith, letters-prefix s) in ap (λ n. cond (name_byte b) n 0) e

pub spaces-all : (s : List ℕ) → list_all (λ b. eqb b 32) s ≡ all_spaces s
unfolding all_spaces
spaces-all [] = refl
spaces-all (b ∷ s) = ap (λ t. eqb b 32 && t) (spaces-all s)

-- ── a good name ──
pub letters-le : (s : List ℕ) → letters s ≤ length s
unfolding letters
letters-le [] = zero-le
letters-le (b ∷ s) = elim (name_byte b) as (λ t. cond t (suc (letters s)) 0 ≤ suc (length s)) [ true ↦ omega (arith, letters-le s) | false ↦ zero-le ]

padding : (m : ℕ) (s : List ℕ) → length s ≤ m → same s (take (length s) (replicate m 32)) ≡ all_spaces s
unfolding all_spaces
padding m [] h = refl
padding zero (b ∷ s) h = absurd (omega arith)
padding (suc m) (b ∷ s) h = ap (λ t. eqb b 32 && t) (padding m s (omega arith))

-- name bytes and then only spaces
abbrev shaped : ℕ → List ℕ → Bool
shaped m s = all name_byte (name_of s) && same s (take (length s) (name_of s ++ replicate m 32))

space_no-name : (b : ℕ) → eqb b 32 ≡ true → name_byte b ≡ false
space_no-name b e = rw (eqb-true b 32 e)

shaped-is : (m : ℕ) (s : List ℕ) → length s ≤ m → shaped m s ≡ all_spaces (drop (letters s) s)
unfolding letters all_spaces
shaped-is m [] h = refl
shaped-is m (b ∷ s) h = go (eqb b 32) (name_byte b) refl refl (shaped-is m s (omega arith))
  where
    go : (t u : Bool) → eqb b 32 ≡ t → name_byte b ≡ u → shaped m s ≡ all_spaces (drop (letters s) s)
        → (all name_byte (cond t [] (b ∷ name_of s)) && same (b ∷ s) (take (suc (length s)) (cond t [] (b ∷ name_of s) ++ replicate m 32)))
        ≡ all_spaces (drop (cond u (suc (letters s)) 0) (b ∷ s))
    go true true p q ih = clash q (space_no-name b p)
    go true false p q ih = padding m (b ∷ s) h
    go false true p q ih = rw (q, eq-eqb b b refl) ih
    go false false p q ih = rw (q, p)

pub name-none : (s : List ℕ) → length s ≡ 8 → letters s ≡ 0 → good_name s ≡ false
unfolding letters
name-none [] h e = refl
name-none (b ∷ s) h e = go (eqb b 32) (name_byte b) refl e
  where
    go : (t u : Bool) → name_byte b ≡ u → cond u (suc (letters s)) 0 ≡ 0
        → ((not (is_nil (cond t [] (b ∷ name_of s))) && all name_byte (cond t [] (b ∷ name_of s))) && same (b ∷ s) (padded_name (cond t [] (b ∷ name_of s)))) ≡ false
    go t true q e = absurd (omega arith)
    go true false q e = refl
    go false false q e = rw q

named : (s : List ℕ) → (letters s ≡ 0 → ⊥) → is_nil (name_of s) ≡ false
unfolding letters
named [] e = absurd (e refl)
named (b ∷ s) e = go (eqb b 32) (name_byte b) refl refl e
  where
    go : (t u : Bool) → eqb b 32 ≡ t → name_byte b ≡ u → (cond u (suc (letters s)) 0 ≡ 0 → ⊥) → is_nil (cond t [] (b ∷ name_of s)) ≡ false
    go true true p q e = clash q (space_no-name b p)
    go t false p q e = absurd (e refl)
    go false true p q e = refl

pub name-some : (s : List ℕ) → length s ≡ 8 → (letters s ≡ 0 → ⊥) → good_name s ≡ all_spaces (drop (letters s) s)
name-some s h e =
    rw (named s e) (ap (λ k. all name_byte (name_of s) && same s (take k (name_of s ++ replicate 8 32))) (sym h) ∙ shaped-is 8 s (omega arith))

-- ── names that stand again ──
among_hit : (k u : List ℕ) (us : List (List ℕ)) → same k u ≡ true → among k (u ∷ us) ≡ true
among_hit k u us e = rw e

among_miss : (k u : List ℕ) (us : List (List ℕ)) → same k u ≡ false → among k (u ∷ us) ≡ among k us
among_miss k u us e = rw e (go (index_of k us))
  where
    go : (o : Option ℕ) → is_some (map_o suc o) ≡ is_some o
    go None = refl
    go (Some n) = refl

module _ (f : ℕ → List ℕ) (ps : List ℕ) (i : ℕ) where
  pub again_hit : (k : List ℕ) → i < length ps → same k (f (get_or ps i 0)) ≡ true → among k (map f (drop i ps)) ≡ true
  again_hit k h e = rw (at ps i h) (among_hit k (f (get_or ps i 0)) (map f (drop (i + 1) ps)) e)

  pub again_miss : (k : List ℕ) → i < length ps → same k (f (get_or ps i 0)) ≡ false → among k (map f (drop i ps)) ≡ among k (map f (drop (i + 1) ps))
  again_miss k h e = rw (at ps i h) (among_miss k (f (get_or ps i 0)) (map f (drop (i + 1) ps)) e)

  pub again-end : (k : List ℕ) → length ps ≤ i → among k (map f (drop i ps)) ≡ false
  again-end k h = rw (drop_of_length-le ps h)

  pub differ-stop : i < length ps → among (f (get_or ps i 0)) (map f (drop (i + 1) ps)) ≡ true → distinct (map f (drop i ps)) ≡ false
  differ-stop h e = rw (at ps i h, e)

  pub differ-more : i < length ps → among (f (get_or ps i 0)) (map f (drop (i + 1) ps)) ≡ false → distinct (map f (drop i ps)) ≡ distinct (map f (drop (i + 1) ps))
  differ-more h e = rw (at ps i h, e)

  pub differ-end : length ps ≤ i → distinct (map f (drop i ps)) ≡ true
  differ-end h = rw (drop_of_length-le ps h)

pub raw-name : (s : List ℕ) (p : ℕ) → take (p - 10 + 8 - (p - 10)) (drop (p - 10) s) ≡ raw_name s p
unfolding raw_name
raw-name s p = let e : p - 10 + 8 - (p - 10) ≡ 8 = omega arith in ap (λ k. take k (drop (p - 10) s)) e

-- ── a name without its spaces ──
pub name-up : (s : List ℕ) → name_of s ≡ up_to 32 s
unfolding up_to
name-up [] = refl
name-up (b ∷ s) = ap (λ u. cond (eqb b 32) [] (b ∷ u)) (name-up s)

module _ (s : List ℕ) (p : ℕ) where
  pub name-low : p < 12 → name_at s p ≡ []
  unfolding name_at
  name-low h = rw (lt-leb 12 p h)

  pub name-high : length s < p → name_at s p ≡ []
  unfolding name_at
  name-high h = rw (lt-leb p (length s) h, and_false (leb 12 p))

  pub name-here : 12 ≤ p → p ≤ length s → name_at s p ≡ name_of (raw_name s p)
  unfolding name_at
  name-here h k = rw (le-leb 12 p h, le-leb p (length s) k)

  -- the eight bytes as the code cuts them, and k bytes before the first space in them
  module _ (k : ℕ) (z : k ≡ length (up_to 32 (take (p - 10 + 8 - (p - 10)) (drop (p - 10) s)))) where
    eight : p - 10 + 8 - (p - 10) ≡ 8
    eight = omega arith

    pub name-short : k ≤ length (take (p - 10 + 8 - (p - 10)) (drop (p - 10) s))
    name-short = omega (arith, z, up_to-le 32 (take (p - 10 + 8 - (p - 10)) (drop (p - 10) s)))

    pub name-whole : k ≡ length (take k (take (p - 10 + 8 - (p - 10)) (drop (p - 10) s)))
    name-whole = sym (length-take-le k _ name-short)

    pub name-part : 12 ≤ p → p ≤ length s → take k (take (p - 10 + 8 - (p - 10)) (drop (p - 10) s)) ≡ name_at s p
    unfolding raw_name
    name-part h j =
        let r = take (p - 10 + 8 - (p - 10)) (drop (p - 10) s) in
        ap (λ i. take i r) z ∙ up_to-take 32 r ∙ sym (name-up r) ∙ ap (λ i. name_of (take i (drop (p - 10) s))) eight ∙ sym (name-here h j)
