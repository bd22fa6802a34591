-- Partners at the end of a set: the code tests them where the definitions do, and finds the same.
use Prim.Native.Nat.{ℕ}
use mathlib.Core.Bool.{Bool, true, false, ◌&&◌, ◌||◌, not}
use mathlib.Core.List.{List, [], ◌∷◌, map}
use mathlib.Core.Path.{◌≡◌, refl, sym, ◌∙◌, ap}
use lib.ListN.{length, take}
use Rattle.rules.specs.declared.Class.{Class}
use Rattle.rules.specs.Base.{all, flat, has_number}
use Rattle.rules.specs.Rows.{Held}
use Rattle.rules.specs.Sets.{Set, serials_of_volume}
use Rattle.rules.specs.VolumesAndTotals.{partners_exist}
use Rattle.rules.specs.Machine.{top, tests_partners}
use Rattle.account.specs.SerialNumbers.{owns_of, kept_in, partners_found, tests_for}
use Rattle.standing.specs.Standing.{Desk, closed_links, partners_of, Stands}
use Rattle.standing.proofs.LinkLaws.{closed-own, links-partners}
use Rattle.standing.proofs.SerialKept.{serials-count}

all_alike : (p q : ℕ → Bool) → ((n : ℕ) → p n ≡ q n) → (ns : List ℕ) → all p ns ≡ all q ns
all_alike p q e [] = refl
all_alike p q e (n ∷ ns) = ap (λ (t : Bool). t && all p ns) (e n) ∙ ap (λ (t : Bool). q n && t) (all_alike p q e ns)

either-not : (a b : Bool) → (not a || b) ≡ not (a && not b)
either-not true true = refl
either-not true false = refl
either-not false b = refl

module _ (c : Class) (spool : List ℕ) (k : ℕ) (d : Desk) (FileHere : Set → ℕ → Held → ℕ → Type 0) (at : ℕ) (s : Set) (m : ℕ) (z : Stands c spool k d FileHere at (top s m)) where
  abbrev ks : List ℕ
  ks = take (length (closed_links s)) d.serials

  -- where file and class know the serials of symbols and of wires
  tested : tests_for c d.tally ≡ tests_partners c s
  tested = ap (tests_for c) z.tally

  -- every partner is an own number
  found : partners_found spool (kept_in d.tally d.serials) ≡ partners_exist s
  found =
      let own : ℕ → Bool = λ n. has_number n (flat (map serials_of_volume s.volumes)) in
      ap (λ (i : ℕ). partners_found spool (take i d.serials)) (serials-count c spool k d FileHere at (top s m) z)
      ∙ z.serials.partners (λ n. has_number n (owns_of ks))
      ∙ all_alike (λ n. has_number n (owns_of ks)) own (λ n. z.serials.owns n ∙ ap (has_number n) (closed-own s)) (partners_of (closed_links s))
      ∙ ap (all own) (links-partners s)

  -- a partner is not found
  abbrev pub fails : Bool
  fails = tests_for c d.tally && not (partners_found spool (kept_in d.tally d.serials))

  pub fails-so : (not (tests_partners c s) || partners_exist s) ≡ not fails
  fails-so =
      either-not (tests_partners c s) (partners_exist s)
      ∙ ap (λ (t : Bool). not (t && not (partners_exist s))) (sym tested) ∙ ap (λ (t : Bool). not (tests_for c d.tally && not t)) (sym found)
