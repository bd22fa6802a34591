-- A search among the own numbers that are kept: where it says that one stands, it does, and otherwise its place is the one that is told.
use Prim.Native.Nat.{ℕ, ◌<◌, ◌≤◌}
use mathlib.Core.Bool.{Bool, true, false}
use mathlib.Core.List.{List}
use mathlib.Core.Path.{◌≡◌, refl, sym, ◌∙◌}
use native.Mathlib.Omega.{arith}
use borrow.Author.Tests.{eq-eqb, ne_eqb, ltb-true, ltb-false, tests}
use lib.Dec.{ltb}
use lib.ListN.{length, get_or}
use Rattle.std.proofs.Common.{Result, Ok, Err, MatchResult}
use Rattle.std.specs.Ordering.{ordering_index, nat_cmp}
use Rattle.std.proofs.lemmas.Cmp.{ranked}
use Rattle.std.specs.List.Sorted.{IsBinarySearchResult, IsSearchInRange}
use Rattle.std.proofs.lemmas.List.{get_or_default}
use Rattle.rules.specs.Base.{has_number}
use Rattle.account.specs.SerialNumbers.{own_of, owns_of, ascending, place_for}
use Rattle.account.proofs.NumberLaws.{place-length, place-past, place_upto, has-none, has-at}

module _ (own : ℕ) (ks : List ℕ) (a : ascending ks ≡ true) where
  abbrev p : ℕ
  p = place_for own ks

  abbrev o : ℕ → ℕ
  o i = own_of (get_or ks i 0)

  rise : (i j : ℕ) → i ≤ j → j < length ks → o i ≤ o j
  rise i j le l =
      let past : o j < o i → j < place_for (o i) ks = place-past (o i) ks j a l in
      grind (arith, past, place_upto (o i) ks i (omega (arith, le, l)) (omega arith))

  at_least : p < length ks → own ≤ o p
  at_least l = let past : o p < own → p < p = place-past own ks p a l in grind (arith, past)

  here : p < length ks → o p ≡ own → has_number own (owns_of ks) ≡ true
  here l e = has-at own ks a l ∙ eq-eqb own (o p) (sym e)

  away : (p < length ks → own < o p) → has_number own (owns_of ks) ≡ false
  away h = go (ltb p (length ks)) refl
    where
      go : (t : Bool) → ltb p (length ks) ≡ t → has_number own (owns_of ks) ≡ false
      go true e = let l = ltb-true p (length ks) e in has-at own ks a l ∙ ne_eqb own (o p) (λ q. omega (arith, h l, q))
      go false e = has-none own ks (ltb-false p (length ks) e)

  higher : (m n : ℕ) → m ≤ n → ordering_index (nat_cmp m own) ≤ ordering_index (nat_cmp n own)
  higher m n le = grind (arith, tests)

  pub searched : (r : Result ℕ ℕ) → IsSearchInRange r (length ks) → IsBinarySearchResult (λ k. nat_cmp (own_of k) own) ks r
      → MatchResult r (λ i. has_number own (owns_of ks) ≡ true) (λ i. (i ≤ length ks) × (i ≡ place_for own ks) × (has_number own (owns_of ks) ≡ false))
  searched (Ok i) l h =
      let e : o i ≡ own = ranked (o i) own _ (sym (h 0)) in
      let le : p ≤ i = place_upto own ks i l (omega arith) in
      here (omega arith) (omega (arith, at_least (omega arith), rise p i le l))
  searched (Err i) l h =
      let parted = h (λ m n d le l. higher (own_of (get_or ks m d)) (own_of (get_or ks n d)) (omega (arith, rise m n le l, get_or_default ks m d 0 (omega arith), get_or_default ks n d 0 l))) in
      let below : p < i → o p < own = λ g. ranked (o p) own _ (sym (parted.0 p 0 (omega arith) g)) in
      let above : (k : ℕ) → i ≤ k → k < length ks → own < o k = λ k g u. ranked (o k) own _ (sym (parted.1 k 0 g u)) in
      let low : i ≤ p = let f : p < i → p < p = λ g. place-past own ks p a (omega (arith, g, l)) (below g) in grind (arith, f) in
      let up : p ≤ i = let f : i < p → p ≤ i = λ g. let u : i < length ks = omega (arith, g, place-length own ks) in let f = above i (omega arith) u in place_upto own ks i u (omega (arith, f)) in grind (arith, f) in
      (l, omega arith, away (λ u. above p low u))
