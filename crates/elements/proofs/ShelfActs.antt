-- The keys of a wire that repeat: what the tests tell of a line, numbers put to another place, one more on a shelf.
use Prim.Native.Nat.{ℕ, suc, ◌+◌, ◌*◌, ◌≤◌, ◌<◌}
use mathlib.Core.Bool.{Bool, true, false, cond}
use mathlib.Core.List.{List, ◌++◌}
use mathlib.Core.Path.{◌≡◌, refl, sym, ◌∙◌, ap}
use native.Mathlib.Nat.{mul-le-mul_right}
use native.Mathlib.Omega.{arith}
use lib.Dec.{ltb}
use lib.IntN.{ℤ, pos}
use lib.ListN.{length, set, take, drop, replicate, length-append, length-replicate, length-set, length-drop}
use lib.Seq.{paste, length-sets, length-take-le, sets-eq}
use borrow.Author.Tests.{lt-ltb}
use Rattle.rules.specs.RecordTable.{Shelf, shelf}
use Rattle.account.specs.Records.{with_part}
use Rattle.account.specs.WireLines.{count_at, moved, shown_more, shelved, shelved_by}
use Rattle.account.proofs.Lent.{lent-part}

-- ── numbers put to another place, behind them ──
module _ (from to : ℕ) (t : List ℤ) where
  abbrev pub copied : ℕ → List ℤ
  copied i = paste t to (drop from t) i

  module _ (i : ℕ) (h : from + i ≤ to) (k : to + i ≤ length t) where
    pub copied_all : copied i ≡ moved from to i t
    copied_all =
        let vs : List ℤ = take i (drop from t) in
        let e : length vs ≡ i = length-take-le i (drop from t) (omega (arith, h, k, length-drop from t)) in
        sym (sets-eq vs t to (omega (arith, e, k)) ∙ ap (λ (m : ℕ). take to t ++ vs ++ drop (to + m) t) e)

-- ── one more on a shelf ──
-- its places lie within the shelf
pub room_within : (place wide shown n : ℕ) → n < shown → 32 + place + 1 + shown * wide ≤ 96 → 32 + place + 1 + n * wide + wide ≤ 96
room_within place wide shown n h k =
    let l : suc n * wide ≤ shown * wide = mul-le-mul_right wide h in
    let e : suc n * wide ≡ n * wide + wide = omega arith in
    omega (arith, l, e, k)

module _ (from place wide shown n : ℕ) (t : List ℤ) where
  abbrev room : ℕ
  room = 32 + suc place + n * wide

  pub shown-more : (u : List ℤ) → n < shown → u ≡ moved from (32 + place + 1 + n * wide) wide t → u ≡ shown_more from (shelf place 0 wide shown) n t
  shown-more u h e =
      e ∙ ap (λ (to : ℕ). moved from to wide t) (omega arith) ∙ sym (ap (λ (b : Bool). cond b (moved from room wide t) t) (lt-ltb n shown h))

-- the scratch keeps its length
pub shown-long : (from : ℕ) (h : Shelf) (n : ℕ) (t : List ℤ) → length (shown_more from h n t) ≡ length t
shown-long from h n t = go (ltb n h.shown)
  where
    to : ℕ
    to = 32 + suc h.place + n * h.wide

    go : (b : Bool) → length (cond b (moved from to h.wide t) t) ≡ length t
    go true = length-sets t to (take h.wide (drop from t))
    go false = refl

module _ (from place state wide shown : ℕ) (t : List ℤ) where
  abbrev h : Shelf
  h = shelf place state wide shown

  -- as the code puts it: what was shown, the count, the state, and the front
  pub shelf-put : (n : ℕ) (u v : List ℤ) (z : ℤ) → n ≡ count_at (32 + place) t → u ≡ shown_more from (shelf place 0 wide shown) n t → z ≡ pos (n + 1)
      → v ≡ replicate (length (take 32 (set (set u (32 + place) z) (32 + state) (pos 2)))) (pos 0) → length u ≡ 96
      → take 0 (set (set u (32 + place) z) (32 + state) (pos 2)) ++ (v ++ drop 32 (drop 0 (set (set u (32 + place) z) (32 + state) (pos 2)))) ≡ shelved from h t
  shelf-put n u v z e p q r l =
      let w : List ℤ = set (set u (32 + place) z) (32 + state) (pos 2) in
      let long : length w ≡ 96 = length-set (set u (32 + place) z) (32 + state) (pos 2) ∙ length-set u (32 + place) z ∙ l in
      let front : v ≡ replicate 32 (pos 0) = r ∙ ap (λ (m : ℕ). replicate m (pos 0)) (length-take-le 32 w (omega (arith, long))) in
      let same : w ≡ set (set (shown_more from h n t) (32 + place) (pos (suc n))) (32 + state) (pos 2) =
      ap (λ (y : List ℤ). set (set y (32 + place) z) (32 + state) (pos 2)) p
      ∙ ap (λ (y : ℤ). set (set (shown_more from h n t) (32 + place) y) (32 + state) (pos 2)) (q ∙ ap pos (omega arith)) in
      lent-part 0 32 w v refl
      ∙ ap (λ (y : List ℤ). with_part 0 y w) front
      ∙ ap (with_part 0 (replicate 32 (pos 0))) same
      ∙ ap (λ (m : ℕ). shelved_by from h m t) e

-- as long as it was
pub long_enough : (u : List ℤ) (p q : ℕ) (a b : ℤ) → length u ≡ 96 → 32 ≤ length (set (set u p a) q b)
long_enough u p q a b h = omega (arith, length-set (set u p a) q b ∙ length-set u p a ∙ h)

pub cleared-long : (u v : List ℤ) (p q : ℕ) (a b : ℤ) (n : ℕ) → v ≡ replicate (length (take 32 (set (set u p a) q b))) (pos 0) → length u ≡ 96 → n ≡ 96
    → length (take 0 (set (set u p a) q b) ++ (v ++ drop 32 (drop 0 (set (set u p a) q b)))) ≡ n
cleared-long u v p q a b n e h k =
    let w : List ℤ = set (set u p a) q b in
    let long : length w ≡ 96 = length-set (set u p a) q b ∙ length-set u p a ∙ h in
    let front : length v ≡ 32 = ap length e ∙ length-replicate (length (take 32 w)) (pos 0) ∙ length-take-le 32 w (omega (arith, long)) in
    ap length (lent-part 0 32 w v refl) ∙ omega (arith, length-append v (drop 32 w), length-drop 32 w, long, front, k)
