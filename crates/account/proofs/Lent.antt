-- A part of the scratch that was lent: what is put there, seen in the whole.
use Prim.Native.Nat.{ℕ}
use mathlib.Core.List.{List, ◌++◌}
use mathlib.Core.Path.{◌≡◌, sym, ◌∙◌, ap}
use lib.IntN.{ℤ}
use lib.ListN.{take, drop, take-append-drop}
use lib.Seq.{drop-drop}
use Rattle.account.specs.Records.{part_at, with_part}

-- the same part put back
pub with-same : (n : ℕ) (t : List ℤ) → with_part n (part_at n t) t ≡ t
with-same n t =
    ap (λ (u : List ℤ). take n t ++ (take 32 (drop n t) ++ u)) (sym (drop-drop 32 n t))
    ∙ ap (λ (u : List ℤ). take n t ++ u) (take-append-drop 32 (drop n t))
    ∙ take-append-drop n t

-- as the code lends it: the part's length is found by its ends
pub lent-part : (n k : ℕ) (t₀ u : List ℤ) → k ≡ 32 → take n t₀ ++ (u ++ drop k (drop n t₀)) ≡ with_part n u t₀
lent-part n k t₀ u e = ap (λ (m : ℕ). take n t₀ ++ (u ++ drop m (drop n t₀))) e ∙ ap (λ (x : List ℤ). take n t₀ ++ (u ++ x)) (drop-drop 32 n t₀)
