-- What stands before a place of a list is left by what is put at it and behind it; and how long the list stays.
use Prim.Native.Nat.{ℕ, zero, suc, ◌+◌, ◌≤◌}
use mathlib.Core.List.{List, [], ◌∷◌, ◌++◌}
use mathlib.Core.Path.{◌≡◌, refl, sym, ◌∙◌, ap}
use native.Mathlib.Omega.{arith}
use lib.IntN.{ℤ}
use lib.ListN.{length, set, take, drop, length-take, length-drop, length-append}
use lib.Seq.{sets, take-nil, drop-nil, take-set-le, take-append-le, length-take-le, take-take}
use Rattle.account.specs.Records.{part_at, with_part}

-- a part in the middle, by what stands before its end
part_of-fore : (a b c : ℕ) (l : List ℤ) → c ≡ a + b → drop a (take c l) ≡ take b (drop a l)
part_of-fore zero b c l e = let q : c ≡ b = omega (arith, e) in ap (λ (n : ℕ). take n l) q
part_of-fore (suc a) b c [] e = ap (drop (suc a)) (take-nil c) ∙ drop-nil (suc a) ∙ sym (ap (take b) (drop-nil {A = ℤ} (suc a)) ∙ take-nil b)
part_of-fore (suc a) b zero (x ∷ l) e = absurd (omega (arith, e))
part_of-fore (suc a) b (suc c) (x ∷ l) e = part_of-fore a b c l (omega (arith, e))

pub part-fore : (a : ℕ) (u v : List ℤ) → take (a + 32) u ≡ take (a + 32) v → part_at a u ≡ part_at a v
part-fore a u v h = sym (part_of-fore a 32 (a + 32) u refl) ∙ ap (drop a) h ∙ part_of-fore a 32 (a + 32) v refl

-- ── stores ──
pub fore_sets : (k i : ℕ) (vs t : List ℤ) → k ≤ i → take k (sets t i vs) ≡ take k t
fore_sets k i [] t h = refl
fore_sets k i (v ∷ vs) t h = fore_sets k (suc i) vs (set t i v) (omega (arith, h)) ∙ take-set-le k t i v h

-- ── a record put ──
pub fore-part : (k n : ℕ) (u t : List ℤ) → k ≤ n → n ≤ length t → take k (with_part n u t) ≡ take k t
fore-part k n u t h g =
    take-append-le k (take n t) (u ++ drop (n + 32) t) (omega (arith, h, length-take-le n t g))
    ∙ take-take k n t h

pub long-part : (n : ℕ) (u t : List ℤ) → length u ≡ 32 → n + 32 ≤ length t → length (with_part n u t) ≡ length t
long-part n u t e h =
    omega (
      arith,
      length-append (take n t) (u ++ drop (n + 32) t),
      length-append u (drop (n + 32) t),
      length-take-le n t (omega (arith, h)),
      length-drop (n + 32) t,
      e,
      h,
    )

pub part-long : (n : ℕ) (t : List ℤ) → n + 32 ≤ length t → length (part_at n t) ≡ 32
part-long n t h = omega (arith, length-take 32 (drop n t), length-drop n t, h)
