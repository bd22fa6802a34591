-- A slot entered in one of the parts that a block holds: that part with the slot, the others as they were, and all of them as long.
use Rattle.std.specs.Prelude.{Some}
use Prim.Native.Nat.{ℕ, zero, suc, ◌+◌, ◌<◌}
use mathlib.Core.List.{List, [], ◌∷◌}
use mathlib.Core.Path.{◌≡◌, refl, ◌∙◌, ap}
use native.Mathlib.Omega.{arith}
use lib.ListN.{length, get_or, set, length-set}
use lib.Seq.{get_or-set_same, get_or-set_other}
use Rattle.rules.specs.Values.{Value}
use Rattle.rules.specs.Rows.{Rule, Held, part_of, enter}
use Rattle.account.specs.Placing.{Shaped}

pub enter-other : (h : Held) (p q j : ℕ) (v : Value) → (q ≡ p → ⊥) → part_of (enter h p j v) q ≡ part_of h q
enter-other h p q j v n = get_or-set_other h p q (set (part_of h p) j (Some v)) [] n

pub enter-own : (h : Held) (p j : ℕ) (v : Value) → p < length h → part_of (enter h p j v) p ≡ set (part_of h p) j (Some v)
enter-own h p j v l = get_or-set_same h p (set (part_of h p) j (Some v)) [] l

enter-length : (h : Held) (p q j : ℕ) (v : Value) → length (part_of (enter h p j v) q) ≡ length (part_of h q)
enter-length [] p q j v = refl
enter-length (s ∷ h) zero zero j v = length-set s j (Some v)
enter-length (s ∷ h) zero (suc q) j v = refl
enter-length (s ∷ h) (suc p) zero j v = refl
enter-length (s ∷ h) (suc p) (suc q) j v = enter-length h p q j v

-- every part has as many slots as its table has rows, before and after
pub shaped-enter : (ts : List (List Rule)) (q : ℕ) (h : Held) (p j : ℕ) (v : Value) → Shaped q ts h → Shaped q ts (enter h p j v)
shaped-enter [] q h p j v s = tt
shaped-enter (t ∷ ts) q h p j v s = (
  omega (arith, s.0, length-set h p (set (part_of h p) j (Some v))),
  enter-length h p q j v ∙ s.1,
  shaped-enter ts (suc q) h p j v s.2,
)

-- a part is there, with its slots
pub shaped-at : (ts : List (List Rule)) (q i : ℕ) (h : Held) → Shaped q ts h → i < length ts → (q + i < length h) × (length (part_of h (q + i)) ≡ length (get_or ts i []))
shaped-at [] q i h s l = absurd (omega (arith, l))
shaped-at (t ∷ ts) q zero h s l =
    let e : q + 0 ≡ q = omega arith in
    (omega (arith, s.0), ap (λ (x : ℕ). length (part_of h x)) e ∙ s.1)
shaped-at (t ∷ ts) q (suc i) h s l =
    let e : q + suc i ≡ suc q + i = omega arith in
    let w = shaped-at ts (suc q) i h s.2 (omega (arith, l)) in
    (omega (arith, w.0, e), ap (λ (x : ℕ). length (part_of h x)) e ∙ w.1)
