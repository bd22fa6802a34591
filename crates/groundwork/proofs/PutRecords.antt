-- A record on its way to the table: where it stands on the scratch, and what is left of that behind it.
use Prim.Native.Nat.{ℕ, ◌+◌, ◌-◌, ◌≤◌}
use mathlib.Core.Bool.{Bool, true, false, cond, ◌&&◌}
use mathlib.Core.List.{List, ◌++◌}
use mathlib.Core.Path.{◌≡◌, refl, sym, ◌∙◌, ap, subst}
use native.Mathlib.Omega.{arith}
use lib.Dec.{eqb, ltb}
use lib.IntN.{ℤ, pos}
use lib.ListN.{take, drop, replicate}
use Rattle.account.specs.declared.Now.{Now}
use Rattle.account.specs.declared.Complete.{Complete}
use Rattle.account.specs.declared.Complete.TheVariants as C
use Rattle.account.specs.Records.{part_at, with_part}
use Rattle.account.proofs.Lent.{lent-part}
use Rattle.account.specs.Putting.{completed, number_for, put_record, put_wire, put_by, cleared_by}

-- ── what is complete stands on the scratch ──
abbrev Inside : Complete → Type 0
Inside C.Nothing = Unit {0}
Inside (C.Record from) = from + 32 ≤ 96
Inside C.Header = Unit {0}
Inside C.Wire = Unit {0}

inside_if : (b : Bool) (x y : Complete) → Inside x → Inside y → Inside (cond b x y)
inside_if true x y p q = p
inside_if false x y p q = q

inside-done : (was is : Now) → Inside (completed was is)
inside-done was is =
    inside_if (eqb was.block is.block) _ _
    (inside_if (eqb was.records is.records) C.Nothing _ tt (inside-place (eqb was.block 9) (eqb was.block 12)))
    (inside_if (ltb 8 was.block) _ _ (inside_if (eqb was.block 12) C.Wire (C.Record 32) tt (omega arith))
    (inside_if (eqb was.block 5 && eqb is.block 4) (C.Record 0) _ (omega arith)
    (inside_if (eqb was.block 2 && eqb is.block 0) (C.Record 0) _ (omega arith)
    (inside_if (eqb was.block 1) C.Header C.Nothing tt tt))))
  where
    inside-place : (b w : Bool) → Inside (C.Record (cond b 64 (cond w 0 32)))
    inside-place true w = omega arith
    inside-place false true = omega arith
    inside-place false false = omega arith

-- the place that is told is one of its three
pub told-inside : (was is : Now) (done : Complete) (from : ℕ) → done ≡ completed was is → done ≡ C.Record from → from + 32 ≤ 96
told-inside was is done from e q = subst Inside (sym e ∙ q) (inside-done was is)

-- ── all of it ──
-- s₁, t₁: the scratch and the table on return
abbrev Put : Complete → Bool → ℕ → List ℤ → List ℤ → List ℤ → List ℤ → List ℤ → Type 0
Put done first number h s t s₁ t₁ = (s₁ ≡ cleared_by done s) × (t₁ ≡ put_by done first number h s t)

-- a part that is lent and comes back
abbrev lent_part : ℕ → List ℤ → List ℤ → List ℤ
lent_part n u s = take n s ++ (u ++ drop 32 (drop n s))

module _ (first : Bool) (was is : Now) (own : ℕ) (h s t : List ℤ) (done : Complete) (e : done ≡ completed was is) where
  -- as the code lends the part: its length is found by its ends
  pub done_record : (from : ℕ) → done ≡ C.Record from → (number : ℕ) → number ≡ number_for was is own → (u t₁ : List ℤ) → u ≡ replicate 32 (pos 0)
      → t₁ ≡ put_record number (take (from + 32 - from) (drop from s)) t
      → Put (completed was is) first (number_for was is own) h s t (take from s ++ (u ++ drop (from + 32 - from) (drop from s))) t₁
  done_record from q number p u t₁ f g =
      let wide : from + 32 - from ≡ 32 = omega arith in
      subst (λ (y : Complete). Put y first (number_for was is own) h s t (take from s ++ (u ++ drop (from + 32 - from) (drop from s))) t₁) (sym q ∙ e) (
        lent-part from (from + 32 - from) s u wide ∙ ap (λ (y : List ℤ). with_part from y s) f,
        g ∙ ap (λ (i : ℕ). put_record number (take i (drop from s)) t) wide ∙ ap (λ (i : ℕ). put_record i (part_at from s) t) p,
      )

  -- both parts, as the code lends them one after the other
  pub done-wire : done ≡ C.Wire → (number : ℕ) → number ≡ number_for was is own → (t₁ : List ℤ) → t₁ ≡ put_wire number s t → (u v : List ℤ) → u ≡ replicate 32 (pos 0) → v ≡ replicate 32 (pos 0)
      → Put (completed was is) first (number_for was is own) h s t (lent_part 64 v (lent_part 32 u s)) t₁
  done-wire q number p t₁ g u v f k =
      subst (λ (y : Complete). Put y first (number_for was is own) h s t (lent_part 64 v (lent_part 32 u s)) t₁) (sym q ∙ e) (
        lent-part 64 32 (lent_part 32 u s) v refl ∙ ap (with_part 64 v) (lent-part 32 32 s u refl)
            ∙ ap (λ (y : List ℤ). with_part 64 y (with_part 32 u s)) k ∙ ap (λ (y : List ℤ). with_part 64 (replicate 32 (pos 0)) (with_part 32 y s)) f,
        g ∙ ap (λ (i : ℕ). put_wire i s t) p,
      )
