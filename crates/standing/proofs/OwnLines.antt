-- A line put into its block's own record: the record with one slot more.
use Rattle.std.specs.Prelude.{Some, None}
use Prim.Native.Nat.{ℕ, zero, suc, ◌<◌}
use mathlib.Core.Bool.{Bool, true, ◌||◌, not}
use mathlib.Core.List.{List, [], ◌∷◌}
use mathlib.Core.Path.{◌≡◌, refl, sym, ◌∙◌, ap}
use native.Mathlib.Omega.{arith}
use borrow.Author.Tests.{eqb-true}
use lib.Dec.{eqb}
use lib.IntN.{ℤ}
use lib.ListN.{length, get_or, set}
use lib.Seq.{sets}
use Rattle.rules.specs.Base.{all, is_none}
use Rattle.rules.specs.Values.{Value, Kind}
use Rattle.rules.specs.Rows.{Rule, Slots}
use Rattle.rules.specs.RecordTable.{numbers, given, columns, put_numbers, put_state, put_slots, rule_at}
use Rattle.rules.proofs.Chains.{clash}
use Rattle.entries.specs.Acts.{place_of, put_line}
use Rattle.account.specs.Placing.{put_value, fills, clear_table}
use Rattle.standing.proofs.Puts.{all-at, slots_set}

-- a row has places of its own, or no numbers to put
abbrev pub housed : Rule → Bool
housed r = not (eqb r.place 0) || eqb (columns r.holds) 0

no-numbers : (h : Kind) (zs : List ℤ) → columns h ≡ 0 → fills h zs ≡ true → zs ≡ []
no-numbers h [] e f = refl
no-numbers h (y ∷ zs) e f = absurd (omega (arith, eqb-true (length (y ∷ zs)) (columns h) f, e))

pub line-value : (r : Rule) (v : Value) (t : List ℤ) → housed r ≡ true → fills r.holds (numbers v) ≡ true → put_line r 0 v t ≡ put_value r v t
line-value r v t g f = ap (put_state r.state (given v)) (go r.place g)
  where
    go : (p : ℕ) → (not (eqb p 0) || eqb (columns r.holds) 0) ≡ true → sets t (place_of p 0) (numbers v) ≡ put_numbers p (numbers v) t
    go zero h = ap (λ (zs : List ℤ). sets t 0 zs) (no-numbers r.holds (numbers v) (eqb-true (columns r.holds) 0 h) f)
    go (suc p) h = refl

pub own_line : (t : List Rule) (s : Slots) (j : ℕ) (v : Value) (b : List ℤ) → length s ≡ length t → j < length t → get_or s j None ≡ None → fills (rule_at t j).holds (numbers v) ≡ true
    → clear_table t ≡ true → all housed t ≡ true → put_line (rule_at t j) 0 v (put_slots t s b) ≡ put_slots t (set s j (Some v)) b
own_line t s j v b n h e f c g = line-value (rule_at t j) v (put_slots t s b) (all-at housed t j h g) f ∙ sym (slots_set t s j v b n h e f c)

-- ── slots ──
-- what is empty was empty
pub was-none : (s : Slots) (i j : ℕ) (v : Value) → is_none (get_or (set s j (Some v)) i None) ≡ true → is_none (get_or s i None) ≡ true
was-none [] i j v e = refl
was-none (o ∷ s) zero zero v e = clash e refl
was-none (o ∷ s) zero (suc j) v e = e
was-none (o ∷ s) (suc i) zero v e = e
was-none (o ∷ s) (suc i) (suc j) v e = was-none s i j v e
