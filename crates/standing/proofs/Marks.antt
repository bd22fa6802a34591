-- Slots and the marks of what has been.
use Rattle.std.specs.Prelude.{Option, Some, None}
use Prim.Native.Nat.{ℕ, zero, suc}
use mathlib.Core.Bool.{Bool, true, false, ◌||◌, not}
use mathlib.Core.List.{List, [], ◌∷◌}
use mathlib.Core.Path.{◌≡◌, refl, ap, sym, ◌∙◌}
use lib.ListN.{length, get_or, set}
use Rattle.rules.specs.Base.{is_some}
use Rattle.rules.specs.Values.{Value}
use Rattle.rules.specs.Rows.{Slots, rows_there}
use Rattle.rules.specs.declared.Digits.{Digits}
use Rattle.rules.specs.RangeClass.{digits, reaches}
use Rattle.rules.proofs.Chains.{clash}
use Rattle.rules.proofs.Rows.{reaches-none}

-- a slot entered is a mark set
pub marks-set : (o : Slots) (j : ℕ) (v : Value) → rows_there (set o j (Some v)) ≡ set (rows_there o) j true
marks-set [] j v = refl
marks-set (x ∷ o) zero v = refl
marks-set (x ∷ o) (suc j) v = ap (λ (s : List Bool). is_some x ∷ s) (marks-set o j v)

-- a row without a mark has an empty slot
pub mark-free : (o : Slots) (j : ℕ) → get_or (rows_there o) j false ≡ false → get_or o j None ≡ None
mark-free [] j e = refl
mark-free (None ∷ o) zero e = refl
mark-free (Some v ∷ o) zero e = clash refl e
mark-free (x ∷ o) (suc j) e = mark-free o j e

pub marks-length : (o : Slots) → length (rows_there o) ≡ length o
marks-length [] = refl
marks-length (x ∷ o) = ap suc (marks-length o)

-- a row that is required at every range is there
pub must-row : (g : Digits) (a : Option Value) → (not (reaches g (digits 0 0)) || is_some a) ≡ true → is_some a ≡ true
must-row g a e = ap (λ (b : Bool). not b || is_some a) (sym (reaches-none g)) ∙ e
