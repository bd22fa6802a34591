-- The public functions of this crate have one answer each (as `Unique` in leaves has it: FUNCTION-unique in the contract's own words,
-- FUNCTION-code of the contract as the code has it).
use Prim.Native.Nat.{ℕ}
use mathlib.Core.List.{List}
use mathlib.Core.Path.{◌≡◌, sym, ◌∙◌}
use Rattle.rules.specs.Spool.{volumes_of}
use Rattle.leaves.proofs.Unique.{One}
use Rattle.lines.specs.LineEnds.{first_unsound}
use Rattle.lines.specs.LineLook.{look_in}
use Rattle.lines.specs.VolumePlaces.{layout_of}
use Rattle.linebench.specs.Packed.{packed}
use Rattle.linebench.proofs.linebench_unsound as linebench-unsound'
use Rattle.linebench.proofs.linebench_look as linebench-look'

pub linebench_unsound_unique : (s : List ℕ) (r₁ r₂ : ℕ) → r₁ ≡ first_unsound s (layout_of (volumes_of s)) → r₂ ≡ first_unsound s (layout_of (volumes_of s)) → r₁ ≡ r₂
linebench_unsound_unique s r₁ r₂ c₁ c₂ = c₁ ∙ sym c₂

linebench_unsound-code : One linebench-unsound'.Kinds.ps linebench-unsound'.Kinds.r linebench-unsound'.Reads.Learnt (λ κs r e. r)
linebench_unsound-code κs x r₁ r₂ e₁ e₂ = linebench_unsound_unique x.0.now r₁ r₂

pub linebench_look_unique : (body : List ℕ) (base at volume line : ℕ) (r₁ r₂ : ℕ) → r₁ ≡ packed (look_in volume line base at body)
    → r₂ ≡ packed (look_in volume line base at body) → r₁ ≡ r₂
linebench_look_unique body base at volume line r₁ r₂ c₁ c₂ = c₁ ∙ sym c₂

linebench_look-code : One linebench-look'.Kinds.ps linebench-look'.Kinds.r linebench-look'.Reads.Learnt (λ κs r e. r)
linebench_look-code κs x r₁ r₂ e₁ e₂ = linebench_look_unique x.0.now x.1.0 x.1.1.0 x.1.1.1.0 x.1.1.1.1.0 r₁ r₂
