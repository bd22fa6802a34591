-- The public functions of this crate have one answer each (as `Unique` in leaves has it: FUNCTION-unique in the contract's own words,
-- FUNCTION-code of the contract as the code has it).
use Rattle.std.specs.Prelude.{Option}
use Prim.Native.Nat.{ℕ}
use mathlib.Core.Bool.{Bool}
use mathlib.Core.List.{List}
use mathlib.Core.Path.{◌≡◌, sym, ◌∙◌}
use Rattle.rules.specs.Base.{is_some}
use Rattle.rules.specs.Spool.{lines_of, volumes_of}
use Rattle.leaves.proofs.Unique.{One}
use Rattle.lines.specs.LineEnds.{first_unsound}
use Rattle.lines.specs.LineLook.{look_in}
use Rattle.lines.specs.VolumeNames.{name_at}
use Rattle.lines.specs.VolumePlaces.{head_in, layout_of}
use Rattle.lines.specs.declared.Layout.{Layout}
use Rattle.lines.proofs.ends.sound_lines as sound-lines'
use Rattle.lines.proofs.ends.first_unsound as first-unsound'
use Rattle.lines.proofs.forms.look as look'
use Rattle.lines.proofs.spool.head_of as head-of'
use Rattle.lines.proofs.spool.volumes as volumes'
use Rattle.lines.proofs.spool.volume_name as volume-name'
use Rattle.lines.specs.declared.Seen.{Seen}

-- ── ends ──
pub sound-lines_unique : (s : List ℕ) (r₁ r₂ : Bool) → r₁ ≡ is_some (lines_of s) → r₂ ≡ is_some (lines_of s) → r₁ ≡ r₂
sound-lines_unique s r₁ r₂ c₁ c₂ = c₁ ∙ sym c₂

sound-lines-code : One sound-lines'.Kinds.ps sound-lines'.Kinds.r sound-lines'.Reads.Learnt (λ κs r e. r)
sound-lines-code κs x r₁ r₂ e₁ e₂ = sound-lines_unique x.0.now r₁ r₂

pub first_unsound_unique : (s : List ℕ) (l : Layout) (r₁ r₂ : ℕ) → r₁ ≡ first_unsound s l → r₂ ≡ first_unsound s l → r₁ ≡ r₂
first_unsound_unique s l r₁ r₂ c₁ c₂ = c₁ ∙ sym c₂

first_unsound-code : One first-unsound'.Kinds.ps first-unsound'.Kinds.r first-unsound'.Reads.Learnt (λ κs r e. r)
first_unsound-code κs x r₁ r₂ e₁ e₂ = first_unsound_unique x.0.now x.1.0 r₁ r₂

-- ── forms ──
pub look_unique : (body : List ℕ) (base at volume line : ℕ) (r₁ r₂ : Option Seen) → r₁ ≡ look_in volume line base at body → r₂ ≡ look_in volume line base at body → r₁ ≡ r₂
look_unique body base at volume line r₁ r₂ c₁ c₂ = c₁ ∙ sym c₂

look-code : One look'.Kinds.ps look'.Kinds.r look'.Reads.Learnt (λ κs r e. r)
look-code κs x r₁ r₂ e₁ e₂ = look_unique x.0.now x.1.0 x.1.1.0 x.1.1.1.0 x.1.1.1.1.0 r₁ r₂

-- ── spool ──
pub head_of_unique : (s : List ℕ) (r₁ r₂ : Option ℕ) → r₁ ≡ head_in s → r₂ ≡ head_in s → r₁ ≡ r₂
head_of_unique s r₁ r₂ c₁ c₂ = c₁ ∙ sym c₂

head_of-code : One head-of'.Kinds.ps head-of'.Kinds.r head-of'.Reads.Learnt (λ κs r e. r)
head_of-code κs x r₁ r₂ e₁ e₂ = head_of_unique x.0.now r₁ r₂

pub volumes_unique : (s : List ℕ) (r₁ r₂ : Layout) → r₁ ≡ layout_of (volumes_of s) → r₂ ≡ layout_of (volumes_of s) → r₁ ≡ r₂
volumes_unique s r₁ r₂ c₁ c₂ = c₁ ∙ sym c₂

volumes-code : One volumes'.Kinds.ps volumes'.Kinds.r volumes'.Reads.Learnt (λ κs r e. r)
volumes-code κs x r₁ r₂ e₁ e₂ = volumes_unique x.0.now r₁ r₂

-- what is lent back is told by its bytes, not by where they stand
pub volume-name_unique : (s : List ℕ) (place : ℕ) (r₁ r₂ : List ℕ) → r₁ ≡ name_at s place → r₂ ≡ name_at s place → r₁ ≡ r₂
volume-name_unique s place r₁ r₂ c₁ c₂ = c₁ ∙ sym c₂

volume-name-code : One volume-name'.Kinds.ps volume-name'.Kinds.r volume-name'.Reads.Learnt (λ κs r e. r.now)
volume-name-code κs x r₁ r₂ e₁ e₂ = volume-name_unique x.0.now x.1.0 r₁.now r₂.now
