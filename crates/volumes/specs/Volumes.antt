-- What is written of a volume, line by line.
use Rattle.std.specs.Prelude.{ℕ, zero, suc, ◌/◌, ◌%◌, ◌≤◌, Bool, true, false, ◌≡◌, List, [], ◌∷◌, ◌++◌, length, take, Result, Ok}
use Rattle.rules.specs.Spool.{padded_name, unlines, volume_bytes}
use Rattle.rules.specs.RefusalNumbers.{Got, got, and_then}
use Rattle.rules.specs.Values.{Known}
use Rattle.rules.specs.Sets.{Set, is_first}
use Rattle.rules.specs.Machine.{Line, Env, State, top, file, drawing, layer_names, defines, symbol, hide, elements, figures, successive, texts, placing}
use Rattle.rules.specs.Machine.{skipping, ended}
use Rattle.rules.specs.LineByLine.{step_in, accepted}
use Rattle.rules.specs.Answers.{numbered, full_class, rewrite_outcome, written}
use Rattle.leaves.specs.Writing.{put_answer}
use Rattle.lines.specs.VolumeNames.{name_at}
use Rattle.pens.specs.Shown.{shown}
use Rattle.pens.specs.Standing.{Served}
use Rattle.pens.specs.Passing.{LinesAt}
use Rattle.leaves.specs.declared.NoRoom.{NoRoom}

-- All of the text at the front, where it fits. What stands behind it, and all where it does not fit, is for who lent the output to clear.
pub record Fronts (text before after : List ℕ) (r : Result ℕ NoRoom) : Type 0 where
  pub answer : r ≡ put_answer text (length before)
  pub memory : length text ≤ length before → take (length text) after ≡ text

-- lines one behind the other, wherever a volume ends
abbrev pub through : Env → State → List Line → Got State
through e st [] = got st
through e st (l ∷ ls) = and_then (step_in e l st) λ st₁. through e st₁ ls

-- the set before the first volume, or before another
pub record Begins (first : Bool) (s : Set) : Type 0 where
  pub volume : is_first s ≡ first
  pub bare : first ≡ true → s.symbols ≡ []
  pub served : first ≡ false → Served s

-- E_sym and E_wire are served, where ELEMENT is closed
abbrev pub ServedAfter : State → Type 0
ServedAfter (top s zero) = Unit {0}
ServedAfter (top s (suc zero)) = Unit {0}
ServedAfter (top s (suc (suc zero))) = Unit {0}
ServedAfter (top s (suc (suc (suc zero)))) = Unit {0}
ServedAfter (top s (suc (suc (suc (suc k))))) = Served s
ServedAfter (file s n h p) = Unit {0}
ServedAfter (drawing s d) = Unit {0}
ServedAfter (layer_names s d) = Unit {0}
ServedAfter (defines s b) = Unit {0}
ServedAfter (symbol s y) = Unit {0}
ServedAfter (hide s y ps) = Unit {0}
ServedAfter (elements s) = Unit {0}
ServedAfter (figures s h fs) = Unit {0}
ServedAfter (successive s h fs n ps) = Unit {0}
ServedAfter (texts s h fs n o) = Unit {0}
ServedAfter (placing s h fs n o p) = Unit {0}
ServedAfter (skipping s h fs n o d) = Unit {0}
ServedAfter (ended s) = Unit {0}

-- for every reading of the volume's lines at class 15: what is shown behind them
pub record BodyOut (K : Known) (first : Bool) (st : State) (before after : List ℕ) (r : Result ℕ NoRoom) : Type 0 where
  pub fronts : Fronts (unlines (shown K first st)) before after r
  pub served : (n : ℕ) → r ≡ Ok n → ServedAfter st

abbrev pub BodyPromise : List ℕ → List ℕ → ℕ → Bool → List ℕ → List ℕ → Result ℕ NoRoom → Type 0
BodyPromise spool body start first before after r =
    (K : Known) (e : Env) (v : ℕ) (next : List ℕ) (ls : List (List ℕ)) (s : Set) (st : State) → e.class ≡ full_class
    → LinesAt spool body start start ls → Begins first s
    → through e (top s 0) (numbered v next 1 start ls) ≡ got st → BodyOut K first st before after r

-- ── behind its head ──
abbrev pub head_bytes : List ℕ → ℕ → List ℕ
head_bytes n m = (86 ∷ 80 ∷ padded_name n) ++ (m / 256 % 256 ∷ m % 256 ∷ [])

pub record VolumeOut (K : Known) (first : Bool) (name : List ℕ) (st : State) (before after : List ℕ) (r : Result ℕ NoRoom) : Type 0 where
  pub fronts : Fronts (volume_bytes name (unlines (shown K first st))) before after r
  pub served : (n : ℕ) → r ≡ Ok n → ServedAfter st

abbrev pub VolumePromise : List ℕ → List ℕ → ℕ → Bool → List ℕ → List ℕ → Result ℕ NoRoom → Type 0
VolumePromise spool body start first before after r =
    (K : Known) (e : Env) (v : ℕ) (next : List ℕ) (ls : List (List ℕ)) (s : Set) (st : State) → e.class ≡ full_class
    → LinesAt spool body start start ls → Begins first s
    → through e (top s 0) (numbered v next 1 start ls) ≡ got st → VolumeOut K first (name_at spool start) st before after r

-- ── the set ──
-- an accepted spool's fixed form
abbrev pub SetPromise : List ℕ → List ℕ → List ℕ → Result ℕ NoRoom → Type 0
SetPromise spool before after r = (set : Set) → rewrite_outcome spool ≡ accepted set → Fronts (written spool) before after r
