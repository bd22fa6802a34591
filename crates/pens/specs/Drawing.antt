-- What one line writes, at any state of the reading that the writing stands at.
use Rattle.std.specs.Prelude.{ℕ, ◌+◌, ◌≤◌, ◌<◌, Bool, true, ◌≡◌, List, ◌∷◌, length, Result, Ok, Err}
use Rattle.rules.specs.declared.LineForm.{LineForm}
use Rattle.rules.specs.RefusalNumbers.{got}
use Rattle.rules.specs.Lines.{brace, equals, Form, ignored, wrong, close, eof, keyed, allowed, form_in}
use Rattle.rules.specs.Values.{Known}
use Rattle.rules.specs.Machine.{Line, Env, State}
use Rattle.rules.specs.LineByLine.{step_in}
use Rattle.rules.specs.Answers.{full_class}
use Rattle.pens.specs.declared.Pen.{Pen}
use Rattle.pens.specs.Texts.{line_bytes}
use Rattle.pens.specs.Keys.{PlacedCode}
use Rattle.pens.specs.Shown.{shown}
use Rattle.pens.specs.Standing.{Pens, Along}
use Rattle.leaves.specs.declared.NoRoom.{NoRoom}

-- a line of a volume: no longer than one may be, of allowed bytes
abbrev pub FormFits : Form → Type 0
FormFits ignored = Unit {0}
FormFits (wrong n) = Unit {0}
FormFits close = Unit {0}
FormFits eof = Unit {0}
FormFits (keyed k brace) = length k + 2 ≤ 512
FormFits (keyed k (equals p c)) = (length k + 1 + length c ≤ 512) × (allowed c ≡ true)

-- the writing stands at the state behind the line, or what is shown there has no room
abbrev pub LineOut : Known → List ℕ → Bool → State → List ℕ → List ℕ → Result Pen NoRoom → Type 0
LineOut K spool first st ns out (Ok p) = Pens K spool first p ns out st
LineOut K spool first st ns out (Err _) = length out < length (line_bytes (shown K first st))

-- at class 15 with wire part 18, as the rewriter reads; fs: the forms of the lines behind this one
abbrev pub DrawPromise : List ℕ → List ℕ → ℕ → ℕ → Bool → LineForm → Pen → List ℕ → List ℕ → List ℕ → List ℕ → Result Pen NoRoom → Type 0
DrawPromise spool body start from first form p ns₀ ns₁ before after d =
    (K : Known) (e : Env) (l : Line) (fs : List Form) (st st' : State) → e.class ≡ full_class → l.form ≡ form_in spool form → PlacedCode form
    → FormFits l.form
    → Pens K spool first p ns₀ before st → Along spool body start from (l.form ∷ fs) st → step_in e l st ≡ got st' → LineOut K spool first st' ns₁ after d
