-- Lines as bytes, and a text laid into the output.
use Rattle.std.specs.Prelude.{ℕ, ◌+◌, ◌-◌, ◌≤◌, ◌<◌, ◌≡◌, List, [], ◌∷◌, ◌++◌, length, take, drop, Result, Ok, Err}
use Rattle.rules.specs.FixedForm.{Text}
use Rattle.prints.specs.Texts.{line_end}
use Rattle.pens.specs.declared.Pen.{Pen}
use Rattle.leaves.specs.declared.NoRoom.{NoRoom}
use Rattle.leaves.specs.NoRoom.{no_room}

-- a line and its end
abbrev pub ended : List ℕ → List ℕ
ended l = l ++ line_end

abbrev pub line_bytes : Text → List ℕ
line_bytes [] = []
line_bytes (l ∷ ls) = ended l ++ line_bytes ls

-- the output with the text x at a place
abbrev pub laid : List ℕ → ℕ → List ℕ → List ℕ
laid x at out = take at out ++ (x ++ drop (at + length x) out)

-- What a writer does with the text x: it is laid there and the pen goes on, or there is no room for it.
pub record Draws (x : List ℕ) (at : ℕ) (next : Pen) (before after : List ℕ) (r : Result Pen NoRoom) : Type 0 where
  pub drawn : at + length x ≤ length before → (r ≡ Ok next) × (after ≡ laid x at before)
  pub full : length before < at + length x → r ≡ Err no_room

-- The text x comes at `start`, before what stands from there to the pen's place, and y behind that.
pub record Inserts (x y : List ℕ) (start at : ℕ) (next : Pen) (before after : List ℕ) (r : Result Pen NoRoom) : Type 0 where
  pub drawn : at + length x + length y ≤ length before
      → (r ≡ Ok next) × (after ≡ take start before ++ (x ++ (take (at - start) (drop start before) ++ (y ++ drop (at + length x + length y) before))))
  pub full : length before < at + length x + length y → r ≡ Err no_room

-- in any case the pen stays within the output
pub record Safe (p : Pen) (out : List ℕ) : Type 0 where
  pub begun : p.start ≤ p.at
  pub within : p.at ≤ length out

abbrev pub SafeAfter : Result Pen NoRoom → List ℕ → Type 0
SafeAfter (Ok p) out = Safe p out
SafeAfter (Err _) out = Unit {0}
