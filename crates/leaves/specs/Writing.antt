-- What a writer does with a text at the front of the output that it is lent: all of the text, or nothing.
use Rattle.std.specs.Prelude.{ℕ, ◌/◌, ◌%◌, ◌≡◌, cond, List, ◌∷◌, ◌++◌, leb, length, drop, Result, Ok, Err}
use Rattle.rules.specs.Numbers.{fixed}
use Rattle.leaves.specs.declared.NoRoom.{NoRoom}
use Rattle.leaves.specs.NoRoom.{no_room}

-- the answer, for a text and the room there is
abbrev pub put_answer : List ℕ → ℕ → Result ℕ NoRoom
put_answer text room = cond (leb (length text) room) (Ok (length text)) (Err no_room)

-- the output after it
abbrev pub put_memory : List ℕ → List ℕ → List ℕ
put_memory text before = cond (leb (length text) (length before)) (text ++ drop (length text) before) before

-- the one sentence of every writer's contract
pub record Puts (text before after : List ℕ) (r : Result ℕ NoRoom) : Type 0 where
  pub answer : r ≡ put_answer text (length before)
  pub memory : after ≡ put_memory text before

-- fixed digits are at most eight
abbrev pub width : ℕ → ℕ
width w = cond (leb w 8) w 8

-- a size with all its digits, behind one place for a sign
unfoldable pub laid_size : ℕ → List ℕ
laid_size m = 48 ∷ (fixed 7 (m / 10000) ++ 46 ∷ fixed 4 (m % 10000))
