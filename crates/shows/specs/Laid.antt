-- A printed line at the front of the buffer that is lent for it: all of it, or nothing but zeros.
use Rattle.std.specs.Prelude.{ℕ, ◌≡◌, cond, List, ◌++◌, leb, length, drop, replicate, Result}
use Rattle.leaves.specs.Writing.{put_answer}
use Rattle.leaves.specs.declared.NoRoom.{NoRoom}

-- the buffer after it
abbrev pub laid_memory : List ℕ → List ℕ → List ℕ
laid_memory text before =
    cond (leb (length text) (length before)) (text ++ drop (length text) before) (replicate (length before) 0)

pub record Lays (text before after : List ℕ) (r : Result ℕ NoRoom) : Type 0 where
  pub answer : r ≡ put_answer text (length before)
  pub memory : after ≡ laid_memory text before
