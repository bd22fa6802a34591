-- What a writer of a line does with the output that it is lent. Where the line does not fit, nothing but the length is said of it.
use Rattle.std.specs.Prelude.{ℕ, ◌≤◌, ◌≡◌, List, ◌++◌, length, drop, Result, Ok}
use Rattle.leaves.specs.Writing.{put_answer}
use Rattle.leaves.specs.declared.NoRoom.{NoRoom}

-- all of the text at the front, where it fits; where it does not, who lent the output makes it zeros
pub record Prints (text before after : List ℕ) (r : Result ℕ NoRoom) : Type 0 where
  pub answer : r ≡ put_answer text (length before)
  pub memory : length text ≤ length before → after ≡ text ++ drop (length text) before

-- in any case, whatever the line is
pub record Within (before after : List ℕ) (r : Result ℕ NoRoom) : Type 0 where
  pub long : length after ≡ length before
  pub within : (n : ℕ) → r ≡ Ok n → n ≤ length before

-- a text of one piece or more at the front; where it does not fit, nothing but the length is said of the output
pub record Lays (text before after : List ℕ) (r : Result ℕ NoRoom) : Type 0 where
  pub answer : r ≡ put_answer text (length before)
  pub memory : length text ≤ length before → after ≡ text ++ drop (length text) before
  pub long : length after ≡ length before
