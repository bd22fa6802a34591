-- Document 01, "Refusal numbers": an answer, or the number of the first broken rule.
use Rattle.std.specs.Prelude.{ℕ, min, Bool, true, false, List, ◌∷◌, Option, Some, None}

-- The words for a refusal. `bad n`: whatever is being judged breaks a rule, the one of number n; where it stands is not said yet. A line
-- hands that number on as its form (`Lines: wrong`, 4 or 5, whichever block is open) or as what it does in its block (`Rows: refuse`).
-- With the line's volume and number it is what a set is answered with: `LineByLine: refused`, in the answers `Answers: refusal`.
pub data Got (A : Type 0) : Type 0 where
  got : A → Got A
  bad : ℕ → Got A

-- "on one line the smallest number": the tests of a line stand in a chain, in ascending order of their numbers
abbrev pub unless : {A : Type 0} → Bool → ℕ → Got A → Got A
unless true n g = g
unless false n g = bad n

abbrev pub map_g : {A B : Type 0} → (A → B) → Got A → Got B
map_g f (got a) = got (f a)
map_g f (bad n) = bad n

abbrev pub and_then : {A B : Type 0} → Got A → (A → Got B) → Got B
and_then (got a) f = f a
and_then (bad n) f = bad n

-- the value, or number n
abbrev pub or_bad : {A : Type 0} → ℕ → Option A → Got A
or_bad n None = bad n
or_bad n (Some a) = got a

-- a rule that the value must keep, with its number
abbrev pub keep : {A : Type 0} → ℕ → (A → Bool) → Got A → Got A
keep n p (got a) = unless (p a) n (got a)
keep n p (bad m) = bad m

-- several values on one line: of two numbers the smaller
abbrev pub cons_g : {A : Type 0} → Got A → Got (List A) → Got (List A)
cons_g (got a) (got s) = got (a ∷ s)
cons_g (got a) (bad n) = bad n
cons_g (bad m) (got s) = bad m
cons_g (bad m) (bad n) = bad (min m n)

-- one more rule of a line that is broken: of its number and the line's own the smaller
abbrev pub also : {A : Type 0} → Bool → ℕ → Got A → Got A
also true n g = g
also false n (got a) = bad n
also false n (bad m) = bad (min m n)
