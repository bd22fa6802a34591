-- Demand 3 of the reader itself: two calls of it, of which nothing is known but what its contract says.
use Rattle.std.specs.Prelude.{ℕ, ◌*◌, ◌-◌, true, List, ◌++◌, ◌≡◌, ℤ, pos, length, replicate, Result, Ok, Err}
use Rattle.rules.specs.declared.Class.{Class}
use Rattle.rules.specs.declared.Refusal.{Refusal}
use Rattle.rules.specs.Base.{flat}
use Rattle.rules.specs.Sets.{Set}
use Rattle.rules.specs.LineByLine.{accepted}
use Rattle.rules.specs.RecordTable.{width}
use Rattle.rules.specs.Answers.{read_outcome, read_answer, read_table}
use Rattle.promises.specs.DemandThree.{Classes, lowered, at_or_before}
use Rattle.promises.specs.TableTexts.{first_records}

-- ── a call of the reader ──
-- what was lent, what came back, and the contract of `sets::read`
pub record Call : Type 0 where
  pub spool : List ℕ
  pub class : ℕ
  pub wire : ℕ
  pub before : List ℤ
  pub answer : Result ℕ Refusal
  pub after : List ℤ
  pub answers : answer ≡ read_answer class wire (length before) spool
  pub fills : after ≡ read_table class wire (length before) spool

-- these records laid into a table of so many numbers, "zeros after the last record"
abbrev pub laid : ℕ → List (List ℤ) → List ℤ
laid len rs = flat rs ++ replicate (len - length rs * width) (pos 0)

-- ── two calls ──
-- "one class not above the other in either digit" of either part, "same spool, tables of equal length"
pub record TwoCalls (lower higher : Call) : Type 0 where
  pub spools : lower.spool ≡ higher.spool
  pub lengths : length lower.before ≡ length higher.before
  pub low : Class
  pub high : Class
  pub classes : Classes lower.class lower.wire higher.class higher.wire low high

-- "the lower accepts with the same records, except that attributes the file's range allows and the lower doesn't know are marked unread",
-- and "of a wire that the lower class skips whole, the records at its own line stand as said for 0 and those of later lines are left out of
-- its list": the whole table, number for number. The higher's n records are cut out of its table, left out or changed, and laid again.
pub record Accepts (lower higher : Call) (low : Class) (n : ℕ) : Type 0 where
  pub set : Set
  pub reads : read_outcome higher.class higher.wire (length higher.before) higher.spool ≡ accepted set
  pub count : ℕ
  pub counts : count ≡ length (lowered low set (first_records n higher.after))
  pub answer : lower.answer ≡ Ok count
  pub table : lower.after ≡ laid (length higher.after) (lowered low set (first_records n higher.after))

abbrev pub LowerCallAccepts : Type 0
LowerCallAccepts = (lower higher : Call) (two : TwoCalls lower higher) (n : ℕ) → higher.answer ≡ Ok n → Accepts lower higher two.low n

-- "the higher refuses too, at the same line or before it"; neither leaves anything in its table
pub record Refuses (lower higher : Call) (r : Refusal) : Type 0 where
  pub refusal : Refusal
  pub answer : higher.answer ≡ Err refusal
  pub place : at_or_before refusal r ≡ true
  pub table : higher.after ≡ lower.after

abbrev pub HigherCallRefuses : Type 0
HigherCallRefuses = (lower higher : Call) → TwoCalls lower higher → (r : Refusal) → lower.answer ≡ Err r → Refuses lower higher r
