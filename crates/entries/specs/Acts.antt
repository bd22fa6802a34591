-- What a line does in its block, and what it leaves in the lent numbers.
use Rattle.std.specs.Prelude.{ℕ, zero, suc, ◌+◌, ◌≡◌, Bool, false, cond, ◌&&◌, not, List, leb, ltb, ℤ, Option, Some, None}
use Rattle.std.proofs.lemmas.List.Edits.{sets}
use Rattle.rules.specs.declared.Digits.{Digits}
use Rattle.rules.specs.RefusalNumbers.{unless, and_then, got}
use Rattle.rules.specs.RangeClass.{reaches}
use Rattle.rules.specs.Lines.{Shape, has_form}
use Rattle.rules.specs.Values.{Known, Value, empty}
use Rattle.rules.specs.Rows.{Rule, Act, stay, entry, begin, shut, refuse, or_refuse, fits, not_twice, read_shape}
use Rattle.rules.specs.RecordTable.{numbers, given, columns, put_state}
use Rattle.entries.specs.Entering.{settled}
use Rattle.entries.specs.declared.Next.{Next}
use Rattle.entries.specs.declared.Next.TheVariants as N
use Rattle.entries.specs.declared.Shape.{Shape as Placed}
use Rattle.entries.specs.declared.Shape.TheVariants as P

-- ── the places ──
-- a row without a place of its own goes to another one
abbrev pub place_of : ℕ → ℕ → ℕ
place_of zero dump = dump
place_of (suc p) dump = suc p

-- a line's numbers and its state
abbrev pub put_line : Rule → ℕ → Value → List ℤ → List ℤ
put_line r dump v t = put_state r.state (given v) (sets t (place_of r.place dump) (numbers v))

-- a row's places lie within n numbers
abbrev pub roomy : ℕ → ℕ → Rule → Bool
roomy dump n r = leb (place_of r.place dump + columns r.holds) n && (ltb r.state n && settled r.holds)

-- ── the answer ──
abbrev pub value_of : Act → Value
value_of stay = empty
value_of (entry j v) = v
value_of (begin i j v) = v
value_of shut = empty
value_of (refuse n) = empty

abbrev pub next_of : Act → Next
next_of stay = N.Stay
next_of (entry j v) = N.Entry j
next_of (begin i j v) = N.Begin (record { block = i; row = j })
next_of shut = N.Shut
next_of (refuse n) = N.Refuse n

abbrev pub Entered : (ℕ → Rule) → ℕ → List ℤ → Act → List ℤ → Type 0
Entered rule dump t stay t₁ = t₁ ≡ t
Entered rule dump t (entry j v) t₁ = t₁ ≡ put_line (rule j) dump v t
Entered rule dump t (begin i j v) t₁ = t₁ ≡ put_line (rule j) dump v t
Entered rule dump t shut t₁ = t₁ ≡ t
Entered rule dump t (refuse n) t₁ = Unit {0}

-- the answer is that of the act, and the lent numbers are as it leaves them; after a refusal nothing is said of them
pub record Acts (rule : ℕ → Rule) (dump : ℕ) (t : List ℤ) (a : Act) (t₁ : List ℤ) (n : Next) : Type 0 where
  pub eq : n ≡ next_of a
  pub entered : Entered rule dump t a t₁

-- ── a row, by the line's shape ──
abbrev pub act_shape : Known → Digits → Bool → ℕ → Rule → Shape → Act
act_shape k d full j r s =
    or_refuse
    (unless (has_form s) 5
    (unless (reaches d r.least) 6
    (unless (fits r.holds r.may s) 5
    (unless (not_twice r.times full) 7
    (and_then (read_shape k j r s) λ a. unless (not full) 11 (got a))))))

-- what a line that was entered does, by which of the five shapes it has
abbrev pub next_by : ℕ → ℕ → Placed → Next
next_by j i P.Opener = N.Begin (record { block = i; row = j })
next_by j i P.NoContent = N.Entry j
next_by j i (P.Content p) = N.Entry j
next_by j i (P.Opening p) = N.Begin (record { block = i; row = j })
next_by j i P.Formless = N.Entry j

abbrev pub next_for : Bool → ℕ → ℕ → Placed → Next
next_for full j i s = cond full (N.Refuse 11) (next_by j i s)

-- ── what a block must have ──
-- from which digits of the range on it must have a row, where it must at all
abbrev pub asked_from : Rule → Option Digits
asked_from r = cond r.must (Some r.least) None

abbrev pub wanted : Digits → Option Digits → Bool
wanted d None = false
wanted d (Some least) = reaches d least
