-- What the reading of a whole set promises.
use Rattle.std.specs.Prelude.{ℕ, ◌+◌, ◌/◌, false, cond, ◌≡◌, List, [], ltb, ℤ, length, get_or, Result, Ok, Err}
use Rattle.rules.specs.declared.Class.{Class}
use Rattle.rules.specs.Sets.{Set}
use Rattle.rules.specs.LineByLine.{refused, accepted}
use Rattle.rules.specs.RecordTable.{records_of, table_of, width}
use Rattle.rules.specs.Answers.{outcome_of, rewrite_outcome}
use Rattle.rules.specs.Machine.{limited_to}
use Rattle.lines.specs.VolumeNames.{name_at}
use Rattle.account.specs.declared.Now.{Now}
use Rattle.account.specs.Numbering.{block_top}
use Rattle.rules.specs.declared.Refusal.{Refusal}

-- before the first line: at the top level, no record was taken
abbrev pub nothing_now : Now
nothing_now = record { block = block_top; part = 0; layered = false; owner = 0; records = 0; figures = 0; points = 0 }

-- the name of the volume behind the one with number i + 1, by the places of so many; nothing behind the last
abbrev pub name_behind : List ℕ → List ℕ → ℕ → ℕ → List ℕ
name_behind spool places count i = cond (ltb (i + 1) count) (name_at spool (get_or places (i + 1) 0)) []

-- limit: how many records the table has room for. t₁: the numbers on return, where they are the table. Refused, nothing is said of them.
abbrev pub SetOut : Class → List ℕ → ℕ → List ℤ → List ℤ → Result ℕ Refusal → Type 0
SetOut c spool limit t₀ t₁ (Ok n) =
    (s : Set) × (outcome_of (limited_to c limit) spool ≡ accepted s) × (n ≡ length (records_of c s))
    × (length t₀ / width ≡ limit → t₁ ≡ table_of (length t₀) (records_of c s))
SetOut c spool limit t₀ t₁ (Err f) = outcome_of (limited_to c limit) spool ≡ refused f.number f.volume f.line

-- more records than any spool has: the rewriter counts them and keeps none
abbrev pub most_records : ℕ
most_records = 65536

-- what the rewriter asks of a spool before it writes
abbrev pub IsAccepted : List ℕ → Type 0
IsAccepted spool = (s : Set) × (rewrite_outcome spool ≡ accepted s)

abbrev pub Judged : List ℕ → Result ℕ Refusal → Type 0
Judged spool (Ok n) = IsAccepted spool
Judged spool (Err f) = rewrite_outcome spool ≡ refused f.number f.volume f.line
