-- What the reading of a line and of a volume promises.
use Rattle.std.specs.Prelude.{ℕ, ◌+◌, ◌*◌, ◌/◌, ◌≤◌, ◌<◌, Bool, true, false, cond, eqb, ◌≡◌, List, ◌++◌, ℤ, pos, length, get_or, set, replicate, Result, Ok, Err}
use Rattle.rules.specs.declared.Class.{Class}
use Rattle.rules.specs.declared.LineForm.{LineForm}
use Rattle.rules.specs.Base.{flat, is_nil}
use Rattle.rules.specs.Lines.{Rest, brace, equals, Form, ignored, wrong, close, eof, keyed}
use Rattle.rules.specs.Sets.{Set}
use Rattle.rules.specs.Machine.{Line, State, top, ended, set_of, limited_to}
use Rattle.rules.specs.LineByLine.{refused, run}
use Rattle.rules.specs.Answers.{lines_of_volume}
use Rattle.account.specs.declared.Where.{Where}
use Rattle.account.specs.declared.Step.{Step}
use Rattle.account.specs.declared.Step.TheVariants as S
use Rattle.account.specs.declared.Volume.{Volume}
use Rattle.account.specs.declared.Pos.{Pos}
use Rattle.account.specs.Walk.{end_of, At}
use Rattle.rules.specs.RecordTable.{width}
use Rattle.account.specs.declared.Now.{Now}
use Rattle.standing.specs.Laid.{Laid}
use Rattle.standing.specs.Kept.{shut_so_far}
use Rattle.standing.specs.Standing.{Desk, desk, Stands, Counted, LineHere, StepOut}
use Rattle.account.specs.SymbolLines.{name_of, name_number}
use Rattle.standing.specs.FileStanding.{InFile}
use Rattle.rules.specs.Blocks.{most_layers}
use Rattle.account.specs.Numbering.{block_defines, block_elements, tally_elements_here, tally_symbols, rows_text, most_rows, header_length, scratch_length}
use Rattle.rules.specs.declared.Refusal.{Refusal}

-- the desk stands at the state st of a reading of volume k, behind the place `at`
abbrev pub Standing : Class → List ℕ → ℕ → Desk → ℕ → State → Type 0
Standing c spool k d at st = Stands c spool k d (InFile spool k d) at st

-- ── a line ──
-- its content stands in a spool
abbrev pub PlacedRest : Rest → Type 0
PlacedRest brace = Unit {0}
PlacedRest (equals at c) = (at < 65536) × (length c < 65536)

abbrev pub PlacedForm : Form → Type 0
PlacedForm ignored = Unit {0}
PlacedForm (wrong n) = Unit {0}
PlacedForm close = Unit {0}
PlacedForm eof = Unit {0}
PlacedForm (keyed k r) = PlacedRest r

-- some state that the desk stands at, before a line that ends within a spool's places
pub record LineReady (c : Class) (spool : List ℕ) (k : ℕ) (form : LineForm) (w : Where) (d : Desk) (following : List ℕ) : Type 0 where
  pub at : ℕ
  pub to : ℕ
  pub state : State
  pub line : Line
  pub stands : Standing c spool k d at state
  pub here : LineHere spool k at to form w line
  pub next : line.next ≡ following
  pub placed : PlacedForm line.form
  pub early : at ≤ 61440
  pub short : length spool ≤ 61440
  pub countable : d.now.records + 2 ≤ 18446744073709551615

-- the answer is the step that the definitions make, at any state that the desk stands at
abbrev pub LinePromise : Class → List ℕ → ℕ → LineForm → Where → Desk → Desk → List ℕ → Step → Type 0
LinePromise c spool k form w d₀ d₁ following r =
    (own : ℕ) (l : Line) (at to : ℕ) (st : State) → LineHere spool k at to form w l → l.next ≡ following → PlacedForm l.form
    → Standing c spool k d₀ at st → Counted c own d₀ st → StepOut c spool k (InFile spool k) own l to st d₁ r

-- a closed layer's figures are counted
abbrev pub tally_after : List ℕ → Step → List ℕ
tally_after t (S.Go n) = cond (eqb n.block block_elements) (set t tally_elements_here (get_or t tally_elements_here 0 + n.figures)) t
tally_after t (S.Skip n) = t
tally_after t (S.Stop m) = t

-- a closed symbol's name joins the others
abbrev pub tally_named : List ℕ → Step → List ℕ
tally_named t (S.Go n) = cond (eqb n.block block_defines) (set t tally_symbols (get_or t tally_symbols 0 + 1)) t
tally_named t (S.Skip n) = t
tally_named t (S.Stop m) = t

abbrev pub symbols_named : List ℕ → List ℤ → List ℕ → Step → List ℕ
symbols_named t rec symbols (S.Go n) = cond (eqb n.block block_defines) (set symbols (get_or t tally_symbols 0) (name_number (name_of rec))) symbols
symbols_named t rec symbols (S.Skip n) = symbols
symbols_named t rec symbols (S.Stop m) = symbols

-- ── a volume ──
abbrev pub stop_of : Volume → ℕ → ℕ → Result Now Refusal
stop_of v n line = Err (record { number = n; volume = v.number; line = line })

-- its last line was read
abbrev pub through_of : Volume → ℕ → Step → Result Now Refusal
through_of v line (S.Go n) = Ok n
through_of v line (S.Skip n) = stop_of v 9 line
through_of v line (S.Stop k) = stop_of v k line

abbrev pub start_of : ℕ → Pos
start_of at = record { at = at; line = 0 }

-- the number of the volume that is read next, or the last one's; and the state there
abbrev pub next_number : Bool → ℕ → ℕ
next_number true k = k
next_number false k = k + 1

abbrev pub next_state : Bool → Set → State
next_state true s = ended s
next_state false s = top s 0

-- so many records were taken, no more than the limit; a table of that length holds them. (The rewriter lends none.)
pub record Kept (c : Class) (limit : ℕ) (table : List ℤ) (records : ℕ) (st : State) : Type 0 where
  pub taken : (set_of st).taken ≡ records
  pub fits : records ≤ limit
  pub size : length (flat (shut_so_far c st)) ≡ width * records
  pub laid : length table / width ≡ limit → Laid table (shut_so_far c st) (width * records)

-- what is lent to a volume; between two volumes no block is open, so it begins with nothing of what a block needs
abbrev pub volume_desk : Now → List ℕ → List ℕ → List ℕ → List ℕ → List Bool → Desk
volume_desk n tally symbols layers serials used_all =
    desk n tally symbols layers serials (replicate most_layers false) used_all (replicate most_rows false) (replicate rows_text false) (replicate header_length (pos 0))
    (replicate scratch_length (pos 0))

pub record VolumeReady (c : Class) (spool body : List ℕ) (v : Volume) (limit : ℕ) (d : Desk) (table : List ℤ) : Type 0 where
  pub set : Set
  pub lines : List (List ℕ)
  pub at : At spool body v (start_of v.at) lines
  pub stands : Standing c spool v.number d v.at (top set 0)
  pub kept : Kept c limit table d.now.records (top set 0)
  pub countable : limit + 2 ≤ 18446744073709551615

-- the volume read to its end, or the refusal
abbrev pub VolumeOut : Class → List ℕ → List ℕ → Volume → Bool → ℕ → State → List Line → List Line → (Now → Desk) → List ℤ → Result Now Refusal → Type 0
VolumeOut c spool body v last limit st lines more d table (Ok n) =
    (s : Set) × (run (limited_to c limit) st (lines ++ more) ≡ run (limited_to c limit) (next_state last s) more)
    × Standing c spool (next_number last v.number) (d n) (end_of body v) (next_state last s) × Kept c limit table n.records (next_state last s)
VolumeOut c spool body v last limit st lines more d table (Err f) = run (limited_to c limit) st (lines ++ more) ≡ refused f.number f.volume f.line

-- d₀: what is lent; d₁: what comes back of it, with what is open then
abbrev pub VolumePromise : Class → List ℕ → List ℕ → Volume → ℕ → List ℕ → Desk → List ℤ → (Now → Desk) → List ℤ → Result Now Refusal → Type 0
VolumePromise c spool body v limit following d₀ table₀ d₁ table₁ r =
    (s : Set) (lines : List (List ℕ)) (more : List Line) → At spool body v (start_of v.at) lines → Standing c spool v.number d₀ v.at (top s 0)
    → Kept c limit table₀ d₀.now.records (top s 0)
    → VolumeOut c spool body v (is_nil following) limit (top s 0) (lines_of_volume v.number following v.at lines) more d₁ table₁ r
