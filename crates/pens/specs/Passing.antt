-- A wire's lines gone over for one key of its table: what is written of them.
use Rattle.std.specs.Prelude.{ℕ, ◌+◌, ◌≤◌, true, cond, ◌≡◌, List, [], ◌∷◌, eqb, leb, length, set, Some}
use Rattle.rules.specs.Base.{bytes, all}
use Rattle.rules.specs.Spool.{most_bytes, most_in_line}
use Rattle.rules.specs.Lines.{Rest, Form, ignored, wrong, close, eof, keyed, form_of}
use Rattle.rules.specs.Values.{Value, Known}
use Rattle.rules.specs.Rows.{Rule, Slots, blank, found, find}
use Rattle.rules.specs.Figures.{wire_table, wire_text_table, wire_text_row}
use Rattle.rules.specs.FixedForm.{Text, no_inner, line_of, show_slots}
use Rattle.lines.specs.LineLook.{lines_in, PartOf}
use Rattle.prints.specs.Reading.{Reads}

-- ── the lines of a volume ──
-- the lines left, from a place on, of the volume that is the part body of the spool from start on
pub record LinesAt (s body : List ℕ) (start at : ℕ) (ls : List (List ℕ)) : Type 0 where
  pub short : length s ≤ most_bytes
  pub part : PartOf s start body
  pub begun : start ≤ at
  pub here : at ≤ start + length body
  pub lines : lines_in start at body ≡ Some ls
  pub narrow : all (λ l. leb (length l) most_in_line) ls ≡ true

-- their forms
abbrev pub forms_of : ℕ → List (List ℕ) → List Form
forms_of at [] = []
forms_of at (l ∷ ls) = form_of at l ∷ forms_of (at + length l + 2) ls

-- ── one line ──
-- what is open in a wire: nothing, or a text with these slots
pub data Amid : Type 0 where
  outside : Amid
  inside : Slots → Amid

-- behind a line directly in the wire, by its row
abbrev pub amid_by : ℕ → Amid
amid_by row = cond (eqb row wire_text_row) (inside (blank wire_text_table)) outside

-- k: what is known; j: the row that is written; on: what the lines behind write, by what is open behind this one
module _ (k : Known) (j : ℕ) (on : Amid → Text → Type 0) where
  -- directly in the wire
  pub record OwnLine (key : List ℕ) (c : Rest) (t : Text) : Type 0 where
    pub row : ℕ
    pub rule : Rule
    pub value : Value
    pub rest : Text
    pub found-so : find key wire_table ≡ found row rule
    pub reads : Reads k rule c value
    pub text : t ≡ cond (eqb row j) (line_of k rule value ∷ rest) rest
    pub goes : on (amid_by row) rest

  -- in its text
  pub record TextLine (o : Slots) (key : List ℕ) (c : Rest) (t : Text) : Type 0 where
    pub row : ℕ
    pub rule : Rule
    pub value : Value
    pub found-so : find key wire_text_table ≡ found row rule
    pub reads : Reads k rule c value
    pub goes : on (inside (set o row (Some value))) t

  -- the `}` of that
  pub record TextShut (o : Slots) (t : Text) : Type 0 where
    pub rest : Text
    pub text : t ≡ cond (eqb j wire_text_row) (show_slots k wire_text_table o no_inner (bytes "}" ∷ rest)) rest
    pub goes : on outside rest

  -- any line, up to the wire's `}`
  abbrev pub PassLine : Amid → Form → Text → Type 0
  PassLine a ignored t = on a t
  PassLine a (wrong n) t = ⊥
  PassLine a eof t = ⊥
  PassLine outside close t = t ≡ []
  PassLine (inside o) close t = TextShut o t
  PassLine outside (keyed key c) t = OwnLine key c t
  PassLine (inside o) (keyed key c) t = TextLine o key c t

-- ── all lines ──
-- what they write where this is open, if all of them are read
abbrev pub Pass : Known → ℕ → List Form → Amid → Text → Type 0
Pass k j [] a t = ⊥
Pass k j (f ∷ fs) a t = PassLine k j (Pass k j fs) a f t
