-- A circle's turn (document 02, wish 3): "Inside a symbol's `element`, a circle from 0 to 360 may have six values. Its turn is recorded as -1
-- .. Arcs still need seven". Said of the records of an accepted set, each by the line that it came from: the line of the spool that its
-- volume and its line number name. The numbers stand here again, and not by the names that the definitions have for them: a definition that
-- took another kind, place or number would not keep this.
use Rattle.std.specs.Prelude.{ℕ, suc, ◌+◌, ◌≤◌, Bool, true, false, cond, List, [], ◌∷◌, ◌++◌, ◌≡◌, eqb, ℤ, pos, negsuc, length, get_or, Some, Ok}
use Prim.Native.String as S
use Rattle.rules.specs.Base.{bytes, has_number, split}
use Rattle.rules.specs.Spool.{Volume, volumes_of, lines_of}
use Rattle.rules.specs.Lines.{unindent}
use Rattle.rules.specs.Numbers.{read_fixed, read_decimal}
use Rattle.rules.specs.Sets.{Set}
use Rattle.rules.specs.LineByLine.{accepted}
use Rattle.rules.specs.Answers.{read_outcome, read_records}
use Rattle.promises.specs.PlacesApart.{kind_of}
use Rattle.promises.specs.ReaderCalls.{Call}
use Rattle.promises.specs.TableTexts.{first_records, number_at}

-- ── a record's own line ──
-- an item of a list by its number, from 1
pub data Item {A : Type 0} : List A → ℕ → A → Type 0 where
  first : {a : A} {s : List A} → Item (a ∷ s) 1 a
  later : {a b : A} {s : List A} {n : ℕ} → Item s n a → Item (b ∷ s) (suc n) a

-- "2 volume from 1, 3 line": what stands in that line of that volume, without the blanks before it
pub record OwnLine (spool : List ℕ) (r : List ℤ) (text : List ℕ) : Type 0 where
  pub volumes : List Volume
  pub found : volumes_of spool ≡ Some volumes
  pub number : ℕ
  pub shown : number_at r 2 ≡ pos number
  pub volume : Volume
  pub there : Item volumes number volume
  pub lines : List (List ℕ)
  pub cut : lines_of volume.body ≡ Some lines
  pub line_number : ℕ
  pub line_shown : number_at r 3 ≡ pos line_number
  pub line : List ℕ
  pub within : Item lines line_number line
  pub stands : unindent line ≡ text

-- it stands there under this key
pub record Under (spool : List ℕ) (r : List ℤ) (key : S.String) : Type 0 where
  pub content : List ℕ
  pub own : OwnLine spool r (bytes key ++ content)

-- ── a circle's values and its turn ──
-- what stands between the commas, from 0
abbrev pub value_in : List ℕ → ℕ → List ℕ
value_in c i = get_or (split 44 c) i []

-- "type,cx,cy,radius,start,end" from place 4 on, each as it is written
pub record ShowsValues (r : List ℤ) (c : List ℕ) : Type 0 where
  pub type : ℕ
  pub type_written : read_fixed 4 (value_in c 0) ≡ Some type
  pub type_shown : number_at r 4 ≡ pos type
  pub decimals : (i : ℕ) → i ≤ 4 → read_decimal (value_in c (suc i)) ≡ Some (number_at r (5 + i))

-- six values: from 0 to 360, and no turn
pub record Six (r : List ℤ) (c : List ℕ) : Type 0 where
  pub count : length (split 44 c) ≡ 6
  pub start : number_at r 8 ≡ pos 0
  pub end : number_at r 9 ≡ pos 3600000
  pub turn : number_at r 10 ≡ negsuc 0

-- seven: the seventh is a digit, 0 or 1
pub record Seven (r : List ℤ) (c : List ℕ) : Type 0 where
  pub count : length (split 44 c) ≡ 7
  pub digit : ℕ
  pub most : digit ≤ 1
  pub written : value_in c 6 ≡ (48 + digit) ∷ []
  pub turn : number_at r 10 ≡ pos digit

-- whether six may stand
pub data Turned (r : List ℤ) (c : List ℕ) : Bool → Type 0 where
  six : Six r c → Turned r c true
  seven : {may_six : Bool} → Seven r c → Turned r c may_six

pub record Circle (spool : List ℕ) (may_six : Bool) (r : List ℤ) : Type 0 where
  pub content : List ℕ
  pub own : OwnLine spool r (bytes "circle=" ++ content)
  pub values : ShowsValues r content
  pub turned : Turned r content may_six

-- ── every record ──
-- The figures that are one line each, by the kinds of their records: "10 line, 11 circle, 12 ellipse, 13 point", "plus 20 inside a symbol", and a
-- wire's lines and arcs, 20 and 21. Six values may stand inside a symbol alone.
pub data OneLine : Type 0 where
  is_line is_ellipse is_point : OneLine
  is_circle : Bool → OneLine
  another : OneLine

abbrev pub one_line_of : ℕ → OneLine
one_line_of kind =
    cond (has_number kind (10 ∷ 20 ∷ 30 ∷ [])) is_line
    (cond (has_number kind (12 ∷ 32 ∷ [])) is_ellipse
    (cond (has_number kind (13 ∷ 33 ∷ [])) is_point
    (cond (has_number kind (11 ∷ 21 ∷ [])) (is_circle false)
    (cond (eqb kind 31) (is_circle true) another))))

-- each stands under its key, so that none is shown as another's kind
abbrev pub Says : List ℕ → List ℤ → OneLine → Type 0
Says spool r is_line = Under spool r "line="
Says spool r is_ellipse = Under spool r "ellipse="
Says spool r is_point = Under spool r "point="
Says spool r (is_circle may_six) = Circle spool may_six r
Says spool r another = Unit {0}

abbrev pub AtTheirLines : List ℕ → List (List ℤ) → Type 0
AtTheirLines spool [] = Unit {0}
AtTheirLines spool (r ∷ rs) = Says spool r (one_line_of (kind_of r)) × AtTheirLines spool rs

-- at every class, with every table
abbrev pub Turns : Type 0
Turns = (class wire len : ℕ) (spool : List ℕ) (s : Set) → read_outcome class wire len spool ≡ accepted s
    → AtTheirLines spool (read_records class wire len spool)

-- the same of a call of the reader that is accepted with n records: the first n of its table, and the spool that was lent
abbrev pub CallTurns : Type 0
CallTurns = (call : Call) (n : ℕ) → call.answer ≡ Ok n → AtTheirLines call.spool (first_records n call.after)
