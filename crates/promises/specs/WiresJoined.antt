-- What the electrician reads a file's joins from (document 02, wish 1): "At 4 every end is joined to the next start, tested for equal
-- values between two lines, and recorded as untested where an arc takes part." Said of the records of an accepted set: which of them are a
-- wire's, and how each of its lines and arcs is joined to the one before it. The numbers stand here again, and not by the names that the
-- definitions have for them: a definition that took another digit or another place would not keep this.
use Rattle.std.specs.Prelude.{ℕ, zero, suc, ◌/◌, Bool, true, false, cond, ◌&&◌, ◌||◌, not, List, [], ◌∷◌, ◌++◌, map, ◌≡◌, eqb, ℤ, pos, length, Option, Some, None}
use Rattle.rules.specs.Base.{flat, within}
use Rattle.rules.specs.Values.{Num, value_at}
use Rattle.rules.specs.Rows.{part_of, number_of}
use Rattle.rules.specs.Blocks.{elec_table}
use Rattle.rules.specs.Sets.{Edge, Figure, plain, chain, lettering, placed, wired, passed, Set, first_contents}
use Rattle.rules.specs.LineByLine.{accepted}
use Rattle.rules.specs.Answers.{read_outcome, read_records}
use Rattle.promises.specs.OwnNumbers.{figures_in}
use Rattle.promises.specs.PlacesApart.{kind_of}
use Rattle.promises.specs.TableTexts.{number_at}

-- ── one line or arc ──
abbrev pub is_line : List ℤ → Bool
is_line r = eqb (kind_of r) 20

abbrev pub is_element : List ℤ → Bool
is_element r = is_line r || eqb (kind_of r) 21

-- a line's record has its start at 5 and 6, its end at 7 and 8
pub record Meets (former r : List ℤ) : Type 0 where
  pub x : number_at former 7 ≡ number_at r 5
  pub y : number_at former 8 ≡ number_at r 6

-- how a record says that it is joined: not said, tested, untested
abbrev pub join_in : List ℤ → ℤ
join_in r = number_at r 11

-- between two lines the join is tested, and nowhere else
abbrev pub Tested : Bool → List ℤ → List ℤ → Type 0
Tested true former r = (join_in r ≡ pos 1) × Meets former r
Tested false former r = join_in r ≡ pos 2

-- where ends are joined; the first of a wire is joined to none
abbrev pub JoinedTo : Bool → Option (List ℤ) → List ℤ → Type 0
JoinedTo false former r = join_in r ≡ pos 0
JoinedTo true None r = join_in r ≡ pos 0
JoinedTo true (Some former) r = Tested (is_line former && is_line r) former r

-- behind the one before it, in the layer and the volume of its wire
pub record Element (ends : Bool) (own : List ℤ) (former : Option (List ℤ)) (r : List ℤ) : Type 0 where
  pub kind : is_element r ≡ true
  pub layer : number_at r 1 ≡ number_at own 1
  pub volume : number_at r 2 ≡ number_at own 2
  pub joined : JoinedTo ends former r

abbrev pub Elements : Bool → List ℤ → Option (List ℤ) → List (List ℤ) → Type 0
Elements ends own former [] = Unit {0}
Elements ends own former (r ∷ rs) = Element ends own former r × Elements ends own (Some r) rs

-- ── one wire: its own two records, and its elements behind them ──
abbrev pub OwnKinds : List ℤ → List ℤ → Type 0
OwnKinds own more = (kind_of own ≡ 18) × (kind_of more ≡ 19)

abbrev pub OwnMarks : ℤ → List ℤ → List ℤ → Type 0
OwnMarks mark own more = (number_at own 31 ≡ mark) × (number_at more 31 ≡ mark)

pub record WireRead (digit : ℕ) (own more : List ℤ) (elements : List (List ℤ)) : Type 0 where
  pub kinds : OwnKinds own more
  pub unmarked : OwnMarks (pos 0) own more
  pub count : number_at own 5 ≡ pos (length elements)
  pub first : number_at own 30 ≡ pos digit
  pub joined : Elements (eqb digit 4) own None elements

pub record WireSkipped (own more : List ℤ) : Type 0 where
  pub kinds : OwnKinds own more
  pub marked : OwnMarks (pos 3) own more

-- ── all records of a set: no record of a wire stands elsewhere ──
abbrev pub is_of_wire : List ℤ → Bool
is_of_wire r = within 18 21 (kind_of r)

-- whether wires are read, and E_wire's first digit
pub data WiresIn (reads : Bool) (digit : ℕ) : List (List ℤ) → Type 0 where
  no_record : WiresIn reads digit []
  another : {r : List ℤ} {rs : List (List ℤ)} → is_of_wire r ≡ false → WiresIn reads digit rs → WiresIn reads digit (r ∷ rs)
  read_wire : {own more : List ℤ} (elements : List (List ℤ)) {rs : List (List ℤ)} → reads ≡ true → WireRead digit own more elements
      → WiresIn reads digit rs → WiresIn reads digit (own ∷ more ∷ elements ++ rs)
  skipped_wire : {own more : List ℤ} {rs : List (List ℤ)} → reads ≡ false → WireSkipped own more
      → WiresIn reads digit rs → WiresIn reads digit (own ∷ more ∷ rs)

-- E_wire of the file, of three digits
abbrev pub first_digit : Set → ℕ
first_digit s = number_of "E_wire" elec_table (part_of (first_contents s).file 3) / 100

-- at every class, with every table: "A class with 0 skips whole wires"
abbrev pub WiresJoined : Type 0
WiresJoined = (class wire len : ℕ) (spool : List ℕ) (s : Set) → read_outcome class wire len spool ≡ accepted s
    → WiresIn (not (eqb wire 0)) (first_digit s) (read_records class wire len spool)

-- so of two records of lines that follow each other, where the later one says that its join was tested, the later starts where the former ends
abbrev pub LinesMeet : Type 0
LinesMeet = (class wire len : ℕ) (spool : List ℕ) (s : Set) → read_outcome class wire len spool ≡ accepted s
    → (before : List (List ℤ)) (former r : List ℤ) (after : List (List ℤ)) → read_records class wire len spool ≡ before ++ former ∷ r ∷ after
    → is_line former ≡ true → is_line r ≡ true → join_in r ≡ pos 1 → Meets former r

-- ── what the record of a line or arc shows: its kind, and its values from place 4 on, five of a line and seven of an arc ──
abbrev pub numbers_from : ℕ → List ℤ → ℕ → List ℤ
numbers_from zero r i = []
numbers_from (suc n) r i = number_at r i ∷ numbers_from n r (suc i)

abbrev pub element_in : List ℤ → List (List ℤ)
element_in r = cond (is_element r) ((pos (kind_of r) ∷ numbers_from (cond (is_line r) 5 7) r 4) ∷ []) []

-- what was read of it: rows 0 and 1 of a wire's block are `line` and `circle`
abbrev pub values_from : ℕ → List Num → ℕ → List ℤ
values_from zero v i = []
values_from (suc n) v i = value_at v i ∷ values_from n v (suc i)

abbrev pub element_of : Edge → List ℤ
element_of e = cond (eqb e.row 0) (pos 20 ∷ values_from 5 e.values 0) (pos 21 ∷ values_from 7 e.values 0)

abbrev pub elements_of : Figure → List (List ℤ)
elements_of (plain n j v) = []
elements_of (chain n ps) = []
elements_of (lettering n s) = []
elements_of (placed n h) = []
elements_of (wired n w) = map element_of w.elements
elements_of (passed n) = []

-- so kind 20 is a `line=` and kind 21 a `circle=` of a wire that was read, with its values, one after the other and none left out
abbrev pub ElementsShown : Type 0
ElementsShown = (class wire len : ℕ) (spool : List ℕ) (s : Set) → read_outcome class wire len spool ≡ accepted s
    → flat (map element_in (read_records class wire len spool)) ≡ flat (map elements_of (figures_in s))
