-- Demand 3, its words: of two front ends, one class not above the other in either digit, same spool, tables of equal length. "If the
-- higher accepts, the lower accepts with the same records, except that attributes the file's range allows and the lower doesn't know
-- are marked unread. If the lower refuses, the higher refuses too, at the same line or before it." Document 02: "Demand 3 is read with
-- both parts, digit by digit; of a wire that the lower class skips whole, the records at its own line stand as said for 0 and those of
-- later lines are left out of its list".
use Rattle.std.specs.Prelude.{ℕ, suc, ◌-◌, ◌≤◌, Bool, true, false, cond, ◌&&◌, ◌||◌, not, List, [], ◌∷◌, ◌++◌, map, ◌≡◌, eqb, leb, ltb, ℤ, pos, negsuc, length, get_or, set, take, replicate, Some, Ok, Err}
use Rattle.rules.specs.declared.Digits.{Digits}
use Rattle.rules.specs.declared.Class.{Class}
use Rattle.rules.specs.declared.Refusal.{Refusal}
use Rattle.rules.specs.Base.{has_number}
use Rattle.rules.specs.RangeClass.{digits, class_of}
use Rattle.rules.specs.Sets.{Set, range_of, wires_of}
use Rattle.rules.specs.LineByLine.{accepted}
use Rattle.rules.specs.Answers.{read_outcome, read_answer, read_records}
use Rattle.rules.specs.RecordTable.{kind_placed, kind_wire, kind_wire_more, kind_edge, unread_mark}

-- ── classes ──
-- one part not above the other in either digit
pub record NotAbove (low high : Digits) : Type 0 where
  pub middles : low.middle ≤ high.middle
  pub lasts : low.last ≤ high.last

-- one class not above the other: in none of the four digits
pub record ClassNotAbove (low high : Class) : Type 0 where
  pub symbols : NotAbove low.symbols high.symbols
  pub wires : NotAbove low.wires high.wires

-- two listed classes, by their numbers and wire parts
pub record Classes (lo lo_wire hi hi_wire : ℕ) (low high : Class) : Type 0 where
  pub lower : class_of lo lo_wire ≡ Some low
  pub higher : class_of hi hi_wire ≡ Some high
  pub below : ClassNotAbove low high

-- "1 to 8 or 11 to 18, or 0": the wire part is 0, and "A class with 0 skips whole wires"
abbrev pub without_wires : Class → Bool
without_wires c = eqb c.wires.middle 0 && eqb c.wires.last 0

-- ── what may differ in a record, and what it is instead ──
-- "Digits count one by one": a file's range allows, and a class knows, what asks for no more than its digits
abbrev pub has_digits : Digits → Digits → Bool
has_digits d l = leb l.middle d.middle && leb l.last d.last

-- what the file's range d allows and the class doesn't know
abbrev pub unknown_to : Digits → Digits → Digits → Bool
unknown_to c d l = has_digits d l && not (has_digits c l)

-- an attribute of a placed symbol or of a wire: the digits from which on it is known, its places in the record, its state's place
pub record Attribute : Type 0 where
  pub least : Digits
  pub places : List ℕ
  pub state : ℕ

abbrev pub attribute : Digits → List ℕ → ℕ → Attribute
attribute l ps q = record { least = l; places = ps; state = q }

-- "16 placed symbol", by E_sym
abbrev pub attributes : List Attribute
attributes =
    attribute (digits 0 2) (16 ∷ 17 ∷ 18 ∷ 19 ∷ 20 ∷ 21 ∷ 22 ∷ 23 ∷ 24 ∷ 25 ∷ []) 26  -- text
    ∷ attribute (digits 0 3) (10 ∷ []) 27  -- hight
    ∷ attribute (digits 0 4) (11 ∷ []) 28  -- pos
    ∷ attribute (digits 0 5) (12 ∷ 13 ∷ []) 29  -- circuit
    ∷ attribute (digits 1 0) (14 ∷ 15 ∷ []) 30  -- serial
    ∷ []

-- 18, a wire's first record, by E_wire: how many there are and the values of those that are shown (of direc two, of the others one); its
-- attributes stand in the order of their states, from `first_state` on
abbrev pub wire_attributes : List Attribute
wire_attributes =
    attribute (digits 0 2) (6 ∷ 7 ∷ 8 ∷ 9 ∷ 10 ∷ 11 ∷ 12 ∷ 13 ∷ 14 ∷ []) 26  -- direc
    ∷ attribute (digits 0 3) (15 ∷ 16 ∷ 17 ∷ 18 ∷ []) 27  -- piend
    ∷ attribute (digits 0 4) (19 ∷ 20 ∷ 21 ∷ 22 ∷ 23 ∷ 24 ∷ []) 28  -- num
    ∷ attribute (digits 0 6) (25 ∷ []) 29  -- length
    ∷ []

-- 19, its second: how many texts and ten numbers of the first, circuit, power, the serial and its partners
abbrev pub more_attributes : List Attribute
more_attributes =
    attribute (digits 0 5) (5 ∷ 6 ∷ 7 ∷ 8 ∷ 9 ∷ 10 ∷ 11 ∷ 12 ∷ 13 ∷ 14 ∷ 15 ∷ []) 26  -- text
    ∷ attribute (digits 0 7) (16 ∷ 17 ∷ []) 27  -- circuit
    ∷ attribute (digits 0 8) (18 ∷ 19 ∷ 20 ∷ []) 28  -- power
    ∷ attribute (digits 1 0) (21 ∷ 22 ∷ 23 ∷ 24 ∷ 25 ∷ []) 29  -- serial
    ∷ []

abbrev pub instead : Bool → ℤ → ℤ → ℤ
instead unknown other z = cond unknown other z

abbrev pub zero_at : Bool → List ℕ → List ℤ → List ℤ
zero_at unknown [] r = r
zero_at unknown (p ∷ ps) r = set (zero_at unknown ps r) p (instead unknown (pos 0) (get_or r p (pos 0)))

-- "States: 0 absent, 1 empty, 2 given, 3 unread."
abbrev pub state_unread : ℤ
state_unread = pos 3

-- an attribute that the file's range d allows and the class doesn't know: zeros, and state 3
abbrev pub unread_one : Bool → Attribute → List ℤ → List ℤ
unread_one unknown a r = set (zero_at unknown a.places r) a.state (instead unknown state_unread (get_or r a.state (pos 0)))

abbrev pub unread_each : Digits → Digits → List Attribute → List ℤ → List ℤ
unread_each c d [] r = r
unread_each c d (a ∷ as') r = unread_one (unknown_to c d a.least) a (unread_each c d as' r)

-- a record is of one of these kinds
abbrev pub is_of : List ℕ → List ℤ → Bool
is_of kinds [] = false
is_of kinds (pos k ∷ r) = has_number k kinds
is_of kinds (negsuc k ∷ r) = false

-- "16 placed symbol"; "18 and 19, both at the wire's line"; a wire's lines and arcs, which have lines of their own
abbrev pub placed_kinds : List ℕ
placed_kinds = kind_placed ∷ []

abbrev pub first_wire_kinds : List ℕ
first_wire_kinds = kind_wire ∷ []

abbrev pub second_wire_kinds : List ℕ
second_wire_kinds = kind_wire_more ∷ []

abbrev pub edge_kinds : List ℕ
edge_kinds = kind_edge ∷ suc kind_edge ∷ []

-- "marked unread, zeros from place 4 on but for that mark and the states": kind, owner, volume and line stay; at 26 to 29 the states, 3 of
-- each attribute that E_wire allows; the mark is the last of the 32 numbers
abbrev pub zeros_from : ℕ
zeros_from = 4

abbrev pub first_state : ℕ
first_state = 26

abbrev pub skipped_state : Digits → Attribute → ℤ
skipped_state d a = cond (has_digits d a.least) state_unread (pos 0)

abbrev pub passed_over : Digits → List Attribute → List ℤ → List ℤ
passed_over d as' r = take zeros_from r ++ replicate (first_state - zeros_from) (pos 0) ++ map (skipped_state d) as' ++ pos 0 ∷ unread_mark ∷ []

-- one of the two records of a wire's own line: skipped whole, or read
abbrev pub unread_wire : Class → Digits → List Attribute → List ℤ → List ℤ
unread_wire c d as' r = cond (without_wires c) (passed_over d as' r) (unread_each c.wires d as' r)

-- a record of a higher class as a class has it, in a file of these two ranges
abbrev pub unread_in : Class → Digits → Digits → List ℤ → List ℤ
unread_in c symbols wires r =
    cond (is_of placed_kinds r) (unread_each c.symbols symbols attributes r)
    (cond (is_of first_wire_kinds r) (unread_wire c wires wire_attributes r)
    (cond (is_of second_wire_kinds r) (unread_wire c wires more_attributes r) r))

-- in a file that reads as this set
abbrev pub unread : Class → Set → List ℤ → List ℤ
unread c s r = unread_in c (range_of s) (wires_of s) r

-- ── which records there are ──
-- "those of later lines are left out of its list"
abbrev pub keeps : Class → List ℤ → Bool
keeps c r = not (is_of edge_kinds r && without_wires c)

abbrev pub filter : {A : Type 0} → (A → Bool) → List A → List A
filter p [] = []
filter p (a ∷ s) = cond (p a) (a ∷ filter p s) (filter p s)

-- the records of a higher class as a class has them
abbrev pub lowered : Class → Set → List (List ℤ) → List (List ℤ)
lowered c s rs = map (unread c s) (filter (keeps c) rs)

-- ── the two halves ──
-- "if the higher accepts, the lower accepts with the same records, except .."
abbrev pub LowerAccepts : Type 0
LowerAccepts =
    (lo lo_wire hi hi_wire : ℕ) (low high : Class) → Classes lo lo_wire hi hi_wire low high
    → (len : ℕ) (spool : List ℕ) (set : Set) → read_outcome hi hi_wire len spool ≡ accepted set
    → (read_answer lo lo_wire len spool ≡ Ok (length (lowered low set (read_records hi hi_wire len spool))))
    × (read_records lo lo_wire len spool ≡ lowered low set (read_records hi hi_wire len spool))

-- a place in the set is at or before another
abbrev pub at_or_before : Refusal → Refusal → Bool
at_or_before q r = ltb q.volume r.volume || (eqb q.volume r.volume && leb q.line r.line)

-- "If the lower refuses, the higher refuses too, at the same line or before it."
abbrev pub HigherRefuses : Type 0
HigherRefuses =
    (lo lo_wire hi hi_wire : ℕ) (low high : Class) → Classes lo lo_wire hi hi_wire low high
    → (len : ℕ) (spool : List ℕ) (r : Refusal) → read_answer lo lo_wire len spool ≡ Err r
    → (q : Refusal) × (read_answer hi hi_wire len spool ≡ Err q) × (at_or_before q r ≡ true)
