-- A block's table of keys, what a block holds so far, and what one line does in a block.
-- (Document 01, "Blocks": "Inside a block lines come in any order, each key once, all required, unless said.")
use Rattle.std.specs.Prelude.{ℕ, suc, Bool, true, false, cond, ◌&&◌, ◌||◌, not, List, [], ◌∷◌, map, leb, get_or, set, Option, Some, None}
use Prim.Native.String as S
use Rattle.rules.specs.declared.Digits.{Digits}
use Rattle.rules.specs.Base.{bytes, is_some, same}
use Rattle.rules.specs.RefusalNumbers.{Got, got, bad, unless, map_g, and_then}
use Rattle.rules.specs.Lines.{Rest, Form, ignored, wrong, close, eof, keyed, Shape, opener, no_content, content, opening, formless, shape_of, free_shape_of}
use Rattle.rules.specs.Lines.{has_form}
use Rattle.rules.specs.RangeClass.{digits, reaches}
use Rattle.rules.specs.Values.{Value, empty, nums, Known, Kind, values, text, word, volume_name, sheet, ratio, serials, wire_serial, symbol_circle, nothing, opens, headed, either}
use Rattle.rules.specs.Values.{is_free, read_kind, amount_at}

-- ── a row ──
-- how often a key may stand in its block
pub data Times : Type 0 where
  once : Times  -- twice is 7
  up_to : ℕ → Times  -- one too many is 11
  any_number : Times

pub record Rule : Type 0 where
  pub key : List ℕ
  pub holds : Kind
  pub may : Bool  -- may be empty
  pub least : Digits  -- the range digits from which on it is allowed, the class digits from which on it is known
  pub must : Bool  -- required
  pub times : Times
  pub place : ℕ  -- where its values go in the record, 0 for nowhere
  pub state : ℕ  -- where its state goes, 0 for nowhere

-- a row as most are: not empty, at every range, required, once
abbrev pub row : S.String → Kind → ℕ → Rule
row k d p = record { key = bytes k; holds = d; may = false; least = digits 0 0; must = true; times = once; place = p; state = 0 }

-- rows that differ from that
abbrev pub may_be_empty : Rule → Rule
may_be_empty r =
    record { key = r.key; holds = r.holds; may = true; least = r.least; must = r.must; times = r.times; place = r.place; state = r.state }

abbrev pub from : ℕ → ℕ → Rule → Rule
from m l r =
    record { key = r.key; holds = r.holds; may = r.may; least = digits m l; must = r.must; times = r.times; place = r.place; state = r.state }

abbrev pub optional : Rule → Rule
optional r =
    record { key = r.key; holds = r.holds; may = r.may; least = r.least; must = false; times = r.times; place = r.place; state = r.state }

abbrev pub repeated : Times → Rule → Rule
repeated n r =
    record { key = r.key; holds = r.holds; may = r.may; least = r.least; must = false; times = n; place = r.place; state = r.state }

abbrev pub state_at : ℕ → Rule → Rule
state_at q r =
    record { key = r.key; holds = r.holds; may = r.may; least = r.least; must = r.must; times = r.times; place = r.place; state = q }

-- ── finding a row ──
pub data Found : Type 0 where
  absent : Found
  found : ℕ → Rule → Found

abbrev pub further : Found → Found
further absent = absent
further (found i r) = found (suc i) r

abbrev pub find : List ℕ → List Rule → Found
find k [] = absent
find k (r ∷ rs) = cond (same k r.key) (found 0 r) (further (find k rs))

-- ── what a block holds so far ──
-- for each row what its line held
abbrev pub Slots : Type 0
Slots = List (Option Value)

abbrev pub blank : List Rule → Slots
blank [] = []
blank (r ∷ rs) = None ∷ blank rs

-- a block's own slots, and then those of each of its inner parts
abbrev pub Held : Type 0
Held = List Slots

abbrev pub part_of : Held → ℕ → Slots
part_of h p = get_or h p []

abbrev pub enter : Held → ℕ → ℕ → Value → Held
enter h p j v = set h p (set (part_of h p) j (Some v))

-- the rows that are there: those whose line was read
abbrev pub rows_there : Slots → List Bool
rows_there s = map is_some s

-- in a list of n items: may a row take no more? (Rows of a list stand up to so many times or any number of times, none of them once.)
abbrev pub limit_reached : ℕ → Times → Bool
limit_reached n once = false
limit_reached n (up_to m) = leb m n
limit_reached n any_number = false

-- the rows of a list of n items that may take no more
abbrev pub rows_at_limit : ℕ → List Rule → List Bool
rows_at_limit n t = map (λ r. limit_reached n r.times) t

abbrev pub slot_value : Option Value → Value
slot_value None = empty
slot_value (Some v) = v

-- what the row of a key holds
abbrev pub held_at : Found → Slots → Option Value
held_at absent s = None
held_at (found i r) s = get_or s i None

abbrev pub held : S.String → List Rule → Slots → Option Value
held k t s = held_at (find (bytes k) t) s

-- its first number, 0 where it is not written
abbrev pub number_of : S.String → List Rule → Slots → ℕ
number_of k t s = amount_at (slot_value (held k t s)) 0

-- ── the form that a key asks for (5) ──
abbrev pub is_content : Shape → Bool
is_content opener = false
is_content no_content = false
is_content (content at c) = true
is_content (opening at c) = false
is_content formless = false

abbrev pub is_empty : Shape → Bool
is_empty opener = false
is_empty no_content = true
is_empty (content at c) = false
is_empty (opening at c) = false
is_empty formless = false

abbrev pub is_opener : Shape → Bool
is_opener opener = true
is_opener no_content = false
is_opener (content at c) = false
is_opener (opening at c) = false
is_opener formless = false

abbrev pub is_opening : Shape → Bool
is_opening opener = false
is_opening no_content = false
is_opening (content at c) = false
is_opening (opening at c) = true
is_opening formless = false

-- "`=000` alone, or 001 opening (001 alone or 000 opened, 5)"
abbrev pub is_either : Shape → Bool
is_either opener = false
is_either no_content = false
is_either (content at c) = not (same c (bytes "001"))
is_either (opening at c) = not (same c (bytes "000"))
is_either formless = false

abbrev pub fits : Kind → Bool → Shape → Bool
fits (values p ps a) may s = is_content s || (may && is_empty s)
fits (text n b) may s = is_content s || (may && is_empty s)
fits (word n b) may s = is_content s || (may && is_empty s)
fits volume_name may s = is_content s || (may && is_empty s)
fits sheet may s = is_content s || (may && is_empty s)
fits ratio may s = is_content s || (may && is_empty s)
fits serials may s = is_content s || (may && is_empty s)
fits wire_serial may s = is_content s || (may && is_empty s)
fits symbol_circle may s = is_content s || (may && is_empty s)
fits nothing may s = is_empty s
fits (opens i) may s = is_opener s
fits (headed i p) may s = is_opening s
fits (either i) may s = is_either s

abbrev pub shape_for : Rule → Rest → Shape
shape_for r c = cond (is_free r.holds) (free_shape_of c) (shape_of c)

-- ── what one line does in a block ──
pub data Act : Type 0 where
  stay : Act  -- nothing
  entry : ℕ → Value → Act  -- this row holds this
  begin : ℕ → ℕ → Value → Act  -- the same, and the inner block of that number opens
  shut : Act  -- the block, or the inner part that is open, closes
  refuse : ℕ → Act  -- it breaks the rule of that number

abbrev pub or_refuse : Got Act → Act
or_refuse (got a) = a
or_refuse (bad n) = refuse n

-- the number of the inner block that a row opens
abbrev pub inner_of : Kind → ℕ
inner_of (values p ps a) = 0
inner_of (text n b) = 0
inner_of (word n b) = 0
inner_of volume_name = 0
inner_of sheet = 0
inner_of ratio = 0
inner_of serials = 0
inner_of wire_serial = 0
inner_of symbol_circle = 0
inner_of nothing = 0
inner_of (opens i) = i
inner_of (headed i p) = i
inner_of (either i) = i

-- the content of a line that has the form its key asks for (so `formless` is never reached)
abbrev pub read_shape : Known → ℕ → Rule → Shape → Got Act
read_shape k j r opener = got (begin (inner_of r.holds) j (nums []))
read_shape k j r no_content = got (entry j empty)
read_shape k j r (content at c) = map_g (entry j) (read_kind k r.holds at c)
read_shape k j r (opening at c) = map_g (begin (inner_of r.holds) j) (read_kind k r.holds at c)
read_shape k j r formless = bad 5

abbrev pub not_twice : Times → Bool → Bool
not_twice once full = not full
not_twice (up_to n) full = true
not_twice any_number full = true

-- A line with a key of the table, in a file of the range d; `full`: its row may take no more. Two tests are out of ascending order:
-- - 6 before the 5 of a form that is not that key's. A key that is not allowed has only 6 (and 5 where the line has no form at all), so the
--   two never apply together. A rule that judged the form of a forbidden key too would have to stand before 6.
-- - the 11 of one item too many behind the value's own numbers. Only points can be too many, and a point's values give 10, which is
--   smaller, or 11 too. A repeated row whose values could give 12 or more would need its 11 before them.
abbrev pub act_row : Known → Digits → Bool → ℕ → Rule → Rest → Act
act_row k d full j r c =
    or_refuse
    (unless (has_form (shape_for r c)) 5
    (unless (reaches d r.least) 6
    (unless (fits r.holds r.may (shape_for r c)) 5
    (unless (not_twice r.times full) 7
    (and_then (read_shape k j r (shape_for r c)) λ a. unless (not full) 11 (got a))))))

-- a line with a key that is not known here: 6, and 5 where it has no form
abbrev pub act_unknown : Rest → Act
act_unknown c = or_refuse (unless (has_form (shape_of c)) 5 (bad 6))

abbrev pub act_found : Known → Digits → List Bool → Rest → Found → Act
act_found k d full c absent = act_unknown c
act_found k d full c (found j r) = act_row k d (get_or full j false) j r c

-- "8: something required missing, at the closing line"
abbrev pub present : Digits → Rule → Bool → Bool
present d r there = not r.must || (not (reaches d r.least) || there)

abbrev pub complete : Digits → List Rule → List Bool → Bool
complete d [] bs = true
complete d (r ∷ rs) [] = true
complete d (r ∷ rs) (b ∷ bs) = present d r b && complete d rs bs

-- a line in a block of the table t, in a file of the range d, where `full` tells which rows may take no more: `rows_there` in a block whose
-- rows stand once, `rows_at_limit` in a list. At `}` the same rows are asked whether they are there: only rows that stand once are required.
abbrev pub act : Known → List Rule → Digits → List Bool → Form → Act
act k t d full ignored = stay
act k t d full (wrong n) = refuse n
act k t d full close = cond (complete d t full) shut (refuse 8)
act k t d full eof = refuse 9
act k t d full (keyed key c) = act_found k d full c (find key t)
