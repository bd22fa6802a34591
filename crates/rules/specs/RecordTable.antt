-- Document 01, "Record table": the records of a set, 32 numbers each, in the order of their lines.
use Rattle.std.specs.Prelude.{ℕ, zero, suc, ◌+◌, ◌/◌, Bool, true, false, cond, List, [], ◌∷◌, ◌++◌, map, eqb, ℤ, pos, length, get_or, set, take, drop, replicate, Option, Some, None}
use Rattle.std.proofs.lemmas.List.Edits.{sets}
use Rattle.rules.specs.declared.Digits.{Digits}
use Rattle.rules.specs.declared.Class.{Class}
use Rattle.rules.specs.Base.{flat}
use Rattle.rules.specs.RangeClass.{digits, digits_of, hides}
use Rattle.rules.specs.Numbers.{value}
use Rattle.rules.specs.Values.{Num, Value, empty, nums, chars, linked, value_at, Kind, values, text, word, volume_name, sheet, ratio, serials, wire_serial, symbol_circle, nothing}
use Rattle.rules.specs.Values.{opens, headed, either}
use Rattle.rules.specs.Rows.{Rule, row, Slots, Held, part_of}
use Rattle.rules.specs.Blocks.{file_tables, drawing_table, symbol_table}
use Rattle.rules.specs.Figures.{figure_table, point_table, text_table, placed_table, placed_tables, wire_table, wire_text_table}
use Rattle.rules.specs.Sets.{Point, Edge, Wire, Figure, plain, chain, lettering, placed, wired, passed, Layer, Drawing, Symbol, LayerBlock, Contents, Set}
use Rattle.rules.specs.Sets.{range_of, wire_range, layer_table_of}

-- ── what a line's value puts into its record ──
-- "Text is byte place in the spool, from 0, and length; 0 and 0 if empty."
abbrev pub numbers : Value → List ℤ
numbers empty = []
numbers (nums v) = map (λ n. n.value) v
numbers (chars at c) = pos at ∷ pos (length c) ∷ []
numbers (linked n ps) = pos n ∷ pos (length ps) ∷ []

abbrev pub numbers_of : Option Value → List ℤ
numbers_of None = []
numbers_of (Some v) = numbers v

-- "States: 0 absent, 1 empty, 2 given, 3 unread."
abbrev pub given : Value → ℤ
given empty = pos 1
given (nums v) = pos 2
given (chars at c) = pos 2
given (linked n ps) = pos 2

abbrev pub state_of : Option Value → ℤ
state_of None = pos 0
state_of (Some v) = given v

-- how many places of the record a row has
abbrev pub columns : Kind → ℕ
columns (values p ps a) = suc (length ps)
columns (text n b) = 2
columns (word n b) = 2
columns volume_name = 2
columns sheet = 2
columns ratio = 2
columns serials = 2
columns wire_serial = 5
columns symbol_circle = 7
columns nothing = 0
columns (opens i) = 0
columns (headed i p) = 1
columns (either i) = 1

-- so many numbers, the missing ones 0
abbrev pub first_or0 : List ℤ → ℤ
first_or0 [] = pos 0
first_or0 (z ∷ zs) = z

abbrev pub others : List ℤ → List ℤ
others [] = []
others (z ∷ zs) = zs

abbrev pub padded : ℕ → List ℤ → List ℤ
padded zero zs = []
padded (suc n) zs = first_or0 zs ∷ padded n (others zs)

-- at a row's places its numbers, at its state's place its state; place 0 is nowhere
abbrev pub put_numbers : ℕ → List ℤ → List ℤ → List ℤ
put_numbers zero zs t = t
put_numbers (suc p) zs t = sets t (suc p) zs

abbrev pub put_state : ℕ → ℤ → List ℤ → List ℤ
put_state zero z t = t
put_state (suc q) z t = set t (suc q) z

abbrev pub put_slot : Rule → Option Value → List ℤ → List ℤ
put_slot r o t = put_state r.state (state_of o) (put_numbers r.place (padded (columns r.holds) (numbers_of o)) t)

abbrev pub first_slot : Slots → Option Value
first_slot [] = None
first_slot (o ∷ s) = o

abbrev pub other_slots : Slots → Slots
other_slots [] = []
other_slots (o ∷ s) = s

abbrev pub put_slots : List Rule → Slots → List ℤ → List ℤ
put_slots [] s t = t
put_slots (r ∷ rs) s t = put_slot r (first_slot s) (put_slots rs (other_slots s) t)

-- the rows of a block and of its inner parts, part by part from number p on
abbrev pub put_parts : ℕ → List (List Rule) → Held → List ℤ → List ℤ
put_parts p [] h t = t
put_parts p (r ∷ rs) h t = put_slots r (part_of h p) (put_parts (suc p) rs h t)

abbrev pub put_held : List (List Rule) → Held → List ℤ → List ℤ
put_held ts h t = put_parts 0 ts h t

-- "An attribute E_sym allows and the class doesn't know has state 3 and zeros."
abbrev pub unread_state : ℕ → Bool → List ℤ → List ℤ
unread_state zero hidden t = t
unread_state (suc q) hidden t = set t (suc q) (cond hidden (pos 3) (get_or t (suc q) (pos 0)))

abbrev pub mark_unread : Digits → Digits → List Rule → List ℤ → List ℤ
mark_unread c d [] t = t
mark_unread c d (r ∷ rs) t = unread_state r.state (hides c d r.least) (mark_unread c d rs t)

-- ── the kinds of records ──
-- "1 header", "2 volume", "3 drawing", "4 symbol", "5 layer"
abbrev pub kind_header : ℕ
kind_header = 1

abbrev pub kind_volume : ℕ
kind_volume = 2

abbrev pub kind_drawing : ℕ
kind_drawing = 3

abbrev pub kind_symbol : ℕ
kind_symbol = 4

abbrev pub kind_layer : ℕ
kind_layer = 5

-- "10 line, 11 circle, 12 ellipse, 13 point": the first of the figures that are a line each, in the order of their rows
abbrev pub kind_line : ℕ
kind_line = 10

-- "14 successive", "15 text", "16 placed symbol", "17 a successive's points"
abbrev pub kind_successive : ℕ
kind_successive = 14

abbrev pub kind_text : ℕ
kind_text = 15

abbrev pub kind_placed : ℕ
kind_placed = 16

abbrev pub kind_point : ℕ
kind_point = 17

-- "A wire's own record, or a fixed number more at the same line": two. "its lines and arcs have records after it": the kind of a line, and
-- behind it that of an arc
abbrev pub kind_wire : ℕ
kind_wire = 18

abbrev pub kind_wire_more : ℕ
kind_wire_more = 19

abbrev pub kind_edge : ℕ
kind_edge = 20

-- "plus 20 inside a symbol"
abbrev pub in_symbol : ℕ
in_symbol = 20

-- "43 hide point"
abbrev pub kind_hidden : ℕ
kind_hidden = 43

-- ── the record at its line: "0 kind, 1 owner, 2 volume from 1, 3 line, .. unused 0" ──
abbrev pub width : ℕ
width = 32

abbrev pub start : ℕ → ℕ → ℕ → ℕ → List ℤ
start kind owner volume line = pos kind ∷ pos owner ∷ pos volume ∷ pos line ∷ replicate 28 (pos 0)

-- "1 header", and "2 volume: this_line, this_ele; after the header"
abbrev pub two_of : List ℤ → List (List ℤ)
two_of t = take width t ∷ drop width t ∷ []

abbrev pub file_records : Bool → ℕ → Contents → List (List ℤ)
file_records true k v = two_of (put_held (file_tables true) v.file (start kind_header 0 k v.line ++ start kind_volume 0 k v.line))
file_records false k v = put_held (file_tables false) v.file (start kind_volume 0 k v.line) ∷ []

-- "3 drawing"
abbrev pub drawing_record : Drawing → List ℤ
drawing_record d = put_slots drawing_table d.own (start kind_drawing 0 1 d.line)

-- "5 layer: letter's byte, number, name": the layers from number n on
abbrev pub layer_record : ℕ → Layer → List ℤ
layer_record n l = sets (start kind_layer n 1 l.line) 5 (pos (get_or l.id 0 0) ∷ pos (value (drop 2 l.id)) ∷ padded 2 (numbers l.name))

abbrev pub layer_records : ℕ → List Layer → List (List ℤ)
layer_records n [] = []
layer_records n (l ∷ ls) = layer_record n l ∷ layer_records (suc n) ls

-- ── figures ──
-- what the records of figures are made with: the class, the file's range of symbols, its E_wire, the table of the figures' rows
pub record View : Type 0 where
  pub class : Class
  pub symbols : Digits
  pub wires : ℕ
  pub table : List Rule

-- in layers, at a class
abbrev pub view_of : Class → Set → View
view_of c s = record { class = c; symbols = range_of s; wires = wire_range s; table = layer_table_of s }

-- in a symbol: nothing there goes by the class
abbrev pub plain_view : View
plain_view = record { class = record { symbols = digits 0 0; wires = digits 0 0 }; symbols = digits 0 0; wires = 0; table = figure_table }

-- a row of a table by its number
abbrev pub rule_at : List Rule → ℕ → Rule
rule_at t j = get_or t j (row "" (opens 0) 0)

-- "10 line, 11 circle, 12 ellipse, 13 point": a figure's row in the table, behind that of `line`
abbrev pub plain_record : View → ℕ → ℕ → ℕ → ℕ → ℕ → List Num → List ℤ
plain_record w more owner volume line j v = put_slot (rule_at w.table j) (Some (nums v)) (start (kind_line + more + j) owner volume line)

-- "17 a successive's points", "43 hide point": kind, and the table of points
abbrev pub point_records : ℕ → ℕ → ℕ → List Point → List (List ℤ)
point_records kind owner volume [] = []
point_records kind owner volume (p ∷ ps) =
    put_slot (rule_at (point_table true) 0) (Some (nums p.values)) (start kind owner volume p.line) ∷ point_records kind owner volume ps

-- "14 successive (first point's type, point count)"
abbrev pub first_type : List Point → ℤ
first_type [] = pos 0
first_type (p ∷ ps) = value_at p.values 0

abbrev pub chain_record : ℕ → ℕ → ℕ → ℕ → List Point → List ℤ
chain_record more owner volume line ps = sets (start (kind_successive + more) owner volume line) 4 (first_type ps ∷ pos (length ps) ∷ [])

-- "15 text (7 values, characters)"
abbrev pub text_record : ℕ → ℕ → ℕ → ℕ → Slots → List ℤ
text_record more owner volume line s = put_slots (text_table true 4 12) s (start (kind_text + more) owner volume line)

-- "16 placed symbol"
abbrev pub placed_record : View → ℕ → ℕ → ℕ → ℕ → Held → List ℤ
placed_record w more owner volume line h = mark_unread w.class.symbols w.symbols placed_table (put_held placed_tables h (start (kind_placed + more) owner volume line))

-- `E_symbol=`, the seventh row of a layer's figures (`placed_number`), is a placed symbol with that line alone
abbrev pub placed_number : ℕ
placed_number = 6

abbrev pub line_record : View → ℕ → ℕ → ℕ → ℕ → ℕ → List Num → List ℤ
line_record w more owner volume n j v =
    cond (eqb j placed_number) (placed_record w more owner volume n ((Some (nums v) ∷ []) ∷ [])) (plain_record w more owner volume n j v)

-- ── wires: "18 and 19, both at the wire's line", one list of 64 numbers ──
abbrev pub wire_start : ℕ → ℕ → ℕ → List ℤ
wire_start owner volume line = start kind_wire owner volume line ++ start kind_wire_more owner volume line

-- places in it: how many lines and arcs; E_wire's first digit; the marks of the two
abbrev pub place_elements : ℕ
place_elements = 5

abbrev pub place_join_digit : ℕ
place_join_digit = 30

abbrev pub place_mark : ℕ
place_mark = 31

-- Where a key that repeats shows how often it stands, the first of its lines (of `direc` both), and its state. All lines are in the fixed
-- form; the record has room for these.
pub record Shelf : Type 0 where
  pub place : ℕ
  pub state : ℕ
  pub wide : ℕ  -- how many values a line has
  pub shown : ℕ  -- how many lines are shown

abbrev pub shelf : ℕ → ℕ → ℕ → ℕ → Shelf
shelf p q w n = record { place = p; state = q; wide = w; shown = n }

abbrev pub shelves : List Shelf
shelves = shelf 6 26 4 2 ∷ shelf 15 27 3 1 ∷ shelf 19 28 5 1 ∷ []

-- "States as in kind 16": given where a line stands
abbrev pub state_of_many : ℕ → ℤ
state_of_many zero = pos 0
state_of_many (suc n) = pos 2

abbrev pub shown_lines : ℕ → ℕ → List (List Num) → List ℤ
shown_lines zero wide vs = []
shown_lines (suc n) wide [] = padded wide [] ++ shown_lines n wide []
shown_lines (suc n) wide (v ∷ vs) = padded wide (map (λ m. m.value) v) ++ shown_lines n wide vs

abbrev pub put_group : Shelf → List (List Num) → List ℤ → List ℤ
put_group h vs t = set (sets t h.place (pos (length vs) ∷ shown_lines h.shown h.wide vs)) h.state (state_of_many (length vs))

abbrev pub put_groups : List Shelf → List (List (List Num)) → List ℤ → List ℤ
put_groups [] gs t = t
put_groups (h ∷ hs) [] t = t
put_groups (h ∷ hs) (g ∷ gs) t = put_group h g (put_groups hs gs t)

-- how many texts, and the first
abbrev pub place_texts : ℕ
place_texts = width + 5

abbrev pub place_text_state : ℕ
place_text_state = width + 26

abbrev pub first_text : List Slots → Slots
first_text [] = []
first_text (s ∷ ss) = s

-- "ten of the first text": the numbers that the record of a text has from place 4 on
abbrev pub text_shown : ℕ
text_shown = 10

abbrev pub text_numbers : Slots → List ℤ
text_numbers s = take text_shown (drop 4 (put_slots wire_text_table s (replicate width (pos 0))))

abbrev pub put_texts : List Slots → List ℤ → List ℤ
put_texts ss t = set (sets t place_texts (pos (length ss) ∷ text_numbers (first_text ss))) place_text_state (state_of_many (length ss))

abbrev pub wire_numbers : ℕ → ℕ → List ℤ → List ℤ
wire_numbers range elements t = set (set t place_elements (pos elements)) place_join_digit (pos (range / 100))

-- all of a wire that is read, at a wire part
abbrev pub wire_values : View → Wire → List ℤ → List ℤ
wire_values w x t =
    mark_unread w.class.wires (digits_of w.wires) wire_table
    (wire_numbers w.wires (length x.elements) (put_groups shelves x.groups (put_texts x.texts (put_slots wire_table x.own t))))

-- "each keeping what records a wire has at its own line, marked unread, zeros from place 4 on but for that mark and the states"
abbrev pub unread_mark : ℤ
unread_mark = pos 3

abbrev pub unread_numbers : List ℤ → List ℤ
unread_numbers t = set (set t place_mark unread_mark) (width + place_mark) unread_mark

-- a wire's line or arc: its values as those of a figure, and at place 11 how it is joined
abbrev pub place_join : ℕ
place_join = 11

abbrev pub edge_record : ℕ → ℕ → Edge → List ℤ
edge_record owner volume e =
    set (put_slot (rule_at wire_table e.row) (Some (nums e.values)) (start (kind_edge + e.row) owner volume e.line)) place_join (pos e.join)

abbrev pub edge_records : ℕ → ℕ → List Edge → List (List ℤ)
edge_records owner volume es = map (edge_record owner volume) es

-- "plus 20 inside a symbol": `more`
abbrev pub figure_records : View → ℕ → ℕ → ℕ → Figure → List (List ℤ)
figure_records w more owner volume (plain n j v) = line_record w more owner volume n j v ∷ []
figure_records w more owner volume (chain n ps) = chain_record more owner volume n ps ∷ point_records (kind_point + more) owner volume ps
figure_records w more owner volume (lettering n s) = text_record more owner volume n s ∷ []
figure_records w more owner volume (placed n h) = placed_record w more owner volume n h ∷ []
figure_records w more owner volume (wired n x) =
    two_of (wire_values w x (wire_start owner volume n)) ++ edge_records owner volume x.elements
figure_records w more owner volume (passed n) =
    two_of (unread_numbers (mark_unread (digits 0 0) (digits_of w.wires) wire_table (wire_start owner volume n)))

-- ── symbols ──
-- "4 symbol: name, wall state, x, y"; its figures and hide points follow in the order written
abbrev pub inner_records : ℕ → Symbol → List (List ℤ)
inner_records n y =
    let shown = flat (map (figure_records plain_view in_symbol n 1) y.figures) in
    let hidden = point_records kind_hidden n 1 y.hidden in
    cond y.hide_first (hidden ++ shown) (shown ++ hidden)

abbrev pub symbol_records : ℕ → List Symbol → List (List ℤ)
symbol_records n [] = []
symbol_records n (y ∷ ys) = put_slots symbol_table y.own (start kind_symbol n 1 y.line) ∷ inner_records n y ++ symbol_records (suc n) ys

-- ── volumes ──
abbrev pub block_records : View → ℕ → LayerBlock → List (List ℤ)
block_records w k u = flat (map (figure_records w 0 u.layer k) u.figures)

abbrev pub body_records : View → ℕ → Contents → List (List ℤ)
body_records w k v = flat (map (block_records w k) v.blocks)

-- the volumes after the first, from number k on
abbrev pub later_records : View → ℕ → List Contents → List (List ℤ)
later_records w k [] = []
later_records w k (v ∷ vs) = file_records false k v ++ body_records w k v ++ later_records w (suc k) vs

abbrev pub records_from : Class → Set → List Contents → List (List ℤ)
records_from c s [] = []
records_from c s (v ∷ vs) =
    file_records true 1 v ++ (drawing_record s.drawing ∷ layer_records 0 s.drawing.layers) ++ symbol_records 0 s.symbols
    ++ body_records (view_of c s) 1 v ++ later_records (view_of c s) 2 vs

-- the records of an accepted set, at a class
unfoldable pub records_of : Class → Set → List (List ℤ)
records_of c s = records_from c s s.volumes

-- "zeros after the last record": a table of n numbers
unfoldable pub table_of : ℕ → List (List ℤ) → List ℤ
table_of n rs = take n (flat rs ++ replicate n (pos 0))
