-- Document 01, "Figures": the tables of figures in layers and in symbols, of points, of texts and of the placed symbol.
use Rattle.std.specs.Prelude.{ℕ, ◌+◌, Bool, true, false, List, [], ◌∷◌, ◌++◌}
use Rattle.rules.specs.Values.{Part, count, digit, type_digits, decimal, any_sign, not_negative, half_turn, symbol_name, Kind, values, text, word, serials}
use Rattle.rules.specs.Values.{centre, measure, degrees, flag, arc_rest, wire_serial, symbol_circle, served_power}
use Rattle.rules.specs.Values.{opens, any_bytes, circuit_bytes, nothing_more, ends_differ, arc_of_circle, axes_of_ellipse}
use Rattle.rules.specs.Rows.{Rule, row, may_be_empty, from, optional, repeated, state_at, up_to, any_number}

-- "In layers no coordinate is negative but the two centres; in symbols any sign."
abbrev pub coordinate : Bool → Part
coordinate true = decimal not_negative
coordinate false = decimal any_sign

-- the values of a point: type,x,y
abbrev pub point_kind : Bool → Kind
point_kind in_layer = values type_digits (coordinate in_layer ∷ coordinate in_layer ∷ []) nothing_more

-- the lines that are a figure each: type and values from place 4 of the record on
abbrev pub line_row : Bool → Rule
line_row in_layer = row "line" (values type_digits (coordinate in_layer ∷ coordinate in_layer ∷ coordinate in_layer ∷ coordinate in_layer ∷ []) ends_differ) 4

-- "Inside a symbol's `element`, a circle from 0 to 360 may have six values"
abbrev pub circle_kind : Bool → Kind
circle_kind true = values type_digits arc_rest arc_of_circle
circle_kind false = symbol_circle

abbrev pub circle_row : Bool → Rule
circle_row in_layer = row "circle" (circle_kind in_layer) 4

abbrev pub plain_rows : Bool → List Rule
plain_rows in_layer =
    line_row in_layer
    ∷ circle_row in_layer
    ∷ row "ellipse" (values type_digits (centre ∷ centre ∷ measure ∷ measure ∷ degrees ∷ degrees ∷ degrees ∷ flag ∷ []) axes_of_ellipse) 4
    ∷ row "point" (point_kind in_layer) 4 ∷ []

-- the figures that are blocks
abbrev pub block_rows : List Rule
block_rows = row "successive" (opens 1) 0 ∷ row "text" (opens 2) 0 ∷ []

-- "Placed symbol: `name,x,y,angle,factor`, factor above zero."
abbrev pub placing : Kind
placing = values symbol_name (decimal not_negative ∷ decimal not_negative ∷ degrees ∷ measure ∷ []) nothing_more

-- "At range 001 it is `E_symbol=` with these; at any other range a block": whether E_sym is 001
abbrev pub placed_kind : Bool → Kind
placed_kind true = placing
placed_kind false = opens 3

-- "At E_sym 000 none is allowed (6)": the range of a layer's table is E_sym
abbrev pub placed_row : Bool → Rule
placed_row single = from 0 1 (row "E_symbol" (placed_kind single) 5)

abbrev pub any_of : List Rule → List Rule
any_of [] = []
any_of (r ∷ rs) = repeated any_number r ∷ any_of rs

-- `E_wire:{` .. `}` "directly in a layer, any number"; where E_wire is 000 the key is not known (6): whether it is another
abbrev pub wire_rows : Bool → List Rule
wire_rows false = []
wire_rows true = row "E_wire" (opens 4) 0 ∷ []

-- the figures of a layer, by whether E_sym is 001 and whether E_wire isn't 000, and those of a symbol's `element`
unfoldable pub layer_table : Bool → Bool → List Rule
layer_table single wired = any_of (plain_rows true ++ block_rows ++ placed_row single ∷ wire_rows wired)

unfoldable pub figure_table : List Rule
figure_table = any_of (plain_rows false ++ block_rows)

-- "successive: block of 3 to 100 point"; "`hide` (0 to 100 points)"
abbrev pub most_points : ℕ
most_points = 100

abbrev pub least_points : ℕ
least_points = 3

unfoldable pub point_table : Bool → List Rule
point_table in_layer = repeated (up_to most_points) (row "point" (point_kind in_layer) 4) ∷ []

-- "text: block of `type` (type,x,y,width,height,gap,angle,upright) and `character` (1-200 bytes)": where its two lines go in the record
unfoldable pub text_table : Bool → ℕ → ℕ → List Rule
text_table in_layer p q =
    row "type" (values type_digits (coordinate in_layer ∷ coordinate in_layer ∷ measure ∷ measure ∷ decimal not_negative ∷ degrees ∷ flag ∷ []) nothing_more) p
    ∷ row "character" (text 200 any_bytes) q ∷ []

-- "Last digit 2 or more: `text`, may be missing; 3: `hight`, signed or empty; 4: `pos`, 1 to 5 or empty;
-- 5: `circuit`, 0-10 of letters, digits, `-`, `.`. Middle digit 1: `serial`": the range of this table is E_sym
unfoldable pub placed_table : List Rule
placed_table =
    row "symbol" placing 5
    ∷ state_at 26 (from 0 2 (optional (row "text" (opens 1) 0)))
    ∷ state_at 27 (from 0 3 (may_be_empty (row "hight" (values (decimal any_sign) [] nothing_more) 10)))
    ∷ state_at 28 (from 0 4 (may_be_empty (row "pos" (values (digit 1 5) [] nothing_more) 11)))
    ∷ state_at 29 (from 0 5 (may_be_empty (row "circuit" (word 10 circuit_bytes) 12)))
    ∷ state_at 30 (from 1 0 (row "serial" serials 14)) ∷ []

-- A wire's block: "lines and arcs first, nothing else before or among them", with the values of those in a layer; "then `direc`, `piend`,
-- `num`, `text`, `length`, `circuit`, `power` one by one as the last digit goes from 2 to 8, and `serial` at middle digit 1": the range of
-- this table is E_wire's last two digits. Places from 32 on are the second record's. What rows that repeat hold goes by `RecordTable: shelves`.
abbrev pub most_direcs : ℕ
most_direcs = 2

abbrev pub site : Part
site = decimal not_negative

unfoldable pub wire_table : List Rule
wire_table =
    repeated any_number (line_row true)
    ∷ repeated any_number (circle_row true)
    ∷ state_at 26 (from 0 2 (repeated (up_to most_direcs) (row "direc" (values (digit 0 4) (site ∷ site ∷ degrees ∷ []) nothing_more) 0)))
    ∷ state_at 27 (from 0 3 (repeated any_number (row "piend" (values site (site ∷ degrees ∷ []) nothing_more) 0)))
    ∷ state_at 28 (from 0 4 (repeated any_number (row "num" (values flag (count ∷ site ∷ site ∷ decimal half_turn ∷ []) nothing_more) 0)))
    ∷ state_at (32 + 26) (from 0 5 (repeated any_number (row "text" (opens 1) 0)))
    ∷ state_at 29 (from 0 6 (may_be_empty (row "length" (values site [] nothing_more) 25)))
    ∷ state_at (32 + 27) (from 0 7 (may_be_empty (row "circuit" (word 10 circuit_bytes) (32 + 16))))
    ∷ state_at (32 + 28) (from 0 8 (may_be_empty (row "power" (values (digit 0 9) (digit 0 9 ∷ count ∷ []) served_power) (32 + 18))))
    ∷ state_at (32 + 29) (from 1 0 (row "serial" wire_serial (32 + 21))) ∷ []

-- rows of it: the first of the three that repeat, the text's, serial's
abbrev pub first_group_row : ℕ
first_group_row = 2

abbrev pub num_row : ℕ
num_row = 4

abbrev pub wire_text_row : ℕ
wire_text_row = 5

abbrev pub wire_serial_row : ℕ
wire_serial_row = 9

-- `text`: "block as the figure text in a layer", by its table
abbrev pub wire_text_table : List Rule
wire_text_table = text_table true 4 12

-- the placed symbol's own keys, and those of its text
abbrev pub placed_tables : List (List Rule)
placed_tables = placed_table ∷ text_table true 16 24 ∷ []
