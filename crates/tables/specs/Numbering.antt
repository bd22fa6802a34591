-- The numbers by which the code calls tables and parts of a row. It has them under the same names, as TABLE_TOP for `table_top`.
use Rattle.std.specs.Prelude.{ℕ}

-- ── the tables ──
-- FILE_FORMAT with its inner parts in front, DRAWING_FORMAT, SYMBOL_DEFINE, ELEMENT; a layer where a placed symbol is a block and where it
-- is one line (E_sym 001); an element's figures; points and texts in layers and in symbols; a placed symbol and its text; a wire; the two of a
-- layer again, where wires may stand in it (E_wire isn't 000)
abbrev pub table_top : ℕ
table_top = 0

abbrev pub table_file : ℕ
table_file = 1

abbrev pub table_range : ℕ
table_range = 2

abbrev pub table_base : ℕ
table_base = 3

abbrev pub table_elec : ℕ
table_elec = 4

abbrev pub table_sym : ℕ
table_sym = 5

abbrev pub table_later : ℕ
table_later = 6

abbrev pub table_drawing : ℕ
table_drawing = 7

abbrev pub table_defines : ℕ
table_defines = 8

abbrev pub table_symbol : ℕ
table_symbol = 9

abbrev pub table_element : ℕ
table_element = 10

abbrev pub table_layer : ℕ
table_layer = 11

abbrev pub table_single_layer : ℕ
table_single_layer = 12

abbrev pub table_figures : ℕ
table_figures = 13

abbrev pub table_layer_points : ℕ
table_layer_points = 14

abbrev pub table_symbol_points : ℕ
table_symbol_points = 15

abbrev pub table_layer_text : ℕ
table_layer_text = 16

abbrev pub table_symbol_text : ℕ
table_symbol_text = 17

abbrev pub table_placed : ℕ
table_placed = 18

abbrev pub table_placed_text : ℕ
table_placed_text = 19

abbrev pub table_wire : ℕ
table_wire = 20

abbrev pub table_wired_layer : ℕ
table_wired_layer = 21

abbrev pub table_single_wired_layer : ℕ
table_single_wired_layer = 22

-- ── what a row holds ──
abbrev pub holds_values : ℕ
holds_values = 0

abbrev pub holds_text : ℕ
holds_text = 1

abbrev pub holds_word : ℕ
holds_word = 2

abbrev pub holds_volume_name : ℕ
holds_volume_name = 3

abbrev pub holds_sheet : ℕ
holds_sheet = 4

abbrev pub holds_ratio : ℕ
holds_ratio = 5

abbrev pub holds_serials : ℕ
holds_serials = 6

abbrev pub holds_nothing : ℕ
holds_nothing = 7

abbrev pub holds_block : ℕ
holds_block = 8

abbrev pub holds_headed : ℕ
holds_headed = 9

abbrev pub holds_either : ℕ
holds_either = 10

abbrev pub holds_wire_serial : ℕ
holds_wire_serial = 11

abbrev pub holds_circle : ℕ
holds_circle = 12

-- ── the forms of values ──
-- any other number below those of decimals is that of a type; a wire's `direc` has the sign of a direction, 0 to 4
abbrev pub part_sign : ℕ
part_sign = 2

abbrev pub part_digit : ℕ
part_digit = 3

abbrev pub part_flag : ℕ
part_flag = 5

abbrev pub part_position : ℕ
part_position = 6

abbrev pub part_count : ℕ
part_count = 7

abbrev pub part_day : ℕ
part_day = 8

abbrev pub part_clock : ℕ
part_clock = 9

abbrev pub part_range0 : ℕ
part_range0 = 10

abbrev pub part_range01 : ℕ
part_range01 = 11

abbrev pub part_range02 : ℕ
part_range02 = 12

abbrev pub part_range1 : ℕ
part_range1 = 13

abbrev pub part_symbol_range : ℕ
part_symbol_range = 14

abbrev pub part_symbol_name : ℕ
part_symbol_name = 15

abbrev pub part_layer_id : ℕ
part_layer_id = 16

abbrev pub part_wire_range : ℕ
part_wire_range = 18

-- decimals, by their sign or limit; any other number from here on is that of an angle
abbrev pub part_any_sign : ℕ
part_any_sign = 20

abbrev pub part_not_negative : ℕ
part_not_negative = 21

abbrev pub part_above_zero : ℕ
part_above_zero = 22

abbrev pub part_half_turn : ℕ
part_half_turn = 24

-- the two decimals of one value alone, a whole circle's start and end
abbrev pub part_no_angle : ℕ
part_no_angle = 25

abbrev pub part_whole_turn : ℕ
part_whole_turn = 26

-- ── several forms, two digits each, the first one last ──
-- type,cx,cy,radius,start,end,turn, and without a turn
abbrev pub arc_forms : ℕ
arc_forms = 5232322202017

abbrev pub whole_forms : ℕ
whole_forms = 262522202017

-- ── the rules across values ──
abbrev pub across_ends : ℕ
across_ends = 1

abbrev pub across_arc : ℕ
across_arc = 2

abbrev pub across_axes : ℕ
across_axes = 3

abbrev pub across_power : ℕ
across_power = 4

-- ── how often a row may stand ──
-- any other number is the most times
abbrev pub times_once : ℕ
times_once = 0

abbrev pub times_any : ℕ
times_any = 255
