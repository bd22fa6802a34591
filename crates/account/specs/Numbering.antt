-- The numbers by which the code calls the open block and its inner ones, the rows of tables, the places of records and of the tally, and the
-- lengths of what is lent down. It has them under the same names, as BLOCK_TOP for `block_top`.
use Rattle.std.specs.Prelude.{ℕ}

-- ── which block is open ──
abbrev pub block_top : ℕ
block_top = 0

abbrev pub block_file : ℕ
block_file = 1

abbrev pub block_drawing : ℕ
block_drawing = 2

abbrev pub block_layer_names : ℕ
block_layer_names = 3

abbrev pub block_defines : ℕ
block_defines = 4

abbrev pub block_symbol : ℕ
block_symbol = 5

abbrev pub block_hide : ℕ
block_hide = 6

abbrev pub block_elements : ℕ
block_elements = 7

abbrev pub block_figures : ℕ
block_figures = 8

abbrev pub block_chain : ℕ
block_chain = 9

abbrev pub block_text : ℕ
block_text = 10

abbrev pub block_placed : ℕ
block_placed = 11

abbrev pub block_wire : ℕ
block_wire = 12

-- (13 and 14 are free for blocks of figures)
abbrev pub block_ended : ℕ
block_ended = 15

-- ── what comes next at the top level ──
-- one of the four blocks, by its row in the table, then EOF
abbrev pub turn_file : ℕ
turn_file = 0

abbrev pub turn_drawing : ℕ
turn_drawing = 1

abbrev pub turn_defines : ℕ
turn_defines = 2

abbrev pub turn_element : ℕ
turn_element = 3

abbrev pub turn_eof : ℕ
turn_eof = 4

-- ── inner blocks ──
-- as the tables number them; none is open: the lines are the block's own
abbrev pub inner_none : ℕ
inner_none = 0

-- in FILE_FORMAT's `range`
abbrev pub inner_elec : ℕ
inner_elec = 3

-- in a symbol, beside `hide`
abbrev pub inner_element : ℕ
inner_element = 1

-- among figures, beside `successive`
abbrev pub inner_text : ℕ
inner_text = 2

abbrev pub inner_placed : ℕ
inner_placed = 3

abbrev pub inner_wire : ℕ
inner_wire = 4

-- in a placed symbol
abbrev pub inner_placed_text : ℕ
inner_placed_text = 1

-- ── a wire ──
-- its elements are read, its text is open, it is skipped whole, or anything but an element has stood in it
abbrev pub wire_read : ℕ
wire_read = 0

abbrev pub wire_text : ℕ
wire_text = 1

abbrev pub wire_skipped : ℕ
wire_skipped = 2

abbrev pub wire_past : ℕ
wire_past = 3

-- ── rows ──
-- how many a table has, under the table's name
abbrev pub rows_top : ℕ
rows_top = 4

abbrev pub rows_file : ℕ
rows_file = 16

abbrev pub rows_later : ℕ
rows_later = 5

abbrev pub rows_drawing : ℕ
rows_drawing = 8

abbrev pub rows_symbol : ℕ
rows_symbol = 4

abbrev pub rows_layer : ℕ
rows_layer = 7

abbrev pub rows_wired_layer : ℕ
rows_wired_layer = 8

abbrev pub rows_figures : ℕ
rows_figures = 6

abbrev pub rows_placed : ℕ
rows_placed = 6

abbrev pub rows_text : ℕ
rows_text = 2

abbrev pub rows_wire : ℕ
rows_wire = 10

-- where the marks of FILE_FORMAT's inner blocks begin, behind those of its own rows
abbrev pub marks_range : ℕ
marks_range = 16

abbrev pub marks_base : ℕ
marks_base = 22

abbrev pub marks_elec : ℕ
marks_elec = 23

abbrev pub marks_sym : ℕ
marks_sym = 26

-- those of FILE_FORMAT that have no place in the record, in the first volume and in later ones
abbrev pub row_next_file : ℕ
row_next_file = 5

abbrev pub row_later_next_file : ℕ
row_later_next_file = 2

-- (in `elec`)
abbrev pub row_wire_range : ℕ
row_wire_range = 1

abbrev pub row_later_date : ℕ
row_later_date = 3

abbrev pub row_later_time : ℕ
row_later_time = 4

-- ── places in FILE_FORMAT's numbers ──
-- in the header's record: arc, E_sym and S_elec; all_ele, date and time
abbrev pub header_arc : ℕ
header_arc = 6

abbrev pub header_symbol_range : ℕ
header_symbol_range = 8

abbrev pub header_define_range : ℕ
header_define_range = 11

abbrev pub header_all : ℕ
header_all = 13

abbrev pub header_date : ℕ
header_date = 14

abbrev pub header_time : ℕ
header_time = 15

-- this_ele, in the volume's record behind it, and in a later volume's, which stands alone
abbrev pub header_here : ℕ
header_here = 38

abbrev pub header_later_here : ℕ
header_later_here = 6

-- behind the records what a row without a place left last, a number or a text's place and length
abbrev pub header_last : ℕ
header_last = 64

abbrev pub header_last_length : ℕ
header_last_length = 65

-- and what is kept of it: next_file, in the first volume E_wire, and in a later volume date and time
abbrev pub header_next_file : ℕ
header_next_file = 66

abbrev pub header_next_file_length : ℕ
header_next_file_length = 67

abbrev pub header_later_date : ℕ
header_later_date = 68

abbrev pub header_later_time : ℕ
header_later_time = 69

abbrev pub header_wire_range : ℕ
header_wire_range = 70

-- ── places in other records ──
-- a symbol's name
abbrev pub place_name : ℕ
place_name = 5

abbrev pub place_name_length : ℕ
place_name_length = 6

-- a layer's letter; its number and name follow
abbrev pub place_letter : ℕ
place_letter = 5

-- a placed symbol's own number, the first of `serial`
abbrev pub place_own : ℕ
place_own = 14

-- of a wire's line: where it starts and where it ends
abbrev pub place_start_x : ℕ
place_start_x = 5

abbrev pub place_start_y : ℕ
place_start_y = 6

abbrev pub place_end_x : ℕ
place_end_x = 7

abbrev pub place_end_y : ℕ
place_end_y = 8

-- Of a wire's two records, on the scratch: how many elements it has, E_wire's first digit, the two marks (`RecordTable: place_elements` and
-- the following, behind the first record of the scratch);
abbrev pub wire_elements : ℕ
wire_elements = 37

abbrev pub wire_join_digit : ℕ
wire_join_digit = 62

abbrev pub wire_mark : ℕ
wire_mark = 63

abbrev pub wire_more_mark : ℕ
wire_more_mark = 95

-- how many direcs, piends, nums and texts it has, of the first num earth and power, and its own number (`RecordTable: shelves`, `place_texts`)
abbrev pub wire_direcs : ℕ
wire_direcs = 38

abbrev pub wire_piends : ℕ
wire_piends = 47

abbrev pub wire_nums : ℕ
wire_nums = 51

abbrev pub wire_earth : ℕ
wire_earth = 52

abbrev pub wire_power : ℕ
wire_power = 53

abbrev pub wire_texts : ℕ
wire_texts = 69

abbrev pub wire_own : ℕ
wire_own = 85

-- and, in places that are 0 when they are complete, what an open wire must know of its last element: the end's x and y, and 1 for a line,
-- 2 for an arc, 0 for none
abbrev pub former_x : ℕ
former_x = 36

abbrev pub former_y : ℕ
former_y = 68

abbrev pub former_row : ℕ
former_row = 94

-- ── kinds ──
-- the kind of a figure that is a block is this and its inner number
abbrev pub kind_blocks : ℕ
kind_blocks = 13

-- ── the tally ──
-- the ranges arc, E_sym and S_elec
abbrev pub tally_arc : ℕ
tally_arc = 0

abbrev pub tally_symbol_range : ℕ
tally_symbol_range = 1

abbrev pub tally_define_range : ℕ
tally_define_range = 2

-- the first volume's date, time and all_ele, and this_ele of the volume at hand
abbrev pub tally_date : ℕ
tally_date = 3

abbrev pub tally_time : ℕ
tally_time = 4

abbrev pub tally_all : ℕ
tally_all = 5

abbrev pub tally_here : ℕ
tally_here = 6

-- the figures in this volume's closed layers, and in the closed volumes
abbrev pub tally_elements_here : ℕ
tally_elements_here = 7

abbrev pub tally_total : ℕ
tally_total = 8

-- how many symbols and layers have names, and how many serial numbers there are
abbrev pub tally_symbols : ℕ
tally_symbols = 9

abbrev pub tally_layers : ℕ
tally_layers = 10

abbrev pub tally_serials : ℕ
tally_serials = 11

-- the range E_wire
abbrev pub tally_wire_range : ℕ
tally_wire_range = 12

-- ── lengths ──
-- the tally
abbrev pub tally_length : ℕ
tally_length = 13

-- the rows that are marked at once: FILE_FORMAT's and its inner parts'
abbrev pub most_rows : ℕ
most_rows = 28

-- FILE_FORMAT's numbers (`FileLines`)
abbrev pub header_length : ℕ
header_length = 71

-- the scratch of three records: the open drawing's or symbol's own or an element's of the open wire, the open figure's or a line's, a point's
-- of the open `successive` or the open wire's second
abbrev pub scratch_length : ℕ
scratch_length = 96

-- what a line of a `successive` is lent of it: its own record and the point's
abbrev pub chain_length : ℕ
chain_length = 64

-- the symbols' names, no spool has more
abbrev pub most_symbols : ℕ
most_symbols = 1280

-- the serial numbers, no spool has more
abbrev pub most_serials : ℕ
most_serials = 2280
