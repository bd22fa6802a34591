-- Document 01, "Blocks": the tables of keys of every block but the figures. A row: the key, what it holds, where it goes in the record.
use Rattle.std.specs.Prelude.{ℕ, zero, suc, ◌+◌, Bool, true, false, List, [], ◌∷◌, map}
use Rattle.rules.specs.Values.{Part, count, range, range_of_symbols, range_of_wires, day, clock, decimal, any_sign, not_negative, layer_id, Kind, values, text, word}
use Rattle.rules.specs.Values.{volume_name, sheet, ratio, nothing, opens, headed, either, any_bytes, ascii, letters_and_digits, telephone, nothing_more}
use Rattle.rules.specs.Rows.{Rule, row, may_be_empty, from, optional, repeated, state_at, any_number, blank, Held}

abbrev pub one : Part → Kind
one p = values p [] nothing_more

-- "First volume: FILE_FORMAT, DRAWING_FORMAT, SYMBOL_DEFINE, ELEMENT, each once in this order. Later volumes: FILE_FORMAT, ELEMENT."
unfoldable pub top_table : List Rule
top_table =
    repeated any_number (row "FILE_FORMAT" (opens 0) 0)
    ∷ repeated any_number (row "DRAWING_FORMAT" (opens 0) 0)
    ∷ repeated any_number (row "SYMBOL_DEFINE" (opens 0) 0)
    ∷ repeated any_number (row "ELEMENT" (opens 0) 0) ∷ []

-- ── FILE_FORMAT ──
-- Its first volume takes two records, the header's and the volume's behind it: this_line and this_ele go to the second.
unfoldable pub file_table : List Rule
file_table =
    row "range" (opens 1) 0
    ∷ row "all_line" (one count) 12
    ∷ row "this_line" (one count) (32 + 5)
    ∷ row "all_ele" (one count) 13
    ∷ row "this_ele" (one count) (32 + 6)
    ∷ may_be_empty (row "next_file" volume_name 0)
    ∷ row "date" (one day) 14
    ∷ row "time" (one clock) 15
    ∷ row "cad" (text 20 ascii) 16
    ∷ row "os" (text 20 ascii) 18
    ∷ row "hard" (text 20 ascii) 20
    ∷ row "ver" (text 10 ascii) 22
    ∷ may_be_empty (row "corp" (text 40 any_bytes) 24)
    ∷ may_be_empty (row "make" (text 40 any_bytes) 26)
    ∷ may_be_empty (row "tel" (text 20 telephone) 28)
    ∷ may_be_empty (row "name" (text 20 any_bytes) 30) ∷ []

-- "`range` holds `base=001:{B_sym}`, `arc`, `elec`, `air`, `pipe`, `sym`." "`base` is required; any other of the six not written counts as 000."
unfoldable pub range_table : List Rule
range_table =
    row "base" (headed 2 (range 1 1)) 0
    ∷ optional (row "arc" (one (range 0 1)) 6)
    ∷ optional (row "elec" (either 3) 7)
    ∷ optional (row "air" (one (range 0 0)) 0)
    ∷ optional (row "pipe" (one (range 0 0)) 0)
    ∷ optional (row "sym" (either 4) 9) ∷ []

-- "What an opened part holds is required."
unfoldable pub base_table : List Rule
base_table = row "B_sym" (one (range 0 1)) 5 ∷ []

unfoldable pub elec_table : List Rule
elec_table =
    row "E_sym" (one range_of_symbols) 8
    ∷ row "E_wire" (one range_of_wires) 0
    ∷ row "E_cirno" (one (range 0 0)) 0 ∷ []

unfoldable pub sym_table : List Rule
sym_table =
    row "S_base" (one (range 0 1)) 10
    ∷ row "S_elec" (one (range 0 2)) 11 ∷ []

-- "Later volumes have only this_line, this_ele, next_file, date, time."
unfoldable pub later_table : List Rule
later_table =
    row "this_line" (one count) 5
    ∷ row "this_ele" (one count) 6
    ∷ may_be_empty (row "next_file" volume_name 0)
    ∷ row "date" (one day) 0
    ∷ row "time" (one clock) 0 ∷ []

-- FILE_FORMAT's own keys and those of its inner parts, by the numbers that `opens`, `headed` and `either` name
abbrev pub file_tables : Bool → List (List Rule)
file_tables true = file_table ∷ range_table ∷ base_table ∷ elec_table ∷ sym_table ∷ []
file_tables false = later_table ∷ []

-- the part around an inner part: FILE_FORMAT around range, range around base, elec and sym
abbrev pub around : ℕ → ℕ
around zero = 0
around (suc zero) = 0
around (suc (suc p)) = 1

abbrev pub blank_held : List (List Rule) → Held
blank_held ts = map blank ts

-- ── DRAWING_FORMAT ──
-- "`floor_height`, exactly when arc is 001, empty or not negative": the range of this table is arc.
unfoldable pub drawing_table : List Rule
drawing_table =
    row "size" sheet 5
    ∷ row "scale" ratio 7
    ∷ row "project" (text 60 any_bytes) 12
    ∷ row "drawname" (text 60 any_bytes) 14
    ∷ row "date" (one day) 9
    ∷ may_be_empty (row "drawer" (text 20 any_bytes) 16)
    ∷ state_at 10 (from 0 1 (may_be_empty (row "floor_height" (one (decimal not_negative)) 11)))
    ∷ row "layer_name" (opens 1) 0 ∷ []

-- "`layer_name` with 0 to 64 lines such as `E_151=`: one of B A E P M, `_`, three digits, name 0-20 bytes."
abbrev pub most_layers : ℕ
most_layers = 64

abbrev pub layer_name_kind : Kind
layer_name_kind = text 20 any_bytes

-- ── SYMBOL_DEFINE ──
-- "`NON=` alone, or one or more `E_symbol` (S_elec at least 001)": the range of these two tables is S_elec.
unfoldable pub defines_table : List Rule
defines_table =
    optional (row "NON" nothing 0)
    ∷ from 0 1 (repeated any_number (row "E_symbol" (opens 1) 0)) ∷ []

-- "`name` (1-32 letters and digits), `element` (one or more figures), `hide` (0 to 100 points), and at 002 `wall`, empty or x,y."
unfoldable pub symbol_table : List Rule
symbol_table =
    row "name" (word 32 letters_and_digits) 5
    ∷ row "element" (opens 1) 0
    ∷ row "hide" (opens 2) 0
    ∷ state_at 7 (from 0 2 (may_be_empty (row "wall" (values (decimal any_sign) (decimal any_sign ∷ []) nothing_more) 8))) ∷ []

-- ── ELEMENT ──
-- "`LAYER=id:{ figures or none }`, at most once a volume for each layer, each layer declared": twice is 14, judged where it is read
unfoldable pub element_table : List Rule
element_table = repeated any_number (row "LAYER" (headed 1 layer_id) 0) ∷ []
