-- What the numbers of a row in the code stand for.
use Rattle.std.specs.Prelude.{ℕ, zero, suc, ◌/◌, ◌%◌, false, cond, List, [], ◌∷◌, eqb, ltb, Option, Some, None}
use Rattle.rules.specs.Values.{Part, count, digit, type_digits, range, range_of_symbols, range_of_wires, day, clock, decimal, exactly, whole_turn, Bound, any_sign, not_negative, above_zero, angle}
use Rattle.rules.specs.Values.{half_turn, symbol_name, layer_id, Across, nothing_more, ends_differ, arc_of_circle, axes_of_ellipse, served_power, Kind, values, text, word}
use Rattle.rules.specs.Values.{volume_name, sheet, ratio, serials, wire_serial, symbol_circle, nothing, opens, headed, either}
use Rattle.rules.specs.Rows.{Times, once, up_to, any_number, Rule, Found, absent, found}
use Rattle.leaves.specs.Bytes.{bytes_of}
use Rattle.tables.specs.declared.Row.{Row}
use Rattle.tables.specs.Numbering.{part_sign, part_digit, part_flag, part_position, part_count, part_day, part_clock, part_range0, part_range01, part_range02, part_range1}
use Rattle.tables.specs.Numbering.{part_symbol_range, part_symbol_name, part_layer_id, part_wire_range, part_any_sign, part_not_negative, part_above_zero, part_half_turn}
use Rattle.tables.specs.Numbering.{part_no_angle, part_whole_turn, holds_circle}
use Rattle.tables.specs.Numbering.{across_ends, across_arc, across_axes, across_power, times_once, times_any, holds_text, holds_word, holds_volume_name, holds_sheet, holds_ratio}
use Rattle.tables.specs.Numbering.{holds_serials, holds_nothing, holds_block, holds_headed, holds_either, holds_wire_serial}

-- the sign and limit of a decimal, by its number
abbrev pub bound_of : ℕ → Bound
bound_of n =
    cond (eqb n part_any_sign) any_sign
    (cond (eqb n part_not_negative) not_negative
    (cond (eqb n part_above_zero) above_zero
    (cond (eqb n part_half_turn) half_turn angle)))

-- a value that is no decimal; any other number is that of a type
abbrev pub whole_of : ℕ → Part
whole_of n =
    cond (eqb n part_flag) (digit 0 1)
    (cond (eqb n part_position) (digit 1 5)
    (cond (eqb n part_count) count
    (cond (eqb n part_day) day
    (cond (eqb n part_clock) clock
    (cond (eqb n part_range0) (range 0 0)
    (cond (eqb n part_range01) (range 0 1)
    (cond (eqb n part_range02) (range 0 2)
    (cond (eqb n part_range1) (range 1 1)
    (cond (eqb n part_symbol_range) range_of_symbols
    (cond (eqb n part_symbol_name) symbol_name
    (cond (eqb n part_layer_id) layer_id
    (cond (eqb n part_wire_range) range_of_wires
    (cond (eqb n part_sign) (digit 0 4)
    (cond (eqb n part_digit) (digit 0 9) type_digits))))))))))))))

-- a decimal: of one value alone, or within its limit
abbrev pub decimal_of : ℕ → Part
decimal_of n = cond (eqb n part_no_angle) (exactly 0) (cond (eqb n part_whole_turn) (exactly whole_turn) (decimal (bound_of n)))

-- one value between commas, by its number
abbrev pub part_of : ℕ → Part
part_of n = cond (ltb n part_any_sign) (whole_of n) (decimal_of n)

-- n values, two decimal digits each, the first one last
unfoldable pub parts_of : ℕ → ℕ → List Part
parts_of zero c = []
parts_of (suc n) c = part_of (c % 100) ∷ parts_of n (c / 100)

abbrev pub across_of : ℕ → Across
across_of n =
    cond (eqb n across_ends) ends_differ
    (cond (eqb n across_arc) arc_of_circle
    (cond (eqb n across_axes) axes_of_ellipse
    (cond (eqb n across_power) served_power nothing_more)))

abbrev pub times_of : ℕ → Times
times_of n = cond (eqb n times_once) once (cond (eqb n times_any) any_number (up_to n))

-- a circle in a symbol, or values by their numbers
abbrev pub values_of : Row → Kind
values_of r =
    cond (eqb r.kind holds_circle) symbol_circle
    (values (part_of (r.parts % 100)) (parts_of r.count (r.parts / 100)) (across_of r.across))

-- a kind by its number; any other number is that of values
abbrev pub kind_of : Row → Kind
kind_of r =
    cond (eqb r.kind holds_text) (text r.most (bytes_of r.set))
    (cond (eqb r.kind holds_word) (word r.most (bytes_of r.set))
    (cond (eqb r.kind holds_volume_name) volume_name
    (cond (eqb r.kind holds_sheet) sheet
    (cond (eqb r.kind holds_ratio) ratio
    (cond (eqb r.kind holds_serials) serials
    (cond (eqb r.kind holds_nothing) nothing
    (cond (eqb r.kind holds_block) (opens r.inner)
    (cond (eqb r.kind holds_headed) (headed r.inner (part_of r.parts))
    (cond (eqb r.kind holds_either) (either r.inner)
    (cond (eqb r.kind holds_wire_serial) wire_serial
    (values_of r)))))))))))

-- the rule that a row stands for, but for its key and whether it is required: a line does not go by these
abbrev pub rule_of : Row → Rule
rule_of r = record { key = []; holds = kind_of r; may = r.may; least = r.least; must = false; times = times_of r.times; place = r.place; state = r.state }

abbrev pub found_of : Option Row → Found
found_of None = absent
found_of (Some r) = found r.number (rule_of r)

-- a row that was found, without its key and whether it is required
abbrev pub for_line : Rule → Rule
for_line r = record { key = []; holds = r.holds; may = r.may; least = r.least; must = false; times = r.times; place = r.place; state = r.state }

abbrev pub found_for_line : Found → Found
found_for_line absent = absent
found_for_line (found j r) = found j (for_line r)
