-- The tables of document 01 by number.
use Rattle.std.specs.Prelude.{ℕ, true, false, cond, List, [], eqb}
use Rattle.rules.specs.Rows.{Rule}
use Rattle.rules.specs.Blocks.{top_table, file_table, range_table, base_table, elec_table, sym_table, later_table, drawing_table, defines_table, symbol_table}
use Rattle.rules.specs.Blocks.{element_table}
use Rattle.rules.specs.Figures.{layer_table, figure_table, point_table, text_table, placed_table, wire_table}
use Rattle.tables.specs.Numbering.{table_top, table_file, table_range, table_base, table_elec, table_sym, table_later, table_drawing, table_defines, table_symbol}
use Rattle.tables.specs.Numbering.{table_element, table_layer, table_single_layer, table_figures, table_layer_points, table_symbol_points, table_layer_text}
use Rattle.tables.specs.Numbering.{table_symbol_text, table_placed, table_placed_text, table_wire, table_wired_layer, table_single_wired_layer}

-- the tables by number; any other number is that of none
unfoldable pub table_of : ℕ → List Rule
table_of n =
    cond (eqb n table_top) top_table
    (cond (eqb n table_file) file_table
    (cond (eqb n table_range) range_table
    (cond (eqb n table_base) base_table
    (cond (eqb n table_elec) elec_table
    (cond (eqb n table_sym) sym_table
    (cond (eqb n table_later) later_table
    (cond (eqb n table_drawing) drawing_table
    (cond (eqb n table_defines) defines_table
    (cond (eqb n table_symbol) symbol_table
    (cond (eqb n table_element) element_table
    (cond (eqb n table_layer) (layer_table false false)
    (cond (eqb n table_single_layer) (layer_table true false)
    (cond (eqb n table_figures) figure_table
    (cond (eqb n table_layer_points) (point_table true)
    (cond (eqb n table_symbol_points) (point_table false)
    (cond (eqb n table_layer_text) (text_table true 4 12)
    (cond (eqb n table_symbol_text) (text_table false 4 12)
    (cond (eqb n table_placed) placed_table
    (cond (eqb n table_placed_text) (text_table true 16 24)
    (cond (eqb n table_wire) wire_table
    (cond (eqb n table_wired_layer) (layer_table false true)
    (cond (eqb n table_single_wired_layer) (layer_table true true) []))))))))))))))))))))))
