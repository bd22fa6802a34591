-- What is written of the volume at hand, in any state of the reading. A block whose rows are noted has its first line alone, and the lines
-- inside it that are written at once; its rows come when it closes.
use Rattle.std.specs.Prelude.{ℕ, zero, suc, Bool, true, false, cond, List, [], ◌∷◌, ◌++◌, get_or, None}
use Rattle.rules.specs.Base.{bytes, is_some}
use Rattle.rules.specs.Values.{Known}
use Rattle.rules.specs.Rows.{Rule, Held}
use Rattle.rules.specs.Blocks.{file_tables}
use Rattle.rules.specs.Figures.{figure_table}
use Rattle.rules.specs.Sets.{Figure, Drawing, Symbol, Set, known_of, layer_table_of}
use Rattle.rules.specs.Machine.{Home, in_element, in_layer, State, top, file, drawing, layer_names, defines, symbol, hide, elements, figures, successive, texts}
use Rattle.rules.specs.Machine.{placing, skipping, ended, is_layer, Owned, symbol_block, wire_block, wire_unread}
use Rattle.rules.specs.FixedForm.{Text, open_line, block, show_held, show_layers, show_drawing, show_points, show_edges, show_figures, show_symbols, show_defines}
use Rattle.rules.specs.FixedForm.{show_blocks}

-- K: what is known where the set is written; the header, the drawing and the symbols name nothing, so it is all one to them
module _ (K : Known) where
  abbrev pub file_text : Bool → Held → Text
  file_text first h = block (bytes "FILE_FORMAT") (show_held K (file_tables first) h) []

  abbrev pub drawing_text : Drawing → Text
  drawing_text d = block (bytes "DRAWING_FORMAT") (show_drawing K d) []

  abbrev pub defines_text : List Symbol → Text
  defines_text ys = block (bytes "SYMBOL_DEFINE") (show_defines K ys) []

  -- before ELEMENT, in the first volume or in another
  abbrev pub front_text : Bool → Set → Text
  front_text true s = file_text true s.now.file ++ drawing_text s.drawing ++ defines_text s.symbols
  front_text false s = file_text false s.now.file

  abbrev pub element_text : Set → Text
  element_text s = block (bytes "ELEMENT") (show_blocks (known_of s) (layer_table_of s) s.now.blocks) []

  -- at the top level, by the block that comes next
  abbrev pub top_text : Bool → Set → ℕ → Text
  top_text first s zero = []
  top_text first s (suc zero) = file_text true s.now.file
  top_text first s (suc (suc zero)) = file_text true s.now.file ++ drawing_text s.drawing
  top_text first s (suc (suc (suc zero))) = front_text first s
  top_text first s (suc (suc (suc (suc k)))) = front_text first s ++ element_text s

  -- DRAWING_FORMAT's first line, and `layer_name` where it was read
  abbrev pub drawing_begun : Set → Text
  drawing_begun s = file_text true s.now.file ++ open_line (bytes "DRAWING_FORMAT") ∷ []

  abbrev pub names_text : Drawing → Text
  names_text d = cond (is_some (get_or d.own 7 None)) (block (bytes "layer_name") (show_layers K d.layers) []) []

  -- SYMBOL_DEFINE as far as it is
  abbrev pub defines_begun : Set → Bool → Text
  defines_begun s non = top_text true s 2 ++ open_line (bytes "SYMBOL_DEFINE") ∷ cond non (bytes "NON=" ∷ []) (show_symbols K s.symbols [])

  -- a symbol's first line; its `element` and `hide` where they were read
  abbrev pub symbol_begun : Set → Text
  symbol_begun s = defines_begun s false ++ open_line (bytes "E_symbol") ∷ []

  abbrev pub shown_part : Symbol → Text
  shown_part y = cond (is_some (get_or y.own 1 None)) (block (bytes "element") (show_figures K false figure_table y.figures) []) []

  abbrev pub hidden_part : Symbol → Text
  hidden_part y = cond (is_some (get_or y.own 2 None)) (block (bytes "hide") (show_points K false y.hidden) []) []

  abbrev pub parts_text : Symbol → Text
  parts_text y = cond y.hide_first (hidden_part y ++ shown_part y) (shown_part y ++ hidden_part y)

  -- ELEMENT as far as it is, and in it a layer's first line
  abbrev pub elements_begun : Bool → Set → Text
  elements_begun first s = front_text first s ++ open_line (bytes "ELEMENT") ∷ show_blocks (known_of s) (layer_table_of s) s.now.blocks []

  -- figures, in a symbol's `element` or in a layer
  abbrev pub home_known : Set → Home → Known
  home_known s (in_element y) = K
  home_known s (in_layer n) = known_of s

  abbrev pub home_rows : Set → Home → List Rule
  home_rows s (in_element y) = figure_table
  home_rows s (in_layer n) = layer_table_of s

  abbrev pub home_text : Bool → Set → Home → Text
  home_text first s (in_element y) = symbol_begun s ++ hidden_part y ++ open_line (bytes "element") ∷ []
  home_text first s (in_layer n) = elements_begun first s ++ (bytes "LAYER=" ++ open_line (get_or (known_of s).layers n [])) ∷ []

  abbrev pub figures_text : Bool → Set → Home → List Figure → Text
  figures_text first s h fs = home_text first s h ++ show_figures (home_known s h) (is_layer h) (home_rows s h) fs []

  -- a placed symbol's first line; a wire's, and the lines and arcs that were read in it
  abbrev pub owned_text : Set → Owned → Text
  owned_text s (symbol_block o) = open_line (bytes "E_symbol") ∷ []
  owned_text s (wire_block w) = open_line (bytes "E_wire") ∷ show_edges (known_of s) w.elements []
  owned_text s wire_unread = open_line (bytes "E_wire") ∷ []

  -- in any state
  abbrev pub shown : Bool → State → Text
  shown first (top s k) = top_text first s k
  shown first (file s n h p) = open_line (bytes "FILE_FORMAT") ∷ []
  shown first (drawing s d) = drawing_begun s ++ names_text d
  shown first (layer_names s d) = drawing_begun s ++ open_line (bytes "layer_name") ∷ show_layers K d.layers []
  shown first (defines s b) = defines_begun s b
  shown first (symbol s y) = symbol_begun s ++ parts_text y
  shown first (hide s y ps) = symbol_begun s ++ shown_part y ++ open_line (bytes "hide") ∷ show_points K false ps []
  shown first (elements s) = elements_begun first s
  shown first (figures s h fs) = figures_text first s h fs
  shown first (successive s h fs n ps) = figures_text first s h fs ++ open_line (bytes "successive") ∷ show_points (home_known s h) (is_layer h) ps []
  shown first (texts s h fs n o) = figures_text first s h fs ++ open_line (bytes "text") ∷ []
  shown first (placing s k fs n o p) = figures_text first s (in_layer k) fs ++ owned_text s o
  shown first (skipping s k fs n o d) = figures_text first s (in_layer k) fs ++ owned_text s o
  shown first (ended s) = front_text first s ++ element_text s ++ bytes "EOF" ∷ []
