-- Document 01, "Fixed form": a set written back, line by line. "no comments, blanks or empty lines; keys in the order above".
-- Each function takes the lines that follow what it writes.
use Rattle.std.specs.Prelude.{ℕ, zero, suc, Bool, true, false, cond, List, [], ◌∷◌, ◌++◌, eqb, get_or, Option, Some, None}
use Rattle.rules.specs.Base.{bytes, is_nil}
use Rattle.rules.specs.Spool.{unlines, volume_bytes}
use Rattle.rules.specs.Values.{Num, Value, nums, Known, Kind, values, text, word, volume_name, sheet, ratio, serials, wire_serial, symbol_circle, nothing, opens, headed, either}
use Rattle.rules.specs.Values.{show_content, chars_of, amount_at}
use Rattle.rules.specs.Rows.{Rule, Slots, Held, part_of}
use Rattle.rules.specs.Blocks.{file_tables, drawing_table, symbol_table}
use Rattle.rules.specs.Figures.{figure_table, point_table, text_table, placed_tables, wire_table, wire_text_table, first_group_row}
use Rattle.rules.specs.Sets.{Point, Edge, Wire, Figure, plain, chain, lettering, placed, wired, passed, Layer, Drawing, Symbol, LayerBlock, Contents, Set}
use Rattle.rules.specs.Sets.{layer_table_of, known_of}
use Rattle.rules.specs.RecordTable.{rule_at}

abbrev pub Text : Type 0
Text = List (List ℕ)

abbrev pub open_line : List ℕ → List ℕ
open_line k = k ++ bytes ":{"

-- ── a row's line ──
-- does its line open an inner block?
abbrev pub opens_block : Kind → Value → Bool
opens_block (values p ps a) v = false
opens_block (text n b) v = false
opens_block (word n b) v = false
opens_block volume_name v = false
opens_block sheet v = false
opens_block ratio v = false
opens_block serials v = false
opens_block wire_serial v = false
opens_block symbol_circle v = false
opens_block nothing v = false
opens_block (opens i) v = true
opens_block (headed i p) v = true
opens_block (either i) v = eqb (amount_at v 0) 1

abbrev pub inner_of : Kind → ℕ
inner_of d = Rattle.rules.specs.Rows.inner_of d

-- what stands behind the key
abbrev pub behind : Known → Kind → Value → List ℕ
behind k (values p ps a) v = 61 ∷ show_content k (values p ps a) v
behind k (text n b) v = 61 ∷ show_content k (text n b) v
behind k (word n b) v = 61 ∷ show_content k (word n b) v
behind k volume_name v = 61 ∷ show_content k volume_name v
behind k sheet v = 61 ∷ show_content k sheet v
behind k ratio v = 61 ∷ show_content k ratio v
behind k serials v = 61 ∷ show_content k serials v
behind k wire_serial v = 61 ∷ show_content k wire_serial v
behind k symbol_circle v = 61 ∷ show_content k symbol_circle v
behind k nothing v = 61 ∷ []
behind k (opens i) v = bytes ":{"
behind k (headed i p) v = 61 ∷ open_line (show_content k (headed i p) v)
behind k (either i) v = 61 ∷ cond (eqb (amount_at v 0) 1) (open_line (show_content k (either i) v)) (show_content k (either i) v)

abbrev pub line_of : Known → Rule → Value → List ℕ
line_of k r v = r.key ++ behind k r.holds v

-- a row's line and, where it opens an inner block, that block's lines and its `}`
abbrev pub show_value : Known → Rule → Value → (ℕ → Text → Text) → Text → Text
show_value k r v inner ls = line_of k r v ∷ cond (opens_block r.holds v) (inner (inner_of r.holds) (bytes "}" ∷ ls)) ls

abbrev pub show_slot : Known → Rule → Option Value → (ℕ → Text → Text) → Text → Text
show_slot k r None inner ls = ls
show_slot k r (Some v) inner ls = show_value k r v inner ls

abbrev pub show_slots : Known → List Rule → Slots → (ℕ → Text → Text) → Text → Text
show_slots k [] s inner ls = ls
show_slots k (r ∷ rs) [] inner ls = ls
show_slots k (r ∷ rs) (o ∷ s) inner ls = show_slot k r o inner (show_slots k rs s inner ls)

abbrev pub no_inner : ℕ → Text → Text
no_inner i ls = ls

-- a block's inner parts: those within it, and those within these
abbrev pub show_inner : Known → List (List Rule) → Held → (ℕ → Text → Text) → ℕ → Text → Text
show_inner k ts h inner i ls = show_slots k (get_or ts i []) (part_of h i) inner ls

abbrev pub show_held : Known → List (List Rule) → Held → Text → Text
show_held k ts h ls = show_inner k ts h (show_inner k ts h (show_inner k ts h no_inner)) 0 ls

abbrev pub block : List ℕ → (Text → Text) → Text → Text
block key inside ls = open_line key ∷ inside (bytes "}" ∷ ls)

-- ── figures ──
-- the points of a layer, or of a symbol
abbrev pub show_points : Known → Bool → List Point → Text → Text
show_points k in_layer [] ls = ls
show_points k in_layer (p ∷ ps) ls = line_of k (rule_at (point_table in_layer) 0) (nums p.values) ∷ show_points k in_layer ps ls

-- a wire's lines and arcs, in the order written
abbrev pub show_edges : Known → List Edge → Text → Text
show_edges k [] ls = ls
show_edges k (e ∷ es) ls = line_of k (rule_at wire_table e.row) (nums e.values) ∷ show_edges k es ls

-- "several of one key in the order written": the lines of a row that stands any number of times
abbrev pub show_group : Known → Rule → List (List Num) → Text → Text
show_group k r [] ls = ls
show_group k r (v ∷ vs) ls = line_of k r (nums v) ∷ show_group k r vs ls

-- the groups of a wire, from the row j on
abbrev pub show_groups : Known → ℕ → List (List (List Num)) → Text → Text
show_groups k j [] ls = ls
show_groups k j (g ∷ gs) ls = show_group k (rule_at wire_table j) g (show_groups k (suc j) gs ls)

abbrev pub show_wire_texts : Known → List Slots → Text → Text
show_wire_texts k [] ls = ls
show_wire_texts k (s ∷ ss) ls = block (bytes "text") (show_slots k wire_text_table s no_inner) (show_wire_texts k ss ls)

-- "lines and arcs first", then direc, piend, num, text, length, circuit, power, serial
abbrev pub show_wire : Known → Wire → Text → Text
show_wire k w ls =
    show_edges k w.elements (show_groups k first_group_row w.groups (show_wire_texts k w.texts (show_slots k wire_table w.own no_inner ls)))

-- a figure of a layer, or of a symbol, with its table of figures; no wire is skipped at the class that is written from
abbrev pub show_figure : Known → Bool → List Rule → Figure → Text → Text
show_figure k in_layer t (plain n j v) ls = line_of k (rule_at t j) (nums v) ∷ ls
show_figure k in_layer t (chain n ps) ls = block (bytes "successive") (show_points k in_layer ps) ls
show_figure k in_layer t (lettering n s) ls = block (bytes "text") (show_slots k (text_table in_layer 4 12) s no_inner) ls
show_figure k in_layer t (placed n h) ls = block (bytes "E_symbol") (show_held k placed_tables h) ls
show_figure k in_layer t (wired n w) ls = block (bytes "E_wire") (show_wire k w) ls
show_figure k in_layer t (passed n) ls = block (bytes "E_wire") (λ rest. rest) ls

abbrev pub show_figures : Known → Bool → List Rule → List Figure → Text → Text
show_figures k in_layer t [] ls = ls
show_figures k in_layer t (f ∷ fs) ls = show_figure k in_layer t f (show_figures k in_layer t fs ls)

-- ── the blocks ──
-- "LAYER=id:{ figures or none }"; "a symbol's `element` and `hide` stay in the order written"
abbrev pub show_layers : Known → List Layer → Text → Text
show_layers k [] ls = ls
show_layers k (l ∷ rest) ls = (l.id ++ 61 ∷ chars_of l.name) ∷ show_layers k rest ls

abbrev pub show_drawing : Known → Drawing → Text → Text
show_drawing k d ls = show_slots k drawing_table d.own (λ i rest. show_layers k d.layers rest) ls

abbrev pub symbol_inner : Known → Symbol → ℕ → Text → Text
symbol_inner k y zero ls = ls
symbol_inner k y (suc zero) ls = show_figures k false figure_table y.figures ls
symbol_inner k y (suc (suc i)) ls = show_points k false y.hidden ls

-- the second and third of a list exchanged
abbrev pub exchanged : {A : Type 0} → Bool → List A → List A
exchanged false s = s
exchanged true [] = []
exchanged true (a ∷ []) = a ∷ []
exchanged true (a ∷ b ∷ []) = a ∷ b ∷ []
exchanged true (a ∷ b ∷ c ∷ s) = a ∷ c ∷ b ∷ s

abbrev pub show_symbol : Known → Symbol → Text → Text
show_symbol k y ls =
    block (bytes "E_symbol") (show_slots k (exchanged y.hide_first symbol_table) (exchanged y.hide_first y.own) (symbol_inner k y)) ls

abbrev pub show_symbols : Known → List Symbol → Text → Text
show_symbols k [] ls = ls
show_symbols k (y ∷ ys) ls = show_symbol k y (show_symbols k ys ls)

abbrev pub show_defines : Known → List Symbol → Text → Text
show_defines k ys ls = cond (is_nil ys) (bytes "NON=" ∷ ls) (show_symbols k ys ls)

abbrev pub show_blocks : Known → List Rule → List LayerBlock → Text → Text
show_blocks k t [] ls = ls
show_blocks k t (u ∷ us) ls =
    (bytes "LAYER=" ++ open_line (get_or k.layers u.layer [])) ∷ show_figures k true t u.figures (bytes "}" ∷ show_blocks k t us ls)

-- ── the volumes: "Same volumes, names and record order" ──
abbrev pub show_first : Known → List Rule → Set → Contents → Text → Text
show_first k t s v ls =
    block (bytes "FILE_FORMAT") (show_held k (file_tables true) v.file)
    (block (bytes "DRAWING_FORMAT") (show_drawing k s.drawing)
    (block (bytes "SYMBOL_DEFINE") (show_defines k s.symbols)
    (block (bytes "ELEMENT") (show_blocks k t v.blocks) ls)))

abbrev pub show_later : Known → List Rule → Contents → Text → Text
show_later k t v ls =
    block (bytes "FILE_FORMAT") (show_held k (file_tables false) v.file)
    (block (bytes "ELEMENT") (show_blocks k t v.blocks) ls)

-- "The last line of the last volume is `EOF`; other volumes have none."
abbrev pub ending : List Contents → Text
ending [] = bytes "EOF" ∷ []
ending (v ∷ vs) = []

abbrev pub later_lines : Known → List Rule → List Contents → List Text
later_lines k t [] = []
later_lines k t (v ∷ vs) = show_later k t v (ending vs) ∷ later_lines k t vs

abbrev pub volume_lines : Set → List Contents → List Text
volume_lines s [] = []
volume_lines s (v ∷ vs) =
    let k = known_of s in
    let t = layer_table_of s in
    show_first k t s v (ending vs) ∷ later_lines k t vs

-- each volume's lines behind its head
abbrev pub volumes_bytes : List (List ℕ) → List Text → List ℕ
volumes_bytes names [] = []
volumes_bytes [] (v ∷ vs) = []
volumes_bytes (n ∷ names) (v ∷ vs) = volume_bytes n (unlines v) ++ volumes_bytes names vs

-- the fixed form of an accepted set, as the bytes of a spool whose volumes have these names
unfoldable pub fixed_form : List (List ℕ) → Set → List ℕ
fixed_form names s = volumes_bytes names (volume_lines s s.volumes)
