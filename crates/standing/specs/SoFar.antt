-- The records of each part of a set that is being read: of what is closed, and of the blocks that are open, as far as they are.
use Rattle.std.specs.Prelude.{ℕ, zero, suc, ◌+◌, Bool, true, false, List, [], ◌∷◌, ◌++◌, ℤ, pos, length, replicate, set, Option, Some, None}
use Rattle.std.proofs.lemmas.List.Edits.{sets}
use Rattle.rules.specs.declared.Class.{Class}
use Rattle.rules.specs.Blocks.{symbol_table}
use Rattle.rules.specs.Values.{value_at}
use Rattle.rules.specs.Figures.{wire_table, wire_text_table}
use Rattle.rules.specs.Sets.{Point, Edge, Wire, Figure, Drawing, Symbol, Set, is_first}
use Rattle.rules.specs.Machine.{Home, in_element, in_layer}
use Rattle.rules.specs.RecordTable.{put_slots, start, file_records, drawing_record, layer_records, first_type, figure_records}
use Rattle.rules.specs.RecordTable.{symbol_records, body_records, records_from, width, kind_symbol, kind_successive, in_symbol}
use Rattle.rules.specs.RecordTable.{view_of, plain_view, wire_start, shelves, put_groups, put_texts, place_text_state}
use Rattle.rules.specs.Wires.{last_edge}

-- the number of the volume at hand
abbrev pub volume_of : Set → ℕ
volume_of s = suc (length s.volumes)

-- of the closed volumes
abbrev pub closed_records : Class → Set → List (List ℤ)
closed_records c s = records_from c s s.volumes

-- of the header, the drawing and the layers, and of the closed symbols
abbrev pub sheet_records : Set → Drawing → List (List ℤ)
sheet_records s d = file_records true 1 s.now ++ drawing_record d ∷ layer_records 0 d.layers

abbrev pub front_records : Set → List (List ℤ)
front_records s = sheet_records s s.drawing ++ symbol_records 0 s.symbols

-- of all before ELEMENT in the volume at hand, and of the volumes before it
abbrev pub base_records : Class → Set → Bool → List (List ℤ)
base_records c s true = front_records s
base_records c s false = closed_records c s ++ file_records false (volume_of s) s.now

-- of all closed layers
abbrev pub layers_records : Class → Set → List (List ℤ)
layers_records c s = base_records c s (is_first s) ++ body_records (view_of c s) (volume_of s) s.now

-- a symbol's own, as far as it is
abbrev pub own_record : ℕ → Symbol → List ℤ
own_record n y = put_slots symbol_table y.own (start kind_symbol n 1 y.line)

-- ── figures: in a symbol's `element`, or in a layer ──
abbrev pub home_owner : Set → Home → ℕ
home_owner s (in_element y) = length s.symbols
home_owner s (in_layer k) = k

abbrev pub home_volume : Set → Home → ℕ
home_volume s (in_element y) = 1
home_volume s (in_layer k) = volume_of s

-- "plus 20 inside a symbol"
abbrev pub home_more : Home → ℕ
home_more (in_element y) = in_symbol
home_more (in_layer k) = 0

abbrev pub home_figure : Class → Set → Home → Figure → List (List ℤ)
home_figure c s (in_element y) f = figure_records plain_view in_symbol (length s.symbols) 1 f
home_figure c s (in_layer k) f = figure_records (view_of c s) 0 k (volume_of s) f

-- a `successive`'s own record has its first point's type from that point on, its count when it closes
abbrev pub chain_so_far : Set → Home → ℕ → List Point → List ℤ
chain_so_far s h n ps = sets (start (kind_successive + home_more h) (home_owner s h) (home_volume s h) n) 4 (first_type ps ∷ [])

-- The numbers of an open wire's two records: in places that are 0 when they are complete, what the next element must know of the last one
-- (`WireLines: former_kept`).
abbrev pub former_numbers : Option Edge → List ℤ → List ℤ
former_numbers None t = t
former_numbers (Some e) t = set (set (set t 4 (value_at e.values 3)) (width + 4) (value_at e.values 4)) (width + 30) (pos (suc e.row))

-- what was read of it: the rows that stand once, the texts, the keys that repeat
abbrev pub wire_read : Wire → List ℤ → List ℤ
wire_read w t = put_groups shelves w.groups (put_texts w.texts (put_slots wire_table w.own t))

-- a text has its state from its opener on
abbrev pub text_begun : ℕ → List ℤ → List ℤ
text_begun zero t = t
text_begun (suc p) t = set t place_text_state (pos 2)

-- with its text open, or not
abbrev pub wire_so_far : Set → ℕ → ℕ → Wire → ℕ → List ℤ
wire_so_far s k n w p = former_numbers (last_edge w.elements) (text_begun p (wire_read w (wire_start k (volume_of s) n)))

-- its open text, as a text's own record
abbrev pub writing_record : Wire → List ℤ
writing_record w = put_slots wire_text_table w.writing (replicate width (pos 0))

-- a record whose numbers come later
abbrev pub empty_record : List ℤ
empty_record = replicate width (pos 0)

-- FILE_FORMAT's numbers are put when it closes
abbrev pub empty_records : Bool → List (List ℤ)
empty_records true = empty_record ∷ empty_record ∷ []
empty_records false = empty_record ∷ []

-- at the top level, by the block that comes next
abbrev pub top_so_far : Class → Set → ℕ → List (List ℤ)
top_so_far c s zero = closed_records c s
top_so_far c s (suc zero) = file_records true 1 s.now
top_so_far c s (suc (suc zero)) = sheet_records s s.drawing
top_so_far c s (suc (suc (suc zero))) = base_records c s (is_first s)
top_so_far c s (suc (suc (suc (suc k)))) = closed_records c s
