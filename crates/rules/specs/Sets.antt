-- What is read: the set of volumes, block by block, in the order written.
-- Lines and byte places are plain data, kept with what takes a record.
use Rattle.std.specs.Prelude.{ℕ, ◌+◌, ◌/◌, Bool, cond, not, List, [], ◌∷◌, ◌++◌, map, eqb, length, get_or, drop, Option, Some, None}
use Rattle.rules.specs.declared.Digits.{Digits}
use Rattle.rules.specs.Base.{is_nil, total, flat}
use Rattle.rules.specs.RangeClass.{digits_of}
use Rattle.rules.specs.Values.{Num, Value, Known, chars_of, serials_of, amount_at}
use Rattle.rules.specs.Rows.{Rule, Slots, Held, part_of, slot_value, held, number_of}
use Rattle.rules.specs.Blocks.{range_table, elec_table, sym_table, symbol_table}
use Rattle.rules.specs.Figures.{layer_table, placed_table, wire_serial_row}

-- ── figures ──
pub record Point : Type 0 where
  pub line : ℕ
  pub values : List Num

-- a wire's line or arc: its line in the volume, its row in the wire's table, its values, how it is joined to the one before it (`Wires: join_of`)
pub record Edge : Type 0 where
  pub line : ℕ
  pub row : ℕ
  pub values : List Num
  pub join : ℕ

-- a wire that is read: its lines and arcs, in the order written; the values of each direc, of each piend, of each num (`groups`, by these
-- three keys); its texts; the rows that stand once; the text that is open; whether anything but an element has stood in it
pub record Wire : Type 0 where
  pub elements : List Edge
  pub groups : List (List (List Num))
  pub texts : List Slots
  pub own : Slots
  pub writing : Slots
  pub past : Bool

pub data Figure : Type 0 where
  plain : ℕ → ℕ → List Num → Figure  -- its line, its row in the table of figures, its values
  chain : ℕ → List Point → Figure  -- successive
  lettering : ℕ → Slots → Figure  -- text
  placed : ℕ → Held → Figure  -- a placed symbol's block
  wired : ℕ → Wire → Figure  -- a wire's block
  passed : ℕ → Figure  -- a wire that is skipped whole

-- ── the drawing ──
pub record Layer : Type 0 where
  pub line : ℕ
  pub id : List ℕ
  pub name : Value

pub record Drawing : Type 0 where
  pub line : ℕ
  pub own : Slots
  pub layers : List Layer

-- ── symbols ──
pub record Symbol : Type 0 where
  pub line : ℕ
  pub own : Slots
  pub figures : List Figure  -- of `element`
  pub hidden : List Point  -- of `hide`
  pub hide_first : Bool  -- `hide` was written before `element`

-- ── volumes ──
-- one LAYER block: the layer's number, from 0, and its figures
pub record LayerBlock : Type 0 where
  pub layer : ℕ
  pub figures : List Figure

-- what a volume holds
pub record Contents : Type 0 where
  pub line : ℕ  -- of FILE_FORMAT
  pub file : Held  -- what FILE_FORMAT holds
  pub blocks : List LayerBlock

-- ── the set ──
pub record Set : Type 0 where
  pub drawing : Drawing
  pub symbols : List Symbol
  pub volumes : List Contents  -- the volumes whose ELEMENT is closed
  pub now : Contents  -- the volume at hand
  pub taken : ℕ  -- how many records have been taken

abbrev pub no_contents : Contents
no_contents = record { line = 0; file = []; blocks = [] }

abbrev pub no_drawing : Drawing
no_drawing = record { line = 0; own = []; layers = [] }

abbrev pub nothing_yet : Set
nothing_yet = record { drawing = no_drawing; symbols = []; volumes = []; now = no_contents; taken = 0 }

-- a set with one thing changed
abbrev pub with_now : Contents → Set → Set
with_now v s = record { drawing = s.drawing; symbols = s.symbols; volumes = s.volumes; now = v; taken = s.taken }

abbrev pub with_drawing : Drawing → Set → Set
with_drawing d s = record { drawing = d; symbols = s.symbols; volumes = s.volumes; now = s.now; taken = s.taken }

abbrev pub with_symbol : Symbol → Set → Set
with_symbol y s = record { drawing = s.drawing; symbols = s.symbols ++ y ∷ []; volumes = s.volumes; now = s.now; taken = s.taken }

abbrev pub with_volume : Set → Set
with_volume s = record { drawing = s.drawing; symbols = s.symbols; volumes = s.volumes ++ s.now ∷ []; now = s.now; taken = s.taken }

-- records of these kinds are taken
abbrev pub with_records : List ℕ → Set → Set
with_records ks s = record { drawing = s.drawing; symbols = s.symbols; volumes = s.volumes; now = s.now; taken = s.taken + length ks }

abbrev pub with_block : LayerBlock → Set → Set
with_block u s = with_now (record { line = s.now.line; file = s.now.file; blocks = s.now.blocks ++ u ∷ [] }) s

abbrev pub with_layer : Layer → Drawing → Drawing
with_layer l d = record { line = d.line; own = d.own; layers = d.layers ++ l ∷ [] }

abbrev pub with_own : Slots → Drawing → Drawing
with_own o d = record { line = d.line; own = o; layers = d.layers }

abbrev pub symbol_own : Slots → Symbol → Symbol
symbol_own o y = record { line = y.line; own = o; figures = y.figures; hidden = y.hidden; hide_first = y.hide_first }

abbrev pub symbol_figures : List Figure → Symbol → Symbol
symbol_figures fs y = record { line = y.line; own = y.own; figures = fs; hidden = y.hidden; hide_first = y.hide_first }

abbrev pub symbol_hidden : List Point → Symbol → Symbol
symbol_hidden ps y = record { line = y.line; own = y.own; figures = y.figures; hidden = ps; hide_first = y.hide_first }

abbrev pub symbol_order : Bool → Symbol → Symbol
symbol_order b y = record { line = y.line; own = y.own; figures = y.figures; hidden = y.hidden; hide_first = b }

-- ── what the set says ──
-- no volume is closed: the volume at hand is the first
abbrev pub is_first : Set → Bool
is_first s = is_nil s.volumes

abbrev pub head_or : Contents → List Contents → Contents
head_or v [] = v
head_or v (u ∷ us) = u

abbrev pub first_contents : Set → Contents
first_contents s = head_or s.now s.volumes

-- the ranges of the file, 0 where they are not written
abbrev pub arc_of : Set → ℕ
arc_of s = number_of "arc" range_table (part_of (first_contents s).file 1)

abbrev pub symbol_range : Set → ℕ
symbol_range s = number_of "E_sym" elec_table (part_of (first_contents s).file 3)

abbrev pub define_range : Set → ℕ
define_range s = number_of "S_elec" sym_table (part_of (first_contents s).file 4)

abbrev pub wire_range : Set → ℕ
wire_range s = number_of "E_wire" elec_table (part_of (first_contents s).file 3)

-- the file's E_sym as digits
abbrev pub range_of : Set → Digits
range_of s = digits_of (symbol_range s)

-- E_sym is 001
abbrev pub is_single : Set → Bool
is_single s = eqb (symbol_range s) 1

-- E_wire isn't 000
abbrev pub is_wired : Set → Bool
is_wired s = not (eqb (wire_range s) 0)

-- "The first digit 0 to 4 says how elements join."
abbrev pub join_digit : Set → ℕ
join_digit s = wire_range s / 100

-- the file's E_wire as digits: "E_wire's last two digits"
abbrev pub wires_of : Set → Digits
wires_of s = digits_of (wire_range s)

-- the table of a layer's figures, by the file's ranges
abbrev pub layer_table_of : Set → List Rule
layer_table_of s = layer_table (is_single s) (is_wired s)

abbrev pub symbol_name_of : Symbol → List ℕ
symbol_name_of y = chars_of (slot_value (held "name" symbol_table y.own))

abbrev pub known_of : Set → Known
known_of s = record { symbols = map symbol_name_of s.symbols; layers = map (λ l. l.id) s.drawing.layers }

-- the own serial number of a placed symbol, where one was read
abbrev pub own_serial : List ℕ → List ℕ
own_serial [] = []
own_serial (n ∷ ps) = n ∷ []

-- a wire's, the first number of its serial
abbrev pub own_number : Option Value → List ℕ
own_number None = []
own_number (Some v) = amount_at v 0 ∷ []

abbrev pub figure_serial : Figure → List ℕ
figure_serial (plain n j v) = []
figure_serial (chain n ps) = []
figure_serial (lettering n s) = []
figure_serial (placed n h) = own_serial (serials_of (slot_value (held "serial" placed_table (part_of h 0))))
figure_serial (wired n w) = own_number (get_or w.own wire_serial_row None)
figure_serial (passed n) = []

abbrev pub serials_of_block : LayerBlock → List ℕ
serials_of_block u = flat (map figure_serial u.figures)

abbrev pub serials_of_volume : Contents → List ℕ
serials_of_volume v = flat (map serials_of_block v.blocks)

-- ── partners ──
-- those that are given, of a wire's start and end; of a placed symbol all
abbrev pub given_partner : ℕ → ℕ → List ℕ
given_partner state n = cond (eqb state 2) (n ∷ []) []

abbrev pub wire_partners : Value → List ℕ
wire_partners v = given_partner (amount_at v 1) (amount_at v 2) ++ given_partner (amount_at v 3) (amount_at v 4)

abbrev pub figure_partners : Figure → List ℕ
figure_partners (plain n j v) = []
figure_partners (chain n ps) = []
figure_partners (lettering n s) = []
figure_partners (placed n h) = drop 1 (serials_of (slot_value (held "serial" placed_table (part_of h 0))))
figure_partners (wired n w) = wire_partners (slot_value (get_or w.own wire_serial_row None))
figure_partners (passed n) = []

abbrev pub partners_of_volume : Contents → List ℕ
partners_of_volume v = flat (map (λ u. flat (map figure_partners u.figures)) v.blocks)

-- all own numbers in the layers that are closed
abbrev pub serials_in : Set → List ℕ
serials_in s = flat (map serials_of_volume s.volumes) ++ serials_of_volume s.now

-- "the volume's number of keys directly in layers"
abbrev pub elements_of : Contents → ℕ
elements_of v = total (λ u. length u.figures) v.blocks

abbrev pub used_in : Contents → List ℕ
used_in v = map (λ u. u.layer) v.blocks
