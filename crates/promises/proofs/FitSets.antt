-- Sets in which only rows of text hold text, and what they hold of it is known: S says what of a text and its place.
use Rattle.std.specs.Prelude.{Option, Some, None}
use Prim.Native.Nat.{ℕ, ◌<◌}
use mathlib.Core.Bool.{Bool, true, false}
use mathlib.Core.List.{List, [], ◌∷◌}
use mathlib.Core.Path.{◌≡◌}
use lib.ListN.{get_or}
use Rattle.rules.specs.Values.{Value, empty, nums, chars, linked, Kind, values, text, word, volume_name, sheet, ratio, serials, wire_serial, symbol_circle, nothing, opens, headed, either}
use Rattle.rules.specs.Rows.{Rule, Slots, Held, part_of}
use Rattle.rules.specs.Blocks.{file_tables, drawing_table, symbol_table, layer_name_kind}
use Rattle.rules.specs.Figures.{text_table, placed_tables, wire_table, wire_text_table}
use Rattle.rules.specs.Sets.{Figure, plain, chain, lettering, placed, Layer, Drawing, Symbol, LayerBlock, Contents, Set, Edge, Wire, wired, passed}
use Rattle.rules.specs.RecordTable.{first_slot, other_slots}

-- ── only rows of text hold text ──
abbrev pub is_text : Kind → Bool
is_text (values p ps a) = false
is_text (text n b) = true
is_text (word n b) = true
is_text volume_name = true
is_text sheet = false
is_text ratio = false
is_text serials = false
is_text wire_serial = false
is_text symbol_circle = false
is_text nothing = false
is_text (opens i) = false
is_text (headed i p) = false
is_text (either i) = false

-- of these the ones that a record shows, in the spool's own bytes (next_file is kept in capitals, and shown by none)
abbrev pub is_shown : Kind → Bool
is_shown (values p ps a) = false
is_shown (text n b) = true
is_shown (word n b) = true
is_shown volume_name = false
is_shown sheet = false
is_shown ratio = false
is_shown serials = false
is_shown wire_serial = false
is_shown symbol_circle = false
is_shown nothing = false
is_shown (opens i) = false
is_shown (headed i p) = false
is_shown (either i) = false

-- where nothing is asked of a text and its place
abbrev pub AnyText : ℕ → List ℕ → Type 0
AnyText at c = Unit {0}

abbrev pub Each : {A : Type 0} → (A → Type 0) → List A → Type 0
Each P [] = Unit {0}
Each P (a ∷ s) = P a × Each P s

-- a figure that is one line has a row of its table
abbrev pub FitPlain : Bool → ℕ → Type 0
FitPlain true j = j < 8
FitPlain false j = j < 6

-- a wire's line or arc has a row of the wire's table
abbrev pub FitEdge : Edge → Type 0
FitEdge e = e.row < 2

module _ (S : ℕ → List ℕ → Type 0) where
  -- the first arguments: the row is one of text, and shown
  abbrev pub FitText : Bool → Bool → Value → Type 0
  FitText t b empty = Unit {0}
  FitText t b (nums v) = b ≡ false
  FitText t b (chars at c) = (t ≡ true) × (b ≡ true → S at c)
  FitText t b (linked n ps) = b ≡ false

  abbrev pub FitValue : Kind → Value → Type 0
  FitValue d v = FitText (is_text d) (is_shown d) v

  abbrev pub FitSlot : Bool → Bool → Option Value → Type 0
  FitSlot t b None = Unit {0}
  FitSlot t b (Some v) = FitText t b v

  abbrev pub FitSlots : List Rule → Slots → Type 0
  FitSlots [] s = Unit {0}
  FitSlots (r ∷ t) s = FitSlot (is_text r.holds) (is_shown r.holds) (first_slot s) × FitSlots t (other_slots s)

  abbrev pub FitHeld : List (List Rule) → Held → Type 0
  FitHeld ts h = (p : ℕ) → FitSlots (get_or ts p []) (part_of h p)

  -- a wire: its elements, its texts, its rows that stand once
  abbrev pub FitWire : Wire → Type 0
  FitWire w = Each FitEdge w.elements × Each (FitSlots wire_text_table) w.texts × FitSlots wire_table w.own

  -- a figure of a layer, or of a symbol, in which no symbol is placed and no wire stands
  abbrev pub FitFigure : Bool → Figure → Type 0
  FitFigure in_layer (plain n j v) = FitPlain in_layer j
  FitFigure in_layer (chain n ps) = Unit {0}
  FitFigure in_layer (lettering n s) = FitSlots (text_table in_layer 4 12) s
  FitFigure true (placed n h) = FitHeld placed_tables h
  FitFigure false (placed n h) = ⊥
  FitFigure true (wired n w) = FitWire w
  FitFigure false (wired n w) = ⊥
  FitFigure true (passed n) = Unit {0}
  FitFigure false (passed n) = ⊥

  abbrev pub FitLayer : Layer → Type 0
  FitLayer l = FitValue layer_name_kind l.name

  abbrev pub FitDrawing : Drawing → Type 0
  FitDrawing d = FitSlots drawing_table d.own × Each FitLayer d.layers

  abbrev pub FitSymbol : Symbol → Type 0
  FitSymbol y = FitSlots symbol_table y.own × Each (FitFigure false) y.figures

  abbrev pub FitBlock : LayerBlock → Type 0
  FitBlock u = Each (FitFigure true) u.figures

  abbrev pub FitContents : Bool → Contents → Type 0
  FitContents first v = FitHeld (file_tables first) v.file × Each FitBlock v.blocks

  -- the volumes, of which the first has FILE_FORMAT's whole table
  abbrev pub FitVolumes : List Contents → Type 0
  FitVolumes [] = Unit {0}
  FitVolumes (v ∷ vs) = FitContents true v × Each (FitContents false) vs

  abbrev pub FitSet : Set → Type 0
  FitSet s = FitDrawing s.drawing × Each FitSymbol s.symbols × FitVolumes s.volumes
