-- What is true of everything that was read at class 15: each line that the fixed form writes of it reads as the same again.
use Rattle.std.specs.Prelude.{Option, Some, None}
use Prim.Native.Nat.{ℕ, zero, suc, ◌+◌}
use mathlib.Core.Bool.{Bool, true, false, cond, ◌&&◌, ◌||◌, not}
use mathlib.Core.List.{List, [], ◌∷◌, ◌++◌, map}
use mathlib.Core.Path.{◌≡◌}
use lib.Dec.{eqb, leb}
use lib.ListN.{length, get_or}
use Rattle.rules.specs.declared.Digits.{Digits}
use Rattle.rules.specs.Base.{is_nil, is_none, is_some, among, has_number, flat, index_of}
use Rattle.rules.specs.RefusalNumbers.{got}
use Rattle.rules.specs.Lines.{allowed, Rest, brace, equals, keyed, form_of, free_shape_of}
use Rattle.rules.specs.RangeClass.{digits, digits_of, reaches, both}
use Rattle.rules.specs.Values.{Num, Value, nums, Known, is_layer_id, chars_of, amount_at}
use Rattle.rules.specs.Rows.{Rule, Slots, blank, Held, part_of, number_of, rows_there, complete, Act, entry, begin, inner_of, act_row}
use Rattle.rules.specs.Blocks.{file_table, range_table, base_table, elec_table, sym_table, later_table, drawing_table, most_layers, symbol_table}
use Rattle.rules.specs.Figures.{layer_table, figure_table, most_points, least_points, point_table, text_table, placed_table, wire_table, most_direcs, first_group_row, num_row, wire_text_row}
use Rattle.rules.specs.Sets.{Point, Figure, plain, chain, lettering, placed, Layer, Drawing, Symbol, LayerBlock, Contents, Set, arc_of, range_of, define_range, symbol_name_of, known_of, serials_of_volume, elements_of, used_in, Edge, Wire, wired, passed, first_contents}
use Rattle.rules.specs.VolumesAndTotals.{own_table, chained, dated, counted_all, layers_used, partners_exist}
use Rattle.rules.specs.Machine.{layer_value, tests_partners}
use Rattle.rules.specs.Wires.{like_first, is_element_row}
use Rattle.rules.specs.FixedForm.{opens_block, behind, line_of}
use Rattle.rules.specs.Answers.{full_class}
use Rattle.rules.specs.RecordTable.{rule_at}
use Rattle.rules.proofs.Rows.{Row}
use Rattle.promises.specs.PlacesApart.{bare_value, bare_form}
use Rattle.promises.proofs.Edges.{Behind, Joins}

-- ── one row ──
-- what stands behind the key of a written line
abbrev pub rest_in : List ℕ → Rest
rest_in [] = brace
rest_in (b ∷ c) = cond (eqb b 61) (equals 0 c) brace

abbrev pub rest_of : Known → Rule → Value → Rest
rest_of k r v = rest_in (behind k r.holds v)

-- what the written line of row j does where it is read
abbrev pub written_act : ℕ → Rule → Value → Act
written_act j r v = cond (opens_block r.holds v) (begin (inner_of r.holds) j (bare_value v)) (entry j (bare_value v))

-- the line written of v under the row r has its form, its bytes are allowed, and it reads as v again
pub record GoodRow (k : Known) (d : Digits) (r : Rule) (v : Value) : Type 0 where
  pub level : reaches d r.least ≡ true
  pub form : (at : ℕ) → bare_form (form_of at (line_of k r v)) ≡ keyed r.key (rest_of k r v)
  pub again : (j : ℕ) → act_row k d false j r (rest_of k r v) ≡ written_act j r v
  pub okay : allowed (line_of k r v) ≡ true
  pub short : leb (length (line_of k r v)) 512 ≡ true

-- of rows that name neither symbols nor layers it holds whatever is known
abbrev pub Always : Digits → Rule → Value → Type 0
Always d r v = (k : Known) → GoodRow k d r v

-- ── slots ──
abbrev pub GoodSlots : (Rule → Value → Type 0) → List Rule → Slots → Type 0
GoodSlots P [] [] = Unit {0}
GoodSlots P [] (o ∷ s) = ⊥
GoodSlots P (r ∷ t) [] = ⊥
GoodSlots P (r ∷ t) (None ∷ s) = GoodSlots P t s
GoodSlots P (r ∷ t) (Some v ∷ s) = P r v × GoodSlots P t s

pub good-blank : (P : Rule → Value → Type 0) (t : List Rule) → GoodSlots P t (blank t)
good-blank P [] = tt
good-blank P (r ∷ t) = good-blank P t

-- one slot
abbrev pub InSlot : (Rule → Value → Type 0) → Rule → Option Value → Type 0
InSlot P r None = Unit {0}
InSlot P r (Some v) = P r v

-- a closed block of the table t: its slots are good, and nothing required at d is missing
pub record Closed (P : Rule → Value → Type 0) (d : Digits) (t : List Rule) (s : Slots) : Type 0 where
  pub good : GoodSlots P t s
  pub all : complete d t (rows_there s) ≡ true

-- an inner part: closed where it was opened, blank where not
abbrev pub GoodPart : Bool → (Rule → Value → Type 0) → Digits → List Rule → Slots → Type 0
GoodPart true P d t s = Closed P d t s
GoodPart false P d t s = s ≡ blank t

abbrev pub none0 : Digits
none0 = digits 0 0

-- ── FILE_FORMAT ──
abbrev pub is_one : Option Value → Bool
is_one None = false
is_one (Some v) = eqb (amount_at v 0) 1

pub record GoodFile (h : Held) : Type 0 where
  pub own : Slots
  pub range : Slots
  pub base : Slots
  pub elec : Slots
  pub sym : Slots
  pub is : h ≡ own ∷ range ∷ base ∷ elec ∷ sym ∷ []
  pub own-good : Closed (Always none0) none0 file_table own
  pub range-good : Closed (Always none0) none0 range_table range
  pub base-good : Closed (Always none0) none0 base_table base
  pub elec-good : GoodPart (is_one (get_or range 2 None)) (Always none0) none0 elec_table elec
  pub sym-good : GoodPart (is_one (get_or range 5 None)) (Always none0) none0 sym_table sym

pub record GoodLater (h : Held) : Type 0 where
  pub own : Slots
  pub is : h ≡ own ∷ []
  pub own-good : Closed (Always none0) none0 later_table own

-- ── figures ──
abbrev pub GoodPoints : Bool → List Point → Type 0
GoodPoints b [] = Unit {0}
GoodPoints b (p ∷ ps) = Always none0 (rule_at (point_table b) 0) (nums p.values) × GoodPoints b ps

pub record GoodPlaced (k : Known) (d : Digits) (h : Held) : Type 0 where
  pub own : Slots
  pub text : Slots
  pub is : h ≡ own ∷ text ∷ []
  pub own-good : Closed (GoodRow k d) (both full_class.symbols d) placed_table own
  pub text-good : GoodPart (is_some (get_or own 1 None)) (Always none0) none0 (text_table true 16 24) text

-- a line of row j of a table
pub record GoodLine (P : Rule → Value → Type 0) (t : List Rule) (j : ℕ) (v : List Num) : Type 0 where
  pub rule : Rule
  pub row : Row t j rule
  pub good : P rule (nums v)
  pub alone : opens_block rule.holds (nums v) ≡ false

pub record GoodChain (b : Bool) (ps : List Point) : Type 0 where
  pub points : GoodPoints b ps
  pub least : leb least_points (length ps) ≡ true
  pub most : leb (length ps) most_points ≡ true

abbrev pub GoodText : Bool → Slots → Type 0
GoodText b s = Closed (Always none0) none0 (text_table b 4 12) s

-- a wire's line or arc, behind the one before it, in a file of this E_wire
pub record GoodEdge (wires : ℕ) (former : Option Edge) (e : Edge) : Type 0 where
  pub line : GoodLine (Always (digits_of wires)) wire_table e.row e.values
  pub row : is_element_row e.row ≡ true
  pub joins : Joins wires former e

abbrev pub GoodEdges : ℕ → Option Edge → List Edge → Type 0
GoodEdges wires = Behind (GoodEdge wires)

-- ── a wire ── (wires: the file's E_wire)
-- one more line of a row that repeats, behind those before it: `direc` stands twice at most, and each `num` has the first one's earth and power
abbrev pub group_full : ℕ → ℕ → Bool
group_full j n = eqb j first_group_row && leb most_direcs n

pub record GoodNext (d : Digits) (j : ℕ) (before : List (List Num)) (v : List Num) : Type 0 where
  pub line : GoodLine (Always d) wire_table j v
  pub alike : (not (eqb j num_row) || like_first before v) ≡ true
  pub room : group_full j (length before) ≡ false

abbrev pub GoodGroup : Digits → ℕ → List (List Num) → List (List Num) → Type 0
GoodGroup d j before [] = Unit {0}
GoodGroup d j before (v ∷ vs) = GoodNext d j before v × GoodGroup d j (before ++ v ∷ []) vs

-- its texts, which stand where the file has them
abbrev pub GoodTexts : Digits → List Slots → Type 0
GoodTexts d [] = Unit {0}
GoodTexts d (s ∷ ss) = (reaches d (rule_at wire_table wire_text_row).least ≡ true) × GoodText true s × GoodTexts d ss

-- the first n slots hold nothing
abbrev pub none_below : ℕ → Slots → Bool
none_below zero s = true
none_below (suc n) [] = true
none_below (suc n) (o ∷ s) = is_none o && none_below n s

-- the rows behind the text's stand once
abbrev pub once_rows : ℕ
once_rows = wire_text_row + 1

-- the rows that repeat, by their keys
pub record GoodGroups (d : Digits) (gs : List (List (List Num))) : Type 0 where
  pub direcs : List (List Num)
  pub piends : List (List Num)
  pub counts : List (List Num)
  pub are : gs ≡ direcs ∷ piends ∷ counts ∷ []
  pub direcs-good : GoodGroup d 2 [] direcs
  pub piends-good : GoodGroup d 3 [] piends
  pub counts-good : GoodGroup d 4 [] counts

-- open or closed: its elements, its rows that repeat, its texts, its rows that stand once
pub record WireParts (wires : ℕ) (es : List Edge) (gs : List (List (List Num))) (ss : List Slots) (o : Slots) : Type 0 where
  pub elements : GoodEdges wires None es
  pub groups : GoodGroups (digits_of wires) gs
  pub texts : GoodTexts (digits_of wires) ss
  pub own : GoodSlots (Always (digits_of wires)) wire_table o
  pub once : none_below once_rows o ≡ true

abbrev pub WireHolds : ℕ → Wire → Type 0
WireHolds wires w = WireParts wires w.elements w.groups w.texts w.own

-- something but an element stands there
abbrev pub any_line : List (List (List Num)) → Bool
any_line [] = false
any_line (g ∷ gs) = not (is_nil g) || any_line gs

abbrev pub any_slot : Slots → Bool
any_slot [] = false
any_slot (o ∷ s) = is_some o || any_slot s

abbrev pub has_more : Wire → Bool
has_more w = (any_line w.groups || not (is_nil w.texts)) || any_slot w.own

-- closed: nothing required is missing; nothing was skipped, so that what stands is all there was
pub record GoodWire (wires : ℕ) (w : Wire) : Type 0 where
  pub holds : WireHolds wires w
  pub all : complete (both full_class.wires (digits_of wires)) wire_table (rows_there w.own) ≡ true
  pub shut : w.writing ≡ []
  pub past : w.past ≡ has_more w

-- the ranges of its file that a layer is read with: E_sym and E_wire
pub record Ranges : Type 0 where
  pub symbols : ℕ
  pub wires : ℕ

-- in a FILE_FORMAT, and of a set: in its first volume's
abbrev pub ranges_in : Held → Ranges
ranges_in f = record { symbols = number_of "E_sym" elec_table (part_of f 3); wires = number_of "E_wire" elec_table (part_of f 3) }

abbrev pub ranges_of : Set → Ranges
ranges_of s = ranges_in (first_contents s).file

abbrev pub symbol_digits : Ranges → Digits
symbol_digits x = digits_of x.symbols

abbrev pub has_wires : Ranges → Bool
has_wires x = not (eqb x.wires 0)

abbrev pub layer_rows : Ranges → List Rule
layer_rows x = layer_table (eqb x.symbols 1) (has_wires x)

-- a figure of a layer; at class 15 no wire is skipped
abbrev pub GoodFigure : Known → Ranges → Figure → Type 0
GoodFigure k x (plain n j v) = GoodLine (GoodRow k (symbol_digits x)) (layer_rows x) j v
GoodFigure k x (chain n ps) = GoodChain true ps
GoodFigure k x (lettering n s) = GoodText true s
GoodFigure k x (placed n h) = GoodPlaced k (symbol_digits x) h × (eqb x.symbols 1 ≡ false) × (reaches (symbol_digits x) (digits 0 1) ≡ true)
GoodFigure k x (wired n w) = (has_wires x ≡ true) × GoodWire x.wires w
GoodFigure k x (passed n) = ⊥

abbrev pub GoodFigures : Known → Ranges → List Figure → Type 0
GoodFigures k x [] = Unit {0}
GoodFigures k x (f ∷ fs) = GoodFigure k x f × GoodFigures k x fs

-- a figure of a symbol's element
abbrev pub GoodShape : Digits → Figure → Type 0
GoodShape d (plain n j v) = GoodLine (Always d) figure_table j v
GoodShape d (chain n ps) = GoodChain false ps
GoodShape d (lettering n s) = GoodText false s
GoodShape d (placed n h) = ⊥
GoodShape d (wired n w) = ⊥
GoodShape d (passed n) = ⊥

abbrev pub GoodShapes : Digits → List Figure → Type 0
GoodShapes d [] = Unit {0}
GoodShapes d (f ∷ fs) = GoodShape d f × GoodShapes d fs

-- ── the drawing ──
-- no byte string stands in the list that was there before
abbrev pub fresh : List (List ℕ) → List (List ℕ) → Bool
fresh seen [] = true
fresh seen (n ∷ ns) = not (among n seen) && fresh (seen ++ n ∷ []) ns

abbrev pub fresh_numbers : List ℕ → List ℕ → Bool
fresh_numbers seen [] = true
fresh_numbers seen (n ∷ ns) = not (has_number n seen) && fresh_numbers (seen ++ n ∷ []) ns

pub record GoodLayer (l : Layer) : Type 0 where
  pub named : is_layer_id l.id ≡ true
  pub okay : allowed (chars_of l.name) ≡ true
  pub again : layer_value l.id (free_shape_of (equals 0 (chars_of l.name))) ≡ got (bare_value l.name)
  pub short : leb (length (l.id ++ 61 ∷ chars_of l.name)) 512 ≡ true

abbrev pub GoodLayers : List Layer → Type 0
GoodLayers [] = Unit {0}
GoodLayers (l ∷ ls) = GoodLayer l × GoodLayers ls

abbrev pub ids_of : List Layer → List (List ℕ)
ids_of ls = map (λ l. l.id) ls

pub record GoodDrawing (arc : ℕ) (d : Drawing) : Type 0 where
  pub own-good : Closed (Always (digits_of arc)) (digits_of arc) drawing_table d.own
  pub layers : GoodLayers d.layers
  pub most : leb (length d.layers) most_layers ≡ true
  pub differ : fresh [] (ids_of d.layers) ≡ true

-- ── symbols ── (se: S_elec; d: E_sym's digits, which the tables of figures are read with)
pub record GoodSymbol (se : ℕ) (d : Digits) (y : Symbol) : Type 0 where
  pub own-good : Closed (Always (digits_of se)) (digits_of se) symbol_table y.own
  pub shown : GoodShapes d y.figures
  pub some-shown : is_nil y.figures ≡ false
  pub hidden : GoodPoints false y.hidden
  pub few-hidden : leb (length y.hidden) most_points ≡ true
  pub named : is_nil (symbol_name_of y) ≡ false

abbrev pub GoodSymbols : ℕ → Digits → List Symbol → Type 0
GoodSymbols se d [] = Unit {0}
GoodSymbols se d (y ∷ ys) = GoodSymbol se d y × GoodSymbols se d ys

abbrev pub GoodDefines : ℕ → Digits → List Symbol → Type 0
GoodDefines se d ys = GoodSymbols se d ys × (fresh [] (map symbol_name_of ys) ≡ true) × ((is_nil ys || reaches (digits_of se) (digits 0 1)) ≡ true)

-- ── layers in use, volumes ──
pub record GoodBlock (k : Known) (x : Ranges) (u : LayerBlock) : Type 0 where
  pub here : index_of (get_or k.layers u.layer []) k.layers ≡ Some u.layer
  pub id : is_layer_id (get_or k.layers u.layer []) ≡ true
  pub figures : GoodFigures k x u.figures

abbrev pub GoodBlocks : Known → Ranges → List LayerBlock → Type 0
GoodBlocks k x [] = Unit {0}
GoodBlocks k x (u ∷ us) = GoodBlock k x u × GoodBlocks k x us

-- a volume: its layers, each used once; the counts and the chain of its file format hold
pub record GoodVolume (k : Known) (x : Ranges) (first : Bool) (next : List ℕ) (v : Contents) : Type 0 where
  pub blocks : GoodBlocks k x v.blocks
  pub once : fresh_numbers [] (used_in v) ≡ true
  pub chain : chained first next v.file ≡ true
  pub count : eqb (number_of "this_ele" (own_table first) (part_of v.file 0)) (elements_of v) ≡ true

-- the later volumes, with the name that follows each
abbrev pub GoodLaters : Known → Ranges → Set → List (List ℕ) → List Contents → Type 0
GoodLaters k x s [] [] = Unit {0}
GoodLaters k x s [] (v ∷ vs) = ⊥
GoodLaters k x s (n ∷ ns) [] = ⊥
GoodLaters k x s (n ∷ ns) (v ∷ vs) =
    GoodVolume k x false n v × GoodLater v.file × (dated s false v.file ≡ true) × GoodLaters k x s ns vs

-- ── the set, with the name that follows each of its volumes (nothing after the last) ──
pub record GoodSet (nexts : List (List ℕ)) (s : Set) : Type 0 where
  pub first : Contents
  pub rest : List Contents
  pub volumes : s.volumes ≡ first ∷ rest
  pub next : List ℕ
  pub others : List (List ℕ)
  pub nexts-are : nexts ≡ next ∷ others
  pub file : GoodFile first.file
  pub drawing : GoodDrawing (arc_of s) s.drawing
  pub defines : GoodDefines (define_range s) (range_of s) s.symbols
  pub volume : GoodVolume (known_of s) (ranges_of s) true next first
  pub laters : GoodLaters (known_of s) (ranges_of s) s others rest
  pub serials : fresh_numbers [] (flat (map serials_of_volume s.volumes)) ≡ true
  pub used : layers_used s ≡ true
  pub counted : counted_all s ≡ true
  pub partners : (not (tests_partners full_class s) || partners_exist s) ≡ true
  pub before : List Contents
  pub latest : s.volumes ≡ before ++ s.now ∷ []
