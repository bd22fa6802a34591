-- The invariant of the reading: what is good of the set so far and of the block that is open.
use Rattle.std.specs.Prelude.{Some, None}
use Prim.Native.Nat.{ℕ, zero, suc}
use mathlib.Core.Bool.{Bool, true, false, ◌&&◌, ◌||◌, not}
use mathlib.Core.List.{List, [], ◌∷◌, ◌++◌, map, append-nil, append_assoc}
use mathlib.Core.Path.{◌≡◌, sym, ◌∙◌, ap}
use lib.Dec.{eqb, leb}
use lib.ListN.{length, get_or}
use borrow.Author.Tests.{not-true}
use Rattle.rules.specs.declared.Digits.{Digits}
use Rattle.rules.specs.Base.{is_nil, is_some, among, has_number, flat, index_of}
use Rattle.rules.specs.RangeClass.{digits, digits_of, reaches}
use Rattle.rules.specs.Values.{Known, nums, is_layer_id}
use Rattle.rules.specs.Rows.{Slots, Held, part_of, number_of}
use Rattle.rules.specs.Blocks.{file_table, range_table, sym_table, later_table, drawing_table, most_layers, symbol_table}
use Rattle.rules.specs.Figures.{most_points, point_table, text_table, wire_table, wire_text_table, wire_text_row, wire_serial_row}
use Rattle.rules.specs.Sets.{Point, Figure, Layer, Drawing, Symbol, LayerBlock, Contents, Set, head_or, first_contents, is_first, arc_of, range_of, define_range, is_single, symbol_name_of, known_of, own_serial, figure_serial, serials_of_volume, serials_in, used_in, is_wired, wire_range, Wire, own_number}
use Rattle.rules.specs.VolumesAndTotals.{chained}
use Rattle.rules.specs.Machine.{Home, in_element, in_layer, State, top, file, drawing, layer_names, defines, symbol, hide, elements, figures, successive, texts, placing, skipping, ended, is_layer, wire_block, wire_unread}
use Rattle.rules.specs.PlacedSymbol.{none_of}
use Rattle.rules.specs.RecordTable.{rule_at}
use Rattle.rules.specs.Machine.{symbol_block, Owned}
use Rattle.rules.proofs.Chains.{and_left, and_right, and_true}
use Rattle.promises.proofs.Good.{Always, GoodSlots, none0, GoodFile, GoodLater, GoodPoints, GoodFigure, GoodFigures, GoodShape, GoodShapes, fresh, fresh_numbers, GoodLayer, GoodLayers, ids_of, GoodDrawing, GoodSymbol, GoodSymbols, GoodDefines, GoodBlock, GoodBlocks, GoodVolume, GoodSet, Ranges, ranges_of, WireHolds, has_more, ranges_in, symbol_digits}
use Rattle.promises.proofs.InvFile.{FileInv}
use Rattle.promises.proofs.InvPlaced.{PlacedInv}

-- ── the volumes ──
-- what the FILE_FORMAT of the first volume says
abbrev pub file_of : Set → Held
file_of s = (first_contents s).file

abbrev pub range_in : Held → Digits
range_in f = symbol_digits (ranges_in f)

abbrev pub arc_in : Held → ℕ
arc_in f = number_of "arc" range_table (part_of f 1)

abbrev pub define_in : Held → ℕ
define_in f = number_of "S_elec" sym_table (part_of f 4)

abbrev pub dated_in : Held → Held → Bool
dated_in f h =
    eqb (number_of "date" later_table (part_of h 0)) (number_of "date" file_table (part_of f 0))
    && eqb (number_of "time" later_table (part_of h 0)) (number_of "time" file_table (part_of f 0))

-- the later volumes that are closed, with the name that follows each
abbrev pub Laters : Known → Held → List (List ℕ) → List Contents → Type 0
Laters k f [] [] = Unit {0}
Laters k f [] (v ∷ vs) = ⊥
Laters k f (n ∷ ns) [] = ⊥
Laters k f (n ∷ ns) (v ∷ vs) = GoodVolume k (ranges_in f) false n v × GoodLater v.file × (dated_in f v.file ≡ true) × Laters k f ns vs

-- all volumes that are closed
abbrev pub Volumes : Known → Held → List (List ℕ) → List Contents → Type 0
Volumes k f [] [] = Unit {0}
Volumes k f [] (v ∷ vs) = ⊥
Volumes k f (n ∷ ns) [] = ⊥
Volumes k f (n ∷ ns) (v ∷ vs) = GoodVolume k (ranges_in f) true n v × (v.file ≡ f) × Laters k f ns vs

-- the FILE_FORMAT of the volume at hand, behind the closed ones
abbrev pub Begun : Held → List Contents → List ℕ → Held → Type 0
Begun f [] cur h = (h ≡ f) × (chained true cur h ≡ true)
Begun f (v ∷ vs) cur h = GoodLater h × (dated_in f h ≡ true) × (chained false cur h ≡ true)

-- ── the set ──
-- the number of records taken is of no account here
abbrev pub untaken : Set → Set
untaken s = record { drawing = s.drawing; symbols = s.symbols; volumes = s.volumes; now = s.now; taken = 0 }

pub record Fixed (f : Held) (d : Drawing) (ys : List Symbol) : Type 0 where
  pub file : GoodFile f
  pub drawing : GoodDrawing (arc_in f) d
  pub defines : GoodDefines (define_in f) (range_in f) ys

-- in the first volume, its FILE_FORMAT closed and ELEMENT not yet open (done: the names that follow the closed volumes; cur: the one that follows this volume)
pub record Opening (done : List (List ℕ)) (cur : List ℕ) (vs : List Contents) (now : Contents) : Type 0 where
  pub alone : vs ≡ []
  pub none_done : done ≡ []
  pub file : GoodFile (head_or now vs).file
  pub chain : chained true cur now.file ≡ true
  pub no_blocks : now.blocks ≡ []

-- in any volume, ELEMENT open or next (f: the first volume's FILE_FORMAT)
pub record Working (done : List (List ℕ)) (cur : List ℕ) (f : Held) (s : Set) : Type 0 where
  pub fixed : Fixed f s.drawing s.symbols
  pub closed : Volumes (known_of s) f done s.volumes
  pub begun : Begun f s.volumes cur s.now.file
  pub blocks : GoodBlocks (known_of s) (ranges_in f) s.now.blocks
  pub once : fresh_numbers [] (used_in s.now) ≡ true
  pub serials : fresh_numbers [] (serials_in s) ≡ true

-- ELEMENT is closed
pub record Over (nexts : List (List ℕ)) (f : Held) (s : Set) : Type 0 where
  pub fixed : Fixed f s.drawing s.symbols
  pub closed : Volumes (known_of s) f nexts s.volumes
  pub serials : fresh_numbers [] (flat (map serials_of_volume s.volumes)) ≡ true
  pub before : List Contents
  pub latest : s.volumes ≡ before ++ s.now ∷ []

-- before a volume
abbrev pub Start : List Contents → List (List ℕ) → Set → Type 0
Start [] done s = (done ≡ []) × (s.symbols ≡ [])
Start (v ∷ vs) done s = Over done (file_of s) s

abbrev pub TopInv : List (List ℕ) → List ℕ → ℕ → Set → Type 0
TopInv done cur zero s = Start s.volumes done s
TopInv done cur (suc zero) s = Opening done cur s.volumes s.now × (s.symbols ≡ [])
TopInv done cur (suc (suc zero)) s = Opening done cur s.volumes s.now × (s.symbols ≡ []) × GoodDrawing (arc_of s) s.drawing
TopInv done cur (suc (suc (suc zero))) s = Working done cur (file_of s) s
TopInv done cur (suc (suc (suc (suc zero)))) s = Over (done ++ cur ∷ []) (file_of s) s
TopInv done cur (suc (suc (suc (suc (suc k))))) s = ⊥

-- ── blocks that are open ──
pub record DrawingInv (arc : ℕ) (d : Drawing) : Type 0 where
  pub own-good : GoodSlots (Always (digits_of arc)) drawing_table d.own
  pub layers : GoodLayers d.layers
  pub most : leb (length d.layers) most_layers ≡ true
  pub differ : fresh [] (ids_of d.layers) ≡ true

abbrev pub Defining : List (List ℕ) → List ℕ → Set → Type 0
Defining done cur s = Opening done cur s.volumes s.now × Fixed (file_of s) s.drawing s.symbols

-- a symbol, but its figures
pub record Making (se : ℕ) (own : Slots) (hidden : List Point) : Type 0 where
  pub own-good : GoodSlots (Always (digits_of se)) symbol_table own
  pub hidden-good : GoodPoints false hidden
  pub few-hidden : leb (length hidden) most_points ≡ true
  pub level : reaches (digits_of se) (digits 0 1) ≡ true

-- its name is no other's
abbrev pub name_in : Slots → List ℕ
name_in own = symbol_name_of (record { line = 0; own = own; figures = []; hidden = []; hide_first = false })

abbrev pub NewName : Set → Slots → Type 0
NewName s own = (is_nil (name_in own) || not (among (name_in own) (known_of s).symbols)) ≡ true

-- its figures, where its `element` is closed
abbrev pub Shown : Set → Slots → List Figure → Type 0
Shown s own fs = is_some (get_or own 1 None) ≡ true → GoodShapes (range_of s) fs × (is_nil fs ≡ false)

abbrev pub Points : Bool → List Point → Type 0
Points b ps = GoodPoints b ps × (leb (length ps) most_points ≡ true)

abbrev pub SymbolInv : List (List ℕ) → List ℕ → Set → Symbol → Type 0
SymbolInv done cur s y = Defining done cur s × Making (define_range s) y.own y.hidden × NewName s y.own × Shown s y.own y.figures

-- the layer that is open is declared, and not used before in this volume
pub record LayerOpen (k : Known) (now : Contents) (n : ℕ) : Type 0 where
  pub here : index_of (get_or k.layers n []) k.layers ≡ Some n
  pub id : is_layer_id (get_or k.layers n []) ≡ true
  pub new : has_number n (used_in now) ≡ false

abbrev pub figure_serials : List Figure → List ℕ
figure_serials fs = flat (map figure_serial fs)

abbrev pub FiguresInv : List (List ℕ) → List ℕ → Set → Home → List Figure → Type 0
FiguresInv done cur s (in_element y) fs = Defining done cur s × Making (define_range s) y.own y.hidden × NewName s y.own × GoodShapes (range_of s) fs
FiguresInv done cur s (in_layer n) fs =
    Working done cur (file_of s) (untaken s) × LayerOpen (known_of s) s.now n × GoodFigures (known_of s) (ranges_of s) fs
    × (fresh_numbers [] (serials_in s ++ figure_serials fs) ≡ true)

abbrev pub PlacingInv : List (List ℕ) → List ℕ → Set → ℕ → List Figure → Held → ℕ → Type 0
PlacingInv done cur s n fs o p =
    FiguresInv done cur s (in_layer n) fs × PlacedInv (known_of s) (range_of s) (serials_in s ++ figure_serials fs) p o × (is_single s ≡ false) × (reaches (range_of s) (digits 0 1) ≡ true)

-- a wire's: a text that is open is good so far, and `past` says that something stands beside its elements (used: the numbers read before)
abbrev pub Writing : ℕ → ℕ → Wire → Type 0
Writing wires zero w = (w.writing ≡ []) × (w.past ≡ has_more w)
Writing wires (suc p) w =
    GoodSlots (Always none0) wire_text_table w.writing × (reaches (digits_of wires) (rule_at wire_table wire_text_row).least ≡ true)

pub record WireInv (wires : ℕ) (used : List ℕ) (p : ℕ) (w : Wire) : Type 0 where
  pub holds : WireHolds wires w
  pub writing : Writing wires p w
  pub serial : none_of (own_number (get_or w.own wire_serial_row None)) used ≡ true

-- at class 15 no wire is skipped
abbrev pub OwnedInv : List (List ℕ) → List ℕ → Set → ℕ → List Figure → Owned → ℕ → Type 0
OwnedInv done cur s n fs (symbol_block o) p = PlacingInv done cur s n fs o p
OwnedInv done cur s n fs (wire_block w) p = FiguresInv done cur s (in_layer n) fs × (is_wired s ≡ true) × WireInv (wire_range s) (serials_in s ++ figure_serials fs) p w
OwnedInv done cur s n fs wire_unread p = ⊥

-- ── the invariant (fin: the names that follow all volumes, where the set has ended) ──
abbrev pub Inv : List (List ℕ) → List ℕ → List (List ℕ) → State → Type 0
Inv done cur fin (top s k) = TopInv done cur k (untaken s)
Inv done cur fin (file s n h p) = Start s.volumes done (untaken s) × FileInv (is_first s) p h
Inv done cur fin (drawing s d) = Opening done cur s.volumes s.now × (s.symbols ≡ []) × DrawingInv (arc_of s) d
Inv done cur fin (layer_names s d) = Opening done cur s.volumes s.now × (s.symbols ≡ []) × DrawingInv (arc_of s) d
Inv done cur fin (defines s b) = Defining done cur s
Inv done cur fin (symbol s y) = SymbolInv done cur s y
Inv done cur fin (hide s y ps) = SymbolInv done cur s y × Points false ps
Inv done cur fin (elements s) = Working done cur (file_of s) (untaken s)
Inv done cur fin (figures s h fs) = FiguresInv done cur s h fs
Inv done cur fin (successive s h fs n ps) = FiguresInv done cur s h fs × Points (is_layer h) ps
Inv done cur fin (texts s h fs n o) = FiguresInv done cur s h fs × GoodSlots (Always none0) (text_table (is_layer h) 4 12) o
Inv done cur fin (placing s n fs m b p) = OwnedInv done cur s n fs b p
Inv done cur fin (skipping s n fs m b d) = OwnedInv done cur s n fs b 0
Inv done cur fin (ended s) = GoodSet fin s

-- ── one more ──
pub points-more : (b : Bool) (ps : List Point) (p : Point) → GoodPoints b ps → Always none0 (rule_at (point_table b) 0) (nums p.values) → GoodPoints b (ps ++ p ∷ [])
points-more b [] p g x = (x, tt)
points-more b (q ∷ ps) p g x = (g.0, points-more b ps p g.1 x)

pub figures-more : (k : Known) (x : Ranges) (fs : List Figure) (f : Figure) → GoodFigures k x fs → GoodFigure k x f → GoodFigures k x (fs ++ f ∷ [])
figures-more k x [] f g z = (z, tt)
figures-more k x (e ∷ fs) f g z = (g.0, figures-more k x fs f g.1 z)

pub shapes-more : (d : Digits) (fs : List Figure) (f : Figure) → GoodShapes d fs → GoodShape d f → GoodShapes d (fs ++ f ∷ [])
shapes-more d [] f g x = (x, tt)
shapes-more d (e ∷ fs) f g x = (g.0, shapes-more d fs f g.1 x)

pub layers-more : (ls : List Layer) (l : Layer) → GoodLayers ls → GoodLayer l → GoodLayers (ls ++ l ∷ [])
layers-more [] l g x = (x, tt)
layers-more (m ∷ ls) l g x = (g.0, layers-more ls l g.1 x)

pub symbols-more : (se : ℕ) (d : Digits) (ys : List Symbol) (y : Symbol) → GoodSymbols se d ys → GoodSymbol se d y → GoodSymbols se d (ys ++ y ∷ [])
symbols-more se d [] y g x = (x, tt)
symbols-more se d (z ∷ ys) y g x = (g.0, symbols-more se d ys y g.1 x)

pub blocks_more : (k : Known) (x : Ranges) (us : List LayerBlock) (u : LayerBlock) → GoodBlocks k x us → GoodBlock k x u → GoodBlocks k x (us ++ u ∷ [])
blocks_more k x [] u g z = (z, tt)
blocks_more k x (w ∷ us) u g z = (g.0, blocks_more k x us u g.1 z)

laters-more : (k : Known) (f : Held) (ns : List (List ℕ)) (vs : List Contents) (n : List ℕ) (v : Contents) → Laters k f ns vs
    → GoodVolume k (ranges_in f) false n v → GoodLater v.file → dated_in f v.file ≡ true → Laters k f (ns ++ n ∷ []) (vs ++ v ∷ [])
laters-more k f [] [] n v g x y z = (x, y, z, tt)
laters-more k f [] (w ∷ vs) n v g x y z = absurd g
laters-more k f (m ∷ ns) [] n v g x y z = absurd g
laters-more k f (m ∷ ns) (w ∷ vs) n v g x y z = (g.0, g.1, g.2, laters-more k f ns vs n v g.3 x y z)

pub volumes-more : (k : Known) (f : Held) (ns : List (List ℕ)) (vs : List Contents) (n : List ℕ) (v : Contents) → Volumes k f ns vs → Begun f vs n v.file
    → (chained (is_nil vs) n v.file ≡ true → GoodVolume k (ranges_in f) (is_nil vs) n v) → Volumes k f (ns ++ n ∷ []) (vs ++ v ∷ [])
volumes-more k f [] [] n v g b x = (x b.1, b.0, tt)
volumes-more k f [] (w ∷ vs) n v g b x = absurd g
volumes-more k f (m ∷ ns) [] n v g b x = absurd g
volumes-more k f (m ∷ ns) (w ∷ vs) n v g b x = (g.0, g.1, laters-more k f ns vs n v g.2 (x b.2) b.0 b.1)

-- ── nothing twice ──
pub fresh-more : (seen s : List (List ℕ)) (n : List ℕ) → fresh seen s ≡ true → among n (seen ++ s) ≡ false → fresh seen (s ++ n ∷ []) ≡ true
fresh-more seen [] n f e = rw (ap (among n) (sym (append-nil seen)) ∙ e)
fresh-more seen (m ∷ s) n f e =
    and_true _ _ (and_left (not (among m seen)) _ f)
    (fresh-more (seen ++ m ∷ []) s n (and_right (not (among m seen)) _ f) (ap (among n) (append_assoc seen (m ∷ []) s) ∙ e))

fresh-number : (seen s : List ℕ) (n : ℕ) → fresh_numbers seen s ≡ true → has_number n (seen ++ s) ≡ false → fresh_numbers seen (s ++ n ∷ []) ≡ true
fresh-number seen [] n f e = rw (ap (has_number n) (sym (append-nil seen)) ∙ e)
fresh-number seen (m ∷ s) n f e =
    and_true _ _ (and_left (not (has_number m seen)) _ f)
    (fresh-number (seen ++ m ∷ []) s n (and_right (not (has_number m seen)) _ f) (ap (has_number n) (append_assoc seen (m ∷ []) s) ∙ e))

pub number_more : (s : List ℕ) (n : ℕ) → fresh_numbers [] s ≡ true → has_number n s ≡ false → fresh_numbers [] (s ++ n ∷ []) ≡ true
number_more s n f e = fresh-number [] s n f e

-- an own serial number that is none of those before
pub serial-more : (s ps : List ℕ) → fresh_numbers [] s ≡ true → none_of (own_serial ps) s ≡ true → fresh_numbers [] (s ++ own_serial ps) ≡ true
serial-more s [] f e = rw (append-nil s) f
serial-more s (n ∷ ps) f e = number_more s n f (not-true (has_number n s) (and_left (not (has_number n s)) _ e))
