-- What is kept of the figures of a set while it is read, at every class: own serial numbers differ, a row `serial` holds a serial number and is
-- there only where the class knows it, each wire's elements join as the file says, and wires are read or skipped as the class says.
use Rattle.std.specs.Prelude.{Option, Some, None}
use Prim.Native.Nat.{ℕ, zero, suc, ◌<◌}
use mathlib.Core.Bool.{Bool, true, false, cond, not}
use mathlib.Core.List.{List, [], ◌∷◌, ◌++◌, map, append-nil, append_assoc}
use mathlib.Core.Path.{◌≡◌, refl, sym, subst}
use lib.ListN.{get_or}
use Rattle.rules.specs.declared.Class.{Class}
use Rattle.rules.specs.Base.{flat, has_number}
use Rattle.rules.specs.RangeClass.{knows_wires, knows_serials}
use Rattle.rules.specs.Values.{Value, empty, nums, chars, linked, serials_of}
use Rattle.rules.specs.Rows.{Held, part_of, slot_value, held, number_of}
use Rattle.rules.specs.Blocks.{elec_table}
use Rattle.rules.specs.Figures.{placed_table, wire_serial_row}
use Rattle.rules.specs.Sets.{Edge, Wire, Figure, plain, chain, lettering, placed, wired, passed, LayerBlock, Contents, Set, head_or, own_serial, own_number, figure_serial, serials_of_block, serials_of_volume, serials_in, wire_range, with_now, with_volume, with_block}
use Rattle.rules.specs.VolumesAndTotals.{partners_exist}
use Rattle.rules.specs.Machine.{Home, in_element, in_layer, Owned, symbol_block, wire_block, wire_unread, State, top, file, drawing, layer_names, defines, symbol, hide, elements, figures, successive, texts, placing, skipping, ended, set_of, tests_partners}
use Rattle.rules.specs.PlacedSymbol.{none_of, numbers_so_far}
use Rattle.rules.proofs.Chains.{and_left}
use Rattle.rules.proofs.Runs.{head-snoc, head-file}
use borrow.Author.Tests.{not-true}
use Rattle.promises.proofs.Edges.{Behind, Joins}
use Rattle.promises.proofs.FitRows.{each_more}
use Rattle.promises.proofs.FitSets.{Each}
use Rattle.promises.proofs.Distinct.{Differ, differ-first, differ-more, flat-more}
use Rattle.promises.proofs.OnWires.{IsNums}

abbrev pub figure_serials : List Figure → List ℕ
figure_serials fs = flat (map figure_serial fs)

-- ── the numbers ──
-- of the volumes that are closed
abbrev pub closed_serials : Set → List ℕ
closed_serials s = flat (map serials_of_volume s.volumes)

-- between blocks: the volume at hand is none of the closed ones from FILE_FORMAT's end to ELEMENT's
abbrev pub top_serials : ℕ → Set → List ℕ
top_serials zero s = closed_serials s
top_serials (suc zero) s = serials_in s
top_serials (suc (suc zero)) s = serials_in s
top_serials (suc (suc (suc zero))) s = serials_in s
top_serials (suc (suc (suc (suc k)))) s = closed_serials s

-- a symbol's figures have none
abbrev pub home_serials : List ℕ → Home → List Figure → List ℕ
home_serials closed (in_element y) fs = closed
home_serials closed (in_layer k) fs = closed ++ figure_serials fs

abbrev pub serials_at : State → List ℕ
serials_at (top s k) = top_serials k s
serials_at (file s n h p) = closed_serials s
serials_at (drawing s d) = serials_in s
serials_at (layer_names s d) = serials_in s
serials_at (defines s b) = serials_in s
serials_at (symbol s y) = serials_in s
serials_at (hide s y ps) = serials_in s
serials_at (elements s) = serials_in s
serials_at (figures s h fs) = home_serials (serials_in s) h fs
serials_at (successive s h fs n ps) = home_serials (serials_in s) h fs
serials_at (texts s h fs n o) = home_serials (serials_in s) h fs
serials_at (placing s k fs n o p) = numbers_so_far s fs
serials_at (skipping s k fs n o d) = numbers_so_far s fs
serials_at (ended s) = closed_serials s

-- ── what the rows `serial` hold ──
abbrev pub IsSerial : Value → Type 0
IsSerial empty = Unit {0}
IsSerial (nums v) = ⊥
IsSerial (chars at c) = ⊥
IsSerial (linked n ps) = Unit {0}

abbrev pub serial_slot : Held → Option Value
serial_slot h = held "serial" placed_table (part_of h 0)

abbrev pub wire_slot : Wire → Option Value
wire_slot w = get_or w.own wire_serial_row None

-- it is there where the class knows it, and of its kind
abbrev pub KnownSlot : Bool → (Value → Type 0) → Option Value → Type 0
KnownSlot known Is None = Unit {0}
KnownSlot known Is (Some v) = (known ≡ true) × Is v

-- a wire's line or arc is of one of the first two rows of its table
abbrev pub EdgeRow : Edge → Type 0
EdgeRow e = e.row < 2

module _ (c : Class) where
  abbrev pub SymbolSlot : Held → Type 0
  SymbolSlot h = KnownSlot (knows_serials c.symbols) IsSerial (serial_slot h)

  abbrev pub WireSlot : Wire → Type 0
  WireSlot w = KnownSlot (knows_serials c.wires) IsNums (wire_slot w)

  -- ── figures of a layer, in a file of this E_wire ──
  pub record SoundWire (wires : ℕ) (w : Wire) : Type 0 where
    pub known : knows_wires c ≡ true
    pub rows : Each EdgeRow w.elements
    pub joins : Behind (Joins wires) None w.elements
    pub serial : WireSlot w

  abbrev pub SoundFigure : ℕ → Figure → Type 0
  SoundFigure wires (plain n j v) = Unit {0}
  SoundFigure wires (chain n ps) = Unit {0}
  SoundFigure wires (lettering n s) = Unit {0}
  SoundFigure wires (placed n h) = SymbolSlot h
  SoundFigure wires (wired n w) = SoundWire wires w
  SoundFigure wires (passed n) = knows_wires c ≡ false

  abbrev pub SoundBlock : ℕ → LayerBlock → Type 0
  SoundBlock wires u = Each (SoundFigure wires) u.figures

  abbrev pub SoundContents : ℕ → Contents → Type 0
  SoundContents wires v = Each (SoundBlock wires) v.blocks

  abbrev SoundVolumes : ℕ → List Contents → Contents → Type 0
  SoundVolumes wires vs now = Each (SoundContents wires) vs × SoundContents wires now

  abbrev pub SoundSet : Set → Type 0
  SoundSet s = SoundVolumes (wire_range s) s.volumes s.now

  -- ── what is open: figures stand in layers, and a symbol's have no wires and no serial numbers ──
  abbrev SoundHome : ℕ → Home → List Figure → Type 0
  SoundHome wires (in_element y) fs = Unit {0}
  SoundHome wires (in_layer k) fs = Each (SoundFigure wires) fs

  -- while the block is open: and its number is none of those before
  abbrev pub SoundOwned : ℕ → List ℕ → Owned → Type 0
  SoundOwned wires used (symbol_block o) = SymbolSlot o × (none_of (own_serial (serials_of (slot_value (serial_slot o)))) used ≡ true)
  SoundOwned wires used (wire_block w) = SoundWire wires w × (none_of (own_number (wire_slot w)) used ≡ true)
  SoundOwned wires used wire_unread = knows_wires c ≡ false

  abbrev SoundOpen : State → Type 0
  SoundOpen (top s k) = Unit {0}
  SoundOpen (file s n h p) = Unit {0}
  SoundOpen (drawing s d) = Unit {0}
  SoundOpen (layer_names s d) = Unit {0}
  SoundOpen (defines s b) = Unit {0}
  SoundOpen (symbol s y) = Unit {0}
  SoundOpen (hide s y ps) = Unit {0}
  SoundOpen (elements s) = Unit {0}
  SoundOpen (figures s h fs) = SoundHome (wire_range s) h fs
  SoundOpen (successive s h fs n ps) = SoundHome (wire_range s) h fs
  SoundOpen (texts s h fs n o) = SoundHome (wire_range s) h fs
  SoundOpen (placing s k fs n o p) = Each (SoundFigure (wire_range s)) fs × SoundOwned (wire_range s) (numbers_so_far s fs) o
  SoundOpen (skipping s k fs n o d) = Each (SoundFigure (wire_range s)) fs × SoundOwned (wire_range s) (numbers_so_far s fs) o
  -- EOF has tested the partners
  SoundOpen (ended s) = tests_partners c s ≡ true → partners_exist s ≡ true

  abbrev pub SoundState : State → Type 0
  SoundState st = Differ (serials_at st) × SoundSet (set_of st) × SoundOpen st

  -- ── one thing more ──
  -- a figure has no own number, or one
  one-serial : (f : Figure) (used : List ℕ) → Differ used → none_of (figure_serial f) used ≡ true → Differ (used ++ figure_serial f)
  one-serial f used g e = go (figure_serial f) (few f) e
    where
      Few : List ℕ → Type 0
      Few [] = Unit {0}
      Few (n ∷ []) = Unit {0}
      Few (n ∷ m ∷ ns) = ⊥

      own-few : (ns : List ℕ) → Few (own_serial ns)
      own-few [] = tt
      own-few (n ∷ ps) = tt

      number-few : (o : Option Value) → Few (own_number o)
      number-few None = tt
      number-few (Some v) = tt

      few : (f : Figure) → Few (figure_serial f)
      few (plain n j v) = tt
      few (chain n ps) = tt
      few (lettering n s) = tt
      few (placed n h) = own-few (serials_of (slot_value (serial_slot h)))
      few (wired n w) = number-few (wire_slot w)
      few (passed n) = tt

      go : (ns : List ℕ) → Few ns → none_of ns used ≡ true → Differ (used ++ ns)
      go [] x e = rw (append-nil used) g
      go (n ∷ []) x e = differ-more used n g (not-true (has_number n used) (and_left (not (has_number n used)) true e))
      go (n ∷ m ∷ ns) x e = absurd x

  pub layer-more : (s : Set) (k : ℕ) (fs : List Figure) (f : Figure) → SoundState (figures s (in_layer k) fs) → SoundFigure (wire_range s) f → none_of (figure_serial f) (numbers_so_far s fs) ≡ true
      → SoundState (figures s (in_layer k) (fs ++ f ∷ []))
  layer-more s k fs f i g e = (
    rw (flat-more figure_serial fs f, ← append_assoc (serials_in s) (figure_serials fs) (figure_serial f)) (one-serial f (numbers_so_far s fs) i.0 e),
    i.1,
    each_more (SoundFigure (wire_range s)) fs f i.2 g,
  )

  -- one of no own number, in a layer or in a symbol
  pub home-more : (s : Set) (h : Home) (fs : List Figure) (f : Figure) → SoundState (figures s h fs) → SoundFigure (wire_range s) f → figure_serial f ≡ [] → SoundState (figures s h (fs ++ f ∷ []))
  home-more s (in_element y) fs f i g e = i
  home-more s (in_layer k) fs f i g e = layer-more s k fs f i g (rw e)

  abbrev wires_in : Held → ℕ
  wires_in h = number_of "E_wire" elec_table (part_of h 3)

  -- a FILE_FORMAT closes: the first says which E_wire the set has, and there is nothing before it
  set-begun : (s : Set) (n : ℕ) (h : Held) → SoundSet s → SoundSet (with_now (record { line = n; file = h; blocks = [] }) s)
  set-begun s n h = go s.volumes
    where
      go : (vs : List Contents) → SoundVolumes (wires_in (head_or s.now vs).file) vs s.now
          → SoundVolumes (wires_in (head_or (record { line = n; file = h; blocks = [] }) vs).file) vs (record { line = n; file = h; blocks = [] })
      go [] i = (tt, tt)
      go (v ∷ vs) i = (i.0, tt)

  pub file-closed : (first : Bool) (s : Set) (n : ℕ) (h : Held) → Differ (closed_serials s) → SoundSet s → SoundState (top (with_now (record { line = n; file = h; blocks = [] }) s) (cond first 1 3))
  file-closed true s n h g i = (rw (append-nil (closed_serials s)) g, set-begun s n h i, tt)
  file-closed false s n h g i = (rw (append-nil (closed_serials s)) g, set-begun s n h i, tt)

  -- ELEMENT closes
  pub volume-closed : (s : Set) → SoundState (elements s) → SoundState (top (with_volume s) 4)
  volume-closed s i = (
    rw (flat-more serials_of_volume s.volumes s.now) i.0,
    subst (λ (v : Contents). SoundVolumes (wires_in v.file) (s.volumes ++ s.now ∷ []) s.now) (sym (head-snoc s.now s.now s.volumes))
        (each_more (SoundContents (wire_range s)) s.volumes s.now i.1.0 i.1.1, i.1.1),
    tt,
  )

  -- LAYER closes
  pub layer-closed : (s : Set) (k : ℕ) (fs : List Figure) → SoundState (figures s (in_layer k) fs) → SoundState (elements (with_block (record { layer = k; figures = fs }) s))
  layer-closed s k fs i =
      let u : LayerBlock = record { layer = k; figures = fs } in (
        rw (flat-more serials_of_block s.now.blocks u, ← append_assoc (closed_serials s) (serials_of_volume s.now) (figure_serials fs)) i.0,
        subst (λ (f : Held). SoundVolumes (wires_in f) s.volumes (with_block u s).now) (head-file s.now (with_block u s).now s.volumes refl)
            (i.1.0, each_more (SoundBlock (wire_range s)) s.now.blocks u i.1.1 i.2),
        tt,
      )

  -- the volumes that are closed, wherever the reading stands between blocks
  pub top_closed : (k : ℕ) (s : Set) → Differ (top_serials k s) → Differ (closed_serials s)
  top_closed zero s g = g
  top_closed (suc zero) s g = differ-first (closed_serials s) (serials_of_volume s.now) g
  top_closed (suc (suc zero)) s g = differ-first (closed_serials s) (serials_of_volume s.now) g
  top_closed (suc (suc (suc zero))) s g = differ-first (closed_serials s) (serials_of_volume s.now) g
  top_closed (suc (suc (suc (suc k)))) s g = g
