-- What is looked up in values, slots and sets is the same with their places made 0.
use Rattle.std.specs.Prelude.{Option, Some, None}
use Prim.Native.Nat.{ℕ}
use Prim.Native.String as S
use mathlib.Core.Bool.{Bool, true, false, not}
use mathlib.Core.List.{List, [], ◌∷◌, ◌++◌, map}
use mathlib.Core.Path.{◌≡◌, refl, ◌∙◌, ap, ap₂}
use lib.Dec.{eqb}
use lib.ListN.{length, get_or, set, drop, length-map, get_or-map}
use Rattle.rules.specs.declared.Class.{Class}
use Rattle.rules.specs.Base.{bytes, is_none, is_some, map_o, all, flat, has_number}
use Rattle.rules.specs.RangeClass.{digits_of}
use Rattle.rules.specs.Values.{Value, empty, nums, chars, linked, Known, nums_of, chars_of, serials_of, amount_at}
use Rattle.rules.specs.Rows.{Rule, Found, absent, found, find, Slots, blank, Held, part_of, enter, rows_there, slot_value, held_at, held, number_of}
use Rattle.rules.specs.Blocks.{file_table, range_table, elec_table, sym_table, later_table, symbol_table}
use Rattle.rules.specs.Figures.{placed_table, wire_serial_row}
use Rattle.rules.specs.Sets.{Figure, plain, chain, lettering, placed, Layer, Symbol, Contents, Set, head_or, first_contents, is_first, arc_of, symbol_range, define_range, range_of, is_single, symbol_name_of, known_of, own_serial, figure_serial, serials_of_block, serials_of_volume, serials_in, elements_of, used_in, wired, passed, wire_range, is_wired, own_number, wire_partners, figure_partners, partners_of_volume}
use Rattle.rules.specs.VolumesAndTotals.{chained, dated, counted_here, counted_all, layers_used, own_table, partners_exist}
use Rattle.rules.specs.Machine.{tests_partners}
use Rattle.rules.specs.RecordTable.{first_text}
use Rattle.rules.proofs.Chains.{nil-map, map_compose, map-agree, map_same, map-set, total-same}
use Rattle.promises.specs.PlacesApart.{bare_value, bare_slots, bare_held, bare_figure, bare_layer, bare_symbol, bare_block, bare_contents, bare_set}

-- ── values and slots ──
pub nums-bare : (v : Value) → nums_of (bare_value v) ≡ nums_of v
nums-bare empty = refl
nums-bare (nums v) = refl
nums-bare (chars at c) = refl
nums-bare (linked n ps) = refl

pub chars-bare : (v : Value) → chars_of (bare_value v) ≡ chars_of v
chars-bare empty = refl
chars-bare (nums v) = refl
chars-bare (chars at c) = refl
chars-bare (linked n ps) = refl

pub serials-bare : (v : Value) → serials_of (bare_value v) ≡ serials_of v
serials-bare empty = refl
serials-bare (nums v) = refl
serials-bare (chars at c) = refl
serials-bare (linked n ps) = refl

pub amount-bare : (v : Value) (i : ℕ) → amount_at (bare_value v) i ≡ amount_at v i
amount-bare v i = rw (nums-bare v)

pub none_bare : (o : Option Value) → is_none (map_o bare_value o) ≡ is_none o
none_bare None = refl
none_bare (Some v) = refl

pub some-bare : (o : Option Value) → is_some (map_o bare_value o) ≡ is_some o
some-bare None = refl
some-bare (Some v) = refl

pub marks-bare : (s : Slots) → rows_there (bare_slots s) ≡ rows_there s
marks-bare s = map_same is_some (map_o bare_value) some-bare s

pub slot-bare : (o : Option Value) → slot_value (map_o bare_value o) ≡ bare_value (slot_value o)
slot-bare None = refl
slot-bare (Some v) = refl

pub at_bare : (s : Slots) (i : ℕ) → get_or (bare_slots s) i None ≡ map_o bare_value (get_or s i None)
at_bare s i = get_or-map (map_o bare_value) s i None

pub held-bare : (k : S.String) (t : List Rule) (s : Slots) → slot_value (held k t (bare_slots s)) ≡ bare_value (slot_value (held k t s))
held-bare k t s = go (find (bytes k) t)
  where
    go : (f : Found) → slot_value (held_at f (bare_slots s)) ≡ bare_value (slot_value (held_at f s))
    go absent = refl
    go (found i r) = rw (at_bare s i) (slot-bare (get_or s i None))

pub number-bare : (k : S.String) (t : List Rule) (s : Slots) → number_of k t (bare_slots s) ≡ number_of k t s
number-bare k t s = rw (held-bare k t s) (amount-bare (slot_value (held k t s)) 0)

pub blank-bare : (t : List Rule) → bare_slots (blank t) ≡ blank t
blank-bare [] = refl
blank-bare (r ∷ t) = ap (λ s. None ∷ s) (blank-bare t)

pub part-bare : (h : Held) (p : ℕ) → part_of (bare_held h) p ≡ bare_slots (part_of h p)
part-bare h p = get_or-map bare_slots h p []

-- the first of a wire's texts
pub first-text-bare : (ss : List Slots) → first_text (map bare_slots ss) ≡ bare_slots (first_text ss)
first-text-bare [] = refl
first-text-bare (s ∷ ss) = refl

pub part-marks : (h : Held) (p : ℕ) → rows_there (part_of (bare_held h) p) ≡ rows_there (part_of h p)
part-marks h p = rw (part-bare h p) (marks-bare (part_of h p))

pub enter-bare : (h : Held) (p j : ℕ) (v : Value) → bare_held (enter h p j v) ≡ enter (bare_held h) p j (bare_value v)
enter-bare h p j v = rw (part-bare h p, ← (map-set (map_o bare_value) (part_of h p) j (Some v))) (map-set bare_slots h p (set (part_of h p) j (Some v)))

pub held-blank : (ts : List (List Rule)) → bare_held (map blank ts) ≡ map blank ts
held-blank ts = map_compose bare_slots blank ts ∙ map-agree _ _ blank-bare ts

pub part-number : (k : S.String) (t : List Rule) (h : Held) (p : ℕ) → number_of k t (part_of (bare_held h) p) ≡ number_of k t (part_of h p)
part-number k t h p = rw (part-bare h p) (number-bare k t (part_of h p))

-- ── what the set says ──
pub head-bare : (v : Contents) (vs : List Contents) → head_or (bare_contents v) (map bare_contents vs) ≡ bare_contents (head_or v vs)
head-bare v [] = refl
head-bare v (u ∷ us) = refl

pub first-bare : (s : Set) → is_first (bare_set s) ≡ is_first s
first-bare s = nil-map bare_contents s.volumes

-- a number of FILE_FORMAT in the first volume
pub header-bare : (k : S.String) (t : List Rule) (p : ℕ) (s : Set) → number_of k t (part_of (first_contents (bare_set s)).file p) ≡ number_of k t (part_of (first_contents s).file p)
header-bare k t p s = rw (head-bare s.now s.volumes) (part-number k t (first_contents s).file p)

pub arc-bare : (s : Set) → arc_of (bare_set s) ≡ arc_of s
arc-bare s = header-bare "arc" range_table 1 s

pub sym-bare : (s : Set) → symbol_range (bare_set s) ≡ symbol_range s
sym-bare s = header-bare "E_sym" elec_table 3 s

pub define-bare : (s : Set) → define_range (bare_set s) ≡ define_range s
define-bare s = header-bare "S_elec" sym_table 4 s

pub range-bare : (s : Set) → range_of (bare_set s) ≡ range_of s
range-bare s = ap digits_of (sym-bare s)

pub single-bare : (s : Set) → is_single (bare_set s) ≡ is_single s
single-bare s = ap (λ n. eqb n 1) (sym-bare s)

pub wire-bare : (s : Set) → wire_range (bare_set s) ≡ wire_range s
wire-bare s = header-bare "E_wire" elec_table 3 s

pub wired-bare : (s : Set) → is_wired (bare_set s) ≡ is_wired s
wired-bare s = ap (λ n. not (eqb n 0)) (wire-bare s)

pub name-bare : (y : Symbol) → symbol_name_of (bare_symbol y) ≡ symbol_name_of y
name-bare y = rw (held-bare "name" symbol_table y.own) (chars-bare (slot_value (held "name" symbol_table y.own)))

pub names-bare : (ys : List Symbol) → map symbol_name_of (map bare_symbol ys) ≡ map symbol_name_of ys
names-bare ys = map_same symbol_name_of bare_symbol name-bare ys

pub ids-bare : (ls : List Layer) → map (λ l. l.id) (map bare_layer ls) ≡ map (λ l. l.id) ls
ids-bare ls = map_same (λ l. l.id) bare_layer (λ l. refl) ls

pub known-bare : (s : Set) → known_of (bare_set s) ≡ known_of s
known-bare s = ap₂ (λ a b. known a b) (names-bare s.symbols) (ids-bare s.drawing.layers)
  where
    known : List (List ℕ) → List (List ℕ) → Known
    known a b = record { symbols = a; layers = b }

own-number-bare : (o : Option Value) → own_number (map_o bare_value o) ≡ own_number o
own-number-bare None = refl
own-number-bare (Some v) = ap (λ n. n ∷ []) (amount-bare v 0)

pub serial-bare : (f : Figure) → figure_serial (bare_figure f) ≡ figure_serial f
serial-bare (plain n j v) = refl
serial-bare (chain n ps) = refl
serial-bare (lettering n s) = refl
serial-bare (wired n w) = ap own_number (at_bare w.own wire_serial_row) ∙ own-number-bare (get_or w.own wire_serial_row None)
serial-bare (passed n) = refl
serial-bare (placed n h) =
    rw (part-bare h 0, held-bare "serial" placed_table (part_of h 0)) (ap own_serial (serials-bare (slot_value (held "serial" placed_table (part_of h 0)))))

-- the own numbers of figures, blocks and volumes
pub figures-serials : (fs : List Figure) → flat (map figure_serial (map bare_figure fs)) ≡ flat (map figure_serial fs)
figures-serials fs = ap flat (map_same figure_serial bare_figure serial-bare fs)

pub volume-serials : (v : Contents) → serials_of_volume (bare_contents v) ≡ serials_of_volume v
volume-serials v = ap flat (map_same serials_of_block bare_block (λ u. figures-serials u.figures) v.blocks)

pub set-serials : (s : Set) → serials_in (bare_set s) ≡ serials_in s
set-serials s = ap₂ ◌++◌ (ap flat (map_same serials_of_volume bare_contents volume-serials s.volumes)) (volume-serials s.now)

-- ── partners ──
wire-partners : (v : Value) → wire_partners (bare_value v) ≡ wire_partners v
wire-partners v = rw (nums-bare v)

partners-bare : (f : Figure) → figure_partners (bare_figure f) ≡ figure_partners f
partners-bare (plain n j v) = refl
partners-bare (chain n ps) = refl
partners-bare (lettering n s) = refl
partners-bare (wired n w) =
    ap (λ o. wire_partners (slot_value o)) (at_bare w.own wire_serial_row)
    ∙ ap wire_partners (slot-bare (get_or w.own wire_serial_row None)) ∙ wire-partners (slot_value (get_or w.own wire_serial_row None))
partners-bare (passed n) = refl
partners-bare (placed n h) =
    rw (part-bare h 0, held-bare "serial" placed_table (part_of h 0)) (ap (drop 1) (serials-bare (slot_value (held "serial" placed_table (part_of h 0)))))

pub volume-partners : (v : Contents) → partners_of_volume (bare_contents v) ≡ partners_of_volume v
volume-partners v =
    ap flat (map_same (λ u. flat (map figure_partners u.figures)) bare_block
    (λ u. ap flat (map_same figure_partners bare_figure partners-bare u.figures)) v.blocks)

pub exist-bare : (s : Set) → partners_exist (bare_set s) ≡ partners_exist s
exist-bare s =
    ap₂ (λ own wanted. all (λ n. has_number n own) wanted) (ap flat (map_same serials_of_volume bare_contents volume-serials s.volumes))
    (ap flat (map_same partners_of_volume bare_contents volume-partners s.volumes))

pub tests-bare : (c : Class) (s : Set) → tests_partners c (bare_set s) ≡ tests_partners c s
tests-bare c s = rw (sym-bare s, wire-bare s)

pub elements-bare : (v : Contents) → elements_of (bare_contents v) ≡ elements_of v
elements-bare v = total-same (λ u. length u.figures) bare_block (λ u. length-map u.figures bare_figure) v.blocks

pub used-bare : (v : Contents) → used_in (bare_contents v) ≡ used_in v
used-bare v = map_same (λ u. u.layer) bare_block (λ u. refl) v.blocks

pub chained-bare : (b : Bool) (next : List ℕ) (h : Held) → chained b next (bare_held h) ≡ chained b next h
chained-bare b next h =
    rw (part-bare h 0, held-bare "next_file" (own_table b) (part_of h 0), chars-bare (slot_value (held "next_file" (own_table b) (part_of h 0))))

pub dated-bare : (s : Set) (b : Bool) (h : Held) → dated (bare_set s) b (bare_held h) ≡ dated s b h
dated-bare s true h = refl
dated-bare s false h =
    rw (part-number "date" later_table h 0, part-number "time" later_table h 0, header-bare "date" file_table 0 s, header-bare "time" file_table 0 s)

pub here-bare : (s : Set) → counted_here (bare_set s) ≡ counted_here s
here-bare s =
    rw (first-bare s, part-number "this_ele" (own_table (is_first s)) s.now.file 0, elements-bare s.now)

pub all-bare : (s : Set) → counted_all (bare_set s) ≡ counted_all s
all-bare s = rw (header-bare "all_ele" file_table 0 s, total-same elements_of bare_contents elements-bare s.volumes)

pub layers-bare : (s : Set) → layers_used (bare_set s) ≡ layers_used s
layers-bare s = rw (ids-bare s.drawing.layers, map_same used_in bare_contents used-bare s.volumes)
