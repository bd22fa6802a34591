-- Which block of the set is open, what it holds so far, and what a line does there. (A placed symbol's lines: PlacedSymbol.)
use Rattle.std.specs.Prelude.{ℕ, zero, suc, ◌+◌, Bool, true, false, cond, ◌&&◌, ◌||◌, not, List, [], ◌∷◌, ◌++◌, map, eqb, leb, ltb, length, get_or, set, Option, Some, None}
use Rattle.rules.specs.declared.Class.{Class}
use Rattle.rules.specs.Base.{is_nil, is_none, among, has_number}
use Rattle.rules.specs.RefusalNumbers.{Got, got, bad, unless, and_then}
use Rattle.rules.specs.Lines.{Rest, Form, ignored, wrong, close, eof, keyed, free_shape_of, Shape, opener, no_content, content, opening, formless}
use Rattle.rules.specs.RangeClass.{digits, digits_of, knows_wires, knows_serials}
use Rattle.rules.specs.Values.{Value, empty, nums_of, amount_at, is_layer_id, read_kind}
use Rattle.rules.specs.Rows.{Rule, Slots, blank, Held, part_of, enter, rows_there, rows_at_limit, Act, stay, entry, begin, shut, refuse, act}
use Rattle.rules.specs.Blocks.{top_table, file_tables, around, blank_held, drawing_table, most_layers, layer_name_kind, defines_table, symbol_table, element_table}
use Rattle.rules.specs.Figures.{figure_table, least_points, point_table, text_table, placed_tables, wire_table}
use Rattle.rules.specs.Sets.{Point, Wire, Figure, plain, chain, lettering, Drawing, Symbol, Set, with_now, with_drawing, with_symbol, with_volume, with_records}
use Rattle.rules.specs.Sets.{with_block, with_layer, with_own, symbol_own, symbol_figures, symbol_hidden, symbol_order, is_first, arc_of, range_of, wires_of, define_range}
use Rattle.rules.specs.Sets.{layer_table_of, symbol_name_of, known_of, used_in}
use Rattle.rules.specs.RecordTable.{kind_header, kind_volume, kind_drawing, kind_symbol, kind_layer, kind_line, kind_successive, kind_text, kind_placed, kind_point, kind_wire, kind_wire_more}
use Rattle.rules.specs.RecordTable.{in_symbol, kind_hidden}
use Rattle.rules.specs.VolumesAndTotals.{chained, dated, counted_here, counted_all, layers_used, partners_exist}

-- ── a line of the set, and what the reading knows from the start ──
pub record Line : Type 0 where
  pub volume : ℕ
  pub line : ℕ
  pub last : Bool  -- the last of its volume
  pub next : List ℕ  -- the name of the volume that follows, nothing in the last volume
  pub form : Form

abbrev pub in_last_volume : Line → Bool
in_last_volume l = is_nil l.next

pub record Env : Type 0 where
  pub class : Class
  pub limit : Option ℕ  -- how many records the table holds; none for the rewriter

-- at a class, with room for every record, or for so many
abbrev pub unlimited : Class → Env
unlimited c = record { class = c; limit = None }

abbrev pub limited_to : Class → ℕ → Env
limited_to c m = record { class = c; limit = Some m }

-- ── which block is open ──
-- where figures stand: in a symbol's `element`, or in a layer
pub data Home : Type 0 where
  in_element : Symbol → Home
  in_layer : ℕ → Home

-- what a layer's block with attributes holds so far: a placed symbol's block, a wire's, or a wire's that is skipped whole
pub data Owned : Type 0 where
  symbol_block : Held → Owned
  wire_block : Wire → Owned
  wire_unread : Owned

pub data State : Type 0 where
  top : Set → ℕ → State  -- none: the number of the block that comes next (0 to 3, 4 after ELEMENT)
  file : Set → ℕ → Held → ℕ → State  -- FILE_FORMAT: its line, what it holds, which inner part is open
  drawing : Set → Drawing → State
  layer_names : Set → Drawing → State
  defines : Set → Bool → State  -- SYMBOL_DEFINE: `NON=` was read
  symbol : Set → Symbol → State
  hide : Set → Symbol → List Point → State
  elements : Set → State
  figures : Set → Home → List Figure → State  -- `element` or LAYER
  successive : Set → Home → List Figure → ℕ → List Point → State
  texts : Set → Home → List Figure → ℕ → Slots → State
  placing : Set → ℕ → List Figure → ℕ → Owned → ℕ → State  -- a layer's block with attributes: its line, what it holds, which inner part is open
  skipping : Set → ℕ → List Figure → ℕ → Owned → ℕ → State  -- in it, how many skipped blocks are open
  ended : Set → State

-- the set that a state speaks of
abbrev pub set_of : State → Set
set_of (top s k) = s
set_of (file s n h p) = s
set_of (drawing s d) = s
set_of (layer_names s d) = s
set_of (defines s b) = s
set_of (symbol s y) = s
set_of (hide s y ps) = s
set_of (elements s) = s
set_of (figures s h fs) = s
set_of (successive s h fs n ps) = s
set_of (texts s h fs n o) = s
set_of (placing s k fs n o p) = s
set_of (skipping s k fs n o d) = s
set_of (ended s) = s

-- the number of the block that comes next, where none does: ELEMENT is closed
abbrev pub past_element : ℕ
past_element = 4

-- ── what an act does ──
-- In a state; where a row is entered, where a row opens an inner block, where the block closes. A table without openers never opens, one of
-- openers alone never enters: the arm for it is never reached, and there says 5.
abbrev pub by_act : State → (ℕ → Value → Got State) → (ℕ → ℕ → Value → Got State) → (Unit {0} → Got State) → Act → Got State
by_act here entered opened closed stay = got here
by_act here entered opened closed (entry j v) = entered j v
by_act here entered opened closed (begin i j v) = opened i j v
by_act here entered opened closed shut = closed tt
by_act here entered opened closed (refuse n) = bad n

-- 19: "record doesn't fit the table"; it is tested last on its line
abbrev pub room_for : Option ℕ → ℕ → Bool
room_for None n = true
room_for (Some m) n = leb n m

-- records of these kinds, taken at this line
abbrev pub taking : Env → List ℕ → Set → (Set → State) → Got State
taking e ks s f = unless (room_for e.limit (s.taken + length ks)) 19 (got (f (with_records ks s)))

-- ── at the top level ──
-- FILE_FORMAT's: the first volume's takes the header's record too
abbrev pub file_kinds : Bool → List ℕ
file_kinds first = cond first (kind_header ∷ kind_volume ∷ []) (kind_volume ∷ [])

-- by the number of the block's row in `top_table`, so the last clause is of ELEMENT alone
abbrev pub open_top : Env → Line → Set → ℕ → Got State
open_top e l s zero = taking e (file_kinds (is_first s)) s λ s'. file s' l.line (blank_held (file_tables (is_first s))) 0
open_top e l s (suc zero) = taking e (kind_drawing ∷ []) s λ s'. drawing s' (record { line = l.line; own = blank drawing_table; layers = [] })
open_top e l s (suc (suc zero)) = got (defines s false)
open_top e l s (suc (suc (suc k))) = got (elements s)

-- "partners are tested where file and class both know serials of symbols and of wires"
abbrev pub tests_partners : Class → Set → Bool
tests_partners c s = (knows_serials (range_of s) && knows_serials (wires_of s)) && (knows_serials c.symbols && knows_serials c.wires)

-- EOF: "9 (EOF misplaced, at EOF's line, also if any line follows it)", then "14 (unused, at EOF)", then "17 (all_ele at EOF)", then "21,
-- partner not found, at EOF after 17"
abbrev pub at_eof : Env → Line → Set → ℕ → Got State
at_eof e l s k =
    unless (eqb k past_element && (in_last_volume l && l.last)) 9
    (unless (layers_used s) 14
    (unless (counted_all s) 17
    (unless (not (tests_partners e.class s) || partners_exist s) 21
    (got (ended s)))))

-- a line with a key enters nothing here and closes nothing: those two arms are never reached
abbrev pub on_top : Env → Line → Set → ℕ → Form → Got State
on_top e l s k ignored = got (top s k)
on_top e l s k (wrong n) = bad n
on_top e l s k close = bad 9
on_top e l s k eof = at_eof e l s k
on_top e l s k (keyed key c) =
    by_act (top s k) (λ j v. bad 5) (λ i j v. unless (eqb j k) 9 (open_top e l s j)) (λ _. bad 9)
    (act (known_of s) top_table (digits 0 0) (rows_at_limit 0 top_table) (keyed key c))

-- ── FILE_FORMAT ──
-- "16: volume chain, date or time unlike volume 1's, at FILE_FORMAT's close"
abbrev pub close_file : Line → Set → ℕ → Held → Got State
close_file l s n h =
    unless (chained (is_first s) l.next h && dated s (is_first s) h) 16
    (got (top (with_now (record { line = n; file = h; blocks = [] }) s) (cond (is_first s) 1 3)))

abbrev pub shut_part : ℕ → Got State → (ℕ → State) → Got State
shut_part zero whole back = whole
shut_part (suc p) whole back = got (back (around (suc p)))

abbrev pub on_file : Line → Set → ℕ → Held → ℕ → Form → Got State
on_file l s n h p f =
    let t = get_or (file_tables (is_first s)) p [] in
    by_act (file s n h p)
    (λ j v. got (file s n (enter h p j v) p))
    (λ i j v. got (file s n (enter h p j v) i))
    (λ _. shut_part p (close_file l s n h) (λ q. file s n h q))
    (act (known_of s) t (digits 0 0) (rows_there (part_of h p)) f)

-- ── DRAWING_FORMAT ──
abbrev pub on_drawing : Set → Drawing → Form → Got State
on_drawing s d f =
    by_act (drawing s d)
    (λ j v. got (drawing s (with_own (set d.own j (Some v)) d)))
    (λ i j v. got (layer_names s (with_own (set d.own j (Some v)) d)))
    (λ _. got (top (with_drawing d s) 2))
    (act (known_of s) drawing_table (digits_of (arc_of s)) (rows_there d.own) f)

-- a line in `layer_name`: every content there is a layer's name (as free text, so `opening` and `formless` are never reached)
abbrev pub layer_value : List ℕ → Shape → Got Value
layer_value k opener = bad 5
layer_value k no_content = got empty
layer_value k (content at c) = read_kind (record { symbols = []; layers = [] }) layer_name_kind at c
layer_value k (opening at c) = bad 5
layer_value k formless = bad 5

-- "A misspelt id is 6" in any form, a right one in a wrong form 5: they exclude each other, so 6 may stand first. Then the name's own number,
-- 11, that of one line too many, 11 again, 14 for a layer declared twice, 19. A form asked of a misspelt id too would have to stand before 6; a
-- rule on names with a number above 11 would have to stand behind the test of how many lines there are.
abbrev pub layer_line : Env → Line → Set → Drawing → List ℕ → Rest → Got State
layer_line e l s d k c =
    unless (is_layer_id k) 6
    (and_then (layer_value k (free_shape_of c)) λ v.
    unless (ltb (length d.layers) most_layers) 11
    (unless (not (among k (map (λ y. y.id) d.layers))) 14
    (taking e (kind_layer ∷ []) s λ s'. layer_names s' (with_layer (record { line = l.line; id = k; name = v }) d))))

abbrev pub on_layer_names : Env → Line → Set → Drawing → Form → Got State
on_layer_names e l s d ignored = got (layer_names s d)
on_layer_names e l s d (wrong n) = bad n
on_layer_names e l s d close = got (drawing s d)
on_layer_names e l s d eof = bad 9
on_layer_names e l s d (keyed k c) = layer_line e l s d k c

-- ── SYMBOL_DEFINE ──
abbrev pub new_symbol : ℕ → Symbol
new_symbol n = record { line = n; own = blank symbol_table; figures = []; hidden = []; hide_first = false }

-- "NON and a symbol together" is 6, behind the line's own 5; its 7 (NON twice) stands before that 6, but never where a symbol is there too.
-- Neither is 8. Which rows may take no more: NON where it was read, `E_symbol` never.
abbrev pub on_defines : Env → Line → Set → Bool → Form → Got State
on_defines e l s non f =
    by_act (defines s non)
    (λ j v. unless (is_nil s.symbols) 6 (got (defines s true)))
    (λ i j v. unless (not non) 6 (taking e (kind_symbol ∷ []) s λ s'. symbol s' (new_symbol l.line)))
    (λ _. unless (non || not (is_nil s.symbols)) 8 (got (top s 3)))
    (act (known_of s) defines_table (digits_of (define_range s)) (non ∷ false ∷ []) f)

-- "15: symbol name twice"
abbrev pub new_name : Set → Symbol → Bool
new_name s y = is_nil (symbol_name_of y) || not (among (symbol_name_of y) (known_of s).symbols)

-- by the numbers of the inner blocks in `symbol_table`: `element` is 1, `hide` 2; 0 is never reached
abbrev pub open_symbol : Set → Symbol → ℕ → Got State
open_symbol s y zero = bad 5
open_symbol s y (suc zero) = got (figures s (in_element y) [])
open_symbol s y (suc (suc i)) = got (hide s (symbol_order (is_none (get_or y.own 1 None)) y) [])

abbrev pub on_symbol : Set → Symbol → Form → Got State
on_symbol s y f =
    by_act (symbol s y)
    (λ j v. let y' = symbol_own (set y.own j (Some v)) y in unless (new_name s y') 15 (got (symbol s y')))
    (λ i j v. open_symbol s (symbol_own (set y.own j (Some v)) y) i)
    (λ _. got (defines (with_symbol y s) false))
    (act (known_of s) symbol_table (digits_of (define_range s)) (rows_there y.own) f)

-- ── points ──
abbrev pub point_at : Line → Value → Point
point_at l v = record { line = l.line; values = nums_of v }

abbrev pub on_hide : Env → Line → Set → Symbol → List Point → Form → Got State
on_hide e l s y ps f =
    by_act (hide s y ps)
    (λ j v. taking e (kind_hidden ∷ []) s λ s'. hide s' y (ps ++ point_at l v ∷ []))
    (λ i j v. bad 5)
    (λ _. got (symbol s (symbol_hidden ps y)))
    (act (known_of s) (point_table false) (digits 0 0) (rows_at_limit (length ps) (point_table false)) f)

-- ── ELEMENT ──
-- "14: layer used twice"; "17: this_ele at ELEMENT's close"
abbrev pub on_elements : Set → Form → Got State
on_elements s f =
    by_act (elements s)
    (λ j v. bad 5)
    (λ i j v. unless (not (has_number (amount_at v 0) (used_in s.now))) 14 (got (figures s (in_layer (amount_at v 0)) [])))
    (λ _. unless (counted_here s) 17 (got (top (with_volume s) past_element)))
    (act (known_of s) element_table (digits 0 0) (rows_at_limit 0 element_table) f)

-- ── figures ──
abbrev pub is_layer : Home → Bool
is_layer (in_element y) = false
is_layer (in_layer k) = true

abbrev pub home_table : Set → Home → List Rule
home_table s (in_element y) = figure_table
home_table s (in_layer k) = layer_table_of s

-- a figure's kind by where it stands: "plus 20 inside a symbol"
abbrev pub kind_in : Home → ℕ → ℕ
kind_in (in_element y) kind = kind + in_symbol
kind_in (in_layer k) kind = kind

-- "`element` (one or more figures)": none is 8; a layer may have none
abbrev pub close_figures : Set → Home → List Figure → Got State
close_figures s (in_element y) fs = unless (not (is_nil fs)) 8 (got (symbol s (symbol_figures fs y)))
close_figures s (in_layer k) fs = got (elements (with_block (record { layer = k; figures = fs }) s))

-- "E_symbol: placed symbol, in layers only": an element's table has no such row, so its clause is never reached
abbrev pub open_placed : Env → Line → Set → Home → List Figure → Got State
open_placed e l s (in_element y) fs = bad 6
open_placed e l s (in_layer k) fs = taking e (kind_placed ∷ []) s λ s'. placing s' k fs l.line (symbol_block (blank_held placed_tables)) 0

-- "A class with 0 skips whole wires": what the reading of a wire begins with, its line and whether its wire part is another
abbrev pub no_wire : Wire
no_wire = record { elements = []; groups = [] ∷ [] ∷ [] ∷ []; texts = []; own = blank wire_table; writing = []; past = false }

abbrev pub begin_wire : Bool → Set → ℕ → List Figure → ℕ → State
begin_wire true s k fs n = placing s k fs n (wire_block no_wire) 0
begin_wire false s k fs n = skipping s k fs n wire_unread 0

-- in layers only, as a placed symbol; "both at the wire's line": its two records
abbrev pub open_wire : Env → Line → Set → Home → List Figure → Got State
open_wire e l s (in_element y) fs = bad 6
open_wire e l s (in_layer k) fs = taking e (kind_wire ∷ kind_wire_more ∷ []) s λ s'. begin_wire (knows_wires e.class) s' k fs l.line

-- by the numbers of the inner blocks in `layer_table` and `figure_table`: successive 1, text 2, a placed symbol 3, a wire 4; 0 is never reached
abbrev pub open_figure : Env → Line → Set → Home → List Figure → ℕ → Got State
open_figure e l s h fs zero = bad 5
open_figure e l s h fs (suc zero) = taking e (kind_in h kind_successive ∷ []) s λ s'. successive s' h fs l.line []
open_figure e l s h fs (suc (suc zero)) = taking e (kind_in h kind_text ∷ []) s λ s'. texts s' h fs l.line (blank (text_table (is_layer h) 4 12))
open_figure e l s h fs (suc (suc (suc zero))) = open_placed e l s h fs
open_figure e l s h fs (suc (suc (suc (suc i)))) = open_wire e l s h fs

abbrev pub on_figures : Env → Line → Set → Home → List Figure → Form → Got State
on_figures e l s h fs f =
    by_act (figures s h fs)
    (λ j v. taking e (kind_in h (kind_line + j) ∷ []) s λ s'. figures s' h (fs ++ plain l.line j (nums_of v) ∷ []))
    (λ i j v. open_figure e l s h fs i)
    (λ _. close_figures s h fs)
    (act (known_of s) (home_table s h) (range_of s) (rows_at_limit 0 (home_table s h)) f)

-- "successive: block of 3 to 100 point"
abbrev pub on_successive : Env → Line → Set → Home → List Figure → ℕ → List Point → Form → Got State
on_successive e l s h fs n ps f =
    by_act (successive s h fs n ps)
    (λ j v. taking e (kind_in h kind_point ∷ []) s λ s'. successive s' h fs n (ps ++ point_at l v ∷ []))
    (λ i j v. bad 5)
    (λ _. unless (leb least_points (length ps)) 8 (got (figures s h (fs ++ chain n ps ∷ []))))
    (act (known_of s) (point_table (is_layer h)) (digits 0 0) (rows_at_limit (length ps) (point_table (is_layer h))) f)

abbrev pub on_texts : Set → Home → List Figure → ℕ → Slots → Form → Got State
on_texts s h fs n o f =
    by_act (texts s h fs n o)
    (λ j v. got (texts s h fs n (set o j (Some v))))
    (λ i j v. bad 5)
    (λ _. got (figures s h (fs ++ lettering n o ∷ [])))
    (act (known_of s) (text_table (is_layer h) 4 12) (digits 0 0) (rows_there o) f)
