-- The reading of a set, line by line: one line in whichever block is open, a volume's last line, and the run over all lines.
-- (Document 01, "Order: .. then line by line".)
use Rattle.std.specs.Prelude.{ℕ, Bool, true, false, cond, ◌&&◌, ◌||◌, List, [], ◌∷◌, eqb}
use Rattle.rules.specs.RefusalNumbers.{Got, got, bad, map_g, also}
use Rattle.rules.specs.Lines.{Form, ignored, wrong, close, eof, keyed}
use Rattle.rules.specs.Sets.{Set}
use Rattle.rules.specs.Machine.{Line, in_last_volume, Env, State, past_element, on_top, on_file, on_drawing, on_layer_names, on_defines, on_symbol, on_hide}
use Rattle.rules.specs.Machine.{on_elements, on_figures, on_successive, on_texts, top, file, drawing, layer_names, defines, symbol, hide, elements, figures}
use Rattle.rules.specs.Machine.{successive, texts, symbol_block, wire_block, wire_unread, placing, skipping, ended}
use Rattle.rules.specs.PlacedSymbol.{on_placing, on_skipping}
use Rattle.rules.specs.Wires.{on_wire}

-- ── one line ──
-- in the block that is open; after EOF no line comes, for it is its volume's last and the volume the set's last (`at_eof`). A wire that is
-- skipped whole is always in `skipping`, so its clause of `placing` is never reached.
abbrev pub step_in : Env → Line → State → Got State
step_in e l (top s k) = on_top e l s k l.form
step_in e l (file s n h p) = on_file l s n h p l.form
step_in e l (drawing s d) = on_drawing s d l.form
step_in e l (layer_names s d) = on_layer_names e l s d l.form
step_in e l (defines s b) = on_defines e l s b l.form
step_in e l (symbol s y) = on_symbol s y l.form
step_in e l (hide s y ps) = on_hide e l s y ps l.form
step_in e l (elements s) = on_elements s l.form
step_in e l (figures s h fs) = on_figures e l s h fs l.form
step_in e l (successive s h fs n ps) = on_successive e l s h fs n ps l.form
step_in e l (texts s h fs n o) = on_texts s h fs n o l.form
step_in e l (placing s h fs n (symbol_block o) p) = on_placing e s h fs n o p l.form
step_in e l (placing s h fs n (wire_block w) p) = on_wire e l s h fs n w p l.form
step_in e l (placing s h fs n wire_unread p) = bad 9
step_in e l (skipping s h fs n o d) = on_skipping s h fs n o d l.form
step_in e l (ended s) = bad 9

-- ── the volume's last line: "volume ends early" is 9 there ──
-- how far the set is, as far as the end of a volume asks: between blocks, in ELEMENT with nothing open in it, in another block, ended
pub data Stage : Type 0 where
  between : Set → ℕ → Stage
  within_element : Stage
  within_other : Stage
  at_end : Set → Stage

abbrev pub stage_of : State → Stage
stage_of (top s k) = between s k
stage_of (file s n h p) = within_other
stage_of (drawing s d) = within_other
stage_of (layer_names s d) = within_other
stage_of (defines s b) = within_other
stage_of (symbol s y) = within_other
stage_of (hide s y ps) = within_other
stage_of (elements s) = within_element
stage_of (figures s h fs) = within_other
stage_of (successive s h fs n ps) = within_other
stage_of (texts s h fs n o) = within_other
stage_of (placing s h fs n o p) = within_other
stage_of (skipping s h fs n o d) = within_other
stage_of (ended s) = at_end s

abbrev pub is_within_element : Stage → Bool
is_within_element (between s k) = false
is_within_element within_element = true
is_within_element within_other = false
is_within_element (at_end s) = false

abbrev pub is_after_element : Stage → Bool
is_after_element (between s k) = eqb k past_element
is_after_element within_element = false
is_after_element within_other = false
is_after_element (at_end s) = false

-- ELEMENT is open, and nothing in it
abbrev pub in_elements : State → Bool
in_elements s = is_within_element (stage_of s)

-- ELEMENT is closed
abbrev pub after_elements : State → Bool
after_elements s = is_after_element (stage_of s)

abbrev pub is_ignored : Form → Bool
is_ignored ignored = true
is_ignored (wrong n) = false
is_ignored close = false
is_ignored eof = false
is_ignored (keyed k c) = false

abbrev pub is_close : Form → Bool
is_close ignored = false
is_close (wrong n) = false
is_close close = true
is_close eof = false
is_close (keyed k c) = false

abbrev pub is_eof : Form → Bool
is_eof ignored = false
is_eof (wrong n) = false
is_eof close = false
is_eof eof = true
is_eof (keyed k c) = false

-- Is the volume complete after this line? By its structure: in the last volume EOF after ELEMENT, in others ELEMENT's end.
abbrev pub completes : Line → State → Bool
completes l s =
    cond (in_last_volume l)
    (after_elements s && is_eof l.form)
    ((in_elements s && is_close l.form) || (after_elements s && is_ignored l.form))

-- the next volume begins anew
abbrev pub begun_anew : Stage → State → State
begun_anew (between s k) st = top s 0
begun_anew within_element st = st
begun_anew within_other st = st
begun_anew (at_end s) st = st

abbrev pub next_volume : State → State
next_volume s = begun_anew (stage_of s) s

-- a line, and where it is its volume's last, 9 unless the volume is complete with it
abbrev pub step : Env → Line → State → Got State
step e l s = cond l.last (map_g next_volume (also (completes l s) 9 (step_in e l s))) (step_in e l s)

-- ── all lines ──
pub data Outcome : Type 0 where
  refused : ℕ → ℕ → ℕ → Outcome  -- number, volume, line
  accepted : Set → Outcome

abbrev pub then_run : Got State → Line → (State → Outcome) → Outcome
then_run (got s) l f = f s
then_run (bad n) l f = refused n l.volume l.line

-- After the last line of the last volume the set has ended. The other clauses are never reached: a spool has a volume, a volume a line
-- (`Answers: lines_of_volume`), and at the last line of the last volume `completes` lets EOF alone through.
abbrev pub ended_as : Stage → Outcome
ended_as (between s k) = refused 9 0 0
ended_as within_element = refused 9 0 0
ended_as within_other = refused 9 0 0
ended_as (at_end s) = accepted s

abbrev pub finish : State → Outcome
finish s = ended_as (stage_of s)

abbrev pub run : Env → State → List Line → Outcome
run e s [] = finish s
run e s (l ∷ ls) = then_run (step e l s) l (λ s'. run e s' ls)
