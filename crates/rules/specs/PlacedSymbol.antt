-- The placed symbol, the one block whose keys go by the class: what a line does in it, and in a block that is skipped there.
-- (Document 01, "Figures" and "Range class".)
use Rattle.std.specs.Prelude.{ℕ, zero, suc, Bool, true, false, cond, ◌&&◌, not, List, [], ◌∷◌, ◌++◌, map, ltb, get_or}
use Rattle.rules.specs.Base.{has_number, flat}
use Rattle.rules.specs.RefusalNumbers.{Got, got, bad, unless}
use Rattle.rules.specs.Lines.{Rest, Form, ignored, wrong, close, eof, keyed}
use Rattle.rules.specs.RangeClass.{digits, reaches, exceeds, both, Skip, passes, deeper, no_form, skip_of, most_depth}
use Rattle.rules.specs.Values.{Value, serials_of}
use Rattle.rules.specs.Rows.{Found, absent, found, find, Held, part_of, enter, rows_there, Act, act_row, act_unknown, act}
use Rattle.rules.specs.Figures.{placed_table, placed_tables}
use Rattle.rules.specs.Sets.{Figure, placed, passed, Set, range_of, known_of, own_serial, figure_serial, serials_in}
use Rattle.rules.specs.Machine.{Env, Owned, symbol_block, wire_block, wire_unread, State, by_act, shut_part, in_layer, figures, placing, skipping}

-- what the line of a key that the class doesn't know does: "skipped when a digit of E_sym exceeds the class's, and refused otherwise"
abbrev pub by_skip : Skip → Got State → Got State → Got State
by_skip passes here inside = here
by_skip deeper here inside = inside
by_skip no_form here inside = bad 5

abbrev pub skip_deeper : ℕ → State → Got State
skip_deeper d inside = unless (ltb d most_depth) 18 (got inside)

-- "Refused" is 6; `act_unknown` only refuses, so no other arm is reached
abbrev pub on_unknown : Env → Set → ℕ → List Figure → ℕ → Held → List ℕ → Rest → Got State
on_unknown e s h fs n o k c =
    cond (exceeds (range_of s) e.class.symbols)
    (by_skip (skip_of k c) (got (placing s h fs n (symbol_block o) 0)) (skip_deeper 0 (skipping s h fs n (symbol_block o) 1)))
    (by_act (placing s h fs n (symbol_block o) 0) (λ j v. bad 6) (λ i j v. bad 6) (λ _. bad 6) (act_unknown c))

-- "Own numbers differ as numbers over the set" (15)
abbrev pub none_of : List ℕ → List ℕ → Bool
none_of [] used = true
none_of (n ∷ ns) used = not (has_number n used) && none_of ns used

-- those of the set and of the layer that is open, symbols' and wires'
abbrev pub numbers_so_far : Set → List Figure → List ℕ
numbers_so_far s fs = serials_in s ++ flat (map figure_serial fs)

abbrev pub new_serial : Set → List Figure → Value → Bool
new_serial s fs v = none_of (own_serial (serials_of v)) (numbers_so_far s fs)

abbrev pub on_placed : Set → ℕ → List Figure → ℕ → Held → ℕ → Act → Got State
on_placed s h fs n o p a =
    by_act (placing s h fs n (symbol_block o) p)
    (λ j v. unless (new_serial s fs v) 15 (got (placing s h fs n (symbol_block (enter o p j v)) p)))
    (λ i j v. got (placing s h fs n (symbol_block (enter o p j v)) i))
    (λ _. shut_part p (got (figures s (in_layer h) (fs ++ placed n o ∷ []))) (λ q. placing s h fs n (symbol_block o) q))
    a

-- a key that the class knows is judged as in any block, in a file of the range E_sym
abbrev pub on_placed_key : Env → Set → ℕ → List Figure → ℕ → Held → List ℕ → Rest → Found → Got State
on_placed_key e s h fs n o k c absent = on_unknown e s h fs n o k c
on_placed_key e s h fs n o k c (found j r) =
    cond (reaches e.class.symbols r.least)
    (on_placed s h fs n o 0 (act_row (known_of s) (range_of s) (get_or (rows_there (part_of o 0)) j false) j r c))
    (on_unknown e s h fs n o k c)

-- what the file allows and the class knows is required
abbrev pub on_placed_own : Env → Set → ℕ → List Figure → ℕ → Held → Form → Got State
on_placed_own e s h fs n o ignored = got (placing s h fs n (symbol_block o) 0)
on_placed_own e s h fs n o (wrong m) = bad m
on_placed_own e s h fs n o close =
    on_placed s h fs n o 0 (act (known_of s) placed_table (both e.class.symbols (range_of s)) (rows_there (part_of o 0)) close)
on_placed_own e s h fs n o eof = bad 9
on_placed_own e s h fs n o (keyed k c) = on_placed_key e s h fs n o k c (find k placed_table)

abbrev pub on_placing : Env → Set → ℕ → List Figure → ℕ → Held → ℕ → Form → Got State
on_placing e s h fs n o zero f = on_placed_own e s h fs n o f
on_placing e s h fs n o (suc p) f =
    on_placed s h fs n o (suc p) (act (known_of s) (get_or placed_tables (suc p) []) (digits 0 0) (rows_there (part_of o (suc p))) f)

-- ── skipped blocks: "A skipped opener takes all lines to its own `}`" ──
-- behind the last of the skipped blocks: the block around it, or the wire that is skipped whole
abbrev pub skip_ended : Set → ℕ → List Figure → ℕ → Owned → State
skip_ended s h fs n (symbol_block o) = placing s h fs n (symbol_block o) 0
skip_ended s h fs n (wire_block w) = placing s h fs n (wire_block w) 0
skip_ended s h fs n wire_unread = skipping s h fs n wire_unread 0

-- where none is open: "every line to the wire's `}` is a skipped line" of a wire that is skipped whole, and no other has this
abbrev pub unread_shut : Set → ℕ → List Figure → ℕ → Owned → Got State
unread_shut s h fs n (symbol_block o) = bad 9
unread_shut s h fs n (wire_block w) = bad 9
unread_shut s h fs n wire_unread = got (figures s (in_layer h) (fs ++ passed n ∷ []))

-- where so many skipped blocks are open
abbrev pub skip_shut : Set → ℕ → List Figure → ℕ → Owned → ℕ → Got State
skip_shut s h fs n o zero = unread_shut s h fs n o
skip_shut s h fs n o (suc zero) = got (skip_ended s h fs n o)
skip_shut s h fs n o (suc (suc d)) = got (skipping s h fs n o (suc d))

abbrev pub on_skipping : Set → ℕ → List Figure → ℕ → Owned → ℕ → Form → Got State
on_skipping s h fs n o d ignored = got (skipping s h fs n o d)
on_skipping s h fs n o d (wrong m) = bad m
on_skipping s h fs n o d close = skip_shut s h fs n o d
on_skipping s h fs n o d eof = bad 9
on_skipping s h fs n o d (keyed k c) =
    by_skip (skip_of k c) (got (skipping s h fs n o d)) (skip_deeper d (skipping s h fs n o (suc d)))
