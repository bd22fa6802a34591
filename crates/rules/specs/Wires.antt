-- Document 02, wish 1: what a line does in a wire's block.
use Rattle.std.specs.Prelude.{ℕ, zero, suc, ◌+◌, ◌-◌, Bool, true, false, cond, ◌&&◌, ◌||◌, not, List, [], ◌∷◌, ◌++◌, eqb, leb, ltb, length, get_or, set, drop, Option, Some, None}
use Rattle.rules.specs.Base.{within}
use Rattle.rules.specs.RefusalNumbers.{Got, got, bad, unless}
use Rattle.rules.specs.Lines.{Rest, Form, ignored, wrong, close, eof, keyed}
use Rattle.rules.specs.RangeClass.{digits, reaches, exceeds, both, skip_of}
use Rattle.rules.specs.Values.{Num, Value, nums_of, value_at, equal_z}
use Rattle.rules.specs.Rows.{Slots, blank, Found, absent, found, find, rows_there, Act, act_row, act_unknown, act}
use Rattle.rules.specs.Figures.{wire_table, wire_text_table, most_direcs, first_group_row, num_row, wire_text_row, wire_serial_row}
use Rattle.rules.specs.Sets.{Edge, Wire, Figure, wired, Set, join_digit, wires_of, known_of, own_number}
use Rattle.rules.specs.Machine.{Line, Env, wire_block, State, by_act, taking, in_layer, figures, placing, skipping}
use Rattle.rules.specs.PlacedSymbol.{by_skip, skip_deeper, none_of, numbers_so_far}
use Rattle.rules.specs.RecordTable.{kind_edge}

-- ── how elements join: "The first digit 0 to 4 says how elements join." ──
-- "At 4 every end is joined to the next start": at the others nothing is tested or recorded
abbrev pub joins_ends : ℕ → Bool
joins_ends digit = eqb digit 4

-- the element before: none before the first
abbrev pub last_edge : List Edge → Option Edge
last_edge [] = None
last_edge (e ∷ []) = Some e
last_edge (e ∷ f ∷ es) = last_edge (f ∷ es)

-- a row of `wire_table`: `line` is the first
abbrev pub is_line_row : ℕ → Bool
is_line_row row = eqb row 0

-- a line's values are its type, the start's x and y, the end's x and y
abbrev pub meets : List Num → List Num → Bool
meets former this = equal_z (value_at former 3) (value_at this 1) && equal_z (value_at former 4) (value_at this 2)

-- "tested for equal values between two lines, and recorded as untested where an arc takes part": 0 none, 1 tested, 2 untested
abbrev pub join_none : ℕ
join_none = 0

abbrev pub join_tested : ℕ
join_tested = 1

abbrev pub join_untested : ℕ
join_untested = 2

abbrev pub join_of : Bool → Option Edge → ℕ → ℕ
join_of false former row = join_none
join_of true None row = join_none
join_of true (Some e) row = cond (is_line_row e.row && is_line_row row) join_tested join_untested

-- "a join that fails is 11 at the later line"
abbrev pub joined : Bool → Option Edge → ℕ → List Num → Bool
joined false former row this = true
joined true None row this = true
joined true (Some e) row this = not (is_line_row e.row && is_line_row row) || meets e.values this

-- ── what is kept of a line ──
abbrev pub with_element : Wire → Edge → Wire
with_element w e =
    record { elements = w.elements ++ e ∷ []; groups = w.groups; texts = w.texts; own = w.own; writing = w.writing; past = w.past }

-- something else than an element has stood there, a skipped key too
abbrev pub past_elements : Wire → Wire
past_elements w = record { elements = w.elements; groups = w.groups; texts = w.texts; own = w.own; writing = w.writing; past = true }

abbrev pub group_at : Wire → ℕ → List (List Num)
group_at w j = get_or w.groups (j - first_group_row) []

abbrev pub with_groups : List (List (List Num)) → Wire → Wire
with_groups gs w = record { elements = w.elements; groups = gs; texts = w.texts; own = w.own; writing = w.writing; past = true }

abbrev pub with_once : Slots → Wire → Wire
with_once o w = record { elements = w.elements; groups = w.groups; texts = w.texts; own = o; writing = w.writing; past = true }

abbrev pub with_texts : List Slots → Slots → Wire → Wire
with_texts ss o w = record { elements = w.elements; groups = w.groups; texts = ss; own = w.own; writing = o; past = true }

abbrev pub is_group_row : ℕ → Bool
is_group_row j = within first_group_row num_row j

abbrev pub with_attribute : Wire → ℕ → Value → Wire
with_attribute w j v =
    cond (is_group_row j) (with_groups (set w.groups (j - first_group_row) (group_at w j ++ nums_of v ∷ [])) w) (with_once (set w.own j (Some v)) w)

-- which rows may take no more: `direc` "0 to 2", the rows that stand once
abbrev pub wire_full : Wire → List Bool
wire_full w = false ∷ false ∷ leb most_direcs (length (group_at w first_group_row)) ∷ false ∷ false ∷ drop wire_text_row (rows_there w.own)

-- ── a line in the wire's block ──
abbrev pub is_element_row : ℕ → Bool
is_element_row j = ltb j first_group_row

abbrev pub on_element : Env → Line → Set → ℕ → List Figure → ℕ → Wire → ℕ → List Num → Got State
on_element e l s h fs n w row v =
    let former = last_edge w.elements in
    let ends = joins_ends (join_digit s) in
    unless (joined ends former row v) 11
    (taking e ((kind_edge + row) ∷ []) s λ s'.
    placing s' h fs n (wire_block (with_element w (record { line = l.line; row = row; values = v; join = join_of ends former row }))) 0)

-- `num`: "all with equal earth and power", 11 at the later line
abbrev pub like_first : List (List Num) → List Num → Bool
like_first [] v = true
like_first (u ∷ us) v = equal_z (value_at u 0) (value_at v 0) && equal_z (value_at u 1) (value_at v 1)

abbrev pub nums_alike : Wire → ℕ → List Num → Bool
nums_alike w j v = not (eqb j num_row) || like_first (group_at w j) v

-- "A wire's serial must differ from every symbol's and wire's" (15)
abbrev pub new_number : Set → List Figure → ℕ → Value → Bool
new_number s fs j v = not (eqb j wire_serial_row) || none_of (own_number (Some v)) (numbers_so_far s fs)

abbrev pub on_attribute : Set → ℕ → List Figure → ℕ → Wire → ℕ → Value → Got State
on_attribute s h fs n w j v =
    unless (nums_alike w j (nums_of v)) 11
    (unless (new_number s fs j v) 15
    (got (placing s h fs n (wire_block (with_attribute w j v)) 0)))

-- directly in it: a text opens alone
abbrev pub on_wire_act : Env → Line → Set → ℕ → List Figure → ℕ → Wire → Act → Got State
on_wire_act e l s h fs n w a =
    by_act (placing s h fs n (wire_block w) 0)
    (λ j v. cond (is_element_row j) (on_element e l s h fs n w j (nums_of v)) (on_attribute s h fs n w j v))
    (λ i j v. got (placing s h fs n (wire_block (with_texts w.texts (blank wire_text_table) w)) 1))
    (λ _. got (figures s (in_layer h) (fs ++ wired n w ∷ [])))
    a

-- "keys directly in a wire's block follow document 01's range class rules, with E_wire's last two digits and the wire part"
abbrev pub on_wire_unknown : Env → Line → Set → ℕ → List Figure → ℕ → Wire → List ℕ → Rest → Got State
on_wire_unknown e l s h fs n w k c =
    cond (exceeds (wires_of s) e.class.wires)
    (by_skip (skip_of k c) (got (placing s h fs n (wire_block (past_elements w)) 0)) (skip_deeper 0 (skipping s h fs n (wire_block (past_elements w)) 1)))
    (on_wire_act e l s h fs n w (act_unknown c))

-- an element behind anything else is not allowed there: 6, in whatever form (5 where it has none)
abbrev pub on_wire_key : Env → Line → Set → ℕ → List Figure → ℕ → Wire → List ℕ → Rest → Found → Got State
on_wire_key e l s h fs n w k c absent = on_wire_unknown e l s h fs n w k c
on_wire_key e l s h fs n w k c (found j r) =
    cond (is_element_row j && w.past) (on_wire_act e l s h fs n w (act_unknown c))
    (cond (reaches e.class.wires r.least)
    (on_wire_act e l s h fs n w (act_row (known_of s) (wires_of s) (get_or (wire_full w) j false) j r c))
    (on_wire_unknown e l s h fs n w k c))

abbrev pub on_wire_own : Env → Line → Set → ℕ → List Figure → ℕ → Wire → Form → Got State
on_wire_own e l s h fs n w ignored = got (placing s h fs n (wire_block w) 0)
on_wire_own e l s h fs n w (wrong m) = bad m
on_wire_own e l s h fs n w close =
    on_wire_act e l s h fs n w (act (known_of s) wire_table (both e.class.wires (wires_of s)) (rows_there w.own) close)
on_wire_own e l s h fs n w eof = bad 9
on_wire_own e l s h fs n w (keyed k c) = on_wire_key e l s h fs n w k c (find k wire_table)

-- in its text: a table without openers never opens
abbrev pub on_wire_text : Set → ℕ → List Figure → ℕ → Wire → ℕ → Form → Got State
on_wire_text s h fs n w p f =
    by_act (placing s h fs n (wire_block w) p)
    (λ j v. got (placing s h fs n (wire_block (with_texts w.texts (set w.writing j (Some v)) w)) p))
    (λ i j v. bad 5)
    (λ _. got (placing s h fs n (wire_block (with_texts (w.texts ++ w.writing ∷ []) [] w)) 0))
    (act (known_of s) wire_text_table (digits 0 0) (rows_there w.writing) f)

abbrev pub on_wire : Env → Line → Set → ℕ → List Figure → ℕ → Wire → ℕ → Form → Got State
on_wire e l s h fs n w zero f = on_wire_own e l s h fs n w f
on_wire e l s h fs n w (suc p) f = on_wire_text s h fs n w (suc p) f
