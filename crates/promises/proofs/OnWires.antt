-- What holds of every state that a line in a wire's block may lead to. Said once, over any property of states.
use Rattle.std.specs.Prelude.{Some}
use Prim.Native.Nat.{ℕ, zero, suc}
use mathlib.Core.Bool.{Bool, true, false, ◌&&◌}
use mathlib.Core.List.{List, [], ◌∷◌, ◌++◌}
use mathlib.Core.Path.{◌≡◌, refl, ◌∙◌, ap, subst}
use lib.ListN.{get_or, set}
use Rattle.rules.specs.declared.Digits.{Digits}
use Rattle.rules.specs.Base.{split}
use Rattle.rules.specs.RefusalNumbers.{bad, unless}
use Rattle.rules.specs.Lines.{Rest, Form, ignored, wrong, close, eof, keyed, has_form, shape_of}
use Rattle.rules.specs.RangeClass.{digits, reaches, exceeds, both, knows_serials, skip_of}
use Rattle.rules.specs.Values.{Num, Value, empty, nums, chars, linked, wire_serial, nums_of, read_wire_serial}
use Rattle.rules.specs.Rows.{Rule, Slots, blank, Found, absent, found, find, rows_there, Act, stay, entry, begin, shut, refuse, or_refuse, complete, act_row, act_unknown, act_found, act}
use Rattle.rules.specs.Figures.{wire_table, wire_text_table, wire_serial_row}
use Rattle.rules.specs.Sets.{Wire, Figure, wired, Set, wires_of, known_of}
use Rattle.rules.specs.Machine.{Line, Env, State, in_layer, figures, wire_block, placing, skipping}
use Rattle.rules.specs.Wires.{nums_alike, new_number, with_once, past_elements, is_group_row, is_element_row, wire_full, on_element, on_attribute, on_wire_act, on_wire_unknown, on_wire_key, on_wire_own, on_wire}
use Rattle.rules.proofs.Chains.{On, on-unless, on-cond, on-map, on-all, by_cond}
use Rattle.promises.proofs.ClosedActs.{on-by_act}
use Rattle.rules.proofs.OnActs.{on_skip}
use Rattle.rules.proofs.Rows.{Row, found-row}
use Rattle.promises.proofs.SerialRows.{at_row, OneRow, RowAct, row-act}

-- a wire with the same elements and the same rows that stand once, whatever else is in it
abbrev pub beside : Wire → List (List (List Num)) → List Slots → Slots → Bool → Wire
beside w gs ts o b = record { elements = w.elements; groups = gs; texts = ts; own = w.own; writing = o; past = b }

-- ── the row `serial` of a wire ──
abbrev pub IsNums : Value → Type 0
IsNums empty = ⊥
IsNums (nums v) = Unit {0}
IsNums (chars at c) = ⊥
IsNums (linked n ps) = ⊥

serial-row : OneRow wire_table wire_serial_row IsNums
unfolding wire_table
serial-row = record {
  kind = wire_serial;
  holds = at_row (λ q. q.holds);
  must = at_row (λ q. q.may);
  form = λ may s. refl;
  reads = λ k at c. on-map IsNums nums (read_wire_serial (split 44 c)) (on-all (λ v. IsNums (nums v)) (λ v. tt) (read_wire_serial (split 44 c)));
}

serial-least : {j : ℕ} {r : Rule} → Row wire_table j r → j ≡ wire_serial_row → r.least ≡ digits 1 0
unfolding wire_table
serial-least row z = at_row (λ q. q.least) row z

-- it is entered at a wire part that knows it, with numbers
abbrev pub SerialRead : Env → Value → Type 0
SerialRead e v = (knows_serials e.class.wires ≡ true) × IsNums v

abbrev WireEntry : Env → Act → Type 0
WireEntry e a = RowAct wire_serial_row IsNums (knows_serials e.class.wires ≡ true) a

-- ── what each kind of line leads to ──
-- an element comes of a line of its row
abbrev Entered : Set → Wire → Form → Act → Type 0
Entered s w f stay = Unit {0}
Entered s w f (entry j v) = act (known_of s) wire_table (wires_of s) (wire_full w) f ≡ entry j v
Entered s w f (begin i j v) = Unit {0}
Entered s w f shut = Unit {0}
Entered s w f (refuse m) = Unit {0}

pub record ByLine (P : State → Type 0) (e : Env) (l : Line) (s : Set) (h : ℕ) (fs : List Figure) (n : ℕ) (w : Wire) (f : Form) : Type 0 where
  -- a line that enters none of what P may look at
  pub other : (gs : List (List (List Num))) (ts : List Slots) (o : Slots) (b : Bool) (p : ℕ) → P (placing s h fs n (wire_block (beside w gs ts o b)) p)
  pub element : (row : ℕ) (v : Value) → is_element_row row ≡ true → act (known_of s) wire_table (wires_of s) (wire_full w) f ≡ entry row v → On P (on_element e l s h fs n w row (nums_of v))
  pub once : (j : ℕ) (v : Value) → (j ≡ wire_serial_row → SerialRead e v) → new_number s fs j v ≡ true → P (placing s h fs n (wire_block (with_once (set w.own j (Some v)) w)) 0)
  pub shut : P (figures s (in_layer h) (fs ++ wired n w ∷ []))
  pub skipped : P (skipping s h fs n (wire_block (past_elements w)) 1)

module _ (P : State → Type 0) (e : Env) (l : Line) (s : Set) (h : ℕ) (fs : List Figure) (n : ℕ) (w : Wire) where
  module _ (form : Form) (d : ByLine P e l s h fs n w form) where
    on-attribute : (j : ℕ) (v : Value) → (j ≡ wire_serial_row → SerialRead e v) → On P (on_attribute s h fs n w j v)
    on-attribute j v r =
        on-unless P (nums_alike w j (nums_of v)) 11 _ λ _.
        on-unless P (new_number s fs j v) 15 _ λ q.
        by_cond (λ (x : Wire). P (placing s h fs n (wire_block x) 0)) (is_group_row j) (λ _. d.other _ w.texts w.writing true 0) (λ _. d.once j v r q)

    on-act : (a : Act) → WireEntry e a → Entered s w form a → On P (on_wire_act e l s h fs n w a)
    on-act stay r z = d.other w.groups w.texts w.writing w.past 0
    on-act (entry j v) r z = on-cond P (is_element_row j) _ _ (λ q. d.element j v q z) (λ _. on-attribute j v r)
    on-act (begin i j v) r z = d.other w.groups w.texts (blank wire_text_table) true 1
    on-act shut r z = d.shut
    on-act (refuse m) r z = tt

    refused-act : (b : Bool) → WireEntry e (or_refuse (unless b 5 (bad 6))) × Entered s w form (or_refuse (unless b 5 (bad 6)))
    refused-act true = (tt, tt)
    refused-act false = (tt, tt)

    on-unknown-act : (c : Rest) → On P (on_wire_act e l s h fs n w (act_unknown c))
    on-unknown-act c = let (r, z) = refused-act (has_form (shape_of c)) in on-act (act_unknown c) r z

    on-unknown : (k : List ℕ) (c : Rest) → On P (on_wire_unknown e l s h fs n w k c)
    on-unknown k c =
        on-cond P (exceeds (wires_of s) e.class.wires) _ _
        (λ _. on_skip P (skip_of k c) _ _ (d.other w.groups w.texts w.writing true 0) d.skipped) (λ _. on-unknown-act c)

    row-entry : {j : ℕ} {r : Rule} → Row wire_table j r → reaches e.class.wires r.least ≡ true → (c : Rest)
        → WireEntry e (act_row (known_of s) (wires_of s) (get_or (wire_full w) j false) j r c)
    row-entry {j} {r} row q c =
        row-act wire_serial_row IsNums (knows_serials e.class.wires ≡ true) serial-row (known_of s) (wires_of s) (get_or (wire_full w) j false) row
        (λ z. subst (λ (m : Digits). reaches e.class.wires m ≡ true) (serial-least row z) q) c

    it-entered : (a : Act) → act (known_of s) wire_table (wires_of s) (wire_full w) form ≡ a → Entered s w form a
    it-entered stay q = tt
    it-entered (entry j v) q = q
    it-entered (begin i j v) q = tt
    it-entered shut q = tt
    it-entered (refuse m) q = tt

    on-key : (k : List ℕ) (c : Rest) → form ≡ keyed k c → (f : Found) → find k wire_table ≡ f → On P (on_wire_key e l s h fs n w k c f)
    on-key k c y absent p = on-unknown k c
    on-key k c y (found j r) p =
        let a = act_row (known_of s) (wires_of s) (get_or (wire_full w) j false) j r c in
        let is = ap (act (known_of s) wire_table (wires_of s) (wire_full w)) y ∙ ap (act_found (known_of s) (wires_of s) (wire_full w) c) p in
        on-cond P (is_element_row j && w.past) _ _ (λ _. on-unknown-act c) λ _.
        on-cond P (reaches e.class.wires r.least) _ _
        (λ q. on-act a (row-entry (found-row k wire_table j r p).0 q c) (it-entered a is)) (λ _. on-unknown k c)

    on-own : (f : Form) → form ≡ f → On P (on_wire_own e l s h fs n w f)
    on-own ignored y = d.other w.groups w.texts w.writing w.past 0
    on-own (wrong m) y = tt
    on-own close y =
        let a = both e.class.wires (wires_of s) in
        let t = complete a wire_table (rows_there w.own) in
        on-act (act (known_of s) wire_table a (rows_there w.own) close) (by_cond (WireEntry e) t (λ _. tt) (λ _. tt)) (by_cond (Entered s w form) t (λ _. tt) (λ _. tt))
    on-own eof y = tt
    on-own (keyed k c) y = on-key k c y (find k wire_table) refl

    pub by-line : (p : ℕ) → On P (on_wire e l s h fs n w p form)
    by-line zero = on-own form refl
    by-line (suc p) =
        on-by_act P _ _ _ _ (act (known_of s) wire_text_table (digits 0 0) (rows_there w.writing) form)
        (d.other w.groups w.texts w.writing w.past (suc p))
        (λ j v. d.other w.groups w.texts (set w.writing j (Some v)) true (suc p))
        (λ i j v b. tt)
        (d.other w.groups (w.texts ++ w.writing ∷ []) [] true 0)

-- the same where it doesn't matter which line an element comes of
pub record InWire (P : State → Type 0) (e : Env) (l : Line) (s : Set) (h : ℕ) (fs : List Figure) (n : ℕ) (w : Wire) : Type 0 where
  pub other : (gs : List (List (List Num))) (ts : List Slots) (o : Slots) (b : Bool) (p : ℕ) → P (placing s h fs n (wire_block (beside w gs ts o b)) p)
  pub element : (row : ℕ) (v : List Num) → is_element_row row ≡ true → On P (on_element e l s h fs n w row v)
  pub once : (j : ℕ) (v : Value) → (j ≡ wire_serial_row → SerialRead e v) → new_number s fs j v ≡ true → P (placing s h fs n (wire_block (with_once (set w.own j (Some v)) w)) 0)
  pub shut : P (figures s (in_layer h) (fs ++ wired n w ∷ []))
  pub skipped : P (skipping s h fs n (wire_block (past_elements w)) 1)

pub on-wire : (P : State → Type 0) (e : Env) (l : Line) (s : Set) (h : ℕ) (fs : List Figure) (n : ℕ) (w : Wire) → InWire P e l s h fs n w
    → (p : ℕ) (f : Form) → On P (on_wire e l s h fs n w p f)
on-wire P e l s h fs n w d p f =
    by-line P e l s h fs n w f
    (record { other = d.other; element = λ row v q _. d.element row (nums_of v) q; once = d.once; shut = d.shut; skipped = d.skipped })
    p
