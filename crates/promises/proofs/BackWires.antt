-- Wires written and read again: their elements, then what repeats, key by key, their texts, and the rows that stand once.
use Rattle.std.specs.Prelude.{Option, Some, None}
use Prim.Native.Nat.{ℕ, zero, suc, ◌+◌, ◌≤◌}
use mathlib.Core.Bool.{Bool, true, false, ◌&&◌, ◌||◌, not}
use mathlib.Core.List.{List, [], ◌∷◌, ◌++◌, map, append-nil, append_assoc}
use mathlib.Core.Path.{◌≡◌, refl, sym, ◌∙◌, ap, ap₂, subst}
use native.Mathlib.Omega.{arith}
use lib.Dec.{eqb, leb}
use lib.ListN.{length, get_or, set}
use borrow.Author.Tests.{not-true, eqb-true, ne_eqb, le-leb, le-ltb}
use Rattle.rules.specs.Base.{bytes, map_o, all, flat, is_none, is_some, is_nil}
use Rattle.rules.specs.RefusalNumbers.{got}
use Rattle.rules.specs.Lines.{form_of}
use Rattle.rules.specs.RangeClass.{reaches}
use Rattle.rules.specs.Values.{Num, Value, nums}
use Rattle.rules.specs.Rows.{Rule, Slots, blank, rows_there}
use Rattle.rules.specs.Figures.{layer_table, wire_table, wire_text_table, first_group_row, num_row, wire_text_row, wire_serial_row}
use Rattle.rules.specs.Sets.{Edge, Wire, Figure, wired, Set, range_of, is_wired, join_digit, wire_range, wires_of, known_of, own_number, figure_serial, serials_in}
use Rattle.rules.specs.Machine.{in_layer, State, figures, placing, wire_block, no_wire}
use Rattle.rules.specs.PlacedSymbol.{none_of}
use Rattle.rules.specs.LineByLine.{step_in}
use Rattle.rules.specs.FixedForm.{opens_block, line_of, open_line, block, no_inner, show_slots, show_edges, show_group, show_groups, show_wire_texts, show_wire}
use Rattle.rules.specs.RecordTable.{rule_at}
use Rattle.rules.specs.Answers.{full_class}
use Rattle.rules.specs.Wires.{joins_ends, last_edge, group_at, wire_full, is_element_row, new_number, with_attribute, on_wire_act}
use Rattle.rules.proofs.Chains.{and_left, and_right, and_false, clash, or_true, none-some}
use Rattle.rules.proofs.Rows.{Row, differ, row-all, row_at, row-find, reaches-none}
use Rattle.promises.specs.PlacesApart.{bare_value, bare_slots, bare_edge, bare_wire}
use Rattle.promises.proofs.Good.{GoodRow, Always, none0, GoodSlots, GoodEdge, GoodEdges, GoodText, GoodNext, GoodGroup, group_full, GoodGroups, GoodTexts, none_below, once_rows, any_line, any_slot, GoodWire, written_act}
use Rattle.promises.proofs.BackSlots.{line_for, plain_env, close-form, retaken, Reads, one_line, no_lines, ◌and◌, Free, free-mark, act-entry, may_open, calm-kind, entered, read-calm, read-slots}
use Rattle.promises.proofs.BackFigures.{taken_edges, text-sound}
use Rattle.promises.proofs.BackFile.{sound-differ}
use Rattle.promises.proofs.Bare.{marks-bare, some-bare, amount-bare}
use Rattle.promises.proofs.InvRows.{all_at, row-all-at}
use Rattle.promises.proofs.Places.{joined-bare, join-bare}
use Rattle.promises.proofs.Edges.{last_snoc, full-once, once-alone}

-- ── the table ──
abbrev later_calm : ℕ → Rule → Bool
later_calm j r = not (leb once_rows j) || not (may_open r.holds)

wire-sound : (differ wire_table ≡ true) × (all (λ r. reaches full_class.wires r.least) wire_table ≡ true) × (all_at later_calm wire_table ≡ true)
unfolding wire_table
wire-sound = (refl, refl, refl)

-- the rows that stand once open nothing
once-calm : {i : ℕ} {r : Rule} → Row wire_table i r → once_rows ≤ i → (v : Value) → opens_block r.holds v ≡ false
once-calm {i} {r} w l v =
    let e : (not true || not (may_open r.holds)) ≡ true = rw (le-leb once_rows i l) at (row-all-at later_calm w wire-sound.2) in
    calm-kind r.holds v (not-true (may_open r.holds) e)

-- ── slots ──
any-free : (u : Slots) (i : ℕ) (v : Value) → Free u i → any_slot (set u i (Some v)) ≡ true
any-free [] i v f = absurd f
any-free (o ∷ u) zero v f = refl
any-free (o ∷ u) (suc i) v f = rw (any-free u i v f) (or_true (is_some o))

any-blank : (t : List Rule) → any_slot (blank t) ≡ false
any-blank [] = refl
any-blank (r ∷ t) = any-blank t

any-bare : (s : Slots) → any_slot (bare_slots s) ≡ any_slot s
any-bare [] = refl
any-bare (o ∷ s) = ap₂ ◌||◌ (some-bare o) (any-bare s)

-- a row that is filled is none of the first n, where these hold nothing
not-below : (n i : ℕ) (s : Slots) (v : Value) → none_below n s ≡ true → get_or s i None ≡ Some v → n ≤ i
not-below zero i s v e q = omega arith
not-below (suc n) i [] v e q = none-some q
not-below (suc n) zero (o ∷ s) v e q = clash (and_left (is_none o) _ e) (ap is_none q)
not-below (suc n) (suc i) (o ∷ s) v e q = let l = not-below n i s v (and_right (is_none o) _ e) q in omega arith

or-none : (b : Bool) → (b || false) ≡ b
or-none true = refl
or-none false = refl

or-three : (a b c : Bool) → ((a || b) || c) ≡ (a || (b || (c || false)))
or-three true b c = refl
or-three false true c = refl
or-three false false c = sym (or-none c)

module _ (next : List ℕ) (S : Set) (m : ℕ) (fs : List Figure) where
  abbrev in_wire : ℕ → Wire → State
  in_wire n w = placing (retaken n S) m fs 0 (wire_block w) 0

  -- a row's line, in a wire that may take it
  row_line : (n : ℕ) (w : Wire) (j : ℕ) (r : Rule) (v : Value) → Row wire_table j r → GoodRow (known_of S) (wires_of S) r v → (is_element_row j && w.past) ≡ false
      → get_or (wire_full w) j false ≡ false
      → step_in plain_env (line_for next false (line_of (known_of S) r v)) (in_wire n w)
      ≡ on_wire_act plain_env (line_for next false (line_of (known_of S) r v)) (retaken n S) m fs 0 w (written_act j r v)
  row_line n w j r v at g first room =
      rw (g.form 0, row-find at wire-sound.0, first, row-all (λ r. reaches full_class.wires r.least) at wire-sound.1, room, g.again j)

  -- ── lines and arcs ──
  abbrev with_edges : List Edge → Wire
  with_edges es = record { elements = es; groups = [] ∷ [] ∷ [] ∷ []; texts = []; own = blank wire_table; writing = []; past = false }

  -- behind an element that is `former`, its place apart
  element-line : (n : ℕ) (es : List Edge) (former : Option Edge) (e : Edge) → last_edge es ≡ map_o bare_edge former → GoodEdge (wire_range S) former e
      → step_in plain_env (line_for next false (line_of (known_of S) (rule_at wire_table e.row) (nums e.values))) (in_wire n (with_edges es)) ≡ got (in_wire (n + 1) (with_edges (es ++ bare_edge e ∷ [])))
  element-line n es former e q g =
      let line = g.line in
      let r = line.rule in
      let ends = joins_ends (join_digit S) in
      rw (row_at line.row (rule_at [] 0))
      (row_line n (with_edges es) e.row r (nums e.values) line.row (line.good (known_of S)) (and_false (is_element_row e.row)) (element-room es e.row g.row)
      ∙ rw (line.alone, g.row, q, joined-bare ends former e.row e.values, g.joins.meets, join-bare ends former e.row, g.joins.join))
    where
      element-room : (es : List Edge) (j : ℕ) → is_element_row j ≡ true → get_or (wire_full (with_edges es)) j false ≡ false
      element-room es zero e = refl
      element-room es (suc zero) e = refl
      element-room es (suc (suc j)) e = clash e (le-ltb (suc (suc j)) first_group_row (omega arith))

  read-edges : (n : ℕ) (es : List Edge) (former : Option Edge) (gs : List Edge) → last_edge es ≡ map_o bare_edge former → GoodEdges (wire_range S) former gs
      → Reads next (in_wire n (with_edges es)) (show_edges (known_of S) gs) (in_wire (taken_edges n gs) (with_edges (es ++ map bare_edge gs)))
  read-edges n es former [] q g = rw (append-nil es) (no_lines next (in_wire n (with_edges es)))
  read-edges n es former (e ∷ gs) q g =
      one_line next (line_of (known_of S) (rule_at wire_table e.row) (nums e.values)) (in_wire n (with_edges es)) (in_wire (n + 1) (with_edges (es ++ bare_edge e ∷ []))) (element-line n es former e q g.0)
      and rw (← append_assoc es (bare_edge e ∷ []) (map bare_edge gs)) (read-edges (n + 1) (es ++ bare_edge e ∷ []) (Some e) gs (last_snoc es (bare_edge e)) g.1)

  -- ── a row that repeats: the wire by the lines of that row, and whether anything but elements has stood ──
  module _ (n : ℕ) (K : List (List Num) → Bool → Wire) (j : ℕ) (not-element : is_element_row j ≡ false) (not-serial : eqb j wire_serial_row ≡ false)
      (held : (b : List (List Num)) (p : Bool) → group_at (K b p) j ≡ b)
      (full : (b : List (List Num)) (p : Bool) → get_or (wire_full (K b p)) j false ≡ group_full j (length b))
      (grows : (b : List (List Num)) (p : Bool) (v : List Num) → with_attribute (K b p) j (nums v) ≡ K (b ++ v ∷ []) true) where
    group-line : (b : List (List Num)) (p : Bool) (v : List Num) → GoodNext (wires_of S) j b v
        → step_in plain_env (line_for next false (line_of (known_of S) (rule_at wire_table j) (nums v))) (in_wire n (K b p)) ≡ got (in_wire n (K (b ++ v ∷ []) true))
    group-line b p v g =
        let line = g.line in
        rw (row_at line.row (rule_at [] 0))
        (row_line n (K b p) j line.rule (nums v) line.row (line.good (known_of S)) (ap (λ t. t && (K b p).past) not-element) (full b p ∙ g.room)
        ∙ rw (line.alone, not-element, not-serial, grows b p v, held b p, g.alike))

    read-group : (b : List (List Num)) (p : Bool) (vs : List (List Num)) → GoodGroup (wires_of S) j b vs
        → Reads next (in_wire n (K b p)) (show_group (known_of S) (rule_at wire_table j) vs) (in_wire n (K (b ++ vs) (p || not (is_nil vs))))
    read-group b p [] g = rw (append-nil b, or-none p) (no_lines next (in_wire n (K b p)))
    read-group b p (v ∷ vs) g =
        one_line next (line_of (known_of S) (rule_at wire_table j) (nums v)) (in_wire n (K b p)) (in_wire n (K (b ++ v ∷ []) true)) (group-line b p v g.0)
        and rw (or_true p, ← append_assoc b (v ∷ []) vs) (read-group (b ++ v ∷ []) true vs g.1)

  -- the three of them
  abbrev grouped : List Edge → List (List (List Num)) → Bool → Wire
  grouped es gs p = record { elements = es; groups = gs; texts = []; own = blank wire_table; writing = []; past = p }

  read-groups : (n : ℕ) (es : List Edge) (a b c : List (List Num)) → GoodGroup (wires_of S) 2 [] a → GoodGroup (wires_of S) 3 [] b → GoodGroup (wires_of S) 4 [] c
      → Reads next (in_wire n (with_edges es)) (show_groups (known_of S) first_group_row (a ∷ b ∷ c ∷ []))
      (in_wire n (grouped es (a ∷ b ∷ c ∷ []) ((not (is_nil a) || not (is_nil b)) || not (is_nil c))))
  read-groups n es a b c x y z =
      read-group n (λ g p. grouped es (g ∷ [] ∷ [] ∷ []) p) 2 refl refl (λ b p. refl) (λ b p. refl) (λ b p v. refl) [] false a x
      and read-group n (λ g p. grouped es (a ∷ g ∷ [] ∷ []) p) 3 refl refl (λ b p. refl) (λ b p. refl) (λ b p v. refl) [] (not (is_nil a)) b y
      and read-group n (λ g p. grouped es (a ∷ b ∷ g ∷ []) p) 4 refl refl (λ b p. refl) (λ b p. refl) (λ b p v. refl) [] (not (is_nil a) || not (is_nil b)) c z

  -- ── its texts ──
  abbrev lettered : List Edge → List (List (List Num)) → List Slots → Bool → Wire
  lettered es gs ss p = record { elements = es; groups = gs; texts = ss; own = blank wire_table; writing = []; past = p }

  abbrev in_text : ℕ → List Edge → List (List (List Num)) → List Slots → Slots → State
  in_text n es gs ss u = placing (retaken n S) m fs 0 (wire_block (record { elements = es; groups = gs; texts = ss; own = blank wire_table; writing = u; past = true })) 1

  opens-text : (n : ℕ) (es : List Edge) (gs : List (List (List Num))) (ss : List Slots) (p : Bool) → reaches (wires_of S) (rule_at wire_table wire_text_row).least ≡ true
      → step_in plain_env (line_for next false (open_line (bytes "text"))) (in_wire n (lettered es gs ss p)) ≡ got (in_text n es gs ss (blank wire_text_table))
  unfolding form_of wire_table
  opens-text n es gs ss p e = rw e

  one-text : (n : ℕ) (es : List Edge) (gs : List (List (List Num))) (ss : List Slots) (p : Bool) (o : Slots) → reaches (wires_of S) (rule_at wire_table wire_text_row).least ≡ true → GoodText true o
      → Reads next (in_wire n (lettered es gs ss p)) (block (bytes "text") (show_slots (known_of S) wire_text_table o no_inner)) (in_wire n (lettered es gs (ss ++ bare_slots o ∷ []) true))
  one-text n es gs ss p o l g =
      let t = wire_text_table in
      let d = text-sound true 4 12 in
      one_line next (open_line (bytes "text")) (in_wire n (lettered es gs ss p)) (in_text n es gs ss (blank t)) (opens-text n es gs ss p l)
      and read-calm next (known_of S) no_inner (Always none0) (λ u. in_text n es gs ss u) t o d.1
      (λ i r v w g u f z. rw (act-entry (known_of S) none0 t i r v w (g (known_of S)) (sound-differ t d.0) (rows_there u) (free-mark u i f) z)) g.good
      and one_line next (bytes "}") (in_text n es gs ss (bare_slots o)) (in_wire n (lettered es gs (ss ++ bare_slots o ∷ []) true)) (rw (close-form, marks-bare o, g.all))

  read-texts : (n : ℕ) (es : List Edge) (gs : List (List (List Num))) (ss : List Slots) (p : Bool) (os : List Slots) → GoodTexts (wires_of S) os
      → Reads next (in_wire n (lettered es gs ss p)) (show_wire_texts (known_of S) os) (in_wire n (lettered es gs (ss ++ map bare_slots os) (p || not (is_nil os))))
  read-texts n es gs ss p [] g = rw (append-nil ss, or-none p) (no_lines next (in_wire n (lettered es gs ss p)))
  read-texts n es gs ss p (o ∷ os) g =
      one-text n es gs ss p o g.0 g.1
      and rw (or_true p, ← append_assoc ss (bare_slots o ∷ []) (map bare_slots os)) (read-texts n es gs (ss ++ bare_slots o ∷ []) true os g.2)

  -- ── the rows that stand once ──
  module _ (n : ℕ) (es : List Edge) (gs : List (List (List Num))) (ss : List Slots) (p : Bool) (own : Slots) (good : GoodSlots (Always (wires_of S)) wire_table own)
      (once : none_below once_rows own ≡ true) (new : none_of (own_number (get_or own wire_serial_row None)) (serials_in S ++ flat (map figure_serial fs)) ≡ true) where
    abbrev owning : Slots → Wire
    owning u = record { elements = es; groups = gs; texts = ss; own = u; writing = []; past = p || any_slot u }

    -- an attribute's number is new: only serial has one
    is-new : (i : ℕ) (v : Value) → get_or own i None ≡ Some v → new_number (retaken n S) fs i (bare_value v) ≡ true
    is-new i v e = go (eqb i wire_serial_row) refl
      where
        go : (b : Bool) → eqb i wire_serial_row ≡ b → (not b || none_of (own_number (Some (bare_value v))) (serials_in S ++ flat (map figure_serial fs))) ≡ true
        go false q = refl
        go true q =
            let z : get_or own wire_serial_row None ≡ Some v = ap (λ (k : ℕ). get_or own k None) (sym (eqb-true i wire_serial_row q)) ∙ e in
            rw (amount-bare v 0) (rw z at new)

    enters-once : (i : ℕ) (r : Rule) (v : Value) → Row wire_table i r → get_or own i None ≡ Some v → Always (wires_of S) r v → (u : Slots) → Free u i
        → step_in plain_env (line_for next false (line_of (known_of S) r v)) (in_wire n (owning u)) ≡ got (in_wire n (owning (set u i (Some (bare_value v)))))
    enters-once i r v at e g u f =
        let l = not-below once_rows i own v once e in
        let later : is_element_row i ≡ false = le-ltb i first_group_row (omega arith) in
        row_line n (owning u) i r v at (g (known_of S)) (ap (λ t. t && (owning u).past) later) (full-once (owning u) i (omega arith) ∙ free-mark u i f)
        ∙ rw (once-calm at l v, later, ne_eqb i num_row (omega arith), is-new i v e, once-alone i (omega arith), any-free u i (bare_value v) f, or_true p)

    read-once : Reads next (in_wire n (owning (blank wire_table))) (show_slots (known_of S) wire_table own no_inner) (in_wire n (owning (bare_slots own)))
    read-once =
        read-slots next (known_of S) no_inner (Always (wires_of S)) (λ u. in_wire n (owning u)) wire_table own good
        (λ i r v at e g u f. entered next (known_of S) no_inner r v (in_wire n (owning u)) (in_wire n (owning (set u i (Some (bare_value v))))) (once-calm at (not-below once_rows i own v once e) v)
        (enters-once i r v at e g u f))

opens-wire : (next : List ℕ) (S : Set) (n m : ℕ) (fs : List Figure) → is_wired S ≡ true
    → step_in plain_env (line_for next false (open_line (bytes "E_wire"))) (figures (retaken n S) (in_layer m) fs) ≡ got (placing (retaken (n + 2) S) m fs 0 (wire_block no_wire) 0)
unfolding form_of layer_table
opens-wire next S n m fs e = rw (e, reaches-none (range_of S))

-- ── the whole wire ──
module _ (next : List ℕ) (S : Set) (n m : ℕ) (fs : List Figure) (w : Wire) (g : GoodWire (wire_range S) w)
    (new : none_of (figure_serial (wired 0 w)) (serials_in S ++ flat (map figure_serial fs)) ≡ true) where
  abbrev taken : ℕ
  taken = taken_edges (n + 2) w.elements

  abbrev h : GoodGroups (wires_of S) w.groups
  h = g.holds.groups

  abbrev es : List Edge
  es = map bare_edge w.elements

  abbrev more : Bool
  more = (not (is_nil h.direcs) || not (is_nil h.piends)) || not (is_nil h.counts)

  abbrev read_again : Wire
  read_again = owning next S m fs taken es w.groups (map bare_slots w.texts) (more || not (is_nil w.texts)) w.own g.holds.own g.holds.once new (bare_slots w.own)

  -- what it had beside its elements is what was written
  past_is : ((more || not (is_nil w.texts)) || any_slot (bare_slots w.own)) ≡ w.past
  past_is =
      ap (λ b. (b || not (is_nil w.texts)) || any_slot (bare_slots w.own)) (or-three (not (is_nil h.direcs)) (not (is_nil h.piends)) (not (is_nil h.counts)) ∙ ap any_line (sym h.are))
      ∙ ap (λ b. (any_line w.groups || not (is_nil w.texts)) || b) (any-bare w.own) ∙ sym g.past

  again-is : read_again ≡ bare_wire w
  again-is =
      ap₂ (λ (p : Bool) (o : Slots). record { elements = es; groups = w.groups; texts = map bare_slots w.texts; own = bare_slots w.own; writing = o; past = p }) past_is (sym (ap bare_slots g.shut))

  shuts : step_in plain_env (line_for next false (bytes "}")) (placing (retaken taken S) m fs 0 (wire_block read_again) 0) ≡ got (figures (retaken taken S) (in_layer m) (fs ++ wired 0 read_again ∷ []))
  shuts = rw (close-form, marks-bare w.own, g.all)

  pub read-wire : is_wired S ≡ true → Reads next (figures (retaken n S) (in_layer m) fs) (block (bytes "E_wire") (show_wire (known_of S) w)) (figures (retaken taken S) (in_layer m) (fs ++ wired 0 (bare_wire w) ∷ []))
  read-wire e =
      one_line next (open_line (bytes "E_wire")) (figures (retaken n S) (in_layer m) fs) (placing (retaken (n + 2) S) m fs 0 (wire_block no_wire) 0) (opens-wire next S n m fs e)
      and read-edges next S m fs (n + 2) [] None w.elements refl g.holds.elements
      and in-groups
      and read-texts next S m fs taken es w.groups [] more w.texts g.holds.texts
      and in-own
      and rw (← again-is) (one_line next (bytes "}") (placing (retaken taken S) m fs 0 (wire_block read_again) 0) (figures (retaken taken S) (in_layer m) (fs ++ wired 0 read_again ∷ [])) shuts)
    where
      in-groups : Reads next (in_wire next S m fs taken (with_edges next S m fs es)) (show_groups (known_of S) first_group_row w.groups) (in_wire next S m fs taken (lettered next S m fs es w.groups [] more))
      in-groups =
          subst (λ (gs : List (List (List Num))). Reads next (in_wire next S m fs taken (with_edges next S m fs es)) (show_groups (known_of S) first_group_row gs) (in_wire next S m fs taken (lettered next S m fs es gs [] more))) (sym h.are)
          (read-groups next S m fs taken es h.direcs h.piends h.counts h.direcs-good h.piends-good h.counts-good)

      in-own : Reads next (in_wire next S m fs taken (lettered next S m fs es w.groups (map bare_slots w.texts) (more || not (is_nil w.texts))))
          (show_slots (known_of S) wire_table w.own no_inner) (in_wire next S m fs taken read_again)
      in-own =
          subst (λ (b : Bool). Reads next (in_wire next S m fs taken (lettered next S m fs es w.groups (map bare_slots w.texts) b)) (show_slots (known_of S) wire_table w.own no_inner) (in_wire next S m fs taken read_again))
          (ap (λ b. (more || not (is_nil w.texts)) || b) (any-blank wire_table) ∙ or-none (more || not (is_nil w.texts)))
          (read-once next S m fs taken es w.groups (map bare_slots w.texts) (more || not (is_nil w.texts)) w.own g.holds.own g.holds.once new)
