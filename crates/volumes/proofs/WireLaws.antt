-- A line in a wire's block.
use Rattle.std.specs.Prelude.{Some, None, Result}
use Prim.Native.Nat.{ℕ, zero, suc, ◌+◌, ◌-◌, ◌≤◌, ◌<◌}
use mathlib.Core.Bool.{Bool, true, false, cond}
use mathlib.Core.List.{List, [], ◌∷◌, ◌++◌, append_assoc}
use mathlib.Core.Path.{◌≡◌, refl, sym, ◌∙◌, ap, subst}
use native.Mathlib.Omega.{arith}
use borrow.Author.Tests.{eqb-true, eqb-false, le-leb, lt-leb, lt-ltb, le-ltb, ne_eqb}
use lib.Dec.{eqb}
use lib.ListN.{length, get_or, set, length-set}
use lib.Seq.{get_or-set_same, get_or-set_other}
use Rattle.rules.specs.declared.Span.{Span}
use Rattle.rules.specs.Base.{bytes}
use Rattle.rules.specs.RefusalNumbers.{got}
use Rattle.rules.specs.Lines.{Form, close, keyed, bytes_at}
use Rattle.rules.specs.RangeClass.{digits, both}
use Rattle.rules.specs.Values.{Num, Value, Known, Kind, nums_of}
use Rattle.rules.specs.Rows.{Rule, Slots, found, find, blank, rows_there, inner_of, complete}
use Rattle.rules.specs.Figures.{text_table, wire_table, wire_text_table}
use Rattle.rules.specs.RecordTable.{rule_at, kind_edge}
use Rattle.rules.specs.Sets.{Edge, Wire, Figure, wired, Set, with_records, join_digit, wires_of, known_of}
use Rattle.rules.specs.Machine.{Line, Env, in_layer, State, figures, placing, wire_block, taking}
use Rattle.rules.specs.Wires.{joins_ends, last_edge, join_of, joined, with_element, group_at, with_texts, is_group_row, with_groups, with_once, with_attribute, nums_alike, new_number, on_element, on_wire_own, on_wire_text}
use Rattle.rules.specs.LineByLine.{step_in}
use Rattle.rules.specs.Answers.{full_class}
use Rattle.rules.specs.FixedForm.{Text, open_line, opens_block, line_of, show_edges, show_group, show_wire_texts, show_wire}
use Rattle.rules.proofs.Chains.{unless-got}
use Rattle.rules.proofs.Rows.{Row, row-all, row_below}
use Rattle.promises.proofs.RowGood.{numbers_only}
use Rattle.tables.specs.Tables.{table_of}
use Rattle.entries.specs.declared.Rest.{Rest as CodeRest}
use Rattle.entries.specs.Shapes.{rest_in}
use Rattle.prints.specs.Reading.{Reads}
use Rattle.pens.specs.declared.Pen.{Pen}
use Rattle.pens.specs.Texts.{ended, line_bytes, Draws}
use Rattle.pens.specs.Moves.{moved, is_opener, at_once, key_pen, table_for}
use Rattle.pens.specs.Noting.{note_of, key_notes, Noted}
use Rattle.pens.specs.Shown.{figures_text}
use Rattle.pens.specs.Standing.{InWire, Pens, Since}
use Rattle.pens.specs.Keys.{is_brace, KeyDone, KeyLine, PlacedRest}
use Rattle.pens.specs.Groups.{WireKeys, keys_text}
use Rattle.pens.specs.Closing.{CloseDone, WireDone, wire_bytes}
use Rattle.pens.specs.Drawing.{FormFits, LineOut}
use Rattle.pens.proofs.Laying.{room, bytes-append, on_draws}
use Rattle.pens.proofs.ShownLaws.{opens_nothing, opens_not, block-parts, edges_more, edges-last, wire-more}
use Rattle.pens.proofs.NotedLaws.{note-some, noted-line}
use Rattle.volumes.proofs.HomeLaws.{shut-did, on-nothing, key-line, key-noted, text-records, text-more}
use Rattle.volumes.proofs.FrontSteps.{took}
use Rattle.volumes.proofs.FigureLaws.{row-nums, no_block}
use Rattle.volumes.proofs.PlacedLaws.{part_draws}
use Rattle.volumes.proofs.WireRows.{row_is, row-ten, number-row, texts-flat, wire-acted, text-acted, key_of, keys-are}
use Rattle.leaves.specs.declared.NoRoom.{NoRoom}

-- ── the pen ──
wire-table : (first : Bool) (p : Pen) (c : Bool) → p.block ≡ 12 → p.part ≡ 0 → table_of (table_for first p c) ≡ wire_table
unfolding table_of
wire-table first p c h i = rw (h, i)

text-table : (first : Bool) (p : Pen) (c : Bool) → p.block ≡ 12 → p.part ≡ 1 → table_of (table_for first p c) ≡ wire_text_table
unfolding table_of
text-table first p c h i = rw (h, i)

module _ (p : Pen) (b12 : p.block ≡ 12) where
  -- an element
  element-once : (j : ℕ) → p.part ≡ 0 → j < 2 → at_once p j ≡ true
  element-once j i l = rw (b12, i, lt-ltb j 2 l)

  element_pen : (j : ℕ) (d : Kind) (o : Bool) (inner n : ℕ) → p.part ≡ 0 → j < 2 → key_pen p j d o inner n ≡ moved p n 12 0
  element_pen j d o inner n i l = rw (b12, i, lt-ltb j 2 l)

  element-notes : (t j : ℕ) (d : Kind) (inner n : ℕ) (ns : List ℕ) → p.part ≡ 0 → j < 2 → key_notes p t j d inner n ns ≡ ns
  element-notes t j d inner n ns i l = rw (b12, i, lt-ltb j 2 l)

  -- another row
  noted-once : (j : ℕ) → p.part ≡ 0 → 2 ≤ j → at_once p j ≡ false
  noted-once j i l = rw (b12, i, le-ltb j 2 l)

  noted_pen : (j : ℕ) (d : Kind) (o : Bool) (inner n : ℕ) → p.part ≡ 0 → 2 ≤ j → is_opener d ≡ false → key_pen p j d o inner n ≡ p
  noted_pen j d o inner n i l x = rw (b12, i, le-ltb j 2 l, x)

  opened_pen : (j : ℕ) (d : Kind) (o : Bool) (inner n : ℕ) → p.part ≡ 0 → 2 ≤ j → is_opener d ≡ true → key_pen p j d o inner n ≡ moved p 0 12 1
  opened_pen j d o inner n i l x = rw (b12, i, le-ltb j 2 l, x)

  noted-notes : (first brace : Bool) (j : ℕ) (d : Kind) (inner n : ℕ) (ns : List ℕ) → p.part ≡ 0 → 2 ≤ j → key_notes p (table_for first p brace) j d inner n ns ≡ set ns (6 + j) n
  noted-notes first brace j d inner n ns i l = rw (b12, i, le-ltb j 2 l)

  -- in its text
  text-once : (j : ℕ) → p.part ≡ 1 → at_once p j ≡ false
  text-once j i = rw (b12, i)

  text_pen : (j : ℕ) (d : Kind) (o : Bool) (inner n : ℕ) → p.part ≡ 1 → is_opener d ≡ false → key_pen p j d o inner n ≡ p
  text_pen j d o inner n i x = rw (b12, i, x)

  text-notes : (first brace : Bool) (j : ℕ) (d : Kind) (inner n : ℕ) (ns : List ℕ) → p.part ≡ 1 → key_notes p (table_for first p brace) j d inner n ns ≡ set ns (4 + j) n
  text-notes first brace j d inner n ns i = rw (b12, i)

five-opener : is_opener (rule_at wire_table 5).holds ≡ true
unfolding wire_table
five-opener = refl

text-two : length wire_text_table ≡ 2
unfolding text_table
text-two = refl

-- ── what is noted of a wire ──
-- other notes are taken
in-wire-notes : (K : Known) (spool : List ℕ) (first : Bool) (p : Pen) (ns ns' : List ℕ) (s : Set) (m : ℕ) (w : Wire) (i : ℕ) → ((j : ℕ) → 2 ≤ j → get_or ns' (6 + j) 0 ≡ get_or ns (6 + j) 0)
    → InWire K spool first p ns s m w i → InWire K spool first p ns' s m w i
in-wire-notes K spool first p ns ns' s m w i same z = record {
  home = z.home;
  part = z.part;
  open-part = z.open-part;
  slots = z.slots;
  others = z.others;
  noted = λ j l h. rw (same j (omega (arith, l))) (z.noted j l h);
  groups = z.groups;
  no-group = λ j l h e. z.no-group j l h (sym (same j l) ∙ e);
  no_text = λ e. z.no_text (sym (same 5 (omega arith)) ∙ e);
}

group-row : (j : ℕ) → 2 ≤ j → j ≤ 4 → is_group_row j ≡ true
group-row j lo hi = rw (le-leb 2 j lo, le-leb j 4 hi)

once-row : (j : ℕ) → 4 < j → is_group_row j ≡ false
once-row j hi = rw (le-leb 2 j (omega (arith, hi)), lt-leb j 4 hi)

-- a row of it is noted
attribute-noted : (K : Known) (spool : List ℕ) (first : Bool) (p : Pen) (ns : List ℕ) (s : Set) (m : ℕ) (w : Wire) (j x : ℕ) (v : Value) → length ns ≡ 28 → 2 ≤ j → j < 10 → (j ≡ 5 → ⊥) → 0 < x
    → Noted spool (known_of s) (rule_at wire_table j) x (Some v) → InWire K spool first p ns s m w 0 → InWire K spool first p (set ns (6 + j) x) s m (with_attribute w j v) 0
attribute-noted K spool first p ns s m w j x v many lo hi ne some-note note z = room j 4 group once
  where
    other : (i : ℕ) → (i ≡ j → ⊥) → get_or (set ns (6 + j) x) (6 + i) 0 ≡ get_or ns (6 + i) 0
    other i f = get_or-set_other ns (6 + j) (6 + i) x 0 (λ q. f (omega (arith, q)))

    mine : get_or (set ns (6 + j) x) (6 + j) 0 ≡ x
    mine = get_or-set_same ns (6 + j) x 0 (omega (arith, many, hi))

    group : j ≤ 4 → InWire K spool first p (set ns (6 + j) x) s m (with_attribute w j v) 0
    group le =
        let gs = set w.groups (j - 2) (group_at w j ++ nums_of v ∷ []) in
        subst (λ (u : Wire). InWire K spool first p (set ns (6 + j) x) s m u 0) (sym (ap (λ (b : Bool). cond b (with_groups gs w) (with_once (set w.own j (Some v)) w)) (group-row j lo le)))
        record {
          home = z.home;
          part = z.part;
          open-part = z.open-part;
          slots = z.slots;
          others = z.others;
          noted = λ i l h. rw (other i (λ q. omega (arith, q, l, le))) (z.noted i l h);
          groups = length-set w.groups (j - 2) (group_at w j ++ nums_of v ∷ []) ∙ z.groups;
          no-group = λ i l h e. by i l h e (eqb i j) refl;
          no_text = λ e. z.no_text (sym (other 5 (λ q. ne (sym q))) ∙ e);
        }
      where
        by : (i : ℕ) → 2 ≤ i → i ≤ 4 → get_or (set ns (6 + j) x) (6 + i) 0 ≡ 0 → (b : Bool) → eqb i j ≡ b → get_or (set w.groups (j - 2) (group_at w j ++ nums_of v ∷ [])) (i - 2) [] ≡ []
        by i l h e true q = let is = eqb-true i j q in absurd (omega (arith, some-note, sym mine ∙ ap (λ (n : ℕ). get_or (set ns (6 + j) x) (6 + n) 0) (sym is) ∙ e))
        by i l h e false q =
            let differ = eqb-false i j q in
            get_or-set_other w.groups (j - 2) (i - 2) (group_at w j ++ nums_of v ∷ []) [] (λ f. differ (omega (arith, f, l, lo)))
            ∙ z.no-group i l h (sym (other i differ) ∙ e)

    once : 4 < j → InWire K spool first p (set ns (6 + j) x) s m (with_attribute w j v) 0
    once gt =
        let gs = set w.groups (j - 2) (group_at w j ++ nums_of v ∷ []) in
        let above : 5 < j = five gt ne in
        subst (λ (u : Wire). InWire K spool first p (set ns (6 + j) x) s m u 0) (sym (ap (λ (b : Bool). cond b (with_groups gs w) (with_once (set w.own j (Some v)) w)) (once-row j gt)))
        record {
          home = z.home;
          part = z.part;
          open-part = z.open-part;
          slots = length-set w.own j (Some v) ∙ z.slots;
          others = λ i l. get_or-set_other w.own j i (Some v) None (λ q. omega (arith, q, l, above)) ∙ z.others i l;
          noted = λ i l h. by i l h (eqb i j) refl;
          groups = z.groups;
          no-group = λ i l h e. z.no-group i l h (sym (other i (λ q. omega (arith, q, h, gt))) ∙ e);
          no_text = λ e. z.no_text (sym (other 5 (λ q. ne (sym q))) ∙ e);
        }
      where
        five : 4 < j → (j ≡ 5 → ⊥) → 5 < j
        five g f = room 6 j (λ a. omega (arith, a)) (λ a. absurd (f (omega (arith, a, g))))

        by : (i : ℕ) → 5 < i → i < 10 → (b : Bool) → eqb i j ≡ b → Noted spool (known_of s) (rule_at wire_table i) (get_or (set ns (6 + j) x) (6 + i) 0) (get_or (set w.own j (Some v)) i None)
        by i l h true q =
            let is = eqb-true i j q in
            rw (is, mine, get_or-set_same w.own j (Some v) None (omega (arith, hi, z.slots))) note
        by i l h false q =
            let differ = eqb-false i j q in
            rw (other i differ, get_or-set_other w.own j i (Some v) None differ) (z.noted i l h)

module _ (K : Known) (spool : List ℕ) (first : Bool) (p : Pen) (ns out : List ℕ) (e : Env) (l : Line) (c : e.class ≡ full_class)
    (st' : State) (ns' out' : List ℕ) (d : Result Pen NoRoom) (size : length out' ≡ length out) (many : length ns' ≡ 28)
    (s : Set) (m : ℕ) (fs : List Figure) (n : ℕ) (w : Wire) where
  abbrev k : Known
  k = known_of s

  abbrev F : Text
  F = figures_text K first s (in_layer m) fs

  abbrev first-line : List ℕ
  first-line = open_line (bytes "E_wire")

  abbrev at : ℕ → State
  at i = placing s m fs n (wire_block w) i

  abbrev to : State → Type 0
  to st = LineOut K spool first st ns' out' d

  -- ── a line with a key ──
  module _ (key : Span) (rest : CodeRest) (form : l.form ≡ keyed (bytes_at spool key) (rest_in spool rest)) (place : PlacedRest rest) (fit : FormFits l.form) (line : KeyLine spool first key rest p ns ns' out out' d) where
    -- directly in the wire
    module _ (z : Pens K spool first p ns out (at 0)) (j : ℕ) (r : Rule) (v : Value) (f : find (bytes_at spool key) wire_table ≡ found j r) (x : Row wire_table j r) (u : Reads k r (rest_in spool rest) v) where
      abbrev b12 : p.block ≡ 12
      b12 = z.here.0

      abbrev old : InWire K spool first p ns s m w 0
      old = z.here.1

      done : KeyDone (table_for first p (is_brace rest)) p rest k j r v ns ns' out out' d
      done = line k j r v (ap (find (bytes_at spool key)) (wire-table first p (is_brace rest) b12 old.part) ∙ f) u

      element : j < 2 → on_element e l s m fs n w j (nums_of v) ≡ got st' → to st'
      element lt a =
          let ends = joins_ends (join_digit s) in
          let former = last_edge w.elements in
          let edge : Edge = record { line = l.line; row = j; values = nums_of v; join = join_of ends former j } in
          let ks : List ℕ = (kind_edge + j) ∷ [] in
          let next : Set → State = λ s'. placing s' m fs n (wire_block (with_element w edge)) 0 in
          let text : List ℕ = line_of k r v in
          let p' = moved p (length (ended text)) 12 0 in
          let notes : ns' ≡ ns = done.notes ∙ element-notes p b12 (table_for first p (is_brace rest)) j r.holds (inner_of r.holds) (note_of rest) ns old.part lt in
          let there : InWire K spool first p' ns (with_records ks s) m (with_element w edge) 0 =
          record { home = (record { volume = old.home.0.volume; served = old.home.0.served }, old.home.1); part = refl; open-part = omega arith; slots = old.slots; others = old.others; noted = old.noted; groups = old.groups; no-group = old.no-group; no_text = old.no_text } in
          subst to (took e ks s next st' (unless-got (joined ends former j (nums_of v)) 11 (taking e ks s next) st' a).1)
          (key-line K spool first p ns out (at 0) z (next (with_records ks s)) p' ns' out' d size many (table_for first p (is_brace rest)) rest k j r v done
          (element-once p b12 j old.part lt) (element_pen p b12 j r.holds (opens_block r.holds v) (inner_of r.holds) (length (ended text)) old.part lt) refl
          (ap (λ (t : Text). t ++ first-line ∷ show_edges k (w.elements ++ edge ∷ []) []) (text-records K first ks s (in_layer m) fs)
          ∙ ap (λ (t : Text). F ++ first-line ∷ t) (edges-last k w.elements edge
          ∙ ap (λ (t : List ℕ). show_edges k w.elements [] ++ t ∷ []) (row-nums x (subst (λ (q : Rule). numbers_only q.holds ≡ true) (row_is x) (number-row j (omega (arith, lt)))) k v))
          ∙ sym (append_assoc F (first-line ∷ show_edges k w.elements []) (text ∷ [])))
          (refl, subst (λ (q : List ℕ). InWire K spool first p' q (with_records ks s) m (with_element w edge) 0) (sym notes) there))

      attribute : 2 ≤ j → (j ≡ 5 → ⊥) → opens_block r.holds v ≡ false → got (placing s m fs n (wire_block (with_attribute w j v)) 0) ≡ got st' → to st'
      attribute lo ne o a =
          let is : placing s m fs n (wire_block (with_attribute w j v)) 0 ≡ st' = cc in
          let notes : ns' ≡ set ns (6 + j) (note_of rest) = done.notes ∙ noted-notes p b12 first (is_brace rest) j r.holds (inner_of r.holds) (note_of rest) ns old.part lo in
          let note : Noted spool k (rule_at wire_table j) (note_of rest) (Some v) = subst (λ (q : Rule). Noted spool k q (note_of rest) (Some v)) (sym (row_is x)) (noted-line spool k r rest v place u) in
          subst to is
          (key-noted K spool first p ns out (at 0) z (placing s m fs n (wire_block (with_attribute w j v)) 0) p ns' out' d size many (table_for first p (is_brace rest)) rest k j r v done
          (noted-once p b12 j old.part lo) (noted_pen p b12 j r.holds (opens_block r.holds v) (inner_of r.holds) 0 old.part lo (no_block r.holds v o)) refl (shows (is_group_row j)) (
            b12,
            subst (λ (q : List ℕ). InWire K spool first p q s m (with_attribute w j v) 0) (sym notes)
                (attribute-noted K spool first p ns s m w j (note_of rest) v z.many lo (row-ten x) ne (note-some rest place) note old),
          ))
        where
          -- it changes no element
          shows : (b : Bool) → F ++ first-line ∷ show_edges k (cond b (with_groups (set w.groups (j - 2) (group_at w j ++ nums_of v ∷ [])) w) (with_once (set w.own j (Some v)) w)).elements [] ≡ F ++ first-line ∷ show_edges k w.elements []
          shows true = refl
          shows false = refl

      opens-text : j ≡ 5 → got (placing s m fs n (wire_block (with_texts w.texts (blank wire_text_table) w)) 1) ≡ got st' → to st'
      opens-text five a =
          let next : State = placing s m fs n (wire_block (with_texts w.texts (blank wire_text_table) w)) 1 in
          let is : next ≡ st' = cc in
          let lo : 2 ≤ j = omega (arith, five) in
          let p' = moved p 0 12 1 in
          let notes : ns' ≡ set ns (6 + j) (note_of rest) = done.notes ∙ noted-notes p b12 first (is_brace rest) j r.holds (inner_of r.holds) (note_of rest) ns old.part lo in
          let opener : is_opener r.holds ≡ true = ap (λ (q : Rule). is_opener q.holds) (sym (row_is x) ∙ ap (rule_at wire_table) five) ∙ five-opener in
          let other : (i : ℕ) → (i ≡ 5 → ⊥) → get_or ns' (6 + i) 0 ≡ get_or ns (6 + i) 0 =
          λ i g. ap (λ (q : List ℕ). get_or q (6 + i) 0) notes ∙ get_or-set_other ns (6 + j) (6 + i) (note_of rest) 0 (λ q. g (omega (arith, q, five))) in
          let mine : get_or ns' (6 + 5) 0 ≡ note_of rest =
          ap (λ (q : List ℕ). get_or q (6 + 5) 0) notes ∙ ap (λ (i : ℕ). get_or (set ns (6 + i) (note_of rest)) (6 + 5) 0) five ∙ get_or-set_same ns (6 + 5) (note_of rest) 0 (omega (arith, z.many)) in
          subst to is
          (key-noted K spool first p ns out (at 0) z next p' ns' out' d size many (table_for first p (is_brace rest)) rest k j r v done
          (noted-once p b12 j old.part lo) (opened_pen p b12 j r.holds (opens_block r.holds v) (inner_of r.holds) 0 old.part lo opener) (omega arith) refl (
            refl,
            record {
              home = (old.home.0, old.home.1);
              part = refl;
              open-part = omega arith;
              slots = old.slots;
              others = old.others;
              noted = λ i a h. rw (other i (λ q. omega (arith, q, a))) (old.noted i a h);
              groups = old.groups;
              no-group = λ i a h q. old.no-group i a h (sym (other i (λ y. omega (arith, y, h))) ∙ q);
              no_text = λ q. absurd (omega (arith, mine, q, note-some rest place));
            },
          ))

    own_key : Pens K spool first p ns out (at 0) → on_wire_own e l s m fs n w (keyed (bytes_at spool key) (rest_in spool rest)) ≡ got st' → to st'
    own_key z q =
        wire-acted e l c s m fs n w (bytes_at spool key) (rest_in spool rest) (subst FormFits form fit) st' z.here.1.home.0.served.1 q
        (λ j r v f x u lt a. element z j r v f x u lt a)
        (λ j r v f x u lo ne o a. attribute z j r v f x u lo ne o (unless-got (new_number s fs j v) 15 _ st' (unless-got (nums_alike w j (nums_of v)) 11 _ st' a).1).1)
        (λ j r v f x u five a. opens-text z j r v f x u five a)

    text-key : Pens K spool first p ns out (at 1) → on_wire_text s m fs n w 1 (keyed (bytes_at spool key) (rest_in spool rest)) ≡ got st' → to st'
    text-key z q =
        text-acted e l c s m fs n w (bytes_at spool key) (rest_in spool rest) (subst FormFits form fit) st' 1 q
        λ j r v f x u a.
        let b12 = z.here.0 in
        let old = z.here.1 in
        let next : State = placing s m fs n (wire_block (with_texts w.texts (set w.writing j (Some v)) w)) 1 in
        let is : next ≡ st' = cc in
        let two : j < 2 = omega (arith, row_below x, text-two) in
        let done = line k j r v (ap (find (bytes_at spool key)) (text-table first p (is_brace rest) b12 old.part) ∙ f) u in
        let notes : ns' ≡ set ns (4 + j) (note_of rest) = done.notes ∙ text-notes p b12 first (is_brace rest) j r.holds (inner_of r.holds) (note_of rest) ns old.part in
        let flat : opens_block r.holds v ≡ false = opens_not r v (row-all opens_nothing x texts-flat) in
        let there : InWire K spool first p ns' s m w 1 =
        in-wire-notes K spool first p ns ns' s m w 1 (λ i lo. ap (λ (q : List ℕ). get_or q (6 + i) 0) notes ∙ get_or-set_other ns (4 + j) (6 + i) (note_of rest) 0 (λ q. omega (arith, q, two, lo))) old in
        subst to is
        (key-noted K spool first p ns out (at 1) z next p ns' out' d size many (table_for first p (is_brace rest)) rest k j r v done
        (text-once p b12 j old.part) (text_pen p b12 j r.holds (opens_block r.holds v) (inner_of r.holds) 0 old.part (no_block r.holds v flat)) refl refl
        (b12, record { home = there.home; part = there.part; open-part = there.open-part; slots = there.slots; others = there.others; noted = there.noted; groups = there.groups; no-group = there.no-group; no_text = there.no_text }))

  pub wire-key : (i : ℕ) → Pens K spool first p ns out (at i) → step_in e l (at i) ≡ got st'
      → (key : Span) (rest : CodeRest) → l.form ≡ keyed (bytes_at spool key) (rest_in spool rest) → PlacedRest rest → FormFits l.form
      → KeyLine spool first key rest p ns ns' out out' d → to st'
  wire-key zero z q key rest form place fit line = own_key key rest form place fit line z (ap (on_wire_own e l s m fs n w) (sym form) ∙ q)
  wire-key (suc zero) z q key rest form place fit line = text-key key rest form place fit line z (ap (on_wire_text s m fs n w 1) (sym form) ∙ q)
  wire-key (suc (suc i)) z q key rest form place fit line = absurd (omega (arith, z.here.1.open-part))

  -- ── `}` ──
  module _ (form : l.form ≡ close) (body : List ℕ) (start from : ℕ) (hs : List Form) (notes : ns' ≡ ns) where
    -- what its keys write
    keys : (z : Pens K spool first p ns out (at 0)) → Since spool body start from (close ∷ hs) k w 0 → WireKeys spool body start from k ns (key_of k w)
    keys z x =
        let old = z.here.1 in
        record {
          lines = x.lines;
          there = x.there;
          passes = λ j lo hi. room j 4 (λ le. rw (le-leb j 4 le) (x.groups j lo le [] refl)) (λ gt. let five : j ≡ 5 = omega (arith, hi, gt) in rw five (x.texts [] refl));
          absent = λ j lo hi q. room j 4
              (λ le. rw (le-leb j 4 le) (ap (λ (vs : List (List Num)). show_group k (rule_at wire_table j) vs []) (old.no-group j lo le q)))
              (λ gt. let five : j ≡ 5 = omega (arith, hi, gt) in rw five (ap (λ (ss : List Slots). show_wire_texts k ss []) (old.no_text (ap (λ (i : ℕ). get_or ns (6 + i) 0) (sym five) ∙ q)).1));
          value = λ j. get_or w.own j None;
          noted = λ j lo hi. old.noted j lo hi;
          once = λ j lo hi. rw (lt-leb j 4 (omega (arith, lo)), ne_eqb j 5 (λ q. omega (arith, q, lo)));
        }

    own-close : (z : Pens K spool first p ns out (at 0)) → Since spool body start from (close ∷ hs) k w 0 → WireDone spool body start from p ns out out' d
        → got (figures s (in_layer m) (fs ++ wired n w ∷ [])) ≡ got st' → to st'
    own-close z x done a =
        let fs' = fs ++ wired n w ∷ [] in
        let is : figures s (in_layer m) fs' ≡ st' = cc in
        let old = z.here.1 in
        let shut : Text = bytes "}" ∷ [] in
        let Y = keys_text (key_of k w) 8 in
        let X = Y ++ shut in
        let p' = moved p (length (line_bytes X)) 8 0 in
        let E = show_edges k w.elements [] in
        let rows : wire_bytes (key_of k w) ≡ line_bytes X = sym (bytes-append Y shut) in
        let whole : show_wire k w [] ≡ E ++ Y = edges_more k w.elements _ ∙ ap (λ (t : Text). E ++ t) (keys-are k w old.groups old.slots old.others) in
        subst to is
        (on_draws K spool first p ns out (at 0) z X (figures s (in_layer m) fs') p' ns' out' d size
        (text-more K first s (in_layer m) fs (wired n w)
        ∙ ap (λ (t : Text). F ++ t) (block-parts (bytes "E_wire") (show_wire k w) (wire-more k w) ∙ ap (λ (t : Text). (first-line ∷ t) ++ shut) whole ∙ append_assoc (first-line ∷ E) Y shut)
        ∙ sym (append_assoc F (first-line ∷ E) X))
        (subst (λ (q : List ℕ). Draws q p.at (moved p (length q) 8 0) out out' d) rows (done z.here.0 old.part k (key_of k w) (keys z x)))
        refl many (refl, old.home))

    text-close : (z : Pens K spool first p ns out (at 1)) → CloseDone spool first p ns out out' d → got (placing s m fs n (wire_block (with_texts (w.texts ++ w.writing ∷ []) [] w)) 0) ≡ got st' → to st'
    text-close z done a =
        let next : State = placing s m fs n (wire_block (with_texts (w.texts ++ w.writing ∷ []) [] w)) 0 in
        let is : next ≡ st' = cc in
        let old = z.here.1 in
        let p' = moved p 0 12 0 in
        let (go, kept) = done.wire-text z.here.0 0 old.part in
        subst to is
        (on-nothing K spool first p ns out (at 1) z next p' ns' out' d size many refl (part_draws p.at p' out out' d z.fits go kept) (omega arith) (
          refl,
          subst (λ (q : List ℕ). InWire K spool first p' q s m (with_texts (w.texts ++ w.writing ∷ []) [] w) 0) (sym notes)
              record {
                home = (old.home.0, old.home.1);
                part = refl;
                open-part = omega arith;
                slots = old.slots;
                others = old.others;
                noted = old.noted;
                groups = old.groups;
                no-group = old.no-group;
                no_text = λ q. absurd (let one : 1 ≡ 0 = (old.no_text q).0 in omega (arith, one));
              },
        ))

    pub wire-close : (i : ℕ) (z : Pens K spool first p ns out (at i)) → Since spool body start from (close ∷ hs) k w i → step_in e l (at i) ≡ got st' → CloseDone spool first p ns out out' d
        → WireDone spool body start from p ns out out' d → to st'
    wire-close zero z x q done wire =
        shut-did (at 0) _ _ _ (complete (both e.class.wires (wires_of s)) wire_table (rows_there w.own)) st' (ap (on_wire_own e l s m fs n w) (sym form) ∙ q) (own-close z x wire)
    wire-close (suc zero) z x q done wire =
        shut-did (at 1) _ _ _ (complete (digits 0 0) wire_text_table (rows_there w.writing)) st' (ap (on_wire_text s m fs n w 1) (sym form) ∙ q) (text-close z done)
    wire-close (suc (suc i)) z x q done wire = absurd (omega (arith, z.here.1.open-part))
