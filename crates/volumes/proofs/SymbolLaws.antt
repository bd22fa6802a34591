-- A line in a symbol.
use Rattle.std.specs.Prelude.{Option, Some, None, Result}
use Prim.Native.Nat.{ℕ, zero, suc, ◌+◌, ◌<◌}
use mathlib.Core.Bool.{Bool, true, false, cond}
use mathlib.Core.List.{List, [], ◌∷◌, ◌++◌, append_assoc, append-nil}
use mathlib.Core.Path.{◌≡◌, refl, sym, ◌∙◌, ap, subst}
use native.Mathlib.Omega.{arith}
use lib.ListN.{length, get_or, set, length-set, length-append}
use lib.Seq.{get_or-set_same, get_or-set_other}
use Rattle.rules.specs.declared.Span.{Span}
use Rattle.rules.specs.Base.{bytes, is_none, is_some}
use Rattle.rules.specs.RefusalNumbers.{got, unless}
use Rattle.rules.specs.Lines.{close, keyed, bytes_at}
use Rattle.rules.specs.RangeClass.{digits_of}
use Rattle.rules.specs.Values.{Value, Known}
use Rattle.rules.specs.Rows.{Rule, found, find, Slots, rows_there, inner_of}
use Rattle.rules.specs.Blocks.{symbol_table}
use Rattle.rules.specs.Figures.{figure_table}
use Rattle.rules.specs.Sets.{Symbol, Set, with_symbol, symbol_own, symbol_order, define_range, known_of}
use Rattle.rules.specs.RecordTable.{rule_at}
use Rattle.rules.specs.Answers.{full_class}
use Rattle.rules.specs.Machine.{Line, Env, in_element, State, defines, symbol, hide, figures, new_name, open_symbol}
use Rattle.rules.specs.LineByLine.{step_in}
use Rattle.rules.specs.FixedForm.{Text, open_line, block, opens_block, line_of, show_slot, show_slots, show_figures, show_points, symbol_inner, exchanged, show_symbol, show_symbols}
use Rattle.rules.proofs.Chains.{clash, unless-got}
use Rattle.rules.proofs.Rows.{Row, row_below}
use Rattle.tables.specs.Tables.{table_of}
use Rattle.entries.specs.declared.Rest.{Rest}
use Rattle.entries.specs.Shapes.{rest_in}
use Rattle.prints.specs.Reading.{Reads}
use Rattle.promises.proofs.Forms.{table-keys}
use Rattle.promises.proofs.Nameless.{nameless}
use Rattle.pens.specs.declared.Pen.{Pen}
use Rattle.pens.specs.Texts.{ended, line_bytes, Draws, Inserts}
use Rattle.pens.specs.Moves.{moved, among_figures, table_for}
use Rattle.pens.specs.Noting.{note_of, Noted}
use Rattle.pens.specs.Keys.{is_brace, KeyDone, KeyLine, PlacedRest}
use Rattle.pens.specs.Closing.{shut_bytes, row_bytes, CloseDone}
use Rattle.pens.specs.Shown.{top_text, defines_begun, symbol_begun, shown_part, hidden_part, parts_text, shown}
use Rattle.pens.specs.Standing.{InSymbol, InElement, InHide, Pens}
use Rattle.pens.specs.Drawing.{FormFits, LineOut}
use Rattle.pens.proofs.Laying.{bytes-append, on_draws, on_inserts}
use Rattle.volumes.proofs.Acted.{reads_any, acted}
use Rattle.pens.proofs.NotedLaws.{noted-line}
use Rattle.pens.proofs.ShownLaws.{block_more, points-more, figures-more, symbols-last}
use Rattle.volumes.proofs.FrontSteps.{closed, row_is, unread, still}
use Rattle.leaves.specs.declared.NoRoom.{NoRoom}

-- ── the four rows ──
abbrev rule : ℕ → Rule
rule j = rule_at symbol_table j

rules-nameless : (nameless (rule 0).holds ≡ true) × (nameless (rule 1).holds ≡ true) × (nameless (rule 2).holds ≡ true) × (nameless (rule 3).holds ≡ true)
unfolding symbol_table
rules-nameless = (refl, refl, refl, refl)

-- which of them open a block, and the lines of those
rules_open : (v : Value) → (opens_block (rule 0).holds v ≡ false) × (opens_block (rule 1).holds v ≡ true) × (opens_block (rule 2).holds v ≡ true) × (opens_block (rule 3).holds v ≡ false)
unfolding symbol_table
rules_open v = (refl, refl, refl, refl)

rules-inner : (K : Known) (v : Value)
    → (inner_of (rule 1).holds ≡ 1) × (inner_of (rule 2).holds ≡ 2) × (line_of K (rule 1) v ≡ open_line (bytes "element")) × (line_of K (rule 2) v ≡ open_line (bytes "hide"))
unfolding symbol_table
rules-inner K v = (refl, refl, refl, refl)

four-rows : {j : ℕ} {r : Rule} → Row symbol_table j r → j < 4
unfolding symbol_table
four-rows w = row_below w

symbol-table : (first : Bool) (p : Pen) (b : Bool) → p.block ≡ 5 → table_of (table_for first p b) ≡ symbol_table
unfolding table_of
symbol-table first p b e = rw e

-- ── what the code does in this block ──
module _ (first b : Bool) (p : Pen) (rest : Rest) (K : Known) (r : Rule) (v : Value) (ns ns' out out' : List ℕ) (d : Result Pen NoRoom) (e : p.block ≡ 5) where
  name_done : KeyDone (table_for first p b) p rest K 0 r v ns ns' out out' d → Draws [] p.at (still p 5) out out' d × (ns' ≡ set ns 0 (note_of rest))
  name_done w = (rw e at w.draws, rw e at w.notes)

  wall-done : KeyDone (table_for first p b) p rest K 3 r v ns ns' out out' d → Draws [] p.at (still p 5) out out' d × (ns' ≡ set ns 3 (note_of rest))
  wall-done w = (rw e at w.draws, rw e at w.notes)

  element-done : KeyDone (table_for first p b) p rest K 1 r v ns ns' out out' d
      → Draws (ended (line_of K r v)) p.at (among_figures p (length (ended (line_of K r v))) false) out out' d × (ns' ≡ ns)
  element-done w = (rw e at w.draws, rw e at w.notes)

  hide-done : KeyDone (table_for first p b) p rest K 2 r v ns ns' out out' d
      → Draws (ended (line_of K r v)) p.at (moved p (length (ended (line_of K r v))) 6 0) out out' d × (ns' ≡ ns)
  hide-done w = (rw e at w.draws, rw e at w.notes)

-- ── what is shown of `element` and `hide` ──
module _ (K : Known) (y : Symbol) where
  -- it does not depend on the other rows
  same_parts : (o : Slots) → get_or o 1 None ≡ get_or y.own 1 None → get_or o 2 None ≡ get_or y.own 2 None → parts_text K (symbol_own o y) ≡ parts_text K y
  same_parts o a b = rw (a, b)

  -- `hide` alone, `element` alone
  hidden-alone : get_or y.own 1 None ≡ None → parts_text K y ≡ hidden_part K y
  hidden-alone a = go y.hide_first
    where
      gone : shown_part K y ≡ []
      gone = rw a

      go : (t : Bool) → cond t (hidden_part K y ++ shown_part K y) (shown_part K y ++ hidden_part K y) ≡ hidden_part K y
      go true = ap (λ (u : Text). hidden_part K y ++ u) gone ∙ append-nil (hidden_part K y)
      go false = ap (λ (u : Text). u ++ hidden_part K y) gone

  shown-alone : get_or y.own 2 None ≡ None → parts_text K y ≡ shown_part K y
  shown-alone a = go y.hide_first
    where
      gone : hidden_part K y ≡ []
      gone = rw a

      go : (t : Bool) → cond t (hidden_part K y ++ shown_part K y) (shown_part K y ++ hidden_part K y) ≡ shown_part K y
      go true = ap (λ (u : Text). u ++ shown_part K y) gone
      go false = ap (λ (u : Text). shown_part K y ++ u) gone ∙ append-nil (shown_part K y)

-- ── a symbol that is closed: its name, `element` and `hide` in the order written, `wall` ──
abbrev row_text : Known → Rule → Option Value → Text
row_text K r None = []
row_text K r (Some v) = line_of K r v ∷ []

row-bytes : (K : Known) (r : Rule) (o : Option Value) → line_bytes (row_text K r o) ≡ row_bytes K r o
row-bytes K r None = refl
row-bytes K r (Some v) = append-nil (ended (line_of K r v))

four-slots : (o : Slots) → length o ≡ 4 → o ≡ get_or o 0 None ∷ get_or o 1 None ∷ get_or o 2 None ∷ get_or o 3 None ∷ []
four-slots [] e = absurd (omega (arith, e))
four-slots (a ∷ []) e = absurd (omega (arith, e))
four-slots (a ∷ b ∷ []) e = absurd (omega (arith, e))
four-slots (a ∷ b ∷ c ∷ []) e = absurd (omega (arith, e))
four-slots (a ∷ b ∷ c ∷ w ∷ []) e = refl
four-slots (a ∷ b ∷ c ∷ w ∷ x ∷ o) e = absurd (omega (arith, e))

module _ (K : Known) (y : Symbol) where
  abbrev element_text : Option Value → Text
  element_text o = cond (is_some o) (block (bytes "element") (show_figures K false figure_table y.figures) []) []

  abbrev hide_text : Option Value → Text
  hide_text o = cond (is_some o) (block (bytes "hide") (show_points K false y.hidden) []) []

  name-slot : (o : Option Value) (ls : Text) → show_slot K (rule 0) o (symbol_inner K y) ls ≡ row_text K (rule 0) o ++ ls
  unfolding symbol_table
  name-slot None ls = refl
  name-slot (Some v) ls = refl

  wall-slot : (o : Option Value) (ls : Text) → show_slot K (rule 3) o (symbol_inner K y) ls ≡ row_text K (rule 3) o ++ ls
  unfolding symbol_table
  wall-slot None ls = refl
  wall-slot (Some v) ls = refl

  element-slot : (o : Option Value) (ls : Text) → show_slot K (rule 1) o (symbol_inner K y) ls ≡ element_text o ++ ls
  unfolding symbol_table
  element-slot None ls = refl
  element-slot (Some v) ls = block_more (bytes "element") (show_figures K false figure_table y.figures) (figures-more K false figure_table y.figures) ls

  hide-slot : (o : Option Value) (ls : Text) → show_slot K (rule 2) o (symbol_inner K y) ls ≡ hide_text o ++ ls
  unfolding symbol_table
  hide-slot None ls = refl
  hide-slot (Some v) ls = block_more (bytes "hide") (show_points K false y.hidden) (points-more K false y.hidden) ls

  rows-order : (t : Bool) (a b c w : Option Value) (ls : Text)
      → show_slots K (exchanged t symbol_table) (exchanged t (a ∷ b ∷ c ∷ w ∷ [])) (symbol_inner K y) ls
      ≡ row_text K (rule 0) a ++ (cond t (hide_text c ++ element_text b) (element_text b ++ hide_text c) ++ (row_text K (rule 3) w ++ ls))
  unfolding symbol_table
  rows-order true a b c w ls =
      name-slot a (show_slot K (rule 2) c (symbol_inner K y) (show_slot K (rule 1) b (symbol_inner K y) (show_slot K (rule 3) w (symbol_inner K y) ls)))
      ∙ ap (λ (u : Text). row_text K (rule 0) a ++ u)
      (hide-slot c (show_slot K (rule 1) b (symbol_inner K y) (show_slot K (rule 3) w (symbol_inner K y) ls))
      ∙ ap (λ (u : Text). hide_text c ++ u) (element-slot b (show_slot K (rule 3) w (symbol_inner K y) ls) ∙ ap (λ (u : Text). element_text b ++ u) (wall-slot w ls))
      ∙ sym (append_assoc (hide_text c) (element_text b) (row_text K (rule 3) w ++ ls)))
  rows-order false a b c w ls =
      name-slot a (show_slot K (rule 1) b (symbol_inner K y) (show_slot K (rule 2) c (symbol_inner K y) (show_slot K (rule 3) w (symbol_inner K y) ls)))
      ∙ ap (λ (u : Text). row_text K (rule 0) a ++ u)
      (element-slot b (show_slot K (rule 2) c (symbol_inner K y) (show_slot K (rule 3) w (symbol_inner K y) ls))
      ∙ ap (λ (u : Text). element_text b ++ u) (hide-slot c (show_slot K (rule 3) w (symbol_inner K y) ls) ∙ ap (λ (u : Text). hide_text c ++ u) (wall-slot w ls))
      ∙ sym (append_assoc (element_text b) (hide_text c) (row_text K (rule 3) w ++ ls)))

  abbrev pub name_text : Text
  name_text = row_text K (rule 0) (get_or y.own 0 None)

  abbrev pub end_text : Text
  end_text = row_text K (rule 3) (get_or y.own 3 None) ++ bytes "}" ∷ []

  pub symbol-text : length y.own ≡ 4 → show_symbol K y [] ≡ open_line (bytes "E_symbol") ∷ (name_text ++ (parts_text K y ++ end_text))
  symbol-text four =
      ap (λ (u : Text). open_line (bytes "E_symbol") ∷ u)
      (ap (λ (o : Slots). show_slots K (exchanged y.hide_first symbol_table) (exchanged y.hide_first o) (symbol_inner K y) (bytes "}" ∷ [])) (four-slots y.own four)
      ∙ rows-order y.hide_first (get_or y.own 0 None) (get_or y.own 1 None) (get_or y.own 2 None) (get_or y.own 3 None) (bytes "}" ∷ []))

module _ (K : Known) (spool : List ℕ) (first : Bool) (p : Pen) (ns out : List ℕ) (s : Set) (y : Symbol) (z : Pens K spool first p ns out (symbol s y)) (e : Env) (l : Line) (c : e.class ≡ full_class) (st' : State) (q : step_in e l (symbol s y) ≡ got st') (ns' out' : List ℕ) (d : Result Pen NoRoom) (size : length out' ≡ length out) (many : length ns' ≡ 28) where
  abbrev within : InSymbol K spool first p ns s y
  within = z.here.1

  abbrev with_row : ℕ → Value → Symbol
  with_row j v = symbol_own (set y.own j (Some v)) y

  -- another row is as it was
  other-slot : (j i : ℕ) (v : Value) → (i ≡ j → ⊥) → get_or (with_row j v).own i None ≡ get_or y.own i None
  other-slot j i v n = get_or-set_other y.own j i (Some v) None n

  this-slot : (j : ℕ) (v : Value) → j < 4 → get_or (with_row j v).own j None ≡ Some v
  this-slot j v m = get_or-set_same y.own j (Some v) None (omega (arith, m, within.slots))

  -- ── `name` and `wall` are noted ──
  noted-shown : (j : ℕ) (v : Value) → (1 ≡ j → ⊥) → (2 ≡ j → ⊥) → shown K first (symbol s (with_row j v)) ≡ shown K first (symbol s y) ++ []
  noted-shown j v a b =
      ap (λ (u : Text). symbol_begun K s ++ u) (same_parts K y (with_row j v).own (other-slot j 1 v a) (other-slot j 2 v b)) ∙ sym (append-nil (symbol_begun K s ++ parts_text K y))

  noted-drawn : (j : ℕ) (v : Value) → (1 ≡ j → ⊥) → (2 ≡ j → ⊥) → Draws [] p.at (still p 5) out out' d → InSymbol K spool first (still p 5) ns' s (with_row j v)
      → LineOut K spool first (symbol s (with_row j v)) ns' out' d
  noted-drawn j v a b w h =
      on_draws K spool first p ns out (symbol s y) z [] (symbol s (with_row j v)) (still p 5) ns' out' d size (noted-shown j v a b) w (omega arith) many (refl, h)

  -- its `element` and `hide` are as they were
  noted-order : (j : ℕ) (v : Value) → (1 ≡ j → ⊥) → (2 ≡ j → ⊥) → is_none (get_or (with_row j v).own 1 None) ≡ true → is_some (get_or (with_row j v).own 2 None) ≡ true → y.hide_first ≡ true
  noted-order j v a b m n = within.order (ap is_none (sym (other-slot j 1 v a)) ∙ m) (ap is_some (sym (other-slot j 2 v b)) ∙ n)

  name-stands : (v : Value) (n : ℕ) → ns' ≡ set ns 0 n → Noted spool K (rule 0) n (Some v) → InSymbol K spool first (still p 5) ns' s (with_row 0 v)
  name-stands v n m w = record {
    front = within.front;
    start = within.start;
    slots = length-set y.own 0 (Some v) ∙ within.slots;
    name = rw (m, get_or-set_same ns 0 n 0 (omega (arith, z.many)), this-slot 0 v (omega arith)) w;
    wall = rw (m, get_or-set_other ns 0 3 n 0 (λ a. omega (arith, a)), other-slot 0 3 v (λ a. omega (arith, a))) within.wall;
    order = noted-order 0 v (λ a. omega (arith, a)) (λ a. omega (arith, a));
  }

  wall-stands : (v : Value) (n : ℕ) → ns' ≡ set ns 3 n → Noted spool K (rule 3) n (Some v) → InSymbol K spool first (still p 5) ns' s (with_row 3 v)
  wall-stands v n m w = record {
    front = within.front;
    start = within.start;
    slots = length-set y.own 3 (Some v) ∙ within.slots;
    name = rw (m, get_or-set_other ns 3 0 n 0 (λ a. omega (arith, a)), other-slot 3 0 v (λ a. omega (arith, a))) within.name;
    wall = rw (m, get_or-set_same ns 3 n 0 (omega (arith, z.many)), this-slot 3 v (omega arith)) w;
    order = noted-order 3 v (λ a. omega (arith, a)) (λ a. omega (arith, a));
  }

  -- ── `element` opens ──
  abbrev among : Value → State
  among v = figures s (in_element (with_row 1 v)) []

  element-shown : (v : Value) → get_or y.own 1 None ≡ None → shown K first (among v) ≡ shown K first (symbol s y) ++ open_line (bytes "element") ∷ []
  element-shown v a =
      append-nil (symbol_begun K s ++ hidden_part K (with_row 1 v) ++ open_line (bytes "element") ∷ [])
      ∙ ap (λ (u : Text). symbol_begun K s ++ u ++ open_line (bytes "element") ∷ [])
      (ap (λ (o : Option Value). cond (is_some o) (block (bytes "hide") (show_points K false y.hidden) []) []) (other-slot 1 2 v (λ i. omega (arith, i))) ∙ sym (hidden-alone K y a))

  element-stands : (v : Value) (n : ℕ) → get_or y.own 1 None ≡ None → InElement K spool first (among_figures p n false) ns s (with_row 1 v)
  element-stands v n a = record {
    in-symbol = record {
      front = within.front;
      start = within.start;
      slots = length-set y.own 1 (Some v) ∙ within.slots;
      name = rw (other-slot 1 0 v (λ i. omega (arith, i))) within.name;
      wall = rw (other-slot 1 3 v (λ i. omega (arith, i))) within.wall;
      order = λ i m. clash i (ap is_none (this-slot 1 v (omega arith)));
    };
    layered = refl;
    read = ap is_some (this-slot 1 v (omega arith));
    order = λ i. within.order (ap is_none a) (ap is_some (sym (other-slot 1 2 v (λ i. omega (arith, i)))) ∙ i);
  }

  element-drawn : (v : Value) → get_or y.own 1 None ≡ None → Draws (ended (open_line (bytes "element"))) p.at (among_figures p (length (ended (open_line (bytes "element")))) false) out out' d → ns' ≡ ns
      → LineOut K spool first (among v) ns' out' d
  element-drawn v a w n =
      on_draws K spool first p ns out (symbol s y) z (open_line (bytes "element") ∷ []) (among v) (among_figures p 11 false) ns' out' d size (element-shown v a) w refl many
      (refl, subst (λ (u : List ℕ). InElement K spool first (among_figures p 11 false) u s (with_row 1 v)) (sym n) (element-stands v 11 a))

  -- ── `hide` opens ──
  abbrev ordered : Value → Symbol
  ordered v = symbol_order (is_none (get_or (with_row 2 v).own 1 None)) (with_row 2 v)

  hide-shown : (v : Value) → get_or y.own 2 None ≡ None → shown K first (hide s (ordered v) []) ≡ shown K first (symbol s y) ++ open_line (bytes "hide") ∷ []
  hide-shown v a =
      ap (λ (u : Text). symbol_begun K s ++ u ++ open_line (bytes "hide") ∷ [])
      (ap (λ (o : Option Value). cond (is_some o) (block (bytes "element") (show_figures K false figure_table y.figures) []) []) (other-slot 2 1 v (λ i. omega (arith, i))) ∙ sym (shown-alone K y a))

  hide-stands : (v : Value) (n : ℕ) → InHide K spool first (moved p n 6 0) ns s (ordered v)
  hide-stands v n = record {
    in-symbol = record {
      front = within.front;
      start = within.start;
      slots = length-set y.own 2 (Some v) ∙ within.slots;
      name = rw (other-slot 2 0 v (λ i. omega (arith, i))) within.name;
      wall = rw (other-slot 2 3 v (λ i. omega (arith, i))) within.wall;
      order = λ i m. i;
    };
    read = ap is_some (this-slot 2 v (omega arith));
    order = refl;
  }

  hide-drawn : (v : Value) → get_or y.own 2 None ≡ None → Draws (ended (open_line (bytes "hide"))) p.at (moved p (length (ended (open_line (bytes "hide")))) 6 0) out out' d → ns' ≡ ns
      → LineOut K spool first (hide s (ordered v) []) ns' out' d
  hide-drawn v a w n =
      on_draws K spool first p ns out (symbol s y) z (open_line (bytes "hide") ∷ []) (hide s (ordered v) []) (moved p 8 6 0) ns' out' d size (hide-shown v a) w refl many
      (refl, subst (λ (u : List ℕ). InHide K spool first (moved p 8 6 0) u s (ordered v)) (sym n) (hide-stands v 8))

  pub symbol-key : (key : Span) (rest : Rest) → l.form ≡ keyed (bytes_at spool key) (rest_in spool rest) → PlacedRest rest → FormFits l.form
      → KeyLine spool first key rest p ns ns' out out' d → LineOut K spool first st' ns' out' d
  symbol-key key rest f placed fits does =
      acted (symbol s y) (λ j v. unless (new_name s (with_row j v)) 15 (got (symbol s (with_row j v)))) (λ i j v. open_symbol s (with_row j v) i) (got (defines (with_symbol y s) false))
      (known_of s) (digits_of (define_range s)) st' symbol_table (rows_there y.own) (bytes_at spool key) (rest_in spool rest) (table-keys false 0 0).9 (rw f at fits) (rw f at q) ent beg
    where
      -- what the code promises for row j
      done : (j : ℕ) (r : Rule) (v : Value) → find (bytes_at spool key) symbol_table ≡ found j r → Row symbol_table j r → Reads (known_of s) r (rest_in spool rest) v → nameless (rule j).holds ≡ true
          → Reads K (rule j) (rest_in spool rest) v × KeyDone (table_for first p (is_brace rest)) p rest K j (rule j) v ns ns' out out' d
      done j r v h w u plain =
          let u' : Reads K (rule j) (rest_in spool rest) v = reads_any (known_of s) K (rule j) (rest_in spool rest) v plain (subst (λ (x : Rule). Reads (known_of s) x (rest_in spool rest) v) (row_is w) u) in
          (u', does K j (rule j) v (ap (find (bytes_at spool key)) (symbol-table first p (is_brace rest) z.here.0) ∙ h ∙ ap (found j) (row_is w)) u')

      ent : (j : ℕ) (r : Rule) (v : Value) → find (bytes_at spool key) symbol_table ≡ found j r → Row symbol_table j r → Reads (known_of s) r (rest_in spool rest) v
          → opens_block r.holds v ≡ false → get_or (rows_there y.own) j false ≡ false → unless (new_name s (with_row j v)) 15 (got (symbol s (with_row j v))) ≡ got st' → LineOut K spool first st' ns' out' d
      ent zero r v h w u o m g =
          let (u', k) = done 0 r v h w u rules-nameless.0 in
          let (x, n) = name_done first (is_brace rest) p rest K (rule 0) v ns ns' out out' d z.here.0 k in
          let g' = (unless-got (new_name s (with_row 0 v)) 15 (got (symbol s (with_row 0 v))) st' g).1 in
          let st : symbol s (with_row 0 v) ≡ st' = cc in
          subst (λ (a : State). LineOut K spool first a ns' out' d) st
          (noted-drawn 0 v (λ i. omega (arith, i)) (λ i. omega (arith, i)) x (name-stands v (note_of rest) n (noted-line spool K (rule 0) rest v placed u')))
      ent (suc zero) r v h w u o m g = clash (rules_open v).1 (ap (λ (x : Rule). opens_block x.holds v) (sym (row_is w)) ∙ o)
      ent (suc (suc zero)) r v h w u o m g = clash (rules_open v).2 (ap (λ (x : Rule). opens_block x.holds v) (sym (row_is w)) ∙ o)
      ent (suc (suc (suc zero))) r v h w u o m g =
          let (u', k) = done 3 r v h w u rules-nameless.3 in
          let (x, n) = wall-done first (is_brace rest) p rest K (rule 3) v ns ns' out out' d z.here.0 k in
          let g' = (unless-got (new_name s (with_row 3 v)) 15 (got (symbol s (with_row 3 v))) st' g).1 in
          let st : symbol s (with_row 3 v) ≡ st' = cc in
          subst (λ (a : State). LineOut K spool first a ns' out' d) st
          (noted-drawn 3 v (λ i. omega (arith, i)) (λ i. omega (arith, i)) x (wall-stands v (note_of rest) n (noted-line spool K (rule 3) rest v placed u')))
      ent (suc (suc (suc (suc j)))) r v h w u o m g = absurd (omega (arith, four-rows w))

      beg : (j : ℕ) (r : Rule) (v : Value) → find (bytes_at spool key) symbol_table ≡ found j r → Row symbol_table j r → Reads (known_of s) r (rest_in spool rest) v
          → opens_block r.holds v ≡ true → get_or (rows_there y.own) j false ≡ false → open_symbol s (with_row j v) (inner_of r.holds) ≡ got st' → LineOut K spool first st' ns' out' d
      beg zero r v h w u o m g = clash (ap (λ (x : Rule). opens_block x.holds v) (sym (row_is w)) ∙ o) (rules_open v).0
      beg (suc zero) r v h w u o m g =
          let (u', k) = done 1 r v h w u rules-nameless.1 in
          let (x, n) = element-done first (is_brace rest) p rest K (rule 1) v ns ns' out out' d z.here.0 k in
          let g' : got (among v) ≡ got st' = ap (open_symbol s (with_row 1 v)) (sym (ap (λ (x : Rule). inner_of x.holds) (row_is w) ∙ (rules-inner K v).0)) ∙ g in
          let st : among v ≡ st' = cc in
          subst (λ (a : State). LineOut K spool first a ns' out' d) st (element-drawn v (unread y.own 1 m) (rw (rules-inner K v).2 at x) n)
      beg (suc (suc zero)) r v h w u o m g =
          let (u', k) = done 2 r v h w u rules-nameless.2 in
          let (x, n) = hide-done first (is_brace rest) p rest K (rule 2) v ns ns' out out' d z.here.0 k in
          let g' : got (hide s (ordered v) []) ≡ got st' = ap (open_symbol s (with_row 2 v)) (sym (ap (λ (x : Rule). inner_of x.holds) (row_is w) ∙ (rules-inner K v).1)) ∙ g in
          let st : hide s (ordered v) [] ≡ st' = cc in
          subst (λ (a : State). LineOut K spool first a ns' out' d) st (hide-drawn v (unread y.own 2 m) (rw (rules-inner K v).3 at x) n)
      beg (suc (suc (suc zero))) r v h w u o m g = clash (ap (λ (x : Rule). opens_block x.holds v) (sym (row_is w)) ∙ o) (rules_open v).3
      beg (suc (suc (suc (suc j)))) r v h w u o m g = absurd (omega (arith, four-rows w))

  -- ── `}` ──
  abbrev with_symbols : State
  with_symbols = defines (with_symbol y s) false

  close-shown : shown K first with_symbols ≡ symbol_begun K s ++ (name_text K y ++ (parts_text K y ++ end_text K y))
  close-shown =
      let ahead : Text = top_text K true s 2 in
      let head : List ℕ = open_line (bytes "SYMBOL_DEFINE") in
      ap (λ (u : Text). ahead ++ head ∷ u) (symbols-last K s.symbols y ∙ ap (λ (u : Text). show_symbols K s.symbols [] ++ u) (symbol-text K y within.slots))
      ∙ sym (append_assoc ahead (head ∷ show_symbols K s.symbols []) (open_line (bytes "E_symbol") ∷ (name_text K y ++ (parts_text K y ++ end_text K y))))
      ∙ sym (append_assoc (defines_begun K s false) (open_line (bytes "E_symbol") ∷ []) (name_text K y ++ (parts_text K y ++ end_text K y)))

  end-bytes : line_bytes (end_text K y) ≡ row_bytes K (rule 3) (get_or y.own 3 None) ++ shut_bytes
  end-bytes = bytes-append (row_text K (rule 3) (get_or y.own 3 None)) (bytes "}" ∷ []) ∙ ap (λ (u : List ℕ). u ++ shut_bytes) (row-bytes K (rule 3) (get_or y.own 3 None))

  pub symbol-close : l.form ≡ close → CloseDone spool first p ns out out' d → ns' ≡ ns → LineOut K spool first st' ns' out' d
  symbol-close f does n =
      let g =
      closed (symbol s y) (λ j v. unless (new_name s (with_row j v)) 15 (got (symbol s (with_row j v)))) (λ i j v. open_symbol s (with_row j v) i) (got (defines (with_symbol y s) false))
      (known_of s) symbol_table (digits_of (define_range s)) (rows_there y.own) st' (rw f at q) in
      let st : with_symbols ≡ st' = cc in
      let a : List ℕ = row_bytes K (rule 0) (get_or y.own 0 None) in
      let b : List ℕ = row_bytes K (rule 3) (get_or y.own 3 None) in
      let next : Pen = moved p (length a + (length b + 3)) 4 0 in
      let w : Inserts a (b ++ shut_bytes) p.start p.at next out out' d = does.symbol z.here.0 K (get_or y.own 0 None) (get_or y.own 3 None) within.name within.wall in
      let w' : Inserts (line_bytes (name_text K y)) (line_bytes (end_text K y)) p.start p.at next out out' d = rw (row-bytes K (rule 0) (get_or y.own 0 None), end-bytes) w in
      let front = within.front in
      subst (λ (a : State). LineOut K spool first a ns' out' d) st
      (on_inserts K spool first p ns out (symbol s y) z (symbol_begun K s) (parts_text K y) (name_text K y) (end_text K y) with_symbols next ns' out' d size refl close-shown within.start w'
      (omega (arith, ap length (row-bytes K (rule 0) (get_or y.own 0 None)), ap length end-bytes, length-append b shut_bytes)) many
      (refl, record { volume = front.volume; alone = front.alone; empty = front.empty; served = front.served }, λ i. clash i refl))
