-- A line in DRAWING_FORMAT, and in its `layer_name`.
use Rattle.std.specs.Prelude.{Option, Some, None, Result}
use Prim.Native.Nat.{ℕ, zero, suc, ◌+◌, ◌<◌}
use mathlib.Core.Bool.{Bool, true, false, cond, not}
use mathlib.Core.List.{List, [], ◌∷◌, ◌++◌, map, append_assoc, append-nil}
use mathlib.Core.Path.{◌≡◌, refl, sym, ◌∙◌, ap, subst}
use native.Mathlib.Omega.{arith}
use borrow.Author.Tests.{ne_eqb}
use lib.Dec.{eqb, ltb}
use lib.ListN.{length, get_or, set, take, length-set, drop_of_length-le}
use lib.Seq.{get_or-set_same, get_or-set_other, get_or-take, take-set-lt, take-set-le, split_at, length-take-le}
use Rattle.rules.specs.declared.Span.{Span}
use Rattle.rules.specs.Base.{bytes, all, is_none, is_some, among}
use Rattle.rules.specs.RefusalNumbers.{Got, got, unless, and_then}
use Rattle.rules.specs.Lines.{close, keyed, free_shape_of, bytes_at}
use Rattle.rules.specs.RangeClass.{digits_of}
use Rattle.rules.specs.Values.{Value, Known, opens, chars_of, is_layer_id}
use Rattle.rules.specs.Rows.{Rule, row, found, find, Slots, rows_there}
use Rattle.rules.specs.Blocks.{drawing_table, most_layers}
use Rattle.rules.specs.Sets.{Layer, Drawing, Set, with_drawing, with_records, with_layer, with_own, arc_of, known_of}
use Rattle.rules.specs.RecordTable.{rule_at, kind_layer}
use Rattle.rules.specs.Answers.{full_class}
use Rattle.rules.specs.Machine.{Line, Env, State, top, drawing, layer_names, layer_value, taking}
use Rattle.rules.specs.LineByLine.{step_in}
use Rattle.rules.specs.FixedForm.{Text, open_line, block, opens_block, line_of, no_inner, show_slot, show_slots, show_layers, show_drawing}
use Rattle.rules.proofs.Chains.{clash, unless-got, then-got}
use Rattle.rules.proofs.Rows.{Row, row-all, row_below}
use Rattle.tables.specs.Tables.{table_of}
use Rattle.entries.specs.declared.Rest.{Rest}
use Rattle.entries.specs.Shapes.{rest_in}
use Rattle.prints.specs.Reading.{Reads}
use Rattle.promises.proofs.Forms.{table-keys}
use Rattle.promises.proofs.Nameless.{nameless}
use Rattle.pens.specs.declared.Pen.{Pen}
use Rattle.pens.specs.Texts.{ended, Draws}
use Rattle.pens.specs.Moves.{moved, table_for}
use Rattle.pens.specs.Noting.{note_of, Noted, NotedRows}
use Rattle.pens.specs.Keys.{is_brace, KeyDone, KeyLine, NamedLine, PlacedRest}
use Rattle.pens.specs.Closing.{drawing_rows, CloseDone}
use Rattle.pens.specs.Shown.{file_text, drawing_begun, names_text, shown}
use Rattle.pens.specs.Standing.{InDrawing, Here, Pens}
use Rattle.pens.specs.Drawing.{FormFits, LineOut}
use Rattle.pens.proofs.Laying.{on_draws, on_inserts}
use Rattle.volumes.proofs.Acted.{reads_any, acted}
use Rattle.pens.proofs.NotedLaws.{noted-line, set-rows}
use Rattle.pens.proofs.ShownLaws.{opens_nothing, block-parts, slots-more, slots-append, slots-flat, none_more, layers-more, layers-last, block_more}
use Rattle.volumes.proofs.FrontSteps.{took, closed, row_is, unread, draws-line, line-long, still, front-more}
use Rattle.leaves.specs.declared.NoRoom.{NoRoom}

-- ── the rows: seven that are noted, and `layer_name` ──
abbrev rule : ℕ → Rule
rule j = rule_at drawing_table j

abbrev noted_table : List Rule
noted_table = take 7 drawing_table

table-parts : (drawing_table ≡ noted_table ++ rule 7 ∷ []) × (length noted_table ≡ 7) × (all opens_nothing noted_table ≡ true)
unfolding drawing_table
table-parts = (refl, refl, refl)

table-nameless : all (λ r. nameless r.holds) drawing_table ≡ true
unfolding drawing_table
table-nameless = refl

names-row : (K : Known) (v : Value) → (line_of K (rule 7) v ≡ open_line (bytes "layer_name")) × (opens_block (rule 7).holds v ≡ true)
unfolding drawing_table
names-row K v = (refl, refl)

-- which of them a line is, by whether it opens a block
entry_row : (j : ℕ) (r : Rule) (v : Value) → Row drawing_table j r → opens_block r.holds v ≡ false → j < 7
unfolding drawing_table
entry_row j r v w o =
    let n : j ≡ 7 → ⊥ = λ i. clash refl (ap (λ (m : ℕ). opens_block (rule m).holds v) (sym i) ∙ ap (λ (x : Rule). opens_block x.holds v) (sym (row_is w)) ∙ o) in
    omega (arith, row_below w, n)

begin-row : (j : ℕ) (r : Rule) (v : Value) → Row drawing_table j r → opens_block r.holds v ≡ true → (j ≡ 7) × (r ≡ rule 7)
unfolding drawing_table
begin-row j r v w o = go j w (ap (λ (x : Rule). opens_block x.holds v) (sym (row_is w)) ∙ o)
  where
    go : (j : ℕ) → Row drawing_table j r → opens_block (rule j).holds v ≡ true → (j ≡ 7) × (r ≡ rule 7)
    go zero w o = clash o refl
    go (suc zero) w o = clash o refl
    go (suc (suc zero)) w o = clash o refl
    go (suc (suc (suc zero))) w o = clash o refl
    go (suc (suc (suc (suc zero)))) w o = clash o refl
    go (suc (suc (suc (suc (suc zero))))) w o = clash o refl
    go (suc (suc (suc (suc (suc (suc zero)))))) w o = clash o refl
    go (suc (suc (suc (suc (suc (suc (suc zero))))))) w o = (refl, row_is w)
    go (suc (suc (suc (suc (suc (suc (suc (suc j)))))))) w o = absurd (omega (arith, row_below w))

drawing-table : (first : Bool) (p : Pen) (b : Bool) → p.block ≡ 2 → table_of (table_for first p b) ≡ drawing_table
unfolding table_of
drawing-table first p b e = rw e

-- ── what the code does in this block ──
module _ (first b : Bool) (p : Pen) (rest : Rest) (K : Known) (j : ℕ) (r : Rule) (v : Value) (ns ns' out out' : List ℕ) (d : Result Pen NoRoom) (e : p.block ≡ 2) where
  row_done : eqb j 7 ≡ false → KeyDone (table_for first p b) p rest K j r v ns ns' out out' d → Draws [] p.at (still p 2) out out' d × (ns' ≡ set ns (0 + j) (note_of rest))
  row_done n w = (rw (e, n) at w.draws, rw (e, n) at w.notes)

  names-done : KeyDone (table_for first p b) p rest K 7 r v ns ns' out out' d → Draws (ended (line_of K r v)) p.at (moved p (length (ended (line_of K r v))) 3 0) out out' d × (ns' ≡ ns)
  names-done w = (rw e at w.draws, rw e at w.notes)

-- ── DRAWING_FORMAT that is closed: its rows, `layer_name` behind them ──
module _ (K : Known) (dr : Drawing) where
  abbrev inside : ℕ → Text → Text
  inside i rest = show_layers K dr.layers rest

  names-slot : (o : Option Value) (ls : Text) → show_slot K (rule 7) o inside ls ≡ cond (is_some o) (block (bytes "layer_name") (show_layers K dr.layers) []) [] ++ ls
  unfolding drawing_table
  names-slot None ls = refl
  names-slot (Some v) ls = block_more (bytes "layer_name") (show_layers K dr.layers) (layers-more K dr.layers) ls

  abbrev pub rows_text : Text
  rows_text = show_slots K noted_table (take 7 dr.own) no_inner []

  eight-slots : length dr.own ≡ 8 → dr.own ≡ take 7 dr.own ++ get_or dr.own 7 None ∷ []
  eight-slots eight =
      split_at dr.own 7 None (omega (arith, eight)) ∙ ap (λ (u : Slots). take 7 dr.own ++ get_or dr.own 7 None ∷ u) (drop_of_length-le dr.own {i = 8} (omega (arith, eight)))

  pub drawing-text : length dr.own ≡ 8 → show_drawing K dr (bytes "}" ∷ []) ≡ rows_text ++ (names_text K dr ++ bytes "}" ∷ [])
  drawing-text eight =
      let end : Text = bytes "}" ∷ [] in
      let last : Text = show_slots K (rule 7 ∷ []) (get_or dr.own 7 None ∷ []) inside end in
      ap (λ (t : List Rule). show_slots K t dr.own inside end) table-parts.0
      ∙ ap (λ (o : Slots). show_slots K (noted_table ++ rule 7 ∷ []) o inside end) (eight-slots eight)
      ∙ slots-append K inside (λ i. layers-more K dr.layers) noted_table (rule 7 ∷ []) (take 7 dr.own) (get_or dr.own 7 None ∷ [])
      (length-take-le 7 dr.own (omega (arith, eight)) ∙ sym table-parts.1) end
      ∙ slots-flat K inside noted_table table-parts.2 (take 7 dr.own) last
      ∙ slots-more K no_inner (none_more K) noted_table (take 7 dr.own) last
      ∙ ap (λ (u : Text). rows_text ++ u) (names-slot (get_or dr.own 7 None) end)

module _ (K : Known) (spool : List ℕ) (first : Bool) (p : Pen) (ns out : List ℕ) (s : Set) (dr : Drawing) (z : Pens K spool first p ns out (drawing s dr)) (e : Env) (l : Line) (c : e.class ≡ full_class) (st' : State) (q : step_in e l (drawing s dr) ≡ got st') (ns' out' : List ℕ) (d : Result Pen NoRoom) (size : length out' ≡ length out) (many : length ns' ≡ 28) where
  abbrev within : InDrawing K spool first p ns s dr
  within = z.here.1

  abbrev with_row : ℕ → Value → Drawing
  with_row j v = with_own (set dr.own j (Some v)) dr

  -- ── a row is noted ──
  same_names : (j : ℕ) (v : Value) → j < 7 → get_or (with_row j v).own 7 None ≡ get_or dr.own 7 None
  same_names j v m = get_or-set_other dr.own j 7 (Some v) None (λ i. omega (arith, i, m))

  row-shown : (j : ℕ) (v : Value) → j < 7 → shown K first (drawing s (with_row j v)) ≡ shown K first (drawing s dr) ++ []
  row-shown j v m =
      ap (λ (o : Option Value). drawing_begun K s ++ cond (is_some o) (block (bytes "layer_name") (show_layers K dr.layers) []) []) (same_names j v m)
      ∙ sym (append-nil (drawing_begun K s ++ names_text K dr))

  row-noted : (j : ℕ) (v : Value) (n : ℕ) → j < 7 → Noted spool K (rule j) n (Some v) → NotedRows spool K noted_table 0 (set ns (0 + j) n) (take 7 (with_row j v).own)
  row-noted j v n m w =
      subst (NotedRows spool K noted_table 0 (set ns (0 + j) n)) (sym (take-set-lt 7 dr.own j (Some v) m))
      (set-rows spool K noted_table 0 ns (take 7 dr.own) j n v (omega (arith, m, table-parts.1)) (omega (arith, z.many, table-parts.1))
      (subst (λ (r : Rule). Noted spool K r n (Some v)) (sym (get_or-take 7 drawing_table j (row "" (opens 0) 0) m)) w) within.noted)

  row-stands : (j : ℕ) (v : Value) (n : ℕ) → j < 7 → ns' ≡ set ns (0 + j) n → Noted spool K (rule j) n (Some v) → InDrawing K spool first (still p 2) ns' s (with_row j v)
  row-stands j v n m u w = record {
    front = within.front;
    bare = within.bare;
    start = within.start;
    slots = length-set dr.own j (Some v) ∙ within.slots;
    noted = rw u (row-noted j v n m w);
    unnamed = λ i. within.unnamed (ap is_none (sym (same_names j v m)) ∙ i);
  }

  -- ── `layer_name` opens ──
  abbrev named : Value → State
  named v = layer_names s (with_row 7 v)

  names-shown : (v : Value) → get_or dr.own 7 None ≡ None → shown K first (named v) ≡ shown K first (drawing s dr) ++ open_line (bytes "layer_name") ∷ []
  names-shown v a =
      let no_text : names_text K dr ≡ [] = rw a in
      ap (λ (us : List Layer). drawing_begun K s ++ open_line (bytes "layer_name") ∷ show_layers K us []) (within.unnamed (ap is_none a))
      ∙ ap (λ (u : Text). u ++ open_line (bytes "layer_name") ∷ []) (sym (ap (λ (u : Text). drawing_begun K s ++ u) no_text ∙ append-nil (drawing_begun K s)))

  names-stands : (v : Value) (n : ℕ) → InDrawing K spool first (moved p n 3 0) ns s (with_row 7 v) × (is_some (get_or (with_row 7 v).own 7 None) ≡ true)
  names-stands v n =
      let this : get_or (with_row 7 v).own 7 None ≡ Some v = get_or-set_same dr.own 7 (Some v) None (omega (arith, within.slots)) in (
        record {
          front = within.front;
          bare = within.bare;
          start = within.start;
          slots = length-set dr.own 7 (Some v) ∙ within.slots;
          noted = subst (NotedRows spool K noted_table 0 ns) (sym (take-set-le 7 dr.own 7 (Some v) (omega arith))) within.noted;
          unnamed = λ i. clash i (ap is_none this);
        },
        ap is_some this,
      )

  names-drawn : (v : Value) → get_or dr.own 7 None ≡ None → Draws (ended (open_line (bytes "layer_name"))) p.at (moved p (length (ended (open_line (bytes "layer_name")))) 3 0) out out' d → ns' ≡ ns
      → LineOut K spool first (named v) ns' out' d
  names-drawn v a w n =
      let h = names-stands v 14 in
      on_draws K spool first p ns out (drawing s dr) z (open_line (bytes "layer_name") ∷ []) (named v) (moved p 14 3 0) ns' out' d size (names-shown v a) w refl many
      (refl, subst (λ (u : List ℕ). InDrawing K spool first (moved p 14 3 0) u s (with_row 7 v)) (sym n) h.0, h.1)

  pub drawing-key : (key : Span) (rest : Rest) → l.form ≡ keyed (bytes_at spool key) (rest_in spool rest) → PlacedRest rest → FormFits l.form
      → KeyLine spool first key rest p ns ns' out out' d → LineOut K spool first st' ns' out' d
  drawing-key key rest f placed fits does =
      acted (drawing s dr) (λ j v. got (drawing s (with_row j v))) (λ i j v. got (layer_names s (with_row j v))) (got (top (with_drawing dr s) 2))
      (known_of s) (digits_of (arc_of s)) st' drawing_table (rows_there dr.own) (bytes_at spool key) (rest_in spool rest) (table-keys false 0 0).7 (rw f at fits) (rw f at q) ent beg
    where
      -- what the code promises for row j
      done : (j : ℕ) (r : Rule) (v : Value) → find (bytes_at spool key) drawing_table ≡ found j r → Row drawing_table j r → Reads (known_of s) r (rest_in spool rest) v
          → Reads K (rule j) (rest_in spool rest) v × KeyDone (table_for first p (is_brace rest)) p rest K j (rule j) v ns ns' out out' d
      done j r v h w u =
          let u' : Reads K (rule j) (rest_in spool rest) v =
          subst (λ (x : Rule). Reads K x (rest_in spool rest) v) (row_is w) (reads_any (known_of s) K r (rest_in spool rest) v (row-all (λ r. nameless r.holds) w table-nameless) u) in
          (u', does K j (rule j) v (ap (find (bytes_at spool key)) (drawing-table first p (is_brace rest) z.here.0) ∙ h ∙ ap (found j) (row_is w)) u')

      ent : (j : ℕ) (r : Rule) (v : Value) → find (bytes_at spool key) drawing_table ≡ found j r → Row drawing_table j r → Reads (known_of s) r (rest_in spool rest) v
          → opens_block r.holds v ≡ false → get_or (rows_there dr.own) j false ≡ false → got (drawing s (with_row j v)) ≡ got st' → LineOut K spool first st' ns' out' d
      ent j r v h w u o m g =
          let low = entry_row j r v w o in
          let (u', k) = done j r v h w u in
          let (x, n) = row_done first (is_brace rest) p rest K j (rule j) v ns ns' out out' d z.here.0 (ne_eqb j 7 (λ i. omega (arith, i, low))) k in
          let st : drawing s (with_row j v) ≡ st' = cc in
          subst (λ (a : State). LineOut K spool first a ns' out' d) st
          (on_draws K spool first p ns out (drawing s dr) z [] (drawing s (with_row j v)) (still p 2) ns' out' d size (row-shown j v low) x (omega arith) many
          (refl, row-stands j v (note_of rest) low n (noted-line spool K (rule j) rest v placed u')))

      beg : (j : ℕ) (r : Rule) (v : Value) → find (bytes_at spool key) drawing_table ≡ found j r → Row drawing_table j r → Reads (known_of s) r (rest_in spool rest) v
          → opens_block r.holds v ≡ true → get_or (rows_there dr.own) j false ≡ false → got (layer_names s (with_row j v)) ≡ got st' → LineOut K spool first st' ns' out' d
      beg j r v h w u o m g =
          let (j7, r7) = begin-row j r v w o in
          let (u', k) = done j r v h w u in
          let k7 : KeyDone (table_for first p (is_brace rest)) p rest K 7 (rule 7) v ns ns' out out' d = subst (λ (i : ℕ). KeyDone (table_for first p (is_brace rest)) p rest K i (rule i) v ns ns' out out' d) j7 k in
          let (x, n) = names-done first (is_brace rest) p rest K 7 (rule 7) v ns ns' out out' d z.here.0 k7 in
          let st : named v ≡ st' = ap (λ (i : ℕ). layer_names s (with_row i v)) (sym j7) ∙ cc in
          subst (λ (a : State). LineOut K spool first a ns' out' d) st
          (names-drawn v (unread dr.own 7 (ap (λ (i : ℕ). get_or (rows_there dr.own) i false) (sym j7) ∙ m)) (rw (names-row K v).0 at x) n)

  -- ── `}` ──
  close-shown : shown K first (top (with_drawing dr s) 2) ≡ drawing_begun K s ++ (rows_text K dr ++ (names_text K dr ++ bytes "}" ∷ []))
  close-shown =
      ap (λ (u : Text). file_text K true s.now.file ++ open_line (bytes "DRAWING_FORMAT") ∷ u) (drawing-text K dr within.slots)
      ∙ sym (append_assoc (file_text K true s.now.file) (open_line (bytes "DRAWING_FORMAT") ∷ []) (rows_text K dr ++ (names_text K dr ++ bytes "}" ∷ [])))

  pub drawing-close : l.form ≡ close → CloseDone spool first p ns out out' d → ns' ≡ ns → LineOut K spool first st' ns' out' d
  drawing-close f does n =
      let g =
      closed (drawing s dr) (λ j v. got (drawing s (with_row j v))) (λ i j v. got (layer_names s (with_row j v))) (got (top (with_drawing dr s) 2))
      (known_of s) drawing_table (digits_of (arc_of s)) (rows_there dr.own) st' (rw f at q) in
      let st : top (with_drawing dr s) 2 ≡ st' = cc in
      let front = within.front in
      let x : List ℕ = drawing_rows K (take 7 dr.own) in
      subst (λ (a : State). LineOut K spool first a ns' out' d) st
      (on_inserts K spool first p ns out (drawing s dr) z (drawing_begun K s) (names_text K dr) (rows_text K dr) (bytes "}" ∷ []) (top (with_drawing dr s) 2) (moved p (length x + 3) 0 0) ns' out' d size refl close-shown within.start
      (does.drawing z.here.0 K (take 7 dr.own) within.noted) (omega arith) many
      (refl, (record { volume = front.volume; alone = front.alone; empty = front.empty; served = front.served }, within.bare)))

-- ── in `layer_name` ──
module _ (K : Known) (spool : List ℕ) (first : Bool) (p : Pen) (ns out : List ℕ) (s : Set) (dr : Drawing) (z : Pens K spool first p ns out (layer_names s dr)) (e : Env) (l : Line) (c : e.class ≡ full_class) (st' : State) (q : step_in e l (layer_names s dr) ≡ got st') (ns' out' : List ℕ) (d : Result Pen NoRoom) (size : length out' ≡ length out) (many : length ns' ≡ 28) where
  abbrev around : InDrawing K spool first p ns s dr
  around = z.here.1

  -- a layer more
  abbrev layer : List ℕ → Value → Layer
  layer k v = record { line = l.line; id = k; name = v }

  abbrev grown : List ℕ → Value → State
  grown k v = layer_names (with_records (kind_layer ∷ []) s) (with_layer (layer k v) dr)

  layer-shown : (k : List ℕ) (v : Value) → shown K first (grown k v) ≡ shown K first (layer_names s dr) ++ (k ++ 61 ∷ chars_of v) ∷ []
  layer-shown k v =
      ap (λ (u : Text). drawing_begun K s ++ open_line (bytes "layer_name") ∷ u) (layers-last K dr.layers (layer k v))
      ∙ sym (append_assoc (drawing_begun K s) (open_line (bytes "layer_name") ∷ show_layers K dr.layers []) ((k ++ 61 ∷ chars_of v) ∷ []))

  layer-stands : (k : List ℕ) (v : Value) (n : ℕ) → Here K spool first (moved p n 3 0) ns (grown k v)
  layer-stands k v n = (
    refl,
    record {
      front = front-more first (kind_layer ∷ []) s around.front;
      bare = around.bare;
      start = around.start;
      slots = around.slots;
      noted = around.noted;
      unnamed = λ i. clash z.here.2 (ap not i);
    },
    z.here.2,
  )

  pub names_key : (key : Span) (rest : Rest) → l.form ≡ keyed (bytes_at spool key) (rest_in spool rest) → PlacedRest rest → FormFits l.form
      → NamedLine spool key rest p out out' d → ns' ≡ ns → LineOut K spool first st' ns' out' d
  names_key key rest f placed fits does n =
      let k : List ℕ = bytes_at spool key in
      let g3 : Value → Got State = λ v. taking e (kind_layer ∷ []) s λ s'. layer_names s' (with_layer (layer k v) dr) in
      let g2 : Value → Got State = λ v. unless (not (among k (map (λ y. y.id) dr.layers))) 14 (g3 v) in
      let g1 : Value → Got State = λ v. unless (ltb (length dr.layers) most_layers) 11 (g2 v) in
      let value : Got Value = layer_value k (free_shape_of (rest_in spool rest)) in
      let e0 : unless (is_layer_id k) 6 (and_then value g1) ≡ got st' = rw f at q in
      let e1 = (unless-got (is_layer_id k) 6 (and_then value g1) st' e0).1 in
      let (v, read, e2) = then-got value g1 st' e1 in
      let e3 = (unless-got (ltb (length dr.layers) most_layers) 11 (g2 v) st' e2).1 in
      let e4 = (unless-got (not (among k (map (λ y. y.id) dr.layers))) 14 (g3 v) st' e3).1 in
      let x : List ℕ = k ++ 61 ∷ chars_of v in
      let next : Pen = moved p (length (ended x)) 3 0 in
      subst (λ (a : State). LineOut K spool first a ns' out' d) (took e (kind_layer ∷ []) s (λ s'. layer_names s' (with_layer (layer k v) dr)) st' e4)
      (on_draws K spool first p ns out (layer_names s dr) z (x ∷ []) (grown k v) next ns' out' d size (layer-shown k v)
      (draws-line x p.at next out out' d (does v read)) (ap (λ (m : ℕ). p.at + m) (line-long x)) many
      (subst (λ (u : List ℕ). Here K spool first next u (grown k v)) (sym n) (layer-stands k v (length (ended x)))))

  names-close-shown : shown K first (drawing s dr) ≡ shown K first (layer_names s dr) ++ bytes "}" ∷ []
  names-close-shown =
      ap (λ (t : Bool). drawing_begun K s ++ cond t (block (bytes "layer_name") (show_layers K dr.layers) []) []) z.here.2
      ∙ ap (λ (u : Text). drawing_begun K s ++ u) (block-parts (bytes "layer_name") (show_layers K dr.layers) (layers-more K dr.layers))
      ∙ sym (append_assoc (drawing_begun K s) (open_line (bytes "layer_name") ∷ show_layers K dr.layers []) (bytes "}" ∷ []))

  pub names-close : l.form ≡ close → CloseDone spool first p ns out out' d → ns' ≡ ns → LineOut K spool first st' ns' out' d
  names-close f does n =
      let g : got (drawing s dr) ≡ got st' = rw f at q in
      let st : drawing s dr ≡ st' = cc in
      let next : Pen = moved p 3 2 0 in
      subst (λ (a : State). LineOut K spool first a ns' out' d) st
      (on_draws K spool first p ns out (layer_names s dr) z (bytes "}" ∷ []) (drawing s dr) next ns' out' d size names-close-shown (does.names z.here.0) refl many (
        refl,
        subst (λ (u : List ℕ). InDrawing K spool first next u s dr) (sym n) record {
          front = around.front;
          bare = around.bare;
          start = around.start;
          slots = around.slots;
          noted = around.noted;
          unnamed = around.unnamed;
        },
      ))
