-- A line in ELEMENT.
use Rattle.std.specs.Prelude.{Result}
use Prim.Native.Nat.{ℕ}
use mathlib.Core.Bool.{Bool, true, false, not}
use mathlib.Core.List.{List, [], ◌∷◌, ◌++◌, append_assoc, append-nil}
use mathlib.Core.Path.{◌≡◌, refl, sym, ◌∙◌, ap, subst}
use native.Mathlib.Omega.{arith}
use lib.ListN.{length, get_or}
use Rattle.rules.specs.declared.Span.{Span}
use Rattle.rules.specs.Base.{bytes, has_number}
use Rattle.rules.specs.RefusalNumbers.{got, unless}
use Rattle.rules.specs.Lines.{Rest, close, keyed, Shape, opener, no_content, content, opening, formless, bytes_at}
use Rattle.rules.specs.RangeClass.{digits}
use Rattle.rules.specs.Values.{Num, Value, empty, nums, chars, linked, Known, Kind, layer_id, headed, read_part, read_kind, amount_at, show_content}
use Rattle.rules.specs.Rows.{Rule, found, find, rows_at_limit, fits, shape_for, Act, begin, read_shape, inner_of, complete}
use Rattle.rules.specs.Blocks.{element_table}
use Rattle.rules.specs.Sets.{Set, with_volume, layer_table_of, known_of, used_in}
use Rattle.rules.specs.VolumesAndTotals.{counted_here}
use Rattle.rules.specs.Machine.{Line, Env, in_layer, State, top, elements, figures, on_elements}
use Rattle.rules.specs.LineByLine.{step_in}
use Rattle.rules.specs.Answers.{full_class}
use Rattle.rules.specs.FixedForm.{Text, open_line, opens_block, line_of, show_blocks}
use Rattle.rules.proofs.Chains.{never, clash, map-got, unless-got}
use Rattle.rules.proofs.Rows.{Row, row_at, row_below}
use Rattle.promises.proofs.Forms.{table-keys}
use Rattle.promises.proofs.LengthRows.{is_written}
use Rattle.tables.specs.Tables.{table_of}
use Rattle.entries.specs.declared.Rest.{Rest as CodeRest}
use Rattle.entries.specs.Shapes.{rest_in}
use Rattle.entries.specs.Acts.{value_of}
use Rattle.prints.specs.Reading.{Reads}
use Rattle.pens.specs.declared.Pen.{Pen}
use Rattle.pens.specs.Texts.{ended}
use Rattle.pens.specs.Moves.{moved, among_figures, table_for}
use Rattle.pens.specs.Shown.{front_text, elements_begun, shown}
use Rattle.pens.specs.Standing.{Pens}
use Rattle.pens.specs.Keys.{is_brace, KeyLine, PlacedRest}
use Rattle.pens.specs.Closing.{CloseDone}
use Rattle.pens.specs.Drawing.{FormFits, LineOut}
use Rattle.volumes.proofs.Acted.{acted}
use Rattle.volumes.proofs.HomeLaws.{shut-did, key-line, shut-line, served-volume, volume-table, front-volume}
use Rattle.pens.proofs.ShownLaws.{blocks_more}
use Rattle.leaves.specs.declared.NoRoom.{NoRoom}

-- ── the line of a layer ──
-- what stands behind a key that opens is never empty
head-written : (k : Known) (j : ℕ) (r : Rule) (s : Shape) (a : Act) → r.holds ≡ headed 1 layer_id → fits (headed 1 layer_id) r.may s ≡ true → read_shape k j r s ≡ got a
    → is_written (value_of a) ≡ true
head-written k j r opener a h f e = clash f refl
head-written k j r no_content a h f e = clash f refl
head-written k j r (content at c) a h f e = clash f refl
head-written k j r (opening at c) a h f e =
    let (v, g, q) = map-got (begin (inner_of r.holds) j) (read_kind k r.holds at c) a e in
    let (n, o, w) = map-got (λ (n : Num). nums (n ∷ [])) (read_part k layer_id c) v (ap (λ (d : Kind). read_kind k d at c) (sym h) ∙ g) in
    ap (λ (b : Act). is_written (value_of b)) (sym q) ∙ ap is_written (sym w)
head-written k j r formless a h f e = clash f refl

layer-content : (k : Known) (v : Value) → is_written v ≡ true → show_content k (headed 1 layer_id) v ≡ get_or k.layers (amount_at v 0) []
layer-content k empty e = clash e refl
layer-content k (nums v) e = refl
layer-content k (chars at c) e = refl
layer-content k (linked m ps) e = refl

layer-line : (k : Known) (j : ℕ) (r : Rule) (x : Rest) (v : Value) → Row element_table j r → Reads k r x v
    → line_of k r v ≡ bytes "LAYER=" ++ open_line (get_or k.layers (amount_at v 0) [])
unfolding element_table
layer-line k j r x v w z =
    let i : j ≡ 0 = omega (arith, row_below w) in
    let q : get_or element_table 0 r ≡ r = subst (λ (i : ℕ). get_or element_table i r ≡ r) i (row_at w r) in
    let h : r.holds ≡ headed 1 layer_id = ap (λ (r : Rule). r.holds) (sym q) in
    let written : is_written v ≡ true =
    ap is_written (sym z.value) ∙ head-written k z.number r (shape_for r x) z.act h (ap (λ (d : Kind). fits d r.may (shape_for r x)) (sym h) ∙ z.fit) z.read in
    ap (λ (r : Rule). line_of k r v) (sym q) ∙ ap (λ (c : List ℕ). bytes "LAYER=" ++ open_line c) (layer-content k v written)

element-table : (first : Bool) (p : Pen) (b : Bool) → p.block ≡ 7 → table_of (table_for first p b) ≡ element_table
unfolding table_of
element-table first p b h = rw h

module _ (K : Known) (spool : List ℕ) (first : Bool) (p : Pen) (ns out : List ℕ) (e : Env) (l : Line) (c : e.class ≡ full_class)
    (st' : State) (ns' out' : List ℕ) (d : Result Pen NoRoom) (size : length out' ≡ length out) (many : length ns' ≡ 28)
    (s : Set) (z : Pens K spool first p ns out (elements s)) (q : step_in e l (elements s) ≡ got st') where
  pub elements-key : (key : Span) (rest : CodeRest) → l.form ≡ keyed (bytes_at spool key) (rest_in spool rest) → PlacedRest rest → FormFits l.form
      → KeyLine spool first key rest p ns ns' out out' d → LineOut K spool first st' ns' out' d
  elements-key key rest form placed fit line =
      acted (elements s) _ _ _ (known_of s) (digits 0 0) st' element_table (rows_at_limit 0 element_table) (bytes_at spool key) (rest_in spool rest) (table-keys true 0 0).10
      (subst FormFits form fit) (ap (on_elements s) (sym form) ∙ q)
      (λ j r v f w u o g n. never n)
      opens-layer
    where
      opens-layer : (j : ℕ) (r : Rule) (v : Value) → find (bytes_at spool key) element_table ≡ found j r → Row element_table j r → Reads (known_of s) r (rest_in spool rest) v → opens_block r.holds v ≡ true
          → get_or (rows_at_limit 0 element_table) j false ≡ false → unless (not (has_number (amount_at v 0) (used_in s.now))) 14 (got (figures s (in_layer (amount_at v 0)) [])) ≡ got st'
          → LineOut K spool first st' ns' out' d
      opens-layer j r v f w u o g n =
          let b7 = z.here.0 in
          let w' : List ℕ = line_of (known_of s) r v in
          let is = (unless-got (not (has_number (amount_at v 0) (used_in s.now))) 14 (got (figures s (in_layer (amount_at v 0)) [])) st' n).1 in
          let is' : figures s (in_layer (amount_at v 0)) [] ≡ st' = cc in
          let head = layer-line (known_of s) j r (rest_in spool rest) v w u in
          subst (λ (st : State). LineOut K spool first st ns' out' d) is'
          (key-line K spool first p ns out (elements s) z (figures s (in_layer (amount_at v 0)) []) (among_figures p (length (ended w')) true) ns' out' d size many
          (table_for first p (is_brace rest)) rest (known_of s) j r v (line (known_of s) j r v (ap (find (bytes_at spool key)) (element-table first p (is_brace rest) b7) ∙ f) u)
          (rw b7) (rw b7) refl
          (append-nil _ ∙ ap (λ (a : List ℕ). elements_begun K first s ++ a ∷ []) (sym head))
          (refl, (z.here.1, refl)))

  pub elements-close : l.form ≡ close → CloseDone spool first p ns out out' d → ns' ≡ ns → LineOut K spool first st' ns' out' d
  elements-close form done same =
      shut-did (elements s) _ _ _ (complete (digits 0 0) element_table (rows_at_limit 0 element_table)) st' (ap (on_elements s) (sym form) ∙ q) shuts
    where
      volume : shown K first (top (with_volume s) 4) ≡ shown K first (elements s) ++ bytes "}" ∷ []
      volume =
          let t = layer_table_of s in
          let k = known_of s in
          let us = s.now.blocks in
          ap (λ (f : Text). f ++ (open_line (bytes "ELEMENT") ∷ show_blocks k (layer_table_of (with_volume s)) us (bytes "}" ∷ []))) (front-volume K first s)
          ∙ ap (λ (u : List Rule). front_text K first s ++ (open_line (bytes "ELEMENT") ∷ show_blocks k u us (bytes "}" ∷ []))) (volume-table s)
          ∙ ap (λ (f : Text). front_text K first s ++ (open_line (bytes "ELEMENT") ∷ f)) (blocks_more k t us (bytes "}" ∷ []))
          ∙ sym (append_assoc (front_text K first s) (open_line (bytes "ELEMENT") ∷ show_blocks k t us []) (bytes "}" ∷ []))

      shuts : unless (counted_here s) 17 (got (top (with_volume s) 4)) ≡ got st' → LineOut K spool first st' ns' out' d
      shuts n =
          let is = (unless-got (counted_here s) 17 (got (top (with_volume s) 4)) st' n).1 in
          let is' : top (with_volume s) 4 ≡ st' = cc in
          subst (λ (st : State). LineOut K spool first st ns' out' d) is'
          (shut-line K spool first p ns out (elements s) z (top (with_volume s) 4) (moved p 3 0 0) ns' out' d size many (done.elements z.here.0) refl volume
          (refl, (refl, served-volume s z.here.1.served)))
