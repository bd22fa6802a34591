-- A line among figures, in a symbol's `element` or in a layer.
use Rattle.std.specs.Prelude.{Option, Some, None, Result}
use Prim.Native.Nat.{ℕ, zero, suc, ◌≤◌, ◌<◌, ◌+◌, ◌-◌}
use mathlib.Core.Bool.{Bool, true, false, cond, ◌&&◌, not}
use mathlib.Core.List.{List, [], ◌∷◌, ◌++◌, append_assoc, append-nil}
use mathlib.Core.Path.{◌≡◌, refl, sym, ◌∙◌, ap, subst}
use native.Mathlib.Omega.{arith}
use borrow.Author.Tests.{leb-true}
use lib.Dec.{leb}
use lib.ListN.{length, get_or, set}
use lib.Seq.{get_or-set_other}
use Rattle.rules.specs.declared.Class.{Class}
use Rattle.rules.specs.declared.Span.{Span}
use Rattle.rules.specs.Base.{bytes, all, same, is_nil, is_some}
use Rattle.rules.specs.RefusalNumbers.{got}
use Rattle.rules.specs.Lines.{Rest, brace, equals, close, keyed, stem, by_stem, shape_of, bytes_at}
use Rattle.rules.specs.Values.{Value, nums, Known, Kind, values, text, word, volume_name, sheet, ratio, serials, wire_serial, symbol_circle, nothing, opens, headed, either, nums_of}
use Rattle.rules.specs.Rows.{Rule, row, repeated, any_number, found, find, blank, rows_at_limit, fits, shape_for, is_opener as opens_shape, inner_of, complete}
use Rattle.rules.specs.Blocks.{blank_held}
use Rattle.rules.specs.Figures.{plain_rows, block_rows, placed_row, wire_rows, any_of, layer_table, figure_table, text_table, placed_tables, wire_table}
use Rattle.rules.specs.RecordTable.{rule_at, kind_line, kind_successive, kind_text, kind_placed, kind_wire, kind_wire_more}
use Rattle.rules.specs.Sets.{Figure, plain, Symbol, LayerBlock, Set, with_records, with_block, symbol_figures, range_of, is_single, is_wired, known_of, layer_table_of}
use Rattle.rules.specs.Machine.{Line, Env, Home, in_element, in_layer, State, symbol, elements, figures, successive, texts, placing, is_layer, home_table, taking, open_figure, on_figures, close_figures}
use Rattle.rules.specs.Wires.{group_at}
use Rattle.rules.specs.LineByLine.{step_in}
use Rattle.rules.specs.Answers.{full_class}
use Rattle.rules.specs.FixedForm.{Text, open_line, opens_block, behind, line_of, block, show_figures, show_blocks}
use Rattle.rules.specs.Machine.{symbol_block, wire_block, no_wire, begin_wire, kind_in}
use Rattle.rules.specs.RangeClass.{knows_wires}
use Rattle.rules.proofs.Chains.{never, clash, same-eq, and_left, and_right, unless-got}
use Rattle.rules.proofs.Rows.{Row, here, there, found-row, row-all, row_at, row_below, row-find}
use Rattle.promises.proofs.Forms.{key_ok, keys_ok}
use Rattle.promises.proofs.Nameless.{nameless}
use Rattle.promises.proofs.RowGood.{numbers_only}
use Rattle.promises.proofs.LengthRows.{behind-nums, figure_rows}
use Rattle.promises.proofs.LengthBlocks.{plain-tables}
use Rattle.tables.specs.Tables.{table_of}
use Rattle.entries.specs.declared.Rest.{Rest as CodeRest}
use Rattle.entries.specs.declared.Rest.TheVariants as R
use Rattle.entries.specs.Shapes.{rest_in}
use Rattle.prints.specs.Reading.{Reads}
use Rattle.pens.specs.declared.Pen.{Pen}
use Rattle.pens.specs.Texts.{ended, Draws}
use Rattle.pens.specs.Moves.{moved, is_opener, figure_block, table_for}
use Rattle.pens.specs.Noting.{text_forgotten, figure_notes, Noted, NotedRows, NotedParts}
use Rattle.pens.specs.Shown.{front_text, symbol_begun, hidden_part, parts_text, home_known, figures_text, shown}
use Rattle.pens.specs.Standing.{Body, InHome, InWire, Here, Pens}
use Rattle.pens.specs.Keys.{is_brace, KeyDone, KeyLine, PlacedRest}
use Rattle.pens.specs.Closing.{shut_bytes, CloseDone}
use Rattle.pens.specs.Drawing.{FormFits, LineOut}
use Rattle.volumes.proofs.Acted.{acted, reads_any}
use Rattle.volumes.proofs.HomeLaws.{shut-did, key-line, shut-line, served-block, block-table, front-block, text-records, text-more, rows-table, symbol-at, home_at, home-records}
use Rattle.volumes.proofs.FrontSteps.{took}
use Rattle.pens.proofs.NotedLaws.{zeros-at, blank-text, blank-parts, blank-long, blank-at}
use Rattle.pens.proofs.ShownLaws.{block-parts, figures-more, blocks-one, blocks_last}
use Rattle.leaves.specs.declared.NoRoom.{NoRoom}

-- ── the table of figures ──
-- what has `=` is no opener alone
no-opener : (at : ℕ) (c : List ℕ) → opens_shape (shape_of (equals at c)) ≡ false
no-opener at [] = refl
no-opener at (b ∷ c) = go (stem (b ∷ c))
  where
    go : (o : Option (List ℕ)) → opens_shape (by_stem at (b ∷ c) o) ≡ false
    go None = refl
    go (Some []) = refl
    go (Some (x ∷ t)) = refl

-- a row of a table stands in another that differs in one row alone, or is that row
row_other : {P : Type 0} (t : List Rule) (a b : Rule) (u : List Rule) {j : ℕ} {r : Rule} → Row (t ++ a ∷ u) j r → (Row (t ++ b ∷ u) j r → P) → (r ≡ a → P) → P
row_other [] a b u here f g = g refl
row_other [] a b u (there w) f g = f (there w)
row_other (q ∷ t) a b u here f g = f here
row_other (q ∷ t) a b u (there w) f g = row_other t a b u w (λ x. f (there x)) g

-- and in one that has more rows behind its own
row_before : (t u : List Rule) {j : ℕ} {r : Rule} → Row t j r → Row (t ++ u) j r
row_before [] u w = absurd (omega (arith, row_below w))
row_before (q ∷ t) u here = here
row_before (q ∷ t) u (there w) = there (row_before t u w)

-- where wires may stand the table has their row behind the others
wires-found : (b w : Bool) (key : List ℕ) (j : ℕ) (r : Rule) → find key (layer_table b w) ≡ found j r → find key (layer_table b true) ≡ found j r
unfolding layer_table
wires-found b true key j r f = f
wires-found b false key j r f =
    let (w, q) = found-row key (layer_table b false) j r f in
    ap (λ (u : List ℕ). find u (layer_table b true)) (same-eq key r.key q) ∙ row-find (row_before (layer_table b false) (any_of (wire_rows true)) w) refl

-- by what a placed symbol is the tables of a layer differ in it alone
layer-found : (b c : Bool) (key : List ℕ) (j : ℕ) (r : Rule) → find key (layer_table b true) ≡ found j r
    → (r ≡ repeated any_number (placed_row b) → find key (layer_table c true) ≡ found j r) → find key (layer_table c true) ≡ found j r
unfolding layer_table
layer-found b c key j r f g =
    let (w, q) = found-row key (layer_table b true) j r f in
    let same_key : key ≡ r.key = same-eq key r.key q in
    row_other (any_of (plain_rows true ++ block_rows)) (repeated any_number (placed_row b)) (repeated any_number (placed_row c)) (any_of (wire_rows true)) w
    (λ w'. ap (λ (u : List ℕ). find u (layer_table c true)) same_key ∙ row-find w' refl) g

-- whose kind fits the form of its line alone
figure-found : (b w : Bool) (key : List ℕ) (spool : List ℕ) (rest : CodeRest) (k : Known) (j : ℕ) (r : Rule) (v : Value) → find key (layer_table b w) ≡ found j r → Reads k r (rest_in spool rest) v
    → find key (table_of (cond (is_brace rest) 21 22)) ≡ found j r
unfolding table_of
figure-found true w key spool R.Brace k j r v f z =
    layer-found true false key j r (wires-found true w key j r f) λ q. clash (ap (λ (r : Rule). fits r.holds r.may (shape_for r brace)) (sym q) ∙ z.fit) refl
figure-found true w key spool (R.Equals p) k j r v f z = wires-found true w key j r f
figure-found false w key spool R.Brace k j r v f z = wires-found false w key j r f
figure-found false w key spool (R.Equals p) k j r v f z =
    layer-found false true key j r (wires-found false w key j r f)
    λ q. clash (ap (λ (r : Rule). fits r.holds r.may (shape_for r (equals p.at (bytes_at spool p)))) (sym q) ∙ z.fit) (no-opener p.at (bytes_at spool p))

-- ── rows of figures ──
-- the key of a figure that is a block
abbrev figure_key : ℕ → List ℕ
figure_key zero = []
figure_key (suc zero) = bytes "successive"
figure_key (suc (suc zero)) = bytes "text"
figure_key (suc (suc (suc zero))) = bytes "E_symbol"
figure_key (suc (suc (suc (suc i)))) = bytes "E_wire"

abbrev opens_as : List ℕ → Kind → Bool
opens_as key (values p ps a) = true
opens_as key (text n b) = false
opens_as key (word n b) = false
opens_as key volume_name = false
opens_as key sheet = false
opens_as key ratio = false
opens_as key serials = false
opens_as key wire_serial = false
opens_as key symbol_circle = true
opens_as key nothing = false
opens_as key (opens i) = same key (figure_key i) && leb i 4
opens_as key (headed i p) = false
opens_as key (either i) = false

home-rows : (s : Set) (h : Home) → (keys_ok (home_table s h) ≡ true) × (figure_rows (home_table s h) ≡ true) × (all (λ r. opens_as r.key r.holds) (home_table s h) ≡ true)
unfolding figure_table layer_table
home-rows s (in_element y) = (refl, refl, refl)
home-rows s (in_layer k) = in-layer (is_single s) (is_wired s)
  where
    in-layer : (b w : Bool) → (keys_ok (layer_table b w) ≡ true) × (figure_rows (layer_table b w) ≡ true) × (all (λ r. opens_as r.key r.holds) (layer_table b w) ≡ true)
    in-layer true true = (refl, refl, refl)
    in-layer true false = (refl, refl, refl)
    in-layer false true = (refl, refl, refl)
    in-layer false false = (refl, refl, refl)

-- a row that opens is one of these
opens-figure : {P : Type 0} (key : List ℕ) (d : Kind) (v : Value) → opens_as key d ≡ true → opens_block d v ≡ true → ((i : ℕ) → d ≡ opens i → key ≡ figure_key i → i ≤ 4 → P) → P
opens-figure key (values p ps a) v e o f = clash o refl
opens-figure key (text n b) v e o f = clash o refl
opens-figure key (word n b) v e o f = clash o refl
opens-figure key volume_name v e o f = clash o refl
opens-figure key sheet v e o f = clash o refl
opens-figure key ratio v e o f = clash o refl
opens-figure key serials v e o f = clash o refl
opens-figure key wire_serial v e o f = clash o refl
opens-figure key symbol_circle v e o f = clash o refl
opens-figure key nothing v e o f = clash o refl
opens-figure key (opens i) v e o f =
    f i refl (same-eq key (figure_key i) (and_left (same key (figure_key i)) _ e)) (leb-true i 4 (and_right (same key (figure_key i)) _ e))
opens-figure key (headed i p) v e o f = clash e refl
opens-figure key (either i) v e o f = clash e refl

-- one that does not is no opener
pub no_block : (d : Kind) (v : Value) → opens_block d v ≡ false → is_opener d ≡ false
no_block (values p ps a) v o = refl
no_block (text n b) v o = refl
no_block (word n b) v o = refl
no_block volume_name v o = refl
no_block sheet v o = refl
no_block ratio v o = refl
no_block serials v o = refl
no_block wire_serial v o = refl
no_block symbol_circle v o = refl
no_block nothing v o = refl
no_block (opens i) v o = clash refl o
no_block (headed i p) v o = refl
no_block (either i) v o = refl

-- its values are kept as numbers
pub row-nums : {t : List Rule} {j : ℕ} {r : Rule} → Row t j r → numbers_only r.holds ≡ true → (k : Known) (v : Value) → line_of k (rule_at t j) (nums (nums_of v)) ≡ line_of k r v
row-nums {r = r} w e k v =
    ap (λ (q : Rule). line_of k q (nums (nums_of v))) (row_at w (row "" (opens 0) 0)) ∙ ap (λ (u : List ℕ). r.key ++ u) (behind-nums k r.holds v e)

pub nums-line : {t : List Rule} {j : ℕ} {r : Rule} → Row t j r → figure_rows t ≡ true → (k : Known) (v : Value) → line_of k (rule_at t j) (nums (nums_of v)) ≡ line_of k r v
nums-line w e k v = row-nums w (row-all (λ r. numbers_only r.holds) w e) k v

pub text-rows : (b : Bool) → length (text_table b 4 12) ≤ 2
unfolding text_table
text-rows b = omega arith

wire-ten : length wire_table ≡ 10
unfolding wire_table
wire-ten = refl

-- a wire of which nothing was read
pub new-wire : (K : Known) (first : Bool) (spool : List ℕ) (p : Pen) (ns : List ℕ) (s : Set) (m : ℕ) → InHome K spool first p ns s (in_layer m) → p.part ≡ 0 → ((i : ℕ) → get_or ns i 0 ≡ 0)
    → InWire K spool first p ns s m no_wire 0
new-wire K first spool p ns s m home part zeros = record {
  home = home;
  part = part;
  open-part = omega arith;
  slots = blank-long wire_table ∙ wire-ten;
  others = λ j _. blank-at wire_table j;
  noted = λ j l h. subst (Noted spool (known_of s) (rule_at wire_table j) (get_or ns (6 + j) 0)) (sym (blank-at wire_table j)) (zeros (6 + j));
  groups = refl;
  no-group = λ j l h _. none_yet j;
  no_text = λ _. (refl, refl);
}
  where
    none_yet : (j : ℕ) → group_at no_wire j ≡ []
    none_yet j = at (j - 2)
      where
        at : (i : ℕ) → get_or no_wire.groups i [] ≡ []
        at zero = refl
        at (suc zero) = refl
        at (suc (suc zero)) = refl
        at (suc (suc (suc i))) = refl

-- ── at home ──
module _ (K : Known) (spool : List ℕ) (first : Bool) where
  -- the row that the definitions find is the one that the code finds
  home_found : (p : Pen) (ns : List ℕ) (s : Set) (h : Home) (key : List ℕ) (rest : CodeRest) (j : ℕ) (r : Rule) (v : Value) → p.block ≡ 8 → InHome K spool first p ns s h
      → find key (home_table s h) ≡ found j r → Reads (known_of s) r (rest_in spool rest) v → find key (table_of (table_for first p (is_brace rest))) ≡ found j r
  unfolding table_of
  home_found p ns s (in_element y) key rest j r v b z f u = rw (b, z.layered) f
  home_found p ns s (in_layer m) key rest j r v b z f u = rw (b, z.1) (figure-found (is_single s) (is_wired s) key spool rest (known_of s) j r v f u)

  -- what is read there is read at home
  pub home-reads : (s : Set) (h : Home) (j : ℕ) (r : Rule) (x : Rest) (v : Value) → Row (home_table s h) j r → Reads (known_of s) r x v → Reads (home_known K s h) r x v
  home-reads s (in_element y) j r x v w z =
      reads_any (known_of s) K r x v (and_right (key_ok r.key) _ (row-all (λ r. key_ok r.key && nameless r.holds) w (plain-tables true 0 0).4)) z
  home-reads s (in_layer m) j r x v w z = z

  -- the notes of a symbol's rows stay
  text-keeps : (ns : List ℕ) (i : ℕ) → i < 4 → get_or (text_forgotten ns) i 0 ≡ get_or ns i 0
  text-keeps ns i l = get_or-set_other (set ns 4 0) 5 i 0 0 (omega arith) ∙ get_or-set_other ns 4 i 0 0 (omega arith)

  module _ (p : Pen) (ns out : List ℕ) (e : Env) (l : Line) (c : e.class ≡ full_class)
      (st' : State) (ns' out' : List ℕ) (d : Result Pen NoRoom) (size : length out' ≡ length out) (many : length ns' ≡ 28) where
    -- a figure that is a block
    opened : (s : Set) (h : Home) (fs : List Figure) (z : Pens K spool first p ns out (figures s h fs)) (i : ℕ) (w : List ℕ) → i ≤ 4 → open_figure e l s h fs i ≡ got st'
        → ns' ≡ figure_notes (figure_block (opens i) i) ns → w ≡ open_line (figure_key i)
        → ((st : State) → shown K first st ≡ shown K first (figures s h fs) ++ w ∷ [] → Here K spool first (moved p (length (ended w)) (figure_block (opens i) i) 0) ns' st → LineOut K spool first st ns' out' d)
        → LineOut K spool first st' ns' out' d
    opened s h fs z zero w le q notes key draws = never q
    opened s h fs z (suc zero) w le q notes key draws =
        let p' = moved p (length (ended w)) 9 0 in
        let st : State = successive (with_records (kind_in h kind_successive ∷ []) s) h fs l.line [] in
        let same : (i : ℕ) → get_or ns' i 0 ≡ get_or ns i 0 = λ i. ap (λ (u : List ℕ). get_or u i 0) notes in
        subst (λ (st : State). LineOut K spool first st ns' out' d) (took e (kind_in h kind_successive ∷ []) s (λ s'. successive s' h fs l.line []) st' q)
        (draws st (ap (λ (t : Text). t ++ open_line (bytes "successive") ∷ []) (text-records K first (kind_in h kind_successive ∷ []) s h fs) ∙ ap (λ (u : List ℕ). figures_text K first s h fs ++ u ∷ []) (sym key))
        (refl, home-records K first spool p' ns' (kind_in h kind_successive ∷ []) s h (home_at K first spool p p' ns ns' s h refl refl (same 0) (same 3) z.here.1)))
    opened s h fs z (suc (suc zero)) w le q notes key draws =
        let p' = moved p (length (ended w)) 10 0 in
        let t = text_table (is_layer h) 4 12 in
        let st : State = texts (with_records (kind_in h kind_text ∷ []) s) h fs l.line (blank t) in
        let same : (i : ℕ) → i < 4 → get_or ns' i 0 ≡ get_or ns i 0 = λ i l. ap (λ (u : List ℕ). get_or u i 0) notes ∙ text-keeps ns i l in
        subst (λ (st : State). LineOut K spool first st ns' out' d) (took e (kind_in h kind_text ∷ []) s (λ s'. texts s' h fs l.line (blank t)) st' q)
        (draws st (ap (λ (t : Text). t ++ open_line (bytes "text") ∷ []) (text-records K first (kind_in h kind_text ∷ []) s h fs) ∙ ap (λ (u : List ℕ). figures_text K first s h fs ++ u ∷ []) (sym key)) (
          refl,
          home-records K first spool p' ns' (kind_in h kind_text ∷ []) s h (home_at K first spool p p' ns ns' s h refl refl (same 0 (omega arith)) (same 3 (omega arith)) z.here.1),
          subst (λ (u : List ℕ). NotedRows spool (home_known K (with_records (kind_in h kind_text ∷ []) s) h) t 4 u (blank t)) (sym notes)
              (blank-text spool (home_known K (with_records (kind_in h kind_text ∷ []) s) h) t ns (text-rows (is_layer h)) (omega (arith, z.many))),
        ))
    opened s (in_element y) fs z (suc (suc (suc zero))) w le q notes key draws = never q
    opened s (in_layer m) fs z (suc (suc (suc zero))) w le q notes key draws =
        let p' = moved p (length (ended w)) 11 0 in
        let o = blank_held placed_tables in
        let st : State = placing (with_records (kind_placed ∷ []) s) m fs l.line (symbol_block o) 0 in
        let body : Body first s = z.here.1.0 in
        subst (λ (st : State). LineOut K spool first st ns' out' d) (took e (kind_placed ∷ []) s (λ s'. placing s' m fs l.line (symbol_block o) 0) st' q)
        (draws st (ap (λ (t : Text). t ++ open_line (bytes "E_symbol") ∷ []) (text-records K first (kind_placed ∷ []) s (in_layer m) fs) ∙ ap (λ (u : List ℕ). figures_text K first s (in_layer m) fs ++ u ∷ []) (sym key)) (
          refl,
          record {
            home = (record { volume = body.volume; served = body.served }, z.here.1.1);
            part = refl;
            open-part = omega arith;
            noted = subst (λ (u : List ℕ). NotedParts spool (known_of s) 18 u o) (sym notes) (blank-parts spool (known_of s) 18 ns);
          },
        ))
    opened s (in_element y) fs z (suc (suc (suc (suc zero)))) w le q notes key draws = never q
    opened s (in_layer m) fs z (suc (suc (suc (suc zero)))) w le q notes key draws =
        let p' = moved p (length (ended w)) 12 0 in
        let ks : List ℕ = kind_wire ∷ kind_wire_more ∷ [] in
        let st : State = placing (with_records ks s) m fs l.line (wire_block no_wire) 0 in
        let begun : st ≡ st' = ap (λ (x : Class). begin_wire (knows_wires x) (with_records ks s) m fs l.line) (sym c) ∙ took e ks s (λ s'. begin_wire (knows_wires e.class) s' m fs l.line) st' q in
        let body : Body first s = z.here.1.0 in
        subst (λ (st : State). LineOut K spool first st ns' out' d) begun
        (draws st (ap (λ (t : Text). t ++ open_line (bytes "E_wire") ∷ []) (text-records K first ks s (in_layer m) fs) ∙ ap (λ (u : List ℕ). figures_text K first s (in_layer m) fs ++ u ∷ []) (sym key)) (
          refl,
          new-wire K first spool p' ns' (with_records ks s) m (record { volume = body.volume; served = body.served }, z.here.1.1) refl
              (λ i. ap (λ (u : List ℕ). get_or u i 0) notes ∙ zeros-at (length ns) i),
        ))
    opened s h fs z (suc (suc (suc (suc (suc i))))) w le q notes key draws = absurd (omega (arith, le))

    module _ (s : Set) (h : Home) (fs : List Figure) (z : Pens K spool first p ns out (figures s h fs)) (q : step_in e l (figures s h fs) ≡ got st') where
      pub figures-key : (key : Span) (rest : CodeRest) → l.form ≡ keyed (bytes_at spool key) (rest_in spool rest) → PlacedRest rest → FormFits l.form
          → KeyLine spool first key rest p ns ns' out out' d → LineOut K spool first st' ns' out' d
      figures-key key rest form fit-place fit line =
          acted (figures s h fs) _ _ _ (known_of s) (range_of s) st' (home_table s h) (rows_at_limit 0 (home_table s h)) (bytes_at spool key) (rest_in spool rest) (home-rows s h).0
          (subst FormFits form fit) (ap (on_figures e l s h fs) (sym form) ∙ q)
          enters opens-block
        where
          does : (j : ℕ) (r : Rule) (v : Value) → find (bytes_at spool key) (home_table s h) ≡ found j r → Row (home_table s h) j r → Reads (known_of s) r (rest_in spool rest) v
              → KeyDone (table_for first p (is_brace rest)) p rest (home_known K s h) j r v ns ns' out out' d
          does j r v f w u = line (home_known K s h) j r v (home_found p ns s h (bytes_at spool key) rest j r v z.here.0 z.here.1 f u) (home-reads s h j r (rest_in spool rest) v w u)

          enters : (j : ℕ) (r : Rule) (v : Value) → find (bytes_at spool key) (home_table s h) ≡ found j r → Row (home_table s h) j r → Reads (known_of s) r (rest_in spool rest) v → opens_block r.holds v ≡ false
              → get_or (rows_at_limit 0 (home_table s h)) j false ≡ false → (taking e (kind_in h (kind_line + j) ∷ []) s λ s'. figures s' h (fs ++ plain l.line j (nums_of v) ∷ [])) ≡ got st' → LineOut K spool first st' ns' out' d
          enters j r v f w u o g n =
              let b8 = z.here.0 in
              let done = does j r v f w u in
              let text : List ℕ = line_of (home_known K s h) r v in
              let p' = moved p (length (ended text)) 8 0 in
              let flat = no_block r.holds v o in
              let fs' = fs ++ plain l.line j (nums_of v) ∷ [] in
              let notes : ns' ≡ ns = rw (b8, flat) at done.notes in
              let same : (i : ℕ) → get_or ns' i 0 ≡ get_or ns i 0 = λ i. ap (λ (u : List ℕ). get_or u i 0) notes in
              subst (λ (st : State). LineOut K spool first st ns' out' d) (took e (kind_in h (kind_line + j) ∷ []) s (λ s'. figures s' h fs') st' n)
              (key-line K spool first p ns out (figures s h fs) z (figures (with_records (kind_in h (kind_line + j) ∷ []) s) h fs') p' ns' out' d size many (table_for first p (is_brace rest)) rest (home_known K s h) j r v done
              (rw b8) (rw (b8, flat)) refl
              (text-records K first (kind_in h (kind_line + j) ∷ []) s h fs' ∙ text-more K first s h fs (plain l.line j (nums_of v))
              ∙ ap (λ (t : List Rule). figures_text K first s h fs ++ line_of (home_known K s h) (rule_at t j) (nums (nums_of v)) ∷ []) (rows-table K first s h)
              ∙ ap (λ (t : List ℕ). figures_text K first s h fs ++ t ∷ []) (nums-line w (home-rows s h).1 (home_known K s h) v))
              (refl, home-records K first spool p' ns' (kind_in h (kind_line + j) ∷ []) s h (home_at K first spool p p' ns ns' s h refl refl (same 0) (same 3) z.here.1)))

          opens-block : (j : ℕ) (r : Rule) (v : Value) → find (bytes_at spool key) (home_table s h) ≡ found j r → Row (home_table s h) j r → Reads (known_of s) r (rest_in spool rest) v → opens_block r.holds v ≡ true
              → get_or (rows_at_limit 0 (home_table s h)) j false ≡ false → open_figure e l s h fs (inner_of r.holds) ≡ got st' → LineOut K spool first st' ns' out' d
          opens-block j r v f w u o g n =
              let b8 = z.here.0 in
              let done = does j r v f w u in
              let text : List ℕ = line_of (home_known K s h) r v in
              opens-figure r.key r.holds v (row-all (λ r. opens_as r.key r.holds) w (home-rows s h).2) o λ i holds named le.
              opened s h fs z i text le (ap (λ (d : Kind). open_figure e l s h fs (inner_of d)) (sym holds) ∙ n)
              (rw (b8, holds) at done.notes)
              (ap (λ (d : Kind). r.key ++ behind (home_known K s h) d v) holds ∙ ap open_line named)
              λ st shows stands. key-line K spool first p ns out (figures s h fs) z st (moved p (length (ended text)) (figure_block (opens i) i) 0) ns' out' d size many
              (table_for first p (is_brace rest)) rest (home_known K s h) j r v done (rw b8) (rw (b8, holds)) refl shows stands

    -- ── closing ──
    -- a symbol's `element` closes: `hide` stands before it, or was not read yet
    element-parts : (s : Set) (y : Symbol) (fs : List Figure) → InHome K spool first p ns s (in_element y)
        → parts_text K (symbol_figures fs y) ≡ hidden_part K y ++ block (bytes "element") (show_figures K false figure_table fs) []
    element-parts s y fs z = ap (λ (b : Bool). ordered (cond b shows [])) z.read ∙ go y.hide_first (is_some (get_or y.own 2 None)) refl refl
      where
        shows : Text
        shows = block (bytes "element") (show_figures K false figure_table fs) []

        ordered : Text → Text
        ordered u = cond y.hide_first (hidden_part K y ++ u) (u ++ hidden_part K y)

        go : (f b : Bool) → y.hide_first ≡ f → is_some (get_or y.own 2 None) ≡ b → cond f (hidden_part K y ++ shows) (shows ++ hidden_part K y) ≡ hidden_part K y ++ shows
        go true b p q = refl
        go false true p q = clash (z.order q) p
        go false false p q = rw q (append-nil shows)

    element-close : (s : Set) (y : Symbol) (fs : List Figure) → Pens K spool first p ns out (figures s (in_element y) fs) → CloseDone spool first p ns out out' d → ns' ≡ ns
        → close_figures s (in_element y) fs ≡ got st' → LineOut K spool first st' ns' out' d
    element-close s y fs z done kept q =
        let y' = symbol_figures fs y in
        let p' = moved p 3 5 0 in
        let home = z.here.1 in
        let old = home.in-symbol in
        let is = (unless-got (not (is_nil fs)) 8 (got (symbol s y')) st' q).1 in
        let is' : symbol s y' ≡ st' = cc in
        let B = symbol_begun K s in
        let H = hidden_part K y in
        let E : Text = open_line (bytes "element") ∷ [] in
        let F = show_figures K false figure_table fs [] in
        let S : Text = bytes "}" ∷ [] in
        let at : (i : ℕ) → get_or ns' i 0 ≡ get_or ns i 0 = λ i. ap (λ (u : List ℕ). get_or u i 0) kept in
        subst (λ (st : State). LineOut K spool first st ns' out' d) is'
        (shut-line K spool first p ns out (figures s (in_element y) fs) z (symbol s y') p' ns' out' d size many
        (subst (λ (b : Bool). Draws shut_bytes p.at (moved p 3 (cond b 7 5) 0) out out' d) home.layered (done.figures z.here.0)) refl
        (ap (λ (u : Text). B ++ u) (element-parts s y fs home ∙ ap (λ (u : Text). H ++ u) (block-parts (bytes "element") (show_figures K false figure_table fs) (figures-more K false figure_table fs)))
        ∙ sym (append_assoc ((B ++ H) ++ E) F S ∙ append_assoc (B ++ H) E (F ++ S) ∙ append_assoc B H (E ++ (F ++ S))))
        (refl, symbol-at K first spool p p' ns ns' s y' refl (at 0) (at 3) (record { front = old.front; start = old.start; slots = old.slots; name = old.name; wall = old.wall; order = old.order })))

    layer-close : (s : Set) (m : ℕ) (fs : List Figure) → Pens K spool first p ns out (figures s (in_layer m) fs) → CloseDone spool first p ns out out' d
        → close_figures s (in_layer m) fs ≡ got st' → LineOut K spool first st' ns' out' d
    layer-close s m fs z done q =
        let u : LayerBlock = record { layer = m; figures = fs } in
        let s' = with_block u s in
        let is : elements s' ≡ st' = cc in
        let k = known_of s in
        let t = layer_table_of s in
        let us = s.now.blocks in
        let body : Body first s = z.here.1.0 in
        let N = front_text K first s in
        let E = open_line (bytes "ELEMENT") in
        let B = show_blocks k t us [] in
        let L = bytes "LAYER=" ++ open_line (get_or k.layers m []) in
        let F = show_figures k true t fs [] in
        let S : Text = bytes "}" ∷ [] in
        let A = N ++ E ∷ B in
        subst (λ (st : State). LineOut K spool first st ns' out' d) is
        (shut-line K spool first p ns out (figures s (in_layer m) fs) z (elements s') (moved p 3 7 0) ns' out' d size many
        (subst (λ (b : Bool). Draws shut_bytes p.at (moved p 3 (cond b 7 5) 0) out out' d) z.here.1.1 (done.figures z.here.0)) refl
        (ap (λ (f : Text). f ++ E ∷ show_blocks k (layer_table_of s') (us ++ u ∷ []) []) (front-block K first u s)
        ∙ ap (λ (x : List Rule). N ++ E ∷ show_blocks k x (us ++ u ∷ []) []) (block-table u s)
        ∙ ap (λ (b : Text). N ++ E ∷ b) (blocks_last k t us u ∙ ap (λ (b : Text). B ++ b) (blocks-one k t u))
        ∙ sym (append_assoc N (E ∷ B) ((L ∷ F) ++ S))
        ∙ sym (append_assoc A (L ∷ F) S)
        ∙ ap (λ (b : Text). b ++ S) (sym (append_assoc A (L ∷ []) F)))
        (refl, record { volume = body.volume; served = served-block u s body.served }))

    pub figures-close : (s : Set) (h : Home) (fs : List Figure) (z : Pens K spool first p ns out (figures s h fs)) (q : step_in e l (figures s h fs) ≡ got st')
        → l.form ≡ close → CloseDone spool first p ns out out' d → ns' ≡ ns → LineOut K spool first st' ns' out' d
    figures-close s h fs z q form done kept =
        shut-did (figures s h fs) _ _ _ (complete (range_of s) (home_table s h) (rows_at_limit 0 (home_table s h))) st' (ap (on_figures e l s h fs) (sym form) ∙ q) (shuts h z)
      where
        shuts : (h : Home) → Pens K spool first p ns out (figures s h fs) → close_figures s h fs ≡ got st' → LineOut K spool first st' ns' out' d
        shuts (in_element y) z n = element-close s y fs z done kept n
        shuts (in_layer m) z n = layer-close s m fs z done n
