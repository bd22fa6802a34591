-- A line at the top level: the writing stands at the state behind it.
use Rattle.std.specs.Prelude.{None, Result}
use Prim.Native.Nat.{ℕ, zero, suc, ◌+◌, ◌<◌}
use mathlib.Core.Bool.{Bool, true, false, cond, ◌&&◌, ◌||◌, not}
use mathlib.Core.List.{List, [], ◌∷◌, ◌++◌, append-nil}
use mathlib.Core.Path.{◌≡◌, refl, sym, ◌∙◌, ap, subst}
use native.Mathlib.Omega.{arith}
use borrow.Author.Tests.{eqb-true}
use lib.Dec.{eqb}
use lib.ListN.{length, get_or, take, length-append}
use Rattle.rules.specs.declared.Span.{Span}
use Rattle.rules.specs.Base.{bytes, is_nil}
use Rattle.rules.specs.RefusalNumbers.{Got, got, bad, unless}
use Rattle.rules.specs.Lines.{close, eof, keyed, bytes_at}
use Rattle.rules.specs.RangeClass.{digits}
use Rattle.rules.specs.Values.{Value, Known}
use Rattle.rules.specs.Rows.{Rule, found, find, blank, Held, rows_at_limit}
use Rattle.rules.specs.Blocks.{top_table, file_tables, drawing_table, blank_held}
use Rattle.rules.specs.Sets.{Drawing, Symbol, LayerBlock, Set, with_records, is_first, known_of, layer_table_of}
use Rattle.rules.specs.VolumesAndTotals.{counted_all, layers_used, partners_exist}
use Rattle.rules.specs.Machine.{Line, Env, State, top, file, drawing, defines, elements, ended, tests_partners, open_top, on_top, file_kinds}
use Rattle.rules.specs.LineByLine.{step_in}
use Rattle.rules.specs.Answers.{full_class}
use Rattle.rules.specs.FixedForm.{Text, open_line, line_of, show_symbols, show_blocks}
use Rattle.rules.specs.RecordTable.{kind_drawing}
use Rattle.rules.proofs.Chains.{and_left, never, unless-got}
use Rattle.rules.proofs.Rows.{Row, row_at, row_below}
use Rattle.promises.proofs.Forms.{table-keys}
use Rattle.tables.specs.Tables.{table_of}
use Rattle.entries.specs.declared.Rest.{Rest}
use Rattle.entries.specs.Shapes.{rest_in}
use Rattle.volumes.proofs.FrontSteps.{took}
use Rattle.pens.specs.declared.Pen.{Pen}
use Rattle.pens.specs.Texts.{ended as endedLine, line_bytes, Draws}
use Rattle.pens.specs.Moves.{moved, begun, top_pen, table_for}
use Rattle.pens.specs.Noting.{forgotten, NotedRows, NotedParts}
use Rattle.pens.specs.Shown.{file_text, front_text, top_text, names_text}
use Rattle.pens.specs.Standing.{InFile, InDrawing, Pens}
use Rattle.pens.specs.Keys.{is_brace, KeyDone, KeyLine, EofLine, PlacedRest}
use Rattle.pens.specs.Drawing.{FormFits, LineOut}
use Rattle.pens.proofs.Laying.{bytes-append, on_draws}
use Rattle.volumes.proofs.Acted.{acted}
use Rattle.pens.proofs.NotedLaws.{blank-rows, blank-parts, file-tables_of}
use Rattle.leaves.specs.declared.NoRoom.{NoRoom}

-- ── the keys of the top level ──
abbrev top_key : ℕ → List ℕ
top_key zero = bytes "FILE_FORMAT"
top_key (suc zero) = bytes "DRAWING_FORMAT"
top_key (suc (suc zero)) = bytes "SYMBOL_DEFINE"
top_key (suc (suc (suc j))) = bytes "ELEMENT"

top-few : {j : ℕ} {r : Rule} → Row top_table j r → j < 4
unfolding top_table
top-few w = row_below w

top-line : (k : Known) (j : ℕ) (r : Rule) (v : Value) → Row top_table j r → line_of k r v ≡ open_line (top_key j)
unfolding top_table
top-line k zero r v w = ap (λ (q : Rule). line_of k q v) (sym (row_at w r))
top-line k (suc zero) r v w = ap (λ (q : Rule). line_of k q v) (sym (row_at w r))
top-line k (suc (suc zero)) r v w = ap (λ (q : Rule). line_of k q v) (sym (row_at w r))
top-line k (suc (suc (suc zero))) r v w = ap (λ (q : Rule). line_of k q v) (sym (row_at w r))
top-line k (suc (suc (suc (suc j)))) r v w = absurd (omega (arith, top-few w))

top-table : (first : Bool) (p : Pen) (b : Bool) → p.block ≡ 0 → table_of (table_for first p b) ≡ top_table
unfolding table_of
top-table first p b e = rw e

-- what such a line promises, at the top level
top-done : (t : ℕ) (p : Pen) (rest : Rest) (k : Known) (j : ℕ) (r : Rule) (v : Value) (ns ns' out out' : List ℕ) (d : Result Pen NoRoom) → p.block ≡ 0 → Row top_table j r → KeyDone t p rest k j r v ns ns' out out' d
    → Draws (endedLine (open_line (top_key j))) p.at (top_pen p j (length (endedLine (open_line (top_key j))))) out out' d × (ns' ≡ forgotten ns)
top-done t p rest k j r v ns ns' out out' d e w z = (rw (e, top-line k j r v w) at z.draws, rw e at z.notes)

file-parts : (first : Bool) → 0 < length (file_tables first)
file-parts true = omega arith
file-parts false = omega arith

-- the slots of a drawing that begins
blank-drawing : (length (blank drawing_table) ≡ 8) × (take 7 (blank drawing_table) ≡ blank (take 7 drawing_table)) × (get_or (blank drawing_table) 7 None ≡ None)
unfolding drawing_table
blank-drawing = (refl, refl, refl)

module _ (K : Known) (spool : List ℕ) (first : Bool) (p : Pen) (ns out : List ℕ) (s : Set) (e : Env) (l : Line) (st' : State) (ns' out' : List ℕ) (d : Result Pen NoRoom) (size : length out' ≡ length out) (many : length ns' ≡ 28) (notes : ns' ≡ forgotten ns) where
  opened : (j : ℕ) → j < 4 → Pens K spool first p ns out (top s j) → open_top e l s j ≡ got st'
      → Draws (endedLine (open_line (top_key j))) p.at (top_pen p j (length (endedLine (open_line (top_key j))))) out out' d → LineOut K spool first st' ns' out' d
  opened zero few z o w =
      let (volume, bare, later) = z.here.1 in
      let s' : Set = with_records (file_kinds (is_first s)) s in
      let h : Held = blank_held (file_tables (is_first s)) in
      let next : Pen = moved p 15 1 0 in
      let noted : NotedParts spool K (cond first 1 6) ns' h = subst (λ (x : List ℕ). NotedParts spool K (cond first 1 6) x h) (sym notes)
      (subst (λ (ts : List (List Rule)). NotedParts spool K (cond first 1 6) (forgotten ns) (blank_held ts)) (file-tables_of first ∙ ap file_tables (sym volume)) (blank-parts spool K (cond first 1 6) ns)) in
      let here : InFile K spool first next ns' s' h 0 = record { part = refl; volume = volume; bare = bare; later = later; open-part = file-parts first; noted = noted } in
      subst (λ (x : State). LineOut K spool first x ns' out' d) (took e (file_kinds (is_first s)) s (λ s'. file s' l.line h 0) st' o)
      (on_draws K spool first p ns out (top s 0) z (open_line (bytes "FILE_FORMAT") ∷ []) (file s' l.line h 0) next ns' out' d size refl w refl many (refl, here))
  opened (suc zero) few z o w =
      let (front, bare) = z.here.1 in
      let s' : Set = with_records (kind_drawing ∷ []) s in
      let begins : Drawing = record { line = l.line; own = blank drawing_table; layers = [] } in
      let next : Pen = begun p 18 2 in
      let line : Text = open_line (bytes "DRAWING_FORMAT") ∷ [] in
      let file : Text = file_text K true s.now.file in
      let (slots, own, unnamed) = blank-drawing in
      let here : InDrawing K spool first next ns' s' begins = record {
        front = record { volume = front.volume; alone = front.alone; empty = front.empty; served = front.served };
        bare = bare;
        start = ap (λ (n : ℕ). n + 18) z.at ∙ sym (ap length (bytes-append file line) ∙ length-append (line_bytes file) (line_bytes line));
        slots = slots;
        noted =
            subst (λ (x : List ℕ). NotedRows spool K (take 7 drawing_table) 0 x (take 7 (blank drawing_table))) (sym notes)
            (subst (NotedRows spool K (take 7 drawing_table) 0 (forgotten ns)) (sym own) (blank-rows spool K (take 7 drawing_table) 0 ns));
        unnamed = λ _. refl;
      } in
      let names : names_text K begins ≡ [] = rw unnamed in
      subst (λ (x : State). LineOut K spool first x ns' out' d) (took e (kind_drawing ∷ []) s (λ s'. drawing s' begins) st' o)
      (on_draws K spool first p ns out (top s 1) z line (drawing s' begins) next ns' out' d size (ap (λ (t : Text). file ++ line ++ t) names ∙ append-nil (file ++ line)) w refl many (refl, here))
  opened (suc (suc zero)) few z o w =
      let (front, bare) = z.here.1 in
      let line : Text = open_line (bytes "SYMBOL_DEFINE") ∷ [] in
      let is : defines s false ≡ st' = cc in
      subst (λ (x : State). LineOut K spool first x ns' out' d) is
      (on_draws K spool first p ns out (top s 2) z line (defines s false) (moved p 17 4 0) ns' out' d size
      (ap (λ (ys : List Symbol). top_text K true s 2 ++ open_line (bytes "SYMBOL_DEFINE") ∷ show_symbols K ys []) bare) w refl many (refl, front, λ _. bare))
  opened (suc (suc (suc zero))) few z o w =
      let (body, blocks) = z.here.1 in
      let line : Text = open_line (bytes "ELEMENT") ∷ [] in
      let is : elements s ≡ st' = cc in
      subst (λ (x : State). LineOut K spool first x ns' out' d) is
      (on_draws K spool first p ns out (top s 3) z line (elements s) (moved p 11 7 0) ns' out' d size
      (ap (λ (us : List LayerBlock). front_text K first s ++ open_line (bytes "ELEMENT") ∷ show_blocks (known_of s) (layer_table_of s) us []) blocks) w refl many (refl, body))
  opened (suc (suc (suc (suc j)))) few z o w = absurd (omega (arith, few))

module _ (K : Known) (spool : List ℕ) (first : Bool) (p : Pen) (ns out : List ℕ) (s : Set) (k : ℕ) (z : Pens K spool first p ns out (top s k)) (e : Env) (l : Line) (c : e.class ≡ full_class) (st' : State) (q : step_in e l (top s k) ≡ got st') (ns' out' : List ℕ) (d : Result Pen NoRoom) (size : length out' ≡ length out) (many : length ns' ≡ 28) where
  pub top_key_lem : (key : Span) (rest : Rest) → l.form ≡ keyed (bytes_at spool key) (rest_in spool rest) → PlacedRest rest → FormFits l.form
      → KeyLine spool first key rest p ns ns' out out' d → LineOut K spool first st' ns' out' d
  top_key_lem key rest f placed fits line =
      acted {P = LineOut K spool first st' ns' out' d} (top s k) (λ j v. bad 5) (λ i j v. unless (eqb j k) 9 (open_top e l s j)) (bad 9) (known_of s) (digits 0 0) st'
      top_table (rows_at_limit 0 top_table) (bytes_at spool key) (rest_in spool rest) (table-keys true 0 0).0 (subst FormFits f fits) (ap (on_top e l s k) (sym f) ∙ q)
      (λ j r v at w reads o full en. never en)
      (λ j r v at w reads o full op.
      let (same, opens) = unless-got (eqb j k) 9 (open_top e l s j) st' op in
      let is : find (bytes_at spool key) (table_of (table_for first p (is_brace rest))) ≡ found j r = ap (find (bytes_at spool key)) (top-table first p (is_brace rest) z.here.0) ∙ at in
      let (draws, notes) = top-done (table_for first p (is_brace rest)) p rest (known_of s) j r v ns ns' out out' d z.here.0 w (line (known_of s) j r v is reads) in
      opened K spool first p ns out s e l st' ns' out' d size many notes j (top-few w) (subst (λ (m : ℕ). Pens K spool first p ns out (top s m)) (sym (eqb-true j k same)) z) opens draws)

  -- "The last line of the last volume is `EOF`"
  pub top-eof : l.form ≡ eof → EofLine p out out' d → ns' ≡ ns → LineOut K spool first st' ns' out' d
  top-eof f line notes =
      let met : Bool = not (tests_partners e.class s) || partners_exist s in
      let partners : Got State = unless met 21 (got (ended s)) in
      let counted : Got State = unless (counted_all s) 17 partners in
      let used : Got State = unless (layers_used s) 14 counted in
      let (last, g) = unless-got (eqb k 4 && (is_nil l.next && l.last)) 9 used st' (ap (on_top e l s k) (sym f) ∙ q) in
      let (u, g2) = unless-got (layers_used s) 14 counted st' g in
      let (n, g3) = unless-got (counted_all s) 17 partners st' g2 in
      let (m, g4) = unless-got met 21 (got (ended s)) st' g3 in
      let is : ended s ≡ st' = cc in
      let z4 : Pens K spool first p ns out (top s 4) = subst (λ (m : ℕ). Pens K spool first p ns out (top s m)) (eqb-true k 4 (and_left (eqb k 4) _ last)) z in
      subst (λ (x : State). LineOut K spool first x ns' out' d) is
      (on_draws K spool first p ns out (top s 4) z4 (bytes "EOF" ∷ []) (ended s) (moved p 5 0 0) ns' out' d size refl line refl many z4.here.1.1)

  -- nothing is open that could close
  pub top-close : {P : Type 0} → l.form ≡ close → P
  top-close f = never (ap (on_top e l s k) (sym f) ∙ q)
