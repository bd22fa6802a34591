-- A line in a figure's `text`.
use Rattle.std.specs.Prelude.{Some, Result}
use Prim.Native.Nat.{ℕ, ◌+◌, ◌<◌}
use mathlib.Core.Bool.{Bool, true, false, cond, ◌&&◌}
use mathlib.Core.List.{List, [], ◌∷◌, ◌++◌, append_assoc}
use mathlib.Core.Path.{◌≡◌, refl, sym, ◌∙◌, ap, subst}
use native.Mathlib.Omega.{arith}
use lib.ListN.{length, get_or, set}
use lib.Seq.{get_or-set_other}
use Rattle.rules.specs.declared.Span.{Span}
use Rattle.rules.specs.Base.{bytes}
use Rattle.rules.specs.RefusalNumbers.{got}
use Rattle.rules.specs.Lines.{close, keyed, bytes_at}
use Rattle.rules.specs.RangeClass.{digits}
use Rattle.rules.specs.Values.{Value, Known}
use Rattle.rules.specs.Rows.{Rule, found, find, Slots, rows_there, inner_of, complete}
use Rattle.rules.specs.Figures.{text_table}
use Rattle.rules.specs.Sets.{Figure, lettering, Set, known_of}
use Rattle.rules.specs.Machine.{Line, Env, Home, State, figures, texts, is_layer, on_texts}
use Rattle.rules.specs.LineByLine.{step_in}
use Rattle.rules.specs.Answers.{full_class}
use Rattle.rules.specs.FixedForm.{open_line, opens_block, show_slots, no_inner}
use Rattle.rules.proofs.Chains.{never, and_right}
use Rattle.rules.proofs.Rows.{Row, row-all, row_at, row_below}
use Rattle.promises.proofs.Forms.{key_ok, table-keys}
use Rattle.promises.proofs.Nameless.{nameless}
use Rattle.promises.proofs.LengthBlocks.{plain-tables}
use Rattle.tables.specs.Tables.{table_of}
use Rattle.entries.specs.declared.Rest.{Rest as CodeRest}
use Rattle.entries.specs.Shapes.{rest_in}
use Rattle.prints.specs.Reading.{Reads}
use Rattle.pens.specs.declared.Pen.{Pen}
use Rattle.pens.specs.Texts.{line_bytes, Draws}
use Rattle.pens.specs.Moves.{moved, table_for}
use Rattle.pens.specs.Noting.{note_of, notes_from, Noted, NotedRows}
use Rattle.pens.specs.Shown.{home_known, figures_text}
use Rattle.pens.specs.Standing.{Pens}
use Rattle.pens.specs.Keys.{is_brace, KeyLine, PlacedRest}
use Rattle.pens.specs.Closing.{ShutsRows, CloseDone}
use Rattle.pens.specs.Drawing.{FormFits, LineOut}
use Rattle.pens.proofs.Laying.{on_draws}
use Rattle.volumes.proofs.Acted.{acted, reads_any}
use Rattle.volumes.proofs.HomeLaws.{shut-did, key-noted, notes-at, text-more, home-layered, home_at}
use Rattle.volumes.proofs.FigureLaws.{text-rows}
use Rattle.pens.proofs.NotedLaws.{noted-line, set-rows}
use Rattle.pens.proofs.TextRows.{text-parts, text-bytes}
use Rattle.leaves.specs.declared.NoRoom.{NoRoom}

text-table : (first : Bool) (p : Pen) (b c : Bool) → p.block ≡ 10 → p.layered ≡ b → (table_of (table_for first p c) ≡ text_table b 4 12) × (notes_from (table_for first p c) ≡ 4)
unfolding table_of
text-table first p true c h l = (rw (h, l), rw (h, l))
text-table first p false c h l = (rw (h, l), rw (h, l))

module _ (K : Known) (spool : List ℕ) (first : Bool) (p : Pen) (ns out : List ℕ) (e : Env) (l : Line) (c : e.class ≡ full_class)
    (st' : State) (ns' out' : List ℕ) (d : Result Pen NoRoom) (size : length out' ≡ length out) (many : length ns' ≡ 28)
    (s : Set) (h : Home) (fs : List Figure) (n : ℕ) (o : Slots) (z : Pens K spool first p ns out (texts s h fs n o)) (q : step_in e l (texts s h fs n o) ≡ got st') where
  pub texts-key : (key : Span) (rest : CodeRest) → l.form ≡ keyed (bytes_at spool key) (rest_in spool rest) → PlacedRest rest → FormFits l.form
      → KeyLine spool first key rest p ns ns' out out' d → LineOut K spool first st' ns' out' d
  texts-key key rest form fit-place fit line =
      acted (texts s h fs n o) _ _ _ (known_of s) (digits 0 0) st' (text_table (is_layer h) 4 12) (rows_there o) (bytes_at spool key) (rest_in spool rest)
      (table-keys (is_layer h) 4 12).14 (subst FormFits form fit) (ap (on_texts s h fs n o) (sym form) ∙ q)
      enters (λ j r v f w u x g m. never m)
    where
      enters : (j : ℕ) (r : Rule) (v : Value) → find (bytes_at spool key) (text_table (is_layer h) 4 12) ≡ found j r → Row (text_table (is_layer h) 4 12) j r → Reads (known_of s) r (rest_in spool rest) v
          → opens_block r.holds v ≡ false → get_or (rows_there o) j false ≡ false → got (texts s h fs n (set o j (Some v))) ≡ got st' → LineOut K spool first st' ns' out' d
      enters j r v f w u x g m =
          let b10 = z.here.0 in
          let b = is_layer h in
          let t = text_table b 4 12 in
          let k = home_known K s h in
          let layered = home-layered K first spool p ns s h z.here.1 in
          let (table, place) = text-table first p b (is_brace rest) b10 layered in
          let reads = reads_any (known_of s) k r (rest_in spool rest) v (and_right (key_ok r.key) _ (row-all (λ r. key_ok r.key && nameless r.holds) w (plain-tables b 4 12).6)) u in
          let done = line k j r v (ap (find (bytes_at spool key)) table ∙ f) reads in
          let notes : ns' ≡ set ns (4 + j) (note_of rest) =
          done.notes ∙ notes-at p 10 b10 (table_for first p (is_brace rest)) j r.holds (inner_of r.holds) (note_of rest) ns ∙ ap (λ (m : ℕ). set ns (m + j) (note_of rest)) place in
          let kept : (i : ℕ) → i < 4 → get_or ns' i 0 ≡ get_or ns i 0 = λ i le. ap (λ (u : List ℕ). get_or u i 0) notes ∙ get_or-set_other ns (4 + j) i (note_of rest) 0 (omega arith) in
          let is : texts s h fs n (set o j (Some v)) ≡ st' = cc in
          subst (λ (st : State). LineOut K spool first st ns' out' d) is
          (key-noted K spool first p ns out (texts s h fs n o) z (texts s h fs n (set o j (Some v))) p ns' out' d size many (table_for first p (is_brace rest)) rest k j r v done
          (rw b10) (rw b10) refl refl (
            b10,
            home_at K first spool p p ns ns' s h refl refl (kept 0 (omega arith)) (kept 3 (omega arith)) z.here.1,
            subst (λ (u : List ℕ). NotedRows spool k t 4 u (set o j (Some v))) (sym notes)
                (set-rows spool k t 4 ns o j (note_of rest) v (row_below w) (omega (arith, text-rows b, z.many))
                (subst (λ (q : Rule). Noted spool k q (note_of rest) (Some v)) (sym (row_at w _)) (noted-line spool k r rest v fit-place reads)) z.here.2),
          ))

  pub texts-close : l.form ≡ close → CloseDone spool first p ns out out' d → ns' ≡ ns → LineOut K spool first st' ns' out' d
  texts-close form done notes =
      shut-did (texts s h fs n o) _ _ _ (complete (digits 0 0) (text_table (is_layer h) 4 12) (rows_there o)) st' (ap (on_texts s h fs n o) (sym form) ∙ q) shuts
    where
      shuts : got (figures s h (fs ++ lettering n o ∷ [])) ≡ got st' → LineOut K spool first st' ns' out' d
      shuts m =
          let fs' = fs ++ lettering n o ∷ [] in
          let is : figures s h fs' ≡ st' = cc in
          let k = home_known K s h in
          let b = is_layer h in
          let X = show_slots k (text_table b 4 12) o no_inner (bytes "}" ∷ []) in
          let p' = moved p (length (line_bytes X)) 8 0 in
          let kept : (i : ℕ) → get_or ns' i 0 ≡ get_or ns i 0 = λ i. ap (λ (u : List ℕ). get_or u i 0) notes in
          let F = figures_text K first s h fs in
          let layered = home-layered K first spool p ns s h z.here.1 in
          let rows : ShutsRows spool (cond b 16 17) p 8 ns out out' d = subst (λ (b : Bool). ShutsRows spool (cond b 16 17) p 8 ns out out' d) layered (done.text z.here.0) in
          subst (λ (st : State). LineOut K spool first st ns' out' d) is
          (on_draws K spool first p ns out (texts s h fs n o) z X (figures s h fs') p' ns' out' d size
          (text-more K first s h fs (lettering n o) ∙ sym (append_assoc F (open_line (bytes "text") ∷ []) X))
          (subst (λ (u : List ℕ). Draws u p.at (moved p (length u) 8 0) out out' d) (text-bytes k b o) (rows k (o ∷ []) (text-parts spool k b ns o z.here.2)))
          refl many
          (refl, home_at K first spool p p' ns ns' s h refl refl (kept 0) (kept 3) z.here.1))
