-- A line in `successive`.
use Rattle.std.specs.Prelude.{Result}
use Prim.Native.Nat.{ℕ}
use mathlib.Core.Bool.{Bool, true, false, ◌&&◌}
use mathlib.Core.List.{List, [], ◌∷◌, ◌++◌, append_assoc}
use mathlib.Core.Path.{◌≡◌, refl, sym, ◌∙◌, ap, subst}
use native.Mathlib.Omega.{arith}
use lib.Dec.{leb}
use lib.ListN.{length, get_or}
use Rattle.rules.specs.declared.Span.{Span}
use Rattle.rules.specs.Base.{bytes}
use Rattle.rules.specs.RefusalNumbers.{got, unless}
use Rattle.rules.specs.Lines.{close, keyed, bytes_at}
use Rattle.rules.specs.RangeClass.{digits}
use Rattle.rules.specs.Values.{Value, nums, Known, nums_of}
use Rattle.rules.specs.Rows.{Rule, found, find, rows_at_limit, complete}
use Rattle.rules.specs.Figures.{least_points, point_table}
use Rattle.rules.specs.RecordTable.{rule_at, kind_point}
use Rattle.rules.specs.Sets.{Point, Figure, chain, Set, with_records, known_of}
use Rattle.rules.specs.Machine.{Line, Env, Home, State, figures, successive, is_layer, taking, point_at, on_successive, kind_in}
use Rattle.rules.specs.LineByLine.{step_in}
use Rattle.rules.specs.Answers.{full_class}
use Rattle.rules.specs.FixedForm.{Text, open_line, opens_block, line_of, show_points}
use Rattle.rules.proofs.Chains.{never, and_right, unless-got}
use Rattle.rules.proofs.Rows.{Row, row-all, row_below}
use Rattle.promises.proofs.Forms.{key_ok, table-keys}
use Rattle.promises.proofs.Nameless.{nameless}
use Rattle.promises.proofs.LengthBlocks.{plain-tables}
use Rattle.tables.specs.Tables.{table_of}
use Rattle.entries.specs.declared.Rest.{Rest as CodeRest}
use Rattle.entries.specs.Shapes.{rest_in}
use Rattle.prints.specs.Reading.{Reads}
use Rattle.pens.specs.declared.Pen.{Pen}
use Rattle.pens.specs.Texts.{ended}
use Rattle.pens.specs.Moves.{moved, table_for}
use Rattle.pens.specs.Shown.{home_known, figures_text}
use Rattle.pens.specs.Standing.{Pens}
use Rattle.pens.specs.Keys.{is_brace, KeyLine, PlacedRest}
use Rattle.pens.specs.Closing.{CloseDone}
use Rattle.pens.specs.Drawing.{FormFits, LineOut}
use Rattle.volumes.proofs.Acted.{acted, reads_any}
use Rattle.volumes.proofs.HomeLaws.{shut-did, key-line, shut-line, known-records, text-records, text-more, home-layered, home_at, home-records}
use Rattle.volumes.proofs.FrontSteps.{took}
use Rattle.volumes.proofs.FigureLaws.{nums-line}
use Rattle.pens.proofs.ShownLaws.{block-parts, points-more, points-last}
use Rattle.leaves.specs.declared.NoRoom.{NoRoom}

chain-table : (first : Bool) (p : Pen) (b c : Bool) → p.block ≡ 9 → p.layered ≡ b → table_of (table_for first p c) ≡ point_table b
unfolding table_of
chain-table first p true c h l = rw (h, l)
chain-table first p false c h l = rw (h, l)

point-line : (b : Bool) {j : ℕ} {r : Rule} → Row (point_table b) j r → (k : Known) (v : Value) → line_of k (rule_at (point_table b) 0) (nums (nums_of v)) ≡ line_of k r v
unfolding point_table
point-line b {j} w k v =
    let i : j ≡ 0 = omega (arith, row_below w) in
    ap (λ (n : ℕ). line_of k (rule_at (point_table b) n) (nums (nums_of v))) (sym i) ∙ nums-line w refl k v

module _ (K : Known) (spool : List ℕ) (first : Bool) (p : Pen) (ns out : List ℕ) (e : Env) (l : Line) (c : e.class ≡ full_class)
    (st' : State) (ns' out' : List ℕ) (d : Result Pen NoRoom) (size : length out' ≡ length out) (many : length ns' ≡ 28)
    (s : Set) (h : Home) (fs : List Figure) (n : ℕ) (ps : List Point) (z : Pens K spool first p ns out (successive s h fs n ps)) (q : step_in e l (successive s h fs n ps) ≡ got st') where
  pub successive-key : (key : Span) (rest : CodeRest) → l.form ≡ keyed (bytes_at spool key) (rest_in spool rest) → PlacedRest rest → FormFits l.form
      → KeyLine spool first key rest p ns ns' out out' d → LineOut K spool first st' ns' out' d
  successive-key key rest form fit-place fit line =
      acted (successive s h fs n ps) _ _ _ (known_of s) (digits 0 0) st' (point_table (is_layer h)) (rows_at_limit (length ps) (point_table (is_layer h))) (bytes_at spool key) (rest_in spool rest)
      (table-keys (is_layer h) 0 0).13 (subst FormFits form fit) (ap (on_successive e l s h fs n ps) (sym form) ∙ q)
      enters (λ j r v f w u o g m. never m)
    where
      enters : (j : ℕ) (r : Rule) (v : Value) → find (bytes_at spool key) (point_table (is_layer h)) ≡ found j r → Row (point_table (is_layer h)) j r → Reads (known_of s) r (rest_in spool rest) v → opens_block r.holds v ≡ false
          → get_or (rows_at_limit (length ps) (point_table (is_layer h))) j false ≡ false → (taking e (kind_in h kind_point ∷ []) s λ s'. successive s' h fs n (ps ++ point_at l v ∷ [])) ≡ got st' → LineOut K spool first st' ns' out' d
      enters j r v f w u o g m =
          let b9 = z.here.0 in
          let b = is_layer h in
          let k = home_known K s h in
          let layered = home-layered K first spool p ns s h z.here.1 in
          let reads = reads_any (known_of s) k r (rest_in spool rest) v (and_right (key_ok r.key) _ (row-all (λ r. key_ok r.key && nameless r.holds) w (plain-tables b 0 0).5)) u in
          let done = line k j r v (ap (find (bytes_at spool key)) (chain-table first p b (is_brace rest) b9 layered) ∙ f) reads in
          let text : List ℕ = line_of k r v in
          let p' = moved p (length (ended text)) 9 0 in
          let notes : ns' ≡ ns = rw b9 at done.notes in
          let kept : (i : ℕ) → get_or ns' i 0 ≡ get_or ns i 0 = λ i. ap (λ (u : List ℕ). get_or u i 0) notes in
          let ps' = ps ++ point_at l v ∷ [] in
          let first-line = open_line (bytes "successive") in
          let F = figures_text K first s h fs in
          subst (λ (st : State). LineOut K spool first st ns' out' d) (took e (kind_in h kind_point ∷ []) s (λ s'. successive s' h fs n ps') st' m)
          (key-line K spool first p ns out (successive s h fs n ps) z (successive (with_records (kind_in h kind_point ∷ []) s) h fs n ps') p' ns' out' d size many (table_for first p (is_brace rest)) rest k j r v done
          (rw b9) (rw b9) refl
          (ap (λ (t : Text). t ++ first-line ∷ show_points (home_known K (with_records (kind_in h kind_point ∷ []) s) h) b ps' []) (text-records K first (kind_in h kind_point ∷ []) s h fs)
          ∙ ap (λ (k : Known). F ++ first-line ∷ show_points k b ps' []) (known-records K first (kind_in h kind_point ∷ []) s h)
          ∙ ap (λ (t : Text). F ++ first-line ∷ t) (points-last k b ps (point_at l v) ∙ ap (λ (t : List ℕ). show_points k b ps [] ++ t ∷ []) (point-line b w k v))
          ∙ sym (append_assoc F (first-line ∷ show_points k b ps []) (text ∷ [])))
          (refl, home-records K first spool p' ns' (kind_in h kind_point ∷ []) s h (home_at K first spool p p' ns ns' s h refl refl (kept 0) (kept 3) z.here.1)))

  pub successive-close : l.form ≡ close → CloseDone spool first p ns out out' d → ns' ≡ ns → LineOut K spool first st' ns' out' d
  successive-close form done notes =
      shut-did (successive s h fs n ps) _ _ _ (complete (digits 0 0) (point_table (is_layer h)) (rows_at_limit (length ps) (point_table (is_layer h)))) st' (ap (on_successive e l s h fs n ps) (sym form) ∙ q) shuts
    where
      shuts : unless (leb least_points (length ps)) 8 (got (figures s h (fs ++ chain n ps ∷ []))) ≡ got st' → LineOut K spool first st' ns' out' d
      shuts m =
          let fs' = fs ++ chain n ps ∷ [] in
          let is = (unless-got (leb least_points (length ps)) 8 (got (figures s h fs')) st' m).1 in
          let is' : figures s h fs' ≡ st' = cc in
          let k = home_known K s h in
          let b = is_layer h in
          let p' = moved p 3 8 0 in
          let kept : (i : ℕ) → get_or ns' i 0 ≡ get_or ns i 0 = λ i. ap (λ (u : List ℕ). get_or u i 0) notes in
          let F = figures_text K first s h fs in
          subst (λ (st : State). LineOut K spool first st ns' out' d) is'
          (shut-line K spool first p ns out (successive s h fs n ps) z (figures s h fs') p' ns' out' d size many (done.chain z.here.0) refl
          (text-more K first s h fs (chain n ps)
          ∙ ap (λ (t : Text). F ++ t) (block-parts (bytes "successive") (show_points k b ps) (points-more k b ps))
          ∙ sym (append_assoc F (open_line (bytes "successive") ∷ show_points k b ps []) (bytes "}" ∷ [])))
          (refl, home_at K first spool p p' ns ns' s h refl refl (kept 0) (kept 3) z.here.1))
