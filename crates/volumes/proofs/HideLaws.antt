-- A line in a symbol's `hide`.
use Rattle.std.specs.Prelude.{Option, Some, None, Result}
use Prim.Native.Nat.{ℕ, ◌+◌}
use mathlib.Core.Bool.{Bool, true, false}
use mathlib.Core.List.{List, [], ◌∷◌, ◌++◌, append_assoc, append-nil}
use mathlib.Core.Path.{◌≡◌, refl, sym, ◌∙◌, ap, subst}
use native.Mathlib.Omega.{arith}
use lib.ListN.{length, get_or}
use Rattle.rules.specs.declared.Span.{Span}
use Rattle.rules.specs.Base.{bytes, is_none, is_some}
use Rattle.rules.specs.RefusalNumbers.{got, bad}
use Rattle.rules.specs.Lines.{close, keyed, bytes_at}
use Rattle.rules.specs.RangeClass.{digits}
use Rattle.rules.specs.Values.{Value, empty, nums, chars, linked, Known, nums_of}
use Rattle.rules.specs.Rows.{Rule, found, find, rows_at_limit}
use Rattle.rules.specs.Figures.{point_table}
use Rattle.rules.specs.Sets.{Point, Symbol, Set, with_records, symbol_hidden, known_of}
use Rattle.rules.specs.RecordTable.{rule_at, kind_hidden}
use Rattle.rules.specs.Answers.{full_class}
use Rattle.rules.specs.Machine.{Line, Env, State, symbol, hide, point_at, taking}
use Rattle.rules.specs.LineByLine.{step_in}
use Rattle.rules.specs.FixedForm.{Text, open_line, block, opens_block, line_of, show_points}
use Rattle.rules.proofs.Chains.{never}
use Rattle.rules.proofs.Rows.{Row, row_below}
use Rattle.tables.specs.Tables.{table_of}
use Rattle.entries.specs.declared.Rest.{Rest}
use Rattle.entries.specs.Shapes.{rest_in}
use Rattle.prints.specs.Reading.{Reads}
use Rattle.promises.proofs.Forms.{table-keys}
use Rattle.promises.proofs.Nameless.{nameless}
use Rattle.pens.specs.declared.Pen.{Pen}
use Rattle.pens.specs.Texts.{ended, Draws}
use Rattle.pens.specs.Moves.{moved, table_for}
use Rattle.pens.specs.Keys.{is_brace, KeyDone, KeyLine, PlacedRest}
use Rattle.pens.specs.Closing.{CloseDone}
use Rattle.pens.specs.Shown.{symbol_begun, shown_part, parts_text, shown}
use Rattle.pens.specs.Standing.{InSymbol, InHide, Here, Pens}
use Rattle.pens.specs.Drawing.{FormFits, LineOut}
use Rattle.pens.proofs.Laying.{on_draws}
use Rattle.volumes.proofs.Acted.{reads_any, acted}
use Rattle.pens.proofs.ShownLaws.{points-more, points-last}
use Rattle.volumes.proofs.FrontSteps.{took, closed, row_is, draws-line, line-long, front-more}
use Rattle.leaves.specs.declared.NoRoom.{NoRoom}

-- ── the row of a point ──
point-row : {j : ℕ} {r : Rule} → Row (point_table false) j r → (j ≡ 0) × (r ≡ rule_at (point_table false) 0)
unfolding point_table
point-row {j} w = let z : j ≡ 0 = omega (arith, row_below w) in (z, row_is w ∙ ap (rule_at (point_table false)) z)

point-nameless : nameless (rule_at (point_table false) 0).holds ≡ true
unfolding point_table
point-nameless = refl

-- a point is written as its numbers are
point-line : (k : Known) (v : Value) → line_of k (rule_at (point_table false) 0) v ≡ line_of k (rule_at (point_table false) 0) (nums (nums_of v))
unfolding point_table
point-line k empty = refl
point-line k (nums v) = refl
point-line k (chars at c) = refl
point-line k (linked n ns) = refl

points-table : table_of 15 ≡ point_table false
unfolding table_of
points-table = refl

-- `hide` stands behind `element`, if that was read before
parts-hidden : (K : Known) (y : Symbol) → is_some (get_or y.own 2 None) ≡ true → y.hide_first ≡ is_none (get_or y.own 1 None) → parts_text K y ≡ shown_part K y ++ block (bytes "hide") (show_points K false y.hidden) []
parts-hidden K y read order = go (get_or y.own 1 None) refl
  where
    go : (o : Option Value) → get_or y.own 1 None ≡ o → parts_text K y ≡ shown_part K y ++ block (bytes "hide") (show_points K false y.hidden) []
    go None e = rw (order, e, read) (append-nil _)
    go (Some v) e = rw (order, e, read)

-- ── what the code does in this block ──
hide-table : (first : Bool) (p : Pen) (b : Bool) → p.block ≡ 6 → table_for first p b ≡ 15
hide-table first p b e = rw e

hide-done : (t : ℕ) (p : Pen) (rest : Rest) (K : Known) (r : Rule) (v : Value) (ns ns' out out' : List ℕ) (d : Result Pen NoRoom) → p.block ≡ 6 → KeyDone t p rest K 0 r v ns ns' out out' d
    → Draws (ended (line_of K r v)) p.at (moved p (length (ended (line_of K r v))) 6 0) out out' d × (ns' ≡ ns)
hide-done t p rest K r v ns ns' out out' d e w = (rw e at w.draws, rw e at w.notes)

module _ (K : Known) (spool : List ℕ) (first : Bool) (p : Pen) (ns out : List ℕ) (s : Set) (y : Symbol) (ps : List Point) (z : Pens K spool first p ns out (hide s y ps)) (e : Env) (l : Line) (c : e.class ≡ full_class) (st' : State) (q : step_in e l (hide s y ps) ≡ got st') (ns' out' : List ℕ) (d : Result Pen NoRoom) (size : length out' ≡ length out) (many : length ns' ≡ 28) where
  abbrev within : InHide K spool first p ns s y
  within = z.here.1

  -- a point more
  abbrev grown : Value → State
  grown v = hide (with_records (kind_hidden ∷ []) s) y (ps ++ point_at l v ∷ [])

  shown-more : (v : Value) → shown K first (grown v) ≡ shown K first (hide s y ps) ++ line_of K (rule_at (point_table false) 0) v ∷ []
  shown-more v =
      ap (λ (u : Text). symbol_begun K s ++ shown_part K y ++ open_line (bytes "hide") ∷ u)
      (points-last K false ps (point_at l v) ∙ ap (λ (x : List ℕ). show_points K false ps [] ++ x ∷ []) (sym (point-line K v)))
      ∙ sym (append_assoc (symbol_begun K s ++ shown_part K y) (open_line (bytes "hide") ∷ show_points K false ps []) (line_of K (rule_at (point_table false) 0) v ∷ []))

  -- the pen, the notes and the rows stay
  stands : (v : Value) (n : ℕ) → Here K spool first (moved p n 6 0) ns (grown v)
  stands v n = (
    refl,
    record {
      in-symbol =
          let w = within.in-symbol in
          record { front = front-more first (kind_hidden ∷ []) s w.front; start = w.start; slots = w.slots; name = w.name; wall = w.wall; order = w.order };
      read = within.read;
      order = within.order;
    },
  )

  drawn : (v : Value) → Draws (ended (line_of K (rule_at (point_table false) 0) v)) p.at (moved p (length (ended (line_of K (rule_at (point_table false) 0) v))) 6 0) out out' d → ns' ≡ ns
      → LineOut K spool first (grown v) ns' out' d
  drawn v w n =
      let x : List ℕ = line_of K (rule_at (point_table false) 0) v in
      let next : Pen = moved p (length (ended x)) 6 0 in
      on_draws K spool first p ns out (hide s y ps) z (x ∷ []) (grown v) next ns' out' d size (shown-more v)
      (draws-line x p.at next out out' d w) (ap (λ (m : ℕ). p.at + m) (line-long x)) many
      (subst (λ (u : List ℕ). Here K spool first next u (grown v)) (sym n) (stands v (length (ended x))))

  pub hide-key : (key : Span) (rest : Rest) → l.form ≡ keyed (bytes_at spool key) (rest_in spool rest) → PlacedRest rest → FormFits l.form
      → KeyLine spool first key rest p ns ns' out out' d → LineOut K spool first st' ns' out' d
  hide-key key rest f placed fits does =
      acted (hide s y ps) (λ j v. taking e (kind_hidden ∷ []) s λ s'. hide s' y (ps ++ point_at l v ∷ [])) (λ i j v. bad 5) (got (symbol s (symbol_hidden ps y)))
      (known_of s) (digits 0 0) st' (point_table false) (rows_at_limit (length ps) (point_table false)) (bytes_at spool key) (rest_in spool rest)
      (table-keys false 0 0).13 (rw f at fits) (rw f at q) ent (λ j r v h w u o m g. never g)
    where
      ent : (j : ℕ) (r : Rule) (v : Value) → find (bytes_at spool key) (point_table false) ≡ found j r → Row (point_table false) j r → Reads (known_of s) r (rest_in spool rest) v
          → opens_block r.holds v ≡ false → get_or (rows_at_limit (length ps) (point_table false)) j false ≡ false → taking e (kind_hidden ∷ []) s (λ s'. hide s' y (ps ++ point_at l v ∷ [])) ≡ got st' → LineOut K spool first st' ns' out' d
      ent j r v h w u o m g =
          let (j0, r0) = point-row w in
          let t : table_of (table_for first p (is_brace rest)) ≡ point_table false = ap table_of (hide-table first p (is_brace rest) z.here.0) ∙ points-table in
          let h0 : find (bytes_at spool key) (table_of (table_for first p (is_brace rest))) ≡ found 0 (rule_at (point_table false) 0) = ap (find (bytes_at spool key)) t ∙ h ∙ cc in
          let u0 : Reads K (rule_at (point_table false) 0) (rest_in spool rest) v =
          reads_any (known_of s) K (rule_at (point_table false) 0) (rest_in spool rest) v point-nameless (subst (λ (x : Rule). Reads (known_of s) x (rest_in spool rest) v) r0 u) in
          let (x, n) = hide-done _ p rest K (rule_at (point_table false) 0) v ns ns' out out' d z.here.0 (does K 0 (rule_at (point_table false) 0) v h0 u0) in
          subst (λ (a : State). LineOut K spool first a ns' out' d) (took e (kind_hidden ∷ []) s (λ s'. hide s' y (ps ++ point_at l v ∷ [])) st' g) (drawn v x n)

  shown-closed : shown K first (symbol s (symbol_hidden ps y)) ≡ shown K first (hide s y ps) ++ bytes "}" ∷ []
  shown-closed =
      ap (λ (u : Text). symbol_begun K s ++ u)
      (parts-hidden K (symbol_hidden ps y) within.read within.order
      ∙ ap (λ (u : Text). shown_part K y ++ open_line (bytes "hide") ∷ u) (points-more K false ps (bytes "}" ∷ []))
      ∙ sym (append_assoc (shown_part K y) (open_line (bytes "hide") ∷ show_points K false ps []) (bytes "}" ∷ [])))
      ∙ sym (append_assoc (symbol_begun K s) (shown_part K y ++ open_line (bytes "hide") ∷ show_points K false ps []) (bytes "}" ∷ []))
      ∙ ap (λ (u : Text). u ++ bytes "}" ∷ []) (sym (append_assoc (symbol_begun K s) (shown_part K y) (open_line (bytes "hide") ∷ show_points K false ps [])))

  pub hide-close : l.form ≡ close → CloseDone spool first p ns out out' d → ns' ≡ ns → LineOut K spool first st' ns' out' d
  hide-close f does n =
      let g : got (symbol s (symbol_hidden ps y)) ≡ got st' =
      closed (hide s y ps) (λ j v. taking e (kind_hidden ∷ []) s λ s'. hide s' y (ps ++ point_at l v ∷ [])) (λ i j v. bad 5) (got (symbol s (symbol_hidden ps y)))
      (known_of s) (point_table false) (digits 0 0) (rows_at_limit (length ps) (point_table false)) st' (rw f at q) in
      let r : symbol s (symbol_hidden ps y) ≡ st' = cc in
      let next : Pen = moved p 3 5 0 in
      let w = within.in-symbol in
      subst (λ (a : State). LineOut K spool first a ns' out' d) r
      (on_draws K spool first p ns out (hide s y ps) z (bytes "}" ∷ []) (symbol s (symbol_hidden ps y)) next ns' out' d size shown-closed
      (does.hide z.here.0) refl many (
        refl,
        subst (λ (u : List ℕ). InSymbol K spool first next u s (symbol_hidden ps y)) (sym n) record {
          front = w.front;
          start = w.start;
          slots = w.slots;
          name = w.name;
          wall = w.wall;
          order = λ a b. within.order ∙ a;
        },
      ))
