-- The lines of an open wire: what they write for each key that repeats, gone over from its opener on, stays what the wire holds of it.
use Rattle.std.specs.Prelude.{Some}
use Prim.Native.Nat.{ℕ, zero, suc, ◌+◌, ◌-◌, ◌≤◌}
use mathlib.Core.Bool.{Bool, true, false, cond, ◌&&◌, ◌||◌, not}
use mathlib.Core.List.{List, [], ◌∷◌, ◌++◌, map}
use mathlib.Core.Path.{◌≡◌, refl, sym, ◌∙◌, ap, subst}
use native.Mathlib.Omega.{arith}
use borrow.Author.Tests.{ne_eqb, eq-eqb, eqb-true, le-leb}
use lib.Dec.{eqb, leb, ltb}
use lib.ListN.{length, get_or, set}
use lib.Seq.{get_or-set_same, get_or-set_other}
use Rattle.rules.specs.Base.{bytes, is_nil, among, has_number}
use Rattle.rules.specs.RefusalNumbers.{got}
use Rattle.rules.specs.Lines.{Rest, Form, ignored, wrong, close, eof, keyed, free_shape_of}
use Rattle.rules.specs.RangeClass.{digits, digits_of, exceeds, both, skip_of, reaches, knows_wires}
use Rattle.rules.specs.Values.{Num, Value, nums, Known, nums_of, amount_at, is_layer_id, served_wires}
use Rattle.rules.specs.Rows.{Rule, Found, absent, found, find, Slots, blank, Held, rows_there, rows_at_limit, Act, act, act_row, act_unknown, part_of, complete}
use Rattle.rules.specs.Blocks.{top_table, file_tables, drawing_table, most_layers, symbol_table, defines_table, element_table}
use Rattle.rules.specs.Figures.{point_table, text_table, least_points, placed_table, placed_tables, wire_table, wire_text_table}
use Rattle.rules.specs.RecordTable.{rule_at, kind_edge, kind_wire, kind_wire_more}
use Rattle.rules.specs.Sets.{Edge, Wire, Figure, wired, Drawing, Symbol, Set, with_records, symbol_own, is_first, known_of, arc_of, define_range, range_of, join_digit, wire_range, wires_of, used_in}
use Rattle.rules.specs.VolumesAndTotals.{chained, dated, counted_here, counted_all, layers_used, partners_exist}
use Rattle.rules.specs.Machine.{Line, Env, Home, in_element, in_layer, State, top, file, drawing, layer_names, defines, symbol, hide, elements, figures, successive, texts, placing, skipping, ended, tests_partners, open_top, on_top, close_file, on_file, layer_value, on_layer_names, new_name, open_symbol, is_layer, home_table, close_figures, open_figure, on_figures, taking, no_wire, begin_wire, symbol_block, wire_block, wire_unread}
use Rattle.rules.specs.PlacedSymbol.{on_unknown, new_serial, on_placed, on_placed_key, on_placed_own, on_placing}
use Rattle.rules.specs.Wires.{joins_ends, last_edge, join_of, joined, with_element, group_at, with_groups, with_once, with_texts, is_group_row, with_attribute, nums_alike, new_number, on_wire_own, on_wire_text}
use Rattle.rules.specs.LineByLine.{step_in}
use Rattle.rules.specs.Answers.{full_class}
use Rattle.rules.specs.FixedForm.{Text, open_line, no_inner, line_of, show_group, show_slots, show_wire_texts}
use Rattle.rules.proofs.Chains.{On, on-unless, on-cond, on_then, on-got, never, clash, unless-got}
use Rattle.rules.proofs.Rows.{Row}
use Rattle.promises.proofs.ClosedActs.{on-by_act}
use Rattle.rules.proofs.OnActs.{on-taking, on-shut, on_skip}
use Rattle.prints.specs.Reading.{Reads}
use Rattle.pens.specs.declared.Pen.{Pen}
use Rattle.pens.specs.Drawing.{FormFits}
use Rattle.pens.specs.Passing.{LinesAt, forms_of, Amid, outside, inside, amid_by, Pass}
use Rattle.pens.specs.Standing.{Here, Since, Along}
use Rattle.promises.proofs.RowGood.{numbers_only}
use Rattle.pens.proofs.Laying.{room}
use Rattle.pens.proofs.ShownLaws.{group-snoc, texts-snoc}
use Rattle.volumes.proofs.FrontSteps.{took}
use Rattle.volumes.proofs.HomeLaws.{shut-did}
use Rattle.volumes.proofs.FigureLaws.{row-nums}
use Rattle.volumes.proofs.WireRows.{row_is, number-row, wire-acted, text-acted}

-- the `text` row's line
five-line : (k : Known) (v : Value) → line_of k (rule_at wire_table 5) v ≡ open_line (bytes "text")
unfolding wire_table
five-line k v = refl

text-line : (k : Known) (r : Rule) (v : Value) → Row wire_table 5 r → line_of k r v ≡ open_line (bytes "text")
text-line k r v w = ap (λ (q : Rule). line_of k q v) (sym (row_is w)) ∙ five-line k v

-- two numbers that differ
apart : (i j : ℕ) → (i ≡ j → ⊥) → eqb i j ≡ false
apart i j f = ne_eqb i j f

-- a group with one line more, and another one
group-same : (w : Wire) (j : ℕ) (v : Value) → 2 ≤ j → j ≤ 4 → length w.groups ≡ 3 → group_at (with_attribute w j v) j ≡ group_at w j ++ nums_of v ∷ []
group-same w j v lo hi three =
    rw (le-leb 2 j lo, le-leb j 4 hi) (get_or-set_same w.groups (j - 2) (group_at w j ++ nums_of v ∷ []) [] (omega (arith, three, hi)))

group-other : (w : Wire) (i j : ℕ) (v : Value) → 2 ≤ i → 2 ≤ j → j ≤ 4 → (i ≡ j → ⊥) → group_at (with_attribute w i v) j ≡ group_at w j
group-other w i j v li lo hi ne = go (is_group_row i)
  where
    go : (b : Bool) → get_or (cond b (with_groups (set w.groups (i - 2) (group_at w i ++ nums_of v ∷ [])) w) (with_once (set w.own i (Some v)) w)).groups (j - 2) [] ≡ group_at w j
    go true = get_or-set_other w.groups (i - 2) (j - 2) (group_at w i ++ nums_of v ∷ []) [] (λ q. ne (omega (arith, q, li, lo)))
    go false = refl

texts-kept : (w : Wire) (i : ℕ) (v : Value) → (with_attribute w i v).texts ≡ w.texts
texts-kept w i v = go (is_group_row i)
  where
    go : (b : Bool) → (cond b (with_groups (set w.groups (i - 2) (group_at w i ++ nums_of v ∷ [])) w) (with_once (set w.own i (Some v)) w)).texts ≡ w.texts
    go true = refl
    go false = refl

module _ (spool body : List ℕ) (start : ℕ) where
  -- ── a line of a wire ──
  module _ (from : ℕ) (fs : List Form) (k : Known) where
    -- directly in it: what it writes for the row j
    own_pass : (key : List ℕ) (x : Rest) (i : ℕ) (r : Rule) (v : Value) → find key wire_table ≡ found i r → Reads k r x v → (j : ℕ) (t : Text) → Pass k j fs (amid_by i) t
        → Pass k j (keyed key x ∷ fs) outside (cond (eqb i j) (line_of k r v ∷ t) t)
    own_pass key x i r v f u j t p = record { row = i; rule = r; value = v; rest = t; found-so = f; reads = u; text = refl; goes = p }

    -- a row that neither repeats nor opens
    plain_since : (w w' : Wire) (key : List ℕ) (x : Rest) (i : ℕ) (r : Rule) (v : Value) → find key wire_table ≡ found i r → Reads k r x v
        → ((j : ℕ) → 2 ≤ j → j ≤ 5 → i ≡ j → ⊥) → ((j : ℕ) → 2 ≤ j → j ≤ 4 → group_at w' j ≡ group_at w j) → w'.texts ≡ w.texts
        → Since spool body start from (keyed key x ∷ fs) k w 0 → Since spool body start from fs k w' 0
    plain_since w w' key x i r v f u ne groups same z =
        let amid : amid_by i ≡ outside = ap (λ (b : Bool). cond b (inside (blank wire_text_table)) outside) (apart i 5 (ne 5 (omega arith) (omega arith))) in
        let on : (j : ℕ) → 2 ≤ j → j ≤ 5 → (t : Text) → Pass k j fs outside t → Pass k j (keyed key x ∷ fs) outside t =
        λ j lo hi t p. subst (Pass k j (keyed key x ∷ fs) outside) (ap (λ (b : Bool). cond b (line_of k r v ∷ t) t) (apart i j (ne j lo hi)))
        (own_pass key x i r v f u j t (subst (λ (a : Amid). Pass k j fs a t) (sym amid) p)) in
        record {
          lines = z.lines;
          there = z.there;
          groups = λ j lo hi t p.
              subst (λ (g : List (List Num)). Pass k j (forms_of from z.lines) outside (show_group k (rule_at wire_table j) g t)) (sym (groups j lo hi)) (z.groups j lo hi t (on j lo (omega (arith, hi)) t p));
          texts = λ t p. subst (λ (ss : List Slots). Pass k 5 (forms_of from z.lines) outside (show_wire_texts k ss t)) (sym same) (z.texts t (on 5 (omega arith) (omega arith) t p));
        }

    -- a row that repeats
    group_since : (w : Wire) (key : List ℕ) (x : Rest) (i : ℕ) (r : Rule) (v : Value) → find key wire_table ≡ found i r → Row wire_table i r → Reads k r x v → 2 ≤ i → i ≤ 4 → length w.groups ≡ 3
        → Since spool body start from (keyed key x ∷ fs) k w 0 → Since spool body start from fs k (with_attribute w i v) 0
    group_since w key x i r v f row u lo hi three z =
        let amid : amid_by i ≡ outside = ap (λ (b : Bool). cond b (inside (blank wire_text_table)) outside) (apart i 5 (λ q. omega (arith, q, hi))) in
        record {
          lines = z.lines;
          there = z.there;
          groups = λ j jl jh t p. by j jl jh t (own_pass key x i r v f u j t (subst (λ (a : Amid). Pass k j fs a t) (sym amid) p)) (eqb i j) refl;
          texts = λ t p.
              subst (λ (ss : List Slots). Pass k 5 (forms_of from z.lines) outside (show_wire_texts k ss t)) (sym (texts-kept w i v))
              (z.texts t (subst (Pass k 5 (keyed key x ∷ fs) outside) (ap (λ (b : Bool). cond b (line_of k r v ∷ t) t) (apart i 5 (λ q. omega (arith, q, hi))))
              (own_pass key x i r v f u 5 t (subst (λ (a : Amid). Pass k 5 fs a t) (sym amid) p))));
        }
      where
        by : (j : ℕ) → 2 ≤ j → j ≤ 4 → (t : Text) → Pass k j (keyed key x ∷ fs) outside (cond (eqb i j) (line_of k r v ∷ t) t) → (b : Bool) → eqb i j ≡ b
            → Pass k j (forms_of from z.lines) outside (show_group k (rule_at wire_table j) (group_at (with_attribute w i v) j) t)
        by j jl jh t p true e =
            let is : i ≡ j = eqb-true i j e in
            let line : line_of k (rule_at wire_table j) (nums (nums_of v)) ≡ line_of k r v = subst (λ (n : ℕ). line_of k (rule_at wire_table n) (nums (nums_of v)) ≡ line_of k r v) is (row-nums row (subst (λ (q : Rule). numbers_only q.holds ≡ true) (row_is row) (number-row i hi)) k v) in
            let more : show_group k (rule_at wire_table j) (group_at (with_attribute w i v) j) t ≡ show_group k (rule_at wire_table j) (group_at w j) (line_of k r v ∷ t) =
            ap (λ (n : ℕ). show_group k (rule_at wire_table j) (group_at (with_attribute w n v) j) t) is
            ∙ ap (λ (g : List (List Num)). show_group k (rule_at wire_table j) g t) (group-same w j v jl jh three)
            ∙ group-snoc k (rule_at wire_table j) (group_at w j) (nums_of v) t
            ∙ ap (λ (u : List ℕ). show_group k (rule_at wire_table j) (group_at w j) (u ∷ t)) line in
            subst (Pass k j (forms_of from z.lines) outside) (sym more) (z.groups j jl jh (line_of k r v ∷ t) (subst (λ (b : Bool). Pass k j (keyed key x ∷ fs) outside (cond b (line_of k r v ∷ t) t)) e p))
        by j jl jh t p false e =
            subst (λ (g : List (List Num)). Pass k j (forms_of from z.lines) outside (show_group k (rule_at wire_table j) g t)) (sym (group-other w i j v lo jl jh (λ q. clash (eq-eqb i j q) e)))
            (z.groups j jl jh t (subst (λ (b : Bool). Pass k j (keyed key x ∷ fs) outside (cond b (line_of k r v ∷ t) t)) e p))

    -- its text opens
    opens_since : (w : Wire) (key : List ℕ) (x : Rest) (r : Rule) (v : Value) → find key wire_table ≡ found 5 r → Row wire_table 5 r → Reads k r x v
        → Since spool body start from (keyed key x ∷ fs) k w 0 → Since spool body start from fs k (with_texts w.texts (blank wire_text_table) w) 1
    opens_since w key x r v f row u z = record {
      lines = z.lines;
      there = z.there;
      groups = λ j lo hi t p.
          z.groups j lo hi t (subst (Pass k j (keyed key x ∷ fs) outside) (ap (λ (b : Bool). cond b (line_of k r v ∷ t) t) (apart 5 j (λ q. omega (arith, q, hi)))) (own_pass key x 5 r v f u j t p));
      texts = λ t p. subst (λ (y : List ℕ). Pass k 5 (forms_of from z.lines) outside (show_wire_texts k w.texts (y ∷ t))) (text-line k r v row) (z.texts (line_of k r v ∷ t) (own_pass key x 5 r v f u 5 t p));
    }

    -- a line of that text
    text_since : (w : Wire) (i : ℕ) (key : List ℕ) (x : Rest) (j : ℕ) (r : Rule) (v : Value) → find key wire_text_table ≡ found j r → Reads k r x v
        → Since spool body start from (keyed key x ∷ fs) k w (suc i) → Since spool body start from fs k (with_texts w.texts (set w.writing j (Some v)) w) (suc i)
    text_since w i key x j r v f u z = record {
      lines = z.lines;
      there = z.there;
      groups = λ n lo hi t p. z.groups n lo hi t (record { row = j; rule = r; value = v; found-so = f; reads = u; goes = p });
      texts = λ t p. z.texts t (record { row = j; rule = r; value = v; found-so = f; reads = u; goes = p });
    }

    -- and its `}`
    shut_since : (w : Wire) (i : ℕ) → Since spool body start from (close ∷ fs) k w (suc i) → Since spool body start from fs k (with_texts (w.texts ++ w.writing ∷ []) [] w) 0
    shut_since w i z = record {
      lines = z.lines;
      there = z.there;
      groups = λ j lo hi t p.
          z.groups j lo hi t (record { rest = t; text = sym (ap (λ (b : Bool). cond b (show_slots k wire_text_table w.writing no_inner (bytes "}" ∷ t)) t) (apart j 5 (λ q. omega (arith, q, hi)))); goes = p });
      texts = λ t p.
          subst (Pass k 5 (forms_of from z.lines) outside) (sym (texts-snoc k w.texts w.writing t))
          (z.texts (show_slots k wire_text_table w.writing no_inner (bytes "}" ∷ t)) (record { rest = t; text = refl; goes = p }));
    }

  -- ── a wire's line ──
  module _ (from : ℕ) (fs : List Form) (e : Env) (l : Line) (c : e.class ≡ full_class) (fits : FormFits l.form) (st' : State) (s : Set) (m : ℕ) (gs : List Figure) (n : ℕ) (w : Wire)
      (three : length w.groups ≡ 3) (served : served_wires (wire_range s) ≡ true) where
    abbrev to : State → Type 0
    to st = Along spool body start from fs st

    own-along : (f : Form) → l.form ≡ f → Since spool body start from (f ∷ fs) (known_of s) w 0 → on_wire_own e l s m gs n w f ≡ got st' → to st'
    own-along ignored g z q = let is : placing s m gs n (wire_block w) 0 ≡ st' = cc in subst to is record { lines = z.lines; there = z.there; groups = z.groups; texts = z.texts }
    own-along (wrong i) g z q = never q
    own-along close g z q =
        shut-did (placing s m gs n (wire_block w) 0) _ _ _ (complete (both e.class.wires (wires_of s)) wire_table (rows_there w.own)) st' q
        λ a. let is : figures s (in_layer m) (gs ++ wired n w ∷ []) ≡ st' = cc in subst to is tt
    own-along eof g z q = never q
    own-along (keyed key x) g z q =
        wire-acted e l c s m gs n w key x (subst FormFits g fits) st' served q
        (λ j r v f row u lt a.
        let ends = joins_ends (join_digit s) in
        let former = last_edge w.elements in
        let ks : List ℕ = (kind_edge + j) ∷ [] in
        let edge : Edge = record { line = l.line; row = j; values = nums_of v; join = join_of ends former j } in
        let next : Set → State = λ s'. placing s' m gs n (wire_block (with_element w edge)) 0 in
        subst to (took e ks s next st' (unless-got (joined ends former j (nums_of v)) 11 (taking e ks s next) st' a).1)
        (plain_since from fs (known_of s) w (with_element w edge) key x j r v f u (λ i lo hi same. omega (arith, lt, lo, same)) (λ i lo hi. refl) refl z))
        (λ j r v f row u lo ne o a. attribute j r v f row u lo ne (unless-got (new_number s gs j v) 15 _ st' (unless-got (nums_alike w j (nums_of v)) 11 _ st' a).1).1)
        (λ j r v f row u five a.
        let is : placing s m gs n (wire_block (with_texts w.texts (blank wire_text_table) w)) 1 ≡ st' = cc in
        subst to is (opens_since from fs (known_of s) w key x r v (subst (λ (i : ℕ). find key wire_table ≡ found i r) five f) (subst (λ (i : ℕ). Row wire_table i r) five row) u z))
      where
        attribute : (j : ℕ) (r : Rule) (v : Value) → find key wire_table ≡ found j r → Row wire_table j r → Reads (known_of s) r x v → 2 ≤ j → (j ≡ 5 → ⊥)
            → got (placing s m gs n (wire_block (with_attribute w j v)) 0) ≡ got st' → to st'
        attribute j r v f row u lo ne a =
            let is : placing s m gs n (wire_block (with_attribute w j v)) 0 ≡ st' = cc in
            subst to is (room j 4
            (λ hi. group_since from fs (known_of s) w key x j r v f row u lo hi three z)
            (λ hi. plain_since from fs (known_of s) w (with_attribute w j v) key x j r v f u (λ i il ih same. ne (omega (arith, same, ih, hi)))
            (λ i il ih. group-other w j i v lo il ih (λ same. omega (arith, same, ih, hi))) (texts-kept w j v) z))

    text-along : (i : ℕ) (f : Form) → l.form ≡ f → Since spool body start from (f ∷ fs) (known_of s) w (suc i) → on_wire_text s m gs n w (suc i) f ≡ got st' → to st'
    text-along i ignored g z q = let is : placing s m gs n (wire_block w) (suc i) ≡ st' = cc in subst to is record { lines = z.lines; there = z.there; groups = z.groups; texts = z.texts }
    text-along i (wrong k) g z q = never q
    text-along i close g z q =
        shut-did (placing s m gs n (wire_block w) (suc i)) _ _ _ (complete (digits 0 0) wire_text_table (rows_there w.writing)) st' q
        λ a. let is : placing s m gs n (wire_block (with_texts (w.texts ++ w.writing ∷ []) [] w)) 0 ≡ st' = cc in subst to is (shut_since from fs (known_of s) w i z)
    text-along i eof g z q = never q
    text-along i (keyed key x) g z q =
        text-acted e l c s m gs n w key x (subst FormFits g fits) st' (suc i) q
        λ j r v f row u a.
        let is : placing s m gs n (wire_block (with_texts w.texts (set w.writing j (Some v)) w)) (suc i) ≡ st' = cc in
        subst to is (text_since from fs (known_of s) w i key x j r v f u z)

    pub wire-along : (i : ℕ) → Since spool body start from (l.form ∷ fs) (known_of s) w i → step_in e l (placing s m gs n (wire_block w) i) ≡ got st' → to st'
    wire-along zero z q = own-along l.form refl z q
    wire-along (suc i) z q = text-along i l.form refl z q

  -- ── elsewhere ──
  module _ (next : ℕ) (ls : List (List ℕ)) (left : LinesAt spool body start next ls) (e : Env) (l : Line) where
    abbrev P : State → Type 0
    P st = Along spool body start next (forms_of next ls) st

    -- a wire begins
    new_since : (k : Known) → Since spool body start next (forms_of next ls) k no_wire 0
    new_since k = record {
      lines = ls;
      there = left;
      groups = λ j lo hi t p. subst (λ (g : List (List Num)). Pass k j (forms_of next ls) outside (show_group k (rule_at wire_table j) g t)) (sym (none_yet (j - 2))) p;
      texts = λ t p. p;
    }
      where
        none_yet : (i : ℕ) → get_or no_wire.groups i [] ≡ []
        none_yet zero = refl
        none_yet (suc zero) = refl
        none_yet (suc (suc zero)) = refl
        none_yet (suc (suc (suc i))) = refl

    open-along : (s : Set) (h : Home) (gs : List Figure) (i : ℕ) → On P (open_figure e l s h gs i)
    open-along s h gs zero = tt
    open-along s h gs (suc zero) = on-taking P e 1 s _ λ _. tt
    open-along s h gs (suc (suc zero)) = on-taking P e 1 s _ λ _. tt
    open-along s (in_element y) gs (suc (suc (suc zero))) = tt
    open-along s (in_layer m) gs (suc (suc (suc zero))) = on-taking P e 1 s _ λ _. tt
    open-along s (in_element y) gs (suc (suc (suc (suc i)))) = tt
    open-along s (in_layer m) gs (suc (suc (suc (suc i)))) = on-taking P e 2 s _ λ _. begins (knows_wires e.class)
      where
        begins : (b : Bool) → P (begin_wire b (with_records (kind_wire ∷ kind_wire_more ∷ []) s) m gs l.line)
        begins true = new_since (known_of s)
        begins false = tt

    shut-along : (s : Set) (h : Home) (gs : List Figure) → On P (close_figures s h gs)
    shut-along s (in_element y) gs = on-unless P (not (is_nil gs)) 8 _ λ _. tt
    shut-along s (in_layer m) gs = tt

    figures-along : (s : Set) (h : Home) (gs : List Figure) (f : Form) → On P (on_figures e l s h gs f)
    figures-along s h gs f =
        on-by_act P (figures s h gs) _ _ _ (act (known_of s) (home_table s h) (range_of s) (rows_at_limit 0 (home_table s h)) f) tt
        (λ j v. on-taking P e 1 s _ λ _. tt) (λ i j v a. open-along s h gs i) (shut-along s h gs)

    -- from no other block does a wire begin
    top-opens : (s : Set) (j : ℕ) → On P (open_top e l s j)
    top-opens s zero = on-taking P e _ s _ λ _. tt
    top-opens s (suc zero) = on-taking P e 1 s _ λ _. tt
    top-opens s (suc (suc zero)) = tt
    top-opens s (suc (suc (suc j))) = tt

    top-along : (s : Set) (k : ℕ) (f : Form) → On P (on_top e l s k f)
    top-along s k ignored = tt
    top-along s k (wrong i) = tt
    top-along s k close = tt
    top-along s k eof =
        on-unless P (eqb k 4 && (is_nil l.next && l.last)) 9 _ λ _. on-unless P (layers_used s) 14 _ λ _. on-unless P (counted_all s) 17 _ λ _.
        on-unless P (not (tests_partners e.class s) || partners_exist s) 21 _ λ _. tt
    top-along s k (keyed key x) =
        on-by_act P (top s k) _ _ _ (act (known_of s) top_table (digits 0 0) (rows_at_limit 0 top_table) (keyed key x)) tt (λ j v. tt) (λ i j v a. on-unless P (eqb j k) 9 _ λ _. top-opens s j) tt

    file-shut : (s : Set) (n : ℕ) (h : Held) → On P (close_file l s n h)
    file-shut s n h = on-unless P (chained (is_first s) l.next h && dated s (is_first s) h) 16 _ λ _. tt

    file-along : (s : Set) (n : ℕ) (h : Held) (i : ℕ) (f : Form) → On P (on_file l s n h i f)
    file-along s n h i f =
        on-by_act P (file s n h i) _ _ _ (act (known_of s) (get_or (file_tables (is_first s)) i []) (digits 0 0) (rows_there (part_of h i)) f) tt (λ j v. tt) (λ i j v a. tt)
        (on-shut P i (close_file l s n h) (λ q. file s n h q) (file-shut s n h) (λ q. tt))

    names-along : (s : Set) (d : Drawing) (f : Form) → On P (on_layer_names e l s d f)
    names-along s d ignored = tt
    names-along s d (wrong i) = tt
    names-along s d close = tt
    names-along s d eof = tt
    names-along s d (keyed k x) =
        on-unless P (is_layer_id k) 6 _ λ _. on_then P (layer_value k (free_shape_of x)) _ λ v q. on-unless P (ltb (length d.layers) most_layers) 11 _ λ _.
        on-unless P (not (among k (map (λ y. y.id) d.layers))) 14 _ λ _. on-taking P e 1 s _ λ _. tt

    symbol-opens : (s : Set) (y : Symbol) (i : ℕ) → On P (open_symbol s y i)
    symbol-opens s y zero = tt
    symbol-opens s y (suc zero) = tt
    symbol-opens s y (suc (suc i)) = tt

    module _ (s : Set) (m : ℕ) (gs : List Figure) (n : ℕ) (o : Held) where
      placed-acts : (i : ℕ) (a : Act) → On P (on_placed s m gs n o i a)
      placed-acts i a =
          on-by_act P (placing s m gs n (symbol_block o) i) _ _ _ a tt (λ j v. on-unless P (new_serial s gs v) 15 _ λ _. tt) (λ i j v q. tt)
          (on-shut P i _ (λ q. placing s m gs n (symbol_block o) q) tt (λ q. tt))

      placed-unknown : (k : List ℕ) (x : Rest) → On P (on_unknown e s m gs n o k x)
      placed-unknown k x =
          on-cond P (exceeds (range_of s) e.class.symbols) _ _ (λ _. on_skip P (skip_of k x) _ _ tt tt)
          (λ _. on-by_act P (placing s m gs n (symbol_block o) 0) _ _ _ (act_unknown x) tt (λ j v. tt) (λ i j v a. tt) tt)

      placed-key : (k : List ℕ) (x : Rest) (g : Found) → On P (on_placed_key e s m gs n o k x g)
      placed-key k x absent = placed-unknown k x
      placed-key k x (found j r) =
          on-cond P (reaches e.class.symbols r.least) _ _ (λ _. placed-acts 0 (act_row (known_of s) (range_of s) (get_or (rows_there (part_of o 0)) j false) j r x)) (λ _. placed-unknown k x)

      placed-own : (f : Form) → On P (on_placed_own e s m gs n o f)
      placed-own ignored = tt
      placed-own (wrong i) = tt
      placed-own close = placed-acts 0 (act (known_of s) placed_table (both e.class.symbols (range_of s)) (rows_there (part_of o 0)) close)
      placed-own eof = tt
      placed-own (keyed k x) = placed-key k x (find k placed_table)

      placed-along : (i : ℕ) (f : Form) → On P (on_placing e s m gs n o i f)
      placed-along zero f = placed-own f
      placed-along (suc i) f = placed-acts (suc i) (act (known_of s) (get_or placed_tables (suc i) []) (digits 0 0) (rows_there (part_of o (suc i))) f)

    -- a wire that is open, or what is skipped, is none of these
    abbrev pub Elsewhere : State → Type 0
    Elsewhere (top s k) = Unit {0}
    Elsewhere (file s n h i) = Unit {0}
    Elsewhere (drawing s d) = Unit {0}
    Elsewhere (layer_names s d) = Unit {0}
    Elsewhere (defines s b) = Unit {0}
    Elsewhere (symbol s y) = Unit {0}
    Elsewhere (hide s y ps) = Unit {0}
    Elsewhere (elements s) = Unit {0}
    Elsewhere (figures s h gs) = Unit {0}
    Elsewhere (successive s h gs n ps) = Unit {0}
    Elsewhere (texts s h gs n o) = Unit {0}
    Elsewhere (placing s m gs n (symbol_block o) i) = Unit {0}
    Elsewhere (placing s m gs n (wire_block w) i) = ⊥
    Elsewhere (placing s m gs n wire_unread i) = Unit {0}
    Elsewhere (skipping s m gs n o d) = ⊥
    Elsewhere (ended s) = Unit {0}

    others-along : (st : State) → Elsewhere st → On P (step_in e l st)
    others-along (top s k) x = top-along s k l.form
    others-along (file s n h i) x = file-along s n h i l.form
    others-along (drawing s d) x = on-by_act P (drawing s d) _ _ _ (act (known_of s) drawing_table (digits_of (arc_of s)) (rows_there d.own) l.form) tt (λ j v. tt) (λ i j v a. tt) tt
    others-along (layer_names s d) x = names-along s d l.form
    others-along (defines s b) x =
        on-by_act P (defines s b) _ _ _ (act (known_of s) defines_table (digits_of (define_range s)) (b ∷ false ∷ []) l.form) tt (λ j v. on-unless P (is_nil s.symbols) 6 _ λ _. tt)
        (λ i j v a. on-unless P (not b) 6 _ λ _. on-taking P e 1 s _ λ _. tt) (on-unless P (b || not (is_nil s.symbols)) 8 _ λ _. tt)
    others-along (symbol s y) x =
        on-by_act P (symbol s y) _ _ _ (act (known_of s) symbol_table (digits_of (define_range s)) (rows_there y.own) l.form) tt
        (λ j v. on-unless P (new_name s (symbol_own (set y.own j (Some v)) y)) 15 _ λ _. tt) (λ i j v a. symbol-opens s (symbol_own (set y.own j (Some v)) y) i) tt
    others-along (hide s y ps) x =
        on-by_act P (hide s y ps) _ _ _ (act (known_of s) (point_table false) (digits 0 0) (rows_at_limit (length ps) (point_table false)) l.form) tt (λ j v. on-taking P e 1 s _ λ _. tt) (λ i j v a. tt) tt
    others-along (elements s) x =
        on-by_act P (elements s) _ _ _ (act (known_of s) element_table (digits 0 0) (rows_at_limit 0 element_table) l.form) tt (λ j v. tt)
        (λ i j v a. on-unless P (not (has_number (amount_at v 0) (used_in s.now))) 14 _ λ _. tt) (on-unless P (counted_here s) 17 _ λ _. tt)
    others-along (figures s h gs) x = figures-along s h gs l.form
    others-along (successive s h gs n ps) x =
        on-by_act P (successive s h gs n ps) _ _ _ (act (known_of s) (point_table (is_layer h)) (digits 0 0) (rows_at_limit (length ps) (point_table (is_layer h))) l.form) tt
        (λ j v. on-taking P e 1 s _ λ _. tt) (λ i j v a. tt) (on-unless P (leb least_points (length ps)) 8 _ λ _. tt)
    others-along (texts s h gs n o) x =
        on-by_act P (texts s h gs n o) _ _ _ (act (known_of s) (text_table (is_layer h) 4 12) (digits 0 0) (rows_there o) l.form) tt (λ j v. tt) (λ i j v a. tt) tt
    others-along (placing s m gs n (symbol_block o) i) x = placed-along s m gs n o i l.form
    others-along (placing s m gs n (wire_block w) i) x = absurd x
    others-along (placing s m gs n wire_unread i) x = tt
    others-along (skipping s m gs n o d) x = absurd x
    others-along (ended s) x = tt

    pub elsewhere : (st st' : State) → Elsewhere st → step_in e l st ≡ got st' → P st'
    elsewhere st st' x q = on-got P (step_in e l st) st' (others-along st x) q

  -- ── any line ──
  -- from: the place of the line behind the opener of the wire that is open; elsewhere it is that of the next line
  module _ (K : Known) (first : Bool) (p : Pen) (ns : List ℕ) (from next : ℕ) (ls : List (List ℕ)) (left : LinesAt spool body start next ls) (e : Env) (l : Line) (c : e.class ≡ full_class) (fits : FormFits l.form) (st' : State) where
    abbrev there : Bool → Type 0
    there b = Along spool body start (cond b from next) (forms_of next ls) st'

    not_in-wire : (b : ℕ) (st : State) → p.block ≡ b → eqb b 12 ≡ false → Elsewhere next ls left e l st → step_in e l st ≡ got st' → there (eqb p.block 12)
    not_in-wire b st h n x q = subst there (sym (ap (λ (i : ℕ). eqb i 12) h ∙ n)) (elsewhere next ls left e l st st' x q)

    pub along-step : (st : State) → Here K spool first p ns st → Along spool body start from (l.form ∷ forms_of next ls) st → step_in e l st ≡ got st' → there (eqb p.block 12)
    along-step (top s k) h a q = not_in-wire 0 (top s k) h.0 refl tt q
    along-step (file s n o i) h a q = not_in-wire 1 (file s n o i) h.0 refl tt q
    along-step (drawing s d) h a q = not_in-wire 2 (drawing s d) h.0 refl tt q
    along-step (layer_names s d) h a q = not_in-wire 3 (layer_names s d) h.0 refl tt q
    along-step (defines s b) h a q = not_in-wire 4 (defines s b) h.0 refl tt q
    along-step (symbol s y) h a q = not_in-wire 5 (symbol s y) h.0 refl tt q
    along-step (hide s y ps) h a q = not_in-wire 6 (hide s y ps) h.0 refl tt q
    along-step (elements s) h a q = not_in-wire 7 (elements s) h.0 refl tt q
    along-step (figures s g gs) h a q = not_in-wire 8 (figures s g gs) h.0 refl tt q
    along-step (successive s g gs n ps) h a q = not_in-wire 9 (successive s g gs n ps) h.0 refl tt q
    along-step (texts s g gs n o) h a q = not_in-wire 10 (texts s g gs n o) h.0 refl tt q
    along-step (placing s m gs n (symbol_block o) i) h a q = not_in-wire 11 (placing s m gs n (symbol_block o) i) h.0 refl tt q
    along-step (placing s m gs n (wire_block w) i) h a q =
        subst there (sym (ap (λ (b : ℕ). eqb b 12) h.0)) (wire-along from (forms_of next ls) e l c fits st' s m gs n w h.1.groups h.1.home.0.served.1 i a q)
    along-step (placing s m gs n wire_unread i) h a q = absurd h
    along-step (skipping s m gs n o d) h a q = absurd h
    along-step (ended s) h a q = never q
