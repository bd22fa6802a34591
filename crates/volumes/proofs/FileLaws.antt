-- A line in FILE_FORMAT: its rows are noted, and written when it closes.
use Rattle.std.specs.Prelude.{Option, Some, None, Result, Ok}
use Prim.Native.Nat.{ℕ, zero, suc, ◌+◌, ◌≤◌, ◌<◌}
use mathlib.Core.Bool.{Bool, true, false, cond, ◌&&◌}
use mathlib.Core.List.{List, [], ◌∷◌, ◌++◌}
use mathlib.Core.Path.{◌≡◌, refl, sym, ◌∙◌, ap, subst}
use native.Mathlib.Omega.{arith}
use borrow.Author.Tests.{ltb-true}
use lib.Dec.{ltb}
use lib.IntN.{pos}
use lib.ListN.{length, get_or, set, take, drop, take-append-drop}
use Rattle.rules.specs.declared.Span.{Span}
use Rattle.rules.specs.Base.{bytes, is_nil, all, split}
use Rattle.rules.specs.RefusalNumbers.{Got, got, map_g, keep, or_bad}
use Rattle.rules.specs.Lines.{Form, close, keyed, Shape, opener, no_content, content, opening, formless, bytes_at}
use Rattle.rules.specs.RangeClass.{digits}
use Rattle.rules.specs.Numbers.{read_fixed}
use Rattle.rules.specs.Values.{Num, num, Value, nums, Known, Part, Kind, range_of_symbols, range_of_wires, nothing_more, values, served_symbols, served_wires, read_part, read_all, agree, read_kind, amount, amount_at}
use Rattle.rules.specs.Rows.{Rule, found, find, Held, part_of, enter, rows_there, slot_value, number_of, inner_of, fits, shape_for, read_shape, Act, entry, shut, refuse, act, complete}
use Rattle.rules.specs.Blocks.{file_table, range_table, base_table, elec_table, sym_table, later_table, file_tables, around}
use Rattle.rules.specs.RecordTable.{rule_at}
use Rattle.rules.specs.Sets.{Contents, Set, with_now, is_first, head_or, known_of}
use Rattle.rules.specs.VolumesAndTotals.{chained, dated}
use Rattle.rules.specs.Machine.{Line, Env, State, top, file, by_act, close_file, shut_part}
use Rattle.rules.specs.LineByLine.{step_in}
use Rattle.rules.specs.Answers.{full_class}
use Rattle.rules.specs.FixedForm.{Text, open_line, opens_block}
use Rattle.rules.proofs.Chains.{clash, never, unless-got, map-got, keep-got, cons-got}
use Rattle.rules.proofs.Rows.{Row, row-all}
use Rattle.promises.proofs.Forms.{keys_ok}
use Rattle.promises.proofs.Nameless.{nameless}
use Rattle.tables.specs.Tables.{table_of}
use Rattle.entries.specs.declared.Rest.{Rest as CodeRest}
use Rattle.entries.specs.Shapes.{rest_in}
use Rattle.entries.specs.Acts.{value_of}
use Rattle.prints.specs.Reading.{Reads}
use Rattle.pens.specs.declared.Pen.{Pen}
use Rattle.pens.specs.Texts.{line_bytes, Draws}
use Rattle.pens.specs.Moves.{moved, file_pen, file_table_of, table_for}
use Rattle.pens.specs.Noting.{note_of, rest_of, notes_from, Noted, tables_of, part_table, NotedParts, show_depth}
use Rattle.pens.specs.Shown.{shown}
use Rattle.pens.specs.Standing.{Served, InFile, Here, Pens}
use Rattle.pens.specs.Keys.{is_brace, KeyDone, KeyLine, PlacedRest}
use Rattle.pens.specs.Closing.{rows_bytes, CloseDone}
use Rattle.pens.specs.Drawing.{FormFits, LineOut}
use Rattle.pens.proofs.Laying.{bytes-append, on_draws}
use Rattle.volumes.proofs.Acted.{reads_any, acted}
use Rattle.pens.proofs.NotedLaws.{noted-line, file-laid, file-tables_of, set-parts}
use Rattle.pens.proofs.ShownLaws.{held_more}
use Rattle.leaves.specs.declared.NoRoom.{NoRoom}

-- ── what a line did that drew nothing, or that closed ──
pub stays : (at : ℕ) (next : Pen) (out out' : List ℕ) (d : Result Pen NoRoom) → at ≤ length out → d ≡ Ok next → out' ≡ out → Draws [] at next out out' d
stays at next out out' d room go same =
    let None : at + 0 ≡ at = omega arith in
    record {
      drawn = λ _. (go, same ∙ sym (ap (λ (n : ℕ). take at out ++ drop n out) None ∙ take-append-drop at out));
      full = λ l. absurd (omega (arith, l, room));
    }

pub shut-got : (here : State) (en : ℕ → Value → Got State) (op : ℕ → ℕ → Value → Got State) (cl : Got State) (b : Bool) (st' : State)
    → by_act here en op (λ _. cl) (cond b shut (refuse 8)) ≡ got st' → cl ≡ got st'
shut-got here en op cl true st' e = e
shut-got here en op cl false st' e = never e

-- ── the tables of FILE_FORMAT's parts ──
abbrev in_first : Bool → Rule → Bool
in_first first r = ltb (inner_of r.holds) (length (file_tables first))

abbrev FileRows : Bool → List Rule → Type 0
FileRows first t = (keys_ok t ≡ true) × (all (λ r. nameless r.holds) t ≡ true) × (all (in_first first) t ≡ true)

file-rows : (first : Bool) (i : ℕ) → FileRows first (get_or (file_tables first) i [])
unfolding file_table range_table base_table elec_table sym_table later_table
file-rows true zero = (refl, refl, refl)
file-rows true (suc zero) = (refl, refl, refl)
file-rows true (suc (suc zero)) = (refl, refl, refl)
file-rows true (suc (suc (suc zero))) = (refl, refl, refl)
file-rows true (suc (suc (suc (suc zero)))) = (refl, refl, refl)
file-rows true (suc (suc (suc (suc (suc i))))) = (refl, refl, refl)
file-rows false zero = (refl, refl, refl)
file-rows false (suc i) = (refl, refl, refl)

-- by number
part-number : (first : Bool) (i : ℕ) → i < length (file_tables first) → file_table_of first i ≡ part_table (cond first 1 6) i
part-number true i l = refl
part-number false zero l = refl
part-number false (suc i) l = absurd (omega (arith, l))

part-table : (first : Bool) (i : ℕ) → i < length (file_tables first) → table_of (part_table (cond first 1 6) i) ≡ get_or (file_tables first) i []
unfolding table_of
part-table true zero l = refl
part-table true (suc zero) l = refl
part-table true (suc (suc zero)) l = refl
part-table true (suc (suc (suc zero))) l = refl
part-table true (suc (suc (suc (suc zero)))) l = refl
part-table true (suc (suc (suc (suc (suc i))))) l = absurd (omega (arith, l))
part-table false zero l = refl
part-table false (suc i) l = absurd (omega (arith, l))

file-table : (first : Bool) (p : Pen) (b : Bool) (i : ℕ) → p.block ≡ 1 → p.part ≡ i → i < length (file_tables first) → table_for first p b ≡ part_table (cond first 1 6) i
file-table first p b i e f l = rw (e, f) (part-number first i l)

-- what such a line promises
file-done : (t : ℕ) (p : Pen) (rest : CodeRest) (k : Known) (j : ℕ) (r : Rule) (v : Value) (ns ns' out out' : List ℕ) (d : Result Pen NoRoom) → p.block ≡ 1 → KeyDone t p rest k j r v ns ns' out out' d
    → Draws [] p.at (file_pen p (opens_block r.holds v) (inner_of r.holds)) out out' d × (ns' ≡ set ns (notes_from t + j) (note_of rest))
file-done t p rest k j r v ns ns' out out' d e z = (rw e (rw e at z.draws), rw e at z.notes)

-- the part around an inner part
around-part : (first : Bool) (i : ℕ) → suc i < length (file_tables first) → around (suc i) < length (file_tables first)
around-part first zero l = omega (arith, l)
around-part first (suc i) l = omega (arith, l)

-- ── E_sym and E_wire, as they were read, are such as are served ──
-- a range of three digits and the test that it must pass
pub record Ranged (p : Part) (served : ℕ → Bool) : Type 0 where
  pub reading : (k : Known) (c : List ℕ) → read_part k p c ≡ map_g (λ (n : ℕ). num (pos n)) (keep 12 served (or_bad 10 (read_fixed 3 c)))
  pub unwritten : served 0 ≡ true

symbols_ranged : Ranged range_of_symbols served_symbols
symbols_ranged = record { reading = λ k c. refl; unwritten = refl }

wires_ranged : Ranged range_of_wires served_wires
wires_ranged = record { reading = λ k c. refl; unwritten = refl }

module _ (p : Part) (served : ℕ → Bool) (ranged : Ranged p served) where
  abbrev range_kind : Kind
  range_kind = values p [] nothing_more

  part-served : (k : Known) (c : List ℕ) (a : Num) → read_part k p c ≡ got a → served (amount a) ≡ true
  part-served k c a e =
      let (n, g, is) = map-got (λ (n : ℕ). num (pos n)) (keep 12 served (or_bad 10 (read_fixed 3 c))) a (sym (ranged.reading k c) ∙ e) in
      let (h, good) = keep-got 12 served (or_bad 10 (read_fixed 3 c)) n g in
      subst (λ (x : Num). served (amount x) ≡ true) is good

  all-served : (k : Known) (ss : List (List ℕ)) (ms : List Num) → read_all k (p ∷ []) ss ≡ got ms → served (amount (get_or ms 0 (num (pos 0)))) ≡ true
  all-served k [] ms e = never e
  all-served k (s ∷ ss) ms e =
      let (a, more, g, h, is) = cons-got (read_part k p s) (read_all k [] ss) ms e in
      subst (λ (x : List Num). served (amount (get_or x 0 (num (pos 0)))) ≡ true) is (part-served k s a g)

  kind-served : (k : Known) (at : ℕ) (c : List ℕ) (v : Value) → read_kind k range_kind at c ≡ got v → served (amount_at v 0) ≡ true
  kind-served k at c v e =
      let (ms, g, is) = map-got nums (keep 11 (agree nothing_more) (read_all k (p ∷ []) (split 44 c))) v e in
      let (h, _) = keep-got 11 (agree nothing_more) (read_all k (p ∷ []) (split 44 c)) ms g in
      subst (λ (x : Value). served (amount_at x 0) ≡ true) is (all-served k (split 44 c) ms h)

  shape-served : (k : Known) (j : ℕ) (r : Rule) (s : Shape) (a : Act) → r.holds ≡ range_kind → fits r.holds false s ≡ true → read_shape k j r s ≡ got a → served (amount_at (value_of a) 0) ≡ true
  shape-served k j r opener a e f g = clash (subst (λ (d : Kind). fits d false opener ≡ true) e f) refl
  shape-served k j r no_content a e f g = clash (subst (λ (d : Kind). fits d false no_content ≡ true) e f) refl
  shape-served k j r (content at c) a e f g =
      let (v, h, is) = map-got (entry j) (read_kind k r.holds at c) a g in
      subst (λ (x : Act). served (amount_at (value_of x) 0) ≡ true) is (kind-served k at c v (ap (λ (d : Kind). read_kind k d at c) (sym e) ∙ h))
  shape-served k j r (opening at c) a e f g = clash (subst (λ (d : Kind). fits d false (opening at c) ≡ true) e f) refl
  shape-served k j r formless a e f g = never g

  slot-served : (spool : List ℕ) (k : Known) (r : Rule) (n : ℕ) (o : Option Value) → r.holds ≡ range_kind → r.may ≡ false → Noted spool k r n o
      → served (amount_at (slot_value o) 0) ≡ true
  slot-served spool k r n None e f z = ranged.unwritten
  slot-served spool k r n (Some v) e f z =
      let (_, reads) = z in
      let s : Shape = shape_for r (rest_of spool r.holds n) in
      subst (λ (x : Value). served (amount_at x 0) ≡ true) reads.value
      (shape-served k reads.number r s reads.act e (subst (λ (b : Bool). fits r.holds b s ≡ true) f reads.fit) reads.read)

-- of a FILE_FORMAT
abbrev ServedIn : Held → Type 0
ServedIn h = (served_symbols (number_of "E_sym" elec_table (part_of h 3)) ≡ true) × (served_wires (number_of "E_wire" elec_table (part_of h 3)) ≡ true)

file-served : (spool : List ℕ) (k : Known) (ns : List ℕ) (h : Held) → NotedParts spool k 1 ns h → ServedIn h
unfolding elec_table
file-served spool k ns h z =
    let rows = (z.parts 3 (omega arith)).rows in (
      slot-served range_of_symbols served_symbols symbols_ranged spool k (rule_at elec_table 0) (get_or ns (23 + 0) 0) (get_or (part_of h 3) 0 None) refl refl (rows 0 (omega arith)),
      slot-served range_of_wires served_wires wires_ranged spool k (rule_at elec_table 1) (get_or ns (23 + 1) 0) (get_or (part_of h 3) 1 None) refl refl (rows 1 (omega arith)),
    )

-- ── FILE_FORMAT closes ──
first-volume : (vs : List Contents) (v : Contents) → is_nil vs ≡ true → head_or v vs ≡ v
first-volume [] v e = refl
first-volume (u ∷ us) v e = clash e refl

later-volume : (vs : List Contents) (v w : Contents) → is_nil vs ≡ false → head_or v vs ≡ head_or w vs
later-volume [] v w e = clash refl e
later-volume (u ∷ us) v w e = refl

-- the set whose volume at hand holds it
abbrev closed_set : Set → ℕ → Held → Set
closed_set s n h = with_now (record { line = n; file = h; blocks = [] }) s

module _ (K : Known) (spool : List ℕ) where
  closed-here : (first : Bool) (p : Pen) (ns : List ℕ) (s : Set) (n : ℕ) (h : Held) (next : Pen) (ns' : List ℕ) → next.block ≡ 0 → InFile K spool first p ns s h 0
      → Here K spool first next ns' (top (closed_set s n h) (cond first 1 3))
  closed-here true p ns s n h next ns' e z =
      let v : Contents = record { line = n; file = h; blocks = [] } in
      let served : Served (closed_set s n h) =
      subst (λ (x : Contents). ServedIn x.file) (sym (first-volume s.volumes v z.volume)) (file-served spool K ns h z.noted) in
      (e, (record { volume = refl; alone = z.volume; empty = refl; served = served }, z.bare refl))
  closed-here false p ns s n h next ns' e z =
      let v : Contents = record { line = n; file = h; blocks = [] } in
      let served : Served (closed_set s n h) =
      subst (λ (x : Contents). ServedIn x.file) (later-volume s.volumes s.now v z.volume) (z.later refl) in
      (e, (record { volume = z.volume; served = served }, refl))

  closed-shown : (first : Bool) (s : Set) (n : ℕ) (h : Held)
      → shown K first (top (closed_set s n h) (cond first 1 3)) ≡ (open_line (bytes "FILE_FORMAT") ∷ []) ++ (show_depth K (tables_of (cond first 1 6)) h 3 0 [] ++ bytes "}" ∷ [])
  closed-shown true s n h = ap (λ (u : Text). open_line (bytes "FILE_FORMAT") ∷ u) (held_more K (file_tables true) h (bytes "}" ∷ []))
  closed-shown false s n h = ap (λ (u : Text). open_line (bytes "FILE_FORMAT") ∷ u) (held_more K (file_tables false) h (bytes "}" ∷ []))

module _ (K : Known) (spool : List ℕ) (first : Bool) (p : Pen) (ns out : List ℕ) (s : Set) (n : ℕ) (h : Held) (i : ℕ) (z : Pens K spool first p ns out (file s n h i)) (e : Env) (l : Line) (c : e.class ≡ full_class) (st' : State) (q : step_in e l (file s n h i) ≡ got st') (ns' out' : List ℕ) (d : Result Pen NoRoom) (size : length out' ≡ length out) (many : length ns' ≡ 28) where
  abbrev table : List Rule
  table = get_or (file_tables first) i []

  -- behind a row that was noted
  entered : (key : Span) (rest : CodeRest) → PlacedRest rest → KeyLine spool first key rest p ns ns' out out' d
      → (j : ℕ) (r : Rule) (v : Value) → find (bytes_at spool key) table ≡ found j r → Row table j r → Reads (known_of s) r (rest_in spool rest) v
      → (m : ℕ) (next : Pen) → file_pen p (opens_block r.holds v) (inner_of r.holds) ≡ next → next.at ≡ p.at + 0 → next.block ≡ 1 → next.part ≡ m → m < length (file_tables first)
      → LineOut K spool first (file s n (enter h i j v) m) ns' out' d
  entered key rest placed line j r v at w reads m next is a b part low =
      let (block, here) = z.here in
      let t : table_for first p (is_brace rest) ≡ part_table (cond first 1 6) i = file-table first p (is_brace rest) i block here.part here.open-part in
      let (draws, notes) = file-done (table_for first p (is_brace rest)) p rest (known_of s) j r v ns ns' out out' d block
      (line (known_of s) j r v (ap (find (bytes_at spool key)) (ap table_of t ∙ part-table first i here.open-part) ∙ at) reads) in
      let reads' : Reads K r (rest_in spool rest) v = reads_any (known_of s) K r (rest_in spool rest) v (row-all (λ r. nameless r.holds) w (file-rows first i).1) reads in
      let ts : file_tables first ≡ tables_of (cond first 1 6) = sym (file-tables_of first) in
      let noted : NotedParts spool K (cond first 1 6) (set ns (notes_from (part_table (cond first 1 6) i) + j) (note_of rest)) (enter h i j v) =
      set-parts spool K (cond first 1 6) ns h i j r (note_of rest) v (file-laid first) z.many
      (subst (λ (u : List (List Rule)). i < length u) ts here.open-part) (subst (λ (u : List (List Rule)). Row (get_or u i []) j r) ts w) (noted-line spool K r rest v placed reads') here.noted in
      on_draws K spool first p ns out (file s n h i) z [] (file s n (enter h i j v) m) next ns' out' d size refl (subst (λ (x : Pen). Draws [] p.at x out out' d) is draws) a many (
        b,
        record {
          part = part;
          volume = here.volume;
          bare = here.bare;
          later = here.later;
          open-part = low;
          noted = subst (λ (u : List ℕ). NotedParts spool K (cond first 1 6) u (enter h i j v)) (sym (notes ∙ ap (λ (m : ℕ). set ns (notes_from m + j) (note_of rest)) t)) noted;
        },
      )

  -- what a line does, by its table
  abbrev does : Bool → Form → Got State
  does b f =
      by_act (file s n h i) (λ j v. got (file s n (enter h i j v) i)) (λ m j v. got (file s n (enter h i j v) m)) (λ _. shut_part i (close_file l s n h) (λ m. file s n h m))
      (act (known_of s) (get_or (file_tables b) i []) (digits 0 0) (rows_there (part_of h i)) f)

  did : (f : Form) → l.form ≡ f → does first f ≡ got st'
  did f g = ap (λ (b : Bool). does b f) (sym z.here.1.volume) ∙ ap (does (is_first s)) (sym g) ∙ q

  pub file-key : (key : Span) (rest : CodeRest) → l.form ≡ keyed (bytes_at spool key) (rest_in spool rest) → PlacedRest rest → FormFits l.form
      → KeyLine spool first key rest p ns ns' out out' d → LineOut K spool first st' ns' out' d
  file-key key rest f placed fit line =
      let (block, here) = z.here in
      acted {P = LineOut K spool first st' ns' out' d} (file s n h i) (λ j v. got (file s n (enter h i j v) i)) (λ m j v. got (file s n (enter h i j v) m))
      (shut_part i (close_file l s n h) (λ m. file s n h m)) (known_of s) (digits 0 0) st' table (rows_there (part_of h i)) (bytes_at spool key) (rest_in spool rest)
      (file-rows first i).0 (subst FormFits f fit) (did (keyed (bytes_at spool key) (rest_in spool rest)) f)
      (λ j r v at w reads o full en.
      let is : file s n (enter h i j v) i ≡ st' = cc in
      subst (λ (x : State). LineOut K spool first x ns' out' d) is
      (entered key rest placed line j r v at w reads i p (ap (λ (b : Bool). file_pen p b (inner_of r.holds)) o) (omega arith) block here.part here.open-part))
      (λ j r v at w reads o full op.
      let is : file s n (enter h i j v) (inner_of r.holds) ≡ st' = cc in
      subst (λ (x : State). LineOut K spool first x ns' out' d) is
      (entered key rest placed line j r v at w reads (inner_of r.holds) (moved p 0 1 (inner_of r.holds)) (ap (λ (b : Bool). file_pen p b (inner_of r.holds)) o) refl refl refl
      (ltb-true (inner_of r.holds) (length (file_tables first)) (row-all (in_first first) w (file-rows first i).2))))

  pub file-close : l.form ≡ close → CloseDone spool first p ns out out' d → ns' ≡ ns → LineOut K spool first st' ns' out' d
  file-close f done notes =
      go i z
      (shut-got (file s n h i) (λ j v. got (file s n (enter h i j v) i)) (λ m j v. got (file s n (enter h i j v) m)) (shut_part i (close_file l s n h) (λ m. file s n h m))
      (complete (digits 0 0) table (rows_there (part_of h i))) st' (did close f))
    where
      go : (i : ℕ) → Pens K spool first p ns out (file s n h i) → shut_part i (close_file l s n h) (λ m. file s n h m) ≡ got st' → LineOut K spool first st' ns' out' d
      go zero z g =
          let (block, here) = z.here in
          let b : ℕ = cond first 1 6 in
          let (_, g') = unless-got (chained (is_first s) l.next h && dated s (is_first s) h) 16 (got (top (closed_set s n h) (cond (is_first s) 1 3))) st' g in
          let is : top (closed_set s n h) (cond (is_first s) 1 3) ≡ st' = cc in
          let rows : Text = show_depth K (tables_of b) h 3 0 [] in
          let text : rows_bytes K b h ≡ line_bytes (rows ++ bytes "}" ∷ []) = sym (bytes-append rows (bytes "}" ∷ [])) in
          let draws : Draws (rows_bytes K b h) p.at (moved p (length (rows_bytes K b h)) 0 0) out out' d = done.file block here.part K h here.noted in
          subst (λ (x : State). LineOut K spool first x ns' out' d) (ap (λ (x : Bool). top (closed_set s n h) (cond x 1 3)) (sym here.volume) ∙ is)
          (on_draws K spool first p ns out (file s n h 0) z (rows ++ bytes "}" ∷ []) (top (closed_set s n h) (cond first 1 3)) (moved p (length (line_bytes (rows ++ bytes "}" ∷ []))) 0 0) ns' out' d size
          (closed-shown K spool first s n h) (subst (λ (x : List ℕ). Draws x p.at (moved p (length x) 0 0) out out' d) text draws) refl many
          (closed-here K spool first p ns s n h (moved p (length (line_bytes (rows ++ bytes "}" ∷ []))) 0 0) ns' refl here))
      go (suc i) z g =
          let (block, here) = z.here in
          let (went, same) = done.file-part block i here.part in
          let is : file s n h (around (suc i)) ≡ st' = cc in
          let next : Pen = moved p 0 1 (around (suc i)) in
          subst (λ (x : State). LineOut K spool first x ns' out' d) is
          (on_draws K spool first p ns out (file s n h (suc i)) z [] (file s n h (around (suc i))) next ns' out' d size refl (stays p.at next out out' d z.fits went same) refl many (
            refl,
            record {
              part = refl;
              volume = here.volume;
              bare = here.bare;
              later = here.later;
              open-part = around-part first i here.open-part;
              noted = subst (λ (u : List ℕ). NotedParts spool K (cond first 1 6) u h) (sym notes) here.noted;
            },
          ))
