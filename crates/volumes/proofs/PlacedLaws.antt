-- A line in a placed symbol's block.
use Rattle.std.specs.Prelude.{Result, Ok}
use Prim.Native.Nat.{ℕ, zero, suc, ◌+◌, ◌/◌, ◌%◌, ◌≤◌, ◌<◌}
use mathlib.Core.Bool.{Bool, true, false, ◌||◌}
use mathlib.Core.List.{List, [], ◌∷◌, ◌++◌, append_assoc}
use mathlib.Core.Path.{◌≡◌, refl, sym, ◌∙◌, ap, subst}
use native.Mathlib.Omega.{arith}
use borrow.Author.Tests.{leb-true, le-ltb, eqb-true}
use lib.Dec.{eqb, leb}
use lib.ListN.{length, get_or, set, take, drop, take-append-drop}
use Rattle.rules.specs.declared.Span.{Span}
use Rattle.rules.specs.declared.Class.{Class}
use Rattle.rules.specs.Base.{bytes, all, within}
use Rattle.rules.specs.RefusalNumbers.{Got, got, bad, unless}
use Rattle.rules.specs.Lines.{close, keyed, shape_of, has_form, bytes_at}
use Rattle.rules.specs.RangeClass.{digits, digits_of, reaches, exceeds, both}
use Rattle.rules.specs.Values.{Value, Known, Kind, values, text, word, volume_name, sheet, ratio, serials, wire_serial, symbol_circle, nothing, opens, headed, either, served_symbols}
use Rattle.rules.specs.Rows.{Rule, Found, absent, found, find, Held, part_of, enter, rows_there, or_refuse, inner_of, complete}
use Rattle.rules.specs.Figures.{text_table, placed_table, placed_tables}
use Rattle.rules.specs.Sets.{Figure, placed, Set, symbol_range, range_of, known_of}
use Rattle.rules.specs.Machine.{Line, Env, in_layer, State, figures, placing, by_act, symbol_block}
use Rattle.rules.specs.PlacedSymbol.{new_serial, on_placed_key, on_placing}
use Rattle.rules.specs.LineByLine.{step_in}
use Rattle.rules.specs.Answers.{full_class}
use Rattle.rules.specs.FixedForm.{Text, open_line, opens_block, show_held}
use Rattle.rules.proofs.Chains.{never, clash, same-eq, and_left, and_right, cond_true, unless-got}
use Rattle.rules.proofs.Rows.{Row, found-row, row-all}
use Rattle.promises.proofs.Forms.{key_ok, table-keys}
use Rattle.tables.specs.Tables.{table_of}
use Rattle.entries.specs.declared.Rest.{Rest as CodeRest}
use Rattle.entries.specs.Shapes.{rest_in}
use Rattle.prints.specs.Reading.{Reads}
use Rattle.pens.specs.declared.Pen.{Pen}
use Rattle.pens.specs.Texts.{line_bytes, Draws}
use Rattle.pens.specs.Moves.{moved, placed_pen, key_pen, table_for}
use Rattle.pens.specs.Noting.{note_of, notes_from, part_table, NotedParts}
use Rattle.pens.specs.Shown.{figures_text}
use Rattle.pens.specs.Standing.{Pens}
use Rattle.pens.specs.Keys.{is_brace, KeyLine, PlacedRest}
use Rattle.pens.specs.Closing.{rows_bytes, CloseDone}
use Rattle.pens.specs.Drawing.{FormFits, LineOut}
use Rattle.pens.proofs.Laying.{bytes-append, on_draws}
use Rattle.volumes.proofs.Acted.{acted, row-acted}
use Rattle.volumes.proofs.HomeLaws.{shut-did, on-nothing, key-noted, notes-at, text-more}
use Rattle.volumes.proofs.FigureLaws.{no_block}
use Rattle.pens.proofs.NotedLaws.{noted-line, placed-laid, set-parts}
use Rattle.pens.proofs.ShownLaws.{opens_nothing, opens_not, held_more}
use Rattle.leaves.specs.declared.NoRoom.{NoRoom}

-- ── class 15 knows every key, and no range that is served exceeds it ──
served-full : (n : ℕ) → served_symbols n ≡ true → exceeds (digits_of n) full_class.symbols ≡ false
served-full n e = go (within 0 5 n) refl e
  where
    few : n / 10 % 10 ≤ 1 → n % 10 ≤ 5 → exceeds (digits_of n) full_class.symbols ≡ false
    few m l = rw (le-ltb 1 (n / 10 % 10) m, le-ltb 5 (n % 10) l)

    go : (b : Bool) → within 0 5 n ≡ b → (b || within 11 15 n) ≡ true → exceeds (digits_of n) full_class.symbols ≡ false
    go true q e = let hi = leb-true n 5 (and_right (leb 0 n) _ q) in few (omega (arith, hi)) (omega (arith, hi))
    go false q e =
        let lo = leb-true 11 n (and_left (leb 11 n) _ e) in
        let hi = leb-true n 15 (and_right (leb 11 n) _ e) in
        few (omega (arith, lo, hi)) (omega (arith, lo, hi))

-- `text` alone opens, and its own rows open nothing
abbrev pub opens_text : Kind → Bool
opens_text (values p ps a) = true
opens_text (text n b) = true
opens_text (word n b) = true
opens_text volume_name = true
opens_text sheet = true
opens_text ratio = true
opens_text serials = true
opens_text wire_serial = true
opens_text symbol_circle = true
opens_text nothing = true
opens_text (opens i) = eqb i 1
opens_text (headed i p) = false
opens_text (either i) = false

placed-rows : (all (λ r. reaches full_class.symbols r.least) placed_table ≡ true) × (all (λ r. opens_text r.holds) placed_table ≡ true) × (all opens_nothing (text_table true 16 24) ≡ true)
unfolding placed_table text_table
placed-rows = (refl, refl, refl)

pub opens-text : (d : Kind) (v : Value) → opens_text d ≡ true → opens_block d v ≡ true → d ≡ opens 1
opens-text (values p ps a) v e o = clash o refl
opens-text (text n b) v e o = clash o refl
opens-text (word n b) v e o = clash o refl
opens-text volume_name v e o = clash o refl
opens-text sheet v e o = clash o refl
opens-text ratio v e o = clash o refl
opens-text serials v e o = clash o refl
opens-text wire_serial v e o = clash o refl
opens-text symbol_circle v e o = clash o refl
opens-text nothing v e o = clash o refl
opens-text (opens i) v e o = ap opens (eqb-true i 1 e)
opens-text (headed i p) v e o = clash e refl
opens-text (either i) v e o = clash e refl

-- the part that is open has this table
placed-table : (first : Bool) (p : Pen) (i : ℕ) (c : Bool) → p.block ≡ 11 → p.part ≡ i → i < 2
    → (table_of (table_for first p c) ≡ get_or placed_tables i []) × (table_for first p c ≡ part_table 18 i)
unfolding table_of
placed-table first p zero c h l m = (rw (h, l), rw (h, l))
placed-table first p (suc zero) c h l m = (rw (h, l), rw (h, l))
placed-table first p (suc (suc i)) c h l m = absurd (omega (arith, m))

-- a key that is not known is refused
pub unknown : {P : Type 0} (here : State) (en : ℕ → Value → Got State) (op : ℕ → ℕ → Value → Got State) (cl : Got State) (b : Bool) (st : State)
    → by_act here en op (λ _. cl) (or_refuse (unless b 5 (bad 6))) ≡ got st → P
unknown here en op cl true st q = never q
unknown here en op cl false st q = never q

-- a part closes: nothing is written
pub part_draws : (at : ℕ) (next : Pen) (out out' : List ℕ) (d : Result Pen NoRoom) → at ≤ length out → d ≡ Ok next → out' ≡ out → Draws [] at next out out' d
part_draws at next out out' d fits go kept = record {
  drawn = λ _. (go, kept ∙ sym (take-append-drop at out) ∙ ap (λ (n : ℕ). take at out ++ drop n out) {x = at} {y = at + 0} (omega arith));
  full = λ f. absurd (omega (arith, f, fits));
}

placed_pen_lem : (p : Pen) (j : ℕ) (d : Kind) (opened : Bool) (inner n : ℕ) → p.block ≡ 11 → key_pen p j d opened inner n ≡ placed_pen p d
placed_pen_lem p j d opened inner n h = rw h

module _ (K : Known) (spool : List ℕ) (first : Bool) (p : Pen) (ns out : List ℕ) (e : Env) (l : Line) (c : e.class ≡ full_class)
    (st' : State) (ns' out' : List ℕ) (d : Result Pen NoRoom) (size : length out' ≡ length out) (many : length ns' ≡ 28)
    (s : Set) (m : ℕ) (fs : List Figure) (n : ℕ) (o : Held) where
  module _ (i : ℕ) (z : Pens K spool first p ns out (placing s m fs n (symbol_block o) i)) (key : Span) (rest : CodeRest) (place : PlacedRest rest) (line : KeyLine spool first key rest p ns ns' out out' d)
      (j : ℕ) (r : Rule) (v : Value) (f : find (bytes_at spool key) (get_or placed_tables i []) ≡ found j r) (w : Row (get_or placed_tables i []) j r) (u : Reads (known_of s) r (rest_in spool rest) v) where
    -- a row is noted, and another part may be open behind it
    noted : (i' : ℕ) (p' : Pen) → i' < 2 → p'.part ≡ i' → p'.block ≡ 11 → p'.layered ≡ p.layered → p'.at ≡ p.at → placed_pen p r.holds ≡ p'
        → LineOut K spool first (placing s m fs n (symbol_block (enter o i j v)) i') ns' out' d
    noted i' p' le part b layered at pen =
        let b11 = z.here.0 in
        let old = z.here.1 in
        let (table, number) = placed-table first p i (is_brace rest) b11 old.part old.open-part in
        let done = line (known_of s) j r v (ap (find (bytes_at spool key)) table ∙ f) u in
        let notes : ns' ≡ set ns (notes_from (part_table 18 i) + j) (note_of rest) =
        done.notes ∙ notes-at p 11 b11 (table_for first p (is_brace rest)) j r.holds (inner_of r.holds) (note_of rest) ns ∙ ap (λ (t : ℕ). set ns (notes_from t + j) (note_of rest)) number in
        key-noted K spool first p ns out (placing s m fs n (symbol_block o) i) z (placing s m fs n (symbol_block (enter o i j v)) i') p' ns' out' d size many (table_for first p (is_brace rest)) rest (known_of s) j r v done
        (rw b11) (placed_pen_lem p j r.holds (opens_block r.holds v) (inner_of r.holds) 0 b11 ∙ pen) at refl (
          b,
          record {
            home = (old.home.0, layered ∙ old.home.1);
            part = part;
            open-part = le;
            noted = subst (λ (x : List ℕ). NotedParts spool (known_of s) 18 x (enter o i j v)) (sym notes)
                (set-parts spool (known_of s) 18 ns o i j r (note_of rest) v placed-laid z.many old.open-part w (noted-line spool (known_of s) r rest v place u) old.noted);
          },
        )

    enters : opens_block r.holds v ≡ false → unless (new_serial s fs v) 15 (got (placing s m fs n (symbol_block (enter o i j v)) i)) ≡ got st' → LineOut K spool first st' ns' out' d
    enters x q =
        let is = (unless-got (new_serial s fs v) 15 (got (placing s m fs n (symbol_block (enter o i j v)) i)) st' q).1 in
        let is' : placing s m fs n (symbol_block (enter o i j v)) i ≡ st' = cc in
        let old = z.here.1 in
        subst (λ (st : State). LineOut K spool first st ns' out' d) is' (noted i p old.open-part old.part z.here.0 refl refl (rw (no_block r.holds v x)))

    opens-part : r.holds ≡ opens 1 → got (placing s m fs n (symbol_block (enter o i j v)) (inner_of r.holds)) ≡ got st' → LineOut K spool first st' ns' out' d
    opens-part h q =
        let q' : got (placing s m fs n (symbol_block (enter o i j v)) 1) ≡ got st' = ap (λ (d : Kind). got (placing s m fs n (symbol_block (enter o i j v)) (inner_of d))) (sym h) ∙ q in
        let is : placing s m fs n (symbol_block (enter o i j v)) 1 ≡ st' = cc in
        subst (λ (st : State). LineOut K spool first st ns' out' d) is (noted 1 (moved p 0 11 1) (omega arith) refl refl refl (omega arith) (rw h))

  -- ── a line with a key ──
  module _ (key : Span) (rest : CodeRest) (form : l.form ≡ keyed (bytes_at spool key) (rest_in spool rest)) (place : PlacedRest rest) (fit : FormFits l.form) (line : KeyLine spool first key rest p ns ns' out out' d) where
    own_key : (z : Pens K spool first p ns out (placing s m fs n (symbol_block o) 0)) (g : Found) → find (bytes_at spool key) placed_table ≡ g
        → on_placed_key e s m fs n o (bytes_at spool key) (rest_in spool rest) g ≡ got st' → LineOut K spool first st' ns' out' d
    own_key z absent f q =
        unknown (placing s m fs n (symbol_block o) 0) (λ j v. bad 6) (λ i j v. bad 6) (bad 6) (has_form (shape_of (rest_in spool rest))) st'
        (rw (c, served-full (symbol_range s) z.here.1.home.0.served.0) at q)
    own_key z (found j r) f q =
        let (w, same_key) = found-row (bytes_at spool key) placed_table j r f in
        let knows : reaches e.class.symbols r.least ≡ true = ap (λ (x : Class). reaches x.symbols r.least) c ∙ row-all (λ r. reaches full_class.symbols r.least) w placed-rows.0 in
        row-acted (placing s m fs n (symbol_block o) 0) _ _ _ (known_of s) (range_of s) st' (get_or (rows_there (part_of o 0)) j false) j r (rest_in spool rest)
        (row-all (λ r. key_ok r.key) w (table-keys true 0 0).15)
        (subst (λ (x : List ℕ). FormFits (keyed x (rest_in spool rest))) (same-eq (bytes_at spool key) r.key same_key) (subst FormFits form fit))
        (cond_true (reaches e.class.symbols r.least) _ _ (got st') knows q)
        (λ v u x full a. enters 0 z key rest place line j r v f w u x a)
        (λ v u x full a. opens-part 0 z key rest place line j r v f w u (opens-text r.holds v (row-all (λ r. opens_text r.holds) w placed-rows.1) x) a)

    text-key : (z : Pens K spool first p ns out (placing s m fs n (symbol_block o) 1)) → step_in e l (placing s m fs n (symbol_block o) 1) ≡ got st' → LineOut K spool first st' ns' out' d
    text-key z q =
        acted (placing s m fs n (symbol_block o) 1) _ _ _ (known_of s) (digits 0 0) st' (text_table true 16 24) (rows_there (part_of o 1)) (bytes_at spool key) (rest_in spool rest)
        (table-keys true 16 24).14 (subst FormFits form fit) (ap (on_placing e s m fs n o 1) (sym form) ∙ q)
        (λ j r v f w u x full a. enters 1 z key rest place line j r v f w u x a)
        (λ j r v f w u x full a. clash x (opens_not r v (row-all opens_nothing w placed-rows.2)))

  pub placing-key : (i : ℕ) → Pens K spool first p ns out (placing s m fs n (symbol_block o) i) → step_in e l (placing s m fs n (symbol_block o) i) ≡ got st'
      → (key : Span) (rest : CodeRest) → l.form ≡ keyed (bytes_at spool key) (rest_in spool rest) → PlacedRest rest → FormFits l.form
      → KeyLine spool first key rest p ns ns' out out' d → LineOut K spool first st' ns' out' d
  placing-key zero z q key rest form place fit line =
      own_key key rest form place fit line z (find (bytes_at spool key) placed_table) refl (ap (on_placing e s m fs n o 0) (sym form) ∙ q)
  placing-key (suc zero) z q key rest form place fit line = text-key key rest form place fit line z q
  placing-key (suc (suc i)) z q key rest form place fit line = absurd (omega (arith, z.here.1.open-part))

  -- ── `}` ──
  module _ (form : l.form ≡ close) (done : CloseDone spool first p ns out out' d) (notes : ns' ≡ ns) where
    own-close : Pens K spool first p ns out (placing s m fs n (symbol_block o) 0) → got (figures s (in_layer m) (fs ++ placed n o ∷ [])) ≡ got st' → LineOut K spool first st' ns' out' d
    own-close z q =
        let fs' = fs ++ placed n o ∷ [] in
        let is : figures s (in_layer m) fs' ≡ st' = cc in
        let k = known_of s in
        let old = z.here.1 in
        let shut : Text = bytes "}" ∷ [] in
        let X = show_held k placed_tables o shut in
        let p' = moved p (length (line_bytes X)) 8 0 in
        let F = figures_text K first s (in_layer m) fs in
        let rows : rows_bytes k 18 o ≡ line_bytes X = sym (bytes-append (show_held k placed_tables o []) shut) ∙ ap line_bytes (sym (held_more k placed_tables o shut)) in
        subst (λ (st : State). LineOut K spool first st ns' out' d) is
        (on_draws K spool first p ns out (placing s m fs n (symbol_block o) 0) z X (figures s (in_layer m) fs') p' ns' out' d size
        (text-more K first s (in_layer m) fs (placed n o) ∙ sym (append_assoc F (open_line (bytes "E_symbol") ∷ []) X))
        (subst (λ (u : List ℕ). Draws u p.at (moved p (length u) 8 0) out out' d) rows (done.placed z.here.0 old.part k o old.noted))
        refl many (refl, old.home))

    text-close : Pens K spool first p ns out (placing s m fs n (symbol_block o) 1) → got (placing s m fs n (symbol_block o) 0) ≡ got st' → LineOut K spool first st' ns' out' d
    text-close z q =
        let is : placing s m fs n (symbol_block o) 0 ≡ st' = cc in
        let old = z.here.1 in
        let p' = moved p 0 11 0 in
        let (go, kept) = done.placed-text z.here.0 0 old.part in
        subst (λ (st : State). LineOut K spool first st ns' out' d) is
        (on-nothing K spool first p ns out (placing s m fs n (symbol_block o) 1) z (placing s m fs n (symbol_block o) 0) p' ns' out' d size many refl
        (part_draws p.at p' out out' d z.fits go kept) (omega arith)
        (refl, record { home = old.home; part = refl; open-part = omega arith; noted = subst (λ (x : List ℕ). NotedParts spool (known_of s) 18 x o) (sym notes) old.noted }))

  pub placing-close : (i : ℕ) → Pens K spool first p ns out (placing s m fs n (symbol_block o) i) → step_in e l (placing s m fs n (symbol_block o) i) ≡ got st'
      → l.form ≡ close → CloseDone spool first p ns out out' d → ns' ≡ ns → LineOut K spool first st' ns' out' d
  placing-close zero z q form done notes =
      shut-did (placing s m fs n (symbol_block o) 0) _ _ _ (complete (both e.class.symbols (range_of s)) placed_table (rows_there (part_of o 0))) st' (ap (on_placing e s m fs n o 0) (sym form) ∙ q) (own-close form done notes z)
  placing-close (suc zero) z q form done notes =
      shut-did (placing s m fs n (symbol_block o) 1) _ _ _ (complete (digits 0 0) (text_table true 16 24) (rows_there (part_of o 1))) st' (ap (on_placing e s m fs n o 1) (sym form) ∙ q) (text-close form done notes z)
  placing-close (suc (suc i)) z q form done notes = absurd (omega (arith, z.here.1.open-part))
