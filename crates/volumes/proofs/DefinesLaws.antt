-- A line in SYMBOL_DEFINE.
use Rattle.std.specs.Prelude.{Result}
use Prim.Native.Nat.{ℕ, zero, suc, ◌+◌}
use mathlib.Core.Bool.{Bool, true, false, cond, ◌||◌, not}
use mathlib.Core.List.{List, [], ◌∷◌, ◌++◌, append_assoc, append-nil}
use mathlib.Core.Path.{◌≡◌, refl, sym, ◌∙◌, ap, subst}
use native.Mathlib.Omega.{arith}
use borrow.Author.Tests.{not-true}
use lib.ListN.{length, get_or, length-append}
use Rattle.rules.specs.declared.Span.{Span}
use Rattle.rules.specs.Base.{bytes, is_nil}
use Rattle.rules.specs.RefusalNumbers.{got, unless}
use Rattle.rules.specs.Lines.{close, keyed, bytes_at}
use Rattle.rules.specs.RangeClass.{digits_of}
use Rattle.rules.specs.Values.{Value, Known}
use Rattle.rules.specs.Rows.{Rule, found, find, blank}
use Rattle.rules.specs.Blocks.{defines_table, symbol_table}
use Rattle.rules.specs.Sets.{Symbol, Set, with_records, define_range, known_of}
use Rattle.rules.specs.RecordTable.{rule_at, kind_symbol}
use Rattle.rules.specs.Answers.{full_class}
use Rattle.rules.specs.Machine.{Line, Env, State, top, defines, symbol, taking}
use Rattle.rules.specs.LineByLine.{step_in}
use Rattle.rules.specs.FixedForm.{Text, open_line, opens_block, line_of, show_symbols, show_defines}
use Rattle.rules.proofs.Chains.{clash, unless-got}
use Rattle.rules.proofs.Rows.{Row, row_below}
use Rattle.tables.specs.Tables.{table_of}
use Rattle.entries.specs.declared.Rest.{Rest}
use Rattle.entries.specs.Shapes.{rest_in}
use Rattle.prints.specs.Reading.{Reads}
use Rattle.promises.proofs.Forms.{table-keys}
use Rattle.promises.proofs.Nameless.{nameless}
use Rattle.pens.specs.declared.Pen.{Pen}
use Rattle.pens.specs.Texts.{ended, line_bytes, Draws}
use Rattle.pens.specs.Moves.{moved, begun, table_for}
use Rattle.pens.specs.Noting.{forgotten}
use Rattle.pens.specs.Keys.{is_brace, KeyDone, KeyLine, PlacedRest}
use Rattle.pens.specs.Closing.{CloseDone}
use Rattle.pens.specs.Shown.{front_text, top_text, defines_begun, symbol_begun, shown}
use Rattle.pens.specs.Standing.{Front, InSymbol, Pens}
use Rattle.pens.specs.Drawing.{FormFits, LineOut}
use Rattle.pens.proofs.Laying.{bytes-append, on_draws}
use Rattle.volumes.proofs.Acted.{reads_any, acted}
use Rattle.pens.proofs.NotedLaws.{zeros-at}
use Rattle.pens.proofs.ShownLaws.{symbols-more}
use Rattle.volumes.proofs.FrontSteps.{took, closed, row_is, front-more}
use Rattle.leaves.specs.declared.NoRoom.{NoRoom}

-- ── the two rows ──
abbrev rule : ℕ → Rule
rule j = rule_at defines_table j

-- which of them a line is, by whether it opens a block
entry_row : (j : ℕ) (r : Rule) (v : Value) → Row defines_table j r → opens_block r.holds v ≡ false → (j ≡ 0) × (r ≡ rule 0)
unfolding defines_table
entry_row zero r v w o = (refl, row_is w)
entry_row (suc zero) r v w o = clash refl (ap (λ (x : Rule). opens_block x.holds v) (sym (row_is w)) ∙ o)
entry_row (suc (suc j)) r v w o = absurd (omega (arith, row_below w))

begin-row : (j : ℕ) (r : Rule) (v : Value) → Row defines_table j r → opens_block r.holds v ≡ true → (j ≡ 1) × (r ≡ rule 1)
unfolding defines_table
begin-row zero r v w o = clash (ap (λ (x : Rule). opens_block x.holds v) (sym (row_is w)) ∙ o) refl
begin-row (suc zero) r v w o = (refl, row_is w)
begin-row (suc (suc j)) r v w o = absurd (omega (arith, row_below w))

-- what their lines are, and that they name nothing
rows-lines : (K : Known) (v : Value) → (line_of K (rule 0) v ≡ bytes "NON=") × (line_of K (rule 1) v ≡ open_line (bytes "E_symbol")) × (nameless (rule 0).holds ≡ true) × (nameless (rule 1).holds ≡ true)
unfolding defines_table
rows-lines K v = (refl, refl, refl, refl)

define-table : (first : Bool) (p : Pen) (b : Bool) → p.block ≡ 4 → table_of (table_for first p b) ≡ defines_table
unfolding table_of
define-table first p b e = rw e

nil_is : {A : Type 0} (s : List A) → is_nil s ≡ true → s ≡ []
nil_is [] e = refl
nil_is (a ∷ s) e = clash e refl

-- what stands in the block when it closes
defines-closed : (K : Known) (b : Bool) (ys : List Symbol) → (b ≡ true → ys ≡ []) → (b || not (is_nil ys)) ≡ true
    → show_defines K ys (bytes "}" ∷ []) ≡ cond b (bytes "NON=" ∷ []) (show_symbols K ys []) ++ bytes "}" ∷ []
defines-closed K true ys n g = ap (λ (us : List Symbol). show_defines K us (bytes "}" ∷ [])) (n refl)
defines-closed K false [] n g = clash g refl
defines-closed K false (y ∷ ys) n g = symbols-more K (y ∷ ys) (bytes "}" ∷ [])

-- ── what the code does in this block ──
module _ (t : ℕ) (p : Pen) (rest : Rest) (K : Known) (r : Rule) (v : Value) (ns ns' out out' : List ℕ) (d : Result Pen NoRoom) (e : p.block ≡ 4) where
  non-done : KeyDone t p rest K 0 r v ns ns' out out' d → Draws (ended (line_of K r v)) p.at (moved p (length (ended (line_of K r v))) 4 0) out out' d × (ns' ≡ ns)
  non-done w = (rw e at w.draws, rw e at w.notes)

  symbol-done : KeyDone t p rest K 1 r v ns ns' out out' d → Draws (ended (line_of K r v)) p.at (begun p (length (ended (line_of K r v))) 5) out out' d × (ns' ≡ forgotten ns)
  symbol-done w = (rw e at w.draws, rw e at w.notes)

module _ (K : Known) (spool : List ℕ) (first : Bool) (p : Pen) (ns out : List ℕ) (s : Set) (b : Bool) (z : Pens K spool first p ns out (defines s b)) (e : Env) (l : Line) (c : e.class ≡ full_class) (st' : State) (q : step_in e l (defines s b) ≡ got st') (ns' out' : List ℕ) (d : Result Pen NoRoom) (size : length out' ≡ length out) (many : length ns' ≡ 28) where
  abbrev front : Front first s
  front = z.here.1

  -- a symbol of which nothing is read
  abbrev fresh : Symbol
  fresh = record { line = l.line; own = blank symbol_table; figures = []; hidden = []; hide_first = false }

  abbrev ahead : Text
  ahead = top_text K true s 2

  abbrev first_line : List ℕ
  first_line = open_line (bytes "SYMBOL_DEFINE")

  -- ── `NON=` ──
  none_yet : b ≡ false → s.symbols ≡ [] → shown K first (defines s b) ≡ ahead ++ first_line ∷ []
  none_yet f n = ap (defines_begun K s) f ∙ ap (λ (ys : List Symbol). ahead ++ first_line ∷ show_symbols K ys []) n

  non-shown : b ≡ false → s.symbols ≡ [] → shown K first (defines s true) ≡ shown K first (defines s b) ++ bytes "NON=" ∷ []
  non-shown f n = sym (append_assoc ahead (first_line ∷ []) (bytes "NON=" ∷ [])) ∙ ap (λ (u : Text). u ++ bytes "NON=" ∷ []) (sym (none_yet f n))

  non-drawn : b ≡ false → s.symbols ≡ [] → Draws (ended (bytes "NON=")) p.at (moved p (length (ended (bytes "NON="))) 4 0) out out' d → ns' ≡ ns → LineOut K spool first (defines s true) ns' out' d
  non-drawn f n w m =
      on_draws K spool first p ns out (defines s b) z (bytes "NON=" ∷ []) (defines s true) (moved p 6 4 0) ns' out' d size (non-shown f n) w refl many (refl, front, λ _. n)

  -- ── a symbol's first line ──
  abbrev opening : List ℕ
  opening = open_line (bytes "E_symbol")

  symbol-shown : b ≡ false → shown K first (symbol (with_records (kind_symbol ∷ []) s) fresh) ≡ shown K first (defines s b) ++ opening ∷ []
  unfolding symbol_table
  symbol-shown f = append-nil (symbol_begun K s) ∙ ap (λ (x : Bool). defines_begun K s x ++ opening ∷ []) (sym f)

  begins : b ≡ false → p.at + 12 ≡ length (line_bytes (symbol_begun K s))
  begins f =
      omega (
        arith,
        z.at,
        ap (λ (x : Bool). length (line_bytes (defines_begun K s x))) f,
        ap length (bytes-append (defines_begun K s false) (opening ∷ [])),
        length-append (line_bytes (defines_begun K s false)) (line_bytes (opening ∷ [])),
      )

  symbol-stands : b ≡ false → ns' ≡ forgotten ns → InSymbol K spool first (begun p 12 5) ns' (with_records (kind_symbol ∷ []) s) fresh
  unfolding symbol_table
  symbol-stands f n = record {
    front = front-more first (kind_symbol ∷ []) s front;
    start = begins f;
    slots = refl;
    name = ap (λ (u : List ℕ). get_or u 0 0) n ∙ zeros-at (length ns) 0;
    wall = ap (λ (u : List ℕ). get_or u 3 0) n ∙ zeros-at (length ns) 3;
    order = λ u w. clash w refl;
  }

  symbol-drawn : b ≡ false → Draws (ended opening) p.at (begun p (length (ended opening)) 5) out out' d → ns' ≡ forgotten ns → LineOut K spool first (symbol (with_records (kind_symbol ∷ []) s) fresh) ns' out' d
  symbol-drawn f w n =
      on_draws K spool first p ns out (defines s b) z (opening ∷ []) (symbol (with_records (kind_symbol ∷ []) s) fresh) (begun p 12 5) ns' out' d size (symbol-shown f) w refl many (refl, symbol-stands f n)

  pub defines-key : (key : Span) (rest : Rest) → l.form ≡ keyed (bytes_at spool key) (rest_in spool rest) → PlacedRest rest → FormFits l.form
      → KeyLine spool first key rest p ns ns' out out' d → LineOut K spool first st' ns' out' d
  defines-key key rest f placed fits does =
      acted (defines s b) (λ j v. unless (is_nil s.symbols) 6 (got (defines s true))) (λ i j v. unless (not b) 6 (taking e (kind_symbol ∷ []) s λ s'. symbol s' fresh))
      (unless (b || not (is_nil s.symbols)) 8 (got (top s 3))) (known_of s) (digits_of (define_range s)) st' defines_table (b ∷ false ∷ []) (bytes_at spool key) (rest_in spool rest)
      (table-keys false 0 0).8 (rw f at fits) (rw f at q) ent beg
    where
      t : find (bytes_at spool key) (table_of (table_for first p (is_brace rest))) ≡ find (bytes_at spool key) defines_table
      t = ap (find (bytes_at spool key)) (define-table first p (is_brace rest) z.here.0)

      ent : (j : ℕ) (r : Rule) (v : Value) → find (bytes_at spool key) defines_table ≡ found j r → Row defines_table j r → Reads (known_of s) r (rest_in spool rest) v
          → opens_block r.holds v ≡ false → get_or (b ∷ false ∷ []) j false ≡ false → unless (is_nil s.symbols) 6 (got (defines s true)) ≡ got st' → LineOut K spool first st' ns' out' d
      ent j r v h w u o m g =
          let (j0, r0) = entry_row j r v w o in
          let (same, _, plain, _) = rows-lines K v in
          let b0 : b ≡ false = ap (λ (i : ℕ). get_or (b ∷ false ∷ []) i false) (sym j0) ∙ m in
          let h0 : find (bytes_at spool key) (table_of (table_for first p (is_brace rest))) ≡ found 0 (rule 0) = t ∙ h ∙ cc in
          let u0 : Reads K (rule 0) (rest_in spool rest) v = reads_any (known_of s) K (rule 0) (rest_in spool rest) v plain (subst (λ (x : Rule). Reads (known_of s) x (rest_in spool rest) v) r0 u) in
          let (x, n) = non-done _ p rest K (rule 0) v ns ns' out out' d z.here.0 (does K 0 (rule 0) v h0 u0) in
          let (i, g') = unless-got (is_nil s.symbols) 6 (got (defines s true)) st' g in
          let st : defines s true ≡ st' = cc in
          subst (λ (a : State). LineOut K spool first a ns' out' d) st (non-drawn b0 (nil_is s.symbols i) (rw same at x) n)

      beg : (j : ℕ) (r : Rule) (v : Value) → find (bytes_at spool key) defines_table ≡ found j r → Row defines_table j r → Reads (known_of s) r (rest_in spool rest) v
          → opens_block r.holds v ≡ true → get_or (b ∷ false ∷ []) j false ≡ false → unless (not b) 6 (taking e (kind_symbol ∷ []) s λ s'. symbol s' fresh) ≡ got st' → LineOut K spool first st' ns' out' d
      beg j r v h w u o m g =
          let (j1, r1) = begin-row j r v w o in
          let (_, same, _, plain) = rows-lines K v in
          let h1 : find (bytes_at spool key) (table_of (table_for first p (is_brace rest))) ≡ found 1 (rule 1) = t ∙ h ∙ cc in
          let u1 : Reads K (rule 1) (rest_in spool rest) v = reads_any (known_of s) K (rule 1) (rest_in spool rest) v plain (subst (λ (x : Rule). Reads (known_of s) x (rest_in spool rest) v) r1 u) in
          let (x, n) = symbol-done _ p rest K (rule 1) v ns ns' out out' d z.here.0 (does K 1 (rule 1) v h1 u1) in
          let (i, g') = unless-got (not b) 6 (taking e (kind_symbol ∷ []) s λ s'. symbol s' fresh) st' g in
          subst (λ (a : State). LineOut K spool first a ns' out' d) (took e (kind_symbol ∷ []) s (λ s'. symbol s' fresh) st' g') (symbol-drawn (not-true b i) (rw same at x) n)

  -- ── `}` ──
  close-shown : (b || not (is_nil s.symbols)) ≡ true → shown K first (top s 3) ≡ shown K first (defines s b) ++ bytes "}" ∷ []
  close-shown g =
      ap (λ (x : Bool). front_text K x s) front.volume
      ∙ ap (λ (u : Text). ahead ++ first_line ∷ u) (defines-closed K b s.symbols z.here.2 g)
      ∙ sym (append_assoc ahead (first_line ∷ cond b (bytes "NON=" ∷ []) (show_symbols K s.symbols [])) (bytes "}" ∷ []))

  pub defines-close : l.form ≡ close → CloseDone spool first p ns out out' d → ns' ≡ ns → LineOut K spool first st' ns' out' d
  defines-close f does n =
      let g =
      closed (defines s b) (λ j v. unless (is_nil s.symbols) 6 (got (defines s true))) (λ i j v. unless (not b) 6 (taking e (kind_symbol ∷ []) s λ s'. symbol s' fresh))
      (unless (b || not (is_nil s.symbols)) 8 (got (top s 3))) (known_of s) defines_table (digits_of (define_range s)) (b ∷ false ∷ []) st' (rw f at q) in
      let (i, g') = unless-got (b || not (is_nil s.symbols)) 8 (got (top s 3)) st' g in
      let st : top s 3 ≡ st' = cc in
      subst (λ (a : State). LineOut K spool first a ns' out' d) st
      (on_draws K spool first p ns out (defines s b) z (bytes "}" ∷ []) (top s 3) (moved p 3 0 0) ns' out' d size (close-shown i) (does.defines z.here.0) refl many
      (refl, (record { volume = front.alone ∙ sym front.volume; served = front.served }, front.empty)))
