-- A line in a symbol of SYMBOL_DEFINE: from the code's answer to the step that the definitions make.
use Rattle.std.specs.Prelude.{Option, Some, None}
use Prim.Native.Nat.{ℕ, suc, ◌+◌, ◌*◌, ◌≤◌, ◌<◌}
use mathlib.Core.Bool.{Bool, true, false, cond, ◌&&◌, ◌||◌, not}
use mathlib.Core.List.{List, [], ◌∷◌, ◌++◌, map}
use mathlib.Core.Path.{◌≡◌, refl, sym, ◌∙◌, ap, subst}
use native.Mathlib.Omega.{arith}
use lib.Dec.{eqb}
use lib.IntN.{ℤ, pos}
use lib.ListN.{length, get_or, set, take, drop, length-set, length-append, length-take, length-drop}
use lib.Seq.{take-set-lt, take-suc-set, get_or-set_same, get_or-set_other}
use borrow.Author.Tests.{eqb-true, eqb-false}
use Rattle.rules.specs.declared.Class.{Class}
use Rattle.rules.specs.declared.LineForm.{LineForm}
use Rattle.rules.specs.declared.Span.{Span}
use Rattle.rules.specs.Base.{among, is_nil, is_none, is_some}
use Rattle.rules.specs.RefusalNumbers.{got, unless}
use Rattle.rules.specs.RangeClass.{digits_of}
use Rattle.rules.specs.Lines.{close, span, bytes_at, form_in}
use Rattle.rules.specs.Values.{Known, Value, chars, letters_and_digits, chars_of}
use Rattle.rules.specs.Rows.{Rule, Held, Slots, rows_there, slot_value, Act, stay, entry, begin, shut, refuse, complete, act}
use Rattle.rules.specs.Blocks.{symbol_table}
use Rattle.rules.specs.Sets.{Symbol, Set, known_of, define_range, symbol_name_of, symbol_own, symbol_order, with_symbol}
use Rattle.rules.specs.Machine.{Line, in_element, State, defines, symbol, hide, figures, new_name, open_symbol}
use Rattle.rules.specs.RecordTable.{rule_at, start}
use Rattle.rules.proofs.Chains.{clash, map-append}
use Rattle.rules.proofs.Rows.{row_at}
use Rattle.tables.specs.Tables.{table_of}
use Rattle.entries.specs.Names.{name_in, names_in, known_in}
use Rattle.entries.specs.Acts.{put_line, Entered}
use Rattle.account.specs.declared.Now.{Now}
use Rattle.account.specs.declared.Where.{Where}
use Rattle.account.specs.declared.Step.{Step}
use Rattle.account.specs.declared.Step.TheVariants as S
use Rattle.account.specs.Records.{part_at, with_part}
use Rattle.account.specs.Account.{at_block}
use Rattle.standing.specs.SoFar.{own_record, empty_record}
use Rattle.standing.specs.Kept.{Scratch, Enters}
use Rattle.standing.specs.Standing.{Desk, InSymbol, CharsHere, is_text, Stands, LineHere, Counted, StepOut, row_bytes, symbol_with, symbol_bytes, hide_bytes, form_size, tally_of, closed_links}
use Rattle.account.specs.SymbolLines.{name_of, is_named, is_new, symbol_entry, symbol_part, symbol_put, symbol_step, SymbolMarks, SymbolLine, name_number}
use Rattle.standing.proofs.RowOpeners.{is_opens, entry-opens, begin-row}
use Rattle.standing.proofs.LineOrigins.{From, entry-from, begin-from}
use Rattle.standing.proofs.LineSizes.{line-size, begin-size, shut-close}
use Rattle.standing.proofs.WordPlaces.{name_back, WordRead, word_read}
use Rattle.standing.proofs.OwnLines.{was-none}
use Rattle.standing.proofs.Marks.{marks-set, mark-free}
use Rattle.account.proofs.RowsTaken.{Taken, entry-taken, begin-taken}
use Rattle.standing.proofs.LaidTables.{with-back}
use Rattle.standing.proofs.Standings.{desk_with, stands_on, known, stands-still}
use Rattle.standing.proofs.SymbolFacts.{symbol-rows, symbol-length, symbol-entry, name-row, element-key, hide-key, wall-row, Opened, opened_rows, name-slot, record-name, name_of_lem, named-below, must_hold, text-is, element, hidden}
use Rattle.standing.proofs.ScratchKept.{scratch-long}
use Rattle.standing.proofs.Completing.{completed-by, number_by, goes-still, goes_entering, goes_filling}
use Rattle.standing.proofs.EntriesKept.{line_in, symbol-row, element_open, hide_open}
use Rattle.standing.proofs.ClosesKept.{symbol-fills}
use Rattle.standing.proofs.ClearedKept.{symbol-cleared}
use Rattle.standing.proofs.ClosedActs.{acted}

-- ── what is lent on return ──
-- a symbol's record that was lent, on return
abbrev pub record_back : Desk → List ℤ → List ℤ
record_back d rec = with_part 0 rec d.scratch

-- a closed symbol's name joins the others
abbrev pub name_kept : Desk → List Bool → List ℤ → Desk
name_kept d m rec = record {
  now = d.now;
  tally = set d.tally 9 (get_or d.tally 9 0 + 1);
  symbols = set d.symbols (get_or d.tally 9 0) (name_number (name_of rec));
  layers = d.layers;
  serials = d.serials;
  used = d.used;
  used_all = d.used_all;
  marks = m;
  inner = d.inner;
  header = d.header;
  scratch = record_back d rec;
}

-- SYMBOL_DEFINE is open again: the symbol is closed
abbrev pub symbol_desk : Desk → List Bool → List ℤ → Step → Desk
symbol_desk d m rec (S.Go n) = cond (eqb n.block 4) (name_kept d m rec) (desk_with d d.now m d.inner (record_back d rec))
symbol_desk d m rec (S.Skip n) = desk_with d d.now m d.inner (record_back d rec)
symbol_desk d m rec (S.Stop n) = desk_with d d.now m d.inner (record_back d rec)

-- ── what a line finds ──
-- the names that are lent
abbrev pub symbol_names : Desk → List ℕ
symbol_names d = take (get_or d.tally 9 0) d.symbols

-- its record
abbrev pub symbol_record : Desk → List ℤ
symbol_record d = part_at 0 d.scratch

-- the act that the code goes by
abbrev pub symbol_act : List ℕ → Desk → LineForm → Act
symbol_act spool d form =
    act (known_in spool (symbol_names d) (take (get_or d.tally 10 0) d.layers)) (table_of 9) (digits_of (get_or d.tally 2 0)) (take 4 d.marks) (form_in spool form)

module _ (c : Class) (spool : List ℕ) (short : length spool ≤ 61440) (k : ℕ) (FileHere : Desk → Set → ℕ → Held → ℕ → Type 0) (d : Desk) (at to : ℕ) (l : Line) (w : Where)
    (form : LineForm) (x : LineHere spool k at to form w l) (s : Set) (y : Symbol) (z : Stands c spool k d (FileHere d) at (symbol s y)) where
  abbrev st : State
  st = symbol s y

  abbrev full : List Bool
  full = rows_there y.own

  abbrev did : Act
  did = act (known_of s) symbol_table (digits_of (define_range s)) full l.form

  iny : InSymbol spool k d.now d.marks d.inner s y
  iny = z.block.1

  symbol-act : symbol_act spool d form ≡ did
  symbol-act =
      ap (λ (m : Known). act m (table_of 9) (digits_of (get_or d.tally 2 0)) (take 4 d.marks) (form_in spool form)) (known c spool k FileHere d at to st st z refl)
      ∙ ap (λ (t : List Rule). act (known_of s) t (digits_of (get_or d.tally 2 0)) (take 4 d.marks) (form_in spool form)) symbol-rows
      ∙ ap (λ (t : List ℕ). act (known_of s) symbol_table (digits_of (get_or t 2 0)) (take 4 d.marks) (form_in spool form)) z.tally
      ∙ ap (λ (b : List Bool). act (known_of s) symbol_table (digits_of (define_range s)) b (form_in spool form)) iny.marked
      ∙ ap (act (known_of s) symbol_table (digits_of (define_range s)) full) (sym x.is)

  abbrev n : ℕ
  n = length s.symbols

  abbrev base : List ℤ
  base = start 4 n 1 y.line

  names-are : names_in spool (symbol_names d) ≡ map symbol_name_of s.symbols
  names-are = ap (λ (t : List ℕ). names_in spool (take (get_or t 9 0) d.symbols)) z.tally ∙ z.symbols

  later : at ≤ to
  later = omega (arith, x.bytes)

  -- ── a symbol that closes has a name ──
  module _ (rec₁ : List ℤ) (a : did ≡ shut) (q : rec₁ ≡ symbol_record d) where
    closes : (l.form ≡ close) × (complete (digits_of (define_range s)) symbol_table full ≡ true)
    closes = shut-close (known_of s) symbol_table (digits_of (define_range s)) full l.form a

    holds : (is_some (get_or y.own 0 None) ≡ true) × (is_some (get_or y.own 1 None) ≡ true) × (is_some (get_or y.own 2 None) ≡ true)
    holds = must_hold (digits_of (define_range s)) y.own iny.slots closes.1

    text : (i : ℕ) × (b : List ℕ) × (get_or y.own 0 None ≡ Some (chars i b))
    text = text-is (get_or y.own 0 None) holds.0 iny.is-text

    abbrev place : ℕ
    place = text.0

    abbrev bytes : List ℕ
    bytes = text.1

    lies : (bytes ≡ bytes_at spool (span place (length bytes))) × (place < 65536) × (length bytes < 65536)
    lies = subst (CharsHere spool) text.2 iny.name

    at_record : (get_or rec₁ 5 (pos 0) ≡ pos place) × (get_or rec₁ 6 (pos 0) ≡ pos (length bytes))
    at_record =
        subst (λ (r : List ℤ). (get_or r 5 (pos 0) ≡ pos place) × (get_or r 6 (pos 0) ≡ pos (length bytes))) (sym (q ∙ z.scratch.own)) (record-name y.own base place bytes refl text.2)

    -- the number under which its name is kept
    kept-name : name_in spool (name_number (name_of rec₁)) ≡ symbol_name_of y
    kept-name =
        ap (λ (p : Span). name_in spool (name_number p)) (name_of_lem rec₁ place (length bytes) at_record) ∙ name_back spool place (length bytes) lies.1 ∙ sym lies.0
        ∙ sym (name-slot y ∙ ap (λ (o : Option Value). chars_of (slot_value o)) text.2)

    name_below : is_named rec₁ ≡ true
    name_below = named-below rec₁ place (length bytes) at_record lies.1 lies.2

  -- where a line closes it, its record has a name
  pub name-at-close : symbol_act spool d form ≡ shut → is_named (part_at 0 d.scratch) ≡ true
  name-at-close q = name_below (symbol_record d) (sym symbol-act ∙ q) refl

  -- m₁, rec₁: the marks and its record on return
  module _ (own : ℕ) (counts : Counted c own d (symbol s y)) (m₁ : List Bool) (rec₁ : List ℤ) where
    abbrev t₁ : List ℤ
    t₁ = record_back d rec₁

    abbrev desk₁ : Desk
    desk₁ = desk_with d d.now m₁ d.inner t₁

    abbrev Out : Step → Type 0
    Out r = StepOut c spool k FileHere own l to st desk₁ r

    -- nothing but the place in the spool
    on-stay : did ≡ stay → m₁ ≡ d.marks → rec₁ ≡ symbol_record d → Out (S.Go d.now)
    on-stay a p q =
        goes-still c spool k FileHere own l to st desk₁ d.now st (ap (acted _ _ _ _) a) refl refl refl refl
        (stands-still c spool k FileHere d at to st z later d.tally m₁ d.inner d.header t₁ refl p refl refl (with-back 0 rec₁ d.scratch q))

    on-refuse : (m : ℕ) → did ≡ refuse m → Out (S.Stop m)
    on-refuse m a = ap (acted _ _ _ _) a

    -- ── a row more ──
    module _ (j : ℕ) (v : Value) (taken : Taken symbol_table full j v) (qm : m₁ ≡ set d.marks j true) (q : rec₁ ≡ put_line (rule_at (table_of 9) j) 0 v (symbol_record d)) where
      abbrev own' : Slots
      own' = set y.own j (Some v)

      abbrev y' : Symbol
      y' = symbol_own own' y

      row : j < 4
      row = omega (arith, taken.row, symbol-length)

      was_free : get_or y.own j None ≡ None
      was_free = mark-free y.own j taken.free

      line-put : rec₁ ≡ put_line (rule_at symbol_table j) 0 v (symbol_record d)
      line-put = q ∙ ap (λ (t : List Rule). put_line (rule_at t j) 0 v (symbol_record d)) symbol-rows

      back : line_in 0 symbol_table j v d.scratch ≡ t₁
      back = sym (ap (record_back d) line-put)

      put : rec₁ ≡ own_record n y'
      put = line-put ∙ ap (put_line (rule_at symbol_table j) 0 v) z.scratch.own ∙ symbol-entry y.own j v base iny.slots taken

      marked' : take 4 m₁ ≡ rows_there own'
      marked' = ap (take 4) qm ∙ take-set-lt 4 d.marks j true row ∙ ap (λ (b : List Bool). set b j true) iny.marked ∙ sym (marks-set y.own j v)

      long-marks : length m₁ ≡ 28
      long-marks = ap length qm ∙ length-set d.marks j true ∙ z.lengths.marks

      slots' : length own' ≡ 4
      slots' = length-set y.own j (Some v) ∙ iny.slots

      -- the other rows stay
      stays : (i : ℕ) → (i ≡ j → ⊥) → get_or own' i None ≡ get_or y.own i None
      stays i other = get_or-set_other y.own j i (Some v) None other

      -- what the row takes, before and after
      unread : (b i : ℕ) → j ≡ i → row_bytes b (get_or y.own i None) ≡ 0
      unread b i p = ap (row_bytes b) (ap (λ (m : ℕ). get_or y.own m None) (sym p) ∙ was_free)

      read : (b i : ℕ) → j ≡ i → row_bytes b (get_or own' i None) ≡ b
      read b i p =
          ap (row_bytes b) (ap (λ (m : ℕ). get_or (set y.own m (Some v)) i None) p ∙ get_or-set_same y.own i (Some v) None (omega (arith, row, p, iny.slots)))

      -- another row than the name's
      module _ (other : 0 ≡ j → ⊥) where
        same-slot : get_or own' 0 None ≡ get_or y.own 0 None
        same-slot = stays 0 other

        same_name : symbol_name_of y' ≡ symbol_name_of y
        same_name = name-slot y' ∙ ap (λ (o : Option Value). chars_of (slot_value o)) same-slot ∙ sym (name-slot y)

        still-new : new_name s y' ≡ true
        still-new = ap (λ (b : List ℕ). is_nil b || not (among b (known_of s).symbols)) same_name ∙ iny.fresh

      -- ── a line that opens nothing ──
      module _ (a : did ≡ entry j v) where
        abbrev st' : State
        st' = symbol s y'

        entered : new_name s y' ≡ true → CharsHere spool (get_or own' 0 None) → is_text (get_or own' 0 None) ≡ true → 48 * n + symbol_bytes y' ≤ to → Out (S.Go d.now)
        entered fresh name text paid =
            let on : Enters c st st' t₁ = subst (Enters c st st') back (symbol-row c s y d.scratch z.scratch j v iny.slots taken) in
            goes-still c spool k FileHere own l to st desk₁ d.now st' (ap (acted _ _ _ _) a ∙ ap (λ (b : Bool). unless b 15 (got st')) fresh) refl refl refl on.same
            (stands_on c spool k FileHere d at to st st' z d.now m₁ d.inner t₁ refl long-marks z.lengths.inner on.scratch (omega (arith, z.counted, later)) paid
            (omega (arith, z.numbered, later)) (
              z.block.0,
              record {
                phase = iny.phase;
                owner = iny.owner;
                slots = slots';
                marked = marked';
                fresh = fresh;
                name = name;
                is-text = text;
                element-first = λ h. iny.element-first (was-none y.own 1 j v h);
                hide-first = λ h. iny.hide-first (was-none y.own 2 j v h);
              },
            ))

        from : From (known_of s) symbol_table (digits_of (define_range s)) full l.form j (entry j v)
        from = entry-from (known_of s) symbol_table (digits_of (define_range s)) full l.form j v a

        -- `wall`
        on-other : (0 ≡ j → ⊥) → Out (S.Go d.now)
        on-other o =
            let fourth : j ≡ 3 =
            wall-row j row o (ap (λ (r : Rule). is_opens r.holds) (row_at from.row _) ∙ entry-opens (known_of s) symbol_table (digits_of (define_range s)) full l.form j v from) in
            entered (still-new o) (subst (CharsHere spool) (sym (same-slot o)) iny.name) (ap is_text (same-slot o) ∙ iny.is-text)
            (omega (arith, z.named, later, ap (row_bytes 8) (same-slot o), ap (row_bytes 14) (stays 1 (λ p. omega (arith, p, fourth))), ap (row_bytes 11) (stays 2 (λ p. omega (arith, p, fourth)))))

        -- its name
        module _ (first : j ≡ 0) where
          is_row : rule_at symbol_table 0 ≡ from.rule
          is_row = ap (rule_at symbol_table) (sym first) ∙ row_at from.row _

          held : WordRead spool from.rest v
          held =
              word_read spool form (known_of s) symbol_table (digits_of (define_range s)) full l.form 32 letters_and_digits j v from x.is
              (ap (λ (r : Rule). r.holds) (sym is_row) ∙ name-row.0) (ap (λ (r : Rule). r.may) (sym is_row) ∙ name-row.1)

          -- `name=` and a byte, and the line's end
          long : at + 8 ≤ to
          long =
              omega (arith, x.bytes, line-size (known_of s) symbol_table (digits_of (define_range s)) full l.form j (entry j v) from, ap (λ (r : Rule). length r.key) is_row, name-row.2, held.long)

          slot : get_or own' 0 None ≡ Some (chars held.at held.bytes)
          slot =
              ap (λ (i : ℕ). get_or (set y.own i (Some v)) 0 None) first ∙ get_or-set_same y.own 0 (Some v) None (omega (arith, iny.slots)) ∙ ap Some held.is

          short-name : length held.bytes < 65536
          short-name = omega (arith, short, ap length held.here, length-take (length held.bytes) (drop held.at spool), length-drop held.at spool)

          here : CharsHere spool (get_or own' 0 None)
          here = subst (CharsHere spool) (sym slot) (held.here, omega (arith, held.low, short), short-name)

          paid : 48 * n + symbol_bytes y' ≤ to
          paid =
              omega
              (arith, z.named, long, unread 8 0 first, read 8 0 first, ap (row_bytes 14) (stays 1 (λ p. omega (arith, p, first))), ap (row_bytes 11) (stays 2 (λ p. omega (arith, p, first))))

          -- it is new, as the code finds it
          new : new_name s y' ≡ is_new spool (symbol_names d) (name_of rec₁)
          new =
              let m : List (List ℕ) = map symbol_name_of s.symbols in
              let nm : symbol_name_of y' ≡ held.bytes = name-slot y' ∙ ap (λ (o : Option Value). chars_of (slot_value o)) slot in
              let at_place : bytes_at spool (name_of rec₁) ≡ held.bytes =
              ap (λ (r : List ℤ). bytes_at spool (name_of r)) put
              ∙ ap (bytes_at spool) (name_of_lem (own_record n y') held.at (length held.bytes) (record-name own' base held.at held.bytes refl slot)) ∙ sym held.here in
              ap (λ (b : List ℕ). is_nil b || not (among b m)) nm ∙ ap (λ (b : Bool). b || not (among held.bytes m)) held.filled
              ∙ ap (λ (b : List ℕ). not (among b m)) (sym at_place) ∙ ap (λ (ns : List (List ℕ)). not (among (bytes_at spool (name_of rec₁)) ns)) (sym names-are)

          on-name : (b : Bool) → is_new spool (symbol_names d) (name_of rec₁) ≡ b → Out (cond (not b) (S.Stop 15) (S.Go d.now))
          on-name true h = entered (new ∙ h) here (ap is_text slot) paid
          on-name false h = ap (acted _ _ _ _) a ∙ ap (λ (b : Bool). unless b 15 (got st')) (new ∙ h)

        on-entry : Out (symbol_entry spool (symbol_names d) d.now j (symbol_put (symbol_record d) j v))
        on-entry = subst (λ (r : List ℤ). Out (symbol_entry spool (symbol_names d) d.now j r)) q (go (eqb j 0) refl)
          where
            go : (b : Bool) → eqb j 0 ≡ b → Out (cond (b && not (is_new spool (symbol_names d) (name_of rec₁))) (S.Stop 15) (S.Go d.now))
            go true h = on-name (eqb-true j 0 h) (is_new spool (symbol_names d) (name_of rec₁)) refl
            go false h = on-other (λ o. absurd (eqb-false j 0 h (sym o)))

      -- ── `element` or `hide` is begun ──
      module _ (i : ℕ) (a : did ≡ begin i j v) where
        from-begin : From (known_of s) symbol_table (digits_of (define_range s)) full l.form j (begin i j v)
        from-begin = begin-from (known_of s) symbol_table (digits_of (define_range s)) full l.form i j v a

        -- its key, `:{` and the line's end
        long-begin : at + length (rule_at symbol_table j).key + 4 ≤ to
        long-begin =
            let is_row : rule_at symbol_table j ≡ from-begin.rule = row_at from-begin.row _ in
            omega (arith, x.bytes, begin-size (known_of s) symbol_table (digits_of (define_range s)) full l.form i j v from-begin, ap (λ (r : Rule). length r.key) is_row)

        -- the symbol around it
        around : (n' : Now) (b : Bool) → n'.owner ≡ d.now.owner → (0 ≡ j → ⊥)
            → (is_none (get_or own' 1 None) ≡ true → (y.figures ≡ []) × (b ≡ false → y.hidden ≡ [])) → (is_none (get_or own' 2 None) ≡ true → y.hidden ≡ [])
            → InSymbol spool k n' m₁ d.inner s (symbol_order b y')
        around n' b g other f h = record {
          phase = iny.phase;
          owner = g ∙ iny.owner;
          slots = slots';
          marked = marked';
          fresh = still-new other;
          name = subst (CharsHere spool) (sym (same-slot other)) iny.name;
          is-text = ap is_text (same-slot other) ∙ iny.is-text;
          element-first = f;
          hide-first = h;
        }

        -- a row that was just read is there
        there : (m : ℕ) → j ≡ m → is_none (get_or own' m None) ≡ false
        there m p = ap (λ (r : ℕ). is_none (get_or (set y.own r (Some v)) m None)) p ∙ ap is_none (get_or-set_same y.own m (Some v) None (omega (arith, row, p, iny.slots)))

        was : (m : ℕ) → j ≡ m → is_none (get_or y.own m None) ≡ true
        was m p = ap (λ (r : ℕ). is_none (get_or y.own r None)) (sym p) ∙ ap is_none was_free

        on-element : i ≡ 1 → j ≡ 1 → Out (S.Go (symbol_part d.now i))
        on-element p r =
            let st'' : State = figures s (in_element y') [] in
            let other : 0 ≡ j → ⊥ = λ o. absurd (omega (arith, o, r)) in
            let long : at + 11 ≤ to = omega (arith, long-begin, ap (λ (m : ℕ). length (rule_at symbol_table m).key) r, element-key) in
            let paid : 48 * n + symbol_with 11 11 y' ≤ to =
            omega (arith, z.named, long, unread 14 1 r, read 11 1 r, ap (row_bytes 8) (same-slot other), ap (row_bytes 11) (stays 2 (λ p. omega (arith, p, r)))) in
            let f : (y.figures ≡ []) × (y.hide_first ≡ false → y.hidden ≡ []) = iny.element-first (was 1 r) in
            let n' : Now = symbol_part d.now 1 in
            let on : Enters c st st'' t₁ = subst (Enters c st st'') back (element_open c s y d.scratch z.scratch j v iny.slots taken) in
            subst (λ (m : ℕ). Out (S.Go (symbol_part d.now m))) (sym p)
            (goes_entering c spool k FileHere own l to st desk₁ n' st'' (ap (acted _ _ _ _) a ∙ ap (open_symbol s y') p) (completed-by d.now n' 5 8 z.block.0 refl) refl refl on.same
            (stands_on c spool k FileHere d at to st st'' z n' m₁ d.inner t₁ refl long-marks z.lengths.inner on.scratch (omega (arith, z.counted, later)) paid (omega (arith, z.numbered, later))
            (refl, (around n' y.hide_first refl other (λ h. clash h (there 1 r)) (λ h. iny.hide-first (was-none y.own 2 j v h)), refl, f.0, f.1, there 1 r), refl)))

        on-hide : i ≡ 2 → j ≡ 2 → Out (S.Go (symbol_part d.now i))
        on-hide p r =
            let b : Bool = is_none (get_or own' 1 None) in
            let y'' : Symbol = symbol_order b y' in
            let st'' : State = hide s y'' [] in
            let other : 0 ≡ j → ⊥ = λ o. absurd (omega (arith, o, r)) in
            let long : at + 8 ≤ to = omega (arith, long-begin, ap (λ (m : ℕ). length (rule_at symbol_table m).key) r, hide-key) in
            let paid : 48 * n + hide_bytes y' ≤ to =
            omega (arith, z.named, long, unread 11 2 r, read 8 2 r, ap (row_bytes 8) (same-slot other), ap (row_bytes 14) (stays 1 (λ p. omega (arith, p, r)))) in
            let none_yet : y.hidden ≡ [] = iny.hide-first (was 2 r) in
            let shown : b ≡ true → y.figures ≡ [] = λ h. (iny.element-first (was-none y.own 1 j v h)).0 in
            let n' : Now = symbol_part d.now 2 in
            let on : Enters c st st'' t₁ = subst (Enters c st st'') back (hide_open c s y d.scratch z.scratch j v iny.slots taken b none_yet) in
            subst (λ (m : ℕ). Out (S.Go (symbol_part d.now m))) (sym p)
            (goes_entering c spool k FileHere own l to st desk₁ n' st'' (ap (acted _ _ _ _) a ∙ ap (open_symbol s y') p) (completed-by d.now n' 5 6 z.block.0 refl) refl refl on.same
            (stands_on c spool k FileHere d at to st st'' z n' m₁ d.inner t₁ refl long-marks z.lengths.inner on.scratch (omega (arith, z.counted, later)) paid (omega (arith, z.numbered, later)) (
              refl,
              record {
                in-symbol = around n' b refl other (λ h. (shown h, λ g. none_yet)) (λ h. clash h (there 2 r));
                points = refl;
                few = omega arith;
                hidden = none_yet;
                shown = shown;
                ordered = refl;
                entered = there 2 r;
              },
            )))

        on-begin : Out (S.Go (symbol_part d.now i))
        on-begin =
            let r = begin-row (known_of s) symbol_table (digits_of (define_range s)) full l.form j i v from-begin in
            go (opened_rows i j row r.0 r.1)
          where
            go : Opened i j → Out (S.Go (symbol_part d.now i))
            go (element p r) = on-element p r
            go (hidden p r) = on-hide p r

    -- ── the symbol closes: its record is complete ──
    module _ (a : did ≡ shut) (qm : m₁ ≡ d.marks) (q : rec₁ ≡ symbol_record d) where
      count : get_or d.tally 9 0 ≡ n
      count = ap (λ (t : List ℕ). get_or t 9 0) z.tally

      through : 48 * n + 48 ≤ to
      through =
          let take_all : ℕ → Bool → ℕ = λ m b. cond b m 0 in
          let f : form_size l.form ≡ 1 = ap form_size (closes rec₁ a q).0 in
          omega (arith, z.named, x.bytes, f, ap (take_all 8) (holds rec₁ a q).0, ap (take_all 14) (holds rec₁ a q).1, ap (take_all 11) (holds rec₁ a q).2)

      room : n < length d.symbols
      room = omega (arith, z.lengths.symbols, through, x.most)

      abbrev s' : Set
      s' = with_symbol y s

      one_more : n + 1 ≡ length s'.symbols
      one_more = sym (length-append s.symbols (y ∷ []))

      abbrev number : ℕ
      number = name_number (name_of rec₁)

      all-names : names_in spool (take (length s'.symbols) (set d.symbols (get_or d.tally 9 0) number)) ≡ map symbol_name_of s'.symbols
      all-names =
          let up : length s'.symbols ≡ suc n = omega (arith, one_more) in
          ap (λ (m : ℕ). names_in spool (take m (set d.symbols (get_or d.tally 9 0) number))) up
          ∙ ap (λ (m : ℕ). names_in spool (take (suc n) (set d.symbols m number))) count
          ∙ ap (names_in spool) (take-suc-set d.symbols n number room)
          ∙ map-append (name_in spool) (take n d.symbols) (number ∷ [])
          ∙ ap (λ (ns : List (List ℕ)). ns ++ name_in spool number ∷ []) z.symbols
          ∙ ap (λ (b : List ℕ). map symbol_name_of s.symbols ++ b ∷ []) (kept-name rec₁ a q)
          ∙ sym (map-append symbol_name_of s.symbols (y ∷ []))

      on-shut : StepOut c spool k FileHere own l to st (name_kept d m₁ rec₁) (S.Go (at_block d.now 4 0))
      on-shut =
          let st' : State = defines s' false in
          let n' : Now = at_block d.now 4 0 in
          let same : Scratch t₁ st = subst (λ (t : List ℤ). Scratch t st) (sym (with-back 0 rec₁ d.scratch q)) z.scratch in
          let t₂ : List ℤ = with_part 0 empty_record t₁ in
          let cleared : Scratch t₂ st' = symbol-cleared s y t₁ same in
          goes_filling c spool k FileHere own l to st (name_kept d m₁ rec₁) n' st' (ap (acted _ _ _ _) a) 0 own (completed-by d.now n' 5 4 z.block.0 refl)
          (number_by d.now n' own 5 4 z.block.0 refl) 0 (omega arith) (omega arith) (symbol-fills c s y own t₁ same counts.own)
          (record {
            lengths = record {
              symbols = length-set d.symbols (get_or d.tally 9 0) number ∙ z.lengths.symbols;
              layers = z.lengths.layers;
              serials = z.lengths.serials;
              used = z.lengths.used;
              used_all = z.lengths.used_all;
              marks = ap length qm ∙ z.lengths.marks;
              inner = z.lengths.inner;
              header = z.lengths.header;
              scratch = scratch-long t₂ st' cleared;
            };
            scratch = cleared;
            here = z.here;
            this = z.this;
            tally =
                ap (λ (t : List ℕ). set t 9 (get_or t 9 0 + 1)) z.tally
                ∙ ap (λ (m : ℕ). set (tally_of s z.here (length s.drawing.layers) (length (closed_links s))) 9 m) one_more;
            symbols = all-names;
            layers = z.layers;
            few-layers = z.few-layers;
            serials = z.serials;
            used = λ h. clash h refl;
            used_all = z.used_all;
            counted = omega (arith, z.counted, later);
            named = omega (arith, through, one_more);
            numbered = omega (arith, z.numbered, later);
            block = (refl, refl, record { volume = iny.phase.volume; first = iny.phase.first; blocks = iny.phase.blocks });
          })

    -- ── any line ──
    abbrev OutOf : Step → Type 0
    OutOf r = StepOut c spool k FileHere own l to st (symbol_desk d m₁ rec₁ r) r

    -- the symbol is not closed
    unclosed : (n' : Now) → eqb n'.block 4 ≡ false → Out (S.Go n') → OutOf (S.Go n')
    unclosed n' h o = subst (λ (b : Bool). StepOut c spool k FileHere own l to st (cond b (name_kept d m₁ rec₁) (desk_with d d.now m₁ d.inner t₁)) (S.Go n')) (sym h) o

    in_it : eqb d.now.block 4 ≡ false
    in_it = ap (λ (m : ℕ). eqb m 4) z.block.0

    entry-out : (b : Bool) → Out (cond b (S.Stop 15) (S.Go d.now)) → OutOf (cond b (S.Stop 15) (S.Go d.now))
    entry-out true o = o
    entry-out false o = unclosed d.now in_it o

    part-block : (i : ℕ) → eqb (symbol_part d.now i).block 4 ≡ false
    part-block i = go (eqb i 1)
      where
        go : (b : Bool) → eqb (cond b (symbol_part d.now 1) (symbol_part d.now 2)).block 4 ≡ false
        go true = refl
        go false = refl

    by-act : (a : Act) → did ≡ a → SymbolMarks d.marks m₁ a → Entered (rule_at (table_of 9)) 0 (symbol_record d) a rec₁ → OutOf (symbol_step spool (symbol_names d) d.now (symbol_record d) a)
    by-act stay p m q = unclosed d.now in_it (on-stay p m q)
    by-act (entry j v) p m q =
        entry-out (eqb j 0 && not (is_new spool (symbol_names d) (name_of (symbol_put (symbol_record d) j v))))
        (on-entry j v (entry-taken (known_of s) symbol_table (digits_of (define_range s)) full l.form j v p) m q p)
    by-act (begin i j v) p m q =
        unclosed (symbol_part d.now i) (part-block i) (on-begin j v (begin-taken (known_of s) symbol_table (digits_of (define_range s)) full l.form i j v p) m q i p)
    by-act shut p m q = on-shut p m q
    by-act (refuse g) p m q = on-refuse g p

    any-line : (r : Step) → SymbolLine (symbol_act spool d form) spool (symbol_names d) d.now d.marks m₁ (symbol_record d) rec₁ r → OutOf r
    any-line r h =
        subst OutOf (sym (h.answer ∙ ap (symbol_step spool (symbol_names d) d.now (symbol_record d)) symbol-act))
        (by-act did refl (subst (SymbolMarks d.marks m₁) symbol-act h.marks) (subst (λ (a : Act). Entered (rule_at (table_of 9)) 0 (symbol_record d) a rec₁) symbol-act h.put))

module _ (c : Class) (spool : List ℕ) (short : length spool ≤ 61440) (k : ℕ) (FileHere : Desk → Set → ℕ → Held → ℕ → Type 0) (d : Desk) (at to own : ℕ) (l : Line) (w : Where)
    (form : LineForm) (x : LineHere spool k at to form w l) (s : Set) (y : Symbol) (z : Stands c spool k d (FileHere d) at (symbol s y)) (counts : Counted c own d (symbol s y)) where
  pub symbol-line : (m₁ : List Bool) (rec₁ : List ℤ) (r : Step) → SymbolLine (symbol_act spool d form) spool (symbol_names d) d.now d.marks m₁ (symbol_record d) rec₁ r
      → StepOut c spool k FileHere own l to (symbol s y) (symbol_desk d m₁ rec₁ r) r
  symbol-line m₁ rec₁ r h = any-line c spool short k FileHere d at to l w form x s y z own counts m₁ rec₁ r h
