-- A line of a key that the class knows, directly in a placed symbol: from the code's answer to the step that the definitions make.
use Rattle.std.specs.Prelude.{Option, Some, None}
use Prim.Native.Nat.{ℕ, ◌≤◌, ◌<◌}
use mathlib.Core.Bool.{Bool, true, false, cond, ◌&&◌, not}
use mathlib.Core.List.{List, []}
use mathlib.Core.Path.{◌≡◌, refl, sym, ◌∙◌, ap, subst}
use native.Mathlib.Omega.{arith}
use borrow.Author.Tests.{eqb-true, eqb-false}
use lib.Dec.{eqb}
use lib.IntN.{ℤ}
use lib.ListN.{length, get_or, set, take, replicate, length-set, length-replicate}
use lib.Seq.{get_or-set_same, get_or-set_other, take-set-lt, get_or-take}
use Rattle.rules.specs.declared.Digits.{Digits}
use Rattle.rules.specs.declared.Class.{Class}
use Rattle.rules.specs.declared.LineForm.{LineForm}
use Rattle.rules.specs.Base.{is_none, has_number}
use Rattle.rules.specs.RefusalNumbers.{got, unless}
use Rattle.rules.specs.RangeClass.{digits_of}
use Rattle.rules.specs.declared.Span.{Span}
use Rattle.rules.specs.Lines.{Rest, keyed, span}
use Rattle.rules.specs.Values.{Known, Value, serials}
use Rattle.rules.specs.Values.{serials_of as numbers_of}
use Rattle.rules.specs.Rows.{Rule, found, find, Slots, Held, part_of, enter, rows_there, slot_value, shape_for, inner_of, Act, stay, entry, begin, shut, refuse, act_row, act_found, act}
use Rattle.rules.specs.Figures.{placed_table, placed_tables}
use Rattle.rules.specs.Sets.{Figure, own_serial, Set, range_of, known_of}
use Rattle.rules.specs.Machine.{Line, in_layer, State, placing, symbol_block, unlimited}
use Rattle.rules.specs.PlacedSymbol.{none_of, numbers_so_far, new_serial, on_placed}
use Rattle.rules.specs.LineByLine.{step_in}
use Rattle.rules.specs.RecordTable.{rule_at}
use Rattle.rules.proofs.Chains.{clash}
use Rattle.rules.proofs.Rows.{found-row, row_at, row_below, row-did}
use Rattle.tables.specs.Tables.{table_of}
use Rattle.entries.specs.Names.{known_in}
use Rattle.entries.specs.Acts.{put_line, next_of, Entered}
use Rattle.account.specs.declared.Now.{Now}
use Rattle.account.specs.declared.Where.{Where}
use Rattle.account.specs.declared.Step.{Step}
use Rattle.account.specs.declared.Step.TheVariants as S
use Rattle.account.specs.Records.{part_at, with_part}
use Rattle.account.specs.Account.{at_block}
use Rattle.account.specs.SerialNumbers.{content_at, in_use}
use Rattle.account.specs.PlacedLines.{Lent, lent, own_number, clashes, lent_with, lent_inside, placed_step, PlacedLent, RowLine}
use Rattle.standing.specs.Standing.{Desk, symbol_links, form_size, due_of, InPlaced, Stands, desk_now, LineHere, StandsAt, StepOut}
use Rattle.standing.specs.Reading.{PlacedForm}
use Rattle.standing.specs.Kept.{Scratch}
use Rattle.account.proofs.RowsTaken.{Taken, entry-taken, begin-taken}
use Rattle.standing.proofs.LineOrigins.{From, entry-from, begin-from, serials-content}
use Rattle.standing.proofs.LineSizes.{read-shut}
use Rattle.standing.proofs.Marks.{marks-set, mark-free}
use Rattle.standing.proofs.ForeParts.{part-long}
use Rattle.standing.proofs.Completing.{goes-still}
use Rattle.standing.proofs.Standings.{known}
use Rattle.standing.proofs.HomeFacts.{home_stays}
use Rattle.account.proofs.PlacedLaws.{own_is}
use Rattle.standing.proofs.PlacedFacts.{is_serials, placed-rows, placed-rows-six, serial-rule, other-rule, entry-plain, begin-inner, blank-marks, figure-serial, opening-row}
use Rattle.standing.proofs.SerialKept.{SerialTaken, number-used, one_of, serial-stands}
use Rattle.standing.proofs.SerialContents.{LineContent, line-content, SymbolSerial, symbol-content}
use Rattle.standing.proofs.PlacedTables.{lent_of, lent_desk, record-kept, record-entered, range-is, placing-on}
use Rattle.standing.proofs.OwnLines.{was-none}
use Rattle.standing.proofs.HeldParts.{shaped-enter, enter-own, enter-other}
use Rattle.standing.proofs.RowOpeners.{begin-row}
use Rattle.standing.proofs.ClosedActs.{acted}

module _ (c : Class) (spool : List ℕ) (k : ℕ) (FileHere : Desk → Set → ℕ → Held → ℕ → Type 0) (d : Desk) (at to own : ℕ) (l : Line) (w : Where) (form : LineForm)
    (x : LineHere spool k at to form w l) (s : Set) (m : ℕ) (fs : List Figure) (n : ℕ) (o : Held) (z : Stands c spool k d (FileHere d) at (placing s m fs n (symbol_block o) 0)) where
  abbrev st : State
  st = placing s m fs n (symbol_block o) 0

  abbrev full : List Bool
  full = rows_there (part_of o 0)

  inp : InPlaced spool k d.now d.marks d.inner s m fs o 0
  inp = z.block.1

  later : at ≤ to
  later = omega (arith, x.bytes)

  abbrev rec₀ : List ℤ
  rec₀ = part_at 32 d.scratch

  six : length (part_of o 0) ≡ 6
  six = inp.shaped.1 ∙ placed-rows-six

  -- ── what a row's line leaves ──
  marked_more : (i : ℕ) (v : Value) → i < 6 → take 6 (set d.marks i true) ≡ rows_there (part_of (enter o 0 i v) 0)
  marked_more i v h =
      take-set-lt 6 d.marks i true h ∙ ap (λ (b : List Bool). set b i true) inp.marked ∙ sym (marks-set (part_of o 0) i v) ∙ ap rows_there (sym (enter-own o 0 i v inp.shaped.0))

  -- the other rows stay
  other-slot : (i q : ℕ) (v : Value) → (q ≡ i → ⊥) → get_or (part_of (enter o 0 i v) 0) q None ≡ get_or (part_of o 0) q None
  other-slot i q v h = ap (λ (y : Slots). get_or y q None) (enter-own o 0 i v inp.shaped.0) ∙ get_or-set_other (part_of o 0) i q (Some v) None h

  text-kept : (i : ℕ) (v : Value) → part_of (enter o 0 i v) 1 ≡ part_of o 1
  text-kept i v = enter-other o 0 1 i v (λ y. omega (arith, y))

  in-entered : (i : ℕ) (v : Value) → i < 6 → InPlaced spool k d.now (set d.marks i true) d.inner s m fs (enter o 0 i v) 0
  in-entered i v h = record {
    home = home_stays spool k d.now d.now d.marks d.inner d.inner s (in_layer m) refl refl inp.home;
    figures = inp.figures;
    part = inp.part;
    parts = inp.parts;
    shaped = shaped-enter placed_tables 0 o 0 i v inp.shaped;
    marked = marked_more i v h;
    inner = λ y. absurd (omega (arith, y));
    unopened = λ y. text-kept i v ∙ inp.unopened (was-none (part_of o 0) 1 i v (ap (λ (b : Slots). is_none (get_or b 1 None)) (sym (enter-own o 0 i v inp.shaped.0)) ∙ y));
    opened = λ y. absurd (omega (arith, y));
  }

  -- a line that leaves all as it is
  pub same-stands : (x₁ : Lent) (rec₁ : List ℤ) → x₁ ≡ lent_of d → rec₁ ≡ rec₀ → StandsAt c spool k FileHere (desk_now (lent_desk d x₁ rec₁) d.now) to st
  same-stands x₁ rec₁ y q =
      subst (λ (t : Lent). StandsAt c spool k FileHere (desk_now (lent_desk d t rec₁) d.now) to st) (sym y)
      (placing-on c spool k FileHere d at to s m fs n o 0 z d.now d.marks d.inner rec₁ o 0 later z.lengths.marks z.lengths.inner
      (record-kept c spool k FileHere d at to s m fs n o 0 z 0 rec₁ q) refl z.block.0 inp)

  -- ── a row's line ──
  module _ (key : List ℕ) (rest : Rest) (row : ℕ) (rule : Rule) (keyed-so : l.form ≡ keyed key rest) (place : find key placed_table ≡ found row rule) (in-spool : PlacedForm l.form) where
    -- what the definitions do, and what the code goes by
    abbrev did : Act
    did = act_row (known_of s) (range_of s) (get_or full row false) row rule rest

    abbrev row_act : Act
    row_act =
        act_row (known_in spool (take (get_or d.tally 9 0) d.symbols) (take (get_or d.tally 10 0) d.layers)) (digits_of (get_or d.tally 1 0)) (get_or d.marks row false) row rule rest

    row-act : row_act ≡ did
    row-act =
        let below : row < 6 = omega (arith, row_below (found-row key placed_table row rule place).0, placed-rows-six) in
        ap (λ (y : Known). act_row y (digits_of (get_or d.tally 1 0)) (get_or d.marks row false) row rule rest) (known c spool k FileHere d at to st st z refl)
        ∙ ap (λ (y : Digits). act_row (known_of s) y (get_or d.marks row false) row rule rest) (range-is c spool k FileHere d at to s m fs n o 0 z)
        ∙ ap (λ (y : Bool). act_row (known_of s) (range_of s) y row rule rest) (sym (get_or-take 6 d.marks row false below) ∙ ap (λ (y : List Bool). get_or y row false) inp.marked)

    whole : act (known_of s) placed_table (range_of s) full l.form ≡ did
    whole = ap (act (known_of s) placed_table (range_of s) full) keyed-so ∙ ap (act_found (known_of s) (range_of s) full rest) place

    module _ (h : step_in (unlimited c) l st ≡ on_placed s m fs n o 0 did) (x₁ : Lent) (rec₁ : List ℤ) where
      abbrev d₁ : Desk
      d₁ = lent_desk d x₁ rec₁

      abbrev Out : Step → Type 0
      Out r = StepOut c spool k FileHere own l to st d₁ r

      -- ── a line entered ──
      module _ (i : ℕ) (v : Value) (a : did ≡ entry i v) (q : rec₁ ≡ put_line (rule_at (table_of 18) i) 0 v rec₀) where
        taken : Taken placed_table full i v
        taken = entry-taken (known_of s) placed_table (range_of s) full l.form i v (whole ∙ a)

        from : From (known_of s) placed_table (range_of s) full l.form i (entry i v)
        from = entry-from (known_of s) placed_table (range_of s) full l.form i v (whole ∙ a)

        is-rule : rule_at placed_table i ≡ from.rule
        is-rule = row_at from.row _

        below : i < 6
        below = omega (arith, taken.row, placed-rows-six)

        abbrev st'' : State
        st'' = placing s m fs n (symbol_block (enter o 0 i v)) 0

        put-entry : Scratch (with_part 32 rec₁ d.scratch) st''
        put-entry = record-entered c spool k FileHere d at to s m fs n o 0 z 0 0 i v rec₁ (omega arith) taken (q ∙ ap (λ (t : List Rule). put_line (rule_at t i) 0 v rec₀) placed-rows)

        -- what is lent behind it, its own number being n
        abbrev lent_by : ℕ → Lent
        lent_by q = lent_with (eqb i 5) (lent_of d) i q (content_at rest)

        -- of another row than `serial`
        on-other : eqb i 5 ≡ false → x₁ ≡ lent_by (own_number rec₁) → Out (S.Go d.now)
        on-other b y =
            let plain : numbers_of v ≡ [] =
            entry-plain (known_of s) i i from.rule (shape_for from.rule from.rest) v (subst (λ (r : Rule). is_serials r.holds ≡ false) is-rule (other-rule i below b)) from.did.read in
            let lent_is : x₁ ≡ lent d.tally d.serials (set d.marks i true) d.inner = y ∙ ap (λ (t : Bool). lent_with t (lent_of d) i (own_number rec₁) (content_at rest)) b in
            goes-still c spool k FileHere own l to st d₁ d.now st'' (h ∙ ap (acted _ _ _ _) a ∙ ap (λ (t : List ℕ). unless (none_of (own_serial t) (numbers_so_far s fs)) 15 (got st'')) plain) refl refl refl refl
            (subst (λ (t : Lent). StandsAt c spool k FileHere (desk_now (lent_desk d t rec₁) d.now) to st'') (sym lent_is)
            (placing-on c spool k FileHere d at to s m fs n o 0 z d.now (set d.marks i true) d.inner rec₁ (enter o 0 i v) 0 later (length-set d.marks i true ∙ z.lengths.marks) z.lengths.inner put-entry
            (sym (other-slot i 5 v (λ t. eqb-false i 5 b (sym t))))
            z.block.0 (in-entered i v below)))

        -- of the row `serial`
        module _ (five : i ≡ 5) where
          five-rule : rule_at placed_table 5 ≡ from.rule
          five-rule = ap (rule_at placed_table) (sym five) ∙ is-rule

          line : LineContent spool (known_of s) serials (length from.rule.key) (form_size l.form) from.rest v
          line =
              line-content spool form (known_of s) placed_table (range_of s) full l.form i v from x.is in-spool serials serials-content
              (ap (λ (r : Rule). r.holds) (sym five-rule) ∙ serial-rule.0) (ap (λ (r : Rule). r.may) (sym five-rule) ∙ serial-rule.1)

          serial : SymbolSerial spool line.place line.bytes v
          serial = symbol-content spool line.place line.bytes line.here line.low (known_of s) v line.read

          abbrev where-at : Span
          where-at = span line.place (length line.bytes)

          content-is : content_at rest ≡ where-at
          content-is = let same = sym keyed-so ∙ from.form in let q : rest ≡ from.rest = cc in ap content_at (q ∙ line.behind)

          abbrev o₅ : Held
          o₅ = enter o 0 5 v

          abbrev st₅ : State
          st₅ = placing s m fs n (symbol_block o₅) 0

          free : get_or (part_of o 0) 5 None ≡ None
          free = ap (λ (y : ℕ). get_or (part_of o 0) y None) (sym five) ∙ mark-free (part_of o 0) i taken.free

          slot-now : get_or (part_of o₅ 0) 5 None ≡ Some v
          slot-now = ap (λ (y : Slots). get_or y 5 None) (enter-own o 0 5 v inp.shaped.0) ∙ get_or-set_same (part_of o 0) 5 (Some v) None (omega (arith, six))

          abbrev links-by : Option Value → List (List ℕ)
          links-by y = symbol_links (numbers_of (slot_value y))

          taken-so : SerialTaken spool at to n (symbol_block o) (symbol_block o₅) serial.own serial.partners line.place line.bytes
          taken-so = record {
            extra = 0;
            opener = 12;
            read = serial.read;
            none_yet = figure-serial n o ∙ ap links-by free;
            one = figure-serial n o₅ ∙ ap links-by slot-now ∙ ap (λ (y : Value). symbol_links (numbers_of y)) serial.is;
            due = ap (due_of 12) free;
            spent = ap (due_of 12) slot-now;
            whole = refl;
            bytes = omega (arith, x.bytes, line.size, ap (λ (r : Rule). length r.key) five-rule, serial-rule.2);
            most = x.most;
          }

          number : own_number rec₁ ≡ serial.own
          number =
              ap own_number
              (q ∙ ap (λ (y : ℕ). put_line (rule_at (table_of 18) y) 0 v rec₀) five ∙ ap (λ (y : Value). put_line (rule_at (table_of 18) 5) 0 y rec₀) serial.is)
              ∙ own_is rec₀ serial.own serial.partners (part-long 32 d.scratch (omega (arith, z.lengths.scratch)))

          used-so : in_use d.tally d.serials serial.own ≡ has_number serial.own (numbers_so_far s fs)
          used-so = number-used c spool k FileHere d at to s m fs n (symbol_block o) (symbol_block o₅) 0 0 z serial.own serial.partners line.place line.bytes taken-so

          new-so : new_serial s fs v ≡ not (has_number serial.own (numbers_so_far s fs))
          new-so = ap (λ (y : Value). none_of (own_serial (numbers_of y)) (numbers_so_far s fs)) serial.is ∙ one_of serial.own (numbers_so_far s fs)

          stepped : (t : Bool) → in_use d.tally d.serials serial.own ≡ t → step_in (unlimited c) l st ≡ unless (not t) 15 (got st'')
          stepped t b = h ∙ ap (acted _ _ _ _) a ∙ ap (λ (y : Bool). unless y 15 (got st'')) (new-so ∙ ap not (sym used-so ∙ b))

          on-new : in_use d.tally d.serials serial.own ≡ false → x₁ ≡ lent_with true (lent_of d) 5 serial.own where-at → Out (S.Go d.now)
          on-new b y =
              goes-still c spool k FileHere own l to st d₁ d.now st'' (stepped false b) refl refl refl refl
              (subst (λ (t : ℕ). StandsAt c spool k FileHere (desk_now d₁ d.now) to (placing s m fs n (symbol_block (enter o 0 t v)) 0)) (sym five)
              (subst (λ (t : Lent). StandsAt c spool k FileHere (desk_now (lent_desk d t rec₁) d.now) to st₅) (sym y)
              (serial-stands c spool k FileHere d at to s m fs n (symbol_block o) (symbol_block o₅) 0 0 z serial.own serial.partners line.place line.bytes taken-so
              (sym used-so ∙ b) d.now (set d.marks 5 true) d.inner (with_part 32 rec₁ d.scratch)
              (length-set d.marks 5 true ∙ z.lengths.marks) z.lengths.inner
              (subst (λ (t : ℕ). Scratch (with_part 32 rec₁ d.scratch) (placing s m fs n (symbol_block (enter o 0 t v)) 0)) five put-entry)
              (omega arith) (z.block.0, in-entered 5 v (omega arith)))))

          by_use : (t : Bool) → in_use d.tally d.serials serial.own ≡ t → (t ≡ false → x₁ ≡ lent_with true (lent_of d) 5 serial.own where-at)
              → Out (cond t (S.Stop 15) (S.Go d.now))
          by_use true b y = stepped true b
          by_use false b y = on-new b (y refl)

          on-serial : clashes (lent_of d) i (own_number rec₁) ≡ in_use d.tally d.serials (own_number rec₁) → (clashes (lent_of d) i (own_number rec₁) ≡ false → x₁ ≡ lent_by (own_number rec₁))
              → Out (cond (clashes (lent_of d) i (own_number rec₁)) (S.Stop 15) (S.Go d.now))
          on-serial t y =
              let same : clashes (lent_of d) i (own_number rec₁) ≡ in_use d.tally d.serials serial.own = t ∙ ap (in_use d.tally d.serials) number in
              subst Out (ap (λ (b : Bool). cond b (S.Stop 15) (S.Go d.now)) (sym same))
              (by_use (in_use d.tally d.serials serial.own) refl
              (λ f. y (same ∙ f) ∙ ap (λ (j : ℕ). lent_with (eqb j 5) (lent_of d) j (own_number rec₁) (content_at rest)) five ∙ ap (λ (j : ℕ). lent_with true (lent_of d) 5 j (content_at rest)) number
              ∙ ap (lent_with true (lent_of d) 5 serial.own) content-is))

        on-entry : (b : Bool) → eqb i 5 ≡ b → (clashes (lent_of d) i (own_number rec₁) ≡ false → x₁ ≡ lent_by (own_number rec₁))
            → Out (cond (clashes (lent_of d) i (own_number rec₁)) (S.Stop 15) (S.Go d.now))
        on-entry true b y = on-serial (eqb-true i 5 b) (ap (λ (t : Bool). t && in_use d.tally d.serials (own_number rec₁)) b) y
        on-entry false b y =
            let quiet : clashes (lent_of d) i (own_number rec₁) ≡ false = ap (λ (t : Bool). t && in_use d.tally d.serials (own_number rec₁)) b in
            subst Out (ap (λ (t : Bool). cond t (S.Stop 15) (S.Go d.now)) (sym quiet)) (on-other b (y quiet))

      -- ── its text opened ──
      on-begin : (i j : ℕ) (v : Value) → did ≡ begin i j v → rec₁ ≡ put_line (rule_at (table_of 18) j) 0 v rec₀ → x₁ ≡ lent_inside (lent_of d) j → Out (S.Go (at_block d.now 11 1))
      on-begin i j v a q y =
          let taken : Taken placed_table full j v = begin-taken (known_of s) placed_table (range_of s) full l.form i j v (whole ∙ a) in
          let from : From (known_of s) placed_table (range_of s) full l.form j (begin i j v) = begin-from (known_of s) placed_table (range_of s) full l.form i j v (whole ∙ a) in
          let below : j < 6 = omega (arith, taken.row, placed-rows-six) in
          let (opening, inner-so) = begin-row (known_of s) placed_table (range_of s) full l.form j i v from in
          let one : j ≡ 1 = opening-row j below opening in
          let part-so : i ≡ 1 = inner-so ∙ ap (λ (y : ℕ). inner_of (rule_at placed_table y).holds) one ∙ begin-inner in
          let o' : Held = enter o 0 j v in
          let now : Now = at_block d.now 11 1 in
          let st₁ : State = placing s m fs n (symbol_block o') 1 in
          let row_in : part_of o' 0 ≡ set (part_of o 0) j (Some v) = enter-own o 0 j v inp.shaped.0 in
          let there : is_none (get_or (part_of o' 0) 1 None) ≡ false =
          ap (λ (t : Slots). is_none (get_or t 1 None)) row_in ∙ ap (λ (t : ℕ). is_none (get_or (set (part_of o 0) t (Some v)) 1 None)) one
          ∙ ap is_none (get_or-set_same (part_of o 0) 1 (Some v) None (omega (arith, six))) in
          let free : is_none (get_or (part_of o 0) 1 None) ≡ true = ap (λ (t : ℕ). is_none (get_or (part_of o 0) t None)) (sym one) ∙ ap is_none (mark-free (part_of o 0) j taken.free) in
          goes-still c spool k FileHere own l to st d₁ now st₁ (h ∙ ap (acted _ _ _ _) a ∙ ap (λ (t : ℕ). got (placing s m fs n (symbol_block o') t)) part-so) z.block.0 refl refl refl
          (subst (λ (t : Lent). StandsAt c spool k FileHere (desk_now (lent_desk d t rec₁) now) to st₁) (sym y)
          (placing-on c spool k FileHere d at to s m fs n o 0 z now (set d.marks j true) (replicate (length d.inner) false) rec₁ o' 1 later
          (length-set d.marks j true ∙ z.lengths.marks) (length-replicate (length d.inner) false ∙ z.lengths.inner)
          (record-entered c spool k FileHere d at to s m fs n o 0 z 1 0 j v rec₁ (omega arith) taken (q ∙ ap (λ (t : List Rule). put_line (rule_at t j) 0 v rec₀) placed-rows))
          (sym (other-slot j 5 v (λ t. omega (arith, t, one)))) refl
          (record {
            home = home_stays spool k d.now now d.marks d.inner d.inner s (in_layer m) refl refl inp.home;
            figures = inp.figures;
            part = refl;
            parts = omega arith;
            shaped = shaped-enter placed_tables 0 o 0 j v inp.shaped;
            marked = marked_more j v below;
            inner = λ t. blank-marks (length d.inner) z.lengths.inner ∙ ap rows_there (sym (text-kept j v ∙ inp.unopened free));
            unopened = λ t. clash t there;
            opened = λ t. there;
          })))

      on-stay : did ≡ stay → x₁ ≡ lent_of d → rec₁ ≡ rec₀ → Out (S.Go d.now)
      on-stay a y q = goes-still c spool k FileHere own l to st d₁ d.now st (h ∙ ap (acted _ _ _ _) a) refl refl refl refl (same-stands x₁ rec₁ y q)

      by-act : (a : Act) → did ≡ a → Entered (rule_at (table_of 18)) 0 rec₀ a rec₁ → PlacedLent (lent_of d) x₁ (own_number rec₁) (content_at rest) (next_of a) → Out (placed_step d.now (lent_of d) (own_number rec₁) (next_of a))
      by-act stay a q y = on-stay a y q
      by-act (entry i v) a q y = on-entry i v a q (eqb i 5) refl y
      by-act (begin i j v) a q y = on-begin i j v a q y
      by-act shut a q y = clash refl (read-shut (known_of s) row rule (shape_for rule rest) shut (row-did (known_of s) (range_of s) (get_or full row false) row rule rest shut refl a).read)
      by-act (refuse i) a q y = h ∙ ap (acted _ _ _ _) a

      pub row_line : (r : Step) → RowLine d.now (lent_of d) x₁ rec₀ rec₁ r (content_at rest) row_act → Out r
      row_line r y =
          subst Out (sym (y.did.answer ∙ ap (λ (a : Act). placed_step d.now (lent_of d) (own_number rec₁) (next_of a)) row-act))
          (by-act did refl (subst (λ (a : Act). Entered (rule_at (table_of 18)) 0 rec₀ a rec₁) row-act y.entered)
          (subst (λ (a : Act). PlacedLent (lent_of d) x₁ (own_number rec₁) (content_at rest) (next_of a)) row-act y.did.lent))
