-- A line in FILE_FORMAT: from the code's answer to the step that the definitions make.
use Prim.Native.Nat.{ℕ, zero, suc, ◌+◌, ◌≤◌}
use mathlib.Core.Bool.{Bool, true, false, cond}
use mathlib.Core.List.{List, [], ◌∷◌}
use mathlib.Core.Path.{◌≡◌, refl, sym, ◌∙◌, ap, subst}
use native.Mathlib.Omega.{arith}
use lib.Dec.{eqb}
use lib.IntN.{ℤ}
use lib.ListN.{length, get_or, set, take, length-set}
use Rattle.rules.specs.declared.Class.{Class}
use Rattle.rules.specs.declared.LineForm.{LineForm}
use Rattle.rules.specs.Base.{is_nil}
use Rattle.rules.specs.RefusalNumbers.{got, unless}
use Rattle.rules.specs.RangeClass.{digits}
use Rattle.rules.specs.Lines.{form_in}
use Rattle.rules.specs.Values.{Known, Value, range_of_wires, day, clock, nothing_more}
use Rattle.rules.specs.Rows.{Rule, Held, part_of, enter, rows_there, Act, stay, entry, begin, shut, refuse, act}
use Rattle.rules.specs.Blocks.{around, file_tables}
use Rattle.rules.specs.Sets.{Contents, Set, is_first, known_of}
use Rattle.rules.specs.Machine.{Line, State, top, file, close_file, shut_part, unlimited}
use Rattle.rules.specs.LineByLine.{step_in}
use Rattle.rules.specs.RecordTable.{columns, put_held, rule_at}
use Rattle.rules.proofs.Chains.{clash}
use Rattle.rules.proofs.Rows.{row_at}
use Rattle.tables.specs.Tables.{table_of}
use Rattle.entries.specs.Names.{known_in}
use Rattle.entries.specs.Acts.{put_line}
use Rattle.account.specs.declared.Now.{Now}
use Rattle.account.specs.declared.Where.{Where}
use Rattle.account.specs.declared.Step.{Step}
use Rattle.account.specs.declared.Step.TheVariants as S
use Rattle.account.specs.Account.{at_block}
use Rattle.account.specs.Numbering.{header_length}
use Rattle.standing.specs.Kept.{Enters, FillsAll}
use Rattle.standing.specs.Standing.{Desk, desk_now, Stands, LineHere, Counted, StepOut}
use Rattle.account.specs.FileLines.{file_table_of, marks_from, part_marks, kept_in, agrees, closed_file, closed_tally, file_width, shut_file, file_step, FileMarks, FileHeader, Shut, AtShut, FileLine}
use Rattle.standing.specs.FileStanding.{file_head, InFile}
use Rattle.standing.proofs.Openers.{is_begin, no-begin}
use Rattle.account.proofs.RowsTaken.{entry-taken, begin-taken}
use Rattle.standing.proofs.LineOrigins.{From, entry-from, begin-from}
use Rattle.standing.proofs.Standings.{known, first-volume, stands-with, stands-still}
use Rattle.standing.proofs.Completing.{completed-by, number_by, goes-still, goes-heading}
use Rattle.standing.proofs.EntriesKept.{file-enters}
use Rattle.standing.proofs.FileKept.{file_closed, file-fills}
use Rattle.standing.proofs.FileHeld.{PlacedForm, Holds, file-holds}
use Rattle.standing.proofs.FileGoes.{Behind, file-behind}
use Rattle.standing.proofs.FileKeeps.{next_row}
use Rattle.standing.proofs.FilePartMarks.{file-table, part-number}
use Rattle.standing.proofs.FileEntries.{name-value, name-closed, one-numbers, one_number}
use Rattle.standing.proofs.FileEntered.{name-kind, date-kind, time-kind, wires-kind, plain-elec, plain-later, kept_open, part_moved, row-entered}
use Rattle.standing.proofs.FileClosing.{file_desk, agree-is, closed-first, closed-later}
use Rattle.standing.proofs.ClosedActs.{acted}

module _ (c : Class) (spool : List ℕ) (k : ℕ) (d : Desk) (at to own : ℕ) (l : Line) (w : Where) (form : LineForm)
    (x : LineHere spool k at to form w l) (following : List ℕ) (nx : l.next ≡ following) (pf : PlacedForm l.form) (s : Set) (n : ℕ) (h : Held) (p : ℕ)
    (z : Stands c spool k d (InFile spool k d) at (file s n h p)) (y : Counted c own d (file s n h p)) where
  abbrev st : State
  st = file s n h p

  abbrev first : Bool
  first = is_first s

  abbrev rows : List Rule
  rows = get_or (file_tables first) p []

  abbrev did : Act
  did = act (known_of s) rows (digits 0 0) (rows_there (part_of h p)) l.form

  f : InFile spool k d s n h p
  f = z.block.1

  later : at ≤ to
  later = omega (arith, x.bytes)

  is-first : eqb k 1 ≡ first
  is-first = first-volume k s f.volume

  -- the act that the code goes by, where it knows whether the volume is the first
  abbrev pub code_act : Bool → Act
  code_act b =
      act (known_in spool (take (get_or d.tally 9 0) d.symbols) (take (get_or d.tally 10 0) d.layers)) (table_of (file_table_of b d.now.part)) (digits 0 0) (part_marks b d.now.part d.marks)
      (form_in spool form)

  table_is : table_of (file_table_of first p) ≡ rows
  table_is = file-table first p f.parts

  -- by the numbers of the part, and by what the state holds
  by_part : act (known_of s) (table_of (file_table_of first p)) (digits 0 0) (part_marks first p d.marks) l.form ≡ did
  by_part =
      ap (λ (t : List Rule). act (known_of s) t (digits 0 0) (part_marks first p d.marks) l.form) table_is
      ∙ ap (λ (m : List Bool). act (known_of s) rows (digits 0 0) m l.form) (f.marked p (part-number first p f.parts))

  file-act : code_act first ≡ did
  file-act =
      ap (λ (m : Known). act m (table_of (file_table_of first d.now.part)) (digits 0 0) (part_marks first d.now.part d.marks) (form_in spool form)) (known c spool k (InFile spool k) d at to st st z refl)
      ∙ ap (λ (i : ℕ). act (known_of s) (table_of (file_table_of first i)) (digits 0 0) (part_marks first i d.marks) (form_in spool form)) f.part
      ∙ ap (act (known_of s) (table_of (file_table_of first p)) (digits 0 0) (part_marks first p d.marks)) (sym x.is)
      ∙ by_part

  holds : Holds did
  holds = subst Holds by_part (file-holds (known_of s) first p (digits 0 0) (part_marks first p d.marks) l.form f.parts pf)

  module _ (tally₁ : List ℕ) (m₁ : List Bool) (h₁ : List ℤ) where
    abbrev desk₁ : Desk
    desk₁ = file_desk d tally₁ m₁ h₁

    abbrev Out : Step → Type 0
    Out r = StepOut c spool k (InFile spool k) own l to st desk₁ r

    -- FILE_FORMAT stays open
    stays : (now : Now) (h' : Held) (q : ℕ) → step_in (unlimited c) l st ≡ got (file s n h' q) → tally₁ ≡ d.tally → length m₁ ≡ 28 → length h₁ ≡ header_length → now.records ≡ d.now.records → now.block ≡ 1
        → InFile spool k (desk_now desk₁ now) s n h' q → Out (S.Go now)
    stays now h' q step et lm lh records block held =
        let entered : Enters c st (file s n h' q) d.scratch = file-enters c s n h h' p q d.scratch z.scratch in
        goes-still c spool k (InFile spool k) own l to st desk₁ now (file s n h' q) step (z.block.0 ∙ sym block) records refl entered.same
        (subst (λ (y : List ℕ). InFile spool k (desk_now (file_desk d y m₁ h₁) now) s n h' q
        → Stands c spool k (desk_now (file_desk d y m₁ h₁) now) (InFile spool k (desk_now (file_desk d y m₁ h₁) now)) to (file s n h' q)) (sym et)
        (λ y. stands-with c spool k (InFile spool k) d at to st (file s n h' q) z now m₁ d.inner h₁ d.scratch refl lm z.lengths.inner lh entered.scratch
        (omega (arith, z.counted, later)) (omega (arith, z.named, later)) (omega (arith, z.numbered, later)) (block, y))
        held)

    same-marks : m₁ ≡ d.marks → length m₁ ≡ 28
    same-marks em = ap length em ∙ z.lengths.marks

    same-header : h₁ ≡ d.header → length h₁ ≡ header_length
    same-header eh = ap length eh ∙ z.lengths.header

    -- the header and the part behind the line
    behind : FileHeader first p d.header h₁ did → Behind first p h₁ did
    behind hd =
        subst (Behind first p h₁) by_part
        (file-behind (known_of s) l.form first p d.marks d.header h₁ f.parts f.header pf (subst (FileHeader first p d.header h₁) (sym by_part) hd))

    -- nothing but the place in the spool
    on-stay : did ≡ stay → tally₁ ≡ d.tally → m₁ ≡ d.marks → h₁ ≡ d.header → Out (S.Go d.now)
    on-stay a et em eh =
        goes-still c spool k (InFile spool k) own l to st desk₁ d.now st (ap (acted _ _ _ _) a) refl refl refl refl
        (stands-still c spool k (InFile spool k) d at to st z later tally₁ m₁ d.inner h₁ d.scratch et em refl eh refl)

    on-refuse : (m : ℕ) → did ≡ refuse m → Out (S.Stop m)
    on-refuse m a = ap (acted _ _ _ _) a

    -- ── a row ──
    module _ (j : ℕ) (v : Value) (a : did ≡ entry j v) (et : tally₁ ≡ d.tally) (em : m₁ ≡ set d.marks (marks_from p + j) true)
        (eh : h₁ ≡ kept_in first p j (put_line (rule_at (table_of (file_table_of first p)) j) 64 v d.header)) where
      from : From (known_of s) rows (digits 0 0) (rows_there (part_of h p)) l.form j (entry j v)
      from = entry-from (known_of s) rows (digits 0 0) (rows_there (part_of h p)) l.form j v a

      the_row : rule_at rows j ≡ from.rule
      the_row = row_at from.row _

      after : Behind first p h₁ (entry j v)
      after = subst (Behind first p h₁) a (behind (subst (FileHeader first p d.header h₁) (sym a) eh))

      on-entry : Out (S.Go d.now)
      on-entry =
          stays d.now (enter h p j v) p (ap (acted _ _ _ _) a) et (ap length em ∙ length-set d.marks (marks_from p + j) true ∙ z.lengths.marks) after.0.long refl z.block.0
          (row-entered spool k d s n h p f tally₁ m₁ h₁ d.now j v (entry-taken (known_of s) rows (digits 0 0) (rows_there (part_of h p)) l.form j v a) (subst Holds a holds) em
          (eh ∙ ap (λ (t : List Rule). kept_in first p j (put_line (rule_at t j) 64 v d.header)) table_is) after.0
          (λ q r. name-value spool form (known_of s) rows (digits 0 0) (rows_there (part_of h p)) l.form j v x.is from (ap (λ (y : Rule). y.holds) (sym the_row) ∙ name-kind first p j q r))
          (λ b r. let y = date-kind first p j b f.parts r in
          one_number (known_of s) rows (digits 0 0) (rows_there (part_of h p)) l.form j v day nothing_more from (ap (λ (y : Rule). y.holds) (sym the_row) ∙ y.0) (ap (λ (y : Rule). y.may) (sym the_row) ∙ y.1))
          (λ b r. let y = time-kind first p j b f.parts r in
          one_number (known_of s) rows (digits 0 0) (rows_there (part_of h p)) l.form j v clock nothing_more from (ap (λ (y : Rule). y.holds) (sym the_row) ∙ y.0) (ap (λ (y : Rule). y.may) (sym the_row) ∙ y.1))
          (λ q r. let y = wires-kind first p j f.parts q r in
          one_number (known_of s) rows (digits 0 0) (rows_there (part_of h p)) l.form j v range_of_wires nothing_more from (ap (λ (y : Rule). y.holds) (sym the_row) ∙ y.0) (ap (λ (y : Rule). y.may) (sym the_row) ∙ y.1))
          (λ r. one-numbers (known_of s) rows (digits 0 0) (rows_there (part_of h p)) l.form j (entry j v) from (ap (λ (y : Rule). columns y.holds) (sym the_row) ∙ r)) p f.part f.parts)

    -- ── a part opens ──
    module _ (i j : ℕ) (v : Value) (a : did ≡ begin i j v) (et : tally₁ ≡ d.tally) (em : m₁ ≡ set d.marks (marks_from p + j) true)
        (eh : h₁ ≡ put_line (rule_at (table_of (file_table_of first p)) j) 64 v d.header) where
      opener : From (known_of s) rows (digits 0 0) (rows_there (part_of h p)) l.form j (begin i j v)
      opener = begin-from (known_of s) rows (digits 0 0) (rows_there (part_of h p)) l.form i j v a

      its-row : rule_at rows j ≡ opener.rule
      its-row = row_at opener.row _

      opened : Behind first p h₁ (begin i j v)
      opened = subst (Behind first p h₁) a (behind (subst (FileHeader first p d.header h₁) (sym a) eh))

      not-later : first ≡ false → ⊥
      not-later b = clash (ap is_begin a) (no-begin (known_of s) rows (digits 0 0) (rows_there (part_of h p)) l.form (plain-later first p b f.parts))

      not-elec : p ≡ 3 → ⊥
      not-elec q = clash (ap is_begin a) (no-begin (known_of s) rows (digits 0 0) (rows_there (part_of h p)) l.form (plain-elec first p f.parts q))

      not-name : p ≡ 0 → j ≡ next_row first → ⊥
      not-name q r = name-closed (known_of s) rows (digits 0 0) (rows_there (part_of h p)) l.form i j v opener (ap (λ (y : Rule). y.holds) (sym its-row) ∙ name-kind first p j q r)

      on-begin : Out (S.Go (at_block d.now 1 i))
      on-begin =
          stays (at_block d.now 1 i) (enter h p j v) i (ap (acted _ _ _ _) a) et (ap length em ∙ length-set d.marks (marks_from p + j) true ∙ z.lengths.marks) opened.0.long refl refl
          (row-entered spool k d s n h p f tally₁ m₁ h₁ (at_block d.now 1 i) j v (begin-taken (known_of s) rows (digits 0 0) (rows_there (part_of h p)) l.form i j v a) (subst Holds a holds).0 em
          (eh ∙ ap (λ (t : List Rule). put_line (rule_at t j) 64 v d.header) table_is ∙ sym (kept_open first p j (put_line (rule_at rows j) 64 v d.header) not-later not-name not-elec)) opened.0
          (λ q r. absurd (not-name q r)) (λ b r. absurd (not-later b)) (λ b r. absurd (not-later b)) (λ q r. absurd (not-elec q))
          (λ r. one-numbers (known_of s) rows (digits 0 0) (rows_there (part_of h p)) l.form j (begin i j v) opener (ap (λ (y : Rule). columns y.holds) (sym its-row) ∙ r)) i refl opened.1)

    -- ── an end ──
    module _ (a : did ≡ shut) (em : m₁ ≡ d.marks) (eh : h₁ ≡ d.header) where
      shut-step : step_in (unlimited c) l st ≡ shut_part p (close_file l s n h) (λ q. file s n h q)
      shut-step = ap (acted _ _ _ _) a

      -- of an inner part
      on-back : (q : ℕ) → p ≡ suc q → tally₁ ≡ d.tally → Out (S.Go (at_block d.now 1 (around p)))
      on-back q b et =
          let o : Behind first p h₁ shut = subst (Behind first p h₁) a (behind (subst (FileHeader first p d.header h₁) (sym a) eh)) in
          stays (at_block d.now 1 (around p)) h (around p)
          (shut-step ∙ ap (λ (i : ℕ). shut_part i (close_file l s n h) (λ q. file s n h q)) b ∙ ap (λ (i : ℕ). got (file s n h (around i))) (sym b)) et (same-marks em) (same-header eh) refl refl
          (part_moved spool k d s n h p f tally₁ m₁ h₁ (at_block d.now 1 (around p)) (around p) refl o.1 em eh)

      -- of FILE_FORMAT
      abbrev fits : Bool
      fits = agrees spool following first d.tally d.header

      close-step : p ≡ 0 → step_in (unlimited c) l st ≡ unless fits 16 (got (file_closed s n h))
      close-step b =
          shut-step ∙ ap (λ (i : ℕ). shut_part i (close_file l s n h) (λ q. file s n h q)) b
          ∙ ap (λ (y : Bool). unless y 16 (got (file_closed s n h))) (sym (agree-is c spool k d at to s.drawing s.symbols s.now s.taken n h p l following nx s.volumes z))

      abbrev now' : Now
      now' = at_block d.now 0 (cond first 1 3)

      -- its records are complete; they are the header's, which the close leaves as it is
      fills : FillsAll c st (file_closed s n h) 0 own (take (file_width first) h₁)
      fills =
          file-fills c s n h p own h₁ (ap (take (file_width first)) eh ∙ f.filled ∙ ap (λ (i : ℕ). put_held (file_tables first) h (file_head first i n)) f.volume) y.own

      closed : tally₁ ≡ closed_tally first d.header d.tally → Stands c spool k (desk_now desk₁ now') (InFile spool k (desk_now desk₁ now')) to (file_closed s n h)
      closed et = go s.volumes z et
        where
          go : (vs : List Contents) → Stands c spool k d (InFile spool k d) at (file (record { drawing = s.drawing; symbols = s.symbols; volumes = vs; now = s.now; taken = s.taken }) n h p)
              → tally₁ ≡ closed_tally (is_nil vs) d.header d.tally
              → Stands c spool k (desk_now desk₁ (at_block d.now 0 (cond (is_nil vs) 1 3))) (InFile spool k (desk_now desk₁ (at_block d.now 0 (cond (is_nil vs) 1 3)))) to
              (top (record { drawing = s.drawing; symbols = s.symbols; volumes = vs; now = record { line = n; file = h; blocks = [] }; taken = s.taken }) (cond (is_nil vs) 1 3))
          go [] z et = closed-first c spool k d at to s.drawing s.symbols s.now s.taken n h p later tally₁ m₁ h₁ em eh z et
          go (v ∷ vs) z et = closed-later c spool k d at to s.drawing s.symbols s.now s.taken n h p later tally₁ m₁ h₁ em eh v vs z et

      on-close : p ≡ 0 → (b : Bool) → fits ≡ b → (fits ≡ true → tally₁ ≡ closed_tally first d.header d.tally) → Out (cond b (S.Go now') (S.Stop 16))
      on-close q true b et =
          goes-heading c spool k (InFile spool k) own l to st desk₁ now' (file_closed s n h) (close-step q ∙ ap (λ (y : Bool). unless y 16 (got (file_closed s n h))) b)
          (completed-by d.now now' 1 0 z.block.0 refl) (number_by d.now now' own 1 0 z.block.0 refl) refl refl fills (closed (et b))
      on-close q false b et = close-step q ∙ ap (λ (y : Bool). unless y 16 (got (file_closed s n h))) b

      on-shut : (q : ℕ) → p ≡ q → Shut p fits d.tally tally₁ (closed_tally first d.header d.tally) → Out (shut_file p (closed_file spool following first d.now d.tally d.header) d.now)
      on-shut zero b et =
          subst (λ (i : ℕ). Out (shut_file i (closed_file spool following first d.now d.tally d.header) d.now)) (sym b)
          (on-close b fits refl (subst (λ (i : ℕ). Shut i fits d.tally tally₁ (closed_tally first d.header d.tally)) b et))
      on-shut (suc q) b et =
          subst Out (ap (λ (i : ℕ). S.Go (at_block d.now 1 (around i))) b ∙ ap (λ (i : ℕ). shut_file i (closed_file spool following first d.now d.tally d.header) d.now) (sym b))
          (on-back q b (subst (λ (i : ℕ). Shut i fits d.tally tally₁ (closed_tally first d.header d.tally)) b et))

    -- ── any line ──
    abbrev agreed : Bool
    agreed = agrees spool following first d.tally d.header

    by-act : (o : Act) → did ≡ o → AtShut p agreed d.tally tally₁ (closed_tally first d.header d.tally) o → FileMarks p d.marks m₁ o → FileHeader first p d.header h₁ o
        → Out (file_step spool following first d.now d.tally d.header o)
    by-act stay a et em eh = on-stay a et em eh
    by-act (entry j v) a et em eh = on-entry j v a et em eh
    by-act (begin i j v) a et em eh = on-begin i j v a et em eh
    by-act shut a et em eh =
        subst (λ (i : ℕ). Out (shut_file i (closed_file spool following first d.now d.tally d.header) d.now)) (sym f.part) (on-shut a em eh p refl et)
    by-act (refuse m) a et em eh = on-refuse m a

    -- the code's line, where it is the definitions' act
    line-is : (r : Step) → FileLine did spool following first d.now d.tally tally₁ d.marks m₁ d.header h₁ r → Out r
    line-is r o =
        subst Out (sym o.answer)
        (by-act did refl (subst (λ (i : ℕ). AtShut i agreed d.tally tally₁ (closed_tally first d.header d.tally) did) f.part o.tally) (subst (λ (i : ℕ). FileMarks i d.marks m₁ did) f.part o.marks)
        (subst (λ (i : ℕ). FileHeader first i d.header h₁ did) f.part o.header))

    pub file-line : (r : Step) → FileLine (code_act (eqb k 1)) spool following (eqb k 1) d.now d.tally tally₁ d.marks m₁ d.header h₁ r
        → StepOut c spool k (InFile spool k) own l to (file s n h p) (file_desk d tally₁ m₁ h₁) r
    file-line r o =
        line-is r
        (subst (λ (a : Act). FileLine a spool following first d.now d.tally tally₁ d.marks m₁ d.header h₁ r) file-act
        (subst (λ (b : Bool). FileLine (code_act b) spool following b d.now d.tally tally₁ d.marks m₁ d.header h₁ r) is-first o))
