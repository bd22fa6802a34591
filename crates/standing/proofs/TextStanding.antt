-- A line in a figure's text: from the code's answer to the step that the definitions make.
use Rattle.std.specs.Prelude.{Some}
use Prim.Native.Nat.{ℕ, ◌+◌, ◌-◌, ◌≤◌}
use mathlib.Core.Bool.{Bool, true, false}
use mathlib.Core.List.{List, [], ◌∷◌, ◌++◌}
use mathlib.Core.Path.{◌≡◌, refl, sym, ◌∙◌, ap, subst}
use native.Mathlib.Omega.{arith}
use lib.IntN.{ℤ}
use lib.ListN.{length, get_or, set, take, length-set, length-append}
use Rattle.rules.specs.declared.Class.{Class}
use Rattle.rules.specs.declared.LineForm.{LineForm}
use Rattle.rules.specs.Base.{all}
use Rattle.rules.specs.RangeClass.{digits}
use Rattle.rules.specs.Lines.{form_in}
use Rattle.rules.specs.Values.{Known, Value}
use Rattle.rules.specs.Rows.{Rule, Slots, Held, rows_there, Act, stay, entry, begin, shut, refuse, act}
use Rattle.rules.specs.Figures.{text_table}
use Rattle.rules.specs.Sets.{Figure, lettering, Set, known_of}
use Rattle.rules.specs.Machine.{Line, Home, is_layer, State, figures, texts}
use Rattle.rules.specs.RecordTable.{rule_at}
use Rattle.rules.proofs.Chains.{clash}
use Rattle.tables.specs.Tables.{table_of}
use Rattle.entries.specs.Names.{known_in}
use Rattle.entries.specs.Acts.{put_line, Entered}
use Rattle.account.specs.declared.Now.{Now}
use Rattle.account.specs.declared.Where.{Where}
use Rattle.account.specs.declared.Step.{Step}
use Rattle.account.specs.declared.Step.TheVariants as S
use Rattle.account.specs.Records.{part_at, with_part}
use Rattle.account.specs.Account.{figure_done}
use Rattle.standing.specs.SoFar.{empty_record}
use Rattle.standing.specs.Kept.{Scratch, Enters, Fills}
use Rattle.standing.specs.Standing.{Desk, used_of, inside, InHome, Stands, Counted, LineHere, StepOut}
use Rattle.account.specs.TextLines.{text_table_of, text_step, text_marks, TextLine}
use Rattle.standing.proofs.Openers.{is_begin, plain_kind, no-begin}
use Rattle.account.proofs.RowsTaken.{Taken, entry-taken}
use Rattle.standing.proofs.Marks.{marks-set}
use Rattle.standing.proofs.LaidTables.{with-back}
use Rattle.standing.proofs.OpenRecords.{text_rows}
use Rattle.standing.proofs.Completing.{goes-still, goes_filling, completed-by, number_by}
use Rattle.standing.proofs.EntriesKept.{line_in, text-row}
use Rattle.standing.proofs.TextKept.{text-fills}
use Rattle.standing.proofs.ClearedKept.{text-cleared}
use Rattle.standing.proofs.Standings.{sight, desk_with, stands_on, known, stands-still}
use Rattle.standing.proofs.HomeFacts.{home-layered, home_stays}
use Rattle.standing.proofs.FigureSights.{plain-serials}
use Rattle.standing.proofs.ClosedActs.{acted}

-- ── what is computed of the table of a text ──
text-rows : (b : Bool) → table_of (text_table_of b) ≡ text_rows b
unfolding table_of
text-rows true = refl
text-rows false = refl

plain_rows : (b : Bool) → all (λ r. plain_kind r.holds) (text_rows b) ≡ true
unfolding text_table
plain_rows b = refl

closed-sight : (s : Set) (h : Home) (fs : List Figure) (n : ℕ) (o : Slots) → sight (texts s h fs n o) ≡ sight (figures s h (fs ++ lettering n o ∷ []))
closed-sight s h fs n o =
    ap (λ (u : List (List ℕ)). record { set = (sight (texts s h fs n o)).set; layers = s.drawing.layers; serials = u; used = used_of (figures s h fs); inside = inside (figures s h fs); counts = true })
    (plain-serials s h fs (lettering n o) refl)

module _ (c : Class) (spool : List ℕ) (k : ℕ) (FileHere : Desk → Set → ℕ → Held → ℕ → Type 0) (d : Desk) (at to own : ℕ) (l : Line) (w : Where) (form : LineForm)
    (x : LineHere spool k at to form w l) (s : Set) (h : Home) (fs : List Figure) (n : ℕ) (o : Slots) (z : Stands c spool k d (FileHere d) at (texts s h fs n o)) (y : Counted c own d (texts s h fs n o)) where
  abbrev st : State
  st = texts s h fs n o

  abbrev rows : List Rule
  rows = text_rows (is_layer h)

  abbrev did : Act
  did = act (known_of s) rows (digits 0 0) (rows_there o) l.form

  abbrev code_rows : List Rule
  code_rows = table_of (text_table_of d.now.layered)

  home : InHome spool k d.now d.marks d.inner s h
  home = z.block.1

  the-rows : code_rows ≡ rows
  the-rows = ap (λ (y : Bool). table_of (text_table_of y)) (home-layered spool k d.now d.marks d.inner s h home) ∙ text-rows (is_layer h)

  -- the act that the code goes by
  abbrev code_act : Act
  code_act = act (known_in spool (take (get_or d.tally 9 0) d.symbols) (take (get_or d.tally 10 0) d.layers)) code_rows (digits 0 0) d.inner (form_in spool form)

  text-act : code_act ≡ did
  text-act =
      ap (λ (m : Known). act m code_rows (digits 0 0) d.inner (form_in spool form)) (known c spool k FileHere d at to st st z refl)
      ∙ ap (λ (t : List Rule). act (known_of s) t (digits 0 0) d.inner (form_in spool form)) the-rows
      ∙ ap (λ (m : List Bool). act (known_of s) rows (digits 0 0) m (form_in spool form)) z.block.4
      ∙ ap (act (known_of s) rows (digits 0 0) (rows_there o)) (sym x.is)

  later : at ≤ to
  later = omega (arith, x.bytes)

  -- m₁, rec₁: the marks and the record on return
  module _ (m₁ : List Bool) (rec₁ : List ℤ) where
    abbrev t₁ : List ℤ
    t₁ = with_part 32 rec₁ d.scratch

    abbrev d₁ : Desk
    d₁ = desk_with d d.now d.marks m₁ t₁

    abbrev Out : Step → Type 0
    Out r = StepOut c spool k FileHere own l to st d₁ r

    -- nothing but the place in the spool
    on-stay : did ≡ stay → m₁ ≡ d.inner → rec₁ ≡ part_at 32 d.scratch → Out (S.Go d.now)
    on-stay a m q =
        goes-still c spool k FileHere own l to st d₁ d.now st (ap (acted _ _ _ _) a) refl refl refl refl
        (stands-still c spool k FileHere d at to st z later d.tally d.marks m₁ d.header t₁ refl refl m refl (with-back 32 rec₁ d.scratch q))

    -- one of its lines
    on-entry : (j : ℕ) (v : Value) → did ≡ entry j v → m₁ ≡ set d.inner j true → rec₁ ≡ put_line (rule_at code_rows j) 0 v (part_at 32 d.scratch) → Out (S.Go d.now)
    on-entry j v a m q =
        let st' : State = texts s h fs n (set o j (Some v)) in
        let got-it : Taken rows (rows_there o) j v = entry-taken (known_of s) rows (digits 0 0) (rows_there o) l.form j v a in
        let row : Enters c st st' (line_in 32 rows j v d.scratch) = text-row c s h fs n o d.scratch z.scratch j v z.block.3 got-it in
        let put : line_in 32 rows j v d.scratch ≡ t₁ =
        ap (λ (i : List ℤ). with_part 32 i d.scratch) (ap (λ (i : List Rule). put_line (rule_at i j) 0 v (part_at 32 d.scratch)) (sym the-rows) ∙ sym q) in
        goes-still c spool k FileHere own l to st d₁ d.now st' (ap (acted _ _ _ _) a) refl refl refl row.same
        (stands_on c spool k FileHere d at to st st' z d.now d.marks m₁ t₁ refl z.lengths.marks (ap length m ∙ length-set d.inner j true ∙ z.lengths.inner)
        (subst (λ (t : List ℤ). Scratch t st') put row.scratch)
        (omega (arith, z.counted, later)) (omega (arith, z.named, later)) (omega (arith, z.numbered, later)) (
          z.block.0,
          home_stays spool k d.now d.now d.marks d.inner m₁ s h refl refl home,
          z.block.2,
          length-set o j (Some v) ∙ z.block.3,
          m ∙ ap (λ (i : List Bool). set i j true) z.block.4 ∙ sym (marks-set o j v),
        ))

    on-begin : (i j : ℕ) (v : Value) → did ≡ begin i j v → Out (S.Stop 5)
    on-begin i j v a = clash (ap is_begin a) (no-begin (known_of s) rows (digits 0 0) (rows_there o) l.form (plain_rows (is_layer h)))

    on-refuse : (m : ℕ) → did ≡ refuse m → Out (S.Stop m)
    on-refuse m a = ap (acted _ _ _ _) a

    -- its end
    on-shut : did ≡ shut → m₁ ≡ d.inner → rec₁ ≡ part_at 32 d.scratch → Out (S.Go (figure_done d.now))
    on-shut a m q =
        let now : Now = figure_done d.now in
        let st' : State = figures s h (fs ++ lettering n o ∷ []) in
        let back : d.scratch ≡ t₁ = sym (with-back 32 rec₁ d.scratch q) in
        goes_filling c spool k FileHere own l to st d₁ now st' (ap (acted _ _ _ _) a) 32 (d.now.records - 1) (completed-by d.now now 10 8 z.block.0 refl)
        (number_by d.now now own 10 8 z.block.0 refl) 0 (omega arith) (omega arith)
        (subst (Fills c st st' 0 32 (d.now.records - 1)) back (text-fills c s h fs n o d.now.records y.size d.scratch z.scratch))
        (stands_on c spool k FileHere d at to st st' z now d.marks m₁ (with_part 32 empty_record t₁) (closed-sight s h fs n o) z.lengths.marks (ap length m ∙ z.lengths.inner)
        (subst (λ (t : List ℤ). Scratch (with_part 32 empty_record t) st') back (text-cleared s h fs n o d.scratch z.scratch))
        (omega (arith, z.counted, x.bytes, length-append fs (lettering n o ∷ []))) (omega (arith, z.named, later)) (omega (arith, z.numbered, later)) (
          refl,
          home_stays spool k d.now now d.marks d.inner m₁ s h refl refl home,
          ap (λ (i : ℕ). i + 1) z.block.2 ∙ sym (length-append fs (lettering n o ∷ [])),
        ))

    by-act : (f : Act) → did ≡ f → m₁ ≡ text_marks f d.inner → Entered (rule_at code_rows) 0 (part_at 32 d.scratch) f rec₁ → Out (text_step d.now f)
    by-act stay a m q = on-stay a m q
    by-act (entry j v) a m q = on-entry j v a m q
    by-act (begin i j v) a m q = on-begin i j v a
    by-act shut a m q = on-shut a m q
    by-act (refuse i) a m q = on-refuse i a

    pub text-line : (r : Step) → TextLine code_act d.now d.inner m₁ (part_at 32 d.scratch) rec₁ r → Out r
    text-line r f =
        subst Out (sym (f.answer ∙ ap (text_step d.now) text-act))
        (by-act did refl (f.marks ∙ ap (λ (a : Act). text_marks a d.inner) text-act)
        (subst (λ (a : Act). Entered (rule_at code_rows) 0 (part_at 32 d.scratch) a rec₁) text-act f.entered))
