-- A line in DRAWING_FORMAT: from the code's answer to the step that the definitions make.
use Rattle.std.specs.Prelude.{Some}
use Prim.Native.Nat.{ℕ, ◌≤◌}
use mathlib.Core.Bool.{Bool, true}
use mathlib.Core.List.{List, [], map}
use mathlib.Core.Path.{◌≡◌, refl, sym, ◌∙◌, ap, subst}
use native.Mathlib.Omega.{arith}
use lib.IntN.{ℤ}
use lib.ListN.{length, get_or, set, take, length-set}
use lib.Seq.{take-set-lt}
use Rattle.rules.specs.declared.Class.{Class}
use Rattle.rules.specs.declared.LineForm.{LineForm}
use Rattle.rules.specs.RangeClass.{digits_of}
use Rattle.rules.specs.Lines.{form_in}
use Rattle.rules.specs.Values.{Known, Value}
use Rattle.rules.specs.Rows.{Rule, Held, rows_there, Act, stay, entry, begin, shut, refuse, act}
use Rattle.rules.specs.Blocks.{drawing_table}
use Rattle.rules.specs.Sets.{Layer, Drawing, Set, with_own, with_drawing, arc_of, symbol_name_of, known_of}
use Rattle.rules.specs.Machine.{Line, State, top, drawing, layer_names}
use Rattle.rules.specs.RecordTable.{rule_at}
use Rattle.tables.specs.Tables.{table_of}
use Rattle.entries.specs.Names.{names_in, known_in}
use Rattle.entries.specs.Acts.{put_line}
use Rattle.account.specs.declared.Where.{Where}
use Rattle.account.specs.declared.Now.{Now}
use Rattle.account.specs.declared.Step.{Step}
use Rattle.account.specs.declared.Step.TheVariants as S
use Rattle.account.specs.Records.{part_at, with_part}
use Rattle.account.specs.Account.{at_block}
use Rattle.standing.specs.SoFar.{empty_record}
use Rattle.standing.specs.Kept.{Scratch, Enters}
use Rattle.standing.specs.Standing.{Desk, InDrawing, Stands, LineHere, Counted, StepOut}
use Rattle.account.specs.TopLines.{Answered}
use Rattle.account.specs.DrawingLines.{drawing_act, drawing_now, drawing_marks, drawing_put}
use Rattle.account.proofs.RowsTaken.{Taken, entry-taken, begin-taken}
use Rattle.standing.proofs.Marks.{marks-set}
use Rattle.standing.proofs.LaidTables.{with-back}
use Rattle.standing.proofs.Standings.{desk_with, stands_on, lengths-kept, stands-still}
use Rattle.standing.proofs.OpenRecords.{eight-rows}
use Rattle.standing.proofs.ScratchKept.{scratch-long}
use Rattle.standing.proofs.Completing.{completed-by, number_by, goes-still, goes_entering, goes_filling}
use Rattle.standing.proofs.EntriesKept.{line_in, drawing-row, names_open}
use Rattle.standing.proofs.ClosesKept.{drawing-fills}
use Rattle.standing.proofs.ClearedKept.{drawing-cleared}
use Rattle.standing.proofs.ClosedActs.{acted}

-- ── what is computed of the table ──
pub drawing-table : table_of 7 ≡ drawing_table
unfolding table_of
drawing-table = refl

module _ (c : Class) (spool : List ℕ) (k : ℕ) (FileHere : Desk → Set → ℕ → Held → ℕ → Type 0) (d : Desk) (at to own : ℕ) (l : Line) (w : Where) (form : LineForm)
    (x : LineHere spool k at to form w l) (s : Set) (g : Drawing) (z : Stands c spool k d (FileHere d) at (drawing s g)) (y : Counted c own d (drawing s g)) where
  abbrev st : State
  st = drawing s g

  abbrev did : Act
  did = act (known_of s) drawing_table (digits_of (arc_of s)) (rows_there g.own) l.form

  inw : InDrawing spool k d.now d.marks d.inner s g
  inw = z.block.1

  -- no names are known yet
  drawing-known : known_in spool (take (get_or d.tally 9 0) d.symbols) [] ≡ known_of s
  drawing-known =
      let f : List (List ℕ) → List (List ℕ) → Known = λ a b. record { symbols = a; layers = b } in
      let n : get_or d.tally 9 0 ≡ length s.symbols = ap (λ (t : List ℕ). get_or t 9 0) z.tally in
      ap (λ (m : ℕ). f (names_in spool (take m d.symbols)) []) n ∙ ap (λ (y : List (List ℕ)). f y []) z.symbols
      ∙ ap (λ (y : List Layer). f (map symbol_name_of s.symbols) (map (λ (i : Layer). i.id) y)) (sym inw.bare.layers)

  -- the act that the code goes by
  abbrev pub code_act : Act
  code_act = drawing_act (known_in spool (take (get_or d.tally 9 0) d.symbols) []) (get_or d.tally 0 0) d.marks (form_in spool form)

  drawing-act : code_act ≡ did
  drawing-act =
      ap (λ (m : Known). act m (table_of 7) (digits_of (get_or d.tally 0 0)) (take 8 d.marks) (form_in spool form)) drawing-known
      ∙ ap (λ (t : List Rule). act (known_of s) t (digits_of (get_or d.tally 0 0)) (take 8 d.marks) (form_in spool form)) drawing-table
      ∙ ap (λ (t : List ℕ). act (known_of s) drawing_table (digits_of (get_or t 0 0)) (take 8 d.marks) (form_in spool form)) z.tally
      ∙ ap (λ (m : List Bool). act (known_of s) drawing_table (digits_of (arc_of s)) m (form_in spool form)) inw.marked
      ∙ ap (act (known_of s) drawing_table (digits_of (arc_of s)) (rows_there g.own)) (sym x.is)

  later : at ≤ to
  later = omega (arith, x.bytes)

  -- m₁, rec₁: the marks and its record on return
  module _ (m₁ : List Bool) (rec₁ : List ℤ) where
    abbrev t₁ : List ℤ
    t₁ = with_part 0 rec₁ d.scratch

    abbrev desk₁ : Desk
    desk₁ = desk_with d d.now m₁ d.inner t₁

    abbrev Out : Step → Type 0
    Out r = StepOut c spool k FileHere own l to st desk₁ r

    -- nothing but the place in the spool
    on-stay : did ≡ stay → m₁ ≡ d.marks → rec₁ ≡ part_at 0 d.scratch → Out (S.Go d.now)
    on-stay a m q =
        goes-still c spool k FileHere own l to st desk₁ d.now st (ap (acted _ _ _ _) a) refl refl refl refl
        (stands-still c spool k FileHere d at to st z later d.tally m₁ d.inner d.header t₁ refl m refl refl (with-back 0 rec₁ d.scratch q))

    -- one of its rows: j, with these numbers
    module _ (j : ℕ) (v : Value) (it : Taken drawing_table (rows_there g.own) j v) (m : m₁ ≡ set d.marks j true) (q : rec₁ ≡ put_line (rule_at (table_of 7) j) 0 v (part_at 0 d.scratch)) where
      abbrev g' : Drawing
      g' = with_own (set g.own j (Some v)) g

      put : line_in 0 drawing_table j v d.scratch ≡ t₁
      put =
          sym (ap (λ (r : List ℤ). with_part 0 r d.scratch) (q ∙ ap (λ (t : List Rule). put_line (rule_at t j) 0 v (part_at 0 d.scratch)) drawing-table))

      row-marks : length m₁ ≡ 28
      row-marks = ap length m ∙ length-set d.marks j true ∙ z.lengths.marks

      row_in : (n : Now) → InDrawing spool k n m₁ d.inner s g'
      row_in n = record {
        phase = inw.phase;
        bare = inw.bare;
        slots = length-set g.own j (Some v) ∙ inw.slots;
        marked =
            ap (take 8) m ∙ take-set-lt 8 d.marks j true (omega (arith, it.row, eight-rows)) ∙ ap (λ (y : List Bool). set y j true) inw.marked ∙ sym (marks-set g.own j v);
      }

      on-entry : did ≡ entry j v → Out (S.Go d.now)
      on-entry a =
          let entered : Enters c st (drawing s g') t₁ = subst (Enters c st (drawing s g')) put (drawing-row c s g d.scratch z.scratch j v inw.slots it) in
          goes-still c spool k FileHere own l to st desk₁ d.now (drawing s g') (ap (acted _ _ _ _) a) refl refl refl entered.same
          (stands_on c spool k FileHere d at to st (drawing s g') z d.now m₁ d.inner t₁ refl row-marks z.lengths.inner entered.scratch
          (omega (arith, z.counted, later)) (omega (arith, z.named, later)) (omega (arith, z.numbered, later)) (z.block.0, row_in d.now))

      -- its `layer_name`
      on-begin : (i : ℕ) → did ≡ begin i j v → Out (S.Go (at_block d.now 3 0))
      on-begin i a =
          let n : Now = at_block d.now 3 0 in
          let entered : Enters c st (layer_names s g') t₁ = subst (Enters c st (layer_names s g')) put (names_open c s g d.scratch z.scratch j v inw.slots it) in
          goes_entering c spool k FileHere own l to st desk₁ n (layer_names s g') (ap (acted _ _ _ _) a) (completed-by d.now n 2 3 z.block.0 refl) refl refl entered.same
          (stands_on c spool k FileHere d at to st (layer_names s g') z n m₁ d.inner t₁ refl row-marks z.lengths.inner entered.scratch
          (omega (arith, z.counted, later)) (omega (arith, z.named, later)) (omega (arith, z.numbered, later)) (refl, row_in n))

    on-refuse : (m : ℕ) → did ≡ refuse m → Out (S.Stop m)
    on-refuse m a = ap (acted _ _ _ _) a

    -- its end: its record is complete
    on-shut : did ≡ shut → m₁ ≡ d.marks → rec₁ ≡ part_at 0 d.scratch → Out (S.Go (at_block d.now 0 2))
    on-shut a m q =
        let n : Now = at_block d.now 0 2 in
        let st' : State = top (with_drawing g s) 2 in
        let same : Scratch t₁ st = subst (λ (t : List ℤ). Scratch t st) (sym (with-back 0 rec₁ d.scratch q)) z.scratch in
        let t₂ : List ℤ = with_part 0 empty_record t₁ in
        let cleared : Scratch t₂ st' = drawing-cleared s g t₁ same in
        goes_filling c spool k FileHere own l to st desk₁ n st' (ap (acted _ _ _ _) a) 0 own (completed-by d.now n 2 0 z.block.0 refl) (number_by d.now n own 2 0 z.block.0 refl)
        0 (omega arith) (omega arith) (drawing-fills c s g own t₁ same y.own)
        (record {
          lengths = lengths-kept d n d.tally m₁ d.inner d.header t₂ z.lengths (ap length m ∙ z.lengths.marks) z.lengths.inner z.lengths.header (scratch-long t₂ st' cleared);
          scratch = cleared;
          here = z.here;
          this = z.this;
          tally = z.tally;
          symbols = z.symbols;
          layers = z.layers;
          few-layers = z.few-layers;
          serials = z.serials;
          used = z.used;
          used_all = z.used_all;
          counted = omega (arith, z.counted, later);
          named = omega (arith, z.named, later);
          numbered = omega (arith, z.numbered, later);
          block = (refl, refl, (record { volume = inw.phase.volume; first = inw.phase.first; blocks = inw.phase.blocks }, inw.bare.symbols));
        })

    by-act : (y : Act) → did ≡ y → (r : Step) → Answered (drawing_now d.now y) ((m₁ ≡ drawing_marks d.marks y) × (rec₁ ≡ drawing_put (part_at 0 d.scratch) y)) r → Out r
    by-act stay a r h = subst Out (sym h.answer) (on-stay a h.lent.0 h.lent.1)
    by-act (entry j v) a r h =
        subst Out (sym h.answer) (on-entry j v (entry-taken (known_of s) drawing_table (digits_of (arc_of s)) (rows_there g.own) l.form j v a) h.lent.0 h.lent.1 a)
    by-act (begin i j v) a r h =
        subst Out (sym h.answer) (on-begin j v (begin-taken (known_of s) drawing_table (digits_of (arc_of s)) (rows_there g.own) l.form i j v a) h.lent.0 h.lent.1 i a)
    by-act shut a r h = subst Out (sym h.answer) (on-shut a h.lent.0 h.lent.1)
    by-act (refuse m) a r h = subst Out (sym h.answer) (on-refuse m a)

    pub drawing-line : (r : Step) → Answered (drawing_now d.now code_act) ((m₁ ≡ drawing_marks d.marks code_act) × (rec₁ ≡ drawing_put (part_at 0 d.scratch) code_act)) r → Out r
    drawing-line r h =
        by-act did refl r (subst (λ (y : Act). Answered (drawing_now d.now y) ((m₁ ≡ drawing_marks d.marks y) × (rec₁ ≡ drawing_put (part_at 0 d.scratch) y)) r) drawing-act h)
