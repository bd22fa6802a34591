-- A line in the text of a placed symbol: from the code's answer to the step that the definitions make.
use Rattle.std.specs.Prelude.{Option, None}
use Prim.Native.Nat.{ℕ, ◌≤◌}
use mathlib.Core.Bool.{Bool, true, not}
use mathlib.Core.List.{List, []}
use mathlib.Core.Path.{◌≡◌, refl, sym, ◌∙◌, ap, subst}
use native.Mathlib.Omega.{arith}
use borrow.Author.Tests.{not-true}
use lib.IntN.{ℤ}
use lib.ListN.{length, get_or, set, take, length-set}
use Rattle.rules.specs.declared.Class.{Class}
use Rattle.rules.specs.declared.LineForm.{LineForm}
use Rattle.rules.specs.Base.{is_none}
use Rattle.rules.specs.RefusalNumbers.{got, unless}
use Rattle.rules.specs.RangeClass.{digits}
use Rattle.rules.specs.Lines.{form_in}
use Rattle.rules.specs.Values.{Known, Value, serials_of}
use Rattle.rules.specs.Rows.{Rule, Slots, Held, part_of, enter, rows_there, shape_for, Act, stay, entry, begin, shut, refuse, act}
use Rattle.rules.specs.Figures.{text_table, placed_tables}
use Rattle.rules.specs.Sets.{Figure, Set, known_of, own_serial}
use Rattle.rules.specs.Machine.{Line, in_layer, State, placing, symbol_block}
use Rattle.rules.specs.PlacedSymbol.{none_of, numbers_so_far}
use Rattle.rules.specs.RecordTable.{rule_at}
use Rattle.rules.proofs.Chains.{clash}
use Rattle.rules.proofs.Rows.{row-all}
use Rattle.tables.specs.Tables.{table_of}
use Rattle.entries.specs.Names.{known_in}
use Rattle.entries.specs.Acts.{put_line, Entered}
use Rattle.account.specs.declared.Now.{Now}
use Rattle.account.specs.declared.Where.{Where}
use Rattle.account.specs.declared.Step.{Step}
use Rattle.account.specs.declared.Step.TheVariants as S
use Rattle.account.specs.Records.{part_at, with_part}
use Rattle.account.specs.Account.{at_block}
use Rattle.account.specs.PlacedLines.{placed_text_step, PlacedTextMarks, PlacedTextLine}
use Rattle.standing.specs.Standing.{Desk, InPlaced, Stands, LineHere, StepOut}
use Rattle.standing.proofs.Openers.{is_begin, no-begin}
use Rattle.account.proofs.RowsTaken.{Taken, entry-taken}
use Rattle.standing.proofs.LineOrigins.{From, entry-from}
use Rattle.standing.proofs.Marks.{marks-set}
use Rattle.standing.proofs.Completing.{goes-still}
use Rattle.standing.proofs.Standings.{desk_with, known}
use Rattle.standing.proofs.HomeFacts.{home_stays}
use Rattle.standing.proofs.PlacedFacts.{is_serials, text-rows, plain-text, text-rule, entry-plain}
use Rattle.standing.proofs.PlacedTables.{record-kept, record-entered, placing-on}
use Rattle.standing.proofs.HeldParts.{shaped-enter, enter-own, enter-other}
use Rattle.standing.proofs.ClosedActs.{acted}

module _ (c : Class) (spool : List ℕ) (k : ℕ) (FileHere : Desk → Set → ℕ → Held → ℕ → Type 0) (d : Desk) (at to own : ℕ) (l : Line) (w : Where) (form : LineForm)
    (x : LineHere spool k at to form w l) (s : Set) (m : ℕ) (fs : List Figure) (n : ℕ) (o : Held) (z : Stands c spool k d (FileHere d) at (placing s m fs n (symbol_block o) 1)) where
  abbrev st : State
  st = placing s m fs n (symbol_block o) 1

  abbrev rows : List Rule
  rows = text_table true 16 24

  abbrev did : Act
  did = act (known_of s) rows (digits 0 0) (rows_there (part_of o 1)) l.form

  inp : InPlaced spool k d.now d.marks d.inner s m fs o 1
  inp = z.block.1

  -- the act that the code goes by
  abbrev text_act : Act
  text_act = act (known_in spool (take (get_or d.tally 9 0) d.symbols) (take (get_or d.tally 10 0) d.layers)) (table_of 19) (digits 0 0) d.inner (form_in spool form)

  text-act : text_act ≡ did
  text-act =
      ap (λ (y : Known). act y (table_of 19) (digits 0 0) d.inner (form_in spool form)) (known c spool k FileHere d at to st st z refl)
      ∙ ap (λ (y : List Rule). act (known_of s) y (digits 0 0) d.inner (form_in spool form)) text-rows
      ∙ ap (λ (y : List Bool). act (known_of s) rows (digits 0 0) y (form_in spool form)) (inp.inner refl)
      ∙ ap (act (known_of s) rows (digits 0 0) (rows_there (part_of o 1))) (sym x.is)

  later : at ≤ to
  later = omega (arith, x.bytes)

  abbrev rec₀ : List ℤ
  rec₀ = part_at 32 d.scratch

  module _ (is : List Bool) (rec₁ : List ℤ) where
    abbrev d₁ : Desk
    d₁ = desk_with d d.now d.marks is (with_part 32 rec₁ d.scratch)

    abbrev Out : Step → Type 0
    Out r = StepOut c spool k FileHere own l to st d₁ r

    long : is ≡ d.inner → length is ≡ 2
    long q = ap length q ∙ z.lengths.inner

    on-stay : did ≡ stay → is ≡ d.inner → rec₁ ≡ rec₀ → Out (S.Go d.now)
    on-stay a i q =
        goes-still c spool k FileHere own l to st d₁ d.now st (ap (acted _ _ _ _) a) refl refl refl refl
        (placing-on c spool k FileHere d at to s m fs n o 1 z d.now d.marks is rec₁ o 1 later z.lengths.marks (long i)
        (record-kept c spool k FileHere d at to s m fs n o 1 z 1 rec₁ q) refl z.block.0
        (record {
          home = inp.home;
          figures = inp.figures;
          part = inp.part;
          parts = inp.parts;
          shaped = inp.shaped;
          marked = inp.marked;
          inner = λ y. i ∙ inp.inner y;
          unopened = inp.unopened;
          opened = inp.opened;
        }))

    -- one of its two lines
    on-entry : (j : ℕ) (v : Value) → did ≡ entry j v → is ≡ set d.inner j true → rec₁ ≡ put_line (rule_at (table_of 19) j) 0 v rec₀ → Out (S.Go d.now)
    on-entry j v a i q =
        let taken : Taken rows (rows_there (part_of o 1)) j v = entry-taken (known_of s) rows (digits 0 0) (rows_there (part_of o 1)) l.form j v a in
        let f : From (known_of s) rows (digits 0 0) (rows_there (part_of o 1)) l.form j (entry j v) = entry-from (known_of s) rows (digits 0 0) (rows_there (part_of o 1)) l.form j v a in
        let plain : serials_of v ≡ [] =
        entry-plain (known_of s) j j f.rule (shape_for f.rule f.rest) v (not-true (is_serials f.rule.holds) (row-all (λ r. not (is_serials r.holds)) f.row text-rule)) f.did.read in
        let o' : Held = enter o 1 j v in
        let st' : State = placing s m fs n (symbol_block o') 1 in
        let same : part_of o' 0 ≡ part_of o 0 = enter-other o 1 0 j v (λ y. omega (arith, y)) in
        let first : Slots → Option Value = λ y. get_or y 1 None in
        goes-still c spool k FileHere own l to st d₁ d.now st' (ap (acted _ _ _ _) a ∙ ap (λ (y : List ℕ). unless (none_of (own_serial y) (numbers_so_far s fs)) 15 (got st')) plain) refl refl refl refl
        (placing-on c spool k FileHere d at to s m fs n o 1 z d.now d.marks is rec₁ o' 1 later z.lengths.marks
        (ap length i ∙ length-set d.inner j true ∙ z.lengths.inner)
        (record-entered c spool k FileHere d at to s m fs n o 1 z 1 1 j v rec₁ (omega arith) taken (q ∙ ap (λ (y : List Rule). put_line (rule_at y j) 0 v rec₀) text-rows))
        (ap (λ (y : Slots). get_or y 5 None) (sym same)) z.block.0
        (record {
          home = inp.home;
          figures = inp.figures;
          part = inp.part;
          parts = inp.parts;
          shaped = shaped-enter placed_tables 0 o 1 j v inp.shaped;
          marked = inp.marked ∙ ap rows_there (sym same);
          inner = λ y. i ∙ ap (λ (b : List Bool). set b j true) (inp.inner refl) ∙ sym (marks-set (part_of o 1) j v) ∙ ap rows_there (sym (enter-own o 1 j v inp.shaped.2.0));
          unopened = λ y. clash (ap (λ (b : Slots). is_none (first b)) (sym same) ∙ y) (inp.opened refl);
          opened = λ y. ap (λ (b : Slots). is_none (first b)) same ∙ inp.opened refl;
        }))

    on-begin : (i j : ℕ) (v : Value) → did ≡ begin i j v → Out (S.Stop 5)
    on-begin i j v a = clash (ap is_begin a) (no-begin (known_of s) rows (digits 0 0) (rows_there (part_of o 1)) l.form plain-text)

    -- its end: the placed symbol is open again
    on-shut : did ≡ shut → is ≡ d.inner → rec₁ ≡ rec₀ → Out (S.Go (at_block d.now 11 0))
    on-shut a i q =
        let now : Now = at_block d.now 11 0 in
        goes-still c spool k FileHere own l to st d₁ now (placing s m fs n (symbol_block o) 0) (ap (acted _ _ _ _) a) z.block.0 refl refl refl
        (placing-on c spool k FileHere d at to s m fs n o 1 z now d.marks is rec₁ o 0 later z.lengths.marks (long i)
        (record-kept c spool k FileHere d at to s m fs n o 1 z 0 rec₁ q) refl refl
        (record {
          home = home_stays spool k d.now now d.marks d.inner is s (in_layer m) refl refl inp.home;
          figures = inp.figures;
          part = refl;
          parts = omega arith;
          shaped = inp.shaped;
          marked = inp.marked;
          inner = λ y. absurd (omega (arith, y));
          unopened = inp.unopened;
          opened = λ y. absurd (omega (arith, y));
        }))

    on-refuse : (i : ℕ) → did ≡ refuse i → Out (S.Stop i)
    on-refuse i a = ap (acted _ _ _ _) a

    by-act : (a : Act) → did ≡ a → PlacedTextMarks d.inner is a → Entered (rule_at (table_of 19)) 0 rec₀ a rec₁ → Out (placed_text_step d.now a)
    by-act stay a i q = on-stay a i q
    by-act (entry j v) a i q = on-entry j v a i q
    by-act (begin h j v) a i q = on-begin h j v a
    by-act shut a i q = on-shut a i q
    by-act (refuse h) a i q = on-refuse h a

    pub text-line : (r : Step) → PlacedTextLine text_act d.now d.inner is rec₀ rec₁ r → Out r
    text-line r y =
        subst Out (sym (y.answer ∙ ap (placed_text_step d.now) text-act))
        (by-act did refl (subst (PlacedTextMarks d.inner is) text-act y.inner) (subst (λ (a : Act). Entered (rule_at (table_of 19)) 0 rec₀ a rec₁) text-act y.rec))
