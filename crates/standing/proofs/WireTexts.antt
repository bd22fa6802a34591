-- A line in the text of a wire that is read: from the code's answer to the step that the definitions make.
use Rattle.std.specs.Prelude.{Some}
use Prim.Native.Nat.{ℕ, ◌≤◌}
use mathlib.Core.Bool.{Bool, true}
use mathlib.Core.List.{List, [], ◌∷◌, ◌++◌}
use mathlib.Core.Path.{◌≡◌, refl, sym, ◌∙◌, ap, subst}
use native.Mathlib.Omega.{arith}
use lib.IntN.{ℤ}
use lib.ListN.{length, get_or, set, take, drop, length-set, length-append}
use lib.Seq.{take_at, drop_at}
use Rattle.rules.specs.declared.Class.{Class}
use Rattle.rules.specs.declared.LineForm.{LineForm}
use Rattle.rules.specs.Base.{all}
use Rattle.rules.specs.RangeClass.{digits}
use Rattle.rules.specs.Lines.{form_in}
use Rattle.rules.specs.Values.{Known, Value}
use Rattle.rules.specs.Rows.{Rule, Slots, Held, rows_there, Act, stay, entry, begin, shut, refuse, act}
use Rattle.rules.specs.Figures.{wire_text_table, text_table}
use Rattle.rules.specs.Sets.{Wire, Figure, Set, known_of}
use Rattle.rules.specs.Machine.{Line, in_layer, State, placing, wire_block}
use Rattle.rules.specs.Wires.{last_edge, with_texts}
use Rattle.rules.specs.RecordTable.{rule_at, put_slots}
use Rattle.rules.proofs.Chains.{clash}
use Rattle.tables.specs.Tables.{table_of}
use Rattle.entries.specs.Names.{known_in}
use Rattle.entries.specs.Acts.{put_line}
use Rattle.account.specs.declared.Now.{Now}
use Rattle.account.specs.declared.Where.{Where}
use Rattle.account.specs.declared.Step.{Step}
use Rattle.account.specs.declared.Step.TheVariants as S
use Rattle.account.specs.Placing.{clear_table}
use Rattle.account.specs.PlacedLines.{PlacedTextMarks}
use Rattle.account.specs.WireLines.{past_now, shelved, text_shelf, text_from, text_read, text_act, text_step, TextRecords, TextInWire}
use Rattle.account.proofs.RowsTaken.{Taken, entry-taken}
use Rattle.standing.specs.SoFar.{volume_of, wire_so_far, writing_record, empty_record}
use Rattle.standing.specs.Standing.{Desk, InRead, Stands, LineHere, StepOut}
use Rattle.standing.proofs.Openers.{plain_kind, is_begin, no-begin}
use Rattle.standing.proofs.OwnLines.{housed, own_line}
use Rattle.standing.proofs.Marks.{marks-set, mark-free}
use Rattle.standing.proofs.Completing.{goes-still}
use Rattle.standing.proofs.WireCells.{once_of, text-put}
use Rattle.standing.proofs.WireParts.{direcs_of, piends_of, nums_in, slot_of, cells_of, so-far-cells}
use Rattle.standing.proofs.WireScratch.{wire-scratch, writing-long, scratch-wire}
use Rattle.standing.proofs.Standings.{desk_with, stands_on, known, stands-still}
use Rattle.standing.proofs.HomeFacts.{home_stays}
use Rattle.standing.proofs.ClosedActs.{acted}

-- ── what is computed of its table ──
text-rows : table_of 16 ≡ wire_text_table
unfolding table_of
text-rows = refl

two-rows : length wire_text_table ≡ 2
unfolding text_table
two-rows = refl

plain_rows : all (λ r. plain_kind r.holds) wire_text_table ≡ true
unfolding text_table
plain_rows = refl

clear-rows : clear_table wire_text_table ≡ true
unfolding text_table
clear-rows = refl

housed-rows : all housed wire_text_table ≡ true
unfolding text_table
housed-rows = refl

no_text : put_slots wire_text_table [] empty_record ≡ empty_record
unfolding text_table
no_text = refl

module _ (c : Class) (spool : List ℕ) (k : ℕ) (FileHere : Desk → Set → ℕ → Held → ℕ → Type 0) (d : Desk) (at to own : ℕ) (l : Line) (w : Where) (form : LineForm)
    (x : LineHere spool k at to form w l) (s : Set) (m : ℕ) (fs : List Figure) (n : ℕ) (wire : Wire) (z : Stands c spool k d (FileHere d) at (placing s m fs n (wire_block wire) 1)) where
  abbrev st : State
  st = placing s m fs n (wire_block wire) 1

  inr : InRead spool k d.now d.marks d.inner s m fs wire 1
  inr = z.block.1

  abbrev written : Slots
  written = wire.writing

  later : at ≤ to
  later = omega (arith, x.bytes)

  abbrev did : Act
  did = act (known_of s) wire_text_table (digits 0 0) (rows_there written) l.form

  -- the act that the code goes by
  abbrev code_act : Act
  code_act = text_act (known_in spool (take (get_or d.tally 9 0) d.symbols) (take (get_or d.tally 10 0) d.layers)) d.inner (form_in spool form)

  text-act : code_act ≡ did
  text-act =
      ap (λ (y : Known). act y (table_of 16) (digits 0 0) d.inner (form_in spool form)) (known c spool k FileHere d at to st st z refl)
      ∙ ap (λ (y : List Rule). act (known_of s) y (digits 0 0) d.inner (form_in spool form)) text-rows
      ∙ ap (λ (y : List Bool). act (known_of s) wire_text_table (digits 0 0) y (form_in spool form)) (inr.writes refl).2
      ∙ ap (act (known_of s) wire_text_table (digits 0 0) (rows_there written)) (sym x.is)

  -- ── the scratch ──
  abbrev two : List ℤ
  two = wire_so_far s m n wire 1

  before : d.scratch ≡ writing_record wire ++ two
  before = wire-scratch d.scratch s m fs n wire 1 z.scratch

  abbrev cells : List ℤ
  cells = cells_of s m n wire inr.slots inr.repeats inr.groups

  -- i₁, t₁: the text's marks and the scratch on return
  module _ (i₁ : List Bool) (t₁ : List ℤ) where
    abbrev d₁ : Desk
    d₁ = desk_with d d.now d.marks i₁ t₁

    abbrev Out : Step → Type 0
    Out r = StepOut c spool k FileHere own l to st d₁ r

    on-stay : did ≡ stay → i₁ ≡ d.inner → t₁ ≡ d.scratch → Out (S.Go d.now)
    on-stay a i q =
        goes-still c spool k FileHere own l to st d₁ d.now st (ap (acted _ _ _ _) a) refl refl refl refl
        (stands-still c spool k FileHere d at to st z later d.tally d.marks i₁ d.header t₁ refl refl i refl q)

    -- one of its two lines
    on-entry : (j : ℕ) (v : Value) → did ≡ entry j v → i₁ ≡ set d.inner j true → t₁ ≡ text_read j v d.scratch → Out (S.Go d.now)
    on-entry j v a i q =
        let taken : Taken wire_text_table (rows_there written) j v = entry-taken (known_of s) wire_text_table (digits 0 0) (rows_there written) l.form j v a in
        let wire' : Wire = with_texts wire.texts (set written j (Some v)) wire in
        let st' : State = placing s m fs n (wire_block wire') 1 in
        let long : length (writing_record wire) ≡ 32 = writing-long wire in
        let put : t₁ ≡ writing_record wire' ++ two =
        q ∙ ap (text_read j v) before ∙ ap (λ (u : List ℤ). put_line (rule_at (table_of 16) j) 0 v u ++ drop 32 (writing_record wire ++ two)) (take_at (writing_record wire) two 32 long)
        ∙ ap (λ (u : List ℤ). put_line (rule_at (table_of 16) j) 0 v (writing_record wire) ++ u) (drop_at (writing_record wire) two 32 long)
        ∙ ap (λ (u : List Rule). put_line (rule_at u j) 0 v (writing_record wire) ++ two) text-rows
        ∙ ap (λ (u : List ℤ). u ++ two)
        (own_line wire_text_table written j v empty_record ((inr.writes refl).1 ∙ sym two-rows) taken.row (mark-free written j taken.free) taken.fill clear-rows housed-rows) in
        goes-still c spool k FileHere own l to st d₁ d.now st' (ap (acted _ _ _ _) a) refl refl refl refl
        (stands_on c spool k FileHere d at to st st' z d.now d.marks i₁ t₁ refl z.lengths.marks (ap length i ∙ length-set d.inner j true ∙ z.lengths.inner)
        (scratch-wire s m fs n wire' 1 t₁ put) (omega (arith, z.counted, later)) (omega (arith, z.named, later)) (omega (arith, z.numbered, later)) (
          z.block.0,
          record {
            wire = record {
              home = home_stays spool k d.now d.now d.marks d.inner i₁ s (in_layer m) refl refl inr.wire.home;
              figures = inr.wire.figures;
              part = inr.wire.part;
              points = inr.wire.points;
            };
            parts = inr.parts;
            slots = inr.slots;
            marked = inr.marked;
            repeats = inr.repeats;
            groups = inr.groups;
            shut = λ e. absurd (omega (arith, e));
            writes = λ e. (refl, length-set written j (Some v) ∙ (inr.writes refl).1, i ∙ ap (λ (b : List Bool). set b j true) (inr.writes refl).2 ∙ sym (marks-set written j v));
          },
        ))

    on-begin : (i j : ℕ) (v : Value) → did ≡ begin i j v → Out (S.Stop 5)
    on-begin i j v a = clash (ap is_begin a) (no-begin (known_of s) wire_text_table (digits 0 0) (rows_there written) l.form plain_rows)

    -- its end: the wire is open again, with one text more
    on-shut : did ≡ shut → i₁ ≡ d.inner → t₁ ≡ shelved text_from text_shelf d.scratch → Out (S.Go (past_now d.now))
    on-shut a i q =
        let now : Now = past_now d.now in
        let wire' : Wire = with_texts (wire.texts ++ written ∷ []) [] wire in
        let st' : State = placing s m fs n (wire_block wire') 0 in
        let put : t₁ ≡ writing_record wire' ++ wire_so_far s m n wire' 0 =
        q ∙ ap (shelved text_from text_shelf) (before ∙ ap (λ (u : List ℤ). writing_record wire ++ u) (so-far-cells s m n wire inr.slots inr.repeats inr.groups 1))
        ∙ text-put (direcs_of wire) (piends_of wire) (nums_in wire) wire.texts (once_of m (volume_of s) n (slot_of 6 wire) (slot_of 7 wire) (slot_of 8 wire) (slot_of 9 wire)) (last_edge wire.elements) written
        ∙ ap (λ (u : List ℤ). empty_record ++ u) (sym (so-far-cells s m n wire' inr.slots inr.repeats inr.groups 0)) ∙ ap (λ (u : List ℤ). u ++ wire_so_far s m n wire' 0) (sym no_text) in
        goes-still c spool k FileHere own l to st d₁ now st' (ap (acted _ _ _ _) a) z.block.0 refl refl refl
        (stands_on c spool k FileHere d at to st st' z now d.marks i₁ t₁ refl z.lengths.marks (ap length i ∙ z.lengths.inner)
        (scratch-wire s m fs n wire' 0 t₁ put) (omega (arith, z.counted, x.bytes, length-append wire.texts (written ∷ []))) (omega (arith, z.named, later)) (omega (arith, z.numbered, later)) (
          refl,
          record {
            wire = record {
              home = home_stays spool k d.now now d.marks d.inner i₁ s (in_layer m) refl refl inr.wire.home;
              figures = inr.wire.figures;
              part = refl;
              points = inr.wire.points;
            };
            parts = omega arith;
            slots = inr.slots;
            marked = inr.marked;
            repeats = inr.repeats;
            groups = inr.groups;
            shut = λ e. refl;
            writes = λ e. absurd (omega (arith, e));
          },
        ))

    by-act : (f : Act) → did ≡ f → PlacedTextMarks d.inner i₁ f → TextRecords d.scratch t₁ f → Out (text_step d.now f)
    by-act stay a i q = on-stay a i q
    by-act (entry j v) a i q = on-entry j v a i q
    by-act (begin h j v) a i q = on-begin h j v a
    by-act shut a i q = on-shut a i q
    by-act (refuse h) a i q = ap (acted _ _ _ _) a

    pub text-line : (r : Step) → TextInWire code_act d.now d.inner i₁ d.scratch t₁ r → Out r
    text-line r f =
        subst Out (sym (f.answer ∙ ap (text_step d.now) text-act))
        (by-act did refl (subst (PlacedTextMarks d.inner i₁) text-act f.inner) (subst (TextRecords d.scratch t₁) text-act f.records))
