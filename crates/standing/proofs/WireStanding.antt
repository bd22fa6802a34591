-- A line in a wire that is read: from the code's answer to the step that the definitions make.
use Prim.Native.Nat.{ℕ, ◌+◌, ◌-◌, ◌/◌, ◌≤◌}
use mathlib.Core.Bool.{Bool, true, false, cond, ◌&&◌}
use mathlib.Core.List.{List, [], ◌∷◌, ◌++◌}
use mathlib.Core.Path.{◌≡◌, refl, sym, ◌∙◌, ap, subst}
use native.Mathlib.Omega.{arith}
use borrow.Author.Tests.{ltb-true, ltb-false}
use lib.Dec.{eqb}
use lib.IntN.{ℤ, pos}
use lib.ListN.{length, get_or, set, take, drop, replicate, length-set, length-append}
use lib.Seq.{take_all, take_at, drop_at}
use Rattle.rules.specs.declared.Class.{Class}
use Rattle.rules.specs.declared.LineForm.{LineForm}
use Rattle.rules.specs.RefusalNumbers.{Got, got, bad, unless}
use Rattle.rules.specs.RangeClass.{digits_of, reaches, exceeds, both, Skip, passes, deeper, no_form, skip_of}
use Rattle.rules.specs.Lines.{Rest, Form, ignored, wrong, close, eof, keyed, shape_of, has_form, form_in}
use Rattle.rules.specs.Values.{Known}
use Rattle.rules.specs.Rows.{Rule, Found, absent, found, find, Held, rows_there, or_refuse, shut, refuse, act_row, act_unknown, complete}
use Rattle.rules.specs.Figures.{wire_table}
use Rattle.rules.specs.Sets.{Wire, Figure, wired, Set, wire_range, wires_of, known_of}
use Rattle.rules.specs.Machine.{Line, in_layer, State, figures, placing, skipping, wire_block, unlimited}
use Rattle.rules.specs.PlacedSymbol.{by_skip, skip_deeper}
use Rattle.rules.specs.LineByLine.{step_in}
use Rattle.rules.specs.Wires.{last_edge, is_element_row, past_elements, wire_full, on_wire_act, on_wire_unknown, on_wire_key, on_wire_own}
use Rattle.rules.specs.RecordTable.{mark_unread, wire_start, wire_numbers, wire_values, view_of}
use Rattle.rules.proofs.RecordLengths.{length-unread}
use Rattle.tables.specs.Tables.{table_of}
use Rattle.entries.specs.Names.{known_in}
use Rattle.account.specs.declared.Now.{Now}
use Rattle.account.specs.declared.Where.{Where}
use Rattle.account.specs.declared.Step.{Step}
use Rattle.account.specs.declared.Step.TheVariants as S
use Rattle.account.specs.Records.{with_part}
use Rattle.account.specs.Account.{figure_done}
use Rattle.account.specs.SkippedLines.{skipped_as, in_wire}
use Rattle.account.specs.PlacedLines.{Lent, skip_step, not_here, UnknownLine}
use Rattle.account.specs.WireLines.{past_now, is_front_row, full_at, misplaced, RowInWire, FoundInWire, KeyInWire, wire_whole, former_cleared, wire_counted, states_marked, wire_closed, ReadLine}
use Rattle.standing.specs.SoFar.{volume_of, empty_record}
use Rattle.standing.specs.Kept.{Scratch}
use Rattle.standing.specs.Standing.{Desk, part_in, InRead, Stands, StandsAt, Counted, LineHere, StepOut, desk_now, form_size}
use Rattle.standing.specs.Reading.{PlacedForm}
use Rattle.standing.proofs.Completing.{goes-still, goes_wiring, completed-by, number_by}
use Rattle.standing.proofs.ScratchKept.{scratch-zeros}
use Rattle.standing.proofs.WireCells.{close-counted}
use Rattle.standing.proofs.WireParts.{direcs_of, piends_of, nums_in, slot_of, cells_of, read-cells}
use Rattle.standing.proofs.WireScratch.{wire_scratch, wire-rows, cleared-two}
use Rattle.standing.proofs.WireKept.{wire-fills, wire-shut-sight}
use Rattle.standing.proofs.WireRows.{lent_by, wire_desk, before, still, front-line}
use Rattle.standing.proofs.WireOnce.{once-line}
use Rattle.standing.proofs.Standings.{stands_on, stands-still}
use Rattle.standing.proofs.HomeFacts.{home_stays}

-- the code knows by the wire's part whether anything but an element has stood in it
past-part : (b : Bool) → eqb (part_in 0 b) 3 ≡ b
past-part true = refl
past-part false = refl

numbers-long : (range elements : ℕ) (t : List ℤ) → length t ≡ 64 → length (wire_numbers range elements t) ≡ 64
numbers-long range elements t e = length-set (set t 5 (pos elements)) 30 (pos (range / 100)) ∙ length-set t 5 (pos elements) ∙ e

module _ (c : Class) (spool : List ℕ) (k : ℕ) (FileHere : Desk → Set → ℕ → Held → ℕ → Type 0) (d : Desk) (at to own : ℕ) (l : Line) (w : Where) (form : LineForm)
    (x : LineHere spool k at to form w l) (s : Set) (m : ℕ) (fs : List Figure) (n : ℕ) (wire : Wire) (z : Stands c spool k d (FileHere d) at (placing s m fs n (wire_block wire) 0))
    (y : Counted c own d (placing s m fs n (wire_block wire) 0)) (x₁ : Lent) (t₁ : List ℤ) where
  abbrev st : State
  st = placing s m fs n (wire_block wire) 0

  inr : InRead spool k d.now d.marks d.inner s m fs wire 0
  inr = z.block.1

  later : at ≤ to
  later = omega (arith, x.bytes)

  abbrev Out : Step → Type 0
  Out r = StepOut c spool k FileHere own l to st (wire_desk d x₁ t₁) r

  abbrev known₀ : Known
  known₀ = known_in spool (take (get_or d.tally 9 0) d.symbols) (take (get_or d.tally 10 0) d.layers)

  abbrev range₀ : ℕ
  range₀ = get_or d.tally 12 0

  range-here : range₀ ≡ wire_range s
  range-here = ap (λ (t : List ℕ). get_or t 12 0) z.tally

  -- a line that is passed over
  on-passed : step_in (unlimited c) l st ≡ got st → x₁ ≡ lent_by d → t₁ ≡ d.scratch → Out (S.Go d.now)
  on-passed f a q =
      goes-still c spool k FileHere own l to st (wire_desk d x₁ t₁) d.now st f refl refl refl refl
      (subst (λ (u : Lent). StandsAt c spool k FileHere (desk_now (wire_desk d u t₁) d.now) to st) (sym a)
      (stands-still c spool k FileHere d at to st z later d.tally d.marks d.inner d.header t₁ refl refl refl refl q))

  -- ── a key that the wire part doesn't know ──
  abbrev wire' : Wire
  wire' = past_elements wire

  abbrev st' : State
  st' = placing s m fs n (wire_block wire') 0

  past-stands : x₁ ≡ lent_by d → t₁ ≡ d.scratch → StandsAt c spool k FileHere (desk_now (wire_desk d x₁ t₁) (past_now d.now)) to st'
  past-stands a q =
      subst (λ (u : Lent). StandsAt c spool k FileHere (desk_now (wire_desk d u t₁) (past_now d.now)) to st') (sym a)
      (stands_on c spool k FileHere d at to st st' z (past_now d.now) d.marks d.inner t₁ refl z.lengths.marks z.lengths.inner
      (still c spool k FileHere d at to own l w form x s m fs n wire z wire' inr.slots inr.repeats inr.groups (inr.shut refl) t₁ (q ∙ before c spool k FileHere d at to own l w form x s m fs n wire z))
      (omega (arith, z.counted, later)) (omega (arith, z.named, later)) (omega (arith, z.numbered, later)) (
        refl,
        record {
          wire = record {
            home = home_stays spool k d.now (past_now d.now) d.marks d.inner d.inner s (in_layer m) refl refl inr.wire.home;
            figures = inr.wire.figures;
            part = refl;
            points = inr.wire.points;
          };
          parts = inr.parts;
          slots = inr.slots;
          marked = inr.marked;
          repeats = inr.repeats;
          groups = inr.groups;
          shut = inr.shut;
          writes = λ e. absurd (omega (arith, e));
        },
      ))

  -- a key that is not allowed here
  refused : (rest : Rest) → step_in (unlimited c) l st ≡ on_wire_act (unlimited c) l s m fs n wire (act_unknown rest) → Out (not_here rest)
  refused rest h = go (has_form (shape_of rest)) (h ∙ refl)
    where
      go : (t : Bool) → step_in (unlimited c) l st ≡ on_wire_act (unlimited c) l s m fs n wire (or_refuse (unless t 5 (bad 6))) → Out (cond t (S.Stop 6) (S.Stop 5))
      go true f = f
      go false f = f

  module _ (key : List ℕ) (rest : Rest) (h : step_in (unlimited c) l st ≡ on_wire_unknown (unlimited c) l s m fs n wire key rest) where
    abbrev skipping₁ : Got State
    skipping₁ = skip_deeper 0 (skipping s m fs n (wire_block wire') 1)

    abbrev known-not : Got State
    known-not = on_wire_act (unlimited c) l s m fs n wire (act_unknown rest)

    by_skip_lem : x₁ ≡ lent_by d → t₁ ≡ d.scratch → (t : Skip) → skip_of key rest ≡ t → exceeds (wires_of s) c.wires ≡ true → Out (skip_step (past_now d.now) (skipped_as t))
    by_skip_lem a q t f b = go t (h ∙ ap (λ (i : Bool). cond i (by_skip (skip_of key rest) (got st') skipping₁) known-not) b ∙ ap (λ (i : Skip). by_skip i (got st') skipping₁) f)
      where
        go : (t : Skip) → step_in (unlimited c) l st ≡ by_skip t (got st') skipping₁ → Out (skip_step (past_now d.now) (skipped_as t))
        go passes f = goes-still c spool k FileHere own l to st (wire_desk d x₁ t₁) (past_now d.now) st' f z.block.0 refl refl refl (past-stands a q)
        go deeper f = record {
          inside = skipping s m fs n (wire_block wire') 1;
          behind = st';
          skips = in_wire s m fs n wire';
          step = f;
          records = refl;
          taken = refl;
          same = refl;
          stands = past-stands a q;
        }
        go no_form f = f

    by-range : x₁ ≡ lent_by d → t₁ ≡ d.scratch → (t : Bool) → exceeds (wires_of s) c.wires ≡ t → Out (cond t (skip_step (past_now d.now) (skipped_as (skip_of key rest))) (not_here rest))
    by-range a q true b = by_skip_lem a q (skip_of key rest) refl b
    by-range a q false b = refused rest (h ∙ ap (λ (i : Bool). cond i (by_skip (skip_of key rest) (got st') skipping₁) known-not) b)

    on-unknown : (r : Step) → UnknownLine c.wires (digits_of range₀) (past_now d.now) (lent_by d) x₁ d.scratch t₁ r (skipped_as (skip_of key rest)) rest → Out r
    on-unknown r v =
        let f : exceeds (digits_of range₀) c.wires ≡ exceeds (wires_of s) c.wires = ap (λ (i : ℕ). exceeds (digits_of i) c.wires) range-here in
        subst Out (sym (v.answer ∙ ap (λ (i : Bool). cond i (skip_step (past_now d.now) (skipped_as (skip_of key rest))) (not_here rest)) f)) (by-range v.lent v.rec (exceeds (wires_of s) c.wires) refl)

  -- ── the closing line ──
  module _ (shut-so : l.form ≡ close) where
    abbrev there : Bool
    there = complete (both c.wires (wires_of s)) wire_table (rows_there wire.own)

    whole : wire_whole c.wires range₀ d.marks ≡ there
    whole =
        ap (λ (i : ℕ). complete (both c.wires (digits_of i)) (table_of 20) (take 10 d.marks)) range-here
        ∙ ap (λ (i : List Rule). complete (both c.wires (wires_of s)) i (take 10 d.marks)) wire-rows
        ∙ ap (complete (both c.wires (wires_of s)) wire_table) inr.marked

    stepped : step_in (unlimited c) l st ≡ on_wire_act (unlimited c) l s m fs n wire (cond there shut (refuse 8))
    stepped = ap (on_wire_own (unlimited c) l s m fs n wire) shut-so

    on-short : there ≡ false → Out (S.Stop 8)
    on-short b = stepped ∙ ap (λ (i : Bool). on_wire_act (unlimited c) l s m fs n wire (cond i shut (refuse 8))) b

    on-whole : there ≡ true → x₁ ≡ lent_by d → t₁ ≡ wire_closed c.wires range₀ d.now d.scratch → Out (S.Go (figure_done d.now))
    on-whole b a q =
        let now : Now = figure_done d.now in
        let one : form_size l.form ≡ 1 = ap form_size shut-so in
        let st₂ : State = figures s (in_layer m) (fs ++ wired n wire ∷ []) in
        let two : List ℤ = wire_values (view_of c s) wire (wire_start m (volume_of s) n) in
        let numbers : List ℤ = wire_numbers (wire_range s) (length wire.elements) (cells_of s m n wire inr.slots inr.repeats inr.groups) in
        let counted : wire_counted range₀ d.now d.scratch ≡ empty_record ++ numbers =
        ap (λ (i : ℕ). wire_counted i d.now d.scratch) range-here
        ∙ ap (wire_counted (wire_range s) d.now) (before c spool k FileHere d at to own l w form x s m fs n wire z)
        ∙ ap (λ (i : ℕ). set (set (former_cleared (wire_scratch empty_record (last_edge wire.elements) (cells_of s m n wire inr.slots inr.repeats inr.groups))) 37 (pos i)) 62 (pos (wire_range s / 100))) inr.wire.points
        ∙ close-counted m (volume_of s) n (wire_range s) (length wire.elements) (direcs_of wire) (piends_of wire) (nums_in wire) wire.texts (slot_of 6 wire) (slot_of 7 wire) (slot_of 8 wire) (slot_of 9 wire) (last_edge wire.elements) in
        let marked : wire_closed c.wires range₀ d.now d.scratch ≡ empty_record ++ mark_unread c.wires (wires_of s) wire_table numbers =
        ap (states_marked c.wires range₀) counted ∙ ap (λ (i : ℕ). states_marked c.wires i (empty_record ++ numbers)) range-here
        ∙ ap (λ (u : List ℤ). u ++ mark_unread c.wires (wires_of s) wire_table (drop 32 (empty_record ++ numbers))) (take_at empty_record numbers 32 refl)
        ∙ ap (λ (u : List ℤ). empty_record ++ mark_unread c.wires (wires_of s) wire_table u) (drop_at empty_record numbers 32 refl) in
        let is-two : mark_unread c.wires (wires_of s) wire_table numbers ≡ two =
        ap (λ (u : List ℤ). mark_unread c.wires (wires_of s) wire_table (wire_numbers (wire_range s) (length wire.elements) u)) (sym (read-cells s m n wire inr.slots inr.repeats inr.groups)) in
        let put : t₁ ≡ empty_record ++ two = q ∙ marked ∙ ap (λ (u : List ℤ). empty_record ++ u) is-two in
        let long : length two ≡ 64 = ap length (sym is-two) ∙ length-unread c.wires (wires_of s) wire_table numbers ∙ numbers-long (wire_range s) (length wire.elements) (cells_of s m n wire inr.slots inr.repeats inr.groups) refl in
        let there-two : take 64 (drop 32 t₁) ≡ two =
        ap (λ (u : List ℤ). take 64 (drop 32 u)) put ∙ ap (take 64) (drop_at empty_record two 32 refl) ∙ take_all 64 two (omega (arith, long)) in
        let cleared : with_part 64 empty_record (with_part 32 empty_record t₁) ≡ replicate 96 (pos 0) =
        ap (λ (u : List ℤ). with_part 64 empty_record (with_part 32 empty_record u)) put ∙ cleared-two two long in
        goes_wiring c spool k FileHere own l to st (wire_desk d x₁ t₁) now st₂ (stepped ∙ ap (λ (i : Bool). on_wire_act (unlimited c) l s m fs n wire (cond i shut (refuse 8))) b) (d.now.records - (length wire.elements + 2))
        (completed-by d.now now 12 8 z.block.0 refl)
        (number_by d.now now own 12 8 z.block.0 refl ∙ ap (λ (i : ℕ). d.now.records - (i + 2)) inr.wire.points) refl refl (ap length put ∙ omega (arith, length-append empty_record two, long))
        (wire-fills c s m fs n wire d.now.records y.size (take 64 (drop 32 t₁)) there-two (ap length there-two ∙ long))
        (subst (λ (u : Lent). StandsAt c spool k FileHere (desk_now (wire_desk d u (with_part 64 empty_record (with_part 32 empty_record t₁))) now) to st₂) (sym a)
        (stands_on c spool k FileHere d at to st st₂ z now d.marks d.inner (with_part 64 empty_record (with_part 32 empty_record t₁)) (wire-shut-sight s m fs n wire) z.lengths.marks z.lengths.inner
        (subst (λ (u : List ℤ). Scratch u st₂) (sym cleared) (scratch-zeros st₂ refl refl refl))
        (omega (arith, z.counted, x.bytes, length-append fs (wired n wire ∷ []))) (omega (arith, z.named, later)) (omega (arith, z.numbered, x.bytes, one))
        (refl, home_stays spool k d.now now d.marks d.inner d.inner s (in_layer m) refl refl inr.wire.home, ap (λ (i : ℕ). i + 1) inr.wire.figures ∙ sym (length-append fs (wired n wire ∷ [])))))

    on-close : (b : Bool) → there ≡ b → x₁ ≡ lent_by d → (b ≡ true → t₁ ≡ wire_closed c.wires range₀ d.now d.scratch) → Out (cond b (S.Go (figure_done d.now)) (S.Stop 8))
    on-close true b a q = on-whole b a (q refl)
    on-close false b a q = on-short b

  -- ── any line directly in it ──
  module _ (in-spool : PlacedForm l.form) (r : Step) where
    abbrev at_part : ℕ → Bool
    at_part j = is_element_row j && eqb d.now.part 3

    misplaced-is : (j : ℕ) → misplaced d.now j ≡ (is_element_row j && wire.past)
    misplaced-is j = ap (λ (b : Bool). is_element_row j && b) (ap (λ (i : ℕ). eqb i 3) inr.wire.part ∙ past-part wire.past)

    on_row : (key : List ℕ) (rest : Rest) (j : ℕ) (q : Rule) → l.form ≡ keyed key rest → find key wire_table ≡ found j q → (is_element_row j && wire.past) ≡ false
        → step_in (unlimited c) l st ≡ on_wire_act (unlimited c) l s m fs n wire (act_row (known_of s) (wires_of s) (get_or (wire_full wire) j false) j q rest)
        → (b : Bool) → is_front_row j ≡ b → RowInWire known₀ c range₀ d.now w (lent_by d) x₁ d.scratch t₁ r rest b (act_row known₀ (digits_of range₀) (full_at d.marks d.scratch j) j q rest) → Out r
    on_row key rest j q a b g h true f v =
        let fresh : is_element_row j ≡ true → wire.past ≡ false = λ e. ap (λ (u : Bool). u && wire.past) (sym e) ∙ g in
        subst (λ (u : Lent). StepOut c spool k FileHere own l to st (wire_desk d u t₁) r) (sym v.1)
        (front-line c spool k FileHere d at to own l w form x s m fs n wire z key rest j q a b (ltb-true j 5 f) fresh h y t₁ r v.0)
    on_row key rest j q a b g h false f v = once-line c spool k FileHere d at to own l w form x s m fs n wire z key rest j q a b in-spool (ltb-false j 5 f) h x₁ t₁ r v

    on-key : (key : List ℕ) (rest : Rest) (f : Found) → l.form ≡ keyed key rest → find key wire_table ≡ f
        → KeyInWire known₀ c range₀ d.now w (lent_by d) x₁ d.scratch t₁ r (skipped_as (skip_of key rest)) rest f → Out r
    on-key key rest absent a b v = on-unknown key rest (ap (on_wire_own (unlimited c) l s m fs n wire) a ∙ ap (on_wire_key (unlimited c) l s m fs n wire key rest) b) r v
    on-key key rest (found j q) a b v =
        go (is_element_row j && wire.past) refl (reaches c.wires q.least) refl
        (subst (λ (t : Bool). FoundInWire known₀ c range₀ d.now w (lent_by d) x₁ d.scratch t₁ r (skipped_as (skip_of key rest)) rest j q t (reaches c.wires q.least)) (misplaced-is j) v)
      where
        reached : (g i : Bool) → (is_element_row j && wire.past) ≡ g → reaches c.wires q.least ≡ i
            → step_in (unlimited c) l st ≡ cond g (on_wire_act (unlimited c) l s m fs n wire (act_unknown rest)) (cond i (on_wire_act (unlimited c) l s m fs n wire (act_row (known_of s) (wires_of s) (get_or (wire_full wire) j false) j q rest)) (on_wire_unknown (unlimited c) l s m fs n wire key rest))
        reached g i e f =
            ap (on_wire_own (unlimited c) l s m fs n wire) a ∙ ap (on_wire_key (unlimited c) l s m fs n wire key rest) b
            ∙ ap (λ (t : Bool). cond t (on_wire_act (unlimited c) l s m fs n wire (act_unknown rest)) (cond (reaches c.wires q.least) (on_wire_act (unlimited c) l s m fs n wire (act_row (known_of s) (wires_of s) (get_or (wire_full wire) j false) j q rest)) (on_wire_unknown (unlimited c) l s m fs n wire key rest))) e
            ∙ ap (λ (t : Bool). cond g (on_wire_act (unlimited c) l s m fs n wire (act_unknown rest)) (cond t (on_wire_act (unlimited c) l s m fs n wire (act_row (known_of s) (wires_of s) (get_or (wire_full wire) j false) j q rest)) (on_wire_unknown (unlimited c) l s m fs n wire key rest))) f

        go : (g : Bool) → (is_element_row j && wire.past) ≡ g → (i : Bool) → reaches c.wires q.least ≡ i
            → FoundInWire known₀ c range₀ d.now w (lent_by d) x₁ d.scratch t₁ r (skipped_as (skip_of key rest)) rest j q g i → Out r
        go true e i f v = subst Out (sym v) (refused rest (reached true i e f))
        go false e true f v = on_row key rest j q a b e (reached false true e f) (is_front_row j) refl v
        go false e false f v = on-unknown key rest (reached false false e f) r v

    on-form : (f : Form) → l.form ≡ f → ReadLine known₀ c range₀ d.now w (lent_by d) x₁ d.scratch t₁ r f → Out r
    on-form ignored a v = subst Out (sym v.0) (on-passed (ap (on_wire_own (unlimited c) l s m fs n wire) a) v.1 v.2)
    on-form (wrong i) a v = subst Out (sym v) (ap (on_wire_own (unlimited c) l s m fs n wire) a)
    on-form close a v =
        let b = whole a in
        subst Out (sym (v.0.answer ∙ ap (λ (t : Bool). cond t (S.Go (figure_done d.now)) (S.Stop 8)) b)) (on-close a (there a) refl v.1 (λ t. v.0.records (b ∙ t)))
    on-form eof a v = subst Out (sym v) (ap (on_wire_own (unlimited c) l s m fs n wire) a)
    on-form (keyed key rest) a v =
        on-key key rest (find key wire_table) a refl
        (subst (λ (t : List Rule). KeyInWire known₀ c range₀ d.now w (lent_by d) x₁ d.scratch t₁ r (skipped_as (skip_of key rest)) rest (find key t)) wire-rows v)

    pub own_line : ReadLine known₀ c range₀ d.now w (lent_by d) x₁ d.scratch t₁ r (form_in spool form) → Out r
    own_line v = on-form l.form refl (subst (ReadLine known₀ c range₀ d.now w (lent_by d) x₁ d.scratch t₁ r) (sym x.is) v)
