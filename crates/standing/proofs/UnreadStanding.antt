-- A line in a wire that is skipped whole: from the code's answer to the step that the definitions make.
use Prim.Native.Nat.{ℕ, zero, suc, ◌+◌, ◌-◌, ◌≤◌}
use mathlib.Core.Bool.{Bool, true, false, cond}
use mathlib.Core.List.{List, [], ◌∷◌, ◌++◌}
use mathlib.Core.Path.{◌≡◌, refl, sym, ◌∙◌, ap, subst}
use native.Mathlib.Omega.{arith}
use borrow.Author.Tests.{ltb-true, ne_eqb}
use lib.Dec.{eqb, ltb}
use lib.IntN.{ℤ, pos}
use lib.ListN.{length, get_or, set, take, drop, replicate, length-append, length-set}
use lib.Seq.{take_all, drop_at}
use Rattle.rules.specs.declared.Class.{Class}
use Rattle.rules.specs.declared.LineForm.{LineForm}
use Rattle.rules.specs.RefusalNumbers.{Got, got, bad, unless}
use Rattle.rules.specs.RangeClass.{digits, digits_of, Skip, passes, deeper, no_form, skip_of, most_depth}
use Rattle.rules.specs.Lines.{Form, ignored, wrong, close, eof, keyed, form_in}
use Rattle.rules.specs.Rows.{Held}
use Rattle.rules.specs.Figures.{wire_table}
use Rattle.rules.specs.Sets.{Figure, passed, Set, wire_range}
use Rattle.rules.specs.Machine.{Line, in_layer, State, figures, skipping, wire_unread, unlimited}
use Rattle.rules.specs.PlacedSymbol.{by_skip, skip_deeper, skip_shut, on_skipping}
use Rattle.rules.specs.LineByLine.{step_in}
use Rattle.rules.specs.RecordTable.{mark_unread, wire_start}
use Rattle.rules.proofs.RecordLengths.{length-unread}
use Rattle.account.specs.declared.Now.{Now}
use Rattle.account.specs.declared.Where.{Where}
use Rattle.account.specs.declared.Step.{Step}
use Rattle.account.specs.declared.Step.TheVariants as S
use Rattle.account.specs.declared.Skipped.{Skipped}
use Rattle.account.specs.declared.Skipped.TheVariants as K
use Rattle.account.specs.Records.{with_part}
use Rattle.account.specs.Account.{figure_done}
use Rattle.account.specs.SkippedLines.{skipped_as, skipped_by}
use Rattle.account.specs.WireLines.{open_skipped, skipped_step, marked_unread, skipped_put, SkippedLine}
use Rattle.standing.specs.SoFar.{volume_of, empty_record}
use Rattle.standing.specs.Kept.{Scratch}
use Rattle.standing.specs.Standing.{Desk, InWire, Stands, Counted, LineHere, StepOut}
use Rattle.standing.proofs.Completing.{goes-still, goes_wiring, completed-by, number_by}
use Rattle.standing.proofs.ScratchKept.{scratch-zeros}
use Rattle.standing.proofs.WireScratch.{unread-scratch, scratch-unread, unread-closed, cleared-two}
use Rattle.standing.proofs.WireKept.{unread_of, unread-fills, unread-shut-sight}
use Rattle.standing.proofs.Standings.{desk_with, stands_on, stands-still}
use Rattle.standing.proofs.HomeFacts.{home_stays}

-- ── what a skipped line does ──
module _ (s : Set) (m : ℕ) (fs : List Figure) (n q : ℕ) where
  abbrev turn : Skipped → Got State
  turn K.Passes = got (skipping s m fs n wire_unread q)
  turn K.Deeper = skip_deeper q (skipping s m fs n wire_unread (suc q))
  turn K.Shut = skip_shut s m fs n wire_unread q
  turn (K.Refuse i) = bad i

  turns : (f : Form) → on_skipping s m fs n wire_unread q f ≡ turn (skipped_by f)
  turns ignored = refl
  turns (wrong i) = refl
  turns close = refl
  turns eof = refl
  turns (keyed key r) = go (skip_of key r)
    where
      go : (y : Skip) → by_skip y (got (skipping s m fs n wire_unread q)) (skip_deeper q (skipping s m fs n wire_unread (suc q))) ≡ turn (skipped_as y)
      go passes = refl
      go deeper = refl
      go no_form = refl

unread-long : (range k volume n : ℕ) → length (unread_of range k volume n) ≡ 64
unread-long range k volume n =
    length-set (set (mark_unread (digits 0 0) (digits_of range) wire_table (wire_start k volume n)) 31 (pos 3)) 63 (pos 3)
    ∙ length-set (mark_unread (digits 0 0) (digits_of range) wire_table (wire_start k volume n)) 31 (pos 3) ∙ length-unread (digits 0 0) (digits_of range) wire_table (wire_start k volume n)

-- the end of a skipped block in it
inner-shut : (s : Set) (m : ℕ) (fs : List Figure) (n q : ℕ) → skip_shut s m fs n wire_unread (suc q) ≡ got (skipping s m fs n wire_unread q)
inner-shut s m fs n zero = refl
inner-shut s m fs n (suc q) = refl

module _ (c : Class) (spool : List ℕ) (k : ℕ) (FileHere : Desk → Set → ℕ → Held → ℕ → Type 0) (d : Desk) (at to own : ℕ) (l : Line) (w : Where) (form : LineForm)
    (x : LineHere spool k at to form w l) (s : Set) (m : ℕ) (fs : List Figure) (n : ℕ) where
  later : at ≤ to
  later = omega (arith, x.bytes)

  -- q: how many skipped blocks are open in it
  module _ (q : ℕ) (z : Stands c spool k d (FileHere d) at (skipping s m fs n wire_unread q)) (y : Counted c own d (skipping s m fs n wire_unread q)) (t₁ : List ℤ) where
    abbrev st : State
    st = skipping s m fs n wire_unread q

    abbrev d₁ : Desk
    d₁ = desk_with d d.now d.marks d.inner t₁

    abbrev Out : Step → Type 0
    Out r = StepOut c spool k FileHere own l to st d₁ r

    abbrev did : Skipped
    did = skipped_by l.form

    inw : InWire spool k d.now d.marks d.inner s m fs 2 q
    inw = z.block.2

    step_is : (f : Skipped) → did ≡ f → step_in (unlimited c) l st ≡ turn s m fs n q f
    step_is f a = turns s m fs n q l.form ∙ ap (turn s m fs n q) a

    on-passed : did ≡ K.Passes → t₁ ≡ d.scratch → Out (S.Go d.now)
    on-passed a p =
        goes-still c spool k FileHere own l to st d₁ d.now st (step_is K.Passes a) refl refl refl refl
        (stands-still c spool k FileHere d at to st z later d.tally d.marks d.inner d.header t₁ refl refl refl refl p)

    -- p blocks are open behind the line
    on-moved : (p i : ℕ) → p ≡ i → i ≤ most_depth → step_in (unlimited c) l st ≡ got (skipping s m fs n wire_unread i) → t₁ ≡ d.scratch → Out (S.Go (open_skipped d.now p))
    on-moved p i e few step b =
        let now : Now = open_skipped d.now p in
        let st' : State = skipping s m fs n wire_unread i in
        goes-still c spool k FileHere own l to st d₁ now st' step refl refl refl refl
        (stands_on c spool k FileHere d at to st st' z now d.marks d.inner t₁ refl z.lengths.marks z.lengths.inner
        (subst (λ (u : List ℤ). Scratch u st') (sym (b ∙ unread-scratch d.scratch s m fs n q z.scratch)) (scratch-unread s m fs n i))
        (omega (arith, z.counted, later)) (omega (arith, z.named, later)) (omega (arith, z.numbered, later))
        (z.block.0, few, record { home = home_stays spool k d.now now d.marks d.inner d.inner s (in_layer m) refl refl inw.home; figures = inw.figures; part = inw.part; points = e }))

    -- a block in it opens, or is too deep
    on-deeper : did ≡ K.Deeper → t₁ ≡ d.scratch → (b : Bool) → ltb d.now.points most_depth ≡ b → Out (cond b (S.Go (open_skipped d.now (d.now.points + 1))) (S.Stop 18))
    on-deeper a p true e =
        let here : ltb q most_depth ≡ true = ap (λ (i : ℕ). ltb i most_depth) (sym inw.points) ∙ e in
        on-moved (d.now.points + 1) (suc q) (omega (arith, inw.points)) (omega (arith, ltb-true q most_depth here))
        (step_is K.Deeper a ∙ ap (λ (b : Bool). unless b 18 (got (skipping s m fs n wire_unread (suc q)))) here) p
    on-deeper a p false e =
        let here : ltb q most_depth ≡ false = ap (λ (i : ℕ). ltb i most_depth) (sym inw.points) ∙ e in
        step_is K.Deeper a ∙ ap (λ (b : Bool). unless b 18 (got (skipping s m fs n wire_unread (suc q)))) here

    on-refuse : (i : ℕ) → did ≡ K.Refuse i → Out (S.Stop i)
    on-refuse i a = step_is (K.Refuse i) a

  -- ── a `}` ──
  -- its own
  on-end : (z : Stands c spool k d (FileHere d) at (skipping s m fs n wire_unread 0)) (y : Counted c own d (skipping s m fs n wire_unread 0)) (t₁ : List ℤ) → did 0 z y t₁ ≡ K.Shut → t₁ ≡ marked_unread (wire_range s) d.scratch
      → Out 0 z y t₁ (S.Go (figure_done d.now))
  on-end z y t₁ a p =
      let now : Now = figure_done d.now in
      let st : State = skipping s m fs n wire_unread 0 in
      let st' : State = figures s (in_layer m) (fs ++ passed n ∷ []) in
      let inw : InWire spool k d.now d.marks d.inner s m fs 2 0 = z.block.2 in
      let two : List ℤ = unread_of (wire_range s) m (volume_of s) n in
      let put : t₁ ≡ empty_record ++ two = p ∙ ap (marked_unread (wire_range s)) (unread-scratch d.scratch s m fs n 0 z.scratch) ∙ unread-closed m (volume_of s) n (wire_range s) in
      let long : length two ≡ 64 = unread-long (wire_range s) m (volume_of s) n in
      let there : take 64 (drop 32 t₁) ≡ two =
      ap (λ (u : List ℤ). take 64 (drop 32 u)) put ∙ ap (take 64) (drop_at empty_record two 32 refl) ∙ take_all 64 two (omega (arith, long)) in
      let cleared : with_part 64 empty_record (with_part 32 empty_record t₁) ≡ replicate 96 (pos 0) =
      ap (λ (u : List ℤ). with_part 64 empty_record (with_part 32 empty_record u)) put ∙ cleared-two two long in
      goes_wiring c spool k FileHere own l to st (d₁ 0 z y t₁) now st' (step_is 0 z y t₁ K.Shut a) (d.now.records - 2) (completed-by d.now now 12 8 z.block.0 refl)
      (number_by d.now now own 12 8 z.block.0 refl ∙ ap (λ (i : ℕ). d.now.records - (i + 2)) inw.points) refl refl (ap length put ∙ omega (arith, length-append empty_record two, long))
      (unread-fills c s m fs n d.now.records y.size (take 64 (drop 32 t₁)) there (ap length there ∙ long))
      (stands_on c spool k FileHere d at to st st' z now d.marks d.inner (with_part 64 empty_record (with_part 32 empty_record t₁)) (unread-shut-sight s m fs n 0) z.lengths.marks z.lengths.inner
      (subst (λ (u : List ℤ). Scratch u st') (sym cleared) (scratch-zeros st' refl refl refl))
      (omega (arith, z.counted, x.bytes, length-append fs (passed n ∷ []))) (omega (arith, z.named, later)) (omega (arith, z.numbered, later))
      (refl, home_stays spool k d.now now d.marks d.inner d.inner s (in_layer m) refl refl inw.home, ap (λ (i : ℕ). i + 1) inw.figures ∙ sym (length-append fs (passed n ∷ []))))

  -- its own, or that of the last block that opened in it
  on-shut : (q : ℕ) (z : Stands c spool k d (FileHere d) at (skipping s m fs n wire_unread q)) (y : Counted c own d (skipping s m fs n wire_unread q)) (t₁ : List ℤ) → did q z y t₁ ≡ K.Shut
      → t₁ ≡ cond (eqb d.now.points 0) (marked_unread (wire_range s) d.scratch) d.scratch
      → Out q z y t₁ (cond (eqb d.now.points 0) (S.Go (figure_done d.now)) (S.Go (open_skipped d.now (d.now.points - 1))))
  on-shut zero z y t₁ a p =
      let none_open : eqb d.now.points 0 ≡ true = ap (λ (i : ℕ). eqb i 0) z.block.2.points in
      subst (λ (b : Bool). Out 0 z y t₁ (cond b (S.Go (figure_done d.now)) (S.Go (open_skipped d.now (d.now.points - 1))))) (sym none_open)
      (on-end z y t₁ a (p ∙ ap (λ (b : Bool). cond b (marked_unread (wire_range s) d.scratch) d.scratch) none_open))
  on-shut (suc q) z y t₁ a p =
      let some-open : eqb d.now.points 0 ≡ false = ne_eqb d.now.points 0 (λ e. absurd (omega (arith, e, z.block.2.points))) in
      subst (λ (b : Bool). Out (suc q) z y t₁ (cond b (S.Go (figure_done d.now)) (S.Go (open_skipped d.now (d.now.points - 1))))) (sym some-open)
      (on-moved (suc q) z y t₁ (d.now.points - 1) q (omega (arith, z.block.2.points)) (omega (arith, z.block.1)) (step_is (suc q) z y t₁ K.Shut a ∙ inner-shut s m fs n q)
      (p ∙ ap (λ (b : Bool). cond b (marked_unread (wire_range s) d.scratch) d.scratch) some-open))

  -- ── the line ──
  module _ (q : ℕ) (z : Stands c spool k d (FileHere d) at (skipping s m fs n wire_unread q)) (y : Counted c own d (skipping s m fs n wire_unread q)) (t₁ : List ℤ) where
    by_skip_lem : (f : Skipped) → did q z y t₁ ≡ f → t₁ ≡ skipped_put (wire_range s) d.now d.scratch f → Out q z y t₁ (skipped_step d.now f)
    by_skip_lem K.Passes a p = on-passed q z y t₁ a p
    by_skip_lem K.Deeper a p = on-deeper q z y t₁ a p (ltb d.now.points most_depth) refl
    by_skip_lem K.Shut a p = on-shut q z y t₁ a p
    by_skip_lem (K.Refuse i) a p = on-refuse q z y t₁ i a

    pub unread-line : (r : Step) → SkippedLine (get_or d.tally 12 0) d.now (skipped_by (form_in spool form)) d.scratch t₁ r → Out q z y t₁ r
    unread-line r g =
        let range-here : get_or d.tally 12 0 ≡ wire_range s = ap (λ (u : List ℕ). get_or u 12 0) z.tally in
        let f : SkippedLine (wire_range s) d.now (skipped_by (form_in spool form)) d.scratch t₁ r = subst (λ (i : ℕ). SkippedLine i d.now (skipped_by (form_in spool form)) d.scratch t₁ r) range-here g in
        let is : skipped_by (form_in spool form) ≡ did q z y t₁ = ap skipped_by (sym x.is) in
        subst (Out q z y t₁) (sym (f.answer ∙ ap (skipped_step d.now) is)) (by_skip_lem (did q z y t₁) refl (f.records ∙ ap (skipped_put (wire_range s) d.now d.scratch) is))
