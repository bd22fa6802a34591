-- A line in a placed symbol's block: from the code's answer to the step that the definitions make.
use Prim.Native.Nat.{ℕ, zero, suc, ◌+◌, ◌-◌}
use mathlib.Core.Bool.{Bool, true, false, cond}
use mathlib.Core.List.{List, [], ◌∷◌, ◌++◌, map, append_assoc}
use mathlib.Core.Path.{◌≡◌, refl, sym, ◌∙◌, ap, subst}
use native.Mathlib.Omega.{arith}
use lib.Dec.{eqb}
use lib.IntN.{ℤ}
use lib.ListN.{length, get_or, take, length-append}
use Rattle.rules.specs.declared.Digits.{Digits}
use Rattle.rules.specs.declared.Class.{Class}
use Rattle.rules.specs.declared.LineForm.{LineForm}
use Rattle.rules.specs.Base.{flat}
use Rattle.rules.specs.RefusalNumbers.{Got, got, bad, unless}
use Rattle.rules.specs.RangeClass.{digits_of, reaches, exceeds, both, Skip, passes, deeper, no_form, skip_of}
use Rattle.rules.specs.Lines.{Rest, Form, ignored, wrong, close, eof, keyed, form_in, shape_of, has_form}
use Rattle.rules.specs.Values.{Known}
use Rattle.rules.specs.Rows.{Rule, Found, absent, found, find, Held, part_of, rows_there, shut, refuse, or_refuse, act_row, act_unknown, complete}
use Rattle.rules.specs.Figures.{placed_table}
use Rattle.rules.specs.Sets.{Figure, placed, Set, range_of, known_of}
use Rattle.rules.specs.Machine.{Line, in_layer, State, figures, placing, skipping, by_act, symbol_block, unlimited}
use Rattle.rules.specs.PlacedSymbol.{by_skip, skip_deeper, on_unknown, on_placed, on_placed_key, on_placed_own}
use Rattle.rules.specs.LineByLine.{step_in}
use Rattle.rules.specs.RecordTable.{mark_unread}
use Rattle.tables.specs.Tables.{table_of}
use Rattle.entries.specs.Names.{known_in}
use Rattle.account.specs.declared.Now.{Now}
use Rattle.account.specs.declared.Where.{Where}
use Rattle.account.specs.declared.Step.{Step}
use Rattle.account.specs.declared.Step.TheVariants as S
use Rattle.account.specs.Records.{part_at, with_part}
use Rattle.account.specs.Account.{figure_done}
use Rattle.account.specs.SkippedLines.{skipped_as, in_placed}
use Rattle.standing.specs.SoFar.{empty_record}
use Rattle.account.specs.PlacedLines.{Lent, skip_step, unknown_step, FoundLine, KeyLine, is_whole, OwnLine, PlacedLine}
use Rattle.standing.specs.Standing.{Desk, form_size, used_of, InPlaced, Stands, Counted, desk_now, desk_scratch, LineHere, StandsAt, StepOut, figure_links, links_in}
use Rattle.standing.specs.Reading.{PlacedForm}
use Rattle.standing.proofs.MoreRecords.{flat_map_more}
use Rattle.standing.proofs.ForeParts.{part-long}
use Rattle.standing.proofs.Completing.{goes-still, goes_filling, completed-by, number_by}
use Rattle.standing.proofs.ClosesKept.{placed-fills}
use Rattle.standing.proofs.ClearedKept.{line-there, placed-cleared}
use Rattle.standing.proofs.Standings.{sight, stands_on}
use Rattle.standing.proofs.HomeFacts.{home_stays}
use Rattle.rules.proofs.RecordLengths.{length-unread}
use Rattle.standing.proofs.PlacedFacts.{placed-rows}
use Rattle.standing.proofs.PlacedTables.{lent_of, lent_desk, range-is}
use Rattle.standing.proofs.PlacedTextStanding.{text-line}
use Rattle.standing.proofs.PlacedKeyStanding.{same-stands, row_line}

-- the closed symbol's serial number is that of a figure of the layer
closed-sight : (s : Set) (m : ℕ) (fs : List Figure) (n : ℕ) (o : Held) → sight (placing s m fs n (symbol_block o) 0) ≡ sight (figures s (in_layer m) (fs ++ placed n o ∷ []))
closed-sight s m fs n o =
    ap (λ (u : List (List ℕ)). record { set = (sight (placing s m fs n (symbol_block o) 0)).set; layers = s.drawing.layers; serials = u; used = used_of (placing s m fs n (symbol_block o) 0); inside = true; counts = true })
    (append_assoc (links_in s) (flat (map figure_links fs)) (figure_links (placed n o)) ∙ ap (λ (u : List (List ℕ)). links_in s ++ u) (sym (flat_map_more figure_links fs (placed n o))))

module _ (c : Class) (spool : List ℕ) (k : ℕ) (FileHere : Desk → Set → ℕ → Held → ℕ → Type 0) (d : Desk) (at to own : ℕ) (l : Line) (w : Where) (form : LineForm)
    (x : LineHere spool k at to form w l) (s : Set) (m : ℕ) (fs : List Figure) (n : ℕ) (o : Held) where
  -- what the code goes by
  abbrev known₀ : Known
  known₀ = known_in spool (take (get_or d.tally 9 0) d.symbols) (take (get_or d.tally 10 0) d.layers)

  abbrev range₀ : Digits
  range₀ = digits_of (get_or d.tally 1 0)

  abbrev rec₀ : List ℤ
  rec₀ = part_at 32 d.scratch

  -- ── directly in the block ──
  module _ (z : Stands c spool k d (FileHere d) at (placing s m fs n (symbol_block o) 0)) (y : Counted c own d (placing s m fs n (symbol_block o) 0)) (x₁ : Lent) (rec₁ : List ℤ) where
    abbrev st : State
    st = placing s m fs n (symbol_block o) 0

    abbrev d₁ : Desk
    d₁ = lent_desk d x₁ rec₁

    abbrev Out : Step → Type 0
    Out r = StepOut c spool k FileHere own l to st d₁ r

    inp : InPlaced spool k d.now d.marks d.inner s m fs o 0
    inp = z.block.1

    as_before : x₁ ≡ lent_of d → rec₁ ≡ rec₀ → StandsAt c spool k FileHere (desk_now d₁ d.now) to st
    as_before a q = same-stands c spool k FileHere d at to own l w form x s m fs n o z x₁ rec₁ a q

    -- a line that is passed over
    on-passed : step_in (unlimited c) l st ≡ got st → x₁ ≡ lent_of d → rec₁ ≡ rec₀ → Out (S.Go d.now)
    on-passed f a q = goes-still c spool k FileHere own l to st d₁ d.now st f refl refl refl refl (as_before a q)

    -- ── a key that the class doesn't know ──
    module _ (key : List ℕ) (rest : Rest) (h : step_in (unlimited c) l st ≡ on_unknown (unlimited c) s m fs n o key rest) (lent-so : x₁ ≡ lent_of d) (q : rec₁ ≡ rec₀) where
      abbrev skipping₁ : Got State
      skipping₁ = skip_deeper 0 (skipping s m fs n (symbol_block o) 1)

      abbrev refused : Got State
      refused = by_act st (λ j v. bad 6) (λ i j v. bad 6) (λ _. bad 6) (act_unknown rest)

      by_skip_lem : (t : Skip) → skip_of key rest ≡ t → exceeds (range_of s) c.symbols ≡ true → Out (skip_step d.now (skipped_as t))
      by_skip_lem t f b = go t (h ∙ ap (λ (i : Bool). cond i (by_skip (skip_of key rest) (got st) skipping₁) refused) b ∙ ap (λ (i : Skip). by_skip i (got st) skipping₁) f)
        where
          go : (t : Skip) → step_in (unlimited c) l st ≡ by_skip t (got st) skipping₁ → Out (skip_step d.now (skipped_as t))
          go passes f = on-passed f lent-so q
          go deeper f = record {
            inside = skipping s m fs n (symbol_block o) 1;
            behind = st;
            skips = in_placed s m fs n o;
            step = f;
            records = refl;
            taken = refl;
            same = refl;
            stands = as_before lent-so q;
          }
          go no_form f = f

      by_form : (t : Bool) → has_form (shape_of rest) ≡ t → exceeds (range_of s) c.symbols ≡ false → Out (cond t (S.Stop 6) (S.Stop 5))
      by_form t f b =
          go t
          (h ∙ ap (λ (i : Bool). cond i (by_skip (skip_of key rest) (got st) skipping₁) refused) b
          ∙ ap (λ (i : Bool). by_act st (λ j v. bad 6) (λ i j v. bad 6) (λ _. bad 6) (or_refuse (unless i 5 (bad 6)))) f)
        where
          go : (t : Bool) → step_in (unlimited c) l st ≡ by_act st (λ j v. bad 6) (λ i j v. bad 6) (λ _. bad 6) (or_refuse (unless t 5 (bad 6))) → Out (cond t (S.Stop 6) (S.Stop 5))
          go true f = f
          go false f = f

      by-range : (t : Bool) → exceeds (range_of s) c.symbols ≡ t → Out (cond t (skip_step d.now (skipped_as (skip_of key rest))) (cond (has_form (shape_of rest)) (S.Stop 6) (S.Stop 5)))
      by-range true b = by_skip_lem (skip_of key rest) refl b
      by-range false b = by_form (has_form (shape_of rest)) refl b

      on-unknown : (r : Step) → r ≡ unknown_step c.symbols range₀ d.now (skipped_as (skip_of key rest)) rest → Out r
      on-unknown r a =
          let f : exceeds range₀ c.symbols ≡ exceeds (range_of s) c.symbols = ap (λ (i : Digits). exceeds i c.symbols) (range-is c spool k FileHere d at to s m fs n o 0 z) in
          subst Out (sym (a ∙ ap (λ (i : Bool). cond i (skip_step d.now (skipped_as (skip_of key rest))) (cond (has_form (shape_of rest)) (S.Stop 6) (S.Stop 5))) f))
          (by-range (exceeds (range_of s) c.symbols) refl)

    -- ── the closing line ──
    module _ (shut-so : l.form ≡ close) where
      abbrev there : Bool
      there = complete (both c.symbols (range_of s)) placed_table (rows_there (part_of o 0))

      whole : is_whole c.symbols range₀ d.marks ≡ there
      whole =
          ap (λ (i : Digits). complete (both c.symbols i) (table_of 18) (take 6 d.marks)) (range-is c spool k FileHere d at to s m fs n o 0 z)
          ∙ ap (λ (i : List Rule). complete (both c.symbols (range_of s)) i (take 6 d.marks)) placed-rows
          ∙ ap (complete (both c.symbols (range_of s)) placed_table) inp.marked

      stepped : step_in (unlimited c) l st ≡ on_placed s m fs n o 0 (cond there shut (refuse 8))
      stepped = ap (on_placed_own (unlimited c) s m fs n o) shut-so

      on-short : there ≡ false → Out (S.Stop 8)
      on-short b = stepped ∙ ap (λ (i : Bool). on_placed s m fs n o 0 (cond i shut (refuse 8))) b

      on-whole : there ≡ true → x₁ ≡ lent_of d → rec₁ ≡ mark_unread c.symbols range₀ placed_table rec₀ → Out (S.Go (figure_done d.now))
      on-whole b a q =
          let now : Now = figure_done d.now in
          let st' : State = figures s (in_layer m) (fs ++ placed n o ∷ []) in
          let t₁ : List ℤ = with_part 32 rec₁ d.scratch in
          let long : length rec₁ ≡ 32 = ap length q ∙ length-unread c.symbols range₀ placed_table rec₀ ∙ part-long 32 d.scratch (omega (arith, z.lengths.scratch)) in
          let put : part_at 32 t₁ ≡ mark_unread c.symbols (range_of s) placed_table rec₀ =
          line-there d.scratch rec₁ st long z.scratch ∙ q ∙ ap (λ (i : Digits). mark_unread c.symbols i placed_table rec₀) (range-is c spool k FileHere d at to s m fs n o 0 z) in
          let one : form_size l.form ≡ 1 = ap form_size shut-so in
          goes_filling c spool k FileHere own l to st d₁ now st' (stepped ∙ ap (λ (i : Bool). on_placed s m fs n o 0 (cond i shut (refuse 8))) b) 32 (d.now.records - 1)
          (completed-by d.now now 11 8 z.block.0 refl) (number_by d.now now own 11 8 z.block.0 refl) 0 (omega arith) (omega arith)
          (placed-fills c s m fs n o d.now.records y.size d.scratch t₁ z.scratch put)
          (subst (λ (i : Lent). StandsAt c spool k FileHere (desk_now (desk_scratch (lent_desk d i rec₁) (with_part 32 empty_record t₁)) now) to st') (sym a)
          (stands_on c spool k FileHere d at to st st' z now d.marks d.inner (with_part 32 empty_record t₁) (closed-sight s m fs n o) z.lengths.marks z.lengths.inner
          (placed-cleared s m fs n o 0 d.scratch rec₁ long z.scratch)
          (omega (arith, z.counted, x.bytes, one, length-append fs (placed n o ∷ []))) (omega (arith, z.named, x.bytes)) (omega (arith, z.numbered, x.bytes, one))
          (refl, home_stays spool k d.now now d.marks d.inner d.inner s (in_layer m) refl refl inp.home, ap (λ (i : ℕ). i + 1) inp.figures ∙ sym (length-append fs (placed n o ∷ [])))))

      on-close : (b : Bool) → there ≡ b → x₁ ≡ lent_of d → (b ≡ true → rec₁ ≡ mark_unread c.symbols range₀ placed_table rec₀) → Out (cond b (S.Go (figure_done d.now)) (S.Stop 8))
      on-close true b a q = on-whole b a (q refl)
      on-close false b a q = on-short b

    -- ── any line ──
    module _ (in-spool : PlacedForm l.form) (r : Step) where
      on-key : (key : List ℕ) (rest : Rest) (f : Found) → l.form ≡ keyed key rest → find key placed_table ≡ f
          → KeyLine known₀ c.symbols range₀ d.now (lent_of d) x₁ rec₀ rec₁ r (skipped_as (skip_of key rest)) rest f → Out r
      on-key key rest absent a b v =
          on-unknown key rest (ap (on_placed_own (unlimited c) s m fs n o) a ∙ ap (on_placed_key (unlimited c) s m fs n o key rest) b) v.lent v.rec r v.answer
      on-key key rest (found j q) a b v = go (reaches c.symbols q.least) refl v
        where
          reached : (i : Bool) → reaches c.symbols q.least ≡ i
              → step_in (unlimited c) l st ≡ cond i (on_placed s m fs n o 0 (act_row (known_of s) (range_of s) (get_or (rows_there (part_of o 0)) j false) j q rest)) (on_unknown (unlimited c) s m fs n o key rest)
          reached i g =
              ap (on_placed_own (unlimited c) s m fs n o) a ∙ ap (on_placed_key (unlimited c) s m fs n o key rest) b
              ∙ ap (λ (t : Bool). cond t (on_placed s m fs n o 0 (act_row (known_of s) (range_of s) (get_or (rows_there (part_of o 0)) j false) j q rest)) (on_unknown (unlimited c) s m fs n o key rest))
              g

          go : (i : Bool) → reaches c.symbols q.least ≡ i → FoundLine known₀ c.symbols range₀ d.now (lent_of d) x₁ rec₀ rec₁ r (skipped_as (skip_of key rest)) rest j q i → Out r
          go true g v = row_line c spool k FileHere d at to own l w form x s m fs n o z key rest j q a b in-spool (reached true g) x₁ rec₁ r v
          go false g v = on-unknown key rest (reached false g) v.lent v.rec r v.answer

      on-form : (f : Form) → l.form ≡ f → OwnLine known₀ c.symbols range₀ d.now (lent_of d) x₁ rec₀ rec₁ r f → Out r
      on-form ignored a v = subst Out (sym v.0) (on-passed (ap (on_placed_own (unlimited c) s m fs n o) a) v.1 v.2)
      on-form (wrong i) a v = subst Out (sym v) (ap (on_placed_own (unlimited c) s m fs n o) a)
      on-form close a v =
          let b : is_whole c.symbols range₀ d.marks ≡ complete (both c.symbols (range_of s)) placed_table (rows_there (part_of o 0)) = whole a in
          subst Out (sym (v.0.answer ∙ ap (λ (t : Bool). cond t (S.Go (figure_done d.now)) (S.Stop 8)) b))
          (on-close a (complete (both c.symbols (range_of s)) placed_table (rows_there (part_of o 0))) refl v.1 (λ t. v.0.rec (b ∙ t)))
      on-form eof a v = subst Out (sym v) (ap (on_placed_own (unlimited c) s m fs n o) a)
      on-form (keyed key rest) a v =
          on-key key rest (find key placed_table) a refl
          (subst (λ (t : List Rule). KeyLine known₀ c.symbols range₀ d.now (lent_of d) x₁ rec₀ rec₁ r (skipped_as (skip_of key rest)) rest (find key t)) placed-rows v)

      own_line : OwnLine known₀ c.symbols range₀ d.now (lent_of d) x₁ rec₀ rec₁ r (form_in spool form) → Out r
      own_line v = on-form l.form refl (subst (OwnLine known₀ c.symbols range₀ d.now (lent_of d) x₁ rec₀ rec₁ r) (sym x.is) v)

  -- ── in its text, or directly in it ──
  pub placed-line : PlacedForm l.form → (p : ℕ) → Stands c spool k d (FileHere d) at (placing s m fs n (symbol_block o) p) → Counted c own d (placing s m fs n (symbol_block o) p) → (x₁ : Lent) (rec₁ : List ℤ) (r : Step)
      → PlacedLine known₀ c.symbols range₀ d.now (lent_of d) x₁ rec₀ rec₁ r (eqb d.now.part 1) (form_in spool form)
      → StepOut c spool k FileHere own l to (placing s m fs n (symbol_block o) p) (lent_desk d x₁ rec₁) r
  placed-line in-spool zero z y x₁ rec₁ r v =
      own_line z y x₁ rec₁ in-spool r (subst (λ (i : ℕ). PlacedLine known₀ c.symbols range₀ d.now (lent_of d) x₁ rec₀ rec₁ r (eqb i 1) (form_in spool form)) z.block.1.part v)
  placed-line in-spool (suc zero) z y x₁ rec₁ r v =
      let f = subst (λ (i : ℕ). PlacedLine known₀ c.symbols range₀ d.now (lent_of d) x₁ rec₀ rec₁ r (eqb i 1) (form_in spool form)) z.block.1.part v in
      subst (λ (i : Lent). StepOut c spool k FileHere own l to (placing s m fs n (symbol_block o) 1) (lent_desk d i rec₁) r) (sym f.1)
      (text-line c spool k FileHere d at to own l w form x s m fs n o z x₁.inner rec₁ r f.0)
  placed-line in-spool (suc (suc p)) z y x₁ rec₁ r v = absurd (omega (arith, z.block.1.parts))
