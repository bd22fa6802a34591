-- A line in a `successive`: from the code's answer to the step that the definitions make.
use Prim.Native.Nat.{ℕ, ◌+◌, ◌-◌, ◌≤◌}
use mathlib.Core.Bool.{Bool, true, false, cond}
use mathlib.Core.List.{List, [], ◌∷◌, ◌++◌}
use mathlib.Core.Path.{◌≡◌, refl, sym, ◌∙◌, ap, subst}
use native.Mathlib.Omega.{arith}
use borrow.Author.Tests.{le-leb, lt-leb, ltb-true, ltb-false}
use lib.Dec.{ltb}
use lib.IntN.{ℤ, pos}
use lib.ListN.{length, get_or, set, take, drop, length-append, length-set, length-drop, take-append-drop}
use lib.Seq.{drop-drop}
use Rattle.rules.specs.declared.Class.{Class}
use Rattle.rules.specs.declared.LineForm.{LineForm}
use Rattle.rules.specs.RefusalNumbers.{got, unless}
use Rattle.rules.specs.RangeClass.{digits}
use Rattle.rules.specs.Lines.{form_in}
use Rattle.rules.specs.Values.{Known, Value}
use Rattle.rules.specs.Rows.{Rule, Held, rows_at_limit, Act, stay, entry, begin, shut, refuse, act}
use Rattle.rules.specs.Figures.{point_table, least_points}
use Rattle.rules.specs.Sets.{Point, Figure, chain, Set, known_of, with_records}
use Rattle.rules.specs.Machine.{Line, Home, in_element, in_layer, is_layer, State, figures, successive, point_at, kind_in}
use Rattle.rules.specs.RecordTable.{kind_point}
use Rattle.rules.proofs.Chains.{clash}
use Rattle.tables.specs.Tables.{table_of}
use Rattle.account.specs.declared.Now.{Now}
use Rattle.account.specs.declared.Where.{Where}
use Rattle.account.specs.declared.Step.{Step}
use Rattle.account.specs.declared.Step.TheVariants as S
use Rattle.account.specs.Records.{part_at, with_part}
use Rattle.account.specs.Account.{figure_done}
use Rattle.standing.specs.SoFar.{home_owner, home_volume, home_more, empty_record}
use Rattle.standing.specs.Kept.{figure_open, Scratch}
use Rattle.standing.specs.Standing.{Desk, used_of, inside, InChain, Stands, Counted, LineHere, StepOut}
use Rattle.account.specs.Points.{point_table_of, chain_kind, point_act, more_points, point_put, chain_put, chain_typed, chain_closed, chain_step, ChainRecords, ChainLine}
use Rattle.standing.proofs.Openers.{is_begin, no-begin}
use Rattle.standing.proofs.ForeParts.{part-long}
use Rattle.standing.proofs.Completing.{goes-still, goes_filling, completed-by, completed-line, number_by, number_same}
use Rattle.standing.proofs.ScratchKept.{chain-long, chain-own, chain-figure-part, chain-point}
use Rattle.standing.proofs.LinesKept.{point_record, point-fills}
use Rattle.standing.proofs.ChainKept.{Pointed, pointed, counted-own, chain-fills}
use Rattle.standing.proofs.ClearedKept.{line-there, chain-cleared, point-cleared}
use Rattle.standing.proofs.Standings.{sight, desk_with, stands_on, known, stands-still}
use Rattle.standing.proofs.HomeFacts.{home-layered, home-owner, home-volume, home-on, home_stays}
use Rattle.standing.proofs.FigureSights.{plain-serials}
use Rattle.standing.proofs.PointEntries.{point-rows, plain-points, point-few, point-put}
use Rattle.standing.proofs.ClosedActs.{acted}

chain-kind : (h : Home) → chain_kind (is_layer h) ≡ 17 + home_more h
chain-kind (in_element y) = refl
chain-kind (in_layer m) = refl

-- the count of records says nothing of the set
same-sight : (kind : ℕ) (s : Set) (h : Home) (fs : List Figure) (n : ℕ) (ps ps' : List Point) → sight (successive s h fs n ps) ≡ sight (successive (with_records (kind ∷ []) s) h fs n ps')
same-sight kind s (in_element y) fs n ps ps' = refl
same-sight kind s (in_layer m) fs n ps ps' = refl

closed-sight : (s : Set) (h : Home) (fs : List Figure) (n : ℕ) (ps : List Point) → sight (successive s h fs n ps) ≡ sight (figures s h (fs ++ chain n ps ∷ []))
closed-sight s h fs n ps =
    ap (λ (u : List (List ℕ)). record { set = (sight (successive s h fs n ps)).set; layers = s.drawing.layers; serials = u; used = used_of (figures s h fs); inside = inside (figures s h fs); counts = true })
    (plain-serials s h fs (chain n ps) refl)

module _ (c : Class) (spool : List ℕ) (k : ℕ) (FileHere : Desk → Set → ℕ → Held → ℕ → Type 0) (d : Desk) (at to own : ℕ) (l : Line) (w : Where) (form : LineForm)
    (x : LineHere spool k at to form w l) (s : Set) (h : Home) (fs : List Figure) (n : ℕ) (ps : List Point) (z : Stands c spool k d (FileHere d) at (successive s h fs n ps))
    (y : Counted c own d (successive s h fs n ps)) where
  abbrev st : State
  st = successive s h fs n ps

  abbrev rows : List Rule
  rows = point_table (is_layer h)

  abbrev did : Act
  did = act (known_of s) rows (digits 0 0) (rows_at_limit (length ps) rows) l.form

  inc : InChain spool k d.now d.marks d.inner s h fs ps
  inc = z.block.1

  layered : d.now.layered ≡ is_layer h
  layered = home-layered spool k d.now d.marks d.inner s h inc.home

  -- the act that the code goes by
  abbrev code_act : Act
  code_act = point_act (point_table_of d.now.layered) spool (take (get_or d.tally 9 0) d.symbols) (take (get_or d.tally 10 0) d.layers) d.now form

  chain-act : code_act ≡ did
  chain-act =
      ap (λ (m : Known). act m (table_of (point_table_of d.now.layered)) (digits 0 0) (rows_at_limit d.now.points (table_of (point_table_of d.now.layered))) (form_in spool form))
      (known c spool k FileHere d at to st st z refl)
      ∙ ap (λ (t : List Rule). act (known_of s) t (digits 0 0) (rows_at_limit d.now.points t) (form_in spool form)) (ap (λ (b : Bool). table_of (point_table_of b)) layered ∙ point-rows (is_layer h))
      ∙ ap (λ (m : ℕ). act (known_of s) rows (digits 0 0) (rows_at_limit m rows) (form_in spool form)) inc.points
      ∙ ap (act (known_of s) rows (digits 0 0) (rows_at_limit (length ps) rows)) (sym x.is)

  later : at ≤ to
  later = omega (arith, x.bytes)

  -- the two records that are lent
  abbrev recs₀ : List ℤ
  recs₀ = drop 32 d.scratch

  recs-long : length recs₀ ≡ 64
  recs-long = omega (arith, length-drop 32 d.scratch, z.lengths.scratch)

  -- recs₁: on return
  module _ (recs₁ : List ℤ) where
    abbrev t₁ : List ℤ
    t₁ = take 32 d.scratch ++ recs₁

    abbrev d₁ : Desk
    d₁ = desk_with d d.now d.marks d.inner t₁

    abbrev Out : Step → Type 0
    Out r = StepOut c spool k FileHere own l to st d₁ r

    -- nothing but the place in the spool
    on-stay : did ≡ stay → recs₁ ≡ recs₀ → Out (S.Go d.now)
    on-stay a q =
        goes-still c spool k FileHere own l to st d₁ d.now st (ap (acted _ _ _ _) a) refl refl refl refl
        (stands-still c spool k FileHere d at to st z later d.tally d.marks d.inner d.header t₁ refl refl refl refl
        (ap (λ (u : List ℤ). take 32 d.scratch ++ u) q ∙ take-append-drop 32 d.scratch))

    -- one more point
    module _ (j : ℕ) (v : Value) (a : did ≡ entry j v) (q : recs₁ ≡ chain_typed d.now (chain_put d.now w j v recs₀)) where
      abbrev p : Point
      p = point_at l v

      abbrev ks : List ℕ
      ks = kind_in h kind_point ∷ []

      abbrev now : Now
      now = more_points d.now

      abbrev st' : State
      st' = successive (with_records ks s) h fs n (ps ++ p ∷ [])

      abbrev kind : ℕ
      kind = 17 + home_more h

      abbrev made : List ℤ
      made = point_record kind (home_owner s h) (home_volume s h) p

      -- its record: as the code has it, and as the state says
      point-is : point_put d.now (chain_kind d.now.layered) (point_table_of d.now.layered) w j v (part_at 32 recs₀) ≡ made
      point-is =
          ap (λ (b : Bool). point_put d.now (chain_kind b) (point_table_of b) w j v (part_at 32 recs₀)) layered
          ∙ ap (λ (m : ℕ). point_put d.now m (point_table_of (is_layer h)) w j v (part_at 32 recs₀)) (chain-kind h)
          ∙ point-put (is_layer h) (known_of s) (length ps) l.form j v a d.now w kind (home_owner s h) (home_volume s h) l.line (part_at 32 recs₀)
          (ap (take 32) (drop-drop 32 32 d.scratch ∙ z.scratch.rest)) (home-owner spool k d.now d.marks d.inner s h inc.home)
          (x.volume ∙ home-volume spool k d.now d.marks d.inner s h inc.home) x.line

      parts : Pointed recs₁ (figure_open st') made
      parts =
          subst (λ (r : List ℤ). Pointed r (figure_open st') made) (sym (q ∙ ap (λ (u : List ℤ). chain_typed d.now (with_part 32 u recs₀)) point-is))
          (pointed s ks h fs n kind (home_owner s h) (home_volume s h) p recs₀ recs-long ps d.now.points inc.points z.scratch.figure)

      on-entry : Out (S.Go now)
      on-entry =
          goes_filling c spool k FileHere own l to st d₁ now st' (ap (acted _ _ _ _) a) 64 d.now.records (completed-line d.now now 9 64 z.block.0 refl z.block.0 refl)
          (number_same d.now now own refl) 1 refl refl
          (point-fills c s h fs n ps p d.now.records y.size t₁ (chain-point d.scratch z.lengths.scratch recs₁ parts.long ∙ parts.behind))
          (stands_on c spool k FileHere d at to st st' z now d.marks d.inner (with_part 64 empty_record t₁) (same-sight (kind_in h kind_point) s h fs n ps (ps ++ p ∷ [])) z.lengths.marks z.lengths.inner
          (point-cleared s ks h fs n (ps ++ p ∷ []) t₁ (chain-long d.scratch z.lengths.scratch recs₁ parts.long)
          (chain-own d.scratch z.lengths.scratch recs₁ parts.long ∙ z.scratch.own) (chain-figure-part d.scratch z.lengths.scratch recs₁ parts.long ∙ parts.chain))
          (omega (arith, z.counted, later)) (omega (arith, z.named, later)) (omega (arith, z.numbered, later)) (
            z.block.0,
            record {
              home = home-on spool k d.now now d.marks d.inner d.inner s ks h refl refl inc.home;
              figures = inc.figures;
              points = ap (λ (m : ℕ). m + 1) inc.points ∙ sym (length-append ps (p ∷ []));
              few = omega (arith, point-few (is_layer h) (known_of s) (length ps) l.form j v a, length-append ps (p ∷ []));
            },
          ))

    on-begin : (i j : ℕ) (v : Value) → did ≡ begin i j v → Out (S.Stop 5)
    on-begin i j v a = clash (ap is_begin a) (no-begin (known_of s) rows (digits 0 0) (rows_at_limit (length ps) rows) l.form (plain-points (is_layer h)))

    on-refuse : (m : ℕ) → did ≡ refuse m → Out (S.Stop m)
    on-refuse m a = ap (acted _ _ _ _) a

    -- its end
    on-shut : did ≡ shut → ltb d.now.points least_points ≡ false → recs₁ ≡ chain_closed d.now recs₀ → Out (S.Go (figure_done d.now))
    on-shut a b q =
        let now : Now = figure_done d.now in
        let st' : State = figures s h (fs ++ chain n ps ∷ []) in
        let many : 3 ≤ length ps = omega (arith, ltb-false d.now.points 3 b, inc.points) in
        let closed : List ℤ = set (part_at 32 d.scratch) 5 (pos (length ps)) in
        let put : t₁ ≡ with_part 32 closed d.scratch =
        ap (λ (u : List ℤ). take 32 d.scratch ++ u) (q ∙ ap (λ (m : ℕ). set recs₀ 5 (pos m)) inc.points) ∙ counted-own d.scratch (pos (length ps)) z.lengths.scratch in
        let long : length closed ≡ 32 = length-set (part_at 32 d.scratch) 5 (pos (length ps)) ∙ part-long 32 d.scratch (omega (arith, z.lengths.scratch)) in
        goes_filling c spool k FileHere own l to st d₁ now st' (ap (acted _ _ _ _) a ∙ ap (λ (t : Bool). unless t 8 (got st')) (le-leb 3 (length ps) many)) 32 (d.now.records - (length ps + 1))
        (completed-by d.now now 9 8 z.block.0 refl) (number_by d.now now own 9 8 z.block.0 refl ∙ ap (λ (m : ℕ). d.now.records - (m + 1)) inc.points) 0 (omega arith) (omega arith)
        (chain-fills c s h fs n ps d.now.records y.size d.scratch t₁ z.scratch (ap (part_at 32) put ∙ line-there d.scratch closed st long z.scratch))
        (stands_on c spool k FileHere d at to st st' z now d.marks d.inner (with_part 32 empty_record t₁) (closed-sight s h fs n ps) z.lengths.marks z.lengths.inner
        (subst (λ (t : List ℤ). Scratch (with_part 32 empty_record t) st') (sym put) (chain-cleared s h fs n ps d.scratch closed long z.scratch))
        (omega (arith, z.counted, x.bytes, length-append fs (chain n ps ∷ []))) (omega (arith, z.named, later)) (omega (arith, z.numbered, later))
        (refl, home_stays spool k d.now now d.marks d.inner d.inner s h refl refl inc.home, ap (λ (m : ℕ). m + 1) inc.figures ∙ sym (length-append fs (chain n ps ∷ []))))

    -- its end, where there are too few points
    on-few : did ≡ shut → ltb d.now.points least_points ≡ true → Out (S.Stop 8)
    on-few a b =
        ap (acted _ _ _ _) a
        ∙ ap (λ (t : Bool). unless t 8 (got (figures s h (fs ++ chain n ps ∷ [])))) (lt-leb 3 (length ps) (omega (arith, ltb-true d.now.points 3 b, inc.points)))

    on-end : did ≡ shut → (b : Bool) → ltb d.now.points least_points ≡ b → (ltb d.now.points least_points ≡ false → recs₁ ≡ chain_closed d.now recs₀)
        → Out (cond b (S.Stop 8) (S.Go (figure_done d.now)))
    on-end a true b q = on-few a b
    on-end a false b q = on-shut a b (q b)

    by-act : (f : Act) → did ≡ f → ChainRecords d.now w recs₀ recs₁ f → Out (chain_step d.now f)
    by-act stay a q = on-stay a q
    by-act (entry j v) a q = on-entry j v a q
    by-act (begin i j v) a q = on-begin i j v a
    by-act shut a q = on-end a (ltb d.now.points least_points) refl q
    by-act (refuse m) a q = on-refuse m a

    pub chain-line : (r : Step) → ChainLine code_act d.now w recs₀ recs₁ r → Out r
    chain-line r f = subst Out (sym (f.answer ∙ ap (chain_step d.now) chain-act)) (by-act did refl (subst (ChainRecords d.now w recs₀ recs₁) chain-act f.records))
