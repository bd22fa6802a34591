-- A line in a symbol's `hide`: from the code's answer to the step that the definitions make.
use Prim.Native.Nat.{ℕ, ◌+◌, ◌≤◌}
use mathlib.Core.Bool.{Bool, false, cond, not}
use mathlib.Core.List.{List, [], ◌∷◌, ◌++◌}
use mathlib.Core.Path.{◌≡◌, refl, sym, ◌∙◌, ap, subst}
use native.Mathlib.Omega.{arith}
use lib.IntN.{ℤ}
use lib.ListN.{length, get_or, take, length-append}
use Rattle.rules.specs.declared.Class.{Class}
use Rattle.rules.specs.declared.LineForm.{LineForm}
use Rattle.rules.specs.RangeClass.{digits}
use Rattle.rules.specs.Lines.{form_in}
use Rattle.rules.specs.Values.{Known, Value}
use Rattle.rules.specs.Rows.{Rule, Held, rows_at_limit, Act, stay, entry, begin, shut, refuse, act}
use Rattle.rules.specs.Figures.{point_table}
use Rattle.rules.specs.Sets.{Point, Symbol, Set, known_of, with_records, symbol_hidden}
use Rattle.rules.specs.Machine.{Line, State, symbol, hide, point_at}
use Rattle.rules.specs.RecordTable.{kind_hidden}
use Rattle.rules.proofs.Chains.{clash}
use Rattle.tables.specs.Tables.{table_of}
use Rattle.account.specs.declared.Now.{Now}
use Rattle.account.specs.declared.Where.{Where}
use Rattle.account.specs.declared.Step.{Step}
use Rattle.account.specs.declared.Step.TheVariants as S
use Rattle.account.specs.Records.{part_at, with_part}
use Rattle.account.specs.Account.{at_block}
use Rattle.standing.specs.SoFar.{empty_record}
use Rattle.standing.specs.Kept.{Scratch, Enters}
use Rattle.standing.specs.Standing.{Desk, InSymbol, InHide, Stands, Counted, LineHere, StepOut, form_size}
use Rattle.account.specs.Points.{point_act, more_points, point_put, PointRecord, hide_step, HideLine}
use Rattle.standing.proofs.Openers.{is_begin, no-begin}
use Rattle.standing.proofs.LineSizes.{shut-close}
use Rattle.standing.proofs.LaidTables.{with-back}
use Rattle.standing.proofs.Completing.{goes-still, goes_entering, goes_filling, completed-by, completed-line, number_same}
use Rattle.standing.proofs.LinesKept.{point_record, point-long, hidden-fills}
use Rattle.standing.proofs.EntriesKept.{hide-close}
use Rattle.standing.proofs.ClearedKept.{line-there, hidden-cleared}
use Rattle.standing.proofs.Standings.{desk_with, stands_on, known, stands-still}
use Rattle.standing.proofs.HomeFacts.{symbol-on}
use Rattle.standing.proofs.PointEntries.{point-rows, plain-points, point-few, point-put}
use Rattle.standing.proofs.ClosedActs.{acted}

module _ (c : Class) (spool : List ℕ) (k : ℕ) (FileHere : Desk → Set → ℕ → Held → ℕ → Type 0) (d : Desk) (at to own : ℕ) (l : Line) (w : Where) (form : LineForm)
    (x : LineHere spool k at to form w l) (s : Set) (v : Symbol) (ps : List Point) (z : Stands c spool k d (FileHere d) at (hide s v ps)) (y : Counted c own d (hide s v ps)) where
  abbrev st : State
  st = hide s v ps

  abbrev rows : List Rule
  rows = point_table false

  abbrev did : Act
  did = act (known_of s) rows (digits 0 0) (rows_at_limit (length ps) rows) l.form

  inh : InHide spool k d.now d.marks d.inner s v ps
  inh = z.block.1

  abbrev owner : ℕ
  owner = length s.symbols

  -- the act that the code goes by
  abbrev code_act : Act
  code_act = point_act 15 spool (take (get_or d.tally 9 0) d.symbols) (take (get_or d.tally 10 0) d.layers) d.now form

  hide-act : code_act ≡ did
  hide-act =
      ap (λ (m : Known). act m (table_of 15) (digits 0 0) (rows_at_limit d.now.points (table_of 15)) (form_in spool form)) (known c spool k FileHere d at to st st z refl)
      ∙ ap (λ (t : List Rule). act (known_of s) t (digits 0 0) (rows_at_limit d.now.points t) (form_in spool form)) (point-rows false)
      ∙ ap (λ (m : ℕ). act (known_of s) rows (digits 0 0) (rows_at_limit m rows) (form_in spool form)) inh.points
      ∙ ap (act (known_of s) rows (digits 0 0) (rows_at_limit (length ps) rows)) (sym x.is)

  later : at ≤ to
  later = omega (arith, x.bytes)

  -- rec₁: the lent record on return
  module _ (rec₁ : List ℤ) where
    abbrev t₁ : List ℤ
    t₁ = with_part 32 rec₁ d.scratch

    abbrev d₁ : Desk
    d₁ = desk_with d d.now d.marks d.inner t₁

    abbrev Out : Step → Type 0
    Out r = StepOut c spool k FileHere own l to st d₁ r

    -- nothing but the place in the spool
    on-stay : did ≡ stay → rec₁ ≡ part_at 32 d.scratch → Out (S.Go d.now)
    on-stay a q =
        goes-still c spool k FileHere own l to st d₁ d.now st (ap (acted _ _ _ _) a) refl refl refl refl
        (stands-still c spool k FileHere d at to st z later d.tally d.marks d.inner d.header t₁ refl refl refl refl (with-back 32 rec₁ d.scratch q))

    -- one more point
    module _ (j : ℕ) (p : Value) (a : did ≡ entry j p) (q : rec₁ ≡ point_put d.now 43 15 w j p (part_at 32 d.scratch)) where
      abbrev point : Point
      point = point_at l p

      abbrev n : Now
      n = more_points d.now

      abbrev st' : State
      st' = hide (with_records (kind_hidden ∷ []) s) v (ps ++ point ∷ [])

      made : rec₁ ≡ point_record kind_hidden owner 1 point
      made =
          q ∙ point-put false (known_of s) (length ps) l.form j p a d.now w 43 owner 1 l.line (part_at 32 d.scratch) z.scratch.figure inh.in-symbol.owner
          (x.volume ∙ inh.in-symbol.phase.volume) x.line

      long : length rec₁ ≡ 32
      long = ap length made ∙ point-long kind_hidden owner 1 point

      on-entry : Out (S.Go n)
      on-entry =
          goes_filling c spool k FileHere own l to st d₁ n st' (ap (acted _ _ _ _) a) 32 d.now.records (completed-line d.now n 6 32 z.block.0 refl z.block.0 refl)
          (number_same d.now n own refl) 1 refl refl (hidden-fills c s v ps point d.now.records y.size t₁ (line-there d.scratch rec₁ st long z.scratch ∙ made))
          (stands_on c spool k FileHere d at to st st' z n d.marks d.inner (with_part 32 empty_record t₁) refl z.lengths.marks z.lengths.inner
          (hidden-cleared s (kind_hidden ∷ []) v ps (ps ++ point ∷ []) d.scratch rec₁ long z.scratch)
          (omega (arith, z.counted, later)) (omega (arith, z.named, later)) (omega (arith, z.numbered, later)) (
            z.block.0,
            record {
              in-symbol = symbol-on spool k d.now n d.marks d.inner d.inner s (kind_hidden ∷ []) v refl inh.in-symbol;
              points = ap (λ (m : ℕ). m + 1) inh.points ∙ sym (length-append ps (point ∷ []));
              few = omega (arith, point-few false (known_of s) (length ps) l.form j p a, length-append ps (point ∷ []));
              hidden = inh.hidden;
              shown = inh.shown;
              ordered = inh.ordered;
              entered = inh.entered;
            },
          ))

    on-begin : (i j : ℕ) (p : Value) → did ≡ begin i j p → Out (S.Stop 5)
    on-begin i j p a = clash (ap is_begin a) (no-begin (known_of s) rows (digits 0 0) (rows_at_limit (length ps) rows) l.form (plain-points false))

    on-refuse : (m : ℕ) → did ≡ refuse m → Out (S.Stop m)
    on-refuse m a = ap (acted _ _ _ _) a

    -- its end: the symbol is open again
    abbrev closed : Symbol
    closed = symbol_hidden ps v

    in-closed : InSymbol spool k (at_block d.now 5 0) d.marks d.inner s closed
    in-closed =
        let i : InSymbol spool k d.now d.marks d.inner s v = inh.in-symbol in
        record {
          phase = i.phase;
          owner = i.owner;
          slots = i.slots;
          marked = i.marked;
          fresh = i.fresh;
          name = i.name;
          is-text = i.is-text;
          element-first = λ m. ((i.element-first m).0, λ f. clash (inh.ordered ∙ m) f);
          hide-first = λ m. clash m inh.entered;
        }

    on-shut : did ≡ shut → rec₁ ≡ part_at 32 d.scratch → Out (S.Go (at_block d.now 5 0))
    on-shut a q =
        let f : form_size l.form ≡ 1 = ap form_size (shut-close (known_of s) rows (digits 0 0) (rows_at_limit (length ps) rows) l.form a).0 in
        let bytes : ℕ → Bool → ℕ = λ m b. cond (not b) m 0 in
        let n : Now = at_block d.now 5 0 in
        let ends : Enters c st (symbol s closed) d.scratch = hide-close c s v d.scratch ps inh.hidden inh.shown z.scratch in
        goes_entering c spool k FileHere own l to st d₁ n (symbol s closed) (ap (acted _ _ _ _) a) (completed-by d.now n 6 5 z.block.0 refl) refl refl ends.same
        (stands_on c spool k FileHere d at to st (symbol s closed) z n d.marks d.inner t₁ refl z.lengths.marks z.lengths.inner
        (subst (λ (t : List ℤ). Scratch t (symbol s closed)) (sym (with-back 32 rec₁ d.scratch q)) ends.scratch)
        (omega (arith, z.counted, later)) (omega (arith, z.named, x.bytes, f, ap (bytes 8) inh.entered, ap (bytes 11) inh.entered)) (omega (arith, z.numbered, later)) (refl, in-closed))

    by-act : (f : Act) → did ≡ f → PointRecord d.now 43 15 w (part_at 32 d.scratch) rec₁ f → Out (hide_step d.now f)
    by-act stay a q = on-stay a q
    by-act (entry j p) a q = on-entry j p a q
    by-act (begin i j p) a q = on-begin i j p a
    by-act shut a q = on-shut a q
    by-act (refuse m) a q = on-refuse m a

    pub hide-line : (r : Step) → HideLine code_act d.now w (part_at 32 d.scratch) rec₁ r → Out r
    hide-line r f = subst Out (sym (f.answer ∙ ap (hide_step d.now) hide-act)) (by-act did refl (subst (PointRecord d.now 43 15 w (part_at 32 d.scratch) rec₁) hide-act f.rec))
