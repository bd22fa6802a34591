-- A line in SYMBOL_DEFINE: from the code's answer to the step that the definitions make.
use Rattle.std.specs.Prelude.{None}
use Prim.Native.Nat.{ℕ, zero, suc, ◌+◌, ◌≤◌, ◌<◌}
use mathlib.Core.Bool.{Bool, true, false, cond, ◌||◌, not}
use mathlib.Core.List.{List, [], ◌∷◌}
use mathlib.Core.Path.{◌≡◌, refl, sym, ◌∙◌, ap, subst}
use native.Mathlib.Omega.{arith}
use lib.Dec.{eqb}
use lib.IntN.{ℤ}
use lib.ListN.{length, get_or, take, replicate, length-replicate}
use lib.Seq.{length-take-le}
use Rattle.rules.specs.declared.Class.{Class}
use Rattle.rules.specs.declared.LineForm.{LineForm}
use Rattle.rules.specs.Base.{is_nil}
use Rattle.rules.specs.RefusalNumbers.{got, unless}
use Rattle.rules.specs.RangeClass.{digits_of}
use Rattle.rules.specs.Lines.{form_in}
use Rattle.rules.specs.Values.{Known, Value}
use Rattle.rules.specs.Rows.{Rule, Held, blank, rows_there, Act, stay, entry, begin, shut, refuse, act}
use Rattle.rules.specs.Blocks.{defines_table, symbol_table}
use Rattle.rules.specs.Sets.{Symbol, Contents, Set, known_of, define_range, with_records}
use Rattle.rules.specs.Machine.{Line, State, top, defines, symbol, set_of, new_name, new_symbol, unlimited}
use Rattle.rules.specs.LineByLine.{step_in}
use Rattle.rules.specs.RecordTable.{rule_at, start, kind_symbol}
use Rattle.rules.proofs.Chains.{clash}
use Rattle.rules.proofs.Rows.{row_at, row_below}
use Rattle.tables.specs.Tables.{table_of}
use Rattle.entries.specs.Names.{known_in}
use Rattle.account.specs.declared.Now.{Now}
use Rattle.account.specs.declared.Where.{Where}
use Rattle.account.specs.declared.Step.{Step}
use Rattle.account.specs.declared.Step.TheVariants as S
use Rattle.account.specs.declared.Complete.TheVariants as C
use Rattle.account.specs.Records.{part_at, with_part}
use Rattle.account.specs.Putting.{completed}
use Rattle.account.specs.Account.{at_block, head_at}
use Rattle.standing.specs.SoFar.{volume_of}
use Rattle.standing.specs.Kept.{Scratch, Begins, Enters}
use Rattle.standing.specs.Standing.{Desk, open_figures, name_bytes, serial_bytes, Inside, First, InSymbol, CharsHere, is_text, Stands, LineHere, Counted, StepOut, symbol_bytes, form_size}
use Rattle.account.specs.SymbolLines.{non_in, non_read, symbol_opened, open_symbol, close_defines, defines_step, SymbolBegun, Untouched, OpenedOr, DefinesRecord, DefinesLine}
use Rattle.standing.proofs.Openers.{plain_kind}
use Rattle.standing.proofs.LineOrigins.{From, begin-from}
use Rattle.standing.proofs.LineSizes.{begin-size}
use Rattle.standing.proofs.LaidTables.{with-back}
use Rattle.standing.proofs.HeadRecords.{head-put}
use Rattle.standing.proofs.Standings.{sight, desk_with, stands_on, known, nil-count}
use Rattle.standing.proofs.Completing.{completed-by, completed-none, goes_entering, goes-opening}
use Rattle.standing.proofs.OpenersKept.{symbol-opens}
use Rattle.standing.proofs.EntriesKept.{stays, non-enters, defines-close}
use Rattle.standing.proofs.RowOpeners.{begin-row}
use Rattle.standing.proofs.ClosedActs.{acted}

-- ── what is computed of the tables ──
defines-rows : table_of 8 ≡ defines_table
unfolding table_of
defines-rows = refl

blank-bytes : (line : ℕ) → symbol_bytes (new_symbol line) ≡ 12
unfolding symbol_table
blank-bytes line = refl

blank-slots : length (blank symbol_table) ≡ 4
unfolding symbol_table
blank-slots = refl

blank-marks : rows_there (blank symbol_table) ≡ replicate 4 false
unfolding symbol_table
blank-marks = refl

blank-new : (s : Set) (line : ℕ) → new_name s (new_symbol line) ≡ true
unfolding symbol_table
blank-new s line = refl

blank-name : get_or (blank symbol_table) 0 None ≡ None
unfolding symbol_table
blank-name = refl

two-rows : length defines_table ≡ 2
unfolding defines_table
two-rows = refl

-- "E_symbol" has eight bytes
opener-key : (j : ℕ) → j < 2 → plain_kind (rule_at defines_table j).holds ≡ false → length (rule_at defines_table j).key ≡ 8
unfolding defines_table
opener-key zero h e = clash refl e
opener-key (suc zero) h e = refl
opener-key (suc (suc j)) h e = absurd (omega (arith, h))

-- ── counts and marks ──
non_in_lem : (n : Now) (b : Bool) → n.part ≡ cond b 1 0 → non_in n ≡ b
non_in_lem n true e = ap (λ (m : ℕ). not (eqb m 0)) e
non_in_lem n false e = ap (λ (m : ℕ). not (eqb m 0)) e

volume-here : (k : ℕ) (s : Set) → First k s → k ≡ volume_of s
volume-here k s f = f.volume ∙ go s.volumes f.first
  where
    go : (vs : List Contents) → is_nil vs ≡ true → 1 ≡ suc (length vs)
    go [] e = refl
    go (v ∷ vs) e = clash e refl

module _ (c : Class) (spool : List ℕ) (k : ℕ) (FileHere : Desk → Set → ℕ → Held → ℕ → Type 0) (d : Desk) (at to own : ℕ) (l : Line) (w : Where) (form : LineForm)
    (x : LineHere spool k at to form w l) (s : Set) (b : Bool) (z : Stands c spool k d (FileHere d) at (defines s b)) (y : Counted c own d (defines s b)) where
  abbrev st : State
  st = defines s b

  abbrev did : Act
  did = act (known_of s) defines_table (digits_of (define_range s)) (b ∷ false ∷ []) l.form

  -- the act that the code goes by
  abbrev pub defines_act : Act
  defines_act =
      act (known_in spool (take (get_or d.tally 9 0) d.symbols) (take (get_or d.tally 10 0) d.layers)) (table_of 8) (digits_of (get_or d.tally 2 0)) (non_in d.now ∷ false ∷ [])
      (form_in spool form)

  -- the names that are lent
  abbrev pub names_lent : ℕ
  names_lent = length (take (get_or d.tally 9 0) d.symbols)

  first : First k s
  first = z.block.2

  non : non_in d.now ≡ b
  non = non_in_lem d.now b z.block.1

  defines-act : defines_act ≡ did
  defines-act =
      ap (λ (m : Known). act m (table_of 8) (digits_of (get_or d.tally 2 0)) (non_in d.now ∷ false ∷ []) (form_in spool form)) (known c spool k FileHere d at to st st z refl)
      ∙ ap (λ (t : List Rule). act (known_of s) t (digits_of (get_or d.tally 2 0)) (non_in d.now ∷ false ∷ []) (form_in spool form)) defines-rows
      ∙ ap (λ (t : List ℕ). act (known_of s) defines_table (digits_of (get_or t 2 0)) (non_in d.now ∷ false ∷ []) (form_in spool form)) z.tally
      ∙ ap (λ (y : Bool). act (known_of s) defines_table (digits_of (define_range s)) (y ∷ false ∷ []) (form_in spool form)) non
      ∙ ap (act (known_of s) defines_table (digits_of (define_range s)) (b ∷ false ∷ [])) (sym x.is)

  counted : names_lent ≡ length s.symbols
  counted =
      let a : get_or d.tally 9 0 ≡ length s.symbols = ap (λ (t : List ℕ). get_or t 9 0) z.tally in
      length-take-le (get_or d.tally 9 0) d.symbols (omega (arith, a, z.lengths.symbols, z.named, x.bytes, x.most)) ∙ a

  none_yet : eqb names_lent 0 ≡ is_nil s.symbols
  none_yet = ap (λ (m : ℕ). eqb m 0) counted ∙ nil-count s.symbols

  later : at ≤ to
  later = omega (arith, x.bytes)

  -- m₁, rec₁: the marks and the lent record on return
  module _ (m₁ : List Bool) (rec₁ : List ℤ) where
    abbrev t₁ : List ℤ
    t₁ = with_part 0 rec₁ d.scratch

    abbrev desk₁ : Desk
    desk₁ = desk_with d d.now m₁ d.inner t₁

    abbrev Out : Step → Type 0
    Out r = StepOut c spool k FileHere own l to st desk₁ r

    abbrev Same : Type 0
    Same = Untouched d.marks m₁ (part_at 0 d.scratch) rec₁

    -- nothing but what is open, and the place in the spool
    kept : (st' : State) (n : Now) → step_in (unlimited c) l st ≡ got st' → completed d.now n ≡ C.Nothing → n.records ≡ d.now.records → (set_of st').taken ≡ s.taken → sight st ≡ sight st' → Same
        → Enters c st st' d.scratch → open_figures st' ≡ 0 → name_bytes st' ≡ 0 → serial_bytes st' ≡ 3
        → Inside c spool k (desk_with d n m₁ d.inner t₁) (FileHere (desk_with d n m₁ d.inner t₁)) st'
        → Out (S.Go n)
    kept st' n step done records taken v q entered a g h i =
        goes_entering c spool k FileHere own l to st desk₁ n st' step done records taken entered.same
        (stands_on c spool k FileHere d at to st st' z n m₁ d.inner t₁ v (ap length q.marks ∙ z.lengths.marks) z.lengths.inner
        (subst (λ (t : List ℤ). Scratch t st') (sym (with-back 0 rec₁ d.scratch q.rec)) entered.scratch)
        (omega (arith, z.counted, later, a)) (omega (arith, z.named, later, g)) (omega (arith, z.numbered, later, h)) i)

    on-stay : did ≡ stay → Same → Out (S.Go d.now)
    on-stay a q =
        kept st d.now (ap (acted _ _ _ _) a) (completed-none d.now d.now refl refl) refl refl refl q (stays c st d.scratch z.scratch) refl refl refl z.block

    -- `NON=`
    on-entry : (j : ℕ) (v : Value) → did ≡ entry j v → Same → Out (non_read d.now names_lent)
    on-entry j v a q = go (is_nil s.symbols) (ap (acted _ _ _ _) a) none_yet
      where
        go : (y : Bool) → step_in (unlimited c) l st ≡ unless y 6 (got (defines s true)) → eqb names_lent 0 ≡ y → Out (non_read d.now names_lent)
        go true p h =
            subst Out (ap (λ (y : Bool). cond y (S.Go (at_block d.now 4 1)) (S.Stop 6)) (sym h))
            (kept (defines s true) (at_block d.now 4 1) p (completed-none d.now (at_block d.now 4 1) z.block.0 refl) refl refl refl q (non-enters c s b true d.scratch z.scratch)
            refl refl refl (refl, refl, first))
        go false p h = subst Out (ap (λ (y : Bool). cond y (S.Go (at_block d.now 4 1)) (S.Stop 6)) (sym h)) p

    -- the block closes
    on-shut : did ≡ shut → Same → Out (close_defines d.now names_lent)
    on-shut a q = go (b || not (is_nil s.symbols)) (ap (acted _ _ _ _) a) (ap (λ (y : Bool). y || not (eqb names_lent 0)) non ∙ ap (λ (y : Bool). b || not y) none_yet)
      where
        go : (y : Bool) → step_in (unlimited c) l st ≡ unless y 8 (got (top s 3)) → (non_in d.now || not (eqb names_lent 0)) ≡ y → Out (close_defines d.now names_lent)
        go true p h =
            subst Out (ap (λ (y : Bool). cond y (S.Go (at_block d.now 0 3)) (S.Stop 8)) (sym h))
            (kept (top s 3) (at_block d.now 0 3) p (completed-by d.now (at_block d.now 0 3) 4 0 z.block.0 refl) refl refl refl q
            (defines-close c s b d.scratch first.first z.scratch) refl refl refl (refl, refl, (volume-here k s first, first.blocks)))
        go false p h = subst Out (ap (λ (y : Bool). cond y (S.Go (at_block d.now 0 3)) (S.Stop 8)) (sym h)) p

    on-refuse : (m : ℕ) → did ≡ refuse m → Out (S.Stop m)
    on-refuse m a = ap (acted _ _ _ _) a

    -- a symbol is begun
    module _ (i j : ℕ) (v : Value) (a : did ≡ begin i j v) where
      from : From (known_of s) defines_table (digits_of (define_range s)) (b ∷ false ∷ []) l.form j (begin i j v)
      from = begin-from (known_of s) defines_table (digits_of (define_range s)) (b ∷ false ∷ []) l.form i j v a

      -- `E_symbol:{` and the line's end
      long : at + 12 ≤ to
      long =
          let r : length (rule_at defines_table j).key + 2 ≤ form_size l.form =
          subst (λ (y : Rule). length y.key + 2 ≤ form_size l.form) (sym (row_at from.row _))
          (begin-size (known_of s) defines_table (digits_of (define_range s)) (b ∷ false ∷ []) l.form i j v from) in
          omega (arith, x.bytes, opener-key j (omega (arith, row_below from.row, two-rows)) (begin-row (known_of s) defines_table (digits_of (define_range s)) (b ∷ false ∷ []) l.form j i v from).0, r)

      abbrev y₀ : Symbol
      y₀ = new_symbol l.line

      abbrev st' : State
      st' = symbol (with_records (kind_symbol ∷ []) s) y₀

      step : step_in (unlimited c) l st ≡ unless (not b) 6 (got st')
      step = ap (acted _ _ _ _) a

      module _ (q : SymbolBegun names_lent w d.marks m₁ (part_at 0 d.scratch) rec₁) where
        abbrev n : Now
        n = symbol_opened d.now names_lent

        made : rec₁ ≡ start 4 (length s.symbols) 1 l.line
        made =
            q.rec ∙ ap (λ (m : ℕ). head_at 0 4 m w (part_at 0 d.scratch)) counted
            ∙ head-put 4 (length s.symbols) 1 l.line w (part_at 0 d.scratch) z.scratch.own (x.volume ∙ first.volume) x.line

        begun : Begins c st st' 1 t₁
        begun =
            subst (λ (r : List ℤ). Begins c st st' 1 (with_part 0 r d.scratch)) (sym made) (symbol-opens c s b l.line d.scratch z.scratch)

        opened : InSymbol spool k n m₁ d.inner (with_records (kind_symbol ∷ []) s) y₀
        opened = record {
          phase = record { volume = first.volume; first = first.first; blocks = first.blocks };
          owner = counted;
          slots = blank-slots;
          marked = ap (take 4) q.marks ∙ ap (λ (m : ℕ). take 4 (replicate m false)) z.lengths.marks ∙ sym blank-marks;
          fresh = blank-new s l.line;
          name = subst (CharsHere spool) (sym blank-name) tt;
          is-text = ap is_text blank-name;
          element-first = λ h. (refl, λ g. refl);
          hide-first = λ h. refl;
        }

        on_open : step_in (unlimited c) l st ≡ got st' → Out (S.Go n)
        on_open p =
            goes-opening c spool k FileHere own l to st desk₁ n st' p (completed-by d.now n 4 5 z.block.0 refl) 1 refl refl begun.opens
            (stands_on c spool k FileHere d at to st st' z n m₁ d.inner t₁ refl
            (ap length q.marks ∙ length-replicate (length d.marks) false ∙ z.lengths.marks) z.lengths.inner begun.scratch
            (omega (arith, z.counted, later)) (omega (arith, z.named, long, blank-bytes l.line)) (omega (arith, z.numbered, later)) (refl, opened))

      on-begin : OpenedOr (non_in d.now) (SymbolBegun names_lent w d.marks m₁ (part_at 0 d.scratch) rec₁) → Out (open_symbol d.now names_lent)
      on-begin o = go (non_in d.now) refl o
        where
          does : (y : Bool) → non_in d.now ≡ y → step_in (unlimited c) l st ≡ unless (not y) 6 (got st')
          does y p = step ∙ ap (λ (g : Bool). unless (not g) 6 (got st')) (sym non ∙ p)

          go : (y : Bool) → non_in d.now ≡ y → OpenedOr y (SymbolBegun names_lent w d.marks m₁ (part_at 0 d.scratch) rec₁)
              → Out (cond y (S.Stop 6) (S.Go (symbol_opened d.now names_lent)))
          go true p o = does true p
          go false p o = on_open o (does false p)

  pub defines-line : (m₁ : List Bool) (rec₁ : List ℤ) (r : Step) → DefinesLine defines_act d.now names_lent w d.marks m₁ (part_at 0 d.scratch) rec₁ r
      → StepOut c spool k FileHere own l to (defines s b) (desk_with d d.now m₁ d.inner (with_part 0 rec₁ d.scratch)) r
  defines-line m₁ rec₁ r h =
      subst (Out m₁ rec₁) (sym (h.answer ∙ ap (defines_step d.now names_lent) defines-act))
      (go did refl (subst (DefinesRecord d.now names_lent w d.marks m₁ (part_at 0 d.scratch) rec₁) defines-act h.rec))
    where
      go : (a : Act) → did ≡ a → DefinesRecord d.now names_lent w d.marks m₁ (part_at 0 d.scratch) rec₁ a → Out m₁ rec₁ (defines_step d.now names_lent a)
      go stay p q = on-stay m₁ rec₁ p q
      go (entry j v) p q = on-entry m₁ rec₁ j v p q
      go (begin i j v) p q = on-begin m₁ rec₁ i j v p q
      go shut p q = on-shut m₁ rec₁ p q
      go (refuse n) p q = on-refuse m₁ rec₁ n p
