-- A line among the figures of a layer or of a symbol's `element`: from the code's answer to the step that the definitions make.
use Prim.Native.Nat.{ℕ, zero, suc, ◌+◌, ◌*◌, ◌≤◌, ◌<◌}
use mathlib.Core.Bool.{Bool, true, false, cond, ◌&&◌, ◌||◌, not}
use mathlib.Core.List.{List, [], ◌∷◌, ◌++◌, map}
use mathlib.Core.Path.{◌≡◌, refl, sym, ◌∙◌, ap, subst}
use native.Mathlib.Omega.{arith}
use borrow.Author.Tests.{eqb-true, eq-eqb, leb-true, not-true}
use lib.Dec.{eqb, leb}
use lib.IntN.{ℤ, pos}
use lib.ListN.{length, get_or, set, take, replicate, length-append, length-replicate}
use lib.Seq.{sets, length-sets}
use Rattle.rules.specs.declared.Class.{Class}
use Rattle.rules.specs.declared.LineForm.{LineForm}
use Rattle.rules.specs.Base.{all, flat, is_nil, has_number}
use Rattle.rules.specs.RefusalNumbers.{got, unless}
use Rattle.rules.specs.RangeClass.{digits_of, knows_wires}
use Rattle.rules.specs.Lines.{Rest, brace, form_in}
use Rattle.rules.specs.Values.{Known, Value, nums, nums_of}
use Rattle.rules.specs.Rows.{Rule, Held, blank, rows_there, rows_at_limit, Act, stay, entry, begin, shut, refuse, act, inner_of}
use Rattle.rules.specs.Blocks.{blank_held}
use Rattle.rules.specs.Figures.{text_table, placed_tables}
use Rattle.rules.specs.Sets.{Figure, plain, Symbol, Set, symbol_range, wire_range, range_of, known_of, with_records, symbol_figures, used_in}
use Rattle.rules.specs.Machine as M
use Rattle.rules.specs.Machine.{Line, Home, in_element, in_layer, is_layer, State, symbol, elements, figures, successive, texts, placing}
use Rattle.rules.specs.RecordTable.{numbers, rule_at, start, kind_line, kind_successive, kind_text, kind_placed, kind_wire, kind_wire_more, wire_start}
use Rattle.rules.specs.Machine.{symbol_block, kind_in, no_wire, begin_wire, set_of, unlimited}
use Rattle.rules.specs.LineByLine.{step_in}
use Rattle.rules.proofs.Chains.{clash, and_left, and_right, same-eq, or_left}
use Rattle.rules.proofs.Rows.{row_at, row-all, found-row}
use Rattle.tables.specs.Tables.{table_of}
use Rattle.entries.specs.Names.{known_in}
use Rattle.entries.specs.Acts.{put_line}
use Rattle.account.specs.declared.Now.{Now}
use Rattle.account.specs.declared.Where.{Where}
use Rattle.account.specs.declared.Step.{Step}
use Rattle.account.specs.declared.Step.TheVariants as S
use Rattle.account.specs.Placing.{fills}
use Rattle.account.specs.Records.{part_at, with_part}
use Rattle.account.specs.declared.Complete.TheVariants as C
use Rattle.account.specs.Account.{at_block, head_at, record_made}
use Rattle.account.specs.Putting.{completed}
use Rattle.account.specs.WireLines.{wire_begun, begun_step, begun_put}
use Rattle.standing.specs.SoFar.{volume_of, home_owner, home_volume, home_more, home_figure, empty_record}
use Rattle.standing.specs.Kept.{Scratch, Opens, Begins, Enters}
use Rattle.standing.specs.Reading.{tally_after}
use Rattle.account.specs.SerialNumbers.{bytes_lent}
use Rattle.standing.specs.Standing.{Numbers, Desk, InHome, InSymbol, Inside, Stands, Counted, LineHere, Goes, StepOut, form_size, rest_size, open_figures, name_bytes, serial_bytes}
use Rattle.account.specs.FigureLines.{home_table, home_rows, home_rule, line_kind, block_kind, more_figures, figure_opened, figures_closed, figure_step, FigureRecord, unmarked_if, MarksFor, FigureLine}
use Rattle.account.proofs.RowsTaken.{entry-taken}
use Rattle.standing.proofs.LineOrigins.{From, is_values, entry-from, begin-from, entry-nums}
use Rattle.standing.proofs.RowOpeners.{is_opens, entry-opens, begin-values, begin-opens}
use Rattle.standing.proofs.LineSizes.{shut-close}
use Rattle.standing.proofs.FigureRows.{home-rows, home-full, figure_row, values_row, block_row, most_block, figure-rows, opens_key, block-keys, line_made, line_record_lem}
use Rattle.standing.proofs.LaidTables.{with-back}
use Rattle.standing.proofs.Completing.{goes-still, goes_entering, goes-opening, goes_filling, completed-by, completed-line, number_same}
use Rattle.standing.proofs.OpenersKept.{head_of, chain-opens, text-opens, placed-opens}
use Rattle.standing.proofs.EntriesKept.{element-close, layer-close}
use Rattle.standing.proofs.ClosesKept.{line-fills}
use Rattle.standing.proofs.ClearedKept.{line-there, line-cleared}
use Rattle.standing.proofs.WireScratch.{scratch-wire, scratch-unread, wire-begun, none-scratch}
use Rattle.standing.proofs.WireKept.{wire-opens, unread-opens, wire-sight, unread-sight}
use Rattle.standing.proofs.Standings.{sight, desk_with, stands_on, known, desk_kept, lengths-kept, nil-count, stands-still}
use Rattle.standing.proofs.HomeFacts.{home-layered, home-owner, home-volume, home-on}
use Rattle.standing.proofs.SlotLengths.{length-line}
use Rattle.standing.proofs.Marks.{marks-length}
use Rattle.standing.proofs.HeadRecords.{line-put}
use Rattle.standing.proofs.BegunFigures.{plain_sight, chain-sight, text-sight, placed-sight, chain-kind, text-kind, empty-line, two-unmarked, two-slots, unmarked, blank-shaped, placed-bytes, wire-unmarked, wire-blank, wire-bytes}
use Rattle.standing.proofs.ClosedLayers.{with_closed, serials-closed, used-closed, elements-closed, tally-closed}
use Rattle.standing.proofs.ClosedActs.{acted}

or-second : (a b : Bool) → a ≡ false → (a || b) ≡ true → b ≡ true
or-second true b q e = clash refl q
or-second false b q e = e

-- ── the act that the code goes by ──
abbrev pub figure_act : List ℕ → Desk → LineForm → Act
figure_act spool d form =
    act (known_in spool (take (get_or d.tally 9 0) d.symbols) (take (get_or d.tally 10 0) d.layers)) (table_of (home_table d.now.layered (get_or d.tally 1 0) (get_or d.tally 12 0)))
    (digits_of (get_or d.tally 1 0)) (replicate (home_rows d.now.layered (get_or d.tally 12 0)) false) (form_in spool form)

-- ── the tally behind the line ──
abbrev pub desk_lent : Desk → List ℕ → List Bool → List Bool → List ℤ → Desk
desk_lent d tally marks inner t = desk_kept d d.now tally marks inner d.header t

module _ (c : Class) (spool : List ℕ) (k : ℕ) (FileHere : Desk → Set → ℕ → Held → ℕ → Type 0) (d : Desk) (at to own : ℕ) (l : Line) (w : Where) (form : LineForm)
    (x : LineHere spool k at to form w l) (s : Set) (fs : List Figure) where
  abbrev range : ℕ
  range = get_or d.tally 1 0

  abbrev wires : ℕ
  wires = get_or d.tally 12 0

  abbrev rec₀ : List ℤ
  rec₀ = part_at 32 d.scratch

  later : at ≤ to
  later = omega (arith, x.bytes)

  module _ (h : Home) (z : Stands c spool k d (FileHere d) at (figures s h fs)) where
    abbrev st : State
    st = figures s h fs

    abbrev rows : List Rule
    rows = M.home_table s h

    abbrev did : Act
    did = act (known_of s) rows (range_of s) (rows_at_limit 0 rows) l.form

    home : InHome spool k d.now d.marks d.inner s h
    home = z.block.1

    layered : d.now.layered ≡ is_layer h
    layered = home-layered spool k d.now d.marks d.inner s h home

    range-here : range ≡ symbol_range s
    range-here = ap (λ (t : List ℕ). get_or t 1 0) z.tally

    wires-here : wires ≡ wire_range s
    wires-here = ap (λ (t : List ℕ). get_or t 12 0) z.tally

    rows-here : table_of (home_table d.now.layered range wires) ≡ rows
    rows-here =
        ap (λ (y : Bool). table_of (home_table y range wires)) layered ∙ ap (λ (m : ℕ). table_of (home_table (is_layer h) m wires)) range-here
        ∙ ap (λ (m : ℕ). table_of (home_table (is_layer h) (symbol_range s) m)) wires-here ∙ home-rows s h

    figures-act : figure_act spool d form ≡ did
    figures-act =
        let f : List Bool = replicate (home_rows d.now.layered wires) false in
        ap (λ (m : Known). act m (table_of (home_table d.now.layered range wires)) (digits_of range) f (form_in spool form)) (known c spool k FileHere d at to st st z refl)
        ∙ ap (λ (t : List Rule). act (known_of s) t (digits_of range) f (form_in spool form)) rows-here
        ∙ ap (λ (m : ℕ). act (known_of s) rows (digits_of m) f (form_in spool form)) range-here
        ∙ ap (λ (y : Bool). act (known_of s) rows (range_of s) (replicate (home_rows y wires) false) (form_in spool form)) layered
        ∙ ap (λ (m : ℕ). act (known_of s) rows (range_of s) (replicate (home_rows (is_layer h) m) false) (form_in spool form)) wires-here
        ∙ ap (λ (y : List Bool). act (known_of s) rows (range_of s) y (form_in spool form)) (home-full s h)
        ∙ ap (act (known_of s) rows (range_of s) (rows_at_limit 0 rows)) (sym x.is)

    -- m₁, i₁, rec₁: the marks and the lent record on return
    module _ (m₁ i₁ : List Bool) (rec₁ : List ℤ) where
      abbrev t₁ : List ℤ
      t₁ = with_part 32 rec₁ d.scratch

      abbrev Lent : List Bool → List Bool → Step → Type 0
      Lent ms is r = StepOut c spool k FileHere own l to st (desk_with d d.now ms is t₁) r

      abbrev Out : Step → Type 0
      Out r = Lent m₁ i₁ r

      -- the marks as they were
      with-marks : (n : Now) → m₁ ≡ d.marks → i₁ ≡ d.inner → Lent d.marks d.inner (S.Go n) → Out (S.Go n)
      with-marks n qm qi o = subst (λ (y : List Bool). Lent y i₁ (S.Go n)) (sym qm) (subst (λ (y : List Bool). Lent d.marks y (S.Go n)) (sym qi) o)

      -- nothing but the place in the spool
      on-stay : did ≡ stay → rec₁ ≡ rec₀ → m₁ ≡ d.marks → i₁ ≡ d.inner → Out (S.Go d.now)
      on-stay a q qm qi =
          goes-still c spool k FileHere own l to st (desk_with d d.now m₁ i₁ t₁) d.now st (ap (acted _ _ _ _) a) refl refl refl refl
          (stands-still c spool k FileHere d at to st z later d.tally m₁ i₁ d.header t₁ refl qm qi refl (with-back 32 rec₁ d.scratch q))

      on-refuse : (m : ℕ) → did ≡ refuse m → Out (S.Stop m)
      on-refuse m a = ap (acted _ _ _ _) a

      -- ── the lent record, zeros before ──
      abbrev heading : ℕ → List ℤ
      heading kind = pos kind ∷ pos (home_owner s h) ∷ pos (home_volume s h) ∷ pos l.line ∷ []

      abbrev headed : ℕ → List ℤ → List ℤ
      headed kind r = sets r 0 (heading kind)

      put : (j : ℕ) (v : Value) (kind kind' : ℕ) → kind ≡ kind' → rec₁ ≡ record_made kind d.now w (home_rule d.now.layered range wires j) v rec₀
          → rec₁ ≡ headed kind' (put_line (rule_at rows j) 0 v empty_record)
      put j v kind kind' g q =
          q
          ∙ line-put d.now w kind (home_owner s h) (home_volume s h) l.line (home_rule d.now.layered range wires j) v rec₀ z.scratch.figure
          (home-owner spool k d.now d.marks d.inner s h home) (x.volume ∙ home-volume spool k d.now d.marks d.inner s h home) x.line
          ∙ ap (λ (y : List Rule). headed kind (put_line (rule_at y j) 0 v empty_record)) rows-here
          ∙ ap (λ (m : ℕ). headed m (put_line (rule_at rows j) 0 v empty_record)) g

      -- ── a figure on one line ──
      module _ (j : ℕ) (v : Value) (a : did ≡ entry j v) where
        from : From (known_of s) rows (range_of s) (rows_at_limit 0 rows) l.form j (entry j v)
        from = entry-from (known_of s) rows (range_of s) (rows_at_limit 0 rows) l.form j v a

        abbrev r : Rule
        r = from.rule

        has-values : values_row r ≡ true
        has-values =
            or_left (values_row r) (block_row (most_block h) r) (ap (λ (y : Bool). y && (leb 1 (inner_of r.holds) && leb (inner_of r.holds) (most_block h))) (entry-opens (known_of s) rows (range_of s) (rows_at_limit 0 rows) l.form j v from))
            (and_right (eqb r.state 0) _ (row-all (figure_row (most_block h)) from.row (figure-rows s h)))

        is-nums : v ≡ nums (nums_of v)
        is-nums =
            entry-nums (known_of s) rows (range_of s) (rows_at_limit 0 rows) l.form j v from (and_left (is_values r.holds) _ has-values) (not-true r.may (and_right (is_values r.holds) _ has-values))

        abbrev now-plain : Figure
        now-plain = plain l.line j (nums_of v)

        abbrev st' : State
        st' = figures (with_records (kind_in h (kind_line + j) ∷ []) s) h (fs ++ now-plain ∷ [])

        made-is : line_made s h l.line j (nums_of v) ∷ [] ≡ home_figure c s h now-plain
        made-is =
            line_record_lem c s h l.line j (nums_of v) (subst (λ (y : Rule). is_values y.holds ≡ true) (sym (row_at from.row _)) (and_left (is_values r.holds) _ has-values))
            (subst (λ (y : Value). fills (rule_at rows j).holds (numbers y) ≡ true) is-nums (entry-taken (known_of s) rows (range_of s) (rows_at_limit 0 rows) l.form j v a).fill)

        abbrev made : List ℤ
        made = line_made s h l.line j (nums_of v)

        on-entry : Counted c own d st → rec₁ ≡ record_made (line_kind d.now.layered j) d.now w (home_rule d.now.layered range wires j) v rec₀ → m₁ ≡ d.marks → i₁ ≡ d.inner
            → Out (S.Go (more_figures d.now))
        on-entry count q qm qi =
            let n : Now = more_figures d.now in
            let kind : ℕ = kind_in h (kind_line + j) in
            let p : rec₁ ≡ made =
            put j v (line_kind d.now.layered j) (line_kind (is_layer h) j) (ap (λ (y : Bool). line_kind y j) layered) q
            ∙ ap (λ (y : Value). headed (line_kind (is_layer h) j) (put_line (rule_at rows j) 0 y empty_record)) is-nums in
            let long : length rec₁ ≡ 32 =
            ap length p ∙ length-sets (put_line (rule_at rows j) 0 (nums (nums_of v)) empty_record) 0 (heading (line_kind (is_layer h) j)) ∙ length-line (rule_at rows j) 0 (nums (nums_of v)) empty_record in
            let there : part_at 32 t₁ ≡ rec₁ = line-there d.scratch rec₁ st long z.scratch in
            with-marks n qm qi
            (goes_filling c spool k FileHere own l to st (desk_with d d.now d.marks d.inner t₁) n st' (ap (acted _ _ _ _) a) 32 d.now.records
            (completed-line d.now n 8 32 z.block.0 refl z.block.0 refl) (number_same d.now n own refl) 1 refl refl
            (line-fills c s kind h fs now-plain d.now.records count.size t₁ (ap length there ∙ long) (sym made-is ∙ ap (λ (r : List ℤ). r ∷ []) (sym (there ∙ p))))
            (stands_on c spool k FileHere d at to st st' z n d.marks d.inner (with_part 32 empty_record t₁) (plain_sight kind s h fs l.line j (nums_of v)) z.lengths.marks z.lengths.inner
            (line-cleared s (kind ∷ []) h fs (fs ++ now-plain ∷ []) d.scratch rec₁ long z.scratch)
            (omega (arith, z.counted, x.bytes, length-append fs (now-plain ∷ []))) (omega (arith, z.named, later)) (omega (arith, z.numbered, later))
            (z.block.0, home-on spool k d.now n d.marks d.inner d.inner s (kind ∷ []) h refl refl home, ap (λ (m : ℕ). m + 1) z.block.2 ∙ sym (length-append fs (now-plain ∷ [])))))

      -- ── a figure that is a block ──
      module _ (i j : ℕ) (v : Value) (a : did ≡ begin i j v) where
        opened : From (known_of s) rows (range_of s) (rows_at_limit 0 rows) l.form j (begin i j v)
        opened = begin-from (known_of s) rows (range_of s) (rows_at_limit 0 rows) l.form i j v a

        abbrev q : Rule
        q = opened.rule

        in_rows : figure_row (most_block h) q ≡ true
        in_rows = row-all (figure_row (most_block h)) opened.row (figure-rows s h)

        is_block : block_row (most_block h) q ≡ true
        is_block =
            or-second (values_row q) (block_row (most_block h) q) (ap (λ (y : Bool). y && not q.may) (begin-values (known_of s) rows (range_of s) (rows_at_limit 0 rows) l.form j i v opened))
            (and_right (eqb q.state 0) _ in_rows)

        begun : (i ≡ inner_of q.holds) × (v ≡ nums []) × (opened.rest ≡ brace)
        begun = begin-opens (known_of s) rows (range_of s) (rows_at_limit 0 rows) l.form j i v opened (and_left (is_opens q.holds) _ is_block)

        from_one : 1 ≤ i
        from_one = omega (arith, begun.0, leb-true 1 (inner_of q.holds) (and_left (leb 1 (inner_of q.holds)) _ (and_right (is_opens q.holds) _ is_block)))

        at_most : i ≤ most_block h
        at_most =
            omega (arith, begun.0, leb-true (inner_of q.holds) (most_block h) (and_right (leb 1 (inner_of q.holds)) (leb (inner_of q.holds) (most_block h)) (and_right (is_opens q.holds) _ is_block)))

        -- the record has its head alone
        put-begun : (kind : ℕ) → block_kind (is_layer h) i ≡ kind → rec₁ ≡ record_made (block_kind d.now.layered i) d.now w (home_rule d.now.layered range wires j) v rec₀
            → rec₁ ≡ start kind (home_owner s h) (home_volume s h) l.line
        put-begun kind g y =
            let none-put : put_line (rule_at rows j) 0 v empty_record ≡ empty_record =
            ap (λ (o : Value). put_line (rule_at rows j) 0 o empty_record) begun.1
            ∙ empty-line (rule_at rows j) (ap (λ (o : Rule). o.state) (row_at opened.row _) ∙ eqb-true q.state 0 (and_left (eqb q.state 0) _ in_rows)) in
            put j v (block_kind d.now.layered i) kind (ap (λ (o : Bool). block_kind o i) layered ∙ g) y ∙ ap (headed kind) none-put

        -- it opened with `key:{`
        opener-size : form_size l.form ≡ length q.key + 2
        opener-size =
            ap form_size opened.form ∙ ap (λ (o : Rest). length opened.key + rest_size o) begun.2
            ∙ ap (λ (o : List ℕ). length o + 2) (same-eq opened.key q.key (found-row opened.key rows j q opened.place).1)

        -- its key's length
        key-long : (n : ℕ) → all (opens_key i n) rows ≡ true → length q.key ≡ n
        key-long n e =
            eqb-true (length q.key) n
            (or-second (not (eqb (inner_of q.holds) i)) (eqb (length q.key) n) (ap not (eq-eqb (inner_of q.holds) i (sym begun.0))) (row-all (opens_key i n) opened.row e))

      -- its head on the scratch
      on_scratch : (st' : State) (rec : List ℤ) → rec₁ ≡ rec → Scratch (with_part 32 rec d.scratch) st' → Scratch t₁ st'
      on_scratch st' rec q o = subst (λ (r : List ℤ). Scratch (with_part 32 r d.scratch) st') (sym q) o

      -- `successive`
      on_chain : (j : ℕ) (v : Value) → did ≡ begin 1 j v → rec₁ ≡ record_made (block_kind d.now.layered 1) d.now w (home_rule d.now.layered range wires j) v rec₀
          → m₁ ≡ d.marks → i₁ ≡ d.inner → Out (S.Go (figure_opened d.now 1))
      on_chain j v a q qm qi =
          let n : Now = figure_opened d.now 1 in
          let kind : ℕ = kind_in h kind_successive in
          let st' : State = successive (with_records (kind ∷ []) s) h fs l.line [] in
          let head : List ℤ = head_of s h kind_successive l.line in
          let o : Begins c st st' 1 (with_part 32 head d.scratch) = chain-opens c s h fs l.line d.scratch z.scratch in
          with-marks n qm qi
          (goes-opening c spool k FileHere own l to st (desk_with d d.now d.marks d.inner t₁) n st' (ap (acted _ _ _ _) a) (completed-by d.now n 8 9 z.block.0 refl) 1 refl refl o.opens
          (stands_on c spool k FileHere d at to st st' z n d.marks d.inner t₁ (chain-sight kind s h fs l.line) z.lengths.marks z.lengths.inner
          (on_scratch st' head (put-begun 1 j v a (14 + home_more h) (chain-kind h) q) o.scratch)
          (omega (arith, z.counted, later)) (omega (arith, z.named, later)) (omega (arith, z.numbered, later))
          (refl, record { home = home-on spool k d.now n d.marks d.inner d.inner s (kind ∷ []) h refl refl home; figures = z.block.2; points = refl; few = omega arith })))

      -- a text
      on-text : (j : ℕ) (v : Value) → did ≡ begin 2 j v → rec₁ ≡ record_made (block_kind d.now.layered 2) d.now w (home_rule d.now.layered range wires j) v rec₀
          → m₁ ≡ d.marks → i₁ ≡ replicate (length d.inner) false → Out (S.Go (figure_opened d.now 2))
      on-text j v a q qm qi =
          let n : Now = figure_opened d.now 2 in
          let kind : ℕ = kind_in h kind_text in
          let slots = blank (text_table (is_layer h) 4 12) in
          let st' : State = texts (with_records (kind ∷ []) s) h fs l.line slots in
          let head : List ℤ = head_of s h kind_text l.line in
          let o : Begins c st st' 1 (with_part 32 head d.scratch) = text-opens c s h fs l.line d.scratch z.scratch in
          let i : i₁ ≡ rows_there slots = qi ∙ two-unmarked (is_layer h) d.inner z.lengths.inner in
          subst (λ (y : List Bool). Lent y i₁ (S.Go n)) (sym qm)
          (goes-opening c spool k FileHere own l to st (desk_with d d.now d.marks i₁ t₁) n st' (ap (acted _ _ _ _) a) (completed-by d.now n 8 10 z.block.0 refl) 1 refl refl o.opens
          (stands_on c spool k FileHere d at to st st' z n d.marks i₁ t₁ (text-sight kind s h fs l.line) z.lengths.marks (ap length i ∙ marks-length slots ∙ two-slots (is_layer h))
          (on_scratch st' head (put-begun 2 j v a (15 + home_more h) (text-kind h) q) o.scratch)
          (omega (arith, z.counted, later)) (omega (arith, z.named, later)) (omega (arith, z.numbered, later))
          (refl, home-on spool k d.now n d.marks d.inner i₁ s (kind ∷ []) h refl refl home, z.block.2, two-slots (is_layer h), i)))

  -- ── in a layer ──
  module _ (m : ℕ) (z : Stands c spool k d (FileHere d) at (figures s (in_layer m) fs)) (m₁ i₁ : List Bool) (rec₁ : List ℤ) where
    abbrev h : Home
    h = in_layer m

    abbrev t : List ℤ
    t = with_part 32 rec₁ d.scratch

    -- a placed symbol
    on-placed : (j : ℕ) (v : Value) → did h z ≡ begin 3 j v → rec₁ ≡ record_made (block_kind d.now.layered 3) d.now w (home_rule d.now.layered range wires j) v rec₀
        → m₁ ≡ replicate (length d.marks) false → i₁ ≡ d.inner → Out h z m₁ i₁ rec₁ (S.Go (figure_opened d.now 3))
    on-placed j v a q qm qi =
        let n : Now = figure_opened d.now 3 in
        let held : Held = blank_held placed_tables in
        let st' : State = placing (with_records (kind_placed ∷ []) s) m fs l.line (symbol_block held) 0 in
        let head : List ℤ = start kind_placed m (home_volume s h) l.line in
        let o : Begins c (figures s h fs) st' 1 (with_part 32 head d.scratch) = placed-opens c s m fs l.line d.scratch z.scratch in
        subst (λ (y : List Bool). StepOut c spool k FileHere own l to (figures s h fs) (desk_with d d.now m₁ y t) (S.Go n)) (sym qi)
        (goes-opening c spool k FileHere own l to (figures s h fs) (desk_with d d.now m₁ d.inner t) n st' (ap (acted _ _ _ _) a) (completed-by d.now n 8 11 z.block.0 refl) 1 refl refl o.opens
        (stands_on c spool k FileHere d at to (figures s h fs) st' z n m₁ d.inner t (placed-sight kind_placed s m fs l.line) (ap length qm ∙ length-replicate (length d.marks) false ∙ z.lengths.marks) z.lengths.inner
        (on_scratch h z m₁ i₁ rec₁ st' head (put-begun h z m₁ i₁ rec₁ 3 j v a 16 refl q) o.scratch)
        (omega (arith, z.counted, later)) (omega (arith, z.named, later))
        (omega (arith, z.numbered, x.bytes, opener-size h z m₁ i₁ rec₁ 3 j v a, key-long h z m₁ i₁ rec₁ 3 j v a 8 (block-keys s h).0, placed-bytes (with_records (kind_placed ∷ []) s) m fs l.line)) (
          refl,
          record {
            home = home-on spool k d.now n d.marks d.inner d.inner s (kind_placed ∷ []) h refl refl z.block.1;
            figures = z.block.2;
            part = refl;
            parts = omega arith;
            shaped = blank-shaped;
            marked = ap (take 6) qm ∙ unmarked d.marks z.lengths.marks;
            inner = λ y. absurd (omega (arith, y));
            unopened = λ y. refl;
            opened = λ y. absurd (omega (arith, y));
          },
        )))

    -- a wire: its second record gets its head behind the line, and it is read or skipped whole
    abbrev begun_desk : Desk
    begun_desk = desk_with d d.now m₁ i₁ (head_at 64 kind_wire_more d.now.owner w t)

    module _ (j : ℕ) (v : Value) (a : did h z ≡ begin 4 j v) (q : rec₁ ≡ record_made (block_kind d.now.layered 4) d.now w (home_rule d.now.layered range wires j) v rec₀)
        (qm : m₁ ≡ replicate (length d.marks) false) (qi : i₁ ≡ d.inner) where
      abbrev opened-now : Now
      opened-now = figure_opened d.now 4

      abbrev ks : List ℕ
      ks = kind_wire ∷ kind_wire_more ∷ []

      -- what stands on the scratch then
      begun-scratch : head_at 64 kind_wire_more d.now.owner w t ≡ empty_record ++ wire_start m (volume_of s) l.line
      begun-scratch =
          wire-begun s m fs l.line d.scratch rec₁ z.scratch d.now.owner w (put-begun h z m₁ i₁ rec₁ 4 j v a 18 refl q)
          (home-owner spool k d.now d.marks d.inner s h z.block.1) (x.volume ∙ home-volume spool k d.now d.marks d.inner s h z.block.1) x.line

      -- st': the wire's state; n': what is open there
      on-begun : (st' : State) (n' : Now) → step_in (unlimited c) l (figures s h fs) ≡ got st' → completed d.now n' ≡ C.Nothing → n'.records ≡ d.now.records + 2
          → (set_of st').taken ≡ s.taken + 2 → Opens c (figures s h fs) st' 2 → sight (figures s h fs) ≡ sight st' → Scratch (empty_record ++ wire_start m (volume_of s) l.line) st'
          → open_figures st' ≡ length fs + 0 → name_bytes st' ≡ 0 → serial_bytes st' ≤ 13
          → Inside c spool k (desk_with d n' m₁ i₁ (head_at 64 kind_wire_more d.now.owner w t)) (FileHere (desk_with d n' m₁ i₁ (head_at 64 kind_wire_more d.now.owner w t))) st'
          → Goes c spool k FileHere own l to (figures s h fs) begun_desk n'
      on-begun st' n' step none_made taken_more taken opens seen begun-so few named numbered block =
          goes-opening c spool k FileHere own l to (figures s h fs) begun_desk n' st' step none_made 2 taken_more taken opens
          (stands_on c spool k FileHere d at to (figures s h fs) st' z n' m₁ i₁ (head_at 64 kind_wire_more d.now.owner w t) seen
          (ap length qm ∙ length-replicate (length d.marks) false ∙ z.lengths.marks) (ap length qi ∙ z.lengths.inner)
          (subst (λ (u : List ℤ). Scratch u st') (sym begun-scratch) begun-so)
          (omega (arith, z.counted, later, few)) (omega (arith, z.named, later, named))
          (omega (arith, z.numbered, x.bytes, opener-size h z m₁ i₁ rec₁ 4 j v a, key-long h z m₁ i₁ rec₁ 4 j v a 6 (block-keys s h).1, numbered)) block)

      abbrev Begun : Bool → Type 0
      Begun b =
          StepOut c spool k FileHere own l to (figures s h fs)
          (desk_lent d (tally_after d.tally (S.Go (cond b opened-now (at_block opened-now 12 2)))) m₁ i₁ (head_at 64 kind_wire_more d.now.owner w t))
          (S.Go (cond b opened-now (at_block opened-now 12 2)))

      step_is : (b : Bool) → knows_wires c ≡ b → step_in (unlimited c) l (figures s h fs) ≡ got (begin_wire b (with_records ks s) m fs l.line)
      step_is b e = ap (acted _ _ _ _) a ∙ ap (λ (y : Bool). got (begin_wire y (with_records ks s) m fs l.line)) e

      wire-home : (n' : Now) → n'.layered ≡ d.now.layered → n'.owner ≡ d.now.owner → InHome spool k n' m₁ i₁ (with_records ks s) h
      wire-home n' a b = home-on spool k d.now n' d.marks d.inner i₁ s ks h a b z.block.1

      on-wire : (b : Bool) → knows_wires c ≡ b → Begun b
      on-wire true e =
          on-begun (begin_wire true (with_records ks s) m fs l.line) opened-now (step_is true e) (completed-by d.now opened-now 8 12 z.block.0 refl) refl refl
          (wire-opens c s ks m fs l.line) (wire-sight ks s m fs l.line)
          (scratch-wire (with_records ks s) m fs l.line no_wire 0 (empty_record ++ wire_start m (volume_of s) l.line) (none-scratch s m l.line))
          refl refl (omega (arith, wire-bytes (with_records ks s) m fs l.line)) (
            refl,
            record {
              wire = record { home = wire-home opened-now refl refl; figures = z.block.2; part = refl; points = refl };
              parts = omega arith;
              slots = wire-blank.0;
              marked = ap (take 10) qm ∙ wire-unmarked d.marks z.lengths.marks;
              repeats = wire-blank.1;
              groups = refl;
              shut = λ y. refl;
              writes = λ y. absurd (omega (arith, y));
            },
          )
      on-wire false e =
          let n' : Now = at_block opened-now 12 2 in
          on-begun (begin_wire false (with_records ks s) m fs l.line) n' (step_is false e) (completed-by d.now n' 8 12 z.block.0 refl) refl refl
          (unread-opens c s ks m fs l.line) (unread-sight ks s m fs l.line 0) (scratch-unread (with_records ks s) m fs l.line 0) refl refl (omega arith)
          (refl, omega arith, record { home = wire-home n' refl refl; figures = z.block.2; part = refl; points = refl })

    -- its end
    on-layer-end : did h z ≡ shut → rec₁ ≡ rec₀ → m₁ ≡ d.marks → i₁ ≡ d.inner
        → StepOut c spool k FileHere own l to (figures s h fs) (desk_lent d (set d.tally 7 (get_or d.tally 7 0 + d.now.figures)) m₁ i₁ t) (S.Go (at_block d.now 7 0))
    on-layer-end a q qm qi =
        let n : Now = at_block d.now 7 0 in
        let tally₁ : List ℕ = set d.tally 7 (get_or d.tally 7 0 + d.now.figures) in
        let st' : State = elements (with_closed s m fs) in
        let back : t ≡ d.scratch = with-back 32 rec₁ d.scratch q in
        let ends : Enters c (figures s h fs) st' d.scratch = layer-close c s m fs d.scratch z.scratch in
        goes_entering c spool k FileHere own l to (figures s h fs) (desk_lent d tally₁ m₁ i₁ t) n st' (ap (acted _ _ _ _) a) (completed-by d.now n 8 7 z.block.0 refl) refl refl ends.same
        (record {
          lengths =
              lengths-kept d n tally₁ m₁ i₁ d.header t z.lengths (ap length qm ∙ z.lengths.marks) (ap length qi ∙ z.lengths.inner) z.lengths.header (ap length back ∙ z.lengths.scratch);
          scratch = subst (λ (u : List ℤ). Scratch u st') (sym back) ends.scratch;
          here = z.here;
          this = z.this;
          tally = tally-closed s m fs d.tally z.here d.now.figures z.block.2 z.tally;
          symbols = z.symbols;
          layers = z.layers;
          few-layers = z.few-layers;
          serials = subst (λ (y : List (List ℕ)). Numbers spool (take (length y) d.serials) y) (serials-closed s m fs) z.serials;
          used = λ y. subst (λ (ns : List ℕ). (j : ℕ) → j < 64 → get_or d.used j false ≡ has_number j ns) (used-closed s m fs) (z.used y);
          used_all = subst (λ (ns : List ℕ). (j : ℕ) → j < 64 → get_or d.used_all j false ≡ has_number j (flat (map used_in s.volumes) ++ ns)) (used-closed s m fs) z.used_all;
          counted = omega (arith, z.counted, elements-closed s m fs, later);
          named = omega (arith, z.named, later);
          numbered = subst (λ (ns : List (List ℕ)). 27 * length ns + 3 ≤ to + 3 + bytes_lent (take (length ns) d.serials)) (serials-closed s m fs) (omega (arith, z.numbered, later));
          block = (refl, z.block.1.0);
        })

  -- ── in a symbol's `element` ──
  module _ (y : Symbol) (z : Stands c spool k d (FileHere d) at (figures s (in_element y) fs)) (m₁ i₁ : List Bool) (rec₁ : List ℤ) where
    -- its end: the symbol is open again, with these figures
    on-element-end : did (in_element y) z ≡ shut → is_nil fs ≡ false → rec₁ ≡ rec₀ → m₁ ≡ d.marks → i₁ ≡ d.inner → Out (in_element y) z m₁ i₁ rec₁ (S.Go (at_block d.now 5 0))
    on-element-end a some-figure q qm qi =
        let n : Now = at_block d.now 5 0 in
        let t : List ℤ = with_part 32 rec₁ d.scratch in
        let st : State = figures s (in_element y) fs in
        let st' : State = symbol s (symbol_figures fs y) in
        let i : InSymbol spool k d.now d.marks d.inner s y = z.block.1.0 in
        let f : form_size l.form ≡ 1 = ap form_size (shut-close (known_of s) (rows (in_element y) z) (range_of s) (rows_at_limit 0 (rows (in_element y) z)) l.form a).0 in
        let bytes : ℕ → Bool → ℕ = λ m b. cond (not b) m 0 in
        let ends : Enters c st st' d.scratch = element-close c s y d.scratch fs z.block.1.2 z.block.1.3 z.scratch in
        with-marks (in_element y) z m₁ i₁ rec₁ n qm qi
        (goes_entering c spool k FileHere own l to st (desk_with d d.now d.marks d.inner t) n st' (ap (acted _ _ _ _) a ∙ ap (λ (o : Bool). unless (not o) 8 (got st')) some-figure)
        (completed-by d.now n 8 5 z.block.0 refl) refl refl ends.same
        (stands_on c spool k FileHere d at to st st' z n d.marks d.inner t refl z.lengths.marks z.lengths.inner
        (subst (λ (u : List ℤ). Scratch u st') (sym (with-back 32 rec₁ d.scratch q)) ends.scratch)
        (omega (arith, z.counted, later)) (omega (arith, z.named, x.bytes, f, ap (bytes 11) z.block.1.4, ap (bytes 14) z.block.1.4)) (omega (arith, z.numbered, later)) (
          refl,
          record {
            phase = i.phase;
            owner = i.owner;
            slots = i.slots;
            marked = i.marked;
            fresh = i.fresh;
            name = i.name;
            is-text = i.is-text;
            element-first = λ o. clash o z.block.1.4;
            hide-first = i.hide-first;
          },
        )))

    -- "`element` (one or more figures)"
    on-element-empty : did (in_element y) z ≡ shut → is_nil fs ≡ true → Out (in_element y) z m₁ i₁ rec₁ (S.Stop 8)
    on-element-empty a no-figure = ap (acted _ _ _ _) a ∙ ap (λ (o : Bool). unless (not o) 8 (got (symbol s (symbol_figures fs y)))) no-figure

  -- ── the line ──
  module _ (h : Home) (z : Stands c spool k d (FileHere d) at (figures s h fs)) (m₁ i₁ : List Bool) (rec₁ : List ℤ) where
    -- f: the step of the figures' own part of the line
    abbrev Tallied : Step → Type 0
    Tallied f =
        StepOut c spool k FileHere own l to (figures s h fs) (desk_lent d (tally_after d.tally (begun_step c f)) m₁ i₁ (begun_put w f (with_part 32 rec₁ d.scratch))) (begun_step c f)

    -- no layer closed, and no wire opened
    same-tally : (n : Now) → n.block ≡ 8 → Out h z m₁ i₁ rec₁ (S.Go n) → Tallied (S.Go n)
    same-tally n q o =
        let t : List ℤ = with_part 32 rec₁ d.scratch in
        let other : eqb n.block 12 ≡ false = ap (λ (m : ℕ). eqb m 12) q in
        let stays_open : eqb n.block 7 ≡ false = ap (λ (m : ℕ). eqb m 7) q in
        subst (λ (b : Bool). StepOut c spool k FileHere own l to (figures s h fs)
        (desk_lent d (tally_after d.tally (cond b (S.Go (wire_begun c n)) (S.Go n))) m₁ i₁ (cond b (head_at 64 kind_wire_more n.owner w t) t)) (cond b (S.Go (wire_begun c n)) (S.Go n))) (sym other)
        (subst (λ (b : Bool). StepOut c spool k FileHere own l to (figures s h fs) (desk_lent d (cond b (set d.tally 7 (get_or d.tally 7 0 + n.figures)) d.tally) m₁ i₁ t) (S.Go n)) (sym stays_open) o)

  on-end : (h : Home) (z : Stands c spool k d (FileHere d) at (figures s h fs)) (m₁ i₁ : List Bool) (rec₁ : List ℤ) → did h z ≡ shut → rec₁ ≡ rec₀ → m₁ ≡ d.marks → i₁ ≡ d.inner
      → Tallied h z m₁ i₁ rec₁ (figures_closed d.now)
  on-end (in_element y) z m₁ i₁ rec₁ a q qm qi =
      subst (λ (b : Bool). Tallied (in_element y) z m₁ i₁ rec₁ (cond b (S.Go (at_block d.now 7 0)) (cond (eqb d.now.figures 0) (S.Stop 8) (S.Go (at_block d.now 5 0))))) (sym (layered (in_element y) z))
      (go (eqb d.now.figures 0) (sym (nil-count fs) ∙ ap (λ (m : ℕ). eqb m 0) (sym z.block.2)))
    where
      go : (b : Bool) → is_nil fs ≡ b → Tallied (in_element y) z m₁ i₁ rec₁ (cond b (S.Stop 8) (S.Go (at_block d.now 5 0)))
      go true o = on-element-empty y z m₁ i₁ rec₁ a o
      go false o = on-element-end y z m₁ i₁ rec₁ a o q qm qi
  on-end (in_layer m) z m₁ i₁ rec₁ a q qm qi =
      subst (λ (b : Bool). Tallied (in_layer m) z m₁ i₁ rec₁ (cond b (S.Go (at_block d.now 7 0)) (cond (eqb d.now.figures 0) (S.Stop 8) (S.Go (at_block d.now 5 0))))) (sym (layered (in_layer m) z))
      (on-layer-end m z m₁ i₁ rec₁ a q qm qi)

  on_open : (h : Home) (z : Stands c spool k d (FileHere d) at (figures s h fs)) (m₁ i₁ : List Bool) (rec₁ : List ℤ) (i j : ℕ) (v : Value) → did h z ≡ begin i j v
      → rec₁ ≡ record_made (block_kind d.now.layered i) d.now w (home_rule d.now.layered range wires j) v rec₀
      → m₁ ≡ unmarked_if (leb 3 i) d.marks → i₁ ≡ unmarked_if (eqb i 2) d.inner → Tallied h z m₁ i₁ rec₁ (S.Go (figure_opened d.now i))
  on_open h z m₁ i₁ rec₁ zero j v a q qm qi = absurd (omega (arith, from_one h z m₁ i₁ rec₁ 0 j v a))
  on_open h z m₁ i₁ rec₁ (suc zero) j v a q qm qi = on_chain h z m₁ i₁ rec₁ j v a q qm qi
  on_open h z m₁ i₁ rec₁ (suc (suc zero)) j v a q qm qi = on-text h z m₁ i₁ rec₁ j v a q qm qi
  on_open (in_element y) z m₁ i₁ rec₁ (suc (suc (suc i))) j v a q qm qi = absurd (omega (arith, at_most (in_element y) z m₁ i₁ rec₁ (suc (suc (suc i))) j v a))
  on_open (in_layer m) z m₁ i₁ rec₁ (suc (suc (suc zero))) j v a q qm qi = on-placed m z m₁ i₁ rec₁ j v a q qm qi
  on_open (in_layer m) z m₁ i₁ rec₁ (suc (suc (suc (suc zero)))) j v a q qm qi = on-wire m z m₁ i₁ rec₁ j v a q qm qi (knows_wires c) refl
  on_open (in_layer m) z m₁ i₁ rec₁ (suc (suc (suc (suc (suc i))))) j v a q qm qi = absurd (omega (arith, at_most (in_layer m) z m₁ i₁ rec₁ (suc (suc (suc (suc (suc i))))) j v a))

  module _ (h : Home) (z : Stands c spool k d (FileHere d) at (figures s h fs)) (y : Counted c own d (figures s h fs)) (m₁ i₁ : List Bool) (rec₁ : List ℤ) where
    by-act : (f : Act) → did h z ≡ f → FigureRecord d.now range wires w rec₀ rec₁ f → MarksFor (λ i. leb 3 i) d.marks m₁ f → MarksFor (λ i. eqb i 2) d.inner i₁ f → Tallied h z m₁ i₁ rec₁ (figure_step d.now f)
    by-act stay a q qm qi = same-tally h z m₁ i₁ rec₁ d.now z.block.0 (on-stay h z m₁ i₁ rec₁ a q qm qi)
    by-act (entry j v) a q qm qi = same-tally h z m₁ i₁ rec₁ (more_figures d.now) z.block.0 (on-entry h z m₁ i₁ rec₁ j v a y q qm qi)
    by-act (begin i j v) a q qm qi = on_open h z m₁ i₁ rec₁ i j v a q qm qi
    by-act shut a q qm qi = on-end h z m₁ i₁ rec₁ a q qm qi
    by-act (refuse m) a q qm qi = on-refuse h z m₁ i₁ rec₁ m a

    -- f: the figures' own part; behind it a wire that opened is begun
    pub figures-line : (f : Step)
        → FigureLine (figure_act spool d form) d.now (get_or d.tally 1 0) (get_or d.tally 12 0) w (part_at 32 d.scratch) rec₁ d.marks m₁ d.inner i₁ f
        → StepOut c spool k FileHere own l to (figures s h fs) (desk_lent d (tally_after d.tally (begun_step c f)) m₁ i₁ (begun_put w f (with_part 32 rec₁ d.scratch))) (begun_step c f)
    figures-line f y =
        let p : figure_act spool d form ≡ did h z = figures-act h z in
        subst (Tallied h z m₁ i₁ rec₁) (sym (y.answer ∙ ap (figure_step d.now) p))
        (by-act (did h z) refl (subst (FigureRecord d.now range wires w rec₀ rec₁) p y.rec) (subst (MarksFor (λ i. leb 3 i) d.marks m₁) p y.marks) (subst (MarksFor (λ i. eqb i 2) d.inner i₁) p y.inner))
