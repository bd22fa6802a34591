-- What the code does with a line in each block, as what it promises of any line.
use Prim.Native.Nat.{ℕ, ◌≤◌, ◌<◌}
use mathlib.Core.Bool.{Bool, false}
use mathlib.Core.List.{List, [], ◌∷◌, ◌++◌}
use mathlib.Core.Path.{◌≡◌, refl, subst}
use native.Mathlib.Omega.{arith}
use lib.Dec.{eqb}
use lib.IntN.{ℤ}
use lib.ListN.{length, get_or, take, drop}
use Rattle.rules.specs.declared.Class.{Class}
use Rattle.rules.specs.declared.LineForm.{LineForm}
use Rattle.rules.specs.Lines.{form_in}
use Rattle.rules.specs.RangeClass.{digits, digits_of}
use Rattle.rules.specs.Rows.{Held, act}
use Rattle.rules.specs.Sets.{Set}
use Rattle.rules.specs.Machine.{State, top, file, drawing, layer_names, defines, symbol, hide, elements, figures, successive, texts, placing, skipping, ended}
use Rattle.rules.specs.Machine.{symbol_block, wire_block, wire_unread}
use Rattle.tables.specs.Tables.{table_of}
use Rattle.entries.specs.Names.{known_in}
use Rattle.account.specs.declared.Where.{Where}
use Rattle.account.specs.declared.Step.{Step}
use Rattle.account.specs.declared.Step.TheVariants as S
use Rattle.account.specs.Records.{part_at, with_part}
use Rattle.standing.specs.Standing.{Desk, Counted, StepOut}
use Rattle.standing.specs.FileStanding.{InFile}
use Rattle.standing.specs.Reading.{Standing, LinePromise, tally_after}
use Rattle.account.specs.Points.{point_table_of, point_act, ChainLine, HideLine}
use Rattle.account.specs.TextLines.{text_table_of, TextLine}
use Rattle.account.specs.FigureLines.{FigureLine}
use Rattle.account.specs.ElementLines.{ElementLine}
use Rattle.account.specs.SymbolLines.{non_in, DefinesLine, SymbolLine}
use Rattle.account.specs.PlacedLines.{Lent, PlacedLine}
use Rattle.account.specs.WireLines.{begun_step, begun_put}
use Rattle.account.specs.SerialNumbers.{partners_met}
use Rattle.account.specs.TopLines.{Answered, TopLent, top_lent, top_now, top_lent_by}
use Rattle.account.specs.DrawingLines.{drawing_act, drawing_now, drawing_marks, drawing_put, NamesLine}
use Rattle.account.specs.FileLines.{file_table_of, part_marks, FileLine}
use Rattle.standing.proofs.FormPlaces.{file-placed}
use Rattle.standing.proofs.FileClosing.{file_desk}
use Rattle.standing.proofs.FileFormatStanding.{file-line}
use Rattle.standing.proofs.Standings.{desk_with}
use Rattle.standing.proofs.OpenBlocks
use Rattle.standing.proofs.ChainStanding.{chain-line}
use Rattle.standing.proofs.HideStanding.{hide-line}
use Rattle.standing.proofs.TextStanding.{text-line}
use Rattle.standing.proofs.FiguresStanding.{figure_act, desk_lent, figures-line}
use Rattle.standing.proofs.ElementStanding.{element_act, element_desk, element-line}
use Rattle.standing.proofs.DefinesStanding.{defines-line}
use Rattle.standing.proofs.SymbolStanding.{symbol_desk, symbol-line}
use Rattle.standing.proofs.DrawingStanding.{drawing-line}
use Rattle.standing.proofs.LayerNamesStanding.{desk_names, names-line}
use Rattle.standing.proofs.TopStanding.{desk_top, top-line}
use Rattle.standing.proofs.PlacedTables.{lent_of, lent_desk}
use Rattle.standing.proofs.PlacedStanding.{placed-line}

-- ── promises ──
module _ (c : Class) (spool : List ℕ) (k : ℕ) (form : LineForm) (w : Where) (following : List ℕ) (d : Desk) where
  abbrev F : Desk → Set → ℕ → Held → ℕ → Type 0
  F = InFile spool k

  abbrev names : List ℕ
  names = take (get_or d.tally 9 0) d.symbols

  abbrev ids : List ℕ
  ids = take (get_or d.tally 10 0) d.layers

  abbrev Promise : Desk → Step → Type 0
  Promise d₁ r = LinePromise c spool k form w d d₁ following r

  pub chain_promise : (recs₁ : List ℤ) (r : Step) → d.now.block ≡ 9
      → ChainLine (point_act (point_table_of d.now.layered) spool names ids d.now form) d.now w (drop 32 d.scratch) recs₁ r
      → Promise (desk_with d d.now d.marks d.inner (take 32 d.scratch ++ recs₁)) r
  chain_promise recs₁ r b f own l at to st x q p z y = go st (OpenBlocks.in-chain c spool k d (F d) st z.block b) z y
    where
      go : (st : State) → OpenBlocks.InAChain st → Standing c spool k d at st → Counted c own d st → StepOut c spool k F own l to st (desk_with d d.now d.marks d.inner (take 32 d.scratch ++ recs₁)) r
      go _ (OpenBlocks.here s h fs n ps) z y = chain-line c spool k F d at to own l w form x s h fs n ps z y recs₁ r f

  pub hide_promise : (rec₁ : List ℤ) (r : Step) → d.now.block ≡ 6
      → HideLine (point_act 15 spool names ids d.now form) d.now w (part_at 32 d.scratch) rec₁ r
      → Promise (desk_with d d.now d.marks d.inner (with_part 32 rec₁ d.scratch)) r
  hide_promise rec₁ r b f own l at to st x q p z y = go st (OpenBlocks.in-hide c spool k d (F d) st z.block b) z y
    where
      go : (st : State) → OpenBlocks.InAHide st → Standing c spool k d at st → Counted c own d st → StepOut c spool k F own l to st (desk_with d d.now d.marks d.inner (with_part 32 rec₁ d.scratch)) r
      go _ (OpenBlocks.here s v ps) z y = hide-line c spool k F d at to own l w form x s v ps z y rec₁ r f

  pub text_promise : (m₁ : List Bool) (rec₁ : List ℤ) (r : Step) → d.now.block ≡ 10
      → TextLine (act (known_in spool names ids) (table_of (text_table_of d.now.layered)) (digits 0 0) d.inner (form_in spool form)) d.now d.inner m₁ (part_at 32 d.scratch) rec₁ r
      → Promise (desk_with d d.now d.marks m₁ (with_part 32 rec₁ d.scratch)) r
  text_promise m₁ rec₁ r b f own l at to st x q p z y = go st (OpenBlocks.in-text c spool k d (F d) st z.block b) z y
    where
      go : (st : State) → OpenBlocks.InAText st → Standing c spool k d at st → Counted c own d st → StepOut c spool k F own l to st (desk_with d d.now d.marks m₁ (with_part 32 rec₁ d.scratch)) r
      go _ (OpenBlocks.here s h fs n o) z y = text-line c spool k F d at to own l w form x s h fs n o z y m₁ rec₁ r f

  -- f: the step of the figures' own part; behind it a wire that it opened is begun
  abbrev begun_desk : List Bool → List Bool → List ℤ → Step → Desk
  begun_desk m₁ i₁ rec₁ f = desk_lent d (tally_after d.tally (begun_step c f)) m₁ i₁ (begun_put w f (with_part 32 rec₁ d.scratch))

  pub figures_promise : (m₁ i₁ : List Bool) (rec₁ : List ℤ) (f : Step) → d.now.block ≡ 8
      → FigureLine (figure_act spool d form) d.now (get_or d.tally 1 0) (get_or d.tally 12 0) w (part_at 32 d.scratch) rec₁ d.marks m₁ d.inner i₁ f
      → Promise (begun_desk m₁ i₁ rec₁ f) (begun_step c f)
  figures_promise m₁ i₁ rec₁ f b h own l at to st x q p z y = go st (OpenBlocks.among-figures c spool k d (F d) st z.block b) z y
    where
      go : (st : State) → OpenBlocks.AmongFigures st → Standing c spool k d at st → Counted c own d st → StepOut c spool k F own l to st (begun_desk m₁ i₁ rec₁ f) (begun_step c f)
      go _ (OpenBlocks.here s u fs) z y = figures-line c spool k F d at to own l w form x s fs u z y m₁ i₁ rec₁ f h

  pub element_promise : (t₁ : List ℕ) (u₁ a₁ : List Bool) (r : Step) → d.now.block ≡ 7
      → ElementLine (element_act spool d form) d.now d.tally t₁ d.used u₁ d.used_all a₁ r
      → Promise (element_desk d t₁ u₁ a₁) r
  element_promise t₁ u₁ a₁ r b f own l at to st x q p z y = go st (OpenBlocks.in-element c spool k d (F d) st z.block b) z y
    where
      go : (st : State) → OpenBlocks.InElement st → Standing c spool k d at st → Counted c own d st → StepOut c spool k F own l to st (element_desk d t₁ u₁ a₁) r
      go _ (OpenBlocks.here s) z y = element-line c spool k F d at to own l w form x s z y t₁ u₁ a₁ r f

  pub defines_promise : (m₁ : List Bool) (rec₁ : List ℤ) (r : Step) → d.now.block ≡ 4
      → DefinesLine (act (known_in spool names ids) (table_of 8) (digits_of (get_or d.tally 2 0)) (non_in d.now ∷ false ∷ []) (form_in spool form)) d.now (length names) w d.marks m₁ (part_at 0 d.scratch) rec₁ r
      → Promise (desk_with d d.now m₁ d.inner (with_part 0 rec₁ d.scratch)) r
  defines_promise m₁ rec₁ r b f own l at to st x q p z y = go st (OpenBlocks.in-defines c spool k d (F d) st z.block b) z y
    where
      go : (st : State) → OpenBlocks.InDefines st → Standing c spool k d at st → Counted c own d st → StepOut c spool k F own l to st (desk_with d d.now m₁ d.inner (with_part 0 rec₁ d.scratch)) r
      go _ (OpenBlocks.here s v) z y = defines-line c spool k F d at to own l w form x s v z y m₁ rec₁ r f

  pub symbol_promise : length spool ≤ 61440 → (m₁ : List Bool) (rec₁ : List ℤ) (r : Step) → d.now.block ≡ 5
      → SymbolLine (act (known_in spool names ids) (table_of 9) (digits_of (get_or d.tally 2 0)) (take 4 d.marks) (form_in spool form)) spool names d.now d.marks m₁ (part_at 0 d.scratch) rec₁ r
      → Promise (symbol_desk d m₁ rec₁ r) r
  symbol_promise short m₁ rec₁ r b f own l at to st x q p z y = go st (OpenBlocks.in-symbol c spool k d (F d) st z.block b) z y
    where
      go : (st : State) → OpenBlocks.InASymbol st → Standing c spool k d at st → Counted c own d st → StepOut c spool k F own l to st (symbol_desk d m₁ rec₁ r) r
      go _ (OpenBlocks.here s v) z y = symbol-line c spool short k F d at to own l w form x s v z y m₁ rec₁ r f

  pub placed_promise : (x₁ : Lent) (rec₁ : List ℤ) (r : Step) → d.now.block ≡ 11
      → PlacedLine (known_in spool names ids) c.symbols (digits_of (get_or d.tally 1 0)) d.now (lent_of d) x₁ (part_at 32 d.scratch) rec₁ r (eqb d.now.part 1) (form_in spool form)
      → Promise (lent_desk d x₁ rec₁) r
  placed_promise x₁ rec₁ r b f own l at to st x q p z y = go st (OpenBlocks.in-placed c spool k d (F d) st z.block b) z y
    where
      go : (st : State) → OpenBlocks.InAPlaced st → Standing c spool k d at st → Counted c own d st → StepOut c spool k F own l to st (lent_desk d x₁ rec₁) r
      go _ (OpenBlocks.here s m fs n o i) z y = placed-line c spool k F d at to own l w form x s m fs n o p i z y x₁ rec₁ r f

  pub drawing_promise : (m₁ : List Bool) (rec₁ : List ℤ) (r : Step) → d.now.block ≡ 2
      → Answered (drawing_now d.now (drawing_act (known_in spool names []) (get_or d.tally 0 0) d.marks (form_in spool form)))
      ((m₁ ≡ drawing_marks d.marks (drawing_act (known_in spool names []) (get_or d.tally 0 0) d.marks (form_in spool form)))
      × (rec₁ ≡ drawing_put (part_at 0 d.scratch) (drawing_act (known_in spool names []) (get_or d.tally 0 0) d.marks (form_in spool form)))) r
      → Promise (desk_with d d.now m₁ d.inner (with_part 0 rec₁ d.scratch)) r
  drawing_promise m₁ rec₁ r b f own l at to st x q p z y = go st (OpenBlocks.in-drawing c spool k d (F d) st z.block b) z y
    where
      go : (st : State) → OpenBlocks.InDrawingFormat st → Standing c spool k d at st → Counted c own d st → StepOut c spool k F own l to st (desk_with d d.now m₁ d.inner (with_part 0 rec₁ d.scratch)) r
      go _ (OpenBlocks.here s g) z y = drawing-line c spool k F d at to own l w form x s g z y m₁ rec₁ r f

  pub names_promise : (tally₁ layers₁ : List ℕ) (rec₁ : List ℤ) → length layers₁ ≡ length d.layers → (r : Step) → d.now.block ≡ 3
      → NamesLine spool d.now w (form_in spool form) d.tally tally₁ d.layers layers₁ (part_at 32 d.scratch) rec₁ r
      → Promise (desk_names d tally₁ layers₁ (with_part 32 rec₁ d.scratch)) r
  names_promise tally₁ layers₁ rec₁ kept r b f own l at to st x q p z y = go st (OpenBlocks.in-names c spool k d (F d) st z.block b) z y
    where
      go : (st : State) → OpenBlocks.InLayerNames st → Standing c spool k d at st → Counted c own d st → StepOut c spool k F own l to st (desk_names d tally₁ layers₁ (with_part 32 rec₁ d.scratch)) r
      go _ (OpenBlocks.here s g) z y = names-line c spool k F d at to own l w form x s g z y tally₁ layers₁ rec₁ kept r f

  -- did: what the line did by itself; then partners are tested where the set has ended
  pub top_promise : (lent : TopLent) → w.volume < 4294967296 → w.line < 4294967296 → w.volume ≡ k → (did r : Step) → d.now.block ≡ 0
      → Answered (top_now (known_in spool names ids) (eqb w.volume 1) d.now w d.tally d.used_all (form_in spool form))
      (lent ≡ top_lent_by (known_in spool names ids) (eqb w.volume 1) w (top_lent d.marks d.used d.header (part_at 0 d.scratch)) (form_in spool form)) did
      → r ≡ partners_met c spool d.tally d.serials did → Promise (desk_top d lent) r
  top_promise lent fv fl vk did r b f e own l at to st x q p z y = go st (OpenBlocks.at_top c spool k d (F d) st z.block b) z y
    where
      go : (st : State) → OpenBlocks.AtTop st → Standing c spool k d at st → Counted c own d st → StepOut c spool k F own l to st (desk_top d lent) r
      go _ (OpenBlocks.here s m) z y =
          top-line c spool k d at to own l w form x s m z y lent fv fl did r
          (subst (λ (i : ℕ). Answered (top_now (known_in spool names ids) (eqb i 1) d.now w d.tally d.used_all (form_in spool form))
          (lent ≡ top_lent_by (known_in spool names ids) (eqb i 1) w (top_lent d.marks d.used d.header (part_at 0 d.scratch)) (form_in spool form)) did) vk f) e

  pub file_promise : (tally₁ : List ℕ) (m₁ : List Bool) (h₁ : List ℤ) → w.volume ≡ k → (r : Step) → d.now.block ≡ 1
      → FileLine (act (known_in spool names ids) (table_of (file_table_of (eqb w.volume 1) d.now.part)) (digits 0 0) (part_marks (eqb w.volume 1) d.now.part d.marks) (form_in spool form)) spool following (eqb w.volume 1) d.now
      d.tally tally₁ d.marks m₁ d.header h₁ r
      → Promise (file_desk d tally₁ m₁ h₁) r
  file_promise tally₁ m₁ h₁ vk r b f own l at to st x q p z y = go st (OpenBlocks.in-file c spool k d (F d) st z.block b) z y
    where
      go : (st : State) → OpenBlocks.InFileFormat st → Standing c spool k d at st → Counted c own d st → StepOut c spool k F own l to st (file_desk d tally₁ m₁ h₁) r
      go _ (OpenBlocks.here s n h i) z y =
          file-line c spool k d at to own l w form x following q (file-placed l.form p) s n h i z y tally₁ m₁ h₁ r
          (subst (λ (o : ℕ). FileLine (act (known_in spool names ids) (table_of (file_table_of (eqb o 1) d.now.part)) (digits 0 0) (part_marks (eqb o 1) d.now.part d.marks) (form_in spool form)) spool following (eqb o 1) d.now
          d.tally tally₁ d.marks m₁ d.header h₁ r) vk f)

  -- no other block is ever open
  pub other_promise : (d₁ : Desk) → 12 < d.now.block → Promise d₁ (S.Stop 9)
  other_promise d₁ b own l at to st x q p z y = go st z
    where
      go : (st : State) → Standing c spool k d at st → StepOut c spool k F own l to st d₁ (S.Stop 9)
      go (top s m) z = absurd (omega (arith, z.block.0, b))
      go (file s i h o) z = absurd (omega (arith, z.block.0, b))
      go (drawing s g) z = absurd (omega (arith, z.block.0, b))
      go (layer_names s g) z = absurd (omega (arith, z.block.0, b))
      go (defines s g) z = absurd (omega (arith, z.block.0, b))
      go (symbol s g) z = absurd (omega (arith, z.block.0, b))
      go (hide s g ps) z = absurd (omega (arith, z.block.0, b))
      go (elements s) z = absurd (omega (arith, z.block.0, b))
      go (figures s h fs) z = absurd (omega (arith, z.block.0, b))
      go (successive s h fs i ps) z = absurd (omega (arith, z.block.0, b))
      go (texts s h fs i o) z = absurd (omega (arith, z.block.0, b))
      go (placing s m fs i (symbol_block o) g) z = absurd (omega (arith, z.block.0, b))
      go (placing s m fs i (wire_block v) g) z = absurd (omega (arith, z.block.0, b))
      go (placing s m fs i wire_unread g) z = absurd z.block
      go (skipping s m fs i (symbol_block o) g) z = absurd z.block
      go (skipping s m fs i (wire_block v) g) z = absurd z.block
      go (skipping s m fs i wire_unread g) z = absurd (omega (arith, z.block.0, b))
      go (ended s) z = refl
