-- What the code that cuts the lists and lends the records of a block asks for, and what comes back.
use Prim.Native.Nat.{ℕ, zero, suc, ◌+◌, ◌-◌, ◌≤◌, ◌<◌}
use mathlib.Core.Bool.{Bool, true, false, cond, ◌&&◌, not}
use mathlib.Core.List.{List, ◌++◌, append-nil}
use mathlib.Core.Path.{◌≡◌, refl, sym, ◌∙◌, ap, subst}
use native.Mathlib.Omega.{arith}
use lib.Dec.{eqb}
use lib.IntN.{ℤ}
use lib.ListN.{length, get_or, take, drop, length-take, length-drop, drop_of_length-le}
use lib.Seq.{take_all, take-append_seam, drop-append_seam}
use Rattle.rules.specs.declared.Class.{Class}
use Rattle.rules.specs.RangeClass.{knows_wires}
use Rattle.rules.specs.Rows.{Act, stay, entry, begin, shut, refuse}
use Rattle.rules.specs.RecordTable.{rule_at}
use Rattle.rules.specs.declared.LineForm.{LineForm}
use Rattle.rules.specs.Lines.{form_in}
use Rattle.entries.specs.Names.{known_in}
use Rattle.tables.specs.Tables.{table_of}
use Rattle.entries.specs.Acts.{Entered}
use Rattle.account.specs.declared.Now.{Now}
use Rattle.account.specs.declared.Where.{Where}
use Rattle.account.specs.declared.Step.{Step}
use Rattle.account.specs.declared.Step.TheVariants as S
use Rattle.account.specs.Records.{part_at, with_part}
use Rattle.account.specs.Account.{at_block}
use Rattle.standing.specs.Reading.{tally_after, tally_named, symbols_named}
use Rattle.account.specs.FigureLines.{figure_step, FigureLine}
use Rattle.account.specs.SymbolLines.{is_named, name_of, is_new, symbol_part, symbol_put, symbol_step, SymbolLine}
use Rattle.account.specs.WireLines.{begun_step, begun_put}
use Rattle.account.specs.SerialNumbers.{partners_met}
use Rattle.account.specs.TopLines.{Answered, TopLent, top_now, top_lent_by}
use Rattle.standing.specs.LineDone.{names_of, ids_of, Named, Lends, LendsChain, figure_act, OnFigures, symbol_act, SymbolReady, OnSymbol, OnTop}
use Rattle.account.proofs.Lent.{lent-part}
use mir.Syntax.{w64}
use mir.Val.{Fits}

-- ── the number of the open block ──
pub one_left : (n : ℕ) → n < 2 → (n ≡ 0 → ⊥) → n ≡ 1
one_left zero h a0 = absurd (a0 refl)
one_left (suc zero) h a0 = refl
one_left (suc (suc n)) h a0 = absurd (omega (arith, h))

-- the last of the blocks before ELEMENT
pub six-left : (n : ℕ) → 2 ≤ n → n < 7 → (n ≡ 2 → ⊥) → (n ≡ 3 → ⊥) → (n ≡ 4 → ⊥) → (n ≡ 5 → ⊥) → n ≡ 6
six-left zero g h a2 a3 a4 a5 = absurd (omega (arith, g))
six-left (suc zero) g h a2 a3 a4 a5 = absurd (omega (arith, g))
six-left (suc (suc zero)) g h a2 a3 a4 a5 = absurd (a2 refl)
six-left (suc (suc (suc zero))) g h a2 a3 a4 a5 = absurd (a3 refl)
six-left (suc (suc (suc (suc zero)))) g h a2 a3 a4 a5 = absurd (a4 refl)
six-left (suc (suc (suc (suc (suc zero))))) g h a2 a3 a4 a5 = absurd (a5 refl)
six-left (suc (suc (suc (suc (suc (suc n)))))) g h a2 a3 a4 a5 = omega (arith, h)

-- ELEMENT's own number is 7
pub at_most : (n : ℕ) → (n ≡ 7 → ⊥) → n ≤ 7 → n < 7
at_most n h g = go (7 - n) (omega (arith, g))
  where
    go : (i : ℕ) → n + i ≡ 7 → n < 7
    go zero q = absurd (h (omega (arith, q)))
    go (suc i) q = omega (arith, q)

-- behind those of ELEMENT
pub thirteen-left : (n : ℕ) → 8 ≤ n → (n ≡ 8 → ⊥) → (n ≡ 9 → ⊥) → (n ≡ 10 → ⊥) → (n ≡ 11 → ⊥) → (n ≡ 12 → ⊥) → 12 < n
thirteen-left n h a8 a9 a10 a11 a12 = from-eight (n - 8) (omega (arith, h))
  where
    from-eight : (m : ℕ) → n ≡ 8 + m → 12 < n
    from-eight zero e = absurd (a8 e)
    from-eight (suc zero) e = absurd (a9 e)
    from-eight (suc (suc zero)) e = absurd (a10 e)
    from-eight (suc (suc (suc zero))) e = absurd (a11 e)
    from-eight (suc (suc (suc (suc zero)))) e = absurd (a12 e)
    from-eight (suc (suc (suc (suc (suc m))))) e = omega (arith, e)

-- ── the names ──
module _ {tally symbols layers : List ℕ} (y : Named tally symbols layers) where
  pub tally_0 : 0 < length tally
  tally_0 = omega (arith, y.twelve)

  pub tally_1 : 1 < length tally
  tally_1 = omega (arith, y.twelve)

  pub tally_2 : 2 < length tally
  tally_2 = omega (arith, y.twelve)

  pub tally_9 : 9 < length tally
  tally_9 = omega (arith, y.twelve)

  pub tally_10 : 10 < length tally
  tally_10 = omega (arith, y.twelve)

  pub tally_12 : 12 < length tally
  tally_12 = omega (arith, y.twelve)

  pub names-count : get_or tally 9 0 ≡ length (names_of tally symbols)
  names-count = omega (arith, length-take (get_or tally 9 0) symbols, y.names)

  pub ids-count : get_or tally 10 0 ≡ length (ids_of tally layers)
  ids-count = omega (arith, length-take (get_or tally 10 0) layers, y.ids)

  pub names-most : length (names_of tally symbols) ≤ 65536
  names-most = omega (arith, names-count, y.names, y.few-symbols)

  pub ids-few : length (ids_of tally layers) ≤ 64
  ids-few = omega (arith, ids-count, y.ids, y.few-layers)

  pub ids-most : length (ids_of tally layers) ≤ 65536
  ids-most = omega (arith, ids-few)

  pub names-fit : Fits w64 (get_or tally 9 0)
  names-fit = record { fits = omega (arith, names-count, names-most) }

  pub ids-fit : Fits w64 (get_or tally 10 0)
  ids-fit = record { fits = omega (arith, ids-count, ids-most) }

-- ── what was lent of the scratch ──
pub lent-long : (n k : ℕ) (t : List ℤ) → n + k ≤ 96 → length t ≡ 96 → length (take k (drop n t)) ≡ k
lent-long n k t h e = omega (arith, length-take k (drop n t), length-drop n t, h, e)

-- a record
pub lends : (n : ℕ) (t u : List ℤ) (P : List ℤ → List ℤ → Type 0) → P (part_at n t) u → Lends n t (take n t ++ (u ++ drop 32 (drop n t))) P
lends n t u P h = record { rec = u; did = h; back = lent-part n 32 t u refl }

-- two records, to the end
pub lends-chain : (t u : List ℤ) (P : List ℤ → List ℤ → Type 0) → length t ≡ 96 → P (take 64 (drop 32 t)) u → LendsChain t (take 32 t ++ (u ++ drop 64 (drop 32 t))) P
lends-chain t u P e h = record {
  recs = u;
  did = subst (λ (x : List ℤ). P x u) (take_all 64 (drop 32 t) (omega (arith, long))) h;
  back = ap (λ (x : List ℤ). take 32 t ++ (u ++ x)) (drop_of_length-le (drop 32 t) {i = 64} (omega (arith, long))) ∙ ap (λ (x : List ℤ). take 32 t ++ x) (append-nil u);
}
  where
    long : length (drop 32 t) ≡ 64
    long = omega (arith, length-drop 32 t, e)

-- the part that was put there is read there
part-back : (n : ℕ) (u t : List ℤ) → n ≤ length t → length u ≡ 32 → part_at n (with_part n u t) ≡ u
part-back n u t h e =
    let fore : length (take n t) ≡ n = omega (arith, length-take n t, h) in
    let rest : List ℤ = drop (n + 32) t in
    ap (λ (m : ℕ). take 32 (drop m (with_part n u t))) (sym fore)
    ∙ ap (take 32) (drop-append_seam (take n t) (u ++ rest))
    ∙ ap (λ (m : ℕ). take m (u ++ rest)) (sym e)
    ∙ take-append_seam u rest

-- ── the top level ──
-- what comes back of it, and of the partners' test
pub top_back : (spool : List ℕ) (form : LineForm) (n : Now) (tally symbols layers : List ℕ) (c : Class) (serials : List ℕ) (w : Where) (used_all : List Bool) (b₀ b₁ : List ℤ → TopLent) (t₀ t₁ : List ℤ) (did r : Step)
    → Lends 0 t₀ t₁
    (λ rec₀ rec₁. Answered (top_now (known_in spool (names_of tally symbols) (ids_of tally layers)) (eqb w.volume 1) n w tally used_all (form_in spool form))
    (b₁ rec₁ ≡ top_lent_by (known_in spool (names_of tally symbols) (ids_of tally layers)) (eqb w.volume 1) w (b₀ rec₀) (form_in spool form)) did)
    → r ≡ partners_met c spool tally serials did → OnTop spool form n tally symbols layers c serials w used_all b₀ b₁ t₀ t₁ r
top_back spool form n tally symbols layers c serials w used_all b₀ b₁ t₀ t₁ did r h q = record { did = did; lends = h; answer = q }

-- ── figures ──
-- how many there are behind a step
abbrev figures_after : Step → ℕ
figures_after (S.Go n) = n.figures
figures_after (S.Skip n) = 0
figures_after (S.Stop n) = 0

-- a layer that closes has one figure more at most than before the line
step-figures : (n : Now) (a : Act) → figures_after (figure_step n a) ≤ n.figures + 1
step-figures n stay = omega arith
step-figures n (entry j v) = omega arith
step-figures n (begin i j v) = omega arith
step-figures n shut = go n.layered (eqb n.figures 0)
  where
    go : (l b : Bool) → figures_after (cond l (S.Go (at_block n 7 0)) (cond b (S.Stop 8) (S.Go (at_block n 5 0)))) ≤ n.figures + 1
    go true b = omega arith
    go false true = omega arith
    go false false = omega arith
step-figures n (refuse i) = omega arith

-- a wire that begins has none of them
begun-figures : (c : Class) (f : Step) → figures_after (begun_step c f) ≡ figures_after f
begun-figures c (S.Go n) = go (eqb n.block 12) (knows_wires c)
  where
    go : (b k : Bool) → figures_after (cond b (S.Go (cond k n (at_block n 12 2))) (S.Go n)) ≡ n.figures
    go true true = refl
    go true false = refl
    go false k = refl
begun-figures c (S.Skip n) = refl
begun-figures c (S.Stop n) = refl

-- f: the step of the figures' own part of a line, r: with a wire begun
pub count_asks : {a : Act} {n : Now} {range wires : ℕ} {w : Where} {t₀ t₁ : List ℤ} {m₀ m₁ i₀ i₁ : List Bool} {f : Step} → FigureLine a n range wires w t₀ t₁ m₀ m₁ i₀ i₁ f
    → (c : Class) (r : Step) → r ≡ begun_step c f → (tally : List ℕ) → length tally ≡ 13 → get_or tally 7 0 + n.figures < 4294967295
    → (length tally ≡ 13) × ((m : Now) → r ≡ S.Go m → m.block ≡ 7 → get_or tally 7 0 + m.figures ≤ 4294967295)
count_asks {a} {n} {range} {wires} {w} {t₀} {t₁} {m₀} {m₁} {i₀} {i₁} {f} h c r b tally e g = (
  e,
  λ m q k.
      let same : m.figures ≡ figures_after (figure_step n a) = ap figures_after (sym q ∙ b) ∙ begun-figures c f ∙ ap figures_after h.answer in
      omega (arith, same, step-figures n a, g),
)

-- what comes back of them, of the wire and of the tally
pub figures-back : (spool : List ℕ) (form : LineForm) (n : Now) (tally symbols layers : List ℕ) (c : Class) (w : Where) (tally₁ : List ℕ) (m₀ m₁ i₀ i₁ : List Bool) (t₀ t₁ scratch : List ℤ) (f r r₁ : Step)
    → Lends 32 t₀ scratch
    (λ rec₀ rec₁. FigureLine (figure_act spool form n tally symbols layers) n (get_or tally 1 0) (get_or tally 12 0) w rec₀ rec₁ m₀ m₁ i₀ i₁ f)
    → (r ≡ begun_step c f) × (t₁ ≡ begun_put w f scratch) → (r₁ ≡ r) × (tally₁ ≡ tally_after tally r) → OnFigures spool form n tally symbols layers c w tally₁ m₀ m₁ i₀ i₁ t₀ t₁ r₁
figures-back spool form n tally symbols layers c w tally₁ m₀ m₁ i₀ i₁ t₀ t₁ scratch f r r₁ h b q = record {
  figures = f;
  scratch = scratch;
  lends = h;
  answer = q.0 ∙ b.0;
  begun = b.1;
  tallied = q.1 ∙ ap (tally_after tally) (sym q.0);
}

-- ── a symbol that closes ──
-- the block that is open after a line
abbrev block_after : Step → ℕ
block_after (S.Go n) = n.block
block_after (S.Skip n) = 0
block_after (S.Stop n) = 0

-- a line that opens SYMBOL_DEFINE again has closed the symbol, and its record is as it was
symbol-shut : (a : Act) (s symbols : List ℕ) (n : Now) (rec₀ rec₁ : List ℤ) (m : Now) → n.block ≡ 5 → S.Go m ≡ symbol_step s symbols n rec₀ a → Entered (rule_at (table_of 9)) 0 rec₀ a rec₁ → m.block ≡ 4
    → (a ≡ shut) × (rec₁ ≡ rec₀)
symbol-shut stay s symbols n rec₀ rec₁ m b e q h = absurd (omega (arith, ap block_after e, b, h))
symbol-shut (entry j v) s symbols n rec₀ rec₁ m b e q h = go (eqb j 0 && not (is_new s symbols (name_of (symbol_put rec₀ j v)))) e
  where
    go : (t : Bool) → S.Go m ≡ cond t (S.Stop 15) (S.Go n) → (entry j v ≡ shut) × (rec₁ ≡ rec₀)
    go true e = absurd (omega (arith, ap block_after e, h))
    go false e = absurd (omega (arith, ap block_after e, b, h))
symbol-shut (begin i j v) s symbols n rec₀ rec₁ m b e q h = go (eqb i 1) e
  where
    go : (t : Bool) → S.Go m ≡ S.Go (cond t (symbol_part n 1) (symbol_part n 2)) → (begin i j v ≡ shut) × (rec₁ ≡ rec₀)
    go true e = absurd (omega (arith, ap block_after e, h))
    go false e = absurd (omega (arith, ap block_after e, h))
symbol-shut shut s symbols n rec₀ rec₁ m b e q h = (refl, q)
symbol-shut (refuse k) s symbols n rec₀ rec₁ m b e q h = absurd (omega (arith, ap block_after e, h))

module _ (spool : List ℕ) (form : LineForm) (n : Now) (tally symbols layers : List ℕ) (y : Named tally symbols layers) (b : n.block ≡ 5) (m₀ : List Bool) (t : List ℤ)
    (z : SymbolReady spool form n tally symbols layers m₀ t) (m₁ : List Bool) (rec₁ : List ℤ) (r : Step) where
  abbrev back : List ℤ
  back = take 0 t ++ (rec₁ ++ drop 32 (drop 0 t))

  abbrev Line : List ℤ → Type 0
  Line rec₀ = SymbolLine (symbol_act spool form n tally symbols layers m₀) spool (names_of tally symbols) n m₀ m₁ rec₀ rec₁ r

  module _ (h : Line (part_at 0 t)) (long : length rec₁ ≡ 32) where
    again : part_at 0 back ≡ rec₁
    again = ap (part_at 0) (lent-part 0 32 t rec₁ refl) ∙ part-back 0 rec₁ t (omega arith) long

    named : (m : Now) → r ≡ S.Go m → m.block ≡ 4 → is_named rec₁ ≡ true
    named m e q =
        let (a, g) = symbol-shut (symbol_act spool form n tally symbols layers m₀) spool (names_of tally symbols) n (part_at 0 t) rec₁ m b (sym e ∙ h.answer) h.put q in
        ap is_named g ∙ z.name a

    pub kept_asks : (length tally ≡ 13) × (length symbols ≤ 65536) × (length (part_at 0 back) ≡ 32)
        × ((m : Now) → r ≡ S.Go m → m.block ≡ 4 → (get_or tally 9 0 < length symbols) × (is_named (part_at 0 back) ≡ true))
    kept_asks = (y.twelve, y.few-symbols, ap length again ∙ long, λ m e q. (z.room, ap is_named again ∙ named m e q))

    pub symbol-keeps : (tally₁ symbols₁ : List ℕ) (r₁ : Step) → (r₁ ≡ r) × (tally₁ ≡ tally_named tally r) × (symbols₁ ≡ symbols_named tally (part_at 0 back) symbols r)
        → OnSymbol spool form n tally symbols layers tally₁ symbols₁ m₀ m₁ t back r₁
    symbol-keeps tally₁ symbols₁ r₁ q =
        subst (λ (x : Step). OnSymbol spool form n tally symbols layers tally₁ symbols₁ m₀ m₁ t back x) (sym q.0) (record {
          rec = rec₁;
          did = (h, q.1, q.2 ∙ ap (λ (u : List ℤ). symbols_named tally u symbols r) again);
          back = lent-part 0 32 t rec₁ refl;
        })
