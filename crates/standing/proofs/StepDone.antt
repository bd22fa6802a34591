-- What the code does with a line is what it promises of it.
use Prim.Native.Nat.{ℕ, ◌≤◌, ◌<◌, ◌+◌}
use mathlib.Core.Bool.{Bool, true, false, cond}
use mathlib.Core.List.{List}
use mathlib.Core.Path.{◌≡◌, refl, sym, ◌∙◌, ap, subst}
use lib.Dec.{eqb}
use lib.IntN.{ℤ}
use lib.ListN.{length, get_or, set}
use Rattle.rules.specs.declared.Class.{Class}
use Rattle.rules.specs.declared.LineForm.{LineForm}
use Rattle.account.specs.declared.Where.{Where}
use Rattle.account.specs.declared.Step.{Step}
use Rattle.account.specs.declared.Step.TheVariants as S
use Rattle.account.specs.Records.{with_part}
use Rattle.standing.specs.Standing.{Desk, desk}
use Rattle.account.specs.SymbolLines.{name_of, name_number}
use Rattle.account.specs.PlacedLines.{lent}
use Rattle.account.specs.WireLines.{begun_step, begun_put}
use Rattle.account.specs.TopLines.{top_lent}
use Rattle.standing.specs.Reading.{LinePromise, tally_after, tally_named, symbols_named}
use Rattle.standing.specs.LineDone.{OnTop, OnDrawing, OnNames, OnDefines, OnSymbol, OnHide, OnFigures, OnChain, OnText, OnPlaced, OnWire}
use Rattle.standing.specs.LineDone.{Done, top, file, drawing, layer-names, defines, symbol, hide, elements, figures, chain, text, placed, wire, other}
use Rattle.standing.proofs.Standings.{desk_with}
use Rattle.standing.proofs.SymbolStanding.{name_kept, symbol_desk}
use Rattle.standing.proofs.StepPromises as promise
use Rattle.standing.proofs.WirePromises.{wire_promise}

-- a closed symbol's name is kept, or nothing is
named-desk : (d : Desk) (m₁ : List Bool) (rec₁ : List ℤ) (r : Step)
    → symbol_desk d m₁ rec₁ r
    ≡ desk d.now (tally_named d.tally r) (symbols_named d.tally rec₁ d.symbols r) d.layers d.serials d.used d.used_all m₁ d.inner d.header (with_part 0 rec₁ d.scratch)
named-desk d m₁ rec₁ (S.Go n) = go (eqb n.block 4)
  where
    go : (b : Bool)
        → cond b (name_kept d m₁ rec₁) (desk_with d d.now m₁ d.inner (with_part 0 rec₁ d.scratch))
        ≡ desk d.now (cond b (set d.tally 9 (get_or d.tally 9 0 + 1)) d.tally) (cond b (set d.symbols (get_or d.tally 9 0) (name_number (name_of rec₁))) d.symbols)
        d.layers d.serials d.used d.used_all m₁ d.inner d.header (with_part 0 rec₁ d.scratch)
    go true = refl
    go false = refl
named-desk d m₁ rec₁ (S.Skip n) = refl
named-desk d m₁ rec₁ (S.Stop n) = refl

module _ (c : Class) (spool following : List ℕ) (form : LineForm) (w : Where) (d d₁ : Desk) (r : Step) where
  abbrev k : ℕ
  k = w.volume

  abbrev Promise : Desk → Type 0
  Promise x = LinePromise c spool k form w d x following r

  -- the same desk, by what was put on the scratch
  abbrev marked : List ℤ → Desk
  marked t = desk d.now d.tally d.symbols d.layers d.serials d.used d.used_all d₁.marks d.inner d.header t

  abbrev unmarked : List ℤ → Desk
  unmarked t = desk d.now d.tally d.symbols d.layers d.serials d.used d.used_all d.marks d.inner d.header t

  abbrev written : List ℤ → Desk
  written t = desk d.now d.tally d.symbols d.layers d.serials d.used d.used_all d.marks d₁.inner d.header t

  abbrev named : List ℤ → Desk
  named t = desk d.now d₁.tally d.symbols d₁.layers d.serials d.used d.used_all d.marks d.inner d.header t

  abbrev headed : List ℤ → Desk
  headed t = desk d.now d.tally d.symbols d.layers d.serials d₁.used d.used_all d₁.marks d.inner d₁.header t

  abbrev set-down : List ℤ → Desk
  set-down t = desk d.now d₁.tally d.symbols d.layers d₁.serials d.used d.used_all d₁.marks d₁.inner d.header t

  abbrev counted : List ℕ → List ℤ → Desk
  counted x t = desk d.now x d.symbols d.layers d.serials d.used d.used_all d₁.marks d₁.inner d.header t

  abbrev defined : List ℕ → List ℕ → List ℤ → Desk
  defined x y t = desk d.now x y d.layers d.serials d.used d.used_all d₁.marks d.inner d.header t

  on-top : w.volume < 4294967296 → w.line < 4294967296 → d.now.block ≡ 0
      → OnTop spool form d.now d.tally d.symbols d.layers c d.serials w d.used_all (top_lent d.marks d.used d.header) (top_lent d₁.marks d₁.used d₁.header) d.scratch d₁.scratch r
      → d₁ ≡ headed d₁.scratch → Promise d₁
  on-top fv fl b h e =
      let lends = h.lends in
      subst Promise (sym (e ∙ ap headed lends.back))
      (promise.top_promise c spool k form w following d (top_lent d₁.marks d₁.used d₁.header lends.rec) fv fl refl h.did r b lends.did h.answer)

  on-drawing : d.now.block ≡ 2 → OnDrawing spool form d.now d.tally d.symbols d.layers d.marks d₁.marks d.scratch d₁.scratch r
      → d₁ ≡ marked d₁.scratch → Promise d₁
  on-drawing b h e = subst Promise (sym (e ∙ ap marked h.back)) (promise.drawing_promise c spool k form w following d d₁.marks h.rec r b h.did)

  on-names : d.now.block ≡ 3 → OnNames spool form d.now d.tally d.symbols d.layers w d₁.tally d₁.layers d.scratch d₁.scratch r
      → d₁ ≡ named d₁.scratch → Promise d₁
  on-names b h e =
      subst Promise (sym (e ∙ ap named h.0.back)) (promise.names_promise c spool k form w following d d₁.tally d₁.layers h.0.rec h.1 r b h.0.did)

  on-defines : d.now.block ≡ 4 → OnDefines spool form d.now d.tally d.symbols d.layers w d.marks d₁.marks d.scratch d₁.scratch r
      → d₁ ≡ marked d₁.scratch → Promise d₁
  on-defines b h e = subst Promise (sym (e ∙ ap marked h.back)) (promise.defines_promise c spool k form w following d d₁.marks h.rec r b h.did)

  on-symbol : length spool ≤ 61440 → d.now.block ≡ 5
      → OnSymbol spool form d.now d.tally d.symbols d.layers d₁.tally d₁.symbols d.marks d₁.marks d.scratch d₁.scratch r
      → d₁ ≡ defined d₁.tally d₁.symbols d₁.scratch → Promise d₁
  on-symbol short b h e =
      subst Promise
      (sym (
      e
      ∙ ap (λ (x : List ℕ). defined x d₁.symbols d₁.scratch) h.did.1
      ∙ ap (λ (x : List ℕ). defined (tally_named d.tally r) x d₁.scratch) h.did.2
      ∙ ap (defined (tally_named d.tally r) (symbols_named d.tally h.rec d.symbols r)) h.back
      ∙ sym (named-desk d d₁.marks h.rec r)
      ))
      (promise.symbol_promise c spool k form w following d short d₁.marks h.rec r b h.did.0)

  on-hide : d.now.block ≡ 6 → OnHide spool form d.now d.tally d.symbols d.layers w d.scratch d₁.scratch r → d₁ ≡ unmarked d₁.scratch → Promise d₁
  on-hide b h e = subst Promise (sym (e ∙ ap unmarked h.back)) (promise.hide_promise c spool k form w following d h.rec r b h.did)

  on-figures : d.now.block ≡ 8
      → OnFigures spool form d.now d.tally d.symbols d.layers c w d₁.tally d.marks d₁.marks d.inner d₁.inner d.scratch d₁.scratch r
      → d₁ ≡ counted d₁.tally d₁.scratch → Promise d₁
  on-figures b h e =
      let f : Step = h.figures in
      let after : List ℕ = tally_after d.tally (begun_step c f) in
      let is : d₁ ≡ counted after (begun_put w f (with_part 32 h.lends.rec d.scratch)) =
      e ∙ ap (λ (x : List ℕ). counted x d₁.scratch) (h.tallied ∙ ap (tally_after d.tally) h.answer) ∙ ap (counted after) (h.begun ∙ ap (begun_put w f) h.lends.back) in
      subst (λ (x : Step). LinePromise c spool k form w d d₁ following x) (sym h.answer)
      (subst (λ (x : Desk). LinePromise c spool k form w d x following (begun_step c f)) (sym is)
      (promise.figures_promise c spool k form w following d d₁.marks d₁.inner h.lends.rec f b h.lends.did))

  on_chain : d.now.block ≡ 9 → OnChain spool form d.now d.tally d.symbols d.layers w d.scratch d₁.scratch r → d₁ ≡ unmarked d₁.scratch → Promise d₁
  on_chain b h e = subst Promise (sym (e ∙ ap unmarked h.back)) (promise.chain_promise c spool k form w following d h.recs r b h.did)

  on-text : d.now.block ≡ 10 → OnText spool form d.now d.tally d.symbols d.layers d.inner d₁.inner d.scratch d₁.scratch r
      → d₁ ≡ written d₁.scratch → Promise d₁
  on-text b h e = subst Promise (sym (e ∙ ap written h.back)) (promise.text_promise c spool k form w following d d₁.inner h.rec r b h.did)

  on-placed : d.now.block ≡ 11
      → OnPlaced spool form d.now d.tally d.symbols d.layers c (lent d.tally d.serials d.marks d.inner) (lent d₁.tally d₁.serials d₁.marks d₁.inner) d.scratch d₁.scratch r
      → d₁ ≡ set-down d₁.scratch → Promise d₁
  on-placed b h e =
      subst Promise (sym (e ∙ ap set-down h.back))
      (promise.placed_promise c spool k form w following d (lent d₁.tally d₁.serials d₁.marks d₁.inner) h.rec r b h.did)

  on-wire : d.now.block ≡ 12
      → OnWire spool form d.now d.tally d.symbols d.layers c w (lent d.tally d.serials d.marks d.inner) (lent d₁.tally d₁.serials d₁.marks d₁.inner) d.scratch d₁.scratch r
      → d₁ ≡ set-down d₁.scratch → Promise d₁
  on-wire b h e =
      subst Promise (sym e) (wire_promise c spool k form w following d (lent d₁.tally d₁.serials d₁.marks d₁.inner) d₁.scratch r b h)

  pub done_promise : length spool ≤ 61440 → w.volume < 4294967296 → w.line < 4294967296 → Done c spool following form w d d₁ r → Promise d₁
  done_promise short fv fl (top b h e) = on-top fv fl b h e
  done_promise short fv fl (file b h e) = subst Promise (sym e) (promise.file_promise c spool k form w following d d₁.tally d₁.marks d₁.header refl r b h)
  done_promise short fv fl (drawing b h e) = on-drawing b h e
  done_promise short fv fl (layer-names b h e) = on-names b h e
  done_promise short fv fl (defines b h e) = on-defines b h e
  done_promise short fv fl (symbol b h e) = on-symbol short b h e
  done_promise short fv fl (hide b h e) = on-hide b h e
  done_promise short fv fl (elements b h e) = subst Promise (sym e) (promise.element_promise c spool k form w following d d₁.tally d₁.used d₁.used_all r b h)
  done_promise short fv fl (figures b h e) = on-figures b h e
  done_promise short fv fl (chain b h e) = on_chain b h e
  done_promise short fv fl (text b h e) = on-text b h e
  done_promise short fv fl (placed b h e) = on-placed b h e
  done_promise short fv fl (wire b h e) = on-wire b h e
  done_promise short fv fl (other b q e) = subst (λ (x : Step). LinePromise c spool k form w d d₁ following x) (sym q) (promise.other_promise c spool k form w following d d₁ b)
