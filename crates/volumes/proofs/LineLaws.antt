-- One line, in any state: what the code promises of it is what the definitions make of it.
use Rattle.std.specs.Prelude.{Result, Ok}
use Prim.Native.Nat.{ℕ, zero, suc}
use mathlib.Core.Bool.{Bool}
use mathlib.Core.List.{List, ◌∷◌}
use mathlib.Core.Path.{◌≡◌, sym, ◌∙◌, ap, subst}
use native.Mathlib.Omega.{arith}
use lib.ListN.{length}
use Rattle.rules.specs.declared.LineForm.{LineForm}
use Rattle.rules.specs.declared.LineForm.TheVariants as L
use Rattle.rules.specs.declared.Span.{Span}
use Rattle.rules.specs.RefusalNumbers.{got}
use Rattle.rules.specs.Lines.{Form, ignored, wrong, close, eof, keyed, bytes_at}
use Rattle.rules.specs.Values.{Known}
use Rattle.rules.specs.Machine.{Line, Env, State, top, file, drawing, layer_names, defines, symbol, hide, elements, figures, successive, texts, placing, skipping, ended, on_top, on_file, on_drawing, on_layer_names, on_defines, on_symbol, on_hide, on_elements, on_figures, on_successive, on_texts}
use Rattle.rules.specs.PlacedSymbol.{on_placing, on_skipping}
use Rattle.rules.specs.Wires.{on_wire_own, on_wire_text}
use Rattle.rules.specs.Sets.{known_of}
use Rattle.rules.specs.LineByLine.{step_in}
use Rattle.rules.specs.Answers.{full_class}
use Rattle.rules.specs.Machine.{symbol_block, wire_block, wire_unread}
use Rattle.rules.proofs.Chains.{never}
use Rattle.entries.specs.declared.Rest.{Rest}
use Rattle.entries.specs.declared.Rest.TheVariants as R
use Rattle.entries.specs.Shapes.{rest_in}
use Rattle.pens.specs.declared.Pen.{Pen}
use Rattle.pens.specs.Keys.{KeyLine, EofLine, PlacedRest}
use Rattle.pens.specs.KeyWriting.{KeyOrName}
use Rattle.pens.specs.Closing.{CloseDone, WireDone}
use Rattle.pens.specs.Standing.{Pens, Since, Along}
use Rattle.pens.specs.Drawing.{FormFits, LineOut, DrawPromise}
use Rattle.volumes.proofs.TopLaws.{top_key_lem, top-eof, top-close}
use Rattle.volumes.proofs.FileLaws.{file-key, file-close}
use Rattle.volumes.proofs.DrawingLaws.{drawing-key, drawing-close, names_key, names-close}
use Rattle.volumes.proofs.DefinesLaws.{defines-key, defines-close}
use Rattle.volumes.proofs.SymbolLaws.{symbol-key, symbol-close}
use Rattle.volumes.proofs.HideLaws.{hide-key, hide-close}
use Rattle.volumes.proofs.ElementLaws.{elements-key, elements-close}
use Rattle.volumes.proofs.FigureLaws.{figures-key, figures-close}
use Rattle.volumes.proofs.ChainLaws.{successive-key, successive-close}
use Rattle.volumes.proofs.WireLaws.{wire-key, wire-close}
use Rattle.volumes.proofs.TextLaws.{texts-key, texts-close}
use Rattle.volumes.proofs.PlacedLaws.{placing-key, placing-close}
use Rattle.leaves.specs.declared.NoRoom.{NoRoom}

module _ (K : Known) (spool : List ℕ) (first : Bool) (p : Pen) (ns out : List ℕ) (e : Env) (l : Line) (c : e.class ≡ full_class) (st' : State) (ns' out' : List ℕ) (d : Result Pen NoRoom) (size : length out' ≡ length out) (many : length ns' ≡ 28) where
  elsewhere : (b : ℕ) → p.block ≡ b → (b ≡ 3 → ⊥) → p.block ≡ 3 → ⊥
  elsewhere b e f h = f (sym e ∙ h)

  -- ── a key ──
  module _ (key : Span) (rest : Rest) (f : l.form ≡ keyed (bytes_at spool key) (rest_in spool rest)) (placed : PlacedRest rest) (fits : FormFits l.form) (w : KeyOrName spool first key rest p ns ns' out out' d) where
    row : (b : ℕ) → p.block ≡ b → (b ≡ 3 → ⊥) → KeyLine spool first key rest p ns ns' out out' d
    row b e h = w.row (elsewhere b e h)

    pub on-key : (st : State) → Pens K spool first p ns out st → step_in e l st ≡ got st' → LineOut K spool first st' ns' out' d
    on-key (top s k) z q = top_key_lem K spool first p ns out s k z e l c st' q ns' out' d size many key rest f placed fits (row 0 z.here.0 (λ h. omega (arith, h)))
    on-key (file s n h i) z q = file-key K spool first p ns out s n h i z e l c st' q ns' out' d size many key rest f placed fits (row 1 z.here.0 (λ h. omega (arith, h)))
    on-key (drawing s g) z q = drawing-key K spool first p ns out s g z e l c st' q ns' out' d size many key rest f placed fits (row 2 z.here.0 (λ h. omega (arith, h)))
    on-key (layer_names s g) z q = let (a, b) = w.name z.here.0 in names_key K spool first p ns out s g z e l c st' q ns' out' d size many key rest f placed fits a b
    on-key (defines s b) z q = defines-key K spool first p ns out s b z e l c st' q ns' out' d size many key rest f placed fits (row 4 z.here.0 (λ h. omega (arith, h)))
    on-key (symbol s y) z q = symbol-key K spool first p ns out s y z e l c st' q ns' out' d size many key rest f placed fits (row 5 z.here.0 (λ h. omega (arith, h)))
    on-key (hide s y ps) z q = hide-key K spool first p ns out s y ps z e l c st' q ns' out' d size many key rest f placed fits (row 6 z.here.0 (λ h. omega (arith, h)))
    on-key (elements s) z q = elements-key K spool first p ns out e l c st' ns' out' d size many s z q key rest f placed fits (row 7 z.here.0 (λ h. omega (arith, h)))
    on-key (figures s h fs) z q = figures-key K spool first p ns out e l c st' ns' out' d size many s h fs z q key rest f placed fits (row 8 z.here.0 (λ h. omega (arith, h)))
    on-key (successive s h fs n qs) z q = successive-key K spool first p ns out e l c st' ns' out' d size many s h fs n qs z q key rest f placed fits (row 9 z.here.0 (λ h. omega (arith, h)))
    on-key (texts s h fs n o) z q = texts-key K spool first p ns out e l c st' ns' out' d size many s h fs n o z q key rest f placed fits (row 10 z.here.0 (λ h. omega (arith, h)))
    on-key (placing s m fs n (symbol_block o) i) z q = placing-key K spool first p ns out e l c st' ns' out' d size many s m fs n o i z q key rest f placed fits (row 11 z.here.0 (λ h. omega (arith, h)))
    on-key (placing s m fs n (wire_block x) i) z q = wire-key K spool first p ns out e l c st' ns' out' d size many s m fs n x i z q key rest f placed fits (row 12 z.here.0 (λ h. omega (arith, h)))
    on-key (placing s m fs n wire_unread i) z q = never q
    on-key (skipping s m fs n o i) z q = absurd z.here
    on-key (ended s) z q = never q

  -- ── a `}` ──
  module _ (f : l.form ≡ close) (w : CloseDone spool first p ns out out' d) (same : ns' ≡ ns) (body : List ℕ) (start from : ℕ) (hs : List Form) (x : WireDone spool body start from p ns out out' d) where
    pub on-close : (st : State) → Pens K spool first p ns out st → Along spool body start from (l.form ∷ hs) st → step_in e l st ≡ got st' → LineOut K spool first st' ns' out' d
    on-close (top s k) z along q = top-close K spool first p ns out s k z e l c st' q ns' out' d size many f
    on-close (file s n h i) z along q = file-close K spool first p ns out s n h i z e l c st' q ns' out' d size many f w same
    on-close (drawing s g) z along q = drawing-close K spool first p ns out s g z e l c st' q ns' out' d size many f w same
    on-close (layer_names s g) z along q = names-close K spool first p ns out s g z e l c st' q ns' out' d size many f w same
    on-close (defines s b) z along q = defines-close K spool first p ns out s b z e l c st' q ns' out' d size many f w same
    on-close (symbol s y) z along q = symbol-close K spool first p ns out s y z e l c st' q ns' out' d size many f w same
    on-close (hide s y ps) z along q = hide-close K spool first p ns out s y ps z e l c st' q ns' out' d size many f w same
    on-close (elements s) z along q = elements-close K spool first p ns out e l c st' ns' out' d size many s z q f w same
    on-close (figures s h fs) z along q = figures-close K spool first p ns out e l c st' ns' out' d size many s h fs z q f w same
    on-close (successive s h fs n qs) z along q = successive-close K spool first p ns out e l c st' ns' out' d size many s h fs n qs z q f w same
    on-close (texts s h fs n o) z along q = texts-close K spool first p ns out e l c st' ns' out' d size many s h fs n o z q f w same
    on-close (placing s m fs n (symbol_block o) i) z along q = placing-close K spool first p ns out e l c st' ns' out' d size many s m fs n o i z q f w same
    on-close (placing s m fs n (wire_block u) i) z along q =
        wire-close K spool first p ns out e l c st' ns' out' d size many s m fs n u f body start from hs same i z (subst (λ (g : Form). Since spool body start from (g ∷ hs) (known_of s) u i) f along) q w x
    on-close (placing s m fs n wire_unread i) z along q = never q
    on-close (skipping s m fs n o i) z along q = absurd z.here
    on-close (ended s) z along q = never q

  -- ── EOF: at the top level alone ──
  module _ (f : l.form ≡ eof) (w : EofLine p out out' d) (same : ns' ≡ ns) where
    pub on-eof : (st : State) → Pens K spool first p ns out st → step_in e l st ≡ got st' → LineOut K spool first st' ns' out' d
    on-eof (top s k) z q = top-eof K spool first p ns out s k z e l c st' q ns' out' d size many f w same
    on-eof (file s n h i) z q = never (ap (on_file l s n h i) (sym f) ∙ q)
    on-eof (drawing s g) z q = never (ap (on_drawing s g) (sym f) ∙ q)
    on-eof (layer_names s g) z q = never (ap (on_layer_names e l s g) (sym f) ∙ q)
    on-eof (defines s b) z q = never (ap (on_defines e l s b) (sym f) ∙ q)
    on-eof (symbol s y) z q = never (ap (on_symbol s y) (sym f) ∙ q)
    on-eof (hide s y ps) z q = never (ap (on_hide e l s y ps) (sym f) ∙ q)
    on-eof (elements s) z q = never (ap (on_elements s) (sym f) ∙ q)
    on-eof (figures s h fs) z q = never (ap (on_figures e l s h fs) (sym f) ∙ q)
    on-eof (successive s h fs n ps) z q = never (ap (on_successive e l s h fs n ps) (sym f) ∙ q)
    on-eof (texts s h fs n o) z q = never (ap (on_texts s h fs n o) (sym f) ∙ q)
    on-eof (placing s m fs n (symbol_block o) zero) z q = never (ap (on_placing e s m fs n o 0) (sym f) ∙ q)
    on-eof (placing s m fs n (symbol_block o) (suc i)) z q = never (ap (on_placing e s m fs n o (suc i)) (sym f) ∙ q)
    on-eof (placing s m fs n (wire_block x) zero) z q = never (ap (on_wire_own e l s m fs n x) (sym f) ∙ q)
    on-eof (placing s m fs n (wire_block x) (suc i)) z q = never (ap (on_wire_text s m fs n x (suc i)) (sym f) ∙ q)
    on-eof (placing s m fs n wire_unread i) z q = never q
    on-eof (skipping s m fs n o i) z q = absurd z.here
    on-eof (ended s) z q = never q

  -- ── a line that is refused in any state ──
  pub on-wrong : {P : Type 0} (m : ℕ) → l.form ≡ wrong m → (st : State) → step_in e l st ≡ got st' → P
  on-wrong m f (top s k) q = never (ap (on_top e l s k) (sym f) ∙ q)
  on-wrong m f (file s n h i) q = never (ap (on_file l s n h i) (sym f) ∙ q)
  on-wrong m f (drawing s g) q = never (ap (on_drawing s g) (sym f) ∙ q)
  on-wrong m f (layer_names s g) q = never (ap (on_layer_names e l s g) (sym f) ∙ q)
  on-wrong m f (defines s b) q = never (ap (on_defines e l s b) (sym f) ∙ q)
  on-wrong m f (symbol s y) q = never (ap (on_symbol s y) (sym f) ∙ q)
  on-wrong m f (hide s y ps) q = never (ap (on_hide e l s y ps) (sym f) ∙ q)
  on-wrong m f (elements s) q = never (ap (on_elements s) (sym f) ∙ q)
  on-wrong m f (figures s h fs) q = never (ap (on_figures e l s h fs) (sym f) ∙ q)
  on-wrong m f (successive s h fs n ps) q = never (ap (on_successive e l s h fs n ps) (sym f) ∙ q)
  on-wrong m f (texts s h fs n o) q = never (ap (on_texts s h fs n o) (sym f) ∙ q)
  on-wrong m f (placing s h fs n (symbol_block o) zero) q = never (ap (on_placing e s h fs n o 0) (sym f) ∙ q)
  on-wrong m f (placing s h fs n (symbol_block o) (suc i)) q = never (ap (on_placing e s h fs n o (suc i)) (sym f) ∙ q)
  on-wrong m f (placing s h fs n (wire_block x) zero) q = never (ap (on_wire_own e l s h fs n x) (sym f) ∙ q)
  on-wrong m f (placing s h fs n (wire_block x) (suc i)) q = never (ap (on_wire_text s h fs n x (suc i)) (sym f) ∙ q)
  on-wrong m f (placing s h fs n wire_unread i) q = never q
  on-wrong m f (skipping s h fs n b i) q = never (ap (on_skipping s h fs n b i) (sym f) ∙ q)
  on-wrong m f (ended s) q = never q

  -- ── an ignored line: nothing changes ──
  stays : (st : State) → got st ≡ got st' → st ≡ st'
  stays st q = cc

  pub on-ignored : l.form ≡ ignored → (st : State) → Pens K spool first p ns out st → step_in e l st ≡ got st' → st ≡ st'
  on-ignored f (top s k) z q = stays (top s k) (ap (on_top e l s k) (sym f) ∙ q)
  on-ignored f (file s n h i) z q = stays (file s n h i) (ap (on_file l s n h i) (sym f) ∙ q)
  on-ignored f (drawing s g) z q = stays (drawing s g) (ap (on_drawing s g) (sym f) ∙ q)
  on-ignored f (layer_names s g) z q = stays (layer_names s g) (ap (on_layer_names e l s g) (sym f) ∙ q)
  on-ignored f (defines s b) z q = stays (defines s b) (ap (on_defines e l s b) (sym f) ∙ q)
  on-ignored f (symbol s y) z q = stays (symbol s y) (ap (on_symbol s y) (sym f) ∙ q)
  on-ignored f (hide s y ps) z q = stays (hide s y ps) (ap (on_hide e l s y ps) (sym f) ∙ q)
  on-ignored f (elements s) z q = stays (elements s) (ap (on_elements s) (sym f) ∙ q)
  on-ignored f (figures s h fs) z q = stays (figures s h fs) (ap (on_figures e l s h fs) (sym f) ∙ q)
  on-ignored f (successive s h fs n ps) z q = stays (successive s h fs n ps) (ap (on_successive e l s h fs n ps) (sym f) ∙ q)
  on-ignored f (texts s h fs n o) z q = stays (texts s h fs n o) (ap (on_texts s h fs n o) (sym f) ∙ q)
  on-ignored f (placing s m fs n (symbol_block o) zero) z q = stays (placing s m fs n (symbol_block o) 0) (ap (on_placing e s m fs n o 0) (sym f) ∙ q)
  on-ignored f (placing s m fs n (symbol_block o) (suc i)) z q = stays (placing s m fs n (symbol_block o) (suc i)) (ap (on_placing e s m fs n o (suc i)) (sym f) ∙ q)
  on-ignored f (placing s m fs n (wire_block x) zero) z q = stays (placing s m fs n (wire_block x) 0) (ap (on_wire_own e l s m fs n x) (sym f) ∙ q)
  on-ignored f (placing s m fs n (wire_block x) (suc i)) z q = stays (placing s m fs n (wire_block x) (suc i)) (ap (on_wire_text s m fs n x (suc i)) (sym f) ∙ q)
  on-ignored f (placing s m fs n wire_unread i) z q = never q
  on-ignored f (skipping s m fs n b i) z q = stays (skipping s m fs n b i) (ap (on_skipping s m fs n b i) (sym f) ∙ q)
  on-ignored f (ended s) z q = never q

-- ── by the code's form ──
-- what the code does with a line of this form
abbrev pub FormDone : List ℕ → List ℕ → ℕ → ℕ → Bool → LineForm → Pen → List ℕ → List ℕ → List ℕ → List ℕ → Result Pen NoRoom → Type 0
FormDone spool body start from first L.Ignored p ns₀ ns₁ before after d = (d ≡ Ok p) × (ns₁ ≡ ns₀) × (after ≡ before)
FormDone spool body start from first L.Close p ns₀ ns₁ before after d = CloseDone spool first p ns₀ before after d × WireDone spool body start from p ns₀ before after d × (ns₁ ≡ ns₀)
FormDone spool body start from first L.Eof p ns₀ ns₁ before after d = EofLine p before after d × (ns₁ ≡ ns₀)
FormDone spool body start from first (L.Opens o) p ns₀ ns₁ before after d = KeyOrName spool first o.key R.Brace p ns₀ ns₁ before after d
FormDone spool body start from first (L.Equals q) p ns₀ ns₁ before after d = KeyOrName spool first q.key (R.Equals q.rest) p ns₀ ns₁ before after d
FormDone spool body start from first (L.Refused r) p ns₀ ns₁ before after d = Unit {0}

-- is what a line is to write
pub line_law : (spool body : List ℕ) (start from : ℕ) (first : Bool) (form : LineForm) (p : Pen) (ns₀ ns₁ before after : List ℕ) (d : Result Pen NoRoom)
    → length after ≡ length before → length ns₁ ≡ 28 → FormDone spool body start from first form p ns₀ ns₁ before after d → DrawPromise spool body start from first form p ns₀ ns₁ before after d
line_law spool body start from first L.Ignored p ns₀ ns₁ before after d size many w K e l hs st st' c f placed fits z y q =
    let (go, same, kept) = w in
    let here : st ≡ st' = on-ignored K spool first p ns₀ before e l c st' ns₁ after d size many f st z q in
    let z₁ : Pens K spool first p ns₁ before st = subst (λ (u : List ℕ). Pens K spool first p u before st) (sym same) z in
    let z₂ : Pens K spool first p ns₁ after st = subst (λ (u : List ℕ). Pens K spool first p ns₁ u st) (sym kept) z₁ in
    subst (LineOut K spool first st' ns₁ after) (sym go) (subst (Pens K spool first p ns₁ after) here z₂)
line_law spool body start from first L.Close p ns₀ ns₁ before after d size many w K e l hs st st' c f placed fits z y q =
    on-close K spool first p ns₀ before e l c st' ns₁ after d size many f w.0 w.2 body start from hs w.1 st z y q
line_law spool body start from first L.Eof p ns₀ ns₁ before after d size many w K e l hs st st' c f placed fits z y q =
    on-eof K spool first p ns₀ before e l c st' ns₁ after d size many f w.0 w.1 st z q
line_law spool body start from first (L.Opens o) p ns₀ ns₁ before after d size many w K e l hs st st' c f placed fits z y q =
    on-key K spool first p ns₀ before e l c st' ns₁ after d size many o.key R.Brace f tt fits w st z q
line_law spool body start from first (L.Equals r) p ns₀ ns₁ before after d size many w K e l hs st st' c f placed fits z y q =
    on-key K spool first p ns₀ before e l c st' ns₁ after d size many r.key (R.Equals r.rest) f placed fits w st z q
line_law spool body start from first (L.Refused r) p ns₀ ns₁ before after d size many w K e l hs st st' c f placed fits z y q =
    on-wrong K spool first p ns₀ before e l c st' ns₁ after d size many r.number f st q

-- the form is one that is known
pub line_same : (spool body : List ℕ) (start from : ℕ) (first : Bool) (form f : LineForm) (p : Pen) (ns₀ ns₁ before after : List ℕ) (d : Result Pen NoRoom)
    → form ≡ f → length after ≡ length before → length ns₁ ≡ 28 → FormDone spool body start from first f p ns₀ ns₁ before after d → DrawPromise spool body start from first form p ns₀ ns₁ before after d
line_same spool body start from first form f p ns₀ ns₁ before after d e size many w =
    subst (λ (x : LineForm). DrawPromise spool body start from first x p ns₀ ns₁ before after d) (sym e) (line_law spool body start from first f p ns₀ ns₁ before after d size many w)
