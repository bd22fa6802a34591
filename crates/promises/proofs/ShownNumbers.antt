-- What the records of a set show of its figures: a list that is taken from the records, one after the other, is the list that is taken from
-- the figures in layers, where this holds of the records of placed symbols and of wires and other records show nothing of it.
use Rattle.std.specs.Prelude.{Some}
use Prim.Native.Nat.{ℕ, suc, ◌+◌, ◌<◌}
use mathlib.Core.Bool.{Bool, true, false, ◌||◌, not}
use mathlib.Core.List.{List, [], ◌∷◌, ◌++◌, map, append-nil}
use mathlib.Core.Path.{◌≡◌, refl, sym, ◌∙◌, ap, ap₂}
use native.Mathlib.Omega.{arith}
use lib.Dec.{eqb, leb}
use lib.IntN.{ℤ}
use borrow.Author.Tests.{eqb-true, eqb-false, ne_eqb, lt-leb}
use Rattle.rules.specs.declared.Class.{Class}
use Rattle.rules.specs.Base.{flat, within}
use Rattle.rules.specs.Values.{Num, nums}
use Rattle.rules.specs.Rows.{Held}
use Rattle.rules.specs.Blocks.{file_table, range_table, base_table, elec_table, sym_table, later_table, drawing_table, symbol_table}
use Rattle.rules.specs.Figures.{point_table, text_table}
use Rattle.rules.specs.Sets.{Point, Wire, Figure, plain, chain, lettering, placed, wired, passed, Layer, Symbol, LayerBlock, Contents, Set, wire_range}
use Rattle.rules.specs.RecordTable.{View, view_of, plain_view, start, file_records, drawing_record, layer_records, rule_at, plain_record, placed_record, line_record, point_records, figure_records, inner_records, symbol_records, block_records, later_records, records_from, records_of}
use Rattle.rules.proofs.Chains.{and_false, by_cond, map-append, flat_append}
use Rattle.promises.specs.OwnNumbers.{figures_in}
use Rattle.promises.specs.PlacesApart.{kind_of}
use Rattle.promises.proofs.FitSets.{AnyText, Each, FitFigure, FitSymbol, FitBlock, FitContents, FitVolumes, FitSet}
use Rattle.promises.proofs.FigureState.{SymbolSlot, SoundWire, SoundFigure, SoundBlock, SoundContents}
use Rattle.promises.proofs.RecordPlaces.{kind-slot}

-- kinds of records that are neither a placed symbol's nor a wire's
abbrev pub is_other : ℕ → Bool
is_other k = not (eqb k 16 || within 18 21 k)

other-below : (k : ℕ) → k < 16 → is_other k ≡ true
other-below k h = rw (ne_eqb k 16 (λ e. omega (arith, e, h)), lt-leb 18 k (omega (arith, h)))

other-above : (k : ℕ) → 21 < k → is_other k ≡ true
other-above k h = rw (ne_eqb k 16 (λ e. omega (arith, e, h)), lt-leb k 21 h, and_false (leb 18 k))

-- the row of a layer's line that is no placed symbol
other-line : (j : ℕ) → j < 8 → eqb j 6 ≡ false → is_other (10 + 0 + j) ≡ true
other-line j h q = rw (ne_eqb (10 + 0 + j) 16 (λ e. eqb-false j 6 q (omega (arith, e))), lt-leb 18 (10 + 0 + j) (omega (arith, h)))

module _ {X : Type 0} (g : List ℤ → List X) (quiet : (r : List ℤ) → is_other (kind_of r) ≡ true → g r ≡ []) where
  abbrev pub shown_in : List (List ℤ) → List X
  shown_in rs = flat (map g rs)

  shown-append : (a b : List (List ℤ)) → shown_in (a ++ b) ≡ shown_in a ++ shown_in b
  shown-append a b = ap flat (map-append g a b) ∙ flat_append (map g a) (map g b)

  -- these records show this
  pub record Tells (rs : List (List ℤ)) (xs : List X) : Type 0 where
    pub are : shown_in rs ≡ xs

  none : Tells [] []
  none = record { are = refl }

  behind : {a b : List (List ℤ)} {m n : List X} → Tells a m → Tells b n → Tells (a ++ b) (m ++ n)
  behind {a} {b} p q = record { are = shown-append a b ∙ ap₂ ◌++◌ p.are q.are }

  other : {r : List ℤ} {rs : List (List ℤ)} → is_other (kind_of r) ≡ true → Tells rs [] → Tells (r ∷ rs) []
  other {r} e p = record { are = ap₂ ◌++◌ (quiet r e) p.are }

  -- ── records outside layers ──
  header-none : (k : ℕ) (v : Contents) → Tells (file_records true k v) []
  unfolding file_table range_table base_table elec_table sym_table
  header-none k v = other refl (other refl none)

  later-none : (k : ℕ) (v : Contents) → Tells (file_records false k v) []
  unfolding later_table
  later-none k v = other refl none

  drawing-none : (s : Set) (rs : List (List ℤ)) → Tells rs [] → Tells (drawing_record s.drawing ∷ rs) []
  unfolding drawing_table
  drawing-none s rs p = other refl p

  layers-none : (n : ℕ) (ls : List Layer) → Tells (layer_records n ls) []
  layers-none n [] = none
  layers-none n (l ∷ ls) = other refl (layers-none (suc n) ls)

  points_none : (kind owner volume : ℕ) (ps : List Point) → is_other kind ≡ true → Tells (point_records kind owner volume ps) []
  points_none kind owner volume [] e = none
  points_none kind owner volume (p ∷ ps) e =
      other (ap is_other (kind-slot (rule_at (point_table true) 0) (Some (nums p.values)) (start kind owner volume p.line)) ∙ e)
      (points_none kind owner volume ps e)

  line-none : (w : View) (more owner volume n j : ℕ) (v : List Num) → is_other (10 + more + j) ≡ true → Tells (plain_record w more owner volume n j v ∷ []) []
  line-none w more owner volume n j v e =
      other (ap is_other (kind-slot (rule_at w.table j) (Some (nums v)) (start (10 + more + j) owner volume n)) ∙ e) none

  -- ── symbols ──
  symbol-line : (owner volume n j : ℕ) (v : List Num) → j < 6 → Tells (line_record plain_view 20 owner volume n j v ∷ []) []
  symbol-line owner volume n j v h =
      by_cond (λ (r : List ℤ). Tells (r ∷ []) []) (eqb j 6) (λ q. absurd (omega (arith, eqb-true j 6 q)))
      (λ _. line-none plain_view 20 owner volume n j v (other-above (10 + 20 + j) (omega arith)))

  shape-none : (owner : ℕ) (f : Figure) → FitFigure AnyText false f → Tells (figure_records plain_view 20 owner 1 f) []
  unfolding text_table
  shape-none owner (plain n j v) i = symbol-line owner 1 n j v i
  shape-none owner (chain n ps) i = other refl (points_none 37 owner 1 ps refl)
  shape-none owner (lettering n s) i = other refl none
  shape-none owner (placed n h) i = absurd i
  shape-none owner (wired n w) i = absurd i
  shape-none owner (passed n) i = absurd i

  shapes-none : (owner : ℕ) (fs : List Figure) → Each (FitFigure AnyText false) fs → Tells (flat (map (figure_records plain_view 20 owner 1) fs)) []
  shapes-none owner [] i = none
  shapes-none owner (f ∷ fs) i = behind (shape-none owner f i.0) (shapes-none owner fs i.1)

  inner-none : (n : ℕ) (y : Symbol) → FitSymbol AnyText y → Tells (inner_records n y) []
  inner-none n y i =
      let shown = shapes-none n y.figures i.1 in
      let hidden = points_none 43 n 1 y.hidden refl in
      by_cond (λ rs. Tells rs []) y.hide_first (λ _. behind hidden shown) (λ _. behind shown hidden)

  symbols-none : (n : ℕ) (ys : List Symbol) → Each (FitSymbol AnyText) ys → Tells (symbol_records n ys) []
  unfolding symbol_table
  symbols-none n [] i = none
  symbols-none n (y ∷ ys) i =
      other refl (behind (inner-none n y i.0) (symbols-none (suc n) ys i.1))

  -- ── layers: what symbols and wires show ──
  module _ (of_symbol : Held → List X) (of_wire : Wire → List X) where
    abbrev pub of_figure : Figure → List X
    of_figure (plain n j v) = []
    of_figure (chain n ps) = []
    of_figure (lettering n s) = []
    of_figure (placed n h) = of_symbol h
    of_figure (wired n w) = of_wire w
    of_figure (passed n) = []

    pub record Shown (c : Class) (s : Set) : Type 0 where
      pub symbols : (owner volume n : ℕ) (h : Held) → SymbolSlot c h → g (placed_record (view_of c s) 0 owner volume n h) ≡ of_symbol h
      -- of a file in which a placed symbol is a line alone
      pub single : (owner volume n : ℕ) (v : List Num) → g (placed_record (view_of c s) 0 owner volume n ((Some (nums v) ∷ []) ∷ [])) ≡ []
      pub wires : (owner volume n : ℕ) (w : Wire) → SoundWire c (wire_range s) w → Tells (figure_records (view_of c s) 0 owner volume (wired n w)) (of_wire w)
      pub skipped : (owner volume n : ℕ) → Tells (figure_records (view_of c s) 0 owner volume (passed n)) []

    module _ (c : Class) (s : Set) (is : Shown c s) where
      abbrev view : View
      view = view_of c s

      abbrev shown_of : List Figure → List X
      shown_of fs = flat (map of_figure fs)

      of-append : (a b : List Figure) → shown_of (a ++ b) ≡ shown_of a ++ shown_of b
      of-append a b = ap flat (map-append of_figure a b) ∙ flat_append (map of_figure a) (map of_figure b)

      all_of : (a b : List Figure) {rs : List (List ℤ)} → Tells rs (shown_of a ++ shown_of b) → Tells rs (shown_of (a ++ b))
      all_of a b p = record { are = p.are ∙ sym (of-append a b) }

      layer-line : (owner volume n j : ℕ) (v : List Num) → j < 8 → Tells (line_record view 0 owner volume n j v ∷ []) []
      layer-line owner volume n j v h =
          by_cond (λ (r : List ℤ). Tells (r ∷ []) []) (eqb j 6) (λ _. record { are = ap (λ xs. xs ++ []) (is.single owner volume n v) })
          (λ q. line-none view 0 owner volume n j v (other-line j h q))

      figure-shown : (owner volume : ℕ) (f : Figure) → FitFigure AnyText true f → SoundFigure c (wire_range s) f → Tells (figure_records view 0 owner volume f) (of_figure f)
      unfolding text_table
      figure-shown owner volume (plain n j v) f i = layer-line owner volume n j v f
      figure-shown owner volume (chain n ps) f i = other refl (points_none 17 owner volume ps refl)
      figure-shown owner volume (lettering n o) f i = other refl none
      figure-shown owner volume (placed n h) f i = record { are = append-nil (g (placed_record view 0 owner volume n h)) ∙ is.symbols owner volume n h i }
      figure-shown owner volume (wired n w) f i = is.wires owner volume n w i
      figure-shown owner volume (passed n) f i = is.skipped owner volume n

      figures-shown : (owner volume : ℕ) (fs : List Figure) → Each (FitFigure AnyText true) fs → Each (SoundFigure c (wire_range s)) fs
          → Tells (flat (map (figure_records view 0 owner volume) fs)) (shown_of fs)
      figures-shown owner volume [] f i = none
      figures-shown owner volume (x ∷ fs) f i =
          behind (figure-shown owner volume x f.0 i.0) (figures-shown owner volume fs f.1 i.1)

      abbrev figures_of : List LayerBlock → List Figure
      figures_of us = flat (map (λ u. u.figures) us)

      blocks-shown : (k : ℕ) (us : List LayerBlock) → Each (FitBlock AnyText) us → Each (SoundBlock c (wire_range s)) us
          → Tells (flat (map (block_records view k) us)) (shown_of (figures_of us))
      blocks-shown k [] f i = none
      blocks-shown k (u ∷ us) f i =
          all_of u.figures (figures_of us) (behind (figures-shown u.layer k u.figures f.0 i.0) (blocks-shown k us f.1 i.1))

      abbrev figures_of_volumes : List Contents → List Figure
      figures_of_volumes vs = flat (map (λ v. figures_of v.blocks) vs)

      later-shown : (k : ℕ) (vs : List Contents) → Each (FitContents AnyText false) vs → Each (SoundContents c (wire_range s)) vs
          → Tells (later_records view k vs) (shown_of (figures_of_volumes vs))
      later-shown k [] f i = none
      later-shown k (v ∷ vs) f i =
          all_of (figures_of v.blocks) (figures_of_volumes vs)
          (behind (behind (later-none k v) (blocks-shown k v.blocks f.0.1 i.0)) (later-shown (suc k) vs f.1 i.1))

      pub set-shown : FitSet AnyText s → Each (SoundContents c (wire_range s)) s.volumes → Tells (records_of c s) (flat (map of_figure (figures_in s)))
      unfolding records_of
      set-shown f i = go s.volumes f.2 i
        where
          go : (vs : List Contents) → FitVolumes AnyText vs → Each (SoundContents c (wire_range s)) vs → Tells (records_from c s vs) (shown_of (figures_of_volumes vs))
          go [] x y = none
          go (v ∷ vs) x y =
              all_of (figures_of v.blocks) (figures_of_volumes vs)
              (behind
              (behind
              (behind
              (behind (header-none 1 v) (drawing-none s (layer_records 0 s.drawing.layers) (layers-none 0 s.drawing.layers)))
              (symbols-none 0 s.symbols f.1))
              (blocks-shown 1 v.blocks x.0.1 y.0))
              (later-shown 2 vs x.1 y.1))
