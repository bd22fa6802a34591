-- What the lines of a volume leave as it was, and that what is shown of it only grows.
use Rattle.std.specs.Prelude.{Some, None}
use Prim.Native.Nat.{ℕ, zero, suc, ◌+◌, ◌≤◌}
use mathlib.Core.Bool.{Bool, true, false, cond, ◌||◌, not}
use mathlib.Core.List.{List, [], ◌∷◌, ◌++◌}
use mathlib.Core.Path.{◌≡◌, refl, sym, ◌∙◌, ap, subst}
use native.Mathlib.Omega.{arith}
use native.Mathlib.Nat.{le_refl}
use lib.ListN.{length, get_or, set, length-append}
use Rattle.rules.specs.Base.{bytes, is_nil, is_some}
use Rattle.rules.specs.Values.{Value, Known, chars_of}
use Rattle.rules.specs.Rows.{Rule, Slots}
use Rattle.rules.specs.Figures.{figure_table, wire_table, first_group_row}
use Rattle.rules.specs.Sets.{Point, Edge, Wire, Figure, chain, wired, Layer, Drawing, Symbol, LayerBlock, Contents, Set, with_now, with_drawing, with_symbol, with_volume, with_records, with_block, with_layer, with_own, symbol_own, symbol_figures, symbol_hidden, symbol_order, known_of}
use Rattle.rules.specs.FixedForm.{Text, open_line, block, show_drawing, show_layers, no_inner, show_slots, show_points, show_edges, show_groups, show_wire_texts, show_wire, show_figure, show_figures, show_symbol, show_symbols, show_defines, show_blocks}
use Rattle.rules.specs.Machine.{Home, in_element, in_layer, State, top, file, drawing, layer_names, defines, symbol, hide, elements, figures, successive, texts, placing, skipping, ended, is_layer, wire_block}
use Rattle.rules.specs.Wires.{with_element}
use Rattle.rules.specs.Sets.{layer_table_of}
use Rattle.rules.proofs.Chains.{clash}
use Rattle.pens.specs.Texts.{line_bytes}
use Rattle.pens.specs.Shown.{file_text, drawing_text, defines_text, front_text, element_text, top_text, drawing_begun, names_text, defines_begun, symbol_begun, shown_part, hidden_part, parts_text, elements_begun, home_known, home_rows, figures_text, owned_text, shown}
use Rattle.pens.proofs.Laying.{bytes-append}
use Rattle.pens.proofs.ShownLaws.{block-parts, layers-more, layers-last, points-more, points-last, edges_more, edges-last, wire-more as showing-more, figures-more, symbols-last, defines-more, blocks_more, blocks_last, blocks-one}
use Rattle.volumes.proofs.DrawingLaws.{rows_text, drawing-text}
use Rattle.volumes.proofs.SymbolLaws.{name_text, end_text, symbol-text}
use Rattle.volumes.proofs.HomeLaws.{block-table, volume-table, front-block, front-volume, known-records, text-records, text-more}

-- ── how much is shown ──
abbrev pub size : Text → ℕ
size t = length (line_bytes t)

pub size-append : (a b : Text) → size (a ++ b) ≡ size a + size b
size-append a b = ap length (bytes-append a b) ∙ length-append (line_bytes a) (line_bytes b)

pub le-more : (a b : Text) → size a ≤ size (a ++ b)
le-more a b = omega (arith, size-append a b)

pub le-behind : (a b c : Text) → size b ≤ size c → size (a ++ b) ≤ size (a ++ c)
le-behind a b c h = omega (arith, size-append a b, size-append a c, h)

-- what stands inside
le-inside : (x y i t : Text) → t ≡ x ++ (i ++ y) → size i ≤ size t
le-inside x y i t e = omega (arith, ap size e, size-append x (i ++ y), size-append i y)

le-headed : (x y : Text) (l : List ℕ) (i t : Text) → t ≡ l ∷ (x ++ (i ++ y)) → size (l ∷ []) + size i ≤ size t
le-headed x y l i t e = omega (arith, ap size e, size-append (l ∷ []) (x ++ (i ++ y)), size-append x (i ++ y), size-append i y)

-- a part that is shown where something was read
le-shown : (b c : Bool) (x : Text) → (b ≡ true → c ≡ true) → size (cond b x []) ≤ size (cond c x [])
le-shown true c x h = rw (h refl) (le_refl (size x))
le-shown false c x h = omega arith

-- what was read stays read
pub some-set : (o : Slots) (i j : ℕ) (v : Value) → is_some (get_or o i None) ≡ true → is_some (get_or (set o j (Some v)) i None) ≡ true
some-set [] i j v e = clash e refl
some-set (a ∷ o) zero zero v e = refl
some-set (a ∷ o) zero (suc j) v e = e
some-set (a ∷ o) (suc i) zero v e = e
some-set (a ∷ o) (suc i) (suc j) v e = some-set o i j v e

-- ── what is as it was ──
module _ (first : Bool) (s₀ : Set) where
  -- the volumes that were closed before; in a later volume the drawing and the symbols
  pub record Same (s : Set) : Type 0 where
    pub volumes : s.volumes ≡ s₀.volumes
    pub drawing : first ≡ false → s.drawing ≡ s₀.drawing
    pub symbols : first ≡ false → s.symbols ≡ s₀.symbols

  -- ELEMENT is closed: the volume at hand is one more
  pub record Closed (s : Set) : Type 0 where
    pub volumes : s.volumes ≡ s₀.volumes ++ s.now ∷ []
    pub drawing : first ≡ false → s.drawing ≡ s₀.drawing
    pub symbols : first ≡ false → s.symbols ≡ s₀.symbols

  abbrev pub HomeSound : Home → Type 0
  HomeSound (in_element y) = (first ≡ true) × (length y.own ≡ 4) × (is_some (get_or y.own 1 None) ≡ true)
  HomeSound (in_layer n) = Unit {0}

  abbrev pub Sound : State → Type 0
  Sound (top s zero) = Same s
  Sound (top s (suc zero)) = Same s × (first ≡ true)
  Sound (top s (suc (suc zero))) = Same s × (first ≡ true)
  Sound (top s (suc (suc (suc zero)))) = Same s
  Sound (top s (suc (suc (suc (suc k))))) = Closed s
  Sound (file s n h p) = Same s
  Sound (drawing s d) = Same s × (first ≡ true) × (length d.own ≡ 8)
  Sound (layer_names s d) = Same s × (first ≡ true) × (length d.own ≡ 8) × (is_some (get_or d.own 7 None) ≡ true)
  Sound (defines s b) = Same s × (first ≡ true) × (b ≡ true → s.symbols ≡ [])
  Sound (symbol s y) = Same s × (first ≡ true) × (length y.own ≡ 4)
  Sound (hide s y ps) = Same s × (first ≡ true) × (length y.own ≡ 4) × (is_some (get_or y.own 2 None) ≡ true)
  Sound (elements s) = Same s
  Sound (figures s h fs) = Same s × HomeSound h
  Sound (successive s h fs n ps) = Same s × HomeSound h
  Sound (texts s h fs n o) = Same s × HomeSound h
  Sound (placing s m fs n o p) = Same s
  Sound (skipping s m fs n o d) = Same s
  Sound (ended s) = Closed s

  pub same-records : (ks : List ℕ) (s : Set) → Same s → Same (with_records ks s)
  same-records ks s m = record { volumes = m.volumes; drawing = m.drawing; symbols = m.symbols }

  pub same-now : (v : Contents) (s : Set) → Same s → Same (with_now v s)
  same-now v s m = record { volumes = m.volumes; drawing = m.drawing; symbols = m.symbols }

  pub same-drawing : (d : Drawing) (s : Set) → first ≡ true → Same s → Same (with_drawing d s)
  same-drawing d s e m = record { volumes = m.volumes; drawing = λ f. clash e f; symbols = m.symbols }

  pub same-symbol : (y : Symbol) (s : Set) → first ≡ true → Same s → Same (with_symbol y s)
  same-symbol y s e m = record { volumes = m.volumes; drawing = m.drawing; symbols = λ f. clash e f }

  pub same-closed : (s : Set) → Same s → Closed (with_volume s)
  same-closed s m = record { volumes = ap (λ (vs : List Contents). vs ++ s.now ∷ []) m.volumes; drawing = m.drawing; symbols = m.symbols }

-- ── what is shown grows ──
module _ (K : Known) (first : Bool) where
  abbrev pub weight : State → ℕ
  weight st = size (shown K first st)

  -- ── FILE_FORMAT ──
  pub front-grows : (s : Set) → size (open_line (bytes "FILE_FORMAT") ∷ []) ≤ size (front_text K first s)
  front-grows s = go first
    where
      go : (b : Bool) → size (open_line (bytes "FILE_FORMAT") ∷ []) ≤ size (front_text K b s)
      go true = omega arith
      go false = omega arith

  -- ── DRAWING_FORMAT ──
  pub drawing-opens : (s : Set) (d : Drawing) → weight (top s 1) ≤ weight (drawing s d)
  drawing-opens s d =
      let F = file_text K true s.now.file in
      let D : Text = open_line (bytes "DRAWING_FORMAT") ∷ [] in
      omega (arith, size-append F D, size-append (F ++ D) (names_text K d))

  pub drawing-row : (s : Set) (d : Drawing) (j : ℕ) (v : Value) → weight (drawing s d) ≤ weight (drawing s (with_own (set d.own j (Some v)) d))
  drawing-row s d j v =
      le-behind (drawing_begun K s) (names_text K d) (names_text K (with_own (set d.own j (Some v)) d))
      (le-shown (is_some (get_or d.own 7 None)) (is_some (get_or (set d.own j (Some v)) 7 None)) (block (bytes "layer_name") (show_layers K d.layers) []) (some-set d.own 7 j v))

  pub names_open : (s : Set) (d : Drawing) (o : Slots) → get_or d.own 7 None ≡ None → weight (drawing s d) ≤ weight (layer_names s (with_own o d))
  names_open s d o e =
      let nothing : names_text K d ≡ [] = rw e in
      omega (
        arith,
        ap size nothing,
        size-append (drawing_begun K s) (names_text K d),
        size-append (drawing_begun K s) (open_line (bytes "layer_name") ∷ show_layers K d.layers []),
      )

  pub names_more : (s : Set) (d : Drawing) (ks : List ℕ) (u : Layer) → weight (layer_names s d) ≤ weight (layer_names (with_records ks s) (with_layer u d))
  names_more s d ks u =
      let L : Text = open_line (bytes "layer_name") ∷ [] in
      le-behind (drawing_begun K s) (open_line (bytes "layer_name") ∷ show_layers K d.layers []) (open_line (bytes "layer_name") ∷ show_layers K (d.layers ++ u ∷ []) [])
      (le-behind L (show_layers K d.layers []) (show_layers K (d.layers ++ u ∷ []) [])
      (subst (λ (x : Text). size (show_layers K d.layers []) ≤ size x) (sym (layers-last K d.layers u)) (le-more (show_layers K d.layers []) ((u.id ++ 61 ∷ chars_of u.name) ∷ []))))

  pub names-shut : (s : Set) (d : Drawing) → is_some (get_or d.own 7 None) ≡ true → weight (layer_names s d) ≤ weight (drawing s d)
  names-shut s d e =
      let L : Text = open_line (bytes "layer_name") ∷ show_layers K d.layers [] in
      let whole : names_text K d ≡ L ++ bytes "}" ∷ [] = rw e (block-parts (bytes "layer_name") (show_layers K d.layers) (layers-more K d.layers)) in
      le-behind (drawing_begun K s) L (names_text K d) (omega (arith, ap size whole, size-append L (bytes "}" ∷ [])))

  pub drawing-shut : (s : Set) (d : Drawing) → length d.own ≡ 8 → weight (drawing s d) ≤ weight (top (with_drawing d s) 2)
  drawing-shut s d eight =
      let F = file_text K true s.now.file in
      let D : Text = open_line (bytes "DRAWING_FORMAT") ∷ [] in
      let N = names_text K d in
      omega (
        arith,
        size-append F D,
        size-append (F ++ D) N,
        size-append F (drawing_text K d),
        size-append D (show_drawing K d (bytes "}" ∷ [])),
        le-inside (rows_text K d) (bytes "}" ∷ []) N (show_drawing K d (bytes "}" ∷ [])) (drawing-text K d eight),
      )

  -- ── SYMBOL_DEFINE ──
  pub defines_open : (s : Set) → weight (top s 2) ≤ weight (defines s false)
  defines_open s = le-more (top_text K true s 2) (open_line (bytes "SYMBOL_DEFINE") ∷ show_symbols K s.symbols [])

  pub defines-non : (s : Set) (b : Bool) → s.symbols ≡ [] → weight (defines s b) ≤ weight (defines s true)
  defines-non s true e = le_refl (weight (defines s true))
  defines-non s false e =
      let S : Text = open_line (bytes "SYMBOL_DEFINE") ∷ [] in
      le-behind (top_text K true s 2) (open_line (bytes "SYMBOL_DEFINE") ∷ show_symbols K s.symbols []) (open_line (bytes "SYMBOL_DEFINE") ∷ bytes "NON=" ∷ [])
      (le-behind S (show_symbols K s.symbols []) (bytes "NON=" ∷ []) (rw e (omega arith)))

  pub symbol-opens : (s : Set) (ks : List ℕ) (y : Symbol) → weight (defines s false) ≤ weight (symbol (with_records ks s) y)
  symbol-opens s ks y =
      let E : Text = open_line (bytes "E_symbol") ∷ [] in
      omega (arith, size-append (defines_begun K s false) E, size-append (defines_begun K s false ++ E) (parts_text K y))

  pub defines-shut : (s : Set) (b : Bool) → first ≡ true → (b ≡ true → s.symbols ≡ []) → (b || not (is_nil s.symbols)) ≡ true → weight (defines s b) ≤ weight (top s 3)
  defines-shut s b e f g =
      let S : Text = open_line (bytes "SYMBOL_DEFINE") ∷ [] in
      let T = top_text K true s 2 in
      let F = file_text K true s.now.file in
      let D = drawing_text K s.drawing in
      let Y = defines_text K s.symbols in
      let inside : size (open_line (bytes "SYMBOL_DEFINE") ∷ cond b (bytes "NON=" ∷ []) (show_symbols K s.symbols [])) ≤ size Y = shut b s.symbols f g in
      let front : weight (top s 3) ≡ size (F ++ D ++ Y) = ap (λ (x : Bool). size (front_text K x s)) e in
      omega (arith, front, inside, size-append T (open_line (bytes "SYMBOL_DEFINE") ∷ cond b (bytes "NON=" ∷ []) (show_symbols K s.symbols [])), size-append F D, size-append (F ++ D) Y)
    where
      shut : (b : Bool) (ys : List Symbol) → (b ≡ true → ys ≡ []) → (b || not (is_nil ys)) ≡ true
          → size (open_line (bytes "SYMBOL_DEFINE") ∷ cond b (bytes "NON=" ∷ []) (show_symbols K ys [])) ≤ size (defines_text K ys)
      shut true [] f g = omega arith
      shut true (y ∷ ys) f g = absurd (let z : ◌≡◌ {A = ℕ} 0 1 = let w = f refl in cc in omega (arith, z))
      shut false [] f g = clash g refl
      shut false (y ∷ ys) f g =
          let S : Text = open_line (bytes "SYMBOL_DEFINE") ∷ [] in
          let L = show_symbols K (y ∷ ys) [] in
          le-behind S L (show_defines K (y ∷ ys) (bytes "}" ∷ []))
          (omega (arith, ap size (defines-more K (y ∷ ys) (bytes "}" ∷ [])), size-append L (bytes "}" ∷ [])))

  -- ── a symbol ──
  parts-size : (y : Symbol) → size (parts_text K y) ≡ size (shown_part K y) + size (hidden_part K y)
  parts-size y = go y.hide_first
    where
      go : (t : Bool) → size (cond t (hidden_part K y ++ shown_part K y) (shown_part K y ++ hidden_part K y)) ≡ size (shown_part K y) + size (hidden_part K y)
      go true = omega (arith, size-append (hidden_part K y) (shown_part K y))
      go false = size-append (shown_part K y) (hidden_part K y)

  -- one row more
  shown-row : (y : Symbol) (j : ℕ) (v : Value) → size (shown_part K y) ≤ size (shown_part K (symbol_own (set y.own j (Some v)) y))
  shown-row y j v =
      le-shown (is_some (get_or y.own 1 None)) (is_some (get_or (set y.own j (Some v)) 1 None)) (block (bytes "element") (show_figures K false figure_table y.figures) []) (some-set y.own 1 j v)

  hidden-row : (y : Symbol) (j : ℕ) (v : Value) → size (hidden_part K y) ≤ size (hidden_part K (symbol_own (set y.own j (Some v)) y))
  hidden-row y j v =
      le-shown (is_some (get_or y.own 2 None)) (is_some (get_or (set y.own j (Some v)) 2 None)) (block (bytes "hide") (show_points K false y.hidden) []) (some-set y.own 2 j v)

  module _ (s : Set) (y : Symbol) where
    symbol-size : weight (symbol s y) ≡ size (symbol_begun K s) + (size (shown_part K y) + size (hidden_part K y))
    symbol-size = omega (arith, size-append (symbol_begun K s) (parts_text K y), parts-size y)

  pub symbol-row : (s : Set) (y : Symbol) (j : ℕ) (v : Value) → weight (symbol s y) ≤ weight (symbol s (symbol_own (set y.own j (Some v)) y))
  symbol-row s y j v = omega (arith, symbol-size s y, symbol-size s (symbol_own (set y.own j (Some v)) y), shown-row y j v, hidden-row y j v)

  pub element-opens : (s : Set) (y : Symbol) (j : ℕ) (v : Value) → get_or y.own 1 None ≡ None → weight (symbol s y) ≤ weight (figures s (in_element (symbol_own (set y.own j (Some v)) y)) [])
  element-opens s y j v e =
      let y' = symbol_own (set y.own j (Some v)) y in
      let E : Text = open_line (bytes "element") ∷ [] in
      let H = hidden_part K y' in
      let none_yet : shown_part K y ≡ [] = rw e in
      omega (
        arith,
        symbol-size s y,
        ap size none_yet,
        hidden-row y j v,
        size-append (symbol_begun K s) H,
        size-append (symbol_begun K s ++ H) E,
        size-append (symbol_begun K s ++ H ++ E) [],
      )

  pub hide-opens : (s : Set) (y : Symbol) (j : ℕ) (v : Value) (b : Bool) → get_or y.own 2 None ≡ None → weight (symbol s y) ≤ weight (hide s (symbol_order b (symbol_own (set y.own j (Some v)) y)) [])
  hide-opens s y j v b e =
      let y' = symbol_own (set y.own j (Some v)) y in
      let E : Text = open_line (bytes "hide") ∷ [] in
      let H = shown_part K y' in
      let none_yet : hidden_part K y ≡ [] = rw e in
      omega (arith, symbol-size s y, ap size none_yet, shown-row y j v, size-append (symbol_begun K s) H, size-append (symbol_begun K s ++ H) E)

  pub hide-more : (s : Set) (y : Symbol) (ps : List Point) (ks : List ℕ) (q : Point) → weight (hide s y ps) ≤ weight (hide (with_records ks s) y (ps ++ q ∷ []))
  hide-more s y ps ks q =
      let E : Text = open_line (bytes "hide") ∷ [] in
      let P = show_points K false ps [] in
      le-behind (symbol_begun K s ++ shown_part K y) (open_line (bytes "hide") ∷ P) (open_line (bytes "hide") ∷ show_points K false (ps ++ q ∷ []) [])
      (le-behind E P (show_points K false (ps ++ q ∷ []) []) (omega (arith, ap size (points-last K false ps q), size-append P (show_points K false (q ∷ []) []))))

  pub hide-shut : (s : Set) (y : Symbol) (ps : List Point) → is_some (get_or y.own 2 None) ≡ true → weight (hide s y ps) ≤ weight (symbol s (symbol_hidden ps y))
  hide-shut s y ps e =
      let L : Text = open_line (bytes "hide") ∷ show_points K false ps [] in
      let whole : hidden_part K (symbol_hidden ps y) ≡ L ++ bytes "}" ∷ [] = rw e (block-parts (bytes "hide") (show_points K false ps) (points-more K false ps)) in
      omega (
        arith,
        symbol-size s (symbol_hidden ps y),
        ap size whole,
        size-append L (bytes "}" ∷ []),
        size-append (symbol_begun K s) (shown_part K y),
        size-append (symbol_begun K s ++ shown_part K y) L,
      )

  pub symbol-shut : (s : Set) (y : Symbol) → length y.own ≡ 4 → weight (symbol s y) ≤ weight (defines (with_symbol y s) false)
  symbol-shut s y four =
      let T = top_text K true s 2 in
      let S : Text = open_line (bytes "SYMBOL_DEFINE") ∷ [] in
      let E : Text = open_line (bytes "E_symbol") ∷ [] in
      let Y = show_symbols K s.symbols [] in
      omega (
        arith,
        size-append (symbol_begun K s) (parts_text K y),
        size-append (defines_begun K s false) E,
        size-append T (open_line (bytes "SYMBOL_DEFINE") ∷ Y),
        size-append S Y,
        size-append T (open_line (bytes "SYMBOL_DEFINE") ∷ show_symbols K (s.symbols ++ y ∷ []) []),
        size-append S (show_symbols K (s.symbols ++ y ∷ []) []),
        ap size (symbols-last K s.symbols y),
        size-append Y (show_symbol K y []),
        le-headed (name_text K y) (end_text K y) (open_line (bytes "E_symbol")) (parts_text K y) (show_symbol K y []) (symbol-text K y four),
      )

  -- ── figures ──
  module _ (s : Set) (h : Home) where
    abbrev T : List Figure → Text
    T fs = figures_text K first s h fs

    pub figure-more : (fs : List Figure) (ks : List ℕ) (f : Figure) → weight (figures s h fs) ≤ weight (figures (with_records ks s) h (fs ++ f ∷ []))
    figure-more fs ks f =
        omega (
          arith,
          ap size (text-records K first ks s h (fs ++ f ∷ [])),
          ap size (text-more K first s h fs f),
          size-append (T fs) (show_figure (home_known K s h) (is_layer h) (home_rows K s h) f []),
        )

    pub figure-opens : (fs : List Figure) (ks : List ℕ) (x : Text) → size (T fs) ≤ size (figures_text K first (with_records ks s) h fs ++ x)
    figure-opens fs ks x = omega (arith, ap size (text-records K first ks s h fs), size-append (figures_text K first (with_records ks s) h fs) x)

    -- a figure that is a block, closed
    pub figure-shut : (fs : List Figure) (f : Figure) (x : Text) → size x ≤ size (show_figure (home_known K s h) (is_layer h) (home_rows K s h) f []) → size (T fs ++ x) ≤ weight (figures s h (fs ++ f ∷ []))
    figure-shut fs f x e =
        omega (
          arith,
          e,
          size-append (T fs) x,
          ap size (text-more K first s h fs f),
          size-append (T fs) (show_figure (home_known K s h) (is_layer h) (home_rows K s h) f []),
        )

    abbrev P : List Point → Text
    P ps = show_points (home_known K s h) (is_layer h) ps []

    pub chain_more : (fs : List Figure) (m : ℕ) (ps : List Point) (ks : List ℕ) (q : Point) → weight (successive s h fs m ps) ≤ weight (successive (with_records ks s) h fs m (ps ++ q ∷ []))
    chain_more fs m ps ks q =
        let S : Text = open_line (bytes "successive") ∷ [] in
        let T' = figures_text K first (with_records ks s) h fs in
        let P' = show_points (home_known K (with_records ks s) h) (is_layer h) (ps ++ q ∷ []) [] in
        omega (
          arith,
          size-append (T fs) (open_line (bytes "successive") ∷ P ps),
          size-append S (P ps),
          size-append T' (open_line (bytes "successive") ∷ P'),
          size-append S P',
          ap size (text-records K first ks s h fs),
          ap (λ (k : Known). size (show_points k (is_layer h) (ps ++ q ∷ []) [])) (known-records K first ks s h),
          ap size (points-last (home_known K s h) (is_layer h) ps q),
          size-append (P ps) (show_points (home_known K s h) (is_layer h) (q ∷ []) []),
        )

    pub chain-shut : (fs : List Figure) (m : ℕ) (ps : List Point) → weight (successive s h fs m ps) ≤ weight (figures s h (fs ++ chain m ps ∷ []))
    chain-shut fs m ps =
        figure-shut fs (chain m ps) (open_line (bytes "successive") ∷ P ps)
        (omega (
          arith,
          ap size (block-parts (bytes "successive") (show_points (home_known K s h) (is_layer h) ps) (points-more (home_known K s h) (is_layer h) ps)),
          size-append (open_line (bytes "successive") ∷ P ps) (bytes "}" ∷ []),
        ))

  -- ── a wire ──
  module _ (s : Set) (m : ℕ) (fs : List Figure) (n : ℕ) (w : Wire) where
    abbrev W : Text
    W = open_line (bytes "E_wire") ∷ show_edges (known_of s) w.elements []

    pub wire-more : (i : ℕ) (ks : List ℕ) (e : Edge) → weight (placing s m fs n (wire_block w) i) ≤ weight (placing (with_records ks s) m fs n (wire_block (with_element w e)) 0)
    wire-more i ks e =
        let F = figures_text K first s (in_layer m) fs in
        let F' = figures_text K first (with_records ks s) (in_layer m) fs in
        let S : Text = open_line (bytes "E_wire") ∷ [] in
        let L = show_edges (known_of s) w.elements [] in
        let L' = show_edges (known_of s) (w.elements ++ e ∷ []) [] in
        omega (
          arith,
          size-append F W,
          size-append S L,
          size-append F' (open_line (bytes "E_wire") ∷ L'),
          size-append S L',
          ap size (text-records K first ks s (in_layer m) fs),
          ap size (edges-last (known_of s) w.elements e),
          size-append L (show_edges (known_of s) (e ∷ []) []),
        )

    -- the same elements, in the wire or in what is skipped in it
    pub wire-same : (w' : Wire) (i j : ℕ) → w'.elements ≡ w.elements → size (figures_text K first s (in_layer m) fs ++ W) ≤ size (figures_text K first s (in_layer m) fs ++ owned_text K s (wire_block w'))
    wire-same w' i j e =
        omega (arith, ap (λ (es : List Edge). size (figures_text K first s (in_layer m) fs ++ (open_line (bytes "E_wire") ∷ show_edges (known_of s) es []))) e)

    pub wire-shut : (i : ℕ) → weight (placing s m fs n (wire_block w) i) ≤ weight (figures s (in_layer m) (fs ++ wired n w ∷ []))
    wire-shut i =
        let k = known_of s in
        let rest : Text = show_groups k first_group_row w.groups (show_wire_texts k w.texts (show_slots k wire_table w.own no_inner [])) in
        figure-shut s (in_layer m) fs (wired n w) W
        (omega (
          arith,
          ap size (block-parts (bytes "E_wire") (show_wire k w) (showing-more k w)),
          ap size (edges_more k w.elements rest),
          size-append (open_line (bytes "E_wire") ∷ show_wire k w []) (bytes "}" ∷ []),
          size-append (open_line (bytes "E_wire") ∷ []) (show_wire k w []),
          size-append (open_line (bytes "E_wire") ∷ []) (show_edges k w.elements []),
          size-append (show_edges k w.elements []) rest,
        ))

  pub element-shut : (s : Set) (y : Symbol) (fs : List Figure) → is_some (get_or y.own 1 None) ≡ true → weight (figures s (in_element y) fs) ≤ weight (symbol s (symbol_figures fs y))
  element-shut s y fs e =
      let E : Text = open_line (bytes "element") ∷ [] in
      let F = show_figures K false figure_table fs [] in
      let H = hidden_part K y in
      let whole : shown_part K (symbol_figures fs y) ≡ (open_line (bytes "element") ∷ F) ++ bytes "}" ∷ [] = rw e (block-parts (bytes "element") (show_figures K false figure_table fs) (figures-more K false figure_table fs)) in
      omega (
        arith,
        symbol-size s (symbol_figures fs y),
        ap size whole,
        size-append (open_line (bytes "element") ∷ F) (bytes "}" ∷ []),
        size-append E F,
        size-append (symbol_begun K s) H,
        size-append (symbol_begun K s ++ H) E,
        size-append (symbol_begun K s ++ H ++ E) F,
      )

  -- ── ELEMENT ──
  pub elements_open : (s : Set) → weight (top s 3) ≤ weight (elements s)
  elements_open s = le-more (front_text K first s) (open_line (bytes "ELEMENT") ∷ show_blocks (known_of s) (layer_table_of s) s.now.blocks [])

  pub layer-opens : (s : Set) (m : ℕ) → weight (elements s) ≤ weight (figures s (in_layer m) [])
  layer-opens s m =
      let L : Text = (bytes "LAYER=" ++ open_line (get_or (known_of s).layers m [])) ∷ [] in
      omega (arith, size-append (elements_begun K first s) L, size-append (elements_begun K first s ++ L) [])

  pub layer-shut : (s : Set) (m : ℕ) (fs : List Figure) → weight (figures s (in_layer m) fs) ≤ weight (elements (with_block (record { layer = m; figures = fs }) s))
  layer-shut s m fs =
      let u : LayerBlock = record { layer = m; figures = fs } in
      let k = known_of s in
      let t = layer_table_of s in
      let us = s.now.blocks in
      let N = front_text K first s in
      let E : Text = open_line (bytes "ELEMENT") ∷ [] in
      let B = show_blocks k t us [] in
      let L : Text = (bytes "LAYER=" ++ open_line (get_or k.layers m [])) ∷ [] in
      let F = show_figures k true t fs [] in
      let is : shown K first (elements (with_block u s)) ≡ N ++ open_line (bytes "ELEMENT") ∷ (B ++ ((L ++ F) ++ bytes "}" ∷ [])) =
      ap (λ (f : Text). f ++ open_line (bytes "ELEMENT") ∷ show_blocks k (layer_table_of (with_block u s)) (us ++ u ∷ []) []) (front-block K first u s)
      ∙ ap (λ (x : List Rule). N ++ open_line (bytes "ELEMENT") ∷ show_blocks k x (us ++ u ∷ []) []) (block-table u s)
      ∙ ap (λ (b : Text). N ++ open_line (bytes "ELEMENT") ∷ b) (blocks_last k t us u ∙ ap (λ (b : Text). B ++ b) (blocks-one k t u)) in
      omega (
        arith,
        ap size is,
        size-append N (open_line (bytes "ELEMENT") ∷ (B ++ ((L ++ F) ++ bytes "}" ∷ []))),
        size-append E (B ++ ((L ++ F) ++ bytes "}" ∷ [])),
        size-append B ((L ++ F) ++ bytes "}" ∷ []),
        size-append (L ++ F) (bytes "}" ∷ []),
        size-append L F,
        size-append N (open_line (bytes "ELEMENT") ∷ B),
        size-append E B,
        size-append (elements_begun K first s) L,
        size-append (elements_begun K first s ++ L) F,
      )

  pub elements-shut : (s : Set) → weight (elements s) ≤ weight (top (with_volume s) 4)
  elements-shut s =
      let t = layer_table_of s in
      let k = known_of s in
      let us = s.now.blocks in
      let N = front_text K first s in
      let E : Text = open_line (bytes "ELEMENT") ∷ [] in
      let B = show_blocks k t us [] in
      let is : shown K first (top (with_volume s) 4) ≡ N ++ (open_line (bytes "ELEMENT") ∷ (B ++ bytes "}" ∷ [])) =
      ap (λ (f : Text). f ++ (open_line (bytes "ELEMENT") ∷ show_blocks k (layer_table_of (with_volume s)) us (bytes "}" ∷ []))) (front-volume K first s)
      ∙ ap (λ (x : List Rule). N ++ (open_line (bytes "ELEMENT") ∷ show_blocks k x us (bytes "}" ∷ []))) (volume-table s)
      ∙ ap (λ (f : Text). N ++ (open_line (bytes "ELEMENT") ∷ f)) (blocks_more k t us (bytes "}" ∷ [])) in
      omega (
        arith,
        ap size is,
        size-append N (open_line (bytes "ELEMENT") ∷ (B ++ bytes "}" ∷ [])),
        size-append E (B ++ bytes "}" ∷ []),
        size-append B (bytes "}" ∷ []),
        size-append N (open_line (bytes "ELEMENT") ∷ B),
        size-append E B,
      )

  pub eof-grows : (s : Set) → weight (top s 4) ≤ weight (ended s)
  eof-grows s = le-more (front_text K first s ++ element_text K s) (bytes "EOF" ∷ [])
