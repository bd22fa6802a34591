-- What the fixed form writes of lists and blocks: what follows is written behind it, and one more item is one more piece at the end.
use Rattle.std.specs.Prelude.{Option, Some, None}
use Prim.Native.Nat.{ℕ, zero, suc}
use mathlib.Core.Bool.{Bool, true, false, cond}
use mathlib.Core.List.{List, [], ◌∷◌, ◌++◌, append_assoc}
use mathlib.Core.Path.{◌≡◌, refl, sym, ◌∙◌, ap}
use native.Mathlib.Omega.{arith}
use borrow.Author.Tests.{eqb-true}
use lib.Dec.{eqb}
use lib.ListN.{length, get_or}
use Rattle.rules.specs.Base.{bytes, all}
use Rattle.rules.specs.Values.{Num, Value, nums, Known, chars_of}
use Rattle.rules.specs.Rows.{Rule, Slots, Held, part_of}
use Rattle.rules.specs.Blocks.{drawing_table, symbol_table}
use Rattle.rules.specs.Figures.{figure_table, point_table, text_table, placed_tables, wire_table, wire_text_table, first_group_row}
use Rattle.rules.specs.Sets.{Point, Edge, Wire, Figure, plain, chain, lettering, placed, wired, passed, Layer, Drawing, Symbol, LayerBlock}
use Rattle.rules.specs.RecordTable.{rule_at}
use Rattle.rules.specs.FixedForm.{Text, open_line, opens_block, inner_of, line_of, show_value, show_slot, show_slots, no_inner, show_inner, show_held, block, show_points, show_edges, show_group, show_groups, show_wire_texts, show_wire, show_figure, show_figures, show_layers, show_drawing, symbol_inner, exchanged, show_symbol, show_symbols, show_defines, show_blocks}
use Rattle.rules.proofs.Chains.{and_left, and_right}
use Rattle.promises.proofs.Weights.{inner_cost, inner_open}
use Rattle.pens.specs.Noting.{show_depth}

-- what is written with other lines behind it: the same, and those lines
abbrev pub Before : (Text → Text) → Type 0
Before f = (ls : Text) → f ls ≡ f [] ++ ls

-- a writer that is handed lines which begin with others
pub more-with : (f : Text → Text) → Before f → (a b : Text) → f (a ++ b) ≡ f a ++ b
more-with f h a b = h (a ++ b) ∙ sym (append_assoc (f []) a b) ∙ ap (λ (u : Text). u ++ b) (sym (h a))

-- one writer behind the other
pub then-more : (f g : Text → Text) → Before f → Before g → Before (λ ls. f (g ls))
then-more f g p q ls = ap f (q ls) ∙ more-with f p (g []) ls

pub block_more : (key : List ℕ) (f : Text → Text) → Before f → Before (block key f)
block_more key f h ls = ap (λ (u : Text). open_line key ∷ u) (more-with f h (bytes "}" ∷ []) ls)

-- a block: its first line, what is in it, its `}`
pub block-parts : (key : List ℕ) (f : Text → Text) → Before f → block key f [] ≡ (open_line key ∷ f []) ++ bytes "}" ∷ []
block-parts key f h = ap (λ (u : Text). open_line key ∷ u) (h (bytes "}" ∷ []))

-- a row that never opens an inner block
abbrev pub opens_nothing : Rule → Bool
opens_nothing r = eqb (inner_cost (λ i. 1) r.holds) 0

pub opens_not : (r : Rule) (v : Value) → opens_nothing r ≡ true → opens_block r.holds v ≡ false
opens_not r v e = go (opens_block r.holds v) refl
  where
    go : (b : Bool) → opens_block r.holds v ≡ b → b ≡ false
    go true o = absurd (omega (arith, inner_open (λ i. 1) r.holds v o, eqb-true (inner_cost (λ i. 1) r.holds) 0 e))
    go false o = refl

module _ (k : Known) where
  -- ── slots and inner parts ──
  module _ (inner : ℕ → Text → Text) (h : (i : ℕ) → Before (inner i)) where
    value-more : (r : Rule) (v : Value) → Before (show_value k r v inner)
    value-more r v ls = go (opens_block r.holds v)
      where
        go : (b : Bool) → line_of k r v ∷ cond b (inner (inner_of r.holds) (bytes "}" ∷ ls)) ls ≡ (line_of k r v ∷ cond b (inner (inner_of r.holds) (bytes "}" ∷ [])) []) ++ ls
        go true = ap (λ (u : Text). line_of k r v ∷ u) (more-with (inner (inner_of r.holds)) (h (inner_of r.holds)) (bytes "}" ∷ []) ls)
        go false = refl

    pub slot-more : (r : Rule) (o : Option Value) → Before (show_slot k r o inner)
    slot-more r None ls = refl
    slot-more r (Some v) ls = value-more r v ls

    pub slots-more : (t : List Rule) (s : Slots) → Before (show_slots k t s inner)
    slots-more [] s ls = refl
    slots-more (r ∷ t) [] ls = refl
    slots-more (r ∷ t) (o ∷ s) ls = then-more (show_slot k r o inner) (show_slots k t s inner) (slot-more r o) (slots-more t s) ls

    -- the rows of a table in two pieces
    pub slots-append : (t t' : List Rule) (s s' : Slots) → length s ≡ length t → (ls : Text)
        → show_slots k (t ++ t') (s ++ s') inner ls ≡ show_slots k t s inner (show_slots k t' s' inner ls)
    slots-append [] t' [] s' e ls = refl
    slots-append [] t' (o ∷ s) s' e ls = absurd (omega (arith, e))
    slots-append (r ∷ t) t' [] s' e ls = absurd (omega (arith, e))
    slots-append (r ∷ t) t' (o ∷ s) s' e ls = ap (show_slot k r o inner) (slots-append t t' s s' (omega (arith, e)) ls)

  -- rows that open nothing are written alike, whatever the inner blocks are
  pub slots-flat : (inner : ℕ → Text → Text) (t : List Rule) → all opens_nothing t ≡ true → (s : Slots) (ls : Text) → show_slots k t s inner ls ≡ show_slots k t s no_inner ls
  slots-flat inner [] e s ls = refl
  slots-flat inner (r ∷ t) e [] ls = refl
  slots-flat inner (r ∷ t) e (None ∷ s) ls = slots-flat inner t (and_right (opens_nothing r) _ e) s ls
  slots-flat inner (r ∷ t) e (Some v ∷ s) ls = rw (opens_not r v (and_left (opens_nothing r) _ e), slots-flat inner t (and_right (opens_nothing r) _ e) s ls)

  pub none_more : (i : ℕ) → Before (no_inner i)
  none_more i ls = refl

  pub inner-more : (ts : List (List Rule)) (h : Held) (inner : ℕ → Text → Text) → ((i : ℕ) → Before (inner i)) → (i : ℕ) → Before (show_inner k ts h inner i)
  inner-more ts h inner f i ls = slots-more inner f (get_or ts i []) (part_of h i) ls

  pub depth-more : (ts : List (List Rule)) (h : Held) (d i : ℕ) → Before (show_depth k ts h d i)
  depth-more ts h zero i ls = refl
  depth-more ts h (suc d) i ls = inner-more ts h (show_depth k ts h d) (depth-more ts h d) i ls

  pub held_more : (ts : List (List Rule)) (h : Held) → Before (show_held k ts h)
  held_more ts h ls = depth-more ts h 3 0 ls

  -- ── points ──
  pub points-more : (b : Bool) (ps : List Point) → Before (show_points k b ps)
  points-more b [] ls = refl
  points-more b (p ∷ ps) ls = ap (λ (u : Text). line_of k (rule_at (point_table b) 0) (nums p.values) ∷ u) (points-more b ps ls)

  pub points-snoc : (b : Bool) (ps : List Point) (p : Point) (ls : Text) → show_points k b (ps ++ p ∷ []) ls ≡ show_points k b ps (show_points k b (p ∷ []) ls)
  points-snoc b [] p ls = refl
  points-snoc b (q ∷ ps) p ls = ap (λ (u : Text). line_of k (rule_at (point_table b) 0) (nums q.values) ∷ u) (points-snoc b ps p ls)

  pub points-last : (b : Bool) (ps : List Point) (p : Point) → show_points k b (ps ++ p ∷ []) [] ≡ show_points k b ps [] ++ line_of k (rule_at (point_table b) 0) (nums p.values) ∷ []
  points-last b ps p = points-snoc b ps p [] ∙ points-more b ps (show_points k b (p ∷ []) [])

  -- ── a wire's lines and arcs ──
  pub edges_more : (es : List Edge) → Before (show_edges k es)
  edges_more [] ls = refl
  edges_more (e ∷ es) ls = ap (λ (u : Text). line_of k (rule_at wire_table e.row) (nums e.values) ∷ u) (edges_more es ls)

  pub edges-snoc : (es : List Edge) (e : Edge) (ls : Text) → show_edges k (es ++ e ∷ []) ls ≡ show_edges k es (show_edges k (e ∷ []) ls)
  edges-snoc [] e ls = refl
  edges-snoc (f ∷ es) e ls = ap (λ (u : Text). line_of k (rule_at wire_table f.row) (nums f.values) ∷ u) (edges-snoc es e ls)

  pub edges-last : (es : List Edge) (e : Edge) → show_edges k (es ++ e ∷ []) [] ≡ show_edges k es [] ++ line_of k (rule_at wire_table e.row) (nums e.values) ∷ []
  edges-last es e = edges-snoc es e [] ∙ edges_more es (show_edges k (e ∷ []) [])

  -- ── a wire's keys that repeat ──
  pub group-more : (r : Rule) (vs : List (List Num)) → Before (show_group k r vs)
  group-more r [] ls = refl
  group-more r (v ∷ vs) ls = ap (λ (u : Text). line_of k r (nums v) ∷ u) (group-more r vs ls)

  pub group-snoc : (r : Rule) (vs : List (List Num)) (v : List Num) (ls : Text) → show_group k r (vs ++ v ∷ []) ls ≡ show_group k r vs (line_of k r (nums v) ∷ ls)
  group-snoc r [] v ls = refl
  group-snoc r (u ∷ vs) v ls = ap (λ (w : Text). line_of k r (nums u) ∷ w) (group-snoc r vs v ls)

  groups-more : (j : ℕ) (gs : List (List (List Num))) → Before (show_groups k j gs)
  groups-more j [] ls = refl
  groups-more j (g ∷ gs) ls = then-more (show_group k (rule_at wire_table j) g) (show_groups k (suc j) gs) (group-more (rule_at wire_table j) g) (groups-more (suc j) gs) ls

  pub texts-more : (ss : List Slots) → Before (show_wire_texts k ss)
  texts-more [] ls = refl
  texts-more (s ∷ ss) ls =
      then-more (block (bytes "text") (show_slots k wire_text_table s no_inner)) (show_wire_texts k ss)
      (block_more (bytes "text") (show_slots k wire_text_table s no_inner) (slots-more no_inner none_more wire_text_table s)) (texts-more ss) ls

  pub texts-snoc : (ss : List Slots) (s : Slots) (ls : Text) → show_wire_texts k (ss ++ s ∷ []) ls ≡ show_wire_texts k ss (block (bytes "text") (show_slots k wire_text_table s no_inner) ls)
  texts-snoc [] s ls = refl
  texts-snoc (r ∷ ss) s ls = ap (block (bytes "text") (show_slots k wire_text_table r no_inner)) (texts-snoc ss s ls)

  -- behind its elements
  pub keys-more : (w : Wire) → Before (λ ls. show_groups k first_group_row w.groups (show_wire_texts k w.texts (show_slots k wire_table w.own no_inner ls)))
  keys-more w =
      then-more (show_groups k first_group_row w.groups) (λ ls. show_wire_texts k w.texts (show_slots k wire_table w.own no_inner ls)) (groups-more first_group_row w.groups)
      (then-more (show_wire_texts k w.texts) (show_slots k wire_table w.own no_inner) (texts-more w.texts) (slots-more no_inner none_more wire_table w.own))

  pub wire-more : (w : Wire) → Before (show_wire k w)
  wire-more w =
      then-more (show_edges k w.elements) (λ ls. show_groups k first_group_row w.groups (show_wire_texts k w.texts (show_slots k wire_table w.own no_inner ls)))
      (edges_more w.elements) (keys-more w)

  -- ── figures ──
  pub figure-more : (b : Bool) (t : List Rule) (f : Figure) → Before (show_figure k b t f)
  figure-more b t (plain n j v) ls = refl
  figure-more b t (chain n ps) ls = block_more (bytes "successive") (show_points k b ps) (points-more b ps) ls
  figure-more b t (lettering n s) ls = block_more (bytes "text") (show_slots k (text_table b 4 12) s no_inner) (slots-more no_inner none_more (text_table b 4 12) s) ls
  figure-more b t (placed n h) ls = block_more (bytes "E_symbol") (show_held k placed_tables h) (held_more placed_tables h) ls
  figure-more b t (wired n w) ls = block_more (bytes "E_wire") (show_wire k w) (wire-more w) ls
  figure-more b t (passed n) ls = refl

  pub figures-more : (b : Bool) (t : List Rule) (fs : List Figure) → Before (show_figures k b t fs)
  figures-more b t [] ls = refl
  figures-more b t (f ∷ fs) ls = then-more (show_figure k b t f) (show_figures k b t fs) (figure-more b t f) (figures-more b t fs) ls

  pub figures-snoc : (b : Bool) (t : List Rule) (fs : List Figure) (f : Figure) (ls : Text) → show_figures k b t (fs ++ f ∷ []) ls ≡ show_figures k b t fs (show_figure k b t f ls)
  figures-snoc b t [] f ls = refl
  figures-snoc b t (g ∷ fs) f ls = ap (show_figure k b t g) (figures-snoc b t fs f ls)

  pub figures-last : (b : Bool) (t : List Rule) (fs : List Figure) (f : Figure) → show_figures k b t (fs ++ f ∷ []) [] ≡ show_figures k b t fs [] ++ show_figure k b t f []
  figures-last b t fs f = figures-snoc b t fs f [] ∙ figures-more b t fs (show_figure k b t f [])

  -- ── layers' names ──
  pub layers-more : (us : List Layer) → Before (show_layers k us)
  layers-more [] ls = refl
  layers-more (u ∷ us) ls = ap (λ (w : Text). (u.id ++ 61 ∷ chars_of u.name) ∷ w) (layers-more us ls)

  pub layers-last : (us : List Layer) (u : Layer) → show_layers k (us ++ u ∷ []) [] ≡ show_layers k us [] ++ (u.id ++ 61 ∷ chars_of u.name) ∷ []
  layers-last [] u = refl
  layers-last (w ∷ us) u = ap (λ (x : Text). (w.id ++ 61 ∷ chars_of w.name) ∷ x) (layers-last us u)

  pub drawing-more : (d : Drawing) → Before (show_drawing k d)
  drawing-more d ls = slots-more (λ i rest. show_layers k d.layers rest) (λ i. layers-more d.layers) drawing_table d.own ls

  -- ── symbols ──
  pub symbol-inner-more : (y : Symbol) (i : ℕ) → Before (symbol_inner k y i)
  symbol-inner-more y zero ls = refl
  symbol-inner-more y (suc zero) ls = figures-more false figure_table y.figures ls
  symbol-inner-more y (suc (suc i)) ls = points-more false y.hidden ls

  pub symbol-more : (y : Symbol) → Before (show_symbol k y)
  symbol-more y ls =
      block_more (bytes "E_symbol") (show_slots k (exchanged y.hide_first symbol_table) (exchanged y.hide_first y.own) (symbol_inner k y))
      (slots-more (symbol_inner k y) (symbol-inner-more y) (exchanged y.hide_first symbol_table) (exchanged y.hide_first y.own)) ls

  pub symbols-more : (ys : List Symbol) → Before (show_symbols k ys)
  symbols-more [] ls = refl
  symbols-more (y ∷ ys) ls = then-more (show_symbol k y) (show_symbols k ys) (symbol-more y) (symbols-more ys) ls

  pub symbols-last : (ys : List Symbol) (y : Symbol) → show_symbols k (ys ++ y ∷ []) [] ≡ show_symbols k ys [] ++ show_symbol k y []
  symbols-last ys y = go ys ∙ symbols-more ys (show_symbol k y [])
    where
      go : (us : List Symbol) → show_symbols k (us ++ y ∷ []) [] ≡ show_symbols k us (show_symbol k y [])
      go [] = refl
      go (u ∷ us) = ap (show_symbol k u) (go us)

  pub defines-more : (ys : List Symbol) → Before (show_defines k ys)
  defines-more [] ls = refl
  defines-more (y ∷ ys) ls = symbols-more (y ∷ ys) ls

  -- ── the blocks of layers ──
  pub blocks_more : (t : List Rule) (us : List LayerBlock) → Before (show_blocks k t us)
  blocks_more t [] ls = refl
  blocks_more t (u ∷ us) ls =
      let head : List ℕ = bytes "LAYER=" ++ open_line (get_or k.layers u.layer []) in
      ap (λ (w : Text). head ∷ w)
      (then-more (show_figures k true t u.figures) (λ rest. bytes "}" ∷ show_blocks k t us rest) (figures-more true t u.figures)
      (λ rest. ap (λ (w : Text). bytes "}" ∷ w) (blocks_more t us rest)) ls)

  -- one of them: its first line, its figures, its `}`
  pub blocks-one : (t : List Rule) (u : LayerBlock)
      → show_blocks k t (u ∷ []) [] ≡ ((bytes "LAYER=" ++ open_line (get_or k.layers u.layer [])) ∷ show_figures k true t u.figures []) ++ bytes "}" ∷ []
  blocks-one t u = ap (λ (w : Text). (bytes "LAYER=" ++ open_line (get_or k.layers u.layer [])) ∷ w) (figures-more true t u.figures (bytes "}" ∷ []))

  pub blocks_last : (t : List Rule) (us : List LayerBlock) (u : LayerBlock) → show_blocks k t (us ++ u ∷ []) [] ≡ show_blocks k t us [] ++ show_blocks k t (u ∷ []) []
  blocks_last t us u = go us ∙ blocks_more t us (show_blocks k t (u ∷ []) [])
    where
      go : (vs : List LayerBlock) → show_blocks k t (vs ++ u ∷ []) [] ≡ show_blocks k t vs (show_blocks k t (u ∷ []) [])
      go [] = refl
      go (v ∷ vs) =
          ap (λ (w : Text). (bytes "LAYER=" ++ open_line (get_or k.layers v.layer [])) ∷ show_figures k true t v.figures (bytes "}" ∷ w)) (go vs)
