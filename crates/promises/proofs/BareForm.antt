-- The fixed form does not look at places.
use Rattle.std.specs.Prelude.{Some, None}
use Prim.Native.Nat.{ℕ, zero, suc}
use mathlib.Core.Bool.{Bool, true, false, cond}
use mathlib.Core.List.{List, [], ◌∷◌, map}
use mathlib.Core.Path.{◌≡◌, refl, ◌∙◌, ap, ap₂}
use lib.ListN.{get_or}
use Rattle.rules.specs.Base.{bytes, map_o}
use Rattle.rules.specs.Values.{Value, empty, nums, chars, linked, Known, Kind, values, text, word, volume_name, sheet, ratio, serials, wire_serial, symbol_circle, nothing, opens, headed, either}
use Rattle.rules.specs.Rows.{Rule, Slots, Held, part_of, inner_of}
use Rattle.rules.specs.Blocks.{file_tables, drawing_table, symbol_table}
use Rattle.rules.specs.Figures.{figure_table, text_table, placed_tables, wire_table, wire_text_table, first_group_row}
use Rattle.rules.specs.Sets.{Point, Figure, plain, chain, lettering, placed, Layer, Drawing, Symbol, LayerBlock, Contents, Set, known_of, Edge, Wire, wired, passed}
use Rattle.rules.specs.FixedForm.{Text, open_line, opens_block, behind, line_of, show_value, show_slots, no_inner, show_inner, show_held, block, show_points, show_figure, show_figures, show_layers, show_drawing, symbol_inner, exchanged, show_symbol, show_symbols, show_defines, show_blocks, show_first, show_later, ending, later_lines, volume_lines, volumes_bytes, fixed_form, show_edges, show_groups, show_wire_texts, show_wire}
use Rattle.rules.specs.Sets.{layer_table_of}
use Rattle.rules.proofs.Chains.{nil-map}
use Rattle.promises.specs.PlacesApart.{bare_value, bare_slots, bare_held, bare_point, bare_figure, bare_layer, bare_drawing, bare_symbol, bare_block, bare_contents, bare_set, bare_edge, bare_wire}
use Rattle.promises.proofs.Bare.{chars-bare, part-bare, single-bare, known-bare, wired-bare}

-- ── the fixed form ──
exchanged-map : {A B : Type 0} (f : A → B) (b : Bool) (s : List A) → exchanged b (map f s) ≡ map f (exchanged b s)
exchanged-map f false s = refl
exchanged-map f true [] = refl
exchanged-map f true (a ∷ []) = refl
exchanged-map f true (a ∷ b ∷ []) = refl
exchanged-map f true (a ∷ b ∷ c ∷ s) = refl

block_same : (key : List ℕ) (f g : Text → Text) (ls us : Text) → ((x : Text) → f x ≡ g x) → ls ≡ us → block key f ls ≡ block key g us
block_same key f g ls us e p = ap (λ x. open_line key ∷ x) (ap (λ x. f (bytes "}" ∷ x)) p ∙ e (bytes "}" ∷ us))

ending-bare : (vs : List Contents) → ending (map bare_contents vs) ≡ ending vs
ending-bare [] = refl
ending-bare (v ∷ vs) = refl

module _ (k : Known) where
  -- what is written of a text does not tell its place, whatever its row
  text-line : (d : Kind) (at : ℕ) (c : List ℕ) → (behind k d (chars 0 c) ≡ behind k d (chars at c)) × (opens_block d (chars 0 c) ≡ opens_block d (chars at c))
  text-line (values p ps a) at c = (refl, refl)
  text-line (text n b) at c = (refl, refl)
  text-line (word n b) at c = (refl, refl)
  text-line volume_name at c = (refl, refl)
  text-line sheet at c = (refl, refl)
  text-line ratio at c = (refl, refl)
  text-line serials at c = (refl, refl)
  text-line wire_serial at c = (refl, refl)
  text-line symbol_circle at c = (refl, refl)
  text-line nothing at c = (refl, refl)
  text-line (opens i) at c = (refl, refl)
  text-line (headed i p) at c = (refl, refl)
  text-line (either i) at c = (refl, refl)

  show_value-bare : (r : Rule) (v : Value) (f : ℕ → Text → Text) (ls : Text) → show_value k r (bare_value v) f ls ≡ show_value k r v f ls
  show_value-bare r empty f ls = refl
  show_value-bare r (nums v) f ls = refl
  show_value-bare r (chars at c) f ls = rw ((text-line r.holds at c).0, (text-line r.holds at c).1)
  show_value-bare r (linked n ps) f ls = refl

  -- f and g write the inner blocks
  show_slots-bare : (t : List Rule) (s : Slots) (f g : ℕ → Text → Text) → ((i : ℕ) (ls : Text) → f i ls ≡ g i ls) → (ls : Text) → show_slots k t (bare_slots s) f ls ≡ show_slots k t s g ls
  show_slots-bare [] s f g e ls = refl
  show_slots-bare (r ∷ t) [] f g e ls = refl
  show_slots-bare (r ∷ t) (None ∷ s) f g e ls = show_slots-bare t s f g e ls
  show_slots-bare (r ∷ t) (Some v ∷ s) f g e ls =
      show_value-bare r v f (show_slots k t (bare_slots s) f ls)
      ∙ ap (λ x. line_of k r v ∷ cond (opens_block r.holds v) (f (inner_of r.holds) (bytes "}" ∷ x)) x) (show_slots-bare t s f g e ls)
      ∙ ap (λ x. line_of k r v ∷ cond (opens_block r.holds v) x (show_slots k t s g ls)) (e (inner_of r.holds) (bytes "}" ∷ show_slots k t s g ls))

  show_inner-bare : (ts : List (List Rule)) (h : Held) (f g : ℕ → Text → Text) → ((i : ℕ) (ls : Text) → f i ls ≡ g i ls) → (i : ℕ) (ls : Text) → show_inner k ts (bare_held h) f i ls ≡ show_inner k ts h g i ls
  show_inner-bare ts h f g e i ls = rw (part-bare h i) (show_slots-bare (get_or ts i []) (part_of h i) f g e ls)

  show_held-bare : (ts : List (List Rule)) (h : Held) (ls : Text) → show_held k ts (bare_held h) ls ≡ show_held k ts h ls
  show_held-bare ts h ls =
      show_inner-bare ts h _ _ (show_inner-bare ts h _ _ (show_inner-bare ts h no_inner no_inner (λ i ls. refl))) 0 ls

  show_points-bare : (b : Bool) (ps : List Point) (ls : Text) → show_points k b (map bare_point ps) ls ≡ show_points k b ps ls
  show_points-bare b [] ls = refl
  show_points-bare b (p ∷ ps) ls = rw (show_points-bare b ps ls)

  show_edges-bare : (es : List Edge) (ls : Text) → show_edges k (map bare_edge es) ls ≡ show_edges k es ls
  show_edges-bare [] ls = refl
  show_edges-bare (e ∷ es) ls = rw (show_edges-bare es ls)

  show_wire_texts-bare : (ss : List Slots) (ls : Text) → show_wire_texts k (map bare_slots ss) ls ≡ show_wire_texts k ss ls
  show_wire_texts-bare [] ls = refl
  show_wire_texts-bare (s ∷ ss) ls =
      rw (show_wire_texts-bare ss ls) (ap (λ x. open_line (bytes "text") ∷ x) (show_slots-bare wire_text_table s no_inner no_inner (λ i ls. refl) (bytes "}" ∷ show_wire_texts k ss ls)))

  show_wire-bare : (w : Wire) (ls : Text) → show_wire k (bare_wire w) ls ≡ show_wire k w ls
  show_wire-bare w ls =
      show_edges-bare w.elements _
      ∙ ap (λ x. show_edges k w.elements (show_groups k first_group_row w.groups x))
      (show_wire_texts-bare w.texts _ ∙ ap (show_wire_texts k w.texts) (show_slots-bare wire_table w.own no_inner no_inner (λ i ls. refl) ls))

  show_figure-bare : (b : Bool) (t : List Rule) (f : Figure) (ls : Text) → show_figure k b t (bare_figure f) ls ≡ show_figure k b t f ls
  show_figure-bare b t (plain n j v) ls = refl
  show_figure-bare b t (chain n ps) ls = rw (show_points-bare b ps (bytes "}" ∷ ls))
  show_figure-bare b t (lettering n s) ls = rw (show_slots-bare (text_table b 4 12) s no_inner no_inner (λ i ls. refl) (bytes "}" ∷ ls))
  show_figure-bare b t (placed n h) ls = rw (show_held-bare placed_tables h (bytes "}" ∷ ls))
  show_figure-bare b t (wired n w) ls = ap (λ x. open_line (bytes "E_wire") ∷ x) (show_wire-bare w (bytes "}" ∷ ls))
  show_figure-bare b t (passed n) ls = refl

  show_figures-bare : (b : Bool) (t : List Rule) (fs : List Figure) (ls : Text) → show_figures k b t (map bare_figure fs) ls ≡ show_figures k b t fs ls
  show_figures-bare b t [] ls = refl
  show_figures-bare b t (f ∷ fs) ls = rw (show_figures-bare b t fs ls) (show_figure-bare b t f (show_figures k b t fs ls))

  show_layers-bare : (ys : List Layer) (ls : Text) → show_layers k (map bare_layer ys) ls ≡ show_layers k ys ls
  show_layers-bare [] ls = refl
  show_layers-bare (l ∷ ys) ls = rw (chars-bare l.name, show_layers-bare ys ls)

  show_drawing-bare : (d : Drawing) (ls : Text) → show_drawing k (bare_drawing d) ls ≡ show_drawing k d ls
  show_drawing-bare d ls = show_slots-bare drawing_table d.own _ _ (λ i rest. show_layers-bare d.layers rest) ls

  symbol_inner-bare : (y : Symbol) (i : ℕ) (ls : Text) → symbol_inner k (bare_symbol y) i ls ≡ symbol_inner k y i ls
  symbol_inner-bare y zero ls = refl
  symbol_inner-bare y (suc zero) ls = show_figures-bare false figure_table y.figures ls
  symbol_inner-bare y (suc (suc i)) ls = show_points-bare false y.hidden ls

  show_symbol-bare : (y : Symbol) (ls : Text) → show_symbol k (bare_symbol y) ls ≡ show_symbol k y ls
  show_symbol-bare y ls =
      rw (exchanged-map (map_o bare_value) y.hide_first y.own)
      (ap (λ x. open_line (bytes "E_symbol") ∷ x) (show_slots-bare (exchanged y.hide_first symbol_table) (exchanged y.hide_first y.own) (symbol_inner k (bare_symbol y)) (symbol_inner k y) (symbol_inner-bare y) (bytes "}" ∷ ls)))

  show_symbols-bare : (ys : List Symbol) (ls : Text) → show_symbols k (map bare_symbol ys) ls ≡ show_symbols k ys ls
  show_symbols-bare [] ls = refl
  show_symbols-bare (y ∷ ys) ls = rw (show_symbols-bare ys ls) (show_symbol-bare y (show_symbols k ys ls))

  show_defines-bare : (ys : List Symbol) (ls : Text) → show_defines k (map bare_symbol ys) ls ≡ show_defines k ys ls
  show_defines-bare ys ls = rw (nil-map bare_symbol ys, show_symbols-bare ys ls)

  show_blocks-bare : (t : List Rule) (us : List LayerBlock) (ls : Text) → show_blocks k t (map bare_block us) ls ≡ show_blocks k t us ls
  show_blocks-bare t [] ls = refl
  show_blocks-bare t (u ∷ us) ls = rw (show_blocks-bare t us ls, show_figures-bare true t u.figures (bytes "}" ∷ show_blocks k t us ls))

  show_first-bare : (t : List Rule) (s : Set) (v : Contents) (ls us : Text) → ls ≡ us → show_first k t (bare_set s) (bare_contents v) ls ≡ show_first k t s v us
  show_first-bare t s v ls us e =
      block_same (bytes "FILE_FORMAT") _ _ _ _ (show_held-bare (file_tables true) v.file)
      (block_same (bytes "DRAWING_FORMAT") _ _ _ _ (show_drawing-bare s.drawing)
      (block_same (bytes "SYMBOL_DEFINE") _ _ _ _ (show_defines-bare s.symbols)
      (block_same (bytes "ELEMENT") _ _ _ _ (show_blocks-bare t v.blocks) e)))

  show_later-bare : (t : List Rule) (v : Contents) (ls us : Text) → ls ≡ us → show_later k t (bare_contents v) ls ≡ show_later k t v us
  show_later-bare t v ls us e =
      block_same (bytes "FILE_FORMAT") _ _ _ _ (show_held-bare (file_tables false) v.file) (block_same (bytes "ELEMENT") _ _ _ _ (show_blocks-bare t v.blocks) e)

  later_lines-bare : (t : List Rule) (vs : List Contents) → later_lines k t (map bare_contents vs) ≡ later_lines k t vs
  later_lines-bare t [] = refl
  later_lines-bare t (v ∷ vs) = ap₂ ◌∷◌ (show_later-bare t v (ending (map bare_contents vs)) (ending vs) (ending-bare vs)) (later_lines-bare t vs)

pub form-bare : (names : List (List ℕ)) (s : Set) → fixed_form names (bare_set s) ≡ fixed_form names s
unfolding fixed_form
form-bare names s = ap (volumes_bytes names) (go s.volumes)
  where
    go : (vs : List Contents) → volume_lines (bare_set s) (map bare_contents vs) ≡ volume_lines s vs
    go [] = refl
    go (v ∷ vs) =
        rw (known-bare s, single-bare s, wired-bare s)
        (ap₂ ◌∷◌ (show_first-bare (known_of s) (layer_table_of s) s v (ending (map bare_contents vs)) (ending vs) (ending-bare vs))
        (later_lines-bare (known_of s) (layer_table_of s) vs))
