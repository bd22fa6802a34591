-- The texts that a set keeps are the same, places apart.
use Prim.Native.Nat.{ℕ}
use Prim.Native.String as S
use mathlib.Core.Bool.{true, cond}
use mathlib.Core.List.{List, [], ◌∷◌, ◌++◌, map}
use mathlib.Core.Path.{◌≡◌, refl, ◌∙◌, ap, ap₂}
use Rattle.rules.specs.Base.{flat}
use Rattle.rules.specs.Values.{chars_of}
use Rattle.rules.specs.Rows.{Rule, Slots, part_of, slot_value, held}
use Rattle.rules.specs.Figures.{text_table, placed_table, wire_table, wire_text_table}
use Rattle.rules.specs.Sets.{Point, Figure, plain, chain, lettering, placed, Layer, Drawing, Symbol, Contents, Set, Wire, wired, passed}
use Rattle.rules.specs.RecordTable.{first_text}
use Rattle.rules.proofs.Chains.{map_same}
use Rattle.promises.specs.PlacesApart.{bare_slots, bare_point, bare_figure, bare_layer, bare_drawing, bare_symbol, bare_block, bare_contents, bare_set, bare_edge, bare_wire}
use Rattle.promises.specs.TextsKept.{Kept, kept_at, header_kept, file_kept, drawing_kept, layer_kept, point_kept, figure_kept, symbol_kept, block_kept, body_kept, later_kept, kept_from, texts_kept, edge_kept, wire_kept, figure_texts, block_texts, volume_texts, texts_of_wires}
use Rattle.promises.proofs.Bare.{chars-bare, held-bare, part-bare, first-text-bare, name-bare}

text-bare : (k : S.String) (t : List Rule) (s : Slots) → kept_at k t (bare_slots s) ≡ kept_at k t s
text-bare k t s = ap chars_of (held-bare k t s) ∙ chars-bare (slot_value (held k t s))

flat-same : {A B : Type 0} (g : A → List B) (f : A → A) → ((a : A) → g (f a) ≡ g a) → (s : List A) → flat (map g (map f s)) ≡ flat (map g s)
flat-same g f e s = ap flat (map_same g f e s)

points-bare : (ps : List Point) → map point_kept (map bare_point ps) ≡ map point_kept ps
points-bare ps = map_same point_kept bare_point (λ p. refl) ps

wire-bare : (w : Wire) → wire_kept (bare_wire w) ≡ wire_kept w
wire-bare w = rw (first-text-bare w.texts, text-bare "character" wire_text_table (first_text w.texts), text-bare "circuit" wire_table w.own)

figure-bare : (more : ℕ) (f : Figure) → figure_kept more (bare_figure f) ≡ figure_kept more f
figure-bare more (plain n j v) = refl
figure-bare more (chain n ps) = ap (λ (s : List Kept). [] ∷ s) (points-bare ps)
figure-bare more (lettering n s) = rw (text-bare "character" (text_table true 4 12) s)
figure-bare more (wired n w) = ap₂ (λ (c : Kept) (s : List Kept). [] ∷ c ∷ s) (wire-bare w) (map_same edge_kept bare_edge (λ e. refl) w.elements)
figure-bare more (passed n) = refl
figure-bare more (placed n h) =
    rw (part-bare h 0, part-bare h 1, text-bare "circuit" placed_table (part_of h 0), text-bare "character" (text_table true 16 24) (part_of h 1))

-- all texts of wires
letters-bare : (ss : List Slots) → map (kept_at "character" wire_text_table) (map bare_slots ss) ≡ map (kept_at "character" wire_text_table) ss
letters-bare ss = map_same (kept_at "character" wire_text_table) bare_slots (λ s. text-bare "character" wire_text_table s) ss

wire-texts : (f : Figure) → figure_texts (bare_figure f) ≡ figure_texts f
wire-texts (plain n j v) = refl
wire-texts (chain n ps) = refl
wire-texts (lettering n s) = refl
wire-texts (placed n h) = refl
wire-texts (wired n w) =
    ap₂ (λ (cs : Kept) (c : List ℕ). (cs ++ c ∷ []) ∷ []) (letters-bare w.texts) (text-bare "circuit" wire_table w.own)
wire-texts (passed n) = refl

pub wires-bare : (s : Set) → texts_of_wires (bare_set s) ≡ texts_of_wires s
wires-bare s =
    flat-same volume_texts bare_contents (λ v. flat-same block_texts bare_block (λ u. flat-same figure_texts bare_figure wire-texts u.figures) v.blocks) s.volumes

body-bare : (v : Contents) → body_kept (bare_contents v) ≡ body_kept v
body-bare v = flat-same block_kept bare_block (λ u. flat-same (figure_kept 0) bare_figure (figure-bare 0) u.figures) v.blocks

symbol-bare : (y : Symbol) → symbol_kept (bare_symbol y) ≡ symbol_kept y
symbol-bare y =
    ap₂ (λ n s. (n ∷ []) ∷ s) (name-bare y)
    (ap₂ (λ shown hidden. cond y.hide_first (hidden ++ shown) (shown ++ hidden)) (flat-same (figure_kept 20) bare_figure (figure-bare 20) y.figures) (points-bare y.hidden))

header-bare : (v : Contents) → file_kept true (bare_contents v) ≡ file_kept true v
header-bare v = ap (λ s. header_kept s ∷ [] ∷ []) (part-bare v.file 0) ∙ ap (λ k. k ∷ [] ∷ []) (own (part_of v.file 0))
  where
    own : (s : Slots) → header_kept (bare_slots s) ≡ header_kept s
    own s = simp text-bare

drawing-bare : (d : Drawing) → drawing_kept (bare_drawing d) ≡ drawing_kept d
drawing-bare d = simp text-bare

layers-bare : (ls : List Layer) → map layer_kept (map bare_layer ls) ≡ map layer_kept ls
layers-bare ls = map_same layer_kept bare_layer (λ l. ap (λ c. c ∷ []) (chars-bare l.name)) ls

later-bare : (v : Contents) → later_kept (bare_contents v) ≡ later_kept v
later-bare v = ap (λ s. ([] ∷ []) ++ s) (body-bare v)

pub texts-bare : (s : Set) → texts_kept (bare_set s) ≡ texts_kept s
texts-bare s = go s.volumes
  where
    go : (vs : List Contents) → kept_from (bare_set s) (map bare_contents vs) ≡ kept_from s vs
    go [] = refl
    go (v ∷ vs) =
        ap₂ ◌++◌
        (ap₂ ◌++◌
        (ap₂ ◌++◌ (ap₂ ◌++◌ (header-bare v) (ap₂ ◌∷◌ (drawing-bare s.drawing) (layers-bare s.drawing.layers))) (flat-same symbol_kept bare_symbol symbol-bare s.symbols))
        (body-bare v))
        (flat-same later_kept bare_contents later-bare vs)
