-- The records of a set's parts, as a line or a closed block adds to them.
use Rattle.std.specs.Prelude.{Some}
use Prim.Native.Nat.{ℕ, suc, ◌+◌}
use mathlib.Core.Bool.{Bool, true, false, cond, not}
use mathlib.Core.List.{List, [], ◌∷◌, ◌++◌, map, append_assoc, append-nil}
use mathlib.Core.Path.{◌≡◌, refl, sym, ◌∙◌, ap}
use native.Mathlib.Omega.{arith}
use lib.Dec.{eqb}
use lib.IntN.{ℤ}
use lib.ListN.{length}
use Rattle.rules.specs.declared.Class.{Class}
use Rattle.rules.specs.Base.{flat}
use Rattle.rules.specs.RangeClass.{digits_of}
use Rattle.rules.specs.Values.{nums}
use Rattle.rules.specs.Rows.{Held, part_of, number_of}
use Rattle.rules.specs.Blocks.{elec_table}
use Rattle.rules.specs.Figures.{layer_table, point_table}
use Rattle.rules.specs.Sets.{Point, Figure, Layer, Drawing, Symbol, LayerBlock, Contents, Set, is_first, symbol_range, wire_range, with_block, with_records, with_volume, with_symbol, symbol_figures, symbol_hidden, first_contents, head_or}
use Rattle.rules.specs.Machine.{in_layer}
use Rattle.rules.specs.RecordTable.{put_slot, rule_at, start, file_records, drawing_record, layer_record, layer_records, point_records, figure_records, inner_records, symbol_records, block_records, body_records, later_records, records_from}
use Rattle.rules.specs.RecordTable.{View, view_of, plain_view}
use Rattle.rules.proofs.Chains.{flat_append, map-append}
use Rattle.standing.specs.SoFar.{volume_of, closed_records, sheet_records, front_records, base_records, layers_records, own_record, home_figure}

abbrev Records : Type 0
Records = List (List ℤ)

-- ── lists ──
pub flat_map_more : {A B : Type 0} (f : A → List B) (s : List A) (a : A) → flat (map f (s ++ a ∷ [])) ≡ flat (map f s) ++ f a
flat_map_more {A} {B} f s a = ap flat (map-append f s (a ∷ [])) ∙ flat_append (map f s) (f a ∷ []) ∙ ap (λ (u : List B). flat (map f s) ++ u) (append-nil (f a))

from_zero : (n : ℕ) → 0 + n ≡ n
from_zero n = omega arith

-- ── points ──
pub more-points : (kind owner volume : ℕ) (ps : List Point) (p : Point) → point_records kind owner volume (ps ++ p ∷ []) ≡ point_records kind owner volume ps ++ point_records kind owner volume (p ∷ [])
more-points kind owner volume [] p = refl
more-points kind owner volume (q ∷ ps) p =
    ap (λ (u : Records). put_slot (rule_at (point_table true) 0) (Some (nums q.values)) (start kind owner volume q.line) ∷ u) (more-points kind owner volume ps p)

-- ── layers ──
pub more-layers : (n : ℕ) (ls : List Layer) (l : Layer) → layer_records n (ls ++ l ∷ []) ≡ layer_records n ls ++ layer_record (n + length ls) l ∷ []
more-layers n [] l = ap (λ (m : ℕ). layer_record m l ∷ []) (omega arith)
more-layers n (k ∷ ls) l =
    ap (λ (u : Records). layer_record n k ∷ u) (more-layers (suc n) ls l ∙ ap (λ (m : ℕ). layer_records (suc n) ls ++ layer_record m l ∷ []) (omega arith))

-- ── symbols ──
pub more-symbols : (n : ℕ) (ys : List Symbol) (y : Symbol) → symbol_records n (ys ++ y ∷ []) ≡ symbol_records n ys ++ own_record (n + length ys) y ∷ inner_records (n + length ys) y
more-symbols n [] y =
    ap (λ (u : Records). own_record n y ∷ u) (append-nil (inner_records n y)) ∙ ap (λ (m : ℕ). own_record m y ∷ inner_records m y) (omega arith)
more-symbols n (x ∷ ys) y =
    ap (λ (u : Records). own_record n x ∷ inner_records n x ++ u)
    (more-symbols (suc n) ys y ∙ ap (λ (m : ℕ). symbol_records (suc n) ys ++ own_record m y ∷ inner_records m y) (omega arith))
    ∙ ap (λ (u : Records). own_record n x ∷ u) (sym (append_assoc (inner_records n x) (symbol_records (suc n) ys) (own_record (n + length (x ∷ ys)) y ∷ inner_records (n + length (x ∷ ys)) y)))

-- a closed symbol
pub symbol-more : (s : Set) (y : Symbol) → front_records (with_symbol y s) ≡ front_records s ++ own_record (length s.symbols) y ∷ inner_records (length s.symbols) y
symbol-more s y =
    ap (λ (u : Records). sheet_records s s.drawing ++ u) (more-symbols 0 s.symbols y ∙ ap (λ (m : ℕ). symbol_records 0 s.symbols ++ own_record m y ∷ inner_records m y) (from_zero (length s.symbols)))
    ∙ sym (append_assoc (sheet_records s s.drawing) (symbol_records 0 s.symbols) (own_record (length s.symbols) y ∷ inner_records (length s.symbols) y))

-- its `element` closed, where it had none: in the order written
module _ (n : ℕ) (y : Symbol) where
  abbrev pub shown : List Figure → Records
  shown fs = flat (map (figure_records plain_view 20 n 1) fs)

  abbrev pub in_order : Bool → Records → Records → Records
  in_order b a h = cond b (h ++ a) (a ++ h)

  in_order_lem : (b : Bool) (fs : List Figure) (ps : List Point) → (b ≡ false → ps ≡ []) → in_order b (shown fs) (point_records 43 n 1 ps) ≡ in_order b (shown []) (point_records 43 n 1 ps) ++ shown fs
  in_order_lem true fs ps e = ap (λ (u : Records). u ++ shown fs) (sym (append-nil (point_records 43 n 1 ps)))
  in_order_lem false fs ps e =
      ap (λ (u : List Point). shown fs ++ point_records 43 n 1 u) (e refl) ∙ append-nil (shown fs) ∙ ap (λ (u : List Point). point_records 43 n 1 u ++ shown fs) (sym (e refl))

  pub element-more : (fs : List Figure) → y.figures ≡ [] → (y.hide_first ≡ false → y.hidden ≡ []) → inner_records n (symbol_figures fs y) ≡ inner_records n y ++ shown fs
  element-more fs e h =
      in_order_lem y.hide_first fs y.hidden h ∙ ap (λ (u : List Figure). in_order y.hide_first (shown u) (point_records 43 n 1 y.hidden) ++ shown fs) (sym e)

  hide-order : (b : Bool) (fs : List Figure) (ps : List Point) → (b ≡ true → fs ≡ []) → in_order b (shown fs) (point_records 43 n 1 ps) ≡ in_order b (shown fs) [] ++ point_records 43 n 1 ps
  hide-order true fs ps e =
      ap (λ (u : List Figure). point_records 43 n 1 ps ++ shown u) (e refl) ∙ append-nil (point_records 43 n 1 ps) ∙ ap (λ (u : List Figure). shown u ++ point_records 43 n 1 ps) (sym (e refl))
  hide-order false fs ps e = ap (λ (u : Records). u ++ point_records 43 n 1 ps) (sym (append-nil (shown fs)))

  pub hide-more : (ps : List Point) → y.hidden ≡ [] → (y.hide_first ≡ true → y.figures ≡ []) → inner_records n (symbol_hidden ps y) ≡ inner_records n y ++ point_records 43 n 1 ps
  hide-more ps e h =
      hide-order y.hide_first y.figures ps h ∙ ap (λ (u : List Point). in_order y.hide_first (shown y.figures) (point_records 43 n 1 u) ++ point_records 43 n 1 ps) (sym e)

-- ── a closed layer ──
-- what a volume's layers hold says nothing of FILE_FORMAT, nor of its ranges
pub file-block : (u : LayerBlock) (s : Set) → (first_contents (with_block u s)).file ≡ (first_contents s).file
file-block u s = go s.volumes
  where
    go : (vs : List Contents) → (head_or (with_block u s).now vs).file ≡ (head_or s.now vs).file
    go [] = refl
    go (v ∷ vs) = refl

range-block : (u : LayerBlock) (s : Set) → symbol_range (with_block u s) ≡ symbol_range s
range-block u s = ap (λ (f : Held). number_of "E_sym" elec_table (part_of f 3)) (file-block u s)

wires-block : (u : LayerBlock) (s : Set) → wire_range (with_block u s) ≡ wire_range s
wires-block u s = ap (λ (f : Held). number_of "E_wire" elec_table (part_of f 3)) (file-block u s)

closed_block : (c : Class) (u : LayerBlock) (s : Set) → closed_records c (with_block u s) ≡ closed_records c s
closed_block c u s = go s.volumes refl
  where
    go : (vs : List Contents) → s.volumes ≡ vs → closed_records c (with_block u s) ≡ closed_records c s
    go [] e = rw e
    go (v ∷ vs) e = rw e

base-block : (c : Class) (u : LayerBlock) (s : Set) (b : Bool) → base_records c (with_block u s) b ≡ base_records c s b
base-block c u s true = refl
base-block c u s false = ap (λ (r : Records). r ++ file_records false (volume_of s) s.now) (closed_block c u s)

-- the records of closed layers, by the file's E_sym and E_wire
abbrev pub layers_by : Class → Set → List LayerBlock → ℕ → ℕ → Records
layers_by c s us n wires =
    flat (map (block_records (record { class = c; symbols = digits_of n; wires = wires; table = layer_table (eqb n 1) (not (eqb wires 0)) }) (volume_of s)) us)

pub layer-closed : (c : Class) (u : LayerBlock) (s : Set) → layers_records c (with_block u s) ≡ layers_records c s ++ flat (map (home_figure c s (in_layer u.layer)) u.figures)
layer-closed c u s =
    ap (λ (n : ℕ). base_records c (with_block u s) (is_first s) ++ layers_by c s (s.now.blocks ++ u ∷ []) n (wire_range (with_block u s))) (range-block u s)
    ∙ ap (λ (n : ℕ). base_records c (with_block u s) (is_first s) ++ layers_by c s (s.now.blocks ++ u ∷ []) (symbol_range s) n) (wires-block u s)
    ∙ ap (λ (r : Records). r ++ layers_by c s (s.now.blocks ++ u ∷ []) (symbol_range s) (wire_range s)) (base-block c u s (is_first s))
    ∙ ap (λ (r : Records). base_records c s (is_first s) ++ r) (flat_map_more (block_records (view_of c s) (volume_of s)) s.now.blocks u)
    ∙ sym (append_assoc (base_records c s (is_first s)) (layers_by c s s.now.blocks (symbol_range s) (wire_range s)) (flat (map (home_figure c s (in_layer u.layer)) u.figures)))

-- ── a closed volume ──
module _ (w : View) where
  pub later_more : (k : ℕ) (vs : List Contents) (v : Contents)
      → later_records w k (vs ++ v ∷ []) ≡ later_records w k vs ++ (file_records false (k + length vs) v ++ body_records w (k + length vs) v)
  later_more k [] v =
      append-nil (file_records false k v ++ body_records w k v) ∙ ap (λ (m : ℕ). file_records false m v ++ body_records w m v) (up k)
    where
      up : (k : ℕ) → k ≡ k + 0
      up k = omega arith
  later_more k (u ∷ vs) v =
      ap (λ (r : Records). file_records false k u ++ body_records w k u ++ r)
      (later_more (suc k) vs v ∙ ap (λ (m : ℕ). later_records w (suc k) vs ++ (file_records false m v ++ body_records w m v)) (along k (length vs)))
      ∙ sym (append_assoc (file_records false k u ++ body_records w k u) (later_records w (suc k) vs) (file_records false (k + suc (length vs)) v ++ body_records w (k + suc (length vs)) v))
    where
      along : (k n : ℕ) → suc k + n ≡ k + suc n
      along k n = omega arith

module _ (c : Class) (d : Drawing) (ys : List Symbol) (now : Contents) (n : ℕ) where
  abbrev with : List Contents → Set
  with vs = record { drawing = d; symbols = ys; volumes = vs; now = now; taken = n }

  abbrev first : Contents → List Contents → Records
  first v vs = file_records true 1 v ++ (drawing_record d ∷ layer_records 0 d.layers) ++ symbol_records 0 ys ++ body_records (view_of c (with (v ∷ vs))) 1 v

  closed-with : (vs : List Contents) → closed_records c (with_volume (with vs)) ≡ layers_records c (with vs)
  closed-with [] = append-nil (layers_records c (with []))
  closed-with (v ∷ vs) =
      let w : View = view_of c (with (v ∷ vs)) in
      let k : ℕ = volume_of (with (v ∷ vs)) in
      let up : 2 + length vs ≡ k = omega arith in
      ap (λ (r : Records). first v vs ++ r) (later_more w 2 vs now ∙ ap (λ (m : ℕ). later_records w 2 vs ++ (file_records false m now ++ body_records w m now)) up)
      ∙ sym (append_assoc (first v vs) (later_records w 2 vs) (file_records false k now ++ body_records w k now))
      ∙ sym (append_assoc (first v vs ++ later_records w 2 vs) (file_records false k now) (body_records w k now))

pub volume-closed : (c : Class) (s : Set) → closed_records c (with_volume s) ≡ layers_records c s
volume-closed c s = closed-with c s.drawing s.symbols s.now s.taken s.volumes

-- ── how many records were taken says nothing of what they are ──
from-taken : (c : Class) (s : Set) (ks : List ℕ) (vs : List Contents) → records_from c (with_records ks s) vs ≡ records_from c s vs
from-taken c s ks [] = refl
from-taken c s ks (v ∷ vs) = refl

pub closed-taken : (c : Class) (s : Set) (ks : List ℕ) → closed_records c (with_records ks s) ≡ closed_records c s
closed-taken c s ks = from-taken c s ks s.volumes

base-taken : (c : Class) (s : Set) (ks : List ℕ) (b : Bool) → base_records c (with_records ks s) b ≡ base_records c s b
base-taken c s ks true = refl
base-taken c s ks false = ap (λ (r : Records). r ++ file_records false (volume_of s) s.now) (closed-taken c s ks)

pub layers-taken : (c : Class) (s : Set) (ks : List ℕ) → layers_records c (with_records ks s) ≡ layers_records c s
layers-taken c s ks =
    ap (λ (r : Records). r ++ body_records (view_of c s) (volume_of s) s.now) (base-taken c s ks (is_first s))
