-- Every line that the fixed form of a good set writes has allowed bytes, at most 512 of them; and the fixed form has the set's volumes, none without lines.
use Rattle.std.specs.Prelude.{Option, Some, None}
use Prim.Native.Nat.{ℕ, zero, suc}
use mathlib.Core.Bool.{Bool, true, false, ◌&&◌, not, true≢false}
use mathlib.Core.List.{List, [], ◌∷◌, ◌++◌}
use mathlib.Core.Path.{◌≡◌, refl, sym, ap, subst}
use native.Mathlib.Omega.{arith}
use lib.Dec.{leb}
use lib.ListN.{length, get_or, take, drop, length-append}
use borrow.Author.Tests.{leb-true, le-leb}
use Rattle.rules.specs.declared.Digits.{Digits}
use Rattle.rules.specs.Base.{bytes, is_nil, is_some, all, same, has_number}
use Rattle.rules.specs.Numbers.{is_digit, digit_run}
use Rattle.rules.specs.Lines.{allowed}
use Rattle.rules.specs.Spool.{most_in_line}
use Rattle.rules.specs.RecordTable.{rule_at}
use Rattle.rules.specs.Values.{Num, Value, nums, Known, is_layer_id, chars_of}
use Rattle.rules.specs.Rows.{Rule, Slots, Held, part_of}
use Rattle.rules.specs.Blocks.{file_table, range_table, base_table, elec_table, sym_table, later_table, file_tables, drawing_table, symbol_table}
use Rattle.rules.specs.Figures.{figure_table, text_table, placed_table, placed_tables, wire_table}
use Rattle.rules.specs.Sets.{Point, Figure, plain, chain, lettering, placed, Layer, Drawing, Symbol, LayerBlock, Contents, Set, range_of, known_of, Edge, Wire, wired, passed}
use Rattle.rules.specs.FixedForm.{Text, open_line, opens_block, inner_of, line_of, show_slots, no_inner, show_inner, show_held, block, show_points, show_figure, show_figures, show_layers, show_drawing, symbol_inner, exchanged, show_symbol, show_symbols, show_defines, show_blocks, ending, later_lines, volume_lines, show_edges, show_group, show_wire_texts, show_wire}
use Rattle.rules.specs.Sets.{layer_table_of}
use Rattle.rules.proofs.Chains.{and_left, and_right, and_true, by_cond}
use Rattle.rules.proofs.Rows.{row_at}
use Rattle.promises.proofs.Forms.{layer-key, allowed-append, allowed-key, allowed_equal, plain_line, allowed-plain}
use Rattle.promises.proofs.Good.{GoodRow, Always, GoodSlots, GoodPart, none0, is_one, GoodFile, GoodLater, GoodPoints, GoodPlaced, GoodText, GoodFigure, GoodFigures, GoodShape, GoodShapes, GoodLayers, GoodDrawing, GoodSymbol, GoodSymbols, GoodBlocks, GoodLaters, GoodSet, good-blank, InSlot, Ranges, ranges_of, symbol_digits, layer_rows, GoodEdges, GoodGroup, GoodTexts, GoodWire}
use Rattle.rules.specs.RangeClass.{digits_of}

-- a line as a volume may have it
abbrev pub fine : List ℕ → Bool
fine l = plain_line l && leb (length l) most_in_line

-- a printer that adds fine lines only
abbrev Keeps : (Text → Text) → Type 0
Keeps f = (ls : Text) → all fine ls ≡ true → all fine (f ls) ≡ true

allowed-fine : (l : List ℕ) → allowed l ≡ true → leb (length l) most_in_line ≡ true → fine l ≡ true
allowed-fine l e f = and_true _ _ (allowed-plain l e) f

-- ── a row's line ──
row_fine : (k : Known) (d : Digits) (r : Rule) (v : Value) → GoodRow k d r v → fine (line_of k r v) ≡ true
row_fine k d r v g = allowed-fine (line_of k r v) g.okay g.short

-- ── slots ──
-- of what is known of the rows only this is needed
abbrev Fine : Known → Rule → Value → Type 0
Fine k r v = fine (line_of k r v) ≡ true

slots_open : (P : Rule → Value → Type 0) (r : Rule) (t : List Rule) (o : Option Value) (s : Slots) → GoodSlots P (r ∷ t) (o ∷ s) → InSlot P r o × GoodSlots P t s
slots_open P r t None s g = (tt, g)
slots_open P r t (Some v) s g = g

slots-join : (P : Rule → Value → Type 0) (r : Rule) (t : List Rule) (o : Option Value) (s : Slots) → InSlot P r o → GoodSlots P t s → GoodSlots P (r ∷ t) (o ∷ s)
slots-join P r t None s p g = g
slots-join P r t (Some v) s p g = (p, g)

slots_weaken : (P Q : Rule → Value → Type 0) → ((r : Rule) (v : Value) → P r v → Q r v) → (t : List Rule) (s : Slots) → GoodSlots P t s → GoodSlots Q t s
slots_weaken P Q f [] [] g = tt
slots_weaken P Q f [] (o ∷ s) g = absurd g
slots_weaken P Q f (r ∷ t) [] g = absurd g
slots_weaken P Q f (r ∷ t) (None ∷ s) g = slots_weaken P Q f t s g
slots_weaken P Q f (r ∷ t) (Some v ∷ s) g = (f r v g.0, slots_weaken P Q f t s g.1)

-- a table's second and third row exchanged
slots-exchanged : (P : Rule → Value → Type 0) (b : Bool) (p q r : Rule) (t : List Rule) (s : Slots) → GoodSlots P (p ∷ q ∷ r ∷ t) s
    → GoodSlots P (exchanged b (p ∷ q ∷ r ∷ t)) (exchanged b s)
slots-exchanged P false p q r t s g = g
slots-exchanged P true p q r t [] g = absurd g
slots-exchanged P true p q r t (l ∷ []) g = absurd (slots_open P p (q ∷ r ∷ t) l [] g).1
slots-exchanged P true p q r t (l ∷ m ∷ []) g = absurd (slots_open P q (r ∷ t) m [] (slots_open P p (q ∷ r ∷ t) l (m ∷ []) g).1).1
slots-exchanged P true p q r t (l ∷ m ∷ n ∷ s) g =
    let (x, g1) = slots_open P p (q ∷ r ∷ t) l (m ∷ n ∷ s) g in
    let (y, g2) = slots_open P q (r ∷ t) m (n ∷ s) g1 in
    let (z, g3) = slots_open P r t n s g2 in
    slots-join P p (r ∷ q ∷ t) l (n ∷ m ∷ s) x (slots-join P r (q ∷ t) n (m ∷ s) z (slots-join P q t m s y g3))

always-slots : (k : Known) (d : Digits) (t : List Rule) (s : Slots) → GoodSlots (Always d) t s → GoodSlots (Fine k) t s
always-slots k d t s g = slots_weaken (Always d) (Fine k) (λ r v p. row_fine k d r v (p k)) t s g

part-slots : (k : Known) (b : Bool) (d e : Digits) (t : List Rule) (s : Slots) → GoodPart b (Always d) e t s → GoodSlots (Fine k) t s
part-slots k true d e t s g = always-slots k d t s g.good
part-slots k false d e t s g = rw g (good-blank (Fine k) t)

slots-keep : (k : Known) (t : List Rule) (s : Slots) (inner : ℕ → Text → Text) → ((i : ℕ) → Keeps (inner i)) → GoodSlots (Fine k) t s → Keeps (show_slots k t s inner)
slots-keep k [] s inner f g ls e = e
slots-keep k (r ∷ t) [] inner f g ls e = e
slots-keep k (r ∷ t) (None ∷ s) inner f g ls e = slots-keep k t s inner f g ls e
slots-keep k (r ∷ t) (Some v ∷ s) inner f g ls e =
    let i = slots-keep k t s inner f g.1 ls e in
    and_true _ _ g.0 (by_cond (λ (l : Text). all fine l ≡ true) (opens_block r.holds v) (λ _. f (inner_of r.holds) (bytes "}" ∷ show_slots k t s inner ls) i) (λ _. i))

none-keep : (i : ℕ) → Keeps (no_inner i)
none-keep i ls e = e

held_keeps : (k : Known) (ts : List (List Rule)) (h : Held) → ((i : ℕ) → GoodSlots (Fine k) (get_or ts i []) (part_of h i)) → Keeps (show_held k ts h)
held_keeps k ts h g = once (show_inner k ts h (show_inner k ts h no_inner)) (once (show_inner k ts h no_inner) (once no_inner none-keep)) 0
  where
    once : (inner : ℕ → Text → Text) → ((i : ℕ) → Keeps (inner i)) → (i : ℕ) → Keeps (show_inner k ts h inner i)
    once inner f i = slots-keep k (get_or ts i []) (part_of h i) inner f (g i)

block-keeps : (key : List ℕ) (f : Text → Text) → fine (open_line key) ≡ true → Keeps f → Keeps (block key f)
block-keeps key f p q ls e = and_true _ _ p (q (bytes "}" ∷ ls) e)

-- ── FILE_FORMAT ──
file-keeps : (k : Known) (h : Held) → GoodFile h → Keeps (show_held k (file_tables true) h)
file-keeps k h g = rw g.is (held_keeps k (file_tables true) (g.own ∷ g.range ∷ g.base ∷ g.elec ∷ g.sym ∷ []) parts)
  where
    parts : (i : ℕ) → GoodSlots (Fine k) (get_or (file_tables true) i []) (part_of (g.own ∷ g.range ∷ g.base ∷ g.elec ∷ g.sym ∷ []) i)
    parts zero = always-slots k none0 file_table g.own g.own-good.good
    parts (suc zero) = always-slots k none0 range_table g.range g.range-good.good
    parts (suc (suc zero)) = always-slots k none0 base_table g.base g.base-good.good
    parts (suc (suc (suc zero))) = part-slots k (is_one (get_or g.range 2 None)) none0 none0 elec_table g.elec g.elec-good
    parts (suc (suc (suc (suc zero)))) = part-slots k (is_one (get_or g.range 5 None)) none0 none0 sym_table g.sym g.sym-good
    parts (suc (suc (suc (suc (suc i))))) = tt

later-keeps : (k : Known) (h : Held) → GoodLater h → Keeps (show_held k (file_tables false) h)
later-keeps k h g = rw g.is (held_keeps k (file_tables false) (g.own ∷ []) parts)
  where
    parts : (i : ℕ) → GoodSlots (Fine k) (get_or (file_tables false) i []) (part_of (g.own ∷ []) i)
    parts zero = always-slots k none0 later_table g.own g.own-good.good
    parts (suc i) = tt

-- ── figures ──
points-keep : (k : Known) (b : Bool) (ps : List Point) → GoodPoints b ps → Keeps (show_points k b ps)
points-keep k b [] g ls e = e
points-keep k b (p ∷ ps) g ls e = and_true _ _ (row_fine k none0 _ (nums p.values) (g.0 k)) (points-keep k b ps g.1 ls e)

text-keeps : (k : Known) (b : Bool) (s : Slots) → GoodText b s → Keeps (show_slots k (text_table b 4 12) s no_inner)
text-keeps k b s g = slots-keep k (text_table b 4 12) s no_inner none-keep (always-slots k none0 (text_table b 4 12) s g.good)

placed-keeps : (k : Known) (d : Digits) (h : Held) → GoodPlaced k d h → Keeps (show_held k placed_tables h)
placed-keeps k d h g = rw g.is (held_keeps k placed_tables (g.own ∷ g.text ∷ []) parts)
  where
    parts : (i : ℕ) → GoodSlots (Fine k) (get_or placed_tables i []) (part_of (g.own ∷ g.text ∷ []) i)
    parts zero = slots_weaken (GoodRow k d) (Fine k) (row_fine k d) placed_table g.own g.own-good.good
    parts (suc zero) = part-slots k (is_some (get_or g.own 1 None)) none0 none0 (text_table true 16 24) g.text g.text-good
    parts (suc (suc i)) = tt

edges-keep : (k : Known) (wires : ℕ) (former : Option Edge) (es : List Edge) → GoodEdges wires former es → Keeps (show_edges k es)
edges-keep k wires former [] g ls e = e
edges-keep k wires former (u ∷ es) g ls e =
    let line = g.0.line in
    rw (row_at line.row _) (and_true _ _ (row_fine k (digits_of wires) line.rule (nums u.values) (line.good k)) (edges-keep k wires (Some u) es g.1 ls e))

group-keeps : (k : Known) (d : Digits) (j : ℕ) (before vs : List (List Num)) → GoodGroup d j before vs → Keeps (show_group k (rule_at wire_table j) vs)
group-keeps k d j before [] g ls e = e
group-keeps k d j before (v ∷ vs) g ls e =
    let line = g.0.line in
    and_true _ _
    (subst (λ (r : Rule). fine (line_of k r (nums v)) ≡ true) (sym (row_at line.row (rule_at [] 0))) (row_fine k d line.rule (nums v) (line.good k)))
    (group-keeps k d j (before ++ v ∷ []) vs g.1 ls e)

texts-keep : (k : Known) (d : Digits) (ss : List Slots) → GoodTexts d ss → Keeps (show_wire_texts k ss)
texts-keep k d [] g ls e = e
texts-keep k d (s ∷ ss) g ls e =
    block-keeps (bytes "text") (show_slots k (text_table true 4 12) s no_inner) refl (text-keeps k true s g.1) (show_wire_texts k ss ls) (texts-keep k d ss g.2 ls e)

wire-keeps : (k : Known) (wires : ℕ) (w : Wire) → GoodWire wires w → Keeps (show_wire k w)
wire-keeps k wires w g ls e =
    let h = g.holds in
    let d = digits_of wires in
    edges-keep k wires None w.elements h.elements _
    (rw h.groups.are
    (group-keeps k d 2 [] h.groups.direcs h.groups.direcs-good _
    (group-keeps k d 3 [] h.groups.piends h.groups.piends-good _
    (group-keeps k d 4 [] h.groups.counts h.groups.counts-good _
    (texts-keep k d w.texts h.texts _
    (slots-keep k wire_table w.own no_inner none-keep (always-slots k d wire_table w.own h.own) ls e))))))

figure-keeps : (k : Known) (x : Ranges) (f : Figure) → GoodFigure k x f → Keeps (show_figure k true (layer_rows x) f)
figure-keeps k x (plain n j v) g ls e = rw (row_at g.row _) (and_true _ _ (row_fine k (symbol_digits x) g.rule (nums v) g.good) e)
figure-keeps k x (chain n ps) g ls e = block-keeps (bytes "successive") (show_points k true ps) refl (points-keep k true ps g.points) ls e
figure-keeps k x (lettering n s) g ls e = block-keeps (bytes "text") (show_slots k (text_table true 4 12) s no_inner) refl (text-keeps k true s g) ls e
figure-keeps k x (placed n h) g ls e = block-keeps (bytes "E_symbol") (show_held k placed_tables h) refl (placed-keeps k (symbol_digits x) h g.0) ls e
figure-keeps k x (wired n w) g ls e = block-keeps (bytes "E_wire") (show_wire k w) refl (wire-keeps k x.wires w g.1) ls e
figure-keeps k x (passed n) g ls e = absurd g

figures-keep : (k : Known) (x : Ranges) (fs : List Figure) → GoodFigures k x fs → Keeps (show_figures k true (layer_rows x) fs)
figures-keep k x [] g ls e = e
figures-keep k x (f ∷ fs) g ls e = figure-keeps k x f g.0 _ (figures-keep k x fs g.1 ls e)

shape-keeps : (k : Known) (d : Digits) (f : Figure) → GoodShape d f → Keeps (show_figure k false figure_table f)
shape-keeps k d (plain n j v) g ls e = rw (row_at g.row _) (and_true _ _ (row_fine k d g.rule (nums v) (g.good k)) e)
shape-keeps k d (chain n ps) g ls e = block-keeps (bytes "successive") (show_points k false ps) refl (points-keep k false ps g.points) ls e
shape-keeps k d (lettering n s) g ls e = block-keeps (bytes "text") (show_slots k (text_table false 4 12) s no_inner) refl (text-keeps k false s g) ls e
shape-keeps k d (placed n h) g ls e = absurd g
shape-keeps k d (wired n w) g ls e = absurd g
shape-keeps k d (passed n) g ls e = absurd g

shapes-keep : (k : Known) (d : Digits) (fs : List Figure) → GoodShapes d fs → Keeps (show_figures k false figure_table fs)
shapes-keep k d [] g ls e = e
shapes-keep k d (f ∷ fs) g ls e = shape-keeps k d f g.0 _ (shapes-keep k d fs g.1 ls e)

-- ── the drawing ──
layers-keep : (k : Known) (us : List Layer) → GoodLayers us → Keeps (show_layers k us)
layers-keep k [] g ls e = e
layers-keep k (u ∷ us) g ls e =
    and_true _ _ (allowed-fine (u.id ++ 61 ∷ chars_of u.name) (allowed_equal u.id (chars_of u.name) (layer-key u.id g.0.named) g.0.okay) g.0.short)
    (layers-keep k us g.1 ls e)

drawing-keeps : (k : Known) (arc : ℕ) (d : Drawing) → GoodDrawing arc d → Keeps (show_drawing k d)
drawing-keeps k arc d g =
    slots-keep k drawing_table d.own (λ i rest. show_layers k d.layers rest) (λ i. layers-keep k d.layers g.layers) (always-slots k _ drawing_table d.own g.own-good.good)

-- ── symbols ──
symbol-inner : (k : Known) (se : ℕ) (d : Digits) (y : Symbol) → GoodSymbol se d y → (i : ℕ) → Keeps (symbol_inner k y i)
symbol-inner k se d y g zero ls e = e
symbol-inner k se d y g (suc zero) ls e = shapes-keep k d y.figures g.shown ls e
symbol-inner k se d y g (suc (suc i)) ls e = points-keep k false y.hidden g.hidden ls e

symbol-slots : (P : Rule → Value → Type 0) (b : Bool) (s : Slots) → GoodSlots P symbol_table s → GoodSlots P (exchanged b symbol_table) (exchanged b s)
unfolding symbol_table
symbol-slots P b s g = slots-exchanged P b _ _ _ _ s g

symbol-keeps : (k : Known) (se : ℕ) (d : Digits) (y : Symbol) → GoodSymbol se d y → Keeps (show_symbol k y)
symbol-keeps k se d y g =
    block-keeps (bytes "E_symbol") (show_slots k (exchanged y.hide_first symbol_table) (exchanged y.hide_first y.own) (symbol_inner k y)) refl
    (slots-keep k (exchanged y.hide_first symbol_table) (exchanged y.hide_first y.own) (symbol_inner k y) (symbol-inner k se d y g)
    (symbol-slots (Fine k) y.hide_first y.own (always-slots k _ symbol_table y.own g.own-good.good)))

symbols-keep : (k : Known) (se : ℕ) (d : Digits) (ys : List Symbol) → GoodSymbols se d ys → Keeps (show_symbols k ys)
symbols-keep k se d [] g ls e = e
symbols-keep k se d (y ∷ ys) g ls e = symbol-keeps k se d y g.0 _ (symbols-keep k se d ys g.1 ls e)

defines-keep : (k : Known) (se : ℕ) (d : Digits) (ys : List Symbol) → GoodSymbols se d ys → Keeps (show_defines k ys)
defines-keep k se d ys g ls e = by_cond (λ (l : Text). all fine l ≡ true) (is_nil ys) (λ _. e) (λ _. symbols-keep k se d ys g ls e)

-- ── layers in use ──
id-length : (l : List ℕ) → is_layer_id l ≡ true → length l ≡ 5
id-length [] e = absurd (true≢false (sym e))
id-length (b ∷ s) e = rest s (and_right (has_number b (bytes "BAEPM")) _ e)
  where
    rest : (s : List ℕ) → (same (take 1 s) (bytes "_") && digit_run 3 3 (drop 1 s)) ≡ true → length (b ∷ s) ≡ 5
    rest [] e = absurd (true≢false (sym e))
    rest (c ∷ s) e =
        let w = and_right (all is_digit s) _ (and_right (same (c ∷ []) (bytes "_")) _ e) in
        let lo = leb-true 3 (length s) (and_left (leb 3 (length s)) _ w) in
        let hi = leb-true (length s) 3 (and_right (leb 3 (length s)) _ w) in
        omega arith

layer-fine : (id : List ℕ) → is_layer_id id ≡ true → fine (bytes "LAYER=" ++ open_line id) ≡ true
layer-fine id e =
    allowed-fine (bytes "LAYER=" ++ open_line id) (allowed-append (bytes "LAYER=") (open_line id) refl (allowed-key id (bytes ":{") (layer-key id e) refl))
    (le-leb (length (bytes "LAYER=" ++ open_line id)) 512 (omega (arith, id-length id e, length-append id (bytes ":{"))))

blocks-keep : (k : Known) (x : Ranges) (us : List LayerBlock) → GoodBlocks k x us → Keeps (show_blocks k (layer_rows x) us)
blocks-keep k x [] g ls e = e
blocks-keep k x (u ∷ us) g ls e =
    and_true _ _ (layer-fine (get_or k.layers u.layer []) g.0.id)
    (figures-keep k x u.figures g.0.figures (bytes "}" ∷ show_blocks k (layer_rows x) us ls) (blocks-keep k x us g.1 ls e))

-- ── the volumes ──
ending-fine : (vs : List Contents) → all fine (ending vs) ≡ true
ending-fine [] = refl
ending-fine (v ∷ vs) = refl

element-keeps : (k : Known) (x : Ranges) (us : List LayerBlock) → GoodBlocks k x us → Keeps (block (bytes "ELEMENT") (show_blocks k (layer_rows x) us))
element-keeps k x us g = block-keeps (bytes "ELEMENT") (show_blocks k (layer_rows x) us) refl (blocks-keep k x us g)

laters-fine : (k : Known) (x : Ranges) (s : Set) (ns : List (List ℕ)) (vs : List Contents) → GoodLaters k x s ns vs
    → all (all fine) (later_lines k (layer_rows x) vs) ≡ true
laters-fine k x s ns [] g = refl
laters-fine k x s [] (v ∷ vs) g = absurd g
laters-fine k x s (n ∷ ns) (v ∷ vs) g =
    and_true _ _
    (block-keeps (bytes "FILE_FORMAT") (show_held k (file_tables false) v.file) refl (later-keeps k v.file g.1) _
    (element-keeps k x v.blocks g.0.blocks (ending vs) (ending-fine vs)))
    (laters-fine k x s ns vs g.3)

pub lines-fine : (nexts : List (List ℕ)) (s : Set) → GoodSet nexts s → all (all fine) (volume_lines s s.volumes) ≡ true
lines-fine nexts s g =
    let k = known_of s in
    let v = g.first in
    subst (λ (vs : List Contents). all (all fine) (volume_lines s vs) ≡ true) (sym g.volumes)
    (and_true _ _
    (block-keeps (bytes "FILE_FORMAT") (show_held k (file_tables true) v.file) refl (file-keeps k v.file g.file) _
    (block-keeps (bytes "DRAWING_FORMAT") (show_drawing k s.drawing) refl (drawing-keeps k _ s.drawing g.drawing) _
    (block-keeps (bytes "SYMBOL_DEFINE") (show_defines k s.symbols) refl (defines-keep k _ (range_of s) s.symbols g.defines.0) _
    (element-keeps k (ranges_of s) v.blocks g.volume.blocks (ending g.rest) (ending-fine g.rest)))))
    (laters-fine k (ranges_of s) s g.others g.rest g.laters))

-- ── how many ──
-- each volume of the fixed form has lines
pub lines-some : (s : Set) → all (λ t. not (is_nil t)) (volume_lines s s.volumes) ≡ true
lines-some s = first s.volumes
  where
    later : (k : Known) (t : List Rule) (vs : List Contents) → all (λ t. not (is_nil t)) (later_lines k t vs) ≡ true
    later k t [] = refl
    later k t (v ∷ vs) = later k t vs

    first : (vs : List Contents) → all (λ t. not (is_nil t)) (volume_lines s vs) ≡ true
    first [] = refl
    first (v ∷ vs) = later (known_of s) (layer_table_of s) vs

-- as many volumes as the set has
pub lines-count : (s : Set) → length (volume_lines s s.volumes) ≡ length s.volumes
lines-count s = first s.volumes
  where
    later : (k : Known) (t : List Rule) (vs : List Contents) → length (later_lines k t vs) ≡ length vs
    later k t [] = refl
    later k t (v ∷ vs) = ap suc (later k t vs)

    first : (vs : List Contents) → length (volume_lines s vs) ≡ length vs
    first [] = refl
    first (v ∷ vs) = ap suc (later (known_of s) (layer_table_of s) vs)

pub nexts_count : (nexts : List (List ℕ)) (s : Set) → GoodSet nexts s → length nexts ≡ length s.volumes
nexts_count nexts s g = rw (g.nexts-are, g.volumes) (ap suc (later (known_of s) (ranges_of s) g.others g.rest g.laters))
  where
    later : (k : Known) (x : Ranges) (ns : List (List ℕ)) (vs : List Contents) → GoodLaters k x s ns vs → length ns ≡ length vs
    later k x [] [] h = refl
    later k x [] (v ∷ vs) h = absurd h
    later k x (n ∷ ns) [] h = absurd h
    later k x (n ∷ ns) (v ∷ vs) h = ap suc (later k x ns vs h.3)
