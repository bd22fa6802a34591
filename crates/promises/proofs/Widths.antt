-- Every record has 32 numbers: what is put into a record keeps its length.
use Rattle.std.specs.Prelude.{Some}
use Prim.Native.Nat.{ℕ, zero, suc, ◌+◌, ◌*◌, ◌-◌, ◌/◌, ◌≤◌}
use mathlib.Core.Bool.{Bool, true, false}
use mathlib.Core.List.{List, [], ◌∷◌, ◌++◌, map}
use mathlib.Core.Path.{◌≡◌, refl, ◌∙◌, ap}
use native.Mathlib.Omega.{arith}
use lib.IntN.{ℤ, pos}
use lib.Dec.{eqb}
use lib.ListN.{length, set, take, drop, replicate, length-append, length-take, length-drop, length-replicate, length-set}
use lib.Seq.{sets, take-append-add, length-sets}
use Rattle.rules.specs.declared.Digits.{Digits}
use Rattle.rules.specs.declared.Class.{Class}
use Rattle.rules.specs.Base.{flat}
use Rattle.rules.specs.RangeClass.{digits, digits_of}
use Rattle.rules.specs.Values.{Num, nums}
use Rattle.rules.specs.Rows.{Slots, Held}
use Rattle.rules.specs.Blocks.{file_tables, drawing_table, symbol_table}
use Rattle.rules.specs.Figures.{point_table, text_table, placed_table, placed_tables, wire_table}
use Rattle.rules.specs.Sets.{Point, Edge, Wire, Figure, plain, chain, lettering, placed, wired, passed, Layer, Symbol, Contents, Set}
use Rattle.rules.specs.RecordTable.{put_held, mark_unread, start, two_of, file_records, layer_records, rule_at, point_records, figure_records, inner_records, symbol_records, body_records, later_records, records_from, records_of}
use Rattle.rules.specs.RecordTable.{View, view_of, plain_view, put_slot, wire_start, wire_numbers, unread_numbers, kind_edge, place_join, edge_records, width, put_slots}
use Rattle.rules.specs.RecordTable.{Shelf, shelves, state_of_many, shown_lines, put_group, put_groups, place_texts, place_text_state, first_text, text_numbers, put_texts, place_elements, place_join_digit, wire_values, place_mark, unread_mark}
use Rattle.rules.proofs.Chains.{by_cond}
use Rattle.rules.proofs.RecordLengths.{length-slot, length-slots, length-parts, length-unread}
use Rattle.promises.specs.DemandOne.{Wide, no_record, one_more}

-- ── what is put into a record ──
placed-length : (c d : Digits) (h : Held) (t : List ℤ) → length (mark_unread c d placed_table (put_held placed_tables h t)) ≡ length t
placed-length c d h t = length-unread c d placed_table _ ∙ length-parts 0 placed_tables h t

group-length : (h : Shelf) (vs : List (List Num)) (t : List ℤ) → length (put_group h vs t) ≡ length t
group-length h vs t =
    let zs = pos (length vs) ∷ shown_lines h.shown h.wide vs in
    length-set (sets t h.place zs) h.state (state_of_many (length vs)) ∙ length-sets t h.place zs

groups-length : (hs : List Shelf) (gs : List (List (List Num))) (t : List ℤ) → length (put_groups hs gs t) ≡ length t
groups-length [] gs t = refl
groups-length (h ∷ hs) [] t = refl
groups-length (h ∷ hs) (g ∷ gs) t = group-length h g (put_groups hs gs t) ∙ groups-length hs gs t

texts-length : (ss : List Slots) (t : List ℤ) → length (put_texts ss t) ≡ length t
texts-length ss t =
    let zs = pos (length ss) ∷ text_numbers (first_text ss) in
    length-set (sets t place_texts zs) place_text_state (state_of_many (length ss)) ∙ length-sets t place_texts zs

-- the rows that stand once, texts and rows that repeat
pub rows-length : (x : Wire) (t : List ℤ) → length (put_groups shelves x.groups (put_texts x.texts (put_slots wire_table x.own t))) ≡ length t
rows-length x t =
    let own = put_slots wire_table x.own t in
    groups-length shelves x.groups (put_texts x.texts own) ∙ texts-length x.texts own ∙ length-slots wire_table x.own t

pub numbers-length : (range n : ℕ) (t : List ℤ) → length (wire_numbers range n t) ≡ length t
numbers-length range n t = length-set (set t place_elements (pos n)) place_join_digit (pos (range / 100)) ∙ length-set t place_elements (pos n)

pub wire-length : (w : View) (x : Wire) (t : List ℤ) → length (wire_values w x t) ≡ length t
wire-length w x t =
    let rows = put_groups shelves x.groups (put_texts x.texts (put_slots wire_table x.own t)) in
    length-unread w.class.wires (digits_of w.wires) wire_table (wire_numbers w.wires (length x.elements) rows)
    ∙ numbers-length w.wires (length x.elements) rows ∙ rows-length x t

-- ── lists of records ──
wide-append : (a b : List (List ℤ)) → Wide a → Wide b → Wide (a ++ b)
wide-append [] b no_record q = q
wide-append (r ∷ a) b (one_more e p) q = one_more e (wide-append a b p q)

wide-flat : {A : Type 0} (f : A → List (List ℤ)) → ((a : A) → Wide (f a)) → (s : List A) → Wide (flat (map f s))
wide-flat f h [] = no_record
wide-flat f h (a ∷ s) = wide-append (f a) _ (h a) (wide-flat f h s)

pub flat-length : (rs : List (List ℤ)) → Wide rs → length (flat rs) ≡ length rs * 32
flat-length [] no_record = refl
flat-length (r ∷ rs) (one_more e w) = omega (arith, length-append r (flat rs), e, flat-length rs w)

-- ── the records of a set ──
wide-points : (kind owner volume : ℕ) (ps : List Point) → Wide (point_records kind owner volume ps)
wide-points kind owner volume [] = no_record
wide-points kind owner volume (p ∷ ps) = one_more (length-slot (rule_at (point_table true) 0) (Some (nums p.values)) _) (wide-points kind owner volume ps)

-- 64 numbers, cut into 32 and 32
wide-two : (t : List ℤ) → length t ≡ 64 → Wide (two_of t)
wide-two t e =
    let first : length (take 32 t) ≡ 32 = omega (arith, length-take 32 t) in
    let second : length (drop 32 t) ≡ 32 = omega (arith, length-drop 32 t) in
    one_more first (one_more second no_record)

wide-edges : (owner volume : ℕ) (es : List Edge) → Wide (edge_records owner volume es)
wide-edges owner volume [] = no_record
wide-edges owner volume (e ∷ es) =
    let t = start (kind_edge + e.row) owner volume e.line in
    let r = rule_at wire_table e.row in
    let v = Some (nums e.values) in
    one_more (length-set (put_slot r v t) place_join (pos e.join) ∙ length-slot r v t) (wide-edges owner volume es)

wide-figure : (w : View) (more owner volume : ℕ) (f : Figure) → Wide (figure_records w more owner volume f)
wide-figure w more owner volume (plain n j v) =
    one_more
    (by_cond (λ (l : List ℤ). length l ≡ 32) (eqb j 6)
    (λ _. placed-length w.class.symbols w.symbols ((Some (nums v) ∷ []) ∷ []) (start (16 + more) owner volume n))
    (λ _. length-slot (rule_at w.table j) (Some (nums v)) _))
    no_record
wide-figure w more owner volume (chain n ps) = one_more refl (wide-points (17 + more) owner volume ps)
wide-figure w more owner volume (lettering n s) = one_more (length-slots (text_table true 4 12) s _) no_record
wide-figure w more owner volume (placed n h) = one_more (placed-length w.class.symbols w.symbols h _) no_record
wide-figure w more owner volume (wired n x) =
    wide-append _ _ (wide-two (wire_values w x (wire_start owner volume n)) (wire-length w x (wire_start owner volume n))) (wide-edges owner volume x.elements)
wide-figure w more owner volume (passed n) =
    let t = mark_unread (digits 0 0) (digits_of w.wires) wire_table (wire_start owner volume n) in
    wide-two (unread_numbers t)
    (length-set (set t place_mark unread_mark) (width + place_mark) unread_mark ∙ length-set t place_mark unread_mark ∙ length-unread (digits 0 0) (digits_of w.wires) wire_table (wire_start owner volume n))

wide-inner : (n : ℕ) (y : Symbol) → Wide (inner_records n y)
wide-inner n y =
    let shown = wide-flat _ (wide-figure plain_view 20 n 1) y.figures in
    let hidden = wide-points 43 n 1 y.hidden in
    by_cond Wide y.hide_first (λ e. wide-append _ _ hidden shown) (λ e. wide-append _ _ shown hidden)

wide-symbols : (n : ℕ) (ys : List Symbol) → Wide (symbol_records n ys)
wide-symbols n [] = no_record
wide-symbols n (y ∷ ys) = one_more (length-slots symbol_table y.own _) (wide-append (inner_records n y) _ (wide-inner n y) (wide-symbols (suc n) ys))

wide-layers : (n : ℕ) (ls : List Layer) → Wide (layer_records n ls)
wide-layers n [] = no_record
wide-layers n (l ∷ ls) = one_more refl (wide-layers (suc n) ls)

wide-body : (w : View) (k : ℕ) (v : Contents) → Wide (body_records w k v)
wide-body w k v = wide-flat _ (λ u. wide-flat _ (wide-figure w 0 u.layer k) u.figures) v.blocks

wide-file : (b : Bool) (k : ℕ) (v : Contents) → Wide (file_records b k v)
wide-file true k v = wide-two (put_held (file_tables true) v.file (start 1 0 k v.line ++ start 2 0 k v.line)) (length-parts 0 (file_tables true) v.file (start 1 0 k v.line ++ start 2 0 k v.line))
wide-file false k v = one_more (length-parts 0 (file_tables false) v.file _) no_record

wide-later : (w : View) (k : ℕ) (vs : List Contents) → Wide (later_records w k vs)
wide-later w k [] = no_record
wide-later w k (v ∷ vs) =
    wide-append _ _ (wide-append (file_records false k v) _ (wide-file false k v) (wide-body w k v)) (wide-later w (suc k) vs)

wide_from : (c : Class) (s : Set) (vs : List Contents) → Wide (records_from c s vs)
wide_from c s [] = no_record
wide_from c s (v ∷ vs) =
    let w = view_of c s in
    wide-append _ _
    (wide-append _ _
    (wide-append _ _
    (wide-append (file_records true 1 v) _ (wide-file true 1 v) (one_more (length-slots drawing_table s.drawing.own _) (wide-layers 0 s.drawing.layers)))
    (wide-symbols 0 s.symbols))
    (wide-body w 1 v))
    (wide-later w 2 vs)

pub wide-records : (c : Class) (s : Set) → Wide (records_of c s)
unfolding records_of
wide-records c s = wide_from c s s.volumes

-- ── a lent part: what is written, and zeros up to its length ──
pub take_replicate : {A : Type 0} (k m : ℕ) (z : A) → k ≤ m → take k (replicate m z) ≡ replicate k z
take_replicate zero m z h = refl
take_replicate (suc k) zero z h = absurd (omega arith)
take_replicate (suc k) (suc m) z h = ap (λ l. z ∷ l) (take_replicate k m z (omega arith))

pub filled-length : {A : Type 0} (n : ℕ) (z : A) (p : List A) → length (take n (p ++ replicate n z)) ≡ n
filled-length n z p = omega (arith, length-take n (p ++ replicate n z), length-append p (replicate n z), length-replicate n z)

pub filled : {A : Type 0} (n : ℕ) (z : A) (p : List A) → length p ≤ n → take n (p ++ replicate n z) ≡ p ++ replicate (n - length p) z
filled n z p h =
    let e : n ≡ length p + (n - length p) = omega arith in
    ap (λ (k : ℕ). take k (p ++ replicate n z)) e ∙ take-append-add p (replicate n z) (n - length p)
    ∙ ap (λ l. p ++ l) (take_replicate (n - length p) n z (omega arith))
