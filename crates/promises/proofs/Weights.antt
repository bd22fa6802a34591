-- The weight of what the fixed form writes: the bytes of its lines with their CR LF, piece by piece.
use Rattle.std.specs.Prelude.{Option, Some, None}
use Prim.Native.Nat.{ℕ, zero, suc, ◌+◌, ◌≤◌}
use mathlib.Core.Bool.{Bool, true, false, cond}
use mathlib.Core.List.{List, [], ◌∷◌, ◌++◌}
use mathlib.Core.Path.{◌≡◌, refl}
use native.Mathlib.Omega.{arith}
use lib.ListN.{length, get_or, set}
use Rattle.rules.specs.Base.{bytes, is_nil, total}
use Rattle.rules.specs.Values.{Num, Value, nums, Known, Part, Kind, values, text, word, volume_name, sheet, ratio, serials, wire_serial, symbol_circle, nothing, opens, headed, either, chars_of}
use Rattle.rules.specs.Rows.{Rule, Slots, blank, Held, part_of, rows_there}
use Rattle.rules.specs.Blocks.{file_table, range_table, base_table, elec_table, sym_table, later_table, file_tables, drawing_table, symbol_table, blank_held}
use Rattle.rules.specs.Figures.{figure_table, point_table, text_table, placed_table, placed_tables, wire_table, wire_text_table, first_group_row}
use Rattle.rules.specs.Sets.{Point, Figure, plain, chain, lettering, placed, Layer, Drawing, Symbol, LayerBlock, Contents, Set, known_of, Edge, Wire, wired, passed}
use Rattle.rules.specs.RecordTable.{rule_at}
use Rattle.rules.specs.FixedForm.{Text, open_line, opens_block, inner_of, line_of, show_value, show_slots, no_inner, show_inner, show_held, block, show_points, show_figure, show_figures, show_layers, show_drawing, symbol_inner, exchanged, show_symbol, show_symbols, show_defines, show_blocks, show_first, show_later, ending, later_lines, volume_lines, show_edges, show_group, show_groups, show_wire_texts, show_wire}
use Rattle.rules.specs.Sets.{layer_table_of}
use Rattle.rules.proofs.Chains.{clash, total-more}
use Rattle.rules.proofs.Rows.{Row, here, there}

abbrev pub weigh : Text → ℕ
weigh ls = total (λ l. length l + 2) ls

-- ── kinds that open an inner block ──
-- what is known of every kind that opens is known where a line opened
pub open-kind : (P : Kind → Type 0) → ((i : ℕ) → P (opens i)) → ((i : ℕ) (p : Part) → P (headed i p)) → ((i : ℕ) → P (either i))
    → (d : Kind) (v : Value) → opens_block d v ≡ true → P d
open-kind P f g h (values p ps a) v e = clash e refl
open-kind P f g h (text n b) v e = clash e refl
open-kind P f g h (word n b) v e = clash e refl
open-kind P f g h volume_name v e = clash e refl
open-kind P f g h sheet v e = clash e refl
open-kind P f g h ratio v e = clash e refl
open-kind P f g h serials v e = clash e refl
open-kind P f g h wire_serial v e = clash e refl
open-kind P f g h symbol_circle v e = clash e refl
open-kind P f g h nothing v e = clash e refl
open-kind P f g h (opens i) v e = f i
open-kind P f g h (headed i p) v e = g i p
open-kind P f g h (either i) v e = h i

-- an amount for the inner block of a kind, 0 where it opens none
abbrev pub inner_cost : (ℕ → ℕ) → Kind → ℕ
inner_cost w (values p ps a) = 0
inner_cost w (text n b) = 0
inner_cost w (word n b) = 0
inner_cost w volume_name = 0
inner_cost w sheet = 0
inner_cost w ratio = 0
inner_cost w serials = 0
inner_cost w wire_serial = 0
inner_cost w symbol_circle = 0
inner_cost w nothing = 0
inner_cost w (opens i) = w i
inner_cost w (headed i p) = w i
inner_cost w (either i) = w i

-- the same over a table
abbrev pub inners_cost : (ℕ → ℕ) → List Rule → ℕ
inners_cost w t = total (λ r. inner_cost w r.holds) t

pub inner_open : (w : ℕ → ℕ) (d : Kind) (v : Value) → opens_block d v ≡ true → inner_cost w d ≡ w (inner_of d)
inner_open w d v e = open-kind (λ d. inner_cost w d ≡ w (inner_of d)) (λ i. refl) (λ i p. refl) (λ i. refl) d v e

-- ── rows ──
-- a row's line, and the `}` of the block that it opens
abbrev pub line_cost : Known → Rule → Value → ℕ
line_cost k r v = length (line_of k r v) + 2 + cond (opens_block r.holds v) 3 0

abbrev pub slot_cost : Known → Rule → Option Value → ℕ
slot_cost k r None = 0
slot_cost k r (Some v) = line_cost k r v

abbrev pub slots_cost : Known → List Rule → Slots → ℕ
slots_cost k [] s = 0
slots_cost k (r ∷ t) [] = 0
slots_cost k (r ∷ t) (o ∷ s) = slot_cost k r o + slots_cost k t s

pub no-slots : (k : Known) (t : List Rule) → slots_cost k t [] ≡ 0
no-slots k [] = refl
no-slots k (r ∷ t) = refl

pub blank-cost : (k : Known) (t : List Rule) → slots_cost k t (blank t) ≡ 0
blank-cost k [] = refl
blank-cost k (r ∷ t) = omega (arith, blank-cost k t)

-- a line more, in a row that was blank
pub set-cost : {t : List Rule} {j : ℕ} {r : Rule} → Row t j r → (k : Known) (s : Slots) (v : Value) → get_or (rows_there s) j false ≡ false
    → slots_cost k t (set s j (Some v)) ≤ slots_cost k t s + line_cost k r v
set-cost here k [] v e = omega arith
set-cost here k (None ∷ s) v e = omega arith
set-cost here k (Some u ∷ s) v e = clash refl e
set-cost (there w) k [] v e = omega arith
set-cost (there w) k (o ∷ s) v e = omega (arith, set-cost w k s v e)

module _ (k : Known) (inner : ℕ → Text → Text) (w : ℕ → ℕ) (h : (i : ℕ) (ls : Text) → weigh (inner i ls) ≤ w i + weigh ls) where
  value-weight : (r : Rule) (v : Value) (ls : Text) → weigh (show_value k r v inner ls) ≤ line_cost k r v + inner_cost w r.holds + weigh ls
  value-weight r v ls = go (opens_block r.holds v) refl
    where
      go : (b : Bool) → opens_block r.holds v ≡ b
          → weigh (line_of k r v ∷ cond b (inner (inner_of r.holds) (bytes "}" ∷ ls)) ls) ≤ length (line_of k r v) + 2 + cond b 3 0 + inner_cost w r.holds + weigh ls
      go true e = omega (arith, inner_open w r.holds v e, h (inner_of r.holds) (bytes "}" ∷ ls))
      go false e = omega arith

  pub slots-weight : (t : List Rule) (s : Slots) (ls : Text) → weigh (show_slots k t s inner ls) ≤ slots_cost k t s + inners_cost w t + weigh ls
  slots-weight [] s ls = omega arith
  slots-weight (r ∷ t) [] ls = omega arith
  slots-weight (r ∷ t) (None ∷ s) ls = omega (arith, slots-weight t s ls)
  slots-weight (r ∷ t) (Some v ∷ s) ls = omega (arith, value-weight r v (show_slots k t s inner ls), slots-weight t s ls)

-- ── inner parts: each is held once, and written at most once ──
abbrev pub held_cost : Known → List (List Rule) → Held → ℕ
held_cost k [] h = 0
held_cost k (t ∷ ts) [] = 0
held_cost k (t ∷ ts) (s ∷ h) = slots_cost k t s + held_cost k ts h

pub blank-held : (k : Known) (ts : List (List Rule)) → held_cost k ts (blank_held ts) ≡ 0
blank-held k [] = refl
blank-held k (t ∷ ts) = omega (arith, blank-cost k t, blank-held k ts)

-- a part's slots changed
pub set-held : (k : Known) (ts : List (List Rule)) (h : Held) (p : ℕ) (x : Slots)
    → held_cost k ts (set h p x) + slots_cost k (get_or ts p []) (part_of h p) ≤ held_cost k ts h + slots_cost k (get_or ts p []) x
set-held k [] h p x = omega arith
set-held k (t ∷ ts) [] p x = omega (arith, no-slots k (get_or (t ∷ ts) p []))
set-held k (t ∷ ts) (s ∷ h) zero x = omega arith
set-held k (t ∷ ts) (s ∷ h) (suc p) x = omega (arith, set-held k ts h p x)

-- the parts one by one
abbrev parts_from : Known → List (List Rule) → Held → ℕ → ℕ
parts_from k [] h p = 0
parts_from k (t ∷ ts) h p = slots_cost k t (part_of h p) + parts_from k ts h (suc p)

parts_none : (k : Known) (ts : List (List Rule)) (p : ℕ) → parts_from k ts [] p ≡ 0
parts_none k [] p = refl
parts_none k (t ∷ ts) p = omega (arith, no-slots k t, parts_none k ts (suc p))

parts_next : (k : Known) (ts : List (List Rule)) (s : Slots) (h : Held) (p : ℕ) → parts_from k ts (s ∷ h) (suc p) ≡ parts_from k ts h p
parts_next k [] s h p = refl
parts_next k (t ∷ ts) s h p = omega (arith, parts_next k ts s h (suc p))

held-parts : (k : Known) (ts : List (List Rule)) (h : Held) → parts_from k ts h 0 ≡ held_cost k ts h
held-parts k [] h = refl
held-parts k (t ∷ ts) [] = parts_none k (t ∷ ts) 0
held-parts k (t ∷ ts) (s ∷ h) = omega (arith, parts_next k ts s h 0, held-parts k ts h)

-- what a part weighs with the parts in it, three deep
abbrev part_cost : Known → List (List Rule) → Held → (ℕ → ℕ) → ℕ → ℕ
part_cost k ts h w i = slots_cost k (get_or ts i []) (part_of h i) + inners_cost w (get_or ts i [])

inner-weight : (k : Known) (ts : List (List Rule)) (h : Held) (inner : ℕ → Text → Text) (w : ℕ → ℕ) → ((i : ℕ) (ls : Text) → weigh (inner i ls) ≤ w i + weigh ls)
    → (i : ℕ) (ls : Text) → weigh (show_inner k ts h inner i ls) ≤ part_cost k ts h w i + weigh ls
inner-weight k ts h inner w f i ls = slots-weight k inner w f (get_or ts i []) (part_of h i) ls

held-deep : (k : Known) (ts : List (List Rule)) (h : Held) (ls : Text)
    → weigh (show_held k ts h ls) ≤ part_cost k ts h (part_cost k ts h (part_cost k ts h (λ i. 0))) 0 + weigh ls
held-deep k ts h ls =
    inner-weight k ts h _ (part_cost k ts h (part_cost k ts h (λ i. 0)))
    (inner-weight k ts h _ (part_cost k ts h (λ i. 0))
    (inner-weight k ts h no_inner (λ i. 0) (λ i ls. omega arith))) 0 ls

pub file-weight : (k : Known) (b : Bool) (h : Held) (ls : Text) → weigh (show_held k (file_tables b) h ls) ≤ held_cost k (file_tables b) h + weigh ls
unfolding file_table range_table base_table elec_table sym_table later_table
file-weight k true h ls = omega (arith, held-deep k (file_tables true) h ls, held-parts k (file_tables true) h)
file-weight k false h ls = omega (arith, held-deep k (file_tables false) h ls, held-parts k (file_tables false) h)

pub placed-weight : (k : Known) (h : Held) (ls : Text) → weigh (show_held k placed_tables h ls) ≤ held_cost k placed_tables h + weigh ls
unfolding placed_table text_table
placed-weight k h ls = omega (arith, held-deep k placed_tables h ls, held-parts k placed_tables h)

-- ── blocks and figures ──
-- a block: its opening line, what is in it, its `}`
abbrev pub block_cost : List ℕ → ℕ → ℕ
block_cost key inside = length (open_line key) + 5 + inside

abbrev pub point_cost : Known → Bool → Point → ℕ
point_cost k b p = length (line_of k (rule_at (point_table b) 0) (nums p.values)) + 2

abbrev pub points_cost : Known → Bool → List Point → ℕ
points_cost k b ps = total (point_cost k b) ps

pub points-weight : (k : Known) (b : Bool) (ps : List Point) (ls : Text) → weigh (show_points k b ps ls) ≤ points_cost k b ps + weigh ls
points-weight k b [] ls = omega arith
points-weight k b (p ∷ ps) ls = omega (arith, points-weight k b ps ls)

abbrev pub edge_cost : Known → Edge → ℕ
edge_cost k e = length (line_of k (rule_at wire_table e.row) (nums e.values)) + 2

abbrev pub edges_cost : Known → List Edge → ℕ
edges_cost k es = total (edge_cost k) es

edges-weight : (k : Known) (es : List Edge) (ls : Text) → weigh (show_edges k es ls) ≤ edges_cost k es + weigh ls
edges-weight k [] ls = omega arith
edges-weight k (e ∷ es) ls = omega (arith, edges-weight k es ls)

-- the lines of a row that repeats, and of such rows from number j on
abbrev pub group_cost : Known → Rule → List (List Num) → ℕ
group_cost k r vs = total (λ v. length (line_of k r (nums v)) + 2) vs

abbrev pub groups_cost : Known → ℕ → List (List (List Num)) → ℕ
groups_cost k j [] = 0
groups_cost k j (g ∷ gs) = group_cost k (rule_at wire_table j) g + groups_cost k (suc j) gs

-- the number of the row that is i behind row j
abbrev pub onward : ℕ → ℕ → ℕ
onward j zero = j
onward j (suc i) = onward (suc j) i

-- a line more in one of them
pub groups-more : (k : Known) (gs : List (List (List Num))) (j i : ℕ) (v : List Num)
    → groups_cost k j (set gs i (get_or gs i [] ++ v ∷ [])) ≤ groups_cost k j gs + (length (line_of k (rule_at wire_table (onward j i)) (nums v)) + 2)
groups-more k [] j i v = omega arith
groups-more k (g ∷ gs) j zero v = omega (arith, total-more (λ v. length (line_of k (rule_at wire_table j) (nums v)) + 2) g v)
groups-more k (g ∷ gs) j (suc i) v = omega (arith, groups-more k gs (suc j) i v)

group-weight : (k : Known) (r : Rule) (vs : List (List Num)) (ls : Text) → weigh (show_group k r vs ls) ≤ group_cost k r vs + weigh ls
group-weight k r [] ls = omega arith
group-weight k r (v ∷ vs) ls = omega (arith, group-weight k r vs ls)

groups-weight : (k : Known) (j : ℕ) (gs : List (List (List Num))) (ls : Text) → weigh (show_groups k j gs ls) ≤ groups_cost k j gs + weigh ls
groups-weight k j [] ls = omega arith
groups-weight k j (g ∷ gs) ls = omega (arith, group-weight k (rule_at wire_table j) g (show_groups k (suc j) gs ls), groups-weight k (suc j) gs ls)

abbrev pub text_cost : Known → Slots → ℕ
text_cost k s = block_cost (bytes "text") (slots_cost k wire_text_table s)

abbrev pub texts_cost : Known → List Slots → ℕ
texts_cost k ss = total (text_cost k) ss

abbrev pub wire_cost : Known → Wire → ℕ
wire_cost k w = edges_cost k w.elements + (groups_cost k first_group_row w.groups + (texts_cost k w.texts + slots_cost k wire_table w.own))

abbrev pub figure_cost : Known → Bool → List Rule → Figure → ℕ
figure_cost k b t (plain n j v) = length (line_of k (rule_at t j) (nums v)) + 2
figure_cost k b t (chain n ps) = block_cost (bytes "successive") (points_cost k b ps)
figure_cost k b t (lettering n s) = block_cost (bytes "text") (slots_cost k (text_table b 4 12) s)
figure_cost k b t (placed n h) = block_cost (bytes "E_symbol") (held_cost k placed_tables h)
figure_cost k b t (wired n w) = block_cost (bytes "E_wire") (wire_cost k w)
figure_cost k b t (passed n) = block_cost (bytes "E_wire") 0

abbrev pub figures_cost : Known → Bool → List Rule → List Figure → ℕ
figures_cost k b t fs = total (figure_cost k b t) fs

text-weight : (k : Known) (b : Bool) (s : Slots) (ls : Text) → weigh (show_slots k (text_table b 4 12) s no_inner ls) ≤ slots_cost k (text_table b 4 12) s + weigh ls
unfolding text_table
text-weight k b s ls = omega (arith, slots-weight k no_inner (λ i. 0) (λ i ls. omega arith) (text_table b 4 12) s ls)

texts-weight : (k : Known) (ss : List Slots) (ls : Text) → weigh (show_wire_texts k ss ls) ≤ texts_cost k ss + weigh ls
texts-weight k [] ls = omega arith
texts-weight k (s ∷ ss) ls = omega (arith, text-weight k true s (bytes "}" ∷ show_wire_texts k ss ls), texts-weight k ss ls)

once-weight : (k : Known) (s : Slots) (ls : Text) → weigh (show_slots k wire_table s no_inner ls) ≤ slots_cost k wire_table s + weigh ls
unfolding wire_table
once-weight k s ls = omega (arith, slots-weight k no_inner (λ i. 0) (λ i ls. omega arith) wire_table s ls)

wire-weight : (k : Known) (w : Wire) (ls : Text) → weigh (show_wire k w ls) ≤ wire_cost k w + weigh ls
wire-weight k w ls =
    let l1 : Text = show_slots k wire_table w.own no_inner ls in
    let l2 : Text = show_wire_texts k w.texts l1 in
    omega (
      arith,
      once-weight k w.own ls,
      texts-weight k w.texts l1,
      groups-weight k first_group_row w.groups l2,
      edges-weight k w.elements (show_groups k first_group_row w.groups l2),
    )

figure-weight : (k : Known) (b : Bool) (t : List Rule) (f : Figure) (ls : Text) → weigh (show_figure k b t f ls) ≤ figure_cost k b t f + weigh ls
figure-weight k b t (plain n j v) ls = omega arith
figure-weight k b t (chain n ps) ls = omega (arith, points-weight k b ps (bytes "}" ∷ ls))
figure-weight k b t (lettering n s) ls = omega (arith, text-weight k b s (bytes "}" ∷ ls))
figure-weight k b t (placed n h) ls = omega (arith, placed-weight k h (bytes "}" ∷ ls))
figure-weight k b t (wired n w) ls = omega (arith, wire-weight k w (bytes "}" ∷ ls))
figure-weight k b t (passed n) ls = omega arith

pub figures-weight : (k : Known) (b : Bool) (t : List Rule) (fs : List Figure) (ls : Text) → weigh (show_figures k b t fs ls) ≤ figures_cost k b t fs + weigh ls
figures-weight k b t [] ls = omega arith
figures-weight k b t (f ∷ fs) ls = omega (arith, figure-weight k b t f (show_figures k b t fs ls), figures-weight k b t fs ls)

-- ── the drawing ──
abbrev pub layer_cost : Layer → ℕ
layer_cost l = length (l.id ++ 61 ∷ chars_of l.name) + 2

abbrev pub layers_cost : List Layer → ℕ
layers_cost ls = total layer_cost ls

layers-weight : (k : Known) (us : List Layer) (ls : Text) → weigh (show_layers k us ls) ≤ layers_cost us + weigh ls
layers-weight k [] ls = omega arith
layers-weight k (u ∷ us) ls = omega (arith, layers-weight k us ls)

abbrev pub drawing_cost : Known → Drawing → ℕ
drawing_cost k d = slots_cost k drawing_table d.own + layers_cost d.layers

drawing-weight : (k : Known) (d : Drawing) (ls : Text) → weigh (show_drawing k d ls) ≤ drawing_cost k d + weigh ls
unfolding drawing_table
drawing-weight k d ls =
    omega (arith, slots-weight k (λ i rest. show_layers k d.layers rest) (λ i. layers_cost d.layers) (λ i ls. layers-weight k d.layers ls) drawing_table d.own ls)

-- ── symbols ──
-- what a symbol holds, its own lines at this weight
abbrev pub symbol_cost : Known → ℕ → Symbol → ℕ
symbol_cost k own y = block_cost (bytes "E_symbol") (own + figures_cost k false figure_table y.figures + points_cost k false y.hidden)

-- its own lines in the order written
abbrev pub own_cost : Known → Symbol → ℕ
own_cost k y = slots_cost k (exchanged y.hide_first symbol_table) (exchanged y.hide_first y.own)

abbrev pub symbols_cost : Known → List Symbol → ℕ
symbols_cost k ys = total (λ y. symbol_cost k (own_cost k y) y) ys

-- the order does not matter, where there are slots enough
exchange-cost : (k : Known) (b : Bool) (q r u : Rule) (t : List Rule) (s : Slots) → 3 ≤ length s
    → slots_cost k (exchanged b (q ∷ r ∷ u ∷ t)) (exchanged b s) ≡ slots_cost k (q ∷ r ∷ u ∷ t) s
exchange-cost k false q r u t s e = refl
exchange-cost k true q r u t [] e = omega arith
exchange-cost k true q r u t (a ∷ []) e = omega arith
exchange-cost k true q r u t (a ∷ b ∷ []) e = omega arith
exchange-cost k true q r u t (a ∷ b ∷ c ∷ s) e = omega arith

pub own-cost : (k : Known) (y : Symbol) → 3 ≤ length y.own → own_cost k y ≡ slots_cost k symbol_table y.own
unfolding symbol_table
own-cost k y e = exchange-cost k y.hide_first _ _ _ _ y.own e

symbol_inners : Known → Symbol → ℕ → ℕ
symbol_inners k y zero = 0
symbol_inners k y (suc zero) = figures_cost k false figure_table y.figures
symbol_inners k y (suc (suc i)) = points_cost k false y.hidden

symbol-inner : (k : Known) (y : Symbol) (i : ℕ) (ls : Text) → weigh (symbol_inner k y i ls) ≤ symbol_inners k y i + weigh ls
unfolding symbol_inners
symbol-inner k y zero ls = omega arith
symbol-inner k y (suc zero) ls = figures-weight k false figure_table y.figures ls
symbol-inner k y (suc (suc i)) ls = points-weight k false y.hidden ls

inners-exchanged : (k : Known) (y : Symbol) (b : Bool)
    → inners_cost (symbol_inners k y) (exchanged b symbol_table) ≡ figures_cost k false figure_table y.figures + points_cost k false y.hidden
unfolding symbol_inners symbol_table
inners-exchanged k y true = omega arith
inners-exchanged k y false = omega arith

symbol-weight : (k : Known) (y : Symbol) (ls : Text) → weigh (show_symbol k y ls) ≤ symbol_cost k (own_cost k y) y + weigh ls
symbol-weight k y ls =
    omega (
      arith,
      slots-weight k (symbol_inner k y) (symbol_inners k y) (symbol-inner k y) (exchanged y.hide_first symbol_table) (exchanged y.hide_first y.own) (bytes "}" ∷ ls),
      inners-exchanged k y y.hide_first,
    )

symbols-weight : (k : Known) (ys : List Symbol) (ls : Text) → weigh (show_symbols k ys ls) ≤ symbols_cost k ys + weigh ls
symbols-weight k [] ls = omega arith
symbols-weight k (y ∷ ys) ls = omega (arith, symbol-weight k y (show_symbols k ys ls), symbols-weight k ys ls)

-- `NON=`, where there is no symbol
abbrev pub non_cost : Bool → ℕ
non_cost b = cond b 6 0

defines-weight : (k : Known) (ys : List Symbol) (ls : Text) → weigh (show_defines k ys ls) ≤ non_cost (is_nil ys) + symbols_cost k ys + weigh ls
defines-weight k [] ls = omega arith
defines-weight k (y ∷ ys) ls = omega (arith, symbols-weight k (y ∷ ys) ls)

-- ── volumes ──
-- the line `LAYER=id:{` and its `}`
abbrev pub layer_head : Known → ℕ → ℕ
layer_head k n = length (bytes "LAYER=" ++ open_line (get_or k.layers n [])) + 5

abbrev pub blocks_cost : Known → List Rule → List LayerBlock → ℕ
blocks_cost k t us = total (λ u. layer_head k u.layer + figures_cost k true t u.figures) us

blocks-weight : (k : Known) (t : List Rule) (us : List LayerBlock) (ls : Text) → weigh (show_blocks k t us ls) ≤ blocks_cost k t us + weigh ls
blocks-weight k t [] ls = omega arith
blocks-weight k t (u ∷ us) ls = omega (arith, figures-weight k true t u.figures (bytes "}" ∷ show_blocks k t us ls), blocks-weight k t us ls)

abbrev pub file_cost : Known → Bool → Held → ℕ
file_cost k b h = block_cost (bytes "FILE_FORMAT") (held_cost k (file_tables b) h)

abbrev pub element_cost : Known → List Rule → List LayerBlock → ℕ
element_cost k t us = block_cost (bytes "ELEMENT") (blocks_cost k t us)

-- FILE_FORMAT, DRAWING_FORMAT and SYMBOL_DEFINE of the first volume, without its symbols
abbrev pub head_cost : Known → Drawing → List Symbol → Held → ℕ
head_cost k d ys h = file_cost k true h + block_cost (bytes "DRAWING_FORMAT") (drawing_cost k d) + block_cost (bytes "SYMBOL_DEFINE") (non_cost (is_nil ys))

-- (what names nothing at k, the layers at k')
abbrev pub laters_cost : Known → Known → List Rule → List Contents → ℕ
laters_cost k k' t vs = total (λ v. file_cost k false v.file + element_cost k' t v.blocks) vs

abbrev pub volumes_cost : Known → Known → List Rule → Drawing → List Symbol → List Contents → ℕ
volumes_cost k k' t d ys [] = symbols_cost k ys
volumes_cost k k' t d ys (v ∷ vs) = symbols_cost k ys + head_cost k d ys v.file + element_cost k' t v.blocks + laters_cost k k' t vs

first-weight : (k : Known) (t : List Rule) (s : Set) (v : Contents) (ls : Text)
    → weigh (show_first k t s v ls) ≤ symbols_cost k s.symbols + head_cost k s.drawing s.symbols v.file + element_cost k t v.blocks + weigh ls
first-weight k t s v ls =
    let l1 : Text = block (bytes "ELEMENT") (show_blocks k t v.blocks) ls in
    let l2 : Text = block (bytes "SYMBOL_DEFINE") (show_defines k s.symbols) l1 in
    let l3 : Text = block (bytes "DRAWING_FORMAT") (show_drawing k s.drawing) l2 in
    omega (
      arith,
      file-weight k true v.file (bytes "}" ∷ l3),
      drawing-weight k s.drawing (bytes "}" ∷ l2),
      defines-weight k s.symbols (bytes "}" ∷ l1),
      blocks-weight k t v.blocks (bytes "}" ∷ ls),
    )

later-weight : (k : Known) (t : List Rule) (v : Contents) (ls : Text) → weigh (show_later k t v ls) ≤ file_cost k false v.file + element_cost k t v.blocks + weigh ls
later-weight k t v ls =
    omega (arith, file-weight k false v.file (bytes "}" ∷ block (bytes "ELEMENT") (show_blocks k t v.blocks) ls), blocks-weight k t v.blocks (bytes "}" ∷ ls))

-- the lines of the volumes behind one, with the EOF that stands in the last
laters-weight : (k : Known) (t : List Rule) (vs : List Contents) → weigh (ending vs) + total weigh (later_lines k t vs) ≤ laters_cost k k t vs + 5
laters-weight k t [] = omega arith
laters-weight k t (v ∷ vs) = omega (arith, later-weight k t v (ending vs), laters-weight k t vs)

-- the whole set, with its EOF
pub volumes-weight : (s : Set) (vs : List Contents)
    → total weigh (volume_lines s vs) ≤ volumes_cost (known_of s) (known_of s) (layer_table_of s) s.drawing s.symbols vs + 5
volumes-weight s [] = omega arith
volumes-weight s (v ∷ vs) =
    omega (arith, first-weight (known_of s) (layer_table_of s) s v (ending vs), laters-weight (known_of s) (layer_table_of s) vs)
