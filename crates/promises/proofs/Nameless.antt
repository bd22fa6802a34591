-- Kinds that name neither symbols nor layers are read and written alike whatever is known.
use Prim.Native.Nat.{ℕ}
use mathlib.Core.Bool.{Bool, true, false, cond, ◌&&◌}
use mathlib.Core.List.{List, [], ◌∷◌, ◌++◌}
use mathlib.Core.Path.{◌≡◌, refl, ap, ap₂}
use lib.Dec.{eqb}
use lib.IntN.{pos}
use lib.ListN.{length, get_or}
use Rattle.rules.specs.Base.{all, split, join}
use Rattle.rules.specs.RefusalNumbers.{map_g, keep}
use Rattle.rules.specs.Values.{Num, num, Value, empty, nums, chars, linked, Known, Part, count, digit, type_digits, range, range_of_symbols, range_of_wires, day, clock, decimal, exactly, symbol_name, layer_id, read_part, show_part, read_all, show_all, agree, Kind, values, text, word, volume_name, sheet, ratio, serials, wire_serial, symbol_circle, nothing, opens, headed, either, read_kind, nums_of, show_kind, show_content, arc_of_circle, arc_parts, whole_parts, no_turn, read_circle, is_turnless, show_circle}
use Rattle.rules.specs.declared.Digits.{Digits}
use Rattle.rules.specs.Lines.{Rest, Shape, opener, no_content, content, opening, formless}
use Rattle.rules.specs.Rows.{Rule, shape_for, read_shape, act_row}
use Rattle.rules.specs.FixedForm.{behind, line_of}
use Rattle.rules.proofs.Chains.{and_left, and_right, by_cond, clash}

-- ── what is known ──
-- parts and kinds that name neither symbols nor layers do not look at what is known
abbrev pub nameless_part : Part → Bool
nameless_part count = true
nameless_part (digit lo hi) = true
nameless_part type_digits = true
nameless_part (range lo hi) = true
nameless_part range_of_symbols = true
nameless_part range_of_wires = true
nameless_part day = true
nameless_part clock = true
nameless_part (decimal b) = true
nameless_part (exactly n) = true
nameless_part symbol_name = false
nameless_part layer_id = false

abbrev pub nameless : Kind → Bool
nameless (values p ps a) = nameless_part p && all nameless_part ps
nameless (text n b) = true
nameless (word n b) = true
nameless volume_name = true
nameless sheet = true
nameless ratio = true
nameless serials = true
nameless wire_serial = true
nameless symbol_circle = true
nameless nothing = true
nameless (opens i) = true
nameless (headed i p) = nameless_part p
nameless (either i) = true

part-nameless : (p : Part) → nameless_part p ≡ true → (k k' : Known) → ((s : List ℕ) → read_part k p s ≡ read_part k' p s) × ((a : Num) → show_part k p a ≡ show_part k' p a)
part-nameless count e k k' = (λ s. refl, λ a. refl)
part-nameless (digit lo hi) e k k' = (λ s. refl, λ a. refl)
part-nameless type_digits e k k' = (λ s. refl, λ a. refl)
part-nameless (range lo hi) e k k' = (λ s. refl, λ a. refl)
part-nameless range_of_symbols e k k' = (λ s. refl, λ a. refl)
part-nameless range_of_wires e k k' = (λ s. refl, λ a. refl)
part-nameless day e k k' = (λ s. refl, λ a. refl)
part-nameless clock e k k' = (λ s. refl, λ a. refl)
part-nameless (decimal b) e k k' = (λ s. refl, λ a. refl)
part-nameless (exactly n) e k k' = (λ s. refl, λ a. refl)
part-nameless symbol_name e k k' = clash e refl
part-nameless layer_id e k k' = clash e refl

read-all-nameless : (ps : List Part) → all nameless_part ps ≡ true → (k k' : Known) (ss : List (List ℕ)) → read_all k ps ss ≡ read_all k' ps ss
read-all-nameless [] e k k' [] = refl
read-all-nameless [] e k k' (s ∷ ss) = refl
read-all-nameless (p ∷ ps) e k k' [] = refl
read-all-nameless (p ∷ ps) e k k' (s ∷ ss) =
    rw ((part-nameless p (and_left (nameless_part p) _ e) k k').0 s, read-all-nameless ps (and_right (nameless_part p) _ e) k k' ss)

show-all-nameless : (ps : List Part) → all nameless_part ps ≡ true → (k k' : Known) (v : List Num) → show_all k ps v ≡ show_all k' ps v
show-all-nameless [] e k k' v = refl
show-all-nameless (p ∷ ps) e k k' [] = refl
show-all-nameless (p ∷ ps) e k k' (a ∷ v) =
    rw ((part-nameless p (and_left (nameless_part p) _ e) k k').1 a, show-all-nameless ps (and_right (nameless_part p) _ e) k k' v)

-- a circle's parts name nothing, six or seven
circle-nameless : (k k' : Known) (ss : List (List ℕ)) → read_circle k ss ≡ read_circle k' ss
circle-nameless k k' ss =
    ap₂ (λ a b. cond (eqb (length ss) 6) (map_g (λ v. v ++ no_turn ∷ []) a) (keep 11 (agree arc_of_circle) b)) (read-all-nameless whole_parts refl k k' ss)
    (read-all-nameless arc_parts refl k k' ss)

show_circle-nameless : (k k' : Known) (v : List Num) → show_circle k v ≡ show_circle k' v
show_circle-nameless k k' v =
    show-all-nameless (cond (is_turnless v) whole_parts arc_parts) (by_cond (λ (ps : List Part). all nameless_part ps ≡ true) (is_turnless v) (λ _. refl) (λ _. refl)) k k' v

pub read-nameless : (d : Kind) → nameless d ≡ true → (k k' : Known) (at : ℕ) (c : List ℕ) → read_kind k d at c ≡ read_kind k' d at c
read-nameless (values p ps a) e k k' at c = ap (λ g. map_g nums (keep 11 (agree a) g)) (read-all-nameless (p ∷ ps) e k k' (split 44 c))
read-nameless (text n b) e k k' at c = refl
read-nameless (word n b) e k k' at c = refl
read-nameless volume_name e k k' at c = refl
read-nameless sheet e k k' at c = refl
read-nameless ratio e k k' at c = refl
read-nameless serials e k k' at c = refl
read-nameless wire_serial e k k' at c = refl
read-nameless symbol_circle e k k' at c = ap (map_g nums) (circle-nameless k k' (split 44 c))
read-nameless nothing e k k' at c = refl
read-nameless (opens i) e k k' at c = refl
read-nameless (headed i p) e k k' at c = ap (map_g (λ n. nums (n ∷ []))) ((part-nameless p e k k').0 c)
read-nameless (either i) e k k' at c = refl

show-kind-nameless : (d : Kind) → nameless d ≡ true → (k k' : Known) (v : Value) → show_kind k d v ≡ show_kind k' d v
show-kind-nameless (values p ps a) e k k' v = ap (join 44) (show-all-nameless (p ∷ ps) e k k' (nums_of v))
show-kind-nameless (text n b) e k k' v = refl
show-kind-nameless (word n b) e k k' v = refl
show-kind-nameless volume_name e k k' v = refl
show-kind-nameless sheet e k k' v = refl
show-kind-nameless ratio e k k' v = refl
show-kind-nameless serials e k k' v = refl
show-kind-nameless wire_serial e k k' v = refl
show-kind-nameless symbol_circle e k k' v = ap (join 44) (show_circle-nameless k k' (nums_of v))
show-kind-nameless nothing e k k' v = refl
show-kind-nameless (opens i) e k k' v = refl
show-kind-nameless (headed i p) e k k' v = (part-nameless p e k k').1 (get_or (nums_of v) 0 (num (pos 0)))
show-kind-nameless (either i) e k k' v = refl

pub show-nameless : (d : Kind) → nameless d ≡ true → (k k' : Known) (v : Value) → show_content k d v ≡ show_content k' d v
show-nameless d e k k' empty = refl
show-nameless d e k k' (nums v) = show-kind-nameless d e k k' (nums v)
show-nameless d e k k' (chars at c) = show-kind-nameless d e k k' (chars at c)
show-nameless d e k k' (linked n ps) = show-kind-nameless d e k k' (linked n ps)

-- ── rows: the line does the same, and is written alike ──
shape-nameless : (r : Rule) → nameless r.holds ≡ true → (k k' : Known) (j : ℕ) (s : Shape) → read_shape k j r s ≡ read_shape k' j r s
shape-nameless r e k k' j opener = refl
shape-nameless r e k k' j no_content = refl
shape-nameless r e k k' j (content at c) = rw (read-nameless r.holds e k k' at c)
shape-nameless r e k k' j (opening at c) = rw (read-nameless r.holds e k k' at c)
shape-nameless r e k k' j formless = refl

pub row-nameless : (r : Rule) → nameless r.holds ≡ true → (k k' : Known) (d : Digits) (full : Bool) (j : ℕ) (x : Rest) → act_row k d full j r x ≡ act_row k' d full j r x
row-nameless r e k k' d full j x = rw (shape-nameless r e k k' j (shape_for r x))

pub line_any : (r : Rule) → nameless r.holds ≡ true → (k k' : Known) (v : Value) → line_of k r v ≡ line_of k' r v
line_any r e k k' v = ap (λ c. r.key ++ c) (go r.holds e)
  where
    go : (d : Kind) → nameless d ≡ true → behind k d v ≡ behind k' d v
    go (values p ps a) e = rw (show-nameless (values p ps a) e k k' v)
    go (text n b) e = rw (show-nameless (text n b) e k k' v)
    go (word n b) e = rw (show-nameless (word n b) e k k' v)
    go volume_name e = rw (show-nameless volume_name e k k' v)
    go sheet e = rw (show-nameless sheet e k k' v)
    go ratio e = rw (show-nameless ratio e k k' v)
    go serials e = rw (show-nameless serials e k k' v)
    go wire_serial e = rw (show-nameless wire_serial e k k' v)
    go symbol_circle e = rw (show-nameless symbol_circle e k k' v)
    go nothing e = refl
    go (opens i) e = refl
    go (headed i p) e = rw (show-nameless (headed i p) e k k' v)
    go (either i) e = rw (show-nameless (either i) e k k' v)
