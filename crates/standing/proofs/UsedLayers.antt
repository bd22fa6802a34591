-- The layers in use, by their numbers: a layer that a line of ELEMENT names is declared, and it is in use from that line on.
use Rattle.std.specs.Prelude.{Some}
use Prim.Native.Nat.{ℕ, suc, ◌<◌}
use mathlib.Core.Bool.{Bool, true, false, cond, ◌||◌}
use mathlib.Core.List.{List, [], ◌∷◌, ◌++◌}
use mathlib.Core.Path.{◌≡◌, refl, sym, ◌∙◌, ap, subst}
use native.Mathlib.Omega.{arith}
use borrow.Author.Tests.{eqb-true, eqb-false}
use lib.Dec.{eqb}
use lib.IntN.{pos}
use lib.ListN.{length, get_or, set}
use lib.Seq.{get_or-set_same, get_or-set_other}
use Rattle.rules.specs.declared.Digits.{Digits}
use Rattle.rules.specs.Base.{all, has_number, index_of, map_o, same}
use Rattle.rules.specs.RefusalNumbers.{got, or_bad}
use Rattle.rules.specs.Lines.{Form, Shape, opener, no_content, content, opening, formless}
use Rattle.rules.specs.Values.{Num, num, Value, nums, Known, Kind, layer_id, headed, natural, is_layer_id, read_part, read_kind, amount_at}
use Rattle.rules.specs.Rows.{Rule, rows_at_limit, shape_for, fits, begin, inner_of, read_shape, act}
use Rattle.rules.specs.Blocks.{element_table}
use Rattle.rules.proofs.Chains.{clash, or_true, map-got, map-some, none-some, or-got, unless-got}
use Rattle.rules.proofs.Rows.{Row, row_at, row_below}
use Rattle.tables.specs.Tables.{table_of}
use Rattle.standing.proofs.Openers.{opening_kind}
use Rattle.standing.proofs.LineOrigins.{begin-from}

-- ── what is computed of ELEMENT's table ──
pub element-rows : table_of 10 ≡ element_table
unfolding table_of
element-rows = refl

-- "at most once a volume for each layer" is judged by the layers in use
pub element-full : false ∷ [] ≡ rows_at_limit 0 element_table
unfolding element_table
element-full = refl

pub element-opens : all (λ r. opening_kind r.holds) element_table ≡ true
unfolding element_table
element-opens = refl

element-holds : {j : ℕ} {r : Rule} → Row element_table j r → r.holds ≡ headed 1 layer_id
unfolding element_table
element-holds {j} {r} w =
    let b : j < 1 = row_below w in
    let z : j ≡ 0 = omega (arith, b) in
    ap (λ (x : Rule). x.holds) (sym (row_at w r) ∙ ap (λ (m : ℕ). get_or element_table m r) z)

-- ── a layer's number ──
index_below : (k : List ℕ) (us : List (List ℕ)) (m : ℕ) → index_of k us ≡ Some m → m < length us
index_below k [] m e = none-some e
index_below k (u ∷ us) m e = go (same k u) (λ n q. index_below k us n q) e
  where
    go : (b : Bool) → ((n : ℕ) → index_of k us ≡ Some n → n < length us) → cond b (Some 0) (map_o suc (index_of k us)) ≡ Some m → m < suc (length us)
    go true f q = let z : 0 ≡ m = cc in omega (arith, z)
    go false f q =
        let (n, p, z) = map-some suc (index_of k us) m q in
        omega (arith, z, f n p)

layer_below : (k : Known) (at : ℕ) (c : List ℕ) (v : Value) → read_kind k (headed 1 layer_id) at c ≡ got v → amount_at v 0 < length k.layers
layer_below k at c v e =
    let (a, e₁, q₁) = map-got (λ (n : Num). nums (n ∷ [])) (read_part k layer_id c) v e in
    let (id, e₂) = unless-got (is_layer_id c) 11 (natural (or_bad 14 (index_of c k.layers))) a e₁ in
    let (m, e₃, q₂) = map-got (λ (n : ℕ). num (pos n)) (or_bad 14 (index_of c k.layers)) a e₂ in
    let is : m ≡ amount_at v 0 = ap (λ (n : Num). amount_at (nums (n ∷ [])) 0) q₂ ∙ ap (λ (y : Value). amount_at y 0) q₁ in
    subst (λ (n : ℕ). n < length k.layers) is (index_below c k.layers m (or-got 14 (index_of c k.layers) m e₃))

-- the layer that a line of ELEMENT opens is one of the declared
pub layer-known : (k : Known) (d : Digits) (full : List Bool) (f : Form) (i j : ℕ) (v : Value) → act k element_table d full f ≡ begin i j v → amount_at v 0 < length k.layers
layer-known k d full f i j v e =
    let x = begin-from k element_table d full f i j v e in
    let h = element-holds x.row in
    go x.rule h (shape_for x.rule x.rest) (subst (λ (y : Kind). fits y x.rule.may (shape_for x.rule x.rest) ≡ true) h x.did.fit) x.did.read
  where
    go : (r : Rule) → r.holds ≡ headed 1 layer_id → (s : Shape) → fits (headed 1 layer_id) r.may s ≡ true → read_shape k j r s ≡ got (begin i j v) → amount_at v 0 < length k.layers
    go r h opener p q = clash p refl
    go r h no_content p q = clash p refl
    go r h (content at c) p q = clash p refl
    go r h (opening at c) p q =
        let (w, y, b) = map-got (begin (inner_of r.holds) j) (read_kind k r.holds at c) (begin i j v) q in
        let z : w ≡ v = cc in
        layer_below k at c v (subst (λ (m : Kind). read_kind k m at c ≡ got v) h (y ∙ ap got z))
    go r h formless p q = clash p refl

-- ── one more layer in use ──
or_false : (b : Bool) → (b || false) ≡ b
or_false true = refl
or_false false = refl

has_more : (j : ℕ) (ns : List ℕ) (m : ℕ) → has_number j (ns ++ m ∷ []) ≡ has_number j ns || eqb j m
has_more j [] m = or_false (eqb j m)
has_more j (n ∷ ns) m = go (eqb j n) (has_more j ns m)
  where
    go : (b : Bool) → has_number j (ns ++ m ∷ []) ≡ has_number j ns || eqb j m → (b || has_number j (ns ++ m ∷ [])) ≡ ((b || has_number j ns) || eqb j m)
    go true e = refl
    go false e = e

pub used-more : (us : List Bool) (ns : List ℕ) (m : ℕ) → m < length us → (j : ℕ) → get_or us j false ≡ has_number j ns → get_or (set us m true) j false ≡ has_number j (ns ++ m ∷ [])
used-more us ns m h j e = go (eqb j m) refl ∙ sym (has_more j ns m)
  where
    go : (b : Bool) → eqb j m ≡ b → get_or (set us m true) j false ≡ has_number j ns || b
    go true q =
        let z : j ≡ m = eqb-true j m q in
        ap (λ (n : ℕ). get_or (set us m true) n false) z ∙ get_or-set_same us m true false h ∙ sym (or_true (has_number j ns))
    go false q = get_or-set_other us m j true false (eqb-false j m q) ∙ e ∙ sym (or_false (has_number j ns))
