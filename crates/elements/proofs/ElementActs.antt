-- A line in ELEMENT, from the answer about it back to its act; and the layer that `LAYER=id:{` names.
use Rattle.std.specs.Prelude.{Option, Some, None}
use Prim.Native.Nat.{ℕ, zero, suc, ◌<◌, ◌≤◌}
use mathlib.Core.Bool.{Bool, true, false, cond}
use mathlib.Core.List.{List, [], ◌∷◌}
use mathlib.Core.Path.{◌≡◌, refl, sym, ◌∙◌, ap, subst}
use native.Mathlib.Omega.{arith}
use lib.Dec.{T}
use lib.IntN.{ℤ, pos, nat_abs}
use lib.Signed.{non_neg}
use lib.ListN.{length, get_or}
use mir.Syntax.{w32, w64}
use mir.Val.{Fits, to_z, of_z}
use mir.Facts.{to_z-of_z}
use Rattle.rules.specs.declared.Digits.{Digits}
use Rattle.rules.specs.Base.{all, same, index_of, map_o}
use Rattle.rules.specs.RefusalNumbers.{got, or_bad}
use Rattle.rules.specs.Lines.{Form, Shape, opener, no_content, content, opening, formless}
use Rattle.rules.specs.Values.{Num, num, Known, Value, nums, natural, is_layer_id, layer_id, read_part, headed, read_kind}
use Rattle.rules.specs.Rows.{Rule, row, repeated, any_number, fits, Act, begin, read_shape, act}
use Rattle.rules.specs.RecordTable.{rule_at}
use Rattle.rules.specs.Blocks.{element_table}
use Rattle.rules.proofs.Chains.{clash, none-some, unless-got, map-got, or-got}
use Rattle.rules.proofs.Rows.{Row, here, there, row_below}
use Rattle.leaves.proofs.Ints.{fits_pos}
use Rattle.tables.specs.Tables.{table_of}
use Rattle.entries.specs.Names.{names_in, known_in}
use Rattle.entries.specs.Acts.{put_line, roomy, next_of, Acts}
use Rattle.entries.specs.declared.Inner.{Inner}
use Rattle.entries.specs.declared.Next.{Next}
use Rattle.entries.specs.declared.Next.TheVariants as N
use Rattle.entries.proofs.Took.{took}
use Rattle.account.specs.declared.Now.{Now}
use Rattle.account.specs.declared.Step.{Step}
use Rattle.account.specs.declared.Step.TheVariants as S
use Rattle.account.specs.ElementLines.{LayerOpens, ElementCloses, ElementLine}
use Rattle.elements.proofs.BlocksActs.{told}
use Rattle.elements.proofs.FigureActs.{act-begun}

-- ── ELEMENT's table ──
pub element-long : ◌≡◌ {A = ℕ} 1 (length (table_of 10))
unfolding table_of element_table
element-long = refl

pub element-room : all (roomy 0 1) (table_of 10) ≡ true
unfolding table_of element_table
element-room = refl

abbrev layer_row : Rule
layer_row = repeated any_number (row "LAYER" (headed 1 layer_id) 0)

one-row : (x r : Rule) (j : ℕ) → Row (x ∷ []) j r → (j ≡ 0) × (r ≡ x)
one-row x r zero here = (refl, refl)
one-row x r (suc j) (there w) = absurd (omega (arith, row_below w))

-- ── the layer that a line names ──
index_below : (s : List ℕ) (us : List (List ℕ)) (m : ℕ) → index_of s us ≡ Some m → m < length us
index_below s [] m e = none-some e
index_below s (u ∷ us) m e = go (same s u) (index_of s us) (index_below s us) e
  where
    next : (o : Option ℕ) → ((m : ℕ) → o ≡ Some m → m < length us) → map_o suc o ≡ Some m → m < suc (length us)
    next None ih e = none-some e
    next (Some i) ih e = let q : suc i ≡ m = cc in omega (arith, ih i refl, q)

    go : (b : Bool) (o : Option ℕ) → ((m : ℕ) → o ≡ Some m → m < length us) → cond b (Some 0) (map_o suc o) ≡ Some m → m < suc (length us)
    go true o ih e = let q : 0 ≡ m = cc in omega (arith, q)
    go false o ih e = next o ih e

names-length : (s ns : List ℕ) → length (names_in s ns) ≡ length ns
names-length s [] = refl
names-length s (n ∷ ns) = ap suc (names-length s ns)

pub known-most : (s symbols layers : List ℕ) → length layers ≤ 64 → length (known_in s symbols layers).layers ≤ 64
known-most s symbols layers h = omega (arith, names-length s layers, h)

pub record Named (k : Known) (v : Value) : Type 0 where
  pub layer : ℕ
  pub below : layer < length k.layers
  pub is : nums (num (pos layer) ∷ []) ≡ v

part-named : (k : Known) (c : List ℕ) (a : Num) (v : Value) → read_part k layer_id c ≡ got a → nums (a ∷ []) ≡ v → Named k v
part-named k c a v e q =
    let (id, e1) = unless-got (is_layer_id c) 11 (natural (or_bad 14 (index_of c k.layers))) a e in
    let (m, e2, p) = map-got (λ (n : ℕ). num (pos n)) (or_bad 14 (index_of c k.layers)) a e1 in
    record { layer = m; below = index_below c k.layers m (or-got 14 (index_of c k.layers) m e2); is = ap (λ (n : Num). nums (n ∷ [])) p ∙ q }

shape-named : (k : Known) (i j : ℕ) (v : Value) (s : Shape) → fits (headed 1 layer_id) false s ≡ true → read_shape k j layer_row s ≡ got (begin i j v) → Named k v
shape-named k i j v opener f e = clash f refl
shape-named k i j v no_content f e = clash f refl
shape-named k i j v (content at c) f e = clash f refl
shape-named k i j v (opening at c) f e =
    let (w, e1, q) = map-got (begin 1 j) (read_kind k (headed 1 layer_id) at c) (begin i j v) e in
    let p : w ≡ v = cc in
    let (a, e2, r) = map-got (λ (n : Num). nums (n ∷ [])) (read_part k layer_id c) w e1 in
    part-named k c a v e2 (r ∙ p)
shape-named k i j v formless f e = clash f refl

pub layer-named : (k : Known) (d : Digits) (full : List Bool) (f : Form) (i j : ℕ) (v : Value) → act k (table_of 10) d full f ≡ begin i j v → (j ≡ 0) × Named k v
unfolding table_of element_table
layer-named k d full f i j v e =
    let b = act-begun k (layer_row ∷ []) d full f i j v e in
    let (z, q) = one-row layer_row b.rule j b.row in
    (z, shape-named k i j v b.shape (subst (λ (r : Rule). fits r.holds r.may b.shape ≡ true) q b.fit) (subst (λ (r : Rule). read_shape k j r b.shape ≡ got (begin i j v)) q b.read))

-- the number that the line leaves in the lent one
first-put : (j m : ℕ) → j ≡ 0 → get_or (put_line (rule_at (table_of 10) j) 0 (nums (num (pos m) ∷ [])) (pos 0 ∷ [])) 0 (pos 0) ≡ pos m
unfolding table_of element_table
first-put j m e = ap (λ (j : ℕ). get_or (put_line (rule_at (table_of 10) j) 0 (nums (num (pos m) ∷ [])) (pos 0 ∷ [])) 0 (pos 0)) e

pub record Opening (a : Act) (z : ℤ) : Type 0 where
  pub block : ℕ
  pub row : ℕ
  pub layer : ℕ
  pub below : layer < 64
  pub is : a ≡ begin block row (nums (num (pos layer) ∷ []))
  pub put : z ≡ pos layer

module _ (k : Known) (d : Digits) (full : List Bool) (f : Form) (u : List ℤ) where
  abbrev a : Act
  a = act k (table_of 10) d full f

  pub opening_of : (n : Next) (b : Inner) → length k.layers ≤ 64 → Acts (rule_at (table_of 10)) 0 (pos 0 ∷ []) a u n → n ≡ N.Begin b → Opening a (get_or u 0 (pos 0))
  opening_of n b most h e =
      let (v, q, p) = took (rule_at (table_of 10)) 0 (pos 0 ∷ []) u a (N.Begin b) (subst (λ (m : Next). Acts (rule_at (table_of 10)) 0 (pos 0 ∷ []) a u m) e h) in
      let (z, w) = layer-named k d full f b.block b.row v q in
      record {
        block = b.block;
        row = b.row;
        layer = w.layer;
        below = omega (arith, w.below, most);
        is = q ∙ ap (begin b.block b.row) (sym w.is);
        put = ap (λ (t : List ℤ). get_or t 0 (pos 0)) p ∙ ap (λ (v : Value). get_or (put_line (rule_at (table_of 10) b.row) 0 v (pos 0 ∷ [])) 0 (pos 0)) (sym w.is) ∙ first-put b.row w.layer z;
      }

-- as the machine comes to it
module _ (a : Act) (z : ℤ) (o : Opening a z) where
  as_is : to_z w64 (of_z w64 z) ≡ pos o.layer
  as_is = ap (λ (y : ℤ). to_z w64 (of_z w64 y)) o.put ∙ to_z-of_z (fits_pos o.layer (omega (arith, o.below)))

  layer-is : nat_abs (to_z w64 (of_z w64 z)) ≡ o.layer
  layer-is = ap nat_abs as_is

  pub layer_fits : T (non_neg (to_z w64 (of_z w64 z))) × Fits w32 (nat_abs (to_z w64 (of_z w64 z)))
  layer_fits = subst (λ (y : ℤ). T (non_neg y) × Fits w32 (nat_abs y)) (sym as_is) (tt, record { fits = omega (arith, o.below) })

  pub layer_below : nat_abs (to_z w64 (of_z w64 z)) < 64
  layer_below = subst (λ (i : ℕ). i < 64) (sym layer-is) o.below

-- ── the line ──
module _ (n : Now) (t₀ : List ℕ) (u₀ l₀ : List Bool) where
  -- a line that leaves all as it was
  abbrev Still : Step → Act → Type 0
  Still r a = ElementLine a n t₀ t₀ u₀ u₀ l₀ l₀ r

  pub elements_stay : (a : Act) → N.Stay ≡ next_of a → Still (S.Go n) a
  elements_stay a e = subst (Still (S.Go n)) (sym (told N.Stay a e)) (record { answer = refl; tally = refl; used = refl; all = refl })

  pub elements-entry : (a : Act) (j : ℕ) → N.Entry j ≡ next_of a → Still (S.Stop 5) a
  elements-entry a j e = subst (Still (S.Stop 5)) (sym (told (N.Entry j) a e).1) (record { answer = refl; tally = refl; used = refl; all = refl })

  pub elements-begin : (a : Act) (z : ℤ) (u₁ l₁ : List Bool) (r : Step) → Opening a z → LayerOpens n (nat_abs (to_z w64 (of_z w64 z))) u₀ u₁ l₀ l₁ r → ElementLine a n t₀ t₀ u₀ u₁ l₀ l₁ r
  elements-begin a z u₁ l₁ r o w =
      let x : LayerOpens n o.layer u₀ u₁ l₀ l₁ r = subst (λ (i : ℕ). LayerOpens n i u₀ u₁ l₀ l₁ r) (layer-is a z o) w in
      subst (λ (a : Act). ElementLine a n t₀ t₀ u₀ u₁ l₀ l₁ r) (sym o.is) (record { answer = x.answer; tally = refl; used = x.used; all = x.all })

  pub elements-shut : (a : Act) (t₁ : List ℕ) (r : Step) → N.Shut ≡ next_of a → ElementCloses n t₀ t₁ r → ElementLine a n t₀ t₁ u₀ u₀ l₀ l₀ r
  elements-shut a t₁ r e h =
      subst (λ (a : Act). ElementLine a n t₀ t₁ u₀ u₀ l₀ l₀ r) (sym (told N.Shut a e)) (record { answer = h.answer; tally = h.tally; used = refl; all = refl })

  pub elements-refuse : (a : Act) (k : ℕ) → N.Refuse k ≡ next_of a → Still (S.Stop k) a
  elements-refuse a k e = subst (Still (S.Stop k)) (sym (told (N.Refuse k) a e)) (record { answer = refl; tally = refl; used = refl; all = refl })
