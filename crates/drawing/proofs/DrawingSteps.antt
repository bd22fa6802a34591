-- How the lines of DRAWING_FORMAT and of its layers' names are answered.
use Rattle.std.specs.Prelude.{Option, Some, None, Result, Ok, Err}
use Rattle.std.specs.Option as option
use Prim.Native.Nat.{ℕ, suc, ◌<◌}
use mathlib.Core.Bool.{Bool, true, false, cond, ◌&&◌, ◌||◌}
use mathlib.Core.List.{List, [], ◌∷◌}
use mathlib.Core.Path.{◌≡◌, refl, sym, ◌∙◌, ap, subst}
use native.Mathlib.Omega.{arith}
use lib.Dec.{eqb, leb, ltb}
use lib.IntN.{ℤ, pos}
use lib.ListN.{length, get_or, set, take, drop}
use lib.Seq.{sets}
use borrow.Author.Tests.{leb-true, ltb-true, eqb-true, lt-ltb}
use mir.Syntax.{w64}
use mir.Val.{to_z}
use Rattle.rules.specs.declared.Span.{Span}
use Rattle.rules.specs.Base.{bytes, all, same, map_o, is_some, index_of, among, has_number}
use Rattle.rules.specs.RefusalNumbers.{Got, got, bad, unless}
use Rattle.rules.specs.Lines.{Rest, Shape, opener, no_content, content, opening, formless, free_shape_of, span, bytes_at}
use Rattle.rules.specs.Numbers.{is_digit, digit_run, value}
use Rattle.rules.specs.Values.{Value, empty, chars, byte_in, any_bytes, is_layer_id}
use Rattle.rules.specs.Blocks.{drawing_table}
use Rattle.rules.specs.RecordTable.{numbers, padded}
use Rattle.rules.specs.Machine.{layer_value}
use Rattle.rules.proofs.Chains.{clash, and_left, and_right}
use Rattle.leaves.specs.Bytes.{bytes_of}
use Rattle.leaves.specs.Texts.{text_rules, no_text}
use Rattle.leaves.specs.declared.TextRule.{TextRule}
use Rattle.leaves.specs.Readings.{read_up_to_eight}
use Rattle.leaves.proofs.Bounds.{fixed-below}
use Rattle.leaves.proofs.Ints.{pos-back}
use Rattle.tables.specs.Tables.{table_of}
use Rattle.entries.specs.Names.{names_in, index_from}
use Rattle.entries.specs.Shapes.{shape_in}
use Rattle.entries.specs.Acts.{roomy}
use Rattle.entries.specs.declared.Shape.{Shape as Placed}
use Rattle.entries.specs.declared.Shape.TheVariants as P
use Rattle.account.specs.declared.Now.{Now}
use Rattle.account.specs.declared.Where.{Where}
use Rattle.account.specs.declared.Step.TheVariants as S
use Rattle.account.specs.Account.{head_at}
use Rattle.account.specs.TopLines.{layers_of}
use Rattle.account.specs.DrawingLines.{name_of, layer_taken, layer_put, LayerIn, layer_got, layer_step, LayerOn, LayerLine}

-- ── DRAWING_FORMAT ──
pub drawing-rows : length (table_of 7) ≡ 8
unfolding table_of drawing_table
drawing-rows = refl

record-room : all (roomy 0 32) (table_of 7) ≡ true
unfolding table_of drawing_table
record-room = refl

pub drawing-room : (n : ℕ) → n ≡ 32 → all (roomy 0 n) (table_of 7) ≡ true
drawing-room n e = subst (λ (m : ℕ). all (roomy 0 m) (table_of 7) ≡ true) (sym e) record-room

-- ── a layer's id ──
-- "one of B A E P M, `_`, three digits"
pub id-parts : (k : List ℕ) → is_layer_id k ≡ true → (length k ≡ 5) × (digit_run 3 3 (drop 2 k) ≡ true)
id-parts [] e = clash e refl
id-parts (b ∷ s) e = rest s (and_right (has_number b (bytes "BAEPM")) (same (take 1 s) (bytes "_") && digit_run 3 3 (drop 1 s)) e)
  where
    rest : (s : List ℕ) → (same (take 1 s) (bytes "_") && digit_run 3 3 (drop 1 s)) ≡ true → (length (b ∷ s) ≡ 5) × (digit_run 3 3 (drop 2 (b ∷ s)) ≡ true)
    rest [] e = clash e refl
    rest (c ∷ s) e =
        let d = and_right (same (c ∷ []) (bytes "_")) (digit_run 3 3 s) e in
        let w = and_right (all is_digit s) (leb 3 (length s) && leb (length s) 3) d in
        let lo = leb-true 3 (length s) (and_left (leb 3 (length s)) (leb (length s) 3) w) in
        let hi = leb-true (length s) 3 (and_right (leb 3 (length s)) (leb (length s) 3) w) in
        (omega (arith, lo, hi), d)

number-below : (n m : ℕ) (ns : List ℕ) → all (λ k. ltb k m) ns ≡ true → has_number n ns ≡ true → n < m
number-below n m [] a e = clash e refl
number-below n m (k ∷ ns) a e = go (eqb n k) refl e (λ h. number-below n m ns (and_right (ltb k m) (all (λ k. ltb k m) ns) a) h)
  where
    go : (b : Bool) → eqb n k ≡ b → (b || has_number n ns) ≡ true → (has_number n ns ≡ true → n < m) → n < m
    go true q e f = let z = eqb-true n k q in let y = ltb-true k m (and_left (ltb k m) (all (λ k. ltb k m) ns) a) in omega (arith, z, y)
    go false q e f = f e

pub letter-fits : (k : List ℕ) → is_layer_id k ≡ true → get_or k 0 0 < 100000000000
letter-fits [] e = clash e refl
letter-fits (b ∷ s) e =
    let h = number-below b 256 (bytes "BAEPM") refl (and_left (has_number b (bytes "BAEPM")) (same (take 1 s) (bytes "_") && digit_run 3 3 (drop 1 s)) e) in omega (arith, h)

three-read : (s : List ℕ) → digit_run 3 3 s ≡ true → read_up_to_eight 3 s ≡ Some (value s)
three-read s d = ap (λ (b : Bool). (cond b (Some (value s)) None)) d

pub digits-fit : (k : List ℕ) (n : ℕ) → is_layer_id k ≡ true → n ≡ value (drop 2 k) → n < 100000000000
digits-fit k n i e =
    let h : value (drop 2 k) < 1000 = fixed-below 3 (drop 2 k) (value (drop 2 k)) (three-read (drop 2 k) (id-parts k i).1) in omega (arith, h, e)

-- ── a layer's name ──
module _ (s : List ℕ) (x : Shape) (p : Placed) (h : shape_in s p ≡ x) where
  pub name-is : (q : Placed) (r : Result Span ℕ) → p ≡ q → r ≡ name_of (layer_value [] (shape_in s q)) → r ≡ name_of (layer_value [] x)
  name-is q r e z = z ∙ ap (λ (u : Placed). name_of (layer_value [] (shape_in s u))) (sym e) ∙ ap (λ (y : Shape). name_of (layer_value [] y)) h

  module _ (c : Span) (b : List ℕ) (e : p ≡ P.Content c) (z : b ≡ bytes_at s c) where
    abbrev judged : Bool → Result Span ℕ
    judged t = name_of (unless t 11 (got (chars c.at (bytes_at s c))))

    abbrev fitting : List ℕ → Bool
    fitting u = all (byte_in any_bytes) u && leb (length u) 20

    pub name-long : fitting b ≡ false → Err 11 ≡ name_of (layer_value [] x)
    name-long f = name-is (P.Content c) (Err 11) e (sym (ap judged (sym (ap fitting z) ∙ f)))

    pub name-short : fitting b ≡ true → Ok (span c.at (length b)) ≡ name_of (layer_value [] x)
    name-short f = name-is (P.Content c) (Ok (span c.at (length b))) e (ap (λ (u : List ℕ). Ok (span c.at (length u))) z ∙ sym (ap judged (sym (ap fitting z) ∙ f)))

-- by the rule of the table
pub ruled : (b : List ℕ) (rule : TextRule) (t : Bool) → rule ≡ get_or text_rules 12 no_text → t ≡ (all (byte_in (bytes_of rule.set)) b && leb (length b) rule.most) → t ≡ (all (byte_in any_bytes) b && leb (length b) 20)
unfolding text_rules
ruled b rule t e q = q ∙ ap (λ (r : TextRule). all (byte_in (bytes_of r.set)) b && leb (length b) r.most) e

pub record Named (id : List ℕ) (x : Shape) (p : Span) : Type 0 where
  pub held : Value
  pub read : layer_value id x ≡ got held
  pub two : padded 2 (numbers held) ≡ pos p.at ∷ pos p.len ∷ []

pub value-is : (id : List ℕ) (x : Shape) (p : Span) → Ok p ≡ name_of (layer_value [] x) → Named id x p
value-is id opener p e = absurd (let y : ◌≡◌ {A = ℕ} 0 1 = cc in omega arith)
value-is id no_content p e =
    let q : p ≡ span 0 0 = cc in record { held = empty; read = refl; two = ap (λ (u : Span). pos u.at ∷ pos u.len ∷ []) (sym q) }
value-is id (content at c) p e = go (all (byte_in any_bytes) c && leb (length c) 20) refl e
  where
    go : (t : Bool) → (all (byte_in any_bytes) c && leb (length c) 20) ≡ t → Ok p ≡ name_of (unless t 11 (got (chars at c))) → Named id (content at c) p
    go true f e =
        let q : p ≡ span at (length c) = cc in
        record { held = chars at c; read = ap (λ (b : Bool). unless b 11 (got (chars at c))) f; two = ap (λ (u : Span). pos u.at ∷ pos u.len ∷ []) (sym q) }
    go false f e = absurd (let y : ◌≡◌ {A = ℕ} 0 1 = cc in omega arith)
value-is id (opening at c) p e = absurd (let y : ◌≡◌ {A = ℕ} 0 1 = cc in omega arith)
value-is id formless p e = absurd (let y : ◌≡◌ {A = ℕ} 0 1 = cc in omega arith)

-- ── among the names so far ──
some-further : (o : Option ℕ) → is_some (map_o suc o) ≡ is_some o
some-further None = refl
some-further (Some n) = refl

pub index-among : (k : List ℕ) (us : List (List ℕ)) (i : ℕ) → option.is_some (index_from i k us) ≡ among k us
unfolding index_from
index-among k [] i = refl
index-among k (u ∷ us) i = go (same k u) (index-among k us (suc i))
  where
    go : (b : Bool) → option.is_some (index_from (suc i) k us) ≡ among k us → option.is_some (cond b (Some i) (index_from (suc i) k us)) ≡ is_some (cond b (Some 0) (map_o suc (index_of k us)))
    go true h = refl
    go false h = h ∙ sym (some-further (index_of k us))

-- the names of which one is looked for, as the code has its key
pub looked-for : (s : List ℕ) (numbers : List ℕ) (k x : List ℕ) (o : Option ℕ) → o ≡ index_from 0 x (names_in s numbers) → x ≡ k → option.is_some o ≡ among k (names_in s numbers)
looked-for s numbers k x o e q = ap option.is_some (e ∙ ap (λ (y : List ℕ). index_from 0 y (names_in s numbers)) q) ∙ index-among k (names_in s numbers) 0

-- ── a layer's record ──

pub layer_stores : (rec u : List ℤ) (number : ℕ) (at : Where) (id : List ℕ) (b c d : ℕ) → is_layer_id id ≡ true → b ≡ value (drop 2 id) → c < 100000000000 → d < 100000000000 → u ≡ head_at 0 5 number at rec
    → set (set (set (set u 5 (to_z w64 (get_or id 0 0))) 6 (to_z w64 b)) 7 (to_z w64 c)) 8 (to_z w64 d) ≡ layer_put number at id (pos c ∷ pos d ∷ []) rec
layer_stores rec u number at id b c d i q hc hd e =
    rw (pos-back (get_or id 0 0) (letter-fits id i), pos-back b (digits-fit id b i q), pos-back c hc, pos-back d hd)
    (ap (λ (v : List ℤ). sets v 5 (pos (get_or id 0 0) ∷ pos b ∷ pos c ∷ pos d ∷ [])) e ∙ ap (λ (n : ℕ). sets (head_at 0 5 number at rec) 5 (pos (get_or id 0 0) ∷ pos n ∷ pos c ∷ pos d ∷ [])) q)

-- ── a layer's line ──
module _ (s : List ℕ) (n : Now) (at : Where) (id : List ℕ) (c : Rest) (tally layers : List ℕ) (rec : List ℤ) where
  abbrev judgement : Got Value
  judgement = layer_got s tally layers id c

  layer-refused : (k : ℕ) (tally₁ layers₁ : List ℕ) (rec₁ : List ℤ) → judgement ≡ bad k → LayerLine s n at id tally tally₁ layers layers₁ rec rec₁ judgement (S.Stop k)
  layer-refused k tally₁ layers₁ rec₁ e = record { answer = sym (ap (layer_step n) e); lent = subst (LayerOn s at id tally tally₁ layers layers₁ rec rec₁) (sym e) tt }

  module _ (i : is_layer_id id ≡ true) (p : Span) (e : Ok p ≡ name_of (layer_value [] (free_shape_of c))) where
    abbrev named : Named id (free_shape_of c) p
    named = value-is id (free_shape_of c) p e

    pub layer-twice : (tally₁ layers₁ : List ℕ) (rec₁ : List ℤ) → layers_of tally < 64 → among id (names_in s (take (layers_of tally) layers)) ≡ true → LayerLine s n at id tally tally₁ layers layers₁ rec rec₁ judgement (S.Stop 14)
    layer-twice tally₁ layers₁ rec₁ h a = layer-refused 14 tally₁ layers₁ rec₁ (rw (i, named.read, lt-ltb (layers_of tally) 64 h, a))

    pub layer_takes : (tally₁ layers₁ : List ℕ) (rec₁ : List ℤ) (m : Now) → layers_of tally < 64 → among id (names_in s (take (layers_of tally) layers)) ≡ false
        → (m ≡ layer_taken n) × LayerIn s at id (pos p.at ∷ pos p.len ∷ []) tally tally₁ layers layers₁ rec rec₁ → LayerLine s n at id tally tally₁ layers layers₁ rec rec₁ judgement (S.Go m)
    layer_takes tally₁ layers₁ rec₁ m h a x =
        let q : judgement ≡ got named.held = rw (i, named.read, lt-ltb (layers_of tally) 64 h, a) in
        record {
          answer = ap S.Go x.0 ∙ sym (ap (layer_step n) q);
          lent =
              subst (LayerOn s at id tally tally₁ layers layers₁ rec rec₁) (sym q)
              (subst (λ (zs : List ℤ). LayerIn s at id zs tally tally₁ layers layers₁ rec rec₁) (sym named.two) x.1);
        }
