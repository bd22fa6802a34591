-- What a look finds of the lines of a volume: laws for those who walk from line to line.
use Rattle.std.specs.Prelude.{Option, Some, None}
use Prim.Native.Nat.{ℕ, zero, suc, ◌+◌, ◌-◌, ◌<◌, ◌≤◌}
use mathlib.Core.Path.{◌≡◌, refl, ap, sym, subst, ◌∙◌}
use mathlib.Core.Bool.{Bool, true, false, cond}
use mathlib.Core.List.{List, [], ◌∷◌}
use native.Mathlib.Omega.{arith}
use lib.Dec.{eqb, leb, ltb}
use lib.ListN.{length, take, drop, drop_of_length-le, length-drop}
use lib.Seq.{drop-drop, take-nil, take-take, length-take-le}
use borrow.Author.Tests.{eq-eqb, ne_eqb, eqb-true, eqb-false, leb-true, leb-false, ltb-true, ltb-false}
use Rattle.rules.proofs.Chains.{none-some, by_cond}
use Rattle.rules.specs.Base.{choose, bytes, is_nil, map_o, all, same}
use Rattle.rules.specs.Spool.{most_bytes, most_in_line, head_line, lines_from, short_lines, lines_of}
use Rattle.rules.specs.Answers.{numbered}
use Rattle.rules.specs.declared.Opener.{Opener}
use Rattle.rules.specs.declared.Equation.{Equation}
use Rattle.rules.specs.declared.Refusal.{Refusal}
use Rattle.rules.specs.declared.LineForm.{LineForm}
use Rattle.rules.specs.declared.LineForm.TheVariants as L
use Rattle.rules.specs.Lines.{unindent, Scan, neither, at_equal, at_brace, scan, allowed, brace, equals, Form, ignored, wrong, close, eof, keyed, with_key, form_from, form_of_rest, form_of, form_in, with_places, line_form_of}
use Rattle.leaves.specs.Bytes.{up_to}
use Rattle.leaves.proofs.Cuts.{up_to-le, up_to-take}
use Rattle.lines.specs.LineLook.{seen_at, look_in, lines_in, PartOf}
use Rattle.lines.specs.declared.Seen.{Seen}
use Rattle.lines.proofs.LineForms.{Around, Apart, scan-apart, unindent-behind}
use Rattle.lines.proofs.LineLook.{look-long, look-early, look-behind, look_none as none-there, look-some as some-there}

-- ── up to the CR ──
up-cr : (b : ℕ) (s : List ℕ) → eqb b 13 ≡ true → up_to 13 (b ∷ s) ≡ []
unfolding up_to
up-cr b s e = rw e

up_more : (b : ℕ) (s : List ℕ) → eqb b 13 ≡ false → up_to 13 (b ∷ s) ≡ b ∷ up_to 13 s
unfolding up_to
up_more b s e = rw e

-- ── the first line of some bytes ──
-- bytes that have these lines, with a CR in them
record Cut (t : List ℕ) (ls : List (List ℕ)) : Type 0 where
  others : List (List ℕ)
  first : ls ≡ up_to 13 t ∷ others
  after : lines_from false (drop (length (up_to 13 t) + 2) t) ≡ Some others

-- either they are cut there, or they have no line, and are one byte
abbrev CutOr : List ℕ → List (List ℕ) → Type 0
CutOr t ls = (length (up_to 13 t) < length t → Cut t ls) × (length t ≤ length (up_to 13 t) → (ls ≡ []) × (length t ≡ 1))

map_inv : (o : Option (List (List ℕ))) (ls : List (List ℕ)) → map_o (λ us. [] ∷ us) o ≡ Some ls → (us : List (List ℕ)) × (o ≡ Some us) × (([] ∷ us) ≡ ls)
map_inv None ls e = none-some e
map_inv (Some us) ls e = (us, refl, cc)

-- behind a CR
at-cr : (t : List ℕ) (ls : List (List ℕ)) → lines_from true t ≡ Some ls → (us : List (List ℕ)) × (ls ≡ [] ∷ us) × (lines_from false (drop 1 t) ≡ Some us)
at-cr [] ls e = none-some e
at-cr (c ∷ t) ls e = go (eqb c 10) e
  where
    go : (q : Bool) → choose q (λ _. map_o (λ us. [] ∷ us) (lines_from false t)) (λ _. None) ≡ Some ls → (us : List (List ℕ)) × (ls ≡ [] ∷ us) × (lines_from false t ≡ Some us)
    go true e = let (us, f, w) = map_inv (lines_from false t) ls e in (us, sym w, f)
    go false e = none-some e

head_inv : (b : ℕ) (o : Option (List (List ℕ))) (ls : List (List ℕ)) → head_line b o ≡ Some ls → (l : List ℕ) × (us : List (List ℕ)) × (o ≡ Some (l ∷ us)) × (((b ∷ l) ∷ us) ≡ ls)
head_inv b None ls e = none-some e
head_inv b (Some []) ls e = none-some e
head_inv b (Some (l ∷ us)) ls e = (l, us, refl, cc)

cons_no-nil : {P : Type 0} {l : List ℕ} {us : List (List ℕ)} → (l ∷ us) ≡ [] → P
cons_no-nil e = absurd (let z : ◌≡◌ {A = ℕ} 0 1 = cc in omega arith)

cut-cr : (b : ℕ) (t : List ℕ) (ls : List (List ℕ)) → up_to 13 (b ∷ t) ≡ [] → lines_from true t ≡ Some ls → CutOr (b ∷ t) ls
cut-cr b t ls z e =
    let (us, f, g) = at-cr t ls e in
    let l = ap length z in
    (λ h. record { others = us; first = f ∙ ap (λ u. u ∷ us) (sym z); after = ap (λ n. lines_from false (drop (n + 2) (b ∷ t))) l ∙ g }, λ h. absurd (omega (arith, l)))

cut-end : (b : ℕ) (t : List ℕ) (ls : List (List ℕ)) → up_to 13 (b ∷ t) ≡ b ∷ up_to 13 t → cond (is_nil t) (Some []) None ≡ Some ls → CutOr (b ∷ t) ls
cut-end b [] ls z e = let l = ap length z in (λ h. absurd (omega (arith, l)), λ h. (cc, omega arith))
cut-end b (c ∷ t) ls z e = none-some e

cut-more : (b : ℕ) (t l : List ℕ) (us ls : List (List ℕ)) → up_to 13 (b ∷ t) ≡ b ∷ up_to 13 t → CutOr t (l ∷ us) → ((b ∷ l) ∷ us) ≡ ls → CutOr (b ∷ t) ls
cut-more b t l us ls z i w = let m = ap length z in (
  λ h.
      let k = i.0 (omega (arith, m)) in
      let f = k.first in
      let p : l ≡ up_to 13 t = cc in
      let q : us ≡ k.others = cc in
      let n : length (up_to 13 (b ∷ t)) + 2 ≡ suc (length (up_to 13 t) + 2) = omega (arith, m) in
      record {
        others = k.others;
        first = sym w ∙ ap (λ x. (b ∷ x) ∷ us) p ∙ ap (λ x. (b ∷ up_to 13 t) ∷ x) q ∙ ap (λ u. u ∷ k.others) (sym z);
        after = ap (λ n. lines_from false (drop n (b ∷ t))) n ∙ k.after;
      },
  λ h. cons_no-nil (i.1 (omega (arith, m))).0,
)

cuts : (t : List ℕ) (ls : List (List ℕ)) → lines_from false t ≡ Some ls → CutOr t ls
cuts [] ls e = none-some e
cuts (b ∷ t) ls e = cr (eqb b 13) refl (λ us z. cuts t us z) e
  where
    lf : (q : Bool) → up_to 13 (b ∷ t) ≡ b ∷ up_to 13 t → ((us : List (List ℕ)) → lines_from false t ≡ Some us → CutOr t us)
        → choose q (λ _. None) (λ _. head_line b (lines_from false t)) ≡ Some ls → CutOr (b ∷ t) ls
    lf true z ih e = none-some e
    lf false z ih e = let (l, us, f, w) = head_inv b (lines_from false t) ls e in cut-more b t l us ls z (ih (l ∷ us) f) w

    end : (q : Bool) → up_to 13 (b ∷ t) ≡ b ∷ up_to 13 t → ((us : List (List ℕ)) → lines_from false t ≡ Some us → CutOr t us)
        → choose q (λ _. cond (is_nil t) (Some []) None) (λ _. choose (eqb b 10) (λ _. None) λ _. head_line b (lines_from false t)) ≡ Some ls → CutOr (b ∷ t) ls
    end true z ih e = cut-end b t ls z e
    end false z ih e = lf (eqb b 10) z ih e

    cr : (q : Bool) → eqb b 13 ≡ q → ((us : List (List ℕ)) → lines_from false t ≡ Some us → CutOr t us)
        → choose q (λ _. lines_from true t) (λ _. choose (eqb b 26) (λ _. cond (is_nil t) (Some []) None) λ _. choose (eqb b 10) (λ _. None) λ _. head_line b (lines_from false t)) ≡ Some ls
        → CutOr (b ∷ t) ls
    cr true p ih e = cut-cr b t ls (up-cr b t p) e
    cr false p ih e = end (eqb b 26) (up_more b t p) ih e

some-inside : (s : List ℕ) (at : ℕ) (ls : List (List ℕ)) → lines_from false (drop at s) ≡ Some ls → at < length s
some-inside s at ls e = go (leb (length s) at) refl
  where
    go : (q : Bool) → leb (length s) at ≡ q → at < length s
    go true q = none-some (sym (ap (lines_from false) (drop_of_length-le s {i = at} (leb-true (length s) at q))) ∙ e)
    go false q = leb-false (length s) at q

-- no line is left where one byte is
one_left : (v : List ℕ) (ls : List (List ℕ)) → lines_from false v ≡ Some ls → eqb (length v) 1 ≡ is_nil ls
one_left v ls e = go (ltb (length (up_to 13 v)) (length v)) refl
  where
    go : (q : Bool) → ltb (length (up_to 13 v)) (length v) ≡ q → eqb (length v) 1 ≡ is_nil ls
    go true q =
        let k = (cuts v ls e).0 (ltb-true (length (up_to 13 v)) (length v) q) in
        let i = some-inside v (length (up_to 13 v) + 2) k.others k.after in
        ne_eqb (length v) 1 (λ z. omega (arith, z, i)) ∙ ap is_nil (sym k.first)
    go false q = let k = (cuts v ls e).1 (ltb-false (length (up_to 13 v)) (length v) q) in eq-eqb (length v) 1 k.1 ∙ ap is_nil (sym k.0)

-- ── bytes that sit at a place of the spool ──
abbrev Sits : List ℕ → ℕ → List ℕ → Type 0
Sits s p u = u ≡ take (length u) (drop p s)

pub drop-take : (m n : ℕ) (w : List ℕ) → drop m (take n w) ≡ take (n - m) (drop m w)
drop-take zero n w = let e : n ≡ n - 0 = omega arith in ap (λ k. take k w) e
drop-take (suc m) zero w = let e : 0 ≡ 0 - suc m = omega arith in ap (λ k. take k (drop (suc m) w)) e
drop-take (suc m) (suc n) [] = sym (take-nil (suc n - suc m))
drop-take (suc m) (suc n) (b ∷ w) = let e : n - m ≡ suc n - suc m = omega arith in drop-take m n w ∙ ap (λ k. take k (drop m w)) e

module _ (s : List ℕ) (p : ℕ) (u : List ℕ) (h : Sits s p u) where
  sits-take : (n : ℕ) → n ≤ length u → take n u ≡ take n (drop p s)
  sits-take n k = ap (take n) h ∙ take-take n (length u) (drop p s) k

  sits-drop : (m : ℕ) → m ≤ length u → Sits s (p + m) (drop m u)
  sits-drop m k =
      let e : length u - m ≡ length (drop m u) = sym (length-drop m u) in
      ap (drop m) h ∙ drop-take m (length u) (drop p s) ∙ ap (λ k. take k (drop m (drop p s))) e ∙ ap (take (length (drop m u))) (drop-drop m p s)

-- ── the places of a form hold its parts ──
-- a form of a line that ends at a place
abbrev Held : List ℕ → ℕ → Form → Type 0
Held s end ignored = Unit {0}
Held s end (wrong n) = (4 ≤ n) × (n ≤ 5)
Held s end close = Unit {0}
Held s end eof = Unit {0}
Held s end (keyed k brace) = (take (length k) (drop (end - 2 - length k) s) ≡ k) × (length k + 2 ≤ end)
Held s end (keyed k (equals at c)) = (take (length k) (drop (at - 1 - length k) s) ≡ k) × (take (length c) (drop at s) ≡ c) × (length k + 1 ≤ at) × (at + length c ≡ end)

module _ (s : List ℕ) (p end : ℕ) (u : List ℕ) (h : Sits s p u) (z : p + length u ≡ end) where
  -- the key stands in front
  key_sits : (k : List ℕ) (q : ℕ) → k ≡ take (length k) u → length k ≤ length u → q ≡ p → take (length k) (drop q s) ≡ k
  key_sits k q e l f = ap (λ q. take (length k) (drop q s)) f ∙ sym (sits-take s p u h (length k) l) ∙ sym e

  held_equal : (k c : List ℕ) → Around u 1 k c → Held s end (with_key k (equals (end - length c) c))
  held_equal [] c a = (omega arith, omega arith)
  held_equal (b ∷ k) c (e, f, l) =
      let n = length (b ∷ k) in
      let q : end - length c ≡ p + (n + 1) = omega (arith, l, z) in
      let r : Sits s (p + (n + 1)) c = ap (λ x. x) f ∙ sits-drop s p u h (n + 1) (omega (arith, l)) ∙ ap (λ x. take (length x) (drop (p + (n + 1)) s)) (sym f) in
      (key_sits (b ∷ k) (end - length c - 1 - n) e (omega (arith, l)) (omega (arith, l, z)), ap (λ q. take (length c) (drop q s)) q ∙ sym r, omega (arith, l, z), omega (arith, l, z))

  held-brace : (k c : List ℕ) → Around u 2 k c → Held s end (cond (is_nil c) (with_key k brace) (wrong 5))
  held-brace k (x ∷ c) a = (omega arith, omega arith)
  held-brace [] [] a = (omega arith, omega arith)
  held-brace (b ∷ k) [] (e, f, l) = (key_sits (b ∷ k) (end - 2 - length (b ∷ k)) e (omega (arith, l)) (omega (arith, l, z)), omega (arith, l, z))

  held-scan : (r : Scan) → Apart u r → Held s end (form_from u end r)
  held-scan neither a = by_cond (Held s end) (same u (bytes "}")) (λ q. tt) (λ q. by_cond (Held s end) (same u (bytes "EOF")) (λ q. tt) (λ q. (omega arith, omega arith)))
  held-scan (at_equal k c) a = held_equal k c a
  held-scan (at_brace k c) a = held-brace k c a

held-rest : (s : List ℕ) (p end : ℕ) (u : List ℕ) → Sits s p u → p + length u ≡ end → Held s end (form_of_rest u end)
held-rest s p end [] h z = tt
held-rest s p end (b ∷ u) h z = by_cond (Held s end) (allowed (b ∷ u)) (λ q. held-scan s p end (b ∷ u) h z (scan (b ∷ u)) (scan-apart (b ∷ u))) (λ q. (omega arith, omega arith))

held-line : (s : List ℕ) (at : ℕ) (l : List ℕ) → Sits s at l → Held s (at + length l) (form_of at l)
unfolding form_of
held-line s at [] h = tt
held-line s at (b ∷ t) h = go (eqb b 35)
  where
    go : (q : Bool) → Held s (at + length (b ∷ t)) (choose q (λ _. ignored) (λ _. form_of_rest (unindent (b ∷ t)) (at + length (b ∷ t))))
    go true = tt
    go false =
        let w = unindent-behind (b ∷ t) in
        let m = w.most in
        let l = ap length w.rest in
        held-rest s (at + w.bytes) (at + length (b ∷ t)) (unindent (b ∷ t)) (w.rest ∙ sits-drop s at (b ∷ t) h w.bytes m ∙ ap (λ x. take (length x) (drop (at + w.bytes) s)) (sym w.rest))
        (omega (arith, l, m, length-drop w.bytes (b ∷ t)))

held-form : (s : List ℕ) (volume line end : ℕ) (f : Form) → Held s end f → form_in s (with_places volume line end f) ≡ f
held-form s volume line end ignored h = refl
held-form s volume line end (wrong n) h = refl
held-form s volume line end close h = refl
held-form s volume line end eof h = refl
held-form s volume line end (keyed k brace) h = ap (λ k. keyed k brace) h.0
held-form s volume line end (keyed k (equals at c)) h = ap (λ x. keyed x (equals at (take (length c) (drop at s)))) h.0 ∙ ap (λ x. keyed k (equals at x)) h.1

-- ── bounds ──
pub record OpensIn (s : List ℕ) (next : ℕ) (o : Opener) : Type 0 where
  pub inside : o.key.at + o.key.len ≤ length s
  pub before : o.key.at + o.key.len ≤ next

pub record EqualsIn (s : List ℕ) (next : ℕ) (q : Equation) : Type 0 where
  pub inside : q.key.at + q.key.len ≤ length s
  pub before : q.key.at + q.key.len ≤ next
  pub rest-inside : q.rest.at + q.rest.len ≤ length s
  pub rest_end : q.rest.at + q.rest.len + 2 ≡ next

pub record RefusedIn (volume line : ℕ) (r : Refusal) : Type 0 where
  pub volume-is : r.volume ≡ volume
  pub line-is : r.line ≡ line
  pub least : 4 ≤ r.number
  pub most : r.number ≤ 5

abbrev FormIn : List ℕ → ℕ → ℕ → ℕ → LineForm → Type 0
FormIn s volume line next L.Ignored = Unit {0}
FormIn s volume line next L.Close = Unit {0}
FormIn s volume line next L.Eof = Unit {0}
FormIn s volume line next (L.Opens o) = OpensIn s next o
FormIn s volume line next (L.Equals q) = EqualsIn s next q
FormIn s volume line next (L.Refused r) = RefusedIn volume line r

held_in : (s : List ℕ) (volume line end : ℕ) (f : Form) → Held s end f → end ≤ length s → FormIn s volume line (end + 2) (with_places volume line end f)
held_in s volume line end ignored h b = tt
held_in s volume line end (wrong n) h b = record { volume-is = refl; line-is = refl; least = h.0; most = h.1 }
held_in s volume line end close h b = tt
held_in s volume line end eof h b = tt
held_in s volume line end (keyed k brace) h b = record { inside = omega (arith, h.1); before = omega (arith, h.1) }
held_in s volume line end (keyed k (equals at c)) h b =
    let x = h.2 in
    let y = h.3 in
    record { inside = omega arith; before = omega arith; rest-inside = omega arith; rest_end = omega arith }

-- ── the answer taken apart ──
-- the line that a look saw
record Cutting (volume line base at : ℕ) (body : List ℕ) (f : Seen) : Type 0 where
  most : base + length body ≤ most_bytes
  low : base ≤ at
  line-bytes : List ℕ
  is-first : line-bytes ≡ up_to 13 (drop (at - base) body)
  cr : at + length line-bytes < base + length body
  form-is : f.form ≡ line_form_of volume line at line-bytes
  next-is : f.next ≡ at + length line-bytes + 2
  last-is : f.last ≡ eqb (at + length line-bytes + 2 + 1) (base + length body)

end_line : {P : Type 0} {f : Seen} → None ≡ Some f → P
end_line e = absurd (let z : ◌≡◌ {A = ℕ} 0 1 = cc in omega arith)

look-cut : (volume line base at : ℕ) (body : List ℕ) (f : Seen) → look_in volume line base at body ≡ Some f → Cutting volume line base at body f
look-cut volume line base at body f e = long (leb (base + length body) most_bytes) refl
  where
    found : base + length body ≤ most_bytes → base ≤ at → at ≤ base + length body → (q : Bool) → ltb (length (up_to 13 (drop (at - base) body))) (length (drop (at - base) body)) ≡ q → Cutting volume line base at body f
    found h i j true q =
        let t = drop (at - base) body in
        let l = up_to 13 t in
        let n = ltb-true (length l) (length t) q in
        let z : seen_at (line_form_of volume line at l) (at + length l) (base + length body) ≡ Some f = sym (some-there volume line base at body h i j n) ∙ e in
        let w : record { form = line_form_of volume line at l; next = at + length l + 2; last = eqb (at + length l + 2 + 1) (base + length body) } ≡ f = cc in
        record {
          most = h;
          low = i;
          line-bytes = l;
          is-first = refl;
          cr = omega (arith, n, length-drop (at - base) body);
          form-is = ap (λ (g : Seen). g.form) (sym w);
          next-is = ap (λ (g : Seen). g.next) (sym w);
          last-is = ap (λ (g : Seen). g.last) (sym w);
        }
    found h i j false q = end_line (sym (none-there volume line base at body h i j (ltb-false (length (up_to 13 (drop (at - base) body))) (length (drop (at - base) body)) q)) ∙ e)

    behind : base + length body ≤ most_bytes → base ≤ at → (q : Bool) → leb at (base + length body) ≡ q → Cutting volume line base at body f
    behind h i true q = found h i (leb-true at (base + length body) q) (ltb (length (up_to 13 (drop (at - base) body))) (length (drop (at - base) body))) refl
    behind h i false q = end_line (sym (look-behind volume line base at body (leb-false at (base + length body) q)) ∙ e)

    early : base + length body ≤ most_bytes → (q : Bool) → leb base at ≡ q → Cutting volume line base at body f
    early h true q = behind h (leb-true base at q) (leb at (base + length body)) refl
    early h false q = end_line (sym (look-early volume line base at body (leb-false base at q)) ∙ e)

    long : (q : Bool) → leb (base + length body) most_bytes ≡ q → Cutting volume line base at body f
    long true q = early (leb-true (base + length body) most_bytes q) (leb base at) refl
    long false q = end_line (sym (look-long volume line base at body (leb-false (base + length body) most_bytes q)) ∙ e)

module _ (volume line base at : ℕ) (s body : List ℕ) (f : Seen) (part : PartOf s base body) (c : Cutting volume line base at body f) where
  cut_sits : Sits s at c.line-bytes
  cut_sits =
      let t = drop (at - base) body in
      let l = c.line-bytes in
      let e = c.is-first in
      let n = ap length e in
      let low = c.low in
      let m : at - base ≤ length body = omega (arith, c.cr) in
      let back : base + (at - base) ≡ at = omega arith in
      e ∙ sym (up_to-take 13 t) ∙ sits-take s (base + (at - base)) t (sits-drop s base body part.bytes (at - base) m) (length (up_to 13 t)) (up_to-le 13 t) ∙ ap (λ p. take (length (up_to 13 t)) (drop p s)) back ∙ ap (λ k. take k (drop at s)) (sym n)

  cut-form : form_in s f.form ≡ form_of at c.line-bytes
  unfolding line_form_of
  cut-form = ap (form_in s) c.form-is ∙ held-form s volume line (at + length c.line-bytes) (form_of at c.line-bytes) (held-line s at c.line-bytes cut_sits)

  cut_in : FormIn s volume line f.next f.form
  unfolding line_form_of
  cut_in =
      let k = c.cr in
      let h = part.inside in
      subst (FormIn s volume line f.next) (sym c.form-is)
      (subst (λ (n : ℕ). FormIn s volume line n (line_form_of volume line at c.line-bytes)) (sym c.next-is)
      (held_in s volume line (at + length c.line-bytes) (form_of at c.line-bytes) (held-line s at c.line-bytes cut_sits) (omega arith)))

-- ── bounds of what a look saw, whatever the bytes ──
module _ (volume line base at : ℕ) (body : List ℕ) (f : Seen) (e : look_in volume line base at body ≡ Some f) where
  module _ (s : List ℕ) (part : PartOf s base body) where
    form_in_lem : (g : LineForm) → f.form ≡ g → FormIn s volume line f.next g
    form_in_lem g q = subst (FormIn s volume line f.next) q (cut_in volume line base at s body f part (look-cut volume line base at body f e))

    pub look-opens : (o : Opener) → f.form ≡ L.Opens o → OpensIn s f.next o
    look-opens o q = form_in_lem (L.Opens o) q

    pub look-equals : (q : Equation) → f.form ≡ L.Equals q → EqualsIn s f.next q
    look-equals q p = form_in_lem (L.Equals q) p

    pub look-refused : (r : Refusal) → f.form ≡ L.Refused r → RefusedIn volume line r
    look-refused r q = form_in_lem (L.Refused r) q

  -- a look goes on, and stays in the places of the volume and of a spool
  pub look-forward : (at < f.next) × (f.next ≤ base + length body + 1) × (f.next ≤ most_bytes + 1)
  look-forward =
      let c = look-cut volume line base at body f e in
      let k = c.cr in
      let n = c.next-is in
      let m = c.most in
      (omega arith, omega arith, omega arith)

same_eqb : (a b c d : ℕ) → (a ≡ b → c ≡ d) → (c ≡ d → a ≡ b) → eqb a b ≡ eqb c d
same_eqb a b c d f g = go (eqb a b) refl
  where
    go : (t : Bool) → eqb a b ≡ t → t ≡ eqb c d
    go true q = sym (eq-eqb c d (f (eqb-true a b q)))
    go false q = sym (ne_eqb c d (λ y. eqb-false a b q (g y)))

-- ── the lines that a walk finds ──
-- the line l at a place of the volume, which a look saw, and the lines behind it
pub record Follows (s : List ℕ) (base at : ℕ) (body l : List ℕ) (ls : List (List ℕ)) (f : Seen) : Type 0 where
  pub form : form_in s f.form ≡ form_of at l
  pub next : f.next ≡ at + length l + 2
  pub last : f.last ≡ is_nil ls
  pub after : lines_in base f.next body ≡ Some ls
  pub forward : at < f.next
  pub inside : f.next < base + length body

pub record Found (s : List ℕ) (base at : ℕ) (body : List ℕ) (ls : List (List ℕ)) (f : Seen) : Type 0 where
  pub line : List ℕ
  pub others : List (List ℕ)
  pub lines : ls ≡ line ∷ others
  pub follows : Follows s base at body line others f

-- a look at the first of these lines saw it
pub record Shown (volume line base at : ℕ) (s body l : List ℕ) (ls : List (List ℕ)) : Type 0 where
  pub seen : Seen
  pub answer : look_in volume line base at body ≡ Some seen
  pub follows : Follows s base at body l ls seen

module _ (volume line base at : ℕ) (s body : List ℕ) (ls : List (List ℕ)) (part : PartOf s base body) (h : length s ≤ most_bytes) (i : base ≤ at) (j : at ≤ base + length body) (e : lines_in base at body ≡ Some ls) where
  -- the volume's bytes that are left
  abbrev left : List ℕ
  left = drop (at - base) body

  -- the line that a look cut off is the first of them
  cut-found : (f : Seen) → Cutting volume line base at body f → Cut left ls → Found s base at body ls f
  cut-found f c w =
      let l = c.line-bytes in
      let n = ap length c.is-first in
      let y : at - base + (length (up_to 13 left) + 2) ≡ f.next - base = omega (arith, n, c.next-is) in
      let rest : drop (f.next - base) body ≡ drop (length (up_to 13 left) + 2) left = sym (drop-drop (length (up_to 13 left) + 2) (at - base) body ∙ ap (λ p. drop p body) y) in
      let after : lines_in base f.next body ≡ Some w.others = ap (lines_from false) rest ∙ w.after in
      let x = some-inside body (f.next - base) w.others after in
      let size = length-drop (f.next - base) body in
      record {
        line = l;
        others = w.others;
        lines = w.first ∙ ap (λ x. x ∷ w.others) (sym c.is-first);
        follows =
            record {
              form = cut-form volume line base at s body f part c;
              next = c.next-is;
              last = c.last-is ∙ same_eqb (at + length l + 2 + 1) (base + length body) (length (drop (f.next - base) body)) 1 (λ k. omega (arith, k, size, c.next-is)) (λ k. omega (arith, k, size, c.next-is)) ∙ one_left (drop (f.next - base) body) w.others after;
              after = after;
              forward = omega (arith, c.next-is);
              inside = omega (arith, x, c.next-is);
            };
      }

  pub look-line : (f : Seen) → look_in volume line base at body ≡ Some f → Found s base at body ls f
  look-line f q =
      let c = look-cut volume line base at body f q in
      cut-found f c ((cuts left ls e).0 (omega (arith, ap length c.is-first, c.cr, length-drop (at - base) body)))

  pub look-end : look_in volume line base at body ≡ None → ls ≡ []
  look-end q = go (ltb (length (up_to 13 left)) (length left)) refl
    where
      go : (b : Bool) → ltb (length (up_to 13 (drop (at - base) body))) (length (drop (at - base) body)) ≡ b → ls ≡ []
      go true p = let t = drop (at - base) body in end_line (sym q ∙ some-there volume line base at body (omega (arith, part.inside)) i j (ltb-true (length (up_to 13 t)) (length t) p))
      go false p = let t = drop (at - base) body in ((cuts t ls e).1 (ltb-false (length (up_to 13 t)) (length t) p)).0

  pub look_none : ls ≡ [] → look_in volume line base at body ≡ None
  look_none q = go (look_in volume line base at body) refl
    where
      go : (x : Option Seen) → look_in volume line base at body ≡ x → x ≡ None
      go None p = refl
      go (Some f) p = cons_no-nil (sym (look-line f p).lines ∙ q)

  pub look-some : (l : List ℕ) (us : List (List ℕ)) → ls ≡ l ∷ us → Shown volume line base at s body l us
  look-some l us q = go (look_in volume line base at body) refl
    where
      go : (x : Option Seen) → look_in volume line base at body ≡ x → Shown volume line base at s body l us
      go None p = cons_no-nil (sym q ∙ look-end p)
      go (Some f) p =
          let w = look-line f p in
          let z = sym w.lines ∙ q in
          let a : w.line ≡ l = cc in
          let b : w.others ≡ us = cc in
          record { seen = f; answer = p; follows = subst (λ (x : List ℕ). Follows s base at body x us f) a (subst (λ (x : List (List ℕ)). Follows s base at body w.line x f) b w.follows) }

-- the definition's lines from there: the one seen, and those from the next place on
pub found-numbered : (s : List ℕ) (base at : ℕ) (body : List ℕ) (ls : List (List ℕ)) (f : Seen) (w : Found s base at body ls f) (v n : ℕ) (name : List ℕ)
    → numbered v name n at ls ≡ record { volume = v; line = n; last = f.last; next = name; form = form_in s f.form } ∷ numbered v name (suc n) f.next w.others
found-numbered s base at body ls f w v n name = ap (numbered v name n at) w.lines ∙ sym (rw (w.follows.form, w.follows.last, w.follows.next))

-- ── the start of a walk ──
-- a part of the spool, as it is lent
pub part_of : (s : List ℕ) (from to : ℕ) → from ≤ to → to ≤ length s → PartOf s from (take (to - from) (drop from s))
part_of s from to i j =
    let n = length-take-le (to - from) (drop from s) (omega (arith, length-drop from s)) in
    record { bytes = ap (λ k. take k (drop from s)) (sym n); inside = omega (arith, n) }

-- the limit of a line's length is tested before
pub lines_of_lem : (s : List ℕ) (ls : List (List ℕ)) → lines_of s ≡ Some ls → lines_from false s ≡ Some ls
unfolding lines_of
lines_of_lem s ls e = go (lines_from false s) e
  where
    short : (t : Bool) (us : List (List ℕ)) → cond t (Some us) None ≡ Some ls → Some us ≡ Some ls
    short true us e = e
    short false us e = none-some e

    go : (o : Option (List (List ℕ))) → short_lines o ≡ Some ls → o ≡ Some ls
    go None e = none-some e
    go (Some us) e = short (all (λ l. leb (length l) most_in_line) us) us e

pub lines-from-start : (base : ℕ) (body : List ℕ) (ls : List (List ℕ)) → lines_of body ≡ Some ls → lines_in base base body ≡ Some ls
lines-from-start base body ls e = let z : base - base ≡ 0 = omega arith in ap (λ k. lines_from false (drop k body)) z ∙ lines_of_lem body ls e
