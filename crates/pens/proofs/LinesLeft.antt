-- The lines left of a volume: the next of them, by the code's look at it.
use Rattle.std.specs.Prelude.{Some, None}
use Prim.Native.Nat.{ℕ, suc, ◌+◌, ◌-◌, ◌≤◌, ◌<◌}
use mathlib.Core.Bool.{Bool, true, false, cond}
use mathlib.Core.List.{List, [], ◌∷◌}
use mathlib.Core.Path.{◌≡◌, refl, sym, ◌∙◌, ap, subst}
use native.Mathlib.Omega.{arith}
use borrow.Author.Tests.{leb-true}
use lib.Dec.{leb}
use lib.ListN.{length, drop, length-drop}
use lib.Seq.{length-take-le}
use Rattle.rules.specs.declared.LineForm.{LineForm}
use Rattle.rules.specs.declared.LineForm.TheVariants as L
use Rattle.rules.specs.Base.{all, is_nil}
use Rattle.rules.specs.Spool.{most_in_line}
use Rattle.rules.specs.Lines.{brace, equals, Form, ignored, wrong, close, eof, keyed, form_of, form_in, bytes_at}
use Rattle.rules.proofs.Chains.{and_left, and_right, by_cond, clash}
use Rattle.promises.proofs.Forms.{Tells, form-tells}
use Rattle.lines.specs.LineLook.{look_in}
use Rattle.lines.specs.declared.Seen.{Seen}
use Rattle.lines.proofs.LinesSeen.{look-line, look-end, look-equals, look-forward}
use Rattle.pens.specs.Keys.{PlacedCode}
use Rattle.pens.specs.Drawing.{FormFits}
use Rattle.pens.specs.Passing.{LinesAt, forms_of}

-- ── a line's form ──
-- no longer than a line may be
fits_of : (n : ℕ) (f : Form) → Tells n f → n ≤ 512 → FormFits f
fits_of n ignored t h = tt
fits_of n (wrong m) t h = tt
fits_of n close t h = tt
fits_of n eof t h = tt
fits_of n (keyed k brace) t h = omega (arith, t, h)
fits_of n (keyed k (equals p c)) t h = (omega (arith, t.0, h), t.1)

module _ (spool body : List ℕ) (start at : ℕ) (ls : List (List ℕ)) (a : LinesAt spool body start at ls) (f : Seen) (q : look_in 1 1 start at body ≡ Some f) where
  -- the line that was seen, and those behind it
  pub record Next : Type 0 where
    pub line : List ℕ
    pub others : List (List ℕ)
    pub lines : ls ≡ line ∷ others
    pub form : form_of at line ≡ form_in spool f.form
    pub next : at + length line + 2 ≡ f.next
    pub last : f.last ≡ is_nil others
    pub left : LinesAt spool body start f.next others
    pub fits : FormFits (form_of at line)
    pub placed : PlacedCode f.form

  pub line-next : Next
  line-next =
      let g = look-line 1 1 start at spool body ls a.part a.short a.begun a.here a.lines f q in
      let w = g.follows in
      let narrow : all (λ (l : List ℕ). leb (length l) most_in_line) (g.line ∷ g.others) ≡ true = ap (all (λ (l : List ℕ). leb (length l) most_in_line)) (sym g.lines) ∙ a.narrow in
      let small : length g.line ≤ 512 = leb-true (length g.line) 512 (and_left (leb (length g.line) most_in_line) _ narrow) in
      record {
        line = g.line;
        others = g.others;
        lines = g.lines;
        form = sym w.form;
        next = sym w.next;
        last = w.last;
        left = record {
          short = a.short;
          part = a.part;
          begun = omega (arith, a.begun, w.forward);
          here = omega (arith, w.inside);
          lines = w.after;
          narrow = and_right (leb (length g.line) most_in_line) _ narrow;
        };
        fits = fits_of (length g.line) (form_of at g.line) (form-tells at g.line) small;
        placed = places f.form refl g.line w.form w.next;
      }
    where
      places : (x : LineForm) → f.form ≡ x → (l : List ℕ) → form_in spool f.form ≡ form_of at l → f.next ≡ at + length l + 2 → PlacedCode x
      places L.Ignored e l h n = tt
      places L.Close e l h n = tt
      places L.Eof e l h n = tt
      places (L.Opens o) e l h n = tt
      places (L.Equals r) e l h n =
          let w = look-equals 1 1 start at body f q spool a.part r e in
          let tells : Tells (length l) (form_in spool (L.Equals r)) = subst (Tells (length l)) (sym h ∙ ap (form_in spool) e) (form-tells at l) in
          let long : length (bytes_at spool r.rest) ≡ r.rest.len = length-take-le r.rest.len (drop r.rest.at spool) (omega (arith, length-drop r.rest.at spool, w.rest-inside)) in
          (omega (arith, tells.0, long, w.rest_end, n), omega (arith, w.rest-inside, a.short), omega (arith, w.rest-inside, a.short))
      places (L.Refused r) e l h n = tt

-- the forms of the lines left, behind that of the next
pub forms-next : (spool body : List ℕ) (start at : ℕ) (ls : List (List ℕ)) (a : LinesAt spool body start at ls) (f : Seen) (q : look_in 1 1 start at body ≡ Some f)
    → let z = line-next spool body start at ls a f q in forms_of at ls ≡ form_in spool f.form ∷ forms_of f.next z.others
forms-next spool body start at ls a f q =
    let z = line-next spool body start at ls a f q in
    ap (forms_of at) z.lines
    ∙ ap (λ (x : Form). x ∷ forms_of (at + length z.line + 2) z.others) z.form
    ∙ ap (λ (n : ℕ). form_in spool f.form ∷ forms_of n z.others) z.next

-- no line is left
pub forms-end : (spool body : List ℕ) (start at : ℕ) (ls : List (List ℕ)) → LinesAt spool body start at ls → look_in 1 1 start at body ≡ None → forms_of at ls ≡ []
forms-end spool body start at ls a q = ap (forms_of at) (look-end 1 1 start at spool body ls a.part a.short a.begun a.here a.lines q)

-- ── the lines left grow fewer ──
pub fewer-none : (end at : ℕ) (going : Bool) → going ≡ true → 0 < cond going (suc (end + 3 - at)) 0
fewer-none end at true e = omega arith
fewer-none end at false e = clash e refl

pub fewer : (body : List ℕ) (start at : ℕ) (going more : Bool) (f : Seen) → going ≡ true → look_in 1 1 start at body ≡ Some f
    → cond more (suc (start + length body + 3 - f.next)) 0 < cond going (suc (start + length body + 3 - at)) 0
fewer body start at going more f e q =
    let (on, most, few) = look-forward 1 1 start at body f q in
    by_cond (λ (n : ℕ). n < cond going (suc (start + length body + 3 - at)) 0) more
    (λ _. rw e (omega (arith, on, most))) (λ _. fewer-none (start + length body) at going e)
