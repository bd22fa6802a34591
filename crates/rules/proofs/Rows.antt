-- Laws of tables: finding a row, a row's facts by one computed test over its table, and what a line did that a row took.
use Prim.Native.Nat.{ℕ, suc, ◌<◌}
use mathlib.Core.Bool.{Bool, true, false, cond, ◌&&◌, not}
use mathlib.Core.List.{List, [], ◌∷◌}
use mathlib.Core.Path.{◌≡◌, refl, sym, ◌∙◌, ap, subst}
use native.Mathlib.Omega.{arith}
use lib.ListN.{length, get_or}
use borrow.Author.Tests.{not-true, le-leb}
use Rattle.rules.specs.declared.Digits.{Digits}
use Rattle.rules.specs.Base.{all, same}
use Rattle.rules.specs.RefusalNumbers.{Got, got, bad, unless, and_then}
use Rattle.rules.specs.Lines.{Rest, has_form}
use Rattle.rules.specs.RangeClass.{reaches, digits}
use Rattle.rules.specs.Values.{Known}
use Rattle.rules.specs.Rows.{Rule, Found, absent, found, further, find, fits, shape_for, Act, stay, entry, begin, shut, refuse, or_refuse, read_shape, not_twice, act_row}
use Rattle.rules.proofs.Chains.{and_left, and_right, clash, same_refl, unless-got, then-got, and_true}

-- the row of number i of a table
pub data Row : List Rule → ℕ → Rule → Type 0 where
  here : {r : Rule} {rs : List Rule} → Row (r ∷ rs) 0 r
  there : {r q : Rule} {rs : List Rule} {i : ℕ} → Row rs i r → Row (q ∷ rs) (suc i) r

-- a row that was found stands in the table, under the key that was looked for
pub found-row : (k : List ℕ) (t : List Rule) (i : ℕ) (r : Rule) → find k t ≡ found i r → Row t i r × (same k r.key ≡ true)
found-row k [] i r e = absurd (let z : ◌≡◌ {A = ℕ} 0 1 = cc in omega arith)
found-row k (q ∷ t) i r e = go (same k q.key) refl (find k t) (λ j p. found-row k t j r p) e
  where
    shift : (f : Found) → ((j : ℕ) → f ≡ found j r → Row t j r × (same k r.key ≡ true)) → further f ≡ found i r → Row (q ∷ t) i r × (same k r.key ≡ true)
    shift absent ih p = absurd (let z : ◌≡◌ {A = ℕ} 0 1 = cc in omega arith)
    shift (found j q') ih p =
        let a : suc j ≡ i = cc in
        let b : q' ≡ r = cc in
        let w = ih j (ap (found j) b) in
        (subst (λ (m : ℕ). Row (q ∷ t) m r) a (there w.0), w.1)

    go : (b : Bool) → same k q.key ≡ b → (f : Found) → ((j : ℕ) → f ≡ found j r → Row t j r × (same k r.key ≡ true)) → cond b (found 0 q) (further f) ≡ found i r
        → Row (q ∷ t) i r × (same k r.key ≡ true)
    go true h f ih p =
        let a : 0 ≡ i = cc in
        let b : q ≡ r = cc in
        (subst (λ (m : ℕ). Row (q ∷ t) m r) a (subst (λ (x : Rule). Row (q ∷ t) 0 x) b here), ap (λ (x : Rule). same k x.key) (sym b) ∙ h)
    go false h f ih p = shift f ih p

-- a test that every row of the table passes, by computation, holds of each
pub row-all : (p : Rule → Bool) {t : List Rule} {i : ℕ} {r : Rule} → Row t i r → all p t ≡ true → p r ≡ true
row-all p (here {r = r}) e = and_left (p r) _ e
row-all p (there {q = q} w) e = row-all p w (and_right (p q) _ e)

-- the keys of a table differ
abbrev pub differ : List Rule → Bool
differ [] = true
differ (q ∷ t) = all (λ r. not (same r.key q.key)) t && differ t

-- a row's key finds it, where the keys differ
pub row-find : {t : List Rule} {i : ℕ} {r : Rule} → Row t i r → differ t ≡ true → find r.key t ≡ found i r
row-find (here {r = r}) e = rw (same_refl r.key)
row-find (there {r = r} {q = q} {rs = t} w) e =
    rw (
      not-true (same r.key q.key) (row-all (λ r. not (same r.key q.key)) w (and_left (all (λ r. not (same r.key q.key)) t) _ e)),
      row-find w (and_right (all (λ r. not (same r.key q.key)) t) _ e),
    )

-- the row by its number
pub row_at : {t : List Rule} {i : ℕ} {r : Rule} → Row t i r → (d : Rule) → get_or t i d ≡ r
row_at here d = refl
row_at (there w) d = row_at w d

pub row_below : {t : List Rule} {i : ℕ} {r : Rule} → Row t i r → i < length t
row_below here = omega arith
row_below (there w) = omega (arith, row_below w)

-- what is known from 000 on is known at every range
pub reaches-none : (d : Digits) → reaches d (digits 0 0) ≡ true
reaches-none d = and_true _ _ (le-leb 0 d.middle (omega arith)) (le-leb 0 d.last (omega arith))

-- ── the act of a row, taken apart ──
abbrev pub is_refusal : Act → Bool
is_refusal stay = false
is_refusal (entry j v) = false
is_refusal (begin i j v) = false
is_refusal shut = false
is_refusal (refuse n) = true

or-act : (g : Got Act) (a : Act) → is_refusal a ≡ false → or_refuse g ≡ a → g ≡ got a
or-act (got b) a n e = ap got e
or-act (bad m) a n e = clash (ap is_refusal (sym e)) n

-- what an act that is no refusal says of its line
pub record Did (k : Known) (d : Digits) (full : Bool) (j : ℕ) (r : Rule) (x : Rest) (a : Act) : Type 0 where
  pub level : reaches d r.least ≡ true
  pub fit : fits r.holds r.may (shape_for r x) ≡ true
  pub open_yet : full ≡ false
  pub read : read_shape k j r (shape_for r x) ≡ got a

pub row-did : (k : Known) (d : Digits) (full : Bool) (j : ℕ) (r : Rule) (x : Rest) (a : Act) → is_refusal a ≡ false → act_row k d full j r x ≡ a → Did k d full j r x a
row-did k d full j r x a n e =
    let s = shape_for r x in
    let last = and_then (read_shape k j r s) λ b. unless (not full) 11 (got b) in
    let twice = unless (not_twice r.times full) 7 last in
    let fitting = unless (fits r.holds r.may s) 5 twice in
    let known = unless (reaches d r.least) 6 fitting in
    let (h, e1) = unless-got (has_form s) 5 known a (or-act (unless (has_form s) 5 known) a n e) in
    let (l, e2) = unless-got (reaches d r.least) 6 fitting a e1 in
    let (f, e3) = unless-got (fits r.holds r.may s) 5 twice a e2 in
    let (t, e4) = unless-got (not_twice r.times full) 7 last a e3 in
    let (b, g, e5) = then-got (read_shape k j r s) (λ b. unless (not full) 11 (got b)) a e4 in
    let (o, q) = unless-got (not full) 11 (got b) a e5 in
    record { level = l; fit = f; open_yet = not-true full o; read = g ∙ q }
