-- How many bytes a line has, by what it did: a key and what follows it, or a `}`.
use Prim.Native.Nat.{ℕ, ◌+◌, ◌≤◌}
use mathlib.Core.Bool.{Bool, true, false, cond}
use mathlib.Core.List.{List, [], ◌∷◌}
use mathlib.Core.Path.{◌≡◌, refl, sym, ◌∙◌, ap}
use native.Mathlib.Omega.{arith}
use lib.ListN.{length}
use Rattle.rules.specs.declared.Digits.{Digits}
use Rattle.rules.specs.RefusalNumbers.{got}
use Rattle.rules.specs.Lines.{Rest, brace, equals, Form, ignored, wrong, close, eof, keyed, Shape, opener, no_content, content, opening, formless, shape_of, free_shape_of}
use Rattle.rules.specs.Values.{Known, Value, empty, nums, is_free, read_kind}
use Rattle.rules.specs.Rows.{Rule, is_empty, shape_for, Act, stay, entry, begin, shut, refuse, inner_of, read_shape, complete, act}
use Rattle.rules.specs.Base.{all}
use Rattle.rules.proofs.Chains.{clash, never, same-eq, map-got}
use Rattle.rules.proofs.Rows.{found-row}
use Rattle.standing.specs.Standing.{rest_size, form_size}
use Rattle.standing.proofs.LineOrigins.{From}
use Rattle.standing.proofs.Openers.{is_entry, found-quiet}

-- ── behind the key ──
free-size : (x : Rest) → is_empty (free_shape_of x) ≡ false → 2 ≤ rest_size x
free-size brace e = omega arith
free-size (equals at []) e = clash refl e
free-size (equals at (b ∷ c)) e = omega arith

plain_size : (x : Rest) → is_empty (shape_of x) ≡ false → 2 ≤ rest_size x
plain_size brace e = omega arith
plain_size (equals at []) e = clash refl e
plain_size (equals at (b ∷ c)) e = omega arith

-- `:{`, or `=` and a byte at least
pub rest-size : (r : Rule) (x : Rest) → is_empty (shape_for r x) ≡ false → 2 ≤ rest_size x
rest-size r x e = go (is_free r.holds) e
  where
    go : (b : Bool) → is_empty (cond b (free_shape_of x) (shape_of x)) ≡ false → 2 ≤ rest_size x
    go true e = free-size x e
    go false e = plain_size x e

begun-shape : (k : Known) (i j h : ℕ) (v : Value) (r : Rule) (s : Shape) → read_shape k h r s ≡ got (begin i j v) → is_empty s ≡ false
begun-shape k i j h v r opener e = refl
begun-shape k i j h v r no_content e = let q : entry h empty ≡ begin i j v = cc in clash refl (ap is_entry q)
begun-shape k i j h v r (content at c) e = refl
begun-shape k i j h v r (opening at c) e = refl
begun-shape k i j h v r formless e = refl

module _ (k : Known) (t : List Rule) (d : Digits) (full : List Bool) (f : Form) (j : ℕ) (a : Act) (x : From k t d full f j a) where
  pub line-size : form_size f ≡ length x.rule.key + rest_size x.rest
  line-size =
      ap form_size x.form ∙ ap (λ (y : List ℕ). length y + rest_size x.rest) (same-eq x.key x.rule.key (found-row x.key t j x.rule x.place).1)

pub begin-size : (k : Known) (t : List Rule) (d : Digits) (full : List Bool) (f : Form) (i j : ℕ) (v : Value) (x : From k t d full f j (begin i j v))
    → length x.rule.key + 2 ≤ form_size f
begin-size k t d full f i j v x =
    omega (arith, line-size k t d full f j (begin i j v) x, rest-size x.rule x.rest (begun-shape k i j j v x.rule (shape_for x.rule x.rest) x.did.read))

-- ── `}` ──
abbrev is_shut : Act → Bool
is_shut stay = false
is_shut (entry j v) = false
is_shut (begin i j v) = false
is_shut shut = true
is_shut (refuse n) = false

pub read-shut : (k : Known) (j : ℕ) (r : Rule) (s : Shape) (a : Act) → read_shape k j r s ≡ got a → is_shut a ≡ false
read-shut k j r opener a e = let q : begin (inner_of r.holds) j (nums []) ≡ a = cc in ap is_shut (sym q)
read-shut k j r no_content a e = let q : entry j empty ≡ a = cc in ap is_shut (sym q)
read-shut k j r (content at c) a e = let m = map-got (entry j) (read_kind k r.holds at c) a e in ap is_shut (sym m.2)
read-shut k j r (opening at c) a e = let m = map-got (begin (inner_of r.holds) j) (read_kind k r.holds at c) a e in ap is_shut (sym m.2)
read-shut k j r formless a e = never e

every-row : (t : List Rule) → all (λ r. true) t ≡ true
every-row [] = refl
every-row (r ∷ t) = every-row t

-- a block closes at a `}`, with all that it must have
pub shut-close : (k : Known) (t : List Rule) (d : Digits) (full : List Bool) (f : Form) → act k t d full f ≡ shut → (f ≡ close) × (complete d t full ≡ true)
shut-close k t d full ignored e = clash (ap is_shut e) refl
shut-close k t d full (wrong n) e = clash (ap is_shut e) refl
shut-close k t d full close e = (refl, go (complete d t full) refl e)
  where
    go : (b : Bool) → complete d t full ≡ b → cond b shut (refuse 8) ≡ shut → b ≡ true
    go true h e = refl
    go false h e = ap is_shut e
shut-close k t d full eof e = clash (ap is_shut e) refl
shut-close k t d full (keyed key x) e =
    clash (ap is_shut e) (found-quiet is_shut (λ h. true) (λ n. refl) (λ k d full j r x a p w. read-shut k j r (shape_for r x) a w.read) k t d full key x (every-row t))
