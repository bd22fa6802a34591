-- What an act leads to, and what one that opens a block says of its row.
use Prim.Native.Nat.{ℕ}
use mathlib.Core.Bool.{Bool, true, false, cond}
use mathlib.Core.List.{List}
use mathlib.Core.Path.{◌≡◌, refl, ap, subst}
use lib.ListN.{get_or}
use Rattle.rules.specs.declared.Digits.{Digits}
use Rattle.rules.specs.RefusalNumbers.{Got, got, bad}
use Rattle.rules.specs.Lines.{Rest, Form, ignored, wrong, close, eof, keyed, Shape, opener, no_content, content, opening, formless, has_form, shape_of}
use Rattle.rules.specs.Values.{Value, empty, Known, read_kind}
use Rattle.rules.specs.Rows.{Rule, Found, absent, found, find, Act, stay, entry, begin, shut, refuse, or_refuse, inner_of, shape_for, read_shape, act_row, act_found, complete, act}
use Rattle.rules.proofs.Chains.{clash, by_cond, never, unless-got, map-got}
use Rattle.rules.proofs.Rows.{Row, found-row, row-did}

-- an act that opens a block: the row that it stands for, which block, and that the row is not full
pub record Begun (t : List Rule) (full : List Bool) (i j : ℕ) : Type 0 where
  pub rule : Rule
  pub row : Row t j rule
  pub inner : inner_of rule.holds ≡ i
  pub free : get_or full j false ≡ false

-- an act that is no opening
abbrev opens_nothing : Act → Bool
opens_nothing stay = true
opens_nothing (entry j v) = true
opens_nothing (begin i j v) = false
opens_nothing shut = true
opens_nothing (refuse n) = true

not-begin : {P : Type 0} {i j : ℕ} {v : Value} (a : Act) → opens_nothing a ≡ true → a ≡ begin i j v → P
not-begin a p e = clash p (ap opens_nothing e)

refused-begin : (g : Got Act) {i j : ℕ} {v : Value} → or_refuse g ≡ begin i j v → g ≡ got (begin i j v)
refused-begin (got a) e = ap got e
refused-begin (bad n) e = not-begin (refuse n) refl e

shape-begin : (k : Known) (j : ℕ) (r : Rule) (s : Shape) {i j' : ℕ} {v : Value} → read_shape k j r s ≡ got (begin i j' v) → (j ≡ j') × (inner_of r.holds ≡ i)
shape-begin k j r opener e = (cc, cc)
shape-begin k j r no_content {i} {j'} {v} e = let q : entry j empty ≡ begin i j' v = cc in not-begin (entry j empty) refl q
shape-begin k j r (content at c) e = let (v, p, q) = map-got (entry j) (read_kind k r.holds at c) _ e in not-begin (entry j v) refl q
shape-begin k j r (opening at c) e = let (v, p, q) = map-got (begin (inner_of r.holds) j) (read_kind k r.holds at c) _ e in (cc, cc)
shape-begin k j r formless e = never e

row-begin : (k : Known) (d : Digits) (b : Bool) (j : ℕ) (r : Rule) (c : Rest) {i j' : ℕ} {v : Value} → act_row k d b j r c ≡ begin i j' v → (j ≡ j') × (inner_of r.holds ≡ i) × (b ≡ false)
row-begin k d b j r c {i} {j'} {v} e =
    let did = row-did k d b j r c (begin i j' v) refl e in
    let w = shape-begin k j r (shape_for r c) did.read in
    (w.0, w.1, did.open_yet)

found-begin : (k : Known) (t : List Rule) (d : Digits) (full : List Bool) (key : List ℕ) (c : Rest) (f : Found) {i j : ℕ} {v : Value} → find key t ≡ f → act_found k d full c f ≡ begin i j v → Begun t full i j
found-begin k t d full key c absent p e = never (unless-got (has_form (shape_of c)) 5 (bad 6) _ (refused-begin _ e)).1
found-begin k t d full key c (found j r) {i} {j = j'} p e =
    let w = row-begin k d (get_or full j false) j r c e in
    record {
      rule = r;
      row = subst (λ (m : ℕ). Row t m r) w.0 (found-row key t j r p).0;
      inner = w.1;
      free = subst (λ (m : ℕ). get_or full m false ≡ false) w.0 w.2;
    }

pub act-begin : (k : Known) (t : List Rule) (d : Digits) (full : List Bool) (f : Form) {i j : ℕ} {v : Value} → act k t d full f ≡ begin i j v → Begun t full i j
act-begin k t d full ignored e = not-begin stay refl e
act-begin k t d full (wrong n) e = not-begin (refuse n) refl e
act-begin k t d full close e = not-begin (cond (complete d t full) shut (refuse 8)) (by_cond (λ a. opens_nothing a ≡ true) (complete d t full) (λ _. refl) (λ _. refl)) e
act-begin k t d full eof e = not-begin (refuse 9) refl e
act-begin k t d full (keyed key c) e = found-begin k t d full key c (find key t) refl e
