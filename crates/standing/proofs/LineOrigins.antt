-- Where an act came from: a line that entered a row, or opened a block, had that row's key, and its content was read as the row's kind.
use Rattle.std.specs.Prelude.{Option, Some, None}
use Prim.Native.Nat.{ℕ, ◌≤◌}
use mathlib.Core.Bool.{Bool, true, false, cond}
use mathlib.Core.List.{List, [], ◌∷◌}
use mathlib.Core.Path.{◌≡◌, refl, sym, ◌∙◌, ap, subst}
use native.Mathlib.Omega.{arith}
use lib.ListN.{get_or}
use Rattle.rules.specs.declared.Digits.{Digits}
use Rattle.rules.specs.Base.{split, is_nil}
use Rattle.rules.specs.RefusalNumbers.{got, bad, unless, keep}
use Rattle.rules.specs.Lines.{Rest, Form, ignored, wrong, close, eof, keyed, Shape, opener, no_content, content, opening, formless, has_form, shape_of, equals, brace, stem, by_stem, free_shape_of}
use Rattle.rules.specs.Values.{Value, empty, nums, Known, Part, Across, Kind, values, text, word, volume_name, sheet, ratio, serials, wire_serial, symbol_circle, nothing, opens, headed, either, read_all, agree, read_kind, nums_of, Bytes, is_free, read_circle}
use Rattle.rules.specs.Rows.{Rule, Found, absent, found, find, shape_for, fits, Act, stay, entry, begin, shut, refuse, or_refuse, inner_of, is_content, read_shape, act_row, act_unknown, act_found, complete, act}
use Rattle.rules.proofs.Chains.{clash, never, map-got, by_cond, or_left}
use Rattle.rules.proofs.Rows.{Row, found-row, is_refusal, Did, row-did}
use Rattle.entries.specs.Acts.{value_of}
use Rattle.standing.specs.Standing.{rest_size}

-- the row and the rest of the line behind its key
pub record From (k : Known) (t : List Rule) (d : Digits) (full : List Bool) (f : Form) (j : ℕ) (a : Act) : Type 0 where
  pub key : List ℕ
  pub rest : Rest
  pub rule : Rule
  pub form : f ≡ keyed key rest
  pub place : find key t ≡ found j rule
  pub row : Row t j rule
  pub did : Did k d (get_or full j false) j rule rest a

-- the rows that an act names
abbrev Came : Known → List Rule → Digits → List Bool → Form → Act → Act → Type 0
Came k t d full f a stay = Unit {0}
Came k t d full f a (entry j v) = From k t d full f j a
Came k t d full f a (begin i j v) = From k t d full f j a
Came k t d full f a shut = Unit {0}
Came k t d full f a (refuse n) = Unit {0}

abbrev SameRow : ℕ → Act → Type 0
SameRow j stay = Unit {0}
SameRow j (entry i v) = i ≡ j
SameRow j (begin n i v) = i ≡ j
SameRow j shut = Unit {0}
SameRow j (refuse n) = Unit {0}

shape_row : (k : Known) (j : ℕ) (r : Rule) (s : Shape) (a : Act) → read_shape k j r s ≡ got a → SameRow j a
shape_row k j r opener a e = let q : begin (inner_of r.holds) j (nums []) ≡ a = cc in subst (SameRow j) q refl
shape_row k j r no_content a e = let q : entry j empty ≡ a = cc in subst (SameRow j) q refl
shape_row k j r (content at c) a e = let (v, p, q) = map-got (entry j) (read_kind k r.holds at c) a e in subst (SameRow j) q refl
shape_row k j r (opening at c) a e = let (v, p, q) = map-got (begin (inner_of r.holds) j) (read_kind k r.holds at c) a e in subst (SameRow j) q refl
shape_row k j r formless a e = never e

module _ (k : Known) (t : List Rule) (d : Digits) (full : List Bool) where
  from_row : (key : List ℕ) (x : Rest) (f : Form) (i : ℕ) (r : Rule) (a : Act) → f ≡ keyed key x → find key t ≡ found i r → Row t i r → act_row k d (get_or full i false) i r x ≡ a → Came k t d full f a a
  from_row key x f i r stay e p w q = tt
  from_row key x f i r (entry j v) e p w q =
      let g = row-did k d (get_or full i false) i r x (entry j v) refl q in
      let m : j ≡ i = shape_row k i r (shape_for r x) (entry j v) g.read in
      subst (λ (n : ℕ). From k t d full f n (entry j v)) (sym m) (record { key = key; rest = x; rule = r; form = e; place = p; row = w; did = g })
  from_row key x f i r (begin n j v) e p w q =
      let g = row-did k d (get_or full i false) i r x (begin n j v) refl q in
      let m : j ≡ i = shape_row k i r (shape_for r x) (begin n j v) g.read in
      subst (λ (o : ℕ). From k t d full f o (begin n j v)) (sym m) (record { key = key; rest = x; rule = r; form = e; place = p; row = w; did = g })
  from_row key x f i r shut e p w q = tt
  from_row key x f i r (refuse n) e p w q = tt

  refused : (f : Form) (a : Act) → is_refusal a ≡ true → Came k t d full f a a
  refused f stay e = tt
  refused f (entry j v) e = clash e refl
  refused f (begin i j v) e = clash e refl
  refused f shut e = tt
  refused f (refuse n) e = tt

  came : (f : Form) → Came k t d full f (act k t d full f) (act k t d full f)
  came ignored = tt
  came (wrong n) = tt
  came close = by_cond (λ (a : Act). Came k t d full close a a) (complete d t full) (λ q. tt) (λ q. tt)
  came eof = tt
  came (keyed key x) = go (find key t) refl
    where
      unknown : (b : Bool) → is_refusal (or_refuse (unless b 5 (bad 6))) ≡ true
      unknown true = refl
      unknown false = refl

      go : (f : Found) → find key t ≡ f → Came k t d full (keyed key x) (act_found k d full x f) (act_found k d full x f)
      go absent e = refused (keyed key x) (act_unknown x) (unknown (has_form (shape_of x)))
      go (found i r) e = from_row key x (keyed key x) i r (act_row k d (get_or full i false) i r x) refl e (found-row key t i r e).0 refl

  pub entry-from : (f : Form) (j : ℕ) (v : Value) → act k t d full f ≡ entry j v → From k t d full f j (entry j v)
  entry-from f j v e = subst (λ (a : Act). Came k t d full f a a) e (came f)

  pub begin-from : (f : Form) (i j : ℕ) (v : Value) → act k t d full f ≡ begin i j v → From k t d full f j (begin i j v)
  begin-from f i j v e = subst (λ (a : Act). Came k t d full f a a) e (came f)

-- ── content ──
-- a kind whose rows take content alone, where they may not be empty
pub record ContentKind (h : Kind) : Type 0 where
  pub plain : is_free h ≡ false
  pub filled : (s : Shape) → fits h false s ≡ true → is_content s ≡ true

pub values-content : (p : Part) (ps : List Part) (a : Across) → ContentKind (values p ps a)
values-content p ps a = record { plain = refl; filled = λ s e. or_left (is_content s) false refl e }

circle-content : ContentKind symbol_circle
circle-content = record { plain = refl; filled = λ s e. or_left (is_content s) false refl e }

pub word-content : (n : ℕ) (b : Bytes) → ContentKind (word n b)
word-content n b = record { plain = refl; filled = λ s e. or_left (is_content s) false refl e }

pub serials-content : ContentKind serials
serials-content = record { plain = refl; filled = λ s e. or_left (is_content s) false refl e }

-- what stood behind the key: `=`, some bytes and their place, and what was read of them
pub record ContentRead (k : Known) (h : Kind) (x : Rest) (v : Value) : Type 0 where
  pub at : ℕ
  pub bytes : List ℕ
  pub behind : x ≡ equals at bytes
  pub filled : is_nil bytes ≡ false
  pub long : 2 ≤ rest_size x
  pub read : read_kind k h at bytes ≡ got v

rest_read : (k : Known) (j : ℕ) (r : Rule) (x : Rest) (v : Value) → is_content (shape_of x) ≡ true → read_shape k j r (shape_of x) ≡ got (entry j v) → ContentRead k r.holds x v
rest_read k j r brace v i e = clash i refl
rest_read k j r (equals at []) v i e = clash i refl
rest_read k j r (equals at (b ∷ c)) v i e = by-stem (stem (b ∷ c)) i e
  where
    by-stem : (o : Option (List ℕ)) → is_content (by_stem at (b ∷ c) o) ≡ true → read_shape k j r (by_stem at (b ∷ c) o) ≡ got (entry j v) → ContentRead k r.holds (equals at (b ∷ c)) v
    by-stem None i e =
        let (w, p, q) = map-got (entry j) (read_kind k r.holds at (b ∷ c)) (entry j v) e in
        record { at = at; bytes = b ∷ c; behind = refl; filled = refl; long = omega arith; read = p ∙ ap got (ap value_of q) }
    by-stem (Some []) i e = clash i refl
    by-stem (Some (q ∷ t)) i e = clash i refl

pub content-read : (k : Known) (t : List Rule) (d : Digits) (full : List Bool) (f : Form) (j : ℕ) (v : Value) (x : From k t d full f j (entry j v))
    → ContentKind x.rule.holds → x.rule.may ≡ false → ContentRead k x.rule.holds x.rest v
content-read k t d full f j v x h m =
    let shape : shape_for x.rule x.rest ≡ shape_of x.rest = ap (λ (b : Bool). cond b (free_shape_of x.rest) (shape_of x.rest)) h.plain in
    rest_read k j x.rule x.rest v
    (ap is_content (sym shape) ∙ h.filled (shape_for x.rule x.rest) (subst (λ (b : Bool). fits x.rule.holds b (shape_for x.rule x.rest) ≡ true) m x.did.fit))
    (ap (read_shape k j x.rule) (sym shape) ∙ x.did.read)

-- ── values ──
abbrev pub is_values : Kind → Bool
is_values (values p ps a) = true
is_values (text n b) = false
is_values (word n b) = false
is_values volume_name = false
is_values sheet = false
is_values ratio = false
is_values serials = false
is_values wire_serial = false
is_values symbol_circle = true
is_values nothing = false
is_values (opens i) = false
is_values (headed i p) = false
is_values (either i) = false

read-nums : (k : Known) (h : Kind) (at : ℕ) (c : List ℕ) (v : Value) → is_values h ≡ true → read_kind k h at c ≡ got v → v ≡ nums (nums_of v)
read-nums k (values p ps a) at c v i e = let (w, x, q) = map-got nums (keep 11 (agree a) (read_all k (p ∷ ps) (split 44 c))) v e in subst (λ (y : Value). y ≡ nums (nums_of y)) q refl
read-nums k (text n b) at c v i e = clash i refl
read-nums k (word n b) at c v i e = clash i refl
read-nums k volume_name at c v i e = clash i refl
read-nums k sheet at c v i e = clash i refl
read-nums k ratio at c v i e = clash i refl
read-nums k serials at c v i e = clash i refl
read-nums k wire_serial at c v i e = clash i refl
read-nums k symbol_circle at c v i e = let (w, x, q) = map-got nums (read_circle k (split 44 c)) v e in subst (λ (y : Value). y ≡ nums (nums_of y)) q refl
read-nums k nothing at c v i e = clash i refl
read-nums k (opens n) at c v i e = clash i refl
read-nums k (headed n p) at c v i e = clash i refl
read-nums k (either n) at c v i e = clash i refl

content_of-values : (h : Kind) → is_values h ≡ true → ContentKind h
content_of-values (values p ps a) i = values-content p ps a
content_of-values (text n b) i = clash i refl
content_of-values (word n b) i = clash i refl
content_of-values volume_name i = clash i refl
content_of-values sheet i = clash i refl
content_of-values ratio i = clash i refl
content_of-values serials i = clash i refl
content_of-values wire_serial i = clash i refl
content_of-values symbol_circle i = circle-content
content_of-values nothing i = clash i refl
content_of-values (opens n) i = clash i refl
content_of-values (headed n p) i = clash i refl
content_of-values (either n) i = clash i refl

-- a row of values that may not be empty holds numbers
pub entry-nums : (k : Known) (t : List Rule) (d : Digits) (full : List Bool) (f : Form) (j : ℕ) (v : Value) (x : From k t d full f j (entry j v))
    → is_values x.rule.holds ≡ true → x.rule.may ≡ false → v ≡ nums (nums_of v)
entry-nums k t d full f j v x i m =
    let y = content-read k t d full f j v x (content_of-values x.rule.holds i) m in
    read-nums k x.rule.holds y.at y.bytes v i y.read
