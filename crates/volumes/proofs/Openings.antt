-- A line that opens a block: its row is one that opens a block, and has not been read.
use Prim.Native.Nat.{ℕ}
use mathlib.Core.Bool.{Bool, true, false, cond}
use mathlib.Core.List.{List, map}
use mathlib.Core.Path.{◌≡◌, refl, ap, subst}
use lib.ListN.{get_or}
use Rattle.rules.specs.declared.Digits.{Digits}
use Rattle.rules.specs.RefusalNumbers.{got, bad, unless}
use Rattle.rules.specs.Lines.{Form, ignored, wrong, close, eof, keyed, Shape, opener, no_content, content, opening, formless, has_form, shape_of}
use Rattle.rules.specs.Values.{Value, empty, Known, Kind, values, text, word, volume_name, sheet, ratio, serials, wire_serial, symbol_circle, nothing, opens, headed, either, read_kind}
use Rattle.rules.specs.Rows.{Rule, Found, absent, found, find, fits, shape_for, Act, stay, entry, begin, shut, refuse, or_refuse, inner_of, read_shape, act_found, complete, act}
use Rattle.rules.proofs.Chains.{and_false, by_cond, clash, map-got, never}
use Rattle.rules.proofs.Rows.{Row, here, there, found-row, row-did}

abbrev pub opens_kind : Kind → Bool
opens_kind (values p ps a) = false
opens_kind (text n b) = false
opens_kind (word n b) = false
opens_kind volume_name = false
opens_kind sheet = false
opens_kind ratio = false
opens_kind serials = false
opens_kind wire_serial = false
opens_kind symbol_circle = false
opens_kind nothing = false
opens_kind (opens i) = true
opens_kind (headed i p) = true
opens_kind (either i) = true

-- a shape with a brace fits no other kind
opener-kind : (d : Kind) (may : Bool) → fits d may opener ≡ true → opens_kind d ≡ true
opener-kind (values p ps a) may e = clash e (and_false may)
opener-kind (text n b) may e = clash e (and_false may)
opener-kind (word n b) may e = clash e (and_false may)
opener-kind volume_name may e = clash e (and_false may)
opener-kind sheet may e = clash e (and_false may)
opener-kind ratio may e = clash e (and_false may)
opener-kind serials may e = clash e (and_false may)
opener-kind wire_serial may e = clash e (and_false may)
opener-kind symbol_circle may e = clash e (and_false may)
opener-kind nothing may e = clash e refl
opener-kind (opens i) may e = refl
opener-kind (headed i p) may e = refl
opener-kind (either i) may e = refl

opening-kind : (d : Kind) (may : Bool) (at : ℕ) (c : List ℕ) → fits d may (opening at c) ≡ true → opens_kind d ≡ true
opening-kind (values p ps a) may at c e = clash e (and_false may)
opening-kind (text n b) may at c e = clash e (and_false may)
opening-kind (word n b) may at c e = clash e (and_false may)
opening-kind volume_name may at c e = clash e (and_false may)
opening-kind sheet may at c e = clash e (and_false may)
opening-kind ratio may at c e = clash e (and_false may)
opening-kind serials may at c e = clash e (and_false may)
opening-kind wire_serial may at c e = clash e (and_false may)
opening-kind symbol_circle may at c e = clash e (and_false may)
opening-kind nothing may at c e = clash e refl
opening-kind (opens i) may at c e = refl
opening-kind (headed i p) may at c e = refl
opening-kind (either i) may at c e = refl

abbrev is_begin : Act → Bool
is_begin stay = false
is_begin (entry j v) = false
is_begin (begin i j v) = true
is_begin shut = false
is_begin (refuse n) = false

-- the row of a line that opened a block
pub record Opened (t : List Rule) (full : List Bool) (j : ℕ) : Type 0 where
  pub rule : Rule
  pub row : Row t j rule
  pub opens-block : opens_kind rule.holds ≡ true
  pub free : get_or full j false ≡ false

module _ {i j : ℕ} {v : Value} where
  none-begun : {P : Type 0} (a : Act) → is_begin a ≡ false → a ≡ begin i j v → P
  none-begun a h e = clash (ap is_begin e) h

  shape-opens : (k : Known) (m : ℕ) (r : Rule) (s : Shape) → fits r.holds r.may s ≡ true → read_shape k m r s ≡ got (begin i j v) → (m ≡ j) × (opens_kind r.holds ≡ true)
  shape-opens k m r opener f e = (cc, opener-kind r.holds r.may f)
  shape-opens k m r no_content f e = let q : entry m empty ≡ begin i j v = cc in none-begun (entry m empty) refl q
  shape-opens k m r (content at c) f e = let (w, p, q) = map-got (entry m) (read_kind k r.holds at c) _ e in none-begun (entry m w) refl q
  shape-opens k m r (opening at c) f e = let (w, p, q) = map-got (begin (inner_of r.holds) m) (read_kind k r.holds at c) _ e in (cc, opening-kind r.holds r.may at c f)
  shape-opens k m r formless f e = never e

  pub act-opens : (k : Known) (t : List Rule) (d : Digits) (full : List Bool) (f : Form) → act k t d full f ≡ begin i j v → Opened t full j
  act-opens k t d full ignored e = none-begun stay refl e
  act-opens k t d full (wrong n) e = none-begun (refuse n) refl e
  act-opens k t d full close e = none-begun (cond (complete d t full) shut (refuse 8)) (by_cond (λ a. is_begin a ≡ false) (complete d t full) (λ _. refl) (λ _. refl)) e
  act-opens k t d full eof e = none-begun (refuse 9) refl e
  act-opens k t d full (keyed key c) e = go (find key t) refl e
    where
      unknown : (b : Bool) → is_begin (or_refuse (unless b 5 (bad 6))) ≡ false
      unknown true = refl
      unknown false = refl

      go : (g : Found) → find key t ≡ g → act_found k d full c g ≡ begin i j v → Opened t full j
      go absent p e = none-begun (or_refuse (unless (has_form (shape_of c)) 5 (bad 6))) (unknown (has_form (shape_of c))) e
      go (found m r) p e =
          let did = row-did k d (get_or full m false) m r c (begin i j v) refl e in
          let (same, o) = shape-opens k m r (shape_for r c) did.fit did.read in
          record {
            rule = r;
            row = subst (λ (n : ℕ). Row t n r) same (found-row key t m r p).0;
            opens-block = o;
            free = subst (λ (n : ℕ). get_or full n false ≡ false) same did.open_yet;
          }

-- a test that a row passes, among all rows' tests
pub row_test : (p : Rule → Bool) {t : List Rule} {j : ℕ} {r : Rule} → Row t j r → p r ≡ true → get_or (map p t) j false ≡ true
row_test p here e = e
row_test p (there w) e = row_test p w e
