-- Which lines a table's rows can open: a table without openers begins no block, one of openers alone enters nothing.
use Prim.Native.Nat.{ℕ}
use mathlib.Core.Bool.{Bool, true, false, ◌&&◌, ◌||◌}
use mathlib.Core.List.{List, []}
use mathlib.Core.Path.{◌≡◌, refl, sym, ap}
use lib.ListN.{get_or}
use Rattle.rules.specs.declared.Digits.{Digits}
use Rattle.rules.specs.Base.{all}
use Rattle.rules.specs.RefusalNumbers.{got, bad, unless}
use Rattle.rules.specs.Lines.{Rest, Form, ignored, wrong, close, eof, keyed, Shape, opener, no_content, content, opening, formless, has_form, shape_of}
use Rattle.rules.specs.Values.{Known, empty, nums, Kind, values, text, word, volume_name, sheet, ratio, serials, wire_serial, symbol_circle, nothing, opens, headed, either, read_kind}
use Rattle.rules.specs.Rows.{Rule, Found, absent, found, find, is_content, is_empty, is_opener, is_opening, fits, shape_for, Act, stay, entry, begin, shut, refuse, or_refuse, inner_of, read_shape, act_row, act_unknown, act_found, complete, act}
use Rattle.rules.proofs.Chains.{clash, map-got, never, or_true, by_cond}
use Rattle.rules.proofs.Rows.{found-row, row-all, is_refusal, Did, row-did}

abbrev pub is_begin : Act → Bool
is_begin stay = false
is_begin (entry j v) = false
is_begin (begin i j v) = true
is_begin shut = false
is_begin (refuse n) = false

abbrev pub is_entry : Act → Bool
is_entry stay = false
is_entry (entry j v) = true
is_entry (begin i j v) = false
is_entry shut = false
is_entry (refuse n) = false

-- rows whose lines open nothing, and rows whose lines all open a block
abbrev pub plain_kind : Kind → Bool
plain_kind (values p ps a) = true
plain_kind (text n b) = true
plain_kind (word n b) = true
plain_kind volume_name = true
plain_kind sheet = true
plain_kind ratio = true
plain_kind serials = true
plain_kind wire_serial = true
plain_kind symbol_circle = true
plain_kind nothing = true
plain_kind (opens i) = false
plain_kind (headed i p) = false
plain_kind (either i) = false

abbrev pub opening_kind : Kind → Bool
opening_kind (values p ps a) = false
opening_kind (text n b) = false
opening_kind (word n b) = false
opening_kind volume_name = false
opening_kind sheet = false
opening_kind ratio = false
opening_kind serials = false
opening_kind wire_serial = false
opening_kind symbol_circle = false
opening_kind nothing = false
opening_kind (opens i) = true
opening_kind (headed i p) = true
opening_kind (either i) = false

-- ── by shape ──
abbrev pub opens_shape : Shape → Bool
opens_shape s = is_opener s || is_opening s

empty-shape : (s : Shape) → is_empty s ≡ true → opens_shape s ≡ false
empty-shape opener e = clash e refl
empty-shape no_content e = refl
empty-shape (content at c) e = refl
empty-shape (opening at c) e = clash e refl
empty-shape formless e = refl

plain-shape : (may : Bool) (s : Shape) → (is_content s || (may && is_empty s)) ≡ true → opens_shape s ≡ false
plain-shape true opener e = clash e refl
plain-shape false opener e = clash e refl
plain-shape may no_content e = refl
plain-shape may (content at c) e = refl
plain-shape true (opening at c) e = clash e refl
plain-shape false (opening at c) e = clash e refl
plain-shape may formless e = refl

pub plain_fits : (d : Kind) (may : Bool) (s : Shape) → plain_kind d ≡ true → fits d may s ≡ true → opens_shape s ≡ false
plain_fits (values p ps a) may s h e = plain-shape may s e
plain_fits (text n b) may s h e = plain-shape may s e
plain_fits (word n b) may s h e = plain-shape may s e
plain_fits volume_name may s h e = plain-shape may s e
plain_fits sheet may s h e = plain-shape may s e
plain_fits ratio may s h e = plain-shape may s e
plain_fits serials may s h e = plain-shape may s e
plain_fits wire_serial may s h e = plain-shape may s e
plain_fits symbol_circle may s h e = plain-shape may s e
plain_fits nothing may s h e = empty-shape s e
plain_fits (opens i) may s h e = clash h refl
plain_fits (headed i p) may s h e = clash h refl
plain_fits (either i) may s h e = clash h refl

opening-fits : (d : Kind) (may : Bool) (s : Shape) → opening_kind d ≡ true → fits d may s ≡ true → opens_shape s ≡ true
opening-fits (values p ps a) may s h e = clash h refl
opening-fits (text n b) may s h e = clash h refl
opening-fits (word n b) may s h e = clash h refl
opening-fits volume_name may s h e = clash h refl
opening-fits sheet may s h e = clash h refl
opening-fits ratio may s h e = clash h refl
opening-fits serials may s h e = clash h refl
opening-fits wire_serial may s h e = clash h refl
opening-fits symbol_circle may s h e = clash h refl
opening-fits nothing may s h e = clash h refl
opening-fits (opens i) may s h e = rw e
opening-fits (headed i p) may s h e = rw e (or_true (is_opener s))
opening-fits (either i) may s h e = clash h refl

-- what a line of that shape does
pub read-entry : (k : Known) (j : ℕ) (r : Rule) (s : Shape) (a : Act) → opens_shape s ≡ false → read_shape k j r s ≡ got a → is_begin a ≡ false
read-entry k j r opener a h e = clash refl h
read-entry k j r no_content a h e = let q : entry j empty ≡ a = cc in ap is_begin (sym q)
read-entry k j r (content at c) a h e = let m = map-got (entry j) (read_kind k r.holds at c) a e in ap is_begin (sym m.2)
read-entry k j r (opening at c) a h e = clash refl h
read-entry k j r formless a h e = never e

read-begin : (k : Known) (j : ℕ) (r : Rule) (s : Shape) (a : Act) → opens_shape s ≡ true → read_shape k j r s ≡ got a → is_entry a ≡ false
read-begin k j r opener a h e = let q : begin (inner_of r.holds) j (nums []) ≡ a = cc in ap is_entry (sym q)
read-begin k j r no_content a h e = clash h refl
read-begin k j r (content at c) a h e = clash h refl
read-begin k j r (opening at c) a h e = let m = map-got (begin (inner_of r.holds) j) (read_kind k r.holds at c) a e in ap is_entry (sym m.2)
read-begin k j r formless a h e = never e

-- ── over a table ──
-- no line of a table of rows K acts as P says, where no refusal does and no line of such a row
module _ (P : Act → Bool) (K : Kind → Bool) (quiet : (n : ℕ) → P (refuse n) ≡ false)
    (reads : (k : Known) (d : Digits) (full : Bool) (j : ℕ) (r : Rule) (x : Rest) (a : Act) → K r.holds ≡ true → Did k d full j r x a → P a ≡ false) where
  refusal-quiet : (a : Act) → is_refusal a ≡ true → P a ≡ false
  refusal-quiet stay e = clash e refl
  refusal-quiet (entry j v) e = clash e refl
  refusal-quiet (begin i j v) e = clash e refl
  refusal-quiet shut e = clash e refl
  refusal-quiet (refuse n) e = quiet n

  row-quiet : (k : Known) (d : Digits) (full : Bool) (j : ℕ) (r : Rule) (x : Rest) → K r.holds ≡ true → P (act_row k d full j r x) ≡ false
  row-quiet k d full j r x h = go (is_refusal (act_row k d full j r x)) refl
    where
      go : (b : Bool) → is_refusal (act_row k d full j r x) ≡ b → P (act_row k d full j r x) ≡ false
      go true e = refusal-quiet (act_row k d full j r x) e
      go false e = reads k d full j r x (act_row k d full j r x) h (row-did k d full j r x (act_row k d full j r x) e refl)

  unknown-quiet : (x : Rest) → P (act_unknown x) ≡ false
  unknown-quiet x = go (has_form (shape_of x))
    where
      go : (b : Bool) → P (or_refuse (unless b 5 (bad 6))) ≡ false
      go true = quiet 6
      go false = quiet 5

  pub found-quiet : (k : Known) (t : List Rule) (d : Digits) (full : List Bool) (key : List ℕ) (x : Rest) → all (λ r. K r.holds) t ≡ true → P (act_found k d full x (find key t)) ≡ false
  found-quiet k t d full key x h = go (find key t) refl
    where
      go : (f : Found) → find key t ≡ f → P (act_found k d full x f) ≡ false
      go absent e = unknown-quiet x
      go (found j r) e = row-quiet k d (get_or full j false) j r x (row-all (λ r. K r.holds) (found-row key t j r e).0 h)

-- a table without openers begins no block
pub no-begin : (k : Known) (t : List Rule) (d : Digits) (full : List Bool) (f : Form) → all (λ r. plain_kind r.holds) t ≡ true → is_begin (act k t d full f) ≡ false
no-begin k t d full ignored h = refl
no-begin k t d full (wrong n) h = refl
no-begin k t d full close h = by_cond (λ a. is_begin a ≡ false) (complete d t full) (λ q. refl) (λ q. refl)
no-begin k t d full eof h = refl
no-begin k t d full (keyed key x) h =
    found-quiet is_begin plain_kind (λ n. refl) (λ k d full j r x a p w. read-entry k j r (shape_for r x) a (plain_fits r.holds r.may (shape_for r x) p w.fit) w.read) k t d full key x h

-- one of openers alone enters nothing
pub no-entry : (k : Known) (t : List Rule) (d : Digits) (full : List Bool) (f : Form) → all (λ r. opening_kind r.holds) t ≡ true → is_entry (act k t d full f) ≡ false
no-entry k t d full ignored h = refl
no-entry k t d full (wrong n) h = refl
no-entry k t d full close h = by_cond (λ a. is_entry a ≡ false) (complete d t full) (λ q. refl) (λ q. refl)
no-entry k t d full eof h = refl
no-entry k t d full (keyed key x) h =
    found-quiet is_entry opening_kind (λ n. refl) (λ k d full j r x a p w. read-begin k j r (shape_for r x) a (opening-fits r.holds r.may (shape_for r x) p w.fit) w.read) k t d full key x h
