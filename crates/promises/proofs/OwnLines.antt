-- The line that a figure came of, by the spool's volumes and their lines: its number, its key, its content, and what is read of that.
use Rattle.std.specs.Prelude.{Some}
use Prim.Native.Nat.{ℕ, suc, ◌+◌}
use mathlib.Core.Bool.{Bool, true, false}
use mathlib.Core.List.{List, [], ◌∷◌, ◌++◌}
use mathlib.Core.Path.{◌≡◌, refl, sym, ◌∙◌, ap, subst}
use native.Mathlib.Omega.{arith}
use lib.Dec.{eqb}
use lib.IntN.{ℤ, pos}
use lib.ListN.{length, get_or}
use borrow.Author.Tests.{not-true}
use Rattle.rules.specs.declared.Digits.{Digits}
use Rattle.rules.specs.Base.{is_nil, same}
use Rattle.rules.specs.RefusalNumbers.{got, bad, unless}
use Rattle.rules.specs.Spool.{Volume, volumes_of, lines_of}
use Rattle.rules.specs.Lines.{unindent, allowed, Scan, neither, at_equal, at_brace, scan, Rest, brace, equals, Form, ignored, wrong, close, eof, keyed, with_key, form_from, form_of_rest, form_of, Shape, has_form, shape_of}
use Rattle.rules.specs.Values.{Num, Value, nums, Known, is_free, nums_of, read_kind}
use Rattle.rules.specs.Rows.{Rule, Found, absent, found, find, fits, shape_for, Act, stay, entry, begin, shut, refuse, or_refuse, inner_of, read_shape, act_row, act_unknown, act_found, complete, act}
use Rattle.rules.specs.Lines.{opener, no_content, content, opening, formless}
use Rattle.rules.specs.Machine.{Line}
use Rattle.rules.specs.RecordTable.{rule_at}
use Rattle.rules.specs.FixedForm.{Text}
use Rattle.rules.specs.Answers.{numbered, next_name}
use Rattle.rules.proofs.Chains.{and_left, and_right, by_cond, clash, never, map-got, same-eq}
use Rattle.rules.proofs.Rows.{found-row, row_at, row-did}
use Rattle.promises.specs.TableTexts.{number_at}
use Rattle.promises.specs.Turns.{Item, first, later, OwnLine}
use Rattle.promises.proofs.Came.{Came, Lines}
use Rattle.promises.proofs.Forms.{by-choose, Cuts, scan-cuts}
use Rattle.promises.proofs.InvRows.{only_numbers, not-empty}
use Rattle.promises.proofs.RowGood.{Seen, opened, hollow, filled, heading, unformed, seen, numbers_only}
use Rattle.promises.proofs.Sizes.{listing, Texts}

-- ── a line's form says what stands in it: a key, `=`, and the rest ──
abbrev Says : List ℕ → Form → Type 0
Says u ignored = Unit {0}
Says u (wrong n) = Unit {0}
Says u close = Unit {0}
Says u eof = Unit {0}
Says u (keyed k brace) = Unit {0}
Says u (keyed k (equals at c)) = u ≡ k ++ 61 ∷ c

key_says : (u k : List ℕ) (r : Rest) → Says u (keyed k r) → Says u (with_key k r)
key_says u [] r h = tt
key_says u (b ∷ k) r h = h

from_says : (u : List ℕ) (end : ℕ) (z : Scan) → Cuts u z → Says u (form_from u end z)
from_says u end neither e = by_cond (Says u) (same u _) (λ _. tt) (λ _. by_cond (Says u) (same u _) (λ _. tt) (λ _. tt))
from_says u end (at_equal k c) e = key_says u k (equals _ c) e
from_says u end (at_brace k c) e = by_cond (Says u) (is_nil c) (λ _. key_says u k brace tt) (λ _. tt)

rest_says : (u : List ℕ) (end : ℕ) → Says u (form_of_rest u end)
rest_says [] end = tt
rest_says (b ∷ u) end = by_cond (Says (b ∷ u)) (allowed (b ∷ u)) (λ _. from_says (b ∷ u) end (scan (b ∷ u)) (scan-cuts (b ∷ u))) (λ _. tt)

form_says : (at : ℕ) (l : List ℕ) → Says (unindent l) (form_of at l)
unfolding form_of
form_says at [] = tt
form_says at (b ∷ s) = by-choose (Says (unindent (b ∷ s))) (eqb b 35) _ _ (λ _. tt) (λ _. rest_says (unindent (b ∷ s)) (at + length (b ∷ s)))

-- ── the lines of a spool's volumes ──
-- what stands in line n of volume k, without the blanks before it
pub record Told (vs : List Volume) (k n : ℕ) (text : List ℕ) : Type 0 where
  pub volume : Volume
  pub there : Item vs k volume
  pub lines : Text
  pub cut : lines_of volume.body ≡ Some lines
  pub line : List ℕ
  pub within : Item lines n line
  pub stands : unindent line ≡ text

-- said of lines `key=..` alone
abbrev pub Has : List Volume → ℕ → ℕ → Form → Type 0
Has vs k n ignored = Unit {0}
Has vs k n (wrong m) = Unit {0}
Has vs k n close = Unit {0}
Has vs k n eof = Unit {0}
Has vs k n (keyed key brace) = Unit {0}
Has vs k n (keyed key (equals at c)) = Told vs k n (key ++ 61 ∷ c)

-- the items of a list that are the last ones of another, d behind its first
abbrev Within : {A : Type 0} → List A → ℕ → List A → Type 0
Within {A} s d whole = (m : ℕ) (a : A) → Item s m a → (n : ℕ) → n ≡ m + d → Item whole n a

within_all : {A : Type 0} (s : List A) → Within s 0 s
within_all s m a i n e = let z : m ≡ n = omega (arith, e) in subst (λ (k : ℕ). Item s k a) z i

within-rest : {A : Type 0} (b : A) (s : List A) (d : ℕ) (whole : List A) → Within (b ∷ s) d whole → Within s (suc d) whole
within-rest b s d whole h m a i n e = h (suc m) a (later i) n (omega (arith, e))

module _ (whole : List Volume) (k : ℕ) (v : Volume) (there : Item whole k v) (lines : Text) (cut : lines_of v.body ≡ Some lines) where
  line_has : (n : ℕ) (l : List ℕ) → Item lines n l → (f : Form) → Says (unindent l) f → Has whole k n f
  line_has n l i ignored s = tt
  line_has n l i (wrong m) s = tt
  line_has n l i close s = tt
  line_has n l i eof s = tt
  line_has n l i (keyed key brace) s = tt
  line_has n l i (keyed key (equals at c)) s = record { volume = v; there = there; lines = lines; cut = cut; line = l; within = i; stands = s }

  numbered_have : (next : List ℕ) (d n at : ℕ) → n ≡ suc d → (t : Text) → Within t d lines → (more : List Line) → Lines (Has whole) more → Lines (Has whole) (numbered k next n at t ++ more)
  numbered_have next d n at e [] h more m = m
  numbered_have next d n at e (l ∷ t) h more m = (
    line_has n l (h 1 l first n (omega (arith, e))) (form_of at l) (form_says at l),
    numbered_have next (suc d) (suc n) (at + length l + 2) (omega (arith, e)) t (within-rest l t d lines h) more m,
  )

listing_has : (whole : List Volume) (d k : ℕ) → k ≡ suc d → (vs : List Volume) (ts : List Text) → Texts vs ts → Within vs d whole → Lines (Has whole) (listing k vs ts)
listing_has whole d k e [] ts h w = tt
listing_has whole d k e (v ∷ vs) [] h w = tt
listing_has whole d k e (v ∷ vs) ([] ∷ ts) h w = (tt, listing_has whole (suc d) (suc k) (omega (arith, e)) vs ts h.1 (within-rest v vs d whole w))
listing_has whole d k e (v ∷ vs) ((l ∷ t) ∷ ts) h w =
    numbered_have whole k v (w 1 v first k (omega (arith, e))) (l ∷ t) h.0 (next_name vs) 0 1 v.place refl (l ∷ t) (within_all (l ∷ t)) (listing (suc k) vs ts)
    (listing_has whole (suc d) (suc k) (omega (arith, e)) vs ts h.1 (within-rest v vs d whole w))

pub lines_have : (vs : List Volume) (ts : List Text) → Texts vs ts → Lines (Has vs) (listing 1 vs ts)
lines_have vs ts h = listing_has vs 0 1 refl vs ts h (within_all vs)

-- ── a line that enters a row of numbers has the row's key and a content, which reads as what is entered ──
abbrev is_entry : Act → Bool
is_entry stay = false
is_entry (entry j v) = true
is_entry (begin i j v) = false
is_entry shut = false
is_entry (refuse n) = false

no-entry : {P : Type 0} (a : Act) (j : ℕ) (v : Value) → is_entry a ≡ false → a ≡ entry j v → P
no-entry a j v n e = clash (ap is_entry e) n

-- the row's number
read-row : (k : Known) (i : ℕ) (r : Rule) (s : Shape) (j : ℕ) (v : Value) → read_shape k i r s ≡ got (entry j v) → i ≡ j
read-row k i r opener j v e = let z : begin (inner_of r.holds) i (nums []) ≡ entry j v = cc in no-entry _ j v refl z
read-row k i r no_content j v e = cc
read-row k i r (content at c) j v e = let (u, g, q) = map-got (entry i) (read_kind k r.holds at c) (entry j v) e in cc
read-row k i r (opening at c) j v e = let (u, g, q) = map-got (begin (inner_of r.holds) i) (read_kind k r.holds at c) (entry j v) e in no-entry _ j v refl q
read-row k i r formless j v e = never e

-- its content
abbrev Content : Known → Rule → Value → Rest → Type 0
Content k r v x = (at : ℕ) × (c : List ℕ) × (x ≡ equals at c) × (read_kind k r.holds at c ≡ got v)

read-content : (k : Known) (i : ℕ) (r : Rule) (x : Rest) (s : Shape) (j : ℕ) (v : Value) → Seen (is_free r.holds) x s → read_shape k i r s ≡ got (entry j v)
    → fits r.holds r.may s ≡ true → fits r.holds r.may no_content ≡ false → Content k r v x
read-content k i r x s j v opened e f n = let z : begin (inner_of r.holds) i (nums []) ≡ entry j v = cc in no-entry _ j v refl z
read-content k i r x s j v hollow e f n = clash f n
read-content k i r x s j v (filled {at = at} {c = c} p q) e f n =
    let (u, g, z) = map-got (entry i) (read_kind k r.holds at c) (entry j v) e in
    let is : u ≡ v = cc in
    (at, c, refl, g ∙ ap got is)
read-content k i r x s j v (heading {at = at} {t = t} p) e f n =
    let (u, g, z) = map-got (begin (inner_of r.holds) i) (read_kind k r.holds at t) (entry j v) e in no-entry _ j v refl z
read-content k i r x s j v unformed e f n = never e

pub record EntryLine (k : Known) (q : Rule) (form : Form) (v : Value) : Type 0 where
  pub at : ℕ
  pub content : List ℕ
  pub is : form ≡ keyed q.key (equals at content)
  pub reads : read_kind k q.holds at content ≡ got v

did_line : (k : Known) (i : ℕ) (r : Rule) (key : List ℕ) (x : Rest) (j : ℕ) (v : Value) → same key r.key ≡ true → only_numbers r ≡ true → read_shape k i r (shape_for r x) ≡ got (entry j v)
    → fits r.holds r.may (shape_for r x) ≡ true → EntryLine k r (keyed key x) v
did_line k i r key x j v named only e f =
    let kind = and_left (numbers_only r.holds) _ only in
    let must = not-empty r.holds r.may kind (not-true r.may (and_right (numbers_only r.holds) _ only)) in
    go (read-content k i r x (shape_for r x) j v (seen (is_free r.holds) x) e f must)
  where
    go : Content k r v x → EntryLine k r (keyed key x) v
    go (at, c, rest, g) = record { at = at; content = c; is = ap (λ (y : List ℕ). keyed y x) (same-eq key r.key named) ∙ ap (keyed r.key) rest; reads = g }

module _ (k : Known) (t : List Rule) (d : Digits) (full : List Bool) (j : ℕ) (v : Value) (only : only_numbers (rule_at t j) ≡ true) where
  found-line : (key : List ℕ) (x : Rest) (i : ℕ) (r : Rule) → find key t ≡ found i r → act_row k d (get_or full i false) i r x ≡ entry j v → EntryLine k (rule_at t j) (keyed key x) v
  found-line key x i r p e =
      let w = row-did k d (get_or full i false) i r x (entry j v) refl e in
      let (row, named) = found-row key t i r p in
      let rule : r ≡ rule_at t j = sym (row_at row _) ∙ ap (rule_at t) (read-row k i r (shape_for r x) j v w.read) in
      subst (λ (q : Rule). EntryLine k q (keyed key x) v) rule (did_line k i r key x j v named (ap only_numbers rule ∙ only) w.read w.fit)

  pub entry-line : (form : Form) → act k t d full form ≡ entry j v → EntryLine k (rule_at t j) form v
  entry-line ignored e = no-entry stay j v refl e
  entry-line (wrong n) e = no-entry (refuse n) j v refl e
  entry-line close e = no-entry _ j v (by_cond (λ a. is_entry a ≡ false) (complete d t full) (λ _. refl) (λ _. refl)) e
  entry-line eof e = no-entry (refuse 9) j v refl e
  entry-line (keyed key x) e = go (find key t) refl e
    where
      go : (f : Found) → find key t ≡ f → act_found k d full x f ≡ entry j v → EntryLine k (rule_at t j) (keyed key x) v
      go absent p e = no-entry (act_unknown x) j v (refused (has_form (shape_of x))) e
        where
          refused : (b : Bool) → is_entry (or_refuse (unless b 5 (bad 6))) ≡ false
          refused true = refl
          refused false = refl
      go (found i r) p e = found-line key x i r p e

-- ── a figure's own line ──
pub record FromLine (spool : List ℕ) (r : List ℤ) (q : Rule) (v : List Num) : Type 0 where
  pub content : List ℕ
  pub own : OwnLine spool r (q.key ++ 61 ∷ content)
  pub known : Known
  pub at : ℕ
  pub value : Value
  pub reads : read_kind known q.holds at content ≡ got value
  pub numbers : nums_of value ≡ v

pub from-line : (spool : List ℕ) (vs : List Volume) → volumes_of spool ≡ Some vs → (t : List Rule) (k n j : ℕ) (v : List Num) → only_numbers (rule_at t j) ≡ true → Came (Has vs) k t n j v
    → (r : List ℤ) → number_at r 2 ≡ pos k → number_at r 3 ≡ pos n → FromLine spool r (rule_at t j) v
from-line spool vs is t k n j v only c r p q =
    let w = entry-line c.known t c.range c.full j c.value only c.form c.entered in
    let told : Told vs k n ((rule_at t j).key ++ 61 ∷ w.content) = subst (Has vs k n) w.is c.stands in
    record {
      content = w.content;
      own =
          record {
            volumes = vs;
            found = is;
            number = k;
            shown = p;
            volume = told.volume;
            there = told.there;
            lines = told.lines;
            cut = told.cut;
            line_number = n;
            line_shown = q;
            line = told.line;
            within = told.within;
            stands = told.stands;
          };
      known = c.known;
      at = w.at;
      value = c.value;
      reads = w.reads;
      numbers = c.numbers;
    }
