-- What a line of a row comes to, and rows whose lines can be skipped.
use Rattle.std.specs.Prelude.{Option, Some, None}
use Prim.Native.Nat.{ℕ}
use mathlib.Core.Bool.{Bool, true, false, cond, ◌&&◌, ◌||◌, not}
use mathlib.Core.List.{List, [], ◌∷◌}
use mathlib.Core.Path.{◌≡◌, refl}
use lib.Dec.{eqb}
use borrow.Author.Tests.{eqb-true}
use Rattle.rules.specs.declared.Digits.{Digits}
use Rattle.rules.specs.Base.{bytes, same, all}
use Rattle.rules.specs.RefusalNumbers.{got}
use Rattle.rules.specs.Lines.{Rest, brace, equals, Shape, opener, no_content, content, opening, formless, stem, by_stem, shape_of, free_shape_of}
use Rattle.rules.specs.RangeClass.{digits, reaches, passes, deeper, skip_shape, skip_of}
use Rattle.rules.specs.Values.{Value, empty, nums, Known, Kind, values, text, word, volume_name, sheet, ratio, serials, wire_serial, symbol_circle, nothing, opens, headed, either, is_free, read_kind}
use Rattle.rules.specs.Rows.{Rule, is_content, is_empty, is_opener, fits, shape_for, Act, stay, entry, begin, shut, refuse, inner_of, read_shape, act_row}
use Rattle.rules.specs.Figures.{placed_table, text_table, wire_table}
use Rattle.rules.proofs.Chains.{and_left, and_right, and_false, clash, cond_same, same-eq, never, map-got}
use Rattle.rules.proofs.Rows.{is_refusal, row-did}
use Rattle.promises.proofs.Lower.{text_least, wire_text_least}

-- ── what a line of a row comes to ──
abbrev entry_shape : Shape → Bool
entry_shape opener = false
entry_shape no_content = true
entry_shape (content at c) = true
entry_shape (opening at c) = false
entry_shape formless = false

abbrev open_shape : Shape → Bool
open_shape opener = true
open_shape no_content = false
open_shape (content at c) = false
open_shape (opening at c) = true
open_shape formless = false

pub data RowAct (d : Digits) (j : ℕ) (r : Rule) (x : Rest) : Act → Type 0 where
  entered : (v : Value) → reaches d r.least ≡ true → entry_shape (shape_for r x) ≡ true → RowAct d j r x (entry j v)
  opened : (v : Value) → reaches d r.least ≡ true → open_shape (shape_for r x) ≡ true → fits r.holds r.may (shape_for r x) ≡ true
      → RowAct d j r x (begin (inner_of r.holds) j v)
  refused : (n : ℕ) → RowAct d j r x (refuse n)

pub row-act : (k : Known) (d : Digits) (full : Bool) (j : ℕ) (r : Rule) (x : Rest) → RowAct d j r x (act_row k d full j r x)
row-act k d full j r x = go (act_row k d full j r x) refl
  where
    by_shape : reaches d r.least ≡ true → (sh : Shape) → shape_for r x ≡ sh → fits r.holds r.may sh ≡ true → (a : Act) → read_shape k j r sh ≡ got a → RowAct d j r x a
    by_shape l opener q f a e = let z : begin (inner_of r.holds) j (nums []) ≡ a = cc in rw (← z) (opened (nums []) l (rw q) (rw q f))
    by_shape l no_content q f a e = let z : entry j empty ≡ a = cc in rw (← z) (entered empty l (rw q))
    by_shape l (content at c) q f a e = let (v, p, z) = map-got (entry j) (read_kind k r.holds at c) a e in rw (← z) (entered v l (rw q))
    by_shape l (opening at c) q f a e =
        let (v, p, z) = map-got (begin (inner_of r.holds) j) (read_kind k r.holds at c) a e in rw (← z) (opened v l (rw q) (rw q f))
    by_shape l formless q f a e = never e

    did : (a : Act) → is_refusal a ≡ false → act_row k d full j r x ≡ a → RowAct d j r x a
    did a n e = let w = row-did k d full j r x a n e in by_shape w.level (shape_for r x) refl w.fit a w.read

    go : (a : Act) → act_row k d full j r x ≡ a → RowAct d j r x a
    go stay e = did stay refl e
    go (entry i v) e = did (entry i v) refl e
    go (begin i m v) e = did (begin i m v) refl e
    go shut e = did shut refl e
    go (refuse n) e = refused n

-- ── rows whose lines can be skipped ──
-- a line that is entered opens nothing where it is skipped: no free text, or `character`
abbrev pub quiet : Rule → Bool
quiet r = not (is_free r.holds) || same r.key (bytes "character")

-- an opener is `key:{`, for a text that is known from the digits t on
abbrev pub opens_text : Digits → Kind → Digits → Bool
opens_text t (values p ps a) l = true
opens_text t (text n b) l = true
opens_text t (word n b) l = true
opens_text t volume_name l = true
opens_text t sheet l = true
opens_text t ratio l = true
opens_text t serials l = true
opens_text t wire_serial l = true
opens_text t symbol_circle l = true
opens_text t nothing l = true
opens_text t (opens i) l = eqb i 1 && (eqb l.middle t.middle && eqb l.last t.last)
opens_text t (headed i p) l = false
opens_text t (either i) l = false

abbrev pub flat_kind : Kind → Bool
flat_kind (values p ps a) = true
flat_kind (text n b) = true
flat_kind (word n b) = true
flat_kind volume_name = true
flat_kind sheet = true
flat_kind ratio = true
flat_kind serials = true
flat_kind wire_serial = true
flat_kind symbol_circle = true
flat_kind nothing = true
flat_kind (opens i) = false
flat_kind (headed i p) = false
flat_kind (either i) = false

pub quiet-passes : (key : List ℕ) (r : Rule) (x : Rest) → same key r.key ≡ true → quiet r ≡ true → entry_shape (shape_for r x) ≡ true → skip_of key x ≡ passes
quiet-passes key r brace s q e = clash e (rw (cond_same (is_free r.holds) opener))
quiet-passes key r (equals at c) s q e = go (is_free r.holds) q e
  where
    by_shape : (sh : Shape) → entry_shape sh ≡ true → skip_shape sh ≡ passes
    by_shape opener e = clash e refl
    by_shape no_content e = refl
    by_shape (content at c) e = refl
    by_shape (opening at c) e = clash e refl
    by_shape formless e = clash e refl

    go : (f : Bool) → (not f || same r.key (bytes "character")) ≡ true → entry_shape (cond f (free_shape_of (equals at c)) (shape_of (equals at c))) ≡ true → skip_of key (equals at c) ≡ passes
    go true q e = rw (same-eq key r.key s, q)
    go false q e = rw (by_shape (shape_of (equals at c)) e) (cond_same (same key (bytes "character")) passes)

-- an opener is neither content nor empty
no-content : (sh : Shape) (may : Bool) → open_shape sh ≡ true → (is_content sh || (may && is_empty sh)) ≡ false
no-content opener may e = rw (and_false may)
no-content no_content may e = clash e refl
no-content (content at c) may e = clash e refl
no-content (opening at c) may e = rw (and_false may)
no-content formless may e = clash e refl

no-empty : (sh : Shape) → open_shape sh ≡ true → is_empty sh ≡ false
no-empty opener e = refl
no-empty no_content e = clash e refl
no-empty (content at c) e = refl
no-empty (opening at c) e = refl
no-empty formless e = refl

-- an opened row of a placed symbol or of a wire is its text, and where it is skipped it opens
pub record Opens (t : Digits) (r : Rule) (key : List ℕ) (x : Rest) : Type 0 where
  pub inner : inner_of r.holds ≡ 1
  pub least : r.least ≡ t
  pub skips : skip_of key x ≡ deeper

pub opens-text : (l : Digits) (key : List ℕ) (r : Rule) (x : Rest) → opens_text l r.holds r.least ≡ true → open_shape (shape_for r x) ≡ true → fits r.holds r.may (shape_for r x) ≡ true → Opens l r key x
opens-text l key r x t o f = go r.holds refl t f
  where
    is-brace : (x : Rest) → is_opener (shape_for r x) ≡ true → skip_of key x ≡ deeper
    is-brace brace e = refl
    is-brace (equals at c) e = clash e (not-opener at c (is_free r.holds))
      where
        by-stem : (at : ℕ) (c : List ℕ) (s : Option (List ℕ)) → is_opener (by_stem at c s) ≡ false
        by-stem at c None = refl
        by-stem at c (Some []) = refl
        by-stem at c (Some (b ∷ t)) = refl

        not-opener : (at : ℕ) (c : List ℕ) (f : Bool) → is_opener (cond f (free_shape_of (equals at c)) (shape_of (equals at c))) ≡ false
        not-opener at [] true = refl
        not-opener at [] false = refl
        not-opener at (b ∷ c) true = refl
        not-opener at (b ∷ c) false = by-stem at (b ∷ c) (stem (b ∷ c))

    go : (h : Kind) → r.holds ≡ h → opens_text l h r.least ≡ true → fits h r.may (shape_for r x) ≡ true → Opens l r key x
    go (values p ps a) q t f = clash f (no-content (shape_for r x) r.may o)
    go (text n b) q t f = clash f (no-content (shape_for r x) r.may o)
    go (word n b) q t f = clash f (no-content (shape_for r x) r.may o)
    go volume_name q t f = clash f (no-content (shape_for r x) r.may o)
    go sheet q t f = clash f (no-content (shape_for r x) r.may o)
    go ratio q t f = clash f (no-content (shape_for r x) r.may o)
    go serials q t f = clash f (no-content (shape_for r x) r.may o)
    go wire_serial q t f = clash f (no-content (shape_for r x) r.may o)
    go symbol_circle q t f = clash f (no-content (shape_for r x) r.may o)
    go nothing q t f = clash f (no-empty (shape_for r x) o)
    go (opens i) q t f =
        let one = eqb-true i 1 (and_left (eqb i 1) _ t) in
        let m = eqb-true r.least.middle l.middle (and_left (eqb r.least.middle l.middle) _ (and_right (eqb i 1) _ t)) in
        let z = eqb-true r.least.last l.last (and_right (eqb r.least.middle l.middle) _ (and_right (eqb i 1) _ t)) in
        record { inner = rw q one; least = λ i. digits (m i) (z i); skips = is-brace x f }
    go (headed i p) q t f = clash t refl
    go (either i) q t f = clash t refl

pub flat-opens : (h : Kind) (may : Bool) (sh : Shape) → flat_kind h ≡ true → open_shape sh ≡ true → fits h may sh ≡ true → ⊥
flat-opens (values p ps a) may sh t o f = clash f (no-content sh may o)
flat-opens (text n b) may sh t o f = clash f (no-content sh may o)
flat-opens (word n b) may sh t o f = clash f (no-content sh may o)
flat-opens volume_name may sh t o f = clash f (no-content sh may o)
flat-opens sheet may sh t o f = clash f (no-content sh may o)
flat-opens ratio may sh t o f = clash f (no-content sh may o)
flat-opens serials may sh t o f = clash f (no-content sh may o)
flat-opens wire_serial may sh t o f = clash f (no-content sh may o)
flat-opens symbol_circle may sh t o f = clash f (no-content sh may o)
flat-opens nothing may sh t o f = clash f (no-empty sh o)
flat-opens (opens i) may sh t o f = clash t refl
flat-opens (headed i p) may sh t o f = clash t refl
flat-opens (either i) may sh t o f = clash t refl

-- ── the tables, computed ──
pub quiet-rows : all quiet placed_table ≡ true
unfolding placed_table
quiet-rows = refl

pub text-rows : all (λ r. opens_text text_least r.holds r.least) placed_table ≡ true
unfolding placed_table
text-rows = refl

pub quiet-wire : all quiet wire_table ≡ true
unfolding wire_table
quiet-wire = refl

pub text-wire : all (λ r. opens_text wire_text_least r.holds r.least) wire_table ≡ true
unfolding wire_table
text-wire = refl

-- a text's own rows, wherever its numbers go
pub quiet-texts : (p q : ℕ) → all quiet (text_table true p q) ≡ true
unfolding text_table
quiet-texts p q = refl

pub flat-texts : (p q : ℕ) → all (λ r. flat_kind r.holds) (text_table true p q) ≡ true
unfolding text_table
flat-texts p q = refl
