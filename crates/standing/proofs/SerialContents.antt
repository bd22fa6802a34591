-- What a serial's line holds, of a placed symbol and of a wire: an own number, its partners, and bytes enough for them.
use Rattle.std.specs.Prelude.{Some}
use Prim.Native.Nat.{ℕ, suc, ◌+◌, ◌≤◌, ◌<◌}
use mathlib.Core.Bool.{Bool, true, false, cond}
use mathlib.Core.List.{List, [], ◌∷◌}
use mathlib.Core.Path.{◌≡◌, refl, sym, ◌∙◌, ap, subst}
use native.Mathlib.Omega.{arith}
use borrow.Author.Tests.{leb-true}
use lib.Dec.{eqb, leb}
use lib.IntN.{pos}
use lib.ListN.{length, drop}
use Rattle.rules.specs.declared.Digits.{Digits}
use Rattle.rules.specs.declared.LineForm.{LineForm}
use Rattle.rules.specs.Base.{flat, total, is_nil, head_onto, split}
use Rattle.rules.specs.RefusalNumbers.{got, map_g, keep, or_bad, cons_g}
use Rattle.rules.specs.Lines.{Rest, equals, Form, span, bytes_at, form_in}
use Rattle.rules.specs.Numbers.{digit_run, value, read_count}
use Rattle.rules.specs.Values.{Num, num, Value, nums, linked, Known, Kind, serials, wire_serial, natural, most_partners, read_serials, linked_of, read_partner, read_wire_serial, read_kind, amount_at}
use Rattle.rules.specs.Rows.{Rule, is_content, entry}
use Rattle.rules.specs.Sets.{wire_partners}
use Rattle.rules.proofs.Chains.{clash, never, or_left, cond-some, or-got, map-got, keep-got, cons-got}
use Rattle.account.specs.SerialNumbers.{partners_in}
use Rattle.account.proofs.NumberLaws.{serials-partners, serials-short, wire-partners, wire-short, two_digits, three-digits}
use Rattle.standing.specs.Standing.{rest_size, form_size}
use Rattle.standing.specs.Reading.{PlacedRest, PlacedForm}
use Rattle.standing.proofs.LineOrigins.{From, ContentKind, content-read}
use Rattle.standing.proofs.LineSizes.{line-size}
use Rattle.standing.proofs.WordPlaces.{RestHere, rest-here}
use Rattle.standing.proofs.SerialKept.{SerialRead}

-- ── a line's content ──
pub wire-serial-content : ContentKind wire_serial
wire-serial-content = record { plain = refl; filled = λ s e. or_left (is_content s) false refl e }

-- where it stands, and how long its line is
pub record LineContent (spool : List ℕ) (k : Known) (h : Kind) (key line : ℕ) (x : Rest) (v : Value) : Type 0 where
  pub place : ℕ
  pub bytes : List ℕ
  pub behind : x ≡ equals place bytes
  pub read : read_kind k h place bytes ≡ got v
  pub here : bytes ≡ bytes_at spool (span place (length bytes))
  pub low : place < 65536
  pub size : line ≡ key + suc (length bytes)

pub line-content : (spool : List ℕ) (form : LineForm) (k : Known) (t : List Rule) (d : Digits) (full : List Bool) (f : Form) (j : ℕ) (v : Value) (x : From k t d full f j (entry j v)) → f ≡ form_in spool form
    → PlacedForm f → (h : Kind) → ContentKind h → x.rule.holds ≡ h → x.rule.may ≡ false → LineContent spool k h (length x.rule.key) (form_size f) x.rest v
line-content spool form k t d full f j v x e p h content is may =
    let y = content-read k t d full f j v x (subst ContentKind (sym is) content) may in
    let placed : PlacedRest (equals y.at y.bytes) = subst PlacedRest y.behind (subst PlacedForm x.form p) in
    record {
      place = y.at;
      bytes = y.bytes;
      behind = y.behind;
      read = ap (λ (i : Kind). read_kind k i y.at y.bytes) (sym is) ∙ y.read;
      here = subst (RestHere spool) y.behind (rest-here spool form k t d full f j (entry j v) x e);
      low = placed.0;
      size = line-size k t d full f j (entry j v) x ∙ ap (λ (i : Rest). length x.rule.key + rest_size i) y.behind;
    }

-- ── the pieces between the commas ──
split-some : (c : ℕ) (s : List ℕ) → is_nil (split c s) ≡ false
split-some c [] = refl
split-some c (b ∷ s) = go (eqb b c) (split c s)
  where
    go : (t : Bool) (ps : List (List ℕ)) → is_nil (cond t ([] ∷ ps) (head_onto b ps)) ≡ false
    go true ps = refl
    go false [] = refl
    go false (p ∷ ps) = refl

-- each piece but the last has a comma behind it
split-size : (c : ℕ) (s : List ℕ) → total length (split c s) + length (split c s) ≡ suc (length s)
split-size c [] = refl
split-size c (b ∷ s) = go (eqb b c) (split c s) (split-some c s) (split-size c s)
  where
    go : (t : Bool) (ps : List (List ℕ)) → is_nil ps ≡ false → total length ps + length ps ≡ suc (length s)
        → total length (cond t ([] ∷ ps) (head_onto b ps)) + length (cond t ([] ∷ ps) (head_onto b ps)) ≡ suc (suc (length s))
    go true ps h e = omega (arith, e)
    go false [] h e = clash refl h
    go false (p ∷ ps) h e = omega (arith, e)

-- ── numbers and their digits ──
one-digit : (w : ℕ) (p : List ℕ) (n : ℕ) → read_count w p ≡ Some n → 1 ≤ length p
one-digit w [] n e = clash (cond-some (digit_run 1 w []) (value []) n e).0 refl
one-digit w (b ∷ p) n e = omega arith

-- a number whose piece leaves so many bytes of the content to others
module _ (spool : List ℕ) (extra own : ℕ) (partners : List ℕ) (place : ℕ) (c p : List ℕ) (count : read_count 10 p ≡ Some own) (others : length p + extra ≤ length c) where
  digits-read : c ≡ bytes_at spool (span place (length c)) → place < 65536 → length c < 2048 → partners_in c ≡ partners → SerialRead spool extra own partners place c
  digits-read here low short given = record {
    here = here;
    low = low;
    short = short;
    linked = given;
    one = omega (arith, one-digit 10 p own count, others);
    two = λ h. omega (arith, two_digits 10 p own count h, others);
    three = λ h. omega (arith, three-digits 10 p own count h, others);
  }

-- ── of a placed symbol ──
pub record SymbolSerial (spool : List ℕ) (place : ℕ) (c : List ℕ) (v : Value) : Type 0 where
  pub own : ℕ
  pub partners : List ℕ
  pub is : v ≡ linked own partners
  pub read : SerialRead spool 0 own partners place c

abbrev few_partners : List ℕ → Bool
few_partners ns = leb (length ns) (most_partners + 1)

module _ (spool : List ℕ) (place : ℕ) (c : List ℕ) (here : c ≡ bytes_at spool (span place (length c))) (low : place < 65536) where
  -- the bytes of the content are those of its pieces and the commas between them
  pieces-size : (ps : List (List ℕ)) → split 44 c ≡ ps → total length ps + length ps ≡ suc (length c)
  pieces-size ps e = subst (λ (y : List (List ℕ)). total length y + length y ≡ suc (length c)) e (split-size 44 c)

  pub symbol-content : (k : Known) (v : Value) → read_kind k serials place c ≡ got v → SymbolSerial spool place c v
  symbol-content k v e = go (split 44 c) refl read
    where
      whole : (ns : List ℕ) × (keep 11 few_partners (read_serials (split 44 c)) ≡ got ns) × (linked_of ns ≡ v)
      whole = map-got linked_of (keep 11 few_partners (read_serials (split 44 c))) v e

      fitting : (read_serials (split 44 c) ≡ got whole.0) × (few_partners whole.0 ≡ true)
      fitting = keep-got 11 few_partners (read_serials (split 44 c)) whole.0 whole.1

      read : read_serials (split 44 c) ≡ got whole.0
      read = fitting.0

      short : length c < 2048
      short = serials-short c whole.0 read (leb-true (length whole.0) 101 fitting.1)

      go : (ps : List (List ℕ)) → split 44 c ≡ ps → read_serials ps ≡ got whole.0 → SymbolSerial spool place c v
      go [] s f = absurd (omega (arith, pieces-size [] s))
      go (p ∷ ps) s f =
          let u = cons-got (or_bad 10 (read_count 10 p)) (read_serials ps) whole.0 f in
          let count : read_count 10 p ≡ Some u.0 = or-got 10 (read_count 10 p) u.0 u.2 in
          record {
            own = u.0;
            partners = u.1;
            is = sym whole.2 ∙ ap linked_of (sym u.4);
            read =
                digits-read spool 0 u.0 u.1 place c p count (omega (arith, pieces-size (p ∷ ps) s)) here low short (serials-partners c whole.0 read ∙ ap (drop 1) (sym u.4));
          }

  -- ── of a wire ──
  pub wire-content : (k : Known) (v : Value) → read_kind k wire_serial place c ≡ got v → SerialRead spool 2 (amount_at v 0) (wire_partners v) place c
  wire-content k v e =
      let whole = map-got nums (read_wire_serial (split 44 c)) v e in
      subst (λ (y : Value). SerialRead spool 2 (amount_at y 0) (wire_partners y) place c) whole.2 (of-nums whole.0 whole.1)
    where
      of-nums : (ns : List Num) → read_wire_serial (split 44 c) ≡ got ns → SerialRead spool 2 (amount_at (nums ns) 0) (wire_partners (nums ns)) place c
      of-nums ns read = go (split 44 c) refl read
        where
          go : (ps : List (List ℕ)) → split 44 c ≡ ps → read_wire_serial ps ≡ got ns → SerialRead spool 2 (amount_at (nums ns) 0) (wire_partners (nums ns)) place c
          go [] s f = never f
          go (p ∷ []) s f = never f
          go (p ∷ a ∷ []) s f = never f
          go (p ∷ a ∷ b ∷ q ∷ t) s f = never f
          go (p ∷ a ∷ b ∷ []) s f =
              let u = cons-got (natural (or_bad 10 (read_count 10 p))) (map_g flat (cons_g (read_partner a) (cons_g (read_partner b) (got [])))) ns f in
              let own = map-got (λ n. num (pos n)) (or_bad 10 (read_count 10 p)) u.0 u.2 in
              let is : own.0 ≡ amount_at (nums ns) 0 = ap (λ (y : Num). amount_at (nums (y ∷ u.1)) 0) own.2 ∙ ap (λ (y : List Num). amount_at (nums y) 0) u.4 in
              let count : read_count 10 p ≡ Some (amount_at (nums ns) 0) = or-got 10 (read_count 10 p) own.0 own.1 ∙ ap Some is in
              digits-read spool 2 (amount_at (nums ns) 0) (wire_partners (nums ns)) place c p count (omega (arith, pieces-size (p ∷ a ∷ b ∷ []) s)) here low (wire-short c ns read) (wire-partners c ns read)
