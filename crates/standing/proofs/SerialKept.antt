-- A line of a serial, of a placed symbol or of a wire: one more own number is kept, with its partners, and its block's bytes are spent.
--
-- How it is used, for either block: `symbol-content` or `wire-content` (file SerialContents) makes a `SerialRead` of the line's content;
-- with what the block says of itself before and behind the line it makes a `SerialTaken`. `number-used` then tells that the code's test is the
-- definition's, and where the number is new `serial-stands` gives the standing behind the line; what is left to say is the block's own: its
-- marks, its scratch, how much of it counts, and that it is open. For a wire `extra` is 2 (its commas), `opener` 10, `none_yet` and `one` come
-- from `wire_links` of the slot `wire_serial_row` before and behind the line, `due` and `spent` from `due_of 10` of it.
use Prim.Native.Nat.{ℕ, suc, ◌+◌, ◌*◌, ◌≤◌, ◌<◌}
use mathlib.Core.Bool.{Bool, true, false, cond, ◌&&◌, ◌||◌, not}
use mathlib.Core.List.{List, [], ◌∷◌, ◌++◌, append-nil}
use mathlib.Core.Path.{◌≡◌, refl, sym, ◌∙◌, ap, subst}
use native.Mathlib.Omega.{arith}
use borrow.Author.Tests.{ltb-false}
use lib.Dec.{eqb, ltb}
use lib.IntN.{ℤ}
use lib.ListN.{length, get_or, set, take, drop, length-append}
use Rattle.rules.specs.declared.Class.{Class}
use Rattle.rules.specs.declared.Span.{Span}
use Rattle.rules.specs.Base.{all, has_number}
use Rattle.rules.specs.Lines.{span, bytes_at}
use Rattle.rules.specs.Rows.{Held}
use Rattle.rules.specs.Sets.{Figure, Set, own_serial}
use Rattle.rules.specs.Machine.{State, Owned, placing}
use Rattle.rules.specs.PlacedSymbol.{none_of, numbers_so_far}
use Rattle.rules.proofs.Chains.{all_append}
use Rattle.account.specs.declared.Now.{Now}
use Rattle.account.specs.Numbering.{tally_serials, most_rows, rows_text}
use Rattle.account.specs.SerialNumbers.{places, lengths, kept_number, own_of, owns_of, ascending, place_for, bytes_lent, inserted, kept_among, serial_count, in_use, partners_in, partners_at, all_partners}
use Rattle.account.proofs.NumberLaws.{own-kept, span-back, has-inserted, ascending-inserted, all_inserted, take-among, length-among, place-inserted, place-most}
use Rattle.standing.specs.Kept.{Scratch}
use Rattle.standing.specs.Standing.{Desk, links_with, links_of, owned_links, owns_in, partners_of, Numbers, open_figures, owned_bytes, tally_of, layers_of, Inside, Stands}
use Rattle.standing.proofs.MoreRecords.{flat_map_more}
use Rattle.standing.proofs.ScratchKept.{scratch-long}
use Rattle.standing.proofs.LinkLaws.{links-own}

-- a number is the only one of its kind, or one of those in use
pub one_of : (n : ℕ) (used : List ℕ) → none_of (n ∷ []) used ≡ not (has_number n used)
one_of n used = go (has_number n used)
  where
    go : (b : Bool) → (not b && true) ≡ not b
    go true = refl
    go false = refl

-- ── what was read ──
-- the content c at a place of the spool: an own number and its partners. extra: how many of its bytes are no own number's
pub record SerialRead (spool : List ℕ) (extra own : ℕ) (partners : List ℕ) (place : ℕ) (c : List ℕ) : Type 0 where
  pub here : c ≡ bytes_at spool (span place (length c))
  pub low : place < places
  pub short : length c < lengths
  pub linked : partners_in c ≡ partners
  pub one : 1 + extra ≤ length c
  pub two : 10 ≤ own → 2 + extra ≤ length c
  pub three : 100 ≤ own → 3 + extra ≤ length c

-- what is lent to a number that has not three digits
abbrev lent_to : ℕ → ℕ
lent_to own = cond (ltb own 10) 1 0 + cond (ltb own 100) 1 0

lent-size : (spool : List ℕ) (extra own : ℕ) (partners : List ℕ) (place : ℕ) (c : List ℕ) → SerialRead spool extra own partners place c → 3 + extra ≤ length c + lent_to own
lent-size spool extra own partners place c r = go (ltb own 10) (ltb own 100) refl refl
  where
    go : (a b : Bool) → ltb own 10 ≡ a → ltb own 100 ≡ b → 3 + extra ≤ length c + (cond a 1 0 + cond b 1 0)
    go true true e f = omega (arith, r.one)
    go true false e f = omega (arith, r.three (ltb-false own 100 f))
    go false true e f = omega (arith, r.two (ltb-false own 10 e))
    go false false e f = omega (arith, r.three (ltb-false own 100 f))

-- ── one more among the kept ──
or-last : (n own : ℕ) (a : List ℕ) → (eqb n own || has_number n a) ≡ has_number n (a ++ own ∷ [])
or-last n own [] = refl
or-last n own (m ∷ a) = swap (eqb n own) (eqb n m) (has_number n a) ∙ ap (λ (t : Bool). eqb n m || t) (or-last n own a)
  where
    swap : (x y z : Bool) → (x || (y || z)) ≡ (y || (x || z))
    swap true true z = refl
    swap true false z = refl
    swap false true z = refl
    swap false false z = refl

and-swap : (x y : Bool) → (x && y) ≡ (y && x)
and-swap true true = refl
and-swap true false = refl
and-swap false true = refl
and-swap false false = refl

module _ (spool ks : List ℕ) (links : List (List ℕ)) (z : Numbers spool ks links) (extra own : ℕ) (partners : List ℕ) (place : ℕ) (c : List ℕ)
    (r : SerialRead spool extra own partners place c) where
  abbrev at : Span
  at = span place (length c)

  abbrev kept : ℕ
  kept = kept_number own at

  its_own : own_of kept ≡ own
  its_own = own-kept own at

  its-partners : partners_at spool kept ≡ partners
  its-partners = ap (λ (q : Span). partners_in (bytes_at spool q)) (span-back own at r.low r.short) ∙ ap partners_in (sym r.here) ∙ r.linked

  numbers_more : has_number own (owns_in links) ≡ false → Numbers spool (inserted kept ks) (links ++ (own ∷ partners) ∷ [])
  numbers_more new = record {
    ordered = ascending-inserted kept ks z.ordered (ap (λ (i : ℕ). has_number i (owns_of ks)) its_own ∙ z.owns own ∙ new);
    owns = λ n.
        has-inserted n kept ks ∙ ap (λ (i : ℕ). eqb n i || has_number n (owns_of ks)) its_own ∙ ap (λ (t : Bool). eqb n own || t) (z.owns n) ∙ or-last n own (owns_in links)
        ∙ ap (has_number n) (sym (flat_map_more own_serial links (own ∷ partners)));
    partners = λ found.
        all_inserted found (partners_at spool) kept ks ∙ ap (λ (u : List ℕ). all found u && all found (all_partners spool ks)) its-partners
        ∙ ap (λ (t : Bool). all found partners && t) (z.partners found) ∙ and-swap (all found partners) (all found (partners_of links))
        ∙ sym (all_append found (partners_of links) partners) ∙ ap (all found) (sym (flat_map_more (λ (l : List ℕ). drop 1 l) links (own ∷ partners)));
  }

  lent-more : bytes_lent (inserted kept ks) ≡ bytes_lent ks + lent_to own
  lent-more =
      let ten = place-inserted 10 kept ks ∙ ap (λ (i : ℕ). place_for 10 ks + cond (ltb i 10) 1 0) its_own in
      let hundred = place-inserted 100 kept ks ∙ ap (λ (i : ℕ). place_for 100 ks + cond (ltb i 100) 1 0) its_own in
      omega (arith, ten, hundred)

-- ── how many are kept ──
module _ (c : Class) (spool : List ℕ) (k : ℕ) (d : Desk) (FileHere : Set → ℕ → Held → ℕ → Type 0) (at : ℕ) (st : State) (z : Stands c spool k d FileHere at st) where
  abbrev ks : List ℕ
  ks = take (length (links_of st)) d.serials

  pub serials-count : serial_count d.tally ≡ length (links_of st)
  serials-count = ap (λ (t : List ℕ). get_or t tally_serials 0) z.tally

  -- there is room for another
  pub serials-few : at ≤ 61440 → length (links_of st) < length d.serials
  serials-few h = omega (arith, z.numbered, place-most 10 ks z.serials.ordered, place-most 100 ks z.serials.ordered, z.lengths.serials, h)

  -- those that the code goes by
  pub kept-ordered : ascending (take (serial_count d.tally) d.serials) ≡ true
  kept-ordered = ap (λ (i : ℕ). ascending (take i d.serials)) serials-count ∙ z.serials.ordered

-- ── the line ──
-- in a block that was o before it and is o' behind it: `serial=` and the content
pub record SerialTaken (spool : List ℕ) (at to n : ℕ) (o o' : Owned) (own : ℕ) (partners : List ℕ) (place : ℕ) (content : List ℕ) : Type 0 where
  pub extra : ℕ
  pub opener : ℕ
  pub read : SerialRead spool extra own partners place content
  pub none_yet : owned_links n o ≡ []
  pub one : owned_links n o' ≡ (own ∷ partners) ∷ []
  pub due : owned_bytes o ≡ 3 + opener
  pub spent : owned_bytes o' ≡ 0
  pub whole : opener + extra ≡ 12
  pub bytes : at + (7 + length content) + 2 ≤ to
  pub most : to ≤ 61442

-- what is lent behind it: one more is kept
abbrev pub serial_desk : Desk → ℕ → Now → List Bool → List Bool → List ℤ → Desk
serial_desk d kept now marks inner t = record {
  now = now;
  tally = set d.tally tally_serials (serial_count d.tally + 1);
  symbols = d.symbols;
  layers = d.layers;
  serials = kept_among (serial_count d.tally) kept d.serials;
  used = d.used;
  used_all = d.used_all;
  marks = marks;
  inner = inner;
  header = d.header;
  scratch = t;
}

module _ (c : Class) (spool : List ℕ) (k : ℕ) (FileHere : Desk → Set → ℕ → Held → ℕ → Type 0) (d : Desk) (at to : ℕ) (s : Set) (m : ℕ) (fs : List Figure) (n : ℕ) (o o' : Owned) (p p' : ℕ)
    (z : Stands c spool k d (FileHere d) at (placing s m fs n o p)) (own : ℕ) (partners : List ℕ) (place : ℕ) (content : List ℕ)
    (x : SerialTaken spool at to n o o' own partners place content) where
  abbrev st : State
  st = placing s m fs n o p

  abbrev st' : State
  st' = placing s m fs n o' p'

  abbrev links : List (List ℕ)
  links = links_with s fs

  abbrev more : List (List ℕ)
  more = links ++ (own ∷ partners) ∷ []

  before : links_of st ≡ links
  before = ap (λ (y : List (List ℕ)). links ++ y) x.none_yet ∙ append-nil links

  behind : links_of st' ≡ more
  behind = ap (λ (y : List (List ℕ)). links ++ y) x.one

  count : serial_count d.tally ≡ length links
  count = serials-count c spool k d (FileHere d) at st z ∙ ap length before

  numbers : Numbers spool (take (length links) d.serials) links
  numbers = subst (λ (y : List (List ℕ)). Numbers spool (take (length y) d.serials) y) before z.serials

  few : length links < length d.serials
  few = omega (arith, ap length before, serials-few c spool k d (FileHere d) at st z (omega (arith, x.bytes, x.most)))

  -- the code's test of an own number is the definition's
  pub number-used : in_use d.tally d.serials own ≡ has_number own (numbers_so_far s fs)
  number-used = ap (λ (i : ℕ). has_number own (owns_of (take i d.serials))) count ∙ numbers.owns own ∙ ap (has_number own) (links-own s fs)

  abbrev kept-now : ℕ
  kept-now = kept_number own (span place (length content))

  grown : length more ≡ length links + 1
  grown = length-append links ((own ∷ partners) ∷ [])

  -- the kept numbers behind the line
  kept-is : take (length more) (kept_among (serial_count d.tally) kept-now d.serials) ≡ inserted kept-now (take (length links) d.serials)
  kept-is =
      let up : length more ≡ suc (length links) = omega (arith, grown) in
      ap (λ (i : ℕ). take i (kept_among (serial_count d.tally) kept-now d.serials)) up
      ∙ ap (λ (i : ℕ). take (suc (length links)) (kept_among i kept-now d.serials)) count ∙ take-among (length links) kept-now d.serials few

  spent-now : 27 * length more + 0 ≤ to + 3 + bytes_lent (inserted kept-now (take (length links) d.serials))
  spent-now =
      let credit : 27 * length links + owned_bytes o ≤ at + 3 + bytes_lent (take (length links) d.serials) =
      subst (λ (y : List (List ℕ)). 27 * length y + owned_bytes o ≤ at + 3 + bytes_lent (take (length y) d.serials)) before z.numbered in
      let lent = lent-more spool (take (length links) d.serials) links numbers x.extra own partners place content x.read in
      omega (arith, credit, lent, grown, x.due, x.whole, x.bytes, lent-size spool x.extra own partners place content x.read)

  module _ (new : has_number own (numbers_so_far s fs) ≡ false) (now : Now) (marks inner : List Bool) (t : List ℤ) where
    abbrev d₁ : Desk
    d₁ = serial_desk d kept-now now marks inner t

    pub serial-stands : length marks ≡ most_rows → length inner ≡ rows_text → Scratch t st' → open_figures st' ≤ open_figures st → Inside c spool k d₁ (FileHere d₁) st' → Stands c spool k d₁ (FileHere d₁) to st'
    serial-stands lm li scratch counted block = record {
      lengths = record {
        symbols = z.lengths.symbols;
        layers = z.lengths.layers;
        serials =
            ap (λ (i : ℕ). length (kept_among i kept-now d.serials)) count ∙ length-among (length links) kept-now d.serials few ∙ z.lengths.serials;
        used = z.lengths.used;
        used_all = z.lengths.used_all;
        marks = lm;
        inner = li;
        header = z.lengths.header;
        scratch = scratch-long t st' scratch;
      };
      scratch = scratch;
      here = z.here;
      this = z.this;
      tally =
          let up : length (links_of st) + 1 ≡ length (links_of st') = ap (λ (y : List (List ℕ)). length y + 1) before ∙ sym grown ∙ ap length (sym behind) in
          ap (λ (u : List ℕ). set u tally_serials (serial_count u + 1)) z.tally ∙ ap (tally_of s z.here (length (layers_of st))) up;
      symbols = z.symbols;
      layers = z.layers;
      few-layers = z.few-layers;
      serials =
          subst (λ (y : List (List ℕ)). Numbers spool (take (length y) d₁.serials) y) (sym behind)
          (subst (λ (y : List ℕ). Numbers spool y more) (sym kept-is)
          (numbers_more spool (take (length links) d.serials) links numbers x.extra own partners place content x.read (ap (has_number own) (links-own s fs) ∙ new)));
      used = z.used;
      used_all = z.used_all;
      counted = omega (arith, z.counted, counted, x.bytes);
      named = omega (arith, z.named, x.bytes);
      numbered =
          subst (λ (y : List (List ℕ)). 27 * length y + owned_bytes o' ≤ to + 3 + bytes_lent (take (length y) d₁.serials)) (sym behind)
          (subst (λ (y : List ℕ). 27 * length more + owned_bytes o' ≤ to + 3 + bytes_lent y) (sym kept-is) (subst (λ (y : ℕ). 27 * length more + y ≤ to + 3 + bytes_lent (inserted kept-now (take (length links) d.serials))) (sym x.spent) spent-now));
      block = block;
    }
