-- How many numbers a content has: as many as its row has places.
use Rattle.std.specs.Prelude.{Option, Some, None}
use Prim.Native.Nat.{ℕ, zero, suc}
use mathlib.Core.Path.{◌≡◌, refl, ap, sym, ◌∙◌}
use mathlib.Core.Bool.{Bool, true, false, ◌&&◌}
use mathlib.Core.List.{List, [], ◌∷◌, ◌++◌, map}
use native.Mathlib.Omega.{arith}
use lib.Dec.{eqb, leb}
use lib.IntN.{ℤ}
use lib.ListN.{length, length-append}
use lib.Seq.{sets}
use Rattle.rules.specs.Base.{all, split}
use Rattle.rules.specs.RefusalNumbers.{Got, got, bad, unless, map_g, or_bad, keep}
use Rattle.rules.specs.Values.{Num, Known, Value, nums, chars, Kind, values, text, word, volume_name, sheet, ratio, serials, wire_serial, symbol_circle, nothing, opens, headed, either, read_kind, read_part, range, read_all, read_wire_serial, arc_of_circle, arc_parts, whole_parts, no_turn, read_circle, read_ratio, find_sheet, sheets, agree, byte_in, letters_and_digits, capital}
use Rattle.rules.specs.RecordTable.{numbers, given, columns, padded, put_numbers, put_state, put_slot}
use Rattle.rules.specs.Rows.{Rule}
use Rattle.rules.proofs.Chains.{by_cond}
use Rattle.entries.specs.Entering.{On, plainly}
use Rattle.entries.specs.Acts.{place_of, put_line}
use Rattle.entries.proofs.EachValue.{long-all, map-long}
use Rattle.entries.proofs.ByKind.{on-linked_in, Two, OnSome, sheets-two, ratio-two}
use Rattle.entries.proofs.WireSerials.{wire-long}

pub padded_exact : (n : ℕ) (zs : List ℤ) → length zs ≡ n → padded n zs ≡ zs
padded_exact zero [] e = refl
padded_exact zero (z ∷ zs) e = absurd (omega arith)
padded_exact (suc n) [] e = absurd (omega arith)
padded_exact (suc n) (z ∷ zs) e = ap (λ (u : List ℤ). z ∷ u) (padded_exact n zs (omega arith))

-- a value that fills n places
abbrev pub Fills : ℕ → Value → Type 0
Fills n v = padded n (numbers v) ≡ numbers v

nums-fill : (n : ℕ) (v : List Num) → length v ≡ n → Fills n (nums v)
nums-fill n v e = padded_exact n (plainly v) (map-long v ∙ e)

keep-fill : (q : List Num → Bool) (g : Got (List Num)) (n : ℕ) → On (λ v. length v ≡ n) g → On (Fills n) (map_g nums (keep 11 q g))
keep-fill q (bad m) n h = tt
keep-fill q (got v) n h = go (q v)
  where
    go : (t : Bool) → On (Fills n) (map_g nums (unless t 11 (got v)))
    go true = nums-fill n v h
    go false = tt

unless-fill : (t : Bool) (n m : ℕ) (v : Value) → Fills n v → On (Fills n) (unless t m (got v))
unless-fill true n m v h = h
unless-fill false n m v h = tt

two-fill : (v : List Num) → Two v → Fills 2 (nums v)
two-fill v h = nums-fill 2 v (ap length h)

sheet-fill : (o : Option (List Num)) → OnSome o → On (Fills 2) (map_g nums (or_bad 11 o))
sheet-fill None h = tt
sheet-fill (Some v) h = two-fill v h

ratio-fill : (g : Got (List Num)) → On Two g → On (Fills 2) (map_g nums g)
ratio-fill (got v) h = two-fill v h
ratio-fill (bad n) h = tt

all-fill : (n : ℕ) (g : Got (List Num)) → On (λ v. length v ≡ n) g → On (Fills n) (map_g nums g)
all-fill n (got v) h = nums-fill n v h
all-fill n (bad m) h = tt

-- seven numbers, or six and the turn that was not written
pub circle-long : (k : Known) (ss : List (List ℕ)) → On (λ v. length v ≡ 7) (read_circle k ss)
circle-long k ss =
    by_cond (On (λ v. length v ≡ 7)) (eqb (length ss) 6) (λ _. turned (read_all k whole_parts ss) (long-all k whole_parts ss))
    (λ _. kept (read_all k arc_parts ss) (long-all k arc_parts ss))
  where
    turned : (g : Got (List Num)) → On (λ v. length v ≡ 6) g → On (λ v. length v ≡ 7) (map_g (λ v. v ++ no_turn ∷ []) g)
    turned (got v) h = length-append v (no_turn ∷ []) ∙ omega (arith, h)
    turned (bad n) h = tt

    kept : (g : Got (List Num)) → On (λ v. length v ≡ 7) g → On (λ v. length v ≡ 7) (keep 11 (agree arc_of_circle) g)
    kept (got v) h = on-unless (agree arc_of_circle v)
      where
        on-unless : (t : Bool) → On (λ w. length w ≡ 7) (unless t 11 (got v))
        on-unless true = h
        on-unless false = tt
    kept (bad n) h = tt

one-fill : (g : Got Num) → On (Fills 1) (map_g (λ n. nums (n ∷ [])) g)
one-fill (got n) = refl
one-fill (bad m) = tt

pub kind-fills : (k : Known) (d : Kind) (at : ℕ) (c : List ℕ) → On (Fills (columns d)) (read_kind k d at c)
kind-fills k (values p ps a) at c = keep-fill (agree a) (read_all k (p ∷ ps) (split 44 c)) (suc (length ps)) (long-all k (p ∷ ps) (split 44 c))
kind-fills k (text n b) at c = unless-fill (all (byte_in b) c && leb (length c) n) 2 11 (chars at c) refl
kind-fills k (word n b) at c = unless-fill (all (byte_in b) c && leb (length c) n) 2 11 (chars at c) refl
kind-fills k volume_name at c = unless-fill (all (byte_in letters_and_digits) c) 2 11 (chars at (map capital c)) refl
kind-fills k sheet at c = sheet-fill (find_sheet c sheets) (sheets-two c sheets)
kind-fills k ratio at c = ratio-fill (read_ratio c) (ratio-two c)
kind-fills k serials at c = on-linked_in (Fills 2) (λ _ _. refl) c
kind-fills k wire_serial at c = all-fill 5 (read_wire_serial (split 44 c)) (wire-long (split 44 c))
kind-fills k symbol_circle at c = all-fill 7 (read_circle k (split 44 c)) (circle-long k (split 44 c))
kind-fills k nothing at c = tt
kind-fills k (opens i) at c = tt
kind-fills k (headed i p) at c = one-fill (read_part k p c)
kind-fills k (either i) at c = one-fill (read_part k (range 0 1) c)

-- ── a line's numbers are its slot's ──
-- a row with a place of its own
pub line-slot : (r : Rule) (dump : ℕ) (v : Value) (t : List ℤ) → (r.place ≡ 0 → ⊥) → Fills (columns r.holds) v → put_line r dump v t ≡ put_slot r (Some v) t
line-slot r dump v t h e = ap (put_state r.state (given v)) (go r.place h ∙ ap (λ (zs : List ℤ). put_numbers r.place zs t) (sym e))
  where
    go : (p : ℕ) → (p ≡ 0 → ⊥) → sets t (place_of p dump) (numbers v) ≡ put_numbers p (numbers v) t
    go zero h = absurd (h refl)
    go (suc p) h = refl
