-- One value between commas: what the code tests of a number that was read, and the definition's reading of the form.
use Rattle.std.specs.Prelude.{Option, Some, None, Result, Ok, Err}
use Prim.Native.Nat.{ℕ, suc, ◌+◌, ◌<◌, ◌≤◌, zero-le}
use mathlib.Core.Path.{◌≡◌, refl, ap, ◌∙◌}
use mathlib.Core.Bool.{Bool, true, false, cond}
use mathlib.Core.List.{List, [], ◌∷◌}
use native.Mathlib.Omega.{arith}
use lib.Dec.{eqb}
use lib.IntN.{ℤ, pos}
use lib.ListN.{length, take}
use borrow.Author.Tests.{le-leb, lt-ltb, le-ltb}
use Rattle.rules.specs.Base.{same, map_o, index_of, within}
use Rattle.rules.specs.RefusalNumbers.{Got, got, unless, map_g, or_bad, keep}
use Rattle.rules.specs.Numbers.{read_count, read_fixed, is_day, read_decimal}
use Rattle.rules.specs.Values.{num, natural, equal_z, in_bound, whole_turn, Known, Part, read_part}
use Rattle.leaves.specs.Readings.{reading_of, kept, read_up_to_eight, read_day}
use Rattle.leaves.specs.Bytes.{up_to}
use Rattle.leaves.specs.Pieces.{decimal_piece}
use Rattle.leaves.specs.declared.DecimalPiece.{DecimalPiece}
use Rattle.leaves.proofs.Cuts.{up_to-take}
use Rattle.tables.specs.Rows.{bound_of, whole_of, decimal_of}
use Rattle.leaves.proofs.Bounds.{count-below, fixed-below, day-below}
use Rattle.entries.specs.Names.{index_from}
use Rattle.entries.specs.Parts.{val_of, count_val, reading_val, decimal_val, index_val, PieceIs}

-- ── the forms ──
-- limits that the form keeps anyway
free-val : (hi m : ℕ) (o : Option ℕ) → ((n : ℕ) → o ≡ Some n → n ≤ hi) → count_val (within 0 hi) m (o) ≡ val_of (natural (or_bad 10 o))
free-val hi m None h = refl
free-val hi m (Some n) h = rw (le-leb 0 n zero-le, le-leb n hi (h n refl))

or_kept : (p : ℕ → Bool) (o : Option ℕ) → or_bad 10 (kept p o) ≡ keep 10 p (or_bad 10 o)
or_kept p None = refl
or_kept p (Some n) = go (p n)
  where
    go : (t : Bool) → or_bad 10 (cond t (Some n) None) ≡ unless t 10 (got n)
    go true = refl
    go false = refl

module _ (s : List ℕ) where
  pub count-val : count_val (within 0 999999999) 10 (read_count 9 s) ≡ val_of (natural (or_bad 10 (read_count 9 s)))
  count-val = free-val 999999999 10 (read_count 9 s) (λ (n : ℕ) (e : (read_count 9 s) ≡ Some n). let h = count-below 9 s n e in omega (arith, h))

  pub kind-val : count_val (within 0 9999) 10 (read_up_to_eight 4 s) ≡ val_of (natural (or_bad 10 (read_fixed 4 s)))
  kind-val = free-val 9999 10 (read_fixed 4 s) (λ (n : ℕ) (e : (read_fixed 4 s) ≡ Some n). let h = fixed-below 4 s n e in omega (arith, h))

  pub day-val : count_val (within 0 99999999) 10 (read_day s) ≡ val_of (natural (keep 10 is_day (or_bad 10 (read_fixed 8 s))))
  day-val =
      free-val 99999999 10 (read_day s) (λ (n : ℕ) (e : (read_day s) ≡ Some n). let h = day-below s n e in omega (arith, h))
      ∙ ap (λ (g : Got ℕ). val_of (natural g)) (or_kept is_day (read_fixed 8 s))

reading-val : (p : ℤ → Bool) (m : ℕ) (o : Option ℤ) → reading_val p m (reading_of o) ≡ val_of (map_g num (keep m p (or_bad 10 o)))
reading-val p m None = refl
reading-val p m (Some z) = go (p z)
  where
    go : (t : Bool) → cond t (Ok z) (Err m) ≡ val_of (map_g num (unless t m (got z)))
    go true = refl
    go false = refl

-- a decimal by its form
pub decimal-val : (k : Known) (code : ℕ) (s : List ℕ) → decimal_val code (reading_of (read_decimal s)) ≡ val_of (read_part k (decimal_of code) s)
decimal-val k code s =
    let P : Result ℤ ℕ → Part → Type 0 = λ v d. v ≡ val_of (read_part k d s) in
    by_both P (eqb code 25) (reading-val (equal_z (pos 0)) 10 (read_decimal s))
    (by_both P (eqb code 26) (reading-val (equal_z (pos whole_turn)) 10 (read_decimal s)) (reading-val (in_bound (bound_of code)) 11 (read_decimal s)))
  where
    by_both : (P : Result ℤ ℕ → Part → Type 0) (t : Bool) {v w : Result ℤ ℕ} {d e : Part} → P v d → P w e → P (cond t v w) (cond t d e)
    by_both P true h k = h
    by_both P false h k = k

-- ── names ──
abbrev index_is : ℕ → Option ℕ → Option ℕ
index_is i None = None
index_is i (Some n) = Some (i + n)

index-next : (i : ℕ) (o : Option ℕ) → index_is (suc i) o ≡ index_is i (map_o suc o)
index-next i None = refl
index-next i (Some n) = let e : suc i + n ≡ i + suc n = omega arith in rw e

index-from : (k : List ℕ) (us : List (List ℕ)) (i : ℕ) → index_from i k us ≡ index_is i (index_of k us)
unfolding index_from
index-from k [] i = refl
index-from k (u ∷ us) i = go (same k u) (index-from k us (suc i))
  where
    here : i ≡ i + 0
    here = omega arith

    go : (t : Bool) → index_from (suc i) k us ≡ index_is (suc i) (index_of k us) → cond t (Some i) (index_from (suc i) k us) ≡ index_is i (cond t (Some 0) (map_o suc (index_of k us)))
    go true h = ap Some here
    go false h = h ∙ index-next i (index_of k us)

pub index-val : (m : ℕ) (k : List ℕ) (us : List (List ℕ)) → index_val m (index_from 0 k us) ≡ val_of (natural (or_bad m (index_of k us)))
index-val m k us = ap (index_val m) (index-from k us 0) ∙ go (index_of k us)
  where
    go : (o : Option ℕ) → index_val m (index_is 0 o) ≡ val_of (natural (or_bad m o))
    go None = refl
    go (Some n) = let e : 0 + n ≡ n = omega arith in rw e

-- ── the piece in front ──
module _ (k : Known) (code : ℕ) (c : List ℕ) (v : Result ℤ ℕ) where
  pub decimal-told : (d : DecimalPiece) → 20 ≤ code → d ≡ decimal_piece c → v ≡ decimal_val code d.reading → PieceIs k code c (record { val = v; end = d.end })
  unfolding decimal_piece
  decimal-told d h e r = record {
    val = r ∙ ap (λ (d : DecimalPiece). decimal_val code d.reading) e ∙ rw (le-ltb code 20 h) (decimal-val k code (up_to 44 c));
    end = ap (λ (d : DecimalPiece). d.end) e;
  }

  pub whole-told : (e : ℕ) → code < 20 → e ≡ length (up_to 44 c) → v ≡ val_of (read_part k (whole_of code) (take e c)) → PieceIs k code c (record { val = v; end = e })
  whole-told e h q r = record {
    val = r ∙ rw (lt-ltb code 20 h) (ap (λ (u : List ℕ). val_of (read_part k (whole_of code) u)) (ap (λ (n : ℕ). take n c) q ∙ up_to-take 44 c));
    end = q;
  }
