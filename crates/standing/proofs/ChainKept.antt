-- A `successive` on the scratch: with one more point, and at its end.
use Rattle.std.specs.Prelude.{Some}
use Prim.Native.Nat.{ℕ, ◌+◌, ◌*◌, ◌-◌}
use mathlib.Core.Bool.{Bool, true, cond}
use mathlib.Core.List.{List, [], ◌∷◌, ◌++◌, append-nil, append_assoc}
use mathlib.Core.Path.{◌≡◌, refl, sym, ◌∙◌, ap, subst}
use native.Mathlib.Omega.{arith}
use borrow.Author.Tests.{eq-eqb, ne_eqb}
use lib.Dec.{eqb}
use lib.IntN.{ℤ, pos}
use lib.ListN.{length, get_or, set, take, drop, length-append, length-set, length-take, take-append-drop, get_or-append}
use lib.Seq.{get_or-append-add, set-append_left, take_at, drop-drop}
use Rattle.rules.specs.declared.Class.{Class}
use Rattle.rules.specs.Base.{flat}
use Rattle.rules.specs.Values.{Num, value_at, nums}
use Rattle.rules.specs.Figures.{point_table}
use Rattle.rules.specs.Sets.{Point, Figure, chain, Set, with_records}
use Rattle.rules.specs.Machine.{Home, figures, successive}
use Rattle.rules.specs.RecordTable.{rule_at, start, put_slot, point_records, first_type, chain_record}
use Rattle.rules.proofs.Chains.{flat_append}
use Rattle.account.specs.Records.{part_at, with_part}
use Rattle.standing.specs.SoFar.{home_owner, home_volume, home_more, home_figure, empty_record}
use Rattle.standing.specs.Kept.{home_shut, figures_shut, shut_so_far, figure_open, Scratch, Fills}
use Rattle.standing.proofs.LaidTables.{part_of}
use Rattle.standing.proofs.ForeParts.{long-part, part-long}
use Rattle.standing.proofs.MoreRecords.{flat_map_more}
use Rattle.standing.proofs.OpenRecords.{chain-figure}
use Rattle.standing.proofs.LinesKept.{point_record, point-long, points-size}
use Rattle.standing.proofs.ClearedKept.{first_typed, later_typed}

-- ── one more point ──
-- the type of a point is in its record
type_of : (v : List Num) (kind owner volume line : ℕ) → get_or (put_slot (rule_at (point_table true) 0) (Some (nums v)) (start kind owner volume line)) 4 (pos 0) ≡ value_at v 0
unfolding point_table
type_of [] kind owner volume line = refl
type_of (n ∷ v) kind owner volume line = refl

-- what a point's line leaves of the two records that are lent
pub record Pointed (r own point : List ℤ) : Type 0 where
  pub long : length r ≡ 64
  pub chain : part_at 0 r ≡ own
  pub behind : part_at 32 r ≡ point

-- The first point's type goes to the record of the `successive`, which stands before the point's. t: the two records before the line.
module _ (s : Set) (ks : List ℕ) (h : Home) (fs : List Figure) (n : ℕ) (kind owner volume : ℕ) (p : Point) (t : List ℤ) (k : length t ≡ 64) where
  abbrev point : List ℤ
  point = point_record kind owner volume p

  abbrev put : List ℤ
  put = with_part 32 point t

  first : length (part_at 0 t) ≡ 32
  first = omega (arith, length-take 32 t, k)

  put-long : length put ≡ 64
  put-long = long-part 32 point t (point-long kind owner volume p) (omega (arith, k)) ∙ k

  typed-by : (own : List ℤ) → part_at 0 t ≡ own → Pointed (set put 4 (get_or put 36 (pos 0))) (set own 4 (first_type (p ∷ []))) point
  typed-by own is =
      let read : get_or put 36 (pos 0) ≡ first_type (p ∷ []) =
      ap (λ (i : ℕ). get_or put (i + 4) (pos 0)) (sym first) ∙ get_or-append-add (part_at 0 t) (point ++ drop 64 t) 4 (pos 0)
      ∙ get_or-append point (drop 64 t) (pos 0) 4 (omega (arith, point-long kind owner volume p)) ∙ type_of p.values kind owner volume p.line in
      let typed : List ℤ = set (part_at 0 t) 4 (get_or put 36 (pos 0)) in
      let long : length typed ≡ 32 = length-set (part_at 0 t) 4 (get_or put 36 (pos 0)) ∙ first in
      let apart : set put 4 (get_or put 36 (pos 0)) ≡ typed ++ (point ++ drop 64 t) = set-append_left (part_at 0 t) (point ++ drop 64 t) 4 (get_or put 36 (pos 0)) (omega (arith, first)) in
      record {
        long = length-set put 4 (get_or put 36 (pos 0)) ∙ put-long;
        chain = ap (part_at 0) apart ∙ take_at typed (point ++ drop 64 t) 32 long ∙ ap (λ (u : List ℤ). set u 4 (get_or put 36 (pos 0))) is ∙ ap (set own 4) read;
        behind = ap (part_at 32) apart ∙ part_of typed point (drop 64 t) 32 long (point-long kind owner volume p);
      }

  kept_as : (own : List ℤ) → part_at 0 t ≡ own → Pointed put own point
  kept_as own is = record {
    long = put-long;
    chain = take_at (part_at 0 t) (point ++ drop 64 t) 32 first ∙ is;
    behind = part_of (part_at 0 t) point (drop 64 t) 32 first (point-long kind owner volume p);
  }

  pub pointed : (ps : List Point) (count : ℕ) → count ≡ length ps → part_at 0 t ≡ figure_open (successive s h fs n ps)
      → Pointed (cond (eqb count 0) (set put 4 (get_or put 36 (pos 0))) put) (figure_open (successive (with_records ks s) h fs n (ps ++ p ∷ []))) point
  pointed [] count e is =
      subst (λ (b : Bool). Pointed (cond b (set put 4 (get_or put 36 (pos 0))) put) (figure_open (successive (with_records ks s) h fs n (p ∷ []))) point) (sym (eq-eqb count 0 e))
      (subst (λ (u : List ℤ). Pointed (set put 4 (get_or put 36 (pos 0))) u point) (first_typed s ks h fs n p) (typed-by (figure_open (successive s h fs n [])) is))
  pointed (q ∷ ps) count e is =
      subst (λ (b : Bool). Pointed (cond b (set put 4 (get_or put 36 (pos 0))) put) (figure_open (successive (with_records ks s) h fs n ((q ∷ ps) ++ p ∷ []))) point)
      (sym (ne_eqb count 0 (λ z. omega (arith, z, e)))) (kept_as (figure_open (successive (with_records ks s) h fs n ((q ∷ ps) ++ p ∷ []))) (is ∙ later_typed s ks h fs n q ps p))

-- ── its end ──
-- the count is put into its own record: the point's stays as it is
pub counted-own : (t : List ℤ) (a : ℤ) → length t ≡ 96 → take 32 t ++ set (drop 32 t) 5 a ≡ with_part 32 (set (part_at 32 t) 5 a) t
counted-own t a long =
    let first : length (part_at 32 t) ≡ 32 = part-long 32 t (omega (arith, long)) in
    ap (λ (u : List ℤ). take 32 t ++ u)
    (ap (λ (u : List ℤ). set u 5 a) (sym (take-append-drop 32 (drop 32 t))) ∙ set-append_left (part_at 32 t) (drop 32 (drop 32 t)) 5 a (omega (arith, first))
    ∙ ap (λ (u : List ℤ). set (part_at 32 t) 5 a ++ u) (drop-drop 32 32 t))

module _ (c : Class) (s : Set) (h : Home) (fs : List Figure) (n : ℕ) (ps : List Point) (records : ℕ) (all : length (flat (shut_so_far c (successive s h fs n ps))) ≡ 32 * records) where
  abbrev fore : List (List ℤ)
  fore = figures_shut c s h fs

  abbrev pts : List (List ℤ)
  pts = point_records (17 + home_more h) (home_owner s h) (home_volume s h) ps

  -- at its `}` its own record has the count of its points, which stand behind it
  module _ (t₀ t₁ : List ℤ) (x : Scratch t₀ (successive s h fs n ps)) (put : part_at 32 t₁ ≡ set (part_at 32 t₀) 5 (pos (length ps))) where
    closed : part_at 32 t₁ ≡ chain_record (home_more h) (home_owner s h) (home_volume s h) n ps
    closed = put ∙ ap (λ (u : List ℤ). set u 5 (pos (length ps))) x.figure

    pub chain-fills : Fills c (successive s h fs n ps) (figures s h (fs ++ chain n ps ∷ [])) 0 32 (records - (length ps + 1)) t₁
    chain-fills = record {
      fore = fore;
      behind = pts;
      before = append-nil (fore ++ empty_record ∷ pts);
      after =
          ap (λ (r : List (List ℤ)). home_shut c s h ++ r) (flat_map_more (home_figure c s h) fs (chain n ps))
          ∙ sym (append_assoc (home_shut c s h) _ (home_figure c s h (chain n ps)))
          ∙ ap (λ (r : List (List ℤ)). fore ++ r) (chain-figure c s h n ps ∙ ap (λ (u : List ℤ). u ∷ pts) (sym closed));
      size =
          let before : length (flat fore) + (32 + 32 * length ps) ≡ 32 * records =
          ap (λ (i : ℕ). length (flat fore) + (32 + i)) (sym (points-size (17 + home_more h) (home_owner s h) (home_volume s h) ps))
          ∙ ap (λ (i : ℕ). length (flat fore) + i) (sym (length-append empty_record (flat pts))) ∙ sym (length-append (flat fore) (empty_record ++ flat pts))
          ∙ ap length (sym (flat_append fore (empty_record ∷ pts))) ∙ all in
          omega (arith, before);
      long = ap length closed;
    }
