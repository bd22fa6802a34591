-- Laws of rule 3 by place: a run of bytes inside a line, and what stands behind it.
use Rattle.std.specs.Prelude.{Option, Some, None, fold, min}
use Prim.Native.Nat.{ℕ, zero, suc, ◌+◌, ◌-◌, ◌<◌, ◌≤◌, zero-le}
use mathlib.Core.Path.{◌≡◌, refl, ap, sym, ◌∙◌}
use mathlib.Core.Bool.{Bool, true, false, cond, ◌&&◌, ◌||◌}
use mathlib.Core.List.{List, [], ◌∷◌}
use native.Mathlib.Omega.{arith}
use lib.Dec.{eqb, leb, ltb}
use lib.ListN.{length, get_or, take, drop, drop_of_length-le, length-drop}
use lib.Seq.{drop-drop, get_or-drop, take_all, take-nil}
use borrow.Author.Tests.{eq-eqb, ne_eqb, le-leb, lt-leb, lt-ltb, le-ltb, eqb-true, eqb-false, leb-true, leb-false, ltb-true, ltb-false}
use Rattle.rules.proofs.Chains.{and_left, and_right, and_false, clash}
use Rattle.rules.specs.Base.{choose, all, is_nil, is_some, map_o}
use Rattle.rules.specs.Spool.{most_in_line, most_volumes, head_line, lines_from, short_lines, lines_of}
use Rattle.leaves.specs.Bytes.{up_to}
use Rattle.leaves.proofs.Scan.{at}
use Rattle.lines.specs.LineEnds.{end_byte, plain_run, high_byte, NoEnd, lf_at, last_byte, unsound_from, first_unsound}
use Rattle.lines.specs.declared.Layout.{Layout}

pub or-neither : (a b : Bool) → (a || b) ≡ false → (a ≡ false) × (b ≡ false)
or-neither true b e = clash refl e
or-neither false b e = (refl, e)

-- ── the run ──
module _ (s : List ℕ) (i : ℕ) where
  pub run-stop : i < length s → end_byte (get_or s i 0) ≡ true → plain_run (drop i s) ≡ 0
  unfolding plain_run
  run-stop h e = rw (at s i h, e)

  pub run_more : i < length s → end_byte (get_or s i 0) ≡ false → plain_run (drop i s) ≡ suc (plain_run (drop (i + 1) s))
  unfolding plain_run
  run_more h e = rw (at s i h, e)

  pub run_end : length s ≤ i → plain_run (drop i s) ≡ 0
  unfolding plain_run
  run_end h = rw (drop_of_length-le s h)

pub run-le : (s : List ℕ) → plain_run s ≤ length s
unfolding plain_run
run-le [] = zero-le
run-le (b ∷ s) = elim (end_byte b) as (λ t. cond t 0 (suc (plain_run s)) ≤ suc (length s)) [ true ↦ zero-le | false ↦ omega (arith, run-le s) ]

-- ── bytes that are greater, several at a time ──
-- the three bytes are at most 26
pub end-high : (b : ℕ) → 26 < b → end_byte b ≡ false
end-high b h = rw (ne_eqb b 13 (λ e. omega (arith, e)), ne_eqb b 26 (λ e. omega (arith, e)), ne_eqb b 10 (λ e. omega (arith, e)))

run-high : (n : ℕ) (s : List ℕ) → n ≤ length s → all high_byte (take n s) ≡ true → plain_run s ≡ n + plain_run (drop n s)
unfolding plain_run
run-high zero s h e = omega arith
run-high (suc n) [] h e = absurd (omega arith)
run-high (suc n) (b ∷ s) h e =
    let f = end-high b (ltb-true 26 b (and_left (ltb 26 b) (all high_byte (take n s)) e)) in
    let ih = run-high n s (omega arith) (and_right (ltb 26 b) (all high_byte (take n s)) e) in
    rw f (omega (arith, ih))

fold-high : (t : Bool) (s : List ℕ) → fold (λ high b. high && high_byte b) t s ≡ (t && all high_byte s)
fold-high true [] = refl
fold-high false [] = refl
fold-high true (b ∷ s) = fold-high (high_byte b) s
fold-high false (b ∷ s) = fold-high false s

-- eight bytes as the code tests them
module _ (s : List ℕ) (i : ℕ) where
  pub eight-high : (r : Bool) → r ≡ fold (λ high b. high && high_byte b) true (take (i + 8 - i) (drop i s)) → r ≡ true → all high_byte (take 8 (drop i s)) ≡ true
  eight-high r e h =
      let n : i + 8 - i ≡ 8 = omega arith in
      sym (fold-high true (take 8 (drop i s))) ∙ ap (λ k. fold (λ high b. high && high_byte b) true (take k (drop i s))) (sym n) ∙ sym e ∙ h

  pub no-end-eight : (j : ℕ) → NoEnd s i j → j + 8 ≤ length s → all high_byte (take 8 (drop j s)) ≡ true → NoEnd s i (j + 8)
  no-end-eight j p h e =
      let low = p.low in
      let more = run-high 8 (drop j s) (omega (arith, length-drop j s)) e in
      let d = ap plain_run (drop-drop 8 j s) in
      record { low = omega arith; high = h; run = omega (arith, p.run, more, d) }

-- nor a CR
run_no-cr : (n : ℕ) (s : List ℕ) → n ≤ plain_run s → length (up_to 13 s) ≡ n + length (up_to 13 (drop n s))
unfolding plain_run up_to
run_no-cr zero s h = omega arith
run_no-cr (suc n) [] h = absurd (omega arith)
run_no-cr (suc n) (b ∷ s) h = go (end_byte b) refl h (run_no-cr n s)
  where
    go : (t : Bool) → end_byte b ≡ t → suc n ≤ cond t 0 (suc (plain_run s)) → (n ≤ plain_run s → length (up_to 13 s) ≡ n + length (up_to 13 (drop n s))) → length (up_to 13 (b ∷ s)) ≡ suc n + length (up_to 13 (drop n s))
    go true q h ih = absurd (omega arith)
    go false q h ih = rw (or-neither (eqb b 13) (eqb b 26 || eqb b 10) q).0 (let more = ih (omega arith) in omega (arith, more))

pub no-end-cr : (s : List ℕ) (i j : ℕ) → NoEnd s i j → i + length (up_to 13 (drop i s)) ≡ j + length (up_to 13 (drop j s))
no-end-cr s i j p =
    let low = p.low in
    let back : i + (j - i) ≡ j = omega arith in
    let more = run_no-cr (j - i) (drop i s) (omega (arith, p.run)) in
    let same = ap (λ u. length (up_to 13 u)) (drop-drop (j - i) i s ∙ ap (λ k. drop k s) back) in
    omega (arith, more, same)

-- ── the lines, where n bytes stand before the first of them ──
abbrev short : List ℕ → Bool
short l = leb (length l) most_in_line

-- the lines are sound, where n bytes stand before the first of them
abbrev sound_after : ℕ → Option (List (List ℕ)) → Bool
sound_after n None = false
sound_after n (Some []) = eqb n 0
sound_after n (Some (l ∷ ls)) = leb (n + length l) most_in_line && all short ls

sound-first : (o : Option (List (List ℕ))) → sound_after 0 o ≡ is_some (short_lines o)
sound-first None = refl
sound-first (Some []) = refl
sound-first (Some (l ∷ ls)) =
    let e : 0 + length l ≡ length l = omega arith in
    ap (λ k. leb k most_in_line && all short ls) e
    ∙ elim (leb (length l) most_in_line && all short ls) as (λ t. t ≡ is_some (cond t (Some (l ∷ ls)) None)) [ true ↦ refl | false ↦ refl ]

-- behind CR LF
sound-anew : (n : ℕ) (o : Option (List (List ℕ))) → n ≤ most_in_line → sound_after 0 o ≡ sound_after n (map_o (λ ls. [] ∷ ls) o)
sound-anew n None h = refl
sound-anew n (Some []) h = sym (rw (le-leb (n + 0) most_in_line (omega arith)))
sound-anew n (Some (l ∷ ls)) h =
    let e : 0 + length l ≡ length l = omega arith in
    ap (λ k. leb k most_in_line && all short ls) e ∙ sym (rw (le-leb (n + 0) most_in_line (omega arith)))

sound_more : (n b : ℕ) (o : Option (List (List ℕ))) → sound_after (n + 1) o ≡ sound_after n (head_line b o)
sound_more n b None = refl
sound_more n b (Some []) = ne_eqb (n + 1) 0 (omega arith)
sound_more n b (Some (l ∷ ls)) = let e : n + 1 + length l ≡ n + suc (length l) = omega arith in ap (λ k. leb k most_in_line && all short ls) e

sound_none : (n : ℕ) (o : Option (List (List ℕ))) → most_in_line < n → sound_after n (map_o (λ ls. [] ∷ ls) o) ≡ false
sound_none n None h = refl
sound_none n (Some ls) h = rw (lt-leb (n + 0) most_in_line (omega arith))

sound-is : (s : List ℕ) → is_some (lines_of s) ≡ sound_after 0 (lines_from false s)
unfolding lines_of
sound-is s = sym (sound-first (lines_from false s))

over-run : (n : ℕ) (s : List ℕ) → sound_after n (lines_from false s) ≡ sound_after (n + plain_run s) (lines_from false (drop (plain_run s) s))
unfolding plain_run
over-run n [] = refl
over-run n (b ∷ s) = go (end_byte b) refl (over-run (n + 1) s)
  where
    go : (t : Bool) → end_byte b ≡ t → sound_after (n + 1) (lines_from false s) ≡ sound_after (n + 1 + plain_run s) (lines_from false (drop (plain_run s) s))
        → sound_after n (lines_from false (b ∷ s)) ≡ sound_after (n + cond t 0 (suc (plain_run s))) (lines_from false (drop (cond t 0 (suc (plain_run s))) (b ∷ s)))
    go true q ih = let e : n ≡ n + 0 = omega arith in ap (λ k. sound_after k (lines_from false (b ∷ s))) e
    go false q ih =
        let x = or-neither (eqb b 13) (eqb b 26 || eqb b 10) q in
        let y = or-neither (eqb b 26) (eqb b 10) x.1 in
        let e : n + 1 + plain_run s ≡ n + suc (plain_run s) = omega arith in
        rw (x.0, y.0, y.1) (sym (sound_more n b (lines_from false s))) ∙ ih ∙ ap (λ k. sound_after k (lines_from false (drop (plain_run s) s))) e

-- the run stops at one of the three bytes
run_hit : (s : List ℕ) → plain_run s < length s → end_byte (get_or s (plain_run s) 0) ≡ true
unfolding plain_run
run_hit [] h = absurd (omega arith)
run_hit (b ∷ s) h = go (end_byte b) refl h (run_hit s)
  where
    go : (t : Bool) → end_byte b ≡ t → cond t 0 (suc (plain_run s)) < suc (length s) → (plain_run s < length s → end_byte (get_or s (plain_run s) 0) ≡ true) → end_byte (get_or (b ∷ s) (cond t 0 (suc (plain_run s))) 0) ≡ true
    go true q h ih = q
    go false q h ih = ih (omega arith)

-- what the byte is that is none of the others
last_of : (i e b : ℕ) (w : List ℕ) → i ≤ e → end_byte b ≡ true → eqb b 13 ≡ false → sound_after (e - i) (lines_from false (b ∷ w)) ≡ (eqb b 26 && (eqb e i && is_nil w))
last_of i e b w h q c = rw c (go (eqb b 26) refl)
  where
    one : (v : List ℕ) → sound_after (e - i) (cond (is_nil v) (Some []) None) ≡ (eqb e i && is_nil v)
    one [] = go (eqb e i) refl
      where
        go : (t : Bool) → eqb e i ≡ t → eqb (e - i) 0 ≡ (t && true)
        go true p = eq-eqb (e - i) 0 (omega (arith, eqb-true e i p))
        go false p = ne_eqb (e - i) 0 (λ z. eqb-false e i p (omega (arith, z)))
    one (x ∷ v) = sym (and_false (eqb e i))

    go : (t : Bool) → eqb b 26 ≡ t → sound_after (e - i) (choose t (λ _. cond (is_nil w) (Some []) None) λ _. choose (eqb b 10) (λ _. None) λ _. head_line b (lines_from false w)) ≡ (t && (eqb e i && is_nil w))
    go true p = one w
    go false p = let z : eqb b 10 ≡ true = sym (ap (λ x. eqb b 10) c) ∙ rw (c, p) at q in rw z

pub lf-inside : (s : List ℕ) (i : ℕ) → lf_at i s ≡ true → i < length s
lf-inside s i q = ltb-true i (length s) (and_left (ltb i (length s)) (eqb (get_or s i 0) 10) q)

-- the line that starts at i, its first of the three bytes at e
module _ (s : List ℕ) (i e : ℕ) (z : e ≡ i + plain_run (drop i s)) where
  behind : is_some (lines_of (drop i s)) ≡ sound_after (e - i) (lines_from false (drop e s))
  behind =
      let p = plain_run (drop i s) in
      let n : 0 + p ≡ e - i = omega (arith, z) in
      sound-is (drop i s) ∙ over-run 0 (drop i s) ∙ ap (λ k. sound_after k (lines_from false (drop p (drop i s)))) n
      ∙ ap (λ u. sound_after (e - i) (lines_from false u)) (drop-drop p i s ∙ ap (λ k. drop k s) (sym z))

  over : length s ≤ e → is_some (lines_of (drop i s)) ≡ false
  over h = behind ∙ rw (drop_of_length-le s h)

  pub sound-last : e < length s → (get_or s e 0 ≡ 13 → ⊥) → is_some (lines_of (drop i s)) ≡ last_byte i e (drop e s)
  unfolding last_byte
  sound-last h c =
      let hit : end_byte (get_or s e 0) ≡ true = ap (λ k. end_byte (get_or s k 0)) z ∙ sym (ap end_byte (get_or-drop i s (plain_run (drop i s)) 0)) ∙ run_hit (drop i s) (omega (arith, h, z, length-drop i s)) in
      behind ∙ rw (at s e h) (last_of i e (get_or s e 0) (drop (e + 1) s) (omega (arith, z)) hit (ne_eqb _ _ c))

  module _ (h : e < length s) (c : get_or s e 0 ≡ 13) where
    sound-cut : length s ≤ e + 1 → is_some (lines_of (drop i s)) ≡ false
    sound-cut k = behind ∙ rw (at s e h, eq-eqb _ _ c, drop_of_length-le s k)

    module _ (k : e + 1 < length s) where
      sound_no-lf : (get_or s (e + 1) 0 ≡ 10 → ⊥) → is_some (lines_of (drop i s)) ≡ false
      sound_no-lf d = behind ∙ rw (at s e h, eq-eqb _ _ c, at s (e + 1) k, ne_eqb _ _ d)

      sound-next : get_or s (e + 1) 0 ≡ 10 → e - i ≤ most_in_line → is_some (lines_of (drop i s)) ≡ is_some (lines_of (drop (e + 1 + 1) s))
      sound-next d m = behind ∙ rw (at s e h, eq-eqb _ _ c, at s (e + 1) k, eq-eqb _ _ d) (sym (sound-anew (e - i) (lines_from false (drop (e + 1 + 1) s)) m)) ∙ sym (sound-is (drop (e + 1 + 1) s))

    -- what stands behind the CR, as the code tests it
    pub sound-unended : lf_at (e + 1) s ≡ false → is_some (lines_of (drop i s)) ≡ false
    sound-unended q = go (ltb (e + 1) (length s)) refl q
      where
        go : (t : Bool) → ltb (e + 1) (length s) ≡ t → (t && eqb (get_or s (e + 1) 0) 10) ≡ false → is_some (lines_of (drop i s)) ≡ false
        go true k f = sound_no-lf (ltb-true _ _ k) (eqb-false _ _ f)
        go false k f = sound-cut (ltb-false _ _ k)

    pub sound-ended : lf_at (e + 1) s ≡ true → e - i ≤ most_in_line → is_some (lines_of (drop i s)) ≡ is_some (lines_of (drop (e + 1 + 1) s))
    sound-ended q m = sound-next (lf-inside s (e + 1) q) (eqb-true _ _ (and_right (ltb (e + 1) (length s)) _ q)) m

    pub sound-wide : most_in_line < e - i → is_some (lines_of (drop i s)) ≡ false
    sound-wide m = behind ∙ rw (at s e h, eq-eqb _ _ c) (go (drop (e + 1) s))
      where
        pick : (q : Bool) (o : Option (List (List ℕ))) → sound_after (e - i) (choose q (λ _. map_o (λ ls. [] ∷ ls) o) (λ _. None)) ≡ false
        pick true o = sound_none (e - i) o m
        pick false o = refl

        go : (t : List ℕ) → sound_after (e - i) (lines_from true t) ≡ false
        go [] = refl
        go (x ∷ t) = pick (eqb x 10) (lines_from false t)

-- nothing ended the line
pub sound-over : (s : List ℕ) (i : ℕ) → length s ≤ i + plain_run (drop i s) → is_some (lines_of (drop i s)) ≡ false
sound-over s i h = over s i (i + plain_run (drop i s)) refl h

and_together : (a b c : Bool) → ((a && b) && c) ≡ (a && (b && c))
and_together true b c = refl
and_together false b c = refl

nil-end : (s : List ℕ) (e : ℕ) → e < length s → is_nil (drop (e + 1) s) ≡ eqb (e + 1) (length s)
nil-end s e h = go (leb (length s) (e + 1)) refl
  where
    full : (t : List ℕ) → 0 < length t → is_nil t ≡ false
    full [] k = absurd (omega arith)
    full (x ∷ t) k = refl

    go : (q : Bool) → leb (length s) (e + 1) ≡ q → is_nil (drop (e + 1) s) ≡ eqb (e + 1) (length s)
    go true q = rw (drop_of_length-le s {i = e + 1} (leb-true _ _ q)) (sym (eq-eqb (e + 1) (length s) (omega (arith, leb-true (length s) (e + 1) q))))
    go false q =
        let k = leb-false (length s) (e + 1) q in
        full (drop (e + 1) s) (omega (arith, k, length-drop (e + 1) s)) ∙ sym (ne_eqb (e + 1) (length s) (λ z. omega (arith, z, k)))

-- a volume's last byte as the code tests it
pub last-is : (s : List ℕ) (i e : ℕ) → e < length s → ((eqb (get_or s e 0) 26 && eqb e i) && eqb (e + 1) (length s)) ≡ last_byte i e (drop e s)
unfolding last_byte
last-is s i e h =
    let b = eqb (get_or s e 0) 26 in
    and_together b (eqb e i) (eqb (e + 1) (length s)) ∙ ap (λ t. b && (eqb e i && t)) (sym (nil-end s e h)) ∙ sym (ap (last_byte i e) (at s e h))

-- ── parts of the spool ──
module _ (s : List ℕ) (p n : ℕ) where
  pub part_none : length s ≤ p → is_some (lines_of (take n (drop p s))) ≡ false
  unfolding lines_of
  part_none h = rw (drop_of_length-le s h, take-nil {A = ℕ} n)

  -- no more than there are
  pub part-most : p ≤ length s → take (min (length s) (p + n) - p) (drop p s) ≡ take n (drop p s)
  part-most h = go (leb (length s) (p + n)) refl
    where
      go : (q : Bool) → leb (length s) (p + n) ≡ q → take (min (length s) (p + n) - p) (drop p s) ≡ take n (drop p s)
      go true q =
          let k = leb-true (length s) (p + n) q in
          take_all _ (drop p s) (omega (arith, k, h, length-drop p s)) ∙ sym (take_all n (drop p s) (omega (arith, k, length-drop p s)))
      go false q =
          let k = leb-false (length s) (p + n) q in
          let e : min (length s) (p + n) - p ≡ n = omega (arith, k) in
          ap (λ j. take j (drop p s)) e

-- ── all volumes ──
module _ (s : List ℕ) (l : Layout) where
  pub unsound-none : (k i : ℕ) → l.count ≤ i → unsound_from s l k i ≡ 0
  unfolding unsound_from
  unsound-none zero i h = refl
  unsound-none (suc k) i h = rw (le-ltb i l.count h)

  -- the volume i's lines
  abbrev pub sound_in : ℕ → Bool
  sound_in i = is_some (lines_of (take (get_or l.lengths i 0) (drop (get_or l.places i 0) s)))

  module _ (i : ℕ) (m : i < most_volumes) (h : i < l.count) where
    one_more : most_volumes - i ≡ suc (most_volumes - (i + 1))
    one_more = omega arith

    pub unsound-here : sound_in i ≡ false → unsound_from s l (most_volumes - i) i ≡ i + 1
    unfolding unsound_from
    unsound-here e = rw (one_more, lt-ltb i l.count h, e)

    pub unsound-later : sound_in i ≡ true → unsound_from s l (most_volumes - i) i ≡ unsound_from s l (most_volumes - (i + 1)) (i + 1)
    unfolding unsound_from
    unsound-later e = rw (one_more, lt-ltb i l.count h, e)

  pub unsound-over : (i : ℕ) → most_volumes ≤ i → unsound_from s l (most_volumes - i) i ≡ 0
  unfolding unsound_from
  unsound-over i h = let e : most_volumes - i ≡ 0 = omega arith in rw e

  pub unsound-past : (i : ℕ) → min most_volumes l.count ≤ i → unsound_from s l (most_volumes - i) i ≡ 0
  unsound-past i h = go (leb l.count i) refl
    where
      go : (t : Bool) → leb l.count i ≡ t → unsound_from s l (most_volumes - i) i ≡ 0
      go true q = unsound-none (most_volumes - i) i (leb-true _ _ q)
      go false q = unsound-over i (omega (arith, leb-false l.count i q, h))

  pub unsound-start : first_unsound s l ≡ unsound_from s l most_volumes 0
  unfolding first_unsound
  unsound-start = refl
