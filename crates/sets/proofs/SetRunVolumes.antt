-- The volumes of a spool one after the other: their places grow, each has a name, and they have few lines.
use Rattle.std.specs.Prelude.{Option, Some, None}
use Prim.Native.Nat.{ℕ, zero, suc, ◌+◌, ◌*◌, ◌≤◌}
use mathlib.Core.Bool.{Bool, true, false, cond, ◌&&◌, not}
use mathlib.Core.List.{List, [], ◌∷◌}
use mathlib.Core.Path.{◌≡◌, refl, ap, subst}
use native.Mathlib.Omega.{arith}
use lib.Dec.{eqb, leb, ltb}
use lib.ListN.{length, get_or, take, drop, length-append}
use lib.Seq.{length-take-le}
use borrow.Author.Tests.{leb-true, not-true}
use Rattle.rules.specs.Base.{choose, map_o, is_nil, is_some, all, same, distinct, within}
use Rattle.rules.specs.Spool.{most_bytes, most_volumes, Volume, name_byte, name_of, padded_name, good_name, length_of, good_head, volume_at, volumes_from, names_of, sound_volumes, volumes_of, lines_from, head_line, lines_of}
use Rattle.rules.specs.Answers.{numbered, lines_of_volume, next_name}
use Rattle.rules.proofs.Chains.{and_left, and_right, none-some, map-some, by_cond}
use Rattle.lines.specs.LineEnds.{unsound_from, first_unsound}
use Rattle.lines.specs.declared.Layout.{Layout}
use Rattle.lines.proofs.LinesSeen.{lines_of_lem}
use Rattle.lines.proofs.VolumesSeen.{AllLined, lines_over}
use Rattle.lines.proofs.VolumePlaces.{AllPlaced, head-name}

-- ── places and names ──
-- from the place `at` on
abbrev pub Grown : ℕ → List Volume → Type 0
Grown at [] = Unit {0}
Grown at (v ∷ vs) = (at ≤ v.place) × (is_nil v.name ≡ false) × Grown (v.place + length v.body) vs

good-name : (a : List ℕ) → good_name a ≡ true → is_nil (name_of a) ≡ false
good-name a g =
    not-true (is_nil (name_of a)) (and_left (not (is_nil (name_of a))) (all name_byte (name_of a)) (and_left (not (is_nil (name_of a)) && all name_byte (name_of a)) (same a (padded_name (name_of a))) g))

choose-some : {A : Type 0} (t : Bool) (o : Option A) (a : A) → choose t (λ _. o) (λ _. None) ≡ Some a → (t ≡ true) × (o ≡ Some a)
choose-some true o a e = (refl, e)
choose-some false o a e = none-some e

grown : (k at : ℕ) (s : List ℕ) (vs : List Volume) → volumes_from k at s ≡ Some vs → Grown at vs
grown zero at [] vs e = let q : [] ≡ vs = cc in subst (Grown at) q tt
grown zero at (b ∷ s) vs e = none-some e
grown (suc k) at [] vs e = let q : [] ≡ vs = cc in subst (Grown at) q tt
grown (suc k) at (b ∷ s) vs e = go (take 12 (b ∷ s)) (drop 12 (b ∷ s)) e (λ m u us. grown k m u us)
  where
    go : (h r : List ℕ) → choose (good_head h r) (λ _. map_o (λ vs. volume_at at h r ∷ vs) (volumes_from k (at + 12 + length_of h) (drop (length_of h) r))) (λ _. None) ≡ Some vs
        → ((m : ℕ) (u : List ℕ) (us : List Volume) → volumes_from k m u ≡ Some us → Grown m us) → Grown at vs
    go h r z ih =
        let (g, w) = choose-some (good_head h r) (map_o (λ vs. volume_at at h r ∷ vs) (volumes_from k (at + 12 + length_of h) (drop (length_of h) r))) vs z in
        let (us, p, q) = map-some (λ vs. volume_at at h r ∷ vs) (volumes_from k (at + 12 + length_of h) (drop (length_of h) r)) vs w in
        let fits : length_of h ≤ length r =
        leb-true (length_of h) (length r) (and_right ((eqb (length h) 12 && same (take 2 h) (86 ∷ 80 ∷ [])) && good_name (take 8 (drop 2 h))) (leb (length_of h) (length r)) g) in
        let size : length (take (length_of h) r) ≡ length_of h = length-take-le (length_of h) r fits in
        let here : at + 12 + length_of h ≡ at + 12 + length (take (length_of h) r) = omega (arith, size) in
        subst (Grown at) q (omega arith, good-name (take 8 (drop 2 h)) (head-name h r g), subst (λ (m : ℕ). Grown m us) here (ih (at + 12 + length_of h) (drop (length_of h) r) us p))

sound-some : (o : Option (List Volume)) (vs : List Volume) → sound_volumes o ≡ Some vs → o ≡ Some vs
sound-some None vs e = none-some e
sound-some (Some us) vs e = go (not (is_nil us) && distinct (names_of us)) e
  where
    go : (t : Bool) → cond t (Some us) None ≡ Some vs → Some us ≡ Some vs
    go true z = z
    go false z = none-some z

pub volumes_grow : (s : List ℕ) (vs : List Volume) → volumes_of s ≡ Some vs → Grown 0 vs
unfolding volumes_of
volumes_grow s vs e =
    let (g, w) = choose-some (within 1 most_bytes (length s)) (sound_volumes (volumes_from most_volumes 0 s)) vs e in
    grown most_volumes 0 s vs (sound-some (volumes_from most_volumes 0 s) vs w)

-- a volume's name is no empty one: so only the last has nothing behind it
pub next-nil : (at : ℕ) (vs : List Volume) → Grown at vs → is_nil (next_name vs) ≡ is_nil vs
next-nil at [] g = refl
next-nil at (v ∷ vs) g = g.1

-- ── how many lines ──
head-line : (b : ℕ) (o : Option (List (List ℕ))) (ls : List (List ℕ)) (n : ℕ) → head_line b o ≡ Some ls → ((us : List (List ℕ)) → o ≡ Some us → 2 * length us ≤ n) → 2 * length ls ≤ n
head-line b None ls n e h = none-some e
head-line b (Some []) ls n e h = none-some e
head-line b (Some (u ∷ us)) ls n e h = let q : (b ∷ u) ∷ us ≡ ls = cc in subst (λ (x : List (List ℕ)). 2 * length x ≤ n) q (omega (arith, h (u ∷ us) refl))

-- each has two bytes at its end; x: the first of them has been
abbrev end_bytes : Bool → ℕ
end_bytes true = 1
end_bytes false = 0

few-lines : (x : Bool) (s : List ℕ) (ls : List (List ℕ)) → lines_from x s ≡ Some ls → 2 * length ls ≤ length s + end_bytes x
few-lines true [] ls e = none-some e
few-lines true (b ∷ s) ls e = go (eqb b 10) e (λ us z. few-lines false s us z)
  where
    go : (t : Bool) → choose t (λ _. map_o (λ ls. [] ∷ ls) (lines_from false s)) (λ _. None) ≡ Some ls → ((us : List (List ℕ)) → lines_from false s ≡ Some us → 2 * length us ≤ length s + 0)
        → 2 * length ls ≤ length (b ∷ s) + 1
    go true z ih =
        let (us, p, q) = map-some (λ ls. [] ∷ ls) (lines_from false s) ls z in
        subst (λ (x : List (List ℕ)). 2 * length x ≤ length (b ∷ s) + 1) q (omega (arith, ih us p))
    go false z ih = none-some z
few-lines false [] ls e = none-some e
few-lines false (b ∷ s) ls e = go (eqb b 13) (eqb b 26) (eqb b 10) (is_nil s) e (λ us z. few-lines true s us z) (λ us z. few-lines false s us z)
  where
    go : (x y z t : Bool)
        → choose x (λ _. lines_from true s) (λ _. choose y (λ _. cond t (Some []) None) (λ _. choose z (λ _. None) (λ _. head_line b (lines_from false s)))) ≡ Some ls
        → ((us : List (List ℕ)) → lines_from true s ≡ Some us → 2 * length us ≤ length s + 1) → ((us : List (List ℕ)) → lines_from false s ≡ Some us → 2 * length us ≤ length s + 0)
        → 2 * length ls ≤ length (b ∷ s) + 0
    go true y z t w ih jh = omega (arith, ih ls w)
    go false true z true w ih jh = let q : [] ≡ ls = cc in subst (λ (x : List (List ℕ)). 2 * length x ≤ length (b ∷ s) + 0) q (omega arith)
    go false true z false w ih jh = none-some w
    go false false true t w ih jh = none-some w
    go false false false t w ih jh = omega (arith, head-line b (lines_from false s) ls (length s + 0) w jh)

numbered-long : (k : ℕ) (next : List ℕ) (n at : ℕ) (ls : List (List ℕ)) → length (numbered k next n at ls) ≡ length ls
numbered-long k next n at [] = refl
numbered-long k next n at (l ∷ ls) = ap suc (numbered-long k next (suc n) (at + length l + 2) ls)

volume-long : (k : ℕ) (next : List ℕ) (at : ℕ) (ls : List (List ℕ)) → length (lines_of_volume k next at ls) ≤ suc (length ls)
volume-long k next at [] = omega arith
volume-long k next at (l ∷ ls) = omega (arith, numbered-long k next 1 at (l ∷ ls))

-- and the volumes stand one behind the other
pub over-few : (s : List ℕ) (k at : ℕ) (vs : List Volume) (h : AllLined vs) → AllPlaced s vs → Grown at vs → at ≤ length s → at + 2 * length (lines_over k vs h) ≤ length s + 2 * length vs
over-few s k at [] h p g q = omega (arith, q)
over-few s k at (v ∷ vs) h p g q =
    let ls = h.0.lines in
    let a : length (lines_over k (v ∷ vs) h) ≡ length (lines_of_volume k (next_name vs) v.place ls) + length (lines_over (suc k) vs h.1) =
    length-append (lines_of_volume k (next_name vs) v.place ls) (lines_over (suc k) vs h.1) in
    let b : 2 * length ls ≤ length v.body + 0 = few-lines false v.body ls (lines_of_lem v.body ls h.0.are) in
    omega (arith, a, volume-long k (next_name vs) v.place ls, b, g.0, over-few s (suc k) (v.place + length v.body) vs h.1 p.1 g.2 p.0.high)

-- ── the first volume whose lines break rule 3 is one of twelve ──
unsound-from : (s : List ℕ) (l : Layout) (k i : ℕ) → unsound_from s l k i ≤ i + k
unfolding unsound_from
unsound-from s l zero i = omega arith
unsound-from s l (suc k) i =
    by_cond (λ (n : ℕ). n ≤ i + suc k) (ltb i l.count)
    (λ _. by_cond (λ (n : ℕ). n ≤ i + suc k) (is_some (lines_of (take (get_or l.lengths i 0) (drop (get_or l.places i 0) s)))) (λ _. omega (arith, unsound-from s l k (i + 1))) (λ _. omega arith))
    (λ _. omega arith)

pub unsound-few : (s : List ℕ) (l : Layout) (n : ℕ) → n ≡ first_unsound s l → n ≤ 12
unfolding first_unsound
unsound-few s l n q = omega (arith, q, unsound-from s l most_volumes 0)
