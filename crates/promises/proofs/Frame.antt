-- The lines of a volume and the volumes of a spool: what is written reads as the same lines and volumes, and what is read adds up.
use Rattle.std.specs.Prelude.{Option, Some, None}
use Prim.Native.Nat.{ℕ, zero, suc, ◌+◌, ◌-◌, ◌/◌, ◌%◌, ◌≤◌, ◌<◌, min}
use mathlib.Core.Bool.{Bool, true, false, cond, ◌&&◌, not, true≢false}
use mathlib.Core.List.{List, [], ◌∷◌, ◌++◌, map, append_assoc}
use mathlib.Core.Path.{◌≡◌, refl, sym, ◌∙◌, ap, subst}
use native.Mathlib.Omega.{arith}
use lib.Dec.{eqb, leb}
use lib.ListN.{length, get_or, take, drop, replicate, length-append, length-take, length-drop, length-map}
use lib.Seq.{take_at, drop_at, get_or_at, get_or-append-add, length-take-le}
use borrow.Author.Tests.{eqb-true, eq-eqb, leb-true, le-leb}
use Rattle.rules.specs.Base.{choose, map_o, is_nil, all, total, same, distinct, within}
use Rattle.rules.specs.Spool.{most_bytes, most_volumes, most_in_line, Volume, name_byte, name_of, padded_name, good_name, length_of, good_head, volume_at, volumes_from, names_of, sound_volumes, volumes_of, head_line, lines_from, short_lines, lines_of, unlines, volume_bytes}
use Rattle.rules.specs.FixedForm.{volumes_bytes}
use Rattle.rules.proofs.Chains.{map-some, and_left, and_right, and_true, same_refl, none-some, all_weaken}
use Rattle.promises.proofs.Forms.{byte-not, by-choose, plain_byte, plain_line}

-- ── lines ──
line-from : (l t : List ℕ) (ls : List (List ℕ)) → lines_from false t ≡ Some ls → plain_line l ≡ true → lines_from false (l ++ 13 ∷ 10 ∷ t) ≡ Some (l ∷ ls)
line-from [] t ls r e = rw r
line-from (b ∷ l) t ls r e =
    let o = and_left (plain_byte b) _ e in
    rw (byte-not plain_byte 13 refl b o, byte-not plain_byte 26 refl b o, byte-not plain_byte 10 refl b o, line-from l t ls r (and_right (plain_byte b) _ e))

lines-from : (ls : List (List ℕ)) → all plain_line ls ≡ true → lines_from false (unlines ls) ≡ Some ls
lines-from [] e = refl
lines-from (l ∷ ls) e = line-from l (unlines ls) ls (lines-from ls (and_right (plain_line l) _ e)) (and_left (plain_line l) _ e)

abbrev pub short_line : List ℕ → Bool
short_line l = leb (length l) most_in_line

pub lines-back : (ls : List (List ℕ)) → all (λ l. plain_line l && leb (length l) most_in_line) ls ≡ true → lines_of (unlines ls) ≡ Some ls
unfolding lines_of
lines-back ls e =
    rw (
      lines-from ls (all_weaken _ plain_line (λ l. and_left (plain_line l) _) ls e),
      all_weaken (λ l. plain_line l && short_line l) short_line (λ l. and_right (plain_line l) _) ls e,
    )

-- ── what was read as lines ──
-- from the start of a line or within it; and behind its CR
lines_cut : (s : List ℕ) → ((ls : List (List ℕ)) → lines_from false s ≡ Some ls → s ≡ unlines ls) × ((ls : List (List ℕ)) → lines_from true s ≡ Some ls → 13 ∷ s ≡ unlines ls)
lines_cut [] = (λ ls e. none-some e, λ ls e. none-some e)
lines_cut (b ∷ s) =
    let i = lines_cut s in (
      λ ls e.
          let P : Option (List (List ℕ)) → Type 0 = λ o. o ≡ Some ls → b ∷ s ≡ unlines ls in
          by-choose P (eqb b 13) _ _ (λ q z. ap (λ n. n ∷ s) (eqb-true b 13 q) ∙ i.1 ls z)
          (λ _. by-choose P (eqb b 26) _ _ (λ q z. ap (λ n. n ∷ s) (eqb-true b 26 q) ∙ end s ls z)
          (λ _. by-choose P (eqb b 10) _ _ (λ _ z. none-some z) (λ _ z. more (lines_from false s) ls i.0 z))) e,
      λ ls e.
          by-choose (λ o. o ≡ Some ls → 13 ∷ b ∷ s ≡ unlines ls) (eqb b 10) _ _
          (λ q z. ap (λ n. 13 ∷ n ∷ s) (eqb-true b 10 q) ∙ fresh (map-some (λ r. [] ∷ r) (lines_from false s) ls z) i.0)
          (λ _ z. none-some z) e,
    )
  where
    end : (s : List ℕ) (ls : List (List ℕ)) → cond (is_nil s) (Some []) None ≡ Some ls → 26 ∷ s ≡ unlines ls
    end [] ls e = let q : [] ≡ ls = cc in ap unlines q
    end (c ∷ s) ls e = none-some e

    fresh : {o : Option (List (List ℕ))} {ls : List (List ℕ)} → (r : List (List ℕ)) × (o ≡ Some r) × ([] ∷ r ≡ ls) → ((ls : List (List ℕ)) → o ≡ Some ls → s ≡ unlines ls)
        → 13 ∷ 10 ∷ s ≡ unlines ls
    fresh (r, f, g) i = ap (λ t. 13 ∷ 10 ∷ t) (i r f) ∙ ap unlines g

    more : (o : Option (List (List ℕ))) (ls : List (List ℕ)) → ((ls : List (List ℕ)) → o ≡ Some ls → s ≡ unlines ls) → head_line b o ≡ Some ls → b ∷ s ≡ unlines ls
    more None ls i e = none-some e
    more (Some []) ls i e = none-some e
    more (Some (l ∷ r)) ls i e = let q : (b ∷ l) ∷ r ≡ ls = cc in ap (λ t. b ∷ t) (i (l ∷ r) refl) ∙ ap unlines q

pub lines_inv : (b : List ℕ) (ls : List (List ℕ)) → lines_of b ≡ Some ls → (b ≡ unlines ls) × (all (λ l. leb (length l) most_in_line) ls ≡ true)
unfolding lines_of
lines_inv b ls e = go (lines_from false b) (lines_cut b).0 e
  where
    go : (o : Option (List (List ℕ))) → ((ls : List (List ℕ)) → o ≡ Some ls → b ≡ unlines ls) → short_lines o ≡ Some ls → (b ≡ unlines ls) × (all short_line ls ≡ true)
    go None f e = none-some e
    go (Some r) f e = short (all short_line r) refl e
      where
        short : (t : Bool) → all short_line r ≡ t → cond t (Some r) None ≡ Some ls → (b ≡ unlines ls) × (all short_line ls ≡ true)
        short true h e = let q : r ≡ ls = cc in (f ls (ap Some q), ap (all short_line) (sym q) ∙ h)
        short false h e = none-some e

-- ── volumes ──
-- the volumes that names and bodies make, from a place on
abbrev pub laid : ℕ → List (List ℕ) → List (List ℕ) → List Volume
laid at names [] = []
laid at [] (b ∷ bodies) = []
laid at (n ∷ names) (b ∷ bodies) = record { name = n; place = at + 12; body = b } ∷ laid (at + 12 + length b) names bodies

-- the same as bytes, each body behind its head
abbrev pub framed : List (List ℕ) → List (List ℕ) → List ℕ
framed names [] = []
framed [] (b ∷ bodies) = []
framed (n ∷ names) (b ∷ bodies) = volume_bytes n b ++ framed names bodies

pub volumes-framed : (names : List (List ℕ)) (texts : List (List (List ℕ))) → volumes_bytes names texts ≡ framed names (map unlines texts)
volumes-framed names [] = refl
volumes-framed [] (t ∷ texts) = refl
volumes-framed (n ∷ names) (t ∷ texts) = ap (λ s. volume_bytes n (unlines t) ++ s) (volumes-framed names texts)

pub names-laid : (at : ℕ) (names bodies : List (List ℕ)) → length names ≡ length bodies → names_of (laid at names bodies) ≡ names
names-laid at [] [] e = refl
names-laid at (n ∷ names) [] e = absurd (omega arith)
names-laid at [] (b ∷ bodies) e = absurd (omega arith)
names-laid at (n ∷ names) (b ∷ bodies) e = ap (λ l. n ∷ l) (names-laid (at + 12 + length b) names bodies (omega arith))

-- ── names ──
abbrev pub is_name : List ℕ → Bool
is_name n = within 1 8 (length n) && all name_byte n

padded-length : (n : List ℕ) → length (padded_name n) ≡ 8
padded-length n = omega (arith, length-take 8 (n ++ replicate 8 32), length-append n (replicate 8 32))

-- a name that is padded to k bytes is read again, and nothing of the padding
name-padded : (n t : List ℕ) (k : ℕ) → length n ≤ k → all name_byte n ≡ true → name_of (take k (n ++ 32 ∷ t)) ≡ n
name-padded [] t zero h e = refl
name-padded [] t (suc k) h e = refl
name-padded (b ∷ n) t zero h e = absurd (omega arith)
name-padded (b ∷ n) t (suc k) h e = rw (byte-not name_byte 32 refl b (and_left (name_byte b) _ e), name-padded n t k (omega arith) (and_right (name_byte b) _ e))

name_back : (n : List ℕ) → is_name n ≡ true → name_of (padded_name n) ≡ n
name_back n e =
    let u = and_left (within 1 8 (length n)) _ e in
    name-padded n (replicate 7 32) 8 (leb-true (length n) 8 (and_right (leb 1 (length n)) _ u)) (and_right (within 1 8 (length n)) _ e)

name-short : (s : List ℕ) → length (name_of s) ≤ length s
name-short [] = omega arith
name-short (b ∷ s) = go (eqb b 32) (name-short s)
  where
    go : (t : Bool) → length (name_of s) ≤ length s → length (cond t [] (b ∷ name_of s)) ≤ suc (length s)
    go true h = omega arith
    go false h = omega arith

not-nil : {A : Type 0} (s : List A) → not (is_nil s) ≡ true → 1 ≤ length s
not-nil [] e = absurd (true≢false (sym e))
not-nil (b ∷ s) e = omega arith

not-empty : {A : Type 0} (s : List A) → 1 ≤ length s → is_nil s ≡ false
not-empty [] h = absurd (omega arith)
not-empty (b ∷ s) h = refl

-- ── what was read as volumes ──
-- n bytes from a place on, read as these volumes, k at most
record Read (k at n : ℕ) (vs : List Volume) : Type 0 where
  size : n ≡ total (λ v. 12 + length v.body) vs
  placed : vs ≡ laid at (names_of vs) (map (λ v. v.body) vs)
  named : all is_name (names_of vs) ≡ true
  few : length vs ≤ k

name_inv : (s : List ℕ) → length s ≤ 8 → good_name s ≡ true → is_name (name_of s) ≡ true
name_inv s h e =
    let u = and_left (not (is_nil (name_of s)) && all name_byte (name_of s)) _ e in
    rw (
      le-leb 1 (length (name_of s)) (not-nil (name_of s) (and_left (not (is_nil (name_of s))) _ u)),
      le-leb (length (name_of s)) 8 (omega (arith, name-short s)),
      and_right (not (is_nil (name_of s))) _ u,
    )

-- twelve bytes with the mark in front
abbrev marked : List ℕ → Bool
marked h = eqb (length h) 12 && same (take 2 h) (86 ∷ 80 ∷ [])

read_step : (k at : ℕ) (h r : List ℕ) (vs : List Volume) → good_head h r ≡ true → Read k (at + 12 + length_of h) (length (drop (length_of h) r)) vs
    → Read (suc k) at (12 + length r) (volume_at at h r ∷ vs)
read_step k at h r vs g i =
    let f = take 8 (drop 2 h) in
    let fits = leb-true (length_of h) (length r) (and_right (marked h && good_name f) _ g) in
    let whole = length-take-le (length_of h) r fits in
    let name = name_inv f (omega (arith, length-take 8 (drop 2 h))) (and_right (marked h) _ (and_left (marked h && good_name f) _ g)) in
    record {
      size = omega (arith, i.size, whole, length-drop (length_of h) r);
      placed = rw whole (ap (λ l. volume_at at h r ∷ l) i.placed);
      named = and_true _ _ name i.named;
      few = omega (arith, i.few);
    }

read_none : (k at : ℕ) → Read k at 0 []
read_none k at = record { size = refl; placed = refl; named = refl; few = omega arith }

volumes-read : (k at : ℕ) (s : List ℕ) (vs : List Volume) → volumes_from k at s ≡ Some vs → Read k at (length s) vs
volumes-read zero at [] vs e = let q : [] ≡ vs = cc in subst (Read zero at 0) q (read_none zero at)
volumes-read zero at (b ∷ s) vs e = none-some e
volumes-read (suc k) at [] vs e = let q : [] ≡ vs = cc in subst (Read (suc k) at 0) q (read_none (suc k) at)
volumes-read (suc k) at (b ∷ s) vs e = go (take 12 (b ∷ s)) (drop 12 (b ∷ s)) (length-take 12 (b ∷ s)) (length-drop 12 (b ∷ s)) (λ n t vs. volumes-read k n t vs) e
  where
    go : (h r : List ℕ) → length h ≡ min 12 (length (b ∷ s)) → length r ≡ length (b ∷ s) - 12
        → ((n : ℕ) (t : List ℕ) (vs : List Volume) → volumes_from k n t ≡ Some vs → Read k n (length t) vs)
        → choose (good_head h r) (λ _. map_o (λ vs. volume_at at h r ∷ vs) (volumes_from k (at + 12 + length_of h) (drop (length_of h) r))) (λ _. None) ≡ Some vs
        → Read (suc k) at (length (b ∷ s)) vs
    go h r p q ih e = by-choose (λ o. o ≡ Some vs → Read (suc k) at (length (b ∷ s)) vs) (good_head h r) _ _ taken (λ _ z. none-some z) e
      where
        taken : good_head h r ≡ true → map_o (λ vs. volume_at at h r ∷ vs) (volumes_from k (at + 12 + length_of h) (drop (length_of h) r)) ≡ Some vs → Read (suc k) at (length (b ∷ s)) vs
        taken g z =
            let (us, f, w) = map-some (λ vs. volume_at at h r ∷ vs) (volumes_from k (at + 12 + length_of h) (drop (length_of h) r)) vs z in
            let m = eqb-true (length h) 12 (and_left (eqb (length h) 12) _ (and_left (marked h) _ (and_left (marked h && good_name (take 8 (drop 2 h))) _ g))) in
            let n : 12 + length r ≡ length (b ∷ s) = omega arith in
            subst (λ (n : ℕ). Read (suc k) at n vs) n (subst (Read (suc k) at (12 + length r)) w (read_step k at h r us g (ih _ _ us f)))

-- what a spool's volumes are
pub record Spooled (s : List ℕ) (vs : List Volume) : Type 0 where
  pub size : length s ≡ total (λ v. 12 + length v.body) vs
  pub placed : vs ≡ laid 0 (names_of vs) (map (λ v. v.body) vs)
  pub named : all is_name (names_of vs) ≡ true
  pub differ : distinct (names_of vs) ≡ true
  pub one : 1 ≤ length vs
  pub few : length vs ≤ most_volumes
  pub fits : length s ≤ most_bytes

pub volumes_inv : (s : List ℕ) (vs : List Volume) → volumes_of s ≡ Some vs → Spooled s vs
unfolding volumes_of
volumes_inv s vs e =
    by-choose (λ o. o ≡ Some vs → Spooled s vs) (within 1 most_bytes (length s)) _ _
    (λ w. sound (volumes_from most_volumes 0 s) (volumes-read most_volumes 0 s) (leb-true (length s) most_bytes (and_right (leb 1 (length s)) _ w)))
    (λ _ z. none-some z) e
  where
    sound : (o : Option (List Volume)) → ((us : List Volume) → o ≡ Some us → Read most_volumes 0 (length s) us) → length s ≤ most_bytes → sound_volumes o ≡ Some vs → Spooled s vs
    sound None i h e = none-some e
    sound (Some us) i h e = go (not (is_nil us) && distinct (names_of us)) refl e
      where
        go : (t : Bool) → (not (is_nil us) && distinct (names_of us)) ≡ t → cond t (Some us) None ≡ Some vs → Spooled s vs
        go false p e = none-some e
        go true p e =
            let q : us ≡ vs = cc in
            let r = i us refl in
            subst (Spooled s) q (record {
              size = r.size;
              placed = r.placed;
              named = r.named;
              differ = and_right (not (is_nil us)) _ p;
              one = not-nil us (and_left (not (is_nil us)) _ p);
              few = r.few;
              fits = h;
            })

-- ── what was written as volumes ──
volume-length : (n b : List ℕ) → length (volume_bytes n b) ≡ 12 + length b
volume-length n b = omega (arith, length-append (86 ∷ 80 ∷ padded_name n) (length b / 256 % 256 ∷ length b % 256 ∷ b), padded-length n)

pub framed-length : (names bodies : List (List ℕ)) → length names ≡ length bodies → length (framed names bodies) ≡ total (λ b. 12 + length b) bodies
framed-length names [] e = refl
framed-length [] (b ∷ bodies) e = absurd (omega arith)
framed-length (n ∷ names) (b ∷ bodies) e =
    omega (arith, length-append (volume_bytes n b) (framed names bodies), volume-length n b, framed-length names bodies (omega arith))

-- the twelve bytes before a body
abbrev head_of : List ℕ → List ℕ → List ℕ
head_of n b = (86 ∷ 80 ∷ padded_name n) ++ (length b / 256 % 256 ∷ length b % 256 ∷ [])

head-length : (n b : List ℕ) → length (head_of n b) ≡ 12
head-length n b = omega (arith, length-append (86 ∷ 80 ∷ padded_name n) (length b / 256 % 256 ∷ length b % 256 ∷ []), padded-length n)

head_says : (n b : List ℕ) → length b < 65536 → length_of (head_of n b) ≡ length b
head_says n b h =
    let hi = length b / 256 % 256 in
    let lo = length b % 256 in
    let p = padded_name n in
    let e = padded-length n in
    let second : get_or (p ++ hi ∷ lo ∷ []) 9 0 ≡ lo = subst (λ (i : ℕ). get_or (p ++ hi ∷ lo ∷ []) i 0 ≡ lo) (omega arith) (get_or-append-add p (hi ∷ lo ∷ []) 1 0) in
    rw (get_or_at p hi (lo ∷ []) 0 8 e, second) (omega arith)

head-name : (n b : List ℕ) → take 8 (drop 2 (head_of n b)) ≡ padded_name n
head-name n b = take_at (padded_name n) (length b / 256 % 256 ∷ length b % 256 ∷ []) 8 (padded-length n)

name-good : (n : List ℕ) → is_name n ≡ true → good_name (padded_name n) ≡ true
name-good n e =
    let u = leb-true 1 (length n) (and_left (leb 1 (length n)) _ (and_left (within 1 8 (length n)) _ e)) in
    rw (name_back n e, not-empty n u, and_right (within 1 8 (length n)) _ e) (same_refl (padded_name n))

head-good : (n b r : List ℕ) → is_name n ≡ true → length b < 65536 → length b ≤ length r → good_head (head_of n b) r ≡ true
head-good n b r e h f = rw (eq-eqb (length (head_of n b)) 12 (head-length n b), head-name n b, name-good n e, head_says n b h, le-leb (length b) (length r) f)

head-behind : (n b r : List ℕ) → volume_bytes n b ++ r ≡ head_of n b ++ (b ++ r)
head-behind n b r =
    append_assoc (86 ∷ 80 ∷ padded_name n) (length b / 256 % 256 ∷ length b % 256 ∷ b) r
    ∙ sym (append_assoc (86 ∷ 80 ∷ padded_name n) (length b / 256 % 256 ∷ length b % 256 ∷ []) (b ++ r))

-- a head that passes is taken, and what is behind it read on
volumes-step : (k at : ℕ) (h r : List ℕ) → length h ≡ 12 → good_head h r ≡ true
    → volumes_from (suc k) at (h ++ r) ≡ map_o (λ vs. volume_at at h r ∷ vs) (volumes_from k (at + 12 + length_of h) (drop (length_of h) r))
volumes-step k at [] r e g = absurd (omega arith)
volumes-step k at (b ∷ h) r e g = go (take 12 (b ∷ h ++ r)) (drop 12 (b ∷ h ++ r)) (take_at (b ∷ h) r 12 e) (drop_at (b ∷ h) r 12 e)
  where
    go : (h' r' : List ℕ) → h' ≡ b ∷ h → r' ≡ r
        → choose (good_head h' r') (λ _. map_o (λ vs. volume_at at h' r' ∷ vs) (volumes_from k (at + 12 + length_of h') (drop (length_of h') r'))) (λ _. None)
        ≡ map_o (λ vs. volume_at at (b ∷ h) r ∷ vs) (volumes_from k (at + 12 + length_of (b ∷ h)) (drop (length_of (b ∷ h)) r))
    go h' r' p q = rw (p, q, g)

volumes-from : (k at : ℕ) (names bodies : List (List ℕ)) → length names ≡ length bodies → length names ≤ k → all is_name names ≡ true → total (λ b. 12 + length b) bodies < 65536
    → volumes_from k at (framed names bodies) ≡ Some (laid at names bodies)
volumes-from zero at [] [] e h g f = refl
volumes-from (suc k) at [] [] e h g f = refl
volumes-from k at (n ∷ names) [] e h g f = absurd (omega arith)
volumes-from k at [] (b ∷ bodies) e h g f = absurd (omega arith)
volumes-from zero at (n ∷ names) (b ∷ bodies) e h g f = absurd (omega arith)
volumes-from (suc k) at (n ∷ names) (b ∷ bodies) e h g f =
    let r = framed names bodies in
    ap (volumes_from (suc k) at) (head-behind n b r)
    ∙ volumes-step k at (head_of n b) (b ++ r) (head-length n b) (head-good n b (b ++ r) (and_left (is_name n) _ g) (omega arith) (omega (arith, length-append b r)))
    ∙ rw (
      head_says n b (omega arith),
      head-name n b,
      name_back n (and_left (is_name n) _ g),
      take_at b r (length b) refl,
      drop_at b r (length b) refl,
      volumes-from k (at + 12 + length b) names bodies (omega arith) (omega arith) (and_right (is_name n) _ g) (omega arith),
    )

bodies-fewer : (bodies : List (List ℕ)) → length bodies ≤ total (λ b. 12 + length b) bodies
bodies-fewer [] = omega arith
bodies-fewer (b ∷ bodies) = omega (arith, bodies-fewer bodies)

pub volumes-back : (names bodies : List (List ℕ)) → length names ≡ length bodies → 1 ≤ length names → length names ≤ most_volumes → all is_name names ≡ true → distinct names ≡ true
    → length (framed names bodies) ≤ most_bytes → volumes_of (framed names bodies) ≡ Some (laid 0 names bodies)
unfolding volumes_of
volumes-back names bodies e one few good d h =
    let f = framed-length names bodies e in
    let n = names-laid 0 names bodies e in
    rw (
      le-leb 1 (length (framed names bodies)) (omega (arith, bodies-fewer bodies)),
      le-leb (length (framed names bodies)) most_bytes h,
      volumes-from most_volumes 0 names bodies e few good (omega arith),
      n,
      not-empty (laid 0 names bodies) (omega (arith, length-map (laid 0 names bodies) (λ v. v.name), ap length n)),
      d,
    )
