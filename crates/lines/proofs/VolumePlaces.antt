-- Laws of the walk over a spool's volumes: the head, one volume more, and what the places hold of the volumes.
use Rattle.std.specs.Prelude.{Option, Some, None}
use Rattle.std.specs.List.{starts_with}
use Rattle.lines.proofs.LineForms.{eqb-flip}
use Prim.Native.Nat.{ℕ, zero, suc, ◌+◌, ◌*◌, ◌-◌, ◌<◌, ◌≤◌}
use mathlib.Core.Path.{◌≡◌, refl, ap, sym, subst, ◌∙◌}
use mathlib.Core.Bool.{Bool, true, false, cond, ◌&&◌, not}
use mathlib.Core.List.{List, [], ◌∷◌, map}
use native.Mathlib.Omega.{arith}
use lib.Dec.{eqb, leb}
use lib.ListN.{length, get_or, take, drop, set, length-drop, length-take, drop_of_length-le, length-map, length-set}
use lib.Seq.{drop-drop, take-take, get_or-take, length-take-le, sets, sets-eq, length-sets, take_at, take_all}
use borrow.Author.Tests.{eq-eqb, eqb-true, ne_eqb, le-leb, lt-leb, leb-true, leb-false}
use Rattle.rules.proofs.Chains.{and_left, and_right, and_true, and_false, cond_same, ap-cond, same-eq, same_refl, none-some}
use Rattle.rules.specs.Base.{choose, all, is_nil, is_some, map_o, same, index_of, among, distinct, within}
use Rattle.rules.specs.Spool.{most_bytes, most_volumes, Volume, name_byte, name_of, padded_name, good_name, length_of, good_head, volume_at, volumes_from, names_of, sound_volumes, volumes_of}
use Rattle.lines.specs.VolumeNames.{raw_name, Ranged}
use Rattle.lines.specs.VolumePlaces.{head_in, walked, zeros, layout, no_layout, layout_with, layout_of}
use Rattle.lines.specs.declared.Layout.{Layout}
use Rattle.leaves.proofs.Scan.{at as by_place}

-- ── the head, byte by byte ──
abbrev pub size_in : List ℕ → ℕ
size_in s = get_or s 10 0 * 256 + get_or s 11 0

abbrev pub head_by : Bool → Bool → Bool → Bool → ℕ → Option ℕ
head_by a b c d n = cond (((a && b) && c) && d) (Some n) None

pub head-short : (s : List ℕ) → length s < 12 → head_in s ≡ None
unfolding head_in
head-short s h = rw (ne_eqb (length (take 12 s)) 12 (omega (arith, length-take 12 s)))

same-mark : (s : List ℕ) → 12 ≤ length s → same (take 2 (take 12 s)) (86 ∷ 80 ∷ []) ≡ starts_with eqb s (86 ∷ 80 ∷ [])
same-mark [] h = absurd (omega arith)
same-mark (a ∷ []) h = absurd (omega arith)
same-mark (a ∷ b ∷ s) h = rw (eqb-flip a 86, eqb-flip b 80)

name-part : (s : List ℕ) → 12 ≤ length s → take 8 (drop 2 (take 12 s)) ≡ take 8 (drop 2 s)
name-part [] h = refl
name-part (a ∷ []) h = refl
name-part (a ∷ b ∷ s) h = take-take 8 10 s (omega arith)

size_is : (s : List ℕ) → length_of (take 12 s) ≡ size_in s
size_is s =
    let p = get_or-take 12 s 10 0 (omega arith) in
    let q = get_or-take 12 s 11 0 (omega arith) in
    ap (λ k. k * 256 + get_or (take 12 s) 11 0) p ∙ ap (λ k. get_or s 10 0 * 256 + k) q

pub head-is : (s : List ℕ) → 12 ≤ length s
    → head_in s ≡ head_by true (starts_with eqb s (86 ∷ 80 ∷ [])) (good_name (take 8 (drop 2 s))) (leb (size_in s) (length s - 12)) (size_in s)
unfolding head_in
head-is s h =
    go (eq-eqb (length (take 12 s)) 12 (length-take-le 12 s h)) (same-mark s h) (ap good_name (name-part s h)) (ap (λ k. leb k (length (drop 12 s))) (size_is s) ∙ ap (leb (size_in s)) (length-drop 12 s)) (size_is s)
  where
    go : {a a' b b' c c' d d' : Bool} {n n' : ℕ} → a ≡ a' → b ≡ b' → c ≡ c' → d ≡ d' → n ≡ n' → head_by a b c d n ≡ head_by a' b' c' d' n'
    go p q r t u = cc

-- a good head, from the answer
pub record Headed (t : List ℕ) (m : ℕ) : Type 0 where
  pub good : good_head (take 12 t) (drop 12 t) ≡ true
  pub size : length_of (take 12 t) ≡ m
  pub room : 12 + m ≤ length t

head-room : (h r : List ℕ) → good_head h r ≡ true → (length h ≡ 12) × (length_of h ≤ length r)
head-room h r g =
    let f = take 8 (drop 2 h) in
    let a = eqb (length h) 12 in
    let b = same (take 2 h) (86 ∷ 80 ∷ []) in (
      eqb-true (length h) 12 (and_left a b (and_left (a && b) (good_name f) (and_left ((a && b) && good_name f) (leb (length_of h) (length r)) g))),
      leb-true (length_of h) (length r) (and_right ((a && b) && good_name f) (leb (length_of h) (length r)) g),
    )

pub head-name : (h r : List ℕ) → good_head h r ≡ true → good_name (take 8 (drop 2 h)) ≡ true
head-name h r g =
    let f = take 8 (drop 2 h) in
    let a = eqb (length h) 12 in
    let b = same (take 2 h) (86 ∷ 80 ∷ []) in
    and_right (a && b) (good_name f) (and_left ((a && b) && good_name f) (leb (length_of h) (length r)) g)

holds_inv : (g : Bool) (n m : ℕ) → cond g (Some n) None ≡ Some m → (g ≡ true) × (n ≡ m)
holds_inv true n m e = (refl, cc)
holds_inv false n m e = absurd (let z : ◌≡◌ {A = ℕ} 0 1 = cc in omega arith)

bad_inv : (g : Bool) (n : ℕ) → cond g (Some n) None ≡ None → g ≡ false
bad_inv true n e = absurd (let z : ◌≡◌ {A = ℕ} 0 1 = cc in omega arith)
bad_inv false n e = refl

pub head-holds : (t : List ℕ) (m : ℕ) → head_in t ≡ Some m → Headed t m
unfolding head_in
head-holds t m e =
    let i = holds_inv (good_head (take 12 t) (drop 12 t)) (length_of (take 12 t)) m e in
    let r = head-room (take 12 t) (drop 12 t) i.0 in
    record { good = i.0; size = i.1; room = omega (arith, r.0, r.1, i.1, length-take 12 t, length-drop 12 t) }

pub head-bad : (t : List ℕ) → head_in t ≡ None → good_head (take 12 t) (drop 12 t) ≡ false
unfolding head_in
head-bad t e = bad_inv (good_head (take 12 t) (drop 12 t)) (length_of (take 12 t)) e

-- ── the volumes from a place on ──
unfoldable pub rest : ℕ → ℕ → List ℕ → Option (List Volume)
rest k at s = volumes_from k at (drop at s)

open-volumes : (k at : ℕ) (t : List ℕ) → 0 < length t
    → volumes_from (suc k) at t ≡ choose (good_head (take 12 t) (drop 12 t)) (λ _. map_o (λ vs. volume_at at (take 12 t) (drop 12 t) ∷ vs) (volumes_from k (at + 12 + length_of (take 12 t)) (drop (length_of (take 12 t)) (drop 12 t)))) (λ _. None)
open-volumes k at [] h = absurd (omega arith)
open-volumes k at (b ∷ t) h = refl

module _ (s : List ℕ) (at : ℕ) where
  pub rest-full : at < length s → rest 0 at s ≡ None
  unfolding rest
  rest-full h = rw (by_place s at h)

  pub rest_end : (k : ℕ) → length s ≤ at → rest k at s ≡ Some []
  unfolding rest
  rest_end zero h = rw (drop_of_length-le s h)
  rest_end (suc k) h = rw (drop_of_length-le s h)

  pub rest-bad : (k : ℕ) → at < length s → head_in (drop at s) ≡ None → rest (suc k) at s ≡ None
  unfolding rest
  rest-bad k h e = open-volumes k at (drop at s) (omega (arith, length-drop at s)) ∙ rw (head-bad (drop at s) e)

  pub rest_more : (k m : ℕ) → at < length s → head_in (drop at s) ≡ Some m
      → rest (suc k) at s ≡ map_o (λ vs. volume_at at (take 12 (drop at s)) (drop 12 (drop at s)) ∷ vs) (rest k (at + 12 + m) s)
  unfolding rest
  rest_more k m h e =
      let g = head-holds (drop at s) m e in
      let p : at + (12 + m) ≡ at + 12 + m = omega arith in
      open-volumes k at (drop at s) (omega (arith, length-drop at s))
      ∙ go (take 12 (drop at s)) (drop 12 (drop at s)) g.good g.size (drop-drop m 12 (drop at s) ∙ drop-drop (12 + m) at s ∙ ap (λ k. drop k s) p)
    where
      go : (h r : List ℕ) → good_head h r ≡ true → length_of h ≡ m → drop m r ≡ drop (at + 12 + m) s
          → choose (good_head h r) (λ _. map_o (λ vs. volume_at at h r ∷ vs) (volumes_from k (at + 12 + length_of h) (drop (length_of h) r))) (λ _. None)
          ≡ map_o (λ vs. volume_at at h r ∷ vs) (volumes_from k (at + 12 + m) (drop (at + 12 + m) s))
      go h r g e d = rw (g, e, d)

-- ── one volume more in the layout ──
pub layout-more : (n : ℕ) (ps ls : List ℕ) (v : Volume) (o : Option (List Volume))
    → layout_with n ps ls (map_o (λ vs. v ∷ vs) o) ≡ layout_with (n + 1) (set ps n v.place) (set ls n (length v.body)) o
layout-more n ps ls v None = refl
layout-more n ps ls v (Some vs) =
    let e : n + suc (length vs) ≡ n + 1 + length vs = omega arith in
    let f : suc n ≡ n + 1 = omega arith in
    let p = set ps n v.place in
    let l = set ls n (length v.body) in
    ap (λ c. layout c (sets p (suc n) (map (λ v. v.place) vs)) (sets l (suc n) (map (λ v. length v.body) vs))) e
    ∙ ap (λ k. layout (n + 1 + length vs) (sets p k (map (λ v. v.place) vs)) (sets l k (map (λ v. length v.body) vs))) f

-- ── what the walk holds at each volume ──
pub record Walked (s : List ℕ) (n at : ℕ) (ps ls : List ℕ) : Type 0 where
  pub few : n ≤ 12
  pub inside : at ≤ length s
  pub places : length ps ≡ 12
  pub sizes : length ls ≡ 12
  pub eq : layout_of (walked s) ≡ layout_with n ps ls (rest (12 - n) at s)

pub walk_starts : (s ps ls : List ℕ) → ps ≡ zeros → ls ≡ zeros → Walked s 0 0 ps ls
unfolding layout_of walked rest zeros
walk_starts s ps ls p q = record { few = omega arith; inside = omega arith; places = ap length p; sizes = ap length q; eq = rw (p, q) }

module _ (s : List ℕ) (n at : ℕ) (ps ls : List ℕ) (w : Walked s n at ps ls) where
  pub walk-full : at < length s → n ≡ 12 → layout_of (walked s) ≡ no_layout
  walk-full h e = let z : 12 - n ≡ 0 = omega arith in w.eq ∙ ap (λ k. layout_with n ps ls (rest k at s)) z ∙ ap (layout_with n ps ls) (rest-full s at h)

  pub walk-bad : at < length s → (n ≡ 12 → ⊥) → head_in (drop at s) ≡ None → layout_of (walked s) ≡ no_layout
  walk-bad h f e =
      let b = w.few in
      let z : 12 - n ≡ suc (11 - n) = omega arith in
      w.eq ∙ ap (λ k. layout_with n ps ls (rest k at s)) z ∙ ap (layout_with n ps ls) (rest-bad s at (11 - n) h e)

  pub walk_ends : length s ≤ at → layout_of (walked s) ≡ layout n ps ls
  walk_ends h = let e : n + 0 ≡ n = omega arith in w.eq ∙ ap (layout_with n ps ls) (rest_end s at (12 - n) h) ∙ ap (λ k. layout k ps ls) e

  pub walk_more : (m : ℕ) → at < length s → (n ≡ 12 → ⊥) → head_in (drop at s) ≡ Some m → Walked s (n + 1) (at + 12 + m) (set ps n (at + 12)) (set ls n m)
  walk_more m h f e =
      let g = head-holds (drop at s) m e in
      let b = w.few in
      let z : 12 - n ≡ suc (12 - (n + 1)) = omega arith in
      let t = drop at s in
      let fits : m ≤ length (drop 12 t) = omega (arith, g.room, length-drop 12 t) in
      let body : length (take (length_of (take 12 t)) (drop 12 t)) ≡ m = ap (λ k. length (take k (drop 12 t))) g.size ∙ length-take-le m (drop 12 t) fits in
      record {
        few = omega arith;
        inside = omega (arith, g.room, length-drop at s);
        places = simp length-set w.places;
        sizes = simp length-set w.sizes;
        eq = w.eq ∙ ap (λ k. layout_with n ps ls (rest k at s)) z ∙ ap (layout_with n ps ls) (rest_more s at (12 - (n + 1)) m h e)
            ∙ layout-more n ps ls (volume_at at (take 12 t) (drop 12 t)) (rest (12 - (n + 1)) (at + 12 + m) s)
            ∙ ap (λ k. layout_with (n + 1) (set ps n (at + 12)) (set ls n k) (rest (12 - (n + 1)) (at + 12 + m) s)) body;
      }

-- ── what a spool's places hold ──
-- a volume is read from the spool by its place: its name stands before it, and its bytes from there on
pub record Placed (s : List ℕ) (v : Volume) : Type 0 where
  pub named : v.name ≡ name_of (raw_name s v.place)
  pub good : good_name (raw_name s v.place) ≡ true
  pub low : 12 ≤ v.place
  pub high : v.place + length v.body ≤ length s
  pub held : v.body ≡ take (length v.body) (drop v.place s)

abbrev pub AllPlaced : List ℕ → List Volume → Type 0
AllPlaced s [] = Unit {0}
AllPlaced s (v ∷ vs) = Placed s v × AllPlaced s vs

raw-is : (s : List ℕ) (at : ℕ) → 12 ≤ length (drop at s) → take 8 (drop 2 (take 12 (drop at s))) ≡ raw_name s (at + 12)
unfolding raw_name
raw-is s at h =
    let e : at + 2 ≡ at + 12 - 10 = omega arith in
    name-part (drop at s) h ∙ ap (take 8) (drop-drop 2 at s ∙ ap (λ k. drop k s) e)

placed : (s : List ℕ) (at : ℕ) → good_head (take 12 (drop at s)) (drop 12 (drop at s)) ≡ true → Placed s (volume_at at (take 12 (drop at s)) (drop 12 (drop at s)))
placed s at g =
    let t = drop at s in
    let m = length_of (take 12 t) in
    let r = head-room (take 12 t) (drop 12 t) g in
    let long : 12 ≤ length t = omega (arith, r.0, length-take 12 t) in
    let raw = raw-is s at long in
    let size : length (take m (drop 12 t)) ≡ m = length-take-le m (drop 12 t) r.1 in
    record {
      named = ap name_of raw;
      good = sym (ap good_name raw) ∙ head-name (take 12 t) (drop 12 t) g;
      low = omega arith;
      high = omega (arith, size, r.1, length-drop 12 t, length-drop at s);
      held = ap (take m) (drop-drop 12 at s) ∙ ap (λ k. take k (drop (at + 12) s)) (sym size);
    }

map-some : {A B : Type 0} (f : A → B) (o : Option A) (b : B) → map_o f o ≡ Some b → (a : A) × (o ≡ Some a) × (f a ≡ b)
map-some f None b e = none-some e
map-some f (Some a) b e = (a, refl, cc)

abbrev Kept : List ℕ → ℕ → List Volume → Type 0
Kept s k vs = AllPlaced s vs × (length vs ≤ k)

none_kept : (s : List ℕ) (k : ℕ) (vs : List Volume) → Some [] ≡ Some vs → Kept s k vs
none_kept s k vs e = let q : [] ≡ vs = cc in subst (λ us. Kept s k us) q (tt, omega arith)

pub all_placed : (k at : ℕ) (s : List ℕ) (vs : List Volume) → rest k at s ≡ Some vs → Kept s k vs
all_placed zero at s vs e = go (leb (length s) at) refl
  where
    go : (b : Bool) → leb (length s) at ≡ b → Kept s zero vs
    go true q = none_kept s zero vs (sym (rest_end s at zero (leb-true (length s) at q)) ∙ e)
    go false q = none-some (sym (rest-full s at (leb-false (length s) at q)) ∙ e)
all_placed (suc k) at s vs e = go (leb (length s) at) refl (head_in (drop at s)) refl (λ at' us z. all_placed k at' s us z)
  where
    go : (b : Bool) → leb (length s) at ≡ b → (h : Option ℕ) → head_in (drop at s) ≡ h → ((at' : ℕ) (us : List Volume) → rest k at' s ≡ Some us → Kept s k us) → Kept s (suc k) vs
    go true q h p ih = none_kept s (suc k) vs (sym (rest_end s at (suc k) (leb-true (length s) at q)) ∙ e)
    go false q None p ih = none-some (sym (rest-bad s at k (leb-false (length s) at q) p) ∙ e)
    go false q (Some m) p ih =
        let v = volume_at at (take 12 (drop at s)) (drop 12 (drop at s)) in
        let (us, f, w) = map-some (λ vs. v ∷ vs) (rest k (at + 12 + m) s) vs (sym (rest_more s at k m (leb-false (length s) at q) p) ∙ e) in
        let i = ih (at + 12 + m) us f in
        subst (λ us. Kept s (suc k) us) w ((placed s at (head-holds (drop at s) m p).good, i.0), omega (arith, i.1))

-- ── the names ──
both : (x y : Bool) → (x ≡ true → y ≡ true) → (y ≡ true → x ≡ true) → x ≡ y
both true y f g = sym (f refl)
both false true f g = g refl
both false false f g = refl

good-padded : (a : List ℕ) → good_name a ≡ true → a ≡ padded_name (name_of a)
good-padded a g = same-eq a (padded_name (name_of a)) (and_right (not (is_nil (name_of a)) && all name_byte (name_of a)) (same a (padded_name (name_of a))) g)

same_names : (a b : List ℕ) → good_name a ≡ true → good_name b ≡ true → same a b ≡ same (name_of a) (name_of b)
same_names a b p q =
    both (same a b) (same (name_of a) (name_of b))
    (λ e. ap (λ x. same (name_of a) (name_of x)) (sym (same-eq a b e)) ∙ same_refl (name_of a))
    (λ e. ap (same a) (good-padded b q ∙ ap padded_name (sym (same-eq (name_of a) (name_of b) e)) ∙ sym (good-padded a p)) ∙ same_refl a)

abbrev raws : List ℕ → List Volume → List (List ℕ)
raws s vs = map (raw_name s) (map (λ v. v.place) vs)

same_index : (s : List ℕ) (v : Volume) (vs : List Volume) → Placed s v → AllPlaced s vs → index_of (raw_name s v.place) (raws s vs) ≡ index_of v.name (names_of vs)
same_index s v [] p q = refl
same_index s v (u ∷ us) p q =
    let e : same (raw_name s v.place) (raw_name s u.place) ≡ same v.name u.name =
    same_names (raw_name s v.place) (raw_name s u.place) p.good q.0.good ∙ ap (λ x. same x (name_of (raw_name s u.place))) (sym p.named) ∙ ap (same v.name) (sym q.0.named) in
    let f = same_index s v us p q.1 in
    ap (λ t. cond t (Some 0) (map_o suc (index_of (raw_name s v.place) (raws s us)))) e ∙ ap (λ o. cond (same v.name u.name) (Some 0) (map_o suc o)) f

same-distinct : (s : List ℕ) (vs : List Volume) → AllPlaced s vs → distinct (raws s vs) ≡ distinct (names_of vs)
same-distinct s [] p = refl
same-distinct s (v ∷ vs) p =
    ap (λ o. not (is_some o) && distinct (raws s vs)) (same_index s v vs p.0 p.1) ∙ ap (λ t. not (among v.name (names_of vs)) && t) (same-distinct s vs p.1)

-- ── the whole spool ──
zeros-long : length zeros ≡ 12
unfolding zeros
zeros-long = refl

-- the places of a layout that are a volume's
abbrev pub places_of : Layout → List ℕ
places_of l = take l.count l.places

walked-rest : (s : List ℕ) → walked s ≡ rest most_volumes 0 s
unfolding walked rest
walked-rest s = refl

stored-are : (f : Volume → ℕ) (vs : List Volume) → length vs ≤ most_volumes → take (0 + length vs) (sets zeros 0 (map f vs)) ≡ map f vs
stored-are f vs h =
    let xs = map f vs in
    let n : length xs ≡ length vs = length-map vs f in
    let z : length zeros ≡ 12 = zeros-long in
    ap (take (0 + length vs)) (sets-eq xs zeros 0 (omega arith)) ∙ take_at xs (drop (0 + length xs) zeros) (0 + length vs) (omega arith)

places-are : (vs : List Volume) → length vs ≤ most_volumes → places_of (layout_of (Some vs)) ≡ map (λ v. v.place) vs
unfolding layout_of
places-are vs h = stored-are (λ v. v.place) vs h

ranged-are : (s : List ℕ) (vs : List Volume) → AllPlaced s vs → Ranged s (map (λ v. v.place) vs)
ranged-are s [] p i h = absurd (omega arith)
ranged-are s (v ∷ vs) p zero h = (p.0.low, omega (arith, p.0.high))
ranged-are s (v ∷ vs) p (suc i) h = ranged-are s vs p.1 i (omega arith)

pub twelve : 0 ∷ 0 ∷ 0 ∷ 0 ∷ 0 ∷ 0 ∷ 0 ∷ 0 ∷ 0 ∷ 0 ∷ 0 ∷ 0 ∷ [] ≡ zeros
unfolding zeros
twelve = refl

-- the bytes from a place on, as a part of the spool
pub tail-is : (s : List ℕ) (at : ℕ) → take (length s - at) (drop at s) ≡ drop at s
tail-is s at = take_all (length s - at) (drop at s) (omega (arith, length-drop at s))

volumes-walked : (s : List ℕ) → volumes_of s ≡ choose (within 1 most_bytes (length s)) (λ _. sound_volumes (walked s)) (λ _. None)
unfolding volumes_of walked
volumes-walked s = refl

no-layout-is : layout_of None ≡ no_layout
unfolding layout_of
no-layout-is = refl

empty-layout : layout_of (Some []) ≡ no_layout
unfolding layout_of no_layout
empty-layout = refl

nothing-told : (s : List ℕ) → (no_layout.count ≤ 12) × (length no_layout.places ≡ 12) × Ranged s (places_of no_layout)
unfolding no_layout
nothing-told s = (omega arith, zeros-long, λ i h. absurd (omega arith))

some-count : (vs : List Volume) → length vs ≤ 12 → (layout_of (Some vs)).count ≤ 12
unfolding layout_of
some-count vs h = omega arith

some-long : (vs : List Volume) → length (layout_of (Some vs)).places ≡ 12
unfolding layout_of
some-long vs = length-sets zeros 0 (map (λ v. v.place) vs) ∙ zeros-long

sound-is : (s : List ℕ) (o : Option (List Volume)) → walked s ≡ o → layout_of (sound_volumes o) ≡ cond (distinct (map (raw_name s) (places_of (layout_of o)))) (layout_of o) no_layout
sound-is s None e = rw no-layout-is (sym (cond_same (distinct (map (raw_name s) (places_of no_layout))) no_layout))
sound-is s (Some []) e = rw (no-layout-is, empty-layout) (sym (cond_same (distinct (map (raw_name s) (places_of no_layout))) no_layout))
sound-is s (Some (v ∷ vs)) e =
    let us = v ∷ vs in
    let k = all_placed most_volumes 0 s us (sym (walked-rest s) ∙ e) in
    let d : distinct (map (raw_name s) (places_of (layout_of (Some us)))) ≡ distinct (names_of us) = ap (λ ps. distinct (map (raw_name s) ps)) (places-are us k.1) ∙ same-distinct s us k.0 in
    ap-cond layout_of (distinct (names_of us)) (Some us) None ∙ ap (λ t. cond t (layout_of (Some us)) (layout_of None)) (sym d)
    ∙ ap (cond (distinct (map (raw_name s) (places_of (layout_of (Some us))))) (layout_of (Some us))) no-layout-is

pub volumes-empty : (s : List ℕ) → length s ≡ 0 → layout_of (volumes_of s) ≡ no_layout
volumes-empty s h = ap layout_of (volumes-walked s) ∙ rw h no-layout-is

pub volumes-long : (s : List ℕ) → most_bytes < length s → layout_of (volumes_of s) ≡ no_layout
volumes-long s h = ap layout_of (volumes-walked s) ∙ rw (lt-leb (length s) most_bytes h, and_false (leb 1 (length s))) no-layout-is

module _ (s : List ℕ) (l : Layout) (e : l ≡ layout_of (walked s)) where
  told : (o : Option (List Volume)) → walked s ≡ o → ((layout_of o).count ≤ 12) × (length (layout_of o).places ≡ 12) × Ranged s (places_of (layout_of o))
  told None q = rw no-layout-is (nothing-told s)
  told (Some vs) q =
      let k = all_placed most_volumes 0 s vs (sym (walked-rest s) ∙ q) in
      (some-count vs k.1, some-long vs, rw (places-are vs k.1) (ranged-are s vs k.0))

  pub layout-told : (l.count ≤ 12) × (length l.places ≡ 12) × Ranged s (places_of l)
  layout-told = rw e (told (walked s) refl)

  by_names : 1 ≤ length s → length s ≤ most_bytes → layout_of (volumes_of s) ≡ cond (distinct (map (raw_name s) (places_of l))) l no_layout
  by_names h k =
      ap layout_of (volumes-walked s) ∙ ap (λ t. layout_of (choose t (λ _. sound_volumes (walked s)) (λ _. None))) (and_true (leb 1 (length s)) (leb (length s) most_bytes) (le-leb 1 (length s) h) (le-leb (length s) most_bytes k))
      ∙ sound-is s (walked s) refl ∙ ap (λ l. cond (distinct (map (raw_name s) (places_of l))) l no_layout) (sym e)

  pub volumes-differ : 1 ≤ length s → length s ≤ most_bytes → distinct (map (raw_name s) (places_of l)) ≡ true → layout_of (volumes_of s) ≡ l
  volumes-differ h k d = by_names h k ∙ rw d

  pub volumes-again : 1 ≤ length s → length s ≤ most_bytes → distinct (map (raw_name s) (places_of l)) ≡ false → layout_of (volumes_of s) ≡ no_layout
  volumes-again h k d = by_names h k ∙ rw d

-- ── what a caller holds of an accepted spool ──
pub record Laid (s : List ℕ) (vs : List Volume) (l : Layout) : Type 0 where
  pub some-volume : 1 ≤ length vs
  pub few : length vs ≤ most_volumes
  pub count : l.count ≡ length vs
  pub places : take (length vs) l.places ≡ map (λ v. v.place) vs
  pub lengths : take (length vs) l.lengths ≡ map (λ v. length v.body) vs
  pub placed : AllPlaced s vs
  pub spool : length s ≤ most_bytes

laid-is : (s : List ℕ) (vs : List Volume) → 1 ≤ length vs → Kept s most_volumes vs → length s ≤ most_bytes → Laid s vs (layout_of (Some vs))
unfolding layout_of
laid-is s vs h k b =
    let e : 0 + length vs ≡ length vs = omega arith in
    record {
      some-volume = h;
      few = k.1;
      count = e;
      places = rw e at (stored-are (λ v. v.place) vs k.1);
      lengths = rw e at (stored-are (λ v. length v.body) vs k.1);
      placed = k.0;
      spool = b;
    }

pub volumes-laid : (s : List ℕ) (vs : List Volume) → volumes_of s ≡ Some vs → Laid s vs (layout_of (volumes_of s))
volumes-laid s vs e = rw e (go (within 1 most_bytes (length s)) refl (walked s) refl (sym (volumes-walked s) ∙ e))
  where
    pick : {us : List Volume} (t : Bool) → cond t (Some us) None ≡ Some vs → Some us ≡ Some vs
    pick true z = z
    pick false z = none-some z

    sound : (us : List Volume) → (t : Bool) → not (is_nil us) ≡ t → length s ≤ most_bytes → walked s ≡ Some us → cond (t && distinct (names_of us)) (Some us) None ≡ Some vs → Laid s vs (layout_of (Some vs))
    sound [] t q b w z = none-some (ap (λ t. cond (t && distinct (names_of [])) (Some []) None) q ∙ z)
    sound (u ∷ us) false q b w z = none-some z
    sound (u ∷ us) true q b w z =
        let f : Some (u ∷ us) ≡ Some vs = pick (distinct (names_of (u ∷ us))) z in
        let g : (u ∷ us) ≡ vs = cc in
        subst (λ us. Laid s us (layout_of (Some us))) g (laid-is s (u ∷ us) (omega arith) (all_placed most_volumes 0 s (u ∷ us) (sym (walked-rest s) ∙ w)) b)

    go : (t : Bool) → within 1 most_bytes (length s) ≡ t → (o : Option (List Volume)) → walked s ≡ o → choose t (λ _. sound_volumes o) (λ _. None) ≡ Some vs → Laid s vs (layout_of (Some vs))
    go false q o w z = none-some z
    go true q None w z = none-some z
    go true q (Some us) w z = sound us (not (is_nil us)) refl (leb-true (length s) most_bytes (and_right (leb 1 (length s)) (leb (length s) most_bytes) q)) w z
