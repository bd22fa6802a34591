-- What a layout says of each volume of a spool: laws for those who walk from volume to volume.
use Rattle.std.specs.Prelude.{Option, Some, None}
use Prim.Native.Nat.{ℕ, zero, suc, ◌+◌, ◌-◌, ◌<◌, ◌≤◌}
use mathlib.Core.Path.{◌≡◌, refl, ap, sym, subst, ◌∙◌}
use mathlib.Core.List.{List, [], ◌∷◌, ◌++◌, map}
use native.Mathlib.Omega.{arith}
use lib.ListN.{length, get_or, take, drop, length-drop}
use lib.Seq.{get_or-take, drop-drop}
use Rattle.rules.specs.Base.{is_some}
use Rattle.rules.specs.Machine as M
use Rattle.rules.specs.Answers.{listed, no_lines, next_name, lines_of_volume, list_volumes}
use Rattle.rules.specs.Spool.{most_volumes, Volume, lines_of, volumes_of}
use Rattle.lines.specs.LineLook.{PartOf}
use Rattle.lines.specs.VolumePlaces.{layout_of}
use Rattle.lines.specs.VolumeNames.{name_at}
use Rattle.lines.specs.LineEnds.{unsound_from, first_unsound}
use Rattle.lines.specs.declared.Layout.{Layout}
use Rattle.lines.proofs.VolumePlaces.{Placed, AllPlaced, volumes-laid}
use Rattle.lines.proofs.VolumeNames.{name-here}
use Rattle.lines.proofs.SoundEnds.{sound_in, unsound-none, unsound-here, unsound-later, unsound-start}

-- the volume with number i + 1 of a spool, as the layout holds it
pub record VolumeIn (s : List ℕ) (l : Layout) (i : ℕ) (v : Volume) : Type 0 where
  pub counted : i < l.count
  pub place : get_or l.places i 0 ≡ v.place
  pub size : get_or l.lengths i 0 ≡ length v.body
  pub low : 12 ≤ v.place
  pub part : PartOf s v.place v.body
  pub name : name_at s v.place ≡ v.name

-- an element and what follows it, by its number
map-nth : (f : Volume → ℕ) (vs : List Volume) (i : ℕ) (v : Volume) (us : List Volume) → drop i vs ≡ v ∷ us → get_or (map f vs) i 0 ≡ f v
map-nth f [] zero v us e = absurd (let z : ◌≡◌ {A = ℕ} 0 1 = cc in omega arith)
map-nth f [] (suc i) v us e = absurd (let z : ◌≡◌ {A = ℕ} 0 1 = cc in omega arith)
map-nth f (w ∷ vs) zero v us e = let q : w ≡ v = cc in ap f q
map-nth f (w ∷ vs) (suc i) v us e = map-nth f vs i v us e

placed-nth : (s : List ℕ) (vs : List Volume) (i : ℕ) (v : Volume) (us : List Volume) → drop i vs ≡ v ∷ us → AllPlaced s vs → Placed s v
placed-nth s [] zero v us e p = absurd (let z : ◌≡◌ {A = ℕ} 0 1 = cc in omega arith)
placed-nth s [] (suc i) v us e p = absurd (let z : ◌≡◌ {A = ℕ} 0 1 = cc in omega arith)
placed-nth s (w ∷ vs) zero v us e p = let q : w ≡ v = cc in rw (← q) p.0
placed-nth s (w ∷ vs) (suc i) v us e p = placed-nth s vs i v us e p.1

module _ (s : List ℕ) (vs : List Volume) (e : volumes_of s ≡ Some vs) where
  pub volume_in : (i : ℕ) (v : Volume) (us : List Volume) → drop i vs ≡ v ∷ us → VolumeIn s (layout_of (volumes_of s)) i v
  volume_in i v us d =
      let l = layout_of (volumes_of s) in
      let laid = volumes-laid s vs e in
      let n = ap length d in
      let h : i < length vs = omega (arith, n, length-drop i vs) in
      let p = placed-nth s vs i v us d laid.placed in
      let count = laid.count in
      record {
        counted = omega (arith, h, count);
        place = sym (get_or-take (length vs) l.places i 0 h) ∙ ap (λ ps. get_or ps i 0) laid.places ∙ map-nth (λ v. v.place) vs i v us d;
        size = sym (get_or-take (length vs) l.lengths i 0 h) ∙ ap (λ ps. get_or ps i 0) laid.lengths ∙ map-nth (λ v. length v.body) vs i v us d;
        low = p.low;
        part = record { bytes = p.held; inside = p.high };
        name = (let high = p.high in name-here s v.place p.low (omega arith)) ∙ sym p.named;
      }

-- ── rule 3 over all volumes ──
pub record Lined (v : Volume) : Type 0 where
  pub lines : List (List ℕ)
  pub are : lines_of v.body ≡ Some lines

abbrev pub AllLined : List Volume → Type 0
AllLined [] = Unit {0}
AllLined (v ∷ vs) = Lined v × AllLined vs

-- what a number says of the volumes from k on: 0, that all have lines; any other, that rule 3 is broken first there
abbrev pub Tells : ℕ → List Volume → ℕ → Type 0
Tells k vs zero = AllLined vs
Tells k vs (suc n) = list_volumes k vs ≡ no_lines (suc n)

-- one volume's lines before the others
tells_more : (k : ℕ) (v : Volume) (vs : List Volume) (ls : List (List ℕ)) (n : ℕ) → lines_of v.body ≡ Some ls → Tells (suc k) vs n → Tells k (v ∷ vs) n
tells_more k v vs ls zero e h = (record { lines = ls; are = e }, h)
tells_more k v vs ls (suc n) e h = rw (e, h)

tells-here : (k : ℕ) (v : Volume) (vs : List Volume) → lines_of v.body ≡ None → Tells (suc k) (v ∷ vs) (suc k)
tells-here k v vs e = rw e

module _ (s : List ℕ) (vs : List Volume) (e : volumes_of s ≡ Some vs) where
  sound-body : (i : ℕ) (v : Volume) (us : List Volume) → drop i vs ≡ v ∷ us → sound_in s (layout_of (volumes_of s)) i ≡ is_some (lines_of v.body)
  sound-body i v us d =
      let l = layout_of (volumes_of s) in
      let w = volume_in s vs e i v us d in
      ap (λ n. is_some (lines_of (take n (drop (get_or l.places i 0) s)))) w.size ∙ ap (λ p. is_some (lines_of (take (length v.body) (drop p s)))) w.place
      ∙ ap (λ t. is_some (lines_of t)) (sym w.part.bytes)

  tells-from : (us : List Volume) (i : ℕ) → drop i vs ≡ us → Tells (suc i) us (unsound_from s (layout_of (volumes_of s)) (most_volumes - i) i)
  tells-from [] i d =
      let l = layout_of (volumes_of s) in
      let n = ap length d in
      let z = unsound-none s l (most_volumes - i) i (omega (arith, n, length-drop i vs, (volumes-laid s vs e).count)) in
      subst (Tells (suc i) []) (sym z) tt
  tells-from (v ∷ us) i d =
      let l = layout_of (volumes_of s) in
      let n = ap length d in
      let few = (volumes-laid s vs e).few in
      let m : i < most_volumes = omega (arith, n, length-drop i vs) in
      let w = volume_in s vs e i v us d in
      let next : drop (i + 1) vs ≡ us = sym (drop-drop 1 i vs) ∙ ap (drop 1) d in
      go m w.counted (lines_of v.body) refl (sound-body i v us d) (tells-from us (i + 1) next)
    where
      go : i < most_volumes → i < (layout_of (volumes_of s)).count → (o : Option (List (List ℕ))) → lines_of v.body ≡ o → sound_in s (layout_of (volumes_of s)) i ≡ is_some (lines_of v.body)
          → Tells (suc (i + 1)) us (unsound_from s (layout_of (volumes_of s)) (most_volumes - (i + 1)) (i + 1)) → Tells (suc i) (v ∷ us) (unsound_from s (layout_of (volumes_of s)) (most_volumes - i) i)
      go m c None q b ih =
          let l = layout_of (volumes_of s) in
          let z : unsound_from s l (most_volumes - i) i ≡ suc i = unsound-here s l i m c (b ∙ ap is_some q) ∙ (omega arith) in
          subst (Tells (suc i) (v ∷ us)) (sym z) (tells-here i v us q)
      go m c (Some ls) q b ih =
          let l = layout_of (volumes_of s) in
          let k : i + 1 ≡ suc i = omega arith in
          subst (Tells (suc i) (v ∷ us)) (sym (unsound-later s l i m c (b ∙ ap is_some q)))
          (tells_more (suc i) v us ls (unsound_from s l (most_volumes - (i + 1)) (i + 1)) q (subst (λ (k : ℕ). Tells (suc k) us (unsound_from s l (most_volumes - (i + 1)) (i + 1))) k ih))

  tells : Tells 1 vs (first_unsound s (layout_of (volumes_of s)))
  tells = subst (Tells 1 vs) (sym (unsound-start s (layout_of (volumes_of s)))) (tells-from vs 0 refl)

  -- no volume breaks rule 3
  pub sound-volumes : first_unsound s (layout_of (volumes_of s)) ≡ 0 → AllLined vs
  sound-volumes q = subst (Tells 1 vs) q tells

  -- the first that does
  pub unsound-volume : (n : ℕ) → first_unsound s (layout_of (volumes_of s)) ≡ suc n → list_volumes 1 vs ≡ no_lines (suc n)
  unsound-volume n q = subst (Tells 1 vs) q tells

-- ── the lines of all volumes ──
pub lined-nth : (vs : List Volume) (i : ℕ) (v : Volume) (us : List Volume) → drop i vs ≡ v ∷ us → AllLined vs → Lined v
lined-nth [] zero v us e h = absurd (let z : ◌≡◌ {A = ℕ} 0 1 = cc in omega arith)
lined-nth [] (suc i) v us e h = absurd (let z : ◌≡◌ {A = ℕ} 0 1 = cc in omega arith)
lined-nth (w ∷ vs) zero v us e h = let q : w ≡ v = cc in rw (← q) h.0
lined-nth (w ∷ vs) (suc i) v us e h = lined-nth vs i v us e h.1

-- the lines of volumes that all have lines, the first of them with number k
abbrev pub lines_over : ℕ → (vs : List Volume) → AllLined vs → List M.Line
lines_over k [] h = []
lines_over k (v ∷ vs) h = lines_of_volume k (next_name vs) v.place h.0.lines ++ lines_over (suc k) vs h.1

pub lined-listed : (k : ℕ) (vs : List Volume) (h : AllLined vs) → list_volumes k vs ≡ listed (lines_over k vs h)
lined-listed k [] h = refl
lined-listed k (v ∷ vs) h = rw (h.0.are, lined-listed (suc k) vs h.1)
