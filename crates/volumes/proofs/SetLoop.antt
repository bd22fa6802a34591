-- The loop over the volumes: what holds before each, whatever the spool is, and for every set that it is accepted as.
use Rattle.std.specs.Prelude.{Option, Some, None, Result, Ok, Err}
use Prim.Native.Nat.{ℕ, suc, ◌+◌, ◌≤◌, ◌<◌}
use mathlib.Core.List.{List}
use mathlib.Core.Path.{◌≡◌, refl, sym, ◌∙◌, ap, subst}
use native.Mathlib.Omega.{arith}
use lib.Dec.{eqb}
use lib.ListN.{length, get_or, take, drop}
use Rattle.rules.specs.Spool.{Volume, volumes_of}
use Rattle.rules.specs.Sets.{Set}
use Rattle.rules.specs.LineByLine.{accepted}
use Rattle.rules.specs.Answers.{rewrite_outcome}
use Rattle.lines.specs.VolumePlaces.{zeros, no_layout, layout_of}
use Rattle.lines.specs.declared.Layout.{Layout}
use Rattle.lines.proofs.VolumePlaces.{volumes-laid}
use Rattle.prints.specs.Printing.{Within}
use Rattle.volumes.specs.Volumes.{VolumePromise, SetPromise}
use Rattle.pens.proofs.Behind.{within-full}
use Rattle.volumes.proofs.LentOutput.{lent, back, within-long, lent-room}
use Rattle.volumes.proofs.SetWalk.{accepted-so, Done, done-begins, turn-full, turn_on, all_done}
use Rattle.leaves.specs.declared.NoRoom.{NoRoom}
use Rattle.leaves.specs.NoRoom.{no_room}

none-count : (layout_of None).count ≡ 0
unfolding layout_of no_layout zeros
none-count = refl

-- a volume's number is within bounds
pub few : (s : List ℕ) (l : Layout) (i : ℕ) → l ≡ layout_of (volumes_of s) → i < l.count → i < 12
few s l i e h = go (volumes_of s) refl
  where
    go : (o : Option (List Volume)) → volumes_of s ≡ o → i < 12
    go None q = absurd (omega (arith, ap (λ (y : Layout). y.count) e, ap (λ (o : Option (List Volume)). (layout_of o).count) q, none-count, h))
    go (Some vs) q = let laid = volumes-laid s vs q in omega (arith, laid.few, ap (λ (y : Layout). y.count) e, laid.count, h)

-- before the volume with number i + 1
pub record Going (s before out : List ℕ) (notes : List ℕ) (at i : ℕ) : Type 0 where
  pub long : length out ≡ length before
  pub many : length notes ≡ 28
  pub fits : at ≤ length out
  pub done : (set : Set) (q : rewrite_outcome s ≡ accepted set) → Done s set (accepted-so s set q) i at out

pub begins : (s before notes : List ℕ) → length notes ≡ 28 → Going s before before notes 0 0
begins s before notes m = record { long = refl; many = m; fits = omega arith; done = λ set q. done-begins s set (accepted-so s set q) before }

module _ (s before out notes : List ℕ) (at i : ℕ) (z : Going s before out notes at i) (l : Layout) (e : l ≡ layout_of (volumes_of s)) (h : i < l.count) (f : at ≤ length out) (body : List ℕ) (held : body ≡ take (get_or l.lengths i 0) (drop (get_or l.places i 0) s))
    (part : List ℕ) (r : Result ℕ NoRoom) (w : Within (lent at out f) part r) (promise : VolumePromise s body (get_or l.places i 0) (eqb i 0) (lent at out f) part r) where
  below : (set : Set) (q : rewrite_outcome s ≡ accepted set) → i < length (accepted-so s set q).volumes
  below set q =
      let a = accepted-so s set q in omega (arith, (volumes-laid s a.volumes a.are).count, ap (λ (y : Layout). y.count) e, h)

  pub goes_on : (notes' : List ℕ) → length notes' ≡ 28 → (n : ℕ) → r ≡ Ok n → Going s before (back at out f part) notes' (at + n) (i + 1)
  goes_on notes' m n b = record {
    long = within-long at out f part r w ∙ z.long;
    many = m;
    fits = omega (arith, within-long at out f part r w, lent-room at out f part r n w b);
    done = λ set q.
        let one : suc i ≡ i + 1 = omega arith in
        subst (λ (j : ℕ). Done s set (accepted-so s set q) j (at + n) (back at out f part)) one
        (turn_on s set (accepted-so s set q) i at out f (z.done set q) body _ (below set q) (ap (λ (y : Layout). get_or y.places i 0) (sym e))
        (held ∙ ap (λ (y : Layout). take (get_or y.lengths i 0) (drop (get_or l.places i 0) s)) e) part r promise n b);
  }

  pub room-lacks : r ≡ Err no_room → Within before (back at out f part) (Err no_room) × SetPromise s before (back at out f part) (Err no_room)
  room-lacks b = (
    within-full before (back at out f part) (within-long at out f part r w ∙ z.long),
    λ set q. turn-full s set (accepted-so s set q) i at out f (z.done set q) body _ (below set q) (ap (λ (y : Layout). get_or y.places i 0) (sym e))
        (held ∙ ap (λ (y : Layout). take (get_or y.lengths i 0) (drop (get_or l.places i 0) s)) e) part r promise before (back at out f part) z.long b,
  )

-- behind the last volume
pub ends : (s before out notes : List ℕ) (at i : ℕ) → Going s before out notes at i → (l : Layout) → l ≡ layout_of (volumes_of s) → l.count ≤ i
    → Within before out (Ok at) × SetPromise s before out (Ok at)
ends s before out notes at i z l e h = (
  record { long = z.long; within = λ n b. let same : at ≡ n = cc in omega (arith, same, z.fits, z.long) },
  λ set q.
      let a = accepted-so s set q in
      all_done s set a i at before out (z.done set q) (omega (arith, (volumes-laid s a.volumes a.are).count, ap (λ (y : Layout). y.count) e, h)) (omega (arith, z.fits, z.long)),
)
