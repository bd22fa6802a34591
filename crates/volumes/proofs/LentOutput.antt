-- A writer that was lent the output from a place on: what it does with the whole output.
use Rattle.std.specs.Prelude.{Result, Ok, Err}
use Rattle.std.specs.Result.{IsErr}
use Prim.Native.Nat.{ℕ, ◌+◌, ◌-◌, ◌≤◌}
use mathlib.Core.Bool.{Bool, true, false, cond}
use mathlib.Core.List.{List, ◌++◌, append-nil}
use mathlib.Core.Path.{◌≡◌, refl, sym, ◌∙◌, ap, subst}
use native.Mathlib.Omega.{arith}
use borrow.Author.Tests.{leb-true, le-leb}
use borrow.Rule.Slice.PartMut.{mid_of, put_mid, same_len_mid}
use lib.Dec.{leb}
use lib.ListN.{length, take, drop, length-append, length-drop, drop_of_length-le}
use lib.Seq.{drop-drop, take_all}
use Rattle.leaves.specs.Writing.{Puts}
use Rattle.prints.specs.Printing.{Prints, Within}
use Rattle.pens.specs.declared.Pen.{Pen}
use Rattle.pens.specs.Texts.{laid, Draws, Safe}
use Rattle.pens.specs.Moves.{moved}
use Rattle.pens.specs.KeyWriting.{Kept}
use Rattle.pens.proofs.Behind.{printed, unprinted}
use Rattle.leaves.specs.declared.NoRoom.{NoRoom}
use Rattle.leaves.specs.NoRoom.{no_room}

-- ── answers ──
-- the one error there is
pub no-room : {A : Type 0} (r : Result A NoRoom) → IsErr r → r ≡ Err no_room
no-room (Ok n) e = absurd (let z : ◌≡◌ {A = ℕ} 0 1 = cc in omega arith)
no-room (Err x) e = refl

-- a text put is a text printed
pub puts-prints : (x before after : List ℕ) (r : Result ℕ NoRoom) → Puts x before after r → Prints x before after r
puts-prints x before after r w = record { answer = w.answer; memory = λ h. w.memory ∙ rw (le-leb (length x) (length before) h) }

-- an answer within the output
pub bytes-within : (before after : List ℕ) (m : ℕ) → length after ≡ length before → m ≤ length before → Within before after (Ok m)
bytes-within before after m e h = record { long = e; within = λ n q. let same : m ≡ n = cc in omega (arith, same, h) }

-- a text put stays within the output
pub puts-within : (x before after : List ℕ) (r : Result ℕ NoRoom) → Puts x before after r → Within before after r
puts-within x before after r w = record { long = long (leb (length x) (length before)) refl w.memory; within = λ n e. let p = printed x before after n (subst (Prints x before after) e (puts-prints x before after r w)) in omega (arith, p.0, p.1) }
  where
    long : (b : Bool) → leb (length x) (length before) ≡ b → after ≡ cond b (x ++ drop (length x) before) before → length after ≡ length before
    long true q e = ap length e ∙ length-append x (drop (length x) before) ∙ omega (arith, length-drop (length x) before, leb-true (length x) (length before) q)
    long false q e = ap length e

-- ── the output from a place on ──
module _ (at : ℕ) (out : List ℕ) (h : at ≤ length out) where
  -- as the code lends it
  abbrev pub lent : List ℕ
  lent = mid_of at (length out - at) out

  abbrev pub back : List ℕ → List ℕ
  back part = put_mid at (length out - at) out part

  pub lent_is : lent ≡ drop at out
  lent_is = take_all (length out - at) (drop at out) (omega (arith, length-drop at out))

  pub lent-long : length lent ≡ length out - at
  lent-long = ap length lent_is ∙ length-drop at out

  pub back_is : (part : List ℕ) → back part ≡ take at out ++ part
  back_is part =
      ap (λ (u : List ℕ). take at out ++ (part ++ u)) (drop_of_length-le (drop at out) {i = length out - at} (omega (arith, length-drop at out)))
      ∙ ap (λ (u : List ℕ). take at out ++ u) (append-nil part)

  pub back_long : (part : List ℕ) → length part ≡ length lent → length (back part) ≡ length out
  back_long part e = same_len_mid at (length out - at) out part e

  pub within-long : (part : List ℕ) (r : Result ℕ NoRoom) → Within lent part r → length (back part) ≡ length out
  within-long part r w = back_long part w.long

  -- a text put there
  pub put-long : (x part : List ℕ) (r : Result ℕ NoRoom) → Puts x lent part r → length (back part) ≡ length out
  put-long x part r w = back_long part (puts-within x lent part r w).long

  pub put-room : (x part : List ℕ) (r : Result ℕ NoRoom) (n : ℕ) → Puts x lent part r → r ≡ Ok n → at + n ≤ length out
  put-room x part r n w e = omega (arith, (puts-within x lent part r w).within n e, lent-long, h)

  -- how many bytes were written
  pub lent-room : (part : List ℕ) (r : Result ℕ NoRoom) (n : ℕ) → Within lent part r → r ≡ Ok n → at + n ≤ length out
  lent-room part r n w e = omega (arith, w.within n e, lent-long, h)

  module _ (x part : List ℕ) where
    pub lent_laid : length x ≤ length lent → part ≡ x ++ drop (length x) lent → back part ≡ laid x at out
    lent_laid f e =
        back_is part ∙ ap (λ (u : List ℕ). take at out ++ u)
        (e ∙ ap (λ (u : List ℕ). x ++ u) (ap (drop (length x)) lent_is ∙ drop-drop (length x) at out))

    pub put-laid : (r : Result ℕ NoRoom) → Puts x lent part r → at + length x ≤ length out → back part ≡ laid x at out
    put-laid r w f =
        let fits : length x ≤ length lent = omega (arith, f, lent-long) in
        lent_laid fits ((puts-prints x lent part r w).memory fits)

    pub wrote_draws : (n : ℕ) (next : Pen) → Prints x lent part (Ok n) → Draws x at next out (back part) (Ok next)
    wrote_draws n next w =
        let f = (printed x lent part n w).1 in
        record {
          drawn = λ _. (refl, lent_laid f (w.memory f));
          full = λ g. absurd (omega (arith, f, g, lent-long, h));
        }

    pub full_draws : (next : Pen) → Prints x lent part (Err no_room) → Draws x at next out (back part) (Err no_room)
    full_draws next w =
        let f = unprinted x lent part w in
        record {
          drawn = λ g. absurd (omega (arith, f, g, lent-long, h));
          full = λ _. refl;
        }

-- ── a line at the pen ──
module _ (p : Pen) (out x part : List ℕ) (block : ℕ) (safe : Safe p out) (r : Result ℕ NoRoom) (keeps : Within (lent p.at out safe.within) part r) (prints : Prints x (lent p.at out safe.within) part r) where
  abbrev after : List ℕ
  after = back p.at out safe.within part

  pub line_wrote : (n : ℕ) (next : Pen) → r ≡ Ok n → next ≡ moved p n block 0 → Kept out after (Ok next) × Draws x p.at (moved p (length x) block 0) out after (Ok next)
  line_wrote n next e q =
      let w : Prints x (lent p.at out safe.within) part (Ok n) = subst (Prints x (lent p.at out safe.within) part) e prints in
      let long = back_long p.at out safe.within part keeps.long in
      let room = lent-room p.at out safe.within part r n keeps e in
      let same : n ≡ length x = sym (printed x (lent p.at out safe.within) part n w).0 in
      let is : next ≡ moved p (length x) block 0 = q ∙ ap (λ (m : ℕ). moved p m block 0) same in
      subst (λ (u : Pen). Kept out after (Ok u) × Draws x p.at (moved p (length x) block 0) out after (Ok u)) (sym is) (
        record { safe = record { begun = omega (arith, safe.begun); within = omega (arith, room, long, same) }; long = long },
        wrote_draws p.at out safe.within x part n (moved p (length x) block 0) w,
      )

  pub line-full : r ≡ Err no_room → Kept out after (Err no_room) × Draws x p.at (moved p (length x) block 0) out after (Err no_room)
  line-full e = (
    record { safe = tt; long = back_long p.at out safe.within part keeps.long },
    full_draws p.at out safe.within x part (moved p (length x) block 0) (subst (Prints x (lent p.at out safe.within) part) e prints),
  )
