-- A volume's end: the byte 1A behind what is shown, or no room.
use Rattle.std.specs.Prelude.{Result, Ok, Err}
use Prim.Native.Nat.{ℕ, zero, suc, ◌+◌, ◌≤◌, ◌<◌}
use mathlib.Core.Bool.{Bool, false}
use mathlib.Core.List.{List, [], ◌∷◌, ◌++◌}
use mathlib.Core.Path.{◌≡◌, refl, sym, ◌∙◌, ap, subst}
use native.Mathlib.Omega.{arith}
use borrow.Author.Tests.{le-leb, lt-leb}
use lib.ListN.{length, take, drop, length-append}
use Rattle.rules.specs.Spool.{unlines}
use Rattle.rules.specs.RefusalNumbers.{got}
use Rattle.rules.specs.Values.{Known}
use Rattle.rules.specs.Machine.{State, top, file, drawing, layer_names, defines, symbol, hide, elements, figures, successive, texts, placing, skipping, ended}
use Rattle.rules.specs.Answers.{numbered}
use Rattle.leaves.specs.Writing.{Puts}
use Rattle.pens.specs.declared.Pen.{Pen}
use Rattle.pens.specs.Texts.{line_bytes}
use Rattle.pens.specs.Shown.{shown}
use Rattle.pens.specs.Standing.{Here, Pens}
use Rattle.volumes.specs.Volumes.{Fronts, through, ServedAfter, BodyOut, BodyPromise}
use Rattle.pens.proofs.Laying.{bytes-unlines, front_of}
use Rattle.prints.specs.Printing.{Within}
use Rattle.pens.proofs.Behind.{within-full, full-not, printed, unprinted}
use Rattle.volumes.proofs.LentOutput.{puts-prints, bytes-within, put-long, put-room, lent, back, lent-long, lent_laid}
use Rattle.volumes.proofs.VolumeWalk.{Reading, Walk}
use Rattle.leaves.specs.declared.NoRoom.{NoRoom}
use Rattle.leaves.specs.NoRoom.{no_room}

pub fronts-fit : (x before after : List ℕ) (n : ℕ) → n ≡ length x → n ≤ length before → take n after ≡ x → Fronts x before after (Ok n)
fronts-fit x before after n e h m = record {
  answer = ap Ok e ∙ sym (rw (le-leb (length x) (length before) (omega (arith, e, h))));
  memory = λ _. ap (λ (k : ℕ). take k after) (sym e) ∙ m;
}

pub fronts-none : (x before after : List ℕ) → length before < length x → Fronts x before after (Err no_room)
fronts-none x before after h = record { answer = sym (rw (lt-leb (length x) (length before) h)); memory = λ f. absurd (omega (arith, f, h)) }

served-here : (K : Known) (spool : List ℕ) (first : Bool) (p : Pen) (ns : List ℕ) (st : State) → Here K spool first p ns st → ServedAfter st
served-here K spool first p ns (top s zero) h = tt
served-here K spool first p ns (top s (suc zero)) h = tt
served-here K spool first p ns (top s (suc (suc zero))) h = tt
served-here K spool first p ns (top s (suc (suc (suc zero)))) h = tt
served-here K spool first p ns (top s (suc (suc (suc (suc k))))) h = h.1.1
served-here K spool first p ns (file s n g i) h = tt
served-here K spool first p ns (drawing s d) h = tt
served-here K spool first p ns (layer_names s d) h = tt
served-here K spool first p ns (defines s b) h = tt
served-here K spool first p ns (symbol s y) h = tt
served-here K spool first p ns (hide s y ps) h = tt
served-here K spool first p ns (elements s) h = tt
served-here K spool first p ns (figures s g fs) h = tt
served-here K spool first p ns (successive s g fs n ps) h = tt
served-here K spool first p ns (texts s g fs n o) h = tt
served-here K spool first p ns (placing s m fs n o i) h = tt
served-here K spool first p ns (skipping s m fs n o i) h = tt
served-here K spool first p ns (ended s) h = tt

-- ── what the code promises of a volume ──
-- for every reading of it
pub body_promise : (spool body : List ℕ) (start : ℕ) (first : Bool) (before after : List ℕ) (r : Result ℕ NoRoom)
    → ((x : Reading spool body start first) → BodyOut x.known first x.ends before after r) → BodyPromise spool body start first before after r
body_promise spool body start first before after r f K e v next ls s st c a b q = f (record {
  known = K;
  env = e;
  volume = v;
  name = next;
  lines = ls;
  set = s;
  ends = st;
  class-is = c;
  all_lines = a;
  begins = b;
  goes = q;
})

module _ (spool body : List ℕ) (start : ℕ) (first : Bool) (before : List ℕ) (p : Pen) (at from : ℕ) (going : Bool) (ns out : List ℕ) (w : Walk spool body start first before p at from going ns out) (over : going ≡ false) (part : List ℕ) where
  -- the reading is where it ends
  ends-here : (x : Reading spool body start first) → Pens x.known spool first p ns out x.ends
  ends-here x =
      let y = w.left x in
      let none_left : got y.state ≡ got x.ends =
      ap (λ (us : List (List ℕ)). through x.env y.state (numbered x.volume x.name y.number at us)) (sym (y.over over)) ∙ y.goes in
      let same : y.state ≡ x.ends = cc in
      subst (Pens x.known spool first p ns out) same y.pens

  module _ (x : Reading spool body start first) where
    abbrev text : List ℕ
    text = line_bytes (shown x.known first x.ends)

    whole : unlines (shown x.known first x.ends) ≡ text ++ 26 ∷ []
    whole = bytes-unlines (shown x.known first x.ends)

    whole_long : length (unlines (shown x.known first x.ends)) ≡ p.at + 1
    whole_long = ap length whole ∙ length-append text (26 ∷ []) ∙ ap (λ (k : ℕ). k + 1) (sym (ends-here x).at)

    body-wrote : (n : ℕ) → Puts (26 ∷ []) (lent p.at out w.safe.within) part (Ok n)
        → BodyOut x.known first x.ends before (back p.at out w.safe.within part) (Ok (p.at + n))
    body-wrote n z =
        let y = puts-prints (26 ∷ []) (lent p.at out w.safe.within) part (Ok n) z in
        let (one, fits, _) = printed (26 ∷ []) (lent p.at out w.safe.within) part n y in
        let room : p.at + 1 ≤ length out = omega (arith, fits, lent-long p.at out w.safe.within, w.safe.within) in
        let lies : back p.at out w.safe.within part ≡ take p.at out ++ ((26 ∷ []) ++ drop (p.at + 1) out) = lent_laid p.at out w.safe.within (26 ∷ []) part fits (y.memory fits) in
        record {
          fronts =
              fronts-fit (unlines (shown x.known first x.ends)) before (back p.at out w.safe.within part) (p.at + n) (omega (arith, whole_long, one)) (omega (arith, room, one, w.long))
              (ap (take (p.at + n)) (lies ∙ ap (λ (u : List ℕ). u ++ ((26 ∷ []) ++ drop (p.at + 1) out)) (ends-here x).text)
              ∙ front_of text (26 ∷ []) (drop (p.at + 1) out) (p.at + n) (omega (arith, one, (ends-here x).at)) ∙ sym whole);
          served = λ m e. served-here x.known spool first p ns x.ends (ends-here x).here;
        }

    body_unwrote : Puts (26 ∷ []) (lent p.at out w.safe.within) part (Err no_room) → BodyOut x.known first x.ends before (back p.at out w.safe.within part) (Err no_room)
    body_unwrote z =
        let short = unprinted (26 ∷ []) (lent p.at out w.safe.within) part (puts-prints (26 ∷ []) (lent p.at out w.safe.within) part (Err no_room) z) in
        record {
          fronts = fronts-none (unlines (shown x.known first x.ends)) before (back p.at out w.safe.within part) (omega (arith, short, whole_long, lent-long p.at out w.safe.within, w.long));
          served = λ m e. full-not e;
        }

  -- as the code puts it
  pub ends-full : Puts (26 ∷ []) (lent p.at out w.safe.within) part (Err no_room)
      → Within before (back p.at out w.safe.within part) (Err no_room) × (length ns ≡ 28) × BodyPromise spool body start first before (back p.at out w.safe.within part) (Err no_room)
  ends-full z =
      let r : Result ℕ NoRoom = Err no_room in
      (within-full before (back p.at out w.safe.within part) (put-long p.at out w.safe.within (26 ∷ []) part r z ∙ w.long), w.many, body_promise spool body start first before (back p.at out w.safe.within part) r (λ x. body_unwrote x z))

  pub ends-well : (n : ℕ) → Puts (26 ∷ []) (lent p.at out w.safe.within) part (Ok n)
      → Within before (back p.at out w.safe.within part) (Ok (p.at + n)) × (length ns ≡ 28) × BodyPromise spool body start first before (back p.at out w.safe.within part) (Ok (p.at + n))
  ends-well n z = (
    bytes-within before (back p.at out w.safe.within part) (p.at + n) (put-long p.at out w.safe.within (26 ∷ []) part (Ok n) z ∙ w.long)
        (omega (arith, put-room p.at out w.safe.within (26 ∷ []) part (Ok n) n z refl, w.long)),
    w.many,
    body_promise spool body start first before (back p.at out w.safe.within part) (Ok (p.at + n)) (λ x. body-wrote x n z),
  )

-- a line had no room
pub body-short : (K : Known) (first : Bool) (st : State) (before after : List ℕ) → length before < length (line_bytes (shown K first st)) → BodyOut K first st before after (Err no_room)
body-short K first st before after h = record {
  fronts = fronts-none (unlines (shown K first st)) before after
      (omega (arith, h, ap length (bytes-unlines (shown K first st)), length-append (line_bytes (shown K first st)) (26 ∷ [])));
  served = λ n e. full-not e;
}
