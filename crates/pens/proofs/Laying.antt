-- Texts laid into the output, and what that is worth at a state of the reading.
use Rattle.std.specs.Prelude.{Result}
use Prim.Native.Nat.{ℕ, ◌+◌, ◌-◌, ◌≤◌, ◌<◌}
use mathlib.Core.Bool.{Bool, true, false}
use mathlib.Core.List.{List, [], ◌∷◌, ◌++◌, append_assoc}
use mathlib.Core.Path.{◌≡◌, refl, sym, ◌∙◌, ap, subst}
use native.Mathlib.Omega.{arith}
use borrow.Author.Tests.{leb-true, leb-false}
use lib.Dec.{leb}
use lib.ListN.{length, take, drop, length-append, take-append-drop}
use lib.Seq.{take_at, drop_at, length-take-le}
use Rattle.rules.specs.Spool.{unlines}
use Rattle.rules.specs.Values.{Known}
use Rattle.rules.specs.FixedForm.{Text}
use Rattle.rules.specs.Machine.{State}
use Rattle.pens.specs.declared.Pen.{Pen}
use Rattle.pens.specs.Texts.{ended, line_bytes, Draws, Inserts}
use Rattle.pens.specs.Shown.{shown}
use Rattle.pens.specs.Standing.{Here, Pens}
use Rattle.pens.specs.Drawing.{LineOut}
use Rattle.leaves.specs.declared.NoRoom.{NoRoom}

-- ── lines as bytes ──
pub bytes-append : (a b : Text) → line_bytes (a ++ b) ≡ line_bytes a ++ line_bytes b
bytes-append [] b = refl
bytes-append (l ∷ a) b = ap (λ (u : List ℕ). ended l ++ u) (bytes-append a b) ∙ sym (append_assoc (ended l) (line_bytes a) (line_bytes b))

pub bytes-unlines : (ls : Text) → unlines ls ≡ line_bytes ls ++ 26 ∷ []
bytes-unlines [] = refl
bytes-unlines (l ∷ ls) =
    ap (λ (u : List ℕ). l ++ 13 ∷ 10 ∷ u) (bytes-unlines ls)
    ∙ sym (append_assoc l (13 ∷ 10 ∷ []) (line_bytes ls ++ 26 ∷ []))
    ∙ sym (append_assoc (ended l) (line_bytes ls) (26 ∷ []))

-- ── a text in the output ──
-- what stands before and with it
pub front_of : (w x r : List ℕ) (n : ℕ) → n ≡ length w + length x → take n (w ++ (x ++ r)) ≡ w ++ x
front_of w x r n e = ap (take n) (sym (append_assoc w x r)) ∙ take_at (w ++ x) r n (length-append w x ∙ sym e)

-- either there is room, or not
pub room : {P : Type 0} (a b : ℕ) → (a ≤ b → P) → (b < a → P) → P
room {P} a b f g = go (leb a b) refl
  where
    go : (t : Bool) → leb a b ≡ t → P
    go true e = f (leb-true a b e)
    go false e = g (leb-false a b e)

module _ (K : Known) (spool : List ℕ) (first : Bool) (p : Pen) (ns out : List ℕ) (st : State) (z : Pens K spool first p ns out st) where
  -- a text is laid behind what is shown, and that is what is shown now; X may be nothing
  pub on_draws : (X : Text) (st' : State) (next : Pen) (ns' out' : List ℕ) (d : Result Pen NoRoom)
      → length out' ≡ length out → shown K first st' ≡ shown K first st ++ X → Draws (line_bytes X) p.at next out out' d → next.at ≡ p.at + length (line_bytes X) → length ns' ≡ 28
      → Here K spool first next ns' st' → LineOut K spool first st' ns' out' d
  on_draws X st' next ns' out' d size e w a m h = room (p.at + length (line_bytes X)) (length out) fits full
    where
      long : length (line_bytes (shown K first st')) ≡ p.at + length (line_bytes X)
      long =
          ap length (ap line_bytes e ∙ bytes-append (shown K first st) X)
          ∙ length-append (line_bytes (shown K first st)) (line_bytes X)
          ∙ ap (λ (n : ℕ). n + length (line_bytes X)) (sym z.at)

      fits : p.at + length (line_bytes X) ≤ length out → LineOut K spool first st' ns' out' d
      fits f =
          let (go, lies) = w.drawn f in
          let before : take p.at out ≡ line_bytes (shown K first st) = z.text in
          subst (LineOut K spool first st' ns' out') (sym go) record {
            at = a ∙ sym long;
            fits = omega (arith, a, f, size);
            text =
                ap (take next.at) lies
                ∙ front_of (take p.at out) (line_bytes X) (drop (p.at + length (line_bytes X)) out) next.at (a ∙ ap (λ (n : ℕ). n + length (line_bytes X)) (sym (length-take-le p.at out z.fits)))
                ∙ ap (λ (u : List ℕ). u ++ line_bytes X) before
                ∙ sym (ap line_bytes e ∙ bytes-append (shown K first st) X);
            many = m;
            here = h;
          }

      full : length out < p.at + length (line_bytes X) → LineOut K spool first st' ns' out' d
      full f = subst (LineOut K spool first st' ns' out') (sym (w.full f)) (omega (arith, long, f, size))

  -- a text comes before what stands inside the block, and one behind it
  module _ (A I X Y : Text) (st' : State) (next : Pen) (ns' out' : List ℕ) (d : Result Pen NoRoom) (size : length out' ≡ length out) (e : shown K first st ≡ A ++ I) (e' : shown K first st' ≡ A ++ (X ++ (I ++ Y))) (s : p.start ≡ length (line_bytes A)) where
    abbrev x : List ℕ
    x = line_bytes X

    abbrev y : List ℕ
    y = line_bytes Y

    abbrev u : List ℕ
    u = line_bytes A

    abbrev i : List ℕ
    i = line_bytes I

    abbrev tail : List ℕ
    tail = drop (p.at + length x + length y) out

    was : line_bytes (shown K first st) ≡ u ++ i
    was = ap line_bytes e ∙ bytes-append A I

    is : line_bytes (shown K first st') ≡ u ++ (x ++ (i ++ y))
    is =
        ap line_bytes e' ∙ bytes-append A (X ++ (I ++ Y))
        ∙ ap (λ (v : List ℕ). u ++ v) (bytes-append X (I ++ Y) ∙ ap (λ (v : List ℕ). x ++ v) (bytes-append I Y))

    at-is : p.at ≡ length u + length i
    at-is = z.at ∙ ap length was ∙ length-append u i

    long : length (line_bytes (shown K first st')) ≡ p.at + length x + length y
    long = ap length is ∙ length-append u (x ++ (i ++ y)) ∙ omega (arith, length-append x (i ++ y), length-append i y, at-is)

    -- the output's front is what was shown
    front : out ≡ u ++ (i ++ drop p.at out)
    front = sym (take-append-drop p.at out) ∙ ap (λ (v : List ℕ). v ++ drop p.at out) (z.text ∙ was) ∙ append_assoc u i (drop p.at out)

    before : take p.start out ≡ u
    before = ap (take p.start) front ∙ take_at u (i ++ drop p.at out) p.start (sym s)

    inside : take (p.at - p.start) (drop p.start out) ≡ i
    inside =
        ap (λ (v : List ℕ). take (p.at - p.start) (drop p.start v)) front
        ∙ ap (take (p.at - p.start)) (drop_at u (i ++ drop p.at out) p.start (sym s))
        ∙ take_at i (drop p.at out) (p.at - p.start) (omega (arith, at-is, s))

    pub on_inserts : Inserts x y p.start p.at next out out' d → next.at ≡ p.at + length x + length y → length ns' ≡ 28
        → Here K spool first next ns' st' → LineOut K spool first st' ns' out' d
    on_inserts w a m h = room (p.at + length x + length y) (length out) fits full
      where
        fits : p.at + length x + length y ≤ length out → LineOut K spool first st' ns' out' d
        fits f =
            let (go, lies) = w.drawn f in
            let now : out' ≡ (u ++ (x ++ (i ++ y))) ++ tail =
            lies ∙ ap (λ (v : List ℕ). v ++ (x ++ (take (p.at - p.start) (drop p.start out) ++ (y ++ tail)))) before
            ∙ ap (λ (v : List ℕ). u ++ (x ++ (v ++ (y ++ tail)))) inside
            ∙ sym (append_assoc u (x ++ (i ++ y)) tail ∙ ap (λ (v : List ℕ). u ++ v) (append_assoc x (i ++ y) tail ∙ ap (λ (v : List ℕ). x ++ v) (append_assoc i y tail))) in
            subst (LineOut K spool first st' ns' out') (sym go) record {
              at = a ∙ sym long;
              fits = omega (arith, a, f, size);
              text = ap (take next.at) now ∙ take_at (u ++ (x ++ (i ++ y))) tail next.at (ap length (sym is) ∙ long ∙ sym a) ∙ sym is;
              many = m;
              here = h;
            }

        full : length out < p.at + length x + length y → LineOut K spool first st' ns' out' d
        full f = subst (LineOut K spool first st' ns' out') (sym (w.full f)) (omega (arith, long, f, size))
