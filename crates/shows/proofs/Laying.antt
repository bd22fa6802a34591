-- A line laid number by number, each with the byte behind it.
use Rattle.std.specs.Prelude.{Result, Ok, Err, IsErr}
use Prim.Native.Nat.{ℕ, suc, ◌+◌, ◌-◌, ◌<◌, ◌≤◌}
use mathlib.Core.Path.{◌≡◌, refl, ap, ap₂, sym, subst, ◌∙◌}
use mathlib.Core.List.{List, [], ◌∷◌, ◌++◌, map, append-nil, append_assoc}
use mathlib.Core.Bool.{true, false, cond}
use native.Mathlib.Omega.{arith}
use lib.Dec.{leb, eqb}
use lib.IntN.{ℤ, pos, negsuc}
use lib.Signed.{mag, lt_z}
use lib.ListN.{length, get_or, take, drop, set, length-drop, length-append, take-append-drop, drop_of_length-le, replicate}
use lib.Seq.{append_snoc, drop-append-le, drop_at, drop-cons, drop-drop, length-take-le, set_split, take_at}
use borrow.Author.Rules.{rules}
use borrow.Author.Tests.{ltb-true, le-leb, lt-leb, ne_eqb}
use borrow.Rule.Slice.PartMut.{put_mid, same_len_mid}
use Rattle.rules.specs.Base.{join}
use mir.Syntax.{w64}
use mir.Val.{SFits, to_z, of_z}
use mir.Facts.{to_z-of_z}
use Rattle.rules.specs.declared.Refusal.{Refusal}
use Rattle.rules.specs.Answers.{show_number, show_signed, print_line, first_line}
use Rattle.leaves.specs.Writing.{Puts}
use Rattle.leaves.proofs.Scan.{rest_all}
use Rattle.leaves.proofs.Written.{fits, full, was-full, was-bytes}
use Rattle.shows.specs.Laid.{Lays}
use Rattle.leaves.specs.declared.NoRoom.{NoRoom}
use Rattle.leaves.specs.NoRoom.{no_room}

-- ── a number's sign ──
pub shown-below : (z : ℤ) → lt_z z (pos 0) ≡ true → show_signed z ≡ 45 ∷ show_number (suc (mag z))
shown-below (pos n) e = absurd (let h = ltb-true n 0 e in omega arith)
shown-below (negsuc n) e = refl

pub shown-not-below : (z : ℤ) → lt_z z (pos 0) ≡ false → show_signed z ≡ show_number (mag z)
shown-not-below (pos n) e = refl
shown-not-below (negsuc n) e = absurd (let q : ◌≡◌ {A = ℕ} 0 1 = cc in omega arith)

-- ── an error is that there was no room ──
pub nowhere : (r : Result ℕ NoRoom) → IsErr r → r ≡ Err no_room
nowhere (Err e) h = refl
nowhere (Ok n) h = search rules

-- ── a text and the byte behind it, where the text was lent one byte less ──
module _ (text out after : List ℕ) (r : Result ℕ NoRoom) (h : length out ≡ 0 → ⊥) (p : Puts text (take (length out - 1) out) after r) (b : ℕ) where
  short : length (take (length out - 1) out) ≡ length out - 1
  short = length-take-le (length out - 1) out (omega arith)

  longer : length (text ++ b ∷ []) ≡ length text + 1
  longer = omega (arith, length-append text (b ∷ []))

  pub ended-full : r ≡ Err no_room → Puts (text ++ b ∷ []) out (after ++ drop (length out - 1) out) (Err no_room)
  ended-full e =
      let w = was-full text (take (length out - 1) out) after (subst (Puts text (take (length out - 1) out) after) e p) in
      let less : length out < length text + 1 = omega (arith, w.0, short) in
      rw (w.1, take-append-drop (length out - 1) out) (full (text ++ b ∷ []) out (length text + 1) longer less)

  module _ (n : ℕ) (e : r ≡ Ok n) where
    parts : (length text ≡ n) × (length text ≤ length (take (length out - 1) out)) × (after ≡ text ++ drop (length text) (take (length out - 1) out))
    parts = was-bytes text (take (length out - 1) out) after n (subst (Puts text (take (length out - 1) out) after) e p)

    pub ended-room : n < length out
    ended-room = omega (arith, parts.0, parts.1, short, h)

    numbered : after ++ drop (length out - 1) out ≡ text ++ drop n out
    numbered =
        ap (λ (s : List ℕ). s ++ drop (length out - 1) out) parts.2
        ∙ append_assoc text (drop (length text) (take (length out - 1) out)) (drop (length out - 1) out)
        ∙ ap (λ (s : List ℕ). text ++ s) (sym (drop-append-le (length text) (take (length out - 1) out) (drop (length out - 1) out) parts.1))
        ∙ ap (λ (s : List ℕ). text ++ drop (length text) s) (take-append-drop (length out - 1) out)
        ∙ ap (λ (k : ℕ). text ++ drop k out) parts.0

    pub ended_write : n < length (after ++ drop (length out - 1) out)
    ended_write = rw numbered (omega (arith, parts.0, ended-room, length-append text (drop n out), length-drop n out))

    behind : drop (suc n) (text ++ drop n out) ≡ drop (n + 1) out
    behind =
        let one : suc n ≡ n + 1 = omega arith in
        ap (λ (k : ℕ). drop k (text ++ drop n out)) one ∙ sym (drop-drop 1 n (text ++ drop n out)) ∙ ap (drop 1) (drop_at text (drop n out) n parts.0) ∙ drop-drop 1 n out

    pub ended-bytes : Puts (text ++ b ∷ []) out (set (after ++ drop (length out - 1) out) n b) (Ok (n + 1))
    ended-bytes =
        fits (text ++ b ∷ []) out (n + 1) (omega (arith, longer, parts.0)) (omega (arith, ended-room)) (set (after ++ drop (length out - 1) out) n b)
        (ap (λ (s : List ℕ). set s n b) numbered
        ∙ set_split (text ++ drop n out) n b (rw numbered at ended_write)
        ∙ ap (λ (s : List ℕ). s ++ b ∷ drop (suc n) (text ++ drop n out)) (take_at text (drop n out) n parts.0)
        ∙ ap (λ (s : List ℕ). text ++ b ∷ s) behind
        ∙ sym (append_snoc text b (drop (n + 1) out)))

-- ── a line ──
module _ (text before after : List ℕ) where
  lays-bytes : (n : ℕ) → length text ≡ n → n ≤ length before → after ≡ text ++ drop n before → Lays text before after (Ok n)
  lays-bytes n e h m = record { answer = rw (e, le-leb n (length before) h); memory = m ∙ sym (rw (e, le-leb n (length before) h)) }

  lays-full : length before < length text → after ≡ replicate (length before) 0 → Lays text before after (Err no_room)
  lays-full h m =
      record { answer = rw (lt-leb (length text) (length before) h); memory = m ∙ sym (rw (lt-leb (length text) (length before) h)) }

-- of no number
pub empty-lays : (before after : List ℕ) (r : Result ℕ NoRoom) → Puts (10 ∷ []) before after r → Lays (10 ∷ []) before after r
empty-lays [] after r p = record { answer = p.answer; memory = p.memory }
empty-lays (b ∷ s) after r p =
    let t : leb 1 (suc (length s)) ≡ true = le-leb 1 (suc (length s)) (omega arith) in
    let m : after ≡ 10 ∷ s = rw t at p.memory in
    record { answer = p.answer; memory = m ∙ sym (rw t) }

pub line_of-none : (zs : List ℤ) → length zs ≡ 0 → print_line zs ≡ 10 ∷ []
line_of-none [] e = refl
line_of-none (z ∷ zs) e = absurd (omega arith)

abbrev pub end_of : List ℤ → ℕ
end_of [] = 10
end_of (z ∷ zs) = 32

-- numbers, each with the byte behind it
abbrev pub ended : List ℤ → List ℕ
ended [] = []
ended (z ∷ zs) = show_signed z ++ end_of zs ∷ ended zs

pub ended-line : (z : ℤ) (zs : List ℤ) → print_line (z ∷ zs) ≡ ended (z ∷ zs)
ended-line z [] = refl
ended-line z (y ∷ zs) =
    append_assoc (show_signed z) (32 ∷ join 32 (map show_signed (y ∷ zs))) (10 ∷ []) ∙ ap (λ (s : List ℕ). show_signed z ++ 32 ∷ s) (ended-line y zs)

line-is : (zs : List ℤ) → (length zs ≡ 0 → ⊥) → print_line zs ≡ ended zs
line-is [] h = absurd (h refl)
line-is (z ∷ zs) h = ended-line z zs

end_is : (zs : List ℤ) → end_of zs ≡ cond (eqb (length zs) 0) 10 32
end_is [] = refl
end_is (z ∷ zs) = sym (rw (ne_eqb (suc (length zs)) 0 (λ e. omega arith)))

-- i numbers are laid, in `at` bytes
pub record Laid (zs : List ℤ) (before out : List ℕ) (at i : ℕ) : Type 0 where
  pub some : length zs ≡ 0 → ⊥
  pub few : i ≤ length zs
  pub room : at ≤ length out
  pub same : length out ≡ length before
  pub text : ended zs ≡ take at out ++ ended (drop i zs)
  pub rest : drop at out ≡ drop at before

pub laid_none : (zs : List ℤ) (out : List ℕ) → (length zs ≡ 0 → ⊥) → Laid zs out out 0 0
laid_none zs out h = record { some = h; few = omega arith; room = omega arith; same = refl; text = refl; rest = refl }

module _ (zs : List ℤ) (before out : List ℕ) (at i : ℕ) (g : Laid zs before out at i) where
  pub laid-all : length zs ≤ i → Lays (print_line zs) before out (Ok at)
  laid-all h =
      let none : ended (drop i zs) ≡ [] = ap ended (drop_of_length-le zs {i = i} h) in
      let whole : print_line zs ≡ take at out = line-is zs g.some ∙ g.text ∙ ap (λ (s : List ℕ). take at out ++ s) none ∙ append-nil (take at out) in
      let there : out ≡ take at out ++ drop at before = sym (take-append-drop at out) ∙ ap (λ (s : List ℕ). take at out ++ s) g.rest in
      subst (λ (s : List ℕ). Lays s before out (Ok at)) (sym whole) (lays-bytes (take at out) before out at (length-take-le at out g.room) (omega (arith, g.room, g.same)) there)

  module _ (h : i < length zs) (z : ℤ) (ez : z ≡ get_or zs i (pos 0)) (b : ℕ) (eb : b ≡ cond (eqb (length zs - i - 1) 0) 10 32) (after : List ℕ) (r : Result ℕ NoRoom)
      (p : Puts (show_signed z ++ b ∷ []) (take (length out - at) (drop at out)) after r) where
    left : length (drop (suc i) zs) ≡ length zs - i - 1
    left = omega (arith, length-drop (suc i) zs)

    end_byte_lem : end_of (drop (suc i) zs) ≡ b
    end_byte_lem = end_is (drop (suc i) zs) ∙ ap (λ (k : ℕ). cond (eqb k 0) 10 32) left ∙ sym eb

    next : ended (drop i zs) ≡ (show_signed z ++ b ∷ []) ++ ended (drop (suc i) zs)
    next =
        ap ended (drop-cons zs i (pos 0) h)
        ∙ ap (λ (y : ℤ). show_signed y ++ end_of (drop (suc i) zs) ∷ ended (drop (suc i) zs)) (sym ez)
        ∙ ap (λ (e : ℕ). show_signed z ++ e ∷ ended (drop (suc i) zs)) end_byte_lem
        ∙ sym (append_snoc (show_signed z) b (ended (drop (suc i) zs)))

    written : Puts (show_signed z ++ b ∷ []) (drop at out) after r
    written = subst (λ (s : List ℕ). Puts (show_signed z ++ b ∷ []) s after r) (rest_all at out) p

    pub line-full : r ≡ Err no_room → (cleared : List ℕ) → cleared ≡ replicate (length (put_mid at (length out - at) out after)) 0 → Lays (print_line zs) before cleared (Err no_room)
    line-full e cleared m =
        let w = was-full (show_signed z ++ b ∷ []) (drop at out) after (subst (Puts (show_signed z ++ b ∷ []) (drop at out) after) e written) in
        let kept : length (put_mid at (length out - at) out after) ≡ length out = same_len_mid at (length out - at) out after (ap (λ (s : List ℕ). length s) (w.1 ∙ sym (rest_all at out))) in
        let long : length (ended zs) ≡ at + (length (show_signed z ++ b ∷ []) + length (ended (drop (suc i) zs))) =
        ap (λ (s : List ℕ). length s) (g.text ∙ ap (λ (s : List ℕ). take at out ++ s) next)
        ∙ length-append (take at out) ((show_signed z ++ b ∷ []) ++ ended (drop (suc i) zs))
        ∙ ap₂ ◌+◌ (length-take-le at out g.room) (length-append (show_signed z ++ b ∷ []) (ended (drop (suc i) zs))) in
        let less : length before < length (ended zs) = omega (arith, w.0, length-drop at out, long, g.same, g.room) in
        lays-full (print_line zs) before cleared (rw (line-is zs g.some) less) (m ∙ ap (λ (k : ℕ). replicate k 0) (kept ∙ g.same))

    module _ (n : ℕ) (e : r ≡ Ok n) where
      there : (length (show_signed z ++ b ∷ []) ≡ n) × (length (show_signed z ++ b ∷ []) ≤ length (drop at out)) × (after ≡ (show_signed z ++ b ∷ []) ++ drop (length (show_signed z ++ b ∷ [])) (drop at out))
      there = was-bytes (show_signed z ++ b ∷ []) (drop at out) after n (subst (Puts (show_signed z ++ b ∷ []) (drop at out) after) e written)

      pub line-room : at + n ≤ length out
      line-room = omega (arith, there.0, there.1, length-drop at out, g.room)

      after-there : put_mid at (length out - at) out after ≡ (take at out ++ (show_signed z ++ b ∷ [])) ++ drop (at + n) out
      after-there =
          ap (λ (s : List ℕ). take at out ++ (after ++ s)) (drop_of_length-le (drop at out) {i = length out - at} (omega (arith, length-drop at out)))
          ∙ ap (λ (s : List ℕ). take at out ++ s) (append-nil after ∙ there.2 ∙ ap (λ (k : ℕ). (show_signed z ++ b ∷ []) ++ drop k (drop at out)) there.0 ∙ ap (λ (s : List ℕ). (show_signed z ++ b ∷ []) ++ s) (drop-drop n at out))
          ∙ sym (append_assoc (take at out) (show_signed z ++ b ∷ []) (drop (at + n) out))

      front : length (take at out ++ (show_signed z ++ b ∷ [])) ≡ at + n
      front = length-append (take at out) (show_signed z ++ b ∷ []) ∙ ap₂ ◌+◌ (length-take-le at out g.room) there.0

      pub line-more : Laid zs before (put_mid at (length out - at) out after) (at + n) (i + 1)
      line-more =
          let one : suc i ≡ i + 1 = omega arith in
          let long : length (put_mid at (length out - at) out after) ≡ length out =
          ap (λ (s : List ℕ). length s) after-there ∙ omega (arith, front, line-room, length-append (take at out ++ (show_signed z ++ b ∷ [])) (drop (at + n) out), length-drop (at + n) out) in
          record {
            some = g.some;
            few = omega arith;
            room = omega (arith, long, line-room);
            same = long ∙ g.same;
            text =
                g.text ∙ ap (λ (s : List ℕ). take at out ++ s) next
                ∙ sym (append_assoc (take at out) (show_signed z ++ b ∷ []) (ended (drop (suc i) zs)))
                ∙ ap₂ (λ (s : List ℕ) (k : ℕ). s ++ ended (drop k zs)) (sym (ap (take (at + n)) after-there ∙ take_at (take at out ++ (show_signed z ++ b ∷ [])) (drop (at + n) out) (at + n) front)) one;
            rest =
                ap (drop (at + n)) after-there ∙ drop_at (take at out ++ (show_signed z ++ b ∷ [])) (drop (at + n) out) (at + n) front
                ∙ sym (drop-drop n at out) ∙ ap (drop n) g.rest ∙ drop-drop n at before;
          }

-- ── an answer's numbers, as the machine has them ──
module _ (a : Result ℕ Refusal) where
  pub accepted-line : (n : ℕ) → SFits w64 (pos n) → a ≡ Ok n → pos 0 ∷ pos 0 ∷ pos 0 ∷ to_z w64 (of_z w64 (pos n)) ∷ [] ≡ first_line a
  accepted-line n f e = ap (λ (z : ℤ). pos 0 ∷ pos 0 ∷ pos 0 ∷ z ∷ []) (to_z-of_z f) ∙ sym (ap first_line e)

  pub refused-line : (r : Refusal) → SFits w64 (pos r.number) → SFits w64 (pos r.volume) → SFits w64 (pos r.line) → a ≡ Err r
      → to_z w64 (of_z w64 (pos r.number)) ∷ to_z w64 (of_z w64 (pos r.volume)) ∷ to_z w64 (of_z w64 (pos r.line)) ∷ pos 0 ∷ [] ≡ first_line a
  refused-line r f g h e = rw (to_z-of_z f, to_z-of_z g, to_z-of_z h) (sym (ap first_line e))
