-- Texts one behind the other: each goes on where the one before it ended.
use Rattle.std.specs.Prelude.{Result, Ok, Err}
use Rattle.std.specs.Result.{IsErr}
use Prim.Native.Nat.{ℕ, ◌+◌, ◌-◌, ◌<◌, ◌≤◌}
use mathlib.Core.Path.{◌≡◌, refl, ap, sym, ◌∙◌}
use mathlib.Core.Bool.{Bool, true, false, cond}
use mathlib.Core.List.{List, [], ◌++◌, append-nil, append_assoc}
use native.Mathlib.Omega.{arith}
use lib.Dec.{leb}
use lib.ListN.{length, take, drop, length-drop, length-append, drop_of_length-le}
use lib.Seq.{take_at, drop-append-add, drop-drop}
use borrow.Author.Tests.{le-leb, lt-leb, leb-true, leb-false}
use borrow.Rule.Slice.PartMut.{put_mid}
use Rattle.leaves.specs.Writing.{Puts}
use Rattle.leaves.proofs.Scan.{rest_all}
use Rattle.prints.specs.Printing.{Prints, Within, Lays}
use Rattle.leaves.specs.declared.NoRoom.{NoRoom}
use Rattle.leaves.specs.NoRoom.{no_room}

-- ── what an answer tells ──
-- there is one error
pub is_full : {T : Type 0} (r : Result T NoRoom) → IsErr r → r ≡ Err no_room
is_full (Ok n) e = absurd (let z : ◌≡◌ {A = ℕ} 0 1 = cc in omega arith)
is_full (Err x) e = refl

told : (l room n : ℕ) (t : Bool) → leb l room ≡ t → Ok n ≡ cond t (Ok l) (Err no_room) → (n ≡ l) × (l ≤ room)
told l room n true q z = let s : n ≡ l = cc in (s, leb-true l room q)
told l room n false q z = absurd (let z : ◌≡◌ {A = ℕ} 0 1 = cc in omega arith)

refused : (l room : ℕ) (t : Bool) → leb l room ≡ t → Err no_room ≡ cond t (Ok l) (Err no_room) → room < l
refused l room true q z = absurd (let z : ◌≡◌ {A = ℕ} 0 1 = cc in omega arith)
refused l room false q z = leb-false l room q

pub laid : (text before after : List ℕ) (n : ℕ) → Lays text before after (Ok n) → (n ≡ length text) × (length text ≤ length before)
laid text before after n p = told (length text) (length before) n (leb (length text) (length before)) refl p.answer

no-room : (text before after : List ℕ) → Lays text before after (Err no_room) → length before < length text
no-room text before after p = refused (length text) (length before) (leb (length text) (length before)) refl p.answer

pub nothing : (b : List ℕ) → Lays [] b b (Ok 0)
nothing b = record { answer = rw (le-leb 0 (length b) (omega arith)); memory = λ h. refl; long = refl }

-- ── a text with all or nothing of it written ──
module _ (text before after : List ℕ) (r : Result ℕ NoRoom) (p : Puts text before after r) where
  put-long : (t : Bool) → leb (length text) (length before) ≡ t → length (cond t (text ++ drop (length text) before) before) ≡ length before
  put-long true h = let l = leb-true (length text) (length before) h in omega (arith, l, length-append text (drop (length text) before), length-drop (length text) before)
  put-long false h = refl

  pub whole : Lays text before after r
  whole =
      record {
        answer = p.answer;
        memory = λ h. p.memory ∙ rw (le-leb (length text) (length before) h);
        long = ap (λ (l : List ℕ). length l) p.memory ∙ put-long (leb (length text) (length before)) refl;
      }

module _ (text before after : List ℕ) (r : Result ℕ NoRoom) (p : Lays text before after r) where
  pub printed : Within before after r × Prints text before after r
  printed = (
    record { long = p.long; within = λ n e. let l = laid text before after n (rw e at p) in omega (arith, l.0, l.1) },
    record { answer = p.answer; memory = p.memory },
  )

-- ── one text and then another ──
module _ (a d b c : List ℕ) where
  both-long : length (a ++ d) ≡ length a + length d
  both-long = length-append a d

  -- the first did not fit
  pub first_full : Lays a b c (Err no_room) → Lays (a ++ d) b c (Err no_room)
  first_full p =
      let f = no-room a b c p in
      record {
        answer = sym (rw (lt-leb (length (a ++ d)) (length b) (omega (arith, both-long, f))));
        memory = λ h. absurd (omega (arith, both-long, f, h));
        long = p.long;
      }

  module _ (n : ℕ) (p : Lays a b c (Ok n)) where
    ends : (n ≡ length a) × (length a ≤ length b)
    ends = laid a b c n p

    pub first_within : n ≤ length c
    first_within = omega (arith, ends.0, ends.1, p.long)

    first-is : c ≡ a ++ drop n b
    first-is = rw ends.0 (p.memory ends.1)

    take-first : take n c ≡ a
    take-first = ap (take n) first-is ∙ take_at a (drop n b) n (sym ends.0)

    drop_more : (k : ℕ) → drop k (drop n c) ≡ drop (n + k) b
    drop_more k = drop-drop k n c ∙ ap (drop (n + k)) first-is ∙ rw ends.0 (drop-append-add a (drop (length a) b) k ∙ drop-drop k (length a) b)

    module _ (e : List ℕ) (r : Result ℕ NoRoom) (q : Lays d (take (length c - n) (drop n c)) e r) where
      rest-long : length (take (length c - n) (drop n c)) ≡ length c - n
      rest-long = ap (λ (l : List ℕ). length l) (rest_all n c) ∙ length-drop n c

      -- the output with the rest put back
      back : put_mid n (length c - n) c e ≡ a ++ e
      back =
          ap (λ (l : List ℕ). take n c ++ (e ++ l)) (drop_of_length-le (drop n c) {i = length c - n} (omega (arith, length-drop n c)))
          ∙ ap (λ (l : List ℕ). take n c ++ l) (append-nil e)
          ∙ ap (λ (l : List ℕ). l ++ e) take-first

      back-long : length (put_mid n (length c - n) c e) ≡ length b
      back-long = ap (λ (l : List ℕ). length l) back ∙ length-append a e ∙ omega (arith, q.long, rest-long, ends.0, ends.1, p.long)

      back-memory : length (a ++ d) ≤ length b → put_mid n (length c - n) c e ≡ (a ++ d) ++ drop (length (a ++ d)) b
      back-memory h =
          let fits : length d ≤ length (take (length c - n) (drop n c)) = omega (arith, both-long, h, rest-long, ends.0, p.long) in
          let sum : n + length d ≡ length (a ++ d) = omega (arith, both-long, ends.0) in
          back
          ∙ ap (λ (l : List ℕ). a ++ l) (q.memory fits ∙ ap (λ (l : List ℕ). d ++ drop (length d) l) (rest_all n c) ∙ ap (λ (l : List ℕ). d ++ l) (drop_more (length d) ∙ ap (λ (m : ℕ). drop m b) sum))
          ∙ sym (append_assoc a d (drop (length (a ++ d)) b))

    pub second_full : (e : List ℕ) → Lays d (take (length c - n) (drop n c)) e (Err no_room) → Lays (a ++ d) b (put_mid n (length c - n) c e) (Err no_room)
    second_full e q =
        let f = no-room d (take (length c - n) (drop n c)) e q in
        record {
          answer = sym (rw (lt-leb (length (a ++ d)) (length b) (omega (arith, both-long, f, rest-long e (Err no_room) q, ends.0, p.long))));
          memory = back-memory e (Err no_room) q;
          long = back-long e (Err no_room) q;
        }

    module _ (e : List ℕ) (m : ℕ) (q : Lays d (take (length c - n) (drop n c)) e (Ok m)) where
      pub sum_within : n + m ≤ length c
      sum_within = let l = laid d (take (length c - n) (drop n c)) e m q in omega (arith, l.0, l.1, rest-long e (Ok m) q, first_within)

      pub both : Lays (a ++ d) b (put_mid n (length c - n) c e) (Ok (n + m))
      both =
          let l = laid d (take (length c - n) (drop n c)) e m q in
          let sum : n + m ≡ length (a ++ d) = omega (arith, both-long, ends.0, l.0) in
          record {
            answer = ap Ok sum ∙ sym (rw (le-leb (length (a ++ d)) (length b) (omega (arith, sum, sum_within, p.long))));
            memory = back-memory e (Ok m) q;
            long = back-long e (Ok m) q;
          }
