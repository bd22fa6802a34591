-- A text written where there is room for it, and one text behind another.
use Rattle.std.specs.Prelude.{Result, Ok, Err}
use Prim.Native.Nat.{ℕ, ◌+◌, ◌-◌, ◌≤◌, ◌<◌}
use mathlib.Core.Bool.{Bool, true, false, cond}
use mathlib.Core.List.{List, [], ◌++◌, append_assoc, append-nil}
use mathlib.Core.Path.{◌≡◌, refl, sym, ◌∙◌, ap, subst}
use native.Mathlib.Omega.{arith}
use borrow.Author.Tests.{leb-true, leb-false, le-leb, lt-leb}
use lib.Dec.{leb}
use lib.ListN.{length, take, drop, length-append, length-drop, drop_of_length-le}
use lib.Seq.{take_at, drop_at, take_all, drop-drop, drop-append-add, length-take-le}
use Rattle.leaves.specs.Writing.{put_answer, put_memory, Puts}
use Rattle.prints.specs.Printing.{Prints, Within}
use Rattle.pens.specs.Writing.{Spared}
use Rattle.pens.proofs.Laying.{room}
use Rattle.leaves.specs.declared.NoRoom.{NoRoom}
use Rattle.leaves.specs.NoRoom.{no_room}

pub full-not : {P : Type 0} {n : ℕ} → (Err no_room) ≡ Ok n → P
full-not e = absurd (let z : ◌≡◌ {A = ℕ} 0 1 = cc in omega arith)

-- ── one text ──
-- what an answer tells of the room
told-bytes : (t : List ℕ) (m n : ℕ) → Ok n ≡ put_answer t m → (length t ≡ n) × (length t ≤ m)
told-bytes t m n e = go (leb (length t) m) refl e
  where
    go : (q : Bool) → leb (length t) m ≡ q → Ok n ≡ cond q (Ok (length t)) (Err no_room) → (length t ≡ n) × (length t ≤ m)
    go true h z = (let l : n ≡ length t = cc in sym l, leb-true (length t) m h)
    go false h z = full-not (sym z)

told-full : (t : List ℕ) (m : ℕ) → (Err no_room) ≡ put_answer t m → m < length t
told-full t m e = go (leb (length t) m) refl e
  where
    go : (q : Bool) → leb (length t) m ≡ q → (Err no_room) ≡ cond q (Ok (length t)) (Err no_room) → m < length t
    go true h z = full-not z
    go false h z = leb-false (length t) m h

module _ (t before after : List ℕ) where
  pub printed : (n : ℕ) → Prints t before after (Ok n) → (length t ≡ n) × (length t ≤ length before) × (after ≡ t ++ drop (length t) before)
  printed n p = let (l, f) = told-bytes t (length before) n p.answer in (l, f, p.memory f)

  pub unprinted : Prints t before after (Err no_room) → length before < length t
  unprinted p = told-full t (length before) p.answer

  pub prints-full : length before < length t → Prints t before after (Err no_room)
  prints-full h = record { answer = sym (rw (lt-leb (length t) (length before) h)); memory = λ l. absurd (omega (arith, h, l)) }

  pub prints-fit : (n : ℕ) → length t ≡ n → length t ≤ length before → after ≡ t ++ drop (length t) before → Prints t before after (Ok n)
  prints-fit n l f e = record { answer = sym (rw (le-leb (length t) (length before) f, l)); memory = λ _. e }

  -- a key that was put
  pub was-put : (n : ℕ) → Puts t before after (Ok n) → (length t ≡ n) × (length t ≤ length before) × (after ≡ t ++ drop (length t) before)
  was-put n p =
      let (l, f) = told-bytes t (length before) n p.answer in
      (l, f, p.memory ∙ rw (le-leb (length t) (length before) f))

  pub was-full : Puts t before after (Err no_room) → length before < length t
  was-full p = told-full t (length before) p.answer

pub prints-none : (before : List ℕ) → Prints [] before before (Ok 0)
prints-none before = prints-fit [] before before 0 refl (omega arith) refl

pub within_none : (before : List ℕ) → Within before before (Ok 0)
within_none before = record { long = refl; within = λ n e. let z : 0 ≡ n = cc in omega (arith, z) }

pub within-full : (before after : List ℕ) → length after ≡ length before → Within before after (Err no_room)
within-full before after e = record { long = e; within = λ n z. full-not z }

pub within_mid : (before mid after : List ℕ) (r : Result ℕ NoRoom) → length mid ≡ length before → Within mid after r → Within before after r
within_mid before mid after r e w = record { long = w.long ∙ e; within = λ n z. omega (arith, w.within n z, e) }

-- ── a text over one that was tried out in its place ──
pub spared-same : (t before : List ℕ) → Spared t before before
spared-same t before = record { long = refl; behind = λ _. refl }

pub spared-prints : (t before mid after : List ℕ) (r : Result ℕ NoRoom) → Spared t before mid → Prints t mid after r → Prints t before after r
spared-prints t before mid after r s p = record {
  answer = p.answer ∙ ap (put_answer t) s.long;
  memory = λ l. p.memory (omega (arith, l, s.long)) ∙ ap (λ (u : List ℕ). t ++ u) (s.behind l);
}

-- the key of a line
pub key_spared : (key more before after : List ℕ) → after ≡ put_memory key before → Spared (key ++ more) before after
key_spared key more before after e = room (length key) (length before) fits over
  where
    fits : length key ≤ length before → Spared (key ++ more) before after
    fits f =
        let is : after ≡ key ++ drop (length key) before = e ∙ rw (le-leb (length key) (length before) f) in
        record {
          long = ap length is ∙ length-append key (drop (length key) before) ∙ omega (arith, f, length-drop (length key) before);
          behind =
              λ l.
              ap (λ (u : List ℕ). drop (length (key ++ more)) u) is
              ∙ ap (λ (n : ℕ). drop n (key ++ drop (length key) before)) (length-append key more)
              ∙ drop-append-add key (drop (length key) before) (length more)
              ∙ drop-drop (length more) (length key) before
              ∙ ap (λ (n : ℕ). drop n before) (sym (length-append key more));
        }

    over : length before < length key → Spared (key ++ more) before after
    over f = subst (Spared (key ++ more) before) (sym (e ∙ rw (lt-leb (length key) (length before) f))) (spared-same (key ++ more) before)

-- ── one text behind another: x is the output with the first, y the rest of it with the second ──
pub first-full : (a b before after : List ℕ) → length before < length a → Prints (a ++ b) before after (Err no_room)
first-full a b before after h = prints-full (a ++ b) before after (omega (arith, h, length-append a b))

module _ (before x y : List ℕ) (n : ℕ) where
  -- as it is lent, and as it comes back
  abbrev pub rest : List ℕ
  rest = take (length x - n) (drop n x)

  abbrev pub whole : List ℕ
  whole = take n x ++ (y ++ drop (length x - n) (drop n x))

  rest-is : rest ≡ drop n x
  rest-is = take_all (length x - n) (drop n x) (omega (arith, length-drop n x))

  whole_is : whole ≡ take n x ++ y
  whole_is =
      ap (λ (u : List ℕ). take n x ++ (y ++ u)) (drop_of_length-le (drop n x) {i = length x - n} (omega (arith, length-drop n x)))
      ∙ ap (λ (u : List ℕ). take n x ++ u) (append-nil y)

  module _ (w : Within before x (Ok n)) where
    fits-here : n ≤ length before
    fits-here = w.within n refl

    rest-long : length rest ≡ length before - n
    rest-long = ap length rest-is ∙ length-drop n x ∙ ap (λ (m : ℕ). m - n) w.long

    pub behind-long : (r : Result ℕ NoRoom) → Within rest y r → length whole ≡ length before
    behind-long r v =
        ap length whole_is ∙ length-append (take n x) y
        ∙ omega (arith, length-take-le n x (omega (arith, fits-here, w.long)), v.long, rest-long, fits-here)

    pub behind-room : (m : ℕ) → Within rest y (Ok m) → n + m ≤ length before
    behind-room m v = omega (arith, v.within m refl, rest-long, fits-here)

    pub behind-within : (m : ℕ) → Within rest y (Ok m) → Within before whole (Ok (n + m))
    behind-within m v = record {
      long = behind-long (Ok m) v;
      within = λ i e. let z : n + m ≡ i = cc in omega (arith, z, behind-room m v);
    }

  module _ (a b : List ℕ) (p : Prints a before x (Ok n)) where
    front : (length a ≡ n) × (length a ≤ length before) × (x ≡ a ++ drop (length a) before)
    front = printed a before x n p

    behind-first : rest ≡ drop (length a) before
    behind-first = rest-is ∙ ap (drop n) front.2 ∙ drop_at a (drop (length a) before) n front.0

    room-left : length rest ≡ length before - length a
    room-left = ap length behind-first ∙ length-drop (length a) before

    pub behind-full : (after : List ℕ) → Prints b rest y (Err no_room) → Prints (a ++ b) before after (Err no_room)
    behind-full after q =
        prints-full (a ++ b) before after (omega (arith, unprinted b rest y q, room-left, length-append a b, front.1))

    pub behind-prints : (m : ℕ) → Prints b rest y (Ok m) → Prints (a ++ b) before whole (Ok (n + m))
    behind-prints m q =
        let second : (length b ≡ m) × (length b ≤ length rest) × (y ≡ b ++ drop (length b) rest) = printed b rest y m q in
        let size : length (a ++ b) ≡ n + m = length-append a b ∙ omega (arith, front.0, second.0) in
        let fit : length (a ++ b) ≤ length before = omega (arith, length-append a b, second.1, room-left, front.1) in
        let tail : drop (length b) rest ≡ drop (length (a ++ b)) before =
        ap (drop (length b)) behind-first ∙ drop-drop (length b) (length a) before ∙ ap (λ (i : ℕ). drop i before) (sym (length-append a b)) in
        prints-fit (a ++ b) before whole (n + m) size fit
        (whole_is ∙ ap (λ (u : List ℕ). u ++ y) (ap (take n) front.2 ∙ take_at a (drop (length a) before) n front.0)
        ∙ ap (λ (u : List ℕ). a ++ u) (second.2 ∙ ap (λ (u : List ℕ). b ++ u) tail)
        ∙ sym (append_assoc a b (drop (length (a ++ b)) before)))
