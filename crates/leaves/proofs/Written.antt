-- What the writers do: a text copied byte by byte, digits laid from the last to the first, needless zeros passed over.
use Rattle.std.specs.Prelude.{Result, Ok, Err}
use Prim.Native.Nat.{ℕ, zero, suc, ◌+◌, ◌-◌, ◌/◌, ◌%◌, ◌<◌, ◌≤◌}
use mathlib.Core.Path.{◌≡◌, refl, ap, sym, subst, ◌∙◌}
use mathlib.Core.List.{List, [], ◌∷◌, ◌++◌, append-nil}
use mathlib.Core.Bool.{Bool, true, false, cond, not}
use native.Mathlib.Omega.{arith}
use lib.ListN.{length, get_or, take, drop, set, length-set, length-drop}
use lib.Seq.{take-suc, take-append-add, drop-append-add, drop-append-le, take_at, take_all, drop-length, append_snoc, drop-cons, drop-set-lt, get_or-set_same}
use borrow.Author.Tests.{le-leb, lt-leb, eq-eqb, ne_eqb, leb-true, leb-false}
use lib.Dec.{eqb, leb}
use Rattle.std.specs.List.{position_or_len}
use borrow.Rule.Slice.PartMut.{put_mid}
use Rattle.rules.specs.Numbers.{fixed_onto, fixed, trim, end_onto, trim_end, show_size}
use Rattle.leaves.specs.Writing.{Puts, laid_size}
use Rattle.leaves.specs.declared.NoRoom.{NoRoom}
use Rattle.leaves.specs.NoRoom.{no_room}

-- ── the sentence of a writer, by the text's length ──
module _ (text before : List ℕ) (n : ℕ) where
  pub fits : length text ≡ n → n ≤ length before → (after : List ℕ) → after ≡ text ++ drop n before → Puts text before after (Ok n)
  fits e h after m = record { answer = rw (e, le-leb n (length before) h); memory = m ∙ sym (rw (e, le-leb n (length before) h)) }

  pub full : length text ≡ n → length before < n → Puts text before before (Err no_room)
  full e h = record { answer = rw (e, lt-leb n (length before) h); memory = sym (rw (e, lt-leb n (length before) h)) }

-- ── digits from the last to the first ──
laid : (out : List ℕ) (j b : ℕ) → j < length out → drop j (set out j b) ≡ b ∷ drop (suc j) out
laid out j b h =
    drop-cons (set out j b) j 0 (rw (length-set out j b) h) ∙ rw (get_or-set_same out j b 0 h, drop-set-lt (suc j) out j b (omega arith))

pub digit-more : (out : List ℕ) (i n : ℕ) → 0 < i → i ≤ length out
    → fixed_onto i n (drop i out) ≡ fixed_onto (i - 1) (n / 10) (drop (i - 1) (set out (i - 1) (48 + n % 10)))
unfolding fixed_onto
digit-more out zero n p h = absurd (omega arith)
digit-more out (suc j) n p h = let e : suc j - 1 ≡ j = omega arith in rw e (ap (fixed_onto j (n / 10)) (sym (laid out j (48 + n % 10) h)))

pub fixed-end : (n : ℕ) (s : List ℕ) → fixed_onto 0 n s ≡ s
unfolding fixed_onto
fixed-end n s = refl

length-fixed : (w n : ℕ) (s : List ℕ) → length (fixed_onto w n s) ≡ w + length s
unfolding fixed_onto
length-fixed zero n s = omega arith
length-fixed (suc w) n s = omega (arith, length-fixed w (n / 10) ((48 + n % 10) ∷ s))

pub fixed-length : (w n : ℕ) → length (fixed w n) ≡ w
fixed-length w n = omega (arith, length-fixed w n [])

-- ── needless zeros ──
abbrev pub other_digit : ℕ → Bool
other_digit b = not (eqb b 48)

-- the first other digit but for the last
front : (b : ℕ) (s : List ℕ) → drop (position_or_len other_digit (take (length s) (b ∷ s))) (b ∷ s) ≡ trim (b ∷ s)
front b [] = refl
front b (c ∷ s) =
    let k = position_or_len other_digit (take (length s) (c ∷ s)) in
    let e : 1 + k ≡ suc k = omega arith in
    elim (eqb b 48) as (λ t. drop (cond (not (not t)) (1 + k) 0) (b ∷ c ∷ s) ≡ cond t (trim (c ∷ s)) (b ∷ c ∷ s)) [ true ↦ ap (λ (n : ℕ). drop n (b ∷ c ∷ s)) e ∙ front c s | false ↦ refl ]

pub front-other : (s : List ℕ) → drop (position_or_len other_digit (take (length s - 1) s)) s ≡ trim s
front-other [] = refl
front-other (b ∷ s) = let e : suc (length s) - 1 ≡ length s = omega arith in rw e (front b s)

-- ── zeros at the end ──
end-zero : (s : List ℕ) → trim_end (s ++ 48 ∷ []) ≡ trim_end s
end-zero [] = refl
end-zero (b ∷ s) = ap (end_onto b) (end-zero s)

end-stop : (s : List ℕ) (b : ℕ) → (b ≡ 48 → ⊥) → trim_end (s ++ b ∷ []) ≡ s ++ b ∷ []
end-stop [] b h = rw (ne_eqb b 48 h)
end-stop (a ∷ []) b h = ap (end_onto a) (end-stop [] b h)
end-stop (a ∷ c ∷ s) b h = ap (end_onto a) (end-stop (c ∷ s) b h)

-- the last of the first suc j
module _ (s : List ℕ) (j : ℕ) (h : j < length s) where
  pub needed-zero : get_or s j 0 ≡ 48 → trim_end (take (suc j) s) ≡ trim_end (take j s)
  needed-zero e = rw (take-suc s j 0 h, e) (end-zero (take j s))

  pub needed-stop : (get_or s j 0 ≡ 48 → ⊥) → trim_end (take (suc j) s) ≡ take (suc j) s
  needed-stop e = rw (take-suc s j 0 h) (end-stop (take j s) (get_or s j 0) e)

-- ── a size with all its digits ──
-- what stands behind the first seven digits before the last four are laid
abbrev pub blank : List ℕ
blank = 46 ∷ 48 ∷ 48 ∷ 48 ∷ 48 ∷ []

module _ (a r : List ℕ) (l : length a ≡ 7) where
  take-eight : take 8 (a ++ r) ≡ a ++ take 1 r
  take-eight = let e : 8 ≡ length a + 1 = omega arith in ap (λ (k : ℕ). take k (a ++ r)) e ∙ take-append-add a r 1

  drop-eight : drop 8 (a ++ r) ≡ drop 1 r
  drop-eight = let e : 8 ≡ length a + 1 = omega arith in ap (λ (k : ℕ). drop k (a ++ r)) e ∙ drop-append-add a r 1

module _ (n : ℕ) (a : List ℕ) (ea : a ≡ fixed 7 n) where
  seven : length a ≡ 7
  seven = rw ea (fixed-length 7 n)

pub lay_done : (m : ℕ) (a b : List ℕ) → a ≡ fixed 7 (m / 10000) → b ≡ fixed (length (take 4 (drop 8 (a ++ blank)))) (m % 10000)
    → 48 ∷ (take 8 (a ++ blank) ++ (b ++ drop 4 (drop 8 (a ++ blank)))) ≡ laid_size m
unfolding laid_size
lay_done m a b ea eb =
    let l = seven (m / 10000) a ea in
    let four = eb ∙ ap (λ (s : List ℕ). fixed (length (take 4 s)) (m % 10000)) (drop-eight a blank l) in
    ap (λ (s : List ℕ). 48 ∷ (s ++ (b ++ drop 4 (drop 8 (a ++ blank))))) (take-eight a blank l)
    ∙ ap (λ (s : List ℕ). 48 ∷ (a ++ (46 ∷ []) ++ (b ++ drop 4 s))) (drop-eight a blank l)
    ∙ ap (λ (s : List ℕ). 48 ∷ (a ++ (46 ∷ []) ++ s)) (append-nil b)
    ∙ ap (λ (s : List ℕ). 48 ∷ s) (append_snoc a 46 b)
    ∙ rw (ea, four)

-- the parts of it
part_of : (w f : List ℕ) (z j e : ℕ) → length w ≡ 7 → z ≤ 7 → e ≡ 8 + j → take (e - (1 + z)) (drop (1 + z) (48 ∷ (w ++ 46 ∷ f))) ≡ drop z w ++ take j (46 ∷ f)
part_of w f z j e l h q =
    let one : 1 + z ≡ suc z = omega arith in
    let many : e - (1 + z) ≡ length (drop z w) + j = omega (arith, length-drop z w) in
    ap (λ (k : ℕ). take k (drop (1 + z) (48 ∷ (w ++ 46 ∷ f)))) many
    ∙ ap (λ (k : ℕ). take (length (drop z w) + j) (drop k (48 ∷ (w ++ 46 ∷ f)))) one
    ∙ ap (take (length (drop z w) + j)) (drop-append-le z w (46 ∷ f) (omega arith))
    ∙ take-append-add (drop z w) (46 ∷ f) j

module _ (m : ℕ) where
  pub whole_part : take 7 (drop 1 (laid_size m)) ≡ fixed 7 (m / 10000)
  unfolding laid_size
  whole_part = take_at (fixed 7 (m / 10000)) (46 ∷ fixed 4 (m % 10000)) 7 (fixed-length 7 (m / 10000))

  pub fraction-part : take 4 (drop 9 (laid_size m)) ≡ fixed 4 (m % 10000)
  unfolding laid_size
  fraction-part =
      ap (take 4) (drop-eight (fixed 7 (m / 10000)) (46 ∷ fixed 4 (m % 10000)) (fixed-length 7 (m / 10000)))
      ∙ take_all 4 (fixed 4 (m % 10000)) (omega (arith, fixed-length 4 (m % 10000)))

  module _ (z : ℕ) (h : z ≤ 7) (d : drop z (fixed 7 (m / 10000)) ≡ trim (fixed 7 (m / 10000))) where
    pub size-whole : m % 10000 ≡ 0 → take (8 - (1 + z)) (drop (1 + z) (laid_size m)) ≡ show_size m
    unfolding laid_size
    size-whole e =
        part_of (fixed 7 (m / 10000)) (fixed 4 (m % 10000)) z 0 8 (fixed-length 7 (m / 10000)) h refl ∙ rw (d, eq-eqb (m % 10000) 0 e)

    pub size-parts : (m % 10000 ≡ 0 → ⊥) → (k : ℕ) → take k (fixed 4 (m % 10000)) ≡ trim_end (fixed 4 (m % 10000))
        → take (9 + k - (1 + z)) (drop (1 + z) (laid_size m)) ≡ show_size m
    unfolding laid_size
    size-parts e k t =
        part_of (fixed 7 (m / 10000)) (fixed 4 (m % 10000)) z (suc k) (9 + k) (fixed-length 7 (m / 10000)) h (omega arith)
        ∙ rw (d, t, ne_eqb (m % 10000) 0 e)

-- ── a byte before a text that is there or found no room ──
pub full-bytes : {P : Type 0} {n : ℕ} → (Err no_room) ≡ Ok n → P
full-bytes e = absurd (let z : ◌≡◌ {A = ℕ} 0 1 = cc in omega arith)

module _ (text s after : List ℕ) where
  pub was-full : Puts text s after (Err no_room) → (length s < length text) × (after ≡ s)
  was-full p = go (leb (length text) (length s)) refl p.answer p.memory
    where
      go : (t : Bool) → leb (length text) (length s) ≡ t → (Err no_room) ≡ cond t (Ok (length text)) (Err no_room) → after ≡ cond t (text ++ drop (length text) s) s
          → (length s < length text) × (after ≡ s)
      go true q a m = full-bytes a
      go false q a m = (leb-false (length text) (length s) q, m)

  pub was-bytes : (n : ℕ) → Puts text s after (Ok n) → (length text ≡ n) × (length text ≤ length s) × (after ≡ text ++ drop (length text) s)
  was-bytes n p = go (leb (length text) (length s)) refl p.answer p.memory
    where
      go : (t : Bool) → leb (length text) (length s) ≡ t → Ok n ≡ cond t (Ok (length text)) (Err no_room) → after ≡ cond t (text ++ drop (length text) s) s
          → (length text ≡ n) × (length text ≤ length s) × (after ≡ text ++ drop (length text) s)
      go true q a m = (let e : n ≡ length text = cc in sym e, leb-true (length text) (length s) q, m)
      go false q a m = full-bytes (sym a)

rest_of_lem : (b : ℕ) (s : List ℕ) → take (length (b ∷ s) - 1) s ≡ s
rest_of_lem b s = take_all (suc (length s) - 1) s (omega arith)

put_rest : (b : ℕ) (s after : List ℕ) → put_mid 1 (length (b ∷ s) - 1) (b ∷ s) after ≡ b ∷ after
put_rest b s after =
    let e : suc (length s) - 1 ≡ length s = omega arith in
    ap (λ (k : ℕ). b ∷ (after ++ drop k s)) e ∙ ap (λ (l : List ℕ). b ∷ (after ++ l)) (drop-length s) ∙ ap (λ (l : List ℕ). b ∷ l) (append-nil after)

module _ (x : ℕ) (text after : List ℕ) (r : Result ℕ NoRoom) where
  pub behind-full : (before : List ℕ) → (length before ≡ 0 → ⊥) → Puts text (take (length before - 1) (drop 1 before)) after r → r ≡ Err no_room
      → Puts (x ∷ text) before (put_mid 1 (length before - 1) before after) (Err no_room)
  behind-full [] h p e = absurd (h refl)
  behind-full (b ∷ s) h p e =
      let w = was-full text s after (rw (rest_of_lem b s, e) at p) in
      rw (put_rest b s after, w.1) (full (x ∷ text) (b ∷ s) (suc (length text)) refl (omega (arith, w.0)))

  pub behind-room : (before : List ℕ) → (length before ≡ 0 → ⊥) → (n : ℕ) → Puts text (take (length before - 1) (drop 1 before)) after r → r ≡ Ok n
      → n + 1 ≤ length before
  behind-room [] h n p e = absurd (h refl)
  behind-room (b ∷ s) h n p e = let w = was-bytes text s after n (rw (rest_of_lem b s, e) at p) in omega (arith, w.0, w.1)

  pub behind-bytes : (before : List ℕ) → (length before ≡ 0 → ⊥) → (n : ℕ) → Puts text (take (length before - 1) (drop 1 before)) after r → r ≡ Ok n
      → Puts (x ∷ text) before (set (put_mid 1 (length before - 1) before after) 0 x) (Ok (n + 1))
  behind-bytes [] h n p e = absurd (h refl)
  behind-bytes (b ∷ s) h n p e =
      let w = was-bytes text s after n (rw (rest_of_lem b s, e) at p) in
      let l : n + 1 ≡ suc (length text) = omega (arith, w.0) in
      subst (λ (q : List ℕ). Puts (x ∷ text) (b ∷ s) (set q 0 x) (Ok (n + 1))) (sym (put_rest b s after)) (rw l (fits (x ∷ text) (b ∷ s) (suc (length text)) refl (omega (arith, w.1)) (x ∷ after) (ap (λ (q : List ℕ). x ∷ q) w.2)))
