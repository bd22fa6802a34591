-- A volume's head, written piece by piece, and a volume behind it.
use Rattle.std.specs.Prelude.{Result, Ok, Err}
use Prim.Native.Nat.{ℕ, zero, suc, ◌+◌, ◌-◌, ◌/◌, ◌%◌, ◌≤◌, ◌<◌}
use mathlib.Core.Bool.{Bool, true, false, cond, ◌&&◌}
use mathlib.Core.List.{List, [], ◌∷◌, ◌++◌, append_assoc}
use mathlib.Core.Path.{◌≡◌, refl, sym, ◌∙◌, ap}
use native.Mathlib.Omega.{arith}
use borrow.Author.Tests.{leb-true, leb-false}
use borrow.Rule.Slice.PartMut.{put_mid}
use lib.Dec.{leb}
use lib.ListN.{length, take, drop, set, replicate, length-append, length-drop, length-take}
use Rattle.std.proofs.lemmas.List.{set-append_right}
use lib.Seq.{drop-drop, drop_at}
use Rattle.rules.specs.Spool.{padded_name, name_of, unlines, volume_bytes}
use Rattle.rules.specs.Values.{Known}
use Rattle.rules.specs.Machine.{State}
use Rattle.rules.proofs.Chains.{by_cond}
use Rattle.leaves.proofs.Cuts.{up_to-le}
use Rattle.lines.specs.VolumeNames.{raw_name, name_at}
use Rattle.lines.proofs.VolumeNames.{name-up}
use Rattle.prints.specs.Printing.{Within}
use Rattle.pens.specs.Shown.{shown}
use Rattle.volumes.specs.Volumes.{Fronts, BodyOut, BodyPromise, head_bytes, VolumeOut, VolumePromise}
use Rattle.pens.proofs.Behind.{full-not}
use Rattle.volumes.proofs.LentOutput.{lent, back, lent-long, back_is, within-long}
use Rattle.volumes.proofs.VolumeEnd.{fronts-fit, fronts-none}
use Rattle.leaves.specs.declared.NoRoom.{NoRoom}
use Rattle.leaves.specs.NoRoom.{no_room}

abbrev pub blank_head : List ℕ
blank_head = 86 ∷ 80 ∷ replicate 8 32

-- a name has at most eight bytes
pub name-short : (s : List ℕ) (p : ℕ) → length (name_at s p) ≤ 8
unfolding name_at raw_name
name-short s p =
    let raw = take 8 (drop (p - 10) s) in
    let some-name : length (name_of raw) ≤ 8 = omega (arith, ap length (name-up raw), up_to-le 32 raw, length-take 8 (drop (p - 10) s)) in
    let no_name : length {A = ℕ} [] ≤ 8 = omega arith in
    by_cond (λ (u : List ℕ). length u ≤ 8) (leb 12 p && leb p (length s)) {x = name_of raw} {y = []} (λ _. some-name) (λ _. no_name)

-- its spaces behind it
padded : (n : List ℕ) → length n ≤ 8 → padded_name n ≡ n ++ drop (length n) (replicate 8 32)
padded [] h = refl
padded (a ∷ []) h = refl
padded (a ∷ b ∷ []) h = refl
padded (a ∷ b ∷ c ∷ []) h = refl
padded (a ∷ b ∷ c ∷ d ∷ []) h = refl
padded (a ∷ b ∷ c ∷ d ∷ e ∷ []) h = refl
padded (a ∷ b ∷ c ∷ d ∷ e ∷ f ∷ []) h = refl
padded (a ∷ b ∷ c ∷ d ∷ e ∷ f ∷ g ∷ []) h = refl
padded (a ∷ b ∷ c ∷ d ∷ e ∷ f ∷ g ∷ i ∷ []) h = refl
padded (a ∷ b ∷ c ∷ d ∷ e ∷ f ∷ g ∷ i ∷ j ∷ n) h = absurd (omega (arith, h))

padded-long : (n : List ℕ) → length n ≤ 8 → length (padded_name n) ≡ 8
padded-long n h = omega (arith, ap length (padded n h), length-append n (drop (length n) (replicate 8 32)), length-drop (length n) (replicate {A = ℕ} 8 32), h)

drop-front : (a t : List ℕ) (k : ℕ) → k ≤ length a → drop k (a ++ t) ≡ drop k a ++ t
drop-front a t zero h = refl
drop-front [] t (suc k) h = absurd (omega (arith, h))
drop-front (b ∷ a) t (suc k) h = drop-front a t k (omega (arith, h))

pub take_after : (a t : List ℕ) (n k : ℕ) → n ≡ length a + k → take n (a ++ t) ≡ a ++ take k t
take_after [] t n k e = let same : n ≡ k = omega (arith, e) in ap (λ (m : ℕ). take m t) same
take_after (b ∷ a) t zero k e = absurd (omega (arith, e))
take_after (b ∷ a) t (suc n) k e = ap (λ (u : List ℕ). b ∷ u) (take_after a t n k (omega (arith, e)))

-- the mark and spaces, the name over them, the length behind
module _ (name : List ℕ) (h : length name ≤ 8) (size : ℕ) (out : List ℕ) where
  abbrev t : List ℕ
  t = drop 10 out

  abbrev pub high-low : List ℕ
  high-low = size / 256 % 256 ∷ size % 256 ∷ []

  named : put_mid 2 (length name) (blank_head ++ t) name ≡ (86 ∷ 80 ∷ padded_name name) ++ t
  named =
      ap (λ (u : List ℕ). 86 ∷ 80 ∷ (name ++ u)) (drop-front (replicate 8 32) t (length name) h)
      ∙ ap (λ (u : List ℕ). 86 ∷ 80 ∷ u) (sym (append_assoc name (drop (length name) (replicate 8 32)) t) ∙ ap (λ (u : List ℕ). u ++ t) (sym (padded name h)))

  pub head-long : length (head_bytes name size) ≡ 12
  head-long = omega (arith, length-append (86 ∷ 80 ∷ padded_name name) high-low, padded-long name h)

-- two bytes behind the first ten
two-set : (s t : List ℕ) (a b : ℕ) → length s ≡ 10 → 2 ≤ length t → set (set (s ++ t) 10 a) 11 b ≡ s ++ (a ∷ b ∷ drop 2 t)
two-set s [] a b e f = absurd (omega (arith, f))
two-set s (x ∷ []) a b e f = absurd (omega (arith, f))
two-set s (x ∷ y ∷ t) a b e f = ap (λ (u : List ℕ). set u 11 b) (set-append_right s (x ∷ y ∷ t) 10 10 a e (omega arith)) ∙ set-append_right s (a ∷ y ∷ t) 10 11 b e (omega arith)

-- as the code puts it
pub head-put : (name : List ℕ) (size : ℕ) (out one two : List ℕ) → length name ≤ 8 → 12 ≤ length out → one ≡ blank_head → two ≡ name
    → set (set (put_mid 2 (2 + length name - 2) (one ++ drop 10 out) two) 10 (size / 256 % 256)) 11 (size % 256) ≡ head_bytes name size ++ drop 12 out
head-put name size out one two n m p q =
    let N : List ℕ = 86 ∷ 80 ∷ padded_name name in
    let k : 2 + length name - 2 ≡ length name = omega arith in
    rw (p, q, k) (
    ap (λ (u : List ℕ). set (set u 10 (size / 256 % 256)) 11 (size % 256)) (named name n size out)
    ∙ two-set N (drop 10 out) (size / 256 % 256) (size % 256) (omega (arith, padded-long name n)) (omega (arith, length-drop 10 out, m))
    ∙ ap (λ (u : List ℕ). N ++ (size / 256 % 256 ∷ size % 256 ∷ u)) (drop-drop 2 10 out)
    ∙ sym (append_assoc N (high-low name n size out) (drop 12 out))
    )

-- ── a volume ──
pub fronted : (x before after : List ℕ) (n : ℕ) → Fronts x before after (Ok n) → (length x ≤ length before) × (n ≡ length x) × (take (length x) after ≡ x)
fronted x before after n w = go (leb (length x) (length before)) refl w.answer
  where
    go : (b : Bool) → leb (length x) (length before) ≡ b → Ok n ≡ cond b (Ok (length x)) (Err no_room) → (length x ≤ length before) × (n ≡ length x) × (take (length x) after ≡ x)
    go true q e = let f = leb-true (length x) (length before) q in (f, cc, w.memory f)
    go false q e = full-not (sym e)

pub unfronted : (x before after : List ℕ) → Fronts x before after (Err no_room) → length before < length x
unfronted x before after w = go (leb (length x) (length before)) refl w.answer
  where
    go : (b : Bool) → leb (length x) (length before) ≡ b → (Err no_room) ≡ cond b (Ok (length x)) (Err no_room) → length before < length x
    go true q e = full-not e
    go false q e = leb-false (length x) (length before) q

-- how long the output is with it
pub volume-kept : (out part : List ℕ) (h : 12 ≤ length out) (r : Result ℕ NoRoom) (after name : List ℕ) (n : ℕ) → Within (lent 12 out h) part r → length name ≤ 8 → after ≡ head_bytes name n ++ drop 12 (back 12 out h part) → length after ≡ length out
volume-kept out part h r after name n w s e =
    ap length e ∙ length-append (head_bytes name n) (drop 12 (back 12 out h part))
    ∙ omega (arith, head-long name s n out, length-drop 12 (back 12 out h part), within-long 12 out h part r w, h)

module _ (K : Known) (first : Bool) (name : List ℕ) (short : length name ≤ 8) (st : State) where
  abbrev body : List ℕ
  body = unlines (shown K first st)

  volume-is : volume_bytes name body ≡ head_bytes name (length body) ++ body
  volume-is = sym (append_assoc (86 ∷ 80 ∷ padded_name name) (length body / 256 % 256 ∷ length body % 256 ∷ []) body)

  volume-long : length (volume_bytes name body) ≡ 12 + length body
  volume-long = ap length volume-is ∙ length-append (head_bytes name (length body)) body ∙ ap (λ (n : ℕ). n + length body) (head-long name short (length body) [])

  pub volume-narrow : (before after : List ℕ) → length before < 12 → VolumeOut K first name st before after (Err no_room)
  volume-narrow before after h = record {
    fronts = fronts-none (volume_bytes name body) before after (omega (arith, h, volume-long));
    served = λ n e. full-not e;
  }

  module _ (out part : List ℕ) (h : 12 ≤ length out) where
    pub volume-full : (after : List ℕ) → BodyOut K first st (lent 12 out h) part (Err no_room) → VolumeOut K first name st out after (Err no_room)
    volume-full after w = record {
      fronts = fronts-none (volume_bytes name body) out after (omega (arith, unfronted body (lent 12 out h) part w.fronts, lent-long 12 out h, volume-long, h));
      served = λ n e. full-not e;
    }

    pub volume-wrote : (after : List ℕ) (n : ℕ) → after ≡ head_bytes name n ++ drop 12 (back 12 out h part) → BodyOut K first st (lent 12 out h) part (Ok n)
        → VolumeOut K first name st out after (Ok (n + 12))
    volume-wrote after n e w =
        let (fits, same, is) = fronted body (lent 12 out h) part n w.fronts in
        let H = head_bytes name n in
        let twelve : length (take 12 out) ≡ 12 = length-take 12 out ∙ omega (arith, h) in
        let behind : drop 12 (back 12 out h part) ≡ part = ap (drop 12) (back_is 12 out h part) ∙ drop_at (take 12 out) part 12 twelve in
        let whole : after ≡ H ++ part = e ∙ ap (λ (u : List ℕ). H ++ u) behind in
        let long-head : length H ≡ 12 = head-long name short n out in
        record {
          fronts =
              fronts-fit (volume_bytes name body) out after (n + 12) (omega (arith, same, volume-long)) (omega (arith, same, fits, lent-long 12 out h, h))
              (ap (take (n + 12)) whole
              ∙ take_after H part (n + 12) n (omega (arith, long-head))
              ∙ ap (λ (u : List ℕ). H ++ u) (ap (λ (m : ℕ). take m part) same ∙ is)
              ∙ ap (λ (m : ℕ). head_bytes name m ++ body) same
              ∙ sym volume-is);
          served = λ m q. w.served n refl;
        }

-- what the code promises of a body is what it promises of a volume
pub volume_promise : (spool body : List ℕ) (start : ℕ) (first : Bool) (before after : List ℕ) (r : Result ℕ NoRoom) (within after' : List ℕ) (q : Result ℕ NoRoom) → BodyPromise spool body start first within after' q
    → ((K : Known) (st : State) → BodyOut K first st within after' q → VolumeOut K first (name_at spool start) st before after r)
    → VolumePromise spool body start first before after r
volume_promise spool _ start first before after r within after' q p f K e v next ls s st c a b g = f K st (p K e v next ls s st c a b g)
