-- Own numbers that go up by one, eight at once or singly, so that a new one takes its place among those that are kept.
use Prim.Native.Nat.{ℕ, suc, ◌+◌, ◌-◌, ◌<◌, ◌≤◌}
use mathlib.Core.Bool.{Bool, false, cond}
use mathlib.Core.List.{List, [], ◌∷◌, ◌++◌, append_assoc}
use mathlib.Core.Path.{◌≡◌, refl, sym, ◌∙◌, ap}
use native.Mathlib.Omega.{arith}
use lib.ListN.{length, get_or, set, take, drop}
use lib.Seq.{paste, take-add, take-take, drop_at, set_at, take-suc, append_snoc, length-take-le}
use Rattle.rules.specs.declared.Span.{Span}
use Rattle.account.specs.declared.Now.{Now}
use Rattle.account.specs.declared.Step.TheVariants as S
use Rattle.account.specs.SerialNumbers.{kept_number, own_of, place_for, kept_among, serial_count, in_use, SerialLine}
use Rattle.account.proofs.NumberLaws.{own-kept, inserted-at, place-length}

-- the n from i on, one place up; what stood at i stays there too
abbrev pub raised : List ℕ → ℕ → ℕ → List ℕ
raised t i n = paste t (i + 1) (drop i t) n

part_of : (i m : ℕ) (x : List ℕ) → i ≤ length x → take m (drop i x) ≡ drop i (take (i + m) x)
part_of i m x h = sym (ap (drop i) (take-add i m x) ∙ drop_at (take i x) (take m (drop i x)) i (length-take-le i x h))

-- ── a new number in its place ──
pub place-below : (own n : ℕ) (ks : List ℕ) → n ≤ length ks → place_for own (take n ks) ≤ n
place-below own n ks h = omega (arith, place-length own (take n ks), length-take-le n ks h)

module _ (n k : ℕ) (ks : List ℕ) (h : n < length ks) where
  abbrev p : ℕ
  p = place_for (own_of k) (take n ks)

  place-within : p ≤ n
  place-within = place-below (own_of k) n ks (omega (arith, h))

  abbrev q : List ℕ
  q = take (n - p) (drop p ks)

  abbrev r : List ℕ
  r = drop (p + 1 + (n - p)) ks

  among-is : kept_among n k ks ≡ take p ks ++ k ∷ (q ++ r)
  among-is =
      let w : p ≤ n = place-within in
      let whole : p + (n - p) ≡ n = omega (arith, w) in
      let end : suc n ≡ p + 1 + (n - p) = omega (arith, w) in
      ap (λ (s : List ℕ). s ++ drop (suc n) ks) (inserted-at k (take n ks))
      ∙ ap (λ (s : List ℕ). (s ++ k ∷ drop p (take n ks)) ++ drop (suc n) ks) (take-take p n ks w)
      ∙ ap (λ (s : List ℕ). (take p ks ++ k ∷ s) ++ drop (suc n) ks) (ap (λ (m : ℕ). drop p (take m ks)) (sym whole) ∙ sym (part_of p (n - p) ks (omega (arith, w, h))))
      ∙ ap (λ (m : ℕ). (take p ks ++ k ∷ q) ++ drop m ks) end
      ∙ append_assoc (take p ks) (k ∷ q) r

  raised_is : raised ks p (n - p) ≡ take p ks ++ get_or ks p 0 ∷ (q ++ r)
  raised_is =
      let w : p ≤ n = place-within in
      let one : p + 1 ≡ suc p = omega arith in
      ap (λ (s : List ℕ). s ++ q ++ r) (ap (λ (m : ℕ). take m ks) one ∙ take-suc ks p 0 (omega (arith, w, h)))
      ∙ append_assoc (take p ks ++ get_or ks p 0 ∷ []) q r
      ∙ append_snoc (take p ks) (get_or ks p 0) (q ++ r)

  pub placed-among : set (raised ks p (n - p)) p k ≡ kept_among n k ks
  placed-among =
      let w : p ≤ n = place-within in
      ap (λ (s : List ℕ). set s p k) raised_is ∙ set_at (take p ks) (get_or ks p 0) (q ++ r) k p (length-take-le p ks (omega (arith, w, h))) ∙ sym among-is

-- ── a line with an own number ──
-- p: its place, u: what was raised for it
pub own-goes : (now : Now) (own : ℕ) (at : Span) (tally serials : List ℕ) → in_use tally serials own ≡ false → (p : ℕ) (u : List ℕ) (k : ℕ) → p ≡ place_for own (take (serial_count tally) serials)
    → k ≡ kept_number own at → serial_count tally < length serials → u ≡ raised serials p (serial_count tally - p)
    → SerialLine now own at tally (set tally 11 (serial_count tally + 1)) serials (set u p k) (S.Go now)
own-goes now own at tally serials f p u k pe ke h ue = record {
  answer = sym (ap (λ (t : Bool). cond t (S.Stop 15) (S.Go now)) f);
  tally = λ _. refl;
  serials = λ _.
      let pk : p ≡ place_for (own_of (kept_number own at)) (take (serial_count tally) serials) = pe ∙ ap (λ (o : ℕ). place_for o (take (serial_count tally) serials)) (sym (own-kept own at)) in
      ap (set u p) ke ∙ ap (λ (s : List ℕ). set s p (kept_number own at)) ue
      ∙ ap (λ (m : ℕ). set (raised serials m (serial_count tally - m)) m (kept_number own at)) pk
      ∙ placed-among (serial_count tally) (kept_number own at) serials h;
}
