-- What a line has behind its `=` stands in the spool at the place that the line's form tells, up to the line's end.
use Rattle.std.specs.Prelude.{Option, Some, None}
use Prim.Native.Nat.{ℕ, zero, suc, ◌+◌, ◌-◌}
use mathlib.Core.Bool.{true, ◌&&◌, ◌||◌, not}
use mathlib.Core.List.{List, [], ◌∷◌, ◌++◌, append_assoc, append-nil}
use mathlib.Core.Path.{◌≡◌, refl, sym, ◌∙◌, ap, subst}
use native.Mathlib.Omega.{arith}
use lib.Dec.{eqb}
use lib.IntN.{pos}
use lib.ListN.{length, take, drop, length-append, take-append-drop}
use lib.Seq.{length-take-le}
use borrow.Author.Tests.{eqb-true, leb-true}
use Rattle.rules.specs.Base.{choose, map_o, is_nil, same, distinct, within}
use Rattle.rules.specs.Spool.{most_bytes, most_volumes, Volume, good_name, length_of, good_head, volume_at, volumes_from, names_of, sound_volumes, volumes_of, unlines}
use Rattle.rules.specs.Lines.{unindent, allowed, Scan, neither, at_equal, at_brace, scan, Rest, equals, brace, keyed, with_key, form_from, form_of_rest, form_of}
use Rattle.rules.specs.Machine.{Line}
use Rattle.rules.specs.FixedForm.{Text}
use Rattle.rules.specs.Answers.{numbered, next_name}
use Rattle.rules.proofs.Chains.{and_left, and_right, by_cond, map-some, none-some, cond-some}
use Rattle.promises.specs.TableTexts.{Shows}
use Rattle.promises.proofs.Forms.{by-choose, Cuts, scan-cuts}
use Rattle.promises.proofs.Frame.{lines_inv}
use Rattle.promises.proofs.Sizes.{listing, Texts}
use Rattle.promises.proofs.FitSets.{Each}
use Rattle.promises.proofs.FitRows.{FitForm}
use Rattle.promises.proofs.Fits.{FitLines}
use Rattle.promises.proofs.SetTexts.{Standing}

-- blanks that are dropped stand in front of the rest
unindent-front : (s : List ℕ) → (w : List ℕ) × (s ≡ w ++ unindent s)
unindent-front [] = ([], refl)
unindent-front (b ∷ []) = by_cond (λ u. (w : List ℕ) × (b ∷ [] ≡ w ++ u)) (eqb b 32 || eqb b 9) (λ _. (b ∷ [], refl)) (λ _. ([], refl))
unindent-front (b ∷ c ∷ s) =
    let i = unindent-front (c ∷ s) in
    let j = unindent-front s in
    let P : List ℕ → Type 0 = λ u. (w : List ℕ) × (b ∷ c ∷ s ≡ w ++ u) in
    by-choose P (eqb b 32 || eqb b 9) _ _ (λ _. (b ∷ i.0, ap (λ t. b ∷ t) i.1)) λ _.
    by-choose P (eqb b 129 && eqb c 64) _ _ (λ _. (b ∷ c ∷ j.0, ap (λ t. b ∷ c ∷ t) j.1)) (λ _. ([], refl))

module _ (spool : List ℕ) where
  abbrev S : ℕ → List ℕ → Type 0
  S = Standing spool

  -- bytes that stand at a place
  abbrev At : ℕ → List ℕ → Type 0
  At at s = (before : List ℕ) × (after : List ℕ) × (spool ≡ before ++ (s ++ after)) × (length before ≡ at)

  -- what stands behind the first part of bytes that stand at a place
  at-behind : (at : ℕ) (a b : List ℕ) → At at (a ++ b) → At (at + length a) b
  at-behind at a b (before, after, e, n) = (
    before ++ a,
    after,
    e ∙ ap (λ t. before ++ t) (append_assoc a b after) ∙ sym (append_assoc before a (b ++ after)),
    (let z = length-append before a in omega arith),
  )

  at_front : (at : ℕ) (a b : List ℕ) → At at (a ++ b) → At at a
  at_front at a b (before, after, e, n) = (before, b ++ after, e ∙ ap (λ t. before ++ t) (append_assoc a b after), n)

  at_same : (m n : ℕ) (s : List ℕ) → m ≡ n → At m s → At n s
  at_same m n s e h = subst (λ (k : ℕ). At k s) e h

  -- ── one line ──
  -- a line with its end
  abbrev ended : List ℕ → List ℕ
  ended l = l ++ (13 ∷ 10 ∷ [])

  equal-stands : (at : ℕ) (c : List ℕ) → At at (61 ∷ ended c) → S (at + 1) c
  equal-stands at c (before, after, e, n) =
      subst (λ (k : ℕ). Shows spool (pos (k + 1)) (pos (length c)) c) n
      (Shows.stands before c after (e ∙ ap (λ t. before ++ (61 ∷ t)) (append_assoc c (13 ∷ 10 ∷ []) after)))

  key_fits : (k : List ℕ) (r : Rest) → FitForm S (keyed k r) → FitForm S (with_key k r)
  key_fits [] r h = tt
  key_fits (b ∷ k) r h = h

  from-fits : (at : ℕ) (s : List ℕ) (z : Scan) → Cuts s z → At at (ended s) → FitForm S (form_from s (at + length s) z)
  from-fits at s neither e h = by_cond (FitForm S) (same s _) (λ _. tt) (λ _. by_cond (FitForm S) (same s _) (λ _. tt) (λ _. tt))
  from-fits at s (at_equal k c) e h =
      let whole = subst (At at) (ap ended e ∙ append_assoc k (61 ∷ c) (13 ∷ 10 ∷ [])) h in
      let n = ap length e ∙ length-append k (61 ∷ c) in
      let place : at + length k + 1 ≡ at + length s - length c = omega arith in
      key_fits k (equals (at + length s - length c) c) (subst (λ (p : ℕ). S p c) place (equal-stands (at + length k) c (at-behind at k (61 ∷ ended c) whole)))
  from-fits at s (at_brace k c) e h = by_cond (FitForm S) (is_nil c) (λ _. key_fits k brace tt) (λ _. tt)

  rest-fits : (at : ℕ) (s : List ℕ) → At at (ended s) → FitForm S (form_of_rest s (at + length s))
  rest-fits at [] h = tt
  rest-fits at (b ∷ s) h = by_cond (FitForm S) (allowed (b ∷ s)) (λ _. from-fits at (b ∷ s) (scan (b ∷ s)) (scan-cuts (b ∷ s)) h) (λ _. tt)

  form-fits : (at : ℕ) (l : List ℕ) → At at (ended l) → FitForm S (form_of at l)
  unfolding form_of
  form-fits at [] h = tt
  form-fits at (b ∷ s) h =
      let (w, e) = unindent-front (b ∷ s) in
      let u = unindent (b ∷ s) in
      let whole = subst (At at) (ap ended e ∙ append_assoc w u (13 ∷ 10 ∷ [])) h in
      let n = ap length e ∙ length-append w u in
      let place : at + length w + length u ≡ at + length (b ∷ s) = omega arith in
      by-choose (FitForm S) (eqb b 35) _ _ (λ _. tt) λ _.
      subst (λ (p : ℕ). FitForm S (form_of_rest u p)) place (rest-fits (at + length w) u (at-behind at w (ended u) whole))

  -- ── the lines of a volume ──
  numbered-fits : (k : ℕ) (next : List ℕ) (n at : ℕ) (t : Text) (more : List Line) → At at (unlines t) → FitLines S more → FitLines S (numbered k next n at t ++ more)
  numbered-fits k next n at [] more h m = m
  numbered-fits k next n at (l ∷ t) more h m =
      let whole = subst (At at) (sym (append_assoc l (13 ∷ 10 ∷ []) (unlines t))) h in
      let z = length-append l (13 ∷ 10 ∷ []) in (
        form-fits at l (at_front at (ended l) (unlines t) whole),
        numbered-fits k next (suc n) (at + length l + 2) t more (at_same _ _ (unlines t) (omega arith) (at-behind at (ended l) (unlines t) whole)) m,
      )

  abbrev Stand : List Volume → Type 0
  Stand vs = Each (λ v. At v.place v.body) vs

  pub listing-fits : (k : ℕ) (vs : List Volume) (ts : List Text) → Texts vs ts → Stand vs → FitLines S (listing k vs ts)
  listing-fits k [] ts h p = tt
  listing-fits k (v ∷ vs) [] h p = tt
  listing-fits k (v ∷ vs) ([] ∷ ts) h p = (tt, listing-fits (suc k) vs ts h.1 p.1)
  listing-fits k (v ∷ vs) ((l ∷ t) ∷ ts) h p =
      numbered-fits k (next_name vs) 1 v.place (l ∷ t) (listing (suc k) vs ts)
      (subst (At v.place) (lines_inv v.body (l ∷ t) h.0).0 p.0) (listing-fits (suc k) vs ts h.1 p.1)

  -- ── the volumes of a spool ──
  from_stand : (k at : ℕ) (s : List ℕ) (vs : List Volume) → volumes_from k at s ≡ Some vs → At at s → Stand vs
  from_stand zero at [] vs e h = let q : [] ≡ vs = cc in subst Stand q tt
  from_stand zero at (b ∷ s) vs e h = none-some e
  from_stand (suc k) at [] vs e h = let q : [] ≡ vs = cc in subst Stand q tt
  from_stand (suc k) at (b ∷ s) vs e h = go (take 12 (b ∷ s)) (drop 12 (b ∷ s)) (take-append-drop 12 (b ∷ s)) (λ n t us. from_stand k n t us) e
    where
      go : (f r : List ℕ) → f ++ r ≡ b ∷ s → ((n : ℕ) (t : List ℕ) (us : List Volume) → volumes_from k n t ≡ Some us → At n t → Stand us)
          → choose (good_head f r) (λ _. map_o (λ us. volume_at at f r ∷ us) (volumes_from k (at + 12 + length_of f) (drop (length_of f) r))) (λ _. None) ≡ Some vs → Stand vs
      go f r q ih e = by-choose (λ o. o ≡ Some vs → Stand vs) (good_head f r) _ _ taken (λ _ z. none-some z) e
        where
          taken : good_head f r ≡ true → map_o (λ us. volume_at at f r ∷ us) (volumes_from k (at + 12 + length_of f) (drop (length_of f) r)) ≡ Some vs → Stand vs
          taken g z =
              let n = length_of f in
              let (us, o, w) = map-some (λ us. volume_at at f r ∷ us) (volumes_from k (at + 12 + n) (drop n r)) vs z in
              let mark = eqb (length f) 12 && same (take 2 f) (86 ∷ 80 ∷ []) in
              let named = mark && good_name (take 8 (drop 2 f)) in
              let head = eqb-true (length f) 12 (and_left (eqb (length f) 12) _ (and_left mark _ (and_left named _ g))) in
              let size = length-take-le n r (leb-true n (length r) (and_right named _ g)) in
              let behind = at_same _ (at + 12) r (ap (λ (m : ℕ). at + m) head) (at-behind at f r (subst (At at) (sym q) h)) in
              let both = subst (At (at + 12)) (sym (take-append-drop n r)) behind in
              let rest = at_same _ (at + 12 + n) (drop n r) (ap (λ (m : ℕ). at + 12 + m) size) (at-behind (at + 12) (take n r) (drop n r) both) in
              subst Stand w (at_front (at + 12) (take n r) (drop n r) both, ih _ _ us o rest)

  pub volumes_stand : (vs : List Volume) → volumes_of spool ≡ Some vs → Stand vs
  unfolding volumes_of
  volumes_stand vs e =
      by-choose (λ o. o ≡ Some vs → Stand vs) (within 1 most_bytes (length spool)) _ _
      (λ _. sound (volumes_from most_volumes 0 spool) (λ us p. from_stand most_volumes 0 spool us p ([], [], sym (append-nil spool), refl))) (λ _ z. none-some z) e
    where
      sound : (o : Option (List Volume)) → ((us : List Volume) → o ≡ Some us → Stand us) → sound_volumes o ≡ Some vs → Stand vs
      sound None i e = none-some e
      sound (Some us) i e = let (p, q) = cond-some (not (is_nil us) && distinct (names_of us)) us vs e in i vs (ap Some q)
