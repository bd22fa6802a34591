-- Laws of a line's form by place: leading blanks, and the end of the key.
use Rattle.std.specs.List.{starts_with}
use Rattle.std.proofs.Math.Bool.{and-true}
use Rattle.std.specs.Prelude.{Ok, Err}
use Prim.Native.Nat.{ℕ, suc, ◌+◌, ◌-◌, ◌<◌, ◌≤◌, zero-le, suc-le-suc}
use mathlib.Core.Path.{◌≡◌, refl, ap, ◌∙◌}
use mathlib.Core.Bool.{Bool, true, false, cond, ◌&&◌, ◌||◌}
use mathlib.Core.List.{List, [], ◌∷◌}
use native.Mathlib.Omega.{arith}
use lib.Dec.{eqb}
use lib.ListN.{length, get_or, take, drop, drop_of_length-le, length-drop}
use borrow.Author.Tests.{eq-eqb, ne_eqb, eqb-true, eqb-false}
use Rattle.rules.proofs.Chains.{clash, and_false, ap-cond}
use Rattle.rules.specs.Base.{choose, bytes, is_nil, same}
use Rattle.rules.specs.declared.LineForm.{LineForm}
use Rattle.rules.specs.declared.LineForm.TheVariants as L
use Rattle.rules.specs.Lines.{unindent, Scan, neither, at_equal, at_brace, key_onto, after_colon, scan, brace, equals, wrong, close, eof, with_key, form_from, form_of_rest, form_of, allowed, with_places, line_form_of}
use Rattle.lines.specs.LineForms.{blank_of, opens_here, KeyEnd, endless, equal_at, brace_at, later, key_end_of, refused_as, equals_at, opens_at, rest_form}
use Rattle.lines.specs.LineFlaw.{told, word_form, bare_form, equal_form, brace_form}
use Rattle.lines.specs.declared.forms.Flaw.TheVariants.{NoForm}
use Rattle.leaves.proofs.Scan.{at as by_place}

-- ── leading blanks ──
pub unindent-stop : (s : List ℕ) → blank_of s ≡ 0 → unindent s ≡ s
unfolding blank_of
unindent-stop [] h = refl
unindent-stop (b ∷ []) h = go (eqb b 32 || eqb b 9) h
  where
    go : (t : Bool) → ◌≡◌ {A = ℕ} (cond t 1 0) 0 → cond t [] (b ∷ []) ≡ b ∷ []
    go true h = absurd (omega arith)
    go false h = refl
unindent-stop (b ∷ c ∷ s) h = go (eqb b 32 || eqb b 9) (eqb b 129 && eqb c 64) h
  where
    go : (t u : Bool) → ◌≡◌ {A = ℕ} (cond t 1 (cond u 2 0)) 0 → choose t (λ _. unindent (c ∷ s)) (λ _. choose u (λ _. unindent s) (λ _. b ∷ c ∷ s)) ≡ b ∷ c ∷ s
    go true u h = absurd (omega arith)
    go false true h = absurd (omega arith)
    go false false h = refl

pub blank-le : (s : List ℕ) → blank_of s ≤ length s
unfolding blank_of
blank-le [] = omega arith
blank-le (b ∷ []) = elim (eqb b 32 || eqb b 9) as (λ t. cond t 1 0 ≤ 1) [ true ↦ omega arith | false ↦ omega arith ]
blank-le (b ∷ c ∷ s) = go (eqb b 32 || eqb b 9) (eqb b 129 && eqb c 64)
  where
    go : (t u : Bool) → cond t 1 (cond u 2 0) ≤ suc (suc (length s))
    go true u = omega arith
    go false true = omega arith
    go false false = omega arith

blank-one : (b : ℕ) (s : List ℕ) → (eqb b 32 || eqb b 9) ≡ true → blank_of (b ∷ s) ≡ 1
unfolding blank_of
blank-one b [] e = rw e
blank-one b (c ∷ s) e = rw e

blank_none : (b : ℕ) (s : List ℕ) → (eqb b 32 || eqb b 9) ≡ false → eqb b 129 ≡ false → blank_of (b ∷ s) ≡ 0
unfolding blank_of
blank_none b [] e f = rw e
blank_none b (c ∷ s) e f = rw (e, f)

or-second : (a b : Bool) → b ≡ true → (a || b) ≡ true
or-second true b e = refl
or-second false b e = e

-- the byte at a place, and what it makes of the blank there
module _ (s : List ℕ) (i : ℕ) (h : i < length s) where
  pub blank_space : get_or s i 0 ≡ 32 → blank_of (drop i s) ≡ 1
  blank_space e = rw (by_place s i h) (blank-one (get_or s i 0) (drop (i + 1) s) (rw (eq-eqb _ _ e)))

  pub blank_tab : get_or s i 0 ≡ 9 → blank_of (drop i s) ≡ 1
  blank_tab e = rw (by_place s i h) (blank-one (get_or s i 0) (drop (i + 1) s) (or-second (eqb (get_or s i 0) 32) (eqb (get_or s i 0) 9) (eq-eqb _ _ e)))

  pub blank-other : (get_or s i 0 ≡ 32 → ⊥) → (get_or s i 0 ≡ 9 → ⊥) → (get_or s i 0 ≡ 129 → ⊥) → blank_of (drop i s) ≡ 0
  blank-other a b e = rw (by_place s i h) (blank_none (get_or s i 0) (drop (i + 1) s) (rw (ne_eqb _ _ a, ne_eqb _ _ b)) (ne_eqb _ _ e))

  pub blank-last : (get_or s i 0 ≡ 32 → ⊥) → (get_or s i 0 ≡ 9 → ⊥) → length s ≤ i + 1 → blank_of (drop i s) ≡ 0
  unfolding blank_of
  blank-last a b k = rw (by_place s i h, drop_of_length-le s k, ne_eqb _ _ a, ne_eqb _ _ b)

  pub blank-half : (get_or s i 0 ≡ 32 → ⊥) → (get_or s i 0 ≡ 9 → ⊥) → get_or s i 0 ≡ 129 → i + 1 < length s → (get_or s (i + 1) 0 ≡ 64 → ⊥) → blank_of (drop i s) ≡ 0
  unfolding blank_of
  blank-half a b e k f = rw (by_place s i h, by_place s (i + 1) k, ne_eqb _ _ a, ne_eqb _ _ b, eq-eqb _ _ e, ne_eqb _ _ f)

  pub blank-wide : (get_or s i 0 ≡ 32 → ⊥) → (get_or s i 0 ≡ 9 → ⊥) → get_or s i 0 ≡ 129 → i + 1 < length s → get_or s (i + 1) 0 ≡ 64 → blank_of (drop i s) ≡ 2
  unfolding blank_of
  blank-wide a b e k f = rw (by_place s i h, by_place s (i + 1) k, ne_eqb _ _ a, ne_eqb _ _ b, eq-eqb _ _ e, eq-eqb _ _ f)

pub blank_end : (s : List ℕ) (i : ℕ) → length s ≤ i → blank_of (drop i s) ≡ 0
unfolding blank_of
blank_end s i h = rw (drop_of_length-le s h)

-- ── the end of the key ──
pub later-zero : (e : KeyEnd) → later 0 e ≡ e
later-zero endless = refl
later-zero (equal_at n) = let q : 0 + n ≡ n = omega arith in rw q
later-zero (brace_at n) = let q : 0 + n ≡ n = omega arith in rw q

pub later-later : (i j : ℕ) (e : KeyEnd) → later i (later j e) ≡ later (i + j) e
later-later i j endless = refl
later-later i j (equal_at n) = let q : i + (j + n) ≡ i + j + n = omega arith in ap equal_at q
later-later i j (brace_at n) = let q : i + (j + n) ≡ i + j + n = omega arith in ap brace_at q

onto-later : (b : ℕ) (r : Scan) → key_end_of (key_onto b r) ≡ later 1 (key_end_of r)
onto-later b neither = refl
onto-later b (at_equal k c) = let q : suc (length k) ≡ 1 + length k = omega arith in ap equal_at q
onto-later b (at_brace k c) = let q : suc (length k) ≡ 1 + length k = omega arith in ap brace_at q

-- no end in front
pub scan-later : (b : ℕ) (s : List ℕ) → eqb b 61 ≡ false → opens_here (b ∷ s) ≡ false → key_end_of (scan (b ∷ s)) ≡ later 1 (key_end_of (scan s))
unfolding opens_here
scan-later b [] e f = rw e (elim (eqb b 58) as (λ t. key_end_of (cond t (key_onto 58 neither) (key_onto b neither)) ≡ endless) [ true ↦ refl | false ↦ refl ])
scan-later b (c ∷ s) e f = rw e (go (eqb b 58) (eqb c 123) f (scan (c ∷ s)))
  where
    go : (t u : Bool) → (t && u) ≡ false → (r : Scan) → key_end_of (cond t (cond u (at_brace [] s) (key_onto 58 r)) (key_onto b r)) ≡ later 1 (key_end_of r)
    go true true h r = absurd (let z : ◌≡◌ {A = ℕ} 0 1 = cc in omega arith)
    go true false h r = onto-later 58 r
    go false u h r = onto-later b r

pub scan-brace : (b : ℕ) (s : List ℕ) → eqb b 61 ≡ false → opens_here (b ∷ s) ≡ true → key_end_of (scan (b ∷ s)) ≡ brace_at 0
unfolding opens_here
scan-brace b [] e f = absurd (let z : ◌≡◌ {A = ℕ} 0 1 = cc in omega arith)
scan-brace b (c ∷ s) e f = rw e (go (eqb b 58) (eqb c 123) f (scan (c ∷ s)))
  where
    go : (t u : Bool) → (t && u) ≡ true → (r : Scan) → key_end_of (cond t (cond u (at_brace [] s) (key_onto 58 r)) (key_onto b r)) ≡ brace_at 0
    go true true h r = refl
    go true false h r = absurd (let z : ◌≡◌ {A = ℕ} 0 1 = cc in omega arith)
    go false u h r = absurd (let z : ◌≡◌ {A = ℕ} 0 1 = cc in omega arith)

pub eqb-flip : (a b : ℕ) → eqb a b ≡ eqb b a
eqb-flip a b = go (eqb b a) refl
  where
    go : (t : Bool) → eqb b a ≡ t → eqb a b ≡ t
    go true q = eq-eqb a b (let e = eqb-true b a q in omega (arith, e))
    go false q = ne_eqb a b (λ e. eqb-false b a q (omega (arith, e)))

-- by places
opens-few : (t : List ℕ) → length t ≤ 1 → opens_here t ≡ false
unfolding opens_here
opens-few [] h = refl
opens-few (b ∷ []) h = refl
opens-few (b ∷ c ∷ t) h = absurd (omega (arith, h))

pub opens-last : (s : List ℕ) (i : ℕ) → length s ≤ i + 1 → opens_here (drop i s) ≡ false
opens-last s i h = opens-few (drop i s) (omega (arith, length-drop i s, h))

pub opens_by : (s : List ℕ) (i : ℕ) → i + 1 < length s → opens_here (drop i s) ≡ (eqb (get_or s i 0) 58 && eqb (get_or s (i + 1) 0) 123)
unfolding opens_here
opens_by s i h = rw (by_place s i (omega (arith, h)), by_place s (i + 1) h) refl

-- as the code tests it
pub opens-starts : (s : List ℕ) → starts_with eqb s (58 ∷ 123 ∷ []) ≡ opens_here s
unfolding opens_here
opens-starts [] = refl
opens-starts (b ∷ []) = and_false (eqb 58 b)
opens-starts (b ∷ c ∷ s) = rw (eqb-flip 58 b, eqb-flip 123 c, and-true (eqb c 123))

-- ── the key and what follows it ──
-- the parts of a line at the end of its key, w bytes wide
abbrev pub Around : List ℕ → ℕ → List ℕ → List ℕ → Type 0
Around s w k c = (k ≡ take (length k) s) × (c ≡ drop (length k + w) s) × (length k + w + length c ≡ length s)

abbrev pub Apart : List ℕ → Scan → Type 0
Apart s neither = Unit {0}
Apart s (at_equal k c) = Around s 1 k c
Apart s (at_brace k c) = Around s 2 k c

around-onto : (b : ℕ) (s : List ℕ) (w : ℕ) (k c : List ℕ) → Around s w k c → Around (b ∷ s) w (b ∷ k) c
around-onto b s w k c (p, q, r) =
    let n : suc (length k) + w ≡ suc (length k + w) = omega arith in
    (ap (λ t. b ∷ t) p, rw n q, omega (arith, r))

apart-onto : (b : ℕ) (s : List ℕ) (r : Scan) → Apart s r → Apart (b ∷ s) (key_onto b r)
apart-onto b s neither h = tt
apart-onto b s (at_equal k c) h = around-onto b s 1 k c h
apart-onto b s (at_brace k c) h = around-onto b s 2 k c h

pub scan-apart : (s : List ℕ) → Apart s (scan s)
scan-apart [] = tt
scan-apart (b ∷ s) = go (eqb b 61) (eqb b 58) refl (scan-apart s)
  where
    colon : (t : List ℕ) (r : Scan) → b ≡ 58 → Apart t r → Apart (b ∷ t) (after_colon t r)
    colon [] r e h = rw e (apart-onto 58 [] r h)
    colon (c ∷ t) r e h = elim (eqb c 123) as (λ u. Apart (b ∷ c ∷ t) (cond u (at_brace [] t) (key_onto 58 r))) [ true ↦ (refl, refl, omega arith) | false ↦ rw e (apart-onto 58 (c ∷ t) r h) ]

    go : (t u : Bool) → eqb b 58 ≡ u → Apart s (scan s) → Apart (b ∷ s) (cond t (at_equal [] s) (cond u (after_colon s (scan s)) (key_onto b (scan s))))
    go true u f h = (refl, refl, omega arith)
    go false true f h = colon s (scan s) (eqb-true b 58 f) h
    go false false f h = apart-onto b s (scan s) h

-- ── the line behind its leading blanks ──
-- what stands behind some bytes is as many bytes shorter
pub record Behind (u s : List ℕ) : Type 0 where
  pub bytes : ℕ
  pub most : bytes ≤ length s
  pub rest : u ≡ drop bytes s

behind-one : (b : ℕ) (u s : List ℕ) → Behind u s → Behind u (b ∷ s)
behind-one b u s h = record { bytes = suc h.bytes; most = suc-le-suc h.most; rest = h.rest }

behind-all : (s : List ℕ) → Behind s s
behind-all s = record { bytes = 0; most = zero-le; rest = refl }

pub unindent-behind : (s : List ℕ) → Behind (unindent s) s
unindent-behind [] = behind-all []
unindent-behind (b ∷ []) = elim (eqb b 32 || eqb b 9) as (λ t. Behind (cond t [] (b ∷ [])) (b ∷ [])) [ true ↦ behind-one b [] [] (behind-all []) | false ↦ behind-all (b ∷ []) ]
unindent-behind (b ∷ c ∷ s) = go (eqb b 32 || eqb b 9) (eqb b 129 && eqb c 64) (unindent-behind (c ∷ s)) (unindent-behind s)
  where
    go : (t u : Bool) → Behind (unindent (c ∷ s)) (c ∷ s) → Behind (unindent s) s → Behind (choose t (λ _. unindent (c ∷ s)) (λ _. choose u (λ _. unindent s) (λ _. b ∷ c ∷ s))) (b ∷ c ∷ s)
    go true u h k = behind-one b _ (c ∷ s) h
    go false true h k = behind-one b _ (c ∷ s) (behind-one c _ s k)
    go false false h k = behind-all (b ∷ c ∷ s)

-- ── the form by the end of the key ──
-- the third argument: the place of the line's first byte
abbrev pub form_by_end : ℕ → ℕ → ℕ → List ℕ → KeyEnd → LineForm
form_by_end volume line at s endless = told volume line (word_form s)
form_by_end volume line at s (equal_at n) = told volume line (equal_form at n (at + length s))
form_by_end volume line at s (brace_at n) = told volume line (brace_form at n (at + length s))

equals-same : (a b n p q x y : ℕ) → a ≡ b → p ≡ q → x ≡ y → equals_at a n p x ≡ equals_at b n q y
equals-same a b n p q x y e f g = rw (e, f, g)

opens-same : (a b n : ℕ) → a ≡ b → opens_at a n ≡ opens_at b n
opens-same a b n e = rw e

module _ (volume line at : ℕ) (s : List ℕ) where
  by-neither : with_places volume line (at + length s) (form_from s (at + length s) neither) ≡ told volume line (word_form s)
  unfolding word_form
  by-neither = go (same s (bytes "}")) (same s (bytes "EOF"))
    where
      go : (t u : Bool) → with_places volume line (at + length s) (cond t close (cond u eof (wrong 5))) ≡ told volume line (cond t (Ok L.Close) (cond u (Ok L.Eof) (Err NoForm)))
      go true u = refl
      go false true = refl
      go false false = refl

  by_equal : (k c : List ℕ) → Around s 1 k c → with_places volume line (at + length s) (with_key k (equals (at + length s - length c) c)) ≡ told volume line (equal_form at (length k) (at + length s))
  unfolding equal_form
  by_equal [] c h = refl
  by_equal (b ∷ k) c (p, q, r) =
      let z : ◌≡◌ {A = ℕ} (suc (length k)) 0 → ⊥ = λ e. omega (arith, e) in
      rw (ne_eqb (suc (length k)) 0 z) (equals-same _ _ (suc (length k)) _ _ _ _ (omega (arith, r)) (omega (arith, r)) (omega (arith, r)))

  by-brace : (k c : List ℕ) → Around s 2 k c → with_places volume line (at + length s) (cond (is_nil c) (with_key k brace) (wrong 5)) ≡ told volume line (brace_form at (length k) (at + length s))
  unfolding brace_form
  by-brace [] [] h = refl
  by-brace [] (x ∷ c) h = refl
  by-brace (b ∷ k) (x ∷ c) (p, q, r) =
      let y : (at + suc (length k) + 2 ≡ at + length s) → ⊥ = λ e. omega (arith, e, r) in
      let z : ◌≡◌ {A = ℕ} (suc (length k)) 0 → ⊥ = λ e. omega (arith, e) in
      rw (ne_eqb (suc (length k)) 0 z, ne_eqb _ _ y)
  by-brace (b ∷ k) [] (p, q, r) =
      let y : at + suc (length k) + 2 ≡ at + length s = omega (arith, r) in
      let z : ◌≡◌ {A = ℕ} (suc (length k)) 0 → ⊥ = λ e. omega (arith, e) in
      rw (ne_eqb (suc (length k)) 0 z, eq-eqb _ _ y) (opens-same _ _ (suc (length k)) (omega (arith, r)))

  by-scan : (r : Scan) → Apart s r → with_places volume line (at + length s) (form_from s (at + length s) r) ≡ form_by_end volume line at s (key_end_of r)
  by-scan neither h = by-neither
  by-scan (at_equal k c) h = by_equal k c h
  by-scan (at_brace k c) h = by-brace k c h

rest-cons : (volume line at b : ℕ) (s : List ℕ) → rest_form volume line at (b ∷ s) ≡ with_places volume line (at + length (b ∷ s)) (cond (allowed (b ∷ s)) (form_from (b ∷ s) (at + length (b ∷ s)) (scan (b ∷ s))) (wrong 4))
unfolding rest_form
rest-cons volume line at b s = refl

rest-by : (volume line at b : ℕ) (s : List ℕ) → rest_form volume line at (b ∷ s) ≡ cond (allowed (b ∷ s)) (form_by_end volume line at (b ∷ s) (key_end_of (scan (b ∷ s)))) (refused_as 4 volume line)
rest-by volume line at b s =
    rest-cons volume line at b s
    ∙ ap-cond (with_places volume line (at + length (b ∷ s))) (allowed (b ∷ s)) (form_from (b ∷ s) (at + length (b ∷ s)) (scan (b ∷ s))) (wrong 4)
    ∙ ap (λ f. cond (allowed (b ∷ s)) f (refused_as 4 volume line)) (by-scan volume line at (b ∷ s) (scan (b ∷ s)) (scan-apart (b ∷ s)))

module _ (volume line at : ℕ) where
  pub rest-wrong : (s : List ℕ) → allowed s ≡ false → rest_form volume line at s ≡ refused_as 4 volume line
  rest-wrong [] e = clash refl e
  rest-wrong (b ∷ s) e = rest-by volume line at b s ∙ rw e

  pub rest-short : (s : List ℕ) → allowed s ≡ true → key_end_of (scan s) ≡ endless → rest_form volume line at s ≡ told volume line (bare_form s)
  unfolding rest_form bare_form
  rest-short [] e f = refl
  rest-short (b ∷ s) e f = rest-by volume line at b s ∙ rw (e, f)

  pub rest_equal : (s : List ℕ) (n : ℕ) → key_end_of (scan s) ≡ equal_at n → rest_form volume line at s ≡ cond (allowed s) (told volume line (equal_form at n (at + length s))) (refused_as 4 volume line)
  rest_equal [] n f = absurd (let z : ◌≡◌ {A = ℕ} 0 1 = cc in omega arith)
  rest_equal (b ∷ s) n f = rest-by volume line at b s ∙ rw f

  pub rest-brace : (s : List ℕ) (n : ℕ) → key_end_of (scan s) ≡ brace_at n → rest_form volume line at s ≡ cond (allowed s) (told volume line (brace_form at n (at + length s))) (refused_as 4 volume line)
  rest-brace [] n f = absurd (let z : ◌≡◌ {A = ℕ} 0 1 = cc in omega arith)
  rest-brace (b ∷ s) n f = rest-by volume line at b s ∙ rw f

-- ── the whole line ──
pub line_comment : (volume line at : ℕ) (l : List ℕ) → (length l ≡ 0 → ⊥) → get_or l 0 0 ≡ 35 → line_form_of volume line at l ≡ L.Ignored
unfolding line_form_of form_of
line_comment volume line at [] h e = absurd (h refl)
line_comment volume line at (b ∷ l) h e = let f : eqb b 35 ≡ true = eq-eqb b 35 e in rw f

line_unindented : (volume line at : ℕ) (l : List ℕ) → (get_or l 0 0 ≡ 35 → ⊥) → line_form_of volume line at l ≡ with_places volume line (at + length l) (form_of_rest (unindent l) (at + length l))
unfolding line_form_of form_of
line_unindented volume line at [] e = refl
line_unindented volume line at (b ∷ l) e = let f : eqb b 35 ≡ false = ne_eqb b 35 e in rw f

rest_from : (volume line at end : ℕ) (s : List ℕ) → at + length s ≡ end → with_places volume line end (form_of_rest s end) ≡ rest_form volume line at s
unfolding rest_form
rest_from volume line at end s e = rw e

pub line-rest : (volume line at n : ℕ) (l : List ℕ) → (get_or l 0 0 ≡ 35 → ⊥) → n + length (unindent l) ≡ length l → line_form_of volume line at l ≡ rest_form volume line (at + n) (unindent l)
line-rest volume line at n l e i = line_unindented volume line at l e ∙ rest_from volume line (at + n) (at + length l) (unindent l) (omega (arith, i))
