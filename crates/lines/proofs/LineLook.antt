-- Laws of one look at a line: the runs of its bytes, and what they make of its form.
use Rattle.std.specs.Prelude.{None}
use Rattle.std.specs.List.{starts_with}
use Rattle.std.proofs.Math.Bool.{and-true}
use Prim.Native.Nat.{ℕ, ◌+◌, ◌-◌, ◌<◌, ◌≤◌}
use mathlib.Core.Path.{◌≡◌, refl, ap, sym, ◌∙◌}
use mathlib.Core.Bool.{Bool, true, false, cond, ◌&&◌, ◌||◌, not}
use mathlib.Core.List.{List, [], ◌∷◌}
use native.Mathlib.Omega.{arith}
use lib.Dec.{eqb, leb}
use lib.ListN.{length, get_or, take, drop, drop_of_length-le, length-drop}
use lib.Seq.{drop-drop}
use borrow.Author.Tests.{eq-eqb, ne_eqb, eqb-true, le-leb, lt-leb, lt-ltb, le-ltb, leb-true, not-true}
use Rattle.rules.proofs.Chains.{and_left, and_right, and_false, or_true, clash, by_cond}
use Rattle.rules.specs.Base.{within}
use Rattle.rules.specs.Spool.{most_bytes}
use Rattle.rules.specs.declared.LineForm.{LineForm}
use Rattle.rules.specs.declared.LineForm.TheVariants as L
use Rattle.rules.specs.Lines.{unindent, scan, allowed, allowed_from, single_byte, lead_byte, trail_byte, form_of, line_form_of}
use Rattle.leaves.specs.Bytes.{up_to}
use Rattle.leaves.proofs.Cuts.{up_to-take}
use Rattle.lines.specs.LineForms.{blank_of, opens_here, char_of, key_char, KeyEnd, endless, equal_at, brace_at, key_end_of, later, key_from, key_byte, Blanks, Passed, KeyPassed, CleanRun, KeyRun, refused_as, rest_form}
use Rattle.lines.specs.LineLook.{seen_at, look_from, look_in}
use Rattle.lines.specs.LineFlaw.{told, bare_form, equal_form, brace_form}
use Rattle.leaves.proofs.Scan.{at as by_place}
use Rattle.lines.proofs.SoundEnds.{or-neither}
use Rattle.lines.proofs.LineForms as forms

-- ── bytes of a kind ──
not_byte : (p : ℕ → Bool) (k b : ℕ) → p k ≡ false → p b ≡ true → eqb b k ≡ false
not_byte p k b f e = go (eqb b k) refl
  where
    go : (t : Bool) → eqb b k ≡ t → t ≡ false
    go true q = clash e (ap p (eqb-true b k q) ∙ f)
    go false q = refl

either : {P : Type 0} (a b c d n : ℕ) → (within a b n || within c d n) ≡ true → (a ≤ n → n ≤ b → P) → (c ≤ n → n ≤ d → P) → P
either {P} a b c d n e f g = go (within a b n) refl e
  where
    low : (x y : ℕ) → within x y n ≡ true → x ≤ n
    low x y q = leb-true x n (and_left (leb x n) (leb n y) q)

    high : (x y : ℕ) → within x y n ≡ true → n ≤ y
    high x y q = leb-true n y (and_right (leb x n) (leb n y) q)

    go : (t : Bool) → within a b n ≡ t → (t || within c d n) ≡ true → P
    go true q e = f (low a b q) (high a b q)
    go false q e = g (low c d e) (high c d e)

single_no_lead : (b : ℕ) → single_byte b ≡ true → lead_byte b ≡ false
single_no_lead b e = go (lead_byte b) refl
  where
    go : (t : Bool) → lead_byte b ≡ t → t ≡ false
    go true q =
        absurd (either 32 126 161 223 b e
        (λ h k. either 129 159 224 252 b q (λ m n. omega arith) (λ m n. omega arith))
        (λ h k. either 129 159 224 252 b q (λ m n. omega arith) (λ m n. omega arith)))
    go false q = refl

single-plain : (b : ℕ) → within 32 126 b ≡ true → single_byte b ≡ true
single-plain b e = rw e

-- ── a character ──
record Step (v : List ℕ) (n : ℕ) : Type 0 where
  le : n ≤ length v
  clean : allowed v ≡ allowed (drop n v)

step-none : (v : List ℕ) → Step v 0
step-none v = record { le = omega arith; clean = refl }

step-one : (b : ℕ) (s : List ℕ) → single_byte b ≡ true → Step (b ∷ s) 1
step-one b s e = record { le = omega arith; clean = rw (e, single_no_lead b e) }

step-two : (b c : ℕ) (s : List ℕ) → lead_byte b ≡ true → trail_byte c ≡ true → Step (b ∷ c ∷ s) 2
step-two b c s e f = record { le = omega arith; clean = rw (e, or_true (single_byte b), f) }

char-step : (v : List ℕ) → Step v (char_of v)
unfolding char_of
char-step [] = step-none []
char-step (b ∷ []) = by_cond (Step (b ∷ [])) (single_byte b) (step-one b []) (λ q. step-none (b ∷ []))
char-step (b ∷ c ∷ s) =
    by_cond (Step (b ∷ c ∷ s)) (single_byte b) (step-one b (c ∷ s))
    (λ q. by_cond (Step (b ∷ c ∷ s)) (lead_byte b && trail_byte c) (λ p. step-two b c s (and_left (lead_byte b) (trail_byte c) p) (and_right (lead_byte b) (trail_byte c) p)) (λ p. step-none (b ∷ c ∷ s)))

key_char-step : (v : List ℕ) → Step v (key_char v)
unfolding key_char
key_char-step [] = step-none []
key_char-step (b ∷ s) = by_cond (Step (b ∷ s)) (eqb b 61 || opens_here (b ∷ s)) (λ q. step-none (b ∷ s)) (λ q. char-step (b ∷ s))

-- ── the key over a character ──
opens-other : (b : ℕ) (s : List ℕ) → eqb b 58 ≡ false → opens_here (b ∷ s) ≡ false
unfolding opens_here
opens-other b [] e = refl
opens-other b (c ∷ s) e = rw e

abbrev KeyStep : List ℕ → ℕ → Type 0
KeyStep v n = key_end_of (scan v) ≡ later n (key_end_of (scan (drop n v)))

key-none : (v : List ℕ) → KeyStep v 0
key-none v = sym (forms.later-zero (key_end_of (scan v)))

key_one : (b : ℕ) (s : List ℕ) → eqb b 61 ≡ false → opens_here (b ∷ s) ≡ false → KeyStep (b ∷ s) 1
key_one b s f g = forms.scan-later b s f g

key-two : (b c : ℕ) (s : List ℕ) → lead_byte b ≡ true → trail_byte c ≡ true → KeyStep (b ∷ c ∷ s) 2
key-two b c s e f =
    let x = forms.scan-later b (c ∷ s) (not_byte lead_byte 61 b refl e) (opens-other b (c ∷ s) (not_byte lead_byte 58 b refl e)) in
    let y = forms.scan-later c s (not_byte trail_byte 61 c refl f) (opens-other c s (not_byte trail_byte 58 c refl f)) in
    x ∙ ap (later 1) y ∙ forms.later-later 1 1 (key_end_of (scan s))

char-key : (b : ℕ) (s : List ℕ) → eqb b 61 ≡ false → opens_here (b ∷ s) ≡ false → KeyStep (b ∷ s) (char_of (b ∷ s))
unfolding char_of
char-key b [] f g = by_cond (KeyStep (b ∷ [])) (single_byte b) (λ e. key_one b [] f g) (λ e. key-none (b ∷ []))
char-key b (c ∷ s) f g =
    by_cond (KeyStep (b ∷ c ∷ s)) (single_byte b) (λ e. key_one b (c ∷ s) f g)
    (λ q. by_cond (KeyStep (b ∷ c ∷ s)) (lead_byte b && trail_byte c) (λ p. key-two b c s (and_left (lead_byte b) (trail_byte c) p) (and_right (lead_byte b) (trail_byte c) p)) (λ p. key-none (b ∷ c ∷ s)))

key_step : (v : List ℕ) → KeyStep v (key_char v)
unfolding key_char
key_step [] = key-none []
key_step (b ∷ s) =
    by_cond (KeyStep (b ∷ s)) (eqb b 61 || opens_here (b ∷ s)) (λ q. key-none (b ∷ s))
    (λ q. let z = or-neither (eqb b 61) (opens_here (b ∷ s)) q in char-key b s z.0 z.1)

-- ── where no character stands ──
wrong_start : (b : ℕ) (w : List ℕ) → single_byte b ≡ false → char_of (b ∷ w) ≡ 0 → allowed (b ∷ w) ≡ false
unfolding char_of
wrong_start b [] e h = rw e (go (lead_byte b))
  where
    go : (t : Bool) → (t && not t) ≡ false
    go true = refl
    go false = refl
wrong_start b (c ∷ w) e h = rw e (go (lead_byte b) (trail_byte c) refl (rw e at h))
  where
    go : (t u : Bool) → trail_byte c ≡ u → ◌≡◌ {A = ℕ} (cond (t && u) 2 0) 0 → (t && allowed_from t (c ∷ w)) ≡ false
    go true true q h = absurd (omega arith)
    go true false q h = rw q
    go false u q h = refl

char-single : (b : ℕ) (w : List ℕ) → char_of (b ∷ w) ≡ 0 → single_byte b ≡ false
unfolding char_of
char-single b [] h = go (single_byte b) h
  where
    go : (t : Bool) → ◌≡◌ {A = ℕ} (cond t 1 0) 0 → t ≡ false
    go true h = absurd (omega arith)
    go false h = refl
char-single b (c ∷ w) h = go (single_byte b) h
  where
    go : (t : Bool) → ◌≡◌ {A = ℕ} (cond t 1 (cond (lead_byte b && trail_byte c) 2 0)) 0 → t ≡ false
    go true h = absurd (omega arith)
    go false h = refl

stop-wrong : (v : List ℕ) → 0 < length v → char_of v ≡ 0 → allowed v ≡ false
stop-wrong [] k h = absurd (omega arith)
stop-wrong (b ∷ s) k h = wrong_start b s (char-single b s h) h

-- ── by place ──
module _ (t : List ℕ) (i : ℕ) where
  pub passed_none : i ≤ length t → Passed t i i
  passed_none h = record { low = omega arith; high = h; clean = refl }

  passed-step : (j n : ℕ) → Passed t i j → Step (drop j t) n → Passed t i (j + n)
  passed-step j n p w =
      let d = drop-drop n j t in
      let high = p.high in
      let low = p.low in
      let le = w.le in
      record {
        low = omega arith;
        high = omega (arith, length-drop j t);
        clean = p.clean ∙ w.clean ∙ ap allowed d;
      }

  pub passed_on : (j k : ℕ) → Passed t i j → Passed t j k → Passed t i k
  passed_on j k p q =
      let a = p.low in
      let b = q.low in
      record { low = omega arith; high = q.high; clean = p.clean ∙ q.clean }

  -- a byte of printing ASCII
  pub plain-passed : (j : ℕ) → j < length t → within 32 126 (get_or t j 0) ≡ true → Passed t i j → Passed t i (j + 1)
  plain-passed j h e p = passed-step j 1 p (rw (by_place t j h) (step-one (get_or t j 0) (drop (j + 1) t) (single-plain (get_or t j 0) e)))

  pub key-on : (j k : ℕ) → KeyPassed t i j → KeyPassed t j k → KeyPassed t i k
  key-on j k p q = record { passed = passed_on j k p.passed q.passed; key = p.key ∙ q.key }

  pub key-none_yet : i ≤ length t → KeyPassed t i i
  key-none_yet h = record { passed = passed_none h; key = refl }

  pub plain-key-passed : (j : ℕ) → j < length t → key_byte (get_or t j 0) ≡ true → KeyPassed t i j → KeyPassed t i (j + 1)
  plain-key-passed j h e p =
      let b = get_or t j 0 in
      let u = drop (j + 1) t in
      let f = not-true (eqb b 61) (and_left (not (eqb b 61)) (not (eqb b 58) && within 32 126 b) e) in
      let w = and_right (not (eqb b 61)) (not (eqb b 58) && within 32 126 b) e in
      let g = not-true (eqb b 58) (and_left (not (eqb b 58)) (within 32 126 b) w) in
      let x = and_right (not (eqb b 58)) (within 32 126 b) w in
      let step : KeyStep (drop j t) 1 = rw (by_place t j h) (key_one b u f (opens-other b u g)) in
      record {
        passed = plain-passed j h x p.passed;
        key = p.key ∙ ap (later j) step ∙ forms.later-later j 1 (key_end_of (scan (drop 1 (drop j t)))) ∙ ap (λ u. later (j + 1) (key_end_of (scan u))) (drop-drop 1 j t);
      }

  module _ (j : ℕ) where
    pub char-passed : Passed t i j → Passed t i (j + char_of (drop j t))
    char-passed p = passed-step j (char_of (drop j t)) p (char-step (drop j t))

    key_more : key_from t i ≡ key_from t j → key_from t i ≡ key_from t (j + key_char (drop j t))
    key_more e =
        let n = key_char (drop j t) in
        e ∙ ap (later j) (key_step (drop j t)) ∙ forms.later-later j n (key_end_of (scan (drop n (drop j t)))) ∙ ap (λ u. later (j + n) (key_end_of (scan u))) (drop-drop n j t)

    pub key-passed : KeyPassed t i j → KeyPassed t i (j + key_char (drop j t))
    key-passed p = record { passed = passed-step j (key_char (drop j t)) p.passed (key_char-step (drop j t)); key = key_more p.key }

pub char-le : (t : List ℕ) (i : ℕ) → i ≤ length t → i + char_of (drop i t) ≤ length t
char-le t i h = (char-passed t i i (passed_none t i h)).high

pub key-le : (t : List ℕ) (i : ℕ) → i ≤ length t → i + key_char (drop i t) ≤ length t
key-le t i h = (key-passed t i i (key-none_yet t i h)).passed.high

pub char-end : (t : List ℕ) (i : ℕ) → length t ≤ i → char_of (drop i t) ≡ 0
unfolding char_of
char-end t i h = rw (drop_of_length-le t h)

-- the character at a place, as the code tests it
module _ (t : List ℕ) (i : ℕ) (h : i < length t) where
  pub char-alone : single_byte (get_or t i 0) ≡ true → char_of (drop i t) ≡ 1
  unfolding char_of
  char-alone e = rw (by_place t i h) (go (drop (i + 1) t))
    where
      go : (s : List ℕ) → char_of (get_or t i 0 ∷ s) ≡ 1
      go [] = rw e
      go (c ∷ s) = rw e

  pub char-none : single_byte (get_or t i 0) ≡ false → lead_byte (get_or t i 0) ≡ false → char_of (drop i t) ≡ 0
  unfolding char_of
  char-none e f = rw (by_place t i h) (go (drop (i + 1) t))
    where
      go : (s : List ℕ) → char_of (get_or t i 0 ∷ s) ≡ 0
      go [] = rw e
      go (c ∷ s) = rw (e, f)

  pub char-last : single_byte (get_or t i 0) ≡ false → length t ≤ i + 1 → char_of (drop i t) ≡ 0
  unfolding char_of
  char-last e k = rw (by_place t i h, drop_of_length-le t k, e)

  pub char_pair : single_byte (get_or t i 0) ≡ false → lead_byte (get_or t i 0) ≡ true → i + 1 < length t → char_of (drop i t) ≡ cond (trail_byte (get_or t (i + 1) 0)) 2 0
  unfolding char_of
  char_pair e f k = rw (by_place t i h, by_place t (i + 1) k, e, f)

  pub key_char_lem : (get_or t i 0 ≡ 61 → ⊥) → opens_here (drop i t) ≡ false → key_char (drop i t) ≡ char_of (drop i t)
  unfolding key_char
  key_char_lem e f = rw (by_place t i h) (let g : opens_here (get_or t i 0 ∷ drop (i + 1) t) ≡ false = rw (by_place t i h) at f in rw (ne_eqb _ _ e, g))

-- a key's character, as the code tests it
pub key-stops : (s : List ℕ) → starts_with eqb s (61 ∷ []) ≡ true → key_char s ≡ 0
unfolding key_char
key-stops [] e = refl
key-stops (b ∷ s) e = let q = forms.eqb-flip b 61 ∙ sym (and-true (eqb 61 b)) ∙ e in rw q

pub key-opens : (s : List ℕ) → opens_here s ≡ true → key_char s ≡ 0
unfolding key_char
key-opens [] e = refl
key-opens (b ∷ s) e = rw (e, or_true (eqb b 61))

pub key-goes : (s : List ℕ) → starts_with eqb s (61 ∷ []) ≡ false → opens_here s ≡ false → key_char s ≡ char_of s
unfolding key_char char_of
key-goes [] e f = refl
key-goes (b ∷ s) e f = let q = forms.eqb-flip b 61 ∙ sym (and-true (eqb 61 b)) ∙ e in rw (q, f)

-- the same by places
pub key-end : (t : List ℕ) (i : ℕ) → length t ≤ i → key_char (drop i t) ≡ 0
unfolding key_char
key-end t i h = rw (drop_of_length-le t h)

module _ (t : List ℕ) (i : ℕ) (h : i < length t) where
  pub key_equal : get_or t i 0 ≡ 61 → key_char (drop i t) ≡ 0
  unfolding key_char
  key_equal e = rw (by_place t i h, eq-eqb _ _ e)

  pub key-other : (get_or t i 0 ≡ 61 → ⊥) → opens_here (drop i t) ≡ false → key_char (drop i t) ≡ char_of (drop i t)
  unfolding key_char
  key-other n f = rw (by_place t i h) (go (get_or t i 0) (drop (i + 1) t) n (rw (sym (by_place t i h)) f))
    where
      go : (b : ℕ) (s : List ℕ) → (b ≡ 61 → ⊥) → opens_here (b ∷ s) ≡ false → key_char (b ∷ s) ≡ char_of (b ∷ s)
      go b s n f = rw (ne_eqb b 61 n, f)

-- ── leading blanks ──
abbrev narrow : ℕ → Bool
narrow b = eqb b 32 || eqb b 9

record BlankStep (v : List ℕ) (n : ℕ) : Type 0 where
  le : n ≤ length v
  rest : unindent v ≡ unindent (drop n v)

unindent-one : (b : ℕ) (w : List ℕ) → narrow b ≡ true → unindent (b ∷ w) ≡ unindent w
unindent-one b [] e = rw e
unindent-one b (c ∷ w) e = rw e

blank_none : (v : List ℕ) → BlankStep v 0
blank_none v = record { le = omega arith; rest = refl }

blank-one : (b : ℕ) (s : List ℕ) → narrow b ≡ true → BlankStep (b ∷ s) 1
blank-one b s e = record { le = omega arith; rest = unindent-one b s e }

blank-two : (b c : ℕ) (s : List ℕ) → narrow b ≡ false → (eqb b 129 && eqb c 64) ≡ true → BlankStep (b ∷ c ∷ s) 2
blank-two b c s e f = record { le = omega arith; rest = rw (e, f) }

blank_step : (v : List ℕ) → BlankStep v (blank_of v)
unfolding blank_of
blank_step [] = blank_none []
blank_step (b ∷ []) = by_cond (BlankStep (b ∷ [])) (narrow b) (blank-one b []) (λ q. blank_none (b ∷ []))
blank_step (b ∷ c ∷ s) = by_cond (BlankStep (b ∷ c ∷ s)) (narrow b) (blank-one b (c ∷ s)) (λ q. by_cond (BlankStep (b ∷ c ∷ s)) (eqb b 129 && eqb c 64) (blank-two b c s q) (λ p. blank_none (b ∷ c ∷ s)))

-- only blanks before a place
pub record BlanksYet (t : List ℕ) (i : ℕ) : Type 0 where
  pub high : i ≤ length t
  pub rest : unindent t ≡ unindent (drop i t)

module _ (t : List ℕ) (i : ℕ) (g : BlanksYet t i) where
  pub blanks-more : BlanksYet t (i + blank_of (drop i t))
  blanks-more =
      let w = blank_step (drop i t) in
      let high = g.high in
      let le = w.le in
      record { high = omega (arith, length-drop i t); rest = g.rest ∙ w.rest ∙ ap unindent (drop-drop (blank_of (drop i t)) i t) }

  pub blanks-le : i + blank_of (drop i t) ≤ length t
  blanks-le = blanks-more.high

  pub blanks-stop : blank_of (drop i t) ≡ 0 → Blanks t i
  blanks-stop z = record { high = g.high; rest = g.rest ∙ forms.unindent-stop (drop i t) z }

-- ── the form of a line ──
opens-bytes : (v : List ℕ) → opens_here v ≡ true → v ≡ 58 ∷ 123 ∷ drop 2 v
unfolding opens_here
opens-bytes [] e = clash e refl
opens-bytes (b ∷ []) e = clash e refl
opens-bytes (b ∷ c ∷ s) e = rw (eqb-true b 58 (and_left (eqb b 58) (eqb c 123) e), eqb-true c 123 (and_right (eqb b 58) (eqb c 123) e))

pub opens-inside : (t : List ℕ) (i : ℕ) → opens_here (drop i t) ≡ true → i + 2 ≤ length t
opens-inside t i e = let l = ap length (opens-bytes (drop i t) e) in omega (arith, l, length-drop i t)

later_equal : (n k : ℕ) (e : KeyEnd) → later n e ≡ equal_at k → e ≡ equal_at (k - n)
later_equal n k endless e = absurd (let z : ◌≡◌ {A = ℕ} 0 1 = cc in omega arith)
later_equal n k (equal_at m) e = let q : n + m ≡ k = cc in let r : m ≡ k - n = omega arith in ap equal_at r
later_equal n k (brace_at m) e = absurd (let z : ◌≡◌ {A = ℕ} 0 1 = cc in omega arith)

later-brace : (n k : ℕ) (e : KeyEnd) → later n e ≡ brace_at k → e ≡ brace_at (k - n)
later-brace n k endless e = absurd (let z : ◌≡◌ {A = ℕ} 0 1 = cc in omega arith)
later-brace n k (equal_at m) e = absurd (let z : ◌≡◌ {A = ℕ} 0 1 = cc in omega arith)
later-brace n k (brace_at m) e = let q : n + m ≡ k = cc in let r : m ≡ k - n = omega arith in ap brace_at r

later-endless : (n : ℕ) (e : KeyEnd) → later n e ≡ endless → e ≡ endless
later-endless n endless e = refl
later-endless n (equal_at m) e = absurd (let z : ◌≡◌ {A = ℕ} 0 1 = cc in omega arith)
later-endless n (brace_at m) e = absurd (let z : ◌≡◌ {A = ℕ} 0 1 = cc in omega arith)

pub form-empty : (volume line at : ℕ) (l : List ℕ) → length l ≡ 0 → line_form_of volume line at l ≡ L.Ignored
unfolding line_form_of form_of
form-empty volume line at [] h = refl
form-empty volume line at (b ∷ l) h = absurd (omega (arith, h))

module _ (volume line at : ℕ) (l : List ℕ) (n k : ℕ) (b : Blanks l n) (r : KeyRun l n k) (c : get_or l 0 0 ≡ 35 → ⊥) where
  form-rest : line_form_of volume line at l ≡ rest_form volume line (at + n) (drop n l)
  form-rest = forms.line-rest volume line at n l c (omega (arith, ap length b.rest, b.high, length-drop n l)) ∙ ap (rest_form volume line (at + n)) b.rest

  pub form-bare : k ≡ length l → line_form_of volume line at l ≡ told volume line (bare_form (drop n l))
  form-bare h =
      let over : drop k l ≡ [] = drop_of_length-le l {i = k} (omega arith) in
      let key : key_end_of (scan (drop n l)) ≡ endless = later-endless n (key_end_of (scan (drop n l))) (r.key ∙ ap (λ u. later k (key_end_of (scan u))) over) in
      form-rest ∙ forms.rest-short volume line (at + n) (drop n l) (r.passed.clean ∙ ap allowed over) key

  pub form-wrong : k < length l → (get_or l k 0 ≡ 61 → ⊥) → opens_here (drop k l) ≡ false → line_form_of volume line at l ≡ refused_as 4 volume line
  form-wrong h e f =
      let z : char_of (drop k l) ≡ 0 = sym (key_char_lem l k h e f) ∙ r.stop in
      form-rest ∙ forms.rest-wrong volume line (at + n) (drop n l) (r.passed.clean ∙ stop-wrong (drop k l) (omega (arith, length-drop k l)) z)

  -- an `=` or a `:{`, d bytes wide, and allowed bytes behind it: to the line's end, or not
  module _ (d j : ℕ) (form : ℕ → LineForm) (f : rest_form volume line (at + n) (drop n l) ≡ cond (allowed (drop n l)) (form (at + n + length (drop n l))) (refused_as 4 volume line))
      (x : allowed (drop k l) ≡ allowed (drop (k + d) l)) (w : CleanRun l (k + d) j) where
    keyed-whole : j ≡ length l → line_form_of volume line at l ≡ form (at + length l)
    keyed-whole h =
        let clean : allowed (drop n l) ≡ true = r.passed.clean ∙ x ∙ w.passed.clean ∙ ap allowed (drop_of_length-le l {i = j} (omega arith)) in
        let e : at + n + length (drop n l) ≡ at + length l = omega (arith, length-drop n l, b.high) in
        form-rest ∙ f ∙ ap (λ q. cond q (form (at + n + length (drop n l))) (refused_as 4 volume line)) clean ∙ ap form e

    keyed-wrong : (j ≡ length l → ⊥) → line_form_of volume line at l ≡ refused_as 4 volume line
    keyed-wrong h =
        let inside : j < length l = omega (arith, h, w.passed.high) in
        let wrong : allowed (drop n l) ≡ false = r.passed.clean ∙ x ∙ w.passed.clean ∙ stop-wrong (drop j l) (omega (arith, length-drop j l)) w.stop in
        form-rest ∙ f ∙ ap (λ q. cond q (form (at + n + length (drop n l))) (refused_as 4 volume line)) wrong

  module _ (j : ℕ) where
    module _ (h : k < length l) (e : get_or l k 0 ≡ 61) (w : CleanRun l (k + 1) j) where
      equal-key : key_from l k ≡ equal_at k
      equal-key = let i : k + 0 ≡ k = omega arith in ap (λ u. later k (key_end_of (scan u))) (by_place l k h) ∙ rw (eq-eqb _ _ e) (ap equal_at i)

      abbrev equal-at : ℕ → LineForm
      equal-at end = told volume line (equal_form (at + n) (k - n) end)

      equal_rest : rest_form volume line (at + n) (drop n l) ≡ cond (allowed (drop n l)) (equal-at (at + n + length (drop n l))) (refused_as 4 volume line)
      equal_rest = forms.rest_equal volume line (at + n) (drop n l) (k - n) (later_equal n k (key_end_of (scan (drop n l))) (r.key ∙ equal-key))

      equal-clean : allowed (drop k l) ≡ allowed (drop (k + 1) l)
      equal-clean = ap allowed (by_place l k h) ∙ rw e

      pub form_equal : j ≡ length l → line_form_of volume line at l ≡ told volume line (equal_form (at + n) (k - n) (at + length l))
      form_equal = keyed-whole 1 j equal-at equal_rest equal-clean w

      pub form_equal-wrong : (j ≡ length l → ⊥) → line_form_of volume line at l ≡ refused_as 4 volume line
      form_equal-wrong = keyed-wrong 1 j equal-at equal_rest equal-clean w

    module _ (o : opens_here (drop k l) ≡ true) (w : CleanRun l (k + 2) j) where
      brace-bytes : drop k l ≡ 58 ∷ 123 ∷ drop (k + 2) l
      brace-bytes = opens-bytes (drop k l) o ∙ ap (λ u. 58 ∷ 123 ∷ u) (drop-drop 2 k l)

      brace-key : key_from l k ≡ brace_at k
      brace-key = let i : k + 0 ≡ k = omega arith in ap (λ u. later k (key_end_of (scan u))) brace-bytes ∙ ap brace_at i

      abbrev brace-at : ℕ → LineForm
      brace-at end = told volume line (brace_form (at + n) (k - n) end)

      brace-rest : rest_form volume line (at + n) (drop n l) ≡ cond (allowed (drop n l)) (brace-at (at + n + length (drop n l))) (refused_as 4 volume line)
      brace-rest = forms.rest-brace volume line (at + n) (drop n l) (k - n) (later-brace n k (key_end_of (scan (drop n l))) (r.key ∙ brace-key))

      brace-clean : allowed (drop k l) ≡ allowed (drop (k + 2) l)
      brace-clean = ap allowed brace-bytes

      pub form-brace : j ≡ length l → line_form_of volume line at l ≡ told volume line (brace_form (at + n) (k - n) (at + length l))
      form-brace = keyed-whole 2 j brace-at brace-rest brace-clean w

      pub form-brace-wrong : (j ≡ length l → ⊥) → line_form_of volume line at l ≡ refused_as 4 volume line
      form-brace-wrong = keyed-wrong 2 j brace-at brace-rest brace-clean w

-- ── a look at a volume ──
module _ (volume line base at : ℕ) (body : List ℕ) where
  -- the volume's end
  abbrev end : ℕ
  end = base + length body

  pub look-long : most_bytes < base + length body → look_in volume line base at body ≡ None
  unfolding look_in
  look-long h = rw (lt-leb end most_bytes h)

  pub look-early : at < base → look_in volume line base at body ≡ None
  unfolding look_in
  look-early h = rw (lt-leb base at h, and_false (leb end most_bytes))

  pub look-behind : base + length body < at → look_in volume line base at body ≡ None
  unfolding look_in
  look-behind h = rw (lt-leb at end h, and_false (leb base at), and_false (leb end most_bytes))

  module _ (m : base + length body ≤ most_bytes) (i : base ≤ at) (j : at ≤ base + length body) where
    look-there : look_in volume line base at body ≡ look_from volume line at (base + length body) (drop (at - base) body)
    unfolding look_in
    look-there = rw (le-leb end most_bytes m, le-leb base at i, le-leb at end j)

    pub look_none : length (drop (at - base) body) ≤ length (up_to 13 (drop (at - base) body)) → look_in volume line base at body ≡ None
    unfolding look_from
    look_none h = look-there ∙ rw (le-ltb _ _ h)

    pub look-some : length (up_to 13 (drop (at - base) body)) < length (drop (at - base) body)
        → look_in volume line base at body ≡ seen_at (line_form_of volume line at (up_to 13 (drop (at - base) body))) (at + length (up_to 13 (drop (at - base) body))) (base + length body)
    unfolding look_from
    look-some h = look-there ∙ rw (lt-ltb _ _ h)

    -- the line's place in the volume, and the CR that was searched from there on
    module _ (from : ℕ) (f : from ≡ at - base) where
      left_is : drop (at - base) body ≡ drop from body
      left_is = ap (λ k. drop k body) (sym f)

      pub look-ends : length body ≤ from + length (up_to 13 (drop from body)) → look_in volume line base at body ≡ None
      look-ends h = look_none (rw left_is (omega (arith, f, h, length-drop from body)))

      pub look-found : (to : ℕ) → to ≡ from + length (up_to 13 (drop from body)) → to < length body
          → seen_at (line_form_of volume line at (take (to - from) (drop from body))) (base + to) (base + length body) ≡ look_in volume line base at body
      look-found to t h =
          let l = up_to 13 (drop (at - base) body) in
          let n : to - from ≡ length (up_to 13 (drop from body)) = omega (arith, t) in
          let bytes : take (to - from) (drop from body) ≡ l = ap (λ k. take k (drop from body)) n ∙ up_to-take 13 (drop from body) ∙ ap (up_to 13) (sym left_is) in
          let cr : base + to ≡ at + length l = rw left_is (omega (arith, t, f)) in
          ap (λ u. seen_at (line_form_of volume line at u) (base + to) (base + length body)) bytes ∙ ap (λ k. seen_at (line_form_of volume line at l) k (base + length body)) cr
          ∙ sym (look-some (rw left_is (omega (arith, t, f, h, length-drop from body))))
