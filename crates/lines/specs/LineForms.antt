-- The parts of a line's form that the code finds by place; that they are those of Lines is proved in proofs/LineForms.
use Rattle.std.specs.Prelude.{Option, MatchOption, ◌<◌, ℕ, ◌+◌, ◌≤◌, ◌≡◌, Bool, false, cond, ◌&&◌, ◌||◌, not, List, [], ◌∷◌, eqb, length, drop}
use Rattle.rules.specs.Base.{within}
use Rattle.rules.specs.Lines.{Scan, neither, at_equal, at_brace, unindent, scan, allowed, single_byte, lead_byte, trail_byte, span, form_of_rest, with_places}
use Rattle.rules.specs.declared.LineForm.{LineForm}
use Rattle.rules.specs.declared.LineForm.TheVariants as L

-- how many bytes the blank in front has: 20 or 09, or the pair 81 40 hex
unfoldable pub blank_of : List ℕ → ℕ
blank_of [] = 0
blank_of (b ∷ []) = cond (eqb b 32 || eqb b 9) 1 0
blank_of (b ∷ c ∷ s) = cond (eqb b 32 || eqb b 9) 1 (cond (eqb b 129 && eqb c 64) 2 0)

-- `:{` stands in front
unfoldable pub opens_here : List ℕ → Bool
opens_here [] = false
opens_here (b ∷ []) = false
opens_here (b ∷ c ∷ s) = eqb b 58 && eqb c 123

-- how many bytes the character in front has: one that stands alone, or a pair; 0 where none that is allowed stands there
unfoldable pub char_of : List ℕ → ℕ
char_of [] = 0
char_of (b ∷ []) = cond (single_byte b) 1 0
char_of (b ∷ c ∷ s) = cond (single_byte b) 1 (cond (lead_byte b && trail_byte c) 2 0)

-- the same of a key: 0 also where it ends
unfoldable pub key_char : List ℕ → ℕ
key_char [] = 0
key_char (b ∷ s) = cond (eqb b 61 || opens_here (b ∷ s)) 0 (char_of (b ∷ s))

-- so many bytes, if any
abbrev pub IfAny : Option ℕ → ℕ → Type 0
IfAny o n = MatchOption o (n ≡ 0) (λ k. (0 < k) × (k ≡ n))

-- printing ASCII that cannot end a key
abbrev pub key_byte : ℕ → Bool
key_byte b = not (eqb b 61) && (not (eqb b 58) && within 32 126 b)

-- where a line's key ends: at an `=` or a `:{`, behind so many bytes
pub data KeyEnd : Type 0 where
  endless : KeyEnd
  equal_at : ℕ → KeyEnd
  brace_at : ℕ → KeyEnd

abbrev pub key_end_of : Scan → KeyEnd
key_end_of neither = endless
key_end_of (at_equal k c) = equal_at (length k)
key_end_of (at_brace k c) = brace_at (length k)

-- behind so many bytes more
abbrev pub later : ℕ → KeyEnd → KeyEnd
later i endless = endless
later i (equal_at n) = equal_at (i + n)
later i (brace_at n) = brace_at (i + n)

-- the key of a line's bytes from a place on, by places
abbrev pub key_from : List ℕ → ℕ → KeyEnd
key_from l i = later i (key_end_of (scan (drop i l)))

-- before a place of a line stand its leading blanks
pub record Blanks (l : List ℕ) (n : ℕ) : Type 0 where
  pub high : n ≤ length l
  pub rest : unindent l ≡ drop n l

-- between two places of a line stand only allowed characters
pub record Passed (l : List ℕ) (i j : ℕ) : Type 0 where
  pub low : i ≤ j
  pub high : j ≤ length l
  pub clean : allowed (drop i l) ≡ allowed (drop j l)

-- the same in a key, which does not end between them
pub record KeyPassed (t : List ℕ) (i j : ℕ) : Type 0 where
  pub passed : Passed t i j
  pub key : key_from t i ≡ key_from t j

-- all that there are
pub record CleanRun (t : List ℕ) (i j : ℕ) : Type 0 where
  pub passed : Passed t i j
  pub stop : char_of (drop j t) ≡ 0

-- all that there are of the key
pub record KeyRun (t : List ℕ) (i j : ℕ) : Type 0 where
  pub passed : Passed t i j
  pub key : key_from t i ≡ key_from t j
  pub stop : key_char (drop j t) ≡ 0

-- ── forms by places ──
abbrev pub refused_as : ℕ → ℕ → ℕ → LineForm
refused_as number volume line = L.Refused (record { number = number; volume = volume; line = line })

abbrev pub equals_at : ℕ → ℕ → ℕ → ℕ → LineForm
equals_at at n rest len = L.Equals (record { key = span at n; rest = span rest len })

abbrev pub opens_at : ℕ → ℕ → LineForm
opens_at at n = L.Opens (record { key = span at n })

-- a line without its leading blanks, from the place of its first byte
unfoldable pub rest_form : ℕ → ℕ → ℕ → List ℕ → LineForm
rest_form volume line at s = with_places volume line (at + length s) (form_of_rest s (at + length s))
