-- Rule 3 by place; that it says what Spool.lines_of says is proved in proofs/SoundEnds.
use Rattle.std.specs.Prelude.{ℕ, zero, suc, ◌+◌, ◌≤◌, ◌≡◌, Bool, false, cond, ◌&&◌, ◌||◌, List, [], ◌∷◌, eqb, ltb, length, get_or, take, drop, Option, ◌<◌, MatchOption}
use Rattle.rules.specs.Base.{is_nil, is_some}
use Rattle.rules.specs.Spool.{most_volumes, lines_of}
use Rattle.lines.specs.declared.Layout.{Layout}

-- CR, 1A or LF
abbrev pub end_byte : ℕ → Bool
end_byte b = eqb b 13 || (eqb b 26 || eqb b 10)

-- how many bytes stand before the first of these
unfoldable pub plain_run : List ℕ → ℕ
plain_run [] = 0
plain_run (b ∷ s) = cond (end_byte b) 0 (suc (plain_run s))

-- greater than each of these
abbrev pub high_byte : ℕ → Bool
high_byte b = ltb 26 b

-- between two places stands none of these
pub record NoEnd (s : List ℕ) (i j : ℕ) : Type 0 where
  pub low : i ≤ j
  pub high : j ≤ length s
  pub run : i + plain_run (drop i s) ≡ j + plain_run (drop j s)

-- where the first of some bytes stands, if not behind all
abbrev pub Stands : Option ℕ → ℕ → ℕ → Type 0
Stands o i n = MatchOption o (n ≤ i) (λ e. (e ≡ i) × (e < n))

-- an LF stands at a place
abbrev pub lf_at : ℕ → List ℕ → Bool
lf_at i s = ltb i (length s) && eqb (get_or s i 0) 10

-- one byte 1A and no more, at a place where a line starts
unfoldable pub last_byte : ℕ → ℕ → List ℕ → Bool
last_byte from at [] = false
last_byte from at (b ∷ s) = eqb b 26 && (eqb at from && is_nil s)

-- ── rule 3 over all volumes ──
-- from the volume i on, k at most: its number, counted from 1
unfoldable pub unsound_from : List ℕ → Layout → ℕ → ℕ → ℕ
unsound_from s l zero i = 0
unsound_from s l (suc k) i =
    cond (ltb i l.count) (cond (is_some (lines_of (take (get_or l.lengths i 0) (drop (get_or l.places i 0) s)))) (unsound_from s l k (i + 1)) (i + 1)) 0

unfoldable pub first_unsound : List ℕ → Layout → ℕ
first_unsound s l = unsound_from s l most_volumes 0
