-- The names of volumes, by their places in the spool.
use Rattle.std.specs.Prelude.{ℕ, suc, ◌-◌, ◌≤◌, ◌<◌, Bool, cond, ◌&&◌, List, [], ◌∷◌, eqb, leb, length, get_or, take, drop}
use Rattle.rules.specs.Base.{all}
use Rattle.rules.specs.Spool.{name_byte, name_of}

-- how many bytes of a name stand in front
unfoldable pub letters : List ℕ → ℕ
letters [] = 0
letters (b ∷ s) = cond (name_byte b) (suc (letters s)) 0

unfoldable pub all_spaces : List ℕ → Bool
all_spaces s = all (λ b. eqb b 32) s

-- the eight name bytes of the volume whose first byte stands at p
unfoldable pub raw_name : List ℕ → ℕ → List ℕ
raw_name s p = take 8 (drop (p - 10) s)

-- each place is that of a volume's first byte: a head stands before it
abbrev pub Ranged : List ℕ → List ℕ → Type 0
Ranged s ps = (i : ℕ) → i < length ps → (12 ≤ get_or ps i 0) × (get_or ps i 0 ≤ length s)

-- the name of the volume whose first byte stands at p, without its spaces; nothing where no head can stand before p
unfoldable pub name_at : List ℕ → ℕ → List ℕ
unfolding raw_name
name_at s p = cond (leb 12 p && leb p (length s)) (name_of (raw_name s p)) []
