-- Byte strings: the part before and behind a byte, the sets of bytes by number.
use Rattle.std.specs.Prelude.{ℕ, ◌+◌, ◌*◌, Bool, cond, ◌&&◌, ◌||◌, not, List, [], ◌∷◌, eqb, get_or}
use Rattle.rules.specs.Base.{bytes, has_number}
use Rattle.rules.specs.Lines.{single_byte, lead_byte, trail_byte}
use Rattle.rules.specs.Values.{Bytes, any_bytes, ascii, letters_and_digits, telephone, circuit_bytes}

-- four bytes and eight, from place i on, as one number, the first byte the lowest
abbrev pub half : List ℕ → ℕ → ℕ
half s i = get_or s i 0 + 256 * (get_or s (i + 1) 0 + 256 * (get_or s (i + 2) 0 + 256 * get_or s (i + 3) 0))

abbrev pub word : List ℕ → ℕ → ℕ
word s i = half s i + 4294967296 * half s (i + 4)

-- what stands before the first c, all of it where there is none
unfoldable pub up_to : ℕ → List ℕ → List ℕ
up_to c [] = []
up_to c (b ∷ s) = cond (eqb b c) [] (b ∷ up_to c s)

-- what stands behind the first c, nothing where there is none
unfoldable pub past : ℕ → List ℕ → List ℕ
past c [] = []
past c (b ∷ s) = cond (eqb b c) s (past c s)

-- one byte of `allowed_from`; the first argument: a lead was just read
abbrev pub may_stand : Bool → ℕ → Bool
may_stand lead b = cond lead (trail_byte b) (single_byte b || lead_byte b)

abbrev pub starts_pair : Bool → ℕ → Bool
starts_pair lead b = not lead && lead_byte b

-- the first byte of a layer's id
abbrev pub is_layer_letter : ℕ → Bool
is_layer_letter b = has_number b (bytes "BAEPM")

-- a set of bytes by its number; any other number is that of all bytes
abbrev pub bytes_of : ℕ → Bytes
bytes_of n = cond (eqb n 1) ascii (cond (eqb n 2) letters_and_digits (cond (eqb n 3) telephone (cond (eqb n 4) circuit_bytes any_bytes)))
