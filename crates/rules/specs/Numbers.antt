-- Document 01, "Lines": decimals, counts, fixed digits, dates, times; how they are read and how they are written.
use Rattle.std.specs.Prelude.{ℕ, zero, suc, ◌+◌, ◌*◌, ◌-◌, ◌/◌, ◌%◌, Bool, cond, ◌&&◌, List, [], ◌∷◌, ◌++◌, eqb, leb, ℤ, pos, negsuc, length, Option, Some, None}
use Rattle.rules.specs.Base.{all, map_o, within, Cut, whole, parts, cut}

abbrev pub is_digit : ℕ → Bool
is_digit b = within 48 57 b

-- lo to hi digits
abbrev pub digit_run : ℕ → ℕ → List ℕ → Bool
digit_run lo hi s = all is_digit s && within lo hi (length s)

abbrev pub value_from : ℕ → List ℕ → ℕ
value_from a [] = a
value_from a (b ∷ bs) = value_from (a * 10 + (b - 48)) bs

abbrev pub value : List ℕ → ℕ
value s = value_from 0 s

-- "Counts: 1 to 9 digits"; serial numbers have 1 to 10
abbrev pub read_count : ℕ → List ℕ → Option ℕ
read_count w s = cond (digit_run 1 w s) (Some (value s)) None

-- exactly w digits
abbrev pub read_fixed : ℕ → List ℕ → Option ℕ
read_fixed w s = cond (digit_run w w s) (Some (value s)) None

-- "date is eight digits, month 01-12, day 01-31; time six digits, at most 23, 59, 59."
abbrev pub is_day : ℕ → Bool
is_day n = within 1 12 (n / 100 % 100) && within 1 31 (n % 100)

abbrev pub is_clock : ℕ → Bool
is_clock n = leb (n / 10000) 23 && (leb (n / 100 % 100) 59 && leb (n % 100) 59)

-- ── decimals: "optional `-`, 1 to 7 digits, optionally `.` and 1 to 4 digits. Kept in ten-thousandths." ──
-- zeros at the end, up to w digits
abbrev pub pad_end : ℕ → List ℕ → List ℕ
pad_end zero s = s
pad_end (suc w) [] = 48 ∷ pad_end w []
pad_end (suc w) (b ∷ s) = b ∷ pad_end w s

abbrev pub read_parts : List ℕ → Cut → Option ℕ
read_parts s whole = cond (digit_run 1 7 s) (Some (value s * 10000)) None
read_parts s (parts a b) = cond (digit_run 1 7 a && digit_run 1 4 b) (Some (value a * 10000 + value (pad_end 4 b))) None

abbrev pub read_size : List ℕ → Option ℕ
read_size s = read_parts s (cut 46 s)

abbrev pub minus : ℕ → ℤ
minus zero = pos 0
minus (suc n) = negsuc n

-- (wish 5 adds the number of fraction digits)
abbrev pub read_decimal : List ℕ → Option ℤ
read_decimal [] = None
read_decimal (b ∷ s) = cond (eqb b 45) (map_o minus (read_size s)) (map_o pos (read_size (b ∷ s)))

-- ── written: "no needless zeros in decimals, counts and serials, `-0` as `0`" ──
-- the last w digits of n, before s
unfoldable pub fixed_onto : ℕ → ℕ → List ℕ → List ℕ
fixed_onto zero n s = s
fixed_onto (suc w) n s = fixed_onto w (n / 10) ((48 + n % 10) ∷ s)

abbrev pub fixed : ℕ → ℕ → List ℕ
fixed w n = fixed_onto w n []

-- without needless zeros in front; one digit stays
abbrev pub trim : List ℕ → List ℕ
trim [] = []
trim (b ∷ []) = b ∷ []
trim (b ∷ c ∷ s) = cond (eqb b 48) (trim (c ∷ s)) (b ∷ c ∷ s)

-- without zeros at the end
abbrev pub end_onto : ℕ → List ℕ → List ℕ
end_onto b [] = cond (eqb b 48) [] (b ∷ [])
end_onto b (c ∷ s) = b ∷ c ∷ s

abbrev pub trim_end : List ℕ → List ℕ
trim_end [] = []
trim_end (b ∷ s) = end_onto b (trim_end s)

abbrev pub show_count : ℕ → ℕ → List ℕ
show_count w n = trim (fixed w n)

abbrev pub show_fraction : ℕ → List ℕ
show_fraction r = cond (eqb r 0) [] (46 ∷ trim_end (fixed 4 r))

abbrev pub show_size : ℕ → List ℕ
show_size m = trim (fixed 7 (m / 10000)) ++ show_fraction (m % 10000)

abbrev pub show_decimal : ℤ → List ℕ
show_decimal (pos n) = show_size n
show_decimal (negsuc n) = 45 ∷ show_size (suc n)
