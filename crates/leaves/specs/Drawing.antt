-- The drawing's sheet and scale as the leaves answer them.
use Rattle.std.specs.Prelude.{ℕ, ◌-◌, Bool, cond, ◌&&◌, List, ltb, pos, get_or, Option, Some, None, Result, Ok, Err}
use Rattle.std.specs.List.{find}
use Rattle.rules.specs.Base.{same, within}
use Rattle.rules.specs.RefusalNumbers.{Got, got, bad}
use Rattle.rules.specs.Numbers.{show_count}
use Rattle.rules.specs.Values.{Num, num, amount}
use Rattle.leaves.specs.declared.Scale.{Scale}
use Rattle.leaves.specs.declared.SheetSize.{SheetSize}

-- the number at a place of a reading
abbrev pub number_at : List Num → ℕ → ℕ
number_at v i = amount (get_or v i (num (pos 0)))

abbrev pub sheet_of : Option (List Num) → Option SheetSize
sheet_of None = None
sheet_of (Some v) = Some (record { multiplier = number_at v 0; number = number_at v 1 })

abbrev pub ratio_of : Got (List Num) → Result Scale ℕ
ratio_of (got v) = Ok (record { p = number_at v 0; q = number_at v 1 })
ratio_of (bad n) = Err n

-- ── what they are made of ──
-- the first of the numbers that a text writes
abbrev pub multiplier_in : List ℕ → List ℕ → Option ℕ
multiplier_in s ns = find (λ n. same s (show_count 2 n)) ns

-- by n and the last byte, `0` to the greatest
abbrev pub numbered_sheet : ℕ → ℕ → ℕ → Option SheetSize
numbered_sheet n most d = cond (within 48 most d) (Some (record { multiplier = n; number = d - 48 })) None

-- by the last byte: A0 to A4
unfoldable pub plain_sheet : ℕ → Option SheetSize
plain_sheet d = numbered_sheet 1 52 d

-- by n, where there is one, and the last byte: A0, A1
unfoldable pub large_sheet : Option ℕ → ℕ → Option SheetSize
large_sheet None d = None
large_sheet (Some n) d = numbered_sheet n 49 d

-- "counts 1 to 99,999"
abbrev pub in_scale : ℕ → Bool
in_scale n = within 1 99999 n

unfoldable pub one_count : Option ℕ → Result Scale ℕ
one_count (Some p) = cond (in_scale p) (Ok (record { p = p; q = 1 })) (Err 11)
one_count None = Err 10

unfoldable pub two_counts : Option ℕ → Option ℕ → Result Scale ℕ
two_counts (Some p) (Some q) = cond (in_scale p && (in_scale q && ltb p q)) (Ok (record { p = p; q = q })) (Err 11)
two_counts (Some p) None = Err 10
two_counts None b = Err 10
