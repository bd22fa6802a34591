-- A record among other numbers: `width` of them, on the scratch or in the table.
use Rattle.std.specs.Prelude.{ℕ, ◌+◌, List, ◌++◌, ℤ, length, take, drop}
use Rattle.rules.specs.RecordTable.{width}

-- the record at n, and the same numbers with another one there
abbrev pub part_at : ℕ → List ℤ → List ℤ
part_at n t = take width (drop n t)

abbrev pub with_part : ℕ → List ℤ → List ℤ → List ℤ
with_part n u t = take n t ++ (u ++ drop (n + width) t)

-- numbers put over others, from place n on
abbrev pub with_numbers : ℕ → List ℤ → List ℤ → List ℤ
with_numbers n us t = take n t ++ (us ++ drop (n + length us) t)
