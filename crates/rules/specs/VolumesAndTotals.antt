-- Document 01, "Volumes and totals": the chain of volumes, date and time, the counts of elements, the layers in use.
use Rattle.std.specs.Prelude.{ℕ, suc, Bool, true, false, ◌&&◌, List, [], ◌∷◌, map, eqb}
use Rattle.rules.specs.Base.{all, same, total, flat, has_number}
use Rattle.rules.specs.Values.{chars_of}
use Rattle.rules.specs.Rows.{Held, part_of, slot_value, held, number_of}
use Rattle.rules.specs.Blocks.{file_table, later_table}
use Rattle.rules.specs.Sets.{Set, is_first, first_contents, elements_of, used_in, serials_of_volume, partners_of_volume}

-- FILE_FORMAT's own table: of the first volume, and of later ones
abbrev pub own_table : Bool → List Rattle.rules.specs.Rows.Rule
own_table true = file_table
own_table false = later_table

-- "next_file names the next volume (a-z read as A-Z) and is empty in the last": `next` is the next volume's name, nothing in the last
abbrev pub chained : Bool → List ℕ → Held → Bool
chained first next h = same (chars_of (slot_value (held "next_file" (own_table first) (part_of h 0)))) next

-- "date and time agree over the set"
abbrev pub dated : Set → Bool → Held → Bool
dated s true h = true
dated s false h =
    eqb (number_of "date" later_table (part_of h 0)) (number_of "date" file_table (part_of (first_contents s).file 0))
    && eqb (number_of "time" later_table (part_of h 0)) (number_of "time" file_table (part_of (first_contents s).file 0))

-- "this_ele is the volume's number of keys directly in layers"
abbrev pub counted_here : Set → Bool
counted_here s = eqb (number_of "this_ele" (own_table (is_first s)) (part_of s.now.file 0)) (elements_of s.now)

-- "all_ele is the set's"
abbrev pub counted_all : Set → Bool
counted_all s = eqb (number_of "all_ele" file_table (part_of (first_contents s).file 0)) (total elements_of s.volumes)

-- "partners must exist by the end of the set": every partner is an own number of the set
abbrev pub partners_exist : Set → Bool
partners_exist s = all (λ n. has_number n (flat (map serials_of_volume s.volumes))) (flat (map partners_of_volume s.volumes))

-- "each declared layer present somewhere in the set": the layers from number n on
abbrev pub all_used : ℕ → List (List ℕ) → List ℕ → Bool
all_used n [] used = true
all_used n (l ∷ ls) used = has_number n used && all_used (suc n) ls used

abbrev pub layers_used : Set → Bool
layers_used s = all_used 0 (map (λ l. l.id) s.drawing.layers) (flat (map used_in s.volumes))
