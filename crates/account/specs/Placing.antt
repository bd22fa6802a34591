-- What a line's value puts into its block's record, and which rows keep out of each other's places.
use Rattle.std.specs.Prelude.{ℕ, suc, ◌+◌, ◌<◌, ◌≡◌, Bool, true, ◌&&◌, ◌||◌, List, [], ◌∷◌, eqb, leb, ℤ, length}
use Rattle.rules.specs.Base.{all, is_nil}
use Rattle.rules.specs.Values.{Value, Kind}
use Rattle.rules.specs.Rows.{Rule, Held, part_of}
use Rattle.rules.specs.RecordTable.{numbers, given, columns, put_numbers, put_state}

-- the numbers of a line and its state, at its row's places
abbrev pub put_value : Rule → Value → List ℤ → List ℤ
put_value r v t = put_state r.state (given v) (put_numbers r.place (numbers v) t)

-- a value has as many numbers as its row has places, or none
abbrev pub fills : Kind → List ℤ → Bool
fills d zs = is_nil zs || eqb (length zs) (columns d)

-- m places from p on and n from q on have none in common; place 0 is nowhere
abbrev pub clear : ℕ → ℕ → ℕ → ℕ → Bool
clear p m q n = eqb p 0 || (eqb q 0 || (leb (p + m) q || leb (q + n) p))

abbrev pub clear_rows : Rule → Rule → Bool
clear_rows r q =
    clear r.place (columns r.holds) q.place (columns q.holds) && (clear r.place (columns r.holds) q.state 1
    && (clear r.state 1 q.place (columns q.holds) && clear r.state 1 q.state 1))

abbrev pub clear_row : Rule → Bool
clear_row r = clear r.place (columns r.holds) r.state 1

-- the rows of a table have places of their own
abbrev pub clear_table : List Rule → Bool
clear_table [] = true
clear_table (r ∷ rs) = clear_row r && (all (clear_rows r) rs && clear_table rs)

-- the rows of a block and of its inner parts
abbrev pub clear_parts : List (List Rule) → Bool
clear_parts [] = true
clear_parts (t ∷ ts) = clear_table t && (all (λ u. all (λ q. all (λ r. clear_rows r q) t) u) ts && clear_parts ts)

-- each part has a slot for each of its rows, from part p on
abbrev pub Shaped : ℕ → List (List Rule) → Held → Type 0
Shaped p [] h = Unit {0}
Shaped p (t ∷ ts) h = (p < length h) × (length (part_of h p) ≡ length t) × Shaped (suc p) ts h
