-- The key of a row, by its number.
use Rattle.std.specs.Prelude.{ℕ, List, [], map, get_or}
use Rattle.std.specs.Borrow.{Bor}
use Rattle.rules.specs.Rows.{Rule}

abbrev pub key_at : List Rule → ℕ → List ℕ
key_at t j = get_or (map (λ r. r.key) t) j []

-- the keys of a table
abbrev pub keys : List Rule → List (List ℕ)
keys t = map (λ r. r.key) t

-- what borrowed texts say
abbrev pub texts : List (Bor (List ℕ)) → List (List ℕ)
texts s = map (λ b. b.now) s
