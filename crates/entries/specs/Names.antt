-- Names by their places in the spool.
use Rattle.std.specs.Prelude.{ℕ, suc, ◌/◌, ◌%◌, cond, List, [], ◌∷◌, map, Option, Some, None}
use Rattle.rules.specs.Base.{same}
use Rattle.rules.specs.Lines.{span, bytes_at}
use Rattle.rules.specs.Values.{Known}
use Rattle.entries.specs.declared.Known.{Known as Lent}

-- a place and, 65,536 times, a length
abbrev pub name_in : List ℕ → ℕ → List ℕ
name_in s n = bytes_at s (span (n % 65536) (n / 65536))

abbrev pub names_in : List ℕ → List ℕ → List (List ℕ)
names_in s ns = map (name_in s) ns

-- the place of a byte string among others, the first of them with number i
unfoldable pub index_from : ℕ → List ℕ → List (List ℕ) → Option ℕ
index_from i k [] = None
index_from i k (u ∷ us) = cond (same k u) (Some i) (index_from (suc i) k us)

-- what a value may name
abbrev pub known_in : List ℕ → List ℕ → List ℕ → Known
known_in s symbols layers = record { symbols = names_in s symbols; layers = names_in s layers }

abbrev pub known_of : Lent → Known
known_of n = known_in n.spool.now n.symbols.now n.layers.now
