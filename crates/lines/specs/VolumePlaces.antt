-- What the code holds of a spool's volumes: their places and lengths. Names and bytes are read from the spool by these.
use Rattle.std.specs.Prelude.{ℕ, ◌+◌, cond, List, map, length, take, drop, replicate, Option, Some, None}
use Rattle.std.proofs.lemmas.List.Edits.{sets}
use Rattle.rules.specs.Spool.{most_volumes, Volume, length_of, good_head, volumes_from}
use Rattle.lines.specs.declared.Layout.{Layout}

-- what stands before a volume, in the bytes from there on
unfoldable pub head_in : List ℕ → Option ℕ
head_in s = cond (good_head (take 12 s) (drop 12 s)) (Some (length_of (take 12 s))) None

-- the volumes, whatever their names
unfoldable pub walked : List ℕ → Option (List Volume)
walked s = volumes_from most_volumes 0 s

unfoldable pub zeros : List ℕ
zeros = replicate most_volumes 0

abbrev pub layout : ℕ → List ℕ → List ℕ → Layout
layout n ps ls = record { count = n; places = ps; lengths = ls }

unfoldable pub no_layout : Layout
unfolding zeros
no_layout = layout 0 zeros zeros

-- n volumes with these places and lengths, and then the others
abbrev pub layout_with : ℕ → List ℕ → List ℕ → Option (List Volume) → Layout
layout_with n ps ls None = no_layout
layout_with n ps ls (Some vs) = layout (n + length vs) (sets ps n (map (λ v. v.place) vs)) (sets ls n (map (λ v. length v.body) vs))

-- the places in order, zeros behind them, and so the lengths
unfoldable pub layout_of : Option (List Volume) → Layout
unfolding zeros no_layout
layout_of o = layout_with 0 zeros zeros o
