-- Where a name stands among others.
use Rattle.std.specs.Prelude.{Some, None}
use Prim.Native.Nat.{ℕ, ◌+◌, ◌<◌, ◌≤◌}
use mathlib.Core.Path.{◌≡◌}
use mathlib.Core.Bool.{true, false}
use mathlib.Core.List.{List}
use native.Mathlib.Numerals.{add-one}
use lib.ListN.{length, get_or, drop, drop_of_length-le}
use Rattle.rules.specs.Base.{same}
use Rattle.leaves.proofs.Scan.{at}
use Rattle.entries.specs.Names.{name_in, names_in, index_from}

-- ── where a name stands ──
module _ (s k : List ℕ) (ns : List ℕ) (i : ℕ) where
  pub name_hit : i < length ns → same k (name_in s (get_or ns i 0)) ≡ true → index_from i k (names_in s (drop i ns)) ≡ Some i
  unfolding index_from
  name_hit h e = rw (at ns i h, e)

  pub name_miss : i < length ns → same k (name_in s (get_or ns i 0)) ≡ false → index_from i k (names_in s (drop i ns)) ≡ index_from (i + 1) k (names_in s (drop (i + 1) ns))
  unfolding index_from
  name_miss h e = rw (at ns i h, e, add-one)

  pub name-end : length ns ≤ i → index_from i k (names_in s (drop i ns)) ≡ None
  unfolding index_from
  name-end h = rw (drop_of_length-le ns h)
