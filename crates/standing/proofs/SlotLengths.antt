-- A record keeps its length when a line of a row is entered into it.
use Prim.Native.Nat.{ℕ}
use mathlib.Core.List.{List}
use mathlib.Core.Path.{◌≡◌, ◌∙◌}
use lib.IntN.{ℤ}
use lib.ListN.{length}
use lib.Seq.{sets, length-sets}
use Rattle.rules.specs.Values.{Value}
use Rattle.rules.specs.Rows.{Rule}
use Rattle.rules.specs.RecordTable.{numbers, given}
use Rattle.rules.proofs.RecordLengths.{length-state}
use Rattle.entries.specs.Acts.{place_of, put_line}

pub length-line : (r : Rule) (dump : ℕ) (v : Value) (t : List ℤ) → length (put_line r dump v t) ≡ length t
length-line r dump v t = length-state r.state (given v) (sets t (place_of r.place dump) (numbers v)) ∙ length-sets t (place_of r.place dump) (numbers v)
