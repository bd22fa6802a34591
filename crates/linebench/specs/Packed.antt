-- A look in one number.
use Rattle.std.specs.Prelude.{ℕ, ◌+◌, ◌*◌, Option, Some, None}
use Rattle.rules.specs.declared.LineForm.{LineForm}
use Rattle.rules.specs.declared.LineForm.TheVariants as L
use Rattle.lines.specs.declared.Seen.{Seen}

abbrev pub kind_of : LineForm → ℕ
kind_of L.Ignored = 0
kind_of L.Close = 1
kind_of L.Eof = 2
kind_of (L.Opens o) = o.key.at
kind_of (L.Equals q) = q.rest.at
kind_of (L.Refused r) = r.number

abbrev pub packed : Option Seen → ℕ
packed None = 0
packed (Some f) = f.next * 4294967296 + kind_of f.form
