-- By which forms the values of a content are read.
use Rattle.std.specs.Prelude.{ℕ, true, false, cond, eqb}
use Rattle.tables.specs.declared.Row.{Row}
use Rattle.tables.specs.Numbering.{holds_circle, across_arc, arc_forms, whole_forms}
use Rattle.entries.specs.declared.Forms.{Forms}

-- those of the row
abbrev pub own_forms : Row → Forms
own_forms row = record { parts = row.parts; more = row.count; across = row.across; turnless = false }

-- a circle's: seven values, or six, behind which a turn that was not written is recorded
abbrev pub of_arc : Forms
of_arc = record { parts = arc_forms; more = 6; across = across_arc; turnless = false }

abbrev pub of_whole : Forms
of_whole = record { parts = whole_forms; more = 5; across = 0; turnless = true }

-- by how many values there are
abbrev pub forms_for : Row → ℕ → Forms
forms_for row n = cond (eqb row.kind holds_circle) (cond (eqb n 6) of_whole of_arc) (own_forms row)
