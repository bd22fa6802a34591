-- One look at a line, of any bytes; that it finds the lines of Spool.linesOf is proved in proofs/LinesSeen.
use Rattle.std.specs.Prelude.{ℕ, ◌+◌, ◌-◌, ◌≤◌, ◌≡◌, false, cond, ◌&&◌, List, eqb, leb, ltb, length, take, drop, Option, Some, None}
use Rattle.rules.specs.Spool.{most_bytes, lines_from}
use Rattle.rules.specs.Lines.{line_form_of}
use Rattle.rules.specs.declared.LineForm.{LineForm}
use Rattle.leaves.specs.Bytes.{up_to}
use Rattle.lines.specs.declared.Seen.{Seen}

-- a line with this form, its CR at a place: behind CR and LF the next line starts, and the last one has only the final 1A behind it
abbrev pub seen_at : LineForm → ℕ → ℕ → Option Seen
seen_at form cr end = Some (record { form = form; next = cr + 2; last = eqb (cr + 2 + 1) end })

-- the line that starts a volume's last bytes: all before the first CR, if one stands in them
unfoldable pub look_from : ℕ → ℕ → ℕ → ℕ → List ℕ → Option Seen
look_from volume line at end t = cond (ltb (length (up_to 13 t)) (length t)) (seen_at (line_form_of volume line at (up_to 13 t)) (at + length (up_to 13 t)) end) None

-- the line that starts at a place of the spool, in a volume whose bytes stand there from base on; other places are those of no line
unfoldable pub look_in : ℕ → ℕ → ℕ → ℕ → List ℕ → Option Seen
look_in volume line base at body =
    cond (leb (base + length body) most_bytes && (leb base at && leb at (base + length body)))
    (look_from volume line at (base + length body) (drop (at - base) body)) None

-- the lines of such a volume from a place on, whatever their length
abbrev pub lines_in : ℕ → ℕ → List ℕ → Option (List (List ℕ))
lines_in base at body = lines_from false (drop (at - base) body)

-- these bytes are the part of the spool from a place on
pub record PartOf (s : List ℕ) (base : ℕ) (body : List ℕ) : Type 0 where
  pub bytes : body ≡ take (length body) (drop base s)
  pub inside : base + length body ≤ length s
