-- Where the reading stands, and the lines that are left.
use Rattle.std.specs.Prelude.{ℕ, suc, ◌+◌, ◌≤◌, true, ◌≡◌, List, ◌∷◌, ◌++◌, length, Option, Some, None}
use Rattle.rules.specs.Base.{is_nil}
use Rattle.rules.specs.Spool.{most_bytes}
use Rattle.rules.specs.Lines.{form_of, form_in}
use Rattle.rules.specs.Machine.{Line}
use Rattle.rules.specs.Answers.{numbered}
use Rattle.rules.specs.declared.Refusal.{Refusal}
use Rattle.rules.specs.declared.LineForm.TheVariants as L
use Rattle.lines.specs.LineLook.{look_in, lines_in, PartOf}
use Rattle.lines.specs.declared.Seen.{Seen}
use Rattle.account.specs.declared.Volume.{Volume}
use Rattle.account.specs.declared.Pos.{Pos}

abbrev pub seen_or : ℕ → Option Seen → Seen
seen_or at None = record { form = L.Ignored; next = at; last = true }
seen_or at (Some f) = f

-- the next line of a volume with these bytes, where there is one
abbrev pub seen_from : List ℕ → Volume → Pos → Seen
seen_from body v p = seen_or p.at (look_in v.number (p.line + 1) v.at p.at body)

-- the place just behind such a volume
abbrev pub end_of : List ℕ → Volume → ℕ
end_of body v = v.at + length body

-- in the volume v, which is the part body of the spool s, the reading stands at p, and these are the lines left
pub record At (s body : List ℕ) (v : Volume) (p : Pos) (ls : List (List ℕ)) : Type 0 where
  pub short : length s ≤ most_bytes
  pub part : PartOf s v.at body
  pub begun : v.at ≤ p.at
  pub here : p.at ≤ end_of body v
  pub lines : lines_in v.at p.at body ≡ Some ls
  pub low : p.line ≤ p.at

-- behind the line l
abbrev pub behind : Pos → List ℕ → Pos
behind p l = record { at = p.at + length l + 2; line = p.line + 1 }

-- the lines of the reading from p on: of this volume, whose next one has this name, and of the volumes behind it
abbrev pub todo : Volume → List ℕ → Pos → List (List ℕ) → List Line → List Line
todo v next p ls more = numbered v.number next (suc p.line) p.at ls ++ more

abbrev pub line_at : Volume → List ℕ → Pos → List ℕ → List (List ℕ) → Line
line_at v next p l ls = record { volume = v.number; line = suc p.line; last = is_nil ls; next = next; form = form_of p.at l }

-- what the next line is, where there is one
pub record Next (s body : List ℕ) (v : Volume) (p : Pos) (ls : List (List ℕ)) (f : Seen) : Type 0 where
  pub line : List ℕ
  pub others : List (List ℕ)
  pub lines : ls ≡ line ∷ others
  pub form : form_in s f.form ≡ form_of p.at line
  pub next : f.next ≡ p.at + length line + 2
  pub last : f.last ≡ is_nil others
  pub at : At s body v (behind p line) others

-- the refusal of the line behind which q stands
abbrev pub stop_at : Volume → Pos → ℕ → Refusal
stop_at v q n = record { number = n; volume = v.number; line = q.line }
