-- A line's form or its flaw, as the code finds them, and the form that they stand for.
use Rattle.std.specs.Prelude.{ℕ, ◌+◌, ◌-◌, ◌≡◌, cond, List, [], ◌∷◌, eqb, Result, Ok, Err}
use Rattle.rules.specs.Base.{bytes, same}
use Rattle.rules.specs.Lines.{line_form_of}
use Rattle.rules.specs.declared.LineForm.{LineForm}
use Rattle.rules.specs.declared.LineForm.TheVariants as L
use Rattle.lines.specs.LineForms.{refused_as, equals_at, opens_at}
use Rattle.lines.specs.declared.forms.Flaw.{Flaw}
use Rattle.lines.specs.declared.forms.Flaw.TheVariants.{BadBytes, NoForm}

-- ── what they stand for ──
abbrev pub told : ℕ → ℕ → Result LineForm Flaw → LineForm
told volume line (Ok f) = f
told volume line (Err BadBytes) = refused_as 4 volume line
told volume line (Err NoForm) = refused_as 5 volume line

-- they stand for the form of the line with these bytes, whose first stands at a place: whatever its number and its volume's number
abbrev pub Formed : ℕ → List ℕ → Result LineForm Flaw → Type 0
Formed at l r = (volume line : ℕ) → told volume line r ≡ line_form_of volume line at l

-- ── the forms of the code ──
-- a line without a key
unfoldable pub word_form : List ℕ → Result LineForm Flaw
word_form s = cond (same s (bytes "}")) (Ok L.Close) (cond (same s (bytes "EOF")) (Ok L.Eof) (Err NoForm))

-- the same, and perhaps without anything
unfoldable pub bare_form : List ℕ → Result LineForm Flaw
bare_form [] = Ok L.Ignored
bare_form (b ∷ s) = word_form (b ∷ s)

-- a key of so many bytes at a place, with `=` behind it, in a line that runs to the place end
unfoldable pub equal_form : ℕ → ℕ → ℕ → Result LineForm Flaw
equal_form first size end = cond (eqb size 0) (Err NoForm) (Ok (equals_at first size (first + size + 1) (end - (first + size + 1))))

-- the same with `:{`, behind which nothing may stand
unfoldable pub brace_form : ℕ → ℕ → ℕ → Result LineForm Flaw
brace_form first size end = cond (eqb size 0) (Err NoForm) (cond (eqb (first + size + 2) end) (Ok (opens_at first size)) (Err NoForm))
