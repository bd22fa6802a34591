-- A line of a placed symbol's own keys, judged by its key and what stands behind it.
use Prim.Native.Nat.{ℕ}
use mathlib.Core.Path.{◌≡◌}
use mathlib.Core.List.{List}
use lib.IntN.{ℤ}
use Rattle.rules.specs.declared.Digits.{Digits}
use Rattle.rules.specs.declared.Span.{Span}
use Rattle.rules.specs.declared.Opener.{Opener}
use Rattle.rules.specs.declared.Equation.{Equation}
use Rattle.rules.specs.declared.LineForm.{LineForm}
use Rattle.rules.specs.declared.LineForm.TheVariants as L
use Rattle.rules.specs.Lines.{bytes_at, form_in}
use Rattle.rules.specs.Values.{Known}
use Rattle.rules.specs.Rows.{find}
use Rattle.tables.specs.Tables.{table_of}
use Rattle.entries.specs.declared.Rest.{Rest}
use Rattle.entries.specs.Shapes.{key_of, rest_of, rest_in}
use Rattle.account.specs.declared.Now.{Now}
use Rattle.account.specs.declared.Step.{Step}
use Rattle.account.specs.SkippedLines.{skipped_by}
use Rattle.account.specs.PlacedLines.{Lent, KeyLine, OwnLine}

module _ (known : Known) (class range : Digits) (now : Now) (x₀ x₁ : Lent) (rec₀ rec₁ : List ℤ) (r : Step) (s : List ℕ) (form : LineForm) (key : Span) (rest : Rest)
    (k : key ≡ key_of form) (b : rest ≡ rest_of form) (h : KeyLine known class range now x₀ x₁ rec₀ rec₁ r (skipped_by (form_in s form)) (rest_in s rest) (find (bytes_at s key) (table_of 18))) where
  pub opens-line : (o : Opener) → form ≡ L.Opens o → OwnLine known class range now x₀ x₁ rec₀ rec₁ r (form_in s form)
  opens-line o e = rw e (rw (k, b, e) at h)

  pub equals-line : (q : Equation) → form ≡ L.Equals q → OwnLine known class range now x₀ x₁ rec₀ rec₁ r (form_in s form)
  equals-line q e = rw e (rw (k, b, e) at h)
