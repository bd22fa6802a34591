-- From the answer about a line back to its act: what a caller's `match` knows.
use Prim.Native.Nat.{ℕ}
use mathlib.Core.Path.{◌≡◌, refl, sym, subst}
use mathlib.Core.List.{List}
use lib.IntN.{ℤ}
use Rattle.rules.specs.Values.{Value}
use Rattle.rules.specs.Rows.{Rule, Act, stay, entry, begin, shut, refuse}
use Rattle.entries.specs.Acts.{put_line, next_of, Entered, Acts}
use Rattle.entries.specs.declared.Next.{Next}
use Rattle.entries.specs.declared.Next.TheVariants as N

abbrev pub Took : (ℕ → Rule) → ℕ → List ℤ → Act → List ℤ → Next → Type 0
Took rule dump t a t₁ N.Stay = (a ≡ stay) × (t₁ ≡ t)
Took rule dump t a t₁ (N.Entry j) = (v : Value) × (a ≡ entry j v) × (t₁ ≡ put_line (rule j) dump v t)
Took rule dump t a t₁ (N.Begin b) = (v : Value) × (a ≡ begin b.block b.row v) × (t₁ ≡ put_line (rule b.row) dump v t)
Took rule dump t a t₁ N.Shut = (a ≡ shut) × (t₁ ≡ t)
Took rule dump t a t₁ (N.Refuse n) = a ≡ refuse n

module _ (rule : ℕ → Rule) (dump : ℕ) (t t₁ : List ℤ) where
  took-act : (a : Act) → Entered rule dump t a t₁ → Took rule dump t a t₁ (next_of a)
  took-act stay h = (refl, h)
  took-act (entry j v) h = (v, refl, h)
  took-act (begin i j v) h = (v, refl, h)
  took-act shut h = (refl, h)
  took-act (refuse n) h = refl

  pub took : (a : Act) (n : Next) → Acts rule dump t a t₁ n → Took rule dump t a t₁ n
  took a n h = subst (λ (m : Next). Took rule dump t a t₁ m) (sym h.eq) (took-act a h.entered)
