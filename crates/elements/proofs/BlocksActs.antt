-- What the answer to a line tells of its act.
use Prim.Native.Nat.{◌<◌}
use mathlib.Core.Bool.{Bool}
use mathlib.Core.List.{List}
use mathlib.Core.Path.{◌≡◌, refl, sym, subst}
use lib.ListN.{length}
use Rattle.rules.specs.declared.Digits.{Digits}
use Rattle.rules.specs.Lines.{Form}
use Rattle.rules.specs.Values.{Known, Value}
use Rattle.rules.specs.Rows.{Rule, Act, stay, entry, begin, shut, refuse, act}
use Rattle.entries.specs.Acts.{next_of}
use Rattle.entries.specs.declared.Next.{Next}
use Rattle.entries.specs.declared.Next.TheVariants as N
use Rattle.account.proofs.RowsTaken.{TableTaken, act-taken}

-- ── the act ──
abbrev pub Told : Next → Act → Type 0
Told N.Stay a = a ≡ stay
Told (N.Entry j) a = (v : Value) × (a ≡ entry j v)
Told (N.Begin x) a = (v : Value) × (a ≡ begin x.block x.row v)
Told N.Shut a = a ≡ shut
Told (N.Refuse k) a = a ≡ refuse k

own-told : (a : Act) → Told (next_of a) a
own-told stay = refl
own-told (entry j v) = (v, refl)
own-told (begin i j v) = (v, refl)
own-told shut = refl
own-told (refuse k) = refl

pub told : (y : Next) (a : Act) → y ≡ next_of a → Told y a
told y a e = subst (λ (x : Next). Told x a) (sym e) (own-told a)

-- ── its row ──
abbrev RowOf : List Rule → Next → Type 0
RowOf t N.Stay = Unit {0}
RowOf t (N.Entry j) = j < length t
RowOf t (N.Begin x) = x.row < length t
RowOf t N.Shut = Unit {0}
RowOf t (N.Refuse k) = Unit {0}

own_row : (t : List Rule) (full : List Bool) (a : Act) → TableTaken t full a → RowOf t (next_of a)
own_row t full stay h = tt
own_row t full (entry j v) h = h.row
own_row t full (begin i j v) h = h.row
own_row t full shut h = tt
own_row t full (refuse k) h = tt

pub row_of : (k : Known) (t : List Rule) (d : Digits) (full : List Bool) (f : Form) (y : Next) → y ≡ next_of (act k t d full f) → RowOf t y
row_of k t d full f y e = subst (RowOf t) (sym e) (own_row t full (act k t d full f) (act-taken k t d full f))
