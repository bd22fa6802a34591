-- What an act leads to, with the answer at the close in the place of the function that gives it: so what an act is set beside says which answer that is.
use Prim.Native.Nat.{ℕ}
use mathlib.Core.Path.{◌≡◌}
use Rattle.rules.specs.RefusalNumbers.{Got}
use Rattle.rules.specs.Values.{Value}
use Rattle.rules.specs.Rows.{Act, begin}
use Rattle.rules.specs.Machine.{State, by_act}
use Rattle.rules.proofs.Chains.{On}
use Rattle.rules.proofs.OnActs as acts

abbrev pub acted : State → (ℕ → Value → Got State) → (ℕ → ℕ → Value → Got State) → Got State → Act → Got State
acted now entered opened closed a = by_act now entered opened (λ _. closed) a

pub on-by_act : (P : State → Type 0) (now : State) (entered : ℕ → Value → Got State) (opened : ℕ → ℕ → Value → Got State) (closed : Got State) (a : Act)
    → P now
    → ((j : ℕ) (v : Value) → On P (entered j v))
    → ((i j : ℕ) (v : Value) → a ≡ begin i j v → On P (opened i j v))
    → On P closed
    → On P (by_act now entered opened (λ _. closed) a)
on-by_act P now entered opened closed a p q r s = acts.on-by_act P now entered opened (λ _. closed) a p q r s
