use Prim.Native.Nat.{◌+◌}
use mathlib.Core.Path.{◌≡◌, ◌∙◌}
use native.Mathlib.Omega.{arith}
use Rattle.entries.proofs.values.agree.Goals as goal

pub returns-in-4 : goal.returns-in-4
returns-in-4 c =
    let p = c.args.p in
    let e : p + 0 ≡ p = omega arith in
    rw (c.in-4.is, e) (c.served_power.ensures ∙ rw (c.amount_at.ensures, c.amount_at-in-4.ensures, c.amount_at-in-4-2.ensures))
