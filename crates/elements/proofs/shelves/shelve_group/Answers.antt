use Prim.Native.Nat.{ℕ}
use mathlib.Core.Path.{◌≡◌, ◌∙◌, ap}
use native.Mathlib.Omega.{arith}
use Rattle.account.specs.WireLines.{shelved, shelf_of}
use Rattle.elements.proofs.shelves.shelve_group.Goals as goal

pub returns-in_default : goal.returns-in_default
returns-in_default c =
    let e : ◌≡◌ {A = ℕ} 4 c.args.row = omega (arith, c.requires.0, c.requires.1) in
    c.shelve-in_default.ensures ∙ ap (λ (j : ℕ). shelved 0 (shelf_of j) c.args.t.now) e
