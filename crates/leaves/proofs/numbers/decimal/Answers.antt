use Prim.Native.Nat.{ℕ}
use mathlib.Core.Path.{ap, sym, ◌∙◌}
use mathlib.Core.List.{List}
use native.Mathlib.Omega.{arith}
use Rattle.rules.specs.Numbers.{read_decimal}
use Rattle.leaves.specs.Readings.{reading_of}
use Rattle.leaves.proofs.Cuts.{up_to-none}
use Rattle.leaves.proofs.Commas.{comma-decimal}
use Rattle.leaves.proofs.Bounds.{piece-reading, piece-end}
use Rattle.leaves.proofs.numbers.decimal.Goals as goal

pub returns-then-p-s : goal.returns-then-p-s
returns-then-p-s c =
    let s = c.args.s.now in
    sym (ap reading_of (comma-decimal s (omega (arith, piece-end s _ c.decimal_piece-p.ensures, c.if-p-s.true))))

pub returns : goal.returns
returns c =
    let s = c.args.s.now in
    piece-reading s _ c.decimal_piece-p.ensures ∙ ap (λ (l : List ℕ). reading_of (read_decimal l)) (up_to-none 44 s (omega (arith, piece-end s _ c.decimal_piece-p.ensures, c.if-p-s.false)))
