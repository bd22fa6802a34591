use mathlib.Core.Path.{◌≡◌}
use native.Mathlib.Omega.{arith}
use borrow.Author.Rules.{rules}
use lib.Dec.{eqb}
use Rattle.std.specs.List.{count_by}
use Rattle.entries.proofs.Commas.{split-count}
use Rattle.entries.proofs.by_forms.values_in.Goals as goal

pub returns : goal.returns
returns c =
    let e : c.count.result ≡ count_by (λ b. eqb b 44) c.args.c.now = search rules in
    omega (arith, e, split-count c.args.c.now)
