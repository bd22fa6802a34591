use mathlib.Core.Path.{sym, ◌∙◌}
use native.Mathlib.Omega.{arith}
use lib.ListN.{drop}
use Rattle.lines.proofs.LineLook as laws
use Rattle.lines.proofs.runs.key_char.Goals as goal
use Rattle.lines.proofs.runs.key_char.Goals.{then-b-eq61-via-then-b-eq61, then-b-eq61-via-else-b-eq61+then-opens_at}

pub returns-in_err-b : goal.returns-in_err-b
returns-in_err-b c = rw c.from_residual.ensures (laws.key-end c.args.t.now c.args.i c.in_err-b.ensures.lookup.3)

pub returns-then-b-eq61 : goal.returns-then-b-eq61
returns-then-b-eq61 c =
    let h = c.in_ok-b.ensures.lookup.3.0 in
    let b = c.in_ok-b.ensures.lookup.4 (omega arith) 0 in
    elim c.then-b-eq61.branch [
      | then-b-eq61-via-then-b-eq61 w ↦ laws.key_equal c.args.t.now c.args.i h (sym b ∙ w.if-b-eq61.true)
      | then-b-eq61-via-else-b-eq61+then-opens_at w ↦ laws.key-opens (drop c.args.i c.args.t.now) (sym w.opens_at.ensures ∙ w.if-opens_at.true)
    ]

pub returns : goal.returns
returns c =
    let h = c.in_ok-b.ensures.lookup.3.0 in
    let b = c.in_ok-b.ensures.lookup.4 (omega arith) 0 in
    rw (laws.key-other c.args.t.now c.args.i h (λ e. c.if-b-eq61.false (b ∙ e)) (sym c.opens_at.ensures ∙ c.if-opens_at.false)) c.char_at.ensures
