use mathlib.Core.Path.{sym, ◌∙◌}
use native.Mathlib.Omega.{arith}
use Rattle.lines.proofs.LineForms as laws
use Rattle.lines.proofs.runs.blank_at.Goals as goal
use Rattle.lines.proofs.runs.blank_at.Goals.{then-b-eq-SPACE-via-then-b-eq-SPACE, then-b-eq-SPACE-via-else-b-eq-SPACE+then-b-eq-TAB}

pub returns-in_err-b : goal.returns-in_err-b
returns-in_err-b c = rw c.from_residual.ensures (laws.blank_end c.args.s.now c.args.i c.in_err-b.ensures.lookup.3)

pub returns-then-b-eq-SPACE : goal.returns-then-b-eq-SPACE
returns-then-b-eq-SPACE c =
    let h = c.in_ok-b.ensures.lookup.3.0 in
    let b = c.in_ok-b.ensures.lookup.4 (omega arith) 0 in (
      omega arith,
      sym (elim c.then-b-eq-SPACE.branch [
        | then-b-eq-SPACE-via-then-b-eq-SPACE w ↦ laws.blank_space c.args.s.now c.args.i h (sym b ∙ w.if-b-eq-SPACE.true)
        | then-b-eq-SPACE-via-else-b-eq-SPACE+then-b-eq-TAB w ↦ laws.blank_tab c.args.s.now c.args.i h (sym b ∙ w.if-b-eq-TAB.true)
      ]),
    )

pub returns-then-b : goal.returns-then-b
returns-then-b c =
    let h = c.in_ok-b.ensures.lookup.3.0 in
    let b = c.in_ok-b.ensures.lookup.4 (omega arith) 0 in
    laws.blank-other c.args.s.now c.args.i h (λ e. c.if-b-eq-SPACE.false (b ∙ e)) (λ e. c.if-b-eq-TAB.false (b ∙ e)) (λ e. c.if-b.true (b ∙ e))

pub returns-in_err-next : goal.returns-in_err-next
returns-in_err-next c =
    let h = c.in_ok-b.ensures.lookup.3.0 in
    let b = c.in_ok-b.ensures.lookup.4 (omega arith) 0 in
    rw c.from_residual-in_err-next.ensures (laws.blank-last c.args.s.now c.args.i h (λ e. c.if-b-eq-SPACE.false (b ∙ e)) (λ e. c.if-b-eq-TAB.false (b ∙ e)) c.in_err-next.ensures.lookup.3)

pub returns-then-next-ne-WIDE_TRAIL : goal.returns-then-next-ne-WIDE_TRAIL
returns-then-next-ne-WIDE_TRAIL c =
    let h = c.in_ok-b.ensures.lookup.3.0 in
    let b = c.in_ok-b.ensures.lookup.4 (omega arith) 0 in
    let k = c.in_ok-next.ensures.lookup.3.0 in
    let n = c.in_ok-next.ensures.lookup.4 (omega arith) 0 in
    laws.blank-half c.args.s.now c.args.i h (λ e. c.if-b-eq-SPACE.false (b ∙ e)) (λ e. c.if-b-eq-TAB.false (b ∙ e)) (sym b ∙ c.if-b.false) k (λ e. c.if-next-ne-WIDE_TRAIL.true (n ∙ e))

pub returns : goal.returns
returns c =
    let h = c.in_ok-b.ensures.lookup.3.0 in
    let b = c.in_ok-b.ensures.lookup.4 (omega arith) 0 in
    let k = c.in_ok-next.ensures.lookup.3.0 in
    let n = c.in_ok-next.ensures.lookup.4 (omega arith) 0 in
    (omega arith, sym (laws.blank-wide c.args.s.now c.args.i h (λ e. c.if-b-eq-SPACE.false (b ∙ e)) (λ e. c.if-b-eq-TAB.false (b ∙ e)) (sym b ∙ c.if-b.false) k (sym n ∙ c.if-next-ne-WIDE_TRAIL.false)))
