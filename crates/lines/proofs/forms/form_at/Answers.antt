use mathlib.Core.Path.{sym, ◌∙◌}
use native.Mathlib.Omega.{arith}
use Rattle.lines.proofs.VolumePlaces.{tail-is}
use Rattle.lines.proofs.LineLook.{opens-inside}
use Rattle.lines.proofs.LineFlaw as laws
use Rattle.lines.proofs.forms.form_at.Goals as goal
use Rattle.lines.proofs.forms.form_at.Goals.{then-is_empty-via-then-is_empty, then-is_empty-via-else-is_empty+then-l-eq-COMMENT}
use borrow.Author.Rules.{rules}

pub returns-then-is_empty : goal.returns-then-is_empty
returns-then-is_empty c =
    elim c.then-is_empty.branch [
      | then-is_empty-via-then-is_empty w ↦ laws.told-empty c.args.at c.args.l.now (search rules)
      | then-is_empty-via-else-is_empty+then-l-eq-COMMENT w ↦ laws.told_comment c.args.at c.args.l.now (search rules) w.if-l-eq-COMMENT.true
    ]

pub returns-then-k-l : goal.returns-then-k-l
returns-then-k-l c =
    rw (c.bare_form.ensures, tail-is c.args.l.now c.indent-n.result)
    (laws.told-bare c.args.at c.args.l.now c.indent-n.result c.key_run-k.result c.indent-n.ensures c.key_run-k.ensures c.if-l-eq-COMMENT.false c.if-k-l.true)

pub returns-then-clean_run-l : goal.returns-then-clean_run-l
returns-then-clean_run-l c =
    laws.told_equal-wrong c.args.at c.args.l.now c.indent-n.result c.key_run-k.result c.indent-n.ensures c.key_run-k.ensures c.if-l-eq-COMMENT.false c.clean_run.result (omega (arith, c.if-k-l.false, c.key_run-k.ensures.passed.high)) c.if-l-k-eq61.true c.clean_run.ensures c.if-clean_run-l.true

pub returns-then-l-k-eq61 : goal.returns-then-l-k-eq61
returns-then-l-k-eq61 c =
    rw c.equal_form.ensures
    (laws.told_equal c.args.at c.args.l.now c.indent-n.result c.key_run-k.result c.indent-n.ensures c.key_run-k.ensures c.if-l-eq-COMMENT.false c.clean_run.result (omega (arith, c.if-k-l.false, c.key_run-k.ensures.passed.high)) c.if-l-k-eq61.true c.clean_run.ensures c.if-clean_run-l.false)

pub clean_run-requires-then-opens_at : goal.clean_run-requires-then-opens_at
clean_run-requires-then-opens_at c = opens-inside c.args.l.now c.key_run-k.result (sym c.opens_at.ensures ∙ c.if-opens_at.true)

pub returns-then-clean_run-l-2 : goal.returns-then-clean_run-l-2
returns-then-clean_run-l-2 c =
    laws.told-brace-wrong c.args.at c.args.l.now c.indent-n.result c.key_run-k.result c.indent-n.ensures c.key_run-k.ensures c.if-l-eq-COMMENT.false c.clean_run-then-opens_at.result (sym c.opens_at.ensures ∙ c.if-opens_at.true) c.clean_run-then-opens_at.ensures c.if-clean_run-l-2.true

pub returns-then-opens_at : goal.returns-then-opens_at
returns-then-opens_at c =
    rw c.brace_form.ensures
    (laws.told-brace c.args.at c.args.l.now c.indent-n.result c.key_run-k.result c.indent-n.ensures c.key_run-k.ensures c.if-l-eq-COMMENT.false c.clean_run-then-opens_at.result (sym c.opens_at.ensures ∙ c.if-opens_at.true) c.clean_run-then-opens_at.ensures c.if-clean_run-l-2.false)

pub returns : goal.returns
returns c =
    laws.told-wrong c.args.at c.args.l.now c.indent-n.result c.key_run-k.result c.indent-n.ensures c.key_run-k.ensures c.if-l-eq-COMMENT.false (omega (arith, c.if-k-l.false, c.key_run-k.ensures.passed.high)) c.if-l-k-eq61.false (sym c.opens_at.ensures ∙ c.if-opens_at.false)
