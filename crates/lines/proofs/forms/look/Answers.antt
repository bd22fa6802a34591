use mathlib.Core.Path.{refl, sym, ◌∙◌, ap}
use Prim.Native.Nat.{◌+◌, ◌-◌}
use native.Mathlib.Omega.{arith}
use lib.ListN.{length}
use Rattle.lines.specs.LineLook.{seen_at}
use Rattle.lines.proofs.LineLook as laws
use Rattle.lines.proofs.forms.look.Goals as goal

pub returns-then-body-gt-MOST_BYTES : goal.returns-then-body-gt-MOST_BYTES
returns-then-body-gt-MOST_BYTES c = sym (laws.look-long c.args.volume c.args.line c.args.base c.args.at c.args.body.now (omega arith))

pub returns-then-body-base : goal.returns-then-body-base
returns-then-body-base c = sym (laws.look-long c.args.volume c.args.line c.args.base c.args.at c.args.body.now (omega arith))

pub returns-then-at-base : goal.returns-then-at-base
returns-then-at-base c = sym (laws.look-early c.args.volume c.args.line c.args.base c.args.at c.args.body.now c.if-at-base.true)

pub returns-then-body-from : goal.returns-then-body-from
returns-then-body-from c = sym (laws.look-behind c.args.volume c.args.line c.args.base c.args.at c.args.body.now (omega arith))

pub returns-in_err-to : goal.returns-in_err-to
returns-in_err-to c = c.from_residual.ensures ∙ sym (laws.look-ends c.args.volume c.args.line c.args.base c.args.at c.args.body.now (omega arith) c.if-at-base.false (omega arith) (c.args.at - c.args.base) refl c.in_err-to.ensures)

pub returns : goal.returns
returns c =
    let to = c.in_ok-to.ensures in
    c.seen.ensures ∙ ap (λ form. seen_at form (c.args.base + c.in_ok-to.to) (c.args.base + length c.args.body.now)) c.line_form-form.ensures
    ∙ laws.look-found c.args.volume c.args.line c.args.base c.args.at c.args.body.now (omega arith) c.if-at-base.false (omega arith) (c.args.at - c.args.base) refl c.in_ok-to.to to.0 to.1
