use Rattle.std.proofs.Common.{◌-◌, ◌∙◌, ap, sym, arith, rules, length}
use Rattle.leaves.specs.Drawing.{sheet_of, plain_sheet}
use Rattle.leaves.proofs.Drawings.{sheet-short, sheet-other, sheet-alone, sheet-bare, sheet-behind}
use Rattle.leaves.proofs.sheets.sheet.Goals as goal

pub returns-then-s-lt2 : goal.returns-then-s-lt2
returns-then-s-lt2 c = sym (ap sheet_of (sheet-short c.args.s.now c.if-s-lt2.true))

pub returns-then-s-e-ne65 : goal.returns-then-s-e-ne65
returns-then-s-e-ne65 c = sym (ap sheet_of (sheet-other c.args.s.now (length c.args.s.now - 2) (omega arith) c.if-s-e-ne65.true))

pub returns-then-e-eq0 : goal.returns-then-e-eq0
unfolding plain_sheet
returns-then-e-eq0 c = c.numbered.ensures ∙ sheet-alone c.args.s.now (length c.args.s.now - 2) (omega arith) c.if-s-e-ne65.false c.if-e-eq0.true

pub returns-in_err-multiplier : goal.returns-in_err-multiplier
returns-in_err-multiplier c = rw (sheet-bare c.args.s.now (length c.args.s.now - 2) (omega arith) c.if-s-e-ne65.false c.if-e-eq0.false (sym c.multiplier.ensures ∙ c.in_err-multiplier.was)) (search rules)

pub returns : goal.returns
returns c = c.numbered-2.ensures ∙ sheet-behind c.args.s.now (length c.args.s.now - 2) (omega arith) c.if-s-e-ne65.false c.if-e-eq0.false c.in_ok-multiplier.field-0 (sym c.multiplier.ensures ∙ c.in_ok-multiplier.was)
