use mathlib.Core.Path.{sym, ◌∙◌, ap}
use Rattle.rules.specs.declared.LineForm.{LineForm}
use Rattle.rules.specs.Lines.{form_in}
use Rattle.account.specs.SkippedLines.{skipped_by}
use Rattle.elements.proofs.skip.skip_line.Goals as goal

pub returns-in-Ignored : goal.returns-in-Ignored
returns-in-Ignored c = sym (ap (λ (f : LineForm). skipped_by (form_in c.args.s.now f)) c.in-Ignored.is)

pub returns-in-Close : goal.returns-in-Close
returns-in-Close c = sym (ap (λ (f : LineForm). skipped_by (form_in c.args.s.now f)) c.in-Close.is)

pub returns-in-Eof : goal.returns-in-Eof
returns-in-Eof c = sym (ap (λ (f : LineForm). skipped_by (form_in c.args.s.now f)) c.in-Eof.is)

pub returns-in-Equals : goal.returns-in-Equals
returns-in-Equals c = c.skip_equation.ensures ∙ sym (ap (λ (f : LineForm). skipped_by (form_in c.args.s.now f)) c.in-Equals.is)

pub returns-in-Refused : goal.returns-in-Refused
returns-in-Refused c = sym (ap (λ (f : LineForm). skipped_by (form_in c.args.s.now f)) c.in-Refused.is)
