use mathlib.Core.List.{◌++◌}
use Rattle.std.proofs.Common.{inl, inr}
use Rattle.rules.specs.Base.{bytes}
use Rattle.rules.specs.Lines.{bytes_at}
use Rattle.prints.specs.Texts.{content_text, behind_text}
use Rattle.prints.proofs.Going.{is_full, whole, first_full, second_full, both}
use Rattle.prints.proofs.rows.behind.Goals as goal

pub returns-in-Opener : goal.returns-in-Opener
unfolding behind_text
returns-in-Opener c = rw c.in-Opener.is (whole _ _ _ _ c.put.ensures)

pub returns-in-NoContent : goal.returns-in-NoContent
unfolding behind_text
returns-in-NoContent c = let p = whole _ _ _ _ c.put-in-NoContent.ensures in elim c.in-NoContent.is [ inl e ↦ rw e p | inr e ↦ rw e p ]

pub returns-in_err-n-in-Content : goal.returns-in_err-n-in-Content
unfolding behind_text
returns-in_err-n-in-Content c = rw (c.in-Content.is, is_full _ c.from_residual.ensures.0) (first_full (bytes "=") (content_text c.args.row (bytes_at c.args.s.now c.in-Content.p)) _ _ (whole _ _ _ _ c.in_err-n-in-Content.ensures))

pub returns-in_err-content-in-Content : goal.returns-in_err-content-in-Content
unfolding behind_text
returns-in_err-content-in-Content c = rw (c.in-Content.is, is_full _ c.from_residual-in_err-content-in-Content.ensures.0) (second_full (bytes "=") (content_text c.args.row (bytes_at c.args.s.now c.in-Content.p)) _ _ _ (whole _ _ _ _ c.in_ok-n-in-Content.ensures) _ (rw c.part.ensures at c.in_err-content-in-Content.ensures))

pub returns-in_ok-content-in-Content : goal.returns-in_ok-content-in-Content
unfolding behind_text
returns-in_ok-content-in-Content c = rw c.in-Content.is (both (bytes "=") (content_text c.args.row (bytes_at c.args.s.now c.in-Content.p)) _ _ _ (whole _ _ _ _ c.in_ok-n-in-Content.ensures) _ _ (rw c.part.ensures at c.in_ok-content-in-Content.ensures))

pub returns-in_err-n-in-Opening : goal.returns-in_err-n-in-Opening
unfolding behind_text
returns-in_err-n-in-Opening c = let text = content_text c.args.row (bytes_at c.args.s.now c.in-Opening.p) in rw (c.in-Opening.is, is_full _ c.from_residual-in_err-n-in-Opening.ensures.0) (first_full (bytes "=" ++ text) (bytes ":{") _ _ (first_full (bytes "=") text _ _ (whole _ _ _ _ c.in_err-n-in-Opening.ensures)))

pub returns-in_err-n-in-Opening-2 : goal.returns-in_err-n-in-Opening-2
unfolding behind_text
returns-in_err-n-in-Opening-2 c = let text = content_text c.args.row (bytes_at c.args.s.now c.in-Opening.p) in rw (c.in-Opening.is, is_full _ c.from_residual-in_err-n-in-Opening-2.ensures.0) (first_full (bytes "=" ++ text) (bytes ":{") _ _ (second_full (bytes "=") text _ _ _ (whole _ _ _ _ c.in_ok-n-in-Opening.ensures) _ (rw c.part-in-Opening.ensures at c.in_err-n-in-Opening-2.ensures)))

pub returns-in_err-put-in-Opening : goal.returns-in_err-put-in-Opening
unfolding behind_text
returns-in_err-put-in-Opening c = let text = content_text c.args.row (bytes_at c.args.s.now c.in-Opening.p) in rw (c.in-Opening.is, is_full _ c.from_residual-in_err-put-in-Opening.ensures.0) (second_full (bytes "=" ++ text) (bytes ":{") _ _ _ (both (bytes "=") text _ _ _ (whole _ _ _ _ c.in_ok-n-in-Opening.ensures) _ _ (rw c.part-in-Opening.ensures at c.in_ok-n-in-Opening-2.ensures)) _ (whole _ _ _ _ c.in_err-put-in-Opening.ensures))

pub returns-in_ok-put-in-Opening : goal.returns-in_ok-put-in-Opening
unfolding behind_text
returns-in_ok-put-in-Opening c = let text = content_text c.args.row (bytes_at c.args.s.now c.in-Opening.p) in rw c.in-Opening.is (both (bytes "=" ++ text) (bytes ":{") _ _ _ (both (bytes "=") text _ _ _ (whole _ _ _ _ c.in_ok-n-in-Opening.ensures) _ _ (rw c.part-in-Opening.ensures at c.in_ok-n-in-Opening-2.ensures)) _ _ (whole _ _ _ _ c.in_ok-put-in-Opening.ensures))
