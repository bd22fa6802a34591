use mathlib.Core.Path.{◌≡◌}
use lib.ListN.{length}
use mir.Syntax.{w64}
use mir.Val.{SFits}
use mir.Facts.{to_z-of_z}
use Rattle.std.proofs.Common.{rules}
use Rattle.rules.specs.Answers.{show_signed}
use Rattle.shows.proofs.Laying.{nowhere, ended-full, ended-bytes}
use Rattle.shows.proofs.text.put_ended.Goals as goal

pub returns-in_err-n : goal.returns-in_err-n
returns-in_err-n c =
    let f : SFits w64 c.args.z = c.ranges.z in
    let h : length c.args.out.now ≡ 0 → ⊥ = search rules in
    rw (nowhere _ c.from_residual.ensures.0) (ended-full (show_signed c.args.z) c.args.out.now _ _ h (rw (to_z-of_z f) at c.put_signed.ensures) _ c.in_err-n.was)

pub returns : goal.returns
returns c =
    let f : SFits w64 c.args.z = c.ranges.z in
    let h : length c.args.out.now ≡ 0 → ⊥ = search rules in
    ended-bytes (show_signed c.args.z) c.args.out.now _ _ h (rw (to_z-of_z f) at c.put_signed.ensures) c.args.end _ c.in_ok-n.was
