use mathlib.Core.Path.{◌≡◌, sym, ◌∙◌}
use native.Mathlib.Omega.{arith}
use Rattle.std.proofs.Common.{rules}
use Rattle.std.specs.Prelude.{Some}
use Rattle.leaves.proofs.Bounds.{count-below}
use Rattle.entries.proofs.wire_serials.put_partner.Goals as goal

pub put_two-requires-2 : goal.put_two-requires-2
put_two-requires-2 c =
    let v : Some c.in_ok-ok_or.field-0 ≡ c.serial.result = search rules in
    let h = count-below 10 c.args.c.now c.in_ok-ok_or.field-0 (sym (v ∙ c.serial.ensures)) in
    (omega arith, omega (arith, h), c.requires)
