use Prim.Native.Nat.{◌+◌}
use mathlib.Core.Path.{◌≡◌, sym, ◌∙◌}
use native.Mathlib.Omega.{arith}
use Rattle.std.proofs.Common.{rules}
use lib.ListN.{take}
use Rattle.std.specs.Prelude.{Some, None, Err}
use Rattle.leaves.proofs.Bounds.{count-below}
use Rattle.leaves.proofs.Ints.{fits_pos, pos-back}
use Rattle.leaves.proofs.Scan.{rest_all}
use Rattle.entries.proofs.WireSerials.{serial-few, serial-own, serial-put}
use Rattle.entries.proofs.wire_serials.put_wire_serial.Goals as goal

pub returns-then-c-e : goal.returns-then-c-e
returns-then-c-e c = let a = c.args in serial-few a.c.now a.rec.now a.p _ c.find-e.result c.find-e.ensures c.if-c-e.true

pub returns-in_err-rec : goal.returns-in_err-rec
returns-in_err-rec c =
    let a = c.args in
    let e : c.from_residual.result ≡ Err 10 = search rules in
    let n : None ≡ c.serial.result = search rules in
    rw e (serial-own a.c.now a.rec.now a.p c.find-e.result c.find-e.ensures c.if-c-e.false _ (n ∙ c.serial.ensures))

pub overflow_cast-rec : goal.overflow_cast-rec
overflow_cast-rec c =
    let n = c.in_ok-rec.field-0 in
    let v : Some n ≡ c.serial.result = search rules in
    let h = count-below 10 (take c.find-e.result c.args.c.now) n (sym (v ∙ c.serial.ensures)) in
    fits_pos n (omega (arith, h))

pub returns : goal.returns
returns c =
    let a = c.args in
    let s = a.c.now in
    let e = c.find-e.result in
    let n = c.in_ok-rec.field-0 in
    let v : Some n ≡ c.serial.result = search rules in
    let h = count-below 10 (take e s) n (sym (v ∙ c.serial.ensures)) in
    let m = rw (rest_all (e + 1) s, pos-back n (omega (arith, h))) at c.put_ends.ensures in
    serial-put s a.rec.now a.p e c.find-e.ensures c.if-c-e.false n _ _ (v ∙ c.serial.ensures) m
