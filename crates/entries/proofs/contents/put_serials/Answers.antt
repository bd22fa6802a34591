use mathlib.Core.Path.{◌≡◌, sym, ◌∙◌}
use native.Mathlib.Omega.{arith}
use Rattle.std.proofs.Common.{rules}
use lib.ListN.{take}
use lib.Seq.{length-take-le}
use Rattle.std.specs.Prelude.{Some, None, Err}
use Rattle.leaves.proofs.Bounds.{count-below}
use Rattle.leaves.proofs.Cuts.{up_to-le}
use Rattle.entries.proofs.ByKind.{linked-ten, linked-own, linked-eleven, linked-done, some-serials}
use Rattle.entries.proofs.contents.put_serials.Goals as goal

pub returns-in_err-n : goal.returns-in_err-n
returns-in_err-n c =
    let a = c.args in
    let e : c.from_residual.result ≡ Err 10 = search rules in
    let n : None ≡ c.serial_count.result = search rules in
    rw e (linked-ten a.c.now a.rec.now _ a.p (n ∙ c.serial_count.ensures))

pub returns-then-n-gt101 : goal.returns-then-n-gt101
returns-then-n-gt101 c =
    let a = c.args in
    let n : Some c.in_ok-n.n ≡ c.serial_count.result = search rules in
    linked-eleven a.c.now a.rec.now _ a.p c.in_ok-n.n (n ∙ c.serial_count.ensures) c.if-n-gt101.true

pub slice_bounds-serial-end : goal.slice_bounds-serial-end
slice_bounds-serial-end c = sym (length-take-le _ _ (omega (arith, up_to-le 44 c.args.c.now, c.find.ensures)))

pub returns-in_err-own : goal.returns-in_err-own
returns-in_err-own c =
    let a = c.args in
    let e : c.from_residual-in_err-own.result ≡ Err 10 = search rules in
    let n : None ≡ c.serial.result = search rules in
    rw e (linked-own a.c.now a.rec.now _ a.p c.find.result c.find.ensures (n ∙ c.serial.ensures))

pub overflow_sub-n : goal.overflow_sub-n
overflow_sub-n c =
    let n : Some c.in_ok-n.n ≡ c.serial_count.result = search rules in
    some-serials c.args.c.now c.args.rec.now c.args.rec.now 0 c.in_ok-n.n (n ∙ c.serial_count.ensures)

pub put_two-requires : goal.put_two-requires
put_two-requires c =
    let v : Some c.in_ok-own.own ≡ c.serial.result = search rules in
    let h = count-below 10 (take c.find.result c.args.c.now) c.in_ok-own.own (sym (v ∙ c.serial.ensures)) in
    (omega (arith, h), omega (arith, c.if-n-gt101.false), c.requires.1)

pub returns : goal.returns
returns c =
    let a = c.args in
    let n : Some c.in_ok-n.n ≡ c.serial_count.result = search rules in
    let v : Some c.in_ok-own.own ≡ c.serial.result = search rules in
    linked-done a.c.now a.rec.now _ a.p c.find.result c.in_ok-n.n c.in_ok-own.own c.find.ensures (n ∙ c.serial_count.ensures) c.if-n-gt101.false (v ∙ c.serial.ensures) c.put_two.ensures
