use mathlib.Core.List.{List}
use Prim.Native.Nat.{ℕ, ◌+◌}
use mathlib.Core.Path.{ap, sym, ◌∙◌}
use native.Mathlib.Omega.{arith}
use lib.ListN.{length, length-drop}
use Rattle.leaves.proofs.Scan.{rest_all}
use Rattle.entries.specs.Entering.{serials_in}
use Rattle.entries.proofs.ByKind.{add_to, count-more, count-not, count-end, count-last}
use Rattle.entries.proofs.contents.serial_count.Goals as goal

pub returns-in_err-serial : goal.returns-in_err-serial
returns-in_err-serial c =
    let v = c.loop-rest in
    c.from_residual.ensures ∙ count-last c.args.c.now v.rest.now v.n _ c.find-e.ensures v.invariant.1 c.if-rest-e.true c.in_err-serial.ensures

pub returns-then-rest-e : goal.returns-then-rest-e
returns-then-rest-e c =
    let v = c.loop-rest in
    count-end c.args.c.now v.rest.now v.n _ c.find-e.ensures v.invariant.1 _ c.if-rest-e.true c.in_ok-serial.ensures

pub returns-in_err-serial-2 : goal.returns-in_err-serial-2
returns-in_err-serial-2 c =
    let v = c.loop-rest in
    c.from_residual-in_err-serial-2.ensures ∙ count-not c.args.c.now v.rest.now v.n _ c.find-e.ensures v.invariant.1 c.in_err-serial-2.ensures

pub loop-rest-preserved : goal.loop-rest-preserved
loop-rest-preserved c =
    let v = c.loop-rest in
    let e = c.find-e.result in
    let left = rest_all (e + 1) v.rest.now in (
      omega (arith, v.invariant.0, c.if-rest-e.false, ap length left, length-drop (e + 1) v.rest.now),
      count-more c.args.c.now v.rest.now v.n e c.find-e.ensures v.invariant.1 _ c.if-rest-e.false c.in_ok-serial-2.ensures ∙ sym (ap (λ (u : List ℕ). add_to (v.n + 1) (serials_in u)) left),
    )
