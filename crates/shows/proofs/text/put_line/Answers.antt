use mathlib.Core.Path.{refl}
use lib.IntN.{pos}
use lib.ListN.{get_or}
use native.Mathlib.Omega.{arith}
use mir.Syntax.{w64}
use mir.Val.{SFits}
use mir.Facts.{to_z-of_z}
use Rattle.std.proofs.Common.{rules}
use Rattle.shows.proofs.Laying.{laid_none, laid-all, line-full, line-room, line-more, line_of-none}
use Rattle.shows.proofs.text.put_line.Goals as goal

pub returns-then-is_empty : goal.returns-then-is_empty
returns-then-is_empty c = rw (line_of-none c.args.zs.now (search rules)) c.put_empty.ensures

pub loop-i-init : goal.loop-i-init
loop-i-init c = laid_none c.args.zs.now c.args.out.now (search rules)

pub returns-in_default : goal.returns-in_default
returns-in_default c =
    let f : SFits w64 (get_or c.args.zs.now c.loop-i.i (pos 0)) = record { sfits = c.put_ended-arg-1.given } in
    line-full _ _ _ _ _ c.loop-i.invariant c.loop-i-test.true _ refl _ c.end_before-end.ensures _ _ (rw (to_z-of_z f) at c.put_ended.ensures) c.in_default.is _ c.clear.ensures

pub overflow_add-at : goal.overflow_add-at
overflow_add-at c =
    let f : SFits w64 (get_or c.args.zs.now c.loop-i.i (pos 0)) = record { sfits = c.put_ended-arg-1.given } in
    let h = line-room _ _ _ _ _ c.loop-i.invariant c.loop-i-test.true _ refl _ c.end_before-end.ensures _ _ (rw (to_z-of_z f) at c.put_ended.ensures) _ c.in-Ok.is in
    let s = c.loop-i.invariant.same in
    record { fits = omega (arith, h, s) }

pub loop-i-preserved : goal.loop-i-preserved
loop-i-preserved c =
    let f : SFits w64 (get_or c.args.zs.now c.loop-i.i (pos 0)) = record { sfits = c.put_ended-arg-1.given } in
    line-more _ _ _ _ _ c.loop-i.invariant c.loop-i-test.true _ refl _ c.end_before-end.ensures _ _ (rw (to_z-of_z f) at c.put_ended.ensures) _ c.in-Ok.is

pub returns : goal.returns
returns c = laid-all _ _ _ _ _ c.loop-i.invariant (omega arith)
