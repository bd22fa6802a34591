use mathlib.Core.Path.{refl}
use native.Mathlib.Omega.{arith}
use Rattle.volumes.proofs.LentOutput.{no-room, lent-room}
use Rattle.volumes.proofs.SetLoop.{few, begins, goes_on, room-lacks, ends}
use Rattle.volumes.proofs.put_set.Goals as goal

pub loop-i-init : goal.loop-i-init
loop-i-init c = begins _ _ _ refl

pub offset_bounds-l-i : goal.offset_bounds-l-i
offset_bounds-l-i c = omega (arith, c.loop-i.invariant.fits, few _ _ _ c.volumes-l.ensures c.loop-i-test.true)

pub bounds-l-i : goal.bounds-l-i
bounds-l-i c = few _ _ _ c.volumes-l.ensures c.loop-i-test.true

pub offset_bounds-l-i-in-loop-i : goal.offset_bounds-l-i-in-loop-i
offset_bounds-l-i-in-loop-i c = omega (arith, few _ _ _ c.volumes-l.ensures c.loop-i-test.true)

pub bounds-l-i-in-loop-i : goal.bounds-l-i-in-loop-i
bounds-l-i-in-loop-i c = few _ _ _ c.volumes-l.ensures c.loop-i-test.true

pub returns-in_err-at : goal.returns-in_err-at
returns-in_err-at c = rw (no-room c.from_residual.result c.from_residual.ensures.0) (room-lacks _ _ _ _ _ _ c.loop-i.invariant _ c.volumes-l.ensures c.loop-i-test.true c.loop-i.invariant.fits c.part-body.result.now c.part-body.ensures _ _ c.put_volume.ensures.0 c.put_volume.ensures.2 c.in_err-at.was)

pub overflow_add-at : goal.overflow_add-at
overflow_add-at c = omega (arith, lent-room c.loop-i.at c.loop-i.out c.loop-i.invariant.fits _ _ _ c.put_volume.ensures.0 c.in_ok-at.was)

pub loop-i-preserved : goal.loop-i-preserved
loop-i-preserved c = goes_on _ _ _ _ _ _ c.loop-i.invariant _ c.volumes-l.ensures c.loop-i-test.true c.loop-i.invariant.fits c.part-body.result.now c.part-body.ensures _ _ c.put_volume.ensures.0 c.put_volume.ensures.2 _ c.put_volume.ensures.1 _ c.in_ok-at.was

pub returns : goal.returns
returns c = ends _ _ _ _ _ _ c.loop-i.invariant _ c.volumes-l.ensures (omega (arith, c.loop-i-test.false))
