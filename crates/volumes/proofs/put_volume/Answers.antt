use Rattle.lines.specs.VolumeNames.{name_at}
use mathlib.Core.Path.{refl}
use native.Mathlib.Omega.{arith}
use Rattle.pens.proofs.Behind.{within-full}
use Rattle.volumes.proofs.LentOutput.{no-room, bytes-within, within-long, lent-room}
use Rattle.volumes.proofs.Heads.{name-short, volume-narrow, volume-full, volume-kept, volume-wrote, volume_promise}
use Rattle.volumes.proofs.put_volume.Goals as goal

pub returns-then-out-lt12 : goal.returns-then-out-lt12
returns-then-out-lt12 c = (within-full _ _ refl, c.requires, λ K e v next ls s st k a b g. volume-narrow K _ _ (name-short c.args.s.now c.args.start) st _ _ c.if-out-lt12.true)

pub returns-in_err-n : goal.returns-in_err-n
returns-in_err-n c = rw (no-room c.from_residual.result c.from_residual.ensures.0) (
  within-full _ _ (within-long 12 c.args.out.now c.if-out-lt12.false _ _ c.put_body.ensures.0),
  c.put_body.ensures.1,
  volume_promise _ _ _ _ _ _ _ _ _ _ c.put_body.ensures.2 (λ K st w. volume-full K _ _ (name-short c.args.s.now c.args.start) st _ _ c.if-out-lt12.false _ (rw c.in_err-n.was at w)),
)

pub put_head-requires : goal.put_head-requires
put_head-requires c = (rw c.volume_name.ensures (name-short c.args.s.now c.args.start), omega (arith, within-long 12 c.args.out.now c.if-out-lt12.false _ _ c.put_body.ensures.0, c.if-out-lt12.false))

pub overflow_add-result : goal.overflow_add-result
overflow_add-result c = omega (arith, lent-room 12 c.args.out.now c.if-out-lt12.false _ _ _ c.put_body.ensures.0 c.in_ok-n.was)

pub returns : goal.returns
returns c =
    let h = rw c.volume_name.ensures at c.put_head.ensures in
    let name = name_at c.args.s.now c.args.start in
    let short = name-short c.args.s.now c.args.start in (
      bytes-within _ _ _ (volume-kept c.args.out.now _ c.if-out-lt12.false _ _ name c.in_ok-n.n c.put_body.ensures.0 short h)
          (omega (arith, lent-room 12 c.args.out.now c.if-out-lt12.false _ _ _ c.put_body.ensures.0 c.in_ok-n.was)),
      c.put_body.ensures.1,
      volume_promise _ _ _ _ _ _ _ _ _ _ c.put_body.ensures.2 (λ K st w. volume-wrote K _ name short st c.args.out.now _ c.if-out-lt12.false _ c.in_ok-n.n h (rw c.in_ok-n.was at w)),
    )
