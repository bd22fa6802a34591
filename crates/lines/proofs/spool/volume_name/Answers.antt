use mathlib.Core.Path.{sym}
use Rattle.lines.proofs.VolumeNames as laws
use Rattle.lines.proofs.spool.volume_name.Goals as goal
use Rattle.lines.proofs.spool.volume_name.Goals.{then-at-lt-HEAD_BYTES-via-then-at-lt-HEAD_BYTES, then-at-lt-HEAD_BYTES-via-else-at-lt-HEAD_BYTES+then-s-at}

pub returns-then-at-lt-HEAD_BYTES : goal.returns-then-at-lt-HEAD_BYTES
returns-then-at-lt-HEAD_BYTES c =
    elim c.then-at-lt-HEAD_BYTES.branch [
      | then-at-lt-HEAD_BYTES-via-then-at-lt-HEAD_BYTES w ↦ sym (laws.name-low c.args.s.now c.args.place w.if-at-lt-HEAD_BYTES.true)
      | then-at-lt-HEAD_BYTES-via-else-at-lt-HEAD_BYTES+then-s-at w ↦ sym (laws.name-high c.args.s.now c.args.place w.if-s-at.true)
    ]

pub slice_bounds-result-end-2 : goal.slice_bounds-result-end-2
slice_bounds-result-end-2 c = laws.name-whole c.args.s.now c.args.place c.find.result c.find.ensures

pub returns : goal.returns
returns c = laws.name-part c.args.s.now c.args.place c.find.result c.find.ensures c.if-at-lt-HEAD_BYTES.false c.if-s-at.false
