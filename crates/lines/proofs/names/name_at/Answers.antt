use Rattle.lines.proofs.VolumeNames as laws
use Rattle.lines.proofs.names.name_at.Goals as goal

pub returns : goal.returns
returns c = laws.raw-name c.args.s.now c.args.place
