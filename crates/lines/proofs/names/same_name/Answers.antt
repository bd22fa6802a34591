use mathlib.Core.Path.{ap, ◌∙◌}
use Rattle.rules.specs.Base.{same}
use Rattle.lines.specs.VolumeNames.{raw_name}
use Rattle.lines.proofs.names.same_name.Goals as goal

pub returns : goal.returns
returns c = c.same.ensures ∙ ap (λ x. same x c.name_at-2.result.now) c.name_at.ensures ∙ ap (same (raw_name c.args.s.now c.args.p)) c.name_at-2.ensures
