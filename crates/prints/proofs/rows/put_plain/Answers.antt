use Rattle.prints.specs.Texts.{line_end}
use Rattle.prints.proofs.Going.{whole, both, printed}
use Rattle.prints.proofs.rows.put_plain.Goals as goal

pub returns : goal.returns
returns c = printed _ _ _ _ (both c.args.line.now line_end c.args.out.now c.put.new.out _ (whole _ _ _ _ c.in_ok-n.ensures) _ _ (whole _ _ _ _ c.in_ok-put.ensures))
