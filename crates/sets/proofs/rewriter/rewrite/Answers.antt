use mathlib.Core.Path.{subst}
use lib.ListN.{length}
use Rattle.sets.specs.SetReading.{Judged}
use Rattle.sets.proofs.Rewritten.{rewrites-refused}
use Rattle.sets.proofs.rewriter.rewrite.Goals as goal

pub write_set-requires : goal.write_set-requires
write_set-requires c = subst (Judged c.args.s.now) c.in-Ok.is c.judge.ensures

pub returns-in-Err : goal.returns-in-Err
returns-in-Err c = rewrites-refused (length c.args.out.now) c.args.s.now c.in-Err.f c.clear.new.out (subst (Judged c.args.s.now) c.in-Err.is c.judge.ensures) c.clear.ensures
