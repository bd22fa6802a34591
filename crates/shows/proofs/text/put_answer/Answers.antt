use mathlib.Core.List.{List}
use mathlib.Core.Path.{subst}
use lib.IntN.{ℤ}
use Rattle.rules.specs.Answers.{print_line}
use Rattle.shows.specs.Laid.{Lays}
use Rattle.shows.proofs.Laying.{accepted-line, refused-line}
use borrow.Author.Rules.{rules}
use Rattle.shows.proofs.text.put_answer.Goals as goal

pub returns-in-Ok : goal.returns-in-Ok
returns-in-Ok c = subst (λ (zs : List ℤ). Lays (print_line zs) c.args.out.now c.put_line.new.out c.put_line.result) (accepted-line c.args.a c.in-Ok.count (search rules) c.in-Ok.is) c.put_line.ensures

pub returns-in-Err : goal.returns-in-Err
returns-in-Err c = subst (λ (zs : List ℤ). Lays (print_line zs) c.args.out.now c.put_line-in-Err.new.out c.put_line-in-Err.result) (refused-line c.args.a c.in-Err.f (search rules) (search rules) (search rules) c.in-Err.is) c.put_line-in-Err.ensures
