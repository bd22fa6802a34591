use mathlib.Core.Path.{sym, ap}
use Rattle.rules.specs.Answers.{packed}
use borrow.Author.Rules.{rules}
use Rattle.host.proofs.pack.Goals as goal

pub enum_told-1 : goal.enum_told-1
enum_told-1 c = search rules

pub enum_known-a : goal.enum_known-a
enum_known-a c = search rules

pub overflow_cast-result : goal.overflow_cast-result
overflow_cast-result c = search rules

pub overflow_cast-result-in-Err : goal.overflow_cast-result-in-Err
overflow_cast-result-in-Err c = search rules

pub overflow_mul-result : goal.overflow_mul-result
overflow_mul-result c = search rules

pub overflow_add-result : goal.overflow_add-result
overflow_add-result c = search rules

pub overflow_cast-result-in-Err-2 : goal.overflow_cast-result-in-Err-2
overflow_cast-result-in-Err-2 c = search rules

pub overflow_mul-result-in-Err : goal.overflow_mul-result-in-Err
overflow_mul-result-in-Err c = search rules

pub overflow_add-result-in-Err : goal.overflow_add-result-in-Err
overflow_add-result-in-Err c = search rules

pub returns-in-Ok : goal.returns-in-Ok
unfolding packed
returns-in-Ok c = ap packed (sym c.in-Ok.is)

pub returns-in-Err : goal.returns-in-Err
unfolding packed
returns-in-Err c = ap packed (sym c.in-Err.is)
