use mathlib.Core.Path.{sym, ◌∙◌, ap}
use Prim.Native.Nat.{◌+◌, ◌*◌}
use Rattle.linebench.specs.Packed.{packed}
use borrow.Author.Rules.{rules}
use Rattle.linebench.proofs.linebench_look.Goals as goal

pub look-requires : goal.look-requires
look-requires c = search rules

pub enum_told-1 : goal.enum_told-1
enum_told-1 c = search rules

pub enum_known-f : goal.enum_known-f
enum_known-f c = search rules

pub overflow_cast-result : goal.overflow_cast-result
overflow_cast-result c = search rules

pub overflow_mul-result : goal.overflow_mul-result
overflow_mul-result c = search rules

pub kind_of-requires : goal.kind_of-requires
kind_of-requires c = search rules

pub overflow_cast-result-in-Some : goal.overflow_cast-result-in-Some
overflow_cast-result-in-Some c = search rules

pub overflow_add-result : goal.overflow_add-result
overflow_add-result c = search rules

pub returns-in-None : goal.returns-in-None
returns-in-None c = ap packed (sym c.in-None.is ∙ c.look.ensures)

pub returns-in-Some : goal.returns-in-Some
returns-in-Some c = ap (λ k. c.in-Some.f.next * 4294967296 + k) c.kind_of.ensures ∙ ap packed (sym c.in-Some.is ∙ c.look.ensures)
