-- A range class, where there is one.
use Rattle.std.specs.Prelude.{ℕ, min, Option, Some, None}
use Rattle.rules.specs.declared.Class.{Class}

abbrev pub class_in : Option Class → Option Class
class_in None = None
class_in (Some c) = Some c

abbrev pub less_of : ℕ → ℕ → ℕ
less_of a b = min a b
