use Prim.Native.Nat.{◌*◌}
use mathlib.Core.Path.{sym, ◌∙◌}
use lib.IntN.{pos}
use lib.ListN.{replicate}
use Rattle.rules.specs.RecordTable.{width}
use Rattle.sets.proofs.SetRunAnswer.{answers-none, counted-answers}
use Rattle.sets.proofs.reader.check.Goals as goal

pub returns-in_default : goal.returns-in_default
returns-in_default c = answers-none c.args.class c.args.wire (c.args.records * width) c.args.s.now (sym c.in_default.is ∙ c.class_of.ensures)

pub returns : goal.returns
returns c = counted-answers c.args.class c.args.wire c.args.records c.args.s.now c.in-Some.c (sym c.in-Some.is ∙ c.class_of.ensures) c.read_set.result (replicate 1 (pos 0)) c.read_set.new.t c.read_set.ensures
