use Prim.Native.Nat.{◌/◌}
use mathlib.Core.Path.{sym, ◌∙◌, subst}
use lib.ListN.{length}
use borrow.Author.Rules.{rules}
use Rattle.sets.specs.SetReading.{SetOut}
use Rattle.sets.proofs.SetRunAnswer.{all-zeros, reads_none, reads-refused, reads-accepted}
use Rattle.sets.proofs.reader.read.Goals as goal

pub read_set-requires : goal.read_set-requires
read_set-requires c = (all-zeros c.clear.new.t (length c.args.t.now) c.clear.ensures, search rules)

pub returns-in_default : goal.returns-in_default
returns-in_default c = reads_none c.args.class c.args.wire (length c.args.t.now) c.args.s.now c.clear.new.t (sym c.in_default.is ∙ c.class_of.ensures) c.clear.ensures

pub returns-in-Ok : goal.returns-in-Ok
returns-in-Ok c = reads-accepted c.args.class c.args.wire (length c.args.t.now) c.args.s.now c.in-Some.c (sym c.in-Some.is ∙ c.class_of.ensures) c.in-Ok.n c.clear.new.t c.read_set.new.t c.clear.auto.t (subst (SetOut c.in-Some.c c.args.s.now (length c.args.t.now / 32) c.clear.new.t c.read_set.new.t) c.in-Ok.is c.read_set.ensures)

pub returns-in-Err : goal.returns-in-Err
returns-in-Err c = reads-refused c.args.class c.args.wire (length c.args.t.now) c.args.s.now c.in-Some.c (sym c.in-Some.is ∙ c.class_of.ensures) c.in-Err.f c.clear.new.t c.read_set.new.t c.clear-in-Err.new.t c.clear.auto.t c.read_set.auto.t (subst (SetOut c.in-Some.c c.args.s.now (length c.args.t.now / 32) c.clear.new.t c.read_set.new.t) c.in-Err.is c.read_set.ensures) c.clear-in-Err.ensures
