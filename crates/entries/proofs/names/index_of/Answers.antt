use Prim.Native.Nat.{ℕ}
use mathlib.Core.List.{List}
use mathlib.Core.Path.{ap, sym, ◌∙◌}
use Rattle.rules.specs.Base.{same}
use Rattle.entries.proofs.NameScan.{name_hit, name_miss, name-end}
use Rattle.entries.proofs.names.index_of.Goals as goal

pub returns-then-same : goal.returns-then-same
returns-then-same c =
    let a = c.args in
    sym (c.loop-i.invariant ∙ name_hit a.s.now a.key.now a.names.now c.loop-i.i c.loop-i-test.true (sym (ap (λ (l : List ℕ). same a.key.now l) c.name_at.ensures) ∙ sym c.same.ensures ∙ c.if-same.true))

pub loop-i-preserved : goal.loop-i-preserved
loop-i-preserved c =
    let a = c.args in
    c.loop-i.invariant ∙ name_miss a.s.now a.key.now a.names.now c.loop-i.i c.loop-i-test.true (sym (ap (λ (l : List ℕ). same a.key.now l) c.name_at.ensures) ∙ sym c.same.ensures ∙ c.if-same.false)

pub returns : goal.returns
returns c = sym (c.loop-i.invariant ∙ name-end c.args.s.now c.args.key.now c.args.names.now c.loop-i.i c.loop-i-test.false)
