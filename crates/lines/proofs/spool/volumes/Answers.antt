use mathlib.Core.Path.{◌≡◌, sym, ◌∙◌}
use lib.ListN.{length}
use borrow.Author.Rules.{rules}
use native.Mathlib.Omega.{arith}
use Rattle.lines.proofs.VolumePlaces as laws
use Rattle.lines.proofs.spool.volumes.Goals as goal
use Rattle.lines.proofs.spool.volumes.Goals.{then-is_empty-via-then-is_empty, then-is_empty-via-else-is_empty+then-s-gt-MOST_BYTES}

pub returns-then-is_empty : goal.returns-then-is_empty
returns-then-is_empty c =
    elim c.then-is_empty.branch [
      | then-is_empty-via-then-is_empty w ↦ c.no_layout.ensures ∙ sym (laws.volumes-empty c.args.s.now (search rules))
      | then-is_empty-via-else-is_empty+then-s-gt-MOST_BYTES w ↦ c.no_layout.ensures ∙ sym (laws.volumes-long c.args.s.now w.if-s-gt-MOST_BYTES.true)
    ]

pub shared_ref_as_front-names_differ : goal.shared_ref_as_front-names_differ
shared_ref_as_front-names_differ c = let t = laws.layout-told c.args.s.now c.walk-l.result c.walk-l.ensures in omega (arith, t.0, t.1)

pub names_differ-requires : goal.names_differ-requires
names_differ-requires c = (laws.layout-told c.args.s.now c.walk-l.result c.walk-l.ensures).2

pub returns-then-names_differ : goal.returns-then-names_differ
returns-then-names_differ c = sym (laws.volumes-differ c.args.s.now c.walk-l.result c.walk-l.ensures (let n : length c.args.s.now ≡ 0 → ⊥ = search rules in omega (arith, n)) c.if-s-gt-MOST_BYTES.false (sym c.names_differ.ensures ∙ c.if-names_differ.true))

pub returns : goal.returns
returns c = c.no_layout-2.ensures ∙ sym (laws.volumes-again c.args.s.now c.walk-l.result c.walk-l.ensures (let n : length c.args.s.now ≡ 0 → ⊥ = search rules in omega (arith, n)) c.if-s-gt-MOST_BYTES.false (sym c.names_differ.ensures ∙ c.if-names_differ.false))
