use mathlib.Core.Path.{◌≡◌, ap, ◌∙◌}
use mathlib.Core.Bool.{true, false}
use Rattle.std.proofs.Common.{rules}
use lib.ListN.{length}
use Rattle.rules.specs.Lines.{bytes_at, opening}
use Rattle.entries.proofs.ByShape.{opens_block, shape_free, shape-plain, shape-opening, part-stem}
use Rattle.entries.proofs.shapes.content_shape.Goals as goal
use Rattle.entries.proofs.shapes.content_shape.Goals.{then-free-via-then-free, then-free-via-else-free+then-not-ends_with}

pub returns-then-free : goal.returns-then-free
returns-then-free c =
    let a = c.args in
    let k = bytes_at a.s.now a.rest in
    let n : (length k ≡ 0 → ⊥) = λ e. (let z : length c.part-c.result.now ≡ 0 → ⊥ = search rules in z (ap length c.part-c.ensures ∙ e)) in
    elim c.then-free.branch [
      | then-free-via-then-free w ↦ shape_free a.rest.at a.free k n w.if-free.true
      | then-free-via-else-free+then-not-ends_with w ↦
          let e : opens_block c.part-c.result.now ≡ false = search rules in
          shape-plain a.rest.at a.free k n w.if-free.false (rw c.part-c.ensures at e)
    ]

pub returns : goal.returns
returns c =
    let a = c.args in
    let q = c.part-c.ensures in
    let k = bytes_at a.s.now a.rest in
    let e : opens_block c.part-c.result.now ≡ true = search rules in
    let n : (length k ≡ 0 → ⊥) = λ e. (let z : length c.part-c.result.now ≡ 0 → ⊥ = search rules in z (ap length c.part-c.ensures ∙ e)) in
    rw q (ap (opening a.rest.at) (part-stem a.s.now a.rest) ∙ shape-opening a.rest.at a.free k n (rw q at c.if-c-eq2.false) c.if-free.false (rw q at e))
