use Prim.Native.Nat.{◌+◌, ◌-◌, ◌<◌}
use mathlib.Core.Path.{◌≡◌}
use native.Mathlib.Omega.{arith}
use Rattle.entries.specs.Names.{known_of}
use Rattle.entries.proofs.EachValue.{going_start, piece-within, going-few, going-many, going-last, going_more}
use Rattle.entries.proofs.values.each.Goals as goal

pub loop-to-init : goal.loop-to-init
loop-to-init c =
    let a = c.args in
    let e : a.p + a.more - a.p ≡ a.more = omega arith in
    rw e (going_start (known_of a.known.now) a.parts a.more a.c.now a.p a.rec.now c.requires)

pub overflow_add-e : goal.overflow_add-e
overflow_add-e c = omega (arith, piece-within _ _ _ _ _ _ _ _ _ _ _ _ c.loop-to.invariant _ c.piece-a.ensures)

pub returns-then-c-e : goal.returns-then-c-e
returns-then-c-e c =
    let h : c.loop-to.to < c.args.p + c.args.more = omega arith in
    going-few _ _ _ _ _ _ _ _ _ _ _ _ c.loop-to.invariant _ c.piece-a.ensures _ _ c.if-c-e.true (λ e. omega (arith, e)) c.least.ensures

pub loop-to-preserved : goal.loop-to-preserved
loop-to-preserved c =
    let l = c.loop-to in
    let n = c.args.p + c.args.more in
    let h : l.to < n = omega arith in
    let e : n - (l.to + 1) ≡ n - l.to - 1 = omega arith in
    rw e (going_more _ _ _ _ _ _ _ _ _ _ _ _ l.invariant _ c.piece-a.ensures _ _ _ c.if-c-e.false (λ e. omega (arith, e)) c.put_value.ensures.0 c.put_value.ensures.1 c.least-worst.ensures)

pub overflow_add-at-2 : goal.overflow_add-at-2
overflow_add-at-2 c = omega (arith, piece-within _ _ _ _ _ _ _ _ _ _ _ _ c.loop-to.invariant _ c.piece-a-2.ensures)

pub returns-then-at-a : goal.returns-then-at-a
returns-then-at-a c =
    let e : c.args.p + c.args.more - c.loop-to.to ≡ 0 = omega arith in
    going-many _ _ _ _ _ _ _ _ _ _ _ _ c.loop-to.invariant _ c.piece-a-2.ensures _ _ c.if-at-a.true e c.least-then-at-a.ensures

pub returns : goal.returns
returns c =
    let e : c.loop-to.to ≡ c.args.p + c.args.more = omega arith in
    let z : c.args.p + c.args.more - c.loop-to.to ≡ 0 = omega arith in
    going-last _ _ _ _ _ _ _ _ _ _ _ _ c.loop-to.invariant _ c.piece-a-2.ensures _ _ _ c.if-at-a.false z c.put_value-2.ensures.0 (rw e c.put_value-2.ensures.1) c.least-2.ensures
