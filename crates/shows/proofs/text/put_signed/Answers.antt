use native.Mathlib.Omega.{arith}
use native.Mathlib.Numerals.{add-one}
use mir.Syntax.{w64}
use mir.Val.{SFits}
use mir.Facts.{to_z-of_z}
use Rattle.leaves.proofs.Ints.{below, more-fits, turned-fits, turned-back, not-below, not-below-back}
use Rattle.shows.proofs.Laying.{shown-below, shown-not-below}
use Rattle.shows.proofs.text.put_signed.Goals as goal

pub overflow_add-z : goal.overflow_add-z
overflow_add-z c =
    let z = c.args.z in
    let f : SFits w64 z = c.ranges.z in
    more-fits z f (below z f (rw (to_z-of_z f) at c.if-z-lt0.true))

pub overflow_sub-z : goal.overflow_sub-z
overflow_sub-z c =
    let z = c.args.z in
    let f : SFits w64 z = c.ranges.z in
    turned-fits z f (below z f (rw (to_z-of_z f) at c.if-z-lt0.true))

pub overflow_cast-z : goal.overflow_cast-z
overflow_cast-z c =
    let z = c.args.z in
    let f : SFits w64 z = c.ranges.z in
    let b = below z f (rw (to_z-of_z f) at c.if-z-lt0.true) in
    rw (turned-back z f b) (tt, record { fits = omega (arith, b.small) })

pub overflow_add-z-then-z-lt0 : goal.overflow_add-z-then-z-lt0
overflow_add-z-then-z-lt0 c =
    let z = c.args.z in
    let f : SFits w64 z = c.ranges.z in
    let b = below z f (rw (to_z-of_z f) at c.if-z-lt0.true) in
    rw (turned-back z f b) (record { fits = omega (arith, b.small) })

pub returns-then-z-lt0 : goal.returns-then-z-lt0
returns-then-z-lt0 c =
    let z = c.args.z in
    let f : SFits w64 z = c.ranges.z in
    let b = below z f (rw (to_z-of_z f) at c.if-z-lt0.true) in
    rw (shown-below z (rw (to_z-of_z f) at c.if-z-lt0.true)) (rw (turned-back z f b, add-one) at c.put_minus.ensures)

pub overflow_cast-z-2 : goal.overflow_cast-z-2
overflow_cast-z-2 c =
    let z = c.args.z in
    let f : SFits w64 z = c.ranges.z in
    let b = not-below z f (rw (to_z-of_z f) at c.if-z-lt0.false) in
    rw (not-below-back z f b) (tt, record { fits = omega (arith, b.small) })

pub returns : goal.returns
returns c =
    let z = c.args.z in
    let f : SFits w64 z = c.ranges.z in
    let b = not-below z f (rw (to_z-of_z f) at c.if-z-lt0.false) in
    rw (shown-not-below z (rw (to_z-of_z f) at c.if-z-lt0.false)) (rw (not-below-back z f b) at c.put_count.ensures)
