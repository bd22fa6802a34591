use Rattle.std.proofs.lemmas.Result.{err_from_is_err_and}
use mathlib.Core.Path.{refl, ◌∙◌}
use native.Mathlib.Omega.{arith}
use lib.ListN.{length}
use Rattle.standing.specs.Standing.{desk}
use Rattle.account.proofs.SeenLines.{seen-forward}
use Rattle.steps.proofs.VolumeLoop.{back_desk, SameLengths, OwnLengths}
use Rattle.steps.proofs.VolumeLoopTurns.{none_following, skipped-further, begins, turn-empty, turn_ready, turn-own, same-on, own_on, turn-go, turn-block, turn_skip, turn-left, turn-stop, turn_last}
use Rattle.steps.proofs.volume.read_volume.Goals as goal

pub loop-pos-init : goal.loop-pos-init
loop-pos-init c = begins _ _ _ _ _ _ _ _ c.requires (record { used = refl; marks = refl; inner = refl; header = refl; scratch = refl }) _ (none_following c.args.following.now)

pub next_line-seen-requires : goal.next_line-seen-requires
next_line-seen-requires c = let i = c.loop-pos.invariant.through.low in omega (arith, i.line, i.at)

pub returns-then-seen-pos : goal.returns-then-seen-pos
returns-then-seen-pos c = turn-empty _ _ _ _ _ _ _ _ _ _ _ _ _ _ c.loop-pos.invariant _ c.next_line-seen.ensures c.if-seen-pos.true _ _ _ c.refused.ensures

pub overflow_add-place : goal.overflow_add-place
overflow_add-place c = let i = c.loop-pos.invariant.through.low in omega (arith, i.line, i.at)

pub step-answer-requires : goal.step-answer-requires
step-answer-requires c = turn_ready _ _ _ _ _ _ _ _ _ _ _ _ _ _ c.loop-pos.invariant _ c.next_line-seen.ensures c.if-seen-pos.false _ c.both.ensures c.requires

pub overflow_add-pos : goal.overflow_add-pos
overflow_add-pos c = let i = c.loop-pos.invariant.through.low in omega (arith, i.line, i.at)

pub returns-then-seen : goal.returns-then-seen
returns-then-seen c =
    let after = desk c.loop-pos.here c.step-answer.new.tally c.step-answer.new.symbols c.step-answer.new.layers c.step-answer.new.serials c.step-answer.new.used c.step-answer.new.used_all c.step-answer.new.marks c.step-answer.new.inner c.step-answer.new.header c.step-answer.new.scratch in
    turn_last _ _ _ _ _ _ _ _ _ _ _ _ _ _ c.loop-pos.invariant _ c.next_line-seen.ensures c.if-seen-pos.false _ c.both.ensures after c.step-answer.result c.step-answer.ensures _ c.within-did.ensures c.if-seen.true _ c.completes-complete.ensures _ c.at_last.ensures _ c.closed.ensures

pub put_done-requires : goal.put_done-requires
put_done-requires c = ((◌∙◌ {b = length c.loop-pos.header} c.step-answer.auto.header c.loop-pos.invariant.arrays.header), (◌∙◌ {b = length c.loop-pos.scratch} c.step-answer.auto.scratch c.loop-pos.invariant.arrays.scratch), turn-own _ _ _ _ _ _ _ _ _ _ _ _ _ _ c.loop-pos.invariant _ c.next_line-seen.ensures c.if-seen-pos.false _ c.both.ensures c.requires)

pub loop-pos-smaller-in-Go : goal.loop-pos-smaller-in-Go
loop-pos-smaller-in-Go c = let m = seen-forward _ _ _ _ c.next_line-seen.ensures c.if-seen.false in omega (arith, m.0, m.1)

pub loop-pos-preserved-in-Go : goal.loop-pos-preserved-in-Go
loop-pos-preserved-in-Go c =
    let after = desk c.loop-pos.here c.step-answer.new.tally c.step-answer.new.symbols c.step-answer.new.layers c.step-answer.new.serials c.step-answer.new.used c.step-answer.new.used_all c.step-answer.new.marks c.step-answer.new.inner c.step-answer.new.header c.step-answer.new.scratch in
    let l = c.loop-pos in
    let before = desk l.here l.tally l.symbols l.layers l.serials l.used l.used_all l.marks l.inner l.header l.scratch in
    let kept : SameLengths before after c.loop-pos.t c.loop-pos.t = record { tally = c.step-answer.auto.tally; symbols = c.step-answer.auto.symbols; layers = c.step-answer.auto.layers; serials = c.step-answer.auto.serials; used_all = c.step-answer.auto.used_all; table = refl } in
    let o = c.loop-pos.invariant.arrays in
    let own : OwnLengths after = record { used = ◌∙◌ {b = length c.loop-pos.used} c.step-answer.auto.used o.used; marks = ◌∙◌ {b = length c.loop-pos.marks} c.step-answer.auto.marks o.marks; inner = ◌∙◌ {b = length c.loop-pos.inner} c.step-answer.auto.inner o.inner; header = ◌∙◌ {b = length c.loop-pos.header} c.step-answer.auto.header o.header; scratch = ◌∙◌ {b = length c.loop-pos.scratch} c.step-answer.auto.scratch o.scratch } in
    turn-go _ _ _ _ _ _ _ _ _ _ _ _ _ _ c.loop-pos.invariant _ c.next_line-seen.ensures c.if-seen-pos.false _ c.both.ensures after c.step-answer.result c.step-answer.ensures _ c.within-did.ensures c.if-seen.false c.requires _ c.in-Go.is _ _ c.put_done.ensures.0 c.put_done.ensures.1 _ c.own_after-own.ensures (same-on _ _ _ _ _ _ _ _ c.loop-pos.invariant.lengths kept c.put_done.auto.t) (own_on _ _ _ own c.put_done.auto.scratch)

pub skip_block-requires : goal.skip_block-requires
skip_block-requires c =
    let after = desk c.loop-pos.here c.step-answer.new.tally c.step-answer.new.symbols c.step-answer.new.layers c.step-answer.new.serials c.step-answer.new.used c.step-answer.new.used_all c.step-answer.new.marks c.step-answer.new.inner c.step-answer.new.header c.step-answer.new.scratch in
    turn-block _ _ _ _ _ _ _ _ _ _ _ _ _ _ c.loop-pos.invariant _ c.next_line-seen.ensures c.if-seen-pos.false _ c.both.ensures after c.step-answer.result c.step-answer.ensures _ c.within-did.ensures c.if-seen.false

pub loop-pos-smaller : goal.loop-pos-smaller
loop-pos-smaller c = let m = seen-forward _ _ _ _ c.next_line-seen.ensures c.if-seen.false in let x = skipped-further _ _ _ _ _ _ c.skip_block.ensures c.in_ok-pos-in-Skip.was in omega (arith, m.0, m.1, x.1, x.2)

pub loop-pos-preserved : goal.loop-pos-preserved
loop-pos-preserved c =
    let after = desk c.loop-pos.here c.step-answer.new.tally c.step-answer.new.symbols c.step-answer.new.layers c.step-answer.new.serials c.step-answer.new.used c.step-answer.new.used_all c.step-answer.new.marks c.step-answer.new.inner c.step-answer.new.header c.step-answer.new.scratch in
    let l = c.loop-pos in
    let before = desk l.here l.tally l.symbols l.layers l.serials l.used l.used_all l.marks l.inner l.header l.scratch in
    let kept : SameLengths before after c.loop-pos.t c.loop-pos.t = record { tally = c.step-answer.auto.tally; symbols = c.step-answer.auto.symbols; layers = c.step-answer.auto.layers; serials = c.step-answer.auto.serials; used_all = c.step-answer.auto.used_all; table = refl } in
    let o = c.loop-pos.invariant.arrays in
    let own : OwnLengths after = record { used = ◌∙◌ {b = length c.loop-pos.used} c.step-answer.auto.used o.used; marks = ◌∙◌ {b = length c.loop-pos.marks} c.step-answer.auto.marks o.marks; inner = ◌∙◌ {b = length c.loop-pos.inner} c.step-answer.auto.inner o.inner; header = ◌∙◌ {b = length c.loop-pos.header} c.step-answer.auto.header o.header; scratch = ◌∙◌ {b = length c.loop-pos.scratch} c.step-answer.auto.scratch o.scratch } in
    turn_skip _ _ _ _ _ _ _ _ _ _ _ _ _ _ c.loop-pos.invariant _ c.next_line-seen.ensures c.if-seen-pos.false _ c.both.ensures after c.step-answer.result c.step-answer.ensures _ c.within-did.ensures c.if-seen.false _ c.in-Skip.is _ c.skip_block.ensures _ c.in_ok-pos-in-Skip.was (same-on _ _ after _ _ _ _ _ c.loop-pos.invariant.lengths kept refl) (own_on after _ _ own refl)

pub returns-in_err-pos-in-Skip : goal.returns-in_err-pos-in-Skip
returns-in_err-pos-in-Skip c =
    let after = desk c.loop-pos.here c.step-answer.new.tally c.step-answer.new.symbols c.step-answer.new.layers c.step-answer.new.serials c.step-answer.new.used c.step-answer.new.used_all c.step-answer.new.marks c.step-answer.new.inner c.step-answer.new.header c.step-answer.new.scratch in
    let p = err_from_is_err_and c.from_residual.result c.from_residual.ensures.1 in
    rw (p.1, p.2) (turn-left _ _ _ _ _ _ _ _ _ _ _ _ _ _ c.loop-pos.invariant _ c.next_line-seen.ensures c.if-seen-pos.false _ c.both.ensures after c.step-answer.result c.step-answer.ensures _ c.within-did.ensures c.if-seen.false _ c.in-Skip.is _ c.skip_block.ensures _ c.in_err-pos-in-Skip.was (back_desk after) c.loop-pos.t)

pub returns-in-Stop : goal.returns-in-Stop
returns-in-Stop c =
    let after = desk c.loop-pos.here c.step-answer.new.tally c.step-answer.new.symbols c.step-answer.new.layers c.step-answer.new.serials c.step-answer.new.used c.step-answer.new.used_all c.step-answer.new.marks c.step-answer.new.inner c.step-answer.new.header c.step-answer.new.scratch in
    turn-stop _ _ _ _ _ _ _ _ _ _ _ _ _ _ c.loop-pos.invariant _ c.next_line-seen.ensures c.if-seen-pos.false _ c.both.ensures after c.step-answer.result c.step-answer.ensures _ c.within-did.ensures c.if-seen.false _ c.in-Stop.is _ _ _ c.refused-in-Stop.ensures
