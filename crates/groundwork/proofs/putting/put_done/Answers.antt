use Prim.Native.Nat.{◌+◌, ◌-◌}
use native.Mathlib.Omega.{arith}
use mathlib.Core.Path.{◌≡◌, ap, ◌∙◌}
use lib.ListN.{length, take, drop, replicate, length-take, length-drop}
use lib.IntN.{pos}
use borrow.Author.Rules.{rules}
use Rattle.groundwork.proofs.PutRecords.{told-inside, done_record, done-wire}
use Rattle.groundwork.proofs.putting.put_done.Goals as goal

pub returns-in-Record : goal.returns-in-Record
returns-in-Record c =
    let from = c.in-Record.from in
    let h = told-inside c.args.was c.args.is _ _ c.completed.ensures c.in-Record.is in
    let w : length (take (from + 32 - from) (drop from c.args.scratch.now)) ≡ 32 = omega (arith, h, c.requires, length-take (from + 32 - from) (drop from c.args.scratch.now), length-drop from c.args.scratch.now) in
    let zeros = c.fill.ensures.after (λ y e. search rules) ∙ ap (λ n. replicate n (pos 0)) w in
    done_record c.args.first c.args.was c.args.is c.args.own c.args.header.now c.args.scratch.now c.args.t.now _ c.completed.ensures _ c.in-Record.is _ c.number_for.ensures _ _ zeros c.put_record.ensures

pub returns-in-Wire : goal.returns-in-Wire
returns-in-Wire c =
    let zeros : c.fill-in-Wire.new.self ≡ replicate 32 (pos 0) = search rules in
    let zeros-2 : c.fill-in-Wire-2.new.self ≡ replicate 32 (pos 0) = search rules in
    done-wire c.args.first c.args.was c.args.is c.args.own c.args.header.now c.args.scratch.now c.args.t.now _ c.completed.ensures c.in-Wire.is _ c.number_for-in-Wire.ensures _ c.put_wire.ensures _ _ zeros zeros-2
