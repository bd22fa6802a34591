use Rattle.std.proofs.Common.{◌∙◌, rules, tests, arith}
use Rattle.std.proofs.lemmas.Iterator.{YieldsList-from_slice}
use Rattle.std.proofs.lemmas.Iterator.Search.{all_from_yields_List}
use Rattle.rules.specs.Values.{ascii, letters_and_digits, telephone, circuit_bytes, byte_in}
use Rattle.leaves.proofs.Scan.{all_is, all_any}
use Rattle.leaves.proofs.bytes.all_in.Goals as goal

pub returns-in-1 : goal.returns-in-1
returns-in-1 c =
    let s = c.args.s.now in
    rw c.in-1.is (all_from_yields_List (byte_in ascii) _ _ c.all.result c.all.ensures.ran (YieldsList-from_slice s c.iter.ensures.rest) (λ x b q k. search (rules, tests)) ∙ all_is (byte_in ascii) s)

pub returns-in-2 : goal.returns-in-2
returns-in-2 c =
    let s = c.args.s.now in
    rw c.in-2.is (all_from_yields_List (byte_in letters_and_digits) _ _ c.all-in-2.result c.all-in-2.ensures.ran (YieldsList-from_slice s c.iter-in-2.ensures.rest) (λ x b q k. search (rules, tests)) ∙ all_is (byte_in letters_and_digits) s)

pub returns-in-3 : goal.returns-in-3
returns-in-3 c =
    let s = c.args.s.now in
    rw c.in-3.is (all_from_yields_List (byte_in telephone) _ _ c.all-in-3.result c.all-in-3.ensures.ran (YieldsList-from_slice s c.iter-in-3.ensures.rest) (λ x b q k. search (rules, tests)) ∙ all_is (byte_in telephone) s)

pub returns-in-4 : goal.returns-in-4
returns-in-4 c =
    let s = c.args.s.now in
    rw c.in-4.is (all_from_yields_List (byte_in circuit_bytes) _ _ c.all-in-4.result c.all-in-4.ensures.ran (YieldsList-from_slice s c.iter-in-4.ensures.rest) (λ x b q k. search (rules, tests)) ∙ all_is (byte_in circuit_bytes) s)

pub returns-in_default : goal.returns-in_default
returns-in_default c = all_any c.args.set c.args.s.now (λ e. omega arith) (λ e. omega arith) (λ e. omega arith) (λ e. omega arith)
