use mathlib.Core.Path.{◌≡◌, sym, ◌∙◌, ap}
use mathlib.Core.Bool.{true, false, cond}
use borrow.Author.Rules.{rules}
use native.Mathlib.Omega.{arith}
use Rattle.rules.specs.Lines.{single_byte, lead_byte, trail_byte}
use Rattle.lines.proofs.LineLook as laws
use Rattle.lines.proofs.runs.char_at.Goals as goal

pub returns-in_err-b : goal.returns-in_err-b
returns-in_err-b c = rw c.from_residual.ensures (laws.char-end c.args.t.now c.args.i c.in_err-b.ensures.lookup.3)

pub returns-then-single_byte : goal.returns-then-single_byte
returns-then-single_byte c =
    let b = c.in_ok-b.ensures.lookup in
    (omega arith, sym (laws.char-alone c.args.t.now c.args.i b.3.0 (sym (ap single_byte (b.4 (omega arith) 0)) ∙ sym c.single_byte.ensures ∙ c.if-single_byte.true)))

pub returns-then-not-lead_byte : goal.returns-then-not-lead_byte
returns-then-not-lead_byte c =
    let b = c.in_ok-b.ensures.lookup in
    let l : c.lead_byte.result ≡ false = search rules in
    laws.char-none c.args.t.now c.args.i b.3.0 (sym (ap single_byte (b.4 (omega arith) 0)) ∙ sym c.single_byte.ensures ∙ c.if-single_byte.false) (sym (ap lead_byte (b.4 (omega arith) 0)) ∙ sym c.lead_byte.ensures ∙ l)

pub returns-in_err-next : goal.returns-in_err-next
returns-in_err-next c =
    let b = c.in_ok-b.ensures.lookup in
    rw c.from_residual-in_err-next.ensures (laws.char-last c.args.t.now c.args.i b.3.0 (sym (ap single_byte (b.4 (omega arith) 0)) ∙ sym c.single_byte.ensures ∙ c.if-single_byte.false) c.in_err-next.ensures.lookup.3)

pub returns-then-not-trail_byte : goal.returns-then-not-trail_byte
returns-then-not-trail_byte c =
    let b = c.in_ok-b.ensures.lookup in
    let n = c.in_ok-next.ensures.lookup in
    let l : c.lead_byte.result ≡ true = search rules in
    let t : c.trail_byte.result ≡ false = search rules in
    laws.char_pair c.args.t.now c.args.i b.3.0 (sym (ap single_byte (b.4 (omega arith) 0)) ∙ sym c.single_byte.ensures ∙ c.if-single_byte.false) (sym (ap lead_byte (b.4 (omega arith) 0)) ∙ sym c.lead_byte.ensures ∙ l) n.3.0 ∙ ap (λ b. cond b 2 0) (sym (ap trail_byte (n.4 (omega arith) 0)) ∙ sym c.trail_byte.ensures ∙ t)

pub returns : goal.returns
returns c =
    let b = c.in_ok-b.ensures.lookup in
    let n = c.in_ok-next.ensures.lookup in
    let l : c.lead_byte.result ≡ true = search rules in
    let t : c.trail_byte.result ≡ true = search rules in
    (omega arith, sym (laws.char_pair c.args.t.now c.args.i b.3.0 (sym (ap single_byte (b.4 (omega arith) 0)) ∙ sym c.single_byte.ensures ∙ c.if-single_byte.false) (sym (ap lead_byte (b.4 (omega arith) 0)) ∙ sym c.lead_byte.ensures ∙ l) n.3.0 ∙ ap (λ b. cond b 2 0) (sym (ap trail_byte (n.4 (omega arith) 0)) ∙ sym c.trail_byte.ensures ∙ t)))
