use Rattle.std.specs.Prelude.{Result, ℕ}
use Rattle.std.proofs.Common.{◌≡◌, List, ◌++◌, OnOk, subst, ap₂, ◌∙◌, ℤ}
use Rattle.std.specs.Io.KnownBytes.{Appends}
use Rattle.rules.specs.Answers.{answer_count, print_line, first_line, printed}
use Rattle.promises.specs.Printing.{record_lines}
use Rattle.promises.proofs.Printed.{program-prints}
use Rattle.accread.proofs.answer.Goals as goal
use Rattle.rules.specs.declared.Refusal.{Refusal}

pub returns : goal.returns
returns g c =
    let e : print_line (first_line c.read-answer.result) ++ record_lines (answer_count c.read-answer.result) c.read-answer.new.t ≡ printed c.args.spool.now =
    ap₂ (λ (a : Result ℕ Refusal) (t : List ℤ). print_line (first_line a) ++ record_lines (answer_count a) t) c.read-answer.ensures.0 c.read-answer.ensures.1
    ∙ program-prints c.args.spool.now in
    subst (λ s. OnOk c.listing.result (Appends (g.W.Write.contents c.args.to.now) (g.W.Write.contents c.listing.new.out) s)) e c.listing.ensures
