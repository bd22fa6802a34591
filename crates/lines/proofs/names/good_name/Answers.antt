use mathlib.Core.Path.{◌≡◌, ap, sym, ◌∙◌}
use native.Mathlib.Omega.{arith}
use lib.ListN.{drop}
use Rattle.leaves.proofs.Scan.{rest_all}
use Rattle.lines.specs.VolumeNames.{letters, all_spaces}
use Rattle.lines.proofs.VolumeNames as laws
use Rattle.lines.proofs.names.good_name.Goals as goal

pub slice_bounds-only_spaces-count : goal.slice_bounds-only_spaces-count
slice_bounds-only_spaces-count c = omega (arith, laws.letters-le c.args.n.now, laws.letters-prefix c.args.n.now, c.letters_in-k.ensures)

pub slice_bounds-only_spaces-start : goal.slice_bounds-only_spaces-start
slice_bounds-only_spaces-start c = omega (arith, laws.letters-le c.args.n.now, laws.letters-prefix c.args.n.now, c.letters_in-k.ensures)

pub returns-then-k-ne0 : goal.returns-then-k-ne0
returns-then-k-ne0 c =
    let n = c.args.n.now in
    let k : c.letters_in-k.result ≡ letters n = c.letters_in-k.ensures ∙ laws.letters-prefix n in
    c.only_spaces.ensures ∙ laws.spaces-all _ ∙ ap all_spaces (rest_all c.letters_in-k.result n) ∙ ap (λ k. all_spaces (drop k n)) k ∙ sym (laws.name-some n c.requires (λ e. c.if-k-ne0.true (k ∙ e)))

pub returns-else-k-ne0 : goal.returns-else-k-ne0
returns-else-k-ne0 c =
    let k = c.letters_in-k.ensures ∙ laws.letters-prefix c.args.n.now in
    rw c.if-k-ne0.false (sym (laws.name-none c.args.n.now c.requires (sym k ∙ c.if-k-ne0.false)))
