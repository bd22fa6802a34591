use mathlib.Core.Path.{sym, ◌∙◌}
use lib.Dec.{eqb}
use borrow.Author.Tests.{ne_eqb}
use Rattle.std.proofs.Common.{rules}
use Rattle.std.proofs.lemmas.Iterator.{YieldsList-from_slice, YieldsList-from_zip}
use Rattle.std.proofs.lemmas.Iterator.Search.{all_from_yields_List}
use Rattle.rules.specs.Values.{capital}
use Rattle.account.proofs.FileParts.{name-long}
use Rattle.drawing.proofs.FileCloses.{same_zip}
use Rattle.drawing.proofs.file_format.names.Goals as goal

pub returns-then-c-name : goal.returns-then-c-name
returns-then-c-name c =
    all_from_yields_List (λ p. eqb (capital p.0) p.1) c.all.new.self _ _ c.all.ensures.ran (YieldsList-from_zip (YieldsList-from_slice c.args.c.now (cc)) (YieldsList-from_slice c.args.name.now (cc))) (λ x b q k. search rules)
    ∙ sym (same_zip c.args.c.now c.args.name.now c.if-c-name.true)

pub returns-else-c-name : goal.returns-else-c-name
returns-else-c-name c = ne_eqb _ _ c.if-c-name.false ∙ sym (name-long c.args.c.now c.args.name.now c.if-c-name.false)
