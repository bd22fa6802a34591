use mathlib.Core.Path.{ap, ◌∙◌}
use mathlib.Core.List.{List}
use Rattle.std.proofs.Common.{rules, tests}
use Rattle.std.specs.Prelude.{Option}
use Rattle.std.specs.List.{list_all, zip}
use Rattle.std.proofs.lemmas.Iterator.{YieldsList-from_slice, YieldsList-from_zip}
use Rattle.std.proofs.lemmas.Iterator.Search.{all_from_yields_List}
use Rattle.rules.specs.declared.Digits.{Digits}
use Rattle.tables.specs.Tables.{table_of}
use Rattle.entries.proofs.TableActs.{is_there, all-there}
use Rattle.entries.proofs.acts.complete.Goals as goal

pub returns : goal.returns
returns c =
    let a = c.args in
    all_from_yields_List (is_there a.d) c.all.new.self _ _ c.all.ensures.ran (YieldsList-from_zip (YieldsList-from_slice c.required.result.now cc) (YieldsList-from_slice a.full.now cc)) (λ x b q k. search (rules, tests))
    ∙ ap (λ (l : List (Option Digits)). list_all (is_there a.d) (zip l a.full.now)) c.required.ensures
    ∙ all-there a.d (table_of a.table) a.full.now
