use mathlib.Core.Path.{refl}
use borrow.Author.Tests.{eq-eqb, ne_eqb}
use Rattle.rules.specs.declared.Digits.{Digits}
use Rattle.rules.specs.Lines.{form_in}
use Rattle.entries.specs.Names.{known_in}
use mathlib.Core.Path.{subst}
use Rattle.account.specs.PlacedLines.{lent, OwnLine}
use Rattle.elements.proofs.placed.on_placed.Goals as goal

pub returns-then-here-eq-INNER_PLACED_TEXT : goal.returns-then-here-eq-INNER_PLACED_TEXT
returns-then-here-eq-INNER_PLACED_TEXT c = rw (eq-eqb c.args.here.part 1 c.if-here-eq-INNER_PLACED_TEXT.true) (c.on_placed_text.ensures, refl)

pub returns : goal.returns
returns c =
    let a = c.args in
    let l = c.on_placed_own.new in
    rw (ne_eqb a.here.part 1 c.if-here-eq-INNER_PLACED_TEXT.false) (subst (λ (d : Digits). OwnLine (known_in a.s.now a.symbols.now a.layers.now) a.class d a.here (lent a.tally.now a.serials.now a.marks.now a.inner.now) (lent l.tally l.serials l.marks l.inner) a.rec.now l.rec c.on_placed_own.result (form_in a.s.now a.form)) c.digits_of.ensures c.on_placed_own.ensures)
