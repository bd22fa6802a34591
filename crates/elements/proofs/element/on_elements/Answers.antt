use mathlib.Core.Path.{sym, ◌∙◌}
use mathlib.Core.Bool.{false}
use mathlib.Core.List.{[], ◌∷◌}
use native.Mathlib.Omega.{arith}
use Rattle.rules.specs.Lines.{form_in}
use Rattle.rules.specs.RangeClass.{digits}
use Rattle.entries.specs.Names.{known_in}
use Rattle.elements.proofs.ElementActs.{element-long, element-room, known-most, opening_of, layer_fits, layer_below, elements_stay, elements-entry, elements-begin, elements-shut, elements-refuse}
use Rattle.elements.proofs.element.on_elements.Goals as goal

pub act-next-requires : goal.act-next-requires
act-next-requires c = (c.requires.0, c.requires.1, omega (arith, c.requires.2), element-long, element-room)

pub overflow_cast-layer : goal.overflow_cast-layer
overflow_cast-layer c =
    let h = rw c.no_digits.ensures at c.act-next.ensures in
    layer_fits _ _ (opening_of (known_in c.args.s.now c.args.symbols.now c.args.layers.now) (digits 0 0) (false ∷ []) (form_in c.args.s.now c.args.form) _ _ _ (known-most c.args.s.now c.args.symbols.now c.args.layers.now c.requires.2) h c.in-Begin.is)

pub open_layer-requires : goal.open_layer-requires
open_layer-requires c =
    let h = rw c.no_digits.ensures at c.act-next.ensures in
    (layer_below _ _ (opening_of (known_in c.args.s.now c.args.symbols.now c.args.layers.now) (digits 0 0) (false ∷ []) (form_in c.args.s.now c.args.form) _ _ _ (known-most c.args.s.now c.args.symbols.now c.args.layers.now c.requires.2) h c.in-Begin.is), c.requires.5, c.requires.6)

pub returns-in-Stay : goal.returns-in-Stay
returns-in-Stay c = elements_stay c.args.was c.args.tally.now c.args.used.now c.args.used_all.now _ (sym c.in-Stay.is ∙ (rw c.no_digits.ensures at c.act-next.ensures).eq)

pub returns-in-Entry : goal.returns-in-Entry
returns-in-Entry c = elements-entry c.args.was c.args.tally.now c.args.used.now c.args.used_all.now _ _ (sym c.in-Entry.is ∙ (rw c.no_digits.ensures at c.act-next.ensures).eq)

pub returns-in-Begin : goal.returns-in-Begin
returns-in-Begin c =
    let h = rw c.no_digits.ensures at c.act-next.ensures in
    elements-begin c.args.was c.args.tally.now c.args.used.now c.args.used_all.now _ _ _ _ _ (opening_of (known_in c.args.s.now c.args.symbols.now c.args.layers.now) (digits 0 0) (false ∷ []) (form_in c.args.s.now c.args.form) _ _ _ (known-most c.args.s.now c.args.symbols.now c.args.layers.now c.requires.2) h c.in-Begin.is) c.open_layer.ensures

pub returns-in-Shut : goal.returns-in-Shut
returns-in-Shut c = elements-shut c.args.was c.args.tally.now c.args.used.now c.args.used_all.now _ _ _ (sym c.in-Shut.is ∙ (rw c.no_digits.ensures at c.act-next.ensures).eq) c.close_element.ensures

pub returns-in-Refuse : goal.returns-in-Refuse
returns-in-Refuse c = elements-refuse c.args.was c.args.tally.now c.args.used.now c.args.used_all.now _ _ (sym c.in-Refuse.is ∙ (rw c.no_digits.ensures at c.act-next.ensures).eq)
