use mathlib.Core.List.{[], ◌∷◌, ◌++◌}
use Rattle.rules.specs.Lines.{bytes_at}
use Rattle.entries.specs.Shapes.{rest_in}
use Rattle.prints.specs.Texts.{rest_text, line_end}
use Rattle.prints.proofs.Going.{is_full, whole, first_full, second_full, both}
use Rattle.prints.proofs.Whole.{layer_line}
use Rattle.prints.proofs.rows.put_named.Goals as goal

pub returns-in_err-n-3 : goal.returns-in_err-n-3
returns-in_err-n-3 c =
    let id = bytes_at c.args.s.now c.args.key in
    let name = rest_text (rest_in c.args.s.now c.args.rest) in
    layer_line id (rest_in c.args.s.now c.args.rest) _ _ _
    (rw (is_full _ c.from_residual-in_err-n-3.ensures.0) (first_full ((id ++ 61 ∷ []) ++ name) line_end _ _ (second_full (id ++ 61 ∷ []) name _ _ _
    (both id (61 ∷ []) _ _ _ (whole _ _ _ _ (rw c.part.ensures at c.in_ok-n.ensures)) _ _ (whole _ _ _ _ c.in_ok-n-2.ensures)) _ (whole _ _ _ _ (rw c.name_in.ensures at c.in_err-n-3.ensures)))))

pub returns-in_err-put : goal.returns-in_err-put
returns-in_err-put c =
    let id = bytes_at c.args.s.now c.args.key in
    let name = rest_text (rest_in c.args.s.now c.args.rest) in
    layer_line id (rest_in c.args.s.now c.args.rest) _ _ _
    (rw (is_full _ c.from_residual-in_err-put.ensures.0) (second_full ((id ++ 61 ∷ []) ++ name) line_end _ _ _ (both (id ++ 61 ∷ []) name _ _ _
    (both id (61 ∷ []) _ _ _ (whole _ _ _ _ (rw c.part.ensures at c.in_ok-n.ensures)) _ _ (whole _ _ _ _ c.in_ok-n-2.ensures)) _ _ (whole _ _ _ _ (rw c.name_in.ensures at c.in_ok-n-3.ensures))) _ (whole _ _ _ _ c.in_err-put.ensures)))

pub returns : goal.returns
returns c =
    let id = bytes_at c.args.s.now c.args.key in
    let name = rest_text (rest_in c.args.s.now c.args.rest) in
    layer_line id (rest_in c.args.s.now c.args.rest) _ _ _
    (both ((id ++ 61 ∷ []) ++ name) line_end _ _ _ (both (id ++ 61 ∷ []) name _ _ _
    (both id (61 ∷ []) _ _ _ (whole _ _ _ _ (rw c.part.ensures at c.in_ok-n.ensures)) _ _ (whole _ _ _ _ c.in_ok-n-2.ensures)) _ _ (whole _ _ _ _ (rw c.name_in.ensures at c.in_ok-n-3.ensures))) _ _ (whole _ _ _ _ c.in_ok-put.ensures))
