use mathlib.Core.List.{◌++◌}
use Rattle.entries.specs.Shapes.{rest_in, shape_in}
use Rattle.tables.specs.Tables.{table_of}
use Rattle.keywords.specs.Keys.{key_at}
use Rattle.prints.specs.Texts.{behind_text, line_end}
use Rattle.prints.proofs.Going.{is_full, whole, first_full, second_full, both}
use Rattle.prints.proofs.Whole.{row_line}
use Rattle.prints.proofs.rows.put_row.Goals as goal

pub returns-in_err-n : goal.returns-in_err-n
returns-in_err-n c =
    let key = key_at (table_of c.args.table) c.args.row.number in
    let text = behind_text c.args.row (shape_in c.args.s.now c.shape_for-shape.result) in
    row_line c.args.table c.args.row (rest_in c.args.s.now c.args.rest) (shape_in c.args.s.now c.shape_for-shape.result) c.shape_for-shape.ensures c.args.out.now _ _
    (rw (is_full _ c.from_residual.ensures.0) (first_full (key ++ text) line_end _ _ (first_full key text _ _ (whole _ _ _ _ c.in_err-n.ensures))))

pub returns-in_err-n-2 : goal.returns-in_err-n-2
returns-in_err-n-2 c =
    let key = key_at (table_of c.args.table) c.args.row.number in
    let text = behind_text c.args.row (shape_in c.args.s.now c.shape_for-shape.result) in
    row_line c.args.table c.args.row (rest_in c.args.s.now c.args.rest) (shape_in c.args.s.now c.shape_for-shape.result) c.shape_for-shape.ensures c.args.out.now _ _
    (rw (is_full _ c.from_residual-in_err-n-2.ensures.0) (first_full (key ++ text) line_end _ _ (second_full key text _ _ _ (whole _ _ _ _ c.in_ok-n.ensures) _ c.in_err-n-2.ensures)))

pub returns-in_err-put : goal.returns-in_err-put
returns-in_err-put c =
    let key = key_at (table_of c.args.table) c.args.row.number in
    let text = behind_text c.args.row (shape_in c.args.s.now c.shape_for-shape.result) in
    row_line c.args.table c.args.row (rest_in c.args.s.now c.args.rest) (shape_in c.args.s.now c.shape_for-shape.result) c.shape_for-shape.ensures c.args.out.now _ _
    (rw (is_full _ c.from_residual-in_err-put.ensures.0) (second_full (key ++ text) line_end _ _ _ (both key text _ _ _ (whole _ _ _ _ c.in_ok-n.ensures) _ _ c.in_ok-n-2.ensures) _ (whole _ _ _ _ c.in_err-put.ensures)))

pub returns : goal.returns
returns c =
    let key = key_at (table_of c.args.table) c.args.row.number in
    let text = behind_text c.args.row (shape_in c.args.s.now c.shape_for-shape.result) in
    row_line c.args.table c.args.row (rest_in c.args.s.now c.args.rest) (shape_in c.args.s.now c.shape_for-shape.result) c.shape_for-shape.ensures c.args.out.now _ _
    (both (key ++ text) line_end c.args.out.now _ _ (both key text c.args.out.now _ _ (whole _ _ _ _ c.in_ok-n.ensures) _ _ c.in_ok-n-2.ensures) _ _ (whole _ _ _ _ c.in_ok-put.ensures))
