use Rattle.entries.proofs.row_lines.row_line.Goals as goal

pub returns : goal.returns
returns c = rw (c.shape_for-shape.ensures, c.is_free.ensures) at c.act_shape.ensures
