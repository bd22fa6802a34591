-- The way of a record to the table. A block writes its records on the scratch; a line that makes one complete has it put into the table, at
-- its number's place, and its part of the scratch is zeros again.
use Rattle.std.specs.Prelude.{ℕ, ◌+◌, ◌*◌, ◌-◌, ◌/◌, Bool, true, false, cond, ◌&&◌, ◌||◌, List, eqb, ltb, ℤ, pos, length, replicate}
use Rattle.account.specs.declared.Now.{Now}
use Rattle.account.specs.declared.Step.{Step}
use Rattle.account.specs.declared.Step.TheVariants as S
use Rattle.account.specs.declared.Complete.{Complete}
use Rattle.account.specs.declared.Complete.TheVariants as C
use Rattle.account.specs.Records.{part_at, with_part}
use Rattle.account.specs.Numbering.{block_top, block_file, block_drawing, block_defines, block_symbol, block_figures, block_chain, block_wire}
use Rattle.rules.specs.RecordTable.{width}

-- ── the limit ──
-- "19: record doesn't fit the table", last on its line; a line that opens a block to be skipped takes no record
abbrev pub within_limit : ℕ → Step → Step
within_limit limit (S.Go n) = cond (ltb limit n.records) (S.Stop 19) (S.Go n)
within_limit limit (S.Skip n) = S.Skip n
within_limit limit (S.Stop k) = S.Stop k

-- ── which record is complete ──
-- a record more in the block that stays open is the line's own; a point's of a `successive` stands behind that one's, an element's of a wire
-- before that one's two
abbrev pub line_place : ℕ → ℕ
line_place block = cond (eqb block block_chain) (width + width) (cond (eqb block block_wire) 0 width)

abbrev pub line_completed : Now → Now → Complete
line_completed was is = cond (eqb was.records is.records) C.Nothing (C.Record (line_place was.block))

-- back from a wire its two are, from another figure that is a block the figure's, from a symbol and from DRAWING_FORMAT their own, from FILE_FORMAT its header's
abbrev pub close_completed : Now → Now → Complete
close_completed was is =
    cond (ltb block_figures was.block) (cond (eqb was.block block_wire) C.Wire (C.Record width))
    (cond (eqb was.block block_symbol && eqb is.block block_defines) (C.Record 0)
    (cond (eqb was.block block_drawing && eqb is.block block_top) (C.Record 0)
    (cond (eqb was.block block_file) C.Header C.Nothing)))

abbrev pub completed : Now → Now → Complete
completed was is = cond (eqb was.block is.block) (line_completed was is) (close_completed was is)

-- Its number in the table, from 0. A figure's that is a block is the last one, a `successive`'s stands before its points', a wire's two before
-- its elements'; others were kept when their block opened.
abbrev pub close_number : Now → Now → ℕ → ℕ
close_number was is own =
    cond (eqb was.block block_chain) (is.records - (was.points + 1))
    (cond (eqb was.block block_wire) (is.records - (was.points + 2))
    (cond (ltb block_chain was.block) (is.records - 1)
    own))

abbrev pub number_for : Now → Now → ℕ → ℕ
number_for was is own = cond (eqb was.block is.block) was.records (close_number was is own)

-- ── the table and the scratch ──
-- a table that ends before this number's place is left as it is: the rewriter lends none
abbrev pub put_record : ℕ → List ℤ → List ℤ → List ℤ
put_record number rec t = cond (ltb number (length t / width)) (with_part (width * number) rec t) t

-- the header's record and the volume's in the first volume, the volume's in others
abbrev pub put_header : Bool → ℕ → List ℤ → List ℤ → List ℤ
put_header true number h t = put_record (number + 1) (part_at width h) (put_record number (part_at 0 h) t)
put_header false number h t = put_record number (part_at 0 h) t

-- a wire's two, which stand behind the first record of the scratch
abbrev pub put_wire : ℕ → List ℤ → List ℤ → List ℤ
put_wire number scratch t = put_record (number + 1) (part_at (width + width) scratch) (put_record number (part_at width scratch) t)

abbrev pub put_by : Complete → Bool → ℕ → List ℤ → List ℤ → List ℤ → List ℤ
put_by C.Nothing first number h scratch t = t
put_by (C.Record from) first number h scratch t = put_record number (part_at from scratch) t
put_by C.Header first number h scratch t = put_header first number h t
put_by C.Wire first number h scratch t = put_wire number scratch t

abbrev pub cleared_by : Complete → List ℤ → List ℤ
cleared_by C.Nothing scratch = scratch
cleared_by (C.Record from) scratch = with_part from (replicate width (pos 0)) scratch
cleared_by C.Header scratch = scratch
cleared_by C.Wire scratch = with_part (width + width) (replicate width (pos 0)) (with_part width (replicate width (pos 0)) scratch)

-- ── the number of what opens ──
-- at the top level and in SYMBOL_DEFINE a record that is taken is that of the block that opens: its number is kept till that closes
abbrev pub own_after : Now → ℕ → ℕ
own_after was own = cond (eqb was.block block_top || eqb was.block block_defines) was.records own
