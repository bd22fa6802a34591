-- A line that enters a point, in a `successive` or in a symbol's `hide`: what it holds, and its record.
use Rattle.std.specs.Prelude.{Some}
use Prim.Native.Nat.{ℕ, ◌<◌}
use mathlib.Core.Bool.{Bool, true, false}
use mathlib.Core.List.{List, [], ◌∷◌}
use mathlib.Core.Path.{◌≡◌, refl, sym, ◌∙◌, ap, subst}
use native.Mathlib.Omega.{arith}
use borrow.Author.Tests.{leb-false}
use lib.Dec.{leb}
use lib.IntN.{ℤ, pos}
use lib.ListN.{length, get_or}
use lib.Seq.{sets}
use Rattle.rules.specs.Base.{all}
use Rattle.rules.specs.RangeClass.{digits}
use Rattle.rules.specs.Lines.{Form}
use Rattle.rules.specs.Values.{Known, Value, nums, nums_of}
use Rattle.rules.specs.Rows.{Rule, rows_at_limit, entry, act}
use Rattle.rules.specs.Figures.{point_table}
use Rattle.rules.specs.RecordTable.{numbers, rule_at, start, put_slot}
use Rattle.rules.proofs.Rows.{row_at}
use Rattle.tables.specs.Tables.{table_of}
use Rattle.entries.specs.Acts.{put_line}
use Rattle.account.specs.declared.Now.{Now}
use Rattle.account.specs.declared.Where.{Where}
use Rattle.account.specs.Placing.{fills}
use Rattle.standing.specs.SoFar.{empty_record}
use Rattle.account.specs.Points.{point_table_of, point_put}
use Rattle.standing.proofs.Openers.{plain_kind}
use Rattle.account.proofs.RowsTaken.{Taken, entry-taken}
use Rattle.standing.proofs.LineOrigins.{is_values, entry-from, entry-nums}
use Rattle.standing.proofs.RowRecords.{row_record}
use Rattle.standing.proofs.LinesKept.{point_record}
use Rattle.standing.proofs.HeadRecords.{line-put}

-- ── what is computed of the table of points ──
pub point-rows : (b : Bool) → table_of (point_table_of b) ≡ point_table b
unfolding table_of
point-rows true = refl
point-rows false = refl

pub plain-points : (b : Bool) → all (λ r. plain_kind r.holds) (point_table b) ≡ true
unfolding point_table
plain-points b = refl

one-row : (b : Bool) → length (point_table b) ≡ 1
unfolding point_table
one-row b = refl

-- a point's record
point_record_lem : (b : Bool) (v : Value) (kind owner volume line : ℕ) → fills (rule_at (point_table b) 0).holds (numbers v) ≡ true
    → sets (put_line (rule_at (point_table b) 0) 0 v empty_record) 0 (pos kind ∷ pos owner ∷ pos volume ∷ pos line ∷ []) ≡ put_slot (rule_at (point_table true) 0) (Some v) (start kind owner volume line)
unfolding point_table
point_record_lem b v kind owner volume line f = row_record (rule_at (point_table b) 0) 3 v kind owner volume line refl (omega arith) refl refl refl f

values-row : (b : Bool) → (is_values (rule_at (point_table b) 0).holds ≡ true) × ((rule_at (point_table b) 0).may ≡ false)
unfolding point_table
values-row b = (refl, refl)

full-row : (b : Bool) (n : ℕ) → get_or (rows_at_limit n (point_table b)) 0 false ≡ leb 100 n
unfolding point_table
full-row b n = refl

-- ── a line ──
-- count: how many points there are already
module _ (b : Bool) (known : Known) (count : ℕ) (f : Form) (j : ℕ) (v : Value) (a : act known (point_table b) (digits 0 0) (rows_at_limit count (point_table b)) f ≡ entry j v) where
  abbrev rows : List Rule
  rows = point_table b

  point-taken : Taken rows (rows_at_limit count rows) j v
  point-taken = entry-taken known rows (digits 0 0) (rows_at_limit count rows) f j v a

  point-first : j ≡ 0
  point-first = omega (arith, point-taken.row, one-row b)

  pub point-few : count < 100
  point-few = leb-false 100 count (sym (full-row b count) ∙ ap (λ (i : ℕ). get_or (rows_at_limit count rows) i false) (sym point-first) ∙ point-taken.free)

  point-nums : v ≡ nums (nums_of v)
  point-nums =
      let g = entry-from known rows (digits 0 0) (rows_at_limit count rows) f j v a in
      let q : rule_at rows 0 ≡ g.rule = ap (rule_at rows) (sym point-first) ∙ row_at g.row _ in
      entry-nums known rows (digits 0 0) (rows_at_limit count rows) f j v g (subst (λ (r : Rule). is_values r.holds ≡ true) q (values-row b).0) (subst (λ (r : Rule). r.may ≡ false) q (values-row b).1)

  -- its numbers put over zeros, and its head before them
  point-made : (kind owner volume line : ℕ)
      → sets (put_line (rule_at rows j) 0 v empty_record) 0 (pos kind ∷ pos owner ∷ pos volume ∷ pos line ∷ []) ≡ put_slot (rule_at (point_table true) 0) (Some (nums (nums_of v))) (start kind owner volume line)
  point-made kind owner volume line =
      ap (λ (i : ℕ). sets (put_line (rule_at rows i) 0 v empty_record) 0 (pos kind ∷ pos owner ∷ pos volume ∷ pos line ∷ [])) point-first
      ∙ point_record_lem b v kind owner volume line (subst (λ (i : ℕ). fills (rule_at rows i).holds (numbers v) ≡ true) point-first point-taken.fill)
      ∙ ap (λ (y : Value). put_slot (rule_at (point_table true) 0) (Some y) (start kind owner volume line)) point-nums

  -- .. as its line makes it, where the lent record is zeros
  pub point-put : (n : Now) (w : Where) (kind owner volume line : ℕ) (rec : List ℤ) → rec ≡ empty_record → n.owner ≡ owner → w.volume ≡ volume → w.line ≡ line
      → point_put n kind (point_table_of b) w j v rec ≡ point_record kind owner volume (record { line = line; values = nums_of v })
  point-put n w kind owner volume line rec None o a i =
      line-put n w kind owner volume line (rule_at (table_of (point_table_of b)) j) v rec None o a i
      ∙ ap (λ (y : List Rule). sets (put_line (rule_at y j) 0 v empty_record) 0 (pos kind ∷ pos owner ∷ pos volume ∷ pos line ∷ [])) (point-rows b)
      ∙ point-made kind owner volume line
