-- Whole lines.
use Rattle.std.specs.Prelude.{Result}
use Prim.Native.Nat.{ℕ}
use mathlib.Core.Path.{◌≡◌, ap, sym, ◌∙◌}
use mathlib.Core.Bool.{Bool, cond, ◌&&◌}
use mathlib.Core.List.{List, [], ◌∷◌, ◌++◌, append_assoc}
use lib.Dec.{eqb, leb}
use lib.ListN.{length}
use Rattle.rules.specs.Base.{all}
use Rattle.rules.specs.RefusalNumbers.{got}
use Rattle.rules.specs.Lines.{Rest, brace, equals, Shape, free_shape_of, shape_of}
use Rattle.rules.specs.Values.{Value, empty, chars, chars_of, byte_in, any_bytes, is_free}
use Rattle.rules.specs.Machine.{layer_value}
use Rattle.rules.specs.Rows.{Rule, shape_for}
use Rattle.rules.specs.FixedForm.{behind, line_of}
use Rattle.rules.proofs.Chains.{never, unless-got}
use Rattle.tables.specs.declared.Row.{Row}
use Rattle.tables.specs.Rows.{rule_of, for_line}
use Rattle.tables.specs.Tables.{table_of}
use Rattle.entries.specs.Shapes.{shape_by}
use Rattle.entries.proofs.ByShape.{free-is}
use Rattle.keywords.specs.Keys.{key_at}
use Rattle.prints.specs.Printing.{Within, Lays}
use Rattle.prints.specs.Texts.{behind_text, line_end, rest_text}
use Rattle.prints.specs.Reading.{PrintsRow, PrintsLayer}
use Rattle.prints.proofs.Going.{printed}
use Rattle.prints.proofs.Shown.{behind-shown}
use Rattle.leaves.specs.declared.NoRoom.{NoRoom}

-- ── a layer's line ──
named : (id : List ℕ) (rest : Rest) (v : Value) → layer_value id (free_shape_of rest) ≡ got v → chars_of v ≡ rest_text rest
named id brace v e = never e
named id (equals at []) v e = let q : empty ≡ v = cc in rw (← q)
named id (equals at (b ∷ c)) v e =
    let (t, g) = unless-got (all (byte_in any_bytes) (b ∷ c) && leb (length (b ∷ c)) 20) 11 (got (chars at (b ∷ c))) v e in
    let q : chars at (b ∷ c) ≡ v = cc in
    rw (← q)

pub layer_line : (id : List ℕ) (rest : Rest) (b e : List ℕ) (r : Result ℕ NoRoom) → Lays (((id ++ 61 ∷ []) ++ rest_text rest) ++ line_end) b e r → Within b e r × PrintsLayer id rest b e r
layer_line id rest b e r p =
    let q = printed (((id ++ 61 ∷ []) ++ rest_text rest) ++ line_end) b e r p in (
      q.0,
      λ v g.
          let line : (id ++ 61 ∷ []) ++ rest_text rest ≡ id ++ 61 ∷ chars_of v = append_assoc id (61 ∷ []) (rest_text rest) ∙ ap (λ (t : List ℕ). id ++ 61 ∷ t) (sym (named id rest v g)) in
          rw line at q.1,
    )

-- ── a row's line ──
shape_same : (row : Row) (r : Rule) (c : Rest) → rule_of row ≡ for_line r → shape_by (eqb row.kind 1) c ≡ shape_for r c
shape_same row r c e = ap (λ (t : Bool). cond t (free_shape_of c) (shape_of c)) (free-is row ∙ ap (λ (q : Rule). is_free q.holds) e)

pub row_line : (table : ℕ) (row : Row) (rest : Rest) (shape : Shape) → shape ≡ shape_by (eqb row.kind 1) rest → (b e : List ℕ) (w : Result ℕ NoRoom)
    → Lays ((key_at (table_of table) row.number ++ behind_text row shape) ++ line_end) b e w → Within b e w × PrintsRow table row rest b e w
row_line table row rest shape s b e w p =
    let key = key_at (table_of table) row.number in
    let q = printed ((key ++ behind_text row shape) ++ line_end) b e w p in (
      q.0,
      λ k r v f h reads.
          let same = ap (behind_text row) (s ∙ shape_same row r rest f) ∙ behind-shown row k r rest v f reads in
          let line : key ++ behind_text row shape ≡ line_of k r v =
          ap (λ (t : List ℕ). key ++ t) same ∙ ap (λ (t : List ℕ). t ++ behind k r.holds v) (sym h) in
          rw line at q.1,
    )
