-- A record begun on a scratch of zeros: its head alone, or the numbers of one line and its head.
use Prim.Native.Nat.{ℕ}
use mathlib.Core.List.{List, [], ◌∷◌}
use mathlib.Core.Path.{◌≡◌, ◌∙◌, ap}
use lib.IntN.{ℤ, pos}
use lib.Seq.{sets}
use Rattle.rules.specs.RecordTable.{start}
use Rattle.rules.specs.Values.{Value}
use Rattle.rules.specs.Rows.{Rule}
use Rattle.entries.specs.Acts.{put_line}
use Rattle.account.specs.declared.Now.{Now}
use Rattle.account.specs.declared.Where.{Where}
use Rattle.account.specs.Account.{head_at, record_made}
use Rattle.standing.specs.SoFar.{empty_record}

-- the head alone: ".. unused 0"
pub head-put : (kind owner volume line : ℕ) (w : Where) (rec : List ℤ) → rec ≡ empty_record → w.volume ≡ volume → w.line ≡ line → head_at 0 kind owner w rec ≡ start kind owner volume line
head-put kind owner volume line w rec e a b =
    ap (head_at 0 kind owner w) e ∙ ap (λ (i : ℕ). sets empty_record 0 (pos kind ∷ pos owner ∷ pos i ∷ pos w.line ∷ [])) a
    ∙ ap (λ (j : ℕ). sets empty_record 0 (pos kind ∷ pos owner ∷ pos volume ∷ pos j ∷ [])) b

-- a line's numbers, and the head before them
pub line-put : (n : Now) (w : Where) (kind owner volume line : ℕ) (r : Rule) (v : Value) (rec : List ℤ) → rec ≡ empty_record → n.owner ≡ owner → w.volume ≡ volume → w.line ≡ line
    → record_made kind n w r v rec ≡ sets (put_line r 0 v empty_record) 0 (pos kind ∷ pos owner ∷ pos volume ∷ pos line ∷ [])
line-put n w kind owner volume line r v rec e o a b =
    ap (record_made kind n w r v) e ∙ ap (λ (i : ℕ). head_at 0 kind i w (put_line r 0 v empty_record)) o
    ∙ ap (λ (i : ℕ). sets (put_line r 0 v empty_record) 0 (pos kind ∷ pos owner ∷ pos i ∷ pos w.line ∷ [])) a
    ∙ ap (λ (j : ℕ). sets (put_line r 0 v empty_record) 0 (pos kind ∷ pos owner ∷ pos volume ∷ pos j ∷ [])) b
